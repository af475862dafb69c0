-- The items of an output.
use Rattle.std.specs.Prelude.{true, Option, Some, None, ◌⊎◌}
use Rattle.chumsky_input.specs.Outcome.{Meaning, Beginning, Outcome}
use Rattle.chumsky_parser.specs.Chained.{Chained, Given, Asked}
use Rattle.chumsky_parser.specs.Failure.{wanting}
use Rattle.chumsky_parser.specs.Items.{Next, More, End, AfterStep}

module _ {Tok Cx St Er S A : Type 0} where
  -- an item that was made is given where one is wanted
  abbrev pub Offers : Option A → S → Meaning Tok Cx St Er (Next S A)
  Offers (Some x) s b = Given (Some (More (wanting b.wanted x) s)) b
  Offers None s b = λ o. ⊥

  -- a step that makes its item, whether one is wanted or not
  abbrev pub MakesItem : Meaning Tok Cx St Er (Next S A) → Meaning Tok Cx St Er (Next S A)
  MakesItem step = Chained (Asked true step) (AfterStep Offers (Given (Some End)))

module _ {Tok Cx St Er O J : Type 0} where
  -- an iterator is made of the output
  abbrev pub IteratorOf : (O → J → Type 0) → Option O → Meaning Tok Cx St Er J
  IteratorOf makes (Some o) b q = (j : J) × makes o j × Given (Some j) b q
  IteratorOf makes None b q = ⊥

  -- the part, and then an iterator over its output
  abbrev pub BeginsOver : (O → J → Type 0) → Meaning Tok Cx St Er O → Meaning Tok Cx St Er J
  BeginsOver makes part = Chained part (IteratorOf makes)

module _ {Tok Cx St Er J A : Type 0} (nexts : J → Option A → J → Type 0) where
  -- what the iterator gives next, or its end
  abbrev pub NextOf : J → Meaning Tok Cx St Er (Next J A)
  NextOf j b o = ((x : A) × (k : J) × nexts j (Some x) k × Given (Some (More (Some x) k)) b o) ⊎ ((k : J) × nexts j None k × Given (Some End) b o)

  pub record GivesNext (j : J) (b : Beginning Tok Cx St) (o : Outcome (Next J A) Er St) : Type 0 where
    pub step : MakesItem (NextOf j) b o
