-- The laws of items of which something else is made; they move where the items do.
use Rattle.std.proofs.Common.{Option, Some}
use Rattle.chumsky_input.specs.Outcome.{Meaning, SameValue, EndsAfterStart, Agreeing}
use Rattle.chumsky_parser.specs.Chained.{Chained, Given}
use Rattle.chumsky_parser.specs.Laws.{chained-ends, chained-agrees, given-ends, given-agrees}
use Rattle.chumsky_parser.specs.Items.{Next, More, End, SameNext, ItemsEnd, ItemsAgree}
use Rattle.chumsky_parser.specs.ItemsLaws.{after_step-ends, after_step-agrees}
use Rattle.chumsky_parser.specs.Progress.{Moves, ItemsMove}
use Rattle.chumsky_parser.specs.ProgressLaws.{chained-first, remade-items}
use Rattle.chumsky_parser.specs.Showing.{GivesShown, OnlyAnswers, SameShown, GivenShown}
use Rattle.chumsky_parser.specs.ShowingLaws.{shown-ends, shown-agrees}
use Rattle.chumsky_combinator.specs.Mapped.{GivenBy, SameMapped}
use Rattle.chumsky_combinator.specs.MappedLaws.{given_by-ends, given_by-agrees}
use Rattle.chumsky_combinator.specs.MappedItems.{Remade, MapsItem, MapsItemWith}

module _ {Tok Cx St Er S V W : Type 0} where
  pub remade-ends : (made : Option V → Meaning Tok Cx St Er W) (step : Meaning Tok Cx St Er (Next S V))
      → ((v : Option V) → EndsAfterStart (made v)) → EndsAfterStart step → EndsAfterStart (Remade made step)
  remade-ends made step hm hs =
      chained-ends step _ hs
      (after_step-ends (λ v s. Chained (made v) (λ w. Given (Some (More w s)))) (Given (Some End))
      (λ v s. chained-ends (made v) _ (hm v) (λ w. given-ends (Some (More w s)))) (given-ends (Some End)))

  pub remade-moves : (made : Option V → Meaning Tok Cx St Er W) (step : Meaning Tok Cx St Er (Next S V)) → ((v : Option V) → EndsAfterStart (made v)) → Moves step → Moves (Remade made step)
  remade-moves made step hm h =
      chained-first step _ h
      (after_step-ends (λ v s. Chained (made v) (λ w. Given (Some (More w s)))) (Given (Some End))
      (λ v s. chained-ends (made v) _ (hm v) (λ w. given-ends (Some (More w s)))) (given-ends (Some End)))

  module _ (same : V → V → Type 0) (other : W → W → Type 0) (alike : S → S → Type 0) where
    pub remade-agrees : (made made' : Option V → Meaning Tok Cx St Er W) (step step' : Meaning Tok Cx St Er (Next S V))
        → ((v w : Option V) → SameValue same v w → Agreeing other (made v) (made' w))
        → Agreeing (SameNext same alike) step step'
        → Agreeing (SameNext other alike) (Remade made step) (Remade made' step')
    remade-agrees made made' step step' hm hs =
        chained-agrees step step' _ _ (SameNext same alike) (SameNext other alike) hs
        (after_step-agrees same alike (SameNext other alike) (λ v s. Chained (made v) (λ w. Given (Some (More w s)))) (λ v s. Chained (made' v) (λ w. Given (Some (More w s)))) (Given (Some End)) (Given (Some End))
        (λ v w s t e l. chained-agrees (made v) (made' w) _ _ other (SameNext other alike) (hm v w e) (λ x y d. given-agrees (SameNext other alike) (Some (More x s)) (Some (More y t)) (d, l)))
        (given-agrees (SameNext other alike) (Some End) (Some End) tt))

module _ {Tok Cx St Er S V W : Type 0} (maps : V → W → Type 0) (begins : Meaning Tok Cx St Er S) (gives : S → Meaning Tok Cx St Er (Next S V)) where
  pub maps_item-end : ItemsEnd begins gives → ItemsEnd begins (λ s. MapsItem maps (gives s))
  maps_item-end h = record { begin = h.begin; step = λ s b o m a. remade-ends (GivenBy maps) (gives s) (given_by-ends maps) (h.step s) b o m.remade a }

  pub maps_item-move : ItemsMove begins gives → ItemsMove begins (λ s. MapsItem maps (gives s))
  maps_item-move h = remade-items (λ s k b o m y. remade-moves (GivenBy maps) (gives s) (given_by-ends maps) k b o m.remade y) h

  pub maps_item-agree : (same : V → V → Type 0) (alike : S → S → Type 0) → ItemsAgree same alike begins gives → ItemsAgree (SameMapped same maps) alike begins (λ s. MapsItem maps (gives s))
  maps_item-agree same alike h =
      record {
        begin = h.begin;
        step =
            λ s t l b c o q z m n x y. remade-agrees same (SameMapped same maps) alike (GivenBy maps) (GivenBy maps)
            (gives s) (gives t) (given_by-agrees maps same) (h.step s t l) b c o q z m.remade n.remade x y;
      }

module _ {Tok Cx St Er S V W : Type 0} (maps : GivesShown Tok Cx St V W) (begins : Meaning Tok Cx St Er S) (gives : S → Meaning Tok Cx St Er (Next S V)) where
  pub maps_item_with-end : ItemsEnd begins gives → ItemsEnd begins (λ s. MapsItemWith maps (gives s))
  maps_item_with-end h = record { begin = h.begin; step = λ s b o m a. remade-ends (GivenShown maps b.start) (gives s) (shown-ends maps b.start) (h.step s) b o m.remade a }

  pub maps_item_with-move : ItemsMove begins gives → ItemsMove begins (λ s. MapsItemWith maps (gives s))
  maps_item_with-move h = remade-items (λ s k b o m y. remade-moves (GivenShown maps b.start) (gives s) (shown-ends maps b.start) k b o m.remade y) h

  pub maps_item_with-agree : OnlyAnswers maps → (same : V → V → Type 0) (alike : S → S → Type 0)
      → ItemsAgree same alike begins gives
      → ItemsAgree (SameShown maps same) alike begins (λ s. MapsItemWith maps (gives s))
  maps_item_with-agree one same alike h =
      record {
        begin = h.begin;
        step = λ s t l b c o q z m n x y.
            remade-agrees same (SameShown maps same) alike (GivenShown maps b.start) (GivenShown maps c.start)
            (gives s) (gives t)
            (shown-agrees maps one same (SameShown maps same) (λ w w' k. k) b.start c.start z.start)
            (h.step s t l) b c o q z m.remade n.remade x y;
      }
