-- An expression in which no operator is found.
-- Main words: NoneIn, IsAtomAlone. Laws: AloneLaws.antt. Read first: Expression.antt.
use Rattle.std.specs.Prelude.{◌≡◌, ℕ, ◌<◌, Option, List, ◌++◌}
use Rattle.chumsky_input.specs.Layout.{Layout}
use Rattle.chumsky_input.specs.Outcome.{Event, Beginning, Outcome, Yes, IsAnswer}
use Rattle.chumsky_pratt.specs.Expression.{Syntax, Expression}

module _ {Tok Cx St Mk Er F V : Type 0} (s : Syntax Tok Cx St Mk Er F V) where
  -- no operator is read anywhere in these tokens
  abbrev pub NoneIn : Layout Tok → Type 0
  NoneIn ts = (i : ℕ) (c : Beginning Tok Cx St) (p : Outcome F Er St) (v : Option F) → i < s.number → c.tokens ≡ ts → s.reads i c p → p.verdict ≡ Yes v → ⊥

  -- the answer of an atom there, in the state that the operators tried before it leave, with its failures between theirs and
  -- those of the operators tried after it
  pub record IsAtomAlone (b : Beginning Tok Cx St) (o : Outcome V Er St) : Type 0 where
    pub state : St
    pub read : Outcome V Er St
    pub meant : s.atom (record b { state = state }) read
    pub verdict : o.verdict ≡ read.verdict
    pub end : o.end ≡ read.end
    pub emitted : o.emitted ≡ read.emitted
    pub before : List (Event Er)
    pub after : List (Event Er)
    pub events : o.events ≡ (before ++ read.events) ++ after

  -- where no operator is found, the answer of an expression is that of its atom
  abbrev pub AloneIsAtom : ℕ → Type 0
  AloneIsAtom least = (b : Beginning Tok Cx St) (o : Outcome V Er St) → NoneIn b.tokens → Expression s least b o → IsAnswer o.verdict → IsAtomAlone b o
