-- What a value is read from, and what a round of operators tries, as alternatives of ordered choices.
-- Main words: head_choices, round_choices, ReadsByChoice, TurnsByChoice. Laws: ChoicesLaws.antt. Read first: Expression.antt, and Choice.antt of chumsky_parser.
use Rattle.std.specs.Prelude.{ℕ, zero, suc, Bool, true, false, ◌&&◌, nat_le, nat_lt, Option, Some, List, [], ◌∷◌}
use Rattle.chumsky_input.specs.Outcome.{Meaning, Beginning, Outcome}
use Rattle.chumsky_parser.specs.Chained.{Given}
use Rattle.chumsky_parser.specs.Choice.{FirstFrom, ByMark}
use Rattle.chumsky_pratt.specs.declared.fixity.Fixity.{Fixity}
use Rattle.chumsky_pratt.specs.declared.fixity.Fixity.TheVariants.{Prefix, Postfix, Infix}
use Rattle.chumsky_pratt.specs.Operators.{bound_by}
use Rattle.chumsky_pratt.specs.Expression.{Syntax, Turn, Rests, AfterPrefix, AfterPostfix, AfterInfix, Head, Round, Below}

module _ {Tok Cx St Er W : Type 0} where
  -- one more, where that is so
  abbrev pub put_if : Bool → Meaning Tok Cx St Er W → List (Meaning Tok Cx St Er W) → List (Meaning Tok Cx St Er W)
  put_if true first others = first ∷ others
  put_if false first others = others

  -- the first of these that does not say no, else the last
  abbrev pub FirstBy : {Mk : Type 0} → (St → Mk → St) → Type 0 → Mk → List (Meaning Tok Cx St Er W) → Meaning Tok Cx St Er W
  FirstBy back safe m [] b o = ⊥
  FirstBy back safe m (first ∷ others) b o = FirstFrom back safe m first others b o

module _ {Tok Cx St Mk Er F V : Type 0} (s : Syntax Tok Cx St Mk Er F V) where
  -- what the operators from an index on, so many, put before others
  abbrev pub put_before : {W : Type 0} → (ℕ → Fixity → List (Meaning Tok Cx St Er W) → List (Meaning Tok Cx St Er W)) → ℕ → ℕ → List (Meaning Tok Cx St Er W) → List (Meaning Tok Cx St Er W)
  put_before put zero i others = others
  put_before put (suc count) i others = put i (s.stands i) (put_before put count (suc i) others)

  module _ (operand : ℕ → Meaning Tok Cx St Er V) (start : ℕ) where
    -- a prefix operator, with its operand
    abbrev pub put_prefix : ℕ → Fixity → List (Meaning Tok Cx St Er V) → List (Meaning Tok Cx St Er V)
    put_prefix i (Prefix power) others = AfterPrefix s operand start i power ∷ others
    put_prefix i (Postfix power) others = others
    put_prefix i (Infix left right chains) others = others

    -- what a value is read from: a prefix operator with its operand, or an atom
    abbrev pub head_choices : List (Meaning Tok Cx St Er V)
    head_choices = put_before put_prefix s.number 0 (s.atom ∷ [])

    module _ (least at below : ℕ) (x : Option V) where
      -- a postfix operator that is strong enough
      abbrev pub put_postfix : ℕ → Fixity → List (Meaning Tok Cx St Er (Turn V)) → List (Meaning Tok Cx St Er (Turn V))
      put_postfix i (Prefix power) others = others
      put_postfix i (Postfix power) others = put_if (nat_le least power) (AfterPostfix s operand start at x below i) others
      put_postfix i (Infix left right chains) others = others

      -- an infix operator that is strong enough and under the bound, with its right operand
      abbrev pub put_infix : ℕ → Fixity → List (Meaning Tok Cx St Er (Turn V)) → List (Meaning Tok Cx St Er (Turn V))
      put_infix i (Prefix power) others = others
      put_infix i (Postfix power) others = others
      put_infix i (Infix left right chains) others = put_if (nat_le least left && nat_lt left below) (AfterInfix s operand start at x (bound_by chains below left) i right) others

      -- what a round does: a postfix operator, an infix operator, or nothing
      abbrev pub round_choices : List (Meaning Tok Cx St Er (Turn V))
      round_choices = put_before put_postfix s.number 0 (put_before put_infix s.number 0 (Given (Some Rests) ∷ []))

  -- a value is read as by an ordered choice of these
  abbrev pub ReadsByChoice : Type 0
  ReadsByChoice =
      (n start : ℕ) (b : Beginning Tok Cx St) (o : Outcome V Er St)
      → (Head s (Below s n) start b o → ByMark s.mark s.safe (λ m. FirstBy s.back s.safe m (head_choices (Below s n) start)) b o)
      × (ByMark s.mark s.safe (λ m. FirstBy s.back s.safe m (head_choices (Below s n) start)) b o → Head s (Below s n) start b o)

  -- a round does what an ordered choice of these does
  abbrev pub TurnsByChoice : Type 0
  TurnsByChoice =
      (n start least below : ℕ) (x : Option V) (b : Beginning Tok Cx St) (o : Outcome (Turn V) Er St)
      → (Round s (Below s n) start least below x b o → ByMark s.mark s.safe (λ m. FirstBy s.back s.safe m (round_choices (Below s n) start least b.start below x)) b o)
      × (ByMark s.mark s.safe (λ m. FirstBy s.back s.safe m (round_choices (Below s n) start least b.start below x)) b o → Round s (Below s n) start least below x b o)
