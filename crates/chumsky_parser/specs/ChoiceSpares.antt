-- The first of several parsers that does not say no is never refused for memory where none of them is.
-- Main laws: first_of-spares, each-spares. Read first: Memory.antt, MemoryLaws.antt.
use Rattle.std.proofs.Common.{ℕ, zero, suc, List, [], ◌∷◌, map, inl, inr, ap, arith}
use Rattle.std.specs.Prelude.{⊤}
use Rattle.std.specs.List.{All}
use Rattle.chumsky_input.specs.Outcome.{Meaning, Outcome}
use Rattle.chumsky_parser.specs.Choice.{Stands, FirstOf}
use Rattle.chumsky_parser.specs.Memory.{NeverOutOfMemory}

module _ {Tok Cx St Er V : Type 0} where
  -- none of a list is
  abbrev pub NoneOutOfMemory : List (Meaning Tok Cx St Er V) → Type 0
  NoneOutOfMemory [] = ⊤
  NoneOutOfMemory (m ∷ ms) = NeverOutOfMemory m × NoneOutOfMemory ms

  module _ {X : Type 0} (meaning : X → Meaning Tok Cx St Er V) where
    pub each-spares : (xs : List X) → All (λ x. NeverOutOfMemory (meaning x)) xs → NoneOutOfMemory (map meaning xs)
    each-spares [] h = tt
    each-spares (x ∷ xs) h = (h 0 x (omega arith), each-spares xs (λ k y l. h (suc k) y (omega (arith, l))))

module _ {Tok Cx St Mk Er V : Type 0} (back : St → Mk → St) (safe : Type 0) (still : safe) (mark : Mk) where
  stands-spares : (k : ℕ) (first : Meaning Tok Cx St Er V) (others : List (Meaning Tok Cx St Er V))
      → NeverOutOfMemory first → NoneOutOfMemory others → NeverOutOfMemory (Stands back safe mark k first others)
  stands-spares zero first others h hs b o m = h b o m.0
  stands-spares (suc k) first [] h hs b o m = absurd m
  stands-spares (suc k) first (next ∷ others) h hs b o m =
      elim m.3 [
        | inl r ↦ absurd (r.0 still)
        | inr t ↦ rw (ap (λ (x : Outcome V Er St). x.verdict) t.2) (stands-spares k next others hs.0 hs.1 (record b { state = back m.0.state mark }) t.0 t.1)
      ]

module _ {Tok Cx St Mk Er V : Type 0} (mark : St → Mk) (back : St → Mk → St) (safe : Type 0) (still : safe) where
  -- the first alternative that does not say no, where a mark and going back take no memory
  pub first_of-spares : (first : Meaning Tok Cx St Er V) (others : List (Meaning Tok Cx St Er V))
      → NeverOutOfMemory first → NoneOutOfMemory others → NeverOutOfMemory (FirstOf mark back safe first others)
  first_of-spares first [] h hs b o m = h b o m.cases
  first_of-spares first (next ∷ others) h hs b o m =
      elim m.cases [ inl r ↦ absurd (r.0 still) | inr t ↦ stands-spares back safe still (mark b.state) t.k first (next ∷ others) h hs b o t.stands ]
