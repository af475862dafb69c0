-- A choice moves where it succeeds, since each alternative does.
-- Main laws: all-move, among-moves. Read first: Progress.antt of the parsers.
use Rattle.std.proofs.Common.{◌≡◌, ℕ, zero, suc, ◌<◌, Bool, true, ◌&&◌, List, [], ◌∷◌, inl, inr, ap, subst, arith, map}
use Rattle.std.specs.Prelude.{⊤}
use Rattle.std.specs.List.{list_all}
use Rattle.chumsky_input.specs.declared.error.Error as error_trait
use Rattle.chumsky_input.specs.declared.inspector.Inspector as inspector_trait
use Rattle.chumsky_input.specs.declared.input.Input as input_trait
use Rattle.chumsky_input.specs.Outcome.{Meaning, Outcome}
use Rattle.chumsky_parser.specs.Choice.{Stands, FirstOf, OneOrFirst}
use Rattle.chumsky_choice.specs.Among.{NoneOrFirst, FirstAmong}
use Rattle.chumsky_parser.specs.Progress.{IsYes}
use Rattle.chumsky_parser.specs.Progress.{Moves}
use Rattle.chumsky_parser.specs.ProgressLaws.{both-true, misses-no}

module _ {Tok Cx St Er V : Type 0} where
  -- each of these moves
  abbrev pub EachMoves : List (Meaning Tok Cx St Er V) → Type 0
  EachMoves [] = ⊤
  EachMoves (m ∷ ms) = Moves m × EachMoves ms

  -- where this is true, each of some alternatives moves
  pub record AllMove (sure : Bool) (ms : List (Meaning Tok Cx St Er V)) : Type 0 where
    pub each : sure ≡ true → EachMoves ms

  pub last-moves : {a : Bool} {m : Meaning Tok Cx St Er V} → (a ≡ true → Moves m) → AllMove a (m ∷ [])
  last-moves h = record { each = λ e. (h e, tt) }

  pub and-moves : {a s : Bool} {m : Meaning Tok Cx St Er V} {ms : List (Meaning Tok Cx St Er V)} → (a ≡ true → Moves m) → AllMove s ms → AllMove (a && s) (m ∷ ms)
  and-moves {a} {s} h k = record { each = λ e. (let t = both-true a s e in (h t.0, k.each t.1)) }

module _ {Tok Cx St Mk Er V : Type 0} (mark : St → Mk) (back : St → Mk → St) (safe : Type 0) where
  stands-moves : (k : ℕ) (m : Mk) (first : Meaning Tok Cx St Er V) (others : List (Meaning Tok Cx St Er V)) → Moves first → EachMoves others → Moves (Stands back safe m k first others)
  stands-moves zero m first others h hs b o s y = h b o s.0 y
  stands-moves (suc k) m first [] h hs b o s y = absurd s
  stands-moves (suc k) m first (next ∷ others) h hs b o s y =
      elim s.3 [
        | inl r ↦ absurd (subst IsYes r.1 y)
        | inr q ↦
            let verdict : o.verdict ≡ q.0.verdict = ap (λ (x : Outcome V Er St). x.verdict) q.2 in
            let end : o.end ≡ q.0.end = ap (λ (x : Outcome V Er St). x.end) q.2 in
            let after : b.start < q.0.end = stands-moves k m next others hs.0 hs.1 (record b { state = back s.0.state m }) q.0 q.1 (subst IsYes verdict y) in
            omega arith
      ]

  one_or_first-moves : (first : Meaning Tok Cx St Er V) (others : List (Meaning Tok Cx St Er V)) → Moves first → EachMoves others → Moves (OneOrFirst mark back safe first others)
  one_or_first-moves first [] h hs b o m y = h b o m y
  one_or_first-moves first (next ∷ others) h hs b o m y = elim m [ inl r ↦ absurd (subst IsYes r.1 y) | inr t ↦ stands-moves t.k (mark b.state) first (next ∷ others) h hs b o t.stands y ]

  pub first_of-moves : (first : Meaning Tok Cx St Er V) (others : List (Meaning Tok Cx St Er V)) → Moves first → EachMoves others → Moves (FirstOf mark back safe first others)
  first_of-moves first others h hs b o m y = one_or_first-moves first others h hs b o m.cases y

  pub all-move : {a : Bool} {m : Meaning Tok Cx St Er V} {ms : List (Meaning Tok Cx St Er V)} → AllMove a (m ∷ ms) → a ≡ true → Moves (FirstOf mark back safe m ms)
  all-move {m} {ms} h e = let k = h.each e in first_of-moves m ms k.0 k.1

module _ {I Tok Sp Cu Er St Mk Cx V : Type 0} (source : input_trait.Ghosts I Cu Tok Sp) (errors : error_trait.Ghosts Er I Tok Sp) (states : inspector_trait.Ghosts St I Mk Tok Sp) where
  module _ {X : Type 0} (meaning : X → Meaning Tok Cx states.Seen errors.Seen V) (test : X → Bool) (h : (x : X) → test x ≡ true → Moves (meaning x)) where
    each-moves : (xs : List X) → list_all test xs ≡ true → EachMoves (map meaning xs)
    each-moves [] e = tt
    each-moves (x ∷ xs) e = let t = both-true (test x) (list_all test xs) e in (h x t.0, each-moves xs t.1)

    none_or_first-moves : (xs : List X) → list_all test xs ≡ true → Moves (NoneOrFirst source errors states (map meaning xs))
    none_or_first-moves [] e b o m y = absurd (misses-no m y)
    none_or_first-moves (x ∷ xs) e b o m y =
        let t = both-true (test x) (list_all test xs) e in
        first_of-moves states.mark states.back states.takes_no_memory (meaning x) (map meaning xs) (h x t.0) (each-moves xs t.1) b o m y

    -- the first of a list whose members all move
    pub among-moves : (xs : List X) → list_all test xs ≡ true → Moves (FirstAmong source errors states (map meaning xs))
    among-moves xs e b o m y = none_or_first-moves xs e b o m.cases y
