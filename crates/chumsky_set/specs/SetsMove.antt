-- A set moves where one of its parts does: a round that ends where it began takes none, and the last pass runs what is not taken.
-- Main laws: part_and-moves, set-moves; of the parts of a list set_each-moves, set_stored-moves.
-- Read first: AnyOrder.antt, and Progress.antt of the parsers.
use Rattle.std.proofs.Common.{◌≡◌, ◌∙◌, ℕ, ◌<◌, ◌≤◌, Bool, true, false, ◌||◌, Option, Some, None, option_map, List, [], ◌∷◌, ◌⊎◌, inl, inr, refl, sym, ap, subst, arith, map}
use Rattle.std.specs.List.{list_any}
use Rattle.std.specs.Prelude.{IfSome}
use Rattle.chumsky_input.specs.Outcome.{Meaning, Beginning, Outcome, Verdict, Yes, No, Halt, Clash, IsAnswer, EndsAfterStart}
use Rattle.chumsky_parser.specs.Chained.{Chained, Given, Asked, Follows, both, from}
use Rattle.chumsky_parser.specs.Choice.{ElseFrom, OrElse}
use Rattle.chumsky_parser.specs.Failure.{wanting}
use Rattle.chumsky_parser.specs.Laws.{chained-ends, given-ends}
use Rattle.chumsky_parser.specs.Progress.{IsYes, Moves}
use Rattle.chumsky_parser.specs.ProgressLaws.{never, either-true, asked-moves, chained-first, chained-second, sequence-moves}
use Rattle.chumsky_set.specs.AnyOrder.{Slot, Row, Past, Moving, Missing, Offered, no_part, part_and, TookNone, TookSome, Rounds, AnyOrder, Turns, with_first, each_part}
use Rattle.chumsky_set.specs.AnyOrderLaws.{RowEnds, no_part-ends, part_and-ends, offered-ends, missing-ends, took_none-ends, took_some-ends, rounds-ends}
use Rattle.chumsky_set.specs.Lists.{FormedAs, SetEach, SetStored, each_stored, only}
use Rattle.chumsky_set.specs.ListsLaws.{turns-ends, each_part-ends, each_stored-ends, formed-ends}
use Rattle.chumsky_set.specs.Tuples.{SetOf}

-- each yes ends past its start, or what it gives is so
abbrev pub MovesOr : {Tok Cx St Er V : Type 0} → (Option V → Type 0) → Meaning Tok Cx St Er V → Type 0
MovesOr {Tok} {Cx} {St} {Er} {V} P m =
    (b : Beginning Tok Cx St) (o : Outcome V Er St) (v : Option V) → m b o → o.verdict ≡ Yes v → (b.start < o.end) ⊎ P v

-- the value, where there is one, is this
abbrev pub IsThe : {V : Type 0} → V → Option V → Type 0
IsThe x v = IfSome v (λ u. u ≡ x)

module _ {V Er : Type 0} where
  said_yes : {x : Verdict V Er} {v : Option V} → x ≡ Yes v → IsYes x
  said_yes e = subst IsYes (sym e) tt

  said_answer : {x : Verdict V Er} {v : Option V} → x ≡ Yes v → IsAnswer x
  said_answer e = subst IsAnswer (sym e) tt

module _ {Tok Cx St Er V : Type 0} where
  given_or : (P : Option V → Type 0) (v : Option V) → P v → MovesOr P (Given {Tok = Tok} {Cx = Cx} {St = St} {Er = Er} v)
  given_or P v p b o w m e =
      let one : o.verdict ≡ Yes v = ap (λ (x : Outcome V Er St). x.verdict) m in
      let same : v ≡ w = cc (one, e) in
      inr (subst P same p)

  moves_or : (P : Option V → Type 0) (m : Meaning Tok Cx St Er V) → Moves m → MovesOr P m
  moves_or P m h b o v k e = inl (h b o k (said_yes e))

  -- where nothing is so, each yes ends past its start
  or_never : (m : Meaning Tok Cx St Er V) → MovesOr (λ _. ⊥) m → Moves m
  or_never m h b o k y = by_verdict o.verdict refl y
    where
      by_verdict : (x : Verdict V Er) → o.verdict ≡ x → IsYes x → b.start < o.end
      by_verdict (Yes v) e z = elim (h b o v k e) [ inl l ↦ l | inr n ↦ absurd n ]
      by_verdict No e z = absurd z
      by_verdict (Halt s) e z = absurd z
      by_verdict (Clash c) e z = absurd z

module _ {Tok Cx St Er V W : Type 0} (part : Meaning Tok Cx St Er V) (next : Option V → Meaning Tok Cx St Er W) (P : Option V → Type 0) (Q : Option W → Type 0)
    (h : MovesOr P part) (ends : EndsAfterStart part) (rest : (v : Option V) → EndsAfterStart (next v)) (k : (v : Option V) → P v → MovesOr Q (next v)) where
  follows_or : (b : Beginning Tok Cx St) (o : Outcome W Er St) (w : Option W) (p : Outcome V Er St) (x : Verdict V Er)
      → part b p → p.verdict ≡ x → Follows x next b p o → o.verdict ≡ Yes w → (b.start < o.end) ⊎ Q w
  follows_or b o w p (Yes v) m e f a =
      let said : f.0.verdict ≡ Yes w = sym (ap (λ (x : Outcome W Er St). x.verdict) f.2) ∙ a in
      let end : o.end ≡ f.0.end = ap (λ (x : Outcome W Er St). x.end) f.2 in
      let before : b.start ≤ p.end = ends b p m (said_answer e) in
      let behind : p.end ≤ f.0.end = rest v (from b p) f.0 f.1 (said_answer said) in
      elim (h b p v m e) [
        | inl l ↦ inl (omega (arith, l, behind, end))
        | inr i ↦ elim (k v i (from b p) f.0 w f.1 said) [ inl l ↦ inl (omega (arith, before, l, end)) | inr j ↦ inr j ]
      ]
  follows_or b o w p No m e f a = absurd (subst IsYes (ap (λ (x : Outcome W Er St). x.verdict) f) (said_yes a))
  follows_or b o w p (Halt s) m e f a = absurd (subst IsYes (ap (λ (x : Outcome W Er St). x.verdict) f) (said_yes a))
  follows_or b o w p (Clash c) m e f a = absurd (subst IsYes (ap (λ (x : Outcome W Er St). x.verdict) f) (said_yes a))

  -- one part after another moves, or what both give is so
  chained_or : MovesOr Q (Chained part next)
  chained_or b o w m a = follows_or b o w m.first m.first.verdict m.meant refl m.follows a

module _ {Tok Cx St Mk Er V : Type 0} (mark : St → Mk) (back : St → Mk → St) (safe : Type 0) (first second : Meaning Tok Cx St Er V) (P : Option V → Type 0)
    (h : MovesOr P first) (k : MovesOr P second) where
  else_or : (x : Verdict V Er) (b : Beginning Tok Cx St) (p o : Outcome V Er St) (v : Option V)
      → first b p → ElseFrom back safe (mark b.state) x second b p o → o.verdict ≡ Yes v → (b.start < o.end) ⊎ P v
  else_or (Yes u) b p o v m e a = h b o v (subst (first b) (sym e) m) a
  else_or No b p o v m (inl r) a = absurd (subst IsYes r.1 (said_yes a))
  else_or No b p o v m (inr q) a =
      let said : q.0.verdict ≡ Yes v = sym (ap (λ (x : Outcome V Er St). x.verdict) q.2) ∙ a in
      let end : o.end ≡ q.0.end = ap (λ (x : Outcome V Er St). x.end) q.2 in
      elim (k (record b { state = back p.state (mark b.state) }) q.0 v q.1 said) [ inl l ↦ inl (omega (arith, l, end)) | inr i ↦ inr i ]
  else_or (Halt s) b p o v m e a = h b o v (subst (first b) (sym e) m) a
  else_or (Clash c) b p o v m e a = h b o v (subst (first b) (sym e) m) a

  or_else_or : MovesOr P (OrElse mark back safe first second)
  or_else_or b o v m a =
      elim m.cases [
        | inl r ↦ absurd (subst IsYes r.1 (said_yes a))
        | inr t ↦ else_or t.attempt.verdict b t.attempt o v t.meant t.then_else a
      ]

module _ {Tok Cx St Er V : Type 0} where
  past_moves : (place : ℕ) (v : Option V) (b : Beginning Tok Cx St) (o : Outcome (Slot V) Er St) → Past place v b o → IsYes o.verdict → place < o.end
  past_moves place v b o (inl m) y = omega (arith, m.0, ap (λ (x : Outcome (Slot V) Er St). x.end) m.1)
  past_moves place v b o (inr m) y = absurd (subst IsYes (ap (λ (x : Outcome (Slot V) Er St). x.verdict) m.1) y)

  moving_by : (b : Beginning Tok Cx St) (p : Outcome V Er St) (o : Outcome (Slot V) Er St) (x : Verdict V Er)
      → Follows x (Past b.start) b p o → IsYes o.verdict → b.start < o.end
  moving_by b p o (Yes v) f y =
      let said : IsYes f.0.verdict = subst IsYes (ap (λ (x : Outcome (Slot V) Er St). x.verdict) f.2) y in
      let past : b.start < f.0.end = past_moves b.start v (from b p) f.0 f.1 said in
      omega (arith, past, ap (λ (x : Outcome (Slot V) Er St). x.end) f.2)
  moving_by b p o No f y = absurd (subst IsYes (ap (λ (x : Outcome (Slot V) Er St). x.verdict) f) y)
  moving_by b p o (Halt s) f y = absurd (subst IsYes (ap (λ (x : Outcome (Slot V) Er St). x.verdict) f) y)
  moving_by b p o (Clash c) f y = absurd (subst IsYes (ap (λ (x : Outcome (Slot V) Er St). x.verdict) f) y)

  moving_moves : (part : Meaning Tok Cx St Er V) → Moves (Moving part)
  moving_moves part b o m y = moving_by b m.run.first o m.run.first.verdict m.run.follows y

  -- a part that is offered moves, or is not taken
  offered_or : {Mk : Type 0} (mark : St → Mk) (back : St → Mk → St) (safe : Type 0) (part : Meaning Tok Cx St Er V)
      → MovesOr (IsThe {V = Slot V} None) (Offered mark back safe part None)
  offered_or mark back safe part =
      let P : Option (Slot V) → Type 0 = IsThe {V = Slot V} None in
      or_else_or mark back safe (Moving part) (Given (Some None)) P (moves_or P (Moving part) (moving_moves part)) (given_or P (Some None) refl)

module _ {V W : Type 0} where
  both_the : (x : V) (y : W) (v : Option V) (w : Option W) → IsThe x v → IsThe y w → IsThe (x, y) (both v w)
  both_the x y (Some v) (Some w) i j = rw (i, j) refl
  both_the x y (Some v) None i j = tt
  both_the x y None w i j = tt

first_the : {V : Type 0} (x : V) (xs : List V) (v : Option V) (vs : Option (List V)) → IsThe x v → IsThe xs vs → IsThe (x ∷ xs) (with_first v vs)
first_the x xs (Some v) (Some vs) i j = rw (i, j) refl
first_the x xs (Some v) None i j = tt
first_the x xs None vs i j = tt

-- of a row of which none is taken: a round that ends where it began takes none; and where this is true, the last pass moves
pub record RowMoves {Tok Cx St Er T V : Type 0} (sure : Bool) (row : Row Tok Cx St Er T V) (none : T) : Type 0 where
  pub ends : RowEnds row
  pub takes : MovesOr (IsThe none) (row.pass none)
  pub moves : sure ≡ true → Moves (row.last none)

module _ {Tok Cx St Er T V : Type 0} {sure : Bool} (row : Row Tok Cx St Er T V) (none : T) (h : RowMoves sure row none) (e : sure ≡ true) where
  none_taken : (v : Option T) → IsThe none v → MovesOr (λ _. ⊥) (TookNone row none v)
  none_taken (Some u) i b o w m a = inl (h.moves e b o (subst (λ t. row.last t b o) i m.1) (said_yes a))
  none_taken None i b o w m a = absurd m

  some_taken : (u : T) (next : Meaning Tok Cx St Er V) (v : Option T) → IsThe none v → MovesOr (λ _. ⊥) (TookSome row none u next v)
  some_taken u next (Some t) i b o w m a = absurd (omega (arith, m.1, ap (λ (x : T). row.left x) i))
  some_taken u next None i b o w m a = absurd m

  rounds_move : (us : List T) → Moves (Rounds row us none)
  rounds_move [] =
      let ends : (v : Option T) → EndsAfterStart (TookNone row none v) = took_none-ends row h.ends none in
      or_never _ (chained_or (row.pass none) (TookNone row none) (IsThe none) (λ _. ⊥) h.takes (h.ends.pass none) ends none_taken)
  rounds_move (u ∷ us) =
      let next : Meaning Tok Cx St Er V = Rounds row us u in
      let ends : (v : Option T) → EndsAfterStart (TookSome row none u next v) = took_some-ends row none u next (rounds-ends row h.ends us u) in
      or_never _ (chained_or (row.pass none) (TookSome row none u next) (IsThe none) (λ _. ⊥) h.takes (h.ends.pass none) ends (some_taken u next))

  any_order-moves : Moves (AnyOrder row none)
  any_order-moves b o m y = rounds_move m.rounds b o m.run y

-- a set of the parts of a row
pub set-moves : {Tok Cx St Er T V W : Type 0} {sure : Bool} {row : Row Tok Cx St Er T V} {none : T} (formed : V → W)
    → RowMoves sure row none → sure ≡ true → Moves (SetOf row none formed)
set-moves {row = row} {none = none} formed h e =
    chained-first (AnyOrder row none) (λ v. Given (option_map formed v)) (any_order-moves row none h e) (λ v. given-ends (option_map formed v))

no_part-moves : {Tok Cx St Er : Type 0} → RowMoves false (no_part {Tok = Tok} {Cx = Cx} {St = St} {Er = Er}) tt
no_part-moves = record { ends = no_part-ends; takes = given_or (IsThe tt) (Some tt) refl; moves = never }

module _ {Tok Cx St Mk Er V : Type 0} {mark : St → Mk} {back : St → Mk → St} {safe : Type 0} {a : Bool} {part : Meaning Tok Cx St Er V} where
  -- one part before others, where it moves or the others do
  pub part_and-moves : {T W : Type 0} {c : Bool} {others : Row Tok Cx St Er T W} {none : T}
      → EndsAfterStart part → (a ≡ true → Moves part) → RowMoves c others none → RowMoves (a || c) (part_and mark back safe part others) (None, none)
  part_and-moves {T} {c = c} {others = others} {none = none} ep h k =
      let P : Option (Slot V × T) → Type 0 = IsThe (None, none) in
      record {
        ends = part_and-ends mark back safe part others ep k.ends;
        takes =
            chained_or (Offered mark back safe part None) _ (IsThe None) P (offered_or mark back safe part)
            (offered-ends mark back safe part None ep) (λ s. chained-ends (others.pass none) _ (k.ends.pass none) (λ t. given-ends (both s t)))
            (λ s i. chained_or (others.pass none) _ (IsThe none) P k.takes (k.ends.pass none) (λ t. given-ends (both s t))
            (λ t j. given_or P (both s t) (both_the None none s t i j)));
        moves = sequence-moves part (others.last none) a c ep (k.ends.last none) h k.moves;
      }

  -- one part by itself
  pub one_part-moves : EndsAfterStart part → (a ≡ true → Moves part) → RowMoves a (part_and mark back safe part no_part) (None, tt)
  one_part-moves ep h =
      let r : RowMoves (a || false) (part_and mark back safe part no_part) (None, tt) = part_and-moves ep h no_part-moves in
      record { ends = r.ends; takes = r.takes; moves = λ e. r.moves (rw e refl) }

module _ {X Tok Cx St Mk Er V : Type 0} (mark : St → Mk) (back : St → Mk → St) (safe : Type 0) (meaning : X → Meaning Tok Cx St Er V)
    (test : X → Bool) (ends : (x : X) → EndsAfterStart (meaning x)) (h : (x : X) → test x ≡ true → Moves (meaning x)) where
  -- nothing is taken of these
  abbrev untaken : List X → List (Slot V)
  untaken xs = map (λ _. None) xs

  abbrev offers : List X → Meaning Tok Cx St Er (List (Slot V))
  offers xs = Turns (λ x. Offered mark back safe (meaning x)) xs (untaken xs) (Some [])

  turns_take : (xs : List X) → MovesOr (IsThe (untaken xs)) (offers xs)
  turns_take [] b o v m a = given_or (IsThe (untaken [])) (Some []) refl b o v m a
  turns_take (x ∷ xs) b o v m a =
      let P : Option (List (Slot V)) → Type 0 = IsThe (None ∷ untaken xs) in
      let rest : EndsAfterStart (offers xs) =
      turns-ends (λ y. Offered mark back safe (meaning y)) (λ y s. offered-ends mark back safe (meaning y) s (ends y)) xs (untaken xs) (Some []) in
      chained_or (Offered mark back safe (meaning x) None) _ (IsThe None) P (offered_or mark back safe (meaning x))
      (offered-ends mark back safe (meaning x) None (ends x)) (λ s. chained-ends (offers xs) _ rest (λ ss. given-ends (with_first s ss)))
      (λ s i. chained_or (offers xs) _ (IsThe (untaken xs)) P (turns_take xs) rest (λ ss. given-ends (with_first s ss))
      (λ ss j. given_or P (with_first s ss) (first_the None (untaken xs) s ss i j)))
      b o v m a

  abbrev completes : List X → Option (List V) → Meaning Tok Cx St Er (List V)
  completes xs empty = Turns (λ x. Missing (meaning x)) xs (untaken xs) empty

  turns_move : (xs : List X) (empty : Option (List V)) → list_any test xs ≡ true → Moves (completes xs empty)
  turns_move [] empty e b o m y = absurd (cc)
  turns_move (x ∷ xs) empty e b o m y =
      let rest : EndsAfterStart (completes xs empty) =
      turns-ends (λ z. Missing (meaning z)) (λ z s. missing-ends (meaning z) s (ends z)) xs (untaken xs) empty in
      elim (either-true (test x) (list_any test xs) e) [
        | inl t ↦ chained-first (meaning x) _ (h x t) (λ v. chained-ends (completes xs empty) _ rest (λ vs. given-ends (with_first v vs))) b o m y
        | inr t ↦ chained-second (meaning x) _ (ends x)
            (λ v. chained-first (completes xs empty) _ (turns_move xs empty t) (λ vs. given-ends (with_first v vs))) b o m y
      ]

  each_part-moves : (xs : List X) → RowMoves (list_any test xs) (each_part mark back safe meaning xs) (untaken xs)
  each_part-moves xs =
      record {
        ends = each_part-ends mark back safe meaning ends xs;
        takes = turns_take xs;
        moves = λ e b o m y. elim m [ inl r ↦ absurd (subst IsYes r.1 y) | inr k ↦ turns_move xs (wanting b.wanted []) e b o k y ];
      }

  each_stored-moves : (xs : List X) → RowMoves (list_any test xs) (each_stored mark back safe meaning xs) (untaken xs)
  each_stored-moves xs =
      record {
        ends = each_stored-ends mark back safe meaning ends xs;
        takes = λ b o v m a. turns_take xs (record b { wanted = true }) o v m.run a;
        moves =
            λ e b o m y. chained-first (Asked true (completes xs (Some []))) (λ v. Given (only b.wanted v))
            (asked-moves true _ (turns_move xs (Some []) e)) (λ v. given-ends (only b.wanted v)) b o m y;
      }

  module _ {W : Type 0} (items : W → List V) where
    -- a set of the parts of a list, and one of those of an array, where one of them moves
    pub set_each-moves : (xs : List X) → list_any test xs ≡ true → Moves (SetEach mark back safe meaning items xs)
    set_each-moves xs e b o m y =
        elim m.cases [
          | inl r ↦ absurd (subst IsYes r.1 y)
          | inr k ↦ chained-first (AnyOrder (each_part mark back safe meaning xs) (untaken xs)) (FormedAs items)
              (any_order-moves _ (untaken xs) (each_part-moves xs) e) (formed-ends items) b o k y
        ]

    pub set_stored-moves : (xs : List X) → list_any test xs ≡ true → Moves (SetStored mark back safe meaning items xs)
    set_stored-moves xs e =
        chained-first (AnyOrder (each_stored mark back safe meaning xs) (untaken xs)) (FormedAs items)
        (any_order-moves _ (untaken xs) (each_stored-moves xs) e) (formed-ends items)
