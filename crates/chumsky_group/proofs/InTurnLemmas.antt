-- What is left of the parts of a list in turn.
use Rattle.std.proofs.Common.{
  ◌≡◌,
  ℕ,
  ◌+◌,
  ◌<◌,
  ◌≤◌,
  true,
  false,
  Option,
  Some,
  None,
  List,
  [],
  ◌∷◌,
  ◌++◌,
  map,
  length,
  get_or,
  drop,
  Result,
  Ok,
  Err,
  refl,
  sym,
  ◌∙◌,
  ap,
  subst,
  append_assoc,
  append-nil,
  drop_of_length-le,
}
use Rattle.std.proofs.lemmas.List.{drop_more}
use Rattle.arrayvec.specs.ArrayVec.{ArrayVec}
use Rattle.chumsky_input.specs.declared.stop.Fault.{Fault}
use Rattle.chumsky_input.specs.Held.{Held}
use Rattle.chumsky_input.specs.Outcome.{Meaning}
use Rattle.chumsky_input.specs.Run.{Ran, with_value, without_value}
use Rattle.chumsky_parser.specs.Chained.{Given}
use Rattle.chumsky_parser.proofs.ChainedLemmas.{ran-weaker, failed, chained, ran-given, last_check}
use Rattle.chumsky_group.specs.InTurn.{NoPart, InTurn}

-- the answer, with these items before its own
abbrev pub preceded : {V : Type 0} → List V → Result (ArrayVec V) Fault → Result (ArrayVec V) Fault
preceded vs (Ok ws) = Ok (record { items = vs ++ ws.items })
preceded vs (Err f) = Err f

preceded_twice : {V : Type 0} (items : List V) (v : V) (r : Result (ArrayVec V) Fault) → preceded items (preceded (v ∷ []) r) ≡ preceded (items ++ v ∷ []) r
preceded_twice items v (Ok vs) = rw append_assoc refl
preceded_twice items v (Err f) = refl

cut : {X : Type 0} (xs : List X) (i : ℕ) (x : X) → i < length xs → x ≡ get_or xs i x → x ∷ drop (i + 1) xs ≡ drop i xs
cut xs i x below here = ap (λ y. y ∷ drop (i + 1) xs) here ∙ sym (drop_more xs i x below)

module _ {X Tok Cx St Er V : Type 0} (merged : Er → Er → Er) (safe : Type 0) (meaning : X → Meaning Tok Cx St Er V) (parts : List X) where
  -- whatever the parts from i on answer from now, all parts answer from the start, with these items before
  pub record EmitsFrom (i : ℕ) (items : List V) (old now : Held Tok Cx St Er) : Type 0 where
    pub on : (new : Held Tok Cx St Er) (r : Result (ArrayVec V) Fault)
        → Ran merged safe (InTurn (map meaning (drop i parts))) true now new (with_value r)
        → Ran merged safe (InTurn (map meaning parts)) true old new (with_value (preceded items r))

  pub record ChecksFrom (i : ℕ) (old now : Held Tok Cx St Er) : Type 0 where
    pub on : (new : Held Tok Cx St Er) (r : Result (Unit {0}) Fault)
        → Ran merged safe (InTurn (map meaning (drop i parts))) false now new (without_value r)
        → Ran merged safe (InTurn (map meaning parts)) false old new (without_value r)

module _ {Tok Cx St Er V : Type 0} {merged : Er → Er → Er} {safe : Type 0} {part : Meaning Tok Cx St Er V} {now mid new : Held Tok Cx St Er} (left : List (Meaning Tok Cx St Er V)) where
  further : (v : V) (r : Result (ArrayVec V) Fault) → Ran merged safe part true now mid (Ok (Some v)) → Ran merged safe (InTurn left) true mid new (with_value r)
      → Ran merged safe (InTurn (part ∷ left)) true now new (with_value (preceded (v ∷ []) r))
  further v (Ok vs) h k = chained h refl (chained k refl ran-given)
  further v (Err f) h k = chained h refl (failed k refl refl)

  further_check : (r : Result (Unit {0}) Fault) → Ran merged safe part false now mid (Ok None) → Ran merged safe (InTurn left) false mid new (without_value r)
      → Ran merged safe (InTurn (part ∷ left)) false now new (without_value r)
  further_check r h k = chained h refl (last_check r k (λ b o e. e))

module _ {Tok Cx St Er V : Type 0} {merged : Er → Er → Er} {safe : Type 0} {old : Held Tok Cx St Er} (ms : List (Meaning Tok Cx St Er V)) where
  nothing_yet : (new : Held Tok Cx St Er) (r : Result (ArrayVec V) Fault)
      → Ran merged safe (InTurn ms) true old new (with_value r)
      → Ran merged safe (InTurn ms) true old new (with_value (preceded [] r))
  nothing_yet new (Ok vs) h = h
  nothing_yet new (Err f) h = h

module _ {X Tok Cx St Er V : Type 0} {merged : Er → Er → Er} {safe : Type 0} {meaning : X → Meaning Tok Cx St Er V} {parts : List X} {old : Held Tok Cx St Er} where
  pub emits-start : EmitsFrom merged safe meaning parts 0 [] old old
  emits-start = record { on = nothing_yet (map meaning parts) }

  module _ {i : ℕ} {now : Held Tok Cx St Er} (past : length parts ≤ i) where
    pub emits-end : {items : List V} → EmitsFrom merged safe meaning parts i items old now → Ran merged safe (InTurn (map meaning parts)) true old now (Ok (Some (record { items = items })))
    emits-end {items} e =
        let k =
        subst (λ xs. Ran merged safe (InTurn (map meaning xs)) true now now (Ok (Some (record { items = [] }))))
        (sym (drop_of_length-le parts past))
        (ran-weaker merged safe (Given (Some (record { items = [] }))) NoPart true now now
        (Ok (Some (record { items = [] }))) (λ o h. h) ran-given)
        in
        rw append-nil at (e.on now (Ok (record { items = [] })) k)

    pub checks-end : ChecksFrom merged safe meaning parts i old now → Ran merged safe (InTurn (map meaning parts)) false old now (Ok None)
    checks-end e =
        let k =
        subst (λ xs. Ran merged safe (InTurn (map meaning xs)) false now now (Ok None))
        (sym (drop_of_length-le parts past))
        (ran-weaker merged safe (Given None) NoPart false now now (Ok None) (λ o h. h) ran-given) in
        e.on now (Ok tt) k

  module _ {i : ℕ} {x : X} {now : Held Tok Cx St Er} (below : i < length parts) (here : x ≡ get_or parts i x) where
    pub emits-next : {items : List V} {v : V} {mid : Held Tok Cx St Er} {a : Result (Option V) Fault}
        → EmitsFrom merged safe meaning parts i items old now → Ran merged safe (meaning x) true now mid a
        → a ≡ Ok (Some v)
        → EmitsFrom merged safe meaning parts (i + 1) (items ++ v ∷ []) old mid
    emits-next {items} {v} {mid} e h is =
        let first = rw is at h in
        record {
          on = λ new r l.
              let k =
              subst
              (λ xs. Ran merged safe (InTurn (map meaning xs)) true now new (with_value (preceded (v ∷ []) r)))
              (cut parts i x below here) (further (map meaning (drop (i + 1) parts)) v r first l) in
              rw (preceded_twice items v r) at (e.on new (preceded (v ∷ []) r) k);
        }

    pub emits-failed : {items : List V} {f : Fault} {new : Held Tok Cx St Er} {a : Result (Option V) Fault}
        {b : Result (Option (ArrayVec V)) Fault}
        → EmitsFrom merged safe meaning parts i items old now → Ran merged safe (meaning x) true now new a → a ≡ Err f
        → b ≡ Err f
        → Ran merged safe (InTurn (map meaning parts)) true old new b
    emits-failed {items} {f} {new} e h is also =
        let k = subst (λ xs. Ran merged safe (InTurn (map meaning xs)) true now new (Err f)) (cut parts i x below here) (failed h is refl) in
        rw also (e.on new (Err f) k)

    pub checks-next : {mid : Held Tok Cx St Er} {a : Result (Option V) Fault} → ChecksFrom merged safe meaning parts i old now → Ran merged safe (meaning x) false now mid a → a ≡ Ok None
        → ChecksFrom merged safe meaning parts (i + 1) old mid
    checks-next {mid} e h is =
        let first = rw is at h in
        record {
          on = λ new r l.
              e.on new r
              (subst (λ xs. Ran merged safe (InTurn (map meaning xs)) false now new (without_value r))
              (cut parts i x below here) (further_check (map meaning (drop (i + 1) parts)) r first l));
        }

    pub checks-failed : {f : Fault} {new : Held Tok Cx St Er} {a : Result (Option V) Fault} {b : Result (Option (ArrayVec V)) Fault}
        → ChecksFrom merged safe meaning parts i old now → Ran merged safe (meaning x) false now new a → a ≡ Err f
        → b ≡ Err f
        → Ran merged safe (InTurn (map meaning parts)) false old new b
    checks-failed {f} {new} e h is also =
        let k = subst (λ xs. Ran merged safe (InTurn (map meaning xs)) false now new (Err f)) (cut parts i x below here) (failed h is refl) in
        rw also (e.on new (Err f) k)
