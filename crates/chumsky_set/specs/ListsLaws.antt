-- The laws of rows of parts of one kind.
use Rattle.std.proofs.Common.{Bool, true, false, ◌≡◌, ◌<◌, suc, ◌+◌, length, Option, Some, None, List, [], ◌∷◌, map, refl, subst, arith, inl, inr}
use Rattle.std.specs.List.{All}
use Rattle.chumsky_parser.specs.Chained.{Chained, Given, Asked}
use Rattle.chumsky_input.specs.Outcome.{Meaning, SameValue, IsAnswer, EndsAfterStart, Agreeing}
use Rattle.chumsky_parser.specs.Failure.{wanting}
use Rattle.chumsky_parser.specs.FailureLaws.{wanting-same}
use Rattle.chumsky_parser.specs.Laws.{chained-ends, chained-agrees, given-ends, given-agrees, asked-ends}
use Rattle.chumsky_set.specs.AnyOrder.{all_still, each_part, with_first, Rounds, AnyOrder, WithinRounds, Turns, Slot, Missing, Offered}
use Rattle.chumsky_set.specs.AnyOrderLaws.{SameSlot, RowEnds, RowAgrees, offered-ends, offered-agrees, missing-ends, missing-agrees, still-same, any_order-ends, any_order-agrees, any_order-within}
use Rattle.chumsky_set.specs.Lists.{Each, FormedAs, SetEach, WithinEach, ForItsValue, SetStored, each_stored, only}

module _ {X Y : Type 0} (same : X → Y → Y → Type 0) where
  with_first-same : (x : X) (xs : List X) (y z : Option Y) (v w : Option (List Y)) → SameValue (same x) y z
      → SameValue (Each same xs) v w → SameValue (Each same (x ∷ xs)) (with_first y v) (with_first z w)
  with_first-same x xs (Some y) (Some z) (Some v) (Some w) e d = (e, d)
  with_first-same x xs (Some y) (Some z) (Some v) None e d = tt
  with_first-same x xs (Some y) (Some z) None w e d = tt
  with_first-same x xs (Some y) None (Some v) w e d = tt
  with_first-same x xs (Some y) None None w e d = tt
  with_first-same x xs None z v w e d = tt

module _ {X Tok Cx St Er V Y : Type 0} (turn : X → Slot V → Meaning Tok Cx St Er Y) where
  pub turns-ends : ((x : X) (s : Slot V) → EndsAfterStart (turn x s)) → (parts : List X) (slots : List (Slot V)) (empty : Option (List Y)) → EndsAfterStart (Turns turn parts slots empty)
  turns-ends h [] slots empty b o m a = given-ends empty b o m a
  turns-ends h (x ∷ xs) [] empty b o m a = absurd m
  turns-ends h (x ∷ xs) (s ∷ ss) empty b o m a =
      chained-ends (turn x s) (λ y. Chained (Turns turn xs ss empty) (λ ys. Given (with_first y ys))) (h x s)
      (λ y. chained-ends (Turns turn xs ss empty) (λ ys. Given (with_first y ys)) (turns-ends h xs ss empty) (λ ys. given-ends (with_first y ys)))
      b o m a

  module _ (steady : X → Type 0) (sv : X → V → V → Type 0) (sy : X → Y → Y → Type 0) (h : (x : X) (s t : Slot V) → steady x → SameSlot (sv x) s t → Agreeing (sy x) (turn x s) (turn x t)) where
    turns-agree : (parts : List X) (ss ts : List (Slot V)) (v w : Option (List Y)) → All steady parts → Each (λ x. SameSlot (sv x)) parts ss ts → SameValue (Each sy []) v w
        → Agreeing (Each sy parts) (Turns turn parts ss v) (Turns turn parts ts w)
    turns-agree [] ss ts v w all e d b c o q alike m n a z = given-agrees (Each sy []) v w d b c o q alike m n a z
    turns-agree (x ∷ xs) [] ts v w all e d b c o q alike m n a z = absurd m
    turns-agree (x ∷ xs) (s ∷ ss) [] v w all e d b c o q alike m n a z = absurd n
    turns-agree (x ∷ xs) (s ∷ ss) (t ∷ ts) v w all e d b c o q alike m n a z =
        chained-agrees (turn x s) (turn x t) (λ y. Chained (Turns turn xs ss v) (λ ys. Given (with_first y ys)))
        (λ y. Chained (Turns turn xs ts w) (λ ys. Given (with_first y ys))) (sy x) (Each sy (x ∷ xs))
        (h x s t (all 0 x (omega arith)) e.0)
        (λ y k f. chained-agrees (Turns turn xs ss v) (Turns turn xs ts w) (λ ys. Given (with_first y ys)) (λ ys. Given (with_first k ys)) (Each sy xs) (Each sy (x ∷ xs))
        (turns-agree xs ss ts v w (λ i u l. all (suc i) u (omega (arith, l))) e.1 d)
        (λ ys zs g. given-agrees (Each sy (x ∷ xs)) (with_first y ys) (with_first k zs) (with_first-same sy x xs y k ys zs f g)))
        b c o q alike m n a z

module _ {X V : Type 0} (sv : X → V → V → Type 0) where
  all_still-same : (xs : List X) (ss ts : List (Slot V)) → Each (λ x. SameSlot (sv x)) xs ss ts → all_still ss ≡ all_still ts
  all_still-same [] [] [] e = refl
  all_still-same [] [] (t ∷ ts) e = absurd e
  all_still-same [] (s ∷ ss) ts e = absurd e
  all_still-same (x ∷ xs) [] ts e = absurd e
  all_still-same (x ∷ xs) (s ∷ ss) [] e = absurd e
  all_still-same (x ∷ xs) (s ∷ ss) (t ∷ ts) e = let a = still-same (sv x) s t e.0 in let b = all_still-same xs ss ts e.1 in cc (a, b)

  pub none-same : (xs : List X) → Each (λ x. SameSlot (sv x)) xs (map (λ _. None) xs) (map (λ _. None) xs)
  none-same [] = tt
  none-same (x ∷ xs) = (tt, none-same xs)

module _ {X Tok Cx St Mk Er V : Type 0} (mark : St → Mk) (back : St → Mk → St) (safe : Type 0) (meaning : X → Meaning Tok Cx St Er V) where
  pub each_part-ends : ((x : X) → EndsAfterStart (meaning x)) → (parts : List X) → RowEnds (each_part mark back safe meaning parts)
  each_part-ends h parts =
      record {
        pass = λ t. turns-ends (λ x. Offered mark back safe (meaning x)) (λ x s. offered-ends mark back safe (meaning x) s (h x)) parts t (Some []);
        last =
            λ t b o m a. elim m [
              | inl r ↦ absurd (subst IsAnswer r.1 a)
              | inr k ↦ turns-ends (λ x. Missing (meaning x)) (λ x s. missing-ends (meaning x) s (h x)) parts t
                  (wanting b.wanted []) b o k a
            ];
      }

  pub each_part-agrees : (steady : X → Type 0) (same : X → V → V → Type 0) → ((x : X) → steady x → Agreeing (same x) (meaning x) (meaning x)) → (parts : List X) → All steady parts
      → RowAgrees (each_part mark back safe meaning parts) (Each (λ x. SameSlot (same x)) parts) (Each same parts)
  each_part-agrees steady same h parts all =
      record {
        pass =
            λ t u e. turns-agree (λ x. Offered mark back safe (meaning x)) steady same (λ x. SameSlot (same x))
            (λ x s t k e. offered-agrees mark back safe (meaning x) (same x) s t (h x k) e) parts t u (Some [])
            (Some []) all e tt;
        last = λ t u e b c o q alike m n a z. elim m [
          | inl r ↦ absurd (subst IsAnswer r.1 a)
          | inr k ↦ elim n [
            | inl r ↦ absurd (subst IsAnswer r.1 z)
            | inr l ↦ turns-agree (λ x. Missing (meaning x)) steady same same
                (λ x s t k e. missing-agrees (meaning x) (same x) s t (h x k) e) parts t u (wanting b.wanted [])
                (wanting c.wanted []) all e (wanting-same (Each same []) b.wanted c.wanted [] tt) b c o q alike k l a
                z
          ]
        ];
        left = λ t u e. all_still-same same parts t u e;
      }

module _ {Tok Cx St Er V W : Type 0} (items : W → List V) where
  pub formed-ends : (v : Option (List V)) → EndsAfterStart (FormedAs {Tok = Tok} {Cx = Cx} {St = St} {Er = Er} items v)
  formed-ends (Some v) b o m a = given-ends (Some m.0) b o m.2 a
  formed-ends None b o m a = given-ends None b o m a

  formed-agree : (same : List V → List V → Type 0) (v w : Option (List V)) → SameValue same v w
      → Agreeing (λ x y. same (items x) (items y)) (FormedAs {Tok = Tok} {Cx = Cx} {St = St} {Er = Er} items v) (FormedAs items w)
  formed-agree same (Some v) (Some w) e b c o q alike m n a z = given-agrees (λ x y. same (items x) (items y)) (Some m.0) (Some n.0) (rw (m.1, n.1) e) b c o q alike m.2 n.2 a z
  formed-agree same (Some v) None e b c o q alike m n a z = given-agrees (λ x y. same (items x) (items y)) (Some m.0) None tt b c o q alike m.2 n a z
  formed-agree same None (Some w) e b c o q alike m n a z = given-agrees (λ x y. same (items x) (items y)) None (Some n.0) tt b c o q alike m n.2 a z
  formed-agree same None None e b c o q alike m n a z = given-agrees (λ x y. same (items x) (items y)) None None tt b c o q alike m n a z

module _ {X Tok Cx St Mk Er V W : Type 0} (mark : St → Mk) (back : St → Mk → St) (safe : Type 0) (meaning : X → Meaning Tok Cx St Er V) (items : W → List V) where
  pub set_each-ends : (parts : List X) → ((x : X) → EndsAfterStart (meaning x)) → EndsAfterStart (SetEach mark back safe meaning items parts)
  set_each-ends parts h b o m a =
      elim m.cases [
        | inl r ↦ absurd (subst IsAnswer r.1 a)
        | inr k ↦ chained-ends (AnyOrder (each_part mark back safe meaning parts) (map (λ _. None) parts)) (FormedAs items)
            (any_order-ends (each_part mark back safe meaning parts) (map (λ _. None) parts) (each_part-ends mark back safe meaning h parts)) (formed-ends items) b o k a
      ]

  pub set_each-agrees : (parts : List X) (steady : X → Type 0) (same : X → V → V → Type 0) → ((x : X) → steady x → Agreeing (same x) (meaning x) (meaning x)) → All steady parts
      → Agreeing (λ v w. Each same parts (items v) (items w)) (SetEach mark back safe meaning items parts) (SetEach mark back safe meaning items parts)
  set_each-agrees parts steady same h all b c o q alike m n a z =
      elim m.cases [
        | inl r ↦ absurd (subst IsAnswer r.1 a)
        | inr k ↦ elim n.cases [
          | inl r ↦ absurd (subst IsAnswer r.1 z)
          | inr l ↦ chained-agrees (AnyOrder (each_part mark back safe meaning parts) (map (λ _. None) parts))
              (AnyOrder (each_part mark back safe meaning parts) (map (λ _. None) parts)) (FormedAs items)
              (FormedAs items)
              (Each same parts) (λ v w. Each same parts (items v) (items w))
              (any_order-agrees (each_part mark back safe meaning parts) (Each (λ x. SameSlot (same x)) parts)
              (Each same parts) (each_part-agrees mark back safe meaning steady same h parts all)
              (map (λ _. None) parts) (none-same same parts))
              (formed-agree items (Each same parts)) b c o q alike k l a z
        ]
      ]

fresh_left : {X : Type 0} (V : Type 0) (xs : List X) → all_still {V = V} (map (λ _. None) xs) ≡ length xs
fresh_left V [] = refl
fresh_left V (x ∷ xs) = let left = fresh_left V xs in omega (arith, left)

module _ {X Tok Cx St Mk Er V W : Type 0} (mark : St → Mk) (back : St → Mk → St) (safe : Type 0) (meaning : X → Meaning Tok Cx St Er V) (items : W → List V) where
  -- a set takes no more rounds than it has parts, and one
  pub set_each-rounds : (parts : List X) → WithinEach mark back safe meaning items parts (length parts + 1) (SetEach mark back safe meaning items parts)
  set_each-rounds parts b o m =
      let row = each_part mark back safe meaning parts in
      let none : List (Slot V) = map (λ _. None) parts in
      let left : all_still none ≡ length parts = fresh_left _ parts in
      let count : suc (all_still none) ≡ length parts + 1 = omega (arith, left) in
      elim m.cases [
        | inl r ↦ inl r
        | inr k ↦ inr
            (subst
            (λ n. (rounds : List (List (Slot V))) × (length rounds < n) × Chained (Rounds row rounds none) (FormedAs items) b o)
            count (any_order-within row none (FormedAs items) b o k))
      ]

  pub set_stored-rounds : (parts : List X)
      → WithinRounds (each_stored mark back safe meaning parts) (length parts + 1) (map (λ _. None) parts)
      (FormedAs items) (SetStored mark back safe meaning items parts)
  set_stored-rounds parts =
      let row = each_stored mark back safe meaning parts in
      let none : List (Slot V) = map (λ _. None) parts in
      let left : all_still none ≡ length parts = fresh_left _ parts in
      let count : suc (all_still none) ≡ length parts + 1 = omega (arith, left) in
      subst (λ n. WithinRounds row n none (FormedAs items) (SetStored mark back safe meaning items parts)) count (any_order-within row none (FormedAs items))

module _ {V : Type 0} (same : V → V → Type 0) where
  only-same : (x y : Bool) (v w : Option V) → SameValue same v w → SameValue same (only x v) (only y w)
  only-same true true v w e = e
  only-same true false (Some v) w e = tt
  only-same true false None w e = tt
  only-same false y v w e = tt

module _ {Tok Cx St Er V : Type 0} where
  asked-agree : (part part' : Meaning Tok Cx St Er V) (same : V → V → Type 0) → Agreeing same part part' → Agreeing same (Asked true part) (Asked true part')
  asked-agree part part' same h b c o q alike m n a z =
      h (record b { wanted = true }) (record c { wanted = true }) o q (record { tokens = alike.tokens; start = alike.start; context = alike.context; state = alike.state }) m.run n.run a z

  for_its_value-ends : (part : Meaning Tok Cx St Er V) → EndsAfterStart part → EndsAfterStart (ForItsValue part)
  for_its_value-ends part h b o m a = chained-ends (Asked true part) (λ v. Given (only b.wanted v)) (asked-ends true part h) (λ v. given-ends (only b.wanted v)) b o m a

  for_its_value-agree : (part part' : Meaning Tok Cx St Er V) (same : V → V → Type 0) → Agreeing same part part' → Agreeing same (ForItsValue part) (ForItsValue part')
  for_its_value-agree part part' same h b c o q alike m n a z =
      chained-agrees (Asked true part) (Asked true part') (λ v. Given (only b.wanted v)) (λ v. Given (only c.wanted v)) same same (asked-agree part part' same h)
      (λ v w e. given-agrees same (only b.wanted v) (only c.wanted w) (only-same same b.wanted c.wanted v w e)) b c o q alike m n a z

module _ {X Tok Cx St Mk Er V : Type 0} (mark : St → Mk) (back : St → Mk → St) (safe : Type 0) (meaning : X → Meaning Tok Cx St Er V) where
  pub each_stored-ends : ((x : X) → EndsAfterStart (meaning x)) → (parts : List X) → RowEnds (each_stored mark back safe meaning parts)
  each_stored-ends h parts =
      let r = each_part-ends mark back safe meaning h parts in
      record {
        pass = λ t. asked-ends true _ (r.pass t);
        last = λ t. for_its_value-ends _ (turns-ends (λ x. Missing (meaning x)) (λ x s. missing-ends (meaning x) s (h x)) parts t (Some []));
      }

  each_stored-agrees : (steady : X → Type 0) (same : X → V → V → Type 0) → ((x : X) → steady x → Agreeing (same x) (meaning x) (meaning x)) → (parts : List X) → All steady parts
      → RowAgrees (each_stored mark back safe meaning parts) (Each (λ x. SameSlot (same x)) parts) (Each same parts)
  each_stored-agrees steady same h parts all =
      let r = each_part-agrees mark back safe meaning steady same h parts all in
      record {
        pass = λ t u e. asked-agree _ _ (Each (λ x. SameSlot (same x)) parts) (r.pass t u e);
        last =
            λ t u e. for_its_value-agree _ _ (Each same parts)
            (turns-agree (λ x. Missing (meaning x)) steady same same
            (λ x s t k e. missing-agrees (meaning x) (same x) s t (h x k) e) parts t u (Some []) (Some []) all
            e tt);
        left = λ t u e. r.left t u e;
      }

module _ {X Tok Cx St Mk Er V W : Type 0} (mark : St → Mk) (back : St → Mk → St) (safe : Type 0) (meaning : X → Meaning Tok Cx St Er V) (items : W → List V) where
  pub set_stored-ends : (parts : List X) → ((x : X) → EndsAfterStart (meaning x)) → EndsAfterStart (SetStored mark back safe meaning items parts)
  set_stored-ends parts h =
      chained-ends (AnyOrder (each_stored mark back safe meaning parts) (map (λ _. None) parts)) (FormedAs items)
      (any_order-ends (each_stored mark back safe meaning parts) (map (λ _. None) parts) (each_stored-ends mark back safe meaning h parts)) (formed-ends items)

  pub set_stored-agrees : (parts : List X) (steady : X → Type 0) (same : X → V → V → Type 0) → ((x : X) → steady x → Agreeing (same x) (meaning x) (meaning x)) → All steady parts
      → Agreeing (λ v w. Each same parts (items v) (items w)) (SetStored mark back safe meaning items parts) (SetStored mark back safe meaning items parts)
  set_stored-agrees parts steady same h all =
      let row = each_stored mark back safe meaning parts in
      chained-agrees (AnyOrder row (map (λ _. None) parts)) (AnyOrder row (map (λ _. None) parts)) (FormedAs items) (FormedAs items)
      (Each same parts) (λ v w. Each same parts (items v) (items w))
      (any_order-agrees row (Each (λ x. SameSlot (same x)) parts) (Each same parts) (each_stored-agrees mark back safe meaning steady same h parts all) (map (λ _. None) parts) (none-same same parts))
      (formed-agree items (Each same parts))
