-- Rules that make a grammar: each node by its kind.
use Rattle.std.proofs.Common.{◌≡◌, ℕ, zero, suc, ◌<◌, ◌⊎◌, inl, inr, List, [], ◌∷◌, Bool, true, false, not, Option, Some, None, length, map, slice_get, refl, sym, ap, ◌∙◌, subst, arith}
use Rattle.std.specs.Prelude.{⊤, slice_index_or}
use Rattle.std.specs.List.{AllByRecursion, range_with_len}
use Rattle.std.proofs.lemmas.List.{get_or_past}
use Rattle.std.proofs.lemmas.List.FromFn.{get_or-map-range_with_len, length-map-range_with_len}
use Rattle.std.proofs.lemmas.Option.{slice_get_within, slice_get_cases}
use Rattle.std.specs.declared.vec.Vec.{Vec}
use Rattle.std.specs.declared.alloc.Global.{Global}
use Rattle.chumsky_rules.specs.declared.kinds.NodeKind.{NodeKind}
use Rattle.chumsky_rules.specs.declared.kinds.NodeKind.TheVariants.{Leaf, Rule, Then, Choice, Repeated, Map, TryMap}
use Rattle.chumsky_rules.specs.Tables.{Tables}
use Rattle.chumsky_rules.specs.Closed.{IsDefined, RefusesToClose}
use Rattle.chumsky_rules.specs.declared.errors.CloseError.{CloseError}
use Rattle.chumsky_rules.specs.declared.errors.CloseError.TheVariants.{Undefined, ForeignStart, UnknownLeaf}
use Rattle.chumsky_rules.specs.Empty.{IsMarked, IsNode, IsEmptyAlone, IsEmptyWith, MayBeEmpty}
use Rattle.chumsky_rules.specs.Empty.MayBeEmpty.{alone, with_part, with_both}
use Rattle.chumsky_rules.specs.Founded.{HasEmptyRound}
use Rattle.chumsky_rules.specs.LeftCalls.{IsLeftPart, LeadsTo, LeftCalls, ComesTo}
use Rattle.chumsky_rules.specs.LeftCalls.LeadsTo.{there, on}
use Rattle.chumsky_rules.specs.LeftCalls.ComesTo.{by_call, by_calls}
use Rattle.chumsky_recursive.specs.Leaves.{leaf_may_stay}
use Rattle.chumsky_recursive.specs.Moving.{answers_of}
use Rattle.chumsky_recursive.specs.Unfounded.{AreFounded}
use Rattle.chk_run.specs.Rules.{MakesGrammar, loops_nodes, settings_nodes}

-- what holds of each element holds of the one at a place
pub at_place : {X : Type 0} (P : X → Type 0) (xs : List X) → AllByRecursion P xs → (n : ℕ) (x : X) → slice_get xs n ≡ Some x → P x
at_place P [] a n x e = absurd (cc e)
at_place P (y ∷ ys) a zero x e = let same : y ≡ x = cc e in subst P same a.0
at_place P (y ∷ ys) a (suc n) x e = at_place P ys a.1 n x e

-- and of each that is in the list
contained : (P : ℕ → Type 0) (xs : List ℕ) → AllByRecursion P xs → (m k : ℕ) → k < length xs → slice_index_or xs k m ≡ m → P m
contained P [] a m k l e = absurd (omega (arith, l))
contained P (x ∷ xs) a m zero l e = subst P e a.0
contained P (x ∷ xs) a m (suc k) l e = contained P xs a.1 m k (omega (arith, l)) e

module _ (g : Tables) (leaves : List Bool) where
  -- a node takes a token wherever it succeeds
  abbrev Takes : ℕ → Type 0
  Takes n = MayBeEmpty g leaves n → ⊥

  -- so does one of the two parts of a sequence
  abbrev PartTakes : NodeKind → Type 0
  PartTakes (Then a b f) = Takes a ⊎ Takes b
  PartTakes k = ⊤

  pub takes : (n : ℕ) (k : NodeKind) → IsNode g n k → (IsEmptyAlone leaves k → ⊥) → ((m : ℕ) → IsEmptyWith g k m → Takes m) → PartTakes k → Takes n
  takes x k is no_alone no_part one (alone n l i e) = let same : l ≡ k = cc (i, is) in no_alone (subst (λ q. IsEmptyAlone leaves q) same e)
  takes x k is no_alone no_part one (with_part n m l i w e) = let same : l ≡ k = cc (i, is) in no_part m (subst (λ q. IsEmptyWith g q m) same w) e
  takes x k is no_alone no_part one (with_both n a b l i e f) =
      let same : k ≡ Then a b l = cc (i, is) in
      let either : Takes a ⊎ Takes b = subst (λ q. PartTakes q) same one in
      elim either [ inl t ↦ t e | inr t ↦ t f ]

  -- from a node no call of a rule is come to without moving
  abbrev Calls : ℕ → Type 0
  Calls n = (m r : ℕ) → LeadsTo g leaves n m → IsNode g m (Rule r) → ⊥

  abbrev IsNoCall : NodeKind → Type 0
  IsNoCall (Rule r) = ⊥
  IsNoCall k = ⊤

  pub calls_none : (n : ℕ) (k : NodeKind) → IsNode g n k → IsNoCall k → ((p : ℕ) → IsLeftPart g leaves k p → Calls p) → Calls n
  calls_none x k is no_call parts m r (there n) c = let same : k ≡ Rule r = cc (c, is) in subst (λ q. IsNoCall q) same no_call
  calls_none x k is no_call parts m r (on n p q l i w rest) c = let same : l ≡ k = cc (i, is) in parts p (subst (λ y. IsLeftPart g leaves y p) same w) m r rest c

  -- a node is as it should be: no round of a list is empty
  abbrev HasRounds : NodeKind → Type 0
  HasRounds k = HasEmptyRound g leaves k → ⊥

  abbrev BodyCalls : Option ℕ → Type 0
  BodyCalls None = ⊥
  BodyCalls (Some b) = Calls b

  no_left_call : AllByRecursion BodyCalls g.bodies → (r s : ℕ) → LeftCalls g leaves r s → ⊥
  no_left_call a r s l = let b : BodyCalls (Some l.body) = at_place BodyCalls g.bodies a r (Some l.body) l.is_body in b l.call s l.leads l.is_call

  no_cycle : AllByRecursion BodyCalls g.bodies → (r s : ℕ) → ComesTo g leaves r s → ⊥
  no_cycle a x y (by_call r s l) = no_left_call a r s l
  no_cycle a x y (by_calls r t s w l) = no_left_call a t s l

  pub are_founded : AllByRecursion HasRounds g.nodes → AllByRecursion BodyCalls g.bodies → AreFounded g leaves
  are_founded rounds bodies = record {
    rounds = λ n e. at_place HasRounds g.nodes rounds n e.kind e.is e.round;
    cycles = λ r c. no_cycle bodies r r c;
  }

  -- by the kinds of nodes
  leaf_calls : (n m : ℕ) → IsNode g n (Leaf m) → Calls n
  leaf_calls n m is = calls_none n (Leaf m) is tt (λ p w. absurd w)

  map_takes : (n a f : ℕ) → IsNode g n (Map a f) → Takes a → Takes n
  map_takes n a f is t = takes n (Map a f) is (λ e. e) (λ p w. subst (λ q. Takes q) (sym w) t) tt

  map_calls : (n a f : ℕ) → IsNode g n (Map a f) → Calls a → Calls n
  map_calls n a f is c = calls_none n (Map a f) is tt (λ p w. subst (λ q. Calls q) (sym w) c)

  try_calls : (n a f : ℕ) → IsNode g n (TryMap a f) → Calls a → Calls n
  try_calls n a f is c = calls_none n (TryMap a f) is tt (λ p w. subst (λ q. Calls q) (sym w) c)

  then_takes : (n a b f : ℕ) → IsNode g n (Then a b f) → Takes a → Takes n
  then_takes n a b f is t = takes n (Then a b f) is (λ e. e) (λ p w. absurd w) (inl t)

  then_calls : (n a b f : ℕ) → IsNode g n (Then a b f) → Takes a → Calls a → Calls n
  then_calls n a b f is t c = calls_none n (Then a b f) is tt (λ p w. elim w [ inl e ↦ subst (λ q. Calls q) (sym e) c | inr e ↦ absurd (t e.1) ])

  choice_takes : (n : ℕ) (v : Vec ℕ Global) (ns : List ℕ) → IsNode g n (Choice v) → v.items ≡ ns → AllByRecursion Takes ns → Takes n
  choice_takes n v ns is items all = takes n (Choice v) is (λ e. e) (λ p w. contained Takes v.items (subst (λ xs. AllByRecursion Takes xs) (sym items) all) p w.0 w.1 w.2) tt

  choice_calls : (n : ℕ) (v : Vec ℕ Global) (ns : List ℕ) → IsNode g n (Choice v) → v.items ≡ ns → AllByRecursion Calls ns → Calls n
  choice_calls n v ns is items all = calls_none n (Choice v) is tt (λ p w. contained Calls v.items (subst (λ xs. AllByRecursion Calls xs) (sym items) all) p w.0 w.1 w.2)

  repeated_calls : (n a least : ℕ) (most : Option ℕ) → IsNode g n (Repeated a least most) → Calls a → Calls n
  repeated_calls n a least most is c = calls_none n (Repeated a least most) is tt (λ p w. subst (λ q. Calls q) (sym w) c)

  leaf_takes : ((n : ℕ) → IsMarked leaves n → ⊥) → (n m : ℕ) → IsNode g n (Leaf m) → Takes n
  leaf_takes none n m is = takes n (Leaf m) is (none m) (λ p w. absurd w) tt

-- rules that make a grammar can run
pub closes : (g : Tables) (start count : ℕ) (e : CloseError) → MakesGrammar g start count → RefusesToClose g start count e → ⊥
closes g start count (Undefined r) m x =
    let known = m.defined r (slice_get_within g.bodies r None x.holds) in
    absurd (cc (known.1, x.holds))
closes g start count (ForeignStart r) m x = absurd (omega (arith, x.1, m.started))
closes g start count (UnknownLeaf k) m x = absurd (omega (arith, x.2.holds.0, m.known x.2.holds.1 k x.2.holds.2))

module _ {P : Type 0} (moves : P → Bool) (leaves : List P) (all : AllByRecursion (λ p. moves p ≡ true) leaves) where
  abbrev stays : ℕ → Bool
  stays n = leaf_may_stay moves (slice_get leaves n)

  stays-not : (n : ℕ) (p : P) → slice_get leaves n ≡ Some p → stays n ≡ false
  stays-not n p e =
      let found : leaf_may_stay moves (slice_get leaves n) ≡ leaf_may_stay moves (Some p) = ap (leaf_may_stay moves) e in
      found ∙ ap not (at_place (λ q. moves q ≡ true) leaves all n p e)

  -- where all leaves move, none may be empty
  pub none-stays : (n : ℕ) → IsMarked (answers_of stays (length leaves)) n → ⊥
  none-stays n h = elim (slice_get_cases leaves n).1 [
    | inl w ↦
        let v = get_or-map-range_with_len stays 0 (length leaves) n n false w.1 (omega arith) in
        let c : true ≡ false = sym h ∙ v ∙ stays-not n w.0 w.2 in
        absurd (cc c)
    | inr w ↦
        let size = length-map-range_with_len stays 0 (length leaves) in
        let v = get_or_past (map stays (range_with_len 0 (length leaves))) n false (omega (arith, size, w.0)) in
        let c : true ≡ false = sym h ∙ v in
        absurd (cc c)
  ]

abbrev LeafBelow : ℕ → NodeKind → Type 0
LeafBelow count (Leaf n) = n < count
LeafBelow count k = ⊤

module _ (v : Vec ℕ Global) (items : v.items ≡ 0 ∷ 6 ∷ []) where
  abbrev loops_made : Tables
  loops_made = record { nodes = loops_nodes v; bodies = Some 8 ∷ [] }

  loops_founded : (leaves : List Bool) → ((n : ℕ) → IsMarked leaves n → ⊥) → AreFounded loops_made leaves
  loops_founded leaves none =
      let takes_1 = leaf_takes loops_made leaves none 1 1 refl in
      let takes_5 = then_takes loops_made leaves 5 1 4 0 refl takes_1 in
      let takes_6 = map_takes loops_made leaves 6 5 0 refl takes_5 in
      let takes_7 = choice_takes loops_made leaves 7 v (0 ∷ 6 ∷ []) refl items (leaf_takes loops_made leaves none 0 0 refl, (takes_6, tt)) in
      let calls_5 = then_calls loops_made leaves 5 1 4 0 refl takes_1 (leaf_calls loops_made leaves 1 1 refl) in
      let calls_6 = map_calls loops_made leaves 6 5 0 refl calls_5 in
      let calls_7 = choice_calls loops_made leaves 7 v (0 ∷ 6 ∷ []) refl items (leaf_calls loops_made leaves 0 0 refl, (calls_6, tt)) in
      let calls_8 = repeated_calls loops_made leaves 8 7 0 None refl calls_7 in
      are_founded loops_made leaves (λ x. x, (λ x. x, (λ x. x, (λ x. x, (λ x. x, (λ x. x, (λ x. x, (λ x. x, (λ x. takes_7 x.1, tt))))))))) (calls_8, tt)

  loops_defined : IsDefined loops_made
  loops_defined zero l = (8, refl)
  loops_defined (suc r) l = absurd (omega (arith, l))

  loops_make : MakesGrammar loops_made 0 3
  loops_make = record {
    defined = loops_defined;
    known = λ n m e. at_place (LeafBelow 3) (loops_nodes v) (omega arith, (omega arith, (tt, (omega arith, (tt, (tt, (tt, (tt, (tt, tt))))))))) n (Leaf m) e;
    started = omega arith;
    founded = loops_founded;
  }

-- the rules of `loops` make a grammar
pub loops-make : (g : Tables) (v : Vec ℕ Global) → v.items ≡ 0 ∷ 6 ∷ [] → g.nodes ≡ loops_nodes v → g.bodies ≡ Some 8 ∷ [] → MakesGrammar g 0 3
loops-make g v items nodes bodies =
    subst (λ bs. MakesGrammar (record { nodes = g.nodes; bodies = bs }) 0 3) (sym bodies)
    (subst (λ ns. MakesGrammar (record { nodes = ns; bodies = Some 8 ∷ [] }) 0 3) (sym nodes) (loops_make v items))

module _ (v : Vec ℕ Global) (items : v.items ≡ 1 ∷ 2 ∷ 11 ∷ []) where
  abbrev settings_made : Tables
  settings_made = record { nodes = settings_nodes v; bodies = Some 21 ∷ Some 12 ∷ [] }

  settings_founded : (leaves : List Bool) → ((n : ℕ) → IsMarked leaves n → ⊥) → AreFounded settings_made leaves
  settings_founded leaves none =
      let takes_14 = map_takes settings_made leaves 14 13 0 refl (leaf_takes settings_made leaves none 13 0 refl) in
      let takes_20 = then_takes settings_made leaves 20 14 19 0 refl takes_14 in
      let takes_3 = leaf_takes settings_made leaves none 3 4 refl in
      let takes_6 = leaf_takes settings_made leaves none 6 5 refl in
      let calls_14 = map_calls settings_made leaves 14 13 0 refl (leaf_calls settings_made leaves 13 0 refl) in
      let calls_20 = then_calls settings_made leaves 20 14 19 0 refl takes_14 calls_14 in
      let calls_21 = repeated_calls settings_made leaves 21 20 0 None refl calls_20 in
      let calls_1 = try_calls settings_made leaves 1 0 0 refl (leaf_calls settings_made leaves 0 1 refl) in
      let calls_10 = then_calls settings_made leaves 10 3 9 0 refl takes_3 (leaf_calls settings_made leaves 3 4 refl) in
      let calls_11 = map_calls settings_made leaves 11 10 2 refl calls_10 in
      let calls_12 = choice_calls settings_made leaves 12 v (1 ∷ 2 ∷ 11 ∷ []) refl items (calls_1, (leaf_calls settings_made leaves 2 0 refl, (calls_11, tt))) in
      are_founded settings_made leaves (
        λ x. x,
        (
          λ x. x,
          (
            λ x. x,
            (
              λ x. x,
              (
                λ x. x,
                (
                  λ x. x,
                  (
                    λ x. x,
                    (
                      λ x. takes_6 x.2,
                      (
                        λ x. x,
                        (
                          λ x. x,
                          (
                            λ x. x,
                            (
                              λ x. x,
                              (
                                λ x. x,
                                (λ x. x, (λ x. x, (λ x. x, (λ x. x, (λ x. x, (λ x. x, (λ x. x, (λ x. x, (λ x. takes_20 x.1, tt))))))))),
                              ),
                            ),
                          ),
                        ),
                      ),
                    ),
                  ),
                ),
              ),
            ),
          ),
        ),
      ) (calls_21, (calls_12, tt))

  settings_defined : IsDefined settings_made
  settings_defined zero l = (21, refl)
  settings_defined (suc zero) l = (12, refl)
  settings_defined (suc (suc r)) l = absurd (omega (arith, l))

  settings_make : MakesGrammar settings_made 0 7
  settings_make = record {
    defined = settings_defined;
    known = λ n m e. at_place (LeafBelow 7) (settings_nodes v) (
      omega arith,
      (
        tt,
        (
          omega arith,
          (
            omega arith,
            (
              tt,
              (
                tt,
                (
                  omega arith,
                  (
                    tt,
                    (
                      omega arith,
                      (
                        tt,
                        (
                          tt,
                          (
                            tt,
                            (
                              tt,
                              (omega arith, (tt, (omega arith, (tt, (omega arith, (tt, (tt, (tt, (tt, tt))))))))),
                            ),
                          ),
                        ),
                      ),
                    ),
                  ),
                ),
              ),
            ),
          ),
        ),
      ),
    ) n (Leaf m) e;
    started = omega arith;
    founded = settings_founded;
  }

-- the rules of `settings` make a grammar
pub settings-make : (g : Tables) (v : Vec ℕ Global) → v.items ≡ 1 ∷ 2 ∷ 11 ∷ [] → g.nodes ≡ settings_nodes v → g.bodies ≡ Some 21 ∷ Some 12 ∷ [] → MakesGrammar g 0 7
settings-make g v items nodes bodies =
    subst (λ bs. MakesGrammar (record { nodes = g.nodes; bodies = bs }) 0 7) (sym bodies)
    (subst (λ ns. MakesGrammar (record { nodes = ns; bodies = Some 21 ∷ Some 12 ∷ [] }) 0 7) (sym nodes) (settings_make v items))
