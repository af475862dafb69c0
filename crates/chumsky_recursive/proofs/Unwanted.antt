-- Where no value is wanted a node gives none, so nothing is left to make of it.
use Rattle.std.specs.Prelude.{is_some, ⊤, not}
use Rattle.std.proofs.Common.{◌≡◌, ◌∙◌, ℕ, zero, suc, List, [], ◌∷◌, map, Option, Some, None, option_map, Result, Ok, Err, Bool, true, false, slice_get, refl, sym, ap, subst, inl, inr}
use Rattle.chumsky_input.specs.declared.error.Error as error_trait
use Rattle.chumsky_input.specs.declared.inspector.Inspector as inspector_trait
use Rattle.chumsky_input.specs.declared.input.Input as input_trait
use Rattle.chumsky_input.specs.declared.stop.Fault.{Fault}
use Rattle.chumsky_input.specs.declared.stop.Stop.TheVariants.{TooDeep, CountTooLarge}
use Rattle.chumsky_input.specs.Held.{Held}
use Rattle.chumsky_input.specs.Outcome.{Meaning, Beginning, Outcome, Verdict, Yes, No, Halt, Clash}
use Rattle.chumsky_input.specs.Run.{Ran, begin, answer}
use Rattle.chumsky_parser.specs.Chained.{Chained, Asked, Given, from, both}
use Rattle.chumsky_parser.specs.Choice.{OrElse, ElseFrom, Stands}
use Rattle.chumsky_parser.specs.Failure.{SaysNo, Stops, wanting}
use Rattle.chumsky_parser.specs.Ignoring.{Gives}
use Rattle.chumsky_parser.specs.Items.{Next, More, End, AfterStep, FromMade}
use Rattle.chumsky_parser.specs.Steps.{AllSteps, unlisted}
use Rattle.chumsky_parser.proofs.ChainedLemmas.{chained, failed}
use Rattle.chumsky_items.specs.Consumers.{Appends, Collected, HoldsAll}
use Rattle.chumsky_items.specs.Repeating.{Repeats}
use Rattle.chumsky_items.specs.Separating.{Separates}
use Rattle.chumsky_combinator.specs.Optional.{OrNone}
use Rattle.chumsky_choice.specs.Among.{FirstAmong}
use Rattle.chumsky_judge.specs.Judged.{ByVerdict, NoAsOne}
use Rattle.chumsky_judge.specs.Not.{Denies, Allows, MeansNot}
use Rattle.chumsky_judge.specs.Vetted.{Vets, OnRuling}
use Rattle.chumsky_judge.specs.AndIs.{GivenAt, LooksFrom, MeansAndIs, Rewinds, MeansRewind}
use Rattle.chumsky_rules.specs.declared.kinds.NodeKind.{NodeKind}
use Rattle.chumsky_rules.specs.declared.kinds.NodeKind.TheVariants.{Leaf, Rule, Then, Choice, Repeated, SeparatedBy, OrNot, Not, AndIs, Rewind, Map, TryMap}
use Rattle.chumsky_rules.specs.Tables.{Tables}
use Rattle.chumsky_recursive.specs.InPlace.{InPlace}
use Rattle.chumsky_recursive.specs.Means.{
  Acts,
  AreThose,
  Values,
  Listed,
  bounds_of,
  Made,
  VettingOrNone,
  VettedOrNone,
  waited_if,
  waited,
  in_each_run,
  for_a_value,
  is_leaf,
  waits_for,
  kind_means,
  known_means,
  node_means,
  body_means,
  call_means,
  part_means,
  last_means,
}
use Rattle.chumsky_recursive.specs.Staying.{not_halt, not_no, not_clash, or_clash-end, chained_yes}
use Rattle.chumsky_recursive.proofs.Making.{makes-ran}

not_there : {V : Type 0} (v : Option V) → is_some v ≡ false → v ≡ None
not_there (Some x) e = absurd cc
not_there None e = refl

both_none : {V W : Type 0} (u : Option V) (x : Option W) → u ≡ None → both u x ≡ None
both_none (Some u) x e = absurd cc
both_none None x e = refl

module _ {St Er V : Type 0} where
  -- the value of the outcome that this one is
  told : (o p : Outcome V Er St) (u v : Option V) → o ≡ p → p.verdict ≡ Yes u → o.verdict ≡ Yes v → v ≡ u
  told o p u v e f y =
      let k : Yes u ≡ o.verdict = sym f ∙ sym (ap (λ (z : Outcome V Er St). z.verdict) e) in
      cc (k, y)

module _ {Tok Cx St Er V : Type 0} where
  -- a yes has no value where none is wanted
  abbrev pub GivesOnlyWanted : Meaning Tok Cx St Er V → Type 0
  GivesOnlyWanted m = (b : Beginning Tok Cx St) (o : Outcome V Er St) → b.wanted ≡ false → m b o → (v : Option V) → o.verdict ≡ Yes v → v ≡ None

  given_is : (u : Option V) (b : Beginning Tok Cx St) (o : Outcome V Er St) → Given u b o → (v : Option V) → o.verdict ≡ Yes v → v ≡ u
  given_is u b o m v y = told o (record { verdict = Yes u; end = b.start; state = b.state; events = []; emitted = [] }) u v m refl y

  no-unwanted : GivesOnlyWanted (SaysNo {Tok = Tok} {Cx = Cx} {St = St} {Er = Er} {V = V})
  no-unwanted b o w m v y = absurd (not_no o v (ap (λ (z : Outcome V Er St). z.verdict) m) y)

  -- of a leaf that holds
  pub in_place-unwanted : (m : Meaning Tok Cx St Er V) → GivesOnlyWanted (InPlace m)
  in_place-unwanted m b o w k v y = not_there v (k.there v y ∙ w)

  gives-unwanted : (u : V) → GivesOnlyWanted (Gives {Tok = Tok} {Cx = Cx} {St = St} {Er = Er} u)
  gives-unwanted u b o w m v y = given_is (wanting b.wanted u) b o m.given v y ∙ ap (λ c. wanting c u) w

module _ {Tok Cx St Er V W : Type 0} where
  chained-unwanted : (part : Meaning Tok Cx St Er V) (next : Option V → Meaning Tok Cx St Er W) → GivesOnlyWanted part
      → ((x : Option V) → x ≡ None → GivesOnlyWanted (next x)) → GivesOnlyWanted (Chained part next)
  chained-unwanted part next hp hn b o w m v y = let t = chained_yes part next b o m v y in hn t.value (hp b m.first w m.meant t.value t.yes) (from b m.first) t.last w t.meant v t.last_yes

  made-unwanted : (gives : V → Option W → Type 0) (u : Option V) → u ≡ None → GivesOnlyWanted (Made {Tok = Tok} {Cx = Cx} {St = St} {Er = Er} gives u)
  made-unwanted gives (Some x) e b o w m v y = absurd cc
  made-unwanted gives None e b o w m v y = given_is None b o m.by_value v y

module _ {Tok Cx St Mk Er V : Type 0} (mark : St → Mk) (back : St → Mk → St) (safe : Type 0) (first second : Meaning Tok Cx St Er V) (hf : GivesOnlyWanted first) (hs : GivesOnlyWanted second) where
  else_unwanted : (b : Beginning Tok Cx St) (p o : Outcome V Er St) (mk : Mk) (u : Verdict V Er) → b.wanted ≡ false
      → first b p → ElseFrom back safe mk u second b p o → (v : Option V) → o.verdict ≡ Yes v → v ≡ None
  else_unwanted b p o mk (Yes x) w m f v y = hf b p w m v (sym (ap (λ (z : Outcome V Er St). z.verdict) f) ∙ y)
  else_unwanted b p o mk No w m (inl r) v y = absurd (not_halt o _ v r.1 y)
  else_unwanted b p o mk No w m (inr t) v y = hs (record b { state = back p.state mk }) t.0 w t.1 v (sym (ap (λ (z : Outcome V Er St). z.verdict) t.2) ∙ y)
  else_unwanted b p o mk (Halt h) w m f v y = hf b p w m v (sym (ap (λ (z : Outcome V Er St). z.verdict) f) ∙ y)
  else_unwanted b p o mk (Clash c) w m f v y = hf b p w m v (sym (ap (λ (z : Outcome V Er St). z.verdict) f) ∙ y)

  or_else-unwanted : GivesOnlyWanted (OrElse mark back safe first second)
  or_else-unwanted b o w m v y = elim m.cases [ inl r ↦ absurd (not_halt o _ v r.1 y) | inr t ↦ else_unwanted b t.attempt o (mark b.state) t.attempt.verdict w t.meant t.then_else v y ]

module _ {Tok Cx St Er V : Type 0} (step : ℕ → Meaning Tok Cx St Er (Next ℕ V)) where
  collected_none : (b : Beginning Tok Cx St) (o : Outcome (List V) Er St)
      → Collected {Tok = Tok} {Cx = Cx} {St = St} {Er = Er} {V = V} {C = List V} AreThose None b o
      → (v : Option (List V)) → o.verdict ≡ Yes v → v ≡ None
  collected_none b o m v y = given_is m.value b o m.given v y ∙ empty m.value m.is
    where
      empty : (x : Option (List V)) → HoldsAll AreThose None x → x ≡ None
      empty (Some c) h = absurd h
      empty None h = refl

  -- with no values so far none come
  after_none : (on : Option V → ℕ → Meaning Tok Cx St Er (List V))
      →
      ((u : Option V) (t : ℕ) (b : Beginning Tok Cx St) (o : Outcome (List V) Er St) → on u t b o
      → (v : Option (List V)) → o.verdict ≡ Yes v → v ≡ None)
      → (x : Option (Next ℕ V)) (b : Beginning Tok Cx St) (o : Outcome (List V) Er St) → AfterStep on (Collected AreThose None) x b o → (v : Option (List V)) → o.verdict ≡ Yes v → v ≡ None
  after_none on h (Some (More u t)) b o m v y = h u t b o m v y
  after_none on h (Some End) b o m v y = collected_none b o m v y
  after_none on h None b o m v y = absurd m

  abbrev Empty : ℕ → ℕ → Type 0
  Empty room k = (b : Beginning Tok Cx St) (o : Outcome (List V) Er St) → AllSteps step (Appends ⊥) (Collected AreThose) room None k b o → (v : Option (List V)) → o.verdict ≡ Yes v → v ≡ None

  appended_none : (room : ℕ) → ((k : ℕ) → Empty room k)
      → (u : Option V) (t : ℕ) (b : Beginning Tok Cx St) (o : Outcome (List V) Er St)
      → Chained (Appends {Tok = Tok} {Cx = Cx} {St = St} {Er = Er} ⊥ None u)
      (λ c. AllSteps step (Appends ⊥) (Collected AreThose) room c t) b o
      → (v : Option (List V)) → o.verdict ≡ Yes v → v ≡ None
  appended_none room h u t b o m v y =
      let a = chained_yes (Given None) (λ c. AllSteps step (Appends ⊥) (Collected AreThose) room c t) b o m v y in
      let e : a.value ≡ None = given_is None b m.first m.meant a.value a.yes in
      h t (from b m.first) a.last (subst (λ c. AllSteps step (Appends ⊥) (Collected AreThose) room c t (from b m.first) a.last) e a.meant) v a.last_yes

  all_none : (room k : ℕ) → Empty room k
  all_none zero k b o m v y =
      let t = chained_yes (step k) _ b o m v y in
      after_none (λ _ _. Stops CountTooLarge)
      (λ u t c p n w z. absurd (not_halt p CountTooLarge w (ap (λ (q : Outcome (List V) Er St). q.verdict) n) z))
      t.value (from b m.first) t.last t.meant v t.last_yes
  all_none (suc room) k b o m v y =
      let t = chained_yes (step k) _ b o m v y in
      after_none (λ u t. Chained (Appends ⊥ None u) (λ c. AllSteps step (Appends ⊥) (Collected AreThose) room c t))
      (appended_none room (all_none room)) t.value (from b m.first) t.last t.meant v t.last_yes

  from_none : (room : ℕ) (a : Option (List V)) (x : Option ℕ) → a ≡ None
      → (b : Beginning Tok Cx St) (o : Outcome (List V) Er St)
      → FromMade step (Appends ⊥) (Collected AreThose) room a x b o → (v : Option (List V)) → o.verdict ≡ Yes v
      → v ≡ None
  from_none room (Some xs) x e b o m v y = absurd cc
  from_none room None (Some k) e b o m v y = all_none room k b o (unlisted step (Appends ⊥) (Collected AreThose) room None k b o m) v y
  from_none room None None e b o m v y = absurd m

  listed-unwanted : (lists : List V → Option V → Type 0) → GivesOnlyWanted (Listed step lists)
  listed-unwanted lists = chained-unwanted (Values step) (Made lists) values (made-unwanted lists)
    where
      values : GivesOnlyWanted (Values step)
      values b o w m v y =
          let t = chained_yes (Asked true (Given (Some 0))) (FromMade step (Appends ⊥) (Collected AreThose) m.room (wanting b.wanted [])) b o m.run v y in
          from_none m.room (wanting b.wanted []) t.value (ap (λ c. wanting c []) w) (from b m.run.first) t.last t.meant v t.last_yes

module _ {Tok Cx St Mk Er V : Type 0} (mark : St → Mk) (back : St → Mk → St) (safe : Type 0) (part : Meaning Tok Cx St Er V) (h : GivesOnlyWanted part) where
  or_none-unwanted : GivesOnlyWanted (OrNone mark back safe part)
  or_none-unwanted =
      or_else-unwanted mark back safe (Chained part (λ v. Given (option_map Some v))) (Gives None)
      (chained-unwanted part (λ v. Given (option_map Some v)) h (λ x e b o w m v y. given_is (option_map Some x) b o m v y ∙ ap (option_map Some) e)) (gives-unwanted None)

  and_is-unwanted : {W : Type 0} (second : Meaning Tok Cx St Er W) → GivesOnlyWanted (MeansAndIs mark back safe part second)
  and_is-unwanted second b o w m v y =
      let t = chained_yes (OrElse mark back safe part SaysNo) (LooksFrom b.start second) b o m.run v y in
      let u = chained_yes (Asked false second) (λ _. GivenAt t.value m.run.first.end) (record (from b m.run.first) { start = b.start }) t.last t.meant v t.last_yes in
      told u.last _ t.value v u.meant refl u.last_yes ∙ or_else-unwanted mark back safe part SaysNo h no-unwanted b m.run.first w m.run.meant t.value t.yes

module _ {Tok Cx St Er V : Type 0} (merged : Er → Er → Er) (part : Meaning Tok Cx St Er V) (h : GivesOnlyWanted part) where
  rewound : (u : Verdict V Er) (b : Beginning Tok Cx St) (p o : Outcome V Er St) → b.wanted ≡ false → part b p
      → p.verdict ≡ u → ByVerdict u (Rewinds merged) (NoAsOne merged) b p o → (v : Option V) → o.verdict ≡ Yes v
      → v ≡ None
  rewound (Yes x) b p o w m e (inl j) v y = told o _ x v (or_clash-end _ o v j.1 y) refl y ∙ h b p w m x e
  rewound (Yes x) b p o w m e (inr j) v y = told o _ x v (or_clash-end _ o v j.1 y) refl y ∙ h b p w m x e
  rewound No b p o w m e c v y = absurd (not_no o v (ap (λ (z : Outcome V Er St). z.verdict) (or_clash-end _ o v c y)) y)
  rewound (Halt x) b p o w m e c v y = absurd (not_halt o x v (ap (λ (z : Outcome V Er St). z.verdict) c) y)
  rewound (Clash x) b p o w m e c v y = absurd (not_clash o x v (ap (λ (z : Outcome V Er St). z.verdict) c) y)

  rewind-unwanted : GivesOnlyWanted (MeansRewind merged part)
  rewind-unwanted b o w m v y = rewound m.run.first.verdict b m.run.first o w m.run.meant refl m.run.judges v y

module _ {Tok Cx St Er V W : Type 0} (merged : Er → Er → Er) (lacks : Type 0) (vets : Vets Tok Cx St Er V W) (part : Meaning Tok Cx St Er V) where
  ruled : (r : Result W Er) (t : St) (b : Beginning Tok Cx St) (p : Outcome V Er St) (o : Outcome W Er St)
      → b.wanted ≡ false → OnRuling merged ⊤ r t b p o → (v : Option W) → o.verdict ≡ Yes v → v ≡ None
  ruled (Ok x) t b p o w c v y = told o _ (wanting b.wanted x) v (or_clash-end _ o v c y) refl y ∙ ap (λ c. wanting c x) w
  ruled (Err e) t b p o w (inl r) v y = absurd (not_halt o _ v r.1 y)
  ruled (Err e) t b p o w (inr c) v y = absurd (not_no o v (ap (λ (z : Outcome W Er St). z.verdict) (or_clash-end _ o v c y)) y)

  judged : (u : Verdict V Er) (b : Beginning Tok Cx St) (p : Outcome V Er St) (o : Outcome W Er St) → b.wanted ≡ false
      → ByVerdict u (VettingOrNone merged lacks vets) (NoAsOne merged) b p o → (v : Option W) → o.verdict ≡ Yes v
      → v ≡ None
  judged (Yes x) b p o w (inl r) v y = absurd (not_halt o _ v r.1 y)
  judged (Yes (Some x)) b p o w (inr j) v y = ruled j.0 j.1 b p o w j.3 v y
  judged (Yes None) b p o w (inr j) v y = absurd j
  judged No b p o w c v y = absurd (not_no o v (ap (λ (z : Outcome W Er St). z.verdict) (or_clash-end _ o v c y)) y)
  judged (Halt x) b p o w c v y = absurd (not_halt o x v (ap (λ (z : Outcome W Er St). z.verdict) c) y)
  judged (Clash x) b p o w c v y = absurd (not_clash o x v (ap (λ (z : Outcome W Er St). z.verdict) c) y)

  vetted-unwanted : GivesOnlyWanted (VettedOrNone merged lacks vets part)
  vetted-unwanted b o w m v y = judged m.run.first.verdict b m.run.first o w m.run.judges v y

module _ {Tok Cx St Mk Er V : Type 0} (back : St → Mk → St) (safe : Type 0) (mark : Mk) (part : ℕ → Meaning Tok Cx St Er V) (h : (n : ℕ) → GivesOnlyWanted (part n)) where
  stands-unwanted : (k n : ℕ) (ns : List ℕ) → GivesOnlyWanted (Stands back safe mark k (part n) (map part ns))
  stands-unwanted zero n ns b o w s v y = h n b o w s.0 v y
  stands-unwanted (suc k) n [] b o w s v y = absurd s
  stands-unwanted (suc k) n (x ∷ xs) b o w s v y =
      elim s.3 [
        | inl r ↦ absurd (not_halt o _ v r.1 y)
        | inr t ↦ stands-unwanted k x xs (record b { state = back s.0.state mark }) t.0 w t.1 v
            (sym (ap (λ (z : Outcome V Er St). z.verdict) t.2) ∙ y)
      ]

module _ {Tok Cx St Er V : Type 0} (may_lack : Bool → Type 0) where
  waited_if-unwanted : (c : Bool) (m : Meaning Tok Cx St Er V) → GivesOnlyWanted m → GivesOnlyWanted (waited_if may_lack c m)
  waited_if-unwanted true m h b o w k v y = elim k.cases [ inl r ↦ absurd (not_halt o _ v r.1 y) | inr x ↦ h b o w x v y ]
  waited_if-unwanted false m h b o w k v y = h b o w k v y

  waited-unwanted : (waits : ℕ → Bool) (part : ℕ → Meaning Tok Cx St Er V) → ((n : ℕ) → GivesOnlyWanted (part n)) → (n : ℕ) → GivesOnlyWanted (waited may_lack waits part n)
  waited-unwanted waits part h n = waited_if-unwanted (waits n) (part n) (h n)

module _ {I Tok Sp Cu Er St Mk Cx V : Type 0} (source : input_trait.Ghosts I Cu Tok Sp) (errors : error_trait.Ghosts Er I Tok Sp) (states : inspector_trait.Ghosts St I Mk Tok Sp) where
  not_from : (u : Verdict V errors.Seen) (b : Beginning Tok Cx states.Seen) (p : Outcome V errors.Seen states.Seen)
      (o : Outcome (Unit {0}) errors.Seen states.Seen)
      → b.wanted ≡ false
      → ByVerdict u (Denies source errors states (states.mark b.state)) (Allows source errors states (states.mark b.state)) b p o
      → (v : Option (Unit {0})) → o.verdict ≡ Yes v → v ≡ None
  not_from (Yes x) b p o w (inl r) v y = absurd (not_halt o _ v r.1 y)
  not_from (Yes x) b p o w (inr (inl r)) v y = absurd (not_halt o _ v r.1 y)
  not_from (Yes x) b p o w (inr (inr c)) v y = absurd (not_no o v (ap (λ (z : Outcome (Unit {0}) errors.Seen states.Seen). z.verdict) (or_clash-end _ o v c y)) y)
  not_from No b p o w (inl r) v y = absurd (not_halt o _ v r.1 y)
  not_from No b p o w (inr e) v y = told o _ (wanting b.wanted tt) v e refl y ∙ ap (λ c. wanting c tt) w
  not_from (Halt x) b p o w c v y = absurd (not_halt o x v (ap (λ (z : Outcome (Unit {0}) errors.Seen states.Seen). z.verdict) c) y)
  not_from (Clash x) b p o w c v y = absurd (not_clash o x v (ap (λ (z : Outcome (Unit {0}) errors.Seen states.Seen). z.verdict) c) y)

  not-unwanted : (part : Meaning Tok Cx states.Seen errors.Seen V) → GivesOnlyWanted (MeansNot source errors states part)
  not-unwanted part b o w m v y = elim m.cases [ inl r ↦ absurd (not_halt o _ v r.1 y) | inr k ↦ not_from k.first.verdict b k.first o w k.judges v y ]

  among-unwanted : (part : ℕ → Meaning Tok Cx states.Seen errors.Seen V) → ((n : ℕ) → GivesOnlyWanted (part n)) → (ns : List ℕ) → GivesOnlyWanted (FirstAmong source errors states (map part ns))
  among-unwanted part h [] b o w m v y = elim m.cases [ inl r ↦ absurd (not_halt o _ v r.1 y) | inr f ↦ elim f.by [ inl n ↦ absurd (not_no o v n.0 y) | inr c ↦ absurd (not_clash o _ v c.0 y) ] ]
  among-unwanted part h (n ∷ []) b o w m v y = h n b o w m.cases.cases v y
  among-unwanted part h (n ∷ x ∷ xs) b o w m v y =
      elim m.cases.cases [
        | inl r ↦ absurd (not_halt o _ v r.1 y)
        | inr t ↦ stands-unwanted states.back states.takes_no_memory (states.mark b.state) part h t.k n (x ∷ xs) b o w t.stands v y
      ]

  module _ (a : Acts Tok Cx states.Seen errors.Seen V) (leaf : (n : ℕ) → GivesOnlyWanted (a.leaf n)) where
    module _ (call part last : ℕ → Meaning Tok Cx states.Seen errors.Seen V) (hc : (r : ℕ) → GivesOnlyWanted (call r))
        (hp : (n : ℕ) → GivesOnlyWanted (part n)) (hl : (n : ℕ) → GivesOnlyWanted (last n)) where
      kind-unwanted : (k : NodeKind) → GivesOnlyWanted (kind_means source errors states a call part last k)
      kind-unwanted (Leaf n) = leaf n
      kind-unwanted (Rule r) = hc r
      kind-unwanted (Then x z f) = chained-unwanted (part x) _ (hp x) (λ u e. chained-unwanted (last z) _ (hl z) (λ w _. made-unwanted (a.pairs f) (both u w) (both_none u w e)))
      kind-unwanted (Choice c) = among-unwanted part hp c.items
      kind-unwanted (Repeated x least most) = listed-unwanted (Repeats states.mark states.back states.takes_no_memory (part x) false least most) a.lists
      kind-unwanted (SeparatedBy x z cfg) = listed-unwanted (Separates states.mark states.back states.takes_no_memory (part z) (part x) (bounds_of cfg)) a.lists
      kind-unwanted (OrNot x) =
          chained-unwanted (OrNone states.mark states.back states.takes_no_memory (part x)) _
          (or_none-unwanted states.mark states.back states.takes_no_memory (part x) (hp x))
          (made-unwanted a.options)
      kind-unwanted (Not x) = chained-unwanted (MeansNot source errors states (part x)) _ (not-unwanted (part x)) (made-unwanted a.units)
      kind-unwanted (AndIs x z) = and_is-unwanted states.mark states.back states.takes_no_memory (part x) (hp x) (part z)
      kind-unwanted (Rewind x) = rewind-unwanted errors.merged (part x) (hp x)
      kind-unwanted (Map x f) = chained-unwanted (last x) _ (hl x) (made-unwanted (a.maps f))
      kind-unwanted (TryMap x f) = vetted-unwanted errors.merged (a.tries_lack f) (a.tries f) (part x)

    known-unwanted : (nodes : List NodeKind) (call part : ℕ → Meaning Tok Cx states.Seen errors.Seen V)
        → ((r : ℕ) → GivesOnlyWanted (call r)) → ((n : ℕ) → GivesOnlyWanted (part n)) → (k : Option NodeKind)
        → GivesOnlyWanted (known_means source errors states a nodes call part k)
    known-unwanted nodes call part hc hp None b o w m v y = absurd m
    known-unwanted nodes call part hc hp (Some k) b o w m v y =
        let waits = waits_for (is_leaf nodes) k in
        kind-unwanted call (waited in_each_run waits part) (waited for_a_value waits part) hc (waited-unwanted in_each_run waits part hp) (waited-unwanted for_a_value waits part hp) k b o w m v y

    module _ (call : ℕ → Meaning Tok Cx states.Seen errors.Seen V) (hc : (r : ℕ) → GivesOnlyWanted (call r)) where
      node-unwanted : (nodes : List NodeKind) (bound n : ℕ) → GivesOnlyWanted (node_means source errors states a call nodes bound n)
      unfolding node_means
      node-unwanted nodes zero n b o w m v y = absurd m
      node-unwanted nodes (suc bound) n b o w m v y = known-unwanted nodes call (node_means source errors states a call nodes bound) hc (node-unwanted nodes bound) (slice_get nodes n) b o w m v y

      body-unwanted : (nodes : List NodeKind) (body : Option (Option ℕ)) → GivesOnlyWanted (body_means source errors states a call nodes body)
      body-unwanted nodes None b o w m v y = absurd m
      body-unwanted nodes (Some None) b o w m v y = absurd m
      body-unwanted nodes (Some (Some n)) b o w m v y = node-unwanted nodes (suc n) n b o w m v y

    call-unwanted : (g : Tables) (more r : ℕ) → GivesOnlyWanted (call_means source errors states a g more r)
    unfolding call_means
    call-unwanted g zero r b o w m v y = absurd (not_halt o TooDeep v (ap (λ (z : Outcome V errors.Seen states.Seen). z.verdict) m) y)
    call-unwanted g (suc more) r b o w m v y = body-unwanted (call_means source errors states a g more) (call-unwanted g more) g.nodes (slice_get g.bodies r) b o w m v y

    part-unwanted : (g : Tables) (more n : ℕ) → GivesOnlyWanted (last_means source errors states a g more n)
    part-unwanted g more n =
        waited_if-unwanted for_a_value (not (is_leaf g.nodes n)) (part_means source errors states a g more n)
        (node-unwanted (call_means source errors states a g more) (call-unwanted g more) g.nodes (suc n) n)

module _ {Er V : Type 0} where
  yes_of : (u : Verdict V Er) (v : Option V) → Ok v ≡ answer u → u ≡ Yes v
  yes_of (Yes x) v e = let f : v ≡ x = cc in ap Yes (sym f)
  yes_of No v e = let no : ⊥ = cc in absurd no
  yes_of (Halt s) v e = let no : ⊥ = cc in absurd no
  yes_of (Clash c) v e = let no : ⊥ = cc in absurd no

module _ {Tok Cx St Er V : Type 0} (merged : Er → Er → Er) (safe : Type 0) (wanted : Bool) (w : wanted ≡ false) where
  -- where no value is wanted of a part and nothing is made of none, the whole does what the part does
  makes_nothing : (part : Meaning Tok Cx St Er V) (next : Option V → Meaning Tok Cx St Er V)
      (old new : Held Tok Cx St Er) (r : Result (Option V) Fault)
      → GivesOnlyWanted part → Ran merged safe (next None) wanted new new (Ok None)
      → Ran merged safe part wanted old new r → Ran merged safe (Chained part next) wanted old new r
  makes_nothing part next old new (Ok v) gives h ran =
      let e : v ≡ None = gives (begin wanted old) ran.outcome w ran.meant v (yes_of ran.outcome.verdict v ran.answered) in
      rw e (chained ran (ap Ok e) h)
  makes_nothing part next old new (Err f) gives h ran = failed ran refl refl

  made_of_none : {U : Type 0} (gives : U → Option V → Type 0) (u : Option U) (now : Held Tok Cx St Er) → u ≡ None → Ran merged safe (Made gives u) wanted now now (Ok None)
  made_of_none gives (Some x) now e = absurd cc
  made_of_none gives None now e = makes-ran merged safe gives wanted now None (Ok None) (sym w) refl

module _ {I Tok Sp Cu Er St Mk Cx V : Type 0} (source : input_trait.Ghosts I Cu Tok Sp)
    (errors : error_trait.Ghosts Er I Tok Sp) (states : inspector_trait.Ghosts St I Mk Tok Sp)
    (a : Acts Tok Cx states.Seen errors.Seen V) (leaf : (n : ℕ) → GivesOnlyWanted (a.leaf n)) (g : Tables)
    (more n : ℕ) (wanted : Bool) (old new : Held Tok Cx states.Seen errors.Seen) (r : Result (Option V) Fault)
    (w : wanted ≡ false) where
  -- so of the part of `map`
  pub maps_nothing : (f : ℕ)
      → Ran errors.merged errors.takes_no_memory (last_means source errors states a g more n) wanted old new r
      → Ran errors.merged errors.takes_no_memory (Chained (last_means source errors states a g more n) (Made (a.maps f))) wanted old new r
  maps_nothing f ran =
      makes_nothing errors.merged errors.takes_no_memory wanted w (last_means source errors states a g more n)
      (Made (a.maps f)) old new r (part-unwanted source errors states a leaf g more n)
      (made_of_none errors.merged errors.takes_no_memory wanted w (a.maps f) None new refl) ran

  -- and of the second of `then`, after a first that gave no value
  pub joins_nothing : (f : ℕ) (v : Option V) → is_some v ≡ wanted
      → Ran errors.merged errors.takes_no_memory (last_means source errors states a g more n) wanted old new r
      → Ran errors.merged errors.takes_no_memory
      (Chained (last_means source errors states a g more n) (λ x. Made (a.pairs f) (both v x))) wanted old new r
  joins_nothing f v there ran =
      makes_nothing errors.merged errors.takes_no_memory wanted w (last_means source errors states a g more n)
      (λ x. Made (a.pairs f) (both v x)) old new r (part-unwanted source errors states a leaf g more n)
      (made_of_none errors.merged errors.takes_no_memory wanted w (a.pairs f) (both v None) new
      (both_none v None (not_there v (there ∙ w))))
      ran
