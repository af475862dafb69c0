-- Rules of which no node waits are refused for memory only as their leaves are, for an error of their own, or for a value.
-- Main words: NeverWaits, CallsAsk, Asks, HaltsForMemory. Law: call-asks.
use Rattle.std.proofs.Common.{◌≡◌, ℕ, zero, suc, ◌≤◌, List, [], ◌∷◌, map, Option, Some, None, Bool, true, false, length, slice_get, refl, sym, ◌∙◌, ap, subst, ◌⊎◌, inl, inr}
use Rattle.std.specs.Prelude.{⊤, not}
use Rattle.chumsky_input.specs.Layout.{Layout}
use Rattle.chumsky_input.specs.declared.error.Error as error_trait
use Rattle.chumsky_input.specs.declared.inspector.Inspector as inspector_trait
use Rattle.chumsky_input.specs.declared.input.Input as input_trait
use Rattle.chumsky_input.specs.declared.stop.Stop.TheVariants.{Memory, TooDeep}
use Rattle.chumsky_input.specs.Outcome.{Event, Meaning, Beginning, Outcome, Verdict, Yes, No, Halt, Clash}
use Rattle.chumsky_input.specs.Words.{Does}
use Rattle.chumsky_parser.specs.Chained.{Chained, Follows, from, both}
use Rattle.chumsky_choice.specs.Among.{FirstAmong}
use Rattle.chumsky_rules.specs.declared.kinds.NodeKind.{NodeKind}
use Rattle.chumsky_rules.specs.declared.kinds.NodeKind.TheVariants.{Leaf, Rule, Then, Choice, Repeated, SeparatedBy, OrNot, Not, AndIs, Rewind, Map, TryMap}
use Rattle.chumsky_rules.specs.Tables.{Tables}
use Rattle.chumsky_rules.specs.Empty.{IsNode}
use Rattle.chumsky_recursive.specs.declared.actions.Actions as actions_trait
use Rattle.chumsky_recursive.specs.declared.grammar.Grammar.{Grammar}
use Rattle.chumsky_recursive.specs.Calls.{TakesNoMemory}
use Rattle.chumsky_recursive.specs.Going.{SucceedsBy, node-goes, call-goes}
use Rattle.chumsky_recursive.specs.Means.{Acts, Made, MadeOf, has_others, waited, waited_if, in_each_run, for_a_value, is_leaf, waits_for, kind_means, known_means, node_means, body_means, call_means}
use Rattle.chumsky_recursive.specs.Reach.{Reach, Reach-refl, Reach-trans}
use Rattle.chumsky_recursive.specs.Refused.{LeafHalts}

-- a node that waits for no part, and makes no list: a leaf, a call, `then` or `map` of leaves, or a choice of one alternative or of none
abbrev pub DoesNotWait : (ℕ → Bool) → NodeKind → Type 0
DoesNotWait leaf (Leaf x) = ⊤
DoesNotWait leaf (Rule r) = ⊤
DoesNotWait leaf (Then x z f) = (leaf x ≡ true) × (leaf z ≡ true)
DoesNotWait leaf (Choice v) = has_others v.items ≡ false
DoesNotWait leaf (Map x f) = leaf x ≡ true
DoesNotWait leaf (Repeated x least most) = ⊥
DoesNotWait leaf (SeparatedBy x z cfg) = ⊥
DoesNotWait leaf (OrNot x) = ⊥
DoesNotWait leaf (Not x) = ⊥
DoesNotWait leaf (AndIs x z) = ⊥
DoesNotWait leaf (Rewind x) = ⊥
DoesNotWait leaf (TryMap x f) = ⊥

-- so each node of these rules
abbrev pub NeverWaits : Tables → Type 0
NeverWaits g = (n : ℕ) (k : NodeKind) → IsNode g n k → DoesNotWait (is_leaf g.nodes) k

-- a node of these rules is `then`, and it is not said that its function of two values takes no memory; or it is `map`, and it is not
-- said of its mapper
pub record CallsAsk (g : Tables) (quiet : TakesNoMemory) : Type 0 where
  pub cases : ((n : ℕ) × (x : ℕ) × (z : ℕ) × (f : ℕ) × IsNode g n (Then x z f) × (quiet.pair f → ⊥)) ⊎ ((n : ℕ) × (x : ℕ) × (f : ℕ) × IsNode g n (Map x f) × (quiet.map f → ⊥))

yes_memory : {V Er St : Type 0} (o : Outcome V Er St) (v : Option V) → o.verdict ≡ Yes v → o.verdict ≡ Halt Memory → ⊥
yes_memory o v e h = cc

no_memory : {V Er St : Type 0} (o : Outcome V Er St) → o.verdict ≡ No → o.verdict ≡ Halt Memory → ⊥
no_memory o e h = cc

clash_memory : {V Er St : Type 0} (o : Outcome V Er St) (c : Event Er) → o.verdict ≡ Clash c → o.verdict ≡ Halt Memory → ⊥
clash_memory o c e h = cc

deep_memory : {V Er St : Type 0} (o : Outcome V Er St) → o.verdict ≡ Halt TooDeep → o.verdict ≡ Halt Memory → ⊥
deep_memory o e h = cc

module _ {Tok Cx St Er V W : Type 0} (P : Type 0) (part : Meaning Tok Cx St Er V)
    (next : Option V → Meaning Tok Cx St Er W) (b : Beginning Tok Cx St)
    (hf : (p : Outcome V Er St) → part b p → p.verdict ≡ Halt Memory → P)
    (hn : (p : Outcome V Er St) (v : Option V) → part b p → p.verdict ≡ Yes v → (o : Outcome W Er St)
    → next v (from b p) o → o.verdict ≡ Halt Memory → P)
  where
    chain_asks : (p : Outcome V Er St) (o : Outcome W Er St) (u : Verdict V Er) → p.verdict ≡ u → part b p → Follows u next b p o → o.verdict ≡ Halt Memory → P
    chain_asks p o (Yes x) e m f h = hn p x m e f.0 f.1 (sym (ap (λ (z : Outcome W Er St). z.verdict) f.2) ∙ h)
    chain_asks p o No e m f h = absurd (no_memory o (ap (λ (z : Outcome W Er St). z.verdict) f) h)
    chain_asks p o (Halt t) e m f h = let q : o.verdict ≡ Halt t = ap (λ (z : Outcome W Er St). z.verdict) f in let same : t ≡ Memory = cc (q, h) in hf p m (e ∙ ap Halt same)
    chain_asks p o (Clash c) e m f h = absurd (clash_memory o c (ap (λ (z : Outcome W Er St). z.verdict) f) h)

    -- where a part and what follows it are refused for memory, one of them is
    chained-asks : (o : Outcome W Er St) → Chained part next b o → o.verdict ≡ Halt Memory → P
    chained-asks o m h = chain_asks m.first o m.first.verdict refl m.meant m.follows h

module _ {Tok Cx St Er V : Type 0} (may_lack : Bool → Type 0) (m : Meaning Tok Cx St Er V) where
  -- a part that is a leaf is not waited for
  leaf_alone : (leaf : Bool) → leaf ≡ true → waited_if may_lack (not leaf) m ≡ m
  leaf_alone true e = refl
  leaf_alone false e = absurd (cc)

module _ {Tok Cx St Er V W : Type 0} (gives : V → Option W → Type 0) where
  made_of-asks : (v : Option V) (b : Beginning Tok Cx St) (o : Outcome W Er St) → MadeOf gives v b o → o.verdict ≡ Halt Memory → (b.wanted ≡ true) × (x : V) × gives x None
  made_of-asks (Some v) b o (inl m) h = absurd (yes_memory o (Some m.0) (ap (λ (z : Outcome W Er St). z.verdict) m.2) h)
  made_of-asks (Some v) b o (inr r) h = (r.0.0, v, r.0.1)
  made_of-asks None b o m h = absurd (yes_memory o None (ap (λ (z : Outcome W Er St). z.verdict) m) h)

  -- where there is no memory for what is made of a value, a value is wanted, and the value function may lack it
  made-asks : (v : Option V) (b : Beginning Tok Cx St) (o : Outcome W Er St) → Made gives v b o → o.verdict ≡ Halt Memory → (b.wanted ≡ true) × (x : V) × gives x None
  made-asks v b o m h = made_of-asks v b o m.by_value h

module _ {I Tok Sp Cu Er St Mk Cx V : Type 0} (source : input_trait.Ghosts I Cu Tok Sp)
    (errors : error_trait.Ghosts Er I Tok Sp) (states : inspector_trait.Ghosts St I Mk Tok Sp)
    (a : Acts Tok Cx states.Seen errors.Seen V) (g : Tables) (never : NeverWaits g) (quiet : TakesNoMemory)
    (pairs : (f : ℕ) (v : V × V) → a.pairs f v None → quiet.pair f → ⊥)
    (maps : (f : ℕ) (v : V) → a.maps f v None → quiet.map f → ⊥)
    (within : (n : ℕ) → SucceedsBy Reach Reach-refl Reach-trans (a.leaf n)) where
  -- a leaf of these rules is refused for memory on these tokens, or an error takes memory, or a value that is wanted does
  abbrev pub Asks : Layout Tok → Bool → Type 0
  Asks tokens wanted = LeafHalts a.leaf g tokens Memory ⊎ (errors.takes_no_memory → ⊥) ⊎ ((wanted ≡ true) × CallsAsk g quiet)

  -- where it is refused for memory, somebody asked for it
  abbrev OnlyIfAsked : Meaning Tok Cx states.Seen errors.Seen V → Type 0
  OnlyIfAsked m = (b : Beginning Tok Cx states.Seen) (o : Outcome V errors.Seen states.Seen) → b.start ≤ length b.tokens.list → m b o → o.verdict ≡ Halt Memory → Asks b.tokens b.wanted

  module _ (call : ℕ → Meaning Tok Cx states.Seen errors.Seen V) (gc : (r : ℕ) → SucceedsBy Reach Reach-refl Reach-trans (call r)) (hc : (r : ℕ) → OnlyIfAsked (call r)) where
    module _ (part : ℕ → Meaning Tok Cx states.Seen errors.Seen V) (gp : (n : ℕ) → SucceedsBy Reach Reach-refl Reach-trans (part n)) (hp : (n : ℕ) → OnlyIfAsked (part n)) where
      among-asks : (ns : List ℕ) → has_others ns ≡ false → OnlyIfAsked (FirstAmong source errors states (map (waited in_each_run (λ _. has_others ns) part) ns))
      among-asks [] f b o w m h = elim m.cases [
        | inl r ↦ inr (inl r.0)
        | inr e ↦ elim e.by [ inl n ↦ absurd (no_memory o n.0 h) | inr c ↦ absurd (clash_memory o _ c.0 h) ]
      ]
      among-asks (n ∷ []) f b o w m h = hp n b o w m.cases.cases h
      among-asks (n ∷ x ∷ xs) f b o w m h = absurd (cc)

      -- a pair of two parts that nobody waits for
      then-asks : (n x z t : ℕ) → IsNode g n (Then x z t) → OnlyIfAsked (Chained (part x) (λ v. Chained (part z) (λ w. Made (a.pairs t) (both v w))))
      then-asks n x z t is b o w m h =
          chained-asks (Asks b.tokens b.wanted) (part x) _ b (λ p k y. hp x b p w k y)
          (λ p v k y q l f.
          chained-asks (Asks b.tokens b.wanted) (part z) _ (from b p) (λ r c d. hp z (from b p) r ((gp x b p k v y).1 w) c d)
          (λ r u c d e i j. let asks = made-asks (a.pairs t) (both v u) (from (from b p) r) e i j in inr (inr (asks.0, record { cases = inl (n, x, z, t, is, pairs t asks.1 asks.2) })))
          q l f)
          o m h

      -- a value through a mapper, of a part that nobody waits for
      map-asks : (n x f : ℕ) → IsNode g n (Map x f) → OnlyIfAsked (Chained (part x) (Made (a.maps f)))
      map-asks n x f is b o w m h =
          chained-asks (Asks b.tokens b.wanted) (part x) _ b (λ p k y. hp x b p w k y)
          (λ p v k y q l i. let asks = made-asks (a.maps f) v (from b p) q l i in inr (inr (asks.0, record { cases = inr (n, x, f, is, maps f asks.1 asks.2) })))
          o m h

      kind-asks : (n : ℕ) (k : NodeKind) → IsNode g n k → DoesNotWait (is_leaf g.nodes) k
          → OnlyIfAsked
          (kind_means source errors states a call (waited in_each_run (waits_for (is_leaf g.nodes) k) part)
          (waited for_a_value (waits_for (is_leaf g.nodes) k) part) k)
      kind-asks n (Leaf x) is f b o w m h = inl (record { number = x; node = n; is = is; begun = b; on = refl; there = w; out = o; meant = m; halts = h })
      kind-asks n (Rule r) is f b o w m h = hc r b o w m h
      kind-asks n (Choice v) is f b o w m h = among-asks v.items f b o w m h
      kind-asks n (Then x z t) is f b o w m h =
          let first =
          subst
          (λ (y : Meaning Tok Cx states.Seen errors.Seen V). Chained y
          (λ v. Chained (waited_if for_a_value (not (is_leaf g.nodes z)) (part z)) (λ u. Made (a.pairs t) (both v u)))
          b o)
          (leaf_alone in_each_run (part x) (is_leaf g.nodes x) f.0) m in
          then-asks n x z t is b o w
          (subst
          (λ (y : Meaning Tok Cx states.Seen errors.Seen V). Chained (part x) (λ v. Chained y (λ u. Made (a.pairs t) (both v u))) b o)
          (leaf_alone for_a_value (part z) (is_leaf g.nodes z) f.1) first)
          h
      kind-asks n (Map x t) is f b o w m h =
          map-asks n x t is b o w (subst (λ (y : Meaning Tok Cx states.Seen errors.Seen V). Chained y (Made (a.maps t)) b o) (leaf_alone for_a_value (part x) (is_leaf g.nodes x) f) m) h
      kind-asks n (Repeated x least most) is f b o w m h = absurd f
      kind-asks n (SeparatedBy x z cfg) is f b o w m h = absurd f
      kind-asks n (OrNot x) is f b o w m h = absurd f
      kind-asks n (Not x) is f b o w m h = absurd f
      kind-asks n (AndIs x z) is f b o w m h = absurd f
      kind-asks n (Rewind x) is f b o w m h = absurd f
      kind-asks n (TryMap x t) is f b o w m h = absurd f

      known-asks : (n : ℕ) (k : Option NodeKind) → slice_get g.nodes n ≡ k → OnlyIfAsked (known_means source errors states a g.nodes call part k)
      known-asks n None is b o w m h = absurd m
      known-asks n (Some k) is b o w m h = kind-asks n k is (never n k is) b o w m h

    node-asks : (bound n : ℕ) → OnlyIfAsked (node_means source errors states a call g.nodes bound n)
    unfolding node_means
    node-asks zero n b o w m h = absurd m
    node-asks (suc bound) n b o w m h =
        known-asks (node_means source errors states a call g.nodes bound)
        (node-goes Reach Reach-refl Reach-trans source errors states a within call gc g.nodes bound)
        (node-asks bound) n (slice_get g.nodes n) refl b o w m h

    body-asks : (body : Option (Option ℕ)) → OnlyIfAsked (body_means source errors states a call g.nodes body)
    body-asks None b o w m h = absurd m
    body-asks (Some None) b o w m h = absurd m
    body-asks (Some (Some n)) b o w m h = node-asks (suc n) n b o w m h

  -- where a call is refused for memory, a leaf is, or an error takes memory, or a value that is wanted does
  pub call-asks : (more r : ℕ) → OnlyIfAsked (call_means source errors states a g more r)
  unfolding call_means
  call-asks zero r b o w m h = absurd (deep_memory o (ap (λ (z : Outcome V errors.Seen states.Seen). z.verdict) m) h)
  call-asks (suc more) r b o w m h =
      body-asks (call_means source errors states a g more)
      (call-goes Reach Reach-refl Reach-trans source errors states a within g more) (call-asks more)
      (slice_get g.bodies r) b o w m h

module _ {A I X V Cu Tok Sp Er St Cx Mk : Type 0} (errors : error_trait.Ghosts Er I Tok Sp)
    (states : inspector_trait.Ghosts St I Mk Tok Sp) (actions : actions_trait.Ghosts A I X V Cu Tok Sp Er St Cx Mk)
    (grammar : Grammar A) where
  -- begun at a place of its tokens, it is refused for memory only where a leaf is, or errors take memory, or a value is wanted and its
  -- function may take some
  abbrev pub HaltsForMemory : Does I Tok Sp Er St Mk Cx V → Type 0
  HaltsForMemory m =
      (b : Beginning Tok Cx states.Seen) (o : Outcome V errors.Seen states.Seen) → b.start ≤ length b.tokens.list → m errors states b o → o.verdict ≡ Halt Memory
      → LeafHalts (λ n. actions.leaf_meaning grammar.actions.now n errors states) grammar.rules.rules.now b.tokens Memory
      ⊎ (errors.takes_no_memory → ⊥)
      ⊎ ((b.wanted ≡ true) × CallsAsk grammar.rules.rules.now (actions.takes_no_memory grammar.actions.now))
