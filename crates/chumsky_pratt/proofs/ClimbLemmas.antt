-- What the steps of reading an expression lead to.
use Rattle.std.proofs.Common.{◌≡◌, ℕ, zero, suc, ◌+◌, ◌<◌, ◌≤◌, Bool, Option, length, refl, sym, ap, subst, ◌∙◌, Result, Ok, Err, inl, inr, arith, ◌⊎◌}
use Rattle.chumsky_input.specs.Layout.{same_list}
use Rattle.std.proofs.Math.Nat.{eq-or-lt_of_le}
use Rattle.chumsky_input.specs.declared.stop.Fault.{Fault}
use Rattle.chumsky_input.specs.declared.stop.Fault.TheVariants as fault
use Rattle.chumsky_input.specs.declared.stop.Stop.{Stop}
use Rattle.chumsky_input.specs.declared.stop.Stop.TheVariants.{Memory, NoProgress}
use Rattle.chumsky_input.specs.Held.{Held, Marks}
use Rattle.chumsky_input.specs.Outcome.{Meaning, Beginning, Outcome, EndsAfterStart}
use Rattle.chumsky_input.specs.Run.{Ran, marked_here, gone_back, begin}
use Rattle.chumsky_parser.specs.Chained.{Chained}
use Rattle.chumsky_parser.specs.Choice.{AttemptFrom}
use Rattle.chumsky_parser.specs.Showing.{GivenShown}
use Rattle.chumsky_parser.proofs.ChainedLemmas.{ran-weaker, chained, failed}
use Rattle.chumsky_parser.proofs.ChoiceLemmas.{attempt-stands, attempt-after, attempt-unrestored, stands_at-after, stands_at-marked, ran-marked, ran-not_marked}
use Rattle.chumsky_parser.proofs.FailureLemmas.{ran-halts, ran-stops}
use Rattle.chumsky_parser.proofs.OnwardLemmas.{ran-onward}
use Rattle.chumsky_pratt.specs.declared.fixity.Fixity.{Fixity}
use Rattle.chumsky_pratt.specs.declared.fixity.Fixity.TheVariants.{Prefix, Postfix, Infix}
use Rattle.chumsky_pratt.specs.declared.operands.Operands.TheVariants.{After}
use Rattle.chumsky_pratt.specs.Expression.{Syntax, any_power, all_there, left_at, Onward, Waiting, AfterPrefix, TryPrefix, Head, AllRounds, Level, Below, Expression}
use Rattle.chumsky_pratt.specs.ExpressionLaws.{head-ends, level-ends, below-ends}
use Rattle.chumsky_pratt.specs.Climbing.{Begun, tokens_left, Leads, operand_of, whole, prefixes, TriesPrefixes, HasValue, WaitsPrefix}

module _ {Tok Cx St Er V : Type 0} {merged : Er → Er → Er} {quiet : Type 0} {wanted : Bool} where
  -- a refusal for memory of what waits
  pub waiting-lacks : (part : Meaning Tok Cx St Er V) (now : Held Tok Cx St Er) → Ran merged quiet (Waiting part) wanted now now (Err (fault.Stop Memory))
  waiting-lacks part now = ran-halts merged quiet (Waiting part) wanted now now (record { tokens = refl; context = refl }) refl (λ o v s. inl (tt, v, s))

  pub waiting : (part : Meaning Tok Cx St Er V) {now new : Held Tok Cx St Er} {r : Result (Option V) Fault} → Ran merged quiet part wanted now new r → Ran merged quiet (Waiting part) wanted now new r
  waiting part {now} {new} {r} h = ran-weaker merged quiet part (Waiting part) wanted now new r (λ o k. inr k) h

  pub onward : (place : ℕ) (part : Meaning Tok Cx St Er V) {now new : Held Tok Cx St Er} {r : Result (Option V) Fault}
      → place < now.place → Ran merged quiet part wanted now new r
      → Ran merged quiet (Onward place part) wanted now new r
  onward place part {now} {new} {r} l h = ran-weaker merged quiet part (Onward place part) wanted now new r (λ o k. inl (l, k)) h

  pub not_onward : (place : ℕ) (part : Meaning Tok Cx St Er V) {now : Held Tok Cx St Er} → now.place ≤ place → Ran merged quiet (Onward place part) wanted now now (Err (fault.Stop NoProgress))
  not_onward place part {now} l = ran-weaker merged quiet _ (Onward place part) wanted now now (Err (fault.Stop NoProgress)) (λ o k. inr (l, k)) (ran-stops NoProgress)

module _ {Tok Cx St Mk Er F V : Type 0} (s : Syntax Tok Cx St Mk Er F V) where
  -- an expression, where fewer tokens are left
  below-level : (n least : ℕ) (b : Beginning Tok Cx St) (o : Outcome V Er St) → left_at b < n → Level s (Below s (left_at b)) least b o → Below s n least b o
  below-level zero least b o l m = absurd (omega (arith, l))
  below-level (suc n) least b o l m =
      let k : left_at b ≤ n = omega (arith, l) in
      elim (eq-or-lt_of_le k) [ inl e ↦ inl (e, subst (λ i. Level s (Below s i) least b o) e m) | inr j ↦ inr (j, below-level n least b o j m) ]

module _ {Tok Cx St Mk Er F V : Type 0} (merged : Er → Er → Er) (quiet : Type 0) (s : Syntax Tok Cx St Mk Er F V) (wanted : Bool) where
  -- the whole of an expression, of its run and of an operand
  pub expressed : (now new : Held Tok Cx St Er) (r : Result (Option V) Fault) (least : ℕ)
      → Ran merged quiet (whole merged quiet s wanted (record { least = least; held = now })) wanted now new r
      → Ran merged quiet (Expression s least) wanted now new r
  expressed now new r least h =
      ran-weaker merged quiet _ (Expression s least) wanted now new r (λ o k. record { run = below-level s (suc (length now.tokens.list)) least (begin wanted now) o (omega arith) k }) h

  pub operand_ran : (l inner : Begun Tok Cx St Er) {new : Held Tok Cx St Er} {r : Result (Option V) Fault}
      → tokens_left inner.held < tokens_left l.held
      → Ran merged quiet (whole merged quiet s wanted inner) wanted inner.held new r
      → Ran merged quiet (operand_of merged quiet s wanted l inner.least) wanted inner.held new r
  operand_ran l inner {new} {r} e h =
      ran-weaker merged quiet _ (operand_of merged quiet s wanted l inner.least) wanted inner.held new r
      (λ o k. below-level s (tokens_left l.held) inner.least (begin wanted inner.held) o e k) h

  module _ (l : Begun Tok Cx St Er) where
    abbrev Heads : Meaning Tok Cx St Er V
    Heads = Head s (operand_of merged quiet s wanted l) l.held.place

    leveled : {new : Held Tok Cx St Er} {r : Result (Option V) Fault}
        → Ran merged quiet
        (Chained Heads (AllRounds s (operand_of merged quiet s wanted l) l.held.place l.least any_power)) wanted
        l.held new r
        → Ran merged quiet (whole merged quiet s wanted l) wanted l.held new r
    leveled {new} {r} h = ran-weaker merged quiet _ (whole merged quiet s wanted l) wanted l.held new r (λ o k. record { run = k }) h

    -- the head of an expression has no value, and one
    headless : {new : Held Tok Cx St Er} {f : Fault} → Ran merged quiet Heads wanted l.held new (Err f) → Ran merged quiet (whole merged quiet s wanted l) wanted l.held new (Err f)
    headless h = leveled (failed h refl refl)

    headed : EndsAfterStart s.atom → ((i : ℕ) → EndsAfterStart (s.reads i)) → {new : Held Tok Cx St Er} (x : Option V)
        → Ran merged quiet Heads wanted l.held new (Ok x) → HasValue merged quiet s wanted l x any_power new
    headed atom_ends reads_end {new} x h =
        let ends : EndsAfterStart Heads = head-ends s atom_ends reads_end (operand_of merged quiet s wanted l) (below-ends s atom_ends reads_end (tokens_left l.held)) l.held.place in
        record { tokens = h.same.tokens; order = ran-onward merged quiet Heads ends wanted l.held new x h; leads = λ fin r k. leveled (chained h refl k) }

    -- an expression begins
    pub begins : (m : Marks Tok Mk) → m ≡ marked_here s.mark l.held → TriesPrefixes merged quiet s wanted l m 0 l.held
    begins m e =
        record {
          count = s.number;
          counted = omega arith;
          stands = stands_at-marked s.mark m l.held e;
          tokens = refl;
          leads =
              λ new r h. ran-weaker merged quiet _ Heads wanted l.held new r (λ o k. record { run = k })
              (ran-marked merged quiet s.mark s.safe (λ k. prefixes merged quiet s wanted l k s.number 0) wanted l.held m new r e h);
        }

    pub begin_lacks : (s.safe → ⊥) → Ran merged quiet (whole merged quiet s wanted l) wanted l.held l.held (Err (fault.Stop Memory))
    begin_lacks may =
        headless
        (ran-weaker merged quiet _ Heads wanted l.held l.held (Err (fault.Stop Memory))
        (λ o k. record { run = k })
        (ran-not_marked merged quiet s.mark s.safe (λ k. prefixes merged quiet s wanted l k s.number 0) wanted l.held may))

    module _ (m : Marks Tok Mk) (next : ℕ) (now : Held Tok Cx St Er) (t : TriesPrefixes merged quiet s wanted l m next now) where
      atom_left : (count : ℕ) → next + count ≡ s.number → next ≡ s.number
          → Leads merged quiet s wanted (prefixes merged quiet s wanted l m.mark count next) now Heads l.held
          → Leads merged quiet s wanted s.atom now Heads l.held
      atom_left zero e d h = h
      atom_left (suc count) e d h = absurd (omega (arith, e, d))

      -- past the last prefix operator the atom
      pub atom_ok : EndsAfterStart s.atom → ((i : ℕ) → EndsAfterStart (s.reads i)) → next ≡ s.number
          → {new : Held Tok Cx St Er} (x : Option V) → Ran merged quiet s.atom wanted now new (Ok x)
          → HasValue merged quiet s wanted l x any_power new
      atom_ok atom_ends reads_end e x h = headed atom_ends reads_end x (atom_left t.count t.counted e t.leads _ _ h)

      pub atom_err : next ≡ s.number → {new : Held Tok Cx St Er} {f : Fault}
          → Ran merged quiet s.atom wanted now new (Err f)
          → Ran merged quiet (whole merged quiet s wanted l) wanted l.held new (Err f)
      atom_err e h = headless (atom_left t.count t.counted e t.leads _ _ h)

      abbrev Tried : ℕ → Fixity → Meaning Tok Cx St Er V
      Tried count f = TryPrefix s (operand_of merged quiet s wanted l) l.held.place m.mark next f (prefixes merged quiet s wanted l m.mark count (suc next))

      -- the operator at the index, and those after it
      at_index : (count : ℕ) → next + count ≡ s.number → next < s.number → Leads merged quiet s wanted (prefixes merged quiet s wanted l m.mark count next) now Heads l.held
          → (k : ℕ) × (suc next + k ≡ s.number) × Leads merged quiet s wanted (Tried k (s.stands next)) now Heads l.held
      at_index zero e d h = absurd (omega (arith, e, d))
      at_index (suc count) e d h = (count, omega (arith, e), h)

      pub index_before : next ≤ s.number
      index_before = omega (arith, t.counted)

      -- one that is no prefix operator is passed over
      pub passes_postfix : next < s.number → (p : ℕ) → s.stands next ≡ Postfix p → (after : ℕ) → after ≡ suc next → TriesPrefixes merged quiet s wanted l m after now
      passes_postfix d p f after e =
          let i = at_index t.count t.counted d t.leads in
          let h : Leads merged quiet s wanted (Tried i.0 (Postfix p)) now Heads l.held = subst (λ x. Leads merged quiet s wanted (Tried i.0 x) now Heads l.held) f i.2 in
          rw e (record { count = i.0; counted = i.1; stands = t.stands; tokens = t.tokens; leads = h })

      pub passes_infix : next < s.number → (p q : ℕ) (c : Bool) → s.stands next ≡ Infix p q c → (after : ℕ) → after ≡ suc next → TriesPrefixes merged quiet s wanted l m after now
      passes_infix d p q c f after e =
          let i = at_index t.count t.counted d t.leads in
          let h : Leads merged quiet s wanted (Tried i.0 (Infix p q c)) now Heads l.held = subst (λ x. Leads merged quiet s wanted (Tried i.0 x) now Heads l.held) f i.2 in
          rw e (record { count = i.0; counted = i.1; stands = t.stands; tokens = t.tokens; leads = h })

      module _ (d : next < s.number) (power : ℕ) (f : s.stands next ≡ Prefix power) where
        abbrev Read : Meaning Tok Cx St Er V
        Read = AfterPrefix s (operand_of merged quiet s wanted l) l.held.place next power

        found_count : ℕ
        found_count = (at_index t.count t.counted d t.leads).0

        tries : (k : ℕ) × (suc next + k ≡ s.number) × Leads merged quiet s wanted (AttemptFrom s.back s.safe m.mark Read (prefixes merged quiet s wanted l m.mark k (suc next))) now Heads l.held
        tries =
            let i = at_index t.count t.counted d t.leads in
            (i.0, i.1, subst (λ x. Leads merged quiet s wanted (Tried i.0 x) now Heads l.held) f i.2)

        -- its reading is refused, or that of its operand
        pub try_stops : {new : Held Tok Cx St Er} (h : Stop)
            → Ran merged quiet Read wanted now new (Err (fault.Stop h))
            → Ran merged quiet (whole merged quiet s wanted l) wanted l.held new (Err (fault.Stop h))
        try_stops {new} h k =
            headless
            (tries.2 new _
            (attempt-stands merged quiet s.back s.safe m.mark Read
            (prefixes merged quiet s wanted l m.mark tries.0 (suc next)) wanted now new
            (Err (fault.Stop h)) k (λ e. cc)))

        -- it fails, or its operand does, and is gone back from
        pub try_fails : {new bk : Held Tok Cx St Er} → Ran merged quiet Read wanted now new (Err fault.Fail)
            → bk ≡ gone_back s.back new m → (after : ℕ) → after ≡ suc next
            → TriesPrefixes merged quiet s wanted l m after bk
        try_fails {new} {bk} h e after i =
            rw i (record {
              count = tries.0;
              counted = tries.1;
              stands = stands_at-after merged quiet s.back s.safe m Read wanted now new bk t.stands h e;
              tokens = ap (λ (z : Held Tok Cx St Er). z.tokens) e ∙ h.same.tokens ∙ t.tokens;
              leads = λ fin r k. tries.2 fin r (attempt-after merged quiet s.back s.safe m Read wanted now new (prefixes merged quiet s wanted l m.mark tries.0 (suc next)) bk fin r t.stands h e k);
            })

        pub try_lacks : {new fin : Held Tok Cx St Er} → Ran merged quiet Read wanted now new (Err fault.Fail)
            → fin ≡ new → (s.safe → ⊥)
            → Ran merged quiet (whole merged quiet s wanted l) wanted l.held fin (Err (fault.Stop Memory))
        try_lacks {new} {fin} h e may =
            headless
            (tries.2 fin _
            (attempt-unrestored merged quiet s.back s.safe m Read wanted now new
            (prefixes merged quiet s wanted l m.mark tries.0 (suc next)) fin h e may))

        -- it is read
        pub not_read : {new : Held Tok Cx St Er} {g : Fault} → Ran merged quiet (s.reads next) wanted now new (Err g) → Ran merged quiet Read wanted now new (Err g)
        not_read h = failed h refl refl

        -- its reading is refused, or it fails and can't be gone back from
        pub read_refused : {new : Held Tok Cx St Er} (h : Stop)
            → (Ran merged quiet (s.reads next) wanted now new (Err (fault.Stop h)) ⊎ ((h ≡ Memory) × Ran merged quiet (s.reads next) wanted now new (Err fault.Fail) × (s.safe → ⊥)))
            → Ran merged quiet (whole merged quiet s wanted l) wanted l.held new (Err (fault.Stop h))
        read_refused h (inl k) = try_stops h (not_read k)
        read_refused h (inr k) = rw k.0 (try_lacks (not_read k.1) refl k.2)

        pub read_stays : {new : Held Tok Cx St Er} (x : Option F)
            → Ran merged quiet (s.reads next) wanted now new (Ok x) → new.place ≤ l.held.place
            → Ran merged quiet (whole merged quiet s wanted l) wanted l.held new (Err (fault.Stop NoProgress))
        read_stays {new} x h e = try_stops NoProgress (chained h refl (not_onward l.held.place _ e))

        pub read_lacks : {new : Held Tok Cx St Er} (x : Option F)
            → Ran merged quiet (s.reads next) wanted now new (Ok x) → l.held.place < new.place
            → Ran merged quiet (whole merged quiet s wanted l) wanted l.held new (Err (fault.Stop Memory))
        read_lacks {new} x h e = try_stops Memory (chained h refl (onward l.held.place _ e (waiting-lacks _ new)))

        pub read_waits : {new : Held Tok Cx St Er} (x : Option F)
            → Ran merged quiet (s.reads next) wanted now new (Ok x) → l.held.place < new.place
            → new.place ≤ length new.tokens.list → (after : ℕ) → after ≡ suc next
            → WaitsPrefix merged quiet s wanted l x m after (record { least = power; held = new })
        read_waits {new} x h e w after i =
            let tokens : new.tokens ≡ l.held.tokens = h.same.tokens ∙ t.tokens in
            let long : length new.tokens.list ≡ length l.held.tokens.list = ap length (same_list tokens) in
            record {
              here = now;
              index = next;
              count = tries.0;
              is_next = i;
              counted = ap (λ z. z + tries.0) i ∙ tries.1;
              fixity = f;
              read = record { stands = t.stands; read = h; onward = e; room = omega (arith, e, w, long); tokens = tokens };
              here_tokens = t.tokens;
              leads =
                  λ fin r k. tries.2 fin r
                  (subst
                  (λ z. Ran merged quiet
                  (TryPrefix s (operand_of merged quiet s wanted l) l.held.place m.mark next z
                  (prefixes merged quiet s wanted l m.mark tries.0 (suc next)))
                  wanted now fin r)
                  f k);
            }

    module _ (f : Option F) (m : Marks Tok Mk) (next : ℕ) (inner : Begun Tok Cx St Er) (t : WaitsPrefix merged quiet s wanted l f m next inner) where
      -- what waits, as it was when its operator was tried
      was : TriesPrefixes merged quiet s wanted l m t.index t.here
      was = record { count = suc t.count; counted = omega (arith, t.counted, t.is_next); stands = t.read.stands; tokens = t.here_tokens; leads = t.leads }

      there : t.index < s.number
      there = omega (arith, t.counted, t.is_next)

      operated : {new : Held Tok Cx St Er} {r : Result (Option V) Fault}
          → Ran merged quiet
          (Chained (operand_of merged quiet s wanted l inner.least) (λ v. GivenShown s.gives l.held.place (all_there f (After v))))
          wanted inner.held new r
          → Ran merged quiet (AfterPrefix s (operand_of merged quiet s wanted l) l.held.place t.index inner.least) wanted t.here new r
      operated h = chained t.read.read refl (onward l.held.place _ t.read.onward (waiting _ h))

      -- its operand has a value, which ends past where its expression began; and it is folded
      pub prefix_order : EndsAfterStart s.atom → ((i : ℕ) → EndsAfterStart (s.reads i))
          → {now : Held Tok Cx St Er} (v : Option V)
          → Ran merged quiet (whole merged quiet s wanted inner) wanted inner.held now (Ok v)
          → l.held.place ≤ now.place
      prefix_order atom_ends reads_end {now} v h =
          let ends : EndsAfterStart (whole merged quiet s wanted inner) =
          level-ends s atom_ends reads_end (operand_of merged quiet s wanted inner)
          (below-ends s atom_ends reads_end (tokens_left inner.held)) inner.least in
          let on : inner.held.place ≤ now.place = ran-onward merged quiet (whole merged quiet s wanted inner) ends wanted inner.held now v h in
          omega (arith, on, t.read.onward)

      pub prefix_ok : EndsAfterStart s.atom → ((i : ℕ) → EndsAfterStart (s.reads i))
          → {now new : Held Tok Cx St Er} (v y : Option V)
          → Ran merged quiet (whole merged quiet s wanted inner) wanted inner.held now (Ok v)
          → Ran merged quiet (GivenShown s.gives l.held.place (all_there f (After v))) wanted now new (Ok y) → HasValue merged quiet s wanted l y any_power new
      prefix_ok atom_ends reads_end {now} {new} v y h g =
          let r = operated (chained (operand_ran l inner t.read.room h) refl g) in
          let i = tries m t.index t.here was there inner.least t.fixity in
          headed atom_ends reads_end y
          (i.2 new (Ok y)
          (attempt-stands merged quiet s.back s.safe m.mark
          (AfterPrefix s (operand_of merged quiet s wanted l) l.held.place t.index inner.least)
          (prefixes merged quiet s wanted l m.mark i.0 (suc t.index)) wanted t.here new (Ok y) r
          (λ e. cc)))

      not_operated : {now : Held Tok Cx St Er} {g : Fault}
          → Ran merged quiet (whole merged quiet s wanted inner) wanted inner.held now (Err g)
          → Ran merged quiet (AfterPrefix s (operand_of merged quiet s wanted l) l.held.place t.index inner.least) wanted t.here now (Err g)
      not_operated h = operated (failed (operand_ran l inner t.read.room h) refl refl)

      -- it is refused, or it fails
      pub prefix_stops : {now : Held Tok Cx St Er} (g : Stop)
          → Ran merged quiet (whole merged quiet s wanted inner) wanted inner.held now (Err (fault.Stop g))
          → Ran merged quiet (whole merged quiet s wanted l) wanted l.held now (Err (fault.Stop g))
      prefix_stops g h = try_stops m t.index t.here was there inner.least t.fixity g (not_operated h)

      pub prefix_fails : {now bk : Held Tok Cx St Er}
          → Ran merged quiet (whole merged quiet s wanted inner) wanted inner.held now (Err fault.Fail)
          → bk ≡ gone_back s.back now m → TriesPrefixes merged quiet s wanted l m next bk
      prefix_fails h e = try_fails m t.index t.here was there inner.least t.fixity (not_operated h) e next t.is_next

      pub prefix_lacks : {now fin : Held Tok Cx St Er}
          → Ran merged quiet (whole merged quiet s wanted inner) wanted inner.held now (Err fault.Fail) → fin ≡ now
          → (s.safe → ⊥)
          → Ran merged quiet (whole merged quiet s wanted l) wanted l.held fin (Err (fault.Stop Memory))
      prefix_lacks h e may = try_lacks m t.index t.here was there inner.least t.fixity (not_operated h) e may

      pub prefix_tokens : {now : Held Tok Cx St Er} {r : Result (Option V) Fault} → Ran merged quiet (whole merged quiet s wanted inner) wanted inner.held now r → m.tokens ≡ now.tokens
      prefix_tokens h = t.read.stands.tokens ∙ t.here_tokens ∙ sym t.read.tokens ∙ sym h.same.tokens
