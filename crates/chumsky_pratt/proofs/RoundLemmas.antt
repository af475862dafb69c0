-- What rounds of operators after a value lead to.
use Rattle.std.proofs.Common.{◌≡◌, ℕ, zero, suc, ◌+◌, ◌<◌, ◌≤◌, Bool, Option, Some, length, refl, sym, ap, subst, ◌∙◌, Result, Ok, Err, inl, inr, arith, ◌⊎◌}
use Rattle.chumsky_input.specs.Layout.{same_list}
use Rattle.chumsky_input.specs.declared.stop.Fault.{Fault}
use Rattle.chumsky_input.specs.declared.stop.Fault.TheVariants as fault
use Rattle.chumsky_input.specs.declared.stop.Stop.{Stop}
use Rattle.chumsky_input.specs.declared.stop.Stop.TheVariants.{Memory, NoProgress}
use Rattle.chumsky_input.specs.Held.{Held, Marks}
use Rattle.chumsky_input.specs.Outcome.{Meaning}
use Rattle.chumsky_input.specs.Run.{Ran, marked_here, gone_back}
use Rattle.chumsky_parser.specs.Chained.{Chained, Given}
use Rattle.chumsky_parser.specs.Choice.{AttemptFrom}
use Rattle.chumsky_parser.specs.Showing.{GivenShown}
use Rattle.chumsky_parser.proofs.ChainedLemmas.{ran-weaker, ran-given, chained, failed}
use Rattle.chumsky_parser.proofs.ChoiceLemmas.{attempt-stands, attempt-after, attempt-unrestored, stands_at-after, stands_at-marked, ran-marked, ran-not_marked}
use Rattle.chumsky_pratt.specs.declared.fixity.Fixity.{Fixity}
use Rattle.chumsky_pratt.specs.declared.fixity.Fixity.TheVariants.{Prefix, Postfix, Infix}
use Rattle.chumsky_pratt.specs.declared.operands.Operands.TheVariants.{Before, Around}
use Rattle.chumsky_pratt.specs.Operators.{bound_by}
use Rattle.chumsky_pratt.specs.Expression.{Syntax, Turn, Rests, Goes, all_there, Onward, AfterPostfix, AfterInfix, TryPostfix, TryInfix, Rounds}
use Rattle.chumsky_pratt.specs.Climbing.{Begun, Leads, operand_of, whole, rounds_of, round_of, infixes, postfixes, HasValue, TriesPostfixes, TriesInfixes, WaitsInfix}
use Rattle.chumsky_pratt.proofs.ClimbLemmas.{waiting-lacks, waiting, onward, not_onward, operand_ran}

module _ {Tok Cx St Mk Er F V : Type 0} (merged : Er → Er → Er) (quiet : Type 0) (s : Syntax Tok Cx St Mk Er F V) (wanted : Bool) (l : Begun Tok Cx St Er) where
  abbrev op : ℕ → Meaning Tok Cx St Er V
  op = operand_of merged quiet s wanted l

  module _ (x : Option V) (below : ℕ) (turn : Held Tok Cx St Er) (began : turn.tokens ≡ l.held.tokens)
      (after : Leads merged quiet s wanted (rounds_of merged quiet s wanted l below x) turn (whole merged quiet s wanted l) l.held) where
    abbrev Turned : Meaning Tok Cx St Er (Turn V)
    Turned = round_of merged quiet s wanted l below x

    -- a round is refused, does nothing, or gives a value
    stopped : {new : Held Tok Cx St Er} {f : Fault} → Ran merged quiet Turned wanted turn new (Err f) → Ran merged quiet (whole merged quiet s wanted l) wanted l.held new (Err f)
    stopped {new} {f} h =
        after new (Err f)
        (ran-weaker merged quiet (Rounds s op l.held.place l.least (suc zero) below x)
        (rounds_of merged quiet s wanted l below x) wanted turn new (Err f)
        (λ o k. record { rounds = suc zero; run = k }) (failed h refl refl))

    rested : {new : Held Tok Cx St Er} → Ran merged quiet Turned wanted turn new (Ok (Some Rests)) → Ran merged quiet (whole merged quiet s wanted l) wanted l.held new (Ok x)
    rested {new} h =
        after new (Ok x)
        (ran-weaker merged quiet (Rounds s op l.held.place l.least (suc zero) below x)
        (rounds_of merged quiet s wanted l below x) wanted turn new (Ok x)
        (λ o k. record { rounds = suc zero; run = k }) (chained h refl ran-given))

    gone_round : {now : Held Tok Cx St Er} (bound : ℕ) (y : Option V)
        → Ran merged quiet Turned wanted turn now (Ok (Some (Goes bound y))) → l.held.place ≤ now.place
        → HasValue merged quiet s wanted l y bound now
    gone_round {now} bound y h order =
        record {
          tokens = h.same.tokens ∙ began;
          order = order;
          leads = λ fin r k.
              let n = k.meant.rounds in
              let rest : Ran merged quiet (Rounds s op l.held.place l.least n bound y) wanted now fin r =
              record { outcome = k.outcome; meant = k.meant.run; answered = k.answered; state = k.state; left = k.left; same = k.same }
              in
              after fin r
              (ran-weaker merged quiet (Rounds s op l.held.place l.least (suc n) below x)
              (rounds_of merged quiet s wanted l below x) wanted turn fin r
              (λ o m. record { rounds = suc n; run = m }) (chained h refl rest));
        }

  module _ (x : Option V) (below : ℕ) (now : Held Tok Cx St Er) (v : HasValue merged quiet s wanted l x below now) where
    -- a round begins
    pub value_marked : (m : Marks Tok Mk) → m ≡ marked_here s.mark now → TriesPostfixes merged quiet s wanted l x below m 0 now
    value_marked m e =
        record {
          turn = now;
          count = s.number;
          counted = omega arith;
          stands = stands_at-marked s.mark m now e;
          at = ap (λ (z : Marks Tok Mk). z.place) e;
          tokens = v.tokens;
          began = v.tokens;
          order = v.order;
          leads = λ new r h. ran-weaker merged quiet _ (round_of merged quiet s wanted l below x) wanted now new r (λ o k. record { run = k })
              (ran-marked merged quiet s.mark s.safe (λ k. postfixes merged quiet s wanted l now.place x below k s.number 0) wanted now m new r e h);
          after = v.leads;
        }

    pub value_lacks : (s.safe → ⊥) → Ran merged quiet (whole merged quiet s wanted l) wanted l.held now (Err (fault.Stop Memory))
    value_lacks may =
        stopped x below now v.tokens v.leads (ran-weaker merged quiet _ (round_of merged quiet s wanted l below x) wanted now now (Err (fault.Stop Memory)) (λ o k. record { run = k })
        (ran-not_marked merged quiet s.mark s.safe (λ k. postfixes merged quiet s wanted l now.place x below k s.number 0) wanted now may))

  module _ (x : Option V) (below : ℕ) (m : Marks Tok Mk) (next : ℕ) (now : Held Tok Cx St Er) (t : TriesPostfixes merged quiet s wanted l x below m next now) where
    last_postfix : (count : ℕ) → next + count ≡ s.number → next ≡ s.number
        → Leads merged quiet s wanted (postfixes merged quiet s wanted l t.turn.place x below m.mark count next) now
        (round_of merged quiet s wanted l below x) t.turn
        → Leads merged quiet s wanted (infixes merged quiet s wanted l t.turn.place x below m.mark s.number 0) now (round_of merged quiet s wanted l below x) t.turn
    last_postfix zero e d h = h
    last_postfix (suc count) e d h = absurd (omega (arith, e, d))

    -- past the last postfix operator infix ones
    pub to_infixes : next ≡ s.number → TriesInfixes merged quiet s wanted l x below m 0 now
    to_infixes e =
        record {
          turn = t.turn;
          count = s.number;
          counted = omega arith;
          stands = t.stands;
          at = t.at;
          tokens = t.tokens;
          began = t.began;
          order = t.order;
          leads = last_postfix t.count t.counted e t.leads;
          after = t.after;
        }

    pub postfix_before : next ≤ s.number
    postfix_before = omega (arith, t.counted)

    abbrev TriedPostfix : ℕ → Fixity → Meaning Tok Cx St Er (Turn V)
    TriedPostfix count f = TryPostfix s op l.held.place l.least t.turn.place x below m.mark next f (postfixes merged quiet s wanted l t.turn.place x below m.mark count (suc next))

    abbrev Leading : Meaning Tok Cx St Er (Turn V) → Type 0
    Leading n = Leads merged quiet s wanted n now (round_of merged quiet s wanted l below x) t.turn

    at_postfix : (count : ℕ) → next + count ≡ s.number → next < s.number
        → Leading (postfixes merged quiet s wanted l t.turn.place x below m.mark count next)
        → (k : ℕ) × (suc next + k ≡ s.number) × Leading (TriedPostfix k (s.stands next))
    at_postfix zero e d h = absurd (omega (arith, e, d))
    at_postfix (suc count) e d h = (count, omega (arith, e), h)

    beyond_postfix : (k : ℕ) → suc next + k ≡ s.number
        → Leading (postfixes merged quiet s wanted l t.turn.place x below m.mark k (suc next)) → (to : ℕ)
        → to ≡ suc next → TriesPostfixes merged quiet s wanted l x below m to now
    beyond_postfix k e h to i = rw i (record { turn = t.turn; count = k; counted = e; stands = t.stands; at = t.at; tokens = t.tokens; began = t.began; order = t.order; leads = h; after = t.after })

    -- what is no postfix operator is passed over, and one that is too weak
    pub no_postfix_prefix : next < s.number → (p : ℕ) → s.stands next ≡ Prefix p → (to : ℕ) → to ≡ suc next → TriesPostfixes merged quiet s wanted l x below m to now
    no_postfix_prefix d p f to i =
        let k = at_postfix t.count t.counted d t.leads in
        let h : Leading (TriedPostfix k.0 (Prefix p)) = subst (λ z. Leading (TriedPostfix k.0 z)) f k.2 in
        beyond_postfix k.0 k.1 h to i

    pub no_postfix_infix : next < s.number → (p q : ℕ) (c : Bool) → s.stands next ≡ Infix p q c → (to : ℕ) → to ≡ suc next → TriesPostfixes merged quiet s wanted l x below m to now
    no_postfix_infix d p q c f to i =
        let k = at_postfix t.count t.counted d t.leads in
        let h : Leading (TriedPostfix k.0 (Infix p q c)) = subst (λ z. Leading (TriedPostfix k.0 z)) f k.2 in
        beyond_postfix k.0 k.1 h to i

    pub weak_postfix : next < s.number → (p : ℕ) → s.stands next ≡ Postfix p → p < l.least → (to : ℕ) → to ≡ suc next → TriesPostfixes merged quiet s wanted l x below m to now
    weak_postfix d p f w to i =
        let k = at_postfix t.count t.counted d t.leads in
        let h : Leading (TriedPostfix k.0 (Postfix p)) = subst (λ z. Leading (TriedPostfix k.0 z)) f k.2 in
        let rest = postfixes merged quiet s wanted l t.turn.place x below m.mark k.0 (suc next) in
        beyond_postfix k.0 k.1 (λ fin r n. h fin r (ran-weaker merged quiet rest (TriedPostfix k.0 (Postfix p)) wanted now fin r (λ o j. inr (w, j)) n)) to i

    module _ (d : next < s.number) (power : ℕ) (f : s.stands next ≡ Postfix power) (enough : l.least ≤ power) where
      abbrev ReadPostfix : Meaning Tok Cx St Er (Turn V)
      ReadPostfix = AfterPostfix s op l.held.place t.turn.place x below next

      tries_postfix : (k : ℕ) × (suc next + k ≡ s.number) × Leading (AttemptFrom s.back s.safe m.mark ReadPostfix (postfixes merged quiet s wanted l t.turn.place x below m.mark k (suc next)))
      tries_postfix =
          let k = at_postfix t.count t.counted d t.leads in
          let h : Leading (TriedPostfix k.0 (Postfix power)) = subst (λ z. Leading (TriedPostfix k.0 z)) f k.2 in
          let rest = postfixes merged quiet s wanted l t.turn.place x below m.mark k.0 (suc next) in
          (k.0, k.1, λ fin r n. h fin r (ran-weaker merged quiet (AttemptFrom s.back s.safe m.mark ReadPostfix rest) (TriedPostfix k.0 (Postfix power)) wanted now fin r (λ o j. inl (enough, j)) n))

      stands_postfix : {new : Held Tok Cx St Er} {r : Result (Option (Turn V)) Fault}
          → Ran merged quiet ReadPostfix wanted now new r → (r ≡ Err fault.Fail → ⊥)
          → Ran merged quiet (round_of merged quiet s wanted l below x) wanted t.turn new r
      stands_postfix {new} {r} h n =
          let k = tries_postfix in
          k.2 new r
          (attempt-stands merged quiet s.back s.safe m.mark ReadPostfix
          (postfixes merged quiet s wanted l t.turn.place x below m.mark k.0 (suc next)) wanted now new r h n)

      pub postfix_stops : {new : Held Tok Cx St Er} (h : Stop)
          → Ran merged quiet (s.reads next) wanted now new (Err (fault.Stop h))
          → Ran merged quiet (whole merged quiet s wanted l) wanted l.held new (Err (fault.Stop h))
      postfix_stops h k = stopped x below t.turn t.began t.after (stands_postfix (failed k refl refl) (λ e. cc))

      pub postfix_fails : {new bk : Held Tok Cx St Er}
          → Ran merged quiet (s.reads next) wanted now new (Err fault.Fail) → bk ≡ gone_back s.back new m → (to : ℕ)
          → to ≡ suc next → TriesPostfixes merged quiet s wanted l x below m to bk
      postfix_fails {new} {bk} n e to i =
          let k = tries_postfix in
          let h : Ran merged quiet ReadPostfix wanted now new (Err fault.Fail) = failed n refl refl in
          rw i (record {
            turn = t.turn;
            count = k.0;
            counted = k.1;
            stands = stands_at-after merged quiet s.back s.safe m ReadPostfix wanted now new bk t.stands h e;
            at = t.at;
            tokens = ap (λ (z : Held Tok Cx St Er). z.tokens) e ∙ h.same.tokens ∙ t.tokens;
            began = t.began;
            order = t.order;
            leads =
                λ fin r j. k.2 fin r
                (attempt-after merged quiet s.back s.safe m ReadPostfix wanted now new
                (postfixes merged quiet s wanted l t.turn.place x below m.mark k.0 (suc next)) bk fin r
                t.stands h e j);
            after = t.after;
          })

      pub postfix_lacks : {new fin : Held Tok Cx St Er}
          → Ran merged quiet (s.reads next) wanted now new (Err fault.Fail) → fin ≡ new → (s.safe → ⊥)
          → Ran merged quiet (whole merged quiet s wanted l) wanted l.held fin (Err (fault.Stop Memory))
      postfix_lacks {new} {fin} n e may =
          let k = tries_postfix in
          stopped x below t.turn t.began t.after
          (k.2 fin _
          (attempt-unrestored merged quiet s.back s.safe m ReadPostfix wanted now new
          (postfixes merged quiet s wanted l t.turn.place x below m.mark k.0 (suc next)) fin
          (failed n refl refl) e may))

      -- its reading is refused, or it fails and can't be gone back from
      pub postfix_read_refused : {new : Held Tok Cx St Er} (h : Stop)
          → (Ran merged quiet (s.reads next) wanted now new (Err (fault.Stop h)) ⊎ ((h ≡ Memory) × Ran merged quiet (s.reads next) wanted now new (Err fault.Fail) × (s.safe → ⊥)))
          → Ran merged quiet (whole merged quiet s wanted l) wanted l.held new (Err (fault.Stop h))
      postfix_read_refused h (inl k) = postfix_stops h k
      postfix_read_refused h (inr k) = rw k.0 (postfix_lacks k.1 refl k.2)

      pub postfix_stays : {new : Held Tok Cx St Er} (g : Option F)
          → Ran merged quiet (s.reads next) wanted now new (Ok g) → new.place ≤ t.turn.place
          → Ran merged quiet (whole merged quiet s wanted l) wanted l.held new (Err (fault.Stop NoProgress))
      postfix_stays g h e = stopped x below t.turn t.began t.after (stands_postfix (chained h refl (not_onward t.turn.place _ e)) (λ e. cc))

      pub postfix_goes : {mid new : Held Tok Cx St Er} (g : Option F) (y : Option V)
          → Ran merged quiet (s.reads next) wanted now mid (Ok g) → t.turn.place < mid.place
          → Ran merged quiet (GivenShown s.gives l.held.place (all_there g (Before x))) wanted mid new (Ok y)
          → new.place ≡ mid.place → HasValue merged quiet s wanted l y below new
      postfix_goes g y h e n p =
          gone_round x below t.turn t.began t.after below y (stands_postfix (chained h refl (onward t.turn.place _ e (chained n refl ran-given))) (λ e. cc)) (omega (arith, t.order, e, p))

  module _ (x : Option V) (below : ℕ) (m : Marks Tok Mk) (next : ℕ) (now : Held Tok Cx St Er) (t : TriesInfixes merged quiet s wanted l x below m next now) where
    abbrev LeadingIn : Meaning Tok Cx St Er (Turn V) → Type 0
    LeadingIn n = Leads merged quiet s wanted n now (round_of merged quiet s wanted l below x) t.turn

    abbrev rest_of : ℕ → ℕ → Meaning Tok Cx St Er (Turn V)
    rest_of count i = infixes merged quiet s wanted l t.turn.place x below m.mark count i

    last_infix : (count : ℕ) → next + count ≡ s.number → next ≡ s.number → LeadingIn (rest_of count next) → LeadingIn (Given (Some Rests))
    last_infix zero e d h = h
    last_infix (suc count) e d h = absurd (omega (arith, e, d))

    -- past the last infix operator the expression has its value
    pub infixes_rest : next ≡ s.number → Ran merged quiet (whole merged quiet s wanted l) wanted l.held now (Ok x)
    infixes_rest e = rested x below t.turn t.began t.after (last_infix t.count t.counted e t.leads _ _ ran-given)

    pub infix_before : next ≤ s.number
    infix_before = omega (arith, t.counted)

    abbrev TriedInfix : ℕ → Fixity → Meaning Tok Cx St Er (Turn V)
    TriedInfix count f = TryInfix s op l.held.place l.least t.turn.place x below m.mark next f (rest_of count (suc next))

    at_infix : (count : ℕ) → next + count ≡ s.number → next < s.number → LeadingIn (rest_of count next) → (k : ℕ) × (suc next + k ≡ s.number) × LeadingIn (TriedInfix k (s.stands next))
    at_infix zero e d h = absurd (omega (arith, e, d))
    at_infix (suc count) e d h = (count, omega (arith, e), h)

    beyond_infix : (k : ℕ) → suc next + k ≡ s.number → LeadingIn (rest_of k (suc next)) → (to : ℕ) → to ≡ suc next → TriesInfixes merged quiet s wanted l x below m to now
    beyond_infix k e h to i = rw i (record { turn = t.turn; count = k; counted = e; stands = t.stands; at = t.at; tokens = t.tokens; began = t.began; order = t.order; leads = h; after = t.after })

    pub no_infix_prefix : next < s.number → (p : ℕ) → s.stands next ≡ Prefix p → (to : ℕ) → to ≡ suc next → TriesInfixes merged quiet s wanted l x below m to now
    no_infix_prefix d p f to i =
        let k = at_infix t.count t.counted d t.leads in
        let h : LeadingIn (TriedInfix k.0 (Prefix p)) = subst (λ z. LeadingIn (TriedInfix k.0 z)) f k.2 in
        beyond_infix k.0 k.1 h to i

    pub no_infix_postfix : next < s.number → (p : ℕ) → s.stands next ≡ Postfix p → (to : ℕ) → to ≡ suc next → TriesInfixes merged quiet s wanted l x below m to now
    no_infix_postfix d p f to i =
        let k = at_infix t.count t.counted d t.leads in
        let h : LeadingIn (TriedInfix k.0 (Postfix p)) = subst (λ z. LeadingIn (TriedInfix k.0 z)) f k.2 in
        beyond_infix k.0 k.1 h to i

    -- one that is too weak, or bounded, is passed over
    pub unfit_infix : next < s.number → (p q : ℕ) (c : Bool) → s.stands next ≡ Infix p q c
        → (p < l.least) ⊎ (below ≤ p) → (to : ℕ) → to ≡ suc next
        → TriesInfixes merged quiet s wanted l x below m to now
    unfit_infix d p q c f w to i =
        let k = at_infix t.count t.counted d t.leads in
        let h : LeadingIn (TriedInfix k.0 (Infix p q c)) = subst (λ z. LeadingIn (TriedInfix k.0 z)) f k.2 in
        beyond_infix k.0 k.1 (λ fin r n. h fin r (ran-weaker merged quiet (rest_of k.0 (suc next)) (TriedInfix k.0 (Infix p q c)) wanted now fin r (λ o j. inr (w, j)) n)) to i

    count_is : (count : ℕ) → next + count ≡ s.number → (k : ℕ) → suc next + k ≡ s.number → count ≡ suc k
    count_is count e k d = omega (arith, e, d)

    module _ (d : next < s.number) (left power : ℕ) (chains : Bool) (f : s.stands next ≡ Infix left power chains) (enough : l.least ≤ left) (under : left < below) where
      abbrev ReadInfix : Meaning Tok Cx St Er (Turn V)
      ReadInfix = AfterInfix s op l.held.place t.turn.place x (bound_by chains below left) next power

      tries_infix : (k : ℕ) × (suc next + k ≡ s.number) × LeadingIn (AttemptFrom s.back s.safe m.mark ReadInfix (rest_of k (suc next)))
      tries_infix =
          let k = at_infix t.count t.counted d t.leads in
          let h : LeadingIn (TriedInfix k.0 (Infix left power chains)) = subst (λ z. LeadingIn (TriedInfix k.0 z)) f k.2 in (
            k.0,
            k.1,
            λ fin r n. h fin r
                (ran-weaker merged quiet (AttemptFrom s.back s.safe m.mark ReadInfix (rest_of k.0 (suc next)))
                (TriedInfix k.0 (Infix left power chains)) wanted now fin r (λ o j. inl (enough, under, j)) n),
          )

      stands_infix : {new : Held Tok Cx St Er} {r : Result (Option (Turn V)) Fault}
          → Ran merged quiet ReadInfix wanted now new r → (r ≡ Err fault.Fail → ⊥)
          → Ran merged quiet (round_of merged quiet s wanted l below x) wanted t.turn new r
      stands_infix {new} {r} h n = let k = tries_infix in k.2 new r (attempt-stands merged quiet s.back s.safe m.mark ReadInfix (rest_of k.0 (suc next)) wanted now new r h n)

      pub infix_stops : {new : Held Tok Cx St Er} (h : Stop)
          → Ran merged quiet ReadInfix wanted now new (Err (fault.Stop h))
          → Ran merged quiet (whole merged quiet s wanted l) wanted l.held new (Err (fault.Stop h))
      infix_stops h k = stopped x below t.turn t.began t.after (stands_infix k (λ e. cc))

      pub infix_fails : {new bk : Held Tok Cx St Er} → Ran merged quiet ReadInfix wanted now new (Err fault.Fail)
          → bk ≡ gone_back s.back new m → (to : ℕ) → to ≡ suc next
          → TriesInfixes merged quiet s wanted l x below m to bk
      infix_fails {new} {bk} h e to i =
          let k = tries_infix in
          rw i (record {
            turn = t.turn;
            count = k.0;
            counted = k.1;
            stands = stands_at-after merged quiet s.back s.safe m ReadInfix wanted now new bk t.stands h e;
            at = t.at;
            tokens = ap (λ (z : Held Tok Cx St Er). z.tokens) e ∙ h.same.tokens ∙ t.tokens;
            began = t.began;
            order = t.order;
            leads = λ fin r j. k.2 fin r (attempt-after merged quiet s.back s.safe m ReadInfix wanted now new (rest_of k.0 (suc next)) bk fin r t.stands h e j);
            after = t.after;
          })

      pub infix_lacks : {new fin : Held Tok Cx St Er} → Ran merged quiet ReadInfix wanted now new (Err fault.Fail)
          → fin ≡ new → (s.safe → ⊥)
          → Ran merged quiet (whole merged quiet s wanted l) wanted l.held fin (Err (fault.Stop Memory))
      infix_lacks {new} {fin} h e may =
          let k = tries_infix in
          stopped x below t.turn t.began t.after (k.2 fin _ (attempt-unrestored merged quiet s.back s.safe m ReadInfix wanted now new (rest_of k.0 (suc next)) fin h e may))

      pub infix_unread : {new : Held Tok Cx St Er} {g : Fault} → Ran merged quiet (s.reads next) wanted now new (Err g) → Ran merged quiet ReadInfix wanted now new (Err g)
      infix_unread h = failed h refl refl

      -- its reading is refused, or it fails and can't be gone back from
      pub infix_read_refused : {new : Held Tok Cx St Er} (h : Stop)
          → (Ran merged quiet (s.reads next) wanted now new (Err (fault.Stop h)) ⊎ ((h ≡ Memory) × Ran merged quiet (s.reads next) wanted now new (Err fault.Fail) × (s.safe → ⊥)))
          → Ran merged quiet (whole merged quiet s wanted l) wanted l.held new (Err (fault.Stop h))
      infix_read_refused h (inl k) = infix_stops h (infix_unread k)
      infix_read_refused h (inr k) = rw k.0 (infix_lacks (infix_unread k.1) refl k.2)

      pub infix_stays : {new : Held Tok Cx St Er} (g : Option F)
          → Ran merged quiet (s.reads next) wanted now new (Ok g) → new.place ≤ l.held.place
          → Ran merged quiet (whole merged quiet s wanted l) wanted l.held new (Err (fault.Stop NoProgress))
      infix_stays g h e = infix_stops NoProgress (chained h refl (not_onward l.held.place _ e))

      pub infix_unpushed : {new : Held Tok Cx St Er} (g : Option F)
          → Ran merged quiet (s.reads next) wanted now new (Ok g) → l.held.place < new.place
          → Ran merged quiet (whole merged quiet s wanted l) wanted l.held new (Err (fault.Stop Memory))
      infix_unpushed {new} g h e = infix_stops Memory (chained h refl (onward l.held.place _ e (waiting-lacks _ new)))

      pub infix_waits : {new : Held Tok Cx St Er} (g : Option F)
          → Ran merged quiet (s.reads next) wanted now new (Ok g) → l.held.place < new.place
          → new.place ≤ length new.tokens.list → (to : ℕ) → to ≡ suc next → (then_below : ℕ)
          → then_below ≡ bound_by chains below left
          → WaitsInfix merged quiet s wanted l g m to x below then_below (record { least = power; held = new })
      infix_waits {new} g h e w to i then_below b =
          let k = tries_infix in
          let tokens : new.tokens ≡ l.held.tokens = h.same.tokens ∙ t.tokens in
          let long : length new.tokens.list ≡ length l.held.tokens.list = ap length (same_list tokens) in
          record {
            here = now;
            turn = t.turn;
            index = next;
            count = k.0;
            is_next = i;
            counted = ap (λ z. z + k.0) i ∙ k.1;
            at = t.at;
            left = left;
            chains = chains;
            fixity = f;
            enough = enough;
            under = under;
            bound = b;
            here_tokens = t.tokens;
            began = t.began;
            order = t.order;
            read = record { stands = t.stands; read = h; onward = e; room = omega (arith, e, w, long); tokens = tokens };
            leads = λ fin r n. t.leads fin r (subst (λ c. Ran merged quiet (rest_of c next) wanted now fin r) (sym (count_is t.count t.counted k.0 k.1)) n);
            after = t.after;
          }

  module _ (f : Option F) (m : Marks Tok Mk) (next : ℕ) (x : Option V) (below then_below : ℕ)
      (inner : Begun Tok Cx St Er) (t : WaitsInfix merged quiet s wanted l f m next x below then_below inner) where
    abbrev was_tried : TriesInfixes merged quiet s wanted l x below m t.index t.here
    was_tried =
        record {
          turn = t.turn;
          count = suc t.count;
          counted = omega (arith, t.counted, t.is_next);
          stands = t.read.stands;
          at = t.at;
          tokens = t.here_tokens;
          began = t.began;
          order = t.order;
          leads = t.leads;
          after = t.after;
        }

    was_there : t.index < s.number
    was_there = omega (arith, t.counted, t.is_next)

    abbrev Bound : ℕ
    Bound = bound_by t.chains below t.left

    abbrev Operand : Meaning Tok Cx St Er (Turn V)
    Operand = Chained (op inner.least) (λ v. Onward t.turn.place (Chained (GivenShown s.gives l.held.place (all_there f (Around x v))) (λ y. Given (Some (Goes Bound y)))))

    operated : {new : Held Tok Cx St Er} {r : Result (Option (Turn V)) Fault}
        → Ran merged quiet Operand wanted inner.held new r
        → Ran merged quiet (AfterInfix s op l.held.place t.turn.place x Bound t.index inner.least) wanted t.here new r
    operated h = chained t.read.read refl (onward l.held.place _ t.read.onward (waiting _ h))

    not_operated : {now : Held Tok Cx St Er} {g : Fault}
        → Ran merged quiet (whole merged quiet s wanted inner) wanted inner.held now (Err g)
        → Ran merged quiet (AfterInfix s op l.held.place t.turn.place x Bound t.index inner.least) wanted t.here now (Err g)
    not_operated h = operated (failed (operand_ran merged quiet s wanted l inner t.read.room h) refl refl)

    -- its operand has a value
    pub infix_ok : {now new : Held Tok Cx St Er} (v y : Option V) → Ran merged quiet (whole merged quiet s wanted inner) wanted inner.held now (Ok v) → t.turn.place < now.place
        → Ran merged quiet (GivenShown s.gives l.held.place (all_there f (Around x v))) wanted now new (Ok y) → new.place ≡ now.place → HasValue merged quiet s wanted l y then_below new
    infix_ok {now} {new} v y h e g p =
        let r = operated (chained (operand_ran merged quiet s wanted l inner t.read.room h) refl (onward t.turn.place _ e (chained g refl ran-given))) in
        let k : HasValue merged quiet s wanted l y Bound new =
        gone_round x below t.turn t.began t.after Bound y
        (stands_infix x below m t.index t.here was_tried was_there t.left inner.least t.chains t.fixity
        t.enough t.under r (λ e. cc))
        (omega (arith, t.order, e, p)) in
        rw t.bound k

    pub infix_still : {now : Held Tok Cx St Er} (v : Option V)
        → Ran merged quiet (whole merged quiet s wanted inner) wanted inner.held now (Ok v) → now.place ≤ t.turn.place
        → Ran merged quiet (whole merged quiet s wanted l) wanted l.held now (Err (fault.Stop NoProgress))
    infix_still {now} v h e =
        let r = operated (chained (operand_ran merged quiet s wanted l inner t.read.room h) refl (not_onward t.turn.place _ e)) in
        infix_stops x below m t.index t.here was_tried was_there t.left inner.least t.chains t.fixity t.enough t.under NoProgress r

    -- it is refused, or it fails
    pub infix_refused : {now : Held Tok Cx St Er} (g : Stop)
        → Ran merged quiet (whole merged quiet s wanted inner) wanted inner.held now (Err (fault.Stop g))
        → Ran merged quiet (whole merged quiet s wanted l) wanted l.held now (Err (fault.Stop g))
    infix_refused g h = infix_stops x below m t.index t.here was_tried was_there t.left inner.least t.chains t.fixity t.enough t.under g (not_operated h)

    pub infix_failed : {now bk : Held Tok Cx St Er}
        → Ran merged quiet (whole merged quiet s wanted inner) wanted inner.held now (Err fault.Fail)
        → bk ≡ gone_back s.back now m → TriesInfixes merged quiet s wanted l x below m next bk
    infix_failed h e = infix_fails x below m t.index t.here was_tried was_there t.left inner.least t.chains t.fixity t.enough t.under (not_operated h) e next t.is_next

    pub infix_unrestored : {now fin : Held Tok Cx St Er}
        → Ran merged quiet (whole merged quiet s wanted inner) wanted inner.held now (Err fault.Fail) → fin ≡ now
        → (s.safe → ⊥) → Ran merged quiet (whole merged quiet s wanted l) wanted l.held fin (Err (fault.Stop Memory))
    infix_unrestored h e may = infix_lacks x below m t.index t.here was_tried was_there t.left inner.least t.chains t.fixity t.enough t.under (not_operated h) e may

    pub infix_tokens : {now : Held Tok Cx St Er} {r : Result (Option V) Fault} → Ran merged quiet (whole merged quiet s wanted inner) wanted inner.held now r → m.tokens ≡ now.tokens
    infix_tokens h = t.read.stands.tokens ∙ t.here_tokens ∙ sym t.read.tokens ∙ sym h.same.tokens
