-- What one more alternative adds to an ordered choice.
use Rattle.std.proofs.Common.{◌≡◌, Bool, Option, List, [], ◌∷◌, ◌∙◌, refl, subst, Result, Ok, Err, inl, inr}
use Rattle.chumsky_input.specs.declared.stop.Fault.{Fault}
use Rattle.chumsky_input.specs.declared.stop.Fault.TheVariants as fault
use Rattle.chumsky_input.specs.declared.stop.Stop.TheVariants.{Memory}
use Rattle.chumsky_input.specs.Outcome.{Meaning, Beginning, Outcome}
use Rattle.chumsky_input.specs.Held.{Held, Marks}
use Rattle.chumsky_input.specs.Run.{Ran, gone_back, marked_here}
use Rattle.chumsky_parser.specs.Choice.{AttemptFrom, FirstFrom, FirstOf, StandsAt}
use Rattle.chumsky_parser.specs.ChoiceLaws.{attempts-first_from}
use Rattle.chumsky_parser.proofs.ChainedLemmas.{ran-weaker}
use Rattle.chumsky_parser.proofs.ChoiceLemmas.{attempt-stands, attempt-gone_back, attempt-unrestored, ran-marked, stands_at-marked, stands_at-back}
use Rattle.chumsky_parser.proofs.FailureLemmas.{ran-halts}
use Rattle.chumsky_choice.specs.Next.{GoesToNext}

module _ {Tok Cx St Mk Er V : Type 0} {merged : Er → Er → Er} {safe : Type 0} {back : St → Mk → St} {quiet : Type 0} {m : Marks Tok Mk} {wanted : Bool} where
  after_tried : (first next : Meaning Tok Cx St Er V) (old mid new : Held Tok Cx St Er) (t r : Result (Option V) Fault) → StandsAt m old → Ran merged safe first wanted old mid t
      → GoesToNext merged safe back quiet m next wanted mid new t r → Ran merged safe (AttemptFrom back quiet m.mark first next) wanted old new r
  after_tried first next old mid new (Ok v) r at h k = rw (k.after.0, k.after.1) (attempt-stands merged safe back quiet m.mark first next wanted old mid (Ok v) h (λ q. cc))
  after_tried first next old mid new (Err (fault.Stop s)) r at h k = rw (k.after.0, k.after.1) (attempt-stands merged safe back quiet m.mark first next wanted old mid (Err (fault.Stop s)) h (λ q. cc))
  after_tried first next old mid new (Err fault.Fail) r at h k =
      elim k.after [
        | inl l ↦ rw l.0 (attempt-unrestored merged safe back quiet m first wanted old mid next new h l.2 l.1)
        | inr l ↦ attempt-gone_back merged safe back quiet m first wanted old mid next new r at h l
      ]

  -- what stands is not tried again
  tries-stand : (next : Meaning Tok Cx St Er V) (old : Held Tok Cx St Er) (t : Result (Option V) Fault) → (t ≡ Err fault.Fail → ⊥) → GoesToNext merged safe back quiet m next wanted old old t t
  tries-stand next old (Ok v) n = record { after = (refl, refl) }
  tries-stand next old (Err (fault.Stop s)) n = record { after = (refl, refl) }
  tries-stand next old (Err fault.Fail) n = absurd (n refl)

  tries-weaker : (a b : Meaning Tok Cx St Er V) → ((s : Beginning Tok Cx St) (o : Outcome V Er St) → a s o → b s o) → (old new : Held Tok Cx St Er) (t r : Result (Option V) Fault)
      → GoesToNext merged safe back quiet m a wanted old new t r → GoesToNext merged safe back quiet m b wanted old new t r
  tries-weaker a b w old new (Ok v) r h = record { after = h.after }
  tries-weaker a b w old new (Err (fault.Stop s)) r h = record { after = h.after }
  tries-weaker a b w old new (Err fault.Fail) r h = record { after = elim h.after [ inl l ↦ inl l | inr k ↦ inr (ran-weaker merged safe a b wanted (gone_back back old m) new r (λ o z. w _ o z) k) ] }

  -- two that are tried in turn
  tries-both : (a b : Meaning Tok Cx St Er V) (old mid new : Held Tok Cx St Er) (t u r : Result (Option V) Fault) → (t ≡ Err fault.Fail → StandsAt m (gone_back back old m))
      → GoesToNext merged safe back quiet m a wanted old mid t u
      → GoesToNext merged safe back quiet m b wanted mid new u r
      → GoesToNext merged safe back quiet m (AttemptFrom back quiet m.mark a b) wanted old new t r
  tries-both a b old mid new (Ok v) u r at h k =
      let j = subst (λ x. GoesToNext merged safe back quiet m b wanted mid new x r) h.after.0 k in
      record { after = (j.after.0, j.after.1 ∙ h.after.1) }
  tries-both a b old mid new (Err (fault.Stop s)) u r at h k =
      let j = subst (λ x. GoesToNext merged safe back quiet m b wanted mid new x r) h.after.0 k in
      record { after = (j.after.0, j.after.1 ∙ h.after.1) }
  tries-both a b old mid new (Err fault.Fail) u r at h k =
      record {
        after = elim h.after [
          | inl l ↦ (let j = subst (λ x. GoesToNext merged safe back quiet m b wanted mid new x r) l.0 k in inl (j.after.0, l.1, j.after.1 ∙ l.2))
          | inr l ↦ inr (after_tried a b (gone_back back old m) mid new u r (at refl) l k)
        ];
      }

  -- after a failure of what was tried, the run can go back again
  back_again : (a : Meaning Tok Cx St Er V) (old new : Held Tok Cx St Er) (t : Result (Option V) Fault) → (t ≡ Err fault.Fail → StandsAt m (gone_back back old m))
      → GoesToNext merged safe back quiet m a wanted old new t (Err fault.Fail) → StandsAt m (gone_back back new m)
  back_again a old new (Ok v) at h = let no : ⊥ = cc h.after.0 in absurd no
  back_again a old new (Err (fault.Stop s)) at h = let no : ⊥ = cc h.after.0 in absurd no
  back_again a old new (Err fault.Fail) at h =
      elim h.after [
        | inl l ↦ (let no : ⊥ = cc l.0 in absurd no)
        | inr l ↦ stands_at-back merged safe back quiet m a wanted (gone_back back old m) new (at refl) l
      ]

module _ {Tok Cx St Mk Er V : Type 0} (merged : Er → Er → Er) (safe : Type 0) (back : St → Mk → St) (quiet : Type 0)
    (m : Marks Tok Mk) (whole : Meaning Tok Cx St Er V) (wanted : Bool) (old new : Held Tok Cx St Er)
    (r : Result (Option V) Fault) where
  -- the run of the whole, once the alternatives that are left are tried in turn
  abbrev Completes : List (Meaning Tok Cx St Er V) → Type 0
  Completes [] = Ran merged safe whole wanted old new r
  Completes (next ∷ others) =
      (end : Held Tok Cx St Er) (s : Result (Option V) Fault)
      → GoesToNext merged safe back quiet m (FirstFrom back quiet m.mark next others) wanted new end r s
      → Ran merged safe whole wanted old end s

  -- some alternatives are tried, of which these are left
  pub record Tried (left : List (Meaning Tok Cx St Er V)) : Type 0 where
    pub at : r ≡ Err fault.Fail → StandsAt m (gone_back back new m)
    pub completes : Completes left

module _ {Tok Cx St Mk Er V : Type 0} {merged : Er → Er → Er} {safe : Type 0} {back : St → Mk → St} {quiet : Type 0} {m : Marks Tok Mk} {whole : Meaning Tok Cx St Er V} {wanted : Bool} where
  next_completes : (next : Meaning Tok Cx St Er V) (others : List (Meaning Tok Cx St Er V)) (old mid new : Held Tok Cx St Er) (t r : Result (Option V) Fault)
      → Tried merged safe back quiet m whole wanted old mid t (next ∷ others)
      → GoesToNext merged safe back quiet m next wanted mid new t r
      → Completes merged safe back quiet m whole wanted old new r others
  next_completes next [] old mid new t r h k = h.completes new r (tries-weaker next (FirstFrom back quiet m.mark next []) (λ s o z. record { k = 0; stands = (z, λ e. refl) }) mid new t r k)
  next_completes next (other ∷ others) old mid new t r h k = λ end s l.
      h.completes end s
      (tries-weaker (AttemptFrom back quiet m.mark next (FirstFrom back quiet m.mark other others)) (FirstFrom back quiet m.mark next (other ∷ others)) (λ b o z. attempts-first_from back quiet m.mark next other others b o z) mid end t s
      (tries-both next (FirstFrom back quiet m.mark other others) mid new end t r s h.at k l))

  pub tried-next : {next : Meaning Tok Cx St Er V} {others : List (Meaning Tok Cx St Er V)} {old mid new : Held Tok Cx St Er} {t r : Result (Option V) Fault}
      → Tried merged safe back quiet m whole wanted old mid t (next ∷ others)
      → GoesToNext merged safe back quiet m next wanted mid new t r
      → Tried merged safe back quiet m whole wanted old new r others
  tried-next {next} {others} {old} {mid} {new} {t} {r} h k =
      record {
        at = λ e. back_again next mid new t h.at (subst (λ x. GoesToNext merged safe back quiet m next wanted mid new t x) e k);
        completes = next_completes next others old mid new t r h k;
      }

  -- an answer that is no failure stands, whatever alternatives are left
  pub tried-stands : (left : List (Meaning Tok Cx St Er V)) {old new : Held Tok Cx St Er} {r : Result (Option V) Fault}
      → (r ≡ Err fault.Fail → ⊥) → Tried merged safe back quiet m whole wanted old new r left
      → Ran merged safe whole wanted old new r
  tried-stands [] n h = h.completes
  tried-stands (next ∷ others) {old} {new} {r} n h = h.completes new r (tries-stand (FirstFrom back quiet m.mark next others) new r n)

module _ {Tok Cx St Mk Er V : Type 0} (merged : Er → Er → Er) (safe : Type 0) (back : St → Mk → St) (quiet : Type 0) (m : Marks Tok Mk) (wanted : Bool) where
  first_completes : (first : Meaning Tok Cx St Er V) (others : List (Meaning Tok Cx St Er V))
      (old new : Held Tok Cx St Er) (r : Result (Option V) Fault)
      → StandsAt m old → Ran merged safe first wanted old new r
      → Completes merged safe back quiet m (FirstFrom back quiet m.mark first others) wanted old new r others
  first_completes first [] old new r at h = ran-weaker merged safe first (FirstFrom back quiet m.mark first []) wanted old new r (λ o z. record { k = 0; stands = (z, λ e. refl) }) h
  first_completes first (next ∷ others) old new r at h = λ end s k.
      ran-weaker merged safe (AttemptFrom back quiet m.mark first (FirstFrom back quiet m.mark next others))
      (FirstFrom back quiet m.mark first (next ∷ others)) wanted old end s
      (λ o z. attempts-first_from back quiet m.mark first next others _ o z)
      (after_tried first (FirstFrom back quiet m.mark next others) old new end r s at h k)

module _ {Tok Cx St Mk Er V : Type 0} {merged : Er → Er → Er} {safe : Type 0} (mark : St → Mk) {back : St → Mk → St} {quiet : Type 0} {m : Marks Tok Mk} {wanted : Bool} where
  -- the first, from where the mark was made
  pub tried-first : {first : Meaning Tok Cx St Er V} {others : List (Meaning Tok Cx St Er V)} {old new : Held Tok Cx St Er} {r : Result (Option V) Fault}
      → m ≡ marked_here mark old → Ran merged safe first wanted old new r → Tried merged safe back quiet m (FirstFrom back quiet m.mark first others) wanted old new r others
  tried-first {first} {others} {old} {new} {r} e h =
      let at = stands_at-marked mark m old e in
      record {
        at = λ f. stands_at-back merged safe back quiet m first wanted old new at (subst (λ x. Ran merged safe first wanted old new x) f h);
        completes = first_completes merged safe back quiet m wanted first others old new r at h;
      }

module _ {Tok Cx St Mk Er V : Type 0} {merged : Er → Er → Er} {safe : Type 0} {mark : St → Mk} {back : St → Mk → St}
    {quiet : Type 0} {first next : Meaning Tok Cx St Er V} {others : List (Meaning Tok Cx St Er V)}
    {wanted : Bool} where
  -- the first that does not fail, by the mark, of two or more
  pub first_of-marked : {m : Marks Tok Mk} {old new : Held Tok Cx St Er} {r : Result (Option V) Fault}
      → m ≡ marked_here mark old
      → Ran merged safe (FirstFrom back quiet m.mark first (next ∷ others)) wanted old new r
      → Ran merged safe (FirstOf mark back quiet first (next ∷ others)) wanted old new r
  first_of-marked {m} {old} {new} {r} e h =
      let by = ran-marked merged safe mark quiet (λ x. FirstFrom back quiet x first (next ∷ others)) wanted old m new r e h in
      record { outcome = by.outcome; meant = record { cases = by.meant }; answered = by.answered; state = by.state; left = by.left; same = by.same }

  -- all of them are tried
  pub tried-all : {m : Marks Tok Mk} {old new : Held Tok Cx St Er} {r : Result (Option V) Fault}
      → m ≡ marked_here mark old
      → Tried merged safe back quiet m (FirstFrom back quiet m.mark first (next ∷ others)) wanted old new r []
      → Ran merged safe (FirstOf mark back quiet first (next ∷ others)) wanted old new r
  tried-all e h = first_of-marked e h.completes

  -- out of memory at the mark
  pub first_of-unmarked : {old : Held Tok Cx St Er} {r : Result (Option V) Fault} → r ≡ Err (fault.Stop Memory) → (quiet → ⊥)
      → Ran merged safe (FirstOf mark back quiet first (next ∷ others)) wanted old old r
  first_of-unmarked {old} e may =
      rw e (ran-halts merged safe (FirstOf mark back quiet first (next ∷ others)) wanted old old (record { tokens = refl; context = refl }) refl (λ o v s. record { cases = inl (may, v, s) }))
