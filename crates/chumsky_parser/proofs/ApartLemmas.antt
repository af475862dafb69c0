-- What a part that was run by itself leaves.
use Rattle.std.proofs.Common.{◌≡◌, ℕ, Bool, Option, Some, None, ◌++◌, Ok, Err, option_to_list, refl, sym, ◌∙◌, ap, subst, inl, inr}
use Rattle.chumsky_input.specs.Layout.{Layout}
use Rattle.chumsky_input.specs.declared.stop.Stop.{Stop}
use Rattle.chumsky_input.specs.declared.stop.Stop.TheVariants.{Memory}
use Rattle.chumsky_input.specs.declared.stop.Fault.TheVariants as fault
use Rattle.chumsky_input.specs.declared.stop.Failure.{Failure}
use Rattle.chumsky_input.specs.declared.stop.Failure.TheVariants as failure
use Rattle.chumsky_input.specs.Outcome.{Event, Meaning, Outcome, Verdict, Yes, No, Halt, Clash}
use Rattle.chumsky_input.specs.Primary.{primary}
use Rattle.chumsky_input.specs.Held.{Held, first_stop, with_stop}
use Rattle.chumsky_input.specs.Run.{Ran, Leaves, LeavesBy, SameRun, answer}
use Rattle.chumsky_input.specs.Aside.{ClashesWith, HandsOut, kept_after}
use Rattle.chumsky_parser.specs.Apart.{RanApart, HandsBy, ended}

module _ {Tok Cx St Er V : Type 0} (merged : Er → Er → Er) (safe : Type 0) (old mid : Held Tok Cx St Er) where
  -- a yes, taken apart
  pub yes_of : (v : Verdict V Er) (o : Outcome V Er St) (x : Option V) → Ok x ≡ answer v
      → LeavesBy merged safe v o (record old { kept = None }) mid
      → (v ≡ Yes x) × Leaves merged safe o (record old { kept = None }) mid
  yes_of (Yes y) o x a l = (cc, l)
  yes_of No o x a l = let no : ⊥ = cc in absurd no
  yes_of (Halt s) o x a l = let no : ⊥ = cc in absurd no
  yes_of (Clash e) o x a l = let no : ⊥ = cc in absurd no

  -- a no, taken apart
  pub no_of : (v : Verdict V Er) (o : Outcome V Er St) → Err fault.Fail ≡ answer v
      → LeavesBy merged safe v o (record old { kept = None }) mid
      → (v ≡ No) × Leaves merged safe o (record old { kept = None }) mid
  no_of (Yes y) o a l = let no : ⊥ = cc in absurd no
  no_of No o a l = (refl, l)
  no_of (Halt s) o a l = let no : ⊥ = cc in absurd no
  no_of (Clash e) o a l = let no : ⊥ = cc in absurd no

module _ {Tok Cx St Er V : Type 0} (merged : Er → Er → Er) (safe : Type 0)
    (final : Option (Event Er) → Layout Tok → ℕ → Er) (meaning : Meaning Tok Cx St Er V) (w : Bool)
    (old mid : Held Tok Cx St Er) where
  ended_at : (o : Outcome V Er St) → SameRun old mid → mid.state ≡ o.state
      → Leaves merged safe o (record old { kept = None }) mid → (k : Option (Event Er))
      → record mid { kept = k } ≡ record (ended merged safe final o old) { kept = k }
  ended_at o same s l k = cc (same.tokens, same.context, s, l.end, l.emitted, l.stopped)

  hands_no : {new : Held Tok Cx St Er} (o : Outcome V Er St) → SameRun old mid → mid.state ≡ o.state
      → Leaves merged safe o (record old { kept = None }) mid → (f : Failure Er)
      → HandsOut safe final old.kept mid new f → HandsBy merged safe final No o old new (Err f)
  hands_no o same s l (failure.Error e) n = inl (cc (n.0, l.kept, same.tokens, l.end), n.1 ∙ ended_at o same s l old.kept)
  hands_no o same s l (failure.Stop z) n =
      inr (
        (ap (λ q. Err (failure.Stop q)) n.0, ap (λ (q : Held Tok Cx St Er). q.state) n.3 ∙ s, ap (λ (q : Held Tok Cx St Er). q.stopped) n.3 ∙ ap (λ q. Some (first_stop q Memory)) l.stopped),
        n.1,
        sym l.kept ∙ n.2,
      )

  hands_stop : (v : Verdict V Er) (o : Outcome V Er St) (s : Stop) (new : Held Tok Cx St Er)
      → Err (fault.Stop s) ≡ answer v → new.state ≡ o.state → new.stopped ≡ Some (first_stop mid.stopped s)
      → LeavesBy merged safe v o (record old { kept = None }) mid
      → HandsBy merged safe final v o old new (Err (failure.Stop s))
  hands_stop (Yes y) o s new a t p l = let no : ⊥ = cc in absurd no
  hands_stop No o s new a t p l = let no : ⊥ = cc in absurd no
  hands_stop (Halt z) o s new a t p l =
      let is : s ≡ z = cc in
      (cc, t, p ∙ ap (λ q. Some (first_stop mid.stopped q)) is ∙ ap Some l)
  hands_stop (Clash e) o s new a t p l =
      let is : s ≡ Memory = cc in
      ((cc, t, p ∙ ap (λ q. Some (first_stop mid.stopped q)) is ∙ ap Some l.2), l.0, l.1)

module _ {Tok Cx St Er V : Type 0} {merged : Er → Er → Er} {safe : Type 0}
    {final : Option (Event Er) → Layout Tok → ℕ → Er} {meaning : Meaning Tok Cx St Er V} {w : Bool}
    {old mid : Held Tok Cx St Er} where
  pub apart_yes : {x : Option V} {new : Held Tok Cx St Er}
      → Ran merged safe meaning w (record old { kept = None }) mid (Ok x) → new ≡ kept_after merged old.kept mid
      → RanApart merged safe final meaning w old new (Ok x)
  apart_yes {x} {new} h n =
      let o = h.outcome in
      let y = yes_of merged safe old mid o.verdict o x h.answered h.left in
      record {
        outcome = o;
        meant = h.meant;
        hands =
            rw y.0
            (inl (
              refl,
              n
                  ∙ ap (λ k. record mid { kept = primary merged (option_to_list old.kept ++ option_to_list k) }) y.1.kept
                  ∙ ended_at merged safe final meaning w old mid o (record { tokens = h.same.tokens; context = h.same.context }) h.state y.1 _,
            ));
      }

  pub apart_clash : {x : Option V} {kept new : Held Tok Cx St Er}
      → Ran merged safe meaning w (record old { kept = None }) mid (Ok x)
      → ClashesWith safe old.kept mid.kept × (kept ≡ record mid { kept = None }) → new ≡ with_stop Memory kept
      → RanApart merged safe final meaning w old new (Err (failure.Stop Memory))
  apart_clash {x} {kept} {new} h k n =
      let o = h.outcome in
      let y = yes_of merged safe old mid o.verdict o x h.answered h.left in
      record {
        outcome = o;
        meant = h.meant;
        hands = rw y.0 (inr (
          (
            refl,
            ap (λ (z : Held Tok Cx St Er). z.state) n ∙ ap (λ (z : Held Tok Cx St Er). z.state) k.1 ∙ h.state,
            ap (λ (z : Held Tok Cx St Er). z.stopped) n ∙ ap (λ (z : Held Tok Cx St Er). Some (first_stop z.stopped Memory)) k.1 ∙ ap (λ z. Some (first_stop z Memory)) y.1.stopped,
          ),
          subst (λ e. ClashesWith safe old.kept e) y.1.kept k.0,
        ));
      }

  pub apart_no : {new : Held Tok Cx St Er} {f : Failure Er}
      → Ran merged safe meaning w (record old { kept = None }) mid (Err fault.Fail)
      → HandsOut safe final old.kept mid new f → RanApart merged safe final meaning w old new (Err f)
  apart_no {new} {f} h n =
      let o = h.outcome in
      let y = no_of merged safe old mid o.verdict o h.answered h.left in
      record { outcome = o; meant = h.meant; hands = rw y.0 (hands_no merged safe final meaning w old mid o (record { tokens = h.same.tokens; context = h.same.context }) h.state y.1 f n) }

  pub apart_stop : {s : Stop} {new : Held Tok Cx St Er}
      → Ran merged safe meaning w (record old { kept = None }) mid (Err (fault.Stop s)) → new ≡ with_stop s mid
      → RanApart merged safe final meaning w old new (Err (failure.Stop s))
  apart_stop {s} {new} h n =
      record {
        outcome = h.outcome;
        meant = h.meant;
        hands =
            hands_stop merged safe final meaning w old mid h.outcome.verdict h.outcome s new h.answered
            (ap (λ (z : Held Tok Cx St Er). z.state) n ∙ h.state) (ap (λ (z : Held Tok Cx St Er). z.stopped) n)
            h.left;
      }
