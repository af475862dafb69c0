-- What is left of items with their numbers.
use Rattle.std.proofs.Common.{◌≡◌, ℕ, ◌+◌, ◌^◌, ◌<◌, Bool, true, false, Option, Some, option_map, Result, Ok, Err, arith}
use Rattle.std.proofs.lemmas.Bool.{lt-ltb, le-ltb}
use Rattle.chumsky_input.specs.declared.stop.Fault.{Fault}
use Rattle.chumsky_input.specs.declared.stop.Fault.TheVariants as fault
use Rattle.chumsky_input.specs.declared.stop.Stop.TheVariants.{CountTooLarge}
use Rattle.chumsky_input.specs.Held.{Held}
use Rattle.chumsky_input.specs.Outcome.{Meaning}
use Rattle.chumsky_input.specs.Run.{Ran}
use Rattle.chumsky_parser.specs.Chained.{Chained, Given}
use Rattle.chumsky_parser.specs.Items.{Next, More, End, AfterStep}
use Rattle.chumsky_parser.proofs.ChainedLemmas.{failed, chained, ran-weaker, ran-given}
use Rattle.chumsky_parser.proofs.FailureLemmas.{ran-stops}
use Rattle.chumsky_items.specs.Repeating.{fits}
use Rattle.chumsky_folds.specs.Enumerating.{Numbered, Enumerates}

module _ {Tok Cx St Er S V : Type 0} {merged : Er → Er → Er} {safe : Type 0} {wanted : Bool} {now : Held Tok Cx St Er} where
  numbered-fits : (fit : Bool) (n : ℕ) (v : Option V) (t : S) → fit ≡ true → Ran merged safe (Numbered fit n v t) wanted now now (Ok (Some (More (option_map (λ y. (n, y)) v) (n + 1, t))))
  numbered-fits true n v t f = ran-given
  numbered-fits false n v t f = let no : ⊥ = cc in absurd no

  numbered-full : (fit : Bool) (n : ℕ) (v : Option V) (t : S) → fit ≡ false → Ran merged safe (Numbered fit n v t) wanted now now (Err (fault.Stop CountTooLarge))
  numbered-full true n v t f = let no : ⊥ = cc in absurd no
  numbered-full false n v t f = ran-stops CountTooLarge

module _ {Tok Cx St Er S V : Type 0} {merged : Er → Er → Er} {safe : Type 0} {gives : S → Meaning Tok Cx St Er (Next S V)} {s : ℕ × S} {wanted : Bool} {old new : Held Tok Cx St Er} where
  stepped : {r : Result (Option (Next (ℕ × S) (ℕ × V))) Fault}
      → Ran merged safe (Chained (gives s.1) (AfterStep (Numbered (fits s.0) s.0) (Given (Some End)))) wanted old new r
      → Ran merged safe (Enumerates gives s) wanted old new r
  stepped {r} h = ran-weaker merged safe (Chained (gives s.1) (AfterStep (Numbered (fits s.0) s.0) (Given (Some End)))) (Enumerates gives s) wanted old new r (λ o m. record { step = m }) h

  module _ {x : Result (Option (Next S V)) Fault} (h : Ran merged safe (gives s.1) wanted old new x) where
    pub enumerates-failed : {f : Fault} {y : Result (Option (Next (ℕ × S) (ℕ × V))) Fault} → x ≡ Err f → y ≡ Err f → Ran merged safe (Enumerates gives s) wanted old new y
    enumerates-failed e d = stepped (failed h e d)

    pub enumerates-ended : x ≡ Ok (Some End) → Ran merged safe (Enumerates gives s) wanted old new (Ok (Some End))
    enumerates-ended e = stepped (chained h e ran-given)

    module _ {v : Option V} {t : S} (e : x ≡ Ok (Some (More v t))) where
      pub enumerates-item : (s.0 + 1 ≡ 2 ^ 64 → ⊥) → s.0 < 2 ^ 64 → Ran merged safe (Enumerates gives s) wanted old new (Ok (Some (More (option_map (λ y. (s.0, y)) v) (s.0 + 1, t))))
      enumerates-item below less = stepped (chained h e (numbered-fits (fits s.0) s.0 v t (lt-ltb (s.0 + 1) (2 ^ 64) (omega (arith, below, less)))))

      -- one more can't be counted
      pub enumerates-full : s.0 + 1 ≡ 2 ^ 64 → Ran merged safe (Enumerates gives s) wanted old new (Err (fault.Stop CountTooLarge))
      enumerates-full full = stepped (chained h e (numbered-full (fits s.0) s.0 v t (le-ltb (s.0 + 1) (2 ^ 64) (omega (arith, full)))))
