-- What a run leaves whose output is an input, of which the tokens can be counted.
use Rattle.std.proofs.Common.{◌≡◌, Bool, Option, Some, None, List, Result, Ok, Err, sym, ◌∙◌, subst}
use Rattle.chumsky_input.specs.declared.stop.Fault.{Fault}
use Rattle.chumsky_input.specs.Held.{Held}
use Rattle.chumsky_input.specs.Outcome.{Meaning, Verdict, Yes, No, Halt, Clash}
use Rattle.chumsky_input.specs.Run.{Ran, answer, without_value}
use Rattle.chumsky_parser.specs.Ending.{IfValue}
use Rattle.chumsky_exact.specs.Nested.{CanBeCounted, GivesCounted, MeansCounted}

module _ {J Tok : Type 0} (tokens : J → List Tok) (Er : Type 0) where
  gives_it : (j : J) (u : Verdict J Er) → CanBeCounted tokens j → Ok (Some j) ≡ answer u → GivesCounted tokens u
  gives_it j (Yes v) c e = let q : Some j ≡ v = cc e in subst (IfValue (CanBeCounted tokens)) q c
  gives_it j No c e = tt
  gives_it j (Halt s) c e = tt
  gives_it j (Clash x) c e = tt

  gives_none : (r : Result (Unit {0}) Fault) (u : Verdict J Er) → without_value r ≡ answer u → GivesCounted tokens u
  gives_none r (Yes None) e = tt
  gives_none (Ok x) (Yes (Some j)) e = absurd (cc e)
  gives_none (Err f) (Yes (Some j)) e = absurd (cc e)
  gives_none r No e = tt
  gives_none r (Halt s) e = tt
  gives_none r (Clash x) e = tt

  fails : (f : Fault) (u : Verdict J Er) → Err f ≡ answer u → GivesCounted tokens u
  fails f (Yes v) e = absurd (cc e)
  fails f No e = tt
  fails f (Halt s) e = tt
  fails f (Clash x) e = tt

module _ {J Tok Tok' Cx St Er : Type 0} (tokens : J → List Tok) {part : Meaning Tok' Cx St Er J} {merged : Er → Er → Er} {safe : Type 0} {wanted : Bool} {old new : Held Tok' Cx St Er} where
  -- a run for its output, answered again
  pub ran-counted : {x y : Result (Option J) Fault} {j : J} → Ran merged safe part wanted old new x → x ≡ Ok (Some j) → y ≡ Ok (Some j) → CanBeCounted tokens j
      → Ran merged safe (MeansCounted tokens part) wanted old new y
  ran-counted {x} {y} {j} h e d c =
      let a : Ok (Some j) ≡ answer h.outcome.verdict = sym e ∙ h.answered in
      record { outcome = h.outcome; meant = (h.meant, gives_it tokens Er j h.outcome.verdict c a); answered = d ∙ a; state = h.state; left = h.left; same = h.same }

  -- one that gives none, answered again
  pub ran-failed : {x y : Result (Option J) Fault} {f : Fault} → Ran merged safe part wanted old new x → x ≡ Err f → y ≡ Err f → Ran merged safe (MeansCounted tokens part) wanted old new y
  ran-failed {x} {y} {f} h e d =
      let a : Err f ≡ answer h.outcome.verdict = sym e ∙ h.answered in
      record { outcome = h.outcome; meant = (h.meant, fails tokens Er f h.outcome.verdict a); answered = d ∙ a; state = h.state; left = h.left; same = h.same }

  -- a run without its output
  pub ran-checked : (r : Result (Unit {0}) Fault) → Ran merged safe part wanted old new (without_value r) → Ran merged safe (MeansCounted tokens part) wanted old new (without_value r)
  ran-checked r h = record { outcome = h.outcome; meant = (h.meant, gives_none tokens Er r h.outcome.verdict h.answered); answered = h.answered; state = h.state; left = h.left; same = h.same }
