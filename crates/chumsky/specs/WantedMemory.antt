-- For what a run is refused for memory whose parser never is.
-- Main law: wanted-for_errors. Read first: Answer.antt, and Memory.antt of chumsky_memory.
use Rattle.std.proofs.Common.{◌≡◌, false, refl, subst}
use Rattle.chumsky_input.specs.declared.error.Error as error_trait
use Rattle.chumsky_input.specs.declared.inspector.Inspector as inspector_trait
use Rattle.chumsky_input.specs.declared.input.Input as input_trait
use Rattle.chumsky_input.specs.declared.stop.Stop.{Stop}
use Rattle.chumsky_input.specs.declared.stop.Stop.TheVariants.{Memory}
use Rattle.chumsky_input.specs.Outcome.{Meaning, Beginning, Outcome, Verdict, Yes, No, Halt, Clash}
use Rattle.chumsky_parser.specs.Chained.{Asked}
use Rattle.chumsky_primitive.specs.End.{MeansEnd}
use Rattle.chumsky_parser.specs.Settled.{RefusesBy}
use Rattle.chumsky_parser.specs.Memory.{IsNotMemory, SparesMemory, NeverOutOfMemory}
use Rattle.chumsky_parser.specs.MemoryLaws.{chained-spares, asked-spares, given-spares}
use Rattle.chumsky_primitive.specs.EndLanguage.{end-spares}
use Rattle.chumsky.specs.Answer.{WholeRun}

module _ {V Er St : Type 0} (quiet : Type 0) (x : quiet) where
  only_no : (u : Verdict V Er) (o : Outcome V Er St) (s : Stop) → SparesMemory u → RefusesBy quiet u o s → s ≡ Memory → u ≡ No
  only_no (Yes v) o s h r e = absurd r
  only_no No o s h r e = refl
  only_no (Halt z) o s h r e =
      let is : z ≡ Memory = cc (r, e) in
      let no : ⊥ = subst IsNotMemory is h in
      absurd no
  only_no (Clash d) o s h r e = absurd (r.1 x)

module _ {I Tok Sp Cu Er St Mk Cx V : Type 0} (source : input_trait.Ghosts I Cu Tok Sp)
    (errors : error_trait.Ghosts Er I Tok Sp) (states : inspector_trait.Ghosts St I Mk Tok Sp)
    (quiet : errors.takes_no_memory) (still : states.takes_no_memory)
    (part : Meaning Tok Cx states.Seen errors.Seen V) (h : NeverOutOfMemory part) where
  -- the parser, and then the end of input
  whole-spares : NeverOutOfMemory (WholeRun source errors states part)
  whole-spares =
      chained-spares part _ h (λ v. chained-spares (Asked false (MeansEnd source errors states)) _ (asked-spares false _ (end-spares source errors states quiet still)) (λ _. given-spares v))

  -- a refusal for memory is that of a failure
  pub wanted-for_errors : (b : Beginning Tok Cx states.Seen) (o : Outcome V errors.Seen states.Seen) (s : Stop)
      → WholeRun source errors states part b o → RefusesBy errors.takes_no_memory o.verdict o s → s ≡ Memory
      → o.verdict ≡ No
  wanted-for_errors b o s m r e = only_no errors.takes_no_memory quiet o.verdict o s (whole-spares b o m) r e
