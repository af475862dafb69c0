-- Runs of rules whose mappers decide by the word: what is known of the mappers goes with each run.
-- Main word: Assured. Main law: decided-accepts. Read first: RulesAccept.antt.
use Rattle.std.proofs.Common.{ℕ, Option, List, slice_get}
use Rattle.std.specs.Prelude.{Result}
use Rattle.chumsky_input.specs.declared.error.Error as error_trait
use Rattle.chumsky_input.specs.declared.inspector.Inspector as inspector_trait
use Rattle.chumsky_input.specs.declared.input.Input as input_trait
use Rattle.chumsky_input.specs.Outcome.{Meaning, Beginning, Outcome, EndsAfterStart, Agreeing}
use Rattle.chumsky_parser.specs.Language.{Language, Accepts}
use Rattle.chumsky_rules.specs.Tables.{Tables}
use Rattle.chumsky_recursive.specs.Means.{Acts, call_means}
use Rattle.chumsky_recursive.specs.MeansLaws.{ActsEnd}
use Rattle.chumsky_grammars.specs.Compiled.{expressions_of}
use Rattle.chumsky_grammars.specs.Deciding.{DecidesByWord, EachDecides}
use Rattle.chumsky_grammars.specs.DecidingLaws.{RulesByWord, JudgesDecide, rules-decide, any_there}
use Rattle.chumsky_grammars.specs.RuleLanguage.{rule_language}
use Rattle.chumsky_grammars.specs.RulesAccept.{makes_of, call-accepts}

-- a run that does what is meant; and this holds
pub record Assured {Tok Cx St Er V : Type 0} (so : Type 0) (meant : Meaning Tok Cx St Er V) (b : Beginning Tok Cx St) (o : Outcome V Er St) : Type 0 where
  pub does : meant b o
  pub holds : so

module _ {Tok Cx St Er V : Type 0} (so : Type 0) (m : Meaning Tok Cx St Er V) where
  -- it ends and agrees as what is meant
  pub assured-ends : EndsAfterStart m → EndsAfterStart (Assured so m)
  assured-ends h b o w a = h b o w.does a

  pub assured-agrees : (same : V → V → Type 0) → Agreeing same m m → Agreeing same (Assured so m) (Assured so m)
  assured-agrees same h b c o q alike w x a z = h b c o q alike w.does x.does a z

  -- it accepts what is accepted where that holds, if the language is one at all
  pub assured-accepts : {n : Meaning Tok Cx St Er V} {F : Language Tok V} {spare : Type 0} → Accepts n F spare → (so → Accepts m F spare) → Accepts (Assured so m) F spare
  assured-accepts any h = record {
    described = λ s.
        let d = any.described s in
        record {
          reads = record { here = λ b w o y. ((h y.holds).described s).reads.here b w o y.does };
          only = d.only;
          given = d.given;
          each = d.each;
          decided = d.decided;
          further = d.further;
        };
    moving = λ e b o y z. (h y.holds).moving e b o y.does z;
    sparing = λ q t b o y. (h y.holds).sparing q t b o y.does;
  }

module _ {I Tok Sp Cu Er St Mk Cx V : Type 0} (source : input_trait.Ghosts I Cu Tok Sp) (errors : error_trait.Ghosts Er I Tok Sp) (states : inspector_trait.Ghosts St I Mk Tok Sp)
    (a : Acts Tok Cx states.Seen errors.Seen V) (picks : Option (ℕ → List Tok → Option V)) (leaf : ℕ → Language Tok V) (ends : ActsEnd a)
    (leaves : (n : ℕ) → Accepts (a.leaf n) (leaf n) (errors.takes_no_memory × states.takes_no_memory)) (gives : ℕ → V → Sp → Result V Er → Type 0)
    (judges : (f : ℕ) (p : List Tok → Option V) (stands_for : List Tok → V → Type 0) → DecidesByWord p stands_for (gives f) → RulesByWord p stands_for (a.tries f)) (g : Tables) where
  -- with judges that never answer
  abbrev Silent : Acts Tok Cx states.Seen errors.Seen V
  Silent = record a { tries = λ f b end s v r t. ⊥ }

  silent_accepts : (more r : ℕ) → Accepts (call_means source errors states Silent g more r) (rule_language (makes_of a picks) leaf (expressions_of g) more r) (errors.takes_no_memory × states.takes_no_memory)
  silent_accepts =
      call-accepts source errors states Silent picks leaf (record { leaf = ends.leaf }) leaves g
      (λ n r. any_there (JudgesDecide (makes_of a picks) leaf (expressions_of g) Silent.tries picks n) (slice_get (expressions_of g) r) (λ e q i. any_there _ picks (λ p w b end s t v x j y. absurd y)))

  -- a call of a rule whose mappers decide by the word, under whatever limit
  pub decided-accepts : (more r : ℕ) → Accepts (Assured (EachDecides (makes_of a picks) leaf (expressions_of g) gives) (call_means source errors states a g more r))
      (rule_language (makes_of a picks) leaf (expressions_of g) more r) (errors.takes_no_memory × states.takes_no_memory)
  decided-accepts more r =
      assured-accepts (EachDecides (makes_of a picks) leaf (expressions_of g) gives) (call_means source errors states a g more r) (silent_accepts more r)
      (λ h. call-accepts source errors states a picks leaf ends leaves g (rules-decide (makes_of a picks) leaf (expressions_of g) a.tries gives judges picks h) more r)
