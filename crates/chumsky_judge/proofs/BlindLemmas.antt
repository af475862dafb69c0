-- Why a fallible mapper that takes no notice of the run but for the span maps as any other.
use Rattle.std.proofs.Common.{ℕ, Option, Some, None, Result, subst, sym}
use Rattle.chumsky_input.specs.declared.error.Error as error_trait
use Rattle.chumsky_input.specs.declared.input.Input as input_trait
use Rattle.chumsky_input.specs.Outcome.{Meaning, Beginning, Outcome, Verdict, Yes, No, Halt, Clash}
use Rattle.chumsky_parser.specs.Showing.{GivesShown}
use Rattle.chumsky_combinator.specs.Compared.{SameOutcomes}
use Rattle.chumsky_judge.specs.Compared.{TriesBlindly}
use Rattle.chumsky_judge.specs.Judged.{ByVerdict, NoAsOne}
use Rattle.chumsky_judge.specs.Tried.{ByTry}
use Rattle.chumsky_judge.specs.TriedWith.{ByTryWith, shown_of}
use Rattle.chumsky_judge.specs.Vetted.{Vets, Vetting, Vetted}

module _ {Tok Cx St Er V W : Type 0} (merged : Er → Er → Er) (free : Type 0) (vets vets' : Vets Tok Cx St Er V W)
    (more : (b : Beginning Tok Cx St) (end : ℕ) (s : St) (v : V) (r : Result W Er) (t : St) → vets b end s v r t → vets' b end s v r t)
  where
    vetting-weaker : (b : Beginning Tok Cx St) (v : Option V) (p : Outcome V Er St) (o : Outcome W Er St) → Vetting merged free vets b v p o → Vetting merged free vets' b v p o
    vetting-weaker b (Some v) p o m = (m.0, m.1, more b p.end p.state v m.0 m.1 m.2, m.3)
    vetting-weaker b None p o m = m

    judges-weaker : (u : Verdict V Er) (b : Beginning Tok Cx St) (p : Outcome V Er St) (o : Outcome W Er St)
        → ByVerdict u (Vetting merged free vets) (NoAsOne merged) b p o
        → ByVerdict u (Vetting merged free vets') (NoAsOne merged) b p o
    judges-weaker (Yes v) b p o m = vetting-weaker b v p o m
    judges-weaker No b p o m = m
    judges-weaker (Halt s) b p o m = m
    judges-weaker (Clash e) b p o m = m

    -- a judge with more answers
    vetted-weaker : (part : Meaning Tok Cx St Er V) (b : Beginning Tok Cx St) (o : Outcome W Er St) → Vetted merged free vets part b o → Vetted merged free vets' part b o
    vetted-weaker part b o m = record { run = record { first = m.run.first; meant = m.run.meant; judges = judges-weaker m.run.first.verdict b m.run.first o m.run.judges } }

module _ {I Cu Tok Sp Cx St Er V W : Type 0} (source : input_trait.Ghosts I Cu Tok Sp)
    (errors : error_trait.Ghosts Er I Tok Sp) (says : GivesShown Tok Cx St V (Result W Er))
    (gives : V → Sp → Result W Er → Type 0) (blind : TriesBlindly source says gives) where
  unshown : (b : Beginning Tok Cx St) (end : ℕ) (s : St) (v : V) (r : Result W errors.Seen) (t : St) → ByTryWith errors.seen says b end s v r t → ByTry source errors gives b end s v r t
  unshown b end s v r t m =
      let k = blind.sees v (shown_of b end s) m.ruling t m.answers in
      record { ruling = m.ruling; says = k.0; answer = m.answer; keeps = k.1 }

  showing : (b : Beginning Tok Cx St) (end : ℕ) (s : St) (v : V) (r : Result W errors.Seen) (t : St) → ByTry source errors gives b end s v r t → ByTryWith errors.seen says b end s v r t
  showing b end s v r t m = record { ruling = m.ruling; answers = subst (says v (shown_of b end s) m.ruling) (sym m.keeps) (blind.answers v (shown_of b end s) m.ruling m.says); answer = m.answer }

  pub tried-blindly : (free : Type 0) (part : Meaning Tok Cx St errors.Seen V)
      → SameOutcomes (Vetted errors.merged free (ByTryWith errors.seen says) part)
      (Vetted errors.merged free (ByTry source errors gives) part)
  tried-blindly free part b o = (
    vetted-weaker errors.merged free (ByTryWith errors.seen says) (ByTry source errors gives) unshown part b o,
    vetted-weaker errors.merged free (ByTry source errors gives) (ByTryWith errors.seen says) showing part b o,
  )
