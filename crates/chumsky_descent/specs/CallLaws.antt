-- The laws of calls.
-- Main laws: does_call-ends, does_call-agrees. Read first: Calls.antt.
use Rattle.std.proofs.Common.{ℕ, zero, suc, subst}
use Rattle.chumsky_input.specs.Outcome.{Meaning, IsAnswer, Agreeing, EndsAfterStart}
use Rattle.chumsky_parser.specs.Language.{Language, unsaid, of_unsaid}
use Rattle.chumsky_combinator.specs.Part.{Onward}
use Rattle.chumsky_combinator.specs.PartLaws.{onward-ends, onward-agrees}
use Rattle.chumsky_descent.specs.Lawful.{AnyTwo}
use Rattle.chumsky_descent.specs.Calls.{
  Body,
  Bodies,
  IsTooDeep,
  CallOf,
  CallsOf,
  KeepsAgreement,
  KeepAgreement,
  AreCalls,
  KeepsLaws,
  Said,
  Nothing,
  Means,
  Steady,
  Exact,
  Together,
  DoesCall,
  same_of,
  IsSteady,
}

module _ {Tok Cx St Er : Type 0} where
  pub call-ends : {V : Type 0} (body : Body Tok Cx St Er V) (depth : ℕ) → EndsAfterStart (CallOf body depth)
  call-ends body zero = onward-ends _
  call-ends body (suc depth) = onward-ends _

  pub calls-end : {Name : Type 0} {V : Name → Type 0} (bodies : Bodies Tok Cx St Er Name V) (depth : ℕ) (name : Name) → EndsAfterStart (CallsOf bodies depth name)
  calls-end bodies zero name = onward-ends _
  calls-end bodies (suc depth) name = onward-ends _

  -- a stop is no answer
  too_deep-agrees : {V : Type 0} (same : V → V → Type 0) → Agreeing same (Onward (IsTooDeep {Tok = Tok} {Cx = Cx} {St = St} {Er = Er} {V = V})) (Onward IsTooDeep)
  too_deep-agrees same b c o q alike m n a w = absurd (subst IsAnswer m.means.verdict a)

  module _ {V : Type 0} {calls bodies : ℕ → Meaning Tok Cx St Er V} (are : AreCalls calls bodies) where
    pub exact-ends : (depth : ℕ) → EndsAfterStart (calls depth)
    exact-ends zero b o m = onward-ends _ b o (are.is_none b o m)
    exact-ends (suc depth) b o m = onward-ends _ b o (are.is_one depth b o m)

    -- where the bodies are lawful, so is each call
    pub exact-agrees : {spare : Type 0} (grammar : Language Tok V → Language Tok V) → KeepsLaws calls bodies spare grammar → (depth : ℕ) → Agreeing AnyTwo (calls depth) (calls depth)
    exact-agrees grammar keeps zero b c o q alike m n a w = too_deep-agrees AnyTwo b c o q alike (are.is_none b o m) (are.is_none c q n) a w
    exact-agrees grammar keeps (suc depth) b c o q alike m n a w =
        let l = keeps depth unsaid (record { ends = exact-ends depth; agrees = exact-agrees grammar keeps depth; accepts = of_unsaid }) in
        onward-agrees _ AnyTwo l.agrees b c o q alike (are.is_one depth b o m) (are.is_one depth c q n) a w

  -- no answer of a call ends before its start
  pub does_call-ends : {spare V : Type 0} (said : Said Tok Cx St Er spare V) (depth : ℕ) → EndsAfterStart (DoesCall said depth)
  does_call-ends Nothing depth = call-ends _ depth
  does_call-ends (Means body) depth = call-ends body depth
  does_call-ends (Steady same body keeps) depth = call-ends body depth
  does_call-ends (Exact calls bodies are intended grammar keeps) depth = exact-ends are depth
  does_call-ends (Together same bodies keep name) depth = calls-end bodies depth name

  call-agrees : {V : Type 0} (body : Body Tok Cx St Er V) (same : V → V → Type 0) → KeepsAgreement same body → (depth : ℕ) → Agreeing same (CallOf body depth) (CallOf body depth)
  call-agrees body same keeps zero = too_deep-agrees same
  call-agrees body same keeps (suc depth) = onward-agrees _ same (keeps depth (call-agrees body same keeps depth))

  calls-agree : {Name : Type 0} {V : Name → Type 0} (bodies : Bodies Tok Cx St Er Name V) (same : (name : Name) → V name → V name → Type 0) → KeepAgreement same bodies
      → (depth : ℕ) (name : Name) → Agreeing (same name) (CallsOf bodies depth name) (CallsOf bodies depth name)
  calls-agree bodies same keep zero name = too_deep-agrees (same name)
  calls-agree bodies same keep (suc depth) name = onward-agrees _ (same name) (keep depth (calls-agree bodies same keep depth) name)

  -- two answers of a call agree, where it is said that the function is steady
  pub does_call-agrees : {spare V : Type 0} (said : Said Tok Cx St Er spare V) → IsSteady said → (depth : ℕ) → Agreeing (same_of said) (DoesCall said depth) (DoesCall said depth)
  does_call-agrees Nothing s depth = absurd s
  does_call-agrees (Means body) s depth = absurd s
  does_call-agrees (Steady same body keeps) s depth = call-agrees body same keeps depth
  does_call-agrees (Exact calls bodies are intended grammar keeps) s depth = exact-agrees are grammar keeps depth
  does_call-agrees (Together same bodies keep name) s depth = calls-agree bodies same keep depth name
