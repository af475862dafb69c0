-- What a body keeps of the calls in it: that they move, and that they are never refused for memory. And calls are so where it does.
-- Main laws: call-moves, call-spares. Read first: Calls.antt.
use Rattle.std.proofs.Common.{ℕ, zero, suc, subst}
use Rattle.chumsky_input.specs.Outcome.{Meaning, EndsAfterStart}
use Rattle.chumsky_combinator.specs.Part.{Onward}
use Rattle.chumsky_parser.specs.Progress.{IsYes}
use Rattle.chumsky_parser.specs.Memory.{NeverOutOfMemory}
use Rattle.chumsky_parser.specs.Progress.{Moves}
use Rattle.chumsky_combinator.specs.PartLaws.{onward-moves}
use Rattle.chumsky_descent.specs.CallLaws.{does_call-ends}
use Rattle.chumsky_descent.specs.Calls.{IsTooDeep, Said, Nothing, Means, Steady, Exact, Together, DoesCall, DoesUnder}

module _ {Tok Cx St Er spare V : Type 0} where
  -- where a call moves, so does the function
  abbrev pub KeepsMoving : Said Tok Cx St Er spare V → Type 0
  KeepsMoving said = (depth : ℕ) → EndsAfterStart (DoesCall said depth) → Moves (DoesCall said depth) → Moves (DoesUnder said depth)

  -- where a call is never refused for memory, the function isn't
  abbrev pub KeepsSparing : Said Tok Cx St Er spare V → Type 0
  KeepsSparing said = (depth : ℕ) → NeverOutOfMemory (DoesCall said depth) → NeverOutOfMemory (DoesUnder said depth)

module _ {Tok Cx St Er : Type 0} where
  pub too_deep-moves : {V : Type 0} → Moves (Onward (IsTooDeep {Tok = Tok} {Cx = Cx} {St = St} {Er = Er} {V = V}))
  too_deep-moves b o m y = absurd (subst IsYes m.means.verdict y)

  -- a call under no depth, and one under one more
  none-moves : {spare V : Type 0} (said : Said Tok Cx St Er spare V) → Moves (DoesCall said zero)
  none-moves Nothing b o m = too_deep-moves b o m
  none-moves (Means body) b o m = too_deep-moves b o m
  none-moves (Steady same body keeps) b o m = too_deep-moves b o m
  none-moves (Exact calls bodies are intended grammar keeps) b o m = too_deep-moves b o (are.is_none b o m)
  none-moves (Together same bodies keep name) b o m = too_deep-moves b o m

  more-moves : {spare V : Type 0} (said : Said Tok Cx St Er spare V) (depth : ℕ) → Moves (DoesUnder said depth) → Moves (DoesCall said (suc depth))
  more-moves Nothing depth h b o m = onward-moves _ h b o m
  more-moves (Means body) depth h b o m = onward-moves _ h b o m
  more-moves (Steady same body keeps) depth h b o m = onward-moves _ h b o m
  more-moves (Exact calls bodies are intended grammar keeps) depth h b o m = onward-moves _ h b o (are.is_one depth b o m)
  more-moves (Together same bodies keep name) depth h b o m = onward-moves _ h b o m

  -- each call moves, where the function does when they do
  pub call-moves : {spare V : Type 0} (said : Said Tok Cx St Er spare V) → KeepsMoving said → (depth : ℕ) → Moves (DoesCall said depth)
  call-moves said keeps zero = none-moves said
  call-moves said keeps (suc depth) = more-moves said depth (keeps depth (does_call-ends said depth) (call-moves said keeps depth))

  pub onward-spares : {V : Type 0} (m : Meaning Tok Cx St Er V) → NeverOutOfMemory m → NeverOutOfMemory (Onward m)
  onward-spares m h b o n = h b o n.means

  pub too_deep-spares : {V : Type 0} → NeverOutOfMemory (Onward (IsTooDeep {Tok = Tok} {Cx = Cx} {St = St} {Er = Er} {V = V}))
  too_deep-spares b o m = rw m.means.verdict tt

  none-spares : {spare V : Type 0} (said : Said Tok Cx St Er spare V) → NeverOutOfMemory (DoesCall said zero)
  none-spares Nothing b o m = too_deep-spares b o m
  none-spares (Means body) b o m = too_deep-spares b o m
  none-spares (Steady same body keeps) b o m = too_deep-spares b o m
  none-spares (Exact calls bodies are intended grammar keeps) b o m = too_deep-spares b o (are.is_none b o m)
  none-spares (Together same bodies keep name) b o m = too_deep-spares b o m

  more-spares : {spare V : Type 0} (said : Said Tok Cx St Er spare V) (depth : ℕ) → NeverOutOfMemory (DoesUnder said depth) → NeverOutOfMemory (DoesCall said (suc depth))
  more-spares Nothing depth h b o m = onward-spares _ h b o m
  more-spares (Means body) depth h b o m = onward-spares _ h b o m
  more-spares (Steady same body keeps) depth h b o m = onward-spares _ h b o m
  more-spares (Exact calls bodies are intended grammar keeps) depth h b o m = onward-spares _ h b o (are.is_one depth b o m)
  more-spares (Together same bodies keep name) depth h b o m = onward-spares _ h b o m

  -- each call is never refused for memory, where the function isn't when they aren't
  pub call-spares : {spare V : Type 0} (said : Said Tok Cx St Er spare V) → KeepsSparing said → (depth : ℕ) → NeverOutOfMemory (DoesCall said depth)
  call-spares said keeps zero = none-spares said
  call-spares said keeps (suc depth) = more-spares said depth (keeps depth (call-spares said keeps depth))
