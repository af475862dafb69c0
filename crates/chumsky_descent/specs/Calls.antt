-- A function that runs a part of a grammar, and a call of it.
-- Main words: Said, DoesCall, DoesUnder, RunsPart, MayCall. Laws: CallLaws.antt.
use Rattle.std.specs.Prelude.{◌≡◌, ◌<◌, ℕ, zero, suc, Bool, Option, List, Result, IfOk, is_some, ⊤}
use Rattle.std.specs.Fn.{Shared}
use denote.Ref.{MutBor}
use Rattle.chumsky_input.specs.declared.error.Error as error_trait
use Rattle.chumsky_input.specs.declared.inspector.Inspector as inspector_trait
use Rattle.chumsky_input.specs.declared.input.Input as input_trait
use Rattle.chumsky_input.specs.declared.input_ref.InputRef.{InputRef}
use Rattle.chumsky_input.specs.declared.stop.Fault.{Fault}
use Rattle.chumsky_input.specs.declared.stop.Stop.TheVariants.{TooDeep}
use Rattle.chumsky_input.specs.Outcome.{Meaning, Beginning, Outcome, Halt, Agreeing}
use Rattle.chumsky_input.specs.Run.{Runs}
use Rattle.chumsky_parser.specs.Language.{Language}
use Rattle.chumsky_combinator.specs.Part.{Onward}
use Rattle.chumsky_descent.specs.Lawful.{AnyTwo, Lawful}

-- what the body of a function may do under a depth, of what a call in it may do
abbrev pub Body : (Tok Cx St Er V : Type 0) → Type 1
Body Tok Cx St Er V = ℕ → Meaning Tok Cx St Er V → Meaning Tok Cx St Er V

-- the bodies of functions that call each other, each under its name: what it may do under a depth, of what a call of each may do
abbrev pub Bodies : (Tok Cx St Er Name : Type 0) → (Name → Type 0) → Type 1
Bodies Tok Cx St Er Name V = (name : Name) → ℕ → ((called : Name) → Meaning Tok Cx St Er (V called)) → Meaning Tok Cx St Er (V name)

module _ {Tok Cx St Er : Type 0} where
  -- the run stops, since nothing may be called, and leaves the state as it is
  pub record IsTooDeep {V : Type 0} (b : Beginning Tok Cx St) (o : Outcome V Er St) : Type 0 where
    pub verdict : o.verdict ≡ Halt TooDeep
    pub state : o.state ≡ b.state

  -- a call under a depth: none under 0, and else the body of the function, in which a call means one under one less
  abbrev pub CallOf : {V : Type 0} → Body Tok Cx St Er V → ℕ → Meaning Tok Cx St Er V
  CallOf body zero = Onward IsTooDeep
  CallOf body (suc depth) = Onward (body depth (CallOf body depth))

  -- the same of each of several functions
  abbrev pub CallsOf : {Name : Type 0} {V : Name → Type 0} → Bodies Tok Cx St Er Name V → ℕ → (name : Name) → Meaning Tok Cx St Er (V name)
  CallsOf bodies zero name = Onward IsTooDeep
  CallsOf bodies (suc depth) name = Onward (bodies name depth (CallsOf bodies depth))

  -- where two answers of a call agree, two of the body with such calls in it do
  abbrev pub KeepsAgreement : {V : Type 0} → (V → V → Type 0) → Body Tok Cx St Er V → Type 0
  KeepsAgreement same body = (depth : ℕ) → Agreeing same (CallOf body depth) (CallOf body depth) → Agreeing same (body depth (CallOf body depth)) (body depth (CallOf body depth))

  -- where two answers of a call of each agree, two of each body do
  abbrev pub KeepAgreement : {Name : Type 0} {V : Name → Type 0} → ((name : Name) → V name → V name → Type 0) → Bodies Tok Cx St Er Name V → Type 0
  KeepAgreement {Name} same bodies =
      (depth : ℕ) → ((called : Name) → Agreeing (same called) (CallsOf bodies depth called) (CallsOf bodies depth called))
      → (name : Name) → Agreeing (same name) (bodies name depth (CallsOf bodies depth)) (bodies name depth (CallsOf bodies depth))

module _ {Tok Cx St Er V : Type 0} (calls bodies : ℕ → Meaning Tok Cx St Er V) where
  -- these are the calls of a function, under each depth, and those its bodies: none under 0, and else its body under one less
  pub record AreCalls : Type 0 where
    pub none : (b : Beginning Tok Cx St) (o : Outcome V Er St) → Onward IsTooDeep b o → calls zero b o
    pub is_none : (b : Beginning Tok Cx St) (o : Outcome V Er St) → calls zero b o → Onward IsTooDeep b o
    pub one : (depth : ℕ) (b : Beginning Tok Cx St) (o : Outcome V Er St) → Onward (bodies depth) b o → calls (suc depth) b o
    pub is_one : (depth : ℕ) (b : Beginning Tok Cx St) (o : Outcome V Er St) → calls (suc depth) b o → Onward (bodies depth) b o

  -- where a call is lawful with a language, the body is with what is made of that
  abbrev pub KeepsLaws : Type 0 → (Language Tok V → Language Tok V) → Type 1
  KeepsLaws spare grammar = (depth : ℕ) (l : Language Tok V) → Lawful spare (calls depth) l → Lawful spare (bodies depth) (grammar l)

-- the language that a function is intended to have, under any depth: its words, the values that they stand for, and what may
-- follow them; texts on which it ends nowhere; and whether it takes a token wherever it succeeds
pub record Intended (Tok V : Type 0) : Type 1 where
  pub word : List Tok → Type 0
  pub stands_for : List Tok → V → Type 0
  pub follow : List Tok → Type 0
  pub fails : List Tok → Type 0
  pub moves : Bool

-- what is said of a function: nothing; what its body may do; that it is steady too, with the outputs that count as the same; what its
-- calls and its bodies do under each depth, the language that is intended, and its own of that of a call in it; and that it is steady
-- of functions that call each other, with the name of this one.
-- That errors and states take no memory is `spare`
pub data Said (Tok Cx St Er spare : Type 0) : Type 0 → Type 1 where
  Nothing : {V : Type 0} → Said Tok Cx St Er spare V
  Means : {V : Type 0} → Body Tok Cx St Er V → Said Tok Cx St Er spare V
  Steady : {V : Type 0} (same : V → V → Type 0) (body : Body Tok Cx St Er V) → KeepsAgreement same body → Said Tok Cx St Er spare V
  Exact : {V : Type 0} (calls bodies : ℕ → Meaning Tok Cx St Er V) → AreCalls calls bodies
      → (intended : Intended Tok V) (grammar : Language Tok V → Language Tok V) → KeepsLaws calls bodies spare grammar
      → Said Tok Cx St Er spare V
  Together : {Name : Type 0} {V : Name → Type 0} (same : (name : Name) → V name → V name → Type 0) (bodies : Bodies Tok Cx St Er Name V)
      → KeepAgreement same bodies → (name : Name) → Said Tok Cx St Er spare (V name)

module _ {Tok Cx St Er : Type 0} where
  -- any outcome
  abbrev pub Anything : {V : Type 0} → Meaning Tok Cx St Er V
  Anything b o = ⊤

  -- what a call means: a body that may do anything, where nothing is said
  abbrev pub DoesCall : {spare V : Type 0} → Said Tok Cx St Er spare V → ℕ → Meaning Tok Cx St Er V
  DoesCall Nothing depth = CallOf (λ depth call. Anything) depth
  DoesCall (Means body) depth = CallOf body depth
  DoesCall (Steady same body keeps) depth = CallOf body depth
  DoesCall (Exact calls bodies are intended grammar keeps) depth = calls depth
  DoesCall (Together same bodies keep name) depth = CallsOf bodies depth name

  -- what the function does under a depth
  abbrev pub DoesUnder : {spare V : Type 0} → Said Tok Cx St Er spare V → ℕ → Meaning Tok Cx St Er V
  DoesUnder Nothing depth = Anything
  DoesUnder (Means body) depth = body depth (CallOf body depth)
  DoesUnder (Steady same body keeps) depth = body depth (CallOf body depth)
  DoesUnder (Exact calls bodies are intended grammar keeps) depth = bodies depth
  DoesUnder (Together same bodies keep name) depth = bodies name depth (CallsOf bodies depth)

  -- which outputs count as the same: equal ones, where nothing is said of them
  abbrev pub same_of : {spare V : Type 0} → Said Tok Cx St Er spare V → V → V → Type 0
  same_of Nothing v w = v ≡ w
  same_of (Means body) v w = v ≡ w
  same_of (Steady same body keeps) v w = same v w
  same_of (Exact calls bodies are intended grammar keeps) v w = AnyTwo v w
  same_of (Together same bodies keep name) v w = same name v w

  abbrev pub IsSteady : {spare V : Type 0} → Said Tok Cx St Er spare V → Type 0
  IsSteady Nothing = ⊥
  IsSteady (Means body) = ⊥
  IsSteady (Steady same body keeps) = ⊤
  IsSteady (Exact calls bodies are intended grammar keeps) = ⊤
  IsSteady (Together same bodies keep name) = ⊤

-- what is said of a function in the words of the errors and of the states
abbrev pub Says : (I Tok Sp Er St Mk Cx V : Type 0) → Type 1
Says I Tok Sp Er St Mk Cx V =
    (errors : error_trait.Ghosts Er I Tok Sp) (states : inspector_trait.Ghosts St I Mk Tok Sp)
    → Said Tok Cx states.Seen errors.Seen (errors.takes_no_memory × states.takes_no_memory) V

-- what may be said of a run under a depth, for a value or not, and of its result
abbrev pub IsRunUnder : (I X Tok Sp Cu Er St Cx Mk V : Type 0) → Type 1
IsRunUnder I X Tok Sp Cu Er St Cx Mk V = ℕ → Bool → InputRef I X Cu Tok Sp Er St Cx Mk → InputRef I X Cu Tok Sp Er St Cx Mk → Result (Option V) Fault → Type 0

module _ {I X Tok Sp Cu Er St Cx Mk V : Type 0} (source : input_trait.Ghosts I Cu Tok Sp) (errors : error_trait.Ghosts Er I Tok Sp) (states : inspector_trait.Ghosts St I Mk Tok Sp) where
  -- from `old` to `new` a part ran that means this and doesn't end before its start, with a value where one is wanted; and the lent state is kept
  pub record RunsPart (meaning : Meaning Tok Cx states.Seen errors.Seen V) (wanted : Bool) (old new : InputRef I X Cu Tok Sp Er St Cx Mk) (result : Result (Option V) Fault) : Type 0 where
    pub ran : Runs source errors states (Onward meaning) wanted old new result
    pub as_wanted : IfOk result (λ value. is_some value ≡ wanted)
    pub lent : new.state.ghost_name ≡ old.state.ghost_name

module _ {I X Tok Sp Cu Er St Cx Mk V F : Type 0} (source : input_trait.Ghosts I Cu Tok Sp)
    (errors : error_trait.Ghosts Er I Tok Sp) (states : inspector_trait.Ghosts St I Mk Tok Sp)
    (g : Shared F (MutBor (InputRef I X Cu Tok Sp Er St Cx Mk) × (Bool × (ℕ × Unit {0})))
    (Result (Option V) Fault × (MutBor (InputRef I X Cu Tok Sp Er St Cx Mk) × Unit {0})))
    (f : F) where
  -- the function may be called under each smaller depth, and does under it what is said
  pub record MayCall (said : Said Tok Cx states.Seen errors.Seen (errors.takes_no_memory × states.takes_no_memory) V) (depth : ℕ) : Type 0 where
    pub may : (d : ℕ) → d < depth → (wanted : Bool) (p : MutBor (InputRef I X Cu Tok Sp Er St Cx Mk)) → g.pre f (p, (wanted, (d, tt)))
    pub runs : (d : ℕ) (wanted : Bool) (p left : MutBor (InputRef I X Cu Tok Sp Er St Cx Mk)) (r : Result (Option V) Fault)
        → g.post f (p, (wanted, (d, tt))) (r, (left, tt))
        → RunsPart source errors states (DoesUnder said d) wanted p.now left.now r
