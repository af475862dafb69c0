-- How far the reading of an expression has come: what its open expressions and what waits still lead to.
-- Main words: Climbs, MayGo, GoesOn. Read first: Expression.antt.
use Rattle.std.specs.Prelude.{◌≡◌, ℕ, suc, ◌+◌, ◌-◌, ◌<◌, ◌≤◌, Bool, Option, Some, Result, Ok, Err, List, [], ◌∷◌, ◌++◌, length, ◌⊎◌}
use Rattle.chumsky_input.specs.declared.error.Error as error_trait
use Rattle.chumsky_input.specs.declared.inspector.Inspector as inspector_trait
use Rattle.chumsky_input.specs.declared.input.Input as input_trait
use Rattle.chumsky_input.specs.declared.input_ref.InputRef.{InputRef}
use Rattle.chumsky_input.specs.declared.stop.Fault.{Fault}
use Rattle.chumsky_input.specs.declared.stop.Fault.TheVariants as fault
use Rattle.chumsky_input.specs.declared.stop.Stop.TheVariants.{Memory}
use Rattle.chumsky_input.specs.Held.{Held, Marks, held, marks}
use Rattle.chumsky_input.specs.Outcome.{Meaning}
use Rattle.chumsky_input.specs.Run.{Ran}
use Rattle.chumsky_input.specs.Words.{Does}
use Rattle.chumsky_parser.specs.Chained.{Given}
use Rattle.chumsky_parser.specs.Choice.{StandsAt}
use Rattle.chumsky_pratt.specs.declared.fixity.Fixity.TheVariants.{Prefix, Infix}
use Rattle.chumsky_pratt.specs.declared.machine.Open.{Open}
use Rattle.chumsky_pratt.specs.declared.machine.Frame.{Frame}
use Rattle.chumsky_pratt.specs.declared.machine.Frame.TheVariants as frame
use Rattle.chumsky_pratt.specs.declared.machine.Todo.{Todo}
use Rattle.chumsky_pratt.specs.declared.machine.Todo.TheVariants as todo
use Rattle.chumsky_pratt.specs.Expression.{Syntax, Turn, Rests, From, TryPrefix, TryPostfix, TryInfix, Head, Round, AllRounds, Level, Below}
use Rattle.chumsky_pratt.specs.Operators.{OperatorSyntax, bound_by}
use Rattle.chumsky_pratt.specs.Doing.{syntax_of}
use Rattle.chumsky_pratt.specs.Showing.{shown_by}

-- an expression that is read: its least power, and what was held where it began
pub record Begun (Tok Cx St Er : Type 0) : Type 0 where
  pub least : ℕ
  pub held : Held Tok Cx St Er

module _ {Tok Cx St Er : Type 0} where
  -- how many tokens are left
  abbrev pub tokens_left : Held Tok Cx St Er → ℕ
  tokens_left h = length h.tokens.list - h.place

module _ {Tok Cx St Mk Er F V : Type 0} (merged : Er → Er → Er) (quiet : Type 0) (s : Syntax Tok Cx St Mk Er F V) (wanted : Bool) where
  -- what is a run of the one from here is one of the other from there
  abbrev pub Leads : {W : Type 0} → Meaning Tok Cx St Er W → Held Tok Cx St Er → Meaning Tok Cx St Er W → Held Tok Cx St Er → Type 0
  Leads {W} m mid n old = (new : Held Tok Cx St Er) (r : Result (Option W) Fault) → Ran merged quiet m wanted mid new r → Ran merged quiet n wanted old new r

  -- the operands of an expression, and the whole of it
  abbrev pub operand_of : Begun Tok Cx St Er → ℕ → Meaning Tok Cx St Er V
  operand_of l = Below s (tokens_left l.held)

  abbrev pub whole : Begun Tok Cx St Er → Meaning Tok Cx St Er V
  whole l = Level s (operand_of l) l.least

  -- its rounds after a value, under a bound
  abbrev pub rounds_of : Begun Tok Cx St Er → ℕ → Option V → Meaning Tok Cx St Er V
  rounds_of l below x = AllRounds s (operand_of l) l.held.place l.least below x

  -- a round that began at a place
  abbrev pub round_of : Begun Tok Cx St Er → ℕ → Option V → Meaning Tok Cx St Er (Turn V)
  round_of l below x = Round s (operand_of l) l.held.place l.least below x

  -- its prefix operators from an index on, and then an atom
  abbrev pub prefixes : Begun Tok Cx St Er → Mk → ℕ → ℕ → Meaning Tok Cx St Er V
  prefixes l m count next = From s (TryPrefix s (operand_of l) l.held.place m) count next s.atom

  -- its infix operators from an index on, and then nothing; its postfix operators from an index on, and then all of these
  abbrev pub infixes : Begun Tok Cx St Er → ℕ → Option V → ℕ → Mk → ℕ → ℕ → Meaning Tok Cx St Er (Turn V)
  infixes l at x below m count next = From s (TryInfix s (operand_of l) l.held.place l.least at x below m) count next (Given (Some Rests))

  abbrev pub postfixes : Begun Tok Cx St Er → ℕ → Option V → ℕ → Mk → ℕ → ℕ → Meaning Tok Cx St Er (Turn V)
  postfixes l at x below m count next = From s (TryPostfix s (operand_of l) l.held.place l.least at x below m) count next (infixes l at x below m s.number 0)

  -- prefix operators are tried, from an index on
  pub record TriesPrefixes (l : Begun Tok Cx St Er) (m : Marks Tok Mk) (next : ℕ) (now : Held Tok Cx St Er) : Type 0 where
    pub count : ℕ
    pub counted : next + count ≡ s.number
    pub stands : StandsAt m now
    pub tokens : now.tokens ≡ l.held.tokens
    pub leads : Leads (prefixes l m.mark count next) now (Head s (operand_of l) l.held.place) l.held

  -- a value is there
  pub record HasValue (l : Begun Tok Cx St Er) (x : Option V) (below : ℕ) (now : Held Tok Cx St Er) : Type 0 where
    pub tokens : now.tokens ≡ l.held.tokens
    pub order : l.held.place ≤ now.place
    pub leads : Leads (rounds_of l below x) now (whole l) l.held

  -- postfix operators are tried after a value, from an index on, in a round that began there
  pub record TriesPostfixes (l : Begun Tok Cx St Er) (x : Option V) (below : ℕ) (m : Marks Tok Mk) (next : ℕ) (now : Held Tok Cx St Er) : Type 0 where
    pub turn : Held Tok Cx St Er
    pub count : ℕ
    pub counted : next + count ≡ s.number
    pub stands : StandsAt m now
    pub at : m.place ≡ turn.place
    pub tokens : now.tokens ≡ l.held.tokens
    pub began : turn.tokens ≡ l.held.tokens
    pub order : l.held.place ≤ turn.place
    pub leads : Leads (postfixes l turn.place x below m.mark count next) now (round_of l below x) turn
    pub after : Leads (rounds_of l below x) turn (whole l) l.held

  -- likewise infix operators
  pub record TriesInfixes (l : Begun Tok Cx St Er) (x : Option V) (below : ℕ) (m : Marks Tok Mk) (next : ℕ) (now : Held Tok Cx St Er) : Type 0 where
    pub turn : Held Tok Cx St Er
    pub count : ℕ
    pub counted : next + count ≡ s.number
    pub stands : StandsAt m now
    pub at : m.place ≡ turn.place
    pub tokens : now.tokens ≡ l.held.tokens
    pub began : turn.tokens ≡ l.held.tokens
    pub order : l.held.place ≤ turn.place
    pub leads : Leads (infixes l turn.place x below m.mark count next) now (round_of l below x) turn
    pub after : Leads (rounds_of l below x) turn (whole l) l.held

  -- an operator was read, and its operand begins: where the operator began, past where its expression did
  pub record ReadFrom (l : Begun Tok Cx St Er) (f : Option F) (m : Marks Tok Mk) (index : ℕ) (here : Held Tok Cx St Er) (inner : Begun Tok Cx St Er) : Type 0 where
    pub stands : StandsAt m here
    pub read : Ran merged quiet (s.reads index) wanted here inner.held (Ok f)
    pub onward : l.held.place < inner.held.place
    pub room : tokens_left inner.held < tokens_left l.held
    pub tokens : inner.held.tokens ≡ l.held.tokens

  -- an expression waits for the operand of a prefix operator
  pub record WaitsPrefix (l : Begun Tok Cx St Er) (f : Option F) (m : Marks Tok Mk) (next : ℕ) (inner : Begun Tok Cx St Er) : Type 0 where
    pub here : Held Tok Cx St Er
    pub index : ℕ
    pub count : ℕ
    pub is_next : next ≡ suc index
    pub counted : next + count ≡ s.number
    pub fixity : s.stands index ≡ Prefix inner.least
    pub here_tokens : here.tokens ≡ l.held.tokens
    pub read : ReadFrom l f m index here inner
    pub leads : Leads (prefixes l m.mark (suc count) index) here (Head s (operand_of l) l.held.place) l.held

  -- an expression waits for the right operand of an infix operator
  pub record WaitsInfix (l : Begun Tok Cx St Er) (f : Option F) (m : Marks Tok Mk) (next : ℕ) (x : Option V) (below then_below : ℕ) (inner : Begun Tok Cx St Er) : Type 0 where
    pub here : Held Tok Cx St Er
    pub turn : Held Tok Cx St Er
    pub index : ℕ
    pub count : ℕ
    pub is_next : next ≡ suc index
    pub counted : next + count ≡ s.number
    pub at : m.place ≡ turn.place
    pub left : ℕ
    pub chains : Bool
    pub fixity : s.stands index ≡ Infix left inner.least chains
    pub enough : l.least ≤ left
    pub under : left < below
    pub bound : then_below ≡ bound_by chains below left
    pub began : turn.tokens ≡ l.held.tokens
    pub order : l.held.place ≤ turn.place
    pub here_tokens : here.tokens ≡ l.held.tokens
    pub read : ReadFrom l f m index here inner
    pub leads : Leads (infixes l turn.place x below m.mark (suc count) index) here (round_of l below x) turn
    pub after : Leads (rounds_of l below x) turn (whole l) l.held

module _ {I Tok Sp Cu Er St Cx Mk F V A B : Type 0} (source : input_trait.Ghosts I Cu Tok Sp)
    (errors : error_trait.Ghosts Er I Tok Sp) (states : inspector_trait.Ghosts St I Mk Tok Sp)
    (s : Syntax Tok Cx states.Seen states.Marked errors.Seen F V) (wanted : Bool) (shown : A → Option V)
    (found : B → Option F) where
  -- an open expression is this one
  pub record IsOpen (level : Open Cu) (l : Begun Tok Cx states.Seen errors.Seen) : Type 0 where
    pub least : level.least ≡ l.least
    pub place : source.place level.start ≡ l.held.place
    pub tokens : source.cursor_tokens level.start ≡ l.held.tokens

  -- what waits, the last one first: each for the expression that its operand is, and the first for nothing, since that is
  -- the goal
  abbrev pub Waits : Begun Tok Cx states.Seen errors.Seen → List (Frame A B Cu Mk) → Begun Tok Cx states.Seen errors.Seen → Type 0
  Waits goal [] inner = inner ≡ goal
  Waits goal (frame.Before p ∷ fs) inner =
      (l : Begun Tok Cx states.Seen errors.Seen) × IsOpen p.level l
      × WaitsPrefix errors.merged errors.takes_no_memory s wanted l (found p.found) (marks source states p.before) p.next inner
      × Waits goal fs l
  Waits goal (frame.Between p ∷ fs) inner =
      (l : Begun Tok Cx states.Seen errors.Seen) × IsOpen p.level l
      × WaitsInfix errors.merged errors.takes_no_memory s wanted l (found p.found) (marks source states p.before)
      p.next (shown p.value) p.below p.then_below inner
      × Waits goal fs l

  -- what comes next leads to the goal, by what waits
  abbrev pub Climbs : Begun Tok Cx states.Seen errors.Seen → List (Frame A B Cu Mk) → Held Tok Cx states.Seen errors.Seen → Todo A Cu Mk → Type 0
  Climbs goal fs now (todo.Begin least) = Waits goal fs (record { least = least; held = now })
  Climbs goal fs now (todo.Prefixes p) =
      (l : Begun Tok Cx states.Seen errors.Seen) × IsOpen p.level l × TriesPrefixes errors.merged errors.takes_no_memory s wanted l (marks source states p.before) p.next now × Waits goal fs l
  Climbs goal fs now (todo.Value p) =
      (l : Begun Tok Cx states.Seen errors.Seen) × IsOpen p.level l × HasValue errors.merged errors.takes_no_memory s wanted l (shown p.value) p.below now × Waits goal fs l
  Climbs goal fs now (todo.Postfixes p) =
      (l : Begun Tok Cx states.Seen errors.Seen) × IsOpen p.level l
      × TriesPostfixes errors.merged errors.takes_no_memory s wanted l (shown p.value) p.below (marks source states p.before) p.next now
      × Waits goal fs l
  Climbs goal fs now (todo.Infixes p) =
      (l : Begun Tok Cx states.Seen errors.Seen) × IsOpen p.level l
      × TriesInfixes errors.merged errors.takes_no_memory s wanted l (shown p.value) p.below (marks source states p.before) p.next now
      × Waits goal fs l
  Climbs goal fs now (todo.Answer r) =
      (l : Begun Tok Cx states.Seen errors.Seen)
      × Ran errors.merged errors.takes_no_memory (whole errors.merged errors.takes_no_memory s wanted l) wanted
      l.held now (shown_by shown r)
      × Waits goal fs l

module _ {I X Tok Sp Cu Er St Cx Mk F V A B : Type 0} (source : input_trait.Ghosts I Cu Tok Sp)
    (errors : error_trait.Ghosts Er I Tok Sp) (states : inspector_trait.Ghosts St I Mk Tok Sp)
    (atom : Does I Tok Sp Er St Mk Cx V) (operators : OperatorSyntax I Tok Sp Er St Mk Cx F V) (wanted : Bool)
    (shown : A → Option V) (found : B → Option F) where
  -- it leads to some goal
  abbrev pub MayGo : List (Frame A B Cu Mk) → InputRef I X Cu Tok Sp Er St Cx Mk → Todo A Cu Mk → Type 0
  MayGo fs inp next =
      (goal : Begun Tok Cx states.Seen errors.Seen) × Climbs source errors states (syntax_of atom operators errors states) wanted shown found goal fs (held source errors states inp) next

  -- to whichever goal it led, it leads after the step
  abbrev pub GoesOn : List (Frame A B Cu Mk) → InputRef I X Cu Tok Sp Er St Cx Mk → Todo A Cu Mk → List (Frame A B Cu Mk) → InputRef I X Cu Tok Sp Er St Cx Mk → Todo A Cu Mk → Type 0
  GoesOn fs old now gs new next =
      (goal : Begun Tok Cx states.Seen errors.Seen)
      → Climbs source errors states (syntax_of atom operators errors states) wanted shown found goal fs (held source errors states old) now
      → Climbs source errors states (syntax_of atom operators errors states) wanted shown found goal gs (held source errors states new) next

-- a frame more waits for an operand of this power, which begins; or there is no memory for it
abbrev pub WaitsFor : {A B Cu Mk : Type 0} → ℕ → Frame A B Cu Mk → List (Frame A B Cu Mk) → List (Frame A B Cu Mk) → Todo A Cu Mk → Type 0
WaitsFor power frame old new next = ((next ≡ todo.Begin power) × (new ≡ old ++ frame ∷ [])) ⊎ ((next ≡ todo.Answer (Err (fault.Stop Memory))) × (new ≡ old))
