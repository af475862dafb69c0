-- What one call of `parse` or `check` answers.
use Rattle.std.specs.Prelude.{◌≡◌, ℕ, ◌≤◌, Bool, true, false, Option, Some, None, length, ⊤, Result, Ok, Err, map, IfOk, IfErr}
use Rattle.chumsky_input.specs.Layout.{Layout}
use Rattle.chumsky_input.specs.declared.error.Error as error_trait
use Rattle.chumsky_input.specs.declared.inspector.Inspector as inspector_trait
use Rattle.chumsky_input.specs.declared.input.Input as input_trait
use Rattle.chumsky_input.specs.declared.stop.Stop.{Stop}
use Rattle.chumsky_input.specs.declared.stop.Stop.TheVariants.{Memory}
use Rattle.chumsky_input.specs.Outcome.{Meaning, Beginning, Outcome, Verdict, Yes, No, Halt, Clash, IsAnswer, SameValue}
use Rattle.chumsky_input.specs.Words.{Does}
use Rattle.chumsky_parser.specs.Chained.{Chained, Given, Asked}
use Rattle.chumsky_parser.specs.Language.{Language}
use Rattle.chumsky_primitive.specs.End.{MeansEnd}
use Rattle.chumsky_parser.specs.Settled.{reported, RefusesBy}
use Rattle.chumsky_parser.specs.declared.parser.Parser as parser_trait
use Rattle.chumsky_parser.specs.declared.result.ParseResult.{ParseResult}
use Rattle.chumsky_recursive.specs.declared.actions.Actions as actions_trait
use Rattle.chumsky_recursive.specs.declared.grammar.Grammar.{Grammar}
use Rattle.chumsky_recursive.specs.Refused.{RefusesAsLeaves}
use Rattle.chumsky.specs.Accepted.{AnswersText}

module _ {I Tok Sp Cu Er St Mk Cx V : Type 0} (source : input_trait.Ghosts I Cu Tok Sp) (errors : error_trait.Ghosts Er I Tok Sp) (states : inspector_trait.Ghosts St I Mk Tok Sp) where
  -- the parser, and then the end of input
  abbrev pub WholeRun : Meaning Tok Cx states.Seen errors.Seen V → Meaning Tok Cx states.Seen errors.Seen V
  WholeRun part = Chained part (λ v. Chained (Asked false (MeansEnd source errors states)) (λ _. Given v))

-- the output of an answer, as what its verdict says
abbrev pub IsOutput : {V W Er : Type 0} → (Option V → W → Type 0) → Verdict V Er → Option W → Type 0
IsOutput by (Yes v) (Some w) = by v w
IsOutput by (Yes v) None = ⊥
IsOutput by No (Some w) = ⊥
IsOutput by No None = ⊤
IsOutput by (Halt s) w = ⊥
IsOutput by (Clash e) w = ⊥

module _ {I Tok Sp Cu Er V W : Type 0} (source : input_trait.Ghosts I Cu Tok Sp) (errors : error_trait.Ghosts Er I Tok Sp) where
  -- an answer that reports this outcome, its value by the relation
  pub record Reports {St : Type 0} (by : Option V → W → Type 0) (ts : Layout Tok) (o : Outcome V errors.Seen St) (parsed : ParseResult W Er) : Type 0 where
    pub output : IsOutput by o.verdict parsed.output
    pub errors_are : map errors.seen parsed.errors.items ≡ reported errors.expectation source.span_between o.verdict ts o errors.merged

module _ {I Tok Sp Cu Er V W : Type 0} (source : input_trait.Ghosts I Cu Tok Sp) (errors : error_trait.Ghosts Er I Tok Sp) where
  -- the answer of a call, of one outcome
  abbrev pub Answers : {St : Type 0} → (Option V → W → Type 0) → Layout Tok → Outcome V errors.Seen St → Result (ParseResult W Er) Stop → Type 0
  Answers by ts o (Ok parsed) = Reports source errors by ts o parsed
  Answers by ts o (Err s) = RefusesBy errors.takes_no_memory o.verdict o s

module _ {I Tok Sp Cu Er St Mk Cx V W : Type 0} (source : input_trait.Ghosts I Cu Tok Sp) (errors : error_trait.Ghosts Er I Tok Sp) (states : inspector_trait.Ghosts St I Mk Tok Sp) where
  -- one run from the start of the tokens in that state, under a context that `default` gives: it answers an outcome of the meaning,
  -- and what the parser's language says of the tokens; and for a steady parser what it reports is reported of every answer from
  -- there, whether a value is wanted or not
  pub record Parses (is_default : Cx → Type 0) (steady : Type 0) (same : V → V → Type 0) (language : Language Tok V)
      (gives : W → Option V) (meaning : Meaning Tok Cx states.Seen errors.Seen V) (wanted : Bool) (ts : Layout Tok)
      (old new : states.Seen) (result : Result (ParseResult W Er) Stop) : Type 0 where
    pub context : Cx
    pub context_is : is_default context
    pub outcome : Outcome V errors.Seen states.Seen
    pub meant : meaning (record { wanted = wanted; tokens = ts; start = 0; context = context; state = old }) outcome
    pub state : new ≡ outcome.state
    pub answered : Answers source errors (λ v w. v ≡ gives w) ts outcome result
    pub reads : language.said ≡ true → AnswersText gives language ts.list (errors.takes_no_memory × states.takes_no_memory) result
    pub agreed : steady → (w : Bool) (other : Outcome V errors.Seen states.Seen)
        → meaning (record { wanted = w; tokens = ts; start = 0; context = context; state = old }) other
        → IsAnswer other.verdict
        → IfOk result (λ parsed. Reports source errors (λ v w. SameValue same v (gives w)) ts other parsed × (new ≡ other.state))

module _ {P I V X Cu Tok Sp Er St Cx Mk : Type 0} (source : input_trait.Ghosts I Cu Tok Sp)
    (errors : error_trait.Ghosts Er I Tok Sp) (states : inspector_trait.Ghosts St I Mk Tok Sp)
    (is_default : Cx → Type 0) (parsers : parser_trait.Ghosts P I V X Cu Tok Sp Er St Cx Mk) (parser : P) where
  -- `parse` runs the parser and then the end of input, for a value: what it answers of these tokens, from one state to another
  abbrev pub ParseGives : Layout Tok → states.Seen → states.Seen → Result (ParseResult V Er) Stop → Type 0
  ParseGives ts old new result =
      Parses source errors states is_default (parsers.steady parser) (parsers.same parser) (parsers.language parser)
      Some (WholeRun source errors states (parsers.meaning parser errors states)) true ts old new result

  -- `check` runs both for no value
  abbrev pub CheckGives : Layout Tok → states.Seen → states.Seen → Result (ParseResult (Unit {0}) Er) Stop → Type 0
  CheckGives ts old new result =
      Parses source errors states is_default (parsers.steady parser) (parsers.same parser) (parsers.language parser)
      (λ _. None) (WholeRun source errors states (parsers.meaning parser errors states)) false ts old new result

-- a run from a default state to some other
abbrev pub FromDefault : {St Seen : Type 0} → (St → Type 0) → (St → Seen) → (Seen → Seen → Type 0) → Type 0
FromDefault {St = St} is_default seen run = (first : St) × (last : St) × is_default first × run (seen first) (seen last)

-- whatever stops a run over at most so many tokens is so on these tokens
abbrev pub StopsOnlyAs : {Tok St R : Type 0} → ℕ → (Layout Tok → Stop → Type 0) → (Layout Tok → St → St → Result R Stop → Type 0) → Type 0
StopsOnlyAs {Tok = Tok} {St = St} {R = R} many so gives = (ts : Layout Tok) (old new : St) (result : Result R Stop) → length ts.list ≤ many → gives ts old new result → IfErr result (so ts)

module _ {I Tok Sp Cu Er St Mk Cx V : Type 0} (source : input_trait.Ghosts I Cu Tok Sp) (errors : error_trait.Ghosts Er I Tok Sp) (states : inspector_trait.Ghosts St I Mk Tok Sp) where
  -- where a parser and then the end of input is refused for memory, that run failed
  abbrev pub LacksMemoryOnlyOfNo : Does I Tok Sp Er St Mk Cx V → Type 0
  LacksMemoryOnlyOfNo part =
      (b : Beginning Tok Cx states.Seen) (o : Outcome V errors.Seen states.Seen) (s : Stop)
      → WholeRun source errors states (part errors states) b o → RefusesBy errors.takes_no_memory o.verdict o s
      → s ≡ Memory → o.verdict ≡ No

module _ {A I X V Cu Tok Sp Er St Cx Mk : Type 0} (source : input_trait.Ghosts I Cu Tok Sp)
    (errors : error_trait.Ghosts Er I Tok Sp) (states : inspector_trait.Ghosts St I Mk Tok Sp)
    (is_default : Cx → Type 0) (actions : actions_trait.Ghosts A I X V Cu Tok Sp Er St Cx Mk)
    (parsers : parser_trait.Ghosts (Grammar A) I V X Cu Tok Sp Er St Cx Mk) (grammar : Grammar A) where
  -- what stops a run over at most so many tokens, of which this is known, is for memory, or as a leaf of the grammar is on these tokens
  abbrev StopsAsLeaves : {R : Type 0} → ℕ → (Layout Tok → states.Seen → states.Seen → Result R Stop → Type 0) → Type 0
  StopsAsLeaves many gives = StopsOnlyAs many (RefusesAsLeaves (λ n. actions.leaf_meaning grammar.actions.now n errors states) grammar.rules.rules.now) gives

  -- so is what stops `parse` of the grammar
  abbrev pub ParseStopsAsLeaves : ℕ → Type 0
  ParseStopsAsLeaves many = StopsAsLeaves many (ParseGives source errors states is_default parsers grammar)

  -- and what stops `check` of it
  abbrev pub CheckStopsAsLeaves : ℕ → Type 0
  CheckStopsAsLeaves many = StopsAsLeaves many (CheckGives source errors states is_default parsers grammar)
