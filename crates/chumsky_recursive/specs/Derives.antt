-- Derivations: how a rule comes to an answer.
use Rattle.std.specs.Prelude.{ℕ, zero, suc, slice_get}
use Rattle.chumsky_input.specs.declared.error.Error as error_trait
use Rattle.chumsky_input.specs.declared.inspector.Inspector as inspector_trait
use Rattle.chumsky_input.specs.declared.input.Input as input_trait
use Rattle.chumsky_input.specs.declared.stop.Stop.TheVariants.{TooDeep}
use Rattle.chumsky_input.specs.Outcome.{Meaning, Beginning, Outcome, IsAnswer}
use Rattle.chumsky_parser.specs.Failure.{Stops}
use Rattle.chumsky_rules.specs.Tables.{Tables}
use Rattle.chumsky_recursive.specs.declared.actions.Actions as actions_trait
use Rattle.chumsky_recursive.specs.declared.grammar.Grammar.{Grammar}
use Rattle.chumsky_recursive.specs.Means.{Acts, acts_of, body_means, call_means}

module _ {I Tok Sp Cu Er St Mk Cx V : Type 0} (source : input_trait.Ghosts I Cu Tok Sp)
    (errors : error_trait.Ghosts Er I Tok Sp) (states : inspector_trait.Ghosts St I Mk Tok Sp)
    (a : Acts Tok Cx states.Seen errors.Seen V) where
  -- a derivation of this outcome: under some number of open rules the rule has it, and it is an answer, so no stop. The tree is
  -- what `call_means` unfolds to: a level for each rule that is open, and as far down as some number
  pub record Derives (g : Tables) (r : ℕ) (b : Beginning Tok Cx states.Seen) (o : Outcome V errors.Seen states.Seen) : Type 0 where
    pub depth : ℕ
    pub meant : call_means source errors states a g depth r b o
    pub answers : IsAnswer o.verdict

  -- a call of a rule, where so many more rules may be open: each call that its body makes begins at a place that is so related to
  -- its own, and so do, in turn, the calls that these make
  unfoldable pub calls_along : (ℕ → ℕ → Type 0) → Tables → ℕ → ℕ → Meaning Tok Cx states.Seen errors.Seen V
  calls_along related g zero r = Stops TooDeep
  calls_along related g (suc more) r = λ b. body_means source errors states a (λ s c o. related b.start c.start × calls_along related g more s c o) g.nodes (slice_get g.bodies r) b

module _ {A I X V Cu Tok Sp Er St Cx Mk : Type 0} (source : input_trait.Ghosts I Cu Tok Sp)
    (errors : error_trait.Ghosts Er I Tok Sp) (states : inspector_trait.Ghosts St I Mk Tok Sp)
    (actions : actions_trait.Ghosts A I X V Cu Tok Sp Er St Cx Mk) (grammar : Grammar A) where
  -- what the rules of a grammar derive from its start, however deep
  abbrev pub derived_by : Meaning Tok Cx states.Seen errors.Seen V
  derived_by = Derives source errors states (acts_of actions grammar.actions.now source errors states) grammar.rules.rules.now grammar.rules.start

  -- what the start of a grammar does under its limit, where each call begins at a place that is so related to that of the call that
  -- makes it
  abbrev pub start_along : (ℕ → ℕ → Type 0) → Meaning Tok Cx states.Seen errors.Seen V
  start_along related = calls_along source errors states (acts_of actions grammar.actions.now source errors states) related grammar.rules.rules.now grammar.limit grammar.rules.start
