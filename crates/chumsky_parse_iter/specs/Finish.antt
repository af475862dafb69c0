-- The answer at the end of a run that gave its items one after another.
use Rattle.std.specs.Prelude.{◌≡◌, ⊤, ℕ, ◌+◌, ◌^◌, nat_lt, Bool, true, false, Option, Some, None, List, [], ◌∷◌, length, Result, Ok, Err, map}
use Rattle.std.specs.declared.alloc.Global.{Global}
use Rattle.std.specs.declared.vec.Vec.{Vec}
use Rattle.chumsky_input.specs.Layout.{Layout}
use Rattle.chumsky_input.specs.declared.error.Error as error_trait
use Rattle.chumsky_input.specs.declared.inspector.Inspector as inspector_trait
use Rattle.chumsky_input.specs.declared.input.Input as input_trait
use Rattle.chumsky_input.specs.declared.stop.Stop.{Stop}
use Rattle.chumsky_input.specs.declared.stop.Stop.TheVariants.{CountTooLarge}
use Rattle.chumsky_input.specs.declared.stop.Fault.{Fault}
use Rattle.chumsky_input.specs.declared.stop.Fault.TheVariants as fault
use Rattle.chumsky_input.specs.declared.aside.Aside.{Aside}
use Rattle.chumsky_input.specs.Held.{Held}
use Rattle.chumsky_input.specs.Outcome.{Meaning, Beginning, Outcome, Yes, IsAnswer}
use Rattle.chumsky_input.specs.Run.{Ran, begin, without_value}
use Rattle.chumsky_input.specs.Words.{Does}
use Rattle.chumsky_parser.specs.declared.iter.IterParserDebug.{IterParserDebug}
use Rattle.chumsky_items.specs.declared.collect.Collect.{Collect}
use Rattle.chumsky_parser.specs.Chained.{Chained, Asked}
use Rattle.chumsky_parser.specs.Failure.{SaysNo, Stops}
use Rattle.chumsky_parser.specs.Items.{Next, AfterStep}
use Rattle.chumsky_parser.specs.declared.result.ParseResult.{ParseResult}
use Rattle.chumsky_primitive.specs.End.{MeansEnd}
use Rattle.chumsky_parse_iter.specs.declared.parse_iter.ParseIter.{ParseIter}
use Rattle.chumsky_parse_iter.specs.declared.parse_iter.Parts.{Parts}
use Rattle.chumsky_parse_iter.specs.declared.parse_iter.Phase.{Phase}
use Rattle.chumsky_parse_iter.specs.declared.parse_iter.Phase.TheVariants.{Unbegun, Running, Ended, Refused}
use Rattle.chumsky_parser.specs.Settled.{SettlesAs, reported, RefusesBy}
use Rattle.chumsky_parse_iter.specs.Walk.{held_of, held_in}

module _ {I Tok Sp Cu Er St Mk Cx : Type 0} (source : input_trait.Ghosts I Cu Tok Sp) (errors : error_trait.Ghosts Er I Tok Sp) (states : inspector_trait.Ghosts St I Mk Tok Sp) where
  -- a failure and a refusal stand; else the end of input is asked for where the run stands
  abbrev pub Closing : {S : Type 0} → Phase S → Meaning Tok Cx states.Seen errors.Seen (Unit {0})
  Closing Unbegun = MeansEnd source errors states
  Closing (Running s) = MeansEnd source errors states
  Closing Ended = MeansEnd source errors states
  Closing (Refused fault.Fail) = SaysNo
  Closing (Refused (fault.Stop s)) = Stops s

  -- the run closes, and a failure adds its last error to those that were emitted: the state and the errors that it leaves
  pub record ClosesWith (closing : Meaning Tok Cx states.Seen errors.Seen (Unit {0}))
      (old : Held Tok Cx states.Seen errors.Seen) (state : states.Seen) (found : List errors.Seen)
      (result : Result (Option (Unit {0})) Stop) : Type 0 where
    pub answer : Result (Unit {0}) Fault
    pub mid : Held Tok Cx states.Seen errors.Seen
    pub left : Held Tok Cx states.Seen errors.Seen
    pub ran : Ran errors.merged errors.takes_no_memory closing false old mid (without_value answer)
    pub settles : SettlesAs errors.expectation source.span_between answer mid left result
    pub state_is : state ≡ left.state
    pub found_is : found ≡ left.emitted

module _ {I Tok Sp Er R : Type 0} (errors : error_trait.Ghosts Er I Tok Sp) (out : R) where
  -- the output and the errors found, or the refusal
  abbrev pub Replies : List errors.Seen → Result (Option (Unit {0})) Stop → Result (ParseResult R Er) Stop → Type 0
  Replies found (Ok closed) r = (parsed : ParseResult R Er) × (r ≡ Ok parsed) × (parsed.output ≡ Some out) × (map errors.seen parsed.errors.items ≡ found)
  Replies found (Err s) r = r ≡ Err s

module _ {I Tok Sp Cu Er St Mk Cx S R : Type 0} (source : input_trait.Ghosts I Cu Tok Sp) (errors : error_trait.Ghosts Er I Tok Sp) (states : inspector_trait.Ghosts St I Mk Tok Sp) where
  -- the run closes, and is answered with this output
  pub record Finishes (phase : Phase S) (old : Held Tok Cx states.Seen errors.Seen) (out : R) (state : states.Seen) (result : Result (ParseResult R Er) Stop) : Type 0 where
    pub found : List errors.Seen
    pub closed : Result (Option (Unit {0})) Stop
    pub closes : ClosesWith source errors states (Closing source errors states phase) old state found closed
    pub replies : Replies errors out found closed result

module _ {I Tok Sp Cu Er St Mk Cx S : Type 0} (source : input_trait.Ghosts I Cu Tok Sp) (errors : error_trait.Ghosts Er I Tok Sp) (states : inspector_trait.Ghosts St I Mk Tok Sp) where
  -- a run closes from a cursor, older errors and a state, under a context: the state and the errors that it leaves
  abbrev pub ClosesFrom : Phase S → Cu → Aside Er → St → Cx → St → List Er → Result (Option (Unit {0})) Stop → Type 0
  ClosesFrom phase cursor older state context left found closed =
      ClosesWith source errors states (Closing source errors states phase) (held_of source errors states cursor older state context) (states.seen left) (map errors.seen found) closed

  -- the same of what a run holds, which is answered with this output
  abbrev pub FinishesRun : {R : Type 0} → Phase S → Parts Cu Er St Cx → R → St → Result (ParseResult R Er) Stop → Type 0
  FinishesRun phase parts out left result = Finishes source errors states phase (held_in source errors states parts) out (states.seen left) result

-- calls of `next`, one after another, with what each gave
abbrev pub Called : {T A : Type 0} → (T → Option A → T → Type 0) → T → List (Option A) → T → Type 0
Called nexts w [] v = w ≡ v
Called {T} nexts w (r ∷ rs) v = (u : T) × nexts w r u × Called nexts u rs v

-- what calls of `next` gave: once none, no item any more
abbrev pub AllNone : {V : Type 0} → List (Option V) → Type 0
AllNone [] = ⊤
AllNone (r ∷ rs) = (r ≡ None) × AllNone rs

abbrev pub StaysNone : {V : Type 0} → List (Option V) → Type 0
StaysNone [] = ⊤
StaysNone (Some x ∷ rs) = StaysNone rs
StaysNone (None ∷ rs) = AllNone rs

-- what calls of `next` gave is the beginning of a list, each item the same as that at its place; once none, no item any more
abbrev pub IsStartOf : {V : Type 0} → (V → V → Type 0) → List (Option V) → List V → Type 0
IsStartOf same [] ys = ⊤
IsStartOf same (Some x ∷ rs) [] = ⊥
IsStartOf same (Some x ∷ rs) (y ∷ ys) = same x y × IsStartOf same rs ys
IsStartOf same (None ∷ rs) ys = AllNone rs

-- an outcome of the part that is a yes
pub record Succeeding {Tok Cx St Er W : Type 0} (part : Meaning Tok Cx St Er W) (b : Beginning Tok Cx St) (o : Outcome W Er St) : Type 0 where
  pub meant : part b o
  pub value : Option W
  pub is : o.verdict ≡ Yes value

-- what a call ran: it said yes where the call gave an item
abbrev pub RanFor : {Tok Cx St Er V W : Type 0} → Option V → Meaning Tok Cx St Er W → Meaning Tok Cx St Er W
RanFor (Some x) part = Succeeding part
RanFor None part = part

module _ {Tok Cx St Er S V : Type 0} where
  -- what follows a step, asked for after n items: the item that was given, where it can be counted; and where none was given,
  -- the end, or an item too many
  abbrev pub AfterCall : Option V → ℕ → (S → Meaning Tok Cx St Er (Unit {0})) → Meaning Tok Cx St Er (Unit {0}) → Option (Next S V) → Meaning Tok Cx St Er (Unit {0})
  AfterCall (Some x) n on ending = AfterStep (λ v t b o. (v ≡ Some x) × (nat_lt (n + 1) (2 ^ 64) ≡ true) × on t b o) (λ b o. ⊥)
  AfterCall None n on ending = AfterStep (λ v t b o. (nat_lt (n + 1) (2 ^ 64) ≡ false) × Stops CountTooLarge b o) ending

module _ {Tok Cx St Er S V : Type 0} (begins : Meaning Tok Cx St Er S) (gives : S → Meaning Tok Cx St Er (Next S V)) (ending : Meaning Tok Cx St Er (Unit {0})) where
  -- a walk on from after n items: the items are asked for by calls that gave this; then, or after an end before that, it ends
  abbrev pub WalkFrom : List (Option V) → ℕ → S → Meaning Tok Cx St Er (Unit {0})
  WalkFrom [] n s = ending
  WalkFrom (r ∷ rs) n s = Chained (Asked true (RanFor r (gives s))) (AfterCall r n (WalkFrom rs (n + 1)) ending)

  -- the same of an iteration that was made, from its first item on
  abbrev pub WalkMade : List (Option V) → Option S → Meaning Tok Cx St Er (Unit {0})
  WalkMade rs (Some s) = WalkFrom rs 0 s
  WalkMade rs None = λ b o. ⊥

  -- a whole run of calls that gave this: where there is any, an iteration is made first
  abbrev pub WholeWalk : List (Option V) → Meaning Tok Cx St Er (Unit {0})
  WholeWalk [] = ending
  WholeWalk (r ∷ rs) = Chained (Asked true (RanFor r begins)) (WalkMade (r ∷ rs))

module _ {I Tok Sp Cu Er V R : Type 0} (source : input_trait.Ghosts I Cu Tok Sp) (errors : error_trait.Ghosts Er I Tok Sp) where
  -- the errors of an answer, beside an output that is there in any case
  pub record ReportsBeside {St : Type 0} (out : R) (ts : Layout Tok) (o : Outcome V errors.Seen St) (parsed : ParseResult R Er) : Type 0 where
    pub answers : IsAnswer o.verdict
    pub output : parsed.output ≡ Some out
    pub errors_are : map errors.seen parsed.errors.items ≡ reported errors.expectation source.span_between o.verdict ts o errors.merged

  abbrev pub AnswersBeside : {St : Type 0} → R → Layout Tok → Outcome V errors.Seen St → Result (ParseResult R Er) Stop → Type 0
  AnswersBeside out ts o (Ok parsed) = ReportsBeside out ts o parsed
  AnswersBeside out ts o (Err s) = RefusesBy errors.takes_no_memory o.verdict o s

  -- an outcome from where a run begins, the state that it leaves, and the answer
  pub record AnswersWhole {Cx St : Type 0} (meaning : Meaning Tok Cx St errors.Seen V)
      (start : Held Tok Cx St errors.Seen) (out : R) (state : St) (result : Result (ParseResult R Er) Stop) : Type 0
    where
      pub outcome : Outcome V errors.Seen St
      pub meant : meaning (begin false start) outcome
      pub state_is : state ≡ outcome.state
      pub answered : AnswersBeside out start.tokens outcome result

module _ {I Tok Sp Cu Er St Mk Cx S V : Type 0} (source : input_trait.Ghosts I Cu Tok Sp)
    (errors : error_trait.Ghosts Er I Tok Sp) (states : inspector_trait.Ghosts St I Mk Tok Sp)
    (begins : Meaning Tok Cx states.Seen errors.Seen S)
    (gives : S → Meaning Tok Cx states.Seen errors.Seen (Next S V)) where
  -- however the last step was left, what is answered then is answered of the whole run, of calls that gave this
  abbrev pub AnswersTheWhole : (R : Type 0) → Held Tok Cx states.Seen errors.Seen → List (Option V) → Phase S → Held Tok Cx states.Seen errors.Seen → Type 0
  AnswersTheWhole R start gave phase last =
      (out : R) (state : states.Seen) (result : Result (ParseResult R Er) Stop) → Finishes source errors states phase last out state result
      → AnswersWhole source errors (WholeWalk begins gives (MeansEnd source errors states) gave) start out state result

module _ {P I V X Cu S Tok Sp Er St Cx Mk : Type 0} (source : input_trait.Ghosts I Cu Tok Sp) (errors : error_trait.Ghosts Er I Tok Sp) (states : inspector_trait.Ghosts St I Mk Tok Sp) where
  -- let a run be as `parse_iter` makes it: whatever number of items it was asked for, what `finish` answers then is answered of
  -- the whole run
  abbrev pub FinishAnswers : (P → Does I Tok Sp Er St Mk Cx S)
      → (P → IterParserDebug → S → Does I Tok Sp Er St Mk Cx (Next S V))
      → (ParseIter P I V X Cu S Tok Sp Er St Cx Mk → Option V → ParseIter P I V X Cu S Tok Sp Er St Cx Mk → Type 0)
      → (R : Type 0) → ParseIter P I V X Cu S Tok Sp Er St Cx Mk → ParseIter P I V X Cu S Tok Sp Er St Cx Mk → Type 0
  FinishAnswers begins gives nexts R run last =
      (gave : List (Option V)) → run.phase ≡ Unbegun → run.given ≡ 0
      → (held_in source errors states run.parts).kept ≡ None
      → (held_in source errors states run.parts).emitted ≡ [] → Called nexts run gave last
      → AnswersTheWhole source errors states (begins run.parser.now errors states)
      (λ s. gives run.parser.now (record { nonconsumption_is_ok = false }) s errors states) R
      (held_in source errors states run.parts) gave last.phase (held_in source errors states last.parts)

  module _ (steady : P → Type 0)
      (nexts : ParseIter P I V X Cu S Tok Sp Er St Cx Mk → Option V → ParseIter P I V X Cu S Tok Sp Er St Cx Mk → Type 0)
      (collect : Collect P V (Vec V Global) → Does I Tok Sp Er St Mk Cx (Vec V Global))
      (run last : ParseIter P I V X Cu S Tok Sp Er St Cx Mk) where
    -- what is so of whatever a run of a steady parser gave that had not begun, and of each list that `collect` may give from
    -- where it began
    abbrev pub WithCollected : (List (Option V) → List V → Type 0) → Type 0
    WithCollected is =
        steady run.parser.now → (gave : List (Option V)) → run.phase ≡ Unbegun → Called nexts run gave last → (o : Outcome (Vec V Global) errors.Seen states.Seen) (v : Vec V Global)
        → collect (record { parser = run.parser.now; of = record {} }) errors states (begin true (held_in source errors states run.parts)) o → o.verdict ≡ Yes (Some v) → is gave v.items

    -- the items given are the first of those collected
    abbrev pub GivesStartOf : (P → V → V → Type 0) → Type 0
    GivesStartOf same = WithCollected (IsStartOf (same run.parser.now))

    -- where a run that had given none has ended, it gave as many as are collected
    abbrev pub GivesAsMany : Type 0
    GivesAsMany = WithCollected (λ gave items. run.given ≡ 0 → last.phase ≡ Ended → last.given ≡ length items)
