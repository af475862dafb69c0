-- Parsers of text: runs, words, ends of lines, keywords, and what is padded.
-- Main words: MeansRun, MeansWord, MeansNewline, MeansKeyword, MeansPadded. Laws: TextRunLaws.antt. Read first: Leading.antt.
use Rattle.std.specs.Prelude.{◌≡◌, ℕ, ◌+◌, Bool, true, false, Option, Some, None, List, [], ◌∷◌, slice_get, slice_range}
use Rattle.chumsky_input.specs.Layout.{Layout}
use Rattle.chumsky_input.specs.declared.error.Error as error_trait
use Rattle.chumsky_input.specs.declared.inspector.Inspector as inspector_trait
use Rattle.chumsky_input.specs.declared.input.Input as input_trait
use Rattle.chumsky_input.specs.Outcome.{Meaning, Beginning, Outcome, Yes}
use Rattle.chumsky_input.specs.Wanted.{Wanted}
use Rattle.chumsky_parser.specs.Chained.{Chained, Given}
use Rattle.chumsky_parser.specs.Failure.{IsWanted, Misses, expects}
use Rattle.chumsky_judge.specs.Judged.{OrLacks}
use Rattle.chumsky_text.specs.Leading.{run_end, run_state, one_end, one_state, expected_at}

module _ {I Tok Sp Cu Er S W : Type 0} (source : input_trait.Ghosts I Cu Tok Sp) (errors : error_trait.Ghosts Er I Tok Sp) where
  -- the outcome; where something would have gone on, it was expected at the end, and that is its one event
  abbrev pub EndsBy : List (Wanted Tok) → Layout Tok → Outcome W errors.Seen S → Outcome W errors.Seen S → Type 0
  EndsBy [] ts whole o = o ≡ whole
  EndsBy (w ∷ ws) ts whole o = OrLacks errors.takes_no_memory (record whole { events = expected_at source errors (w ∷ ws) ts whole.end ∷ [] }) o

module _ {I Tok Sp Cu Er St Mk Cx W : Type 0} (source : input_trait.Ghosts I Cu Tok Sp)
    (is : Layout Tok → ℕ → ℕ → W → Type 0) (errors : error_trait.Ghosts Er I Tok Sp)
    (states : inspector_trait.Ghosts St I Mk Tok Sp) where
  -- yes, with what there is of the tokens from one place to another, where it ends, and where this would have gone on
  pub record Cut (what : List (Wanted Tok)) (from end : ℕ) (state : states.Seen) (b : Beginning Tok Cx states.Seen) (o : Outcome W errors.Seen states.Seen) : Type 0 where
    pub value : Option W
    pub is_value : IsWanted (is b.tokens from end) b.wanted value
    pub outcome : EndsBy source errors what b.tokens (record { verdict = Yes value; end = end; state = state; events = []; emitted = [] }) o

  -- the longest run of passing tokens from here is taken, be it empty; the value reaches from an earlier place
  abbrev pub RunsOn : ℕ → (Tok → Bool) → List (Wanted Tok) → Meaning Tok Cx states.Seen errors.Seen W
  RunsOn from test what b = Cut what from (run_end test b.tokens b.start) (run_state states.after test b.tokens b.start b.state) b

  -- the same of one token at most
  abbrev pub TakesOne : ℕ → (Tok → Bool) → Meaning Tok Cx states.Seen errors.Seen W
  TakesOne from test b = Cut [] from (one_end test b.tokens b.start) (one_state states.after test b.tokens b.start b.state) b

  -- the run is taken; where its tokens do not spell the word, that was expected from the earlier place to its end
  abbrev pub SpelledBy : Bool → ℕ → (Tok → Bool) → List (Wanted Tok) → Meaning Tok Cx states.Seen errors.Seen W
  SpelledBy true from test what b = RunsOn from test [] b
  SpelledBy false from test what b =
      let end = run_end test b.tokens b.start in
      Misses errors.takes_no_memory (expects source errors b.tokens what None from end) end (run_state states.after test b.tokens b.start b.state)

  abbrev pub Spells : (List Tok → Bool) → ℕ → (Tok → Bool) → List (Wanted Tok) → Meaning Tok Cx states.Seen errors.Seen W
  Spells spells from test what b = SpelledBy (spells (slice_range b.tokens.list from (run_end test b.tokens b.start))) from test what b

  -- the run from where the parser begins, be it empty
  pub record MeansRun (test : Tok → Bool) (what : List (Wanted Tok)) (b : Beginning Tok Cx states.Seen) (o : Outcome W errors.Seen states.Seen) : Type 0 where
    pub run : RunsOn b.start test what b o

  module _ (begins : Tok → Bool) (next : Tok → ℕ → Meaning Tok Cx states.Seen errors.Seen W) (what : List (Wanted Tok)) where
    abbrev pub AfterToken : Bool → Tok → Meaning Tok Cx states.Seen errors.Seen W
    AfterToken true t b o = next t b.start (record b { start = b.start + 1; state = states.after b.state t }) o
    AfterToken false t b o = Misses errors.takes_no_memory (expected_at source errors what b.tokens b.start) b.start b.state o

    abbrev pub AfterFirst : Option Tok → Meaning Tok Cx states.Seen errors.Seen W
    AfterFirst None b o = Misses errors.takes_no_memory (expected_at source errors what b.tokens b.start) b.start b.state o
    AfterFirst (Some t) b o = AfterToken (begins t) t b o

    -- a first token that passes is taken, and then what that token leads to; else this was expected here, and nothing is done
    pub record MeansBegun (b : Beginning Tok Cx states.Seen) (o : Outcome W errors.Seen states.Seen) : Type 0 where
      pub by_token : AfterFirst (slice_get b.tokens.list b.start) b o

  module _ (begins : Tok → Bool) (goes_on : Tok → Tok → Bool) (what : List (Wanted Tok)) where
    -- a first token that passes, and the longest run of tokens that may follow it
    abbrev pub MeansWord : (Tok → List (Wanted Tok)) → Meaning Tok Cx states.Seen errors.Seen W
    MeansWord rest_what = MeansBegun begins (λ t from. RunsOn from (goes_on t) (rest_what t)) what

    -- a first token that passes, and one more if that may follow it
    abbrev pub MeansNewline : Meaning Tok Cx states.Seen errors.Seen W
    MeansNewline = MeansBegun begins (λ t from. TakesOne from (goes_on t)) what

  -- a word as above, if it is spelled so; else this was expected where it began
  abbrev pub MeansKeyword : (List Tok → Bool) → (Tok → Bool) → (Tok → Tok → Bool) → List (Wanted Tok) → Meaning Tok Cx states.Seen errors.Seen W
  MeansKeyword spells begins goes_on what = MeansBegun begins (λ t from. Spells spells from (goes_on t) what) what

module _ {I Tok Sp Er St Mk Cx : Type 0} (errors : error_trait.Ghosts Er I Tok Sp) (states : inspector_trait.Ghosts St I Mk Tok Sp) (test : Tok → Bool) where
  -- the run is taken, and nothing is expected after it
  pub record SkipsRun (b : Beginning Tok Cx states.Seen) (o : Outcome (Unit {0}) errors.Seen states.Seen) : Type 0 where
    pub outcome : o ≡ record { verdict = Yes None; end = run_end test b.tokens b.start; state = run_state states.after test b.tokens b.start b.state; events = []; emitted = [] }

  -- a run, the part, and a run
  pub record MeansPadded {V : Type 0} (part : Meaning Tok Cx states.Seen errors.Seen V) (b : Beginning Tok Cx states.Seen) (o : Outcome V errors.Seen states.Seen) : Type 0 where
    pub run : Chained SkipsRun (λ _. Chained part (λ v. Chained SkipsRun (λ _. Given v))) b o
