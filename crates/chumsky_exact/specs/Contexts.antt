-- The language of a parser that asks its context, and of a part whose word decides the context of the next.
-- Main words: LanguageUnder, AcceptsUnder, IsDecided, then_under_language, ignore_under_language. Laws: ContextsLaws.antt. Read first: Language.antt and Words.antt of chumsky_parser.
use Rattle.std.specs.Prelude.{◌≡◌, ℕ, Bool, ◌&&◌, ◌||◌, Option, Some, None, List}
use Rattle.chumsky_input.specs.Outcome.{Meaning}
use Rattle.chumsky_parser.specs.Ending.{Nowhere, Ender, and_then, Ends}
use Rattle.chumsky_parser.specs.Language.{Language, Accepts, sooner, later}
use Rattle.chumsky_parser.specs.SequenceLanguage.{MayFollow}
use Rattle.chumsky_parser.specs.Words.{Joined, taken_of}
use Rattle.chumsky_judge.specs.Picked.{IsPick}

-- what is said of a parser that asks its context
pub record LanguageUnder (Cx Tok V : Type 0) : Type 1 where
  -- its words and values under a context
  pub under : Cx → Language Tok V
  -- and under any: that its language is said, how many tokens a text has at least that is refused for something else than memory,
  -- that it takes a token wherever it succeeds, and what has to take no memory
  pub said : Bool
  pub refused_from : Option ℕ
  pub moves : Bool
  pub takes_no_memory : Type 0

-- its language under a context
abbrev pub language_at : {Cx Tok V : Type 0} → LanguageUnder Cx Tok V → Cx → Language Tok V
language_at l c = record (l.under c) { said = l.said; refused_from = l.refused_from; moves = l.moves; takes_no_memory = l.takes_no_memory }

-- a meaning, of runs under this context alone
abbrev pub OnlyUnder : {Tok Cx St Er V : Type 0} → Cx → Meaning Tok Cx St Er V → Meaning Tok Cx St Er V
OnlyUnder c m b o = (b.context ≡ c) × m b o

-- what is said holds under each context
abbrev pub AcceptsUnder : {Tok Cx St Er V : Type 0} → Meaning Tok Cx St Er V → LanguageUnder Cx Tok V → Type 0 → Type 0
AcceptsUnder {Cx = Cx} m l spare = (c : Cx) → Accepts (OnlyUnder c m) (language_at l c) spare

-- of each word a value is decided, and it stands for that one alone
pub record IsDecided {Tok V : Type 0} (l : Language Tok V) (decides : List Tok → Option V) : Type 0 where
  pub some : (w : List Tok) → l.word w → IsPick (decides w)
  pub one : (w : List Tok) (v : V) → l.stands_for w v → decides w ≡ Some v

module _ {Tok V W : Type 0} (F : Language Tok V) (decides : List Tok → Option V) (G : LanguageUnder V Tok W) where
  -- where the second ends under a value
  abbrev pub ends_under : Option V → Ender Tok
  ends_under (Some v) ts = (G.under v).ends ts
  ends_under None ts = Nowhere

  -- where the second ends under the value that the word of the first decides
  abbrev pub under_ends : Ender Tok
  under_ends ts = and_then (λ rest. ends_under (decides (taken_of ts rest)) rest) (F.ends ts)

  -- a word of the first, which decides a value, and a word of the second under that value; with these values
  abbrev pub under_language : {X : Type 0} → (List Tok → X → Type 0) → (List Tok → X → Type 0) → Language Tok X
  under_language value stands_for = record {
    said = F.said && G.said;
    ends = under_ends;
    value = value;
    word = λ w. (v : V) × Joined (λ u. F.word u × (decides u ≡ Some v)) (G.under v).word w;
    stands_for = stands_for;
    follow = λ rest. (v : V) → (G.under v).follow rest;
    unambiguous = F.unambiguous × ((v : V) → (G.under v).unambiguous × MayFollow F (G.under v));
    refused_from = sooner F.refused_from (later G.refused_from F.moves);
    moves = F.moves || G.moves;
    takes_no_memory = F.takes_no_memory × G.takes_no_memory;
  }

  -- with both values
  abbrev pub then_under_language : Language Tok (V × W)
  then_under_language = under_language (λ ts x. F.value ts x.0 × Ends (F.ends ts) (λ rest. (G.under x.0).value rest x.1)) (λ w x. Joined (λ u. F.stands_for u x.0) (λ u. (G.under x.0).stands_for u x.1) w)

  -- with the value of the second
  abbrev pub ignore_under_language : Language Tok W
  ignore_under_language = under_language (λ ts x. (v : V) × F.value ts v × Ends (F.ends ts) (λ rest. (G.under v).value rest x)) (λ w x. (v : V) × Joined (λ u. F.stands_for u v) (λ u. (G.under v).stands_for u x) w)
