-- The language of a part whose value is picked, where what is picked is known by the word.
-- Main words: picked_language, PicksByWord. Laws: picked-accepts. Read first: Tried.antt, chumsky_parser's Language.antt.
use Rattle.std.specs.Prelude.{◌≡◌, Option, Some, None, List, ⊤}
use Rattle.chumsky_parser.specs.Ending.{Ending, At, Nowhere, Ender, and_then, Ends}
use Rattle.chumsky_parser.specs.Language.{Language}
use Rattle.chumsky_parser.specs.Words.{taken_of}

-- there, where something is picked
abbrev pub if_picked : {U X : Type 0} → Option U → X → Ending X
if_picked (Some u) there = At there
if_picked None there = Nowhere

-- something is picked
abbrev pub IsPick : {U : Type 0} → Option U → Type 0
IsPick (Some u) = ⊤
IsPick None = ⊥

module _ {Tok U : Type 0} (picks : List Tok → Option U) where
  -- where the part ends, if something is picked of the word that it took
  abbrev pub picked_ends : Ender Tok → Ender Tok
  picked_ends f ts = and_then (λ rest. if_picked (picks (taken_of ts rest)) rest) (f ts)

  -- the words of the part of which something is picked, with what is picked
  abbrev pub picked_language : {V : Type 0} → Language Tok V → Language Tok U
  picked_language F = record {
    said = F.said;
    ends = picked_ends F.ends;
    value = λ ts u. Ends (F.ends ts) (λ rest. picks (taken_of ts rest) ≡ Some u);
    word = λ w. F.word w × IsPick (picks w);
    stands_for = λ w u. F.word w × (picks w ≡ Some u);
    follow = F.follow;
    unambiguous = F.unambiguous;
    refused_from = F.refused_from;
    moves = F.moves;
    takes_no_memory = F.takes_no_memory;
  }

  -- of each value of a word that is picked which is picked of the word
  abbrev pub PicksByWord : {V : Type 0} → (List Tok → V → Type 0) → (V → Option U → Type 0) → Type 0
  PicksByWord {V} stands_for gives = (w : List Tok) (v : V) (x : Option U) → stands_for w v → gives v x → x ≡ picks w
