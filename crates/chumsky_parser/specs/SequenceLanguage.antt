-- The language of parts one after another: a word of the first, and then a word of the second.
-- Main words: joined_language, then_language, ignore_then_language, then_ignore_language, between_language, MayFollow. Laws: joined-accepts, then-accepts and its kin. Read first: Language.antt, Words.antt.
use Rattle.std.proofs.Common.{◌≡◌, true, ◌&&◌, ◌||◌, List, ◌++◌}
use Rattle.chumsky_input.specs.Outcome.{Meaning, EndsAfterStart}
use Rattle.chumsky_parser.specs.Chained.{Sequence}
use Rattle.chumsky_parser.specs.Ignoring.{IgnoringFirst, IgnoringSecond, Between}
use Rattle.chumsky_parser.specs.IgnoringLaws.{ignoring_second-ends}
use Rattle.chumsky_parser.specs.Ending.{Ends, Reads}
use Rattle.chumsky_parser.specs.EndingLaws.{then-by, ignore_then-by, then_ignore-by}
use Rattle.chumsky_parser.specs.FurtherLaws.{then-further, then-decided}
use Rattle.chumsky_parser.specs.Language.{Language, Described, Accepts, GivesOnly, sooner, later}
use Rattle.chumsky_parser.specs.Memory.{NeverOutOfMemory}
use Rattle.chumsky_parser.specs.MemoryLaws.{sequence-spares, ignoring_first-spares, ignoring_second-spares}
use Rattle.chumsky_parser.specs.Progress.{Moves}
use Rattle.chumsky_parser.specs.ProgressLaws.{both-true, sequence-moves, ignoring_first-moves, ignoring_second-moves}
use Rattle.chumsky_parser.specs.Words.{then_ends, Joined}
use Rattle.chumsky_parser.specs.WordsLaws.{then-takes_only, then-takes_each, then-gives_only, ignore_then-gives_only, then_ignore-gives_only}

-- a word of the second, with what may follow it, may follow a word of the first
abbrev pub MayFollow : {Tok V W : Type 0} → Language Tok V → Language Tok W → Type 0
MayFollow {Tok} F G = (w rest : List Tok) → G.word w → G.follow rest → F.follow (w ++ rest)

module _ {Tok V W : Type 0} (F : Language Tok V) (G : Language Tok W) where
  -- words of both joined, with these values
  abbrev pub joined_language : {X : Type 0} → (List Tok → X → Type 0) → (List Tok → X → Type 0) → Language Tok X
  joined_language value stands_for = record {
    said = F.said && G.said;
    ends = then_ends F.ends G.ends;
    value = value;
    word = Joined F.word G.word;
    stands_for = stands_for;
    follow = G.follow;
    unambiguous = F.unambiguous × G.unambiguous × MayFollow F G;
    refused_from = sooner F.refused_from (later G.refused_from F.moves);
    moves = F.moves || G.moves;
    takes_no_memory = F.takes_no_memory × G.takes_no_memory;
  }

  -- with the values of both
  abbrev pub then_language : Language Tok (V × W)
  then_language = joined_language (λ ts v. F.value ts v.0 × Ends (F.ends ts) (λ rest. G.value rest v.1)) (λ w v. Joined (λ u. F.stands_for u v.0) (λ u. G.stands_for u v.1) w)

  -- with the value of the second
  abbrev pub ignore_then_language : Language Tok W
  ignore_then_language = joined_language (λ ts v. Ends (F.ends ts) (λ rest. G.value rest v)) (λ w v. Joined F.word (λ u. G.stands_for u v) w)

  -- with the value of the first
  abbrev pub then_ignore_language : Language Tok V
  then_ignore_language = joined_language F.value (λ w v. Joined (λ u. F.stands_for u v) G.word w)

-- a word between two others, with its own value
abbrev pub between_language : {Tok U V W : Type 0} → Language Tok U → Language Tok V → Language Tok W → Language Tok V
between_language opening F closing = ignore_then_language opening (then_ignore_language F closing)

module _ {Tok Cx St Er V W : Type 0} (first : Meaning Tok Cx St Er V) (second : Meaning Tok Cx St Er W) where
  module _ (F : Language Tok V) (G : Language Tok W) {X : Type 0} (m : Meaning Tok Cx St Er X) (value stands_for : List Tok → X → Type 0) where
    -- that what is made of two parts in turn ends where they do, with these values, and moves and takes memory only as they do
    pub record IsJoined : Type 0 where
      pub reads : Described first F → Described second G → Reads m (then_ends F.ends G.ends) value
      pub given : Described first F → Described second G → GivesOnly (then_ends F.ends G.ends) value stands_for
      pub moving : (F.moves ≡ true → Moves first) → (G.moves ≡ true → Moves second) → (F.moves || G.moves) ≡ true → Moves m
      pub sparing : NeverOutOfMemory first → NeverOutOfMemory second → NeverOutOfMemory m

    pub joined-accepts : {spare : Type 0} → IsJoined → Accepts first F spare → Accepts second G spare → Accepts m (joined_language F G value stands_for) spare
    joined-accepts i h k = record {
      described = λ s.
          let t = both-true F.said G.said s in
          let d = h.described t.0 in
          let e = k.described t.1 in
          record {
            reads = i.reads d e;
            only = then-takes_only F.ends G.ends F.word G.word d.only e.only;
            given = i.given d e;
            each = λ u. then-takes_each F.ends G.ends F.word G.word F.follow G.follow (d.each u.0) (e.each u.1) u.2;
            decided = then-decided F.ends G.ends F.word d.only F.moves d.further F.refused_from G.refused_from d.decided e.decided;
            further = then-further F.ends G.ends F.word G.word d.only e.only F.moves G.moves d.further e.further;
          };
      moving = i.moving h.moving k.moving;
      sparing = λ q t. i.sparing (h.sparing q t.0) (k.sparing q t.1);
    }

  -- `first.then(second)`
  pub then-accepts : {F : Language Tok V} {G : Language Tok W} {spare : Type 0} → EndsAfterStart first → EndsAfterStart second → Accepts first F spare → Accepts second G spare
      → Accepts (Sequence first second) (then_language F G) spare
  then-accepts {F} {G} ef es h k = joined-accepts F G (Sequence first second) _ _ (record {
    reads = λ d e. then-by first second F.ends G.ends F.value G.value d.reads e.reads;
    given = λ d e. then-gives_only F.ends G.ends F.value G.value F.stands_for G.stands_for d.given e.given;
    moving = sequence-moves first second F.moves G.moves ef es;
    sparing = sequence-spares first second;
  }) h k

  -- `first.ignore_then(second)`
  pub ignore_then-accepts : {F : Language Tok V} {G : Language Tok W} {spare : Type 0} → EndsAfterStart first → EndsAfterStart second → Accepts first F spare → Accepts second G spare
      → Accepts (IgnoringFirst first second) (ignore_then_language F G) spare
  ignore_then-accepts {F} {G} ef es h k = joined-accepts F G (IgnoringFirst first second) _ _ (record {
    reads = λ d e. ignore_then-by first second F.ends G.ends F.value G.value d.reads e.reads;
    given = λ d e. ignore_then-gives_only F.ends G.ends F.value G.value F.word G.stands_for d.only e.given;
    moving = ignoring_first-moves first second F.moves G.moves ef es;
    sparing = ignoring_first-spares first second;
  }) h k

  -- `first.then_ignore(second)`
  pub then_ignore-accepts : {F : Language Tok V} {G : Language Tok W} {spare : Type 0} → EndsAfterStart first → EndsAfterStart second → Accepts first F spare → Accepts second G spare
      → Accepts (IgnoringSecond first second) (then_ignore_language F G) spare
  then_ignore-accepts {F} {G} ef es h k = joined-accepts F G (IgnoringSecond first second) _ _ (record {
    reads = λ d e. then_ignore-by first second F.ends G.ends F.value G.value d.reads e.reads;
    given = λ d e. then_ignore-gives_only F.ends G.ends F.value G.value F.stands_for G.word d.given e.only;
    moving = ignoring_second-moves first second F.moves G.moves ef es;
    sparing = ignoring_second-spares first second;
  }) h k

module _ {Tok Cx St Er U V W : Type 0} (opening : Meaning Tok Cx St Er U) (part : Meaning Tok Cx St Er V)
    (closing : Meaning Tok Cx St Er W) {O : Language Tok U} {F : Language Tok V} {C : Language Tok W}
    {spare : Type 0} where
  -- `part.delimited_by(opening, closing)`
  pub between-accepts : EndsAfterStart opening → EndsAfterStart part → EndsAfterStart closing → Accepts opening O spare → Accepts part F spare → Accepts closing C spare
      → Accepts (Between opening part closing) (between_language O F C) spare
  between-accepts eo ep ec h k c = ignore_then-accepts opening (IgnoringSecond part closing) eo (ignoring_second-ends part closing ep ec) h (then_ignore-accepts part closing ep ec k c)
