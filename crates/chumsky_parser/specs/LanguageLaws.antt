-- What accepts a language, since another does whose outcomes it has; and a language with other values.
-- Main words: with_values, IsMade. Main laws: fewer-accepts, with_values-accepts. Read first: Language.antt.
use Rattle.std.proofs.Common.{List}
use Rattle.chumsky_input.specs.Outcome.{Meaning, Beginning, Outcome}
use Rattle.chumsky_parser.specs.Ending.{Reads}
use Rattle.chumsky_parser.specs.Language.{Language, Described, Accepts, GivesOnly}
use Rattle.chumsky_parser.specs.Progress.{Moves}
use Rattle.chumsky_parser.specs.Memory.{NeverOutOfMemory}

module _ {Tok Cx St Er V : Type 0} (m n : Meaning Tok Cx St Er V) (fewer : (b : Beginning Tok Cx St) (o : Outcome V Er St) → m b o → n b o) (l : Language Tok V) where
  -- what has no other outcomes accepts the same language
  pub fewer-accepts : {spare : Type 0} → Accepts n l spare → Accepts m l spare
  fewer-accepts h = record {
    described = λ s.
        let d = h.described s in
        record {
          reads = record { here = λ b w o x. d.reads.here b w o (fewer b o x) };
          only = d.only;
          given = d.given;
          each = d.each;
          decided = d.decided;
          further = d.further;
        };
    moving = λ e b o x. h.moving e b o (fewer b o x);
    sparing = λ q t b o x. h.sparing q t b o (fewer b o x);
  }

-- the same words, with other values
abbrev pub with_values : {Tok V W : Type 0} → Language Tok V → (List Tok → W → Type 0) → (List Tok → W → Type 0) → Language Tok W
with_values F value stands_for = record {
  said = F.said;
  ends = F.ends;
  value = value;
  word = F.word;
  stands_for = stands_for;
  follow = F.follow;
  unambiguous = F.unambiguous;
  refused_from = F.refused_from;
  moves = F.moves;
  takes_no_memory = F.takes_no_memory;
}

module _ {Tok Cx St Er V W : Type 0} (part : Meaning Tok Cx St Er V) (m : Meaning Tok Cx St Er W) (F : Language Tok V) (value stands_for : List Tok → W → Type 0) where
  -- that what is made of a part ends where the part does, with these values, and moves and takes memory only as the part does
  pub record IsMade : Type 0 where
    pub reads : Described part F → Reads m F.ends value
    pub given : Described part F → GivesOnly F.ends value stands_for
    pub moving : Moves part → Moves m
    pub sparing : NeverOutOfMemory part → NeverOutOfMemory m

  pub with_values-accepts : {spare : Type 0} → IsMade → Accepts part F spare → Accepts m (with_values F value stands_for) spare
  with_values-accepts i h = record {
    described = λ s. let d = h.described s in record { reads = i.reads d; only = d.only; given = i.given d; each = d.each; decided = d.decided; further = d.further };
    moving = λ e. i.moving (h.moving e);
    sparing = λ q t. i.sparing (h.sparing q t);
  }
