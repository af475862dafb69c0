-- The languages of what is judged or looked at.
-- Main words: same_but, looked_language, not_language, and_is_language. Laws: map_err-accepts, rewind-accepts, not-accepts, and_is-accepts, vetted-accepts. Read first: Language.antt, Looking.antt.
use Rattle.std.proofs.Common.{◌≡◌, false, ◌&&◌, List, []}
use Rattle.std.specs.Prelude.{⊤}
use Rattle.chumsky_input.specs.declared.error.Error as error_trait
use Rattle.chumsky_input.specs.declared.inspector.Inspector as inspector_trait
use Rattle.chumsky_input.specs.declared.input.Input as input_trait
use Rattle.chumsky_input.specs.Outcome.{Meaning}
use Rattle.chumsky_parser.specs.Ending.{Nowhere, DoesNotEnd, Reads}
use Rattle.chumsky_parser.specs.Language.{Language, Accepts, sooner, unsaid}
use Rattle.chumsky_parser.specs.Memory.{NeverOutOfMemory}
use Rattle.chumsky_parser.specs.Progress.{Moves}
use Rattle.chumsky_parser.specs.ProgressLaws.{both-true}
use Rattle.chumsky_judge.specs.AndIs.{MeansAndIs, MeansRewind}
use Rattle.chumsky_judge.specs.Looking.{rewind_ends, not_ends, and_is_ends, PartFollows, MayBeThere, KnownByWord}
use Rattle.chumsky_judge.specs.LookingLaws.{
  rewind-takes_only,
  rewind-gives_only,
  rewind-takes_each,
  rewind-decided,
  not-takes_only,
  not-gives_only,
  not-takes_each,
  not-decided,
  and_is-takes_only,
  and_is-gives_only,
  and_is-takes_each,
  and_is-further,
  and_is-decided,
}
use Rattle.chumsky_judge.specs.MapErr.{ErrMaps, MeansMapErr}
use Rattle.chumsky_judge.specs.Not.{MeansNot}
use Rattle.chumsky_judge.specs.JudgedEndings.{map_err-by, rewind-by, not-by, and_is-by}
use Rattle.chumsky_judge.specs.JudgedMoves.{vetted-moves, map_err-moves, and_is-moves}
use Rattle.chumsky_judge.specs.JudgedSpares.{vetted-spares, map_err-spares, rewind-spares, not-spares, and_is-spares}
use Rattle.chumsky_judge.specs.Vetted.{Vets, Vetted}

-- nothing is said of the words, but that it moves and takes memory only as its part does
abbrev pub unsaid_over : {Tok V W : Type 0} → Language Tok V → Language Tok W
unsaid_over F = record unsaid { moves = F.moves; takes_no_memory = F.takes_no_memory }

-- the empty word, where a word of the part follows; with the value of such a word
abbrev pub rewind_language : {Tok V : Type 0} → Language Tok V → Language Tok V
rewind_language {Tok} F = record {
  said = F.said;
  ends = rewind_ends F.ends;
  value = F.value;
  word = λ w. w ≡ [];
  stands_for = λ w v. (w ≡ []) × ((u : List Tok) × F.stands_for u v);
  follow = PartFollows F.word F.follow;
  unambiguous = F.unambiguous;
  refused_from = F.refused_from;
  moves = false;
  takes_no_memory = F.takes_no_memory;
}

-- the empty word, where the part does not end on what follows
abbrev pub not_language : {Tok V : Type 0} → Language Tok V → Language Tok (Unit {0})
not_language F = record {
  said = F.said;
  ends = not_ends F.ends;
  value = λ ts _. F.ends ts ≡ Nowhere;
  word = λ w. w ≡ [];
  stands_for = λ w _. w ≡ [];
  follow = λ rest. DoesNotEnd (F.ends rest);
  unambiguous = ⊤;
  refused_from = F.refused_from;
  moves = false;
  takes_no_memory = F.takes_no_memory;
}

-- the words of a part at whose start another one may end, where that doesn't depend on what follows the word
abbrev pub and_is_language : {Tok V W : Type 0} → Language Tok V → Language Tok W → Language Tok V
and_is_language F G = record {
  said = F.said && G.said;
  ends = and_is_ends F.ends G.ends;
  value = F.value;
  word = λ w. F.word w × MayBeThere G.ends w;
  stands_for = λ w v. F.stands_for w v × MayBeThere G.ends w;
  follow = F.follow;
  unambiguous = F.unambiguous × KnownByWord G.ends F.word F.follow;
  refused_from = sooner F.refused_from G.refused_from;
  moves = F.moves;
  takes_no_memory = F.takes_no_memory × G.takes_no_memory;
}

-- what ends where its part does, with its values, and moves and takes memory only as it does, accepts the part's language
pub same-accepts : {Tok Cx St Er V : Type 0} (part m : Meaning Tok Cx St Er V) {F : Language Tok V} {spare : Type 0}
    → (Reads part F.ends F.value → Reads m F.ends F.value) → (Moves part → Moves m)
    → (spare → NeverOutOfMemory part → NeverOutOfMemory m) → Accepts part F spare → Accepts m F spare
same-accepts part m reads moving sparing h = record {
  described = λ s. let d = h.described s in record { reads = reads d.reads; only = d.only; given = d.given; each = d.each; decided = d.decided; further = d.further };
  moving = λ e. moving (h.moving e);
  sparing = λ q t. sparing q (h.sparing q t);
}

module _ {Tok Cx St Er V : Type 0} (merged : Er → Er → Er) (part : Meaning Tok Cx St Er V) {F : Language Tok V} {spare : Type 0} where
  -- `part.map_err(..)` and its kin: errors are no part of a language
  pub map_err-accepts : (maps : ErrMaps Tok Cx St Er) → Accepts part F spare → Accepts (MeansMapErr merged maps part) F spare
  map_err-accepts maps = same-accepts part (MeansMapErr merged maps part) (map_err-by merged maps part F.ends F.value) (map_err-moves merged maps part) (λ _. map_err-spares merged maps part)

  -- `part.rewind()`
  pub rewind-accepts : Accepts part F spare → Accepts (MeansRewind merged part) (rewind_language F) spare
  rewind-accepts h = record {
    described = λ s.
        let d = h.described s in
        record {
          reads = rewind-by merged part F.ends F.value d.reads;
          only = rewind-takes_only F.ends F.value F.stands_for F.word F.follow;
          given = rewind-gives_only F.ends F.value F.stands_for F.word F.follow d.given;
          each = λ u. rewind-takes_each F.ends F.value F.stands_for F.word F.follow (d.each u);
          decided = rewind-decided F.ends F.value F.stands_for F.word F.follow F.refused_from d.decided;
          further = λ e. absurd (cc e);
        };
    moving = λ e. absurd (cc e);
    sparing = λ q t. rewind-spares merged part (h.sparing q t);
  }

module _ {I Tok Sp Cu Er St Mk Cx V : Type 0} (source : input_trait.Ghosts I Cu Tok Sp)
    (errors : error_trait.Ghosts Er I Tok Sp) (states : inspector_trait.Ghosts St I Mk Tok Sp)
    (part : Meaning Tok Cx states.Seen errors.Seen V) where
  -- `part.not()`
  pub not-accepts : {F : Language Tok V} →
      let spare : Type 0 = errors.takes_no_memory × states.takes_no_memory in
      Accepts part F spare → Accepts (MeansNot source errors states part) (not_language F) spare
  not-accepts {F} h = record {
    described = λ s.
        let d = h.described s in
        record {
          reads = not-by source errors states part F.ends F.value d.reads;
          only = not-takes_only F.ends;
          given = not-gives_only F.ends;
          each = λ u. not-takes_each F.ends;
          decided = not-decided F.ends F.refused_from d.decided;
          further = λ e. absurd (cc e);
        };
    moving = λ e. absurd (cc e);
    sparing = λ q t. not-spares source errors states q.0 q.1 part (h.sparing q t);
  }

module _ {Tok Cx St Mk Er V W : Type 0} (mark : St → Mk) (goes_back : St → Mk → St) {safe spare : Type 0} (still : spare → safe) (part : Meaning Tok Cx St Er V) (other : Meaning Tok Cx St Er W) where
  -- `part.and_is(other)`
  pub and_is-accepts : {F : Language Tok V} {G : Language Tok W} → Accepts part F spare → Accepts other G spare → Accepts (MeansAndIs mark goes_back safe part other) (and_is_language F G) spare
  and_is-accepts {F} {G} h k = record {
    described = λ s.
        let t = both-true F.said G.said s in
        let d = h.described t.0 in
        let e = k.described t.1 in
        record {
          reads = and_is-by mark goes_back safe part other F.ends G.ends F.value G.value d.reads e.reads;
          only = and_is-takes_only F.ends G.ends F.value F.stands_for F.word F.follow d.only;
          given = and_is-gives_only F.ends G.ends F.value F.stands_for F.word F.follow d.given;
          each = λ u. and_is-takes_each F.ends G.ends F.value F.stands_for F.word F.follow (d.each u.0) u.1;
          decided = and_is-decided F.ends G.ends F.value F.stands_for F.word F.follow F.refused_from G.refused_from d.decided e.decided;
          further = λ m. and_is-further F.ends G.ends F.value F.stands_for F.word F.follow (d.further m);
        };
    moving = λ e. and_is-moves mark goes_back safe part other (h.moving e);
    sparing = λ q t. and_is-spares mark goes_back safe part other (still q) (h.sparing q t.0) (k.sparing q t.1);
  }

module _ {Tok Cx St Er V W : Type 0} (merged : Er → Er → Er) (free : Type 0) (vets : Vets Tok Cx St Er V W) (part : Meaning Tok Cx St Er V) where
  -- a part whose value is judged, of whose words nothing is said
  pub vetted_unsaid-accepts : {F : Language Tok V} {spare : Type 0} → (spare → free) → Accepts part F spare → Accepts (Vetted merged free vets part) (unsaid_over F) spare
  vetted_unsaid-accepts quiet h = record {
    described = λ s. absurd (cc s);
    moving = λ e. vetted-moves merged free vets part (h.moving e);
    sparing = λ q t. vetted-spares merged free vets part (quiet q) (h.sparing q t);
  }
