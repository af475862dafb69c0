-- Parts of the parser of expressions are lawful: gaps, words and atoms.
-- Main laws: gap-lawful, words-lawful, atom-lawful. Read first: chumsky_descent's Lawful.antt, Reading.antt.
use Rattle.std.proofs.Common.{◌≡◌, ℕ, true, Bool, nat_eq, Option, Some, None, List, [], ◌∷◌, refl, sym, ◌∙◌, ap, subst}
use Rattle.std.specs.Prelude.{⊤, String, string_bytes, encode_utf8_all}
use Rattle.std.specs.Char.{is_whitespace}
use Rattle.std.specs.declared.alloc.Global.{Global}
use Rattle.chumsky_input.specs.declared.error.Error as error_trait
use Rattle.chumsky_input.specs.declared.inspector.Inspector as inspector_trait
use Rattle.chumsky_input.specs.declared.input.Input as input_trait
use Rattle.chumsky_input.specs.Layout.{Layout}
use Rattle.chumsky_input.specs.Outcome.{Meaning, Agreeing}
use Rattle.chumsky_parser.specs.Chained.{Given}
use Rattle.chumsky_parser.specs.Choice.{OrElse}
use Rattle.chumsky_parser.specs.ChoiceLanguage.{or_language}
use Rattle.chumsky_parser.specs.Ignoring.{IgnoringFirst, Between}
use Rattle.chumsky_parser.specs.Language.{Language}
use Rattle.chumsky_parser.specs.SequenceLanguage.{ignore_then_language, between_language}
use Rattle.chumsky_primitive.specs.Any.{MeansAny, CountsAs}
use Rattle.chumsky_primitive.specs.AnyLaws.{any-ends, any-agrees}
use Rattle.chumsky_primitive.specs.Just.{MeansJust}
use Rattle.chumsky_primitive.specs.PrimitiveLanguage.{literal_language}
use Rattle.chumsky_primitive.specs.PrimitiveLanguageLaws.{any-accepts}
use Rattle.chumsky_combinator.specs.Mapped.{Mapped}
use Rattle.chumsky_combinator.specs.MappedLanguage.{map_language}
use Rattle.chumsky_items.specs.Consumers.{Collects}
use Rattle.chumsky_items.specs.ListLanguage.{collected_language}
use Rattle.chumsky_items.specs.RepeatedLanguage.{repeated_language}
use Rattle.chumsky_items.specs.Repeating.{Repeats}
use Rattle.chumsky_items.specs.RepeatingLaws.{repeats-end}
use Rattle.chumsky_items.specs.ItemsMove.{repeats-move, collects-move}
use Rattle.chumsky_judge.specs.Tried.{ByPick, SamePick}
use Rattle.chumsky_judge.specs.Vetted.{Vetted}
use Rattle.chumsky_text.specs.TextLanguage.{run_language}
use Rattle.chumsky_text.specs.TextRun.{MeansRun}
use Rattle.chumsky_descent.specs.Lawful.{Lawful, AnyTwo, ignore_then-lawful, between-lawful, map-lawful, or-lawful, repeated-lawful, just-lawful, pick-lawful, run-lawful}
use Rattle.s_expression.specs.declared.expression.Expression.{Expression}
use Rattle.s_expression.specs.Lisp.{in_word, escaped, is_plain, in_line}
use Rattle.s_expression.specs.ListEnds.{some-further}
use Rattle.s_expression.specs.Picks.{passing, one-by_word}
use Rattle.s_expression.specs.PieceLaws.{pick-further}
use Rattle.s_expression.specs.Reading.{any_one, picked, words}

same_pick : {U : Type 0} (x : Option U) → SamePick (λ _ _. ⊤) x x
same_pick (Some u) = tt
same_pick None = tt

-- the languages of a fixed character, of what stands for a character of a text, and of pieces of a gap
abbrev Fixed : {V : Type 0} → (V → Type 0) → Type 0 → ℕ → Language ℕ V
Fixed copies safe c = literal_language nat_eq (c ∷ []) copies safe

abbrev CharacterLanguage : {V : Type 0} → (V → Type 0) → Type 0 → Language ℕ ℕ
CharacterLanguage copies safe = or_language (picked (passing is_plain)) (ignore_then_language (Fixed copies safe 92) (picked escaped))

abbrev PieceLanguage : {W : Type 0} → (Layout ℕ → ℕ → ℕ → W → Type 0) → (ℕ → Type 0) → (ℕ → Type 0) → Type 0 → Language ℕ ℕ
PieceLanguage is opens ends safe = or_language (picked (passing is_whitespace)) (ignore_then_language (ignore_then_language (Fixed opens safe 59) (run_language is in_line)) (Fixed ends safe 10))

-- what these parsers may do
module _ {I Sp Cu Er St Mk Cx : Type 0} (source : input_trait.Ghosts I Cu ℕ Sp) (errors : error_trait.Ghosts Er I ℕ Sp) (states : inspector_trait.Ghosts St I Mk ℕ Sp) where
  abbrev Else : {V : Type 0} → Meaning ℕ Cx states.Seen errors.Seen V → Meaning ℕ Cx states.Seen errors.Seen V → Meaning ℕ Cx states.Seen errors.Seen V
  Else = OrElse states.mark states.back states.takes_no_memory

  -- `just(c)`
  abbrev Just : {V : Type 0} → (V → Type 0) → Type 0 → ℕ → Meaning ℕ Cx states.Seen errors.Seen V
  Just copies safe c = MeansJust source nat_eq errors states copies safe (c ∷ [])

  -- `any()`, and `any().pick_by(..)`
  abbrev One : Meaning ℕ Cx states.Seen errors.Seen ℕ
  One = MeansAny source (CountsAs (λ c. c)) (λ _. ⊤) errors states

  abbrev Picks : (ℕ → Option ℕ) → Meaning ℕ Cx states.Seen errors.Seen ℕ
  Picks pick = Vetted errors.merged errors.takes_no_memory (ByPick source errors (λ c picked. picked ≡ pick c)) One

  -- a list of these, collected
  abbrev Many : {C : Type 0} → ℕ → Bool → (List ℕ → C → Type 0) → Type 0 → Meaning ℕ Cx states.Seen errors.Seen ℕ → Meaning ℕ Cx states.Seen errors.Seen C
  Many least free holds quiet part = Collects (Repeats states.mark states.back states.takes_no_memory part free least None) (Given (Some 0)) holds quiet

  -- what stands for a character of a text, and a piece of a gap
  abbrev Character : {V : Type 0} → (V → Type 0) → Type 0 → Meaning ℕ Cx states.Seen errors.Seen ℕ
  Character copies safe = Else (Picks (passing is_plain)) (IgnoringFirst (Just copies safe 92) (Picks escaped))

  abbrev Piece : {W : Type 0} → (Layout ℕ → ℕ → ℕ → W → Type 0) → (ℕ → Type 0) → (ℕ → Type 0) → Type 0 → Meaning ℕ Cx states.Seen errors.Seen ℕ
  Piece is opens ends safe = Else (Picks (passing is_whitespace)) (IgnoringFirst (IgnoringFirst (Just opens safe 59) (MeansRun source is errors states in_line [])) (Just ends safe 10))

module _ {I Sp Cu Er St Mk Cx : Type 0} {source : input_trait.Ghosts I Cu ℕ Sp} {errors : error_trait.Ghosts Er I ℕ Sp} {states : inspector_trait.Ghosts St I Mk ℕ Sp} where
  -- `just(c)`
  pub fixed-lawful : {V : Type 0} {copies : V → Type 0} {safe : Type 0} (c : ℕ) → Lawful (errors.takes_no_memory × states.takes_no_memory) (Just {Cx = Cx} source errors states copies safe c) (Fixed copies safe c)
  fixed-lawful {V} {copies} {safe} c = just-lawful (c ∷ []) source nat_eq errors states copies safe

  one-lawful : Lawful (errors.takes_no_memory × states.takes_no_memory) (One {Cx = Cx} source errors states) any_one
  one-lawful = record {
    ends = any-ends source (CountsAs (λ c. c)) (λ _. ⊤) errors states;
    agrees = any-agrees source (CountsAs (λ c. c)) (λ _. ⊤) errors states AnyTwo (λ t v w e d. tt);
    accepts = any-accepts source (CountsAs (λ c. c)) (λ _. ⊤) errors states;
  }

  one_agrees : Agreeing (λ v w. v ≡ w) (One {Cx = Cx} source errors states) (One source errors states)
  one_agrees = any-agrees source (CountsAs (λ c. c)) (λ _. ⊤) errors states (λ v w. v ≡ w) (λ t v w e d. e ∙ sym d)

  -- `any().pick_by(..)`
  pub picked-lawful : (pick : ℕ → Option ℕ) → Lawful (errors.takes_no_memory × states.takes_no_memory) (Picks {Cx = Cx} source errors states pick) (picked pick)
  picked-lawful pick =
      pick-lawful (λ v w. v ≡ w) one_agrees (λ v w x y e g h. subst (SamePick (λ _ _. ⊤) x) (g ∙ ap pick e ∙ sym h) (same_pick x)) (λ w v x s g. one-by_word pick w v x s g) one-lawful

  -- `gap_parser()`
  pub gap-lawful : {C W : Type 0} {is : Layout ℕ → ℕ → ℕ → W → Type 0} {opens ends : ℕ → Type 0} {safe quiet : Type 0} {free : Bool} {holds : List ℕ → C → Type 0}
      → Lawful (errors.takes_no_memory × states.takes_no_memory) (Many {Cx = Cx} source errors states 0 free holds quiet (Piece source errors states is opens ends safe)) (collected_language (repeated_language (PieceLanguage is opens ends safe) 0 None) holds quiet)
  gap-lawful = repeated-lawful (or-lawful (picked-lawful (passing is_whitespace)) (ignore_then-lawful (ignore_then-lawful (fixed-lawful 59) run-lawful) (fixed-lawful 10)))

  -- `word_parser()`, which takes a character
  pub words-lawful : {free : Bool} → Lawful (errors.takes_no_memory × states.takes_no_memory) (Many {Cx = Cx} source errors states 1 free (λ cs (s : String Global). string_bytes s ≡ encode_utf8_all cs) ⊥ (Picks source errors states (passing in_word))) words
  words-lawful {free} =
      let one = picked-lawful (passing in_word) in
      let all = repeated-lawful one {free = free} {least = 1} {most = None} {holds = λ cs (s : String Global). string_bytes s ≡ encode_utf8_all cs} {quiet = ⊥} in
      record {
        ends = all.ends;
        agrees = all.agrees;
        accepts = record {
          described = λ s.
              let d = all.accepts.described s in
              record { reads = d.reads; only = d.only; given = d.given; each = d.each; decided = d.decided; further = λ e. some-further (picked (passing in_word)).ends (pick-further (passing in_word)) };
          moving = λ e. collects-move _ _ (repeats-end states.mark states.back states.takes_no_memory _ free 1 None one.ends) (repeats-move states.mark states.back states.takes_no_memory _ free 1 None refl (one.accepts.moving refl)) _ ⊥;
          sparing = λ q t. all.accepts.sparing q t;
        };
      }

  -- `atom_parser()`
  pub atom-lawful : {V : Type 0} {copies : V → Type 0} {safe : Type 0} {opens ends : ℕ → Type 0} {word_free text_free : Bool} {to_atom to_text : String Global → Expression → Type 0}
      → Lawful (errors.takes_no_memory × states.takes_no_memory)
      (Else {Cx = Cx} source errors states
      (Mapped to_atom (Many source errors states 1 word_free (λ cs (s : String Global). string_bytes s ≡ encode_utf8_all cs) ⊥ (Picks source errors states (passing in_word))))
      (Mapped to_text (Between (Just source errors states opens safe 34) (Many source errors states 0 text_free (λ cs (s : String Global). string_bytes s ≡ encode_utf8_all cs) ⊥ (Character source errors states copies safe)) (Just source errors states ends safe 34))))
      (or_language (map_language to_atom words)
      (map_language to_text (between_language (Fixed opens safe 34) (collected_language (repeated_language (CharacterLanguage copies safe) 0 None) (λ cs (s : String Global). string_bytes s ≡ encode_utf8_all cs) ⊥) (Fixed ends safe 34))))
  atom-lawful =
      or-lawful (map-lawful words-lawful)
      (map-lawful (between-lawful (fixed-lawful 34) (repeated-lawful (or-lawful (picked-lawful (passing is_plain)) (ignore_then-lawful (fixed-lawful 92) (picked-lawful escaped)))) (fixed-lawful 34)))
