-- Parts of the parser of JSON are lawful: blanks, marks, and what stands for a character of a string.
-- Main laws: mark-lawful, words-lawful, unit-lawful, pair-lawful, piece-lawful. Read first: chumsky_descent's Lawful.antt, JsonPicks.antt.
use Rattle.std.proofs.Common.{◌≡◌, ℕ, true, nat_eq, Option, Some, None, List, [], ◌∷◌, sym, ◌∙◌, ap, subst}
use Rattle.std.specs.Prelude.{⊤, codes}
use Rattle.chumsky_input.specs.declared.error.Error as error_trait
use Rattle.chumsky_input.specs.declared.inspector.Inspector as inspector_trait
use Rattle.chumsky_input.specs.declared.input.Input as input_trait
use Rattle.chumsky_input.specs.Layout.{Layout}
use Rattle.chumsky_input.specs.Outcome.{Meaning, Agreeing}
use Rattle.chumsky_parser.specs.Chained.{Sequence, SamePair}
use Rattle.chumsky_parser.specs.Choice.{OrElse}
use Rattle.chumsky_parser.specs.ChoiceLanguage.{or_language}
use Rattle.chumsky_parser.specs.Ignoring.{IgnoringFirst}
use Rattle.chumsky_parser.specs.Language.{Language}
use Rattle.chumsky_parser.specs.Laws.{sequence-agrees}
use Rattle.chumsky_parser.specs.SequenceLanguage.{then_language, ignore_then_language}
use Rattle.chumsky_primitive.specs.Any.{MeansAny, CountsAs}
use Rattle.chumsky_primitive.specs.AnyLaws.{any-ends, any-agrees}
use Rattle.chumsky_primitive.specs.Just.{MeansJust}
use Rattle.chumsky_primitive.specs.PrimitiveLanguage.{one_language, literal_language}
use Rattle.chumsky_primitive.specs.PrimitiveLanguageLaws.{any-accepts}
use Rattle.chumsky_combinator.specs.Mapped.{Mapped}
use Rattle.chumsky_combinator.specs.MappedLanguage.{map_language}
use Rattle.chumsky_judge.specs.Picked.{picked_language}
use Rattle.chumsky_judge.specs.Tried.{ByPick, SamePick}
use Rattle.chumsky_judge.specs.Vetted.{Vetted}
use Rattle.chumsky_text.specs.TextLanguage.{run_language}
use Rattle.chumsky_text.specs.TextRun.{MeansRun}
use Rattle.chumsky_descent.specs.Lawful.{Lawful, AnyTwo, then-lawful, ignore_then-lawful, map-lawful, or-lawful, just-lawful, pick-lawful, run-lawful}
use Rattle.exact.specs.JsonForms.{is_blank}
use Rattle.exact.specs.JsonStrings.{escaped}
use Rattle.exact.specs.JsonPicks.{of_one, plain_of, digits_of, lone_of, high_of, low_of}
use Rattle.exact.specs.JsonPicksLaws.{one-by_word, four-by_word}

same_pick : {U : Type 0} (x : Option U) → SamePick (λ _ _. ⊤) x x
same_pick (Some u) = tt
same_pick None = tt

-- four characters are each the same
abbrev SameFour : ((ℕ × ℕ) × ℕ) × ℕ → ((ℕ × ℕ) × ℕ) × ℕ → Type 0
SameFour = SamePair (SamePair (SamePair (λ v w. v ≡ w) (λ v w. v ≡ w)) (λ v w. v ≡ w)) (λ v w. v ≡ w)

same_digits : (v w : ((ℕ × ℕ) × ℕ) × ℕ) → SameFour v w → digits_of v ≡ digits_of w
same_digits v w e =
    let a : v.0.0.0 ≡ w.0.0.0 = e.0.0.0 in
    let b : v.0.0.1 ≡ w.0.0.1 = e.0.0.1 in
    let c : v.0.1 ≡ w.0.1 = e.0.1 in
    let d : v.1 ≡ w.1 = e.1 in
    cc (a, b, c, d)

-- the languages of fixed characters, of one after blanks, and of words that are made values
abbrev Fixed : {V : Type 0} → (V → Type 0) → Type 0 → List ℕ → Language ℕ V
Fixed copies safe cs = literal_language nat_eq cs copies safe

abbrev MarkLanguage : {V W : Type 0} → (Layout ℕ → ℕ → ℕ → W → Type 0) → (V → Type 0) → Type 0 → ℕ → Language ℕ V
MarkLanguage is copies safe c = ignore_then_language (run_language is is_blank) (Fixed copies safe (c ∷ []))

-- of any character, of any four, and of what is picked of them
abbrev OneLanguage : Language ℕ ℕ
OneLanguage = one_language (λ t. true) (CountsAs (λ c. c)) ((t : ℕ) → ⊤)

abbrev FourLanguage : Language ℕ (((ℕ × ℕ) × ℕ) × ℕ)
FourLanguage = then_language (then_language (then_language OneLanguage OneLanguage) OneLanguage) OneLanguage

abbrev PickedOne : (ℕ → Option ℕ) → Language ℕ ℕ
PickedOne pick = picked_language (of_one pick) OneLanguage

abbrev UnitLanguage : {V U : Type 0} → (V → Type 0) → Type 0 → (List ℕ → Option U) → Language ℕ U
UnitLanguage copies safe pick = ignore_then_language (Fixed copies safe (92 ∷ 117 ∷ [])) (picked_language pick FourLanguage)

abbrev PairLanguage : {V U : Type 0} → (V → Type 0) → Type 0 → (ℕ × ℕ → U → Type 0) → Language ℕ U
PairLanguage copies safe maps = map_language maps (then_language (UnitLanguage copies safe high_of) (UnitLanguage copies safe low_of))

-- what these parsers may do
module _ {I Sp Cu Er St Mk Cx : Type 0} (source : input_trait.Ghosts I Cu ℕ Sp) (errors : error_trait.Ghosts Er I ℕ Sp) (states : inspector_trait.Ghosts St I Mk ℕ Sp) where
  abbrev Else : {V : Type 0} → Meaning ℕ Cx states.Seen errors.Seen V → Meaning ℕ Cx states.Seen errors.Seen V → Meaning ℕ Cx states.Seen errors.Seen V
  Else = OrElse states.mark states.back states.takes_no_memory

  -- `just(cs)`
  abbrev Just : {V : Type 0} → (V → Type 0) → Type 0 → List ℕ → Meaning ℕ Cx states.Seen errors.Seen V
  Just copies safe cs = MeansJust source nat_eq errors states copies safe cs

  -- `blanks()`
  abbrev Blanks : {W : Type 0} → (Layout ℕ → ℕ → ℕ → W → Type 0) → Meaning ℕ Cx states.Seen errors.Seen W
  Blanks is = MeansRun source is errors states is_blank []

  -- `any()`, and four of them
  abbrev One : Meaning ℕ Cx states.Seen errors.Seen ℕ
  One = MeansAny source (CountsAs (λ c. c)) (λ _. ⊤) errors states

  abbrev Four : Meaning ℕ Cx states.Seen errors.Seen (((ℕ × ℕ) × ℕ) × ℕ)
  Four = Sequence (Sequence (Sequence One One) One) One

  -- `any().pick_by(..)`
  abbrev PicksOne : (ℕ → Option ℕ) → Meaning ℕ Cx states.Seen errors.Seen ℕ
  PicksOne pick = Vetted errors.merged errors.takes_no_memory (ByPick source errors (λ c picked. picked ≡ pick c)) One

  -- `unit_by(..)`
  abbrev PicksUnit : {V U : Type 0} → (V → Type 0) → Type 0 → (List ℕ → Option U) → Meaning ℕ Cx states.Seen errors.Seen U
  PicksUnit copies safe pick =
      IgnoringFirst (Just copies safe (92 ∷ 117 ∷ [])) (Vetted errors.merged errors.takes_no_memory (ByPick source errors (λ digits picked. picked ≡ pick (digits_of digits))) Four)

  -- `pair_parser()`
  abbrev Pairs : {V U : Type 0} → (V → Type 0) → Type 0 → (ℕ × ℕ → U → Type 0) → Meaning ℕ Cx states.Seen errors.Seen U
  Pairs copies safe maps = Mapped maps (Sequence (PicksUnit copies safe high_of) (PicksUnit copies safe low_of))

module _ {I Sp Cu Er St Mk Cx : Type 0} {source : input_trait.Ghosts I Cu ℕ Sp} {errors : error_trait.Ghosts Er I ℕ Sp} {states : inspector_trait.Ghosts St I Mk ℕ Sp} where
  pub blanks-lawful : {W : Type 0} {is : Layout ℕ → ℕ → ℕ → W → Type 0} → Lawful (errors.takes_no_memory × states.takes_no_memory) (Blanks {Cx = Cx} source errors states is) (run_language is is_blank)
  blanks-lawful = run-lawful

  module _ {V : Type 0} {copies : V → Type 0} {safe : Type 0} where
    -- `just(c)`
    pub letter-lawful : (c : ℕ) → Lawful (errors.takes_no_memory × states.takes_no_memory) (Just {Cx = Cx} source errors states copies safe (c ∷ [])) (Fixed copies safe (c ∷ []))
    letter-lawful c = just-lawful (c ∷ []) source nat_eq errors states copies safe

    -- `mark(c)`
    pub mark-lawful : {W : Type 0} {is : Layout ℕ → ℕ → ℕ → W → Type 0} (c : ℕ)
        → Lawful (errors.takes_no_memory × states.takes_no_memory) (IgnoringFirst (Blanks source errors states is) (Just {Cx = Cx} source errors states copies safe (c ∷ []))) (MarkLanguage is copies safe c)
    mark-lawful c = ignore_then-lawful blanks-lawful (letter-lawful c)

  -- `null`, `true` and `false`, each made a value
  pub words-lawful : {V W R : Type 0} {null_copies true_copies : V → Type 0} {false_copies : W → Type 0} {safe safe_five : Type 0} {null yes : V → R → Type 0} {no : W → R → Type 0}
      → Lawful (errors.takes_no_memory × states.takes_no_memory)
      (Else source errors states (Mapped null (Just {Cx = Cx} source errors states null_copies safe (codes "null")))
      (Else source errors states (Mapped yes (Just source errors states true_copies safe (codes "true"))) (Mapped no (Just source errors states false_copies safe_five (codes "false")))))
      (or_language (map_language null (Fixed null_copies safe (codes "null"))) (or_language (map_language yes (Fixed true_copies safe (codes "true"))) (map_language no (Fixed false_copies safe_five (codes "false")))))
  words-lawful =
      or-lawful (map-lawful (just-lawful (codes "null") source nat_eq errors states _ _))
      (or-lawful (map-lawful (just-lawful (codes "true") source nat_eq errors states _ _)) (map-lawful (just-lawful (codes "false") source nat_eq errors states _ _)))

  one-lawful : Lawful (errors.takes_no_memory × states.takes_no_memory) (One {Cx = Cx} source errors states) OneLanguage
  one-lawful = record {
    ends = any-ends source (CountsAs (λ c. c)) (λ _. ⊤) errors states;
    agrees = any-agrees source (CountsAs (λ c. c)) (λ _. ⊤) errors states AnyTwo (λ t v w e d. tt);
    accepts = any-accepts source (CountsAs (λ c. c)) (λ _. ⊤) errors states;
  }

  one_agrees : Agreeing (λ v w. v ≡ w) (One {Cx = Cx} source errors states) (One source errors states)
  one_agrees = any-agrees source (CountsAs (λ c. c)) (λ _. ⊤) errors states (λ v w. v ≡ w) (λ t v w e d. e ∙ sym d)

  four-lawful : Lawful (errors.takes_no_memory × states.takes_no_memory) (Four {Cx = Cx} source errors states) FourLanguage
  four-lawful = then-lawful (then-lawful (then-lawful one-lawful one-lawful) one-lawful) one-lawful

  four_agrees : Agreeing SameFour (Four {Cx = Cx} source errors states) (Four source errors states)
  four_agrees = sequence-agrees _ _ _ _ (sequence-agrees _ _ _ _ (sequence-agrees _ _ (λ v w. v ≡ w) (λ v w. v ≡ w) one_agrees one_agrees) one_agrees) one_agrees

  pick_one-lawful : (pick : ℕ → Option ℕ) → Lawful (errors.takes_no_memory × states.takes_no_memory) (PicksOne {Cx = Cx} source errors states pick) (PickedOne pick)
  pick_one-lawful pick =
      pick-lawful (λ v w. v ≡ w) one_agrees (λ v w x y e g h. subst (SamePick (λ _ _. ⊤) x) (g ∙ ap pick e ∙ sym h) (same_pick x)) (λ w v x s g. one-by_word pick w v x s g) one-lawful

  module _ {V : Type 0} {copies : V → Type 0} {safe : Type 0} where
    -- `unit_by(..)`
    pub unit-lawful : {U : Type 0} (pick : List ℕ → Option U) → Lawful (errors.takes_no_memory × states.takes_no_memory) (PicksUnit {Cx = Cx} source errors states copies safe pick) (UnitLanguage copies safe pick)
    unit-lawful pick =
        ignore_then-lawful
        (just-lawful (92 ∷ 117 ∷ []) source nat_eq errors states copies safe)
        (pick-lawful SameFour four_agrees (λ v w x y e g h. subst (SamePick (λ _ _. ⊤) x) (g ∙ ap pick (same_digits v w e) ∙ sym h) (same_pick x)) (λ w v x s g. four-by_word pick w v x s g) four-lawful)

    -- `pair_parser()`
    pub pair-lawful : {U : Type 0} {maps : ℕ × ℕ → U → Type 0} → Lawful (errors.takes_no_memory × states.takes_no_memory) (Pairs {Cx = Cx} source errors states copies safe maps) (PairLanguage copies safe maps)
    pair-lawful = map-lawful (then-lawful (unit-lawful high_of) (unit-lawful low_of))

    -- `piece_parser()`
    pub piece-lawful : {W : Type 0} {copies_one : W → Type 0} {safe_one : Type 0} {maps : ℕ × ℕ → ℕ → Type 0}
        → Lawful (errors.takes_no_memory × states.takes_no_memory)
        (Else source errors states (PicksOne {Cx = Cx} source errors states plain_of)
        (Else source errors states (IgnoringFirst (Just source errors states copies_one safe_one (92 ∷ [])) (PicksOne source errors states escaped))
        (Else source errors states (PicksUnit source errors states copies safe lone_of) (Pairs source errors states copies safe maps))))
        (or_language (PickedOne plain_of) (or_language (ignore_then_language (Fixed copies_one safe_one (92 ∷ [])) (PickedOne escaped)) (or_language (UnitLanguage copies safe lone_of) (PairLanguage copies safe maps))))
    piece-lawful = or-lawful (pick_one-lawful plain_of) (or-lawful (ignore_then-lawful (letter-lawful 92) (pick_one-lawful escaped)) (or-lawful (unit-lawful lone_of) pair-lawful))
