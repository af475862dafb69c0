-- The parsers of the parts of a query accept their languages.
-- Main laws: number-lawful, head-lawful, label-lawful, question-lawful. Read first: QueryPicks.antt; GroupLanguage.antt of chumsky_group, ContextsLaws.antt of chumsky_exact.
use Rattle.std.proofs.Common.{◌≡◌, ℕ, ◌+◌, ◌*◌, ◌<◌, nat_eq, true, false, Option, Some, None, [], ◌∷◌, refl}
use Rattle.std.specs.declared.alloc.Global.{Global}
use Rattle.std.specs.declared.vec.Vec.{Vec}
use Rattle.chumsky_input.specs.declared.error.Error as error_trait
use Rattle.chumsky_input.specs.declared.inspector.Inspector as inspector_trait
use Rattle.chumsky_input.specs.declared.input.Input as input_trait
use Rattle.chumsky_input.specs.Outcome.{Meaning}
use Rattle.chumsky_parser.specs.Chained.{Given, Sequence}
use Rattle.chumsky_parser.specs.Ignoring.{IgnoringSecond}
use Rattle.chumsky_parser.specs.IgnoringLaws.{ignoring_second-ends}
use Rattle.chumsky_parser.specs.Language.{Language}
use Rattle.chumsky_parser.specs.Laws.{sequence-ends}
use Rattle.chumsky_parser.specs.SequenceLanguage.{then_language, then-accepts, then_ignore_language, then_ignore-accepts}
use Rattle.chumsky_primitive.specs.Any.{MeansAny, CountsAs}
use Rattle.chumsky_primitive.specs.AnyLaws.{any-ends}
use Rattle.chumsky_primitive.specs.Just.{MeansJust}
use Rattle.chumsky_primitive.specs.JustLaws.{just-ends}
use Rattle.chumsky_primitive.specs.PrimitiveLanguage.{one_language, literal_language}
use Rattle.chumsky_primitive.specs.PrimitiveLanguageLaws.{any-accepts, just-accepts}
use Rattle.chumsky_combinator.specs.Mapped.{Mapped}
use Rattle.chumsky_combinator.specs.MappedLanguage.{map_language, map-accepts}
use Rattle.chumsky_combinator.specs.MappedLaws.{mapped-ends}
use Rattle.chumsky_group.specs.GroupLanguage.{AcceptSoFar, regrouped_language, and-accepts, group-accepts}
use Rattle.chumsky_group.specs.Regrouped.{Regrouped, three_of_pairs, pairs_of_three, six_of_pairs, pairs_of_six}
use Rattle.chumsky_group.specs.RegroupedLaws.{regrouped-ends}
use Rattle.chumsky_items.specs.Consumers.{Collects}
use Rattle.chumsky_items.specs.ConsumersLaws.{collects-ends}
use Rattle.chumsky_items.specs.ListLanguage.{collected_language, collects-accepts}
use Rattle.chumsky_items.specs.RepeatedLanguage.{repeated_language, repeated-accepts}
use Rattle.chumsky_items.specs.Repeating.{Repeats}
use Rattle.chumsky_items.specs.RepeatingLaws.{repeats-end}
use Rattle.chumsky_context.specs.Configured.{Configured}
use Rattle.chumsky_context.specs.ConfiguredLaws.{configured-ends}
use Rattle.chumsky_context.specs.Under.{IgnoringUnder}
use Rattle.chumsky_context.specs.UnderLaws.{ignoring_under-ends}
use Rattle.chumsky_judge.specs.Picked.{picked_language}
use Rattle.chumsky_judge.specs.PickedLaws.{picked-accepts}
use Rattle.chumsky_judge.specs.Tried.{ByPick}
use Rattle.chumsky_judge.specs.Vetted.{Vetted}
use Rattle.chumsky_judge.specs.VettedLaws.{vetted-ends}
use Rattle.chumsky_exact.specs.Contexts.{ignore_under_language}
use Rattle.chumsky_exact.specs.ContextsLaws.{ignore_under-accepts}
use Rattle.chumsky_exact.specs.SoMany.{AsksFor, so_many_language, so_many-accepts}
use Rattle.examples.specs.declared.query.Head.{Head}
use Rattle.examples.specs.declared.query.Question.{Question}
use Rattle.examples.specs.QueryPicks.{Holds, number_of, length_of, label_length, head_of, packet_head}
use Rattle.examples.specs.QueryPicksLaws.{number-by_word, length-by_word, head-by_word}

-- what is made of two bytes, of six numbers and of one byte, and of the parts of a question
abbrev pub GivesNumber : ℕ × ℕ → Option ℕ → Type 0
GivesNumber bytes number = (bytes.1 < 256) × (number ≡ Some (bytes.0 * 256 + bytes.1))

abbrev pub GivesHead : ℕ × ℕ × ℕ × ℕ × ℕ × ℕ → Option Head → Type 0
GivesHead numbers head = head ≡ Some (head_of numbers)

abbrev pub GivesLength : ℕ → Option ℕ → Type 0
GivesLength byte length = length ≡ length_of byte

abbrev pub GivesQuestion : Vec (Vec ℕ Global) Global × ℕ × ℕ → Question → Type 0
GivesQuestion parts question = question ≡ record { name = parts.0; kind = parts.1; class = parts.2 }

-- the languages of these parts
abbrev OneLanguage : (ℕ → Type 0) → Language ℕ ℕ
OneLanguage safe = one_language (λ t. true) (CountsAs (λ c. c)) ((t : ℕ) → safe t)

abbrev NumberLanguage : (ℕ → Type 0) → Language ℕ ℕ
NumberLanguage safe = picked_language number_of (then_language (OneLanguage safe) (OneLanguage safe))

abbrev SixLanguage : (ℕ → Type 0) → Language ℕ (((((ℕ × ℕ) × ℕ) × ℕ) × ℕ) × ℕ)
SixLanguage safe = let n = NumberLanguage safe in then_language (then_language (then_language (then_language (then_language n n) n) n) n) n

abbrev HeadLanguage : (ℕ → Type 0) → Language ℕ Head
HeadLanguage safe = picked_language packet_head (regrouped_language pairs_of_six (SixLanguage safe))

abbrev LabelLanguage : (ℕ → Type 0) → Type 0 → Language ℕ (Vec ℕ Global)
LabelLanguage safe quiet = ignore_under_language (picked_language label_length (OneLanguage safe)) label_length (so_many_language (λ n. n) (OneLanguage safe) Holds quiet)

abbrev LabelsLanguage : (ℕ → Type 0) → Type 0 → Type 0 → (ℕ → Type 0) → Type 0 → Language ℕ (Vec (Vec ℕ Global) Global)
LabelsLanguage safe quiet free copies unrefused = then_ignore_language (collected_language (repeated_language (LabelLanguage safe quiet) 0 None) Holds free) (literal_language nat_eq (0 ∷ []) copies unrefused)

module _ {I Sp Cu Er St Mk : Type 0} (source : input_trait.Ghosts I Cu ℕ Sp) (errors : error_trait.Ghosts Er I ℕ Sp) (states : inspector_trait.Ghosts St I Mk ℕ Sp) (safe : ℕ → Type 0) where
  -- a meaning of a part, and that no answer ends before its start and that it accepts its language
  abbrev Means : Type 0 → Type 0 → Type 1
  Means Cx V = Meaning ℕ Cx states.Seen errors.Seen V

  abbrev IsLawful : {Cx V : Type 0} → Means Cx V → Language ℕ V → Type 0
  IsLawful m l = AcceptSoFar m l (errors.takes_no_memory × states.takes_no_memory)

  -- `any()`
  abbrev One : (Cx : Type 0) → Means Cx ℕ
  One Cx = MeansAny {Cx = Cx} source (CountsAs (λ c. c)) safe errors states

  -- a part whose value is picked
  abbrev Picks : {Cx V U : Type 0} → (V → Option U → Type 0) → Means Cx V → Means Cx U
  Picks gives part = Vetted errors.merged errors.takes_no_memory (ByPick source errors gives) part

  -- a list that is collected, of so many items
  abbrev Lists : {Cx V : Type 0} → Means Cx V → ℕ → Option ℕ → Type 0 → Means Cx (Vec V Global)
  Lists item least most quiet = Collects (Repeats states.mark states.back states.takes_no_memory item false least most) (Given (Some 0)) Holds quiet

  module _ {Cx : Type 0} where
    one-lawful : IsLawful (One Cx) (OneLanguage safe)
    one-lawful = record { ends = any-ends source (CountsAs (λ c. c)) safe errors states; accept = any-accepts source (CountsAs (λ c. c)) safe errors states }

    -- two bytes, of which a number is picked
    abbrev MeansNumber : Means Cx ℕ
    MeansNumber = Picks GivesNumber (Sequence (One Cx) (One Cx))

    pub number-lawful : IsLawful MeansNumber (NumberLanguage safe)
    number-lawful =
        let o = one-lawful in
        record {
          ends = vetted-ends _ _ _ _ (sequence-ends (One Cx) (One Cx) o.ends o.ends);
          accept = picked-accepts source errors (Sequence (One Cx) (One Cx)) GivesNumber number_of (λ w v x s g. number-by_word w v x s g) (then-accepts (One Cx) (One Cx) o.ends o.ends o.accept o.accept);
        }

    -- six numbers, of which a head is picked
    abbrev MeansSix : Means Cx (((((ℕ × ℕ) × ℕ) × ℕ) × ℕ) × ℕ)
    MeansSix = let n = MeansNumber in Sequence (Sequence (Sequence (Sequence (Sequence n n) n) n) n) n

    six-lawful : IsLawful MeansSix (SixLanguage safe)
    six-lawful =
        let n = number-lawful in
        and-accepts (and-accepts (and-accepts (and-accepts (and-accepts n n.ends n.accept) n.ends n.accept) n.ends n.accept) n.ends n.accept) n.ends n.accept

    pub head-lawful : IsLawful (Picks GivesHead (Regrouped six_of_pairs MeansSix)) (HeadLanguage safe)
    head-lawful =
        let s = six-lawful in
        record {
          ends = vetted-ends _ _ _ _ (regrouped-ends six_of_pairs MeansSix s.ends);
          accept = picked-accepts source errors (Regrouped six_of_pairs MeansSix) GivesHead packet_head (λ w v x s g. head-by_word w v x s g) (group-accepts six_of_pairs pairs_of_six (λ v. refl) s);
        }

    -- a byte with a length, and so many bytes
    abbrev MeansLabel : Type 0 → Means Cx (Vec ℕ Global)
    MeansLabel quiet = IgnoringUnder (Picks GivesLength (One Cx)) (Configured (AsksFor (λ n. n)) (λ n. Lists (One ℕ) n (Some n) quiet))

  bytes-lawful : {quiet : Type 0} (n : ℕ) → IsLawful (Lists (One ℕ) n (Some n) quiet) (collected_language (repeated_language (OneLanguage safe) n (Some n)) Holds quiet)
  bytes-lawful {quiet} n =
      let o = one-lawful {Cx = ℕ} in
      record {
        ends = collects-ends _ _ Holds quiet (repeats-end states.mark states.back states.takes_no_memory (One ℕ) false n (Some n) o.ends);
        accept = collects-accepts _ _ (repeated_language (OneLanguage safe) n (Some n)) Holds quiet (repeated-accepts states.mark states.back states.takes_no_memory (One ℕ) false n (Some n) (OneLanguage safe) o.ends o.accept);
      }

  -- labels and a zero
  abbrev MeansLabels : (Cx : Type 0) → Type 0 → Type 0 → (ℕ → Type 0) → Type 0 → Means Cx (Vec (Vec ℕ Global) Global)
  MeansLabels Cx quiet free copies unrefused = IgnoringSecond (Lists (MeansLabel {Cx = Cx} quiet) 0 None free) (MeansJust source nat_eq errors states copies unrefused (0 ∷ []))

  module _ {Cx : Type 0} {quiet : Type 0} where
    pub label-lawful : IsLawful (MeansLabel {Cx = Cx} quiet) (LabelLanguage safe quiet)
    label-lawful =
        let o = one-lawful {Cx = Cx} in
        let length_ends = vetted-ends errors.merged errors.takes_no_memory (ByPick source errors GivesLength) (One Cx) o.ends in
        let list_ends = configured-ends (AsksFor (λ n. n)) (λ n. Lists (One ℕ) n (Some n) quiet) (λ n. (bytes-lawful n).ends) in
        let length_accepts = picked-accepts source errors (One Cx) GivesLength label_length (λ w v x s g. length-by_word w v x s g) o.accept in
        record {
          ends = ignoring_under-ends _ _ length_ends list_ends;
          accept = ignore_under-accepts _ _ (picked_language label_length (OneLanguage safe)) label_length (so_many_language (λ n. n) (OneLanguage safe) Holds quiet) length_ends list_ends (record { some = λ w i. i.1; one = λ w v i. i.1 })
              length_accepts (so_many-accepts (λ n. n) _ (OneLanguage safe) Holds quiet (λ n. (bytes-lawful n).accept));
        }

    module _ {free : Type 0} {copies : ℕ → Type 0} {unrefused : Type 0} where
      labels-lawful : IsLawful (MeansLabels Cx quiet free copies unrefused) (LabelsLanguage safe quiet free copies unrefused)
      labels-lawful =
          let l = label-lawful in
          let list_ends = collects-ends _ _ Holds free (repeats-end states.mark states.back states.takes_no_memory (MeansLabel quiet) false 0 None l.ends) in
          let zero_ends = just-ends source nat_eq errors states copies unrefused (0 ∷ []) in
          record {
            ends = ignoring_second-ends _ _ list_ends zero_ends;
            accept = then_ignore-accepts _ _ list_ends zero_ends
                (collects-accepts _ _ (repeated_language (LabelLanguage safe quiet) 0 None) Holds free (repeated-accepts states.mark states.back states.takes_no_memory (MeansLabel quiet) false 0 None (LabelLanguage safe quiet) l.ends l.accept))
                (just-accepts source nat_eq errors states copies unrefused (0 ∷ []));
          }

      -- and two numbers
      pub question-lawful : IsLawful (Mapped GivesQuestion (Regrouped three_of_pairs (Sequence (Sequence (MeansLabels Cx quiet free copies unrefused) MeansNumber) MeansNumber)))
          (map_language GivesQuestion (regrouped_language pairs_of_three (then_language (then_language (LabelsLanguage safe quiet free copies unrefused) (NumberLanguage safe)) (NumberLanguage safe))))
      question-lawful =
          let n = number-lawful {Cx = Cx} in
          let s = and-accepts (and-accepts labels-lawful n.ends n.accept) n.ends n.accept in
          record { ends = mapped-ends GivesQuestion _ (regrouped-ends three_of_pairs _ s.ends); accept = map-accepts GivesQuestion _ (group-accepts three_of_pairs pairs_of_three (λ v. refl) s) }
