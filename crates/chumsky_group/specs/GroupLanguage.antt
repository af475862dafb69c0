-- The language of a group: a word of each part in turn.
-- Main words: regrouped_language, AcceptSoFar. Laws: first-accepts, and-accepts, group-accepts. Read first: SequenceLanguage.antt of chumsky_parser, Regrouped.antt.
use Rattle.std.proofs.Common.{◌≡◌, List, sym, subst}
use Rattle.std.specs.Prelude.{option_map}
use Rattle.chumsky_input.specs.Outcome.{Meaning, EndsAfterStart}
use Rattle.chumsky_parser.specs.Chained.{Sequence}
use Rattle.chumsky_parser.specs.EndingLaws.{regrouped-by}
use Rattle.chumsky_parser.specs.Language.{Language, Accepts}
use Rattle.chumsky_parser.specs.LanguageLaws.{with_values, with_values-accepts}
use Rattle.chumsky_parser.specs.Laws.{sequence-ends, given-ends}
use Rattle.chumsky_parser.specs.MemoryLaws.{chained-spares, given-spares}
use Rattle.chumsky_parser.specs.ProgressLaws.{chained-first}
use Rattle.chumsky_parser.specs.SequenceLanguage.{then_language, then-accepts}
use Rattle.chumsky_parser.specs.WordsLaws.{regrouped-gives_only}
use Rattle.chumsky_group.specs.Regrouped.{Regrouped}

-- the same words, their values put together anew, which this takes apart again
abbrev pub regrouped_language : {Tok V W : Type 0} → (W → V) → Language Tok V → Language Tok W
regrouped_language apart F = with_values F (λ ts w. F.value ts (apart w)) (λ u w. F.stands_for u (apart w))

-- parts in turn so far accept a language
pub record AcceptSoFar {Tok Cx St Er V : Type 0} (m : Meaning Tok Cx St Er V) (l : Language Tok V) (spare : Type 0) : Type 0 where
  pub ends : EndsAfterStart m
  pub accept : Accepts m l spare

module _ {Tok Cx St Er V : Type 0} {m : Meaning Tok Cx St Er V} {F : Language Tok V} {spare : Type 0} where
  pub first-accepts : EndsAfterStart m → Accepts m F spare → AcceptSoFar m F spare
  first-accepts e h = record { ends = e; accept = h }

  pub and-accepts : {W : Type 0} {n : Meaning Tok Cx St Er W} {G : Language Tok W} → AcceptSoFar m F spare → EndsAfterStart n → Accepts n G spare → AcceptSoFar (Sequence m n) (then_language F G) spare
  and-accepts {n = n} s e k = record { ends = sequence-ends m n s.ends e; accept = then-accepts m n s.ends e s.accept k }

  pub group-accepts : {W : Type 0} (together : V → W) (apart : W → V) → ((v : V) → apart (together v) ≡ v) → AcceptSoFar m F spare → Accepts (Regrouped together m) (regrouped_language apart F) spare
  group-accepts {W} together apart e s =
      let R : List Tok → W → Type 0 = λ ts w. F.value ts (apart w) in
      with_values-accepts m (Regrouped together m) F R (λ u w. F.stands_for u (apart w)) (record {
        reads = λ d. regrouped-by m F.ends F.value d.reads together R (λ ts v i. subst (F.value ts) (sym (e v)) i);
        given = λ d. regrouped-gives_only F.ends F.value F.stands_for d.given apart;
        moving = λ h. chained-first m _ h (λ v. given-ends (option_map together v));
        sparing = λ h. chained-spares m _ h (λ v. given-spares (option_map together v));
      }) s.accept
