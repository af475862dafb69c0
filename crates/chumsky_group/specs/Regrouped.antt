-- Parts one after another, whose values are put together anew.
-- Main words: Regrouped, And, Grouped. Laws: RegroupedLaws.antt.
use Rattle.std.specs.Prelude.{option_map}
use Rattle.chumsky_input.specs.Outcome.{Meaning}
use Rattle.chumsky_input.specs.Words.{Does}
use Rattle.chumsky_parser.specs.Chained.{Chained, Given, Sequence}

-- the part, its value put through a function
abbrev pub Regrouped : {Tok Cx St Er V W : Type 0} → (V → W) → Meaning Tok Cx St Er V → Meaning Tok Cx St Er W
Regrouped f part = Chained part (λ v. Given (option_map f v))

module _ {I Tok Sp Er St Mk Cx V W : Type 0} where
  -- the first and then the second, in the words of their errors and of their states: both values
  abbrev pub And : Does I Tok Sp Er St Mk Cx V → Does I Tok Sp Er St Mk Cx W → Does I Tok Sp Er St Mk Cx (V × W)
  And first second errors states = Sequence (first errors states) (second errors states)

  -- some parts, their values put through a function
  abbrev pub Grouped : (V → W) → Does I Tok Sp Er St Mk Cx V → Does I Tok Sp Er St Mk Cx W
  Grouped f parts errors states = Regrouped f (parts errors states)

-- the values of parts, which come in pairs from the left, side by side
abbrev pub one_of_pairs : {A : Type 0} → A → record { 0 : A }
one_of_pairs a = record { 0 = a }

abbrev pub three_of_pairs : {A B C : Type 0} → (A × B) × C → A × B × C
three_of_pairs v = (v.0.0, v.0.1, v.1)

abbrev pub pairs_of_three : {A B C : Type 0} → A × B × C → (A × B) × C
pairs_of_three v = ((v.0, v.1), v.2)

abbrev pub four_of_pairs : {A B C D : Type 0} → ((A × B) × C) × D → A × B × C × D
four_of_pairs v = (v.0.0.0, v.0.0.1, v.0.1, v.1)

abbrev pub five_of_pairs : {A B C D F : Type 0} → (((A × B) × C) × D) × F → A × B × C × D × F
five_of_pairs v = (v.0.0.0.0, v.0.0.0.1, v.0.0.1, v.0.1, v.1)

abbrev pub six_of_pairs : {A B C D F G : Type 0} → ((((A × B) × C) × D) × F) × G → A × B × C × D × F × G
six_of_pairs v = (v.0.0.0.0.0, v.0.0.0.0.1, v.0.0.0.1, v.0.0.1, v.0.1, v.1)

abbrev pub seven_of_pairs : {A B C D F G H : Type 0} → (((((A × B) × C) × D) × F) × G) × H → A × B × C × D × F × G × H
seven_of_pairs v = (v.0.0.0.0.0.0, v.0.0.0.0.0.1, v.0.0.0.0.1, v.0.0.0.1, v.0.0.1, v.0.1, v.1)

abbrev pub eight_of_pairs : {A B C D F G H J : Type 0} → ((((((A × B) × C) × D) × F) × G) × H) × J → A × B × C × D × F × G × H × J
eight_of_pairs v = (v.0.0.0.0.0.0.0, v.0.0.0.0.0.0.1, v.0.0.0.0.0.1, v.0.0.0.0.1, v.0.0.0.1, v.0.0.1, v.0.1, v.1)

abbrev pub one_of_one : {A : Type 0} → record { 0 : A } → A
one_of_one v = v.0

abbrev pub pairs_of_four : {A B C D : Type 0} → A × B × C × D → ((A × B) × C) × D
pairs_of_four v = (((v.0, v.1), v.2), v.3)

abbrev pub pairs_of_five : {A B C D F : Type 0} → A × B × C × D × F → (((A × B) × C) × D) × F
pairs_of_five v = ((((v.0, v.1), v.2), v.3), v.4)

abbrev pub pairs_of_six : {A B C D F G : Type 0} → A × B × C × D × F × G → ((((A × B) × C) × D) × F) × G
pairs_of_six v = (((((v.0, v.1), v.2), v.3), v.4), v.5)

abbrev pub pairs_of_seven : {A B C D F G H : Type 0} → A × B × C × D × F × G × H → (((((A × B) × C) × D) × F) × G) × H
pairs_of_seven v = ((((((v.0, v.1), v.2), v.3), v.4), v.5), v.6)

abbrev pub pairs_of_eight : {A B C D F G H J : Type 0} → A × B × C × D × F × G × H × J → ((((((A × B) × C) × D) × F) × G) × H) × J
pairs_of_eight v = (((((((v.0, v.1), v.2), v.3), v.4), v.5), v.6), v.7)
