-- Where a part ends that is only looked at.
-- Main words: rewind_ends, not_ends, and_is_ends, PartFollows, KnownByWord. Laws: LookingLaws.antt. Read first: Ending.antt, Language.antt.
use Rattle.std.specs.Prelude.{List, ◌++◌, ⊤}
use Rattle.chumsky_parser.specs.Ending.{Ending, At, Nowhere, Refused, Ender, and_then, Ends}
use Rattle.chumsky_parser.specs.Language.{Begins}

-- at its start again, where it ends
abbrev pub back : {X : Type 0} → X → Ending X → Ending X
back start (At x) = At start
back start Nowhere = Nowhere
back start Refused = Refused

-- at its start, where it fails
abbrev pub unless : {X : Type 0} → X → Ending X → Ending X
unless start (At x) = Nowhere
unless start Nowhere = At start
unless start Refused = Refused

-- there, where the other ends anywhere
abbrev pub there_too : {X : Type 0} → Ending X → X → Ending X
there_too other there = back there other

abbrev pub rewind_ends : {Tok : Type 0} → Ender Tok → Ender Tok
rewind_ends f ts = back ts (f ts)

abbrev pub not_ends : {Tok : Type 0} → Ender Tok → Ender Tok
not_ends f ts = unless ts (f ts)

-- where the part ends, if the other ends too
abbrev pub and_is_ends : {Tok : Type 0} → Ender Tok → Ender Tok → Ender Tok
and_is_ends f g ts = and_then (λ rest. there_too (g ts) rest) (f ts)

-- a word of the part, and then what may follow it
pub record PartFollows {Tok : Type 0} (P follow : List Tok → Type 0) (ts : List Tok) : Type 0 where
  pub rest : List Tok
  pub begins : Begins P ts rest
  pub fits : follow rest

-- it ends anywhere
abbrev pub IsThere : {X : Type 0} → Ending X → Type 0
IsThere x = Ends x (λ _. ⊤)

-- the other may end where this word begins: with some rest it does
abbrev pub MayBeThere : {Tok : Type 0} → Ender Tok → List Tok → Type 0
MayBeThere {Tok} g w = (rest : List Tok) × IsThere (g (w ++ rest))

-- it ends anywhere, unless it is refused
abbrev pub EndsAnywhereOrRefused : {X : Type 0} → Ending X → Type 0
EndsAnywhereOrRefused (At x) = ⊤
EndsAnywhereOrRefused Nowhere = ⊥
EndsAnywhereOrRefused Refused = ⊤

-- whether the other ends where a word begins doesn't depend on what follows the word
abbrev pub KnownByWord : {Tok : Type 0} → Ender Tok → (P follow : List Tok → Type 0) → Type 0
KnownByWord {Tok} g P follow = (w rest other : List Tok) → P w → follow rest → IsThere (g (w ++ other)) → EndsAnywhereOrRefused (g (w ++ rest))
