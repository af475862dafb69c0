-- Where a step of a list ends, by where its items and separators do; and which words it takes.
-- Main words: repeated_next, separated_next, RepeatedWord, RepeatedEnd, SeparatedWord, SeparatedEnd. Read first: ItemsLanguage.antt of the parsers.
use Rattle.std.specs.Prelude.{◌≡◌, ℕ, zero, suc, ◌≤◌, ◌<◌, nat_lt, nat_le, ◌&&◌, Bool, true, false, cond, Option, Some, None, List, [], ⊤, ◌⊎◌}
use Rattle.chumsky_parser.specs.Ending.{Ending, At, Nowhere, Refused, Ender, and_then, or_else, DoesNotEnd}
use Rattle.chumsky_parser.specs.Words.{Joined}
use Rattle.chumsky_parser.specs.ItemsLanguage.{Stepped, One, Over}
use Rattle.chumsky_items.specs.Repeating.{at_cap}

-- the list is over, where this ends
abbrev pub overs : {Tok : Type 0} → Ending (List Tok) → Ending (Stepped Tok)
overs (At rest) = At (Over rest)
overs Nowhere = Nowhere
overs Refused = Refused

-- one more item, where the first ends; and where it fails, the list is over where the second ends
abbrev pub one_or : {Tok : Type 0} → Ending (List Tok) → Ending (List Tok) → Ending (Stepped Tok)
one_or (At rest) other = At (One rest)
one_or Nowhere other = overs other
one_or Refused other = Refused

-- here, unless there are too few items
abbrev pub unless_few : {X : Type 0} → Bool → X → Ending X
unless_few true x = Nowhere
unless_few false x = At x

-- a step of `repeated`
abbrev pub repeated_next : {Tok : Type 0} → Ender Tok → ℕ → Option ℕ → ℕ → List Tok → Ending (Stepped Tok)
repeated_next f least most k ts = cond (at_cap most k) (overs (At ts)) (one_or (f ts) (unless_few (nat_lt k least) ts))

-- the separator before an item: none before the first, unless it may lead
abbrev pub lead_at : {Tok : Type 0} → Ender Tok → Bool → ℕ → Ender Tok
lead_at separator leading (suc k) ts = separator ts
lead_at separator true zero ts = or_else (separator ts) (At ts)
lead_at separator false zero ts = At ts

-- at the cap a separator is taken where it may trail
abbrev pub full_at : {Tok : Type 0} → Ender Tok → Bool → ℕ → Ender Tok
full_at separator trailing zero ts = At ts
full_at separator true (suc k) ts = or_else (separator ts) (At ts)
full_at separator false (suc k) ts = At ts

-- whether a separator may stand where the list ends
abbrev pub stands : Bool → Bool → ℕ → Bool
stands leading trailing zero = leading
stands leading trailing (suc k) = trailing

-- where the separator ends, if it stays, and there is one
abbrev pub stay_or : {X : Type 0} → Bool → Ending X → Ending X → Ending X
stay_or true x other = or_else x other
stay_or false x other = other

-- where no item follows a separator stays that may stand there, if there are enough items
abbrev pub none_at : {Tok : Type 0} → Ender Tok → Bool → Bool → ℕ → ℕ → Ender Tok
none_at separator leading trailing least k ts = stay_or (stands leading trailing k && nat_le least k) (lead_at separator leading k ts) (unless_few (nat_lt k least) ts)

-- a step of `separated_by`
abbrev pub separated_next : {Tok : Type 0} → Ender Tok → Ender Tok → Bool → Bool → ℕ → Option ℕ → ℕ → List Tok → Ending (Stepped Tok)
separated_next f separator leading trailing least most k ts =
    cond (at_cap most k) (overs (full_at separator trailing k ts)) (one_or (and_then f (lead_at separator leading k ts)) (none_at separator leading trailing least k ts))

-- one more item may come after k
abbrev pub Under : Option ℕ → ℕ → Type 0
Under None k = ⊤
Under (Some m) k = k < m

-- k items are enough, or as many as there may be
abbrev pub Enough : ℕ → Option ℕ → ℕ → Type 0
Enough least None k = least ≤ k
Enough least (Some m) k = (least ≤ k) ⊎ (m ≤ k)

-- as many items are asked as there may be
abbrev pub IsExact : ℕ → Option ℕ → Type 0
IsExact least None = ⊥
IsExact least (Some m) = m ≤ least

-- a word of an item of `repeated`, which is the next after k others
abbrev pub RepeatedWord : {Tok : Type 0} → Option ℕ → (List Tok → Type 0) → ℕ → List Tok → Type 0
RepeatedWord most P k w = Under most k × P w

-- and of its end
abbrev pub RepeatedEnd : {Tok : Type 0} → ℕ → Option ℕ → ℕ → List Tok → Type 0
RepeatedEnd least most k w = Enough least most k × (w ≡ [])

-- no item may follow, unless there are as many as there may be anyway
abbrev pub RepeatedFollow : {Tok : Type 0} → Ender Tok → (List Tok → Type 0) → ℕ → Option ℕ → List Tok → Type 0
RepeatedFollow f fits least most rest = fits rest × (IsExact least most ⊎ DoesNotEnd (f rest))

-- a word after a separator, or where it is the first without one, unless a separator may lead
abbrev pub Led : {Tok : Type 0} → (List Tok → Type 0) → Bool → (List Tok → Type 0) → ℕ → List Tok → Type 0
Led separator leading P (suc k) w = Joined separator P w
Led separator true P zero w = Joined separator P w ⊎ P w
Led separator false P zero w = P w

-- a word of an item of `separated_by`
abbrev pub SeparatedWord : {Tok : Type 0} → (List Tok → Type 0) → Bool → Option ℕ → (List Tok → Type 0) → ℕ → List Tok → Type 0
SeparatedWord separator leading most P k w = Under most k × Led separator leading P k w

-- nothing, or a separator that may stand here
abbrev pub MayTrail : {Tok : Type 0} → (List Tok → Type 0) → Bool → Bool → Option ℕ → ℕ → List Tok → Type 0
MayTrail separator true trailing most zero w = (w ≡ []) ⊎ (Under most 0 × separator w)
MayTrail separator false trailing most zero w = w ≡ []
MayTrail separator leading true most (suc k) w = (w ≡ []) ⊎ separator w
MayTrail separator leading false most (suc k) w = w ≡ []

-- and of its end
abbrev pub SeparatedEnd : {Tok : Type 0} → (List Tok → Type 0) → Bool → Bool → ℕ → Option ℕ → ℕ → List Tok → Type 0
SeparatedEnd separator leading trailing least most k w = Enough least most k × MayTrail separator leading trailing most k w

-- neither an item nor a separator may follow
abbrev pub SeparatedFollow : {Tok : Type 0} → Ender Tok → Ender Tok → (List Tok → Type 0) → (List Tok → Type 0) → List Tok → Type 0
SeparatedFollow f separator fits sfits rest = fits rest × sfits rest × DoesNotEnd (separator rest) × DoesNotEnd (f rest)
