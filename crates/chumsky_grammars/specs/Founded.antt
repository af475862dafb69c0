-- A test of rules: that something is said of each, and that no rule comes to itself, and no list goes round, without taking a token.
-- Main words: Claims, all_founded. Laws: FoundedLaws.antt. Read first: Expression.antt.
use Rattle.std.specs.Prelude.{ℕ, suc, Bool, true, false, not, ◌&&◌, ◌||◌, nat_lt, List, [], ◌∷◌}
use Rattle.chumsky_grammars.specs.Expression.{Expression, Leaf, Call, Then, Or, Fail, Map, TryMap, Optional, Repeated, Separated, Not, And, Ahead, Unsaid}

-- of so many rules: which leaves may succeed where they begin, which rules may, and the rank of each rule
pub record Claims : Type 0 where
  pub count : ℕ
  pub leaf_stays : ℕ → Bool
  pub rule_stays : ℕ → Bool
  pub rank : ℕ → ℕ

module _ (c : Claims) where
  -- it may succeed where it begins
  abbrev pub may_stay : Expression → Bool
  may_stay (Leaf n) = c.leaf_stays n
  may_stay (Call r) = c.rule_stays r
  may_stay (Then e f n) = may_stay e && may_stay f
  may_stay (Or e f) = may_stay e || may_stay f
  may_stay Fail = false
  may_stay (Map e f) = may_stay e
  may_stay (TryMap e f) = may_stay e
  may_stay (Optional e) = true
  may_stay (Repeated e least most) = true
  may_stay (Separated e f config) = true
  may_stay (Not e) = true
  may_stay (And e f) = may_stay e
  may_stay (Ahead e) = true
  may_stay Unsaid = true

  -- what it may call where it begins has a rank below this one
  abbrev pub calls_below : ℕ → Expression → Bool
  calls_below rank (Leaf n) = true
  calls_below rank (Call r) = nat_lt (c.rank r) rank
  calls_below rank (Then e f n) = calls_below rank e && (not (may_stay e) || calls_below rank f)
  calls_below rank (Or e f) = calls_below rank e && calls_below rank f
  calls_below rank Fail = true
  calls_below rank (Map e f) = calls_below rank e
  calls_below rank (TryMap e f) = calls_below rank e
  calls_below rank (Optional e) = calls_below rank e
  calls_below rank (Repeated e least most) = calls_below rank e
  calls_below rank (Separated e f config) = calls_below rank e && calls_below rank f
  calls_below rank (Not e) = calls_below rank e
  calls_below rank (And e f) = calls_below rank e && calls_below rank f
  calls_below rank (Ahead e) = calls_below rank e
  calls_below rank Unsaid = false

  -- where it is said, or not, what mappers that may refuse make
  module _ (picked : Bool) where
    -- each of its calls is of one of the rules, something is said of each part, and no item of a list may succeed where it begins
    abbrev pub goes_on : Expression → Bool
    goes_on (Leaf n) = true
    goes_on (Call r) = nat_lt r c.count
    goes_on (Then e f n) = goes_on e && goes_on f
    goes_on (Or e f) = goes_on e && goes_on f
    goes_on Fail = true
    goes_on (Map e f) = goes_on e
    goes_on (TryMap e f) = picked && goes_on e
    goes_on (Optional e) = goes_on e
    goes_on (Repeated e least most) = not (may_stay e) && goes_on e
    goes_on (Separated e f config) = not (may_stay e) && (goes_on e && goes_on f)
    goes_on (Not e) = goes_on e
    goes_on (And e f) = goes_on e && goes_on f
    goes_on (Ahead e) = goes_on e
    goes_on Unsaid = false

    -- the claims are right of the rule of this number, which has this body
    abbrev pub is_founded : ℕ → Expression → Bool
    is_founded r e = (nat_lt (c.rank r) c.count && (c.rule_stays r || not (may_stay e))) && (calls_below (c.rank r) e && goes_on e)

    -- and of all rules from this number on
    abbrev pub all_founded : ℕ → List Expression → Bool
    all_founded r [] = true
    all_founded r (e ∷ es) = is_founded r e && all_founded (suc r) es
