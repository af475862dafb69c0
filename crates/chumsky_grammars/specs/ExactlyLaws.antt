-- What a caller makes of the answer of founded rules: that it is exactly as a relation of texts and values of his own.
-- Main words: claims_of, ExactWords. Main laws: exactly-by_rules, exactly-by_rule_words, exactly-by_one_rule, exactly-by_one_rule_words, one-rule, chars-few.
-- Read first: Accepted.antt of chumsky, FoundedLaws.antt, EachWord.antt.
use Rattle.std.proofs.Common.{◌≡◌, ℕ, zero, suc, ◌+◌, ◌*◌, ◌<◌, ◌≤◌, Bool, true, false, Some, List, [], ◌∷◌, ◌++◌, length, map, refl, ◌∙◌, ap, arith, inl, inr}
use Rattle.std.proofs.lemmas.List.{append-nil}
use Rattle.std.proofs.lemmas.Str.{encodes-chars, length-le-encodes}
use Rattle.std.specs.Str.{chars, IsUtf8}
use Rattle.std.specs.Prelude.{Result, Ok, Err, is_some}
use Rattle.chumsky_input.specs.declared.stop.Stop.{Stop}
use Rattle.chumsky_parser.specs.Ending.{At}
use Rattle.chumsky_parser.specs.Language.{Language, IsBelow}
use Rattle.chumsky_parser.specs.declared.result.ParseResult.{ParseResult}
use Rattle.chumsky.specs.Accepted.{AnswersText, Exactly, ExactlyUnless}
use Rattle.chumsky.specs.AcceptedLaws.{unless-by_ends, unless-by_words}
use Rattle.chumsky_rules.specs.Tables.{Tables}
use Rattle.chumsky_grammars.specs.BuiltLeaves.{BuiltLeaf, leaf_language, built, Each}
use Rattle.chumsky_grammars.specs.Compiled.{IsOneRule, expressions_of}
use Rattle.chumsky_grammars.specs.EachWord.{Keeps, one_rule, each-call}
use Rattle.chumsky_grammars.specs.Expression.{Expression}
use Rattle.chumsky_grammars.specs.Founded.{Claims, may_stay, all_founded}
use Rattle.chumsky_grammars.specs.FoundedLaws.{rule-said, rule-below}
use Rattle.chumsky_grammars.specs.Leaves.{AreLeaves, leaves_of, all_move, leaves-are}
use Rattle.chumsky_grammars.specs.RuleLanguage.{Makes, rule_language}

-- a text has no more characters than bytes
pub chars-few : (text : List ℕ) → IsUtf8 text → length (chars text) ≤ length text
chars-few text u = let few = length-le-encodes (chars text) in let all = ap length (encodes-chars text u) in omega (arith, few, all)

-- a grammar of tables that have one rule, with that body, has that rule, and starts with it
pub one-rule : {leaves start first : ℕ} {e : Expression} {closed tables : Tables} → (closed ≡ tables) × (start ≡ first) → IsOneRule leaves e tables × (first ≡ 0)
    → (expressions_of closed ≡ e ∷ []) × (start ≡ 0)
one-rule same one = (ap expressions_of same.0 ∙ rw one.0.bodies (ap (λ x. x ∷ []) one.0.is_body.expression), same.1 ∙ one.1)

-- what is claimed of one rule, over leaves that take a token each: it may succeed where it begins if its body may, its own calls left aside
abbrev pub claims_by : Bool → Claims
claims_by stays = record { count = 1; leaf_stays = λ n. false; rule_stays = λ r. stays; rank = λ r. 0 }

abbrev pub claims_of : Expression → Claims
claims_of e = claims_by (may_stay (claims_by false) e)

for_memory : {Tok V Er : Type 0} (P : List Tok → V → Type 0) (ts : List Tok) (result : Result (ParseResult V Er) Stop) → ExactlyUnless P ts ⊥ result → Exactly P ts result
for_memory P ts (Ok parsed) i = i
for_memory P ts (Err s) (inl e) = e
for_memory P ts (Err s) (inr e) = absurd e

module _ {Tok V Er : Type 0} (P : List Tok → V → Type 0) {ts : List Tok} where
  -- where a word stands only for values that are so, and a text with such a value is taken whole; of a text that isn't refused
  pub exactly-decided : {l : Language Tok V} {spare : Type 0} {result : Result (ParseResult V Er) Stop} → AnswersText Some l ts spare result → IsBelow l.refused_from (length ts)
      → ((v : V) → l.stands_for ts v → P ts v) → ((v : V) → P ts v → l.ends ts ≡ At []) → Exactly P ts result
  exactly-decided {result = result} a below sound complete = for_memory P ts result (unless-by_ends P a (a.decided below) (λ v e w x s. sound v s) complete)

  -- of an unambiguous language it is enough that such a text is a word
  pub exactly-decided_words : {l : Language Tok V} {spare : Type 0} {result : Result (ParseResult V Er) Stop} → AnswersText Some l ts spare result → IsBelow l.refused_from (length ts)
      → l.unambiguous → l.follow [] → ((v : V) → l.stands_for ts v → P ts v) → ((v : V) → P ts v → l.word ts) → Exactly P ts result
  exactly-decided_words {result = result} a below once follows sound complete = for_memory P ts result (unless-by_words P a (a.decided below) once follows (λ v w s. sound v s) complete)

  module _ (c : Claims) (makes : Makes Tok V) (leaf : ℕ → Language Tok V) (leaves : AreLeaves c leaf) (rules : List Expression) (founded : all_founded c (is_some makes.picks) 0 rules ≡ true)
      (all : c.count ≡ length rules) (limit start : ℕ) where
    -- the same of founded rules, under enough calls: more than rules times tokens, and the rank of the start
    pub exactly-by_rules : {spare : Type 0} {result : Result (ParseResult V Er) Stop} → start < c.count → c.count * length ts + c.rank start < limit
        → ((v : V) → (rule_language makes leaf rules limit start).stands_for ts v → P ts v) → ((v : V) → P ts v → (rule_language makes leaf rules limit start).ends ts ≡ At [])
        → ((rule_language makes leaf rules limit start).said ≡ true → AnswersText Some (rule_language makes leaf rules limit start) ts spare result) → Exactly P ts result
    exactly-by_rules one enough sound complete reads =
        exactly-decided (reads (rule-said c makes leaf leaves.said leaves.moves leaves.decided rules founded all limit start one))
        (rule-below c makes leaf leaves.said leaves.moves leaves.decided rules founded all limit start (length ts) one enough) sound complete

    -- and where its language is unambiguous
    pub exactly-by_rule_words : {spare : Type 0} {result : Result (ParseResult V Er) Stop} → start < c.count → c.count * length ts + c.rank start < limit
        → ((v : V) → (rule_language makes leaf rules limit start).stands_for ts v → P ts v) → (rule_language makes leaf rules limit start).unambiguous → (rule_language makes leaf rules limit start).follow []
        → ((v : V) → P ts v → (rule_language makes leaf rules limit start).word ts)
        → ((rule_language makes leaf rules limit start).said ≡ true → AnswersText Some (rule_language makes leaf rules limit start) ts spare result) → Exactly P ts result
    exactly-by_rule_words one enough sound once follows complete reads =
        exactly-decided_words (reads (rule-said c makes leaf leaves.said leaves.moves leaves.decided rules founded all limit start one))
        (rule-below c makes leaf leaves.said leaves.moves leaves.decided rules founded all limit start (length ts) one enough) once follows sound complete

-- of one rule over leaves that are built so and take a token each, under more calls than tokens: where its body keeps some Q, a value of which Q of the
-- text is one with P, and a text with a value is taken whole
pub exactly-by_one_rule : {V Er : Type 0} (P : List ℕ → V → Type 0) {Q : List ℕ → V → Type 0} {ts : List ℕ} {n limit start first : ℕ} {closed tables : Tables} {spare : Type 0}
    {result : Result (ParseResult V Er) Stop} (makes : Makes ℕ V) {given leaves : List (BuiltLeaf V)} (e : Expression) → given ≡ leaves → all_move (map leaf_language leaves) ≡ true
    → all_founded (claims_of e) (is_some makes.picks) 0 (e ∷ []) ≡ true
    → (closed ≡ tables) × (start ≡ first) → IsOneRule n e tables × (first ≡ 0) → length ts < limit
    → Keeps makes leaves e Q → ((v : V) → Q ts v → P ts v) → ((v : V) → P ts v → (one_rule makes leaves e limit).ends (ts ++ []) ≡ At [])
    → ((rule_language makes (built given) (expressions_of closed) limit start).said ≡ true
    → AnswersText Some (rule_language makes (built given) (expressions_of closed) limit start) ts spare result) → Exactly P ts result
exactly-by_one_rule P {Q} {ts} {limit = limit} makes {leaves = leaves} e built_so move founded same one enough sound held complete reads =
    let rule = one-rule same one in
    exactly-by_rules P (claims_of e) makes (built leaves) (leaves-are (claims_of e) (map leaf_language leaves) move) (e ∷ []) founded refl limit 0 (omega arith) (omega (arith, enough))
    (λ v s. held v (each-call makes leaves e Q sound limit ts v s)) (λ v p. rw append-nil at (complete v p)) (rw (built_so, rule.0, rule.1) at reads)

-- over these leaves, which take a token each, the words of one rule and their values are just those with P, and they are unambiguous
pub record ExactWords {Tok V : Type 0} (makes : Makes Tok V) (e : Expression) (P : List Tok → V → Type 0) (leaves : List (Language Tok V)) : Type 0 where
  pub move : all_move leaves ≡ true
  pub sound : (n : ℕ) → Each (rule_language makes (leaves_of leaves) (e ∷ []) n 0) P
  pub once : (n : ℕ) → (rule_language makes (leaves_of leaves) (e ∷ []) (suc n) 0).unambiguous
  pub follows : (n : ℕ) → (rule_language makes (leaves_of leaves) (e ∷ []) (suc n) 0).follow []
  pub complete : (n : ℕ) (w : List Tok) (v : V) → P w v → (rule_language makes (leaves_of leaves) (e ∷ []) (suc n) 0).word w

-- the same by words
pub exactly-by_one_rule_words : {Tok V Er : Type 0} (P : List Tok → V → Type 0) {ts : List Tok} {n limit start first : ℕ} {closed tables : Tables} {spare : Type 0}
    {result : Result (ParseResult V Er) Stop} (makes : Makes Tok V) (leaves : List (Language Tok V)) (e : Expression) → ExactWords makes e P leaves
    → all_founded (claims_of e) (is_some makes.picks) 0 (e ∷ []) ≡ true
    → (closed ≡ tables) × (start ≡ first) → IsOneRule n e tables × (first ≡ 0) → length ts < limit
    → ((rule_language makes (leaves_of leaves) (expressions_of closed) limit start).said ≡ true
    → AnswersText Some (rule_language makes (leaves_of leaves) (expressions_of closed) limit start) ts spare result) → Exactly P ts result
exactly-by_one_rule_words {Tok} {V} {Er} P {ts} {limit = limit} {start = start} {closed = closed} {spare = spare} {result = result} makes leaves e words founded same one enough reads =
    let rule = one-rule same one in
    by_limit limit enough (rw (rule.0, rule.1) at reads)
  where
    by_limit : (n : ℕ) → length ts < n
        → ((rule_language makes (leaves_of leaves) (e ∷ []) n 0).said ≡ true → AnswersText Some (rule_language makes (leaves_of leaves) (e ∷ []) n 0) ts spare result) → Exactly P ts result
    by_limit zero l r = absurd (omega (arith, l))
    by_limit (suc k) l r =
        exactly-by_rule_words P (claims_of e) makes (leaves_of leaves) (leaves-are (claims_of e) leaves words.move) (e ∷ []) founded refl (suc k) 0 (omega arith) (omega (arith, l))
        (words.sound (suc k) ts) (words.once k) (words.follows k) (words.complete k ts) r
