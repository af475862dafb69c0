-- A run of an expression ends where the climb does, with a value that the tree has which is read.
-- Main law: expression-reads. Read first: Expression.antt, TreeClimb.antt, TreeClimbLaws.antt, Operating.antt.
use Rattle.std.proofs.lemmas.Bool.Decides.{nat_tests}
use Rattle.std.proofs.Common.{◌≡◌, ℕ, zero, suc, ◌≤◌, ◌<◌, nat_le, nat_lt, ◌&&◌, Bool, true, false, Option, Some, None, List, length, drop, refl, sym, ◌∙◌, ap, subst, arith, length-drop, ◌⊎◌, inl, inr}
use Rattle.chumsky_input.specs.Extra.{Shown}
use Rattle.chumsky_input.specs.Outcome.{Meaning, Beginning, Verdict, Yes, No, Halt, Clash}
use Rattle.chumsky_parser.specs.Chained.{Chained, Given}
use Rattle.chumsky_parser.specs.Choice.{AttemptFrom}
use Rattle.chumsky_parser.specs.ChoiceEndings.{or_else-here}
use Rattle.chumsky_parser.specs.Ending.{Ending, At, Nowhere, Refused, Ender, and_then, or_else, Ends, Within, IfValue, Answers, Here, Reads}
use Rattle.chumsky_parser.specs.EndingLaws.{chained-on, given-here, weaker-here, answers_weaker, refuses-by}
use Rattle.chumsky_parser.specs.Language.{Language, Begins, GivesOnly, EndsFurther}
use Rattle.chumsky_parser.specs.Showing.{GivesShown, GivenShown, shown_since}
use Rattle.chumsky_parser.specs.Words.{Joined, ElseValue}
use Rattle.chumsky_pratt.specs.declared.fixity.Fixity.{Fixity}
use Rattle.chumsky_pratt.specs.declared.fixity.Fixity.TheVariants.{Prefix, Postfix, Infix}
use Rattle.chumsky_pratt.specs.declared.operands.Operands.{Operands}
use Rattle.chumsky_pratt.specs.declared.operands.Operands.TheVariants.{After, Before, Around}
use Rattle.chumsky_pratt.specs.Expression.{
  Syntax,
  Turn,
  Rests,
  Goes,
  any_power,
  all_there,
  left_at,
  Onward,
  Waiting,
  From,
  AfterPrefix,
  AfterPostfix,
  AfterInfix,
  TryPrefix,
  TryPostfix,
  TryInfix,
  Head,
  Round,
  Rounds,
  AfterTurn,
  AllRounds,
  Level,
  Below,
  Expression,
}
use Rattle.chumsky_pratt.specs.Operators.{bound_by}
use Rattle.chumsky_pratt.specs.OperatorTrees.{OperatorTree, Atom, Prefixed, Postfixed, Infixed, is_tried, bound_of, TreeValue}
use Rattle.chumsky_pratt.specs.TreeClimb.{first_attempt, where_tried, climb_before, climb_after, climb_between, climb_step, go_on, climbed, climb_operand, left_after}
use Rattle.chumsky_pratt.specs.TreeClimbLaws.{and_then-at, step-at, climbed-on, climbed_step-shorter, operand-shorter}
use Rattle.chumsky_pratt.specs.ClimbedTrees.{begins-joined}
use Rattle.chumsky_pratt.specs.Operating.{GivesWithin, Operates}

-- the tokens that are left
abbrev rest_of : {Tok Cx St : Type 0} → Beginning Tok Cx St → List Tok
rest_of b = drop b.start b.tokens.list

begins-weaker : {Tok : Type 0} (P Q : List Tok → Type 0) {ts rest : List Tok} → ((w : List Tok) → P w → Q w) → Begins P ts rest → Begins Q ts rest
begins-weaker P Q f b = record { word = b.word; all = b.all; is = f b.word b.is }

-- one more token was taken
further_on : {Tok Cx St : Type 0} (b c : Beginning Tok Cx St) → c.tokens ≡ b.tokens → Within b → Within c → length (rest_of c) < length (rest_of b) → b.start < c.start
further_on b c t w v l =
    let z : length c.tokens.list ≡ length b.tokens.list = ap (λ x. length x.list) t in
    let p = length-drop b.start b.tokens.list in
    let q = length-drop c.start c.tokens.list in
    let s = w.start in
    let u = v.start in
    omega (arith, z, p, q, l, s, u)

no_further : {Tok X : Type 0} (x : Ending X) (y : Ending (List Tok)) → (x ≡ Nowhere → y ≡ Nowhere) → (x ≡ Refused → y ≡ Refused) → and_then (λ (z : X). y) x ≡ y
no_further (At z) y f g = refl
no_further Nowhere y f g = sym (f refl)
no_further Refused y f g = sym (g refl)

-- the values are of those that are read where it ends
answers-at : {Tok Er V : Type 0} (P Q : V → Type 0) (x : Ending (List Tok)) (ts : List Tok) → ((rest : List Tok) → x ≡ At rest → (v : V) → P v → Q v) → (u : Verdict V Er) (end : ℕ)
    → Answers P x ts u end → Answers Q x ts u end
answers-at P Q x ts f (Yes (Some v)) end a = (a.0, f (drop end ts) a.0 v a.1, a.2)
answers-at P Q x ts f (Yes None) end a = (a.0, tt, a.2)
answers-at P Q x ts f No end a = a
answers-at P Q x ts f (Halt s) end a = a
answers-at P Q x ts f (Clash c) end a = a

made-ends : {Tok : Type 0} (make : OperatorTree → OperatorTree) (u : Ending (OperatorTree × List Tok)) → left_after (and_then (λ p. At (make p.0, p.1)) u) ≡ left_after u
made-ends make (At p) = refl
made-ends make Nowhere = refl
made-ends make Refused = refl

module _ {Tok Cx St Er : Type 0} where
  -- a part, and then what follows its value, of which the end is known
  chained-to : {V W : Type 0} (P : V → Type 0) (Q : W → Type 0) (part : Meaning Tok Cx St Er V) (next : Option V → Meaning Tok Cx St Er W) (x y : Ending (List Tok)) (b : Beginning Tok Cx St)
      → Within b
      → Here P part x b → (x ≡ Nowhere → y ≡ Nowhere) → (x ≡ Refused → y ≡ Refused)
      → ((v : Option V) (c : Beginning Tok Cx St) → Within c → c.tokens ≡ b.tokens → x ≡ At (rest_of c) → IfValue P v → Here Q (next v) y c)
      → Here Q (Chained part next) y b
  chained-to P Q part next x y b w h f g k o m =
      subst (λ z. Answers Q z b.tokens.list o.verdict o.end) (no_further x y f g)
      (chained-on P Q part next x (λ r. y) b w h (λ v c u t e i. k v c u t e i) o m)

  onward-here : {V : Type 0} (P : V → Type 0) (place : ℕ) (next : Meaning Tok Cx St Er V) (x : Ending (List Tok)) (b : Beginning Tok Cx St) → place < b.start → Here P next x b
      → Here P (Onward place next) x b
  onward-here P place next x b l h o m = elim m [ inl k ↦ h o k.1 | inr k ↦ absurd (let j = k.0 in omega (arith, l, j)) ]

  waiting-here : {V : Type 0} (P : V → Type 0) (next : Meaning Tok Cx St Er V) (x : Ending (List Tok)) (b : Beginning Tok Cx St) → Here P next x b → Here P (Waiting next) x b
  waiting-here P next x b h o m = elim m [ inl r ↦ refuses-by P x b.tokens.list o r | inr k ↦ h o k ]

  -- what is given for a value and what is shown, where there is a value
  shown-here : {X V : Type 0} (gives : GivesShown Tok Cx St X V) (P : V → Type 0) (from : ℕ) (b : Beginning Tok Cx St) → Within b → (v : Option X)
      → IfValue (λ (p : X). (run : Shown Tok Cx St) (z : V) (s : St) → gives p run z s → P z) v
      → Here P {Er = Er} (GivenShown gives from v) (At (rest_of b)) b
  shown-here gives P from b w (Some p) i o m =
      let g = m.by_value in
      rw g.3 (refl, i (shown_since from b) g.0 g.1 g.2, w.start)
  shown-here gives P from b w None i o m = given-here Er P b w None tt o m.by_value

module _ {Tok : Type 0} where
  -- where one end is that of a tree, else this
  abbrev ends_or : Ending (List Tok) → Ending (OperatorTree × List Tok) → Ending (List Tok)
  ends_or tail x = or_else (left_after x) tail

  else-end : (x y : Ending (OperatorTree × List Tok)) (tail : Ending (List Tok)) → or_else (left_after x) (ends_or tail y) ≡ ends_or tail (or_else x y)
  else-end (At p) y tail = refl
  else-end Nowhere y tail = refl
  else-end Refused y tail = refl

  ends_or_nowhere : (x : Ending (OperatorTree × List Tok)) → ends_or Nowhere x ≡ left_after x
  ends_or_nowhere (At p) = refl
  ends_or_nowhere Nowhere = refl
  ends_or_nowhere Refused = refl

  else-value : {W : Type 0} (P : Ending (OperatorTree × List Tok) → W → Type 0) (x y : Ending (OperatorTree × List Tok)) (v : W) → ElseValue (left_after x) (P x v) (P y v) → P (or_else x y) v
  else-value P (At p) y v i = i
  else-value P Nowhere y v i = i
  else-value P Refused y v i = absurd i

atom-ends : {Tok : Type 0} (x : Ending (List Tok)) → x ≡ ends_or Nowhere (and_then (λ (rest : List Tok). At (Atom, rest)) x)
atom-ends (At r) = refl
atom-ends Nowhere = refl
atom-ends Refused = refl

-- when an infix operator is tried, and when not
tried-true : (least left below other : ℕ) → below ≡ other → least ≤ left → left < below → (nat_le least left && nat_lt left other) ≡ true
tried-true least left below other e l k =
    let a : nat_le least left ≡ true = grind (arith, nat_tests, l) in
    let b : nat_lt left other ≡ true = grind (arith, nat_tests, k, e) in
    rw (a, b) refl

tried-false : (least left below other : ℕ) → below ≡ other → (left < least) ⊎ (below ≤ left) → (nat_le least left && nat_lt left other) ≡ false
tried-false least left below other e (inl l) =
    let a : nat_le least left ≡ false = grind (arith, nat_tests, l) in
    rw a refl
tried-false least left below other e (inr l) =
    let b : nat_lt left other ≡ false = grind (arith, nat_tests, l, e) in
    rw b (and_false (nat_le least left))
  where
    and_false : (c : Bool) → (c && false) ≡ false
    and_false true = refl
    and_false false = refl

module _ {Tok Cx St Mk Er F V : Type 0} (s : Syntax Tok Cx St Mk Er F V) where
  -- the same, from another state
  abbrev under : Beginning Tok Cx St → St → Beginning Tok Cx St
  under b z = record b { state = z }

  module _ {W : Type 0} (P : Ending (OperatorTree × List Tok) → W → Type 0) (tail : Ending (List Tok)) (b : Beginning Tok Cx St) where
    -- an end and its values, from any state
    abbrev IsHere : Meaning Tok Cx St Er W → Ending (OperatorTree × List Tok) → Type 0
    IsHere m x = (z : St) → Here (P x) m (ends_or tail x) (under b z)

    attempt-here : (m : Mk) (first second : Meaning Tok Cx St Er W) (x y : Ending (OperatorTree × List Tok)) → ((z : St) → Here (P x) first (left_after x) (under b z)) → IsHere second y
        → IsHere (AttemptFrom s.back s.safe m first second) (or_else x y)
    attempt-here m first second x y h k z o a =
        let e = or_else-here (λ (_ : St). m) s.back s.safe first second (P x) (P y) (left_after x) (ends_or tail y) (under b z) (h z) (λ u. k u) o (record { cases = inr a }) in
        subst (λ r. Answers (P (or_else x y)) r b.tokens.list o.verdict o.end) (else-end x y tail)
        (answers_weaker (λ v. ElseValue (left_after x) (P x v) (P y v)) (P (or_else x y)) (else-value P x y) (or_else (left_after x) (ends_or tail y)) b.tokens.list o.verdict o.end e)

    -- operators in order, each tried in its way
    from-here : (try : ℕ → Fixity → Meaning Tok Cx St Er W → Meaning Tok Cx St Er W) (attempt : ℕ → Ending (OperatorTree × List Tok))
        → ((i : ℕ) (next : Meaning Tok Cx St Er W) (y : Ending (OperatorTree × List Tok)) → IsHere next y → IsHere (try i (s.stands i) next) (or_else (attempt i) y))
        → (count i : ℕ) (next : Meaning Tok Cx St Er W) (y : Ending (OperatorTree × List Tok)) → IsHere next y → IsHere (From s try count i next) (first_attempt attempt count i y)
    from-here try attempt h zero i next y k = k
    from-here try attempt h (suc count) i next y k = h i (From s try count (suc i) next) (first_attempt attempt count (suc i) y) (from-here try attempt h count (suc i) next y k)

  -- the languages of the atom and of the operators, which say what these do
  module _ (A : Language Tok V) (operators : ℕ → Language Tok (Operands V × V)) (reads : Reads s.atom A.ends A.value) (given : GivesOnly A.ends A.value A.stands_for)
      (operates : (i : ℕ) → Operates (s.reads i) s.gives (operators i)) (atom_further : EndsFurther A.ends) (ends_further : (i : ℕ) → EndsFurther (operators i).ends) where
    abbrev ends : ℕ → Ender Tok
    ends i = (operators i).ends

    -- climbs by these
    abbrev Climbed : ℕ → Option OperatorTree → List Tok → Ending (OperatorTree × List Tok)
    Climbed = climbed s.number s.stands A.ends ends

    abbrev OperandBy : ℕ → List Tok → Ending (OperatorTree × List Tok)
    OperandBy = climb_operand s.number s.stands A.ends ends

    abbrev StepBy : ℕ → Option OperatorTree → List Tok → Ending (OperatorTree × List Tok)
    StepBy = climb_step s.number s.stands A.ends ends OperandBy

    -- the tree that was read from here has this value
    abbrev Valued : List Tok → OperatorTree × List Tok → V → Type 0
    Valued from p v = Begins (λ w. TreeValue A operators p.0 w v) from p.1

    abbrev ValuedBy : List Tok → Ending (OperatorTree × List Tok) → V → Type 0
    ValuedBy from x v = Ends x (λ p. Valued from p v)

    -- what a round says: nothing was read, or a tree with this value, and this bound
    abbrev TurnOf : List Tok → Ending (OperatorTree × List Tok) → Turn V → Type 0
    TurnOf from x Rests = x ≡ Nowhere
    TurnOf from x (Goes below y) = Ends x (λ p. (below ≡ bound_of s.number s.stands p.0) × IfValue (Valued from p) y)

    -- what may be given for an operator and its operands is of this
    abbrev GivenAre : (V → Type 0) → Option (F × Operands V) → Type 0
    GivenAre P v = IfValue (λ (p : F × Operands V). (run : Shown Tok Cx St) (z : V) (t : St) → s.gives p run z t → P z) v

    prefix-value : (i : ℕ) (ts mid rest : List Tok) (t : OperatorTree) → ends i ts ≡ At mid → (f : Option F) (x : Option V) → IfValue (GivesWithin s.gives ((operators i).value ts)) f
        → IfValue (Valued mid (t, rest)) x
        → GivenAre (Valued ts (Prefixed i t, rest)) (all_there f (After x))
    prefix-value i ts mid rest t e (Some f) (Some x) h k = λ run z u g.
        let a = (operates i).given.given ts mid (After x, z) e (h (After x) run z u g) in
        begins-weaker (Joined (λ w. (operators i).stands_for w (After x, z)) (λ w. TreeValue A operators t w x)) (λ w. TreeValue A operators (Prefixed i t) w z) (λ w j. (x, j))
        (begins-joined (λ w. (operators i).stands_for w (After x, z)) (λ w. TreeValue A operators t w x) ts mid rest a k)
    prefix-value i ts mid rest t e (Some f) None h k = tt
    prefix-value i ts mid rest t e None x h k = tt

    postfix-value : (i : ℕ) (from ts rest : List Tok) (t : OperatorTree) → ends i ts ≡ At rest → (f : Option F) (x : Option V) → IfValue (GivesWithin s.gives ((operators i).value ts)) f
        → IfValue (Valued from (t, ts)) x
        → GivenAre (Valued from (Postfixed t i, rest)) (all_there f (Before x))
    postfix-value i from ts rest t e (Some f) (Some x) h k = λ run z u g.
        let a = (operates i).given.given ts rest (Before x, z) e (h (Before x) run z u g) in
        begins-weaker (Joined (λ w. TreeValue A operators t w x) (λ w. (operators i).stands_for w (Before x, z))) (λ w. TreeValue A operators (Postfixed t i) w z) (λ w j. (x, j))
        (begins-joined (λ w. TreeValue A operators t w x) (λ w. (operators i).stands_for w (Before x, z)) from ts rest k a)
    postfix-value i from ts rest t e (Some f) None h k = tt
    postfix-value i from ts rest t e None x h k = tt

    infix-value : (i : ℕ) (from ts mid rest : List Tok) (t r : OperatorTree) → ends i ts ≡ At mid → (f : Option F) (x y : Option V) → IfValue (GivesWithin s.gives ((operators i).value ts)) f
        → IfValue (Valued from (t, ts)) x
        → IfValue (Valued mid (r, rest)) y → GivenAre (Valued from (Infixed t i r, rest)) (all_there f (Around x y))
    infix-value i from ts mid rest t r e (Some f) (Some x) (Some y) h k l = λ run z u g.
        let a = (operates i).given.given ts mid (Around x y, z) e (h (Around x y) run z u g) in
        begins-weaker (Joined (λ w. TreeValue A operators t w x) (Joined (λ w. (operators i).stands_for w (Around x y, z)) (λ w. TreeValue A operators r w y)))
        (λ w. TreeValue A operators (Infixed t i r) w z) (λ w j. (x, y, j))
        (begins-joined (λ w. TreeValue A operators t w x) (Joined (λ w. (operators i).stands_for w (Around x y, z)) (λ w. TreeValue A operators r w y)) from ts rest k
        (begins-joined (λ w. (operators i).stands_for w (Around x y, z)) (λ w. TreeValue A operators r w y) ts mid rest a l))
    infix-value i from ts mid rest t r e (Some f) (Some x) None h k l = tt
    infix-value i from ts mid rest t r e (Some f) None y h k l = tt
    infix-value i from ts mid rest t r e None x y h k l = tt

    -- a value of a tree that is read is one of what is read
    at_tree : (from : List Tok) (x : Ending (OperatorTree × List Tok)) (p : OperatorTree × List Tok) → x ≡ At p → (v : V) → Valued from p v → ValuedBy from x v
    at_tree from x p e v k = rw e k

    -- operands end where climbs do, wherever fewer than so many tokens are left
    module _ (operand_means : ℕ → Meaning Tok Cx St Er V) (many : ℕ)
        (operand_here : (power : ℕ) (c : Beginning Tok Cx St) → Within c → length (rest_of c) < many
        → Here (ValuedBy (rest_of c) (OperandBy power (rest_of c))) (operand_means power) (left_after (OperandBy power (rest_of c))) c) where
      -- an operand of this power, and then what is made of its tree and its value
      operand-then : (power : ℕ) (make : OperatorTree → OperatorTree) (x : Ending (OperatorTree × List Tok)) {W : Type 0} (Q : W → Type 0) (finish : Option V → Meaning Tok Cx St Er W)
          (c : Beginning Tok Cx St)
          → Within c → length (rest_of c) < many → x ≡ and_then (λ p. At (make p.0, p.1)) (OperandBy power (rest_of c))
          → ((v : Option V) (d : Beginning Tok Cx St) (r : OperatorTree) → Within d → d.tokens ≡ c.tokens → OperandBy power (rest_of c) ≡ At (r, rest_of d)
          → IfValue (Valued (rest_of c) (r, rest_of d)) v
          → Here Q (finish v) (At (rest_of d)) d)
          → Here Q (Chained (operand_means power) finish) (left_after x) c
      operand-then power make x Q finish c w l e k =
          let u = OperandBy power (rest_of c) in
          let z : left_after x ≡ left_after u = ap left_after e ∙ made-ends make u in
          chained-to (ValuedBy (rest_of c) u) Q (operand_means power) finish (left_after u) (left_after x) c w (operand_here power c w l)
          (λ n. z ∙ n) (λ n. z ∙ n)
          (λ v d w' t n i.
          let q = and_then-at u (λ (p : OperatorTree × List Tok). At p.1) (rest_of d) n in
          let a : q.mid.1 ≡ rest_of d = cc q.second in
          let b : u ≡ At (q.mid.0, rest_of d) = subst (λ (r : List Tok). u ≡ At (q.mid.0, r)) a q.first in
          let h = k v d q.mid.0 w' t b (subst (λ y. IfValue (ValuedBy (rest_of c) y) v) b i) in
          subst (λ y. Here Q (finish v) y d) (sym (z ∙ n)) h)

      -- a prefix operator and its operand
      prefix-here : (start i power : ℕ) (b : Beginning Tok Cx St) → Within b → start ≤ b.start → length (rest_of b) ≤ many
          → Here (ValuedBy (rest_of b) (climb_before s.number s.stands A.ends ends OperandBy i (rest_of b) (Prefix power))) (AfterPrefix s operand_means start i power)
          (left_after (climb_before s.number s.stands A.ends ends OperandBy i (rest_of b) (Prefix power))) b
      prefix-here start i power b w l few =
          let ts = rest_of b in
          let z = climb_before s.number s.stands A.ends ends OperandBy i ts (Prefix power) in
          chained-to (GivesWithin s.gives ((operators i).value ts)) (ValuedBy ts z) (s.reads i) _ (ends i ts) (left_after z) b w ((operates i).reads.here b w) (λ n. rw n refl) (λ n. rw n refl)
          (λ f c w' t e g.
          let shorter : length (rest_of c) < length ts = ends_further i ts (rest_of c) e in
          let past : b.start < c.start = further_on b c t w w' shorter in
          let finish : Option V → Meaning Tok Cx St Er V = λ v. GivenShown s.gives start (all_there f (After v)) in
          let then : Meaning Tok Cx St Er V = Chained (operand_means power) finish in
          onward-here (ValuedBy ts z) start (Waiting then) (left_after z) c (omega (arith, l, past))
          (waiting-here (ValuedBy ts z) then (left_after z) c
          (operand-then power (Prefixed i) z (ValuedBy ts z) finish c w' (omega (arith, shorter, few)) (rw e refl)
          (λ v d r w'' t' o k.
          weaker-here (Valued ts (Prefixed i r, rest_of d)) (ValuedBy ts z) (at_tree ts z (Prefixed i r, rest_of d) (rw (e, o) refl)) (finish v) (At (rest_of d)) d
          (shown-here s.gives (Valued ts (Prefixed i r, rest_of d)) start d w'' (all_there f (After v)) (prefix-value i ts (rest_of c) (rest_of d) r e f v g k))))))

      -- what an operator after a tree gives, and the turn
      turn-here : (from : List Tok) (z : Ending (OperatorTree × List Tok)) (t : OperatorTree) (below start : ℕ) (v : Option (F × Operands V)) (c : Beginning Tok Cx St) → Within c
          → z ≡ At (t, rest_of c)
          → below ≡ bound_of s.number s.stands t → GivenAre (Valued from (t, rest_of c)) v
          → Here (TurnOf from z) {Er = Er} (Chained (GivenShown s.gives start v) (λ y. Given (Some (Goes below y)))) (left_after z) c
      turn-here from z t below start v c w e b g =
          chained-to {Er = Er} (Valued from (t, rest_of c)) (TurnOf from z) (GivenShown s.gives start v) (λ y. Given (Some (Goes below y))) (At (rest_of c)) (left_after z) c w
          (shown-here s.gives (Valued from (t, rest_of c)) start c w v g)
          (λ n. absurd (cc n)) (λ n. absurd (cc n))
          (λ y d w' q n i.
          let a : rest_of c ≡ rest_of d = cc n in
          let u : left_after z ≡ At (rest_of d) = ap left_after e ∙ n in
          let k : TurnOf from z (Goes below y) = rw e (b, i) in
          subst (λ x. Here (TurnOf from z) {Er = Er} (Given (Some (Goes below y))) x d) (sym u) (given-here Er (TurnOf from z) d w' (Some (Goes below y)) k))

      module _ (start least : ℕ) (from : List Tok) (t : OperatorTree) (x : Option V) (b : Beginning Tok Cx St) (w : Within b) (l : start ≤ b.start) (few : length (rest_of b) ≤ many)
          (k : IfValue (Valued from (t, rest_of b)) x) where
        -- a postfix operator after a value
        postfix-here : (i below : ℕ) → below ≡ bound_of s.number s.stands t
            → Here (TurnOf from (and_then (λ rest. At (Postfixed t i, rest)) (ends i (rest_of b)))) (AfterPostfix s operand_means start b.start x below i)
            (left_after (and_then (λ rest. At (Postfixed t i, rest)) (ends i (rest_of b)))) b
        postfix-here i below q =
            let ts = rest_of b in
            let z : Ending (OperatorTree × List Tok) = and_then (λ rest. At (Postfixed t i, rest)) (ends i ts) in
            chained-to (GivesWithin s.gives ((operators i).value ts)) (TurnOf from z) (s.reads i) _ (ends i ts) (left_after z) b w ((operates i).reads.here b w) (λ n. rw n refl) (λ n. rw n refl)
            (λ f c w' u e g.
            let shorter : length (rest_of c) < length ts = ends_further i ts (rest_of c) e in
            onward-here (TurnOf from z) b.start (Chained (GivenShown s.gives start (all_there f (Before x))) (λ y. Given (Some (Goes below y)))) (left_after z) c (further_on b c u w w' shorter)
            (turn-here from z (Postfixed t i) below start (all_there f (Before x)) c w' (rw e refl) q (postfix-value i from ts (rest_of c) t e f x g k)))

        -- an infix operator after a value, and its right operand
        infix-here : (i below power : ℕ) → below ≡ bound_of s.number s.stands (Infixed t i Atom)
            → Here (TurnOf from (and_then (λ rest. and_then (λ p. At (Infixed t i p.0, p.1)) (OperandBy power rest)) (ends i (rest_of b)))) (AfterInfix s operand_means start b.start x below i power)
            (left_after (and_then (λ rest. and_then (λ p. At (Infixed t i p.0, p.1)) (OperandBy power rest)) (ends i (rest_of b)))) b
        infix-here i below power q =
            let ts = rest_of b in
            let z : Ending (OperatorTree × List Tok) = and_then (λ rest. and_then (λ p. At (Infixed t i p.0, p.1)) (OperandBy power rest)) (ends i ts) in
            chained-to (GivesWithin s.gives ((operators i).value ts)) (TurnOf from z) (s.reads i) _ (ends i ts) (left_after z) b w ((operates i).reads.here b w) (λ n. rw n refl) (λ n. rw n refl)
            (λ f c w' u e g.
            let shorter : length (rest_of c) < length ts = ends_further i ts (rest_of c) e in
            let past : b.start < c.start = further_on b c u w w' shorter in
            let turned : Option V → Meaning Tok Cx St Er (Turn V) = λ v. Chained (GivenShown s.gives start (all_there f (Around x v))) (λ y. Given (Some (Goes below y))) in
            let then : Meaning Tok Cx St Er (Turn V) = Chained (operand_means power) (λ v. Onward b.start (turned v)) in
            onward-here (TurnOf from z) start (Waiting then) (left_after z) c (omega (arith, l, past))
            (waiting-here (TurnOf from z) then (left_after z) c
            (operand-then power (λ r. Infixed t i r) z (TurnOf from z) (λ v. Onward b.start (turned v)) c w' (omega (arith, shorter, few)) (rw e refl)
            (λ v d r w'' u' o j.
            let still : length (rest_of d) < length (rest_of c) = operand-shorter s.number s.stands A.ends ends atom_further ends_further power (rest_of c) (r, rest_of d) o in
            let on : c.start < d.start = further_on c d u' w' w'' still in
            let made : z ≡ At (Infixed t i r, rest_of d) = rw (e, o) refl in
            onward-here (TurnOf from z) b.start (turned v) (At (rest_of d)) d (omega (arith, past, on))
            (subst (λ y. Here (TurnOf from z) (turned v) y d) (ap left_after made)
            (turn-here from z (Infixed t i r) below start (all_there f (Around x v)) d w'' made q (infix-value i from ts (rest_of c) (rest_of d) t r e f x v g k j)))))))

      -- an operator that is tried, where it is
      tried-here : {W : Type 0} (P : Ending (OperatorTree × List Tok) → W → Type 0) (tail : Ending (List Tok)) (b : Beginning Tok Cx St) (c : Bool) (Y N : Type 0) → (Y → c ≡ true) → (N → c ≡ false)
          → (m : Mk) (first next : Meaning Tok Cx St Er W) (x y : Ending (OperatorTree × List Tok)) → ((z : St) → Here (P x) first (left_after x) (under b z)) → IsHere P tail b next y
          → IsHere P tail b (λ d o. (Y × AttemptFrom s.back s.safe m first next d o) ⊎ (N × next d o)) (or_else (where_tried c x) y)
      tried-here P tail b true Y N f g m first next x y h k z o a = elim a [
        | inl i ↦ attempt-here P tail b m first next x y h k z o i.1
        | inr i ↦ absurd (cc (g i.0))
      ]
      tried-here P tail b false Y N f g m first next x y h k z o a = elim a [
        | inl i ↦ absurd (cc (f i.0))
        | inr i ↦ k z o i.1
      ]

      within_under : (b : Beginning Tok Cx St) → Within b → (z : St) → Within (under b z)
      within_under b w z = record { start = w.start; few = w.few }

      prefix-tried : (b : Beginning Tok Cx St) → Within b → length (rest_of b) ≤ many → (m : Mk) (i : ℕ) (f : Fixity) (next : Meaning Tok Cx St Er V) (y : Ending (OperatorTree × List Tok))
          → IsHere (ValuedBy (rest_of b)) Nowhere b next y
          → IsHere (ValuedBy (rest_of b)) Nowhere b (TryPrefix s operand_means b.start m i f next) (or_else (climb_before s.number s.stands A.ends ends OperandBy i (rest_of b) f) y)
      prefix-tried b w few m i (Prefix power) next y k =
          attempt-here (ValuedBy (rest_of b)) Nowhere b m (AfterPrefix s operand_means b.start i power) next (climb_before s.number s.stands A.ends ends OperandBy i (rest_of b) (Prefix power)) y
          (λ z. prefix-here b.start i power (under b z) (within_under b w z) (omega arith) few) k
      prefix-tried b w few m i (Postfix power) next y k = k
      prefix-tried b w few m i (Infix left right chains) next y k = k

      -- an atom
      atom-here : (b : Beginning Tok Cx St) → Within b
          → Here (ValuedBy (rest_of b) (and_then (λ rest. At (Atom, rest)) (A.ends (rest_of b)))) s.atom (ends_or Nowhere (and_then (λ rest. At (Atom, rest)) (A.ends (rest_of b)))) b
      atom-here b w o m =
          let ts = rest_of b in
          let x : Ending (OperatorTree × List Tok) = and_then (λ rest. At (Atom, rest)) (A.ends ts) in
          let a = answers-at (A.value ts) (ValuedBy ts x) (A.ends ts) b.tokens.list (λ rest e v i. at_tree ts x (Atom, rest) (rw e refl) v (given.given ts rest v e i)) o.verdict o.end
          (reads.here b w o m) in
          subst (λ y. Answers (ValuedBy ts x) y b.tokens.list o.verdict o.end) (atom-ends (A.ends ts)) a

      -- what a value is read from
      head-here : (b : Beginning Tok Cx St) → Within b → length (rest_of b) ≤ many → (least : ℕ)
          → Here (ValuedBy (rest_of b) (StepBy least None (rest_of b))) (Head s operand_means b.start) (left_after (StepBy least None (rest_of b))) b
      head-here b w few least o m =
          let ts = rest_of b in
          let z = StepBy least None ts in
          elim m.run [
            | inl r ↦ refuses-by (ValuedBy ts z) (left_after z) b.tokens.list o r
            | inr k ↦
                subst (λ y. Answers (ValuedBy ts z) y b.tokens.list o.verdict o.end) (ends_or_nowhere z)
                (from-here (ValuedBy ts) Nowhere b (TryPrefix s operand_means b.start (s.mark b.state)) (λ i. climb_before s.number s.stands A.ends ends OperandBy i ts (s.stands i))
                (λ i next y h. prefix-tried b w few (s.mark b.state) i (s.stands i) next y h) s.number 0 s.atom (and_then (λ rest. At (Atom, rest)) (A.ends ts))
                (λ z. atom-here (under b z) (within_under b w z)) b.state o k)
          ]

      module _ (start least below : ℕ) (from : List Tok) (t : OperatorTree) (x : Option V) (b : Beginning Tok Cx St) (w : Within b) (l : start ≤ b.start) (few : length (rest_of b) ≤ many)
          (k : IfValue (Valued from (t, rest_of b)) x)
          (bounds : below ≡ bound_of s.number s.stands t) where
        postfix-tried : (m : Mk) (i : ℕ) (f : Fixity) (next : Meaning Tok Cx St Er (Turn V)) (y : Ending (OperatorTree × List Tok)) → IsHere (TurnOf from) (At (rest_of b)) b next y
            → IsHere (TurnOf from) (At (rest_of b)) b (TryPostfix s operand_means start least b.start x below m i f next)
            (or_else (climb_after s.number s.stands A.ends ends OperandBy least t i (rest_of b) f) y)
        postfix-tried m i (Prefix power) next y h = h
        postfix-tried m i (Postfix power) next y h =
            tried-here (TurnOf from) (At (rest_of b)) b (nat_le least power) (least ≤ power) (power < least) (λ j. grind (arith, nat_tests, j)) (λ j. grind (arith, nat_tests, j)) m
            (AfterPostfix s operand_means start b.start x below i) next (and_then (λ rest. At (Postfixed t i, rest)) (ends i (rest_of b))) y
            (λ z. postfix-here start least from t x (under b z) (within_under b w z) l few k i below bounds) h
        postfix-tried m i (Infix left right chains) next y h = h

        infix-tried : (m : Mk) (i : ℕ) (f : Fixity) → s.stands i ≡ f → (next : Meaning Tok Cx St Er (Turn V)) (y : Ending (OperatorTree × List Tok)) → IsHere (TurnOf from) (At (rest_of b)) b next y
            → IsHere (TurnOf from) (At (rest_of b)) b (TryInfix s operand_means start least b.start x below m i f next)
            (or_else (climb_between s.number s.stands A.ends ends OperandBy least t i (rest_of b) f) y)
        infix-tried m i (Prefix power) e next y h = h
        infix-tried m i (Postfix power) e next y h = h
        infix-tried m i (Infix left right chains) e next y h =
            let z : Ending (OperatorTree × List Tok) = and_then (λ rest. and_then (λ p. At (Infixed t i p.0, p.1)) (OperandBy right rest)) (ends i (rest_of b)) in
            let first : Meaning Tok Cx St Er (Turn V) = AfterInfix s operand_means start b.start x (bound_by chains below left) i right in
            let tested : Bool = is_tried least (bound_of s.number s.stands t) (Infix left right chains) in
            λ u o a. tried-here (TurnOf from) (At (rest_of b)) b tested ((least ≤ left) × (left < below)) ((left < least) ⊎ (below ≤ left))
            (λ j. tried-true least left below (bound_of s.number s.stands t) bounds j.0 j.1) (λ j. tried-false least left below (bound_of s.number s.stands t) bounds j) m first next z y
            (λ v. infix-here start least from t x (under b v) (within_under b w v) l few k i (bound_by chains below left) right (rw e (ap (λ n. bound_by chains n left) bounds))) h u o
            (elim a [ inl j ↦ inl ((j.0, j.1), j.2) | inr j ↦ inr (j.0, j.1) ])

        round-here : Here (TurnOf from (StepBy least (Some t) (rest_of b))) (Round s operand_means start least below x) (ends_or (At (rest_of b)) (StepBy least (Some t) (rest_of b))) b
        round-here o m =
            let ts = rest_of b in
            let z = StepBy least (Some t) ts in
            let mark = s.mark b.state in
            let betweens = first_attempt (λ i. climb_between s.number s.stands A.ends ends OperandBy least t i ts (s.stands i)) s.number 0 Nowhere in
            elim m.run [
              | inl r ↦ refuses-by (TurnOf from z) (ends_or (At ts) z) b.tokens.list o r
              | inr k ↦
                  from-here (TurnOf from) (At ts) b (TryPostfix s operand_means start least b.start x below mark) (λ i. climb_after s.number s.stands A.ends ends OperandBy least t i ts (s.stands i))
                  (λ i next y h. postfix-tried mark i (s.stands i) next y h) s.number 0 _ betweens
                  (from-here (TurnOf from) (At ts) b (TryInfix s operand_means start least b.start x below mark)
                  (λ i. climb_between s.number s.stands A.ends ends OperandBy least t i ts (s.stands i))
                  (λ i next y h. infix-tried mark i (s.stands i) refl next y h) s.number 0 (Given (Some Rests)) Nowhere
                  (λ u. given-here Er (TurnOf from Nowhere) (under b u) (within_under b w u) (Some Rests) refl)) b.state o k
            ]

      -- rounds after a value
      module _ (start least : ℕ) (from : List Tok) where
        -- what follows a round, where the tree so far had a value
        abbrev AfterRound : ℕ → Type 0
        AfterRound m = (below : ℕ) (t : OperatorTree) (x : Option V) (b : Beginning Tok Cx St) → Within b → start ≤ b.start → length (rest_of b) ≤ many → IfValue (Valued from (t, rest_of b)) x
            → below ≡ bound_of s.number s.stands t
            → Here (ValuedBy from (Climbed least (Some t) (rest_of b))) (Rounds s operand_means start least m below x) (left_after (Climbed least (Some t) (rest_of b))) b

        turn-follows : (m : ℕ) → AfterRound m → (t : OperatorTree) (x : Option V) (b : Beginning Tok Cx St) → Within b → start ≤ b.start → length (rest_of b) ≤ many
            → IfValue (Valued from (t, rest_of b)) x
            → (z : Ending (OperatorTree × List Tok)) → StepBy least (Some t) (rest_of b) ≡ z
            → Climbed least (Some t) (rest_of b) ≡ go_on s.number s.stands A.ends ends (λ q. Climbed least (Some q.0) q.1) (Some t) (rest_of b) z
            → (v : Option (Turn V)) (c : Beginning Tok Cx St) → Within c → c.tokens ≡ b.tokens → ends_or (At (rest_of b)) z ≡ At (rest_of c) → IfValue (TurnOf from z) v
            → Here (ValuedBy from (Climbed least (Some t) (rest_of b))) (AfterTurn x (Rounds s operand_means start least m) v) (left_after (Climbed least (Some t) (rest_of b))) c
        turn-follows m h t x b w l few k (At q) d g (Some Rests) c w' u e i = absurd (cc i)
        turn-follows m h t x b w l few k Nowhere d g (Some Rests) c w' u e i =
            let a : rest_of b ≡ rest_of c = cc e in
            let z = Climbed least (Some t) (rest_of b) in
            let made : z ≡ At (t, rest_of c) = g ∙ ap (λ r. At (t, r)) a in
            subst (λ y. Here (ValuedBy from z) {Er = Er} (Given x) y c) (sym (ap left_after made))
            (given-here Er (ValuedBy from z) c w' x (subst (λ y. IfValue (ValuedBy from y) x) (sym made) (subst (λ r. IfValue (Valued from (t, r)) x) a k)))
        turn-follows m h t x b w l few k Refused d g (Some Rests) c w' u e i = absurd (cc i)
        turn-follows m h t x b w l few k (At q) d g (Some (Goes below y)) c w' u e i =
            let a : q.1 ≡ rest_of c = cc e in
            let z = Climbed least (Some t) (rest_of b) in
            let shorter : length q.1 < length (rest_of b) = climbed_step-shorter s.number s.stands A.ends ends atom_further ends_further least (Some t) (rest_of b) q d in
            let still : length (rest_of c) < length (rest_of b) = subst (λ r. length r < length (rest_of b)) a shorter in
            let past : b.start < c.start = further_on b c u w w' still in
            let made : Climbed least (Some q.0) (rest_of c) ≡ z = sym (g ∙ ap (λ r. Climbed least (Some q.0) r) a) in
            subst (λ y'. Here (ValuedBy from y') (Rounds s operand_means start least m below y) (left_after y') c) made
            (h below q.0 y c w' (omega (arith, l, past)) (omega (arith, few, still)) (subst (λ r. IfValue (Valued from (q.0, r)) y) a i.1) i.0)
        turn-follows m h t x b w l few k Nowhere d g (Some (Goes below y)) c w' u e i = absurd i
        turn-follows m h t x b w l few k Refused d g (Some (Goes below y)) c w' u e i = absurd i
        turn-follows m h t x b w l few k z d g None c w' u e i = λ o n. absurd n

        refused_on : (t : OperatorTree) (ts : List Tok) (next : OperatorTree × List Tok → Ending (OperatorTree × List Tok)) (z : Ending (OperatorTree × List Tok)) → ends_or (At ts) z ≡ Refused
            → go_on s.number s.stands A.ends ends next (Some t) ts z ≡ Refused
        refused_on t ts next (At q) e = absurd (cc e)
        refused_on t ts next Nowhere e = absurd (cc e)
        refused_on t ts next Refused e = refl

        never_nowhere : (ts : List Tok) (z : Ending (OperatorTree × List Tok)) → ends_or (At ts) z ≡ Nowhere → ⊥
        never_nowhere ts (At q) e = absurd (cc e)
        never_nowhere ts Nowhere e = absurd (cc e)
        never_nowhere ts Refused e = absurd (cc e)

        rounds-here : (m : ℕ) → AfterRound m
        rounds-here zero below t x b w l few k q = λ o n. absurd n
        rounds-here (suc m) below t x b w l few k q =
            let ts = rest_of b in
            let z = StepBy least (Some t) ts in
            let y = Climbed least (Some t) ts in
            let g = climbed-on s.number s.stands A.ends ends atom_further ends_further least (Some t) ts in
            chained-to (TurnOf from z) (ValuedBy from y) (Round s operand_means start least below x) (AfterTurn x (Rounds s operand_means start least m)) (ends_or (At ts) z) (left_after y) b w
            (round-here start least below from t x b w l few k q)
            (λ n. absurd (never_nowhere ts z n)) (λ n. ap left_after (g ∙ refused_on t ts _ z n))
            (turn-follows m (rounds-here m) t x b w l few k z refl g)

      head-bound : (least : ℕ) (ts : List Tok) (q : OperatorTree × List Tok) → StepBy least None ts ≡ At q → any_power ≡ bound_of s.number s.stands q.0
      head-bound least ts q e = elim (step-at s.number s.stands A.ends ends OperandBy least None ts q e) [
        | inl o ↦ rw o.2.made refl
        | inr o ↦ rw o.made refl
      ]

      -- a first value, and rounds after it
      level-here : (least : ℕ) (b : Beginning Tok Cx St) → Within b → length (rest_of b) ≤ many
          → Here (ValuedBy (rest_of b) (Climbed least None (rest_of b))) (Level s operand_means least) (left_after (Climbed least None (rest_of b))) b
      level-here least b w few o m =
          let ts = rest_of b in
          let z = StepBy least None ts in
          let y = Climbed least None ts in
          let g = climbed-on s.number s.stands A.ends ends atom_further ends_further least None ts in
          chained-to (ValuedBy ts z) (ValuedBy ts y) (Head s operand_means b.start) (AllRounds s operand_means b.start least any_power) (left_after z) (left_after y) b w (head-here b w few least)
          (λ n. ap left_after (g ∙ fails_on ts _ z n)) (λ n. ap left_after (g ∙ is_refused_on ts _ z n))
          (λ v c w' u e i o' r.
          let a = and_then-at z (λ (p : OperatorTree × List Tok). At p.1) (rest_of c) e in
          let q : OperatorTree × List Tok = a.mid in
          let same : q.1 ≡ rest_of c = cc a.second in
          let first : z ≡ At (q.0, rest_of c) = subst (λ (r : List Tok). z ≡ At (q.0, r)) same a.first in
          let shorter : length (rest_of c) < length ts = climbed_step-shorter s.number s.stands A.ends ends atom_further ends_further least None ts (q.0, rest_of c) first in
          let past : b.start < c.start = further_on b c u w w' shorter in
          let made : Climbed least (Some q.0) (rest_of c) ≡ y = sym (g ∙ ap (λ x. go_on s.number s.stands A.ends ends (λ p. Climbed least (Some p.0) p.1) None ts x) first) in
          let h = rounds-here b.start least ts r.rounds any_power q.0 v c w' (omega (arith, past)) (omega (arith, few, shorter)) (subst (λ x. IfValue (ValuedBy ts x) v) first i)
          (head-bound least ts (q.0, rest_of c) first) in
          subst (λ x. Here (ValuedBy ts x) (Rounds s operand_means b.start least r.rounds any_power v) (left_after x) c) made h o' r.run) o m.run
        where
          fails_on : (ts : List Tok) (next : OperatorTree × List Tok → Ending (OperatorTree × List Tok)) (z : Ending (OperatorTree × List Tok)) → left_after z ≡ Nowhere
              → go_on s.number s.stands A.ends ends next None ts z ≡ Nowhere
          fails_on ts next (At q) e = absurd (cc e)
          fails_on ts next Nowhere e = refl
          fails_on ts next Refused e = absurd (cc e)

          is_refused_on : (ts : List Tok) (next : OperatorTree × List Tok → Ending (OperatorTree × List Tok)) (z : Ending (OperatorTree × List Tok)) → left_after z ≡ Refused
              → go_on s.number s.stands A.ends ends next None ts z ≡ Refused
          is_refused_on ts next (At q) e = absurd (cc e)
          is_refused_on ts next Nowhere e = absurd (cc e)
          is_refused_on ts next Refused e = refl

    left-is : (b : Beginning Tok Cx St) → length (rest_of b) ≡ left_at b
    left-is b = length-drop b.start b.tokens.list

    below-here : (n least : ℕ) (b : Beginning Tok Cx St) → Within b → length (rest_of b) < n
        → Here (ValuedBy (rest_of b) (Climbed least None (rest_of b))) (Below s n least) (left_after (Climbed least None (rest_of b))) b
    below-here zero least b w few o m = absurd m
    below-here (suc n) least b w few o m = elim m [
      | inl k ↦ level-here (Below s n) n (λ power c w' l. below-here n power c w' l) least b w (omega (arith, few)) o k.1
      | inr k ↦ below-here n least b w (let z = left-is b in let l = k.0 in omega (arith, z, l)) o k.1
    ]

    -- an expression ends where the climb does, with a value of the tree that is read
    pub expression-reads : (least : ℕ) → Reads (Expression s least) (λ ts. left_after (Climbed least None ts)) (λ ts. ValuedBy ts (Climbed least None ts))
    expression-reads least = record {
      here = λ b w o m. below-here (suc (length b.tokens.list)) least b w (let z = left-is b in omega (arith, z)) o m.run;
    }
