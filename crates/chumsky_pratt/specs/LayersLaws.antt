-- Where operators are in layers, the words of trees that are as powers have it are the expressions of layers, with their values.
-- Main laws: layers-value, layers-word, layers-valued. Read first: Layers.antt, PrecedenceLanguage.antt.
use Rattle.std.proofs.Common.{◌≡◌, ℕ, ◌+◌, ◌≤◌, ◌<◌, Bool, true, false, nat_le, nat_lt, List, ◌++◌, refl, sym, ◌∙◌, arith}
use Rattle.std.proofs.lemmas.Bool.Decides.{nat_tests}
use Rattle.chumsky_parser.specs.Language.{Language}
use Rattle.chumsky_parser.specs.ProgressLaws.{both-true}
use Rattle.chumsky_pratt.specs.declared.fixity.Fixity.{Fixity}
use Rattle.chumsky_pratt.specs.declared.fixity.Fixity.TheVariants.{Prefix, Postfix, Infix}
use Rattle.chumsky_pratt.specs.declared.operands.Operands.{Operands}
use Rattle.chumsky_pratt.specs.declared.operands.Operands.TheVariants.{After, Before, Around}
use Rattle.chumsky_pratt.specs.Expression.{any_power}
use Rattle.chumsky_pratt.specs.Operating.{OperatorLanguages}
use Rattle.chumsky_pratt.specs.OperatorTrees.{
  OperatorTree,
  Atom,
  Prefixed,
  Postfixed,
  Infixed,
  is_tried,
  power_after,
  bound_after,
  IsPrefix,
  IsPostfix,
  IsInfix,
  HasBefore,
  bound_of,
  YieldsTo,
  Binds,
  TreeWord,
  TreeValue,
}
use Rattle.chumsky_pratt.specs.PrecedenceLanguage.{precedence_language}
use Rattle.chumsky_pratt.specs.Layers.{IsLayered, AreLayered, power_before, IsOfPower, is_atom, is_prefixed, is_postfixed, is_infixed}

postfix-before : (f : Fixity) → IsPostfix f → HasBefore f
postfix-before (Prefix power) p = absurd p
postfix-before (Postfix power) p = tt
postfix-before (Infix left right chains) p = absurd p

infix-before : (f : Fixity) → IsInfix f → HasBefore f
infix-before (Prefix power) p = absurd p
infix-before (Postfix power) p = absurd p
infix-before (Infix left right chains) p = tt

-- which operators are tried, where each may be tried after each
tried-least : (least bound : ℕ) (f : Fixity) → is_tried least bound f ≡ true → least ≤ power_before f
tried-least least bound (Prefix power) e = absurd (cc e)
tried-least least bound (Postfix power) e = grind (arith, nat_tests)
tried-least least bound (Infix left right chains) e =
    let a : nat_le least left ≡ true = (both-true (nat_le least left) (nat_lt left bound) e).0 in
    grind (arith, nat_tests)

not-tried : (least bound : ℕ) (f : Fixity) → power_before f < least → is_tried least bound f ≡ false
not-tried least bound (Prefix power) l = refl
not-tried least bound (Postfix power) l = grind (arith, nat_tests)
not-tried least bound (Infix left right chains) l = let a : nat_le least left ≡ false = grind (arith, nat_tests) in rw a refl

module _ {top : ℕ} (low : top < any_power) (bound : ℕ) (all : bound ≡ any_power) where
  is-tried : (least : ℕ) (f : Fixity) → HasBefore f → IsLayered top f → least ≤ power_before f → is_tried least bound f ≡ true
  is-tried least (Prefix power) b y l = absurd b
  is-tried least (Postfix power) b y l = grind (arith, nat_tests)
  is-tried least (Infix left right chains) b y l =
      let k : left ≤ top = y.0 in
      let m : left < bound = omega (arith, low, all, k) in
      let a : nat_le least left ≡ true = grind (arith, nat_tests) in
      let c : nat_lt left bound ≡ true = grind (arith, nat_tests) in
      rw (a, c) refl

  tried-not : (least : ℕ) (f : Fixity) → HasBefore f → IsLayered top f → is_tried least bound f ≡ false → power_before f < least
  tried-not least f b y e = by_order (nat_lt (power_before f) least) refl
    where
      by_order : (c : Bool) → nat_lt (power_before f) least ≡ c → power_before f < least
      by_order true d = grind (arith, nat_tests)
      by_order false d = let l : least ≤ power_before f = grind (arith, nat_tests) in absurd (cc (sym (is-tried least f b y l) ∙ e))

module _ (top : ℕ) where
  prefix-after : (f : Fixity) → IsPrefix f → IsLayered top f → top < power_after f
  prefix-after (Prefix power) p y = y
  prefix-after (Postfix power) p y = absurd p
  prefix-after (Infix left right chains) p y = absurd p

  infix-after : (f : Fixity) → IsInfix f → IsLayered top f → power_after f ≡ power_before f + 1
  infix-after (Prefix power) p y = absurd p
  infix-after (Postfix power) p y = absurd p
  infix-after (Infix left right chains) p y = y.1

  postfix-top : (f : Fixity) → IsPostfix f → IsLayered top f → power_before f ≡ top
  postfix-top (Prefix power) p y = absurd p
  postfix-top (Postfix power) p y = y
  postfix-top (Infix left right chains) p y = absurd p

  before-top : (f : Fixity) → HasBefore f → IsLayered top f → power_before f ≤ top
  before-top (Prefix power) b y = absurd b
  before-top (Postfix power) b y = omega (arith, y)
  before-top (Infix left right chains) b y = y.0

  bound-stays : (f : Fixity) → IsLayered top f → (below : ℕ) → bound_after f below ≡ below
  bound-stays (Prefix power) y below = refl
  bound-stays (Postfix power) y below = refl
  bound-stays (Infix left right chains) y below = let c = y.2 in rw c refl

module _ {number : ℕ} {stands : ℕ → Fixity} {top : ℕ} (are : AreLayered number stands top) where
  abbrev Bind : ℕ → OperatorTree → Type 0
  Bind = Binds number stands

  -- each operator lets each follow
  bounded : (least : ℕ) (t : OperatorTree) → Bind least t → bound_of number stands t ≡ any_power
  bounded least Atom b = refl
  bounded least (Prefixed i t) b = refl
  bounded least (Postfixed t i) b = bounded least t b.4
  bounded least (Infixed l i r) b = bound-stays top (stands i) (are.each i b.0) (bound_of number stands l) ∙ bounded least l b.4

  -- an expression of a power is one of each lower power
  lower : (m least : ℕ) → least ≤ m → (t : OperatorTree) → Bind m t → Bind least t
  lower m least l Atom b = tt
  lower m least l (Prefixed i t) b = b
  lower m least l (Postfixed t i) b =
      let k : m ≤ power_before (stands i) = tried-least m (bound_of number stands t) (stands i) b.2 in
      let e = is-tried are.low (bound_of number stands t) (bounded m t b.4) least (stands i) (postfix-before (stands i) b.1) (are.each i b.0) (omega (arith, l, k)) in
      (b.0, b.1, e, b.3, lower m least l t b.4)
  lower m least l (Infixed t i r) b =
      let k : m ≤ power_before (stands i) = tried-least m (bound_of number stands t) (stands i) b.2 in
      let e = is-tried are.low (bound_of number stands t) (bounded m t b.4) least (stands i) (infix-before (stands i) b.1) (are.each i b.0) (omega (arith, l, k)) in
      (b.0, b.1, e, b.3, lower m least l t b.4, b.5)

  -- what leaves an operator to what stands around it is of the power that this asks for
  raised : (f : Fixity) → HasBefore f → IsLayered top f → (m least : ℕ) → m ≤ power_before f → (t : OperatorTree) → YieldsTo number stands t f → Bind least t → Bind m t
  raised f h y m least l Atom n b = tt
  raised f h y m least l (Prefixed i t) n b = b
  raised f h y m least l (Postfixed t i) n b =
      let g = stands i in
      let q = postfix-before g b.1 in
      let z = are.each i b.0 in
      let k : power_before f ≤ top = before-top top f h y in
      let s : power_before g ≡ top = postfix-top top g b.1 z in
      let o : m ≤ power_before g = omega (arith, l, k, s) in
      (b.0, b.1, is-tried are.low (bound_of number stands t) (bounded least t b.4) m g q z o, b.3, raised g q z m least o t b.3 b.4)
  raised f h y m least l (Infixed t i r) n b =
      let g = stands i in
      let q = infix-before g b.1 in
      let z = are.each i b.0 in
      let k : power_before f < power_after g = tried-not are.low (bound_of number stands r) (bounded (power_after g) r b.5) (power_after g) f h y n.0 in
      let s : power_after g ≡ power_before g + 1 = infix-after top g b.1 z in
      let o : m ≤ power_before g = omega (arith, l, k, s) in
      (b.0, b.1, is-tried are.low (bound_of number stands t) (bounded least t b.4) m g q z o, b.3, raised g q z m least o t b.3 b.4, b.5)

  module _ {Tok V : Type 0} (F : Language Tok V) (operators : ℕ → Language Tok (Operands V × V)) where
    -- a tree that is written so, which leaves each operator to what stands around it that is no stronger than this
    pub record WrittenSo (least : ℕ) (w : List Tok) : Type 0 where
      pub tree : OperatorTree
      pub binds : Bind least tree
      pub is : TreeWord F operators tree w
      pub yields : (f : Fixity) → HasBefore f → IsLayered top f → power_before f ≤ least → YieldsTo number stands tree f

  module _ {Tok V : Type 0} (IsAtom : List Tok → V → Type 0) (IsOperator : ℕ → List Tok → Operands V × V → Type 0) where
    abbrev OfPower : ℕ → List Tok → V → Type 0
    OfPower = IsOfPower number stands IsAtom IsOperator

    module _ (F : Language Tok V) (operators : ℕ → Language Tok (Operands V × V)) where
      -- a tree is written as an expression, with its value
      tree-expression : ((w : List Tok) (v : V) → F.stands_for w v → IsAtom w v) → ((i : ℕ) (w : List Tok) (p : Operands V × V) → (operators i).stands_for w p → IsOperator i w p)
          → (least : ℕ) (t : OperatorTree) (w : List Tok) (v : V) → Bind least t → TreeValue F operators t w v → OfPower least w v
      tree-expression a o least Atom w v b x = is_atom (a w v x)
      tree-expression a o least (Prefixed i t) w v b x =
          let j = x.1 in
          rw j.all (is_prefixed i b.0 b.1 (o i j.first (After x.0, v) j.is_first) (tree-expression a o (power_after (stands i)) t j.second x.0 b.2 j.is_second))
      tree-expression a o least (Postfixed t i) w v b x =
          let j = x.1 in
          let g = stands i in
          let r = raised g (postfix-before g b.1) (are.each i b.0) (power_before g) least (omega arith) t b.3 b.4 in
          let l = tried-least least (bound_of number stands t) g b.2 in
          rw j.all (is_postfixed i b.0 b.1 l (tree-expression a o (power_before g) t j.first x.0 r j.is_first) (o i j.second (Before x.0, v) j.is_second))
      tree-expression a o least (Infixed t i u) w v b x =
          let j = x.2 in
          let k = j.is_second in
          let g = stands i in
          let r = raised g (infix-before g b.1) (are.each i b.0) (power_before g) least (omega arith) t b.3 b.4 in
          let l = tried-least least (bound_of number stands t) g b.2 in
          let before = tree-expression a o (power_before g) t j.first x.0 r j.is_first in
          let after = tree-expression a o (power_after g) u k.second x.1 b.5 k.is_second in
          rw (j.all, k.all) (is_infixed i b.0 b.1 l before (o i k.first (Around x.0 x.1, v) k.is_first) after)

      -- where each atom and each operator has a value, a tree has
      tree-valued : ((w : List Tok) → F.word w → (v : V) × IsAtom w v) → ((i : ℕ) (w : List Tok) (x : Operands V) → (operators i).word w → (v : V) × IsOperator i w (x, v))
          → (t : OperatorTree) (w : List Tok) → TreeWord F operators t w
          → (v : V) × TreeValue (record F { stands_for = IsAtom }) (λ i. record (operators i) { stands_for = IsOperator i }) t w v
      tree-valued a o Atom w x = a w x
      tree-valued a o (Prefixed i t) w x =
          let r = tree-valued a o t x.second x.is_second in
          let s = o i x.first (After r.0) x.is_first in
          (s.0, (r.0, record { first = x.first; second = x.second; all = x.all; is_first = s.1; is_second = r.1 }))
      tree-valued a o (Postfixed t i) w x =
          let r = tree-valued a o t x.first x.is_first in
          let s = o i x.second (Before r.0) x.is_second in
          (s.0, (r.0, record { first = x.first; second = x.second; all = x.all; is_first = r.1; is_second = s.1 }))
      tree-valued a o (Infixed t i u) w x =
          let j = x.is_second in
          let r = tree-valued a o t x.first x.is_first in
          let q = tree-valued a o u j.second j.is_second in
          let s = o i j.first (Around r.0 q.0) j.is_first in (
            s.0,
            (
              r.0,
              q.0,
              record {
                first = x.first;
                second = x.second;
                all = x.all;
                is_first = r.1;
                is_second = record { first = j.first; second = j.second; all = j.all; is_first = s.1; is_second = q.1 };
              },
            ),
          )

      expression-tree : ((w : List Tok) (v : V) → IsAtom w v → F.word w) → ((i : ℕ) (w : List Tok) (p : Operands V × V) → IsOperator i w p → (operators i).word w)
          → {least : ℕ} {w : List Tok} {v : V} → OfPower least w v → WrittenSo F operators least w
      expression-tree a o {least} {w} {v} (is_atom x) = record { tree = Atom; binds = tt; is = a w v x; yields = λ f h y l. tt }
      expression-tree a o (is_prefixed {u} {w} {x} {v} i n p m k) =
          let t = expression-tree a o k in
          let strong : top < power_after (stands i) = prefix-after top (stands i) p (are.each i n) in
          record {
            tree = Prefixed i t.tree;
            binds = (n, p, t.binds);
            is = record { first = u; second = w; all = refl; is_first = o i u (After x, v) m; is_second = t.is };
            yields = λ f h y l.
                let q : power_before f ≤ top = before-top top f h y in
                (not-tried (power_after (stands i)) (bound_of number stands t.tree) f (omega (arith, strong, q)), t.yields f h y (omega (arith, strong, q)));
          }
      expression-tree a o {least} (is_postfixed {u} {w} {x} {v} i n p l k m) =
          let t = expression-tree a o k in
          let g = stands i in
          let h = postfix-before g p in
          let y = are.each i n in
          let e = is-tried are.low (bound_of number stands t.tree) (bounded (power_before g) t.tree t.binds) least g h y l in
          record {
            tree = Postfixed t.tree i;
            binds = (n, p, e, t.yields g h y (omega arith), lower (power_before g) least l t.tree t.binds);
            is = record { first = u; second = w; all = refl; is_first = t.is; is_second = o i w (Before x, v) m };
            yields = λ f h y l. tt;
          }
      expression-tree a o {least} (is_infixed {u} {s} {w} {x} {y} {v} i n p l k m j) =
          let t = expression-tree a o k in
          let r = expression-tree a o j in
          let g = stands i in
          let h = infix-before g p in
          let z = are.each i n in
          let after : power_after g ≡ power_before g + 1 = infix-after top g p z in
          let e = is-tried are.low (bound_of number stands t.tree) (bounded (power_before g) t.tree t.binds) least g h z l in
          record {
            tree = Infixed t.tree i r.tree;
            binds = (n, p, e, t.yields g h z (omega arith), lower (power_before g) least l t.tree t.binds, r.binds);
            is = record {
              first = u;
              second = s ++ w;
              all = refl;
              is_first = t.is;
              is_second = record { first = s; second = w; all = refl; is_first = o i s (Around x y, v) m; is_second = r.is };
            };
            yields = λ f b c d.
                (not-tried (power_after g) (bound_of number stands r.tree) f (omega (arith, l, d, after)), r.yields f b c (omega (arith, l, d, after)));
          }

  module _ {Tok V : Type 0} {IsAtom : List Tok → V → Type 0} {IsOperator : ℕ → List Tok → Operands V × V → Type 0} (A : Language Tok V) (row : OperatorLanguages Tok V) where
    -- what a word stands for is the value of an expression
    pub layers-value : ((w : List Tok) (v : V) → A.stands_for w v → IsAtom w v)
        → ((i : ℕ) (w : List Tok) (p : Operands V × V) → (row.operator i).stands_for w p → IsOperator i w p)
        → (w : List Tok) (v : V) → (precedence_language number stands A row).stands_for w v → IsOfPower number stands IsAtom IsOperator 0 w v
    unfolding precedence_language
    layers-value a o w v s = tree-expression IsAtom IsOperator A row.operator a o 0 s.tree w v s.binds s.is

    -- each word is an expression, where each atom and each operator has a value
    pub layers-valued : ((w : List Tok) → A.word w → (v : V) × IsAtom w v)
        → ((i : ℕ) (w : List Tok) (x : Operands V) → (row.operator i).word w → (v : V) × IsOperator i w (x, v))
        → (w : List Tok) → (precedence_language number stands A row).word w → (v : V) × IsOfPower number stands IsAtom IsOperator 0 w v
    unfolding precedence_language
    layers-valued a o w s =
        let r = tree-valued IsAtom IsOperator A row.operator a o s.tree w s.is in
        (r.0, tree-expression IsAtom IsOperator (record A { stands_for = IsAtom }) (λ i. record (row.operator i) { stands_for = IsOperator i }) (λ w v x. x) (λ i w p x. x) 0 s.tree w r.0 s.binds r.1)

    -- and each expression is a word
    pub layers-word : ((w : List Tok) (v : V) → IsAtom w v → A.word w) → ((i : ℕ) (w : List Tok) (p : Operands V × V) → IsOperator i w p → (row.operator i).word w)
        → (w : List Tok) (v : V) → IsOfPower number stands IsAtom IsOperator 0 w v → (precedence_language number stands A row).word w
    unfolding precedence_language
    layers-word a o w v x = let t = expression-tree IsAtom IsOperator A row.operator a o x in record { tree = t.tree; binds = t.binds; is = t.is }
