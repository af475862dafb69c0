-- Where a step of `repeated` ends, with an item or without, by where its item does.
-- Main laws: counted-here, repeats-here. Read first: ListWords.antt, Repeating.antt.
use Rattle.std.proofs.Common.{◌≡◌, ℕ, suc, ◌+◌, ◌-◌, ◌^◌, ◌≤◌, ◌<◌, Bool, true, false, nat_eq, nat_lt, cond, Option, Some, None, List, length, drop, refl, subst, arith, add-one}
use Rattle.std.specs.Prelude.{⊤}
use Rattle.std.proofs.lemmas.List.{length-drop}
use Rattle.std.proofs.lemmas.Bool.Decides.{nat_tests}
use Rattle.chumsky_input.specs.Outcome.{Meaning, Beginning, Outcome, Verdict, Yes, No, Halt, Clash}
use Rattle.chumsky_parser.specs.Chained.{Chained, Follows}
use Rattle.chumsky_parser.specs.Choice.{OrElse}
use Rattle.chumsky_parser.specs.Items.{Next, More, End}
use Rattle.chumsky_parser.specs.Ending.{Ending, At, Nowhere, Refused, Ender, and_then, or_else, Within, IfValue, Answers, Here, Reads}
use Rattle.chumsky_parser.specs.EndingLaws.{chained-here, given-here, and_then_some}
use Rattle.chumsky_parser.specs.ChoiceEndings.{or_else-here}
use Rattle.chumsky_parser.specs.Words.{ElseValue}
use Rattle.chumsky_parser.specs.Language.{EndsFurther}
use Rattle.chumsky_parser.specs.ItemsLanguage.{Stepped, Over, place, IsStepped}
use Rattle.chumsky_items.specs.Repeating.{at_cap, asks, is_stuck, fits, Settled, Settles, Counted, EndsUnlessFew, Uncapped, Repeats}
use Rattle.chumsky_items.specs.ListWords.{overs, one_or, unless_few, repeated_next}

-- an item with P, the next after k others
abbrev pub IsMore : {V : Type 0} → (V → Type 0) → ℕ → Next ℕ V → Type 0
IsMore P k (More v t) = IfValue P v × (t ≡ suc k)
IsMore P k End = ⊥

abbrev pub IsEnd : {V : Type 0} → Next ℕ V → Type 0
IsEnd (More v t) = ⊥
IsEnd End = ⊤

pub place_one : {Tok : Type 0} (x y : Ending (List Tok)) → or_else x y ≡ place (one_or x y)
place_one (At rest) y = refl
place_one Nowhere (At rest) = refl
place_one Nowhere Nowhere = refl
place_one Nowhere Refused = refl
place_one Refused y = refl

pub place_over : {Tok : Type 0} (x : Ending (List Tok)) → x ≡ place (overs x)
place_over (At rest) = refl
place_over Nowhere = refl
place_over Refused = refl

-- an end, where the list is over
pub over_value : {Tok V : Type 0} (P : V → Type 0) (k : ℕ) (y : Ending (List Tok)) (rest : List Tok) (n : Next ℕ V) → y ≡ At rest → IsEnd n → IsStepped P (λ t. t ≡ suc k) (overs y) n
over_value P k (At r) rest (More v t) e i = absurd i
over_value P k (At r) rest End e i = tt
over_value P k Nowhere rest n e i = absurd (cc e)
over_value P k Refused rest n e i = absurd (cc e)

-- each outcome is so, and ends where a yes of it ends
pub ended-here : {Tok Cx St Er V : Type 0} (P Q : V → Type 0) (m : Meaning Tok Cx St Er V) (x : Ending (List Tok)) (b : Beginning Tok Cx St)
    → ((v : V) (rest : List Tok) → x ≡ At rest → P v → Q v) → Here P m x b → Here Q m x b
ended-here {Tok = Tok} {Er = Er} {V = V} P Q m x b f h o y = by_verdict o.verdict (h o y)
  where
    if_value : (rest : List Tok) → x ≡ At rest → (v : Option V) → IfValue P v → IfValue Q v
    if_value rest e (Some v) i = f v rest e i
    if_value rest e None i = tt

    by_verdict : (u : Verdict V Er) → Answers P x b.tokens.list u o.end → Answers Q x b.tokens.list u o.end
    by_verdict (Yes v) a = (a.0, if_value _ a.0 v a.1, a.2)
    by_verdict No a = a
    by_verdict (Halt s) a = a
    by_verdict (Clash c) a = a

module _ {Tok Cx St Er V W : Type 0} (part : Meaning Tok Cx St Er V) (next : Option V → Meaning Tok Cx St Er W) (b : Beginning Tok Cx St) where
  -- what follows is in the same text
  abbrev pub SameText : Option V → Meaning Tok Cx St Er W
  SameText v c q = next v c q × (c.tokens ≡ b.tokens)

  follows_there : (p : Outcome V Er St) (o : Outcome W Er St) (u : Verdict V Er) → Follows u next b p o → Follows u SameText b p o
  follows_there p o (Yes v) f = (f.0, (f.1, refl), f.2)
  follows_there p o No f = f
  follows_there p o (Halt s) f = f
  follows_there p o (Clash e) f = f

  pub same_text : (o : Outcome W Er St) → Chained part next b o → Chained part SameText b o
  same_text o m = record { first = m.first; meant = m.meant; follows = follows_there m.first o m.first.verdict m.follows }

-- a place from which less is left is a later one
pub later_place : {Tok : Type 0} (ts : List Tok) (p q : ℕ) → p ≤ length ts → q ≤ length ts → length (drop q ts) < length (drop p ts) → p < q
later_place ts p q l m h =
    let x : length (drop q ts) ≡ length ts - q = length-drop q ts in
    let y : length (drop p ts) ≡ length ts - p = length-drop p ts in
    omega (arith, x, y, l, m, h)

-- and one from which no more is left is no earlier one
pub earlier_place : {Tok : Type 0} (ts : List Tok) (p q : ℕ) → p ≤ length ts → q ≤ length ts → length (drop q ts) ≤ length (drop p ts) → p ≤ q
earlier_place ts p q l m h =
    let x : length (drop q ts) ≡ length ts - q = length-drop q ts in
    let y : length (drop p ts) ≡ length ts - p = length-drop p ts in
    omega (arith, x, y, l, m, h)

is_later : (p q : ℕ) → p < q → nat_eq q p ≡ false
is_later p q l = grind (arith, nat_tests)

not_stuck : (asked : Bool) (p q : ℕ) → p < q → is_stuck asked p q ≡ false
not_stuck true p q l = is_later p q l
not_stuck false p q l = refl

fits_one : (k : ℕ) → k + 1 < 2 ^ 64 → fits k ≡ true
fits_one k l = grind (arith, nat_tests)

module _ {Tok Cx St Er V : Type 0} where
  -- an item that is given, since it moved on and can be counted
  settled_here : (P : V → Type 0) (k : ℕ) (stuck fit : Bool) (v : Option V) → IfValue P v → stuck ≡ false → fit ≡ true
      → (b : Beginning Tok Cx St) → Within b
      → Here (IsMore P k) {Er = Er} (Settled stuck fit k v) (At (drop b.start b.tokens.list)) b
  settled_here P k true fit v i s f b w = absurd (cc s)
  settled_here P k false true v i s f b w = let e : k + 1 ≡ suc k = add-one k in given-here Er (IsMore P k) b w (Some (More v (k + 1))) (i, e)
  settled_here P k false false v i s f b w = absurd (cc f)

  pub counted-here : (item : Meaning Tok Cx St Er V) (f : Ender Tok) (value : List Tok → V → Type 0)
      → Reads item f value → EndsFurther f → (asked : Bool) (k start : ℕ) (b : Beginning Tok Cx St) → Within b
      → start ≤ b.start
      → k + length (drop b.start b.tokens.list) < 2 ^ 64 → Here (IsMore (value (drop b.start b.tokens.list)) k) (Counted asked k start item) (f (drop b.start b.tokens.list)) b
  counted-here item f value h further asked k start b w l few o m =
      let ts : List Tok = drop b.start b.tokens.list in
      let P : V → Type 0 = value ts in
      let z : Answers (IsMore P k) (and_then (λ us. At us) (f ts)) b.tokens.list o.verdict o.end =
      chained-here P (IsMore P k) item (SameText item (Settles asked k start) b) (f ts) (λ us. At us) b w (h.here b w)
      (λ v c y e i q n.
      let same : c.tokens ≡ b.tokens = n.1 in
      let less : length (drop c.start c.tokens.list) < length ts = further ts (drop c.start c.tokens.list) e in
      let less' : length (drop c.start b.tokens.list) < length ts = subst (λ s. length (drop c.start s.list) < length ts) same less in
      let cl : c.start ≤ length b.tokens.list = subst (λ s. c.start ≤ length s.list) same y.start in
      let past : b.start < c.start = later_place b.tokens.list b.start c.start w.start cl less' in
      let on : start < c.start = omega (arith, past, l) in
      let one : k + 1 < 2 ^ 64 = omega (arith, few, less) in
      settled_here P k (is_stuck asked start c.start) (fits k) v i (not_stuck asked start c.start on) (fits_one k one) c y q n.0)
      o (same_text item (Settles asked k start) b o m.run) in
      subst (λ x. Answers (IsMore P k) x b.tokens.list o.verdict o.end) (and_then_some (f ts)) z

  -- no more items
  pub closes-here : (few : Bool) (b : Beginning Tok Cx St) → Within b
      → Here (IsEnd {V = V}) (EndsUnlessFew {Tok = Tok} {Cx = Cx} {St = St} {Er = Er} few) (unless_few few (drop b.start b.tokens.list)) b
  closes-here true b w = λ o m. rw m refl
  closes-here false b w = given-here Er IsEnd b w (Some End) tt

-- one more item, where the first ends, and an end, where the second does
pub one_value : {Tok V : Type 0} (P : V → Type 0) (k : ℕ) (x y : Ending (List Tok)) (rest : List Tok) (n : Next ℕ V)
    → or_else x y ≡ At rest → ElseValue x (IsMore P k n) (IsEnd n) → IsStepped P (λ t. t ≡ suc k) (one_or x y) n
one_value P k (At r) y rest (More v t) e i = i
one_value P k (At r) y rest End e i = absurd i
one_value P k Nowhere y rest n e i = over_value P k y rest n e i
one_value P k Refused y rest n e i = absurd i

module _ {Tok Cx St Mk Er V : Type 0} (mark : St → Mk) (back : St → Mk → St) (safe : Type 0) where
  -- an item, or where it fails the end
  pub one_or-here : (P : V → Type 0) (k : ℕ) (first second : Meaning Tok Cx St Er (Next ℕ V))
      (x y : Ending (List Tok)) (b : Beginning Tok Cx St)
      → Here (IsMore P k) first x b → ((s : St) → Here IsEnd second y (record b { state = s }))
      → Here (IsStepped P (λ t. t ≡ suc k) (one_or x y)) (OrElse mark back safe first second) (place (one_or x y)) b
  one_or-here P k first second x y b h g o m =
      let z : Answers (IsStepped P (λ t. t ≡ suc k) (one_or x y)) (or_else x y) b.tokens.list o.verdict o.end =
      ended-here _ _ (OrElse mark back safe first second) (or_else x y) b (λ n rest e i. one_value P k x y rest n e i) (or_else-here mark back safe first second (IsMore P k) IsEnd x y b h g) o m in
      subst (λ q. Answers (IsStepped P (λ t. t ≡ suc k) (one_or x y)) q b.tokens.list o.verdict o.end) (place_one x y) z

  module _ (item : Meaning Tok Cx St Er V) (f : Ender Tok) (value : List Tok → V → Type 0) (h : Reads item f value) (further : EndsFurther f) (free : Bool) (least : ℕ) (most : Option ℕ) where
    uncapped_here : (k : ℕ) (b : Beginning Tok Cx St) → Within b → k + length (drop b.start b.tokens.list) < 2 ^ 64 → (c : Bool)
        → (next : Ending (Stepped Tok)) → next ≡ cond c (overs (At (drop b.start b.tokens.list))) (one_or (f (drop b.start b.tokens.list)) (unless_few (nat_lt k least) (drop b.start b.tokens.list)))
        → Here (IsStepped (value (drop b.start b.tokens.list)) (λ t. t ≡ suc k) next) (Uncapped mark back safe item free least most c k b.start) (place next) b
    uncapped_here k b w l true next e = rw e (given-here Er (IsStepped (value (drop b.start b.tokens.list)) (λ t. t ≡ suc k) (At (Over (drop b.start b.tokens.list)))) b w (Some End) tt)
    uncapped_here k b w l false next e =
        let few : Bool = nat_lt k least in
        rw e
        (one_or-here (value (drop b.start b.tokens.list)) k (Counted (asks free most) k b.start item) (EndsUnlessFew few) (f (drop b.start b.tokens.list)) (unless_few few (drop b.start b.tokens.list)) b
        (counted-here item f value h further (asks free most) k b.start b w (omega arith) l) (λ s. closes-here few (record b { state = s }) (record { start = w.start; few = w.few })))

    -- a step of `repeated`
    pub repeats-here : (k s : ℕ) → s ≡ k → (b : Beginning Tok Cx St) → Within b → k + length (drop b.start b.tokens.list) < 2 ^ 64
        → Here
        (IsStepped (value (drop b.start b.tokens.list)) (λ t. t ≡ suc k) (repeated_next f least most k (drop b.start b.tokens.list)))
        (Repeats mark back safe item free least most s)
        (place (repeated_next f least most k (drop b.start b.tokens.list))) b
    repeats-here k s e b w l = rw e (λ o m. uncapped_here k b w l (at_cap most k) (repeated_next f least most k (drop b.start b.tokens.list)) refl o m.step)
