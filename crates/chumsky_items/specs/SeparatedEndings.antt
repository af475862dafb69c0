-- Where a step of `separated_by` ends, with an item or without, by where its item and its separator do.
-- Main law: separates-here. Read first: ListWords.antt, ListEndings.antt, Separating.antt.
use Rattle.std.proofs.Common.{
  ◌≡◌,
  ℕ,
  zero,
  suc,
  ◌+◌,
  ◌^◌,
  ◌≤◌,
  ◌<◌,
  Bool,
  true,
  false,
  not,
  ◌&&◌,
  nat_eq,
  nat_lt,
  nat_le,
  cond,
  Option,
  Some,
  None,
  List,
  length,
  drop,
  refl,
  sym,
  ◌∙◌,
  ap,
  subst,
  arith,
}
use Rattle.std.specs.Prelude.{⊤}
use Rattle.std.proofs.lemmas.Bool.Decides.{nat_tests}
use Rattle.chumsky_input.specs.Outcome.{Meaning, Beginning}
use Rattle.chumsky_parser.specs.Chained.{Chained, Given, Asked}
use Rattle.chumsky_parser.specs.Items.{Next, More, End}
use Rattle.chumsky_parser.specs.Ending.{Ending, At, Nowhere, Refused, Ender, and_then, or_else, Ends, Within, Answers, Here, Reads}
use Rattle.chumsky_parser.specs.EndingLaws.{chained-here, given-here, asked-here, weaker-here, and_then_some}
use Rattle.chumsky_parser.specs.ChoiceEndings.{or_else-here}
use Rattle.chumsky_parser.specs.Words.{ElseValue}
use Rattle.chumsky_parser.specs.Language.{EndsFurther}
use Rattle.chumsky_parser.specs.ItemsLanguage.{Stepped, place, IsStepped}
use Rattle.chumsky_items.specs.Repeating.{at_cap, Counted, EndsUnlessFew}
use Rattle.chumsky_items.specs.Separating.{Bounds, asks_after, stays, Perhaps, Lead, Last, Staying, Round, Unfilled, Separates}
use Rattle.chumsky_items.specs.ListWords.{overs, one_or, unless_few, lead_at, full_at, stands, stay_or, none_at, separated_next}
use Rattle.chumsky_items.specs.ListEndings.{IsMore, IsEnd, place_over, over_value, ended-here, SameText, same_text, earlier_place, counted-here, closes-here, one_or-here}

later : (k : ℕ) → nat_eq (suc k) 0 ≡ false
later k = grind (arith, nat_tests)

-- where an item ends, or where a separator that stays does
abbrev stay_at : {Tok : Type 0} → Bool → Ending (List Tok) → List Tok → Ending (Stepped Tok)
stay_at true x mid = one_or x (At mid)
stay_at false x mid = one_or x Nowhere

abbrev stay_step : {Tok : Type 0} → Ender Tok → Bool → List Tok → Ending (Stepped Tok)
stay_step f c mid = stay_at c (f mid) mid

place_then : {Tok : Type 0} (g : List Tok → Ending (Stepped Tok)) (x : Ending (List Tok)) → and_then (λ mid. place (g mid)) x ≡ place (and_then g x)
place_then g (At mid) = refl
place_then g Nowhere = refl
place_then g Refused = refl

place_else : {Tok : Type 0} (r : Ending (Stepped Tok)) (y : Ending (List Tok)) → or_else (place r) y ≡ place (or_else r (overs y))
place_else (At s) y = refl
place_else Nowhere y = place_over y
place_else Refused y = refl

-- a round, or what follows the last item
round_or : {Tok : Type 0} (f : Ender Tok) (c : Bool) (x y : Ending (List Tok)) → or_else (and_then (stay_step f c) x) (overs y) ≡ one_or (and_then f x) (stay_or c x y)
round_or {Tok} f c (At mid) y = by_item c (f mid)
  where
    by_item : (c : Bool) (z : Ending (List Tok)) → or_else (stay_at c z mid) (overs y) ≡ one_or z (stay_or c (At mid) y)
    by_item true (At rest) = refl
    by_item true Nowhere = refl
    by_item true Refused = refl
    by_item false (At rest) = refl
    by_item false Nowhere = refl
    by_item false Refused = refl
round_or f true Nowhere y = refl
round_or f false Nowhere y = refl
round_or f c Refused y = refl

one_alone : {Tok : Type 0} (x : Ending (List Tok)) → x ≡ place (one_or x Nowhere)
one_alone (At rest) = refl
one_alone Nowhere = refl
one_alone Refused = refl

alone_value : {Tok V : Type 0} (P : V → Type 0) (k : ℕ) (x : Ending (List Tok)) (rest : List Tok) (n : Next ℕ V) → x ≡ At rest → IsMore P k n → IsStepped P (λ t. t ≡ suc k) (one_or x Nowhere) n
alone_value P k (At r) rest (More v t) e i = i
alone_value P k (At r) rest End e i = absurd i
alone_value P k Nowhere rest n e i = absurd (cc e)
alone_value P k Refused rest n e i = absurd (cc e)

led_value : {Tok V : Type 0} (value : List Tok → V → Type 0) (k : ℕ) (x : Ending (List Tok))
    (g : List Tok → Ending (Stepped Tok)) (mid : List Tok) (n : Next ℕ V)
    → x ≡ At mid → IsStepped (value mid) (λ t. t ≡ suc k) (g mid) n
    → IsStepped (λ v. Ends x (λ us. value us v)) (λ t. t ≡ suc k) (and_then g x) n
led_value value k x g mid n e i = rw e i

else_value : {Tok V : Type 0} (P : V → Type 0) (k : ℕ) (r : Ending (Stepped Tok)) (y : Ending (List Tok)) (rest : List Tok) (n : Next ℕ V)
    → or_else (place r) y ≡ At rest → ElseValue (place r) (IsStepped P (λ t. t ≡ suc k) r n) (IsEnd n)
    → IsStepped P (λ t. t ≡ suc k) (or_else r (overs y)) n
else_value P k (At s) y rest n e i = i
else_value P k Nowhere y rest n e i = over_value P k y rest n e i
else_value P k Refused y rest n e i = absurd i

module _ {Tok : Type 0} (fs : Ender Tok) (keeps : (ts rest : List Tok) → fs ts ≡ At rest → length rest ≤ length ts) where
  -- a separator that may be missing leaves no more than there is
  pub lead_keeps : (l : Bool) (k : ℕ) (ts rest : List Tok) → lead_at fs l k ts ≡ At rest → length rest ≤ length ts
  lead_keeps l (suc k) ts rest e = keeps ts rest e
  lead_keeps false zero ts rest e = let z : ts ≡ rest = cc e in let q : length ts ≡ length rest = ap length z in omega (arith, q)
  lead_keeps true zero ts rest e = by_separator (fs ts) refl e
    where
      by_separator : (x : Ending (List Tok)) → fs ts ≡ x → or_else x (At ts) ≡ At rest → length rest ≤ length ts
      by_separator (At r) d g = keeps ts rest (d ∙ g)
      by_separator Nowhere d g = let z : ts ≡ rest = cc g in let q : length ts ≡ length rest = ap length z in omega (arith, q)
      by_separator Refused d g = absurd (cc g)

module _ {Tok Cx St Mk Er U V : Type 0} (mark : St → Mk) (back : St → Mk → St) (safe : Type 0)
    (separator : Meaning Tok Cx St Er U) (item : Meaning Tok Cx St Er V) (fs f : Ender Tok)
    (vs : List Tok → U → Type 0) (value : List Tok → V → Type 0)
    (hs : Reads separator fs vs) (h : Reads item f value) (keeps : (ts rest : List Tok) → fs ts ≡ At rest → length rest ≤ length ts) (further : EndsFurther f) where
  abbrev Any : U → Type 0
  Any u = ⊤

  silent_here : (b : Beginning Tok Cx St) → Within b → Here Any (Asked false separator) (fs (drop b.start b.tokens.list)) b
  silent_here b w =
      let ts : List Tok = drop b.start b.tokens.list in
      weaker-here (vs ts) Any (λ u i. tt) (Asked false separator) (fs ts) b
      (asked-here (vs ts) b false separator (fs ts) (hs.here (record b { wanted = false }) (record { start = w.start; few = w.few })))

  nothing_here : (b : Beginning Tok Cx St) → Within b → Here Any {Er = Er} (Given None) (At (drop b.start b.tokens.list)) b
  nothing_here b w = given-here Er Any b w None tt

  -- a separator that may be missing
  perhaps_here : (b : Beginning Tok Cx St) → Within b → Here Any (Perhaps mark back safe separator) (or_else (fs (drop b.start b.tokens.list)) (At (drop b.start b.tokens.list))) b
  perhaps_here b w =
      let ts : List Tok = drop b.start b.tokens.list in
      weaker-here _ Any (λ u i. tt) (Perhaps mark back safe separator) (or_else (fs ts) (At ts)) b
      (or_else-here mark back safe (Asked false separator) (Given None) Any Any (fs ts) (At ts) b (silent_here b w)
      (λ s. nothing_here (record b { state = s }) (record { start = w.start; few = w.few })))

  lead_here : (l : Bool) (k : ℕ) (b : Beginning Tok Cx St) → Within b → Here Any (Lead mark back safe separator (nat_eq k 0) l) (lead_at fs l k (drop b.start b.tokens.list)) b
  lead_here l (suc k) b w = rw (later k) (silent_here b w)
  lead_here true zero b w = perhaps_here b w
  lead_here false zero b w = nothing_here b w

  -- an item, or where a separator may stand here the end
  staying_here : (c : Bool) (k start : ℕ) (asked : Bool) (b : Beginning Tok Cx St) → Within b → start ≤ b.start → k + length (drop b.start b.tokens.list) < 2 ^ 64
      → Here
      (IsStepped (value (drop b.start b.tokens.list)) (λ t. t ≡ suc k) (stay_step f c (drop b.start b.tokens.list)))
      (Staying mark back safe c (Counted asked k start item)) (place (stay_step f c (drop b.start b.tokens.list)))
      b
  staying_here true k start asked b w l q o m =
      let ts : List Tok = drop b.start b.tokens.list in
      one_or-here mark back safe (value ts) k (Counted asked k start item) (EndsUnlessFew false) (f ts) (At ts) b
      (counted-here item f value h further asked k start b w l q)
      (λ s. closes-here false (record b { state = s }) (record { start = w.start; few = w.few })) o m
  staying_here false k start asked b w l q o m =
      let ts : List Tok = drop b.start b.tokens.list in
      let R : Next ℕ V → Type 0 = IsStepped (value ts) (λ t. t ≡ suc k) (one_or (f ts) Nowhere) in
      let z : Answers R (f ts) b.tokens.list o.verdict o.end =
      ended-here (IsMore (value ts) k) R (Counted asked k start item) (f ts) b
      (λ n rest e i. alone_value (value ts) k (f ts) rest n e i)
      (counted-here item f value h further asked k start b w l q) o m in
      subst (λ x. Answers R x b.tokens.list o.verdict o.end) (one_alone (f ts)) z

  -- a separator where there has to be one, and then that
  round_here : (leading : Bool) (k : ℕ) (c asked : Bool) (b : Beginning Tok Cx St) → Within b → k + length (drop b.start b.tokens.list) < 2 ^ 64
      → Here
      (IsStepped (λ v. Ends (lead_at fs leading k (drop b.start b.tokens.list)) (λ mid. value mid v))
      (λ t. t ≡ suc k) (and_then (stay_step f c) (lead_at fs leading k (drop b.start b.tokens.list))))
      (Chained (Lead mark back safe separator (nat_eq k 0) leading) (λ _. Staying mark back safe c (Counted asked k b.start item)))
      (place (and_then (stay_step f c) (lead_at fs leading k (drop b.start b.tokens.list)))) b
  round_here leading k c asked b w q o m =
      let ts : List Tok = drop b.start b.tokens.list in
      let x : Ending (List Tok) = lead_at fs leading k ts in
      let R : Next ℕ V → Type 0 = IsStepped (λ v. Ends x (λ mid. value mid v)) (λ t. t ≡ suc k) (and_then (stay_step f c) x) in
      let next : Option U → Meaning Tok Cx St Er (Next ℕ V) = λ _. Staying mark back safe c (Counted asked k b.start item) in
      let z : Answers R (and_then (λ mid. place (stay_step f c mid)) x) b.tokens.list o.verdict o.end =
      chained-here Any R (Lead mark back safe separator (nat_eq k 0) leading)
      (SameText (Lead mark back safe separator (nat_eq k 0) leading) next b) x (λ mid. place (stay_step f c mid))
      b w (lead_here leading k b w)
      (λ v d y e i p n.
      let mid : List Tok = drop d.start d.tokens.list in
      let same : d.tokens ≡ b.tokens = n.1 in
      let less : length mid ≤ length ts = lead_keeps fs keeps leading k ts mid e in
      let less' : length (drop d.start b.tokens.list) ≤ length ts = subst (λ s. length (drop d.start s.list) ≤ length ts) same less in
      let dl : d.start ≤ length b.tokens.list = subst (λ s. d.start ≤ length s.list) same y.start in
      let l : b.start ≤ d.start = earlier_place b.tokens.list b.start d.start w.start dl less' in
      let q' : k + length mid < 2 ^ 64 = omega (arith, q, less) in
      weaker-here (IsStepped (value mid) (λ t. t ≡ suc k) (stay_step f c mid)) R
      (λ u j. led_value value k x (stay_step f c) mid u e j) (next v) (place (stay_step f c mid)) d
      (staying_here c k b.start asked d y l q') p n.0)
      o (same_text (Lead mark back safe separator (nat_eq k 0) leading) next b o m) in
      subst (λ s. Answers R s b.tokens.list o.verdict o.end) (place_then (stay_step f c) x) z

  ends_here : (t : Bool) (k : ℕ) (b : Beginning Tok Cx St) → Within b → Here (IsEnd {V = V}) (Last mark back safe separator (t && not (nat_eq k 0))) (full_at fs t k (drop b.start b.tokens.list)) b
  ends_here true zero b w = given-here Er IsEnd b w (Some End) tt
  ends_here false zero b w = given-here Er IsEnd b w (Some End) tt
  ends_here false (suc k) b w = given-here Er IsEnd b w (Some End) tt
  ends_here true (suc k) b w = rw (later k) (λ o m.
      let ts : List Tok = drop b.start b.tokens.list in
      let x : Ending (List Tok) = or_else (fs ts) (At ts) in
      let z : Answers (IsEnd {V = V}) (and_then (λ us. At us) x) b.tokens.list o.verdict o.end =
      chained-here Any IsEnd (Perhaps mark back safe separator) (λ _. Given (Some End)) x (λ us. At us) b w (perhaps_here b w) (λ v d y e i. given-here Er IsEnd d y (Some End) tt) o m in
      subst (λ s. Answers (IsEnd {V = V}) s b.tokens.list o.verdict o.end) (and_then_some x) z)

  last_here : (P : V → Type 0) (t : Bool) (k : ℕ) (b : Beginning Tok Cx St) → Within b
      → Here (IsStepped P (λ t. t ≡ suc k) (overs (full_at fs t k (drop b.start b.tokens.list))))
      (Last mark back safe separator (t && not (nat_eq k 0)))
      (place (overs (full_at fs t k (drop b.start b.tokens.list)))) b
  last_here P t k b w o m =
      let x : Ending (List Tok) = full_at fs t k (drop b.start b.tokens.list) in
      let R : Next ℕ V → Type 0 = IsStepped P (λ t. t ≡ suc k) (overs x) in
      let z : Answers R x b.tokens.list o.verdict o.end =
      ended-here IsEnd R (Last mark back safe separator (t && not (nat_eq k 0))) x b
      (λ n rest e i. over_value P k x rest n e i) (ends_here t k b w) o m in
      subst (λ s. Answers R s b.tokens.list o.verdict o.end) (place_over x) z

  same_stays : (d : Bounds) (k : ℕ) → stays d k ≡ (stands d.leading d.trailing k && nat_le d.least k)
  same_stays d zero = refl
  same_stays d (suc k) = rw (later k) refl

  -- a step below the cap
  below_here : (d : Bounds) (k : ℕ) (b : Beginning Tok Cx St) → Within b → k + length (drop b.start b.tokens.list) < 2 ^ 64
      → (next : Ending (Stepped Tok)) → next ≡ one_or (and_then f (lead_at fs d.leading k (drop b.start b.tokens.list))) (none_at fs d.leading d.trailing d.least k (drop b.start b.tokens.list))
      → Here
      (IsStepped (λ v. Ends (lead_at fs d.leading k (drop b.start b.tokens.list)) (λ mid. value mid v)) (λ t. t ≡ suc k) next)
      (Unfilled mark back safe separator item d false k b.start) (place next) b
  below_here d k b w q next e o m =
      let ts : List Tok = drop b.start b.tokens.list in
      let x : Ending (List Tok) = lead_at fs d.leading k ts in
      let P : V → Type 0 = λ v. Ends x (λ mid. value mid v) in
      let c : Bool = stays d k in
      let y : Ending (List Tok) = unless_few (nat_lt k d.least) ts in
      let r : Ending (Stepped Tok) = and_then (stay_step f c) x in
      let R : Ending (Stepped Tok) → Next ℕ V → Type 0 = IsStepped P (λ t. t ≡ suc k) in
      let z : Answers (R (or_else r (overs y))) (or_else (place r) y) b.tokens.list o.verdict o.end =
      ended-here _ (R (or_else r (overs y))) (Unfilled mark back safe separator item d false k b.start) (or_else (place r) y) b (λ n rest g i. else_value P k r y rest n g i)
      (or_else-here mark back safe (Round mark back safe separator item d k b.start) (EndsUnlessFew (nat_lt k d.least)) (R r) IsEnd (place r) y b
      (λ p n. round_here d.leading k c (asks_after (nat_eq k 0) d) b w q p n.run) (λ s. closes-here (nat_lt k d.least) (record b { state = s }) (record { start = w.start; few = w.few }))) o m in
      let g : or_else r (overs y) ≡ next = round_or f c x y ∙ ap (λ a. one_or (and_then f x) (stay_or a x y)) (same_stays d k) ∙ sym e in
      let u : Answers (R (or_else r (overs y))) (place (or_else r (overs y))) b.tokens.list o.verdict o.end =
      subst (λ s. Answers (R (or_else r (overs y))) s b.tokens.list o.verdict o.end) (place_else r y) z in
      subst (λ s. Answers (R s) (place s) b.tokens.list o.verdict o.end) g u

  step_here : (d : Bounds) (k : ℕ) (b : Beginning Tok Cx St) → Within b → k + length (drop b.start b.tokens.list) < 2 ^ 64 → (c : Bool)
      → (next : Ending (Stepped Tok))
      → next
      ≡ cond c (overs (full_at fs d.trailing k (drop b.start b.tokens.list)))
      (one_or (and_then f (lead_at fs d.leading k (drop b.start b.tokens.list)))
      (none_at fs d.leading d.trailing d.least k (drop b.start b.tokens.list)))
      → Here
      (IsStepped (λ v. Ends (lead_at fs d.leading k (drop b.start b.tokens.list)) (λ mid. value mid v)) (λ t. t ≡ suc k) next)
      (Unfilled mark back safe separator item d c k b.start) (place next) b
  step_here d k b w q true next e = rw e (last_here (λ v. Ends (lead_at fs d.leading k (drop b.start b.tokens.list)) (λ mid. value mid v)) d.trailing k b w)
  step_here d k b w q false next e = below_here d k b w q next e

  -- a step of `separated_by`
  pub separates-here : (d : Bounds) (k s : ℕ) → s ≡ k → (b : Beginning Tok Cx St) → Within b → k + length (drop b.start b.tokens.list) < 2 ^ 64
      → Here
      (IsStepped (λ v. Ends (lead_at fs d.leading k (drop b.start b.tokens.list)) (λ mid. value mid v))
      (λ t. t ≡ suc k)
      (separated_next f fs d.leading d.trailing d.least d.most k (drop b.start b.tokens.list)))
      (Separates mark back safe separator item d s) (place (separated_next f fs d.leading d.trailing d.least d.most k (drop b.start b.tokens.list))) b
  separates-here d k s e b w q = rw e (λ o m. step_here d k b w q (at_cap d.most k) (separated_next f fs d.leading d.trailing d.least d.most k (drop b.start b.tokens.list)) refl o m.step)
