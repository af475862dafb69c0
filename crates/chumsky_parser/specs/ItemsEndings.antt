-- Where a run over items ends, and what it may make of them, by where its steps end.
-- Main law: items-here. Read first: ItemsLanguage.antt, EndingLaws.antt.
use Rattle.std.proofs.Common.{◌≡◌, ℕ, zero, suc, ◌+◌, ◌-◌, ◌^◌, ◌≤◌, ◌<◌, true, Option, Some, None, List, length, drop, refl, sym, ◌∙◌, ap, subst, arith}
use Rattle.std.proofs.lemmas.List.{length-drop}
use Rattle.chumsky_input.specs.Outcome.{Meaning, Beginning, Outcome}
use Rattle.chumsky_parser.specs.Chained.{Chained, Asked}
use Rattle.chumsky_parser.specs.Failure.{wanting}
use Rattle.chumsky_parser.specs.Items.{Next, More, End, AfterStep, FromMade, Items}
use Rattle.chumsky_parser.specs.Steps.{AllSteps, unlisted}
use Rattle.chumsky_parser.specs.Ending.{Ending, At, Nowhere, Refused, Within, IfValue, Answers, Here, Reads, and_then}
use Rattle.chumsky_parser.specs.EndingLaws.{chained-here, asked-here, wanting_value}
use Rattle.chumsky_parser.specs.ItemsLanguage.{Stepped, One, Over, place, IsStepped, stepped_on, list_until, list_ends}

-- what follows a step goes on from an item, and else stays
abbrev going : {Tok : Type 0} → (List Tok → Ending (List Tok)) → Ending (Stepped Tok) → List Tok → Ending (List Tok)
going more (At (One rest)) ts = more ts
going more (At (Over rest)) ts = At ts
going more Nowhere ts = Nowhere
going more Refused ts = Refused

and_going : {Tok : Type 0} (more : List Tok → Ending (List Tok)) (t : Ending (Stepped Tok)) → and_then (going more t) (place t) ≡ stepped_on more t
and_going more (At (One rest)) = refl
and_going more (At (Over rest)) = refl
and_going more Nowhere = refl
and_going more Refused = refl

module _ {Tok Cx St Er S V X W : Type 0} (step : S → Meaning Tok Cx St Er (Next S V)) (more : Option X → Option V → Meaning Tok Cx St Er X) (ended : Option X → Meaning Tok Cx St Er W)
    (has_given : S → ℕ → Type 0) (next : ℕ → List Tok → Ending (Stepped Tok)) (value : ℕ → List Tok → V → Type 0)
    (further : (k : ℕ) (ts rest : List Tok) → next k ts ≡ At (One rest) → length rest < length ts)
    (steps : (k : ℕ) (s : S) → has_given s k → (b : Beginning Tok Cx St) → Within b → k + length (drop b.start b.tokens.list) < 2 ^ 64
    → Here (IsStepped (value k (drop b.start b.tokens.list)) (λ t. has_given t (suc k)) (next k (drop b.start b.tokens.list))) (step s) (place (next k (drop b.start b.tokens.list))) b)
    (made : ℕ → List Tok → X → Type 0) (Q : W → Type 0)
    (mores : (k : ℕ) (ts rest : List Tok) → next k ts ≡ At (One rest) → (x : Option X) (v : Option V) → IfValue (made k ts) x → IfValue (value k ts) v
    → (c : Beginning Tok Cx St) → Within c → Here (made (suc k) rest) (more x v) (At (drop c.start c.tokens.list)) c)
    (ends : (k : ℕ) (ts rest : List Tok) → next k ts ≡ At (Over rest) → (x : Option X) → IfValue (made k ts) x
    → (c : Beginning Tok Cx St) → Within c → Here Q (ended x) (At (drop c.start c.tokens.list)) c)
  where
    -- a step, where it is known what follows an item
    step_here : (k : ℕ) (s : S) → has_given s k → (x : Option X) (b : Beginning Tok Cx St) → Within b
        → IfValue (made k (drop b.start b.tokens.list)) x → k + length (drop b.start b.tokens.list) < 2 ^ 64
        → (on : Option V → S → Meaning Tok Cx St Er W) (goes : List Tok → Ending (List Tok))
        →
        ((rest : List Tok) → next k (drop b.start b.tokens.list) ≡ At (One rest) → (v : Option V) (t : S)
        → IfValue (value k (drop b.start b.tokens.list)) v → has_given t (suc k) → (c : Beginning Tok Cx St)
        → Within c → rest ≡ drop c.start c.tokens.list → Here Q (on v t) (goes (drop c.start c.tokens.list)) c)
        → Here Q (Chained (step s) (AfterStep on (ended x))) (stepped_on goes (next k (drop b.start b.tokens.list))) b
    step_here k s g x b w i l on goes one o m =
        let ts : List Tok = drop b.start b.tokens.list in
        let z : Answers Q (and_then (going goes (next k ts)) (place (next k ts))) b.tokens.list o.verdict o.end =
        chained-here (IsStepped (value k ts) (λ t. has_given t (suc k)) (next k ts)) Q (step s) (AfterStep on (ended x)) (place (next k ts)) (going goes (next k ts)) b w (steps k s g b w l)
        (λ v c y e j. follow ts (next k ts) refl one i v c y e j) o m in
        subst (λ q. Answers Q q b.tokens.list o.verdict o.end) (and_going goes (next k ts)) z
      where
        follow : (ts : List Tok) (t : Ending (Stepped Tok)) → next k ts ≡ t
            →
            ((rest : List Tok) → next k ts ≡ At (One rest) → (v : Option V) (t : S) → IfValue (value k ts) v
            → has_given t (suc k) → (c : Beginning Tok Cx St) → Within c → rest ≡ drop c.start c.tokens.list
            → Here Q (on v t) (goes (drop c.start c.tokens.list)) c)
            → IfValue (made k ts) x → (v : Option (Next S V)) (c : Beginning Tok Cx St) → Within c
            → place t ≡ At (drop c.start c.tokens.list)
            → IfValue (IsStepped (value k ts) (λ t. has_given t (suc k)) t) v
            → Here Q (AfterStep on (ended x) v) (going goes t (drop c.start c.tokens.list)) c
        follow ts (At (One rest)) d one i (Some (More v t)) c y e j = one rest d v t j.0 j.1 c y (cc e)
        follow ts (At (One rest)) d one i (Some End) c y e j = absurd j
        follow ts (At (Over rest)) d one i (Some (More v t)) c y e j = absurd j
        follow ts (At (Over rest)) d one i (Some End) c y e j = ends k ts rest d x i c y
        follow ts Nowhere d one i (Some n) c y e j = absurd j
        follow ts Refused d one i (Some n) c y e j = absurd j
        follow ts t d one i None c y e j = λ o m. absurd m

    -- all steps, from so many items on, with what was made of them
    abbrev AllRead : ℕ → ℕ → Type 0
    AllRead n room =
        (k : ℕ) (s : S) → has_given s k → (x : Option X) (b : Beginning Tok Cx St) → Within b
        → IfValue (made k (drop b.start b.tokens.list)) x → k + length (drop b.start b.tokens.list) < 2 ^ 64
        → length (drop b.start b.tokens.list) ≤ n → length (drop b.start b.tokens.list) ≤ room → Here Q (AllSteps step more ended room x s) (list_until next n k (drop b.start b.tokens.list)) b

    none_left : (k : ℕ) (ts rest : List Tok) (P : Type 0) → next k ts ≡ At (One rest) → length ts ≤ 0 → P
    none_left k ts rest P e l = let h : length rest < length ts = further k ts rest e in absurd (omega (arith, h, l))

    all_steps : (n room : ℕ) → AllRead n room
    all_steps zero zero k s g x b w i l m r = step_here k s g x b w i l _ _ (λ rest e v t j h c y d. none_left k _ rest _ e m)
    all_steps zero (suc room) k s g x b w i l m r = step_here k s g x b w i l _ _ (λ rest e v t j h c y d. none_left k _ rest _ e m)
    all_steps (suc n) zero k s g x b w i l m r = step_here k s g x b w i l _ _ (λ rest e v t j h c y d. none_left k _ rest _ e r)
    all_steps (suc n) (suc room) k s g x b w i l m r =
        step_here k s g x b w i l _ _ (λ rest e v t j h c y d.
        let p : length rest < length (drop b.start b.tokens.list) = further k (drop b.start b.tokens.list) rest e in
        chained-here (made (suc k) rest) Q (more x v) (λ a. AllSteps step more ended room a t) (At (drop c.start c.tokens.list)) (list_until next n (suc k)) c y
        (mores k (drop b.start b.tokens.list) rest e x v i j c y)
        (λ a f z q u.
        let same : rest ≡ drop f.start f.tokens.list = d ∙ cc q in
        let len : length rest ≡ length (drop f.start f.tokens.list) = ap length same in
        all_steps n room (suc k) t h a f z (subst (λ us. IfValue (made (suc k) us) a) same u) (omega (arith, l, p, len)) (omega (arith, m, p, len)) (omega (arith, r, p, len))))

    -- a run over items, from here
    pub items-here : (begins : Meaning Tok Cx St Er S) → Reads begins (λ ts. At ts) (λ ts s. has_given s 0)
        → (first : X) (b : Beginning Tok Cx St) → Within b → made 0 (drop b.start b.tokens.list) first
        → Here Q (Items step more ended begins first) (list_ends next (drop b.start b.tokens.list)) b
    items-here begins h first b w i o m =
        chained-here (λ s. has_given s 0) Q (Asked true begins) (FromMade step more ended m.room (wanting b.wanted first)) (At (drop b.start b.tokens.list)) (list_ends next) b w
        (asked-here (λ s. has_given s 0) b true begins (At (drop b.start b.tokens.list)) (h.here (record b { wanted = true }) (record { start = w.start; few = w.few })))
        (λ s c y e g. from_made m.room m.full s c y e g) o m.run
      where
        from_made : (room : ℕ) → room + 1 ≡ 2 ^ 64 → (s : Option S) (c : Beginning Tok Cx St) → Within c
            → At (drop b.start b.tokens.list) ≡ At (drop c.start c.tokens.list) → IfValue (λ s. has_given s 0) s
            → Here Q (FromMade step more ended room (wanting b.wanted first) s) (list_ends next (drop c.start c.tokens.list)) c
        from_made room full None c y e g = λ o m. absurd m
        from_made room full (Some s) c y e g = λ o m.
            let same : drop b.start b.tokens.list ≡ drop c.start c.tokens.list = cc e in
            let ln : length (drop c.start c.tokens.list) ≡ length c.tokens.list - c.start = length-drop c.start c.tokens.list in
            let few : length c.tokens.list < 2 ^ 64 = y.few in
            let i' : IfValue (made 0 (drop c.start c.tokens.list)) (wanting b.wanted first) =
            subst (λ us. IfValue (made 0 us) (wanting b.wanted first)) same
            (wanting_value (made 0 (drop b.start b.tokens.list)) first i b.wanted) in
            all_steps (length (drop c.start c.tokens.list)) room 0 s g (wanting b.wanted first) c y i'
            (omega (arith, ln, few)) (omega arith) (omega (arith, ln, few, full)) o
            (unlisted step more ended room (wanting b.wanted first) s c o m)
