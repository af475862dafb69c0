-- Where parts end that run one after another, and with which values.
-- Main laws: chained-here, chained-on, given-here, asked-here, weaker-here, refuses-by, misses-by, copy-by, then-by, ignore_then-by, then_ignore-by. Read first: Ending.antt, Words.antt.
use Rattle.std.proofs.Common.{◌≡◌, ℕ, Bool, true, false, Option, Some, None, List, drop, refl, subst, ◌⊎◌, inl, inr}
use Rattle.std.specs.Prelude.{option_map}
use Rattle.chumsky_input.specs.declared.stop.Stop.TheVariants.{Memory}
use Rattle.chumsky_input.specs.Outcome.{Event, Meaning, Beginning, Outcome, Verdict, Yes, No, Halt, Clash}
use Rattle.chumsky_parser.specs.Chained.{Chained, Given, Asked, Sequence, Follows, from, both}
use Rattle.chumsky_parser.specs.Copied.{GivesCopy}
use Rattle.chumsky_parser.specs.Failure.{IsWanted, wanting, Refuses, Misses}
use Rattle.chumsky_parser.specs.Ignoring.{Gives, IgnoringFirst, IgnoringSecond}
use Rattle.chumsky_parser.specs.Ending.{Ending, At, Nowhere, Refused, Ender, and_then, Ends, Within, IfValue, Answers, Here, Reads}
use Rattle.chumsky_parser.specs.Words.{then_ends}

-- with nothing after it
pub and_then_some : {X : Type 0} (x : Ending X) → and_then (λ y. At y) x ≡ x
and_then_some (At y) = refl
and_then_some Nowhere = refl
and_then_some Refused = refl

pub ends_there : {X : Type 0} (x : Ending X) (y : X) (P : X → Type 0) → x ≡ At y → P y → Ends x P
ends_there x y P e p = rw e p

module _ {V : Type 0} (P Q : V → Type 0) (f : (u : V) → P u → Q u) where
  value_weaker : (v : Option V) → IfValue P v → IfValue Q v
  value_weaker (Some v) i = f v i
  value_weaker None i = tt

  pub answers_weaker : {Tok Er : Type 0} (x : Ending (List Tok)) (ts : List Tok) (v : Verdict V Er) (end : ℕ) → Answers P x ts v end → Answers Q x ts v end
  answers_weaker x ts (Yes v) end y = (y.0, value_weaker v y.1, y.2)
  answers_weaker x ts No end y = y
  answers_weaker x ts (Halt s) end y = y
  answers_weaker x ts (Clash c) end y = y

  pub weaker-here : {Tok Cx St Er : Type 0} (m : Meaning Tok Cx St Er V) (x : Ending (List Tok)) (b : Beginning Tok Cx St) → Here P m x b → Here Q m x b
  weaker-here m x b h o y = answers_weaker x b.tokens.list o.verdict o.end (h o y)

module _ {Tok St Er V : Type 0} (P : V → Type 0) (x : Ending (List Tok)) (ts : List Tok) (o : Outcome V Er St) where
  -- a refusal for memory, whatever is read
  pub refuses-by : {may : Type 0} {s : St} → Refuses may s o → Answers P x ts o.verdict o.end
  refuses-by r = rw r.1 (inl refl)

  -- a failure, or a refusal for memory for its error, where this fails
  pub misses-by : {safe : Type 0} {e : Event Er} {end : ℕ} {s : St} → x ≡ Nowhere → Misses safe e end s o → Answers P x ts o.verdict o.end
  misses-by n (inl r) = refuses-by r
  misses-by n (inr f) = elim f.by [ inl h ↦ rw h.0 n | inr h ↦ rw h.0 tt ]

-- a value, where one is wanted
pub wanted_value : {V : Type 0} (P : V → Type 0) (c : Bool) (v : Option V) → IsWanted P c v → IfValue P v
wanted_value P true (Some v) i = i
wanted_value P true None i = absurd i
wanted_value P false (Some v) i = absurd i
wanted_value P false None i = tt

module _ {Tok Cx St Er V W : Type 0} (P : V → Type 0) (Q : W → Type 0) (part : Meaning Tok Cx St Er V) (next : Option V → Meaning Tok Cx St Er W) (x : Ending (List Tok)) (g : Ender Tok) where
  -- what follows a value, from where its part ended
  abbrev pub FollowsHere : Beginning Tok Cx St → Type 0
  FollowsHere b = (v : Option V) (c : Beginning Tok Cx St) → Within c → x ≡ At (drop c.start c.tokens.list) → IfValue P v → Here Q (next v) (g (drop c.start c.tokens.list)) c

  -- the same, where the tokens are known to be the same
  abbrev pub FollowsOn : Beginning Tok Cx St → Type 0
  FollowsOn b = (v : Option V) (c : Beginning Tok Cx St) → Within c → c.tokens ≡ b.tokens → x ≡ At (drop c.start c.tokens.list) → IfValue P v → Here Q (next v) (g (drop c.start c.tokens.list)) c

  chained_by : (b : Beginning Tok Cx St) → Within b → Here P part x b → FollowsOn b → (o : Outcome W Er St) (p : Outcome V Er St) (u : Verdict V Er) → p.verdict ≡ u → part b p → Follows u next b p o
      → Answers Q (and_then g x) b.tokens.list o.verdict o.end
  chained_by b w h k o p (Yes v) e m f =
      let y : Answers P {Er = Er} x b.tokens.list (Yes v) p.end = subst (λ u. Answers P {Er = Er} x b.tokens.list u p.end) e (h p m) in
      let z : Answers Q (g (drop p.end b.tokens.list)) b.tokens.list f.0.verdict f.0.end = k v (from b p) (record { start = y.2; few = w.few }) refl y.0 y.1 f.0 f.1 in
      rw (f.2, y.0) z
  chained_by b w h k o p No e m f =
      let y : x ≡ Nowhere = subst (λ u. Answers P {Er = Er} x b.tokens.list u p.end) e (h p m) in
      rw (f, y) refl
  chained_by b w h k o p (Halt s) e m f =
      let y : (s ≡ Memory) ⊎ (x ≡ Refused) = subst (λ u. Answers P {Er = Er} x b.tokens.list u p.end) e (h p m) in
      let z : (s ≡ Memory) ⊎ (and_then g x ≡ Refused) = elim y [ inl q ↦ inl q | inr q ↦ inr (rw q refl) ] in
      rw f z
  chained_by b w h k o p (Clash c) e m f = rw f tt

  -- a part, and then what follows its value, of the same tokens
  pub chained-on : (b : Beginning Tok Cx St) → Within b → Here P part x b → FollowsOn b → Here Q (Chained part next) (and_then g x) b
  chained-on b w h k o m = chained_by b w h k o m.first m.first.verdict refl m.meant m.follows

  -- a part, and then what follows its value
  pub chained-here : (b : Beginning Tok Cx St) → Within b → Here P part x b → FollowsHere b → Here Q (Chained part next) (and_then g x) b
  chained-here b w h k = chained-on b w h (λ v c y t e i. k v c y e i)

pub given-here : {Tok Cx St V : Type 0} (Er : Type 0) (P : V → Type 0) (b : Beginning Tok Cx St) → Within b → (v : Option V) → IfValue P v
    → Here P {Er = Er} (Given {Tok = Tok} {Cx = Cx} {St = St} {Er = Er} v) (At (drop b.start b.tokens.list)) b
given-here Er P b w v i o m = rw m (refl, i, w.start)

module _ {Tok Cx St Er V : Type 0} (P : V → Type 0) where
  pub asked-here : (b : Beginning Tok Cx St) (wanted : Bool) (part : Meaning Tok Cx St Er V) (x : Ending (List Tok)) → Here P part x (record b { wanted = wanted }) → Here P (Asked wanted part) x b
  asked-here b wanted part x h o m = h o m.run

both_values : {V W : Type 0} (P : V → Type 0) (Q : W → Type 0) (R : V × W → Type 0) → ((v : V) (w : W) → P v → Q w → R (v, w)) → (v : Option V) (w : Option W) → IfValue P v → IfValue Q w
    → IfValue R (both v w)
both_values P Q R f (Some v) (Some w) i j = f v w i j
both_values P Q R f (Some v) None i j = tt
both_values P Q R f None w i j = tt

module _ {Tok Cx St Er V : Type 0} (m : Meaning Tok Cx St Er V) (f : Ender Tok) (va : List Tok → V → Type 0) (h : Reads m f va) where
  -- where it ends, said otherwise
  pub same_ends-by : (g : Ender Tok) → ((ts : List Tok) → f ts ≡ g ts) → Reads m g va
  same_ends-by g e = record { here = λ b w o x. let ts : List Tok = drop b.start b.tokens.list in subst (λ y. Answers (va ts) y b.tokens.list o.verdict o.end) (e ts) (h.here b w o x) }

  pub weaker-by : (vb : List Tok → V → Type 0) → ((ts : List Tok) (v : V) → va ts v → vb ts v) → Reads m f vb
  weaker-by vb k = record { here = λ b w o x. let ts : List Tok = drop b.start b.tokens.list in answers_weaker (va ts) (vb ts) (k ts) (f ts) b.tokens.list o.verdict o.end (h.here b w o x) }

  -- run for its value, or without
  pub asked-by : (wanted : Bool) → Reads (Asked wanted m) f va
  asked-by wanted =
      record {
        here = λ b w. let ts : List Tok = drop b.start b.tokens.list in asked-here (va ts) b wanted m (f ts)
            (h.here (record b { wanted = wanted }) (record { start = w.start; few = w.few }));
      }

pub wanting_value : {V : Type 0} (P : V → Type 0) (v : V) → P v → (c : Bool) → IfValue P (wanting c v)
wanting_value P v i true = i
wanting_value P v i false = tt

-- a value that is given, whatever is left
module _ {Tok Cx St V : Type 0} (Er : Type 0) (P : V → Type 0) where
  pub given-by : (v : Option V) → IfValue P v → Reads (Given {Tok = Tok} {Cx = Cx} {St = St} {Er = Er} v) (λ ts. At ts) (λ ts. P)
  given-by v i = record { here = λ b w. given-here Er P b w v i }

  pub gives-by : (v : V) → P v → Reads (Gives {Tok = Tok} {Cx = Cx} {St = St} {Er = Er} v) (λ ts. At ts) (λ ts. P)
  gives-by v i = record { here = λ b w o m. given-here Er P b w (wanting b.wanted v) (wanting_value P v i b.wanted) o m.given }

-- a copy of a value, whatever is left
pub copy-by : {Tok Cx St V : Type 0} (Er : Type 0) (copies : V → Type 0) (safe : Type 0) → Reads (GivesCopy {Tok = Tok} {Cx = Cx} {St = St} {Er = Er} copies safe) (λ ts. At ts) (λ ts. copies)
copy-by Er copies safe = record {
  here = λ b w o m.
      let ts = drop b.start b.tokens.list in
      elim m.cases [
        | inl r ↦ refuses-by copies (At ts) b.tokens.list o r
        | inr c ↦ given-here Er copies b w c.value (wanted_value copies b.wanted c.value c.is_value) o c.given
      ];
}

module _ {Tok Cx St Er V W : Type 0} (part : Meaning Tok Cx St Er V) (next : Meaning Tok Cx St Er W) (f g : Ender Tok)
    (va : List Tok → V → Type 0) (vb : List Tok → W → Type 0) (h : Reads part f va) (k : Reads next g vb) where
  -- `first.then(second)`
  pub then-by : Reads (Sequence part next) (then_ends f g) (λ ts v. va ts v.0 × Ends (f ts) (λ rest. vb rest v.1))
  then-by = record {
    here = λ b w.
        let ts : List Tok = drop b.start b.tokens.list in
        let R : V × W → Type 0 = λ v. va ts v.0 × Ends (f ts) (λ rest. vb rest v.1) in
        chained-here (va ts) R part _ (f ts) g b w (h.here b w)
        (λ v c y e i o m.
        let rest : List Tok = drop c.start c.tokens.list in
        let z : Answers R (and_then (λ us. At us) (g rest)) c.tokens.list o.verdict o.end =
        chained-here (vb rest) R next (λ u. Given (both v u)) (g rest) (λ us. At us) c y (k.here c y)
        (λ u d x e' j. given-here Er R d x (both v u) (both_values (va ts) (vb rest) R (λ p q i' j'. (i', ends_there (f ts) rest (λ r. vb r q) e j')) v u i j)) o m in
        subst (λ q. Answers R q c.tokens.list o.verdict o.end) (and_then_some (g rest)) z);
  }

  -- `first.ignore_then(second)`
  pub ignore_then-by : Reads (IgnoringFirst part next) (then_ends f g) (λ ts v. Ends (f ts) (λ rest. vb rest v))
  ignore_then-by = record {
    here = λ b w.
        let ts : List Tok = drop b.start b.tokens.list in
        let R : W → Type 0 = λ v. Ends (f ts) (λ rest. vb rest v) in
        chained-here (va ts) R (Asked false part) _ (f ts) g b w (asked-here (va ts) b false part (f ts) (h.here (record b { wanted = false }) (record { start = w.start; few = w.few })))
        (λ v c y e i.
        let rest : List Tok = drop c.start c.tokens.list in
        weaker-here (vb rest) R (λ u j. ends_there (f ts) rest (λ r. vb r u) e j) next (g rest) c (k.here c y));
  }

  -- `first.then_ignore(second)`
  pub then_ignore-by : Reads (IgnoringSecond part next) (then_ends f g) va
  then_ignore-by = record {
    here = λ b w.
        let ts : List Tok = drop b.start b.tokens.list in
        chained-here (va ts) (va ts) part _ (f ts) g b w (h.here b w)
        (λ v c y e i o m.
        let rest : List Tok = drop c.start c.tokens.list in
        let z : Answers (va ts) (and_then (λ us. At us) (g rest)) c.tokens.list o.verdict o.end =
        chained-here (vb rest) (va ts) (Asked false next) (λ u. Given v) (g rest) (λ us. At us) c y
        (asked-here (vb rest) c false next (g rest) (k.here (record c { wanted = false }) (record { start = y.start; few = y.few })))
        (λ u d x e' j. given-here Er (va ts) d x v i) o m in
        subst (λ q. Answers (va ts) q c.tokens.list o.verdict o.end) (and_then_some (g rest)) z);
  }

  -- the second with its own value, where both run as the whole is asked
  pub second-by : Reads (Chained part (λ _. next)) (then_ends f g) (λ ts v. Ends (f ts) (λ rest. vb rest v))
  second-by = record {
    here = λ b w.
        let ts : List Tok = drop b.start b.tokens.list in
        let R : W → Type 0 = λ v. Ends (f ts) (λ rest. vb rest v) in
        chained-here (va ts) R part (λ _. next) (f ts) g b w (h.here b w)
        (λ v c y e i.
        let rest : List Tok = drop c.start c.tokens.list in
        weaker-here (vb rest) R (λ u j. ends_there (f ts) rest (λ r. vb r u) e j) next (g rest) c (k.here c y));
  }

module _ {Tok Cx St Er V W : Type 0} (part : Meaning Tok Cx St Er V) (f : Ender Tok) (va : List Tok → V → Type 0) (h : Reads part f va) where
  -- another value, made of the value
  pub regrouped-by : (g : V → W) (R : List Tok → W → Type 0) → ((ts : List Tok) (v : V) → va ts v → R ts (g v)) → Reads (Chained part (λ v. Given (option_map g v))) f R
  regrouped-by g R k = record {
    here = λ b w o m.
        let ts : List Tok = drop b.start b.tokens.list in
        let z : Answers (R ts) (and_then (λ us. At us) (f ts)) b.tokens.list o.verdict o.end =
        chained-here (va ts) (R ts) part (λ v. Given (option_map g v)) (f ts) (λ us. At us) b w (h.here b w) (λ v c y e i. given-here Er (R ts) c y (option_map g v) (each_value ts v i)) o m in
        subst (λ q. Answers (R ts) q b.tokens.list o.verdict o.end) (and_then_some (f ts)) z;
  }
    where
      each_value : (ts : List Tok) (v : Option V) → IfValue (va ts) v → IfValue (R ts) (option_map g v)
      each_value ts (Some v) i = k ts v i
      each_value ts None i = tt

ends_any : {X : Type 0} (x : Ending X) (Q : Type 0) → Ends x (λ rest. Q) → Q
ends_any (At r) Q i = i
ends_any Nowhere Q i = absurd i
ends_any Refused Q i = absurd i

-- a value that is given after a part
pub then_given-by : {Tok Cx St Er V W : Type 0} (m : Meaning Tok Cx St Er V) (n : Meaning Tok Cx St Er W) (f : Ender Tok) (va : List Tok → V → Type 0) (P : W → Type 0) → Reads m f va
    → Reads n (λ ts. At ts) (λ ts. P)
    → Reads (IgnoringFirst m n) f (λ ts. P)
then_given-by {Tok = Tok} {W = W} m n f va P h k =
    let R : List Tok → W → Type 0 = λ ts v. Ends (f ts) (λ rest. P v) in
    weaker-by _ f R (same_ends-by _ (then_ends f (λ ts. At ts)) R (ignore_then-by m n f (λ ts. At ts) va (λ ts. P) h k) f (λ ts. and_then_some (f ts))) (λ ts. P) (λ ts v i. ends_any (f ts) (P v) i)
