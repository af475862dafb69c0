-- Which bytes a number, a length and a head are read from.
-- Main laws: number-by_word, length-by_word, head-by_word; number-sound, number-complete, length-sound, head-sound, head-complete. Read first: QueryPicks.antt.
use Rattle.std.proofs.Common.{◌≡◌, ℕ, ◌+◌, ◌*◌, ◌/◌, ◌%◌, ◌≤◌, ◌<◌, nat_lt, ◌&&◌, Bool, true, false, cond, Option, Some, None, List, [], ◌∷◌, ◌++◌, refl, sym, ◌∙◌, ap, subst, arith}
use Rattle.std.proofs.lemmas.Bool.Decides.{nat_tests}
use Rattle.std.proofs.Math.Nat.{div-add-mod}
use Rattle.std.specs.Prelude.{⊤}
use Rattle.chumsky_parser.specs.Words.{Joined, IsOne}
use Rattle.chumsky_judge.specs.Picked.{IsPick}
use Rattle.examples.specs.declared.query.Head.{Head}
use Rattle.examples.specs.Query.{number_bytes, head_bytes}
use Rattle.examples.specs.QueryPicks.{number_of, length_of, label_length, head_of, packet_head}

-- any byte, and one with a value
abbrev pub Byte : List ℕ → Type 0
Byte = IsOne (λ t. true) (λ t. ⊤)

abbrev pub ByteOf : ℕ → List ℕ → Type 0
ByteOf v = IsOne (λ t. true) (λ t. v ≡ t)

-- two bytes, of which a number is picked
abbrev pub NumberWord : List ℕ → Type 0
NumberWord w = Joined Byte Byte w × IsPick (number_of w)

abbrev pub NumberOf : ℕ → List ℕ → Type 0
NumberOf n w = Joined Byte Byte w × (number_of w ≡ Some n)

pub byte : (t : ℕ) → Byte (t ∷ [])
byte t = record { token = t; all = refl; passes = refl; is = tt }

low_byte : (high low : ℕ) → low < 256 → number_of (high ∷ low ∷ []) ≡ Some (high * 256 + low)
low_byte high low l = let e : nat_lt low 256 ≡ true = grind (arith, nat_tests) in rw e refl

-- what is made of two bytes is what their word decides
pub number-by_word : (w : List ℕ) (v : ℕ × ℕ) (x : Option ℕ) → Joined (ByteOf v.0) (ByteOf v.1) w → (v.1 < 256) × (x ≡ Some (v.0 * 256 + v.1)) → x ≡ number_of w
number-by_word w v x j g =
    let a : w ≡ v.0 ∷ v.1 ∷ [] = cc (j.all, j.is_first.all, j.is_first.is, j.is_second.all, j.is_second.is) in
    g.1 ∙ sym (low_byte v.0 v.1 g.0) ∙ ap number_of (sym a)

-- the bytes that a number is read from are its own
pub number-sound : (w : List ℕ) (n : ℕ) → NumberOf n w → w ≡ number_bytes n
number-sound w n i =
    let j = i.0 in
    let h : ℕ = j.is_first.token in
    let l : ℕ = j.is_second.token in
    let a : w ≡ h ∷ l ∷ [] = cc (j.all, j.is_first.all, j.is_second.all) in
    by_low h l a (nat_lt l 256) refl (subst (λ z. number_of z ≡ Some n) a i.1)
  where
    by_low : (h l : ℕ) → w ≡ h ∷ l ∷ [] → (c : Bool) → nat_lt l 256 ≡ c → cond c (Some (h * 256 + l)) None ≡ Some n → w ≡ number_bytes n
    by_low h l a true c e =
        let s : l < 256 = grind (arith, nat_tests) in
        let m : h * 256 + l ≡ n = cc e in
        let d : 256 * (n / 256) + n % 256 ≡ n = div-add-mod n 256 in
        let r : n % 256 < 256 = omega arith in
        let high : h ≡ n / 256 = omega (arith, s, m, d, r) in
        let low : l ≡ n % 256 = omega (arith, s, m, d, r) in
        cc (a, high, low)
    by_low h l a false c e = absurd (cc e)

-- and of those it is read
pub number-read : (n : ℕ) → number_of (number_bytes n) ≡ Some n
number-read n =
    let d : 256 * (n / 256) + n % 256 ≡ n = div-add-mod n 256 in
    let r : n % 256 < 256 = omega arith in
    let m : n / 256 * 256 + n % 256 ≡ n = omega (arith, d) in
    low_byte (n / 256) (n % 256) r ∙ ap (λ z. Some z) m

two : (n : ℕ) → Joined Byte Byte (number_bytes n)
two n = record { first = n / 256 ∷ []; second = n % 256 ∷ []; all = refl; is_first = byte (n / 256); is_second = byte (n % 256) }

pub number-complete : (n : ℕ) → NumberWord (number_bytes n)
number-complete n = (two n, subst IsPick (sym (number-read n)) tt)

-- a length is that of its byte
pub length-by_word : (w : List ℕ) (v : ℕ) (x : Option ℕ) → ByteOf v w → x ≡ length_of v → x ≡ label_length w
length-by_word w v x j g = let a : w ≡ v ∷ [] = cc (j.all, j.is) in g ∙ ap label_length (sym a)

pub length-sound : (w : List ℕ) (n : ℕ) → Byte w → label_length w ≡ Some n → (w ≡ n ∷ []) × (1 ≤ n) × (n ≤ 63)
length-sound w n j e = by_bounds (nat_lt 0 j.token) (nat_lt j.token 64) refl refl (subst (λ z. label_length z ≡ Some n) j.all e)
  where
    by_bounds : (a b : Bool) → nat_lt 0 j.token ≡ a → nat_lt j.token 64 ≡ b → cond (a && b) (Some j.token) None ≡ Some n → (w ≡ n ∷ []) × (1 ≤ n) × (n ≤ 63)
    by_bounds true true p q d =
        let s : j.token ≡ n = cc d in
        let f : 0 < j.token = grind (arith, nat_tests) in
        let t : j.token < 64 = grind (arith, nat_tests) in
        (cc (j.all, s), omega (arith, s, f), omega (arith, s, t))
    by_bounds true false p q d = absurd (cc d)
    by_bounds false b p q d = absurd (cc d)

pub length-read : (n : ℕ) → 1 ≤ n → n ≤ 63 → label_length (n ∷ []) ≡ Some n
length-read n f t =
    let a : nat_lt 0 n ≡ true = grind (arith, nat_tests) in
    let b : nat_lt n 64 ≡ true = grind (arith, nat_tests) in
    rw (a, b) refl

-- six numbers
abbrev pub HeadWord : List ℕ → Type 0
HeadWord = Joined (Joined (Joined (Joined (Joined NumberWord NumberWord) NumberWord) NumberWord) NumberWord) NumberWord

abbrev pub SixNumbers : ℕ × ℕ × ℕ × ℕ × ℕ × ℕ → List ℕ → Type 0
SixNumbers n = Joined (Joined (Joined (Joined (Joined (NumberOf n.0) (NumberOf n.1)) (NumberOf n.2)) (NumberOf n.3)) (NumberOf n.4)) (NumberOf n.5)

-- these six, in their bytes
abbrev six_bytes : ℕ × ℕ × ℕ × ℕ × ℕ × ℕ → List ℕ
six_bytes n = number_bytes n.0 ++ (number_bytes n.1 ++ (number_bytes n.2 ++ (number_bytes n.3 ++ (number_bytes n.4 ++ number_bytes n.5))))

six-sound : (w : List ℕ) (n : ℕ × ℕ × ℕ × ℕ × ℕ × ℕ) → SixNumbers n w → w ≡ six_bytes n
six-sound w n a5 =
    let a4 = a5.is_first in
    let a3 = a4.is_first in
    let a2 = a3.is_first in
    let a1 = a2.is_first in
    let b0 = number-sound a1.first n.0 a1.is_first in
    let b1 = number-sound a1.second n.1 a1.is_second in
    let b2 = number-sound a2.second n.2 a2.is_second in
    let b3 = number-sound a3.second n.3 a3.is_second in
    let b4 = number-sound a4.second n.4 a4.is_second in
    let b5 = number-sound a5.second n.5 a5.is_second in
    rw (a5.all, a4.all, a3.all, a2.all, a1.all, b0, b1, b2, b3, b4, b5) refl

value : (n : ℕ) → n / 256 * 256 + n % 256 ≡ n
value n = let d : 256 * (n / 256) + n % 256 ≡ n = div-add-mod n 256 in omega (arith, d)

six-read : (n : ℕ × ℕ × ℕ × ℕ × ℕ × ℕ) → packet_head (six_bytes n) ≡ Some (head_of n)
six-read n = rw (value n.0, value n.1, value n.2, value n.3, value n.4, value n.5) refl

-- what is made of six numbers is what their word decides
pub head-by_word : (w : List ℕ) (n : ℕ × ℕ × ℕ × ℕ × ℕ × ℕ) (x : Option Head) → SixNumbers n w → x ≡ Some (head_of n) → x ≡ packet_head w
head-by_word w n x j g = g ∙ sym (six-read n) ∙ ap packet_head (sym (six-sound w n j))

-- each number that is picked is one
number : (w : List ℕ) → NumberWord w → (n : ℕ) × NumberOf n w
number w i = by_pick (number_of w) refl i.1
  where
    by_pick : (x : Option ℕ) → number_of w ≡ x → IsPick x → (n : ℕ) × NumberOf n w
    by_pick (Some n) e p = (n, (i.0, e))
    by_pick None e p = absurd p

-- the bytes that a head is read from are its own
pub head-sound : (w : List ℕ) (head : Head) → HeadWord w → packet_head w ≡ Some head → w ≡ head_bytes head
head-sound w head a5 e =
    let a4 = a5.is_first in
    let a3 = a4.is_first in
    let a2 = a3.is_first in
    let a1 = a2.is_first in
    let n0 = number a1.first a1.is_first in
    let n1 = number a1.second a1.is_second in
    let n2 = number a2.second a2.is_second in
    let n3 = number a3.second a3.is_second in
    let n4 = number a4.second a4.is_second in
    let n5 = number a5.second a5.is_second in
    let n : ℕ × ℕ × ℕ × ℕ × ℕ × ℕ = (n0.0, n1.0, n2.0, n3.0, n4.0, n5.0) in
    let six : SixNumbers n w = record {
      first = a5.first;
      second = a5.second;
      all = a5.all;
      is_second = n5.1;
      is_first = record {
        first = a4.first;
        second = a4.second;
        all = a4.all;
        is_second = n4.1;
        is_first = record {
          first = a3.first;
          second = a3.second;
          all = a3.all;
          is_second = n3.1;
          is_first = record { first = a2.first; second = a2.second; all = a2.all; is_second = n2.1; is_first = record { first = a1.first; second = a1.second; all = a1.all; is_first = n0.1; is_second = n1.1 } };
        };
      };
    } in
    let s : w ≡ six_bytes n = six-sound w n six in
    let h : Some (head_of n) ≡ Some head = sym (six-read n) ∙ ap packet_head (sym s) ∙ e in
    let g : head_of n ≡ head = cc h in
    s ∙ ap head_bytes g

-- and of those it is read
pub head-read : (head : Head) → packet_head (head_bytes head) ≡ Some head
head-read head = six-read (head.id, head.flags, head.questions, head.answers, head.authorities, head.additionals)

pub head-complete : (head : Head) → HeadWord (head_bytes head)
head-complete head =
    let n = number-complete in
    record {
      first = number_bytes head.id ++ (number_bytes head.flags ++ (number_bytes head.questions ++ (number_bytes head.answers ++ number_bytes head.authorities)));
      second = number_bytes head.additionals;
      all = refl;
      is_second = n head.additionals;
      is_first = record {
        first = number_bytes head.id ++ (number_bytes head.flags ++ (number_bytes head.questions ++ number_bytes head.answers));
        second = number_bytes head.authorities;
        all = refl;
        is_second = n head.authorities;
        is_first = record {
          first = number_bytes head.id ++ (number_bytes head.flags ++ number_bytes head.questions);
          second = number_bytes head.answers;
          all = refl;
          is_second = n head.answers;
          is_first = record {
            first = number_bytes head.id ++ number_bytes head.flags;
            second = number_bytes head.questions;
            all = refl;
            is_second = n head.questions;
            is_first = record { first = number_bytes head.id; second = number_bytes head.flags; all = refl; is_first = n head.id; is_second = n head.flags };
          };
        };
      };
    }
