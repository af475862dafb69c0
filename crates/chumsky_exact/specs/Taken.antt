-- Words that are taken whatever follows them that may, and never refused.
-- Main words: AlwaysTakes, IsKnown, HasFewerLevels. Main laws: lawful-known, then-always, then-known, or-known, list-always, bracketed-always, taken-by_body, deep-by_body.
-- Read first: Language.antt, Words.antt of chumsky_parser, CallLanguage.antt of chumsky_descent.
use Rattle.std.proofs.Common.{◌≡◌, ℕ, zero, suc, ◌+◌, ◌≤◌, ◌<◌, nat_eq, nat_lt, max, true, false, None, List, [], ◌∷◌, ◌++◌, length, append_assoc, refl, sym, ◌∙◌, ap, subst, arith, inl, inr}
use Rattle.std.specs.Prelude.{⊤}
use Rattle.std.proofs.Math.Nat.{le-max_left, le-max_right}
use Rattle.std.proofs.lemmas.Bool.Decides.{nat_tests}
use Rattle.std.proofs.lemmas.List.{append-nil, length-append}
use Rattle.chumsky_input.specs.declared.error.Error as error_trait
use Rattle.chumsky_input.specs.declared.inspector.Inspector as inspector_trait
use Rattle.chumsky_input.specs.declared.input.Input as input_trait
use Rattle.chumsky_input.specs.declared.span.SimpleSpan.{SimpleSpan}
use Rattle.chumsky_input.specs.Layout.{list_layout}
use Rattle.chumsky_input.specs.Outcome.{Meaning}
use Rattle.chumsky_parser.specs.ChoiceLanguage.{or_language, FailsOn}
use Rattle.chumsky_parser.specs.Ending.{Ending, At, Nowhere, Refused, Ender, and_then, or_else, DoesNotEnd}
use Rattle.chumsky_parser.specs.ItemsLanguage.{Stepped, One, Over, ListFrom, IsListFrom, list_until, list_ends}
use Rattle.chumsky_parser.specs.Language.{Language, NeverRefused, IsBelow}
use Rattle.chumsky_parser.specs.SequenceLanguage.{joined_language, MayFollow}
use Rattle.chumsky_parser.specs.Words.{Joined, then_ends}
use Rattle.chumsky_parser.specs.WordsLaws.{ends-unless}
use Rattle.chumsky_primitive.specs.Literals.{equals-same}
use Rattle.chumsky_primitive.specs.PrimitiveLanguage.{Equals, literal_language, literal_ends}
use Rattle.chumsky_items.specs.ListWords.{separated_next, Led, SeparatedWord, SeparatedEnd}
use Rattle.chumsky_descent.specs.CallLanguage.{call_language}
use Rattle.chumsky_descent.specs.Calls.{Intended}
use Rattle.chumsky_descent.specs.Lawful.{Lawful, just-lawful}
use Rattle.chumsky_exact.specs.Deep.{IsDeep, deep-unless}
use Rattle.chumsky_exact.specs.Lists.{IsList}

-- each word with P is taken, where what follows fits: none is refused
abbrev pub AlwaysTakes : {Tok : Type 0} → Ender Tok → (P fits : List Tok → Type 0) → Type 0
AlwaysTakes {Tok} f P fits = (w rest : List Tok) → P w → fits rest → f (w ++ rest) ≡ At rest

-- so is each word of a language, and where it does not end it fails
pub record IsKnown {Tok V : Type 0} (l : Language Tok V) : Type 0 where
  pub each : AlwaysTakes l.ends l.word l.follow
  pub fails : (ts : List Tok) → DoesNotEnd (l.ends ts) → l.ends ts ≡ Nowhere

fails-unless : {X : Type 0} (x : Ending X) → (x ≡ Refused → ⊥) → DoesNotEnd x → x ≡ Nowhere
fails-unless (At y) n d = absurd d
fails-unless Nowhere n d = refl
fails-unless Refused n d = absurd (n refl)

-- a language is one over any input: also over one without tokens, with errors and states of which nothing counts
abbrev pub source : input_trait.Ghosts (Unit {0}) (Unit {0}) ℕ SimpleSpan
source = record { tokens = λ i. list_layout []; cursor_tokens = λ c. list_layout []; place = λ c. 0; span_between = λ l i j. l.span i j }

abbrev pub errors : error_trait.Ghosts (Unit {0}) (Unit {0}) ℕ SimpleSpan
errors = record { Seen = Unit {0}; seen = λ e. tt; expectation = λ w f s. tt; merged = λ a b. tt; takes_no_memory = ⊤ }

abbrev pub states : inspector_trait.Ghosts (Unit {0}) (Unit {0}) (Unit {0}) ℕ SimpleSpan
states = record { Seen = Unit {0}; seen = λ s. tt; Marked = Unit {0}; marked = λ m. tt; after = λ s t. s; mark = λ s. s; back = λ s m. s; takes_no_memory = ⊤ }

abbrev pub IsLawful : {V : Type 0} → Meaning ℕ (Unit {0}) states.Seen errors.Seen V → Language ℕ V → Type 0
IsLawful = Lawful (errors.takes_no_memory × states.takes_no_memory)

-- of a language that is unambiguous and never refused all is known
pub lawful-known : {V : Type 0} {m : Meaning ℕ (Unit {0}) states.Seen errors.Seen V} {l : Language ℕ V} → IsLawful m l → l.said ≡ true → l.unambiguous → l.refused_from ≡ None → IsKnown l
lawful-known {l = l} h s u e =
    let d = h.accepts.described s in
    let n : NeverRefused l.ends = λ ts. d.decided ts (subst (λ z. IsBelow z (length ts)) (sym e) tt) in
    record { each = λ w rest p f. ends-unless ((d.each u).each w rest p f) (n (w ++ rest)); fails = λ ts. fails-unless (l.ends ts) (n ts) }

-- a character
pub character-known : (c : ℕ) → IsKnown (literal_language nat_eq (c ∷ []) (λ (v : ℕ). v ≡ c) ⊤)
character-known c = lawful-known (just-lawful (c ∷ []) source nat_eq errors states (λ (v : ℕ). v ≡ c) ⊤) refl tt refl

abbrev pub ends_of : ℕ → Ender ℕ
ends_of c = literal_ends nat_eq (c ∷ [])

-- both are below, where the greater one is
pub left_below : (a b depth : ℕ) → max a b < depth → a < depth
left_below a b depth l = let m : a ≤ max a b = le-max_left a b in omega (arith, l, m)

pub right_below : (a b depth : ℕ) → max a b < depth → b < depth
right_below a b depth l = let m : b ≤ max a b = le-max_right a b in omega (arith, l, m)

module _ {Tok : Type 0} where
  module _ (f g : Ender Tok) {P Q ff fg : List Tok → Type 0} where
    -- a word of one and then one of another, which may follow it
    pub then-always : AlwaysTakes f P ff → AlwaysTakes g Q fg → ((w rest : List Tok) → Q w → fg rest → ff (w ++ rest)) → AlwaysTakes (then_ends f g) (Joined P Q) fg
    then-always h k may w rest j t =
        let z : w ++ rest ≡ j.first ++ (j.second ++ rest) = ap (λ u. u ++ rest) j.all ∙ append_assoc j.first j.second rest in
        let e : f (w ++ rest) ≡ At (j.second ++ rest) = ap f z ∙ h j.first (j.second ++ rest) j.is_first (may j.second rest j.is_second t) in
        ap (and_then g) e ∙ k j.second rest j.is_second t

  module _ {V W : Type 0} (F : Language Tok V) (G : Language Tok W) (f : IsKnown F) (g : IsKnown G) where
    -- so all is known of a sequence and of a choice, of which no word is cut short or taken for another
    pub then-known : {X : Type 0} (value stands_for : List Tok → X → Type 0) → MayFollow F G → IsKnown (joined_language F G value stands_for)
    then-known value stands_for may = record { each = then-always F.ends G.ends f.each g.each may; fails = λ ts. by_first ts (F.ends ts) (f.fails ts) }
      where
        by_first : (ts : List Tok) (x : Ending (List Tok)) → (DoesNotEnd x → x ≡ Nowhere) → DoesNotEnd (and_then G.ends x) → and_then G.ends x ≡ Nowhere
        by_first ts (At mid) h d = g.fails mid d
        by_first ts Nowhere h d = refl
        by_first ts Refused h d = absurd (cc (h tt))

  pub or-known : {V : Type 0} (F G : Language Tok V) → IsKnown F → IsKnown G → FailsOn F G → IsKnown (or_language F G)
  or-known F G f g fails_on = record {
    each = λ w rest i t. elim i [
      | inl j ↦ ap (λ x. or_else x (G.ends (w ++ rest))) (f.each w rest j t.0)
      | inr j ↦ ap (λ x. or_else x (G.ends (w ++ rest))) (f.fails (w ++ rest) (fails_on w rest j t.1)) ∙ g.each w rest j t.1
    ];
    fails = λ ts. by_first ts (F.ends ts) (f.fails ts);
  }
    where
      by_first : (ts : List Tok) (x : Ending (List Tok)) → (DoesNotEnd x → x ≡ Nowhere) → DoesNotEnd (or_else x (G.ends ts)) → or_else x (G.ends ts) ≡ Nowhere
      by_first ts (At rest) h d = absurd d
      by_first ts Nowhere h d = g.fails ts d
      by_first ts Refused h d = absurd (cc (h tt))

  -- items, with a separator between each two: none is empty, nothing that follows changes a separator, and what begins with one may follow an item
  module _ (f separator : Ender Tok) (P S fits : List Tok → Type 0) (size : (w : List Tok) → P w → 0 < length w) (item : AlwaysTakes f P fits)
      (between : AlwaysTakes separator S (λ rest. ⊤)) (behind : (w rest : List Tok) → S w → fits (w ++ rest)) where
    abbrev next : ℕ → List Tok → Ending (Stepped Tok)
    next = separated_next f separator false false 0 None

    abbrev Items : ℕ → List (List Tok) → List Tok → Type 0
    Items = ListFrom (λ k u (v : List Tok). SeparatedWord S false None P k u) (SeparatedEnd S false false 0 None)

    -- what may follow the list: neither an item nor a separator is there, and both fail
    pub record EndsList (rest : List Tok) : Type 0 where
      pub fit : fits rest
      pub no_separator : separator rest ≡ Nowhere
      pub no_item : f rest ≡ Nowhere

    over-always : (k : ℕ) (rest : List Tok) → EndsList rest → next k rest ≡ At (Over rest)
    over-always zero rest e = rw e.no_item refl
    over-always (suc k) rest e = let l : nat_lt (suc k) 0 ≡ false = grind (arith, nat_tests) in rw (e.no_separator, l) refl

    one-always : (k : ℕ) (w rest : List Tok) → Led S false P k w → fits rest → next k (w ++ rest) ≡ At (One rest)
    one-always zero w rest i t = let e : f (w ++ rest) ≡ At rest = item w rest i t in rw e refl
    one-always (suc k) w rest i t =
        let e : and_then f (separator (w ++ rest)) ≡ At rest = then-always separator f between item (λ u us p q. tt) w rest i t in
        rw e refl

    led_size : (k : ℕ) (w : List Tok) → Led S false P k w → 0 < length w
    led_size zero w i = size w i
    led_size (suc k) w i =
        let l : 0 < length i.second = size i.second i.is_second in
        let e : length w ≡ length i.first + length i.second = ap length i.all ∙ length-append i.first i.second in
        omega (arith, l, e)

    items_follow : (k : ℕ) (items : List (List Tok)) (w rest : List Tok) → Items (suc k) items w → EndsList rest → fits (w ++ rest)
    items_follow k [] w rest i e = let z : w ≡ [] = i.1 in subst (λ u. fits (u ++ rest)) (sym z) e.fit
    items_follow k (v ∷ vs) w rest i e =
        let j = i.is_first.1 in
        let z : w ++ rest ≡ j.first ++ ((j.second ++ i.second) ++ rest) =
        ap (λ u. u ++ rest) (i.all ∙ ap (λ u. u ++ i.second) j.all ∙ append_assoc j.first j.second i.second) ∙ append_assoc j.first (j.second ++ i.second) rest in
        subst fits (sym z) (behind j.first ((j.second ++ i.second) ++ rest) j.is_first)

    until_over : (n k : ℕ) (rest : List Tok) → next k rest ≡ At (Over rest) → list_until next n k rest ≡ At rest
    until_over zero k rest e = rw e refl
    until_over (suc n) k rest e = rw e refl

    until-always : (n k : ℕ) (items : List (List Tok)) (w rest : List Tok) → length w ≤ n → Items k items w → EndsList rest → list_until next n k (w ++ rest) ≡ At rest
    until-always n zero [] w rest l i e = let z : w ≡ [] = i.1 in subst (λ u. list_until next n zero (u ++ rest) ≡ At rest) (sym z) (until_over n zero rest (over-always zero rest e))
    until-always n (suc k) [] w rest l i e = let z : w ≡ [] = i.1 in subst (λ u. list_until next n (suc k) (u ++ rest) ≡ At rest) (sym z) (until_over n (suc k) rest (over-always (suc k) rest e))
    until-always n k (v ∷ vs) w rest l i e =
        let z : w ++ rest ≡ i.first ++ (i.second ++ rest) = ap (λ u. u ++ rest) i.all ∙ append_assoc i.first i.second rest in
        let d : next k (w ++ rest) ≡ At (One (i.second ++ rest)) = ap (next k) z ∙ one-always k i.first (i.second ++ rest) i.is_first.1 (items_follow k vs i.second rest i.is_second e) in
        let p : 0 < length i.first = led_size k i.first i.is_first.1 in
        let s : length w ≡ length i.first + length i.second = ap length i.all ∙ length-append i.first i.second in
        by_room n l d (omega (arith, p, s)) (λ m q. until-always m (suc k) vs i.second rest q i.is_second e)
      where
        by_room : (n : ℕ) → length w ≤ n → next k (w ++ rest) ≡ At (One (i.second ++ rest)) → length i.second < length w
            → ((m : ℕ) → length i.second ≤ m → list_until next m (suc k) (i.second ++ rest) ≡ At rest) → list_until next n k (w ++ rest) ≡ At rest
        by_room zero l d p h = absurd (omega (arith, l, p))
        by_room (suc n) l d p h = rw d (h n (omega (arith, l, p)))

    -- the list is taken whole
    pub list-always : AlwaysTakes (list_ends next) (IsListFrom (SeparatedWord S false None P) (SeparatedEnd S false false 0 None) 0) EndsList
    list-always w rest i e =
        let s : length (w ++ rest) ≡ length w + length rest = length-append w rest in
        until-always (length (w ++ rest)) 0 i.items w rest (omega (arith, s)) i.are e

module _ (f : Ender ℕ) (P fits : List ℕ → Type 0) (size : (w : List ℕ) → P w → 0 < length w) (item : AlwaysTakes f P fits) where
  -- items between two characters, with one between each two: what begins with one of the last two may follow an item, and none begins with the last
  pub bracketed-always : (o s c : ℕ) → nat_eq s c ≡ false → ((rest : List ℕ) → fits (s ∷ rest)) → ((rest : List ℕ) → fits (c ∷ rest)) → ((rest : List ℕ) → f (c ∷ rest) ≡ Nowhere)
      → AlwaysTakes (then_ends (ends_of o) (then_ends (list_ends (separated_next f (ends_of s) false false 0 None)) (ends_of c)))
      (Joined (Equals nat_eq (o ∷ [])) (Joined (IsList (Equals nat_eq (s ∷ [])) P 0) (Equals nat_eq (c ∷ [])))) (λ rest. ⊤)
  bracketed-always o s c apart goes_on ends no_item =
      then-always (ends_of o) (then_ends items (ends_of c)) (character-known o).each
      (then-always items (ends_of c) (list-always f (ends_of s) P (Equals nat_eq (s ∷ [])) fits size item (character-known s).each behind) (character-known c).each
      (λ w rest j q. let e : w ≡ c ∷ [] = equals-same (c ∷ []) w j in rw e (record { fit = ends rest; no_separator = rw apart refl; no_item = no_item rest })))
      (λ w rest j q. tt)
    where
      items : Ender ℕ
      items = list_ends (separated_next f (ends_of s) false false 0 None)

      behind : (w rest : List ℕ) → Equals nat_eq (s ∷ []) w → fits (w ++ rest)
      behind w rest j = let e : w ≡ s ∷ [] = equals-same (s ∷ []) w j in rw e (goes_on rest)

-- a text says some value of fewer levels
abbrev pub HasFewerLevels : {X : Type 0} → (List ℕ → X → Type 0) → (X → ℕ) → ℕ → List ℕ → Type 0
HasFewerLevels {X} says levels depth w = (x : X) × says w x × (levels x < depth)

-- of a function that calls itself: its body fails where no value begins; and it takes values of one level more than those that its
-- calls take, where these fail so too
module _ {X V : Type 0} (says : List ℕ → X → Type 0) (levels : X → ℕ) (fits none_begins : List ℕ → Type 0) (intended : Intended ℕ V) (grammar : Language ℕ V → Language ℕ V)
    (body_fails : (call : Language ℕ V) (ts : List ℕ) → none_begins ts → (grammar call).ends ts ≡ Nowhere)
    (body_takes : (call : Language ℕ V) (depth : ℕ) → AlwaysTakes call.ends (HasFewerLevels says levels depth) fits → (0 < depth → (ts : List ℕ) → none_begins ts → call.ends ts ≡ Nowhere)
    → AlwaysTakes (grammar call).ends (HasFewerLevels says levels (suc depth)) fits) where
  call_fails : (depth : ℕ) → 0 < depth → (ts : List ℕ) → none_begins ts → (call_language intended grammar depth).ends ts ≡ Nowhere
  call_fails zero l ts s = absurd (omega (arith, l))
  call_fails (suc depth) l ts s = body_fails (call_language intended grammar depth) ts s

  -- a value of fewer levels than calls may be open is taken
  pub taken-by_body : (depth : ℕ) → AlwaysTakes (call_language intended grammar depth).ends (HasFewerLevels says levels depth) fits
  taken-by_body zero w rest i s = let l : levels i.0 < 0 = i.2 in absurd (omega (arith, l))
  taken-by_body (suc depth) w rest i s = body_takes (call_language intended grammar depth) depth (taken-by_body depth) (call_fails depth) w rest i s

  -- so a text that is refused, and is no shorter than the limit, is deep
  pub deep-by_body : fits [] → (limit : ℕ) (text : List ℕ) → (call_language intended grammar limit).ends text ≡ Refused → limit ≤ length text → IsDeep says levels limit text
  deep-by_body f limit text e l = deep-unless says levels limit text l (λ x j k.
      let d : (call_language intended grammar limit).ends text ≡ At [] = ap (call_language intended grammar limit).ends (sym (append-nil text)) ∙ taken-by_body limit text [] (x, j, k) f in
      absurd (cc (d, e)))
