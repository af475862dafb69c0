-- The language of items with their numbers: the words of the items.
-- Main words: enumerated_language. Main law: enumerates-accepts. Read first: ItemsLanguage.antt of the parsers, Enumerating.antt.
use Rattle.std.proofs.Common.{◌≡◌, ℕ, suc, ◌+◌, ◌^◌, ◌<◌, Bool, true, false, Option, Some, None, option_map, List, length, drop, refl, subst, arith, add-one}
use Rattle.std.proofs.lemmas.Bool.Decides.{nat_tests}
use Rattle.chumsky_input.specs.declared.stop.Stop.TheVariants.{CountTooLarge}
use Rattle.chumsky_input.specs.Outcome.{Meaning, Beginning}
use Rattle.chumsky_parser.specs.Chained.{Chained, Given}
use Rattle.chumsky_parser.specs.Items.{Next, More, End, AfterStep}
use Rattle.chumsky_parser.specs.Ending.{Ending, At, Nowhere, Refused, and_then, Within, IfValue, Answers, Here}
use Rattle.chumsky_parser.specs.EndingLaws.{chained-here, given-here, regrouped-by, and_then_some}
use Rattle.chumsky_parser.specs.Memory.{NeverOutOfMemory}
use Rattle.chumsky_parser.specs.MemoryLaws.{given-spares, stops-spares, chained-spares}
use Rattle.chumsky_parser.specs.ItemsLanguage.{Stepped, One, Over, place, IsStepped, ItemsLanguage, ItemsDescribed, AcceptsItems}
use Rattle.chumsky_items.specs.Repeating.{fits}
use Rattle.chumsky_folds.specs.Enumerating.{BeginsAtZero, Numbered, Enumerates}
use Rattle.chumsky_folds.specs.EnumeratingLaws.{enumerates-end, enumerates-move}

-- an item with its number, which is how many came before it
abbrev pub enumerated_language : {Tok S V : Type 0} → ItemsLanguage Tok S V → ItemsLanguage Tok (ℕ × S) (ℕ × V)
enumerated_language l = record {
  said = l.said;
  has_given = λ s k. (s.0 ≡ k) × l.has_given s.1 k;
  next = l.next;
  value = λ k ts x. (x.0 ≡ k) × l.value k ts x.1;
  word = l.word;
  stands_for = λ k w x. (x.0 ≡ k) × l.stands_for k w x.1;
  last = l.last;
  follow = l.follow;
  unambiguous = l.unambiguous;
  refused_from = l.refused_from;
  moves = l.moves;
  takes_no_memory = l.takes_no_memory;
}

fits_one : (k : ℕ) → k + 1 < 2 ^ 64 → fits k ≡ true
fits_one k l = grind (arith, nat_tests)

module _ {Tok Cx St Er S V : Type 0} (begins : Meaning Tok Cx St Er S) (gives : S → Meaning Tok Cx St Er (Next S V)) (l : ItemsLanguage Tok S V) where
  abbrev Is : ℕ → List Tok → Ending (Stepped Tok) → Next (ℕ × S) (ℕ × V) → Type 0
  Is k ts = IsStepped (λ (x : ℕ × V). (x.0 ≡ k) × l.value k ts x.1) (λ (s : ℕ × S). (s.0 ≡ suc k) × l.has_given s.1 (suc k))

  numbered_value : (k : ℕ) (ts : List Tok) (v : Option V) → IfValue (l.value k ts) v → IfValue (λ (x : ℕ × V). (x.0 ≡ k) × l.value k ts x.1) (option_map (λ x. (k, x)) v)
  numbered_value k ts (Some v) i = (refl, i)
  numbered_value k ts None i = tt

  numbered_here : (k : ℕ) (ts rest : List Tok) (fit : Bool) → fit ≡ true → (v : Option V) (t : S)
      → IfValue (l.value k ts) v → l.has_given t (suc k) → (c : Beginning Tok Cx St) → Within c
      → Here (Is k ts (At (One rest))) {Er = Er} (Numbered fit k v t) (At (drop c.start c.tokens.list)) c
  numbered_here k ts rest true f v t i g c y =
      let e : k + 1 ≡ suc k = add-one k in
      given-here Er (Is k ts (At (One rest))) c y (Some (More (option_map (λ x. (k, x)) v) (k + 1, t))) (numbered_value k ts v i, (e, g))
  numbered_here k ts rest false f v t i g c y = absurd (cc f)

  follows : (k : ℕ) (ts : List Tok) (x : Ending (Stepped Tok))
      → ((rest : List Tok) → x ≡ At (One rest) → fits k ≡ true) → (n : Option (Next S V)) (c : Beginning Tok Cx St)
      → Within c → IfValue (IsStepped (l.value k ts) (λ t. l.has_given t (suc k)) x) n
      → Here (Is k ts x) {Er = Er} (AfterStep (Numbered (fits k) k) (Given (Some End)) n) (At (drop c.start c.tokens.list)) c
  follows k ts (At (One rest)) f (Some (More v t)) c y i = numbered_here k ts rest (fits k) (f rest refl) v t i.0 i.1 c y
  follows k ts (At (One rest)) f (Some End) c y i = absurd i
  follows k ts (At (Over rest)) f (Some (More v t)) c y i = absurd i
  follows k ts (At (Over rest)) f (Some End) c y i = given-here Er (Is k ts (At (Over rest))) c y (Some End) tt
  follows k ts Nowhere f (Some n) c y i = absurd i
  follows k ts Refused f (Some n) c y i = absurd i
  follows k ts x f None c y i = λ o m. absurd m

  enumerates_here : ItemsDescribed begins gives l → (k : ℕ) (s : S) → l.has_given s k → (b : Beginning Tok Cx St) → Within b → k + length (drop b.start b.tokens.list) < 2 ^ 64
      → Here (Is k (drop b.start b.tokens.list) (l.next k (drop b.start b.tokens.list)))
      (Chained (gives s) (AfterStep (Numbered (fits k) k) (Given (Some End))))
      (place (l.next k (drop b.start b.tokens.list))) b
  enumerates_here d k s g b w f o m =
      let ts : List Tok = drop b.start b.tokens.list in
      let x : Ending (Stepped Tok) = l.next k ts in
      let z : Answers (Is k ts x) (and_then (λ us. At us) (place x)) b.tokens.list o.verdict o.end =
      chained-here (IsStepped (l.value k ts) (λ t. l.has_given t (suc k)) x) (Is k ts x) (gives s) (AfterStep (Numbered (fits k) k) (Given (Some End))) (place x) (λ us. At us) b w (d.step k s g b w f)
      (λ n c y e i. follows k ts x (λ rest q. let p : length rest < length ts = d.further k ts rest q in fits_one k (omega (arith, f, p))) n c y i) o m in
      subst (λ q. Answers (Is k ts x) q b.tokens.list o.verdict o.end) (and_then_some (place x)) z

  numbered-spares : (fit : Bool) (n : ℕ) (v : Option V) (t : S) → NeverOutOfMemory (Numbered {Tok = Tok} {Cx = Cx} {St = St} {Er = Er} fit n v t)
  numbered-spares true n v t = given-spares (Some (More (option_map (λ x. (n, x)) v) (n + 1, t)))
  numbered-spares false n v t = stops-spares CountTooLarge tt

  after-spares : (k : ℕ) (n : Option (Next S V)) → NeverOutOfMemory (AfterStep (Numbered {Tok = Tok} {Cx = Cx} {St = St} {Er = Er} (fits k) k) (Given (Some End)) n)
  after-spares k (Some (More v t)) = numbered-spares (fits k) k v t
  after-spares k (Some End) = given-spares (Some End)
  after-spares k None = λ b o m. absurd m

  pub enumerates-accepts : {spare : Type 0} → AcceptsItems begins gives l spare → AcceptsItems (BeginsAtZero begins) (Enumerates gives) (enumerated_language l) spare
  enumerates-accepts h = record {
    described = λ q.
        let d = h.described q in
        record {
          start = regrouped-by begins (λ ts. At ts) (λ ts s. l.has_given s 0) d.start (λ t. (0, t)) (λ ts s. (s.0 ≡ 0) × l.has_given s.1 0) (λ ts t g. (refl, g));
          step = λ k s g b w f o m.
              let n : s.0 ≡ k = g.0 in
              enumerates_here d k s.1 g.1 b w f o (subst (λ j. Chained (gives s.1) (AfterStep (Numbered (fits j) j) (Given (Some End))) b o) n m.step);
          further = d.further;
          one = d.one;
          given = λ k ts rest x e i. let b = d.given k ts rest x.1 e i.1 in record { word = b.word; all = b.all; is = (i.0, b.is) };
          over = d.over;
          each = d.each;
          ends = d.ends;
          decided = d.decided;
          never_empty = d.never_empty;
        };
    moving = λ e. let p = h.moving e in (enumerates-end gives begins p.0, enumerates-move gives begins p.1);
    sparing = λ q t.
        let n = h.sparing q t in
        record {
          begin = chained-spares begins _ n.begin (λ s. given-spares (option_map (λ t. (0, t)) s));
          step = λ s b o m. chained-spares (gives s.1) _ (n.step s.1) (after-spares s.0) b o m.step;
        };
  }
