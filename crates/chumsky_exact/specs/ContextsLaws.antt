-- What is said of a part and of what stands under its value holds of both in turn.
-- Main laws: decided_at, then_under-accepts, ignore_under-accepts. Read first: Contexts.antt.
use Rattle.std.proofs.Common.{◌≡◌, ◌≤◌, ◌<◌, true, ◌||◌, Option, Some, None, List, ◌++◌, length, drop, refl, sym, ◌∙◌, ap, subst, arith, append_assoc, inl, inr}
use Rattle.chumsky_input.specs.Outcome.{Meaning, Beginning, EndsAfterStart}
use Rattle.chumsky_parser.specs.Chained.{Chained, Given, Asked, both}
use Rattle.chumsky_parser.specs.Ending.{Ending, At, Nowhere, Refused, and_then, Ends, Within, IfValue, Answers, Here, Reads, EndsOrRefused}
use Rattle.chumsky_parser.specs.EndingLaws.{and_then_some, ends_there, weaker-here, chained-here, given-here, asked-here}
use Rattle.chumsky_parser.specs.FurtherLaws.{then-decided}
use Rattle.chumsky_parser.specs.Language.{Language, Described, Accepts, TakesOnly, GivesOnly, TakesEach, EndsFurther, NeverRefusedBelow, IsBelow, sooner, later}
use Rattle.chumsky_parser.specs.LanguageLaws.{fewer-accepts}
use Rattle.chumsky_parser.specs.Laws.{chained-ends, given-ends, asked-ends}
use Rattle.chumsky_parser.specs.Memory.{NeverOutOfMemory}
use Rattle.chumsky_parser.specs.MemoryLaws.{given-spares, asked-spares, chained-spares}
use Rattle.chumsky_parser.specs.Progress.{Moves}
use Rattle.chumsky_parser.specs.ProgressLaws.{both-true, either-true, asked-moves, chained-first, chained-second}
use Rattle.chumsky_parser.specs.Words.{Joined, taken_of}
use Rattle.chumsky_parser.specs.WordsLaws.{ends_at, then_or_refused, keeps_tokens, taken_word}
use Rattle.chumsky_context.specs.Under.{UnderValue, IgnoringUnder, SequenceUnder}
use Rattle.chumsky_context.specs.UnderLanguage.{under-accepts}
use Rattle.chumsky_context.specs.UnderLaws.{under-ends}
use Rattle.chumsky_exact.specs.Contexts.{LanguageUnder, language_at, OnlyUnder, AcceptsUnder, IsDecided, ends_under, under_ends, under_language, then_under_language, ignore_under_language}

module _ {Tok V : Type 0} (F : Language Tok V) (decides : List Tok → Option V) where
  -- a value of a part is the one that its word decided
  pub decided_at : IsDecided F decides → GivesOnly F.ends F.value F.stands_for → (ts rest : List Tok) (v : V) → F.ends ts ≡ At rest → F.value ts v → decides (taken_of ts rest) ≡ Some v
  decided_at i g ts rest v e a = let b = g.given ts rest v e a in ap decides (taken_word ts rest b.word b.all) ∙ i.one b.word v b.is

module _ {Tok Cx St Er V W : Type 0} (first : Meaning Tok Cx St Er V) (second : Meaning Tok V St Er W) (F : Language Tok V) (decides : List Tok → Option V) (G : LanguageUnder V Tok W) where
  -- the second under a value
  under_value : {spare : Type 0} → AcceptsUnder second G spare → (v : V) → Accepts (UnderValue {Cx = Cx} second (Some v)) (language_at G v) spare
  under_value h v = fewer-accepts (UnderValue second (Some v)) (UnderValue (OnlyUnder v second) (Some v)) (λ b o m. record { runs = (refl, m.runs) }) (language_at G v) (under-accepts (OnlyUnder v second) v (h v))

  -- that the second is as it is said, under each value
  abbrev Each : Type 0
  Each = (v : V) → Described (UnderValue {Cx = Cx} second (Some v)) (language_at G v)

  -- where both end, the word of the first decided a value
  record IsUnder (ts rest : List Tok) : Type 0 where
    pub mid : List Tok
    pub value : V
    pub is_first : F.ends ts ≡ At mid
    pub decided : decides (taken_of ts mid) ≡ Some value
    pub is_second : (G.under value).ends mid ≡ At rest

  is_under : (ts rest : List Tok) → under_ends F decides G ts ≡ At rest → IsUnder ts rest
  is_under ts rest e = by_first (F.ends ts) refl e
    where
      by_value : (mid : List Tok) → F.ends ts ≡ At mid → (x : Option V) → decides (taken_of ts mid) ≡ x → ends_under F decides G x mid ≡ At rest → IsUnder ts rest
      by_value mid d (Some v) q e = record { mid = mid; value = v; is_first = d; decided = q; is_second = e }
      by_value mid d None q e = absurd (cc e)

      by_first : (x : Ending (List Tok)) → F.ends ts ≡ x → and_then (λ r. ends_under F decides G (decides (taken_of ts r)) r) x ≡ At rest → IsUnder ts rest
      by_first (At mid) d e = by_value mid d (decides (taken_of ts mid)) refl e
      by_first Nowhere d e = absurd (cc e)
      by_first Refused d e = absurd (cc e)

  under-takes_only : TakesOnly F.ends F.word → Each → TakesOnly (under_ends F decides G) (λ w. (v : V) × Joined (λ u. F.word u × (decides u ≡ Some v)) (G.under v).word w)
  under-takes_only h k = record {
    taken = λ ts rest e.
        let i = is_under ts rest e in
        let a = h.taken ts i.mid i.is_first in
        let b = (k i.value).only.taken i.mid rest i.is_second in
        let q : decides a.word ≡ Some i.value = ap decides (sym (taken_word ts i.mid a.word a.all)) ∙ i.decided in
        let z : a.word ++ (b.word ++ rest) ≡ (a.word ++ b.word) ++ rest = sym (append_assoc a.word b.word rest) in
        record { word = a.word ++ b.word; all = a.all ∙ ap (λ t. a.word ++ t) b.all ∙ z; is = (i.value, record { first = a.word; second = b.word; all = refl; is_first = (a.is, q); is_second = b.is }) };
  }

  under-takes_each : IsDecided F decides → TakesEach F.ends F.word F.follow → Each → ((v : V) → (G.under v).unambiguous × ((w rest : List Tok) → (G.under v).word w → (G.under v).follow rest → F.follow (w ++ rest)))
      → TakesEach (under_ends F decides G) (λ w. (v : V) × Joined (λ u. F.word u × (decides u ≡ Some v)) (G.under v).word w) (λ rest. (v : V) → (G.under v).follow rest)
  under-takes_each i h k u = record {
    each = λ w rest x y.
        let v : V = x.0 in
        let j = x.1 in
        let mid : List Tok = j.second ++ rest in
        let ts : List Tok = j.first ++ mid in
        let e : w ++ rest ≡ ts = ap (λ z. z ++ rest) j.all ∙ append_assoc j.first j.second rest in
        let a : EndsOrRefused (F.ends ts) mid = h.each j.first mid j.is_first.0 ((u v).1 j.second rest j.is_second (y v)) in
        let q : decides (taken_of ts mid) ≡ Some v = ap decides (taken_word ts mid j.first refl) ∙ j.is_first.1 in
        let t = (k v).each (u v).0 in
        let b : EndsOrRefused ((G.under v).ends mid) rest = t.each j.second rest j.is_second (y v) in
        let c : EndsOrRefused (ends_under F decides G (decides (taken_of ts mid)) mid) rest = subst (λ z. EndsOrRefused (ends_under F decides G z mid) rest) (sym q) b in
        rw e (then_or_refused (λ r. ends_under F decides G (decides (taken_of ts r)) r) (F.ends ts) mid rest a c);
  }

  under-decided : TakesOnly F.ends F.word → (F.moves ≡ true → EndsFurther F.ends) → NeverRefusedBelow F.refused_from F.ends → Each → NeverRefusedBelow (sooner F.refused_from (later G.refused_from F.moves)) (under_ends F decides G)
  under-decided h m d k ts = then-decided F.ends (λ rest. ends_under F decides G (decides (taken_of ts rest)) rest) F.word h F.moves m F.refused_from G.refused_from d (λ mid l r. by_value mid l (decides (taken_of ts mid)) r) ts
    where
      by_value : (mid : List Tok) → IsBelow G.refused_from (length mid) → (x : Option V) → ends_under F decides G x mid ≡ Refused → ⊥
      by_value mid l (Some v) r = (k v).decided mid l r
      by_value mid l None r = cc r

  under-further : TakesOnly F.ends F.word → (F.moves ≡ true → EndsFurther F.ends) → Each → (F.moves || G.moves) ≡ true → EndsFurther (under_ends F decides G)
  under-further h m k e ts rest x =
      let i = is_under ts rest x in
      let a : length i.mid ≤ length ts = keeps_tokens F.ends F.word h ts i.mid i.is_first in
      let b : length rest ≤ length i.mid = keeps_tokens (G.under i.value).ends (G.under i.value).word (k i.value).only i.mid rest i.is_second in
      elim (either-true F.moves G.moves e) [
        | inl t ↦ let c : length i.mid < length ts = m t ts i.mid i.is_first in omega (arith, b, c)
        | inr t ↦ let c : length rest < length i.mid = (k i.value).further t i.mid rest i.is_second in omega (arith, a, c)
      ]

  -- and then the second ends as it does under that value
  second_at : IsDecided F decides → GivesOnly F.ends F.value F.stands_for → (ts rest : List Tok) (v : V) → (i : IsUnder ts rest) → F.value ts v → (G.under v).ends i.mid ≡ At rest
  second_at d g ts rest v i a =
      let q : Some i.value ≡ Some v = sym i.decided ∙ decided_at F decides d g ts i.mid v i.is_first a in
      let z : i.value ≡ v = cc q in
      subst (λ u. (G.under u).ends i.mid ≡ At rest) z i.is_second

  module _ {X : Type 0} (m : Meaning Tok Cx St Er X) (value stands_for : List Tok → X → Type 0) where
    -- that both in turn end where the parts do, with these values, and move and take memory only as the parts do
    record IsBound : Type 0 where
      pub reads : Described first F → Each → IsDecided F decides → Reads m (under_ends F decides G) value
      pub given : Described first F → Each → IsDecided F decides → GivesOnly (under_ends F decides G) value stands_for
      pub moving : (F.moves ≡ true → Moves first) → (G.moves ≡ true → (v : Option V) → Moves (UnderValue {Cx = Cx} second v)) → (F.moves || G.moves) ≡ true → Moves m
      pub sparing : NeverOutOfMemory first → ((v : Option V) → NeverOutOfMemory (UnderValue {Cx = Cx} second v)) → NeverOutOfMemory m

    bound-accepts : {spare : Type 0} → IsBound → IsDecided F decides → Accepts first F spare → AcceptsUnder second G spare → Accepts m (under_language F decides G value stands_for) spare
    bound-accepts {spare} b i h k = record {
      described = λ s.
          let t = both-true F.said G.said s in
          let d = h.described t.0 in
          let e : Each = λ v. (under_value k v).described t.1 in
          record {
            reads = b.reads d e i;
            only = under-takes_only d.only e;
            given = b.given d e i;
            each = λ u. under-takes_each i (d.each u.0) e u.1;
            decided = under-decided d.only d.further d.decided e;
            further = under-further d.only d.further e;
          };
      moving = b.moving h.moving (λ t v. under_moves t v);
      sparing = λ q t. b.sparing (h.sparing q t.0) (λ v. under_spares q t.1 v);
    }
      where
        under_moves : G.moves ≡ true → (v : Option V) → Moves (UnderValue {Cx = Cx} second v)
        under_moves t (Some v) = (under_value k v).moving t
        under_moves t None = λ b o m y. absurd m.runs

        under_spares : spare → G.takes_no_memory → (v : Option V) → NeverOutOfMemory (UnderValue {Cx = Cx} second v)
        under_spares q t (Some v) = (under_value k v).sparing q t
        under_spares q t None = λ b o m. absurd m.runs

  abbrev IgnoreValue : List Tok → W → Type 0
  IgnoreValue ts x = (v : V) × F.value ts v × Ends (F.ends ts) (λ rest. (G.under v).value rest x)

  abbrev ThenValue : List Tok → V × W → Type 0
  ThenValue ts x = F.value ts x.0 × Ends (F.ends ts) (λ rest. (G.under x.0).value rest x.1)

  ignore_under-by : Described first F → Each → IsDecided F decides → Reads (IgnoringUnder first second) (under_ends F decides G) IgnoreValue
  ignore_under-by d e i = record {
    here = λ b w.
        let ts : List Tok = drop b.start b.tokens.list in
        chained-here (F.value ts) (IgnoreValue ts) (Asked true first) (UnderValue second) (F.ends ts) (λ rest. ends_under F decides G (decides (taken_of ts rest)) rest) b w
        (asked-here (F.value ts) b true first (F.ends ts) (d.reads.here (record b { wanted = true }) (record { start = w.start; few = w.few })))
        (λ v c y q a. follow ts v c y q a);
  }
    where
      follow : (ts : List Tok) (v : Option V) (c : Beginning Tok Cx St) → Within c → F.ends ts ≡ At (drop c.start c.tokens.list) → IfValue (F.value ts) v
          → Here (IgnoreValue ts) (UnderValue second v) (ends_under F decides G (decides (taken_of ts (drop c.start c.tokens.list))) (drop c.start c.tokens.list)) c
      follow ts (Some v) c y q a =
          let rest : List Tok = drop c.start c.tokens.list in
          let z : decides (taken_of ts rest) ≡ Some v = decided_at F decides i d.given ts rest v q a in
          let h = (e v).reads.here c y in
          rw z (weaker-here ((G.under v).value rest) (IgnoreValue ts) (λ x j. (v, a, ends_there (F.ends ts) rest (λ r. (G.under v).value r x) q j)) (UnderValue second (Some v)) ((G.under v).ends rest) c h)
      follow ts None c y q a = λ o m. absurd m.runs

  then_under-by : Described first F → Each → IsDecided F decides → Reads (SequenceUnder first second) (under_ends F decides G) ThenValue
  then_under-by d e i = record {
    here = λ b w.
        let ts : List Tok = drop b.start b.tokens.list in
        chained-here (F.value ts) (ThenValue ts) (Asked true first) (λ v. Chained (UnderValue second v) (λ x. Given (both v x))) (F.ends ts) (λ rest. ends_under F decides G (decides (taken_of ts rest)) rest) b w
        (asked-here (F.value ts) b true first (F.ends ts) (d.reads.here (record b { wanted = true }) (record { start = w.start; few = w.few })))
        (λ v c y q a. follow ts v c y q a);
  }
    where
      with_second : (ts rest : List Tok) (v : V) → F.ends ts ≡ At rest → F.value ts v → (x : Option W) → IfValue ((G.under v).value rest) x → IfValue (ThenValue ts) (both (Some v) x)
      with_second ts rest v q a (Some x) j = (a, ends_there (F.ends ts) rest (λ r. (G.under v).value r x) q j)
      with_second ts rest v q a None j = tt

      follow : (ts : List Tok) (v : Option V) (c : Beginning Tok Cx St) → Within c → F.ends ts ≡ At (drop c.start c.tokens.list) → IfValue (F.value ts) v
          → Here (ThenValue ts) (Chained (UnderValue second v) (λ x. Given (both v x))) (ends_under F decides G (decides (taken_of ts (drop c.start c.tokens.list))) (drop c.start c.tokens.list)) c
      follow ts (Some v) c y q a o m =
          let rest : List Tok = drop c.start c.tokens.list in
          let z : decides (taken_of ts rest) ≡ Some v = decided_at F decides i d.given ts rest v q a in
          let h = (e v).reads.here c y in
          let k : Answers (ThenValue ts) (and_then (λ us. At us) ((G.under v).ends rest)) c.tokens.list o.verdict o.end =
          chained-here ((G.under v).value rest) (ThenValue ts) (UnderValue second (Some v)) (λ x. Given (both (Some v) x)) ((G.under v).ends rest) (λ us. At us) c y h
          (λ x f n p j. given-here Er (ThenValue ts) f n (both (Some v) x) (with_second ts rest v q a x j)) o m in
          let n : Answers (ThenValue ts) ((G.under v).ends rest) c.tokens.list o.verdict o.end = subst (λ t. Answers (ThenValue ts) t c.tokens.list o.verdict o.end) (and_then_some ((G.under v).ends rest)) k in
          rw z n
      follow ts None c y q a o m = absurd m.meant.runs

  ignore_under-given : Described first F → Each → IsDecided F decides → GivesOnly (under_ends F decides G) IgnoreValue (λ w x. (v : V) × Joined (λ u. F.stands_for u v) (λ u. (G.under v).stands_for u x) w)
  ignore_under-given d e i = record {
    given = λ ts rest x q j.
        let k = is_under ts rest q in
        let v : V = j.0 in
        let a = d.given.given ts k.mid v k.is_first j.1 in
        let y : (G.under v).value k.mid x = ends_at (F.ends ts) k.mid (λ r. (G.under v).value r x) k.is_first j.2 in
        let b = (e v).given.given k.mid rest x (second_at i d.given ts rest v k j.1) y in
        let z : a.word ++ (b.word ++ rest) ≡ (a.word ++ b.word) ++ rest = sym (append_assoc a.word b.word rest) in
        record { word = a.word ++ b.word; all = a.all ∙ ap (λ t. a.word ++ t) b.all ∙ z; is = (v, record { first = a.word; second = b.word; all = refl; is_first = a.is; is_second = b.is }) };
  }

  then_under-given : Described first F → Each → IsDecided F decides → GivesOnly (under_ends F decides G) ThenValue (λ w x. Joined (λ u. F.stands_for u x.0) (λ u. (G.under x.0).stands_for u x.1) w)
  then_under-given d e i = record {
    given = λ ts rest x q j.
        let k = is_under ts rest q in
        let a = d.given.given ts k.mid x.0 k.is_first j.0 in
        let y : (G.under x.0).value k.mid x.1 = ends_at (F.ends ts) k.mid (λ r. (G.under x.0).value r x.1) k.is_first j.1 in
        let b = (e x.0).given.given k.mid rest x.1 (second_at i d.given ts rest x.0 k j.0) y in
        let z : a.word ++ (b.word ++ rest) ≡ (a.word ++ b.word) ++ rest = sym (append_assoc a.word b.word rest) in
        record { word = a.word ++ b.word; all = a.all ∙ ap (λ t. a.word ++ t) b.all ∙ z; is = record { first = a.word; second = b.word; all = refl; is_first = a.is; is_second = b.is } };
  }

  module _ {spare : Type 0} (ef : EndsAfterStart first) (es : EndsAfterStart second) where
    -- `first.ignore_with_ctx(second)`, where the word of the first decides its value
    pub ignore_under-accepts : IsDecided F decides → Accepts first F spare → AcceptsUnder second G spare → Accepts (IgnoringUnder first second) (ignore_under_language F decides G) spare
    ignore_under-accepts = bound-accepts (IgnoringUnder first second) IgnoreValue _ (record {
      reads = ignore_under-by;
      given = ignore_under-given;
      moving = λ f g t. elim (either-true F.moves G.moves t) [
        | inl x ↦ chained-first (Asked true first) (UnderValue second) (asked-moves true first (f x)) (λ v. under-ends second es v)
        | inr x ↦ chained-second (Asked true first) (UnderValue second) (asked-ends true first ef) (λ v. g x v)
      ];
      sparing = λ f g. chained-spares (Asked true first) (UnderValue second) (asked-spares true first f) g;
    })

    -- `first.then_with_ctx(second)`, where the word of the first decides its value
    pub then_under-accepts : IsDecided F decides → Accepts first F spare → AcceptsUnder second G spare → Accepts (SequenceUnder first second) (then_under_language F decides G) spare
    then_under-accepts = bound-accepts (SequenceUnder first second) ThenValue _ (record {
      reads = then_under-by;
      given = then_under-given;
      moving = λ f g t. elim (either-true F.moves G.moves t) [
        | inl x ↦ chained-first (Asked true first) _ (asked-moves true first (f x)) (λ v. chained-ends (UnderValue second v) _ (under-ends second es v) (λ w. given-ends (both v w)))
        | inr x ↦ chained-second (Asked true first) _ (asked-ends true first ef) (λ v. chained-first (UnderValue second v) _ (g x v) (λ w. given-ends (both v w)))
      ];
      sparing = λ f g. chained-spares (Asked true first) _ (asked-spares true first f) (λ v. chained-spares (UnderValue second v) _ (g v) (λ w. given-spares (both v w)));
    })
