-- The language of a part with what it took, in place of its value or beside it: the part's words.
-- Main words: covered_language, with_span_language. Laws: covers-accepts, with_span-accepts. Read first: Covered.antt; Language.antt and Slices.antt of chumsky_parser.
use Rattle.std.proofs.Common.{◌≡◌, ℕ, ◌-◌, ◌≤◌, Bool, true, false, Option, Some, None, option_map, List, length, drop, take, slice_range, refl, ap, subst, arith}
use Rattle.std.proofs.lemmas.List.{length-drop}
use Rattle.chumsky_input.specs.Layout.{Layout}
use Rattle.chumsky_input.specs.Outcome.{Meaning, Beginning, Outcome, Verdict, Yes, No, Halt, Clash}
use Rattle.chumsky_parser.specs.Chained.{Chained, Given, Asked, Follows, from}
use Rattle.chumsky_parser.specs.Ending.{At, Ender, Ends, Within, IfValue, Answers, Reads}
use Rattle.chumsky_parser.specs.EndingLaws.{ends_there, asked-by}
use Rattle.chumsky_parser.specs.Failure.{IsWanted}
use Rattle.chumsky_parser.specs.Language.{Language, Accepts, Described, GivesOnly}
use Rattle.chumsky_parser.specs.LanguageLaws.{with_values, with_values-accepts}
use Rattle.chumsky_parser.specs.Laws.{given-ends}
use Rattle.chumsky_parser.specs.Memory.{NeverOutOfMemory}
use Rattle.chumsky_parser.specs.MemoryLaws.{given-spares, asked-spares, chained-spares}
use Rattle.chumsky_parser.specs.Progress.{Moves}
use Rattle.chumsky_parser.specs.ProgressLaws.{asked-moves, chained-first}
use Rattle.chumsky_parser.specs.Slices.{IsSliceOf}
use Rattle.chumsky_parser.specs.Words.{taken_of}
use Rattle.chumsky_parser.specs.WordsLaws.{ends_at, taken_word}
use Rattle.chumsky_context.specs.Covered.{Cover, Covers, AddsSpan, WithSpan}

-- a value of the word, that reaches over it
abbrev pub CoversTaken : {Tok V : Type 0} → (Layout Tok → ℕ → ℕ → V → Type 0) → Ender Tok → List Tok → V → Type 0
CoversTaken is f ts v = Ends (f ts) (λ rest. IsSliceOf is (taken_of ts rest) v)

-- a value of the part, with what is added to it over the word
abbrev pub AddsTaken : {Tok V W : Type 0} → (Layout Tok → ℕ → ℕ → V → W) → (V → Type 0) → List Tok → W → Type 0
AddsTaken {V = V} with_span P word w = (v : V) × P v × IsSliceOf (λ l i j x. x ≡ with_span l i j v) word w

-- the part's words, each with what reaches over it
abbrev pub covered_language : {Tok V W : Type 0} → (Layout Tok → ℕ → ℕ → W → Type 0) → Language Tok V → Language Tok W
covered_language is F = with_values F (CoversTaken is F.ends) (λ w v. F.word w × IsSliceOf is w v)

-- the part's words and values, each with the span of the word
abbrev pub with_span_language : {Tok V W : Type 0} → (Layout Tok → ℕ → ℕ → V → W) → Language Tok V → Language Tok W
with_span_language with_span F = with_values F (λ ts w. Ends (F.ends ts) (λ rest. AddsTaken with_span (F.value ts) (taken_of ts rest) w)) (λ u w. AddsTaken with_span (F.stands_for u) u w)

-- what was taken between two places
between_places : {Tok : Type 0} (ts : List Tok) (i j : ℕ) → j ≤ length ts → slice_range ts i j ≡ taken_of (drop i ts) (drop j ts)
between_places ts i j l =
    let a : length (drop i ts) ≡ length ts - i = length-drop i ts in
    let b : length (drop j ts) ≡ length ts - j = length-drop j ts in
    let n : j - i ≡ length (drop i ts) - length (drop j ts) = omega (arith, a, b, l) in
    ap (λ k. take k (drop i ts)) n

module _ {Tok Cx St Er V W : Type 0} (part : Meaning Tok Cx St Er V) (next : Option V → Meaning Tok Cx St Er W)
    (f : Ender Tok) (va : List Tok → V → Type 0) (h : Reads part f va) (Q : List Tok → W → Type 0) where
  -- what only gives a value after the part, which is one of what the part took
  abbrev GivesAfter : Beginning Tok Cx St → Type 0
  GivesAfter b =
      (v : Option V) (p : Outcome V Er St) → f (drop b.start b.tokens.list) ≡ At (drop p.end b.tokens.list)
      → p.end ≤ length b.tokens.list → IfValue (va (drop b.start b.tokens.list)) v → (q : Outcome W Er St)
      → next v (from b p) q
      → (u : Option W) × Given u (from b p) q × IfValue (Q (drop b.start b.tokens.list)) u

  given_by : (b : Beginning Tok Cx St) → Within b → GivesAfter b
      → (o : Outcome W Er St) (p : Outcome V Er St) (u : Verdict V Er)
      → Answers (va (drop b.start b.tokens.list)) (f (drop b.start b.tokens.list)) b.tokens.list u p.end
      → Follows u next b p o
      → Answers (Q (drop b.start b.tokens.list)) (f (drop b.start b.tokens.list)) b.tokens.list o.verdict o.end
  given_by b w k o p (Yes v) a s = let y = k v p a.0 a.2 a.1 s.0 s.1 in rw (s.2, y.1) (a.0, y.2, a.2)
  given_by b w k o p No a s = rw s a
  given_by b w k o p (Halt x) a s = rw s a
  given_by b w k o p (Clash x) a s = rw s tt

  gives_after-here : (b : Beginning Tok Cx St) → Within b → GivesAfter b → (o : Outcome W Er St)
      → Chained part next b o
      → Answers (Q (drop b.start b.tokens.list)) (f (drop b.start b.tokens.list)) b.tokens.list o.verdict o.end
  gives_after-here b w k o m = given_by b w k o m.first m.first.verdict (h.here b w m.first m.meant) m.follows

module _ {Tok Cx St Er V W : Type 0} (is : Layout Tok → ℕ → ℕ → W → Type 0) (part : Meaning Tok Cx St Er V) where
  pub covers-move : Moves part → Moves (Covers is part)
  covers-move h b o m y = chained-first (Asked false part) (λ _. Cover is b.start) (asked-moves false part h) (λ _ c p n z. given-ends n.copies.value c p n.copies.given z) b o m.run y

  pub covers-spares : NeverOutOfMemory part → NeverOutOfMemory (Covers is part)
  covers-spares h b o m = chained-spares (Asked false part) (λ _. Cover is b.start) (asked-spares false part h) (λ _ c p n. given-spares n.copies.value c p n.copies.given) b o m.run

  module _ (f : Ender Tok) (va : List Tok → V → Type 0) where
    covering : (v : Option W) (wanted : Bool) (P Q : W → Type 0) → ((u : W) → P u → Q u) → IsWanted P wanted v → IfValue Q v
    covering (Some v) true P Q k i = k v i
    covering (Some v) false P Q k i = absurd i
    covering None w P Q k i = tt

    pub covers-by : Reads part f va → Reads (Covers is part) f (CoversTaken is f)
    covers-by h = record {
      here = λ b w o m.
          let ts : List Tok = drop b.start b.tokens.list in
          gives_after-here (Asked false part) (λ _. Cover is b.start) f va (asked-by part f va h false) (CoversTaken is f) b w
          (λ v p e l i q n.
          let x = n.copies in (
            x.value,
            x.given,
            covering x.value b.wanted (is b.tokens b.start p.end) (CoversTaken is f ts)
                (λ u j. ends_there (f ts) (drop p.end b.tokens.list) (λ rest. IsSliceOf is (taken_of ts rest) u) e
                (slice_between b.tokens b.start p.end l u j))
                x.is_value,
          ))
          o m.run;
    }
      where
        slice_between : (l : Layout Tok) (i j : ℕ) → j ≤ length l.list → (u : W) → is l i j u → IsSliceOf is (taken_of (drop i l.list) (drop j l.list)) u
        slice_between l i j h u k = record { layout = l; from = i; to = j; tokens = between_places l.list i j h; is_slice = k }

  covered-given : {F : Language Tok V} → Described part F → GivesOnly F.ends (CoversTaken is F.ends) (λ w v. F.word w × IsSliceOf is w v)
  covered-given {F} d = record {
    given = λ ts rest v e i.
        let k = d.only.taken ts rest e in
        let j : IsSliceOf is (taken_of ts rest) v = ends_at (F.ends ts) rest (λ r. IsSliceOf is (taken_of ts r) v) e i in
        record { word = k.word; all = k.all; is = (k.is, subst (λ u. IsSliceOf is u v) (taken_word ts rest k.word k.all) j) };
  }

  -- `part.to_slice()` and `part.to_span()`
  pub covers-accepts : {F : Language Tok V} {spare : Type 0} → Accepts part F spare → Accepts (Covers is part) (covered_language is F) spare
  covers-accepts {F} = with_values-accepts part (Covers is part) F (CoversTaken is F.ends) (λ w v. F.word w × IsSliceOf is w v) (record {
    reads = λ d. covers-by F.ends F.value d.reads;
    given = λ d. covered-given d;
    moving = covers-move;
    sparing = covers-spares;
  })

module _ {Tok Cx St Er V W : Type 0} (with_span : Layout Tok → ℕ → ℕ → V → W) (part : Meaning Tok Cx St Er V) where
  pub with_span-moves : Moves part → Moves (WithSpan with_span part)
  with_span-moves h b o m y = chained-first part (AddsSpan with_span b.start) h (λ v c p n z. given-ends (option_map (with_span c.tokens b.start c.start) v) c p n.given z) b o m.run y

  pub with_span-spares : NeverOutOfMemory part → NeverOutOfMemory (WithSpan with_span part)
  with_span-spares h b o m = chained-spares part (AddsSpan with_span b.start) h (λ v c p n. given-spares (option_map (with_span c.tokens b.start c.start) v) c p n.given) b o m.run

  abbrev SpannedTaken : Ender Tok → (List Tok → V → Type 0) → List Tok → W → Type 0
  SpannedTaken f va ts w = Ends (f ts) (λ rest. AddsTaken with_span (va ts) (taken_of ts rest) w)

  with_span-by : (f : Ender Tok) (va : List Tok → V → Type 0) → Reads part f va → Reads (WithSpan with_span part) f (SpannedTaken f va)
  with_span-by f va h = record {
    here = λ b w o m.
        let ts : List Tok = drop b.start b.tokens.list in
        gives_after-here part (AddsSpan with_span b.start) f va h (SpannedTaken f va) b w
        (λ v p e l i q n. (option_map (with_span b.tokens b.start p.end) v, n.given, each_value b p.end e l v i))
        o m.run;
  }
    where
      each_value : (b : Beginning Tok Cx St) (end : ℕ) → f (drop b.start b.tokens.list) ≡ At (drop end b.tokens.list)
          → end ≤ length b.tokens.list → (v : Option V) → IfValue (va (drop b.start b.tokens.list)) v
          → IfValue (SpannedTaken f va (drop b.start b.tokens.list)) (option_map (with_span b.tokens b.start end) v)
      each_value b end e l None i = tt
      each_value b end e l (Some v) i =
          let ts : List Tok = drop b.start b.tokens.list in
          let rest : List Tok = drop end b.tokens.list in
          let w : W = with_span b.tokens b.start end v in
          let k : IsSliceOf (λ l i j x. x ≡ with_span l i j v) (taken_of ts rest) w =
          record { layout = b.tokens; from = b.start; to = end; tokens = between_places b.tokens.list b.start end l; is_slice = refl }
          in
          ends_there (f ts) rest (λ r. AddsTaken with_span (va ts) (taken_of ts r) w) e (v, i, k)

  with_span-given : {F : Language Tok V} → Described part F → GivesOnly F.ends (SpannedTaken F.ends F.value) (λ u w. AddsTaken with_span (F.stands_for u) u w)
  with_span-given {F} d = record {
    given = λ ts rest w e i.
        let j : AddsTaken with_span (F.value ts) (taken_of ts rest) w = ends_at (F.ends ts) rest (λ r. AddsTaken with_span (F.value ts) (taken_of ts r) w) e i in
        let k = d.given.given ts rest j.0 e j.1 in
        record { word = k.word; all = k.all; is = (j.0, k.is, subst (λ u. IsSliceOf (λ l a z x. x ≡ with_span l a z j.0) u w) (taken_word ts rest k.word k.all) j.2) };
  }

  -- `part.spanned()`
  pub with_span-accepts : {F : Language Tok V} {spare : Type 0} → Accepts part F spare → Accepts (WithSpan with_span part) (with_span_language with_span F) spare
  with_span-accepts {F} = with_values-accepts part (WithSpan with_span part) F (SpannedTaken F.ends F.value) (λ u w. AddsTaken with_span (F.stands_for u) u w) (record {
    reads = λ d. with_span-by F.ends F.value d.reads;
    given = λ d. with_span-given d;
    moving = with_span-moves;
    sparing = with_span-spares;
  })
