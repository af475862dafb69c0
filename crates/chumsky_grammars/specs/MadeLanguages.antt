-- What nodes make of their parts accepts the language that is said: values that are made, and parts that are waited for.
-- Main laws: in_memory-accepts, made-accepts, pair-accepts, waited-accepts. Read first: RuleLanguage.antt, Means.antt of chumsky_recursive.
use Rattle.std.proofs.Common.{◌≡◌, Bool, true, false, ◌||◌, Option, Some, None, List, drop, subst, inl, inr}
use Rattle.chumsky_input.specs.Outcome.{Meaning, Beginning, EndsAfterStart}
use Rattle.chumsky_parser.specs.Chained.{Chained, both}
use Rattle.chumsky_parser.specs.Ending.{Ending, At, Ender, and_then, Ends, Within, IfValue, Answers, Here, Reads}
use Rattle.chumsky_parser.specs.EndingLaws.{chained-here, given-here, and_then_some, ends_there, refuses-by}
use Rattle.chumsky_parser.specs.FurtherLaws.{then-further, then-decided}
use Rattle.chumsky_parser.specs.Language.{Language, Accepts}
use Rattle.chumsky_parser.specs.Laws.{chained-ends}
use Rattle.chumsky_parser.specs.Progress.{IsYes, Moves}
use Rattle.chumsky_parser.specs.ProgressLaws.{both-true, either-true, chained-first, chained-second}
use Rattle.chumsky_parser.specs.SequenceLanguage.{then_language}
use Rattle.chumsky_parser.specs.Words.{then_ends}
use Rattle.chumsky_parser.specs.WordsLaws.{then-takes_only, then-takes_each, then-gives_only, map-gives_only}
use Rattle.chumsky_combinator.specs.MappedLanguage.{MapsSome}
use Rattle.chumsky_recursive.specs.Means.{Made, OrNoMemory, waited_if}
use Rattle.chumsky_recursive.specs.MeansLaws.{made-ends}
use Rattle.chumsky_grammars.specs.RuleLanguage.{in_memory, made_language}

module _ {Tok Cx St Er V : Type 0} (m : Meaning Tok Cx St Er V) where
  -- it accepts the same, where each run may take memory
  pub in_memory-accepts : {F : Language Tok V} {spare other : Type 0} → Accepts m F spare → Accepts m (in_memory F) other
  in_memory-accepts h = record {
    described = λ s. let d = h.described s in record { reads = d.reads; only = d.only; given = d.given; each = d.each; decided = d.decided; further = d.further };
    moving = h.moving;
    sparing = λ q t. absurd t;
  }

  waited_here : (may_lack : Bool → Type 0) (P : V → Type 0) (x : Ending (List Tok)) (b : Beginning Tok Cx St) → Here P m x b → Here P (OrNoMemory may_lack m) x b
  waited_here may_lack P x b h o n = elim n.cases [ inl r ↦ refuses-by P x b.tokens.list o r | inr y ↦ h o y ]

  waited_moves : (may_lack : Bool → Type 0) → Moves m → Moves (OrNoMemory may_lack m)
  waited_moves may_lack h b o n y = elim n.cases [ inl r ↦ absurd (subst IsYes r.1 y) | inr x ↦ h b o x y ]

  -- a part that may be waited for, of which each run may take memory
  pub waited-accepts : {F : Language Tok V} {spare : Type 0} (may_lack : Bool → Type 0) (waits : Bool) → (F.takes_no_memory → ⊥) → Accepts m F spare → Accepts (waited_if may_lack waits m) F spare
  waited-accepts {F} may_lack true never h = record {
    described = λ s.
        let d = h.described s in
        record {
          reads = record { here = λ b w. let ts : List Tok = drop b.start b.tokens.list in waited_here may_lack (F.value ts) (F.ends ts) b (d.reads.here b w) };
          only = d.only;
          given = d.given;
          each = d.each;
          decided = d.decided;
          further = d.further;
        };
    moving = λ e. waited_moves may_lack (h.moving e);
    sparing = λ q t. absurd (never t);
  }
  waited-accepts may_lack false never h = h

module _ {V W : Type 0} (gives : V → Option W → Type 0) where
  -- what is made of a value, where there is memory
  abbrev pub given_by : V → W → Type 0
  given_by v w = gives v (Some w)

  module _ {Tok Cx St Er : Type 0} (value : List Tok → V → Type 0) (ts : List Tok) where
    -- a value that is made of one of these
    made_here : (v : Option V) → IfValue (value ts) v → (c : Beginning Tok Cx St) → Within c → Here (MapsSome value given_by ts) {Er = Er} (Made gives v) (At (drop c.start c.tokens.list)) c
    made_here (Some p) i c y o m = elim m.by_value [
      | inl g ↦ given-here Er (MapsSome value given_by ts) c y (Some g.0) (p, i, g.1) o g.2
      | inr r ↦ refuses-by (MapsSome value given_by ts) (At (drop c.start c.tokens.list)) c.tokens.list o r
    ]
    made_here None i c y o m = given-here Er (MapsSome value given_by ts) c y None tt o m.by_value

  module _ {Tok Cx St Er : Type 0} (part : Meaning Tok Cx St Er V) where
    made-by : (f : Ender Tok) (value : List Tok → V → Type 0) → Reads part f value → Reads (Chained part (Made gives)) f (MapsSome value given_by)
    made-by f value h = record {
      here = λ b w o m.
          let ts : List Tok = drop b.start b.tokens.list in
          let z : Answers (MapsSome value given_by ts) (and_then (λ us. At us) (f ts)) b.tokens.list o.verdict o.end =
          chained-here (value ts) (MapsSome value given_by ts) part (Made gives) (f ts) (λ us. At us) b w (h.here b w) (λ v c y e i. made_here value ts v i c y) o m in
          subst (λ q. Answers (MapsSome value given_by ts) q b.tokens.list o.verdict o.end) (and_then_some (f ts)) z;
    }

    -- a value made of that of a part
    pub made-accepts : {F : Language Tok V} {spare : Type 0} → Accepts part F spare → Accepts (Chained part (Made gives)) (made_language given_by F) spare
    made-accepts {F} h = record {
      described = λ s.
          let d = h.described s in
          record {
            reads = made-by F.ends F.value d.reads;
            only = d.only;
            given = map-gives_only F.ends F.value F.stands_for d.given given_by;
            each = d.each;
            decided = d.decided;
            further = d.further;
          };
      moving = λ e. chained-first part (Made gives) (h.moving e) (λ v. made-ends gives v);
      sparing = λ q t. absurd t;
    }

module _ {Tok Cx St Er V W X : Type 0} (first : Meaning Tok Cx St Er V) (second : Meaning Tok Cx St Er W) (pairs : V × W → Option X → Type 0) where
  -- one part, then the other, and a value made of both
  abbrev Paired : Meaning Tok Cx St Er X
  Paired = Chained first (λ v. Chained second (λ w. Made pairs (both v w)))

  module _ (f g : Ender Tok) (va : List Tok → V → Type 0) (vb : List Tok → W → Type 0) (h : Reads first f va) (k : Reads second g vb) where
    abbrev Two : List Tok → V × W → Type 0
    Two ts v = va ts v.0 × Ends (f ts) (λ rest. vb rest v.1)

    two_values : (ts rest : List Tok) → f ts ≡ At rest → (v : Option V) (w : Option W) → IfValue (va ts) v → IfValue (vb rest) w → IfValue (Two ts) (both v w)
    two_values ts rest e (Some v) (Some w) i j = (i, ends_there (f ts) rest (λ r. vb r w) e j)
    two_values ts rest e (Some v) None i j = tt
    two_values ts rest e None w i j = tt

    pair-by : Reads Paired (then_ends f g) (MapsSome Two (given_by pairs))
    pair-by = record {
      here = λ b w.
          let ts : List Tok = drop b.start b.tokens.list in
          let R : X → Type 0 = MapsSome Two (given_by pairs) ts in
          chained-here (va ts) R first _ (f ts) g b w (h.here b w)
          (λ v c y e i o m.
          let rest : List Tok = drop c.start c.tokens.list in
          let z : Answers R (and_then (λ us. At us) (g rest)) c.tokens.list o.verdict o.end =
          chained-here (vb rest) R second (λ u. Made pairs (both v u)) (g rest) (λ us. At us) c y (k.here c y)
          (λ u d x e' j. made_here pairs Two ts (both v u) (two_values ts rest e v u i j) d x) o m in
          subst (λ q. Answers R q c.tokens.list o.verdict o.end) (and_then_some (g rest)) z);
    }

  paired-moves : (a b : Bool) → EndsAfterStart first → EndsAfterStart second → (a ≡ true → Moves first) → (b ≡ true → Moves second) → a || b ≡ true → Moves Paired
  paired-moves a b ef es hf hs e =
      elim (either-true a b e) [
        | inl x ↦ chained-first first _ (hf x) (λ v. chained-ends second _ es (λ w. made-ends pairs (both v w)))
        | inr x ↦ chained-second first _ ef (λ v. chained-first second _ (hs x) (λ w. made-ends pairs (both v w)))
      ]

  pub pair-accepts : {F : Language Tok V} {G : Language Tok W} {spare : Type 0} → EndsAfterStart first → EndsAfterStart second → Accepts first F spare → Accepts second G spare
      → Accepts Paired (made_language (given_by pairs) (then_language F G)) spare
  pair-accepts {F} {G} ef es h k = record {
    described = λ s.
        let t = both-true F.said G.said s in
        let d = h.described t.0 in
        let e = k.described t.1 in
        let gives = then-gives_only F.ends G.ends F.value G.value F.stands_for G.stands_for d.given e.given in
        record {
          reads = pair-by F.ends G.ends F.value G.value d.reads e.reads;
          only = then-takes_only F.ends G.ends F.word G.word d.only e.only;
          given = map-gives_only (then_ends F.ends G.ends) _ _ gives (given_by pairs);
          each = λ u. then-takes_each F.ends G.ends F.word G.word F.follow G.follow (d.each u.0) (e.each u.1) u.2;
          decided = then-decided F.ends G.ends F.word d.only F.moves d.further F.refused_from G.refused_from d.decided e.decided;
          further = then-further F.ends G.ends F.word G.word d.only e.only F.moves G.moves d.further e.further;
        };
    moving = paired-moves F.moves G.moves ef es h.moving k.moving;
    sparing = λ q t. absurd t;
  }
