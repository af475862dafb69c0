-- The language of a part whose value is mapped, replaced or left out: the part's words, with other values.
-- Main words: MapsSome, map_language, to_language, ignored_language. Laws: map-accepts, to-accepts, ignored-accepts. Read first: Language.antt and LanguageLaws.antt of chumsky_parser, Mapped.antt.
use Rattle.std.proofs.Common.{false, Option, Some, None, List, drop, subst}
use Rattle.std.specs.Prelude.{⊤}
use Rattle.chumsky_input.specs.Outcome.{Meaning, Beginning, Outcome}
use Rattle.chumsky_parser.specs.Copied.{GivesCopy}
use Rattle.chumsky_parser.specs.Ending.{At, Ender, and_then, Within, IfValue, Answers, Here, Reads}
use Rattle.chumsky_parser.specs.EndingLaws.{chained-here, given-here, and_then_some, copy-by, gives-by, then_given-by}
use Rattle.chumsky_parser.specs.Ignoring.{Gives, IgnoringFirst}
use Rattle.chumsky_parser.specs.IgnoringLaws.{copy-ends, gives-ends}
use Rattle.chumsky_parser.specs.Language.{Language, Accepts}
use Rattle.chumsky_parser.specs.LanguageLaws.{with_values, with_values-accepts}
use Rattle.chumsky_parser.specs.MemoryLaws.{copy-spares, gives-spares, ignoring_first-spares}
use Rattle.chumsky_parser.specs.ProgressLaws.{asked-moves, chained-first}
use Rattle.chumsky_parser.specs.WordsLaws.{map-gives_only, to-gives_only}
use Rattle.chumsky_combinator.specs.Mapped.{GivenAs, GivenBy, Mapped}
use Rattle.chumsky_combinator.specs.MappedLaws.{mapped-moves, mapped-spares}

-- what a mapper may give for one of these values
abbrev pub MapsSome : {Tok V W : Type 0} → (List Tok → V → Type 0) → (V → W → Type 0) → List Tok → W → Type 0
MapsSome {V = V} value maps ts w = (v : V) × value ts v × maps v w

-- the part's words, with what a mapper gives for their values
abbrev pub map_language : {Tok V W : Type 0} → (V → W → Type 0) → Language Tok V → Language Tok W
map_language maps F = with_values F (MapsSome F.value maps) (MapsSome F.stands_for maps)

-- the part's words, with copies of a value, which takes no memory where copying it doesn't
abbrev pub to_language : {Tok V W : Type 0} → (W → Type 0) → Type 0 → Language Tok V → Language Tok W
to_language copies safe F = record (with_values F (λ ts. copies) (λ w v. F.word w × copies v)) { takes_no_memory = F.takes_no_memory × safe }

-- the part's words alone
abbrev pub ignored_language : {Tok V : Type 0} → Language Tok V → Language Tok (Unit {0})
ignored_language F = with_values F (λ ts v. ⊤) (λ w v. F.word w)

module _ {Tok Cx St Er V W : Type 0} (maps : V → W → Type 0) (value : List Tok → V → Type 0) (ts : List Tok) where
  given_as : (v : Option V) → IfValue (value ts) v → (c : Beginning Tok Cx St) → Within c → (o : Outcome W Er St) → GivenAs maps v c o
      → Answers (MapsSome value maps ts) (At (drop c.start c.tokens.list)) c.tokens.list o.verdict o.end
  given_as (Some v) i c y o m = given-here Er (MapsSome value maps ts) c y (Some m.0) (v, i, m.1) o m.2
  given_as None i c y o m = given-here Er (MapsSome value maps ts) c y None tt o m

  -- what a mapper gives, for a value of these tokens
  pub given_by-here : (v : Option V) → IfValue (value ts) v → (c : Beginning Tok Cx St) → Within c → Here (MapsSome value maps ts) {Er = Er} (GivenBy maps v) (At (drop c.start c.tokens.list)) c
  given_by-here v i c y o m = given_as v i c y o m.by_value

module _ {Tok Cx St Er V W : Type 0} (maps : V → W → Type 0) (part : Meaning Tok Cx St Er V) where
  module _ (f : Ender Tok) (value : List Tok → V → Type 0) (h : Reads part f value) where
    -- `map`
    pub mapped-by : Reads (Mapped maps part) f (MapsSome value maps)
    mapped-by = record {
      here = λ b w o m.
          let ts : List Tok = drop b.start b.tokens.list in
          let z : Answers (MapsSome value maps ts) (and_then (λ us. At us) (f ts)) b.tokens.list o.verdict o.end =
          chained-here (value ts) (MapsSome value maps ts) part (GivenBy maps) (f ts) (λ us. At us) b w (h.here b w) (λ v c y e i. given_by-here maps value ts v i c y) o m in
          subst (λ q. Answers (MapsSome value maps ts) q b.tokens.list o.verdict o.end) (and_then_some (f ts)) z;
    }

  -- `part.map(maps)`
  pub map-accepts : {F : Language Tok V} {spare : Type 0} → Accepts part F spare → Accepts (Mapped maps part) (map_language maps F) spare
  map-accepts {F} h = with_values-accepts part (Mapped maps part) F (MapsSome F.value maps) (MapsSome F.stands_for maps) (record {
    reads = λ d. mapped-by F.ends F.value d.reads;
    given = λ d. map-gives_only F.ends F.value F.stands_for d.given maps;
    moving = mapped-moves maps part;
    sparing = mapped-spares maps part;
  }) h

module _ {Tok Cx St Er V : Type 0} (part : Meaning Tok Cx St Er V) {F : Language Tok V} {spare : Type 0} where
  -- `part.to(value)`
  pub to-accepts : {W : Type 0} (copies : W → Type 0) (safe : Type 0) → Accepts part F spare → Accepts (IgnoringFirst part (GivesCopy copies safe)) (to_language copies safe F) spare
  to-accepts copies safe h = record {
    described = λ s.
        let d = h.described s in
        record {
          reads = then_given-by part (GivesCopy copies safe) F.ends F.value copies d.reads (copy-by Er copies safe);
          only = d.only;
          given = to-gives_only F.ends F.word d.only copies;
          each = d.each;
          decided = d.decided;
          further = d.further;
        };
    moving = λ e. chained-first _ _ (asked-moves false part (h.moving e)) (λ _. copy-ends copies safe);
    sparing = λ q t. ignoring_first-spares part (GivesCopy copies safe) (h.sparing q t.0) (copy-spares copies safe t.1);
  }

  -- `part.ignored()`
  pub ignored-accepts : Accepts part F spare → Accepts (IgnoringFirst part (Gives (tt {0}))) (ignored_language F) spare
  ignored-accepts = with_values-accepts part (IgnoringFirst part (Gives (tt {0}))) F (λ ts v. ⊤) (λ w v. F.word w) (record {
    reads = λ d. then_given-by part (Gives tt) F.ends F.value (λ v. ⊤) d.reads (gives-by Er (λ v. ⊤) tt tt);
    given = λ d. record { given = λ ts rest v e i. d.only.taken ts rest e };
    moving = λ h. chained-first _ _ (asked-moves false part h) (λ _. gives-ends tt);
    sparing = λ h. ignoring_first-spares part (Gives tt) h (gives-spares tt);
  })
