-- The language of a part whose value goes through what is shown the run: the part's words, with what is given for their values.
-- Main words: GivesSince, GivesOver, map_with_language. Law: map_with-accepts. Read first: LanguageLaws.antt of chumsky_parser, MappedWith.antt.
use Rattle.std.proofs.Common.{◌≡◌, ℕ, Option, Some, None, List, ◌++◌, drop, refl, sym, ◌∙◌, ap, subst}
use Rattle.chumsky_input.specs.Extra.{Shown}
use Rattle.chumsky_input.specs.Outcome.{Meaning, Beginning, Outcome}
use Rattle.chumsky_parser.specs.Ending.{At, Ender, and_then, Within, IfValue, Answers, Here, Reads}
use Rattle.chumsky_parser.specs.EndingLaws.{chained-on, given-here, and_then_some}
use Rattle.chumsky_parser.specs.Language.{Language, Begins, GivesOnly, Accepts}
use Rattle.chumsky_parser.specs.LanguageLaws.{with_values, with_values-accepts}
use Rattle.chumsky_parser.specs.Showing.{GivesShown, GivenSince, GivenShown, shown_since}
use Rattle.chumsky_combinator.specs.MappedWith.{MappedWith}
use Rattle.chumsky_combinator.specs.MappedWithLaws.{mapped_with-moves, mapped_with-spares}

module _ {Tok Cx St V W : Type 0} (gives : GivesShown Tok Cx St V W) where
  -- given for a value of these tokens, shown a run that begins with them and stands where the part ended
  pub record GivesSince (ends : Ender Tok) (value : List Tok → V → Type 0) (ts : List Tok) (w : W) : Type 0 where
    pub of : V
    pub is_value : value ts of
    pub shown : Shown Tok Cx St
    pub state : St
    pub gives_this : gives of shown w state
    pub since : drop shown.from shown.tokens.list ≡ ts
    pub upto : ends ts ≡ At (drop shown.to shown.tokens.list)

  -- given for a value that a word stands for, shown that word
  pub record GivesOver (stands_for : List Tok → V → Type 0) (word : List Tok) (w : W) : Type 0 where
    pub of : V
    pub stands : stands_for word of
    pub shown : Shown Tok Cx St
    pub state : St
    pub gives_this : gives of shown w state
    pub over : drop shown.from shown.tokens.list ≡ word ++ drop shown.to shown.tokens.list

  -- the part's words, with what is given for their values
  abbrev pub map_with_language : Language Tok V → Language Tok W
  map_with_language F = with_values F (GivesSince F.ends F.value) (GivesOver F.stands_for)

  module _ (f : Ender Tok) (value : List Tok → V → Type 0) (ts : List Tok) (from : ℕ) where
    given_since : {Er : Type 0} (v : Option V) → IfValue (value ts) v → (c : Beginning Tok Cx St) → Within c → drop from c.tokens.list ≡ ts → f ts ≡ At (drop c.start c.tokens.list)
        → (o : Outcome W Er St) → GivenSince gives from v c o → Answers (GivesSince f value ts) (At (drop c.start c.tokens.list)) c.tokens.list o.verdict o.end
    given_since (Some v) i c y s e o m =
        let r : GivesSince f value ts m.0 = record { of = v; is_value = i; shown = shown_since from c; state = m.1; gives_this = m.2; since = s; upto = e } in
        rw m.3 (refl, r, y.start)
    given_since {Er} None i c y s e o m = given-here Er (GivesSince f value ts) c y None tt o m

    -- what is given, for a value of these tokens, shown what was taken of them
    pub given_shown-here : {Er : Type 0} (v : Option V) → IfValue (value ts) v → (c : Beginning Tok Cx St) → Within c → drop from c.tokens.list ≡ ts → f ts ≡ At (drop c.start c.tokens.list)
        → Here (GivesSince f value ts) {Er = Er} (GivenShown gives from v) (At (drop c.start c.tokens.list)) c
    given_shown-here v i c y s e o m = given_since v i c y s e o m.by_value

  module _ {Er : Type 0} (part : Meaning Tok Cx St Er V) (f : Ender Tok) (value : List Tok → V → Type 0) (h : Reads part f value) where
    -- `map_with`
    mapped_with-by : Reads (MappedWith gives part) f (GivesSince f value)
    mapped_with-by = record {
      here = λ b w o m.
          let ts : List Tok = drop b.start b.tokens.list in
          let Q : W → Type 0 = GivesSince f value ts in
          let z : Answers Q (and_then (λ us. At us) (f ts)) b.tokens.list o.verdict o.end =
          chained-on (value ts) Q part (GivenShown gives b.start) (f ts) (λ us. At us) b w (h.here b w)
          (λ v c y t e i. given_shown-here f value ts b.start v i c y (ap (λ l. drop b.start l.list) t) e) o m.run in
          subst (λ q. Answers Q q b.tokens.list o.verdict o.end) (and_then_some (f ts)) z;
    }

  module _ (f : Ender Tok) (value stands_for : List Tok → V → Type 0) where
    -- what is given for a value is given over the word that it stands for
    pub gives_over : (ts rest : List Tok) (w : W) → f ts ≡ At rest → (i : GivesSince f value ts w) → Begins (λ u. stands_for u i.of) ts rest → Begins (λ u. GivesOver stands_for u w) ts rest
    gives_over ts rest w e i b =
        let z : At (drop i.shown.to i.shown.tokens.list) ≡ At rest = sym i.upto ∙ e in
        let r : rest ≡ drop i.shown.to i.shown.tokens.list = cc z in
        let a : drop i.shown.from i.shown.tokens.list ≡ b.word ++ drop i.shown.to i.shown.tokens.list = i.since ∙ b.all ∙ ap (λ u. b.word ++ u) r in
        record { word = b.word; all = b.all; is = record { of = i.of; stands = b.is; shown = i.shown; state = i.state; gives_this = i.gives_this; over = a } }

    mapped_with-gives_only : GivesOnly f value stands_for → GivesOnly f (GivesSince f value) (GivesOver stands_for)
    mapped_with-gives_only h = record { given = λ ts rest w e i. gives_over ts rest w e i (h.given ts rest i.of e i.is_value) }

  -- `part.map_with(gives)`
  pub map_with-accepts : {Er : Type 0} (part : Meaning Tok Cx St Er V) {F : Language Tok V} {spare : Type 0} → Accepts part F spare → Accepts (MappedWith gives part) (map_with_language F) spare
  map_with-accepts part {F} = with_values-accepts part (MappedWith gives part) F (GivesSince F.ends F.value) (GivesOver F.stands_for) (record {
    reads = λ d. mapped_with-by part F.ends F.value d.reads;
    given = λ d. mapped_with-gives_only F.ends F.value F.stands_for d.given;
    moving = mapped_with-moves gives part;
    sparing = mapped_with-spares gives part;
  })
