-- Items that are configured by the context, once for each iteration.
-- Main words: BeginsBeside, GivesBeside. Laws: ConfiguredItemsLaws.antt. Read first: Configured.antt, Carried.antt.
use Rattle.std.specs.Prelude.{◌≡◌, Option, Some, None}
use Rattle.chumsky_input.specs.Outcome.{Meaning, Beginning, Outcome}
use Rattle.chumsky_parser.specs.Chained.{Chained, Given}
use Rattle.chumsky_parser.specs.Items.{Next}
use Rattle.chumsky_context.specs.Carried.{Carried}

module _ {Tok Cx St Er S C : Type 0} (sets : Cx → C → Type 0) where
  -- where an iteration was made, it is given beside a configuration that is made under the context
  abbrev pub BesideAs : Option S → Meaning Tok Cx St Er (S × C)
  BesideAs (Some s) b o = (c : C) × sets b.context c × Given (Some (s, c)) b o
  BesideAs None b o = ⊥

  -- the same, as a record
  pub record Beside (s : Option S) (b : Beginning Tok Cx St) (o : Outcome (S × C) Er St) : Type 0 where
    pub made : BesideAs s b o

  -- an iteration is made, and then a configuration beside it
  abbrev pub BeginsBeside : Meaning Tok Cx St Er S → Meaning Tok Cx St Er (S × C)
  BeginsBeside begins = Chained begins Beside

-- a step by the configuration that lies beside the iteration; the configuration stays
abbrev pub GivesBeside : {Tok Cx St Er S C V : Type 0} → (C → S → Meaning Tok Cx St Er (Next S V)) → S × C → Meaning Tok Cx St Er (Next (S × C) V)
GivesBeside gives s = Carried (λ t. (t, s.1)) (gives s.1 s.0)

-- two iterations that are alike, beside equal configurations
abbrev pub AlikeBeside : {S C : Type 0} → (S → S → Type 0) → S × C → S × C → Type 0
AlikeBeside alike s t = alike s.0 t.0 × (s.1 ≡ t.1)
