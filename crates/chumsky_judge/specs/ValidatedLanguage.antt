-- The language of a part whose value a validator looks at: the part's words, with what the validator answers.
-- Main words: validated_language, ValidatedAs. Law: validated-accepts. Read first: Validated.antt, chumsky_parser's Language.antt.
use Rattle.std.proofs.Common.{◌≡◌, ℕ, ◌≤◌, true, Option, Some, None, List, [], drop, refl, ap, subst, arith, inl, inr}
use Rattle.chumsky_input.specs.Extra.{Shown}
use Rattle.chumsky_input.specs.Outcome.{Meaning, Beginning, Outcome, IsAnswer, EndsAfterStart}
use Rattle.chumsky_parser.specs.Chained.{Asked}
use Rattle.chumsky_parser.specs.Ending.{At, Ender, and_then, Within, IfValue, Answers, Here, Reads}
use Rattle.chumsky_parser.specs.EndingLaws.{and_then_some, refuses-by, chained-here, asked-here, wanting_value}
use Rattle.chumsky_parser.specs.Language.{Language, Accepts, GivesOnly}
use Rattle.chumsky_parser.specs.LanguageLaws.{with_values}
use Rattle.chumsky_parser.specs.Memory.{SparesMemory, NeverOutOfMemory}
use Rattle.chumsky_parser.specs.MemoryLaws.{asked-spares, chained-spares}
use Rattle.chumsky_parser.specs.Progress.{Moves}
use Rattle.chumsky_parser.specs.ProgressLaws.{asked-moves, chained-first}
use Rattle.chumsky_judge.specs.Validated.{Emits, EmitsAll, Validated, MeansValidate}

module _ {Tok Cx St Er V W : Type 0} (emits : Emits Tok Cx St Er V W) where
  -- what the validator may answer to a value with P, shown some run
  pub record ValidatedAs (P : V → Type 0) (w : W) : Type 0 where
    pub value : V
    pub is : P value
    pub shown : Shown Tok Cx St
    pub state : St
    pub emitted : Option (List Er)
    pub answers : emits value shown w state emitted

  -- the validator emits no error
  abbrev pub EmitsNothing : Type 0
  EmitsNothing = (v : V) (x : Shown Tok Cx St) (w : W) (s : St) (emitted : Option (List Er)) → emits v x w s emitted → emitted ≡ Some []

  -- the part's words; no memory is taken where the validator emits nothing
  abbrev pub validated_language : Language Tok V → Language Tok W
  validated_language F = record (with_values F (λ ts. ValidatedAs (F.value ts)) (λ u. ValidatedAs (F.stands_for u))) { takes_no_memory = F.takes_no_memory × EmitsNothing }

  module _ (part : Meaning Tok Cx St Er V) where
    emits_all-ends : (r : Option (List Er)) (w : W) (s : St) (b : Beginning Tok Cx St) (o : Outcome W Er St) → EmitsAll r w s b o → IsAnswer o.verdict → b.start ≤ o.end
    emits_all-ends r w s b o (inl h) a = let e = ap (λ (x : Outcome W Er St). x.end) h.2 in omega arith
    emits_all-ends r w s b o (inr h) a = absurd (subst IsAnswer h.1 a)

    validated_each-ends : (start : ℕ) (v : Option V) → EndsAfterStart (Validated emits start v)
    validated_each-ends start (Some v) b o m a = emits_all-ends m.2 m.0 m.1 b o m.4 a
    validated_each-ends start None b o m a = absurd m

    -- a part whose value a validator looks at
    pub validated-moves : Moves part → Moves (MeansValidate emits part)
    validated-moves h b o m y = chained-first (Asked true part) (Validated emits b.start) (asked-moves true part h) (validated_each-ends b.start) b o m.run y

    emits_all-spares : (r : Option (List Er)) (w : W) (s : St) (b : Beginning Tok Cx St) (o : Outcome W Er St) → r ≡ Some [] → EmitsAll r w s b o → SparesMemory o.verdict
    emits_all-spares r w s b o e (inl h) = rw (ap (λ (x : Outcome W Er St). x.verdict) h.2) tt
    emits_all-spares r w s b o e (inr h) = absurd (h.0 e)

    validated_each-spares : EmitsNothing → (start : ℕ) (v : Option V) → NeverOutOfMemory (Validated emits start v)
    validated_each-spares n start (Some v) b o m = emits_all-spares m.2 m.0 m.1 b o (n v _ m.0 m.1 m.2 m.3) m.4
    validated_each-spares n start None b o m = absurd m

    validated-spares : EmitsNothing → NeverOutOfMemory part → NeverOutOfMemory (MeansValidate emits part)
    validated-spares n h b o m = chained-spares (Asked true part) (Validated emits b.start) (asked-spares true part h) (validated_each-spares n b.start) b o m.run

    validated_each-here : (P : V → Type 0) (start : ℕ) (v : Option V) → IfValue P v → (c : Beginning Tok Cx St)
        → Within c → Here (ValidatedAs P) (Validated emits start v) (At (drop c.start c.tokens.list)) c
    validated_each-here P start (Some v) i c y o m = by_case m.4
      where
        answered : ValidatedAs P m.0
        answered = record { value = v; is = i; shown = _; state = m.1; emitted = m.2; answers = m.3 }

        by_case : EmitsAll m.2 m.0 m.1 c o → Answers (ValidatedAs P) (At (drop c.start c.tokens.list)) c.tokens.list o.verdict o.end
        by_case (inl h) = rw h.2 (refl, wanting_value (ValidatedAs P) m.0 answered c.wanted, y.start)
        by_case (inr h) = refuses-by (ValidatedAs P) (At (drop c.start c.tokens.list)) c.tokens.list o h
    validated_each-here P start None i c y o m = absurd m

    validated-by : (f : Ender Tok) (va : List Tok → V → Type 0) → Reads part f va → Reads (MeansValidate emits part) f (λ ts. ValidatedAs (va ts))
    validated-by f va h = record {
      here = λ b w o m.
          let ts : List Tok = drop b.start b.tokens.list in
          let Q : W → Type 0 = ValidatedAs (va ts) in
          let z : Answers Q (and_then (λ us. At us) (f ts)) b.tokens.list o.verdict o.end =
          chained-here (va ts) Q (Asked true part) (Validated emits b.start) (f ts) (λ us. At us) b w
          (asked-here (va ts) b true part (f ts) (h.here (record b { wanted = true }) (record { start = w.start; few = w.few })))
          (λ v c y e i. validated_each-here (va ts) b.start v i c y) o m.run in
          subst (λ q. Answers Q q b.tokens.list o.verdict o.end) (and_then_some (f ts)) z;
    }

    validated-given : (f : Ender Tok) (va of : List Tok → V → Type 0) → GivesOnly f va of → GivesOnly f (λ ts. ValidatedAs (va ts)) (λ u. ValidatedAs (of u))
    validated-given f va of h = record {
      given = λ ts rest w e i.
          let k = h.given ts rest i.value e i.is in
          record { word = k.word; all = k.all; is = record { value = i.value; is = k.is; shown = i.shown; state = i.state; emitted = i.emitted; answers = i.answers } };
    }

    -- `part.validate(..)`
    pub validated-accepts : {F : Language Tok V} {spare : Type 0} → Accepts part F spare → Accepts (MeansValidate emits part) (validated_language F) spare
    validated-accepts {F} h = record {
      described = λ s.
          let d = h.described s in
          record { reads = validated-by F.ends F.value d.reads; only = d.only; given = validated-given F.ends F.value F.stands_for d.given; each = d.each; decided = d.decided; further = d.further };
      moving = λ e. validated-moves (h.moving e);
      sparing = λ q t. validated-spares t.1 (h.sparing q t.0);
    }
