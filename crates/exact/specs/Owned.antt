-- What a part gives, copied into a value of its own: the part's words, and out of memory for the copy.
-- Main words: Owns, owned_language. Main laws: owns-ends, owns-agrees, owned-accepts. Read first: Mapped.antt and MappedLanguage.antt of chumsky_combinator, Copied.antt of chumsky_parser.
use Rattle.std.proofs.Common.{Option, Some, None, List, drop, subst, inl, inr}
use Rattle.std.specs.Prelude.{⊤}
use Rattle.chumsky_input.specs.Outcome.{Meaning, Beginning, Outcome, IsAnswer, SameValue, EndsAfterStart, Agreeing}
use Rattle.chumsky_parser.specs.Chained.{Chained, Given}
use Rattle.chumsky_parser.specs.Copied.{GivesCopy}
use Rattle.chumsky_parser.specs.Ending.{At, Ender, and_then, Within, IfValue, Answers, Reads}
use Rattle.chumsky_parser.specs.EndingLaws.{chained-here, given-here, copy-by, answers_weaker, and_then_some}
use Rattle.chumsky_parser.specs.Language.{Language, Accepts}
use Rattle.chumsky_parser.specs.LanguageLaws.{with_values}
use Rattle.chumsky_parser.specs.Laws.{chained-ends, chained-agrees, given-ends, given-agrees}
use Rattle.chumsky_parser.specs.Progress.{Moves}
use Rattle.chumsky_parser.specs.ProgressLaws.{chained-first}
use Rattle.chumsky_parser.specs.WordsLaws.{map-gives_only}
use Rattle.chumsky_combinator.specs.MappedLanguage.{MapsSome}

module _ {Tok Cx St Er V W : Type 0} (copies : V → W → Type 0) where
  -- a copy of the value, where there is one, or out of memory for it
  abbrev pub CopyOf : Option V → Meaning Tok Cx St Er W
  CopyOf (Some v) b o = GivesCopy (copies v) ⊥ b o
  CopyOf None b o = Given None b o

  pub record OwnCopy (v : Option V) (b : Beginning Tok Cx St) (o : Outcome W Er St) : Type 0 where
    pub by_value : CopyOf v b o

  -- the part, and then a copy of its value
  abbrev pub Owns : Meaning Tok Cx St Er V → Meaning Tok Cx St Er W
  Owns part = Chained part OwnCopy

-- the part's words, with copies of their values
abbrev pub owned_language : {Tok V W : Type 0} → (V → W → Type 0) → Language Tok V → Language Tok W
owned_language copies F = record (with_values F (MapsSome F.value copies) (MapsSome F.stands_for copies)) { takes_no_memory = ⊥ }

any_values : {W : Type 0} (x y : Option W) → SameValue (λ (v w : W). ⊤) x y
any_values (Some v) (Some w) = tt
any_values (Some v) None = tt
any_values None y = tt

module _ {Tok Cx St Er V W : Type 0} (copies : V → W → Type 0) where
  -- an answer does nothing
  answer_given : (v : Option V) (b : Beginning Tok Cx St) (o : Outcome W Er St) → CopyOf copies v b o → IsAnswer o.verdict → (x : Option W) × Given x b o
  answer_given (Some v) b o m a = elim m.cases [ inl r ↦ absurd (subst IsAnswer r.1 a) | inr h ↦ (h.value, h.given) ]
  answer_given None b o m a = (None, m)

  own_copy-ends : (v : Option V) → EndsAfterStart (OwnCopy {Tok = Tok} {Cx = Cx} {St = St} {Er = Er} copies v)
  own_copy-ends v b o m a = let g = answer_given v b o m.by_value a in given-ends g.0 b o g.1 a

  own_copy-agrees : (v w : Option V) → Agreeing (λ (x y : W). ⊤) (OwnCopy {Tok = Tok} {Cx = Cx} {St = St} {Er = Er} copies v) (OwnCopy copies w)
  own_copy-agrees v w b c o q alike m n a z =
      let g = answer_given v b o m.by_value a in
      let h = answer_given w c q n.by_value z in
      given-agrees (λ (x y : W). ⊤) g.0 h.0 (any_values g.0 h.0) b c o q alike g.1 h.1 a z

  module _ (part : Meaning Tok Cx St Er V) where
    pub owns-ends : EndsAfterStart part → EndsAfterStart (Owns copies part)
    owns-ends h = chained-ends part _ h own_copy-ends

    pub owns-agrees : Agreeing (λ (x y : V). ⊤) part part → Agreeing (λ (x y : W). ⊤) (Owns copies part) (Owns copies part)
    owns-agrees h = chained-agrees part part _ _ (λ (x y : V). ⊤) (λ (x y : W). ⊤) h (λ v w e. own_copy-agrees v w)

    owns-moves : Moves part → Moves (Owns copies part)
    owns-moves h = chained-first part _ h own_copy-ends

  module _ (value : List Tok → V → Type 0) (ts : List Tok) where
    copy_of-here : (v : Option V) → IfValue (value ts) v → (c : Beginning Tok Cx St) → Within c → (o : Outcome W Er St) → CopyOf copies v c o → Answers (MapsSome value copies ts) (At (drop c.start c.tokens.list)) c.tokens.list o.verdict o.end
    copy_of-here (Some v) i c y o m =
        answers_weaker (copies v) (MapsSome value copies ts) (λ w k. (v, i, k)) (At (drop c.start c.tokens.list)) c.tokens.list o.verdict o.end ((copy-by Er (copies v) ⊥).here c y o m)
    copy_of-here None i c y o m = given-here Er (MapsSome value copies ts) c y None tt o m

  owns-by : (part : Meaning Tok Cx St Er V) (f : Ender Tok) (value : List Tok → V → Type 0) → Reads part f value → Reads (Owns copies part) f (MapsSome value copies)
  owns-by part f value h = record {
    here = λ b w o m.
        let ts : List Tok = drop b.start b.tokens.list in
        let z : Answers (MapsSome value copies ts) (and_then (λ us. At us) (f ts)) b.tokens.list o.verdict o.end =
        chained-here (value ts) (MapsSome value copies ts) part (OwnCopy copies) (f ts) (λ us. At us) b w (h.here b w) (λ v c y e i p n. copy_of-here value ts v i c y p n.by_value) o m in
        subst (λ q. Answers (MapsSome value copies ts) q b.tokens.list o.verdict o.end) (and_then_some (f ts)) z;
  }

  pub owned-accepts : (part : Meaning Tok Cx St Er V) {F : Language Tok V} {spare : Type 0} → Accepts part F spare → Accepts (Owns copies part) (owned_language copies F) spare
  owned-accepts part {F} h = record {
    described = λ s.
        let d = h.described s in
        record { reads = owns-by part F.ends F.value d.reads; only = d.only; given = map-gives_only F.ends F.value F.stands_for d.given copies; each = d.each; decided = d.decided; further = d.further };
    moving = λ e. owns-moves part (h.moving e);
    sparing = λ q t. absurd t;
  }
