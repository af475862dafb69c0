-- The language of a part that a label names: the part's own.
-- Main word: labelled_language. Laws: labelled-accepts, labelled-moves. Read first: Labelled.antt, chumsky_parser's Language.antt.
use Rattle.std.proofs.Common.{◌<◌, Option, List, drop, ap, subst, arith, inl, inr}
use Rattle.chumsky_input.specs.Outcome.{Meaning, Beginning, Outcome, Yes, No}
use Rattle.chumsky_parser.specs.Ending.{Ender, Reads}
use Rattle.chumsky_parser.specs.EndingLaws.{refuses-by}
use Rattle.chumsky_parser.specs.Language.{Language, Accepts}
use Rattle.chumsky_parser.specs.Memory.{NeverOutOfMemory}
use Rattle.chumsky_parser.specs.Progress.{IsYes, Moves}
use Rattle.chumsky_judge.specs.JudgedEndings.{judged-here, or_clash-by}
use Rattle.chumsky_judge.specs.JudgedMoves.{clash-yes, judged-moves}
use Rattle.chumsky_judge.specs.JudgedSpares.{or_clash-spares, judged-spares}
use Rattle.chumsky_label.specs.Labelled.{LabelledAs, MeansLabelled}

-- the part's, where putting in the label takes no memory either
abbrev pub labelled_language : {Tok V : Type 0} → Type 0 → Language Tok V → Language Tok V
labelled_language free F = record F { takes_no_memory = F.takes_no_memory × free }

module _ {Tok Cx St Er V : Type 0} (merged : Er → Er → Er) (maps : Er → Er → Type 0) (free : Type 0) where
  labelled_yes-moves : (b : Beginning Tok Cx St) (v : Option V) (p o : Outcome V Er St) → b.start < p.end → LabelledAs merged maps free (Yes v) b p o → IsYes o.verdict → b.start < o.end
  labelled_yes-moves b v p o l m y =
      elim m.says [
        | inl r ↦ absurd (subst IsYes r.1 y)
        | inr k ↦ let e = ap (λ (x : Outcome V Er St). x.end) (clash-yes k.2 y) in omega (arith, l, e)
      ]

  labelled_no-no : (b : Beginning Tok Cx St) (p o : Outcome V Er St) → LabelledAs merged maps free No b p o → IsYes o.verdict → ⊥
  labelled_no-no b p o m y = elim m.says [ inl r ↦ subst IsYes r.1 y | inr k ↦ subst IsYes (ap (λ (x : Outcome V Er St). x.verdict) (clash-yes k.2 y)) y ]

  -- a part that a label names
  pub labelled-moves : (part : Meaning Tok Cx St Er V) → Moves part → Moves (MeansLabelled merged maps free part)
  labelled-moves part h b o m y =
      judged-moves part (λ c v p q. LabelledAs merged maps free (Yes v) c p q)
      (λ c p q. LabelledAs merged maps free No c p q) h labelled_yes-moves labelled_no-no b o m.run y

  pub labelled-spares : free → (part : Meaning Tok Cx St Er V) → NeverOutOfMemory part → NeverOutOfMemory (MeansLabelled merged maps free part)
  labelled-spares x part h b o m =
      judged-spares part (λ c v p q. LabelledAs merged maps free (Yes v) c p q) (λ c p q. LabelledAs merged maps free No c p q) h
      (λ c v p q n. elim n.says [ inl r ↦ absurd (r.0 x) | inr k ↦ or_clash-spares _ q tt k.2 ])
      (λ c p q n. elim n.says [ inl r ↦ absurd (r.0 x) | inr k ↦ or_clash-spares _ q tt k.2 ]) b o m.run

  pub labelled-by : (part : Meaning Tok Cx St Er V) (f : Ender Tok) (va : List Tok → V → Type 0) → Reads part f va → Reads (MeansLabelled merged maps free part) f va
  labelled-by part f va h = record {
    here = λ b w o m.
        let ts : List Tok = drop b.start b.tokens.list in
        judged-here (va ts) (va ts) part (λ c v p q. LabelledAs merged maps free (Yes v) c p q) (λ c p q. LabelledAs merged maps free No c p q) (f ts) (f ts) b (record {
          yes = λ v p q e i l j. elim j.says [ inl r ↦ refuses-by (va ts) (f ts) b.tokens.list q r | inr k ↦ or_clash-by (va ts) (f ts) b.tokens.list _ q (e, i, l) k.2 ];
          no = λ p q e j. elim j.says [ inl r ↦ refuses-by (va ts) (f ts) b.tokens.list q r | inr k ↦ or_clash-by (va ts) (f ts) b.tokens.list _ q e k.2 ];
          refused = λ e. e;
        }) (h.here b w) o m.run;
  }

  -- `part.labelled(..)`
  pub labelled-accepts : (part : Meaning Tok Cx St Er V) {F : Language Tok V} {spare : Type 0} → Accepts part F spare → Accepts (MeansLabelled merged maps free part) (labelled_language free F) spare
  labelled-accepts part {F} h = record {
    described = λ s.
        let d = h.described s in
        record { reads = labelled-by part F.ends F.value d.reads; only = d.only; given = d.given; each = d.each; decided = d.decided; further = d.further };
    moving = λ e. labelled-moves part (h.moving e);
    sparing = λ q t. labelled-spares t.1 part (h.sparing q t.0);
  }
