-- The language of a part that runs under another context, or on a state of its own: the part's.
-- Main word: on_copy_language. Laws: under-accepts, under_made-accepts, on_copy-accepts. Read first: Under.antt, OnState.antt, chumsky_parser's Language.antt.
use Rattle.std.proofs.Common.{◌≡◌, ◌<◌, Some, List, drop, ap, subst, arith, inl, inr}
use Rattle.chumsky_input.specs.Outcome.{Meaning, Outcome}
use Rattle.chumsky_parser.specs.Ending.{Ender, Answers, Reads}
use Rattle.chumsky_parser.specs.EndingLaws.{refuses-by}
use Rattle.chumsky_parser.specs.Language.{Language, Accepts}
use Rattle.chumsky_parser.specs.Memory.{NeverOutOfMemory}
use Rattle.chumsky_parser.specs.Progress.{IsYes, Moves}
use Rattle.chumsky_context.specs.OnState.{begun_in, OnCopy}
use Rattle.chumsky_context.specs.Under.{begun_under, UnderValue, UnderMade}
use Rattle.chumsky_context.specs.UnderLaws.{under-moves, under_made-moves}

-- the part's, where a copy of the state takes no memory, nor does the state
abbrev pub on_copy_language : {Tok V : Type 0} → Type 0 → Language Tok V → Language Tok V
on_copy_language free F = record F { takes_no_memory = F.takes_no_memory × free }

module _ {Tok Cx St Er V W : Type 0} (part : Meaning Tok V St Er W) where
  -- `part.with_ctx(..)`
  pub under-accepts : (v : V) {F : Language Tok W} {spare : Type 0} → Accepts part F spare → Accepts (UnderValue {Cx = Cx} part (Some v)) F spare
  under-accepts v h = record {
    described = λ s.
        let d = h.described s in
        record {
          reads = record { here = λ b w o m. d.reads.here (begun_under v b) (record { start = w.start; few = w.few }) o m.runs };
          only = d.only;
          given = d.given;
          each = d.each;
          decided = d.decided;
          further = d.further;
        };
    moving = λ e. under-moves part (h.moving e) (Some v);
    sparing = λ q t b o m. h.sparing q t (begun_under v b) o m.runs;
  }

  -- `map_ctx(.., part)`
  pub under_made-accepts : (makes : Cx → V → Type 0) {F : Language Tok W} {spare : Type 0} → Accepts part F spare → Accepts (UnderMade makes part) F spare
  under_made-accepts makes h = record {
    described = λ s.
        let d = h.described s in
        record {
          reads = record { here = λ b w o m. d.reads.here (begun_under m.context b) (record { start = w.start; few = w.few }) o m.runs };
          only = d.only;
          given = d.given;
          each = d.each;
          decided = d.decided;
          further = d.further;
        };
    moving = λ e. under_made-moves part makes (h.moving e);
    sparing = λ q t b o m. h.sparing q t (begun_under m.context b) o m.runs;
  }

module _ {Tok Cx St T S Er V : Type 0} (copies : S → Type 0) (safe : Type 0) (seen : S → T) (part : Meaning Tok Cx T Er V) where
  on_copy-by : (f : Ender Tok) (va : List Tok → V → Type 0) → Reads part f va → Reads (OnCopy {St = St} copies safe seen part) f va
  on_copy-by f va h = record {
    here = λ b w o m.
        let ts : List Tok = drop b.start b.tokens.list in
        elim m.cases [
          | inl r ↦ refuses-by (va ts) (f ts) b.tokens.list o r
          | inr k ↦
              let n = k.2 in
              let z : Answers (va ts) (f ts) b.tokens.list n.inner.verdict n.inner.end = h.here (begun_in (seen k.0) b) (record { start = w.start; few = w.few }) n.inner n.runs in
              rw n.is z
        ];
  }

  pub on_copy-moves : Moves part → Moves (OnCopy {St = St} copies safe seen part)
  on_copy-moves h b o m y = elim m.cases [
    | inl r ↦ absurd (subst IsYes r.1 y)
    | inr k ↦
        let n = k.2 in
        let v : o.verdict ≡ n.inner.verdict = ap (λ (x : Outcome V Er St). x.verdict) n.is in
        let e : o.end ≡ n.inner.end = ap (λ (x : Outcome V Er St). x.end) n.is in
        let l : b.start < n.inner.end = h (begun_in (seen k.0) b) n.inner n.runs (subst IsYes v y) in
        omega (arith, l, e)
  ]

  on_copy-spares : safe → NeverOutOfMemory part → NeverOutOfMemory (OnCopy {St = St} copies safe seen part)
  on_copy-spares x h b o m = elim m.cases [
    | inl r ↦ absurd (r.0 x)
    | inr k ↦ let n = k.2 in rw (ap (λ (z : Outcome V Er St). z.verdict) n.is) (h (begun_in (seen k.0) b) n.inner n.runs)
  ]

  -- `part.with_state(..)`
  pub on_copy-accepts : {F : Language Tok V} {quiet still spare : Type 0} → Accepts part F (quiet × still)
      → Accepts (OnCopy {St = St} copies safe seen part) (on_copy_language (safe × still) F) (quiet × spare)
  on_copy-accepts {F} h = record {
    described = λ s. let d = h.described s in record { reads = on_copy-by F.ends F.value d.reads; only = d.only; given = d.given; each = d.each; decided = d.decided; further = d.further };
    moving = λ e. on_copy-moves (h.moving e);
    sparing = λ q t. on_copy-spares t.1.0 (h.sparing (q.0, t.1.1) t.0);
  }
