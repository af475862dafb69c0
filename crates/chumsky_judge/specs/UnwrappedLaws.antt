-- What parsers give whose values are judged.
use Rattle.std.proofs.Common.{◌≡◌, Bool, true, false, Option, Some, None, sym, ap, ◌∙◌, subst}
use Rattle.chumsky_input.specs.declared.error.Error as error_trait
use Rattle.chumsky_input.specs.declared.input.Input as input_trait
use Rattle.chumsky_input.specs.Outcome.{Meaning, Beginning, Outcome, Verdict, Yes, No, Halt, Clash, IsAnswer}
use Rattle.chumsky_parser.specs.Failure.{wanting}
use Rattle.chumsky_judge.specs.Judged.{ByVerdict, NoAsOne}
use Rattle.chumsky_judge.specs.JudgedLaws.{or_clash-whole, or_lacks-whole}
use Rattle.chumsky_judge.specs.Tried.{ByPick, picked}
use Rattle.chumsky_judge.specs.Vetted.{OnRuling, Vetting, Vetted, ByTest, tested}
use Rattle.chumsky_judge.specs.Unwrapped.{AlwaysGives}

wanted-is : {V : Type 0} (w : Bool) (v x : V) → wanting w v ≡ Some x → x ≡ v
wanted-is true v x e = cc
wanted-is false v x e = let no : ⊥ = cc in absurd no

module _ {I Tok Sp Cu Er St Cx V : Type 0} (source : input_trait.Ghosts I Cu Tok Sp)
    (errors : error_trait.Ghosts Er I Tok Sp) (free : Type 0) (tests : V → Bool → Type 0)
    (part : Meaning Tok Cx St errors.Seen V) where
  ruled : (passes : Bool) (s : St) (v : V) (b : Beginning Tok Cx St) (p o : Outcome V errors.Seen St) (x : V)
      → tests v passes → OnRuling errors.merged free (tested source errors tests passes b p.end v) s b p o
      → o.verdict ≡ Yes (Some x) → tests x true
  ruled true s v b p o x says h e =
      let a : IsAnswer o.verdict = rw e tt in
      let verdict = sym (ap (λ (z : Outcome V errors.Seen St). z.verdict) (or_clash-whole h a)) ∙ e in
      let inside : wanting b.wanted v ≡ Some x = cc in
      subst (λ z. tests z true) (sym (wanted-is b.wanted v x inside)) says
  ruled false s v b p o x says h e =
      let a : IsAnswer o.verdict = rw e tt in
      let verdict = ap (λ (z : Outcome V errors.Seen St). z.verdict) (or_lacks-whole h a) in let no : ⊥ = cc in absurd no

  passed : (u : Verdict V errors.Seen) (b : Beginning Tok Cx St) (p o : Outcome V errors.Seen St) (x : V)
      → ByVerdict u (Vetting errors.merged free (ByTest source errors tests)) (NoAsOne errors.merged) b p o
      → o.verdict ≡ Yes (Some x) → tests x true
  passed (Yes (Some v)) b p o x j e =
      let m = j.2 in
      ruled m.passes j.1 v b p o x m.says (subst (λ z. OnRuling errors.merged free z j.1 b p o) m.answer j.3) e
  passed (Yes None) b p o x j e = absurd j
  passed No b p o x j e =
      let a : IsAnswer o.verdict = rw e tt in
      let verdict = ap (λ (z : Outcome V errors.Seen St). z.verdict) (or_clash-whole j a) in let no : ⊥ = cc in absurd no
  passed (Halt s) b p o x j e = let k = ap (λ (z : Outcome V errors.Seen St). z.verdict) j in let no : ⊥ = cc in absurd no
  passed (Clash s) b p o x j e = let k = ap (λ (z : Outcome V errors.Seen St). z.verdict) j in let no : ⊥ = cc in absurd no

  pub filter-gives : AlwaysGives (λ v. tests v true) (Vetted errors.merged free (ByTest source errors tests) part)
  filter-gives b o x m e = passed m.run.first.verdict b m.run.first o x m.run.judges e

module _ {I Tok Sp Cu Er St Cx V W : Type 0} (source : input_trait.Ghosts I Cu Tok Sp)
    (errors : error_trait.Ghosts Er I Tok Sp) (free : Type 0) (gives : V → Option W → Type 0)
    (part : Meaning Tok Cx St errors.Seen V) where
  chosen : (pick : Option W) (s : St) (v : V) (b : Beginning Tok Cx St) (p : Outcome V errors.Seen St)
      (o : Outcome W errors.Seen St) (x : W)
      → gives v pick → OnRuling errors.merged free (picked source errors pick b p.end) s b p o
      → o.verdict ≡ Yes (Some x) → (u : V) × gives u (Some x)
  chosen (Some w) s v b p o x says h e =
      let a : IsAnswer o.verdict = rw e tt in
      let verdict = sym (ap (λ (z : Outcome W errors.Seen St). z.verdict) (or_clash-whole h a)) ∙ e in
      let inside : wanting b.wanted w ≡ Some x = cc in
      (v, subst (λ z. gives v (Some z)) (sym (wanted-is b.wanted w x inside)) says)
  chosen None s v b p o x says h e =
      let a : IsAnswer o.verdict = rw e tt in
      let verdict = ap (λ (z : Outcome W errors.Seen St). z.verdict) (or_lacks-whole h a) in let no : ⊥ = cc in absurd no

  taken : (u : Verdict V errors.Seen) (b : Beginning Tok Cx St) (p : Outcome V errors.Seen St) (o : Outcome W errors.Seen St) (x : W)
      → ByVerdict u (Vetting errors.merged free (ByPick source errors gives)) (NoAsOne errors.merged) b p o
      → o.verdict ≡ Yes (Some x) → (v : V) × gives v (Some x)
  taken (Yes (Some v)) b p o x j e =
      let m = j.2 in
      chosen m.pick j.1 v b p o x m.says (subst (λ z. OnRuling errors.merged free z j.1 b p o) m.answer j.3) e
  taken (Yes None) b p o x j e = absurd j
  taken No b p o x j e =
      let a : IsAnswer o.verdict = rw e tt in
      let verdict = ap (λ (z : Outcome W errors.Seen St). z.verdict) (or_clash-whole j a) in let no : ⊥ = cc in absurd no
  taken (Halt s) b p o x j e = let k = ap (λ (z : Outcome W errors.Seen St). z.verdict) j in let no : ⊥ = cc in absurd no
  taken (Clash s) b p o x j e = let k = ap (λ (z : Outcome W errors.Seen St). z.verdict) j in let no : ⊥ = cc in absurd no

  pub filter_map-gives : AlwaysGives (λ w. (v : V) × gives v (Some w)) (Vetted errors.merged free (ByPick source errors gives) part)
  filter_map-gives b o x m e = taken m.run.first.verdict b m.run.first o x m.run.judges e
