-- Laws that compare parsers whose failures are mapped, or whose values a validator looks at, with their parts.
use Rattle.std.proofs.Common.{◌≡◌, ℕ, true, Option, Some, None, List, [], ◌++◌, refl, sym, ap, ◌∙◌, subst, inl, inr}
use Rattle.std.proofs.lemmas.List.{append-nil}
use Rattle.chumsky_input.specs.Layout.{Layout}
use Rattle.chumsky_input.specs.Outcome.{Event, Meaning, Beginning, Outcome, Verdict, Yes, No, Halt, Clash, IsAnswer}
use Rattle.chumsky_input.specs.Primary.{primary}
use Rattle.chumsky_parser.specs.Chained.{retold, from, after, Follows}
use Rattle.chumsky_parser.specs.Failure.{wanting}
use Rattle.chumsky_judge.specs.Judged.{as_one, ByVerdict}
use Rattle.chumsky_judge.specs.JudgedLaws.{or_clash-whole}
use Rattle.chumsky_judge.specs.MapErr.{ErrMaps, Alone, YesAsOne, MappedAs, NoMapped, MeansMapErr}
use Rattle.chumsky_judge.specs.TriedWith.{shown_of}
use Rattle.chumsky_judge.specs.Validated.{Emits, EmitsAll, Validated, MeansValidate}
use Rattle.chumsky_judge.specs.Compared.{JustAsPart, AnswersJustAsPart, EmitsNothing, validated_quietly, GivesBackAlone, GivesBackFrom, GivesBack, AnswersAsOne, SucceedsAsPart}

module _ {Er V St : Type 0} where
  retold-same : (v : Verdict V Er) (p : Outcome V Er St) → p.verdict ≡ v → retold v p ≡ p
  retold-same v p e = subst (λ u. retold u p ≡ p) e refl

module _ {Tok Cx St Er V : Type 0} (merged : Er → Er → Er) (maps : ErrMaps Tok Cx St Er) (part : Meaning Tok Cx St Er V) where
  -- a mapped failure is no yes
  mapped-no : (k : Option (Event Er)) (b : Beginning Tok Cx St) (p o : Outcome V Er St) (v : Option V) → MappedAs merged maps k b p o → o.verdict ≡ Yes v → ⊥
  mapped-no None b p o v h e = let x = ap (λ (z : Outcome V Er St). z.verdict) h in cc
  mapped-no (Some k) b p o v h e =
      let a : IsAnswer o.verdict = rw e tt in
      let x = ap (λ (z : Outcome V Er St). z.verdict) (or_clash-whole h.3 a) in cc

  yes_of : (u : Verdict V Er) (b : Beginning Tok Cx St) (p o : Outcome V Er St) (v : Option V) → part b p
      → p.verdict ≡ u → ByVerdict u (YesAsOne merged) (NoMapped merged maps) b p o → o.verdict ≡ Yes v
      → (q : Outcome V Er St) × part b q × (o ≡ as_one merged q)
  yes_of (Yes w) b p o v m e j d =
      let a : IsAnswer o.verdict = rw d tt in
      (p, m, or_clash-whole j a ∙ retold-same (Yes w) (as_one merged p) e)
  yes_of No b p o v m e j d = absurd (mapped-no (primary merged p.events) b p o v j d)
  yes_of (Halt s) b p o v m e j d = let x = ap (λ (z : Outcome V Er St). z.verdict) j in let no : ⊥ = cc in absurd no
  yes_of (Clash s) b p o v m e j d = let x = ap (λ (z : Outcome V Er St). z.verdict) j in let no : ⊥ = cc in absurd no

  pub map_err-succeeds : SucceedsAsPart merged part (MeansMapErr merged maps part)
  map_err-succeeds = record {
    of_part = λ b o v m e. yes_of m.run.first.verdict b m.run.first o v m.run.meant refl m.run.judges e;
    each = λ b p v m e. record {
      run = record {
        first = p;
        meant = m;
        judges = subst (λ u. ByVerdict u (YesAsOne merged) (NoMapped merged maps) b p (as_one merged p)) (sym e) (inl (sym (retold-same (Yes v) (as_one merged p) e)));
      };
    };
  }

  module _ (itself : GivesBack maps) where
    itself_of : (k : Option (Event Er)) (b : Beginning Tok Cx St) (p o : Outcome V Er St) → p.verdict ≡ No
        → primary merged p.events ≡ k → MappedAs merged maps k b p o → IsAnswer o.verdict → o ≡ as_one merged p
    itself_of None b p o e is h a = h ∙ retold-same No (as_one merged p) e
    itself_of (Some k) b p o e is h a =
        let same = itself (shown_of b p.end p.state) k.error h.0 h.1 h.2 in
        let whole = or_clash-whole h.3 a in
        let error : h.0 ≡ k.error = same.0 in
        let state : h.1 ≡ p.state = same.1 in
        whole ∙ rw (error, state, e, is) refl

    answer_of : (u : Verdict V Er) (b : Beginning Tok Cx St) (p o : Outcome V Er St) → part b p → p.verdict ≡ u
        → ByVerdict u (YesAsOne merged) (NoMapped merged maps) b p o → IsAnswer o.verdict
        → (q : Outcome V Er St) × part b q × (o ≡ as_one merged q)
    answer_of (Yes w) b p o m e j a = (p, m, or_clash-whole j a ∙ retold-same (Yes w) (as_one merged p) e)
    answer_of No b p o m e j a = (p, m, itself_of (primary merged p.events) b p o e refl j a)
    answer_of (Halt s) b p o m e j a = absurd (subst IsAnswer (ap (λ (x : Outcome V Er St). x.verdict) j) a)
    answer_of (Clash s) b p o m e j a = absurd (subst IsAnswer (ap (λ (x : Outcome V Er St). x.verdict) j) a)

    pub map_err-itself : AnswersAsOne merged part (MeansMapErr merged maps part)
    map_err-itself b o m a = answer_of m.run.first.verdict b m.run.first o m.run.meant refl m.run.judges a

-- a mapper that is handed the error alone
pub alone-itself : {Tok Cx St Er : Type 0} {maps : Er → Er → Type 0} → GivesBackAlone maps → GivesBack {Tok = Tok} {Cx = Cx} {St = St} (Alone maps)
alone-itself h x e r s m = (h e r m.0, m.1)

-- one that is handed the span and the state
pub spanned-itself : {Tok Cx St Er Sp : Type 0} (span : Layout Tok → ℕ → ℕ → Sp) {maps : Sp → St → Er → Er → St → Type 0}
    → GivesBackFrom maps → GivesBack {Tok = Tok} {Cx = Cx} (λ x. maps (span x.tokens x.from x.to) x.state)
spanned-itself span h x e r s m = h (span x.tokens x.from x.to) x.state e r s m

module _ {Tok Cx St Er V W : Type 0} (emits : Emits Tok Cx St Er V W) (nothing : EmitsNothing emits) (part : Meaning Tok Cx St Er V) where
  given_all : (b : Beginning Tok Cx St) (p : Outcome V Er St) (v : V) (w : W) (s : St) (r : Option (List Er)) (o q : Outcome W Er St)
      → part (record b { wanted = true }) p → p.verdict ≡ Yes (Some v) → emits v (shown_of b p.end p.state) w s r
      → EmitsAll r w s (from b p) q → o ≡ after p q → IsAnswer o.verdict
      → JustAsPart (validated_quietly emits) part b o
  given_all b p v w s r o q m e g (inl h) is a =
      let none = nothing v (shown_of b p.end p.state) w s r g in
      let errors : h.0 ≡ [] = (let x : Some h.0 ≡ Some [] = sym h.1 ∙ none.0 in cc) in
      let state : s ≡ p.state = none.1 in
      let whole : o ≡ record { verdict = Yes (wanting b.wanted w); end = p.end; state = s; events = p.events ++ []; emitted = p.emitted ++ h.0 } = is ∙ ap (after p) h.2 in
      let told : o ≡ record { verdict = Yes (wanting b.wanted w); end = p.end; state = p.state; events = p.events; emitted = p.emitted } =
      whole ∙ rw (errors, state, append-nil p.events, append-nil p.emitted) refl in
      let verdict : o.verdict ≡ Yes (wanting b.wanted w) = ap (λ (z : Outcome W Er St). z.verdict) told in
      let gives : validated_quietly emits b p v w = subst (λ z. emits v (shown_of b p.end p.state) w p.state z) none.0 (subst (λ z. emits v (shown_of b p.end p.state) w z r) state g) in
      record { first = p; meant = m; verdict = rw e (w, gives, verdict); rest = told ∙ rw verdict refl }
  given_all b p v w s r o q m e g (inr h) is a =
      let x : q.verdict ≡ o.verdict = sym (ap (λ (z : Outcome W Er St). z.verdict) is) in
      absurd (subst IsAnswer h.1 (subst IsAnswer (sym x) a))

  just_as : (u : Verdict V Er) (b : Beginning Tok Cx St) (p : Outcome V Er St) (o : Outcome W Er St)
      → part (record b { wanted = true }) p → p.verdict ≡ u → Follows u (Validated emits b.start) b p o
      → IsAnswer o.verdict → JustAsPart (validated_quietly emits) part b o
  just_as (Yes (Some v)) b p o m e f a = let n = f.1 in given_all b p v n.0 n.1 n.2 o f.0 m e n.3 n.4 f.2 a
  just_as (Yes None) b p o m e f a = absurd f.1
  just_as No b p o m e f a =
      let verdict : o.verdict ≡ No = ap (λ (z : Outcome W Er St). z.verdict) f in
      record { first = p; meant = m; verdict = rw e verdict; rest = f ∙ rw verdict refl }
  just_as (Halt s) b p o m e f a = absurd (subst IsAnswer (ap (λ (x : Outcome W Er St). x.verdict) f) a)
  just_as (Clash s) b p o m e f a = absurd (subst IsAnswer (ap (λ (x : Outcome W Er St). x.verdict) f) a)

  pub validate-just_as : AnswersJustAsPart (validated_quietly emits) part (MeansValidate emits part)
  validate-just_as b o m a = just_as m.run.first.verdict b m.run.first o m.run.meant.run refl m.run.follows a
