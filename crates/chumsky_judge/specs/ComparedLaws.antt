-- Laws that compare parsers with their parts.
use Rattle.std.proofs.Common.{◌≡◌, ℕ, Bool, true, Option, Some, None, Result, Ok, Err, refl, sym, ap, ◌∙◌, subst, inl, inr}
use Rattle.chumsky_input.specs.declared.error.Error as error_trait
use Rattle.chumsky_input.specs.declared.inspector.Inspector as inspector_trait
use Rattle.chumsky_input.specs.declared.input.Input as input_trait
use Rattle.chumsky_input.specs.Outcome.{Meaning, Beginning, Outcome, Verdict, Yes, No, Halt, Clash, IsAnswer}
use Rattle.chumsky_parser.specs.Failure.{wanting}
use Rattle.chumsky_judge.specs.Judged.{ByVerdict, NoAsOne}
use Rattle.chumsky_judge.specs.JudgedLaws.{or_clash-whole, or_lacks-whole}
use Rattle.chumsky_judge.specs.Not.{Denies, Allows, MeansNot}
use Rattle.chumsky_judge.specs.Vetted.{Vets, OnRuling, Vetting, Vetted, ByTest, tested}
use Rattle.chumsky_judge.specs.Tried.{ByTry, ByPick, ruling_seen, picked}
use Rattle.chumsky_parser.specs.Chained.{from, Follows}
use Rattle.chumsky_parser.specs.Choice.{OrElse, ElseFrom}
use Rattle.chumsky_parser.specs.Failure.{SaysNo}
use Rattle.chumsky_judge.specs.AndIs.{GivenAt, LooksFrom, MeansAndIs, Rewinds, MeansRewind}
use Rattle.chumsky_judge.specs.Compared.{YesStays, YesEndsAs, AsPart, AnswersAsPart}

module _ {I Tok Sp Cu Er St Mk Cx V : Type 0} (source : input_trait.Ghosts I Cu Tok Sp)
    (errors : error_trait.Ghosts Er I Tok Sp) (states : inspector_trait.Ghosts St I Mk Tok Sp)
    (part : Meaning Tok Cx states.Seen errors.Seen V) where
  stays : (m : states.Marked) (v : Verdict V errors.Seen) (b : Beginning Tok Cx states.Seen)
      (p : Outcome V errors.Seen states.Seen) (o : Outcome (Unit {0}) errors.Seen states.Seen) (u : Option (Unit {0}))
      → ByVerdict v (Denies source errors states m) (Allows source errors states m) b p o → o.verdict ≡ Yes u
      → o.end ≡ b.start
  stays m (Yes v) b p o u (inl r) e = let k = r.1 in let no : ⊥ = cc in absurd no
  stays m (Yes v) b p o u (inr h) e =
      let a : IsAnswer o.verdict = rw e tt in
      let k = or_lacks-whole h a in let no : ⊥ = cc in absurd no
  stays m No b p o u (inl r) e = let k = r.1 in let no : ⊥ = cc in absurd no
  stays m No b p o u (inr h) e = ap (λ (x : Outcome (Unit {0}) errors.Seen states.Seen). x.end) h
  stays m (Halt s) b p o u j e = let k = ap (λ (x : Outcome (Unit {0}) errors.Seen states.Seen). x.verdict) j in let no : ⊥ = cc in absurd no
  stays m (Clash s) b p o u j e = let k = ap (λ (x : Outcome (Unit {0}) errors.Seen states.Seen). x.verdict) j in let no : ⊥ = cc in absurd no

  pub not-stays : YesStays (MeansNot source errors states part)
  not-stays b o u m e =
      elim m.cases [
        | inl r ↦ let k = r.1 in let no : ⊥ = cc in absurd no
        | inr h ↦ stays (states.mark b.state) h.first.verdict b h.first o u h.judges e
      ]

module _ {Tok Cx St Er V W : Type 0} (merged : Er → Er → Er) (free : Type 0) (vets : Vets Tok Cx St Er V W) (becomes : Beginning Tok Cx St → ℕ → V → W → Type 0) where
  -- a judge that accepts all, and leaves the state
  abbrev pub AcceptsAll : Type 0
  AcceptsAll = (b : Beginning Tok Cx St) (end : ℕ) (s t : St) (v : V) (r : Result W Er) → vets b end s v r t → (w : W) × (r ≡ Ok w) × (t ≡ s) × becomes b end v w

  module _ (all : AcceptsAll) (part : Meaning Tok Cx St Er V) where
    accepted : (r : Result W Er) (t : St) (v : V) (w : W) (b : Beginning Tok Cx St) (p : Outcome V Er St) (o : Outcome W Er St)
        → part (record b { wanted = true }) p → p.verdict ≡ Yes (Some v) → r ≡ Ok w → t ≡ p.state
        → becomes b p.end v w → OnRuling merged free r t b p o → IsAnswer o.verdict → AsPart merged becomes part b o
    accepted (Ok x) t v w b p o m e k s h j a =
        let is = or_clash-whole j a in
        let x_is : x ≡ w = cc in
        let verdict : o.verdict ≡ Yes (wanting b.wanted w) = ap (λ (z : Outcome W Er St). z.verdict) is ∙ ap (λ z. Yes (wanting b.wanted z)) x_is in
        record { first = p; meant = m; verdict = rw e (w, h, verdict); rest = rw is (rw s refl) }
    accepted (Err d) t v w b p o m e k s h j a = let no : ⊥ = cc in absurd no

    as_part : (v : Verdict V Er) (b : Beginning Tok Cx St) (p : Outcome V Er St) (o : Outcome W Er St)
        → part (record b { wanted = true }) p → p.verdict ≡ v
        → ByVerdict v (Vetting merged free vets) (NoAsOne merged) b p o → IsAnswer o.verdict
        → AsPart merged becomes part b o
    as_part (Yes (Some v)) b p o m e j a =
        let k = all b p.end p.state j.1 v j.0 j.2 in
        accepted j.0 j.1 v k.0 b p o m e k.1 k.2 k.3 j.3 a
    as_part (Yes None) b p o m e j a = absurd j
    as_part No b p o m e j a =
        let is = or_clash-whole j a in
        record { first = p; meant = m; verdict = rw e (ap (λ (z : Outcome W Er St). z.verdict) is); rest = rw is refl }
    as_part (Halt s) b p o m e j a = absurd (subst IsAnswer (ap (λ (x : Outcome W Er St). x.verdict) j) a)
    as_part (Clash s) b p o m e j a = absurd (subst IsAnswer (ap (λ (x : Outcome W Er St). x.verdict) j) a)

    pub vetted-as_part : AnswersAsPart merged becomes part (Vetted merged free vets part)
    vetted-as_part b o m a = as_part m.run.first.verdict b m.run.first o m.run.meant.run refl m.run.judges a

module _ {I Tok Sp Cu Er St Cx V : Type 0} (source : input_trait.Ghosts I Cu Tok Sp)
    (errors : error_trait.Ghosts Er I Tok Sp) (free : Type 0) (tests : V → Bool → Type 0)
    (part : Meaning Tok Cx St errors.Seen V) where
  pub filter-as_part : ((v : V) (x : Bool) → tests v x → x ≡ true) → AnswersAsPart errors.merged (λ b end v w. w ≡ v) part (Vetted errors.merged free (ByTest source errors tests) part)
  filter-as_part h =
      vetted-as_part errors.merged free (ByTest source errors tests) (λ b end v w. w ≡ v)
      (λ b end s t v r m. (v, m.answer ∙ ap (λ x. tested source errors tests x b end v) (h v m.passes m.says), m.keeps, refl)) part

module _ {I Tok Sp Cu Er St Cx V W : Type 0} (source : input_trait.Ghosts I Cu Tok Sp)
    (errors : error_trait.Ghosts Er I Tok Sp) (free : Type 0) (gives : V → Sp → Result W Er → Type 0)
    (part : Meaning Tok Cx St errors.Seen V) where
  pub try_map-as_part : ((v : V) (span : Sp) (r : Result W Er) → gives v span r → (w : W) × (r ≡ Ok w))
      → AnswersAsPart errors.merged (λ b end v w. gives v (source.span_between b.tokens b.start end) (Ok w)) part
      (Vetted errors.merged free (ByTry source errors gives) part)
  try_map-as_part h =
      vetted-as_part errors.merged free (ByTry source errors gives) (λ b end v w. gives v (source.span_between b.tokens b.start end) (Ok w))
      (λ b end s t v r m. let k = h v (source.span_between b.tokens b.start end) m.ruling m.says
      in (
        k.0,
        m.answer ∙ ap (ruling_seen errors.seen) k.1,
        m.keeps,
        subst (gives v (source.span_between b.tokens b.start end)) k.1 m.says,
      ))
      part

module _ {I Tok Sp Cu Er St Cx V W : Type 0} (source : input_trait.Ghosts I Cu Tok Sp)
    (errors : error_trait.Ghosts Er I Tok Sp) (free : Type 0) (gives : V → Option W → Type 0)
    (part : Meaning Tok Cx St errors.Seen V) where
  pub filter_map-as_part : ((v : V) (r : Option W) → gives v r → (w : W) × (r ≡ Some w))
      → AnswersAsPart errors.merged (λ b end v w. gives v (Some w)) part (Vetted errors.merged free (ByPick source errors gives) part)
  filter_map-as_part h =
      vetted-as_part errors.merged free (ByPick source errors gives) (λ b end v w. gives v (Some w))
      (λ b end s t v r m. let k = h v m.pick m.says in (k.0, m.answer ∙ ap (λ x. picked source errors x b end) k.1, m.keeps, subst (gives v) k.1 m.says)) part

module _ {Tok Cx St Er V : Type 0} (merged : Er → Er → Er) (part : Meaning Tok Cx St Er V) where
  rewound : (v : Verdict V Er) (b : Beginning Tok Cx St) (p o : Outcome V Er St) (u : Option V) → ByVerdict v (Rewinds merged) (NoAsOne merged) b p o → o.verdict ≡ Yes u → o.end ≡ b.start
  rewound (Yes v) b p o u (inl h) e = let a : IsAnswer o.verdict = rw e tt in ap (λ (x : Outcome V Er St). x.end) (or_clash-whole h.1 a)
  rewound (Yes v) b p o u (inr h) e = let a : IsAnswer o.verdict = rw e tt in ap (λ (x : Outcome V Er St). x.end) (or_clash-whole h.1 a)
  rewound No b p o u h e =
      let a : IsAnswer o.verdict = rw e tt in
      let k = or_clash-whole h a in let no : ⊥ = cc in absurd no
  rewound (Halt s) b p o u j e = let k = ap (λ (x : Outcome V Er St). x.verdict) j in let no : ⊥ = cc in absurd no
  rewound (Clash s) b p o u j e = let k = ap (λ (x : Outcome V Er St). x.verdict) j in let no : ⊥ = cc in absurd no

  pub rewind-stays : YesStays (MeansRewind merged part)
  rewind-stays b o u m e = rewound m.run.first.verdict b m.run.first o u m.run.judges e

module _ {Tok Cx St Mk Er V W : Type 0} (mark : St → Mk) (back : St → Mk → St) (safe : Type 0) (part : Meaning Tok Cx St Er V) (other : Meaning Tok Cx St Er W) where
  -- what follows a look-ahead: its yes stands where the part ended
  looked : (end : ℕ) (v : Option V) (b : Beginning Tok Cx St) (p : Outcome W Er St) (o : Outcome V Er St) (u : Verdict W Er) (x : Option V)
      → Follows u (λ _. GivenAt v end) b p o → o.verdict ≡ Yes x → (x ≡ v) × (o.end ≡ end)
  looked end v b p o (Yes y) x f e =
      let given = f.1 in let whole = f.2 in
      let at_end : o.end ≡ end = cc in
      let value : x ≡ v = (let a : o.verdict ≡ Yes v = cc in cc) in
      (value, at_end)
  looked end v b p o No x f e = let k = ap (λ (x : Outcome V Er St). x.verdict) f in let no : ⊥ = cc in absurd no
  looked end v b p o (Halt s) x f e = let k = ap (λ (x : Outcome V Er St). x.verdict) f in let no : ⊥ = cc in absurd no
  looked end v b p o (Clash s) x f e = let k = ap (λ (x : Outcome V Er St). x.verdict) f in let no : ⊥ = cc in absurd no

  -- a yes of a part whose no is gone back from is one of the part
  tried : (v : Verdict V Er) (b : Beginning Tok Cx St) (p o : Outcome V Er St) (x : Option V) → part b p → ElseFrom back safe (mark b.state) v SaysNo b p o → o.verdict ≡ Yes x → part b o
  tried (Yes v) b p o x m j e = rw j m
  tried No b p o x m (inl r) e = let k = r.1 in let no : ⊥ = cc in absurd no
  tried No b p o x m (inr h) e = let said = h.1 in let whole = h.2 in let no : ⊥ = cc in absurd no
  tried (Halt s) b p o x m j e = rw j m
  tried (Clash s) b p o x m j e = rw j m

  first_yes : (b : Beginning Tok Cx St) (o : Outcome V Er St) (x : Option V) → OrElse mark back safe part SaysNo b o → o.verdict ≡ Yes x → part b o
  first_yes b o x m e =
      elim m.cases [
        | inl r ↦ let k = r.1 in let no : ⊥ = cc in absurd no
        | inr h ↦ tried h.attempt.verdict b h.attempt o x h.meant h.then_else e
      ]

  both_ends : (v : Verdict V Er) (b : Beginning Tok Cx St) (p o : Outcome V Er St) (x : Option V) → p.verdict ≡ v
      → OrElse mark back safe part SaysNo b p → Follows v (LooksFrom b.start other) b p o → o.verdict ≡ Yes x
      → (q : Outcome V Er St) × part b q × (q.verdict ≡ Yes x) × (o.end ≡ q.end)
  both_ends (Yes v) b p o x is m f e =
      let whole = f.2 in
      let looks = f.1 in
      let said : f.0.verdict ≡ Yes x = sym (ap (λ (z : Outcome V Er St). z.verdict) whole) ∙ e in
      let k = looked p.end v (record (from b p) { start = b.start }) looks.first f.0 looks.first.verdict x looks.follows said in
      let value : p.verdict ≡ Yes x = is ∙ ap Yes (sym k.0) in
      (p, first_yes b p v m is, value, ap (λ (z : Outcome V Er St). z.end) whole ∙ k.1)
  both_ends No b p o x is m f e = let k = ap (λ (x : Outcome V Er St). x.verdict) f in let no : ⊥ = cc in absurd no
  both_ends (Halt s) b p o x is m f e = let k = ap (λ (x : Outcome V Er St). x.verdict) f in let no : ⊥ = cc in absurd no
  both_ends (Clash s) b p o x is m f e = let k = ap (λ (x : Outcome V Er St). x.verdict) f in let no : ⊥ = cc in absurd no

  pub and_is-ends_as : YesEndsAs part (MeansAndIs mark back safe part other)
  and_is-ends_as b o x m e = both_ends m.run.first.verdict b m.run.first o x refl m.run.meant m.run.follows e
