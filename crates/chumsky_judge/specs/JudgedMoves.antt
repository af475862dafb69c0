-- What is judged or looked at moves where it succeeds, since its part does.
-- Main laws: judged-moves, vetted-moves, map_err-moves, and_is-moves. Read first: Progress.antt, Judged.antt.
use Rattle.std.proofs.Common.{◌≡◌, ℕ, ◌<◌, true, Option, Some, None, Result, Ok, Err, refl, ap, subst, arith, inl, inr}
use Rattle.chumsky_input.specs.Outcome.{Event, Meaning, Beginning, Outcome, Verdict, Yes, No, Halt, Clash}
use Rattle.chumsky_input.specs.Primary.{primary}
use Rattle.chumsky_parser.specs.Chained.{Asked, Follows, from}
use Rattle.chumsky_parser.specs.Choice.{OrElse}
use Rattle.chumsky_parser.specs.Failure.{SaysNo}
use Rattle.chumsky_parser.specs.Progress.{IsYes, Moves}
use Rattle.chumsky_parser.specs.ProgressLaws.{no-moves, asked-moves, or_else-moves}
use Rattle.chumsky_judge.specs.AndIs.{GivenAt, LooksFrom, MeansAndIs}
use Rattle.chumsky_judge.specs.MapErr.{ErrMaps, YesAsOne, MappedAs, NoMapped, MeansMapErr}
use Rattle.chumsky_judge.specs.Judged.{OrClash, OrLacks, OfYes, OfNo, ByVerdict, Judged, NoAsOne}
use Rattle.chumsky_judge.specs.Vetted.{Vets, OnRuling, Vetting, Vetted}

module _ {V Er St : Type 0} where
  pub clash-yes : {whole o : Outcome V Er St} → OrClash whole o → IsYes o.verdict → o ≡ whole
  clash-yes (inl e) y = e
  clash-yes (inr c) y = absurd (subst IsYes (ap (λ (x : Outcome V Er St). x.verdict) c.2) y)

  pub lacks-yes : {safe : Type 0} {whole o : Outcome V Er St} → OrLacks safe whole o → IsYes o.verdict → o ≡ whole
  lacks-yes (inl r) y = absurd (subst IsYes r.1 y)
  lacks-yes (inr c) y = clash-yes c y

module _ {Tok Cx St Er V W : Type 0} (part : Meaning Tok Cx St Er V) (on_yes : OfYes Tok Cx St Er V W) (on_no : OfNo Tok Cx St Er V W) where
  judges_move : Moves part → ((b : Beginning Tok Cx St) (v : Option V) (p : Outcome V Er St) (o : Outcome W Er St) → b.start < p.end → on_yes b v p o → IsYes o.verdict → b.start < o.end)
      → ((b : Beginning Tok Cx St) (p : Outcome V Er St) (o : Outcome W Er St) → on_no b p o → IsYes o.verdict → ⊥)
      → (v : Verdict V Er) (b : Beginning Tok Cx St) (p : Outcome V Er St) (o : Outcome W Er St) → p.verdict ≡ v → part b p → ByVerdict v on_yes on_no b p o → IsYes o.verdict → b.start < o.end
  judges_move h hy hn (Yes v) b p o e m j y = hy b v p o (h b p m (rw e tt)) j y
  judges_move h hy hn No b p o e m j y = absurd (hn b p o j y)
  judges_move h hy hn (Halt s) b p o e m j y = absurd (subst IsYes (ap (λ (x : Outcome W Er St). x.verdict) j) y)
  judges_move h hy hn (Clash x) b p o e m j y = absurd (subst IsYes (ap (λ (x : Outcome W Er St). x.verdict) j) y)

  -- what is made of a yes of the part ends past its start too, and of a no comes no yes
  pub judged-moves : Moves part → ((b : Beginning Tok Cx St) (v : Option V) (p : Outcome V Er St) (o : Outcome W Er St) → b.start < p.end → on_yes b v p o → IsYes o.verdict → b.start < o.end)
      → ((b : Beginning Tok Cx St) (p : Outcome V Er St) (o : Outcome W Er St) → on_no b p o → IsYes o.verdict → ⊥) → Moves (Judged part on_yes on_no)
  judged-moves h hy hn b o m y = judges_move h hy hn m.first.verdict b m.first o refl m.meant m.judges y

module _ {Tok Cx St Er V W : Type 0} (merged : Er → Er → Er) where
  no_as_one-no : (b : Beginning Tok Cx St) (p : Outcome V Er St) (o : Outcome W Er St) → NoAsOne {Tok = Tok} {Cx = Cx} merged b p o → IsYes o.verdict → ⊥
  no_as_one-no b p o h y = subst IsYes (ap (λ (x : Outcome W Er St). x.verdict) (clash-yes h y)) y

  module _ (free : Type 0) where
    rules-move : (r : Result W Er) (s : St) (b : Beginning Tok Cx St) (p : Outcome V Er St) (o : Outcome W Er St) → b.start < p.end → OnRuling merged free r s b p o → IsYes o.verdict → b.start < o.end
    rules-move (Ok w) s b p o l h y = let e = ap (λ (x : Outcome W Er St). x.end) (clash-yes h y) in omega arith
    rules-move (Err d) s b p o l h y = absurd (subst IsYes (ap (λ (x : Outcome W Er St). x.verdict) (lacks-yes h y)) y)

    module _ (vets : Vets Tok Cx St Er V W) (part : Meaning Tok Cx St Er V) where
      vetting-moves : (b : Beginning Tok Cx St) (v : Option V) (p : Outcome V Er St) (o : Outcome W Er St) → b.start < p.end → Vetting merged free vets b v p o → IsYes o.verdict → b.start < o.end
      vetting-moves b (Some v) p o l j y = rules-move j.0 j.1 b p o l j.3 y
      vetting-moves b None p o l j y = absurd j

      -- a part whose value is judged
      pub vetted-moves : Moves part → Moves (Vetted merged free vets part)
      vetted-moves h b o m y = judged-moves (Asked true part) (Vetting merged free vets) (NoAsOne merged) (asked-moves true part h) vetting-moves no_as_one-no b o m.run y

module _ {Tok Cx St Er V : Type 0} (merged : Er → Er → Er) (maps : ErrMaps Tok Cx St Er) where
  yes_as_one-moves : (b : Beginning Tok Cx St) (v : Option V) (p o : Outcome V Er St) → b.start < p.end → YesAsOne {Tok = Tok} {Cx = Cx} merged b v p o → IsYes o.verdict → b.start < o.end
  yes_as_one-moves b v p o l h y = let e = ap (λ (x : Outcome V Er St). x.end) (clash-yes h y) in omega arith

  mapped_as-no : (k : Option (Event Er)) (b : Beginning Tok Cx St) (p o : Outcome V Er St) → MappedAs merged maps k b p o → IsYes o.verdict → ⊥
  mapped_as-no None b p o h y = subst IsYes (ap (λ (x : Outcome V Er St). x.verdict) h) y
  mapped_as-no (Some k) b p o h y = subst IsYes (ap (λ (x : Outcome V Er St). x.verdict) (clash-yes h.3 y)) y

  -- a part whose failures are mapped
  pub map_err-moves : (part : Meaning Tok Cx St Er V) → Moves part → Moves (MeansMapErr merged maps part)
  map_err-moves part h b o m y = judged-moves part (YesAsOne merged) (NoMapped merged maps) h yes_as_one-moves (λ b p o j z. mapped_as-no (primary merged p.events) b p o j z) b o m.run y

module _ {Tok Cx St Er V W : Type 0} where
  -- a look ends where it is told to
  looks_at : (end : ℕ) (v : Option V) (b : Beginning Tok Cx St) (p : Outcome W Er St) (o : Outcome V Er St) (u : Verdict W Er) → Follows u (λ _. GivenAt v end) b p o → IsYes o.verdict → o.end ≡ end
  looks_at end v b p o (Yes x) f y =
      let whole : o.end ≡ f.0.end = ap (λ (z : Outcome V Er St). z.end) f.2 in
      let at_end : f.0.end ≡ end = ap (λ (z : Outcome V Er St). z.end) f.1 in
      omega (arith, whole, at_end)
  looks_at end v b p o No f y = absurd (subst IsYes (ap (λ (x : Outcome V Er St). x.verdict) f) y)
  looks_at end v b p o (Halt s) f y = absurd (subst IsYes (ap (λ (x : Outcome V Er St). x.verdict) f) y)
  looks_at end v b p o (Clash e) f y = absurd (subst IsYes (ap (λ (x : Outcome V Er St). x.verdict) f) y)

module _ {Tok Cx St Mk Er V W : Type 0} (mark : St → Mk) (back : St → Mk → St) (safe : Type 0) (part : Meaning Tok Cx St Er V) (other : Meaning Tok Cx St Er W) where
  both_move : Moves part → (b : Beginning Tok Cx St) (p o : Outcome V Er St) (u : Verdict V Er) → p.verdict ≡ u
      → OrElse mark back safe part SaysNo b p → Follows u (LooksFrom b.start other) b p o → IsYes o.verdict
      → b.start < o.end
  both_move h b p o (Yes v) e m f y =
      let first : b.start < p.end = or_else-moves mark back safe part SaysNo h no-moves b p m (rw e tt) in
      let looks = f.1 in
      let whole : o.end ≡ f.0.end = ap (λ (z : Outcome V Er St). z.end) f.2 in
      let verdict : o.verdict ≡ f.0.verdict = ap (λ (z : Outcome V Er St). z.verdict) f.2 in
      let last : f.0.end ≡ p.end = looks_at p.end v (record (from b p) { start = b.start }) looks.first f.0 looks.first.verdict looks.follows (subst IsYes verdict y) in
      omega (arith, first, whole, last)
  both_move h b p o No e m f y = absurd (subst IsYes (ap (λ (x : Outcome V Er St). x.verdict) f) y)
  both_move h b p o (Halt s) e m f y = absurd (subst IsYes (ap (λ (x : Outcome V Er St). x.verdict) f) y)
  both_move h b p o (Clash x) e m f y = absurd (subst IsYes (ap (λ (x : Outcome V Er St). x.verdict) f) y)

  -- a part that is looked at, too, from its start: it ends where the part ended
  pub and_is-moves : Moves part → Moves (MeansAndIs mark back safe part other)
  and_is-moves h b o m y = both_move h b m.run.first o m.run.first.verdict refl m.run.meant m.run.follows y
