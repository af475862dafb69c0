-- What is judged or looked at is never refused for memory where its part isn't, and its errors and states take none.
-- Main laws: judged-spares, vetted-spares, map_err-spares, rewind-spares, not-spares, and_is-spares. Read first: Memory.antt, Judged.antt.
use Rattle.std.proofs.Common.{◌≡◌, ℕ, true, false, Option, Some, None, Result, Ok, Err, inl, inr, refl, ap, subst}
use Rattle.chumsky_input.specs.declared.error.Error as error_trait
use Rattle.chumsky_input.specs.declared.inspector.Inspector as inspector_trait
use Rattle.chumsky_input.specs.declared.input.Input as input_trait
use Rattle.chumsky_input.specs.Outcome.{Event, Meaning, Beginning, Outcome, Verdict, Yes, No, Halt, Clash}
use Rattle.chumsky_input.specs.Primary.{primary}
use Rattle.chumsky_parser.specs.Chained.{Asked}
use Rattle.chumsky_parser.specs.Choice.{OrElse}
use Rattle.chumsky_parser.specs.Failure.{SaysNo}
use Rattle.chumsky_parser.specs.Memory.{IsNotMemory, SparesMemory, NeverOutOfMemory}
use Rattle.chumsky_parser.specs.MemoryLaws.{no-spares, asked-spares, chained-spares, or_else-spares}
use Rattle.chumsky_judge.specs.AndIs.{GivenAt, LooksFrom, MeansAndIs, MeansRewind}
use Rattle.chumsky_judge.specs.MapErr.{ErrMaps, MappedAs, MeansMapErr}
use Rattle.chumsky_judge.specs.Not.{Denies, Allows, MeansNot}
use Rattle.chumsky_judge.specs.Judged.{OrClash, OrLacks, OfYes, OfNo, ByVerdict, Judged}
use Rattle.chumsky_judge.specs.Vetted.{Vets, OnRuling, Vetting, Vetted}

module _ {V Er St : Type 0} where
  pub or_clash-spares : (whole o : Outcome V Er St) → SparesMemory whole.verdict → OrClash whole o → SparesMemory o.verdict
  or_clash-spares whole o h (inl e) = rw (ap (λ (x : Outcome V Er St). x.verdict) e) h
  or_clash-spares whole o h (inr c) = rw (ap (λ (x : Outcome V Er St). x.verdict) c.2) tt

  pub or_lacks-spares : {safe : Type 0} → safe → (whole o : Outcome V Er St) → SparesMemory whole.verdict → OrLacks safe whole o → SparesMemory o.verdict
  or_lacks-spares x whole o h (inl r) = absurd (r.0 x)
  or_lacks-spares x whole o h (inr c) = or_clash-spares whole o h c

module _ {Tok Cx St Er V W : Type 0} (part : Meaning Tok Cx St Er V) (on_yes : OfYes Tok Cx St Er V W) (on_no : OfNo Tok Cx St Er V W) (h : NeverOutOfMemory part)
    (yes : (b : Beginning Tok Cx St) (v : Option V) (p : Outcome V Er St) (o : Outcome W Er St) → on_yes b v p o → SparesMemory o.verdict)
    (no : (b : Beginning Tok Cx St) (p : Outcome V Er St) (o : Outcome W Er St) → on_no b p o → SparesMemory o.verdict) where
  judges-spare : (b : Beginning Tok Cx St) (p : Outcome V Er St) (o : Outcome W Er St) (u : Verdict V Er) → p.verdict ≡ u → part b p → ByVerdict u on_yes on_no b p o → SparesMemory o.verdict
  judges-spare b p o (Yes v) e m j = yes b v p o j
  judges-spare b p o No e m j = no b p o j
  judges-spare b p o (Halt s) e m j =
      let stops : IsNotMemory s = subst SparesMemory e (h b p m) in
      rw (ap (λ (x : Outcome W Er St). x.verdict) j) stops
  judges-spare b p o (Clash d) e m j = rw (ap (λ (x : Outcome W Er St). x.verdict) j) tt

  -- a part, and what is made of its outcome
  pub judged-spares : NeverOutOfMemory (Judged part on_yes on_no)
  judged-spares b o m = judges-spare b m.first o m.first.verdict refl m.meant m.judges

module _ {Tok Cx St Er V W : Type 0} (merged : Er → Er → Er) (free : Type 0) (vets : Vets Tok Cx St Er V W) (part : Meaning Tok Cx St Er V) (quiet : free) where
  rules-spare : (r : Result W Er) (s : St) (b : Beginning Tok Cx St) (p : Outcome V Er St) (o : Outcome W Er St) → OnRuling merged free r s b p o → SparesMemory o.verdict
  rules-spare (Ok w) s b p o m = or_clash-spares _ o tt m
  rules-spare (Err e) s b p o m = or_lacks-spares quiet _ o tt m

  vetting-spares : (b : Beginning Tok Cx St) (v : Option V) (p : Outcome V Er St) (o : Outcome W Er St) → Vetting merged free vets b v p o → SparesMemory o.verdict
  vetting-spares b (Some v) p o m = rules-spare m.0 m.1 b p o m.3
  vetting-spares b None p o m = absurd m

  -- a part whose value is judged
  pub vetted-spares : NeverOutOfMemory part → NeverOutOfMemory (Vetted merged free vets part)
  vetted-spares h b o m = judged-spares (Asked true part) _ _ (asked-spares true part h) vetting-spares (λ c p q n. or_clash-spares _ q tt n) b o m.run

module _ {Tok Cx St Er V : Type 0} (merged : Er → Er → Er) where
  module _ (maps : ErrMaps Tok Cx St Er) where
    mapped-spares : (k : Option (Event Er)) (b : Beginning Tok Cx St) (p o : Outcome V Er St) → MappedAs merged maps k b p o → SparesMemory o.verdict
    mapped-spares None b p o h = rw (ap (λ (x : Outcome V Er St). x.verdict) h) tt
    mapped-spares (Some k) b p o h = or_clash-spares _ o tt h.3

    -- a part whose failures are mapped
    pub map_err-spares : (part : Meaning Tok Cx St Er V) → NeverOutOfMemory part → NeverOutOfMemory (MeansMapErr merged maps part)
    map_err-spares part h b o m = judged-spares part _ _ h (λ c v p q n. or_clash-spares _ q tt n) (λ c p q n. mapped-spares (primary merged p.events) c p q n) b o m.run

  -- a part that is only looked at
  pub rewind-spares : (part : Meaning Tok Cx St Er V) → NeverOutOfMemory part → NeverOutOfMemory (MeansRewind merged part)
  rewind-spares part h b o m =
      judged-spares part _ _ h (λ c v p q n. elim n [ inl x ↦ or_clash-spares _ q tt x.1 | inr x ↦ or_clash-spares _ q tt x.1 ]) (λ c p q n. or_clash-spares _ q tt n) b o m.run

module _ {I Tok Sp Cu Er St Mk Cx V : Type 0} (source : input_trait.Ghosts I Cu Tok Sp) (errors : error_trait.Ghosts Er I Tok Sp) (states : inspector_trait.Ghosts St I Mk Tok Sp) where
  module _ (quiet : errors.takes_no_memory) (still : states.takes_no_memory) (part : Meaning Tok Cx states.Seen errors.Seen V) where
    denies-spares : (m : states.Marked) (b : Beginning Tok Cx states.Seen) (v : Option V)
        (p : Outcome V errors.Seen states.Seen) (o : Outcome (Unit {0}) errors.Seen states.Seen)
        → Denies source errors states m b v p o → SparesMemory o.verdict
    denies-spares m b v p o (inl r) = absurd (r.0 still)
    denies-spares m b v p o (inr h) = or_lacks-spares quiet _ o tt h

    allows-spares : (m : states.Marked) (b : Beginning Tok Cx states.Seen) (p : Outcome V errors.Seen states.Seen)
        (o : Outcome (Unit {0}) errors.Seen states.Seen)
        → Allows {Cx = Cx} source errors states m b p o → SparesMemory o.verdict
    allows-spares m b p o (inl r) = absurd (r.0 still)
    allows-spares m b p o (inr h) = rw (ap (λ (x : Outcome (Unit {0}) errors.Seen states.Seen). x.verdict) h) tt

    -- a part that must not be there
    pub not-spares : NeverOutOfMemory part → NeverOutOfMemory (MeansNot source errors states part)
    not-spares h b o m = elim m.cases [
      | inl r ↦ absurd (r.0 still)
      | inr k ↦ judged-spares (Asked false part) _ _ (asked-spares false part h) (denies-spares (states.mark b.state)) (allows-spares (states.mark b.state)) b o k
    ]

module _ {Tok Cx St Mk Er V W : Type 0} (mark : St → Mk) (back : St → Mk → St) (safe : Type 0) (part : Meaning Tok Cx St Er V) (other : Meaning Tok Cx St Er W) where
  given_at-spares : (v : Option V) (place : ℕ) → NeverOutOfMemory (GivenAt {Tok = Tok} {Cx = Cx} {St = St} {Er = Er} v place)
  given_at-spares v place b o m = rw (ap (λ (x : Outcome V Er St). x.verdict) m) tt

  looks-spares : NeverOutOfMemory other → (place : ℕ) (v : Option V) → NeverOutOfMemory (LooksFrom place other v)
  looks-spares h place v b o m = chained-spares (Asked false other) (λ _. GivenAt v b.start) (asked-spares false other h) (λ _. given_at-spares v b.start) (record b { start = place }) o m

  -- two parts that both have to be there
  pub and_is-spares : safe → NeverOutOfMemory part → NeverOutOfMemory other → NeverOutOfMemory (MeansAndIs mark back safe part other)
  and_is-spares x h k b o m =
      chained-spares (OrElse mark back safe part SaysNo) (LooksFrom b.start other)
      (or_else-spares mark back safe part SaysNo x h no-spares) (λ v. looks-spares k b.start v) b o m.run
