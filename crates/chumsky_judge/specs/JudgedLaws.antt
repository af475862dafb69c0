-- What holds of what is made of a part, since it holds of the part.
use Rattle.std.proofs.Common.{◌≡◌, ℕ, ◌≤◌, Option, Some, None, List, [], ◌∷◌, refl, ap, subst, arith, inl, inr, option_to_list}
use Rattle.chumsky_input.specs.Outcome.{Event, Meaning, Beginning, Outcome, Verdict, Yes, No, Halt, Clash, IsAnswer, SameValue, SameAnswer, Alike, Agree, EndsAfterStart, Agreeing}
use Rattle.chumsky_parser.specs.Chained.{retold}
use Rattle.chumsky_judge.specs.Judged.{as_one, OrClash, OrLacks, OfYes, OfNo, ByVerdict, Judged, NoAsOne}

module _ {V Er St : Type 0} where
  -- an answer is no refused merge
  pub or_clash-whole : {whole o : Outcome V Er St} → OrClash whole o → IsAnswer o.verdict → o ≡ whole
  or_clash-whole (inl e) a = e
  or_clash-whole (inr c) a = absurd (subst IsAnswer (ap (λ (x : Outcome V Er St). x.verdict) c.2) a)

  pub or_lacks-whole : {safe : Type 0} {whole o : Outcome V Er St} → OrLacks safe whole o → IsAnswer o.verdict → o ≡ whole
  or_lacks-whole (inl r) a = absurd (subst IsAnswer r.1 a)
  or_lacks-whole (inr c) a = or_clash-whole c a

module _ {Tok Cx St Er V W : Type 0} (part : Meaning Tok Cx St Er V) (on_yes : OfYes Tok Cx St Er V W) (on_no : OfNo Tok Cx St Er V W) where
  judges_end : EndsAfterStart part
      → ((b : Beginning Tok Cx St) (v : Option V) (p : Outcome V Er St) (o : Outcome W Er St) → b.start ≤ p.end → on_yes b v p o → IsAnswer o.verdict → b.start ≤ o.end)
      → ((b : Beginning Tok Cx St) (p : Outcome V Er St) (o : Outcome W Er St) → b.start ≤ p.end → on_no b p o → IsAnswer o.verdict → b.start ≤ o.end)
      → (v : Verdict V Er) (b : Beginning Tok Cx St) (p : Outcome V Er St) (o : Outcome W Er St) → p.verdict ≡ v → part b p → ByVerdict v on_yes on_no b p o → IsAnswer o.verdict → b.start ≤ o.end
  judges_end h hy hn (Yes v) b p o e m j a = hy b v p o (h b p m (rw e tt)) j a
  judges_end h hy hn No b p o e m j a = hn b p o (h b p m (rw e tt)) j a
  judges_end h hy hn (Halt s) b p o e m j a = absurd (subst IsAnswer (ap (λ (x : Outcome W Er St). x.verdict) j) a)
  judges_end h hy hn (Clash s) b p o e m j a = absurd (subst IsAnswer (ap (λ (x : Outcome W Er St). x.verdict) j) a)

  pub judged-ends : EndsAfterStart part
      → ((b : Beginning Tok Cx St) (v : Option V) (p : Outcome V Er St) (o : Outcome W Er St) → b.start ≤ p.end → on_yes b v p o → IsAnswer o.verdict → b.start ≤ o.end)
      → ((b : Beginning Tok Cx St) (p : Outcome V Er St) (o : Outcome W Er St) → b.start ≤ p.end → on_no b p o → IsAnswer o.verdict → b.start ≤ o.end)
      → EndsAfterStart (Judged part on_yes on_no)
  judged-ends h hy hn b o m a = judges_end h hy hn m.first.verdict b m.first o refl m.meant m.judges a

  module _ (sv : V → V → Type 0) (sw : W → W → Type 0) where
    judges_agree : Agreeing sv part part
        →
        ((b c : Beginning Tok Cx St) (v v' : Option V) (p p' : Outcome V Er St) (o q : Outcome W Er St)
        → Alike b c → SameValue sv v v' → Agree sv p p' → on_yes b v p o → on_yes c v' p' q
        → IsAnswer o.verdict → IsAnswer q.verdict → Agree sw o q)
        →
        ((b c : Beginning Tok Cx St) (p p' : Outcome V Er St) (o q : Outcome W Er St) → Alike b c → Agree sv p p'
        → on_no b p o → on_no c p' q → IsAnswer o.verdict → IsAnswer q.verdict → Agree sw o q)
        → (b c : Beginning Tok Cx St) (p p' : Outcome V Er St) (o q : Outcome W Er St) → Alike b c → part b p
        → part c p' → (v w : Verdict V Er) → p.verdict ≡ v → p'.verdict ≡ w → ByVerdict v on_yes on_no b p o
        → ByVerdict w on_yes on_no c p' q → IsAnswer o.verdict → IsAnswer q.verdict → Agree sw o q
    judges_agree h hy hn b c p p' o q alike m n (Yes v) (Yes w) e d j k a z =
        let g : Agree sv p p' = h b c p p' alike m n (rw e tt) (rw d tt) in
        let s : SameAnswer sv p.verdict p'.verdict = g.answer in
        hy b c v w p p' o q alike (rw (e, d) at s) g j k a z
    judges_agree h hy hn b c p p' o q alike m n (Yes v) No e d j k a z =
        let s : SameAnswer sv p.verdict p'.verdict = (h b c p p' alike m n (rw e tt) (rw d tt)).answer in absurd (rw (e, d) at s)
    judges_agree h hy hn b c p p' o q alike m n No (Yes w) e d j k a z =
        let s : SameAnswer sv p.verdict p'.verdict = (h b c p p' alike m n (rw e tt) (rw d tt)).answer in absurd (rw (e, d) at s)
    judges_agree h hy hn b c p p' o q alike m n No No e d j k a z = hn b c p p' o q alike (h b c p p' alike m n (rw e tt) (rw d tt)) j k a z
    judges_agree h hy hn b c p p' o q alike m n (Yes v) (Halt s) e d j k a z = absurd (subst IsAnswer (ap (λ (x : Outcome W Er St). x.verdict) k) z)
    judges_agree h hy hn b c p p' o q alike m n (Yes v) (Clash s) e d j k a z = absurd (subst IsAnswer (ap (λ (x : Outcome W Er St). x.verdict) k) z)
    judges_agree h hy hn b c p p' o q alike m n No (Halt s) e d j k a z = absurd (subst IsAnswer (ap (λ (x : Outcome W Er St). x.verdict) k) z)
    judges_agree h hy hn b c p p' o q alike m n No (Clash s) e d j k a z = absurd (subst IsAnswer (ap (λ (x : Outcome W Er St). x.verdict) k) z)
    judges_agree h hy hn b c p p' o q alike m n (Halt s) w e d j k a z = absurd (subst IsAnswer (ap (λ (x : Outcome W Er St). x.verdict) j) a)
    judges_agree h hy hn b c p p' o q alike m n (Clash s) w e d j k a z = absurd (subst IsAnswer (ap (λ (x : Outcome W Er St). x.verdict) j) a)

    pub judged-agrees : Agreeing sv part part
        →
        ((b c : Beginning Tok Cx St) (v v' : Option V) (p p' : Outcome V Er St) (o q : Outcome W Er St)
        → Alike b c → SameValue sv v v' → Agree sv p p' → on_yes b v p o → on_yes c v' p' q
        → IsAnswer o.verdict → IsAnswer q.verdict → Agree sw o q)
        →
        ((b c : Beginning Tok Cx St) (p p' : Outcome V Er St) (o q : Outcome W Er St) → Alike b c → Agree sv p p'
        → on_no b p o → on_no c p' q → IsAnswer o.verdict → IsAnswer q.verdict → Agree sw o q)
        → Agreeing sw (Judged part on_yes on_no) (Judged part on_yes on_no)
    judged-agrees h hy hn b c o q alike m n a z = judges_agree h hy hn b c m.first n.first o q alike m.meant n.meant m.first.verdict n.first.verdict refl refl m.judges n.judges a z

-- where a no of the part is the whole's
module _ {Tok Cx St Er V W : Type 0} (merged : Er → Er → Er) where
  pub no_as_one-ends : (b : Beginning Tok Cx St) (p : Outcome V Er St) (o : Outcome W Er St) → b.start ≤ p.end → NoAsOne {Tok = Tok} {Cx = Cx} merged b p o → IsAnswer o.verdict → b.start ≤ o.end
  no_as_one-ends b p o l m a = let e = ap (λ (x : Outcome W Er St). x.end) (or_clash-whole m a) in omega arith

  pub no_as_one-agrees : (sv : V → V → Type 0) (sw : W → W → Type 0) (b c : Beginning Tok Cx St)
      (p p' : Outcome V Er St) (o q : Outcome W Er St)
      → Alike b c → Agree sv p p' → NoAsOne {Tok = Tok} {Cx = Cx} merged b p o
      → NoAsOne {Tok = Tok} {Cx = Cx} merged c p' q → IsAnswer o.verdict → IsAnswer q.verdict → Agree sw o q
  no_as_one-agrees sv sw b c p p' o q alike g m n a z =
      let told : Agree sw (retold {W = W} No (as_one merged p)) (retold No (as_one merged p')) =
      record { answer = tt; end = g.end; state = g.state; events = let e = g.events in cc; emitted = g.emitted }
      in
      rw (or_clash-whole m a, or_clash-whole n z) told
