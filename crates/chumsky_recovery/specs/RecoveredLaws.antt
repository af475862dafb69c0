-- The laws of a part in whose place something else is run where it says no.
use Rattle.std.proofs.Common.{◌≡◌, ◌≤◌, [], ◌∷◌, ◌++◌, refl, sym, ◌∙◌, ap, subst, arith, inl, inr}
use Rattle.chumsky_input.specs.Outcome.{Meaning, Beginning, Outcome, Verdict, Yes, No, Halt, Clash, IsAnswer, SameAnswer, Alike, Agree, EndsAfterStart, Agreeing}
use Rattle.chumsky_judge.specs.MapErrLaws.{yes_as_one-ends, yes_as_one-agrees}
use Rattle.chumsky_judge.specs.JudgedLaws.{judged-ends, judged-agrees, no_as_one-ends, no_as_one-agrees}
use Rattle.chumsky_recovery.specs.Recovered.{Final, error_of, Helped, ElseHelp, OrHelp, MarkedOrHelp, MeansRecovered}

module _ {Tok Cx St Mk Er V : Type 0} (merged : Er → Er → Er) (final : Final Tok Er) (back : St → Mk → St) (safe : Type 0) (mark : Mk) (part help : Meaning Tok Cx St Er V) where
  helped_ends : EndsAfterStart help → (v : Verdict V Er) (b : Beginning Tok Cx St) (p q o : Outcome V Er St)
      → q.verdict ≡ v → help (record b { state = back p.state mark }) q → Helped merged final back safe mark v b p q o
      → IsAnswer o.verdict → b.start ≤ o.end
  helped_ends h (Yes v) b p q o e m (inl r) a = absurd (subst IsAnswer r.1 a)
  helped_ends h (Yes v) b p q o e m (inr t) a =
      let on : b.start ≤ q.end = h (record b { state = back p.state mark }) q m (rw e tt) in
      let l : o.end ≡ q.end = ap (λ (x : Outcome V Er St). x.end) t in
      omega arith
  helped_ends h No b p q o e m (inl r) a = absurd (subst IsAnswer r.1 a)
  helped_ends h No b p q o e m (inr t) a = let l : o.end ≡ b.start = ap (λ (x : Outcome V Er St). x.end) t in omega arith
  helped_ends h (Halt s) b p q o e m t a = absurd (subst IsAnswer (ap (λ (x : Outcome V Er St). x.verdict) t ∙ e) a)
  helped_ends h (Clash s) b p q o e m t a = absurd (subst IsAnswer (ap (λ (x : Outcome V Er St). x.verdict) t ∙ e) a)

  else_help_ends : EndsAfterStart part → EndsAfterStart help
      → (v : Verdict V Er) (b : Beginning Tok Cx St) (p o : Outcome V Er St) → part b p
      → ElseHelp merged final back safe mark v help b p o → IsAnswer o.verdict → b.start ≤ o.end
  else_help_ends hp hh (Yes v) b p o m e a = hp b o (subst (part b) (sym e) m) a
  else_help_ends hp hh No b p o m (inl r) a = absurd (subst IsAnswer r.1 a)
  else_help_ends hp hh No b p o m (inr k) a = helped_ends hh k.0.verdict b p k.0 o refl k.1 k.2 a
  else_help_ends hp hh (Halt s) b p o m e a = hp b o (subst (part b) (sym e) m) a
  else_help_ends hp hh (Clash x) b p o m e a = hp b o (subst (part b) (sym e) m) a

  pub or_help-ends : EndsAfterStart part → EndsAfterStart help → EndsAfterStart (OrHelp merged final back safe mark part help)
  or_help-ends hp hh b o t a = else_help_ends hp hh t.attempt.verdict b t.attempt o t.meant t.then_help a

  module _ (s : V → V → Type 0) where
    helped_agree : Agreeing s help help → (b c : Beginning Tok Cx St) (p r q u o x : Outcome V Er St) → Alike b c → Agree s p r
        → help (record b { state = back p.state mark }) q → help (record c { state = back r.state mark }) u
        → (v w : Verdict V Er) → q.verdict ≡ v → u.verdict ≡ w → Helped merged final back safe mark v b p q o
        → Helped merged final back safe mark w c r u x → IsAnswer o.verdict → IsAnswer x.verdict → Agree s o x
    helped_agree h b c p r q u o x alike g m n (Yes v) (Yes w) e d (inl k) t a z = absurd (subst IsAnswer k.1 a)
    helped_agree h b c p r q u o x alike g m n (Yes v) (Yes w) e d (inr k) (inl t) a z = absurd (subst IsAnswer t.1 z)
    helped_agree h b c p r q u o x alike g m n (Yes v) (Yes w) e d (inr k) (inr t) a z =
        let gone : Alike (record b { state = back p.state mark }) (record c { state = back r.state mark }) =
        record { tokens = alike.tokens; start = alike.start; context = alike.context; state = ap (λ y. back y mark) g.state }
        in
        let i : Agree s q u = h (record b { state = back p.state mark }) (record c { state = back r.state mark }) q u gone m n (rw e tt) (rw d tt) in
        let told : error_of merged final b p ≡ error_of merged final c r = cc (alike.tokens, g.events, g.end) in
        let joined : Agree s (record q { emitted = q.emitted ++ error_of merged final b p ∷ [] }) (record u { emitted = u.emitted ++ error_of merged final c r ∷ [] }) =
        record { answer = i.answer; end = i.end; state = i.state; events = i.events; emitted = cc (i.emitted, told) } in
        rw (k, t) joined
    helped_agree h b c p r q u o x alike g m n (Yes v) No e d k t a z =
        let gone : Alike (record b { state = back p.state mark }) (record c { state = back r.state mark }) =
        record { tokens = alike.tokens; start = alike.start; context = alike.context; state = ap (λ y. back y mark) g.state }
        in
        let i : Agree s q u = h (record b { state = back p.state mark }) (record c { state = back r.state mark }) q u gone m n (rw e tt) (rw d tt) in
        let no : SameAnswer s q.verdict u.verdict = i.answer in absurd (rw (e, d) at no)
    helped_agree h b c p r q u o x alike g m n No (Yes w) e d k t a z =
        let gone : Alike (record b { state = back p.state mark }) (record c { state = back r.state mark }) =
        record { tokens = alike.tokens; start = alike.start; context = alike.context; state = ap (λ y. back y mark) g.state }
        in
        let i : Agree s q u = h (record b { state = back p.state mark }) (record c { state = back r.state mark }) q u gone m n (rw e tt) (rw d tt) in
        let no : SameAnswer s q.verdict u.verdict = i.answer in absurd (rw (e, d) at no)
    helped_agree h b c p r q u o x alike g m n No No e d (inl k) t a z = absurd (subst IsAnswer k.1 a)
    helped_agree h b c p r q u o x alike g m n No No e d (inr k) (inl t) a z = absurd (subst IsAnswer t.1 z)
    helped_agree h b c p r q u o x alike g m n No No e d (inr k) (inr t) a z =
        let gone : Alike (record b { state = back p.state mark }) (record c { state = back r.state mark }) =
        record { tokens = alike.tokens; start = alike.start; context = alike.context; state = ap (λ y. back y mark) g.state }
        in
        let i : Agree s q u = h (record b { state = back p.state mark }) (record c { state = back r.state mark }) q u gone m n (rw e tt) (rw d tt) in
        let joined : Agree s
        (record { verdict = No; end = b.start; state = back q.state mark; events = p.events; emitted = [] })
        (record { verdict = No; end = c.start; state = back u.state mark; events = r.events; emitted = [] }) =
        record { answer = tt; end = alike.start; state = ap (λ y. back y mark) i.state; events = g.events; emitted = refl } in
        rw (k, t) joined
    helped_agree h b c p r q u o x alike g m n (Yes v) (Halt y) e d k t a z = absurd (subst IsAnswer (ap (λ (i : Outcome V Er St). i.verdict) t ∙ d) z)
    helped_agree h b c p r q u o x alike g m n (Yes v) (Clash y) e d k t a z = absurd (subst IsAnswer (ap (λ (i : Outcome V Er St). i.verdict) t ∙ d) z)
    helped_agree h b c p r q u o x alike g m n No (Halt y) e d k t a z = absurd (subst IsAnswer (ap (λ (i : Outcome V Er St). i.verdict) t ∙ d) z)
    helped_agree h b c p r q u o x alike g m n No (Clash y) e d k t a z = absurd (subst IsAnswer (ap (λ (i : Outcome V Er St). i.verdict) t ∙ d) z)
    helped_agree h b c p r q u o x alike g m n (Halt y) w e d k t a z = absurd (subst IsAnswer (ap (λ (i : Outcome V Er St). i.verdict) k ∙ e) a)
    helped_agree h b c p r q u o x alike g m n (Clash y) w e d k t a z = absurd (subst IsAnswer (ap (λ (i : Outcome V Er St). i.verdict) k ∙ e) a)

    else_help_agree : Agreeing s part part → Agreeing s help help → (b c : Beginning Tok Cx St) (o q p r : Outcome V Er St) → Alike b c → part b p → part c r
        → (v w : Verdict V Er) → p.verdict ≡ v → r.verdict ≡ w → ElseHelp merged final back safe mark v help b p o
        → ElseHelp merged final back safe mark w help c r q → IsAnswer o.verdict → IsAnswer q.verdict → Agree s o q
    else_help_agree hp hh b c o q p r alike m n (Yes v) (Yes w) x y e d a z = rw (e, d) (hp b c p r alike m n (rw x tt) (rw y tt))
    else_help_agree hp hh b c o q p r alike m n (Yes v) No x y e d a z =
        let no : SameAnswer s p.verdict r.verdict = (hp b c p r alike m n (rw x tt) (rw y tt)).answer in absurd (rw (x, y) at no)
    else_help_agree hp hh b c o q p r alike m n No (Yes w) x y e d a z =
        let no : SameAnswer s p.verdict r.verdict = (hp b c p r alike m n (rw x tt) (rw y tt)).answer in absurd (rw (x, y) at no)
    else_help_agree hp hh b c o q p r alike m n No No x y (inl e) d a z = absurd (subst IsAnswer e.1 a)
    else_help_agree hp hh b c o q p r alike m n No No x y (inr e) (inl d) a z = absurd (subst IsAnswer d.1 z)
    else_help_agree hp hh b c o q p r alike m n No No x y (inr e) (inr d) a z =
        helped_agree hh b c p r e.0 d.0 o q alike (hp b c p r alike m n (rw x tt) (rw y tt)) e.1 d.1 e.0.verdict d.0.verdict refl refl e.2 d.2 a z
    else_help_agree hp hh b c o q p r alike m n (Yes v) (Halt i) x y e d a z = absurd (subst IsAnswer (ap (λ (j : Outcome V Er St). j.verdict) d ∙ y) z)
    else_help_agree hp hh b c o q p r alike m n (Yes v) (Clash i) x y e d a z = absurd (subst IsAnswer (ap (λ (j : Outcome V Er St). j.verdict) d ∙ y) z)
    else_help_agree hp hh b c o q p r alike m n No (Halt i) x y e d a z = absurd (subst IsAnswer (ap (λ (j : Outcome V Er St). j.verdict) d ∙ y) z)
    else_help_agree hp hh b c o q p r alike m n No (Clash i) x y e d a z = absurd (subst IsAnswer (ap (λ (j : Outcome V Er St). j.verdict) d ∙ y) z)
    else_help_agree hp hh b c o q p r alike m n (Halt i) w x y e d a z = absurd (subst IsAnswer (ap (λ (j : Outcome V Er St). j.verdict) e ∙ x) a)
    else_help_agree hp hh b c o q p r alike m n (Clash i) w x y e d a z = absurd (subst IsAnswer (ap (λ (j : Outcome V Er St). j.verdict) e ∙ x) a)

    pub or_help-agrees : Agreeing s part part → Agreeing s help help → Agreeing s (OrHelp merged final back safe mark part help) (OrHelp merged final back safe mark part help)
    or_help-agrees hp hh b c o q alike t u a z = else_help_agree hp hh b c o q t.attempt u.attempt alike t.meant u.meant t.attempt.verdict u.attempt.verdict refl refl t.then_help u.then_help a z

module _ {Tok Cx St Mk Er V : Type 0} (merged : Er → Er → Er) (final : Final Tok Er) (mark : St → Mk) (back : St → Mk → St) (safe : Type 0) (part help : Meaning Tok Cx St Er V) where
  marked-ends : EndsAfterStart part → EndsAfterStart help → EndsAfterStart (MarkedOrHelp merged final mark back safe part help)
  marked-ends hp hh b o m a = elim m.cases [ inl r ↦ absurd (subst IsAnswer r.1 a) | inr t ↦ or_help-ends merged final back safe (mark b.state) part help hp hh b o t a ]

  marked-agrees : (s : V → V → Type 0) → Agreeing s part part → Agreeing s help help
      → Agreeing s (MarkedOrHelp merged final mark back safe part help) (MarkedOrHelp merged final mark back safe part help)
  marked-agrees s hp hh b c o q alike m n a z =
      elim m.cases [
        | inl r ↦ absurd (subst IsAnswer r.1 a)
        | inr t ↦ elim n.cases [
          | inl r ↦ absurd (subst IsAnswer r.1 z)
          | inr u ↦ or_help-agrees merged final back safe (mark b.state) part help s hp hh b c o q alike t (subst (λ y. OrHelp merged final back safe (mark y) part help c q) (sym alike.state) u) a z
        ]
      ]

  pub recovered-ends : EndsAfterStart part → EndsAfterStart help → EndsAfterStart (MeansRecovered merged final mark back safe part help)
  recovered-ends hp hh b o m a = judged-ends _ _ _ (marked-ends hp hh) (yes_as_one-ends merged) (no_as_one-ends merged) b o m.run a

  pub recovered-agrees : (s : V → V → Type 0) → Agreeing s part part → Agreeing s help help
      → Agreeing s (MeansRecovered merged final mark back safe part help) (MeansRecovered merged final mark back safe part help)
  recovered-agrees s hp hh b c o q alike m n a z =
      judged-agrees _ _ _ s s (marked-agrees s hp hh) (yes_as_one-agrees merged s) (no_as_one-agrees merged s s) b c o q alike m.run n.run a z
