-- The language of a parser with a strategy: a word of the parser, or, where the parser ends nowhere, one that the strategy takes.
-- Main word: recovered_language. Main law: recovered-accepts. Read first: Recovered.antt, ChoiceLanguage.antt of the parsers.
use Rattle.std.proofs.Common.{◌≡◌, List, drop, refl, subst, ◌⊎◌, inl, inr}
use Rattle.chumsky_input.specs.declared.stop.Stop.TheVariants.{Memory}
use Rattle.chumsky_input.specs.Outcome.{Meaning, Beginning, Outcome, Verdict, Yes, No, Halt, Clash}
use Rattle.chumsky_parser.specs.ChoiceEndings.{first_stands, second_stands}
use Rattle.chumsky_parser.specs.ChoiceLanguage.{or_language, either-accepts}
use Rattle.chumsky_parser.specs.Ending.{Ending, Nowhere, Refused, Ender, or_else, Answers, Here, Reads}
use Rattle.chumsky_parser.specs.EndingLaws.{refuses-by}
use Rattle.chumsky_parser.specs.Language.{Language, Accepts}
use Rattle.chumsky_parser.specs.ProgressLaws.{both-true}
use Rattle.chumsky_parser.specs.Words.{either_ends, ElseValue}
use Rattle.chumsky_judge.specs.MapErr.{YesAsOne}
use Rattle.chumsky_judge.specs.Judged.{NoAsOne}
use Rattle.chumsky_judge.specs.JudgedEndings.{or_clash-by, judged-here}
use Rattle.chumsky_recovery.specs.Recovered.{Final, Helped, ElseHelp, OrHelp, MarkedOrHelp, MeansRecovered}
use Rattle.chumsky_recovery.specs.RecoveryMoves.{recovered-moves}

-- that of a choice; but what the strategy takes may be refused for memory, since an error is emitted then
abbrev pub recovered_language : {Tok V : Type 0} → Language Tok V → Language Tok V → Language Tok V
recovered_language F G = record (or_language F G) { takes_no_memory = ⊥ }

module _ {Tok Cx St Mk Er V : Type 0} (merged : Er → Er → Er) (final : Final Tok Er) (back : St → Mk → St)
    (safe : Type 0) (mark : Mk) (part help : Meaning Tok Cx St Er V) (P Q : V → Type 0) (x y : Ending (List Tok))
    (b : Beginning Tok Cx St)
    (h : Here P part x b) (k : (s : St) → Here Q help y (record b { state = s })) where
  abbrev R : V → Type 0
  R v = ElseValue x (P v) (Q v)

  helped_by : x ≡ Nowhere → (p q o : Outcome V Er St) (u : Verdict V Er) → q.verdict ≡ u → help (record b { state = back p.state mark }) q → Helped merged final back safe mark u b p q o
      → Answers R (or_else x y) b.tokens.list o.verdict o.end
  helped_by n p q o (Yes v) e m (inl r) = refuses-by R (or_else x y) b.tokens.list o r
  helped_by n p q o (Yes v) e m (inr t) =
      let z : Answers R (or_else x y) b.tokens.list q.verdict q.end = second_stands P Q x y b.tokens.list q.verdict q.end n (k (back p.state mark) q m) in
      rw t z
  helped_by n p q o No e m (inl r) = refuses-by R (or_else x y) b.tokens.list o r
  helped_by n p q o No e m (inr t) =
      let a : y ≡ Nowhere = subst (λ u. Answers Q {Er = Er} y b.tokens.list u q.end) e (k (back p.state mark) q m) in
      let z : or_else x y ≡ Nowhere = rw n a in
      rw t z
  helped_by n p q o (Halt s) e m t =
      let z : Answers R (or_else x y) b.tokens.list q.verdict q.end = second_stands P Q x y b.tokens.list q.verdict q.end n (k (back p.state mark) q m) in
      rw t z
  helped_by n p q o (Clash c) e m t =
      let z : Answers R (or_else x y) b.tokens.list q.verdict q.end = second_stands P Q x y b.tokens.list q.verdict q.end n (k (back p.state mark) q m) in
      rw t z

  else_help_by : (p o : Outcome V Er St) (u : Verdict V Er) → p.verdict ≡ u → part b p → ElseHelp merged final back safe mark u help b p o → Answers R (or_else x y) b.tokens.list o.verdict o.end
  else_help_by p o (Yes v) e m t =
      let a : Answers P {Er = Er} x b.tokens.list (Yes v) p.end = subst (λ u. Answers P {Er = Er} x b.tokens.list u p.end) e (h p m) in
      let yes : Verdict V Er = Yes v in
      let never : yes ≡ No → ⊥ = λ n. cc n in
      let z : Answers R {Er = Er} (or_else x y) b.tokens.list (Yes v) p.end = first_stands P Q x y b.tokens.list (Yes v) p.end never a in
      rw (t, e) z
  else_help_by p o No e m (inl r) = refuses-by R (or_else x y) b.tokens.list o r
  else_help_by p o No e m (inr g) =
      let a : x ≡ Nowhere = subst (λ u. Answers P {Er = Er} x b.tokens.list u p.end) e (h p m) in
      helped_by a p g.0 o g.0.verdict refl g.1 g.2
  else_help_by p o (Halt s) e m t =
      let a : (s ≡ Memory) ⊎ (x ≡ Refused) = subst (λ u. Answers P {Er = Er} x b.tokens.list u p.end) e (h p m) in
      let z : (s ≡ Memory) ⊎ (or_else x y ≡ Refused) = elim a [ inl q ↦ inl q | inr q ↦ inr (rw q refl) ] in
      rw (t, e) z
  else_help_by p o (Clash c) e m t = rw (t, e) tt

  or_help-here : Here R (OrHelp merged final back safe mark part help) (or_else x y) b
  or_help-here o m = else_help_by m.attempt o m.attempt.verdict refl m.meant m.then_help

module _ {Tok Cx St Mk Er V : Type 0} (merged : Er → Er → Er) (final : Final Tok Er) (mark : St → Mk) (back : St → Mk → St) (safe : Type 0) (part help : Meaning Tok Cx St Er V) where
  abbrev Recovered : Meaning Tok Cx St Er V
  Recovered = MeansRecovered merged final mark back safe part help

  marked-here : (P Q : V → Type 0) (x y : Ending (List Tok)) (b : Beginning Tok Cx St) → Here P part x b → ((s : St) → Here Q help y (record b { state = s }))
      → Here (λ v. ElseValue x (P v) (Q v)) (MarkedOrHelp merged final mark back safe part help) (or_else x y) b
  marked-here P Q x y b h k o m = elim m.cases [
    | inl r ↦ refuses-by (λ v. ElseValue x (P v) (Q v)) (or_else x y) b.tokens.list o r
    | inr t ↦ or_help-here merged final back safe (mark b.state) part help P Q x y b h k o t
  ]

  -- it ends as the part, and as the help where the part ends nowhere
  recovered-by : (f g : Ender Tok) (va vb : List Tok → V → Type 0) → Reads part f va → Reads help g vb → Reads Recovered (either_ends f g) (λ ts v. ElseValue (f ts) (va ts v) (vb ts v))
  recovered-by f g va vb h k = record {
    here = λ b w o m.
        let ts : List Tok = drop b.start b.tokens.list in
        let x : Ending (List Tok) = either_ends f g ts in
        let R : V → Type 0 = λ v. ElseValue (f ts) (va ts v) (vb ts v) in
        judged-here R R (MarkedOrHelp merged final mark back safe part help) (YesAsOne merged) (NoAsOne merged) x x b (record {
          yes = λ v p q e i l j. or_clash-by R x b.tokens.list _ q (e, i, l) j;
          no = λ p q e j. or_clash-by R x b.tokens.list _ q e j;
          refused = λ e. e;
        }) (marked-here (va ts) (vb ts) (f ts) (g ts) b (h.here b w) (λ s. k.here (record b { state = s }) (record { start = w.start; few = w.few }))) o m.run;
  }

  whatever : {m : Meaning Tok Cx St Er V} {L : Language Tok V} {spare : Type 0} → Accepts m L spare → Accepts m L ⊥
  whatever h = record { described = h.described; moving = h.moving; sparing = λ q t. absurd q }

  -- `part.recover_with(help)`
  pub recovered-accepts : {F G : Language Tok V} {spare : Type 0} → Accepts part F spare → Accepts help G spare → Accepts Recovered (recovered_language F G) spare
  recovered-accepts {F} {G} h k =
      let e = either-accepts part help Recovered F G {safe = ⊥} {spare = ⊥} (λ q. q) (record {
        reads = recovered-by F.ends G.ends F.value G.value;
        moving = λ a c m. let t = both-true F.moves G.moves m in recovered-moves merged final mark back safe part help (a t.0) (c t.1);
        sparing = λ q i j. absurd q;
      }) (whatever h) (whatever k) in
      record {
        described = λ s. let d = e.described s in record { reads = d.reads; only = d.only; given = d.given; each = d.each; decided = d.decided; further = d.further };
        moving = e.moving;
        sparing = λ q t. absurd t;
      }
