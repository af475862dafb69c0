-- Where what is judged or looked at ends, and with which values, by where its parts end.
-- Main laws: judged-here, map_err-by, rewind-by, not-by, and_is-by. Read first: Ending.antt, Judged.antt.
use Rattle.std.proofs.Common.{◌≡◌, ℕ, ◌≤◌, false, Option, Some, None, List, drop, length, refl, subst, ◌⊎◌, inl, inr}
use Rattle.chumsky_input.specs.declared.error.Error as error_trait
use Rattle.chumsky_input.specs.declared.inspector.Inspector as inspector_trait
use Rattle.chumsky_input.specs.declared.input.Input as input_trait
use Rattle.chumsky_input.specs.declared.stop.Stop.TheVariants.{Memory}
use Rattle.chumsky_input.specs.Outcome.{Event, Meaning, Beginning, Outcome, Verdict, Yes, No, Halt, Clash}
use Rattle.chumsky_input.specs.Primary.{primary}
use Rattle.chumsky_parser.specs.Chained.{Asked, Follows, from}
use Rattle.chumsky_parser.specs.Choice.{OrElse}
use Rattle.chumsky_parser.specs.ChoiceEndings.{or_else-here}
use Rattle.chumsky_parser.specs.Ending.{Ending, At, Nowhere, Refused, Ender, or_else, Within, IfValue, Answers, Here, Reads}
use Rattle.chumsky_parser.specs.EndingLaws.{answers_weaker, refuses-by, asked-here, wanting_value}
use Rattle.chumsky_parser.specs.Failure.{SaysNo, wanting}
use Rattle.chumsky_parser.specs.Words.{ElseValue}
use Rattle.chumsky_judge.specs.AndIs.{GivenAt, LooksFrom, MeansAndIs, Rewinds, MeansRewind}
use Rattle.chumsky_judge.specs.Looking.{back, unless, there_too, rewind_ends, not_ends, and_is_ends}
use Rattle.chumsky_judge.specs.MapErr.{ErrMaps, YesAsOne, MappedAs, NoMapped, MeansMapErr}
use Rattle.chumsky_judge.specs.Not.{Denies, Allows, MeansNot}
use Rattle.chumsky_judge.specs.Judged.{OrClash, OrLacks, OfYes, OfNo, ByVerdict, Judged, NoAsOne}

module _ {Tok St Er W : Type 0} (Q : W → Type 0) (y : Ending (List Tok)) (ts : List Tok) where
  -- the answer of an outcome, or a refused merge of its event
  pub or_clash-by : (whole o : Outcome W Er St) → Answers Q y ts whole.verdict whole.end → OrClash whole o → Answers Q y ts o.verdict o.end
  or_clash-by whole o a (inl e) = rw e a
  or_clash-by whole o a (inr c) = rw c.2 tt

  pub or_lacks-by : {safe : Type 0} (whole o : Outcome W Er St) → Answers Q y ts whole.verdict whole.end → OrLacks safe whole o → Answers Q y ts o.verdict o.end
  or_lacks-by whole o a (inl r) = refuses-by Q y ts o r
  or_lacks-by whole o a (inr c) = or_clash-by whole o a c

module _ {Tok Cx St Er V W : Type 0} (P : V → Type 0) (Q : W → Type 0) (part : Meaning Tok Cx St Er V)
    (on_yes : OfYes Tok Cx St Er V W) (on_no : OfNo Tok Cx St Er V W) (x y : Ending (List Tok))
    (b : Beginning Tok Cx St) where
  abbrev Answered : Outcome W Er St → Type 0
  Answered o = Answers Q y b.tokens.list o.verdict o.end

  -- what is made of a yes of the part answers so, and of a no
  pub record AnswersSo : Type 0 where
    pub yes : (v : Option V) (p : Outcome V Er St) (o : Outcome W Er St) → x ≡ At (drop p.end b.tokens.list) → IfValue P v → p.end ≤ length b.tokens.list → on_yes b v p o → Answered o
    pub no : (p : Outcome V Er St) (o : Outcome W Er St) → x ≡ Nowhere → on_no b p o → Answered o
    pub refused : x ≡ Refused → y ≡ Refused

  judged_by : AnswersSo → Here P part x b → (o : Outcome W Er St) (p : Outcome V Er St) (u : Verdict V Er) → p.verdict ≡ u → part b p → ByVerdict u on_yes on_no b p o → Answered o
  judged_by so h o p (Yes v) e m j =
      let a : Answers P {Er = Er} x b.tokens.list (Yes v) p.end = subst (λ u. Answers P {Er = Er} x b.tokens.list u p.end) e (h p m) in
      so.yes v p o a.0 a.1 a.2 j
  judged_by so h o p No e m j =
      let a : x ≡ Nowhere = subst (λ u. Answers P {Er = Er} x b.tokens.list u p.end) e (h p m) in
      so.no p o a j
  judged_by so h o p (Halt s) e m j =
      let a : (s ≡ Memory) ⊎ (x ≡ Refused) = subst (λ u. Answers P {Er = Er} x b.tokens.list u p.end) e (h p m) in
      let z : (s ≡ Memory) ⊎ (y ≡ Refused) = elim a [ inl q ↦ inl q | inr q ↦ inr (so.refused q) ] in
      rw j z
  judged_by so h o p (Clash c) e m j = rw j tt

  -- a part, and what is made of its outcome
  pub judged-here : AnswersSo → Here P part x b → Here Q (Judged part on_yes on_no) y b
  judged-here so h o m = judged_by so h o m.first m.first.verdict refl m.meant m.judges

module _ {Tok Cx St Er V : Type 0} (merged : Er → Er → Er) (maps : ErrMaps Tok Cx St Er) (part : Meaning Tok Cx St Er V) (f : Ender Tok) (va : List Tok → V → Type 0) where
  mapped_no : (ts : List Tok) (k : Option (Event Er)) (b : Beginning Tok Cx St) (p o : Outcome V Er St)
      → f ts ≡ Nowhere → MappedAs merged maps k b p o → Answers (va ts) (f ts) b.tokens.list o.verdict o.end
  mapped_no ts None b p o e m = rw (m, e) refl
  mapped_no ts (Some k) b p o e m = or_clash-by (va ts) (f ts) b.tokens.list _ o e m.3

  -- a part whose failures are mapped
  pub map_err-by : Reads part f va → Reads (MeansMapErr merged maps part) f va
  map_err-by h = record {
    here = λ b w o m.
        let ts : List Tok = drop b.start b.tokens.list in
        judged-here (va ts) (va ts) part (YesAsOne merged) (NoMapped merged maps) (f ts) (f ts) b (record {
          yes = λ v p o e i l j. or_clash-by (va ts) (f ts) b.tokens.list _ o (e, i, l) j;
          no = λ p o e j. mapped_no ts (primary merged p.events) b p o e j;
          refused = λ e. e;
        }) (h.here b w) o m.run;
  }

module _ {Tok Cx St Er V : Type 0} (merged : Er → Er → Er) (part : Meaning Tok Cx St Er V) (f : Ender Tok) (va : List Tok → V → Type 0) where
  -- a part that is only looked at
  pub rewind-by : Reads part f va → Reads (MeansRewind merged part) (rewind_ends f) va
  rewind-by h = record {
    here = λ b w o m.
        let ts : List Tok = drop b.start b.tokens.list in
        let there : (rest : List Tok) → f ts ≡ At rest → back ts (f ts) ≡ At ts = λ rest e. rw e refl in
        judged-here (va ts) (va ts) part (Rewinds merged) (NoAsOne merged) (f ts) (back ts (f ts)) b (record {
          yes = λ v p o e i l j.
              let d : back ts (f ts) ≡ At ts = there (drop p.end b.tokens.list) e in
              elim j [ inl k ↦ or_clash-by (va ts) (back ts (f ts)) b.tokens.list _ o (d, i, w.start) k.1 | inr k ↦ or_clash-by (va ts) (back ts (f ts)) b.tokens.list _ o (d, i, w.start) k.1 ];
          no = λ p o e j. let d : back ts (f ts) ≡ Nowhere = rw e refl in or_clash-by (va ts) (back ts (f ts)) b.tokens.list _ o d j;
          refused = λ e. rw e refl;
        }) (h.here b w) o m.run;
  }

module _ {I Tok Sp Cu Er St Mk Cx V : Type 0} (source : input_trait.Ghosts I Cu Tok Sp) (errors : error_trait.Ghosts Er I Tok Sp) (states : inspector_trait.Ghosts St I Mk Tok Sp)
    (part : Meaning Tok Cx states.Seen errors.Seen V) (f : Ender Tok) (va : List Tok → V → Type 0) where
  abbrev Fails : List Tok → Unit {0} → Type 0
  Fails ts u = f ts ≡ Nowhere

  denied : (ts : List Tok) (mark : states.Marked) (b : Beginning Tok Cx states.Seen) (v : Option V)
      (p : Outcome V errors.Seen states.Seen) (o : Outcome (Unit {0}) errors.Seen states.Seen)
      → unless ts (f ts) ≡ Nowhere → Denies source errors states mark b v p o
      → Answers (Fails ts) (unless ts (f ts)) b.tokens.list o.verdict o.end
  denied ts mark b v p o e (inl r) = refuses-by (Fails ts) (unless ts (f ts)) b.tokens.list o r
  denied ts mark b v p o e (inr k) = or_lacks-by (Fails ts) (unless ts (f ts)) b.tokens.list _ o e k

  allowed : (mark : states.Marked) (b : Beginning Tok Cx states.Seen) → Within b
      → (p : Outcome V errors.Seen states.Seen) (o : Outcome (Unit {0}) errors.Seen states.Seen)
      → f (drop b.start b.tokens.list) ≡ Nowhere → Allows {Cx = Cx} source errors states mark b p o
      → Answers (Fails (drop b.start b.tokens.list)) (unless (drop b.start b.tokens.list) (f (drop b.start b.tokens.list))) b.tokens.list o.verdict o.end
  allowed mark b w p o e (inl r) = refuses-by (Fails (drop b.start b.tokens.list)) (unless (drop b.start b.tokens.list) (f (drop b.start b.tokens.list))) b.tokens.list o r
  allowed mark b w p o e (inr k) =
      let ts : List Tok = drop b.start b.tokens.list in
      let d : unless ts (f ts) ≡ At ts = rw e refl in
      let i : IfValue (Fails ts) (wanting b.wanted tt) = wanting_value (Fails ts) tt e b.wanted in
      rw k (d, i, w.start)

  -- a part that must not be there
  pub not-by : Reads part f va → Reads (MeansNot source errors states part) (not_ends f) Fails
  not-by h = record {
    here = λ b w o m.
        let ts : List Tok = drop b.start b.tokens.list in
        elim m.cases [
          | inl r ↦ refuses-by (Fails ts) (unless ts (f ts)) b.tokens.list o r
          | inr k ↦ judged-here (va ts) (Fails ts) (Asked false part)
              (Denies source errors states (states.mark b.state)) (Allows source errors states (states.mark b.state))
              (f ts) (unless ts (f ts)) b (record {
                yes = λ v p o e i l j. denied ts (states.mark b.state) b v p o (rw e refl) j;
                no = λ p o e j. allowed (states.mark b.state) b w p o e j;
                refused = λ e. rw e refl;
              }) (asked-here (va ts) b false part (f ts) (h.here (record b { wanted = false }) (record { start = w.start; few = w.few }))) o k
        ];
  }

module _ {Tok Cx St Mk Er V W : Type 0} (mark : St → Mk) (goes_back : St → Mk → St) (safe : Type 0)
    (part : Meaning Tok Cx St Er V) (other : Meaning Tok Cx St Er W) (f g : Ender Tok) (va : List Tok → V → Type 0)
    (vb : List Tok → W → Type 0) (h : Reads part f va) (k : Reads other g vb) where
  or_no : (x : Ending (List Tok)) → or_else x Nowhere ≡ x
  or_no (At rest) = refl
  or_no Nowhere = refl
  or_no Refused = refl

  or_no_value : (x : Ending (List Tok)) (P : Type 0) → ElseValue x P ⊥ → P
  or_no_value (At rest) P i = i
  or_no_value Nowhere P i = absurd i
  or_no_value Refused P i = absurd i

  -- the part, or no
  part_or_no : (b : Beginning Tok Cx St) → Within b → Here (va (drop b.start b.tokens.list)) (OrElse mark goes_back safe part SaysNo) (f (drop b.start b.tokens.list)) b
  part_or_no b w o m =
      let ts : List Tok = drop b.start b.tokens.list in
      let E : V → Type 0 = λ v. ElseValue (f ts) (va ts v) ⊥ in
      let z : Answers E (or_else (f ts) Nowhere) b.tokens.list o.verdict o.end = or_else-here mark goes_back safe part SaysNo (va ts) (λ v. ⊥) (f ts) Nowhere b (h.here b w) (λ s p n. rw n refl) o m in
      let y : Answers (va ts) (or_else (f ts) Nowhere) b.tokens.list o.verdict o.end =
      answers_weaker E (va ts) (λ v i. or_no_value (f ts) (va ts v) i) (or_else (f ts) Nowhere) b.tokens.list
      o.verdict o.end z in
      subst (λ q. Answers (va ts) q b.tokens.list o.verdict o.end) (or_no (f ts)) y

  -- the other, from where the part began
  looks_by : (ts : List Tok) (P : V → Type 0) (place : ℕ) (c : Beginning Tok Cx St) → Within c
      → drop place c.tokens.list ≡ ts → place ≤ length c.tokens.list → (v : Option V) → IfValue P v
      → (o : Outcome V Er St) (q : Outcome W Er St) (u : Verdict W Er) → q.verdict ≡ u
      → other (record c { start = place; wanted = false }) q
      → Follows u (λ _. GivenAt v c.start) (record c { start = place }) q o
      → Answers P (there_too (g ts) (drop c.start c.tokens.list)) c.tokens.list o.verdict o.end
  looks_by ts P place c y d l v i o q u e m s =
      by_verdict u
      (subst (λ us. Answers (vb us) (g us) c.tokens.list u q.end) d
      (subst
      (λ u. Answers (vb (drop place c.tokens.list)) (g (drop place c.tokens.list)) c.tokens.list u q.end)
      e (k.here (record c { start = place; wanted = false }) (record { start = l; few = y.few }) q m)))
      s
    where
      by_verdict : (u : Verdict W Er) → Answers (vb ts) (g ts) c.tokens.list u q.end
          → Follows u (λ _. GivenAt v c.start) (record c { start = place }) q o
          → Answers P (there_too (g ts) (drop c.start c.tokens.list)) c.tokens.list o.verdict o.end
      by_verdict (Yes z) a s =
          let n : there_too (g ts) (drop c.start c.tokens.list) ≡ At (drop c.start c.tokens.list) = rw a.0 refl in
          rw (s.2, s.1) (n, i, y.start)
      by_verdict No a s = let n : there_too (g ts) (drop c.start c.tokens.list) ≡ Nowhere = rw a refl in rw s n
      by_verdict (Halt t) a s =
          let n : (t ≡ Memory) ⊎ (there_too (g ts) (drop c.start c.tokens.list) ≡ Refused) = elim a [ inl z ↦ inl z | inr z ↦ inr (rw z refl) ] in
          rw s n
      by_verdict (Clash t) a s = rw s tt

  both_by : (b : Beginning Tok Cx St) → Within b → (o p : Outcome V Er St) (u : Verdict V Er) → p.verdict ≡ u → OrElse mark goes_back safe part SaysNo b p → Follows u (LooksFrom b.start other) b p o
      → Answers (va (drop b.start b.tokens.list)) (and_is_ends f g (drop b.start b.tokens.list)) b.tokens.list o.verdict o.end
  both_by b w o p u e m s = by_verdict u (subst (λ u. Answers (va ts) (f ts) b.tokens.list u p.end) e (part_or_no b w p m)) s
    where
      ts : List Tok
      ts = drop b.start b.tokens.list

      by_verdict : (u : Verdict V Er) → Answers (va ts) (f ts) b.tokens.list u p.end → Follows u (LooksFrom b.start other) b p o → Answers (va ts) (and_is_ends f g ts) b.tokens.list o.verdict o.end
      by_verdict (Yes v) a s =
          let q : Outcome V Er St = s.0 in
          let n = s.1 in
          let z : Answers (va ts) (there_too (g ts) (drop p.end b.tokens.list)) b.tokens.list q.verdict q.end =
          looks_by ts (va ts) b.start (from b p) (record { start = a.2; few = w.few }) refl w.start v a.1 q n.first n.first.verdict refl n.meant.run n.follows in
          rw (s.2, a.0) z
      by_verdict No a s = rw (s, a) refl
      by_verdict (Halt t) a s =
          let z : (t ≡ Memory) ⊎ (and_is_ends f g ts ≡ Refused) = elim a [ inl q ↦ inl q | inr q ↦ inr (rw q refl) ] in
          rw s z
      by_verdict (Clash t) a s = rw s tt

  -- two parts that both have to be there
  pub and_is-by : Reads (MeansAndIs mark goes_back safe part other) (and_is_ends f g) va
  and_is-by = record { here = λ b w o m. both_by b w o m.run.first m.run.first.verdict refl m.run.meant m.run.follows }
