-- The laws of a part that a label names.
use Rattle.std.proofs.Common.{◌≡◌, ℕ, ◌≤◌, Bool, true, false, Option, Some, None, refl, sym, ap, ◌∙◌, subst, arith, inl, inr, option_to_list}
use Rattle.std.specs.Prelude.{eqb, ◌⊎◌}
use Rattle.chumsky_parser.specs.Failure.{Refuses}
use Rattle.chumsky_input.specs.Outcome.{Event, Meaning, Beginning, Outcome, Verdict, Yes, No, Halt, Clash, IsAnswer, SameAnswer, Alike, Agree, EndsAfterStart, Agreeing}
use Rattle.chumsky_input.specs.Primary.{primary}
use Rattle.chumsky_parser.specs.Chained.{retold}
use Rattle.chumsky_judge.specs.Judged.{ByVerdict, OrClash}
use Rattle.chumsky_judge.specs.JudgedLaws.{or_clash-whole, judged-ends, judged-agrees}
use Rattle.chumsky_judge.specs.MapErr.{MapsOnce}
use Rattle.chumsky_label.specs.Labelling.{LabelsSeen}
use Rattle.chumsky_label.specs.Labelled.{RelabelsAt, Relabels, LabelledAs, MeansLabelled, IsOfError, places, ButEvents, AnswersButEvents, EachAnswered}

module _ {Er : Type 0} (maps : Er → Er → Type 0) (once : MapsOnce maps) where
  one_at : (e : Bool) (x : Event Er) (k l : Option (Event Er)) → RelabelsAt maps e x k → RelabelsAt maps e x l → k ≡ l
  one_at true x k l m n =
      let same : m.0 ≡ n.0 = once x.error m.0 n.0 m.1 n.1 in
      m.2 ∙ ap (λ r. Some (record { place = x.place; error = r })) same ∙ sym n.2
  one_at false x k l m n = m ∙ sym n

  relabels_once : (start : ℕ) (x k l : Option (Event Er)) → Relabels maps start x k → Relabels maps start x l → k ≡ l
  relabels_once start None k l m n = m ∙ sym n
  relabels_once start (Some x) k l m n = one_at (eqb x.place start) x k l m n

module _ {Tok Cx St Er V : Type 0} (merged : Er → Er → Er) (maps : Er → Er → Type 0) (free : Type 0) (part : Meaning Tok Cx St Er V) where
  labelled_is : (u : Verdict V Er) (b : Beginning Tok Cx St) (p o : Outcome V Er St)
      → Refuses (free → ⊥) p.state o
      ⊎
      ((k : Option (Event Er)) × Relabels maps b.start (primary merged p.events) k × OrClash
      (record (retold u p) { events = option_to_list k }) o)
      → IsAnswer o.verdict
      → (k : Option (Event Er)) × Relabels maps b.start (primary merged p.events) k × (o ≡ record (retold u p) { events = option_to_list k })
  labelled_is u b p o (inl r) a = absurd (subst IsAnswer r.1 a)
  labelled_is u b p o (inr m) a = (m.0, m.1, or_clash-whole m.2 a)

  labelled_ends : (u : Verdict V Er) (b : Beginning Tok Cx St) (p o : Outcome V Er St) → b.start ≤ p.end → LabelledAs merged maps free u b p o → IsAnswer o.verdict → b.start ≤ o.end
  labelled_ends u b p o l h a = let e = ap (λ (x : Outcome V Er St). x.end) (labelled_is u b p o h.says a).2 in omega (arith, l, e)

  pub labelled-ends : EndsAfterStart part → EndsAfterStart (MeansLabelled merged maps free part)
  labelled-ends h b o m a = judged-ends part _ _ h (λ b v p o l j x. labelled_ends (Yes v) b p o l j x) (λ b p o l j x. labelled_ends No b p o l j x) b o m.run a

  module _ (sv : V → V → Type 0) (once : MapsOnce maps) where
    labelled_agree : (u u' : Verdict V Er) (b c : Beginning Tok Cx St) (p p' o q : Outcome V Er St)
        → SameAnswer sv u u' → Alike b c → Agree sv p p' → LabelledAs merged maps free u b p o
        → LabelledAs merged maps free u' c p' q → IsAnswer o.verdict → IsAnswer q.verdict → Agree sv o q
    labelled_agree u u' b c p p' o q s alike g h k a z =
        let m = labelled_is u b p o h.says a in
        let n = labelled_is u' c p' q k.says z in
        let there : Relabels maps b.start (primary merged p.events) n.0 =
        subst (λ es. Relabels maps b.start (primary merged es) n.0) (sym g.events)
        (subst (λ i. Relabels maps i (primary merged p'.events) n.0) (sym alike.start) n.1) in
        let same : m.0 ≡ n.0 = relabels_once maps once b.start (primary merged p.events) m.0 n.0 m.1 there in
        let told : Agree sv (record (retold u p) { events = option_to_list m.0 }) (record (retold u' p') { events = option_to_list n.0 }) =
        record { answer = s; end = g.end; state = g.state; events = ap option_to_list same; emitted = g.emitted }
        in
        rw (m.2, n.2) told

    pub labelled-agrees : Agreeing sv part part → Agreeing sv (MeansLabelled merged maps free part) (MeansLabelled merged maps free part)
    labelled-agrees h b c o q alike m n a z =
        judged-agrees part _ _ sv sv h
        (λ b c v v' p p' o q alike s g j k a z. labelled_agree (Yes v) (Yes v') b c p p' o q s alike g j k a z)
        (λ b c p p' o q alike g j k a z. labelled_agree No No b c p p' o q tt alike g j k a z)
        b c o q alike m.run n.run a z

module _ {Er : Type 0} (maps : Er → Er → Type 0) where
  place_at : (e : Bool) (x : Event Er) (k : Option (Event Er)) → RelabelsAt maps e x k → places (option_to_list k) ≡ places (option_to_list (Some x))
  place_at true x k m = ap (λ z. places (option_to_list z)) m.2
  place_at false x k m = ap (λ z. places (option_to_list z)) m

  -- a label moves no event
  relabels_place : (start : ℕ) (x k : Option (Event Er)) → Relabels maps start x k → places (option_to_list k) ≡ places (option_to_list x)
  relabels_place start None k m = ap (λ z. places (option_to_list z)) m
  relabels_place start (Some x) k m = place_at (eqb x.place start) x k m

module _ {E S : Type 0} (seen labelled : E → S) where
  made_at : (at : Bool) (x : Event S) → IsOfError seen (Some x) → (k : Option (Event S)) × RelabelsAt (LabelsSeen seen labelled) at x k
  made_at true x h = (Some (record { place = x.place; error = labelled h.0 }), (labelled h.0, record { error = h.0; counts = h.1; says = refl }, refl))
  made_at false x h = (Some x, refl)

  -- an event of an error can be labelled
  pub relabels-made : (start : ℕ) (x : Option (Event S)) → IsOfError seen x → (k : Option (Event S)) × Relabels (LabelsSeen seen labelled) start x k
  relabels-made start None h = (None, refl)
  relabels-made start (Some x) h = made_at (eqb x.place start) x h

module _ {Tok Cx St Er V : Type 0} (merged : Er → Er → Er) (maps : Er → Er → Type 0) (free : Type 0) (part : Meaning Tok Cx St Er V) where
  retold-same : (v : Verdict V Er) (p : Outcome V Er St) → p.verdict ≡ v → retold v p ≡ p
  retold-same v p e = subst (λ u. retold u p ≡ p) e refl

  but_events : (u : Verdict V Er) (b : Beginning Tok Cx St) (p o : Outcome V Er St) → p.verdict ≡ u → LabelledAs merged maps free u b p o → IsAnswer o.verdict → ButEvents merged p o
  but_events u b p o e l a =
      let m = labelled_is merged maps free part u b p o l.says a in
      let events : o.events ≡ option_to_list m.0 = ap (λ (x : Outcome V Er St). x.events) m.2 in
      let whole : o ≡ record p { events = option_to_list m.0 } = subst (λ (z : Outcome V Er St). o ≡ record z { events = option_to_list m.0 }) (retold-same u p e) m.2 in
      record {
        rest = subst (λ es. o ≡ record p { events = es }) (sym events) whole;
        place = ap places events ∙ relabels_place maps b.start (primary merged p.events) m.0 m.1;
      }

  as_part : (u : Verdict V Er) (b : Beginning Tok Cx St) (p o : Outcome V Er St) → part b p → p.verdict ≡ u
      → ByVerdict u (λ b v p o. LabelledAs merged maps free (Yes v) b p o) (λ b p o. LabelledAs merged maps free No b p o) b p o
      → IsAnswer o.verdict → (q : Outcome V Er St) × part b q × ButEvents merged q o
  as_part (Yes v) b p o m e j a = (p, m, but_events (Yes v) b p o e j a)
  as_part No b p o m e j a = (p, m, but_events No b p o e j a)
  as_part (Halt s) b p o m e j a = absurd (subst IsAnswer (ap (λ (x : Outcome V Er St). x.verdict) j) a)
  as_part (Clash s) b p o m e j a = absurd (subst IsAnswer (ap (λ (x : Outcome V Er St). x.verdict) j) a)

  pub labelled-as_part : AnswersButEvents merged part (MeansLabelled merged maps free part)
  labelled-as_part b o m a = as_part m.run.first.verdict b m.run.first o m.run.meant refl m.run.judges a

  -- the outcome of the part with its events as one, labelled
  abbrev with_label : Outcome V Er St → Option (Event Er) → Outcome V Er St
  with_label p k = record p { events = option_to_list k }

  labels_it : (u : Verdict V Er) (b : Beginning Tok Cx St) (p : Outcome V Er St) (k : Option (Event Er))
      → Relabels maps b.start (primary merged p.events) k → p.verdict ≡ u
      → LabelledAs merged maps free u b p (with_label p k)
  labels_it u b p k m e = record { says = inr (k, m, inl (sym (ap (λ (z : Outcome V Er St). record z { events = option_to_list k }) (retold-same u p e)))) }

  judged : (u : Verdict V Er) (b : Beginning Tok Cx St) (p : Outcome V Er St) (k : Option (Event Er))
      → Relabels maps b.start (primary merged p.events) k → p.verdict ≡ u → IsAnswer u
      → ByVerdict u (λ b v p o. LabelledAs merged maps free (Yes v) b p o)
      (λ b p o. LabelledAs merged maps free No b p o) b p (with_label p k)
  judged (Yes v) b p k m e a = labels_it (Yes v) b p k m e
  judged No b p k m e a = labels_it No b p k m e
  judged (Halt s) b p k m e a = absurd a
  judged (Clash s) b p k m e a = absurd a

  answered_by : (b : Beginning Tok Cx St) (p : Outcome V Er St) → part b p → IsAnswer p.verdict
      → (k : Option (Event Er)) → Relabels maps b.start (primary merged p.events) k
      → (o : Outcome V Er St) × MeansLabelled merged maps free part b o × ButEvents merged p o
  answered_by b p m a k l = (
    with_label p k,
    record { run = record { first = p; meant = m; judges = judged p.verdict b p k l refl a } },
    record { rest = refl; place = relabels_place maps b.start (primary merged p.events) k l },
  )

module _ {Tok Cx St E Er V : Type 0} (merged : Er → Er → Er) (seen labelled : E → Er) (free : Type 0) (part : Meaning Tok Cx St Er V) where
  pub labelled-each : EachAnswered merged part (MeansLabelled merged (LabelsSeen seen labelled) free part) seen
  labelled-each b p m a h =
      let k = relabels-made seen labelled b.start (primary merged p.events) h in
      answered_by merged (LabelsSeen seen labelled) free part b p m a k.0 k.1
