-- What is said of two parts holds where one runs over the whole of an input that the other's word decides.
-- Main laws: nested-accepts; counted-ends, counted-agrees, counted-accepts. Read first: Nested.antt.
use Rattle.std.proofs.Common.{◌≡◌, ℕ, ◌≤◌, true, false, Option, Some, None, List, [], ◌∷◌, ◌++◌, Result, Ok, Err, length, drop, refl, sym, ◌∙◌, ap, subst, map, arith, inl, inr}
use Rattle.std.proofs.lemmas.List.{append-nil}
use Rattle.chumsky_input.specs.declared.error.Error as error_trait
use Rattle.chumsky_input.specs.declared.inspector.Inspector as inspector_trait
use Rattle.chumsky_input.specs.declared.input.Input as input_trait
use Rattle.chumsky_input.specs.declared.stop.Fault.{Fault}
use Rattle.chumsky_input.specs.declared.stop.Fault.TheVariants as fault
use Rattle.chumsky_input.specs.Held.{Held}
use Rattle.chumsky_input.specs.Outcome.{Meaning, Beginning, Outcome, Verdict, Yes, No, Halt, Clash, IsAnswer, EndsAfterStart, Agreeing}
use Rattle.chumsky_input.specs.Run.{LeavesBy, answer, begin}
use Rattle.chumsky_parser.specs.Chained.{Asked}
use Rattle.chumsky_parser.specs.Ending.{Ending, At, Nowhere, Refused, and_then, Within as StandsWithin, IfValue, Answers, Here, Reads, EndsOrRefused}
use Rattle.chumsky_parser.specs.EndingLaws.{chained-here, asked-here, refuses-by}
use Rattle.chumsky_parser.specs.FurtherLaws.{then-decided}
use Rattle.chumsky_parser.specs.Language.{Language, Described, Accepts, TakesOnly, GivesOnly, TakesEach, EndsFurther, NeverRefusedBelow, IsBelow, sooner, later}
use Rattle.chumsky_parser.specs.LanguageLaws.{fewer-accepts}
use Rattle.chumsky_parser.specs.Memory.{SparesMemory, NeverOutOfMemory}
use Rattle.chumsky_parser.specs.MemoryLaws.{asked-spares, chained-spares, ignoring_second-spares}
use Rattle.chumsky_parser.specs.Progress.{Moves}
use Rattle.chumsky_parser.specs.ProgressLaws.{both-true, asked-moves, chained-first}
use Rattle.chumsky_parser.specs.SequenceLanguage.{then_ignore_language, then_ignore-accepts}
use Rattle.chumsky_parser.specs.Words.{then_ends, taken_of}
use Rattle.chumsky_parser.specs.WordsLaws.{then_or_refused, taken_word, whole-taken}
use Rattle.chumsky_primitive.specs.End.{MeansEnd}
use Rattle.chumsky_primitive.specs.EndLanguage.{end_ends, end_language, end-accepts, end-spares}
use Rattle.chumsky_primitive.specs.EndLaws.{end-ends}
use Rattle.chumsky_context.specs.Within.{RunReport, verdict_of, held_at_start, ReportsRun, RunsWhole, OrOutOfMemory, Within, ToEnd, MeansNestedIn}
use Rattle.chumsky_exact.specs.Contexts.{IsDecided}
use Rattle.chumsky_exact.specs.ContextsLaws.{decided_at}
use Rattle.chumsky_exact.specs.Nested.{tokens_of, CanBeCounted, GivesCounted, MeansCounted, SparesWithin, of_any_length, whole_ends, nested_ends, NestedValue, NestedWord, NestedOf, nested_language}
use Rattle.chumsky_exact.specs.Quiet.{EmitsNothing, chained-quiet, asked-quiet, given-quiet, end-quiet}

-- where a text of any length may be refused, no length is below
below_any : (n : Option ℕ) (k j : ℕ) → IsBelow (of_any_length n) k → IsBelow n j
below_any None k j l = tt
below_any (Some n) k j l = absurd (omega (arith, l))

module _ {Tok' J Tok V : Type 0} (F : Language Tok' J) (decides : List Tok' → Option J) (tokens : J → List Tok) (G : Language Tok V) where
  -- where the whole ends, the word of the outer part decides an input that the inner one takes whole
  record IsNested (ts rest : List Tok') : Type 0 where
    pub input : J
    pub is_outer : F.ends ts ≡ At rest
    pub decided : decides (taken_of ts rest) ≡ Some input
    pub is_inner : G.ends (tokens input) ≡ At []

  is_nested : (ts rest : List Tok') → nested_ends F decides tokens G ts ≡ At rest → IsNested ts rest
  is_nested ts rest e = by_outer (F.ends ts) refl e
    where
      by_inner : (mid : List Tok') → F.ends ts ≡ At mid → (j : J) → decides (taken_of ts mid) ≡ Some j → (x : Ending (List Tok)) → G.ends (tokens j) ≡ x
          → and_then (λ (us : List Tok). At mid) (and_then end_ends x) ≡ At rest → IsNested ts rest
      by_inner mid d j q (At []) i e =
          let z : mid ≡ rest = cc e in
          record { input = j; is_outer = subst (λ r. F.ends ts ≡ At r) z d; decided = subst (λ r. decides (taken_of ts r) ≡ Some j) z q; is_inner = i }
      by_inner mid d j q (At (t ∷ us)) i e = absurd (cc e)
      by_inner mid d j q Nowhere i e = absurd (cc e)
      by_inner mid d j q Refused i e = absurd (cc e)

      by_value : (mid : List Tok') → F.ends ts ≡ At mid → (x : Option J) → decides (taken_of ts mid) ≡ x → whole_ends F decides tokens G x mid ≡ At rest → IsNested ts rest
      by_value mid d (Some j) q e = by_inner mid d j q (G.ends (tokens j)) refl e
      by_value mid d None q e = absurd (cc e)

      by_outer : (x : Ending (List Tok')) → F.ends ts ≡ x → and_then (λ r. whole_ends F decides tokens G (decides (taken_of ts r)) r) x ≡ At rest → IsNested ts rest
      by_outer (At mid) d e = by_value mid d (decides (taken_of ts mid)) refl e
      by_outer Nowhere d e = absurd (cc e)
      by_outer Refused d e = absurd (cc e)

  -- where it takes all, there the whole ends; and it is refused where the inner part is
  whole_or_refused : (j : J) (rest : List Tok') → EndsOrRefused (G.ends (tokens j)) [] → EndsOrRefused (whole_ends F decides tokens G (Some j) rest) rest
  whole_or_refused j rest (inl e) = rw e (inl refl)
  whole_or_refused j rest (inr e) = rw e (inr refl)

  inner_refused : (j : J) (rest : List Tok') → whole_ends F decides tokens G (Some j) rest ≡ Refused → G.ends (tokens j) ≡ Refused
  inner_refused j rest e = by_inner (G.ends (tokens j)) refl e
    where
      by_inner : (x : Ending (List Tok)) → G.ends (tokens j) ≡ x → and_then (λ (us : List Tok). At rest) (and_then end_ends x) ≡ Refused → G.ends (tokens j) ≡ Refused
      by_inner (At []) i e = absurd (cc e)
      by_inner (At (t ∷ us)) i e = absurd (cc e)
      by_inner Nowhere i e = absurd (cc e)
      by_inner Refused i e = i

  -- what is taken whole is a word of what takes only such
  whole_word : (P : List Tok → Type 0) (ts word : List Tok) → ts ≡ word ++ [] → P word → P ts
  whole_word P ts word e p = subst P (sym (e ∙ append-nil word)) p

  nested-takes_only : TakesOnly F.ends F.word → TakesOnly G.ends G.word → TakesOnly (nested_ends F decides tokens G) (NestedWord F decides tokens G)
  nested-takes_only h k = record {
    taken = λ ts rest e.
        let i = is_nested ts rest e in
        let a = h.taken ts rest i.is_outer in
        let b = k.taken (tokens i.input) [] i.is_inner in
        let q : decides a.word ≡ Some i.input = ap decides (sym (taken_word ts rest a.word a.all)) ∙ i.decided in
        record { word = a.word; all = a.all; is = (i.input, a.is, q, whole_word G.word (tokens i.input) b.word b.all b.is) };
  }

  nested-gives_only : IsDecided F decides → GivesOnly F.ends F.value F.stands_for → GivesOnly G.ends G.value G.stands_for
      → GivesOnly (nested_ends F decides tokens G) (NestedValue F decides tokens G) (NestedOf F decides tokens G)
  nested-gives_only d h k = record {
    given = λ ts rest v e x.
        let i = is_nested ts rest e in
        let j : J = x.0 in
        let q : Some i.input ≡ Some j = sym i.decided ∙ decided_at F decides d h ts rest j i.is_outer x.1 in
        let z : i.input ≡ j = cc q in
        let a = h.given ts rest j i.is_outer x.1 in
        let b = k.given (tokens j) [] v (subst (λ u. G.ends (tokens u) ≡ At []) z i.is_inner) x.2 in
        record { word = a.word; all = a.all; is = (j, a.is, whole_word (λ u. G.stands_for u v) (tokens j) b.word b.all b.is) };
  }

  nested-takes_each : TakesEach F.ends F.word F.follow → TakesEach G.ends G.word G.follow → G.follow [] → TakesEach (nested_ends F decides tokens G) (NestedWord F decides tokens G) F.follow
  nested-takes_each h k n = record {
    each = λ w rest x y.
        let j : J = x.0 in
        let ts : List Tok' = w ++ rest in
        let a : EndsOrRefused (F.ends ts) rest = h.each w rest x.1 y in
        let q : decides (taken_of ts rest) ≡ Some j = ap decides (taken_word ts rest w refl) ∙ x.2 in
        let b : EndsOrRefused (whole_ends F decides tokens G (Some j) rest) rest = whole_or_refused j rest (whole-taken G.ends G.word G.follow k (tokens j) x.3 n) in
        let c : EndsOrRefused (whole_ends F decides tokens G (decides (taken_of ts rest)) rest) rest = subst (λ z. EndsOrRefused (whole_ends F decides tokens G z rest) rest) (sym q) b in
        then_or_refused (λ r. whole_ends F decides tokens G (decides (taken_of ts r)) r) (F.ends ts) rest rest a c;
  }

  nested-decided : TakesOnly F.ends F.word → (F.moves ≡ true → EndsFurther F.ends) → NeverRefusedBelow F.refused_from F.ends → NeverRefusedBelow G.refused_from G.ends
      → NeverRefusedBelow (sooner F.refused_from (later (of_any_length G.refused_from) F.moves)) (nested_ends F decides tokens G)
  nested-decided h m d k ts =
      then-decided F.ends (λ rest. whole_ends F decides tokens G (decides (taken_of ts rest)) rest) F.word h F.moves m F.refused_from (of_any_length G.refused_from) d
      (λ mid l r. by_value mid l (decides (taken_of ts mid)) r) ts
    where
      by_value : (mid : List Tok') → IsBelow (of_any_length G.refused_from) (length mid) → (x : Option J) → whole_ends F decides tokens G x mid ≡ Refused → ⊥
      by_value mid l (Some j) r = k (tokens j) (below_any G.refused_from (length mid) (length (tokens j)) l) (inner_refused j mid r)
      by_value mid l None r = absurd (cc r)

module _ {V Er St : Type 0} where
  -- an outcome that is an answer is told as it is
  told_so : (whole o : Outcome V Er St) → OrOutOfMemory whole o → IsAnswer o.verdict → o ≡ whole
  told_so whole o (inl e) a = e
  told_so whole o (inr (inl c)) a = absurd (subst IsAnswer c.verdict a)
  told_so whole o (inr (inr r)) a = absurd (subst IsAnswer r.1 a)

-- what an outer part gives, of which the tokens can be counted
module _ {J Tok Tok' Cx St Er : Type 0} (tokens : J → List Tok) (part : Meaning Tok' Cx St Er J) where
  pub counted-ends : EndsAfterStart part → EndsAfterStart (MeansCounted tokens part)
  counted-ends h b o m a = h b o m.0 a

  pub counted-agrees : (same : J → J → Type 0) → Agreeing same part part → Agreeing same (MeansCounted tokens part) (MeansCounted tokens part)
  counted-agrees same h b c o q alike m n a z = h b c o q alike m.0 n.0 a z

  pub counted-accepts : {F : Language Tok' J} {spare : Type 0} → Accepts part F spare → Accepts (MeansCounted tokens part) F spare
  counted-accepts {F} = fewer-accepts (MeansCounted tokens part) part (λ b o m. m.0) F

  -- its values are those of the part, which can be counted
  counted-here : (P : J → Type 0) (x : Ending (List Tok')) (b : Beginning Tok' Cx St) → Here P part x b → Here (λ j. P j × CanBeCounted tokens j) (MeansCounted tokens part) x b
  counted-here P x b h o m = by_verdict o.verdict (h o m.0) m.1
    where
      by_verdict : (u : Verdict J Er) → Answers P x b.tokens.list u o.end → GivesCounted tokens u → Answers (λ j. P j × CanBeCounted tokens j) x b.tokens.list u o.end
      by_verdict (Yes (Some j)) y c = (y.0, (y.1, c), y.2)
      by_verdict (Yes None) y c = (y.0, tt, y.2)
      by_verdict No y c = y
      by_verdict (Halt s) y c = y
      by_verdict (Clash e) y c = y

-- what is told of a run over the whole of an input
module _ {J Tok Sp Cu Mk Er St Cx V : Type 0} (source : input_trait.Ghosts J Cu Tok Sp) (errors : error_trait.Ghosts Er J Tok Sp) (states : inspector_trait.Ghosts St J Mk Tok Sp) where
  -- its answer
  told_answer : (a : Result (Option V) Fault) (h : Held Tok Cx states.Seen errors.Seen) (r : RunReport (Option V) Er St) → ReportsRun source errors states a h r → r.answer ≡ a
  told_answer (Ok v) h r t = t.0
  told_answer (Err fault.Fail) h r t = t.0
  told_answer (Err (fault.Stop s)) h r t = t.0

  -- no emitted error, where an answer has none
  told_quiet : (a : Result (Option V) Fault) (u : Verdict V errors.Seen) (p : Outcome V errors.Seen states.Seen) (old last : Held Tok Cx states.Seen errors.Seen) (r : RunReport (Option V) Er St)
      → a ≡ answer u → LeavesBy errors.merged errors.takes_no_memory u p old last → old.emitted ≡ [] → ReportsRun source errors states a last r
      → (IsAnswer u → p.emitted ≡ []) → map errors.seen r.emitted ≡ []
  told_quiet (Ok v) (Yes x) p old last r e l n t q = t.2 ∙ l.emitted ∙ ap (λ es. es ++ p.emitted) n ∙ q tt
  told_quiet (Ok v) No p old last r e l n t q = absurd (cc e)
  told_quiet (Ok v) (Halt s) p old last r e l n t q = absurd (cc e)
  told_quiet (Ok v) (Clash c) p old last r e l n t q = absurd (cc e)
  told_quiet (Err fault.Fail) (Yes x) p old last r e l n t q = absurd (cc e)
  told_quiet (Err fault.Fail) No p old last r e l n t q = t.2 ∙ l.emitted ∙ ap (λ es. es ++ p.emitted) n ∙ q tt
  told_quiet (Err fault.Fail) (Halt s) p old last r e l n t q = absurd (cc e)
  told_quiet (Err fault.Fail) (Clash c) p old last r e l n t q = absurd (cc e)
  told_quiet (Err (fault.Stop s)) u p old last r e l n t q = t.2

-- what counts of no errors
none_seen : {A B C : Type 0} (f : A → B) (g : A → C) (es : List A) → map f es ≡ [] → map g es ≡ []
none_seen f g [] e = refl
none_seen f g (x ∷ xs) e = absurd (cc e)

-- of what the inner part answers the whole answers, from where the outer one ended
module _ {V Er Tok Tok' : Type 0} (Er' : Type 0) (P Q : V → Type 0) (f : (v : V) → P v → Q v) (x : Ending (List Tok)) (us : List Tok) (ts rest : List Tok') (start : ℕ) where
  told_ends : rest ≡ drop start ts → start ≤ length ts → (u : Verdict V Er) (end : ℕ) → Answers P x us u end
      → Answers Q (and_then (λ (vs : List Tok). At rest) x) ts (verdict_of {V = V} {Er = Er'} (answer u)) start
  told_ends e l (Yes v) end y = (rw y.0 (ap (λ r. At r) e), if_weaker v y.1, l)
    where
      if_weaker : (v : Option V) → IfValue P v → IfValue Q v
      if_weaker (Some v) i = f v i
      if_weaker None i = tt
  told_ends e l No end y = rw y refl
  told_ends e l (Halt s) end y = elim y [ inl q ↦ inl q | inr q ↦ inr (rw q refl) ]
  told_ends e l (Clash c) end y = inl refl

-- the inner part, and then the end of its input
to_end-quiet : {J Tok Sp Cu Er St Mk Cx V : Type 0} (source : input_trait.Ghosts J Cu Tok Sp) (errors : error_trait.Ghosts Er J Tok Sp) (states : inspector_trait.Ghosts St J Mk Tok Sp)
    (part : Meaning Tok Cx states.Seen errors.Seen V) → EmitsNothing part → EmitsNothing (ToEnd source errors states part)
to_end-quiet source errors states part h =
    let end = MeansEnd source errors states in
    chained-quiet part _ h (λ v. chained-quiet (Asked false end) _ (asked-quiet false end (end-quiet source errors states)) (λ _. given-quiet v))

module _ {J Tok Sp Cu Mk Er St I Tok' Sp' Mk' Cx V : Type 0} (source : input_trait.Ghosts J Cu Tok Sp)
    (errors : error_trait.Ghosts Er J Tok Sp) (states : inspector_trait.Ghosts St J Mk Tok Sp)
    (errors' : error_trait.Ghosts Er I Tok' Sp') (states' : inspector_trait.Ghosts St I Mk' Tok' Sp')
    (inner : Meaning Tok Cx states.Seen errors.Seen V) (outer : Meaning Tok' Cx states'.Seen errors'.Seen J)
    (F : Language Tok' J) (decides : List Tok' → Option J) (G : Language Tok V) where
  -- the inner part, and then the end of its input
  abbrev Whole : Meaning Tok Cx states.Seen errors.Seen V
  Whole = ToEnd source errors states inner

  -- that over the given input
  abbrev Inside : ℕ → Option J → Meaning Tok' Cx states'.Seen errors'.Seen V
  Inside = Within source errors states errors' states' Whole

  abbrev tokens : J → List Tok
  tokens = tokens_of source

  -- the outer part, whose input can be counted
  abbrev Counted : Meaning Tok' Cx states'.Seen errors'.Seen J
  Counted = MeansCounted tokens outer

  abbrev Nested : Meaning Tok' Cx states'.Seen errors'.Seen V
  Nested = MeansNestedIn source errors states errors' states' Whole Counted

  inside-ends : (place : ℕ) (v : Option J) → EndsAfterStart (Inside place v)
  inside-ends place v b o m a =
      let e : o.end ≡ b.start = ap (λ (x : Outcome V errors'.Seen states'.Seen). x.end) (told_so _ o m.does a) in
      omega (arith, e)

  nested-moves : Moves outer → Moves Nested
  nested-moves f b o m y = chained-first (Asked true Counted) (Inside b.start) (asked-moves true Counted (λ c p n z. f c p n.0 z)) (λ v. inside-ends b.start v) b o m y

  module _ (d : Described outer F) (k : Described Whole (then_ignore_language G end_language)) (i : IsDecided F decides) where
    -- what a report says of where the whole ends
    reported : (ts : List Tok') (place : ℕ) (j : J) (c : Beginning Tok' Cx states'.Seen) → StandsWithin c → F.value ts j → CanBeCounted tokens j
        → (state : St) (r : RunReport (Option V) Er St) → RunsWhole source errors states Whole c.wanted j c.context state r
        → Answers (NestedValue F decides tokens G ts) (whole_ends F decides tokens G (Some j) (drop c.start c.tokens.list)) c.tokens.list (verdict_of {V = V} {Er = errors'.Seen} r.answer) c.start
    reported ts place j c w x few state r n =
        let p = n.ran.outcome in
        let h : Answers (G.value (tokens j)) (then_ends G.ends end_ends (tokens j)) (tokens j) p.verdict p.end =
        k.reads.here (begin c.wanted (held_at_start source errors states j c.context state)) (record { start = omega arith; few = few }) p n.ran.meant in
        let q : r.answer ≡ answer p.verdict = told_answer source errors states n.answer n.last r n.reported ∙ n.ran.answered in
        let rest : List Tok' = drop c.start c.tokens.list in
        let P : V → Type 0 = NestedValue F decides tokens G ts in
        let x' : Ending (List Tok) = then_ends G.ends end_ends (tokens j) in
        let t = told_ends errors'.Seen (G.value (tokens j)) P (λ v y. (j, x, y)) x' (tokens j) c.tokens.list rest c.start refl w.start p.verdict p.end h in
        subst (λ a. Answers P (whole_ends F decides tokens G (Some j) rest) c.tokens.list (verdict_of {V = V} {Er = errors'.Seen} a) c.start) (sym q) t

    inside-by : (ts : List Tok') (place : ℕ) (v : Option J) (c : Beginning Tok' Cx states'.Seen) → StandsWithin c → F.ends ts ≡ At (drop c.start c.tokens.list)
        → IfValue (λ j. F.value ts j × CanBeCounted tokens j) v
        → Here (NestedValue F decides tokens G ts) (Inside place v) (whole_ends F decides tokens G (decides (taken_of ts (drop c.start c.tokens.list))) (drop c.start c.tokens.list)) c
    inside-by ts place v c w e a o m =
        let rest : List Tok' = drop c.start c.tokens.list in
        let j : J = m.input in
        let x : F.value ts j × CanBeCounted tokens j = subst (IfValue (λ u. F.value ts u × CanBeCounted tokens u)) m.is a in
        let z : decides (taken_of ts rest) ≡ Some j = decided_at F decides i d.given ts rest j e x.0 in
        let t = reported ts place j c w x.0 x.1 m.state m.report m.runs in
        let P : V → Type 0 = NestedValue F decides tokens G ts in
        let x' : Ending (List Tok') = whole_ends F decides tokens G (Some j) rest in
        let y : Answers P x' c.tokens.list o.verdict o.end = elim m.does [
          | inl s ↦ subst (λ (g : Outcome V errors'.Seen states'.Seen). Answers P x' c.tokens.list g.verdict g.end) (sym s) t
          | inr u ↦ elim u [
            | inl s ↦ rw s.verdict tt
            | inr r ↦ refuses-by P x' c.tokens.list o r
          ]
        ] in
        rw z y

    nested-by : Reads Nested (nested_ends F decides tokens G) (NestedValue F decides tokens G)
    nested-by = record {
      here = λ b w.
          let ts : List Tok' = drop b.start b.tokens.list in
          let P : J → Type 0 = λ j. F.value ts j × CanBeCounted tokens j in
          let asked : Beginning Tok' Cx states'.Seen = record b { wanted = true } in
          chained-here P (NestedValue F decides tokens G ts) (Asked true Counted) (Inside b.start) (F.ends ts) (λ rest. whole_ends F decides tokens G (decides (taken_of ts rest)) rest) b w
          (asked-here P b true Counted (F.ends ts) (counted-here tokens outer (F.value ts) (F.ends ts) asked (d.reads.here asked (record { start = w.start; few = w.few }))))
          (λ v c y e a. inside-by ts b.start v c y e a);
    }

  module _ (quiet : errors.takes_no_memory) (spares : NeverOutOfMemory Whole) (emits : EmitsNothing inner) where
    -- what a report says of memory
    report_spares : (Er' : Type 0) (a : Result (Option V) Fault) (u : Verdict V errors.Seen) (p : Outcome V errors.Seen states.Seen) (old last : Held Tok Cx states.Seen errors.Seen)
        → a ≡ answer u → SparesMemory u → LeavesBy errors.merged errors.takes_no_memory u p old last → SparesMemory (verdict_of {V = V} {Er = Er'} a)
    report_spares Er' a (Yes v) p old last e s l = rw e tt
    report_spares Er' a No p old last e s l = rw e tt
    report_spares Er' a (Halt h) p old last e s l = rw e s
    report_spares Er' a (Clash c) p old last e s l = absurd (l.0 quiet)

    inside-spares : (place : ℕ) (v : Option J) → NeverOutOfMemory (Inside place v)
    inside-spares place v b o m =
        let r = m.runs.ran in
        let p = r.outcome in
        let old : Held Tok Cx states.Seen errors.Seen = held_at_start source errors states m.input b.context m.state in
        let begun = begin b.wanted old in
        let q : m.report.answer ≡ answer p.verdict = told_answer source errors states m.runs.answer m.runs.last m.report m.runs.reported ∙ r.answered in
        let s : SparesMemory (verdict_of {V = V} {Er = errors'.Seen} m.report.answer) = report_spares errors'.Seen m.report.answer p.verdict p _ m.runs.last q (spares begun p r.meant) r.left in
        let none : map errors.seen m.report.emitted ≡ [] =
        told_quiet source errors states m.runs.answer p.verdict p old m.runs.last m.report r.answered r.left refl m.runs.reported (λ a. to_end-quiet source errors states inner emits begun p r.meant a) in
        elim m.does [
          | inl e ↦ subst SparesMemory (sym (ap (λ (g : Outcome V errors'.Seen states'.Seen). g.verdict) e)) s
          | inr u ↦ elim u [
            | inl e ↦ rw e.verdict tt
            | inr e ↦ absurd (e.0 (none_seen errors.seen errors'.seen m.report.emitted none))
          ]
        ]

    nested-spares : NeverOutOfMemory outer → NeverOutOfMemory Nested
    nested-spares f b o m = chained-spares (Asked true Counted) (Inside b.start) (asked-spares true Counted (λ c p n. f c p n.0)) (λ v. inside-spares b.start v) b o m

  -- `inner.nested_in(outer)`, where the word of the outer part decides the input
  pub nested-accepts : {spare : Type 0} → EndsAfterStart inner → IsDecided F decides → Accepts inner G (errors.takes_no_memory × states.takes_no_memory) → Accepts outer F spare
      → Accepts Nested (nested_language F decides tokens G (SparesWithin errors states inner)) spare
  nested-accepts {spare} ends i g f = record {
    described = λ s.
        let t = both-true F.said G.said s in
        let d = f.described t.0 in
        let e = g.described t.1 in
        let k = (then_ignore-accepts inner (MeansEnd source errors states) ends (end-ends source errors states) g (end-accepts source errors states)).described (rw t.1 refl) in
        record {
          reads = nested-by d k i;
          only = nested-takes_only F decides tokens G d.only e.only;
          given = nested-gives_only F decides tokens G i d.given e.given;
          each = λ u. nested-takes_each F decides tokens G (d.each u.0) (e.each u.1) u.2;
          decided = nested-decided F decides tokens G d.only d.further d.decided e.decided;
          further = λ m ts rest x. d.further m ts rest (is_nested F decides tokens G ts rest x).is_outer;
        };
    moving = λ m. nested-moves (f.moving m);
    sparing = λ q t.
        let z : SparesWithin errors states inner = t.2 in
        nested-spares z.0.0 (ignoring_second-spares inner (MeansEnd source errors states) (g.sparing z.0 t.1) (end-spares source errors states z.0.0 z.0.1)) z.1 (f.sparing q t.0);
  }
