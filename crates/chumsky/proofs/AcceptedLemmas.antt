-- What a call answers of a text follows from what is said of its parser.
-- Main lemma: answers-text.
use Rattle.std.proofs.Common.{◌≡◌, ◌<◌, ◌^◌, Bool, true, false, Option, Some, None, List, [], ◌∷◌, length, drop, refl, sym, ◌∙◌, ap, subst, arith, ◌⊎◌, inl, inr}
use Rattle.std.proofs.lemmas.List.{append-nil}
use Rattle.std.specs.Prelude.{⊤, Result, Ok, Err, IsOk}
use Rattle.chumsky_input.specs.Layout.{Layout}
use Rattle.chumsky_input.specs.declared.error.Error as error_trait
use Rattle.chumsky_input.specs.declared.inspector.Inspector as inspector_trait
use Rattle.chumsky_input.specs.declared.input.Input as input_trait
use Rattle.chumsky_input.specs.declared.stop.Stop.{Stop}
use Rattle.chumsky_input.specs.declared.stop.Stop.TheVariants.{Memory}
use Rattle.chumsky_input.specs.Outcome.{Meaning, Beginning, Outcome, Verdict, Yes, No, Halt, Clash}
use Rattle.chumsky_parser.specs.Chained.{Chained, Given, Asked, Follows, from}
use Rattle.chumsky_parser.specs.declared.result.ParseResult.{ParseResult}
use Rattle.chumsky_parser.specs.Ending.{At, Nowhere, Refused, Within, IfValue, Answers as AnswersAt}
use Rattle.chumsky_parser.specs.Language.{Begins, Language, Described, Accepts}
use Rattle.chumsky_parser.specs.Memory.{NeverOutOfMemory}
use Rattle.chumsky_parser.specs.WordsLaws.{whole-taken}
use Rattle.chumsky_parser.specs.Settled.{RefusesBy}
use Rattle.chumsky_primitive.specs.End.{MeansEnd}
use Rattle.chumsky_primitive.specs.EndLanguage.{end_ends, end-reads}
use Rattle.chumsky.specs.Answer.{WholeRun, IsOutput, Answers}
use Rattle.chumsky.specs.Accepted.{FallsShort, IsOutputOf, IsAnswerOf, AnswersText}
use Rattle.chumsky.specs.WantedMemory.{wanted-for_errors}

-- a word that nothing follows is the text
whole_word : {Tok : Type 0} (P : List Tok → Type 0) (ts : List Tok) → Begins P ts [] → P ts
whole_word P ts b = subst P (sym (b.all ∙ append-nil b.word)) b.is

falls_short : {Tok : Type 0} (rest : List Tok) → (rest ≡ [] → ⊥) → FallsShort (At rest)
falls_short [] n = absurd (n refl)
falls_short (t ∷ ts) n = tt

ends_empty : {Tok : Type 0} (ts rest : List Tok) → end_ends ts ≡ At rest → ts ≡ []
ends_empty [] rest e = refl
ends_empty (t ∷ ts) rest e = absurd (cc e)

ends_not : {Tok : Type 0} (ts : List Tok) → end_ends ts ≡ Nowhere → ts ≡ [] → ⊥
ends_not [] e n = absurd (cc e)
ends_not (t ∷ ts) e n = absurd (cc n)

never_refused : {Tok : Type 0} (ts : List Tok) → end_ends ts ≡ Refused → ⊥
never_refused [] e = absurd (cc e)
never_refused (t ∷ ts) e = absurd (cc e)

module _ {I Tok Sp Cu Er St Mk Cx V : Type 0} (source : input_trait.Ghosts I Cu Tok Sp) (errors : error_trait.Ghosts Er I Tok Sp) (states : inspector_trait.Ghosts St I Mk Tok Sp)
    (part : Meaning Tok Cx states.Seen errors.Seen V) (l : Language Tok V) (h : Described part l) where
  -- a run of the whole
  abbrev WholeAs : List Tok → Verdict V errors.Seen → Type 0
  WholeAs ts (Yes v) = (l.ends ts ≡ At []) × IfValue (l.value ts) v
  WholeAs ts No = FallsShort (l.ends ts)
  WholeAs ts (Halt s) = (s ≡ Memory) ⊎ (l.ends ts ≡ Refused)
  WholeAs ts (Clash e) = ⊤

  end_by : (ts : List Tok) (b : Beginning Tok Cx states.Seen) → Within b → l.ends ts ≡ At (drop b.start b.tokens.list)
      → (v : Option V) → IfValue (l.value ts) v
      → (q : Outcome V errors.Seen states.Seen) (r : Outcome (Unit {0}) errors.Seen states.Seen) (u : Verdict (Unit {0}) errors.Seen)
      → r.verdict ≡ u → MeansEnd source errors states (record b { wanted = false }) r → Follows u (λ _. Given v) b r q → WholeAs ts q.verdict
  end_by ts b w e v i q r (Yes z) g m k =
      let rest : List Tok = drop b.start b.tokens.list in
      let a : AnswersAt (λ (z : Unit {0}). ⊤) {Er = errors.Seen} (end_ends rest) b.tokens.list (Yes z) r.end =
      subst (λ u. AnswersAt (λ (z : Unit {0}). ⊤) {Er = errors.Seen} (end_ends rest) b.tokens.list u r.end) g
      ((end-reads source errors states).here (record b { wanted = false }) (record { start = w.start; few = w.few }) r m)
      in
      let e2 : l.ends ts ≡ At [] = e ∙ ap At (ends_empty rest (drop r.end b.tokens.list) a.0) in
      rw (k.2, k.1) (e2, i)
  end_by ts b w e v i q r No g m k =
      let rest : List Tok = drop b.start b.tokens.list in
      let a : end_ends rest ≡ Nowhere =
      subst (λ u. AnswersAt (λ (z : Unit {0}). ⊤) {Er = errors.Seen} (end_ends rest) b.tokens.list u r.end) g
      ((end-reads source errors states).here (record b { wanted = false }) (record { start = w.start; few = w.few }) r m)
      in
      rw (k, e) (falls_short rest (ends_not rest a))
  end_by ts b w e v i q r (Halt s) g m k =
      let rest : List Tok = drop b.start b.tokens.list in
      let a : (s ≡ Memory) ⊎ (end_ends rest ≡ Refused) =
      subst (λ u. AnswersAt (λ (z : Unit {0}). ⊤) {Er = errors.Seen} (end_ends rest) b.tokens.list u r.end) g
      ((end-reads source errors states).here (record b { wanted = false }) (record { start = w.start; few = w.few }) r m)
      in
      rw k (elim a [ inl y ↦ inl y | inr y ↦ absurd (never_refused rest y) ])
  end_by ts b w e v i q r (Clash c) g m k = rw k tt

  whole_by : (b : Beginning Tok Cx states.Seen) → Within b → (o p : Outcome V errors.Seen states.Seen) (u : Verdict V errors.Seen) → p.verdict ≡ u → part b p
      → Follows u (λ v. Chained (Asked false (MeansEnd source errors states)) (λ _. Given v)) b p o → WholeAs (drop b.start b.tokens.list) o.verdict
  whole_by b w o p (Yes v) e m g =
      let ts : List Tok = drop b.start b.tokens.list in
      let a : AnswersAt (l.value ts) {Er = errors.Seen} (l.ends ts) b.tokens.list (Yes v) p.end =
      subst (λ u. AnswersAt (l.value ts) {Er = errors.Seen} (l.ends ts) b.tokens.list u p.end) e
      (h.reads.here b w p m) in
      let c : Beginning Tok Cx states.Seen = from b p in
      let z : WholeAs ts g.0.verdict = end_by ts c (record { start = a.2; few = w.few }) a.0 v a.1 g.0 g.1.first g.1.first.verdict refl g.1.meant.run g.1.follows in
      rw g.2 z
  whole_by b w o p No e m g =
      let ts : List Tok = drop b.start b.tokens.list in
      let a : l.ends ts ≡ Nowhere = subst (λ u. AnswersAt (l.value ts) {Er = errors.Seen} (l.ends ts) b.tokens.list u p.end) e (h.reads.here b w p m) in
      rw (g, a) tt
  whole_by b w o p (Halt s) e m g =
      let ts : List Tok = drop b.start b.tokens.list in
      let a : (s ≡ Memory) ⊎ (l.ends ts ≡ Refused) = subst (λ u. AnswersAt (l.value ts) {Er = errors.Seen} (l.ends ts) b.tokens.list u p.end) e (h.reads.here b w p m) in
      rw g a
  whole_by b w o p (Clash c) e m g = rw g tt

  module _ {W : Type 0} (gives : W → Option V) (ts : List Tok) where
    given_by : (v : Option V) → l.ends ts ≡ At [] → IfValue (l.value ts) v → IfValue (λ u. l.value ts u × l.stands_for ts u) v
    given_by (Some v) e i = (i, whole_word (λ w. l.stands_for w v) ts (h.given.given ts [] v e i))
    given_by None e i = tt

    output_by : (u : Verdict V errors.Seen) (w : Option W) → WholeAs ts u → IsOutput (λ v z. v ≡ gives z) u w → IsOutputOf gives l ts w
    output_by (Yes v) (Some z) a i = (a.0, whole_word l.word ts (h.only.taken ts [] a.0), given_by (gives z) a.0 (subst (IfValue (l.value ts)) i a.1))
    output_by (Yes v) None a i = absurd i
    output_by No (Some z) a i = absurd i
    output_by No None a i = a
    output_by (Halt s) w a i = absurd i
    output_by (Clash c) w a i = absurd i

    refused_by : (o : Outcome V errors.Seen states.Seen) (s : Stop) (u : Verdict V errors.Seen) → WholeAs ts u → RefusesBy errors.takes_no_memory u o s → (s ≡ Memory) ⊎ (l.ends ts ≡ Refused)
    refused_by o s (Yes v) a r = absurd r
    refused_by o s No a r = inl r
    refused_by o s (Halt z) (inl a) r = inl (r ∙ a)
    refused_by o s (Halt z) (inr a) r = inr a
    refused_by o s (Clash c) a r = inl r.0

    answer_by : (all : Layout Tok) (o : Outcome V errors.Seen states.Seen) (result : Result (ParseResult W Er) Stop)
        → WholeAs ts o.verdict → Answers source errors (λ v w. v ≡ gives w) all o result
        → IsAnswerOf gives l ts result
    answer_by all o (Ok parsed) a x = output_by o.verdict parsed.output a x.output
    answer_by all o (Err s) a x = refused_by o s o.verdict a x

    -- where nothing takes memory, what is refused was not taken whole
    sure_by : errors.takes_no_memory → states.takes_no_memory → NeverOutOfMemory part
        → (all : Layout Tok) (b : Beginning Tok Cx states.Seen) (o : Outcome V errors.Seen states.Seen)
        → WholeRun source errors states part b o → WholeAs ts o.verdict → l.ends ts ≡ At []
        → (result : Result (ParseResult W Er) Stop) → IsAnswerOf gives l ts result → Answers source errors (λ v w. v ≡ gives w) all o result → IsOk result
    sure_by quiet still never all b o m a t (Ok parsed) r x = refl
    sure_by quiet still never all b o m a t (Err s) (inr r) x = absurd (cc (r, t))
    sure_by quiet still never all b o m a t (Err s) (inl r) x =
        let no : o.verdict ≡ No = wanted-for_errors source errors states quiet still part never b o s m x r in
        let f : FallsShort (l.ends ts) = subst (WholeAs ts) no a in
        let g : FallsShort {Tok = Tok} (At []) = subst FallsShort t f in
        absurd g

module _ {I Tok Sp Cu Er St Mk Cx V W : Type 0} (source : input_trait.Ghosts I Cu Tok Sp) (errors : error_trait.Ghosts Er I Tok Sp) (states : inspector_trait.Ghosts St I Mk Tok Sp) where
  -- what is answered of a run from the start of the tokens is so of the text
  pub answers-text : {part : Meaning Tok Cx states.Seen errors.Seen V} {l : Language Tok V} (gives : W → Option V) (ts : Layout Tok)
      → length ts.list < 2 ^ 64 → Accepts part l (errors.takes_no_memory × states.takes_no_memory)
      → (wanted : Bool) (context : Cx) (old : states.Seen) (o : Outcome V errors.Seen states.Seen)
      → WholeRun source errors states part (record { wanted = wanted; tokens = ts; start = 0; context = context; state = old }) o
      → (result : Result (ParseResult W Er) Stop) → Answers source errors (λ v w. v ≡ gives w) ts o result
      → l.said ≡ true → AnswersText gives l ts.list (errors.takes_no_memory × states.takes_no_memory) result
  answers-text {part} {l} gives ts few accepts wanted context old o m result x s =
      let h : Described part l = accepts.described s in
      let b : Beginning Tok Cx states.Seen = record { wanted = wanted; tokens = ts; start = 0; context = context; state = old } in
      let w : Within b = record { start = omega arith; few = few } in
      let a : WholeAs source errors states part l h ts.list o.verdict = whole_by source errors states part l h b w o m.first m.first.verdict refl m.meant m.follows in
      let r : IsAnswerOf gives l ts.list result = answer_by source errors states part l h gives ts.list ts o result a x in
      record {
        output = r;
        accepted = λ u f y. whole-taken l.ends l.word l.follow (h.each u) ts.list y f;
        decided = h.decided ts.list;
        answered = λ q n t. sure_by source errors states part l h gives ts.list q.0 q.1 (accepts.sparing q n) ts b o m a t result r x;
      }
