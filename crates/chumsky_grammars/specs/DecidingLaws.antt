-- The laws of nodes whose value is judged by a mapper that may refuse, where it decides by the word of its part.
-- Main laws: tried-accepts, by_try-decides, rules-decide. Read first: Deciding.antt, PickedLaws.antt of chumsky_judge, Means.antt of chumsky_recursive.
use Rattle.std.proofs.Common.{◌≡◌, ℕ, zero, suc, ◌≤◌, ◌<◌, true, Option, Some, None, List, [], ◌∷◌, drop, length, slice_get, refl, sym, ◌∙◌, ap, subst, inl, inr}
use Rattle.std.proofs.lemmas.List.Elements.{All-contains, All-from_recursion}
use Rattle.std.specs.List.{AllByRecursion, Contains}
use Rattle.std.specs.Prelude.{Result, Ok, Err, IfSome, ⊤}
use Rattle.std.specs.Result.{result_ok}
use Rattle.chumsky_input.specs.declared.error.Error as error_trait
use Rattle.chumsky_input.specs.declared.input.Input as input_trait
use Rattle.chumsky_input.specs.Outcome.{Meaning, Beginning, Outcome}
use Rattle.chumsky_parser.specs.Chained.{Asked}
use Rattle.chumsky_parser.specs.Ending.{At, Nowhere, Ender, Ends, IfValue, Answers, Reads}
use Rattle.chumsky_parser.specs.EndingLaws.{ends_there, asked-here, refuses-by, wanting_value}
use Rattle.chumsky_parser.specs.Language.{GivesOnly, Language, Accepts}
use Rattle.chumsky_parser.specs.Progress.{IsYes, Moves}
use Rattle.chumsky_parser.specs.ProgressLaws.{asked-moves}
use Rattle.chumsky_parser.specs.Words.{taken_of}
use Rattle.chumsky_parser.specs.WordsLaws.{taken_word}
use Rattle.chumsky_judge.specs.Picked.{if_picked, picked_ends, picked_language}
use Rattle.chumsky_judge.specs.PickedLaws.{picked-accepts}
use Rattle.chumsky_judge.specs.Judged.{NoAsOne}
use Rattle.chumsky_judge.specs.JudgedEndings.{or_clash-by, or_lacks-by, judged-here}
use Rattle.chumsky_judge.specs.JudgedMoves.{clash-yes, lacks-yes, judged-moves}
use Rattle.chumsky_judge.specs.Tried.{ByTry, ruling_seen}
use Rattle.chumsky_judge.specs.Vetted.{Vets, OnRuling}
use Rattle.chumsky_recursive.specs.Means.{VettingOrNone, VettedOrNone}
use Rattle.chumsky_grammars.specs.Deciding.{DecidesByWord, EachPicks, tried_parts}
use Rattle.chumsky_grammars.specs.Expression.{Expression}
use Rattle.chumsky_grammars.specs.RuleLanguage.{Makes, in_memory, expression_language, rule_language}

-- the same of a judge
abbrev pub RulesByWord : {Tok Cx St Er V : Type 0} → (List Tok → Option V) → (List Tok → V → Type 0) → Vets Tok Cx St Er V V → Type 0
RulesByWord {Tok} {Cx} {St} {Er} {V} picks stands_for vets =
    (w : List Tok) (b : Beginning Tok Cx St) (end : ℕ) (s t : St) (v : V) (r : Result V Er) → stands_for w v → vets b end s v r t → result_ok r ≡ picks w

seen_ok : {V Er S : Type 0} (seen : Er → S) (r : Result V Er) → result_ok (ruling_seen seen r) ≡ result_ok r
seen_ok seen (Ok v) = refl
seen_ok seen (Err e) = refl

module _ {I Tok Sp Cu Er St Cx V : Type 0} (source : input_trait.Ghosts I Cu Tok Sp) (errors : error_trait.Ghosts Er I Tok Sp) where
  -- a mapper that decides by the word is a judge that does
  pub by_try-decides : (picks : List Tok → Option V) (stands_for : List Tok → V → Type 0) (gives : V → Sp → Result V Er → Type 0) → DecidesByWord picks stands_for gives
      → RulesByWord picks stands_for (ByTry {St = St} {Cx = Cx} source errors gives)
  by_try-decides picks stands_for gives h w b end s t v r i y = rw y.answer (seen_ok errors.seen y.ruling ∙ h w v (source.span_between b.tokens b.start end) y.ruling i y.says)

module _ {Tok Cx St Er V : Type 0} (merged : Er → Er → Er) (lacks : Type 0) (vets : Vets Tok Cx St Er V V) (part : Meaning Tok Cx St Er V) where
  abbrev Tried : Meaning Tok Cx St Er V
  Tried = VettedOrNone merged lacks vets part

  ruled_moves : (r : Result V Er) (s : St) (b : Beginning Tok Cx St) (p o : Outcome V Er St) → b.start < p.end → OnRuling merged ⊤ r s b p o → IsYes o.verdict → b.start < o.end
  ruled_moves (Ok v) s b p o l h y = let e : o.end ≡ p.end = ap (λ (z : Outcome V Er St). z.end) (clash-yes h y) in rw e l
  ruled_moves (Err d) s b p o l h y = absurd (subst IsYes (ap (λ (z : Outcome V Er St). z.verdict) (lacks-yes h y)) y)

  judged_moves : (b : Beginning Tok Cx St) (v : Option V) (p o : Outcome V Er St) → b.start < p.end → VettingOrNone merged lacks vets b v p o → IsYes o.verdict → b.start < o.end
  judged_moves b v p o l (inl r) y = absurd (subst IsYes r.1 y)
  judged_moves b (Some v) p o l (inr j) y = ruled_moves j.0 j.1 b p o l j.3 y
  judged_moves b None p o l (inr j) y = absurd j

  -- it moves where it succeeds, since its part does
  tried-moves : Moves part → Moves Tried
  tried-moves h b o m y =
      judged-moves (Asked true part) (VettingOrNone merged lacks vets) (NoAsOne merged) (asked-moves true part h) judged_moves
      (λ c p q n z. subst IsYes (ap (λ (u : Outcome V Er St). u.verdict) (clash-yes n z)) z) b o m.run y

  module _ (picks : List Tok → Option V) (f : Ender Tok) (va of : List Tok → V → Type 0) (h : Reads part f va) (k : GivesOnly f va of) (by_word : RulesByWord picks of vets) where
    abbrev Value : List Tok → V → Type 0
    Value ts u = Ends (f ts) (λ rest. picks (taken_of ts rest) ≡ Some u)

    -- the answer of a ruling
    ruled : (b : Beginning Tok Cx St) (p o : Outcome V Er St) (r : Result V Er) (s : St) → f (drop b.start b.tokens.list) ≡ At (drop p.end b.tokens.list) → p.end ≤ length b.tokens.list
        → result_ok r ≡ picks (taken_of (drop b.start b.tokens.list) (drop p.end b.tokens.list)) → OnRuling merged ⊤ r s b p o
        → Answers (Value (drop b.start b.tokens.list)) (picked_ends picks f (drop b.start b.tokens.list)) b.tokens.list o.verdict o.end
    ruled b p o (Ok u) s e l q m =
        let ts : List Tok = drop b.start b.tokens.list in
        let rest : List Tok = drop p.end b.tokens.list in
        let n : if_picked (picks (taken_of ts rest)) rest ≡ At rest = subst (λ y. if_picked y rest ≡ At rest) q refl in
        let d : picked_ends picks f ts ≡ At rest = rw e n in
        let i : Value ts u = ends_there (f ts) rest (λ r. picks (taken_of ts r) ≡ Some u) e (sym q) in
        or_clash-by (Value ts) (picked_ends picks f ts) b.tokens.list _ o (d, wanting_value (Value ts) u i b.wanted, l) m
    ruled b p o (Err x) s e l q m =
        let ts : List Tok = drop b.start b.tokens.list in
        let rest : List Tok = drop p.end b.tokens.list in
        let n : if_picked (picks (taken_of ts rest)) rest ≡ Nowhere = subst (λ y. if_picked y rest ≡ Nowhere) q refl in
        let d : picked_ends picks f ts ≡ Nowhere = rw e n in
        or_lacks-by (Value ts) (picked_ends picks f ts) b.tokens.list _ o d m

    judged : (b : Beginning Tok Cx St) (v : Option V) (p o : Outcome V Er St) → f (drop b.start b.tokens.list) ≡ At (drop p.end b.tokens.list) → IfValue (va (drop b.start b.tokens.list)) v
        → p.end ≤ length b.tokens.list → VettingOrNone merged lacks vets b v p o
        → Answers (Value (drop b.start b.tokens.list)) (picked_ends picks f (drop b.start b.tokens.list)) b.tokens.list o.verdict o.end
    judged b v p o e i l (inl r) = let ts : List Tok = drop b.start b.tokens.list in refuses-by (Value ts) (picked_ends picks f ts) b.tokens.list o r
    judged b (Some v) p o e i l (inr m) =
        let ts : List Tok = drop b.start b.tokens.list in
        let rest : List Tok = drop p.end b.tokens.list in
        let g = k.given ts rest v e i in
        ruled b p o m.0 m.1 e l (by_word g.word b p.end p.state m.1 v m.0 g.is m.2 ∙ ap picks (sym (taken_word ts rest g.word g.all))) m.3
    judged b None p o e i l (inr m) = absurd m

    tried-by : Reads Tried (picked_ends picks f) Value
    tried-by = record {
      here = λ b w o m.
          let ts : List Tok = drop b.start b.tokens.list in
          judged-here (va ts) (Value ts) (Asked true part) (VettingOrNone merged lacks vets) (NoAsOne merged) (f ts) (picked_ends picks f ts) b (record {
            yes = λ v p q e i l j. judged b v p q e i l j;
            no = λ p q e j. let d : picked_ends picks f ts ≡ Nowhere = rw e refl in or_clash-by (Value ts) (picked_ends picks f ts) b.tokens.list _ q d j;
            refused = λ e. rw e refl;
          }) (asked-here (va ts) b true part (f ts) (h.here (record b { wanted = true }) (record { start = w.start; few = w.few }))) o m.run;
    }

module _ {I Tok Sp Cu Er St Cx V : Type 0} (source : input_trait.Ghosts I Cu Tok Sp) (errors : error_trait.Ghosts Er I Tok Sp) (lacks : Type 0) (vets : Vets Tok Cx St errors.Seen V V)
    (part : Meaning Tok Cx St errors.Seen V) (picks : List Tok → Option V) where
  -- a part whose value is judged by the word; where it ends is said as of a part whose value is picked
  pub tried-accepts : {F : Language Tok V} {still : Type 0} → RulesByWord picks F.stands_for vets → let spare : Type 0 = errors.takes_no_memory × still in Accepts part F spare
      → Accepts (VettedOrNone errors.merged lacks vets part) (in_memory (picked_language picks F)) spare
  tried-accepts {F} {still} by_word h = record {
    described = λ s.
        let d = h.described s in
        let p = (picked-accepts source errors part (λ v x. ⊥) picks {F = F} {still = still} (λ w v x i g. absurd g) h).described s in
        record {
          reads = tried-by errors.merged lacks vets part picks F.ends F.value F.stands_for d.reads d.given by_word;
          only = p.only;
          given = p.given;
          each = p.each;
          decided = p.decided;
          further = p.further;
        };
    moving = λ e. tried-moves errors.merged lacks vets part (h.moving e);
    sparing = λ q t. absurd t;
  }

-- of one of a list holds what holds of each
each_there : {X : Type 0} (P : X → Type 0) (xs : List X) (n : ℕ) → AllByRecursion P xs → IfSome (slice_get xs n) P
each_there P [] n h = tt
each_there P (x ∷ xs) zero h = h.0
each_there P (x ∷ xs) (suc n) h = each_there P xs n h.1

-- and what holds of all of one that may be there
pub any_there : {X : Type 0} (P : X → Type 0) (x : Option X) → ((y : X) → P y) → IfSome x P
any_there P (Some y) h = h y
any_there P None h = tt

if_there : {X : Type 0} (P Q : X → Type 0) (x : Option X) → ((y : X) → P y → Q y) → IfSome x P → IfSome x Q
if_there P Q (Some y) h i = h y i
if_there P Q None h i = tt

module _ {Tok Cx St Seen V : Type 0} (makes : Makes Tok V) (leaf : ℕ → Language Tok V) (rules : List Expression) (tries : ℕ → Vets Tok Cx St Seen V V) where
  -- where so many calls may be open, and it is said what judges make of words, that each in a body decides by the word of its part
  abbrev pub JudgesDecide : Option (ℕ → List Tok → Option V) → ℕ → Expression → Type 0
  JudgesDecide picks n e = (q : ℕ × Expression) → Contains (tried_parts e) q
      → IfSome picks (λ p. RulesByWord (p q.0) (expression_language makes leaf (rule_language makes leaf rules n) q.1).stands_for (tries q.0))

  -- so each in the body of a rule, where the mappers do
  pub rules-decide : {Sp Er : Type 0} (gives : ℕ → V → Sp → Result V Er → Type 0)
      → ((f : ℕ) (picks : List Tok → Option V) (stands_for : List Tok → V → Type 0) → DecidesByWord picks stands_for (gives f) → RulesByWord picks stands_for (tries f))
      → (picks : Option (ℕ → List Tok → Option V)) → IfSome picks (EachPicks makes leaf rules gives) → (n r : ℕ) → IfSome (slice_get rules r) (JudgesDecide picks n)
  rules-decide gives judges (Some p) h n r =
      let by : ℕ × Expression → Type 0 = λ q. DecidesByWord (p q.0) (expression_language makes leaf (rule_language makes leaf rules n) q.1).stands_for (gives q.0) in
      if_there (λ e. AllByRecursion by (tried_parts e)) (JudgesDecide (Some p) n) (slice_get rules r)
      (λ e a q i. judges q.0 (p q.0) _ (All-contains by (tried_parts e) q (All-from_recursion by (tried_parts e) a) i)) (each_there (λ e. AllByRecursion by (tried_parts e)) rules r (h n))
  rules-decide gives judges None h n r = any_there (JudgesDecide None n) (slice_get rules r) (λ e q i. tt)
