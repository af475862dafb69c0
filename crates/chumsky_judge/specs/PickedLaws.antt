-- The laws of the language of a part whose value is picked.
-- Main law: picked-accepts. Read first: Picked.antt, JudgedEndings.antt.
use Rattle.std.proofs.Common.{◌≡◌, ℕ, ◌≤◌, true, Option, Some, None, List, ◌++◌, length, drop, refl, sym, ◌∙◌, ap, subst, inl}
use Rattle.chumsky_input.specs.declared.error.Error as error_trait
use Rattle.chumsky_input.specs.declared.input.Input as input_trait
use Rattle.chumsky_input.specs.Outcome.{Meaning, Beginning, Outcome}
use Rattle.chumsky_parser.specs.Chained.{Asked}
use Rattle.chumsky_parser.specs.Ending.{Ending, At, Nowhere, Refused, Ender, and_then, Ends, IfValue, Answers, Reads}
use Rattle.chumsky_parser.specs.EndingLaws.{ends_there, asked-here, wanting_value}
use Rattle.chumsky_parser.specs.Language.{TakesOnly, GivesOnly, TakesEach, EndsFurther, NeverRefusedBelow, Language, Accepts}
use Rattle.chumsky_parser.specs.Words.{taken_of}
use Rattle.chumsky_parser.specs.WordsLaws.{ends_at, then_or_refused, taken_word}
use Rattle.chumsky_judge.specs.Picked.{if_picked, IsPick, picked_ends, picked_language, PicksByWord}
use Rattle.chumsky_judge.specs.Judged.{NoAsOne}
use Rattle.chumsky_judge.specs.JudgedEndings.{or_clash-by, or_lacks-by, judged-here}
use Rattle.chumsky_judge.specs.JudgedMoves.{vetted-moves}
use Rattle.chumsky_judge.specs.JudgedSpares.{vetted-spares}
use Rattle.chumsky_judge.specs.Tried.{ByPick, picked}
use Rattle.chumsky_judge.specs.Vetted.{OnRuling, Vetting, Vetted}

if_picked-at : {U X : Type 0} (x : Option U) (y z : X) → if_picked x y ≡ At z → (y ≡ z) × IsPick x
if_picked-at (Some u) y z e = (cc e, tt)
if_picked-at None y z e = absurd (cc e)

if_picked-refused : {U X : Type 0} (x : Option U) (y : X) → if_picked x y ≡ Refused → ⊥
if_picked-refused (Some u) y e = cc e
if_picked-refused None y e = cc e

pick-there : {U X : Type 0} (x : Option U) (y : X) → IsPick x → if_picked x y ≡ At y
pick-there (Some u) y i = refl
pick-there None y i = absurd i

module _ {Tok U : Type 0} (picks : List Tok → Option U) where
  module _ (f : Ender Tok) where
    -- the part ends there, and something is picked of what it took
    pub picked-at : (ts rest : List Tok) → picked_ends picks f ts ≡ At rest → (f ts ≡ At rest) × IsPick (picks (taken_of ts rest))
    picked-at ts rest e = by_part (f ts) e
      where
        by_part : (x : Ending (List Tok)) → and_then (λ r. if_picked (picks (taken_of ts r)) r) x ≡ At rest → (x ≡ At rest) × IsPick (picks (taken_of ts rest))
        by_part (At r) d =
            let k = if_picked-at (picks (taken_of ts r)) r rest d in
            (ap (λ z. At z) k.0, subst (λ z. IsPick (picks (taken_of ts z))) k.0 k.1)
        by_part Nowhere d = absurd (cc d)
        by_part Refused d = absurd (cc d)

    pub picked-decided : (n : Option ℕ) → NeverRefusedBelow n f → NeverRefusedBelow n (picked_ends picks f)
    picked-decided n h ts i d = by_part (f ts) refl d
      where
        by_part : (x : Ending (List Tok)) → f ts ≡ x → and_then (λ r. if_picked (picks (taken_of ts r)) r) x ≡ Refused → ⊥
        by_part (At r) q d' = if_picked-refused (picks (taken_of ts r)) r d'
        by_part Nowhere q d' = cc d'
        by_part Refused q d' = h ts i q

    pub picked-further : EndsFurther f → EndsFurther (picked_ends picks f)
    picked-further h ts rest e = h ts rest (picked-at ts rest e).0

    module _ (P follow : List Tok → Type 0) where
      picked-takes_only : TakesOnly f P → TakesOnly (picked_ends picks f) (λ w. P w × IsPick (picks w))
      picked-takes_only h = record {
        taken = λ ts rest e.
            let b = picked-at ts rest e in
            let k = h.taken ts rest b.0 in
            record { word = k.word; all = k.all; is = (k.is, subst (λ w. IsPick (picks w)) (taken_word ts rest k.word k.all) b.1) };
      }

      picked-gives_only : TakesOnly f P → GivesOnly (picked_ends picks f) (λ ts u. Ends (f ts) (λ rest. picks (taken_of ts rest) ≡ Some u)) (λ w u. P w × (picks w ≡ Some u))
      picked-gives_only h = record {
        given = λ ts rest u e i.
            let b = picked-at ts rest e in
            let k = h.taken ts rest b.0 in
            let j : picks (taken_of ts rest) ≡ Some u = ends_at (f ts) rest (λ r. picks (taken_of ts r) ≡ Some u) b.0 i in
            record { word = k.word; all = k.all; is = (k.is, subst (λ w. picks w ≡ Some u) (taken_word ts rest k.word k.all) j) };
      }

      pub picked-takes_each : TakesEach f P follow → TakesEach (picked_ends picks f) (λ w. P w × IsPick (picks w)) follow
      picked-takes_each h = record {
        each = λ w rest p k.
            let q : taken_of (w ++ rest) rest ≡ w = taken_word (w ++ rest) rest w refl in
            let i : IsPick (picks (taken_of (w ++ rest) rest)) = subst (λ z. IsPick (picks z)) (sym q) p.1 in
            let d : if_picked (picks (taken_of (w ++ rest) rest)) rest ≡ At rest = pick-there (picks (taken_of (w ++ rest) rest)) rest i in
            then_or_refused (λ r. if_picked (picks (taken_of (w ++ rest) r)) r) (f (w ++ rest)) rest rest (h.each w rest p.0 k) (inl d);
      }

module _ {I Tok Sp Cu Er Cx St V U : Type 0} (source : input_trait.Ghosts I Cu Tok Sp)
    (errors : error_trait.Ghosts Er I Tok Sp) (part : Meaning Tok Cx St errors.Seen V) (gives : V → Option U → Type 0)
    (picks : List Tok → Option U) where
  abbrev PickedOf : Meaning Tok Cx St errors.Seen U
  PickedOf = Vetted errors.merged errors.takes_no_memory (ByPick source errors gives) part

  module _ (f : Ender Tok) (va of : List Tok → V → Type 0) (h : Reads part f va) (k : GivesOnly f va of) (by_word : PicksByWord picks of gives) where
    abbrev Value : List Tok → U → Type 0
    Value ts u = Ends (f ts) (λ rest. picks (taken_of ts rest) ≡ Some u)

    picked_word : (ts rest : List Tok) (v : V) (x : Option U) → f ts ≡ At rest → va ts v → gives v x → x ≡ picks (taken_of ts rest)
    picked_word ts rest v x e i g =
        let b = k.given ts rest v e i in
        by_word b.word v x b.is g ∙ ap picks (sym (taken_word ts rest b.word b.all))

    -- the answer of what was picked
    ruled : (b : Beginning Tok Cx St) (p : Outcome V errors.Seen St) (o : Outcome U errors.Seen St) (x : Option U) (s : St)
        → f (drop b.start b.tokens.list) ≡ At (drop p.end b.tokens.list) → p.end ≤ length b.tokens.list
        → x ≡ picks (taken_of (drop b.start b.tokens.list) (drop p.end b.tokens.list))
        → OnRuling errors.merged errors.takes_no_memory (picked source errors x b p.end) s b p o
        → Answers (Value (drop b.start b.tokens.list)) (picked_ends picks f (drop b.start b.tokens.list)) b.tokens.list o.verdict o.end
    ruled b p o (Some u) s e l q m =
        let ts : List Tok = drop b.start b.tokens.list in
        let rest : List Tok = drop p.end b.tokens.list in
        let n : if_picked (picks (taken_of ts rest)) rest ≡ At rest = subst (λ y. if_picked y rest ≡ At rest) q refl in
        let d : picked_ends picks f ts ≡ At rest = rw e n in
        let i : Value ts u = ends_there (f ts) rest (λ r. picks (taken_of ts r) ≡ Some u) e (sym q) in
        or_clash-by (Value ts) (picked_ends picks f ts) b.tokens.list _ o (d, wanting_value (Value ts) u i b.wanted, l) m
    ruled b p o None s e l q m =
        let ts : List Tok = drop b.start b.tokens.list in
        let rest : List Tok = drop p.end b.tokens.list in
        let n : if_picked (picks (taken_of ts rest)) rest ≡ Nowhere = subst (λ y. if_picked y rest ≡ Nowhere) q refl in
        let d : picked_ends picks f ts ≡ Nowhere = rw e n in
        or_lacks-by (Value ts) (picked_ends picks f ts) b.tokens.list _ o d m

    judged : (b : Beginning Tok Cx St) (v : Option V) (p : Outcome V errors.Seen St) (o : Outcome U errors.Seen St)
        → f (drop b.start b.tokens.list) ≡ At (drop p.end b.tokens.list) → IfValue (va (drop b.start b.tokens.list)) v
        → p.end ≤ length b.tokens.list
        → Vetting errors.merged errors.takes_no_memory (ByPick source errors gives) b v p o
        → Answers (Value (drop b.start b.tokens.list)) (picked_ends picks f (drop b.start b.tokens.list)) b.tokens.list o.verdict o.end
    judged b (Some v) p o e i l m =
        let n = m.2 in
        let r : OnRuling errors.merged errors.takes_no_memory (picked source errors n.pick b p.end) m.1 b p o = subst (λ y. OnRuling errors.merged errors.takes_no_memory y m.1 b p o) n.answer m.3 in
        ruled b p o n.pick m.1 e l (picked_word (drop b.start b.tokens.list) (drop p.end b.tokens.list) v n.pick e i n.says) r
    judged b None p o e i l m = absurd m

    picked-by : Reads PickedOf (picked_ends picks f) Value
    picked-by = record {
      here = λ b w o m.
          let ts : List Tok = drop b.start b.tokens.list in
          judged-here (va ts) (Value ts) (Asked true part)
          (Vetting errors.merged errors.takes_no_memory (ByPick source errors gives)) (NoAsOne errors.merged)
          (f ts) (picked_ends picks f ts) b (record {
            yes = λ v p q e i l j. judged b v p q e i l j;
            no = λ p q e j. let d : picked_ends picks f ts ≡ Nowhere = rw e refl in or_clash-by (Value ts) (picked_ends picks f ts) b.tokens.list _ q d j;
            refused = λ e. rw e refl;
          }) (asked-here (va ts) b true part (f ts) (h.here (record b { wanted = true }) (record { start = w.start; few = w.few }))) o m.run;
    }

  -- a part whose value is picked, as is known by the word
  pub picked-accepts : {F : Language Tok V} {still : Type 0} → PicksByWord picks F.stands_for gives →
      let spare : Type 0 = errors.takes_no_memory × still in
      Accepts part F spare → Accepts PickedOf (picked_language picks F) spare
  picked-accepts {F} by_word h = record {
    described = λ s.
        let d = h.described s in
        record {
          reads = picked-by F.ends F.value F.stands_for d.reads d.given by_word;
          only = picked-takes_only picks F.ends F.word F.follow d.only;
          given = picked-gives_only picks F.ends F.word F.follow d.only;
          each = λ u. picked-takes_each picks F.ends F.word F.follow (d.each u);
          decided = picked-decided picks F.ends F.refused_from d.decided;
          further = λ m. picked-further picks F.ends (d.further m);
        };
    moving = λ e. vetted-moves errors.merged errors.takes_no_memory (ByPick source errors gives) part (h.moving e);
    sparing = λ q t. vetted-spares errors.merged errors.takes_no_memory (ByPick source errors gives) part q.0 (h.sparing q t);
  }
