-- The language of a part whose value has to pass a test, where whether it does is known by the word.
-- Main words: tested_language, TestsByWord. Law: tested-accepts. Read first: Picked.antt, PickedLaws.antt.
use Rattle.std.proofs.Common.{◌≡◌, ◌≤◌, Bool, true, false, Option, Some, None, List, length, drop, refl, sym, ◌∙◌, ap, subst}
use Rattle.chumsky_input.specs.declared.error.Error as error_trait
use Rattle.chumsky_input.specs.declared.input.Input as input_trait
use Rattle.chumsky_input.specs.Outcome.{Meaning, Beginning, Outcome}
use Rattle.chumsky_parser.specs.Chained.{Asked}
use Rattle.chumsky_parser.specs.Ending.{At, Nowhere, Ender, IfValue, Answers, Reads}
use Rattle.chumsky_parser.specs.EndingLaws.{asked-here, wanting_value}
use Rattle.chumsky_parser.specs.Language.{TakesOnly, GivesOnly, TakesEach, Language, Accepts}
use Rattle.chumsky_parser.specs.Words.{taken_of}
use Rattle.chumsky_parser.specs.WordsLaws.{taken_word}
use Rattle.chumsky_judge.specs.Picked.{if_picked, IsPick, picked_ends}
use Rattle.chumsky_judge.specs.PickedLaws.{picked-at, picked-decided, picked-further, picked-takes_each}
use Rattle.chumsky_judge.specs.Judged.{NoAsOne}
use Rattle.chumsky_judge.specs.JudgedEndings.{or_clash-by, or_lacks-by, judged-here}
use Rattle.chumsky_judge.specs.JudgedMoves.{vetted-moves}
use Rattle.chumsky_judge.specs.JudgedSpares.{vetted-spares}
use Rattle.chumsky_judge.specs.Vetted.{OnRuling, Vetting, Vetted, ByTest, tested}

-- something, where this is true
abbrev pub if_true : Bool → Option (Unit {0})
if_true true = Some tt
if_true false = None

module _ {Tok : Type 0} (tests : List Tok → Bool) where
  -- something is picked of a word that passes
  abbrev pub passing : List Tok → Option (Unit {0})
  passing w = if_true (tests w)

  -- the words of the part that pass
  abbrev pub tested_language : {V : Type 0} → Language Tok V → Language Tok V
  tested_language F = record {
    said = F.said;
    ends = picked_ends passing F.ends;
    value = F.value;
    word = λ w. F.word w × (tests w ≡ true);
    stands_for = λ w v. F.stands_for w v × (tests w ≡ true);
    follow = F.follow;
    unambiguous = F.unambiguous;
    refused_from = F.refused_from;
    moves = F.moves;
    takes_no_memory = F.takes_no_memory;
  }

  -- of each value of a word the test says what is said of the word
  abbrev pub TestsByWord : {V : Type 0} → (List Tok → V → Type 0) → (V → Bool → Type 0) → Type 0
  TestsByWord {V} stands_for gives = (w : List Tok) (v : V) (x : Bool) → stands_for w v → gives v x → x ≡ tests w

  is_passing : (b : Bool) → IsPick (if_true b) → b ≡ true
  is_passing true i = refl
  is_passing false i = absurd i

  passes_is : (w : List Tok) → tests w ≡ true → IsPick (passing w)
  passes_is w e = rw e tt

  module _ (f : Ender Tok) (P follow : List Tok → Type 0) where
    tested-takes_only : TakesOnly f P → TakesOnly (picked_ends passing f) (λ w. P w × (tests w ≡ true))
    tested-takes_only h = record {
      taken = λ ts rest e.
          let b = picked-at passing f ts rest e in
          let k = h.taken ts rest b.0 in
          record { word = k.word; all = k.all; is = (k.is, subst (λ w. tests w ≡ true) (taken_word ts rest k.word k.all) (is_passing (tests (taken_of ts rest)) b.1)) };
    }

    tested-gives_only : {V : Type 0} (va of : List Tok → V → Type 0) → GivesOnly f va of → GivesOnly (picked_ends passing f) va (λ w v. of w v × (tests w ≡ true))
    tested-gives_only va of h = record {
      given = λ ts rest v e i.
          let b = picked-at passing f ts rest e in
          let k = h.given ts rest v b.0 i in
          record { word = k.word; all = k.all; is = (k.is, subst (λ w. tests w ≡ true) (taken_word ts rest k.word k.all) (is_passing (tests (taken_of ts rest)) b.1)) };
    }

    tested-takes_each : TakesEach f P follow → TakesEach (picked_ends passing f) (λ w. P w × (tests w ≡ true)) follow
    tested-takes_each h = record { each = λ w rest p k. (picked-takes_each passing f P follow h).each w rest (p.0, passes_is w p.1) k }

module _ {I Tok Sp Cu Er Cx St V : Type 0} (source : input_trait.Ghosts I Cu Tok Sp)
    (errors : error_trait.Ghosts Er I Tok Sp) (part : Meaning Tok Cx St errors.Seen V) (gives : V → Bool → Type 0)
    (tests : List Tok → Bool) where
  abbrev TestedOf : Meaning Tok Cx St errors.Seen V
  TestedOf = Vetted errors.merged errors.takes_no_memory (ByTest source errors gives) part

  module _ (f : Ender Tok) (va of : List Tok → V → Type 0) (h : Reads part f va) (k : GivesOnly f va of) (by_word : TestsByWord tests of gives) where
    abbrev ends : Ender Tok
    ends = picked_ends (passing tests) f

    tested_word : (ts rest : List Tok) (v : V) (x : Bool) → f ts ≡ At rest → va ts v → gives v x → x ≡ tests (taken_of ts rest)
    tested_word ts rest v x e i g =
        let b = k.given ts rest v e i in
        by_word b.word v x b.is g ∙ ap tests (sym (taken_word ts rest b.word b.all))

    -- the answer of what was tested
    ruled : (b : Beginning Tok Cx St) (v : V) (p : Outcome V errors.Seen St) (o : Outcome V errors.Seen St) (x : Bool) (s : St)
        → f (drop b.start b.tokens.list) ≡ At (drop p.end b.tokens.list) → va (drop b.start b.tokens.list) v
        → p.end ≤ length b.tokens.list
        → x ≡ tests (taken_of (drop b.start b.tokens.list) (drop p.end b.tokens.list))
        → OnRuling errors.merged errors.takes_no_memory (tested source errors gives x b p.end v) s b p o
        → Answers (va (drop b.start b.tokens.list)) (ends (drop b.start b.tokens.list)) b.tokens.list o.verdict o.end
    ruled b v p o true s e i l q m =
        let ts : List Tok = drop b.start b.tokens.list in
        let rest : List Tok = drop p.end b.tokens.list in
        let n : if_picked (passing tests (taken_of ts rest)) rest ≡ At rest = subst (λ y. if_picked (if_true y) rest ≡ At rest) q refl in
        let d : ends ts ≡ At rest = rw e n in
        or_clash-by (va ts) (ends ts) b.tokens.list _ o (d, wanting_value (va ts) v i b.wanted, l) m
    ruled b v p o false s e i l q m =
        let ts : List Tok = drop b.start b.tokens.list in
        let rest : List Tok = drop p.end b.tokens.list in
        let n : if_picked (passing tests (taken_of ts rest)) rest ≡ Nowhere = subst (λ y. if_picked (if_true y) rest ≡ Nowhere) q refl in
        let d : ends ts ≡ Nowhere = rw e n in
        or_lacks-by (va ts) (ends ts) b.tokens.list _ o d m

    judged : (b : Beginning Tok Cx St) (v : Option V) (p : Outcome V errors.Seen St) (o : Outcome V errors.Seen St)
        → f (drop b.start b.tokens.list) ≡ At (drop p.end b.tokens.list) → IfValue (va (drop b.start b.tokens.list)) v
        → p.end ≤ length b.tokens.list
        → Vetting errors.merged errors.takes_no_memory (ByTest source errors gives) b v p o
        → Answers (va (drop b.start b.tokens.list)) (ends (drop b.start b.tokens.list)) b.tokens.list o.verdict o.end
    judged b (Some v) p o e i l m =
        let n = m.2 in
        let r : OnRuling errors.merged errors.takes_no_memory (tested source errors gives n.passes b p.end v) m.1 b p o =
        subst (λ y. OnRuling errors.merged errors.takes_no_memory y m.1 b p o) n.answer m.3 in
        ruled b v p o n.passes m.1 e i l (tested_word (drop b.start b.tokens.list) (drop p.end b.tokens.list) v n.passes e i n.says) r
    judged b None p o e i l m = absurd m

    tested-by : Reads TestedOf ends va
    tested-by = record {
      here = λ b w o m.
          let ts : List Tok = drop b.start b.tokens.list in
          judged-here (va ts) (va ts) (Asked true part) (Vetting errors.merged errors.takes_no_memory (ByTest source errors gives)) (NoAsOne errors.merged) (f ts) (ends ts) b (record {
            yes = λ v p q e i l j. judged b v p q e i l j;
            no = λ p q e j. let d : ends ts ≡ Nowhere = rw e refl in or_clash-by (va ts) (ends ts) b.tokens.list _ q d j;
            refused = λ e. rw e refl;
          }) (asked-here (va ts) b true part (f ts) (h.here (record b { wanted = true }) (record { start = w.start; few = w.few }))) o m.run;
    }

  -- a part whose value is tested, as is known by the word
  pub tested-accepts : {F : Language Tok V} {still : Type 0} → TestsByWord tests F.stands_for gives →
      let spare : Type 0 = errors.takes_no_memory × still in
      Accepts part F spare → Accepts TestedOf (tested_language tests F) spare
  tested-accepts {F} by_word h = record {
    described = λ s.
        let d = h.described s in
        record {
          reads = tested-by F.ends F.value F.stands_for d.reads d.given by_word;
          only = tested-takes_only tests F.ends F.word F.follow d.only;
          given = tested-gives_only tests F.ends F.word F.follow F.value F.stands_for d.given;
          each = λ u. tested-takes_each tests F.ends F.word F.follow (d.each u);
          decided = picked-decided (passing tests) F.ends F.refused_from d.decided;
          further = λ m. picked-further (passing tests) F.ends (d.further m);
        };
    moving = λ e. vetted-moves errors.merged errors.takes_no_memory (ByTest source errors gives) part (h.moving e);
    sparing = λ q t. vetted-spares errors.merged errors.takes_no_memory (ByTest source errors gives) part q.0 (h.sparing q t);
  }
