-- Primitives accept their languages.
-- Main laws: one-accepts, tested-accepts, any-accepts, just-accepts, empty-accepts, select-accepts. Read first: PrimitiveLanguage.antt.
use Rattle.std.proofs.Common.{◌≡◌, ◌+◌, ◌≤◌, ◌<◌, Bool, true, false, cond, Option, Some, None, List, [], ◌∷◌, ◌++◌, length, drop, refl, ap, subst, arith, inl, inr}
use Rattle.std.specs.Prelude.{slice_get, ⊤}
use Rattle.std.proofs.lemmas.Option.{slice_get_within}
use Rattle.chumsky_input.specs.declared.error.Error as error_trait
use Rattle.chumsky_input.specs.declared.inspector.Inspector as inspector_trait
use Rattle.chumsky_input.specs.declared.input.Input as input_trait
use Rattle.chumsky_input.specs.Wanted.{Wanted}
use Rattle.chumsky_input.specs.Outcome.{Meaning, Beginning, Outcome}
use Rattle.chumsky_parser.specs.Copied.{GivesCopy}
use Rattle.chumsky_parser.specs.Ending.{Ending, At, Nowhere, Refused, Ender, and_then, Ends, Within, IfValue, Answers, Reads}
use Rattle.chumsky_parser.specs.EndingLaws.{refuses-by, misses-by, wanted_value, wanting_value, given-by, given-here, copy-by, second-by, same_ends-by, weaker-by}
use Rattle.chumsky_parser.specs.Failure.{wanting}
use Rattle.chumsky_parser.specs.FurtherLaws.{never-below}
use Rattle.chumsky_parser.specs.Language.{Begins, TakesOnly, GivesOnly, TakesEach, EndsFurther, NeverRefused, Accepts}
use Rattle.chumsky_parser.specs.Memory.{NeverOutOfMemory}
use Rattle.chumsky_parser.specs.Progress.{Moves}
use Rattle.chumsky_parser.specs.ProgressLaws.{never}
use Rattle.chumsky_parser.specs.Words.{IsOne, then_ends}
use Rattle.chumsky_parser.specs.WordsLaws.{to-gives_only, empty-takes_only, empty-takes_each}
use Rattle.chumsky_primitive.specs.Any.{MeansAny, MeansAnyAt, CountsAs}
use Rattle.chumsky_primitive.specs.Empty.{MeansEmpty}
use Rattle.chumsky_primitive.specs.EndLanguage.{token_there, none_there}
use Rattle.chumsky_primitive.specs.Just.{has_members, is_member, MeansMember, MeansMemberFound, MeansMembers, MeansJust}
use Rattle.chumsky_primitive.specs.OneOf.{passes, MeansFound, MeansTested}
use Rattle.chumsky_primitive.specs.PrimitiveLanguage.{one_ends, OfFirst, one_language, literal_ends, Equals, literal_language, nothing_language, some_token}
use Rattle.chumsky_primitive.specs.PrimitivesMove.{any-moves, tested-moves, select-moves, just-moves}
use Rattle.chumsky_primitive.specs.PrimitivesSpare.{any-spares, empty-spares, tested-spares, select-spares, just-spares}
use Rattle.chumsky_primitive.specs.Select.{Picks, MeansSelect}

module _ {Tok V : Type 0} (test : Tok → Bool) (IsOf : Tok → V → Type 0) where
  one_only : TakesOnly (one_ends test) (IsOne test (λ t. ⊤))
  one_only = record { taken = one_taken }
    where
      by_test : (t : Tok) (ts rest : List Tok) (c : Bool) → test t ≡ c → cond c (At ts) Nowhere ≡ At rest → Begins (IsOne test (λ t. ⊤)) (t ∷ ts) rest
      by_test t ts rest true d e = let z : ts ≡ rest = cc e in record { word = t ∷ []; all = ap (λ u. t ∷ u) z; is = record { token = t; all = refl; passes = d; is = tt } }
      by_test t ts rest false d e = absurd (cc e)

      one_taken : (ts rest : List Tok) → one_ends test ts ≡ At rest → Begins (IsOne test (λ t. ⊤)) ts rest
      one_taken [] rest e = absurd (cc e)
      one_taken (t ∷ ts) rest e = by_test t ts rest (test t) refl e

  one_given : GivesOnly (one_ends test) (λ ts v. OfFirst (λ t. IsOf t v) ts) (λ w v. IsOne test (λ t. IsOf t v) w)
  one_given = record { given = at_first }
    where
      by_test : (t : Tok) (ts rest : List Tok) (v : V) (c : Bool) → IsOf t v → test t ≡ c → cond c (At ts) Nowhere ≡ At rest → Begins (λ w. IsOne test (λ t. IsOf t v) w) (t ∷ ts) rest
      by_test t ts rest v true i d e = let z : ts ≡ rest = cc e in record { word = t ∷ []; all = ap (λ u. t ∷ u) z; is = record { token = t; all = refl; passes = d; is = i } }
      by_test t ts rest v false i d e = absurd (cc e)

      at_first : (ts rest : List Tok) (v : V) → one_ends test ts ≡ At rest → OfFirst (λ t. IsOf t v) ts → Begins (λ w. IsOne test (λ t. IsOf t v) w) ts rest
      at_first [] rest v e i = absurd (cc e)
      at_first (t ∷ ts) rest v e i = by_test t ts rest v (test t) i refl e

  one_each : TakesEach (one_ends test) (IsOne test (λ t. ⊤)) (λ rest. ⊤)
  one_each = record { each = λ w rest i j. let p : test i.token ≡ true = i.passes in rw i.all (rw p (inl refl)) }

  one_decided : NeverRefused (one_ends test)
  one_decided [] e = absurd (cc e)
  one_decided (t ∷ ts) e = by_test (test t) e
    where
      by_test : (c : Bool) → cond c (At ts) Nowhere ≡ Refused → ⊥
      by_test true e = absurd (cc e)
      by_test false e = absurd (cc e)

  one_further : EndsFurther (one_ends test)
  one_further [] rest e = absurd (cc e)
  one_further (t ∷ ts) rest e = by_test (test t) e
    where
      by_test : (c : Bool) → cond c (At ts) Nowhere ≡ At rest → length rest < length (t ∷ ts)
      by_test true e = let z : ts ≡ rest = cc e in let l : length ts ≡ length rest = ap length z in omega (arith, l)
      by_test false e = absurd (cc e)

  -- what reads one token that passes, with a value of it
  pub one-accepts : {Cx St Er spare free : Type 0} (m : Meaning Tok Cx St Er V)
      → Reads m (one_ends test) (λ ts v. OfFirst (λ t. IsOf t v) ts) → Moves m → (spare → free → NeverOutOfMemory m)
      → Accepts m (one_language test IsOf free) spare
  one-accepts m h k q = record {
    described = λ s. record { reads = h; only = one_only; given = one_given; each = λ u. one_each; decided = never-below one_decided; further = λ d. one_further };
    moving = λ d. k;
    sparing = q;
  }

module _ {I Tok Sp Cu Er St Mk Cx V : Type 0} (source : input_trait.Ghosts I Cu Tok Sp) (IsOf : Tok → V → Type 0)
    (safe : Tok → Type 0) (errors : error_trait.Ghosts Er I Tok Sp)
    (states : inspector_trait.Ghosts St I Mk Tok Sp) where
  -- a token that passes a test, where any is taken
  any_here : (test : Tok → Bool) (b : Beginning Tok Cx states.Seen) → Within b
      → (o : Outcome V errors.Seen states.Seen) (t : Tok) (found : Option Tok)
      → slice_get b.tokens.list b.start ≡ Some t → test t ≡ true → found ≡ Some t
      → MeansAnyAt source IsOf safe errors states found b o
      → Answers (λ v. OfFirst (λ t. IsOf t v) (drop b.start b.tokens.list))
      (one_ends test (drop b.start b.tokens.list)) b.tokens.list o.verdict o.end
  any_here test b w o t None e d f m = absurd (cc f)
  any_here test b w o t (Some u) e d f (inl r) = refuses-by _ _ b.tokens.list o r
  any_here test b w o t (Some u) e d f (inr x) =
      let l : b.start < length b.tokens.list = slice_get_within b.tokens.list b.start t e in
      let z : b.start + 1 ≤ length b.tokens.list = omega (arith, l) in
      let ut : u ≡ t = cc f in
      let i : IfValue (IsOf u) x.value = wanted_value (IsOf u) b.wanted x.value x.is_value in
      let j : IfValue (IsOf t) x.value = subst (λ y. IfValue (IsOf y) x.value) ut i in
      rw (x.outcome, token_there b.tokens.list b.start t e, d) (refl, j, z)

  any_by : (b : Beginning Tok Cx states.Seen) → Within b → (o : Outcome V errors.Seen states.Seen) (found : Option Tok) → slice_get b.tokens.list b.start ≡ found
      → MeansAnyAt source IsOf safe errors states found b o
      → Answers (λ v. OfFirst (λ t. IsOf t v) (drop b.start b.tokens.list))
      (one_ends (λ t. true) (drop b.start b.tokens.list)) b.tokens.list o.verdict o.end
  any_by b w o None e m = misses-by _ _ b.tokens.list o (rw (none_there b.tokens.list b.start e) refl) m
  any_by b w o (Some t) e m = any_here (λ t. true) b w o t (Some t) e refl refl m

  -- `any`, `any_ref`
  pub any-accepts : Accepts (MeansAny {Cx = Cx} source IsOf safe errors states) (one_language (λ t. true) IsOf ((t : Tok) → safe t)) (errors.takes_no_memory × states.takes_no_memory)
  any-accepts =
      one-accepts (λ t. true) IsOf _
      (record { here = λ b w o m. any_by b w o (slice_get b.tokens.list b.start) refl m.by_token })
      (any-moves source IsOf safe errors states) (λ q free. any-spares source errors states q.0 IsOf safe free)

module _ {I Tok Sp Cu Er St Mk Cx : Type 0} (source : input_trait.Ghosts I Cu Tok Sp) (errors : error_trait.Ghosts Er I Tok Sp) (states : inspector_trait.Ghosts St I Mk Tok Sp) where
  module _ {S : Type 0} (seen : Tok → S) (safe : Tok → Type 0) (test : Tok → Bool) (what : List (Wanted Tok)) where
    found_by : (b : Beginning Tok Cx states.Seen) → Within b
        → (o : Outcome Tok errors.Seen states.Seen) (found : Option Tok) (p : Bool)
        → slice_get b.tokens.list b.start ≡ found → passes test found ≡ p
        → MeansFound source seen safe errors states what found p b o
        → Answers (λ v. OfFirst (λ t. CountsAs seen t v) (drop b.start b.tokens.list))
        (one_ends test (drop b.start b.tokens.list)) b.tokens.list o.verdict o.end
    found_by b w o (Some t) true e d m = any_here source (CountsAs seen) safe errors states test b w o t (slice_get b.tokens.list b.start) e d e m.by_token
    found_by b w o (Some t) false e d (inl r) = refuses-by _ _ b.tokens.list o r
    found_by b w o (Some t) false e d (inr (inl r)) = refuses-by _ _ b.tokens.list o r
    found_by b w o (Some t) false e d (inr (inr m)) = misses-by _ _ b.tokens.list o (rw (token_there b.tokens.list b.start t e, d) refl) m
    found_by b w o None true e d m = absurd (cc d)
    found_by b w o None false e d (inl r) = refuses-by _ _ b.tokens.list o r
    found_by b w o None false e d (inr (inl r)) = refuses-by _ _ b.tokens.list o r
    found_by b w o None false e d (inr (inr m)) = misses-by _ _ b.tokens.list o (rw (none_there b.tokens.list b.start e) refl) m

    -- `one_of`, `none_of`
    pub tested-accepts : Accepts (MeansTested {Cx = Cx} source seen safe errors states test what)
        (one_language test (CountsAs seen) ((t : Tok) → safe t)) (errors.takes_no_memory × states.takes_no_memory)
    tested-accepts =
        one-accepts test (CountsAs seen) _ (record { here = λ b w o m. found_by b w o _ _ refl refl m.by_token }) (tested-moves source seen safe errors states what test)
        (λ q free. tested-spares source errors states q.0 q.1 seen safe free test what)

-- `empty`
pub empty-accepts : {Tok Cx St Er spare : Type 0} → Accepts (MeansEmpty {Tok = Tok} {Cx = Cx} {St = St} {Er = Er}) nothing_language spare
empty-accepts {Tok = Tok} {Er = Er} = record {
  described = λ s. record {
    reads = record { here = λ b w o m. given-here Er (λ v. ⊤) b w (wanting b.wanted tt) (wanting_value (λ v. ⊤) tt tt b.wanted) o m };
    only = empty-takes_only;
    given = record { given = λ ts rest v e i. empty-takes_only.taken ts rest e };
    each = λ u. empty-takes_each;
    decided = never-below (λ ts e. absurd (cc e));
    further = never;
  };
  moving = never;
  sparing = λ q free. empty-spares;
}

module _ {I Tok Sp Cu Er St Mk Cx V : Type 0} (source : input_trait.Ghosts I Cu Tok Sp) (safe : Tok → Type 0)
    (errors : error_trait.Ghosts Er I Tok Sp) (states : inspector_trait.Ghosts St I Mk Tok Sp)
    (picks : Picks Tok Cx states.Seen V) where
  -- `select`, `select_ref`
  pub select-accepts : Accepts (MeansSelect source safe errors states picks) (some_token ((t : Tok) → safe t)) (errors.takes_no_memory × states.takes_no_memory)
  select-accepts = record { described = λ s. absurd (cc s); moving = λ d. select-moves source safe errors states picks; sparing = λ q free. select-spares source errors states q.0 q.1 safe free picks }

always : {X : Type 0} (x : Ending X) (P : Type 0) → Ends x (λ y. P) → P
always (At y) P i = i
always Nowhere P i = absurd i
always Refused P i = absurd i

module _ {Tok : Type 0} (equal : Tok → Tok → Bool) where
  more_members : (m : Tok) (ms ts : List Tok) → and_then (literal_ends equal ms) (literal_ends equal (m ∷ []) ts) ≡ literal_ends equal (m ∷ ms) ts
  more_members m ms [] = refl
  more_members m ms (t ∷ ts) = elim (equal m t) as (λ e. and_then (literal_ends equal ms) (cond e (At ts) Nowhere) ≡ cond e (literal_ends equal ms ts) Nowhere) [ true ↦ refl | false ↦ refl ]

  literal_alone : (ms ts : List Tok) → and_then (λ rest. At rest) (literal_ends equal ms ts) ≡ literal_ends equal ms ts
  literal_alone [] ts = refl
  literal_alone (m ∷ ms) [] = refl
  literal_alone (m ∷ ms) (t ∷ ts) =
      elim (equal m t) as (λ e. and_then (λ rest. At rest) (cond e (literal_ends equal ms ts) Nowhere) ≡ cond e (literal_ends equal ms ts) Nowhere) [ true ↦ literal_alone ms ts | false ↦ refl ]

  literal_taken : (ms ts rest : List Tok) → literal_ends equal ms ts ≡ At rest → Begins (Equals equal ms) ts rest
  literal_taken [] ts rest e = let z : ts ≡ rest = cc e in record { word = []; all = z; is = tt }
  literal_taken (m ∷ ms) [] rest e = absurd (cc e)
  literal_taken (m ∷ ms) (t ∷ ts) rest e = by_test (equal m t) (literal_taken ms ts rest) refl e
    where
      by_test : (c : Bool) → (literal_ends equal ms ts ≡ At rest → Begins (Equals equal ms) ts rest) → equal m t ≡ c
          → cond c (literal_ends equal ms ts) Nowhere ≡ At rest → Begins (Equals equal (m ∷ ms)) (t ∷ ts) rest
      by_test true h d g = let b = h g in record { word = t ∷ b.word; all = ap (λ u. t ∷ u) b.all; is = (d, b.is) }
      by_test false h d g = absurd (cc g)

  literal_only : (ms : List Tok) → TakesOnly (literal_ends equal ms) (Equals equal ms)
  literal_only ms = record { taken = literal_taken ms }

  literal_each : (ms w rest : List Tok) → Equals equal ms w → literal_ends equal ms (w ++ rest) ≡ At rest
  literal_each [] [] rest i = refl
  literal_each [] (t ∷ ts) rest i = absurd i
  literal_each (m ∷ ms) [] rest i = absurd i
  literal_each (m ∷ ms) (t ∷ ts) rest i = let e : equal m t ≡ true = i.0 in rw e (literal_each ms ts rest i.1)

  literal_decided : (ms : List Tok) → NeverRefused (literal_ends equal ms)
  literal_decided [] ts e = absurd (cc e)
  literal_decided (m ∷ ms) [] e = absurd (cc e)
  literal_decided (m ∷ ms) (t ∷ ts) e = by_test (equal m t) (literal_decided ms ts) e
    where
      by_test : (c : Bool) → (literal_ends equal ms ts ≡ Refused → ⊥) → cond c (literal_ends equal ms ts) Nowhere ≡ Refused → ⊥
      by_test true h g = h g
      by_test false h g = absurd (cc g)

  literal_further : (ms : List Tok) → has_members ms ≡ true → EndsFurther (literal_ends equal ms)
  literal_further [] n ts rest e = absurd (cc n)
  literal_further (m ∷ ms) n ts rest e = let b = literal_taken (m ∷ ms) ts rest e in with_first b.word ts rest b.all b.is
    where
      behind : {Tok : Type 0} (ws rest : List Tok) → length rest ≤ length (ws ++ rest)
      behind [] rest = omega arith
      behind (w ∷ ws) rest = let k = behind ws rest in omega (arith, k)

      with_first : (w ts rest : List Tok) → ts ≡ w ++ rest → Equals equal (m ∷ ms) w → length rest < length ts
      with_first [] ts rest a i = absurd i
      with_first (u ∷ us) ts rest a i = let l : length ts ≡ length ((u ∷ us) ++ rest) = ap length a in let k = behind us rest in omega (arith, l, k)

module _ {I Tok Sp Cu Er St Mk Cx : Type 0} (source : input_trait.Ghosts I Cu Tok Sp) (equal : Tok → Tok → Bool)
    (errors : error_trait.Ghosts Er I Tok Sp) (states : inspector_trait.Ghosts St I Mk Tok Sp) where
  member_by : (m : Tok) (b : Beginning Tok Cx states.Seen) → Within b
      → (o : Outcome (Unit {0}) errors.Seen states.Seen) (found : Option Tok) (p : Bool)
      → slice_get b.tokens.list b.start ≡ found → is_member equal m found ≡ p
      → MeansMemberFound source equal errors states m found p b o → Answers (λ v. ⊤) (literal_ends equal (m ∷ []) (drop b.start b.tokens.list)) b.tokens.list o.verdict o.end
  member_by m b w o (Some t) true e d x =
      let l : b.start < length b.tokens.list = slice_get_within b.tokens.list b.start t e in
      let z : b.start + 1 ≤ length b.tokens.list = omega (arith, l) in
      rw (x, token_there b.tokens.list b.start t e, d) (refl, tt, z)
  member_by m b w o (Some t) false e d (inl r) = refuses-by _ _ b.tokens.list o r
  member_by m b w o (Some t) false e d (inr x) = misses-by _ _ b.tokens.list o (rw (token_there b.tokens.list b.start t e, d) refl) x
  member_by m b w o None true e d x = absurd (cc d)
  member_by m b w o None false e d (inl r) = refuses-by _ _ b.tokens.list o r
  member_by m b w o None false e d (inr x) = misses-by _ _ b.tokens.list o (rw (none_there b.tokens.list b.start e) refl) x

  member_reads : (m : Tok) → Reads (MeansMember {Cx = Cx} source equal errors states m) (literal_ends equal (m ∷ [])) (λ ts v. ⊤)
  member_reads m = record { here = λ b w o x. elim x.by_token [ inl r ↦ refuses-by _ _ b.tokens.list o r | inr y ↦ member_by m b w o _ _ refl refl y ] }

  members_read : (ms : List Tok) → Reads (MeansMembers {Cx = Cx} source equal errors states ms) (literal_ends equal ms) (λ ts v. ⊤)
  members_read [] = given-by errors.Seen (λ v. ⊤) None tt
  members_read (m ∷ ms) =
      let f : Ender Tok = literal_ends equal (m ∷ []) in
      let g : Ender Tok = literal_ends equal ms in
      let Q : List Tok → Unit {0} → Type 0 = λ ts v. Ends (f ts) (λ rest. ⊤) in
      weaker-by _ (literal_ends equal (m ∷ ms)) Q
      (same_ends-by _ (then_ends f g) Q (second-by (MeansMember source equal errors states m) (MeansMembers source equal errors states ms) f g (λ ts v. ⊤) (λ ts v. ⊤) (member_reads m) (members_read ms))
      (literal_ends equal (m ∷ ms)) (more_members equal m ms)) (λ ts v. ⊤) (λ ts v i. tt)

  module _ {V : Type 0} (copies : V → Type 0) (safe : Type 0) (ms : List Tok) where
    just_reads : Reads (MeansJust {Cx = Cx} source equal errors states copies safe ms) (literal_ends equal ms) (λ ts. copies)
    just_reads =
        let f : Ender Tok = literal_ends equal ms in
        let Q : List Tok → V → Type 0 = λ ts v. Ends (f ts) (λ rest. copies v) in
        weaker-by _ f Q
        (same_ends-by _ (then_ends f (λ ts. At ts)) Q
        (second-by (MeansMembers source equal errors states ms) (GivesCopy copies safe) f (λ ts. At ts)
        (λ ts v. ⊤) (λ ts. copies) (members_read ms) (copy-by errors.Seen copies safe))
        f (literal_alone equal ms))
        (λ ts. copies) (λ ts v i. always (f ts) (copies v) i)

    -- `just`
    pub just-accepts : Accepts (MeansJust {Cx = Cx} source equal errors states copies safe ms) (literal_language equal ms copies safe) (errors.takes_no_memory × states.takes_no_memory)
    just-accepts = record {
      described = λ s. record {
        reads = just_reads;
        only = literal_only equal ms;
        given = to-gives_only (literal_ends equal ms) (Equals equal ms) (literal_only equal ms) copies;
        each = λ u. record { each = λ w rest i j. inl (literal_each equal ms w rest i) };
        decided = never-below (literal_decided equal ms);
        further = literal_further equal ms;
      };
      moving = just-moves source equal errors states copies safe ms;
      sparing = λ q free. just-spares source errors states q.0 q.1 equal copies safe free ms;
    }
