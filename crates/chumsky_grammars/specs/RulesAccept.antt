-- Each call of a rule accepts its language.
-- Main word: makes_of. Main law: call-accepts. Read first: Compiled.antt, RuleLanguage.antt, DecidingLaws.antt, Means.antt of chumsky_recursive.
use Rattle.std.proofs.Common.{◌≡◌, ℕ, zero, suc, Bool, false, Option, Some, None, List, [], ◌∷◌, ◌++◌, map, slice_get, refl, sym, subst, arith, inr}
use Rattle.std.proofs.lemmas.List.Elements.{Contains-append_left, Contains-append_right}
use Rattle.std.proofs.lemmas.Option.{slice_get-map}
use Rattle.std.specs.List.{Contains}
use Rattle.std.specs.Prelude.{option_map, IfSome}
use Rattle.chumsky_input.specs.declared.error.Error as error_trait
use Rattle.chumsky_input.specs.declared.inspector.Inspector as inspector_trait
use Rattle.chumsky_input.specs.declared.input.Input as input_trait
use Rattle.chumsky_input.specs.declared.stop.Stop.TheVariants.{TooDeep}
use Rattle.chumsky_input.specs.Outcome.{Meaning, EndsAfterStart}
use Rattle.chumsky_parser.specs.Chained.{Given}
use Rattle.chumsky_parser.specs.Choice.{FirstOf}
use Rattle.chumsky_parser.specs.ChoiceLanguage.{AcceptInOrder, last-accepts, next-accepts}
use Rattle.chumsky_parser.specs.Failure.{Stops}
use Rattle.chumsky_parser.specs.Language.{Language, Accepts, unsaid, of_unsaid}
use Rattle.chumsky_parser.specs.LanguageLaws.{fewer-accepts}
use Rattle.chumsky_combinator.specs.Optional.{OrNone}
use Rattle.chumsky_combinator.specs.OptionalLanguage.{or_not-accepts}
use Rattle.chumsky_choice.specs.Among.{FirstAmong}
use Rattle.chumsky_choice.specs.ChoiceLanguages.{among-accepts}
use Rattle.chumsky_items.specs.ListLanguage.{collects-accepts}
use Rattle.chumsky_items.specs.Repeating.{Repeats}
use Rattle.chumsky_items.specs.RepeatedLanguage.{repeated_language, repeated-accepts}
use Rattle.chumsky_items.specs.Separating.{Separates}
use Rattle.chumsky_items.specs.SeparatedLanguage.{separated_language, separated-accepts}
use Rattle.chumsky_judge.specs.Not.{MeansNot}
use Rattle.chumsky_judge.specs.JudgedLanguage.{not-accepts, and_is-accepts, rewind-accepts}
use Rattle.chumsky_rules.specs.declared.kinds.NodeKind.{NodeKind}
use Rattle.chumsky_rules.specs.declared.kinds.NodeKind.TheVariants as kind
use Rattle.chumsky_rules.specs.Tables.{Tables}
use Rattle.chumsky_recursive.specs.Means.{Acts, AreThose, Values, VettedOrNone, bounds_of, in_each_run, for_a_value, waited, is_leaf, waits_for, kind_means, known_means, node_means, body_means, call_means}
use Rattle.chumsky_recursive.specs.MeansLaws.{ActsEnd, waited-ends, node-ends, call-ends}
use Rattle.chumsky_grammars.specs.Expression.{Expression, Leaf, Call, Then, Or, Fail, Map, TryMap, Optional, Repeated, Separated, Not, And, Ahead, Unsaid, choice_of}
use Rattle.chumsky_grammars.specs.Compiled.{kind_expression, known_expression, node_expression, body_expression, expressions_of}
use Rattle.chumsky_grammars.specs.Deciding.{tried_parts}
use Rattle.chumsky_grammars.specs.DecidingLaws.{RulesByWord, JudgesDecide, tried-accepts}
use Rattle.chumsky_grammars.specs.RuleLanguage.{Makes, tried_language, expression_language, body_language, too_deep, rule_language}
use Rattle.chumsky_grammars.specs.MadeLanguages.{in_memory-accepts, waited-accepts, made-accepts, pair-accepts}

-- what these actions make of values, where there is memory; and what those that may refuse make of a word, where that is said
abbrev pub makes_of : {Tok Cx St Er V : Type 0} → Acts Tok Cx St Er V → Option (ℕ → List Tok → Option V) → Makes Tok V
makes_of a picks =
    record {
      pair = λ f p v. a.pairs f p (Some v);
      map = λ f v w. a.maps f v (Some w);
      option = λ o v. a.options o (Some v);
      unit = λ v. a.units tt (Some v);
      list = λ vs v. a.lists vs (Some v);
      picks = picks;
    }

-- each run of these calls may take memory
abbrev CallsTakeMemory : {Tok V : Type 0} → (ℕ → Language Tok V) → Type 0
CallsTakeMemory called = (r : ℕ) → (called r).takes_no_memory → ⊥

tried_takes : {Tok V : Type 0} (picks : Option (ℕ → List Tok → Option V)) (f : ℕ) (F : Language Tok V) → (tried_language picks f F).takes_no_memory → ⊥
tried_takes (Some p) f F t = t
tried_takes None f F t = t

module _ {Tok V : Type 0} (makes : Makes Tok V) (leaf : ℕ → Language Tok V) where
  module _ (called : ℕ → Language Tok V) (in_calls : CallsTakeMemory called) where
    -- so each run of an expression
    takes_memory : (e : Expression) → (expression_language makes leaf called e).takes_no_memory → ⊥
    takes_memory (Leaf n) t = t
    takes_memory (Call r) t = in_calls r t
    takes_memory (Then e f n) t = t
    takes_memory (Or e f) t = takes_memory e t.0
    takes_memory Fail t = t
    takes_memory (Map e f) t = t
    takes_memory (TryMap e f) t = tried_takes makes.picks f (expression_language makes leaf called e) t
    takes_memory (Optional e) t = t
    takes_memory (Repeated e least most) t = t
    takes_memory (Separated e f config) t = t
    takes_memory (Not e) t = t
    takes_memory (And e f) t = takes_memory e t.0
    takes_memory (Ahead e) t = takes_memory e t
    takes_memory Unsaid t = t

    body_takes : (body : Option Expression) → (body_language makes leaf called body).takes_no_memory → ⊥
    body_takes None t = t
    body_takes (Some e) t = takes_memory e t

  -- and each run of a rule
  calls_take : (rules : List Expression) (more : ℕ) → CallsTakeMemory (rule_language makes leaf rules more)
  calls_take rules zero r t = t
  calls_take rules (suc more) r t = body_takes (rule_language makes leaf rules more) (calls_take rules more) (slice_get rules r) t

module _ {Tok Cx St Er V : Type 0} where
  -- a call where none may be made
  too_deep-accepts : {spare : Type 0} → Accepts (Stops {Tok = Tok} {Cx = Cx} {St = St} {Er = Er} {V = V} TooDeep) too_deep spare
  too_deep-accepts = record {
    described = λ s. record {
      reads = record { here = λ b w o m. rw m (inr refl) };
      only = record { taken = λ ts rest e. absurd (cc e) };
      given = record { given = λ ts rest v e x. absurd x };
      each = λ u. record { each = λ w rest x f. absurd x };
      decided = λ ts i e. absurd (omega (arith, i));
      further = λ e ts rest x. absurd (cc x);
    };
    moving = λ e b o m y. absurd (rw m at y);
    sparing = λ q t. absurd t;
  }

-- errors and states take no memory
abbrev Spare : {I Tok Sp Er St Mk : Type 0} → error_trait.Ghosts Er I Tok Sp → inspector_trait.Ghosts St I Mk Tok Sp → Type 0
Spare errors states = errors.takes_no_memory × states.takes_no_memory

module _ {I Tok Sp Cu Er St Mk Cx V : Type 0} (source : input_trait.Ghosts I Cu Tok Sp) (errors : error_trait.Ghosts Er I Tok Sp) (states : inspector_trait.Ghosts St I Mk Tok Sp) where
  module _ (a : Acts Tok Cx states.Seen errors.Seen V) (picks : Option (ℕ → List Tok → Option V)) (leaf : ℕ → Language Tok V) (ends : ActsEnd a) (leaves : (n : ℕ) → Accepts (a.leaf n) (leaf n) (Spare errors states)) where
    module _ (call : ℕ → Meaning Tok Cx states.Seen errors.Seen V) (called : ℕ → Language Tok V) (call_ends : (r : ℕ) → EndsAfterStart (call r))
        (calls : (r : ℕ) → Accepts (call r) (called r) (Spare errors states))
        (in_calls : CallsTakeMemory called) where
      abbrev of : Expression → Language Tok V
      of = expression_language (makes_of a picks) leaf called

      abbrev IsOf : Expression → Meaning Tok Cx states.Seen errors.Seen V → Type 0
      IsOf e m = Accepts m (of e) (Spare errors states)

      -- each judge in it decides by the word of its part, where it is said what it makes of words
      abbrev Decides : Expression → Type 0
      Decides e = (q : ℕ × Expression) → Contains (tried_parts e) q → IfSome picks (λ p. RulesByWord (p q.0) (of q.1).stands_for (a.tries q.0))

      first_decides : (e f : Expression) (rest : List (ℕ × Expression)) → tried_parts f ≡ tried_parts e ++ rest → Decides f → Decides e
      first_decides e f rest s d q i = d q (subst (λ l. Contains l q) (sym s) (Contains-append_left (tried_parts e) rest q i))

      last_decides : (e f : Expression) (front : List (ℕ × Expression)) → tried_parts f ≡ front ++ tried_parts e → Decides f → Decides e
      last_decides e f front s d q i = d q (subst (λ l. Contains l q) (sym s) (Contains-append_right front (tried_parts e) q i))

      module _ (sub : ℕ → Expression) (part last : ℕ → Meaning Tok Cx states.Seen errors.Seen V) (part_ends : (n : ℕ) → EndsAfterStart (part n)) (last_ends : (n : ℕ) → EndsAfterStart (last n))
          (parts : (n : ℕ) → Decides (sub n) → IsOf (sub n) (part n)) (lasts : (n : ℕ) → Decides (sub n) → IsOf (sub n) (last n)) where
        in_order : (n : ℕ) (ns : List ℕ) → Decides (choice_of (map sub (n ∷ ns))) → AcceptInOrder states.mark states.back {safe = states.takes_no_memory} {spare = Spare errors states} (λ q. q.1) (part n)
            (map part ns) (of (choice_of (map sub (n ∷ ns))))
        in_order n [] d = last-accepts states.mark states.back (λ q. q.1) (part n) (parts n d)
        in_order n (m ∷ ns) d =
            let e : Expression = choice_of (map sub (m ∷ ns)) in
            next-accepts states.mark states.back (λ q. q.1) (part n) (parts n (first_decides (sub n) (Or (sub n) e) (tried_parts e) refl d)) (part m) (map part ns)
            (in_order m ns (last_decides e (Or (sub n) e) (tried_parts (sub n)) refl d))

        choice_accepts : (ns : List ℕ) → Decides (choice_of (map sub ns)) → IsOf (choice_of (map sub ns)) (FirstAmong source errors states (map part ns))
        choice_accepts [] d = in_memory-accepts (FirstAmong source errors states []) (among-accepts source errors states part (λ n. unsaid) (λ n. of_unsaid) [])
        choice_accepts (n ∷ ns) d =
            fewer-accepts (FirstAmong source errors states (map part (n ∷ ns))) (FirstOf states.mark states.back states.takes_no_memory (part n) (map part ns)) (λ b o m. m.cases)
            (of (choice_of (map sub (n ∷ ns)))) (in_order n ns d).first_of

        -- a part, first or last, of a node of two
        two_parts : (n m : ℕ) (f : Expression) → tried_parts f ≡ tried_parts (sub n) ++ tried_parts (sub m) → Decides f → Decides (sub n) × Decides (sub m)
        two_parts n m f s d = (first_decides (sub n) f (tried_parts (sub m)) s d, last_decides (sub m) f (tried_parts (sub n)) s d)

        try_accepts : (n f : ℕ) → Decides (TryMap (sub n) f) → IsOf (TryMap (sub n) f) (VettedOrNone errors.merged (a.tries_lack f) (a.tries f) (part n))
        try_accepts n f d = by_picks picks (d (f, sub n) (zero, omega arith, refl))
          where
            by_picks : (p : Option (ℕ → List Tok → Option V)) → IfSome p (λ x. RulesByWord (x f) (of (sub n)).stands_for (a.tries f))
                → Accepts (VettedOrNone errors.merged (a.tries_lack f) (a.tries f) (part n)) (tried_language p f (of (sub n))) (Spare errors states)
            by_picks (Some p) h =
                tried-accepts source errors (a.tries_lack f) (a.tries f) (part n) (p f) h
                (parts n (last_decides (sub n) (TryMap (sub n) f) ((f, sub n) ∷ []) refl d))
            by_picks None h = of_unsaid

        kind_accepts : (k : NodeKind) → Decides (kind_expression sub k) → IsOf (kind_expression sub k) (kind_means source errors states a call part last k)
        kind_accepts (kind.Leaf n) d = in_memory-accepts (a.leaf n) (leaves n)
        kind_accepts (kind.Rule r) d = calls r
        kind_accepts (kind.Then n m f) d =
            let t = two_parts n m (Then (sub n) (sub m) f) refl d in
            pair-accepts (part n) (last m) (a.pairs f) (part_ends n) (last_ends m) (parts n t.0) (lasts m t.1)
        kind_accepts (kind.Choice v) d = choice_accepts v.items d
        kind_accepts (kind.Map n f) d = made-accepts (a.maps f) (last n) (lasts n d)
        kind_accepts (kind.Repeated n least most) d =
            let step = Repeats states.mark states.back states.takes_no_memory (part n) false least most in
            made-accepts a.lists (Values step) (collects-accepts step (Given (Some 0)) (repeated_language (of (sub n)) least most) AreThose ⊥
            (repeated-accepts states.mark states.back states.takes_no_memory (part n) false least most (of (sub n)) (part_ends n) (parts n d)))
        kind_accepts (kind.SeparatedBy n m config) d =
            let step = Separates states.mark states.back states.takes_no_memory (part m) (part n) (bounds_of config) in
            let t = two_parts n m (Separated (sub n) (sub m) config) refl d in
            made-accepts a.lists (Values step) (collects-accepts step (Given (Some 0)) (separated_language (of (sub m)) (of (sub n)) (bounds_of config)) AreThose ⊥
            (separated-accepts states.mark states.back states.takes_no_memory (part m) (part n) (bounds_of config) (of (sub m)) (of (sub n)) (part_ends m) (part_ends n) (parts m t.1) (parts n t.0)))
        kind_accepts (kind.OrNot n) d =
            made-accepts a.options (OrNone states.mark states.back states.takes_no_memory (part n)) (or_not-accepts states.mark states.back (λ q. q.1) (part n) (parts n d))
        kind_accepts (kind.Not n) d = made-accepts a.units (MeansNot source errors states (part n)) (not-accepts source errors states (part n) (parts n d))
        kind_accepts (kind.AndIs n m) d =
            let t = two_parts n m (And (sub n) (sub m)) refl d in
            and_is-accepts states.mark states.back (λ q. q.1) (part n) (part m) (parts n t.0) (parts m t.1)
        kind_accepts (kind.Rewind n) d = rewind-accepts errors.merged (part n) (parts n d)
        kind_accepts (kind.TryMap n f) d = try_accepts n f d

      module _ (nodes : List NodeKind) where
        known_accepts : (sub : ℕ → Expression) (part : ℕ → Meaning Tok Cx states.Seen errors.Seen V) → ((n : ℕ) → EndsAfterStart (part n)) → ((n : ℕ) → Decides (sub n) → IsOf (sub n) (part n))
            → (k : Option NodeKind) → Decides (known_expression sub k) → IsOf (known_expression sub k) (known_means source errors states a nodes call part k)
        known_accepts sub part ends parts None d = of_unsaid
        known_accepts sub part ends parts (Some k) d =
            let waits : ℕ → Bool = waits_for (is_leaf nodes) k in
            kind_accepts sub (waited in_each_run waits part) (waited for_a_value waits part) (waited-ends in_each_run waits part ends) (waited-ends for_a_value waits part ends)
            (λ n s. waited-accepts (part n) in_each_run (waits n) (takes_memory (makes_of a picks) leaf called in_calls (sub n)) (parts n s))
            (λ n s. waited-accepts (part n) for_a_value (waits n) (takes_memory (makes_of a picks) leaf called in_calls (sub n)) (parts n s)) k d

        node_accepts : (bound n : ℕ) → Decides (node_expression nodes bound n) → IsOf (node_expression nodes bound n) (node_means source errors states a call nodes bound n)
        unfolding node_means
        node_accepts zero n d = of_unsaid
        node_accepts (suc bound) n d = known_accepts (node_expression nodes bound) (node_means source errors states a call nodes bound)
            (node-ends source errors states a ends call call_ends nodes bound) (node_accepts bound) (slice_get nodes n) d

        body_accepts : (body : Option (Option ℕ)) → IfSome (option_map (body_expression nodes) body) Decides
            → Accepts (body_means source errors states a call nodes body) (body_language (makes_of a picks) leaf called (option_map (body_expression nodes) body)) (Spare errors states)
        body_accepts None d = of_unsaid
        body_accepts (Some None) d = of_unsaid
        body_accepts (Some (Some n)) d = node_accepts (suc n) n d

    module _ (g : Tables) where
      abbrev called_rule : ℕ → ℕ → Language Tok V
      called_rule = rule_language (makes_of a picks) leaf (expressions_of g)

      -- a call of a rule, under whatever limit
      pub call-accepts : ((n r : ℕ) → IfSome (slice_get (expressions_of g) r) (JudgesDecide (makes_of a picks) leaf (expressions_of g) a.tries picks n))
          → (more r : ℕ) → Accepts (call_means source errors states a g more r) (called_rule more r) (Spare errors states)
      unfolding call_means
      call-accepts decide zero r = too_deep-accepts
      call-accepts decide (suc more) r =
          rw (slice_get-map (body_expression g.nodes) g.bodies r)
          (body_accepts (call_means source errors states a g more) (called_rule more) (call-ends source errors states a ends g more) (call-accepts decide more)
          (calls_take (makes_of a picks) leaf (expressions_of g) more) g.nodes (slice_get g.bodies r)
          (rw (slice_get-map (body_expression g.nodes) g.bodies r) at (decide more r)))
