-- What turns over a list of parts leave.
use Rattle.std.proofs.Common.{◌≡◌, ℕ, zero, suc, ◌<◌, ◌≤◌, ◌+◌, ◌||◌, Bool, true, false, Option, Some, None, option_map, ◌⊎◌, subst, append_assoc}
use Rattle.std.proofs.Common.{List, [], ◌∷◌, ◌++◌, refl, sym, ◌∙◌, ap, Result, Ok, Err, arith, inl, inr, map, length, take, drop}
use Rattle.std.proofs.Math.ListN.{get_or, set}
use Rattle.std.proofs.lemmas.List.{append-nil, drop_all, length-map, take_all, drop_more, drop-set-lt, take_more_set, get_or-map}
use Rattle.chumsky_input.specs.declared.stop.Fault.{Fault}
use Rattle.chumsky_input.specs.declared.stop.Fault.TheVariants as fault
use Rattle.chumsky_input.specs.declared.stop.Stop.TheVariants.{Memory}
use Rattle.chumsky_input.specs.Outcome.{Meaning, Beginning, Outcome, Verdict, Yes, No, Halt, Clash}
use Rattle.chumsky_input.specs.Held.{Held}
use Rattle.chumsky_input.specs.Run.{Ran, begin, answer}
use Rattle.chumsky_parser.specs.Chained.{Chained, Follows, Given, both, from}
use Rattle.chumsky_parser.proofs.ChainedLemmas.{ran-given, ran-weaker, chained, failed}
use Rattle.chumsky_parser.specs.Failure.{wanting}
use Rattle.chumsky_parser.proofs.FailureLemmas.{ran-halts}
use Rattle.chumsky_set.specs.AnyOrder.{Slot, Missing, still, all_still, with_first, each_part, Turns}
use Rattle.chumsky_set.specs.Passes.{Lessens}

-- the values so far, and those that follow
abbrev joined : {Y : Type 0} → Option (List Y) → Option (List Y) → Option (List Y)
joined ys zs = option_map (λ p. p.0 ++ p.1) (both ys zs)

-- one more value after these
abbrev one_more : {Y : Type 0} → Option (List Y) → Option Y → Option (List Y)
one_more ys y = option_map (λ p. p.0 ++ p.1 ∷ []) (both ys y)

-- an answer of what follows, with the values so far before its own, and with a value before its own
abbrev onto : {Y : Type 0} → Option (List Y) → Result (Option (List Y)) Fault → Result (Option (List Y)) Fault
onto ys (Ok zs) = Ok (joined ys zs)
onto ys (Err f) = Err f

abbrev after_first : {Y : Type 0} → Option Y → Result (Option (List Y)) Fault → Result (Option (List Y)) Fault
after_first y (Ok ys) = Ok (with_first y ys)
after_first y (Err f) = Err f

-- no part gives no value, or none is wanted
abbrev Nothing : {Y : Type 0} → Option (List Y) → Option (List Y) → Type 0
Nothing empty values = (empty ≡ Some []) ⊎ ((empty ≡ None) × (values ≡ None))

module _ {Y : Type 0} where
  more_joined : (ys : Option (List Y)) (y : Option Y) (zs : Option (List Y)) → joined ys (with_first y zs) ≡ joined (one_more ys y) zs
  more_joined (Some ys) (Some y) (Some zs) = ap Some (sym (append_assoc ys (y ∷ []) zs))
  more_joined (Some ys) (Some y) None = refl
  more_joined (Some ys) None zs = refl
  more_joined None y zs = refl

  more_onto : (ys : Option (List Y)) (y : Option Y) (r : Result (Option (List Y)) Fault) → onto ys (after_first y r) ≡ onto (one_more ys y) r
  more_onto ys y (Ok zs) = ap Ok (more_joined ys y zs)
  more_onto ys y (Err f) = refl

  more_nothing : (empty ys : Option (List Y)) (y : Option Y) → Nothing empty ys → Nothing empty (one_more ys y)
  more_nothing empty ys y (inl e) = inl e
  more_nothing empty (Some ys) y (inr e) = let no : ⊥ = cc e.1 in absurd no
  more_nothing empty None y (inr e) = inr (e.0, refl)

  end_joined : (empty ys : Option (List Y)) → Nothing empty ys → joined ys empty ≡ ys
  end_joined empty (Some ys) (inl e) = rw e (ap Some (append-nil ys))
  end_joined empty None (inl e) = refl
  end_joined empty (Some ys) (inr e) = let no : ⊥ = cc e.1 in absurd no
  end_joined empty None (inr e) = refl

  begin_onto : (r : Result (Option (List Y)) Fault) → onto (Some []) r ≡ r
  begin_onto (Ok (Some ys)) = refl
  begin_onto (Ok None) = refl
  begin_onto (Err f) = refl

module _ {X Tok Cx St Er V Y : Type 0} (turn : X → Slot V → Meaning Tok Cx St Er Y) where
  follows_none : (y : Option Y) (v : Verdict (List Y) Er) (b : Beginning Tok Cx St) (p o : Outcome (List Y) Er St) (w : Option (List Y)) → ((u : Option (List Y)) → v ≡ Yes u → u ≡ None)
      → Follows v (λ ys. Given (with_first y ys)) b p o → o.verdict ≡ Yes w → w ≡ None
  follows_none y (Yes ys) b p o w h f e = let told : o.verdict ≡ Yes (with_first y ys) = cc (f.1, f.2) in without y ys w o.verdict (h ys refl) told e
    where
      without : (y : Option Y) (ys w : Option (List Y)) (v : Verdict (List Y) Er) → ys ≡ None → v ≡ Yes (with_first y ys) → v ≡ Yes w → w ≡ None
      without (Some y) ys w v n k l = let told : v ≡ Yes None = rw n at k in cc (told, l)
      without None ys w v n k l = cc (k, l)
  follows_none y No b p o w h f e = let no : ⊥ = cc (f, e) in absurd no
  follows_none y (Halt s) b p o w h f e = let no : ⊥ = cc (f, e) in absurd no
  follows_none y (Clash x) b p o w h f e = let no : ⊥ = cc (f, e) in absurd no

  follows_part : (part : Meaning Tok Cx St Er (List Y)) (v : Verdict Y Er) (b : Beginning Tok Cx St) (p : Outcome Y Er St) (o : Outcome (List Y) Er St) (w : Option (List Y))
      → ((c : Beginning Tok Cx St) (q : Outcome (List Y) Er St) (u : Option (List Y)) → part c q → q.verdict ≡ Yes u → u ≡ None)
      → Follows v (λ y. Chained part (λ ys. Given (with_first y ys))) b p o → o.verdict ≡ Yes w → w ≡ None
  follows_part part (Yes y) b p o w h f e =
      let k : f.0.verdict ≡ Yes w = cc (f.2, e) in
      follows_none y f.1.first.verdict (from b p) f.1.first f.0 w (λ u d. h (from b p) f.1.first u f.1.meant d) f.1.follows k
  follows_part part No b p o w h f e = let no : ⊥ = cc (f, e) in absurd no
  follows_part part (Halt s) b p o w h f e = let no : ⊥ = cc (f, e) in absurd no
  follows_part part (Clash x) b p o w h f e = let no : ⊥ = cc (f, e) in absurd no

  -- where no value is wanted, none is given
  none_given : (parts : List X) (slots : List (Slot V)) (b : Beginning Tok Cx St) (o : Outcome (List Y) Er St) (w : Option (List Y)) → Turns turn parts slots None b o → o.verdict ≡ Yes w → w ≡ None
  none_given [] slots b o w m e = cc (m, e)
  none_given (x ∷ xs) [] b o w m e = absurd m
  none_given (x ∷ xs) (s ∷ ss) b o w m e = follows_part (Turns turn xs ss None) m.first.verdict b m.first o w (λ c q u k d. none_given xs ss c q u k d) m.follows e

  begin_none : (parts : List X) (slots : List (Slot V)) (b : Beginning Tok Cx St) (o : Outcome (List Y) Er St)
      (r : Result (Option (List Y)) Fault)
      → Turns turn parts slots None b o → r ≡ answer o.verdict → onto None r ≡ r
  begin_none parts slots b o (Ok w) m e = ap Ok (sym (none_given parts slots b o w m (by_answer o.verdict w (sym e))))
    where
      by_answer : (v : Verdict (List Y) Er) (w : Option (List Y)) → answer v ≡ Ok w → v ≡ Yes w
      by_answer (Yes u) w e = cc e
      by_answer No w e = let no : ⊥ = cc e in absurd no
      by_answer (Halt s) w e = let no : ⊥ = cc e in absurd no
      by_answer (Clash x) w e = let no : ⊥ = cc e in absurd no
  begin_none parts slots b o (Err f) m e = refl

module _ {X Tok Cx St Er V Y : Type 0} (merged : Er → Er → Er) (safe : Type 0) (turn : X → Slot V → Meaning Tok Cx St Er Y) (wanted : Bool) where
  -- what a run of these turns from here gives comes after these values, in a run of the whole
  pub record GoOn (all : List X) (first : List (Slot V)) (empty : Option (List Y)) (old : Held Tok Cx St Er)
      (parts : List X) (slots : List (Slot V)) (values : Option (List Y)) (mid : Held Tok Cx St Er) : Type 0 where
    pub nothing : Nothing empty values
    pub on : (new : Held Tok Cx St Er) (r : Result (Option (List Y)) Fault)
        → Ran merged safe (Turns turn parts slots empty) wanted mid new r
        → Ran merged safe (Turns turn all first empty) wanted old new (onto values r)

module _ {X Tok Cx St Er V Y : Type 0} (merged : Er → Er → Er) (safe : Type 0)
    (turn : X → Slot V → Meaning Tok Cx St Er Y) (wanted : Bool) (parts : List X) (slots : List (Slot V))
    (empty : Option (List Y)) (y : Option Y) where
  put_first : (old new : Held Tok Cx St Er) (r : Result (Option (List Y)) Fault) → Ran merged safe (Turns turn parts slots empty) wanted old new r
      → Ran merged safe (Chained (Turns turn parts slots empty) (λ ys. Given (with_first y ys))) wanted old new (after_first y r)
  put_first old new (Ok ys) h = chained h refl ran-given
  put_first old new (Err f) h = failed h refl refl

module _ {X Tok Cx St Er V Y : Type 0} {merged : Er → Er → Er} {safe : Type 0}
    {turn : X → Slot V → Meaning Tok Cx St Er Y} {wanted : Bool} {all : List X} {first : List (Slot V)}
    {empty : Option (List Y)} {old : Held Tok Cx St Er}
    {others : List X} {rest : List (Slot V)} {values : Option (List Y)} {mid next : Held Tok Cx St Er} {part : X} {slot : Slot V} {x : Result (Option Y) Fault} where
  one_on : {y : Option Y} → GoOn merged safe turn wanted all first empty old (part ∷ others) (slot ∷ rest) values mid → Ran merged safe (turn part slot) wanted mid next x → x ≡ Ok y
      → GoOn merged safe turn wanted all first empty old others rest (one_more values y) next
  one_on {y} k h e =
      record {
        nothing = more_nothing empty values y k.nothing;
        on =
            λ new r m. subst (λ z. Ran merged safe (Turns turn all first empty) wanted old new z)
            (more_onto values y r)
            (k.on new (after_first y r) (chained h e (put_first merged safe turn wanted others rest empty y next new r m)));
      }

module _ {X Tok Cx St Er V Y : Type 0} {merged : Er → Er → Er} {safe : Type 0}
    {turn : X → Slot V → Meaning Tok Cx St Er Y} {wanted : Bool} {all : List X} {first : List (Slot V)}
    {empty : Option (List Y)} {old : Held Tok Cx St Er}
    {parts others : List X} {slots rest : List (Slot V)} {values : Option (List Y)} {mid next : Held Tok Cx St Er} {part : X} {slot : Slot V} {x : Result (Option Y) Fault} where
  -- one more turn, and one that was refused
  pub turns_on : {y : Option Y} → GoOn merged safe turn wanted all first empty old parts slots values mid
      → parts ≡ part ∷ others → slots ≡ slot ∷ rest → Ran merged safe (turn part slot) wanted mid next x → x ≡ Ok y
      → GoOn merged safe turn wanted all first empty old others rest (one_more values y) next
  turns_on {y} k p s h e = one_on (rw (p, s) at k) h e

  pub turns_failed : {f : Fault} {y : Result (Option (List Y)) Fault}
      → GoOn merged safe turn wanted all first empty old parts slots values mid → parts ≡ part ∷ others
      → slots ≡ slot ∷ rest → Ran merged safe (turn part slot) wanted mid next x → x ≡ Err f → y ≡ Err f
      → Ran merged safe (Turns turn all first empty) wanted old next y
  turns_failed {f} {y} k p s h e d = rw d (k.on next (Err f) (rw (p, s) (failed h e refl)))

module _ {X Tok Cx St Er V Y : Type 0} {merged : Er → Er → Er} {safe : Type 0}
    {turn : X → Slot V → Meaning Tok Cx St Er Y} {wanted : Bool} {all : List X} {first : List (Slot V)}
    {empty : Option (List Y)} {old : Held Tok Cx St Er}
    {parts : List X} {slots : List (Slot V)} {values : Option (List Y)} {mid : Held Tok Cx St Er} where
  pub turns_end : GoOn merged safe turn wanted all first empty old parts slots values mid → parts ≡ [] → Ran merged safe (Turns turn all first empty) wanted old mid (Ok values)
  turns_end k p = subst (λ z. Ran merged safe (Turns turn all first empty) wanted old mid (Ok z)) (end_joined empty values k.nothing) (k.on mid (Ok empty) (rw p ran-given))

-- the i-th of a list, and those after it
pub drop_at : {X : Type 0} (xs : List X) (i : ℕ) (x : X) → i < length xs → x ≡ get_or xs i x → drop i xs ≡ x ∷ drop (i + 1) xs
drop_at xs i x l e = drop_more xs i x l ∙ ap (λ y. y ∷ drop (i + 1) xs) (sym e)

module _ {X Y : Type 0} (f : X → Y) where
  -- the i-th of a list, and those after it
  pub drop_map : (xs : List X) (i : ℕ) (d : X) → i < length xs → drop i (map f xs) ≡ f (get_or xs i d) ∷ drop (i + 1) (map f xs)
  drop_map xs i d l =
      let n : length (map f xs) ≡ length xs = length-map xs f in
      drop_more (map f xs) i (f d) (omega (arith, n, l)) ∙ ap (λ y. y ∷ drop (i + 1) (map f xs)) (get_or-map f xs i d (f d) l)

  pub map_set : (xs : List X) (i : ℕ) (x : X) → map f (set xs i x) ≡ set (map f xs) i (f x)
  map_set [] i x = refl
  map_set (y ∷ ys) zero x = refl
  map_set (y ∷ ys) (suc i) x = ap (λ zs. f y ∷ zs) (map_set ys i x)

  pub drop_past_set : (xs : List X) (i : ℕ) (x : X) → drop (i + 1) (map f (set xs i x)) ≡ drop (i + 1) (map f xs)
  drop_past_set xs i x = ap (drop (i + 1)) (map_set xs i x) ∙ drop-set-lt (i + 1) (map f xs) i (f x) (omega arith)

  pub take_past_set : (xs : List X) (i : ℕ) (x : X) → i < length xs → take (i + 1) (map f (set xs i x)) ≡ take i (map f xs) ++ f x ∷ []
  take_past_set xs i x l =
      let n : length (map f xs) ≡ length xs = length-map xs f in
      ap (take (i + 1)) (map_set xs i x) ∙ take_more_set (map f xs) i (f x) (omega (arith, n, l))

  pub take_end : (xs : List X) (i : ℕ) → length xs ≤ i → take i (map f xs) ≡ map f xs
  take_end xs i l = let n : length (map f xs) ≡ length xs = length-map xs f in take_all i (map f xs) (omega (arith, n, l))

-- one slot of a list is written
all_still-set : {V : Type 0} (ss : List (Slot V)) (i : ℕ) (s d : Slot V) → i < length ss → all_still (set ss i s) + still (get_or ss i d) ≡ all_still ss + still s
all_still-set [] i s d l = absurd (omega (arith, l))
all_still-set (x ∷ xs) zero s d l = omega arith
all_still-set (x ∷ xs) (suc i) s d l = let e = all_still-set xs i s d (omega (arith, l)) in omega (arith, e)

lessens_more : (a b c d e : ℕ) (x y : Bool) → Lessens a b x → Lessens c d y → e + c ≡ b + d → Lessens a e (x || y)
lessens_more a b c d e true true l m k = omega (arith, l, m, k)
lessens_more a b c d e true false l m k = omega (arith, l, m, k)
lessens_more a b c d e false true l m k = omega (arith, l, m, k)
lessens_more a b c d e false false l m k = omega (arith, l, m, k)

module _ {A V : Type 0} (h : A → Slot V) where
  pub lessens_by_one : (n : ℕ) (ss : List A) (i : ℕ) (d t : A) (x y : Bool) → i < length ss → Lessens n (all_still (map h ss)) x → Lessens (still (h (get_or ss i d))) (still (h t)) y
      → Lessens n (all_still (map h (set ss i t))) (x || y)
  lessens_by_one n ss i d t x y l a b =
      let len : length (map h ss) ≡ length ss = length-map ss h in
      let at : get_or (map h ss) i (h d) ≡ h (get_or ss i d) = get_or-map h ss i d (h d) l in
      let k : all_still (set (map h ss) i (h t)) + still (get_or (map h ss) i (h d)) ≡ all_still (map h ss) + still (h t) = all_still-set (map h ss) i (h t) (h d) (omega (arith, len, l)) in
      lessens_more n (all_still (map h ss)) (still (h (get_or ss i d))) (still (h t)) (all_still (map h (set ss i t))) x y a b
      (ap (λ zs. all_still zs + still (h (get_or ss i d))) (map_set h ss i t) ∙ ap (λ z. all_still (set (map h ss) i (h t)) + still z) (sym at) ∙ k)

module _ {X Tok Cx St Er V Y : Type 0} {merged : Er → Er → Er} {safe : Type 0} {turn : X → Slot V → Meaning Tok Cx St Er Y} {wanted : Bool} {old : Held Tok Cx St Er} where
  -- at the beginning, with no value yet, and where none is wanted
  pub turns_begin : (all parts : List X) (first slots : List (Slot V)) (values : Option (List Y)) → all ≡ parts
      → first ≡ slots → values ≡ Some [] → GoOn merged safe turn wanted all first (Some []) old parts slots values old
  turns_begin all parts first slots values p s v =
      record { nothing = inl refl; on = λ new r m. rw v (subst (λ z. Ran merged safe (Turns turn all first (Some [])) wanted old new z) (sym (begin_onto r)) (rw (p, s) m)) }

  pub turns_begin_bare : (all parts : List X) (first slots : List (Slot V)) → all ≡ parts → first ≡ slots → GoOn merged safe turn wanted all first None old parts slots None old
  turns_begin_bare all parts first slots p s =
      record {
        nothing = inr (refl, refl);
        on = λ new r m. subst (λ z. Ran merged safe (Turns turn all first None) wanted old new z) (sym (begin_none turn parts slots (begin wanted old) m.outcome r m.meant m.answered)) (rw (p, s) m);
      }

module _ {X Tok Cx St Mk Er V : Type 0} {merged : Er → Er → Er} {safe : Type 0} (mark : St → Mk) (back : St → Mk → St)
    (quiet : Type 0) (meaning : X → Meaning Tok Cx St Er V) (parts : List X) (slots : List (Slot V)) {wanted : Bool}
    {old new : Held Tok Cx St Er} where
  -- the last pass, with memory for its values and without
  pub ran_last : {r : Result (Option (List V)) Fault}
      → Ran merged safe (Turns (λ x. Missing (meaning x)) parts slots (wanting wanted [])) wanted old new r
      → Ran merged safe ((each_part mark back quiet meaning parts).last slots) wanted old new r
  ran_last {r} h = ran-weaker merged safe (Turns (λ x. Missing (meaning x)) parts slots (wanting wanted [])) ((each_part mark back quiet meaning parts).last slots) wanted old new r (λ o k. inr k) h

module _ {X Tok Cx St Mk Er V : Type 0} {merged : Er → Er → Er} {safe : Type 0} (mark : St → Mk) (back : St → Mk → St)
    (quiet : Type 0) (meaning : X → Meaning Tok Cx St Er V) (parts : List X) (slots : List (Slot V))
    {old : Held Tok Cx St Er} where
  pub ran_last_short : {r : Result (Option (List V)) Fault} → (length parts ≡ 0 → ⊥) → r ≡ Err (fault.Stop Memory)
      → Ran merged safe ((each_part mark back quiet meaning parts).last slots) true old old r
  ran_last_short {r} n e =
      rw e
      (ran-halts merged safe ((each_part mark back quiet meaning parts).last slots) true old old
      (record { tokens = refl; context = refl }) refl (λ o v s. inl ((refl, n), v, s)))

-- a list that is written whole
pub written_whole : {X : Type 0} (xs ys : List X) (n : ℕ) → length ys ≡ length xs → n ≡ length xs → take n (ys ++ drop (length ys) xs) ≡ ys
written_whole xs ys n e d = ap (λ zs. take n (ys ++ zs)) (drop_all (length ys) xs (omega (arith, e))) ∙ ap (take n) (append-nil ys) ∙ take_all n ys (omega (arith, e, d))
