-- A choice among a list, alternative by alternative.
use Rattle.std.proofs.Common.{◌≡◌, ℕ, ◌+◌, ◌<◌, ◌≤◌, get_or, drop, Bool, Option, None, Some, List, [], ◌∷◌, map, length, Bor, refl, sym, ◌∙◌, ap, subst, Result, Err, arith}
use Rattle.std.proofs.Math.Numerals.{add-one}
use Rattle.std.proofs.Math.ListN.{drop_of_length-le}
use Rattle.std.proofs.Math.Seq.{drop-cons}
use Rattle.std.proofs.lemmas.List.Elements.{All-head, All-tail}
use Rattle.std.specs.List.{All, IsFirstAndRest}
use Rattle.std.specs.Prelude.{IfSome, MatchOption}
use Rattle.chumsky_input.specs.declared.error.Error as error_trait
use Rattle.chumsky_input.specs.declared.inspector.Inspector as inspector_trait
use Rattle.chumsky_input.specs.declared.input.Input as input_trait
use Rattle.chumsky_input.specs.declared.stop.Fault.{Fault}
use Rattle.chumsky_input.specs.declared.stop.Fault.TheVariants as fault
use Rattle.chumsky_input.specs.declared.stop.Stop.TheVariants.{Memory}
use Rattle.chumsky_input.specs.Outcome.{Meaning}
use Rattle.chumsky_input.specs.Held.{Held, Marks}
use Rattle.chumsky_input.specs.Run.{Ran, Fails, marked_here}
use Rattle.chumsky_parser.specs.Choice.{FirstFrom, FirstOf}
use Rattle.chumsky_parser.specs.Failure.{expects}
use Rattle.chumsky_parser.proofs.ChainedLemmas.{ran-weaker}
use Rattle.chumsky_parser.proofs.FailureLemmas.{ran-misses}
use Rattle.chumsky_choice.specs.Among.{FirstAmong}
use Rattle.chumsky_choice.specs.Next.{GoesToNext}
use Rattle.chumsky_choice.proofs.NextLemmas.{Tried, tried-first, tried-next, tried-stands, first_of-marked, first_of-unmarked}

module _ {Tok Cx St Mk Er V X : Type 0} (merged : Er → Er → Er) (safe : Type 0) (back : St → Mk → St) (quiet : Type 0)
    (m : Marks Tok Mk) (meaning : X → Meaning Tok Cx St Er V) (first : X) (others rest : List X) (wanted : Bool)
    (old new : Held Tok Cx St Er) (r : Result (Option V) Fault) where
  -- the first alternative and some of the others, of which these are left
  pub record TriedSome : Type 0 where
    pub tried : Tried merged safe back quiet m (FirstFrom back quiet m.mark (meaning first) (map meaning others)) wanted old new r (map meaning rest)

module _ {Tok Cx St Mk Er V X : Type 0} {merged : Er → Er → Er} {safe : Type 0} {back : St → Mk → St} {quiet : Type 0}
    {m : Marks Tok Mk} {meaning : X → Meaning Tok Cx St Er V} {first : X} {others : List X} {wanted : Bool} where
  pub some-first : (mark : St → Mk) {old new : Held Tok Cx St Er} {r : Result (Option V) Fault} → m ≡ marked_here mark old → Ran merged safe (meaning first) wanted old new r
      → TriedSome merged safe back quiet m meaning first others others wanted old new r
  some-first mark e h = record { tried = tried-first mark e h }

  pub some-next : {x : X} {left rest : List X} {old mid new : Held Tok Cx St Er} {t r : Result (Option V) Fault}
      → TriedSome merged safe back quiet m meaning first others left wanted old mid t → left ≡ x ∷ rest
      → GoesToNext merged safe back quiet m (meaning x) wanted mid new t r → TriedSome merged safe back quiet m meaning first others rest wanted old new r
  some-next {x} {left} {rest} {old} {mid} {new} {t} {r} h s k =
      let left_now : TriedSome merged safe back quiet m meaning first others (x ∷ rest) wanted old mid t =
      subst (λ xs. TriedSome merged safe back quiet m meaning first others xs wanted old mid t) s h in
      record { tried = tried-next left_now.tried k }

-- what is left from an index on
pub left-next : {X : Type 0} (xs : List X) (i : ℕ) (x : X) → i < length xs → x ≡ get_or xs i x → drop i xs ≡ x ∷ drop (i + 1) xs
left-next xs i x h e = drop-cons xs i x h ∙ cc (add-one i)

pub left-none : {X : Type 0} (xs : List X) (i : ℕ) → length xs ≤ i → length (drop i xs) ≡ 0
left-none xs i h = ap length (drop_of_length-le xs h)

module _ {X : Type 0} (P : X → Type 0) (xs : List X) where
  -- what holds of all holds of the first, and of the others
  pub first-all : (r : Option (Bor X × Bor (List X))) → MatchOption r (length xs ≡ 0) (λ p. IsFirstAndRest xs p.0.now p.1.now) → All P xs → IfSome r (λ p. P p.0.now)
  first-all (Some p) s h = All-head P p.0.now p.1.now (subst (All P) s.0 h)
  first-all None s h = tt

  pub rest-all : (r : Option (Bor X × Bor (List X))) → MatchOption r (length xs ≡ 0) (λ p. IsFirstAndRest xs p.0.now p.1.now) → All P xs → IfSome r (λ p. All P p.1.now)
  rest-all (Some p) s h = All-tail P p.0.now p.1.now (subst (All P) s.0 h)
  rest-all None s h = tt

module _ {I Tok Sp Cu Er St Mk Cx V X : Type 0} (source : input_trait.Ghosts I Cu Tok Sp)
    (errors : error_trait.Ghosts Er I Tok Sp) (states : inspector_trait.Ghosts St I Mk Tok Sp)
    (meaning : X → Meaning Tok Cx states.Seen errors.Seen V) (wanted : Bool)
    (old : Held Tok Cx states.Seen errors.Seen) where
  -- no alternative
  pub among-none : (xs : List X) (new : Held Tok Cx states.Seen errors.Seen) (f : Fault) → length xs ≡ 0
      → Fails errors.merged errors.takes_no_memory (expects source errors old.tokens [] None old.place old.place) old new f
      → Ran errors.merged errors.takes_no_memory (FirstAmong source errors states (map meaning xs)) wanted old new (Err f)
  among-none [] new f e h = ran-misses errors.merged errors.takes_no_memory _ wanted old (expects source errors old.tokens [] None old.place old.place) new f h (λ o k. record { cases = k })
  among-none (x ∷ xs) new f e h = absurd (omega (arith, e))

  among_cons : (xs : List X) (x : X) (rest : List X) (new : Held Tok Cx states.Seen errors.Seen) (r : Result (Option V) Fault) → xs ≡ x ∷ rest
      → Ran errors.merged errors.takes_no_memory (FirstOf states.mark states.back states.takes_no_memory (meaning x) (map meaning rest)) wanted old new r
      → Ran errors.merged errors.takes_no_memory (FirstAmong source errors states (map meaning xs)) wanted old new r
  among_cons xs x rest new r e h =
      subst (λ ys. Ran errors.merged errors.takes_no_memory (FirstAmong source errors states (map meaning ys)) wanted old new r) (sym e)
      (ran-weaker errors.merged errors.takes_no_memory
      (FirstOf states.mark states.back states.takes_no_memory (meaning x) (map meaning rest))
      (FirstAmong source errors states (map meaning (x ∷ rest))) wanted old new r (λ o k. record { cases = k }) h)

  -- one alternative
  pub among-only : {xs rest : List X} {x : X} {new : Held Tok Cx states.Seen errors.Seen} {r : Result (Option V) Fault}
      → IsFirstAndRest xs x rest → length rest ≡ 0
      → Ran errors.merged errors.takes_no_memory (meaning x) wanted old new r
      → Ran errors.merged errors.takes_no_memory (FirstAmong source errors states (map meaning xs)) wanted old new r
  among-only {xs = xs} {rest = []} {x = x} {new = new} {r = r} s e h =
      among_cons xs x [] new r s.0
      (ran-weaker errors.merged errors.takes_no_memory (meaning x)
      (FirstOf states.mark states.back states.takes_no_memory (meaning x) []) wanted old new r
      (λ o k. record { cases = k }) h)
  among-only {xs = xs} {rest = y ∷ ys} {x = x} {new = new} {r = r} s e h = absurd (omega (arith, e))

  -- two or more
  pub among-several : {xs rest : List X} {x : X} {new : Held Tok Cx states.Seen errors.Seen} {r : Result (Option V) Fault} → IsFirstAndRest xs x rest
      → Ran errors.merged errors.takes_no_memory (FirstOf states.mark states.back states.takes_no_memory (meaning x) (map meaning rest)) wanted old new r
      → Ran errors.merged errors.takes_no_memory (FirstAmong source errors states (map meaning xs)) wanted old new r
  among-several {xs} {rest} {x} {new} {r} s h = among_cons xs x rest new r s.0 h

module _ {Tok Cx St Mk Er V X : Type 0} {merged : Er → Er → Er} {safe : Type 0} {mark : St → Mk} {back : St → Mk → St}
    {quiet : Type 0} (meaning : X → Meaning Tok Cx St Er V) {first : X} {wanted : Bool}
    {old : Held Tok Cx St Er} where
  -- out of memory at the mark
  pub several-unmarked : (others : List X) {r : Result (Option V) Fault} → (length others ≡ 0 → ⊥) → r ≡ Err (fault.Stop Memory) → (quiet → ⊥)
      → Ran merged safe (FirstOf mark back quiet (meaning first) (map meaning others)) wanted old old r
  several-unmarked [] n e may = absurd (n refl)
  several-unmarked (y ∷ ys) n e may = first_of-unmarked e may

  by_mark : (others : List X) (m : Marks Tok Mk) (new : Held Tok Cx St Er) (r : Result (Option V) Fault) → (length others ≡ 0 → ⊥) → m ≡ marked_here mark old
      → Ran merged safe (FirstFrom back quiet m.mark (meaning first) (map meaning others)) wanted old new r
      → Ran merged safe (FirstOf mark back quiet (meaning first) (map meaning others)) wanted old new r
  by_mark [] m new r n e h = absurd (n refl)
  by_mark (y ∷ ys) m new r n e h = first_of-marked e h

  module _ {others rest : List X} {m : Marks Tok Mk} {new : Held Tok Cx St Er} {r : Result (Option V) Fault}
      (several : length others ≡ 0 → ⊥) (e : m ≡ marked_here mark old)
      (h : TriedSome merged safe back quiet m meaning first others rest wanted old new r) where
    -- none is left
    pub several-all : length rest ≡ 0 → Ran merged safe (FirstOf mark back quiet (meaning first) (map meaning others)) wanted old new r
    several-all n = by_mark others m new r several e (none_left rest n h.tried)
      where
        none_left : (left : List X) → length left ≡ 0 → Tried merged safe back quiet m (FirstFrom back quiet m.mark (meaning first) (map meaning others)) wanted old new r (map meaning left)
            → Ran merged safe (FirstFrom back quiet m.mark (meaning first) (map meaning others)) wanted old new r
        none_left [] n k = k.completes
        none_left (x ∷ left) n k = absurd (omega (arith, n))

    -- an answer that is no failure stands
    pub several-stands : (r ≡ Err fault.Fail → ⊥) → Ran merged safe (FirstOf mark back quiet (meaning first) (map meaning others)) wanted old new r
    several-stands n = by_mark others m new r several e (tried-stands (map meaning rest) n h.tried)
