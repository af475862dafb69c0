-- What is left of the items of one parser, and then those of another.
use Rattle.std.proofs.Common.{◌≡◌, Bool, true, Option, Some, None, refl, sym, subst, Result, Ok, Err}
use Rattle.chumsky_input.specs.declared.stop.Fault.{Fault}
use Rattle.chumsky_input.specs.Held.{Held}
use Rattle.chumsky_input.specs.Outcome.{Meaning}
use Rattle.chumsky_input.specs.Run.{Ran, begin}
use Rattle.chumsky_parser.specs.Items.{Next, More, End, with_item, without_item}
use Rattle.chumsky_parser.proofs.ChainedLemmas.{failed, chained, ran-weaker, ran-given, ran-asked}
use Rattle.chumsky_combinator.specs.declared.then_items.Stage.{Stage}
use Rattle.chumsky_combinator.specs.declared.then_items.Stage.TheVariants.{First, Second}
use Rattle.chumsky_combinator.specs.ThenItems.{OfSecond, GivesAt, GivesInTurn}

module _ {Tok Cx St Er S T V : Type 0} {merged : Er → Er → Er} {safe : Type 0} {step : Meaning Tok Cx St Er (Next T V)} {wanted : Bool} {old new : Held Tok Cx St Er} where
  second-emit : (t : T) (q : Result (Option V) Fault) → Ran merged safe step wanted old new (with_item t q) → Ran merged safe (OfSecond {S = S} step) wanted old new (with_item (Second t) q)
  second-emit t (Ok (Some v)) h = chained h refl ran-given
  second-emit t (Ok None) h = chained h refl ran-given
  second-emit t (Err f) h = failed h refl refl

  second-check : (t : T) (q : Result (Option (Unit {0})) Fault)
      → Ran merged safe step wanted old new (without_item t q)
      → Ran merged safe (OfSecond {S = S} step) wanted old new (without_item (Second t) q)
  second-check t (Ok (Some u)) h = chained h refl ran-given
  second-check t (Ok None) h = chained h refl ran-given
  second-check t (Err f) h = failed h refl refl

module _ {Tok Cx St Er S T V : Type 0} {merged : Er → Er → Er} {safe : Type 0}
    {firsts : S → Meaning Tok Cx St Er (Next S V)} {begins : Meaning Tok Cx St Er T}
    {seconds : T → Meaning Tok Cx St Er (Next T V)} {at : Stage S T} {wanted : Bool} {old : Held Tok Cx St Er} where
  stepped : {new : Held Tok Cx St Er} {r : Result (Option (Next (Stage S T) V)) Fault} (x : Stage S T) → at ≡ x
      → Ran merged safe (GivesAt firsts begins seconds x) wanted old new r
      → Ran merged safe (GivesInTurn firsts begins seconds at) wanted old new r
  stepped {new} {r} x e h =
      ran-weaker merged safe (GivesAt firsts begins seconds x) (GivesInTurn firsts begins seconds at) wanted old new r
      (λ o m. record { step = subst (λ z. GivesAt firsts begins seconds z (begin wanted old) o) (sym e) m }) h

  module _ {t : T} (e : at ≡ Second t) {new : Held Tok Cx St Er} (u : T) where
    -- a step of the second items
    pub turn-second : (q : Result (Option V) Fault) → Ran merged safe (seconds t) wanted old new (with_item u q)
        → Ran merged safe (GivesInTurn firsts begins seconds at) wanted old new (with_item (Second u) q)
    turn-second q h = stepped (Second t) e (second-emit u q h)

    pub turn-second_check : (q : Result (Option (Unit {0})) Fault)
        → Ran merged safe (seconds t) wanted old new (without_item u q)
        → Ran merged safe (GivesInTurn firsts begins seconds at) wanted old new (without_item (Second u) q)
    turn-second_check q h = stepped (Second t) e (second-check u q h)

  module _ {s : S} (e : at ≡ First s) {mid : Held Tok Cx St Er} {x : Result (Option (Next S V)) Fault} (h : Ran merged safe (firsts s) wanted old mid x) where
    -- a step of the first items
    pub turn-failed : {f : Fault} {y : Result (Option (Next (Stage S T) V)) Fault} → x ≡ Err f → y ≡ Err f → Ran merged safe (GivesInTurn firsts begins seconds at) wanted old mid y
    turn-failed d k = stepped (First s) e (failed h d k)

    pub turn-item : {v : Option V} {t : S} → x ≡ Ok (Some (More v t)) → Ran merged safe (GivesInTurn firsts begins seconds at) wanted old mid (Ok (Some (More v (First t))))
    turn-item d = stepped (First s) e (chained h d ran-given)

    module _ (d : x ≡ Ok (Some End)) {now : Held Tok Cx St Er} {y : Result (Option T) Fault} (k : Ran merged safe begins true mid now y) where
      -- their end, after which no iteration of the second was made
      pub turn-unmade : {f : Fault} {r : Result (Option (Next (Stage S T) V)) Fault} → y ≡ Err f → r ≡ Err f → Ran merged safe (GivesInTurn firsts begins seconds at) wanted old now r
      turn-unmade p z = stepped (First s) e (chained h d (failed (ran-asked k) p z))

      -- their end, and then a step of the second
      module _ {t : T} (p : y ≡ Ok (Some t)) {new : Held Tok Cx St Er} (u : T) where
        pub turn-made : (q : Result (Option V) Fault) → Ran merged safe (seconds t) wanted now new (with_item u q)
            → Ran merged safe (GivesInTurn firsts begins seconds at) wanted old new (with_item (Second u) q)
        turn-made q l = stepped (First s) e (chained h d (chained (ran-asked k) p (second-emit u q l)))

        pub turn-made_check : (q : Result (Option (Unit {0})) Fault)
            → Ran merged safe (seconds t) wanted now new (without_item u q)
            → Ran merged safe (GivesInTurn firsts begins seconds at) wanted old new (without_item (Second u) q)
        turn-made_check q l = stepped (First s) e (chained h d (chained (ran-asked k) p (second-check u q l)))
