-- What is left of items of which something else is made.
use Rattle.std.proofs.Common.{◌≡◌, Bool, Option, Some, None, refl, Result, Ok, Err}
use Rattle.chumsky_input.specs.declared.stop.Fault.{Fault}
use Rattle.chumsky_input.specs.Extra.{shown_from}
use Rattle.chumsky_input.specs.Held.{Held}
use Rattle.chumsky_input.specs.Outcome.{Meaning}
use Rattle.chumsky_input.specs.Run.{Ran}
use Rattle.chumsky_parser.specs.Items.{Next, More, End, without_item}
use Rattle.chumsky_parser.specs.Showing.{GivesShown, GivenShown}
use Rattle.chumsky_parser.proofs.ChainedLemmas.{failed, chained, ran-weaker, ran-given}
use Rattle.chumsky_parser.proofs.ShowingLemmas.{ran-shown, ran-not_shown}
use Rattle.chumsky_combinator.specs.Mapped.{GivenBy}
use Rattle.chumsky_combinator.specs.MappedItems.{Remade, MapsItem, MapsItemWith}
use Rattle.chumsky_combinator.proofs.MappedLemmas.{ran-given_by, ran-given_none}

module _ {Tok Cx St Er S V W : Type 0} {merged : Er → Er → Er} {safe : Type 0}
    {made : Option V → Meaning Tok Cx St Er W} {step : Meaning Tok Cx St Er (Next S V)} {wanted : Bool}
    {old mid : Held Tok Cx St Er} {x : Result (Option (Next S V)) Fault}
    (h : Ran merged safe step wanted old mid x) where
  pub remade-failed : {f : Fault} {y : Result (Option (Next S W)) Fault} → x ≡ Err f → y ≡ Err f → Ran merged safe (Remade made step) wanted old mid y
  remade-failed e d = failed h e d

  pub remade-ended : x ≡ Ok (Some End) → Ran merged safe (Remade made step) wanted old mid (Ok (Some End))
  remade-ended e = chained h e ran-given

  pub remade-item : {v : Option V} {s : S} {w : Option W} {new : Held Tok Cx St Er} → x ≡ Ok (Some (More v s))
      → Ran merged safe (made v) wanted mid new (Ok w)
      → Ran merged safe (Remade made step) wanted old new (Ok (Some (More w s)))
  remade-item e k = chained h e (chained k refl ran-given)

module _ {Tok Cx St Er S V W : Type 0} {merged : Er → Er → Er} {safe : Type 0} {maps : V → W → Type 0} {step : Meaning Tok Cx St Er (Next S V)} {wanted : Bool} {old new : Held Tok Cx St Er} where
  mapped : {r : Result (Option (Next S W)) Fault} → Ran merged safe (Remade (GivenBy maps) step) wanted old new r → Ran merged safe (MapsItem maps step) wanted old new r
  mapped {r} h = ran-weaker merged safe (Remade (GivenBy maps) step) (MapsItem maps step) wanted old new r (λ o m. record { remade = m }) h

  module _ {x : Result (Option (Next S V)) Fault} (h : Ran merged safe step wanted old new x) where
    pub maps-failed : {f : Fault} {y : Result (Option (Next S W)) Fault} → x ≡ Err f → y ≡ Err f → Ran merged safe (MapsItem maps step) wanted old new y
    maps-failed e d = mapped (remade-failed h e d)

    pub maps-ended : x ≡ Ok (Some End) → Ran merged safe (MapsItem maps step) wanted old new (Ok (Some End))
    maps-ended e = mapped (remade-ended h e)

    pub maps-item : {v : V} {s : S} {w : W} → x ≡ Ok (Some (More (Some v) s)) → maps v w → Ran merged safe (MapsItem maps step) wanted old new (Ok (Some (More (Some w) s)))
    maps-item e m = mapped (remade-item h e (ran-given_by m))

    maps-unwanted : {s : S} → x ≡ Ok (Some (More None s)) → Ran merged safe (MapsItem maps step) wanted old new (Ok (Some (More None s)))
    maps-unwanted e = mapped (remade-item h e ran-given_none)

  -- a step without its item is handed on
  pub maps-check : (s : S) (r : Result (Option (Unit {0})) Fault) → Ran merged safe step wanted old new (without_item s r) → Ran merged safe (MapsItem maps step) wanted old new (without_item s r)
  maps-check s (Ok (Some u)) h = maps-unwanted h refl
  maps-check s (Ok None) h = maps-ended h refl
  maps-check s (Err f) h = maps-failed h refl refl

module _ {Tok Cx St Er S V W : Type 0} {merged : Er → Er → Er} {safe : Type 0} {maps : GivesShown Tok Cx St V W}
    {step : Meaning Tok Cx St Er (Next S V)} {wanted : Bool} {old : Held Tok Cx St Er} where
  mapped_with : {new : Held Tok Cx St Er} {r : Result (Option (Next S W)) Fault}
      → Ran merged safe (Remade (GivenShown maps old.place) step) wanted old new r
      → Ran merged safe (MapsItemWith maps step) wanted old new r
  mapped_with {new} {r} h = ran-weaker merged safe (Remade (GivenShown maps old.place) step) (MapsItemWith maps step) wanted old new r (λ o m. record { remade = m }) h

  module _ {mid : Held Tok Cx St Er} {x : Result (Option (Next S V)) Fault} (h : Ran merged safe step wanted old mid x) where
    pub maps_with-failed : {f : Fault} {y : Result (Option (Next S W)) Fault} → x ≡ Err f → y ≡ Err f → Ran merged safe (MapsItemWith maps step) wanted old mid y
    maps_with-failed e d = mapped_with (remade-failed h e d)

    pub maps_with-ended : x ≡ Ok (Some End) → Ran merged safe (MapsItemWith maps step) wanted old mid (Ok (Some End))
    maps_with-ended e = mapped_with (remade-ended h e)

    pub maps_with-item : {v : V} {s : S} {w : W} {new : Held Tok Cx St Er} → x ≡ Ok (Some (More (Some v) s))
        → new ≡ record mid { state = new.state } → maps v (shown_from old.place mid) w new.state
        → Ran merged safe (MapsItemWith maps step) wanted old new (Ok (Some (More (Some w) s)))
    maps_with-item e n g = mapped_with (remade-item h e (ran-shown old.place n g))

    maps_with-unwanted : {s : S} → x ≡ Ok (Some (More None s)) → Ran merged safe (MapsItemWith maps step) wanted old mid (Ok (Some (More None s)))
    maps_with-unwanted e = mapped_with (remade-item h e (ran-not_shown old.place))

  pub maps_with-check : {new : Held Tok Cx St Er} (s : S) (r : Result (Option (Unit {0})) Fault)
      → Ran merged safe step wanted old new (without_item s r)
      → Ran merged safe (MapsItemWith maps step) wanted old new (without_item s r)
  maps_with-check s (Ok (Some u)) h = maps_with-unwanted h refl
  maps_with-check s (Ok None) h = maps_with-ended h refl
  maps_with-check s (Err f) h = maps_with-failed h refl refl
