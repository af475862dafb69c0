-- What a mapper that is shown the run leaves.
use Rattle.std.proofs.Common.{◌≡◌, Bool, Option, Some, refl, Result, Ok, Err}
use Rattle.chumsky_input.specs.declared.stop.Fault.{Fault}
use Rattle.chumsky_input.specs.Extra.{shown_from}
use Rattle.chumsky_input.specs.Held.{Held}
use Rattle.chumsky_input.specs.Outcome.{Meaning}
use Rattle.chumsky_input.specs.Run.{Ran, without_value}
use Rattle.chumsky_parser.specs.Chained.{Chained}
use Rattle.chumsky_parser.specs.Showing.{GivesShown, GivenShown}
use Rattle.chumsky_parser.proofs.ChainedLemmas.{failed, chained, ran-weaker}
use Rattle.chumsky_parser.proofs.ShowingLemmas.{ran-shown, ran-not_shown}
use Rattle.chumsky_combinator.specs.MappedWith.{MappedWith}

module _ {Tok Cx St Er V W : Type 0} {merged : Er → Er → Er} {safe : Type 0} {gives : GivesShown Tok Cx St V W} {part : Meaning Tok Cx St Er V} {wanted : Bool} {old : Held Tok Cx St Er} where
  run : {new : Held Tok Cx St Er} {r : Result (Option W) Fault}
      → Ran merged safe (Chained part (GivenShown gives old.place)) wanted old new r
      → Ran merged safe (MappedWith gives part) wanted old new r
  run {new} {r} h = ran-weaker merged safe (Chained part (GivenShown gives old.place)) (MappedWith gives part) wanted old new r (λ o m. record { run = m }) h

  module _ {mid : Held Tok Cx St Er} {x : Result (Option V) Fault} (h : Ran merged safe part wanted old mid x) where
    pub mapped_with-failed : {f : Fault} {y : Result (Option W) Fault} → x ≡ Err f → y ≡ Err f → Ran merged safe (MappedWith gives part) wanted old mid y
    mapped_with-failed e d = run (failed h e d)

    pub mapped_with-given : {v : V} {w : W} {new : Held Tok Cx St Er} → x ≡ Ok (Some v)
        → new ≡ record mid { state = new.state } → gives v (shown_from old.place mid) w new.state
        → Ran merged safe (MappedWith gives part) wanted old new (Ok (Some w))
    mapped_with-given e n g = run (chained h e (ran-shown old.place n g))

  -- without a value the part's answer is handed on
  pub mapped_with-check : {new : Held Tok Cx St Er} (r : Result (Unit {0}) Fault)
      → Ran merged safe part wanted old new (without_value r)
      → Ran merged safe (MappedWith gives part) wanted old new (without_value r)
  mapped_with-check (Ok u) h = run (chained h refl (ran-not_shown old.place))
  mapped_with-check (Err f) h = mapped_with-failed h refl refl
