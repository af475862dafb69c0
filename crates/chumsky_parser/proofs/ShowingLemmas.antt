-- What is left of what was shown the run.
use Rattle.std.proofs.Common.{◌≡◌, ℕ, Bool, Some, None, [], refl, sym, ap, ◌∙◌, Ok}
use Rattle.std.proofs.lemmas.List.{append-nil}
use Rattle.chumsky_input.specs.Extra.{shown_from}
use Rattle.chumsky_input.specs.Held.{Held}
use Rattle.chumsky_input.specs.Outcome.{Yes}
use Rattle.chumsky_input.specs.Run.{Ran}
use Rattle.chumsky_input.proofs.PrimaryLemmas.{kept-same}
use Rattle.chumsky_parser.specs.Chained.{Given}
use Rattle.chumsky_parser.specs.Showing.{GivesShown, GivenShown}
use Rattle.chumsky_parser.proofs.ChainedLemmas.{ran-weaker, ran-given}

module _ {Tok Cx St Er V W : Type 0} {merged : Er → Er → Er} {safe : Type 0} {gives : GivesShown Tok Cx St V W} {wanted : Bool} where
  -- a call was shown the run, and left what it was lent but for the state
  pub ran-shown : (from : ℕ) {v : V} {w : W} {mid new : Held Tok Cx St Er} → new ≡ record mid { state = new.state }
      → gives v (shown_from from mid) w new.state
      → Ran merged safe (GivenShown gives from (Some v)) wanted mid new (Ok (Some w))
  ran-shown from {v} {w} {mid} {new} n g =
      record {
        outcome = record { verdict = Yes (Some w); end = mid.place; state = new.state; events = []; emitted = [] };
        meant = record { by_value = (w, new.state, g, refl) };
        answered = refl;
        state = refl;
        left = record {
          end = ap (λ (z : Held Tok Cx St Er). z.place) n;
          kept = ap (λ (z : Held Tok Cx St Er). z.kept) n ∙ kept-same merged mid.kept;
          emitted = ap (λ (z : Held Tok Cx St Er). z.emitted) n ∙ sym (append-nil mid.emitted);
          stopped = ap (λ (z : Held Tok Cx St Er). z.stopped) n;
        };
        same = record { tokens = ap (λ (z : Held Tok Cx St Er). z.tokens) n; context = ap (λ (z : Held Tok Cx St Er). z.context) n };
      }

  pub ran-not_shown : (from : ℕ) {mid : Held Tok Cx St Er} → Ran merged safe (GivenShown gives from None) wanted mid mid (Ok None)
  ran-not_shown from {mid} = ran-weaker merged safe (Given None) (GivenShown gives from None) wanted mid mid (Ok None) (λ o m. record { by_value = m }) ran-given
