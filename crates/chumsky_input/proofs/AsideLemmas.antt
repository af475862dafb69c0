-- What is left where older errors are brought back.
use Rattle.std.proofs.Common.{◌≡◌, Option, Some, None, List, ◌++◌, option_map, option_to_list, refl, sym, ◌∙◌, ap, subst}
use Rattle.chumsky_input.specs.declared.input_ref.Located.{Located}
use Rattle.chumsky_input.specs.declared.stop.Stop.{Stop}
use Rattle.chumsky_input.specs.declared.stop.Fault.TheVariants as fault
use Rattle.chumsky_input.specs.Outcome.{Event}
use Rattle.chumsky_input.specs.Primary.{primary}
use Rattle.chumsky_input.specs.Held.{Held, located}
use Rattle.chumsky_input.specs.Run.{Adds}
use Rattle.chumsky_input.specs.Aside.{kept_after, ClashesWith, SameButErrors}
use Rattle.chumsky_input.proofs.PrimaryLemmas.{kept-same}

module _ {Tok Cx St Er E : Type 0} (merged : Er → Er → Er) (seen : E → Er) (h : Held Tok Cx St Er) (older : Option (Event Er)) where
  pub keeps_older : {o : Option (Located E)} → h.kept ≡ option_map (located seen) o → None ≡ o → record h { kept = older } ≡ kept_after merged older h
  keeps_older q n = ap (λ k. record h { kept = k }) (kept-same merged older ∙ ap (λ k. primary merged (option_to_list older ++ option_to_list k)) (sym (q ∙ ap (option_map (located seen)) (sym n))))

module _ {Tok Cx St Er E : Type 0} (merged : Er → Er → Er) (safe : Type 0) (seen : E → Er) (h : Held Tok Cx St Er) (older : Option (Event Er)) where
  pub clashes_older : {o : Option (Located E)} {k : Located E} {new : Held Tok Cx St Er} {s : Stop}
      → h.kept ≡ option_map (located seen) o → Some k ≡ o
      → Adds merged safe (located seen k) (record h { kept = older }) new (fault.Stop s)
      → ClashesWith safe older h.kept × (new ≡ record h { kept = None })
  clashes_older {k = k} q n a = ((located seen k, q ∙ ap (option_map (located seen)) (sym n), a.1, a.2), a.3)

module _ {Tok Cx St Er : Type 0} (safe : Type 0) (h : Held Tok Cx St Er) (older : Option (Event Er)) where
  pub clashes_after : {es : List Er} {mid new : Held Tok Cx St Er} → mid ≡ record h { emitted = es }
      → ClashesWith safe older mid.kept × (new ≡ record mid { kept = None })
      → ClashesWith safe older h.kept × SameButErrors h new
  clashes_after e k = (
    subst (λ (m : Held Tok Cx St Er). ClashesWith safe older m.kept) e k.0,
    subst (λ (x : Held Tok Cx St Er). SameButErrors h x) (sym (k.1 ∙ ap (λ (m : Held Tok Cx St Er). record m { kept = None }) e)) refl,
  )
