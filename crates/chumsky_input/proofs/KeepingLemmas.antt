-- What is kept after one more event.
use Rattle.std.specs.Prelude.{⊤, MatchOption}
use Rattle.std.proofs.Common.{arith, inl, inr, ◌≡◌, ℕ, ◌<◌, ◌≤◌, ◌++◌, [], ◌∷◌, Option, Some, None, option_map, option_to_list, refl, sym, ◌∙◌, ap, subst}
use Rattle.chumsky_input.specs.declared.input_ref.Located.{Located}
use Rattle.chumsky_input.specs.declared.stop.Fault.{Fault}
use Rattle.chumsky_input.specs.declared.stop.Fault.TheVariants as fault
use Rattle.chumsky_input.specs.declared.stop.Stop.TheVariants.{Memory}
use Rattle.chumsky_input.specs.Outcome.{Event}
use Rattle.chumsky_input.specs.Held.{Held, located}
use Rattle.chumsky_input.specs.Run.{Fails, KeepsPast}
use Rattle.chumsky_input.specs.Primary.{primary}
use Rattle.chumsky_input.specs.Keeping.{kept_event, KeepsOrLoses}
use Rattle.chumsky_input.proofs.PrimaryLemmas.{kept-none, kept-further, kept-here}

module _ {E Er : Type 0} (merged : Er → Er → Er) (seen : E → Er) {p : ℕ} {x y : Er} where
  -- the first event; y is what its error shows
  pub keeps_first : {o : Option (Located E)} → None ≡ o → y ≡ x → Some (record { place = p; error = y }) ≡ primary merged (option_to_list (kept_event seen o) ++ record { place = p; error = x } ∷ [])
  keeps_first {o = o} n e = ap (λ z. Some (record { place = p; error = z })) e ∙ kept-none merged (kept_event seen o) (record { place = p; error = x }) (ap (kept_event seen) (sym n))

  -- one further on
  pub keeps_further : {o : Option (Located E)} {k : Located E} → Some k ≡ o → k.place < p → y ≡ x
      → Some (record { place = p; error = y }) ≡ primary merged (option_to_list (kept_event seen o) ++ record { place = p; error = x } ∷ [])
  keeps_further {o = o} {k = k} n l e =
      ap (λ z. Some (record { place = p; error = z })) e
      ∙ kept-further merged (kept_event seen o) (record { place = k.place; error = seen k.error })
      (record { place = p; error = x }) (ap (kept_event seen) (sym n)) l

  -- one at the same place, which is not before p
  pub keeps_here : {o : Option (Located E)} {k : Located E} → Some k ≡ o → MatchOption o ⊤ (λ older. older.place ≤ p)
      → p ≤ k.place → y ≡ merged (seen k.error) x
      → Some (record { place = p; error = y }) ≡ primary merged (option_to_list (kept_event seen o) ++ record { place = p; error = x } ∷ [])
  keeps_here {o = o} {k = k} n near l e =
      let m : k.place ≤ p = subst (λ z. MatchOption z ⊤ (λ older. older.place ≤ p)) (sym n) near in
      kept-here merged (kept_event seen o) (record { place = k.place; error = seen k.error }) (record { place = p; error = x }) y (ap (kept_event seen) (sym n)) (omega (arith, l, m)) e

  -- the same, where the place is left as it is
  pub keeps_there : {o : Option (Located E)} {k : Located E} → Some k ≡ o → MatchOption o ⊤ (λ older. older.place ≤ p)
      → p ≤ k.place → y ≡ merged (seen k.error) x
      → Some (record { place = k.place; error = y })
      ≡ primary merged (option_to_list (kept_event seen o) ++ record { place = p; error = x } ∷ [])
  keeps_there {o = o} {k = k} n near l e =
      let m : k.place ≤ p = subst (λ z. MatchOption z ⊤ (λ older. older.place ≤ p)) (sym n) near in
      let here : k.place ≡ p = omega (arith, l, m) in
      ap (λ z. Some (record { place = z; error = y })) here ∙ keeps_here n near l e

-- nothing is kept past a place
pub not_past : {E Er : Type 0} (seen : E → Er) (p : ℕ) (o : Option (Located E)) → (KeepsPast p (option_map (located seen) o) → ⊥) → MatchOption o ⊤ (λ older. older.place ≤ p)
not_past seen p None n = tt
not_past seen p (Some k) n = omega (arith, n)

module _ {Tok Cx St Er : Type 0} (merged : Er → Er → Er) (safe : Type 0) (old : Held Tok Cx St Er) (e : Event Er) where
  -- a failure whose event is kept, and one for whose error there is no memory
  pub fails_kept : {k : Option (Event Er)} → k ≡ primary merged (option_to_list old.kept ++ e ∷ []) → Fails merged safe e old (record old { kept = k }) fault.Fail
  fails_kept q = inl (ap (λ z. record old { kept = z }) q)

  pub fails_lost : {k : Option (Event Er)} → (safe → ⊥) → KeepsOrLoses e old.kept k → Fails merged safe e old (record old { kept = k }) (fault.Stop Memory)
  fails_lost n (inl q) = inr (refl, n, ap (λ z. record old { kept = z }) q)
  fails_lost n (inr h) = inl (refl, n, h.0, ap (λ z. record old { kept = z }) h.1)

module _ {Tok Cx St Er : Type 0} (merged : Er → Er → Er) (safe : Type 0) (old new : Held Tok Cx St Er) where
  pub fails_at : {p q : ℕ} {x y : Er} (f : Fault) → p ≡ q → x ≡ y → Fails merged safe (record { place = p; error = x }) old new f → Fails merged safe (record { place = q; error = y }) old new f
  fails_at f e d a = rw (sym e, sym d) a
