-- A part whose value is put together anew has its outcomes, the value put through the function.
use Rattle.std.proofs.Common.{◌≡◌, ℕ, Option, Some, None, List, [], option_map, refl, sym, ap, subst}
use Rattle.std.proofs.lemmas.List.{append-nil}
use Rattle.chumsky_input.specs.Outcome.{Event, Meaning, Beginning, Outcome, Verdict, Yes, No, Halt, Clash}
use Rattle.chumsky_parser.specs.Chained.{Follows, Given}
use Rattle.chumsky_combinator.specs.Compared.{shown_as, ShownAs}
use Rattle.chumsky_group.specs.Regrouped.{Regrouped}

module _ {V W : Type 0} (f : V → W) (g : W → V) (h : (v : V) → g (f v) ≡ v) where
  there_and_back : (v : Option V) → option_map g (option_map f v) ≡ v
  there_and_back (Some v) = ap Some (h v)
  there_and_back None = refl

module _ {Tok Cx St Er V W : Type 0} (f : V → W) (part : Meaning Tok Cx St Er V) where
  shown : (b : Beginning Tok Cx St) (v : Verdict V Er) (end : ℕ) (state : St) (events : List (Event Er)) (emitted : List Er)
      → let p : Outcome V Er St = record { verdict = v; end = end; state = state; events = events; emitted = emitted } in
      Follows v (λ w. Given (option_map f w)) b p (shown_as f p)
  shown b (Yes v) end state events emitted = (record { verdict = Yes (option_map f v); end = end; state = state; events = []; emitted = [] }, refl, rw (append-nil events, append-nil emitted) refl)
  shown b No end state events emitted = refl
  shown b (Halt s) end state events emitted = refl
  shown b (Clash e) end state events emitted = refl

  pub regrouped-shown : ShownAs f part (Regrouped f part)
  regrouped-shown b o m = record { first = o; meant = m; follows = shown b o.verdict o.end o.state o.events o.emitted }

module _ {Tok Cx St Er V W : Type 0} (f : V → W) (g : W → V) (h : (v : V) → g (f v) ≡ v) (part : Meaning Tok Cx St Er V) where
  shown_back : (b : Beginning Tok Cx St) (o : Outcome W Er St) (v : Verdict V Er) (end : ℕ) (state : St) (events : List (Event Er)) (emitted : List Er)
      → let p : Outcome V Er St = record { verdict = v; end = end; state = state; events = events; emitted = emitted } in
      Follows v (λ w. Given (option_map f w)) b p o → shown_as g o ≡ p
  shown_back b o (Yes v) end state events emitted m = rw (m.2, m.1, there_and_back f g h v, append-nil events, append-nil emitted) refl
  shown_back b o No end state events emitted m = rw m refl
  shown_back b o (Halt s) end state events emitted m = rw m refl
  shown_back b o (Clash e) end state events emitted m = rw m refl

  -- and the other way round, where g undoes f
  pub regrouped-shown_back : ShownAs g (Regrouped f part) part
  regrouped-shown_back b o m = subst (part b) (sym (shown_back b o m.first.verdict m.first.end m.first.state m.first.events m.first.emitted m.follows)) m.meant
