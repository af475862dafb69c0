-- What a failure leaves.
use Rattle.std.proofs.Common.{◌≡◌, ℕ, ◌<◌, Option, Some, None, List, map, option_map, take, refl, sym, ◌∙◌, ap}
use Rattle.std.proofs.lemmas.List.{take-map}
use Rattle.chumsky_input.specs.declared.input_ref.Located.{Located}
use Rattle.chumsky_input.specs.declared.stop.Fault.{Fault}
use Rattle.chumsky_input.specs.Outcome.{Event}
use Rattle.chumsky_input.specs.Held.{Held, Marks, located}
use Rattle.chumsky_input.specs.Run.{added, gone_back, KeepsPast, Adds}
use Rattle.chumsky_input.proofs.PrimaryLemmas.{kept-none, kept-further, kept-nearer, kept-here}

module _ {Tok Cx St Er E : Type 0} (merged : Er → Er → Er) (seen : E → Er) (h : Held Tok Cx St Er) (e : Event Er) where
  pub adds_first : {o : Option (Located E)} → h.kept ≡ option_map (located seen) o → None ≡ o → record h { kept = Some e } ≡ added merged h e
  adds_first q n = ap (λ k. record h { kept = k }) (kept-none merged h.kept e (q ∙ ap (option_map (located seen)) (sym n)))

  pub adds_further : {o : Option (Located E)} {k : Located E} → h.kept ≡ option_map (located seen) o → Some k ≡ o → k.place < e.place → record h { kept = Some e } ≡ added merged h e
  adds_further {o} {k} q n l = ap (λ z. record h { kept = z }) (kept-further merged h.kept (located seen k) e (q ∙ ap (option_map (located seen)) (sym n)) l)

  pub adds_nearer : {o : Option (Located E)} {k : Located E} → h.kept ≡ option_map (located seen) o → Some k ≡ o → e.place < k.place → record h { kept = Some (located seen k) } ≡ added merged h e
  adds_nearer {o} {k} q n l = ap (λ z. record h { kept = z }) (kept-nearer merged h.kept (located seen k) e (q ∙ ap (option_map (located seen)) (sym n)) l)

  pub adds_here : {o : Option (Located E)} {k : Located E} {m : Er} → h.kept ≡ option_map (located seen) o
      → Some k ≡ o → k.place ≡ e.place → m ≡ merged (seen k.error) e.error
      → record h { kept = Some (record { place = e.place; error = m }) } ≡ added merged h e
  adds_here {o} {k} {m} q n l w = ap (λ z. record h { kept = z }) (kept-here merged h.kept (located seen k) e m (q ∙ ap (option_map (located seen)) (sym n)) l w)

module _ {Tok Cx St Er : Type 0} (merged : Er → Er → Er) (h : Held Tok Cx St Er) (e : Event Er) where
  past : (o : Option (Event Er)) → h.kept ≡ o → KeepsPast e.place o → h ≡ added merged h e
  past None q k = absurd k
  past (Some k) q l = ap (λ z. record h { kept = z }) (q ∙ kept-nearer merged h.kept k e q l)

  pub adds_nothing : KeepsPast e.place h.kept → h ≡ added merged h e
  adds_nothing k = past h.kept refl k

module _ {Tok Cx St Er E Mk : Type 0} (seen : E → Er) (back : St → Mk → St) (h : Held Tok Cx St Er) (c : Marks Tok Mk) where
  pub cut : {state : St} (old : List E) {new : List E} → h.emitted ≡ map seen old → c.tokens ≡ h.tokens → state ≡ back h.state c.mark → new ≡ take c.emitted old
      → record h { tokens = c.tokens; place = c.place; state = state; emitted = map seen new } ≡ gone_back back h c
  cut {state} old {new} q t s n = cc (t, s, ap (map seen) n ∙ sym (take-map seen c.emitted old) ∙ ap (take c.emitted) (sym q))

module _ {Tok Cx St Er : Type 0} (merged : Er → Er → Er) (safe : Type 0) (old new : Held Tok Cx St Er) where
  pub adds_at : {p q : ℕ} {x y : Er} (f : Fault) → p ≡ q → x ≡ y → Adds merged safe (record { place = p; error = x }) old new f → Adds merged safe (record { place = q; error = y }) old new f
  adds_at f e d a = rw (sym e, sym d) a
