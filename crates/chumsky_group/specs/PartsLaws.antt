-- Why parts that run one after another stop.
use Rattle.std.proofs.Common.{◌≡◌, Option, option_map, sym, ◌∙◌, ap, refl, inl, inr}
use Rattle.std.specs.Prelude.{◌⊎◌}
use Rattle.chumsky_input.specs.declared.stop.Stop.{Stop}
use Rattle.chumsky_input.specs.Outcome.{Meaning, Beginning, Outcome, Verdict, Yes, No, Halt, Clash}
use Rattle.chumsky_parser.specs.Chained.{Chained, Follows, Given, Sequence, both, from}
use Rattle.chumsky_group.specs.Parts.{StopsBy}
use Rattle.chumsky_group.specs.Regrouped.{Regrouped}

module _ {Tok Cx St Er V W : Type 0} (s : Stop) {part : Meaning Tok Cx St Er V} {next : Option V → Meaning Tok Cx St Er W} where
  follows_stops : (b : Beginning Tok Cx St) (o : Outcome W Er St) (p : Outcome V Er St) (u : Verdict V Er)
      → p.verdict ≡ u → part b p → Follows u next b p o → o.verdict ≡ Halt s
      → StopsBy s part ⊎ ((v : Option V) × StopsBy s (next v))
  follows_stops b o p (Yes v) d m f e = inr (v, record { start = from b p; outcome = f.0; meant = f.1; stops = sym (ap (λ (x : Outcome W Er St). x.verdict) f.2) ∙ e })
  follows_stops b o p No d m f e = let no : ⊥ = cc in absurd no
  follows_stops b o p (Halt t) d m f e =
      let same : p.verdict ≡ Halt s = cc in
      inl (record { start = b; outcome = p; meant = m; stops = same })
  follows_stops b o p (Clash x) d m f e = let no : ⊥ = cc in absurd no

  chained_stops : StopsBy s (Chained part next) → StopsBy s part ⊎ ((v : Option V) × StopsBy s (next v))
  chained_stops x = follows_stops x.start x.outcome x.meant.first x.meant.first.verdict refl x.meant.meant x.meant.follows x.stops

module _ {Tok Cx St Er V : Type 0} (s : Stop) where
  given_stops : (v : Option V) → StopsBy {Tok = Tok} {Cx = Cx} {St = St} {Er = Er} s (Given v) → ⊥
  given_stops v x =
      let meant = x.meant in
      let stops = x.stops in
      cc

module _ {Tok Cx St Er V W : Type 0} (s : Stop) (first : Meaning Tok Cx St Er V) (second : Meaning Tok Cx St Er W) where
  -- a sequence stops by its first part or by its second
  pub and-stops : {P : Type 0} → (StopsBy s first → P) → (StopsBy s second → P) → StopsBy s (Sequence first second) → P
  and-stops h k x = elim (chained_stops s x) [
    | inl f ↦ h f
    | inr n ↦ elim (chained_stops s n.1) [ inl g ↦ k g | inr w ↦ absurd (given_stops s (both n.0 w.0) w.1) ]
  ]

module _ {Tok Cx St Er V W : Type 0} (s : Stop) (f : V → W) (part : Meaning Tok Cx St Er V) where
  -- a part whose value is put together anew stops by itself alone
  pub grouped-stops : StopsBy s (Regrouped f part) → StopsBy s part
  grouped-stops x = elim (chained_stops s x) [ inl g ↦ g | inr n ↦ absurd (given_stops s (option_map f n.0) n.1) ]
