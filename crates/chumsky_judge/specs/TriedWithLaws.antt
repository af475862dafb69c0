-- A fallible mapper that is shown the run, and answers alike.
use Rattle.std.specs.Prelude.{⊤}
use Rattle.std.proofs.Common.{◌≡◌, ℕ, Result, Ok, Err, refl, sym, ap, ◌∙◌, subst}
use Rattle.chumsky_input.specs.Extra.{Shown}
use Rattle.chumsky_input.specs.Outcome.{Beginning, Alike}
use Rattle.chumsky_parser.specs.Showing.{GivesShown}
use Rattle.chumsky_judge.specs.Vetted.{SameRuling, VetsAlike}
use Rattle.chumsky_judge.specs.Tried.{ruling_seen}
use Rattle.chumsky_judge.specs.TriedWith.{shown_of, ByTryWith, TriesWithAlike, SameTriedWith}

module _ {Tok Cx St E Er V W : Type 0} (seen : E → Er) (says : GivesShown Tok Cx St V (Result W E)) (same : V → V → Type 0) where
  tried-same : (v v' : V) (z : Shown Tok Cx St) (s t : St) (x y : Result W E) → same v v' → says v z x s
      → says v' z y t → SameRuling (λ _ _. ⊤) (ruling_seen seen x) (ruling_seen seen y)
      → SameRuling (SameTriedWith seen says same) (ruling_seen seen x) (ruling_seen seen y)
  tried-same v v' z s t (Ok x) (Ok y) e m n u = record { first = v; second = v'; shown = z; state = s; other_state = t; alike = e; from_first = m; from_second = n }
  tried-same v v' z s t (Ok x) (Err d) e m n u = u
  tried-same v v' z s t (Err d) (Ok y) e m n u = u
  tried-same v v' z s t (Err d) (Err d') e m n u = u

  pub tries_with-alike : TriesWithAlike seen says same → VetsAlike same (SameTriedWith seen says same) (ByTryWith seen says)
  tries_with-alike u b c end s t t' v v' r r' alike e m n =
      let there : shown_of c end s ≡ shown_of b end s = cc (alike.tokens, alike.start, alike.context) in
      let answers : says v' (shown_of b end s) n.ruling t' = subst (λ z. says v' z n.ruling t') there n.answers in
      let k = u v v' (shown_of b end s) m.ruling n.ruling t t' e m.answers answers in
      (rw (m.answer, n.answer) (tried-same v v' (shown_of b end s) t t' m.ruling n.ruling e m.answers answers k.0), k.1)
