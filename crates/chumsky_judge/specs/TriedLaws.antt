-- Judges that answer alike.
use Rattle.std.proofs.Common.{◌≡◌, ℕ, Option, Some, None, Result, Ok, Err, refl, sym, ap, ◌∙◌, subst}
use Rattle.std.specs.Prelude.{⊤}
use Rattle.chumsky_input.specs.declared.error.Error as error_trait
use Rattle.chumsky_input.specs.declared.input.Input as input_trait
use Rattle.chumsky_input.specs.Outcome.{Beginning, Alike}
use Rattle.chumsky_judge.specs.Vetted.{SameRuling, VetsAlike}
use Rattle.chumsky_judge.specs.Tried.{ruling_seen, ByTry, ByPick, picked, TriesAlike, SameTryMapped, SamePick, FilterMapsAlike, SameFilterMapped}

module _ {V W Sp Er S : Type 0} (same : V → V → Type 0) (seen : Er → S) (gives : V → Sp → Result W Er → Type 0) where
  tried-same : (v v' : V) (span : Sp) (x y : Result W Er) → same v v' → gives v span x → gives v' span y
      → SameRuling (λ _ _. ⊤) (ruling_seen seen x) (ruling_seen seen y)
      → SameRuling (SameTryMapped same seen gives) (ruling_seen seen x) (ruling_seen seen y)
  tried-same v v' span (Ok x) (Ok y) e m n s = record { first = v; second = v'; span = span; alike = e; from_first = m; from_second = n }
  tried-same v v' span (Ok x) (Err d) e m n s = s
  tried-same v v' span (Err d) (Ok y) e m n s = s
  tried-same v v' span (Err d) (Err d') e m n s = s

module _ {I Tok Sp Cu Er St Cx V W : Type 0} (source : input_trait.Ghosts I Cu Tok Sp) (errors : error_trait.Ghosts Er I Tok Sp) (same : V → V → Type 0) where
  module _ (gives : V → Sp → Result W Er → Type 0) where
    pub tries-alike : TriesAlike same errors.seen gives → VetsAlike same (SameTryMapped same errors.seen gives) (ByTry {St = St} {Cx = Cx} source errors gives)
    tries-alike u b c end s t t' v v' r r' alike e m n =
        let span = source.span_between b.tokens b.start end in
        let there : source.span_between c.tokens c.start end ≡ span = cc (alike.tokens, alike.start) in
        let says : gives v' span n.ruling = subst (λ z. gives v' z n.ruling) there n.says in
        (rw (m.answer, n.answer) (tried-same same errors.seen gives v v' span m.ruling n.ruling e m.says says (u v v' span m.ruling n.ruling e m.says says)), m.keeps ∙ sym n.keeps)

  module _ (gives : V → Option W → Type 0) where
    picked-same : (b c : Beginning Tok Cx St) (end : ℕ) (v v' : V) (x y : Option W) → Alike b c → same v v'
        → gives v x → gives v' y → SamePick (λ _ _. ⊤) x y
        → SameRuling (SameFilterMapped same gives) (picked source errors x b end) (picked source errors y c end)
    picked-same b c end v v' (Some x) (Some y) alike e m n s = record { first = v; second = v'; alike = e; from_first = m; from_second = n }
    picked-same b c end v v' (Some x) None alike e m n s = absurd s
    picked-same b c end v v' None (Some y) alike e m n s = absurd s
    picked-same b c end v v' None None alike e m n s = cc (alike.tokens, alike.start)

    pub picks-alike : FilterMapsAlike same gives → VetsAlike same (SameFilterMapped same gives) (ByPick {St = St} {Cx = Cx} source errors gives)
    picks-alike u b c end s t t' v v' r r' alike e m n =
        (rw (m.answer, n.answer) (picked-same b c end v v' m.pick n.pick alike e m.says n.says (u v v' m.pick n.pick e m.says n.says)), m.keeps ∙ sym n.keeps)
