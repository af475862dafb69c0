use Rattle.std.proofs.Common.{rules, false, map, sym, ap, ◌∙◌}
use Rattle.std.proofs.lemmas.Simd.{map-map}
use Rattle.std.specs.Vec.Covariant.{in_vec}
use Rattle.chumsky_folds.proofs.PlacingLemmas.{back-alike, vec-holds}
use Rattle.chumsky_folds.proofs.laws.foldr_with_by_a_blind_folder_is_foldr.Goals as goal

pub returns : goal.returns
returns g c blind =
    back-alike _ _ _ _ _ _ blind (in_vec (λ x. x.0))
    (λ xs v h. sym (map-map (λ x. x.0) (λ x. (x.0, g.I.Input.place x.1)) v.items) ∙ ap (λ l. map (λ x. x.0) l) h)
    (λ xs ys v e d. sym e ∙ d) (vec-holds g.I.Input g.E.State.Inspector) _
    ((g.met.A.IterParser c.lifetimes (search rules)).ends_after_start c.args.foldr.now.items (record { nonconsumption_is_ok = false }))
    ((g.met.B.Parser c.lifetimes (search rules)).ends_after_start c.args.foldr.now.parser)
