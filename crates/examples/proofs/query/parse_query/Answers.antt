use Rattle.std.proofs.Common.{refl, inl, inr}
use Rattle.chumsky.specs.AcceptedLaws.{exactly-by_words}
use Rattle.chumsky.specs.Accepted.{Exactly}
use Rattle.examples.specs.Query.{IsQuery}
use Rattle.examples.specs.QueryLaws.{query-sound, query-complete, zero_stops, any_number}
use Rattle.examples.proofs.query.parse_query.Goals as goal

pub returns : goal.returns
returns c =
    let bytes = c.args.bytes.now in
    let exact : Exactly IsQuery bytes c.parse_bytes.result =
    exactly-by_words IsQuery (c.parse_bytes.ensures.reads refl) refl (
      ((((((tt, tt, λ w rest h f. tt), (tt, tt, λ w rest h f. tt), λ w rest h f. tt), (tt, tt, λ w rest h f. tt), λ w rest h f. tt), (tt, tt, λ w rest h f. tt), λ w rest h f. tt), (tt, tt, λ w rest h f. tt), λ w rest h f. tt), (tt, tt, λ w rest h f. tt), λ w rest h f. tt),
      λ head. (((((((tt, λ v. ((tt, λ w rest h f. tt), λ w rest h f. tt)), λ w rest h f v. (tt, inl (any_number v))), tt, λ w rest h f. (λ v. (tt, inl (any_number v)), inr (zero_stops _ w rest h))), (tt, tt, λ w rest h f. tt), λ w rest h f. tt), (tt, tt, λ w rest h f. tt), λ w rest h f. tt), λ w rest h f. tt), λ w rest h f. tt),
    )
    (λ head. (tt, inl (any_number head.questions)))
    (λ v w s. query-sound bytes s.0.0 s.0.1 v s.1 s.2) (λ v i. query-complete bytes v i) in
    record { exact = exact; errors = c.parse_bytes.ensures.errors }
