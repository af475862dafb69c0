-- What is left of one more part after an answer.
use Rattle.std.proofs.Common.{true, false, Result, Ok, Err, refl}
use Rattle.chumsky_input.specs.declared.stop.Fault.{Fault}
use Rattle.chumsky_input.specs.Held.{Held}
use Rattle.chumsky_input.specs.Outcome.{Meaning}
use Rattle.chumsky_input.specs.Run.{Ran, with_value, without_value}
use Rattle.chumsky_parser.specs.Chained.{Sequence}
use Rattle.chumsky_parser.proofs.ChainedLemmas.{failed, chained, ran-given, last_check}
use Rattle.chumsky_group.specs.Next.{paired, RanAfter, CheckedAfter}

module _ {Tok Cx St Er V W : Type 0} {merged : Er → Er → Er} {safe : Type 0} {m : Meaning Tok Cx St Er V} {n : Meaning Tok Cx St Er W} {old mid new : Held Tok Cx St Er} where
  after_value : (v : V) (s : Result W Fault) → Ran merged safe m true old mid (with_value (Ok v))
      → Ran merged safe n true mid new (with_value s)
      → Ran merged safe (Sequence m n) true old new (with_value (paired v s))
  after_value v (Ok w) h k = chained h refl (chained k refl ran-given)
  after_value v (Err f) h k = chained h refl (failed k refl refl)

  pub ran-after : (x : Result V Fault) (r : Result (V × W) Fault) → Ran merged safe m true old mid (with_value x)
      → RanAfter merged safe n x mid new r → Ran merged safe (Sequence m n) true old new (with_value r)
  ran-after (Ok v) r h k = rw k.2 (after_value v k.0 h k.1)
  ran-after (Err f) r h k = rw (k.1, k.0) (failed h refl refl)

  pub checked-after : (x r : Result (Unit {0}) Fault) → Ran merged safe m false old mid (without_value x)
      → CheckedAfter merged safe n x mid new r → Ran merged safe (Sequence m n) false old new (without_value r)
  checked-after (Ok v) r h k = chained h refl (last_check r k (λ b o e. e))
  checked-after (Err f) r h k = rw (k.1, k.0) (failed h refl refl)
