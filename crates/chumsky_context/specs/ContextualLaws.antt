-- The laws of a part that the context turns on or off.
use Rattle.std.proofs.Common.{◌≡◌, ◌≤◌, Bool, true, false, None, [], ◌∷◌, arith}
use Rattle.chumsky_input.specs.declared.error.Error as error_trait
use Rattle.chumsky_input.specs.declared.input.Input as input_trait
use Rattle.chumsky_input.specs.Wanted as wanted
use Rattle.chumsky_input.specs.Outcome.{Meaning, Beginning, Outcome, IsAnswer, Alike, Agree, EndsAfterStart, Agreeing}
use Rattle.chumsky_parser.specs.Failure.{expects}
use Rattle.chumsky_parser.specs.FailureLaws.{misses-agree, misses-ends}
use Rattle.chumsky_context.specs.Contextual.{OnOrOff, WhereOn}

module _ {I Tok Sp Cu Er St Cx V : Type 0} (source : input_trait.Ghosts I Cu Tok Sp) (errors : error_trait.Ghosts Er I Tok Sp) where
  on_or_off-ends : (on : Bool) (part : Meaning Tok Cx St errors.Seen V) → EndsAfterStart part
      → (b : Beginning Tok Cx St) (o : Outcome V errors.Seen St) → OnOrOff source errors on part b o
      → IsAnswer o.verdict → b.start ≤ o.end
  on_or_off-ends true part h b o m a = h b o m a
  on_or_off-ends false part h b o m a = misses-ends (λ _ _. ⊥) (omega arith) m a

  pub where_on-ends : (on : Bool) (part : Meaning Tok Cx St errors.Seen V) → EndsAfterStart part → EndsAfterStart (WhereOn source errors on part)
  where_on-ends on part h b o m a = on_or_off-ends on part h b o m.cases a

  on_or_off-agrees : (on : Bool) (part : Meaning Tok Cx St errors.Seen V) (same : V → V → Type 0) → Agreeing same part part
      → (b c : Beginning Tok Cx St) (o q : Outcome V errors.Seen St) → Alike b c → OnOrOff source errors on part b o
      → OnOrOff source errors on part c q → IsAnswer o.verdict → IsAnswer q.verdict → Agree same o q
  on_or_off-agrees true part same h b c o q alike m n a z = h b c o q alike m n a z
  on_or_off-agrees false part same h b c o q alike m n a z =
      let event : expects source errors b.tokens (wanted.NothingElse ∷ []) None b.start b.start
      ≡ expects source errors c.tokens (wanted.NothingElse ∷ []) None c.start c.start =
      cc (alike.tokens, alike.start) in
      misses-agree same event alike.start alike.state m n a z

  pub where_on-agrees : (on : Bool) (part : Meaning Tok Cx St errors.Seen V) (same : V → V → Type 0)
      → Agreeing same part part → Agreeing same (WhereOn source errors on part) (WhereOn source errors on part)
  where_on-agrees on part same h b c o q alike m n a z = on_or_off-agrees on part same h b c o q alike m.cases n.cases a z
