use Rattle.std.proofs.Common.{⊎_elim, inl, inr}
use Rattle.chumsky_input.proofs.emitter.Emitter+Rich+T.emit_message.Goals as goal

pub returns-in-Ok : goal.returns-in-Ok
returns-in-Ok g c =
    let m = c.in-Ok.ensures.message in
    ⊎_elim (λ sent. inl (c.in-Ok.error, record { span = c.in-Ok.ensures.span; found = c.in-Ok.ensures.found; patterns = c.in-Ok.ensures.patterns; text = m.0; message = m.1; is_printed = m.2 }, sent.0, sent.1))
    (λ lost. inr lost) c.emit.ensures
