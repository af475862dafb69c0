-- What counts of a `Cheap` and of a `Simple`.
use Rattle.std.specs.Prelude.{Option, option_map}
use Rattle.chumsky_input.specs.declared.span.SimpleSpan.{SimpleSpan}
use Rattle.chumsky_input.specs.declared.simple.Cheap.{Cheap}
use Rattle.chumsky_input.specs.declared.simple.Simple.{Simple}

-- where the error stands
abbrev pub cheap_span : Cheap → SimpleSpan
cheap_span e = e.span

-- where the error stands
abbrev pub simple_span : {T : Type 0} → Simple T → SimpleSpan
simple_span e = e.span

-- the token that was found; none at the end of input
abbrev pub simple_found : {T : Type 0} → Simple T → Option T
simple_found e = e.found

-- what counts of a `Simple`, where S is what counts of a token
pub record SimpleSeen (S : Type 0) : Type 0 where
  pub span : SimpleSpan
  pub found : Option S

-- what counts of e, where `seen` shows what counts of a token
abbrev pub simple_seen : {T S : Type 0} → (T → S) → Simple T → SimpleSeen S
simple_seen seen e = record { span = simple_span e; found = option_map seen (simple_found e) }

-- the error where f was found
abbrev pub simple_expectation : {T S : Type 0} → (T → S) → Option T → SimpleSpan → SimpleSeen S
simple_expectation seen f span = record { span = span; found = option_map seen f }
