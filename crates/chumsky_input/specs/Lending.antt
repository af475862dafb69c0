-- What is lent out of a run.
use Rattle.std.specs.Prelude.{[]}
use mir.Syntax.{named}
use Rattle.std.specs.Borrow.{Lends, MutBor, Fml, RattleType}
use Rattle.chumsky_input.specs.declared.input_ref.InputRef.{InputRef}
use Rattle.chumsky_input.specs.contracts.input_ref.InputRef.{the_row}

-- x, with s as the state behind it
abbrev pub with_state : {I E Cu Tok Sp Er St Cx Mk : Type 0} → InputRef I E Cu Tok Sp Er St Cx Mk → St → InputRef I E Cu Tok Sp Er St Cx Mk
with_state x s = record x { state = record x.state { now = s } }

module _ (I E Cu Tok Sp Er St Cx Mk : RattleType) where
  -- once the borrow r ends, the state is what was last written through r, and all else is as it was. The lifetimes are those of 'src and 'p
  abbrev pub LendsState : MutBor (InputRef I.Denot E.Denot Cu.Denot Tok.Denot Sp.Denot Er.Denot St.Denot Cx.Denot Mk.Denot) → MutBor St.Denot → Fml
  LendsState x r = Lends (the_row (record { mir = named 1; lft = [] }) (record { mir = named 2; lft = [] }) I E Cu Tok Sp Er St Cx Mk) St x r (with_state x.now)
