-- What comes next, of how steps hand it on.
use Rattle.chumsky_recursive.specs.declared.frames.Todo.{Todo}
use Rattle.chumsky_recursive.specs.declared.frames.Todo.TheVariants as todo
use Rattle.chumsky_recursive.specs.declared.next.Coming.{Coming}
use Rattle.chumsky_recursive.specs.declared.next.Coming.TheVariants as coming

-- the same, but for the words that are left out
abbrev pub todo_of : {V : Type 0} → Coming V → Todo V
todo_of (coming.Begin wanted left_out node more) = todo.Begin node more wanted
todo_of (coming.Answer r) = todo.Answer r
