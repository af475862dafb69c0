-- What is printed of a line's characters.
use Rattle.std.specs.Prelude.{ℕ, List, ◌++◌, flat_map}
use Rattle.std.specs.Str.{chars}
use Rattle.chumsky_report.specs.Window.{dots, below_dots, signs, below}
use Rattle.chumsky_report.specs.declared.window.Window.{Window}

-- the characters that are shown
abbrev pub line_of : Window → List ℕ
line_of w = dots w.all_before ++ (signs (chars w.before.now) ++ (signs (chars w.after.now) ++ dots w.all_after))

-- what stands below those before the offset
abbrev pub below_of : Window → List ℕ
below_of w = below_dots w.all_before ++ flat_map below (chars w.before.now)
