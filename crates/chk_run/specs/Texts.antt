-- What texts to print say.
use Rattle.std.specs.Prelude.{ℕ, List, flat_map}
use Rattle.std.specs.Char.{encode_utf8}
use Rattle.chk_run.specs.declared.texts.Text.{Text}
use Rattle.chk_run.specs.declared.texts.Text.TheVariants.{Slice, Made}

abbrev pub text_bytes : Text → List ℕ
text_bytes (Slice s) = s.now
text_bytes (Made chars) = flat_map encode_utf8 chars.items
