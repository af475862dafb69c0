-- How a file is opened, as `rb`.
use Rattle.std.specs.Prelude.{◌≡◌, ℕ, List, ◌++◌, ◌⊎◌, codes}
use Rattle.exact.specs.declared.access.Purpose.{Purpose}
use Rattle.exact.specs.declared.access.Purpose.TheVariants.{Read, Write}
use Rattle.exact.specs.declared.access.Content.{Content}
use Rattle.exact.specs.declared.access.Content.TheVariants.{Text, Bytes}

abbrev pub purpose_text : Purpose → List ℕ
purpose_text Read = codes "r"
purpose_text Write = codes "w"

abbrev pub content_text : Content → List ℕ
content_text Text = codes "t"
content_text Bytes = codes "b"

-- the letter of the purpose and that of the content, in either order
abbrev pub IsAccess : List ℕ → Purpose × Content → Type 0
IsAccess cs access = (cs ≡ purpose_text access.0 ++ content_text access.1) ⊎ (cs ≡ content_text access.1 ++ purpose_text access.0)
