-- The words of a request's first line.
use Rattle.std.specs.Prelude.{ℕ, List, [], ◌∷◌, codes}
use Rattle.examples.specs.declared.request.Method.{Method}
use Rattle.examples.specs.declared.request.Method.TheVariants.{Get, Head, Post, Put, Delete}
use Rattle.examples.specs.declared.request.Version.{Version}
use Rattle.examples.specs.declared.request.Version.TheVariants.{Http10, Http11}

abbrev pub methods : List (List ℕ × Method)
methods = (codes "GET", Get) ∷ (codes "HEAD", Head) ∷ (codes "POST", Post) ∷ (codes "PUT", Put) ∷ (codes "DELETE", Delete) ∷ []

abbrev pub versions : List (List ℕ × Version)
versions = (codes "HTTP/1.0", Http10) ∷ (codes "HTTP/1.1", Http11) ∷ []
