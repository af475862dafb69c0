-- How a method of HTTP is written.
use Rattle.std.specs.Prelude.{◌≡◌, ℕ, List, codes}
use Rattle.exact.specs.declared.method.Method.{Method}
use Rattle.exact.specs.declared.method.Method.TheVariants.{Get, Head, Post, Put, Delete, Connect, Options, Trace}

abbrev pub method_text : Method → List ℕ
method_text Get = codes "GET"
method_text Head = codes "HEAD"
method_text Post = codes "POST"
method_text Put = codes "PUT"
method_text Delete = codes "DELETE"
method_text Connect = codes "CONNECT"
method_text Options = codes "OPTIONS"
method_text Trace = codes "TRACE"

-- a text is that of a method
abbrev pub IsMethod : List ℕ → Method → Type 0
IsMethod cs method = cs ≡ method_text method
