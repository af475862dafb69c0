-- A text says one list of sections at most.
-- Main law: ini-once. Read first: Ini.antt.
use Rattle.std.proofs.Common.{◌≡◌, ℕ, nat_eq, cond, Bool, true, false, List, [], ◌∷◌, ◌++◌, length, drop, refl, sym, ◌∙◌, ap, subst, arith}
use Rattle.std.specs.Char.{is_whitespace}
use Rattle.std.proofs.lemmas.Bool.Decides.{nat_tests}
use Rattle.std.proofs.Math.Seq.{drop-append_seam}
use Rattle.chumsky_parser.specs.Words.{AllPass, StopsAt}
use Rattle.chumsky_text.specs.Leading.{leading}
use Rattle.chumsky_text.specs.TextLanguageLaws.{leading_stops}
use Rattle.examples.specs.Ini.{in_line, marks_comment, in_name, begins_entry, IsSectionName, IsEntryName, trimmed, Entry, Section, Says, nothing, blank, comment, entry, section, IsIni}

-- a run up to what doesn't pass is of one length
module _ (test : ℕ → Bool) (ws us rest left : List ℕ) (p : AllPass test ws) (s : StopsAt test rest) (q : AllPass test us) (r : StopsAt test left) (e : ws ++ rest ≡ us ++ left) where
  run_once : ws ≡ us
  run_once = sym (leading_stops test ws rest p s) ∙ ap (leading test) e ∙ leading_stops test us left q r

  rest_once : rest ≡ left
  rest_once = let d : drop (length ws) (us ++ left) ≡ left = ap (λ z. drop (length z) (us ++ left)) run_once ∙ drop-append_seam us left in sym (drop-append_seam ws rest) ∙ ap (drop (length ws)) e ∙ d

-- what a text says that begins with a comment, with a section, and with an entry
record Comment (us : List ℕ) (es : List Entry) (ss : List Section) : Type 0 where
  line : List ℕ
  rest : List ℕ
  all : us ≡ line ++ rest
  pass : AllPass in_line line
  stop : StopsAt in_line rest
  says : Says rest es ss

record Headed (us : List ℕ) (es : List Entry) (ss : List Section) : Type 0 where
  name : List ℕ
  rest : List ℕ
  all : us ≡ name ++ (93 ∷ rest)
  is_name : AllPass in_name name
  entries : List Entry
  sections : List Section
  no_entry : es ≡ []
  first : ss ≡ (trimmed name, entries) ∷ sections
  says : Says rest entries sections

record Named (c : ℕ) (us : List ℕ) (es : List Entry) (ss : List Section) : Type 0 where
  name : List ℕ
  value : List ℕ
  rest : List ℕ
  all : us ≡ name ++ (61 ∷ (value ++ rest))
  is_name : AllPass in_name name
  pass : AllPass in_line value
  stop : StopsAt in_line rest
  entries : List Entry
  first : es ≡ (trimmed (c ∷ name), trimmed value) ∷ entries
  says : Says rest entries ss

-- its first character decides which: white space, what marks a comment, a bracket, or else
abbrev ByFirst : Bool → Bool → Bool → ℕ → List ℕ → List Entry → List Section → Type 0
ByFirst true mark bracket c us es ss = Says us es ss
ByFirst false true bracket c us es ss = Comment us es ss
ByFirst false false true c us es ss = Headed us es ss
ByFirst false false false c us es ss = Named c us es ss

abbrev Seen : List ℕ → List Entry → List Section → Type 0
Seen [] es ss = (es ≡ []) × (ss ≡ [])
Seen (c ∷ us) es ss = ByFirst (is_whitespace c) (marks_comment c) (nat_eq 91 c) c us es ss

mark_no_white : (c : ℕ) → marks_comment c ≡ true → is_whitespace c ≡ false
mark_no_white c e = grind (arith, nat_tests)

entry_no_white : (c : ℕ) → begins_entry c ≡ true → is_whitespace c ≡ false
entry_no_white c e = grind (arith, nat_tests)

entry_no_mark : (c : ℕ) → begins_entry c ≡ true → marks_comment c ≡ false
entry_no_mark c e = grind (arith, nat_tests)

entry_no_bracket : (c : ℕ) → begins_entry c ≡ true → nat_eq 91 c ≡ false
entry_no_bracket c e = grind (arith, nat_tests)

all_in_name : (name : List ℕ) → IsSectionName name → AllPass in_name name
all_in_name [] n = absurd n
all_in_name (c ∷ cs) n = n

seen : {ts : List ℕ} {es : List Entry} {ss : List Section} → Says ts es ss → Seen ts es ss
seen nothing = (refl, refl)
seen (blank c w k) = rw w k
seen (comment {rest} c cs m p s k) = let w = mark_no_white c m in rw (w, m) (record { line = cs; rest = rest; all = refl; pass = p; stop = s; says = k })
seen (entry [] value n p s k) = absurd n
seen (entry {rest} {es} (c ∷ name) value n p s k) =
    let w = entry_no_white c n.0 in
    let m = entry_no_mark c n.0 in
    let b = entry_no_bracket c n.0 in
    rw (w, m, b) (record { name = name; value = value; rest = rest; all = refl; is_name = n.1; pass = p; stop = s; entries = es; first = refl; says = k })
seen (section {rest} {es} {ss} name n k) = record { name = name; rest = rest; all = refl; is_name = all_in_name name n; entries = es; sections = ss; no_entry = refl; first = refl; says = k }

-- two readings of one text are the same
pub says-once : {ts : List ℕ} {es fs : List Entry} {ss qs : List Section} → Says ts es ss → Says ts fs qs → (es ≡ fs) × (ss ≡ qs)
says-once nothing h = let v = seen h in (sym v.0, sym v.1)
says-once {fs = fs} {qs = qs} (blank {rest} c w k) h = let v : Says rest fs qs = rw w at (seen h) in says-once k v
says-once {fs = fs} {qs = qs} (comment {rest} c cs m p s k) h =
    let w = mark_no_white c m in
    let v : Comment (cs ++ rest) fs qs = rw (w, m) at (seen h) in
    let e : rest ≡ v.rest = rest_once in_line cs v.line rest v.rest p s v.pass v.stop v.all in
    says-once k (subst (λ z. Says z fs qs) (sym e) v.says)
says-once (entry [] value n p s k) h = absurd n
says-once {fs = fs} {qs = qs} (entry {rest} {es} {ss} (c ∷ name) value n p s k) h =
    let w = entry_no_white c n.0 in
    let m = entry_no_mark c n.0 in
    let b = entry_no_bracket c n.0 in
    let v : Named c (name ++ (61 ∷ (value ++ rest))) fs qs = rw (w, m, b) at (seen h) in
    let x : name ≡ v.name = run_once in_name name v.name (61 ∷ (value ++ rest)) (61 ∷ (v.value ++ v.rest)) n.1 refl v.is_name refl v.all in
    let t : 61 ∷ (value ++ rest) ≡ 61 ∷ (v.value ++ v.rest) = rest_once in_name name v.name (61 ∷ (value ++ rest)) (61 ∷ (v.value ++ v.rest)) n.1 refl v.is_name refl v.all in
    let u : value ++ rest ≡ v.value ++ v.rest = cc t in
    let y : value ≡ v.value = run_once in_line value v.value rest v.rest p s v.pass v.stop u in
    let e : rest ≡ v.rest = rest_once in_line value v.value rest v.rest p s v.pass v.stop u in
    let r = says-once k (subst (λ z. Says z v.entries qs) (sym e) v.says) in
    let a : es ≡ v.entries = r.0 in
    let f = v.first in
    (cc (x, y, a, f), r.1)
says-once {fs = fs} {qs = qs} (section {rest} {es} {ss} name n k) h =
    let v : Headed (name ++ (93 ∷ rest)) fs qs = seen h in
    let q = all_in_name name n in
    let x : name ≡ v.name = run_once in_name name v.name (93 ∷ rest) (93 ∷ v.rest) q refl v.is_name refl v.all in
    let t : 93 ∷ rest ≡ 93 ∷ v.rest = rest_once in_name name v.name (93 ∷ rest) (93 ∷ v.rest) q refl v.is_name refl v.all in
    let e : rest ≡ v.rest = cc t in
    let r = says-once k (subst (λ z. Says z v.entries v.sections) (sym e) v.says) in
    let a : es ≡ v.entries = r.0 in
    let b : ss ≡ v.sections = r.1 in
    let f = v.first in
    (sym v.no_entry, cc (x, a, b, f))

pub ini-once : (ts : List ℕ) (ss qs : List Section) → IsIni ts ss → IsIni ts qs → ss ≡ qs
ini-once ts ss qs h k = (says-once h k).1
