use Rattle.std.proofs.Common.{◌≡◌, ◌≢◌, ℕ, List, [], ◌∷◌, ◌++◌, arith}
use Rattle.std.proofs.lemmas.Str.Pattern.{strip_suffix_char}
use Rattle.exact.proofs.CsvLemmas.{trimmed-return, trimmed-end, trimmed-none}
use Rattle.exact.proofs.csv.trimmed.Goals as goal

pub returns-in-Some-strip_suffix : goal.returns-in-Some-strip_suffix
returns-in-Some-strip_suffix c =
    let text = c.args.text.now in
    let line = c.in-Some.line.now in
    let shorter = c.in-Some-strip_suffix.shorter.now in
    let h : text ≡ line ++ (10 ∷ []) = rw c.in-Some.is at (strip_suffix_char 10 text c.strip_suffix.result c.strip_suffix.ensures.cases (omega arith)) in
    let k : line ≡ shorter ++ (13 ∷ []) = rw c.in-Some-strip_suffix.is at (strip_suffix_char 13 line c.strip_suffix-in-Some.result c.strip_suffix-in-Some.ensures.cases (omega arith)) in
    trimmed-return text line shorter c.utf8.text h k

pub returns-in-None-strip_suffix : goal.returns-in-None-strip_suffix
returns-in-None-strip_suffix c =
    let text = c.args.text.now in
    let line = c.in-Some.line.now in
    let h : text ≡ line ++ (10 ∷ []) = rw c.in-Some.is at (strip_suffix_char 10 text c.strip_suffix.result c.strip_suffix.ensures.cases (omega arith)) in
    let k : (front : List ℕ) → line ≢ front ++ (13 ∷ []) =
    rw c.in-None-strip_suffix.is at (strip_suffix_char 13 line c.strip_suffix-in-Some.result c.strip_suffix-in-Some.ensures.cases (omega arith)) in
    trimmed-end text line c.utf8.text h k

pub returns-in-None : goal.returns-in-None
returns-in-None c =
    let text = c.args.text.now in
    let h : (front : List ℕ) → text ≢ front ++ (10 ∷ []) = rw c.in-None.is at (strip_suffix_char 10 text c.strip_suffix.result c.strip_suffix.ensures.cases (omega arith)) in
    trimmed-none text c.utf8.text h
