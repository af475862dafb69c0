use Rattle.std.proofs.Common.{◌≡◌, ℕ, List, [], ◌∷◌, ◌++◌, append_assoc, flat_map, refl, sym, ap, subst, ◌∙◌, string_bytes}
use Rattle.std.specs.Prelude.{codes}
use Rattle.std.specs.Str.{chars}
use Rattle.std.proofs.lemmas.List.{append-nil, take_all}
use Rattle.std.proofs.lemmas.Str.{chars-nil, chars-IsAscii}
use Rattle.chumsky_exact.specs.Lines.{no_line, more_lines, lines-each}
use Rattle.chumsky_exact.specs.Parts.{joined}
use Rattle.chumsky_exact.specs.Rendered.{OfEach}
use Rattle.exact.specs.AtomLaws.{name-passes, number-passes, passes-ascii}
use Rattle.exact.specs.Pairs.{Pair, IsPair, IsLine, IsPairs, ended, Slices, text_of, texts_of}
use Rattle.exact.specs.PairsLaws.{pairs-once, line-pair}
use Rattle.exact.proofs.print_pairs.print_pairs.Goals as goal

-- what is printed are lines without blanks, of which each is ended
plain : (p : Pair) → IsPair p → IsLine (p.0 ++ (codes "=" ++ (p.1 ++ []))) p
plain p h = joined [] _ tt (joined p.0 _ (h.0, refl) (joined [] _ tt (joined (codes "=") _ refl (joined [] _ tt (joined p.1 _ (h.1, refl) (joined [] [] tt refl))))))

line_ended : (name number rest : List ℕ) → (name ++ (codes "=" ++ (number ++ []))) ++ (codes "\n" ++ rest) ≡ ended (name, number) ++ rest
line_ended name number rest = simp (append-nil, append_assoc)

printed-is : (ps : List Pair) → OfEach IsPair ps → IsPairs (flat_map ended ps) ps
printed-is [] h = no_line
printed-is (p ∷ ps) h = subst (λ z. IsPairs z (p ∷ ps)) (line_ended p.0 p.1 (flat_map ended ps)) (more_lines (plain p h.0) (printed-is ps h.1))

-- and names and numbers are of ASCII, so that their bytes are their characters
in_bytes : (ps : List Slices) → OfEach IsPair (texts_of ps) → flat_map (λ p. ended (chars p.0.now, chars p.1.now)) ps ≡ flat_map ended (texts_of ps)
in_bytes [] h = refl
in_bytes (p ∷ ps) h =
    let name : chars p.0.now ≡ p.0.now = chars-IsAscii p.0.now (passes-ascii p.0.now (name-passes p.0.now h.0.0)) in
    let number : chars p.1.now ≡ p.1.now = chars-IsAscii p.1.now (passes-ascii p.1.now (number-passes p.1.now h.0.1)) in
    ap (λ z. ended z ++ flat_map (λ q. ended (chars q.0.now, chars q.1.now)) ps) (cc (name, number)) ∙ ap (λ z. ended (text_of p) ++ z) (in_bytes ps h.1)

pub loop-pair-init : goal.loop-pair-init
loop-pair-init c = ap chars c.new-text.ensures.bytes ∙ chars-nil

pub returns : goal.returns
returns c =
    let ps = c.args.pairs.now in
    let text = chars (string_bytes c.loop-pair.text) in
    let f : Slices → List ℕ = λ p. ended (chars p.0.now, chars p.1.now) in
    let whole : text ≡ flat_map f ps = c.loop-pair.invariant ∙ ap (flat_map f) (take_all c.loop-pair.pair-index ps c.loop-pair-test.false) in
    let is : OfEach IsPair (texts_of ps) → IsPairs text (texts_of ps) = λ h. subst (λ z. IsPairs z (texts_of ps)) (sym (whole ∙ in_bytes ps h)) (printed-is (texts_of ps) h) in
    record {
      text = whole;
      holds = is;
      once = λ h others i. pairs-once text others (texts_of ps) i (is h);
      again = λ source i. is (lines-each IsPair line-pair i);
    }
