-- What reads expressions, where a call in it does, and a whole text of them.
-- Main words: Read, IsReader. Main laws: reader-kept, lisp-sound, lisp-each. Read first: Lisp.antt, Reading.antt, PieceLaws.antt.
use Rattle.std.proofs.Common.{◌≡◌, ℕ, zero, suc, ◌+◌, ◌<◌, cond, nat_eq, Bool, true, false, Option, Some, None, List, [], ◌∷◌, ◌++◌, length, append_assoc, refl, sym, ◌∙◌, ap, subst, arith, rules, inl, inr}
use Rattle.std.specs.Prelude.{String, string_bytes, ⊤, ◌⊎◌, map}
use Rattle.std.specs.Char.{is_whitespace}
use Rattle.std.specs.Str.{chars}
use Rattle.std.specs.declared.alloc.Global.{Global}
use Rattle.std.specs.declared.vec.Vec.{Vec}
use Rattle.std.proofs.lemmas.Bool.Decides.{nat_tests}
use Rattle.std.proofs.lemmas.Str.{chars_from_encodes, IsUtf8-string_bytes}
use Rattle.chumsky_parser.specs.Ending.{Ending, At, Nowhere, Refused, and_then, or_else, EndsOrRefused, DoesNotEnd}
use Rattle.chumsky_parser.specs.FurtherLaws.{both-below, behind-below}
use Rattle.chumsky_parser.specs.ItemsLanguage.{list_ends, GivesFrom}
use Rattle.chumsky_parser.specs.Language.{Language, IsBelow, sooner, later}
use Rattle.chumsky_parser.specs.Words.{then_ends, AllPass, StopsAt}
use Rattle.chumsky_parser.specs.WordsLaws.{ends_at, then_or_refused, first_or_refused, second_or_refused}
use Rattle.chumsky_primitive.specs.PrimitiveLanguage.{literal_ends}
use Rattle.chumsky_items.specs.ListWords.{repeated_next}
use Rattle.s_expression.specs.declared.expression.Expression.{Expression, the_lemmas}
use Rattle.s_expression.specs.declared.expression.Expression as expression
use Rattle.s_expression.specs.Lisp.{Form, symbol, number, text, list, quoted, Forms, no_forms, form, forms_of, form_of, in_word, IsWord, is_integer, AreCharacters, in_line, IsGap, ends_in_word, IsApart}
use Rattle.s_expression.specs.Lisp.{IsExpression, is_symbol, is_number, is_text, is_list, is_quoted, AreExpressions, no_expression, more_expressions}
use Rattle.s_expression.specs.ListEnds.{Took, none, more, Goes, stops, steps, then_at, either_at, then_none, neither_ends, list-took, list-went, list-goes, some-goes, some-fails, some-given, one-took, one-goes}
use Rattle.s_expression.specs.Picks.{passing}
use Rattle.s_expression.specs.Reading.{picked, gap_pieces, gaps, words, characters, texts, atom_of, atoms, closing, lists, quotes, bare, expressions}
use Rattle.s_expression.specs.PieceLaws.{first_value, other_value, pick_ends, passes, none_there, run-took, run-goes, literal_at, gap_stops, last_comment_stops, gap-sound, gap-goes, characters-sound, characters-go}

-- what an expression says, level by level
form-symbol : (s : String Global) → form_of (expression.Symbol s) ≡ symbol (chars (string_bytes s))
form-symbol s = search (rules, the_lemmas)

form-number : (s : String Global) → form_of (expression.Number s) ≡ number (chars (string_bytes s))
form-number s = search (rules, the_lemmas)

form-text : (s : String Global) → form_of (expression.Text s) ≡ text (chars (string_bytes s))
form-text s = search (rules, the_lemmas)

form-list : (v : Vec Expression Global) → form_of (expression.List v) ≡ list (forms_of (map form_of v.items))
form-list v = search (rules, the_lemmas)

-- what stands after the last gap: a bracket (41), nothing, or a comment (59) that ends in no line feed
abbrev pub IsClosing : List ℕ → Type 0
IsClosing [] = ⊤
IsClosing (c ∷ cs) = (c ≡ 41) ⊎ ((c ≡ 59) × AllPass in_line cs)

-- an expression was read of a text, up to the rest, which goes on with no word at its end
pub record BareRead (ts rest : List ℕ) (said : Form) : Type 0 where
  pub word : List ℕ
  pub all : ts ≡ word ++ rest
  pub is : IsExpression word said
  pub apart : IsApart said rest

-- and a gap before it
pub record Read (ts rest : List ℕ) (said : Form) : Type 0 where
  pub gap : List ℕ
  pub word : List ℕ
  pub all : ts ≡ gap ++ (word ++ rest)
  pub is_gap : IsGap gap
  pub is : IsExpression word said
  pub apart : IsApart said rest

-- a language of expressions, of which no text shorter than the depth is refused: where it ends, one was read, and each is read, unless
-- that is refused, where what follows goes on with no word; it ends nowhere where a list does
pub record IsReader (l : Language ℕ Expression) (depth : ℕ) : Type 0 where
  pub said : l.said ≡ true
  pub moves : l.moves ≡ true
  pub refused : (k : ℕ) → k < depth → IsBelow l.refused_from k
  pub sound : (ts rest : List ℕ) (e : Expression) → l.ends ts ≡ At rest → l.value ts e → Read ts rest (form_of e)
  pub complete : (g w rest : List ℕ) (f : Form) → IsGap g → IsExpression w f → IsApart f rest → EndsOrRefused (l.ends (g ++ (w ++ rest))) rest
  pub fails : (g rest : List ℕ) → IsGap g → IsClosing rest → DoesNotEnd (l.ends (g ++ rest))

-- a text without its front, or before another, stops as well
front_stops : (test : ℕ → Bool) (ws rest : List ℕ) → StopsAt test (ws ++ rest) → StopsAt test ws
front_stops test [] rest h = tt
front_stops test (c ∷ cs) rest h = h

stops_on : (test : ℕ → Bool) (ws rest : List ℕ) → StopsAt test ws → StopsAt test rest → StopsAt test (ws ++ rest)
stops_on test [] rest h s = s
stops_on test (c ∷ cs) rest h s = h

both_lengths : (ws rest : List ℕ) → length (ws ++ rest) ≡ length ws + length rest
both_lengths [] rest = omega arith
both_lengths (c ∷ cs) rest = let k = both_lengths cs rest in omega (arith, k)

-- what is in a word is no character that isn't
differs : (m c : ℕ) → in_word m ≡ false → in_word c ≡ true → nat_eq m c ≡ false
differs m c e d = by_equal (nat_eq m c) refl
  where
    by_equal : (b : Bool) → nat_eq m c ≡ b → nat_eq m c ≡ false
    by_equal true q = let h : m ≡ c = grind (arith, nat_tests) in let z : in_word c ≡ false = subst (λ y. in_word y ≡ false) h e in absurd (cc (z, d))
    by_equal false q = q

-- gaps
pub gap_at : (ts rest : List ℕ) → gaps.ends ts ≡ At rest → (g : List ℕ) × IsGap g × (ts ≡ g ++ rest) × StopsAt is_whitespace rest
gap_at ts rest e = let w = list-went gap_pieces.ends 0 ts rest e in gap-sound w.0 ts rest w.1

pub gap_each : {g : List ℕ} (rest : List ℕ) → IsGap g → DoesNotEnd (gap_pieces.ends rest) → EndsOrRefused (gaps.ends (g ++ rest)) rest
gap_each {g} rest k h = list-goes gap_pieces.ends (g ++ rest) rest (gap-goes rest k h)

no_gap_at : (c : ℕ) (cs : List ℕ) → is_whitespace c ≡ false → nat_eq 59 c ≡ false → DoesNotEnd (gap_pieces.ends (c ∷ cs))
no_gap_at c cs s n = let e = gap_stops c cs s n in rw e tt

-- no expression begins with one, and what stands after the last does not
word_begins : (w rest : List ℕ) → IsWord w → DoesNotEnd (gap_pieces.ends (w ++ rest))
word_begins [] rest i = absurd i
word_begins (c ∷ cs) rest i = no_gap_at c (cs ++ rest) i.0 (differs 59 c refl i.1.0)

expression_begins : {w : List ℕ} {f : Form} (rest : List ℕ) → IsExpression w f → DoesNotEnd (gap_pieces.ends (w ++ rest))
expression_begins rest (is_symbol {w} i n) = word_begins w rest i
expression_begins rest (is_number {w} i n) = word_begins w rest i
expression_begins rest (is_text {w} a) = no_gap_at 34 ((w ++ (34 ∷ [])) ++ rest) refl refl
expression_begins rest (is_list {w} a) = no_gap_at 40 ((w ++ (41 ∷ [])) ++ rest) refl refl
expression_begins rest (is_quoted {w} g k x) = no_gap_at 39 ((g ++ w) ++ rest) refl refl

pub closing_begins : (rest : List ℕ) → IsClosing rest → DoesNotEnd (gap_pieces.ends rest)
closing_begins [] k = tt
closing_begins (c ∷ cs) (inl e) = subst (λ z. DoesNotEnd (gap_pieces.ends (z ∷ cs))) (sym e) (no_gap_at 41 cs refl refl)
closing_begins (c ∷ cs) (inr (e, p)) = subst (λ z. DoesNotEnd (gap_pieces.ends (z ∷ cs))) (sym e) (let d = last_comment_stops cs p in rw d tt)

closing_no_word : (rest : List ℕ) → IsClosing rest → StopsAt in_word rest
closing_no_word [] k = tt
closing_no_word (c ∷ cs) (inl e) = subst (λ z. in_word z ≡ false) (sym e) refl
closing_no_word (c ∷ cs) (inr (e, p)) = subst (λ z. in_word z ≡ false) (sym e) refl

-- each takes a character
word_some : (w : List ℕ) → IsWord w → 0 < length w
word_some [] i = absurd i
word_some (c ∷ cs) i = omega arith

expression_some : {w : List ℕ} {f : Form} → IsExpression w f → 0 < length w
expression_some (is_symbol {w} i n) = word_some w i
expression_some (is_number {w} i n) = word_some w i
expression_some (is_text a) = omega arith
expression_some (is_list a) = omega arith
expression_some (is_quoted g k x) = omega arith

-- words
word_is : (ts rest : List ℕ) (s : String Global) → words.ends ts ≡ At rest → words.value ts s → StopsAt is_whitespace ts → (ts ≡ chars (string_bytes s) ++ rest) × IsWord (chars (string_bytes s)) × StopsAt in_word rest
word_is ts rest s e i b =
    let r = run-took in_word i.items ts rest (list-took (picked (passing in_word)).ends (picked (passing in_word)).value 1 ts rest i.items e i.is) in
    let c : i.items ≡ chars (string_bytes s) = chars_from_encodes i.items (string_bytes s) (IsUtf8-string_bytes s) (sym i.held) in
    (r.0 ∙ ap (λ z. z ++ rest) c, subst IsWord c (by_items i.items i.is r.0 r.1), r.2)
  where
    by_items : (cs : List ℕ) → GivesFrom (repeated_next (picked (passing in_word)).ends 1 None) (λ k. (picked (passing in_word)).value) 0 cs ts → ts ≡ cs ++ rest → AllPass in_word cs → IsWord cs
    by_items [] g q p = absurd (some-given (picked (passing in_word)).ends (picked (passing in_word)).value ts g)
    by_items (c ∷ cs) g q p = (subst (StopsAt is_whitespace) q b, p)

atom_is : (s : String Global) (e : Expression) (rest : List ℕ) → e ≡ atom_of s → IsWord (chars (string_bytes s)) → StopsAt in_word rest → IsExpression (chars (string_bytes s)) (form_of e) × IsApart (form_of e) rest
atom_is s e rest d i h = by_integer (is_integer (chars (string_bytes s))) refl d
  where
    by_integer : (b : Bool) → is_integer (chars (string_bytes s)) ≡ b → e ≡ cond b (expression.Number s) (expression.Symbol s) → IsExpression (chars (string_bytes s)) (form_of e) × IsApart (form_of e) rest
    by_integer true q z = (subst (IsExpression (chars (string_bytes s))) (sym (ap form_of z ∙ form-number s)) (is_number i q), λ _. h)
    by_integer false q z = (subst (IsExpression (chars (string_bytes s))) (sym (ap form_of z ∙ form-symbol s)) (is_symbol i q), λ _. h)

word_each : (w rest : List ℕ) → IsWord w → StopsAt in_word rest → EndsOrRefused (words.ends (w ++ rest)) rest
word_each [] rest i s = absurd i
word_each (c ∷ cs) rest i s =
    some-goes (picked (passing in_word)).ends (c ∷ (cs ++ rest)) (cs ++ rest) rest (inl (pick_ends (passing in_word) c c (cs ++ rest) (passes in_word c i.1.0))) (omega arith) (run-goes in_word cs rest i.1.1 s)

words_fail : (ts : List ℕ) → StopsAt in_word ts → DoesNotEnd (words.ends ts)
words_fail ts s = let e = none_there in_word ts s in some-fails (picked (passing in_word)).ends ts (rw e tt)

-- texts
text_is : (ts rest : List ℕ) (s : String Global) → texts.ends ts ≡ At rest → texts.value ts s → (w : List ℕ) × AreCharacters w (chars (string_bytes s)) × (ts ≡ (34 ∷ (w ++ (34 ∷ []))) ++ rest)
text_is ts rest s e v =
    let many : List ℕ → Ending (List ℕ) = list_ends (repeated_next characters.ends 0 None) in
    let a = then_at (then_ends many (literal_ends nat_eq (34 ∷ []))) (literal_ends nat_eq (34 ∷ []) ts) rest e in
    let b = then_at (literal_ends nat_eq (34 ∷ [])) (many a.0) rest a.2 in
    let i = ends_at (literal_ends nat_eq (34 ∷ []) ts) a.0 _ a.1 v in
    let c : i.items ≡ chars (string_bytes s) = chars_from_encodes i.items (string_bytes s) (IsUtf8-string_bytes s) (sym i.held) in
    let r = characters-sound i.items a.0 b.0 (list-took characters.ends characters.value 0 a.0 b.0 i.items b.1 i.is) in
    let t : a.0 ≡ r.0 ++ (34 ∷ rest) = r.2 ∙ ap (λ z. r.0 ++ z) (literal_at 34 b.0 rest b.2) in
    (r.0, subst (AreCharacters r.0) c r.1, literal_at 34 ts a.0 a.1 ∙ ap (λ z. 34 ∷ z) (t ∙ sym (append_assoc r.0 (34 ∷ []) rest)))

text_each : {w cs : List ℕ} (rest : List ℕ) → AreCharacters w cs → EndsOrRefused (texts.ends ((34 ∷ (w ++ (34 ∷ []))) ++ rest)) rest
text_each {w} rest a =
    let many : List ℕ → Ending (List ℕ) = list_ends (repeated_next characters.ends 0 None) in
    let h : EndsOrRefused (texts.ends (34 ∷ (w ++ (34 ∷ rest)))) rest =
    then_or_refused (literal_ends nat_eq (34 ∷ [])) (many (w ++ (34 ∷ rest))) (34 ∷ rest) rest (list-goes characters.ends (w ++ (34 ∷ rest)) (34 ∷ rest) (characters-go rest a)) (inl refl) in
    subst (λ z. EndsOrRefused (texts.ends (34 ∷ z)) rest) (sym (append_assoc w (34 ∷ []) rest)) h

atoms_fail : (c : ℕ) (cs : List ℕ) → in_word c ≡ false → nat_eq 34 c ≡ false → DoesNotEnd (atoms.ends (c ∷ cs))
atoms_fail c cs e d = neither_ends (words.ends (c ∷ cs)) (texts.ends (c ∷ cs)) (words_fail (c ∷ cs) e) (rw d tt)

later_first : (a : Option ℕ) (k : ℕ) → IsBelow a k → IsBelow (later a false) k
later_first None k i = tt
later_first (Some n) k i = i

module _ (call : Language ℕ Expression) (depth : ℕ) (i : IsReader call depth) where
  -- expressions one after another, and the gap after them
  pub items-sound : (es : List Expression) (ts mid g rest : List ℕ) → Took call.ends call.value es ts mid → IsGap g → mid ≡ g ++ rest → (w : List ℕ) × AreExpressions w (forms_of (map form_of es)) × (ts ≡ w ++ rest)
  items-sound _ ts _ g rest (none e) k q = (g, no_expression k, q)
  items-sound _ ts mid g rest (more {v = e} {vs = es} {mid = m} d v t) k q =
      let r = items-sound es m mid g rest t k q in
      let p = i.sound ts m e d v in
      let z : p.gap ++ (p.word ++ (r.0 ++ rest)) ≡ (p.gap ++ (p.word ++ r.0)) ++ rest = sym (append_assoc p.gap (p.word ++ r.0) rest ∙ ap (λ y. p.gap ++ y) (append_assoc p.word r.0 rest)) in
      let a : IsApart (form_of e) r.0 = λ o. front_stops in_word r.0 rest (subst (StopsAt in_word) r.2 (p.apart o)) in
      (p.gap ++ (p.word ++ r.0), more_expressions p.gap p.is_gap p.is a r.1, p.all ∙ ap (λ y. p.gap ++ (p.word ++ y)) r.2 ∙ z)

  pub items-go : {w : List ℕ} {fs : Forms} (rest : List ℕ) → AreExpressions w fs → IsClosing rest → (g : List ℕ) × IsGap g × Goes call.ends (w ++ rest) (g ++ rest)
  items-go rest (no_expression {g} k) c = (g, k, stops (i.fails g rest k c))
  items-go rest (more_expressions {w} {ws} {f} g k x a m) c =
      let r = items-go rest m c in
      let e : EndsOrRefused (call.ends (g ++ (w ++ (ws ++ rest)))) (ws ++ rest) = i.complete g w (ws ++ rest) f k x (λ o. stops_on in_word ws rest (a o) (closing_no_word rest c)) in
      let n = expression_some x in
      let la = both_lengths g (w ++ (ws ++ rest)) in
      let lb = both_lengths w (ws ++ rest) in
      let z : g ++ (w ++ (ws ++ rest)) ≡ (g ++ (w ++ ws)) ++ rest = sym (append_assoc g (w ++ ws) rest ∙ ap (λ y. g ++ y) (append_assoc w ws rest)) in
      (r.0, r.1, subst (λ y. Goes call.ends y (r.0 ++ rest)) z (steps e (omega (arith, n, la, lb)) r.2))

  abbrev many : List ℕ → Ending (List ℕ)
  many = list_ends (repeated_next call.ends 0 None)

  -- a list
  list_is : (ts rest : List ℕ) (e : Expression) → (lists call).ends ts ≡ At rest → (lists call).value ts e → BareRead ts rest (form_of e)
  list_is ts rest e d v =
      let es : Vec Expression Global = v.0 in
      let a = then_at (then_ends many closing.ends) (literal_ends nat_eq (40 ∷ []) ts) rest d in
      let b = then_at closing.ends (many a.0) rest a.2 in
      let c = then_at (literal_ends nat_eq (41 ∷ [])) (gaps.ends b.0) rest b.2 in
      let k = gap_at b.0 c.0 c.1 in
      let h = ends_at (literal_ends nat_eq (40 ∷ []) ts) a.0 _ a.1 v.1 in
      let o : c.0 ≡ 41 ∷ rest = literal_at 41 c.0 rest c.2 in
      let r = items-sound h.items a.0 b.0 k.0 (41 ∷ rest) (list-took call.ends call.value 0 a.0 b.0 h.items b.1 h.is) k.1 (k.2 ∙ ap (λ z. k.0 ++ z) o) in
      let f : form_of e ≡ list (forms_of (map form_of h.items)) = ap form_of v.2 ∙ form-list es ∙ ap (λ z. list (forms_of (map form_of z))) h.held in
      record {
        word = 40 ∷ (r.0 ++ (41 ∷ []));
        all = literal_at 40 ts a.0 a.1 ∙ ap (λ z. 40 ∷ z) (r.2 ∙ sym (append_assoc r.0 (41 ∷ []) rest));
        is = subst (IsExpression (40 ∷ (r.0 ++ (41 ∷ [])))) (sym f) (is_list r.1);
        apart = subst (λ z. IsApart z rest) (sym f) (λ q. absurd (cc q));
      }

  list_each : {w : List ℕ} {fs : Forms} (rest : List ℕ) → AreExpressions w fs → EndsOrRefused ((lists call).ends ((40 ∷ (w ++ (41 ∷ []))) ++ rest)) rest
  list_each {w} rest a =
      let r = items-go (41 ∷ rest) a (inl refl) in
      let c : EndsOrRefused (closing.ends (r.0 ++ (41 ∷ rest))) rest =
      then_or_refused (literal_ends nat_eq (41 ∷ [])) (gaps.ends (r.0 ++ (41 ∷ rest))) (41 ∷ rest) rest (gap_each (41 ∷ rest) r.1 (no_gap_at 41 rest refl refl)) (inl refl) in
      let h : EndsOrRefused ((lists call).ends (40 ∷ (w ++ (41 ∷ rest)))) rest = then_or_refused closing.ends (many (w ++ (41 ∷ rest))) (r.0 ++ (41 ∷ rest)) rest (list-goes call.ends (w ++ (41 ∷ rest)) (r.0 ++ (41 ∷ rest)) r.2) c in
      subst (λ z. EndsOrRefused ((lists call).ends (40 ∷ z)) rest) (sym (append_assoc w (41 ∷ []) rest)) h

  -- a quote and an expression
  quote_is : (ts rest : List ℕ) (e : Expression) → (quotes call).ends ts ≡ At rest → (quotes call).value ts e → BareRead ts rest (form_of e)
  quote_is ts rest e d v =
      let a = then_at (list_ends (repeated_next call.ends 1 (Some 1))) (literal_ends nat_eq (39 ∷ []) ts) rest d in
      let h = ends_at (literal_ends nat_eq (39 ∷ []) ts) a.0 _ a.1 v in
      let o = one-took call.ends call.value a.0 rest h.1.items a.2 h.1.is in
      let p = i.sound a.0 rest o.1.0 o.0 o.1.2 in
      let f : form_of e ≡ quoted (form_of o.1.0) = ap form_of h.2 ∙ h.1.held.last [] o.1.0 o.1.1 in
      record {
        word = 39 ∷ (p.gap ++ p.word);
        all = literal_at 39 ts a.0 a.1 ∙ ap (λ z. 39 ∷ z) (p.all ∙ sym (append_assoc p.gap p.word rest));
        is = subst (IsExpression (39 ∷ (p.gap ++ p.word))) (sym f) (is_quoted p.gap p.is_gap p.is);
        apart = subst (λ z. IsApart z rest) (sym f) p.apart;
      }

  quote_each : {w : List ℕ} {f : Form} (g rest : List ℕ) → IsGap g → IsExpression w f → IsApart f rest → EndsOrRefused ((quotes call).ends ((39 ∷ (g ++ w)) ++ rest)) rest
  quote_each {w} {f} g rest k x a =
      let n = expression_some x in
      let la = both_lengths g (w ++ rest) in
      let lb = both_lengths w rest in
      let h : EndsOrRefused ((quotes call).ends (39 ∷ (g ++ (w ++ rest)))) rest = one-goes call.ends (g ++ (w ++ rest)) rest (omega (arith, n, la, lb)) (i.complete g w rest f k x a) in
      subst (λ z. EndsOrRefused ((quotes call).ends (39 ∷ z)) rest) (sym (append_assoc g w rest)) h

  -- any expression
  atom_read : (ts rest : List ℕ) (e : Expression) → atoms.ends ts ≡ At rest → atoms.value ts e → StopsAt is_whitespace ts → BareRead ts rest (form_of e)
  atom_read ts rest e d v b = elim (either_at (words.ends ts) (texts.ends ts) rest d) [
    | inl a ↦ (
        let m = first_value (words.ends ts) rest _ _ a v in
        let w = word_is ts rest m.0 a m.1 b in
        let x = atom_is m.0 e rest m.2 w.1 w.2 in
        record { word = chars (string_bytes m.0); all = w.0; is = x.0; apart = x.1 }
        )
    | inr a ↦ (
        let m = other_value (words.ends ts) _ _ a.0 v in
        let w = text_is ts rest m.0 a.1 m.1 in
        let f : form_of e ≡ text (chars (string_bytes m.0)) = ap form_of m.2 ∙ form-text m.0 in
        record {
          word = 34 ∷ (w.0 ++ (34 ∷ []));
          all = w.2;
          is = subst (IsExpression (34 ∷ (w.0 ++ (34 ∷ [])))) (sym f) (is_text w.1);
          apart = subst (λ z. IsApart z rest) (sym f) (λ q. absurd (cc q));
        }
        )
  ]

  bare_read : (ts rest : List ℕ) (e : Expression) → (bare call).ends ts ≡ At rest → (bare call).value ts e → StopsAt is_whitespace ts → BareRead ts rest (form_of e)
  bare_read ts rest e d v b = elim (either_at (atoms.ends ts) (or_else ((lists call).ends ts) ((quotes call).ends ts)) rest d) [
    | inl a ↦ atom_read ts rest e a (first_value (atoms.ends ts) rest _ _ a v) b
    | inr a ↦ (
        let m = other_value (atoms.ends ts) _ _ a.0 v in
        elim (either_at ((lists call).ends ts) ((quotes call).ends ts) rest a.1) [
          | inl c ↦ list_is ts rest e c (first_value ((lists call).ends ts) rest _ _ c m)
          | inr c ↦ quote_is ts rest e c.1 (other_value ((lists call).ends ts) _ _ c.0 m)
        ]
        )
  ]

  word_first : (w rest : List ℕ) → IsWord w → StopsAt in_word rest → EndsOrRefused ((bare call).ends (w ++ rest)) rest
  word_first w rest h s = first_or_refused (atoms.ends (w ++ rest)) _ rest (first_or_refused (words.ends (w ++ rest)) (texts.ends (w ++ rest)) rest (word_each w rest h s))

  bare_each : {w : List ℕ} {f : Form} (rest : List ℕ) → IsExpression w f → IsApart f rest → EndsOrRefused ((bare call).ends (w ++ rest)) rest
  bare_each rest (is_symbol {w} h n) a = word_first w rest h (a refl)
  bare_each rest (is_number {w} h n) a = word_first w rest h (a refl)
  bare_each rest (is_text {w} h) a =
      let ts : List ℕ = (34 ∷ (w ++ (34 ∷ []))) ++ rest in
      first_or_refused (atoms.ends ts) _ rest (second_or_refused (words.ends ts) (texts.ends ts) rest (words_fail ts refl) (text_each rest h))
  bare_each rest (is_list {w} h) a =
      let ts : List ℕ = (40 ∷ (w ++ (41 ∷ []))) ++ rest in
      second_or_refused (atoms.ends ts) _ rest (atoms_fail 40 ((w ++ (41 ∷ [])) ++ rest) refl refl) (first_or_refused ((lists call).ends ts) ((quotes call).ends ts) rest (list_each rest h))
  bare_each rest (is_quoted {w} g k x) a =
      let ts : List ℕ = (39 ∷ (g ++ w)) ++ rest in
      second_or_refused (atoms.ends ts) _ rest (atoms_fail 39 ((g ++ w) ++ rest) refl refl) (second_or_refused ((lists call).ends ts) ((quotes call).ends ts) rest tt (quote_each g rest k x a))

  bare_fails : (rest : List ℕ) → IsClosing rest → DoesNotEnd ((bare call).ends rest)
  bare_fails [] k = neither_ends (atoms.ends []) (or_else ((lists call).ends []) ((quotes call).ends [])) (neither_ends (words.ends []) (texts.ends []) (words_fail [] tt) tt) tt
  bare_fails (c ∷ cs) (inl e) = subst (λ z. DoesNotEnd ((bare call).ends (z ∷ cs))) (sym e) (neither_ends (atoms.ends (41 ∷ cs)) (or_else ((lists call).ends (41 ∷ cs)) ((quotes call).ends (41 ∷ cs))) (atoms_fail 41 cs refl refl) tt)
  bare_fails (c ∷ cs) (inr (e, p)) = subst (λ z. DoesNotEnd ((bare call).ends (z ∷ cs))) (sym e) (neither_ends (atoms.ends (59 ∷ cs)) (or_else ((lists call).ends (59 ∷ cs)) ((quotes call).ends (59 ∷ cs))) (atoms_fail 59 cs refl refl) tt)

  bare_refused : (k : ℕ) → k < suc depth → IsBelow (bare call).refused_from k
  bare_refused k l =
      both-below (later (sooner call.refused_from None) true) (later call.refused_from true) k
      (behind-below (sooner call.refused_from None) depth (λ j m. both-below call.refused_from None j (i.refused j m) tt) k l)
      (behind-below call.refused_from depth i.refused k l)

  read_sound : (ts rest : List ℕ) (e : Expression) → (expressions call).ends ts ≡ At rest → (expressions call).value ts e → Read ts rest (form_of e)
  read_sound ts rest e d v =
      let a = then_at (bare call).ends (gaps.ends ts) rest d in
      let k = gap_at ts a.0 a.1 in
      let r = bare_read a.0 rest e a.2 (ends_at (gaps.ends ts) a.0 _ a.1 v) k.3 in
      record { gap = k.0; word = r.word; all = k.2 ∙ ap (λ z. k.0 ++ z) r.all; is_gap = k.1; is = r.is; apart = r.apart }

  -- what a body makes of a reader is one
  pub reader-kept : IsReader (expressions call) (suc depth)
  reader-kept = record {
    said = rw (i.said, i.moves) refl;
    moves = refl;
    refused = λ k l. later_first (bare call).refused_from k (bare_refused k l);
    sound = read_sound;
    complete = λ g w rest f k x a. then_or_refused (bare call).ends (gaps.ends (g ++ (w ++ rest))) (w ++ rest) rest (gap_each (w ++ rest) k (expression_begins rest x)) (bare_each rest x a);
    fails = λ g rest k c. then_none (bare call).ends (gaps.ends (g ++ rest)) rest (gap_each rest k (closing_begins rest c)) (bare_fails rest c);
  }
