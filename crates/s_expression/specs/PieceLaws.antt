-- Where gaps, words and the characters of texts end, and what they are.
-- Main laws: gap-sound, gap-goes, run-took, run-goes, characters-sound, characters-go. Read first: Reading.antt, ListEnds.antt.
use Rattle.std.proofs.Common.{◌≡◌, ℕ, suc, ◌≤◌, ◌<◌, cond, nat_eq, Bool, true, false, Option, Some, None, List, [], ◌∷◌, ◌++◌, length, drop, append_assoc, refl, sym, ◌∙◌, ap, subst, arith, inl, inr}
use Rattle.std.specs.Prelude.{⊤, ◌⊎◌}
use Rattle.std.specs.Char.{is_whitespace}
use Rattle.std.proofs.lemmas.Bool.Decides.{nat_tests}
use Rattle.std.proofs.Math.Seq.{drop-append_seam}
use Rattle.chumsky_parser.specs.Ending.{Ending, At, Nowhere, Refused, Ender, and_then, or_else, Ends, DoesNotEnd}
use Rattle.chumsky_parser.specs.Language.{EndsFurther}
use Rattle.chumsky_parser.specs.Words.{ElseValue, AllPass, StopsAt, taken_of}
use Rattle.chumsky_parser.specs.WordsLaws.{taken_word, ends_at}
use Rattle.chumsky_primitive.specs.PrimitiveLanguage.{literal_ends}
use Rattle.chumsky_judge.specs.Picked.{if_picked, picked_ends}
use Rattle.chumsky_text.specs.Leading.{leading}
use Rattle.chumsky_text.specs.TextLanguage.{past_ends}
use Rattle.chumsky_text.specs.TextLanguageLaws.{take_leading, front_rest, leading_pass, leading_stops}
use Rattle.s_expression.specs.Lisp.{escaped, is_plain, AreCharacters, no_character, plain, escape, in_line, IsGap, no_gap, space, comment}
use Rattle.s_expression.specs.ListEnds.{Took, none, more, Goes, stops, steps, then_at, either_at}
use Rattle.s_expression.specs.Picks.{passing, of_one}
use Rattle.s_expression.specs.Reading.{any_one, picked, comments, gap_pieces, characters}

-- the value of the one that ends, or of the other
pub first_value : (x : Ending (List ℕ)) (r : List ℕ) (P Q : Type 0) → x ≡ At r → ElseValue x P Q → P
first_value x r P Q e h = rw e at h

pub other_value : (x : Ending (List ℕ)) (P Q : Type 0) → x ≡ Nowhere → ElseValue x P Q → Q
other_value x P Q e h = rw e at h

-- what is picked of a word that a part took
picked-at : (f : Ender ℕ) (picks : List ℕ → Option ℕ) (ts rest word : List ℕ) → f ts ≡ At rest → ts ≡ word ++ rest → picked_ends picks f ts ≡ if_picked (picks word) rest
picked-at f picks ts rest word e d = let q = taken_word ts rest word d in rw (e, q) refl

module _ (pick : ℕ → Option ℕ) where
  pick_here : (c : ℕ) (cs : List ℕ) → (picked pick).ends (c ∷ cs) ≡ if_picked (pick c) cs
  pick_here c cs = picked-at any_one.ends (of_one pick) (c ∷ cs) cs (c ∷ []) refl refl

  pub pick_ends : (c v : ℕ) (cs : List ℕ) → pick c ≡ Some v → (picked pick).ends (c ∷ cs) ≡ At cs
  pick_ends c v cs e = pick_here c cs ∙ ap (λ z. if_picked z cs) e

  pub pick_fails : (c : ℕ) (cs : List ℕ) → pick c ≡ None → (picked pick).ends (c ∷ cs) ≡ Nowhere
  pick_fails c cs e = pick_here c cs ∙ ap (λ z. if_picked z cs) e

  -- where it ends, it took one character, of which something is picked: its value
  pub pick_at : (ts rest : List ℕ) → (picked pick).ends ts ≡ At rest → (c : ℕ) × (v : ℕ) × (ts ≡ c ∷ rest) × (pick c ≡ Some v)
  pick_at [] rest e = absurd (cc e)
  pick_at (c ∷ cs) rest e = by_pick (pick c) refl (sym (pick_here c cs) ∙ e)
    where
      by_pick : (x : Option ℕ) → pick c ≡ x → if_picked x cs ≡ At rest → (d : ℕ) × (v : ℕ) × (c ∷ cs ≡ d ∷ rest) × (pick d ≡ Some v)
      by_pick (Some v) d z = let q : cs ≡ rest = cc z in (c, v, ap (λ y. c ∷ y) q, d)
      by_pick None d z = absurd (cc z)

  pub pick_value : (ts rest : List ℕ) (c v : ℕ) → ts ≡ c ∷ rest → (picked pick).value ts v → pick c ≡ Some v
  pick_value ts rest c v e i = first_pick (subst (λ z. (picked pick).value z v) e i)
    where
      first_pick : (picked pick).value (c ∷ rest) v → pick c ≡ Some v
      first_pick h = subst (λ z. of_one pick z ≡ Some v) (taken_word (c ∷ rest) rest (c ∷ []) refl) h

  pub pick-further : EndsFurther (picked pick).ends
  pick-further ts rest e = let p = pick_at ts rest e in let q : length ts ≡ length (p.0 ∷ rest) = ap length p.2 in omega (arith, q)

module _ (test : ℕ → Bool) where
  passed : (c v : ℕ) → passing test c ≡ Some v → (test c ≡ true) × (c ≡ v)
  passed c v e = by_test (test c) refl e
    where
      by_test : (b : Bool) → test c ≡ b → cond b (Some c) None ≡ Some v → (test c ≡ true) × (c ≡ v)
      by_test true d z = (d, cc z)
      by_test false d z = absurd (cc z)

  pub passes : (c : ℕ) → test c ≡ true → passing test c ≡ Some c
  passes c e = rw e refl

  pub passes_not : (c : ℕ) → test c ≡ false → passing test c ≡ None
  passes_not c e = rw e refl

  -- where none is picked, the next character doesn't pass; and the other way round
  pub stops_there : (ts : List ℕ) → (picked (passing test)).ends ts ≡ Nowhere → StopsAt test ts
  stops_there [] e = tt
  stops_there (c ∷ cs) e = by_test (test c) refl
    where
      by_test : (b : Bool) → test c ≡ b → test c ≡ false
      by_test true d = absurd (cc (e, pick_ends (passing test) c c cs (passes c d)))
      by_test false d = d

  pub none_there : (ts : List ℕ) → StopsAt test ts → (picked (passing test)).ends ts ≡ Nowhere
  none_there [] s = refl
  none_there (c ∷ cs) s = pick_fails (passing test) c cs (passes_not c s)

  -- characters that pass, one after another
  pub run-took : (vs ts rest : List ℕ) → Took (picked (passing test)).ends (picked (passing test)).value vs ts rest → (ts ≡ vs ++ rest) × AllPass test vs × StopsAt test rest
  run-took _ ts _ (none e) = (refl, tt, stops_there ts e)
  run-took _ ts rest (more {v = v} {vs = vs} {mid = mid} e i t) =
      let a = pick_at (passing test) ts mid e in
      let p = passed a.0 v (pick_value (passing test) ts mid a.0 v a.2 i) in
      let r = run-took vs mid rest t in
      let h : a.0 ≡ v = p.1 in
      let k : mid ≡ vs ++ rest = r.0 in
      (a.2 ∙ cc (h, k), (subst (λ z. test z ≡ true) h p.0, r.1), r.2)

  pub run-goes : (w rest : List ℕ) → AllPass test w → StopsAt test rest → Goes (picked (passing test)).ends (w ++ rest) rest
  run-goes [] rest p s = let e = none_there rest s in stops (rw e tt)
  run-goes (c ∷ cs) rest p s = steps (inl (pick_ends (passing test) c c (cs ++ rest) (passes c p.0))) (omega arith) (run-goes cs rest p.1 s)

-- a fixed character
pub literal_at : (m : ℕ) (ts rest : List ℕ) → literal_ends nat_eq (m ∷ []) ts ≡ At rest → ts ≡ m ∷ rest
literal_at m [] rest e = absurd (cc e)
literal_at m (c ∷ cs) rest e = by_test (nat_eq m c) refl e
  where
    by_test : (b : Bool) → nat_eq m c ≡ b → cond b (At cs) Nowhere ≡ At rest → c ∷ cs ≡ m ∷ rest
    by_test true d z = let q : cs ≡ rest = cc z in let h : c ≡ m = grind (arith, nat_tests) in cc (q, h)
    by_test false d z = absurd (cc z)

-- a comment, to the end of its line
line_past : (cs rest : List ℕ) → AllPass in_line cs → past_ends (leading in_line (cs ++ (10 ∷ rest))) (cs ++ (10 ∷ rest)) ≡ At (10 ∷ rest)
line_past cs rest p = let e : leading in_line (cs ++ (10 ∷ rest)) ≡ cs = leading_stops in_line cs (10 ∷ rest) p refl in rw e (ap (λ z. At z) (drop-append_seam cs (10 ∷ rest)))

comment_ends : (cs rest : List ℕ) → AllPass in_line cs → comments.ends (59 ∷ (cs ++ (10 ∷ rest))) ≡ At rest
comment_ends cs rest p = ap (λ z. and_then (literal_ends nat_eq (10 ∷ [])) z) (line_past cs rest p)

comment_at : (ts rest : List ℕ) → comments.ends ts ≡ At rest → (cs : List ℕ) × AllPass in_line cs × (ts ≡ 59 ∷ (cs ++ (10 ∷ rest)))
comment_at ts rest e =
    let a = then_at (literal_ends nat_eq (10 ∷ [])) _ rest e in
    let b = then_at (λ us. past_ends (leading in_line us) us) (literal_ends nat_eq (59 ∷ []) ts) a.0 a.1 in
    let us : List ℕ = b.0 in
    let cs : List ℕ = leading in_line us in
    let z : drop (length cs) us ≡ a.0 = cc b.2 in
    let w : us ≡ cs ++ (10 ∷ rest) = front_rest cs us (take_leading in_line us) ∙ ap (λ y. cs ++ y) (z ∙ literal_at 10 a.0 rest a.2) in
    (cs, leading_pass in_line us, literal_at 59 ts us b.1 ∙ ap (λ y. 59 ∷ y) w)

-- neither white space nor a comment begins so
pub gap_stops : (c : ℕ) (cs : List ℕ) → is_whitespace c ≡ false → nat_eq 59 c ≡ false → gap_pieces.ends (c ∷ cs) ≡ Nowhere
gap_stops c cs s n = let e = pick_fails (passing is_whitespace) c cs (passes_not is_whitespace c s) in rw (e, n) refl

-- nor is a comment that its line doesn't end in a gap
pub last_comment_stops : (cs : List ℕ) → AllPass in_line cs → gap_pieces.ends (59 ∷ cs) ≡ Nowhere
last_comment_stops cs p =
    let e = pick_fails (passing is_whitespace) 59 cs refl in
    let l : past_ends (leading in_line cs) cs ≡ At [] = whole cs p in
    let k : comments.ends (59 ∷ cs) ≡ Nowhere = ap (λ z. and_then (literal_ends nat_eq (10 ∷ [])) z) l in
    rw (e, k) refl
  where
    whole : (cs : List ℕ) → AllPass in_line cs → past_ends (leading in_line cs) cs ≡ At []
    whole [] p = refl
    whole (c ∷ cs) p = let d : in_line c ≡ true = p.0 in rw d (whole cs p.1)

space_stops : (ts : List ℕ) → gap_pieces.ends ts ≡ Nowhere → StopsAt is_whitespace ts
space_stops ts e = by_space ((picked (passing is_whitespace)).ends ts) refl e
  where
    by_space : (x : Ending (List ℕ)) → (picked (passing is_whitespace)).ends ts ≡ x → or_else x (comments.ends ts) ≡ Nowhere → StopsAt is_whitespace ts
    by_space (At r) d z = absurd (cc z)
    by_space Nowhere d z = stops_there is_whitespace ts d
    by_space Refused d z = absurd (cc z)

longer : (cs xs : List ℕ) → length xs ≤ length (cs ++ xs)
longer [] xs = omega arith
longer (c ∷ cs) xs = let l = longer cs xs in omega (arith, l)

-- what was taken is a gap, after which no white space stands
pub gap-sound : (us : List (Unit {0})) (ts rest : List ℕ) → Took gap_pieces.ends (λ (t : List ℕ) (v : Unit {0}). ⊤) us ts rest → (g : List ℕ) × IsGap g × (ts ≡ g ++ rest) × StopsAt is_whitespace rest
gap-sound _ ts _ (none e) = ([], no_gap, refl, space_stops ts e)
gap-sound _ ts rest (more {vs = us} {mid = mid} e i t) =
    let r = gap-sound us mid rest t in
    elim (either_at ((picked (passing is_whitespace)).ends ts) (comments.ends ts) mid e) [
      | inl a ↦ (
          let p = pick_at (passing is_whitespace) ts mid a in
          (p.0 ∷ r.0, space p.0 (passed is_whitespace p.0 p.1 p.3).0 r.1, p.2 ∙ ap (λ z. p.0 ∷ z) r.2, r.3)
          )
      | inr a ↦ (
          let k = comment_at ts mid a.1 in
          let z : 59 ∷ (k.0 ++ (10 ∷ (r.0 ++ rest))) ≡ (59 ∷ (k.0 ++ (10 ∷ r.0))) ++ rest = ap (λ y. 59 ∷ y) (sym (append_assoc k.0 (10 ∷ r.0) rest)) in
          (59 ∷ (k.0 ++ (10 ∷ r.0)), comment k.0 k.1 r.1, k.2 ∙ ap (λ y. 59 ∷ (k.0 ++ (10 ∷ y))) r.2 ∙ z, r.3)
          )
    ]

-- and each gap is taken, before what is in none
pub gap-goes : {g : List ℕ} (rest : List ℕ) → IsGap g → DoesNotEnd (gap_pieces.ends rest) → Goes gap_pieces.ends (g ++ rest) rest
gap-goes rest no_gap h = stops h
gap-goes rest (space {g} c e k) h =
    let p = pick_ends (passing is_whitespace) c c (g ++ rest) (passes is_whitespace c e) in
    let a : gap_pieces.ends (c ∷ (g ++ rest)) ≡ At (g ++ rest) = rw p refl in
    steps (inl a) (omega arith) (gap-goes rest k h)
gap-goes rest (comment {g} cs p k) h =
    let e = pick_fails (passing is_whitespace) 59 (cs ++ (10 ∷ (g ++ rest))) refl in
    let d = comment_ends cs (g ++ rest) p in
    let a : gap_pieces.ends (59 ∷ (cs ++ (10 ∷ (g ++ rest)))) ≡ At (g ++ rest) = rw (e, d) refl in
    let l = longer cs (10 ∷ (g ++ rest)) in
    let z : 59 ∷ (cs ++ (10 ∷ (g ++ rest))) ≡ (59 ∷ (cs ++ (10 ∷ g))) ++ rest = ap (λ y. 59 ∷ y) (sym (append_assoc cs (10 ∷ g) rest)) in
    subst (λ y. Goes gap_pieces.ends y rest) z (steps (inl a) (omega (arith, l)) (gap-goes rest k h))

-- what was taken between quotes stands for these characters
pub characters-sound : (cs ts rest : List ℕ) → Took characters.ends characters.value cs ts rest → (w : List ℕ) × AreCharacters w cs × (ts ≡ w ++ rest)
characters-sound _ ts _ (none e) = ([], no_character, refl)
characters-sound _ ts rest (more {v = v} {vs = cs} {mid = mid} e i t) =
    let r = characters-sound cs mid rest t in
    let x : Ending (List ℕ) = (picked (passing is_plain)).ends ts in
    let escapes : Ending (List ℕ) = and_then (picked escaped).ends (literal_ends nat_eq (92 ∷ []) ts) in
    elim (either_at x escapes mid e) [
      | inl a ↦ (
          let p = pick_at (passing is_plain) ts mid a in
          let k = passed is_plain p.0 v (pick_value (passing is_plain) ts mid p.0 v p.2 (first_value x mid _ _ a i)) in
          let h : p.0 ≡ v = k.1 in
          let q : IsPlainAt v = subst IsPlainAt h k.0 in
          (v ∷ r.0, plain v q r.1, p.2 ∙ cc (h, r.2))
          )
      | inr a ↦ (
          let b = then_at (picked escaped).ends (literal_ends nat_eq (92 ∷ []) ts) mid a.1 in
          let p = pick_at escaped b.0 mid b.2 in
          let o = ends_at (literal_ends nat_eq (92 ∷ []) ts) b.0 (λ us. (picked escaped).value us v) b.1 (other_value x _ _ a.0 i) in
          let k = pick_value escaped b.0 mid p.0 v p.2 o in
          (92 ∷ p.0 ∷ r.0, escape p.0 v k r.1, literal_at 92 ts b.0 b.1 ∙ ap (λ y. 92 ∷ y) (p.2 ∙ ap (λ y. p.0 ∷ y) r.2))
          )
    ]
  where
    IsPlainAt : ℕ → Type 0
    IsPlainAt c = is_plain c ≡ true

-- and all that stands for characters is taken, before a quote (34)
pub characters-go : {w cs : List ℕ} (rest : List ℕ) → AreCharacters w cs → Goes characters.ends (w ++ (34 ∷ rest)) (34 ∷ rest)
characters-go rest no_character = let e = pick_fails (passing is_plain) 34 rest refl in stops (rw e tt)
characters-go rest (plain {w} c p k) =
    let e = pick_ends (passing is_plain) c c (w ++ (34 ∷ rest)) (passes is_plain c p) in
    let a : characters.ends (c ∷ (w ++ (34 ∷ rest))) ≡ At (w ++ (34 ∷ rest)) = rw e refl in
    steps (inl a) (omega arith) (characters-go rest k)
characters-go rest (escape {w} d c p k) =
    let e = pick_fails (passing is_plain) 92 (d ∷ (w ++ (34 ∷ rest))) refl in
    let f = pick_ends escaped d c (w ++ (34 ∷ rest)) p in
    let a : characters.ends (92 ∷ d ∷ (w ++ (34 ∷ rest))) ≡ At (w ++ (34 ∷ rest)) = rw (e, f) refl in
    steps (inl a) (omega arith) (characters-go rest k)
