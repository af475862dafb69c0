-- The reader of settings in sections accepts just these.
-- Main laws: ini-sound, ini-complete, reads-ini. Read first: Ini.antt, IniReading.antt, ListEnds.antt.
use Rattle.std.proofs.Common.{◌≡◌, ℕ, ◌≤◌, ◌<◌, suc, cond, nat_eq, Bool, true, false, None, List, [], ◌∷◌, ◌++◌, length, drop, append_assoc, refl, sym, ◌∙◌, ap, subst, arith, inl, inr}
use Rattle.std.specs.Prelude.{◌&&◌, ◌||◌, ⊤, map, Option, Some, Result, Ok, Err}
use Rattle.std.specs.BTreeMap.{insert_entry}
use Rattle.std.specs.Char.{is_whitespace}
use Rattle.std.specs.Cmp.Lexicographic.{slice_cmp}
use Rattle.std.specs.List.{fold}
use Rattle.std.specs.Ordering.{nat_cmp, match_ordering}
use Rattle.std.specs.Str.{trim, encode_utf8_all}
use Rattle.std.specs.declared.cmp.Ordering.{Ordering}
use Rattle.std.specs.declared.cmp.Ordering.TheVariants.{Less, Equal, Greater}
use Rattle.std.proofs.lemmas.Bool.Decides.{nat_tests}
use Rattle.std.proofs.Math.Seq.{drop-append_seam}
use Rattle.chumsky_input.specs.declared.stop.Stop.{Stop}
use Rattle.chumsky_parser.specs.Ending.{Ending, At, Nowhere, Refused, and_then, EndsOrRefused, DoesNotEnd}
use Rattle.chumsky_parser.specs.Slices.{IsSliceOf}
use Rattle.chumsky_parser.specs.Words.{AllPass, StopsAt}
use Rattle.chumsky_parser.specs.WordsLaws.{ends_at, ends-unless, then_or_refused}
use Rattle.chumsky_parser.specs.declared.result.ParseResult.{ParseResult}
use Rattle.chumsky_primitive.specs.PrimitiveLanguage.{literal_ends}
use Rattle.chumsky_parser.specs.ItemsLanguage.{list_ends}
use Rattle.chumsky_items.specs.Container.{entries_of}
use Rattle.chumsky_items.specs.ListLanguage.{collected_language}
use Rattle.chumsky_items.specs.ListWords.{repeated_next}
use Rattle.chumsky_items.specs.RepeatedLanguage.{repeated_language}
use Rattle.chumsky_text.specs.Decimals.{TextSlice, slice-bytes}
use Rattle.chumsky_text.specs.Leading.{leading}
use Rattle.chumsky_text.specs.TextLanguage.{IsWord, word_front, run_ends}
use Rattle.chumsky_text.specs.TextLanguageLaws.{take_leading, front_rest, leading_pass, leading_stops}
use Rattle.examples.specs.Ini.{in_line, marks_comment, begins_gap, in_name, begins_entry, IsSectionName, IsEntryName, trimmed, Entry, Section, Says, nothing, blank, comment, entry, section, IsIni, last_of, Ini, said_by, HoldsIni, IsOutput, ReadsIni}
use Rattle.examples.specs.IniReading.{Slice, Entries, Holds, fixed, Trims, words, names, values, goes_on, pieces, gaps, entries, heads, headed, wholes}
use Rattle.chumsky.specs.Accepted.{FallsShort, AnswersText, IsOutputOf, IsAnswerOf}
use Rattle.chumsky.specs.AcceptedLaws.{decided_by}
use Rattle.examples.specs.ListEnds.{Took, none, more, Goes, stops, steps, then_at, literal_at, list-took, list-went, list-goes}

-- what is said of maps

module _ {K L V W : Type 0} (key : K → L) (value : V → W) (cmp : L → L → Ordering) where
  abbrev of_pair : K × V → L × W
  of_pair p = (key p.0, value p.1)

  abbrev by_key : K → K → Ordering
  by_key a b = cmp (key a) (key b)

  insert_by : (o : Ordering) (e : K × V) (es : List (K × V)) (k : K) (v : V) (others : List (K × V)) → map of_pair (match_ordering o ((k, v) ∷ e ∷ es) ((e.0, v) ∷ es) (e ∷ others))
      ≡ match_ordering o ((key k, value v) ∷ of_pair e ∷ map of_pair es) ((key e.0, value v) ∷ map of_pair es) (of_pair e ∷ map of_pair others)
  insert_by Less e es k v others = refl
  insert_by Equal e es k v others = refl
  insert_by Greater e es k v others = refl

  insert-mapped : (es : List (K × V)) (k : K) (v : V) → map of_pair (insert_entry by_key es k v) ≡ insert_entry cmp (map of_pair es) (key k) (value v)
  insert-mapped [] k v = refl
  insert-mapped (e ∷ es) k v =
      let o : Ordering = cmp (key k) (key e.0) in
      insert_by o e es k v (insert_entry by_key es k v)
      ∙ ap (λ z. match_ordering o ((key k, value v) ∷ of_pair e ∷ map of_pair es) ((key e.0, value v) ∷ map of_pair es) (of_pair e ∷ z)) (insert-mapped es k v)

  fold-mapped : (xs es : List (K × V)) → map of_pair (fold (λ m p. insert_entry by_key m p.0 p.1) es xs) ≡ fold (λ m p. insert_entry cmp m p.0 p.1) (map of_pair es) (map of_pair xs)
  fold-mapped [] es = refl
  fold-mapped (x ∷ xs) es = fold-mapped xs (insert_entry by_key es x.0 x.1) ∙ ap (λ z. fold (λ m p. insert_entry cmp m p.0 p.1) z (map of_pair xs)) (insert-mapped es x.0 x.1)

  -- what a map of pairs says is the map of what they say
  pub entries-mapped : (xs : List (K × V)) → map of_pair (entries_of by_key xs) ≡ entries_of cmp (map of_pair xs)
  entries-mapped xs = fold-mapped xs []

-- where words and runs end

longest_stops : (test : ℕ → Bool) (ts : List ℕ) → StopsAt test (drop (length (leading test ts)) ts)
longest_stops test [] = tt
longest_stops test (t ∷ ts) = by_test (test t) refl (longest_stops test ts)
  where
    by_test : (b : Bool) → test t ≡ b → StopsAt test (drop (length (leading test ts)) ts) → StopsAt test (drop (length (cond b (t ∷ leading test ts) [])) (t ∷ ts))
    by_test true d h = h
    by_test false d h = d

-- a run that was taken: what it is, and what is left
record Run (test : ℕ → Bool) (ts rest : List ℕ) : Type 0 where
  run : List ℕ
  is_leading : leading test ts ≡ run
  all : ts ≡ run ++ rest
  pass : AllPass test run
  stop : StopsAt test rest

run_at : (test : ℕ → Bool) (ts rest : List ℕ) → drop (length (leading test ts)) ts ≡ rest → Run test ts rest
run_at test ts rest e = record {
  run = leading test ts;
  is_leading = refl;
  all = front_rest (leading test ts) ts (take_leading test ts) ∙ ap (λ z. leading test ts ++ z) e;
  pass = leading_pass test ts;
  stop = subst (StopsAt test) e (longest_stops test ts);
}

run_goes : (test : ℕ → Bool) (w rest : List ℕ) → AllPass test w → StopsAt test rest → run_ends test (w ++ rest) ≡ At rest
run_goes test w rest p s = let e = leading_stops test w rest p s in rw e (ap (λ z. At z) (drop-append_seam w rest))

-- a word that was taken
record Taken (begins : ℕ → Bool) (after : ℕ → ℕ → Bool) (ts rest : List ℕ) : Type 0 where
  first : ℕ
  others : List ℕ
  is_front : word_front after ts ≡ first ∷ others
  all : ts ≡ first ∷ (others ++ rest)
  begun : begins first ≡ true
  pass : AllPass (after first) others
  stop : StopsAt (after first) rest

word_at : (begins : ℕ → Bool) (after : ℕ → ℕ → Bool) (ts rest : List ℕ) → (words begins after).ends ts ≡ At rest → Taken begins after ts rest
word_at begins after [] rest e = absurd (cc e)
word_at begins after (t ∷ ts) rest e = by_test (begins t) refl e
  where
    by_test : (b : Bool) → begins t ≡ b → cond b (cond true (At (drop (length (leading (after t) ts)) ts)) Nowhere) Nowhere ≡ At rest → Taken begins after (t ∷ ts) rest
    by_test true d z =
        let q : drop (length (leading (after t) ts)) ts ≡ rest = cc z in
        let r = run_at (after t) ts rest q in
        record { first = t; others = r.run; is_front = ap (λ y. t ∷ y) r.is_leading; all = ap (λ y. t ∷ y) r.all; begun = d; pass = r.pass; stop = r.stop }
    by_test false d z = absurd (cc z)

word_goes : (begins : ℕ → Bool) (after : ℕ → ℕ → Bool) (t : ℕ) (ws rest : List ℕ) → begins t ≡ true → AllPass (after t) ws → StopsAt (after t) rest → (words begins after).ends (t ∷ (ws ++ rest)) ≡ At rest
word_goes begins after t ws rest b p s = let e = leading_stops (after t) ws rest p s in rw (b, e) (ap (λ z. At z) (drop-append_seam ws rest))

word_fails : (begins : ℕ → Bool) (after : ℕ → ℕ → Bool) (t : ℕ) (ts : List ℕ) → begins t ≡ false → (words begins after).ends (t ∷ ts) ≡ Nowhere
word_fails begins after t ts b = rw b refl

longer : (cs xs : List ℕ) → length xs ≤ length (cs ++ xs)
longer [] xs = omega arith
longer (c ∷ cs) xs = let l = longer cs xs in omega (arith, l)

fewer : {f : List ℕ → Ending (List ℕ)} {ts rest : List ℕ} → Goes f ts rest → length rest ≤ length ts
fewer (stops h) = omega arith
fewer (steps i l g) = let k = fewer g in omega (arith, l, k)

-- gaps

none_pass : (cs : List ℕ) → AllPass (λ c. false) cs → cs ≡ []
none_pass [] p = refl
none_pass (c ∷ cs) p = absurd (cc p.0)

none_stops : (cs : List ℕ) → StopsAt (λ c. false) cs
none_stops [] = tt
none_stops (c ∷ cs) = refl

either_false : (b : Bool) → (b || false) ≡ true → b ≡ true
either_false true e = refl
either_false false e = absurd (cc e)

either_true : (b c : Bool) → c ≡ true → (b || c) ≡ true
either_true true c e = refl
either_true false c e = e

first_true : (b c : Bool) → b ≡ true → (b || c) ≡ true
first_true b c e = rw e refl

white_no_mark : (c : ℕ) → is_whitespace c ≡ true → marks_comment c ≡ false
white_no_mark c w = grind (arith, nat_tests)

entry_no_gap : (c : ℕ) → begins_entry c ≡ true → begins_gap c ≡ false
entry_no_gap c e = grind (arith, nat_tests)

-- a piece of a gap adds nothing to what follows says
piece_says : {es : List Entry} {ss : List Section} (c : ℕ) (cs rest : List ℕ) → begins_gap c ≡ true → AllPass (goes_on c) cs → StopsAt (goes_on c) rest → Says rest es ss → Says (c ∷ (cs ++ rest)) es ss
piece_says {es} {ss} c cs rest b p s h = by_mark (marks_comment c) refl b p s
  where
    by_mark : (m : Bool) → marks_comment c ≡ m → (is_whitespace c || m) ≡ true → AllPass (λ d. m && in_line d) cs → StopsAt (λ d. m && in_line d) rest → Says (c ∷ (cs ++ rest)) es ss
    by_mark true d a q r = comment c cs d q r h
    by_mark false d a q r = let n : cs ≡ [] = none_pass cs q in subst (λ z. Says (c ∷ (z ++ rest)) es ss) (sym n) (blank c (either_false (is_whitespace c) a) h)

pieces_say : {es : List Entry} {ss : List Section} (us : List (Unit {0})) (ts rest : List ℕ) → Took pieces.ends (λ (t : List ℕ) (v : Unit {0}). ⊤) us ts rest → Says rest es ss → Says ts es ss
pieces_say _ ts _ (none e) h = h
pieces_say {es} {ss} _ ts rest (more {vs = us} {mid = mid} e i t) h =
    let k = word_at begins_gap goes_on ts mid e in
    subst (λ z. Says z es ss) (sym k.all) (piece_says k.first k.others mid k.begun k.pass k.stop (pieces_say us mid rest t h))

gap_says : {es : List Entry} {ss : List Section} (ts rest : List ℕ) → gaps.ends ts ≡ At rest → Says rest es ss → Says ts es ss
gap_says ts rest e h = let w = list-went pieces.ends 0 ts rest e in pieces_say w.0 ts rest w.1 h

-- entries

name_trimmed : (begins : ℕ → Bool) (ts rest : List ℕ) (t : Slice) (k : Taken begins (λ first. in_name) ts rest) → (names begins).value ts t → t.now ≡ trimmed (k.first ∷ k.others)
name_trimmed begins ts rest t k i = i.2 ∙ ap trim (slice-bytes (λ s. s.now) (word_front (λ first. in_name) ts) i.0 i.1) ∙ ap trimmed k.is_front

entry_says : {es : List Entry} {ss : List Section} (ts rest : List ℕ) (v : Slice × Slice) → entries.ends ts ≡ At rest → entries.value ts v → Says rest es ss → Says ts ((v.0.now, v.1.now) ∷ es) ss
entry_says {es} {ss} ts rest v e i h =
    let named : Ending (List ℕ) = and_then (fixed 61).ends ((names begins_entry).ends ts) in
    let a = then_at gaps.ends (and_then values.ends named) rest e in
    let b = then_at values.ends named a.0 a.1 in
    let k = then_at (fixed 61).ends ((names begins_entry).ends ts) b.0 b.1 in
    let w = word_at begins_entry (λ first. in_name) ts k.0 k.1 in
    let past : drop (length (leading in_line b.0)) b.0 ≡ a.0 = cc b.2 in
    let r = run_at in_line b.0 a.0 past in
    let x : v.0.now ≡ trimmed (w.first ∷ w.others) = name_trimmed begins_entry ts k.0 v.0 w i.0 in
    let j = ends_at named b.0 (λ us. values.value us v.1) b.1 i.1 in
    let y : v.1.now ≡ trimmed r.run = j.2 ∙ ap trim (slice-bytes (λ s. s.now) (leading in_line b.0) j.0 j.1) ∙ ap trimmed r.is_leading in
    let all : ts ≡ (w.first ∷ w.others) ++ (61 ∷ (r.run ++ a.0)) = w.all ∙ ap (λ z. w.first ∷ (w.others ++ z)) (literal_at 61 k.0 b.0 k.2 ∙ ap (λ z. 61 ∷ z) r.all) in
    let is = entry (w.first ∷ w.others) r.run (w.begun, w.pass) r.pass r.stop (gap_says a.0 rest a.2 h) in
    rw (all, x, y) is

abbrev entry_of : Slice × Slice → Entry
entry_of v = (v.0.now, v.1.now)

entries_say : {ss : List Section} (vs : List (Slice × Slice)) (ts rest : List ℕ) → Took entries.ends entries.value vs ts rest → Says rest [] ss → Says ts (map entry_of vs) ss
entries_say _ ts _ (none e) h = h
entries_say _ ts rest (more {v = v} {vs = vs} {mid = mid} e i t) h = entry_says ts mid v e i (entries_say vs mid rest t h)

-- heads

head_says : {es : List Entry} {ss : List Section} (ts rest : List ℕ) (n : Slice) → heads.ends ts ≡ At rest → heads.value ts n → Says rest es ss → Says ts [] ((n.now, es) ∷ ss)
head_says {es} {ss} ts rest n e i h =
    let opened : Ending (List ℕ) = (fixed 91).ends ts in
    let closes : List ℕ → Ending (List ℕ) = λ us. and_then (fixed 93).ends ((names in_name).ends us) in
    let a = then_at gaps.ends (and_then closes opened) rest e in
    let b = then_at closes opened a.0 a.1 in
    let k = then_at (fixed 93).ends ((names in_name).ends b.0) a.0 b.2 in
    let w = word_at in_name (λ first. in_name) b.0 k.0 k.1 in
    let x : n.now ≡ trimmed (w.first ∷ w.others) = name_trimmed in_name b.0 k.0 n w (ends_at opened b.0 (λ us. (names in_name).value us n) b.1 i) in
    let all : ts ≡ 91 ∷ ((w.first ∷ w.others) ++ (93 ∷ a.0)) = literal_at 91 ts b.0 b.1 ∙ ap (λ z. 91 ∷ z) (w.all ∙ ap (λ z. w.first ∷ (w.others ++ z)) (literal_at 93 k.0 a.0 k.2)) in
    let is = section (w.first ∷ w.others) (w.begun, w.pass) (gap_says a.0 rest a.2 h) in
    rw (all, x) is

-- sections

abbrev section_of : Slice × Entries → Section
section_of s = (s.0.now, map entry_of s.1.entries)

abbrev lasts : Section → Section
lasts s = (s.0, last_of s.1)

entries_held : (xs : List (Slice × Slice)) (m : Entries) → Holds xs m → map entry_of m.entries ≡ last_of (map entry_of xs)
entries_held xs m h = ap (map entry_of) h ∙ entries-mapped (λ k. k.now) (λ v. v.now) (slice_cmp nat_cmp) xs

record SaysSections (ts : List ℕ) (vs : List (Slice × Entries)) : Type 0 where
  sections : List Section
  is : IsIni ts sections
  are : map section_of vs ≡ map lasts sections

section_says : (ts rest : List ℕ) (v : Slice × Entries) (vs : List (Slice × Entries)) → headed.ends ts ≡ At rest → headed.value ts v → SaysSections rest vs → SaysSections ts (v ∷ vs)
section_says ts rest v vs e i h =
    let many : List ℕ → Ending (List ℕ) = list_ends (repeated_next entries.ends 0 None) in
    let a = then_at many (heads.ends ts) rest e in
    let c = ends_at (heads.ends ts) a.0 (λ us. (collected_language (repeated_language entries 0 None) Holds ⊥).value us v.1) a.1 i.1 in
    let t = list-took entries.ends entries.value 0 a.0 rest c.items a.2 c.is in
    let es : List Entry = map entry_of c.items in
    let x : map entry_of v.1.entries ≡ last_of es = entries_held c.items v.1 c.held in
    record {
      sections = (v.0.now, es) ∷ h.sections;
      is = head_says ts a.0 v.0 a.1 i.0 (entries_say c.items a.0 rest t h.is);
      are = let y = h.are in cc (x, y);
    }

sections_say : (vs : List (Slice × Entries)) (ts rest : List ℕ) → rest ≡ [] → Took headed.ends headed.value vs ts rest → SaysSections ts vs
sections_say _ ts _ z (none e) = record { sections = []; is = subst (λ y. Says y [] []) (sym z) nothing; are = refl }
sections_say _ ts rest z (more {v = v} {vs = vs} {mid = mid} e i t) = section_says ts mid v vs e i (sections_say vs mid rest z t)

-- the output of a text that is taken whole holds its sections
pub ini-sound : (ts : List ℕ) (ini : Ini) → wholes.ends ts ≡ At [] → wholes.value ts ini → HoldsIni ts ini
ini-sound ts ini e i =
    let many : List ℕ → Ending (List ℕ) = list_ends (repeated_next headed.ends 0 None) in
    let a = then_at many (gaps.ends ts) [] e in
    let c = ends_at (gaps.ends ts) a.0 (λ us. (collected_language (repeated_language headed 0 None) Holds ⊥).value us ini) a.1 i in
    let s = sections_say c.items a.0 [] refl (list-took headed.ends headed.value 0 a.0 [] c.items a.2 c.is) in
    record {
      sections = s.sections;
      is = gap_says ts a.0 a.1 s.is;
      held = ap (map section_of) c.held ∙ entries-mapped (λ k. k.now) (λ m. map entry_of m.entries) (slice_cmp nat_cmp) c.items ∙ ap last_of s.are;
    }

-- and each text of sections is taken whole

gap_goes : (ts rest : List ℕ) → Goes pieces.ends ts rest → EndsOrRefused (gaps.ends ts) rest
gap_goes ts rest g = list-goes pieces.ends ts rest g

name_goes : (begins : ℕ → Bool) (name rest : List ℕ) → IsWord begins (λ first. in_name) name → StopsAt in_name rest → (names begins).ends (name ++ rest) ≡ At rest
name_goes begins [] rest i s = absurd i
name_goes begins (t ∷ ts) rest i s = word_goes begins (λ first. in_name) t ts rest i.0 i.1 s

entry_goes : (name value rest mid : List ℕ) → IsEntryName name → AllPass in_line value → StopsAt in_line rest → Goes pieces.ends rest mid → EndsOrRefused (entries.ends (name ++ (61 ∷ (value ++ rest)))) mid
entry_goes name value rest mid n p s g =
    let ts : List ℕ = name ++ (61 ∷ (value ++ rest)) in
    let named : Ending (List ℕ) = and_then (fixed 61).ends ((names begins_entry).ends ts) in
    let a : named ≡ At (value ++ rest) = ap (and_then (fixed 61).ends) (name_goes begins_entry name (61 ∷ (value ++ rest)) n refl) in
    let b : and_then values.ends named ≡ At rest = ap (and_then values.ends) a ∙ run_goes in_line value rest p s in
    then_or_refused gaps.ends (and_then values.ends named) rest mid (inl b) (gap_goes rest mid g)

head_goes : (name rest mid : List ℕ) → IsSectionName name → Goes pieces.ends rest mid → EndsOrRefused (heads.ends (91 ∷ (name ++ (93 ∷ rest)))) mid
head_goes name rest mid n g =
    let a : and_then (fixed 93).ends ((names in_name).ends (name ++ (93 ∷ rest))) ≡ At rest = ap (and_then (fixed 93).ends) (name_goes in_name name (93 ∷ rest) n refl) in
    then_or_refused gaps.ends (and_then (fixed 93).ends ((names in_name).ends (name ++ (93 ∷ rest)))) rest mid (inl a) (gap_goes rest mid g)

-- where the gap at its start, the entries after it, and the sections after these end
record Going (ts : List ℕ) (es : List Entry) : Type 0 where
  mid : List ℕ
  last : List ℕ
  gap : Goes pieces.ends ts mid
  some : Goes entries.ends mid last
  others : Goes headed.ends last []
  first : es ≡ [] → mid ≡ last

piece_goes : {es : List Entry} (c : ℕ) (cs rest : List ℕ) → begins_gap c ≡ true → AllPass (goes_on c) cs → StopsAt (goes_on c) rest → Going rest es → Going (c ∷ (cs ++ rest)) es
piece_goes c cs rest b p s g = let l = longer cs rest in record { mid = g.mid; last = g.last; gap = steps (inl (word_goes begins_gap goes_on c cs rest b p s)) (omega (arith, l)) g.gap; some = g.some; others = g.others; first = g.first }

going : {ts : List ℕ} {es : List Entry} {ss : List Section} → Says ts es ss → Going ts es
going nothing = record { mid = []; last = []; gap = stops tt; some = stops tt; others = stops tt; first = λ z. refl }
going (blank {rest} c w k) =
    let m : marks_comment c ≡ false = white_no_mark c w in
    piece_goes c [] rest (first_true (is_whitespace c) (marks_comment c) w) tt (subst (λ b. StopsAt (λ d. b && in_line d) rest) (sym m) (none_stops rest)) (going k)
going (comment {rest} c cs m p s k) =
    piece_goes c cs rest (either_true (is_whitespace c) (marks_comment c) m) (subst (λ b. AllPass (λ d. b && in_line d) cs) (sym m) p) (subst (λ b. StopsAt (λ d. b && in_line d) rest) (sym m) s) (going k)
going (entry [] value n p s k) = absurd n
going (entry {rest} (t ∷ name) value n p s k) =
    let g = going k in
    let ts : List ℕ = (t ∷ name) ++ (61 ∷ (value ++ rest)) in
    let b : pieces.ends ts ≡ Nowhere = word_fails begins_gap goes_on t (name ++ (61 ∷ (value ++ rest))) (entry_no_gap t n.0) in
    let l = longer name (61 ∷ (value ++ rest)) in
    let o = longer value rest in
    let f = fewer g.gap in
    record {
      mid = ts;
      last = g.last;
      gap = stops (subst DoesNotEnd (sym b) tt);
      some = steps (entry_goes (t ∷ name) value rest g.mid n p s g.gap) (omega (arith, l, o, f)) g.some;
      others = g.others;
      first = λ z. absurd (cc z);
    }
going (section {rest} name n k) =
    let g = going k in
    let ts : List ℕ = 91 ∷ (name ++ (93 ∷ rest)) in
    let l = longer name (93 ∷ rest) in
    let f = fewer g.gap in
    let o = fewer g.some in
    let many : List ℕ → Ending (List ℕ) = list_ends (repeated_next entries.ends 0 None) in
    let h : EndsOrRefused (headed.ends ts) g.last = then_or_refused many (heads.ends ts) g.mid g.last (head_goes name rest g.mid n g.gap) (list-goes entries.ends g.mid g.last g.some) in
    record { mid = ts; last = ts; gap = stops tt; some = stops tt; others = steps h (omega (arith, l, f, o)) g.others; first = λ z. refl }

pub ini-complete : (ts : List ℕ) (ss : List Section) → IsIni ts ss → EndsOrRefused (wholes.ends ts) []
ini-complete ts ss i =
    let g = going i in
    let many : List ℕ → Ending (List ℕ) = list_ends (repeated_next headed.ends 0 None) in
    then_or_refused many (gaps.ends ts) g.mid [] (gap_goes ts g.mid g.gap) (list-goes headed.ends g.mid [] (subst (λ z. Goes headed.ends z []) (sym (g.first refl)) g.others))

-- so the answer of a call that reads these texts is exact
module _ {Er spare : Type 0} {result : Result (ParseResult Ini Er) Stop} (ts : List ℕ) (a : AnswersText Some wholes ts spare result) where
  output_is : (w : Option Ini) → IsOutputOf Some wholes ts w → IsOutput ts w
  output_is (Some ini) i = ini-sound ts ini i.0 i.2.0
  output_is None i = λ ss h. (let e = ends-unless (ini-complete ts ss h) (decided_by a refl) in subst FallsShort e i)

  answer_is : (r : Result (ParseResult Ini Er) Stop) → IsAnswerOf Some wholes ts r → ReadsIni ts r
  answer_is (Ok parsed) i = output_is parsed.output i
  answer_is (Err s) (inl e) = e
  answer_is (Err s) (inr e) = absurd (decided_by a refl e)

  pub reads-ini : ReadsIni ts result
  reads-ini = answer_is result a.output
