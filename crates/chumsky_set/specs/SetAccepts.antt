-- What a set accepts is as its language says.
-- Main word: RowAccepts. Main laws: no_part-accepts, part_and-accepts, set-accepts. Read first: SetLanguage.antt, SetWords.antt, SetEndings.antt.
use Rattle.std.proofs.Common.{◌≡◌, ℕ, min, ◌≤◌, true, Option, Some, None, option_map, List, [], ◌∷◌, ◌++◌, length, refl, sym, ◌∙◌, ap, subst, arith, inl, inr}
use Rattle.std.proofs.lemmas.List.{append_cancel_right}
use Rattle.std.proofs.Math.Nat.{min-le_left, min-le_right}
use Rattle.chumsky_input.specs.Outcome.{Meaning}
use Rattle.chumsky_parser.specs.Chained.{Given}
use Rattle.chumsky_parser.specs.Ending.{At, Nowhere, Refused, Ender, Ends, Reads}
use Rattle.chumsky_parser.specs.EndingLaws.{regrouped-by}
use Rattle.chumsky_parser.specs.Language.{Language, Begins, TakesOnly, GivesOnly, IsBelow, Described, Accepts, sooner}
use Rattle.chumsky_parser.specs.Memory.{NeverOutOfMemory}
use Rattle.chumsky_parser.specs.MemoryLaws.{given-spares, no-spares, chained-spares, sequence-spares, or_else-spares}
use Rattle.chumsky_parser.specs.ProgressLaws.{both-true}
use Rattle.chumsky_set.specs.AnyOrder.{Slot, Row, Past, Moving, Missing, Offered, no_part, part_and, TookNone, TookSome, Rounds, AnyOrder}
use Rattle.chumsky_set.specs.Tuples.{SetOf}
use Rattle.chumsky_set.specs.SetEndings.{FitsBefore, FitsNone, RowReads, no_part-reads, part_and-reads, any_order-reads}
use Rattle.chumsky_set.specs.SetLanguage.{Places, none_taken, Passed, left_of, set_taken, set_ends, InAnyOrder, RowLanguage, no_parts, part_before, set_language}
use Rattle.chumsky_set.specs.SetWords.{joined_words, AllKeep, Took, EachTook, AllDecided, set-covered, set-decided}

-- the words that parts take are words of theirs, and stand for the values that they give
pub record RowSound {Tok V : Type 0} (R : RowLanguage Tok V) : Type 0 where
  pub keep : AllKeep R.ends
  pub only : (places : Places Tok) (ws : List (List Tok)) → EachTook R.ends places ws → R.words ws
  pub given : (places : Places Tok) (ws : List (List Tok)) (v : V) → EachTook R.ends places ws → R.value places v → R.stand_for ws v
  pub decided : AllDecided R.refused_from R.ends

-- what is below the smaller of two numbers is below both
sooner-first : (a b : Option ℕ) (k : ℕ) → IsBelow (sooner a b) k → IsBelow a k
sooner-first None b k i = tt
sooner-first (Some m) None k i = i
sooner-first (Some m) (Some n) k i = let l : min m n ≤ m = min-le_left m n in omega (arith, i, l)

sooner-second : (a b : Option ℕ) (k : ℕ) → IsBelow (sooner a b) k → IsBelow b k
sooner-second None b k i = i
sooner-second (Some m) None k i = tt
sooner-second (Some m) (Some n) k i = let r : min m n ≤ n = min-le_right m n in omega (arith, i, r)

module _ {Tok : Type 0} where
  no_parts-sound : RowSound (no_parts {Tok = Tok})
  no_parts-sound = record { keep = tt; only = λ places ws e. e; given = λ places ws v e i. e; decided = tt }

  -- what begins a text that a part took a word of is that word
  begins-took : {f : Ender Tok} {P : List Tok → Type 0} {p w : List Tok} (t : Took f p w) → Begins P p t.rest → P w
  begins-took {P = P} {p = p} {w = w} t b = let e : b.word ≡ w = append_cancel_right b.word w t.rest (sym b.all ∙ t.all) in subst P e b.is

  decided-sooner : (a b : Option ℕ) (fs : List (Ender Tok)) → AllDecided b fs → AllDecided (sooner a b) fs
  decided-sooner a b [] d = tt
  decided-sooner a b (f ∷ fs) d = (λ ts i e. d.0 ts (sooner-second a b (length ts) i) e, decided-sooner a b fs d.1)

module _ {Tok Cx St Er V W : Type 0} (part : Meaning Tok Cx St Er V) (F : Language Tok V) (d : Described part F) (R : RowLanguage Tok W) (s : RowSound R) where
  pub part_before-sound : RowSound (part_before F R)
  part_before-sound = record {
    keep = (record { taken = λ ts rest e. let b = d.only.taken ts rest e in record { word = b.word; all = b.all; is = tt } }, s.keep);
    only = only;
    given = given;
    decided = (λ ts i e. d.decided ts (sooner-first F.refused_from R.refused_from (length ts) i) e, decided-sooner F.refused_from R.refused_from R.ends s.decided);
  }
    where
      only : (places : Places Tok) (ws : List (List Tok)) → EachTook (F.ends ∷ R.ends) places ws → (part_before F R).words ws
      only [] ws i = absurd i
      only (None ∷ places) ws i = absurd i
      only (Some p ∷ places) [] i = absurd i
      only (Some p ∷ places) (w ∷ ws) i = (begins-took i.0 (d.only.taken p i.0.rest i.0.ends), s.only places ws i.1)

      given : (places : Places Tok) (ws : List (List Tok)) (v : V × W) → EachTook (F.ends ∷ R.ends) places ws → (part_before F R).value places v → (part_before F R).stand_for ws v
      given [] ws v i j = absurd i
      given (None ∷ places) ws v i j = absurd i
      given (Some p ∷ places) [] v i j = absurd i
      given (Some p ∷ places) (w ∷ ws) v i j = (begins-took i.0 (d.given.given p i.0.rest v.0 i.0.ends j.0), s.given places ws v.1 i.1 j.1)

-- no pass over a row is refused for memory
pub record RowSpares {Tok Cx St Er T V : Type 0} (row : Row Tok Cx St Er T V) : Type 0 where
  pub pass : (t : T) → NeverOutOfMemory (row.pass t)
  pub last : (t : T) → NeverOutOfMemory (row.last t)

module _ {Tok Cx St Er T V : Type 0} (row : Row Tok Cx St Er T V) (h : RowSpares row) where
  none-spares : (t : T) (v : Option T) → NeverOutOfMemory (TookNone row t v)
  none-spares t (Some u) b o m = h.last u b o m.1
  none-spares t None b o m = absurd m

  some-spares : (t u : T) (next : Meaning Tok Cx St Er V) → NeverOutOfMemory next → (v : Option T) → NeverOutOfMemory (TookSome row t u next v)
  some-spares t u next k (Some v) b o m = k b o m.2
  some-spares t u next k None b o m = absurd m

  rounds-spare : (us : List T) (t : T) → NeverOutOfMemory (Rounds row us t)
  rounds-spare [] t = chained-spares (row.pass t) (TookNone row t) (h.pass t) (none-spares t)
  rounds-spare (u ∷ us) t = chained-spares (row.pass t) (TookSome row t u (Rounds row us u)) (h.pass t) (some-spares t u (Rounds row us u) (rounds-spare us u))

  pub any_order-spares : (t : T) → NeverOutOfMemory (AnyOrder row t)
  any_order-spares t b o m = rounds-spare m.rounds t b o m.run

module _ {Tok Cx St Er V : Type 0} (part : Meaning Tok Cx St Er V) (h : NeverOutOfMemory part) where
  past-spares : (place : ℕ) (v : Option V) → NeverOutOfMemory (Past {Tok = Tok} {Cx = Cx} {St = St} {Er = Er} place v)
  past-spares place v b o (inl m) = given-spares (Some (Some v)) b o m.1
  past-spares place v b o (inr m) = no-spares b o m.1

  moving-spares : NeverOutOfMemory (Moving part)
  moving-spares b o m = chained-spares part (Past b.start) h (past-spares b.start) b o m.run

  pub offered-spares : {Mk : Type 0} (mark : St → Mk) (back : St → Mk → St) (safe : Type 0) → safe → (s : Slot V) → NeverOutOfMemory (Offered mark back safe part s)
  offered-spares mark back safe x (Some v) = given-spares (Some (Some v))
  offered-spares mark back safe x None = or_else-spares mark back safe (Moving part) (Given (Some None)) x moving-spares (given-spares (Some None))

  pub missing-spares : (s : Slot V) → NeverOutOfMemory (Missing part s)
  missing-spares (Some v) = given-spares v
  missing-spares None = h

-- a row is as its language says, of which this is nothing taken
pub record RowDescribed {Tok Cx St Er T V : Type 0} (row : Row Tok Cx St Er T V) (fits : T → Places Tok → Type 0) (R : RowLanguage Tok V) (none : T) : Type 0 where
  pub reads : RowReads row fits R
  pub sound : RowSound R
  pub start : fits none (none_taken R.ends)

pub record RowAccepts {Tok Cx St Er T V : Type 0} (row : Row Tok Cx St Er T V) (fits : T → Places Tok → Type 0) (R : RowLanguage Tok V) (none : T) (spare : Type 0) : Type 0 where
  pub described : R.said ≡ true → RowDescribed row fits R none
  pub sparing : spare → R.takes_no_memory → RowSpares row

pub no_part-accepts : {Tok Cx St Er spare : Type 0} → RowAccepts (no_part {Tok = Tok} {Cx = Cx} {St = St} {Er = Er}) FitsNone no_parts tt spare
no_part-accepts {Er = Er} = record {
  described = λ s. record { reads = no_part-reads Er; sound = no_parts-sound; start = refl };
  sparing = λ q t. record { pass = λ u. given-spares (Some u); last = λ u. given-spares (Some u) };
}

module _ {Tok Cx St Mk Er T V W : Type 0} (mark : St → Mk) (back : St → Mk → St) {safe spare : Type 0} (still : spare → safe) {part : Meaning Tok Cx St Er V}
    {others : Row Tok Cx St Er T W} {F : Language Tok V} {fits : T → Places Tok → Type 0} {R : RowLanguage Tok W} {none : T} where
  -- a part before others, where a mark and going back take no memory if errors and states don't
  pub part_and-accepts : Accepts part F spare → RowAccepts others fits R none spare
      → RowAccepts (part_and mark back safe part others) (FitsBefore F.value fits) (part_before F R) (None, none) spare
  part_and-accepts h k = record {
    described = λ s.
        let t = both-true F.said R.said s in
        let d = h.described t.0 in
        let e = k.described t.1 in
        record { reads = part_and-reads mark back safe part others F fits R d.reads e.reads; sound = part_before-sound part F d R e.sound; start = (tt, e.start) };
    sparing = λ q t.
        let n = h.sparing q t.0 in
        let m = k.sparing q t.1 in
        record {
          pass = λ u. sequence-spares (Offered mark back safe part u.0) (others.pass u.1) (offered-spares part n mark back safe (still q) u.0) (m.pass u.1);
          last = λ u. sequence-spares (Missing part u.0) (others.last u.1) (missing-spares part n u.0) (m.last u.1);
        };
  }

left-refused : {Tok : Type 0} (x : Passed Tok) → left_of x ≡ Refused → x ≡ Refused
left-refused (At s) i = absurd (cc i)
left-refused Nowhere i = absurd (cc i)
left-refused Refused i = refl

module _ {Tok Cx St Er T V : Type 0} {row : Row Tok Cx St Er T V} {fits : T → Places Tok → Type 0} {R : RowLanguage Tok V} {none : T} (d : RowDescribed row fits R none) where
  takes-only : TakesOnly (set_ends R.ends) (InAnyOrder R.words)
  takes-only = record { taken = λ ts rest i. by_end ts rest (set_taken R.ends ts) refl i }
    where
      by_end : (ts rest : List Tok) (x : Passed Tok) → set_taken R.ends ts ≡ x → left_of x ≡ At rest → Begins (InAnyOrder R.words) ts rest
      by_end ts rest (At s) t i =
          let c = set-covered R.ends d.sound.keep ts s t in
          let z : s.1 ≡ rest = cc i in
          record {
            word = joined_words c.order;
            all = c.all ∙ ap (λ r. joined_words c.order ++ r) z;
            is = record { words = c.words; is = d.sound.only s.0 c.words c.each; order = c.order; moved = c.moved; all = refl };
          }
      by_end ts rest Nowhere t i = absurd (cc i)
      by_end ts rest Refused t i = absurd (cc i)

  module _ {W : Type 0} (apart : W → V) where
    gives-only : GivesOnly (set_ends R.ends) (set_language apart R).value (set_language apart R).stands_for
    gives-only = record { given = λ ts rest w i j. by_end ts rest w (set_taken R.ends ts) refl i j }
      where
        by_end : (ts rest : List Tok) (w : W) (x : Passed Tok) → set_taken R.ends ts ≡ x → left_of x ≡ At rest → Ends x (λ s. R.value s.0 (apart w))
            → Begins (λ u. (set_language apart R).stands_for u w) ts rest
        by_end ts rest w (At s) t i j =
            let c = set-covered R.ends d.sound.keep ts s t in
            let z : s.1 ≡ rest = cc i in
            record {
              word = joined_words c.order;
              all = c.all ∙ ap (λ r. joined_words c.order ++ r) z;
              is = record { words = c.words; is = d.sound.given s.0 c.words (apart w) c.each j; order = c.order; moved = c.moved; all = refl };
            }
        by_end ts rest w Nowhere t i j = absurd (cc i)
        by_end ts rest w Refused t i j = absurd (cc i)

    -- what ends as a set of the row, with its values, is as its language says
    pub set-described : (m : Meaning Tok Cx St Er W) → Reads m (set_ends R.ends) (set_language apart R).value → Described m (set_language apart R)
    set-described m h = record {
      reads = h;
      only = takes-only;
      given = gives-only;
      each = λ u. absurd u;
      decided = λ ts i r. set-decided R.refused_from R.ends d.sound.keep d.sound.decided ts i (left-refused (set_taken R.ends ts) r);
      further = λ e. absurd (cc e);
    }

-- a set of the parts of a row
pub set-accepts : {Tok Cx St Er T V W : Type 0} {row : Row Tok Cx St Er T V} {fits : T → Places Tok → Type 0} {R : RowLanguage Tok V} {none : T} {spare : Type 0}
    (formed : V → W) (apart : W → V) → ((v : V) → apart (formed v) ≡ v) → RowAccepts row fits R none spare → Accepts (SetOf row none formed) (set_language apart R) spare
set-accepts {Tok} {V = V} {row = row} {fits = fits} {R = R} {none = none} formed apart e h = record {
  described = λ s.
      let d = h.described s in
      let value : List Tok → V → Type 0 = λ ts v. Ends (set_taken R.ends ts) (λ q. R.value q.0 v) in
      set-described d apart (SetOf row none formed)
      (regrouped-by (AnyOrder row none) (set_ends R.ends) value (any_order-reads row fits R d.reads none d.start) formed (λ ts w. value ts (apart w)) (λ ts v i. subst (value ts) (sym (e v)) i));
  moving = λ m. absurd (cc m);
  sparing = λ q t. chained-spares (AnyOrder row none) (λ v. Given (option_map formed v)) (any_order-spares row (h.sparing q t) none) (λ v. given-spares (option_map formed v));
}
