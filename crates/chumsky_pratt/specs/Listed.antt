-- Operators of one type in a list, by their index: how each stands, what reading one does, and what is given for it.
-- Main words: fixity_in, reads_in, gives_in.
use Rattle.std.proofs.Common.{◌≡◌, ℕ, Option, Some, None, option_map, List, slice_get, refl, sym, subst, ◌∙◌}
use Rattle.std.specs.List.{All}
use Rattle.std.proofs.lemmas.Option.{slice_get_within, get_or_from_slice_get}
use Rattle.std.proofs.lemmas.List.Elements.{All-get_or}
use Rattle.chumsky_input.specs.Extra.{Shown}
use Rattle.chumsky_input.specs.Outcome.{Meaning, SameValue, EndsAfterStart, Agreeing}
use Rattle.chumsky_input.specs.Words.{Does}
use Rattle.chumsky_parser.specs.Chained.{Chained, Given}
use Rattle.chumsky_parser.specs.Laws.{chained-ends, chained-agrees, given-ends, given-agrees}
use Rattle.chumsky_parser.specs.Showing.{GivesShown, Makes, OnlyAnswers}
use Rattle.chumsky_pratt.specs.declared.fixity.Fixity.{Fixity}
use Rattle.chumsky_pratt.specs.declared.fixity.Fixity.TheVariants as fixity
use Rattle.chumsky_pratt.specs.declared.operands.Operands.{Operands}
use Rattle.chumsky_pratt.specs.declared.list.FoundAt.{FoundAt}
use Rattle.chumsky_pratt.specs.Operators.{first_of}

-- what was read of the operator of an index
abbrev pub found_at : {A : Type 0} → ℕ → A → FoundAt A
found_at i v = record { index = i; found = v }

-- what holds of all operators holds of the one of an index
pub of_all : {T : Type 0} (P : T → Type 0) (ts : List T) (i : ℕ) (t : T) → slice_get ts i ≡ Some t → All P ts → P t
of_all P ts i t e h = subst P (get_or_from_slice_get ts i t t e) (All-get_or P ts i t (slice_get_within ts i t e) h)

module _ {T : Type 0} (stands : T → Fixity) where
  -- how the operator of an index stands; past the last one none does
  abbrev pub FixityIf : Option T → Fixity
  FixityIf (Some t) = stands t
  FixityIf None = fixity.Prefix 0

  abbrev pub fixity_in : List T → ℕ → Fixity
  fixity_in ts i = FixityIf (slice_get ts i)

module _ {Tok Cx St Er T A : Type 0} (reads : T → Meaning Tok Cx St Er A) where
  -- the operator, where there is one, is read, and told by its index
  abbrev pub ReadsIf : ℕ → Option T → Meaning Tok Cx St Er (FoundAt A)
  ReadsIf i (Some t) = Chained (reads t) (λ v. Given (option_map (found_at i) v))
  ReadsIf i None = λ b o. ⊥

  reads_if-ends : ((t : T) → EndsAfterStart (reads t)) → (i : ℕ) (t : Option T) → EndsAfterStart (ReadsIf i t)
  reads_if-ends h i (Some t) = chained-ends (reads t) _ (h t) (λ v. given-ends (option_map (found_at i) v))
  reads_if-ends h i None = λ b o m a. absurd m

  pub reads_in-ends : ((t : T) → EndsAfterStart (reads t)) → (ts : List T) (i : ℕ) → EndsAfterStart (ReadsIf i (slice_get ts i))
  reads_in-ends h ts i = reads_if-ends h i (slice_get ts i)

module _ {I Tok Sp Er St Mk Cx T A : Type 0} where
  -- the operator of an index is read
  abbrev pub reads_in : (T → Does I Tok Sp Er St Mk Cx A) → List T → ℕ → Does I Tok Sp Er St Mk Cx (FoundAt A)
  reads_in reads ts i errors states = ReadsIf (λ t. reads t errors states) i (slice_get ts i)

module _ {T A : Type 0} (same : T → A → A → Type 0) where
  abbrev pub SameIf : Option T → A → A → Type 0
  SameIf (Some t) = same t
  SameIf None = λ v w. ⊥

  -- what was read of one operator, which calls it the same
  abbrev pub SameIn : List T → FoundAt A → FoundAt A → Type 0
  SameIn ts f g = (f.index ≡ g.index) × SameIf (slice_get ts f.index) f.found g.found

  at-same : (ts : List T) (i : ℕ) (t : T) → slice_get ts i ≡ Some t → (v w : Option A) → SameValue (same t) v w → SameValue (SameIn ts) (option_map (found_at i) v) (option_map (found_at i) w)
  at-same ts i t e (Some v) (Some w) k = (refl, subst (λ p. SameIf p v w) (sym e) k)
  at-same ts i t e (Some v) None k = tt
  at-same ts i t e None w k = tt

module _ {Tok Cx St Er T A : Type 0} (reads : T → Meaning Tok Cx St Er A) (steady : T → Type 0) (same : T → A → A → Type 0) (h : (t : T) → steady t → Agreeing (same t) (reads t) (reads t)) where
  reads_if-agree : (ts : List T) (i : ℕ) (t : Option T) → slice_get ts i ≡ t → All steady ts → Agreeing (SameIn same ts) (ReadsIf reads i t) (ReadsIf reads i t)
  reads_if-agree ts i (Some t) e s =
      chained-agrees (reads t) (reads t) _ _ (same t) (SameIn same ts) (h t (of_all steady ts i t e s))
      (λ v w k. given-agrees (SameIn same ts) (option_map (found_at i) v) (option_map (found_at i) w) (at-same same ts i t e v w k))
  reads_if-agree ts i None e s = λ b c o q l m n a z. absurd m

  pub reads_in-agree : (ts : List T) → All steady ts → (i : ℕ) → Agreeing (SameIn same ts) (ReadsIf reads i (slice_get ts i)) (ReadsIf reads i (slice_get ts i))
  reads_in-agree ts s i = reads_if-agree ts i (slice_get ts i) refl s

module _ {Tok Cx St T A V : Type 0} (gives : T → GivesShown Tok Cx St (A × Operands V) V) where
  -- what is given for what was read of an operator, where there is one; else the first operand, and the state stays
  abbrev pub GivesIf : Option T → A → Operands V → Shown Tok Cx St → V → St → Type 0
  GivesIf (Some t) f x = gives t (f, x)
  GivesIf None f x = λ run z s. (z ≡ first_of x) × (s ≡ run.state)

  abbrev pub GivesIn : List T → GivesShown Tok Cx St (FoundAt A × Operands V) V
  GivesIn ts p = GivesIf (slice_get ts p.0.index) p.0.found p.1

  module _ (steady : T → Type 0) (one : (t : T) → steady t → OnlyAnswers (gives t)) where
    gives_if-one : (ts : List T) (i : ℕ) (t : Option T) → slice_get ts i ≡ t → All steady ts
        → (f : A) (x : Operands V) (run : Shown Tok Cx St) (z z' : V) (s u : St) → GivesIf t f x run z s
        → GivesIf t f x run z' u → (z ≡ z') × (s ≡ run.state)
    gives_if-one ts i (Some t) e h f x run z z' s u m n = one t (of_all steady ts i t e h) (f, x) run z z' s u m n
    gives_if-one ts i None e h f x run z z' s u m n = (m.0 ∙ sym n.0, m.1)

    pub gives_in-one : (ts : List T) → All steady ts → OnlyAnswers (GivesIn ts)
    gives_in-one ts h p = gives_if-one ts p.0.index (slice_get ts p.0.index) refl h p.0.found p.1

module _ {I Tok Sp St Mk Cx T A V : Type 0} where
  -- the same, in the words of the states
  abbrev pub gives_in : (T → Makes I Tok Sp St Mk Cx (A × Operands V) V) → List T → Makes I Tok Sp St Mk Cx (FoundAt A × Operands V) V
  gives_in gives ts states = GivesIn (λ t. gives t states) ts
