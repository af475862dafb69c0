-- Three numbers of so many digits, with a mark between each two: the parser, and what its words say.
-- Main words: fields_of, AreFields, FieldsText, heard, read, written. Main law: fields-text. Read first: Fields.antt, InTurn.antt of chumsky_exact.
use Rattle.std.specs.Prelude.{ℕ, ◌<◌, ◌^◌, List, [], ◌∷◌}
use Rattle.chumsky_primitive.specs.declared.just.Just.{Just}
use Rattle.chumsky_combinator.specs.Built.{then_of}
use Rattle.chumsky_combinator.specs.declared.then.Then.{Then}
use Rattle.chumsky_combinator.specs.declared.then_ignore.ThenIgnore.{ThenIgnore}
use Rattle.chumsky_judge.specs.declared.pick_by.PickBy.{PickBy}
use Rattle.chumsky_text.specs.declared.decimal.Fixed.{Fixed}
use Rattle.chumsky_text.specs.declared.number.Digits.{Digits}
use Rattle.chumsky_text.specs.declared.word.Word.{Word}
use Rattle.chumsky_exact.specs.Builders.{then_ignore_of, pick_by_of, digits_of, just_of}
use Rattle.chumsky_exact.specs.Fields.{IsField, Picks}
use Rattle.chumsky_exact.specs.InTurn.{InTurn, Is, Tree, Part, Then as Both, Turn, same, turned}
use Rattle.chumsky_exact.specs.Lexemes.{picked_field, field_picked, spelled, spells}

-- the parser of a number
abbrev pub FieldOf : (Text I E : Type 0) → Type 0
FieldOf Text I E = PickBy (Word Digits I E) Text Fixed ℕ

abbrev pub field_of : {Text I E : Type 0} → Fixed → FieldOf Text I E
field_of bounds = pick_by_of (digits_of 10) bounds

-- of three
abbrev pub FieldsOf : (Text I E : Type 0) → Type 0
FieldsOf Text I E = Then (ThenIgnore (Then (ThenIgnore (FieldOf Text I E) (Just ℕ I E) ℕ) (FieldOf Text I E) ℕ ℕ) (Just ℕ I E) ℕ) (FieldOf Text I E) (ℕ × ℕ) ℕ

abbrev pub fields_of : {Text I E : Type 0} → ℕ → Fixed → Fixed → Fixed → FieldsOf Text I E
fields_of mark first second third =
    then_of (then_ignore_of (then_of (then_ignore_of (field_of first) (just_of mark)) (field_of second)) (just_of mark)) (field_of third)

-- a number of so many digits, within bounds
abbrev pub IsWithin : Fixed → ℕ → List ℕ → Type 0
IsWithin bounds n w = IsField bounds.digits bounds.least bounds.most w n

abbrev pub IsSuch : Fixed → List ℕ → Type 0
IsSuch bounds = Picks bounds.digits bounds.least bounds.most

-- of a word what is picked of it, and the other way round
abbrev field_heard : Fixed → ℕ → Turn ℕ
field_heard bounds n = picked_field bounds.digits bounds.least bounds.most n

abbrev field_told : (bounds : Fixed) (n : ℕ) → bounds.most < 2 ^ 32 → Turn ℕ
field_told bounds n l = field_picked bounds.digits bounds.least bounds.most n l

module _ (mark : ℕ) (a b c : Fixed) where
  -- three numbers, and the text of three, whatever they are
  abbrev pub AreFields : ℕ → ℕ → ℕ → List ℕ → Type 0
  AreFields n m k = InTurn (IsWithin a n ∷ Is (mark ∷ []) ∷ IsWithin b m ∷ Is (mark ∷ []) ∷ IsWithin c k ∷ [])

  abbrev pub FieldsText : List ℕ → Type 0
  FieldsText = InTurn (IsSuch a ∷ Is (mark ∷ []) ∷ IsSuch b ∷ Is (mark ∷ []) ∷ IsSuch c ∷ [])

  -- as the parser nests them; and what is known of each in a word, with what that says
  abbrev pub nested : {A : Type 1} → A → A → A → A → Tree A
  nested sign first second third = Both (Both (Both (Both (Part first) (Part sign)) (Part second)) (Part sign)) (Part third)

  abbrev pub heard : (ℕ × ℕ) × ℕ → Tree (Turn ℕ)
  heard n = nested (spelled (mark ∷ [])) (field_heard a n.0.0) (field_heard b n.0.1) (field_heard c n.1)

  abbrev pub read : Tree (Turn ℕ)
  read = nested (spelled (mark ∷ [])) (same (IsSuch a)) (same (IsSuch b)) (same (IsSuch c))

  abbrev pub written : Tree (Turn ℕ)
  written = nested (spells (mark ∷ [])) (same (IsSuch a)) (same (IsSuch b)) (same (IsSuch c))

  -- three numbers are such a text
  pub fields-text : a.most < 2 ^ 32 → b.most < 2 ^ 32 → c.most < 2 ^ 32 → (n m k : ℕ) (w : List ℕ) → AreFields n m k w → FieldsText w
  fields-text la lb lc n m k w = turned (field_told a n la ∷ same (Is (mark ∷ [])) ∷ field_told b m lb ∷ same (Is (mark ∷ [])) ∷ field_told c k lc ∷ []) w
