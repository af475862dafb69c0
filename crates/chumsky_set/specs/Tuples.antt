-- Sets of a few parsers.
use Rattle.std.specs.Prelude.{None, option_map}
use Rattle.chumsky_input.specs.Outcome.{Meaning}
use Rattle.chumsky_parser.specs.Chained.{Chained, Given}
use Rattle.chumsky_set.specs.AnyOrder.{Row, no_part, part_and, AnyOrder}

module _ {Tok Cx St Er T V W : Type 0} where
  -- the parts of a row in any order, of which none is taken, and then their values in the set's own form
  abbrev pub SetOf : Row Tok Cx St Er T V → T → (V → W) → Meaning Tok Cx St Er W
  SetOf row none formed = Chained (AnyOrder row none) (λ v. Given (option_map formed v))

abbrev pub flat_one : {A : Type 0} → A × Unit {0} → record { 0 : A }
flat_one r = record { 0 = r.0 }

abbrev pub flat_two : {A B : Type 0} → A × (B × Unit {0}) → A × B
flat_two r = (r.0, r.1.0)

abbrev pub flat_three : {A B C : Type 0} → A × (B × (C × Unit {0})) → A × B × C
flat_three r = (r.0, r.1.0, r.1.1.0)

abbrev pub flat_four : {A B C D : Type 0} → A × (B × (C × (D × Unit {0}))) → A × B × C × D
flat_four r = (r.0, r.1.0, r.1.1.0, r.1.1.1.0)

-- all are the same
abbrev pub Same1 : {A : Type 0} → (A → A → Type 0) → record { 0 : A } → record { 0 : A } → Type 0
Same1 sa v w = sa v.0 w.0

abbrev pub Same2 : {A B : Type 0} → (A → A → Type 0) → (B → B → Type 0) → A × B → A × B → Type 0
Same2 sa sb v w = sa v.0 w.0 × sb v.1 w.1

abbrev pub Same3 : {A B C : Type 0} → (A → A → Type 0) → (B → B → Type 0) → (C → C → Type 0) → A × B × C → A × B × C → Type 0
Same3 sa sb sc v w = sa v.0 w.0 × sb v.1 w.1 × sc v.2 w.2

abbrev pub Same4 : {A B C D : Type 0} → (A → A → Type 0) → (B → B → Type 0) → (C → C → Type 0) → (D → D → Type 0) → A × B × C × D → A × B × C × D → Type 0
Same4 sa sb sc sd v w = sa v.0 w.0 × sb v.1 w.1 × sc v.2 w.2 × sd v.3 w.3

module _ {Tok Cx St Mk Er A : Type 0} (mark : St → Mk) (back : St → Mk → St) (safe : Type 0) (a : Meaning Tok Cx St Er A) where
  -- one by itself
  abbrev pub Set1 : Meaning Tok Cx St Er (record { 0 : A })
  Set1 = SetOf (part_and mark back safe a no_part) (None, tt) flat_one

module _ {Tok Cx St Mk Er A B : Type 0} (mark : St → Mk) (back : St → Mk → St) (safe : Type 0) (a : Meaning Tok Cx St Er A) (b : Meaning Tok Cx St Er B) where
  -- two in any order
  abbrev pub Set2 : Meaning Tok Cx St Er (A × B)
  Set2 = SetOf (part_and mark back safe a (part_and mark back safe b no_part)) (None, (None, tt)) flat_two

module _ {Tok Cx St Mk Er A B C : Type 0} (mark : St → Mk) (back : St → Mk → St) (safe : Type 0) (a : Meaning Tok Cx St Er A) (b : Meaning Tok Cx St Er B) (c : Meaning Tok Cx St Er C) where
  -- three in any order
  abbrev pub Set3 : Meaning Tok Cx St Er (A × B × C)
  Set3 = SetOf (part_and mark back safe a (part_and mark back safe b (part_and mark back safe c no_part))) (None, (None, (None, tt))) flat_three

module _ {Tok Cx St Mk Er A B C D : Type 0} (mark : St → Mk) (back : St → Mk → St) (safe : Type 0)
    (a : Meaning Tok Cx St Er A) (b : Meaning Tok Cx St Er B) (c : Meaning Tok Cx St Er C)
    (d : Meaning Tok Cx St Er D) where
  -- four in any order
  abbrev pub Set4 : Meaning Tok Cx St Er (A × B × C × D)
  Set4 = SetOf (part_and mark back safe a (part_and mark back safe b (part_and mark back safe c (part_and mark back safe d no_part)))) (None, (None, (None, (None, tt)))) flat_four
