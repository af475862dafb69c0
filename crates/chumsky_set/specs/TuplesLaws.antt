-- The laws of sets of a few parsers.
use Rattle.std.proofs.Common.{Option, Some, None, option_map}
use Rattle.chumsky_input.specs.Outcome.{Meaning, SameValue, EndsAfterStart, Agreeing}
use Rattle.chumsky_parser.specs.Chained.{Given, SamePair}
use Rattle.chumsky_parser.specs.Laws.{chained-ends, chained-agrees, given-ends, given-agrees}
use Rattle.chumsky_set.specs.AnyOrder.{Row, AnyOrder}
use Rattle.chumsky_parser.specs.FailureLaws.{SameUnit}
use Rattle.chumsky_set.specs.AnyOrderLaws.{SameSlot, RowEnds, RowAgrees, no_part-ends, no_part-agrees, part_and-ends, part_and-agrees, any_order-ends, any_order-agrees}
use Rattle.chumsky_set.specs.Tuples.{SetOf, flat_one, flat_two, flat_three, flat_four, Same1, Same2, Same3, Same4, Set1, Set2, Set3, Set4}

module _ {V W : Type 0} (f : V → W) (sv : V → V → Type 0) (sw : W → W → Type 0) where
  formed-same : ((v w : V) → sv v w → sw (f v) (f w)) → (v w : Option V) → SameValue sv v w → SameValue sw (option_map f v) (option_map f w)
  formed-same h (Some v) (Some w) e = h v w e
  formed-same h (Some v) None e = tt
  formed-same h None w e = tt

module _ {Tok Cx St Er T V W : Type 0} (row : Row Tok Cx St Er T V) (t : T) (f : V → W) where
  pub set_of-ends : RowEnds row → EndsAfterStart (SetOf row t f)
  set_of-ends h = chained-ends (AnyOrder row t) (λ v. Given (option_map f v)) (any_order-ends row t h) (λ v. given-ends (option_map f v))

  pub set_of-agrees : (same_taken : T → T → Type 0) (sv : V → V → Type 0) (sw : W → W → Type 0)
      → ((v w : V) → sv v w → sw (f v) (f w)) → same_taken t t → RowAgrees row same_taken sv
      → Agreeing sw (SetOf row t f) (SetOf row t f)
  set_of-agrees same_taken sv sw k e h =
      chained-agrees (AnyOrder row t) (AnyOrder row t) (λ v. Given (option_map f v)) (λ v. Given (option_map f v)) sv sw (any_order-agrees row same_taken sv h t e)
      (λ v w d. given-agrees sw (option_map f v) (option_map f w) (formed-same f sv sw k v w d))

module _ {Tok Cx St Mk Er A : Type 0} (mark : St → Mk) (back : St → Mk → St) (safe : Type 0) (a : Meaning Tok Cx St Er A) where
  pub set_1-ends : EndsAfterStart a → EndsAfterStart (Set1 mark back safe a)
  set_1-ends ha = set_of-ends _ _ flat_one (part_and-ends mark back safe a _ ha no_part-ends)

  pub set_1-agrees : (sa : A → A → Type 0) → Agreeing sa a a → Agreeing (Same1 sa) (Set1 mark back safe a) (Set1 mark back safe a)
  set_1-agrees sa ha =
      set_of-agrees _ _ flat_one (SamePair (SameSlot sa) SameUnit) (SamePair sa SameUnit) (Same1 sa) (λ v w e. e.0)
      (tt, tt) (part_and-agrees mark back safe a _ sa _ _ ha no_part-agrees)

module _ {Tok Cx St Mk Er A B : Type 0} (mark : St → Mk) (back : St → Mk → St) (safe : Type 0) (a : Meaning Tok Cx St Er A) (b : Meaning Tok Cx St Er B) where
  pub set_2-ends : EndsAfterStart a → EndsAfterStart b → EndsAfterStart (Set2 mark back safe a b)
  set_2-ends ha hb = set_of-ends _ _ flat_two (part_and-ends mark back safe a _ ha (part_and-ends mark back safe b _ hb no_part-ends))

  pub set_2-agrees : (sa : A → A → Type 0) (sb : B → B → Type 0) → Agreeing sa a a → Agreeing sb b b → Agreeing (Same2 sa sb) (Set2 mark back safe a b) (Set2 mark back safe a b)
  set_2-agrees sa sb ha hb =
      set_of-agrees _ _ flat_two (SamePair (SameSlot sa) (SamePair (SameSlot sb) SameUnit))
      (SamePair sa (SamePair sb SameUnit)) (Same2 sa sb) (λ v w e. (e.0, e.1.0)) (tt, (tt, tt))
      (part_and-agrees mark back safe a _ sa _ _ ha (part_and-agrees mark back safe b _ sb _ _ hb no_part-agrees))

module _ {Tok Cx St Mk Er A B C : Type 0} (mark : St → Mk) (back : St → Mk → St) (safe : Type 0) (a : Meaning Tok Cx St Er A) (b : Meaning Tok Cx St Er B) (c : Meaning Tok Cx St Er C) where
  pub set_3-ends : EndsAfterStart a → EndsAfterStart b → EndsAfterStart c → EndsAfterStart (Set3 mark back safe a b c)
  set_3-ends ha hb hc = set_of-ends _ _ flat_three (part_and-ends mark back safe a _ ha (part_and-ends mark back safe b _ hb (part_and-ends mark back safe c _ hc no_part-ends)))

  pub set_3-agrees : (sa : A → A → Type 0) (sb : B → B → Type 0) (sc : C → C → Type 0) → Agreeing sa a a
      → Agreeing sb b b → Agreeing sc c c
      → Agreeing (Same3 sa sb sc) (Set3 mark back safe a b c) (Set3 mark back safe a b c)
  set_3-agrees sa sb sc ha hb hc =
      set_of-agrees _ _ flat_three (SamePair (SameSlot sa) (SamePair (SameSlot sb) (SamePair (SameSlot sc) SameUnit)))
      (SamePair sa (SamePair sb (SamePair sc SameUnit))) (Same3 sa sb sc) (λ v w e. (e.0, e.1.0, e.1.1.0))
      (tt, (tt, (tt, tt)))
      (part_and-agrees mark back safe a _ sa _ _ ha
      (part_and-agrees mark back safe b _ sb _ _ hb (part_and-agrees mark back safe c _ sc _ _ hc no_part-agrees)))

module _ {Tok Cx St Mk Er A B C D : Type 0} (mark : St → Mk) (back : St → Mk → St) (safe : Type 0)
    (a : Meaning Tok Cx St Er A) (b : Meaning Tok Cx St Er B) (c : Meaning Tok Cx St Er C)
    (d : Meaning Tok Cx St Er D) where
  pub set_4-ends : EndsAfterStart a → EndsAfterStart b → EndsAfterStart c → EndsAfterStart d → EndsAfterStart (Set4 mark back safe a b c d)
  set_4-ends ha hb hc hd =
      set_of-ends _ _ flat_four
      (part_and-ends mark back safe a _ ha
      (part_and-ends mark back safe b _ hb
      (part_and-ends mark back safe c _ hc (part_and-ends mark back safe d _ hd no_part-ends))))

  pub set_4-agrees : (sa : A → A → Type 0) (sb : B → B → Type 0) (sc : C → C → Type 0) (sd : D → D → Type 0)
      → Agreeing sa a a → Agreeing sb b b → Agreeing sc c c → Agreeing sd d d
      → Agreeing (Same4 sa sb sc sd) (Set4 mark back safe a b c d) (Set4 mark back safe a b c d)
  set_4-agrees sa sb sc sd ha hb hc hd =
      set_of-agrees _ _ flat_four
      (SamePair (SameSlot sa) (SamePair (SameSlot sb) (SamePair (SameSlot sc) (SamePair (SameSlot sd) SameUnit))))
      (SamePair sa (SamePair sb (SamePair sc (SamePair sd SameUnit)))) (Same4 sa sb sc sd)
      (λ v w e. (e.0, e.1.0, e.1.1.0, e.1.1.1.0)) (tt, (tt, (tt, (tt, tt))))
      (part_and-agrees mark back safe a _ sa _ _ ha
      (part_and-agrees mark back safe b _ sb _ _ hb
      (part_and-agrees mark back safe c _ sc _ _ hc (part_and-agrees mark back safe d _ sd _ _ hd no_part-agrees))))
