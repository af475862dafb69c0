-- The laws of what is folded out of items.
use Rattle.std.proofs.Common.{Option, Some, None, List, [], ◌∷◌, ◌++◌, refl, subst, inl, inr}
use Rattle.std.specs.Prelude.{⊤}
use Rattle.chumsky_input.specs.Outcome.{Meaning, Beginning, Outcome, SameValue, EndsAfterStart, Agreeing}
use Rattle.chumsky_parser.specs.Chained.{Given}
use Rattle.chumsky_parser.specs.Copied.{BothCopies}
use Rattle.chumsky_parser.specs.IgnoringLaws.{copy-ends, copy-agrees}
use Rattle.chumsky_parser.specs.Laws.{chained-ends, chained-agrees, given-agrees}
use Rattle.chumsky_parser.specs.Items.{Next, ItemsEnd, ItemsAgree}
use Rattle.chumsky_parser.specs.ItemsLaws.{two_runs-agree}
use Rattle.chumsky_items.specs.Consumers.{Appends, HoldsAll, Collected, SameItems}
use Rattle.chumsky_items.specs.ConsumersLaws.{same_items-more, collects-ends}
use Rattle.chumsky_folds.specs.Folding.{FoldsLeft, FoldsFrom, FoldsItems, FoldsFromCopy, FoldsFromPart, SameFolded}

module _ {A V : Type 0} (steps : A → V → A → Type 0) where
  -- one more item, from the left
  pub folds_left-more : (xs : List V) (a b z : A) (x : V) → FoldsLeft steps a xs b → steps b x z → FoldsLeft steps a (xs ++ x ∷ []) z
  folds_left-more [] a b z x f s = (z, subst (λ y. steps y x z) f s, refl)
  folds_left-more (y ∷ ys) a b z x f s = (f.0, f.1, folds_left-more ys f.0 b z x f.2 s)

-- one more item, where all are there
abbrev pub appended : {V : Type 0} → Option (List V) → Option V → Option (List V)
appended (Some xs) (Some v) = Some (xs ++ v ∷ [])
appended (Some xs) None = None
appended None v = None

module _ {Tok Cx St Er V : Type 0} where
  -- where no memory is wanted, one more item is put behind the others, and nothing else done
  pub appends-given : (a : Option (List V)) (v : Option V) (b : Beginning Tok Cx St) (o : Outcome (List V) Er St) → Appends ⊤ a v b o → Given (appended a v) b o
  appends-given (Some xs) (Some v) b o m = elim m [ inl r ↦ absurd (r.0 tt) | inr g ↦ g ]
  appends-given (Some xs) None b o m = m
  appends-given None v b o m = m

module _ {V : Type 0} (same : V → V → Type 0) where
  appended-same : (a c : Option (List V)) (v w : Option V) → SameValue (SameItems same) a c → SameValue same v w → SameValue (SameItems same) (appended a v) (appended c w)
  appended-same (Some xs) (Some ys) (Some v) (Some w) e d = same_items-more same xs ys v w e d
  appended-same (Some xs) (Some ys) (Some v) None e d = tt
  appended-same (Some xs) None (Some v) w e d = tt
  appended-same (Some xs) c None w e d = tt
  appended-same None c v w e d = tt

  appends-agrees : {Tok Cx St Er : Type 0} (a c : Option (List V)) (v w : Option V) → SameValue (SameItems same) a c
      → SameValue same v w
      → Agreeing (SameItems same) (Appends {Tok = Tok} {Cx = Cx} {St = St} {Er = Er} ⊤ a v) (Appends ⊤ c w)
  appends-agrees a c v w e d b f o q alike m n x z =
      given-agrees (SameItems same) (appended a v) (appended c w) (appended-same a c v w e d) b f o q alike (appends-given a v b o m) (appends-given c w f q n) x z

module _ {A V : Type 0} (steps : A → V → A → Type 0) (same_start : A → A → Type 0) (same : V → V → Type 0) where
  folded : (a c : Option A) → SameValue same_start a c → (xs ys : Option (List V)) (z w : Option A)
      → HoldsAll (FoldsFrom steps a) xs z → HoldsAll (FoldsFrom steps c) ys w → SameValue (SameItems same) xs ys
      → SameValue (SameFolded same_start same steps) z w
  folded (Some a) (Some c) s (Some xs) (Some ys) (Some z) (Some w) g h e =
      record { first_start = a; second_start = c; starts = s; first = xs; second = ys; are = e; folds_first = g; folds_second = h }
  folded (Some a) None s (Some xs) (Some ys) (Some z) (Some w) g h e = absurd h
  folded None c s (Some xs) (Some ys) (Some z) (Some w) g h e = absurd g
  folded a c s (Some xs) (Some ys) (Some z) None g h e = tt
  folded a c s (Some xs) (Some ys) None w g h e = tt
  folded a c s (Some xs) None (Some z) (Some w) g h e = absurd h
  folded a c s (Some xs) None (Some z) None g h e = tt
  folded a c s (Some xs) None None w g h e = tt
  folded a c s None ys (Some z) w g h e = absurd g
  folded a c s None ys None w g h e = tt

module _ {Tok Cx St Er S V A : Type 0} (gives : S → Meaning Tok Cx St Er (Next S V)) (begins : Meaning Tok Cx St Er S) (steps : A → V → A → Type 0) where
  pub folds-ends : ItemsEnd begins gives → (a : Option A) → EndsAfterStart (FoldsItems gives begins steps a)
  folds-ends h a = collects-ends gives begins (FoldsFrom steps a) ⊤ h

  pub folds-agree : (same_start : A → A → Type 0) (same : V → V → Type 0) (alike : S → S → Type 0) → ItemsAgree same alike begins gives → (a c : Option A) → SameValue same_start a c
      → Agreeing (SameFolded same_start same steps) (FoldsItems gives begins steps a) (FoldsItems gives begins steps c)
  folds-agree same_start same alike h a c s =
      two_runs-agree gives gives (Appends ⊤) (Appends ⊤) (Collected (FoldsFrom steps a))
      (Collected (FoldsFrom steps c)) same alike (SameItems same) (SameFolded same_start same steps) h.step
      (appends-agrees same)
      (λ xs ys e b d o q l m n z y.
      given-agrees (SameFolded same_start same steps) m.value n.value (folded steps same_start same a c s xs ys m.value n.value m.is n.is e) b d o q l m.given n.given z y) begins [] tt h.begin

  module _ (copies : A → Type 0) (safe : Type 0) where
    pub folds_copy-ends : ItemsEnd begins gives → EndsAfterStart (FoldsFromCopy gives begins steps copies safe)
    folds_copy-ends h = chained-ends _ _ (copy-ends copies safe) (folds-ends h)

    pub folds_copy-agree : (same : V → V → Type 0) (alike : S → S → Type 0) → ItemsAgree same alike begins gives
        → Agreeing (SameFolded (BothCopies copies) same steps) (FoldsFromCopy gives begins steps copies safe)
        (FoldsFromCopy gives begins steps copies safe)
    folds_copy-agree same alike h = chained-agrees _ _ _ _ (BothCopies copies) (SameFolded (BothCopies copies) same steps) (copy-agrees copies safe) (folds-agree (BothCopies copies) same alike h)

  module _ (part : Meaning Tok Cx St Er A) where
    pub folds_part-ends : ItemsEnd begins gives → EndsAfterStart part → EndsAfterStart (FoldsFromPart gives begins steps part)
    folds_part-ends h p = chained-ends part _ p (folds-ends h)

    pub folds_part-agree : (same_start : A → A → Type 0) (same : V → V → Type 0) (alike : S → S → Type 0) → ItemsAgree same alike begins gives → Agreeing same_start part part
        → Agreeing (SameFolded same_start same steps) (FoldsFromPart gives begins steps part) (FoldsFromPart gives begins steps part)
    folds_part-agree same_start same alike h p = chained-agrees part part _ _ same_start (SameFolded same_start same steps) p (folds-agree same_start same alike h)
