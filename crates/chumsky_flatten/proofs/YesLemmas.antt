-- What is known where one part after another says yes.
use Rattle.std.proofs.Common.{◌≡◌, ◌∙◌, Option, Some, List, [], ◌∷◌, ◌++◌, refl, sym, ap, subst, inl, inr}
use Rattle.chumsky_input.specs.Outcome.{Meaning, Beginning, Outcome, Verdict, Yes, No, Halt, Clash}
use Rattle.chumsky_parser.specs.Chained.{Given}
use Rattle.chumsky_parser.specs.Choice.{ElseFrom, OrElse}
use Rattle.chumsky_parser.specs.Failure.{SaysNo}
use Rattle.chumsky_items.specs.Consumers.{Appends, HoldsAll, Collected}
use Rattle.chumsky_parser.specs.Progress.{IsYes}
use Rattle.chumsky_parser.proofs.YesLemmas.{same_yes, is_yes}

module _ {Tok Cx St Er V C : Type 0} (holds : List V → C → Type 0) where
  pub collected-value : (xs : List V) (b : Beginning Tok Cx St) (o : Outcome C Er St) (c : C) → Collected holds (Some xs) b o → o.verdict ≡ Yes (Some c) → holds xs c × Given (Some c) b o
  collected-value xs b o c m e =
      let v : m.value ≡ Some c = same_yes (ap (λ (x : Outcome C Er St). x.verdict) m.given) e in
      (subst (HoldsAll holds (Some xs)) v m.is, subst (λ x. Given x b o) v m.given)

module _ {Tok Cx St Er V : Type 0} where
  pub appended : (quiet : Type 0) (xs : List V) (x : V) (b : Beginning Tok Cx St) (r : Outcome (List V) Er St) (l : Option (List V))
      → Appends quiet (Some xs) (Some x) b r → r.verdict ≡ Yes l → Given (Some (xs ++ x ∷ [])) b r
  appended quiet xs x b r l m e = elim m [ inl n ↦ absurd (subst IsYes n.1 (is_yes e)) | inr g ↦ g ]

module _ {Tok Cx St Mk Er V : Type 0} (mark : St → Mk) (back : St → Mk → St) (safe : Type 0) (part : Meaning Tok Cx St Er V) (b : Beginning Tok Cx St) (o : Outcome V Er St) (v : Option V) where
  stands_as : (m : Mk) (p : Outcome V Er St) (w : Verdict V Er) → part b p → p.verdict ≡ w → ElseFrom back safe m w SaysNo b p o → o.verdict ≡ Yes v → part b o
  stands_as m p (Yes x) n e d a = subst (part b) (sym d) n
  stands_as m p No n e (inl r) a = absurd (subst IsYes r.1 (is_yes a))
  stands_as m p No n e (inr k) a =
      let no : k.0.verdict ≡ No = ap (λ (x : Outcome V Er St). x.verdict) k.1 in
      absurd (subst IsYes (ap (λ (x : Outcome V Er St). x.verdict) k.2 ∙ no) (is_yes a))
  stands_as m p (Halt s) n e d a = subst (part b) (sym d) n
  stands_as m p (Clash x) n e d a = subst (part b) (sym d) n

  -- what says yes was not gone back from
  pub not_undone : OrElse mark back safe part SaysNo b o → o.verdict ≡ Yes v → part b o
  not_undone m a = elim m.cases [ inl r ↦ absurd (subst IsYes r.1 (is_yes a)) | inr t ↦ stands_as (mark b.state) t.attempt t.attempt.verdict t.meant refl t.then_else a ]
