-- What is known where one part after another says yes.
use Rattle.std.proofs.Common.{◌≡◌, ◌∙◌, Option, Some, None, refl, sym, ap, subst}
use Rattle.chumsky_input.specs.Outcome.{Meaning, Beginning, Outcome, Verdict, Yes, No, Halt, Clash}
use Rattle.chumsky_parser.specs.Chained.{Chained, Follows, from, after}
use Rattle.chumsky_parser.specs.Progress.{IsYes}

abbrev value_in : {V : Type 0} → V → Option V → V
value_in d (Some v) = v
value_in d None = d

pub some-same : {V : Type 0} {v w : V} → Some v ≡ Some w → v ≡ w
some-same {V} {v} {w} e = ap (value_in v) e

module _ {V Er : Type 0} where
  abbrev value_of : Option V → Verdict V Er → Option V
  value_of d (Yes v) = v
  value_of d No = d
  value_of d (Halt s) = d
  value_of d (Clash e) = d

  pub same_yes : {x : Verdict V Er} {v w : Option V} → x ≡ Yes v → x ≡ Yes w → v ≡ w
  same_yes {x} {v} {w} e d = sym (ap (value_of v) e) ∙ ap (value_of v) d

  pub is_yes : {x : Verdict V Er} {v : Option V} → x ≡ Yes v → IsYes x
  is_yes e = subst IsYes (sym e) tt

module _ {Tok Cx St Er V W : Type 0} (part : Meaning Tok Cx St Er V) (next : Option V → Meaning Tok Cx St Er W) (b : Beginning Tok Cx St) (o : Outcome W Er St) (w : Option W) where
  -- where one part after another says yes, both do
  pub record BothYes : Type 0 where
    pub first : Outcome V Er St
    pub value : Option V
    pub second : Outcome W Er St
    pub meant : part b first
    pub said : first.verdict ≡ Yes value
    pub follows : next value (from b first) second
    pub answers : second.verdict ≡ Yes w
    pub whole : o ≡ after first second

  both_by : (p : Outcome V Er St) (x : Verdict V Er) → part b p → p.verdict ≡ x → Follows x next b p o → o.verdict ≡ Yes w → BothYes
  both_by p (Yes v) m e f a = record { first = p; value = v; second = f.0; meant = m; said = e; follows = f.1; answers = sym (ap (λ (x : Outcome W Er St). x.verdict) f.2) ∙ a; whole = f.2 }
  both_by p No m e f a = absurd (subst IsYes (ap (λ (x : Outcome W Er St). x.verdict) f) (is_yes a))
  both_by p (Halt s) m e f a = absurd (subst IsYes (ap (λ (x : Outcome W Er St). x.verdict) f) (is_yes a))
  both_by p (Clash x) m e f a = absurd (subst IsYes (ap (λ (x : Outcome W Er St). x.verdict) f) (is_yes a))

  pub both_yes : Chained part next b o → o.verdict ≡ Yes w → BothYes
  both_yes m a = both_by m.first m.first.verdict m.meant refl m.follows a

module _ {Tok Cx St Er V W : Type 0} (part : Meaning Tok Cx St Er V) (next : Option V → Meaning Tok Cx St Er W) (b : Beginning Tok Cx St) where
  -- and the other way round
  pub yes_both : (p : Outcome V Er St) (v : Option V) (q : Outcome W Er St) → part b p → p.verdict ≡ Yes v → next v (from b p) q → Chained part next b (after p q)
  yes_both p v q m e n = record { first = p; meant = m; follows = subst (λ x. Follows x next b p (after p q)) (sym e) (q, n, refl) }
