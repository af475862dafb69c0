-- The laws of items that are configured by the context.
use Rattle.std.proofs.Common.{◌≡◌, ◌≤◌, Option, Some, None, refl, subst}
use Rattle.chumsky_input.specs.Outcome.{Meaning, Beginning, Outcome, IsAnswer, SameValue, Alike, Agree, EndsAfterStart, Agreeing}
use Rattle.chumsky_parser.specs.Laws.{chained-ends, chained-agrees, given-ends, given-agrees}
use Rattle.chumsky_parser.specs.Items.{Next, SameNext, ItemsEnd, ItemsAgree}
use Rattle.chumsky_context.specs.Configured.{IsDeterministic}
use Rattle.chumsky_context.specs.CarriedLaws.{carried-ends, carried-agrees}
use Rattle.chumsky_context.specs.ConfiguredItems.{BesideAs, BeginsBeside, GivesBeside, AlikeBeside}

module _ {Tok Cx St Er S C V : Type 0} (gives : C → S → Meaning Tok Cx St Er (Next S V)) (same : V → V → Type 0) (alike : S → S → Type 0) where
  pub beside_step : ((c : C) (s t : S) → alike s t → Agreeing (SameNext same alike) (gives c s) (gives c t))
      → (s t : S) (c d : C) → alike s t → c ≡ d
      → Agreeing (SameNext same (AlikeBeside alike)) (GivesBeside gives (s, c)) (GivesBeside gives (t, d))
  beside_step h s t c d l e =
      subst (λ x. Agreeing (SameNext same (AlikeBeside alike)) (GivesBeside gives (s, c)) (GivesBeside gives (t, x))) e
      (carried-agrees (λ u. (u, c)) (λ u. (u, c)) (gives c s) (gives c t) same alike (AlikeBeside alike) (λ u v i. (i, refl)) (h c s t l))

module _ {Tok Cx St Er S C V : Type 0} (sets : Cx → C → Type 0) (begins : Meaning Tok Cx St Er S) (gives : C → S → Meaning Tok Cx St Er (Next S V)) where
  beside_as-ends : (s : Option S) (b : Beginning Tok Cx St) (o : Outcome (S × C) Er St) → BesideAs sets s b o → IsAnswer o.verdict → b.start ≤ o.end
  beside_as-ends (Some s) b o m a = given-ends (Some (s, m.0)) b o m.2 a
  beside_as-ends None b o m a = absurd m

  pub beside-end : EndsAfterStart begins → ((c : C) (s : S) → EndsAfterStart (gives c s)) → ItemsEnd (BeginsBeside sets begins) (GivesBeside gives)
  beside-end h k =
      record {
        begin = chained-ends begins _ h (λ s b o m a. beside_as-ends s b o m.made a);
        step = λ s. carried-ends (λ t. (t, s.1)) (gives s.1 s.0) (k s.1 s.0);
      }

  module _ (one : IsDeterministic sets) (same : V → V → Type 0) (alike : S → S → Type 0) where
    beside_as-agrees : (s t : Option S) → SameValue alike s t
        → (b c : Beginning Tok Cx St) (o q : Outcome (S × C) Er St) → Alike b c → BesideAs sets s b o
        → BesideAs sets t c q → IsAnswer o.verdict → IsAnswer q.verdict → Agree (AlikeBeside alike) o q
    beside_as-agrees (Some s) (Some t) e b c o q l m n a z =
        let k : m.0 ≡ n.0 = one c.context m.0 n.0 (subst (λ x. sets x m.0) l.context m.1) n.1 in
        given-agrees (AlikeBeside alike) (Some (s, m.0)) (Some (t, n.0)) (e, k) b c o q l m.2 n.2 a z
    beside_as-agrees (Some s) None e b c o q l m n a z = absurd n
    beside_as-agrees None t e b c o q l m n a z = absurd m

    pub beside-agree : Agreeing alike begins begins
        → ((c : C) (s t : S) → alike s t → Agreeing (SameNext same alike) (gives c s) (gives c t))
        → ItemsAgree same (AlikeBeside alike) (BeginsBeside sets begins) (GivesBeside gives)
    beside-agree h k =
        record {
          begin = chained-agrees begins begins _ _ alike (AlikeBeside alike) h (λ s t e b c o q l m n a z. beside_as-agrees s t e b c o q l m.made n.made a z);
          step = λ s t l. beside_step gives same alike k s.0 t.0 s.1 t.1 l.0 l.1;
        }
