-- The laws of items that are configured by the context, or refused with an error.
use Rattle.std.specs.Prelude.{⊤}
use Rattle.std.proofs.Common.{◌≡◌, ◌≤◌, Option, Some, None, option_map, Result, Ok, Err, arith, inr, subst}
use Rattle.chumsky_input.specs.declared.error.Error as error_trait
use Rattle.chumsky_input.specs.declared.input.Input as input_trait
use Rattle.chumsky_input.specs.Outcome.{Meaning, Beginning, Outcome, IsAnswer, SameValue, Alike, Agree, EndsAfterStart, Agreeing}
use Rattle.chumsky_parser.specs.Chained.{Given}
use Rattle.chumsky_parser.specs.Laws.{chained-ends, chained-agrees, given-ends, given-agrees}
use Rattle.chumsky_parser.specs.FailureLaws.{misses-agree, misses-ends}
use Rattle.chumsky_parser.specs.Items.{Next, SameNext, ItemsEnd, ItemsAgree}
use Rattle.chumsky_context.specs.CarriedLaws.{carried-ends}
use Rattle.chumsky_context.specs.ConfiguredItems.{GivesBeside, AlikeBeside}
use Rattle.chumsky_context.specs.ConfiguredItemsLaws.{beside_step}
use Rattle.chumsky_context.specs.TriedItems.{SameConfig, OneRuling, ByRuling, BeginsTried}

module _ {I Tok Sp Cu Er St Cx S C V : Type 0} (source : input_trait.Ghosts I Cu Tok Sp)
    (errors : error_trait.Ghosts Er I Tok Sp) (tries : Cx → Sp → Result C Er → Type 0)
    (begins : Meaning Tok Cx St errors.Seen S) (gives : C → S → Meaning Tok Cx St errors.Seen (Next S V)) where
  by_ruling-ends : EndsAfterStart begins → (r : Result C Er) (b : Beginning Tok Cx St) (o : Outcome (S × C) errors.Seen St) → ByRuling source errors begins r b o → IsAnswer o.verdict → b.start ≤ o.end
  by_ruling-ends h (Ok c) b o m a = chained-ends begins (λ s. Given (option_map (λ t. (t, c)) s)) h (λ s. given-ends (option_map (λ t. (t, c)) s)) b o m a
  by_ruling-ends h (Err e) b o m a = misses-ends (λ _ _. ⊤) {safe = ⊤} (omega arith) (inr m) a

  pub tried-end : EndsAfterStart begins → ((c : C) (s : S) → EndsAfterStart (gives c s)) → ItemsEnd (BeginsTried source errors tries begins) (GivesBeside gives)
  tried-end h k =
      record {
        begin = λ b o m a. by_ruling-ends h m.ruling b o m.does a;
        step = λ s. carried-ends (λ t. (t, s.1)) (gives s.1 s.0) (k s.1 s.0);
      }

  module _ (one : OneRuling errors.seen tries) (same : V → V → Type 0) (alike : S → S → Type 0) where
    both-alike : (c d : C) → c ≡ d → (s t : Option S) → SameValue alike s t → SameValue (AlikeBeside alike) (option_map (λ x. (x, c)) s) (option_map (λ x. (x, d)) t)
    both-alike c d e (Some s) (Some t) l = (l, e)
    both-alike c d e (Some s) None l = tt
    both-alike c d e None t l = tt

    by_ruling-agrees : Agreeing alike begins begins → (r q : Result C Er) → SameConfig errors.seen r q → (b c : Beginning Tok Cx St) (o p : Outcome (S × C) errors.Seen St) → Alike b c
        → ByRuling source errors begins r b o → ByRuling source errors begins q c p → IsAnswer o.verdict → IsAnswer p.verdict → Agree (AlikeBeside alike) o p
    by_ruling-agrees h (Ok x) (Ok y) e b c o p l m n a z =
        chained-agrees begins begins (λ s. Given (option_map (λ t. (t, x)) s)) (λ s. Given (option_map (λ t. (t, y)) s)) alike (AlikeBeside alike) h
        (λ s t i. given-agrees (AlikeBeside alike) (option_map (λ u. (u, x)) s) (option_map (λ u. (u, y)) t) (both-alike x y e s t i)) b c o p l m n a z
    by_ruling-agrees h (Ok x) (Err y) e b c o p l m n a z = absurd e
    by_ruling-agrees h (Err x) (Ok y) e b c o p l m n a z = absurd e
    by_ruling-agrees h (Err x) (Err y) e b c o p l m n a z = misses-agree (AlikeBeside alike) {safe = ⊤} (cc (l.start, e)) l.start l.state (inr m) (inr n) a z

    pub tried-agree : Agreeing alike begins begins
        → ((c : C) (s t : S) → alike s t → Agreeing (SameNext same alike) (gives c s) (gives c t))
        → ItemsAgree same (AlikeBeside alike) (BeginsTried source errors tries begins) (GivesBeside gives)
    tried-agree h k =
        record {
          begin = λ b c o q l m n a z.
              let there : source.span_between b.tokens b.start b.start ≡ source.span_between c.tokens c.start c.start = cc (l.tokens, l.start) in
              let says = subst (λ x. tries x (source.span_between c.tokens c.start c.start) m.ruling) l.context (subst (λ x. tries b.context x m.ruling) there m.says) in
              by_ruling-agrees h m.ruling n.ruling (one c.context _ m.ruling n.ruling says n.says) b c o q l m.does n.does a z;
          step = λ s t l. beside_step gives same alike k s.0 t.0 s.1 t.1 l.0 l.1;
        }
