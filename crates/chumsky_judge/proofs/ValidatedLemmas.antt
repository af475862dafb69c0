-- What a part leaves whose value a validator looks at.
use Rattle.std.proofs.Common.{◌≡◌, Bool, true, false, Option, Some, None, List, [], ◌++◌, refl, sym, ◌∙◌, ap, Result, Ok, Err, map, inl, inr, option_to_list}
use Rattle.std.specs.Prelude.{◌⊎◌, MatchResult}
use Rattle.std.proofs.lemmas.List.{append-nil}
use Rattle.chumsky_input.specs.declared.stop.Stop.TheVariants.{Memory}
use Rattle.chumsky_input.specs.declared.stop.Fault.{Fault}
use Rattle.chumsky_input.specs.declared.stop.Fault.TheVariants as fault
use Rattle.chumsky_input.specs.Held.{Held, first_stop}
use Rattle.chumsky_input.specs.Outcome.{Meaning, Yes, Halt}
use Rattle.chumsky_input.specs.Primary.{primary}
use Rattle.chumsky_input.specs.Run.{Ran, with_value}
use Rattle.chumsky_input.specs.Aside.{SameButErrors, ClashesWith, brought_back, without_errors}
use Rattle.chumsky_input.specs.declared.emitter.Emitter.{Emitter}
use Rattle.chumsky_input.specs.Extra.{shown_from}
use Rattle.chumsky_input.proofs.PrimaryLemmas.{kept-same}
use Rattle.chumsky_parser.specs.Chained.{Chained, Asked}
use Rattle.chumsky_parser.specs.Failure.{wanting, asked}
use Rattle.chumsky_parser.proofs.ChainedLemmas.{ran-weaker, ran-asked, ran-chained, ran-chained_err, emit_err}
use Rattle.chumsky_judge.specs.Validated.{Emits, Validated, MeansValidate, EmitsAfter, all_emitted, emitted_by}

module _ {Tok Cx St Er V W : Type 0} (merged : Er → Er → Er) (safe : Type 0) (emits : Emits Tok Cx St Er V W)
    (part : Meaning Tok Cx St Er V) (w : Bool) (old mid : Held Tok Cx St Er) where
  whole : (new : Held Tok Cx St Er) (r : Result (Option W) Fault)
      → Ran merged safe (Chained (Asked true part) (Validated emits old.place)) w old new r
      → Ran merged safe (MeansValidate emits part) w old new r
  whole new r h = ran-weaker merged safe _ _ w old new r (λ o k. record { run = k }) h

  module _ (v : V) (h : Ran merged safe part true old mid (Ok (Some v))) (x : W) (here : Held Tok Cx St Er)
      (n : here ≡ record mid { state = here.state }) (r : Option (List Er))
      (m : emits v (shown_from old.place mid) x here.state r) where
    validated : (new : Held Tok Cx St Er) (q : Result (Option W) Fault) → Ran merged safe (Validated emits old.place (Some v)) w mid new q → Ran merged safe (MeansValidate emits part) w old new q
    validated new q k = whole new q (ran-chained merged safe (Asked true part) (Validated emits old.place) w old (Some v) mid new q (ran-asked h) k)

module _ {Tok Cx St Er V W : Type 0} {merged : Er → Er → Er} {safe : Type 0} {emits : Emits Tok Cx St Er V W}
    {part : Meaning Tok Cx St Er V} {w : Bool} {old mid : Held Tok Cx St Er} where
  pub validate_fails : {f : Fault} {r : Result V Fault} {q : Result W Fault}
      → Ran merged safe part true old mid (with_value r) → r ≡ Err f → q ≡ Err f
      → Ran merged safe (MeansValidate emits part) w old mid (asked w q)
  validate_fails {f} h e d =
      rw d
      (whole merged safe emits part w old mid mid (Err f)
      (ran-chained_err merged safe (Asked true part) (Validated emits old.place) w old mid f (ran-asked (rw (emit_err e) at h))))

  module _ {v : V} (h : Ran merged safe part true old mid (Ok (Some v))) (x : W) (here : Held Tok Cx St Er)
      (n : here ≡ record mid { state = here.state }) (r : Option (List Er))
      (m : emits v (shown_from old.place mid) x here.state r) where
    pub validate_yes : {new : Held Tok Cx St Er} → EmitsAfter r here new → Ran merged safe (MeansValidate emits part) w old new (Ok (wanting w x))
    validate_yes {new} k =
        let left : new ≡ record mid { state = here.state; emitted = mid.emitted ++ k.0 } = k.2 ∙ ap (λ (z : Held Tok Cx St Er). record z { emitted = z.emitted ++ k.0 }) n in
        validated merged safe emits part w old mid v h x here n r m new _ (record {
          outcome = record { verdict = Yes (wanting w x); end = mid.place; state = here.state; events = []; emitted = k.0 };
          meant = (x, here.state, r, m, inl (k.0, k.1, refl));
          answered = refl;
          state = ap (λ (z : Held Tok Cx St Er). z.state) left;
          left = record {
            end = ap (λ (z : Held Tok Cx St Er). z.place) left;
            kept = ap (λ (z : Held Tok Cx St Er). z.kept) left ∙ kept-same merged mid.kept;
            emitted = ap (λ (z : Held Tok Cx St Er). z.emitted) left;
            stopped = ap (λ (z : Held Tok Cx St Er). z.stopped) left;
          };
          same = record { tokens = ap (λ (z : Held Tok Cx St Er). z.tokens) left; context = ap (λ (z : Held Tok Cx St Er). z.context) left };
        })

    pub validate_refused : {new : Held Tok Cx St Er} {q : Result W Fault}
        → (r ≡ Some [] → ⊥) × SameButErrors here new → q ≡ Err (fault.Stop Memory)
        → Ran merged safe (MeansValidate emits part) w old new (asked w q)
    validate_refused {new} k d =
        let left : new ≡ record mid { state = here.state; kept = new.kept; emitted = new.emitted } = k.1 ∙ ap (λ (z : Held Tok Cx St Er). record z { kept = new.kept; emitted = new.emitted }) n in
        rw d (validated merged safe emits part w old mid v h x here n r m new (Err (fault.Stop Memory)) (record {
          outcome = record { verdict = Halt Memory; end = mid.place; state = here.state; events = []; emitted = [] };
          meant = (x, here.state, r, m, inr (k.0, refl, refl));
          answered = refl;
          state = ap (λ (z : Held Tok Cx St Er). z.state) left;
          left = ap (λ (z : Held Tok Cx St Er). first_stop z.stopped Memory) left;
          same = record { tokens = ap (λ (z : Held Tok Cx St Er). z.tokens) left; context = ap (λ (z : Held Tok Cx St Er). z.context) left };
        }))

module _ {E S : Type 0} (seen : E → S) where
  all-emitted : (refused : Bool) (es : List E) → refused ≡ false → all_emitted seen refused es ≡ Some (map seen es)
  all-emitted true es e = let no : ⊥ = cc in absurd no
  all-emitted false es e = refl

  -- an emitter that was never refused memory
  pub emitted-all : (emitter : Emitter E) (es : List E) → es ≡ emitter.errors.items → emitter.refused ≡ false → emitted_by seen emitter ≡ Some (map seen es)
  emitted-all emitter es e f = all-emitted emitter.refused emitter.errors.items f ∙ ap (λ z. Some (map seen z)) (sym e)

module _ {Tok Cx St Er : Type 0} (old : Held Tok Cx St Er) (r : Option (List Er)) (es : List Er) (e : r ≡ Some es) where
  -- nothing to emit
  pub emits_none : es ≡ [] → EmitsAfter r old old
  emits_none n = (es, e, ap (λ z. record old { emitted = z }) (sym (append-nil old.emitted) ∙ ap (λ z. old.emitted ++ z) (sym n)))

  -- the older errors are set aside, and brought back before these
  pub emits_back : (merged : Er → Er → Er) (safe : Type 0) (bare new : Held Tok Cx St Er) {U A : Type 0} (q : Result U A) → bare ≡ without_errors old
      → MatchResult q (λ _. new ≡ brought_back merged old.kept old.emitted (record bare { kept = None; emitted = es }))
      (λ _. (ClashesWith safe old.kept None ⊎ (es ≡ [] → ⊥)) × SameButErrors (record bare { kept = None; emitted = es }) new)
      → MatchResult q (λ _. EmitsAfter r old new) (λ _. (r ≡ Some [] → ⊥) × SameButErrors old new)
  emits_back merged safe bare new (Ok u) b k = (
    es,
    e,
    k ∙ ap (λ (z : Held Tok Cx St Er). record z { kept = primary merged (option_to_list old.kept ++ []); emitted = old.emitted ++ es }) b
        ∙ ap (λ z. record old { kept = z; emitted = old.emitted ++ es }) (sym (kept-same merged old.kept)),
  )
  emits_back merged safe bare new (Err a) b (inl c, s) = let clash = c.1 in let no : ⊥ = cc in absurd no
  emits_back merged safe bare new (Err a) b (inr c, s) = ((λ q. let none : es ≡ [] = cc (e, q) in c none), s ∙ ap (λ (z : Held Tok Cx St Er). record z { kept = new.kept; emitted = new.emitted }) b)
