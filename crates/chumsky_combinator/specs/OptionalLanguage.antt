-- The language of a part that may be absent: a word of the part, or nothing, where the part does not end on what follows.
-- Main words: or_not_language. Law: or_not-accepts. Read first: Language.antt of chumsky_parser, Optional.antt.
use Rattle.std.proofs.Common.{◌≡◌, ℕ, false, Option, Some, None, List, [], length, refl, ◌∙◌, inl, inr}
use Rattle.std.specs.Prelude.{⊤, ◌⊎◌}
use Rattle.chumsky_input.specs.Outcome.{Meaning}
use Rattle.chumsky_parser.specs.ChoiceEndings.{or-by}
use Rattle.chumsky_parser.specs.Ending.{Ending, At, Nowhere, Refused, Ender, or_else, Reads, DoesNotEnd}
use Rattle.chumsky_parser.specs.EndingLaws.{gives-by, regrouped-by}
use Rattle.chumsky_parser.specs.Language.{Language, Begins, TakesOnly, GivesOnly, TakesEach, NeverRefusedBelow, IsBelow, Accepts}
use Rattle.chumsky_parser.specs.ProgressLaws.{never}
use Rattle.chumsky_parser.specs.Words.{either_ends, ElseValue}
use Rattle.chumsky_parser.specs.WordsLaws.{or-takes_each}
use Rattle.chumsky_combinator.specs.Optional.{OrNone}
use Rattle.chumsky_combinator.specs.OptionalLaws.{or_none-spares}

-- a value, with P
abbrev pub IfSomeOf : {V : Type 0} → (V → Type 0) → Option V → Type 0
IfSomeOf P (Some v) = P v
IfSomeOf P None = ⊥

-- no value
abbrev pub IfNoneOf : {V : Type 0} → Option V → Type 0
IfNoneOf (Some v) = ⊥
IfNoneOf None = ⊤

-- some value of a word of the part, or none of nothing
abbrev pub MaybeOf : {Tok V : Type 0} → (List Tok → V → Type 0) → List Tok → Option V → Type 0
MaybeOf of w (Some v) = of w v
MaybeOf of w None = w ≡ []

abbrev pub maybe_ends : {Tok : Type 0} → Ender Tok → Ender Tok
maybe_ends f = either_ends f (λ ts. At ts)

abbrev pub MaybeValue : {Tok V : Type 0} → Ender Tok → (List Tok → V → Type 0) → List Tok → Option V → Type 0
MaybeValue f value ts v = ElseValue (f ts) (IfSomeOf (value ts) v) (IfNoneOf v)

-- a word of the part, or nothing; and the part does not end on what follows
abbrev pub or_not_language : {Tok V : Type 0} → Language Tok V → Language Tok (Option V)
or_not_language F = record {
  said = F.said;
  ends = maybe_ends F.ends;
  value = MaybeValue F.ends F.value;
  word = λ w. F.word w ⊎ (w ≡ []);
  stands_for = MaybeOf F.stands_for;
  follow = λ rest. F.follow rest × DoesNotEnd (F.ends rest);
  unambiguous = F.unambiguous;
  refused_from = F.refused_from;
  moves = false;
  takes_no_memory = F.takes_no_memory;
}

module _ {Tok : Type 0} (f : Ender Tok) (P : List Tok → Type 0) where
  maybe-takes_only : TakesOnly f P → TakesOnly (maybe_ends f) (λ w. P w ⊎ (w ≡ []))
  maybe-takes_only h = record { taken = λ ts rest e. by_part ts rest (f ts) refl e }
    where
      by_part : (ts rest : List Tok) (x : Ending (List Tok)) → f ts ≡ x → or_else x (At ts) ≡ At rest → Begins (λ w. P w ⊎ (w ≡ [])) ts rest
      by_part ts rest Nowhere d e = let z : ts ≡ rest = cc e in record { word = []; all = z; is = inr refl }
      by_part ts rest Refused d e = absurd (cc e)
      by_part ts rest (At r) d e = let b = h.taken ts rest (d ∙ e) in record { word = b.word; all = b.all; is = inl b.is }

  maybe-takes_each : (fits : List Tok → Type 0) → TakesEach f P fits → TakesEach (maybe_ends f) (λ w. P w ⊎ (w ≡ [])) (λ rest. fits rest × DoesNotEnd (f rest))
  maybe-takes_each fits k = or-takes_each f (λ ts. At ts) P (λ w. w ≡ []) fits (λ rest. DoesNotEnd (f rest)) k (record { each = λ w rest e i. rw e (inl refl) }) (λ w rest e i. rw e i)

  maybe-decided : (n : Option ℕ) → NeverRefusedBelow n f → NeverRefusedBelow n (maybe_ends f)
  maybe-decided n h ts i e = by_part ts i (f ts) refl e
    where
      by_part : (ts : List Tok) → IsBelow n (length ts) → (x : Ending (List Tok)) → f ts ≡ x → or_else x (At ts) ≡ Refused → ⊥
      by_part ts i Nowhere d e = absurd (cc e)
      by_part ts i Refused d e = h ts i d
      by_part ts i (At r) d e = absurd (cc e)

module _ {Tok V : Type 0} (f : Ender Tok) (value of : List Tok → V → Type 0) (h : GivesOnly f value of) where
  maybe-gives_only : GivesOnly (maybe_ends f) (MaybeValue f value) (MaybeOf of)
  maybe-gives_only = record { given = λ ts rest v e i. by_part ts rest v (f ts) refl e i }
    where
      by_part : (ts rest : List Tok) (v : Option V) (x : Ending (List Tok)) → f ts ≡ x → or_else x (At ts) ≡ At rest → ElseValue x (IfSomeOf (value ts) v) (IfNoneOf v)
          → Begins (λ w. MaybeOf of w v) ts rest
      by_part ts rest None Nowhere d e i = let z : ts ≡ rest = cc e in record { word = []; all = z; is = refl }
      by_part ts rest (Some v) Nowhere d e i = absurd i
      by_part ts rest v Refused d e i = absurd i
      by_part ts rest None (At r) d e i = absurd i
      by_part ts rest (Some v) (At r) d e i = let b = h.given ts rest v (d ∙ e) i in record { word = b.word; all = b.all; is = b.is }

module _ {Tok Cx St Mk Er V : Type 0} (mark : St → Mk) (back : St → Mk → St) {safe spare : Type 0} (still : spare → safe) (part : Meaning Tok Cx St Er V) where
  or_none-by : (f : Ender Tok) (value : List Tok → V → Type 0) → Reads part f value → Reads (OrNone mark back safe part) (maybe_ends f) (MaybeValue f value)
  or_none-by f value h =
      or-by mark back safe _ _ f (λ ts. At ts) (λ ts v. IfSomeOf (value ts) v) (λ ts v. IfNoneOf v)
      (regrouped-by part f value h Some (λ ts v. IfSomeOf (value ts) v) (λ ts v i. i))
      (gives-by Er IfNoneOf None tt)

  -- `part.or_not()`, where a mark and going back take no memory if errors and states don't
  pub or_not-accepts : {F : Language Tok V} → Accepts part F spare → Accepts (OrNone mark back safe part) (or_not_language F) spare
  or_not-accepts {F} h = record {
    described = λ s.
        let d = h.described s in
        record {
          reads = or_none-by F.ends F.value d.reads;
          only = maybe-takes_only F.ends F.word d.only;
          given = maybe-gives_only F.ends F.value F.stands_for d.given;
          each = λ u. maybe-takes_each F.ends F.word F.follow (d.each u);
          decided = maybe-decided F.ends F.word F.refused_from d.decided;
          further = λ e. never e;
        };
    moving = λ e. never e;
    sparing = λ q t. or_none-spares mark back safe part (still q) (h.sparing q t);
  }
