-- The language of the end of input: the empty word, with nothing after it.
-- Main words: end_ends, end_language. Main law: end-accepts. Read first: End.antt, and Language.antt of chumsky_parser.
use Rattle.std.proofs.Common.{◌≡◌, ℕ, ◌+◌, suc, ◌≤◌, ◌<◌, true, false, Option, Some, None, List, [], ◌∷◌, ◌++◌, length, drop, get_or, refl, ◌∙◌, ap, subst, arith, inl, inr}
use Rattle.std.specs.Prelude.{slice_get, ◌⊎◌, ⊤}
use Rattle.std.proofs.Math.Seq.{drop-cons}
use Rattle.std.proofs.lemmas.List.{drop_all}
use Rattle.std.proofs.lemmas.Option.{slice_get_within, get_or_from_slice_get, slice_get_cases}
use Rattle.chumsky_input.specs.declared.error.Error as error_trait
use Rattle.chumsky_input.specs.declared.inspector.Inspector as inspector_trait
use Rattle.chumsky_input.specs.declared.input.Input as input_trait
use Rattle.chumsky_input.specs.Outcome.{Beginning, Outcome}
use Rattle.chumsky_parser.specs.Ending.{Ending, At, Nowhere, Refused, Ender, Within, IfValue, Answers, Reads}
use Rattle.chumsky_parser.specs.EndingLaws.{refuses-by, misses-by}
use Rattle.chumsky_parser.specs.Failure.{wanting}
use Rattle.chumsky_parser.specs.FurtherLaws.{never-below}
use Rattle.chumsky_parser.specs.Language.{Language, Accepts}
use Rattle.chumsky_parser.specs.Memory.{SparesMemory, NeverOutOfMemory}
use Rattle.chumsky_parser.specs.MemoryLaws.{misses-spares, given-spares}
use Rattle.chumsky_primitive.specs.End.{MeansEnd, MeansEndAt}

module _ {Tok : Type 0} (ts : List Tok) (p : ℕ) where
  -- the token at a place begins what is left there
  pub token_there : (t : Tok) → slice_get ts p ≡ Some t → drop p ts ≡ t ∷ drop (p + 1) ts
  token_there t e =
      let l : p < length ts = slice_get_within ts p t e in
      let g : get_or ts p t ≡ t = get_or_from_slice_get ts p t t e in
      let s : suc p ≡ p + 1 = omega arith in
      drop-cons ts p t l ∙ ap (λ x. x ∷ drop (suc p) ts) g ∙ ap (λ n. t ∷ drop n ts) s

  -- and where there is none, nothing is left
  pub none_there : slice_get ts p ≡ None → drop p ts ≡ []
  none_there e = elim (slice_get_cases ts p).1 [ inl x ↦ absurd (cc (x.2, e)) | inr x ↦ drop_all p ts x.0 ]

-- where nothing is left
abbrev pub end_ends : {Tok : Type 0} → Ender Tok
end_ends [] = At []
end_ends (t ∷ ts) = Nowhere

abbrev pub end_language : {Tok : Type 0} → Language Tok (Unit {0})
end_language = record {
  said = true;
  ends = end_ends;
  value = λ _ _. ⊤;
  word = λ w. w ≡ [];
  stands_for = λ w _. w ≡ [];
  follow = λ rest. rest ≡ [];
  unambiguous = ⊤;
  refused_from = None;
  moves = false;
  takes_no_memory = ⊤;
}

any_value : (v : Option (Unit {0})) → IfValue (λ (_ : Unit {0}). ⊤) v
any_value (Some v) = tt
any_value None = tt

empty_before : {Tok : Type 0} (ts rest : List Tok) → end_ends ts ≡ At rest → ts ≡ [] ++ rest
empty_before [] rest e = cc e
empty_before (t ∷ ts) rest e = absurd (cc e)

never_refused : {Tok : Type 0} (ts : List Tok) → end_ends ts ≡ Refused → ⊥
never_refused [] e = absurd (cc e)
never_refused (t ∷ ts) e = absurd (cc e)

module _ {I Tok Sp Cu Er St Mk Cx : Type 0} (source : input_trait.Ghosts I Cu Tok Sp) (errors : error_trait.Ghosts Er I Tok Sp) (states : inspector_trait.Ghosts St I Mk Tok Sp) where
  end_by : (b : Beginning Tok Cx states.Seen) → Within b
      → (o : Outcome (Unit {0}) errors.Seen states.Seen) (found : Option Tok)
      → slice_get b.tokens.list b.start ≡ found → MeansEndAt source errors states found b o
      → Answers (λ (_ : Unit {0}). ⊤) (end_ends (drop b.start b.tokens.list)) b.tokens.list o.verdict o.end
  end_by b w o (Some t) e (inl r) = refuses-by (λ (_ : Unit {0}). ⊤) _ b.tokens.list o r
  end_by b w o (Some t) e (inr m) =
      let n : end_ends (drop b.start b.tokens.list) ≡ Nowhere = rw (token_there b.tokens.list b.start t e) refl in
      misses-by (λ (_ : Unit {0}). ⊤) _ b.tokens.list o n m
  end_by b w o None e m =
      let i : IfValue (λ (_ : Unit {0}). ⊤) (wanting b.wanted tt) = any_value (wanting b.wanted tt) in
      rw (m, none_there b.tokens.list b.start e) (refl, i, w.start)

  pub end-reads : Reads (MeansEnd {Cx = Cx} source errors states) end_ends (λ _ _. ⊤)
  end-reads = record { here = λ b w o m. elim m.by_token [ inl r ↦ refuses-by (λ (_ : Unit {0}). ⊤) _ b.tokens.list o r | inr x ↦ end_by b w o _ refl x ] }

  module _ (quiet : errors.takes_no_memory) (still : states.takes_no_memory) where
    end_at-spares : (found : Option Tok) (b : Beginning Tok Cx states.Seen) (o : Outcome (Unit {0}) errors.Seen states.Seen) → MeansEndAt source errors states found b o → SparesMemory o.verdict
    end_at-spares (Some t) b o (inl r) = absurd (r.0 still)
    end_at-spares (Some t) b o (inr m) = misses-spares quiet m
    end_at-spares None b o m = given-spares (wanting b.wanted tt) b o m

    pub end-spares : NeverOutOfMemory (MeansEnd {Cx = Cx} source errors states)
    end-spares b o m = elim m.by_token [ inl r ↦ absurd (r.0 still) | inr k ↦ end_at-spares (slice_get b.tokens.list b.start) b o k ]

  pub end-accepts : Accepts (MeansEnd {Cx = Cx} source errors states) end_language (errors.takes_no_memory × states.takes_no_memory)
  end-accepts = record {
    described = λ _. record {
      reads = end-reads;
      only = record { taken = λ ts rest e. record { word = []; all = empty_before ts rest e; is = refl } };
      given = record { given = λ ts rest v e _. record { word = []; all = empty_before ts rest e; is = refl } };
      each = λ _. record { each = λ w rest p f. rw (p, f) (inl refl) };
      decided = never-below never_refused;
      further = λ m. absurd (cc m);
    };
    moving = λ m. absurd (cc m);
    sparing = λ q _. end-spares q.0 q.1;
  }
