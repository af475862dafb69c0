-- The laws of tokens up to the delimiter that closes what is open.
use Rattle.std.proofs.Common.{◌≡◌, ℕ, zero, suc, ◌≤◌, Bool, Option, Some, None, List, [], ◌∷◌, ◌++◌, refl, sym, ap, subst, arith, inl, inr}
use Rattle.chumsky_input.specs.declared.error.Error as error_trait
use Rattle.chumsky_input.specs.declared.inspector.Inspector as inspector_trait
use Rattle.chumsky_input.specs.declared.input.Input as input_trait
use Rattle.chumsky_input.specs.Outcome.{Meaning, Beginning, Outcome, Verdict, Yes, No, Halt, Clash, IsAnswer, SameValue, Alike, Agree, EndsAfterStart, Agreeing}
use Rattle.chumsky_parser.specs.Chained.{Chained, Follows}
use Rattle.chumsky_parser.specs.Laws.{chained-ends, chained-agrees, given-ends, given-agrees}
use Rattle.chumsky_parser.specs.FailureLaws.{SameUnit, misses-agree, misses-ends}
use Rattle.chumsky_primitive.specs.Just.{past, told}
use Rattle.chumsky_primitive.specs.JustLaws.{past-after}
use Rattle.chumsky_recovery.specs.declared.nested_delimiters.Role.{Role}
use Rattle.chumsky_recovery.specs.declared.nested_delimiters.Role.TheVariants as role
use Rattle.chumsky_recovery.specs.Nested.{popped, Fits, TakesFitting, AfterClose, AfterRole, TokensUpTo, TakesFrom, TakesNested}

module _ {I Tok Sp Cu Er St Mk Cx T : Type 0} (source : input_trait.Ghosts I Cu Tok Sp)
    (errors : error_trait.Ghosts Er I Tok Sp) (states : inspector_trait.Ghosts St I Mk Tok Sp) (has : T → Tok → Bool)
    (members : T → List Tok) (pairs : List (T × T)) where
  fits_end : (r : Option (Role T)) (i : T) (t : Option Tok) (b : Beginning Tok Cx states.Seen)
      (o : Outcome (Role T) errors.Seen states.Seen)
      → Fits source errors states has members pairs r i t b o → IsAnswer o.verdict → b.start ≤ o.end
  fits_end (Some r) i t b o h a = omega (arith, past-after t b.start, ap (λ (x : Outcome (Role T) errors.Seen states.Seen). x.end) h)
  fits_end None i t b o (inl r) a = absurd (subst IsAnswer r.1 a)
  fits_end None i t b o (inr h) a = misses-ends (λ x y. x ≡ y) (omega arith) h a

  pub fitting-ends : (i : T) → EndsAfterStart (TakesFitting {Cx = Cx} source errors states has members pairs i)
  fitting-ends i b o h a = elim h.by_token [ inl r ↦ absurd (subst IsAnswer r.1 a) | inr k ↦ fits_end _ i _ b o k a ]

  module _ (next : T → List T → Meaning Tok Cx states.Seen errors.Seen (Unit {0})) (h : (j : T) (os : List T) → EndsAfterStart (next j os)) where
    after_close-ends : (p : Option (T × List T)) → EndsAfterStart (AfterClose source errors states has members pairs next p)
    after_close-ends None = given-ends None
    after_close-ends (Some p) = h p.0 p.1

    pub after_role-ends : (i : T) (outer_ones : List T) (r : Option (Role T)) → EndsAfterStart (AfterRole source errors states has members pairs next i outer_ones r)
    after_role-ends i outer_ones (Some role.Closes) = after_close-ends (popped outer_ones)
    after_role-ends i outer_ones (Some (role.Opens d)) = λ b o m a. elim m [ inl r ↦ absurd (subst IsAnswer r.1 a) | inr k ↦ h d (outer_ones ++ i ∷ []) b o k a ]
    after_role-ends i outer_ones (Some role.Other) = h i outer_ones
    after_role-ends i outer_ones None = λ b o m a. absurd m

  pub tokens-end : (n : ℕ) (i : T) (outer_ones : List T) → EndsAfterStart (TokensUpTo {Cx = Cx} source errors states has members pairs n i outer_ones)
  tokens-end zero i outer_ones = λ b o m a. absurd m
  tokens-end (suc n) i outer_ones =
      chained-ends (TakesFitting source errors states has members pairs i) _ (fitting-ends i)
      (after_role-ends (TokensUpTo source errors states has members pairs n) (tokens-end n) i outer_ones)

  pub nested-ends : (i : T) → EndsAfterStart (TakesNested {Cx = Cx} source errors states has members pairs i)
  nested-ends i b o m a = tokens-end m.tokens i [] b o m.run a

  fits_agree : (r : Option (Role T)) (i : T) (t : Option Tok) (b c : Beginning Tok Cx states.Seen)
      (o q : Outcome (Role T) errors.Seen states.Seen)
      → Alike b c → Fits source errors states has members pairs r i t b o
      → Fits source errors states has members pairs r i t c q → IsAnswer o.verdict → IsAnswer q.verdict
      → Agree (λ x y. x ≡ y) o q
  fits_agree (Some r) i t b c o q alike h k a z =
      let x : Outcome (Role T) errors.Seen states.Seen = record { verdict = Yes (Some r); end = past t b.start; state = told states.after t b.state; events = []; emitted = [] } in
      let y : Outcome (Role T) errors.Seen states.Seen = record { verdict = Yes (Some r); end = past t c.start; state = told states.after t c.state; events = []; emitted = [] } in
      let xy : Agree (λ u v. u ≡ v) x y = record { answer = refl; end = ap (past t) alike.start; state = ap (told states.after t) alike.state; events = refl; emitted = refl } in
      rw (h, k) xy
  fits_agree None i t b c o q alike (inl r) k a z = absurd (subst IsAnswer r.1 a)
  fits_agree None i t b c o q alike (inr h) (inl r) a z = absurd (subst IsAnswer r.1 z)
  fits_agree None i t b c o q alike (inr h) (inr k) a z =
      misses-agree (λ x y. x ≡ y) (cc (alike.tokens, alike.start)) alike.start (ap (λ s. states.back (told states.after t s) (states.mark s)) alike.state) h k a z

  fitting-agrees : (i : T) → Agreeing (λ x y. x ≡ y) (TakesFitting {Cx = Cx} source errors states has members pairs i) (TakesFitting source errors states has members pairs i)
  fitting-agrees i b c o q alike h k a z =
      elim h.by_token [
        | inl r ↦ absurd (subst IsAnswer r.1 a)
        | inr x ↦ elim k.by_token [
          | inl r ↦ absurd (subst IsAnswer r.1 z)
          | inr y ↦ fits_agree _ i _ b c o q alike x (rw (alike.tokens, alike.start) y) a z
        ]
      ]

  module _ (next other : T → List T → Meaning Tok Cx states.Seen errors.Seen (Unit {0})) (h : (j : T) (os : List T) → Agreeing SameUnit (next j os) (other j os)) where
    after_close-agrees : (p : Option (T × List T)) → Agreeing SameUnit (AfterClose source errors states has members pairs next p) (AfterClose source errors states has members pairs other p)
    after_close-agrees None = given-agrees SameUnit None None tt
    after_close-agrees (Some p) = h p.0 p.1

    after_one-agrees : (i : T) (outer_ones : List T) (r : Role T)
        → Agreeing SameUnit (AfterRole source errors states has members pairs next i outer_ones (Some r))
        (AfterRole source errors states has members pairs other i outer_ones (Some r))
    after_one-agrees i outer_ones role.Closes = after_close-agrees (popped outer_ones)
    after_one-agrees i outer_ones (role.Opens d) = λ b c o q alike m n a z.
        elim m [
          | inl r ↦ absurd (subst IsAnswer r.1 a)
          | inr k ↦ elim n [
            | inl r ↦ absurd (subst IsAnswer r.1 z)
            | inr l ↦ h d (outer_ones ++ i ∷ []) b c o q alike k l a z
          ]
        ]
    after_one-agrees i outer_ones role.Other = h i outer_ones

    after_role-agrees : (i : T) (outer_ones : List T) (r u : Option (Role T)) → SameValue (λ x y. x ≡ y) r u
        → Agreeing SameUnit (AfterRole source errors states has members pairs next i outer_ones r)
        (AfterRole source errors states has members pairs other i outer_ones u)
    after_role-agrees i outer_ones (Some r) (Some u) e =
        subst
        (λ x. Agreeing SameUnit (AfterRole source errors states has members pairs next i outer_ones (Some r))
        (AfterRole source errors states has members pairs other i outer_ones (Some x)))
        e (after_one-agrees i outer_ones r)
    after_role-agrees i outer_ones (Some r) None e = λ b c o q alike m n a z. absurd n
    after_role-agrees i outer_ones None u e = λ b c o q alike m n a z. absurd m

  tokens-agree : (n k : ℕ) (i : T) (outer_ones : List T)
      → Agreeing SameUnit (TokensUpTo {Cx = Cx} source errors states has members pairs n i outer_ones)
      (TokensUpTo source errors states has members pairs k i outer_ones)
  tokens-agree zero k i outer_ones = λ b c o q alike m r a z. absurd m
  tokens-agree (suc n) zero i outer_ones = λ b c o q alike m r a z. absurd r
  tokens-agree (suc n) (suc k) i outer_ones =
      chained-agrees (TakesFitting source errors states has members pairs i) (TakesFitting source errors states has members pairs i) _ _ (λ x y. x ≡ y) SameUnit (fitting-agrees i)
      (after_role-agrees (TokensUpTo source errors states has members pairs n) (TokensUpTo source errors states has members pairs k) (tokens-agree n k) i outer_ones)

  pub nested-agrees : (i : T) → Agreeing SameUnit (TakesNested {Cx = Cx} source errors states has members pairs i) (TakesNested source errors states has members pairs i)
  nested-agrees i b c o q alike m r a z = tokens-agree m.tokens r.tokens i [] b c o q alike m.run r.run a z

  -- one token, and then the others
  module _ (i : T) (outer_ones : List T) (b : Beginning Tok Cx states.Seen) where
    close-raised : (p : Option (T × List T)) (c : Beginning Tok Cx states.Seen) (q : Outcome (Unit {0}) errors.Seen states.Seen)
        → AfterClose source errors states has members pairs (TakesFrom source errors states has members pairs) p c q
        → (n : ℕ) × AfterClose source errors states has members pairs (TokensUpTo source errors states has members pairs n) p c q
    close-raised None c q h = (0, h)
    close-raised (Some p) c q h = (h.tokens, h.run)

    raised : (r : Option (Role T)) (c : Beginning Tok Cx states.Seen) (q : Outcome (Unit {0}) errors.Seen states.Seen)
        → AfterRole source errors states has members pairs (TakesFrom source errors states has members pairs) i outer_ones r c q
        → (n : ℕ) × AfterRole source errors states has members pairs (TokensUpTo source errors states has members pairs n) i outer_ones r c q
    raised (Some role.Closes) c q h = close-raised (popped outer_ones) c q h
    raised (Some (role.Opens d)) c q (inl h) = (0, inl h)
    raised (Some (role.Opens d)) c q (inr h) = (h.tokens, inr h.run)
    raised (Some role.Other) c q h = (h.tokens, h.run)
    raised None c q h = absurd h

    unrolled : (p : Outcome (Role T) errors.Seen states.Seen) (o : Outcome (Unit {0}) errors.Seen states.Seen)
        → TakesFitting source errors states has members pairs i b p → (v : Verdict (Role T) errors.Seen)
        → p.verdict ≡ v
        → Follows v (AfterRole source errors states has members pairs (TakesFrom source errors states has members pairs) i outer_ones) b p o
        → TakesFrom source errors states has members pairs i outer_ones b o
    unrolled p o m (Yes r) e f =
        let up = raised r _ f.0 f.1 in
        record {
          tokens = suc up.0;
          run =
              record {
                first = p;
                meant = m;
                follows =
                    subst
                    (λ v. Follows v (AfterRole source errors states has members pairs (TokensUpTo source errors states has members pairs up.0) i outer_ones) b p o)
                    (sym e) (f.0, up.1, f.2);
              };
        }
    unrolled p o m No e f =
        record {
          tokens = 1;
          run =
              record {
                first = p;
                meant = m;
                follows = subst
                    (λ v. Follows v (AfterRole source errors states has members pairs (TokensUpTo source errors states has members pairs 0) i outer_ones) b p o)
                    (sym e) f;
              };
        }
    unrolled p o m (Halt s) e f =
        record {
          tokens = 1;
          run =
              record {
                first = p;
                meant = m;
                follows = subst
                    (λ v. Follows v (AfterRole source errors states has members pairs (TokensUpTo source errors states has members pairs 0) i outer_ones) b p o)
                    (sym e) f;
              };
        }
    unrolled p o m (Clash x) e f =
        record {
          tokens = 1;
          run =
              record {
                first = p;
                meant = m;
                follows = subst
                    (λ v. Follows v (AfterRole source errors states has members pairs (TokensUpTo source errors states has members pairs 0) i outer_ones) b p o)
                    (sym e) f;
              };
        }

    pub nested-unrolled : (o : Outcome (Unit {0}) errors.Seen states.Seen)
        → Chained (TakesFitting source errors states has members pairs i)
        (AfterRole source errors states has members pairs (TakesFrom source errors states has members pairs) i outer_ones)
        b o
        → TakesFrom source errors states has members pairs i outer_ones b o
    nested-unrolled o m = unrolled m.first o m.meant m.first.verdict refl m.follows
