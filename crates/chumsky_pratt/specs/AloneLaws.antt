-- Without operators an expression is its atom.
-- Main law: alone_is_atom. Read first: Alone.antt.
use Rattle.std.proofs.Common.{◌≡◌, ℕ, zero, suc, ◌+◌, ◌<◌, ◌++◌, Option, Some, None, List, [], refl, sym, ◌∙◌, ap, subst, arith, inl, inr, append_assoc, length}
use Rattle.std.proofs.lemmas.List.{append-nil}
use Rattle.chumsky_input.specs.Layout.{Layout}
use Rattle.chumsky_input.specs.Outcome.{Event, Meaning, Beginning, Outcome, Verdict, Yes, No, Halt, Clash, IsAnswer}
use Rattle.chumsky_parser.specs.Chained.{Chained, Given, Follows, from}
use Rattle.chumsky_parser.specs.Choice.{ElseFrom, AttemptFrom}
use Rattle.chumsky_pratt.specs.declared.fixity.Fixity.{Fixity}
use Rattle.chumsky_pratt.specs.declared.fixity.Fixity.TheVariants.{Prefix, Postfix, Infix}
use Rattle.chumsky_pratt.specs.Expression.{Syntax, Turn, Rests, Goes, any_power, AfterTurn, From, TryPrefix, TryPostfix, TryInfix, Head, Round, Rounds, AllRounds, Level, Below}
use Rattle.chumsky_pratt.specs.Alone.{NoneIn, IsAtomAlone, AloneIsAtom}

module _ {Tok Cx St Er V W : Type 0} (part : Meaning Tok Cx St Er V) (next : Option V → Meaning Tok Cx St Er W) where
  no_yes : (b : Beginning Tok Cx St) (p : Outcome V Er St) (o : Outcome W Er St) (w : Option W) (v : Verdict V Er)
      → p.verdict ≡ v → ((x : Option V) → p.verdict ≡ Yes x → ⊥) → Follows v next b p o → o.verdict ≡ Yes w → ⊥
  no_yes b p o w (Yes x) e n f y = n x e
  no_yes b p o w No e n f y = (let g : o.verdict ≡ No = ap (λ (z : Outcome W Er St). z.verdict) f in let no : ⊥ = cc in no)
  no_yes b p o w (Halt s) e n f y = (let g : o.verdict ≡ Halt s = ap (λ (z : Outcome W Er St). z.verdict) f in let no : ⊥ = cc in no)
  no_yes b p o w (Clash x) e n f y = (let g : o.verdict ≡ Clash x = ap (λ (z : Outcome W Er St). z.verdict) f in let no : ⊥ = cc in no)

  -- what begins with a part that says no yes says none
  chained-no_yes : (b : Beginning Tok Cx St) (o : Outcome W Er St) (w : Option W)
      → ((p : Outcome V Er St) (x : Option V) → part b p → p.verdict ≡ Yes x → ⊥) → Chained part next b o
      → o.verdict ≡ Yes w → ⊥
  chained-no_yes b o w n c y = no_yes b c.first o w c.first.verdict refl (λ x e. n c.first x c.meant e) c.follows y

-- what holds of each answer in these tokens, and still does where earlier failures were gone back from
module _ {Tok Cx St Mk Er F V : Type 0} (s : Syntax Tok Cx St Mk Er F V) (ts : Layout Tok) (none : NoneIn s ts) where
  module _ {W : Type 0} (Q : Beginning Tok Cx St → Outcome W Er St → Type 0)
      (later : (b : Beginning Tok Cx St) (st : St) (es : List (Event Er)) (q : Outcome W Er St)
      → Q (record b { state = st }) q → Q b (record q { events = es ++ q.events }))
    where
      abbrev Answers : Meaning Tok Cx St Er W → Type 0
      Answers m = (b : Beginning Tok Cx St) (o : Outcome W Er St) → b.tokens ≡ ts → m b o → IsAnswer o.verdict → Q b o

      else-answers : (m : Mk) (next : Meaning Tok Cx St Er W) (b : Beginning Tok Cx St) (p o : Outcome W Er St) (v : Verdict W Er)
          → p.verdict ≡ v → ((w : Option W) → p.verdict ≡ Yes w → ⊥) → Answers next → b.tokens ≡ ts
          → ElseFrom s.back s.safe m v next b p o → IsAnswer o.verdict → Q b o
      else-answers m next b p o (Yes w) e n h t f a = absurd (n w e)
      else-answers m next b p o No e n h t (inl r) a = absurd (subst IsAnswer r.1 a)
      else-answers m next b p o No e n h t (inr k) a =
          let d : Beginning Tok Cx St = record b { state = s.back p.state m } in
          let g : Q d k.0 = h d k.0 t k.1 (subst (λ (x : Outcome W Er St). IsAnswer x.verdict) k.2 a) in
          subst (Q b) (sym k.2) (later b (s.back p.state m) p.events k.0 g)
      else-answers m next b p o (Halt z) e n h t f a = (let g : o.verdict ≡ Halt z = ap (λ (x : Outcome W Er St). x.verdict) f ∙ e in absurd (subst IsAnswer g a))
      else-answers m next b p o (Clash z) e n h t f a = (let g : o.verdict ≡ Clash z = ap (λ (x : Outcome W Er St). x.verdict) f ∙ e in absurd (subst IsAnswer g a))

      -- an operator that is not there is passed over
      attempt-answers : (m : Mk) (i : ℕ) (after : Option F → Meaning Tok Cx St Er W) (next : Meaning Tok Cx St Er W)
          → i < s.number → Answers next → Answers (AttemptFrom s.back s.safe m (Chained (s.reads i) after) next)
      attempt-answers m i after next l h b o t k a =
          else-answers m next b k.attempt o k.attempt.verdict refl (λ w. chained-no_yes (s.reads i) after b k.attempt w (λ p x. none i b p x l t) k.meant) h t k.then_else a

      from-answers : (try : ℕ → Fixity → Meaning Tok Cx St Er W → Meaning Tok Cx St Er W) → ((i : ℕ) (f : Fixity) (next : Meaning Tok Cx St Er W) → i < s.number → Answers next → Answers (try i f next))
          → (count i : ℕ) (last : Meaning Tok Cx St Er W) → i + count ≡ s.number → Answers last → Answers (From s try count i last)
      from-answers try h zero i last e l = l
      from-answers try h (suc count) i last e l = h i (s.stands i) (From s try count (suc i) last) (omega (arith, e)) (from-answers try h count (suc i) last (omega (arith, e)) l)

  -- an atom's outcome, with failures before its own
  record AtomAfter (b : Beginning Tok Cx St) (o : Outcome V Er St) : Type 0 where
    pub state : St
    pub read : Outcome V Er St
    pub before : List (Event Er)
    pub meant : s.atom (record b { state = state }) read
    pub is : o ≡ record read { events = before ++ read.events }

  atom-later : (b : Beginning Tok Cx St) (st : St) (es : List (Event Er)) (q : Outcome V Er St) → AtomAfter (record b { state = st }) q → AtomAfter b (record q { events = es ++ q.events })
  atom-later b st es q h =
      record {
        state = h.state;
        read = h.read;
        before = es ++ h.before;
        meant = h.meant;
        is = ap (λ (x : Outcome V Er St). record x { events = es ++ x.events }) h.is ∙ ap (λ es. record (h.read) { events = es }) (sym (append_assoc es h.before h.read.events));
      }

  -- a round that did nothing
  record Rested (b : Beginning Tok Cx St) (o : Outcome (Turn V) Er St) : Type 0 where
    pub verdict : o.verdict ≡ Yes (Some Rests)
    pub end : o.end ≡ b.start
    pub emitted : o.emitted ≡ []

  rested-later : (b : Beginning Tok Cx St) (st : St) (es : List (Event Er)) (q : Outcome (Turn V) Er St) → Rested (record b { state = st }) q → Rested b (record q { events = es ++ q.events })
  rested-later b st es q h = record { verdict = h.verdict; end = h.end; emitted = h.emitted }

  given-rests : Answers Rested rested-later (Given (Some Rests))
  given-rests b o t e a =
      record {
        verdict = ap (λ (x : Outcome (Turn V) Er St). x.verdict) e;
        end = ap (λ (x : Outcome (Turn V) Er St). x.end) e;
        emitted = ap (λ (x : Outcome (Turn V) Er St). x.emitted) e;
      }

  atom-reads : Answers AtomAfter atom-later s.atom
  atom-reads b o t h a = record { state = b.state; read = o; before = []; meant = h; is = refl }

  module _ (operand : ℕ → Meaning Tok Cx St Er V) (start : ℕ) where
    prefix-alone : (m : Mk) (i : ℕ) (f : Fixity) (next : Meaning Tok Cx St Er V) → i < s.number
        → Answers AtomAfter atom-later next → Answers AtomAfter atom-later (TryPrefix s operand start m i f next)
    prefix-alone m i (Prefix power) next l h = attempt-answers AtomAfter atom-later m i _ next l h
    prefix-alone m i (Postfix power) next l h = h
    prefix-alone m i (Infix left right chains) next l h = h

    module _ (least at below : ℕ) (x : Option V) where
      postfix-alone : (m : Mk) (i : ℕ) (f : Fixity) (next : Meaning Tok Cx St Er (Turn V)) → i < s.number
          → Answers Rested rested-later next
          → Answers Rested rested-later (TryPostfix s operand start least at x below m i f next)
      postfix-alone m i (Prefix power) next l h = h
      postfix-alone m i (Postfix power) next l h = λ b o t z a. elim z [ inl k ↦ attempt-answers Rested rested-later m i _ next l h b o t k.1 a | inr k ↦ h b o t k.1 a ]
      postfix-alone m i (Infix left right chains) next l h = h

      infix-alone : (m : Mk) (i : ℕ) (f : Fixity) (next : Meaning Tok Cx St Er (Turn V)) → i < s.number
          → Answers Rested rested-later next
          → Answers Rested rested-later (TryInfix s operand start least at x below m i f next)
      infix-alone m i (Prefix power) next l h = h
      infix-alone m i (Postfix power) next l h = h
      infix-alone m i (Infix left right chains) next l h = λ b o t z a. elim z [ inl k ↦ attempt-answers Rested rested-later m i _ next l h b o t k.2 a | inr k ↦ h b o t k.1 a ]

    head-alone : Answers AtomAfter atom-later (Head s operand start)
    head-alone b o t h a =
        elim h.run [
          | inl r ↦ absurd (subst IsAnswer r.1 a)
          | inr k ↦ from-answers AtomAfter atom-later (TryPrefix s operand start (s.mark b.state))
              (prefix-alone (s.mark b.state)) s.number 0 s.atom (omega arith) atom-reads b o t k a
        ]

    round-alone : (least below : ℕ) (x : Option V) → Answers Rested rested-later (Round s operand start least below x)
    round-alone least below x b o t h a =
        elim h.run [
          | inl r ↦ absurd (subst IsAnswer r.1 a)
          | inr k ↦
              let m = s.mark b.state in
              from-answers Rested rested-later (TryPostfix s operand start least b.start x below m) (postfix-alone least b.start below x m) s.number 0 _ (omega arith)
              (from-answers Rested rested-later (TryInfix s operand start least b.start x below m)
              (infix-alone least b.start below x m) s.number 0 (Given (Some Rests)) (omega arith) given-rests)
              b o t k a
        ]

    -- rounds that do nothing leave the value
    record Left (x : Option V) (b : Beginning Tok Cx St) (o : Outcome V Er St) : Type 0 where
      pub verdict : o.verdict ≡ Yes x
      pub end : o.end ≡ b.start
      pub emitted : o.emitted ≡ []

    after_rest : (x : Option V) (next : ℕ → Option V → Meaning Tok Cx St Er V) (b : Beginning Tok Cx St)
        (p : Outcome (Turn V) Er St) (o : Outcome V Er St) (v : Verdict (Turn V) Er)
        → p.verdict ≡ v → (IsAnswer p.verdict → Rested b p) → Follows v (AfterTurn x next) b p o → IsAnswer o.verdict
        → Left x b o
    after_rest x next b p o (Yes (Some Rests)) e h f a =
        let r : Rested b p = h (rw e tt) in
        let q = ap (λ (z : Outcome V Er St). z.verdict) f.1 in
        let c = ap (λ (z : Outcome V Er St). z.end) f.1 in
        let d = ap (λ (z : Outcome V Er St). z.emitted) f.1 in
        record {
          verdict = ap (λ (z : Outcome V Er St). z.verdict) f.2 ∙ q;
          end = ap (λ (z : Outcome V Er St). z.end) f.2 ∙ (c ∙ r.end);
          emitted = ap (λ (z : Outcome V Er St). z.emitted) f.2 ∙ (ap (λ es. es ++ f.0.emitted) r.emitted ∙ d);
        }
    after_rest x next b p o (Yes (Some (Goes below y))) e h f a = (let r = (h (rw e tt)).verdict in let no : ⊥ = cc in absurd no)
    after_rest x next b p o (Yes None) e h f a = absurd f.1
    after_rest x next b p o No e h f a = (let r = (h (rw e tt)).verdict in let no : ⊥ = cc in absurd no)
    after_rest x next b p o (Halt z) e h f a = (let g : o.verdict ≡ Halt z = ap (λ (y : Outcome V Er St). y.verdict) f in absurd (subst IsAnswer g a))
    after_rest x next b p o (Clash z) e h f a = (let g : o.verdict ≡ Clash z = ap (λ (y : Outcome V Er St). y.verdict) f in absurd (subst IsAnswer g a))

    rounds-alone : (least n below : ℕ) (x : Option V) (b : Beginning Tok Cx St) (o : Outcome V Er St) → b.tokens ≡ ts → Rounds s operand start least n below x b o → IsAnswer o.verdict → Left x b o
    rounds-alone least zero below x b o t m a = absurd m
    rounds-alone least (suc n) below x b o t m a = after_rest x (Rounds s operand start least n) b m.first o m.first.verdict refl (round-alone least below x b m.first t m.meant) m.follows a

    atom-then : (least : ℕ) (b : Beginning Tok Cx St) (p o : Outcome V Er St) (v : Verdict V Er) → b.tokens ≡ ts
        → p.verdict ≡ v → (IsAnswer p.verdict → AtomAfter b p)
        → Follows v (AllRounds s operand start least any_power) b p o → IsAnswer o.verdict → IsAtomAlone s b o
    atom-then least b p o (Yes x) t e h f a =
        let r : AtomAfter b p = h (rw e tt) in
        let y : o.verdict ≡ f.0.verdict = ap (λ (z : Outcome V Er St). z.verdict) f.2 in
        let q : Left x (from b p) f.0 = rounds-alone least f.1.rounds any_power x (from b p) f.0 t f.1.run (subst IsAnswer y a) in
        record {
          state = r.state;
          read = r.read;
          meant = r.meant;
          verdict = y ∙ (q.verdict ∙ (sym e ∙ ap (λ (z : Outcome V Er St). z.verdict) r.is));
          end = ap (λ (z : Outcome V Er St). z.end) f.2 ∙ (q.end ∙ ap (λ (z : Outcome V Er St). z.end) r.is);
          emitted = ap (λ (z : Outcome V Er St). z.emitted) f.2 ∙ (ap (λ es. p.emitted ++ es) q.emitted ∙ (append-nil p.emitted ∙ ap (λ (z : Outcome V Er St). z.emitted) r.is));
          before = r.before;
          after = f.0.events;
          events = ap (λ (z : Outcome V Er St). z.events) f.2 ∙ ap (λ (z : Outcome V Er St). z.events ++ f.0.events) r.is;
        }
    atom-then least b p o No t e h f a =
        let r : AtomAfter b p = h (rw e tt) in
        record {
          state = r.state;
          read = r.read;
          meant = r.meant;
          verdict = ap (λ (z : Outcome V Er St). z.verdict) f ∙ (sym e ∙ ap (λ (z : Outcome V Er St). z.verdict) r.is);
          end = ap (λ (z : Outcome V Er St). z.end) f ∙ ap (λ (z : Outcome V Er St). z.end) r.is;
          emitted = ap (λ (z : Outcome V Er St). z.emitted) f ∙ ap (λ (z : Outcome V Er St). z.emitted) r.is;
          before = r.before;
          after = [];
          events = ap (λ (z : Outcome V Er St). z.events) f ∙ (ap (λ (z : Outcome V Er St). z.events) r.is ∙ sym (append-nil (r.before ++ r.read.events)));
        }
    atom-then least b p o (Halt z) t e h f a = (let g : o.verdict ≡ Halt z = ap (λ (y : Outcome V Er St). y.verdict) f in absurd (subst IsAnswer g a))
    atom-then least b p o (Clash z) t e h f a = (let g : o.verdict ≡ Clash z = ap (λ (y : Outcome V Er St). y.verdict) f in absurd (subst IsAnswer g a))

  level-alone : (operand : ℕ → Meaning Tok Cx St Er V) (least : ℕ) (b : Beginning Tok Cx St) (o : Outcome V Er St) → b.tokens ≡ ts → Level s operand least b o → IsAnswer o.verdict → IsAtomAlone s b o
  level-alone operand least b o t m a = atom-then operand b.start least b m.run.first o m.run.first.verdict t refl (head-alone operand b.start b m.run.first t m.run.meant) m.run.follows a

  below-alone : (n least : ℕ) (b : Beginning Tok Cx St) (o : Outcome V Er St) → b.tokens ≡ ts → Below s n least b o → IsAnswer o.verdict → IsAtomAlone s b o
  below-alone zero least b o t m a = absurd m
  below-alone (suc n) least b o t m a = elim m [ inl k ↦ level-alone (Below s n) least b o t k.1 a | inr k ↦ below-alone n least b o t k.1 a ]

module _ {Tok Cx St Mk Er F V : Type 0} (s : Syntax Tok Cx St Mk Er F V) where
  pub alone_is_atom : (least : ℕ) → AloneIsAtom s least
  alone_is_atom least b o none m a = below-alone s b.tokens none (suc (length b.tokens.list)) least b o refl m.run a
