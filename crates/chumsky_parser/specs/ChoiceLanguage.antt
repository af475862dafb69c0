-- The language of a choice: a word of one alternative, which those before it leave.
-- Main words: or_language, FailsOn. Laws: either-accepts, or-accepts, last-accepts, next-accepts. Read first: Language.antt, Words.antt, Choice.antt.
use Rattle.std.proofs.Common.{◌≡◌, ℕ, zero, suc, true, ◌&&◌, List, [], ◌∷◌, ◌++◌, ◌⊎◌, inl, inr, refl, sym, subst}
use Rattle.chumsky_input.specs.Outcome.{Meaning, Beginning, Outcome, Verdict, Yes, No, Halt, Clash}
use Rattle.chumsky_parser.specs.Choice.{GoneOn, ElseFrom, AttemptFrom, Stands, FirstFrom, OrElse, FirstOf}
use Rattle.chumsky_parser.specs.ChoiceEndings.{or-by}
use Rattle.chumsky_parser.specs.Ending.{DoesNotEnd, Reads}
use Rattle.chumsky_parser.specs.FurtherLaws.{else-further, else-decided}
use Rattle.chumsky_parser.specs.Language.{Language, Accepts, sooner}
use Rattle.chumsky_parser.specs.LanguageLaws.{fewer-accepts}
use Rattle.chumsky_parser.specs.Memory.{NeverOutOfMemory}
use Rattle.chumsky_parser.specs.MemoryLaws.{or_else-spares}
use Rattle.chumsky_parser.specs.Progress.{Moves}
use Rattle.chumsky_parser.specs.ProgressLaws.{both-true, or-moves}
use Rattle.chumsky_parser.specs.Words.{either_ends, ElseValue}
use Rattle.chumsky_parser.specs.WordsLaws.{or-takes_only, or-gives_only, or-takes_each}

-- the first ends on no word of the second, whatever follows it that may
abbrev pub FailsOn : {Tok V W : Type 0} → Language Tok V → Language Tok W → Type 0
FailsOn {Tok} F G = (w rest : List Tok) → G.word w → G.follow rest → DoesNotEnd (F.ends (w ++ rest))

-- a word of the first, or one of the second
abbrev pub or_language : {Tok V : Type 0} → Language Tok V → Language Tok V → Language Tok V
or_language F G = record {
  said = F.said && G.said;
  ends = either_ends F.ends G.ends;
  value = λ ts v. ElseValue (F.ends ts) (F.value ts v) (G.value ts v);
  word = λ w. F.word w ⊎ G.word w;
  stands_for = λ w v. F.stands_for w v ⊎ G.stands_for w v;
  follow = λ rest. F.follow rest × G.follow rest;
  unambiguous = F.unambiguous × G.unambiguous × FailsOn F G;
  refused_from = sooner F.refused_from G.refused_from;
  moves = F.moves && G.moves;
  takes_no_memory = F.takes_no_memory × G.takes_no_memory;
}

module _ {Tok Cx St Er V : Type 0} (first second m : Meaning Tok Cx St Er V) (F G : Language Tok V) where
  -- that what tries one part and then another ends where they do, and moves and takes memory only as they do
  pub record IsEither (safe : Type 0) : Type 0 where
    pub reads : Reads first F.ends F.value → Reads second G.ends G.value → Reads m (either_ends F.ends G.ends) (λ ts v. ElseValue (F.ends ts) (F.value ts v) (G.value ts v))
    pub moving : (F.moves ≡ true → Moves first) → (G.moves ≡ true → Moves second) → (F.moves && G.moves) ≡ true → Moves m
    pub sparing : safe → NeverOutOfMemory first → NeverOutOfMemory second → NeverOutOfMemory m

  pub either-accepts : {safe spare : Type 0} → (spare → safe) → IsEither safe → Accepts first F spare → Accepts second G spare → Accepts m (or_language F G) spare
  either-accepts still i h k = record {
    described = λ s.
        let t = both-true F.said G.said s in
        let d = h.described t.0 in
        let e = k.described t.1 in
        record {
          reads = i.reads d.reads e.reads;
          only = or-takes_only F.ends G.ends F.word G.word d.only e.only;
          given = or-gives_only F.ends G.ends F.value G.value F.stands_for G.stands_for d.given e.given;
          each = λ u. or-takes_each F.ends G.ends F.word G.word F.follow G.follow (d.each u.0) (e.each u.1) u.2;
          decided = else-decided F.ends G.ends F.refused_from G.refused_from d.decided e.decided;
          further = λ m. let b = both-true F.moves G.moves m in else-further F.ends G.ends (d.further b.0) (e.further b.1);
        };
    moving = i.moving h.moving k.moving;
    sparing = λ q t. i.sparing (still q) (h.sparing q t.0) (k.sparing q t.1);
  }

module _ {Tok Cx St Mk Er V : Type 0} (mark : St → Mk) (back : St → Mk → St) {safe spare : Type 0} (still : spare → safe) where
  module _ (first second : Meaning Tok Cx St Er V) where
    -- `first.or(second)`, where a mark and going back take no memory if errors and states don't
    pub or-accepts : {F G : Language Tok V} → Accepts first F spare → Accepts second G spare → Accepts (OrElse mark back safe first second) (or_language F G) spare
    or-accepts {F} {G} = either-accepts first second (OrElse mark back safe first second) F G still (record {
      reads = or-by mark back safe first second F.ends G.ends F.value G.value;
      moving = or-moves mark back safe first second F.moves G.moves;
      sparing = or_else-spares mark back safe first second;
    })

    -- the first, and by some mark the second
    abbrev ByAMark : Meaning Tok Cx St Er V
    ByAMark b o = (m : Mk) × AttemptFrom back safe m first second b o

    by_a_mark-accepts : {F G : Language Tok V} → Accepts first F spare → Accepts second G spare → Accepts ByAMark (or_language F G) spare
    by_a_mark-accepts {F} {G} = either-accepts first second ByAMark F G still (record {
      reads = λ h k. record { here = λ b w o x. (or-by (λ _. x.0) back safe first second F.ends G.ends F.value G.value h k).here b w o (record { cases = inr x.1 }) };
      moving = λ h k e b o x. or-moves (λ _. x.0) back safe first second F.moves G.moves h k e b o (record { cases = inr x.1 });
      sparing = λ q h k b o x. or_else-spares (λ _. x.0) back safe first second q h k b o (record { cases = inr x.1 });
    })

  -- the first of several by some mark
  abbrev FirstByAMark : Meaning Tok Cx St Er V → List (Meaning Tok Cx St Er V) → Meaning Tok Cx St Er V
  FirstByAMark first others b o = (m : Mk) × FirstFrom back safe m first others b o

  -- alternatives in order accept a language
  pub record AcceptInOrder (first : Meaning Tok Cx St Er V) (others : List (Meaning Tok Cx St Er V)) (l : Language Tok V) : Type 0 where
    later : Accepts (FirstByAMark first others) l spare
    pub first_of : Accepts (FirstOf mark back safe first others) l spare

  module _ (first : Meaning Tok Cx St Er V) {F : Language Tok V} (h : Accepts first F spare) where
    last_later : (b : Beginning Tok Cx St) (o : Outcome V Er St) (m : Mk) (k : ℕ) → Stands back safe m k first [] b o → first b o
    last_later b o m zero s = s.0
    last_later b o m (suc k) s = absurd s

    -- an alternative by itself, the last
    pub last-accepts : AcceptInOrder first [] F
    last-accepts = record {
      later = fewer-accepts (FirstByAMark first []) first (λ b o x. last_later b o x.0 x.1.k x.1.stands) F h;
      first_of = fewer-accepts (FirstOf mark back safe first []) first (λ b o x. x.cases) F h;
    }

    module _ (next : Meaning Tok Cx St Er V) (others : List (Meaning Tok Cx St Er V)) {G : Language Tok V} (k : AcceptInOrder next others G) where
      -- the first stands, unless it says no
      stays : (m : Mk) (b : Beginning Tok Cx St) (o : Outcome V Er St) (u : Verdict V Er) → (u ≡ No → ⊥) → ElseFrom back safe m u (FirstByAMark next others) b o o
      stays m b o (Yes v) n = refl
      stays m b o No n = absurd (n refl)
      stays m b o (Halt s) n = refl
      stays m b o (Clash e) n = refl

      attempted : (m : Mk) (i : ℕ) (b : Beginning Tok Cx St) (o : Outcome V Er St) → Stands back safe m i first (next ∷ others) b o → AttemptFrom back safe m first (FirstByAMark next others) b o
      attempted m zero b o s =
          let never : o.verdict ≡ No → ⊥ = λ e. absurd (cc (s.1 e)) in
          record { attempt = o; meant = s.0; then_else = stays m b o o.verdict never }
      attempted m (suc i) b o s =
          let p : Outcome V Er St = s.0 in
          let gone : GoneOn back safe m p (FirstByAMark next others) b o = elim s.3 [ inl r ↦ inl r | inr q ↦ inr (q.0, (m, record { k = i; stands = q.1 }), q.2) ] in
          record { attempt = p; meant = s.1; then_else = subst (λ u. ElseFrom back safe m u (FirstByAMark next others) b p o) (sym s.2) gone }

      -- an alternative before others
      pub next-accepts : AcceptInOrder first (next ∷ others) (or_language F G)
      next-accepts = record {
        later =
            fewer-accepts (FirstByAMark first (next ∷ others)) (ByAMark first (FirstByAMark next others))
            (λ b o x. (x.0, attempted x.0 x.1.k b o x.1.stands)) (or_language F G)
            (by_a_mark-accepts first (FirstByAMark next others) h k.later);
        first_of = fewer-accepts (FirstOf mark back safe first (next ∷ others)) (OrElse mark back safe first (FirstByAMark next others))
            (λ b o x. record { cases = elim x.cases [ inl r ↦ inl r | inr y ↦ inr (attempted (mark b.state) y.k b o y.stands) ] })
            (or_language F G) (or-accepts first (FirstByAMark next others) h k.later);
      }
