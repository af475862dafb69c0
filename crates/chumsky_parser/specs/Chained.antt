-- One part after another.
use Rattle.std.specs.Prelude.{◌≡◌, Bool, Option, Some, None, [], ◌++◌}
use Rattle.chumsky_input.specs.Outcome.{Meaning, Beginning, Outcome, Verdict, Yes, No, Halt, Clash}

abbrev pub both : {V W : Type 0} → Option V → Option W → Option (V × W)
both (Some v) (Some w) = Some (v, w)
both (Some v) None = None
both None w = None

-- both parts are the same
abbrev pub SamePair : {V W : Type 0} → (V → V → Type 0) → (W → W → Type 0) → V × W → V × W → Type 0
SamePair sv sw p q = sv p.0 q.0 × sw p.1 q.1

module _ {St Er : Type 0} where
  -- the outcome with another verdict
  abbrev pub retold : {V W : Type 0} → Verdict W Er → Outcome V Er St → Outcome W Er St
  retold v p = record { verdict = v; end = p.end; state = p.state; events = p.events; emitted = p.emitted }

  -- what q did, after what p did
  abbrev pub after : {V W : Type 0} → Outcome V Er St → Outcome W Er St → Outcome W Er St
  after p q = record q { events = p.events ++ q.events; emitted = p.emitted ++ q.emitted }

module _ {Tok Cx St Er : Type 0} where
  -- from where an outcome ended
  abbrev pub from : {V : Type 0} → Beginning Tok Cx St → Outcome V Er St → Beginning Tok Cx St
  from b p = record b { start = p.end; state = p.state }

  -- after a yes what follows, and any other verdict stands
  abbrev pub Follows : {V W : Type 0} → Verdict V Er → (Option V → Meaning Tok Cx St Er W) → Beginning Tok Cx St → Outcome V Er St → Outcome W Er St → Type 0
  Follows {V} {W} (Yes v) next b p o = (q : Outcome W Er St) × next v (from b p) q × (o ≡ after p q)
  Follows No next b p o = o ≡ retold No p
  Follows (Halt s) next b p o = o ≡ retold (Halt s) p
  Follows (Clash e) next b p o = o ≡ retold (Clash e) p

  -- a part, and then what follows its value
  pub record Chained {V W : Type 0} (part : Meaning Tok Cx St Er V) (next : Option V → Meaning Tok Cx St Er W) (b : Beginning Tok Cx St) (o : Outcome W Er St) : Type 0 where
    pub first : Outcome V Er St
    pub meant : part b first
    pub follows : Follows first.verdict next b first o

  -- yes, and nothing done
  abbrev pub Given : {V : Type 0} → Option V → Meaning Tok Cx St Er V
  Given v b o = o ≡ record { verdict = Yes v; end = b.start; state = b.state; events = []; emitted = [] }

  -- both parts, each beginning where the former ended
  abbrev pub Sequence : {V W : Type 0} → Meaning Tok Cx St Er V → Meaning Tok Cx St Er W → Meaning Tok Cx St Er (V × W)
  Sequence first second = Chained first (λ v. Chained second (λ w. Given (both v w)))

module _ {Tok Cx St Er V : Type 0} where
  -- the part, run for its value or without one whatever the whole is asked for
  pub record Asked (wanted : Bool) (part : Meaning Tok Cx St Er V) (b : Beginning Tok Cx St) (o : Outcome V Er St) : Type 0 where
    pub run : part (record b { wanted = wanted }) o
