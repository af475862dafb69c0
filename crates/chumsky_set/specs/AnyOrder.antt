-- Parsers in any order: rounds over those that are not taken yet, and then what is left.
use Rattle.std.specs.Prelude.{◌≡◌, ℕ, ◌<◌, ◌≤◌, ◌+◌, Option, Some, None, option_map, List, [], ◌∷◌, ◌⊎◌, true, length}
use Rattle.chumsky_input.specs.Outcome.{Meaning, Beginning, Outcome}
use Rattle.chumsky_parser.specs.Chained.{Chained, Given, Sequence, both}
use Rattle.chumsky_parser.specs.Failure.{Refuses, SaysNo, wanting}
use Rattle.chumsky_parser.specs.Choice.{OrElse}

-- what is taken of a part: nothing yet, or its value, where one is wanted
abbrev pub Slot : Type 0 → Type 0
Slot V = Option (Option V)

-- one for a slot with nothing yet
abbrev pub still : {V : Type 0} → Option V → ℕ
still (Some v) = 0
still None = 1

-- what one pass over some parts may do, from what is taken of them to what is taken then; what the last pass may do,
-- which gives their values; and how many of them are not taken
pub record Row (Tok Cx St Er T V : Type 0) : Type 1 where
  pub pass : T → Meaning Tok Cx St Er T
  pub last : T → Meaning Tok Cx St Er V
  pub left : T → ℕ

module _ {Tok Cx St Er V : Type 0} where
  -- a value for a slot where the run stands past a place; else no
  abbrev pub Past : ℕ → Option V → Meaning Tok Cx St Er (Slot V)
  Past place v b o = ((place < b.start) × Given (Some (Some v)) b o) ⊎ ((b.start ≤ place) × SaysNo b o)

  -- a part whose yes counts only where it has moved
  pub record Moving (part : Meaning Tok Cx St Er V) (b : Beginning Tok Cx St) (o : Outcome (Slot V) Er St) : Type 0 where
    pub run : Chained part (Past b.start) b o

  -- a part that is not taken runs, and what is taken stays
  abbrev pub Missing : Meaning Tok Cx St Er V → Slot V → Meaning Tok Cx St Er V
  Missing part (Some v) = Given v
  Missing part None = part

module _ {Tok Cx St Mk Er V : Type 0} (mark : St → Mk) (back : St → Mk → St) (safe : Type 0) where
  -- a part is taken where it says yes and has moved, and gone back from otherwise; what is taken stays
  abbrev pub Offered : Meaning Tok Cx St Er V → Slot V → Meaning Tok Cx St Er (Slot V)
  Offered part (Some v) = Given (Some (Some v))
  Offered part None = OrElse mark back safe (Moving part) (Given (Some None))

module _ {Tok Cx St Er : Type 0} where
  -- a row of no parts
  abbrev pub no_part : Row Tok Cx St Er (Unit {0}) (Unit {0})
  no_part = record { pass = λ t. Given (Some t); last = λ t. Given (Some t); left = λ t. 0 }

module _ {Tok Cx St Mk Er : Type 0} (mark : St → Mk) (back : St → Mk → St) (safe : Type 0) where
  -- a part before a row of others
  abbrev pub part_and : {T V W : Type 0} → Meaning Tok Cx St Er V → Row Tok Cx St Er T W → Row Tok Cx St Er (Slot V × T) (V × W)
  part_and part others =
      record {
        pass = λ t. Sequence (Offered mark back safe part t.0) (others.pass t.1);
        last = λ t. Sequence (Missing part t.0) (others.last t.1);
        left = λ t. still t.0 + others.left t.1;
      }

module _ {Tok Cx St Er T V : Type 0} (row : Row Tok Cx St Er T V) where
  -- after a round that took no part, the last pass
  abbrev pub TookNone : T → Option T → Meaning Tok Cx St Er V
  TookNone t None b o = ⊥
  TookNone t (Some u) b o = (row.left u ≡ row.left t) × row.last u b o

  -- after a round that took a part and left u taken, what follows
  abbrev pub TookSome : T → T → Meaning Tok Cx St Er V → Option T → Meaning Tok Cx St Er V
  TookSome t u next None b o = ⊥
  TookSome t u next (Some v) b o = (v ≡ u) × (row.left v < row.left t) × next b o

  -- rounds, of each of which the list says what it leaves taken, each taking a part; then a round that takes none, and
  -- the last pass
  abbrev pub Rounds : List T → T → Meaning Tok Cx St Er V
  Rounds [] t = Chained (row.pass t) (TookNone t)
  Rounds (u ∷ us) t = Chained (row.pass t) (TookSome t u (Rounds us u))

  -- some rounds, and the last pass
  pub record AnyOrder (t : T) (b : Beginning Tok Cx St) (o : Outcome V Er St) : Type 0 where
    pub rounds : List T
    pub run : Rounds rounds t b o

  -- every outcome of a meaning is one of so many rounds at most, the one that takes none among them, the last pass, and
  -- then what follows its values
  abbrev pub WithinRounds : {W : Type 0} → ℕ → T → (Option V → Meaning Tok Cx St Er W) → Meaning Tok Cx St Er W → Type 0
  WithinRounds {W} n none next meaning = (b : Beginning Tok Cx St) (o : Outcome W Er St) → meaning b o
      → (rounds : List T) × (length rounds < n) × Chained (Rounds rounds none) next b o

-- a value before others, where all are there
abbrev pub with_first : {Y : Type 0} → Option Y → Option (List Y) → Option (List Y)
with_first y ys = option_map (λ p. p.0 ∷ p.1) (both y ys)

-- how many have nothing yet
abbrev pub all_still : {V : Type 0} → List (Slot V) → ℕ
all_still [] = 0
all_still (s ∷ ss) = still s + all_still ss

module _ {X Tok Cx St Er V Y : Type 0} (turn : X → Slot V → Meaning Tok Cx St Er Y) where
  -- the turns of parts, each with its slot, each beginning where the former ended: what they give in order, and of no
  -- part what is given as empty
  abbrev pub Turns : List X → List (Slot V) → Option (List Y) → Meaning Tok Cx St Er (List Y)
  Turns [] slots empty b o = Given empty b o
  Turns (part ∷ parts) [] empty b o = ⊥
  Turns (part ∷ parts) (slot ∷ slots) empty b o = Chained (turn part slot) (λ y. Chained (Turns parts slots empty) (λ ys. Given (with_first y ys))) b o

module _ {X Tok Cx St Mk Er V : Type 0} (mark : St → Mk) (back : St → Mk → St) (safe : Type 0) (meaning : X → Meaning Tok Cx St Er V) where
  -- a row of parts of one kind; the list of their values may want memory
  abbrev pub each_part : List X → Row Tok Cx St Er (List (Slot V)) (List V)
  each_part parts =
      record {
        pass = λ t. Turns (λ x. Offered mark back safe (meaning x)) parts t (Some []);
        last = λ t b o. Refuses ((b.wanted ≡ true) × (length parts ≡ 0 → ⊥)) b.state o ⊎ Turns (λ x. Missing (meaning x)) parts t (wanting b.wanted []) b o;
        left = λ t. all_still t;
      }
