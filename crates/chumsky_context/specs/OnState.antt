-- Runs on a state of their own.
-- Main words: OnState, OnCopy. Laws: OnStateLaws.antt.
use Rattle.std.specs.Prelude.{◌≡◌, ◌⊎◌}
use Rattle.chumsky_input.specs.Outcome.{Meaning, Beginning, Outcome}
use Rattle.chumsky_parser.specs.Failure.{Refuses}

-- the same beginning, in another state
abbrev pub begun_in : {Tok Cx St T : Type 0} → T → Beginning Tok Cx St → Beginning Tok Cx T
begun_in s b = record { wanted = b.wanted; tokens = b.tokens; start = b.start; context = b.context; state = s }

module _ {Tok Cx St T Er V : Type 0} where
  -- the part on the state s, which alone is told of tokens and restored; the state of the run stays as it was
  pub record OnState (part : Meaning Tok Cx T Er V) (s : T) (b : Beginning Tok Cx St) (o : Outcome V Er St) : Type 0 where
    pub inner : Outcome V Er T
    pub runs : part (begun_in s b) inner
    pub is : o ≡ record { verdict = inner.verdict; end = inner.end; state = b.state; events = inner.events; emitted = inner.emitted }

module _ {Tok Cx St T S Er V : Type 0} (copies : S → Type 0) (safe : Type 0) (seen : S → T) where
  -- the part on a copy of a state; or the copy needs memory that is refused
  pub record OnCopy (part : Meaning Tok Cx T Er V) (b : Beginning Tok Cx St) (o : Outcome V Er St) : Type 0 where
    pub cases : Refuses (safe → ⊥) b.state o ⊎ ((s : S) × copies s × OnState part (seen s) b o)

-- any two copies count as the same
abbrev pub CopiesCount : {S T : Type 0} → (S → Type 0) → (S → T) → Type 0
CopiesCount {S} copies seen = (s t : S) → copies s → copies t → seen s ≡ seen t
