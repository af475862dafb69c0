-- Parsers that are configured by the context.
-- Main words: Sets, Configured, IsDeterministic. Laws: ConfiguredLaws.antt. Items: ConfiguredItems.antt, TriedItems.antt.
use Rattle.std.specs.Prelude.{◌≡◌, Option, Some, None}
use Rattle.std.specs.Borrow.{Bor}
use Rattle.std.specs.Fn.{Shared, FnReturns}
use Rattle.chumsky_input.specs.Outcome.{Meaning, Beginning, Outcome}

-- the value that is set, else the other one
abbrev pub set_or : {V : Type 0} → Option V → V → V
set_or (Some v) w = v
set_or None w = w

-- the value that is set, else that of the other, if any
abbrev pub or_set : {V : Type 0} → Option V → Option V → Option V
or_set (Some v) w = Some v
or_set None w = w

-- the closure f, called with a and a reference to x, may return r
pub record ReturnsWith {F A X R : Type 0} (calls : Shared F (A × (Bor X × Unit {0})) R) (f : F) (a : A) (x : X) (r : R) : Type 0 where
  pub shown : Bor X
  pub shows : shown.now ≡ x
  pub says : FnReturns calls f (a, (shown, tt)) r

-- the closure f, called with a, a reference to x and s, may return r
pub record ReturnsWithin {F A X S R : Type 0} (calls : Shared F (A × (Bor X × (S × Unit {0}))) R) (f : F) (a : A) (x : X) (s : S) (r : R) : Type 0 where
  pub shown : Bor X
  pub shows : shown.now ≡ x
  pub says : FnReturns calls f (a, (shown, (s, tt))) r

module _ {C Cx : Type 0} where
  -- c is a configuration that is made of a default one under the context x
  pub record Sets (default : C → Type 0) (gives : C → Cx → C → Type 0) (x : Cx) (c : C) : Type 0 where
    pub start : C
    pub is_default : default start
    pub made : gives start x c

  -- under one context one thing is made, whatever is made: a configuration, or another context
  abbrev pub IsDeterministic : (Cx → C → Type 0) → Type 0
  IsDeterministic sets = (x : Cx) (c d : C) → sets x c → sets x d → c ≡ d

-- two values that count as the same by some configuration
pub record SameByConfig {C V : Type 0} (same : C → V → V → Type 0) (v w : V) : Type 0 where
  pub config : C
  pub are : same config v w

module _ {Tok Cx St Er C V : Type 0} where
  -- the part by a configuration that is made under the context of the run
  pub record Configured (sets : Cx → C → Type 0) (part : C → Meaning Tok Cx St Er V) (b : Beginning Tok Cx St) (o : Outcome V Er St) : Type 0 where
    pub config : C
    pub made : sets b.context config
    pub runs : part config b o
