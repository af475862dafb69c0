-- Tokens up to the delimiter that closes what is open.
-- Main words: role_found, TakesFitting, TakesNested, OutOnlyToNest. Read first: Just.antt of the primitives.
use Rattle.std.specs.Prelude.{◌≡◌, ◌≤◌, ℕ, zero, suc, Bool, cond, Option, Some, None, List, [], ◌∷◌, ◌++◌, ◌⊎◌, ⊤, slice_get, map}
use Rattle.std.specs.List.{list_any}
use Rattle.chumsky_input.specs.declared.error.Error as error_trait
use Rattle.chumsky_input.specs.declared.inspector.Inspector as inspector_trait
use Rattle.chumsky_input.specs.declared.input.Input as input_trait
use Rattle.chumsky_input.specs.declared.stop.Stop.TheVariants.{Memory}
use Rattle.chumsky_input.specs.Layout.{Layout}
use Rattle.chumsky_input.specs.Wanted as wanted
use Rattle.chumsky_input.specs.Outcome.{Meaning, Beginning, Outcome, Yes, Halt}
use Rattle.chumsky_parser.specs.Chained.{Chained, Given}
use Rattle.chumsky_parser.specs.Failure.{Refuses, Misses, expects}
use Rattle.chumsky_primitive.specs.Just.{past, told}
use Rattle.chumsky_recovery.specs.declared.nested_delimiters.Role.{Role}
use Rattle.chumsky_recovery.specs.declared.nested_delimiters.Role.TheVariants as role

-- a delimiter has a token among its members
abbrev pub has_token : {T Tok : Type 0} → (Tok → Tok → Bool) → (T → List Tok) → T → Tok → Bool
has_token equal members d t = list_any (λ x. equal x t) (members d)

-- the last of a list, and those before it
abbrev pub before_last : {X : Type 0} → X → Option (X × List X) → Option (X × List X)
before_last x None = Some (x, [])
before_last x (Some p) = Some (p.0, x ∷ p.1)

abbrev pub popped : {X : Type 0} → List X → Option (X × List X)
popped [] = None
popped (x ∷ xs) = before_last x (popped xs)

module _ {T Tok : Type 0} (has : T → Tok → Bool) where
  -- the role of a token among pairs of delimiters: the first that has it at its start is opened; none fits that has it at its end
  abbrev pub role_among : List (T × T) → Tok → Option (Role T)
  role_among [] t = Some role.Other
  role_among (p ∷ ps) t = cond (has p.0 t) (Some (role.Opens p.1)) (cond (has p.1 t) None (role_among ps t))

  -- the role of what was found, where this delimiter closes the innermost pair; nothing fits the end of input
  abbrev pub role_found : List (T × T) → T → Option Tok → Option (Role T)
  role_found pairs innermost None = None
  role_found pairs innermost (Some t) = cond (has innermost t) (Some role.Closes) (role_among pairs t)

  -- one of the tokens from here on opens a delimiter
  pub record SomeOpens (pairs : List (T × T)) (ts : Layout Tok) (here : ℕ) : Type 0 where
    pub place : ℕ
    pub onward : here ≤ place
    pub token : Tok
    pub closing : T
    pub stands : slice_get ts.list place ≡ Some token
    pub opens : role_among pairs token ≡ Some (role.Opens closing)

  -- a refusal for memory is one where a token opens a delimiter
  abbrev pub OutOnlyToNest : {Cx St Er V : Type 0} → List (T × T) → Meaning Tok Cx St Er V → Type 0
  OutOnlyToNest {Cx} {St} {Er} {V} pairs m = (b : Beginning Tok Cx St) (o : Outcome V Er St) → m b o → o.verdict ≡ Halt Memory → SomeOpens pairs b.tokens b.start

module _ {I Tok Sp Cu Er St Mk Cx T : Type 0} (source : input_trait.Ghosts I Cu Tok Sp)
    (errors : error_trait.Ghosts Er I Tok Sp) (states : inspector_trait.Ghosts St I Mk Tok Sp) (has : T → Tok → Bool)
    (members : T → List Tok) (pairs : List (T × T)) where
  -- a token that fits is taken; what does not is gone back from, where the innermost closing delimiter was expected
  abbrev pub Fits : Option (Role T) → T → Option Tok → Meaning Tok Cx states.Seen errors.Seen (Role T)
  Fits (Some r) innermost found b o = o ≡ record { verdict = Yes (Some r); end = past found b.start; state = told states.after found b.state; events = []; emitted = [] }
  Fits None innermost found b o =
      let gone = told states.after found b.state in
      Refuses (states.takes_no_memory → ⊥) gone o
      ⊎ Misses errors.takes_no_memory (expects source errors b.tokens (map wanted.Token (members innermost)) found b.start (past found b.start)) b.start (states.back gone (states.mark b.state)) o

  -- the next token, by its role
  pub record TakesFitting (innermost : T) (b : Beginning Tok Cx states.Seen) (o : Outcome (Role T) errors.Seen states.Seen) : Type 0 where
    pub by_token : Refuses (states.takes_no_memory → ⊥) b.state o ⊎ Fits (role_found has pairs innermost (slice_get b.tokens.list b.start)) innermost (slice_get b.tokens.list b.start) b o

  -- after the innermost is closed: the end where nothing else is open, else the last that is
  abbrev pub AfterClose : (T → List T → Meaning Tok Cx states.Seen errors.Seen (Unit {0})) → Option (T × List T) → Meaning Tok Cx states.Seen errors.Seen (Unit {0})
  AfterClose next None = Given None
  AfterClose next (Some p) = next p.0 p.1

  -- after a token: with one closed, one opened, for which memory may be wanting, or none
  abbrev pub AfterRole : (T → List T → Meaning Tok Cx states.Seen errors.Seen (Unit {0})) → T → List T → Option (Role T) → Meaning Tok Cx states.Seen errors.Seen (Unit {0})
  AfterRole next innermost outer_ones (Some role.Closes) = AfterClose next (popped outer_ones)
  AfterRole next innermost outer_ones (Some (role.Opens d)) = λ b o. Refuses ⊤ b.state o ⊎ next d (outer_ones ++ innermost ∷ []) b o
  AfterRole next innermost outer_ones (Some role.Other) = next innermost outer_ones
  AfterRole next innermost outer_ones None = λ b o. ⊥

  -- at most this many tokens, of which the last closes all that is open
  abbrev pub TokensUpTo : ℕ → T → List T → Meaning Tok Cx states.Seen errors.Seen (Unit {0})
  TokensUpTo zero innermost outer_ones = λ b o. ⊥
  TokensUpTo (suc n) innermost outer_ones = Chained (TakesFitting innermost) (AfterRole (TokensUpTo n) innermost outer_ones)

  -- some number of tokens, from where these are open
  pub record TakesFrom (innermost : T) (outer_ones : List T) (b : Beginning Tok Cx states.Seen) (o : Outcome (Unit {0}) errors.Seen states.Seen) : Type 0 where
    pub tokens : ℕ
    pub run : TokensUpTo tokens innermost outer_ones b o

  abbrev pub TakesNested : T → Meaning Tok Cx states.Seen errors.Seen (Unit {0})
  TakesNested innermost = TakesFrom innermost []
