-- What the laws say of parsers made of the same parts, in the words of their errors and of their states.
-- Main words: AgreesOnSecond, OrAgreesByOne, MapsSameIfBlind, Regroups, Ungroups. Read first: Built.antt, Compared.antt, Standing.antt.
use Rattle.std.specs.Prelude.{[], ◌∷◌}
use Rattle.chumsky_input.specs.declared.error.Error as error_trait
use Rattle.chumsky_input.specs.declared.inspector.Inspector as inspector_trait
use Rattle.chumsky_input.specs.Words.{Does}
use Rattle.chumsky_parser.specs.Showing.{Makes}
use Rattle.chumsky_combinator.specs.declared.ignore_then.IgnoreThen.{IgnoreThen}
use Rattle.chumsky_combinator.specs.declared.map.Map.{Map}
use Rattle.chumsky_combinator.specs.declared.map_with.MapWith.{MapWith}
use Rattle.chumsky_combinator.specs.declared.or.Or.{Or}
use Rattle.chumsky_combinator.specs.declared.then.Then.{Then}
use Rattle.chumsky_combinator.specs.Built.{then_of, ignore_then_of, or_of, map_of}
use Rattle.chumsky_combinator.specs.Compared.{AgreesAs, MapsBlindly, DoesSame, DoesShown, regroup, ungroup}
use Rattle.chumsky_combinator.specs.Standing.{SameByOneIn}

module _ {I Tok Sp Er St Mk Cx : Type 0} (errors : error_trait.Ghosts Er I Tok Sp) (states : inspector_trait.Ghosts St I Mk Tok Sp) where
  -- where both answer from alike beginnings, `a.then(b)` and `a.ignore_then(b)` agree, and the second of the pair of the one is
  -- the output of the other
  abbrev pub AgreesOnSecond : {A B V W : Type 0} → (W → W → Type 0) → (Then A B V W → Does I Tok Sp Er St Mk Cx (V × W)) → (IgnoreThen A B V → Does I Tok Sp Er St Mk Cx W) → A → B → Type 0
  AgreesOnSecond same then ignore_then a b = AgreesAs (λ p. p.1) same (then (then_of a b) errors states) (ignore_then (ignore_then_of a b) errors states)

  -- in any two answers of `a.or(b)` from alike beginnings one and the same of the two stands, and calls their values the same
  abbrev pub OrAgreesByOne : {A B V : Type 0} → (A → V → V → Type 0) → (B → V → V → Type 0)
      → (A → Does I Tok Sp Er St Mk Cx V) → (B → Does I Tok Sp Er St Mk Cx V) → (Or A B → Does I Tok Sp Er St Mk Cx V)
      → A → B → Type 0
  OrAgreesByOne same_first same_second first second or a b =
      SameByOneIn errors states (or (or_of a b)) (same_first a ∷ same_second b ∷ []) (first a ∷ second b ∷ [])

  -- by a mapper that takes no notice of the run, and leaves the state, `map_with` has the outcomes of `map` by a mapper with the
  -- same answers
  abbrev pub MapsSameIfBlind : {A F G V W : Type 0} → (F → Makes I Tok Sp St Mk Cx V W) → (G → V → W → Type 0)
      → (MapWith A V F W → Does I Tok Sp Er St Mk Cx W) → (Map A V G W → Does I Tok Sp Er St Mk Cx W)
      → MapWith A V F W → G → Type 0
  MapsSameIfBlind gives maps map_with map p mapper = MapsBlindly (gives p.mapper states) (maps mapper) → DoesSame errors states (map_with p) (map (map_of p.parser mapper))

  -- each outcome of `a.then(b).then(c)` is one of `a.then(b.then(c))`, with its values in pairs from the right
  abbrev pub Regroups : {A B C U V W : Type 0}
      → (Then (Then A B U V) C (U × V) W → Does I Tok Sp Er St Mk Cx ((U × V) × W))
      → (Then A (Then B C V W) U (V × W) → Does I Tok Sp Er St Mk Cx (U × (V × W))) → A → B → C → Type 0
  Regroups lefts rights a b c = DoesShown errors states regroup (lefts (then_of (then_of a b) c)) (rights (then_of a (then_of b c)))

  -- each outcome of `a.then(b.then(c))` is one of `a.then(b).then(c)`, with its values in pairs from the left
  abbrev pub Ungroups : {A B C U V W : Type 0}
      → (Then A (Then B C V W) U (V × W) → Does I Tok Sp Er St Mk Cx (U × (V × W)))
      → (Then (Then A B U V) C (U × V) W → Does I Tok Sp Er St Mk Cx ((U × V) × W)) → A → B → C → Type 0
  Ungroups rights lefts a b c = DoesShown errors states ungroup (rights (then_of a (then_of b c))) (lefts (then_of (then_of a b) c))
