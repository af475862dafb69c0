-- What counts of a `Rich`, and how two are merged.
use Rattle.std.specs.Prelude.{◌≡◌, ℕ, ◌%◌, ⊤, Bool, true, cond, List, [], ◌∷◌, ◌++◌, Option, Some, None, IfSome, option_map, map, string_bytes}
use Rattle.std.specs.Int.{bit_at}
use Rattle.std.specs.List.{list_any, filter_map}
use Rattle.std.specs.Ordering.{on}
use Rattle.chumsky_input.specs.Wanted.{Wanted, wanted_map, wanted_same}
use Rattle.chumsky_input.specs.Wanted as wanted
use Rattle.chumsky_input.specs.declared.span.SimpleSpan.{SimpleSpan}
use Rattle.chumsky_input.specs.declared.rich.Rich.{Rich}
use Rattle.chumsky_input.specs.declared.rich.RichReason.TheVariants.{Expected, Custom}
use Rattle.chumsky_input.specs.declared.rich.RichPattern.{RichPattern}
use Rattle.chumsky_input.specs.declared.rich.RichPattern.TheVariants.{Token, Any, SomethingElse, EndOfInput, Label}

-- what a pattern says was expected
abbrev pub pattern_wanted : {T : Type 0} → RichPattern T → Wanted T
pattern_wanted (Token t) = wanted.Token t
pattern_wanted Any = wanted.Any
pattern_wanted SomethingElse = wanted.SomethingElse
pattern_wanted EndOfInput = wanted.EndOfInput
pattern_wanted (Label text) = wanted.Label (string_bytes text)

-- both say the same
abbrev pub pattern_same : {T : Type 0} → (T → T → Bool) → RichPattern T → RichPattern T → Bool
pattern_same same = on pattern_wanted (wanted_same same)

-- what counts of a pattern, where `seen` shows what counts of a token
abbrev pub pattern_seen : {T S : Type 0} → (T → S) → RichPattern T → Wanted S
pattern_seen seen p = wanted_map seen (pattern_wanted p)

-- what counts of the pattern that shows an expectation; none where no token would have done
abbrev pub wanted_pattern : {T S : Type 0} → (T → S) → Wanted T → Option (Wanted S)
wanted_pattern seen wanted.NothingElse = None
wanted_pattern seen w = Some (wanted_map seen w)

-- the bucket of what was expected, of 128: that of its token, or one for each other kind
abbrev pub wanted_bucket : {T : Type 0} → (T → ℕ) → Wanted T → ℕ
wanted_bucket bucket (wanted.Token t) = bucket t % 128
wanted_bucket bucket wanted.Any = 1
wanted_bucket bucket wanted.SomethingElse = 2
wanted_bucket bucket wanted.NothingElse = 3
wanted_bucket bucket wanted.EndOfInput = 4
wanted_bucket bucket (wanted.Label text) = 5

-- of m the bits of the buckets are set that t is in, and each token that is equal to t
pub record MarksToken {T : Type 0} (eq : T → T → Bool) (bucket : T → ℕ) (t : T) (m : ℕ) : Type 0 where
  pub own : bit_at m (bucket t % 128) ≡ 1
  pub shared : (y : T) → eq y t ≡ true → bit_at m (bucket y % 128) ≡ 1

-- m has the bit of the bucket of what was expected
abbrev pub MarksBucket : {T : Type 0} → (T → T → Bool) → (T → ℕ) → Wanted T → ℕ → Type 0
MarksBucket eq bucket (wanted.Token t) m = MarksToken eq bucket t m
MarksBucket eq bucket wanted.Any m = m ≡ 2
MarksBucket eq bucket wanted.SomethingElse m = m ≡ 4
MarksBucket eq bucket wanted.NothingElse m = m ≡ 8
MarksBucket eq bucket wanted.EndOfInput m = m ≡ 16
MarksBucket eq bucket (wanted.Label text) m = m ≡ 32

-- that the bit of each pattern's bucket is set in `marks`
abbrev pub AreMarked : {T : Type 0} → (T → ℕ) → ℕ → List (RichPattern T) → Type 0
AreMarked bucket marks [] = ⊤
AreMarked bucket marks (p ∷ ps) = (bit_at marks (wanted_bucket bucket (pattern_wanted p)) ≡ 1) × AreMarked bucket marks ps

-- the items xs, and then those of ys that are new
abbrev pub add_new : {P : Type 0} → (P → P → Bool) → List P → List P → List P
add_new same xs [] = xs
add_new same xs (y ∷ ys) = cond (list_any (λ x. same x y) xs) (add_new same xs ys) (add_new same (xs ++ y ∷ []) ys)

-- what counts of a `Rich`, where S is what counts of a token
pub record RichSeen (S : Type 0) : Type 0 where
  pub span : SimpleSpan
  pub found : Option S
  pub expected : List (Wanted S)
  pub message : Option (List ℕ)

-- where the error stands
abbrev pub rich_span : {T : Type 0} → Rich T → SimpleSpan
rich_span e = e.span

-- the token that was found; none at the end of input and of a custom error
abbrev pub rich_found : {T : Type 0} → Rich T → Option T
rich_found e = elim e.reason [ Expected ps f ↦ f | Custom m ↦ None ]

-- what was expected; nothing of a custom error
abbrev pub rich_patterns : {T : Type 0} → Rich T → List (RichPattern T)
rich_patterns e = elim e.reason [ Expected ps f ↦ ps.items | Custom m ↦ [] ]

-- the bytes of a custom error's message
abbrev pub rich_message : {T : Type 0} → Rich T → Option (List ℕ)
rich_message e = elim e.reason [ Expected ps f ↦ None | Custom m ↦ Some (string_bytes m) ]

-- that e is a custom error that stands at s, with the message that was printed, where it is known what that is
pub record IsMessage {T : Type 0} (e : Rich T) (s : SimpleSpan) (printed : Option (List ℕ)) : Type 0 where
  pub span : rich_span e ≡ s
  pub found : rich_found e ≡ None
  pub patterns : rich_patterns e ≡ []
  pub text : List ℕ
  pub message : rich_message e ≡ Some text
  pub is_printed : IfSome printed (λ bytes. text ≡ bytes)

-- what counts of e, where `seen` shows what counts of a token
abbrev pub rich_seen : {T S : Type 0} → (T → S) → Rich T → RichSeen S
rich_seen seen e = record { span = rich_span e; found = option_map seen (rich_found e); expected = map (pattern_seen seen) (rich_patterns e); message = rich_message e }

-- the error where xs was expected and f was found: each pattern stands once, where it first came
abbrev pub rich_expectation : {T S : Type 0} → (T → S) → (S → S → Bool) → List (Wanted T) → Option T → SimpleSpan → RichSeen S
rich_expectation seen same xs f span = record { span = span; found = option_map seen f; expected = add_new (wanted_same same) [] (filter_map (wanted_pattern seen) xs); message = None }

-- the first custom error, or else a with the patterns of b that are new to it
abbrev pub rich_merged : {S : Type 0} → (S → S → Bool) → RichSeen S → RichSeen S → RichSeen S
rich_merged same a b = elim a.message [ Some _ ↦ a | None ↦ elim b.message [ Some _ ↦ b | None ↦ record a { expected = add_new (wanted_same same) a.expected b.expected } ] ]

-- the error where a label alone was expected
abbrev pub rich_labelled : {S : Type 0} → List ℕ → RichSeen S → RichSeen S
rich_labelled text a = record a { expected = wanted.Label text ∷ []; message = None }

-- what never holds
abbrev pub Empty : Type 0
Empty = ⊥
