-- From what each builder ensures of the parts that it was given to one equation of the whole parser; and the language of a parser as
-- a function of it, over which such an equation is put in where `rw` doesn't reach.
-- Main words: of_then, of_ignore_then, of_then_ignore, of_or_not, of_collect, of_just, of_int, word_language_of. Main laws: then_is, ignore_then_is, then_ignore_is,
-- or_is, choice_is, or_not_is, to_is, map_by_is, pick_by_is, collect_is, separated_is, just_is, int_is, digits_is. Read first: Built.antt of chumsky_combinator.
use Rattle.std.proofs.Common.{◌≡◌, ℕ, Bool, false, cond, nat_eq, Option, List, [], ◌∷◌, ◌∙◌, ap}
use Rattle.std.specs.Prelude.{⊤}
use Rattle.std.specs.Borrow.{Bor}
use Rattle.std.specs.Char.{is_digit}
use Rattle.chumsky_parser.specs.Language.{Language}
use Rattle.chumsky_parser.specs.SequenceLanguage.{then_language, ignore_then_language, then_ignore_language}
use Rattle.chumsky_primitive.specs.PrimitiveLanguage.{literal_language}
use Rattle.chumsky_primitive.specs.declared.just.Just.{Just}
use Rattle.chumsky_choice.specs.declared.choice.Choice.{Choice}
use Rattle.chumsky_combinator.specs.Built.{then_of, ignore_then_of, or_of, map_of}
use Rattle.chumsky_combinator.specs.OptionalLanguage.{or_not_language}
use Rattle.chumsky_combinator.specs.declared.ignore_then.IgnoreThen.{IgnoreThen}
use Rattle.chumsky_combinator.specs.declared.map.Map.{Map}
use Rattle.chumsky_combinator.specs.declared.or.Or.{Or}
use Rattle.chumsky_combinator.specs.declared.or_not.OrNot.{OrNot}
use Rattle.chumsky_combinator.specs.declared.then.Then.{Then}
use Rattle.chumsky_combinator.specs.declared.then_ignore.ThenIgnore.{ThenIgnore}
use Rattle.chumsky_combinator.specs.declared.to.To.{To}
use Rattle.chumsky_items.specs.ListLanguage.{collected_language}
use Rattle.chumsky_items.specs.SeparatedLanguage.{separated_language}
use Rattle.chumsky_items.specs.Separating.{Bounds}
use Rattle.chumsky_items.specs.declared.collect.Collect.{Collect}
use Rattle.chumsky_items.specs.declared.separated_by.SeparatedBy.{SeparatedBy}
use Rattle.chumsky_judge.specs.declared.pick_by.PickBy.{PickBy}
use Rattle.chumsky_text.specs.Decimals.{TextSlice}
use Rattle.chumsky_text.specs.TextLanguage.{word_language}
use Rattle.chumsky_text.specs.declared.number.Digits.{Digits}
use Rattle.chumsky_text.specs.declared.number.Int.{Int}
use Rattle.chumsky_text.specs.declared.word.Word.{Word}

pub then_is : {A B O U : Type 0} {p : Then A B O U} {a : A} {b : B} → p.first ≡ a → p.second ≡ b → p ≡ then_of a b
then_is {p} {a} e f = ap (λ x. then_of x p.second) e ∙ ap (λ y. then_of a y) f

pub ignore_then_is : {A B O : Type 0} {p : IgnoreThen A B O} {a : A} {b : B} → p.first ≡ a → p.second ≡ b → p ≡ ignore_then_of a b
ignore_then_is {p} {a} e f = ap (λ x. ignore_then_of x p.second) e ∙ ap (λ y. ignore_then_of a y) f

-- `first.then_ignore(second)` and `parser.or_not()`
abbrev pub then_ignore_of : {A B U : Type 0} → A → B → ThenIgnore A B U
then_ignore_of first second = record { first = first; second = second; of = record {} }

pub then_ignore_is : {A B U : Type 0} {p : ThenIgnore A B U} {a : A} {b : B} → p.first ≡ a → p.second ≡ b → p ≡ then_ignore_of a b
then_ignore_is {p} {a} e f = ap (λ x. then_ignore_of x p.second) e ∙ ap (λ y. then_ignore_of a y) f

abbrev pub or_not_of : {A : Type 0} → A → OrNot A
or_not_of parser = record { parser = parser }

pub or_not_is : {A : Type 0} {p : OrNot A} {a : A} → p.parser ≡ a → p ≡ or_not_of a
or_not_is e = ap or_not_of e

-- `first.or(second)` and `choice(parsers)`, of a tuple as of a list
pub or_is : {A B : Type 0} {p : Or A B} {a : A} {b : B} → p.first ≡ a → p.second ≡ b → p ≡ or_of a b
or_is {p} {a} e f = ap (λ x. or_of x p.second) e ∙ ap (λ y. or_of a y) f

abbrev pub choice_of : {T : Type 0} → T → Choice T
choice_of parsers = record { parsers = parsers }

pub choice_is : {T : Type 0} {p : Choice T} {parsers : T} → p.parsers ≡ parsers → p ≡ choice_of parsers
choice_is e = ap choice_of e

-- `parser.to(value)`, `parser.map_by(mapper)` and `parser.pick_by(picker)`
abbrev pub to_of : {A O U : Type 0} → A → U → To A O U
to_of parser value = record { parser = parser; value = value; of = record {} }

pub to_is : {A O U : Type 0} {p : To A O U} {a : A} {value : U} → p.parser ≡ a → p.value ≡ value → p ≡ to_of a value
to_is {p} {a} e f = ap (λ x. to_of x p.value) e ∙ ap (λ y. to_of a y) f

pub map_by_is : {A O F U : Type 0} {p : Map A O F U} {a : A} {mapper : F} → p.parser ≡ a → p.mapper ≡ mapper → p ≡ map_of a mapper
map_by_is {p} {a} e f = ap (λ x. map_of x p.mapper) e ∙ ap (λ y. map_of a y) f

abbrev pub pick_by_of : {A O F U : Type 0} → A → F → PickBy A O F U
pick_by_of parser picker = record { picked = record { parser = parser; picker = picker; of = record {} } }

pub pick_by_is : {A O F U : Type 0} {p : PickBy A O F U} {a : A} {picker : F} → p.picked.parser ≡ a → p.picked.picker ≡ picker → p ≡ pick_by_of a picker
pick_by_is {p} {a} e f = ap (λ x. pick_by_of x p.picked.picker) e ∙ ap (λ y. pick_by_of a y) f

-- `parser.collect()`
abbrev pub collect_of : {A O C : Type 0} → A → Collect A O C
collect_of parser = record { parser = parser; of = record {} }

pub collect_is : {A O C : Type 0} {p : Collect A O C} {a : A} → p.parser ≡ a → p ≡ collect_of a
collect_is e = ap collect_of e

-- `item.separated_by(separator)`, with its bounds and both flags
abbrev pub separated_of : {A B O U I E : Type 0} → A → B → ℕ → Option ℕ → Bool → Bool → SeparatedBy A B O U I E
separated_of item separator least most leading trailing =
    record { parser = item; separator = separator; at_least = least; at_most = most; allow_leading = leading; allow_trailing = trailing; of = record {} }

pub separated_is : {A B O U I E : Type 0} {p : SeparatedBy A B O U I E} {a : A} {b : B} {most : Option ℕ} {leading trailing : Bool}
    → p.parser ≡ a → p.separator ≡ b → p.at_most ≡ most → p.allow_leading ≡ leading → p.allow_trailing ≡ trailing → p ≡ separated_of a b p.at_least most leading trailing
separated_is {p} {a} {b} {most} {leading} e f g h i =
    ap (λ x. separated_of x p.separator p.at_least p.at_most p.allow_leading p.allow_trailing) e
    ∙ ap (λ x. separated_of a x p.at_least p.at_most p.allow_leading p.allow_trailing) f
    ∙ ap (λ x. separated_of a b p.at_least x p.allow_leading p.allow_trailing) g
    ∙ ap (λ x. separated_of a b p.at_least most x p.allow_trailing) h
    ∙ ap (λ x. separated_of a b p.at_least most leading x) i

-- `just(text)`, `text::int(radix)` and `text::digits(radix)`
abbrev pub just_of : {T I E : Type 0} → T → Just T I E
just_of seq = record { seq = seq; of = record {} }

pub just_is : {T I E : Type 0} {p : Just T I E} {seq : T} → p.seq ≡ seq → p ≡ just_of seq
just_is e = ap just_of e

abbrev pub int_of : {I E : Type 0} → ℕ → Word Int I E
int_of radix = record { kind = record { radix = radix }; of = record {} }

pub int_is : {I E : Type 0} {p : Word Int I E} {radix : ℕ} → p.kind.radix ≡ radix → p ≡ int_of radix
int_is e = ap int_of e

abbrev pub digits_of : {I E : Type 0} → ℕ → Word Digits I E
digits_of radix = record { kind = record { radix = radix }; of = record {} }

pub digits_is : {I E : Type 0} {p : Word Digits I E} {radix : ℕ} → p.kind.radix ≡ radix → p ≡ digits_of radix
digits_is e = ap digits_of e

-- the language of a parser, as a function of it, from those of its parts; of copies, and of the memory that they take, it says nothing
abbrev pub of_then : {Tok A B V W : Type 0} → (A → Language Tok V) → (B → Language Tok W) → Then A B V W → Language Tok (V × W)
of_then f g p = then_language (f p.first) (g p.second)

abbrev pub of_ignore_then : {Tok A B V W : Type 0} → (A → Language Tok V) → (B → Language Tok W) → IgnoreThen A B V → Language Tok W
of_ignore_then f g p = ignore_then_language (f p.first) (g p.second)

abbrev pub of_then_ignore : {Tok A B V W : Type 0} → (A → Language Tok V) → (B → Language Tok W) → ThenIgnore A B W → Language Tok V
of_then_ignore f g p = then_ignore_language (f p.first) (g p.second)

abbrev pub of_or_not : {Tok A V : Type 0} → (A → Language Tok V) → OrNot A → Language Tok (Option V)
of_or_not f p = or_not_language (f p.parser)

-- of a list that is collected, from those of its item and of its separator
abbrev pub of_collect : {Tok A B U V C I E : Type 0} → (A → Language Tok V) → (B → Language Tok U) → Collect (SeparatedBy A B V U I E) V C → Language Tok C
of_collect f g p =
    let l = p.parser in
    let bounds : Bounds = record { least = l.at_least; most = l.at_most; leading = l.allow_leading; trailing = l.allow_trailing; free = false } in
    collected_language (separated_language (g l.separator) (f l.parser) bounds) (λ vs c. ⊤) ⊤

-- of a character, of a number, and of a word of a kind that holds one test
abbrev pub of_just : {I E : Type 0} → Just ℕ I E → Language ℕ ℕ
of_just p = literal_language nat_eq (p.seq ∷ []) (λ v. ⊤) ⊤

abbrev pub of_int : {I E : Type 0} → Word Int I E → Language ℕ (Bor (List ℕ))
of_int p = let radix = p.kind.radix in word_language (TextSlice (λ t. t.now)) (λ t. is_digit t radix) (λ t c. cond (nat_eq t 48) false (is_digit c radix))

abbrev pub word_language_of : (ℕ → Bool) → Language ℕ (Bor (List ℕ))
word_language_of test = word_language (TextSlice (λ t. t.now)) test (λ t. test)
