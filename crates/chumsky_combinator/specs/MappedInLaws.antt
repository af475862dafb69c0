-- The laws of mappers that ask for memory.
-- Main laws: mapped_in-ends, mapped_in-agrees, mapped_in-moves, map_in-accepts. Read first: MappedIn.antt.
use Rattle.std.proofs.Common.{Option, List, Result, drop, subst, inl, inr}
use Rattle.std.specs.declared.alloc.AllocError.{AllocError}
use Rattle.chumsky_input.specs.Outcome.{Meaning, Beginning, SameValue, EndsAfterStart, Agreeing, IsAnswer}
use Rattle.chumsky_parser.specs.Ending.{At, Ender, and_then, Within, IfValue, Answers, Here, Reads}
use Rattle.chumsky_parser.specs.EndingLaws.{chained-here, and_then_some, refuses-by}
use Rattle.chumsky_parser.specs.Language.{Language, Accepts}
use Rattle.chumsky_parser.specs.Laws.{chained-ends, chained-agrees}
use Rattle.chumsky_parser.specs.Progress.{Moves}
use Rattle.chumsky_parser.specs.ProgressLaws.{chained-first}
use Rattle.chumsky_parser.specs.WordsLaws.{map-gives_only}
use Rattle.chumsky_combinator.specs.Mapped.{SameMapped}
use Rattle.chumsky_combinator.specs.MappedLanguage.{MapsSome, given_by-here}
use Rattle.chumsky_combinator.specs.MappedLaws.{given_by-ends, given_by-agrees}
use Rattle.chumsky_combinator.specs.MappedIn.{GivesOk, GivenIn, MappedIn, map_in_language}

module _ {Tok Cx St Er V W : Type 0} (answers : V → Result W AllocError → Type 0) where
  given_in-ends : (v : Option V) → EndsAfterStart (GivenIn {Tok = Tok} {Cx = Cx} {St = St} {Er = Er} answers v)
  given_in-ends v b o m a = elim m.cases [ inl r ↦ absurd (subst IsAnswer r.1 a) | inr g ↦ given_by-ends (GivesOk answers) v b o g a ]

  given_in-agrees : (same : V → V → Type 0) (v v' : Option V) → SameValue same v v'
      → Agreeing (SameMapped same (GivesOk answers)) (GivenIn {Tok = Tok} {Cx = Cx} {St = St} {Er = Er} answers v) (GivenIn answers v')
  given_in-agrees same v v' e b c o q alike m n a z =
      elim m.cases [
        | inl r ↦ absurd (subst IsAnswer r.1 a)
        | inr g ↦ elim n.cases [
          | inl r ↦ absurd (subst IsAnswer r.1 z)
          | inr h ↦ given_by-agrees (GivesOk answers) same v v' e b c o q alike g h a z
        ]
      ]

  given_in-here : (value : List Tok → V → Type 0) (ts : List Tok) (v : Option V) → IfValue (value ts) v → (c : Beginning Tok Cx St) → Within c
      → Here (MapsSome value (GivesOk answers) ts) {Er = Er} (GivenIn answers v) (At (drop c.start c.tokens.list)) c
  given_in-here value ts v i c y o m =
      elim m.cases [
        | inl r ↦ refuses-by (MapsSome value (GivesOk answers) ts) (At (drop c.start c.tokens.list)) c.tokens.list o r
        | inr g ↦ given_by-here (GivesOk answers) value ts v i c y o g
      ]

  module _ (part : Meaning Tok Cx St Er V) where
    pub mapped_in-ends : EndsAfterStart part → EndsAfterStart (MappedIn answers part)
    mapped_in-ends h = chained-ends part _ h given_in-ends

    pub mapped_in-agrees : (same : V → V → Type 0) → Agreeing same part part → Agreeing (SameMapped same (GivesOk answers)) (MappedIn answers part) (MappedIn answers part)
    mapped_in-agrees same h = chained-agrees part part _ _ same (SameMapped same (GivesOk answers)) h (given_in-agrees same)

    pub mapped_in-moves : Moves part → Moves (MappedIn answers part)
    mapped_in-moves h = chained-first part _ h given_in-ends

    mapped_in-by : (f : Ender Tok) (value : List Tok → V → Type 0) → Reads part f value → Reads (MappedIn answers part) f (MapsSome value (GivesOk answers))
    mapped_in-by f value h = record {
      here = λ b w o m.
          let ts : List Tok = drop b.start b.tokens.list in
          let made : List Tok → W → Type 0 = MapsSome value (GivesOk answers) in
          let z : Answers (made ts) (and_then (λ us. At us) (f ts)) b.tokens.list o.verdict o.end =
          chained-here (value ts) (made ts) part (GivenIn answers) (f ts) (λ us. At us) b w (h.here b w) (λ v c y e i. given_in-here value ts v i c y) o m in
          subst (λ q. Answers (made ts) q b.tokens.list o.verdict o.end) (and_then_some (f ts)) z;
    }

    -- `part.map_in(answers)`
    pub map_in-accepts : {F : Language Tok V} {spare : Type 0} → Accepts part F spare → Accepts (MappedIn answers part) (map_in_language answers F) spare
    map_in-accepts {F} h = record {
      described = λ s.
          let d = h.described s in
          record {
            reads = mapped_in-by F.ends F.value d.reads;
            only = d.only;
            given = map-gives_only F.ends F.value F.stands_for d.given (GivesOk answers);
            each = d.each;
            decided = d.decided;
            further = d.further;
          };
      moving = λ e. mapped_in-moves (h.moving e);
      sparing = λ q t. absurd t;
    }
