-- What is said of an operator holds, since it does of its parser; and of operators in a row, since it does of each.
-- Main laws: operator-operates, shown-operates, last-operates, row-operates. Read first: Operating.antt; Operators.antt.
use Rattle.std.proofs.Common.{ℕ, zero, suc, ◌&&◌}
use Rattle.chumsky_input.specs.Extra.{Shown}
use Rattle.chumsky_input.specs.Outcome.{Meaning}
use Rattle.chumsky_parser.specs.EndingLaws.{weaker-by, regrouped-by}
use Rattle.chumsky_parser.specs.Language.{Language, Accepts, unsaid}
use Rattle.chumsky_parser.specs.ProgressLaws.{both-true}
use Rattle.chumsky_parser.specs.Showing.{GivesShown}
use Rattle.chumsky_pratt.specs.declared.operands.Operands.{Operands}
use Rattle.chumsky_pratt.specs.declared.row.Found.TheVariants.{Here, There}
use Rattle.chumsky_pratt.specs.Operators.{Unshown, GivesAnd, ReadsAnd}
use Rattle.chumsky_pratt.specs.Operating.{GivesWithin, OperatesAs, operator_language, GivesInSomeRun, shown_language, OperatorLanguages, OperateAs, last_languages, and_languages}

module _ {Tok Cx St Er F V : Type 0} {reading : Meaning Tok Cx St Er F} {L : Language Tok F} {spare : Type 0} where
  -- an operator whose folder gives no values but these
  made-operates : (made : F → Operands V → V → Type 0) (gives : GivesShown Tok Cx St (F × Operands V) V)
      → ((f : F) (x : Operands V) (run : Shown Tok Cx St) (v : V) (s : St) → gives (f, x) run v s → made f x v)
      → Accepts reading L spare → OperatesAs reading gives (operator_language L made)
  made-operates made gives within h s m =
      let d = h.described s in
      let l = operator_language L made in
      record {
        reads = weaker-by reading L.ends L.value d.reads (λ ts. GivesWithin gives (l.value ts)) (λ ts f i x run v t g. (f, i, within f x run v t g));
        only = d.only;
        given = record {
          given = λ ts rest p e i. let b = d.given.given ts rest i.0 e i.1 in record { word = b.word; all = b.all; is = (i.0, b.is, i.2) };
        };
        each = d.each;
        decided = d.decided;
        further = d.further m;
      }

  -- an operator whose values are given whatever is shown of the run
  pub operator-operates : (gives : F → Operands V → V → Type 0) → Accepts reading L spare → OperatesAs reading (Unshown {Tok = Tok} {Cx = Cx} {St = St} gives) (operator_language L gives)
  operator-operates gives = made-operates gives (Unshown gives) (λ f x run v s g. g.0)

  -- an operator whose folder is shown the run
  pub shown-operates : (gives : GivesShown Tok Cx St (F × Operands V) V) → Accepts reading L spare → OperatesAs reading gives (shown_language L gives)
  shown-operates gives = made-operates (GivesInSomeRun gives) gives (λ f x run v s g. (run, s, g))

-- where nothing is said
pub unsaid-operates : {Tok Cx St Er F V : Type 0} {reading : Meaning Tok Cx St Er F} {gives : GivesShown Tok Cx St (F × Operands V) V} → OperatesAs reading gives unsaid
unsaid-operates s = absurd (cc s)

module _ {Tok Cx St Er A V : Type 0} {here : Meaning Tok Cx St Er A} {gives : GivesShown Tok Cx St (A × Operands V) V} {l : Language Tok (Operands V × V)} where
  pub last-operates : OperatesAs here gives l → OperateAs (λ i. here) gives (last_languages l)
  last-operates h s i = let t = both-true l.said l.moves s in h t.0 t.1

module _ {Tok Cx St Er A B V : Type 0} {here : Meaning Tok Cx St Er A} {there : ℕ
    → Meaning Tok Cx St Er B} {ga : GivesShown Tok Cx St (A × Operands V) V} {gb : GivesShown Tok Cx St (B × Operands V) V}
    {l : Language Tok (Operands V × V)} {others : OperatorLanguages Tok V} where
  pub row-operates : OperatesAs here ga l → OperateAs there gb others → OperateAs (ReadsAnd here there) (GivesAnd ga gb) (and_languages l others)
  row-operates h k s zero =
      let t = both-true (l.said && l.moves) others.said s in
      let u = both-true l.said l.moves t.0 in
      let o = h u.0 u.1 in
      record {
        reads = regrouped-by here l.ends (λ ts. GivesWithin ga (l.value ts)) o.reads Here (λ ts. GivesWithin (GivesAnd ga gb) (l.value ts)) (λ ts v i. i);
        only = o.only;
        given = o.given;
        each = o.each;
        decided = o.decided;
        further = o.further;
      }
  row-operates h k s (suc i) =
      let t = both-true (l.said && l.moves) others.said s in
      let o = k t.1 i in
      let n = others.operator i in
      record {
        reads = regrouped-by (there i) n.ends (λ ts. GivesWithin gb (n.value ts)) o.reads There (λ ts. GivesWithin (GivesAnd ga gb) (n.value ts)) (λ ts v i. i);
        only = o.only;
        given = o.given;
        each = o.each;
        decided = o.decided;
        further = o.further;
      }
