-- A part of a grammar that says which texts it takes: those of the parser in it, said by that parser or by words and values of one's own.
-- Main words: intended, intended_language. Main laws: part-lawful, intended-lawful. Read first: Body.antt, Lawful.antt, CallLanguage.antt.
use Rattle.std.specs.Prelude.{ℕ, ⊤}
use Rattle.chumsky_input.specs.Outcome.{Meaning}
use Rattle.chumsky_parser.specs.Language.{Language, Accepts}
use Rattle.chumsky_parser.specs.LanguageLaws.{fewer-accepts}
use Rattle.chumsky_combinator.specs.Part.{Onward}
use Rattle.chumsky_combinator.specs.PartLaws.{onward-ends, onward-agrees}
use Rattle.chumsky_descent.specs.Body.{Told}
use Rattle.chumsky_descent.specs.Calls.{Intended}
use Rattle.chumsky_descent.specs.CallLanguage.{IsIntended}
use Rattle.chumsky_descent.specs.Lawful.{Lawful, AnyTwo}

module _ {Tok V : Type 0} (meant : Intended Tok V) where
  -- where a language ends and what it gives, with the words that are intended
  abbrev pub intended_language : Language Tok V → Language Tok V
  intended_language l = record {
    said = l.said;
    ends = l.ends;
    value = l.value;
    word = meant.word;
    stands_for = meant.stands_for;
    follow = meant.follow;
    unambiguous = ⊤;
    refused_from = l.refused_from;
    moves = meant.moves;
    takes_no_memory = l.takes_no_memory;
  }

  -- what a parser does, with the words that are intended
  abbrev pub intended : {I Sp Er St Mk Cx : Type 0} → Told I Tok Sp Er St Mk Cx V → Told I Tok Sp Er St Mk Cx V
  intended t = record { meaning = t.meaning; language = intended_language t.language }

module _ {Tok Cx St Er V spare : Type 0} {m : Meaning Tok Cx St Er V} {l : Language Tok V} (h : Lawful spare m l) where
  -- a part that runs a parser is as lawful as it is
  pub part-lawful : Lawful spare (Onward m) l
  part-lawful = record { ends = onward-ends m; agrees = onward-agrees m AnyTwo h.agrees; accepts = fewer-accepts (Onward m) m (λ b o r. r.means) l h.accepts }

  -- and it has the language that is intended, where its own is as intended
  pub intended-lawful : (meant : Intended Tok V) {depth : ℕ} → IsIntended meant l depth → Lawful spare m (intended_language meant l)
  intended-lawful meant i = record { ends = h.ends; agrees = h.agrees; accepts = as_intended }
    where
      as_intended : Accepts m (intended_language meant l) spare
      as_intended = record {
        described = λ s.
            let d = h.accepts.described s in
            record {
              reads = d.reads;
              only = record { taken = λ ts rest e. let b = d.only.taken ts rest e in record { word = b.word; all = b.all; is = i.only b.word b.is } };
              given = record { given = λ ts rest v e x. let b = d.given.given ts rest v e x in record { word = b.word; all = b.all; is = i.given b.word v b.is } };
              each = λ u. record { each = λ w rest x f. let t = d.each i.unambiguous in t.each w rest (i.each w x) (i.follows rest f) };
              decided = d.decided;
              further = λ e. d.further (i.moves e);
            };
        moving = λ e. h.accepts.moving (i.moves e);
        sparing = h.accepts.sparing;
      }
