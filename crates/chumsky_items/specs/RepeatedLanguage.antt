-- The language of `repeated`, as a parser of items.
-- Main words: repeated_language. Main law: repeated-accepts. Read first: ItemsLanguage.antt of the parsers, ListWords.antt.
use Rattle.std.proofs.Common.{◌≡◌, ℕ, Bool, ◌&&◌, Option, Some, refl}
use Rattle.chumsky_input.specs.Outcome.{Meaning, EndsAfterStart}
use Rattle.chumsky_parser.specs.Chained.{Given}
use Rattle.chumsky_parser.specs.EndingLaws.{given-by}
use Rattle.chumsky_parser.specs.Language.{Language, Accepts}
use Rattle.chumsky_parser.specs.SequenceLanguage.{MayFollow}
use Rattle.chumsky_parser.specs.ProgressLaws.{both-true}
use Rattle.chumsky_parser.specs.MemoryLaws.{given-spares}
use Rattle.chumsky_parser.specs.ItemsLanguage.{ItemsLanguage, AcceptsItems}
use Rattle.chumsky_items.specs.Repeating.{has_an_item, Repeats}
use Rattle.chumsky_items.specs.RepeatingLaws.{repeats-end}
use Rattle.chumsky_items.specs.ItemsMove.{repeats-move}
use Rattle.chumsky_items.specs.ItemsSpare.{repeats-spare}
use Rattle.chumsky_items.specs.ListWords.{repeated_next, RepeatedWord, RepeatedEnd, RepeatedFollow}
use Rattle.chumsky_items.specs.ListEndings.{repeats-here}
use Rattle.chumsky_items.specs.RepeatedWords.{repeated-further, repeated-one, repeated-given, repeated-over, repeated-decided, repeated-each, repeated-ends, repeated-never_empty}

-- words of items one after another, as many as asked and no more than there may be; each takes a token
abbrev pub repeated_language : {Tok V : Type 0} → Language Tok V → ℕ → Option ℕ → ItemsLanguage Tok ℕ V
repeated_language F least most = record {
  said = F.said && F.moves;
  has_given = λ s k. s ≡ k;
  next = repeated_next F.ends least most;
  value = λ k. F.value;
  word = RepeatedWord most F.word;
  stands_for = λ k w v. RepeatedWord most (λ u. F.stands_for u v) k w;
  last = RepeatedEnd least most;
  follow = RepeatedFollow F.ends F.follow least most;
  unambiguous = F.unambiguous × MayFollow F F;
  refused_from = F.refused_from;
  moves = has_an_item least most && F.moves;
  takes_no_memory = F.takes_no_memory;
}

module _ {Tok Cx St Mk Er V : Type 0} (mark : St → Mk) (back : St → Mk → St) (safe : Type 0) (item : Meaning Tok Cx St Er V) (free : Bool) (least : ℕ) (most : Option ℕ) (F : Language Tok V) where
  pub repeated-accepts : {X : Type 0} → EndsAfterStart item → Accepts item F (X × safe)
      → AcceptsItems (Given (Some 0)) (Repeats mark back safe item free least most) (repeated_language F least most) (X × safe)
  repeated-accepts ends h = record {
    described = λ s.
        let t = both-true F.said F.moves s in
        let d = h.described t.0 in
        let further = d.further t.1 in
        record {
          start = given-by Er (λ s. s ≡ 0) (Some 0) refl;
          step = repeats-here mark back safe item F.ends F.value d.reads further free least most;
          further = repeated-further F.ends least most further;
          one = repeated-one F.ends least most F.word d.only;
          given = λ k. repeated-given F.ends least most F.value F.stands_for d.given k;
          over = repeated-over F.ends least most;
          each = λ u. repeated-each F.ends least most F.word F.follow (d.each u.0) u.1;
          ends = λ u. repeated-ends F.ends least most F.word F.follow (d.each u.0);
          decided = λ k ts i. repeated-decided F.ends least most k ts (d.decided ts i);
          never_empty = λ m. let i = both-true (has_an_item least most) F.moves m in repeated-never_empty F.ends least most i.0;
        };
    moving = λ e. let i = both-true (has_an_item least most) F.moves e in (repeats-end mark back safe item free least most ends, repeats-move mark back safe item free least most i.0 (h.moving i.1));
    sparing = λ q t. record { begin = given-spares (Some 0); step = repeats-spare mark back safe item free least most q.1 (h.sparing q t) };
  }
