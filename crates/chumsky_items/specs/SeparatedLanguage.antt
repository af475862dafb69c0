-- The language of `separated_by`, as a parser of items.
-- Main words: separated_language. Main law: separated-accepts. Read first: ItemsLanguage.antt of the parsers, ListWords.antt.
use Rattle.std.proofs.Common.{◌≡◌, ℕ, true, ◌&&◌, Some, List, ◌++◌, length, refl}
use Rattle.chumsky_input.specs.Outcome.{Meaning, EndsAfterStart}
use Rattle.chumsky_parser.specs.Chained.{Given}
use Rattle.chumsky_parser.specs.Ending.{DoesNotEnd, Ends}
use Rattle.chumsky_parser.specs.EndingLaws.{given-by}
use Rattle.chumsky_parser.specs.FurtherLaws.{sooner-below, fewer-below}
use Rattle.chumsky_parser.specs.Language.{Language, Accepts, sooner}
use Rattle.chumsky_parser.specs.SequenceLanguage.{MayFollow}
use Rattle.chumsky_parser.specs.WordsLaws.{keeps_tokens}
use Rattle.chumsky_parser.specs.ProgressLaws.{both-true}
use Rattle.chumsky_parser.specs.MemoryLaws.{given-spares}
use Rattle.chumsky_parser.specs.ItemsLanguage.{ItemsLanguage, AcceptsItems}
use Rattle.chumsky_items.specs.Repeating.{has_an_item}
use Rattle.chumsky_items.specs.Separating.{Bounds, Separates}
use Rattle.chumsky_items.specs.SeparatingLaws.{separates-end}
use Rattle.chumsky_items.specs.ItemsMove.{separates-move}
use Rattle.chumsky_items.specs.ItemsSpare.{separates-spare}
use Rattle.chumsky_items.specs.ListWords.{separated_next, lead_at, SeparatedWord, SeparatedEnd, SeparatedFollow}
use Rattle.chumsky_items.specs.SeparatedEndings.{separates-here, lead_keeps}
use Rattle.chumsky_items.specs.SeparatedWords.{separated-further, separated-one, separated-given, separated-over, separated-decided, separated-each, separated-ends, separated-never_empty}

-- no word of an item, with what may follow it, begins with a separator
abbrev pub NoSeparatorFirst : {Tok U V : Type 0} → Language Tok U → Language Tok V → Type 0
NoSeparatorFirst {Tok} G F = (w rest : List Tok) → F.word w → F.follow rest → DoesNotEnd (G.ends (w ++ rest))

-- words of items one after another, with a word of the separator between each two; before the first and after the last where
-- it may stand there. Each item takes a token
abbrev pub separated_language : {Tok U V : Type 0} → Language Tok U → Language Tok V → Bounds → ItemsLanguage Tok ℕ V
separated_language G F d = record {
  said = (F.said && F.moves) && G.said;
  has_given = λ s k. s ≡ k;
  next = separated_next F.ends G.ends d.leading d.trailing d.least d.most;
  value = λ k ts v. Ends (lead_at G.ends d.leading k ts) (λ mid. F.value mid v);
  word = SeparatedWord G.word d.leading d.most F.word;
  stands_for = λ k w v. SeparatedWord G.word d.leading d.most (λ u. F.stands_for u v) k w;
  last = SeparatedEnd G.word d.leading d.trailing d.least d.most;
  follow = SeparatedFollow F.ends G.ends F.follow G.follow;
  unambiguous = F.unambiguous × G.unambiguous × MayFollow F G × MayFollow G F × (d.leading ≡ true → NoSeparatorFirst G F);
  refused_from = sooner F.refused_from G.refused_from;
  moves = has_an_item d.least d.most && F.moves;
  takes_no_memory = F.takes_no_memory × G.takes_no_memory;
}

module _ {Tok Cx St Mk Er U V : Type 0} (mark : St → Mk) (back : St → Mk → St) (safe : Type 0)
    (separator : Meaning Tok Cx St Er U) (item : Meaning Tok Cx St Er V) (d : Bounds) (G : Language Tok U)
    (F : Language Tok V) where
  pub separated-accepts : {X : Type 0} → EndsAfterStart separator → EndsAfterStart item
      → Accepts separator G (X × safe) → Accepts item F (X × safe)
      → AcceptsItems (Given (Some 0)) (Separates mark back safe separator item d) (separated_language G F d) (X × safe)
  separated-accepts es ei hs h = record {
    described = λ s.
        let t = both-true (F.said && F.moves) G.said s in
        let u = both-true F.said F.moves t.0 in
        let g = hs.described t.1 in
        let i = h.described u.0 in
        let further = i.further u.1 in
        let keeps = keeps_tokens G.ends G.word g.only in
        record {
          start = given-by Er (λ s. s ≡ 0) (Some 0) refl;
          step = separates-here mark back safe separator item G.ends F.ends G.value F.value g.reads i.reads keeps further d;
          further = separated-further F.ends G.ends d.leading d.trailing d.least d.most further (lead_keeps G.ends keeps);
          one = separated-one F.ends G.ends d.leading d.trailing d.least d.most F.word G.word i.only g.only;
          given = separated-given F.ends G.ends d.leading d.trailing d.least d.most G.word F.value F.stands_for i.given g.only;
          over = separated-over F.ends G.ends G.word g.only d.least d.most d.leading d.trailing;
          each = λ q. separated-each F.ends G.ends F.word G.word F.follow G.follow (i.each q.0) (g.each q.1) d.leading d.trailing d.least d.most q.2 q.3 q.4;
          ends = λ q. separated-ends F.ends G.ends F.word G.word F.follow G.follow (i.each q.0) (g.each q.1) d.leading d.trailing d.least d.most q.2 q.3 q.4;
          decided = λ k ts b.
              let z = sooner-below F.refused_from G.refused_from (length ts) b in
              separated-decided F.ends G.ends d.leading d.trailing d.least d.most k ts
              (λ us l. i.decided us (fewer-below F.refused_from (length us) (length ts) l z.0)) (g.decided ts z.1)
              (lead_keeps G.ends keeps);
          never_empty = λ m. let i = both-true (has_an_item d.least d.most) F.moves m in separated-never_empty F.ends G.ends d.leading d.trailing d.least d.most i.0;
        };
    moving = λ e.
        let i = both-true (has_an_item d.least d.most) F.moves e in
        (separates-end mark back safe separator item d es ei, separates-move mark back safe separator item d i.0 es (h.moving i.1));
    sparing = λ q t. record { begin = given-spares (Some 0); step = separates-spare mark back safe separator item d q.1 (hs.sparing q t.1) (h.sparing q t.0) };
  }
