-- The language of folds: the words of a list, after or before those of a part, with what is folded of their values.
-- Main words: fold_language, foldl_language, foldr_language. Laws: fold-accepts, foldl-accepts, foldr-accepts. Read first: ListLanguage.antt of the lists, Folding.antt, FoldingBack.antt.
use Rattle.std.proofs.Common.{◌≡◌, Option, Some, None, List, drop, subst, inl, inr}
use Rattle.std.specs.Prelude.{⊤}
use Rattle.chumsky_input.specs.Outcome.{Meaning, EndsAfterStart}
use Rattle.chumsky_parser.specs.Chained.{Chained}
use Rattle.chumsky_parser.specs.Copied.{GivesCopy}
use Rattle.chumsky_parser.specs.IgnoringLaws.{copy-ends}
use Rattle.chumsky_parser.specs.Laws.{chained-ends, given-ends}
use Rattle.chumsky_parser.specs.Items.{Next, ItemsEnd}
use Rattle.chumsky_parser.specs.Ending.{At, Ends, IfValue, Answers, and_then}
use Rattle.chumsky_parser.specs.EndingLaws.{chained-here, given-here, weaker-here, copy-by, ends_there, and_then_some}
use Rattle.chumsky_parser.specs.FurtherLaws.{then-further, then-decided}
use Rattle.chumsky_parser.specs.Language.{Language, Accepts, GivesOnly}
use Rattle.chumsky_parser.specs.MemoryLaws.{given-spares, copy-spares, chained-spares}
use Rattle.chumsky_parser.specs.ProgressLaws.{both-true, either-true, chained-first, chained-second}
use Rattle.chumsky_parser.specs.SequenceLanguage.{joined_language}
use Rattle.chumsky_parser.specs.Words.{Joined}
use Rattle.chumsky_parser.specs.WordsLaws.{then-takes_only, then-takes_each, then-gives_only}
use Rattle.chumsky_parser.specs.ItemsLanguage.{list_ends, GivesFrom, ListFrom, ItemsLanguage, AcceptsItems}
use Rattle.chumsky_parser.specs.ItemsWords.{list-given}
use Rattle.chumsky_items.specs.Consumers.{Collects}
use Rattle.chumsky_items.specs.ConsumersLaws.{collects-ends}
use Rattle.chumsky_items.specs.ListLanguage.{Holding, list_language, collected_language, plain_language, collects-accepts}
use Rattle.chumsky_folds.specs.Folding.{FoldsLeft, FoldsFrom, FoldsItems, FoldsFromCopy, FoldsFromPart}
use Rattle.chumsky_folds.specs.FoldingLaws.{folds-ends}
use Rattle.chumsky_folds.specs.FoldingBack.{FoldsRight, FoldsHeld, FoldedBack, FoldsBack}

module _ {Tok S V A : Type 0} (l : ItemsLanguage Tok S V) (steps : A → V → A → Type 0) where
  -- the left fold from this of items that are so
  abbrev pub FoldedFrom : (List V → List Tok → Type 0) → A → List Tok → A → Type 0
  FoldedFrom are a = Holding are (FoldsLeft steps a)

  -- of the items, from a copy
  abbrev pub fold_language : (A → Type 0) → Type 0 → Language Tok A
  fold_language copies safe =
      list_language l (λ ts z. (a : A) × copies a × FoldedFrom (GivesFrom l.next l.value 0) a ts z)
      (λ w z. (a : A) × copies a × FoldedFrom (ListFrom l.stands_for l.last 0) a w z) safe

  -- of the items after a part, from its value
  abbrev pub foldl_language : Language Tok A → Language Tok A
  foldl_language F = joined_language F (plain_language {W = A} l) (λ ts z. (a : A) × F.value ts a × Ends (F.ends ts) (λ rest. FoldedFrom (GivesFrom l.next l.value 0) a rest z))
      (λ w z. (a : A) × Joined (λ u. F.stands_for u a) (λ u. FoldedFrom (ListFrom l.stands_for l.last 0) a u z) w)

module _ {Tok Cx St Er S V A : Type 0} (gives : S → Meaning Tok Cx St Er (Next S V)) (begins : Meaning Tok Cx St Er S)
    (steps : A → V → A → Type 0) (l : ItemsLanguage Tok S V) {spare : Type 0}
    (h : AcceptsItems begins gives l spare) where
  folds-accept : (a : Option A) → Accepts (FoldsItems gives begins steps a) (collected_language l (FoldsFrom steps a) ⊤) spare
  folds-accept a = collects-accepts gives begins l (FoldsFrom steps a) ⊤ h

  from_start : (ts : List Tok) (P : A → Type 0) (a : Option A) → IfValue P a → (z : A)
      → Holding (GivesFrom l.next l.value 0) (FoldsFrom steps a) ts z
      → (a : A) × P a × FoldedFrom l steps (GivesFrom l.next l.value 0) a ts z
  from_start ts P (Some a) i z k = (a, i, record { items = k.items; is = k.is; held = k.held })
  from_start ts P None i z k = absurd k.held

  -- `fold`
  pub fold-accepts : (copies : A → Type 0) (safe : Type 0) → Accepts (FoldsFromCopy gives begins steps copies safe) (fold_language l steps copies safe) spare
  fold-accepts copies safe = record {
    described = λ s.
        let d = (folds-accept None).described s in
        record {
          reads = record {
            here = λ b w.
                let ts : List Tok = drop b.start b.tokens.list in
                let Q : A → Type 0 = λ z. (a : A) × copies a × FoldedFrom l steps (GivesFrom l.next l.value 0) a ts z in
                chained-here copies Q (GivesCopy copies safe) (FoldsItems gives begins steps) (At ts) (list_ends l.next) b w ((copy-by Er copies safe).here b w)
                (λ a c y e i.
                let rest : List Tok = drop c.start c.tokens.list in
                let same : rest ≡ ts = cc e in
                weaker-here _ Q
                (λ z k. from_start ts copies a i z (subst (λ us. Holding (GivesFrom l.next l.value 0) (FoldsFrom steps a) us z) same k))
                (FoldsItems gives begins steps a) (list_ends l.next rest) c
                (((folds-accept a).described s).reads.here c y));
          };
          only = d.only;
          given = record {
            given = λ ts rest z e i.
                let k = i.2 in
                let b = (((folds-accept (Some i.0)).described s).given).given ts rest z e (record { items = k.items; is = k.is; held = k.held }) in
                let j = b.is in
                record { word = b.word; all = b.all; is = (i.0, i.1, record { items = j.items; is = j.is; held = j.held }) };
          };
          each = d.each;
          decided = d.decided;
          further = d.further;
        };
    moving = λ e. chained-second (GivesCopy copies safe) (FoldsItems gives begins steps) (copy-ends copies safe) (λ a. (folds-accept a).moving e);
    sparing = λ q t. chained-spares (GivesCopy copies safe) (FoldsItems gives begins steps) (copy-spares copies safe t.1) (λ a. (folds-accept a).sparing q (t.0, tt));
  }

  -- `foldl`
  pub foldl-accepts : (part : Meaning Tok Cx St Er A) (F : Language Tok A) → ItemsEnd begins gives
      → EndsAfterStart part → Accepts part F spare
      → Accepts (FoldsFromPart gives begins steps part) (foldl_language l steps F) spare
  foldl-accepts part F ends ep k = record {
    described = λ s.
        let t = both-true F.said l.said s in
        let f = k.described t.0 in
        let d = (folds-accept None).described t.1 in
        record {
          reads = record {
            here = λ b w.
                let ts : List Tok = drop b.start b.tokens.list in
                let Q : A → Type 0 = λ z. (a : A) × F.value ts a × Ends (F.ends ts) (λ rest. FoldedFrom l steps (GivesFrom l.next l.value 0) a rest z) in
                chained-here (F.value ts) Q part (FoldsItems gives begins steps) (F.ends ts) (list_ends l.next) b w (f.reads.here b w)
                (λ a c y e i.
                let rest : List Tok = drop c.start c.tokens.list in
                weaker-here _ Q (λ z j. let g = from_start rest (F.value ts) a i z j in (g.0, g.1, ends_there (F.ends ts) rest (λ r. FoldedFrom l steps (GivesFrom l.next l.value 0) g.0 r z) e g.2))
                (FoldsItems gives begins steps a) (list_ends l.next rest) c (((folds-accept a).described t.1).reads.here c y));
          };
          only = then-takes_only F.ends (list_ends l.next) F.word _ f.only d.only;
          given = record {
            given = λ ts rest z e i.
                let one : GivesOnly (list_ends l.next) (FoldedFrom l steps (GivesFrom l.next l.value 0) i.0) (FoldedFrom l steps (ListFrom l.stands_for l.last 0) i.0) = record {
                  given = λ ts rest z e k.
                      let b = (((folds-accept (Some i.0)).described t.1).given).given ts rest z e (record { items = k.items; is = k.is; held = k.held }) in
                      let j = b.is in
                      record { word = b.word; all = b.all; is = record { items = j.items; is = j.is; held = j.held } };
                } in
                let b =
                (then-gives_only F.ends (list_ends l.next) F.value
                (FoldedFrom l steps (GivesFrom l.next l.value 0) i.0) F.stands_for
                (FoldedFrom l steps (ListFrom l.stands_for l.last 0) i.0) f.given one).given
                ts rest (i.0, z) e (i.1, i.2) in
                record { word = b.word; all = b.all; is = (i.0, b.is) };
          };
          each = λ u. then-takes_each F.ends (list_ends l.next) F.word _ F.follow l.follow (f.each u.0) (d.each u.1) u.2;
          decided = then-decided F.ends (list_ends l.next) F.word f.only F.moves f.further F.refused_from l.refused_from f.decided d.decided;
          further = then-further F.ends (list_ends l.next) F.word _ f.only d.only F.moves l.moves f.further d.further;
        };
    moving = λ e. elim (either-true F.moves l.moves e) [
      | inl x ↦ chained-first part (FoldsItems gives begins steps) (k.moving x) (folds-ends gives begins steps ends)
      | inr x ↦ chained-second part (FoldsItems gives begins steps) ep (λ a. (folds-accept a).moving x)
    ];
    sparing = λ q t. chained-spares part (FoldsItems gives begins steps) (k.sparing q t.0) (λ a. (folds-accept a).sparing q t.1);
  }

module _ {Tok S V A : Type 0} (l : ItemsLanguage Tok S V) (steps : V → A → A → Type 0) where
  -- the right fold of the items before a part, from its value
  abbrev pub foldr_language : Type 0 → Language Tok A → Language Tok A
  foldr_language quiet F = joined_language (list_language {C = A} l (λ ts v. ⊤) (λ w v. ⊤) quiet) F
      (λ ts z. (xs : List V) × (a : A) × FoldsRight steps a xs z × GivesFrom l.next l.value 0 xs ts × Ends (list_ends l.next ts) (λ rest. F.value rest a))
      (λ w z. (xs : List V) × (a : A) × FoldsRight steps a xs z × Joined (ListFrom l.stands_for l.last 0 xs) (λ u. F.stands_for u a) w)

module _ {Tok Cx St Er S V C A : Type 0} (gives : S → Meaning Tok Cx St Er (Next S V))
    (begins : Meaning Tok Cx St Er S) (holds : List V → C → Type 0) (quiet : Type 0) (part : Meaning Tok Cx St Er A)
    (steps : V → A → A → Type 0) (l : ItemsLanguage Tok S V) (F : Language Tok A)
    (one_list : (xs ys : List V) (c : C) → holds xs c → holds ys c → xs ≡ ys) where
  abbrev Folded : List Tok → A → Type 0
  Folded ts z = (xs : List V) × (a : A) × FoldsRight steps a xs z × GivesFrom l.next l.value 0 xs ts × Ends (list_ends l.next ts) (λ rest. F.value rest a)

  folded_there : (ts rest : List Tok) → list_ends l.next ts ≡ At rest → (c : Option C) (a z : Option A)
      → IfValue (Holding (GivesFrom l.next l.value 0) holds ts) c → IfValue (F.value rest) a
      → FoldsHeld holds steps c a z → IfValue (Folded ts) z
  folded_there ts rest e (Some c) (Some a) (Some z) i j k =
      let same : i.items ≡ k.0 = one_list i.items k.0 c i.held k.1 in
      (k.0, a, k.2, subst (λ xs. GivesFrom l.next l.value 0 xs ts) same i.is, ends_there (list_ends l.next ts) rest (λ r. F.value r a) e j)
  folded_there ts rest e (Some c) None (Some z) i j k = absurd (cc k)
  folded_there ts rest e None a (Some z) i j k = absurd (cc k)
  folded_there ts rest e c a None i j k = tt

  -- `foldr`
  pub foldr-accepts : {spare : Type 0} → ItemsEnd begins gives → EndsAfterStart part
      → AcceptsItems begins gives l spare → Accepts part F spare
      → Accepts (FoldsBack gives begins holds quiet part steps) (foldr_language l steps quiet F) spare
  foldr-accepts ends ep h k =
      let collects = collects-accepts gives begins l holds quiet h in
      record {
        described = λ s.
            let t = both-true l.said F.said s in
            let d = collects.described t.0 in
            let f = k.described t.1 in
            record {
              reads = record {
                here = λ b w.
                    let ts : List Tok = drop b.start b.tokens.list in
                    chained-here (Holding (GivesFrom l.next l.value 0) holds ts) (Folded ts)
                    (Collects gives begins holds quiet) (λ c. Chained part (FoldedBack holds steps c))
                    (list_ends l.next ts) F.ends b w (d.reads.here b w)
                    (λ c g y e i o m.
                    let rest : List Tok = drop g.start g.tokens.list in
                    let z : Answers (Folded ts) (and_then (λ us. At us) (F.ends rest)) g.tokens.list o.verdict o.end =
                    chained-here (F.value rest) (Folded ts) part (FoldedBack holds steps c) (F.ends rest) (λ us. At us) g y (f.reads.here g y)
                    (λ a q x e' j p n. given-here Er (Folded ts) q x n.value (folded_there ts rest e c a n.value i j n.is) p n.given) o m in
                    subst (λ x. Answers (Folded ts) x g.tokens.list o.verdict o.end) (and_then_some (F.ends rest)) z);
              };
              only = then-takes_only (list_ends l.next) F.ends _ F.word d.only f.only;
              given = record {
                given = λ ts rest z e i.
                    let list : GivesOnly (list_ends l.next) (λ ts xs. GivesFrom l.next l.value 0 xs ts)
                    (λ w xs. ListFrom l.stands_for l.last 0 xs w) =
                    record {
                      given = λ ts rest xs e g. let d = h.described t.0 in list-given l.next l.value
                          l.stands_for l.last d.given d.over ts rest xs e g;
                    }
                    in
                    let b =
                    (then-gives_only (list_ends l.next) F.ends (λ ts xs. GivesFrom l.next l.value 0 xs ts) F.value
                    (λ w xs. ListFrom l.stands_for l.last 0 xs w) F.stands_for list f.given).given
                    ts rest (i.0, i.1) e (i.3, i.4) in
                    record { word = b.word; all = b.all; is = (i.0, i.1, i.2, b.is) };
              };
              each = λ u. then-takes_each (list_ends l.next) F.ends _ F.word l.follow F.follow (d.each u.0) (f.each u.1) u.2;
              decided = then-decided (list_ends l.next) F.ends _ d.only l.moves d.further l.refused_from F.refused_from d.decided f.decided;
              further = then-further (list_ends l.next) F.ends _ F.word d.only f.only l.moves F.moves d.further f.further;
            };
        moving = λ e. elim (either-true l.moves F.moves e) [
          | inl x ↦ chained-first (Collects gives begins holds quiet) _ (collects.moving x) (λ c. chained-ends part _ ep (λ a b o m z. given-ends m.value b o m.given z))
          | inr x ↦ chained-second (Collects gives begins holds quiet) _ (collects-ends gives begins holds quiet ends)
              (λ c. chained-first part _ (k.moving x) (λ a b o m z. given-ends m.value b o m.given z))
        ];
        sparing = λ q t. chained-spares (Collects gives begins holds quiet) _ (collects.sparing q t.0) (λ c. chained-spares part _ (k.sparing q t.1) (λ a b o m. given-spares m.value b o m.given));
      }
