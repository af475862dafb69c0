-- What the body of a function has to be: a meaning whose answers do not end before their start and agree, and which accepts its
-- language. Each combinator makes such a meaning of such ones.
-- Main words: Lawful. Laws: ignored-lawful, between-lawful and their kin, in the order of the code.
use Rattle.std.proofs.Common.{◌≡◌, ℕ, Bool, true, false, Option, Some, None, List, subst, sym, ◌∙◌, ap}
use Rattle.std.specs.Prelude.{⊤}
use Rattle.std.specs.Borrow.{Bor}
use Rattle.std.specs.Str.{encode_utf8_all}
use Rattle.chumsky_input.specs.declared.error.Error as error_trait
use Rattle.chumsky_input.specs.declared.inspector.Inspector as inspector_trait
use Rattle.chumsky_input.specs.declared.input.Input as input_trait
use Rattle.chumsky_input.specs.Layout.{Layout}
use Rattle.chumsky_input.specs.Outcome.{Meaning, EndsAfterStart, Agreeing}
use Rattle.chumsky_input.specs.Wanted.{Wanted}
use Rattle.chumsky_parser.specs.Chained.{Given, Sequence, SamePair}
use Rattle.chumsky_parser.specs.Choice.{OrElse, SameEither}
use Rattle.chumsky_parser.specs.ChoiceLanguage.{or_language, or-accepts}
use Rattle.chumsky_parser.specs.ChoiceLaws.{or_else-ends, or_else-agrees, agree-weaker}
use Rattle.chumsky_parser.specs.Copied.{GivesCopy, BothCopies}
use Rattle.chumsky_parser.specs.FailureLaws.{SameCount, SameUnit}
use Rattle.chumsky_parser.specs.Ignoring.{Gives, IgnoringFirst, IgnoringSecond, Between}
use Rattle.chumsky_parser.specs.IgnoringLaws.{
  gives-ends,
  gives-agrees,
  copy-ends,
  copy-agrees,
  ignoring_first-ends,
  ignoring_first-agrees,
  ignoring_second-ends,
  ignoring_second-agrees,
  between-ends,
  between-agrees,
}
use Rattle.chumsky_parser.specs.Language.{Language, Accepts}
use Rattle.chumsky_parser.specs.Laws.{sequence-ends, sequence-agrees}
use Rattle.chumsky_parser.specs.SequenceLanguage.{then_language, then-accepts, ignore_then_language, ignore_then-accepts, then_ignore_language, then_ignore-accepts, between_language, between-accepts}
use Rattle.chumsky_primitive.specs.Any.{MeansAny, CountsAs}
use Rattle.chumsky_primitive.specs.AnyLaws.{any-ends, any-agrees}
use Rattle.chumsky_primitive.specs.Empty.{MeansEmpty}
use Rattle.chumsky_primitive.specs.EmptyLaws.{empty-ends, empty-agrees}
use Rattle.chumsky_primitive.specs.End.{MeansEnd}
use Rattle.chumsky_primitive.specs.EndLanguage.{end_language, end-accepts}
use Rattle.chumsky_primitive.specs.EndLaws.{end-ends, end-agrees}
use Rattle.chumsky_primitive.specs.Just.{MeansJust}
use Rattle.chumsky_primitive.specs.JustLaws.{just-ends, just-agrees}
use Rattle.chumsky_primitive.specs.OneOf.{MeansTested}
use Rattle.chumsky_primitive.specs.OneOfLaws.{tested-ends, tested-agrees}
use Rattle.chumsky_primitive.specs.PrimitiveLanguage.{literal_language, one_language, nothing_language}
use Rattle.chumsky_primitive.specs.PrimitiveLanguageLaws.{just-accepts, any-accepts, empty-accepts, tested-accepts}
use Rattle.chumsky_combinator.specs.Mapped.{Mapped, SameMapped}
use Rattle.chumsky_combinator.specs.MappedLanguage.{map_language, map-accepts, to_language, to-accepts, ignored_language, ignored-accepts}
use Rattle.chumsky_combinator.specs.MappedLaws.{mapped-ends, mapped-agrees}
use Rattle.chumsky_combinator.specs.Optional.{OrNone, SameOption}
use Rattle.chumsky_combinator.specs.OptionalLanguage.{or_not_language, or_not-accepts}
use Rattle.chumsky_combinator.specs.OptionalLaws.{or_none-ends, or_none-agrees}
use Rattle.chumsky_folds.specs.Folding.{FoldsFromPart, SameFolded}
use Rattle.chumsky_folds.specs.FoldingLaws.{folds_part-ends, folds_part-agree}
use Rattle.chumsky_folds.specs.FoldsLanguage.{foldl_language, foldl-accepts}
use Rattle.chumsky_items.specs.Consumers.{Collects, Counts, Passes, SameContents}
use Rattle.chumsky_items.specs.ConsumersLaws.{collects-ends, collects-agree, counts-ends, counts-agree, passes-ends, passes-agree}
use Rattle.chumsky_items.specs.ListLanguage.{collected_language, collects-accepts, counted_language, counts-accepts, plain_language, plain-accepts}
use Rattle.chumsky_items.specs.RepeatedLanguage.{repeated_language, repeated-accepts}
use Rattle.chumsky_items.specs.Repeating.{Repeats}
use Rattle.chumsky_items.specs.RepeatingLaws.{repeats-end, repeats-agree}
use Rattle.chumsky_items.specs.SeparatedLanguage.{separated_language, separated-accepts}
use Rattle.chumsky_items.specs.Separating.{Separates, Bounds}
use Rattle.chumsky_items.specs.SeparatingLaws.{separates-end, separates-agree}
use Rattle.chumsky_judge.specs.AndIs.{MeansAndIs, MeansRewind}
use Rattle.chumsky_judge.specs.AndIsLaws.{and_is-ends, and_is-agrees, rewind-ends, rewind-agrees}
use Rattle.chumsky_judge.specs.JudgedLanguage.{not_language, not-accepts, and_is_language, and_is-accepts, rewind_language, rewind-accepts}
use Rattle.chumsky_judge.specs.Not.{MeansNot}
use Rattle.chumsky_judge.specs.NotLaws.{not-ends, not-agrees}
use Rattle.chumsky_judge.specs.Picked.{picked_language, PicksByWord}
use Rattle.chumsky_judge.specs.PickedLaws.{picked-accepts}
use Rattle.chumsky_judge.specs.Tried.{ByPick, SamePick, SameFilterMapped, FilterMapsAlike}
use Rattle.chumsky_judge.specs.TriedLaws.{picks-alike}
use Rattle.chumsky_judge.specs.Vetted.{Vetted}
use Rattle.chumsky_judge.specs.VettedLaws.{vetted-ends, vetted-agrees}
use Rattle.chumsky_text.specs.Decimals.{unsigned_of, fixed_of, TextSlice, slice-bytes}
use Rattle.chumsky_text.specs.TextLanguage.{word_language, run_language, keyword_language, newline_language, padded_language}
use Rattle.chumsky_text.specs.TextLanguageLaws.{word-accepts, run-accepts, keyword-accepts, newline-accepts, padded-accepts}
use Rattle.chumsky_text.specs.TextRun.{MeansWord, MeansRun, MeansKeyword, MeansNewline, MeansPadded}
use Rattle.chumsky_text.specs.TextRunLaws.{
  word-ends,
  word-agrees,
  run-ends,
  run-agrees,
  keyword-ends,
  keyword-agrees,
  newline-ends,
  newline-agrees,
  padded-ends,
  padded-agrees,
}

-- any two values count as the same: of two answers the verdict, the errors and the place are compared
abbrev pub AnyTwo : {V : Type 0} → V → V → Type 0
AnyTwo v w = ⊤

pub loosely : {Tok Cx St Er V : Type 0} {m : Meaning Tok Cx St Er V} (same : V → V → Type 0) → Agreeing same m m → Agreeing AnyTwo m m
loosely same h b c o q alike m n a z = agree-weaker same AnyTwo (λ v w s. tt) o q (h b c o q alike m n a z)

-- no answer ends before its start, two answers agree, and the language is accepted, where errors and states take no memory if `spare` holds
pub record Lawful {Tok Cx St Er V : Type 0} (spare : Type 0) (m : Meaning Tok Cx St Er V) (l : Language Tok V) : Type 0 where
  pub ends : EndsAfterStart m
  pub agrees : Agreeing AnyTwo m m
  pub accepts : Accepts m l spare

module _ {Tok Cx St Er spare : Type 0} where
  module _ {V W : Type 0} {first : Meaning Tok Cx St Er V} {second : Meaning Tok Cx St Er W} {F : Language Tok V} {G : Language Tok W} (f : Lawful spare first F) (g : Lawful spare second G) where
    -- `first.then(second)`
    pub then-lawful : Lawful spare (Sequence first second) (then_language F G)
    then-lawful =
        record {
          ends = sequence-ends _ _ f.ends g.ends;
          agrees = loosely (SamePair AnyTwo AnyTwo) (sequence-agrees _ _ AnyTwo AnyTwo f.agrees g.agrees);
          accepts = then-accepts _ _ f.ends g.ends f.accepts g.accepts;
        }

    -- `first.ignore_then(second)`
    pub ignore_then-lawful : Lawful spare (IgnoringFirst first second) (ignore_then_language F G)
    ignore_then-lawful =
        record {
          ends = ignoring_first-ends _ _ f.ends g.ends;
          agrees = ignoring_first-agrees _ _ AnyTwo AnyTwo f.agrees g.agrees;
          accepts = ignore_then-accepts _ _ f.ends g.ends f.accepts g.accepts;
        }

    -- `first.then_ignore(second)`
    pub then_ignore-lawful : Lawful spare (IgnoringSecond first second) (then_ignore_language F G)
    then_ignore-lawful =
        record {
          ends = ignoring_second-ends _ _ f.ends g.ends;
          agrees = ignoring_second-agrees _ _ AnyTwo AnyTwo f.agrees g.agrees;
          accepts = then_ignore-accepts _ _ f.ends g.ends f.accepts g.accepts;
        }

  -- `part.delimited_by(opening, closing)`, and `part.padded_by(padding)`
  pub between-lawful : {U V W : Type 0} {opening : Meaning Tok Cx St Er U} {part : Meaning Tok Cx St Er V}
      {closing : Meaning Tok Cx St Er W} {O : Language Tok U} {F : Language Tok V} {C : Language Tok W}
      → Lawful spare opening O → Lawful spare part F → Lawful spare closing C → Lawful spare (Between opening part closing) (between_language O F C)
  between-lawful o p c =
      record {
        ends = between-ends _ _ _ o.ends p.ends c.ends;
        agrees = between-agrees _ _ _ AnyTwo AnyTwo AnyTwo o.agrees p.agrees c.agrees;
        accepts = between-accepts _ _ _ o.ends p.ends c.ends o.accepts p.accepts c.accepts;
      }

  module _ {V : Type 0} {part : Meaning Tok Cx St Er V} {F : Language Tok V} (p : Lawful spare part F) where
    -- `part.map_by(mapper)`
    pub map-lawful : {W : Type 0} {maps : V → W → Type 0} → Lawful spare (Mapped maps part) (map_language maps F)
    map-lawful {W} {maps} = record { ends = mapped-ends maps _ p.ends; agrees = loosely (SameMapped AnyTwo maps) (mapped-agrees maps _ AnyTwo p.agrees); accepts = map-accepts maps _ p.accepts }

    -- `part.to(value)`
    pub to-lawful : {W : Type 0} {copies : W → Type 0} {safe : Type 0} → Lawful spare (IgnoringFirst part (GivesCopy copies safe)) (to_language copies safe F)
    to-lawful {W} {copies} {safe} = record {
      ends = ignoring_first-ends _ _ p.ends (copy-ends copies safe);
      agrees = loosely (BothCopies copies) (ignoring_first-agrees _ _ AnyTwo (BothCopies copies) p.agrees (copy-agrees copies safe));
      accepts = to-accepts _ copies safe p.accepts;
    }

    -- `part.ignored()`
    pub ignored-lawful : Lawful spare (IgnoringFirst part (Gives (tt {0}))) (ignored_language F)
    ignored-lawful = record {
      ends = ignoring_first-ends _ _ p.ends (gives-ends tt);
      agrees = ignoring_first-agrees _ _ AnyTwo AnyTwo p.agrees (gives-agrees tt AnyTwo tt);
      accepts = ignored-accepts _ p.accepts;
    }

module _ {Tok Cx St Mk Er X safe : Type 0} {mark : St → Mk} {back : St → Mk → St} where
  module _ {V : Type 0} {part : Meaning Tok Cx St Er V} {F : Language Tok V} (p : Lawful (X × safe) part F) where
    -- `part.or_not()`
    pub or_not-lawful : Lawful (X × safe) (OrNone mark back safe part) (or_not_language F)
    or_not-lawful = record { ends = or_none-ends _ _ _ _ p.ends; agrees = loosely (SameOption AnyTwo) (or_none-agrees _ _ _ _ AnyTwo p.agrees); accepts = or_not-accepts _ _ (λ q. q.1) _ p.accepts }

    -- `part.repeated()`, collected
    pub repeated-lawful : {C : Type 0} {free : Bool} {least : ℕ} {most : Option ℕ} {holds : List V → C → Type 0} {quiet : Type 0}
        → Lawful (X × safe) (Collects (Repeats mark back safe part free least most) (Given (Some 0)) holds quiet) (collected_language (repeated_language F least most) holds quiet)
    repeated-lawful {C} {free} {least} {most} {holds} {quiet} = record {
      ends = collects-ends _ _ holds quiet (repeats-end mark back safe part free least most p.ends);
      agrees = loosely (SameContents AnyTwo holds) (collects-agree _ _ holds quiet AnyTwo SameCount (repeats-agree mark back safe part free least most AnyTwo p.agrees));
      accepts = collects-accepts _ _ (repeated_language F least most) holds quiet (repeated-accepts mark back safe part free least most F p.ends p.accepts);
    }

    -- `part.or(second)`
    pub or-lawful : {second : Meaning Tok Cx St Er V} {G : Language Tok V} → Lawful (X × safe) second G → Lawful (X × safe) (OrElse mark back safe part second) (or_language F G)
    or-lawful s = record {
      ends = or_else-ends _ _ _ _ _ p.ends s.ends;
      agrees = loosely (SameEither AnyTwo AnyTwo) (or_else-agrees _ _ _ _ _ AnyTwo AnyTwo p.agrees s.agrees);
      accepts = or-accepts _ _ (λ q. q.1) _ _ p.accepts s.accepts;
    }

    -- `part.separated_by(separator)`, collected
    pub separated-lawful : {U C : Type 0} {separator : Meaning Tok Cx St Er U} {G : Language Tok U} {d : Bounds} {holds : List V → C → Type 0} {quiet : Type 0} → Lawful (X × safe) separator G
        → Lawful (X × safe) (Collects (Separates mark back safe separator part d) (Given (Some 0)) holds quiet) (collected_language (separated_language G F d) holds quiet)
    separated-lawful {U} {C} {separator} {G} {d} {holds} {quiet} s = record {
      ends = collects-ends _ _ holds quiet (separates-end mark back safe separator part d s.ends p.ends);
      agrees = loosely (SameContents AnyTwo holds) (collects-agree _ _ holds quiet AnyTwo SameCount (separates-agree mark back safe separator part d AnyTwo AnyTwo s.agrees p.agrees));
      accepts = collects-accepts _ _ (separated_language G F d) holds quiet (separated-accepts mark back safe separator part d G F s.ends p.ends s.accepts p.accepts);
    }

    -- `part.repeated()`, as it stands; and its number of items
    pub plain-lawful : {least : ℕ} {most : Option ℕ}
        → Lawful (X × safe) (IgnoringFirst (Passes (Repeats mark back safe part false least most) (Given (Some 0)) (Unit {0})) (Gives (tt {0}))) (plain_language (repeated_language F least most))
    plain-lawful {least} {most} = record {
      ends = ignoring_first-ends _ _ (passes-ends _ _ (Unit {0}) (repeats-end mark back safe part false least most p.ends)) (gives-ends tt);
      agrees =
          ignoring_first-agrees _ _ AnyTwo AnyTwo
          (passes-agree _ _ AnyTwo SameCount AnyTwo (repeats-agree mark back safe part false least most AnyTwo p.agrees))
          (gives-agrees tt AnyTwo tt);
      accepts = plain-accepts _ _ _ (repeated-accepts mark back safe part false least most F p.ends p.accepts);
    }

    pub counted-lawful : {free : Bool} {least : ℕ} {most : Option ℕ}
        → Lawful (X × safe) (Counts (Repeats mark back safe part free least most) (Given (Some 0))) (counted_language (repeated_language F least most))
    counted-lawful {free} {least} {most} = record {
      ends = counts-ends _ _ (repeats-end mark back safe part free least most p.ends);
      agrees = loosely SameCount (counts-agree _ _ AnyTwo SameCount (repeats-agree mark back safe part free least most AnyTwo p.agrees));
      accepts = counts-accepts _ _ (repeated_language F least most) (repeated-accepts mark back safe part free least most F p.ends p.accepts);
    }

    -- `first.foldl(part.repeated(), folder)`
    pub foldl-lawful : {W : Type 0} {first : Meaning Tok Cx St Er W} {G : Language Tok W} {steps : W → V → W → Type 0}
        {free : Bool} {least : ℕ} {most : Option ℕ} → Lawful (X × safe) first G
        → Lawful (X × safe) (FoldsFromPart (Repeats mark back safe part free least most) (Given (Some 0)) steps first) (foldl_language (repeated_language F least most) steps G)
    foldl-lawful {W} {first} {G} {steps} {free} {least} {most} f = record {
      ends = folds_part-ends _ _ steps first (repeats-end mark back safe part free least most p.ends) f.ends;
      agrees =
          loosely (SameFolded AnyTwo AnyTwo steps)
          (folds_part-agree _ _ steps first AnyTwo AnyTwo SameCount (repeats-agree mark back safe part free least most AnyTwo p.agrees) f.agrees);
      accepts =
          foldl-accepts _ _ steps (repeated_language F least most)
          (repeated-accepts mark back safe part free least most F p.ends p.accepts) first G
          (repeats-end mark back safe part free least most p.ends) f.ends f.accepts;
    }

    -- `part.and_is(other)`
    pub and_is-lawful : {W : Type 0} {other : Meaning Tok Cx St Er W} {G : Language Tok W} → Lawful (X × safe) other G
        → Lawful (X × safe) (MeansAndIs mark back safe part other) (and_is_language F G)
    and_is-lawful s = record {
      ends = and_is-ends _ _ _ _ _ p.ends s.ends;
      agrees = and_is-agrees _ _ _ _ _ AnyTwo AnyTwo p.agrees s.agrees;
      accepts = and_is-accepts _ _ (λ q. q.1) _ _ p.accepts s.accepts;
    }

-- `just(value)`, of these members
pub just-lawful : {I Tok Sp Cu Er St Mk Cx V : Type 0} (members : List Tok) (source : input_trait.Ghosts I Cu Tok Sp)
    (equal : Tok → Tok → Bool) (errors : error_trait.Ghosts Er I Tok Sp)
    (states : inspector_trait.Ghosts St I Mk Tok Sp)
    (copies : V → Type 0) (safe : Type 0)
    → Lawful (errors.takes_no_memory × states.takes_no_memory)
    (MeansJust {Cx = Cx} source equal errors states copies safe members)
    (literal_language equal members copies safe)
just-lawful members source equal errors states copies safe = record {
  ends = just-ends source equal errors states copies safe members;
  agrees = loosely (BothCopies copies) (just-agrees source equal errors states copies safe members);
  accepts = just-accepts source equal errors states copies safe members;
}

-- `empty()`
pub empty-lawful : {Tok Cx St Er spare : Type 0} → Lawful spare (MeansEmpty {Tok = Tok} {Cx = Cx} {St = St} {Er = Er}) nothing_language
empty-lawful = record { ends = empty-ends; agrees = loosely SameUnit empty-agrees; accepts = empty-accepts }

module _ {I Tok Sp Cu Er St Mk Cx : Type 0} {source : input_trait.Ghosts I Cu Tok Sp} {errors : error_trait.Ghosts Er I Tok Sp} {states : inspector_trait.Ghosts St I Mk Tok Sp} where
  -- `any()`
  pub any-lawful : {V : Type 0} {IsOf : Tok → V → Type 0} {safe : Tok → Type 0}
      → Lawful (errors.takes_no_memory × states.takes_no_memory)
      (MeansAny {Cx = Cx} source IsOf safe errors states) (one_language (λ t. true) IsOf ((t : Tok) → safe t))
  any-lawful {V} {IsOf} {safe} = record {
    ends = any-ends source IsOf safe errors states;
    agrees = any-agrees source IsOf safe errors states AnyTwo (λ t v w e d. tt);
    accepts = any-accepts source IsOf safe errors states;
  }

  -- a token by a test: `one_of(members)`, `none_of(members)`
  pub one-lawful : {S : Type 0} {seen : Tok → S} {safe : Tok → Type 0} {test : Tok → Bool} {what : List (Wanted Tok)}
      → Lawful (errors.takes_no_memory × states.takes_no_memory)
      (MeansTested {Cx = Cx} source seen safe errors states test what) (one_language test (CountsAs seen) ((t : Tok) → safe t))
  one-lawful {S} {seen} {safe} {test} {what} = record {
    ends = tested-ends source seen safe errors states what test;
    agrees = loosely (λ x y. seen x ≡ seen y) (tested-agrees source seen safe errors states what test);
    accepts = tested-accepts source errors states seen safe test what;
  }

  -- `end()`
  pub end-lawful : Lawful (errors.takes_no_memory × states.takes_no_memory) (MeansEnd {Cx = Cx} source errors states) end_language
  end-lawful = record { ends = end-ends source errors states; agrees = loosely SameUnit (end-agrees source errors states); accepts = end-accepts source errors states }

  module _ {V : Type 0} {part : Meaning Tok Cx states.Seen errors.Seen V} {F : Language Tok V} (p : Lawful (errors.takes_no_memory × states.takes_no_memory) part F) where
    -- `part.not()`
    pub not-lawful : Lawful (errors.takes_no_memory × states.takes_no_memory) (MeansNot source errors states part) (not_language F)
    not-lawful = record {
      ends = not-ends source errors states part p.ends;
      agrees = loosely SameUnit (not-agrees source errors states part AnyTwo p.agrees);
      accepts = not-accepts source errors states part p.accepts;
    }

-- `part.padded()`
pub padded-lawful : {I Tok Sp Er St Mk Cx V spare : Type 0} {errors : error_trait.Ghosts Er I Tok Sp} {states : inspector_trait.Ghosts St I Mk Tok Sp} {test : Tok → Bool}
    {part : Meaning Tok Cx states.Seen errors.Seen V} {F : Language Tok V} → Lawful spare part F → Lawful spare (MeansPadded errors states test part) (padded_language test F)
padded-lawful {errors = errors} {states = states} {test = test} {part = part} p = record {
  ends = padded-ends errors states test part p.ends;
  agrees = padded-agrees errors states test part AnyTwo p.agrees;
  accepts = padded-accepts errors states test part p.ends p.accepts;
}

-- `part.rewind()`
pub rewind-lawful : {Tok Cx St Er V spare : Type 0} {merged : Er → Er → Er} {part : Meaning Tok Cx St Er V} {F : Language Tok V}
    → Lawful spare part F → Lawful spare (MeansRewind merged part) (rewind_language F)
rewind-lawful {merged = merged} {part = part} p = record {
  ends = rewind-ends merged part p.ends;
  agrees = rewind-agrees merged part AnyTwo p.agrees;
  accepts = rewind-accepts merged part p.accepts;
}

module _ {I Tok Sp Cu Er St Cx : Type 0} {source : input_trait.Ghosts I Cu Tok Sp} {errors : error_trait.Ghosts Er I Tok Sp} where
  -- what judges a part by a picker that decides by the word: `part.pick_by(picker)`
  pub pick-lawful : {V W : Type 0} {part : Meaning Tok Cx St errors.Seen V} {F : Language Tok V} {gives : V → Option W → Type 0} {picks : List Tok → Option W} {still : Type 0} (same : V → V → Type 0)
      → Agreeing same part part → FilterMapsAlike same gives → PicksByWord picks F.stands_for gives → Lawful (errors.takes_no_memory × still) part F
      → Lawful (errors.takes_no_memory × still) (Vetted errors.merged errors.takes_no_memory (ByPick source errors gives) part) (picked_language picks F)
  pick-lawful {V} {W} {part} {F} {gives} {picks} same agrees alike by_word p = record {
    ends = vetted-ends errors.merged errors.takes_no_memory (ByPick source errors gives) part p.ends;
    agrees =
        loosely (SameFilterMapped same gives)
        (vetted-agrees errors.merged errors.takes_no_memory (ByPick source errors gives) part same
        (SameFilterMapped same gives) agrees (picks-alike source errors same gives alike));
    accepts = picked-accepts source errors part gives picks by_word p.accepts;
  }

module _ {I Tok Sp Cu Er St Mk Cx : Type 0} {source : input_trait.Ghosts I Cu Tok Sp} {errors : error_trait.Ghosts Er I Tok Sp} {states : inspector_trait.Ghosts St I Mk Tok Sp} where
  module _ {W : Type 0} {is : Layout Tok → ℕ → ℕ → W → Type 0} where
    -- `text::int(10)`, `text::ascii::ident()` and their kin
    pub word-lawful : {begins : Tok → Bool} {goes_on : Tok → Tok → Bool} {what : List (Wanted Tok)} {rest_what : Tok → List (Wanted Tok)}
        → Lawful (errors.takes_no_memory × states.takes_no_memory) (MeansWord {Cx = Cx} source is errors states begins goes_on what rest_what) (word_language is begins goes_on)
    word-lawful {begins} {goes_on} {what} {rest_what} = record {
      ends = word-ends source is errors states begins goes_on what rest_what;
      agrees = word-agrees source is errors states AnyTwo (λ ts i j v w e d. tt) begins goes_on what rest_what;
      accepts = word-accepts source is errors states begins goes_on what rest_what;
    }

    -- `text::whitespace()` and other runs
    pub run-lawful : {test : Tok → Bool} {what : List (Wanted Tok)}
        → Lawful (errors.takes_no_memory × states.takes_no_memory)
        (MeansRun {Cx = Cx} source is errors states test what) (run_language is test)
    run-lawful {test} {what} =
        record {
          ends = run-ends source is errors states test what;
          agrees = run-agrees source is errors states AnyTwo (λ ts i j v w e d. tt) test what;
          accepts = run-accepts source is errors states test what;
        }

    -- `text::keyword(word)`
    pub keyword-lawful : {spells : List Tok → Bool} {begins : Tok → Bool} {goes_on : Tok → Tok → Bool} {what : List (Wanted Tok)}
        → Lawful (errors.takes_no_memory × states.takes_no_memory) (MeansKeyword {Cx = Cx} source is errors states spells begins goes_on what) (keyword_language is spells begins goes_on)
    keyword-lawful {spells} {begins} {goes_on} {what} = record {
      ends = keyword-ends source is errors states spells begins goes_on what;
      agrees = keyword-agrees source is errors states AnyTwo (λ ts i j v w e d. tt) spells begins goes_on what;
      accepts = keyword-accepts source is errors states begins goes_on what spells;
    }

    -- `text::newline()`
    pub newline-lawful : {begins : Tok → Bool} {goes_on : Tok → Tok → Bool} {what : List (Wanted Tok)}
        → Lawful (errors.takes_no_memory × states.takes_no_memory) (MeansNewline {Cx = Cx} source is errors states begins goes_on what) (newline_language is begins goes_on)
    newline-lawful {begins} {goes_on} {what} = record {
      ends = newline-ends source is errors states begins goes_on what;
      agrees = newline-agrees source is errors states AnyTwo (λ ts i j v w e d. tt) begins goes_on what;
      accepts = newline-accepts source is errors states begins goes_on what;
    }

same_pick : {W : Type 0} (x : Option W) → SamePick (λ _ _. ⊤) x x
same_pick (Some w) = tt
same_pick None = tt

module _ {I Sp Cu Er St Mk Cx : Type 0} {source : input_trait.Ghosts I Cu ℕ Sp} {errors : error_trait.Ghosts Er I ℕ Sp} {states : inspector_trait.Ghosts St I Mk ℕ Sp} where
  -- a run of characters by a picker that decides by its bytes
  pub bytes-lawful : {W : Type 0} (picks : List ℕ → Option W) {begins : ℕ → Bool} {goes_on : ℕ → ℕ → Bool} {what : List (Wanted ℕ)} {rest_what : ℕ → List (Wanted ℕ)}
      → Lawful (errors.takes_no_memory × states.takes_no_memory)
      (Vetted errors.merged errors.takes_no_memory
      (ByPick source errors (λ (text : Bor (List ℕ)) picked. picked ≡ picks text.now))
      (MeansWord {Cx = Cx} source (TextSlice (λ s. s.now)) errors states begins goes_on what rest_what))
      (picked_language (λ w. picks (encode_utf8_all w)) (word_language {V = Bor (List ℕ)} (TextSlice (λ s. s.now)) begins goes_on))
  bytes-lawful picks {begins} {goes_on} {what} {rest_what} =
      let SameText : Bor (List ℕ) → Bor (List ℕ) → Type 0 = λ v w. v.now ≡ w.now in
      pick-lawful SameText
      (word-agrees source (TextSlice (λ s. s.now)) errors states SameText (λ ts i j v w e d. e ∙ sym d) begins goes_on what rest_what)
      (λ v w x y e g h. subst (SamePick (λ _ _. ⊤) x) (g ∙ ap picks e ∙ sym h) (same_pick x))
      (λ w v x s g. g ∙ ap picks (slice-bytes (λ t. t.now) w v s.1))
      word-lawful

  -- `text::int(10).pick_by(text::decimal::<u32>())`, of 32 bits, and its kin
  pub decimal-lawful : (bits : ℕ) {begins : ℕ → Bool} {goes_on : ℕ → ℕ → Bool} {what : List (Wanted ℕ)} {rest_what : ℕ → List (Wanted ℕ)}
      → Lawful (errors.takes_no_memory × states.takes_no_memory)
      (Vetted errors.merged errors.takes_no_memory
      (ByPick source errors (λ (digits : Bor (List ℕ)) picked. picked ≡ unsigned_of bits digits.now))
      (MeansWord {Cx = Cx} source (TextSlice (λ s. s.now)) errors states begins goes_on what rest_what))
      (picked_language (λ w. unsigned_of bits (encode_utf8_all w)) (word_language {V = Bor (List ℕ)} (TextSlice (λ s. s.now)) begins goes_on))
  decimal-lawful bits = bytes-lawful (unsigned_of bits)

  -- `text::digits(10).pick_by(Fixed { digits, least, most })`
  pub fixed-lawful : (digits least most : ℕ) {begins : ℕ → Bool} {goes_on : ℕ → ℕ → Bool} {what : List (Wanted ℕ)} {rest_what : ℕ → List (Wanted ℕ)}
      → Lawful (errors.takes_no_memory × states.takes_no_memory)
      (Vetted errors.merged errors.takes_no_memory
      (ByPick source errors (λ (text : Bor (List ℕ)) picked. picked ≡ fixed_of digits least most text.now))
      (MeansWord {Cx = Cx} source (TextSlice (λ s. s.now)) errors states begins goes_on what rest_what))
      (picked_language (λ w. fixed_of digits least most (encode_utf8_all w)) (word_language {V = Bor (List ℕ)} (TextSlice (λ s. s.now)) begins goes_on))
  fixed-lawful digits least most = bytes-lawful (fixed_of digits least most)
