-- For what runs of grammars by rules are refused: for memory alone, where their leaves are.
-- Main words: LacksRoom, IsDecided, HaltWhereDecided. Main laws: refused-for_room, halts-for_memory, refused-for_memory. Read first: Rules.antt.
use Rattle.std.proofs.Common.{◌≡◌, ◌≤◌, ◌<◌, ◌^◌, ◌⊎◌, inl, inr, ℕ, Bool, true, Option, Some, None, List, length, drop, slice_get, refl, sym, ap, subst, arith}
use Rattle.std.specs.List.{AllByRecursion}
use Rattle.std.specs.Str.{chars, IsUtf8}
use Rattle.std.proofs.lemmas.Str.{encodes-chars, length-le-encodes}
use Rattle.chumsky_input.specs.Layout.{Layout}
use Rattle.chumsky_input.specs.Outcome.{Meaning, Beginning, Outcome, Verdict, Halt}
use Rattle.chumsky_input.specs.declared.stop.Stop.{Stop}
use Rattle.chumsky_input.specs.declared.stop.Stop.TheVariants.{Memory}
use Rattle.chumsky_parser.specs.Ending.{Within, Answers}
use Rattle.chumsky_parser.specs.Language.{Language, Accepts, IsBelow}
use Rattle.chumsky_rules.specs.Tables.{Tables}
use Rattle.chumsky_rules.specs.Empty.{IsMarked}
use Rattle.chumsky_recursive.specs.Leaves.{listed_leaf}
use Rattle.chumsky_recursive.specs.Unfounded.{RefusesFounded}
use Rattle.chumsky_recursive.specs.declared.founded.FoundedError.{FoundedError}
use Rattle.chumsky_recursive.specs.declared.founded.FoundedError.TheVariants as founded
use Rattle.chk_run.specs.declared.show.Refusal.{Refusal}
use Rattle.chk_run.specs.declared.show.Refusal.TheVariants as reason
use Rattle.chk_run.specs.Rules.{MakesGrammar}
use Rattle.chk_run.specs.RulesLaws.{at_place, closes}
use Rattle.chumsky_recursive.specs.Refused.{RefusesAsLeaves}

-- for want of room: for memory, or since no `usize` holds the limit of rules for so long a text
abbrev pub LacksRoom : Refusal → Type 0
LacksRoom (reason.Run stop) = stop ≡ Memory
LacksRoom (reason.Rules error) = (error ≡ founded.Memory) ⊎ (error ≡ founded.LimitTooLarge)

-- rules that make a grammar over leaves of which none may be empty make one, but for that
pub refused-for_room : (g : Tables) (leaves : List Bool) (start count tokens : ℕ) (e : FoundedError) → MakesGrammar g start count
    → ((n : ℕ) → IsMarked leaves n → ⊥) → RefusesFounded g leaves start count tokens e → LacksRoom (reason.Rules e)
refused-for_room g leaves start count tokens (founded.Close e) m none r = absurd (closes g start count e m r)
refused-for_room g leaves start count tokens founded.Memory m none r = inl refl
refused-for_room g leaves start count tokens (founded.EmptyRound n) m none r = let f = m.founded leaves none in absurd (f.rounds n r.1.holds)
refused-for_room g leaves start count tokens (founded.LeftCycle n) m none r = let f = m.founded leaves none in absurd (f.cycles n r.1.1.holds)
refused-for_room g leaves start count tokens founded.LimitTooLarge m none r = inr refl

-- of each text it is known whether it is accepted
abbrev pub IsDecided : {Tok V : Type 0} → Language Tok V → Type 0
IsDecided l = (l.said ≡ true) × (l.refused_from ≡ None)

-- a text has no more characters than bytes
pub chars-few : (text : List ℕ) → IsUtf8 text → length (chars text) ≤ length text
chars-few text u = let few = length-le-encodes (chars text) in let all = ap length (encodes-chars text u) in omega (arith, few, all)

-- begun within its tokens it halts for memory alone
abbrev pub HaltsForMemory : {Tok Cx St Er V : Type 0} → Meaning Tok Cx St Er V → Type 0
HaltsForMemory {Tok} {Cx} {St} {Er} {V} m = (b : Beginning Tok Cx St) (o : Outcome V Er St) (s : Stop) → Within b → m b o → o.verdict ≡ Halt s → s ≡ Memory

module _ {Tok Cx St Er V : Type 0} where
  -- so does a parser of such a language
  pub halts-for_memory : {m : Meaning Tok Cx St Er V} {l : Language Tok V} {spare : Type 0} → Accepts m l spare → IsDecided l → HaltsForMemory m
  halts-for_memory {l = l} a k b o s w meant h =
      let d = a.described k.0 in
      let ts = drop b.start b.tokens.list in
      let x = l.ends ts in
      let halted : Verdict V Er = Halt s in
      let answers : Answers (l.value ts) x b.tokens.list halted o.end = subst (λ v. Answers (l.value ts) x b.tokens.list v o.end) h (d.reads.here b w o meant) in
      elim answers [ inl e ↦ e | inr r ↦ absurd (d.decided ts (subst (λ n. IsBelow n (length ts)) (sym k.1) tt) r) ]

-- each of these parsers halts for memory alone, where its language is so
pub record HaltWhereDecided {P Tok Cx St Er V : Type 0} (meaning : P → Meaning Tok Cx St Er V) (language : P → Language Tok V) : Type 0 where
  pub halts : (p : P) → IsDecided (language p) → HaltsForMemory (meaning p)

module _ {P Tok Cx St Er V : Type 0} {meaning : P → Meaning Tok Cx St Er V} {language : P → Language Tok V} (each : HaltWhereDecided meaning language) where
  leaf_halts : (found : Option P) → ((p : P) → found ≡ Some p → IsDecided (language p)) → HaltsForMemory (listed_leaf meaning found)
  leaf_halts None k b o s w m h = absurd m
  leaf_halts (Some p) k b o s w m h = each.halts p (k p refl) b o s w m h

  -- rules over such leaves are refused for memory alone
  pub refused-for_memory : (leaves : List P) → AllByRecursion (λ p. IsDecided (language p)) leaves → (g : Tables) (ts : Layout Tok) → length ts.list < 2 ^ 64
      → (s : Stop) → RefusesAsLeaves (λ n. listed_leaf meaning (slice_get leaves n)) g ts s → s ≡ Memory
  refused-for_memory leaves all g ts few s (inl e) = e
  refused-for_memory leaves all g ts few s (inr h) =
      let start : h.begun.start ≤ length h.begun.tokens.list = subst (λ (t : Layout Tok). h.begun.start ≤ length t.list) (sym h.on) h.there in
      let short : length h.begun.tokens.list < 2 ^ 64 = subst (λ (t : Layout Tok). length t.list < 2 ^ 64) (sym h.on) few in
      leaf_halts (slice_get leaves h.number) (at_place (λ p. IsDecided (language p)) leaves all h.number) h.begun h.out s (record { start = start; few = short }) h.meant h.halts
