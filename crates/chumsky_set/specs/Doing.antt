-- Sets and their parts, in the words of their errors and of their states, and what their runs show.
-- Main words: DoesOffered, RowOf's row_and and each_row, RunsPass, RunsLast, RunsAnyOrder. Read first: AnyOrder.antt, Lists.antt.
use Rattle.std.specs.Prelude.{ℕ, Bool, Option, None, Result, List, IfOk, map, option_map}
use Rattle.chumsky_input.specs.declared.error.Error as error_trait
use Rattle.chumsky_input.specs.declared.inspector.Inspector as inspector_trait
use Rattle.chumsky_input.specs.declared.input.Input as input_trait
use Rattle.chumsky_input.specs.declared.input_ref.InputRef.{InputRef}
use Rattle.chumsky_input.specs.declared.stop.Fault.{Fault}
use Rattle.chumsky_input.specs.Run.{Runs}
use Rattle.chumsky_input.specs.Words.{Does}
use Rattle.chumsky_parser.specs.Chained.{Given}
use Rattle.chumsky_set.specs.AnyOrder.{Slot, Moving, Missing, Offered, no_part, part_and, each_part, all_still, AnyOrder, WithinRounds}
use Rattle.chumsky_set.specs.Passes.{RowOf, Lessens, slot_of}
use Rattle.chumsky_set.specs.Tuples.{flat_one, flat_two, flat_three, flat_four, Set1, Set2, Set3, Set4}
use Rattle.chumsky_set.specs.Lists.{each_stored, FormedAs, SetEach, SetStored, WithinEach}

module _ {I Tok Sp Er St Mk Cx V : Type 0} where
  -- a part whose yes counts only where it has moved
  abbrev pub DoesMoving : Does I Tok Sp Er St Mk Cx V → Does I Tok Sp Er St Mk Cx (Slot V)
  DoesMoving part errors states = Moving (part errors states)

  -- a part is taken where it says yes and has moved, and gone back from otherwise; what is taken stays
  abbrev pub DoesOffered : Does I Tok Sp Er St Mk Cx V → Slot V → Does I Tok Sp Er St Mk Cx (Slot V)
  DoesOffered part slot errors states = Offered states.mark states.back states.takes_no_memory (part errors states) slot

  -- a part that is not taken runs, and what is taken stays
  abbrev pub DoesMissing : Does I Tok Sp Er St Mk Cx V → Slot V → Does I Tok Sp Er St Mk Cx V
  DoesMissing part slot errors states = Missing (part errors states) slot

module _ {I Tok Sp Er St Mk Cx T V W : Type 0} where
  -- a part before a row of others
  abbrev pub row_and : Does I Tok Sp Er St Mk Cx V → RowOf I Tok Sp Er St Mk Cx T W → RowOf I Tok Sp Er St Mk Cx (Slot V × T) (V × W)
  row_and part others errors states = part_and states.mark states.back states.takes_no_memory (part errors states) (others errors states)

module _ {I Tok Sp Er St Mk Cx V P : Type 0} (meaning : P → Does I Tok Sp Er St Mk Cx V) where
  -- a row of parts of one kind; the list of their values may want memory
  abbrev pub each_row : List P → RowOf I Tok Sp Er St Mk Cx (List (Slot V)) (List V)
  each_row parts errors states = each_part states.mark states.back states.takes_no_memory (λ p. meaning p errors states) parts

  -- a row of parts of one kind, run for their values whatever is wanted; the values take no memory
  abbrev pub stored_row : List P → RowOf I Tok Sp Er St Mk Cx (List (Slot V)) (List V)
  stored_row parts errors states = each_stored states.mark states.back states.takes_no_memory (λ p. meaning p errors states) parts

module _ {I Tok Sp Er St Mk Cx V W P : Type 0} (meaning : P → Does I Tok Sp Er St Mk Cx V) (items : W → List V) where
  -- a set of the parts of a list, and one of those of an array
  abbrev pub DoesSetEach : List P → Does I Tok Sp Er St Mk Cx W
  DoesSetEach parts errors states = SetEach states.mark states.back states.takes_no_memory (λ p. meaning p errors states) items parts

  abbrev pub DoesSetStored : List P → Does I Tok Sp Er St Mk Cx W
  DoesSetStored parts errors states = SetStored states.mark states.back states.takes_no_memory (λ p. meaning p errors states) items parts

module _ {I Tok Sp Er St Mk Cx : Type 0} where
  -- one, two, three or four parts in any order
  abbrev pub DoesSet1 : {A : Type 0} → Does I Tok Sp Er St Mk Cx A → Does I Tok Sp Er St Mk Cx (record { 0 : A })
  DoesSet1 a errors states = Set1 states.mark states.back states.takes_no_memory (a errors states)

  abbrev pub DoesSet2 : {A B : Type 0} → Does I Tok Sp Er St Mk Cx A → Does I Tok Sp Er St Mk Cx B → Does I Tok Sp Er St Mk Cx (A × B)
  DoesSet2 a b errors states = Set2 states.mark states.back states.takes_no_memory (a errors states) (b errors states)

  abbrev pub DoesSet3 : {A B C : Type 0} → Does I Tok Sp Er St Mk Cx A → Does I Tok Sp Er St Mk Cx B → Does I Tok Sp Er St Mk Cx C → Does I Tok Sp Er St Mk Cx (A × B × C)
  DoesSet3 a b c errors states = Set3 states.mark states.back states.takes_no_memory (a errors states) (b errors states) (c errors states)

  abbrev pub DoesSet4 : {A B C D : Type 0} → Does I Tok Sp Er St Mk Cx A → Does I Tok Sp Er St Mk Cx B
      → Does I Tok Sp Er St Mk Cx C → Does I Tok Sp Er St Mk Cx D → Does I Tok Sp Er St Mk Cx (A × B × C × D)
  DoesSet4 a b c d errors states = Set4 states.mark states.back states.takes_no_memory (a errors states) (b errors states) (c errors states) (d errors states)

module _ {I X Tok Sp Cu Er St Cx Mk : Type 0} (source : input_trait.Ghosts I Cu Tok Sp) (errors : error_trait.Ghosts Er I Tok Sp) (states : inspector_trait.Ghosts St I Mk Tok Sp) where
  -- the run from `old` to `new`, asked for a value or not, shows one outcome of what is done
  abbrev pub RunsDoing : {V : Type 0} → Does I Tok Sp Er St Mk Cx V → Bool → InputRef I X Cu Tok Sp Er St Cx Mk → InputRef I X Cu Tok Sp Er St Cx Mk → Result (Option V) Fault → Type 0
  RunsDoing does wanted old new result = Runs source errors states (does errors states) wanted old new result

  -- it shows one of a round over a row, from what is taken of it
  abbrev pub RunsPass : {T V : Type 0} → RowOf I Tok Sp Er St Mk Cx T V → T → Bool → InputRef I X Cu Tok Sp Er St Cx Mk → InputRef I X Cu Tok Sp Er St Cx Mk → Result (Option T) Fault → Type 0
  RunsPass row taken wanted old new result = Runs source errors states ((row errors states).pass taken) wanted old new result

  -- it shows one of the last pass over a row
  abbrev pub RunsLast : {T V : Type 0} → RowOf I Tok Sp Er St Mk Cx T V → T → Bool → InputRef I X Cu Tok Sp Er St Cx Mk → InputRef I X Cu Tok Sp Er St Cx Mk → Result (Option V) Fault → Type 0
  RunsLast row taken wanted old new result = Runs source errors states ((row errors states).last taken) wanted old new result

  -- it shows one of rounds over a row, and the last pass
  abbrev pub RunsAnyOrder : {T V : Type 0} → RowOf I Tok Sp Er St Mk Cx T V → T → Bool → InputRef I X Cu Tok Sp Er St Cx Mk → InputRef I X Cu Tok Sp Er St Cx Mk → Result (Option V) Fault → Type 0
  RunsAnyOrder row taken wanted old new result = Runs source errors states (AnyOrder (row errors states) taken) wanted old new result

module _ {I Tok Sp Er St Mk Cx T V : Type 0} (errors : error_trait.Ghosts Er I Tok Sp) (states : inspector_trait.Ghosts St I Mk Tok Sp) where
  -- where a round answers that it took a part, fewer are left of the row, else as many
  abbrev pub LessensRow : RowOf I Tok Sp Er St Mk Cx T V → T → T → Result Bool Fault → Type 0
  LessensRow row before now result = IfOk result (Lessens ((row errors states).left before) ((row errors states).left now))

module _ {I Tok Sp Er St Mk Cx : Type 0} (errors : error_trait.Ghosts Er I Tok Sp) (states : inspector_trait.Ghosts St I Mk Tok Sp) where
  -- every outcome of the whole is one of fewer rounds than n, the one that takes none among them, and the last pass over
  -- one part, over two, over three or over four
  abbrev pub Set1Within : {A : Type 0} → ℕ → Does I Tok Sp Er St Mk Cx A → Does I Tok Sp Er St Mk Cx (record { 0 : A }) → Type 0
  Set1Within n a whole = WithinRounds (part_and states.mark states.back states.takes_no_memory (a errors states) no_part) n (None, tt) (λ v. Given (option_map flat_one v)) (whole errors states)

  abbrev pub Set2Within : {A B : Type 0} → ℕ → Does I Tok Sp Er St Mk Cx A → Does I Tok Sp Er St Mk Cx B → Does I Tok Sp Er St Mk Cx (A × B) → Type 0
  Set2Within n a b whole =
      WithinRounds (part_and states.mark states.back states.takes_no_memory (a errors states) (part_and states.mark states.back states.takes_no_memory (b errors states) no_part)) n (None, (None, tt))
      (λ v. Given (option_map flat_two v)) (whole errors states)

  abbrev pub Set3Within : {A B C : Type 0} → ℕ → Does I Tok Sp Er St Mk Cx A → Does I Tok Sp Er St Mk Cx B → Does I Tok Sp Er St Mk Cx C → Does I Tok Sp Er St Mk Cx (A × B × C) → Type 0
  Set3Within n a b c whole =
      let last = part_and states.mark states.back states.takes_no_memory (c errors states) no_part in
      WithinRounds
      (part_and states.mark states.back states.takes_no_memory (a errors states)
      (part_and states.mark states.back states.takes_no_memory (b errors states) last))
      n (None, (None, (None, tt)))
      (λ v. Given (option_map flat_three v)) (whole errors states)

  abbrev pub Set4Within : {A B C D : Type 0} → ℕ → Does I Tok Sp Er St Mk Cx A → Does I Tok Sp Er St Mk Cx B
      → Does I Tok Sp Er St Mk Cx C → Does I Tok Sp Er St Mk Cx D → Does I Tok Sp Er St Mk Cx (A × B × C × D) → Type 0
  Set4Within n a b c d whole =
      let last = part_and states.mark states.back states.takes_no_memory (c errors states) (part_and states.mark states.back states.takes_no_memory (d errors states) no_part) in
      WithinRounds
      (part_and states.mark states.back states.takes_no_memory (a errors states)
      (part_and states.mark states.back states.takes_no_memory (b errors states) last))
      n (None, (None, (None, (None, tt))))
      (λ v. Given (option_map flat_four v)) (whole errors states)

  -- the same of the parts of a list, where there may be no memory for the slots, and of those of an array
  abbrev pub EachWithin : {V W P : Type 0} → ℕ → (P → Does I Tok Sp Er St Mk Cx V) → (W → List V) → List P → Does I Tok Sp Er St Mk Cx W → Type 0
  EachWithin n meaning items parts whole = WithinEach states.mark states.back states.takes_no_memory (λ p. meaning p errors states) items parts n (whole errors states)

  abbrev pub StoredWithin : {V W P : Type 0} → ℕ → (P → Does I Tok Sp Er St Mk Cx V) → (W → List V) → List P → Does I Tok Sp Er St Mk Cx W → Type 0
  StoredWithin n meaning items parts whole =
      WithinRounds (each_stored states.mark states.back states.takes_no_memory (λ p. meaning p errors states) parts) n (map (λ _. None) parts) (FormedAs items) (whole errors states)

-- where a round answers that it took a part, fewer slots have nothing yet, else as many
abbrev pub LessensSlots : {R V : Type 0} → (R → Option V) → List (Option R) → List (Option R) → Result Bool Fault → Type 0
LessensSlots shown before now result = IfOk result (Lessens (all_still (map (slot_of shown) before)) (all_still (map (slot_of shown) now)))
