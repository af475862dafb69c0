-- Where a reading stands: among the tokens of its goal; and the answer where nothing waits.
use Rattle.std.proofs.Common.{◌≡◌, ℕ, ◌≤◌, Bool, Option, List, [], ◌∷◌, ◌++◌, reverse, ap, sym, ◌∙◌, subst, Result, Ok, Err, IfOk, Some, None, arith}
use Rattle.chumsky_input.specs.declared.error.Error as error_trait
use Rattle.chumsky_input.specs.declared.inspector.Inspector as inspector_trait
use Rattle.chumsky_input.specs.declared.input.Input as input_trait
use Rattle.chumsky_input.specs.declared.stop.Fault.{Fault}
use Rattle.chumsky_input.specs.Held.{Held, marks}
use Rattle.chumsky_input.specs.Outcome.{EndsAfterStart}
use Rattle.chumsky_input.specs.Run.{Ran}
use Rattle.chumsky_pratt.specs.declared.machine.Frame.{Frame}
use Rattle.chumsky_pratt.specs.declared.machine.Frame.TheVariants as frame
use Rattle.chumsky_pratt.specs.declared.machine.PrefixFrame.{PrefixFrame}
use Rattle.chumsky_pratt.specs.declared.machine.InfixFrame.{InfixFrame}
use Rattle.chumsky_pratt.specs.declared.machine.Todo.{Todo}
use Rattle.chumsky_pratt.specs.declared.machine.Todo.TheVariants as todo
use Rattle.chumsky_pratt.specs.Expression.{Syntax, Expression}
use Rattle.chumsky_pratt.specs.Kinds.{answer_of}
use Rattle.chumsky_pratt.specs.Showing.{shown_by}
use Rattle.chumsky_pratt.specs.Climbing.{Begun, whole, Waits, Climbs}
use Rattle.chumsky_pratt.proofs.AnswerLemmas.{heard}
use Rattle.chumsky_pratt.proofs.ClimbLemmas.{expressed, prefix_tokens, prefix_order}
use Rattle.chumsky_pratt.proofs.RoundLemmas.{infix_tokens}

module _ {I Tok Sp Cu Er St Cx Mk F V A B : Type 0} (source : input_trait.Ghosts I Cu Tok Sp)
    (errors : error_trait.Ghosts Er I Tok Sp) (states : inspector_trait.Ghosts St I Mk Tok Sp)
    (s : Syntax Tok Cx states.Seen states.Marked errors.Seen F V) (wanted : Bool) (shown : A → Option V)
    (found : B → Option F) where
  waits_tokens : (fs : List (Frame A B Cu Mk)) (goal inner : Begun Tok Cx states.Seen errors.Seen)
      → Waits source errors states s wanted shown found goal fs inner → inner.held.tokens ≡ goal.held.tokens
  waits_tokens [] goal inner w = ap (λ (z : Begun Tok Cx states.Seen errors.Seen). z.held.tokens) w
  waits_tokens (frame.Before p ∷ fs) goal inner w = w.2.read.tokens ∙ waits_tokens fs goal w.0 w.3
  waits_tokens (frame.Between p ∷ fs) goal inner w = w.2.read.tokens ∙ waits_tokens fs goal w.0 w.3

  pub climbs_tokens : (fs : List (Frame A B Cu Mk)) (goal : Begun Tok Cx states.Seen errors.Seen)
      (now : Held Tok Cx states.Seen errors.Seen) (next : Todo A Cu Mk)
      → Climbs source errors states s wanted shown found goal fs now next → now.tokens ≡ goal.held.tokens
  climbs_tokens fs goal now (todo.Begin least) w = waits_tokens fs goal (record { least = least; held = now }) w
  climbs_tokens fs goal now (todo.Prefixes p) w = w.2.tokens ∙ waits_tokens fs goal w.0 w.3
  climbs_tokens fs goal now (todo.Value p) w = w.2.tokens ∙ waits_tokens fs goal w.0 w.3
  climbs_tokens fs goal now (todo.Postfixes p) w = w.2.tokens ∙ waits_tokens fs goal w.0 w.3
  climbs_tokens fs goal now (todo.Infixes p) w = w.2.tokens ∙ waits_tokens fs goal w.0 w.3
  climbs_tokens fs goal now (todo.Answer r) w = w.1.same.tokens ∙ waits_tokens fs goal w.0 w.2

  -- where nothing waits, the answer is that of the expression
  pub climbed : (fs : List (Frame A B Cu Mk)) (least : ℕ) (begun now : Held Tok Cx states.Seen errors.Seen) (r : Result A Fault)
      → fs ≡ []
      → Climbs source errors states s wanted shown found (record { least = least; held = begun }) (reverse fs) now (todo.Answer r)
      → Ran errors.merged errors.takes_no_memory (Expression s least) wanted begun now (shown_by shown r)
  climbed fs least begun now r e w =
      let goal : Begun Tok Cx states.Seen errors.Seen = record { least = least; held = begun } in
      let k : Waits source errors states s wanted shown found goal [] w.0 = subst (λ gs. Waits source errors states s wanted shown found goal (reverse gs) w.0) e w.2 in
      expressed errors.merged errors.takes_no_memory s wanted begun now (shown_by shown r) least
      (subst
      (λ (z : Begun Tok Cx states.Seen errors.Seen). Ran errors.merged errors.takes_no_memory
      (whole errors.merged errors.takes_no_memory s wanted z) wanted z.held now (shown_by shown r))
      k w.1)

  -- what the last frame would go back to stands among the tokens of the run
  pub last_prefix_tokens : (goal : Begun Tok Cx states.Seen errors.Seen) (old new : List (Frame A B Cu Mk))
      (p : PrefixFrame B Cu Mk) (now : Held Tok Cx states.Seen errors.Seen) (r : Result A Fault)
      → old ≡ new ++ frame.Before p ∷ []
      → Climbs source errors states s wanted shown found goal (reverse old) now (todo.Answer r) → (marks source states p.before).tokens ≡ now.tokens
  last_prefix_tokens goal old new p now r e w =
      let k : Climbs source errors states s wanted shown found goal (frame.Before p ∷ reverse new) now (todo.Answer r) =
      heard source errors states s wanted shown found goal old new (frame.Before p) now (todo.Answer r) e w in
      prefix_tokens _ _ _ _ k.2.0 _ _ _ _ k.2.2 k.1

  pub last_infix_tokens : (goal : Begun Tok Cx states.Seen errors.Seen) (old new : List (Frame A B Cu Mk))
      (p : InfixFrame A B Cu Mk) (now : Held Tok Cx states.Seen errors.Seen) (r : Result A Fault)
      → old ≡ new ++ frame.Between p ∷ []
      → Climbs source errors states s wanted shown found goal (reverse old) now (todo.Answer r) → (marks source states p.before).tokens ≡ now.tokens
  last_infix_tokens goal old new p now r e w =
      let k : Climbs source errors states s wanted shown found goal (frame.Between p ∷ reverse new) now (todo.Answer r) =
      heard source errors states s wanted shown found goal old new (frame.Between p) now (todo.Answer r) e w in
      infix_tokens _ _ _ _ k.2.0 _ _ _ _ _ _ _ k.2.2 k.1

  -- where its expression began stands among them too, and not past where the run stands; that of an infix operator not past
  -- where the operator began
  pub last_prefix_since : (goal : Begun Tok Cx states.Seen errors.Seen) (old new : List (Frame A B Cu Mk))
      (p : PrefixFrame B Cu Mk) (now : Held Tok Cx states.Seen errors.Seen) (r : Result A Fault)
      → old ≡ new ++ frame.Before p ∷ []
      → Climbs source errors states s wanted shown found goal (reverse old) now (todo.Answer r) → source.cursor_tokens p.level.start ≡ now.tokens
  last_prefix_since goal old new p now r e w =
      let k : Climbs source errors states s wanted shown found goal (frame.Before p ∷ reverse new) now (todo.Answer r) =
      heard source errors states s wanted shown found goal old new (frame.Before p) now (todo.Answer r) e w in
      k.2.1.tokens ∙ sym k.2.2.read.tokens ∙ sym k.1.same.tokens

  pub last_infix_since : (goal : Begun Tok Cx states.Seen errors.Seen) (old new : List (Frame A B Cu Mk))
      (p : InfixFrame A B Cu Mk) (now : Held Tok Cx states.Seen errors.Seen) (r : Result A Fault)
      → old ≡ new ++ frame.Between p ∷ []
      → Climbs source errors states s wanted shown found goal (reverse old) now (todo.Answer r) → source.cursor_tokens p.level.start ≡ now.tokens
  last_infix_since goal old new p now r e w =
      let k : Climbs source errors states s wanted shown found goal (frame.Between p ∷ reverse new) now (todo.Answer r) =
      heard source errors states s wanted shown found goal old new (frame.Between p) now (todo.Answer r) e w in
      k.2.1.tokens ∙ sym k.2.2.read.tokens ∙ sym k.1.same.tokens

  pub last_prefix_order : EndsAfterStart s.atom → ((i : ℕ) → EndsAfterStart (s.reads i))
      → (goal : Begun Tok Cx states.Seen errors.Seen) (old new : List (Frame A B Cu Mk)) (p : PrefixFrame B Cu Mk)
      (now : Held Tok Cx states.Seen errors.Seen) (r : Result A Fault)
      → old ≡ new ++ frame.Before p ∷ []
      → Climbs source errors states s wanted shown found goal (reverse old) now (todo.Answer r) → IfOk r (λ _. source.place p.level.start ≤ now.place)
  last_prefix_order atom_ends reads_end goal old new p now (Ok a) e w =
      let k : Climbs source errors states s wanted shown found goal (frame.Before p ∷ reverse new) now (todo.Answer (Ok a)) =
      heard source errors states s wanted shown found goal old new (frame.Before p) now (todo.Answer (Ok a)) e w
      in
      let on = prefix_order _ _ _ _ k.2.0 _ _ _ _ k.2.2 atom_ends reads_end _ k.1 in
      omega (arith, on, k.2.1.place)
  last_prefix_order atom_ends reads_end goal old new p now (Err f) e w = tt

  pub last_infix_order : (goal : Begun Tok Cx states.Seen errors.Seen) (old new : List (Frame A B Cu Mk))
      (p : InfixFrame A B Cu Mk) (now : Held Tok Cx states.Seen errors.Seen) (r : Result A Fault)
      → old ≡ new ++ frame.Between p ∷ []
      → Climbs source errors states s wanted shown found goal (reverse old) now (todo.Answer r) → source.place p.level.start ≤ source.place p.before.cursor
  last_infix_order goal old new p now r e w =
      let k : Climbs source errors states s wanted shown found goal (frame.Between p ∷ reverse new) now (todo.Answer r) =
      heard source errors states s wanted shown found goal old new (frame.Between p) now (todo.Answer r) e w in
      omega (arith, k.2.1.place, k.2.2.order, k.2.2.at)

-- what comes next is the answer that it has
pub answered : {A Cu Mk : Type 0} (next : Todo A Cu Mk) (r : Result A Fault) → answer_of next ≡ Some r → next ≡ todo.Answer r
answered (todo.Begin least) r e = let no : None ≡ Some r = e in let bad : ⊥ = cc in absurd bad
answered (todo.Prefixes p) r e = let no : None ≡ Some r = e in let bad : ⊥ = cc in absurd bad
answered (todo.Value p) r e = let no : None ≡ Some r = e in let bad : ⊥ = cc in absurd bad
answered (todo.Postfixes p) r e = let no : None ≡ Some r = e in let bad : ⊥ = cc in absurd bad
answered (todo.Infixes p) r e = let no : None ≡ Some r = e in let bad : ⊥ = cc in absurd bad
answered (todo.Answer a) r e = let k : Some a ≡ Some r = e in let j : a ≡ r = cc in ap todo.Answer j
