-- What waits, on the stack.
use Rattle.std.proofs.Common.{◌≡◌, ℕ, Bool, Option, List, [], ◌∷◌, ◌++◌, reverse, sym, ap, ◌∙◌, subst, Err, inl, inr}
use Rattle.std.proofs.lemmas.List.{reverse-append}
use Rattle.chumsky_input.specs.declared.error.Error as error_trait
use Rattle.chumsky_input.specs.declared.inspector.Inspector as inspector_trait
use Rattle.chumsky_input.specs.declared.input.Input as input_trait
use Rattle.chumsky_input.specs.declared.stop.Fault.TheVariants as fault
use Rattle.chumsky_input.specs.declared.stop.Stop.TheVariants.{Memory}
use Rattle.chumsky_input.specs.Held.{Held}
use Rattle.chumsky_input.specs.Run.{Ran}
use Rattle.chumsky_pratt.specs.declared.machine.Frame.{Frame}
use Rattle.chumsky_pratt.specs.declared.machine.Todo.{Todo}
use Rattle.chumsky_pratt.specs.Expression.{Syntax}
use Rattle.chumsky_pratt.specs.Climbing.{Begun, whole, Waits, Climbs, WaitsFor}

-- one more frame is the first of what waits
pub pushed : {A : Type 0} (old new : List A) (f : A) → new ≡ old ++ f ∷ [] → reverse new ≡ f ∷ reverse old
pushed old new f e = ap reverse e ∙ reverse-append old (f ∷ [])

module _ {I Tok Sp Cu Er St Cx Mk F V A B : Type 0} (source : input_trait.Ghosts I Cu Tok Sp)
    (errors : error_trait.Ghosts Er I Tok Sp) (states : inspector_trait.Ghosts St I Mk Tok Sp)
    (s : Syntax Tok Cx states.Seen states.Marked errors.Seen F V) (wanted : Bool) (shown : A → Option V)
    (found : B → Option F) where
  -- an expression waits for an operand that begins; or there is no memory for it
  pub waited : (goal l : Begun Tok Cx states.Seen errors.Seen) (frame : Frame A B Cu Mk)
      (old new : List (Frame A B Cu Mk)) (power : ℕ) (now : Held Tok Cx states.Seen errors.Seen) (next : Todo A Cu Mk)
      → WaitsFor power frame old new next
      → Waits source errors states s wanted shown found goal (frame ∷ reverse old) (record { least = power; held = now })
      → Ran errors.merged errors.takes_no_memory (whole errors.merged errors.takes_no_memory s wanted l) wanted l.held
      now (Err (fault.Stop Memory))
      → Waits source errors states s wanted shown found goal (reverse old) l → Climbs source errors states s wanted shown found goal (reverse new) now next
  waited goal l frame old new power now next (inl e) w r k =
      rw e.0
      (subst
      (λ fs. Waits source errors states s wanted shown found goal fs (record { least = power; held = now }))
      (sym (pushed old new frame e.1)) w)
  waited goal l frame old new power now next (inr e) w r k = rw (e.0, e.1) (l, r, k)

  -- the last frame on the stack is the first of what waits
  pub heard : (goal : Begun Tok Cx states.Seen errors.Seen) (old new : List (Frame A B Cu Mk))
      (frame : Frame A B Cu Mk) (now : Held Tok Cx states.Seen errors.Seen) (next : Todo A Cu Mk)
      → old ≡ new ++ frame ∷ []
      → Climbs source errors states s wanted shown found goal (reverse old) now next → Climbs source errors states s wanted shown found goal (frame ∷ reverse new) now next
  heard goal old new frame now next e w = subst (λ fs. Climbs source errors states s wanted shown found goal fs now next) (pushed new old frame e) w
