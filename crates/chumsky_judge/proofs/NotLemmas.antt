-- What `not` leaves.
use Rattle.std.proofs.Common.{◌≡◌, ℕ, Bool, false, Option, None, [], ◌∷◌, ◌++◌, refl, sym, ◌∙◌, ap, Result, Ok, Err, inl, inr, length, take}
use Rattle.std.proofs.lemmas.List.{append-nil}
use Rattle.std.proofs.Math.Seq.{take-append_seam}
use Rattle.chumsky_input.proofs.PrimaryLemmas.{kept-same}
use Rattle.chumsky_input.specs.Layout.{Layout}
use Rattle.chumsky_input.specs.declared.error.Error as error_trait
use Rattle.chumsky_input.specs.declared.inspector.Inspector as inspector_trait
use Rattle.chumsky_input.specs.declared.input.Input as input_trait
use Rattle.chumsky_input.specs.declared.stop.Stop.{Stop}
use Rattle.chumsky_input.specs.declared.stop.Stop.TheVariants.{Memory}
use Rattle.chumsky_input.specs.declared.stop.Fault.{Fault}
use Rattle.chumsky_input.specs.declared.stop.Fault.TheVariants as fault
use Rattle.chumsky_input.specs.Held.{Held, Marks}
use Rattle.chumsky_input.specs.Outcome.{Meaning, Outcome, Verdict, Yes, No, Halt, Clash, IsAnswer}
use Rattle.chumsky_input.specs.Run.{Ran, begin, Fails, gone_back, marked_here}
use Rattle.chumsky_parser.specs.Chained.{Asked}
use Rattle.chumsky_parser.specs.Failure.{wanting}
use Rattle.chumsky_parser.proofs.ChainedLemmas.{ran-weaker, ran-asked}
use Rattle.chumsky_parser.proofs.ChoiceLemmas.{ran-marked, ran-not_marked}
use Rattle.chumsky_judge.specs.Judged.{ByVerdict, Judged, something_else}
use Rattle.chumsky_judge.specs.Not.{Denies, Allows, MeansNot}
use Rattle.chumsky_judge.proofs.JudgeLemmas.{Went, went_yes, went_no, judge_whole, judge_halts, judge_stop, judge_fails}

module _ {I Tok Sp Cu Er St Mk Cx V : Type 0} (source : input_trait.Ghosts I Cu Tok Sp)
    (errors : error_trait.Ghosts Er I Tok Sp) (states : inspector_trait.Ghosts St I Mk Tok Sp)
    (part : Meaning Tok Cx states.Seen errors.Seen V) (w : Bool) (old : Held Tok Cx states.Seen errors.Seen) where
  abbrev Inside : states.Marked → Meaning Tok Cx states.Seen errors.Seen (Unit {0})
  Inside m = Judged (Asked false part) (Denies source errors states m) (Allows source errors states m)

  marked : (m : Marks Tok states.Marked) (new : Held Tok Cx states.Seen errors.Seen) (r : Result (Option (Unit {0})) Fault) → m ≡ marked_here states.mark old
      → Ran errors.merged errors.takes_no_memory (Inside m.mark) w old new r → Ran errors.merged errors.takes_no_memory (MeansNot source errors states part) w old new r
  marked m new r e h =
      ran-weaker errors.merged errors.takes_no_memory _ _ w old new r (λ o k. record { cases = k })
      (ran-marked errors.merged errors.takes_no_memory states.mark states.takes_no_memory Inside w old m new r e h)

  pub not_unmarked : (new : Held Tok Cx states.Seen errors.Seen) → new ≡ old → (states.takes_no_memory → ⊥)
      → Ran errors.merged errors.takes_no_memory (MeansNot source errors states part) w old new (Err (fault.Stop Memory))
  not_unmarked new k may =
      rw k (ran-weaker errors.merged errors.takes_no_memory _ _ w old old _ (λ o k. record { cases = k })
      (ran-not_marked errors.merged errors.takes_no_memory states.mark states.takes_no_memory Inside w old may))

  module _ (m : Marks Tok states.Marked) (e : m ≡ marked_here states.mark old) (mid : Held Tok Cx states.Seen errors.Seen) where
    pub not_stops : {s : Stop}
        → Ran errors.merged errors.takes_no_memory part false (record old { kept = None }) mid (Err (fault.Stop s))
        → Ran errors.merged errors.takes_no_memory (MeansNot source errors states part) w old mid (Err (fault.Stop s))
    not_stops h = marked m mid _ e (judge_stop (ran-asked h))

    unrestored : (v : Verdict V errors.Seen) → IsAnswer v
        → (o : Outcome (Unit {0}) errors.Seen states.Seen) (p : Outcome V errors.Seen states.Seen)
        → o.verdict ≡ Halt Memory → o.state ≡ p.state → (states.takes_no_memory → ⊥)
        → ByVerdict v (Denies source errors states m.mark) (Allows source errors states m.mark) (begin w old) p o
    unrestored (Yes v) a o p u s may = inl (may, u, s)
    unrestored No a o p u s may = inl (may, u, s)
    unrestored (Halt z) a o p u s may = absurd a
    unrestored (Clash z) a o p u s may = absurd a

    -- gone back from what the part left
    back_at : {v : Verdict V errors.Seen} (h : Went errors.merged errors.takes_no_memory (Asked false part) w old mid v) (bk : Held Tok Cx states.Seen errors.Seen) → bk ≡ gone_back states.back mid m
        → record bk { kept = old.kept } ≡ record old { place = old.place; state = states.back h.first.state (states.mark old.state); emitted = old.emitted ++ [] }
    back_at h bk k =
        let cut : take (length old.emitted) (old.emitted ++ h.first.emitted) ≡ old.emitted ++ [] = take-append_seam old.emitted h.first.emitted ∙ sym (append-nil old.emitted) in
        ap (λ (z : Held Tok Cx states.Seen errors.Seen). record z { kept = old.kept })
        (k ∙ ap (λ z. gone_back states.back z m) h.left
        ∙ ap (gone_back states.back
        (record old { place = h.first.end; state = h.first.state; kept = _; emitted = old.emitted ++ h.first.emitted }))
        e)
        ∙ ap (λ es. record old { place = old.place; state = states.back h.first.state (states.mark old.state); emitted = es }) cut

    -- out of memory going back, after either answer
    pub not_unrestored : {v : Verdict V errors.Seen}
        (went : Went errors.merged errors.takes_no_memory (Asked false part) w old mid v)
        (new : Held Tok Cx states.Seen errors.Seen)
        → IsAnswer v → new ≡ mid → (states.takes_no_memory → ⊥)
        → Ran errors.merged errors.takes_no_memory (MeansNot source errors states part) w old new (Err (fault.Stop Memory))
    not_unrestored {v} went new a n may =
        let left = n ∙ went.left in
        let state = ap (λ (z : Held Tok Cx states.Seen errors.Seen). z.state) left in
        marked m new _ e (judge_halts went new (λ o u s. unrestored v a o went.first u (s ∙ state) may)
        (record { tokens = ap (λ (z : Held Tok Cx states.Seen errors.Seen). z.tokens) left; context = ap (λ (z : Held Tok Cx states.Seen errors.Seen). z.context) left })
        (ap (λ (z : Held Tok Cx states.Seen errors.Seen). z.stopped) left))

    -- after a no of the part
    pub not_no : (bk new : Held Tok Cx states.Seen errors.Seen)
        → Ran errors.merged errors.takes_no_memory part false (record old { kept = None }) mid (Err fault.Fail)
        → bk ≡ gone_back states.back mid m → new ≡ record bk { kept = old.kept }
        → Ran errors.merged errors.takes_no_memory (MeansNot source errors states part) w old new (Ok (wanting w tt))
    not_no bk new h k n =
        let went = went_no errors.merged errors.takes_no_memory (Asked false part) w old mid (ran-asked h) in
        let gone = states.back went.first.state (states.mark old.state) in
        marked m new _ e (rw e (judge_whole went (record { verdict = Yes (wanting w tt); end = old.place; state = gone; events = []; emitted = [] }) new tt (inr refl)
        (n ∙ back_at went bk k ∙ ap (λ z. record old { place = old.place; state = gone; kept = z; emitted = old.emitted ++ [] }) (kept-same errors.merged old.kept))))

    -- after a yes
    pub not_yes : (v : Option V) (past : ℕ) (ts : Layout Tok) (place : ℕ) (bk here new : Held Tok Cx states.Seen errors.Seen) (f : Fault)
        → Ran errors.merged errors.takes_no_memory part false (record old { kept = None }) mid (Ok v)
        → bk ≡ gone_back states.back mid m → here ≡ record bk { kept = old.kept }
        → ts ≡ m.tokens → place ≡ m.place → past ≡ mid.place
        → Fails errors.merged errors.takes_no_memory (something_else source errors ts place past) here new f
        → Ran errors.merged errors.takes_no_memory (MeansNot source errors states part) w old new (Err f)
    not_yes v past ts place bk here new f h k n t p q a =
        let went = went_yes errors.merged errors.takes_no_memory (Asked false part) w old mid v (ran-asked h) in
        let gone = states.back went.first.state (states.mark old.state) in
        let event = something_else source errors old.tokens old.place went.first.end in
        let is : something_else source errors ts place past ≡ event =
        (let x : past ≡ went.first.end = q ∙ ap (λ (z : Held Tok Cx states.Seen errors.Seen). z.place) went.left
        in let y : ts ≡ old.tokens = t ∙ ap (λ (z : Marks Tok states.Marked). z.tokens) e in let u : place ≡
        old.place = p ∙ ap (λ (z : Marks Tok states.Marked). z.place) e in cc)
        in
        marked m new _ e (rw e (judge_fails went (record { verdict = No; end = old.place; state = gone; events = event ∷ []; emitted = [] }) event here new f refl refl (n ∙ back_at went bk k)
        (λ o r. inr r) (rw is at a)))
