use Rattle.std.proofs.Common.{◌≡◌, ◌∙◌, sym, ap}
use Rattle.chumsky_recursive.specs.NextStep.{todo_of}
use Rattle.chumsky_recursive.specs.declared.frames.Todo.TheVariants.{Begin, Answer}
use Rattle.chumsky_recursive.proofs.Waiting.{of_begin}
use Rattle.chumsky_recursive.proofs.Room.{begun_room, heard_room, heard_less, ended}
use Rattle.chumsky_recursive.proofs.evaluator.take_step.Goals as goal

pub returns-in-Begin-clause-room : goal.returns-in-Begin-clause-room
returns-in-Begin-clause-room g c =
    let e : c.args.next ≡ Begin c.in-Begin.node c.in-Begin.more c.in-Begin.wanted = sym c.opened.ensures ∙ ap todo_of c.in-Begin.is in
    begun_room _ _ _ c.args.stack.now.frames _ c.begin.result e c.begin.ensures.bounded

pub returns-in-Begin-clause-left : goal.returns-in-Begin-clause-left
returns-in-Begin-clause-left g c =
    let e : c.args.next ≡ Begin c.in-Begin.node c.in-Begin.more c.in-Begin.wanted = sym c.opened.ensures ∙ ap todo_of c.in-Begin.is in
    λ s h. c.begin.ensures.left s (of_begin _ _ _ _ _ c.args.stack.now.frames _ s e h)

pub returns-in-Begin-clause-lighter : goal.returns-in-Begin-clause-lighter
returns-in-Begin-clause-lighter g c =
    let e : c.args.next ≡ Begin c.in-Begin.node c.in-Begin.more c.in-Begin.wanted = sym c.opened.ensures ∙ ap todo_of c.in-Begin.is in
    rw e c.begin.ensures.lighter

pub returns-in-Answer-clause-room : goal.returns-in-Answer-clause-room
returns-in-Answer-clause-room g c = heard_room _ c.args.stack.now.frames c.resume_last.new.stack.frames c.args.next c.resume_last.result c.resume_last.ensures.bounded

pub returns-in-Answer-clause-left : goal.returns-in-Answer-clause-left
returns-in-Answer-clause-left g c =
    let e : c.args.next ≡ Answer c.in-Answer.answer = sym c.opened.ensures ∙ ap todo_of c.in-Answer.is in
    rw e c.resume_last.ensures.left

pub returns-in-Answer-clause-lighter : goal.returns-in-Answer-clause-lighter
returns-in-Answer-clause-lighter g c =
    let e : c.args.next ≡ Answer c.in-Answer.answer = sym c.opened.ensures ∙ ap todo_of c.in-Answer.is in
    heard_less _ c.args.stack.now.frames c.resume_last.new.stack.frames c.resume_last.result e c.resume_last.ensures.lighter

pub returns-in-Answer-clause-ends : goal.returns-in-Answer-clause-ends
returns-in-Answer-clause-ends g c =
    let e : c.args.next ≡ Answer c.in-Answer.answer = sym c.opened.ensures ∙ ap todo_of c.in-Answer.is in
    ended _ _ c.resume_last.result e c.resume_last.ensures.ends
