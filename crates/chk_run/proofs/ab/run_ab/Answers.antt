use Rattle.std.proofs.Common.{◌≡◌, ◌∙◌, ◌∷◌, [], refl}
use Rattle.std.specs.Str.{chars}
use Rattle.chumsky.specs.AcceptedLaws.{exactly-by_ends}
use Rattle.chk_run.specs.Ab.{IsAb}
use Rattle.chk_run.specs.AbLaws.{ab-sound, ab-word, ab-complete}
use Rattle.chk_run.specs.Checked.{exactly-checked}
use Rattle.chk_run.proofs.ab.run_ab.Goals as goal

pub returns-in_ok-parse-in-Parse-clause-answered : goal.returns-in_ok-parse-in-Parse-clause-answered
returns-in_ok-parse-in-Parse-clause-answered c =
    let cs = chars c.args.text.now in
    let r = c.or-parser.result in
    let o = c.or-parser.ensures in
    let a : r.first.first.seq ≡ 97 = rw (o.first, c.then.ensures.first) c.just.ensures in
    let b : r.first.second.seq ≡ 98 = rw (o.first, c.then.ensures.second) c.just-2.ensures in
    let d : r.second.first.seq ≡ 98 = rw (o.second, c.then-2.ensures.first) c.just-3.ensures in
    let ea : r.first.first.seq ∷ [] ≡ 97 ∷ [] = rw a refl in
    let eb : r.first.second.seq ∷ [] ≡ 98 ∷ [] = rw b refl in
    let ed : r.second.first.seq ∷ [] ≡ 98 ∷ [] = rw d refl in
    let e = exactly-by_ends IsAb (c.parse.ensures.3.reads refl) refl
    (λ v e w x s. ab-sound _ _ _ ea eb ed (λ x. x ≡ r.first.first.seq) (λ x. x ≡ r.first.second.seq) (λ x. x ≡ r.second.first.seq) (λ t x. x ≡ t) (λ x h. h ∙ a) (λ x h. h ∙ b) (λ x h. h ∙ d) (λ t x h. h) cs v s)
    (λ v p. ab-complete _ _ _ ea eb ed cs v p) in
    rw (c.in-Parse.is) (rw (c.in_ok-parse-in-Parse.was) at e)

pub returns-in_ok-check-in-Check-clause-answered : goal.returns-in_ok-check-in-Check-clause-answered
returns-in_ok-check-in-Check-clause-answered c =
    let cs = chars c.args.text.now in
    let r = c.or-parser.result in
    let o = c.or-parser.ensures in
    let a : r.first.first.seq ≡ 97 = rw (o.first, c.then.ensures.first) c.just.ensures in
    let b : r.first.second.seq ≡ 98 = rw (o.first, c.then.ensures.second) c.just-2.ensures in
    let d : r.second.first.seq ≡ 98 = rw (o.second, c.then-2.ensures.first) c.just-3.ensures in
    let ea : r.first.first.seq ∷ [] ≡ 97 ∷ [] = rw a refl in
    let eb : r.first.second.seq ∷ [] ≡ 98 ∷ [] = rw b refl in
    let ed : r.second.first.seq ∷ [] ≡ 98 ∷ [] = rw d refl in
    rw (c.in-Check.is) (exactly-checked (c.check.ensures.3.reads refl) IsAb (ab-complete _ _ _ ea eb ed cs) (λ u w. ab-word _ _ _ ea eb ed cs w) _ c.in_ok-check-in-Check.was)
