use Rattle.std.proofs.Common.{refl, None}
use Rattle.std.specs.Prelude.{◌++◌}
use Rattle.std.specs.Str.{chars}
use Rattle.chumsky.specs.AcceptedLaws.{unless-by_words, refused-long}
use Rattle.chumsky_parser.specs.FurtherLaws.{both-below}
use Rattle.exact.specs.JsonForms.{form_of, HoldsJson}
use Rattle.exact.specs.JsonLaws.{rest_stops, json-sound, json-complete}
use Rattle.exact.specs.JsonReaderLaws.{values-intended, refused-deep}
use Rattle.exact.proofs.json.parse_json.Goals as goal

pub returns : goal.returns
returns c =
    let cs = chars c.args.text.now in
    let limit = c.args.limit in
    let i = values-intended limit in
    let a0 = c.parse.ensures.3.reads (rw (values-intended c.then_ignore.result.first.depth).said refl) in
    let a = rw (c.then_ignore.ensures.first, c.recursive_as-value.ensures.depth) at a0 in
    unless-by_words HoldsJson a
    (λ e. refused-deep limit cs e (refused-long a limit (λ k l. both-below _ None k (i.refused k l) tt) e))
    (i.unambiguous, (tt, tt, λ w rest e f. rw (e, f) tt), λ w rest j f. i.follows (w ++ rest) (rest_stops w rest j f))
    refl
    (λ v w s. json-sound cs (form_of v) (record { first = s.first; second = s.second; all = s.all; is_first = i.given s.first v s.is_first; is_second = s.is_second }))
    (λ v t. let j = json-complete cs (form_of v) t in record { first = j.first; second = j.second; all = j.all; is_first = i.each j.first j.is_first; is_second = j.is_second })
