use Rattle.std.proofs.Common.{◌≡◌, [], refl, sym, subst, ◌∙◌}
use Rattle.std.specs.Str.{chars}
use Rattle.chumsky_judge.specs.Tested.{tested_language}
use Rattle.chumsky_exact.specs.Builders.{
  then_is,
  ignore_then_is,
  then_ignore_is,
  or_not_is,
  collect_is,
  separated_is,
  just_is,
  int_is,
  of_then,
  of_ignore_then,
  of_then_ignore,
  of_or_not,
  of_collect,
  of_just,
  of_int,
  word_language_of,
}
use Rattle.chumsky_exact.specs.Pieces.{unambiguous, fits_of}
use Rattle.chumsky_exact.specs.ReadBack.{exact-and_back}
use Rattle.exact.specs.Version.{in_identifier, IsVersion, parts_of}
use Rattle.exact.specs.VersionLaws.{fits_pre_release, version, version-sound, version-complete, version-once}
use Rattle.exact.proofs.version.parse_version.Goals as goal

pub returns : goal.returns
returns c =
    let cs = chars c.args.text.now in
    let v = c.then-version.ensures in
    let w = c.then-2.ensures in
    let n = c.then-core.ensures in
    let d = c.then_ignore-2.ensures in
    let t = c.then.ensures in
    let f = c.then_ignore.ensures in
    let l = c.separated_by.ensures in
    let k = c.separated_by-2.ensures in
    let i = c.ignore_then-pre_release.ensures in
    let j = c.ignore_then-build.ensures in
    let minor : c.then.result ≡ _ = then_is (t.first ∙ then_ignore_is (f.first ∙ int_is c.int.ensures) (f.second ∙ just_is c.just.ensures)) (t.second ∙ int_is c.int-2.ensures) in
    let core : c.then-core.result ≡ _ = then_is (n.first ∙ then_ignore_is (d.first ∙ minor) (d.second ∙ just_is c.just-2.ensures)) (n.second ∙ int_is c.int-3.ensures) in
    let ids : c.at_least-pre_identifiers.result ≡ _ = c.at_least-pre_identifiers.ensures ∙ separated_is l.parser (l.separator ∙ just_is c.just-3.ensures) l.at_most l.leading l.trailing in
    let others : c.at_least-build_identifiers.result ≡ _ = c.at_least-build_identifiers.ensures ∙ separated_is k.parser (k.separator ∙ just_is c.just-5.ensures) k.at_most k.leading k.trailing in
    let pre : c.or_not.result ≡ _ = or_not_is (c.or_not.ensures.parser ∙ ignore_then_is (i.first ∙ just_is c.just-4.ensures) (i.second ∙ collect_is (c.collect.ensures.parser ∙ ids))) in
    let build : c.or_not-2.result ≡ _ = or_not_is (c.or_not-2.ensures.parser ∙ ignore_then_is (j.first ∙ just_is c.just-6.ensures) (j.second ∙ collect_is (c.collect-2.ensures.parser ∙ others))) in
    let whole = c.map_by.ensures.parser ∙ then_is (v.first ∙ then_is (w.first ∙ core) (w.second ∙ pre)) (v.second ∙ build) in
    let once = subst (λ p. (of_then (of_then (of_then (of_then_ignore (of_then (of_then_ignore of_int of_just) of_int) of_just) of_int)
    (of_or_not (of_ignore_then of_just (of_collect (λ q. tested_language fits_pre_release (word_language_of in_identifier)) of_just))))
    (of_or_not (of_ignore_then of_just (of_collect (λ q. word_language_of in_identifier) of_just))) p).unambiguous) (sym whole) (unambiguous version refl) in
    let r = exact-and_back parts_of IsVersion (c.parse.ensures.3.reads refl) refl once (fits_of version [] tt)
    (λ x u h. version-sound cs x (rw whole at h)) (version-once cs) (λ x h. rw whole (version-complete cs x h)) in
    record { exact = r.0; read_back = r.1 }
