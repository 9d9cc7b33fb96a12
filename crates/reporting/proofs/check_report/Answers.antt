-- The key and the mark, then the record buffer. Assumes nothing.
use mathlib.Core.Path.{refl, ap, ◌∙◌}
use native.Mathlib.Omega.{arith}
use Rattle.field.specs.Verdicts.{verdict_of}
use Rattle.field.proofs.Verdicts.{refuses, verdict_accepted, verdict_refused}
use Rattle.key.specs.Kept.{kept, parts}
use Rattle.code.specs.Publish.{capsule_bits}
use Rattle.records.proofs.Values.{bits_some, bytes_some, capsules_counted}
use Rattle.reading.proofs.Refusals.{key_clear}
use Rattle.reporting.proofs.Checks.{report_refused, report_short, report-room}
use Rattle.reporting.proofs.check_report.Goals as goal

pub returns-in_default : goal.returns-in_default
returns-in_default c =
    let r = c.check_published-x.ensures in
    r ∙ ap verdict_of (report_refused _ _ _ _ (verdict_refused _ r c.in_default.is))

pub returns-then-len-capsule_count : goal.returns-then-len-capsule_count
unfolding kept capsule_bits
returns-then-len-capsule_count c =
    let r = c.check_published-x.ensures in
    let a = c.args in
    let k = kept (parts a.m a.n a.t a.support.now a.g.now) in
    let z = verdict_accepted _ r c.in-Accepted.is in
    let e = capsules_counted k a.capsules.now (bytes_some {bits = capsule_bits k} refl (bits_some k (key_clear _ k z))) c.capsule_bytes.ensures c.capsule_count.ensures in
    refuses (report_short _ k a.capsules.now a.len z (omega (arith, e)))

pub returns : goal.returns
unfolding kept capsule_bits
returns c =
    let r = c.check_published-x.ensures in
    let a = c.args in
    let k = kept (parts a.m a.n a.t a.support.now a.g.now) in
    let z = verdict_accepted _ r c.in-Accepted.is in
    let e = capsules_counted k a.capsules.now (bytes_some {bits = capsule_bits k} refl (bits_some k (key_clear _ k z))) c.capsule_bytes.ensures c.capsule_count.ensures in
    r ∙ ap verdict_of (z ∙ report-room _ k a.capsules.now a.len z (omega (arith, e)))
