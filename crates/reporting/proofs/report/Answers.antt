-- The checks, the records, then their counts. Assumes nothing.
use mathlib.Core.Path.{sym}
use mathlib.Core.Bool.{not}
use native.Mathlib.Omega.{arith}
use lib.ListN.{length}
use lib.Seq.{length-take-le}
use Rattle.field.proofs.Verdicts.{verdict_accepted, verdict_taken}
use Rattle.key.specs.Kept.{kept, parts}
use Rattle.records.specs.Records.{report_number}
use Rattle.reporting.proofs.Checks.{report-clear}
use Rattle.reporting.proofs.Reported.{answer_refused, answer-written}
use Rattle.reporting.proofs.report.Goals as goal

pub returns-in_default : goal.returns-in_default
unfolding report_number
returns-in_default c =
    let a = c.args in
    let t = verdict_taken _ c.check_report-x.ensures c.in_default.is c.number.ensures in
    let k = parts a.m a.n a.t a.support.now a.g.now in
    let both = answer_refused (not a.published) (kept k) a.capsules.now a.records.now t.0 t.1 in
    record { answer = both.0; output = both.1 }

pub write_records-written-requires : goal.write_records-written-requires
write_records-written-requires c =
    let a = c.args in
    let k = parts a.m a.n a.t a.support.now a.g.now in
    let clear = verdict_accepted _ c.check_report-x.ensures c.in-Accepted.is in
    let both = report-clear (not a.published) (kept k) a.capsules.now (length a.records.now) clear in
    record { g_value = both.0; capsules_in_bounds = both.1 }

pub slice_bounds-count-end : goal.slice_bounds-count-end
slice_bounds-count-end c =
    let a = c.args in
    let k = parts a.m a.n a.t a.support.now a.g.now in
    let clear = verdict_accepted _ c.check_report-x.ensures c.in-Accepted.is in
    let r = report-clear (not a.published) (kept k) a.capsules.now (length a.records.now) clear in
    omega (arith, r.1, c.write_records-written.ensures.number, c.write_records-written.auto.records)

pub slice_bounds-count-end-2 : goal.slice_bounds-count-end-2
slice_bounds-count-end-2 c =
    let a = c.args in
    let k = parts a.m a.n a.t a.support.now a.g.now in
    let clear = verdict_accepted _ c.check_report-x.ensures c.in-Accepted.is in
    let r = report-clear (not a.published) (kept k) a.capsules.now (length a.records.now) clear in
    sym (length-take-le c.write_records-written.result c.write_records-written.new.records
    (omega (arith, r.1, c.write_records-written.ensures.number, c.write_records-written.auto.records)))

pub returns : goal.returns
unfolding report_number
returns c =
    let a = c.args in
    let k = parts a.m a.n a.t a.support.now a.g.now in
    let clear = verdict_accepted _ c.check_report-x.ensures c.in-Accepted.is in
    let both = answer-written (not a.published) (kept k) a.capsules.now a.records.now clear c.write_records-written.ensures.number c.write_records-written.ensures.output c.count-counts.ensures in
    record { answer = both.0; output = both.1 }
