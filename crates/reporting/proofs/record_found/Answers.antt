-- The row's number, then what is found. Assumes nothing.
use native.Mathlib.Omega.{arith}
use borrow.Author.Tests.{not-true, not-false}
use Rattle.key.specs.Kept.{parts}
use Rattle.reporting.proofs.Found.{row_number, record_row, record_not_refused, record_none, record_some}
use Rattle.reporting.proofs.record_found.Goals as goal

pub returns-then-number-ne0 : goal.returns-then-number-ne0
returns-then-number-ne0 c =
    let a = c.args in
    let k = parts a.m a.n a.t a.support.now a.g.now in
    record_row k a.capsule.now (row_number k a.capsule.now c.capsule_bits.ensures c.check_row.ensures c.number-number.ensures) c.if-number-ne0.true

pub returns-in_default : goal.returns-in_default
returns-in_default c =
    let a = c.args in
    let k = parts a.m a.n a.t a.support.now a.g.now in
    let e = row_number k a.capsule.now c.capsule_bits.ensures c.check_row.ensures c.number-number.ensures in
    absurd (record_not_refused k a.capsule.now c.requires (omega (arith, e, c.if-number-ne0.false)) _ c.open_checked-e.ensures c.in_default.is)

pub returns-then-not-e : goal.returns-then-not-e
returns-then-not-e c =
    let a = c.args in
    let k = parts a.m a.n a.t a.support.now a.g.now in
    let e = row_number k a.capsule.now c.capsule_bits.ensures c.check_row.ensures c.number-number.ensures in
    record_none k a.capsule.now c.requires (omega (arith, e, c.if-number-ne0.false)) _ c.open_checked-e.ensures (not-true _ c.if-not-e.true)

pub returns : goal.returns
returns c =
    let a = c.args in
    let k = parts a.m a.n a.t a.support.now a.g.now in
    let e = row_number k a.capsule.now c.capsule_bits.ensures c.check_row.ensures c.number-number.ensures in
    record_some k a.capsule.now c.requires (omega (arith, e, c.if-number-ne0.false)) _ c.open_checked-e.ensures (not-false _ c.if-not-e.false)
