-- The invariant: the first i records stand at the buffer's start. Assumes nothing.
use mathlib.Core.Path.{refl, ◌∙◌}
use native.Mathlib.Nat.{le_of_lt}
use native.Mathlib.Omega.{arith}
use lib.ListN.{length-set}
use Rattle.bits.proofs.Padded.{over-start}
use Rattle.key.specs.Kept.{kept, parts}
use Rattle.code.specs.Publish.{capsule_bits}
use Rattle.records.specs.Records.{records_of}
use Rattle.reporting.proofs.Written.{counted, start-within, written_next, written_all}
use Rattle.reporting.proofs.write_records.Goals as goal

pub loop-i-init : goal.loop-i-init
unfolding kept capsule_bits
loop-i-init c =
    let a = c.args in
    let k = kept (parts a.m a.n a.t a.support.now a.g.now) in (
      counted k a.capsules.now c.requires.g_value c.capsule_bytes-c.ensures c.capsule_count-count.ensures,
      omega arith,
      refl,
      over-start (records_of k a.capsules.now) a.records.now,
    )

pub overflow_mul-i : goal.overflow_mul-i
unfolding kept capsule_bits
overflow_mul-i c =
    let l = c.loop-i in
    let a = c.args in
    let k = kept (parts a.m a.n a.t a.support.now a.g.now) in
    omega (arith, start-within k a.capsules.now c.requires.g_value c.capsule_bytes-c.ensures l.i (omega (arith, l.invariant.0)))

pub record_at-requires : goal.record_at-requires
unfolding kept capsule_bits
record_at-requires c =
    let l = c.loop-i in
    let a = c.args in
    let k = kept (parts a.m a.n a.t a.support.now a.g.now) in
    record { g_value = c.requires.g_value; i_in_bounds = le_of_lt (start-within k a.capsules.now c.requires.g_value c.capsule_bytes-c.ensures l.i (omega (arith, l.invariant.0))) }

pub bounds-records-i : goal.bounds-records-i
bounds-records-i c =
    let l = c.loop-i in
    omega (arith, l.invariant.0, c.requires.capsules_in_bounds)

pub loop-i-preserved : goal.loop-i-preserved
unfolding kept capsule_bits
loop-i-preserved c =
    let l = c.loop-i in
    let a = c.args in
    let k = kept (parts a.m a.n a.t a.support.now a.g.now) in (
      l.invariant.0,
      omega arith,
      length-set l.records l.i c.record_at.result ∙ l.invariant.2,
      written_next k a.capsules.now c.requires.g_value c.capsule_bytes-c.ensures l.i (omega (arith, l.invariant.0)) a.records.now l.records
          c.requires.capsules_in_bounds c.record_at.ensures l.invariant.3,
    )

pub shape_of-records : goal.shape_of-records
shape_of-records c = c.loop-i.invariant.2

pub returns : goal.returns
returns c =
    let l = c.loop-i in
    let a = c.args in
    let k = kept (parts a.m a.n a.t a.support.now a.g.now) in
    record { number = l.invariant.0; output = l.invariant.3 ∙ written_all k a.capsules.now a.records.now l.i (omega (arith, l.invariant.0)) }
