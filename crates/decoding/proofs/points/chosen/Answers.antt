-- The loop's invariant: the points found so far, with those of the places from i on, are all. Assumes nothing.
use mathlib.Core.Path.{◌≡◌, sym, ap, ◌∙◌}
use Prim.Native.Nat.{ℕ, ◌+◌, ◌<◌}
use native.Mathlib.Omega.{arith}
use lib.ListN.{length, get_or, take, set, length-set, length-replicate}
use lib.Seq.{length-take-le}
use Rattle.bits.specs.Bits.{unpack}
use Rattle.bits.proofs.Bits.{bit_lt}
use Rattle.bits.proofs.Pack.{length-unpack, unpack-at, row_unpack, row_digit}
use Rattle.decoder.specs.Decoding.{chosen as chosen_of}
use Rattle.decoding.proofs.Gathered.{gathered, gathered_start, gathered_next, gathered_all}
use Rattle.decoding.proofs.points.chosen.Goals as goal

pub loop-i-init : goal.loop-i-init
loop-i-init c = (omega arith, omega arith, length-replicate {A = ℕ} 8192 0, gathered_start _ _ _)

pub overflow_add-count : goal.overflow_add-count
overflow_add-count c =
    let b : c.bit_at.result < 2 = rw c.bit_at.ensures (bit_lt _ _) in
    omega arith

pub loop-i-preserved : goal.loop-i-preserved
loop-i-preserved c =
    let l = c.loop-i in
    let a = c.args in
    let n : ℕ = length a.support.now in
    let b : c.bit_at.result < 2 = rw c.bit_at.ensures (bit_lt _ _) in
    let bit : c.wide-count.result ≡ get_or (unpack n a.word.now) l.i 0 =
    c.wide-count.ensures ∙ c.bit_at.ensures ∙ sym (unpack-at n a.word.now l.i 0 (omega arith)) in (
      omega arith,
      omega arith,
      length-set l.at _ _ ∙ l.invariant.2,
      ap (λ (d : ℕ). gathered (l.count + d) (set l.at l.count (get_or a.support.now l.i 0)) (unpack n a.word.now) a.support.now (l.i + 1)) bit
          ∙ gathered_next (unpack n a.word.now) a.support.now l.count l.at l.i (omega arith) (rw length-unpack (omega arith)) (omega arith)
          (row_digit (row_unpack n a.word.now) l.i)
          ∙ l.invariant.3,
    )

pub returns : goal.returns
returns c =
    let l = c.loop-i in
    let a = c.args in
    let e : take l.count l.at ≡ chosen_of (unpack (length a.support.now) a.word.now) a.support.now =
    sym (gathered_all _ _ l.count l.at l.i (rw length-unpack c.loop-i-test.false)) ∙ l.invariant.3 in
    record { all = e; number = sym (length-take-le l.count l.at (omega arith)) ∙ ap length e }
