-- The loop's invariant: the places from i on decide, with the numbers before them seen. Assumes nothing.
use mathlib.Core.Path.{◌≡◌, sym, ap, ◌∙◌}
use mathlib.Core.List.{List}
use Prim.Native.Nat.{ℕ, ◌+◌, ◌/◌, ◌<◌}
use native.Mathlib.Omega.{arith}
use borrow.Author.Rules.{rules}
use lib.ListN.{length, get_or, drop}
use Rattle.bits.specs.Bits.{bit_at}
use Rattle.bits.proofs.Bits.{length-set_bit}
use Rattle.key.proofs.Seen.{free_large, free_seen, free_new, fresh, fresh_start, fresh_stop, fresh-next, fresh_end}
use Rattle.key.proofs.checks.distinct.Goals as goal

pub loop-i-init : goal.loop-i-init
loop-i-init c = (search rules, fresh_start 1024 c.args.s.now)

pub overflow_cast-x : goal.overflow_cast-x
overflow_cast-x c = omega (arith, c.shared_slice_known-in-loop-i-1.given c.loop-i.i)

pub returns-then-x-ge8192 : goal.returns-then-x-ge8192
returns-then-x-ge8192 c =
    let l = c.loop-i in
    let s = c.args.s.now in
    fresh_stop l.seen s l.i (omega arith) (free_large l.seen (get_or s l.i 0) (omega arith)) ∙ l.invariant.1

pub slice_bounds-bit_at-end : goal.slice_bounds-bit_at-end
slice_bounds-bit_at-end c = sym c.loop-i.invariant.0

pub returns-then-bit_at-ne0 : goal.returns-then-bit_at-ne0
returns-then-bit_at-ne0 c =
    let l = c.loop-i in
    let s = c.args.s.now in
    let x = get_or s l.i 0 in
    fresh_stop l.seen s l.i (omega arith) (free_seen l.seen x (omega arith) (λ e. c.if-bit_at-ne0.true (c.bit_at.ensures ∙ e))) ∙ l.invariant.1

pub slice_bounds-set_bit-end : goal.slice_bounds-set_bit-end
slice_bounds-set_bit-end c = sym c.loop-i.invariant.0

pub loop-i-preserved : goal.loop-i-preserved
loop-i-preserved c =
    let l = c.loop-i in
    let s = c.args.s.now in
    let x = get_or s l.i 0 in
    let small : x < 8192 = omega arith in
    let room : x / 8 < length l.seen = omega arith in
    let new : bit_at l.seen x ≡ 0 = sym c.bit_at.ensures ∙ c.if-bit_at-ne0.false in
    let e = c.set_bit.ensures in (
      ap length e ∙ length-set_bit l.seen x _ ∙ l.invariant.0,
      ap (λ (d : List ℕ). fresh d (drop (l.i + 1) s)) e
          ∙ fresh-next l.seen s l.i (omega arith) room (free_new l.seen x small new) ∙ l.invariant.1,
    )

pub returns : goal.returns
returns c = let l = c.loop-i in fresh_end l.seen _ l.i c.loop-i-test.false ∙ l.invariant.1
