-- The loop's invariant: the first d rows of the block are in the sums. Assumes nothing.
use mathlib.Core.Path.{◌≡◌, refl, sym, ap, ◌∙◌}
use mathlib.Core.List.{List}
use Prim.Native.Nat.{ℕ, ◌+◌, ◌-◌, ◌*◌, ◌%◌, ◌^◌, min}
use native.Mathlib.Omega.{arith}
use lib.ListN.{get_or, drop, length-replicate}
use Rattle.bits.specs.Bits.{bytes_for, xor_row}
use Rattle.small_key.specs.Sums.{table_row}
use Rattle.sum_tables.specs.Apart.{rows_apart}
use Rattle.block_product.specs.Blocks.{step_of}
use Rattle.block_product.proofs.Groups.{part_row, part_none, part-next, part_all_rows, bytes_few, group_byte, group_few}
use Rattle.block_product.proofs.multiply.Goals as goal

pub loop-d-init : goal.loop-d-init
loop-d-init c =
    let a = c.args in
    (omega arith, λ h. refl, refl, length-replicate {A = ℕ} 16384 0, λ i h. c.requires.8 i h ∙ part_none a.rows a.w a.work.now (a.first + i))

pub slice_bounds-add_group-end : goal.slice_bounds-add_group-end
slice_bounds-add_group-end c = sym c.loop-d.invariant.3

pub add_group-requires : goal.add_group-requires
add_group-requires c =
    let l = c.loop-d in
    let a = c.args in
    let e : l.d ≡ 8 * l.q = l.invariant.1 (omega arith) in
    let s : c.smaller-c.result ≡ min 8 (a.rows - l.d) = c.smaller-c.ensures in
    let few = group_few a.rows l.d (omega arith) in (
      omega (arith, few.0),
      omega (arith, few.1),
      omega arith,
      omega arith,
      omega arith,
      omega arith,
      omega arith,
      omega arith,
      group_byte a.rows l.d l.q (omega arith) e,
      omega arith,
      omega (arith, l.invariant.2),
      omega (arith, l.invariant.3, bytes_few a.w (omega arith)),
    )

pub overflow_add-d : goal.overflow_add-d
overflow_add-d c =
    let l = c.loop-d in
    let a = c.args in
    let s : c.smaller-c.result ≡ min 8 (a.rows - l.d) = c.smaller-c.ensures in
    omega (arith, (group_few a.rows l.d (omega arith)).1)

pub overflow_add-q : goal.overflow_add-q
overflow_add-q c =
    let l = c.loop-d in
    let a = c.args in
    omega (arith, l.invariant.1 (omega arith))

pub loop-d-smaller : goal.loop-d-smaller
loop-d-smaller c =
    let l = c.loop-d in
    let a = c.args in
    let s : c.smaller-c.result ≡ min 8 (a.rows - l.d) = c.smaller-c.ensures in
    let few = group_few a.rows l.d (omega arith) in
    omega (arith, few.1, few.2)

pub loop-d-preserved : goal.loop-d-preserved
loop-d-preserved c =
    let l = c.loop-d in
    let a = c.args in
    let x : ℕ = c.smaller-c.result in
    let s : x ≡ min 8 (a.rows - l.d) = c.smaller-c.ensures in
    let few = group_few a.rows l.d (omega arith) in
    let e : l.d ≡ 8 * l.q = l.invariant.1 (omega arith) in
    let called = c.add_group in (
      omega (arith, few.1),
      λ h. omega (arith, few.3 (omega arith)),
      called.auto.acc ∙ l.invariant.2,
      called.auto.t ∙ l.invariant.3,
      λ i h.
          called.ensures i h
          ∙ ap (λ (r : List ℕ). xor_row r (table_row a.w (rows_apart x a.w (step_of a.rows) (drop (8 * l.q * step_of a.rows) a.work.now))
          (get_or a.work.now ((a.first + i) * step_of a.rows + bytes_for a.rows + l.q) 0 % 2 ^ x))) (l.invariant.4 i h)
          ∙ part-next a.rows a.w a.work.now l.d l.q x (a.first + i) e (omega (arith, few.0)),
    )

pub shape_of-acc : goal.shape_of-acc
shape_of-acc c = c.loop-d.invariant.2

pub returns : goal.returns
returns c =
    let l = c.loop-d in
    let a = c.args in
    let e : l.d ≡ a.rows = omega arith in
    λ i h.
    l.invariant.4 i h ∙ ap (λ (x : ℕ). part_row a.rows a.w a.work.now x (a.first + i)) e ∙ part_all_rows a.rows a.w a.work.now (a.first + i)
