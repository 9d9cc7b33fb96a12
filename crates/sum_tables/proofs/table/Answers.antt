-- The loop's invariant: the table of the first z rows. Assumes nothing.
use mathlib.Core.Path.{◌≡◌, refl, sym, ap, ◌∙◌, subst}
use mathlib.Core.List.{List, map}
use Prim.Native.Nat.{ℕ, ◌+◌, ◌-◌, ◌*◌, ◌^◌, ◌≤◌}
use native.Mathlib.Nat.{zero-mul}
use native.Mathlib.Omega.{arith}
use lib.ListN.{length, take, drop, length-drop}
use lib.Seq.{length-take-le}
use Rattle.bits.specs.Bits.{from, bytes_for, unpack}
use Rattle.bits.proofs.Parts.{rows_in, next_row}
use Rattle.bits.proofs.Pack.{unpack-take}
use Rattle.bits.proofs.PutBits.{written_zeros}
use Rattle.code.specs.Lock.{rows_of}
use Rattle.small_key.specs.Sums.{table_row}
use Rattle.sum_tables.specs.Apart.{rows_apart}
use Rattle.sum_tables.proofs.Doubling.{first-room, table_start, table_next, half_fits, half_next, half_room}
use Rattle.sum_tables.proofs.table.Goals as goal

pub loop-z-init : goal.loop-z-init
loop-z-init c =
    let a = c.args in
    let k = c.bytes_for-k in
    let room = first-room a.c (bytes_for a.n) (length a.t.now) (omega arith) in (
      omega arith,
      refl,
      sym (zero-mul a.step),
      refl,
      ap (rows_of 1 a.n) (c.clear_row.ensures ∙ written_zeros a.n a.t.now room) ∙ table_start a.n a.step a.t.now a.h.now,
      k.ensures,
    )

pub overflow_add-end : goal.overflow_add-end
overflow_add-end c =
    let l = c.loop-z in
    let a = c.args in
    omega (arith, l.invariant.5, l.invariant.2, rows_in l.z a.c a.step (omega arith))

pub slice_bounds-double-end : goal.slice_bounds-double-end
slice_bounds-double-end c =
    let l = c.loop-z in
    let a = c.args in
    omega (arith, l.invariant.5, l.invariant.2, rows_in l.z a.c a.step (omega arith))

pub double-requires : goal.double-requires
double-requires c =
    let l = c.loop-z in
    let a = c.args in
    let b : ℕ = bytes_for a.n in
    let k : ℕ = c.bytes_for-k.result in
    let same : length l.t ≡ length a.t.now = l.invariant.3 ∙ c.clear_row.auto.out in
    let size : l.at + k - l.at ≡ b = omega (arith, l.invariant.5) in
    let room : b ≤ length (drop l.at a.h.now) = omega (arith, l.invariant.2, length-drop l.at a.h.now, rows_in l.z a.c a.step (omega arith)) in (
      half_room l.z a.c l.half b (length l.t) l.invariant.1 (omega arith) (omega arith),
      ap (λ (x : ℕ). length (take x (drop l.at a.h.now))) size ∙ length-take-le b (drop l.at a.h.now) room,
    )

pub overflow_add-half : goal.overflow_add-half
overflow_add-half c =
    let l = c.loop-z in
    let a = c.args in
    omega (arith, half_fits l.z a.c l.half l.invariant.1 (omega arith) (omega arith))

pub overflow_add-at : goal.overflow_add-at
overflow_add-at c =
    let l = c.loop-z in
    let a = c.args in
    omega (arith, l.invariant.2, rows_in l.z a.c a.step (omega arith))

pub loop-z-preserved : goal.loop-z-preserved
loop-z-preserved c =
    let l = c.loop-z in
    let a = c.args in
    let k : ℕ = c.bytes_for-k.result in
    let called = c.double in
    let q : List ℕ = take (l.at + k - l.at) (drop l.at a.h.now) in
    let row : unpack a.n q ≡ unpack a.n (drop (l.z * a.step) a.h.now) =
    unpack-take a.n (l.at + k - l.at) (drop l.at a.h.now) (omega (arith, l.invariant.5)) ∙ ap (λ (x : ℕ). unpack a.n (drop x a.h.now)) l.invariant.2 in (
      omega arith,
      half_next l.z l.half l.invariant.1,
      omega (arith, l.invariant.2, next_row l.z a.step),
      called.auto.w ∙ l.invariant.3,
      table_next l.z a.n a.step l.half l.t called.new.w a.h.now q l.invariant.1 row l.invariant.4 called.ensures,
      l.invariant.5,
    )

pub shape_of-t : goal.shape_of-t
shape_of-t c = c.loop-z.invariant.3 ∙ c.clear_row.auto.out

pub returns : goal.returns
returns c =
    let l = c.loop-z in
    let a = c.args in
    let e : l.z ≡ a.c = omega arith in
    let f : l.half ≡ 2 ^ a.c = l.invariant.1 ∙ ap (λ (x : ℕ). 2 ^ x) e in
    subst (λ (x : ℕ). rows_of x a.n l.t ≡ map (table_row a.n (rows_apart a.c a.n a.step a.h.now)) (from 0 x)) f
    (l.invariant.4 ∙ ap (λ (x : ℕ). map (table_row a.n (rows_apart x a.n a.step a.h.now)) (from 0 l.half)) e)
