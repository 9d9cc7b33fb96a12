-- The group's table, and its rows added. Assumes nothing.
use mathlib.Core.Path.{◌≡◌, sym, ap, ap₂, ◌∙◌, subst}
use mathlib.Core.List.{List, map}
use Prim.Native.Nat.{ℕ, ◌+◌, ◌-◌, ◌*◌, ◌%◌, ◌^◌, ◌≤◌, ◌<◌}
use native.Mathlib.Nat.{mod-lt}
use native.Mathlib.Omega.{arith}
use lib.ListN.{length, get_or, take, drop, length-drop}
use lib.Pow.{pow_pos}
use Rattle.bits.specs.Bits.{from, bytes_for, unpack, xor_row}
use Rattle.bits.proofs.Parts.{part_all}
use Rattle.code.specs.PublicKey.{Matrix}
use Rattle.small_key.specs.Sums.{table_row}
use Rattle.sum_tables.specs.Apart.{rows_apart}
use Rattle.block_product.specs.Blocks.{step_of}
use Rattle.block_product.proofs.Groups.{table_at, step_is, step_few, rows_few, part_in, table_fits, byte_in, byte_of}
use Rattle.block_product.proofs.add_group.Goals as goal

-- the bytes of a row, as the code has them
step-made : (b rows : ℕ) → b ≡ bytes_for rows → b + b ≡ step_of rows
step-made b rows e = ap₂ ◌+◌ e e ∙ sym (step_is rows)

pub overflow_add-step : goal.overflow_add-step
overflow_add-step c =
    let a = c.args in
    let b = c.bytes_for-b in
    let e : b.result + b.result ≡ step_of a.rows = step-made b.result a.rows b.ensures in
    omega (arith, step_few a.rows (omega arith))

pub overflow_mul-h : goal.overflow_mul-h
overflow_mul-h c =
    let a = c.args in
    omega arith

pub overflow_mul-h-2 : goal.overflow_mul-h-2
overflow_mul-h-2 c =
    let a = c.args in
    let b = c.bytes_for-b in
    let e : b.result + b.result ≡ step_of a.rows = step-made b.result a.rows b.ensures in
    let f : 8 * a.q * (b.result + b.result) ≡ 8 * a.q * step_of a.rows = ap (◌*◌ (8 * a.q)) e in
    omega (arith, rows_few (8 * a.q) a.rows (omega arith) (omega arith))

pub slice_bounds-table-count : goal.slice_bounds-table-count
slice_bounds-table-count c =
    let a = c.args in
    let b = c.bytes_for-b in
    let e : b.result + b.result ≡ step_of a.rows = step-made b.result a.rows b.ensures in
    let f : 8 * a.q * (b.result + b.result) ≡ 8 * a.q * step_of a.rows = ap (◌*◌ (8 * a.q)) e in
    omega (arith, part_in (8 * a.q) a.c a.rows (step_of a.rows) (length a.work.now) (omega arith) (omega arith))

pub slice_bounds-table-start : goal.slice_bounds-table-start
slice_bounds-table-start c =
    let a = c.args in
    let b = c.bytes_for-b in
    let e : b.result + b.result ≡ step_of a.rows = step-made b.result a.rows b.ensures in
    let f : 8 * a.q * (b.result + b.result) ≡ 8 * a.q * step_of a.rows = ap (◌*◌ (8 * a.q)) e in
    omega (arith, part_in (8 * a.q) a.c a.rows (step_of a.rows) (length a.work.now) (omega arith) (omega arith))

pub table-requires : goal.table-requires
table-requires c =
    let a = c.args in
    let b = c.bytes_for-b in
    let e : b.result + b.result ≡ step_of a.rows = step-made b.result a.rows b.ensures in
    let f : 8 * a.q * (b.result + b.result) ≡ 8 * a.q * step_of a.rows = ap (◌*◌ (8 * a.q)) e in
    let h : ℕ = 8 * a.q * (b.result + b.result) in
    let g : a.c * (b.result + b.result) ≡ a.c * step_of a.rows = ap (◌*◌ a.c) e in
    let room : a.c * (b.result + b.result) ≤ length (drop h a.work.now) =
    omega (
      arith,
      length-drop h a.work.now,
      part_in (8 * a.q) a.c a.rows (step_of a.rows) (length a.work.now) (omega arith) (omega arith),
    ) in (
      omega arith,
      omega arith,
      omega (arith, step_few a.rows (omega arith)),
      omega (arith, b.ensures),
      table_fits a.c (bytes_for a.w) (length a.t.now) (omega arith) (omega arith),
      rw part_all room,
    )

pub overflow_mul-at : goal.overflow_mul-at
overflow_mul-at c =
    let a = c.args in
    let b = c.bytes_for-b in
    let e : b.result + b.result ≡ step_of a.rows = step-made b.result a.rows b.ensures in
    let f : a.first * (b.result + b.result) ≡ a.first * step_of a.rows = ap (◌*◌ a.first) e in
    omega (arith, b.ensures, step_is a.rows, step_few a.rows (omega arith), rows_few a.first a.rows (omega arith) (omega arith))

pub overflow_add-at : goal.overflow_add-at
overflow_add-at c =
    let a = c.args in
    let b = c.bytes_for-b in
    let e : b.result + b.result ≡ step_of a.rows = step-made b.result a.rows b.ensures in
    let f : a.first * (b.result + b.result) ≡ a.first * step_of a.rows = ap (◌*◌ a.first) e in
    omega (arith, b.ensures, step_is a.rows, step_few a.rows (omega arith), rows_few a.first a.rows (omega arith) (omega arith))

pub overflow_add-at-2 : goal.overflow_add-at-2
overflow_add-at-2 c =
    let a = c.args in
    let b = c.bytes_for-b in
    let e : b.result + b.result ≡ step_of a.rows = step-made b.result a.rows b.ensures in
    let f : a.first * (b.result + b.result) ≡ a.first * step_of a.rows = ap (◌*◌ a.first) e in
    omega (arith, b.ensures, step_is a.rows, step_few a.rows (omega arith), rows_few a.first a.rows (omega arith) (omega arith))

pub slice_bounds-add_sums-count : goal.slice_bounds-add_sums-count
slice_bounds-add_sums-count c =
    let a = c.args in
    let b = c.bytes_for-b in
    let e : b.result + b.result ≡ step_of a.rows = step-made b.result a.rows b.ensures in
    let f : a.first * (b.result + b.result) ≡ a.first * step_of a.rows = ap (◌*◌ a.first) e in
    let g = byte_in a.first 0 a.count a.rows a.q (length a.work.now) (omega arith) (omega arith) (omega arith) (omega arith) in
    omega (arith, b.ensures)

pub slice_bounds-add_sums-start : goal.slice_bounds-add_sums-start
slice_bounds-add_sums-start c =
    let a = c.args in
    let b = c.bytes_for-b in
    let e : b.result + b.result ≡ step_of a.rows = step-made b.result a.rows b.ensures in
    let f : a.first * (b.result + b.result) ≡ a.first * step_of a.rows = ap (◌*◌ a.first) e in
    let g = byte_in a.first 0 a.count a.rows a.q (length a.work.now) (omega arith) (omega arith) (omega arith) (omega arith) in
    omega (arith, b.ensures)

pub add_sums-requires : goal.add_sums-requires
add_sums-requires c =
    let a = c.args in
    let b = c.bytes_for-b in
    let e : b.result + b.result ≡ step_of a.rows = step-made b.result a.rows b.ensures in
    let at : ℕ = a.first * (b.result + b.result) + b.result + a.q in
    let f : a.first * (b.result + b.result) ≡ a.first * step_of a.rows = ap (◌*◌ a.first) e in
    let inside : (i : ℕ) → i < a.count → i * (b.result + b.result) < length (drop at a.work.now) =
    λ i h.
    let g : i * (b.result + b.result) ≡ i * step_of a.rows = ap (◌*◌ i) e in
    omega (
      arith,
      b.ensures,
      length-drop at a.work.now,
      byte_in a.first i a.count a.rows a.q (length a.work.now) h (omega arith) (omega arith) (omega arith),
    ) in (
      omega arith,
      omega arith,
      omega (arith, step_few a.rows (omega arith)),
      omega arith,
      subst (λ (x : ℕ). 2 ^ a.c * bytes_for a.w ≤ x) (sym c.table.auto.t)
          (table_fits a.c (bytes_for a.w) (length a.t.now) (omega arith) (omega arith)),
      omega arith,
      rw part_all inside,
    )

pub returns : goal.returns
returns c =
    let a = c.args in
    let b = c.bytes_for-b in
    let e : b.result + b.result ≡ step_of a.rows = step-made b.result a.rows b.ensures in
    let work : List ℕ = a.work.now in
    let step : ℕ = step_of a.rows in
    let h : ℕ = 8 * a.q * (b.result + b.result) in
    let at : ℕ = a.first * (b.result + b.result) + b.result + a.q in
    let t : List ℕ = c.table.new.t in
    let ps : Matrix = rows_apart a.c a.w step (drop (8 * a.q * step) work) in
    let place : at ≡ a.first * step + bytes_for a.rows + a.q = ap₂ (λ (x y : ℕ). a.first * x + y + a.q) e b.ensures in
    let rows = c.table.ensures
    ∙ ap₂ (λ (x : ℕ) (y : List ℕ). map (table_row a.w (rows_apart a.c a.w x y)) (from 0 (2 ^ a.c))) e
    (part_all h work ∙ ap (λ (x : ℕ). drop (8 * a.q * x) work) e) in
    λ i l.
    let v : ℕ = get_or work ((a.first + i) * step + bytes_for a.rows + a.q) 0 in
    let byte : get_or (take (length work - at) (drop at work)) (i * (b.result + b.result)) 0 ≡ v =
    ap₂ (λ (x : List ℕ) (y : ℕ). get_or x y 0) (part_all at work ∙ ap (λ (x : ℕ). drop x work) place) (ap (◌*◌ i) e)
    ∙ byte_of a.first i a.rows a.q work in
    c.add_sums.ensures i l
    ∙ ap (xor_row (unpack a.w (drop (i * bytes_for a.w) a.acc.now)))
    (ap (λ (x : ℕ). unpack a.w (drop (x % 2 ^ a.c * bytes_for a.w) t)) byte
    ∙ table_at (2 ^ a.c) a.w t ps rows (v % 2 ^ a.c) (mod-lt v (pow_pos a.c)))
