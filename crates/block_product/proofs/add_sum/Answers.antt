-- A row of the table, lent and added. Assumes nothing.
use mathlib.Core.Path.{◌≡◌, ap, ap₂, ◌∙◌}
use mathlib.Core.List.{List}
use Prim.Native.Nat.{ℕ, ◌+◌, ◌-◌, ◌*◌, ◌%◌, ◌^◌, ◌≤◌}
use native.Mathlib.Nat.{mod-lt}
use native.Mathlib.Omega.{arith}
use lib.ListN.{length, take, drop, length-drop}
use lib.Pow.{pow_pos}
use lib.Seq.{length-take-le}
use Rattle.bits.specs.Bits.{bytes_for, unpack, xor_row}
use Rattle.bits.proofs.Pack.{unpack-take, unpack-xor_row}
use Rattle.bits.proofs.Parts.{rows_in}
use Rattle.sum_tables.proofs.Adding.{drop-xor_row}
use Rattle.block_product.proofs.add_sum.Goals as goal

-- where the row of the table ends
end_within : (v c k len : ℕ) → 2 ^ c * k ≤ len → v % 2 ^ c * k + k ≤ len
end_within v c k len h = omega (arith, rows_in (v % 2 ^ c) (2 ^ c) k (mod-lt v (pow_pos c)))

pub overflow_mul-at : goal.overflow_mul-at
overflow_mul-at c =
    let a = c.args in
    let k = c.bytes_for-k in
    let e : c.low_digits.result * k.result ≡ a.v % 2 ^ a.c * bytes_for a.w = ap₂ ◌*◌ c.low_digits.ensures k.ensures in
    omega (arith, end_within a.v a.c (bytes_for a.w) (length a.t.now) (omega arith))

pub overflow_add-end : goal.overflow_add-end
overflow_add-end c =
    let a = c.args in
    let k = c.bytes_for-k in
    let e : c.low_digits.result * k.result ≡ a.v % 2 ^ a.c * bytes_for a.w = ap₂ ◌*◌ c.low_digits.ensures k.ensures in
    omega (arith, k.ensures, end_within a.v a.c (bytes_for a.w) (length a.t.now) (omega arith))

pub slice_bounds-xor_row-end : goal.slice_bounds-xor_row-end
slice_bounds-xor_row-end c =
    let a = c.args in
    let k = c.bytes_for-k in
    let d = c.low_digits in
    let e : d.result * k.result ≡ a.v % 2 ^ a.c * bytes_for a.w = ap₂ ◌*◌ d.ensures k.ensures in
    omega (arith, k.ensures, end_within a.v a.c (bytes_for a.w) (length a.t.now) (omega arith))

pub returns : goal.returns
returns c =
    let a = c.args in
    let k = c.bytes_for-k in
    let d = c.low_digits in
    let called = c.xor_row in
    let b : ℕ = bytes_for a.w in
    let t : List ℕ = a.t.now in
    let at : ℕ = d.result * k.result in
    let e : at ≡ a.v % 2 ^ a.c * b = ap₂ ◌*◌ d.ensures k.ensures in
    let size : at + k.result - at ≡ b = omega (arith, k.ensures) in
    let q : List ℕ = take (at + k.result - at) (drop at t) in
    let room : b ≤ length (drop at t) = omega (arith, length-drop at t, end_within a.v a.c b (length t) (omega arith)) in
    let long : length q ≡ b = ap (λ (x : ℕ). length (take x (drop at t))) size ∙ length-take-le b (drop at t) room in
    let same : unpack a.w q ≡ unpack a.w (drop (a.v % 2 ^ a.c * b) t) =
    unpack-take a.w (at + k.result - at) (drop at t) (omega arith) ∙ ap (λ (x : ℕ). unpack a.w (drop x t)) e in
    record {
      sum = ap (unpack a.w) called.ensures ∙ unpack-xor_row a.w a.row.now q (omega arith) ∙ ap (xor_row (unpack a.w a.row.now)) same;
      rest = ap (drop b) called.ensures ∙ drop-xor_row b a.row.now q (omega arith);
    }
