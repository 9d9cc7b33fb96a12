-- The loop's invariant: the first r rows are done, and what follows is as it was. Assumes nothing.
use mathlib.Core.Path.{◌≡◌, refl, ap, ◌∙◌, subst}
use mathlib.Core.List.{List, ◌++◌}
use Prim.Native.Nat.{ℕ, ◌+◌, ◌-◌, ◌*◌, ◌≤◌, ◌<◌}
use native.Mathlib.Nat.{zero-mul}
use native.Mathlib.Omega.{arith}
use borrow.Author.Rules.{rules}
use borrow.Rule.Slice.PartMut.{put_mid, same_len_mid}
use lib.ListN.{length, take, drop, length-drop}
use Rattle.bits.specs.Bits.{from, bytes_for}
use Rattle.bits.proofs.Parts.{rows_in, next_row, part_all, part_back}
use Rattle.code.specs.Lock.{rows_of}
use Rattle.inversion.specs.Inversion.{pair_bits, unit_bytes, beside_rows}
use Rattle.inversion.proofs.Beside.{few_bytes, places_fit, beside-next, beside_rest}
use Rattle.inversion.proofs.identity.Goals as goal

pub loop-r-init : goal.loop-r-init
unfolding rows_of beside_rows from
loop-r-init c =
    let a = c.args in
    let b : ℕ = bytes_for a.rows in
    let e : c.bytes_for-b.result ≡ b = search rules in
    (omega arith, omega (arith, zero-mul (b + b)), refl, refl, refl, e)

pub slice_bounds-unit_row-count : goal.slice_bounds-unit_row-count
slice_bounds-unit_row-count c =
    let l = c.loop-r in
    let a = c.args in
    omega (arith, rows_in l.r a.rows (bytes_for a.rows + bytes_for a.rows) (omega arith))

pub slice_bounds-unit_row-start : goal.slice_bounds-unit_row-start
slice_bounds-unit_row-start c =
    let l = c.loop-r in
    let a = c.args in
    omega (arith, rows_in l.r a.rows (bytes_for a.rows + bytes_for a.rows) (omega arith))

pub unit_row-requires : goal.unit_row-requires
unit_row-requires c =
    let l = c.loop-r in
    let a = c.args in
    let b : ℕ = bytes_for a.rows in
    (omega arith, rw part_all (omega (arith, l.invariant.5, l.invariant.1, length-drop l.at l.w, rows_in l.r a.rows (b + b) (omega arith))))

pub overflow_add-at : goal.overflow_add-at
overflow_add-at c =
    let l = c.loop-r in
    let a = c.args in
    omega (arith, l.invariant.5, few_bytes a.rows (omega arith))

pub overflow_add-at-in-loop-r : goal.overflow_add-at-in-loop-r
overflow_add-at-in-loop-r c =
    let l = c.loop-r in
    let a = c.args in
    omega (arith, l.invariant.5, l.invariant.1, places_fit l.r a.rows (omega arith) (omega arith))

pub loop-r-preserved : goal.loop-r-preserved
loop-r-preserved c =
    let l = c.loop-r in
    let a = c.args in
    let called = c.unit_row in
    let b : ℕ = bytes_for a.rows in
    let w : List ℕ = l.w in
    let less : l.r < a.rows = omega arith in
    let room : l.r * (b + b) + (b + b) ≤ length w = omega (arith, rows_in l.r a.rows (b + b) less) in
    let y : called.new.row ≡ unit_bytes b l.r (drop l.at w) =
    called.ensures ∙ ap (unit_bytes b l.r) (part_all l.at w) in
    let e : put_mid l.at (length w - l.at) w called.new.row ≡ take l.at w ++ unit_bytes b l.r (drop l.at w) =
    part_back l.at w called.new.row ∙ ap (λ (z : List ℕ). take l.at w ++ z) y in
    let same : length (put_mid l.at (length w - l.at) w called.new.row) ≡ length w = same_len_mid l.at (length w - l.at) w called.new.row called.auto.row in (
      omega arith,
      omega (arith, l.invariant.5, l.invariant.1, next_row l.r (b + b)),
      same ∙ l.invariant.2,
      ap (rows_of (l.r + 1) (pair_bits a.rows)) e
          ∙ beside-next a.rows l.r l.at a.w.now w less l.invariant.1 room l.invariant.4 l.invariant.3,
      ap (drop ((l.r + 1) * (b + b))) e ∙ beside_rest a.rows l.r l.at a.w.now w less l.invariant.1 room l.invariant.4,
      l.invariant.5,
    )

pub shape_of-w : goal.shape_of-w
shape_of-w c = c.loop-r.invariant.2

pub returns : goal.returns
returns c =
    let l = c.loop-r in
    let a = c.args in
    let b : ℕ = bytes_for a.rows in
    let e : l.r ≡ a.rows = omega arith in
    record {
      rows = subst (λ (k : ℕ). rows_of k (pair_bits a.rows) l.w ≡ beside_rows a.rows k a.w.now) e l.invariant.3;
      rest = subst (λ (k : ℕ). drop (k * (b + b)) l.w ≡ drop (k * (b + b)) a.w.now) e l.invariant.4;
    }
