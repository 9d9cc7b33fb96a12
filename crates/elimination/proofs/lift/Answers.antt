-- Two cases: no row has a one in the column, or the first that has is moved to the front. Assumes nothing.
use mathlib.Core.Path.{◌≡◌, refl, sym, ap, ◌∙◌}
use mathlib.Core.Bool.{true, false≢true}
use Prim.Native.Nat.{ℕ, ◌*◌, ◌<◌}
use native.Mathlib.Omega.{arith}
use lib.ListN.{length, drop}
use Rattle.bits.specs.Bits.{bytes_for}
use Rattle.bits.proofs.Parts.{rows_in, row_size}
use Rattle.elimination.specs.Elimination.{to_front, first_row}
use Rattle.elimination.proofs.Flat.{row_room, front_rest}
use Rattle.elimination.proofs.Pivots.{pivot_le, lift_none, lift_some}
use Rattle.elimination.proofs.lift.Goals as goal

pub returns-then-p-rows : goal.returns-then-p-rows
unfolding first_row
returns-then-p-rows c =
    let a = c.args in
    record { w_value = lift_none a.rows a.n a.j a.w.now (omega arith); w_unchanged = (λ e. refl); w_unchanged_2 = refl }

pub overflow_mul-p : goal.overflow_mul-p
overflow_mul-p c =
    let a = c.args in
    let p : ℕ = c.find_pivot-p.result in
    let less : p < a.rows = omega (arith, pivot_le a.rows a.n a.j a.w.now) in
    omega (arith, row_room p a.rows a.n c.bytes_for-b.result (length a.w.now) c.bytes_for-b.ensures less (omega arith))

pub to_front-requires : goal.to_front-requires
to_front-requires c =
    let a = c.args in
    let p : ℕ = c.find_pivot-p.result in
    let less : p < a.rows = omega (arith, pivot_le a.rows a.n a.j a.w.now) in (
      row_room p a.rows a.n c.bytes_for-b.result (length a.w.now) c.bytes_for-b.ensures less (omega arith),
      omega (arith, row_size a.n (omega arith)),
    )

pub returns : goal.returns
returns c =
    let a = c.args in
    let p : ℕ = c.find_pivot-p.result in
    let b : ℕ = bytes_for a.n in
    let less : p < a.rows = omega (arith, pivot_le a.rows a.n a.j a.w.now) in
    let e : c.to_front.new.w ≡ to_front (p * b) b a.w.now =
    c.to_front.ensures ∙ ap (λ (k : ℕ). to_front (p * k) k a.w.now) c.bytes_for-b.ensures in
    let f = rows_in p a.rows b less in
    record {
      w_value = lift_some a.rows a.n a.j a.w.now p c.find_pivot-p.ensures less (omega arith) ∙ ap (first_row true a.rows a.n) (sym e);
      w_unchanged = (λ g. absurd (false≢true (sym g)));
      w_unchanged_2 = ap (drop (a.rows * b)) e ∙ front_rest (p * b) b (a.rows * b) a.w.now (omega arith) (omega arith);
    }
