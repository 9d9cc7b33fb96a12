-- The loop's invariant: r rows are done, and `at` is the place in the next. Assumes nothing.
use mathlib.Core.Path.{◌≡◌, sym, subst}
use Prim.Native.Nat.{ℕ, ◌+◌, ◌-◌, ◌*◌, ◌≤◌, ◌<◌}
use native.Mathlib.Omega.{arith}
use native.Mathlib.Nat.{zero-mul, le_trans}
use lib.ListN.{length, get_or, set}
use Rattle.bits.specs.Xor.{◌⊕◌}
use Rattle.bits.proofs.Parts.{rows_in, next_row}
use Rattle.irreducible.specs.Ready.{Shifted}
use Rattle.irreducible.proofs.Rows.{square_room, shifted_none, shifted_next}
use Rattle.irreducible.proofs.independence.add_unit.Goals as goal

inside : (r n : ℕ) → r + 1 < n → n ≤ 128 → r * n + n ≤ 16384
inside r n h k = le_trans (rows_in r n n (omega arith)) (square_room n k)

pub loop-r-init : goal.loop-r-init
loop-r-init c = (omega arith, omega (arith, zero-mul c.args.n), shifted_none _ _)

pub offset_bounds-rows-at : goal.offset_bounds-rows-at
offset_bounds-rows-at c = let l = c.loop-r in let a = c.args in omega (arith, inside l.r a.n (omega arith) (omega arith), l.invariant.2.size)

pub bounds-rows-at : goal.bounds-rows-at
bounds-rows-at c = let l = c.loop-r in let a = c.args in omega (arith, inside l.r a.n (omega arith) (omega arith), l.invariant.2.size)

pub bounds-rows-at-in-loop-r : goal.bounds-rows-at-in-loop-r
bounds-rows-at-in-loop-r c = let l = c.loop-r in let a = c.args in omega (arith, inside l.r a.n (omega arith) (omega arith), l.invariant.2.size)

pub overflow_add-at : goal.overflow_add-at
overflow_add-at c = let l = c.loop-r in let a = c.args in omega (arith, inside l.r a.n (omega arith) (omega arith), l.invariant.2.size)

pub overflow_add-at-in-loop-r : goal.overflow_add-at-in-loop-r
overflow_add-at-in-loop-r c = let l = c.loop-r in let a = c.args in omega (arith, inside l.r a.n (omega arith) (omega arith), l.invariant.2.size)

pub loop-r-preserved : goal.loop-r-preserved
unfolding ◌⊕◌
loop-r-preserved c =
    let l = c.loop-r in
    let a = c.args in
    let u : l.r * a.n + a.n ≤ 16384 = inside l.r a.n (omega arith) (omega arith) in
    let z : length l.rows ≡ length a.rows.now = l.invariant.2.size in
    let v : ℕ = get_or l.rows l.at 0 ⊕ 1 in (
      omega arith,
      omega (arith, next_row l.r a.n),
      subst (λ (q : ℕ). Shifted a.n (l.r + 1) a.rows.now (set l.rows q (get_or l.rows q 0 ⊕ 1))) (sym l.invariant.1)
          (shifted_next a.n l.r a.rows.now l.rows l.invariant.2 (omega arith) (omega arith)),
    )

pub shape_of-rows : goal.shape_of-rows
shape_of-rows c = c.loop-r.invariant.2.size

pub returns : goal.returns
returns c =
    let l = c.loop-r in
    let a = c.args in
    let e : l.r ≡ a.n - 1 = omega arith in
    subst (λ (k : ℕ). Shifted a.n k a.rows.now l.rows) e l.invariant.2
