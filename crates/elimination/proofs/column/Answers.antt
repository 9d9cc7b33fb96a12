-- Two cases: the column has no pivot, or its row is moved to row i and the others are cleared by it. Assumes nothing.
use mathlib.Core.Path.{◌≡◌, ap, ◌∙◌}
use mathlib.Core.Bool.{Bool, true, false}
use mathlib.Core.List.{List}
use Prim.Native.Nat.{ℕ, ◌-◌, ◌*◌}
use native.Mathlib.Omega.{arith}
use lib.ListN.{length, take, drop, length-drop}
use Rattle.bits.specs.Bits.{bytes_for}
use Rattle.bits.proofs.Parts.{part_all}
use Rattle.elimination.specs.Elimination.{first_row}
use Rattle.elimination.proofs.Flat.{row_room, rows_split}
use Rattle.elimination.proofs.Stages.{lift_past, lift_missing, lift_pivot}
use Rattle.elimination.proofs.column.Goals as goal

pub overflow_mul-at : goal.overflow_mul-at
overflow_mul-at c =
    let a = c.args in
    omega (arith, row_room a.i a.rows a.n c.bytes_for.result (length a.w.now) c.bytes_for.ensures (omega arith) (omega arith))

pub slice_bounds-lift-count : goal.slice_bounds-lift-count
slice_bounds-lift-count c =
    let a = c.args in
    omega (arith, row_room a.i a.rows a.n c.bytes_for.result (length a.w.now) c.bytes_for.ensures (omega arith) (omega arith))

pub slice_bounds-lift-start : goal.slice_bounds-lift-start
slice_bounds-lift-start c =
    let a = c.args in
    omega (arith, row_room a.i a.rows a.n c.bytes_for.result (length a.w.now) c.bytes_for.ensures (omega arith) (omega arith))

pub lift-requires : goal.lift-requires
lift-requires c =
    let a = c.args in
    let w : List ℕ = a.w.now in
    let at : ℕ = a.i * c.bytes_for.result in
    let e : at ≡ a.i * bytes_for a.n = ap (◌*◌ a.i) c.bytes_for.ensures in
    let f : length (take (length w - at) (drop at w)) ≡ length w - at = ap length (part_all at w) ∙ length-drop at w in
    (omega (arith, rows_split a.i a.rows (bytes_for a.n) (omega arith)), omega arith, omega arith)

pub returns-then-not-lift : goal.returns-then-not-lift
returns-then-not-lift c =
    let a = c.args in
    let b = c.bytes_for in
    let called = c.lift in
    let y : List ℕ = called.new.w in
    let none : called.result ≡ false = c.if-not-lift.true in
    record {
      w_after = lift_missing a.i a.rows a.n b.result a.w.now y b.ensures c.requires.0 c.requires.1 (called.ensures.w_unchanged none) (called.ensures.w_value ∙ ap (λ (r : Bool). first_row r (a.rows - a.i) a.n y) none);
      w_unchanged = lift_past a.i a.rows a.n b.result a.w.now y b.ensures c.requires.0 c.requires.1 called.ensures.w_unchanged_2;
    }

pub returns : goal.returns
returns c =
    let a = c.args in
    let b = c.bytes_for in
    let called = c.lift in
    let others = c.clear_others in
    let y : List ℕ = called.new.w in
    let some : called.result ≡ true = c.if-not-lift.false in
    record {
      w_after = lift_pivot a.i a.rows a.n b.result a.w.now y b.ensures c.requires.0 c.requires.1 others.new.w (called.ensures.w_value ∙ ap (λ (r : Bool). first_row r (a.rows - a.i) a.n y) some) others.ensures.w_after;
      w_unchanged = others.ensures.w_unchanged ∙ lift_past a.i a.rows a.n b.result a.w.now y b.ensures c.requires.0 c.requires.1 called.ensures.w_unchanged_2;
    }
