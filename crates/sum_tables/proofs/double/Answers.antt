-- The first half moved up, and the row added there. Assumes nothing.
use mathlib.Core.Path.{◌≡◌, ap, ◌∙◌}
use mathlib.Core.List.{List, ◌++◌, map}
use Prim.Native.Nat.{ℕ, ◌+◌, ◌*◌, ◌≤◌}
use native.Mathlib.Omega.{arith}
use borrow.Author.Rules.{rules}
use lib.ListN.{length, take, drop, length-drop}
use Rattle.bits.specs.Bits.{bytes_for, unpack}
use Rattle.bits.proofs.Parts.{part_all, part_back}
use Rattle.code.specs.Lock.{rows_of}
use Rattle.sum_tables.specs.Apart.{plus}
use Rattle.sum_tables.proofs.Adding.{moved_behind, both_halves}
use Rattle.sum_tables.proofs.double.Goals as goal

pub overflow_mul-at : goal.overflow_mul-at
overflow_mul-at c =
    let a = c.args in
    omega (arith, ap (◌*◌ a.half) c.bytes_for.ensures)

pub move_up-requires : goal.move_up-requires
move_up-requires c =
    let a = c.args in
    omega (arith, ap (◌*◌ a.half) c.bytes_for.ensures)

pub slice_bounds-add_rows-count : goal.slice_bounds-add_rows-count
slice_bounds-add_rows-count c =
    let a = c.args in
    omega (arith, ap (◌*◌ a.half) c.bytes_for.ensures, c.move_up.auto.w)

pub slice_bounds-add_rows-start : goal.slice_bounds-add_rows-start
slice_bounds-add_rows-start c =
    let a = c.args in
    omega (arith, ap (◌*◌ a.half) c.bytes_for.ensures, c.move_up.auto.w)

pub add_rows-requires : goal.add_rows-requires
add_rows-requires c =
    let a = c.args in
    let e : a.half * c.bytes_for.result ≡ a.half * bytes_for a.n = ap (◌*◌ a.half) c.bytes_for.ensures in
    let u : List ℕ = c.move_up.new.w in
    let l : length u ≡ length a.w.now = c.move_up.auto.w in
    (rw part_all (omega (arith, e, l, length-drop (a.half * c.bytes_for.result) u)), search rules)

pub returns : goal.returns
returns c =
    let a = c.args in
    let at : ℕ = a.half * c.bytes_for.result in
    let e : at ≡ a.half * bytes_for a.n = ap (◌*◌ a.half) c.bytes_for.ensures in
    let moved = c.move_up in
    let added = c.add_rows in
    let u : List ℕ = moved.new.w in
    let w : List ℕ = a.w.now in
    let room : at + at ≤ length w = omega arith in
    let f : rows_of a.half a.n added.new.w ≡ map (plus (unpack a.n a.p.now)) (rows_of a.half a.n w) =
    added.ensures.w_after
    ∙ ap (λ (s : List ℕ). map (plus (unpack a.n a.p.now)) (rows_of a.half a.n s)) (part_all at u ∙ ap (drop at) moved.ensures)
    ∙ ap (map (plus (unpack a.n a.p.now))) (moved_behind a.half a.n at w w e room) in
    ap (rows_of (a.half + a.half) a.n)
    (part_back at u added.new.w ∙ ap (λ (s : List ℕ). take at s ++ added.new.w) moved.ensures)
    ∙ both_halves a.half a.n at w added.new.w e room _ f
