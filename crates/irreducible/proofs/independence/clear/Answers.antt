-- `clear` meets its contract. Assumes nothing.
use mathlib.Core.Path.{◌≡◌, refl, sym, ap, ◌∙◌}
use mathlib.Core.Bool.{false≢true}
use mathlib.Core.List.{List, ◌++◌, map}
use Prim.Native.Nat.{ℕ, ◌+◌, ◌-◌, ◌*◌, ◌≤◌, ◌<◌}
use native.Mathlib.Omega.{arith}
use native.Mathlib.Decide.{dec_lt}
use lib.ListN.{length, take, drop, get_or, length-map, length-append, length-replicate, get_or-eq_default}
use lib.Seq.{take_at}
use Rattle.field.specs.Field.{mul, inv}
use Rattle.field.proofs.Units.{element_unit}
use Rattle.row_tables.specs.RowTable.{table_of}
use Rattle.row_tables.proofs.RowTable.{table_in_all}
use Rattle.irreducible.specs.Rows.{row_at}
use Rattle.irreducible.proofs.Rows.{square_room, rows_le, room, length_row, copied, added_by}
use Rattle.irreducible.proofs.independence.clear.Goals as goal

less : (p n : ℕ) → p ≤ n → (p ≡ n → ⊥) → p < n
less p n h k = elim (dec_lt p n) [ yes l ↦ l | no l ↦ (let e : p ≡ n = omega arith in absurd (k e)) ]

pub overflow_mul-at : goal.overflow_mul-at
overflow_mul-at c = let a = c.args in omega (arith, room a.n a.i a.rows.now (omega arith) (omega arith) (omega arith))

pub overflow_add-e : goal.overflow_add-e
overflow_add-e c = let a = c.args in omega (arith, room a.n a.i a.rows.now (omega arith) (omega arith) (omega arith))

pub offset_bounds-rows-at : goal.offset_bounds-rows-at
offset_bounds-rows-at c = let a = c.args in omega (arith, room a.n a.i a.rows.now (omega arith) (omega arith) (omega arith))

pub slice_bounds-block-end : goal.slice_bounds-block-end
slice_bounds-block-end c = let a = c.args in omega (arith, room a.n a.i a.rows.now (omega arith) (omega arith) (omega arith))

pub slice_bounds-pivot-end : goal.slice_bounds-pivot-end
slice_bounds-pivot-end c = let a = c.args in sym (ap length (copied a.n a.i a.rows.now c.block-w.result (omega arith) (omega arith) (omega arith) c.block-w.ensures) ∙ length_row a.n a.rows.now a.i (room a.n a.i a.rows.now (omega arith) (omega arith) (omega arith)))

pub shape_of-rows-then-p-n : goal.shape_of-rows-then-p-n
shape_of-rows-then-p-n c = refl

pub returns-then-p-n : goal.returns-then-p-n
returns-then-p-n c =
    let a = c.args in
    let row : List ℕ = row_at a.n a.rows.now a.i in
    let long : length row ≡ a.n = length_row a.n a.rows.now a.i (room a.n a.i a.rows.now (omega arith) (omega arith) (omega arith)) in
    let w = copied a.n a.i a.rows.now c.block-w.result (omega arith) (omega arith) (omega arith) c.block-w.ensures in
    let e : c.pivot-p.result ≡ a.n = c.if-p-n.true in record {
      cleared = λ f. absurd (false≢true f);
      k_value = λ f k. elim (dec_lt k a.n) [
        | yes h ↦ ap (λ (r : List ℕ). get_or r k 0) (sym w) ∙ c.pivot-p.ensures.zeros k (omega arith)
        | no h ↦ get_or-eq_default row 0 {n = k} (omega arith)
      ];
    }

pub slice_bounds-divide-end : goal.slice_bounds-divide-end
slice_bounds-divide-end c = let a = c.args in sym (ap length (copied a.n a.i a.rows.now c.block-w.result (omega arith) (omega arith) (omega arith) c.block-w.ensures) ∙ length_row a.n a.rows.now a.i (room a.n a.i a.rows.now (omega arith) (omega arith) (omega arith)))

pub divide-requires : goal.divide-requires
divide-requires c =
    let a = c.args in
    let w : take a.n c.block-w.result ≡ row_at a.n a.rows.now a.i = copied a.n a.i a.rows.now c.block-w.result (omega arith) (omega arith) (omega arith) c.block-w.ensures in
    let long : length (take a.n c.block-w.result) ≡ a.n = ap length w ∙ length_row a.n a.rows.now a.i (room a.n a.i a.rows.now (omega arith) (omega arith) (omega arith)) in
    let v = c.pivot-p in
    let bound = v.ensures.bound in
    let h : v.result < a.n = less v.result a.n (omega arith) c.if-p-n.false in
    (c.requires.0, omega arith, omega arith, element_unit a.m _ (rw w (c.requires.4 v.result)) (v.ensures.found (omega arith)))

pub slice_bounds-w-end-3 : goal.slice_bounds-w-end-3
slice_bounds-w-end-3 c =
    let a = c.args in
    let d : List ℕ = c.divide.new.w in
    let long : length d ≡ a.n = ap length c.divide.ensures ∙ length-map (take a.n c.block-w.result) _ ∙ ap length (copied a.n a.i a.rows.now c.block-w.result (omega arith) (omega arith) (omega arith) c.block-w.ensures) ∙ length_row a.n a.rows.now a.i (room a.n a.i a.rows.now (omega arith) (omega arith) (omega arith)) in
    omega (arith, length-append d (drop a.n c.block-w.result))

pub slice_bounds-put_table-end : goal.slice_bounds-put_table-end
slice_bounds-put_table-end c =
    let a = c.args in
    let d : List ℕ = c.divide.new.w in
    let long : length d ≡ a.n = ap length c.divide.ensures ∙ length-map (take a.n c.block-w.result) _ ∙ ap length (copied a.n a.i a.rows.now c.block-w.result (omega arith) (omega arith) (omega arith) c.block-w.ensures) ∙ length_row a.n a.rows.now a.i (room a.n a.i a.rows.now (omega arith) (omega arith) (omega arith)) in
    sym (ap length (take_at d _ a.n long) ∙ long)

pub add_column-requires : goal.add_column-requires
add_column-requires c =
    let a = c.args in
    let v = c.pivot-p in
    let bound = v.ensures.bound in
    let long = ap length (copied a.n a.i a.rows.now c.block-w.result (omega arith) (omega arith) (omega arith) c.block-w.ensures) ∙ length_row a.n a.rows.now a.i (room a.n a.i a.rows.now (omega arith) (omega arith) (omega arith)) in
    let h : v.result < a.n = less v.result a.n (omega arith) c.if-p-n.false in
    let k : ℕ = a.i + 1 + (a.n - (a.i + 2)) in
    let r : k * a.n ≤ a.n * a.n = rows_le k a.n a.n (omega arith) in
    let t = square_room a.n (omega arith) in
    (omega arith, h, omega arith, omega arith)

pub shape_of-rows : goal.shape_of-rows
shape_of-rows c = c.add_column.ensures.size

pub returns : goal.returns
returns c =
    let a = c.args in
    let d : List ℕ = c.divide.new.w in
    let long : length d ≡ a.n = ap length c.divide.ensures ∙ length-map (take a.n c.block-w.result) _ ∙ ap length (copied a.n a.i a.rows.now c.block-w.result (omega arith) (omega arith) (omega arith) c.block-w.ensures) ∙ length_row a.n a.rows.now a.i (room a.n a.i a.rows.now (omega arith) (omega arith) (omega arith)) in
    let v = c.pivot-p in
    let w : take a.n c.block-w.result ≡ row_at a.n a.rows.now a.i = copied a.n a.i a.rows.now c.block-w.result (omega arith) (omega arith) (omega arith) c.block-w.ensures in
    let size : length (take a.n c.block-w.result) ≡ a.n = ap length w ∙ length_row a.n a.rows.now a.i (room a.n a.i a.rows.now (omega arith) (omega arith) (omega arith)) in
    let bound = v.ensures.bound in
    let y : take a.n (d ++ drop a.n c.block-w.result) ≡ map (mul a.m (inv a.m (get_or (row_at a.n a.rows.now a.i) v.result 0))) (row_at a.n a.rows.now a.i) =
    take_at d _ a.n long ∙ c.divide.ensures ∙ ap (λ (r : List ℕ). map (mul a.m (inv a.m (get_or r v.result 0))) r) w in record {
      cleared = λ f. record {
        place = v.result;
        small = less v.result a.n (omega arith) c.if-p-n.false;
        nonzero = λ z. v.ensures.found (less _ _ bound (λ e. c.if-p-n.false (e ∙ size))) (ap (λ (r : List ℕ). get_or r v.result 0) w ∙ z);
        added = added_by (c.put_table.ensures ∙ table_in_all a.m _ _ (length-replicate {A = ℕ} 5120 0) ∙ ap (table_of a.m) y) c.add_column.ensures;
      };
      k_value = λ f. absurd (false≢true (sym f));
    }
