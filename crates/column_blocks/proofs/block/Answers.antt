-- H's rows for the points, and their product. Assumes nothing.
use mathlib.Core.Path.{◌≡◌, sym, ap, ap₂, ◌∙◌, subst}
use mathlib.Core.List.{List}
use Prim.Native.Nat.{ℕ, ◌+◌, ◌*◌}
use native.Mathlib.Omega.{arith}
use lib.ListN.{length, get_or, drop}
use Rattle.bits.specs.Bits.{pack}
use Rattle.key.specs.Keys.{key_of}
use Rattle.code.specs.Code.{parity_rows}
use Rattle.code.specs.Lock.{rows_of}
use Rattle.parity.specs.Rows.{over_rows}
use Rattle.block_product.specs.Blocks.{step_of}
use Rattle.block_product.proofs.Groups.{step_is, step_few}
use Rattle.column_blocks.proofs.BlockRows.{right_kept, product_tail}
use Rattle.column_blocks.proofs.block.Goals as goal

pub overflow_add-b : goal.overflow_add-b
overflow_add-b c =
    let a = c.args in
    let k = c.bytes_for-b in
    omega (arith, k.ensures, step_is a.rows, step_few a.rows (omega arith))

pub left_rows-requires : goal.left_rows-requires
left_rows-requires c =
    let a = c.args in
    let k = c.bytes_for-b in
    let e : k.result + k.result ≡ step_of a.rows = ap₂ ◌+◌ k.ensures k.ensures ∙ sym (step_is a.rows) in
    let room : a.m * length a.g.now * (k.result + k.result) ≡ a.rows * step_of a.rows = ap₂ ◌*◌ (sym c.requires.1) e in
    (c.requires.0, omega (arith, c.requires.4), c.requires.8, omega (arith, k.ensures), omega (arith, step_few a.rows (omega arith)), omega (arith, room, c.requires.9))

pub product-requires : goal.product-requires
product-requires c =
    let a = c.args in
    (c.requires.2, c.requires.3, c.requires.4, c.requires.5, c.requires.6, c.requires.7, omega (arith, c.requires.9, c.left_rows.auto.work), c.requires.10)

pub returns : goal.returns
returns c =
    let a = c.args in
    let k = c.bytes_for-b in
    let left = c.left_rows in
    let made = c.product in
    let points : List ℕ = a.points.now in
    let g : List ℕ = a.g.now in
    let w : List ℕ = left.new.work in
    let w₀ : List ℕ = a.work.now in
    let e : k.result + k.result ≡ step_of a.rows = ap₂ ◌+◌ k.ensures k.ensures ∙ sym (step_is a.rows) in
    let count : a.m * length g ≡ a.rows = sym c.requires.1 in
    let written : rows_of a.rows (8 * step_of a.rows) w ≡ over_rows (parity_rows (key_of a.m points g)) (rows_of a.rows (8 * step_of a.rows) w₀) =
    subst (λ (x : ℕ). rows_of a.rows (8 * x) w ≡ over_rows (parity_rows (key_of a.m points g)) (rows_of a.rows (8 * x) w₀)) e
    (subst (λ (x : ℕ). rows_of x (8 * (k.result + k.result)) w ≡ over_rows (parity_rows (key_of a.m points g)) (rows_of x (8 * (k.result + k.result)) w₀)) count
    left.ensures.rows) in
    let rest : drop (a.rows * step_of a.rows) w ≡ drop (a.rows * step_of a.rows) w₀ =
    subst (λ (x : ℕ). drop x w ≡ drop x w₀) (ap₂ ◌*◌ count e) left.ensures.rest in
    record {
      inside = λ i x h l. made.ensures.inside i x h l ∙ ap (λ (r : List ℕ). get_or (pack r) x 0) (product_tail a.m points g a.rows w₀ w count c.requires.5 written i h);
      outside = made.ensures.outside;
      right = λ i h. right_kept a.m points g a.rows w₀ w count c.requires.5 written i h;
      rest = rest;
    }
