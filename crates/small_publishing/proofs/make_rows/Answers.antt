-- [A|I] reduced, and B times the other columns. Assumes nothing.
use mathlib.Core.Path.{◌≡◌, refl, sym, ap, ap₂, ◌∙◌, subst}
use mathlib.Core.List.{List, flat_map}
use Prim.Native.Nat.{ℕ, ◌+◌, ◌-◌, ◌*◌}
use native.Mathlib.Nat.{zero-add}
use native.Mathlib.Omega.{arith}
use lib.ListN.{length, get_or, take, drop, length-drop}
use lib.Seq.{length-take-le}
use Rattle.bits.specs.Bits.{from, bytes_for, pack, over}
use Rattle.bits.proofs.Parts.{part_all}
use Rattle.key.specs.Keys.{key_of}
use Rattle.code.specs.Code.{parity_rows}
use Rattle.code.specs.Lock.{rows_of}
use Rattle.parity.specs.Rows.{over_rows}
use Rattle.block_product.specs.Blocks.{step_of}
use Rattle.block_product.proofs.Groups.{step_is, step_few}
use Rattle.column_blocks.specs.Tails.{tail_row}
use Rattle.small_publishing.proofs.Sizes.{fits}
use Rattle.small_publishing.proofs.Tails.{left_at, others, no_rows, public_rows, written_rows, tail_length, no_answer_lem, nothing_written, answered}
use Rattle.small_publishing.proofs.Written.{rows_flat}
use Rattle.small_publishing.proofs.make_rows.Goals as goal

pub overflow_mul-rows : goal.overflow_mul-rows
overflow_mul-rows c =
    let a = c.args in
    let f = fits a.m a.support.now a.g.now c.requires.0 in
    omega (arith, f.few)

pub slice_bounds-left_rows-end : goal.slice_bounds-left_rows-end
slice_bounds-left_rows-end c =
    let a = c.args in
    let f = fits a.m a.support.now a.g.now c.requires.0 in
    sym (length-take-le (a.m * length a.g.now) a.support.now f.less)

pub overflow_add-b : goal.overflow_add-b
overflow_add-b c =
    let a = c.args in
    let f = fits a.m a.support.now a.g.now c.requires.0 in
    let r : ℕ = a.m * length a.g.now in
    omega (arith, c.bytes_for-b.ensures, step_is r, step_few r f.few)

pub left_rows-requires : goal.left_rows-requires
left_rows-requires c =
    let a = c.args in
    let f = fits a.m a.support.now a.g.now c.requires.0 in
    let r : ℕ = a.m * length a.g.now in
    let k = c.bytes_for-b in
    let long : length (take r a.support.now) ≡ r = length-take-le r a.support.now f.less in
    let e : k.result + k.result ≡ step_of r = ap₂ ◌+◌ k.ensures k.ensures ∙ sym (step_is r) in (
      f.width,
      omega (arith, f.few),
      f.first_units,
      omega (arith, k.ensures, ap bytes_for long),
      omega (arith, step_few r f.few),
      omega (arith, ap (◌*◌ r) e, c.requires.2),
    )

pub reduce-requires : goal.reduce-requires
reduce-requires c =
    let a = c.args in
    let f = fits a.m a.support.now a.g.now c.requires.0 in
    let r : ℕ = a.m * length a.g.now in
    (omega (arith, f.few), omega (arith, ap (◌*◌ r) (step_is r), c.requires.2, c.left_rows.auto.work))

pub returns-then-not-reduce : goal.returns-then-not-reduce
returns-then-not-reduce c =
    let a = c.args in
    let f = fits a.m a.support.now a.g.now c.requires.0 in
    let s : List ℕ = a.support.now in
    let g : List ℕ = a.g.now in
    let r : ℕ = a.m * length g in
    let k = c.bytes_for-b in
    let left = c.left_rows in
    let w₀ : List ℕ = a.work.now in
    let w₁ : List ℕ = left.new.work in
    let e : k.result + k.result ≡ step_of r = ap₂ ◌+◌ k.ensures k.ensures ∙ sym (step_is r) in
    let made : rows_of r (8 * step_of r) w₁ ≡ over_rows (parity_rows (key_of a.m (take r s) g)) (rows_of r (8 * step_of r) w₀) =
    subst (λ (x : ℕ). rows_of r (8 * x) w₁ ≡ over_rows (parity_rows (key_of a.m (take r s) g)) (rows_of r (8 * x) w₀)) e left.ensures.rows in
    let columns = left_at a.m s g r w₀ w₁ refl f.less made in
    let rest : drop (r * step_of r) w₁ ≡ drop (r * step_of r) w₀ = subst (λ (x : ℕ). drop (r * x) w₁ ≡ drop (r * x) w₀) e left.ensures.rest in
    let gone = c.reduce in
    let w₂ : List ℕ = gone.new.w in
    let none-there = no_rows a.m s g r refl f.less w₁ w₂ columns (sym gone.ensures.answer ∙ c.if-not-reduce.true) in
    record {
      answer = no_answer_lem (key_of a.m s g) none-there;
      output = nothing_written (key_of a.m s g) none-there a.out.now;
      rest = subst (λ (x : ℕ). drop (r * x) w₂ ≡ drop (r * x) w₁) (sym (step_is r)) gone.ensures.rest ∙ rest;
    }

pub overflow_sub-support : goal.overflow_sub-support
overflow_sub-support c =
    let a = c.args in
    let f = fits a.m a.support.now a.g.now c.requires.0 in
    f.less

pub offset_bounds-support-rows : goal.offset_bounds-support-rows
offset_bounds-support-rows c =
    let a = c.args in
    let f = fits a.m a.support.now a.g.now c.requires.0 in
    omega (arith, f.few)

pub slice_bounds-blocks-count : goal.slice_bounds-blocks-count
slice_bounds-blocks-count c =
    let a = c.args in
    let f = fits a.m a.support.now a.g.now c.requires.0 in
    f.less

pub slice_bounds-blocks-start : goal.slice_bounds-blocks-start
slice_bounds-blocks-start c =
    let a = c.args in
    let f = fits a.m a.support.now a.g.now c.requires.0 in
    f.less

pub blocks-requires : goal.blocks-requires
blocks-requires c =
    let a = c.args in
    let f = fits a.m a.support.now a.g.now c.requires.0 in
    let s : List ℕ = a.support.now in
    let r : ℕ = a.m * length a.g.now in
    let size = c.bytes_for-size in
    let long : length (take (length s - r) (drop r s)) ≡ length s - r = ap length (part_all r s) ∙ length-drop r s in (
      f.width,
      refl,
      f.some,
      f.few,
      omega (arith, f.columns),
      size.ensures ∙ ap bytes_for (sym long),
      f.other_units,
      omega (arith, c.requires.2, c.reduce.auto.w, c.left_rows.auto.work),
      omega (arith, c.requires.1, ap (◌*◌ r) size.ensures),
    )

pub returns : goal.returns
returns c =
    let a = c.args in
    let f = fits a.m a.support.now a.g.now c.requires.0 in
    let s : List ℕ = a.support.now in
    let g : List ℕ = a.g.now in
    let r : ℕ = a.m * length g in
    let k = c.bytes_for-b in
    let left = c.left_rows in
    let w₀ : List ℕ = a.work.now in
    let w₁ : List ℕ = left.new.work in
    let e : k.result + k.result ≡ step_of r = ap₂ ◌+◌ k.ensures k.ensures ∙ sym (step_is r) in
    let made : rows_of r (8 * step_of r) w₁ ≡ over_rows (parity_rows (key_of a.m (take r s) g)) (rows_of r (8 * step_of r) w₀) =
    subst (λ (x : ℕ). rows_of r (8 * x) w₁ ≡ over_rows (parity_rows (key_of a.m (take r s) g)) (rows_of r (8 * x) w₀)) e left.ensures.rows in
    let columns = left_at a.m s g r w₀ w₁ refl f.less made in
    let rest : drop (r * step_of r) w₁ ≡ drop (r * step_of r) w₀ = subst (λ (x : ℕ). drop (r * x) w₁ ≡ drop (r * x) w₀) e left.ensures.rest in
    let gone = c.reduce in
    let size = c.bytes_for-size in
    let done = c.blocks-2 in
    let w₂ : List ℕ = gone.new.w in
    let answer = c.if-not-reduce.false in
    let public = public_rows a.m s g r refl f.less w₁ w₂ columns (sym gone.ensures.answer ∙ answer) (gone.ensures.reduced answer) in
    let row : ℕ → List ℕ = λ i. pack (tail_row a.m (others a.m s g r refl f.less) g r w₂ i) in
    let out : done.new.out ≡ over (flat_map row (from 0 r)) a.out.now =
    rows_flat row size.result 0 r done.new.out a.out.now
    (λ i. tail_length a.m s g r refl f.less w₂ i ∙ sym size.ensures)
    done.auto.out
    (omega (arith, c.requires.1, ap (◌*◌ r) size.ensures))
    (λ i x h l.
    done.ensures.inside i x h l
    ∙ ap (λ (p : List ℕ). get_or (pack (tail_row a.m p g r w₂ i)) x 0) (part_all r s) ∙ ap (λ (y : ℕ). get_or (row y) x 0) (sym (zero-add i)))
    done.ensures.outside in
    record {
      answer = answered (key_of a.m s g) _ public;
      output = out ∙ ap (λ (l : List ℕ). over l a.out.now) (written_rows a.m s g r refl f.less w₁ w₂ columns public);
      rest = done.ensures.rest ∙ subst (λ (x : ℕ). drop (r * x) w₂ ≡ drop (r * x) w₁) (sym (step_is r)) gone.ensures.rest ∙ rest;
    }
