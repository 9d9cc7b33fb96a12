-- `power_sums::folding::fold_level` meets its contract. Assumes nothing.
use mathlib.Core.Path.{◌≡◌, refl, sym, ap, ◌∙◌}
use mathlib.Core.List.{List}
use Prim.Native.Nat.{ℕ, ◌+◌, ◌*◌, ◌≤◌}
use native.Mathlib.Nat.{zero-mul}
use native.Mathlib.Omega.{arith}
use lib.ListN.{length, length-replicate}
use lib.Seq.{length_front, length-take-le}
use Rattle.bits.proofs.Parts.{next_row}
use Rattle.levels.specs.Twist.{each_block}
use Rattle.levels.proofs.Blocks.{block_in, block_next, block_length, length-each_block}
use Rattle.power_sums.specs.Sums.{folded}
use Rattle.power_sums.proofs.Transposed.{length-folded}
use Rattle.power_sums.proofs.folding.fold_level.Goals as goal

pub loop-k-init : goal.loop-k-init
unfolding each_block
loop-k-init c =
    let w : ℕ = length c.args.g.now + length c.args.g.now in
    (omega arith, sym (zero-mul w), refl, refl, λ h. block_in 0 c.args.q w h (sym (zero-mul w)) c.requires.1, length-replicate {A = ℕ} 4096 0)

pub overflow_add-at : goal.overflow_add-at
overflow_add-at c = omega (arith, c.loop-k.invariant.4 (omega arith))

pub offset_bounds-b-at : goal.offset_bounds-b-at
offset_bounds-b-at c = omega (arith, c.loop-k.invariant.4 (omega arith))

pub slice_bounds-fold-end : goal.slice_bounds-fold-end
slice_bounds-fold-end c = c.loop-k.invariant.4 (omega arith)

pub slice_bounds-p-end : goal.slice_bounds-p-end
slice_bounds-p-end c = omega (arith, c.requires.2, c.loop-k.invariant.5)

pub slice_bounds-fold-end-in-loop-k : goal.slice_bounds-fold-end-in-loop-k
slice_bounds-fold-end-in-loop-k c =
    let l = c.loop-k in
    sym (length-take-le (length c.args.g.now) l.p (omega (arith, c.requires.2, l.invariant.5)))

pub fold-requires : goal.fold-requires
fold-requires c =
    let l = c.loop-k in
    let g = c.args.g.now in
    (c.requires.0, block_length l.at (length g + length g) l.b (l.invariant.4 (omega arith)), length-take-le (length g) l.p (omega (arith, c.requires.2, l.invariant.5)))

pub overflow_add-at-in-loop-k : goal.overflow_add-at-in-loop-k
overflow_add-at-in-loop-k c = omega (arith, c.loop-k.invariant.4 (omega arith))

pub loop-k-preserved : goal.loop-k-preserved
loop-k-preserved c =
    let l = c.loop-k in
    let a = c.args in
    let w : ℕ = length a.g.now + length a.g.now in
    let f : List ℕ → List ℕ = folded a.m a.g.now in
    let e : l.at + w ≤ length l.b = l.invariant.4 (omega arith) in
    let same : (x : List ℕ) → length x ≡ w → length (f x) ≡ w = length-folded a.m a.g.now in
    let n : l.at + w ≡ (l.k + 1) * w = ap (λ (x : ℕ). x + w) l.invariant.1 ∙ next_row l.k w in
    let z = block_next f w same l.k l.at a.b.now l.b _ l.invariant.3 l.invariant.1 (omega arith) c.fold.ensures in
    let k = ap length z ∙ length-each_block f w same (l.k + 1) a.b.now (omega arith) in
    (omega arith, n, k, z, (λ h. rw k (block_in (l.k + 1) a.q w h n c.requires.1)), length_front l.p c.fold.new.p (length a.g.now) c.fold.auto.p ∙ l.invariant.5)

pub returns : goal.returns
returns c =
    let l = c.loop-k in
    let a = c.args in
    let e : l.k ≡ a.q = omega arith in
    l.invariant.3 ∙ ap (λ (i : ℕ). each_block (folded a.m a.g.now) (length a.g.now + length a.g.now) i a.b.now) e
