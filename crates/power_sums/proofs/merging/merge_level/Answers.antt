-- `power_sums::merging::merge_level` meets its contract. Assumes nothing.
use mathlib.Core.Path.{◌≡◌, refl, sym, ap, ◌∙◌}
use Prim.Native.Nat.{ℕ, ◌+◌, ◌-◌, ◌*◌}
use native.Mathlib.Omega.{arith}
use mathlib.Core.List.{List}
use lib.ListN.{length, take, drop}
use Rattle.levels.specs.Twist.{each_block}
use Rattle.power_sums.specs.Sums.{merged}
use Rattle.levels.proofs.Blocks.{block_in, block_next, block_length, length-each_block}
use Rattle.power_sums.proofs.Summing.{length_merged, merged_powers}
use Rattle.bits.proofs.Parts.{next_row}
use native.Mathlib.Nat.{zero-mul}
use Rattle.power_sums.proofs.merging.merge_level.Goals as goal

pub loop-k-init : goal.loop-k-init
unfolding each_block
loop-k-init c = (omega arith, sym (zero-mul (c.args.h + c.args.h)), refl, refl)

pub overflow_add-at : goal.overflow_add-at
overflow_add-at c = let e = block_in c.loop-k.k c.args.q (c.args.h + c.args.h) (omega arith) c.loop-k.invariant.1 (c.loop-k.invariant.2 ∙ c.requires.1) in omega arith

pub offset_bounds-c-at : goal.offset_bounds-c-at
offset_bounds-c-at c = let e = block_in c.loop-k.k c.args.q (c.args.h + c.args.h) (omega arith) c.loop-k.invariant.1 (c.loop-k.invariant.2 ∙ c.requires.1) in omega arith

pub slice_bounds-merge-count : goal.slice_bounds-merge-count
slice_bounds-merge-count c = let e = block_in c.loop-k.k c.args.q (c.args.h + c.args.h) (omega arith) c.loop-k.invariant.1 (c.loop-k.invariant.2 ∙ c.requires.1) in omega arith

pub slice_bounds-merge-start : goal.slice_bounds-merge-start
slice_bounds-merge-start c = let e = block_in c.loop-k.k c.args.q (c.args.h + c.args.h) (omega arith) c.loop-k.invariant.1 (c.loop-k.invariant.2 ∙ c.requires.1) in omega arith

pub slice_bounds-merge-end-in-loop-k : goal.slice_bounds-merge-end-in-loop-k
slice_bounds-merge-end-in-loop-k c = let e = block_in c.loop-k.k c.args.q (c.args.h + c.args.h) (omega arith) c.loop-k.invariant.1 (c.loop-k.invariant.2 ∙ c.requires.1) in omega arith

pub merge-requires : goal.merge-requires
merge-requires c = let e = block_in c.loop-k.k c.args.q (c.args.h + c.args.h) (omega arith) c.loop-k.invariant.1 (c.loop-k.invariant.2 ∙ c.requires.1) in (c.requires.0, block_length c.loop-k.at (c.args.h + c.args.h) c.loop-k.c (omega arith), c.requires.2, c.requires.3)

pub overflow_add-at-in-loop-k-2 : goal.overflow_add-at-in-loop-k-2
overflow_add-at-in-loop-k-2 c = let e = block_in c.loop-k.k c.args.q (c.args.h + c.args.h) (omega arith) c.loop-k.invariant.1 (c.loop-k.invariant.2 ∙ c.requires.1) in omega arith

pub loop-k-preserved : goal.loop-k-preserved
loop-k-preserved c =
    let l = c.loop-k in
    let a = c.args in
    let w : ℕ = a.h + a.h in
    let f : List ℕ → List ℕ = merged a.m a.b a.h in
    let e = block_in l.k a.q w (omega arith) l.invariant.1 (l.invariant.2 ∙ c.requires.1) in
    let same : (x : List ℕ) → length x ≡ w → length (f x) ≡ w = length_merged a.m a.b a.h in
    let n : l.at + w ≡ (l.k + 1) * w = ap (λ (x : ℕ). x + w) l.invariant.1 ∙ next_row l.k w in
    let b : length (take (l.at + w - l.at) (drop l.at l.c)) ≡ w = block_length l.at w l.c (omega arith) in
    let z = block_next f w same l.k l.at a.c.now l.c _ l.invariant.3 l.invariant.1 (omega arith)
    (c.merge.ensures ∙ merged_powers a.m c.requires.0 a.b a.h w _ (take (l.at + w - l.at) (drop l.at l.c)) c.powers-p.ensures (omega arith) b (omega arith)) in
    (omega arith, n, ap length z ∙ length-each_block f w same (l.k + 1) a.c.now (omega arith), z)

pub returns : goal.returns
returns c =
    let l = c.loop-k in
    let a = c.args in
    let e : l.k ≡ a.q = omega arith in
    l.invariant.3 ∙ ap (λ (i : ℕ). each_block (merged a.m a.b a.h) (a.h + a.h) i a.c.now) e
