-- The loop's invariant: the rows before row `first` are written, and all else is as it was. Assumes nothing.
use mathlib.Core.Path.{◌≡◌, refl, sym, ap, ◌∙◌}
use mathlib.Core.Logic.{◌⊎◌}
use mathlib.Core.List.{List, ◌++◌}
use Prim.Native.Nat.{ℕ, ◌+◌, ◌-◌, ◌*◌, ◌≤◌, ◌<◌}
use native.Mathlib.Nat.{zero-mul, add-mul, not-suc-le-zero, mul-le-mul}
use native.Mathlib.Omega.{arith}
use borrow.Rule.Slice.PartMut.{put_mid, same_len_mid}
use lib.ListN.{length, get_or, take, drop, length-drop}
use Rattle.bits.specs.Bits.{bytes_for, pack}
use Rattle.bits.proofs.Parts.{part_all, part_back}
use Rattle.block_product.specs.Blocks.{block_row}
use Rattle.block_product.proofs.Placing.{joined_inside, joined_outside}
use Rattle.block_product.proofs.product.Goals as goal

pub loop-first-init : goal.loop-first-init
loop-first-init c =
    let a = c.args in
    (omega arith, sym (zero-mul a.size), refl, λ i x h. absurd (not-suc-le-zero h), λ y h. refl)

pub slice_bounds-some_rows-count : goal.slice_bounds-some_rows-count
slice_bounds-some_rows-count c =
    let l = c.loop-first in
    let a = c.args in
    omega (arith, l.invariant.1, l.invariant.2, c.requires.7 l.first (omega arith))

pub slice_bounds-some_rows-start : goal.slice_bounds-some_rows-start
slice_bounds-some_rows-start c =
    let l = c.loop-first in
    let a = c.args in
    omega (arith, l.invariant.1, l.invariant.2, c.requires.7 l.first (omega arith))

pub some_rows-requires : goal.some_rows-requires
some_rows-requires c =
    let l = c.loop-first in
    let a = c.args in
    let room : (i : ℕ) → i < 640 → i * a.size + bytes_for a.w ≤ length (drop l.at l.out) =
    λ i h.
    omega (
      arith,
      l.invariant.1,
      l.invariant.2,
      length-drop l.at l.out,
      add-mul l.first i a.size,
      c.requires.7 (l.first + i) (omega arith),
    ) in (
      omega arith,
      omega arith,
      omega arith,
      omega arith,
      omega arith,
      omega arith,
      omega arith,
      omega arith,
      omega arith,
      rw part_all room,
    )

pub overflow_add-first : goal.overflow_add-first
overflow_add-first c =
    let l = c.loop-first in
    let a = c.args in
    omega arith

pub overflow_mul-at : goal.overflow_mul-at
overflow_mul-at c =
    let l = c.loop-first in
    let a = c.args in
    let f : (l.first + 640) * a.size ≤ 1664 * 1024 = mul-le-mul (let e : l.first + 640 ≤ 1664 = omega arith in e) (let e : a.size ≤ 1024 = omega arith in e) in
    omega (arith, l.invariant.1, add-mul l.first 640 a.size)

pub overflow_add-at : goal.overflow_add-at
overflow_add-at c =
    let l = c.loop-first in
    let a = c.args in
    let f : (l.first + 640) * a.size ≤ 1664 * 1024 = mul-le-mul (let e : l.first + 640 ≤ 1664 = omega arith in e) (let e : a.size ≤ 1024 = omega arith in e) in
    omega (arith, l.invariant.1, add-mul l.first 640 a.size)

pub loop-first-smaller : goal.loop-first-smaller
loop-first-smaller c =
    let l = c.loop-first in
    let a = c.args in
    omega arith

pub loop-first-preserved : goal.loop-first-preserved
loop-first-preserved c =
    let l = c.loop-first in
    let a = c.args in
    let k : ℕ = bytes_for a.w in
    let out : List ℕ = l.out in
    let F : ℕ → List ℕ = λ i. pack (block_row a.rows a.w a.work.now i) in
    let called = c.some_rows in
    let y : List ℕ = called.new.out in
    let new : List ℕ = put_mid l.at (length out - l.at) out y in
    let e : new ≡ take l.at out ++ y = part_back l.at out y in
    let room : l.at ≤ length out = omega (arith, l.invariant.1, l.invariant.2, c.requires.7 l.first (omega arith)) in
    let fits : k ≤ a.size = omega arith in
    let kept : (z : ℕ) → ((i : ℕ) → i < 640 → (z < i * a.size) ⊎ (i * a.size + k ≤ z)) → get_or y z 0 ≡ get_or (drop l.at out) z 0 =
    λ z h. called.ensures.outside z h ∙ ap (λ (q : List ℕ). get_or q z 0) (part_all l.at out) in (
      omega arith,
      omega (arith, l.invariant.1, add-mul l.first 640 a.size),
      same_len_mid l.at (length out - l.at) out y called.auto.out ∙ l.invariant.2,
      λ j z h m.
          ap (λ (q : List ℕ). get_or q (j * a.size + z) 0) e
          ∙ joined_inside l.first 640 l.at a.size k a.out.now out y F l.invariant.1 fits room called.ensures.inside kept l.invariant.3 j z h m,
      λ z h.
          ap (λ (q : List ℕ). get_or q z 0) e
          ∙ joined_outside l.first 640 l.at a.size k a.out.now out y F l.invariant.1 fits room called.ensures.inside kept l.invariant.4 z h,
    )

pub slice_bounds-some_rows-count-2 : goal.slice_bounds-some_rows-count-2
slice_bounds-some_rows-count-2 c =
    let l = c.loop-first in
    let a = c.args in
    omega (arith, l.invariant.1, l.invariant.2, c.requires.7 l.first (omega arith))

pub slice_bounds-some_rows-start-2 : goal.slice_bounds-some_rows-start-2
slice_bounds-some_rows-start-2 c =
    let l = c.loop-first in
    let a = c.args in
    omega (arith, l.invariant.1, l.invariant.2, c.requires.7 l.first (omega arith))

pub overflow_sub-rows-2 : goal.overflow_sub-rows-2
overflow_sub-rows-2 c =
    let l = c.loop-first in
    let a = c.args in
    omega arith

pub some_rows-requires-2 : goal.some_rows-requires-2
some_rows-requires-2 c =
    let l = c.loop-first in
    let a = c.args in
    let room : (i : ℕ) → i < a.rows - l.first → i * a.size + bytes_for a.w ≤ length (drop l.at l.out) =
    λ i h.
    omega (
      arith,
      l.invariant.1,
      l.invariant.2,
      length-drop l.at l.out,
      add-mul l.first i a.size,
      c.requires.7 (l.first + i) (omega arith),
    ) in (
      omega arith,
      omega arith,
      omega arith,
      omega arith,
      omega arith,
      omega arith,
      omega arith,
      omega arith,
      omega arith,
      rw part_all room,
    )

pub shape_of-out : goal.shape_of-out
shape_of-out c =
    let l = c.loop-first in
    same_len_mid l.at (length l.out - l.at) l.out c.some_rows-2.new.out c.some_rows-2.auto.out ∙ l.invariant.2

pub returns : goal.returns
returns c =
    let l = c.loop-first in
    let a = c.args in
    let k : ℕ = bytes_for a.w in
    let out : List ℕ = l.out in
    let F : ℕ → List ℕ = λ i. pack (block_row a.rows a.w a.work.now i) in
    let called = c.some_rows-2 in
    let y : List ℕ = called.new.out in
    let new : List ℕ = put_mid l.at (length out - l.at) out y in
    let e : new ≡ take l.at out ++ y = part_back l.at out y in
    let room : l.at ≤ length out = omega (arith, l.invariant.1, l.invariant.2, c.requires.7 l.first (omega arith)) in
    let fits : k ≤ a.size = omega arith in
    let kept : (z : ℕ) → ((i : ℕ) → i < a.rows - l.first → (z < i * a.size) ⊎ (i * a.size + k ≤ z)) → get_or y z 0 ≡ get_or (drop l.at out) z 0 =
    λ z h. called.ensures.outside z h ∙ ap (λ (q : List ℕ). get_or q z 0) (part_all l.at out) in
    record {
      inside = λ j z h m. ap (λ (q : List ℕ). get_or q (j * a.size + z) 0) e ∙ joined_inside l.first (a.rows - l.first) l.at a.size k a.out.now out y F l.invariant.1 fits room called.ensures.inside kept l.invariant.3 j z (omega arith) m;
      outside = λ z h. ap (λ (q : List ℕ). get_or q z 0) e ∙ joined_outside l.first (a.rows - l.first) l.at a.size k a.out.now out y F l.invariant.1 fits room called.ensures.inside kept l.invariant.4 z (λ i m. h i (omega arith));
    }
