-- The loop's invariant: the columns before column j are written, and the right halves are as they were. Assumes nothing.
use mathlib.Core.Path.{◌≡◌, refl, sym, ap, ◌∙◌, subst}
use mathlib.Core.Logic.{◌⊎◌}
use mathlib.Core.Bool.{true}
use mathlib.Core.List.{List, ◌++◌, map}
use Prim.Native.Nat.{ℕ, ◌+◌, ◌-◌, ◌*◌, ◌/◌, ◌≤◌, ◌<◌, min}
use native.Mathlib.Nat.{not-suc-le-zero}
use native.Mathlib.Omega.{arith}
use borrow.Rule.Slice.PartMut.{put_mid, same_len_mid}
use lib.ListN.{length, get_or, take, drop, length-drop}
use Rattle.bits.specs.Bits.{every, bytes_for, pack}
use Rattle.bits.proofs.Parts.{rows_in, row_size, part_all, part_back}
use Rattle.field.specs.Answers.{is_unit}
use Rattle.key.specs.Keys.{key_of, goppa_at}
use Rattle.block_product.proofs.Groups.{step_is, step_few}
use Rattle.column_blocks.specs.Tails.{tail_row}
use Rattle.column_blocks.proofs.Columns.{part, length_part, units_part, tail_right, byte_tail, columns_inside, columns_outside, width, width_few, width_fits, width_size, width_whole, next-whole, next_bytes, byte_before}
use Rattle.column_blocks.proofs.blocks.Goals as goal

pub overflow_mul-bytes_for : goal.overflow_mul-bytes_for
overflow_mul-bytes_for c =
    let a = c.args in
    omega (arith, c.bytes_for.ensures, step_is a.rows, step_few a.rows (omega arith))

pub loop-j-init : goal.loop-j-init
loop-j-init c =
    let a = c.args in
    (omega arith, λ h. refl, refl, refl, λ i h. refl, refl, λ i x h l. absurd (not-suc-le-zero l), λ y h. refl)

pub overflow_add-e : goal.overflow_add-e
overflow_add-e c =
    let l = c.loop-j in
    let a = c.args in
    let n : ℕ = length a.points.now in
    let more : l.j < n = omega arith in
    let x : ℕ = c.smaller.result in
    let e : x ≡ width a.rows n l.j c.requires.2 more =
    c.smaller.ensures
    ∙ ap (λ (y : ℕ). min y (n - l.j)) (c.smaller-width.ensures ∙ ap (λ (y : ℕ). min 512 (8 * y)) c.bytes_for.ensures) in
    let few = width_few a.rows n l.j c.requires.2 more in
    let whole : l.j ≡ 8 * (l.j / 8) = l.invariant.1 more in
    omega (arith, c.requires.4, few.2)

pub slice_bounds-block-count : goal.slice_bounds-block-count
slice_bounds-block-count c =
    let l = c.loop-j in
    let a = c.args in
    let n : ℕ = length a.points.now in
    let more : l.j < n = omega arith in
    let x : ℕ = c.smaller.result in
    let e : x ≡ width a.rows n l.j c.requires.2 more =
    c.smaller.ensures
    ∙ ap (λ (y : ℕ). min y (n - l.j)) (c.smaller-width.ensures ∙ ap (λ (y : ℕ). min 512 (8 * y)) c.bytes_for.ensures) in
    let few = width_few a.rows n l.j c.requires.2 more in
    let whole : l.j ≡ 8 * (l.j / 8) = l.invariant.1 more in
    omega (
      arith,
      l.invariant.2,
      c.requires.8,
      rows_in 0 a.rows a.size c.requires.2,
      c.requires.5,
      width_size a.rows n l.j c.requires.2 more whole,
    )

pub slice_bounds-block-start : goal.slice_bounds-block-start
slice_bounds-block-start c =
    let l = c.loop-j in
    let a = c.args in
    let n : ℕ = length a.points.now in
    let more : l.j < n = omega arith in
    let x : ℕ = c.smaller.result in
    let e : x ≡ width a.rows n l.j c.requires.2 more =
    c.smaller.ensures
    ∙ ap (λ (y : ℕ). min y (n - l.j)) (c.smaller-width.ensures ∙ ap (λ (y : ℕ). min 512 (8 * y)) c.bytes_for.ensures) in
    let few = width_few a.rows n l.j c.requires.2 more in
    let whole : l.j ≡ 8 * (l.j / 8) = l.invariant.1 more in
    omega (
      arith,
      l.invariant.2,
      c.requires.8,
      rows_in 0 a.rows a.size c.requires.2,
      c.requires.5,
      width_size a.rows n l.j c.requires.2 more whole,
    )

pub offset_bounds-points-j : goal.offset_bounds-points-j
offset_bounds-points-j c =
    let l = c.loop-j in
    let a = c.args in
    let n : ℕ = length a.points.now in
    let more : l.j < n = omega arith in
    let x : ℕ = c.smaller.result in
    let e : x ≡ width a.rows n l.j c.requires.2 more =
    c.smaller.ensures
    ∙ ap (λ (y : ℕ). min y (n - l.j)) (c.smaller-width.ensures ∙ ap (λ (y : ℕ). min 512 (8 * y)) c.bytes_for.ensures) in
    let few = width_few a.rows n l.j c.requires.2 more in
    let whole : l.j ≡ 8 * (l.j / 8) = l.invariant.1 more in
    omega (arith, c.requires.4)

pub slice_bounds-block-start-in-loop-j : goal.slice_bounds-block-start-in-loop-j
slice_bounds-block-start-in-loop-j c =
    let l = c.loop-j in
    let a = c.args in
    let n : ℕ = length a.points.now in
    let more : l.j < n = omega arith in
    let x : ℕ = c.smaller.result in
    let e : x ≡ width a.rows n l.j c.requires.2 more =
    c.smaller.ensures
    ∙ ap (λ (y : ℕ). min y (n - l.j)) (c.smaller-width.ensures ∙ ap (λ (y : ℕ). min 512 (8 * y)) c.bytes_for.ensures) in
    let few = width_few a.rows n l.j c.requires.2 more in
    let whole : l.j ≡ 8 * (l.j / 8) = l.invariant.1 more in
    omega (arith, few.2)

pub slice_bounds-block-end-in-loop-j : goal.slice_bounds-block-end-in-loop-j
slice_bounds-block-end-in-loop-j c =
    let l = c.loop-j in
    let a = c.args in
    let n : ℕ = length a.points.now in
    let more : l.j < n = omega arith in
    let x : ℕ = c.smaller.result in
    let e : x ≡ width a.rows n l.j c.requires.2 more =
    c.smaller.ensures
    ∙ ap (λ (y : ℕ). min y (n - l.j)) (c.smaller-width.ensures ∙ ap (λ (y : ℕ). min 512 (8 * y)) c.bytes_for.ensures) in
    let few = width_few a.rows n l.j c.requires.2 more in
    let whole : l.j ≡ 8 * (l.j / 8) = l.invariant.1 more in
    omega (arith, few.2)

pub block-requires : goal.block-requires
block-requires c =
    let l = c.loop-j in
    let a = c.args in
    let n : ℕ = length a.points.now in
    let more : l.j < n = omega arith in
    let x : ℕ = c.smaller.result in
    let e : x ≡ width a.rows n l.j c.requires.2 more =
    c.smaller.ensures
    ∙ ap (λ (y : ℕ). min y (n - l.j)) (c.smaller-width.ensures ∙ ap (λ (y : ℕ). min 512 (8 * y)) c.bytes_for.ensures) in
    let few = width_few a.rows n l.j c.requires.2 more in
    let whole : l.j ≡ 8 * (l.j / 8) = l.invariant.1 more in
    let points : List ℕ = a.points.now in
    let g : List ℕ = a.g.now in
    let at : ℕ = l.j / 8 in
    let within : l.j + x ≤ n = omega (arith, few.2) in
    let q : l.j + x - l.j ≡ x = omega arith in
    let p : List ℕ = take (l.j + x - l.j) (drop l.j points) in
    let lent : p ≡ part a.m points g l.j x within = ap (λ (y : ℕ). take y (drop l.j points)) q in
    let long : length p ≡ x = ap length lent ∙ length_part a.m points g l.j x within in
    let size : at + bytes_for x ≤ a.size =
    subst (λ (y : ℕ). at + bytes_for y ≤ a.size) (sym e) (omega (arith, c.requires.5, width_size a.rows n l.j c.requires.2 more whole)) in
    let fits : at + bytes_for (length p) ≤ a.size = subst (λ (y : ℕ). at + bytes_for y ≤ a.size) (sym long) size in
    let inside : (i : ℕ) → i < a.rows → i * a.size + bytes_for (length p) ≤ length (drop at l.out) =
    λ i h. omega (arith, l.invariant.2, c.requires.8, length-drop at l.out, rows_in i a.rows a.size h) in (
      c.requires.0,
      c.requires.1,
      c.requires.2,
      c.requires.3,
      omega (arith, few.1),
      subst (λ (y : ℕ). bytes_for y ≤ bytes_for a.rows) (sym (long ∙ e)) (width_fits a.rows n l.j c.requires.2 more),
      omega arith,
      omega (arith, c.requires.5, row_size n c.requires.4),
      subst (λ (s : List ℕ). every (is_unit a.m) (map (goppa_at (key_of a.m s g)) s) ≡ true) (sym lent) (units_part a.m points g l.j x within c.requires.6),
      omega (arith, l.invariant.3, c.requires.7),
      rw part_all inside,
    )

pub loop-j-smaller : goal.loop-j-smaller
loop-j-smaller c =
    let l = c.loop-j in
    let a = c.args in
    let n : ℕ = length a.points.now in
    let more : l.j < n = omega arith in
    let x : ℕ = c.smaller.result in
    let e : x ≡ width a.rows n l.j c.requires.2 more =
    c.smaller.ensures
    ∙ ap (λ (y : ℕ). min y (n - l.j)) (c.smaller-width.ensures ∙ ap (λ (y : ℕ). min 512 (8 * y)) c.bytes_for.ensures) in
    let few = width_few a.rows n l.j c.requires.2 more in
    let whole : l.j ≡ 8 * (l.j / 8) = l.invariant.1 more in
    omega (arith, few.0, few.2)

pub loop-j-preserved : goal.loop-j-preserved
loop-j-preserved c =
    let l = c.loop-j in
    let a = c.args in
    let n : ℕ = length a.points.now in
    let more : l.j < n = omega arith in
    let x : ℕ = c.smaller.result in
    let e : x ≡ width a.rows n l.j c.requires.2 more =
    c.smaller.ensures
    ∙ ap (λ (y : ℕ). min y (n - l.j)) (c.smaller-width.ensures ∙ ap (λ (y : ℕ). min 512 (8 * y)) c.bytes_for.ensures) in
    let few = width_few a.rows n l.j c.requires.2 more in
    let whole : l.j ≡ 8 * (l.j / 8) = l.invariant.1 more in
    let points : List ℕ = a.points.now in
    let g : List ℕ = a.g.now in
    let at : ℕ = l.j / 8 in
    let within : l.j + x ≤ n = omega (arith, few.2) in
    let q : l.j + x - l.j ≡ x = omega arith in
    let p : List ℕ = take (l.j + x - l.j) (drop l.j points) in
    let lent : p ≡ part a.m points g l.j x within = ap (λ (y : ℕ). take y (drop l.j points)) q in
    let long : length p ≡ x = ap length lent ∙ length_part a.m points g l.j x within in
    let size : at + bytes_for x ≤ a.size =
    subst (λ (y : ℕ). at + bytes_for y ≤ a.size) (sym e) (omega (arith, c.requires.5, width_size a.rows n l.j c.requires.2 more whole)) in
    let fits : at + bytes_for (length p) ≤ a.size = subst (λ (y : ℕ). at + bytes_for y ≤ a.size) (sym long) size in
    let k : ℕ = bytes_for (length p) in
    let out : List ℕ = l.out in
    let w₀ : List ℕ = a.work.now in
    let F : ℕ → List ℕ = λ i. pack (tail_row a.m points g a.rows w₀ i) in
    let called = c.block in
    let y : List ℕ = called.new.out in
    let new : List ℕ = put_mid at (length out - at) out y in
    let back : new ≡ take at out ++ y = part_back at out y in
    let room : at ≤ length out = omega (arith, l.invariant.2, c.requires.8, rows_in 0 a.rows a.size c.requires.2) in
    let last : x < n - l.j → x ≡ 8 * (x / 8) =
    subst (λ (z : ℕ). z < n - l.j → z ≡ 8 * (z / 8)) (sym e) (width_whole a.rows n l.j c.requires.2 more whole) in
    let own : (i z : ℕ) → i < a.rows → z < k → get_or y (i * a.size + z) 0 ≡ get_or (F i) (at + z) 0 =
    λ i z h m.
    called.ensures.inside i z h m
    ∙ ap (λ (r : List ℕ). get_or (pack r) z 0) (tail_right a.m p g a.rows l.work w₀ i (l.invariant.4 i h))
    ∙ ap (λ (s : List ℕ). get_or (pack (tail_row a.m s g a.rows w₀ i)) z 0) lent
    ∙ byte_tail a.m points g l.j x within a.rows w₀ i z whole last (subst (λ (v : ℕ). z < bytes_for v) long m) in
    let kept : (z : ℕ) → ((i : ℕ) → i < a.rows → (z < i * a.size) ⊎ (i * a.size + k ≤ z)) → get_or y z 0 ≡ get_or (drop at out) z 0 =
    λ z h. called.ensures.outside z h ∙ ap (λ (s : List ℕ). get_or s z 0) (part_all at out) in
    let bytes : (z : ℕ) → 8 * z < l.j + x → z < at + k =
    λ z h.
    subst (λ (v : ℕ). z < at + bytes_for v) (sym (long ∙ e))
    (next_bytes a.rows n l.j c.requires.2 more whole z (subst (λ (v : ℕ). 8 * z < l.j + v) e h)) in (
      within,
      subst (λ (v : ℕ). l.j + v < n → l.j + v ≡ 8 * ((l.j + v) / 8)) (sym e) (next-whole a.rows n l.j c.requires.2 more whole),
      same_len_mid at (length out - at) out y called.auto.out ∙ l.invariant.2,
      called.auto.work ∙ l.invariant.3,
      λ i h. called.ensures.right i h ∙ l.invariant.4 i h,
      called.ensures.rest ∙ l.invariant.5,
      λ i z h m.
          ap (λ (s : List ℕ). get_or s (i * a.size + z) 0) back
          ∙ columns_inside a.rows a.size at k a.out.now out y F fits room own kept (λ j v r t. l.invariant.6 j v r (omega arith)) i z h (bytes z m),
      λ z h. ap (λ (s : List ℕ). get_or s z 0) back ∙ columns_outside a.rows a.size at k a.out.now out y F fits room own kept l.invariant.7 z h,
    )

pub shape_of-out : goal.shape_of-out
shape_of-out c = c.loop-j.invariant.2

pub shape_of-work : goal.shape_of-work
shape_of-work c = c.loop-j.invariant.3

pub returns : goal.returns
returns c =
    let l = c.loop-j in
    let a = c.args in
    let n : ℕ = length a.points.now in
    record { inside = λ i x h m. l.invariant.6 i x h (omega (arith, byte_before x n (subst (λ (v : ℕ). x < v) c.requires.5 m))); outside = l.invariant.7; rest = l.invariant.5 }
