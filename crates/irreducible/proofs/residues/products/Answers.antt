-- The loop's invariant: b is y times r's first j coefficients. Assumes nothing.
use mathlib.Core.Path.{◌≡◌, refl, sym, ap, ap₂, ◌∙◌, subst}
use mathlib.Core.List.{List}
use Prim.Native.Nat.{ℕ, ◌+◌, ◌-◌}
use native.Mathlib.Omega.{arith}
use borrow.Rule.Slice.PartMut.{put_mid, same_len_mid}
use lib.ListN.{length, get_or, take, drop, length-replicate}
use Rattle.row_tables.specs.RowTable.{add_multiple}
use Rattle.row_tables.proofs.RowTable.{length-add_multiple}
use Rattle.irreducible.proofs.Products.{Part, part_none, part_row_lem, part_all}
use Rattle.irreducible.proofs.residues.products.Goals as goal

pub loop-j-init : goal.loop-j-init
loop-j-init c = (omega arith, length-replicate {A = ℕ} 256 0, λ m y W e f. part_none m _ y (length y))

pub slice_bounds-b-end : goal.slice_bounds-b-end
slice_bounds-b-end c = let z : length c.loop-j.b ≡ 256 = c.loop-j.invariant.1 in omega arith

pub loop-j-preserved : goal.loop-j-preserved
loop-j-preserved c =
    let l = c.loop-j in
    let a = c.args in
    let called = c.add_multiple in
    let r : List ℕ = a.r.now in
    let n : ℕ = length r in
    let e : l.j + n - l.j ≡ n = omega arith in
    let x : ℕ = get_or r l.j 0 in
    let k : ℕ = l.j + n - l.j in
    let new : List ℕ = add_multiple a.s.now x (take k (drop l.j l.b)) in
    let y : put_mid l.j k l.b called.new.r ≡ put_mid l.j k l.b new = ap (put_mid l.j k l.b) called.ensures in (
      omega arith,
      ap length y ∙ same_len_mid l.j k l.b new (length-add_multiple a.s.now x (take k (drop l.j l.b))) ∙ l.invariant.1,
      λ m v W f h. subst (Part m r v (l.j + 1) (length v)) (sym (y ∙ ap₂ (λ (k : ℕ) (t : List ℕ). put_mid l.j k l.b (add_multiple t x (take k (drop l.j l.b)))) (e ∙ sym h) f))
          (part_row_lem m W r v l.j l.b (omega arith) (omega arith) (l.invariant.2 m v W f h)),
    )

pub returns : goal.returns
returns c =
    let l = c.loop-j in
    λ m v W f h. part_all m _ v l.j (length v) l.b (omega arith) refl (l.invariant.2 m v W f h)
