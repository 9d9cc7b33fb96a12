-- `transform::everywhere::ascend` meets its contract. Assumes nothing.
use mathlib.Core.Path.{◌≡◌, refl, ap, ◌∙◌}
use Prim.Native.Nat.{ℕ, ◌+◌, ◌-◌, ◌^◌, ◌≤◌, ◌<◌}
use native.Mathlib.Omega.{arith}
use mathlib.Core.List.{List}
use lib.ListN.{length}
use borrow.Author.Rules.{rules}
use Rattle.transform.specs.Values.{joins_of}
use Rattle.transform.proofs.Wholes.{half_fits, factors_length, join_length, join_next, joined_length}
use Rattle.field.proofs.Table.{width_narrow}
use Rattle.levels.specs.Levels.{two_of}
use Rattle.levels.proofs.TwoPowers.{two_below}
use Rattle.transform.proofs.everywhere.ascend.Goals as goal

-- half the length of a part of level j - 1
module _ (m k j : ℕ) (p : 0 < j) (l : j ≤ k) (km : k ≤ m) (n : m < 14) {h : ℕ} (e : h ≡ two_of (m - 1 - (j - 1))) where
  half_at : h ≡ 2 ^ (m - 1 - (j - 1))
  half_at = two_below (m - 1 - (j - 1)) e (omega arith)

  half_room : (g : List ℕ) → length g ≡ 8192 → h + h ≤ length g
  half_room g eg = omega (arith, half_fits m k j h g p l km half_at n)

pub loop-j-init : goal.loop-j-init
loop-j-init c = (omega arith, refl, refl)

pub overflow_add-h : goal.overflow_add-h
overflow_add-h c = omega (arith, half_room c.args.m c.args.k c.loop-j.j (omega arith) (omega arith) (omega arith) (width_narrow _ c.requires.0) c.two-h.ensures c.args.g.now (search rules))

pub offset_bounds-f-h : goal.offset_bounds-f-h
offset_bounds-f-h c = omega (arith, half_room c.args.m c.args.k c.loop-j.j (omega arith) (omega arith) (omega arith) (width_narrow _ c.requires.0) c.two-h.ensures c.args.g.now (search rules))

pub slice_bounds-join_level-end : goal.slice_bounds-join_level-end
slice_bounds-join_level-end c = omega (arith, half_room c.args.m c.args.k c.loop-j.j (omega arith) (omega arith) (omega arith) (width_narrow _ c.requires.0) c.two-h.ensures c.args.g.now (search rules))

pub join_level-requires : goal.join_level-requires
join_level-requires c =
    let l = c.loop-j in
    let a = c.args in
    let n = width_narrow _ c.requires.0 in
    let eh = half_at a.m a.k l.j (omega arith) (omega arith) (omega arith) n c.two-h.ensures in
    let few = half_fits a.m a.k l.j c.two-h.result a.g.now (omega arith) (omega arith) (omega arith) eh n in
    let size = factors_length a.m a.k l.j c.two-h.result a.g.now (omega arith) (omega arith) (omega arith) eh c.requires.3 in (
      c.requires.0,
      join_length a.m a.k l.j c.two-h.result a.g.now (omega arith) (omega arith) (omega arith) eh c.requires.3
          (two_below _ c.two.ensures (omega arith)) (l.invariant.1 ∙ c.requires.2),
      omega (arith, size, few),
    )

pub loop-j-preserved : goal.loop-j-preserved
loop-j-preserved c =
    let l = c.loop-j in
    let a = c.args in
    let n = width_narrow _ c.requires.0 in
    let eh = half_at a.m a.k l.j (omega arith) (omega arith) (omega arith) n c.two-h.ensures in
    let eq = two_below _ c.two.ensures (omega arith) in
    let d = join_length a.m a.k l.j c.two-h.result a.g.now (omega arith) (omega arith) (omega arith) eh c.requires.3 eq (l.invariant.1 ∙ c.requires.2) in (
      omega arith,
      joined_length a.m a.k l.j c.two-h.result a.g.now (omega arith) (omega arith) (omega arith) eh c.two.result l.d _ d c.join_level.ensures ∙ l.invariant.1,
      join_next a.m a.k l.j c.two-h.result a.g.now (omega arith) (omega arith) (omega arith) eh c.two.result l.d _ c.requires.3 eq c.join_level.ensures ∙ l.invariant.2,
    )

pub returns : goal.returns
unfolding joins_of
returns c =
    let l = c.loop-j in
    let a = c.args in
    let e : 0 ≡ l.j = omega arith in
    ap (λ (i : ℕ). joins_of a.m i l.d) e ∙ l.invariant.2
