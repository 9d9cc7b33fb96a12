-- `transform::gathering::gather` meets its contract. Assumes nothing.
use mathlib.Core.Path.{◌≡◌, refl, ap, ◌∙◌}
use Prim.Native.Nat.{ℕ, ◌%◌, ◌^◌, ◌≤◌, ◌<◌}
use native.Mathlib.Nat.{mod-lt}
use native.Mathlib.Omega.{arith}
use lib.Pow.{pow_pos, pow_mono}
use lib.ListN.{get_or, set, length-set}
use Rattle.field.proofs.Table.{width_narrow}
use Rattle.transform.proofs.Whole.{gathered_start, gathered_next, gathered_all}
use Rattle.transform.proofs.gathering.gather.Goals as goal

-- a place lies among 8192
place_in : (m a : ℕ) {p : ℕ} → m < 14 → p ≡ a % 2 ^ m → p < 8192
place_in m a h e =
    let d : m ≤ 13 = omega arith in
    omega (arith, e, mod-lt a (pow_pos m), pow_mono d)

pub loop-i-init : goal.loop-i-init
loop-i-init c =
    let a = c.args in
    (omega arith, refl, gathered_start a.m a.v.now a.r.now a.points.now)

pub offset_bounds-v-p : goal.offset_bounds-v-p
offset_bounds-v-p c = omega (arith, place_in c.args.m _ (width_narrow _ c.requires) c.place-p.ensures)

pub bounds-v-p : goal.bounds-v-p
bounds-v-p c = place_in c.args.m _ (width_narrow _ c.requires) c.place-p.ensures

pub loop-i-preserved : goal.loop-i-preserved
loop-i-preserved c =
    let l = c.loop-i in
    let a = c.args in (
      omega arith,
      length-set l.r l.i _ ∙ l.invariant.1,
      ap (λ (j : ℕ). set l.r l.i (get_or a.v.now j 0)) c.place-p.ensures
          ∙ gathered_next a.m a.v.now a.r.now a.points.now l.i l.invariant.2 (omega arith) (omega arith),
    )

pub returns : goal.returns
returns c =
    let l = c.loop-i in
    let a = c.args in
    l.invariant.2 ∙ gathered_all a.m a.v.now a.r.now a.points.now l.i (λ h. omega arith)
