-- The base is one switch; otherwise the step, and then each half of the list. Assumes nothing.
use mathlib.Core.Path.{◌≡◌, sym, subst}
use mathlib.Core.Logic.{◌≢◌}
use Prim.Native.Nat.{ℕ, ◌-◌, ◌/◌, ◌^◌, ◌≤◌, ◌<◌}
use native.Mathlib.Omega.{arith}
use mathlib.Core.List.{List}
use lib.ListN.{length}
use lib.Seq.{length-take-le}
use Rattle.control_passes.specs.Passes.{Level, Fits, Outer, Halved}
use Rattle.control_passes.proofs.Outside.{pow_half}
use Rattle.control_bits.proofs.Recur.{pair_size, base, Stepped, odd_small, level_even, level_odd, fits_even, fits_odd, finished, second}
use Rattle.control_bits.proofs.+control.Goals as goal

-- what is known after the step
known : (k off step : ℕ) (pi r b b₂ : List ℕ) → Level k pi → k ≢ 1 → Fits (k - 1) off step b → 0 < step → length b ≤ 4294967296
    → length r ≡ length pi → length b₂ ≡ length b → Outer k off step pi b b₂ → Halved (2 ^ k) (2 ^ (k - 1)) pi r → Stepped k off step pi r b b₂
known k off step pi r b b₂ lv more room pos few n q outer halved = record {
  level = lv;
  two = omega (arith, lv.some);
  pos = pos;
  room = room;
  few = few;
  size = omega (arith, n, lv.each.size);
  kept = q;
  outer = outer;
  halved = halved;
}

pub returns-then-k-eq1 : goal.returns-then-k-eq1
returns-then-k-eq1 t c =
    base c.args.k c.args.off c.args.step c.args.pi.now c.args.b.now _ _ (omega arith)
    (pair_size c.args.k c.args.pi.now c.requires.level (omega arith)) c.put.ensures

pub overflow_mul-even : goal.overflow_mul-even
overflow_mul-even t c =
    let f = known _ _ _ _ _ _ _ c.requires.level (omega arith) c.requires.fits c.requires.step_nonzero.0 c.requires.step_nonzero.1 c.outer.auto.pi c.outer.auto.b c.outer.ensures.outer c.outer.ensures.halved in
    omega (arith, odd_small _ _ _ _ _ _ _ f)

pub overflow_add-even : goal.overflow_add-even
overflow_add-even t c =
    let f = known _ _ _ _ _ _ _ c.requires.level (omega arith) c.requires.fits c.requires.step_nonzero.0 c.requires.step_nonzero.1 c.outer.auto.pi c.outer.auto.b c.outer.ensures.outer c.outer.ensures.halved in
    omega (arith, odd_small _ _ _ _ _ _ _ f)

pub overflow_add-odd : goal.overflow_add-odd
overflow_add-odd t c =
    let f = known _ _ _ _ _ _ _ c.requires.level (omega arith) c.requires.fits c.requires.step_nonzero.0 c.requires.step_nonzero.1 c.outer.auto.pi c.outer.auto.b c.outer.ensures.outer c.outer.ensures.halved in
    omega (arith, odd_small _ _ _ _ _ _ _ f)

pub overflow_mul-step : goal.overflow_mul-step
overflow_mul-step t c =
    let f = known _ _ _ _ _ _ _ c.requires.level (omega arith) c.requires.fits c.requires.step_nonzero.0 c.requires.step_nonzero.1 c.outer.auto.pi c.outer.auto.b c.outer.ensures.outer c.outer.ensures.halved in
    omega (arith, odd_small _ _ _ _ _ _ _ f)

pub control-requires : goal.control-requires
control-requires t c =
    let k = c.args.k in
    let f : Stepped k c.args.off c.args.step c.args.pi.now c.outer.new.pi c.args.b.now c.outer.new.b =
    known _ _ _ _ _ _ _ c.requires.level (omega arith) c.requires.fits c.requires.step_nonzero.0 c.requires.step_nonzero.1 c.outer.auto.pi c.outer.auto.b c.outer.ensures.outer c.outer.ensures.halved in
    let w = c.requires.work in
    let n = c.outer.auto in
    let e = pow_half k f.level.some in (
      omega (arith, c.decreases, f.two),
      (
        level_even _ _ _ _ _ _ _ f,
        (record { inv_fits = omega (arith, w.inv_fits, n, e); p_fits = omega (arith, w.p_fits, n, e); c_fits = omega (arith, w.c_fits, n, e); p2_fits = omega (arith, w.p2_fits, n, e); c2_fits = omega (arith, w.c2_fits, n, e) }, (fits_even _ _ _ _ _ _ _ f, (omega (arith, f.pos), omega (arith, f.kept, f.few)))),
      ),
    )

pub overflow_mul-step-2 : goal.overflow_mul-step-2
overflow_mul-step-2 t c =
    let f = known _ _ _ _ _ _ _ c.requires.level (omega arith) c.requires.fits c.requires.step_nonzero.0 c.requires.step_nonzero.1 c.outer.auto.pi c.outer.auto.b c.outer.ensures.outer c.outer.ensures.halved in
    omega (arith, odd_small _ _ _ _ _ _ _ f)

pub control-requires-2 : goal.control-requires-2
control-requires-2 t c =
    let k = c.args.k in
    let r = c.outer.new.pi in
    let v = c.control in
    let f : Stepped k c.args.off c.args.step c.args.pi.now r c.args.b.now c.outer.new.b =
    known _ _ _ _ _ _ _ c.requires.level (omega arith) c.requires.fits c.requires.step_nonzero.0 c.requires.step_nonzero.1 c.outer.auto.pi c.outer.auto.b c.outer.ensures.outer c.outer.ensures.halved in
    let w = c.requires.work in
    let n = c.outer.auto in
    let q = v.auto in
    let e = pow_half k f.level.some in
    let l : length v.new.pi ≡ length r / 2 = omega (arith, q, length-take-le (length r / 2) r (omega arith)) in (
      omega (arith, c.decreases, f.two),
      (
        subst (Level (k - 1)) (sym (second v.new.pi r (length r / 2) l)) (level_odd _ _ _ _ _ _ _ f),
        (record { inv_fits = omega (arith, w.inv_fits, n, q, e); p_fits = omega (arith, w.p_fits, n, q, e); c_fits = omega (arith, w.c_fits, n, q, e); p2_fits = omega (arith, w.p2_fits, n, q, e); c2_fits = omega (arith, w.c2_fits, n, q, e) }, (fits_odd _ _ _ _ _ _ _ f v.new.b (omega (arith, q, f.kept)), (omega (arith, f.pos), omega (arith, q, f.kept, f.few)))),
      ),
    )

pub returns : goal.returns
returns t c =
    let r = c.outer.new.pi in
    let v = c.control in
    let f : Stepped c.args.k c.args.off c.args.step c.args.pi.now r c.args.b.now c.outer.new.b =
    known _ _ _ _ _ _ _ c.requires.level (omega arith) c.requires.fits c.requires.step_nonzero.0 c.requires.step_nonzero.1 c.outer.auto.pi c.outer.auto.b c.outer.ensures.outer c.outer.ensures.halved in
    let l : length v.new.pi ≡ length r / 2 = omega (arith, v.auto, length-take-le (length r / 2) r (omega arith)) in
    finished _ _ _ _ _ _ _ f _ _ _ (second v.new.pi r (length r / 2) l) v.ensures c.control-2.ensures
