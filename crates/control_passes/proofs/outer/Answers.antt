-- The passes one after another, by the laws of `Outside`. Assumes nothing.
use Prim.Native.Nat.{◌-◌, ◌*◌}
use native.Mathlib.Omega.{arith}
use Rattle.control_passes.proofs.Connect.{size, size_small}
use Rattle.control_passes.proofs.Outside.{two, room, at_low, first_layer, last_layer, halved}
use Rattle.control_passes.proofs.outer.Goals as goal

pub put-requires : goal.put-requires
put-requires c =
    let e = size c.args.k c.args.pi.now c.requires.level in
    record { h_in_bounds = let w = c.requires.work.c_fits in omega arith; by_index = room c.args.k c.args.pi.now c.requires.level c.args.off c.args.step 0 c.args.b.now c.requires.fits (omega arith); step_nonzero = c.requires.step_nonzero }

pub settle-requires : goal.settle-requires
settle-requires c =
    let e = size c.args.k c.args.pi.now c.requires.level in
    record { pi_in_bounds = (let w = c.requires.work.c_fits in omega arith, size_small c.args.k c.args.pi.now c.requires.level); by_index = at_low c.args.k c.args.pi.now c.requires.level }

pub overflow_sub-k : goal.overflow_sub-k
overflow_sub-k c = let b = c.requires.level.some in b

pub overflow_mul-k : goal.overflow_mul-k
overflow_mul-k c = let b = c.requires.level.small in omega arith

pub put-requires-2 : goal.put-requires-2
put-requires-2 c =
    let e = size c.args.k c.args.pi.now c.requires.level in
    record { h_in_bounds = omega arith; by_index = room c.args.k c.args.pi.now c.requires.level c.args.off c.args.step (2 * (c.args.k - 1)) c.put.new.b (λ l j a b. let q = c.requires.fits l j a b in omega (arith, c.put.auto)) (omega arith); step_nonzero = (c.requires.step_nonzero.0, omega (arith, c.requires.step_nonzero.1, c.put.auto)) }

pub halves-requires : goal.halves-requires
halves-requires c =
    let e = size c.args.k c.args.pi.now c.requires.level in
    let t = two c.args.k c.args.pi.now c.requires.level in let z = size_small c.args.k c.args.pi.now c.requires.level in
    let w = c.requires.work.p_fits in (omega (arith, c.settle.auto), omega (arith, c.cycles.auto), omega arith)

pub copy-requires : goal.copy-requires
copy-requires c =
    let e = size c.args.k c.args.pi.now c.requires.level in
    let w = c.requires.work.p_fits in (omega (arith, c.settle.auto), omega (arith, c.cycles.auto, c.halves.auto))

pub returns : goal.returns
returns c =
    let k = c.args.k in let pi = c.args.pi.now in let lv = c.requires.level in
    let m = c.cycles.new.c in let tm = c.cycles.ensures in
    let q = c.settle.new.pi in let tq = c.settle.ensures in record {
      outer = record {
        between = c.put.new.b;
        first_layer = first_layer k pi lv m tm c.args.off c.args.step _ _ c.put.ensures;
        last_layer = last_layer k pi lv m tm q tq c.args.off c.args.step (2 * (k - 1)) _ _ c.put-2.ensures;
      };
      halved = halved k pi lv m tm q tq c.halves.new.out c.copy.new.dst c.halves.ensures.tab c.halves.ensures.by_index c.copy.ensures;
    }
