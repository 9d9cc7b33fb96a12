-- `levels::bases::points` meets its contract. Assumes nothing.
use mathlib.Core.Path.{refl, sym, ap, ap₂, ◌∙◌}
use Prim.Native.Nat.{ℕ, ◌+◌, ◌^◌, ◌≤◌}
use native.Mathlib.Omega.{arith}
use native.Mathlib.Numerals.{add-one}
use lib.ListN.{length, get_or, length-set}
use Rattle.levels.proofs.Loops.{points_start, points_next, length-doubled}
use lib.Pow.{pow_pos, pow_mono}
use native.Mathlib.Nat.{pow-suc}
use Rattle.levels.proofs.Loops.{pow_step, points_all}
use Rattle.levels.proofs.bases.points.Goals as goal

pub bounds-g-0 : goal.bounds-g-0
bounds-g-0 c = omega (arith, c.requires.1, pow_pos c.args.n)

pub loop-j-init : goal.loop-j-init
loop-j-init c = (omega arith, refl, refl, points_start c.args.b c.args.g.now (omega (arith, c.requires.1, pow_pos c.args.n)))

pub double-requires : goal.double-requires
double-requires c = omega (arith, pow_step c.loop-j.j c.args.n (omega arith) c.loop-j.invariant.1, c.loop-j.invariant.2, length-set c.args.g.now 0 0, c.requires.1, pow_mono {i = c.args.n} {j = 13} (omega arith))

pub overflow_add-w : goal.overflow_add-w
overflow_add-w c = omega (arith, pow_step c.loop-j.j c.args.n (omega arith) c.loop-j.invariant.1, c.loop-j.invariant.2, length-set c.args.g.now 0 0, c.requires.1, pow_mono {i = c.args.n} {j = 13} (omega arith))

pub loop-j-preserved : goal.loop-j-preserved
loop-j-preserved c =
    let l = c.loop-j in
    let a = c.args in
    let h : l.w + l.w ≤ length l.g = omega (arith, pow_step l.j a.n (omega arith) l.invariant.1, l.invariant.2, length-set a.g.now 0 0, c.requires.1) in (
      omega arith,
      ap₂ ◌+◌ l.invariant.1 l.invariant.1 ∙ omega (arith, pow-suc 2 l.j) ∙ ap (λ (i : ℕ). 2 ^ i) (sym (add-one l.j)),
      ap length c.double.ensures ∙ length-doubled l.w (get_or a.b l.j 0) l.g h ∙ l.invariant.2,
      points_next l.j l.w a.b l.g _ l.invariant.3 l.invariant.1 h c.double.ensures,
    )

pub shape_of-g : goal.shape_of-g
shape_of-g c = c.loop-j.invariant.2 ∙ simp length-set

pub returns : goal.returns
returns c =
    let l = c.loop-j in
    let a = c.args in
    points_all l.j a.n a.b l.g (omega arith) (l.invariant.2 ∙ length-set a.g.now 0 0 ∙ c.requires.1) l.invariant.3
