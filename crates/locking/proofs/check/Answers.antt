-- The tests in order. Assumes nothing.
use mathlib.Core.Path.{◌≡◌, ap}
use Prim.Native.Nat.{ℕ, ◌-◌, ◌*◌, ◌≤◌}
use native.Mathlib.Nat.{mul-le-mul}
use native.Mathlib.Omega.{arith}
use Rattle.bits.proofs.Parts.{row_size}
use Rattle.field.proofs.Verdicts.{refuses, accepts}
use Rattle.field.proofs.Table.{modulus_none, modulus_some}
use Rattle.key.proofs.Order.{failed, passed}
use Rattle.key.proofs.Shapes.{limits}
use Rattle.key.proofs.Conditions.{limits_fit}
use Rattle.locking.proofs.Numbers.{public_size, lock_1, lock_3, lock_8_public, lock_8_pattern, lock_9_public, lock_9_pattern, lock_12, lock_10, lock_0}
use Rattle.locking.proofs.check.Goals as goal

pub returns-then-modulus-eq0 : goal.returns-then-modulus-eq0
returns-then-modulus-eq0 c =
    let a = c.args in
    refuses (lock_1 a.m a.n a.t a.public.now a.pattern.now a.out.now (modulus_none _ c.modulus.ensures c.if-modulus-eq0.true))

pub returns-then-not-in_limits : goal.returns-then-not-in_limits
returns-then-not-in_limits c =
    let a = c.args in
    refuses (lock_3 a.m a.n a.t a.public.now a.pattern.now a.out.now (modulus_some _ c.modulus.ensures c.if-modulus-eq0.false) (failed c.in_limits.ensures c.if-not-in_limits.true))

pub overflow_mul-rows : goal.overflow_mul-rows
overflow_mul-rows c =
    let a = c.args in
    omega (arith, (limits a.m a.n a.t (passed c.in_limits.ensures c.if-not-in_limits.false)).over)

pub overflow_sub-w : goal.overflow_sub-w
overflow_sub-w c =
    let a = c.args in
    omega (arith, (limits a.m a.n a.t (passed c.in_limits.ensures c.if-not-in_limits.false)).over)

pub overflow_mul-rows-2 : goal.overflow_mul-rows-2
overflow_mul-rows-2 c =
    let a = c.args in
    let few : a.m * a.t ≤ 8192 = omega (arith, limits_fit a.m a.n a.t (modulus_some _ c.modulus.ensures c.if-modulus-eq0.false) (passed c.in_limits.ensures c.if-not-in_limits.false), (limits a.m a.n a.t (passed c.in_limits.ensures c.if-not-in_limits.false)).over) in
    let size : c.bytes_for.result ≤ 1024 = omega (arith, row_size (a.n - a.m * a.t) (omega (arith, limits_fit a.m a.n a.t (modulus_some _ c.modulus.ensures c.if-modulus-eq0.false) (passed c.in_limits.ensures c.if-not-in_limits.false)))) in
    omega (arith, mul-le-mul few size)

pub returns-then-public-rows : goal.returns-then-public-rows
returns-then-public-rows c =
    let a = c.args in
    let size : a.m * a.t * c.bytes_for.result ≡ public_size a.m a.n a.t = ap (λ (x : ℕ). a.m * a.t * x) c.bytes_for.ensures in
    refuses (lock_8_public a.m a.n a.t a.public.now a.pattern.now a.out.now (modulus_some _ c.modulus.ensures c.if-modulus-eq0.false) (passed c.in_limits.ensures c.if-not-in_limits.false) (λ e. omega (arith, size)))

pub returns-then-pattern-bytes_for : goal.returns-then-pattern-bytes_for
returns-then-pattern-bytes_for c =
    let a = c.args in
    let size : a.m * a.t * c.bytes_for.result ≡ public_size a.m a.n a.t = ap (λ (x : ℕ). a.m * a.t * x) c.bytes_for.ensures in
    refuses (lock_8_pattern a.m a.n a.t a.public.now a.pattern.now a.out.now (modulus_some _ c.modulus.ensures c.if-modulus-eq0.false) (passed c.in_limits.ensures c.if-not-in_limits.false) (omega (arith, size)) (λ e. omega arith))

pub fillers_clear-requires : goal.fillers_clear-requires
fillers_clear-requires c =
    let a = c.args in
    let size : a.m * a.t * c.bytes_for.result ≡ public_size a.m a.n a.t = ap (λ (x : ℕ). a.m * a.t * x) c.bytes_for.ensures in
    (omega (arith, size), omega (arith, limits_fit a.m a.n a.t (modulus_some _ c.modulus.ensures c.if-modulus-eq0.false) (passed c.in_limits.ensures c.if-not-in_limits.false), (limits a.m a.n a.t (passed c.in_limits.ensures c.if-not-in_limits.false)).over), omega (arith, limits_fit a.m a.n a.t (modulus_some _ c.modulus.ensures c.if-modulus-eq0.false) (passed c.in_limits.ensures c.if-not-in_limits.false)))

pub returns-then-not-fillers_clear : goal.returns-then-not-fillers_clear
returns-then-not-fillers_clear c =
    let a = c.args in
    let size : a.m * a.t * c.bytes_for.result ≡ public_size a.m a.n a.t = ap (λ (x : ℕ). a.m * a.t * x) c.bytes_for.ensures in
    refuses (lock_9_public a.m a.n a.t a.public.now a.pattern.now a.out.now (modulus_some _ c.modulus.ensures c.if-modulus-eq0.false) (passed c.in_limits.ensures c.if-not-in_limits.false) (omega (arith, size)) (omega arith) (failed c.fillers_clear.ensures c.if-not-fillers_clear.true))

pub returns-then-not-filler_clear : goal.returns-then-not-filler_clear
returns-then-not-filler_clear c =
    let a = c.args in
    let size : a.m * a.t * c.bytes_for.result ≡ public_size a.m a.n a.t = ap (λ (x : ℕ). a.m * a.t * x) c.bytes_for.ensures in
    refuses (lock_9_pattern a.m a.n a.t a.public.now a.pattern.now a.out.now (modulus_some _ c.modulus.ensures c.if-modulus-eq0.false) (passed c.in_limits.ensures c.if-not-in_limits.false) (omega (arith, size)) (omega arith) (passed c.fillers_clear.ensures c.if-not-fillers_clear.false) (failed c.filler_clear.ensures c.if-not-filler_clear.true))

pub returns-then-weight-t : goal.returns-then-weight-t
returns-then-weight-t c =
    let a = c.args in
    let size : a.m * a.t * c.bytes_for.result ≡ public_size a.m a.n a.t = ap (λ (x : ℕ). a.m * a.t * x) c.bytes_for.ensures in
    refuses (lock_12 a.m a.n a.t a.public.now a.pattern.now a.out.now (modulus_some _ c.modulus.ensures c.if-modulus-eq0.false) (passed c.in_limits.ensures c.if-not-in_limits.false) (omega (arith, size)) (omega arith) (passed c.fillers_clear.ensures c.if-not-fillers_clear.false) (passed c.filler_clear.ensures c.if-not-filler_clear.false) (λ e. omega arith))

pub returns-then-out-bytes_for : goal.returns-then-out-bytes_for
returns-then-out-bytes_for c =
    let a = c.args in
    let size : a.m * a.t * c.bytes_for.result ≡ public_size a.m a.n a.t = ap (λ (x : ℕ). a.m * a.t * x) c.bytes_for.ensures in
    refuses (lock_10 a.m a.n a.t a.public.now a.pattern.now a.out.now (modulus_some _ c.modulus.ensures c.if-modulus-eq0.false) (passed c.in_limits.ensures c.if-not-in_limits.false) (omega (arith, size)) (omega arith) (passed c.fillers_clear.ensures c.if-not-fillers_clear.false) (passed c.filler_clear.ensures c.if-not-filler_clear.false) (omega arith) (omega arith))

pub returns : goal.returns
returns c =
    let a = c.args in
    let size : a.m * a.t * c.bytes_for.result ≡ public_size a.m a.n a.t = ap (λ (x : ℕ). a.m * a.t * x) c.bytes_for.ensures in
    accepts (lock_0 a.m a.n a.t a.public.now a.pattern.now a.out.now (modulus_some _ c.modulus.ensures c.if-modulus-eq0.false) (passed c.in_limits.ensures c.if-not-in_limits.false) (omega (arith, size)) (omega arith) (passed c.fillers_clear.ensures c.if-not-fillers_clear.false) (passed c.filler_clear.ensures c.if-not-filler_clear.false) (omega arith) (omega arith))
