-- The quotient, and one more where c does not divide. Assumes nothing.
use Prim.Native.Nat.{ℕ, ◌+◌, ◌-◌, ◌<◌}
use mathlib.Core.Path.{◌≡◌, sym}
use native.Mathlib.Nat.{div-zero}
use native.Mathlib.Omega.{arith}
use Rattle.reporting.proofs.Checks.{rounded_whole, rounded_up, quotient_fits}
use Rattle.reporting.proofs.capsule_count.Goals as goal

some : {c : ℕ} → (c ≡ 0 → ⊥) → 0 < c
some h = omega arith

pub returns-then-c-eq0 : goal.returns-then-c-eq0
returns-then-c-eq0 c =
    let a = c.args in
    rw c.if-c-eq0.true (sym (div-zero (a.len + (0 - 1))))

pub returns-then-len-c-eq0 : goal.returns-then-len-c-eq0
returns-then-len-c-eq0 c = let a = c.args in rounded_whole a.len a.c (some c.if-c-eq0.false) c.if-len-c-eq0.true

pub overflow_add-result : goal.overflow_add-result
overflow_add-result c =
    let a = c.args in
    omega (arith, quotient_fits a.len a.c (some c.if-c-eq0.false) c.if-len-c-eq0.false)

pub returns : goal.returns
returns c = let a = c.args in rounded_up a.len a.c (some c.if-c-eq0.false) c.if-len-c-eq0.false
