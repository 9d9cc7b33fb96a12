-- The check's refusal, or the capsule's bits written over a row of zeros. Assumes nothing.
use mathlib.Core.Path.{sym, ap, ◌∙◌}
use mathlib.Core.List.{List, map}
use Prim.Native.Nat.{ℕ, ◌-◌, ◌*◌, ◌≤◌}
use native.Mathlib.Omega.{arith}
use Rattle.bits.specs.Bits.{from, put_bits, over}
use Rattle.bits.proofs.PutBits.{put-over, written_zeros}
use Rattle.field.proofs.Verdicts.{accepts, verdict_accepted, verdict_refused}
use Rattle.code.proofs.LockLaws.{output_written}
use Rattle.locking.specs.Locking.{capsule_bit}
use Rattle.locking.proofs.Numbers.{lock-fits, output_kept}
use Rattle.locking.proofs.Rows.{row_capsule, lock-bits}
use Rattle.locking.proofs.lock.Goals as goal

pub returns-in_default : goal.returns-in_default
returns-in_default c =
    let a = c.args in
    let e = c.check-x.ensures in
    record { value = e; out_after = output_kept a.m a.n a.t a.public.now a.pattern.now a.out.now (verdict_refused _ e c.in_default.is) }

pub overflow_mul-rows : goal.overflow_mul-rows
overflow_mul-rows c =
    let a = c.args in
    let f = lock-fits a.m a.n a.t a.public.now a.pattern.now a.out.now (verdict_accepted _ c.check-x.ensures c.in-Accepted.is) in
    omega (arith, f.over)

pub overflow_cast-rows-3 : goal.overflow_cast-rows-3
overflow_cast-rows-3 c =
    let a = c.args in
    let f = lock-fits a.m a.n a.t a.public.now a.pattern.now a.out.now (verdict_accepted _ c.check-x.ensures c.in-Accepted.is) in
    omega (arith, f.over, f.small)

pub overflow_sub-n : goal.overflow_sub-n
overflow_sub-n c =
    let a = c.args in
    let f = lock-fits a.m a.n a.t a.public.now a.pattern.now a.out.now (verdict_accepted _ c.check-x.ensures c.in-Accepted.is) in
    omega (arith, f.over)

pub put_capsule-requires : goal.put_capsule-requires
put_capsule-requires c =
    let a = c.args in
    let f = lock-fits a.m a.n a.t a.public.now a.pattern.now a.out.now (verdict_accepted _ c.check-x.ensures c.in-Accepted.is) in
    (omega (arith, f.public_size_lem), omega (arith, f.over, f.small), omega (arith, f.small))

pub returns : goal.returns
returns c =
    let a = c.args in
    let number = verdict_accepted _ c.check-x.ensures c.in-Accepted.is in
    let f = lock-fits a.m a.n a.t a.public.now a.pattern.now a.out.now number in
    let small : a.m * a.t ≤ a.n = omega (arith, f.over) in
    let bits : List ℕ = map (capsule_bit (a.n - a.m * a.t) (a.m * a.t) a.public.now a.pattern.now) (from 0 (a.m * a.t)) in
    record {
      value = accepts (sym number);
      out_after = c.put_capsule.ensures ∙ ap (put_bits bits 0) (c.clear_row.ensures ∙ written_zeros (a.m * a.t) a.out.now f.room) ∙ put-over a.out.now (row_capsule (a.n - a.m * a.t) (a.m * a.t) a.public.now a.pattern.now) ∙ ap (λ (l : List ℕ). over l a.out.now) (sym (lock-bits a.m a.n a.t a.public.now a.pattern.now small)) ∙ sym (output_written a.m a.n a.t a.public.now a.pattern.now a.out.now number);
    }
