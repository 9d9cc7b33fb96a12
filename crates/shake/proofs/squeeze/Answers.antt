-- The loop's invariant: the bytes before `at`, and what a still gives, are the whole output. Assumes nothing.
use mathlib.Core.Path.{◌≡◌, refl, ap, ap₂, ◌∙◌}
use Prim.Native.Nat.{ℕ, ◌+◌, ◌-◌}
use native.Mathlib.Omega.{arith}
use mathlib.Core.List.{List, ◌++◌}
use lib.ListN.{length, take, drop, length-take}
use Rattle.keccak.specs.Lanes.{squeezed}
use Rattle.shake.proofs.Loops.{rest_count, squeeze-next, squeeze_end}
use native.Mathlib.Nat.{sub-zero}
use borrow.Rule.Slice.PartMut.{put_mid, same_len_mid}
use Rattle.shake.proofs.squeeze.Goals as goal

pub loop-out-init : goal.loop-out-init
loop-out-init c = (omega arith, refl, ap (λ (n : ℕ). squeezed n c.args.state) (sub-zero _))

pub write_bytes-requires : goal.write_bytes-requires
write_bytes-requires c =
    let l = c.loop-out in
    omega (arith, length-take (l.at + 136 - l.at) (drop l.at l.out))

pub loop-out-preserved : goal.loop-out-preserved
loop-out-preserved c =
    let l = c.loop-out in
    let w = c.write_bytes in
    let new : List ℕ = w.new.out in
    let k : ℕ = l.at + 136 - l.at in
    let same : length (put_mid l.at k l.out new) ≡ length l.out = same_len_mid l.at k l.out new w.auto.out in (
      omega arith,
      same ∙ l.invariant.1,
      ap₂ (λ (n : ℕ) (b : List ℕ). take (l.at + 136) (put_mid l.at k l.out new) ++ squeezed (n - (l.at + 136)) b) same c.permute-next.ensures
          ∙ squeeze-next l.out new l.a l.at (omega arith) w.ensures
          ∙ l.invariant.2,
    )

pub write_bytes-requires-2 : goal.write_bytes-requires-2
write_bytes-requires-2 c =
    let l = c.loop-out in
    omega (arith, rest_count l.at l.out)

pub shape_of-out : goal.shape_of-out
shape_of-out c =
    let l = c.loop-out in
    let w = c.write_bytes-2 in
    same_len_mid l.at (length l.out - l.at) l.out w.new.out w.auto.out ∙ l.invariant.1

pub returns : goal.returns
returns c =
    let l = c.loop-out in
    let w = c.write_bytes-2 in
    squeeze_end l.out w.new.out l.a l.at (omega arith) w.ensures ∙ l.invariant.2
