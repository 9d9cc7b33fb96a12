-- What the register divides by, d_m, is not 0. Assumes nothing.
use mathlib.Core.Path.{◌≡◌}
use mathlib.Core.Bool.{true}
use mathlib.Core.List.{List}
use Prim.Native.Nat.{ℕ, ◌^◌, ◌<◌}
use native.Mathlib.Omega.{arith}
use Rattle.bits.specs.Bits.{from}
use Rattle.bits.proofs.Xor.{xor_lt}
use Rattle.field.specs.Answers.{is_unit}
use Rattle.field.proofs.Table.{Width}
use Rattle.field.proofs.Laws.{mul-lt, one_lt}
use Rattle.field.proofs.Arrays.{Elements, map-elements}
use Rattle.field.proofs.Units.{element_unit}
use Rattle.poly.specs.Register.{Register, start, discrepancy, turn}
use Rattle.poly.proofs.Steps.{term, turn_cases}
use Rattle.poly.proofs.Product.{sum_lt}

module _ (m : ℕ) where
  -- line 3's d_n is an element where the list's members are
  pub discrepancy_element : (s : List ℕ) (r : Register) (n : ℕ) → Elements m s → discrepancy m s r n < 2 ^ m
  unfolding discrepancy
  discrepancy_element s r n e = xor_lt m (e n) (sum_lt m _ (map-elements m (term m s r n) (λ i. mul-lt m _ _) (from 1 r.l)))

  -- d_m is 1 at the start, and a d_n that is not 0 behind it
  pub start_unit : Width m → (r : Register) → r ≡ start → is_unit m r.d ≡ true
  unfolding start
  start_unit w r e = rw e (element_unit m 1 (one_lt m w) (λ z. omega arith))

  pub turn_unit : (d n : ℕ) (r t : Register) → t ≡ turn m d n r → d < 2 ^ m → is_unit m r.d ≡ true → is_unit m t.d ≡ true
  turn_unit d n r t f h u =
      rw f (turn_cases m d n r (λ t. is_unit m t.d ≡ true) (λ z. u) (λ e q. u) (λ e q. element_unit m d h (λ z. omega arith)))
