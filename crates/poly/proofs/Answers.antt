-- The number of a refusal of the register's list, by the tests of the code. Assumes nothing.
use mathlib.Core.Path.{◌≡◌, refl}
use mathlib.Core.Bool.{Bool, true, false, not, cond}
use mathlib.Core.List.{List}
use Prim.Native.Nat.{ℕ, ◌≤◌, ◌<◌}
use native.Mathlib.Omega.{arith}
use borrow.Author.Tests.{lt-ltb, le-ltb, ltb-false}
use lib.Dec.{ltb}
use lib.ListN.{length}
use Rattle.bits.specs.Bits.{every}
use Rattle.field.specs.Numbers.{first_of}
use Rattle.field.specs.Field.{is_width, is_element}
use Rattle.field.proofs.Table.{Width}
use Rattle.poly.specs.Register.{longest, register_number}

module _ (m : ℕ) (s : List ℕ) where
  pub number_no_width : is_width m ≡ false → register_number m s ≡ 1
  unfolding register_number first_of
  number_no_width n = rw n

  pub number_long : Width m → 256 < length s → register_number m s ≡ 2
  unfolding register_number first_of longest
  number_long w h = rw (w, lt-ltb 256 (length s) h)

  pub number_element : Width m → length s ≤ 256 → every (is_element m) s ≡ false → register_number m s ≡ 4
  unfolding register_number first_of longest
  number_element w h e = rw (w, le-ltb 256 (length s) h, e)

  pub number_none : Width m → length s ≤ 256 → every (is_element m) s ≡ true → register_number m s ≡ 0
  unfolding register_number first_of longest
  number_none w h e = rw (w, le-ltb 256 (length s) h, e)

  -- accepted: the width, the length and every element are right
  pub accepted : register_number m s ≡ 0 → Width m × (length s ≤ 256) × (every (is_element m) s ≡ true)
  unfolding register_number first_of longest
  accepted = go (is_width m) (ltb 256 (length s)) (every (is_element m) s) refl refl refl
    where
      go : (w l e : Bool) → is_width m ≡ w → ltb 256 (length s) ≡ l → every (is_element m) s ≡ e
          → ◌≡◌ {A = ℕ} (cond (not w) 1 (cond l 2 (cond (not e) 4 0))) 0 → Width m × (length s ≤ 256) × (every (is_element m) s ≡ true)
      go false l e p q r z = absurd (omega arith)
      go true true e p q r z = absurd (omega arith)
      go true false false p q r z = absurd (omega arith)
      go true false true p q r z = (p, ltb-false 256 (length s) q, r)
