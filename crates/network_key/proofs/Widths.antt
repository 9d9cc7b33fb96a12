-- The three widths. Assumes nothing.
use mathlib.Core.Path.{◌≡◌, refl, ap₂}
use mathlib.Core.Bool.{Bool, true, false, ◌||◌}
use Prim.Native.Nat.{ℕ, ◌≤◌}
use native.Mathlib.Omega.{arith}
use lib.Dec.{eqb}
use borrow.Author.Tests.{eqb-true}
use Rattle.field.proofs.Table.{Width, width_smallest}

pub width_cases : {P : Type 0} (m : ℕ) → Width m → (m ≡ 4 → P) → (m ≡ 12 → P) → (m ≡ 13 → P) → P
width_cases {P} m w four twelve thirteen = go (eqb m 12) (eqb m 13) refl refl
  where
    go : (b c : Bool) → eqb m 12 ≡ b → eqb m 13 ≡ c → P
    go true c e f = twelve (eqb-true m 12 e)
    go false true e f = thirteen (eqb-true m 13 f)
    go false false e f = four (width_smallest m w (ap₂ ◌||◌ e f))

pub width_least : (m : ℕ) → Width m → 4 ≤ m
width_least m w = width_cases m w (λ e. omega arith) (λ e. omega arith) (λ e. omega arith)
