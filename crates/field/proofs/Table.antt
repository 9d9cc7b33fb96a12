-- The table of moduli, by one computed test of its 14 entries: at a width the modulus has degree m and passes the test of
-- `Inverses`; elsewhere it is 0. Assumes nothing.
use mathlib.Core.Path.{◌≡◌, refl, sym, ◌∙◌}
use mathlib.Core.Bool.{Bool, true, false, true≢false, cond, ◌&&◌, ◌||◌}
use mathlib.Core.List.{List, [], ◌∷◌}
use Prim.Native.Nat.{ℕ, suc, ◌≤◌, ◌<◌, ◌^◌}
use native.Mathlib.Omega.{arith}
use lib.Dec.{eqb, leb, ltb}
use lib.ListN.{get_or, get_or-eq_default}
use lib.Pow.{pow_pos}
use borrow.Author.Tests.{ltb-true, ltb-false, leb-true, eqb-true, ne_eqb}
use Rattle.bits.specs.Xor.{◌⊕◌}
use Rattle.bits.specs.Bits.{from, every}
use Rattle.bits.proofs.Lists.{and_left, and_right, every_below_at}
use Rattle.field.specs.Field.{is_width, modulus_of, poly_mul, reduced, mul_mod}
use Rattle.field.proofs.Modular.{Modulus}
use Rattle.field.proofs.Inverses.{combine, square, frobenius, fixes, returns, test}

-- m is a width
abbrev pub Width : ℕ → Type 0
Width m = is_width m ≡ true

-- at each width, the list by which e² + e gives e back
unfoldable certificate : ℕ → List ℕ
certificate m =
    get_or
    ([] ∷ [] ∷ [] ∷ []
    ∷ (6 ∷ 10 ∷ 8 ∷ 0 ∷ [])
    ∷ [] ∷ [] ∷ [] ∷ [] ∷ [] ∷ [] ∷ []
    ∷ (72 ∷ 3088 ∷ 3090 ∷ 520 ∷ 3094 ∷ 3458 ∷ 512 ∷ 272 ∷ 3078 ∷ 0 ∷ 3490 ∷ 1444 ∷ [])
    ∷ (0 ∷ 5376 ∷ 5378 ∷ 898 ∷ 5382 ∷ 5276 ∷ 906 ∷ 280 ∷ 5398 ∷ 3324 ∷ 5308 ∷ 4110 ∷ 970 ∷ [])
    ∷ [])
    m []

-- f has degree m, m is over 1, and the test passes
unfoldable is_field : ℕ → ℕ → Bool
is_field m f = ltb 1 m && (leb (2 ^ m) f && (ltb f (2 ^ suc m) && test m f (certificate m)))

unfoldable right : ℕ → Bool
right m = cond (is_width m) (is_field m (modulus_of m)) (eqb (modulus_of m) 0)

all_right : every right (from 0 14) ≡ true
unfolding every from right is_field certificate is_width modulus_of test fixes returns combine frobenius square mul_mod poly_mul reduced ◌⊕◌
all_right = refl

-- past the table there is no width, and the modulus is 0
no_width : (m : ℕ) → 14 ≤ m → is_width m ≡ false
unfolding is_width
no_width m h = simp (ne_eqb m 4 (λ e. omega arith), ne_eqb m 12 (λ e. omega arith), ne_eqb m 13 (λ e. omega arith))

no_modulus : (m : ℕ) → 14 ≤ m → modulus_of m ≡ 0
unfolding modulus_of
no_modulus m h = search get_or-eq_default

right_at : (m : ℕ) → right m ≡ true
unfolding right
right_at m = go (ltb m 14) refl
  where
    go : (b : Bool) → ltb m 14 ≡ b → right m ≡ true
    go true e = every_below_at right 14 all_right m (ltb-true m 14 e)
    go false e = rw (no_width m (ltb-false m 14 e), no_modulus m (ltb-false m 14 e))

module _ (m : ℕ) (w : Width m) where
  checked : is_field m (modulus_of m) ≡ true
  unfolding right
  checked = rw w at (right_at m)

  small : leb (2 ^ m) (modulus_of m) && (ltb (modulus_of m) (2 ^ suc m) && test m (modulus_of m) (certificate m)) ≡ true
  unfolding is_field
  small = and_right (ltb 1 m) _ checked

  pub width_over_one : 1 < m
  unfolding is_field
  width_over_one = ltb-true 1 m (and_left (ltb 1 m) _ checked)

  pub width_pos : 0 < m
  width_pos = omega (arith, width_over_one)

  pub width_modulus : Modulus m (modulus_of m)
  width_modulus =
      record {
        lo = leb-true (2 ^ m) (modulus_of m) (and_left (leb (2 ^ m) (modulus_of m)) _ small);
        hi = ltb-true (modulus_of m) (2 ^ suc m) (and_left (ltb (modulus_of m) (2 ^ suc m)) _ (and_right (leb (2 ^ m) (modulus_of m)) _ small));
      }

  pub width_test : (c : List ℕ) × (test m (modulus_of m) c ≡ true)
  width_test =
      (certificate m, and_right (ltb (modulus_of m) (2 ^ suc m)) _ (and_right (leb (2 ^ m) (modulus_of m)) _ small))

  pub width_narrow : m < 14
  width_narrow = go (ltb m 14) refl
    where
      go : (b : Bool) → ltb m 14 ≡ b → m < 14
      go true e = ltb-true m 14 e
      go false e = absurd (true≢false (sym w ∙ no_width m (ltb-false m 14 e)))

-- the three widths
pub width_4 : Width 4
unfolding is_width
width_4 = refl

pub width_12 : Width 12
unfolding is_width
width_12 = refl

pub width_13 : Width 13
unfolding is_width
width_13 = refl

pub width_smallest : (m : ℕ) → Width m → (eqb m 12 || eqb m 13) ≡ false → m ≡ 4
unfolding is_width
width_smallest m w e = eqb-true m 4 (go (eqb m 4) w)
  where
    go : (a : Bool) → (a || eqb m 12 || eqb m 13) ≡ true → a ≡ true
    go true h = refl
    go false h = absurd (true≢false (sym h ∙ e))

-- m is a width, or it is not
pub by_width : {P : Type 0} (m : ℕ) → (Width m → P) → (is_width m ≡ false → P) → P
by_width {P} m width none = go (is_width m) refl
  where
    go : (b : Bool) → is_width m ≡ b → P
    go true e = width e
    go false e = none e

pub modulus_zero : (m : ℕ) → is_width m ≡ false → modulus_of m ≡ 0
unfolding right
modulus_zero m n = eqb-true (modulus_of m) 0 (rw n at (right_at m))

-- the code's test of the modulus r
pub modulus_none : (m : ℕ) {r : ℕ} → r ≡ modulus_of m → r ≡ 0 → is_width m ≡ false
modulus_none m e z = by_width m (λ w. absurd (omega (arith, pow_pos m, (width_modulus m w).lo))) (λ n. n)

pub modulus_some : (m : ℕ) {r : ℕ} → r ≡ modulus_of m → (r ≡ 0 → ⊥) → Width m
modulus_some m e n = by_width m (λ w. w) (λ z. absurd (n (e ∙ modulus_zero m z)))
