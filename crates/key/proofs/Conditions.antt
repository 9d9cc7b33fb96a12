-- The first of the numbers 1 to 7, by the tests of the code. Assumes nothing.
use mathlib.Core.Path.{◌≡◌, refl, ap, ◌∙◌}
use mathlib.Core.Bool.{Bool, true, false, not, cond, ◌&&◌, and-false}
use mathlib.Core.List.{List, [], ◌∷◌}
use Prim.Native.Nat.{ℕ, zero, suc, min, ◌≤◌, ◌<◌}
use native.Mathlib.Nat.{min-le_right, le_of_suc-le-suc}
use native.Mathlib.Omega.{arith}
use lib.Dec.{eqb}
use lib.ListN.{length, take, length-take}
use lib.Seq.{length-take-le}
use lib.Pow.{pow_mono}
use borrow.Author.Tests.{eq-eqb, ne_eqb}
use Rattle.field.specs.Numbers.{first_of}
use Rattle.field.specs.Field.{is_width}
use Rattle.field.proofs.Table.{Width, width_narrow}
use Rattle.key.specs.Shapes.{in_limits}
use Rattle.key.specs.Keys.{conditions, goppa_at, key_number}
use Rattle.key.specs.Keys as Keys
use Rattle.key.specs.Parts.{no_root, faults, head_number, number_but_roots}
use Rattle.key.specs.Kept.{kept}
use Rattle.key.specs.declared.kept.Key.{Key}
use Rattle.key.proofs.Shapes.{Limits, limits}

-- the last, where the first three pass: all four, and the first three of them
pub number-faults : (b : Bool) (k : Keys.Key) → Width k.m → b ≡ false → in_limits k.m k.n k.t ≡ true
    → first_of (faults k.m k.support k.g) ≡ first_of (conditions b k)
unfolding conditions first_of faults no_root goppa_at
number-faults b k w l e = rw (w, l, e)

pub faults_but_roots : (b : Bool) (k : Keys.Key) → Width k.m → b ≡ false → in_limits k.m k.n k.t ≡ true
    → first_of (take 3 (faults k.m k.support k.g)) ≡ first_of (take 6 (conditions b k))
unfolding conditions first_of faults
faults_but_roots b k w l e = rw (w, l, e)

-- the first three, by the tests of the code
module _ (b : Bool) (k : Keys.Key) where
  pub head_width : is_width k.m ≡ false → 1 ≡ first_of (take 3 (conditions b k))
  unfolding conditions first_of
  head_width e = rw e

  pub head_length : Width k.m → b ≡ true → 2 ≡ first_of (take 3 (conditions b k))
  unfolding conditions first_of
  head_length w e = rw (w, e)

  pub head_limits : Width k.m → b ≡ false → in_limits k.m k.n k.t ≡ false → 3 ≡ first_of (take 3 (conditions b k))
  unfolding conditions first_of
  head_limits w l e = rw (w, l, e)

  pub head_none : Width k.m → b ≡ false → in_limits k.m k.n k.t ≡ true → 0 ≡ first_of (take 3 (conditions b k))
  unfolding conditions first_of
  head_none w l e = rw (w, l, e)

  -- no number: each test passes
  pub head_clear : first_of (take 3 (conditions b k)) ≡ 0 → Width k.m × (b ≡ false) × (in_limits k.m k.n k.t ≡ true)
  unfolding conditions first_of
  head_clear = go (is_width k.m) b (in_limits k.m k.n k.t)
    where
      go : (w b l : Bool) → ◌≡◌ {A = ℕ} (cond (not w) 1 (cond b 2 (cond (not l) 3 0))) 0 → (w ≡ true) × (b ≡ false) × (l ≡ true)
      go false b l z = absurd (omega arith)
      go true true l z = absurd (omega arith)
      go true false false z = absurd (omega arith)
      go true false true z = (refl, refl, refl)

-- a number of the first conditions is that of all
pub first-take : (n : ℕ) (cs : List (Bool × ℕ)) → (first_of (take n cs) ≡ 0 → ⊥) → first_of (take n cs) ≡ first_of cs
unfolding first_of
first-take zero cs h = absurd (h refl)
first-take (suc n) [] h = refl
first-take (suc n) (c ∷ cs) h = go c.0 c.1 (first-take n cs) h
  where
    go : (b : Bool) (k : ℕ) → ((first_of (take n cs) ≡ 0 → ⊥) → first_of (take n cs) ≡ first_of cs)
        → (first_of ((b, k) ∷ take n cs) ≡ 0 → ⊥) → first_of ((b, k) ∷ take n cs) ≡ first_of ((b, k) ∷ cs)
    go true k ih h = refl
    go false k ih h = ih h

pub first-from : (n : ℕ) (cs : List (Bool × ℕ)) {x : ℕ} → suc x ≡ first_of (take n cs) → suc x ≡ first_of cs
first-from n cs e = e ∙ first-take n cs (λ z. omega arith)

-- shapes in limits fit the arrays
pub limits_fit : (m n t : ℕ) → Width m → in_limits m n t ≡ true → (n ≤ 8192) × (t ≤ 128)
limits_fit m n t w e =
    let l : Limits m n t = limits m n t e in (omega (arith, l.fits, pow_mono (le_of_suc-le-suc (width_narrow m w))), l.few)

-- the first n numbers of a list are n, where it has so many
take_right : (n : ℕ) (l : List ℕ) → n ≤ length l → eqb (length (take n l)) n ≡ true
take_right n l h = eq-eqb (length (take n l)) n (length-take-le n l h)

take_wrong : (n : ℕ) (l : List ℕ) → length l < n → eqb (length (take n l)) n ≡ false
take_wrong n l h =
    ne_eqb (length (take n l)) n (λ e. let m : min n (length l) ≤ length l = min-le_right n (length l) in omega (arith, length-take n l))

-- a kept key's lists are shorter than n or t
unfoldable pub wrong_length : Key → Bool
wrong_length k = not (eqb (length (take k.n k.support)) k.n && eqb (length (take k.t k.g)) k.t)

module _ (k : Key) where
  pub kept-number : first_of (conditions (wrong_length k) (kept k)) ≡ key_number (kept k)
  unfolding key_number kept wrong_length
  kept-number = refl

  pub kept_head : first_of (take 3 (conditions (wrong_length k) (kept k))) ≡ head_number (kept k)
  unfolding head_number kept wrong_length
  kept_head = refl

  pub wrong_n : length k.support < k.n → wrong_length k ≡ true
  unfolding wrong_length
  wrong_n h = rw (take_wrong k.n k.support h)

  pub wrong_t : length k.g < k.t → wrong_length k ≡ true
  unfolding wrong_length
  wrong_t h = rw (take_wrong k.t k.g h) (ap not (and-false (eqb (length (take k.n k.support)) k.n)))

  pub right_length : k.n ≤ length k.support → k.t ≤ length k.g → wrong_length k ≡ false
  unfolding wrong_length
  right_length n t = rw (take_right k.n k.support n, take_right k.t k.g t)

  -- none of 1, 2 and 3: each test passes
  pub kept_clear : head_number (kept k) ≡ 0 → Width k.m × (wrong_length k ≡ false) × (in_limits k.m k.n k.t ≡ true)
  unfolding kept
  kept_clear z = head_clear (wrong_length k) (kept k) (kept_head ∙ z)

  pub kept-faults : Width k.m → wrong_length k ≡ false → in_limits k.m k.n k.t ≡ true
      → first_of (take 3 (faults k.m (take k.n k.support) (take k.t k.g))) ≡ number_but_roots (kept k)
  unfolding number_but_roots kept wrong_length
  kept-faults w l e = faults_but_roots (wrong_length k) (kept k) w l e

  pub kept-faults-number : Width k.m → wrong_length k ≡ false → in_limits k.m k.n k.t ≡ true
      → first_of (faults k.m (take k.n k.support) (take k.t k.g)) ≡ key_number (kept k)
  unfolding kept
  kept-faults-number w l e = number-faults (wrong_length k) (kept k) w l e ∙ kept-number
