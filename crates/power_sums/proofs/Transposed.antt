-- All levels of the weighted sums of powers. Assumes nothing.
use mathlib.Core.Path.{◌≡◌, sym, ap, ap₂, ◌∙◌}
use mathlib.Core.List.{List, ◌++◌, append-nil}
use Prim.Native.Nat.{ℕ, zero, suc, ◌+◌, ◌-◌, ◌*◌, ◌^◌, ◌<◌, ◌≤◌}
use native.Mathlib.Nat.{pow-suc, one-mul as nat-one-mul, sub-zero}
use native.Mathlib.Omega.{arith}
use lib.Pow.{pow-add}
use lib.ListN.{length, get_or, take, drop, length-append, length-drop, drop_of_length-le, take-append-drop}
use lib.Seq.{take_all, length-take-le}
use Rattle.bits.specs.Xor.{◌⊕◌}
use Rattle.bits.specs.Bits.{each_with, xor_row}
use Rattle.bits.proofs.Lists.{length-map-from, map-from}
use Rattle.bits.proofs.Each.{length-each_with}
use Rattle.field.specs.Field.{mul, power}
use Rattle.field.proofs.Table.{Width}
use Rattle.levels.specs.Levels.{basis_of, top_of, factors_of}
use Rattle.levels.specs.Twist.{each_block}
use Rattle.power_sums.specs.Sums.{moment, moments_by, folded, merged, weights_of, sums_of, power_sums}
use Rattle.levels.proofs.Blocks.{Joins, two_levels, length_blocks}
use Rattle.levels.proofs.Filled.{length_factors}
use Rattle.levels.proofs.LevelBases.{basis_at, first_point}
use Rattle.power_sums.proofs.LevelSums.{level_sums}
use Rattle.power_sums.proofs.Moments.{sum_cong}

twice : (n : ℕ) → 2 ^ suc n ≡ 2 ^ n + 2 ^ n
twice n = omega (arith, pow-suc 2 n)

pub length-folded : (m : ℕ) (g l : List ℕ) → length l ≡ length g + length g → length (folded m g l) ≡ length g + length g
unfolding folded xor_row
length-folded m g l e =
    let u : List ℕ = take (length g) l in
    let v : List ℕ = drop (length g) l in
    let a : List ℕ = each_with ◌⊕◌ u v in
    length-append a (each_with ◌⊕◌ v (each_with (mul m) a g))
    ∙ ap₂ ◌+◌ (length-each_with ◌⊕◌ u v ∙ length-take-le (length g) l (omega arith)) (length-each_with ◌⊕◌ v _ ∙ length-drop (length g) l ∙ omega arith)

pub length_moments : (m n k : ℕ) (b p : List ℕ) → length (moments_by m n b k p) ≡ k
unfolding moments_by
length_moments m n k b p = length-map-from (moment m n b p) 0 k

module _ (m : ℕ) (w : Width m) where
  module _ (j : ℕ) (h : j < m) where
    e : m - j ≡ suc (m - suc j)
    e = omega arith

    c : 2 ^ (m - j) ≡ 2 ^ (m - suc j) + 2 ^ (m - suc j)
    c = ap (λ (i : ℕ). 2 ^ i) e ∙ twice (m - suc j)

    pub folded-size : (p : List ℕ) → length p ≡ 2 ^ (m - j) → length (folded m (factors_of m j) p) ≡ 2 ^ (m - suc j) + 2 ^ (m - suc j)
    folded-size p x =
        let f : length (factors_of m j) ≡ 2 ^ (m - suc j) = length_factors m j in
        length-folded m (factors_of m j) p (x ∙ c ∙ ap₂ ◌+◌ (sym f) (sym f)) ∙ ap₂ ◌+◌ f f

    joined_at : (k : ℕ) (p : List ℕ) → length p ≡ 2 ^ (m - j)
        → merged m (top_of m j) k (moments_by m (m - suc j) (basis_of m (suc j)) k (take (2 ^ (m - suc j)) (folded m (factors_of m j) p))
        ++ moments_by m (m - suc j) (basis_of m (suc j)) k (drop (2 ^ (m - suc j)) (folded m (factors_of m j) p)))
        ≡ moments_by m (m - j) (basis_of m j) (k + k) p
    unfolding top_of factors_of basis_of
    joined_at k p x =
        level_sums m w (m - suc j) (basis_of m j) (rw e at (basis_at m w j (omega arith))) p (x ∙ c) k
        ∙ ap (λ (i : ℕ). moments_by m i (basis_of m j) (k + k) p) (sym e)

  joins : (k j : ℕ) → j < k → k ≤ m
      → Joins (folded m (factors_of m j)) (merged m (top_of m j) (2 ^ (k - suc j))) (moments_by m (m - suc j) (basis_of m (suc j)) (2 ^ (k - suc j)))
      (moments_by m (m - j) (basis_of m j) (2 ^ (k - j))) (2 ^ (m - j)) (2 ^ (m - suc j)) (2 ^ (k - suc j))
  joins k j h l =
      let g : j < m = omega arith in
      let d : k - j ≡ suc (k - suc j) = omega arith in
      let f : 2 ^ (k - suc j) + 2 ^ (k - suc j) ≡ 2 ^ (k - j) = sym (ap (λ (i : ℕ). 2 ^ i) d ∙ twice (k - suc j)) in
      record {
        low = λ p. take (2 ^ (m - suc j)) (folded m (factors_of m j) p);
        high = λ p. drop (2 ^ (m - suc j)) (folded m (factors_of m j) p);
        parts = λ p x. sym (take-append-drop (2 ^ (m - suc j)) (folded m (factors_of m j) p));
        low_length = λ p x. length-take-le (2 ^ (m - suc j)) (folded m (factors_of m j) p) (omega (arith, folded-size j g p x));
        high_length = λ p x. length-drop (2 ^ (m - suc j)) (folded m (factors_of m j) p) ∙ omega (arith, folded-size j g p x);
        length_values = λ p. length_moments m (m - suc j) (2 ^ (k - suc j)) (basis_of m (suc j)) p;
        joined = λ p x. joined_at j g (2 ^ (k - suc j)) p x ∙ ap (λ (i : ℕ). moments_by m (m - j) (basis_of m j) i p) f;
      }

  pub length_weights : (p : List ℕ) → length p ≡ 2 ^ m → (j : ℕ) → j ≤ m → length (weights_of m j p) ≡ 2 ^ j * 2 ^ (m - j)
  unfolding weights_of
  length_weights p x zero h = x ∙ sym (nat-one-mul (2 ^ m)) ∙ ap (λ (i : ℕ). 1 * 2 ^ i) (sym (sub-zero m))
  length_weights p x (suc j) h =
      length_blocks (folded m (factors_of m j)) (2 ^ (m - j)) (2 ^ (m - j)) (λ l y. folded-size j h l y ∙ sym (c j h)) (2 ^ j) (weights_of m j p) (length_weights p x j (omega arith))
      ∙ halved (e j h)
    where
      halved : m - j ≡ suc (m - suc j) → 2 ^ j * 2 ^ (m - j) ≡ 2 ^ suc j * 2 ^ (m - suc j)
      halved e =
          let d : j + (m - j) ≡ suc j + (m - suc j) = omega arith in
          sym (pow-add 2 j (m - j)) ∙ ap (λ (x : ℕ). 2 ^ x) d ∙ pow-add 2 (suc j) (m - suc j)

  -- the sums of one level from those of the next
  pub sums_up : (k : ℕ) (p : List ℕ) → length p ≡ 2 ^ m → k ≤ m → (j : ℕ) → j < k
      → each_block (merged m (top_of m j) (2 ^ (k - suc j))) (2 ^ (k - j)) (2 ^ j) (sums_of m k (suc j) p) ≡ sums_of m k j p
  unfolding sums_of weights_of
  sums_up k p x l j h =
      let d : k - j ≡ suc (k - suc j) = omega arith in
      let f : 2 ^ (k - j) ≡ 2 ^ (k - suc j) + 2 ^ (k - suc j) = ap (λ (i : ℕ). 2 ^ i) d ∙ twice (k - suc j) in
      ap₂ (λ (y q : ℕ). each_block (merged m (top_of m j) (2 ^ (k - suc j))) y (2 ^ j)
      (each_block (moments_by m (m - suc j) (basis_of m (suc j)) (2 ^ (k - suc j))) (2 ^ (m - suc j)) q (weights_of m (suc j) p))) f (twice j)
      ∙ two_levels _ _ _ _ _ _ _ (joins k j h l) (2 ^ j) (weights_of m j p) (length_weights p x j (omega arith))

  -- at level 0 over all elements
  pub all_sums : (k : ℕ) (p : List ℕ) → length p ≡ 2 ^ m → sums_of m k 0 p ≡ power_sums m (2 ^ k) p
  unfolding sums_of weights_of each_block power_sums moments_by moment
  all_sums k p x =
      ap₂ (λ (a b : ℕ). each_block (moments_by m a (basis_of m 0) (2 ^ b)) (2 ^ a) 1 p) (sub-zero m) (sub-zero k)
      ∙ ap₂ (λ (x y : List ℕ). moments_by m m (basis_of m 0) (2 ^ k) x ++ y) (take_all (2 ^ m) p (omega arith)) (drop_of_length-le p {i = 2 ^ m} (omega arith))
      ∙ append-nil _
      ∙ map-from _ _ 0 0 (2 ^ k) (λ s h. sum_cong (2 ^ m) _ _ (λ a g. ap (λ (x : ℕ). mul m (get_or p a 0) (power m x (0 + s))) (first_point m w a g)))
