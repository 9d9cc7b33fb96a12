-- All levels: the values of the parts of one level from those of the next; at level 0 the values at every element. Assumes nothing.
use mathlib.Core.Path.{◌≡◌, refl, sym, ap, ap₂, ◌∙◌}
use mathlib.Core.List.{List, [], ◌∷◌, ◌++◌, map, append-nil}
use Prim.Native.Nat.{ℕ, zero, suc, ◌+◌, ◌-◌, ◌*◌, ◌^◌, ◌<◌, ◌≤◌}
use native.Mathlib.Nat.{pow-suc, one-mul as nat-one-mul, mul-one as nat-mul-one, sub-zero}
use native.Mathlib.Omega.{arith}
use lib.Pow.{pow-add}
use lib.ListN.{length, replicate, drop_of_length-le}
use lib.Seq.{take_all}
use Rattle.bits.specs.Xor.{◌⊕◌}
use Rattle.bits.specs.Bits.{from}
use Rattle.bits.proofs.Xor.{xor-zero}
use Rattle.bits.proofs.Lists.{length-map-from, map-from, cons_eq}
use Rattle.field.specs.Field.{mul}
use Rattle.field.specs.Poly.{value}
use Rattle.field.proofs.Table.{Width}
use Rattle.field.proofs.Arrays.{value-nil, value-cons}
use Rattle.field.proofs.Laws.{mul-zero}
use Rattle.levels.specs.Levels.{point_of, basis_of, top_of, factors_of}
use Rattle.levels.specs.Twist.{each_block}
use Rattle.levels.proofs.Blocks.{Joins, two_levels, length_blocks}
use Rattle.levels.proofs.LevelBases.{basis_at, first_point}
use Rattle.transform.specs.Halves.{halves, split}
use Rattle.transform.specs.Values.{butterfly, spread, values_by, parts_of, values_of, everywhere, joins_of}
use Rattle.transform.proofs.Lengths.{length-halves, length-split}
use Rattle.transform.proofs.LevelValues.{level_values}

twice : (n : ℕ) → 2 ^ suc n ≡ 2 ^ n + 2 ^ n
twice n = omega (arith, pow-suc 2 n)

-- twice as many parts of half the length
blocks_halved : (j i n : ℕ) → n ≡ suc i → 2 ^ j * 2 ^ n ≡ 2 ^ suc j * 2 ^ i
blocks_halved j i n e =
    let d : j + n ≡ suc j + i = omega arith in
    sym (pow-add 2 j n) ∙ ap (λ (x : ℕ). 2 ^ x) d ∙ pow-add 2 (suc j) i

pub length-values_by : (m n : ℕ) (b p : List ℕ) → length (values_by m n b p) ≡ 2 ^ n
unfolding values_by
length-values_by m n b p = length-map-from _ 0 (2 ^ n)

constant : (f : ℕ → ℕ) (x : ℕ) → ((i : ℕ) → f i ≡ x) → (k n : ℕ) → map f (from k n) ≡ replicate n x
unfolding from
constant f x h k zero = refl
constant f x h k (suc n) = cons_eq (h k) (constant f x h (suc k) n)

-- a polynomial of one coefficient
one_value : (m n : ℕ) (b : List ℕ) (x : ℕ) → values_by m n b (x ∷ []) ≡ replicate (2 ^ n) x
unfolding values_by
one_value m n b x = constant _ x (λ i.
    value-cons m x [] (point_of n b i) ∙ ap (λ (v : ℕ). x ⊕ mul m (point_of n b i) v) (value-nil m (point_of n b i))
    ∙ ap (◌⊕◌ x) (mul-zero m (point_of n b i)) ∙ xor-zero x) 0 (2 ^ n)

ones : (m n : ℕ) (b c : List ℕ) → each_block (values_by m n b) 1 (length c) c ≡ spread (2 ^ n) c
unfolding each_block spread
ones m n b [] = refl
ones m n b (x ∷ c) = ap₂ ◌++◌ (one_value m n b x) (ones m n b c)

module _ (m : ℕ) (w : Width m) where
  -- the next level's values joined
  joins : (k j : ℕ) → j < k → k ≤ m
      → Joins (split m (top_of m j)) (butterfly m (factors_of m j)) (values_by m (m - suc j) (basis_of m (suc j))) (values_by m (m - j) (basis_of m j))
      (2 ^ (k - j)) (2 ^ (k - suc j)) (2 ^ (m - suc j))
  unfolding split top_of factors_of basis_of
  joins k j h l =
      let e : m - j ≡ suc (m - suc j) = omega arith in
      let d : k - j ≡ suc (k - suc j) = omega arith in
      let c : 2 ^ (k - j) ≡ 2 ^ (k - suc j) + 2 ^ (k - suc j) = ap (λ (i : ℕ). 2 ^ i) d ∙ twice (k - suc j) in
      record {
        low = λ p. (halves m (top_of m j) p).0;
        high = λ p. (halves m (top_of m j) p).1;
        parts = λ p x. refl;
        low_length = λ p x. (length-halves m (top_of m j) (2 ^ (k - suc j)) p (x ∙ c)).0;
        high_length = λ p x. (length-halves m (top_of m j) (2 ^ (k - suc j)) p (x ∙ c)).1;
        length_values = λ p. length-values_by m (m - suc j) (basis_of m (suc j)) p;
        joined = λ p x. level_values m w (m - suc j) (basis_of m j) (rw e at (basis_at m w j (omega arith))) p ∙ ap (λ (n : ℕ). values_by m n (basis_of m j) p) (sym e);
      }

  pub length-parts : (k : ℕ) (p : List ℕ) → length p ≡ 2 ^ k → (j : ℕ) → j ≤ k → length (parts_of m k j p) ≡ 2 ^ j * 2 ^ (k - j)
  unfolding parts_of
  length-parts k p e zero h = e ∙ sym (nat-one-mul (2 ^ k)) ∙ ap (λ (i : ℕ). 1 * 2 ^ i) (sym (sub-zero k))
  length-parts k p e (suc j) h =
      let d : k - j ≡ suc (k - suc j) = omega arith in
      let c : 2 ^ (k - j) ≡ 2 ^ (k - suc j) + 2 ^ (k - suc j) = ap (λ (i : ℕ). 2 ^ i) d ∙ twice (k - suc j) in
      length_blocks (split m (top_of m j)) (2 ^ (k - j)) (2 ^ (k - j))
      (λ l x. length-split m (top_of m j) (2 ^ (k - suc j)) l (x ∙ c) ∙ sym c) (2 ^ j) (parts_of m k j p) (length-parts k p e j (omega arith))
      ∙ blocks_halved j (k - suc j) (k - j) d

  -- the values of one level from those of the next
  pub level_up : (k : ℕ) (p : List ℕ) → length p ≡ 2 ^ k → k ≤ m → (j : ℕ) → j < k
      → each_block (butterfly m (factors_of m j)) (2 ^ (m - j)) (2 ^ j) (values_of m k (suc j) p) ≡ values_of m k j p
  unfolding values_of parts_of
  level_up k p e l j h =
      let d : m - j ≡ suc (m - suc j) = omega arith in
      let c : 2 ^ (m - j) ≡ 2 ^ (m - suc j) + 2 ^ (m - suc j) = ap (λ (i : ℕ). 2 ^ i) d ∙ twice (m - suc j) in
      ap₂ (λ (x y : ℕ). each_block (butterfly m (factors_of m j)) x (2 ^ j)
      (each_block (values_by m (m - suc j) (basis_of m (suc j))) (2 ^ (k - suc j)) y (parts_of m k (suc j) p))) c (twice j)
      ∙ two_levels _ _ _ _ _ _ _ (joins k j h l) (2 ^ j) (parts_of m k j p) (length-parts k p e j (omega arith))

  -- at level 0 all elements
  pub all_values : (k : ℕ) (p : List ℕ) → length p ≡ 2 ^ k → values_of m k 0 p ≡ everywhere m p
  unfolding values_of parts_of each_block everywhere values_by
  all_values k p e =
      ap₂ (λ (a b : ℕ). each_block (values_by m a (basis_of m 0)) (2 ^ b) 1 p) (sub-zero m) (sub-zero k)
      ∙ ap₂ (λ (x y : List ℕ). values_by m m (basis_of m 0) x ++ y) (take_all (2 ^ k) p (omega arith)) (drop_of_length-le p {i = 2 ^ k} (omega arith))
      ∙ append-nil _ ∙ map-from _ _ 0 0 (2 ^ m) (λ i h. ap (value m p) (first_point m w (0 + i) (omega arith)))

  -- after all k levels each part is one number
  pub last_values : (k : ℕ) (p : List ℕ) → length p ≡ 2 ^ k → spread (2 ^ (m - k)) (parts_of m k k p) ≡ values_of m k k p
  unfolding values_of
  last_values k p e =
      let z : k - k ≡ 0 = omega arith in
      let c : List ℕ = parts_of m k k p in
      let l : length c ≡ 2 ^ k = length-parts k p e k (omega arith) ∙ ap (λ (i : ℕ). 2 ^ k * 2 ^ i) z ∙ nat-mul-one (2 ^ k) in
      sym (ones m (m - k) (basis_of m k) c) ∙ ap₂ (λ (i q : ℕ). each_block (values_by m (m - k) (basis_of m k)) (2 ^ i) q c) (sym z) l

pub parts-length : (m k : ℕ) (p : List ℕ) → Width m → length p ≡ 2 ^ k → (j : ℕ) → j ≤ k → length (parts_of m k j p) ≡ 2 ^ k
parts-length m k p w e j h =
    let d : j + (k - j) ≡ k = omega arith in
    length-parts m w k p e j h ∙ sym (pow-add 2 j (k - j)) ∙ ap (λ (i : ℕ). 2 ^ i) d

-- descent, the last parts, ascent
pub joins_values : (m : ℕ) → Width m → (k : ℕ) (p : List ℕ) → length p ≡ 2 ^ k → k ≤ m → (j : ℕ) → j ≤ k → joins_of m j (values_of m k j p) ≡ everywhere m p
unfolding joins_of
joins_values m w k p e h zero l = all_values m w k p e
joins_values m w k p e h (suc j) l = ap (joins_of m j) (level_up m w k p e h j l) ∙ joins_values m w k p e h j (omega arith)
