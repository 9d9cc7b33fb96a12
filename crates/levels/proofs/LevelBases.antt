-- The bases of the levels: small and independent, level 0's 1, z, z², .. Assumes nothing.
use mathlib.Core.Path.{◌≡◌, refl, sym, ap, ◌∙◌}
use mathlib.Core.List.{List, [], ◌∷◌, map}
use Prim.Native.Nat.{ℕ, zero, suc, ◌-◌, ◌^◌, ◌<◌, ◌≤◌}
use native.Mathlib.Nat.{mod-eq_of_lt, sub-zero}
use native.Mathlib.Omega.{arith}
use native.Mathlib.Decide.{dec_lt}
use lib.Pow.{pow_pos, pow-lt}
use lib.ListN.{length, get_or}
use Rattle.bits.specs.Xor.{◌⊕◌}
use Rattle.bits.specs.Bits.{from, each_with}
use Rattle.bits.proofs.Xor.{xor_lt}
use Rattle.bits.proofs.Lists.{length_from, length-map-from, map-from-at, map-from_past}
use Rattle.bits.proofs.Each.{each_with-at, length-each_with}
use Rattle.bits.proofs.Padded.{padded-at, length-padded}
use Rattle.field.specs.Field.{mul}
use Rattle.field.proofs.DigitSums.{digit_sum-map}
use Rattle.field.proofs.PointTable.{digit_sum-same, digit_sum_additive}
use Rattle.field.proofs.Table.{Width, width_narrow}
use Rattle.field.proofs.Laws.{mul-lt}
use Rattle.levels.specs.Levels.{point_of, ratios, lowered, basis_of}
use Rattle.levels.proofs.Basis.{over, under, over_add, under_add, Independent, next_independent}

-- what is small stays small
each_small : (c : ℕ) (f : ℕ → ℕ → ℕ) → ((x y : ℕ) → x < c → f x y < c) → (d s : List ℕ) → ((i : ℕ) → get_or d i 0 < c) → (i : ℕ) → get_or (each_with f d s) i 0 < c
unfolding each_with
each_small c f h [] s k i = k i
each_small c f h (x ∷ d) [] k i = k i
each_small c f h (x ∷ d) (y ∷ s) k zero = h x y (k 0)
each_small c f h (x ∷ d) (y ∷ s) k (suc i) = each_small c f h d s (λ j. k (suc j)) i

-- the next level's basis
module _ (m n : ℕ) (b : List ℕ) where
  pub length-ratios : length (ratios m n b) ≡ length b
  unfolding ratios
  length-ratios = length-each_with _ b (from 0 n)

  pub length-lowered : length (lowered m n b) ≡ length b
  unfolding lowered
  length-lowered = length-each_with _ b (from 0 n)

  at_ratio : (j : ℕ) → j < n → n < length b → get_or (ratios m n b) j 0 ≡ over m (get_or b n 0) (get_or b j 0)
  unfolding ratios over
  at_ratio j h l = each_with-at _ b (from 0 n) j (omega arith) (omega (arith, length_from 0 n))

  ratio_small : ((i : ℕ) → get_or b i 0 < 2 ^ m) → (i : ℕ) → get_or (ratios m n b) i 0 < 2 ^ m
  unfolding ratios
  ratio_small h = each_small (2 ^ m) _ (λ x y k. mul-lt m x _) b (from 0 n) h

  lowered_small : ((i : ℕ) → get_or b i 0 < 2 ^ m) → (i : ℕ) → get_or (lowered m n b) i 0 < 2 ^ m
  unfolding lowered
  lowered_small h = each_small (2 ^ m) _ (λ x y k. xor_lt m (mul-lt m x x) k) b (from 0 n) h

module _ (m n : ℕ) (b : List ℕ) (l : n < length b) where
  at_next : (j : ℕ) → j < n → get_or (lowered m n (ratios m n b)) j 0 ≡ under m (get_or b n 0) (get_or b j 0)
  unfolding lowered under
  at_next j h =
      each_with-at _ (ratios m n b) (from 0 n) j (omega (arith, length-ratios m n b)) (omega (arith, length_from 0 n))
      ∙ ap (λ (t : ℕ). mul m t t ⊕ t) (at_ratio m n b j h l)

  pub point_ratio : (i : ℕ) → point_of n (ratios m n b) i ≡ over m (get_or b n 0) (point_of n b i)
  unfolding point_of
  point_ratio i =
      digit_sum-same n _ _ i (λ j h. at_ratio m n b j h l) ∙ digit_sum-map (over m (get_or b n 0)) (over_add m (get_or b n 0)) (λ j. get_or b j 0) n i

  pub point_next : (i : ℕ) → point_of n (lowered m n (ratios m n b)) i ≡ under m (get_or b n 0) (point_of n b i)
  unfolding point_of
  point_next i =
      digit_sum-same n _ _ i (λ j h. at_next j h) ∙ digit_sum-map (under m (get_or b n 0)) (under_add m (get_or b n 0)) (λ j. get_or b j 0) n i

-- a level's basis: small numbers, the first n independent
pub record Basis (m n : ℕ) (b : List ℕ) : Type 0 where
  pub long : n ≤ length b
  pub small : (i : ℕ) → get_or b i 0 < 2 ^ m
  pub independent : Independent n (λ j. get_or b j 0)

module _ (m : ℕ) (w : Width m) (n : ℕ) (b : List ℕ) (B : Basis m (suc n) b) where
  pub next_basis : Basis m n (lowered m n (ratios m n b))
  next_basis = record {
    long = omega (arith, B.long, length-lowered m n (ratios m n b), length-ratios m n b);
    small = lowered_small m n (ratios m n b) (ratio_small m n b B.small);
    independent = λ i h e. next_independent m w n (λ j. get_or b j 0) B.small B.independent i h
        (sym (digit_sum-same n _ _ i (λ j k. at_next m n b B.long j k)) ∙ e);
  }

-- level 0's basis: the element with index i is i
module _ (m : ℕ) (w : Width m) where
  first-at : (j : ℕ) → j < m → get_or (basis_of m 0) j 0 ≡ 2 ^ j
  unfolding basis_of
  first-at j h = padded-at 16 (map (λ i. 2 ^ i) (from 0 m)) j ∙ map-from-at (λ i. 2 ^ i) 0 m j 0 h ∙ ap (λ (i : ℕ). 2 ^ i) (omega arith)

  pub first_point : (i : ℕ) → i < 2 ^ m → point_of m (basis_of m 0) i ≡ i
  unfolding point_of
  first_point i h = digit_sum-same m _ _ i first-at ∙ digit_sum_additive (λ x. x) (λ a b. refl) m i ∙ mod-eq_of_lt h

  first_past : (j : ℕ) → m ≤ j → get_or (basis_of m 0) j 0 ≡ 0
  unfolding basis_of
  first_past j h = padded-at 16 (map (λ i. 2 ^ i) (from 0 m)) j ∙ map-from_past (λ i. 2 ^ i) 0 m j 0 h

  first_small : (j : ℕ) → get_or (basis_of m 0) j 0 < 2 ^ m
  first_small j = elim (dec_lt j m) [
    | yes h ↦ rw (first-at j h) (pow-lt h)
    | no h ↦ rw (first_past j (omega arith)) (pow_pos m)
  ]

  first-length : length (basis_of m 0) ≡ 16
  unfolding basis_of
  first-length = length-padded 16 (map (λ i. 2 ^ i) (from 0 m)) (omega (arith, width_narrow m w, length-map-from (λ i. 2 ^ i) 0 m))

  first_basis : Basis m m (basis_of m 0)
  unfolding point_of
  first_basis = record {
    long = omega (arith, width_narrow m w, first-length);
    small = first_small;
    independent = λ i h e. sym (first_point i h) ∙ e;
  }

  pub basis_at : (j : ℕ) → j ≤ m → Basis m (m - j) (basis_of m j)
  unfolding basis_of
  basis_at zero h = rw sub-zero first_basis
  basis_at (suc j) h =
      let e : m - j ≡ suc (m - suc j) = omega arith in
      next_basis m w (m - suc j) (basis_of m j) (rw e at (basis_at j (omega arith)))
