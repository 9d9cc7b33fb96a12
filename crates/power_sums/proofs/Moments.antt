-- One level of the weighted sums of powers. Assumes nothing.
use mathlib.Core.Path.{◌≡◌, refl, sym, ap, ap₂, ◌∙◌}
use mathlib.Core.List.{List, [], ◌∷◌, map}
use Prim.Native.Nat.{ℕ, zero, suc, ◌+◌, ◌^◌, ◌<◌}
use native.Mathlib.Nat.{add-zero, add-suc}
use native.Mathlib.Omega.{arith}
use lib.Pow.{pow_pos}
use Rattle.bits.specs.Xor.{◌⊕◌}
use Rattle.bits.specs.Bits.{from}
use Rattle.bits.proofs.Xor.{xor_comm, xor_self, xor-zero, xor_assoc, xor_left_comm, xor-four, xor_cancel, xor_lt}
use Rattle.field.specs.Field.{mul, power}
use Rattle.field.proofs.Table.{Width}
use Rattle.field.proofs.Laws.{mul_comm, mul-add, add-mul, mul_assoc, mul_left_comm, mul-lt, mul-zero, one_lt, one-mul, mul-one, square_add, mul_power, power-suc, power_zero, power-lt}
use Rattle.power_sums.specs.Sums.{sum_to, added, collected, zip}

-- sums
pub sum_cong : (n : ℕ) (f g : ℕ → ℕ) → ((i : ℕ) → i < n → f i ≡ g i) → sum_to n f ≡ sum_to n g
unfolding sum_to
sum_cong zero f g h = refl
sum_cong (suc n) f g h = ap₂ ◌⊕◌ (sum_cong n f g (λ i l. h i (omega arith))) (h n (omega arith))

pub sum-add : (n : ℕ) (f g : ℕ → ℕ) → sum_to n (λ i. f i ⊕ g i) ≡ sum_to n f ⊕ sum_to n g
unfolding sum_to
sum-add zero f g = sym (xor-zero 0)
sum-add (suc n) f g = ap (λ (x : ℕ). x ⊕ (f n ⊕ g n)) (sum-add n f g) ∙ xor-four _ _ _ _

pub sum-split : (m n : ℕ) (f : ℕ → ℕ) → sum_to (m + n) f ≡ sum_to m f ⊕ sum_to n (λ i. f (m + i))
unfolding sum_to
sum-split m zero f = ap (λ (k : ℕ). sum_to k f) (add-zero m) ∙ sym (xor-zero _)
sum-split m (suc n) f = ap (λ (k : ℕ). sum_to k f) (add-suc m n) ∙ ap (λ (x : ℕ). x ⊕ f (m + n)) (sum-split m n f) ∙ xor_assoc _ _ _

pub sum-mul : (m c n : ℕ) (f : ℕ → ℕ) → sum_to n (λ i. mul m c (f i)) ≡ mul m c (sum_to n f)
unfolding sum_to
sum-mul m c zero f = sym (mul-zero m c)
sum-mul m c (suc n) f = ap (λ (x : ℕ). x ⊕ mul m c (f n)) (sum-mul m c n f) ∙ sym (mul-add m c _ _)

pub sum_small : (m n : ℕ) (f : ℕ → ℕ) → ((i : ℕ) → f i < 2 ^ m) → sum_to n f < 2 ^ m
unfolding sum_to
sum_small m zero f h = pow_pos m
sum_small m (suc n) f h = xor_lt m (sum_small m n f h) (h n)

-- numbers M(s, j), of which two rows in turn give the next
module _ (M : ℕ → ℕ → ℕ) (rule : (s j : ℕ) → M (suc (suc s)) j ≡ M (suc s) j ⊕ M s (suc j)) where
  rows : ℕ → ℕ → ℕ → List ℕ
  rows s j zero = []
  rows s j (suc zero) = M s j ∷ []
  rows s j (suc (suc n)) = M s j ∷ M (suc s) j ∷ rows s (suc j) n

  tails : ℕ → ℕ → ℕ → List ℕ
  tails s j zero = []
  tails s j (suc zero) = M (suc s) j ∷ []
  tails s j (suc (suc n)) = M (suc s) j ∷ M s (suc j) ∷ tails s (suc j) n

  rows_tail : (s j n : ℕ) → rows s j (suc n) ≡ M s j ∷ tails s j n
  unfolding rows tails
  rows_tail s j zero = refl
  rows_tail s j (suc zero) = refl
  rows_tail s j (suc (suc n)) = ap (λ (l : List ℕ). M s j ∷ M (suc s) j ∷ l) (rows_tail s (suc j) n)

  tails_added : (s j n : ℕ) → added (tails s j n) ≡ rows (suc s) j n
  unfolding rows tails added
  tails_added s j zero = refl
  tails_added s j (suc zero) = refl
  tails_added s j (suc (suc n)) = ap₂ (λ (x : ℕ) (l : List ℕ). M (suc s) j ∷ x ∷ l) (sym (rule s j)) (tails_added s (suc j) n)

  collected_rows : (n s : ℕ) → collected n (rows s 0 n) ≡ map (λ i. M i 0) (from s n)
  unfolding collected from
  collected_rows zero s = refl
  collected_rows (suc n) s =
      ap (collected (suc n)) (rows_tail s 0 n) ∙ ap (◌∷◌ (M s 0)) (ap (collected n) (tails_added s 0 n) ∙ collected_rows n (suc s))

  zip_rows : (h j : ℕ) → zip (map (M 0) (from j h)) (map (M 1) (from j h)) ≡ rows 0 j (h + h)
  unfolding zip from rows
  zip_rows zero j = refl
  zip_rows (suc h) j =
      let e : suc h + suc h ≡ suc (suc (h + h)) = omega arith in
      ap (λ (l : List ℕ). M 0 j ∷ M 1 j ∷ l) (zip_rows h (suc j)) ∙ ap (rows 0 j) (sym e)

  pub collected-zip : (h : ℕ) → collected (h + h) (zip (map (M 0) (from 0 h)) (map (M 1) (from 0 h))) ≡ map (λ i. M i 0) (from 0 (h + h))
  collected-zip h = ap (collected (h + h)) (zip_rows h 0) ∙ collected_rows (h + h) 0

-- powers of t and of y = t² + t
module _ (m : ℕ) (w : Width m) where
  power_one : (t : ℕ) → t < 2 ^ m → power m t 1 ≡ t
  power_one t h = power-suc m t 0 ∙ ap (λ (x : ℕ). mul m x t) (power_zero m t) ∙ one-mul m w h

  next_shape : (p q t : ℕ) → mul m (mul m (mul m p t) t) q ≡ mul m (mul m p t) q ⊕ mul m p (mul m q (mul m t t ⊕ t))
  next_shape p q t = simp (mul-add m, mul_assoc m, mul_comm m, mul_left_comm m, xor_assoc, xor_comm, xor_left_comm, xor_cancel)

  power-next : (t s j : ℕ) → mul m (power m t (suc (suc s))) (power m (mul m t t ⊕ t) j)
      ≡ mul m (power m t (suc s)) (power m (mul m t t ⊕ t) j) ⊕ mul m (power m t s) (power m (mul m t t ⊕ t) (suc j))
  power-next t s j =
      let y : ℕ = mul m t t ⊕ t in
      ap (λ (x : ℕ). mul m x (power m y j)) (power-suc m t (suc s) ∙ ap (λ (x : ℕ). mul m x t) (power-suc m t s))
      ∙ next_shape (power m t s) (power m y j) t
      ∙ ap₂ (λ (x z : ℕ). mul m x (power m y j) ⊕ mul m (power m t s) z) (sym (power-suc m t s)) (sym (power-suc m y j))

-- t and t + 1 have the same y
module _ (m : ℕ) (w : Width m) where
  same_under : (t : ℕ) → t < 2 ^ m → mul m (t ⊕ 1) (t ⊕ 1) ⊕ (t ⊕ 1) ≡ mul m t t ⊕ t
  same_under t h =
      ap (λ (x : ℕ). x ⊕ (t ⊕ 1)) (square_add m t 1 ∙ ap (◌⊕◌ (mul m t t)) (one-mul m w (one_lt m w)))
      ∙ pair (mul m t t) t
    where
      pair : (a t : ℕ) → a ⊕ 1 ⊕ (t ⊕ 1) ≡ a ⊕ t
      pair a t = xor-four a 1 t 1 ∙ ap (◌⊕◌ (a ⊕ t)) (xor_self 1) ∙ xor-zero (a ⊕ t)

  -- one point and the point b further: their part in M(s, j)
  module _ (u v t : ℕ) where
    unfoldable pub part : ℕ → ℕ → ℕ
    part s j = mul m u (mul m (power m t s) (power m (mul m t t ⊕ t) j)) ⊕ mul m v (mul m (power m (t ⊕ 1) s) (power m (mul m t t ⊕ t) j))

    pub part_small : (s j : ℕ) → part s j < 2 ^ m
    unfolding part
    part_small s j = xor_lt m (mul-lt m u _) (mul-lt m v _)

    pub part_rule : t < 2 ^ m → (s j : ℕ) → part (suc (suc s)) j ≡ part (suc s) j ⊕ part s (suc j)
    unfolding part
    part_rule h s j =
        let y : ℕ = mul m t t ⊕ t in
        let e = same_under t h in
        ap₂ (λ (a c : ℕ). mul m u a ⊕ mul m v c) (power-next m w t s j)
        (ap (λ (z : ℕ). mul m (power m (t ⊕ 1) (suc (suc s))) (power m z j)) (sym e) ∙ power-next m w (t ⊕ 1) s j
        ∙ ap (λ (z : ℕ). mul m (power m (t ⊕ 1) (suc s)) (power m z j) ⊕ mul m (power m (t ⊕ 1) s) (power m z (suc j))) e)
        ∙ ap₂ ◌⊕◌ (mul-add m u _ _) (mul-add m v _ _) ∙ xor-four _ _ _ _

    pub part-zero : (j : ℕ) → part 0 j ≡ mul m (u ⊕ v) (power m (mul m t t ⊕ t) j)
    unfolding part
    part-zero j =
        let y : ℕ = power m (mul m t t ⊕ t) j in
        let o : (x : ℕ) → mul m (power m x 0) y ≡ y = λ x. ap (λ (z : ℕ). mul m z y) (power_zero m x) ∙ one-mul m w (power-lt m w _ j) in
        ap₂ (λ (a c : ℕ). mul m u a ⊕ mul m v c) (o t) (o (t ⊕ 1)) ∙ sym (add-mul m u v y)

    pub part_one : t < 2 ^ m → (j : ℕ) → part 1 j ≡ mul m (v ⊕ mul m (u ⊕ v) t) (power m (mul m t t ⊕ t) j)
    unfolding part
    part_one h j =
        let y : ℕ = power m (mul m t t ⊕ t) j in
        ap₂ (λ (a c : ℕ). mul m u (mul m a y) ⊕ mul m v (mul m c y)) (power_one m w t h) (power_one m w (t ⊕ 1) (xor_lt m h (one_lt m w)))
        ∙ ap (λ (a : ℕ). mul m u (mul m t y) ⊕ mul m v a) (add-mul m t 1 y ∙ ap (◌⊕◌ (mul m t y)) (one-mul m w (power-lt m w _ j)))
        ∙ shape u v t y
      where
        shape : (u v t y : ℕ) → mul m u (mul m t y) ⊕ mul m v (mul m t y ⊕ y) ≡ mul m (v ⊕ mul m (u ⊕ v) t) y
        shape u v t y = simp (mul-add m, add-mul m, mul_assoc m, xor_assoc, xor_comm, xor_left_comm)

    -- x = b·t
    pub part_end : (b x s : ℕ) → x ≡ mul m b t → b < 2 ^ m → mul m (part s 0) (power m b s) ≡ mul m u (power m x s) ⊕ mul m v (power m (x ⊕ b) s)
    unfolding part
    part_end b x s e h =
        let o : (z : ℕ) → mul m z (power m (mul m t t ⊕ t) 0) ≡ mul m 1 z = λ z. ap (mul m z) (power_zero m _) ∙ mul_comm m z 1 in
        let i : x ⊕ b ≡ mul m b (t ⊕ 1) = ap₂ ◌⊕◌ e (sym (mul-one m w h)) ∙ sym (mul-add m b t 1) in
        ap (λ (z : ℕ). mul m z (power m b s))
        (ap₂ (λ (a c : ℕ). mul m u a ⊕ mul m v c) (o (power m t s) ∙ one-mul m w (power-lt m w t s)) (o (power m (t ⊕ 1) s) ∙ one-mul m w (power-lt m w (t ⊕ 1) s)))
        ∙ shape u v (power m t s) (power m (t ⊕ 1) s) (power m b s)
        ∙ ap₂ (λ (a c : ℕ). mul m u a ⊕ mul m v c) (sym (ap (λ (z : ℕ). power m z s) e ∙ mul_power m w b t s)) (sym (ap (λ (z : ℕ). power m z s) i ∙ mul_power m w b (t ⊕ 1) s))
      where
        shape : (u v p q c : ℕ) → mul m (mul m u p ⊕ mul m v q) c ≡ mul m u (mul m c p) ⊕ mul m v (mul m c q)
        shape u v p q c = add-mul m (mul m u p) (mul m v q) c ∙ ap₂ ◌⊕◌ (mul_assoc m u p c ∙ ap (mul m u) (mul_comm m p c)) (mul_assoc m v q c ∙ ap (mul m v) (mul_comm m q c))
