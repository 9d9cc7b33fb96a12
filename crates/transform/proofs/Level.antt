-- One level: the value of a polynomial at x and at x + b by its two halves. Assumes nothing.
use mathlib.Core.Path.{◌≡◌, refl, sym, ap, ap₂, ◌∙◌}
use mathlib.Core.List.{List, [], ◌∷◌}
use Prim.Native.Nat.{ℕ, suc, ◌^◌, ◌<◌}
use lib.Pow.{pow_pos}
use Rattle.bits.specs.Xor.{◌⊕◌}
use Rattle.bits.proofs.Xor.{xor_comm, xor-zero, xor_assoc, xor_left_comm, xor_cancel, xor_lt}
use Rattle.field.specs.Field.{mul, power}
use Rattle.field.specs.Poly.{value}
use Rattle.field.proofs.Table.{Width}
use Rattle.field.proofs.Arrays.{value-nil, value-cons, value_low}
use Rattle.field.proofs.Laws.{mul_comm, mul-add, add-mul, mul_assoc, mul_left_comm, mul-lt, mul-zero, one-mul, power_zero, power-suc}
use Rattle.levels.specs.Twist.{scaled, twisted}
use Rattle.levels.proofs.Basis.{over, under, over_add, under_add, over_self, under_self, back}
use Rattle.transform.specs.Halves.{paired, expanded, unzip, halves}

-- every number is below 2^m
abbrev pub Small : ℕ → List ℕ → Type 0
Small m [] = Unit {0}
Small m (x ∷ l) = (x < 2 ^ m) × Small m l

module _ (m : ℕ) where
  pub value_small : (p : List ℕ) → Small m p → (a : ℕ) → value m p a < 2 ^ m
  value_small [] h a = rw (value-nil m a) (pow_pos m)
  value_small (c ∷ l) h a = rw (value-cons m c l a) (xor_lt m h.0 (mul-lt m a _))

  -- what the steps make of small numbers is small
  scaled_small : (b s : ℕ) (l : List ℕ) → Small m (scaled m b s l)
  unfolding scaled
  scaled_small b s [] = tt
  scaled_small b s (c ∷ l) = (mul-lt m c _, scaled_small b (suc s) l)

  paired_small : (l : List ℕ) → Small m l → Small m (paired l)
  unfolding paired
  paired_small [] h = tt
  paired_small (a ∷ []) h = h
  paired_small (a ∷ b ∷ l) h = (xor_lt m h.0 h.1.0, (h.1.0, paired_small l h.1.1))

  expanded_small : (l : List ℕ) → Small m l → Small m (expanded l)
  unfolding expanded
  expanded_small [] h = tt
  expanded_small (c ∷ l) h = (h.0, paired_small (expanded l) (expanded_small l h.1))

  unzip_small : (l : List ℕ) → Small m l → Small m (unzip l).0 × Small m (unzip l).1
  unfolding unzip
  unzip_small [] h = (tt, tt)
  unzip_small (c ∷ l) h = ((h.0, (unzip_small l h.1).1), (unzip_small l h.1).0)

  pub high_small : (b : ℕ) (p : List ℕ) → Small m (halves m b p).1
  unfolding halves twisted expanded unzip
  high_small b [] = tt
  high_small b (c ∷ l) = (unzip_small (paired (expanded (scaled m b 1 l))) (paired_small (expanded (scaled m b 1 l)) (expanded_small (scaled m b 1 l) (scaled_small b 1 l)))).0

  -- p(b·t)
  scaled_shape : (c s t b v : ℕ) → mul m c s ⊕ mul m t (mul m (mul m s b) v) ≡ mul m s (c ⊕ mul m (mul m b t) v)
  scaled_shape c s t b v = ap₂ ◌⊕◌ (mul_comm m c s) (simp (mul_assoc m, mul_left_comm m t s, mul_left_comm m t b)) ∙ sym (mul-add m s c _)

  value-scaled : (b k : ℕ) (l : List ℕ) (t : ℕ) → value m (scaled m b k l) t ≡ mul m (power m b k) (value m l (mul m b t))
  unfolding scaled
  value-scaled b k [] t = value-nil m t ∙ sym (ap (mul m (power m b k)) (value-nil m (mul m b t)) ∙ mul-zero m _)
  value-scaled b k (c ∷ l) t =
      value-cons m _ _ t
      ∙ ap (λ (v : ℕ). mul m c (power m b k) ⊕ mul m t v) (value-scaled b (suc k) l t ∙ ap (λ (s : ℕ). mul m s (value m l (mul m b t))) (power-suc m b k))
      ∙ scaled_shape c (power m b k) t b _ ∙ ap (mul m (power m b k)) (sym (value-cons m c l (mul m b t)))

  value-twisted : Width m → (b : ℕ) (p : List ℕ) (t : ℕ) → value m (twisted m b p) t ≡ value m p (mul m b t)
  unfolding twisted
  value-twisted w b [] t = value-nil m t ∙ sym (value-nil m (mul m b t))
  value-twisted w b (c ∷ l) t =
      let v : ℕ = value m l (mul m b t) in
      value-cons m c _ t
      ∙ ap (◌⊕◌ c) (ap (mul m t) (value-scaled b 1 l t ∙ ap (λ (s : ℕ). mul m s v) (power-suc m b 0 ∙ ap (λ (s : ℕ). mul m s b) (power_zero m b))
      ∙ mul_assoc m 1 b v ∙ one-mul m w (mul-lt m b v)) ∙ sym (mul_assoc m t b v) ∙ ap (λ (x : ℕ). mul m x v) (mul_comm m t b))
      ∙ sym (value-cons m c l (mul m b t))

  -- by powers of y
  module _ (y : ℕ) where
    paired_odd : (l : List ℕ) → value m (unzip (paired l)).1 y ≡ value m (unzip l).1 y
    unfolding paired unzip
    paired_odd [] = refl
    paired_odd (a ∷ []) = refl
    paired_odd (a ∷ b ∷ l) = value-cons m b _ y ∙ ap (λ (v : ℕ). b ⊕ mul m y v) (paired_odd l) ∙ sym (value-cons m b _ y)

    even_shape : (a b e o : ℕ) → a ⊕ b ⊕ mul m y (e ⊕ o) ≡ a ⊕ mul m y e ⊕ (b ⊕ mul m y o)
    even_shape a b e o = simp (mul-add m, xor_assoc, xor_left_comm)

    paired_even : (l : List ℕ) → value m (unzip (paired l)).0 y ≡ value m (unzip l).0 y ⊕ value m (unzip l).1 y
    unfolding paired unzip
    paired_even [] = sym (ap (◌⊕◌ (value m [] y)) (value-nil m y) ∙ xor-zero _)
    paired_even (a ∷ []) = sym (ap (◌⊕◌ (value m (a ∷ []) y)) (value-nil m y) ∙ xor-zero _)
    paired_even (a ∷ b ∷ l) =
        value-cons m (a ⊕ b) _ y ∙ ap (λ (v : ℕ). a ⊕ b ⊕ mul m y v) (paired_even l) ∙ even_shape a b (value m (unzip l).0 y) (value m (unzip l).1 y)
        ∙ ap₂ ◌⊕◌ (sym (value-cons m a _ y)) (sym (value-cons m b _ y))

  expand_shape : (c t e o : ℕ) → c ⊕ mul m (mul m t t ⊕ t) o ⊕ mul m t (e ⊕ o) ≡ c ⊕ mul m t (e ⊕ mul m t o)
  expand_shape c t e o = simp (add-mul m, mul-add m, mul_assoc m, xor_assoc, xor_comm, xor_left_comm, xor_cancel)

  value-expanded : (t : ℕ) (p : List ℕ) → value m (unzip (expanded p)).0 (mul m t t ⊕ t) ⊕ mul m t (value m (unzip (expanded p)).1 (mul m t t ⊕ t)) ≡ value m p t
  unfolding expanded unzip
  value-expanded t [] =
      let y : ℕ = mul m t t ⊕ t in
      ap₂ (λ (a b : ℕ). a ⊕ mul m t b) (value-nil m y) (value-nil m y) ∙ ap (◌⊕◌ 0) (mul-zero m t) ∙ xor-zero 0 ∙ sym (value-nil m t)
  value-expanded t (c ∷ l) =
      let y : ℕ = mul m t t ⊕ t in
      let q : List ℕ = expanded l in
      ap (λ (x : ℕ). x ⊕ mul m t (value m (unzip (paired q)).0 y)) (value-cons m c (unzip (paired q)).1 y)
      ∙ ap₂ (λ (o e : ℕ). c ⊕ mul m y o ⊕ mul m t e) (paired_odd y q) (paired_even y q)
      ∙ expand_shape c t (value m (unzip q).0 y) (value m (unzip q).1 y) ∙ ap (λ (v : ℕ). c ⊕ mul m t v) (value-expanded t l) ∙ sym (value-cons m c l t)

module _ (m : ℕ) (w : Width m) (b : ℕ) (small : b < 2 ^ m) (pos : 0 < b) where
  pub level_low : (p : List ℕ) (x : ℕ) → value m p x ≡ value m (halves m b p).0 (under m b x) ⊕ mul m (over m b x) (value m (halves m b p).1 (under m b x))
  unfolding under halves
  level_low p x = sym (value-expanded m (over m b x) (twisted m b p) ∙ value-twisted m w b p (over m b x) ∙ ap (value m p) (back m w b small pos x) ∙ value_low m p x)

  pub level_high : (p : List ℕ) (x : ℕ) → value m p (x ⊕ b)
      ≡ value m (halves m b p).0 (under m b x) ⊕ mul m (over m b x) (value m (halves m b p).1 (under m b x)) ⊕ value m (halves m b p).1 (under m b x)
  level_high p x =
      level_low p (x ⊕ b)
      ∙ ap₂ (λ (y t : ℕ). value m (halves m b p).0 y ⊕ mul m t (value m (halves m b p).1 y))
      (under_add m b x b ∙ ap (◌⊕◌ (under m b x)) (under_self m w b small pos) ∙ xor-zero (under m b x)) (over_add m b x b ∙ ap (◌⊕◌ (over m b x)) (over_self m w b small pos))
      ∙ ap (◌⊕◌ (value m (halves m b p).0 (under m b x))) (add-mul m (over m b x) 1 _ ∙ ap (◌⊕◌ (mul m (over m b x) (value m (halves m b p).1 (under m b x)))) (one-mul m w (value_small m _ (high_small m b p) (under m b x))))
      ∙ sym (xor_assoc _ _ _)
