-- Lists as polynomials: powers of the unknown, rows added, equality modulo g. Assumes nothing.
use mathlib.Core.Path.{◌≡◌, refl, sym, ap, ap₂, ◌∙◌, fun_ext, subst}
use mathlib.Core.List.{List, map}
use Prim.Native.Nat.{ℕ, zero, suc, ◌+◌, ◌^◌, ◌≤◌, ◌<◌}
use native.Mathlib.Omega.{arith}
use native.Mathlib.Decide.{dec_lt, ℕ_discrete}
use lib.ListN.{length, get_or, take, set, replicate, length-map, length-take}
use lib.Seq.{get_or-take, get_or-set_same, get_or-set_other}
use lib.Pow.{pow_pos}
use Rattle.bits.proofs.Bits.{zeros_at}
use Rattle.bits.specs.Xor.{◌⊕◌}
use Rattle.bits.proofs.Xor.{xor_lt}
use Rattle.bits.proofs.Rows.{get_d_xor_row}
use Rattle.algebra.proofs.Ring.{Ring, ring, zero-add}
use Rattle.algebra.proofs.Field.{Field}
use Rattle.algebra.proofs.Points.{pow}
use Rattle.algebra.proofs.Series as S
use Rattle.algebra.proofs.Series.{Series, operations, C-at, shift, shift_low}
use Rattle.algebra.proofs.Poly.{Below, Poly}
use Rattle.field.specs.Field.{mul}
use Rattle.field.proofs.Table.{Width}
use Rattle.field.proofs.Laws.{mul-lt}
use Rattle.field.proofs.Gf.{Elem, val, val-zero, val-xor, plus, times, zero_elem, one_elem, laws, gf}
use Rattle.field.proofs.Arrays.{Elements, map-elements, poly, poly_below, poly_xor, poly_scale}
use Rattle.poly.specs.Polynomials.{monic}
use Rattle.poly.proofs.Product.{monic-low, poly_monic}
use Rattle.algebra.proofs.Factor.{div, div_add, div_mul, div_to}
use Rattle.algebra.proofs.Rank.{power, monic-power}
use Rattle.row_tables.specs.RowTable.{table_of, add_multiple}
use Rattle.row_tables.proofs.RowTable.{add_multiple_row}
use Rattle.irreducible.specs.Residues.{Same}

pub zeros_elements : (m n : ℕ) → Elements m (replicate n 0)
zeros_elements m n k = rw (zeros_at n k) (pow_pos m)

pub set_elements : (m : ℕ) (r : List ℕ) (p v : ℕ) → p < length r → v < 2 ^ m → Elements m r → Elements m (set r p (get_or r p 0 ⊕ v))
set_elements m r p v h b E k = elim (ℕ_discrete k p) [
  | yes e ↦ subst (λ (x : ℕ). get_or (set r p (get_or r p 0 ⊕ v)) x 0 < 2 ^ m) (sym e) (rw (get_or-set_same {A = ℕ} r p (get_or r p 0 ⊕ v) 0 h) (xor_lt m (E p) b))
  | no e ↦ rw (get_or-set_other {A = ℕ} r p k (get_or r p 0 ⊕ v) 0 e) (E k)
]

above : (j k : ℕ) → j ≤ k → ¬ (k ≡ j) → j < k
above j k l n = elim (dec_lt j k) [ yes b ↦ b | no b ↦ (let e : k ≡ j = omega arith in absurd (n e)) ]

module _ (m : ℕ) (W : Width m) where
  open operations (laws m W) use {◌⊞◌, ◌⊠◌, O, C, X, series}

  infixl 65 ◌⊞◌
  infixl 70 ◌⊠◌
  abbrev L : Ring (zero_elem m) (one_elem m W) (plus m) (times m)
  L = laws m W

  abbrev K : Field
  K = gf m W

  -- a row plus a multiple of another
  pub add_row : (v : List ℕ) (c : ℕ) (r : List ℕ) → length r ≡ length v → length r ≤ 128
      → poly m (add_multiple (table_of m v) c r) ≡ poly m r ⊞ C (val m c) ⊠ poly m v
  add_row v c r e h =
      ap (poly m) (add_multiple_row m W v c r e h) ∙ poly_xor m W r (map (mul m c) v) (omega (arith, length-map v (mul m c)))
      ∙ ap (λ x. poly m r ⊞ x) (poly_scale m W c v)

  pub add-elements : (v : List ℕ) (c : ℕ) (r : List ℕ) → length r ≡ length v → length r ≤ 128 → Elements m r → Elements m (add_multiple (table_of m v) c r)
  add-elements v c r e h E k =
      rw (add_multiple_row m W v c r e h, get_d_xor_row r (map (mul m c) v) k (omega (arith, length-map v (mul m c))))
      (xor_lt m (E k) (map-elements m (mul m c) (λ x. mul-lt m c x) v k))

  -- the unknown's powers
  pub power_shift : (j : ℕ) → power K j ≡ shift L j (C (one_elem m W))
  unfolding pow shift
  power_shift zero = refl
  power_shift (suc j) = ap (λ x. X ⊠ x) (power_shift j)

  pub power-low : (j k : ℕ) → k < j → power K j k ≡ zero_elem m
  power-low j k h = ap (λ p. p k) (power_shift j) ∙ shift_low L j (C (one_elem m W)) k h

  pub power_other : (j k : ℕ) → ¬ (k ≡ j) → power K j k ≡ zero_elem m
  power_other j k h = elim (dec_lt k j) [ yes l ↦ power-low j k l | no l ↦ (monic-power K j).below k (above j k (omega arith) h) ]

  pub power_poly : (j : ℕ) → Poly L (power K j)
  power_poly j = (suc j, (monic-power K j).below)

  pub power-add : (i j : ℕ) → power K i ⊠ power K j ≡ power K (i + j)
  unfolding pow
  power-add zero j = let e : 0 + j ≡ j = omega arith in one j ∙ ap (power K) (sym e)
    where
      one : (j : ℕ) → C (one_elem m W) ⊠ power K j ≡ power K j
      one j = let R = series in simp (ring, R)
  power-add (suc i) j = let e : suc i + j ≡ suc (i + j) = omega arith in series.mul_assoc X (power K i) (power K j) ∙ ap (λ x. X ⊠ x) (power-add i j) ∙ ap (power K) (sym e)

  -- the first j coefficients
  unfoldable pub first : ℕ → Series (Elem m) → Series (Elem m)
  first zero p = O
  first (suc j) p = first j p ⊞ C (p j) ⊠ power K j

  first-at : (j : ℕ) (p : Series (Elem m)) (k : ℕ) → (k < j → first j p k ≡ p k) × (j ≤ k → first j p k ≡ zero_elem m)
  unfolding first S.O S.◌⊞◌
  first-at zero p k = (λ h. absurd (omega arith), λ h. refl)
  first-at (suc j) p k = (
    λ h. elim (dec_lt k j) [
      | yes l ↦ ap₂ (plus m) ((first-at j p k).0 l) (C-at L (p j) (power K j) k ∙ ap (times m (p j)) (power-low j k l)) ∙ end (p k) (p j)
      | no l ↦ (let e : k ≡ j = omega arith in
          ap₂ (plus m) ((first-at j p k).1 (omega arith)) (C-at L (p j) (power K j) k ∙ ap (times m (p j)) (ap (power K j) e ∙ (monic-power K j).lead) ∙ L.mul-one (p j)) ∙ zero-add L (p j) ∙ ap p (sym e))
    ],
    λ h. ap₂ (plus m) ((first-at j p k).1 (omega arith)) (C-at L (p j) (power K j) k ∙ ap (times m (p j)) ((monic-power K j).below k h)) ∙ end (zero_elem m) (p j),
  )
    where
      end : (a b : Elem m) → plus m a (times m b (zero_elem m)) ≡ a
      end a b = simp (ring, L)

  pub first_all : (n : ℕ) (p : Series (Elem m)) → Below L n p → first n p ≡ p
  first_all n p b = fun_ext λ k. elim (dec_lt k n) [ yes h ↦ (first-at n p k).0 h | no h ↦ (first-at n p k).1 (omega arith) ∙ sym (b k (omega arith)) ]

  pub take-first : (j : ℕ) (b : List ℕ) → poly m (take j b) ≡ first j (poly m b)
  take-first j b = fun_ext λ k. elim (dec_lt k j) [
    | yes h ↦ ap (val m) (get_or-take j b k 0 h) ∙ sym ((first-at j (poly m b) k).0 h)
    | no h ↦ poly_below m W (take j b) k (omega (arith, length-take j b)) ∙ sym ((first-at j (poly m b) k).1 (omega arith))
  ]

  pub zeros_poly : (n : ℕ) → poly m (replicate n 0) ≡ O
  unfolding S.O
  zeros_poly n = fun_ext λ k. ap (val m) (zeros_at n k) ∙ val-zero m

  -- a number added at a place
  module _ (r : List ℕ) (p v : ℕ) (h : p < length r) where
    abbrev new : List ℕ
    new = set r p (get_or r p 0 ⊕ v)

    pub set_poly : poly m new ≡ poly m r ⊞ C (val m v) ⊠ power K p
    unfolding S.◌⊞◌
    set_poly = fun_ext λ k. elim (ℕ_discrete k p) [
      | yes e ↦ ap (λ (x : ℕ). val m (get_or new x 0)) e ∙ ap (val m) (get_or-set_same r p (get_or r p 0 ⊕ v) 0 h) ∙ val-xor m _ v
          ∙ ap₂ (plus m) (sym (ap (poly m r) e)) (sym (C-at L (val m v) (power K p) k ∙ ap (times m (val m v)) (ap (power K p) e ∙ (monic-power K p).lead) ∙ L.mul-one _))
      | no e ↦ ap (val m) (get_or-set_other r p k _ 0 e)
          ∙ sym (ap (plus m (poly m r k)) (C-at L (val m v) (power K p) k ∙ ap (times m (val m v)) (power_other p k e)) ∙ end (poly m r k) (val m v))
    ]
      where
        end : (a b : Elem m) → plus m a (times m b (zero_elem m)) ≡ a
        end a b = simp (ring, L)

  -- modulo g
  module _ (g : List ℕ) where
    abbrev G : Series (Elem m)
    G = poly m (monic g)

    pub same_refl : (p : Series (Elem m)) → Same m W g p p
    unfolding S.O
    same_refl p = record { by = div K O (0, λ i h. refl) (series.add_self p ∙ sym (nothing G)) }
      where
        nothing : (x : Series (Elem m)) → x ⊠ O ≡ O
        nothing x = let R = series in simp (ring, R)

    pub same_trans : {p q r : Series (Elem m)} → Same m W g p q → Same m W g q r → Same m W g p r
    same_trans {p} {q} {r} a b = record { by = div_to K (shape p q r) (div_add K a.by b.by) }
      where
        shape : (p q r : Series (Elem m)) → (p ⊞ q) ⊞ (q ⊞ r) ≡ p ⊞ r
        shape p q r = let R = series in simp (ring, R)

    pub same_add : {p q r s : Series (Elem m)} → Same m W g p q → Same m W g r s → Same m W g (p ⊞ r) (q ⊞ s)
    same_add {p} {q} {r} {s} a b = record { by = div_to K (shape p q r s) (div_add K a.by b.by) }
      where
        shape : (p q r s : Series (Elem m)) → (p ⊞ q) ⊞ (r ⊞ s) ≡ (p ⊞ r) ⊞ (q ⊞ s)
        shape p q r s = let R = series in simp (ring, R)

    pub same-mul : {p q : Series (Elem m)} (a : Series (Elem m)) → Poly L a → Same m W g p q → Same m W g (a ⊠ p) (a ⊠ q)
    same-mul {p} {q} a b d = record { by = div_to K (shape a p q) (div_mul K a b d.by) }
      where
        shape : (a p q : Series (Elem m)) → (p ⊞ q) ⊠ a ≡ a ⊠ p ⊞ a ⊠ q
        shape a p q = let R = series in simp (ring, R)

    pub same_to : {p q r s : Series (Elem m)} → p ≡ q → r ≡ s → Same m W g p r → Same m W g q s
    same_to e f a = record { by = div_to K (ap₂ ◌⊞◌ e f) a.by }

    pub same-product : {p y q z : Series (Elem m)} → Poly L p → Poly L z → Same m W g p y → Same m W g q z → Same m W g (p ⊠ q) (y ⊠ z)
    same-product {p} {y} {q} {z} a b e f = same_trans (same-mul p a f) (same_to (series.mul_comm z p) (series.mul_comm z y) (same-mul z b e))

    -- g by its lower coefficients
    pub monic-split : G ≡ poly m g ⊞ power K (length g)
    unfolding S.◌⊞◌
    monic-split = fun_ext λ k. elim (dec_lt k (length g)) [
      | yes h ↦ ap (val m) (monic-low g k h) ∙ sym (ap (plus m (poly m g k)) (power-low (length g) k h) ∙ L.add-zero _)
      | no h ↦ elim (ℕ_discrete k (length g)) [
        | yes e ↦ ap G e ∙ (poly_monic m W g).lead ∙ sym (ap₂ (plus m) (poly_below m W g k (omega arith)) (ap (power K (length g)) e ∙ (monic-power K (length g)).lead) ∙ zero-add L _)
        | no e ↦ (poly_monic m W g).below k (above (length g) k (omega arith) e) ∙ sym (ap₂ (plus m) (poly_below m W g k (omega arith)) (power_other (length g) k e) ∙ L.add-zero _)
      ]
    ]
