-- Lists of coefficients as polynomials: monic polynomials, and the product of lists. Assumes nothing.
use mathlib.Core.Path.{◌≡◌, sym, ap, ap₂, ◌∙◌, fun_ext}
use mathlib.Core.List.{List, [], ◌∷◌, map}
use Prim.Native.Nat.{ℕ, zero, suc, ◌+◌, ◌-◌, ◌^◌, ◌<◌}
use native.Mathlib.Nat.{add-zero, zero-add}
use native.Mathlib.Numerals.{add-one}
use native.Mathlib.Omega.{arith}
use native.Mathlib.Decide.{dec_lt}
use lib.Pow.{pow_pos}
use lib.ListN.{length, get_or, length-append, get_or-append, get_or-eq_default}
use lib.Seq.{get_or-append_seam}
use Rattle.bits.specs.Bits.{from}
use Rattle.bits.proofs.Xor.{xor_lt}
use Rattle.algebra.proofs.Series.{Series, operations}
use Rattle.algebra.proofs.Poly.{Monic, below_mul}
use Rattle.algebra.proofs.Sum as A
use Rattle.algebra.proofs.Sum.{sum-zero, sum_head, sum_cong, mul-sum}
use Rattle.field.specs.Field.{mul}
use Rattle.field.proofs.Table.{Width}
use Rattle.field.proofs.Laws.{mul-lt, one_lt}
use Rattle.field.proofs.Gf.{Elem, val, val_elem, val-zero, val-xor, val-mul, val_one, plus, laws}
use Rattle.field.proofs.Arrays.{Elements, map-elements, poly, array, length-array, array_at, poly_below}
use Rattle.poly.specs.Polynomials.{sum, monic, product}
use Rattle.poly.proofs.Laws.{coefficient, length-product, product_at}

pub length-monic : (g : List ℕ) → length (monic g) ≡ suc (length g)
unfolding monic
length-monic g = length-append g (1 ∷ []) ∙ add-one (length g)

pub monic-low : (g : List ℕ) (k : ℕ) → k < length g → get_or (monic g) k 0 ≡ get_or g k 0
unfolding monic
monic-low g k h = get_or-append g (1 ∷ []) 0 k h

pub monic_lead : (g : List ℕ) → get_or (monic g) (length g) 0 ≡ 1
unfolding monic
monic_lead g = get_or-append_seam g 1 [] 0

-- an entry is one of g, or the leading 1, or past the end
pub monic-elements : (m : ℕ) → Width m → (g : List ℕ) → Elements m g → Elements m (monic g)
unfolding monic
monic-elements m W [] e zero = one_lt m W
monic-elements m W [] e (suc k) = pow_pos m
monic-elements m W (x ∷ g) e zero = e 0
monic-elements m W (x ∷ g) e (suc k) = monic-elements m W g (λ i. e (suc i)) k

module _ (m : ℕ) where
  pub sum_lt : (l : List ℕ) → Elements m l → sum l < 2 ^ m
  unfolding sum
  sum_lt [] e = pow_pos m
  sum_lt (x ∷ l) e = xor_lt m (e 0) (sum_lt l (λ k. e (suc k)))

  pub product-elements : (p q : List ℕ) → Elements m (product m p q)
  unfolding coefficient
  product-elements p q k = elim (dec_lt k (length p + length q - 1)) [
    | yes h ↦ rw (product_at m p q k h) (sum_lt _ (map-elements m _ (λ i. mul-lt m _ _) (from 0 (k + 1))))
    | no h ↦ rw (get_or-eq_default (product m p q) 0 {n = k} (omega (arith, length-product m p q))) (pow_pos m)
  ]

module _ (m : ℕ) (W : Width m) where
  open operations (laws m W) use {◌⊠◌}

  infixl 70 ◌⊠◌
  -- g with its leading 1 is monic, and every monic polynomial is that of a list
  pub poly_monic : (g : List ℕ) → Monic (laws m W) (length g) (poly m (monic g))
  poly_monic g = record {
    below = λ i h. poly_below m W (monic g) i (omega (arith, length-monic g));
    lead = ap (val m) (monic_lead g) ∙ val_one m W;
  }

  pub monic_poly : (n : ℕ) (p : Series (Elem m)) → Monic (laws m W) n p → poly m (monic (array m n p)) ≡ p
  monic_poly n p b = fun_ext go
    where
      l : List ℕ
      l = array m n p

      go : (k : ℕ) → val m (get_or (monic l) k 0) ≡ p k
      go k = elim (dec_lt k n) [
        | yes h ↦ ap (val m) (monic-low l k (omega (arith, length-array m n p)) ∙ array_at m n p k h) ∙ val_elem m (p k)
        | no h ↦ elim (dec_lt n k) [
          | yes g ↦ (poly_monic l).below k (omega (arith, length-array m n p)) ∙ sym (b.below k (omega arith))
          | no g ↦
              (let e : k ≡ length l = omega (arith, length-array m n p) in
              let f : k ≡ n = omega arith in
              ap (poly m (monic l)) e ∙ (poly_monic l).lead ∙ sym (ap p f ∙ b.lead))
        ]
      ]

  val-sum : (f : ℕ → ℕ) (j n : ℕ) → val m (sum (map f (from j n))) ≡ A.sum (laws m W) n (λ i. val m (f (j + i)))
  unfolding sum from
  val-sum f j zero = val-zero m ∙ sym (sum-zero (laws m W) _)
  val-sum f j (suc n) =
      val-xor m (f j) _
      ∙ ap₂ (plus m) (ap (λ (x : ℕ). val m (f x)) (sym (add-zero j)))
      (val-sum f (suc j) n ∙ sum_cong (laws m W) n _ _ (λ i h. ap (λ (x : ℕ). val m (f x)) (next j i)))
      ∙ sym (sum_head (laws m W) n (λ i. val m (f (j + i))))
    where
      next : (j i : ℕ) → suc j + i ≡ j + suc i
      next j i = omega arith

  -- the list product is the product of polynomials
  pub product_poly : (p q : List ℕ) → 0 < length p → 0 < length q → poly m (product m p q) ≡ poly m p ⊠ poly m q
  unfolding coefficient
  product_poly p q hp hq = fun_ext λ k. elim (dec_lt k (length p + length q - 1)) [
    | yes h ↦ ap (val m) (product_at m p q k h ∙ ap (λ (n : ℕ). sum (map (term k) (from 0 n))) (add-one k))
        ∙ val-sum (term k) 0 (suc k)
        ∙ sum_cong (laws m W) (suc k) _ _ (λ i l. ap (λ (x : ℕ). val m (term k x)) (zero-add i) ∙ val-mul m (get_or p i 0) (get_or q (k - i) 0))
        ∙ sym (mul-sum (laws m W) (poly m p) (poly m q) k)
    | no h ↦ poly_below m W (product m p q) k (omega (arith, length-product m p q))
        ∙ sym (below_mul (laws m W) {m = length q - 1} (poly_below m W p) (λ i l. poly_below m W q i (omega arith)) k (omega arith))
  ]
    where
      term : ℕ → ℕ → ℕ
      term k i = mul m (get_or p i 0) (get_or q (k - i) 0)
