-- What sums, comparisons and products of coefficient lists are. Assumes nothing.
use Prim.Native.Nat.{ℕ, zero, suc, ◌+◌, ◌-◌, ◌^◌, ◌<◌}
use mathlib.Core.Path.{◌≡◌, refl, sym, ap, ap₂, ◌∙◌, subst}
use mathlib.Core.Bool.{true, false≢true, ◌&&◌}
use mathlib.Core.List.{List, [], ◌∷◌, ◌++◌, map}
use native.Mathlib.Nat.{not-suc-le-zero, zero-add, add-zero, sub-zero, sub_self}
use native.Mathlib.Numerals.{add-one}
use native.Mathlib.Omega.{arith}
use lib.Dec.{eqb}
use lib.ListN.{length, get_or, replicate, length-replicate, get_or-replicate}
use lib.Seq.{ext_get_or}
use borrow.Author.Tests.{eqb-true, eq-eqb}
use Rattle.bits.specs.Xor.{◌⊕◌}
use Rattle.bits.specs.Bits.{from}
use Rattle.bits.proofs.Xor.{zero_xor, xor-zero, xor_assoc}
use Rattle.bits.proofs.Lists.{and_left, and_right, cons_eq, from-add, map-append, length-map-from, map-from-at}
use Rattle.field.specs.Field.{mul}
use Rattle.field.proofs.Table.{Width}
use Rattle.field.proofs.Laws.{zero-mul, mul-zero, one-mul, mul-one}
use Rattle.poly.specs.Polynomials.{sum, same, product}

pub sum-append : (xs ys : List ℕ) → sum (xs ++ ys) ≡ sum xs ⊕ sum ys
unfolding sum
sum-append [] ys = sym (zero_xor (sum ys))
sum-append (x ∷ xs) ys = ap (◌⊕◌ x) (sum-append xs ys) ∙ sym (xor_assoc x (sum xs) (sum ys))

-- a sum of zeros
pub sum-zero : (f : ℕ → ℕ) (k n : ℕ) → ((i : ℕ) → i < n → f (k + i) ≡ 0) → sum (map f (from k n)) ≡ 0
unfolding sum from
sum-zero f k zero h = refl
sum-zero f k (suc n) h =
    ap₂ ◌⊕◌ (ap f (omega arith) ∙ h 0 (omega arith)) (sum-zero f (suc k) n (λ i b. ap f (omega arith) ∙ h (suc i) (omega arith))) ∙ zero_xor 0

pub same_eq : (xs ys : List ℕ) → same xs ys ≡ true → xs ≡ ys
unfolding same
same_eq [] [] e = refl
same_eq [] (y ∷ ys) e = absurd (false≢true e)
same_eq (x ∷ xs) [] e = absurd (false≢true e)
same_eq (x ∷ xs) (y ∷ ys) e = cons_eq (eqb-true x y (and_left (eqb x y) (same xs ys) e)) (same_eq xs ys (and_right (eqb x y) (same xs ys) e))

same_self : (xs : List ℕ) → same xs xs ≡ true
unfolding same
same_self [] = refl
same_self (x ∷ xs) = ap₂ ◌&&◌ (eq-eqb x x refl) (same_self xs)

pub eq_same : (xs ys : List ℕ) → xs ≡ ys → same xs ys ≡ true
eq_same xs ys e = subst (λ (l : List ℕ). same xs l ≡ true) e (same_self xs)

-- coefficient k of p·q
unfoldable pub coefficient : ℕ → List ℕ → List ℕ → ℕ → ℕ
coefficient m p q k = sum (map (λ i. mul m (get_or p i 0) (get_or q (k - i) 0)) (from 0 (k + 1)))

pub length-product : (m : ℕ) (p q : List ℕ) → length (product m p q) ≡ length p + length q - 1
unfolding product
length-product m p q = length-map-from _ 0 (length p + length q - 1)

pub product_at : (m : ℕ) (p q : List ℕ) (k : ℕ) → k < length p + length q - 1 → get_or (product m p q) k 0 ≡ coefficient m p q k
unfolding product coefficient
product_at m p q k h = map-from-at (coefficient m p q) 0 (length p + length q - 1) k 0 h ∙ ap (coefficient m p q) (zero-add k)

-- a list is the product if its coefficients are
is_product : (m : ℕ) (p q r : List ℕ) → length r ≡ length p + length q - 1
    → ((k : ℕ) → k < length r → coefficient m p q k ≡ get_or r k 0) → product m p q ≡ r
is_product m p q r e h =
    ext_get_or 0 (product m p q) r (length-product m p q ∙ sym e)
    (λ k b.
    let c : k < length p + length q - 1 = rw length-product at b in
    product_at m p q k c ∙ h k (omega arith))

-- the empty list on either side: every coefficient is 0
pub nil-product : (m : ℕ) (q : List ℕ) → product m [] q ≡ replicate (length q - 1) 0
unfolding coefficient
nil-product m q =
    is_product m [] q (replicate (length q - 1) 0) (rw (length-replicate, zero-add))
    (λ k b. sum-zero _ 0 (k + 1) (λ i c. zero-mul m (get_or q (k - (0 + i)) 0)) ∙ sym (get_or-replicate (length q - 1) k 0 0 (rw length-replicate at b)))

pub product-nil : (m : ℕ) (p : List ℕ) → product m p [] ≡ replicate (length p - 1) 0
unfolding coefficient
product-nil m p =
    is_product m p [] (replicate (length p - 1) 0) (rw (length-replicate, add-zero))
    (λ k b. sum-zero _ 0 (k + 1) (λ i c. mul-zero m (get_or p (0 + i) 0)) ∙ sym (get_or-replicate (length p - 1) k 0 0 (rw length-replicate at b)))

-- past the end of the list 1 there is 0
one_at : (i : ℕ) → 0 < i → ◌≡◌ {A = ℕ} (get_or (1 ∷ []) i 0) 0
one_at zero h = absurd (not-suc-le-zero h)
one_at (suc i) h = refl

module _ (m : ℕ) (w : Width m) (p : List ℕ) (h : (i : ℕ) → get_or p i 0 < 2 ^ m) where
  pub one_product : product m (1 ∷ []) p ≡ p
  unfolding coefficient from sum
  one_product =
      is_product m (1 ∷ []) p p (omega arith)
      (λ k b. rw add-one
      (ap₂ ◌⊕◌ (ap (λ (x : ℕ). mul m 1 (get_or p x 0)) (sub-zero k) ∙ one-mul m w (h k)) (sum-zero _ 1 k (λ i c. ap (λ (x : ℕ). mul m x (get_or p (k - (1 + i)) 0)) (one_at (1 + i) (omega arith)) ∙ zero-mul m _))
      ∙ xor-zero (get_or p k 0)))

  pub product_one : product m p (1 ∷ []) ≡ p
  unfolding coefficient from sum
  product_one =
      is_product m p (1 ∷ []) p (omega arith)
      (λ k b.
      let f : ℕ → ℕ = λ i. mul m (get_or p i 0) (get_or (1 ∷ []) (k - i) 0) in
      ap (λ (l : List ℕ). sum (map f l)) (from-add 0 k 1) ∙ ap sum (map-append f (from 0 k) (from (0 + k) 1))
      ∙ sum-append (map f (from 0 k)) (map f (from (0 + k) 1))
      ∙ ap₂ ◌⊕◌ (sum-zero f 0 k (λ i c. ap (mul m (get_or p (0 + i) 0)) (one_at (k - (0 + i)) (omega arith)) ∙ mul-zero m _)) (last k)
      ∙ zero_xor (get_or p k 0))
    where
      last : (k : ℕ) → mul m (get_or p (0 + k) 0) (get_or (1 ∷ []) (k - (0 + k)) 0) ⊕ 0 ≡ get_or p k 0
      last k = simp (zero-add, sub_self) (xor-zero _ ∙ mul-one m w (h k))
