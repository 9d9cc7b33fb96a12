-- Arrays of 129 coefficients: what the loops store, and the polynomials of that. Assumes nothing.
use mathlib.Core.Path.{◌≡◌, refl, sym, ap, ap₂, ◌∙◌, fun_ext}
use mathlib.Core.Bool.{Bool, true, false, cond}
use mathlib.Core.List.{List, [], ◌∷◌, ◌++◌, map, append_assoc, append-nil}
use Prim.Native.Nat.{ℕ, zero, suc, ◌+◌, ◌-◌, ◌%◌, ◌^◌, ◌≤◌, ◌<◌}
use native.Mathlib.Nat.{zero-add, suc_inj, min-le_left}
use native.Mathlib.Numerals.{add-one}
use native.Mathlib.Omega.{arith}
use native.Mathlib.Decide.{dec_lt}
use borrow.Author.Tests.{eq-eqb, ne_eqb}
use lib.Dec.{eqb}
use lib.Pow.{pow_pos}
use lib.ListN.{length, get_or, take, drop, set, replicate, length-append, length-replicate, get_or-eq_default, length-take}
use lib.Seq.{take_at, set_at, drop-cons, drop-length, get_or-append-add, get_or-drop, get_or-take}
use Rattle.bits.proofs.Padded.{padded-at}
use Rattle.bits.specs.Xor.{◌⊕◌}
use Rattle.bits.specs.Bits.{from, each_with, xor_row, padded}
use Rattle.bits.proofs.Xor.{xor-zero}
use Rattle.bits.proofs.Lists.{cons_eq, length-map-from, from-add, map-append, take_below, map-from-at, map-from_past}
use Rattle.bits.proofs.Rows.{xor_row_zeros, xor_row-suc, length-xor_row}
use Rattle.algebra.proofs.Ring.{add-pair}
use Rattle.algebra.proofs.Series.{operations, shift, shift_mul}
use Rattle.algebra.proofs.Derivative.{D}
use Rattle.algebra.proofs.Poly.{Below}
use Rattle.field.specs.Field.{mul}
use Rattle.field.specs.Poly.{horner_each}
use Rattle.field.proofs.Table.{Width}
use Rattle.field.proofs.Laws.{mul_comm}
use Rattle.field.proofs.Gf.{val, val-zero, laws}
use Rattle.field.proofs.Arrays.{Elements, elements-xor, elements_shifted, poly, poly_below, poly_xor, poly_scale, poly_shift}
use Rattle.field.proofs.Places.{horner_each_width}
use Rattle.poly.specs.Polynomials.{monic}
use Rattle.poly.proofs.Product.{length-monic}
use Rattle.euclid.specs.Euclid.{derivative_at, derivative, added}

-- a list with zeros behind it, n entries in all: one entry more
put : (n i v : ℕ) (l : List ℕ) → length l ≡ i → i < n → set (l ++ replicate (n - i) 0) i v ≡ (l ++ v ∷ []) ++ replicate (n - (i + 1)) 0
put n i v l e h =
    let s : n - i ≡ suc (n - (i + 1)) = omega arith in
    ap (λ (k : ℕ). set (l ++ replicate k 0) i v) s ∙ set_at l 0 (replicate (n - (i + 1)) 0) v i e ∙ sym (append_assoc l (v ∷ []) _)

-- the leading 1
pub load_lead : (g : List ℕ) → length g ≤ 128 → set (padded 129 g) (length g) 1 ≡ padded 129 (monic g)
unfolding padded monic
load_lead g h =
    let s : 129 - (length g + 1) ≡ 129 - length (monic g) = omega (arith, length-monic g) in
    put 129 (length g) 1 g refl (omega arith) ∙ ap (λ (k : ℕ). (g ++ 1 ∷ []) ++ replicate k 0) s

-- the derivative, coefficient by coefficient
pub derivative_even : (p : List ℕ) (k : ℕ) → k % 2 ≡ 0 → derivative_at p k ≡ get_or p (k + 1) 0
unfolding derivative_at
derivative_even p k e = rw (eq-eqb (k % 2) 0 e)

pub derivative_odd : (p : List ℕ) (k : ℕ) → (k % 2 ≡ 0 → ⊥) → derivative_at p k ≡ 0
unfolding derivative_at
derivative_odd p k n = rw (ne_eqb (k % 2) 0 n)

pub derivative-last : (p : List ℕ) (k : ℕ) → length p ≤ k + 1 → derivative_at p k ≡ 0
unfolding derivative_at
derivative-last p k h = ap (λ (x : ℕ). cond (eqb (k % 2) 0) x 0) (get_or-eq_default p 0 {n = k + 1} h) ∙ same_cond (eqb (k % 2) 0)
  where
    same_cond : (z : Bool) → ◌≡◌ {A = ℕ} (cond z 0 0) 0
    same_cond true = refl
    same_cond false = refl

map-suc : (f : ℕ → ℕ) (k : ℕ) → map f (from 0 k) ++ f k ∷ [] ≡ map f (from 0 (k + 1))
unfolding from
map-suc f k = sym (ap (map f) (from-add 0 k 1) ∙ map-append f (from 0 k) (from (0 + k) 1) ∙ ap (λ (x : ℕ). map f (from 0 k) ++ f x ∷ []) (zero-add k))

-- the first k coefficients of the derivative, and the rest of p
unfoldable pub derived : List ℕ → ℕ → List ℕ
derived p k = map (derivative_at p) (from 0 k) ++ drop k p

module _ (p : List ℕ) where
  pub derived_none : p ≡ derived p 0
  unfolding derived from
  derived_none = refl

  pub derived_done : (k : ℕ) → k ≡ length p → derived p k ≡ derivative p
  unfolding derived derivative
  derived_done k e =
      ap (λ (j : ℕ). map (derivative_at p) (from 0 j) ++ drop j p) e
      ∙ ap (λ (l : List ℕ). map (derivative_at p) (from 0 (length p)) ++ l) (drop-length p) ∙ append-nil _

  module _ (k : ℕ) (h : k < length p) where
    first : List ℕ
    first = map (derivative_at p) (from 0 k)

    pub derived_next : derivative_at (derived p k) k ≡ derivative_at p k
    unfolding derived derivative_at first
    derived_next =
        let e : k + 1 ≡ length first + 1 = omega (arith, length-map-from (derivative_at p) 0 k) in
        ap (λ (x : ℕ). cond (eqb (k % 2) 0) x 0)
        (ap (λ (i : ℕ). get_or (first ++ drop k p) i 0) e ∙ get_or-append-add first (drop k p) 1 0 ∙ get_or-drop k p 1 0)

    pub derived_step : set (derived p k) k (derivative_at p k) ≡ derived p (k + 1)
    unfolding derived first
    derived_step =
        let v = derivative_at p k in
        ap (λ (l : List ℕ). set (first ++ l) k v) (drop-cons p k 0 h)
        ∙ set_at first (get_or p k 0) (drop (suc k) p) v k (length-map-from (derivative_at p) 0 k)
        ∙ sym (append_assoc first (v ∷ []) (drop (suc k) p))
        ∙ ap₂ (λ (l : List ℕ) (j : ℕ). l ++ drop j p) (map-suc (derivative_at p) k) (sym (add-one k))

-- adding x^y·b, place by place
module _ (y : ℕ) (a b : List ℕ) where
  pub added_none : added y y a b ≡ a
  unfolding added
  added_none = ap (xor_row a) (take_at (replicate y 0) _ y (length-replicate y 0)) ∙ xor_row_zeros a y

  term_at : (k : ℕ) → y ≤ k → get_or (replicate y 0 ++ b) k 0 ≡ get_or b (k - y) 0
  term_at k h =
      let z : List ℕ = replicate y 0 in
      let e : k ≡ length z + (k - y) = omega (arith, length-replicate {A = ℕ} y 0) in
      ap (λ (i : ℕ). get_or (z ++ b) i 0) e ∙ get_or-append-add z b (k - y) 0

  pub added-step : (k : ℕ) → y ≤ k → k < length a → k - y < length b
      → set (added y k a b) k (get_or (added y k a b) k 0 ⊕ get_or b (k - y) 0) ≡ added y (k + 1) a b
  unfolding added
  added-step k h i j =
      let s : List ℕ = replicate y 0 ++ b in
      ap (λ (v : ℕ). set (xor_row a (take k s)) k (get_or (xor_row a (take k s)) k 0 ⊕ v)) (sym (term_at k h))
      ∙ xor_row-suc a s k (omega (arith, length-append (replicate y 0) b, length-replicate {A = ℕ} y 0)) i
      ∙ ap (λ (n : ℕ). xor_row a (take n s)) (sym (add-one k))

pub length-added : (y n : ℕ) (a b : List ℕ) → length (added y n a b) ≡ length a
unfolding added
length-added y n a b = length-xor_row a _

-- a step of Horner's rule that adds 0, with c at every place
pub horner_multiple : (m c : ℕ) → Width m → (n : ℕ) (b : List ℕ) → length b ≡ n → horner_each m 0 b (replicate n c) ≡ map (mul m c) b
unfolding each_with
horner_multiple m c w n b e = horner_each_width m 0 b (replicate n c) w ∙ go n b e
  where
    go : (n : ℕ) (b : List ℕ) → length b ≡ n → each_with (λ x y. mul m x y ⊕ 0) b (replicate n c) ≡ map (mul m c) b
    go zero [] e = refl
    go zero (x ∷ b) e = absurd (omega arith)
    go (suc n) [] e = refl
    go (suc n) (x ∷ b) e = cons_eq (xor-zero _ ∙ mul_comm m x c) (go n b (suc_inj e))

derivative_at_lem : (p : List ℕ) (k : ℕ) → get_or (derivative p) k 0 ≡ derivative_at p k
unfolding derivative
derivative_at_lem p k = elim (dec_lt k (length p)) [
  | yes h ↦ map-from-at (derivative_at p) 0 (length p) k 0 h ∙ ap (derivative_at p) (zero-add k)
  | no h ↦ map-from_past (derivative_at p) 0 (length p) k 0 (omega arith) ∙ sym (derivative-last p k (omega arith))
]

pub length-derivative : (p : List ℕ) → length (derivative p) ≡ length p
unfolding derivative
length-derivative p = length-map-from (derivative_at p) 0 (length p)

-- the entries of a + c·x^y·b
pub added-elements : (m c y n : ℕ) (a b : List ℕ) → Elements m a → Elements m (added y n a (map (mul m c) b))
unfolding added
added-elements m c y n a b e = let s : List ℕ = replicate y 0 ++ map (mul m c) b in elements-xor m a (take n s) e (take_below (2 ^ m) n s (elements_shifted m c y b))

module _ (m : ℕ) (W : Width m) where
  open operations (laws m W) use {◌⊞◌, ◌⊠◌, C}

  infixl 65 ◌⊞◌
  infixl 70 ◌⊠◌
  -- the derivative of lists
  D-at : (f : ℕ → ℕ) (k : ℕ) → D (laws m W) (λ i. val m (f i)) k ≡ val m (cond (eqb (k % 2) 0) (f (k + 1)) 0)
  unfolding D
  D-at f zero = refl
  D-at f (suc zero) = (laws m W).add_self _ ∙ sym (val-zero m)
  D-at f (suc (suc k)) =
      let e : k % 2 ≡ suc (suc k) % 2 = omega arith in
      let h : suc (suc (k + 1)) ≡ suc (suc k) + 1 = omega arith in
      add-pair (laws m W) _ _ ∙ D-at (λ i. f (suc (suc i))) k
      ∙ ap₂ (λ (x y : ℕ). val m (cond (eqb x 0) (f y) 0)) e h

  pub derivative_poly : (p : List ℕ) → poly m (derivative p) ≡ D (laws m W) (poly m p)
  unfolding derivative_at
  derivative_poly p = fun_ext λ k. ap (val m) (derivative_at_lem p k) ∙ sym (D-at (λ i. get_or p i 0) k)

  pub derivative-elements : (p : List ℕ) → Elements m p → Elements m (derivative p)
  unfolding derivative_at
  derivative-elements p h k = rw (derivative_at_lem p k) (go (eqb (k % 2) 0))
    where
      go : (z : Bool) → cond z (get_or p (k + 1) 0) 0 < 2 ^ m
      go true = h (k + 1)
      go false = pow_pos m

  -- zeros behind change nothing
  pub padded_poly : (p : List ℕ) → poly m (padded 129 p) ≡ poly m p
  padded_poly p = fun_ext λ k. ap (val m) (padded-at 129 p k)

  pub padded-elements : (p : List ℕ) → Elements m p → Elements m (padded 129 p)
  padded-elements p e k = rw (padded-at 129 p k) (e k)

  -- a + c·x^y·b
  module _ (c y n : ℕ) (a b : List ℕ) (h : n ≤ length a) where
    terms : List ℕ
    terms = replicate y 0 ++ map (mul m c) b

    short : length (take n terms) ≤ length a
    short = omega (arith, length-take n terms, min-le_left n (length terms))

    terms_poly : poly m terms ≡ shift (laws m W) y (C (val m c)) ⊠ poly m b
    unfolding terms
    terms_poly =
        poly_shift m W y (map (mul m c) b) ∙ ap (shift (laws m W) y) (poly_scale m W c b) ∙ sym (shift_mul (laws m W) y (C (val m c)) (poly m b))

    pub added_poly : Below (laws m W) n (shift (laws m W) y (C (val m c)) ⊠ poly m b)
        → poly m (added y n a (map (mul m c) b)) ≡ poly m a ⊞ shift (laws m W) y (C (val m c)) ⊠ poly m b
    unfolding added terms
    added_poly q = poly_xor m W a (take n terms) short ∙ ap (λ x. poly m a ⊞ x) (cut ∙ terms_poly)
      where
        cut : poly m (take n terms) ≡ poly m terms
        cut = fun_ext λ k. elim (dec_lt k n) [
          | yes l ↦ ap (val m) (get_or-take n terms k 0 l)
          | no l ↦ poly_below m W (take n terms) k (omega (arith, length-take n terms, min-le_left n (length terms)))
              ∙ sym (ap (λ p. p k) terms_poly ∙ q k (omega arith))
        ]
