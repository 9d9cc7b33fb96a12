-- Products of lists of bits and of packed rows. Assumes nothing.
use mathlib.Core.Path.{◌≡◌, refl, sym, ap, ap₂, ◌∙◌}
use mathlib.Core.Bool.{true}
use mathlib.Core.List.{List, [], ◌∷◌, ◌++◌, map}
use Prim.Native.Nat.{ℕ, zero, suc, ◌+◌, ◌-◌, ◌*◌, ◌/◌, ◌%◌, ◌^◌, ◌≤◌, ◌<◌}
use native.Mathlib.Nat.{zero-add, mul_comm, zero-mul, one-mul, mul-zero, add-mod-mod, mod-eq_of_lt, div-one, suc_inj, suc-ne-zero}
use native.Mathlib.Omega.{arith}
use lib.Arith.{bin_ind}
use lib.Bits.{bit_and}
use lib.Pow.{pow-lt, shr-shr}
use lib.Count.{ones_step}
use lib.Count as count
use lib.ListN.{length, drop, replicate}
use Rattle.bits.specs.Xor.{◌⊕◌}
use Rattle.bits.specs.Bits.{Row, end, off, on, from, bytes_for, bit_at, unpack, number, filler_clear, each_with, xor_row, dot, row_product}
use Rattle.bits.proofs.Xor.{Digit, low, digit_lt, xor_assoc, xor_self, xor-zero, zero_xor, xor_shr, xor_mod, xor-four}
use Rattle.bits.proofs.Xor as xor
use Rattle.bits.proofs.Lists.{map-from}
use Rattle.bits.proofs.Bits.{bit_past, bit_digit}
use Rattle.bits.proofs.Pack.{row_unpack, length-unpack, unpack-add, unpack-xor_row, bit_drop, number_more, bytes_enough, clear_at}
use Rattle.bits.proofs.Ones.{no_ones}

-- the product of two lists
pub dot_comm : (a b : List ℕ) → dot a b ≡ dot b a
unfolding dot
dot_comm [] [] = refl
dot_comm [] (y ∷ b) = refl
dot_comm (x ∷ a) [] = refl
dot_comm (x ∷ a) (y ∷ b) = ap₂ ◌⊕◌ (mul_comm x y) (dot_comm a b)

pub dot_digit : {n m : ℕ} {a b : List ℕ} → Row n a → Row m b → Digit (dot a b)
unfolding dot ◌⊕◌
dot_digit end s = xor.off
dot_digit (off r) end = xor.off
dot_digit (on r) end = xor.off
dot_digit (off r) (off s) = dot_digit r s
dot_digit (off r) (on s) = dot_digit r s
dot_digit (on r) (off s) = dot_digit r s
dot_digit (on r) (on s) = flip (dot_digit r s)
  where
    flip : {d : ℕ} → Digit d → Digit (1 ⊕ d)
    flip xor.off = xor.on
    flip xor.on = xor.off

pub dot-append : (a b c d : List ℕ) → length a ≡ length b → dot (a ++ c) (b ++ d) ≡ dot a b ⊕ dot c d
unfolding dot
dot-append [] [] c d e = sym (zero_xor (dot c d))
dot-append [] (y ∷ b) c d e = absurd (suc-ne-zero (length b) (sym e))
dot-append (x ∷ a) [] c d e = absurd (suc-ne-zero (length a) e)
dot-append (x ∷ a) (y ∷ b) c d e = ap (◌⊕◌ (x * y)) (dot-append a b c d (suc_inj e)) ∙ sym (xor_assoc (x * y) (dot a b) (dot c d))

dot-nil : (a : List ℕ) → dot a [] ≡ 0
unfolding dot
dot-nil a = dot_comm a []

pub dot_zeros : (r : List ℕ) (n : ℕ) → dot r (replicate n 0) ≡ 0
unfolding dot
dot_zeros [] n = refl
dot_zeros (x ∷ r) zero = refl
dot_zeros (x ∷ r) (suc n) = ap₂ ◌⊕◌ (mul-zero x) (dot_zeros r n) ∙ xor_self 0

dot_none : (l r : List ℕ) → dot (map (λ i. 0) l) r ≡ 0
unfolding dot
dot_none [] r = refl
dot_none (x ∷ l) [] = refl
dot_none (x ∷ l) (y ∷ r) = ap₂ ◌⊕◌ (zero-mul y) (dot_none l r) ∙ xor_self 0

digit_xor-mul : {x y : ℕ} → Digit x → Digit y → (z : ℕ) → (x ⊕ y) * z ≡ x * z ⊕ y * z
digit_xor-mul xor.off q z = simp (zero-mul, zero_xor)
digit_xor-mul xor.on xor.off z = simp (zero-mul, xor-zero)
digit_xor-mul xor.on xor.on z = simp (zero-mul, xor_self)

dot-step : {x y : ℕ} → Digit x → Digit y → (z p q r : ℕ) → p ≡ q ⊕ r → (x ⊕ y) * z ⊕ p ≡ x * z ⊕ q ⊕ (y * z ⊕ r)
dot-step {x} {y} hx hy z p q r e = ap₂ ◌⊕◌ (digit_xor-mul hx hy z) e ∙ xor-four (x * z) (y * z) q r

pub dot-xor_row : {n : ℕ} {a b : List ℕ} → Row n a → Row n b → (c : List ℕ) → dot (xor_row a b) c ≡ dot a c ⊕ dot b c
unfolding dot xor_row each_with
dot-xor_row {a} {b} r s [] = dot-nil (xor_row a b) ∙ sym (ap₂ ◌⊕◌ (dot-nil a) (dot-nil b) ∙ xor_self 0)
dot-xor_row end end (z ∷ c) = sym (xor_self 0)
dot-xor_row (off r) (off s) (z ∷ c) = dot-step xor.off xor.off z _ _ _ (dot-xor_row r s c)
dot-xor_row (off r) (on s) (z ∷ c) = dot-step xor.off xor.on z _ _ _ (dot-xor_row r s c)
dot-xor_row (on r) (off s) (z ∷ c) = dot-step xor.on xor.off z _ _ _ (dot-xor_row r s c)
dot-xor_row (on r) (on s) (z ∷ c) = dot-step xor.on xor.on z _ _ _ (dot-xor_row r s c)

-- bits of 0 from n to m add nothing
dot_more : (n m : ℕ) (s u : List ℕ) → n ≤ m → ((i : ℕ) → n ≤ i → i < m → bit_at s i ≡ 0)
    → dot (unpack m s) (unpack m u) ≡ dot (unpack n s) (unpack n u)
dot_more n m s u h z =
    let e : m ≡ n + (m - n) = omega arith in
    let t : List ℕ = map (bit_at u) (from n (m - n)) in
    ap (λ (k : ℕ). dot (unpack k s) (unpack k u)) e
    ∙ ap₂ dot (unpack-add n (m - n) s) (unpack-add n (m - n) u)
    ∙ dot-append (unpack n s) (unpack n u) (map (bit_at s) (from n (m - n))) t (length-unpack n s ∙ sym (length-unpack n u))
    ∙ ap (λ (l : List ℕ). dot (unpack n s) (unpack n u) ⊕ dot l t)
    (map-from (bit_at s) (λ i. 0) n n (m - n) (λ i l. z (n + i) (omega arith) (omega arith)))
    ∙ ap (◌⊕◌ (dot (unpack n s) (unpack n u))) (dot_none (from n (m - n)) t)
    ∙ xor-zero (dot (unpack n s) (unpack n u))

-- the product of packed rows
pub row_product_digit : (row pat : List ℕ) → Digit (row_product row pat)
unfolding row_product
row_product_digit row pat = dot_digit (row_unpack (8 * length pat) row) (row_unpack (8 * length pat) pat)

pub row_product-bits : (n : ℕ) (row pat : List ℕ) → length pat ≡ bytes_for n → filler_clear n pat ≡ true
    → row_product row pat ≡ dot (unpack n row) (unpack n pat)
unfolding row_product
row_product-bits n row pat e f =
    let m : ℕ = 8 * length pat in
    dot_comm (unpack m row) (unpack m pat)
    ∙ dot_more n m pat row (rw e (bytes_enough n)) (λ i h l. clear_at n pat f i h (rw e at l))
    ∙ dot_comm (unpack n pat) (unpack n row)

pub row_product-xor : (a b pat : List ℕ) → length b ≤ length a → row_product (xor_row a b) pat ≡ row_product a pat ⊕ row_product b pat
unfolding row_product
row_product-xor a b pat h =
    let m : ℕ = 8 * length pat in
    ap (λ (r : List ℕ). dot r (unpack m pat)) (unpack-xor_row m a b h)
    ∙ dot-xor_row (row_unpack m a) (row_unpack m b) (unpack m pat)

-- q bytes are enough where the row has no more
pub row_product_short : (q : ℕ) (row pat : List ℕ) → q ≤ length pat → (q < length pat → length row ≤ q)
    → row_product row pat ≡ dot (unpack (8 * q) row) (unpack (8 * q) pat)
unfolding row_product
row_product_short q row pat h l =
    dot_more (8 * q) (8 * length pat) row pat (omega arith)
    (λ i a b. let k : length row ≤ q = l (omega arith) in bit_past row i (omega arith))

-- parity: the number of ones of a number, modulo 2
digit_sum_lem : {d e : ℕ} → Digit d → Digit e → (d + e) % 2 ≡ d ⊕ e
unfolding ◌⊕◌
digit_sum_lem xor.off xor.off = refl
digit_sum_lem xor.off xor.on = refl
digit_sum_lem xor.on xor.off = refl
digit_sum_lem xor.on xor.on = refl

parity-step : (n : ℕ) → count.ones n % 2 ≡ n % 2 ⊕ count.ones (n / 2) % 2
parity-step n = ap (◌% 2) (ones_step n) ∙ sym (add-mod-mod (n % 2) (count.ones (n / 2)) 2) ∙ digit_sum_lem (low n) (low (count.ones (n / 2)))

parity-xor : (a b : ℕ) → count.ones (a ⊕ b) % 2 ≡ count.ones a % 2 ⊕ count.ones b % 2
parity-xor = bin_ind (λ (n : ℕ). (b : ℕ) → count.ones (n ⊕ b) % 2 ≡ count.ones n % 2 ⊕ count.ones b % 2) start step
  where
    start : (b : ℕ) → count.ones (0 ⊕ b) % 2 ≡ count.ones 0 % 2 ⊕ count.ones b % 2
    start b = simp (zero_xor, no_ones)

    step : (n : ℕ) → ((b : ℕ) → count.ones (n / 2 ⊕ b) % 2 ≡ count.ones (n / 2) % 2 ⊕ count.ones b % 2)
        → (b : ℕ) → count.ones (n ⊕ b) % 2 ≡ count.ones n % 2 ⊕ count.ones b % 2
    step n ih b =
        parity-step (n ⊕ b)
        ∙ ap₂ ◌⊕◌ (xor_mod n b 1) (ap (λ (k : ℕ). count.ones k % 2) (xor_shr n b 1) ∙ ih (b / 2))
        ∙ xor-four (n % 2) (b % 2) (count.ones (n / 2) % 2) (count.ones (b / 2) % 2)
        ∙ sym (ap₂ ◌⊕◌ (parity-step n) (parity-step b))

digit_and : {d e : ℕ} → Digit d → Digit e → bit_and d e ≡ d * e
digit_and xor.off q = sym (zero-mul _)
digit_and xor.on xor.off = refl
digit_and xor.on xor.on = refl

-- the sum of a byte's bits, bit after bit
pub parity-start : (d : ℕ) → 0 ⊕ count.ones (d / 2 ^ 0) % 2 ≡ count.ones d % 2
parity-start d = zero_xor (count.ones (d / 1) % 2) ∙ ap (λ (x : ℕ). count.ones x % 2) (div-one d)

pub parity-next : (s d k : ℕ) → s ⊕ d / 2 ^ k % 2 ⊕ count.ones (d / 2 ^ (k + 1)) % 2 ≡ s ⊕ count.ones (d / 2 ^ k) % 2
parity-next s d k =
    xor_assoc s (d / 2 ^ k % 2) (count.ones (d / 2 ^ (k + 1)) % 2)
    ∙ ap (◌⊕◌ s)
    (ap (λ (x : ℕ). d / 2 ^ k % 2 ⊕ count.ones x % 2) (sym (shr-shr d k 1)) ∙ sym (parity-step (d / 2 ^ k)))

pub parity_end : (s d : ℕ) → d < 256 → s ⊕ count.ones (d / 2 ^ 8) % 2 ≡ s
parity_end s d h =
    let e : d / 256 ≡ 0 = omega arith in
    ap (λ (x : ℕ). s ⊕ count.ones x % 2) e ∙ ap (λ (x : ℕ). s ⊕ x % 2) no_ones ∙ xor-zero s

digit_product : {x y : ℕ} → Digit x → Digit y → Digit (x * y)
digit_product xor.off q = rw zero-mul xor.off
digit_product xor.on q = rw one-mul q

digit_below : {x : ℕ} → Digit x → x < 2
digit_below xor.off = omega arith
digit_below xor.on = omega arith

shifted : {x y : ℕ} (k : ℕ) → Digit x → Digit y → k < 8 → (bit_and x y * 2 ^ k) % 2 ^ 8 ≡ x * y * 2 ^ k
shifted k p q h = ap (λ (z : ℕ). (z * 2 ^ k) % 2 ^ 8) (digit_and p q) ∙ mod-eq_of_lt (digit_lt (digit_product p q) (pow-lt h))

-- the products of bits as the digits of a number: one more, and their sum
module _ (a b : ℕ → ℕ) (ha : (i : ℕ) → Digit (a i)) (hb : (i : ℕ) → Digit (b i)) where
  pub products_next : (k : ℕ) → k < 8
      → number (map (λ i. a i * b i) (from 0 k)) ⊕ (bit_and (a k) (b k) * 2 ^ k) % 2 ^ 8 ≡ number (map (λ i. a i * b i) (from 0 (k + 1)))
  products_next k h =
      ap (◌⊕◌ (number (map (λ i. a i * b i) (from 0 k)))) (shifted k (ha k) (hb k) h)
      ∙ number_more (λ i. a i * b i) (λ i. digit_product (ha i) (hb i)) k

  pub parity_products : (l : List ℕ) → count.ones (number (map (λ i. a i * b i) l)) % 2 ≡ dot (map a l) (map b l)
  unfolding number dot
  parity_products [] = ap (◌% 2) no_ones
  parity_products (i ∷ l) =
      let n : ℕ = number (map (λ i. a i * b i) l) in
      let d : a i * b i < 2 = digit_below (digit_product (ha i) (hb i)) in
      let e : (a i * b i + 2 * n) % 2 ≡ a i * b i = omega arith in
      let f : (a i * b i + 2 * n) / 2 ≡ n = omega arith in
      parity-step (a i * b i + 2 * n) ∙ ap₂ (λ (x y : ℕ). x ⊕ count.ones y % 2) e f ∙ ap (◌⊕◌ (a i * b i)) (parity_products l)

-- eight bits more of a product
pub row_product_byte : (row pat : List ℕ) (d q : ℕ) → count.ones d % 2 ≡ dot (unpack (8 * q) row) (unpack (8 * q) pat)
    → count.ones (d ⊕ number (map (λ k. bit_at (drop q row) k * bit_at (drop q pat) k) (from 0 8))) % 2
    ≡ dot (unpack (8 * (q + 1)) row) (unpack (8 * (q + 1)) pat)
row_product_byte row pat d q e =
    let f : 8 * (q + 1) ≡ 8 * q + 8 = omega arith in
    parity-xor d (number (map (λ k. bit_at (drop q row) k * bit_at (drop q pat) k) (from 0 8)))
    ∙ ap₂ ◌⊕◌ e
    (parity_products (bit_at (drop q row)) (bit_at (drop q pat)) (bit_digit (drop q row)) (bit_digit (drop q pat)) (from 0 8) ∙ ap₂ dot (moved row) (moved pat))
    ∙ sym (ap (λ (k : ℕ). dot (unpack k row) (unpack k pat)) f
    ∙ ap₂ dot (unpack-add (8 * q) 8 row) (unpack-add (8 * q) 8 pat)
    ∙ dot-append (unpack (8 * q) row) (unpack (8 * q) pat) (map (bit_at row) (from (8 * q) 8)) (map (bit_at pat) (from (8 * q) 8))
    (length-unpack (8 * q) row ∙ sym (length-unpack (8 * q) pat)))
  where
    moved : (s : List ℕ) → map (bit_at (drop q s)) (from 0 8) ≡ map (bit_at s) (from (8 * q) 8)
    moved s = map-from (bit_at (drop q s)) (bit_at s) 0 (8 * q) 8 (λ i l. bit_drop q s (0 + i) ∙ ap (λ (k : ℕ). bit_at s (8 * q + k)) (zero-add i))
