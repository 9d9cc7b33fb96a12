-- H is the code's parity-check matrix: a word is in the code exactly when its product with every row of H is 0. It holds for
-- every key, since where m is no width H is 0. Assumes nothing.
use mathlib.Core.Path.{◌≡◌, sym, ap, ap₂, ◌∙◌}
use mathlib.Core.Logic.{◌↔◌}
use mathlib.Core.Bool.{true}
use mathlib.Core.List.{List, [], ◌∷◌, map}
use Prim.Native.Nat.{ℕ, zero, suc, ◌+◌, ◌*◌, ◌/◌, ◌%◌, ◌^◌, ◌≤◌, ◌<◌, suc-le-suc}
use native.Mathlib.Nat.{add-zero, zero-add, mul_comm, zero-mul, one-mul, mul-zero, mul-one, suc-mul, mul-le-mul_right, zero-div, zero-mod, mod-eq_of_lt, div-eq_of_lt, mul-add-div_right, mul-add-mod_self_right, div-lt_iff_lt-mul, not-suc-le-zero, le_of_suc-le-suc, zero-lt-suc}
use native.Mathlib.Omega.{arith}
use lib.Dec.{eqb}
use lib.Pow.{pow_pos}
use borrow.Author.Tests.{eqb-true, eq-eqb}
use Rattle.bits.specs.Xor.{◌⊕◌}
use Rattle.bits.specs.Bits.{Row, end, off, on, from, dot}
use Rattle.bits.proofs.Xor.{xor_shr, xor_mod, xor_lt}
use Rattle.bits.proofs.Lists.{every_below_at, every_from_all}
use Rattle.bits.proofs.Bits.{digits_determine}
use Rattle.field.proofs.Laws.{mul-lt}
use Rattle.key.specs.Keys.{Key}
use Rattle.code.specs.Code.{entry, in_code, parity_row, parity_rows}
use Rattle.code.proofs.Kernel.{Kernel, none, zero_row}

-- a map over numbers from k on is in the kernel exactly when each of its rows is
kernel_from : {c : List ℕ} (f : ℕ → List ℕ) (k n : ℕ) → ((i : ℕ) → i < n → dot (f (k + i)) c ≡ 0) → Kernel c (map f (from k n))
unfolding from
kernel_from f k zero h = none
kernel_from {c} f k (suc n) h =
    zero_row (ap (λ (i : ℕ). dot (f i) c) (sym (add-zero k)) ∙ h 0 (zero-lt-suc n))
    (kernel_from f (suc k) n (λ i l. ap (λ (j : ℕ). dot (f j) c) (next i) ∙ h (suc i) (suc-le-suc l)))
  where
    next : (i : ℕ) → suc k + i ≡ k + suc i
    next i = omega arith

kernel_at : {c : List ℕ} (f : ℕ → List ℕ) (k n : ℕ) → Kernel c (map f (from k n)) → (i : ℕ) → i < n → dot (f (k + i)) c ≡ 0
unfolding from
kernel_at f k zero z i h = absurd (not-suc-le-zero h)
kernel_at {c} f k (suc n) (zero_row e z) zero h = ap (λ (i : ℕ). dot (f i) c) (add-zero k) ∙ e
kernel_at {c} f k (suc n) (zero_row e z) (suc i) h =
    ap (λ (j : ℕ). dot (f j) c) next ∙ kernel_at f (suc k) n z i (le_of_suc-le-suc h)
  where
    next : k + suc i ≡ suc k + i
    next = omega arith

-- the digits of a sum of elements are the sums of their digits
digit_add : (a b j : ℕ) → (a ⊕ b) / 2 ^ j % 2 ≡ a / 2 ^ j % 2 ⊕ b / 2 ^ j % 2
digit_add a b j = ap (◌% 2) (xor_shr a b j) ∙ xor_mod (a / 2 ^ j) (b / 2 ^ j) 1

pub digit_dot : {n : ℕ} {c : List ℕ} → Row n c → (f : ℕ → ℕ) (l : List ℕ) (j : ℕ)
    → dot c (map f l) / 2 ^ j % 2 ≡ dot (map (λ a. f a / 2 ^ j % 2) l) c
unfolding dot
digit_dot end f [] j = simp (zero-div, zero-mod)
digit_dot end f (a ∷ l) j = simp (zero-div, zero-mod)
digit_dot (off r) f [] j = simp (zero-div, zero-mod)
digit_dot (on r) f [] j = simp (zero-div, zero-mod)
digit_dot (off r) f (a ∷ l) j =
    digit_add (0 * f a) _ j ∙ ap₂ ◌⊕◌ (simp (zero-mul, zero-div, zero-mod, mul-zero)) (digit_dot r f l j)
digit_dot (on r) f (a ∷ l) j =
    digit_add (1 * f a) _ j ∙ ap₂ ◌⊕◌ (simp (one-mul, mul-one)) (digit_dot r f l j)

pub dot-lt : {n : ℕ} {c : List ℕ} (m : ℕ) → Row n c → (f : ℕ → ℕ) → ((a : ℕ) → f a < 2 ^ m) → (l : List ℕ) → dot c (map f l) < 2 ^ m
unfolding dot
dot-lt m end f h l = pow_pos m
dot-lt m (off r) f h [] = pow_pos m
dot-lt m (on r) f h [] = pow_pos m
dot-lt m (off r) f h (a ∷ l) = xor_lt m (rw zero-mul (pow_pos m)) (dot-lt m r f h l)
dot-lt m (on r) f h (a ∷ l) = xor_lt m (rw one-mul (h a)) (dot-lt m r f h l)

-- row s·m + j of m·t rows is that of s and j
rows_width : (m t r : ℕ) → r < m * t → 0 < m
rows_width zero t r h = absurd (not-suc-le-zero (rw zero-mul at h))
rows_width (suc m) t r h = zero-lt-suc m

pub row_power : (m s j : ℕ) → j < m → (s * m + j) / m ≡ s
row_power m s j h = mul-add-div_right (omega arith) s j ∙ ap (◌+◌ s) (div-eq_of_lt h) ∙ add-zero s

pub row_digit : (m s j : ℕ) → j < m → (s * m + j) % m ≡ j
row_digit m s j h = mul-add-mod_self_right s m j ∙ mod-eq_of_lt h

row_below : (m t s j : ℕ) → s < t → j < m → s * m + j < m * t
row_below m t s j h l =
    let e : suc s * m ≤ t * m = mul-le-mul_right m h in
    omega (arith, suc-mul s m, mul_comm m t)

module _ {n : ℕ} {c : List ℕ} (k : Key) (w : Row n c) where
  -- the product with a row of H is a digit of a sum
  pub parity-dot : (r : ℕ) → dot (parity_row k r) c ≡ dot c (map (entry k (r / k.m)) k.support) / 2 ^ (r % k.m) % 2
  unfolding parity_row
  parity-dot r = sym (digit_dot w (entry k (r / k.m)) k.support (r % k.m))

  entry_lt : (s a : ℕ) → entry k s a < 2 ^ k.m
  unfolding entry
  entry_lt s a = mul-lt k.m _ _

  code_forth : in_code k c ≡ true → Kernel c (parity_rows k)
  unfolding in_code parity_rows
  code_forth h = kernel_from (parity_row k) 0 (k.m * k.t) (λ r l. ap (λ (i : ℕ). dot (parity_row k i) c) (zero-add r) ∙ go r l)
    where
      go : (r : ℕ) → r < k.m * k.t → dot (parity_row k r) c ≡ 0
      go r l =
          let s : r / k.m < k.t = (div-lt_iff_lt-mul (rows_width k.m k.t r l)).1 (rw (mul_comm k.m k.t) at l) in
          parity-dot r
          ∙ ap (λ (x : ℕ). x / 2 ^ (r % k.m) % 2)
          (eqb-true _ 0 (every_below_at (λ s. eqb (dot c (map (entry k s) k.support)) 0) k.t h (r / k.m) s))
          ∙ simp (zero-div, zero-mod)

  code_back : Kernel c (parity_rows k) → in_code k c ≡ true
  unfolding in_code parity_rows
  code_back z = every_from_all (λ s. eqb (dot c (map (entry k s) k.support)) 0) 0 k.t
      (λ s l. rw zero-add (eq-eqb _ 0 (go s l)))
    where
      go : (s : ℕ) → s < k.t → dot c (map (entry k s) k.support) ≡ 0
      go s l =
          digits_determine k.m (dot c (map (entry k s) k.support)) 0
          (dot-lt k.m w (entry k s) (entry_lt s) k.support) (pow_pos k.m)
          (λ j b.
          let r : ℕ = s * k.m + j in
          sym (ap₂ (λ (x y : ℕ). dot c (map (entry k x) k.support) / 2 ^ y % 2) (row_power k.m s j b) (row_digit k.m s j b))
          ∙ sym (parity-dot r)
          ∙ ap (λ (i : ℕ). dot (parity_row k i) c) (sym (zero-add r))
          ∙ kernel_at (parity_row k) 0 (k.m * k.t) z r (row_below k.m k.t s j l b)
          ∙ simp (zero-div, zero-mod))

  -- c is in the code exactly when H·c = 0
  pub code_kernel : (in_code k c ≡ true) ↔ Kernel c (parity_rows k)
  code_kernel = (code_forth, code_back)
