-- Bits of bytes and of packed rows: read, set. Assumes nothing.
use mathlib.Core.Path.{◌≡◌, refl, sym, ap, ◌∙◌, subst}
use mathlib.Core.Logic.{◌≢◌}
use mathlib.Core.Bool.{Bool, true}
use mathlib.Core.List.{List, [], ◌∷◌, map}
use Prim.Native.Nat.{ℕ, zero, suc, ◌+◌, ◌-◌, ◌*◌, ◌/◌, ◌%◌, ◌^◌, ◌≤◌, ◌<◌}
use native.Mathlib.Nat.{mod-lt, zero-lt-suc, zero-div, zero-mod, pow-suc, mul_assoc, mul_comm, add-mul, add_assoc, lt_of_le_of_lt, lt_of_not-le, pow-succ'}
use native.Mathlib.Numerals.{add-one}
use native.Mathlib.Omega.{arith}
use native.Mathlib.Decide.{ℕ_discrete, dec_le, dec_lt}
use borrow.Author.Tests.{eqb-true}
use lib.Arith.{lt-one, lt_of_le-ne, digits_mod, digits_lt}
use lib.Bits.{bit_and, bit_or, and_le_l, or_lt}
use lib.Dec.{eqb}
use lib.ListN.{length, get_or, set, replicate, length-set, get_or-eq_default}
use lib.Pow.{pow_pos, shr-shr, field, mod-mod-pow, high, low}
use lib.Seq.{get_or-set_same, get_or-set_other, set_out, ext_get_or}
use Rattle.bits.specs.Bits.{Bytes, from, every, bit_at, with_bit, set_bit}
use Rattle.bits.proofs.Xor.{Digit}
use Rattle.bits.proofs.Xor as xor
use Rattle.bits.proofs.Lists.{every_below_at, map-from}

-- digits of numbers: the next one of n is one of n / 2; those below k are those of n % 2^k
pub digit_suc : (n i : ℕ) → n / 2 ^ suc i % 2 ≡ n / 2 / 2 ^ i % 2
digit_suc n i = let e : 1 + i ≡ suc i = omega arith in ap (◌% 2) (ap (λ (k : ℕ). n / 2 ^ k) (sym e) ∙ sym (shr-shr n 1 i))

digit_next : (n i : ℕ) → n / 2 ^ (1 + i) % 2 ≡ n / 2 / 2 ^ (0 + i) % 2
digit_next n i = let e : 1 + i ≡ suc (0 + i) = omega arith in ap (λ (k : ℕ). n / 2 ^ k % 2) e ∙ digit_suc n (0 + i)

pub digits_tail : (n m : ℕ) → map (λ i. n / 2 ^ i % 2) (from 1 m) ≡ map (λ i. n / 2 / 2 ^ i % 2) (from 0 m)
digits_tail n m =
    map-from (λ i. n / 2 ^ i % 2) (λ i. n / 2 / 2 ^ i % 2) 1 0 m (λ i l. digit_next n i)

pub digit_below : (n k j : ℕ) → j < k → n % 2 ^ k / 2 ^ j % 2 ≡ n / 2 ^ j % 2
digit_below n k j h =
    let e : k ≡ k - j + j = omega arith in
    let f : k - j ≡ k - j - 1 + 1 = omega arith in
    ap (λ (x : ℕ). n % 2 ^ x / 2 ^ j % 2) e
    ∙ ap (◌% 2) (field n (k - j) j)
    ∙ ap (λ (x : ℕ). n / 2 ^ j % 2 ^ x % 2) f
    ∙ mod-mod-pow (n / 2 ^ j) (k - j - 1) 1

-- a number below 2^m is determined by its m lowest digits
pub digits_determine : (m a b : ℕ) → a < 2 ^ m → b < 2 ^ m → ((i : ℕ) → i < m → a / 2 ^ i % 2 ≡ b / 2 ^ i % 2) → a ≡ b
digits_determine zero a b ha hb h = lt-one ha ∙ sym (lt-one hb)
digits_determine (suc m) a b ha hb h =
    let e : a / 2 ≡ b / 2 =
    digits_determine m (a / 2) (b / 2) (omega (arith, pow-suc 2 m)) (omega (arith, pow-suc 2 m))
    (λ i l. sym (digit_suc a i) ∙ h (suc i) (omega arith) ∙ digit_suc b i) in
    let f : a / 1 % 2 ≡ b / 1 % 2 = h 0 (omega arith) in
    omega arith

-- bits of rows
pub bit_lt : (s : List ℕ) (i : ℕ) → bit_at s i < 2
unfolding bit_at
bit_lt s i = mod-lt _ (zero-lt-suc 1)

pub bit_digit : (s : List ℕ) (i : ℕ) → Digit (bit_at s i)
bit_digit s i = xor.digit (bit_lt s i)

pub bit_past : (s : List ℕ) (i : ℕ) → 8 * length s ≤ i → bit_at s i ≡ 0
unfolding bit_at
bit_past s i h =
    let l : length s ≤ i / 8 = omega arith in
    simp (get_or-eq_default s 0 l, zero-div, zero-mod)

pub bit_of_byte : (s : List ℕ) (q i : ℕ) → i < 8 → bit_at s (8 * q + i) ≡ get_or s q 0 / 2 ^ i % 2
unfolding bit_at
bit_of_byte s q i h =
    let e : (8 * q + i) / 8 ≡ q = omega arith in
    let f : (8 * q + i) % 8 ≡ i = omega arith in
    rw (e, f)

-- a row of zeros
pub zeros_at : (m k : ℕ) → ◌≡◌ {A = ℕ} (get_or (replicate m 0) k 0) 0
zeros_at zero k = refl
zeros_at (suc m) zero = refl
zeros_at (suc m) (suc k) = zeros_at m k

pub bytes_zeros : (m : ℕ) → Bytes (replicate m 0)
bytes_zeros m k = rw zeros_at (zero-lt-suc 255)

pub bit_zeros : (m i : ℕ) → bit_at (replicate m 0) i ≡ 0
unfolding bit_at
bit_zeros m i = simp (zeros_at, zero-div, zero-mod)

-- rows of bytes of one length are determined by their bits
pub bits_determine : (s u : List ℕ) → Bytes s → Bytes u → length s ≡ length u → ((i : ℕ) → bit_at s i ≡ bit_at u i) → s ≡ u
bits_determine s u hs hu e h =
    ext_get_or 0 s u e
    (λ q l. digits_determine 8 (get_or s q 0) (get_or u q 0) (hs q) (hu q)
    (λ i k. sym (bit_of_byte s q i k) ∙ h (8 * q + i) ∙ bit_of_byte u q i k))

-- a byte with its bit k set to v: that bit, those below and those above
module _ (b k v : ℕ) (hv : v < 2) where
  with_split : with_bit b k v ≡ (b / 2 ^ (k + 1) * 2 + v) * 2 ^ k + b % 2 ^ k
  unfolding with_bit
  with_split = rw (add-one, pow-suc) (simp (add-mul, mul_assoc, mul_comm))

  with_same : with_bit b k v / 2 ^ k % 2 ≡ v
  with_same =
      ap (λ (x : ℕ). x / 2 ^ k % 2) with_split
      ∙ ap (◌% 2) (high (b / 2 ^ (k + 1) * 2 + v) k (mod-lt b (pow_pos k)))
      ∙ digits_mod (b / 2 ^ (k + 1)) hv

  with_below : (j : ℕ) → j < k → with_bit b k v / 2 ^ j % 2 ≡ b / 2 ^ j % 2
  with_below j h =
      sym (digit_below (with_bit b k v) k j h)
      ∙ ap (λ (x : ℕ). x / 2 ^ j % 2) (ap (◌% 2 ^ k) with_split ∙ low (b / 2 ^ (k + 1) * 2 + v) k (mod-lt b (pow_pos k)))
      ∙ digit_below b k j h

  with_high : with_bit b k v / 2 ^ (k + 1) ≡ b / 2 ^ (k + 1)
  unfolding with_bit
  with_high =
      let l : v * 2 ^ k + b % 2 ^ k < 2 ^ (k + 1) = rw (add-one, pow-succ') (digits_lt hv (mod-lt b (pow_pos k))) in
      ap (◌/ 2 ^ (k + 1)) (add_assoc (b / 2 ^ (k + 1) * 2 ^ (k + 1)) (v * 2 ^ k) (b % 2 ^ k)) ∙ high (b / 2 ^ (k + 1)) (k + 1) l

  with_above : (j : ℕ) → k < j → with_bit b k v / 2 ^ j % 2 ≡ b / 2 ^ j % 2
  with_above j h =
      let m : ℕ = j - (k + 1) in
      let e : j ≡ k + 1 + m = omega arith in
      rw e (ap (◌% 2) (sym (shr-shr (with_bit b k v) (k + 1) m) ∙ ap (◌/ 2 ^ m) with_high ∙ shr-shr b (k + 1) m))

  with_other : (j : ℕ) → j ≢ k → with_bit b k v / 2 ^ j % 2 ≡ b / 2 ^ j % 2
  with_other j n = go (dec_lt j k)
    where
      go : Dec (j < k) → with_bit b k v / 2 ^ j % 2 ≡ b / 2 ^ j % 2
      go (yes l) = with_below j l
      go (no l) = with_above j (lt_of_le-ne (omega arith) (λ e. n (sym e)))

-- the byte that set_bit writes is right: computed at each of the 4096 cases
abbrev pub put : ℕ → ℕ → ℕ → ℕ
put b k v = bit_or (bit_and b (2 ^ 8 - 1 - (1 * 2 ^ k) % 2 ^ 8)) ((v * 2 ^ k) % 2 ^ 8)

right : ℕ → ℕ → ℕ → Bool
right b k v = eqb (put b k v) (with_bit b k v)

all_right : every (λ b. every (λ k. every (right b k) (from 0 2)) (from 0 8)) (from 0 256) ≡ true
unfolding right with_bit from every
all_right = refl

pub put_with : (b k v : ℕ) → b < 256 → k < 8 → v < 2 → put b k v ≡ with_bit b k v
unfolding right
put_with b k v hb hk hv =
    eqb-true (put b k v) (with_bit b k v)
    (every_below_at (right b k) 2
    (every_below_at (λ k. every (right b k) (from 0 2)) 8
    (every_below_at (λ b. every (λ k. every (right b k) (from 0 2)) (from 0 8)) 256 all_right b hb)
    k hk)
    v hv)

with_lt : (b k v : ℕ) → b < 256 → k < 8 → v < 2 → with_bit b k v < 256
with_lt b k v hb hk hv =
    subst (◌< 256) (put_with b k v hb hk hv)
    (or_lt 8 (bit_and b (2 ^ 8 - 1 - (1 * 2 ^ k) % 2 ^ 8)) ((v * 2 ^ k) % 2 ^ 8)
    (lt_of_le_of_lt (and_le_l b (2 ^ 8 - 1 - (1 * 2 ^ k) % 2 ^ 8)) hb)
    (mod-lt (v * 2 ^ k) (pow_pos 8)))

-- rows with one bit set
pub length-set_bit : (s : List ℕ) (i v : ℕ) → length (set_bit s i v) ≡ length s
unfolding set_bit
length-set_bit s i v = length-set s (i / 8) (with_bit (get_or s (i / 8) 0) (i % 8) (v % 2))

pub set_bit_past : (s : List ℕ) (i v : ℕ) → length s ≤ i / 8 → set_bit s i v ≡ s
unfolding set_bit
set_bit_past s i v h = set_out s (i / 8) (with_bit (get_or s (i / 8) 0) (i % 8) (v % 2)) h

pub set_bit-same : (s : List ℕ) (i v : ℕ) → i / 8 < length s → bit_at (set_bit s i v) i ≡ v % 2
unfolding bit_at set_bit
set_bit-same s i v h =
    ap (λ (b : ℕ). b / 2 ^ (i % 8) % 2) (get_or-set_same s (i / 8) (with_bit (get_or s (i / 8) 0) (i % 8) (v % 2)) 0 h)
    ∙ with_same (get_or s (i / 8) 0) (i % 8) (v % 2) (mod-lt v (zero-lt-suc 1))

pub set_bit_other : (s : List ℕ) (i j v : ℕ) → j ≢ i → bit_at (set_bit s i v) j ≡ bit_at s j
unfolding bit_at set_bit
set_bit_other s i j v n = go (dec_le (length s) (i / 8)) (ℕ_discrete (j / 8) (i / 8))
  where
    byte : ℕ
    byte = with_bit (get_or s (i / 8) 0) (i % 8) (v % 2)

    go : Dec (length s ≤ i / 8) → Dec (j / 8 ≡ i / 8)
        → get_or (set s (i / 8) byte) (j / 8) 0 / 2 ^ (j % 8) % 2 ≡ get_or s (j / 8) 0 / 2 ^ (j % 8) % 2
    go (yes l) d = ap (λ (r : List ℕ). get_or r (j / 8) 0 / 2 ^ (j % 8) % 2) (set_out s (i / 8) byte l)
    go (no l) (yes e) =
        rw e (ap (λ (b : ℕ). b / 2 ^ (j % 8) % 2) (get_or-set_same s (i / 8) byte 0 (lt_of_not-le l))
        ∙ with_other (get_or s (i / 8) 0) (i % 8) (v % 2) (mod-lt v (zero-lt-suc 1)) (j % 8) (λ q. n (omega arith)))
    go (no l) (no d) = ap (λ (b : ℕ). b / 2 ^ (j % 8) % 2) (get_or-set_other s (i / 8) (j / 8) byte 0 d)

pub bytes_set : (s : List ℕ) (q b : ℕ) → Bytes s → b < 256 → Bytes (set s q b)
bytes_set [] q b h l k = h k
bytes_set (x ∷ s) zero b h l zero = l
bytes_set (x ∷ s) zero b h l (suc k) = h (suc k)
bytes_set (x ∷ s) (suc q) b h l zero = h 0
bytes_set (x ∷ s) (suc q) b h l (suc k) = bytes_set s q b (λ k. h (suc k)) l k

pub bytes_set_bit : (s : List ℕ) (i v : ℕ) → Bytes s → Bytes (set_bit s i v)
unfolding set_bit
bytes_set_bit s i v h =
    bytes_set s (i / 8) (with_bit (get_or s (i / 8) 0) (i % 8) (v % 2)) h
    (with_lt (get_or s (i / 8) 0) (i % 8) (v % 2) (h (i / 8)) (mod-lt i (zero-lt-suc 7)) (mod-lt v (zero-lt-suc 1)))
