-- Packed rows and the lists of their bits. Assumes nothing.
use mathlib.Core.Path.{◌≡◌, refl, sym, ap, ap₂, ◌∙◌}
use mathlib.Core.Bool.{true, ◌&&◌}
use mathlib.Core.List.{List, [], ◌∷◌, ◌++◌, map}
use Prim.Native.Nat.{ℕ, zero, suc, ◌+◌, ◌-◌, ◌*◌, ◌/◌, ◌%◌, ◌^◌, ◌≤◌, ◌<◌}
use native.Mathlib.Nat.{zero-add, suc-add, mod-lt, zero-lt-suc, zero-div, zero-mod, pow-suc, mul_assoc, mul_comm, min-le_left, le_refl, le_of_suc-le-suc, not-suc-le-zero}
use native.Mathlib.Decide.{ℕ_discrete, dec_lt}
use native.Mathlib.Omega.{arith}
use borrow.Author.Tests.{eqb-true, eq-eqb}
use lib.Dec.{eqb}
use lib.Pow.{pow_pos}
use lib.ListN.{length, get_or, take, drop, set, replicate, length-take, length-set, length-replicate, drop_of_length-le, get_or-eq_default}
use lib.Seq.{get_or-take, get_or-drop, get_or-set_same, get_or-set_other, ext_get_or}
use Rattle.bits.specs.Xor.{◌⊕◌}
use Rattle.bits.specs.Bits.{Bytes, Row, end, off, on, from, bytes_for, bit_at, unpack, number, pack, set_bit, filler_clear, well_formed, each_with, xor_row, over}
use Rattle.bits.proofs.Xor.{Digit, xor_comm, xor_self, xor_shifted}
use Rattle.bits.proofs.Xor as xor
use Rattle.bits.proofs.Lists.{and_left, and_right, length-map-from, map-from-at, map-from_past, map-from, map-append, from-add, every-from-at, every_from_all, every-from, take_below, drop_below}
use Rattle.bits.proofs.Bits.{bit_digit, bit_past, bit_zeros, bit_of_byte, digit_suc, bits_determine, length-set_bit, set_bit-same, set_bit_other}
use Rattle.bits.proofs.Rows.{length-xor_row, bit_xor_row}
use Rattle.bits.proofs.Padded.{over_first}

-- lists of bits
pub row_cons : {n d : ℕ} {e : List ℕ} → Digit d → Row n e → Row (suc n) (d ∷ e)
row_cons xor.off r = off r
row_cons xor.on r = on r

pub row_length : {n : ℕ} {e : List ℕ} → Row n e → length e ≡ n
row_length end = refl
row_length (off r) = ap suc (row_length r)
row_length (on r) = ap suc (row_length r)

pub row_zeros : (n : ℕ) → Row n (replicate n 0)
row_zeros zero = end
row_zeros (suc n) = off (row_zeros n)

pub row_append : {n m : ℕ} {a b : List ℕ} → Row n a → Row m b → Row (n + m) (a ++ b)
row_append {m = m} end w = rw (zero-add m) w
row_append {m = m} (off {n = n} r) w = rw (suc-add n m) (off (row_append r w))
row_append {m = m} (on {n = n} r) w = rw (suc-add n m) (on (row_append r w))

pub row_lt : {n : ℕ} {e : List ℕ} → Row n e → (k : ℕ) → get_or e k 0 < 2
row_lt end k = omega arith
row_lt (off r) zero = omega arith
row_lt (off r) (suc k) = row_lt r k
row_lt (on r) zero = omega arith
row_lt (on r) (suc k) = row_lt r k

pub row_digit : {n : ℕ} {e : List ℕ} → Row n e → (k : ℕ) → Digit (get_or e k 0)
row_digit r k = xor.digit (row_lt r k)

pub row_of_lem : (e : List ℕ) → ((k : ℕ) → get_or e k 0 < 2) → Row (length e) e
row_of_lem [] h = end
row_of_lem (b ∷ e) h = row_cons (xor.digit (h 0)) (row_of_lem e (λ k. h (suc k)))

pub row_map : (f : ℕ → ℕ) → ((i : ℕ) → Digit (f i)) → (k n : ℕ) → Row n (map f (from k n))
unfolding from
row_map f h k zero = end
row_map f h k (suc n) = row_cons (h k) (row_map f h (suc k) n)

-- unpack
pub length-unpack : (n : ℕ) (s : List ℕ) → length (unpack n s) ≡ n
unfolding unpack
length-unpack n s = length-map-from (bit_at s) 0 n

pub row_unpack : (n : ℕ) (s : List ℕ) → Row n (unpack n s)
unfolding unpack
row_unpack n s = row_map (bit_at s) (bit_digit s) 0 n

pub unpack-at : (n : ℕ) (s : List ℕ) (i d : ℕ) → i < n → get_or (unpack n s) i d ≡ bit_at s i
unfolding unpack
unpack-at n s i d h = map-from-at (bit_at s) 0 n i d h ∙ ap (bit_at s) (zero-add i)

pub unpack_past : (n : ℕ) (s : List ℕ) (i d : ℕ) → n ≤ i → get_or (unpack n s) i d ≡ d
unfolding unpack
unpack_past n s i d h = map-from_past (bit_at s) 0 n i d h

pub unpack_ext : (n : ℕ) (s u : List ℕ) → ((i : ℕ) → i < n → bit_at s i ≡ bit_at u i) → unpack n s ≡ unpack n u
unfolding unpack
unpack_ext n s u h = map-from (bit_at s) (bit_at u) 0 0 n (λ i l. rw zero-add (h i l))

pub unpack-bits : (n : ℕ) (s u : List ℕ) → unpack n s ≡ unpack n u → (i : ℕ) → i < n → bit_at s i ≡ bit_at u i
unpack-bits n s u e i h = sym (unpack-at n s i 0 h) ∙ ap (λ (l : List ℕ). get_or l i 0) e ∙ unpack-at n u i 0 h

-- the bits of the bytes from q on
pub bit_drop : (q : ℕ) (s : List ℕ) (i : ℕ) → bit_at (drop q s) i ≡ bit_at s (8 * q + i)
unfolding bit_at
bit_drop q s i =
    let e : q + i / 8 ≡ (8 * q + i) / 8 = omega arith in
    let f : i % 8 ≡ (8 * q + i) % 8 = omega arith in
    ap₂ (λ (x k : ℕ). x / 2 ^ k % 2) (get_or-drop q s (i / 8) 0 ∙ ap (λ (j : ℕ). get_or s j 0) e) f

-- the bits of the first k bytes
pub bit_take : (k : ℕ) (s : List ℕ) (i : ℕ) → i / 8 < k → bit_at (take k s) i ≡ bit_at s i
unfolding bit_at
bit_take k s i h = ap (λ (x : ℕ). x / 2 ^ (i % 8) % 2) (get_or-take k s (i / 8) 0 h)

pub unpack-add : (n m : ℕ) (s : List ℕ) → unpack (n + m) s ≡ unpack n s ++ map (bit_at s) (from n m)
unfolding unpack
unpack-add n m s =
    ap (map (bit_at s)) (from-add 0 n m)
    ∙ map-append (bit_at s) (from 0 n) (from (0 + n) m)
    ∙ ap (λ (k : ℕ). map (bit_at s) (from 0 n) ++ map (bit_at s) (from k m)) (zero-add n)

-- the bits of one byte
pub unpack_byte : (s : List ℕ) (q : ℕ) → map (bit_at s) (from (8 * q) 8) ≡ map (λ i. get_or s q 0 / 2 ^ i % 2) (from 0 8)
unpack_byte s q =
    map-from (bit_at s) (λ i. get_or s q 0 / 2 ^ i % 2) (8 * q) 0 8
    (λ i l. bit_of_byte s q i l ∙ ap (λ (k : ℕ). get_or s q 0 / 2 ^ k % 2) (sym (zero-add i)))

xor_row-map : (f g : ℕ → ℕ) (l : List ℕ) → xor_row (map f l) (map g l) ≡ map (λ i. f i ⊕ g i) l
unfolding xor_row each_with
xor_row-map f g [] = refl
xor_row-map f g (x ∷ l) = ap (◌∷◌ (f x ⊕ g x)) (xor_row-map f g l)

pub unpack-xor_row : (n : ℕ) (d s : List ℕ) → length s ≤ length d → unpack n (xor_row d s) ≡ xor_row (unpack n d) (unpack n s)
unfolding unpack
unpack-xor_row n d s h =
    map-from (bit_at (xor_row d s)) (λ i. bit_at d i ⊕ bit_at s i) 0 0 n (λ i l. bit_xor_row d s (0 + i) h)
    ∙ sym (xor_row-map (bit_at d) (bit_at s) (from 0 n))

pub unpack-set_bit : (n : ℕ) (s : List ℕ) (i v : ℕ) → i / 8 < length s → unpack n (set_bit s i v) ≡ set (unpack n s) i (v % 2)
unpack-set_bit n s i v h =
    ext_get_or 0 (unpack n (set_bit s i v)) (set (unpack n s) i (v % 2)) (simp (length-set, length-unpack))
    (λ j l. let k : j < n = rw length-unpack at l in unpack-at n (set_bit s i v) j 0 k ∙ go j k (ℕ_discrete j i))
  where
    go : (j : ℕ) → j < n → Dec (j ≡ i) → bit_at (set_bit s i v) j ≡ get_or (set (unpack n s) i (v % 2)) j 0
    go j k (yes e) =
        let m : i < length (unpack n s) = rw (length-unpack, ← e) k in
        rw e (set_bit-same s i v h ∙ sym (get_or-set_same (unpack n s) i (v % 2) 0 m))
    go j k (no d) = set_bit_other s i j v d ∙ sym (get_or-set_other (unpack n s) i j (v % 2) 0 d ∙ unpack-at n s j 0 k)

-- the number with given binary digits
number_step : (m b x : ℕ) → b < 2 → x < 2 ^ m → b + 2 * x < 2 ^ suc m
number_step m b x h l = omega (arith, pow-suc 2 m)

low_digit : (b x : ℕ) → b < 2 → (b + 2 * x) / 1 % 2 ≡ b
low_digit b x h = omega arith

high_digits : (b x : ℕ) → b < 2 → (b + 2 * x) / 2 ≡ x
high_digits b x h = omega arith

pub number_lt : (m : ℕ) (e : List ℕ) → ((k : ℕ) → get_or e k 0 < 2) → length e ≤ m → number e < 2 ^ m
unfolding number
number_lt m [] h l = pow_pos m
number_lt zero (b ∷ e) h l = absurd (not-suc-le-zero l)
number_lt (suc m) (b ∷ e) h l =
    let i : number e < 2 ^ m = number_lt m e (λ k. h (suc k)) (le_of_suc-le-suc l) in
    let j : b < 2 = h 0 in
    number_step m b (number e) j i

pub number_digit : (e : List ℕ) (k : ℕ) → ((k : ℕ) → get_or e k 0 < 2) → number e / 2 ^ k % 2 ≡ get_or e k 0
unfolding number
number_digit [] k h = simp (zero-div, zero-mod)
number_digit (b ∷ e) zero h = low_digit b (number e) (h 0)
number_digit (b ∷ e) (suc k) h =
    digit_suc (b + 2 * number e) k
    ∙ ap (λ (x : ℕ). x / 2 ^ k % 2) (high_digits b (number e) (h 0))
    ∙ number_digit e k (λ k. h (suc k))

-- one digit more
number_snoc : (e : List ℕ) (b : ℕ) → number (e ++ b ∷ []) ≡ b * 2 ^ length e + number e
unfolding number
number_snoc [] b = omega arith
number_snoc (x ∷ e) b =
    let p : b * 2 ^ suc (length e) ≡ 2 * (b * 2 ^ length e) = ap (◌*◌ b) (pow-suc 2 (length e)) ∙ sym (mul_assoc b (2 ^ length e) 2) ∙ mul_comm (b * 2 ^ length e) 2 in
    let i : number (e ++ b ∷ []) ≡ b * 2 ^ length e + number e = number_snoc e b in
    omega (arith, p, i)

pub number_more : (f : ℕ → ℕ) → ((i : ℕ) → Digit (f i)) → (k : ℕ) → number (map f (from 0 k)) ⊕ f k * 2 ^ k ≡ number (map f (from 0 (k + 1)))
unfolding from
number_more f h k =
    let e : List ℕ = map f (from 0 k) in
    let l : length e ≡ k = length-map-from f 0 k in
    xor_comm (number e) (f k * 2 ^ k)
    ∙ xor_shifted (f k) k (number e) (number_lt k e (row_lt (row_map f h 0 k)) (omega arith))
    ∙ ap (λ (n : ℕ). f k * 2 ^ n + number e) (sym l)
    ∙ sym (number_snoc e (f k))
    ∙ ap (λ (i : ℕ). number (e ++ f i ∷ [])) (sym (zero-add k))
    ∙ ap number (sym (ap (map f) (from-add 0 k 1) ∙ map-append f (from 0 k) ((0 + k) ∷ [])))

-- pack
pub bytes_enough : (n : ℕ) → n ≤ 8 * bytes_for n
unfolding bytes_for
bytes_enough n = omega arith

pub byte_below : (n i : ℕ) → i < n → i / 8 < bytes_for n
unfolding bytes_for
byte_below n i h = omega arith

-- n bits are in the first bytes_for n bytes, and their filler too
pub unpack-take : (n k : ℕ) (s : List ℕ) → bytes_for n ≤ k → unpack n (take k s) ≡ unpack n s
unpack-take n k s h = unpack_ext n (take k s) s (λ i l. bit_take k s i (omega (arith, byte_below n i l)))

pub filler_take : (n : ℕ) (s : List ℕ) → filler_clear n (take (bytes_for n) s) ≡ filler_clear n s
unfolding filler_clear
filler_take n s =
    every-from _ _ n n (8 * bytes_for n - n) (λ i l. ap (λ (x : ℕ). eqb x 0) (bit_take (bytes_for n) s (n + i) (omega arith)))

pub length-pack : (e : List ℕ) → length (pack e) ≡ bytes_for (length e)
unfolding pack
length-pack e = length-map-from (λ j. number (take 8 (drop (8 * j) e))) 0 (bytes_for (length e))

pub pack-at : (e : List ℕ) (q : ℕ) → get_or (pack e) q 0 ≡ number (take 8 (drop (8 * q) e))
unfolding pack number
pack-at e q = go (dec_lt q (bytes_for (length e)))
  where
    byte : ℕ → ℕ
    byte j = number (take 8 (drop (8 * j) e))

    go : Dec (q < bytes_for (length e)) → get_or (map byte (from 0 (bytes_for (length e)))) q 0 ≡ byte q
    go (yes l) = map-from-at byte 0 (bytes_for (length e)) q 0 l ∙ ap byte (zero-add q)
    go (no l) =
        let past : length e ≤ 8 * q = omega (arith, bytes_enough (length e)) in
        map-from_past byte 0 (bytes_for (length e)) q 0 (omega arith)
        ∙ sym (ap (λ (r : List ℕ). number (take 8 r)) (drop_of_length-le e past))

part-lt : {n : ℕ} {e : List ℕ} → Row n e → (m k : ℕ) → get_or (take 8 (drop m e)) k 0 < 2
part-lt {e} r m = take_below 2 8 (drop m e) (drop_below 2 m e (row_lt r))

pub bytes_pack : {n : ℕ} {e : List ℕ} → Row n e → Bytes (pack e)
bytes_pack {e} r q =
    rw pack-at
    (number_lt 8 (take 8 (drop (8 * q) e)) (part-lt r (8 * q))
    (rw length-take (min-le_left 8 (length (drop (8 * q) e)))))

pub bit_pack : {n : ℕ} {e : List ℕ} → Row n e → (i : ℕ) → bit_at (pack e) i ≡ get_or e i 0
unfolding bit_at
bit_pack {e} r i =
    let part : List ℕ = drop (8 * (i / 8)) e in
    let place : 8 * (i / 8) + i % 8 ≡ i = omega arith in
    ap (λ (b : ℕ). b / 2 ^ (i % 8) % 2) (pack-at e (i / 8))
    ∙ number_digit (take 8 part) (i % 8) (part-lt r (8 * (i / 8)))
    ∙ get_or-take 8 part (i % 8) 0 (mod-lt i (zero-lt-suc 7))
    ∙ get_or-drop (8 * (i / 8)) e (i % 8) 0
    ∙ ap (λ (k : ℕ). get_or e k 0) place

pub unpack-pack : {n : ℕ} {e : List ℕ} → Row n e → unpack n (pack e) ≡ e
unpack-pack {n} {e} r =
    let l : length (unpack n (pack e)) ≡ n = length-unpack n (pack e) in
    ext_get_or 0 (unpack n (pack e)) e (l ∙ sym (row_length r))
    (λ i h. unpack-at n (pack e) i 0 (rw l at h) ∙ bit_pack r i)

-- a packed row that is written over an output begins it, and is read back from it
module _ {n : ℕ} {e : List ℕ} (r : Row n e) (out : List ℕ) where
  pub take-over : take (bytes_for n) (over (pack e) out) ≡ pack e
  take-over = over_first (pack e) out (bytes_for n) (length-pack e ∙ ap bytes_for (row_length r))

  pub unpack-over : unpack n (over (pack e) out) ≡ e
  unpack-over = sym (unpack-take n (bytes_for n) (over (pack e) out) (le_refl (bytes_for n))) ∙ ap (unpack n) take-over ∙ unpack-pack r

-- the filler: the bits from n to the end of the last byte
pub filler_bits : (n : ℕ) → (8 - n % 8) % 8 ≡ 8 * bytes_for n - n
unfolding bytes_for
filler_bits n = omega arith

pub clear_at : (n : ℕ) (s : List ℕ) → filler_clear n s ≡ true → (i : ℕ) → n ≤ i → i < 8 * bytes_for n → bit_at s i ≡ 0
unfolding filler_clear
clear_at n s e i h l =
    let place : n + (i - n) ≡ i = omega arith in
    eqb-true (bit_at s i) 0
    (ap (λ (k : ℕ). eqb (bit_at s k) 0) (sym place)
    ∙ every-from-at (λ i. eqb (bit_at s i) 0) n (8 * bytes_for n - n) e (i - n) (omega arith))

pub clear_all : (n : ℕ) (s : List ℕ) → ((i : ℕ) → n ≤ i → i < 8 * bytes_for n → bit_at s i ≡ 0) → filler_clear n s ≡ true
unfolding filler_clear
clear_all n s h =
    every_from_all (λ i. eqb (bit_at s i) 0) n (8 * bytes_for n - n)
    (λ i l. eq-eqb (bit_at s (n + i)) 0 (h (n + i) (omega arith) (omega arith)))

-- well-formed rows
module _ (n : ℕ) (s : List ℕ) where
  pub well_formed_lem : length s ≡ bytes_for n → filler_clear n s ≡ true → well_formed n s ≡ true
  unfolding well_formed
  well_formed_lem e f = ap₂ ◌&&◌ (eq-eqb (length s) (bytes_for n) e) f

  pub well_formed-length : well_formed n s ≡ true → length s ≡ bytes_for n
  unfolding well_formed
  well_formed-length w = eqb-true (length s) (bytes_for n) (and_left (eqb (length s) (bytes_for n)) (filler_clear n s) w)

  pub well_formed-clear : well_formed n s ≡ true → filler_clear n s ≡ true
  unfolding well_formed
  well_formed-clear w = and_right (eqb (length s) (bytes_for n)) (filler_clear n s) w

  -- every bit past the n bits is 0
  pub well_formed_past : well_formed n s ≡ true → (i : ℕ) → n ≤ i → bit_at s i ≡ 0
  well_formed_past w i h = go (dec_lt i (8 * bytes_for n))
    where
      go : Dec (i < 8 * bytes_for n) → bit_at s i ≡ 0
      go (yes l) = clear_at n s (well_formed-clear w) i h l
      go (no l) = bit_past s i (rw (well_formed-length w) (omega arith))

pub well_formed_zeros : (n : ℕ) → well_formed n (replicate (bytes_for n) 0) ≡ true
well_formed_zeros n =
    well_formed_lem n (replicate (bytes_for n) 0) (length-replicate (bytes_for n) 0)
    (clear_all n (replicate (bytes_for n) 0) (λ i h l. bit_zeros (bytes_for n) i))

pub well_formed-set_bit : (n : ℕ) (s : List ℕ) (i v : ℕ) → i < n → well_formed n s ≡ true → well_formed n (set_bit s i v) ≡ true
well_formed-set_bit n s i v h w =
    well_formed_lem n (set_bit s i v) (length-set_bit s i v ∙ well_formed-length n s w)
    (clear_all n (set_bit s i v) (λ j k l. set_bit_other s i j v (λ e. omega arith) ∙ well_formed_past n s w j k))

pub well_formed-xor_row : (n : ℕ) (a b : List ℕ) → well_formed n a ≡ true → well_formed n b ≡ true → well_formed n (xor_row a b) ≡ true
well_formed-xor_row n a b wa wb =
    let la : length a ≡ bytes_for n = well_formed-length n a wa in
    let lb : length b ≡ bytes_for n = well_formed-length n b wb in
    well_formed_lem n (xor_row a b) (length-xor_row a b ∙ la)
    (clear_all n (xor_row a b)
    (λ i h l. bit_xor_row a b i (omega arith) ∙ ap₂ ◌⊕◌ (well_formed_past n a wa i h) (well_formed_past n b wb i h) ∙ xor_self 0))

pub well_formed-pack : {n : ℕ} {e : List ℕ} → Row n e → well_formed n (pack e) ≡ true
well_formed-pack {n} {e} r =
    well_formed_lem n (pack e)
    (length-pack e ∙ ap bytes_for (row_length r))
    (clear_all n (pack e) (λ i h l. bit_pack r i ∙ get_or-eq_default e 0 (rw (row_length r) h)))

pub pack-unpack : (n : ℕ) (s : List ℕ) → Bytes s → well_formed n s ≡ true → pack (unpack n s) ≡ s
pack-unpack n s h w =
    bits_determine (pack (unpack n s)) s (bytes_pack (row_unpack n s)) h
    (length-pack (unpack n s) ∙ ap bytes_for (length-unpack n s) ∙ sym (well_formed-length n s w))
    (λ i. bit_pack (row_unpack n s) i ∙ go i (dec_lt i n))
  where
    go : (i : ℕ) → Dec (i < n) → get_or (unpack n s) i 0 ≡ bit_at s i
    go i (yes l) = unpack-at n s i 0 l
    go i (no l) = unpack_past n s i 0 (omega arith) ∙ sym (well_formed_past n s w i (omega arith))

pub row_determined : (n : ℕ) (s u : List ℕ) → Bytes s → Bytes u → well_formed n s ≡ true → well_formed n u ≡ true
    → unpack n s ≡ unpack n u → s ≡ u
row_determined n s u hs hu ws wu e = sym (pack-unpack n s hs ws) ∙ ap pack e ∙ pack-unpack n u hu wu
