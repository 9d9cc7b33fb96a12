-- The number of ones of a list of bits and of a packed row. Assumes nothing.
use mathlib.Core.Path.{◌≡◌, refl, sym, ap, ap₂, ◌∙◌}
use mathlib.Core.Bool.{true}
use mathlib.Core.List.{List, [], ◌∷◌, ◌++◌, map}
use Prim.Native.Nat.{ℕ, zero, suc, ◌+◌, ◌-◌, ◌*◌, ◌/◌, ◌%◌, ◌^◌, ◌≤◌, ◌<◌}
use native.Mathlib.Nat.{zero-add, add-zero, add_assoc, div-one, pow-suc, le_refl}
use native.Mathlib.Omega.{arith}
use lib.Arith.{lt-one}
use lib.Count.{ones_step}
use lib.Count as count
use lib.ListN.{length, get_or, take, replicate}
use lib.Seq.{take-suc, take-length}
use Rattle.bits.specs.Bits.{Bytes, Row, end, off, on, from, bit_at, unpack, pack, ones, weight, well_formed}
use Rattle.bits.proofs.Lists.{map-from, map-append}
use Rattle.bits.proofs.Bits.{bit_past, digits_tail}
use Rattle.bits.proofs.Pack.{row_unpack, unpack-add, unpack_byte, unpack-pack, bytes_enough, well_formed-length, well_formed_past}

pub ones-append : (a b : List ℕ) → ones (a ++ b) ≡ ones a + ones b
unfolding ones
ones-append [] b = sym (zero-add (ones b))
ones-append (x ∷ a) b = ap (◌+◌ x) (ones-append a b) ∙ sym (add_assoc x (ones a) (ones b))

pub ones-le : {n : ℕ} {e : List ℕ} → Row n e → ones e ≤ n
unfolding ones
ones-le end = le_refl 0
ones-le (off r) = let h = ones-le r in omega arith
ones-le (on r) = let h = ones-le r in omega arith

pub ones_zeros : (n : ℕ) → ones (replicate n 0) ≡ 0
unfolding ones
ones_zeros zero = refl
ones_zeros (suc n) = zero-add (ones (replicate n 0)) ∙ ones_zeros n

ones_none : (l : List ℕ) → ones (map (λ i. 0) l) ≡ 0
unfolding ones
ones_none [] = refl
ones_none (x ∷ l) = ap (◌+◌ 0) (ones_none l)

-- the weight
pub weight-le : (n : ℕ) (s : List ℕ) → weight n s ≤ n
unfolding weight
weight-le n s = ones-le (row_unpack n s)

pub weight-add : (n m : ℕ) (s : List ℕ) → weight (n + m) s ≡ weight n s + ones (map (bit_at s) (from n m))
unfolding weight
weight-add n m s = ap ones (unpack-add n m s) ∙ ones-append (unpack n s) (map (bit_at s) (from n m))

pub weight-suc : (n : ℕ) (s : List ℕ) → weight (n + 1) s ≡ weight n s + bit_at s n
unfolding ones from
weight-suc n s = weight-add n 1 s ∙ ap (◌+◌ (weight n s)) (add-zero (bit_at s n))

-- bits of 0 from n to m add nothing
pub weight_more : (n m : ℕ) (s : List ℕ) → n ≤ m → ((i : ℕ) → n ≤ i → bit_at s i ≡ 0) → weight m s ≡ weight n s
weight_more n m s h z =
    let e : m ≡ n + (m - n) = omega arith in
    ap (λ (k : ℕ). weight k s) e
    ∙ weight-add n (m - n) s
    ∙ ap (λ (l : List ℕ). weight n s + ones l) (map-from (bit_at s) (λ i. 0) n n (m - n) (λ i l. z (n + i) (omega arith)))
    ∙ ap (◌+◌ (weight n s)) (ones_none (from n (m - n)))
    ∙ add-zero (weight n s)

pub weight_past : (n m : ℕ) (s : List ℕ) → n ≤ m → length s ≤ n / 8 → weight m s ≡ weight n s
weight_past n m s h l = weight_more n m s h (λ i k. bit_past s i (omega arith))

pub weight-pack : {n : ℕ} {e : List ℕ} → Row n e → weight n (pack e) ≡ ones e
unfolding weight
weight-pack r = ap ones (unpack-pack r)

-- the ones of a byte, and of a row byte by byte
pub no_ones : count.ones 0 ≡ 0
unfolding count.ones count.ones_in
no_ones = refl

pub ones-digits : (m b : ℕ) → b < 2 ^ m → ones (map (λ i. b / 2 ^ i % 2) (from 0 m)) ≡ count.ones b
unfolding ones from
ones-digits zero b h = sym (ap count.ones (lt-one h) ∙ no_ones)
ones-digits (suc m) b h =
    ap₂ ◌+◌ (ap (◌% 2) (div-one b)) (ap ones (digits_tail b m) ∙ ones-digits m (b / 2) (omega (arith, pow-suc 2 m)))
    ∙ sym (ones_step b)

ones_bytes : (s : List ℕ) → Bytes s → (q : ℕ) → q ≤ length s → weight (8 * q) s ≡ ones (map count.ones (take q s))
unfolding weight unpack ones from
ones_bytes s h zero l = refl
ones_bytes s h (suc q) l =
    let e : 8 * suc q ≡ 8 * q + 8 = omega arith in
    let byte : ℕ = get_or s q 0 in
    ap (λ (k : ℕ). weight k s) e
    ∙ weight-add (8 * q) 8 s
    ∙ ap₂ ◌+◌ (ones_bytes s h q (omega arith)) (ap ones (unpack_byte s q) ∙ ones-digits 8 byte (h q) ∙ sym (add-zero (count.ones byte)))
    ∙ sym (ap (λ (r : List ℕ). ones (map count.ones r)) (take-suc s q 0 l)
    ∙ ap ones (map-append count.ones (take q s) (byte ∷ []))
    ∙ ones-append (map count.ones (take q s)) (count.ones byte ∷ []))

pub weight_bytes : (n : ℕ) (s : List ℕ) → Bytes s → well_formed n s ≡ true → weight n s ≡ ones (map count.ones s)
weight_bytes n s h w =
    sym (weight_more n (8 * length s) s (rw (well_formed-length n s w) (bytes_enough n)) (well_formed_past n s w))
    ∙ ones_bytes s h (length s) (le_refl (length s))
    ∙ ap (λ (r : List ℕ). ones (map count.ones r)) (take-length s)
