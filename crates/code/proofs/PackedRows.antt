-- Rows of n bits in a list of bytes: one by one, in a list's front, and the first bits of longer rows. Assumes nothing.
use mathlib.Core.Path.{◌≡◌, refl, sym, ap, ap₂, ◌∙◌}
use mathlib.Core.List.{List, [], ◌∷◌, ◌++◌, map, map-append}
use Prim.Native.Nat.{ℕ, zero, suc, ◌+◌, ◌-◌, ◌*◌, ◌/◌, ◌%◌, ◌^◌, ◌≤◌, ◌<◌}
use native.Mathlib.Nat.{zero-mul, one-mul, suc-mul, add-mul, add-suc, add_comm}
use native.Mathlib.Omega.{arith}
use lib.ListN.{length, take, drop, replicate, length-map, length-drop, get_or-append, take-append-drop}
use lib.Seq.{drop-drop, drop-append-le, take_at, length-take-le}
use Rattle.bits.specs.Bits.{from, bytes_for, bit_at, unpack}
use Rattle.bits.proofs.Bits.{bit_zeros}
use Rattle.bits.proofs.Lists.{cons_eq, length_from, from-add}
use Rattle.bits.proofs.Pack.{length-unpack, unpack-add, unpack_ext, unpack-take, byte_below}
use Rattle.code.specs.PublicKey.{Matrix}
use Rattle.code.specs.Lock.{row_of, rows_of}

-- n bits are in the first bytes_for n bytes
pub unpack-append : (n : ℕ) (s u : List ℕ) → bytes_for n ≤ length s → unpack n (s ++ u) ≡ unpack n s
unfolding bit_at
unpack-append n s u h =
    unpack_ext n (s ++ u) s
    (λ i l. let e : i / 8 < length s = omega (arith, byte_below n i l) in ap (λ (x : ℕ). x / 2 ^ (i % 8) % 2) (get_or-append s u 0 (i / 8) e))

-- bytes of 0 have bits 0
zeros_map : (f : ℕ → ℕ) → ((c : ℕ) → f c ≡ 0) → (k n : ℕ) → map f (from k n) ≡ replicate n 0
unfolding from
zeros_map f h k zero = refl
zeros_map f h k (suc n) = cons_eq (h k) (zeros_map f h (suc k) n)

pub unpack_zeros : (n m : ℕ) → unpack n (replicate m 0) ≡ replicate n 0
unfolding unpack
unpack_zeros n m = zeros_map (bit_at (replicate m 0)) (bit_zeros m) 0 n

-- row j + i is row i of the list from row j on
row_add : (n j i : ℕ) (w : List ℕ) → row_of n w (j + i) ≡ row_of n (drop (j * bytes_for n) w) i
unfolding row_of
row_add n j i w =
    ap (take (bytes_for n)) (ap (λ (k : ℕ). drop k w) (add-mul j i (bytes_for n)) ∙ sym (drop-drop (i * bytes_for n) (j * bytes_for n) w))

rows_from : (n j i k : ℕ) (w : List ℕ)
    → map (λ r. unpack n (row_of n w r)) (from (j + i) k) ≡ map (λ r. unpack n (row_of n (drop (j * bytes_for n) w) r)) (from i k)
unfolding from
rows_from n j i zero w = refl
rows_from n j i (suc k) w =
    ap₂ (λ (x : List ℕ) (xs : Matrix). x ∷ xs) (ap (unpack n) (row_add n j i w))
    (ap (λ (x : ℕ). map (λ r. unpack n (row_of n w r)) (from x k)) (sym (add-suc j i)) ∙ rows_from n j (suc i) k w)

pub rows_add : (j k n : ℕ) (w : List ℕ) → rows_of (j + k) n w ≡ rows_of j n w ++ rows_of k n (drop (j * bytes_for n) w)
unfolding rows_of
rows_add j k n w =
    let row : ℕ → List ℕ = λ r. unpack n (row_of n w r) in
    ap (map row) (from-add 0 j k) ∙ map-append row (from 0 j) (from (0 + j) k)
    ∙ ap (λ (xs : Matrix). map row (from 0 j) ++ xs)
    (ap (λ (x : ℕ). map row (from x k)) (add_comm 0 j) ∙ rows_from n j 0 k w)

pub rows_one : (n : ℕ) (w : List ℕ) → rows_of 1 n w ≡ unpack n w ∷ []
unfolding rows_of row_of from
rows_one n w =
    ap (λ (r : List ℕ). r ∷ [])
    (unpack-take n (bytes_for n) (drop (0 * bytes_for n) w) (omega arith) ∙ ap (λ (k : ℕ). unpack n (drop k w)) (zero-mul (bytes_for n)))

pub rows_cons : (k n : ℕ) (w : List ℕ) → rows_of (suc k) n w ≡ unpack n w ∷ rows_of k n (drop (bytes_for n) w)
rows_cons k n w =
    let e : suc k ≡ 1 + k = omega arith in
    ap (λ (i : ℕ). rows_of i n w) e ∙ rows_add 1 k n w
    ∙ ap₂ (λ (xs : Matrix) (b : ℕ). xs ++ rows_of k n (drop b w)) (rows_one n w) (one-mul (bytes_for n))

pub rows_snoc : (k n : ℕ) (w : List ℕ) → rows_of (k + 1) n w ≡ rows_of k n w ++ (unpack n (drop (k * bytes_for n) w) ∷ [])
rows_snoc k n w = rows_add k 1 n w ∙ ap (λ (xs : Matrix). rows_of k n w ++ xs) (rows_one n (drop (k * bytes_for n) w))

pub length_rows : (k n : ℕ) (w : List ℕ) → length (rows_of k n w) ≡ k
unfolding rows_of
length_rows k n w = length-map (from 0 k) (λ r. unpack n (row_of n w r)) ∙ length_from 0 k

-- rows that lie in the front of a list
pub rows_append : (k n : ℕ) (a c : List ℕ) → k * bytes_for n ≤ length a → rows_of k n (a ++ c) ≡ rows_of k n a
unfolding rows_of from
rows_append zero n a c h = refl
rows_append (suc k) n a c h =
    let b : ℕ = bytes_for n in
    let e : suc k * b ≡ k * b + b = suc-mul k b in
    let l : b ≤ length a = omega arith in
    rows_cons k n (a ++ c)
    ∙ ap₂ (λ (x : List ℕ) (xs : Matrix). x ∷ xs) (unpack-append n a c l)
    (ap (rows_of k n) (drop-append-le b a c l) ∙ rows_append k n (drop b a) c (omega (arith, length-drop b a)))
    ∙ sym (rows_cons k n a)

pub rows_front : (k n at : ℕ) (w y : List ℕ) → k * bytes_for n ≤ at → at ≤ length w → rows_of k n (take at w ++ y) ≡ rows_of k n w
rows_front k n at w y h l =
    let e : k * bytes_for n ≤ length (take at w) = omega (arith, length-take-le at w l) in
    rows_append k n (take at w) y e ∙ sym (rows_append k n (take at w) (drop at w) e) ∙ ap (rows_of k n) (take-append-drop at w)

-- a whole number of bytes
pub bytes_whole : (k : ℕ) → bytes_for (8 * k) ≡ k
unfolding bytes_for
bytes_whole k = omega arith

-- the first n bits of more
pub take-unpack : (n k : ℕ) (s : List ℕ) → n ≤ k → take n (unpack k s) ≡ unpack n s
take-unpack n k s h =
    let e : k ≡ n + (k - n) = omega arith in
    ap (λ (i : ℕ). take n (unpack i s)) e
    ∙ ap (take n) (unpack-add n (k - n) s)
    ∙ take_at (unpack n s) (map (bit_at s) (from n (k - n))) n (length-unpack n s)
