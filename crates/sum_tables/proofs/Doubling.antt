-- A table of rows of bytes, doubled row by row. Assumes nothing.
use mathlib.Core.Path.{◌≡◌, sym, ap, ap₂, ◌∙◌, subst}
use mathlib.Core.List.{List, [], ◌∷◌, ◌++◌, map, map-append, map-map}
use Prim.Native.Nat.{ℕ, suc, ◌+◌, ◌*◌, ◌^◌, ◌≤◌, ◌<◌}
use native.Mathlib.Nat.{zero-add, zero-mul, one-mul, add-mul, pow-suc, mul-le-mul_right, le_trans}
use native.Mathlib.Omega.{arith}
use lib.Pow.{pow_pos, pow_mono}
use lib.ListN.{length, drop, replicate, length-map, length-replicate}
use lib.Seq.{drop-drop}
use Rattle.bits.specs.Bits.{from, bytes_for, unpack, over}
use Rattle.bits.proofs.Lists.{length_from, map-from, from-add}
use Rattle.bits.proofs.Pack.{row_unpack}
use Rattle.code.specs.PublicKey.{Matrix}
use Rattle.code.specs.Lock.{rows_of}
use Rattle.code.proofs.Kernel.{Rows}
use Rattle.code.proofs.PackedRows.{rows_one, unpack-append, unpack_zeros}
use Rattle.small_key.specs.Sums.{table_row}
use Rattle.small_key.proofs.ByInverse.{rows_from}
use Rattle.small_key.proofs.Sums.{table_low, table_high}
use Rattle.sum_tables.specs.Apart.{plus, rows_apart}

-- of no rows
pub table_start : (n step : ℕ) (t h : List ℕ) → rows_of 1 n (over (replicate (bytes_for n) 0) t) ≡ map (table_row n (rows_apart 0 n step h)) (from 0 1)
unfolding over table_row rows_apart from
table_start n step t h =
    let z : List ℕ = replicate (bytes_for n) 0 in
    rows_one n (over z t)
    ∙ ap (λ (x : List ℕ). x ∷ []) (unpack-append n z (drop (length z) t) (omega (arith, length-replicate {A = ℕ} (bytes_for n) 0)) ∙ unpack_zeros n (bytes_for n))

-- rows apart: their bits, their number, and one more
pub rows_bits : (k n step : ℕ) (h : List ℕ) → Rows n (rows_apart k n step h)
unfolding rows_apart
rows_bits k n step h = rows_from (λ r. unpack n (drop (r * step) h)) 0 k (λ i l. row_unpack n (drop (i * step) h))

pub length_apart : (k n step : ℕ) (h : List ℕ) → length (rows_apart k n step h) ≡ k
unfolding rows_apart
length_apart k n step h = length-map (from 0 k) (λ r. unpack n (drop (r * step) h)) ∙ length_from 0 k

pub apart_add : (j k n step : ℕ) (h : List ℕ) → rows_apart (j + k) n step h ≡ rows_apart j n step h ++ rows_apart k n step (drop (j * step) h)
unfolding rows_apart
apart_add j k n step h =
    let row : ℕ → List ℕ = λ r. unpack n (drop (r * step) h) in
    ap (map row) (from-add 0 j k) ∙ map-append row (from 0 j) (from (0 + j) k)
    ∙ ap (λ (rows : Matrix). map row (from 0 j) ++ rows)
    (map-from row (λ r. unpack n (drop (r * step) (drop (j * step) h))) (0 + j) 0 k
    (λ i l.
    ap (λ (x : ℕ). unpack n (drop ((x + i) * step) h)) (zero-add j)
    ∙ ap (λ (x : ℕ). unpack n (drop x h)) (add-mul j i step)
    ∙ ap (unpack n) (sym (drop-drop (i * step) (j * step) h))
    ∙ ap (λ (x : ℕ). unpack n (drop (x * step) (drop (j * step) h))) (sym (zero-add i))))

apart_snoc : (k n step : ℕ) (h : List ℕ) → rows_apart (k + 1) n step h ≡ rows_apart k n step h ++ (unpack n (drop (k * step) h) ∷ [])
unfolding rows_apart from
apart_snoc k n step h =
    apart_add k 1 n step h
    ∙ ap (λ (x : ℕ). rows_apart k n step h ++ (unpack n (drop x (drop (k * step) h)) ∷ [])) (zero-mul step)

-- of one row more
module _ (z n step half : ℕ) (t u h q : List ℕ) (power : half ≡ 2 ^ z) (row : unpack n q ≡ unpack n (drop (z * step) h))
    (was : rows_of half n t ≡ map (table_row n (rows_apart z n step h)) (from 0 half))
    (doubled : rows_of (half + half) n u ≡ rows_of half n t ++ map (plus (unpack n q)) (rows_of half n t)) where
  abbrev ps : Matrix
  ps = rows_apart z n step h

  abbrev p : List ℕ
  p = unpack n q

  more : rows_apart (z + 1) n step h ≡ ps ++ (p ∷ [])
  more = apart_snoc z n step h ∙ ap (λ (x : List ℕ). ps ++ (x ∷ [])) (sym row)

  count : half ≡ 2 ^ length ps
  count = power ∙ ap (λ (x : ℕ). 2 ^ x) (sym (length_apart z n step h))

  low : (i : ℕ) → i < half → table_row n (ps ++ (p ∷ [])) i ≡ table_row n ps i
  low i l = table_low i (subst (λ (x : ℕ). i < x) count l) (rows_bits z n step h) (row_unpack n q)

  high : (i : ℕ) → i < half → table_row n (ps ++ (p ∷ [])) (half + i) ≡ plus p (table_row n ps i)
  unfolding plus
  high i l =
      ap (λ (x : ℕ). table_row n (ps ++ (p ∷ [])) (x + i)) count
      ∙ table_high i (subst (λ (x : ℕ). i < x) count l) (rows_bits z n step h) (row_unpack n q)

  pub table_next : rows_of (half + half) n u ≡ map (table_row n (rows_apart (z + 1) n step h)) (from 0 (half + half))
  table_next =
      let f : ℕ → List ℕ = table_row n ps in
      let g : ℕ → List ℕ = table_row n (ps ++ (p ∷ [])) in
      doubled ∙ ap (λ (m : Matrix). m ++ map (plus p) m) was
      ∙ ap₂ (λ (x y : Matrix). x ++ y)
      (map-from f g 0 0 half (λ i l. ap f (zero-add i) ∙ sym (low i l) ∙ ap g (sym (zero-add i))))
      (map-map (plus p) f (from 0 half)
      ∙ map-from (λ i. plus p (f i)) g 0 (0 + half) half
      (λ i l. ap (λ (x : ℕ). plus p (f x)) (zero-add i) ∙ sym (high i l) ∙ ap (λ (x : ℕ). g (x + i)) (sym (zero-add half))))
      ∙ sym (ap (map g) (from-add 0 half half) ∙ map-append g (from 0 half) (from (0 + half) half))
      ∙ ap (λ (m : Matrix). map (table_row n m) (from 0 (half + half))) (sym more)

-- sizes
pub half_fits : (z c half : ℕ) → half ≡ 2 ^ z → z < c → c ≤ 8 → half + half ≤ 256
half_fits z c half e h l =
    let s : suc z ≤ 8 = omega arith in
    omega (arith, pow-suc 2 z, pow_mono s)

pub half_next : (z half : ℕ) → half ≡ 2 ^ z → half + half ≡ 2 ^ (z + 1)
half_next z half e = let s : z + 1 ≡ suc z = omega arith in rw s (omega (arith, pow-suc 2 z))

pub half_room : (z c half b len : ℕ) → half ≡ 2 ^ z → z < c → 2 ^ c * b ≤ len → half * b + half * b ≤ len
half_room z c half b len e h l =
    let s : half + half ≤ 2 ^ c = rw (half_next z half e) (pow_mono (omega arith)) in
    le_trans (subst (λ (x : ℕ). x ≤ 2 ^ c * b) (add-mul half half b) (mul-le-mul_right b s)) l

pub first-room : (c b len : ℕ) → 2 ^ c * b ≤ len → b ≤ len
first-room c b len l = le_trans (subst (λ (x : ℕ). x ≤ 2 ^ c * b) (one-mul b) (mul-le-mul_right b (pow_pos c))) l
