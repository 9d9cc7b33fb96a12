-- The multiples of points as the code makes them, and the product with a point as a sum of them. Assumes nothing.
use mathlib.Core.Path.{◌≡◌, refl, sym, ap, ap₂, ◌∙◌}
use mathlib.Core.Bool.{false}
use mathlib.Core.List.{List, ◌++◌, append-nil}
use Prim.Native.Nat.{ℕ, zero, suc, ◌+◌, ◌-◌, ◌*◌, ◌/◌, ◌%◌, ◌^◌, ◌≤◌, ◌<◌}
use native.Mathlib.Nat.{add-zero, le_of_eq, mul-mod_left, mod-eq_of_lt, mod-lt, mod-one, zero-add, pow-suc, le_of_suc-le-suc, zero-mul}
use native.Mathlib.Numerals.{add-one, one-add}
use native.Mathlib.Omega.{arith}
use lib.Pow.{pow_pos, pow_mono, pow-lt, pow-add, mod-pow-add, mod-mod-pow}
use lib.ListN.{length, get_or, take, set, replicate, length-take, get_or-eq_default}
use lib.Seq.{ext_get_or, get_or-take, set-get_or, take_all}
use Rattle.bits.specs.Xor.{◌⊕◌}
use Rattle.bits.specs.Bits.{from, each_with, padded}
use Rattle.bits.proofs.Xor.{low, xor_comm, zero_xor, xor_shifted}
use Rattle.bits.proofs.Lists.{from_at, length_from, length-map-from, map-from-at}
use Rattle.bits.proofs.Each.{length-each_with, each_with-nil, each_with-suc, each_with-take, each_with-at}
use Rattle.bits.proofs.Padded.{padded-start, padded-next, padded-at}
use Rattle.field.specs.Field.{is_width, modulus_of, mul}
use Rattle.field.specs.Poly.{horner_each}
use Rattle.field.proofs.Horner.{Additive, additive_zero, additive_digit, xtime, horner, horner_pad, mul_mod_horner}
use Rattle.field.proofs.Table.{Width, width_narrow}
use Rattle.field.proofs.Laws.{mul_at, mul_none, mul_comm, mul-add, low-mul, mul-lt, mul-zero, one_mul-low, zero-mul as zero-mul-field}
use Rattle.field.proofs.Places.{horner_each_width}
use Rattle.field.specs.PointTable.{multiples_of, digit_sum, combination, combine_each}

-- an additive map of r's k low digits is the sum of its values at their powers
module _ (g : ℕ → ℕ) (h : Additive g) where
  pub digit_sum_additive : (k r : ℕ) → digit_sum k (λ j. g (2 ^ j)) r ≡ g (r % 2 ^ k)
  unfolding digit_sum
  digit_sum_additive zero r = sym (ap g (mod-one r) ∙ additive_zero g h)
  digit_sum_additive (suc k) r =
      ap₂ ◌⊕◌ (digit_sum_additive k r) (sym (additive_digit g h (low (r / 2 ^ k)) (2 ^ k)))
      ∙ sym (h (r % 2 ^ k) (r / 2 ^ k % 2 * 2 ^ k))
      ∙ ap g (xor_comm (r % 2 ^ k) (r / 2 ^ k % 2 * 2 ^ k) ∙ xor_shifted (r / 2 ^ k % 2) k (r % 2 ^ k) (mod-lt r (pow_pos k))
      ∙ sym (mod-pow-add r 1 k) ∙ ap (λ (n : ℕ). r % 2 ^ n) (one-add k))

pub digit_sum-same : (k : ℕ) (u v : ℕ → ℕ) (r : ℕ) → ((j : ℕ) → j < k → u j ≡ v j) → digit_sum k u r ≡ digit_sum k v r
unfolding digit_sum
digit_sum-same zero u v r e = refl
digit_sum-same (suc k) u v r e =
    ap₂ ◌⊕◌ (digit_sum-same k u v r (λ j l. e j (omega arith))) (ap (◌*◌ (r / 2 ^ k % 2)) (e k (omega arith)))

-- one digit more
pub digit_sum_none : (v : ℕ → ℕ) (r : ℕ) → 0 ≡ digit_sum 0 v r
unfolding digit_sum
digit_sum_none v r = refl

pub digit_sum-next : (v : ℕ → ℕ) (k r : ℕ) → digit_sum k v r ⊕ r / 2 ^ k % 2 * v k ≡ digit_sum (k + 1) v r
unfolding digit_sum
digit_sum-next v k r = ap (λ (n : ℕ). digit_sum n v r) (sym (add-one k))

-- the next multiple, as the code makes it
abbrev pub doubled : ℕ → ℕ → ℕ → ℕ
doubled m f v = v * 2 % 65536 ⊕ v * 2 % 65536 / 2 ^ m % 2 * f

doubled_xtime : (m f v : ℕ) → m < 14 → v < 2 ^ m → doubled m f v ≡ xtime m f v
unfolding xtime
doubled_xtime m f v s h =
    let e : v * 2 % 65536 ≡ v * 2 = mod-eq_of_lt (omega (arith, pow_mono (le_of_suc-le-suc s))) in
    ap (λ (d : ℕ). d ⊕ d / 2 ^ m % 2 * f) e

horner_double : (m f k j v : ℕ) → j < k → xtime m f (horner m f (k + 1) (2 ^ j) v) ≡ horner m f (suc k) (2 ^ suc j) v
unfolding horner
horner_double m f k j v h =
    let even : 2 ^ suc j % 2 ≡ 0 = omega (arith, pow-suc 2 j) in
    let half : 2 ^ suc j / 2 ≡ 2 ^ j = omega (arith, pow-suc 2 j) in
    ap (xtime m f) (horner_pad m f k 1 (2 ^ j) v (pow-lt h))
    ∙ sym (ap₂ ◌⊕◌ (ap (λ (d : ℕ). d * v) even ∙ zero-mul v) (ap (λ (b : ℕ). xtime m f (horner m f k b v)) half) ∙ zero_xor _)

module _ (m : ℕ) (w : Width m) (x : ℕ) where
  as_horner : (b : ℕ) → mul m x b ≡ horner m (modulus_of m) m b (x % 2 ^ m)
  as_horner b = mul_at m w x b ∙ mul_mod_horner m (modulus_of m) x b

  pub mul_double : (j : ℕ) → suc j < m → xtime m (modulus_of m) (mul m x (2 ^ j)) ≡ mul m x (2 ^ suc j)
  mul_double j h =
      let e : m ≡ m - 1 + 1 = omega arith in
      let s : suc (m - 1) ≡ m = omega arith in
      let f : ℕ = modulus_of m in
      ap (xtime m f) (as_horner (2 ^ j) ∙ ap (λ (n : ℕ). horner m f n (2 ^ j) (x % 2 ^ m)) e)
      ∙ horner_double m f (m - 1) j (x % 2 ^ m) (omega arith)
      ∙ ap (λ (n : ℕ). horner m f n (2 ^ suc j) (x % 2 ^ m)) s ∙ sym (as_horner (2 ^ suc j))

  -- past the field's digits
  pub mul_past : (j : ℕ) → m ≤ j → mul m x (2 ^ j) ≡ 0
  mul_past j h =
      let e : j ≡ j - m + m = omega arith in
      sym (low-mul m x (2 ^ j))
      ∙ ap (mul m x) (ap (λ (n : ℕ). 2 ^ n % 2 ^ m) e ∙ ap (λ (n : ℕ). n % 2 ^ m) (pow-add 2 (j - m) m) ∙ mul-mod_left (2 ^ (j - m)) (2 ^ m))
      ∙ mul-zero m x

  pub mul-first : mul m x (2 ^ 0) ≡ x % 2 ^ m
  mul-first = mul_comm m x 1 ∙ one_mul-low m w x

  -- the next multiple
  pub doubled-mul : (f j v : ℕ) → f ≡ modulus_of m → suc j < m → v ≡ mul m x (2 ^ j) → doubled m f v ≡ mul m x (2 ^ suc j)
  doubled-mul f j v e h k =
      ap₂ (doubled m) e k ∙ doubled_xtime m (modulus_of m) (mul m x (2 ^ j)) (width_narrow m w) (mul-lt m x (2 ^ j)) ∙ mul_double j h

  -- a product as the sum of 13 multiples
  pub digit_sum-mul : (v : ℕ → ℕ) → ((j : ℕ) → j < 13 → v j ≡ mul m x (2 ^ j)) → (r : ℕ) → digit_sum 13 v r ≡ mul m x r
  digit_sum-mul v at r =
      let n : m < 14 = width_narrow m w in
      let e : 13 ≡ 13 - m + m = omega arith in
      digit_sum-same 13 v (λ j. mul m x (2 ^ j)) r at
      ∙ digit_sum_additive (mul m x) (mul-add m x) 13 r
      ∙ sym (low-mul m x (r % 2 ^ 13))
      ∙ ap (mul m x) (ap (λ (k : ℕ). r % 2 ^ k % 2 ^ m) e ∙ mod-mod-pow r (13 - m) m)
      ∙ low-mul m x r

module _ (m : ℕ) (a : List ℕ) where
  pub length_multiples : length (multiples_of m a) ≡ 832
  unfolding multiples_of
  length_multiples = length-map-from (λ q. mul m (get_or a (q % 64) 0) (2 ^ (q / 64))) 0 832

  pub multiples_at : (q : ℕ) → q < 832 → get_or (multiples_of m a) q 0 ≡ mul m (get_or a (q % 64) 0) (2 ^ (q / 64))
  unfolding multiples_of
  multiples_at q h =
      map-from-at (λ q. mul m (get_or a (q % 64) 0) (2 ^ (q / 64))) 0 832 q 0 h
      ∙ ap (λ (q : ℕ). mul m (get_or a (q % 64) 0) (2 ^ (q / 64))) (zero-add q)

-- zeros that follow need not be written
module _ (n : ℕ) (l : List ℕ) (b : n ≤ length l) where
  zero-next : (i : ℕ) → i < n → get_or l i 0 ≡ 0 → padded n (take i l) ≡ padded n (take (i + 1) l)
  zero-next i h z =
      let p : List ℕ = padded n (take i l) in
      sym (set-get_or p i 0)
      ∙ ap (set p i) (padded-at n (take i l) i ∙ get_or-eq_default (take i l) 0 {n = i} (omega (arith, length-take i l)) ∙ sym z)
      ∙ padded-next n l i (omega arith) h

  zeros_next : (k i : ℕ) → i + k ≤ n → ((q : ℕ) → i ≤ q → q < i + k → get_or l q 0 ≡ 0) → padded n (take i l) ≡ padded n (take (i + k) l)
  zeros_next zero i h z = ap (λ (j : ℕ). padded n (take j l)) (sym (add-zero i))
  zeros_next (suc k) i h z =
      let e : i + 1 + k ≡ i + suc k = omega arith in
      zero-next i (omega arith) (z i (omega arith) (omega arith))
      ∙ zeros_next k (i + 1) (omega arith) (λ q p r. z q (omega arith) (omega arith))
      ∙ ap (λ (j : ℕ). padded n (take j l)) e

  pub padded_zeros : (i e : ℕ) → i ≤ e → e ≤ n → ((q : ℕ) → i ≤ q → q < e → get_or l q 0 ≡ 0) → padded n (take i l) ≡ padded n (take e l)
  padded_zeros i e h k z =
      let s : i + (e - i) ≡ e = omega arith in
      zeros_next (e - i) i (omega arith) (λ q p r. z q p (omega arith)) ∙ ap (λ (j : ℕ). padded n (take j l)) s

-- the table: row 0; a row more; all rows
module _ (m : ℕ) (a : List ℕ) where
  unfoldable pub made : ℕ → List ℕ
  made q = padded 832 (take q (multiples_of m a))

  enough : 832 ≤ length (multiples_of m a)
  enough = le_of_eq (sym (length_multiples m a))

  pub made-start : replicate 832 0 ≡ made 0
  unfolding made
  made-start = padded-start 832 (multiples_of m a)

  pub made-next : (q : ℕ) → q < 832 → set (made q) q (mul m (get_or a (q % 64) 0) (2 ^ (q / 64))) ≡ made (q + 1)
  unfolding made
  made-next q h =
      ap (set (made q) q) (sym (multiples_at m a q h)) ∙ padded-next 832 (multiples_of m a) q (omega (arith, length_multiples m a)) h

  made_zeros : (i e : ℕ) → i ≤ e → e ≤ 832 → ((q : ℕ) → i ≤ q → q < e → mul m (get_or a (q % 64) 0) (2 ^ (q / 64)) ≡ 0) → made i ≡ made e
  unfolding made
  made_zeros i e h k z =
      padded_zeros 832 (multiples_of m a) enough i e h k (λ q p r. multiples_at m a q (omega arith) ∙ z q p r)

  made_all : made 832 ≡ multiples_of m a
  unfolding made padded
  made_all =
      let l : List ℕ = multiples_of m a in
      let e : 832 - length l ≡ 0 = omega (arith, length_multiples m a) in
      ap (λ (x : List ℕ). x ++ replicate (832 - length x) 0) (take_all 832 l (le_of_eq (length_multiples m a)))
      ∙ ap (λ (k : ℕ). l ++ replicate k 0) e ∙ append-nil l

  pub multiples_none : is_width m ≡ false → replicate 832 0 ≡ multiples_of m a
  multiples_none n = made-start ∙ made_zeros 0 832 (omega arith) (omega arith) (λ q p r. mul_none m n _ _) ∙ made_all

  module _ (w : Width m) where
    pub first_next : (i : ℕ) → i < 64 → set (made i) i (get_or a i 0 % 2 ^ m) ≡ made (i + 1)
    first_next i h =
        let c : i % 64 ≡ i = omega arith in
        let j : i / 64 ≡ 0 = omega arith in
        ap (set (made i) i) (sym (mul-first m w (get_or a i 0)) ∙ ap₂ (λ (i j : ℕ). mul m (get_or a i 0) (2 ^ j)) (sym c) (sym j))
        ∙ made-next i (omega arith)

    pub first_all : (i : ℕ) → i ≤ 64 → (i < 64 → length a ≤ i) → made i ≡ made 64
    first_all i h l = made_zeros i 64 h (omega arith) λ q p r.
        let c : q % 64 ≡ q = omega arith in
        let k : length a ≤ i = l (omega arith) in
        ap (λ (x : ℕ). mul m x (2 ^ (q / 64))) (ap (λ (q : ℕ). get_or a q 0) c ∙ get_or-eq_default a 0 {n = q} (omega arith)) ∙ zero-mul-field m _

    rows_at : (q : ℕ) → 64 ≤ q → q < 832 → get_or (made q) (q - 64) 0 ≡ mul m (get_or a (q % 64) 0) (2 ^ (q / 64 - 1))
    unfolding made
    rows_at q h k =
        let c : (q - 64) % 64 ≡ q % 64 = omega arith in
        let j : (q - 64) / 64 ≡ q / 64 - 1 = omega arith in
        padded-at 832 (take q (multiples_of m a)) (q - 64) ∙ get_or-take q (multiples_of m a) (q - 64) 0 (omega arith)
        ∙ multiples_at m a (q - 64) (omega arith) ∙ ap₂ (λ (i j : ℕ). mul m (get_or a i 0) (2 ^ j)) c j

    pub rows_next : (q f : ℕ) → 64 ≤ q → q < 64 * m → f ≡ modulus_of m → set (made q) q (doubled m f (get_or (made q) (q - 64) 0)) ≡ made (q + 1)
    rows_next q f h k e =
        let n : m < 14 = width_narrow m w in
        let j : suc (q / 64 - 1) ≡ q / 64 = omega arith in
        let x : ℕ = get_or a (q % 64) 0 in
        ap (set (made q) q) (doubled-mul m w x f (q / 64 - 1) _ e (omega arith) (rows_at q h (omega arith)) ∙ ap (λ (j : ℕ). mul m x (2 ^ j)) j)
        ∙ made-next q (omega arith)

    pub rows_all : (q : ℕ) → 64 * m ≤ q → q ≤ 832 → made q ≡ multiples_of m a
    rows_all q h k = made_zeros q 832 k (omega arith) (λ q p r. mul_past m w _ (q / 64) (omega arith)) ∙ made_all

-- the first i places combined: none yet; one more; all
module _ (t : List ℕ) (c : ℕ) (r : List ℕ) where
  abbrev step : ℕ → ℕ → ℕ
  step x i = combination t i x ⊕ c

  unfoldable pub combined_to : ℕ → List ℕ
  combined_to i = each_with step r (take i (from 0 64))

  pub combined_start : r ≡ combined_to 0
  unfolding combined_to
  combined_start = sym (each_with-nil step r)

  pub combined_next : (i : ℕ) → i < 64 → i < length r → set (combined_to i) i (combination t i (get_or (combined_to i) i 0) ⊕ c) ≡ combined_to (i + 1)
  unfolding combined_to
  combined_next i h k =
      ap (λ (j : ℕ). set (combined_to i) i (step (get_or (combined_to i) i 0) j)) (sym (from_at 0 64 i 0 h ∙ zero-add i))
      ∙ each_with-suc step r (from 0 64) i (omega (arith, length_from 0 64)) k ∙ ap combined_to (sym (add-one i))

  pub combined_all : (i : ℕ) → (i < 64 → length r ≤ i) → combined_to i ≡ combine_each t c r
  unfolding combined_to combine_each
  combined_all i h = each_with-take step r (from 0 64) i (λ l. h (omega (arith, l, length_from 0 64)))

-- the sum over 13 digits
pub combination-digits : (t : List ℕ) (i r : ℕ) → digit_sum 13 (λ j. get_or t (64 * j + i) 0) r ≡ combination t i r
unfolding combination
combination-digits t i r = refl

-- the product with a point as a sum of its multiples
module _ (m : ℕ) (w : Width m) (a : List ℕ) where
  pub combination-mul : (i : ℕ) → i < 64 → (r : ℕ) → combination (multiples_of m a) i r ≡ mul m (get_or a i 0) r
  unfolding combination
  combination-mul i h r = digit_sum-mul m w (get_or a i 0) _ at r
    where
      at : (j : ℕ) → j < 13 → get_or (multiples_of m a) (64 * j + i) 0 ≡ mul m (get_or a i 0) (2 ^ j)
      at j l =
          let c : (64 * j + i) % 64 ≡ i = omega arith in
          let d : (64 * j + i) / 64 ≡ j = omega arith in
          multiples_at m a (64 * j + i) (omega arith) ∙ ap₂ (λ (i j : ℕ). mul m (get_or a i 0) (2 ^ j)) c d

  -- one step of Horner's rule by the table
  pub combine_each_horner : (c : ℕ) (r : List ℕ) → length r ≤ length a → length r ≤ 64 → combine_each (multiples_of m a) c r ≡ horner_each m c r a
  unfolding combine_each
  combine_each_horner c r l h =
      let t : List ℕ = multiples_of m a in
      let step : ℕ → ℕ → ℕ = λ x i. combination t i x ⊕ c in
      let e : length (each_with step r (from 0 64)) ≡ length r = length-each_with step r (from 0 64) in
      ext_get_or 0 (each_with step r (from 0 64)) (each_with (λ x y. mul m x y ⊕ c) r a) (e ∙ sym (length-each_with (λ x y. mul m x y ⊕ c) r a))
      (λ i k.
      each_with-at step r (from 0 64) i (omega arith) (omega (arith, length_from 0 64))
      ∙ ap (λ (j : ℕ). combination t j (get_or r i 0) ⊕ c) (from_at 0 64 i 0 (omega arith) ∙ zero-add i)
      ∙ ap (λ (x : ℕ). x ⊕ c) (combination-mul i (omega arith) (get_or r i 0) ∙ mul_comm m (get_or a i 0) (get_or r i 0))
      ∙ sym (each_with-at (λ x y. mul m x y ⊕ c) r a i (omega arith) (omega arith)))
      ∙ sym (horner_each_width m c r a w)
