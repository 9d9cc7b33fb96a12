-- The columns of T one block after another: a block's bytes in the packed rows, and what other columns keep. Assumes nothing.
use mathlib.Core.Path.{◌≡◌, sym, ap, ap₂, ◌∙◌}
use mathlib.Core.Bool.{true}
use mathlib.Core.Logic.{◌⊎◌, inl, inr}
use mathlib.Core.List.{List, ◌++◌, map}
use Prim.Native.Nat.{ℕ, ◌+◌, ◌-◌, ◌*◌, ◌/◌, ◌%◌, ◌^◌, ◌≤◌, ◌<◌, min}
use native.Mathlib.Nat.{zero-add, mul-le-mul_right}
use native.Mathlib.Decide.{dec_lt}
use native.Mathlib.Omega.{arith}
use lib.ListN.{length, get_or, take, drop, replicate, length-map, length-drop, get_or-append}
use lib.Seq.{length-take-le, get_or-take, get_or-drop, drop_at, take_all}
use Rattle.bits.specs.Bits.{from, every, bytes_for, pack, number, dot}
use Rattle.bits.proofs.Lists.{length-map-from, map-from, map-from-part, map_at, every-at, every_all}
use Rattle.bits.proofs.Pack.{pack-at}
use Rattle.bits.proofs.Parts.{rows_in}
use Rattle.field.specs.Answers.{is_unit}
use Rattle.field.proofs.Table.{Width}
use Rattle.poly.specs.Polynomials.{each_value}
use Rattle.poly.proofs.AtPoints.{take_each}
use Rattle.key.specs.Keys.{key_of, goppa_at}
use Rattle.code.specs.Code.{entry}
use Rattle.small_key.specs.Inverse.{parity_column}
use Rattle.block_product.specs.Blocks.{right_row}
use Rattle.column_blocks.specs.Tails.{tail_row}

-- g's values at the points, as they are worked out
pub each_goppa : (m : ℕ) → Width m → (s g : List ℕ) (k : ℕ) → length s ≤ k → take (length s) (each_value m g (replicate k 1) s) ≡ map (goppa_at (key_of m s g)) s
unfolding goppa_at key_of
each_goppa m w s g k h = take_each m w g s k h

-- w points from point j on
module _ (m : ℕ) (points g : List ℕ) (j w : ℕ) (within : j + w ≤ length points) where
  abbrev pub part : List ℕ
  part = take w (drop j points)

  pub length_part : length part ≡ w
  length_part = length-take-le w (drop j points) (omega (arith, length-drop j points))

  point_of_lem : (c : ℕ) → c < w → get_or part c 0 ≡ get_or points (j + c) 0
  point_of_lem c h = get_or-take w (drop j points) c 0 h ∙ get_or-drop j points c 0

  -- no g(α) is 0 there either
  pub units_part : every (is_unit m) (map (goppa_at (key_of m points g)) points) ≡ true → every (is_unit m) (map (goppa_at (key_of m part g)) part) ≡ true
  unfolding goppa_at key_of
  units_part e =
      let f : ℕ → ℕ = goppa_at (key_of m points g) in
      every_all (is_unit m) (map f part) 0
      (λ i h.
      let l : i < w = omega (arith, length-map part f, length_part) in
      let b : j + i < length (map f points) = omega (arith, length-map points f) in
      ap (is_unit m)
      (map_at f part i 0 0 (omega (arith, length_part)) ∙ ap f (point_of_lem i l) ∙ sym (map_at f points (j + i) 0 0 (omega arith)))
      ∙ every-at (is_unit m) (map f points) e (j + i) 0 b)

  column_part : (c : ℕ) → c < w → parity_column (key_of m part g) c ≡ parity_column (key_of m points g) (j + c)
  unfolding parity_column key_of entry goppa_at
  column_part c h =
      ap (λ (a : ℕ). map (λ r. entry (key_of m points g) (r / m) a / 2 ^ (r % m) % 2) (from 0 (m * length g))) (point_of_lem c h)

  -- the block's columns of row i
  tail_part : (rows : ℕ) (work : List ℕ) (i : ℕ) → tail_row m part g rows work i ≡ map (λ c. dot (right_row rows work i) (parity_column (key_of m points g) c)) (from j w)
  unfolding tail_row
  tail_part rows work i =
      let s : List ℕ = right_row rows work i in
      ap (λ (x : ℕ). map (λ c. dot s (parity_column (key_of m part g) c)) (from 0 x)) length_part
      ∙ map-from (λ c. dot s (parity_column (key_of m part g) c)) (λ c. dot s (parity_column (key_of m points g) c)) 0 j w
      (λ c h. ap (λ (x : ℕ). dot s (parity_column (key_of m part g) x)) (zero-add c) ∙ ap (dot s) (column_part c h))

-- at most c numbers from place a on
part_min : (f : ℕ → ℕ) (k n a c : ℕ) → a ≤ n → take c (drop a (map f (from k n))) ≡ map f (from (k + a) (min c (n - a)))
part_min f k n a c h = shorter ∙ map-from-part f k n a (min c (n - a)) (omega arith)
  where
    l : List ℕ
    l = drop a (map f (from k n))

    long : length (drop a (map f (from k n))) ≡ n - a
    long = length-drop a (map f (from k n)) ∙ ap (λ (x : ℕ). x - a) (length-map-from f k n)

    go : Dec (n - a < c) → take c (drop a (map f (from k n))) ≡ take (min c (n - a)) (drop a (map f (from k n)))
    go (yes b) =
        let e : min c (n - a) ≡ n - a = omega arith in
        take_all c (drop a (map f (from k n))) (omega (arith, long))
        ∙ sym (ap (λ (x : ℕ). take x (drop a (map f (from k n)))) e ∙ take_all (n - a) (drop a (map f (from k n))) (omega (arith, long)))
    go (no b) = let e : c ≡ min c (n - a) = omega arith in ap (λ (x : ℕ). take x (drop a (map f (from k n)))) e

    shorter : take c (drop a (map f (from k n))) ≡ take (min c (n - a)) (drop a (map f (from k n)))
    shorter = go (dec_lt (n - a) c)

byte_of : (f : ℕ → ℕ) (k n x : ℕ) → 8 * x ≤ n → get_or (pack (map f (from k n))) x 0 ≡ number (map f (from (k + 8 * x) (min 8 (n - 8 * x))))
byte_of f k n x h = pack-at (map f (from k n)) x ∙ ap number (part_min f k n (8 * x) 8 h)

-- byte x of the w bits from bit j on is byte j/8 + x of all of them
pub byte_part : (f : ℕ → ℕ) (n j w x : ℕ) → j + w ≤ n → j ≡ 8 * (j / 8) → (w < n - j → w ≡ 8 * (w / 8)) → x < bytes_for w
    → get_or (pack (map f (from j w))) x 0 ≡ get_or (pack (map f (from 0 n))) (j / 8 + x) 0
unfolding bytes_for
byte_part f n j w x h e g b =
    let k : ℕ = j / 8 in
    let s : j + 8 * x ≡ 0 + 8 * (k + x) = omega arith in
    byte_of f j w x (omega arith) ∙ ap₂ (λ (a c : ℕ). number (map f (from a c))) s (go (dec_lt w (n - j))) ∙ sym (byte_of f 0 n (k + x) (omega arith))
  where
    go : Dec (w < n - j) → min 8 (w - 8 * x) ≡ min 8 (n - 8 * (j / 8 + x))
    go (yes l) = omega (arith, g l)
    go (no l) = omega arith

-- a row of T goes by the row of the right half alone
pub tail_right : (m : ℕ) (points g : List ℕ) (rows : ℕ) (w w₀ : List ℕ) (i : ℕ) → right_row rows w i ≡ right_row rows w₀ i
    → tail_row m points g rows w i ≡ tail_row m points g rows w₀ i
unfolding tail_row
tail_right m points g rows w w₀ i e = ap (λ (s : List ℕ). map (λ c. dot s (parity_column (key_of m points g) c)) (from 0 (length points))) e

-- byte x of a block's row is a byte of T's
module _ (m : ℕ) (points g : List ℕ) (j w : ℕ) (within : j + w ≤ length points) where
  pub byte_tail : (rows : ℕ) (work : List ℕ) (i x : ℕ) → j ≡ 8 * (j / 8) → (w < length points - j → w ≡ 8 * (w / 8)) → x < bytes_for w
      → get_or (pack (tail_row m (part m points g j w within) g rows work i)) x 0 ≡ get_or (pack (tail_row m points g rows work i)) (j / 8 + x) 0
  unfolding tail_row
  byte_tail rows work i x e f h =
      let s : List ℕ = right_row rows work i in
      ap (λ (r : List ℕ). get_or (pack r) x 0) (tail_part m points g j w within rows work i)
      ∙ byte_part (λ c. dot s (parity_column (key_of m points g) c)) (length points) j w x within e f h

-- the bytes from `at` on of each row are put by way of the part y from `at` on; k of them in each row, `size` bytes apart
module _ (rows size at k : ℕ) (l₀ l y : List ℕ) (F : ℕ → List ℕ) (fits : at + k ≤ size) (room : at ≤ length l)
    (own : (i x : ℕ) → i < rows → x < k → get_or y (i * size + x) 0 ≡ get_or (F i) (at + x) 0)
    (kept : (z : ℕ) → ((i : ℕ) → i < rows → (z < i * size) ⊎ (i * size + k ≤ z)) → get_or y z 0 ≡ get_or (drop at l) z 0) where
  abbrev joined : List ℕ
  joined = take at l ++ y

  joined_behind : (z : ℕ) → get_or joined (at + z) 0 ≡ get_or y z 0
  joined_behind z = sym (get_or-drop at joined z 0) ∙ ap (λ (x : List ℕ). get_or x z 0) (drop_at (take at l) y at (length-take-le at l room))

  -- a byte that no row has there
  joined_kept : (p : ℕ) → ((u i : ℕ) → p ≡ at + u → i < rows → (u < i * size) ⊎ (i * size + k ≤ u)) → get_or joined p 0 ≡ get_or l p 0
  joined_kept p apart = go (dec_lt p at)
    where
      go : Dec (p < at) → get_or joined p 0 ≡ get_or l p 0
      go (yes b) = get_or-append (take at l) y 0 p (omega (arith, length-take-le at l room)) ∙ get_or-take at l p 0 b
      go (no b) =
          let u : ℕ = p - at in
          let e : p ≡ at + u = omega arith in
          ap (λ (x : ℕ). get_or joined x 0) e ∙ joined_behind u ∙ kept u (λ i h. apart u i e h) ∙ get_or-drop at l u 0 ∙ ap (λ (x : ℕ). get_or l x 0) (sym e)

  before_apart : (i z u j : ℕ) → z < at → i * size + z ≡ at + u → (u < j * size) ⊎ (j * size + k ≤ u)
  before_apart i z u j h e = go (dec_lt j i)
    where
      go : Dec (j < i) → (u < j * size) ⊎ (j * size + k ≤ u)
      go (yes b) = inr (omega (arith, rows_in j i size b))
      go (no b) = let m : i ≤ j = omega arith in inl (omega (arith, mul-le-mul_right size m))

  pub columns_inside : ((i z : ℕ) → i < rows → z < at → get_or l (i * size + z) 0 ≡ get_or (F i) z 0)
      → (i z : ℕ) → i < rows → z < at + k → get_or joined (i * size + z) 0 ≡ get_or (F i) z 0
  columns_inside done i z h b = go (dec_lt z at)
    where
      go : Dec (z < at) → get_or joined (i * size + z) 0 ≡ get_or (F i) z 0
      go (yes c) = joined_kept (i * size + z) (λ u j e m. before_apart i z u j c e) ∙ done i z h c
      go (no c) =
          let x : ℕ = z - at in
          let e : z ≡ at + x = omega arith in
          let p : i * size + z ≡ at + (i * size + x) = omega arith in
          ap (λ (q : ℕ). get_or joined q 0) p ∙ joined_behind (i * size + x) ∙ own i x h (omega arith) ∙ ap (λ (q : ℕ). get_or (F i) q 0) (sym e)

  pub columns_outside : ((p : ℕ) → rows * size ≤ p → get_or l p 0 ≡ get_or l₀ p 0) → (p : ℕ) → rows * size ≤ p → get_or joined p 0 ≡ get_or l₀ p 0
  columns_outside done p h = joined_kept p (λ u j e m. inr (omega (arith, rows_in j rows size m))) ∙ done p h

-- the widths of a block of columns, from column j on
module _ (rows n j : ℕ) (some : 0 < rows) (more : j < n) where
  abbrev pub most : ℕ
  most = min 512 (8 * bytes_for rows)

  abbrev pub width : ℕ
  width = min most (n - j)

  pub width_few : (0 < width) × (width ≤ 512) × (j + width ≤ n)
  unfolding bytes_for
  width_few = (omega arith, omega arith, omega arith)

  pub width_fits : bytes_for width ≤ bytes_for rows
  unfolding bytes_for
  width_fits = omega arith

  module _ (whole : j ≡ 8 * (j / 8)) where
    pub width_size : j / 8 + bytes_for width ≤ bytes_for n
    unfolding bytes_for
    width_size = omega arith

    pub width_whole : width < n - j → width ≡ 8 * (width / 8)
    unfolding bytes_for
    width_whole h = omega arith

    pub next-whole : j + width < n → j + width ≡ 8 * ((j + width) / 8)
    next-whole h = omega (arith, width_whole (omega arith))

    pub next_bytes : (x : ℕ) → 8 * x < j + width → x < j / 8 + bytes_for width
    unfolding bytes_for
    next_bytes x h = omega arith

pub byte_before : (x n : ℕ) → x < bytes_for n → 8 * x < n
unfolding bytes_for
byte_before x n h = omega arith
