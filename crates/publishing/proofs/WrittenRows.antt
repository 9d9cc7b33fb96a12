-- The bits of each row behind its first ones, written row after row. Assumes nothing.
use mathlib.Core.Path.{◌≡◌, refl, sym, ap, ap₂, ◌∙◌}
use mathlib.Core.List.{List, [], ◌∷◌, ◌++◌, map, flat_map, map-append, append-nil, append_assoc}
use Prim.Native.Nat.{ℕ, zero, suc, ◌+◌, ◌-◌, ◌*◌, ◌/◌, ◌%◌, ◌^◌, ◌≤◌, ◌<◌}
use native.Mathlib.Nat.{zero-mul, mul_left_comm, mul-le-mul}
use native.Mathlib.Numerals.{add-one}
use native.Mathlib.Omega.{arith}
use lib.ListN.{length, get_or, take, drop, length-append}
use lib.Seq.{get_or-drop, take_at, drop_at, drop-drop}
use Rattle.bits.specs.Bits.{from, bytes_for, bit_at, unpack, pack, over}
use Rattle.bits.proofs.Lists.{map-from, length-map-from}
use Rattle.bits.proofs.Pack.{length-unpack, unpack-add, length-pack}
use Rattle.bits.proofs.Parts.{rows_in, next_row}
use Rattle.code.specs.PublicKey.{Matrix}
use Rattle.code.specs.Lock.{rows_of}
use Rattle.code.proofs.PackedRows.{rows_snoc}

-- bytes written behind those that were written from the start
over-next : (at : ℕ) (a b out : List ℕ) → length a ≡ at
    → take at (over a out) ++ over b (drop at (over a out)) ≡ over (a ++ b) out
unfolding over
over-next at a b out e =
    let rest : List ℕ = drop (length a) out in
    ap₂ (λ (x y : List ℕ). x ++ (b ++ drop (length b) y)) (take_at a rest at e) (drop_at a rest at e)
    ∙ ap (λ (x : List ℕ). a ++ (b ++ x)) (drop-drop (length b) (length a) out ∙ ap (λ (k : ℕ). drop k out) (sym (length-append a b)))
    ∙ sym (append_assoc a b (drop (length (a ++ b)) out))

flat_map_append : (f : List ℕ → List ℕ) (l r : Matrix) → flat_map f (l ++ r) ≡ flat_map f l ++ flat_map f r
unfolding flat_map
flat_map_append f [] r = refl
flat_map_append f (x ∷ l) r = ap (λ (t : List ℕ). f x ++ t) (flat_map_append f l r) ∙ sym (append_assoc (f x) (flat_map f l) (flat_map f r))

-- bit i of the bytes from index a on
bit_drop : (a : ℕ) (s : List ℕ) (i : ℕ) → bit_at (drop a s) i ≡ bit_at s (8 * a + i)
unfolding bit_at
bit_drop a s i =
    let e : a + i / 8 ≡ (8 * a + i) / 8 = omega arith in
    let f : i % 8 ≡ (8 * a + i) % 8 = omega arith in
    ap₂ (λ (x k : ℕ). x / 2 ^ k % 2) (get_or-drop a s (i / 8) 0 ∙ ap (λ (q : ℕ). get_or s q 0) e) f

-- row r of at most 8192 rows of at most 8192 bits ends before bit 2^27
pub row_place : (rows n r : ℕ) → rows ≤ n → n ≤ 8192 → r < rows → rows + (r * (8 * bytes_for n) + 8 * bytes_for n) ≤ 2 ^ 27
unfolding bytes_for
row_place rows n r h l k =
    let b : ℕ = 8 * ((n + 7) / 8) in
    let e : r * b + b ≤ rows * b = rows_in r rows b k in
    let x : rows ≤ 8192 = omega arith in
    let y : b ≤ 8192 = omega arith in
    let f : rows * b ≤ 8192 * 8192 = mul-le-mul x y in
    omega arith

module _ (rows n : ℕ) (w : List ℕ) where
  -- the bytes of the first r rows
  abbrev pub tails : ℕ → List ℕ
  tails r = flat_map pack (map (drop rows) (rows_of r n w))

  pub tails_none : (out : List ℕ) → out ≡ over (tails 0) out
  unfolding over flat_map rows_of from
  tails_none out = refl

  -- the bits of row r behind its first ones
  row_tail : (r : ℕ) → rows ≤ n
      → drop rows (unpack n (drop (r * bytes_for n) w)) ≡ map (bit_at w) (from (rows + r * (8 * bytes_for n)) (n - rows))
  row_tail r h =
      let s : List ℕ = drop (r * bytes_for n) w in
      let e : n ≡ rows + (n - rows) = omega arith in
      let place : (i : ℕ) → 8 * (r * bytes_for n) + (rows + i) ≡ rows + r * (8 * bytes_for n) + i =
      λ i. omega (arith, mul_left_comm r 8 (bytes_for n)) in
      ap (λ (k : ℕ). drop rows (unpack k s)) e
      ∙ ap (drop rows) (unpack-add rows (n - rows) s)
      ∙ drop_at (unpack rows s) (map (bit_at s) (from rows (n - rows))) rows (length-unpack rows s)
      ∙ map-from (bit_at s) (bit_at w) rows (rows + r * (8 * bytes_for n)) (n - rows)
      (λ i l. bit_drop (r * bytes_for n) w (rows + i) ∙ ap (bit_at w) (place i))

  -- one row more
  tails_next : (r : ℕ) → rows ≤ n → tails (r + 1) ≡ tails r ++ pack (map (bit_at w) (from (rows + r * (8 * bytes_for n)) (n - rows)))
  unfolding flat_map
  tails_next r h =
      let row : List ℕ = unpack n (drop (r * bytes_for n) w) in
      ap (λ (m : Matrix). flat_map pack (map (drop rows) m)) (rows_snoc r n w)
      ∙ ap (flat_map pack) (map-append (drop rows) (rows_of r n w) (row ∷ []))
      ∙ flat_map_append pack (map (drop rows) (rows_of r n w)) (drop rows row ∷ [])
      ∙ ap (λ (x : List ℕ). tails r ++ x) (append-nil (pack (drop rows row)) ∙ ap pack (row_tail r h))

  length_tails : (r : ℕ) → rows ≤ n → length (tails r) ≡ r * bytes_for (n - rows)
  unfolding flat_map rows_of from
  length_tails zero h = sym (zero-mul (bytes_for (n - rows)))
  length_tails (suc r) h =
      let bits : List ℕ = map (bit_at w) (from (rows + r * (8 * bytes_for n)) (n - rows)) in
      ap (λ (k : ℕ). length (tails k)) (sym (add-one r))
      ∙ ap length (tails_next r h)
      ∙ length-append (tails r) (pack bits)
      ∙ ap₂ ◌+◌ (length_tails r h) (length-pack bits ∙ ap bytes_for (length-map-from (bit_at w) (rows + r * (8 * bytes_for n)) (n - rows)))
      ∙ next_row r (bytes_for (n - rows))
      ∙ ap (λ (k : ℕ). k * bytes_for (n - rows)) (add-one r)

  -- as a loop over the rows writes them
  pub tails_over : (r at base : ℕ) (out out₀ : List ℕ) → rows ≤ n → at ≡ r * bytes_for (n - rows) → base ≡ rows + r * (8 * bytes_for n)
      → out ≡ over (tails r) out₀
      → take at out ++ over (pack (map (bit_at w) (from base (n - rows)))) (drop at out) ≡ over (tails (r + 1)) out₀
  tails_over r at base out out₀ h a b e =
      rw (a, b, e)
      (over-next (r * bytes_for (n - rows)) (tails r) _ out₀ (length_tails r h) ∙ ap (λ (x : List ℕ). over x out₀) (sym (tails_next r h)))
