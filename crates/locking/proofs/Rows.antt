-- Rows of a public key, each from its first byte on. Assumes nothing.
use mathlib.Core.Path.{◌≡◌, refl, sym, ap, ap₂, ◌∙◌}
use mathlib.Core.List.{List, [], ◌∷◌, ◌++◌, map, zip_with}
use Prim.Native.Nat.{ℕ, ◌+◌, ◌-◌, ◌*◌, ◌≤◌, ◌<◌}
use native.Mathlib.Nat.{zero-add}
use native.Mathlib.Omega.{arith}
use lib.ListN.{length, get_or, take, drop, replicate, length-map}
use lib.Seq.{take_at, drop_at}
use Rattle.bits.specs.Xor.{◌⊕◌}
use Rattle.bits.specs.Bits.{Row, from, bytes_for, bit_at, unpack, pack, filler_clear, over, dot, row_product}
use Rattle.bits.proofs.Xor.{digit_xor}
use Rattle.bits.proofs.Lists.{cons_eq, from_at, length_from}
use Rattle.bits.proofs.Bits.{bit_digit}
use Rattle.bits.proofs.Pack.{row_map, row_unpack, row_length, length-pack, length-unpack, unpack-add, unpack-pack, filler_take, well_formed-clear, well_formed-pack}
use Rattle.bits.proofs.Product.{dot_digit, row_product-bits}
use Rattle.bits.proofs.Parts.{part_all}
use Rattle.code.specs.Lock.{locked, row_of, rows_of}
use Rattle.code.specs.Lock as Lock
use Rattle.locking.specs.Locking.{capsule_bit}

-- the filler of row r, read in the part that starts at the row
pub row_filler : (rows w : ℕ) (public : List ℕ) (r : ℕ) → r < rows → (at : ℕ) → at ≡ r * bytes_for w
    → filler_clear w (row_of w public (get_or (from 0 rows) r 0)) ≡ filler_clear w (take (length public - at) (drop at public))
unfolding row_of
row_filler rows w public r h at e =
    ap (λ (i : ℕ). filler_clear w (row_of w public i)) (from_at 0 rows r 0 h ∙ zero-add r)
    ∙ filler_take w (drop (r * bytes_for w) public)
    ∙ ap (λ (i : ℕ). filler_clear w (drop i public)) (sym e) ∙ ap (filler_clear w) (sym (part_all at public))

-- the product of row r with the pattern's packed tail
pub product_tail : (w rows : ℕ) (public pattern : List ℕ) (r at size : ℕ) (tail : List ℕ) → at ≡ r * bytes_for w → size ≡ bytes_for w
    → tail ≡ over (pack (map (bit_at pattern) (from rows w))) (replicate 1024 0)
    → row_product (take (length (take size tail)) (drop at public)) (take size tail) ≡ dot (unpack w (row_of w public r)) (map (bit_at pattern) (from rows w))
unfolding row_of over
product_tail w rows public pattern r at size tail e f g =
    let bits : List ℕ = map (bit_at pattern) (from rows w) in
    let row : Row w bits = row_map (bit_at pattern) (bit_digit pattern) rows w in
    let long : length (pack bits) ≡ bytes_for w = length-pack bits ∙ ap bytes_for (row_length row) in
    let part : take size tail ≡ pack bits = ap₂ take f g ∙ take_at (pack bits) _ (bytes_for w) long in
    ap₂ (λ (i : ℕ) (t : List ℕ). row_product (take (length t) (drop i public)) t) e part
    ∙ ap (λ (n : ℕ). row_product (take n (drop (r * bytes_for w) public)) (pack bits)) long
    ∙ row_product-bits w (row_of w public r) (pack bits) long (well_formed-clear w (pack bits) (well_formed-pack row))
    ∙ ap (dot (unpack w (row_of w public r))) (unpack-pack row)

-- the capsule's bits
pub row_capsule : (w rows : ℕ) (public pattern : List ℕ) → Row rows (map (capsule_bit w rows public pattern) (from 0 rows))
unfolding capsule_bit
row_capsule w rows public pattern =
    row_map _ (λ r. digit_xor (bit_digit pattern r) (dot_digit (row_unpack w (row_of w public r)) (row_map (bit_at pattern) (bit_digit pattern) rows w))) 0 rows

-- a capsule's bits are [I|T]·e
zip-map : {A B : Type 0} (f : A → B → ℕ) (g : ℕ → A) (h : ℕ → B) (l : List ℕ) → zip_with f (map g l) (map h l) ≡ map (λ r. f (g r) (h r)) l
unfolding zip_with
zip-map f g h [] = refl
zip-map f g h (r ∷ l) = cons_eq refl (zip-map f g h l)

pub lock-bits : (m n t : ℕ) (public pattern : List ℕ) → m * t ≤ n
    → Lock.lock m n t public pattern ≡ pack (map (capsule_bit (n - m * t) (m * t) public pattern) (from 0 (m * t)))
unfolding Lock.lock locked rows_of capsule_bit unpack
lock-bits m n t public pattern h =
    let k : ℕ = m * t in
    let w : ℕ = n - m * t in
    let e : n ≡ k + w = omega arith in
    let rows : List (List ℕ) = map (λ r. unpack w (row_of w public r)) (from 0 k) in
    let size : length rows ≡ k = length-map (from 0 k) _ ∙ length_from 0 k in
    let long : length (unpack k pattern) ≡ k = length-unpack k pattern in
    let split : unpack n pattern ≡ unpack k pattern ++ map (bit_at pattern) (from k w) = ap (λ (i : ℕ). unpack i pattern) e ∙ unpack-add k w pattern in
    ap pack
    (ap₂ (λ (i : ℕ) (x : List ℕ). zip_with (λ b row. b ⊕ dot row (drop i x)) (take i x) rows) size split
    ∙ ap₂ (λ (x y : List ℕ). zip_with (λ b row. b ⊕ dot row y) x rows) (take_at (unpack k pattern) _ k long) (drop_at (unpack k pattern) _ k long)
    ∙ zip-map (λ b row. b ⊕ dot row (map (bit_at pattern) (from k w))) (bit_at pattern) (λ r. unpack w (row_of w public r)) (from 0 k))
