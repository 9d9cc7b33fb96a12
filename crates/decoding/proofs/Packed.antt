-- A packed row with zeros behind it, written bit by bit. Assumes nothing.
use mathlib.Core.Path.{◌≡◌, refl, sym, ap, ◌∙◌}
use mathlib.Core.List.{List, [], ◌∷◌, ◌++◌, map}
use Prim.Native.Nat.{ℕ, zero, suc, ◌+◌, ◌-◌, ◌≤◌}
use native.Mathlib.Omega.{arith}
use lib.Dec.{eqb}
use lib.ListN.{length, get_or, take, drop, replicate, length-replicate, replicate-append-replicate}
use Rattle.bits.specs.Bits.{Bytes, Row, bytes_for, bit_at, put_bits, unpack, pack, ones, weight, over}
use Rattle.bits.proofs.Pack.{row_length, length-pack, bytes_pack, bit_pack, unpack_ext, unpack-pack}
use Rattle.decoder.proofs.Decoding.{row_marks as marks-row}
use Rattle.bits.proofs.Parts.{row_size}
use Rattle.decoding.specs.Parts.{mark, packed}
use Rattle.bits.proofs.Padded.{padded-at, length-padded, drop_zeros, over_zeros}
use Rattle.bits.proofs.PutBits.{put-over}

module _ {n : ℕ} {e : List ℕ} (r : Row n e) where
  pub length-packed : n ≤ 8192 → length (packed e) ≡ 1024
  unfolding packed
  length-packed h = length-padded 1024 (pack e) (rw (length-pack e, row_length r) (row_size n h))

  pub bit_packed : (i : ℕ) → bit_at (packed e) i ≡ get_or e i 0
  unfolding packed bit_at
  bit_packed i = rw padded-at (bit_pack r i)

  pub bytes_packed : Bytes (packed e)
  unfolding packed
  bytes_packed k = rw padded-at (bytes_pack r k)

  pub unpack-packed : unpack n (packed e) ≡ e
  unpack-packed = unpack_ext n (packed e) (pack e) (λ i h. bit_packed i ∙ sym (bit_pack r i)) ∙ unpack-pack r

  pub weight-packed : weight n (packed e) ≡ ones e
  unfolding weight
  weight-packed = ap ones unpack-packed

  -- the bits written into zeros
  pub packed-put : n ≤ 8192 → put_bits e 0 (replicate 1024 0) ≡ packed e
  unfolding packed over
  packed-put h =
      let b : ℕ = bytes_for n in
      let f : b + (1024 - b) ≡ 1024 = omega (arith, row_size n h) in
      let zeros : over (replicate b 0) (replicate 1024 0) ≡ replicate 1024 0 =
      ap (◌++◌ (replicate b 0)) (ap (λ (k : ℕ). drop k (replicate 1024 0)) (length-replicate b 0) ∙ drop_zeros b 1024)
      ∙ replicate-append-replicate b (1024 - b) 0
      ∙ ap (λ (k : ℕ). replicate k 0) f in
      ap (put_bits e 0) (sym zeros) ∙ put-over (replicate 1024 0) r ∙ over_zeros 1024 (pack e)

-- marks are bits
pub row_marks : (l : List ℕ) → Row (length l) (map mark l)
unfolding mark
row_marks l = marks-row (λ v. eqb v 0) l

-- marks of a part of the values
map-drop : (f : ℕ → ℕ) (j : ℕ) (l : List ℕ) → map f (drop j l) ≡ drop j (map f l)
map-drop f zero l = refl
map-drop f (suc j) [] = refl
map-drop f (suc j) (x ∷ l) = map-drop f j l

map-take : (f : ℕ → ℕ) (k : ℕ) (l : List ℕ) → map f (take k l) ≡ take k (map f l)
map-take f zero l = refl
map-take f (suc k) [] = refl
map-take f (suc k) (x ∷ l) = ap (◌∷◌ (f x)) (map-take f k l)

pub map-part : (f : ℕ → ℕ) (j k : ℕ) (l : List ℕ) → map f (take k (drop j l)) ≡ take k (drop j (map f l))
map-part f j k l = map-take f k (drop j l) ∙ ap (take k) (map-drop f j l)
