-- A row times the columns of a block is a sum of the rows of H for that part of the support. Assumes nothing.
use mathlib.Core.Path.{◌≡◌, refl, sym, ap, ap₂, ◌∙◌}
use mathlib.Core.List.{List, [], ◌∷◌, map, map-map}
use Prim.Native.Nat.{ℕ, ◌+◌, ◌*◌, ◌/◌, ◌%◌, ◌^◌, ◌≤◌, ◌<◌}
use native.Mathlib.Omega.{arith}
use lib.ListN.{length, get_or, take, drop, replicate, length-drop}
use lib.Seq.{length-take-le, get_or-take, get_or-drop, ext_get_or}
use Rattle.bits.specs.Xor.{◌⊕◌}
use Rattle.bits.specs.Bits.{from, each_with, xor_row, dot}
use Rattle.bits.proofs.Lists.{cons_eq, length_from, length-map-from, map-from, map-from-at}
use Rattle.key.specs.Keys.{Key, key_of, goppa_at}
use Rattle.code.specs.Code.{entry, parity_row, parity_rows}
use Rattle.code.specs.PublicKey.{Matrix}
use Rattle.small_key.specs.Inverse.{parity_column}
use Rattle.small_key.specs.Sums.{sum_rows}

-- products with columns, as a sum of rows
map_zeros : (cs : List ℕ) → map {B = ℕ} (λ c. 0) cs ≡ replicate (length cs) 0
map_zeros [] = refl
map_zeros (c ∷ cs) = cons_eq refl (map_zeros cs)

add_maps : (d : ℕ) (f g : ℕ → ℕ) (cs : List ℕ) → map (λ c. d * f c ⊕ g c) cs ≡ xor_row (map (◌*◌ d) (map f cs)) (map g cs)
unfolding xor_row each_with
add_maps d f g [] = refl
add_maps d f g (c ∷ cs) = cons_eq refl (add_maps d f g cs)

dot_none : (s : List ℕ) → dot s [] ≡ 0
unfolding dot
dot_none [] = refl
dot_none (x ∷ s) = refl

pub product-sum : (f : ℕ → ℕ → ℕ) (cs s is : List ℕ) → map (λ c. dot s (map (λ r. f r c) is)) cs ≡ sum_rows (length cs) s (map (λ r. map (f r) cs) is)
unfolding sum_rows dot
product-sum f cs [] is = map_zeros cs
product-sum f cs (d ∷ s) [] = map_zeros cs
product-sum f cs (d ∷ s) (i ∷ is) =
    add_maps d (f i) (λ c. dot s (map (λ r. f r c) is)) cs ∙ ap (xor_row (map (◌*◌ d) (map (f i) cs))) (product-sum f cs s is)

-- w numbers from place a on
part-numbers : (l : List ℕ) (a w : ℕ) → a + w ≤ length l → take w (drop a l) ≡ map (λ c. get_or l c 0) (from a w)
part-numbers l a w h =
    let e : length (take w (drop a l)) ≡ w = length-take-le w (drop a l) (omega (arith, length-drop a l)) in
    ext_get_or 0 (take w (drop a l)) (map (λ c. get_or l c 0) (from a w)) (e ∙ sym (length-map-from (λ c. get_or l c 0) a w))
    (λ i k. let b : i < w = rw e at k in get_or-take w (drop a l) i 0 b ∙ get_or-drop a l i 0 ∙ sym (map-from-at (λ c. get_or l c 0) a w i 0 b))

-- a row times w columns from column a on is the sum of the rows of H for that part of the support
module _ (k : Key) (degree : k.t ≡ length k.g) (a w : ℕ) (h : a + w ≤ length k.support) where
  abbrev pub block_key : Key
  block_key = key_of k.m (take w (drop a k.support)) k.g

  block_row : (r : ℕ) → map (λ c. entry k (r / k.m) (get_or k.support c 0) / 2 ^ (r % k.m) % 2) (from a w) ≡ parity_row block_key r
  unfolding parity_row key_of entry goppa_at
  block_row r =
      sym (ap (map (λ x. entry k (r / k.m) x / 2 ^ (r % k.m) % 2)) (part-numbers k.support a w h)
      ∙ map-map (λ x. entry k (r / k.m) x / 2 ^ (r % k.m) % 2) (λ c. get_or k.support c 0) (from a w))

  pub block_product : (s : List ℕ) → map (λ c. dot s (parity_column k c)) (from a w) ≡ sum_rows w s (parity_rows block_key)
  unfolding parity_column parity_rows key_of
  block_product s =
      product-sum (λ r c. entry k (r / k.m) (get_or k.support c 0) / 2 ^ (r % k.m) % 2) (from a w) s (from 0 (k.m * k.t))
      ∙ ap₂ (λ (x : ℕ) (rows : Matrix). sum_rows x s rows) (length_from a w)
      (map-from _ (parity_row block_key) 0 0 (k.m * k.t) (λ i b. block_row (0 + i)) ∙ ap (λ (x : ℕ). map (parity_row block_key) (from 0 (k.m * x))) degree)
