-- Row operations commute with linear maps: where a map of rows keeps the first m columns, the echelon form of the images of m rows is
-- the image of theirs. Assumes nothing.
use mathlib.Core.Path.{◌≡◌, refl, sym, ap, ap₂, ◌∙◌}
use mathlib.Core.Bool.{Bool, true, false, cond}
use mathlib.Core.List.{List, [], ◌∷◌, ◌++◌, map}
use Prim.Native.Nat.{ℕ, zero, suc, ◌+◌, ◌-◌, ◌*◌, ◌≤◌, ◌<◌}
use native.Mathlib.Nat.{zero-add}
use native.Mathlib.Omega.{arith}
use lib.Dec.{eqb}
use lib.ListN.{length, get_or, length-map}
use Rattle.bits.specs.Xor.{◌⊕◌}
use Rattle.bits.specs.Bits.{Row, from, each_with, xor_row}
use Rattle.bits.proofs.Lists.{cons_eq, map-from-at}
use Rattle.poly.specs.Polynomials.{same}
use Rattle.code.specs.PublicKey.{Matrix, Pivot, missing, pivot, with_row, find_pivot, clear, Echelon, with_pivot, columns, echelon}
use Rattle.code.proofs.Kernel.{Rows, Bits, taken, rows_taken, step-bits}
use Rattle.code.proofs.Kernel as kernel
use Rattle.code.proofs.PublicKey.{echelon_count}
use Rattle.code.proofs.Identity.{echelon-total}
use Rattle.small_key.proofs.Settled.{echelon-split, settled, settled_pivots}

sum_maps : (x : ℕ) (f g : ℕ → ℕ) (cs : List ℕ) → xor_row (map f cs) (map (◌*◌ x) (map g cs)) ≡ map (λ c. f c ⊕ x * g c) cs
unfolding xor_row each_with
sum_maps x f g [] = refl
sum_maps x f g (c ∷ cs) = cons_eq refl (sum_maps x f g cs)

map_all : (f g : ℕ → ℕ) → ((c : ℕ) → f c ≡ g c) → (cs : List ℕ) → map f cs ≡ map g cs
map_all f g h [] = refl
map_all f g h (c ∷ cs) = cons_eq (h c) (map_all f g h cs)

map_end : (f : List ℕ → List ℕ) (ds : Matrix) (p : List ℕ) → map f ds ++ (f p ∷ []) ≡ map f (ds ++ (p ∷ []))
map_end f [] p = refl
map_end f (d ∷ ds) p = ap (λ (x : Matrix). f d ∷ x) (map_end f ds p)

-- rows of l bits; bit c of a row's image
module _ (n m l : ℕ) (bit_of : List ℕ → ℕ → ℕ)
    (linear : (j : ℕ) (p r : List ℕ) → Row l p → Row l r → (c : ℕ) → bit_of (clear j p r) c ≡ bit_of r c ⊕ get_or r j 0 * bit_of p c)
    (keeps : (r : List ℕ) → Row l r → (j : ℕ) → j < m → bit_of r j ≡ get_or r j 0) (within : m ≤ n) where
  abbrev pub image : List ℕ → List ℕ
  image r = map (bit_of r) (from 0 n)

  image_at : (r : List ℕ) → Row l r → (j : ℕ) → j < m → get_or (image r) j 0 ≡ get_or r j 0
  image_at r a j h = map-from-at (bit_of r) 0 n j 0 (omega arith) ∙ ap (bit_of r) (zero-add j) ∙ keeps r a j h

  image_clear : (j : ℕ) (p r : List ℕ) → j < m → Row l p → Row l r → clear j (image p) (image r) ≡ image (clear j p r)
  unfolding clear
  image_clear j p r h a b =
      ap (λ (x : ℕ). xor_row (image r) (map (◌*◌ x) (image p))) (image_at r b j h)
      ∙ sum_maps (get_or r j 0) (bit_of r) (bit_of p) (from 0 n)
      ∙ sym (map_all (bit_of (clear j p r)) (λ c. bit_of r c ⊕ get_or r j 0 * bit_of p c) (linear j p r a b) (from 0 n))

  clear_images : {p : List ℕ} {rs : Matrix} (j : ℕ) → j < m → Row l p → Rows l rs → map (clear j (image p)) (map image rs) ≡ map image (map (clear j p) rs)
  clear_images j h a kernel.none = refl
  clear_images {p} j h a (kernel.row {r = r} b rows) =
      ap₂ (λ (x : List ℕ) (xs : Matrix). x ∷ xs) (image_clear j p r h a b) (clear_images j h a rows)

  image_pivot : Pivot → Pivot
  image_pivot missing = missing
  image_pivot (pivot p others) = pivot (image p) (map image others)

  image_form : Echelon → Echelon
  image_form e = record { done = map image e.done; rest = map image e.rest; pivots = e.pivots }

  find_image : {rs : Matrix} (j : ℕ) → j < m → Rows l rs → find_pivot j (map image rs) ≡ image_pivot (find_pivot j rs)
  unfolding find_pivot with_row image_pivot
  find_image j h kernel.none = refl
  find_image j h (kernel.row {r = r} {rs = rs} b rows) =
      ap₂ (λ (x : ℕ) (q : Pivot). cond (eqb x 1) (pivot (image r) (map image rs)) (with_row (image r) q)) (image_at r b j h) (find_image j h rows)
      ∙ go (eqb (get_or r j 0) 1) (find_pivot j rs)
    where
      go : (b : Bool) (q : Pivot) → cond b (pivot (image r) (map image rs)) (with_row (image r) (image_pivot q)) ≡ image_pivot (cond b (pivot r rs) (with_row r q))
      go true q = refl
      go false missing = refl
      go false (pivot p others) = refl

  with_image : (j : ℕ) (e : Echelon) (q : Pivot) → find_pivot j e.rest ≡ q → j < m → Bits l e → with_pivot j (image_form e) (image_pivot q) ≡ image_form (with_pivot j e q)
  unfolding with_pivot image_pivot image_form
  with_image j e missing f h b = refl
  with_image j e (pivot p others) f h b =
      let t = rows_taken (taken j e.rest p others f) b.rest in
      ap₂ (λ (x y : Matrix). record { done = x; rest = y; pivots = e.pivots ++ (j ∷ []) })
      (ap (λ (x : Matrix). x ++ (image p ∷ [])) (clear_images j h t.0 b.done) ∙ map_end image (map (clear j p) e.done) p)
      (clear_images j h t.0 t.1)

  columns_image : (k j : ℕ) (e : Echelon) → j + k ≤ m → Bits l e → columns k j (image_form e) ≡ image_form (columns k j e)
  unfolding columns image_form
  columns_image zero j e h b = refl
  columns_image (suc k) j e h b =
      let q : Pivot = find_pivot j e.rest in
      ap (λ (x : Pivot). columns k (suc j) (with_pivot j (image_form e) x)) (find_image j (omega arith) b.rest)
      ∙ ap (columns k (suc j)) (with_image j e q refl (omega arith) b)
      ∙ columns_image k (suc j) (with_pivot j e q) (omega arith) (step-bits j e q refl b)

  echelon_image : {rows : Matrix} → Rows l rows → echelon m (map image rows) ≡ image_form (echelon m rows)
  unfolding echelon image_form
  echelon_image {rows} bits =
      columns_image m 0 (record { done = []; rest = rows; pivots = [] }) (omega (arith, zero-add m)) (record { done = kernel.none; rest = bits })

  -- of m rows, reduced in their l columns
  module _ (rows : Matrix) (bits : Rows l rows) (size : length rows ≡ m) (fits : m ≤ l) where
    split : echelon n (map image rows) ≡ columns (n - m) m (image_form (echelon m rows))
    split = echelon-split m n (map image rows) within ∙ ap (columns (n - m) m) (echelon_image bits)

    total : length (image_form (echelon m rows)).done + length (image_form (echelon m rows)).rest ≡ m
    unfolding image_form
    total =
        ap₂ ◌+◌ (length-map (echelon m rows).done image) (length-map (echelon m rows).rest image) ∙ echelon-total m rows ∙ size

    count : length (image_form (echelon m rows)).done ≡ length (image_form (echelon m rows)).pivots
    unfolding image_form
    count = length-map (echelon m rows).done image ∙ echelon_count m rows

    own_pivots : same (echelon l rows).pivots (from 0 m) ≡ same (echelon m rows).pivots (from 0 m)
    own_pivots =
        ap (λ (e : Echelon). same e.pivots (from 0 m)) (echelon-split m l rows fits)
        ∙ settled_pivots m (l - m) (echelon m rows) (echelon-total m rows ∙ size) (echelon_count m rows)

    -- the first m columns have the pivots of the images exactly when they have those of the rows
    pub image_pivots : same (echelon n (map image rows)).pivots (from 0 m) ≡ same (echelon l rows).pivots (from 0 m)
    unfolding image_form
    image_pivots =
        ap (λ (e : Echelon). same e.pivots (from 0 m)) split
        ∙ settled_pivots m (n - m) (image_form (echelon m rows)) total count ∙ sym own_pivots

    -- and then the rows with the pivots are the images of theirs
    pub image_done : same (echelon l rows).pivots (from 0 m) ≡ true → (echelon n (map image rows)).done ≡ map image (echelon l rows).done
    unfolding image_form
    image_done h =
        let g : same (echelon m rows).pivots (from 0 m) ≡ true = sym own_pivots ∙ h in
        ap (λ (e : Echelon). e.done) (split ∙ settled m (n - m) (image_form (echelon m rows)) total count g)
        ∙ sym (ap (λ (e : Echelon). map image e.done)
        (echelon-split m l rows fits ∙ settled m (l - m) (echelon m rows) (echelon-total m rows ∙ size) (echelon_count m rows) g))
