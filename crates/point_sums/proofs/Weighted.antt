-- The weighted sums over parts of the lists, and the sums as lists. Assumes nothing.
use mathlib.Core.Path.{◌≡◌, refl, sym, ap, ap₂, ◌∙◌, fun_ext}
use mathlib.Core.Bool.{false}
use mathlib.Core.List.{List, [], ◌∷◌, ◌++◌, map}
use Prim.Native.Nat.{ℕ, zero, suc, ◌+◌, ◌-◌, ◌≤◌, ◌<◌, min}
use native.Mathlib.Nat.{zero-add, suc_inj, suc-ne-zero}
use native.Mathlib.Omega.{arith}
use lib.ListN.{length, get_or, take, replicate, length-map, replicate-append-replicate}
use lib.Seq.{length-take-le, take-add, take-append-le}
use borrow.Rule.Slice.PartMut.{mid_of}
use Rattle.bits.specs.Xor.{◌⊕◌}
use Rattle.bits.specs.Bits.{from, each_with, xor_row, padded}
use Rattle.bits.proofs.Xor.{zero_xor, xor-zero, xor_assoc}
use Rattle.bits.proofs.Lists.{length_from, length-map-from, map-from-at, map-from-part}
use Rattle.bits.proofs.Rows.{xor_row-nil}
use Rattle.field.specs.Field.{is_width, mul, power}
use Rattle.field.proofs.Table.{Width}
use Rattle.field.proofs.Laws.{zero-mul}
use Rattle.point_sums.specs.Weighted.{weighted_sum, weighted_sums, weighted_all}

module _ (m s : ℕ) where
  sum-append : (a b c d : List ℕ) → length a ≡ length c → weighted_sum m s a c ⊕ weighted_sum m s b d ≡ weighted_sum m s (a ++ b) (c ++ d)
  unfolding weighted_sum
  sum-append [] b [] d e = zero_xor _
  sum-append [] b (y ∷ c) d e = absurd (suc-ne-zero (length c) (sym e))
  sum-append (x ∷ a) b [] d e = absurd (suc-ne-zero (length a) e)
  sum-append (x ∷ a) b (y ∷ c) d e = xor_assoc _ _ _ ∙ ap (◌⊕◌ (mul m x (power m y s))) (sum-append a b c d (suc_inj e))

  sum_zeros : (i : ℕ) (p : List ℕ) → weighted_sum m s (replicate i 0) p ≡ 0
  unfolding weighted_sum
  sum_zeros zero p = refl
  sum_zeros (suc i) [] = refl
  sum_zeros (suc i) (a ∷ p) = ap₂ ◌⊕◌ (zero-mul m _) (sum_zeros i p) ∙ zero_xor 0

  -- zeros behind the weights
  pub sum-padded : (n : ℕ) (w p : List ℕ) → length w ≡ length p → weighted_sum m s (padded n w) (padded n p) ≡ weighted_sum m s w p
  unfolding padded
  sum-padded n w p e =
      sym (sum-append w (replicate (n - length w) 0) p (replicate (n - length p) 0) e)
      ∙ ap (◌⊕◌ (weighted_sum m s w p)) (sum_zeros (n - length w) (replicate (n - length p) 0)) ∙ xor-zero _

  -- as far as both lists go
  sum-take : (n : ℕ) (w p : List ℕ) → min (length w) (length p) ≤ n → weighted_sum m s (take n w) (take n p) ≡ weighted_sum m s w p
  unfolding weighted_sum
  sum-take zero [] p h = refl
  sum-take zero (x ∷ w) [] h = refl
  sum-take zero (x ∷ w) (a ∷ p) h = absurd (omega arith)
  sum-take (suc n) [] p h = refl
  sum-take (suc n) (x ∷ w) [] h = refl
  sum-take (suc n) (x ∷ w) (a ∷ p) h = ap (◌⊕◌ (mul m x (power m a s))) (sum-take n w p (omega arith))

module _ (m k : ℕ) (w p : List ℕ) where
  pub length_sums : length (weighted_sums m k w p) ≡ k
  unfolding weighted_sums
  length_sums = length-map-from (λ s. weighted_sum m s w p) 0 k

  pub sums_at : (s : ℕ) → s < k → get_or (weighted_sums m k w p) s 0 ≡ weighted_sum m s w p
  unfolding weighted_sums
  sums_at s h = map-from-at (λ s. weighted_sum m s w p) 0 k s 0 h ∙ ap (λ (s : ℕ). weighted_sum m s w p) (zero-add s)

-- zeros at each place, and two lists added
zero-map : (l : List ℕ) → map {B = ℕ} (λ s. 0) l ≡ replicate (length l) 0
zero-map [] = refl
zero-map (s ∷ l) = ap (◌∷◌ 0) (zero-map l)

xor_maps : (f g : ℕ → ℕ) (l r : List ℕ) → xor_row (map f l ++ r) (map g l) ≡ map (λ s. f s ⊕ g s) l ++ r
unfolding xor_row each_with
xor_maps f g [] r = xor_row-nil r
xor_maps f g (s ∷ l) r = ap (◌∷◌ (f s ⊕ g s)) (xor_maps f g l r)

-- the sums over no point; over more; over all
module _ (m k : ℕ) where
  pub sums_none : k ≤ 256 → replicate 256 0 ≡ padded 256 (weighted_sums m k [] [])
  unfolding padded weighted_sums weighted_sum
  sums_none h =
      let e : k + (256 - k) ≡ 256 = omega arith in
      let l : length (map {B = ℕ} (λ s. 0) (from 0 k)) ≡ k = length-map-from (λ s. 0) 0 k in
      sym (ap₂ ◌++◌ (zero-map (from 0 k) ∙ ap (λ (n : ℕ). replicate n 0) (length_from 0 k)) (ap (λ (n : ℕ). replicate (256 - n) 0) l)
      ∙ replicate-append-replicate k (256 - k) 0 ∙ ap (λ (n : ℕ). replicate n 0) e)

  sums_append : (a b c d : List ℕ) → length a ≡ length c
      → xor_row (padded 256 (weighted_sums m k a c)) (weighted_sums m k b d) ≡ padded 256 (weighted_sums m k (a ++ b) (c ++ d))
  unfolding padded weighted_sums
  sums_append a b c d e =
      let f : ℕ → ℕ = λ s. weighted_sum m s a c in
      let g : ℕ → ℕ = λ s. weighted_sum m s b d in
      xor_maps f g (from 0 k) _
      ∙ ap (λ (n : ℕ). map (λ s. f s ⊕ g s) (from 0 k) ++ replicate (256 - n) 0) (length-map (from 0 k) f ∙ sym (length-map (from 0 k) (λ s. f s ⊕ g s)))
      ∙ ap (λ h. padded 256 (map h (from 0 k))) (fun_ext (λ s. sum-append m s a b c d e))

  pub sums_block : (w p : List ℕ) (at e : ℕ) (d r : List ℕ) → at ≤ e → e ≤ length w → e ≤ length p → d ≡ padded 256 (weighted_sums m k (take at w) (take at p))
      → r ≡ xor_row d (weighted_sums m k (mid_of at (e - at) w) (mid_of at (e - at) p)) → r ≡ padded 256 (weighted_sums m k (take e w) (take e p))
  sums_block w p at e d r h lw lp ed er =
      let q : at + (e - at) ≡ e = omega arith in
      let n : length (take at w) ≡ length (take at p) = length-take-le at w (omega arith) ∙ sym (length-take-le at p (omega arith)) in
      let both : (l : List ℕ) → take at l ++ mid_of at (e - at) l ≡ take e l = λ l. sym (take-add at (e - at) l) ∙ ap (λ (n : ℕ). take n l) q in
      er ∙ ap (λ (d : List ℕ). xor_row d (weighted_sums m k (mid_of at (e - at) w) (mid_of at (e - at) p))) ed
      ∙ sums_append (take at w) (mid_of at (e - at) w) (take at p) (mid_of at (e - at) p) n
      ∙ ap₂ (λ (w p : List ℕ). padded 256 (weighted_sums m k w p)) (both w) (both p)

  pub sums_all_lem : (n : ℕ) (w p : List ℕ) → min (length w) (length p) ≤ n → weighted_sums m k (take n w) (take n p) ≡ weighted_sums m k w p
  unfolding weighted_sums
  sums_all_lem n w p h = ap (λ f. map f (from 0 k)) (fun_ext (λ s. sum-take m s n w p h))

  -- the first of more sums
  pub take_sums : (n : ℕ) (w p : List ℕ) → k ≤ n → take k (padded 256 (weighted_sums m n w p)) ≡ weighted_sums m k w p
  unfolding padded weighted_sums
  take_sums n w p h =
      let f : ℕ → ℕ = λ s. weighted_sum m s w p in
      take-append-le k (map f (from 0 n)) _ (omega (arith, length-map-from f 0 n)) ∙ map-from-part f 0 n 0 k (omega arith)

-- what the call answers
module _ (m k : ℕ) (w p : List ℕ) where
  pub all_none : is_width m ≡ false → replicate 256 0 ≡ weighted_all m k w p
  unfolding weighted_all padded
  all_none n = rw n

  pub all_width : Width m → padded 256 (weighted_sums m (min k 256) w p) ≡ weighted_all m k w p
  unfolding weighted_all
  all_width u = rw u
