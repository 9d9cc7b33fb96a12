-- The 2t sums over a word's points. Assumes nothing.
use mathlib.Core.Path.{◌≡◌, refl, sym, ap, ap₂, ◌∙◌, fun_ext}
use mathlib.Core.List.{List, [], ◌∷◌, map, map-map}
use Prim.Native.Nat.{ℕ, ◌*◌, ◌≤◌, min}
use native.Mathlib.Omega.{arith}
use lib.ListN.{length, take}
use Rattle.bits.specs.Xor.{◌⊕◌}
use Rattle.bits.specs.Bits.{Row, from, padded}
use Rattle.field.specs.Field.{mul, power, inv}
use Rattle.field.specs.Poly.{horner_each}
use Rattle.field.proofs.Table.{Width}
use Rattle.field.proofs.Laws.{mul_comm}
use Rattle.field.proofs.Places.{horner_self}
use Rattle.poly.specs.Polynomials.{sum, values_at}
use Rattle.key.proofs.Values.{values_goppa}
use Rattle.key.specs.Keys.{goppa_at, key_of}
use Rattle.decoder.specs.Decoding.{chosen, square_entry, square_sums}
use Rattle.decoder.proofs.Words.{dot_chosen}
use Rattle.point_sums.specs.Weighted.{weighted_sum, weighted_sums, weighted_all}
use Rattle.point_sums.proofs.Weighted.{all_width}
use Rattle.decoding.specs.Parts.{point_sums}

-- the sum by weights that are a function of the points
weighted_sum_lem : (m k : ℕ) (h : ℕ → ℕ) (s : List ℕ) → weighted_sum m k (map h s) s ≡ sum (map (λ a. mul m (power m a k) (h a)) s)
unfolding weighted_sum sum
weighted_sum_lem m k h [] = refl
weighted_sum_lem m k h (a ∷ s) = ap₂ ◌⊕◌ (mul_comm m (h a) (power m a k)) (weighted_sum_lem m k h s)

module _ (m : ℕ) (w : Width m) (g s : List ℕ) where
  -- g at the n points
  pub values_points : {n : ℕ} {v : List ℕ} → length s ≡ n → n ≤ 8192 → v ≡ values_at m g s → take n v ≡ map (goppa_at (key_of m s g)) s
  values_points {n} {v} e l ev = ap₂ take (sym e) ev ∙ values_goppa m w s g (omega arith)

  -- the sums of the powers by the squares p of the inverses h of g's values
  pub points_sums : length g ≤ 128 → (h p : List ℕ) → h ≡ map (inv m) (map (goppa_at (key_of m s g)) s) → p ≡ horner_each m 0 h h
      → weighted_all m (2 * length g) p s ≡ padded 256 (point_sums m g s)
  unfolding point_sums weighted_sums square_entry key_of
  points_sums l h p eh ep =
      let i : ℕ → ℕ = λ a. inv m (goppa_at (key_of m s g) a) in
      let k : min (2 * length g) 256 ≡ 2 * length g = omega arith in
      let q : p ≡ map (λ a. mul m (i a) (i a)) s =
      ep ∙ ap (λ (l : List ℕ). horner_each m 0 l l) (eh ∙ map-map (inv m) (goppa_at (key_of m s g)) s) ∙ horner_self m w (map i s)
      ∙ map-map (λ x. mul m x x) i s in
      sym (all_width m (2 * length g) p s w)
      ∙ ap₂ (λ (n : ℕ) (p : List ℕ). padded 256 (weighted_sums m n p s)) k q
      ∙ ap (λ f. padded 256 (map f (from 0 (2 * length g)))) (fun_ext (λ k. weighted_sum_lem m k (λ a. mul m (i a) (i a)) s))

-- the sums over a word's points are the word's
pub chosen_sums : (m : ℕ) (support g : List ℕ) {n : ℕ} {c : List ℕ} → Row n c → point_sums m g (chosen c support) ≡ square_sums (key_of m support g) c
unfolding point_sums square_sums square_entry goppa_at key_of
chosen_sums m support g r =
    ap (λ f. map f (from 0 (2 * length g))) (fun_ext λ k. sym (dot_chosen r (square_entry (key_of m support g) k) support))
