-- Goppa's theorem for the code, and its distance: under an accepted key a code word with at most 2t ones has none.
-- Assumes nothing.
use mathlib.Core.Path.{◌≡◌, refl, sym, ap, ◌∙◌}
use mathlib.Core.Logic.{◌≢◌, ◌↔◌}
use mathlib.Core.Bool.{true}
use mathlib.Core.List.{List, [], ◌∷◌}
use Prim.Native.Nat.{ℕ, suc, ◌+◌, ◌≤◌, ◌<◌}
use native.Mathlib.Omega.{arith}
use lib.ListN.{length}
use Rattle.bits.specs.Bits.{Row, ones}
use Rattle.algebra.proofs.Ring.{zero-mul}
use Rattle.algebra.proofs.Field.{Field, no_divisors}
use Rattle.algebra.proofs.Points.{All, all_map, power_sum}
use Rattle.algebra.proofs.Series.{Series}
use Rattle.algebra.proofs.Eval.{eval}
use Rattle.algebra.proofs.Goppa.{Reciprocals, goppa, goppa_back}
use Rattle.algebra.proofs.Locator.{vandermonde}
use Rattle.field.proofs.Gf.{Elem, times, zero_elem, laws, gf}
use Rattle.key.specs.Keys.{Key}
use Rattle.key.proofs.Accepted.{Accepted}
use Rattle.key.proofs.Goppa.{goppa_poly, goppa_separable}
use Rattle.code.specs.Code.{in_code}
use Rattle.decoder.proofs.Words.{word_points, goppa_inverse, distinct_word, length_word, word_reciprocals, code_powers}

-- inverses are not 0, nor are their squares: where these are 0 there is no point
module _ (K : Field) where
  open K use {F, 𝟘, 𝟙, 𝟙≢𝟘, ◌⊗◌, laws as L}

  infixl 70 ◌⊗◌
  square_weights : (n : ℕ) (G : Series F) (w : F → F) (E : List F) → Reciprocals L n G w E → All (λ a. w a ⊗ w a ≢ 𝟘) E
  unfolding Reciprocals
  square_weights n G w E u = all_map _ _ (λ a h z. unit a h (no_divisors K (w a) (w a) (unit a h) z)) E u
    where
      unit : (a : F) → w a ⊗ eval L n G a ≡ 𝟙 → w a ≢ 𝟘
      unit a h e = 𝟙≢𝟘 (sym h ∙ ap (λ x. x ⊗ eval L n G a) e ∙ zero-mul L (eval L n G a))

  no_point : (w : F → F) (E : List F) → All (λ a. w a ≢ 𝟘) E → All (λ a. w a ≡ 𝟘) E → length E ≡ 0
  no_point w [] u z = refl
  no_point w (a ∷ E) u z = absurd (u.0 z.0)

module _ (k : Key) (A : Accepted k) where
  -- 1 / g(x)²
  unfoldable pub square_inverse : Elem k.m → Elem k.m
  square_inverse x = times k.m (goppa_inverse k A x) (goppa_inverse k A x)

  -- it is not 0 at the points
  pub square_not_zero : (c : List ℕ) → All (λ a. square_inverse a ≢ zero_elem k.m) (word_points k c)
  unfolding square_inverse
  square_not_zero c = square_weights (gf k.m A.width) (suc k.t) (goppa_poly k) (goppa_inverse k A) (word_points k c) (word_reciprocals k A c)

  module _ {c : List ℕ} (r : Row k.n c) where
    -- Goppa's theorem: a word is in the code exactly when 2t power sums over its points are 0, with g² for g
    pub code_squares : (in_code k c ≡ true) ↔ ((s : ℕ) → s < k.t + k.t → power_sum (laws k.m A.width) square_inverse s (word_points k c) ≡ zero_elem k.m)
    unfolding square_inverse
    code_squares = (
      λ h. goppa (laws k.m A.width) k.t (goppa_poly k) (goppa_inverse k A) (word_points k c) (goppa_separable k A) (word_reciprocals k A c) ((code_powers k A r).0 h),
      λ h. (code_powers k A r).1 (goppa_back (laws k.m A.width) k.t (goppa_poly k) (goppa_inverse k A) (word_points k c) (word_reciprocals k A c) h),
    )

    pub distance : in_code k c ≡ true → ones c ≤ k.t + k.t → ones c ≡ 0
    distance h few =
        let l : length (word_points k c) ≡ ones c = length_word k A r in
        sym l
        ∙ no_point (gf k.m A.width) square_inverse (word_points k c) (square_not_zero c)
        (vandermonde (gf k.m A.width) square_inverse (word_points k c) (distinct_word k A c) (λ s b. code_squares.0 h s (omega arith)))
