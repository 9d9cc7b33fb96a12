-- The polynomial g of an accepted key over the field: its values, and the combination of g and g' that is 1. Assumes nothing.
use mathlib.Core.Path.{◌≡◌, sym, ap, ◌∙◌, subst}
use Prim.Native.Nat.{ℕ, suc, ◌^◌, ◌<◌}
use Rattle.algebra.proofs.Series.{Series}
use Rattle.algebra.proofs.Eval.{eval}
use Rattle.algebra.proofs.Goppa.{Separable}
use Rattle.field.proofs.Gf.{Elem, val, laws}
use Rattle.field.proofs.Arrays.{poly, value-lt, poly_value}
use Rattle.poly.specs.Polynomials.{monic}
use Rattle.poly.proofs.Product.{length-monic, monic-elements}
use Rattle.poly.proofs.SquareSearch.{has_square_separable}
use Rattle.key.specs.Keys.{Key, goppa_at}
use Rattle.key.proofs.Accepted.{Accepted}

-- g as a polynomial over the field
abbrev pub goppa_poly : (k : Key) → Series (Elem k.m)
goppa_poly k = poly k.m (monic k.g)

module _ (k : Key) (A : Accepted k) where
  pub goppa_value : (a : ℕ) → eval (laws k.m A.width) (suc k.t) (goppa_poly k) (val k.m a) ≡ val k.m (goppa_at k a)
  unfolding goppa_at
  goppa_value a =
      ap (λ (i : ℕ). eval (laws k.m A.width) i (goppa_poly k) (val k.m a)) (sym (length-monic k.g ∙ ap suc A.g_length))
      ∙ poly_value k.m A.width (monic k.g) a

  pub goppa_lt : (a : ℕ) → goppa_at k a < 2 ^ k.m
  unfolding goppa_at
  goppa_lt a = value-lt k.m (monic k.g) (monic-elements k.m A.width k.g A.g_below) a

  pub goppa_separable : Separable (laws k.m A.width) k.t (goppa_poly k)
  goppa_separable =
      subst (λ (i : ℕ). Separable (laws k.m A.width) i (goppa_poly k)) A.g_length
      (has_square_separable k.m A.width k.g A.g_below A.square_free)
