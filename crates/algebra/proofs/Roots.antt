-- Roots: a polynomial that is 0 at as many distinct points as it has coefficients is 0. Assumes nothing.
use mathlib.Core.Path.{◌≡◌, sym, ◌∙◌, ap, subst}
use mathlib.Core.List.{List, [], ◌∷◌}
use Prim.Native.Nat.{ℕ, suc}
use lib.ListN.{length}
use Rattle.algebra.proofs.Ring.{ring, add_cancel, mul-zero, zero-add}
use Rattle.algebra.proofs.Field.{Field, no_divisors}
use Rattle.algebra.proofs.Points.{All, Distinct}
use Rattle.algebra.proofs.Series.{Series, operations, C-add, C-zero}
use Rattle.algebra.proofs.Poly.{Below, below_zero, poly_C}
use Rattle.algebra.proofs.Eval.{eval, quot, lin, divide_lin, below_lin, below_quot, eval_unique, eval_mul}

module _ (K : Field) where
  open K use {F, 𝟘, 𝟙, ◌⊕◌, laws as L}
  open operations L use {◌⊞◌, ◌⊠◌, O, C, X, series}

  infixl 65 ◌⊕◌
  infixl 65 ◌⊞◌
  infixl 70 ◌⊠◌
  shift_shape : (x a b : Series F) → x ⊞ b ≡ (b ⊞ a) ⊞ (x ⊞ a) ⊠ C 𝟙
  shift_shape x a b = let R = series in simp (ring, R)

  -- X + b at a
  pub eval_lin : (n : ℕ) (a b : F) → Below L n (lin L b) → eval L n (lin L b) a ≡ b ⊕ a
  unfolding lin
  eval_lin n a b h = eval_unique L n a (b ⊕ a) (lin L b) (C 𝟙) h (poly_C L 𝟙)
      (shift_shape X (C a) (C b) ∙ ap (λ x. x ⊞ (X ⊞ C a) ⊠ C 𝟙) (sym (C-add L b a)))

  -- without the root a, the other roots stay
  module _ (a : F) (n : ℕ) (p q : Series F) (b : Below L (suc n) p) (c : Below L n q) (e : p ≡ lin L a ⊠ q) where
    other_roots : (E : List F) → All (λ x. ¬ (a ≡ x)) E → All (λ x. eval L (suc n) p x ≡ 𝟘) E → All (λ x. eval L n q x ≡ 𝟘) E
    other_roots [] d z = tt
    other_roots (x ∷ E) d z = (
      no_divisors K (eval L 2 (lin L a) x) _ (λ h. d.0 (add_cancel L a x (sym (eval_lin 2 x a (below_lin L a)) ∙ h)))
          (sym (eval_mul L 2 n (suc n) x (lin L a) q (below_lin L a) c (subst (Below L (suc n)) e b)) ∙ ap (λ r. eval L (suc n) r x) (sym e) ∙ z.0),
      other_roots E d.1 z.1,
    )

  pub roots : (E : List F) (p : Series F) → Distinct E → Below L (length E) p → All (λ a. eval L (length E) p a ≡ 𝟘) E → p ≡ O
  roots [] p d b z = below_zero L b
  roots (a ∷ E) p d b z =
      let n = length E in
      let q = quot L (suc n) a p in
      let c = below_quot L n a p b in
      let e : p ≡ lin L a ⊠ q = divide_lin L (suc n) a p b ∙ ap (λ x. C x ⊞ lin L a ⊠ q) z.0 ∙ ap (λ x. x ⊞ lin L a ⊠ q) (C-zero L) ∙ zero-add series _ in
      e ∙ ap (λ x. lin L a ⊠ x) (roots E q d.1 c (other_roots a n p q b c e E d.0 z.1)) ∙ mul-zero series _
