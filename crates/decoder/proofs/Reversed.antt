-- The reversed polynomial of a register, x^l·C(1/x), by its list of coefficients: its values are those of `algebra`.
-- Assumes nothing.
use mathlib.Core.Path.{◌≡◌, sym, ap, ◌∙◌}
use mathlib.Core.Logic.{◌↔◌}
use mathlib.Core.List.{List, [], ◌∷◌, ◌++◌}
use Prim.Native.Nat.{ℕ, zero, suc, ◌+◌, ◌-◌, ◌^◌, ◌<◌}
use native.Mathlib.Nat.{sub-zero}
use native.Mathlib.Omega.{arith}
use lib.ListN.{length, get_or}
use lib.Pow.{pow_pos}
use Rattle.bits.specs.Xor.{◌⊕◌}
use Rattle.bits.specs.Bits.{from}
use Rattle.bits.proofs.Xor.{xor-zero}
use Rattle.bits.proofs.Lists.{cons_eq, map-from, length-map-from}
use Rattle.algebra.proofs.Locator as Locator
use Rattle.algebra.proofs.Locator.{mul-pow, mul-pow-zero}
use Rattle.field.specs.Field.{mul}
use Rattle.field.specs.Poly.{value}
use Rattle.field.proofs.Table.{Width}
use Rattle.field.proofs.Laws.{mul-zero}
use Rattle.field.proofs.Gf.{val, val_inj, val-zero, val-xor, val-mul, plus, times, zero_elem, gf}
use Rattle.field.proofs.Arrays.{Elements, map-elements, value-nil, value-cons, value-lt, poly}
use Rattle.poly.specs.Polynomials.{monic}
use Rattle.poly.specs.Register.{Register}
use Rattle.poly.proofs.Product.{monic-elements}
use Rattle.decoder.specs.Decoding.{backward, reversed}

pub length-reversed : (r : Register) → length (reversed r) ≡ r.l
unfolding reversed backward
length-reversed r = length-map-from _ 0 r.l

backward-suc : (c : List ℕ) (l : ℕ) → backward c (suc l) ≡ get_or c (suc l) 0 ∷ backward c l
unfolding backward from
backward-suc c l =
    cons_eq (ap (λ (i : ℕ). get_or c i 0) (sub-zero (suc l)))
    (map-from _ _ 1 0 l (λ i h. let e : suc l - (1 + i) ≡ l - (0 + i) = omega arith in ap (λ (j : ℕ). get_or c j 0) e))

module _ (m : ℕ) (W : Width m) where
  -- Horner's rule from c_0 = 1 up to c_l
  backward-value : (c : List ℕ) → get_or c 0 0 ≡ 1 → (l a : ℕ) → val m (value m (backward c l ++ (1 ∷ [])) a) ≡ Locator.reversed (gf m W) l (poly m c) (val m a)
  unfolding backward from
  backward-value c h zero a =
      ap (val m) (value-cons m 1 [] a ∙ ap (λ (v : ℕ). 1 ⊕ mul m a v) (value-nil m a) ∙ ap (λ (x : ℕ). 1 ⊕ x) (mul-zero m a) ∙ xor-zero 1 ∙ sym h)
      ∙ sym (mul-pow-zero (gf m W) (poly m c) (val m a))
  backward-value c h (suc l) a =
      ap (λ (x : List ℕ). val m (value m (x ++ (1 ∷ [])) a)) (backward-suc c l)
      ∙ ap (val m) (value-cons m (get_or c (suc l) 0) (backward c l ++ (1 ∷ [])) a)
      ∙ val-xor m (get_or c (suc l) 0) (mul m a (value m (backward c l ++ (1 ∷ [])) a))
      ∙ ap (plus m (val m (get_or c (suc l) 0))) (val-mul m a (value m (backward c l ++ (1 ∷ [])) a) ∙ ap (times m (val m a)) (backward-value c h l a))
      ∙ sym (mul-pow (gf m W) (poly m c) (val m a) l)

  module _ (r : Register) (lead : get_or r.c 0 0 ≡ 1) (a : ℕ) where
    pub reversed-value : val m (value m (monic (reversed r)) a) ≡ Locator.reversed (gf m W) r.l (poly m r.c) (val m a)
    unfolding reversed monic
    reversed-value = backward-value r.c lead r.l a

    reversed-lt : Elements m r.c → value m (monic (reversed r)) a < 2 ^ m
    unfolding reversed backward
    reversed-lt e = value-lt m (monic (reversed r)) (monic-elements m W (reversed r) (map-elements m _ (λ i. e (r.l - i)) (from 0 r.l))) a

    -- it is 0 at a where the value in the field is
    pub reversed-zero : Elements m r.c
        → (value m (monic (reversed r)) a ≡ 0) ↔ (Locator.reversed (gf m W) r.l (poly m r.c) (val m a) ≡ zero_elem m)
    reversed-zero e = (
      λ h. sym reversed-value ∙ ap (val m) h ∙ val-zero m,
      λ h. val_inj m (reversed-lt e) (pow_pos m) (reversed-value ∙ h ∙ sym (val-zero m)),
    )
