-- The support that a network file says has different elements of the field, whatever its settings: 5 cannot hold, nor 4 for the support.
-- Assumes nothing.
use mathlib.Core.Path.{◌≡◌, refl, sym, ap, ap₂, ◌∙◌, subst}
use mathlib.Core.Bool.{true, not, ◌&&◌}
use mathlib.Core.List.{List, [], ◌∷◌}
use Prim.Native.Nat.{ℕ, suc, ◌+◌, ◌-◌, ◌*◌, ◌^◌, ◌≤◌, ◌<◌, suc-le-suc}
use native.Mathlib.Nat.{zero-add, zero-lt-suc}
use native.Mathlib.Omega.{arith}
use native.Mathlib.Decide.{dec_lt}
use lib.Dec.{eqb}
use lib.ListN.{length, get_or, get_or-eq_default}
use lib.Pow.{pow_pos}
use borrow.Author.Tests.{ne_eqb}
use Rattle.bits.specs.Bits.{every, bit_at}
use Rattle.bits.proofs.Lists.{every_all, map-from-at}
use Rattle.field.specs.Field.{is_element}
use Rattle.field.proofs.Arrays.{elements-every}
use Rattle.key.specs.Keys.{distinct}
use Rattle.network.specs.Network.{network}
use Rattle.network.proofs.OneToOne.{network_injective, network_below}
use Rattle.network_key.specs.Files.{reversed, support_of}
use Rattle.network_key.proofs.Reversed.{reversed-lt, reversed_injective}
use Rattle.network_key.proofs.Settings.{length-support_of}

distinct_all : (l : List ℕ) → ((i j : ℕ) → i < j → j < length l → get_or l i 0 ≡ get_or l j 0 → ⊥) → distinct l ≡ true
unfolding distinct
distinct_all [] h = refl
distinct_all (x ∷ l) h =
    ap₂ ◌&&◌
    (every_all (λ y. not (eqb x y)) l 0 (λ i b. ap not (ne_eqb x (get_or l i 0) (h 0 (suc i) (zero-lt-suc i) (suc-le-suc b)))))
    (distinct_all l (λ i j a b. h (suc i) (suc j) (suc-le-suc a) (suc-le-suc b)))

module _ (m n : ℕ) (row : List ℕ) where
  place : ℕ → ℕ
  place i = network (m - 1) (λ l j. bit_at row (l * 2 ^ (m - 1) + j)) i

  support_at : (i : ℕ) → i < n → get_or (support_of m n row) i 0 ≡ reversed m (place i)
  unfolding support_of place
  support_at i h = map-from-at _ 0 n i 0 h ∙ ap (λ (x : ℕ). reversed m (place x)) (zero-add i)

  pub support_elements : every (is_element m) (support_of m n row) ≡ true
  support_elements = elements-every m (support_of m n row) below
    where
      below : (i : ℕ) → get_or (support_of m n row) i 0 < 2 ^ m
      below i = elim (dec_lt i n) [
        | yes h ↦ subst (◌< 2 ^ m) (sym (support_at i h)) (reversed-lt m (place i))
        | no h ↦ subst (◌< 2 ^ m) (sym (get_or-eq_default (support_of m n row) 0 (omega (arith, length-support_of m n row)))) (pow_pos m)
      ]

  module _ (pos : 0 < m) (fits : n ≤ 2 ^ m) where
    place-lt : (i : ℕ) → i < n → place i < 2 ^ m
    unfolding place
    place-lt i h =
        let e : suc (m - 1) ≡ m = omega arith in
        subst (λ (k : ℕ). place i < 2 ^ k) e (network_below (m - 1) _ i (subst (λ (k : ℕ). i < 2 ^ k) (sym e) (omega arith)))

    pub support_distinct : distinct (support_of m n row) ≡ true
    unfolding place
    support_distinct =
        distinct_all (support_of m n row)
        (λ i j a b e.
        let c : j < n = rw (length-support_of m n row) at b in
        let d : i < n = omega arith in
        let q = network_injective (m - 1) _ i j (reversed_injective m (place i) (place j) (place-lt i d) (place-lt j c) (sym (support_at i d) ∙ e ∙ support_at j c)) in
        omega arith)
