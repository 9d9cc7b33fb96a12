-- Numbers compared place by place, and values counted, from place i on: the steps of the loops. Assumes nothing.
use mathlib.Core.Path.{◌≡◌, sym, ap, ◌∙◌}
use mathlib.Core.Bool.{Bool, true, false, cond, ◌&&◌}
use mathlib.Core.List.{List}
use Prim.Native.Nat.{ℕ, suc, ◌+◌, ◌-◌, ◌≤◌, ◌<◌}
use native.Mathlib.Numerals.{add-one}
use native.Mathlib.Omega.{arith}
use borrow.Author.Tests.{eq-eqb, ne_eqb}
use lib.Dec.{eqb}
use lib.ListN.{length, drop, get_or, drop_of_length-le}
use Rattle.bits.specs.Bits.{from, every}
use Rattle.vectors.specs.Values.{occurrences_of}
use Rattle.vectors.proofs.Fields.{next}

-- f and g are the same at the places from i on, below n
unfoldable pub same_from : (ℕ → ℕ) → (ℕ → ℕ) → ℕ → ℕ → Bool
same_from f g n i = every (λ j. eqb (f j) (g j)) (from i (n - i))

module _ (f g : ℕ → ℕ) (n i : ℕ) where
  pub same_end : n ≤ i → same_from f g n i ≡ true
  unfolding same_from every from
  same_end h =
      let e : n - i ≡ 0 = omega arith in
      ap (λ (k : ℕ). every (λ j. eqb (f j) (g j)) (from i k)) e

  split : i < n → same_from f g n i ≡ eqb (f i) (g i) && same_from f g n (i + 1)
  unfolding same_from every from
  split h =
      let e : n - i ≡ suc (n - (i + 1)) = omega arith in
      ap (λ (k : ℕ). every (λ j. eqb (f j) (g j)) (from i k)) e
      ∙ ap (λ (k : ℕ). eqb (f i) (g i) && every (λ j. eqb (f j) (g j)) (from k (n - (i + 1)))) (sym (add-one i))

  module _ {x : ℕ} (d : x ≡ g i) (h : i < n) where
    pub same_next : f i ≡ x → same_from f g n i ≡ same_from f g n (i + 1)
    same_next e = split h ∙ ap (λ (t : Bool). t && same_from f g n (i + 1)) (eq-eqb (f i) (g i) (e ∙ d))

    pub same_stop : (f i ≡ x → ⊥) → same_from f g n i ≡ false
    same_stop e = split h ∙ ap (λ (t : Bool). t && same_from f g n (i + 1)) (ne_eqb (f i) (g i) (λ z. e (z ∙ sym d)))

-- how often v stands in the list from i on
module _ (v : ℕ) (l : List ℕ) (i : ℕ) where
  pub occurs_none : length l ≤ i → occurrences_of v (drop i l) ≡ 0
  unfolding occurrences_of
  occurs_none h = ap (occurrences_of v) (drop_of_length-le l h)

  pub occurs_here : i < length l → get_or l i 0 ≡ v → occurrences_of v (drop i l) ≡ 1 + occurrences_of v (drop (i + 1) l)
  unfolding occurrences_of
  occurs_here h e =
      ap (occurrences_of v) (next l i h)
      ∙ ap (λ (b : Bool). cond b 1 0 + occurrences_of v (drop (i + 1) l)) (eq-eqb (get_or l i 0) v e)

  pub occurs_not : i < length l → (get_or l i 0 ≡ v → ⊥) → occurrences_of v (drop i l) ≡ 0 + occurrences_of v (drop (i + 1) l)
  unfolding occurrences_of
  occurs_not h e =
      ap (occurrences_of v) (next l i h)
      ∙ ap (λ (b : Bool). cond b 1 0 + occurrences_of v (drop (i + 1) l)) (ne_eqb (get_or l i 0) v e)
