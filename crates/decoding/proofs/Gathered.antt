-- The points of a word, gathered place by place. Assumes nothing.
use mathlib.Core.Path.{◌≡◌, refl, sym, ap, ap₂, ◌∙◌}
use mathlib.Core.List.{List, [], ◌∷◌, ◌++◌, append-nil}
use Prim.Native.Nat.{ℕ, zero, suc, ◌+◌, ◌≤◌, ◌<◌, zero-le, suc-le-suc}
use native.Mathlib.Nat.{add-zero, le_refl}
use native.Mathlib.Numerals.{add-one}
use native.Mathlib.Omega.{arith}
use lib.ListN.{length, get_or, take, drop, set, drop_of_length-le}
use lib.Seq.{drop-cons, take-set-le, take-suc-set, append_snoc}
use Rattle.bits.proofs.Xor.{Digit, off, on}
use Rattle.decoder.specs.Decoding.{chosen}

-- at most as many as the support
pub length-chosen-le : (c l : List ℕ) → length (chosen c l) ≤ length l
unfolding chosen
length-chosen-le [] l = zero-le
length-chosen-le (b ∷ c) [] = zero-le
length-chosen-le (zero ∷ c) (a ∷ l) = let h = length-chosen-le c l in omega arith
length-chosen-le (suc b ∷ c) (a ∷ l) = suc-le-suc (length-chosen-le c l)

-- the points found, and those of the places from i on
unfoldable pub gathered : ℕ → List ℕ → List ℕ → List ℕ → ℕ → List ℕ
gathered count at c l i = take count at ++ chosen (drop i c) (drop i l)

module _ (c l : List ℕ) where
  pub gathered_start : (at : List ℕ) → gathered 0 at c l 0 ≡ chosen c l
  unfolding gathered
  gathered_start at = refl

  module _ (count : ℕ) (at : List ℕ) (i : ℕ) (h : count < length at) (j : i < length c) (k : i < length l) where
    next : {d : ℕ} → Digit d
        → take (count + d) (set at count (get_or l i 0)) ++ chosen (drop (suc i) c) (drop (suc i) l) ≡ take count at ++ chosen (d ∷ drop (suc i) c) (get_or l i 0 ∷ drop (suc i) l)
    unfolding chosen
    next off =
        ap (λ (r : List ℕ). r ++ chosen (drop (suc i) c) (drop (suc i) l))
        (ap (λ (n : ℕ). take n (set at count (get_or l i 0))) (add-zero count) ∙ take-set-le count at count (get_or l i 0) (le_refl count))
    next on =
        ap (λ (r : List ℕ). r ++ chosen (drop (suc i) c) (drop (suc i) l))
        (ap (λ (n : ℕ). take n (set at count (get_or l i 0))) (add-one count) ∙ take-suc-set at count (get_or l i 0) h)
        ∙ append_snoc (take count at) (get_or l i 0) (chosen (drop (suc i) c) (drop (suc i) l))

    pub gathered_next : Digit (get_or c i 0) → gathered (count + get_or c i 0) (set at count (get_or l i 0)) c l (i + 1) ≡ gathered count at c l i
    unfolding gathered
    gathered_next d =
        ap (λ (n : ℕ). take (count + get_or c i 0) (set at count (get_or l i 0)) ++ chosen (drop n c) (drop n l)) (add-one i)
        ∙ next d
        ∙ ap₂ (λ (x y : List ℕ). take count at ++ chosen x y) (sym (drop-cons c i 0 j)) (sym (drop-cons l i 0 k))

  pub gathered_all : (count : ℕ) (at : List ℕ) (i : ℕ) → length c ≤ i → gathered count at c l i ≡ take count at
  unfolding gathered chosen
  gathered_all count at i h = rw (drop_of_length-le c h) (append-nil (take count at))
