-- The two halves of a list, added to and copied as the code does it. Assumes nothing.
use mathlib.Core.Path.{◌≡◌, refl, sym, ap, ap₂, ◌∙◌}
use mathlib.Core.List.{List, [], ◌∷◌, ◌++◌}
use Prim.Native.Nat.{ℕ, ◌+◌, ◌-◌, ◌≤◌}
use native.Mathlib.Omega.{arith}
use borrow.Rule.Slice.PartMut.{put_mid}
use lib.ListN.{length, take, drop, length-append, length-drop}
use lib.Seq.{take_at, drop_at, length-take-le}
use Rattle.bits.specs.Bits.{each_with, xor_row}
use Rattle.bits.proofs.Parts.{part_all, part_back}

-- a list copied over another of its length
copied : (p s : List ℕ) → length p ≡ length s → each_with (λ x y. y) p s ≡ s
unfolding each_with
copied [] [] e = refl
copied [] (y ∷ s) e = absurd (omega arith)
copied (x ∷ p) [] e = absurd (omega arith)
copied (x ∷ p) (y ∷ s) e = ap (◌∷◌ y) (copied p s (omega arith))

module _ (h : ℕ) (l : List ℕ) (el : length l ≡ h + h) where
  pub length-low : length (take h l) ≡ h
  length-low = length-take-le h l (omega arith)

  pub length_high : length (drop h l) ≡ h
  length_high = length-drop h l ∙ omega arith

  -- the high half copied
  pub high_copied : (p : List ℕ) → length p ≡ h → each_with (λ x y. y) p (take (length l - h) (drop h l)) ≡ drop h l
  high_copied p ep = ap (each_with (λ x y. y) p) (part_all h l) ∙ copied p (drop h l) (omega (arith, length_high))

  -- with a for the low half: that copied, and p added to the high half
  module _ (a : List ℕ) (ea : length a ≡ h) where
    pub kept-fits : h ≤ length (a ++ drop h l)
    kept-fits = omega (arith, length-append a (drop h l))

    pub kept_low : h ≡ length (take h (a ++ drop h l))
    kept_low = sym ea ∙ sym (ap length (take_at a (drop h l) h ea))

    pub low_copied : (p : List ℕ) → length p ≡ h → each_with (λ x y. y) p (take h (a ++ drop h l)) ≡ a
    low_copied p ep = ap (each_with (λ x y. y) p) (take_at a (drop h l) h ea) ∙ copied p a (omega arith)

    pub high_added : (p : List ℕ) {y : List ℕ} → y ≡ xor_row (take (length (a ++ drop h l) - h) (drop h (a ++ drop h l))) p
        → put_mid h (length (a ++ drop h l) - h) (a ++ drop h l) y ≡ a ++ xor_row (drop h l) p
    high_added p ey =
        part_back h (a ++ drop h l) _
        ∙ ap₂ ◌++◌ (take_at a (drop h l) h ea) (ey ∙ ap (λ (s : List ℕ). xor_row s p) (part_all h (a ++ drop h l) ∙ drop_at a (drop h l) h ea))
