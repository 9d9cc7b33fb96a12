-- Lengths of halves and of parts. Assumes nothing.
use mathlib.Core.Path.{◌≡◌, refl, ap, ap₂, ◌∙◌}
use mathlib.Core.List.{List, [], ◌∷◌}
use Prim.Native.Nat.{ℕ, zero, suc, ◌+◌}
use native.Mathlib.Omega.{arith}
use lib.ListN.{length, take, drop, length-append, length-drop}
use lib.Seq.{length-take-le}
use Rattle.bits.specs.Xor.{◌⊕◌}
use Rattle.bits.specs.Bits.{each_with, xor_row}
use Rattle.bits.proofs.Each.{length-each_with}
use Rattle.field.specs.Field.{mul}
use Rattle.levels.proofs.Twists.{length-twisted}
use Rattle.transform.specs.Halves.{paired, expanded, unzip, halves, split}
use Rattle.transform.specs.Values.{butterfly}

pub length-paired : (l : List ℕ) → length (paired l) ≡ length l
unfolding paired
length-paired [] = refl
length-paired (a ∷ []) = refl
length-paired (a ∷ b ∷ l) = ap (λ (n : ℕ). suc (suc n)) (length-paired l)

pub length-expanded : (l : List ℕ) → length (expanded l) ≡ length l
unfolding expanded
length-expanded [] = refl
length-expanded (c ∷ l) = ap suc (length-paired (expanded l) ∙ length-expanded l)

-- of 2·h numbers, h stand at even places and h at odd ones
pub length-unzip : (h : ℕ) (l : List ℕ) → length l ≡ h + h → (length (unzip l).0 ≡ h) × (length (unzip l).1 ≡ h)
unfolding unzip
length-unzip zero [] e = (refl, refl)
length-unzip zero (c ∷ l) e = absurd (omega arith)
length-unzip (suc h) [] e = absurd (omega arith)
length-unzip (suc h) (c ∷ []) e = absurd (omega arith)
length-unzip (suc h) (c ∷ d ∷ l) e =
    let r = length-unzip h l (omega arith) in (ap suc r.0, ap suc r.1)

pub length-halves : (m b h : ℕ) (l : List ℕ) → length l ≡ h + h → (length (halves m b l).0 ≡ h) × (length (halves m b l).1 ≡ h)
unfolding halves
length-halves m b h l e = length-unzip h _ (length-expanded _ ∙ length-twisted m b l ∙ e)

pub length-split : (m b h : ℕ) (l : List ℕ) → length l ≡ h + h → length (split m b l) ≡ h + h
unfolding split
length-split m b h l e =
    let r = length-halves m b h l e in length-append (halves m b l).0 (halves m b l).1 ∙ ap₂ ◌+◌ r.0 r.1

pub length-butterfly : (m : ℕ) (g l : List ℕ) → length l ≡ length g + length g → length (butterfly m g l) ≡ length g + length g
unfolding butterfly xor_row
length-butterfly m g l e =
    let u : List ℕ = each_with ◌⊕◌ (take (length g) l) (each_with (mul m) (drop (length g) l) g) in
    length-append u (each_with ◌⊕◌ (drop (length g) l) u)
    ∙ ap₂ ◌+◌ (length-each_with ◌⊕◌ (take (length g) l) _ ∙ length-take-le (length g) l (omega arith)) (length-each_with ◌⊕◌ (drop (length g) l) u ∙ length-drop (length g) l ∙ omega arith)
