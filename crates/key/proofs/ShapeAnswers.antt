-- What a shape's answer says once it is taken apart. Assumes nothing.
use Prim.Native.Nat.{ℕ, zero, suc}
use mathlib.Core.Path.{◌≡◌, refl}
use native.Mathlib.Omega.{arith}
use Rattle.key.specs.Answers.{sizes, shape_answer, answer_number}
use Rattle.key.specs.declared.shape.Sizes.{Sizes}
use Rattle.key.specs.declared.shape.ShapeAnswer.TheVariants as shapes

pub shape_number_lem : (q : ℕ) (s : ℕ × ℕ × ℕ) → answer_number (shape_answer q s) ≡ q
unfolding answer_number shape_answer
shape_number_lem zero s = refl
shape_number_lem (suc q) s = refl

pub shape_sizes : (q : ℕ) (s : ℕ × ℕ × ℕ) {z : Sizes} → shape_answer q s ≡ shapes.Sizes z → (q ≡ 0) × (z ≡ sizes s)
unfolding shape_answer
shape_sizes zero s e = (refl, cc)
shape_sizes (suc q) s e = let z : ◌≡◌ {A = ℕ} 0 1 = cc in absurd (omega arith)

pub shape_refused : (q : ℕ) (s : ℕ × ℕ × ℕ) {x : ℕ} → shape_answer q s ≡ shapes.Refused x → (x ≡ q) × (q ≡ 0 → ⊥)
unfolding shape_answer
shape_refused zero s e = let z : ◌≡◌ {A = ℕ} 0 1 = cc in absurd (omega arith)
shape_refused (suc q) s e = (cc, λ h. omega arith)
