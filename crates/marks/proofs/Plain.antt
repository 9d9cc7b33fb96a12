-- Without marks, marked reading is reading. Assumes nothing.
use mathlib.Core.Path.{◌≡◌, refl, ap, ◌∙◌, fun_ext}
use mathlib.Core.Bool.{Bool, true, false, ◌&&◌}
use mathlib.Core.List.{List, []}
use Prim.Native.Nat.{ℕ, ◌+◌, ◌*◌}
use native.Mathlib.Omega.{arith}
use lib.Dec.{leb}
use borrow.Author.Tests.{leb-true, leb-false, le-leb, lt-leb}
use Rattle.bits.specs.Bits.{ones, xor_row}
use Rattle.key.specs.Keys.{Key}
use Rattle.code.specs.Code.{in_code}
use Rattle.decoder.specs.Search.{first_row}
use Rattle.decoder.specs.Reading.{corrects, reading}
use Rattle.marks.specs.Marked.{differences, corrects_marked, marked_reading}
use Rattle.marks.proofs.Unmarked.{unmarked_all}

-- 2d + 0 ≤ 2t exactly when d ≤ t
doubled : (d s t : ℕ) → s ≡ 0 → leb (2 * d + s) (2 * t) ≡ leb d t
doubled d s t z = go (leb d t) refl
  where
    go : (b : Bool) → leb d t ≡ b → leb (2 * d + s) (2 * t) ≡ b
    go true e = let h = leb-true d t e in le-leb (2 * d + s) (2 * t) (omega arith)
    go false e = let h = leb-false d t e in lt-leb (2 * d + s) (2 * t) (omega arith)

module _ (k : Key) (w z : List ℕ) (h : ones z ≡ 0) where
  pub plain_differences : (e : List ℕ) → differences z e ≡ ones e
  unfolding differences
  plain_differences e = ap ones (unmarked_all e z h)

  plain_corrects : (e : List ℕ) → corrects_marked k w z e ≡ corrects k w e
  unfolding corrects_marked corrects
  plain_corrects e =
      ap (λ (b : Bool). b && in_code k (xor_row w e))
      (ap (λ (d : ℕ). leb (2 * d + ones z) (2 * k.t)) (plain_differences e) ∙ doubled (ones e) (ones z) k.t h)

  pub plain_reading : marked_reading k w z ≡ reading k w
  unfolding marked_reading reading
  plain_reading = ap (λ (p : List ℕ → Bool). first_row p k.n []) (fun_ext plain_corrects)
