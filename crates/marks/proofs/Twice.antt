-- Under an accepted key a marked word has at most one reading, and two plain readings find it: with the marked bits 0, and with them
-- 1. Assumes nothing.
use mathlib.Core.Path.{◌≡◌, refl, sym, ap, ◌∙◌, subst}
use mathlib.Core.Logic.{◌⊎◌, inl, inr}
use mathlib.Core.Bool.{Bool, true, false, cond}
use mathlib.Core.List.{List}
use mathlib.Core.Option.{Option, none, some, none-ne-some, some-injective}
use Prim.Native.Nat.{ℕ, ◌+◌, ◌*◌, ◌≤◌}
use native.Mathlib.Nat.{le_of_eq}
use native.Mathlib.Omega.{arith}
use lib.Dec.{leb}
use borrow.Author.Tests.{leb-true, leb-false, le-leb}
use Rattle.bits.specs.Bits.{Row, ones, xor_row}
use Rattle.bits.proofs.Rows.{row_xor_row, xor_row_assoc}
use Rattle.key.specs.Keys.{Key}
use Rattle.key.proofs.Accepted.{Accepted}
use Rattle.code.specs.Code.{in_code}
use Rattle.decoder.specs.Search.{or_else}
use Rattle.decoder.specs.Reading.{reading}
use Rattle.decoder.proofs.Sanity.{Corrects, reading_sound, reading_only}
use Rattle.decoder.proofs.Uniqueness.{code-words_equal, one_reading}
use Rattle.marks.specs.Marked.{unmarked, differences, marked_reading}
use Rattle.marks.specs.Tries.{with_marked, within, tried, filled_reading, two_readings}
use Rattle.marks.proofs.Added.{same_length, row_comm, added_back, added_front}
use Rattle.marks.proofs.Unmarked.{row_unmarked, ones_apart, ones-filled}
use Rattle.marks.proofs.Sound.{CorrectsMarked, marked_only, marked_nothing}

-- what is kept within the bound
within_some : (k : Key) (z x : List ℕ) {p : List ℕ} → within k z x ≡ some p → (x ≡ p) × (2 * differences z x + ones z ≤ 2 * k.t)
unfolding within
within_some k z x {p} h = go (leb (2 * differences z x + ones z) (2 * k.t)) refl h
  where
    go : (b : Bool) → leb (2 * differences z x + ones z) (2 * k.t) ≡ b → cond b (some x) none ≡ some p → (x ≡ p) × (2 * differences z x + ones z ≤ 2 * k.t)
    go true e h = (some-injective _ _ h, leb-true _ _ e)
    go false e h = absurd (none-ne-some _ h)

within_few : (k : Key) (z p : List ℕ) → 2 * differences z p + ones z ≤ 2 * k.t → within k z p ≡ some p
unfolding within
within_few k z p h = ap (λ (b : Bool). cond b (some p) none) (le-leb _ _ h)

module _ (k : Key) (A : Accepted k) {w z : List ℕ} (r : Row k.n w) (q : Row k.n z) where
  -- the sum of two sums with w
  sum_apart : {e d : List ℕ} → Row k.n e → Row k.n d → xor_row (xor_row w e) (xor_row w d) ≡ xor_row e d
  sum_apart {e} {d} a b =
      ap (λ (x : List ℕ). xor_row x (xor_row w d)) (row_comm r a)
      ∙ xor_row_assoc e w (xor_row w d) (le_of_eq (same_length a r)) ∙ ap (xor_row e) (added_front r b)

  -- a marked word has at most one reading
  pub one_marked : (e d : List ℕ) → CorrectsMarked k w z e → CorrectsMarked k w z d → d ≡ e
  one_marked e d a b =
      let l : ones (xor_row e d) ≤ differences z e + differences z d + ones z = ones_apart a.bits b.bits q in
      let fa = a.few in
      let fb = b.few in
      let few : ones (xor_row e d) ≤ k.t + k.t = omega arith in
      let same : xor_row w d ≡ xor_row w e = code-words_equal k A (row_xor_row r a.bits) (row_xor_row r b.bits) a.code b.code
      (subst (λ (x : List ℕ). ones x ≤ k.t + k.t) (sym (sum_apart a.bits b.bits)) few) in
      sym (added_front r b.bits) ∙ ap (xor_row w) same ∙ added_front r a.bits

  row_filled : (one : Bool) → Row k.n (with_marked one w z)
  unfolding with_marked
  row_filled true = row_xor_row (row_unmarked r q) q
  row_filled false = row_unmarked r q

  -- what a try gives leads from w into the code
  try_sound : (one : Bool) (p : List ℕ) → filled_reading k w z one ≡ some p → CorrectsMarked k w z p
  unfolding filled_reading tried
  try_sound one p h = go (reading k (with_marked one w z)) refl h
    where
      go : (o : Option (List ℕ)) → reading k (with_marked one w z) ≡ o → tried k w z (with_marked one w z) o ≡ some p → CorrectsMarked k w z p
      go none e h = absurd (none-ne-some _ h)
      go (some e) g h =
          let c : Corrects k (with_marked one w z) e = reading_sound k (with_marked one w z) e g in
          let f = row_filled one in
          let x = row_xor_row c.bits f in
          let i = within_some k z (xor_row (xor_row e (with_marked one w z)) w) h in
          let same : xor_row w (xor_row (xor_row e (with_marked one w z)) w) ≡ xor_row (with_marked one w z) e = ap (xor_row w) (row_comm x r) ∙ added_front r x ∙ row_comm c.bits f in
          subst (CorrectsMarked k w z) i.0 (record { bits = row_xor_row x r; few = i.1; code = ap (in_code k) same ∙ c.code })

  -- where a filled word is within t places of the code word, the try gives the pattern
  try_complete : (one : Bool) (p : List ℕ) → CorrectsMarked k w z p → ones (xor_row (with_marked one w z) (xor_row w p)) ≤ k.t → filled_reading k w z one ≡ some p
  unfolding filled_reading tried
  try_complete one p c few =
      let f = row_filled one in
      let d = row_xor_row r c.bits in
      let x = row_xor_row f d in
      let e : List ℕ = xor_row (with_marked one w z) (xor_row w p) in
      let g : Corrects k (with_marked one w z) e = record { bits = x; few = few; code = ap (in_code k) (added_front f d) ∙ c.code } in
      let found : reading k (with_marked one w z) ≡ some e = reading_only k (with_marked one w z) e g (λ y h. one_reading k A (with_marked one w z) e y f g h) in
      let same : xor_row (xor_row e (with_marked one w z)) w ≡ p = ap (λ (y : List ℕ). xor_row y w) (added_back f d) ∙ added_back r c.bits in
      ap (tried k w z (with_marked one w z)) found ∙ ap (within k z) same ∙ within_few k z p c.few

  -- one of the two words is within t places
  one_near : (p : List ℕ) → CorrectsMarked k w z p
      → (ones (xor_row (with_marked false w z) (xor_row w p)) ≤ k.t) ⊎ (ones (xor_row (with_marked true w z) (xor_row w p)) ≤ k.t)
  unfolding with_marked
  one_near p c = go (leb (ones (xor_row (unmarked z w) (xor_row w p))) k.t) refl
    where
      go : (b : Bool) → leb (ones (xor_row (unmarked z w) (xor_row w p))) k.t ≡ b
          → (ones (xor_row (unmarked z w) (xor_row w p)) ≤ k.t) ⊎ (ones (xor_row (xor_row (unmarked z w) z) (xor_row w p)) ≤ k.t)
      go true e = inl (leb-true _ _ e)
      go false e = let f = c.few in inr (omega (arith, leb-false (ones (xor_row (unmarked z w) (xor_row w p))) k.t e, ones-filled r c.bits q))

  pub twice : marked_reading k w z ≡ two_readings k w z
  unfolding two_readings or_else
  twice = go (filled_reading k w z false) (filled_reading k w z true) refl refl
    where
      only : (one : Bool) (p : List ℕ) → filled_reading k w z one ≡ some p → marked_reading k w z ≡ some p
      only one p h = let c = try_sound one p h in marked_only k w z p c (λ d g. one_marked p d c g)

      go : (a b : Option (List ℕ)) → filled_reading k w z false ≡ a → filled_reading k w z true ≡ b → marked_reading k w z ≡ or_else a b
      go (some p) b ea eb = only false p ea
      go none (some p) ea eb = only true p eb
      go none none ea eb = marked_nothing k w z (λ p c. missed p c (one_near p c))
        where
          missed : (p : List ℕ) → CorrectsMarked k w z p → (ones (xor_row (with_marked false w z) (xor_row w p)) ≤ k.t) ⊎ (ones (xor_row (with_marked true w z) (xor_row w p)) ≤ k.t) → ⊥
          missed p c (inl l) = none-ne-some _ (sym ea ∙ try_complete false p c l)
          missed p c (inr l) = none-ne-some _ (sym eb ∙ try_complete true p c l)
