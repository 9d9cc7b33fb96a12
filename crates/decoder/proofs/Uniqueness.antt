-- Under an accepted key a word has at most one reading: two patterns for it would differ by a code word with at most 2t ones.
-- Assumes nothing.
use mathlib.Core.Path.{◌≡◌, refl, sym, ap, ap₂, ◌∙◌}
use mathlib.Core.Bool.{true}
use mathlib.Core.List.{List, map}
use Prim.Native.Nat.{ℕ, ◌+◌, ◌≤◌, ◌<◌}
use native.Mathlib.Nat.{zero-add, le_refl}
use native.Mathlib.Omega.{arith}
use Rattle.bits.specs.Xor.{◌⊕◌}
use Rattle.bits.specs.Bits.{Row, end, off, on, ones, xor_row, each_with, dot}
use Rattle.bits.proofs.Xor.{xor_self, xor_eq}
use Rattle.bits.proofs.Lists.{cons_eq}
use Rattle.bits.proofs.Rows.{row_xor_row}
use Rattle.bits.proofs.Product.{dot-xor_row}
use Rattle.key.specs.Keys.{Key}
use Rattle.key.proofs.Accepted.{Accepted}
use Rattle.code.specs.Code.{entry, in_code}
use Rattle.decoder.proofs.Sanity.{Corrects}
use Rattle.decoder.proofs.Words.{code_sums, sums_code}
use Rattle.decoder.proofs.Distance.{distance}

-- the ones of a sum
pub ones-xor_row : {n : ℕ} {e d : List ℕ} → Row n e → Row n d → ones (xor_row e d) ≤ ones e + ones d
unfolding ones xor_row each_with ◌⊕◌
ones-xor_row end end = le_refl 0
ones-xor_row (off a) (off b) = let h = ones-xor_row a b in omega arith
ones-xor_row (off a) (on b) = let h = ones-xor_row a b in omega arith
ones-xor_row (on a) (off b) = let h = ones-xor_row a b in omega arith
ones-xor_row (on a) (on b) = let h = ones-xor_row a b in omega arith

-- rows whose sum has no ones are equal
no_ones_equal : {n : ℕ} {e d : List ℕ} → Row n e → Row n d → ones (xor_row e d) ≡ 0 → d ≡ e
unfolding ones xor_row each_with ◌⊕◌
no_ones_equal end end h = refl
no_ones_equal (off a) (off b) h = cons_eq refl (no_ones_equal a b (sym (zero-add _) ∙ h))
no_ones_equal (off a) (on b) h = absurd (omega arith)
no_ones_equal (on a) (off b) h = absurd (omega arith)
no_ones_equal (on a) (on b) h = cons_eq refl (no_ones_equal a b (sym (zero-add _) ∙ h))

module _ (k : Key) (A : Accepted k) {e d : List ℕ} (a : Row k.n e) (b : Row k.n d) (few : ones e ≤ k.t) (too : ones d ≤ k.t) where
  -- two patterns that differ by a code word are equal
  pub code_equal : in_code k (xor_row e d) ≡ true → d ≡ e
  code_equal h =
      let o : ones (xor_row e d) ≤ ones e + ones d = ones-xor_row a b in
      no_ones_equal a b (distance k A (row_xor_row a b) h (omega arith))

  -- so are two with the same sums
  pub sums_equal : ((s : ℕ) → s < k.t → dot e (map (entry k s) k.support) ≡ dot d (map (entry k s) k.support)) → d ≡ e
  sums_equal h =
      code_equal (sums_code k (xor_row e d) (λ s l.
      dot-xor_row a b (map (entry k s) k.support) ∙ ap (λ (x : ℕ). x ⊕ dot d (map (entry k s) k.support)) (h s l) ∙ xor_self _))

-- two code words that differ in at most 2t places are equal
pub code-words_equal : (k : Key) → Accepted k → {c d : List ℕ} → Row k.n c → Row k.n d → in_code k c ≡ true → in_code k d ≡ true
    → ones (xor_row c d) ≤ k.t + k.t → d ≡ c
code-words_equal k A {c} {d} a b p q few = no_ones_equal a b (distance k A (row_xor_row a b) (sums_code k (xor_row c d) sum) few)
  where
    sum : (s : ℕ) → s < k.t → dot (xor_row c d) (map (entry k s) k.support) ≡ 0
    sum s l = dot-xor_row a b (map (entry k s) k.support) ∙ ap₂ ◌⊕◌ (code_sums k c p s l) (code_sums k d q s l) ∙ xor_self 0

-- a word has at most one reading
pub one_reading : (k : Key) → Accepted k → (w e d : List ℕ) → Row k.n w → Corrects k w e → Corrects k w d → d ≡ e
one_reading k A w e d r p q = sums_equal k A p.bits q.bits p.few q.few (λ s l. sym (same e p s l) ∙ same d q s l)
  where
    same : (e : List ℕ) → Corrects k w e → (s : ℕ) → s < k.t → dot w (map (entry k s) k.support) ≡ dot e (map (entry k s) k.support)
    same e p s l = xor_eq _ _ (sym (dot-xor_row r p.bits _) ∙ code_sums k (xor_row w e) p.code s l)
