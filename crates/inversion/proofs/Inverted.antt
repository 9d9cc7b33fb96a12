-- A workspace whose left halves hold the first columns of H, inverted: there is a public key exactly where the inversion succeeds, and it is
-- the product of the inverse with the other columns of H. Assumes nothing.
use mathlib.Core.Path.{◌≡◌, refl, ap, ◌∙◌}
use mathlib.Core.Bool.{true, false}
use mathlib.Core.List.{List, map}
use mathlib.Core.Option.{none, some}
use Prim.Native.Nat.{ℕ, ◌+◌, ◌*◌, ◌≤◌, ◌<◌}
use lib.ListN.{length, get_or, drop}
use Rattle.bits.specs.Bits.{from, bytes_for, unpack}
use Rattle.bits.proofs.Pack.{row_unpack}
use Rattle.poly.specs.Polynomials.{same}
use Rattle.key.specs.Keys.{Key}
use Rattle.code.specs.Code.{parity_row}
use Rattle.code.specs.PublicKey.{Matrix, echelon, public_key}
use Rattle.small_key.specs.Inverse.{both_bits, beside_identity, product_row}
use Rattle.small_key.proofs.ByInverse.{small_none, small_some}
use Rattle.inversion.specs.Inversion.{pair_bits, beside_row, beside_rows}

module _ (k : Key) (w : List ℕ) (columns : length k.support ≡ k.n) (less : k.m * k.t ≤ k.n)
    (left_at : (i c : ℕ) → i < k.m * k.t → c < k.m * k.t
    → get_or (unpack (8 * bytes_for (k.m * k.t)) (drop (i * (bytes_for (k.m * k.t) + bytes_for (k.m * k.t))) w)) c 0 ≡ get_or (parity_row k i) c 0) where
  abbrev mt : ℕ
  mt = k.m * k.t

  abbrev left : ℕ → List ℕ
  left r = unpack (8 * bytes_for mt) (drop (r * (bytes_for mt + bytes_for mt)) w)

  beside_same : beside_identity k left ≡ beside_rows mt mt w
  unfolding beside_identity beside_rows beside_row
  beside_same = refl

  pub inverted_none : same (echelon (pair_bits mt) (beside_rows mt mt w)).pivots (from 0 mt) ≡ false → public_key k ≡ none
  unfolding pair_bits
  inverted_none e =
      small_none k columns less left (λ i. row_unpack (8 * bytes_for mt) (drop (i * (bytes_for mt + bytes_for mt)) w)) left_at
      (ap (λ (m : Matrix). same (echelon (both_bits k) m).pivots (from 0 mt)) beside_same ∙ e)

  pub inverted_some : same (echelon (pair_bits mt) (beside_rows mt mt w)).pivots (from 0 mt) ≡ true
      → public_key k ≡ some (map (product_row k) (echelon (pair_bits mt) (beside_rows mt mt w)).done)
  unfolding pair_bits
  inverted_some e =
      small_some k columns less left (λ i. row_unpack (8 * bytes_for mt) (drop (i * (bytes_for mt + bytes_for mt)) w)) left_at
      (ap (λ (m : Matrix). same (echelon (both_bits k) m).pivots (from 0 mt)) beside_same ∙ e)
      ∙ ap (λ (m : Matrix). some (map (product_row k) (echelon (both_bits k) m).done)) beside_same
