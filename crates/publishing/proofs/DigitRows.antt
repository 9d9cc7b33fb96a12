-- Rows of digits behind others in a workspace, one directly behind another. Assumes nothing.
use mathlib.Core.Path.{◌≡◌, refl, sym, ap, ap₂, ◌∙◌, subst}
use mathlib.Core.List.{List, ◌++◌}
use Prim.Native.Nat.{ℕ, ◌+◌, ◌*◌, ◌≤◌}
use native.Mathlib.Nat.{le_of_eq}
use native.Mathlib.Omega.{arith}
use lib.ListN.{length, take}
use lib.Seq.{length-take-le, drop_at}
use Rattle.bits.specs.Bits.{Row, from, bytes_for, put_bits, unpack}
use Rattle.bits.proofs.Pack.{bytes_enough}
use Rattle.bits.proofs.PutBits.{unpack-put_bits}
use Rattle.code.specs.PublicKey.{Matrix}
use Rattle.code.specs.Lock.{rows_of}
use Rattle.code.proofs.PackedRows.{rows_add, rows_front}
use Rattle.parity.specs.Rows.{digit_row, digit_rows}
use Rattle.parity.proofs.DigitRows.{row_digit_row}

-- read back from where they were written
pub unpack-digits : (n : ℕ) (p : List ℕ) (k : ℕ) (s : List ℕ) → n ≤ length p → bytes_for n ≤ length s
    → unpack n (put_bits (digit_row (take n p) k) 0 s) ≡ digit_row (take n p) k
unpack-digits n p k s h l =
    unpack-put_bits s (subst (λ (i : ℕ). Row i (digit_row (take n p) k)) (length-take-le n p h) (row_digit_row (take n p) k))
    (omega (arith, bytes_enough n))

pub digit_rows_none : (n : ℕ) (p w : List ℕ) → rows_of 0 n w ≡ digit_rows 0 p
unfolding digit_rows rows_of from
digit_rows_none n p w = refl

-- j rows behind the first k of a workspace, from byte `at` on
pub rows_placed : (k j n at : ℕ) (w y : List ℕ) → at ≡ k * bytes_for n → at ≤ length w → rows_of (k + j) n (take at w ++ y) ≡ rows_of k n w ++ rows_of j n y
rows_placed k j n at w y e h =
    rows_add k j n (take at w ++ y)
    ∙ ap₂ (λ (a b : Matrix). a ++ b)
    (rows_front k n at w y (le_of_eq (sym e)) h)
    (ap (rows_of j n) (drop_at (take at w) y (k * bytes_for n) (length-take-le at w h ∙ e)))
