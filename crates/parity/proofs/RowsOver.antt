-- Bits written over the first bits of a row, and rows over the rows of a workspace. Assumes nothing.
use mathlib.Core.Path.{◌≡◌, refl, sym, ap, ap₂, ◌∙◌}
use mathlib.Core.List.{List, [], ◌∷◌, ◌++◌, zip_with}
use Prim.Native.Nat.{ℕ, zero, suc, ◌+◌, ◌*◌, ◌/◌, ◌%◌, ◌≤◌, ◌<◌}
use native.Mathlib.Nat.{le_of_eq, mod-eq_of_lt, suc_inj, suc-ne-zero}
use native.Mathlib.Omega.{arith}
use lib.ListN.{length, get_or, take, drop, set}
use lib.Seq.{length-take-le, take_all, drop_at, drop-drop, drop-set-lt}
use Rattle.bits.specs.Bits.{Row, from, bytes_for, with_bit, set_bit, put_bits, unpack, over}
use Rattle.bits.proofs.Bits.{length-set_bit}
use Rattle.bits.proofs.Pack.{row_lt, row_length, length-unpack, unpack-set_bit}
use Rattle.bits.proofs.PutBits.{put_next, put_end}
use Rattle.bits.proofs.Padded.{over-start, over-next}
use Rattle.code.specs.PublicKey.{Matrix}
use Rattle.code.specs.Lock.{rows_of}
use Rattle.code.proofs.PackedRows.{rows_one, rows_add, rows_front, length_rows}
use Rattle.parity.specs.Rows.{over_rows}

-- the bits from j on written, where those before stand over a row of n bits
put_left : {k : ℕ} {d : List ℕ} (c n j : ℕ) (s u : List ℕ) → Row k d → c + j ≡ k → k ≤ n → n ≤ 8 * length s → length u ≡ n
    → unpack n s ≡ over (take j d) u → unpack n (put_bits (drop j d) j s) ≡ over d u
put_left {d = d} zero n j s u r e h l z o =
    let i : length d ≤ j = omega (arith, row_length r) in
    ap (unpack n) (put_end d j s i) ∙ o ∙ ap (λ (x : List ℕ). over x u) (take_all j d i)
put_left {d = d} (suc c) n j s u r e h l z o =
    let i : j < length d = omega (arith, row_length r) in
    let b : ℕ = get_or d j 0 in
    ap (unpack n) (sym (put_next d j s i))
    ∙ put_left c n (j + 1) (set_bit s j b) u r (omega arith) h (rw (length-set_bit s j b) l) z
    (unpack-set_bit n s j b (omega arith)
    ∙ ap₂ (λ (x : List ℕ) (y : ℕ). set x j y) o (mod-eq_of_lt (row_lt r j))
    ∙ over-next j d u i (omega arith))

pub unpack-put : {k : ℕ} {d : List ℕ} (n : ℕ) (s : List ℕ) → Row k d → k ≤ n → n ≤ 8 * length s → unpack n (put_bits d 0 s) ≡ over d (unpack n s)
unpack-put {k} {d} n s r h l = put_left k n 0 s (unpack n s) r (omega arith) h l (length-unpack n s) (over-start d (unpack n s))

-- bytes behind those of the bits keep their contents
pub put_rest : (bs : List ℕ) (i : ℕ) (s : List ℕ) (k : ℕ) → i + length bs ≤ 8 * k → drop k (put_bits bs i s) ≡ drop k s
unfolding put_bits set_bit
put_rest [] i s k h = refl
put_rest (b ∷ bs) i s k h =
    put_rest bs (suc i) (set_bit s i b) k (omega arith) ∙ drop-set-lt k s (i / 8) (with_bit (get_or s (i / 8) 0) (i % 8) (b % 2)) (omega arith)

-- what lies behind b bytes of a part from `at` on, where the part keeps it
pub part_rest : (at b : ℕ) (w₀ w y : List ℕ) → at ≤ length w → drop at w ≡ drop at w₀ → drop b y ≡ drop b (drop at w)
    → drop (at + b) (take at w ++ y) ≡ drop (at + b) w₀
part_rest at b w₀ w y h rest kept =
    sym (drop-drop b at (take at w ++ y))
    ∙ ap (drop b) (drop_at (take at w) y at (length-take-le at w h))
    ∙ kept
    ∙ ap (drop b) rest
    ∙ drop-drop b at w₀

over-append : (a b c d : Matrix) → length a ≡ length b → over_rows (a ++ c) (b ++ d) ≡ over_rows a b ++ over_rows c d
unfolding over_rows zip_with
over-append [] [] c d h = refl
over-append [] (y ∷ b) c d h = absurd (suc-ne-zero _ (sym h))
over-append (x ∷ a) [] c d h = absurd (suc-ne-zero _ h)
over-append (x ∷ a) (y ∷ b) c d h = ap (◌∷◌ (over x y)) (over-append a b c d (suc_inj h))

pub over_none : (n : ℕ) (w w₀ : List ℕ) → rows_of 0 n w ≡ over_rows [] (rows_of 0 n w₀)
unfolding over_rows zip_with rows_of from
over_none n w w₀ = refl

pub over_one : (n : ℕ) (d w : List ℕ) → over_rows (d ∷ []) (rows_of 1 n w) ≡ over d (unpack n w) ∷ []
unfolding over_rows zip_with
over_one n d w = ap (over_rows (d ∷ [])) (rows_one n w)

-- j rows written over those behind the first k of a workspace, from byte `at` on
pub over-placed : (k j n at : ℕ) (a b : Matrix) (w₀ w y : List ℕ) → at ≡ k * bytes_for n → at ≤ length w → length a ≡ k → drop at w ≡ drop at w₀
    → rows_of k n w ≡ over_rows a (rows_of k n w₀) → rows_of j n y ≡ over_rows b (rows_of j n (drop at w))
    → rows_of (k + j) n (take at w ++ y) ≡ over_rows (a ++ b) (rows_of (k + j) n w₀)
over-placed k j n at a b w₀ w y e h l rest front behind =
    rows_add k j n (take at w ++ y)
    ∙ ap₂ (λ (x z : Matrix). x ++ z)
    (rows_front k n at w y (le_of_eq (sym e)) h ∙ front)
    (ap (rows_of j n) (drop_at (take at w) y (k * bytes_for n) (length-take-le at w h ∙ e))
    ∙ behind
    ∙ ap (λ (x : List ℕ). over_rows b (rows_of j n x)) (rest ∙ ap (λ (i : ℕ). drop i w₀) e))
    ∙ sym (over-append a (rows_of k n w₀) b (rows_of j n (drop (k * bytes_for n) w₀)) (l ∙ sym (length_rows k n w₀)))
    ∙ ap (over_rows (a ++ b)) (sym (rows_add k j n w₀))
