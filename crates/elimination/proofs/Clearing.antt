-- A row of bytes with the pivot row added where it has a one is, as bits, the definition's. Assumes nothing.
use mathlib.Core.Path.{◌≡◌, refl, sym, ap, ap₂, ◌∙◌}
use mathlib.Core.List.{List, [], ◌∷◌, ◌++◌, map, map-map, map-append}
use Prim.Native.Nat.{ℕ, zero, suc, ◌+◌, ◌*◌, ◌/◌, ◌%◌, ◌^◌, ◌≤◌, ◌<◌}
use native.Mathlib.Nat.{zero-mul, one-mul, mul-zero, zero-div, zero-mod, not-suc-le-zero, le_of_suc-le-suc}
use native.Mathlib.Omega.{arith}
use lib.ListN.{length, get_or, take, drop, length-map, length-drop, get_or-map}
use lib.Seq.{length-take-le, drop_at, drop-drop}
use Rattle.bits.specs.Xor.{◌⊕◌}
use Rattle.bits.specs.Bits.{from, bytes_for, bit_at, unpack, each_with, xor_row}
use Rattle.bits.proofs.Xor.{Digit, off, on, xor-zero}
use Rattle.bits.proofs.Bits.{bit_digit}
use Rattle.bits.proofs.Lists.{cons_eq, map-from}
use Rattle.bits.proofs.Rows.{xor_row-nil}
use Rattle.bits.proofs.Pack.{unpack-at, unpack-xor_row}
use Rattle.code.specs.PublicKey.{Matrix, clear}
use Rattle.code.specs.Lock.{rows_of}
use Rattle.elimination.specs.Elimination.{clear_front}
use Rattle.code.proofs.PackedRows.{rows_snoc, rows_front}

-- a row times a digit
one_times : (t : List ℕ) → map (◌*◌ 1) t ≡ t
one_times [] = refl
one_times (x ∷ t) = cons_eq (one-mul x) (one_times t)

xor_row-zero_times : (w t : List ℕ) → xor_row w (map (◌*◌ 0) t) ≡ w
unfolding xor_row each_with
xor_row-zero_times [] t = refl
xor_row-zero_times (x ∷ w) [] = refl
xor_row-zero_times (x ∷ w) (y ∷ t) = cons_eq (ap (◌⊕◌ x) (zero-mul y) ∙ xor-zero x) (xor_row-zero_times w t)

bit_times : {d : ℕ} → Digit d → (t : List ℕ) (i : ℕ) → bit_at (map (◌*◌ d) t) i ≡ d * bit_at t i
unfolding bit_at
bit_times {d} g t i = ap (λ (x : ℕ). x / 2 ^ (i % 8) % 2) (ap (get_or (map (◌*◌ d) t) (i / 8)) (sym (mul-zero d)) ∙ get_or-map (◌*◌ d) t (i / 8) 0) ∙ go g (get_or t (i / 8) 0)
  where
    go : {d : ℕ} → Digit d → (x : ℕ) → d * x / 2 ^ (i % 8) % 2 ≡ d * (x / 2 ^ (i % 8) % 2)
    go off x = simp (zero-mul, zero-div, zero-mod)
    go on x = simp one-mul

unpack_times : {d : ℕ} → Digit d → (n : ℕ) (t : List ℕ) → unpack n (map (◌*◌ d) t) ≡ map (◌*◌ d) (unpack n t)
unfolding unpack
unpack_times {d} g n t =
    map-from (bit_at (map (◌*◌ d) t)) (λ i. d * bit_at t i) 0 0 n (λ i l. bit_times g t (0 + i))
    ∙ sym (map-map (◌*◌ d) (bit_at t) (from 0 n))

-- the row in front, where it has a zero in column j and where it has a one
pub clear_none : (j : ℕ) (t w : List ℕ) → bit_at w j ≡ 0 → w ≡ clear_front j t w
unfolding clear_front
clear_none j t w e = sym (ap (λ (d : ℕ). xor_row w (map (◌*◌ d) t)) e ∙ xor_row-zero_times w t)

pub clear_one : (j : ℕ) (t w : List ℕ) → bit_at w j ≡ 1 → xor_row w t ≡ clear_front j t w
unfolding clear_front
clear_one j t w e = ap (xor_row w) (sym (one_times t)) ∙ ap (λ (d : ℕ). xor_row w (map (◌*◌ d) t)) (sym e)

unpack-clear : (n j : ℕ) (t w : List ℕ) → j < n → length t ≤ length w → unpack n (clear_front j t w) ≡ clear j (unpack n t) (unpack n w)
unfolding clear clear_front
unpack-clear n j t w h l =
    let d : ℕ = bit_at w j in
    let s : length (map (◌*◌ d) t) ≤ length w = omega (arith, length-map t (◌*◌ d)) in
    unpack-xor_row n w (map (◌*◌ d) t) s
    ∙ ap (xor_row (unpack n w))
    (unpack_times (bit_digit w j) n t ∙ ap (λ (x : ℕ). map (◌*◌ x) (unpack n t)) (sym (unpack-at n w j 0 h)))

drop-xor_row : (k : ℕ) (w s : List ℕ) → length s ≤ k → drop k (xor_row w s) ≡ drop k w
unfolding xor_row each_with
drop-xor_row k w [] h = ap (drop k) (xor_row-nil w)
drop-xor_row zero w (y ∷ s) h = absurd (not-suc-le-zero h)
drop-xor_row (suc k) [] (y ∷ s) h = refl
drop-xor_row (suc k) (x ∷ w) (y ∷ s) h = drop-xor_row k w s (le_of_suc-le-suc h)

drop-clear : (k j : ℕ) (t w : List ℕ) → length t ≤ k → drop k (clear_front j t w) ≡ drop k w
unfolding clear_front
drop-clear k j t w h =
    drop-xor_row k w (map (◌*◌ (bit_at w j)) t) (omega (arith, length-map t (◌*◌ (bit_at w j))))

-- row r of a workspace, at its index, after r rows that are cleared; w₀ is the workspace before
module _ (r n j at : ℕ) (t w₀ w : List ℕ) (column : j < n) (size : length t ≡ bytes_for n) (place : at ≡ r * bytes_for n)
    (room : at + bytes_for n ≤ length w) (rest : drop at w ≡ drop at w₀) where
  front : length (take at w) ≡ at
  front = length-take-le at w (omega arith)

  pub clear_next : rows_of r n w ≡ map (clear j (unpack n t)) (rows_of r n w₀)
      → rows_of (r + 1) n (take at w ++ clear_front j t (drop at w)) ≡ map (clear j (unpack n t)) (rows_of (r + 1) n w₀)
  clear_next e =
      let p : List ℕ = unpack n t in
      let y : List ℕ = drop at w in
      let u : List ℕ = take at w ++ clear_front j t y in
      rows_snoc r n u
      ∙ ap₂ (λ (xs : Matrix) (x : List ℕ). xs ++ (x ∷ []))
      (rows_front r n at w (clear_front j t y) (omega arith) (omega arith) ∙ e)
      (ap (unpack n) (drop_at (take at w) (clear_front j t y) (r * bytes_for n) (front ∙ place))
      ∙ unpack-clear n j t y column (omega (arith, length-drop at w))
      ∙ ap (λ (z : List ℕ). clear j p (unpack n z)) (rest ∙ ap (λ (k : ℕ). drop k w₀) place))
      ∙ sym (ap (map (clear j p)) (rows_snoc r n w₀) ∙ map-append (clear j p) (rows_of r n w₀) (unpack n (drop (r * bytes_for n) w₀) ∷ []))

  pub clear_rest : drop (at + bytes_for n) (take at w ++ clear_front j t (drop at w)) ≡ drop (at + bytes_for n) w₀
  clear_rest =
      let b : ℕ = bytes_for n in
      let z : List ℕ = clear_front j t (drop at w) in
      sym (drop-drop b at (take at w ++ z)) ∙ ap (drop b) (drop_at (take at w) z at front)
      ∙ drop-clear b j t (drop at w) (omega arith) ∙ ap (drop b) rest ∙ drop-drop b at w₀
