-- What a turn of each loop does: blocks absorbed, bytes written, blocks squeezed. Assumes nothing.
use mathlib.Core.Path.{◌≡◌, sym, ap, ap₂, ◌∙◌}
use mathlib.Core.List.{List, ◌++◌, map, append_assoc, append-nil}
use Prim.Native.Nat.{ℕ, suc, ◌+◌, ◌-◌, ◌*◌, ◌/◌, ◌%◌, ◌^◌, ◌≤◌, ◌<◌}
use native.Mathlib.Nat.{zero-add, sub-zero}
use native.Mathlib.Numerals.{add-one}
use native.Mathlib.Omega.{arith}
use borrow.Rule.Slice.PartMut.{put_mid}
use lib.ListN.{length, get_or, take, drop, replicate, length-append, length-drop}
use lib.Seq.{take_at, take-append-le, take-append-add, drop-drop, length-take-le, drop-length}
use Rattle.bits.specs.Bits.{from, over}
use Rattle.bits.proofs.Lists.{from-add, map-append, map-from, map-from-at, map-from-part, length-map-from}
use Rattle.bits.proofs.Parts.{part_all, part_back}
use Rattle.keccak.specs.Lanes.{permuted, absorbed, last_block, absorbed_blocks, absorbed_all, lane_bytes, state_byte, state_bytes, squeezed_blocks, squeezed}
use Rattle.keccak.proofs.Sponge.{bytes_count}

-- the part of a list from `at` on
pub rest_count : (at : ℕ) (s : List ℕ) → length (take (length s - at) (drop at s)) ≡ length s - at
rest_count at s = ap length (part_all at s) ∙ length-drop at s

-- blocks of input, from byte `at` on
unfoldable pub absorbed_from : ℕ → List ℕ → List ℕ → List ℕ
absorbed_from at s a = absorbed_blocks ((length s - at) / 136) (drop at s) a

pub absorb-start : (s : List ℕ) → absorbed_from 0 s (replicate 25 0) ≡ absorbed_all s
unfolding absorbed_from absorbed_all
absorb-start s = ap (λ (k : ℕ). absorbed_blocks (k / 136) s (replicate 25 0)) (sub-zero (length s))

module _ (at : ℕ) (s a : List ℕ) where
  pub absorb-next : 136 ≤ length s - at → absorbed_from (at + 136) s (permuted (absorbed a (drop at s))) ≡ absorbed_from at s a
  unfolding absorbed_from absorbed_blocks
  absorb-next h =
      let e : suc ((length s - (at + 136)) / 136) ≡ (length s - at) / 136 = omega arith in
      ap (λ (l : List ℕ). absorbed_blocks ((length s - (at + 136)) / 136) l (permuted (absorbed a (drop at s)))) (sym (drop-drop 136 at s))
      ∙ ap (λ (n : ℕ). absorbed_blocks n (drop at s) a) e

  pub absorb_end : length s - at < 136 → permuted (absorbed a (last_block (drop at s))) ≡ absorbed_from at s a
  unfolding absorbed_from absorbed_blocks
  absorb_end h = let e : 0 ≡ (length s - at) / 136 = omega arith in ap (λ (n : ℕ). absorbed_blocks n (drop at s) a) e

-- bytes of a lane and of a state
pub over_all : (l d : List ℕ) → length l ≡ length d → over l d ≡ l
unfolding over
over_all l d e = ap (λ (n : ℕ). l ++ drop n d) e ∙ ap (◌++◌ l) (drop-length d) ∙ append-nil l

module _ (n v : ℕ) where
  pub lane_bytes_count : length (lane_bytes n v) ≡ n
  unfolding lane_bytes
  lane_bytes_count = length-map-from (λ i. v / 2 ^ (8 * i) % 256) 0 n

  pub lane_byte_at : (i : ℕ) → i < n → get_or (lane_bytes n v) i 0 ≡ v / 2 ^ (8 * i) % 256
  unfolding lane_bytes
  lane_byte_at i h = map-from-at (λ i. v / 2 ^ (8 * i) % 256) 0 n i 0 h ∙ ap (λ (k : ℕ). v / 2 ^ (8 * k) % 256) (zero-add i)

-- behind the bytes of k lanes those of the next
lane-next : (k n : ℕ) (a : List ℕ) → n ≤ 8 → state_bytes (8 * k) a ++ lane_bytes n (get_or a k 0) ≡ state_bytes (8 * k + n) a
unfolding state_bytes lane_bytes state_byte
lane-next k n a h =
    sym (ap (map (state_byte a)) (from-add 0 (8 * k) n)
    ∙ map-append (state_byte a) (from 0 (8 * k)) (from (0 + 8 * k) n)
    ∙ ap (◌++◌ (map (state_byte a) (from 0 (8 * k))))
    (map-from (state_byte a) (λ i. get_or a k 0 / 2 ^ (8 * i) % 256) (0 + 8 * k) 0 n
    (λ i l.
    let p : (0 + 8 * k + i) / 8 ≡ k = omega arith in
    let q : (0 + 8 * k + i) % 8 ≡ 0 + i = omega arith in
    ap₂ (λ (x y : ℕ). get_or a x 0 / 2 ^ (8 * y) % 256) p q)))

take_bytes : (n m : ℕ) (a : List ℕ) → n ≤ m → take n (state_bytes m a) ≡ state_bytes n a
unfolding state_bytes
take_bytes n m a h = map-from-part (state_byte a) 0 m 0 n (omega arith)

-- a part of the output filled: the bytes before its end
module _ (f : ℕ → List ℕ) (count : (n : ℕ) → length (f n) ≡ n) (out new : List ℕ) (at end : ℕ) (h : at ≤ end) (l : end ≤ length out) where
  part_filled : new ≡ f (length (take (end - at) (drop at out))) → take end (put_mid at (end - at) out new) ≡ take at out ++ f (end - at)
  part_filled e =
      let k : length (take (end - at) (drop at out)) ≡ end - at = length-take-le (end - at) (drop at out) (omega (arith, length-drop at out)) in
      let g : new ≡ f (end - at) = e ∙ ap f k in
      let n : length new ≡ end - at = ap length g ∙ count (end - at) in
      let t : length (take at out) ≡ at = length-take-le at out (omega arith) in
      ap (take end) (sym (append_assoc (take at out) new (drop (end - at) (drop at out))))
      ∙ take_at (take at out ++ new) (drop (end - at) (drop at out)) end (omega (arith, length-append (take at out) new))
      ∙ ap (◌++◌ (take at out)) g

last-filled : (f : ℕ → List ℕ) (out new : List ℕ) (at : ℕ) → new ≡ f (length (take (length out - at) (drop at out)))
    → put_mid at (length out - at) out new ≡ take at out ++ f (length out - at)
last-filled f out new at e =
    part_back at out new ∙ ap (◌++◌ (take at out)) (e ∙ ap f (rest_count at out))

-- the next lane written behind the bytes of k lanes, and the last, as far as the output goes
module _ (out new a : List ℕ) (at k : ℕ) (e : at ≡ 8 * k) (before : take at out ≡ state_bytes (8 * k) a) where
  pub write_next : at + 8 ≤ length out → new ≡ lane_bytes (length (take (at + 8 - at) (drop at out))) (get_or a k 0)
      → take (at + 8) (put_mid at (at + 8 - at) out new) ≡ state_bytes (8 * (k + 1)) a
  write_next h f =
      let m : at + 8 - at ≡ 8 = omega arith in
      let n : 8 * k + 8 ≡ 8 * (k + 1) = omega arith in
      part_filled (λ n. lane_bytes n (get_or a k 0)) (λ n. lane_bytes_count n (get_or a k 0)) out new at (at + 8) (omega arith) h f
      ∙ ap₂ (λ (l : List ℕ) (n : ℕ). l ++ lane_bytes n (get_or a k 0)) before m
      ∙ lane-next k 8 a (omega arith)
      ∙ ap (λ (n : ℕ). state_bytes n a) n

  pub write_end : at ≤ length out → length out - at ≤ 8 → new ≡ lane_bytes (length (take (length out - at) (drop at out))) (get_or a k 0)
      → put_mid at (length out - at) out new ≡ state_bytes (length out) a
  write_end h l f =
      let n : 8 * k + (length out - at) ≡ length out = omega arith in
      last-filled (λ n. lane_bytes n (get_or a k 0)) out new at f
      ∙ ap (λ (b : List ℕ). b ++ lane_bytes (length out - at) (get_or a k 0)) before
      ∙ lane-next k (length out - at) a l
      ∙ ap (λ (n : ℕ). state_bytes n a) n

-- blocks of output
squeezed-next : (n : ℕ) (a : List ℕ) → 136 ≤ n → squeezed n a ≡ state_bytes 136 a ++ squeezed (n - 136) (permuted a)
unfolding squeezed squeezed_blocks
squeezed-next n a h =
    let e : 8 * n / 1088 + 1 ≡ suc (8 * (n - 136) / 1088 + 1) = omega arith in
    let l : n ≡ length (state_bytes 136 a) + (n - 136) = omega (arith, bytes_count 136 a) in
    ap₂ (λ (k m : ℕ). take k (squeezed_blocks m a)) l e
    ∙ take-append-add (state_bytes 136 a) (squeezed_blocks (8 * (n - 136) / 1088 + 1) (permuted a)) (n - 136)

squeezed_end : (n : ℕ) (a : List ℕ) → n ≤ 136 → squeezed n a ≡ state_bytes n a
unfolding squeezed squeezed_blocks
squeezed_end n a h =
    ap (λ (m : ℕ). take n (squeezed_blocks m a)) (add-one (8 * n / 1088))
    ∙ take-append-le n (state_bytes 136 a) (squeezed_blocks (8 * n / 1088) (permuted a)) (omega (arith, bytes_count 136 a))
    ∙ take_bytes n 136 a h

-- a block of output, and the last
module _ (out new a : List ℕ) (at : ℕ) where
  pub squeeze-next : at + 136 ≤ length out → new ≡ state_bytes (length (take (at + 136 - at) (drop at out))) a
      → take (at + 136) (put_mid at (at + 136 - at) out new) ++ squeezed (length out - (at + 136)) (permuted a) ≡ take at out ++ squeezed (length out - at) a
  squeeze-next h e =
      let rest : List ℕ = squeezed (length out - (at + 136)) (permuted a) in
      let k : at + 136 - at ≡ 136 = omega arith in
      let m : length out - (at + 136) ≡ length out - at - 136 = omega arith in
      ap (λ (l : List ℕ). l ++ rest) (part_filled (λ n. state_bytes n a) (λ n. bytes_count n a) out new at (at + 136) (omega arith) h e)
      ∙ append_assoc (take at out) (state_bytes (at + 136 - at) a) rest
      ∙ ap₂ (λ (n m : ℕ). take at out ++ (state_bytes n a ++ squeezed m (permuted a))) k m
      ∙ ap (◌++◌ (take at out)) (sym (squeezed-next (length out - at) a (omega arith)))

  pub squeeze_end : length out - at ≤ 136 → new ≡ state_bytes (length (take (length out - at) (drop at out))) a
      → put_mid at (length out - at) out new ≡ take at out ++ squeezed (length out - at) a
  squeeze_end h e =
      last-filled (λ n. state_bytes n a) out new at e ∙ ap (◌++◌ (take at out)) (sym (squeezed_end (length out - at) a h))
