-- Bits written one after another from a place on: what each bit is then, and the packed row that they make. Assumes nothing.
use mathlib.Core.Path.{◌≡◌, refl, sym, ap, ap₂, ◌∙◌}
use mathlib.Core.List.{List, [], ◌∷◌, ◌++◌, map}
use Prim.Native.Nat.{ℕ, zero, suc, ◌+◌, ◌-◌, ◌*◌, ◌/◌, ◌%◌, ◌≤◌, ◌<◌}
use native.Mathlib.Nat.{add-zero, zero-add, mod-eq_of_lt, not-suc-le-zero, le_of_suc-le-suc}
use native.Mathlib.Numerals.{add-one}
use native.Mathlib.Decide.{dec_lt}
use native.Mathlib.Omega.{arith}
use borrow.Author.Tests.{le-leb, lt-leb}
use borrow.Rule.Slice.PartMut.{put_mid}
use lib.ListN.{length, get_or, take, drop, set, replicate, length-replicate, length-drop, take-append-drop, drop_of_length-le, get_or-append, get_or-eq_default}
use lib.Seq.{drop-cons, drop-drop, length-take-le, ext_get_or, set-append_left}
use Rattle.bits.specs.Bits.{Bytes, Row, bytes_for, bit_at, with_bit, set_bit, put_bits, unpack, pack, over, from, row_written}
use Rattle.bits.proofs.Bits.{bit_zeros, bytes_zeros, bits_determine, length-set_bit, bytes_set_bit, set_bit-same, set_bit_other}
use Rattle.bits.proofs.Pack.{row_lt, row_length, length-unpack, unpack-at, unpack_ext, bytes_enough, length-pack, bytes_pack, bit_pack, pack-unpack, well_formed_zeros}
use Rattle.bits.proofs.Parts.{part_all, part_back}

-- as a loop over a list of bits writes them: one more, and none left
pub put_next : (l : List ℕ) (j : ℕ) (s : List ℕ) → j < length l
    → put_bits (drop (j + 1) l) (j + 1) (set_bit s j (get_or l j 0)) ≡ put_bits (drop j l) j s
unfolding put_bits
put_next l j s h = rw (add-one, drop-cons l j 0)

pub put_end : (l : List ℕ) (j : ℕ) (s : List ℕ) → length l ≤ j → put_bits (drop j l) j s ≡ s
unfolding put_bits
put_end l j s h = rw (drop_of_length-le l h)

-- several bits at once: those from j to j + k, and then those behind them
put_both : (l r : List ℕ) (i : ℕ) (s : List ℕ) → put_bits (l ++ r) i s ≡ put_bits r (i + length l) (put_bits l i s)
unfolding put_bits
put_both [] r i s = ap (λ (j : ℕ). put_bits r j s) (sym (add-zero i))
put_both (b ∷ l) r i s =
    let e : suc i + length l ≡ i + suc (length l) = omega arith in
    put_both l r (suc i) (set_bit s i b) ∙ ap (λ (j : ℕ). put_bits r j (put_bits l (suc i) (set_bit s i b))) e

put_more : (l : List ℕ) (j k : ℕ) (s : List ℕ) → j + k ≤ length l
    → put_bits (drop (j + k) l) (j + k) (put_bits (take k (drop j l)) j s) ≡ put_bits (drop j l) j s
put_more l j k s h =
    let n : length (take k (drop j l)) ≡ k = length-take-le k (drop j l) (omega (arith, length-drop j l)) in
    ap₂ (λ (r : List ℕ) (i : ℕ). put_bits r i (put_bits (take k (drop j l)) j s)) (sym (drop-drop k j l)) (ap (◌+◌ j) (sym n))
    ∙ sym (put_both (take k (drop j l)) (drop k (drop j l)) j s)
    ∙ ap (λ (r : List ℕ). put_bits r j s) (take-append-drop k (drop j l))

-- bits put behind the first bytes: into the part that starts there
set_behind : (x : ℕ) (s : List ℕ) (i v : ℕ) → set_bit (x ∷ s) (8 + i) v ≡ x ∷ set_bit s i v
unfolding set_bit
set_behind x s i v =
    let q : (8 + i) / 8 ≡ suc (i / 8) = omega arith in
    let k : (8 + i) % 8 ≡ i % 8 = omega arith in
    ap₂ (λ (j n : ℕ). set (x ∷ s) j (with_bit (get_or (x ∷ s) j 0) n (v % 2))) q k

put_behind : (bs : List ℕ) (x : ℕ) (s : List ℕ) (i : ℕ) → put_bits bs (8 + i) (x ∷ s) ≡ x ∷ put_bits bs i s
unfolding put_bits
put_behind [] x s i = refl
put_behind (b ∷ bs) x s i =
    let e : suc (8 + i) ≡ 8 + suc i = omega arith in
    ap₂ (λ (j : ℕ) (l : List ℕ). put_bits bs j l) e (set_behind x s i b) ∙ put_behind bs x (set_bit s i b) (suc i)

put-part : (bs : List ℕ) (q : ℕ) (s : List ℕ) → q ≤ length s → put_bits bs (8 * q) s ≡ take q s ++ put_bits bs 0 (drop q s)
put-part bs zero s h = refl
put-part bs (suc q) [] h = absurd (not-suc-le-zero h)
put-part bs (suc q) (x ∷ s) h =
    let e : 8 * suc q ≡ 8 + 8 * q = omega arith in
    ap (λ (j : ℕ). put_bits bs j (x ∷ s)) e ∙ put_behind bs x s (8 * q) ∙ ap (◌∷◌ x) (put-part bs q s (le_of_suc-le-suc h))

-- k bits more, put into the part from byte q on of n bytes, which is lent and comes back as y
pub put_lent : (l : List ℕ) (q k n : ℕ) (s y : List ℕ) → length s ≡ n → q ≤ n → 8 * q + k ≤ length l
    → y ≡ put_bits (take k (drop (8 * q) l)) 0 (take (n - q) (drop q s))
    → put_bits (drop (8 * q + k) l) (8 * q + k) (put_mid q (n - q) s y) ≡ put_bits (drop (8 * q) l) (8 * q) s
put_lent l q k n s y z h m e =
    let bits : List ℕ = take k (drop (8 * q) l) in
    let part : take (n - q) (drop q s) ≡ drop q s = ap (λ (i : ℕ). take (i - q) (drop q s)) (sym z) ∙ part_all q s in
    let back : put_mid q (n - q) s y ≡ take q s ++ y = ap (λ (i : ℕ). put_mid q (i - q) s y) (sym z) ∙ part_back q s y in
    ap (put_bits (drop (8 * q + k) l) (8 * q + k))
    (back ∙ ap (λ (t : List ℕ). take q s ++ t) (e ∙ ap (put_bits bits 0) part) ∙ sym (put-part bits q s (omega arith)))
    ∙ put_more l (8 * q) k s m

pub length-put_bits : (bs : List ℕ) (i : ℕ) (s : List ℕ) → length (put_bits bs i s) ≡ length s
unfolding put_bits
length-put_bits [] i s = refl
length-put_bits (b ∷ bs) i s = length-put_bits bs (suc i) (set_bit s i b) ∙ length-set_bit s i b

bytes_put_bits : (bs : List ℕ) (i : ℕ) (s : List ℕ) → Bytes s → Bytes (put_bits bs i s)
unfolding put_bits
bytes_put_bits [] i s h = h
bytes_put_bits (b ∷ bs) i s h = bytes_put_bits bs (suc i) (set_bit s i b) (bytes_set_bit s i b h)

-- the bits before the place, at it and behind it, and past the last one written
put_before : (bs : List ℕ) (i : ℕ) (s : List ℕ) (j : ℕ) → j < i → bit_at (put_bits bs i s) j ≡ bit_at s j
unfolding put_bits
put_before [] i s j h = refl
put_before (b ∷ bs) i s j h = put_before bs (suc i) (set_bit s i b) j (omega arith) ∙ set_bit_other s i j b (λ e. omega arith)

put-at : (bs : List ℕ) (i : ℕ) (s : List ℕ) (j : ℕ) → j < length bs → i + length bs ≤ 8 * length s
    → bit_at (put_bits bs i s) (i + j) ≡ get_or bs j 0 % 2
unfolding put_bits
put-at [] i s j h l = absurd (not-suc-le-zero h)
put-at (b ∷ bs) i s zero h l =
    ap (bit_at (put_bits bs (suc i) (set_bit s i b))) (add-zero i)
    ∙ put_before bs (suc i) (set_bit s i b) i (omega arith) ∙ set_bit-same s i b (omega arith)
put-at (b ∷ bs) i s (suc j) h l =
    let e : i + suc j ≡ suc i + j = omega arith in
    ap (bit_at (put_bits bs (suc i) (set_bit s i b))) e
    ∙ put-at bs (suc i) (set_bit s i b) j (le_of_suc-le-suc h) (rw (length-set_bit s i b) (omega arith))

put_past : (bs : List ℕ) (i : ℕ) (s : List ℕ) (j : ℕ) → i + length bs ≤ j → bit_at (put_bits bs i s) j ≡ bit_at s j
unfolding put_bits
put_past [] i s j h = refl
put_past (b ∷ bs) i s j h = put_past bs (suc i) (set_bit s i b) j (omega arith) ∙ set_bit_other s i j b (λ e. omega arith)

put_first : {n : ℕ} {bs : List ℕ} (s : List ℕ) (j : ℕ) → Row n bs → n ≤ 8 * length s → j < n → bit_at (put_bits bs 0 s) j ≡ get_or bs j 0
put_first {n} {bs} s j r h l =
    let e : length bs ≡ n = row_length r in
    ap (bit_at (put_bits bs 0 s)) (sym (zero-add j)) ∙ put-at bs 0 s j (omega arith) (omega arith) ∙ mod-eq_of_lt (row_lt r j)

-- they are read back
pub unpack-put_bits : {n : ℕ} {bs : List ℕ} (s : List ℕ) → Row n bs → n ≤ 8 * length s → unpack n (put_bits bs 0 s) ≡ bs
unpack-put_bits {n} {bs} s r h =
    let l : length (unpack n (put_bits bs 0 s)) ≡ n = length-unpack n (put_bits bs 0 s) in
    ext_get_or 0 (unpack n (put_bits bs 0 s)) bs (l ∙ sym (row_length r))
    (λ i k. let b : i < n = rw l at k in unpack-at n (put_bits bs 0 s) i 0 b ∙ put_first s i r h b)

-- what lies behind the bytes written is as it was
set_append : (s u : List ℕ) (i v : ℕ) → i / 8 < length s → set_bit (s ++ u) i v ≡ set_bit s i v ++ u
unfolding set_bit
set_append s u i v h =
    ap (λ (b : ℕ). set (s ++ u) (i / 8) (with_bit b (i % 8) (v % 2))) (get_or-append s u 0 (i / 8) h)
    ∙ set-append_left s u (i / 8) (with_bit (get_or s (i / 8) 0) (i % 8) (v % 2)) h

put-append : (bs : List ℕ) (i : ℕ) (s u : List ℕ) → i + length bs ≤ 8 * length s → put_bits bs i (s ++ u) ≡ put_bits bs i s ++ u
unfolding put_bits
put-append [] i s u h = refl
put-append (b ∷ bs) i s u h =
    ap (put_bits bs (suc i)) (set_append s u i b (omega arith))
    ∙ put-append bs (suc i) (set_bit s i b) u (rw (length-set_bit s i b) (omega arith))

-- in bytes that are 0 they make the packed row
put_zeros : {n : ℕ} {bs : List ℕ} → Row n bs → put_bits bs 0 (replicate (bytes_for n) 0) ≡ pack bs
put_zeros {n} {bs} r =
    bits_determine (put_bits bs 0 zeros) (pack bs) (bytes_put_bits bs 0 zeros (bytes_zeros (bytes_for n))) (bytes_pack r)
    (length-put_bits bs 0 zeros ∙ length-replicate (bytes_for n) 0 ∙ sym (length-pack bs ∙ ap bytes_for (row_length r)))
    (λ i. go i (dec_lt i n) ∙ sym (bit_pack r i))
  where
    zeros : List ℕ
    zeros = replicate (bytes_for n) 0

    go : (i : ℕ) → Dec (i < n) → bit_at (put_bits bs 0 zeros) i ≡ get_or bs i 0
    go i (yes l) = put_first zeros i r (rw length-replicate (bytes_enough n)) l
    go i (no l) =
        let e : length bs ≡ n = row_length r in
        put_past bs 0 zeros i (omega arith) ∙ bit_zeros (bytes_for n) i ∙ sym (get_or-eq_default bs 0 {n = i} (omega arith))

pub put-over : {n : ℕ} {bs : List ℕ} (out : List ℕ) → Row n bs → put_bits bs 0 (over (replicate (bytes_for n) 0) out) ≡ over (pack bs) out
unfolding over
put-over {n} {bs} out r =
    let zeros : List ℕ = replicate (bytes_for n) 0 in
    let e : length zeros ≡ bytes_for n = length-replicate (bytes_for n) 0 in
    let l : length bs ≡ n = row_length r in
    put-append bs 0 zeros (drop (length zeros) out) (omega (arith, bytes_enough n))
    ∙ ap₂ (λ (x : List ℕ) (k : ℕ). x ++ drop k out) (put_zeros r) (e ∙ sym (length-pack bs ∙ ap bytes_for l))

-- a row where there is room, and where there is none
pub written_none : (s : List ℕ) (b w : ℕ) (out : List ℕ) → length out < bytes_for w → row_written s b w out ≡ out
unfolding row_written
written_none s b w out h = rw (lt-leb (bytes_for w) (length out) h)

pub written_row : (s : List ℕ) (b w : ℕ) (out : List ℕ) → bytes_for w ≤ length out → row_written s b w out ≡ over (pack (map (bit_at s) (from b w))) out
unfolding row_written
written_row s b w out h = rw (le-leb (bytes_for w) (length out) h)

-- a row of zeros
pub written_zeros : (w : ℕ) (out : List ℕ) → bytes_for w ≤ length out → row_written [] 0 w out ≡ over (replicate (bytes_for w) 0) out
unfolding unpack
written_zeros w out h =
    let zeros : List ℕ = replicate (bytes_for w) 0 in
    written_row [] 0 w out h
    ∙ ap (λ (s : List ℕ). over s out)
    (ap pack (unpack_ext w [] zeros (λ i l. bit_zeros 0 i ∙ sym (bit_zeros (bytes_for w) i)))
    ∙ pack-unpack w zeros (bytes_zeros (bytes_for w)) (well_formed_zeros w))
