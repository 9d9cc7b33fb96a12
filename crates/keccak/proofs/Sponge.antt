-- The sponge on lanes and bytes is SHAKE256. Assumes nothing.
use mathlib.Core.Path.{◌≡◌, refl, sym, ap, ap₂, ◌∙◌}
use mathlib.Core.List.{List, [], ◌∷◌, ◌++◌, append_assoc}
use Prim.Native.Nat.{ℕ, zero, suc, ◌+◌, ◌-◌, ◌*◌, ◌/◌, ◌%◌, ◌^◌, ◌≤◌, ◌<◌}
use native.Mathlib.Nat.{zero-div, zero-mod, zero-lt-suc, mod-lt}
use native.Mathlib.Omega.{arith}
use lib.ListN.{length, get_or, take, drop, replicate, length-append, length-drop, length-replicate}
use lib.Pow.{pow_pos, shr-shr}
use lib.Seq.{take_at, drop_at, length-take-le}
use Rattle.bits.specs.Bits.{Bytes, from, bytes_for, bit_at, unpack, pack, xor_row}
use Rattle.bits.proofs.Lists.{map-from, map-from-at, map-from-part, length-map-from, take_below}
use Rattle.bits.proofs.Bits.{digit_below, zeros_at}
use Rattle.bits.proofs.Pack.{length-unpack, unpack-take, clear_all, well_formed_lem, pack-unpack}
use Rattle.keccak.specs.Keccak.{keccak_p}
use Rattle.keccak.specs.Shake.{pad10*1, absorb, squeeze, sponge, keccak, shake_bits, shake256}
use Rattle.keccak.specs.Lanes.{permuted, absorbed, last_block, absorbed_blocks, absorbed_all, state_byte, state_bytes, squeezed_blocks, squeezed}
use Rattle.keccak.proofs.Below.{map_below, append_below}
use Rattle.keccak.proofs.Bit.{bit}
use Rattle.keccak.proofs.Rounds.{state_bits, permuted-same}
use Rattle.keccak.proofs.Strings.{bits_of, unpack-append, unpack-drop, take-unpack, map_zeros}
use Rattle.keccak.proofs.Blocks.{State, permuted_state, absorbed-same, absorbed_state}
use Rattle.keccak.proofs.Padding.{ending, ending_less, last-bits}

-- a block absorbed and the state permuted
block_same : {a : List ℕ} (s : List ℕ) → State a
    → keccak_p (xor_row (state_bits a) (unpack 1088 s ++ replicate 512 0)) ≡ state_bits (permuted (absorbed a s))
block_same {a} s state = ap keccak_p (absorbed-same s state) ∙ permuted-same (absorbed a s) (absorbed_state s state).small

-- absorbing the whole blocks and the last one
blocks_same : (n : ℕ) (s a : List ℕ) → length s / 136 ≡ n → State a
    → absorb keccak_p 1088 (suc n) (bits_of s ++ ending (length s)) (state_bits a) ≡ state_bits (absorbed_blocks n s a)
unfolding absorb absorbed_blocks
blocks_same zero s a e state =
    let l : length s < 136 = omega arith in
    ap (λ (P : List ℕ). keccak_p (xor_row (state_bits a) (take 1088 P ++ replicate 512 0))) (sym (last-bits s l))
    ∙ ap (λ (P : List ℕ). keccak_p (xor_row (state_bits a) (P ++ replicate 512 0))) (take-unpack 1088 1088 (last_block s) (omega arith))
    ∙ block_same (last_block s) state
blocks_same (suc n) s a e state =
    let l : length (drop 136 s) ≡ length s - 136 = length-drop 136 s in
    let m : 136 ≤ length s = omega arith in
    let k : 8 * length s ≡ 8 * 136 + 8 * length (drop 136 s) = omega arith in
    let rest : List ℕ = bits_of (drop 136 s) ++ ending (length (drop 136 s)) in
    let split : bits_of s ++ ending (length s) ≡ unpack 1088 s ++ rest =
    ap₂ ◌++◌ (ap (λ (j : ℕ). unpack j s) k ∙ unpack-drop 136 (8 * length (drop 136 s)) s) (ending_less (length s) m ∙ ap ending (sym l))
    ∙ append_assoc (unpack 1088 s) (bits_of (drop 136 s)) (ending (length (drop 136 s))) in
    ap (λ (P : List ℕ). absorb keccak_p 1088 (suc n) (drop 1088 P) (keccak_p (xor_row (state_bits a) (take 1088 P ++ replicate 512 0)))) split
    ∙ ap₂ (λ (P Q : List ℕ). absorb keccak_p 1088 (suc n) P (keccak_p (xor_row (state_bits a) (Q ++ replicate 512 0))))
    (drop_at (unpack 1088 s) rest 1088 (length-unpack 1088 s))
    (take_at (unpack 1088 s) rest 1088 (length-unpack 1088 s))
    ∙ ap (absorb keccak_p 1088 (suc n) rest) (block_same s state)
    ∙ blocks_same n (drop 136 s) (permuted (absorbed a s)) (omega arith) (permuted_state (absorbed_state s state))

-- the state at the start
start : State (replicate 25 0)
start = record {
  small = λ k. rw zeros_at (pow_pos 64);
  count = refl;
}

start-same : state_bits (replicate 25 0) ≡ replicate 1600 0
unfolding state_bits bit
start-same = map_zeros (λ i. get_or (replicate 25 0) (i / 64) 0 / 2 ^ (i % 64) % 2) 0 1600 (λ i. simp (zeros_at, zero-div, zero-mod))

-- the padded input
padded_input : (s : List ℕ) → bits_of s ++ (1 ∷ 1 ∷ 1 ∷ 1 ∷ []) ++ pad10*1 1088 (length (bits_of s ++ 1 ∷ 1 ∷ 1 ∷ 1 ∷ []))
    ≡ bits_of s ++ ending (length s)
unfolding ending
padded_input s =
    let e : length (bits_of s ++ 1 ∷ 1 ∷ 1 ∷ 1 ∷ []) ≡ 8 * length s + 4 =
    length-append (bits_of s) (1 ∷ 1 ∷ 1 ∷ 1 ∷ []) ∙ ap (λ (k : ℕ). k + 4) (length-unpack (8 * length s) s) in
    append_assoc (bits_of s) (1 ∷ 1 ∷ 1 ∷ 1 ∷ []) (pad10*1 1088 (length (bits_of s ++ 1 ∷ 1 ∷ 1 ∷ 1 ∷ [])))
    ∙ ap (λ (k : ℕ). bits_of s ++ 1 ∷ 1 ∷ 1 ∷ 1 ∷ pad10*1 1088 k) e

blocks_count : (s : List ℕ) → length (bits_of s ++ ending (length s)) / 1088 ≡ suc (length s / 136)
unfolding ending pad10*1
blocks_count s =
    let j : ℕ = (1088 - (8 * length s + 4 + 2) % 1088) % 1088 in
    let e : length (bits_of s ++ ending (length s)) ≡ 8 * length s + suc (suc (suc (suc (suc (j + 1))))) =
    length-append (bits_of s) (ending (length s))
    ∙ ap₂ ◌+◌ (length-unpack (8 * length s) s)
    (ap (λ (k : ℕ). suc (suc (suc (suc (suc k))))) (length-append (replicate j 0) (1 ∷ []) ∙ ap (λ (k : ℕ). k + 1) (length-replicate {A = ℕ} j 0))) in
    rw e (omega arith)

blocks_state : (n : ℕ) (s : List ℕ) {a : List ℕ} → State a → State (absorbed_blocks n s a)
unfolding absorbed_blocks
blocks_state zero s state = permuted_state (absorbed_state (last_block s) state)
blocks_state (suc n) s state = blocks_state n (drop 136 s) (permuted_state (absorbed_state s state))

-- squeezing
pub bytes_count : (n : ℕ) (a : List ℕ) → length (state_bytes n a) ≡ n
unfolding state_bytes
bytes_count n a = length-map-from (state_byte a) 0 n

byte_bit : (a : List ℕ) (i : ℕ) → i < 1088 → bit (i % 64) (get_or a (i / 64) 0) ≡ bit_at (state_bytes 136 a) i
unfolding bit bit_at state_bytes state_byte
byte_bit a i h =
    let p : i / 64 ≡ (0 + i / 8) / 8 = omega arith in
    let q : i % 64 ≡ 8 * ((0 + i / 8) % 8) + i % 8 = omega arith in
    let v : ℕ = get_or a ((0 + i / 8) / 8) 0 / 2 ^ (8 * ((0 + i / 8) % 8)) in
    ap₂ (λ (j z : ℕ). get_or a j 0 / 2 ^ z % 2) p q
    ∙ ap (◌% 2) (sym (shr-shr (get_or a ((0 + i / 8) / 8) 0) (8 * ((0 + i / 8) % 8)) (i % 8)))
    ∙ sym (digit_below v 8 (i % 8) (omega arith))
    ∙ ap (λ (b : ℕ). b / 2 ^ (i % 8) % 2) (sym (map-from-at (state_byte a) 0 136 (i / 8) 0 (omega arith)))

block_bits : (a : List ℕ) → take 1088 (state_bits a) ≡ unpack 1088 (state_bytes 136 a)
unfolding state_bits unpack
block_bits a =
    let f : ℕ → ℕ = λ i. bit (i % 64) (get_or a (i / 64) 0) in
    map-from-part f 0 1600 0 1088 (omega arith) ∙ map-from f (bit_at (state_bytes 136 a)) 0 0 1088 (λ i h. byte_bit a (0 + i) (omega arith))

squeeze-same : (n : ℕ) (a : List ℕ) → State a → squeeze keccak_p 1088 n (state_bits a) ≡ unpack (1088 * n) (squeezed_blocks n a)
unfolding squeeze squeezed_blocks unpack from
squeeze-same zero a state = refl
squeeze-same (suc n) a state =
    let block : List ℕ = state_bytes 136 a in
    let rest : List ℕ = squeezed_blocks n (permuted a) in
    let e : 8 * length block ≡ 1088 = ap (◌*◌ 8) (bytes_count 136 a) in
    let k : 1088 * suc n ≡ 8 * length block + 1088 * n = omega arith in
    ap₂ ◌++◌ (block_bits a) (ap (squeeze keccak_p 1088 n) (permuted-same a state.small) ∙ squeeze-same n (permuted a) (permuted_state state))
    ∙ sym (ap (λ (j : ℕ). unpack j (block ++ rest)) k ∙ unpack-append (1088 * n) block rest ∙ ap (λ (j : ℕ). unpack j block ++ unpack (1088 * n) rest) e)

squeezed_count : (n : ℕ) (a : List ℕ) → length (squeezed_blocks n a) ≡ 136 * n
unfolding squeezed_blocks
squeezed_count zero a = refl
squeezed_count (suc n) a =
    length-append (state_bytes 136 a) (squeezed_blocks n (permuted a)) ∙ ap₂ ◌+◌ (bytes_count 136 a) (squeezed_count n (permuted a)) ∙ omega arith

bytes_lt : (n : ℕ) (a : List ℕ) → Bytes (state_bytes n a)
unfolding state_bytes state_byte
bytes_lt n a = map_below 256 (zero-lt-suc 255) (state_byte a) (λ k. mod-lt (get_or a (k / 8) 0 / 2 ^ (8 * (k % 8))) (zero-lt-suc 255)) 0 n

bytes_of : (n : ℕ) → bytes_for (8 * n) ≡ n
unfolding bytes_for
bytes_of n = omega arith

squeezed_bytes : (n : ℕ) (a : List ℕ) → Bytes (squeezed_blocks n a)
unfolding squeezed_blocks
squeezed_bytes zero a = λ k. zero-lt-suc 255
squeezed_bytes (suc n) a = append_below 256 (state_bytes 136 a) (squeezed_blocks n (permuted a)) (bytes_lt 136 a) (squeezed_bytes n (permuted a))

-- what the lanes give is SHAKE256
pub shake_same : (n : ℕ) (s : List ℕ) → squeezed n (absorbed_all s) ≡ shake256 n s
unfolding squeezed absorbed_all shake256 shake_bits keccak sponge
shake_same n s =
    let blocks : ℕ = 8 * n / 1088 + 1 in
    let a : List ℕ = absorbed_blocks (length s / 136) s (replicate 25 0) in
    let bytes : List ℕ = squeezed_blocks blocks a in
    let out : List ℕ → List ℕ = λ S. pack (take (8 * n) (squeeze keccak_p 1088 blocks S)) in
    let f : length (take n bytes) ≡ n = length-take-le n bytes (omega (arith, squeezed_count blocks a)) in
    let g : bytes_for (8 * n) ≡ n = bytes_of n in
    sym (ap (λ (P : List ℕ). out (absorb keccak_p 1088 (length P / 1088) P (replicate 1600 0))) (padded_input s)
    ∙ ap₂ (λ (k : ℕ) (S : List ℕ). out (absorb keccak_p 1088 k (bits_of s ++ ending (length s)) S)) (blocks_count s) (sym start-same)
    ∙ ap out (blocks_same (length s / 136) s (replicate 25 0) refl start)
    ∙ ap (λ (l : List ℕ). pack (take (8 * n) l)) (squeeze-same blocks a (blocks_state (length s / 136) s start))
    ∙ ap pack (take-unpack (8 * n) (1088 * blocks) bytes (omega arith) ∙ sym (unpack-take (8 * n) n bytes (omega arith)))
    ∙ pack-unpack (8 * n) (take n bytes) (take_below 256 n bytes (squeezed_bytes blocks a))
    (well_formed_lem (8 * n) (take n bytes) (f ∙ sym g) (clear_all (8 * n) (take n bytes) (λ i h l. absurd (omega arith)))))

-- as many bytes as are asked for
pub shake_count : (n : ℕ) (s : List ℕ) → length (shake256 n s) ≡ n
unfolding squeezed
shake_count n s =
    let blocks : ℕ = 8 * n / 1088 + 1 in
    let e : length (squeezed_blocks blocks (absorbed_all s)) ≡ 136 * blocks = squeezed_count blocks (absorbed_all s) in
    ap length (sym (shake_same n s)) ∙ length-take-le n (squeezed_blocks blocks (absorbed_all s)) (omega arith)

pub shake_bytes : (n : ℕ) (s : List ℕ) → Bytes (shake256 n s)
unfolding squeezed
shake_bytes n s k =
    let blocks : ℕ = 8 * n / 1088 + 1 in
    rw (← shake_same n s) (take_below 256 n (squeezed_blocks blocks (absorbed_all s)) (squeezed_bytes blocks (absorbed_all s)) k)
