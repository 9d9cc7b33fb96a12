-- Values that are published, computed: Table 2 of the standard, and SHAKE256 of no bytes. Assumes nothing.
use mathlib.Core.Path.{◌≡◌, refl, sym, ◌∙◌}
use mathlib.Core.List.{List, [], ◌∷◌, map}
use Prim.Native.Nat.{ℕ, zero, suc, ◌+◌, ◌/◌, ◌%◌}
use lib.Bits.{bit_xor}
use lib.ListN.{get_or, set, replicate}
use Rattle.bits.specs.Xor.{◌⊕◌}
use Rattle.bits.specs.Bits.{from, bit_at, with_bit, set_bit, number, each_with, xor_row, padded}
use Rattle.keccak.specs.Keccak.{offset, offset_from}
use Rattle.keccak.specs.Shake.{shake256}
use Rattle.keccak.specs.Lanes.{lanes, lane, rot, parity, constants, rho_pi_lanes, chi_lanes, round_lanes, rounds_lanes, permuted, bytes_number, words, absorbed, last_block, absorbed_blocks, absorbed_all, state_byte, state_bytes, squeezed_blocks, squeezed}
use Rattle.keccak.proofs.Sponge.{shake_same}

-- Table 2: the offsets of ρ, lane (x, y) at 5y + x
pub table_2 : map (λ i. offset (i % 5) (i / 5)) (from 0 25)
    ≡ 0 ∷ 1 ∷ 190 ∷ 28 ∷ 91
    ∷ 36 ∷ 300 ∷ 6 ∷ 55 ∷ 276
    ∷ 3 ∷ 10 ∷ 171 ∷ 153 ∷ 231
    ∷ 105 ∷ 45 ∷ 15 ∷ 21 ∷ 136
    ∷ 210 ∷ 66 ∷ 253 ∷ 120 ∷ 78 ∷ []
unfolding offset offset_from from
table_2 = refl

-- f of a list whose numbers are computed first
computed : (List ℕ → List ℕ) → List ℕ → List ℕ
computed f [] = f []
computed f (zero ∷ l) = computed (λ r. f (zero ∷ r)) l
computed f (suc n ∷ l) = computed (λ r. f (suc n ∷ r)) l

computed_same : (f : List ℕ → List ℕ) (l : List ℕ) → f l ≡ computed f l
unfolding computed
computed_same f [] = refl
computed_same f (zero ∷ l) = computed_same (λ r. f (zero ∷ r)) l
computed_same f (suc n ∷ l) = computed_same (λ r. f (suc n ∷ r)) l

-- a round whose column parities are at hand
parities : List ℕ → List ℕ
parities a = parity a 0 ∷ parity a 1 ∷ parity a 2 ∷ parity a 3 ∷ parity a 4 ∷ []

round_with : ℕ → List ℕ → List ℕ → List ℕ
round_with c a p =
    let b : List ℕ = chi_lanes (rho_pi_lanes (lanes (λ x y. bit_xor (lane a x y) (bit_xor (get_or p ((x + 4) % 5) 0) (rot 1 (get_or p ((x + 1) % 5) 0)))))) in
    set b 0 (get_or b 0 0 ⊕ c)

-- f of n rounds from the round i on
after : (List ℕ → List ℕ) → ℕ → ℕ → List ℕ → List ℕ
after f i zero a = f a
after f i (suc n) a = computed (λ p. computed (after f (suc i) n) (round_with (get_or constants i 0) a p)) (parities a)

after_same : (f : List ℕ → List ℕ) (i n : ℕ) (a : List ℕ) → f (rounds_lanes i n a) ≡ after f i n a
unfolding after parities round_with rounds_lanes round_lanes
after_same f i zero a = refl
after_same f i (suc n) a =
    after_same f (suc i) n (round_lanes (get_or constants i 0) a)
    ∙ computed_same (after f (suc i) n) (round_lanes (get_or constants i 0) a)
    ∙ computed_same (λ p. computed (after f (suc i) n) (round_with (get_or constants i 0) a p)) (parities a)

-- the only block of no bytes
block : List ℕ
block = absorbed (replicate 25 0) (last_block [])

-- the first 32 bytes of SHAKE256 of no bytes, as the examples beside the standard have them
abbrev answer : List ℕ
answer =
    0x46 ∷ 0xb9 ∷ 0xdd ∷ 0x2b ∷ 0x0b ∷ 0xa8 ∷ 0x8d ∷ 0x13
    ∷ 0x23 ∷ 0x3b ∷ 0x3f ∷ 0xeb ∷ 0x74 ∷ 0x3e ∷ 0xeb ∷ 0x24
    ∷ 0x3f ∷ 0xcd ∷ 0x52 ∷ 0xea ∷ 0x62 ∷ 0xb8 ∷ 0x1b ∷ 0x82
    ∷ 0xb5 ∷ 0x0c ∷ 0x27 ∷ 0x64 ∷ 0x6e ∷ 0xd5 ∷ 0x76 ∷ 0x2f ∷ []

computed_answer : computed (after (squeezed 32) 0 24) block ≡ answer
unfolding computed after parities round_with block ◌⊕◌ absorbed words bytes_number number each_with xor_row last_block set_bit with_bit padded bit_at from state_byte state_bytes squeezed_blocks squeezed
computed_answer = refl

by_blocks : squeezed 32 (absorbed_all []) ≡ squeezed 32 (rounds_lanes 0 24 block)
unfolding absorbed_all absorbed_blocks permuted block
by_blocks = refl

pub shake_of_none : shake256 32 [] ≡ answer
shake_of_none =
    sym (shake_same 32 []) ∙ by_blocks ∙ after_same (squeezed 32) 0 24 block ∙ computed_same (after (squeezed 32) 0 24) block ∙ computed_answer
