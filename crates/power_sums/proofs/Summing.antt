-- What the functions of the weighted sums put together. Assumes nothing.
use mathlib.Core.Path.{◌≡◌, refl, sym, ap, ap₂, ◌∙◌}
use mathlib.Core.Bool.{Bool, false, cond}
use mathlib.Core.List.{List, [], ◌∷◌, ◌++◌, append-nil}
use Prim.Native.Nat.{ℕ, zero, suc, ◌+◌, ◌-◌, ◌*◌, ◌^◌, ◌≤◌, ◌<◌, min}
use native.Mathlib.Nat.{min-le_left, min-le_right, le_of_suc-le-suc, not-suc-le-zero, pow-suc, suc-mul, zero-mul, le_refl}
use native.Mathlib.Numerals.{add-one}
use native.Mathlib.Omega.{arith}
use lib.Pow.{pow_pos, pow-add, pow_mono}
use borrow.Rule.Slice.PartMut.{put_mid}
use lib.ListN.{length, get_or, take, drop, set, replicate, length-drop, length-replicate, drop_of_length-le}
use lib.Seq.{take_all, get_or-take, drop-drop, length-take-le}
use Rattle.bits.specs.Bits.{from, each_with, xor_row, padded, over}
use Rattle.bits.proofs.Lists.{map-from, length-map-from}
use Rattle.bits.proofs.Padded.{over-next, drop_zeros, padded-start}
use Rattle.bits.proofs.Rows.{length-xor_row}
use Rattle.field.specs.Field.{is_width, mul, power}
use Rattle.field.specs.Poly.{horner_each}
use Rattle.field.proofs.Table.{Width}
use Rattle.field.proofs.Laws.{mul_comm, power_zero}
use Rattle.levels.specs.Levels.{point_of, basis_of, top_of, factors_of, two_of, Factors, Tops}
use Rattle.levels.specs.Twist.{powers_of, twisted_by, each_block}
use Rattle.levels.proofs.Blocks.{block_length, length-each_block, length_rest}
use Rattle.levels.proofs.Filled.{length_factors}
use Rattle.levels.proofs.Halves.{length-low, length_high, high_copied, low_copied, high_added}
use Rattle.levels.proofs.TwoPowers.{two_below}
use Rattle.levels.proofs.Twists.{length-twisted, twisted_powers, horner_products}
use Rattle.power_sums.specs.Sums.{sum_to, moment, moments_by, sums_of, power_sums, sums_all, zip, collected, merged, merged_by, heaped, folded, weights_of, merges_of}
use Rattle.power_sums.proofs.Loops.{length-zip, collected_all, length_collected_to}
use Rattle.power_sums.proofs.Moments.{sum_cong, sum-mul}
use Rattle.power_sums.proofs.Transposed.{length_weights, sums_up, all_sums}

pub length-collected : (l : List ℕ) → length (collected (length l) l) ≡ length l
length-collected l = ap length (sym (collected_all (length l) l refl)) ∙ length_collected_to (length l) l

pub length_woven : (h : ℕ) (l : List ℕ) → length l ≡ h + h → length (zip (take h l) (drop h l)) ≡ h + h
length_woven h l e =
    let a : length (take h l) ≡ h = length-take-le h l (omega arith) in
    let b : length (drop h l) ≡ h = length-drop h l ∙ omega arith in
    length-zip (take h l) (drop h l) (a ∙ sym b) ∙ ap₂ ◌+◌ a b

length_gathered : (h : ℕ) (l : List ℕ) → length l ≡ h + h → length (collected (h + h) (zip (take h l) (drop h l))) ≡ h + h
length_gathered h l e =
    let z : List ℕ = zip (take h l) (drop h l) in
    let n : length z ≡ h + h = length_woven h l e in
    ap (λ (i : ℕ). length (collected i z)) (sym n) ∙ length-collected z ∙ n

pub length_merged : (m b h : ℕ) (l : List ℕ) → length l ≡ h + h → length (merged m b h l) ≡ h + h
unfolding merged
length_merged m b h l e = length-twisted m b _ ∙ length_gathered h l e

pub merged_powers : (m : ℕ) → Width m → (b h n : ℕ) (p l : List ℕ) → p ≡ padded 512 (powers_of m b (min n 512)) → n ≤ 512 → length l ≡ h + h → h + h ≤ suc n → merged_by m p h l ≡ merged m b h l
unfolding merged_by merged
merged_powers m w b h n p l e s x y = twisted_powers m w b n p (collected (h + h) (zip (take h l) (drop h l))) e s (omega (arith, length_gathered h l x))

-- a merge by parts
module _ (m h : ℕ) (p c z g : List ℕ) (size : length c ≡ h + h) (ez : z ≡ zip (take h c) (drop h c)) (eg : g ≡ collected (length z) z) where
  pub gathered_length : length g ≡ h + h
  gathered_length = ap length eg ∙ length-collected z ∙ ap length ez ∙ length_woven h c size

  pub merge_form : (r : List ℕ) → r ≡ twisted_by m p g → r ≡ merged_by m p h c
  unfolding merged_by
  merge_form r er =
      er ∙ ap (twisted_by m p) (eg ∙ ap₂ collected (ap length ez ∙ length_woven h c size) ez)

-- sums of parts: the first k
module _ (m r : ℕ) where
  pub length-heaped : (q : ℕ) (d : List ℕ) → length (heaped m r q d) ≡ q
  unfolding heaped
  length-heaped zero d = refl
  length-heaped (suc q) d = ap suc (length-heaped q (drop r d))

  heaped-at : (q k : ℕ) (d : List ℕ) → k < q → get_or (heaped m r q d) k 0 ≡ mul m (sum_to r (λ i. get_or (drop (k * r) d) i 0)) 1
  unfolding heaped
  heaped-at zero k d h = absurd (not-suc-le-zero h)
  heaped-at (suc q) zero d h = ap (λ (j : ℕ). mul m (sum_to r (λ i. get_or (drop j d) i 0)) 1) (sym (zero-mul r))
  heaped-at (suc q) (suc k) d h =
      let e : r + k * r ≡ suc k * r = omega (arith, suc-mul k r) in
      heaped-at q k (drop r d) (le_of_suc-le-suc h)
      ∙ ap (λ (l : List ℕ). mul m (sum_to r (λ i. get_or l i 0)) 1) (drop-drop (k * r) r d ∙ ap (λ (j : ℕ). drop j d) e)

  pub heap_next : (k at x y : ℕ) (c₀ c d : List ℕ) → c ≡ over (take k (heaped m r (length c₀) d)) c₀ → k < length c₀ → at ≡ k * r → length d ≡ length c₀ * r → at + r ≤ length d
      → x ≡ sum_to (length (take (at + r - at) (drop at d))) (λ i. get_or (take (at + r - at) (drop at d)) i 0) → y ≡ mul m x 1
      → set c k y ≡ over (take (k + 1) (heaped m r (length c₀) d)) c₀
  heap_next k at x y c₀ c d ec h ea ed l ex ey =
      let z : List ℕ = heaped m r (length c₀) d in
      let n : at + r - at ≡ r = omega arith in
      let e : x ≡ sum_to r (λ i. get_or (drop (k * r) d) i 0) =
      ex ∙ ap (λ (j : ℕ). sum_to j (λ i. get_or (take (at + r - at) (drop at d)) i 0)) (block_length at r d l)
      ∙ sum_cong r _ _ (λ i b. ap (λ (j : ℕ). get_or (take j (drop at d)) i 0) n ∙ get_or-take r (drop at d) i 0 b ∙ ap (λ (j : ℕ). get_or (drop j d) i 0) ea) in
      ap₂ (λ (s : List ℕ) (v : ℕ). set s k v) ec (ey ∙ ap (λ (v : ℕ). mul m v 1) e ∙ sym (heaped-at (length c₀) k d h))
      ∙ over-next k z c₀ (omega (arith, length-heaped (length c₀) d)) h

  pub heap_all : (k : ℕ) (c d : List ℕ) → length c ≤ k → over (take k (heaped m r (length c) d)) c ≡ heaped m r (length c) d
  unfolding over
  heap_all k c d h =
      let z : List ℕ = heaped m r (length c) d in
      ap (λ (s : List ℕ). s ++ drop (length s) c) (take_all k z (omega (arith, length-heaped (length c) d)))
      ∙ ap (◌++◌ z) (drop_of_length-le c {i = length z} (omega (arith, length-heaped (length c) d))) ∙ append-nil z

-- a fold by way of p
pub fold_form : (m : ℕ) → Width m → (g l p : List ℕ) {q a s r y : List ℕ} → length l ≡ length g + length g → length p ≡ length g
    → q ≡ each_with (λ x y. y) p (take (length l - length g) (drop (length g) l)) → a ≡ xor_row (take (length g) l) q
    → s ≡ each_with (λ x y. y) q (take (length g) (a ++ drop (length g) l)) → r ≡ horner_each m 0 s g
    → y ≡ xor_row (take (length (a ++ drop (length g) l) - length g) (drop (length g) (a ++ drop (length g) l))) r
    → put_mid (length g) (length (a ++ drop (length g) l) - length g) (a ++ drop (length g) l) y ≡ folded m g l
unfolding folded
fold_form m w g l p {q} {a} {s} {r} el ep eq ea es er ey =
    let v : List ℕ = drop (length g) l in
    let q-high : q ≡ v = eq ∙ high_copied (length g) l el p ep in
    let lq : length q ≡ length g = ap length q-high ∙ length_high (length g) l el in
    let la : length a ≡ length g = ap length ea ∙ length-xor_row (take (length g) l) q ∙ length-low (length g) l el in
    let s-low : s ≡ a = es ∙ low_copied (length g) l el a la q lq in
    let products : r ≡ each_with (mul m) a g = er ∙ horner_products m w s g ∙ ap (λ (x : List ℕ). each_with (mul m) x g) s-low in
    high_added (length g) l el a la r ey ∙ ap (λ (x : List ℕ). a ++ xor_row v x) products
    ∙ ap (λ (x : List ℕ). x ++ xor_row v (each_with (mul m) x g)) (ea ∙ ap (xor_row (take (length g) l)) q-high)

-- folding level j, by the factors g
module _ (m k j h : ℕ) (g : List ℕ) (l : j < k) (km : k ≤ m) (n : m < 14) (e : h ≡ two_of (m - 1 - j)) where
  half : h ≡ 2 ^ (m - suc j)
  half =
      let d : m - 1 - j ≡ m - suc j = omega arith in
      two_below (m - 1 - j) e (omega arith) ∙ ap (λ (i : ℕ). 2 ^ i) d

  pub half_fits : length g ≡ 8192 → h + h ≤ length g
  half_fits eg =
      let s : suc (m - suc j) ≤ 13 = omega arith in
      omega (arith, half, pow-suc 2 (m - suc j), pow_mono s)

  module _ (f : Factors m k g) where
    factors_part : take (h + h - h) (drop h g) ≡ factors_of m j
    factors_part =
        let d : h + h - h ≡ h = omega arith in
        ap₂ (λ (a b : ℕ). take a (drop b g)) (d ∙ half) half ∙ f j l

    factors_length : length (take (h + h - h) (drop h g)) ≡ 2 ^ (m - suc j)
    factors_length = ap length factors_part ∙ length_factors m j

    pub factors_few : length (take (h + h - h) (drop h g)) ≤ 4096
    factors_few =
        let s : m - suc j ≤ 12 = omega arith in
        omega (arith, factors_length, pow_mono s)

    twice : length (take (h + h - h) (drop h g)) + length (take (h + h - h) (drop h g)) ≡ 2 ^ (m - j)
    twice =
        let d : m - j ≡ suc (m - suc j) = omega arith in
        ap₂ ◌+◌ factors_length factors_length ∙ omega (arith, pow-suc 2 (m - suc j)) ∙ ap (λ (i : ℕ). 2 ^ i) (sym d)

    module _ (q : ℕ) (eq : q ≡ 2 ^ j) where
      pub fold_length : {n : ℕ} → n ≡ 2 ^ m → n ≡ q * (length (take (h + h - h) (drop h g)) + length (take (h + h - h) (drop h g)))
      fold_length en =
          let d : m ≡ j + (m - j) = omega arith in
          en ∙ ap (λ (i : ℕ). 2 ^ i) d ∙ pow-add 2 j (m - j) ∙ ap₂ ◌*◌ (sym eq) (sym twice)

      pub weights_next : (w₀ w y : List ℕ) → w ≡ weights_of m j w₀
          → y ≡ each_block (folded m (take (h + h - h) (drop h g))) (length (take (h + h - h) (drop h g)) + length (take (h + h - h) (drop h g))) q w
          → y ≡ weights_of m (j + 1) w₀
      unfolding weights_of
      weights_next w₀ w y ew ey =
          ey ∙ ap₂ (λ (x r : ℕ). each_block (folded m (take (h + h - h) (drop h g))) x r w) twice eq
          ∙ ap₂ (λ (a b : List ℕ). each_block (folded m a) (2 ^ (m - j)) (2 ^ j) b) factors_part ew ∙ ap (λ (i : ℕ). weights_of m i w₀) (sym (add-one j))

-- merging level j - 1
module _ (m k j h q : ℕ) (p : 0 < j) (l : j ≤ k) (km : k ≤ m) (eh : h ≡ 2 ^ (k - 1 - (j - 1))) (eq : q ≡ 2 ^ (j - 1)) where
  fewer : k - 1 - (j - 1) ≡ k - suc (j - 1)
  fewer = omega arith

  both : h + h ≡ 2 ^ (k - (j - 1))
  both =
      let d : k - (j - 1) ≡ suc (k - suc (j - 1)) = omega arith in
      ap (λ (i : ℕ). i + i) (eh ∙ ap (λ (i : ℕ). 2 ^ i) fewer) ∙ omega (arith, pow-suc 2 (k - suc (j - 1))) ∙ ap (λ (i : ℕ). 2 ^ i) (sym d)

  pub merge_length : {n : ℕ} → n ≡ 2 ^ k → n ≡ q * (h + h)
  merge_length e =
      let d : k ≡ (j - 1) + (k - (j - 1)) = omega arith in
      e ∙ ap (λ (i : ℕ). 2 ^ i) d ∙ pow-add 2 (j - 1) (k - (j - 1)) ∙ ap₂ ◌*◌ (sym eq) (sym both)

  pub merge_small : k ≤ 9 → (0 < h) × (h ≤ 256)
  merge_small s =
      let d : k - 1 - (j - 1) ≤ 8 = omega arith in
      (omega (arith, eh, pow_pos (k - 1 - (j - 1))), omega (arith, eh, pow_mono d))

  pub merged-length : (b : ℕ) (c y : List ℕ) → length c ≡ 2 ^ k → y ≡ each_block (merged m b h) (h + h) q c → length y ≡ length c
  merged-length b c y ec ey =
      ap length ey ∙ length-each_block (merged m b h) (h + h) (length_merged m b h) q c (omega (arith, merge_length ec))

  pub merges_next : (t c y : List ℕ) → Tops m k t → y ≡ each_block (merged m (get_or t (j - 1) 0) h) (h + h) q c → merges_of m k (j - 1) y ≡ merges_of m k j c
  unfolding merges_of
  merges_next t c y f ey =
      let i : j ≡ suc (j - 1) = omega arith in
      ap (merges_of m k (j - 1))
      (ey ∙ ap₂ (λ (a b : ℕ). each_block (merged m a b) (h + h) q c) (f (j - 1) (omega arith)) (eh ∙ ap (λ (i : ℕ). 2 ^ i) fewer)
      ∙ ap₂ (λ (a b : ℕ). each_block (merged m (top_of m (j - 1)) (2 ^ (k - suc (j - 1)))) a b c) both eq)
      ∙ ap (λ (x : ℕ). merges_of m k x c) (sym i)

pub weights_length : (m : ℕ) (p : List ℕ) → Width m → length p ≡ 2 ^ m → (j : ℕ) → j ≤ m → length (weights_of m j p) ≡ 2 ^ m
weights_length m p w e j h =
    let d : j + (m - j) ≡ m = omega arith in
    length_weights m w p e j h ∙ sym (pow-add 2 j (m - j)) ∙ ap (λ (i : ℕ). 2 ^ i) d

-- all levels
pub merges_sums : (m : ℕ) → Width m → (k : ℕ) (w : List ℕ) → length w ≡ 2 ^ m → k ≤ m → (j : ℕ) → j ≤ k → merges_of m k j (sums_of m k j w) ≡ power_sums m (2 ^ k) w
unfolding merges_of
merges_sums m v k w e h zero l = all_sums m v k w e
merges_sums m v k w e h (suc j) l = ap (merges_of m k j) (sums_up m v k w e h j l) ∙ merges_sums m v k w e h j (omega arith)

one_moment : (m n : ℕ) (b d : List ℕ) → moments_by m n b 1 (take (2 ^ n) d) ≡ mul m (sum_to (2 ^ n) (λ i. get_or d i 0)) 1 ∷ []
unfolding moments_by from moment
one_moment m n b d =
    ap (λ (x : ℕ). x ∷ [])
    (sum_cong (2 ^ n) _ _ (λ i h. ap₂ (mul m) (get_or-take (2 ^ n) d i 0 h) (power_zero m (point_of n b i)) ∙ mul_comm m (get_or d i 0) 1)
    ∙ sum-mul m 1 (2 ^ n) (λ i. get_or d i 0) ∙ mul_comm m 1 _)

heap_blocks : (m n : ℕ) (b : List ℕ) (q : ℕ) (d : List ℕ) → length d ≡ q * 2 ^ n → heaped m (2 ^ n) q d ≡ each_block (moments_by m n b 1) (2 ^ n) q d
unfolding heaped each_block
heap_blocks m n b zero [] e = refl
heap_blocks m n b zero (x ∷ d) e = absurd (omega (arith, zero-mul (2 ^ n)))
heap_blocks m n b (suc q) d e =
    ap₂ ◌++◌ (sym (one_moment m n b d)) (heap_blocks m n b q (drop (2 ^ n) d) (length_rest q (2 ^ n) d e))

pub heap_sums : (m : ℕ) → Width m → (k r q : ℕ) (w d c : List ℕ) → length w ≡ 2 ^ m → k ≤ m → r ≡ 2 ^ (m - k) → q ≡ 2 ^ k → d ≡ weights_of m k w
    → c ≡ heaped m r q d → c ≡ sums_of m k k w
unfolding sums_of
heap_sums m v k r q w d c e h er eq ed ec =
    let z : 0 ≡ k - k = omega arith in
    ec ∙ ap₂ (λ (a b : ℕ). heaped m a b d) er eq ∙ ap (heaped m (2 ^ (m - k)) (2 ^ k)) ed
    ∙ heap_blocks m (m - k) (basis_of m k) (2 ^ k) (weights_of m k w) (length_weights m v w e k h)
    ∙ ap (λ (i : ℕ). each_block (moments_by m (m - k) (basis_of m k) (2 ^ i)) (2 ^ (m - k)) (2 ^ k) (weights_of m k w)) z

prefix_sums : (m k : ℕ) (w : List ℕ) → power_sums m k (take (2 ^ m) w) ≡ power_sums m k w
unfolding power_sums
prefix_sums m k w =
    map-from _ _ 0 0 k (λ s h. sum_cong (2 ^ m) _ _ (λ a g. ap (λ (x : ℕ). mul m x (power m a (0 + s))) (get_or-take (2 ^ m) w a 0 g)))

length-power_sums : (m k : ℕ) (w : List ℕ) → length (power_sums m k w) ≡ k
unfolding power_sums
length-power_sums m k w = length-map-from _ 0 k

pub heap_size : (m : ℕ) → Width m → (k r : ℕ) (w d : List ℕ) {n : ℕ} → length w ≡ 2 ^ m → k ≤ m → r ≡ 2 ^ (m - k) → d ≡ weights_of m k w → n ≡ 2 ^ k → length d ≡ n * r
heap_size m v k r w d e h er ed en = ap length ed ∙ length_weights m v w e k h ∙ ap₂ ◌*◌ (sym en) (sym er)

pub summed_form : (m : ℕ) → Width m → (k r n : ℕ) (w d c y : List ℕ) → length w ≡ 2 ^ m → k ≤ m → r ≡ 2 ^ (m - k) → n ≡ 2 ^ k → d ≡ weights_of m k w
    → c ≡ heaped m r n d → y ≡ merges_of m k k c → y ≡ power_sums m (2 ^ k) w
summed_form m v k r n w d c y e h er en ed ec ey =
    ey ∙ ap (merges_of m k k) (heap_sums m v k r n w d c e h er en ed ec) ∙ merges_sums m v k w e h k (le_refl k)

padded_form : (l : List ℕ) → padded 256 l ≡ l ++ replicate (256 - length l) 0
unfolding padded
padded_form l = refl

module _ (m : ℕ) (v : Width m) (k : ℕ) (w : List ℕ) (ek : k ≡ min m 8) where
  pub fewest : (k ≤ m) × (k ≤ 8)
  fewest = (omega (arith, min-le_left m 8), omega (arith, min-le_right m 8))

  pub weights_prefix : {t : ℕ} → m < 14 → t ≡ 2 ^ m → length w ≡ 8192 → (t ≤ length w) × (length (take t w) ≡ t)
  weights_prefix {t} s et lw =
      let o : m ≤ 13 = omega arith in
      let i : t ≤ length w = omega (arith, et, pow_mono o) in
      (i, length-take-le t w i)

  pub sums_prefix : {n : ℕ} → n ≡ 2 ^ k → (n ≤ 256) × (length (take n (replicate {A = ℕ} 256 0)) ≡ n)
  sums_prefix {n} en =
      let i : n ≤ 256 = omega (arith, en, pow_mono fewest.1) in
      (i, length-take-le n (replicate {A = ℕ} 256 0) (omega (arith, length-replicate {A = ℕ} 256 0)))

  pub sums_form : (n t : ℕ) (y : List ℕ) → n ≡ 2 ^ k → t ≡ 2 ^ m → y ≡ power_sums m (2 ^ k) (take t w) → y ++ drop n (replicate 256 0) ≡ sums_all m w
  unfolding sums_all
  sums_form n t y en et ey =
      let f : y ≡ power_sums m (2 ^ k) w = ey ∙ ap (λ (i : ℕ). power_sums m (2 ^ k) (take i w)) et ∙ prefix_sums m (2 ^ k) w in
      ap₂ ◌++◌ f (drop_zeros n 256 ∙ ap (λ (i : ℕ). replicate (256 - i) 0) (en ∙ sym (length-power_sums m (2 ^ k) w)))
      ∙ sym (padded_form (power_sums m (2 ^ k) w))
      ∙ sym (ap₂ (λ (b : Bool) (i : ℕ). padded 256 (cond b (power_sums m (2 ^ i) w) [])) v (sym ek))

pub no_sums : (m : ℕ) (w : List ℕ) → is_width m ≡ false → replicate 256 0 ≡ sums_all m w
unfolding sums_all
no_sums m w e = sym (ap (λ (b : Bool). padded 256 (cond b (power_sums m (2 ^ min m 8) w) [])) e ∙ sym (padded-start 256 w))
