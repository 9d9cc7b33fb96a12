-- What the functions above the loops put together. Assumes nothing.
use mathlib.Core.Path.{◌≡◌, sym, ap, ap₂, ◌∙◌}
use mathlib.Core.List.{List, ◌++◌}
use Prim.Native.Nat.{ℕ, suc, ◌+◌, ◌-◌, ◌*◌, ◌^◌, ◌≤◌, ◌<◌, min}
use native.Mathlib.Nat.{pow-suc, le_refl}
use native.Mathlib.Numerals.{add-one}
use native.Mathlib.Omega.{arith}
use lib.Pow.{pow_pos, pow-add, pow_mono}
use borrow.Rule.Slice.PartMut.{put_mid}
use lib.ListN.{length, get_or, take, drop}
use Rattle.bits.specs.Bits.{each_with, xor_row, padded}
use Rattle.bits.proofs.Each.{length-each_with}
use Rattle.bits.proofs.Rows.{length-xor_row}
use Rattle.field.specs.Field.{mul}
use Rattle.field.specs.Poly.{horner_each}
use Rattle.field.proofs.Table.{Width}
use Rattle.levels.specs.Levels.{factors_of, top_of, Factors, Tops}
use Rattle.levels.specs.Twist.{each_block, powers_of, twisted_by}
use Rattle.levels.proofs.Blocks.{length-each_block}
use Rattle.levels.proofs.Filled.{length_factors}
use Rattle.levels.proofs.Halves.{length-low, length_high, high_copied, low_copied, high_added}
use Rattle.levels.proofs.Twists.{twisted_powers, horner_products}
use Rattle.transform.specs.Halves.{expanded, unzip, halves, split_by, split}
use Rattle.transform.specs.Values.{butterfly, parts_of, joins_of, spread, everywhere}
use Rattle.transform.proofs.Lengths.{length-butterfly}
use Rattle.transform.proofs.Loops.{length-spread}
use Rattle.transform.proofs.AllLevels.{last_values, parts-length, joins_values}

-- a split by the powers of b
pub split_powers : (m : ℕ) → Width m → (b n : ℕ) (p c : List ℕ) → p ≡ padded 512 (powers_of m b (min n 512)) → n ≤ 512 → length c ≤ suc n → split_by m p c ≡ split m b c
unfolding split_by split halves
split_powers m w b n p c e l h = ap (λ (l : List ℕ). (unzip (expanded l)).0 ++ (unzip (expanded l)).1) (twisted_powers m w b n p c e l h)

-- a split by parts
pub split_form : (m : ℕ) (p c t e r : List ℕ) → t ≡ twisted_by m p c → e ≡ expanded t → r ≡ (unzip e).0 ++ (unzip e).1 → r ≡ split_by m p c
unfolding split_by
split_form m p c t e r et ee er = er ∙ ap (λ (l : List ℕ). (unzip l).0 ++ (unzip l).1) (ee ∙ ap expanded et)

-- a butterfly by way of p
pub butterfly_form : (m : ℕ) → Width m → (g l p : List ℕ) {q r a s y : List ℕ} → length l ≡ length g + length g → length p ≡ length g
    → q ≡ each_with (λ x y. y) p (take (length l - length g) (drop (length g) l)) → r ≡ horner_each m 0 q g → a ≡ xor_row (take (length g) l) r
    → s ≡ each_with (λ x y. y) r (take (length g) (a ++ drop (length g) l))
    → y ≡ xor_row (take (length (a ++ drop (length g) l) - length g) (drop (length g) (a ++ drop (length g) l))) s
    → put_mid (length g) (length (a ++ drop (length g) l) - length g) (a ++ drop (length g) l) y ≡ butterfly m g l
unfolding butterfly
butterfly_form m w g l p {q} {r} {a} {s} el ep eq er ea es ey =
    let h : ℕ = length g in
    let v : List ℕ = drop (length g) l in
    let q-high : q ≡ v = eq ∙ high_copied (length g) l el p ep in
    let products : r ≡ each_with (mul m) v g = er ∙ horner_products m w q g ∙ ap (λ (x : List ℕ). each_with (mul m) x g) q-high in
    let lr : length r ≡ length g = ap length products ∙ length-each_with (mul m) v g ∙ length_high (length g) l el in
    let la : length a ≡ length g = ap length ea ∙ length-xor_row (take (length g) l) r ∙ length-low (length g) l el in
    let s-low : s ≡ a = es ∙ low_copied (length g) l el a la r lr in
    high_added (length g) l el a la s ey ∙ ap (λ (x : List ℕ). a ++ xor_row v x) s-low
    ∙ ap (λ (x : List ℕ). x ++ xor_row v x) (ea ∙ ap (xor_row (take (length g) l)) products)

pub parts_all : (m j : ℕ) → j < m → 2 ^ m ≡ 2 ^ j * (2 ^ (m - suc j) + 2 ^ (m - suc j))
parts_all m j h =
    let e : m ≡ j + suc (m - suc j) = omega arith in
    ap (λ (i : ℕ). 2 ^ i) e ∙ pow-add 2 j (suc (m - suc j)) ∙ ap (λ (x : ℕ). 2 ^ j * x) (twice (m - suc j))
  where
    twice : (n : ℕ) → 2 ^ suc n ≡ 2 ^ n + 2 ^ n
    twice n = omega (arith, pow-suc 2 n)

module _ (m k j h : ℕ) (g : List ℕ) (p : 0 < j) (l : j ≤ k) (km : k ≤ m) (e : h ≡ 2 ^ (m - 1 - (j - 1))) where
  half : h ≡ 2 ^ (m - suc (j - 1))
  half =
      let d : m - 1 - (j - 1) ≡ m - suc (j - 1) = omega arith in
      e ∙ ap (λ (i : ℕ). 2 ^ i) d

  pub half_fits : m < 14 → h + h ≤ 8192
  half_fits w =
      let s : suc (m - suc (j - 1)) ≤ 13 = omega arith in
      omega (arith, half, pow-suc 2 (m - suc (j - 1)), pow_mono s)

  pub factors_part : Factors m k g → take (h + h - h) (drop h g) ≡ factors_of m (j - 1)
  factors_part f =
      let d : h + h - h ≡ h = omega arith in
      ap₂ (λ (a b : ℕ). take a (drop b g)) (d ∙ half) half ∙ f (j - 1) (omega arith)

  pub factors_length : Factors m k g → length (take (h + h - h) (drop h g)) ≡ h
  factors_length f = ap length (factors_part f) ∙ length_factors m (j - 1) ∙ sym half

  pub join_length : {n q : ℕ} → Factors m k g → q ≡ 2 ^ (j - 1) → n ≡ 2 ^ m
      → n ≡ q * (length (take (h + h - h) (drop h g)) + length (take (h + h - h) (drop h g)))
  join_length f eq en =
      en ∙ parts_all m (j - 1) (omega arith)
      ∙ ap₂ (λ (a b : ℕ). a * (b + b)) (sym eq) (sym (ap length (factors_part f) ∙ length_factors m (j - 1)))

  pub join_next : (q : ℕ) (d y : List ℕ) → Factors m k g → q ≡ 2 ^ (j - 1)
      → y ≡ each_block (butterfly m (take (h + h - h) (drop h g))) (length (take (h + h - h) (drop h g)) + length (take (h + h - h) (drop h g))) q d
      → joins_of m (j - 1) y ≡ joins_of m j d
  unfolding joins_of
  join_next q d y f eq ey =
      let i : j ≡ suc (j - 1) = omega arith in
      let n : m - (j - 1) ≡ suc (m - suc (j - 1)) = omega arith in
      let t : 2 ^ (m - (j - 1)) ≡ 2 ^ (m - suc (j - 1)) + 2 ^ (m - suc (j - 1)) = ap (λ (x : ℕ). 2 ^ x) n ∙ twice (m - suc (j - 1)) in
      ap (joins_of m (j - 1))
      (ey ∙ ap₂ (λ (x : List ℕ) (r : ℕ). each_block (butterfly m x) (length x + length x) r d) (factors_part f) eq
      ∙ ap (λ (x : ℕ). each_block (butterfly m (factors_of m (j - 1))) x (2 ^ (j - 1)) d) (ap₂ ◌+◌ (length_factors m (j - 1)) (length_factors m (j - 1)) ∙ sym t))
      ∙ ap (λ (x : ℕ). joins_of m x d) (sym i)
    where
      twice : (n : ℕ) → 2 ^ suc n ≡ 2 ^ n + 2 ^ n
      twice n = omega (arith, pow-suc 2 n)

  pub joined_length : (q : ℕ) (d y : List ℕ) → length d ≡ q * (length (take (h + h - h) (drop h g)) + length (take (h + h - h) (drop h g)))
      → y ≡ each_block (butterfly m (take (h + h - h) (drop h g))) (length (take (h + h - h) (drop h g)) + length (take (h + h - h) (drop h g))) q d
      → length y ≡ length d
  joined_length q d y ld ey =
      let x : List ℕ = take (h + h - h) (drop h g) in
      ap length ey ∙ length-each_block (butterfly m x) (length x + length x) (length-butterfly m x) q d (omega arith)

-- splitting level j
module _ (m k j : ℕ) (l : j < k) (km : k ≤ m) where
  fewer : k - 1 - j ≡ k - suc j
  fewer = omega arith

  module _ (h q : ℕ) (eh : h ≡ 2 ^ (k - 1 - j)) (eq : q ≡ 2 ^ j) where
    twice_h : h + h ≡ 2 ^ (k - j)
    twice_h =
        let d : k - j ≡ suc (k - suc j) = omega arith in
        omega (arith, eh ∙ ap (λ (i : ℕ). 2 ^ i) fewer, pow-suc 2 (k - suc j), ap (λ (i : ℕ). 2 ^ i) d)

    pub split-length : {n : ℕ} → n ≡ 2 ^ k → n ≡ q * (h + h)
    split-length e =
        let d : k ≡ j + (k - j) = omega arith in
        e ∙ ap (λ (i : ℕ). 2 ^ i) d ∙ pow-add 2 j (k - j) ∙ ap₂ ◌*◌ (sym eq) (sym twice_h)

    pub split_small : k ≤ 9 → (0 < h) × (h ≤ 256)
    split_small s =
        let d : k - 1 - j ≤ 8 = omega arith in
        (omega (arith, eh, pow_pos (k - 1 - j)), omega (arith, eh, pow_mono d))

    pub parts_next : (t c₀ c y : List ℕ) → Tops m k t → c ≡ parts_of m k j c₀
        → y ≡ each_block (split m (get_or t j 0)) (h + h) q c → y ≡ parts_of m k (j + 1) c₀
    unfolding parts_of
    parts_next t c₀ c y tops ec ey =
        ey ∙ ap (λ (x : ℕ). each_block (split m x) (h + h) q c) (tops j l)
        ∙ ap₂ (λ (x r : ℕ). each_block (split m (top_of m j)) x r c) twice_h eq
        ∙ ap (each_block (split m (top_of m j)) (2 ^ (k - j)) (2 ^ j)) ec ∙ ap (λ (i : ℕ). parts_of m k i c₀) (sym (add-one j))

pub transform_form : (m : ℕ) → Width m → (k r : ℕ) (p c d y : List ℕ) → length p ≡ 2 ^ k → k ≤ m → r ≡ 2 ^ (m - k)
    → c ≡ parts_of m k k p → d ≡ spread r c → y ≡ joins_of m k d → y ≡ everywhere m p
transform_form m w k r p c d y e h er ec ed ey =
    ey ∙ ap (joins_of m k) (ed ∙ ap₂ spread er ec ∙ last_values m w k p e) ∙ joins_values m w k p e h k (le_refl k)

pub spread-size : (m : ℕ) → Width m → (k r : ℕ) {n : ℕ} (p c : List ℕ) → length p ≡ 2 ^ k → k ≤ m → r ≡ 2 ^ (m - k) → c ≡ parts_of m k k p → n ≡ 2 ^ m → n ≡ length c * r
spread-size m w k r p c e h er ec en =
    let d : m ≡ k + (m - k) = omega arith in
    en ∙ ap (λ (i : ℕ). 2 ^ i) d ∙ pow-add 2 k (m - k) ∙ ap₂ ◌*◌ (sym (ap length ec ∙ parts-length m k p w e k (le_refl k))) (sym er)

pub spread-length : (m k r : ℕ) (c d : List ℕ) {n : ℕ} → d ≡ spread r c → n ≡ length c * r → length d ≡ n
spread-length m k r c d ed en = ap length ed ∙ length-spread r c ∙ sym en
