-- Coefficients times powers, as the code makes them. Assumes nothing.
use mathlib.Core.Path.{◌≡◌, refl, ap, ap₂, ◌∙◌, fun_ext}
use mathlib.Core.List.{List, [], ◌∷◌, ◌++◌, map, append-nil}
use Prim.Native.Nat.{ℕ, zero, suc, ◌+◌, ◌-◌, ◌≤◌, ◌<◌, min}
use native.Mathlib.Nat.{le_of_suc-le-suc, not-suc-le-zero, add_comm, min-eq_left}
use native.Mathlib.Omega.{arith}
use lib.ListN.{length, get_or, take, drop, drop_of_length-le}
use lib.Seq.{take_all}
use Rattle.bits.specs.Bits.{from, each_with, padded}
use Rattle.bits.proofs.Xor.{xor-zero}
use Rattle.bits.proofs.Lists.{length-map-from, map-from-at}
use Rattle.field.specs.Field.{mul, power}
use Rattle.field.specs.Poly.{horner_each}
use Rattle.field.proofs.Table.{Width}
use Rattle.field.proofs.Places.{horner_each_width, length-horner_each}
use Rattle.levels.specs.Twist.{scaled, twisted, powers_of, twisted_by}

pub length-scaled : (m b s : ℕ) (l : List ℕ) → length (scaled m b s l) ≡ length l
unfolding scaled
length-scaled m b s [] = refl
length-scaled m b s (c ∷ l) = ap suc (length-scaled m b (suc s) l)

pub length-twisted : (m b : ℕ) (l : List ℕ) → length (twisted m b l) ≡ length l
unfolding twisted
length-twisted m b [] = refl
length-twisted m b (c ∷ l) = ap suc (length-scaled m b 1 l)

pub length-twisted_by : (m : ℕ) (p c : List ℕ) → length (twisted_by m p c) ≡ length c
unfolding twisted_by
length-twisted_by m p [] = refl
length-twisted_by m p (x ∷ c) = ap suc (length-horner_each m 0 c p)

-- all coefficients but the first
pub twist_form : (m : ℕ) (p c y : List ℕ) → 0 < length c → y ≡ horner_each m 0 (take (length c - 1) (drop 1 c)) p
    → take 1 c ++ (y ++ drop (length c - 1) (drop 1 c)) ≡ twisted_by m p c
unfolding twisted_by
twist_form m p [] y h e = absurd (not-suc-le-zero h)
twist_form m p (x ∷ c) y h e =
    ap (◌∷◌ x)
    (ap₂ ◌++◌ (e ∙ ap (λ (l : List ℕ). horner_each m 0 l p) (take_all (suc (length c) - 1) c (omega arith)))
    (drop_of_length-le c {i = suc (length c) - 1} (omega arith)) ∙ append-nil _)

pub twist_none : (m : ℕ) (p c : List ℕ) → length c ≡ 0 → c ≡ twisted_by m p c
unfolding twisted_by
twist_none m p [] e = refl
twist_none m p (x ∷ c) e = absurd (omega arith)

-- powers
pub length_powers : (m b n : ℕ) → length (powers_of m b n) ≡ n
unfolding powers_of
length_powers m b n = length-map-from (power m b) 1 n

pub powers_at : (m b n i : ℕ) → i < n → get_or (powers_of m b n) i 0 ≡ power m b (i + 1)
unfolding powers_of
powers_at m b n i h = map-from-at (power m b) 1 n i 0 h ∙ ap (power m b) (add_comm 1 i)

-- products place by place
pub horner_products : (m : ℕ) → Width m → (c p : List ℕ) → horner_each m 0 c p ≡ each_with (mul m) c p
horner_products m w c p = horner_each_width m 0 c p w ∙ ap (λ (f : ℕ → ℕ → ℕ). each_with f c p) (fun_ext λ a. fun_ext λ d. xor-zero (mul m a d))

-- powers in a table
scaled_powers : (m b k n : ℕ) (c z : List ℕ) → length c ≤ n → each_with (mul m) c (map (power m b) (from k n) ++ z) ≡ scaled m b k c
unfolding each_with scaled from
scaled_powers m b k n [] z h = refl
scaled_powers m b k zero (x ∷ c) z h = absurd (not-suc-le-zero h)
scaled_powers m b k (suc n) (x ∷ c) z h = ap (◌∷◌ (mul m x (power m b k))) (scaled_powers m b (suc k) n c z (le_of_suc-le-suc h))

pub twisted_powers : (m : ℕ) → Width m → (b n : ℕ) (p c : List ℕ) → p ≡ padded 512 (powers_of m b (min n 512)) → n ≤ 512 → length c ≤ suc n
    → twisted_by m p c ≡ twisted m b c
unfolding twisted_by twisted padded powers_of
twisted_powers m w b n p [] e l h = refl
twisted_powers m w b n p (x ∷ c) e l h =
    ap (◌∷◌ x)
    (ap (horner_each m 0 c) (e ∙ ap (λ (k : ℕ). padded 512 (powers_of m b k)) (min-eq_left l)) ∙ horner_products m w c (padded 512 (powers_of m b n))
    ∙ scaled_powers m b 1 n c _ (le_of_suc-le-suc h))
