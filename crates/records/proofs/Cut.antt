-- A list cut into parts of c numbers: how many parts there are, and which numbers each has. Assumes nothing.
use mathlib.Core.Path.{◌≡◌, refl, sym, ap, ◌∙◌}
use mathlib.Core.List.{List, [], ◌∷◌, map}
use Prim.Native.Nat.{ℕ, zero, suc, ◌+◌, ◌-◌, ◌*◌, ◌/◌, ◌≤◌, ◌<◌, min}
use native.Mathlib.Nat.{zero-mul, suc-mul, add_comm, div-eq_of_lt, add-div_right, le-div_iff_mul-le, min-eq_left, min-eq_right}
use native.Mathlib.Decide.{dec_le}
use native.Mathlib.Numerals.{add-one}
use native.Mathlib.Omega.{arith}
use lib.ListN.{length, get_or, take, drop, length-drop}
use lib.Seq.{take_all, take-nil, drop-nil, drop-drop}
use Rattle.bits.proofs.Lists.{map_at}
use Rattle.records.specs.Records.{cut}

-- c numbers from i on, or what is left
pub take_within : (c i : ℕ) (l : List ℕ) {k : ℕ} → k ≡ min c (length l - i) → take (i + k - i) (drop i l) ≡ take c (drop i l)
take_within c i l {k} e =
    let d : i + k - i ≡ k = omega arith in
    rw (d, e) (go (dec_le c (length l - i)))
  where
    n : length (drop i l) ≡ length l - i
    n = length-drop i l

    go : Dec (c ≤ length l - i) → take (min c (length l - i)) (drop i l) ≡ take c (drop i l)
    go (yes h) = ap (λ (k : ℕ). take k (drop i l)) (min-eq_left h)
    go (no h) =
        let b : length l - i ≤ c = omega arith in
        ap (λ (k : ℕ). take k (drop i l)) (min-eq_right b)
        ∙ take_all (length l - i) (drop i l) (omega (arith, n)) ∙ sym (take_all c (drop i l) (omega (arith, n)))

-- more parts than numbers change nothing
pub cut_enough : (k j c : ℕ) (l : List ℕ) → 0 < c → length l ≤ k → length l ≤ j → cut k c l ≡ cut j c l
unfolding cut
cut_enough zero zero c l h x y = refl
cut_enough zero (suc j) c [] h x y = refl
cut_enough zero (suc j) c (b ∷ l) h x y = absurd (omega arith)
cut_enough (suc k) zero c [] h x y = refl
cut_enough (suc k) zero c (b ∷ l) h x y = absurd (omega arith)
cut_enough (suc k) (suc j) c [] h x y = refl
cut_enough (suc k) (suc j) c (b ∷ l) h x y =
    let e = length-drop c (b ∷ l) in
    ap (λ (r : List (List ℕ)). take c (b ∷ l) ∷ r) (cut_enough k j c (drop c (b ∷ l)) h (omega (arith, e)) (omega (arith, e)))

-- the first part, then those of what is left
pub cut-next : (c : ℕ) (l : List ℕ) → 0 < c → 0 < length l → cut (length l) c l ≡ take c l ∷ cut (length (drop c l)) c (drop c l)
unfolding cut
cut-next c [] h x = absurd (omega arith)
cut-next c (b ∷ l) h x =
    let e = length-drop c (b ∷ l) in
    ap (λ (r : List (List ℕ)). take c (b ∷ l) ∷ r) (cut_enough (length l) (length (drop c (b ∷ l))) c (drop c (b ∷ l)) h (omega (arith, e)) (omega arith))

-- n / c rounded up: one more than for c fewer
rounded_next : (n c : ℕ) → 0 < c → 0 < n → suc ((n - c + (c - 1)) / c) ≡ (n + (c - 1)) / c
rounded_next n c h p =
    let d : ℕ = n - 1 in
    let s : n + (c - 1) ≡ d + c = omega arith in
    sym (ap (◌/ c) s ∙ add-div_right d h ∙ add-one (d / c) ∙ ap suc (go (dec_le c n)))
  where
    go : Dec (c ≤ n) → (n - 1) / c ≡ (n - c + (c - 1)) / c
    go (yes b) = let e : n - 1 ≡ n - c + (c - 1) = omega arith in ap (◌/ c) e
    go (no b) = div-eq_of_lt {n = n - 1} (omega arith) ∙ sym (div-eq_of_lt {n = n - c + (c - 1)} (omega arith))

number-within : (k c : ℕ) (l : List ℕ) → 0 < c → length l ≤ k → length (cut k c l) ≡ (length l + (c - 1)) / c
unfolding cut
number-within zero c [] h x = sym (div-eq_of_lt {n = 0 + (c - 1)} (omega arith))
number-within zero c (b ∷ l) h x = absurd (omega arith)
number-within (suc k) c [] h x = sym (div-eq_of_lt {n = 0 + (c - 1)} (omega arith))
number-within (suc k) c (b ∷ l) h x =
    let e = length-drop c (b ∷ l) in
    ap suc (number-within k c (drop c (b ∷ l)) h (omega (arith, e)) ∙ ap (λ (n : ℕ). (n + (c - 1)) / c) e)
    ∙ rounded_next (length (b ∷ l)) c h (omega arith)

-- no more parts than asked for
pub cut_most : (k c : ℕ) (l : List ℕ) → length (cut k c l) ≤ k
unfolding cut
cut_most zero c l = omega arith
cut_most (suc k) c [] = omega arith
cut_most (suc k) c (b ∷ l) = let r = cut_most k c (drop c (b ∷ l)) in omega arith

-- the number of parts: the length divided by c, rounded up
pub cut-number : (c : ℕ) (l : List ℕ) → 0 < c → length (cut (length l) c l) ≡ (length l + (c - 1)) / c
cut-number c l h = number-within (length l) c l h (omega arith)

-- part i starts within the list
pub cut-within : (c i : ℕ) (l : List ℕ) → 0 < c → i < length (cut (length l) c l) → i * c < length l
cut-within c i l h b =
    let k : suc i ≤ (length l + (c - 1)) / c = rw (cut-number c l h) at b in
    let m : suc i * c ≤ length l + (c - 1) = (le-div_iff_mul-le h).0 k in
    omega (arith, suc-mul i c)

-- part i: c numbers from i·c on, or as many as are left
pub cut-part : (c i : ℕ) (l : List ℕ) → 0 < c → get_or (cut (length l) c l) i [] ≡ take c (drop (i * c) l)
unfolding cut
cut-part c zero [] h = sym (ap (take c) (drop-nil (0 * c)) ∙ take-nil c)
cut-part c zero (b ∷ l) h =
    ap (λ (r : List (List ℕ)). get_or r 0 []) (cut-next c (b ∷ l) h (omega arith)) ∙ ap (λ (j : ℕ). take c (drop j (b ∷ l))) (sym (zero-mul c))
cut-part c (suc i) [] h = sym (ap (take c) (drop-nil (suc i * c)) ∙ take-nil c)
cut-part c (suc i) (b ∷ l) h =
    let e : c + i * c ≡ suc i * c = add_comm c (i * c) ∙ sym (suc-mul i c) in
    ap (λ (r : List (List ℕ)). get_or r (suc i) []) (cut-next c (b ∷ l) h (omega arith))
    ∙ cut-part c i (drop c (b ∷ l)) h
    ∙ ap (take c) (drop-drop (i * c) c (b ∷ l) ∙ ap (λ (j : ℕ). drop j (b ∷ l)) e)

-- the value of f at part i
pub cut-map : (f : List ℕ → ℕ) (c i : ℕ) (l : List ℕ) → 0 < c → i < length (cut (length l) c l)
    → get_or (map f (cut (length l) c l)) i 0 ≡ f (take c (drop (i * c) l))
cut-map f c i l h b = map_at f (cut (length l) c l) i [] 0 b ∙ ap f (cut-part c i l h)
