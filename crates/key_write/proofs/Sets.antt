-- Bytes set one after another. Assumes nothing.
use mathlib.Core.Path.{◌≡◌, refl, sym, ap, ap₂, ◌∙◌}
use mathlib.Core.List.{List, [], ◌∷◌, ◌++◌, flat_map}
use Prim.Native.Nat.{ℕ, suc, ◌+◌, ◌*◌, ◌/◌, ◌%◌, ◌≤◌, ◌<◌}
use native.Mathlib.Numerals.{add-one}
use native.Mathlib.Omega.{arith}
use lib.ListN.{length, get_or, drop, set, drop_of_length-le}
use lib.Seq.{sets, drop-cons}
use Rattle.key.specs.Keys.{two_bytes}
use Rattle.key.proofs.Parse.{length_bytes}

pub sets_two : (l : List ℕ) (at x : ℕ) → set (set l at (x % 256)) (at + 1) (x / 256) ≡ sets l at (two_bytes x)
unfolding two_bytes
sets_two l at x = ap (λ (i : ℕ). set (set l at (x % 256)) i (x / 256)) (add-one at)

pub sets_append : (l : List ℕ) (at : ℕ) (xs ys : List ℕ) → sets (sets l at xs) (at + length xs) ys ≡ sets l at (xs ++ ys)
sets_append l at [] ys = ap (λ (i : ℕ). sets l i ys) (let e : at + 0 ≡ at = omega arith in e)
sets_append l at (x ∷ xs) ys =
    ap (λ (i : ℕ). sets (sets (set l at x) (suc at) xs) i ys) (let e : at + suc (length xs) ≡ suc at + length xs = omega arith in e)
    ∙ sets_append (set l at x) (suc at) xs ys

pub two_long : (x : ℕ) → length (two_bytes x) ≡ 2
unfolding two_bytes
two_long x = refl

-- the elements from i on are left
pub sets_next : (l : List ℕ) (at : ℕ) (xs : List ℕ) (i : ℕ) → i < length xs
    → sets (sets l (at + 2 * i) (two_bytes (get_or xs i 0))) (at + 2 * (i + 1)) (flat_map two_bytes (drop (i + 1) xs)) ≡ sets l (at + 2 * i) (flat_map two_bytes (drop i xs))
unfolding flat_map
sets_next l at xs i h =
    let x : ℕ = get_or xs i 0 in
    ap₂ (λ (a : ℕ) (r : List ℕ). sets (sets l (at + 2 * i) (two_bytes x)) a (flat_map two_bytes r)) (let e : at + 2 * (i + 1) ≡ at + 2 * i + 2 = omega arith in e) (ap (λ (k : ℕ). drop k xs) (add-one i))
    ∙ ap (λ (k : ℕ). sets (sets l (at + 2 * i) (two_bytes x)) (at + 2 * i + k) (flat_map two_bytes (drop (suc i) xs))) (sym (two_long x))
    ∙ sets_append l (at + 2 * i) (two_bytes x) (flat_map two_bytes (drop (suc i) xs))
    ∙ ap (λ (r : List ℕ). sets l (at + 2 * i) (flat_map two_bytes r)) (sym (drop-cons xs i 0 h))

pub sets_end : (l : List ℕ) (at : ℕ) (xs : List ℕ) (i : ℕ) → length xs ≤ i → sets l (at + 2 * i) (flat_map two_bytes (drop i xs)) ≡ l
unfolding flat_map
sets_end l at xs i h = ap (λ (r : List ℕ). sets l (at + 2 * i) (flat_map two_bytes r)) (drop_of_length-le xs h)

-- a key's parts, one after another
pub sets_key : (o : List ℕ) (n t : ℕ) (xs ys : List ℕ) → length xs ≡ n
    → sets (sets (sets (sets o 1 (two_bytes n)) 3 (flat_map two_bytes xs)) (3 + 2 * n) (two_bytes t)) (5 + 2 * n) (flat_map two_bytes ys)
    ≡ sets o 1 (two_bytes n ++ (flat_map two_bytes xs ++ (two_bytes t ++ flat_map two_bytes ys)))
sets_key o n t xs ys e =
    let b : List ℕ = flat_map two_bytes xs in
    let d : List ℕ = flat_map two_bytes ys in
    let o₂ : List ℕ = sets o 1 (two_bytes n) in
    let o₃ : List ℕ = sets o₂ 3 b in
    ap (λ (k : ℕ). sets (sets o₃ (3 + 2 * n) (two_bytes t)) k d) (let q : 5 + 2 * n ≡ 3 + 2 * n + length (two_bytes t) = omega (arith, two_long t) in q)
    ∙ sets_append o₃ (3 + 2 * n) (two_bytes t) d
    ∙ ap (λ (k : ℕ). sets o₃ k (two_bytes t ++ d)) (let q : 3 + 2 * n ≡ 3 + length b = omega (arith, length_bytes xs, e) in q)
    ∙ sets_append o₂ 3 b (two_bytes t ++ d)
    ∙ ap (λ (k : ℕ). sets o₂ k (b ++ (two_bytes t ++ d))) (let q : 3 ≡ 1 + length (two_bytes n) = omega (arith, two_long n) in q)
    ∙ sets_append o 1 (two_bytes n) (b ++ (two_bytes t ++ d))
