-- The parts of the text, case by case. Assumes nothing.
use mathlib.Core.Path.{◌≡◌, refl, sym, ap, ◌∙◌}
use mathlib.Core.Bool.{false}
use mathlib.Core.List.{List, [], ◌∷◌, ◌++◌, map}
use Prim.Native.Nat.{ℕ, zero, suc, ◌+◌, ◌-◌, ◌≤◌, ◌<◌}
use native.Mathlib.Nat.{sub-zero}
use native.Mathlib.Numerals.{add-one}
use native.Mathlib.Omega.{arith}
use borrow.Author.Tests.{eq-eqb, ne_eqb}
use lib.Dec.{eqb}
use lib.ListN.{length, get_or, length-append}
use Rattle.bits.specs.Bits.{from, bit_at, unpack}
use Rattle.opener.specs.Report.{refuses, opens, total_is, are_opened, newline, decimal, place, places, answer, total_line, unless_refused, large}

pub place-zero : (b i : ℕ) → b ≡ 0 → place b i ≡ []
unfolding place
place-zero zero i e = refl
place-zero (suc b) i e = absurd (omega arith)

pub place_one : (b i : ℕ) → (b ≡ 0 → ⊥) → place b i ≡ 32 ∷ decimal i
unfolding place
place_one zero i h = absurd (h refl)
place_one (suc b) i h = refl

-- the places from i on
pub places_left : List ℕ → ℕ → ℕ → List ℕ
places_left pattern n i = places i (map (bit_at pattern) (from i (n - i)))

pub left_all : (pattern : List ℕ) (n : ℕ) → places_left pattern n 0 ≡ places 0 (unpack n pattern)
unfolding places_left unpack
left_all pattern n = ap (λ (k : ℕ). places 0 (map (bit_at pattern) (from 0 k))) (sub-zero n)

pub left_next : (pattern : List ℕ) (n i : ℕ) → i < n → places_left pattern n i ≡ place (bit_at pattern i) i ++ places_left pattern n (i + 1)
unfolding places_left from places
left_next pattern n i h =
    let e : n - i ≡ suc (n - (i + 1)) = omega arith in
    ap (λ (k : ℕ). places i (map (bit_at pattern) (from i k))) e
    ∙ ap (λ (k : ℕ). place (bit_at pattern i) i ++ places k (map (bit_at pattern) (from k (n - (i + 1))))) (sym (add-one i))

pub left_done : (pattern : List ℕ) (n i : ℕ) → n ≤ i → places_left pattern n i ≡ []
unfolding places_left from places
left_done pattern n i h =
    let e : n - i ≡ 0 = omega arith in
    ap (λ (k : ℕ). places i (map (bit_at pattern) (from i k))) e

-- the next place is no longer than what is left
pub place-room : (b : ℕ) (pattern : List ℕ) (n i : ℕ) → b ≡ bit_at pattern i → i < n → length (place b i) ≤ length (places_left pattern n i)
place-room b pattern n i e h =
    rw (left_next pattern n i h, e) (simp length-append (omega arith))

pub answer_open : (n : ℕ) (e : List ℕ) → n ≡ 0 → answer n e ≡ opens ++ places 0 e
unfolding answer
answer_open zero e h = refl
answer_open (suc n) e h = absurd (omega arith)

pub answer_refused : (n : ℕ) (e : List ℕ) → (n ≡ 0 → ⊥) → answer n e ≡ refuses ++ decimal n
unfolding answer
answer_refused zero e h = absurd (h refl)
answer_refused (suc n) e h = refl

-- the three words and the newline of the total have 24 bytes
pub total-length : (n a : ℕ) → length (total_line n a) ≡ 24 + (length (decimal n) + (length (decimal a) + length (decimal (n - a))))
unfolding total_line total_is are_opened refuses newline
total-length n a = simp length-append (omega arith)

pub key_accepted : (n : ℕ) (text : List ℕ) → n ≡ 0 → unless_refused n text ≡ text
unfolding unless_refused
key_accepted zero text h = refl
key_accepted (suc n) text h = absurd (omega arith)

pub large_empty : (file : List ℕ) → length file ≡ 0 → false ≡ large file
unfolding large
large_empty [] h = refl
large_empty (b ∷ file) h = absurd (omega arith)

pub large_twelve : (file : List ℕ) → get_or file 0 0 ≡ 12 → eqb (get_or file 0 0) 12 ≡ large file
unfolding large
large_twelve file h = rw (eq-eqb (get_or file 0 0) 12 h) refl

pub large_other : (file : List ℕ) → (get_or file 0 0 ≡ 12 → ⊥) → eqb (get_or file 0 0) 13 ≡ large file
unfolding large
large_other file h = rw (ne_eqb (get_or file 0 0) 12 h) refl
