-- Document 01, 'Keys': a key, its file, and the numbers 1 to 7. Assumes nothing.
use Rattle.std.specs.Prelude.{ℕ, ◌+◌, ◌*◌, ◌/◌, ◌%◌, Bool, true, not, ◌&&◌, eqb, length, get_or}
use mathlib.Core.List.{List, [], ◌∷◌, ◌++◌, map, flat_map}
use Rattle.bits.specs.Bits.{from, every}
use Rattle.field.specs.Numbers.{first_of}
use Rattle.field.specs.Field.{is_width, is_element}
use Rattle.field.specs.Poly.{value}
use Rattle.poly.specs.Polynomials.{monic, has_square}
use Rattle.factors.specs.Factors.{has_factor}
use Rattle.key.specs.Shapes.{in_limits}

-- the shape, the support α_0..α_{n-1} and the coefficients g_0..g_{t-1}
pub record Key : Type 0 where
  pub m : ℕ
  pub n : ℕ
  pub t : ℕ
  pub support : List ℕ
  pub g : List ℕ

-- the key with this support and these coefficients
unfoldable pub key_of : ℕ → List ℕ → List ℕ → Key
key_of m support g = record { m = m; n = length support; t = length g; support = support; g = g }

-- The key file: one byte m; n in two bytes, low byte first, then n elements of two bytes; t likewise, then t elements.

-- two bytes at i, the low one first
unfoldable pub pair : List ℕ → ℕ → ℕ
pair file i = get_or file i 0 + 256 * get_or file (i + 1) 0

-- k elements of two bytes, from `at` on
unfoldable pub elements : List ℕ → ℕ → ℕ → List ℕ
elements file at k = map (λ j. pair file (at + 2 * j)) (from 0 k)

-- the key that a file says; what a short file lacks counts as 0
unfoldable pub parse : List ℕ → Key
parse file =
    let n : ℕ = pair file 1 in
    let t : ℕ = pair file (3 + 2 * n) in
    record { m = get_or file 0 0; n = n; t = t; support = elements file 3 n; g = elements file (5 + 2 * n) t }

-- a number in two bytes, low byte first
unfoldable pub two_bytes : ℕ → List ℕ
two_bytes x = x % 256 ∷ x / 256 ∷ []

-- the key file of a key
unfoldable pub file_of : Key → List ℕ
file_of k = k.m ∷ (two_bytes k.n ++ (flat_map two_bytes k.support ++ (two_bytes k.t ++ flat_map two_bytes k.g)))

-- no element stands twice
unfoldable pub distinct : List ℕ → Bool
distinct [] = true
distinct (x ∷ xs) = let rest : Bool = distinct xs in every (λ y. not (eqb x y)) xs && rest

-- g(a)
unfoldable pub goppa_at : Key → ℕ → ℕ
goppa_at k a = value k.m (monic k.g) a

-- 1: width; 2: wrong length; 3: shape; 4: an element 2^m or more; 5: one twice; 6: a square divides g; 7: some g(α_i) is 0
unfoldable pub conditions : Bool → Key → List (Bool × ℕ)
conditions wrong_length k =
    (not (is_width k.m), 1) ∷
    (wrong_length, 2) ∷
    (not (in_limits k.m k.n k.t), 3) ∷
    (not (every (is_element k.m) (k.support ++ k.g)), 4) ∷
    (not (distinct k.support), 5) ∷
    (has_square k.m k.g, 6) ∷
    (not (every (λ a. not (eqb (goppa_at k a) 0)) k.support), 7) ∷ []

-- the file's own n and t reckon its length, also where they are out of limits; an empty file has no width
unfoldable pub file_conditions : List ℕ → List (Bool × ℕ)
file_conditions file =
    let k : Key = parse file in
    conditions (not (eqb (length file) (5 + 2 * k.n + 2 * k.t))) k

-- of a key that is kept: 0 for one that load accepts
unfoldable pub key_number : Key → ℕ
key_number k = first_of (conditions (not (eqb (length k.support) k.n && eqb (length k.g) k.t)) k)

-- 25: not a key that load accepts
unfoldable pub unsound : Key → Bool
unsound k = not (eqb (key_number k) 0)

-- 34: g has a proper factor
unfoldable pub reducible : Key → Bool
reducible k = has_factor k.m k.g
