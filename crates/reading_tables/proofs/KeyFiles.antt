-- Key files and the number that load gives each, and the positions of the shapes, by computation. A row with a line's
-- number is that line of the vectors' keyfiles.txt. Assumes nothing.
use Prim.Native.Nat.{ℕ}
use mathlib.Core.Path.{◌≡◌, refl}
use mathlib.Core.Bool.{Bool, true, false}
use mathlib.Core.List.{List, [], ◌∷◌, ◌++◌, map, flat_map}
use lib.ListN.{length, take}
use Rattle.bits.specs.Xor.{◌⊕◌}
use Rattle.bits.specs.Bits.{from, every}
use Rattle.field.specs.Numbers.{first_of}
use Rattle.field.specs.Field.{is_width, is_element, modulus_of, poly_mul, reduced, mul_mod, mul}
use Rattle.field.specs.Poly.{value}
use Rattle.poly.specs.Polynomials.{sum, same, monic, product, some_below, some_list, has_square}
use Rattle.key.specs.Shapes.{in_limits, shapes, shape_number, shape_at}
use Rattle.key.specs.Keys.{pair, elements, parse, two_bytes, file_of, distinct, goppa_at, conditions, file_conditions}
use Rattle.key.specs.Bench.{K1, K2, K1-with, K3}

-- the file of a key whose lists have the lengths n and t
unfoldable pub file_with : ℕ → List ℕ → List ℕ → List ℕ
file_with m support g = file_of (record { m = m; n = length support; t = length g; support = support; g = g })

-- a whole file of width 4
unfoldable pub file : List ℕ → List ℕ → List ℕ
file = file_with 4

unfoldable pub files : List (List ℕ × ℕ)
files =
    -- the bench keys
    (K1, 0) ∷
    (K2, 0) ∷
    (K3, 0) ∷
    -- lines 163, 142, 145: t 3, and the other widths
    (file (6 ∷ 12 ∷ 0 ∷ 2 ∷ 3 ∷ 13 ∷ 11 ∷ 14 ∷ 5 ∷ 9 ∷ 1 ∷ 4 ∷ 15 ∷ 10 ∷ 8 ∷ []) (9 ∷ 4 ∷ 7 ∷ []), 0) ∷
    (file_with 12 (2651 ∷ 811 ∷ 3794 ∷ 26 ∷ 2331 ∷ 1680 ∷ 585 ∷ 1832 ∷ 88 ∷ 2577 ∷ 344 ∷ 749 ∷ 1221 ∷ []) (2691 ∷ []), 0) ∷
    (file_with 13 (3652 ∷ 2839 ∷ 460 ∷ 925 ∷ 3282 ∷ 5550 ∷ 4645 ∷ 2126 ∷ 5410 ∷ 4876 ∷ 6481 ∷ 590 ∷ 1251 ∷ 6648 ∷ []) (4020 ∷ []), 0) ∷
    -- line 1, and width 5: whole, and too short as well
    ([], 1) ∷
    (file_with 5 (from 1 6) (0 ∷ []), 1) ∷
    (0x05 ∷ [], 1) ∷
    -- lines 94, 8, 95, 92, 93: too short or too long
    (0x04 ∷ [], 2) ∷
    (0x0D ∷ [], 2) ∷
    (0x04 ∷ 0x10 ∷ 0x00 ∷ [], 2) ∷
    (take 18 K1, 2) ∷
    (K1 ++ (0 ∷ 0 ∷ []), 2) ∷
    -- the same where n or t is out of limits
    (0x04 ∷ 0xFF ∷ 0xFF ∷ [], 2) ∷
    (0x04 ∷ 0x00 ∷ 0x00 ∷ 0xFF ∷ 0xFF ∷ [], 2) ∷
    (0x04 ∷ 0x00 ∷ 0x00 ∷ 0x00 ∷ 0x00 ∷ 0x00 ∷ [], 2) ∷
    -- t 1: n 4 and 17 are out of limits, n 5 and 16 are not
    (file (from 1 4) (0 ∷ []), 3) ∷
    (file (from 0 17) (0 ∷ []), 3) ∷
    (file (from 1 5) (0 ∷ []), 0) ∷
    (file (from 0 16) (0 ∷ []), 7) ∷
    -- line 132: n 0 and t 0; t 0; t 4; line 226: width 12, n 7
    (0x04 ∷ 0x00 ∷ 0x00 ∷ 0x00 ∷ 0x00 ∷ [], 3) ∷
    (file (from 0 16) [], 3) ∷
    (file (from 0 16) (from 1 4), 3) ∷
    (file_with 12 (2 ∷ 9 ∷ 13 ∷ 7 ∷ 7 ∷ 8 ∷ 14 ∷ []) (3 ∷ []), 3) ∷
    -- line 190: 16 in the support; line 584: 255 in g, and 5 and 3 stand twice
    (file (15 ∷ 1 ∷ 16 ∷ 4 ∷ 10 ∷ 0 ∷ 7 ∷ []) (4 ∷ []), 4) ∷
    (file (7 ∷ 5 ∷ 3 ∷ 15 ∷ 5 ∷ 5 ∷ 4 ∷ 3 ∷ []) (255 ∷ []), 4) ∷
    -- P11; line 605; line 313, where a square divides g too; line 590, where g(11) is 0 too
    (K1-with (1 ∷ 9 ∷ 13 ∷ 15 ∷ 14 ∷ 1 ∷ []), 5) ∷
    (file (4 ∷ 6 ∷ 12 ∷ 14 ∷ 6 ∷ []) (7 ∷ []), 5) ∷
    (file (8 ∷ 1 ∷ 15 ∷ 7 ∷ 11 ∷ 10 ∷ 1 ∷ 8 ∷ 3 ∷ []) (11 ∷ 0 ∷ []), 5) ∷
    (file (1 ∷ 11 ∷ 12 ∷ 5 ∷ 9 ∷ 12 ∷ []) (11 ∷ []), 5) ∷
    -- support 2 to 10, g_0 1, g_1 0; line 323; lines 603 and 231, where some g(α) is 0 too
    (file (from 2 9) (1 ∷ 0 ∷ []), 6) ∷
    (file (5 ∷ 11 ∷ 13 ∷ 8 ∷ 1 ∷ 6 ∷ 0 ∷ 9 ∷ 2 ∷ []) (3 ∷ 0 ∷ []), 6) ∷
    (file (1 ∷ 3 ∷ 6 ∷ 8 ∷ 11 ∷ 12 ∷ 5 ∷ 13 ∷ 4 ∷ []) (2 ∷ 0 ∷ []), 6) ∷
    (file (0 ∷ 15 ∷ 10 ∷ 9 ∷ 12 ∷ 4 ∷ 7 ∷ 2 ∷ 8 ∷ 3 ∷ 5 ∷ 14 ∷ 11 ∷ []) (3 ∷ 3 ∷ 1 ∷ []), 6) ∷
    -- lines 127, 168
    (file (1 ∷ 11 ∷ 6 ∷ 2 ∷ 14 ∷ []) (14 ∷ []), 7) ∷
    (file (0 ∷ 8 ∷ 1 ∷ 4 ∷ 6 ∷ 13 ∷ []) (6 ∷ []), 7) ∷ []

pub files_hold : map (λ r. first_of (file_conditions r.0)) files ≡ map (λ r. r.1) files
unfolding ◌⊕◌ from every first_of is_width is_element modulus_of poly_mul reduced mul_mod mul value sum same monic product some_below some_list has_square in_limits pair elements parse two_bytes file_of distinct goppa_at conditions file_conditions K1 K2 K1-with K3 file_with file files flat_map
files_hold = refl

-- shapes (m, n, t) at the limits and beside them
unfoldable pub limits : List (ℕ × ℕ × ℕ × Bool)
limits =
    (4, 4, 1, false) ∷
    (4, 5, 1, true) ∷
    (4, 16, 1, true) ∷
    (4, 17, 1, false) ∷
    (4, 16, 0, false) ∷
    (13, 1664, 128, false) ∷
    (13, 1665, 128, true) ∷
    (13, 8192, 128, true) ∷
    (13, 8192, 129, false) ∷
    (13, 8193, 128, false) ∷ []

pub limits_hold : map (λ r. in_limits r.0 r.1 r.2) limits ≡ map (λ r. r.3) limits
unfolding in_limits limits
limits_hold = refl

-- positions 1 to 5, and those beside them
pub positions : map shape_number (from 0 7) ≡ 3 ∷ 0 ∷ 0 ∷ 0 ∷ 0 ∷ 0 ∷ 3 ∷ []
unfolding shape_number first_of from
positions = refl

pub table : map shape_at (from 1 5) ≡ shapes
unfolding shape_at shapes from
table = refl
