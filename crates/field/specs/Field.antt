-- Document 01, 'Field': GF(2^m) for m of 4, 12 and 13. An element is a number below 2^m whose digit of value 2^i is the
-- coefficient of z^i. Addition is exclusive or. Products and inverses read the m low digits of their operands. Assumes nothing.
use Rattle.std.specs.Prelude.{ℕ, zero, suc, ◌+◌, ◌*◌, ◌/◌, ◌%◌, ◌^◌, Bool, cond, ◌&&◌, ◌||◌, [], ◌∷◌, eqb, ltb, get_or}
use Rattle.bits.specs.Xor.{◌⊕◌}

unfoldable pub is_width : ℕ → Bool
is_width m = eqb m 4 || eqb m 12 || eqb m 13

unfoldable pub is_element : ℕ → ℕ → Bool
is_element m a = ltb a (2 ^ m)

-- z^4+z+1, z^12+z^3+1 and z^13+z^4+z^3+z+1, each at its width; 0 where m is no width
unfoldable pub modulus_of : ℕ → ℕ
modulus_of m = get_or (0 ∷ 0 ∷ 0 ∷ 0 ∷ 0x13 ∷ 0 ∷ 0 ∷ 0 ∷ 0 ∷ 0 ∷ 0 ∷ 0 ∷ 0x1009 ∷ 0x201B ∷ []) m 0

-- the product of polynomials over two elements, b of k digits: the sum of copies of a, shifted to the places of b's ones
unfoldable pub poly_mul : ℕ → ℕ → ℕ → ℕ
poly_mul zero a b = 0
poly_mul (suc k) a b = b % 2 * a ⊕ poly_mul k (a * 2) (b / 2)

-- c, of m + k digits, reduced by f, of degree m, from the highest digit down
unfoldable pub reduced : ℕ → ℕ → ℕ → ℕ → ℕ
reduced m f zero c = c
reduced m f (suc k) c = reduced m f k (c ⊕ c / 2 ^ (m + k) % 2 * (f * 2 ^ k))

-- a times b modulo f, of degree m
unfoldable pub mul_mod : ℕ → ℕ → ℕ → ℕ → ℕ
mul_mod m f a b = reduced m f m (poly_mul m (a % 2 ^ m) b)

-- the same where f has the degree m, at most 13; else 0
unfoldable pub product_by : ℕ → ℕ → ℕ → ℕ → ℕ
product_by m f a b = cond (ltb m 14 && eqb (f / 2 ^ m) 1) (mul_mod m f a b) 0

-- a times b in the field of width m; 0 where m is no width
unfoldable pub mul : ℕ → ℕ → ℕ → ℕ
mul m a b = cond (is_width m) (mul_mod m (modulus_of m) a b) 0

-- a^k (a^0 is 1, for 0 too)
unfoldable pub power : ℕ → ℕ → ℕ → ℕ
power m a zero = 1
power m a (suc k) = mul m (power m a k) a

-- the greatest number below n that passes, and 0 where none does
unfoldable pub last_below : ℕ → (ℕ → Bool) → ℕ
last_below zero p = 0
last_below (suc n) p = let rest : ℕ = last_below n p in cond (p n) n rest

-- the element b with a·b = 1, and 0 where there is none
unfoldable pub inv : ℕ → ℕ → ℕ
inv m a = last_below (2 ^ m) (λ b. eqb (mul m a b) 1)
