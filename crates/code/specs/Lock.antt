-- Document 01, 'Code and public key': locking a pattern under a shape and a public key. Assumes nothing.
use Rattle.std.specs.Prelude.{ℕ, ◌-◌, ◌*◌, not, cond, ◌&&◌, eqb, ltb, length, take, drop}
use mathlib.Core.List.{List, [], ◌∷◌, map, zip_with}
use Rattle.bits.specs.Xor.{◌⊕◌}
use Rattle.bits.specs.Bits.{from, every, bytes_for, unpack, pack, weight, filler_clear, over, dot}
use Rattle.field.specs.Numbers.{first_of}
use Rattle.field.specs.Field.{is_width}
use Rattle.key.specs.Shapes.{in_limits}
use Rattle.code.specs.PublicKey.{Matrix}

-- [I|T]·e, where T has a row for each bit
unfoldable pub locked : Matrix → List ℕ → List ℕ
locked rows e = zip_with (λ b row. b ⊕ dot row (drop (length rows) e)) (take (length rows) e) rows

-- the part of a public key that is row r, of w bits, from its first byte
unfoldable pub row_of : ℕ → List ℕ → ℕ → List ℕ
row_of w public r = take (bytes_for w) (drop (r * bytes_for w) public)

-- T, of k rows of w bits, from its bytes
unfoldable pub rows_of : ℕ → ℕ → List ℕ → Matrix
rows_of k w public = map (λ r. unpack w (row_of w public r)) (from 0 k)

-- 1: width; 3: shape; 8: length of public key or pattern; 9: filler of a row or of the pattern; 12: not t ones; 10: output
unfoldable pub lock_number : ℕ → ℕ → ℕ → List ℕ → List ℕ → List ℕ → ℕ
lock_number m n t public pattern out =
    first_of (
    (not (is_width m), 1) ∷
    (not (in_limits m n t), 3) ∷
    (not (eqb (length public) (m * t * bytes_for (n - m * t)) && eqb (length pattern) (bytes_for n)), 8) ∷
    (not (every (λ r. filler_clear (n - m * t) (row_of (n - m * t) public r)) (from 0 (m * t)) && filler_clear n pattern), 9) ∷
    (not (eqb (weight n pattern) t), 12) ∷
    (ltb (length out) (bytes_for (m * t)), 10) ∷ [])

-- the capsule of a pattern
unfoldable pub lock : ℕ → ℕ → ℕ → List ℕ → List ℕ → List ℕ
lock m n t public pattern = pack (locked (rows_of (m * t) (n - m * t) public) (unpack n pattern))

-- the output: the capsule from its start, where nothing is refused
unfoldable pub lock_output : ℕ → ℕ → ℕ → List ℕ → List ℕ → List ℕ → List ℕ
lock_output m n t public pattern out = cond (eqb (lock_number m n t public pattern out) 0) (over (lock m n t public pattern) out) out
