-- The terms of the decoder's parts, on lists as the code holds them. Assumes nothing.
use Rattle.std.specs.Prelude.{true, false, cond, ◌&&◌, List, [], ◌++◌, map, ℕ, zero, suc, ◌*◌, eqb, leb, length, take, replicate}
use Rattle.std.proofs.Math.Option.{Option, none, some}
use Rattle.bits.specs.Bits.{from, every, unpack, pack, ones, padded}
use Rattle.field.specs.Field.{is_width, is_element}
use Rattle.field.specs.Answers.{inverse_number}
use Rattle.field.specs.Verdicts.{verdict_of}
use Rattle.field.specs.declared.Verdict.{Verdict}
use Rattle.field.specs.declared.Verdict.TheVariants.{Accepted, Refused}
use Rattle.poly.specs.Polynomials.{sum, same}
use Rattle.poly.specs.Register.{register}
use Rattle.key.specs.Keys.{Key, key_of, goppa_at}
use Rattle.decoder.specs.Decoding.{chosen, square_entry, places, located, explained}
use Rattle.decoding.specs.declared.sums.Sums.{Sums}
use Rattle.decoding.specs.declared.decoding.Found.{Found}

-- the 2t sums of a^s / g(a)² over a list of points
unfoldable pub point_sums : ℕ → List ℕ → List ℕ → List ℕ
point_sums m g points = map (λ s. sum (map (square_entry (key_of m points g) s) points)) (from 0 (2 * length g))

-- the sums with zeros behind them where the number is 0, else the refusal and zeros
unfoldable pub sums_of : ℕ → List ℕ → Sums
sums_of x s = record { verdict = verdict_of x; s = padded 256 (cond (eqb x 0) s []) }

-- g at each point of a word: its 2t sums divide by the squares
unfoldable pub divisors : Key → List ℕ → List ℕ
divisors k c = map (goppa_at k) (chosen c k.support)

-- the points of a packed word, as many bits as the support has members; none where these are more than 8192
unfoldable pub points_of : List ℕ → List ℕ → List ℕ
points_of support word = cond (leb (length support) 8192) (chosen (unpack (length support) word) support) []

-- those of decoding: at the word's points, and at the places found, which are summed only where they are at most t
unfoldable pub decoded_divisors : Key → List ℕ → List ℕ
decoded_divisors k w =
    let e : List ℕ = located k w in
    divisors k w ++ cond (leb (ones e) k.t) (divisors k e) []

-- 32 where one of them is 0, else 0; decoding divides only where m is a width and n and t are at most the arrays' lengths
unfoldable pub decoded_number : Key → List ℕ → ℕ
decoded_number k w = cond (is_width k.m && leb k.n 8192 && leb k.t 128) (inverse_number k.m (decoded_divisors k w)) 0

-- what decoding finds in a word: the usual way, where m is a width and n and t are at most the arrays' lengths; else nothing
unfoldable pub decoded : Key → List ℕ → Option (List ℕ)
decoded k w = cond (is_width k.m && leb k.n 8192 && leb k.t 128) (explained k w) none

-- 1 for 0, and 0 for any other value
unfoldable pub mark : ℕ → ℕ
mark v = cond (eqb v 0) 1 0

-- the packed row with zeros behind it, 1024 bytes in all
unfoldable pub packed : List ℕ → List ℕ
packed e = padded 1024 (pack e)

-- no pattern: zeros, with the verdict
unfoldable pub nothing_of : Verdict → Found
nothing_of v = record { verdict = v; found = false; ones = 0; pattern = replicate 1024 0 }

-- the refusal with a number that is not 0; else the pattern packed and its number of ones, or zeros where there is none
unfoldable pub found_of : ℕ → Option (List ℕ) → Found
found_of (suc x) o = nothing_of (Refused (suc x))
found_of zero none = nothing_of Accepted
found_of zero (some e) = record { verdict = Accepted; found = true; ones = ones e; pattern = packed e }

-- what is found where the verdict accepts, else nothing, with its refusal
unfoldable pub found_by : Verdict → Found → Found
found_by Accepted f = f
found_by (Refused x) f = nothing_of (Refused x)

-- by the verdict of the sums, the places that the register of the first 2t gives, where they are at most t; nothing where m is no
-- width, the support has more than 8192 members, t is over 128 or a sum is no element
unfoldable pub candidate_of : ℕ → List ℕ → ℕ → Sums → Found
candidate_of m support t w =
    let s : List ℕ = take (2 * t) w.s in
    let e : List ℕ = places (key_of m support []) (register m s) in
    found_by w.verdict
    (found_of 0 (cond (is_width m && leb (length support) 8192 && leb t 128 && every (is_element m) s && leb (ones e) t) (some e) none))

-- by the verdict of its own sums, what is found where they are the word's
unfoldable pub settled_of : Found → Sums → Sums → Found
settled_of f w own = found_by own.verdict (cond (same own.s w.s) f (nothing_of Accepted))
