-- Document 01, 'Reading and opening': what they answer, as searches over all patterns. Assumes nothing.
use Rattle.std.specs.Prelude.{ℕ, ◌-◌, Bool, cond, ◌&&◌, List, [], ◌++◌, eqb, leb, length, replicate}
use Rattle.std.proofs.Math.Option.{Option, none, some}
use Rattle.bits.specs.Bits.{ones, xor_row}
use Rattle.poly.specs.Polynomials.{same}
use Rattle.key.specs.Keys.{Key}
use Rattle.code.specs.Code.{in_code}
use Rattle.code.specs.PublicKey.{Matrix}
use Rattle.code.specs.Lock.{locked}
use Rattle.decoder.specs.Search.{first_row}

-- the pattern e has at most t ones and, added bit by bit, turns the word w into a code word
unfoldable pub corrects : Key → List ℕ → List ℕ → Bool
corrects k w e = leb (ones e) k.t && in_code k (xor_row w e)

-- the pattern that turns a word of n bits into the code word within t places
unfoldable pub reading : Key → List ℕ → Option (List ℕ)
reading k w = first_row (corrects k w) k.n []

-- a capsule filled up to n bits with zeros
unfoldable pub filled : ℕ → List ℕ → List ℕ
filled n s = s ++ replicate (n - length s) 0

-- the pattern, where it has exactly t ones
unfoldable pub exactly : ℕ → Option (List ℕ) → Option (List ℕ)
exactly t none = none
exactly t (some e) = cond (eqb (ones e) t) (some e) none

-- opening fills a capsule up to n bits with zeros, reads that word, and accepts only if the pattern has exactly t ones
unfoldable pub opening : Key → List ℕ → Option (List ℕ)
opening k s = exactly k.t (reading k (filled k.n s))

-- the pattern e has exactly t ones and locks to the capsule s
unfoldable pub opens : ℕ → Matrix → List ℕ → List ℕ → Bool
opens t rows s e = eqb (ones e) t && same (locked rows e) s
