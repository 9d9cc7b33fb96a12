-- `word_vectors::empty_text` has its length, by a law about every length. Assumes nothing.
use Rattle.std.proofs.Common.{◌≡◌, ℕ, length, replicate, sym}
use lib.ListN.{length-replicate}
use Rattle.word_vectors.proofs.empty_text.Goals as goal

zeros : (n : ℕ) → n ≡ length {A = ℕ} (replicate n 0)
zeros n = sym (length-replicate {A = ℕ} n 0)

pub returns : goal.returns
returns c = zeros 820000
