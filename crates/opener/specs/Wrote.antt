-- What each part of the writer says of its text. Assumes nothing.
use Rattle.std.specs.Prelude.{◌≡◌, List, ℕ, ◌+◌, ◌≤◌, length, take}
use Rattle.std.proofs.lemmas.List.Edits.{sets}
use Rattle.bits.specs.Bits.{over}

-- The text is written into `out` from place `at` on, as far as that reaches: `next` is the place behind it, `after` the output.
pub record Wrote (text out : List ℕ) (at next : ℕ) (after : List ℕ) : Type 0 where
  pub place : next ≡ at + length text
  pub output : after ≡ sets out at text

-- As much of the text as there is room for stands from the output's start on; `end` is the text's length, at most 17 bytes for
-- each of 65,536, and 64 for the total.
pub record Printed (text out : List ℕ) (end : ℕ) (after : List ℕ) : Type 0 where
  pub place : end ≡ length text
  pub output : after ≡ over (take (length out) text) out
  pub fits : end ≤ 1114176
