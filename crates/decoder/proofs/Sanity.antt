-- Reading, by what it finds: sound, complete, and the pattern itself where it is the only one. Assumes nothing.
use mathlib.Core.Path.{◌≡◌, ap, ap₂, ◌∙◌}
use mathlib.Core.Bool.{true, ◌&&◌}
use mathlib.Core.List.{List}
use mathlib.Core.Option.{none, some}
use Prim.Native.Nat.{ℕ, ◌≤◌}
use native.Mathlib.Omega.{arith}
use lib.Dec.{leb}
use lib.ListN.{replicate}
use borrow.Author.Tests.{leb-true, le-leb}
use Rattle.bits.specs.Bits.{Row, ones, xor_row}
use Rattle.bits.proofs.Lists.{and_left, and_right}
use Rattle.bits.proofs.Rows.{xor_row_zeros}
use Rattle.bits.proofs.Ones.{ones_zeros}
use Rattle.key.specs.Keys.{Key}
use Rattle.code.specs.Code.{in_code}
use Rattle.decoder.specs.Reading.{corrects, reading}
use Rattle.decoder.proofs.Search.{search_sound, search_none, search_only, search_nothing, zeros_first}

-- a pattern of n bits with at most t ones that leads from w into the code
pub record Corrects (k : Key) (w e : List ℕ) : Type 0 where
  pub bits : Row k.n e
  pub few : ones e ≤ k.t
  pub code : in_code k (xor_row w e) ≡ true

module _ (k : Key) (w : List ℕ) where
  corrects_true : {e : List ℕ} → Corrects k w e → corrects k w e ≡ true
  unfolding corrects
  corrects_true {e} c = ap₂ ◌&&◌ (le-leb (ones e) k.t c.few) c.code

  true_corrects : {e : List ℕ} → Row k.n e → corrects k w e ≡ true → Corrects k w e
  unfolding corrects
  true_corrects {e} r h =
      record {
        bits = r;
        few = leb-true (ones e) k.t (and_left (leb (ones e) k.t) (in_code k (xor_row w e)) h);
        code = and_right (leb (ones e) k.t) (in_code k (xor_row w e)) h;
      }

  pub reading_sound : (e : List ℕ) → reading k w ≡ some e → Corrects k w e
  unfolding reading
  reading_sound e h = let f = search_sound (corrects k w) {n = k.n} {x = e} h in true_corrects f.0 f.1

  pub reading_complete : reading k w ≡ none → (e : List ℕ) → Corrects k w e → ⊥
  unfolding reading
  reading_complete h e c = search_none (corrects k w) h e c.bits (corrects_true c)

  pub reading_only : (e : List ℕ) → Corrects k w e → ((d : List ℕ) → Corrects k w d → d ≡ e) → reading k w ≡ some e
  unfolding reading
  reading_only e c u = search_only (corrects k w) e c.bits (corrects_true c) (λ d r h. u d (true_corrects r h))

  pub reading_nothing : ((e : List ℕ) → Corrects k w e → ⊥) → reading k w ≡ none
  unfolding reading
  reading_nothing u = search_nothing (corrects k w) (λ e r h. u e (true_corrects r h))

  -- a code word is read with no ones
  pub reading-code : in_code k w ≡ true → reading k w ≡ some (replicate k.n 0)
  unfolding reading corrects
  reading-code c =
      zeros_first (corrects k w) k.n
      (ap₂ ◌&&◌ (le-leb (ones (replicate k.n 0)) k.t (omega (arith, ones_zeros k.n)))
      (ap (in_code k) (xor_row_zeros w k.n) ∙ c))
