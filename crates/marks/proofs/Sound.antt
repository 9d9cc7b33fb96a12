-- Marked reading, by what it finds: sound, complete, and the pattern itself where it is the only one. Assumes nothing.
use mathlib.Core.Path.{◌≡◌, ap₂}
use mathlib.Core.Bool.{true, ◌&&◌}
use mathlib.Core.List.{List}
use mathlib.Core.Option.{none, some}
use Prim.Native.Nat.{ℕ, ◌+◌, ◌*◌, ◌≤◌}
use lib.Dec.{leb}
use borrow.Author.Tests.{leb-true, le-leb}
use Rattle.bits.specs.Bits.{Row, ones, xor_row}
use Rattle.bits.proofs.Lists.{and_left, and_right}
use Rattle.key.specs.Keys.{Key}
use Rattle.code.specs.Code.{in_code}
use Rattle.decoder.proofs.Search.{search_sound, search_none, search_only, search_nothing}
use Rattle.marks.specs.Marked.{differences, corrects_marked, marked_reading}

-- a pattern of n bits with 2d + s ≤ 2t that leads from w into the code
pub record CorrectsMarked (k : Key) (w z e : List ℕ) : Type 0 where
  pub bits : Row k.n e
  pub few : 2 * differences z e + ones z ≤ 2 * k.t
  pub code : in_code k (xor_row w e) ≡ true

module _ (k : Key) (w z : List ℕ) where
  corrects_true : {e : List ℕ} → CorrectsMarked k w z e → corrects_marked k w z e ≡ true
  unfolding corrects_marked
  corrects_true {e} c = ap₂ ◌&&◌ (le-leb (2 * differences z e + ones z) (2 * k.t) c.few) c.code

  true_corrects : {e : List ℕ} → Row k.n e → corrects_marked k w z e ≡ true → CorrectsMarked k w z e
  unfolding corrects_marked
  true_corrects {e} r h =
      let b = leb (2 * differences z e + ones z) (2 * k.t) in
      record {
        bits = r;
        few = leb-true _ _ (and_left b (in_code k (xor_row w e)) h);
        code = and_right b (in_code k (xor_row w e)) h;
      }

  pub marked_sound : (e : List ℕ) → marked_reading k w z ≡ some e → CorrectsMarked k w z e
  unfolding marked_reading
  marked_sound e h = let f = search_sound (corrects_marked k w z) {n = k.n} {x = e} h in true_corrects f.0 f.1

  pub marked_complete : marked_reading k w z ≡ none → (e : List ℕ) → CorrectsMarked k w z e → ⊥
  unfolding marked_reading
  marked_complete h e c = search_none (corrects_marked k w z) h e c.bits (corrects_true c)

  pub marked_only : (e : List ℕ) → CorrectsMarked k w z e → ((d : List ℕ) → CorrectsMarked k w z d → d ≡ e) → marked_reading k w z ≡ some e
  unfolding marked_reading
  marked_only e c u = search_only (corrects_marked k w z) e c.bits (corrects_true c) (λ d r h. u d (true_corrects r h))

  pub marked_nothing : ((e : List ℕ) → CorrectsMarked k w z e → ⊥) → marked_reading k w z ≡ none
  unfolding marked_reading
  marked_nothing u = search_nothing (corrects_marked k w z) (λ e r h. u e (true_corrects r h))

pub marked_row : (k : Key) (w z e : List ℕ) → marked_reading k w z ≡ some e → Row k.n e
marked_row k w z e h = (marked_sound k w z e h).bits
