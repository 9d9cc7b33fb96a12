-- Powers of two as the code makes them. Assumes nothing.
use mathlib.Core.Path.{◌≡◌, sym, ap, ◌∙◌}
use mathlib.Core.Bool.{Bool, cond}
use Prim.Native.Nat.{ℕ, ◌^◌, ◌≤◌, ◌<◌}
use borrow.Author.Tests.{lt-ltb, le-ltb}
use Rattle.levels.specs.Levels.{two_of}

module _ (j : ℕ) where
  pub two_below : {r : ℕ} → r ≡ two_of j → j < 14 → r ≡ 2 ^ j
  unfolding two_of
  two_below e h = e ∙ ap (λ (b : Bool). cond b (2 ^ j) 0) (lt-ltb j 14 h)

  pub two_past : 14 ≤ j → 0 ≡ two_of j
  unfolding two_of
  two_past h = sym (ap (λ (b : Bool). cond b (2 ^ j) 0) (le-ltb j 14 h))
