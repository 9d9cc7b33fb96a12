-- `open_capsules::main` is safe: the contracts of both texts say that they are within the output. Assumes nothing.
use Rattle.std.proofs.Common.{◌≡◌, ℕ, ◌≤◌, List, length, take, sym, arith, length-take-le}
use Rattle.open_capsules.proofs.main.Goals as goal

-- a text that fits in what is as long as the output is within it
within : (n room : ℕ) (old new : List ℕ) → n ≤ room → room ≡ length old → length new ≡ length old → n ≡ length (take n new)
within n room old new fits size kept = let h : n ≤ length new = omega arith in sym (length-take-le n new h)

pub slice_bounds-write_all-end : goal.slice_bounds-write_all-end
slice_bounds-write_all-end c = within _ _ _ _ c.key_text-n.ensures.fits c.longest-out.ensures.size c.key_text-n.auto.out

pub slice_bounds-write_all-end-2 : goal.slice_bounds-write_all-end-2
slice_bounds-write_all-end-2 c = within _ _ _ _ c.open_lines-n.ensures.fits c.longest-out.ensures.size c.open_lines-n.auto.out
