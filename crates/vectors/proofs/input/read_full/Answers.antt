-- A read puts its bytes behind those that stand at the buffer's start.
use Rattle.std.proofs.Common.{◌≡◌, ℕ, ◌+◌, ◌-◌, ◌≤◌, List, ◌++◌, arith, length, take, sym, ap, ap₂, ◌∙◌, subst, drop_at, length-take-le}
use Rattle.std.specs.Io.KnownBytes.{Consumes}
use Rattle.std.proofs.KnownBytes.{Consumes-trans}
use borrow.Rule.Slice.PartMut.{put_mid, post_of}
use lib.Seq.{take-add, take_at, take-append-le}
use Rattle.vectors.proofs.input.read_full.Goals as goal

-- the first a + n elements, once ys has been put behind the first a
take_behind : (a k n : ℕ) (xs ys : List ℕ) → a ≤ length xs → n ≤ length ys → take (a + n) (put_mid a k xs ys) ≡ take a xs ++ take n ys
take_behind a k n xs ys within fits =
    let front : length (take a xs) ≡ a = length-take-le a xs within in
    take-add a n (put_mid a k xs ys)
    ∙ ap₂ (λ (x y : List ℕ). x ++ take n y) (take_at (take a xs) (ys ++ post_of a k xs) a front) (drop_at (take a xs) (ys ++ post_of a k xs) a front)
    ∙ ap (λ (y : List ℕ). take a xs ++ y) (take-append-le n ys (post_of a k xs) fits)

pub loop-done-preserved : goal.loop-done-preserved
loop-done-preserved g c =
    let l = c.loop-done in
    let n = c.in_ok-n.n in
    record {
      in_range = omega (arith, c.in_ok-n.ensures.bound.0);
      taken = subst (Consumes _ _)
          (sym (take_behind l.done (length l.buffer - l.done) n l.buffer c.read.new.buf l.invariant.in_range c.in_ok-n.ensures.bound.0))
          (Consumes-trans _ _ _ _ _ l.invariant.taken c.in_ok-n.ensures.bytes.0);
    }
