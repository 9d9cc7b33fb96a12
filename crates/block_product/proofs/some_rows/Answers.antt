-- The products of some rows, and the rows written. Assumes nothing.
use mathlib.Core.Path.{ap, ◌∙◌}
use mathlib.Core.List.{List}
use Prim.Native.Nat.{ℕ, ◌*◌}
use native.Mathlib.Omega.{arith}
use lib.ListN.{get_or}
use Rattle.bits.specs.Bits.{bytes_for, pack}
use Rattle.block_product.proofs.Groups.{zero_rows, zeros_room}
use Rattle.block_product.proofs.some_rows.Goals as goal

pub multiply-requires : goal.multiply-requires
multiply-requires c =
    let a = c.args in (
      omega arith,
      omega arith,
      omega arith,
      omega arith,
      omega arith,
      omega arith,
      omega arith,
      zeros_room a.count a.w 40960 (omega arith) (omega arith) (omega arith),
      λ i h. zero_rows a.w (i * bytes_for a.w) 40960,
    )

pub write_rows-requires : goal.write_rows-requires
write_rows-requires c =
    let a = c.args in
    let room = zeros_room a.count a.w 40960 (omega arith) (omega arith) (omega arith) in
    (omega arith, omega arith, omega arith, omega arith, omega (arith, c.multiply.auto.acc), c.requires.9)

pub returns : goal.returns
returns c =
    let a = c.args in
    let made = c.multiply in
    let wrote = c.write_rows in
    record { inside = λ i x h m. wrote.ensures.inside i x h m ∙ ap (λ (r : List ℕ). get_or (pack r) x 0) (made.ensures i h); outside = wrote.ensures.outside }
