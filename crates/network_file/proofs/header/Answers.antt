-- The tests in order. Assumes nothing.
use native.Mathlib.Omega.{arith}
use Rattle.field.proofs.Verdicts.{refuses, accepts}
use Rattle.field.proofs.Table.{modulus_none, modulus_some, width_pos, width_narrow}
use Rattle.key.proofs.Order.{failed, passed}
use Rattle.network_file.proofs.Digits.{bytes_small}
use Rattle.network_file.proofs.Files.{file_width, file_length, file_count, file_limits, file_none}
use Rattle.network_file.proofs.header.Goals as goal

pub returns-then-modulus-eq0 : goal.returns-then-modulus-eq0
returns-then-modulus-eq0 c = refuses (file_width _ _ c.sizes-s.ensures (modulus_none _ c.modulus.ensures c.if-modulus-eq0.true))

pub switches-c-requires : goal.switches-c-requires
switches-c-requires c = let w = modulus_some _ c.modulus.ensures c.if-modulus-eq0.false in (width_pos _ w, width_narrow _ w)

pub overflow_add-length-2 : goal.overflow_add-length-2
overflow_add-length-2 c = let e = bytes_small _ c.bytes_for.ensures (omega arith) in omega arith

pub returns-then-file-length : goal.returns-then-file-length
returns-then-file-length c =
    let w = modulus_some _ c.modulus.ensures c.if-modulus-eq0.false in
    refuses (file_length _ _ c.sizes-s.ensures w c.switches-c.ensures c.bytes_for.ensures c.if-file-length.true)

pub returns-then-said-c : goal.returns-then-said-c
returns-then-said-c c =
    let w = modulus_some _ c.modulus.ensures c.if-modulus-eq0.false in
    refuses (file_count _ _ c.sizes-s.ensures w c.switches-c.ensures c.bytes_for.ensures c.if-file-length.false c.four-said.ensures c.if-said-c.true)

pub returns-then-not-in_limits : goal.returns-then-not-in_limits
returns-then-not-in_limits c =
    let w = modulus_some _ c.modulus.ensures c.if-modulus-eq0.false in
    refuses (file_limits _ _ c.sizes-s.ensures w c.switches-c.ensures c.bytes_for.ensures c.if-file-length.false c.four-said.ensures c.if-said-c.false
    (failed c.in_limits.ensures c.if-not-in_limits.true))

pub returns : goal.returns
returns c =
    let w = modulus_some _ c.modulus.ensures c.if-modulus-eq0.false in
    accepts (file_none _ _ c.sizes-s.ensures w c.switches-c.ensures c.bytes_for.ensures c.if-file-length.false c.four-said.ensures c.if-said-c.false
    (passed c.in_limits.ensures c.if-not-in_limits.false))
