-- The tests in order. Assumes nothing.
use Rattle.field.proofs.Verdicts.{refuses, accepts}
use Rattle.field.proofs.Table.{modulus_none, modulus_some}
use Rattle.key.proofs.Order.{failed, passed}
use Rattle.key_file.proofs.Files.{file_width, file_length, file_limits, file_none}
use Rattle.key_file.proofs.header.Goals as goal

pub returns-then-modulus-eq0 : goal.returns-then-modulus-eq0
returns-then-modulus-eq0 c = refuses (file_width _ _ c.sizes-s.ensures (modulus_none _ c.modulus.ensures c.if-modulus-eq0.true))

pub returns-then-file-n : goal.returns-then-file-n
returns-then-file-n c = refuses (file_length _ _ c.sizes-s.ensures (modulus_some _ c.modulus.ensures c.if-modulus-eq0.false) c.if-file-n.true)

pub returns-then-not-in_limits : goal.returns-then-not-in_limits
returns-then-not-in_limits c =
    refuses (file_limits _ _ c.sizes-s.ensures (modulus_some _ c.modulus.ensures c.if-modulus-eq0.false) c.if-file-n.false
    (failed c.in_limits.ensures c.if-not-in_limits.true))

pub returns : goal.returns
returns c =
    accepts (file_none _ _ c.sizes-s.ensures (modulus_some _ c.modulus.ensures c.if-modulus-eq0.false) c.if-file-n.false
    (passed c.in_limits.ensures c.if-not-in_limits.false))
