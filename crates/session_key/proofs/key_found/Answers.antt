-- The byte and the row by what is found. Assumes nothing.
use mathlib.Core.Path.{◌∙◌}
use Prim.Native.Nat.{◌≤◌}
use native.Mathlib.Omega.{arith}
use Rattle.bits.proofs.Parts.{row_size}
use Rattle.session_key.proofs.Texts.{taken_fits}
use Rattle.session_key.proofs.Derived.{key_row}
use Rattle.session_key.proofs.key_found.Goals as goal

pub row-requires : goal.row-requires
row-requires c = omega (arith, c.bytes_for-end.ensures, row_size c.args.n c.requires.n_bound)

pub hash-requires : goal.hash-requires
hash-requires c =
    let k : c.bytes_for-end.result ≤ 1024 = omega (arith, c.bytes_for-end.ensures, row_size c.args.n c.requires.n_bound) in
    omega (arith, taken_fits c.is_opened-opened.result _ c.args.e.pattern c.args.secret.now c.row.ensures k c.requires.secret_len_bound, c.requires.capsule_len_bound)

pub returns : goal.returns
returns c = c.hash.ensures ∙ key_row _ _ _ _ _ c.is_opened-opened.ensures c.bytes_for-end.ensures c.row.ensures
