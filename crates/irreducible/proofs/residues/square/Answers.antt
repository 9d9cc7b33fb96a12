-- `square` meets its contract. Assumes nothing.
use mathlib.Core.Path.{refl}
use Rattle.irreducible.proofs.Products.{product_modulo}
use Rattle.irreducible.proofs.residues.square.Goals as goal

pub returns : goal.returns
returns c = let a = c.args in product_modulo a.m a.t.now a.r.now a.r.now _ _ refl c.squares-b.ensures c.residue.ensures
