-- `multiply` meets its contract. Assumes nothing.
use Rattle.irreducible.proofs.Products.{product_modulo}
use Rattle.irreducible.proofs.residues.multiply.Goals as goal

pub returns : goal.returns
returns c = let a = c.args in λ m y W e f. product_modulo m a.t.now a.r.now y _ _ f (c.products-b.ensures m y W e f) c.residue.ensures
