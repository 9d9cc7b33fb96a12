-- Document 01's row P13 by computation from the definitions. Assumes nothing.
use mathlib.Core.Path.{◌≡◌, refl}
use Rattle.bits.specs.Xor.{◌⊕◌}
use Rattle.field.specs.Field.{is_width, modulus_of, poly_mul, reduced, mul_mod, mul, last_below, inv}

pub p13 : mul 4 8 15 ≡ 1
unfolding mul mul_mod modulus_of is_width poly_mul reduced ◌⊕◌
p13 = refl

inv15 : inv 4 15 ≡ 8
unfolding inv last_below mul mul_mod modulus_of is_width poly_mul reduced ◌⊕◌
inv15 = refl

inv0 : inv 4 0 ≡ 0
unfolding inv last_below mul mul_mod modulus_of is_width poly_mul reduced ◌⊕◌
inv0 = refl
