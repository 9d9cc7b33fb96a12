-- The order of the inverse's refusals, by computation from the definitions. Assumes nothing.
use mathlib.Core.Path.{◌≡◌, refl}
use Rattle.field.specs.Numbers.{first_of}
use Rattle.field.specs.Field.{is_width, is_element}
use Rattle.field.specs.Answers.{answer}
use Rattle.field.specs.declared.Answer.TheVariants.{Refused}
use Rattle.field.specs.Answers.{invert_number, invert_of}

-- 0 has no inverse; 2^m is no element, though its m low digits are 0; 0 at no width
invert0 : invert_of 4 0 ≡ Refused 32
unfolding invert_of invert_number answer first_of is_width is_element
invert0 = refl

invert16 : invert_of 4 16 ≡ Refused 4
unfolding invert_of invert_number answer first_of is_width is_element
invert16 = refl

invert_no_width : invert_of 5 0 ≡ Refused 1
unfolding invert_of invert_number answer first_of is_width is_element
invert_no_width = refl
