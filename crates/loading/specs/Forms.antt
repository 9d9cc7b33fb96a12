-- The load of a form, and the shape of what is loaded. Assumes nothing.
use Rattle.std.specs.Prelude.{ℕ, List}
use Rattle.field.specs.Numbers.{first_of}
use Rattle.key.specs.Keys.{Key}
use Rattle.key.specs.Answers.{shape_answer}
use Rattle.key.specs.declared.shape.ShapeAnswer.{ShapeAnswer}
use Rattle.ledger.specs.Loading.{Loading, key_file, network_file, loading_conditions, loaded_key}
use Rattle.loading.specs.declared.Form.{Form}
use Rattle.loading.specs.declared.Form.TheVariants as forms

-- the load of a file
unfoldable pub loading_of : Form → List ℕ → Loading
loading_of forms.KeyFile file = key_file file
loading_of forms.NetworkFile file = network_file file

-- the shape of its key, or the number of a refusal
unfoldable pub loaded_shape : Loading → ShapeAnswer
loaded_shape f = let k : Key = loaded_key f in shape_answer (first_of (loading_conditions f)) (k.m, k.n, k.t)
