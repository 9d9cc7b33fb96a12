-- What the calls of a form answer and write, in the terms of the load. Assumes nothing.
use Prim.Native.Nat.{ℕ, ◌+◌, ◌*◌}
use mathlib.Core.Path.{◌≡◌, refl, sym, ap, ◌∙◌}
use mathlib.Core.List.{List}
use Rattle.bits.specs.Bits.{padded}
use Rattle.field.specs.Numbers.{first_of}
use Rattle.key.specs.Keys.{parse}
use Rattle.key.specs.Kept.{keep}
use Rattle.key.specs.declared.kept.Key.{Key}
use Rattle.key.specs.declared.shape.Sizes.{Sizes}
use Rattle.key.specs.declared.shape.ShapeAnswer.{ShapeAnswer}
use Rattle.key.specs.declared.shape.ShapeAnswer.TheVariants as answers
use Rattle.key_file.specs.Files.{file_shape, stored}
use Rattle.key_file.proofs.Files.{head_accepted, stored_key}
use Rattle.key_file.proofs.Files as Files
use Rattle.network_key.specs.Files.{parse_network, network_conditions}
use Rattle.network_file.specs.Networks.{network_shape}
use Rattle.network_file.proofs.Files.{shape_accepted}
use Rattle.ledger.specs.Loading.{loading_conditions, loaded_key}
use Rattle.loading.specs.declared.Form.{Form}
use Rattle.loading.specs.declared.Form.TheVariants as forms
use Rattle.loading.specs.Forms.{loading_of, loaded_shape}

-- a key file
module _ (file : List ℕ) where
  key_file_shape : file_shape file ≡ loaded_shape (loading_of forms.KeyFile file)
  unfolding file_shape loaded_shape loading_of loading_conditions loaded_key
  key_file_shape = refl

  module _ {s : Sizes} (e : file_shape file ≡ answers.Sizes s) where
    -- the arrays of the shape that is answered are those of the kept key
    kept_arrays : record { m = s.m; n = s.n; t = s.t; support = stored 8192 file 3 s.n; g = stored 128 file (5 + 2 * s.n) s.t } ≡ keep (parse file)
    kept_arrays = let o = Files.shape_accepted file e in stored_key file (head_accepted file o.0) s o.1

    stored_support : stored 8192 file 3 s.n ≡ padded 8192 (parse file).support
    unfolding keep
    stored_support = ap (λ (k : Key). k.support) kept_arrays

    stored_g : stored 128 file (5 + 2 * s.n) s.t ≡ padded 128 (parse file).g
    unfolding keep
    stored_g = ap (λ (k : Key). k.g) kept_arrays

module _ (file : List ℕ) {form : Form} (f : form ≡ forms.KeyFile) where
  pub key_file_answer : {r : ShapeAnswer} → r ≡ file_shape file → r ≡ loaded_shape (loading_of form file)
  key_file_answer e = e ∙ key_file_shape file ∙ ap (λ (x : Form). loaded_shape (loading_of x file)) (sym f)

  module _ {s : Sizes} (e : loaded_shape (loading_of form file) ≡ answers.Sizes s) where
    read_shape : file_shape file ≡ answers.Sizes s
    read_shape = key_file_answer refl ∙ e

    pub key_file_support : {x : List ℕ} → x ≡ stored 8192 file 3 s.n → x ≡ padded 8192 (loaded_key (loading_of form file)).support
    unfolding loading_of loaded_key
    key_file_support w = w ∙ stored_support file read_shape ∙ ap (λ (x : Form). padded 8192 (loaded_key (loading_of x file)).support) (sym f)

    pub key_file_g : {x : List ℕ} → x ≡ stored 128 file (5 + 2 * s.n) s.t → x ≡ padded 128 (loaded_key (loading_of form file)).g
    unfolding loading_of loaded_key
    key_file_g w = w ∙ stored_g file read_shape ∙ ap (λ (x : Form). padded 128 (loaded_key (loading_of x file)).g) (sym f)

-- a network file, whose arrays are written in these terms
module _ (file : List ℕ) {form : Form} (f : form ≡ forms.NetworkFile) where
  pub network_file_answer : {r : ShapeAnswer} → r ≡ network_shape file → r ≡ loaded_shape (loading_of form file)
  unfolding network_shape loaded_shape loading_of loading_conditions loaded_key
  network_file_answer e = e ∙ ap (λ (x : Form). loaded_shape (loading_of x file)) (sym f)

  module _ {s : Sizes} (e : loaded_shape (loading_of form file) ≡ answers.Sizes s) where
    network_none : first_of (network_conditions file) ≡ 0
    network_none = (shape_accepted file (network_file_answer refl ∙ e)).0

    pub network_file_support : {x : List ℕ} → (first_of (network_conditions file) ≡ 0 → x ≡ padded 8192 (parse_network file).support)
        → x ≡ padded 8192 (loaded_key (loading_of form file)).support
    unfolding loading_of loaded_key
    network_file_support w = w network_none ∙ ap (λ (x : Form). padded 8192 (loaded_key (loading_of x file)).support) (sym f)

    pub network_file_g : {x : List ℕ} → (first_of (network_conditions file) ≡ 0 → x ≡ padded 128 (parse_network file).g)
        → x ≡ padded 128 (loaded_key (loading_of form file)).g
    unfolding loading_of loaded_key
    network_file_g w = w network_none ∙ ap (λ (x : Form). padded 128 (loaded_key (loading_of x file)).g) (sym f)
