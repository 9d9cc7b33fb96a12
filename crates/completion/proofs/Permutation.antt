-- The permutation of an accepted file's key. Assumes nothing.
use mathlib.Core.Path.{◌≡◌, sym, ap, ap₂, ◌∙◌, subst}
use mathlib.Core.List.{List, ◌++◌, map}
use Prim.Native.Nat.{ℕ, ◌^◌, ◌≤◌, ◌<◌}
use native.Mathlib.Omega.{arith}
use lib.ListN.{take, drop, length-map}
use lib.Seq.{take_at}
use Rattle.bits.specs.Bits.{padded}
use Rattle.bits.proofs.Padded.{take-padded}
use Rattle.field.specs.Numbers.{first_of}
use Rattle.field.proofs.Table.{width_narrow}
use Rattle.key.specs.Keys.{Key, parse, file_conditions}
use Rattle.key.specs.Kept.{sizes_of, keep}
use Rattle.key.specs.declared.shape.Sizes.{Sizes}
use Rattle.key.specs.declared.shape.ShapeAnswer.TheVariants as answers
use Rattle.key.specs.declared.kept.Key as kept
use Rattle.key.proofs.Parse.{accepted_key}
use Rattle.key.proofs.Accepted.{Accepted, accepted}
use Rattle.key_file.specs.Files.{file_shape, stored}
use Rattle.key_file.proofs.Files.{shape_accepted, head_accepted, stored_key}
use Rattle.network.specs.Network.{unused}
use Rattle.network.specs.Tables.{Each}
use Rattle.network_key.specs.Files.{reversed, permutation}
use Rattle.network_key.proofs.Settings.{each_permutation}
use Rattle.completion.proofs.Completing.{pow_small}

module _ (f : List ℕ) (s : Sizes) (e : file_shape f ≡ answers.Sizes s) where
  abbrev k : Key
  k = parse f

  pub none : first_of (file_conditions f) ≡ 0
  none = (shape_accepted f e).0

  pub said : s ≡ sizes_of k
  said = (shape_accepted f e).1

  pub key : Accepted k
  key = accepted k (accepted_key f none)

  pub same_m : s.m ≡ k.m
  unfolding sizes_of
  same_m = ap (λ (z : Sizes). z.m) said

  pub same_n : s.n ≡ k.n
  unfolding sizes_of
  same_n = ap (λ (z : Sizes). z.n) said

  pub same_t : s.t ≡ k.t
  unfolding sizes_of
  same_t = ap (λ (z : Sizes). z.t) said

  pub narrow : s.m < 14
  narrow = omega (arith, same_m, width_narrow k.m key.width)

  pub places : s.n ≤ 2 ^ s.m
  places = omega (arith, key.limits.fits, same_n, ap (2 ^◌) same_m)

  pub places_fit : s.n ≤ 8192
  places_fit = omega (arith, places, pow_small s.m narrow)

  -- the arrays are the key's
  support_array : stored 8192 f 3 s.n ≡ padded 8192 k.support
  unfolding keep
  support_array = ap (λ (x : kept.Key). x.support) (stored_key f (head_accepted f none) s said)

  support_first : take s.n (stored 8192 f 3 s.n) ≡ k.support
  support_first = ap (take s.n) support_array ∙ take-padded 8192 k.support s.n (key.support_length ∙ sym same_n)

  pub permutation_each : Each (2 ^ s.m) (permutation k)
  permutation_each = subst (λ (m : ℕ). Each (2 ^ m) (permutation k)) (sym same_m) (each_permutation k key)

  -- v has the support, and w its values first
  module _ (v w : List ℕ) (a : v ≡ stored 8192 f 3 s.n) (b : w ≡ map (reversed s.m) (take s.n v) ++ drop s.n v) where
    values : map (reversed s.m) (take s.n v) ≡ map (reversed k.m) k.support
    values = ap₂ (λ (m : ℕ) (l : List ℕ). map (reversed m) l) same_m (ap (take s.n) a ∙ support_first)

    values_first : take s.n w ≡ map (reversed k.m) k.support
    values_first =
        ap (take s.n) (b ∙ ap (◌++ drop s.n v) values)
        ∙ take_at (map (reversed k.m) k.support) (drop s.n v) s.n (length-map k.support (reversed k.m) ∙ key.support_length ∙ sym same_n)

    pub completed_values : take s.n w ++ unused (take s.n w) (2 ^ s.m) ≡ permutation k
    unfolding permutation
    completed_values = ap₂ (λ (l : List ℕ) (m : ℕ). l ++ unused l (2 ^ m)) values_first same_m

    pub completed_each : Each (2 ^ s.m) (take s.n w ++ unused (take s.n w) (2 ^ s.m))
    completed_each = subst (Each (2 ^ s.m)) (sym completed_values) permutation_each
