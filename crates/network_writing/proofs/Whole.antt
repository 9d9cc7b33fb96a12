-- The network file of an accepted file's key, by what is written. Assumes nothing.
use mathlib.Core.Path.{◌≡◌, sym, ap, ap₂, ◌∙◌}
use mathlib.Core.List.{List, ◌∷◌, ◌++◌, flat_map, append_assoc}
use Prim.Native.Nat.{ℕ, ◌+◌, ◌*◌, ◌/◌, ◌%◌, ◌^◌, ◌≤◌}
use native.Mathlib.Omega.{arith}
use lib.ListN.{length, take, length-append}
use lib.Seq.{sets}
use Rattle.bits.specs.Bits.{bytes_for, pack, padded}
use Rattle.bits.proofs.Padded.{length-padded, take-padded}
use Rattle.key.specs.Keys.{Key, parse, two_bytes}
use Rattle.key.specs.Kept.{keep}
use Rattle.key.specs.declared.shape.Sizes.{Sizes}
use Rattle.key.specs.declared.shape.ShapeAnswer.TheVariants as answers
use Rattle.key.specs.declared.kept.Key as kept
use Rattle.key.proofs.Parse.{accepted_key, length_bytes}
use Rattle.key_file.specs.Files.{file_shape, stored}
use Rattle.key_file.proofs.Files.{head_accepted, stored_key}
use Rattle.network.specs.Network.{switches, control_bits}
use Rattle.network_key.specs.Files.{four_bytes, permutation, network_of, to_network}
use Rattle.network_key.proofs.Widths.{width_least}
use Rattle.network_key.proofs.Convert.{file_size}
use Rattle.completion.proofs.Permutation.{none, said, key, same_m, same_n, same_t}
use Rattle.network_writing.proofs.Head.{sets_behind}

-- the parts in front of the row, t numbers among them
abbrev pub front : ℕ → ℕ → ℕ → List ℕ → List ℕ
front m n t g = m ∷ (two_bytes n ++ (two_bytes t ++ (flat_map two_bytes g ++ four_bytes (switches m))))

front_long : (m n t : ℕ) (g : List ℕ) → length (front m n t g) ≡ 9 + 2 * length g
unfolding two_bytes four_bytes
front_long m n t g = omega (arith, length-append (flat_map two_bytes g) (four_bytes (switches m)), length_bytes g)

-- with the row behind them
whole : (k : Key) → front k.m k.n k.t k.g ++ pack (control_bits k.m (permutation k)) ≡ network_of k
unfolding network_of two_bytes
whole k =
    ap (λ (l : List ℕ). k.m ∷ k.n % 256 ∷ k.n / 256 ∷ k.t % 256 ∷ k.t / 256 ∷ l)
    (append_assoc (flat_map two_bytes k.g) (four_bytes (switches k.m)) (pack (control_bits k.m (permutation k))))

module _ (f : List ℕ) (s : Sizes) (e : file_shape f ≡ answers.Sizes s) where
  abbrev k : Key
  k = parse f

  pub wide : 4 ≤ s.m
  wide = omega (arith, same_m f s e, width_least k.m (key f s e).width)

  pub errors_fit : s.t ≤ 128
  errors_fit = omega (arith, same_t f s e, (key f s e).limits.few)

  g_array : stored 128 f (5 + 2 * s.n) s.t ≡ padded 128 k.g
  unfolding keep
  g_array = ap (λ (x : kept.Key). x.g) (stored_key f (head_accepted f (none f s e)) s (said f s e))

  g_size : length k.g ≡ s.t
  g_size = (key f s e).g_length ∙ sym (same_t f s e)

  pub g_fits : (a : List ℕ) → a ≡ stored 128 f (5 + 2 * s.n) s.t → s.t ≤ length a
  g_fits a q = omega (arith, errors_fit, ap length (q ∙ g_array), length-padded 128 k.g (omega (arith, errors_fit, g_size)))

  -- the length of the network file
  pub network-size : length (to_network f) ≡ 9 + 2 * s.t + bytes_for (switches s.m)
  unfolding to_network
  network-size =
      file_size k (accepted_key f (none f s e))
      ∙ ap₂ (λ (t m : ℕ). 9 + 2 * t + bytes_for (switches m)) (sym (same_t f s e)) (sym (same_m f s e))

  -- the array of g is a, and the list has the permutation first
  module _ (a values : List ℕ) (q : a ≡ stored 128 f (5 + 2 * s.n) s.t) (v : take (2 ^ s.m) values ≡ permutation k) where
    g_first : take s.t a ≡ k.g
    g_first = ap (take s.t) (q ∙ g_array) ∙ take-padded 128 k.g s.t g_size

    front_is : front s.m s.n (length (take s.t a)) (take s.t a) ≡ front k.m k.n k.t k.g
    front_is =
        ap₂ (λ (m n : ℕ). front m n (length (take s.t a)) (take s.t a)) (same_m f s e) (same_n f s e)
        ∙ ap (λ (g : List ℕ). front k.m k.n (length g) g) g_first
        ∙ ap (λ (t : ℕ). front k.m k.n t k.g) (key f s e).g_length

    row_is : pack (control_bits s.m (take (2 ^ s.m) values)) ≡ pack (control_bits k.m (permutation k))
    row_is = ap₂ (λ (m : ℕ) (l : List ℕ). pack (control_bits m l)) (same_m f s e) v

    pub network-written : (o : List ℕ)
        → sets (sets o 0 (front s.m s.n (length (take s.t a)) (take s.t a))) (9 + 2 * s.t) (pack (control_bits s.m (take (2 ^ s.m) values)))
        ≡ sets o 0 (to_network f)
    unfolding to_network
    network-written o =
        ap₂ (λ (l r : List ℕ). sets (sets o 0 l) (9 + 2 * s.t) r) front_is row_is
        ∙ sets_behind o 0 (front k.m k.n k.t k.g) (pack (control_bits k.m (permutation k))) (9 + 2 * s.t)
        (omega (arith, front_long k.m k.n k.t k.g, g_size))
        ∙ ap (sets o 0) (whole k)
