-- The first form of a network file, by the arrays of its key. Assumes nothing.
use mathlib.Core.Path.{◌≡◌, sym, ap, ap₂, ◌∙◌}
use mathlib.Core.List.{List}
use Prim.Native.Nat.{ℕ, ◌+◌, ◌*◌}
use lib.ListN.{length}
use Rattle.bits.specs.Bits.{padded}
use Rattle.key.specs.Keys.{Key, file_of}
use Rattle.key.specs.Kept.{parts, kept, keep, sizes_of}
use Rattle.key.specs.declared.shape.Sizes.{Sizes}
use Rattle.key.proofs.Filled.{kept-keep}
use Rattle.network_key.specs.Files.{parse_network, from_network}
use Rattle.network_key.specs.Converting.{out_of_network, converted}
use Rattle.network_key.proofs.Convert.{file_length, support_size, g_size}

module _ (file : List ℕ) {s : Sizes} (e : s ≡ sizes_of (parse_network file)) where
  pub old_length : 5 + 2 * s.n + 2 * s.t ≡ length (converted out_of_network file)
  unfolding converted from_network sizes_of
  old_length =
      ap (λ (s : Sizes). 5 + 2 * s.n + 2 * s.t) e
      ∙ sym (file_length (parse_network file) (support_size file) (g_size file))

  pub old_file : {x y : List ℕ} → x ≡ padded 8192 (parse_network file).support → y ≡ padded 128 (parse_network file).g
      → file_of (kept (parts s.m s.n s.t x y)) ≡ converted out_of_network file
  unfolding converted from_network sizes_of keep
  old_file ex ey =
      let k : Key = parse_network file in
      ap₂ (λ (x y : List ℕ). file_of (kept (parts s.m s.n s.t x y))) ex ey
      ∙ ap (λ (s : Sizes). file_of (kept (parts s.m s.n s.t (padded 8192 k.support) (padded 128 k.g)))) e
      ∙ ap file_of (kept-keep k (support_size file) (g_size file))
