-- A key's network file gives the key back. Assumes nothing.
use mathlib.Core.Path.{◌≡◌, sym, ap, ap₂, ◌∙◌}
use mathlib.Core.List.{List, ◌∷◌, ◌++◌, flat_map}
use Prim.Native.Nat.{ℕ, suc, ◌+◌, ◌*◌}
use native.Mathlib.Omega.{arith}
use lib.ListN.{length, drop}
use lib.Seq.{drop-append-add}
use Rattle.bits.specs.Bits.{pack}
use Rattle.key.specs.Keys.{Key, pair, elements, two_bytes}
use Rattle.key.proofs.Parse.{pair-first, pair_behind, elements-moved, elements_back, length_bytes}
use Rattle.key.proofs.Accepted.{Accepted}
use Rattle.network.specs.Network.{switches, control_bits}
use Rattle.network_key.specs.Files.{support_of, parse_network, permutation, four_bytes, network_of}
use Rattle.network_key.proofs.Settings.{support_back}

-- a file with the parts m, n, g and a row, as they stand in it
module _ (m n t c : ℕ) (g row : List ℕ) (size : length g ≡ t) where
  abbrev tail : List ℕ
  tail = flat_map two_bytes g ++ (four_bytes c ++ row)

  abbrev file : List ℕ
  file = m ∷ (two_bytes n ++ (two_bytes t ++ tail))

  behind : (i : ℕ) → pair file (5 + i) ≡ pair tail i
  unfolding two_bytes
  behind i =
      let e : 5 + i ≡ suc (suc (suc (suc (suc i)))) = omega arith in
      ap (pair file) e ∙ pair_behind _ _ _ ∙ pair_behind _ _ _ ∙ pair_behind _ _ _ ∙ pair_behind _ _ _ ∙ pair_behind _ _ _

  pub n_back : pair file 1 ≡ n
  unfolding two_bytes
  n_back = pair_behind _ _ 0 ∙ pair-first n _

  pub t_back : pair file 3 ≡ t
  unfolding two_bytes
  t_back = pair_behind _ _ 2 ∙ pair_behind _ _ 1 ∙ pair_behind _ _ 0 ∙ pair-first t _

  pub g_back : elements file 5 t ≡ g
  g_back =
      ap (elements file 5) (sym size)
      ∙ elements-moved file tail 5 0 (length g) (λ i. let e : i ≡ 0 + i = omega arith in behind i ∙ ap (pair tail) e)
      ∙ elements_back g (four_bytes c ++ row)

  pub row_back : drop (9 + 2 * t) file ≡ row
  unfolding two_bytes four_bytes
  row_back =
      let e : 9 + 2 * t ≡ suc (suc (suc (suc (suc (length (flat_map two_bytes g) + 4))))) = omega (arith, length_bytes g, size) in
      ap (λ (i : ℕ). drop i file) e ∙ drop-append-add (flat_map two_bytes g) (four_bytes c ++ row) 4

pub parse_network_lem : (k : Key) → Accepted k → parse_network (network_of k) ≡ k
unfolding parse_network network_of
parse_network_lem k a = λ i. record { m = k.m; n = n' i; t = t' i; support = support' i; g = g' i }
  where
    row : List ℕ
    row = pack (control_bits k.m (permutation k))

    f : List ℕ
    f = network_of k

    n' : pair f 1 ≡ k.n
    n' = n_back k.m k.n k.t (switches k.m) k.g row a.g_length

    t' : pair f 3 ≡ k.t
    t' = t_back k.m k.n k.t (switches k.m) k.g row a.g_length

    g' : elements f 5 (pair f 3) ≡ k.g
    g' = ap (elements f 5) t' ∙ g_back k.m k.n k.t (switches k.m) k.g row a.g_length

    support' : support_of k.m (pair f 1) (drop (9 + 2 * pair f 3) f) ≡ k.support
    support' =
        ap₂ (λ (n t : ℕ). support_of k.m n (drop (9 + 2 * t) f)) n' t'
        ∙ ap (support_of k.m k.n) (row_back k.m k.n k.t (switches k.m) k.g row a.g_length)
        ∙ support_back k a
