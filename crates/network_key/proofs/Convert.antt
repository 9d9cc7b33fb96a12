-- What the conversions keep. Assumes nothing.
use mathlib.Core.Path.{◌≡◌, refl, sym, ap, ap₂, ◌∙◌}
use mathlib.Core.Bool.{Bool, true, false, not, ◌&&◌}
use mathlib.Core.List.{List, ◌∷◌, ◌++◌, flat_map}
use Prim.Native.Nat.{ℕ, suc, ◌+◌, ◌*◌, ◌/◌, ◌%◌}
use native.Mathlib.Omega.{arith}
use lib.Dec.{eqb}
use lib.ListN.{length, drop, length-append}
use borrow.Author.Tests.{eq-eqb}
use Rattle.bits.specs.Bits.{Bytes, bytes_for, pack}
use Rattle.bits.proofs.Pack.{length-pack, row_length}
use Rattle.field.specs.Numbers.{first_of}
use Rattle.field.specs.Field.{is_width}
use Rattle.key.specs.Keys.{Key, pair, parse, two_bytes, file_of, conditions, file_conditions, key_number}
use Rattle.key.proofs.Parse.{pair-first, pair_behind, pair_behind_all, length-elements, length_bytes, parse_file, accepted_key}
use Rattle.key.proofs.Accepted.{Accepted, accepted}
use Rattle.network.specs.Network.{switches, control_bits}
use Rattle.network_key.specs.Files.{four, four_bytes, parse_network, network_conditions, permutation, network_of, to_network, from_network}
use Rattle.network.proofs.Digits.{row_control}
use Rattle.network_key.proofs.Settings.{length-support_of}
use Rattle.network_key.proofs.Parse.{parse_network_lem}
use Rattle.network_key.proofs.OldFile.{accepted_file}

-- Old to new and back returns the same bytes, for every file that load accepts.
pub old_new_old : (f : List ℕ) → Bytes f → first_of (file_conditions f) ≡ 0 → from_network (to_network f) ≡ f
unfolding from_network to_network
old_new_old f bytes e =
    ap file_of (parse_network_lem (parse f) (accepted (parse f) (accepted_key f e))) ∙ accepted_file f bytes e

-- a network file's key has its lengths
module _ (f : List ℕ) where
  pub support_size : length (parse_network f).support ≡ (parse_network f).n
  unfolding parse_network
  support_size = length-support_of _ _ _

  pub g_size : length (parse_network f).g ≡ (parse_network f).t
  unfolding parse_network
  g_size = length-elements f 5 _

  sizes : not (eqb (length (parse_network f).support) (parse_network f).n && eqb (length (parse_network f).g) (parse_network f).t) ≡ false
  sizes = ap₂ (λ (x y : Bool). not (x && y)) (eq-eqb _ _ support_size) (eq-eqb _ _ g_size)

-- with 36 directly after 2, and without it
without : (a b c : Bool) (rest : List (Bool × ℕ)) → first_of ((a, 1) ∷ (b, 2) ∷ (c, 36) ∷ rest) ≡ 0 → first_of ((a, 1) ∷ (false, 2) ∷ rest) ≡ 0
unfolding first_of
without true b c rest e = absurd (omega arith)
without false true c rest e = absurd (omega arith)
without false false true rest e = absurd (omega arith)
without false false false rest e = e

within : (a b : Bool) (rest : List (Bool × ℕ)) → first_of ((a, 1) ∷ (b, 2) ∷ rest) ≡ 0 → first_of ((a, 1) ∷ (false, 2) ∷ (false, 36) ∷ rest) ≡ 0
unfolding first_of
within true b rest e = absurd (omega arith)
within false true rest e = absurd (omega arith)
within false false rest e = e

-- what the load of a network file accepts may be kept
pub accepted-network : (f : List ℕ) → first_of (network_conditions f) ≡ 0 → key_number (parse_network f) ≡ 0
unfolding network_conditions conditions key_number
accepted-network f e =
    let k : Key = parse_network f in
    ap (λ (y : Bool). first_of (conditions y k)) (sizes f)
    ∙ without (not (is_width k.m)) (not (eqb (length f) (9 + 2 * k.t + bytes_for (switches k.m)))) (not (eqb (four f (5 + 2 * k.t)) (switches k.m))) _ e

-- New to old and forward again keeps the key: support and g.
pub new_old_new : (f : List ℕ) → first_of (network_conditions f) ≡ 0 → parse_network (to_network (from_network f)) ≡ parse_network f
unfolding from_network to_network
new_old_new f e =
    let k : Key = parse_network f in
    let a : Accepted k = accepted k (accepted-network f e) in
    ap (λ (x : Key). parse_network (network_of x)) (parse_file k a.support_length a.g_length) ∙ parse_network_lem k a

-- The load of a network file accepts the file of every key that load accepts.
module _ (k : Key) (e : key_number k ≡ 0) where
  a : Accepted k
  a = accepted k e

  row : List ℕ
  row = pack (control_bits k.m (permutation k))

  abbrev g_bytes : List ℕ
  g_bytes = flat_map two_bytes k.g

  row_size : length row ≡ bytes_for (switches k.m)
  unfolding row
  row_size = length-pack _ ∙ ap bytes_for (row_length (row_control k.m (permutation k)))

  pub file_size : length (network_of k) ≡ 9 + 2 * k.t + bytes_for (switches k.m)
  unfolding network_of two_bytes four_bytes row
  file_size = omega (arith, length-append g_bytes (four_bytes (switches k.m) ++ row), length_bytes k.g, a.g_length, row_size)

  behind : (i : ℕ) → pair (network_of k) (5 + 2 * k.t + i) ≡ pair (four_bytes (switches k.m) ++ row) i
  unfolding network_of two_bytes row
  behind i =
      let c : 5 + 2 * k.t + i ≡ suc (suc (suc (suc (suc (2 * length k.g + i))))) = omega (arith, a.g_length) in
      ap (pair (network_of k)) c ∙ pair_behind _ _ _ ∙ pair_behind _ _ _ ∙ pair_behind _ _ _ ∙ pair_behind _ _ _ ∙ pair_behind _ _ _
      ∙ pair_behind_all k.g (four_bytes (switches k.m) ++ row) i

  low_two : (x : ℕ) (l : List ℕ) → pair (four_bytes x ++ l) 0 ≡ x % 65536
  unfolding four_bytes two_bytes
  low_two x l = pair-first (x % 65536) _

  high_two : (x : ℕ) (l : List ℕ) → pair (four_bytes x ++ l) 2 ≡ x / 65536
  unfolding four_bytes two_bytes
  high_two x l = pair_behind _ _ 1 ∙ pair_behind _ _ 0 ∙ pair-first (x / 65536) _

  count_back : four (network_of k) (5 + 2 * k.t) ≡ switches k.m
  unfolding four
  count_back =
      let z : 5 + 2 * k.t ≡ 5 + 2 * k.t + 0 = omega arith in
      ap₂ (λ (x y : ℕ). x + 65536 * y) (ap (pair (network_of k)) z ∙ behind 0 ∙ low_two _ row) (behind 2 ∙ high_two _ row) ∙ join (switches k.m)
    where
      join : (c : ℕ) → c % 65536 + 65536 * (c / 65536) ≡ c
      join c = omega arith

  abbrev numbers : Key → List (Bool × ℕ)
  numbers j =
      (not (is_width j.m), 1) ∷ (not (eqb (length (network_of k)) (9 + 2 * j.t + bytes_for (switches j.m))), 2)
      ∷ (not (eqb (four (network_of k) (5 + 2 * j.t)) (switches j.m)), 36) ∷ drop 2 (conditions false j)

  opened : network_conditions (network_of k) ≡ numbers (parse_network (network_of k))
  unfolding network_conditions conditions
  opened = refl

  pub network-accepted : first_of (network_conditions (network_of k)) ≡ 0
  unfolding key_number conditions
  network-accepted =
      ap first_of opened
      ∙ ap (λ (j : Key). first_of (numbers j)) (parse_network_lem k a)
      ∙ ap₂ (λ (x y : Bool). first_of ((not (is_width k.m), 1) ∷ (not x, 2) ∷ (not y, 36) ∷ drop 2 (conditions false k))) (eq-eqb _ _ file_size) (eq-eqb _ _ count_back)
      ∙ within _ _ (drop 2 (conditions false k)) e

-- The file that conversion makes is one that the load of a network file accepts, with the key of the old file.
pub converted : (f : List ℕ) → first_of (file_conditions f) ≡ 0 → (first_of (network_conditions (to_network f)) ≡ 0) × (parse_network (to_network f) ≡ parse f)
unfolding to_network
converted f e =
    let z : key_number (parse f) ≡ 0 = accepted_key f e in
    (network-accepted (parse f) z, parse_network_lem (parse f) (accepted (parse f) z))

-- The file that converting back makes is one that load accepts, with the key of the network file.
pub file_length : (k : Key) → length k.support ≡ k.n → length k.g ≡ k.t → length (file_of k) ≡ 5 + 2 * k.n + 2 * k.t
unfolding file_of two_bytes
file_length k a b =
    omega (arith, length-append (flat_map two_bytes k.support) (two_bytes k.t ++ flat_map two_bytes k.g), length_bytes k.support, length_bytes k.g, a, b)

pub converted_back : (f : List ℕ) → first_of (network_conditions f) ≡ 0
    → (first_of (file_conditions (from_network f)) ≡ 0) × (parse (from_network f) ≡ parse_network f)
unfolding from_network file_conditions key_number
converted_back f e =
    let k : Key = parse_network f in
    let z : key_number k ≡ 0 = accepted-network f e in
    let a : Accepted k = accepted k z in
    let p : parse (file_of k) ≡ k = parse_file k a.support_length a.g_length in (
      ap (λ (j : Key). first_of (conditions (not (eqb (length (file_of k)) (5 + 2 * j.n + 2 * j.t))) j)) p
          ∙ ap (λ (b : Bool). first_of (conditions (not b) k)) (eq-eqb (length (file_of k)) (5 + 2 * k.n + 2 * k.t) (file_length k a.support_length a.g_length))
          ∙ ap (λ (b : Bool). first_of (conditions b k)) (sym (sizes f)) ∙ opened-number k z,
      p,
    )
  where
    opened-number : (k : Key) → key_number k ≡ 0 → first_of (conditions (not (eqb (length k.support) k.n && eqb (length k.g) k.t)) k) ≡ 0
    opened-number k z = z
