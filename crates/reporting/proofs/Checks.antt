-- The numbers of report, by the tests of the code; quotients rounded up. Assumes nothing.
use mathlib.Core.Path.{◌≡◌, sym}
use mathlib.Core.Bool.{Bool}
use mathlib.Core.List.{List, [], ◌∷◌}
use Prim.Native.Nat.{ℕ, ◌+◌, ◌-◌, ◌*◌, ◌/◌, ◌%◌, ◌≤◌, ◌<◌}
use native.Mathlib.Nat.{le_refl, mod-lt, div-add-mod', div-le_self, div-eq_of_lt-le, le-mul_of_pos_right}
use native.Mathlib.Decide.{dec_le}
use native.Mathlib.Omega.{arith}
use borrow.Author.Tests.{lt-ltb, le-ltb, ltb-false}
use lib.Dec.{ltb}
use lib.ListN.{length}
use Rattle.bits.proofs.Parts.{next_row}
use Rattle.field.specs.Numbers.{first_of}
use Rattle.field.proofs.Numbers.{first-clear}
use Rattle.key.specs.Keys.{Key, key_number, unsound}
use Rattle.reading.specs.Answers.{key_checks}
use Rattle.reading.proofs.Refusals.{key_refused_lem, key_passed, key_first}
use Rattle.records.specs.Records.{capsules_of, report_conditions}

-- 31 behind 25, 34 and 24
module _ (unpublished : Bool) (k : Key) (capsules : List ℕ) (len : ℕ) where
  pub report_refused : (first_of (key_checks unpublished k) ≡ 0 → ⊥) → first_of (key_checks unpublished k) ≡ first_of (report_conditions (unsound k) unpublished k capsules len)
  unfolding report_conditions key_checks
  report_refused h = key_refused_lem unpublished k ((ltb len (length (capsules_of k capsules)), 31) ∷ []) h

  passed : first_of (key_checks unpublished k) ≡ 0
      → first_of ((ltb len (length (capsules_of k capsules)), 31) ∷ []) ≡ first_of (report_conditions (unsound k) unpublished k capsules len)
  unfolding report_conditions key_checks
  passed z = key_passed unpublished k ((ltb len (length (capsules_of k capsules)), 31) ∷ []) z

  module _ (z : first_of (key_checks unpublished k) ≡ 0) where
    pub report_short : len < length (capsules_of k capsules) → 31 ≡ first_of (report_conditions (unsound k) unpublished k capsules len)
    unfolding first_of
    report_short h = rw (← passed z, lt-ltb _ _ h)

    pub report-room : length (capsules_of k capsules) ≤ len → 0 ≡ first_of (report_conditions (unsound k) unpublished k capsules len)
    unfolding first_of
    report-room h = rw (← passed z, le-ltb _ _ h)

  -- where none holds
  pub report-clear : first_of (report_conditions (unsound k) unpublished k capsules len) ≡ 0 → (key_number k ≡ 0) × (length (capsules_of k capsules) ≤ len)
  unfolding report_conditions key_checks
  report-clear e =
      let c = key_first unpublished k ((ltb len (length (capsules_of k capsules)), 31) ∷ []) e in
      (c.0, ltb-false _ _ (first-clear (ltb len (length (capsules_of k capsules))) 30 [] c.1).0)

-- a quotient rounded up
rounded : (n c q r : ℕ) → 0 < c → r ≤ c → q * c + r ≡ n + c → 0 < r → q ≡ (n + (c - 1)) / c
rounded n c q r h b e s = sym (div-eq_of_lt-le c {m = n + (c - 1)} (omega arith) (omega (arith, next_row q c)))

module _ (n c : ℕ) (h : 0 < c) where
  pub rounded_whole : n % c ≡ 0 → n / c ≡ (n + (c - 1)) / c
  rounded_whole e = rounded n c (n / c) c h (le_refl c) (omega (arith, div-add-mod' n c)) h

  module _ (e : n % c ≡ 0 → ⊥) where
    pub rounded_up : n / c + 1 ≡ (n + (c - 1)) / c
    rounded_up =
        rounded n c (n / c + 1) (n % c) h (omega (arith, mod-lt n h))
        (omega (arith, div-add-mod' n c, next_row (n / c) c)) (omega arith)

    pub quotient_fits : n / c < n
    quotient_fits = go (dec_le (n / c + 1) n)
      where
        go : Dec (n / c + 1 ≤ n) → n / c < n
        go (yes b) = omega arith
        go (no b) = absurd (e (omega (arith, div-add-mod' n c, div-le_self n c, le-mul_of_pos_right (n / c) h)))
