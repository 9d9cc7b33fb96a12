-- The numbers of read and open, by the tests of the code. Assumes nothing.
use mathlib.Core.Path.{◌≡◌, refl, sym, ap, ◌∙◌}
use mathlib.Core.Bool.{Bool, true, false, cond, not}
use mathlib.Core.List.{List, [], ◌∷◌, ◌++◌}
use Prim.Native.Nat.{ℕ, ◌≤◌, ◌<◌}
use borrow.Author.Tests.{eq-eqb, ne_eqb, lt-ltb, le-ltb, eqb-true, ltb-false, not-false}
use lib.Dec.{eqb, ltb}
use lib.ListN.{length}
use Rattle.bits.specs.Bits.{bytes_for, unpack, filler_clear, well_formed}
use Rattle.bits.proofs.Pack.{well_formed_lem}
use Rattle.field.specs.Numbers.{first_of}
use Rattle.field.proofs.Numbers.{numbered, first-clear, first-append}
use Rattle.key.specs.Keys.{Key, key_number, unsound, reducible}
use Rattle.key.proofs.Conditions.{first-take}
use Rattle.irreducible.specs.Answers.{exchange_checks}
use Rattle.code.specs.Publish.{capsule_bits}
use Rattle.decoder.specs.Reading.{reading, opening}
use Rattle.decoder.specs.Calls.{is_none, open_conditions, read_conditions, open_number, read_number}
use Rattle.reading.specs.Answers.{row_checks, buffer_checks, key_checks, open_checks, read_checks}

-- 8, 9
module _ (k : ℕ) (row : List ℕ) where
  pub wrong_length_lem : (length row ≡ bytes_for k → ⊥) → 8 ≡ first_of (row_checks k row)
  unfolding row_checks first_of
  wrong_length_lem h = rw (ne_eqb _ _ h)

  module _ (a : length row ≡ bytes_for k) where
    pub wrong_filler : filler_clear k row ≡ false → 9 ≡ first_of (row_checks k row)
    unfolding row_checks first_of
    wrong_filler h = rw (eq-eqb _ _ a, h)

    pub row_right : filler_clear k row ≡ true → 0 ≡ first_of (row_checks k row)
    unfolding row_checks first_of
    row_right h = rw (eq-eqb _ _ a, h)

  -- where neither holds the number is that of the conditions behind them
  pub row_first : (cs : List (Bool × ℕ)) → first_of (row_checks k row ++ cs) ≡ 0 → (well_formed k row ≡ true) × (first_of cs ≡ 0)
  unfolding row_checks
  row_first cs e =
      let c8 = first-clear (not (eqb (length row) (bytes_for k))) 7 _ e in
      let c9 = first-clear (not (filler_clear k row)) 8 _ c8.1 in
      (well_formed_lem k row (eqb-true _ _ (not-false _ c8.0)) (not-false _ c9.0), c9.1)

  pub row_clear : first_of (row_checks k row) ≡ 0 → well_formed k row ≡ true
  unfolding row_checks
  row_clear e = (row_first [] e).0

  -- and 10
  module _ (n len : ℕ) where
    pub wrong_row : (first_of (row_checks k row) ≡ 0 → ⊥) → first_of (row_checks k row) ≡ first_of (buffer_checks k n row len)
    unfolding row_checks buffer_checks
    wrong_row h = first-take 2 (buffer_checks k n row len) h

    row_passed : first_of (row_checks k row) ≡ 0 → first_of (buffer_checks k n row len) ≡ first_of ((ltb len (bytes_for n), 10) ∷ [])
    unfolding row_checks buffer_checks numbered
    row_passed z = first-append (row_checks k row) ((ltb len (bytes_for n), 10) ∷ []) refl z

    module _ (z : first_of (row_checks k row) ≡ 0) where
      pub short_output : len < bytes_for n → 10 ≡ first_of (buffer_checks k n row len)
      unfolding first_of
      short_output h = rw (row_passed z, lt-ltb _ _ h)

      pub buffers_right : bytes_for n ≤ len → 0 ≡ first_of (buffer_checks k n row len)
      unfolding first_of
      buffers_right h = rw (row_passed z, le-ltb _ _ h)

    -- where none holds
    pub buffers_clear : first_of (buffer_checks k n row len) ≡ 0 → (well_formed k row ≡ true) × (bytes_for n ≤ len)
    unfolding buffer_checks
    buffers_clear e =
        let r = row_first ((ltb len (bytes_for n), 10) ∷ []) e in
        (r.0, ltb-false _ _ (first-clear (ltb len (bytes_for n)) 9 [] r.1).0)

-- 25 by the key's number
module _ (k : Key) where
  pub unsound_some : (key_number k ≡ 0 → ⊥) → unsound k ≡ true
  unfolding unsound
  unsound_some h = ap not (ne_eqb _ _ h)

  pub unsound_none : key_number k ≡ 0 → unsound k ≡ false
  unfolding unsound
  unsound_none z = ap not (eq-eqb _ _ z)

  module _ (word : List ℕ) (len : ℕ) where
    pub read_unsound : (key_number k ≡ 0 → ⊥) → 25 ≡ first_of (read_checks k word len)
    unfolding read_checks first_of
    read_unsound h = rw (unsound_some h)

    pub read_sound : key_number k ≡ 0 → first_of (buffer_checks k.n k.n word len) ≡ first_of (read_checks k word len)
    unfolding read_checks first_of
    read_sound z = rw (unsound_none z)

  -- 0 of the checks: the key is sound
  pub sound_key : unsound k ≡ false → key_number k ≡ 0
  unfolding unsound
  sound_key e = eqb-true _ _ (not-false _ e)

-- 25, 34, 24
module _ (unpublished : Bool) (k : Key) where
  pub exchange_refused : (first_of (exchange_checks k) ≡ 0 → ⊥) → first_of (exchange_checks k) ≡ first_of (key_checks unpublished k)
  unfolding exchange_checks key_checks
  exchange_refused h = first-take 2 (key_checks unpublished k) h

  module _ (z : first_of (exchange_checks k) ≡ 0) where
    exchange_passed : first_of ((unpublished, 24) ∷ []) ≡ first_of (key_checks unpublished k)
    unfolding exchange_checks key_checks numbered
    exchange_passed = sym (first-append (exchange_checks k) ((unpublished, 24) ∷ []) refl z)

    pub key_unpublished : unpublished ≡ true → 24 ≡ first_of (key_checks unpublished k)
    unfolding first_of
    key_unpublished p = rw (← exchange_passed, p)

    pub key_right : unpublished ≡ false → 0 ≡ first_of (key_checks unpublished k)
    unfolding first_of
    key_right p = rw (← exchange_passed, p)

  -- with the conditions behind them
  module _ (cs : List (Bool × ℕ)) where
    pub key_refused_lem : (first_of (key_checks unpublished k) ≡ 0 → ⊥) → first_of (key_checks unpublished k) ≡ first_of (key_checks unpublished k ++ cs)
    unfolding key_checks
    key_refused_lem h = first-take 3 (key_checks unpublished k ++ cs) h

    pub key_passed : first_of (key_checks unpublished k) ≡ 0 → first_of cs ≡ first_of (key_checks unpublished k ++ cs)
    unfolding key_checks numbered
    key_passed z = sym (first-append (key_checks unpublished k) cs refl z)

    pub key_first : first_of (key_checks unpublished k ++ cs) ≡ 0 → (key_number k ≡ 0) × (first_of cs ≡ 0)
    unfolding key_checks
    key_first e =
        let c25 = first-clear (unsound k) 24 _ e in
        let c34 = first-clear (reducible k) 33 _ c25.1 in
        (sound_key k c25.0, (first-clear unpublished 23 _ c34.1).1)

  pub key_clear : first_of (key_checks unpublished k) ≡ 0 → key_number k ≡ 0
  unfolding key_checks
  key_clear e = (key_first [] e).0

-- 0 of the checks: the key is sound and the buffers are right

module _ (k : Key) (word out : List ℕ) where
  pub read_clear : first_of (read_checks k word (length out)) ≡ 0 → (key_number k ≡ 0) × (well_formed k.n word ≡ true) × (bytes_for k.n ≤ length out)
  unfolding read_checks
  read_clear e =
      let c = first-clear (unsound k) 24 _ e in
      let b = buffers_clear k.n word k.n (length out) c.1 in (sound_key k c.0, b.0, b.1)

  -- the number: that of the checks, or 14
  pub read_refused : {x : ℕ} → x ≡ first_of (read_checks k word (length out)) → (x ≡ 0 → ⊥) → x ≡ read_number k word out
  unfolding read_number read_conditions read_checks row_checks buffer_checks
  read_refused e h = e ∙ first-take 4 (read_conditions (unsound k) k word out) (λ z. h (e ∙ z))

  pub read_number_lem : first_of (read_checks k word (length out)) ≡ 0 → read_number k word out ≡ cond (is_none (reading k (unpack k.n word))) 14 0
  unfolding read_number read_conditions read_checks row_checks buffer_checks first_of numbered
  read_number_lem e = first-append (read_checks k word (length out)) ((is_none (reading k (unpack k.n word)), 14) ∷ []) refl e

module _ (unpublished : Bool) (k : Key) (capsule out : List ℕ) where
  pub open_clear : first_of (open_checks unpublished k capsule (length out)) ≡ 0
      → (key_number k ≡ 0) × (well_formed (capsule_bits k) capsule ≡ true) × (bytes_for k.n ≤ length out)
  unfolding open_checks
  open_clear e =
      let c = key_first unpublished k (buffer_checks (capsule_bits k) k.n capsule (length out)) e in
      let b = buffers_clear (capsule_bits k) capsule k.n (length out) c.1 in (c.0, b.0, b.1)

  -- the number: that of the checks, or 13
  pub open_refused : {x : ℕ} → x ≡ first_of (open_checks unpublished k capsule (length out)) → (x ≡ 0 → ⊥) → x ≡ open_number unpublished k capsule out
  unfolding open_number open_conditions open_checks key_checks row_checks buffer_checks
  open_refused e h = e ∙ first-take 6 (open_conditions (unsound k) unpublished k capsule out) (λ z. h (e ∙ z))

  pub open_number_lem : first_of (open_checks unpublished k capsule (length out)) ≡ 0
      → open_number unpublished k capsule out ≡ cond (is_none (opening k (unpack (capsule_bits k) capsule))) 13 0
  unfolding open_number open_conditions open_checks key_checks row_checks buffer_checks first_of numbered
  open_number_lem e =
      first-append (open_checks unpublished k capsule (length out)) ((is_none (opening k (unpack (capsule_bits k) capsule)), 13) ∷ []) refl e
