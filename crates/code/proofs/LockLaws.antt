-- A public key written row after row is read back, and locking under it is [I|T]·e. Assumes nothing.
use mathlib.Core.Path.{◌≡◌, refl, sym, ap, ap₂, ◌∙◌}
use mathlib.Core.Bool.{Bool, true, false, not, cond, ◌&&◌}
use mathlib.Core.List.{List, [], ◌∷◌, ◌++◌, map, flat_map}
use mathlib.Core.Option.{some}
use Prim.Native.Nat.{ℕ, suc, ◌+◌, ◌-◌, ◌*◌, ◌≤◌}
use native.Mathlib.Nat.{zero-mul, suc-mul, add_comm}
use lib.Dec.{eqb}
use lib.ListN.{length, take, drop, length-append}
use lib.Seq.{take_at, drop_at, drop-drop}
use borrow.Author.Tests.{eq-eqb, eqb-true, le-ltb, not-false}
use Rattle.bits.specs.Bits.{Row, from, every, bytes_for, unpack, pack, weight, filler_clear, well_formed, over}
use Rattle.bits.proofs.Lists.{and_right}
use Rattle.bits.proofs.Pack.{row_length, length-pack, unpack-pack, well_formed_lem, well_formed-length, well_formed-clear, well_formed-pack}
use Rattle.field.specs.Numbers.{first_of}
use Rattle.field.proofs.Numbers.{first-clear}
use Rattle.field.specs.Field.{is_width}
use Rattle.key.specs.Shapes.{in_limits}
use Rattle.key.specs.Keys.{Key, key_number}
use Rattle.key.proofs.Shapes.{limits_test}
use Rattle.key.proofs.Accepted.{accepted}
use Rattle.code.specs.PublicKey.{Matrix, public_key}
use Rattle.code.specs.Lock.{locked, row_of, rows_of, lock_number, lock, lock_output}
use Rattle.code.proofs.Kernel.{Rows, none, row}
use Rattle.code.proofs.PublicKey.{public_length, public_rows}

-- the written rows: each has bytes_for w bytes
pack-length : {w : ℕ} {r : List ℕ} → Row w r → length (pack r) ≡ bytes_for w
pack-length {r} a = length-pack r ∙ ap bytes_for (row_length a)

pub length-written : {w : ℕ} {rows : Matrix} → Rows w rows → length (flat_map pack rows) ≡ length rows * bytes_for w
unfolding flat_map
length-written {w} none = sym (zero-mul (bytes_for w))
length-written {w} (row {r = r} {rs = rs} a m) =
    length-append (pack r) (flat_map pack rs) ∙ ap₂ ◌+◌ (pack-length a) (length-written m)
    ∙ add_comm (bytes_for w) (length rs * bytes_for w) ∙ sym (suc-mul (length rs) (bytes_for w))

-- where the rows stand from row k on
module _ (w : ℕ) (public : List ℕ) where
  row_at_lem : (k : ℕ) {r : List ℕ} (rest : List ℕ) → Row w r → drop (k * bytes_for w) public ≡ pack r ++ rest → row_of w public k ≡ pack r
  unfolding row_of
  row_at_lem k {r} rest a h = ap (take (bytes_for w)) h ∙ take_at (pack r) rest (bytes_for w) (pack-length a)

  next_row : (k : ℕ) {r : List ℕ} (rest : List ℕ) → Row w r → drop (k * bytes_for w) public ≡ pack r ++ rest → drop (suc k * bytes_for w) public ≡ rest
  next_row k {r} rest a h =
      ap (λ (i : ℕ). drop i public) (suc-mul k (bytes_for w)) ∙ sym (drop-drop (bytes_for w) (k * bytes_for w) public)
      ∙ ap (drop (bytes_for w)) h ∙ drop_at (pack r) rest (bytes_for w) (pack-length a)

  rows_from : (k : ℕ) {rows : Matrix} → Rows w rows → drop (k * bytes_for w) public ≡ flat_map pack rows
      → map (λ i. unpack w (row_of w public i)) (from k (length rows)) ≡ rows
  unfolding flat_map from
  rows_from k none h = refl
  rows_from k (row {rs = rs} a m) h =
      let rest : List ℕ = flat_map pack rs in
      ap₂ (λ (x : List ℕ) (xs : Matrix). x ∷ xs) (ap (unpack w) (row_at_lem k rest a h) ∙ unpack-pack a) (rows_from (suc k) m (next_row k rest a h))

  fillers_from : (k : ℕ) {rows : Matrix} → Rows w rows → drop (k * bytes_for w) public ≡ flat_map pack rows
      → every (λ i. filler_clear w (row_of w public i)) (from k (length rows)) ≡ true
  unfolding flat_map from every
  fillers_from k none h = refl
  fillers_from k (row {r = r} {rs = rs} a m) h =
      let rest : List ℕ = flat_map pack rs in
      ap₂ ◌&&◌ (ap (filler_clear w) (row_at_lem k rest a h) ∙ well_formed-clear w (pack r) (well_formed-pack a)) (fillers_from (suc k) m (next_row k rest a h))

-- all rows, from row 0 on
from_start : (w : ℕ) (public : List ℕ) → drop (0 * bytes_for w) public ≡ public
from_start w public = ap (λ (i : ℕ). drop i public) (zero-mul (bytes_for w))

pub rows_written : {w : ℕ} {rows : Matrix} → Rows w rows → rows_of (length rows) w (flat_map pack rows) ≡ rows
unfolding rows_of
rows_written {w} {rows} m = rows_from w (flat_map pack rows) 0 m (from_start w (flat_map pack rows))

pub fillers_written : {w : ℕ} {rows : Matrix} → Rows w rows → every (λ i. filler_clear w (row_of w (flat_map pack rows) i)) (from 0 (length rows)) ≡ true
fillers_written {w} {rows} m = fillers_from w (flat_map pack rows) 0 m (from_start w (flat_map pack rows))

-- none of lock's conditions holds
accepts : (a b c d e f g h : Bool) → a ≡ true → b ≡ true → c ≡ true → d ≡ true → e ≡ true → f ≡ true → g ≡ true → h ≡ false
    → first_of ((not a, 1) ∷ (not b, 3) ∷ (not (c && d), 8) ∷ (not (e && f), 9) ∷ (not g, 12) ∷ (h, 10) ∷ []) ≡ 0
unfolding first_of
accepts a b c d e f g h p q r s t u v x = rw (p, q, r, s, t, u, v, x)

-- What an accepted lock writes, and that its pattern is well-formed and has t ones.
module _ (m n t : ℕ) (public pattern out : List ℕ) (e : lock_number m n t public pattern out ≡ 0) where
  pub output_written : lock_output m n t public pattern out ≡ over (lock m n t public pattern) out
  unfolding lock_output
  output_written = ap (λ (b : Bool). cond b (over (lock m n t public pattern) out) out) (eq-eqb (lock_number m n t public pattern out) 0 e)

  pub pattern_formed : (well_formed n pattern ≡ true) × (weight n pattern ≡ t)
  unfolding lock_number
  pattern_formed =
      let sizes = eqb (length public) (m * t * bytes_for (n - m * t)) in
      let fillers = every (λ r. filler_clear (n - m * t) (row_of (n - m * t) public r)) (from 0 (m * t)) in
      let c1 = first-clear _ 0 _ e in
      let c3 = first-clear _ 2 _ c1.1 in
      let c8 = first-clear (not (sizes && eqb (length pattern) (bytes_for n))) 7 _ c3.1 in
      let c9 = first-clear (not (fillers && filler_clear n pattern)) 8 _ c8.1 in
      let c12 = first-clear _ 11 _ c9.1 in (
        well_formed_lem n pattern
            (eqb-true _ _ (and_right sizes (eqb (length pattern) (bytes_for n)) (not-false _ c8.0)))
            (and_right fillers (filler_clear n pattern) (not-false _ c9.0)),
        eqb-true _ _ (not-false _ c12.0),
      )

-- Locking under the public key of an accepted key, as publish writes it.
module _ (k : Key) (rows : Matrix) (good : key_number k ≡ 0) (public : public_key k ≡ some rows) where
  written_rows : Rows (k.n - k.m * k.t) rows
  written_rows = public_rows k rows public (accepted k good).support_length

  -- the bytes of the public key
  pub public_size_lem : length (flat_map pack rows) ≡ k.m * k.t * bytes_for (k.n - k.m * k.t)
  public_size_lem = length-written written_rows ∙ ap (λ (i : ℕ). i * bytes_for (k.n - k.m * k.t)) (public_length k rows public)

  pub lock-written : (pattern : List ℕ) → lock k.m k.n k.t (flat_map pack rows) pattern ≡ pack (locked rows (unpack k.n pattern))
  unfolding lock
  lock-written pattern =
      ap (λ (x : Matrix). pack (locked x (unpack k.n pattern)))
      (ap (λ (i : ℕ). rows_of i (k.n - k.m * k.t) (flat_map pack rows)) (sym (public_length k rows public)) ∙ rows_written written_rows)

  -- a well-formed pattern with t ones is not refused
  pub lock_accepts : (pattern out : List ℕ) → well_formed k.n pattern ≡ true → weight k.n pattern ≡ k.t
      → bytes_for (k.m * k.t) ≤ length out → lock_number k.m k.n k.t (flat_map pack rows) pattern out ≡ 0
  unfolding lock_number
  lock_accepts pattern out formed count long =
      let w : ℕ = k.n - k.m * k.t in
      let a = accepted k good in
      let width : is_width k.m ≡ true = a.width in
      let limits : in_limits k.m k.n k.t ≡ true = limits_test k.m k.n k.t a.limits in
      let fillers = ap (λ (i : ℕ). every (λ r. filler_clear w (row_of w (flat_map pack rows) r)) (from 0 i)) (sym (public_length k rows public)) ∙ fillers_written written_rows in
      accepts (is_width k.m) (in_limits k.m k.n k.t) _ _ _ _ _ _
      width limits
      (eq-eqb (length (flat_map pack rows)) (k.m * k.t * bytes_for w) public_size_lem)
      (eq-eqb (length pattern) (bytes_for k.n) (well_formed-length k.n pattern formed))
      fillers (well_formed-clear k.n pattern formed) (eq-eqb (weight k.n pattern) k.t count) (le-ltb (length out) (bytes_for (k.m * k.t)) long)
