-- What the two tries find, and that it is the marked reading. Assumes nothing.
use mathlib.Core.Path.{◌≡◌, refl, sym, ap, ap₂, ◌∙◌, subst}
use mathlib.Core.Bool.{Bool, true, false, cond}
use mathlib.Core.List.{List}
use mathlib.Core.Option.{Option, none, some}
use Prim.Native.Nat.{ℕ, ◌+◌, ◌*◌, ◌≤◌, ◌<◌}
use native.Mathlib.Nat.{le_of_eq, le_trans}
use native.Mathlib.Omega.{arith}
use borrow.Author.Tests.{lt-leb, le-leb}
use lib.Dec.{leb}
use lib.ListN.{length}
use Rattle.bits.specs.Bits.{Row, unpack, ones, weight, well_formed, xor_row}
use Rattle.bits.proofs.Ones.{ones-le, weight-le}
use Rattle.bits.proofs.Pack.{row_unpack, unpack-xor_row, well_formed-length}
use Rattle.bits.proofs.Parts.{row_size}
use Rattle.bits.proofs.Rows.{length-xor_row}
use Rattle.field.specs.declared.Verdict.{Verdict}
use Rattle.field.specs.declared.Verdict.TheVariants as verdicts
use Rattle.key.specs.Keys.{key_number}
use Rattle.key.specs.Keys as Keys
use Rattle.key.specs.Kept.{kept}
use Rattle.key.specs.declared.kept.Key.{Key}
use Rattle.key.proofs.Accepted.{Accepted, accepted}
use Rattle.key.proofs.Conditions.{limits_fit}
use Rattle.key.proofs.Shapes.{limits_test}
use Rattle.decoder.specs.Reading.{reading}
use Rattle.decoder.specs.Search.{or_else}
use Rattle.decoder.proofs.Sanity.{reading_sound}
use Rattle.decoding.specs.Parts.{decoded_number, decoded, packed, nothing_of, found_of}
use Rattle.decoding.specs.declared.decoding.Found.{Found}
use Rattle.decoding.proofs.Packed.{length-packed, unpack-packed}
use Rattle.reading.proofs.Answered.{found-reading}
use Rattle.marks.specs.Marked.{differences, marked_reading}
use Rattle.marks.specs.Tries.{with_marked, within, tried, filled_reading, two_readings}
use Rattle.marks.proofs.Unmarked.{row_unmarked}
use Rattle.marks.proofs.Twice.{twice}
use Rattle.marked_reading.specs.Parts.{filled_row, within_found, differences_found, try_found, first_found, marked_found}
use Rattle.marked_reading.proofs.Cleared.{length-filled, unpack-filled}

-- d and s are at most n
pub differences-le : (n : ℕ) (marks p : List ℕ) {d : ℕ} → d ≡ differences (unpack n marks) (unpack n p) → d ≤ n
unfolding differences
differences-le n marks p e = le_trans (le_of_eq e) (ones-le (row_unmarked (row_unpack n p) (row_unpack n marks)))

pub marks_le : (n : ℕ) (marks : List ℕ) {s : ℕ} → s ≡ weight n marks → s ≤ n
marks_le n marks e = le_trans (le_of_eq e) (weight-le n marks)

-- a pattern p of n bits with d ones at unmarked places, and s marks
module _ (v : Verdict) (n t : ℕ) (marks p : List ℕ) {d s : ℕ}
    (ed : d ≡ differences (unpack n marks) (unpack n p)) (es : s ≡ weight n marks) where
  within_not : 2 * t < 2 * d + s → nothing_of v ≡ within_found v n t marks p
  unfolding within_found
  within_not l = rw (← ed, ← es, lt-leb (2 * d + s) (2 * t) l)

  within_found_lem : 2 * d + s ≤ 2 * t → record { verdict = v; found = true; ones = d; pattern = p } ≡ within_found v n t marks p
  unfolding within_found
  within_found_lem l = rw (← ed, ← es, le-leb (2 * d + s) (2 * t) l)

-- a pattern of the filled word, as the differences of the word
module _ (n t : ℕ) (filled word marks : List ℕ) (e : Found) where
  pub differences_none : e.found ≡ false → e ≡ differences_found n t filled word marks e
  unfolding differences_found
  differences_none h = rw h

  module _ (h : e.found ≡ true) {p : List ℕ} (ep : p ≡ xor_row (xor_row e.pattern filled) word) where
    by_within : within_found e.verdict n t marks p ≡ differences_found n t filled word marks e
    unfolding differences_found
    by_within = rw (h, ep)

    module _ {d s : ℕ} (ed : d ≡ differences (unpack n marks) (unpack n p)) (es : s ≡ weight n marks) where
      pub differences_many : 2 * t < 2 * d + s → nothing_of e.verdict ≡ differences_found n t filled word marks e
      differences_many l = within_not e.verdict n t marks p ed es l ∙ by_within

      pub differences_few : 2 * d + s ≤ 2 * t
          → record { verdict = e.verdict; found = true; ones = d; pattern = p } ≡ differences_found n t filled word marks e
      differences_few l = within_found_lem e.verdict n t marks p ed es l ∙ by_within

-- the try with the marked bits 1 or 0, as the code holds it
pub try_found_lem : (k : Key) (word marks : List ℕ) (one : Bool) {filled : List ℕ} {e : Found} → filled ≡ filled_row one word marks
    → e ≡ found_of (decoded_number (kept k) (unpack k.n filled)) (decoded (kept k) (unpack k.n filled))
    → differences_found k.n k.t filled word marks e ≡ try_found (kept k) word marks one
unfolding try_found kept
try_found_lem k word marks one {filled} ef ee =
    ap (differences_found k.n k.t filled word marks) ee
    ∙ ap (λ (f : List ℕ). differences_found k.n k.t f word marks
    (found_of (decoded_number (kept k) (unpack k.n f)) (decoded (kept k) (unpack k.n f)))) ef

-- the first of two, or the other
module _ (f g : Found) where
  keeps_refused : {x : ℕ} → f.verdict ≡ verdicts.Refused x → f ≡ first_found f.verdict f g
  unfolding first_found
  keeps_refused v = rw v

  module _ (v : f.verdict ≡ verdicts.Accepted) where
    keeps_found : f.found ≡ true → f ≡ first_found f.verdict f g
    unfolding first_found
    keeps_found h = rw (v, h)

    takes_other : f.found ≡ false → g ≡ first_found f.verdict f g
    unfolding first_found
    takes_other h = rw (v, h)

-- the tries as the code holds them
module _ (k : Keys.Key) (word marks : List ℕ) {f : Found} (e : f ≡ try_found k word marks false) where
  by_first : first_found f.verdict f (try_found k word marks true) ≡ marked_found k word marks
  unfolding marked_found
  by_first = ap (λ (x : Found). first_found x.verdict x (try_found k word marks true)) e

  pub first_refused : {x : ℕ} → f.verdict ≡ verdicts.Refused x → f ≡ marked_found k word marks
  first_refused v = keeps_refused f _ v ∙ by_first

  module _ (v : f.verdict ≡ verdicts.Accepted) where
    pub first_found_lem : f.found ≡ true → f ≡ marked_found k word marks
    first_found_lem h = keeps_found f _ v h ∙ by_first

    pub other_found : f.found ≡ false → try_found k word marks true ≡ marked_found k word marks
    other_found h = takes_other f _ v h ∙ by_first

-- f holds the pattern o of n bits, with its number of ones at unmarked places
pub data Gives (n : ℕ) (z : List ℕ) : Option (List ℕ) → Found → Type 0 where
  no_pattern : {f : Found} → f.verdict ≡ verdicts.Accepted → f.found ≡ false → Gives n z none f
  a_pattern : {f : Found} {p : List ℕ} → f.verdict ≡ verdicts.Accepted → f.found ≡ true → f.ones ≡ differences z p
      → unpack n f.pattern ≡ p → Gives n z (some p) f

gives-first : {n : ℕ} {z : List ℕ} {a b : Option (List ℕ)} {f g : Found} → Gives n z a f → Gives n z b g
    → Gives n z (or_else a b) (first_found f.verdict f g)
unfolding or_else
gives-first {f = f} {g = g} (no_pattern v h) y = subst (Gives _ _ _) (takes_other f g v h) y
gives-first {f = f} {g = g} (a_pattern v h d u) y = subst (Gives _ _ _) (keeps_found f g v h) (a_pattern v h d u)

gives-within : (k : Keys.Key) (n : ℕ) (marks p : List ℕ)
    → Gives n (unpack n marks) (within k (unpack n marks) (unpack n p)) (within_found verdicts.Accepted n k.t marks p)
unfolding within within_found weight nothing_of
gives-within k n marks p = go (leb (2 * d + ones (unpack n marks)) (2 * k.t))
  where
    d : ℕ
    d = differences (unpack n marks) (unpack n p)

    go : (b : Bool)
        → Gives n (unpack n marks) (cond b (some (unpack n p)) none)
        (cond b (record { verdict = verdicts.Accepted; found = true; ones = d; pattern = p }) (nothing_of verdicts.Accepted))
    go true = a_pattern refl refl refl refl
    go false = no_pattern refl refl

-- under a key that load accepts, a word and marks that are well formed
module _ (k : Key) (word marks : List ℕ) (h : key_number (kept k) ≡ 0)
    (fw : well_formed k.n word ≡ true) (fm : well_formed k.n marks ≡ true) where
  -- their bits, and the word with its marked bits filled
  abbrev w : List ℕ
  w = unpack k.n word

  abbrev z : List ℕ
  z = unpack k.n marks

  abbrev filled : Bool → List ℕ
  filled one = filled_row one word marks

  few_places : k.n ≤ 8192
  unfolding kept
  few_places =
      let A : Accepted (kept k) = accepted (kept k) h in
      (limits_fit k.m k.n k.t A.width (limits_test k.m k.n k.t A.limits)).0

  short : (row : List ℕ) → well_formed k.n row ≡ true → length row ≤ 1024
  short row f = omega (arith, well_formed-length k.n row f, row_size k.n few_places)

  unpack_with : (one : Bool) → unpack k.n (filled one) ≡ with_marked one w z
  unpack_with = unpack-filled word marks k.n (short word fw) (short marks fm)

  -- the bits of a pattern e of the filled word, with that word and the word added
  unpack-differences : (one : Bool) {e : List ℕ} → Row k.n e
      → unpack k.n (xor_row (xor_row (packed e) (filled one)) word) ≡ xor_row (xor_row e (with_marked one w z)) w
  unpack-differences one {e} r =
      let a : length (packed e) ≡ 1024 = length-packed r few_places in
      let b : length (filled one) ≡ 1024 = length-filled word marks one in
      let c : length (xor_row (packed e) (filled one)) ≡ length (packed e) = length-xor_row (packed e) (filled one) in
      unpack-xor_row k.n (xor_row (packed e) (filled one)) word (omega (arith, short word fw))
      ∙ ap (λ (x : List ℕ). xor_row x w)
      (unpack-xor_row k.n (packed e) (filled one) (omega arith) ∙ ap₂ xor_row (unpack-packed r) (unpack_with one))

  gives-tried : (one : Bool) (o : Option (List ℕ)) → reading (kept k) (with_marked one w z) ≡ o
      → Gives k.n z (tried (kept k) w z (with_marked one w z) o) (differences_found k.n k.t (filled one) word marks (found_of 0 o))
  unfolding tried differences_found found_of nothing_of kept
  gives-tried one none g = no_pattern refl refl
  gives-tried one (some e) g =
      let p : List ℕ = xor_row (xor_row (packed e) (filled one)) word in
      subst (λ (x : List ℕ). Gives k.n z (within (kept k) z x) (within_found verdicts.Accepted k.n k.t marks p))
      (unpack-differences one (reading_sound (kept k) (with_marked one w z) e g).bits) (gives-within (kept k) k.n marks p)

  gives_try : (one : Bool) → Gives k.n z (filled_reading (kept k) w z one) (try_found (kept k) word marks one)
  unfolding filled_reading
  gives_try one =
      let o : Option (List ℕ) = reading (kept k) (with_marked one w z) in
      let e = found-reading k (filled one) h refl ∙ ap (λ (x : List ℕ). found_of 0 (reading (kept k) x)) (unpack_with one) in
      subst (Gives k.n z (tried (kept k) w z (with_marked one w z) o))
      (ap (differences_found k.n k.t (filled one) word marks) (sym e) ∙ try_found_lem k word marks one refl refl) (gives-tried one o refl)

  -- the two tries find the marked reading
  pub gives-marked : Gives k.n z (marked_reading (kept k) w z) (marked_found (kept k) word marks)
  unfolding kept two_readings marked_found
  gives-marked =
      subst (λ (o : Option (List ℕ)). Gives k.n z o (marked_found (kept k) word marks))
      (sym (twice (kept k) (accepted (kept k) h) (row_unpack k.n word) (row_unpack k.n marks)))
      (gives-first (gives_try false) (gives_try true))
