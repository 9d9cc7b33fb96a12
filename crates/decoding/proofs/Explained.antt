-- The check of the places found, and the kept key. Assumes nothing.
use mathlib.Core.Path.{◌≡◌, refl, sym, ap, ap₂, ◌∙◌}
use mathlib.Core.Logic.{◌⊎◌, inl}
use mathlib.Core.Bool.{Bool, true, false, cond, ◌&&◌, true≢false}
use mathlib.Core.List.{List, []}
use mathlib.Core.Option.{Option, none, some}
use Prim.Native.Nat.{ℕ, zero, suc, ◌*◌, ◌≤◌, ◌<◌}
use native.Mathlib.Nat.{le_of_suc-le-suc}
use native.Mathlib.Omega.{arith}
use lib.Dec.{leb}
use lib.ListN.{length, take}
use lib.Seq.{length-take-le}
use lib.Pow.{pow_mono}
use borrow.Author.Tests.{lt-leb, le-leb, leb-true, leb-false}
use Rattle.bits.specs.Bits.{Row, every, unpack, ones, weight, padded}
use Rattle.bits.proofs.Lists.{and_left, and_right}
use Rattle.bits.proofs.Pack.{row_unpack}
use Rattle.field.specs.Field.{is_width, is_element}
use Rattle.field.specs.Answers.{inverse_number}
use Rattle.field.specs.Verdicts.{verdict_of}
use Rattle.field.specs.declared.Verdict.{Verdict}
use Rattle.field.specs.declared.Verdict.TheVariants as variants
use Rattle.field.proofs.Verdicts.{refuses, accepts, verdict_refused}
use Rattle.field.proofs.Table.{width_narrow}
use Rattle.field.proofs.Units.{units_number, inverse_numbers}
use Rattle.poly.specs.Polynomials.{same}
use Rattle.poly.specs.Register.{register}
use Rattle.poly.proofs.Answers.{accepted as accepted-list}
use Rattle.poly.proofs.Laws.{same_eq, eq_same}
use Rattle.key.specs.Keys.{key_number, key_of}
use Rattle.key.specs.Keys as Keys
use Rattle.key.specs.Kept.{kept}
use Rattle.key.specs.declared.kept.Key.{Key}
use Rattle.key.proofs.Accepted.{Accepted, accepted}
use Rattle.key.proofs.Units.{goppa_units}
use Rattle.key.proofs.Parts.{key_of-parts}
use Rattle.decoder.specs.Reading.{reading}
use Rattle.decoder.specs.Decoding.{square_sums, places, located, explained}
use Rattle.decoder.proofs.Sums.{length-square_sums, square_sums-number}
use Rattle.decoder.proofs.Decoding.{row_places, row_located, explained_some, explained_none, reading-explained}
use Rattle.decoding.specs.Parts.{sums_of, divisors, decoded_divisors, decoded_number, decoded, packed, nothing_of, found_of, found_by, candidate_of, settled_of}
use Rattle.decoding.specs.declared.sums.Sums.{Sums}
use Rattle.decoding.specs.declared.decoding.Found.{Found}
use Rattle.bits.proofs.Padded.{take-padded}
use Rattle.decoding.proofs.Packed.{unpack-packed, weight-packed}
use Rattle.decoding.proofs.Divisors.{number_word, number_many, number_few, divisors_units, sums_verdict, sums_given}

-- the verdict is the number's
pub found_verdict : (q : ℕ) (o : Option (List ℕ)) {f : Found} → f ≡ found_of q o → f.verdict ≡ verdict_of q
unfolding found_of nothing_of
found_verdict (suc q) o e = ap (λ (f : Found). f.verdict) e ∙ refuses refl
found_verdict zero none e = ap (λ (f : Found). f.verdict) e ∙ accepts refl
found_verdict zero (some p) e = ap (λ (f : Found). f.verdict) e ∙ accepts refl

-- nothing found, and a refusal
found_nothing : {q : ℕ} {o : Option (List ℕ)} → q ≡ 0 → o ≡ none → nothing_of variants.Accepted ≡ found_of q o
unfolding found_of
found_nothing z h = rw (z, h)

pub found_refused : (q : ℕ) (o : Option (List ℕ)) {v : Verdict} {x : ℕ} → v ≡ verdict_of q → v ≡ variants.Refused x → nothing_of v ≡ found_of q o
unfolding found_of
found_refused zero o e h = absurd (verdict_refused 0 e h refl)
found_refused (suc q) o e h = ap nothing_of (e ∙ sym (refuses refl))

-- the places that the register of the sums w gives
module _ (m : ℕ) (support : List ℕ) (t : ℕ) (w : Sums) where
  abbrev first_sums : List ℕ
  first_sums = take (2 * t) w.s

  abbrev found-places : List ℕ
  found-places = places (key_of m support []) (register m first_sums)

  pub candidate_refused : {x : ℕ} → w.verdict ≡ variants.Refused x → nothing_of w.verdict ≡ candidate_of m support t w
  unfolding candidate_of found_by
  candidate_refused h = rw h

  module _ (ea : w.verdict ≡ variants.Accepted) where
    pub candidate_outside : (is_width m && leb (length support) 8192 && leb t 128) ≡ false → nothing_of variants.Accepted ≡ candidate_of m support t w
    unfolding candidate_of found_by found_of
    candidate_outside h = rw (ea, h)

    module _ (inside : (is_width m && leb (length support) 8192 && leb t 128) ≡ true) where
      pub candidate_no_element : every (is_element m) first_sums ≡ false → nothing_of variants.Accepted ≡ candidate_of m support t w
      unfolding candidate_of found_by found_of
      candidate_no_element h = rw (ea, inside, h)

      -- as the code holds them
      module _ (all : every (is_element m) first_sums ≡ true) {pattern : List ℕ} {i : ℕ} (ep : pattern ≡ packed found-places) (ei : i ≡ weight (length support) pattern) where
        number-ones : i ≡ ones found-places
        unfolding key_of
        number-ones = ei ∙ ap (weight (length support)) ep ∙ weight-packed (row_places (key_of m support []) refl (register m first_sums))

        pub candidate_many : t < i → nothing_of variants.Accepted ≡ candidate_of m support t w
        unfolding candidate_of found_by found_of
        candidate_many h = rw (ea, inside, all, lt-leb (ones found-places) t (rw (sym number-ones) h))

        pub candidate_few : i ≤ t → ◌≡◌ {A = Found} record { verdict = variants.Accepted; found = true; ones = i; pattern = pattern } (candidate_of m support t w)
        unfolding candidate_of found_by found_of
        candidate_few h = rw (ea, inside, all, le-leb (ones found-places) t (rw (sym number-ones) h), number-ones, ep)

-- what is found, by its own sums
module _ (f : Found) (w own : Sums) where
  pub settled_refused : {x : ℕ} → own.verdict ≡ variants.Refused x → nothing_of own.verdict ≡ settled_of f w own
  unfolding settled_of found_by
  settled_refused h = rw h

  module _ (ea : own.verdict ≡ variants.Accepted) where
    pub settled_other : same own.s w.s ≡ false → nothing_of variants.Accepted ≡ settled_of f w own
    unfolding settled_of found_by
    settled_other h = rw (ea, h)

    pub settled_same : same own.s w.s ≡ true → f ≡ settled_of f w own
    unfolding settled_of found_by
    settled_same h = rw (ea, h)

-- the sums w of a word, and what is found by them
module _ (m : ℕ) (support g : List ℕ) (pre : (is_width m ≡ true) × (length support ≤ 8192) × (length g ≤ 128)) (word : List ℕ) where
  abbrev k : Keys.Key
  k = key_of m support g

  abbrev c : List ℕ
  c = unpack (length support) word

  abbrev sums_for : List ℕ → Sums
  sums_for w = sums_of (inverse_number m (divisors k w)) (square_sums k w)

  -- what is to be found
  abbrev answer : Found
  answer = found_of (inverse_number m (decoded_divisors k c)) (explained k c)

  sums_whole : (w : List ℕ) → take (2 * length g) (padded 256 (square_sums k w)) ≡ square_sums k w
  unfolding key_of
  sums_whole w = take-padded 256 (square_sums k w) (2 * length g) (length-square_sums k w)

  sums_elements : every (is_element m) (square_sums k c) ≡ true
  unfolding key_of
  sums_elements = (accepted-list m (square_sums k c) (square_sums-number k (row_unpack (length support) word) pre.0 pre.2)).2

  module _ {w : Sums} {f : Found} (ew : w ≡ sums_for c) (ef : f ≡ candidate_of m support (length g) w) where
    -- by the number x of the word's divisors
    located_by : (x : ℕ) → f ≡ candidate_of m support (length g) (sums_of x (square_sums k c))
        → f ≡ found_of x (cond (leb (ones (located k c)) (length g)) (some (located k c)) none)
    unfolding candidate_of found_by found_of sums_of located places key_of
    located_by zero e =
        e ∙ rw (sym (accepts {q = 0} refl), pre.0, le-leb (length support) 8192 pre.1, le-leb (length g) 128 pre.2, sums_whole c, sums_elements)
    located_by (suc x) e = e ∙ rw (sym (refuses {x = x} refl))

    located-found : f ≡ found_of (inverse_number m (divisors k c)) (cond (leb (ones (located k c)) (length g)) (some (located k c)) none)
    located-found = located_by _ (ef ∙ ap (candidate_of m support (length g)) ew)

    -- nothing is found
    pub found_none : f.found ≡ false → f ≡ answer
    unfolding found_of nothing_of key_of
    found_none h = go (inverse_number m (divisors k c)) (leb (ones (located k c)) (length g)) refl refl located-found
      where
        go : (x : ℕ) (b : Bool) → inverse_number m (divisors k c) ≡ x → leb (ones (located k c)) (length g) ≡ b
            → f ≡ found_of x (cond b (some (located k c)) none) → f ≡ answer
        go zero true ex eb e = absurd (true≢false (sym (ap (λ (f : Found). f.found) e) ∙ h))
        go zero false ex eb e =
            let n : length g < ones (located k c) = leb-false (ones (located k c)) (length g) eb in
            e ∙ found_nothing (number_many k c ex n) (explained_none k c (λ least same. omega arith))
        go (suc x) b ex eb e = e ∙ ap (λ (q : ℕ). found_of q (explained k c)) (sym (number_word k c (λ z. omega arith) ∙ ex))

    -- places are found
    found-located : f.found ≡ true → (inverse_number m (divisors k c) ≡ 0) × (ones (located k c) ≤ length g) × (f ≡ found_of 0 (some (located k c)))
    unfolding found_of nothing_of
    found-located h = go (inverse_number m (divisors k c)) (leb (ones (located k c)) (length g)) refl refl located-found
      where
        go : (x : ℕ) (b : Bool) → inverse_number m (divisors k c) ≡ x → leb (ones (located k c)) (length g) ≡ b
            → f ≡ found_of x (cond b (some (located k c)) none)
            → (inverse_number m (divisors k c) ≡ 0) × (ones (located k c) ≤ length g) × (f ≡ found_of 0 (some (located k c)))
        go zero true ex eb e = (ex, leb-true (ones (located k c)) (length g) eb, e)
        go zero false ex eb e = absurd (true≢false (sym h ∙ ap (λ (f : Found). f.found) e))
        go (suc x) b ex eb e = absurd (true≢false (sym h ∙ ap (λ (f : Found). f.found) e))

    -- and their own sums o decide
    module _ (h : f.found ≡ true) {o : Sums} (eo : o ≡ sums_for (unpack (length support) f.pattern)) where
      row : Row (length support) (located k c)
      unfolding key_of
      row = row_located k refl c

      own : o ≡ sums_for (located k c)
      unfolding found_of
      own = eo ∙ ap sums_for (ap (λ (f : Found). unpack (length support) f.pattern) (found-located h).2 ∙ unpack-packed row)

      number : inverse_number m (decoded_divisors k c) ≡ inverse_number m (divisors k (located k c))
      unfolding key_of
      number = number_few k c (found-located h).0 (found-located h).1

      module _ (z : inverse_number m (divisors k (located k c)) ≡ 0) where
        es : w.s ≡ padded 256 (square_sums k c)
        es = sums_given _ _ ew (found-located h).0

        own_sums : o.s ≡ padded 256 (square_sums k (located k c))
        own_sums = sums_given _ _ own z

        by_sums : (b : Bool) → same o.s w.s ≡ b → cond b f (nothing_of variants.Accepted) ≡ answer
        unfolding key_of
        by_sums true e =
            (found-located h).2
            ∙ ap₂ found_of (sym (number ∙ z)) (sym (explained_some k c (found-located h).1
            (sym (sums_whole (located k c)) ∙ ap (take (2 * length g)) (sym own_sums ∙ same_eq o.s w.s e ∙ es) ∙ sums_whole c)))
        by_sums false e =
            found_nothing (number ∙ z) (explained_none k c (λ l q.
            true≢false (sym (eq_same o.s w.s (own_sums ∙ ap (padded 256) q ∙ sym es)) ∙ e)))

      own_verdict : o.verdict ≡ verdict_of (inverse_number m (divisors k (located k c)))
      own_verdict = sums_verdict _ _ own

      pub found_settled : settled_of f w o ≡ answer
      unfolding settled_of found_by found_of
      found_settled = go (inverse_number m (divisors k (located k c))) refl own_verdict
        where
          go : (y : ℕ) → inverse_number m (divisors k (located k c)) ≡ y → o.verdict ≡ verdict_of y → settled_of f w o ≡ answer
          go zero ey e = rw (e ∙ sym (accepts refl)) (by_sums ey (same o.s w.s) refl)
          go (suc y) ey e = rw (e ∙ sym (refuses refl)) (ap (λ (q : ℕ). found_of q (explained k c)) (sym (number ∙ ey)))

-- 32 is the only refusal
pub decoded-numbers : (k : Keys.Key) (w : List ℕ) → (decoded_number k w ≡ 0) ⊎ (decoded_number k w ≡ 32)
unfolding decoded_number
decoded-numbers k w = go (is_width k.m) (leb k.n 8192) (leb k.t 128) refl
  where
    q : ℕ
    q = inverse_number k.m (decoded_divisors k w)

    go : (a b c : Bool) → is_width k.m ≡ a → let x : ℕ = cond (a && b && c) q 0 in (x ≡ 0) ⊎ (x ≡ 32)
    go false b c e = inl refl
    go true false c e = inl refl
    go true true false e = inl refl
    go true true true e = inverse_numbers k.m (decoded_divisors k w) e

-- m is a width, and n and t are at most the arrays' lengths
module _ (m n t : ℕ) where
  pub in_limits_lem : (is_width m && leb n 8192 && leb t 128) ≡ true → (is_width m ≡ true) × (n ≤ 8192) × (t ≤ 128)
  in_limits_lem e =
      let l : (is_width m && leb n 8192) ≡ true = and_left (is_width m && leb n 8192) (leb t 128) e in (
        and_left (is_width m) (leb n 8192) l,
        leb-true n 8192 (and_right (is_width m) (leb n 8192) l),
        leb-true t 128 (and_right (is_width m && leb n 8192) (leb t 128) e),
      )

-- a kept key by its numbers
module _ (k : Key) (word : List ℕ) where
  abbrev inside : Bool
  inside = is_width k.m && leb k.n 8192 && leb k.t 128

  abbrev decodes : Found
  decodes = found_of (decoded_number (kept k) (unpack k.n word)) (decoded (kept k) (unpack k.n word))

  pub decoded_outside : inside ≡ false → nothing_of variants.Accepted ≡ decodes
  unfolding decoded_number decoded found_of kept
  decoded_outside h = rw h

  decoded-explained : inside ≡ true → decoded (kept k) (unpack k.n word) ≡ explained (kept k) (unpack k.n word)
  unfolding decoded kept
  decoded-explained h = rw h

  number-explained : inside ≡ true → decoded_number (kept k) (unpack k.n word) ≡ inverse_number k.m (decoded_divisors (kept k) (unpack k.n word))
  unfolding decoded_number kept
  number-explained h = rw h

  -- by its arrays' first n and t numbers
  module _ (h : inside ≡ true) (places : length k.support ≡ 8192) (errors : length k.g ≡ 128) where
    pub lent_places : length (take k.n k.support) ≡ k.n
    lent_places = let l = in_limits_lem k.m k.n k.t h in length-take-le k.n k.support (omega arith)

    pub lent_errors : length (take k.t k.g) ≡ k.t
    lent_errors = let l = in_limits_lem k.m k.n k.t h in length-take-le k.t k.g (omega arith)

    pub lent_limits : (is_width k.m ≡ true) × (length (take k.n k.support) ≤ 8192) × (length (take k.t k.g) ≤ 128)
    lent_limits = let l = in_limits_lem k.m k.n k.t h in (l.0, omega (arith, lent_places), omega (arith, lent_errors))

    pub lent_found : {f : Found}
        → f ≡ (let x = key_of k.m (take k.n k.support) (take k.t k.g) in let c = unpack (length (take k.n k.support)) word in found_of (inverse_number k.m (decoded_divisors x c)) (explained x c))
        → f ≡ decodes
    lent_found e =
        e
        ∙ ap₂ (λ (x : Keys.Key) (i : ℕ). found_of (inverse_number k.m (decoded_divisors x (unpack i word))) (explained x (unpack i word))) (key_of-parts k lent_places lent_errors) lent_places
        ∙ sym (ap₂ found_of (number-explained h) (decoded-explained h))

  -- a key that load accepts is inside
  accepted_inside : Accepted (kept k) → inside ≡ true
  unfolding kept
  accepted_inside A =
      let f : k.n ≤ 8192 = omega (arith, A.limits.fits, pow_mono (le_of_suc-le-suc (width_narrow k.m A.width))) in
      rw (A.width, le-leb k.n 8192 f, le-leb k.t 128 A.limits.few)

  -- g has no root in its support, so that decoding does not divide by 0
  pub decoded_divides : key_number (kept k) ≡ 0 → decoded_number (kept k) (unpack k.n word) ≡ 0
  unfolding kept
  decoded_divides z =
      let A : Accepted (kept k) = accepted (kept k) z in
      number-explained (accepted_inside A)
      ∙ units_number k.m _ A.width (divisors_units (kept k) (goppa_units (kept k) A) (unpack k.n word))

  -- and decoding finds what reading does
  pub decoded-reading : key_number (kept k) ≡ 0 → decoded (kept k) (unpack k.n word) ≡ reading (kept k) (unpack k.n word)
  unfolding kept
  decoded-reading z =
      let A : Accepted (kept k) = accepted (kept k) z in
      decoded-explained (accepted_inside A) ∙ sym (reading-explained (kept k) A (row_unpack k.n word))
