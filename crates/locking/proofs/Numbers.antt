-- Lock's numbers, in the order of their conditions. Assumes nothing.
use mathlib.Core.Path.{◌≡◌, sym, ap}
use mathlib.Core.Bool.{Bool, true, false, not, cond, ◌&&◌}
use mathlib.Core.List.{List}
use Prim.Native.Nat.{ℕ, ◌-◌, ◌*◌, ◌≤◌, ◌<◌}
use lib.Dec.{eqb, ltb}
use lib.ListN.{length}
use borrow.Author.Tests.{eq-eqb, ne_eqb, eqb-true, lt-ltb, le-ltb, ltb-false, not-false}
use Rattle.bits.specs.Bits.{from, every, bytes_for, weight, filler_clear, over}
use Rattle.bits.proofs.Lists.{and_left}
use Rattle.field.specs.Numbers.{first_of}
use Rattle.field.specs.Field.{is_width}
use Rattle.field.proofs.Numbers.{first-clear}
use Rattle.key.specs.Shapes.{in_limits}
use Rattle.key.proofs.Shapes.{limits}
use Rattle.key.proofs.Conditions.{limits_fit}
use Rattle.code.specs.Lock.{row_of, lock_number, lock_output}
use Rattle.code.specs.Lock as Lock

-- the bytes of the public key
abbrev pub public_size : ℕ → ℕ → ℕ → ℕ
public_size m n t = m * t * bytes_for (n - m * t)

-- the filler of every row of the public key is 0
abbrev pub fillers : ℕ → ℕ → ℕ → List ℕ → Bool
fillers m n t public = every (λ r. filler_clear (n - m * t) (row_of (n - m * t) public r)) (from 0 (m * t))

module _ (m n t : ℕ) (public pattern out : List ℕ) where
  pub lock_1 : is_width m ≡ false → 1 ≡ lock_number m n t public pattern out
  unfolding lock_number first_of
  lock_1 e = rw e

  module _ (a : is_width m ≡ true) where
    pub lock_3 : in_limits m n t ≡ false → 3 ≡ lock_number m n t public pattern out
    unfolding lock_number first_of
    lock_3 e = rw (a, e)

    module _ (b : in_limits m n t ≡ true) where
      pub lock_8_public : (length public ≡ public_size m n t → ⊥) → 8 ≡ lock_number m n t public pattern out
      unfolding lock_number first_of
      lock_8_public e = rw (a, b, ne_eqb (length public) (public_size m n t) e)

      module _ (c : length public ≡ public_size m n t) where
        pub lock_8_pattern : (length pattern ≡ bytes_for n → ⊥) → 8 ≡ lock_number m n t public pattern out
        unfolding lock_number first_of
        lock_8_pattern e = rw (a, b, eq-eqb (length public) (public_size m n t) c, ne_eqb (length pattern) (bytes_for n) e)

        module _ (d : length pattern ≡ bytes_for n) where
          pub lock_9_public : fillers m n t public ≡ false → 9 ≡ lock_number m n t public pattern out
          unfolding lock_number first_of
          lock_9_public e = rw (a, b, eq-eqb (length public) (public_size m n t) c, eq-eqb (length pattern) (bytes_for n) d, e)

          module _ (f : fillers m n t public ≡ true) where
            pub lock_9_pattern : filler_clear n pattern ≡ false → 9 ≡ lock_number m n t public pattern out
            unfolding lock_number first_of
            lock_9_pattern e = rw (a, b, eq-eqb (length public) (public_size m n t) c, eq-eqb (length pattern) (bytes_for n) d, f, e)

            module _ (g : filler_clear n pattern ≡ true) where
              pub lock_12 : (weight n pattern ≡ t → ⊥) → 12 ≡ lock_number m n t public pattern out
              unfolding lock_number first_of
              lock_12 e =
                  rw (a, b, eq-eqb (length public) (public_size m n t) c, eq-eqb (length pattern) (bytes_for n) d, f, g, ne_eqb (weight n pattern) t e)

              module _ (h : weight n pattern ≡ t) where
                pub lock_10 : length out < bytes_for (m * t) → 10 ≡ lock_number m n t public pattern out
                unfolding lock_number first_of
                lock_10 e =
                    rw (
                      a,
                      b,
                      eq-eqb (length public) (public_size m n t) c,
                      eq-eqb (length pattern) (bytes_for n) d,
                      f,
                      g,
                      eq-eqb (weight n pattern) t h,
                      lt-ltb (length out) (bytes_for (m * t)) e,
                    )

                pub lock_0 : bytes_for (m * t) ≤ length out → 0 ≡ lock_number m n t public pattern out
                unfolding lock_number first_of
                lock_0 e =
                    rw (
                      a,
                      b,
                      eq-eqb (length public) (public_size m n t) c,
                      eq-eqb (length pattern) (bytes_for n) d,
                      f,
                      g,
                      eq-eqb (weight n pattern) t h,
                      le-ltb (length out) (bytes_for (m * t)) e,
                    )

  -- what holds where nothing is refused
  pub record Fits : Type 0 where
    pub over : m * t < n
    pub small : n ≤ 8192
    pub public_size_lem : length public ≡ public_size m n t
    pub room : bytes_for (m * t) ≤ length out

  pub lock-fits : lock_number m n t public pattern out ≡ 0 → Fits
  unfolding lock_number
  lock-fits e =
      let f = first-clear (not (is_width m)) 0 _ e in
      let g = first-clear (not (in_limits m n t)) 2 _ f.1 in
      let h = first-clear (not (eqb (length public) (public_size m n t) && eqb (length pattern) (bytes_for n))) 7 _ g.1 in
      let i = first-clear (not (fillers m n t public && filler_clear n pattern)) 8 _ h.1 in
      let j = first-clear (not (eqb (weight n pattern) t)) 11 _ i.1 in
      let k = first-clear (ltb (length out) (bytes_for (m * t))) 9 _ j.1 in
      record {
        over = (limits m n t (not-false (in_limits m n t) g.0)).over;
        small = (limits_fit m n t (not-false (is_width m) f.0) (not-false (in_limits m n t) g.0)).0;
        public_size_lem = eqb-true (length public) (public_size m n t) (and_left (eqb (length public) (public_size m n t)) (eqb (length pattern) (bytes_for n)) (not-false _ h.0));
        room = ltb-false (length out) (bytes_for (m * t)) k.0;
      }

  -- the output where something is refused
  pub output_kept : (lock_number m n t public pattern out ≡ 0 → ⊥) → out ≡ lock_output m n t public pattern out
  unfolding lock_output
  output_kept z = ap (λ (b : Bool). cond b (over (Lock.lock m n t public pattern) out) out) (sym (ne_eqb (lock_number m n t public pattern out) 0 z))
