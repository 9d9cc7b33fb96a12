-- GF(2^m) is a finite field: its elements are the numbers below 2^m, and each is its own power 2^m. Assumes nothing.
use mathlib.Core.Path.{◌≡◌, refl, sym, ap, ◌∙◌}
use Prim.Native.Nat.{ℕ, zero, suc, ◌^◌}
use native.Mathlib.Nat.{zero-add}
use native.Mathlib.Omega.{arith}
use native.Mathlib.Decide.{dec_lt}
use lib.Pow.{pow_pos}
use lib.ListN.{length, length-map, get_or-eq_default}
use Rattle.bits.specs.Bits.{from}
use Rattle.bits.proofs.Lists.{length_from, from_at}
use Rattle.field.specs.Field.{modulus_of}
use Rattle.field.proofs.Inverses.{square, frobenius}
use Rattle.field.proofs.Table.{Width, width_pos}
use Rattle.field.proofs.Laws.{mul_at, frobenius_power, power_all}
use Rattle.field.proofs.Gf.{Elem, elem_eq, val, times, laws, gf}
use Rattle.field.proofs.Arrays.{Elements, points, distinct_points}
use Rattle.algebra.proofs.Factor.{frob}
use Rattle.algebra.proofs.Berlekamp.{Finite}

module _ (m : ℕ) (W : Width m) where
  elements : Elements m (from 0 (2 ^ m))
  elements k = elim (dec_lt k (2 ^ m)) [
    | yes h ↦ rw (from_at 0 (2 ^ m) k 0 h, zero-add k) h
    | no h ↦ rw (get_or-eq_default (from 0 (2 ^ m)) 0 {n = k} (omega (arith, length_from 0 (2 ^ m)))) (pow_pos m)
  ]

  frob_frobenius : (k : ℕ) (x : Elem m) → (frob (laws m W) k x).0 ≡ frobenius m (modulus_of m) k x.0
  unfolding frob frobenius square times
  frob_frobenius zero x = refl
  frob_frobenius (suc k) x = mul_at m W _ _ ∙ ap (λ (a : ℕ). square m (modulus_of m) a) (frob_frobenius k x)

  pub finite : Finite (gf m W) m
  finite = record {
    points = points m (from 0 (2 ^ m));
    distinct = distinct_points m (from 0 (2 ^ m)) elements λ i j l h e.
        (let n : length (from 0 (2 ^ m)) ≡ 2 ^ m = length_from 0 (2 ^ m) in
        let z : i ≡ j = sym (from_at 0 (2 ^ m) i 0 (omega arith) ∙ zero-add i) ∙ e ∙ from_at 0 (2 ^ m) j 0 (omega arith) ∙ zero-add j in
        omega arith);
    size = length-map (from 0 (2 ^ m)) (val m) ∙ length_from 0 (2 ^ m);
    fermat = λ a. elem_eq m (frob_frobenius m a ∙ frobenius_power m W m a.1 ∙ power_all m W a.1);
    positive = width_pos m W;
  }
