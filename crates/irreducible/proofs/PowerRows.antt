-- The rows' powers: the first, by squares, and a row more. Assumes nothing.
use mathlib.Core.Path.{◌≡◌, refl, sym, ap, ap₂, ◌∙◌, subst}
use mathlib.Core.Logic.{inl}
use mathlib.Core.List.{List, ◌++◌}
use Prim.Native.Nat.{ℕ, suc, ◌+◌, ◌*◌, ◌≤◌, ◌<◌}
use native.Mathlib.Numerals.{add-one}
use native.Mathlib.Omega.{arith}
use native.Mathlib.Decide.{dec_lt}
use lib.ListN.{length, get_or, take, drop, set, replicate, length-append, length-drop, length-set, length-replicate}
use lib.Seq.{length-take-le, take_at}
use borrow.Rule.Slice.PartMut.{put_mid, same_len_mid}
use Rattle.bits.specs.Xor.{◌⊕◌}
use Rattle.bits.proofs.Bits.{zeros_at}
use Rattle.bits.proofs.Lists.{take_below}
use Rattle.bits.proofs.Xor.{zero_xor}
use Rattle.algebra.proofs.Ring.{ring}
use Rattle.algebra.proofs.Factor.{frob, frob_mul, poly_frob}
use Rattle.algebra.proofs.Rank.{power, monic-power}
use Rattle.algebra.proofs.Series as S
use Rattle.algebra.proofs.Series.{Series, operations}
use Rattle.field.proofs.Arrays.{Elements, poly, poly_below}
use Rattle.field.proofs.Gf.{Elem, gf, laws, one_elem, val_one}
use Rattle.field.proofs.Laws.{one_lt}
use Rattle.field.proofs.Table.{Width}
use Rattle.row_tables.specs.RowTable.{table_of}
use Rattle.irreducible.specs.Rows.{row_at}
use Rattle.irreducible.specs.Residues.{Same, ProductModulo, FirstPower, Powers}
use Rattle.irreducible.proofs.Rows.{room, put_same, put_other}
use Rattle.irreducible.proofs.Modulo.{power_poly, power-add, first, first_all, take-first, zeros_poly, zeros_elements, set_poly, set_elements, same_refl, same_trans, same_to, same-product}

-- x itself
abbrev x₀ : List ℕ
x₀ = set (replicate 128 0) 1 1

module _ (m : ℕ) (W : Width m) where
  open operations (laws m W) use {◌⊞◌, ◌⊠◌, O, C, X, series}

  infixl 65 ◌⊞◌
  infixl 70 ◌⊠◌
  as_sum : x₀ ≡ set (replicate 128 0) 1 (get_or (replicate 128 0) 1 0 ⊕ 1)
  as_sum = ap (set (replicate 128 0) 1) (sym (ap (λ (x : ℕ). x ⊕ 1) (zeros_at 128 1) ∙ zero_xor 1))

  long : 1 < length (replicate {A = ℕ} 128 0)
  long = omega (arith, length-replicate {A = ℕ} 128 0)

  x_poly : poly m x₀ ≡ power (gf m W) 1
  x_poly = ap (poly m) as_sum ∙ set_poly m W (replicate 128 0) 1 1 long ∙ ap₂ (λ u v. u ⊞ C v ⊠ power (gf m W) 1) (zeros_poly m W 128) (val_one m W) ∙ one (power (gf m W) 1)
    where
      one : (p : Series (Elem m)) → O ⊞ C (one_elem m W) ⊠ p ≡ p
      one p = let R = series in simp (ring, R)

  pub x_first : (n : ℕ) → 1 < n → poly m (take n x₀) ≡ power (gf m W) 1
  x_first n h = take-first m W n x₀ ∙ ap (first m W n) x_poly ∙ first_all m W n (power (gf m W) 1) (λ i k. (monic-power (gf m W) 1).below i (omega arith))

  pub x_elements : (n : ℕ) → Elements m (take n x₀)
  x_elements n = take_below _ n x₀ (subst (λ l. Elements m l) (sym as_sum) (set_elements m (replicate 128 0) 1 1 long (one_lt m W) (zeros_elements m 128)))

-- no square yet; one more
module _ (m : ℕ) (t : List ℕ) (n : ℕ) where
  pub first_none : 1 < n → FirstPower m t n 0 x₀
  unfolding frob
  first_none h = record {
    size = length-set {A = ℕ} (replicate 128 0) 1 1 ∙ length-replicate {A = ℕ} 128 0;
    same = λ W g e f. same_to m W g refl (sym (x_first m W n h)) (same_refl m W g (power (gf m W) 1));
    elements = λ W g e f. x_elements m W n;
  }

  pub first_next : (k : ℕ) (w y : List ℕ) → n ≤ 128 → FirstPower m t n k w → ProductModulo m t (take n w) (take n w) y → FirstPower m t n (k + 1) (y ++ drop n w)
  unfolding frob
  first_next k w y h a p =
      let z : length w ≡ 128 = a.size in
      let part : length (take n w) ≡ n = length-take-le n w (omega arith) in
      let size : length y ≡ n = p.size ∙ part in
      let back : take n (y ++ drop n w) ≡ y = take_at y (drop n w) n size in
      record {
        size = length-append y (drop n w) ∙ (let d = length-drop n w in omega arith);
        same = λ W g e f.
            same_to m W g (ap (λ (i : ℕ). frob (S.series (laws m W)) i (power (gf m W) 1)) (sym (add-one k))) (ap (poly m) (sym back))
            (same_trans m W g (same-product m W g (poly_frob (gf m W) k (power_poly m W 1)) (length (take n w), poly_below m W (take n w)) (a.same W g e f) (a.same W g e f)) (p.same W g (e ∙ sym part) f));
        elements = λ W g e f. subst (λ x. Elements m x) (sym back) (p.elements W g (e ∙ sym part) f);
      }

-- the next power
module _ (m : ℕ) (g : List ℕ) where
  pub record Row (r : ℕ) (w : List ℕ) : Type 0 where
    pub size : length w ≡ 128
    pub same : (W : Width m) → Same m W g (frob (S.series (laws m W)) m (power (gf m W) (suc r))) (poly m (take (length g) w))
    pub elements : (W : Width m) → Elements m (take (length g) w)

  pub row_first : (t w : List ℕ) → t ≡ table_of m g → FirstPower m t (length g) m w → Row 0 w
  row_first t w e a = record { size = a.size; same = λ W. a.same W g refl e; elements = λ W. a.elements W g refl e }

  pub row_next : (t : List ℕ) (r : ℕ) (v w y : List ℕ) → t ≡ table_of m g → length g ≤ 128 → Row 0 v → Row r w → ProductModulo m t (take (length g) w) (take (length g) v) y → Row (r + 1) (y ++ drop (length g) w)
  row_next t r v w y f h b a p =
      let n : ℕ = length g in
      let z : length w ≡ 128 = a.size in
      let part : length (take n w) ≡ n = length-take-le n w (omega arith) in
      let size : length y ≡ n = p.size ∙ part in
      let back : take n (y ++ drop n w) ≡ y = take_at y (drop n w) n size in
      record {
        size = length-append y (drop n w) ∙ (let d = length-drop n w in omega arith);
        same = λ W.
            (let e : suc r + 1 ≡ suc (r + 1) = omega arith in
            same_to m W g (sym (frob_mul (S.series (laws m W)) m (power (gf m W) (suc r)) (power (gf m W) 1)) ∙ ap (frob (S.series (laws m W)) m) (power-add m W (suc r) 1 ∙ ap (power (gf m W)) e)) (ap (poly m) (sym back))
            (same_trans m W g (same-product m W g (poly_frob (gf m W) m (power_poly m W (suc r))) (length (take n v), poly_below m W (take n v)) (a.same W) (b.same W)) (p.same W g (sym part) f)));
        elements = λ W. subst (λ x. Elements m x) (sym back) (p.elements W g (sym part) f);
      }

  -- no row yet; one more
  pub powers_none : (l : List ℕ) → length l ≡ 16384 → Powers m g 0 l
  powers_none l z = record { size = z; residue = λ W r h. absurd (omega arith); elements = λ W r h. absurd (omega arith) }

  pub powers_next : (r : ℕ) (w l : List ℕ) → length g ≤ 128 → r < length g → Row r w → Powers m g r l → Powers m g (r + 1) (put_mid (r * length g) (length g) l (take (length g) w))
  powers_next r w l h k a p =
      let n : ℕ = length g in
      let z : length w ≡ 128 = a.size in
      let part : length (take n w) ≡ n = length-take-le n w (omega arith) in
      let rm : r * n + n ≤ length l = room n r l h p.size k in
      let same : row_at n (put_mid (r * n) n l (take n w)) r ≡ take n w = put_same n r l (take n w) rm part in
      let other : (q : ℕ) → q < r → row_at n (put_mid (r * n) n l (take n w)) q ≡ row_at n l q = (λ q b. put_other n r l (take n w) rm part q (inl b)) in
      record {
        size = same_len_mid (r * n) n l (take n w) (part ∙ sym (row_size n r l rm)) ∙ p.size;
        residue = λ W q b. elim (dec_lt q r) [
          | yes c ↦ same_to m W g refl (ap (poly m) (sym (other q c))) (p.residue W q c)
          | no c ↦ (let e : r ≡ q = omega arith in
              subst (λ (q : ℕ). Same m W g (frob (S.series (laws m W)) m (power (gf m W) (suc q))) (poly m (row_at n (put_mid (r * n) n l (take n w)) q))) e (same_to m W g refl (ap (poly m) (sym same)) (a.same W)))
        ];
        elements = λ W q b. elim (dec_lt q r) [
          | yes c ↦ subst (λ x. Elements m x) (sym (other q c)) (p.elements W q c)
          | no c ↦ (let e : r ≡ q = omega arith in subst (λ (q : ℕ). Elements m (row_at n (put_mid (r * n) n l (take n w)) q)) e (subst (λ x. Elements m x) (sym same) (a.elements W)))
        ];
      }
    where
      row_size : (n r : ℕ) (l : List ℕ) → r * n + n ≤ length l → length (take n (drop (r * n) l)) ≡ n
      row_size n r l h = length-take-le n (drop (r * n) l) (omega (arith, length-drop (r * n) l))
