-- Products and residues as the loops make them. Assumes nothing.
use mathlib.Core.Path.{◌≡◌, refl, sym, ap, ap₂, ◌∙◌, subst}
use mathlib.Core.List.{List, [], ◌∷◌, ◌++◌, map}
use Prim.Native.Nat.{ℕ, zero, suc, ◌+◌, ◌-◌, ◌^◌, ◌≤◌, ◌<◌}
use native.Mathlib.Nat.{suc_inj}
use native.Mathlib.Numerals.{add-one}
use native.Mathlib.Omega.{arith}
use lib.ListN.{length, get_or, take, drop, set, replicate, length-set, length-map, length-drop, length-append, length-replicate, get_or-append}
use lib.Seq.{length-take-le, take_all, take-append-le}
use borrow.Rule.Slice.PartMut.{put_mid, mid_of, same_len_mid}
use Rattle.bits.specs.Xor.{◌⊕◌}
use Rattle.bits.specs.Bits.{each_with, xor_row, padded}
use Rattle.bits.proofs.Padded.{take-padded}
use Rattle.bits.proofs.Xor.{xor-zero}
use Rattle.bits.proofs.Lists.{cons_eq, take_below}
use Rattle.bits.proofs.Each.{take-each_with}
use Rattle.bits.proofs.Rows.{length-xor_row, xor_row-nil}
use Rattle.algebra.proofs.Ring.{Ring, ring}
use Rattle.algebra.proofs.Field.{Field}
use Rattle.algebra.proofs.Factor.{div}
use Rattle.algebra.proofs.Poly.{Below, poly_C, poly_mul_lem, below_mul}
use Rattle.algebra.proofs.Rank.{power}
use Rattle.algebra.proofs.Series as S
use Rattle.algebra.proofs.Series.{Series, operations, C-mul, shift, shift_mul}
use Rattle.field.specs.Field.{mul}
use Rattle.field.specs.Poly.{horner_each}
use Rattle.field.proofs.Arrays.{Elements, elements-xor, elements_shifted, poly, poly_below, poly_xor, poly_scale, poly_shift}
use Rattle.field.proofs.Gf.{Elem, gf, laws, plus, times, zero_elem, one_elem, val, val-mul}
use Rattle.field.proofs.Laws.{mul-lt}
use Rattle.field.proofs.Places.{length-horner_each, horner_each-at}
use Rattle.field.proofs.Table.{Width}
use Rattle.row_tables.specs.RowTable.{table_of, add_multiple}
use Rattle.row_tables.proofs.RowTable.{add_multiple_row, length-add_multiple}
use Rattle.irreducible.specs.Residues.{Same, Product, Reduced, Residue, ProductModulo}
use Rattle.irreducible.proofs.Modulo.{power_shift, power_poly, power-add, first, first_all, take-first, zeros_poly, zeros_elements, set_poly, set_elements, same_refl, same_trans, same_to, monic-split}

-- a row added to a part is the row with zeros before it added to the whole
front : (n : ℕ) (b v : List ℕ) → length v ≡ n → xor_row (take n b) v ++ drop n b ≡ xor_row b v
unfolding xor_row each_with
front zero b [] e = sym (xor_row-nil b)
front zero b (y ∷ v) e = absurd (omega arith)
front (suc n) [] v e = refl
front (suc n) (x ∷ b) [] e = absurd (omega arith)
front (suc n) (x ∷ b) (y ∷ v) e = cons_eq refl (front n b v (suc_inj e))

put-xor : (j n : ℕ) (b v : List ℕ) → length v ≡ n → j ≤ length b → put_mid j n b (xor_row (mid_of j n b) v) ≡ xor_row b (replicate j 0 ++ v)
unfolding xor_row each_with
put-xor zero n b v e h = front n b v e
put-xor (suc j) n [] v e h = absurd (omega arith)
put-xor (suc j) n (x ∷ b) v e h = cons_eq (sym (xor-zero x)) (put-xor j n b v e (omega arith))

module _ (m : ℕ) (W : Width m) where
  open operations (laws m W) use {◌⊞◌, ◌⊠◌, O, C, X, series}

  infixl 65 ◌⊞◌
  infixl 70 ◌⊠◌
  abbrev L : Ring (zero_elem m) (one_elem m W) (plus m) (times m)
  L = laws m W

  abbrev K : Field
  K = gf m W

  shift_power : (j : ℕ) (p : Series (Elem m)) → shift L j p ≡ power K j ⊠ p
  shift_power j p = sym (ap (λ x. x ⊠ p) (power_shift m W j) ∙ shift_mul L j (C (one_elem m W)) p ∙ ap (shift L j) (one p))
    where
      one : (p : Series (Elem m)) → C (one_elem m W) ⊠ p ≡ p
      one p = let R = series in simp (ring, R)

  -- c·y added from place j on
  module _ (y : List ℕ) (small : length y ≤ 128) (c j : ℕ) where
    abbrev terms : List ℕ
    terms = replicate j 0 ++ map (mul m c) y

    length_terms : length terms ≡ j + length y
    length_terms = length-append (replicate j 0) (map (mul m c) y) ∙ ap₂ ◌+◌ (length-replicate {A = ℕ} j 0) (length-map y (mul m c))

    terms_poly : (l : List ℕ) → j + length y ≤ length l → poly m (xor_row l terms) ≡ poly m l ⊞ C (val m c) ⊠ (power K j ⊠ poly m y)
    terms_poly l h =
        poly_xor m W l terms (omega (arith, length_terms))
        ∙ ap (λ x. poly m l ⊞ x) (poly_shift m W j (map (mul m c) y) ∙ ap (shift L j) (poly_scale m W c y) ∙ shift_power j _ ∙ swap (power K j) (C (val m c)) (poly m y))
      where
        swap : (a b d : Series (Elem m)) → a ⊠ (b ⊠ d) ≡ b ⊠ (a ⊠ d)
        swap a b d = let R = series in simp (ring, R)

    module _ (b : List ℕ) (room : j + length y ≤ length b) where
      abbrev placed : List ℕ
      placed = put_mid j (length y) b (add_multiple (table_of m y) c (mid_of j (length y) b))

      placed_terms : placed ≡ xor_row b terms
      placed_terms =
          let e : length (mid_of j (length y) b) ≡ length y = length-take-le (length y) (drop j b) (omega (arith, length-drop j b)) in
          ap (put_mid j (length y) b) (add_multiple_row m W y c (mid_of j (length y) b) e (omega arith))
          ∙ put-xor j (length y) b (map (mul m c) y) (length-map y (mul m c)) (omega arith)

      pub placed-size : length placed ≡ length b
      placed-size = ap length placed_terms ∙ length-xor_row b terms

      pub placed-elements : Elements m b → Elements m placed
      placed-elements E = subst (λ x. Elements m x) (sym placed_terms) (elements-xor m b terms E (elements_shifted m c j y))

      pub placed_poly : poly m placed ≡ poly m b ⊞ C (val m c) ⊠ (power K j ⊠ poly m y)
      placed_poly = ap (poly m) placed_terms ∙ terms_poly b room

      -- its lower coefficients
      pub placed_first : poly m (take (j + length y) placed) ≡ poly m (take (j + length y) b) ⊞ C (val m c) ⊠ (power K j ⊠ poly m y)
      unfolding xor_row
      placed_first =
          let i : ℕ = j + length y in
          let e : length (take i b) ≡ i = length-take-le i b room in
          ap (λ x. poly m (take i x)) placed_terms ∙ ap (poly m) (take-each_with ◌⊕◌ i b terms) ∙ terms_poly (take i b) (omega arith)

  -- one coefficient fewer
  module _ (g : List ℕ) (small : length g ≤ 128) (s : ℕ) (b : List ℕ) (room : s + length g < length b) where
    abbrev j : ℕ
    j = s + length g

    abbrev c : ℕ
    c = get_or b j 0

    pub reduce_step : Same m W g (poly m (take (suc j) b)) (poly m (take j (placed g small c s b (omega arith))))
    unfolding first
    reduce_step = record {
      by = div K (C (val m c) ⊠ power K s) (poly_mul_lem L (poly_C L (val m c)) (power_poly m W s))
          (ap₂ ◌⊞◌ (take-first m W (suc j) b ∙ ap₂ (λ x y. x ⊞ C (val m c) ⊠ y) (sym (take-first m W j b)) (sym (power-add m W s (length g)))) (placed_first g small c s b (omega arith))
          ∙ shape (poly m (take j b)) (C (val m c)) (power K s) (power K (length g)) (poly m g)
          ∙ ap (λ x. x ⊠ (C (val m c) ⊠ power K s)) (sym (monic-split m W g)));
    }
      where
        shape : (f c x y g : Series (Elem m)) → (f ⊞ c ⊠ (x ⊠ y)) ⊞ (f ⊞ c ⊠ (x ⊠ g)) ≡ (g ⊞ y) ⊠ (c ⊠ x)
        shape f c x y g = let R = series in simp (ring, R)

  pub take-low : (z : ℕ) (b : List ℕ) → Below L z (poly m b) → poly m (take z b) ≡ poly m b
  take-low z b h = take-first m W z b ∙ first_all m W z (poly m b) h

-- the loop of `reduce`: none yet; one coefficient fewer
pub reduced_none : (t : List ℕ) (n : ℕ) (l : List ℕ) → length l ≡ n + n → Reduced t n (n + n) l l
reduced_none t n l e = record {
  size = refl;
  same = λ m W g f h. same_to m W g refl (ap (poly m) (sym (take_all (n + n) l (omega arith)))) (same_refl m W g (poly m l));
  elements = λ m W g f h E. E;
}

module _ (t : List ℕ) (n j i : ℕ) (l l₁ : List ℕ) (small : n ≤ 128) (up : i ≡ suc j) (low : n ≤ j) (room : j < length l) (a : Reduced t n i l l₁) where
  abbrev lower : ℕ → List ℕ → List ℕ
  lower n t = put_mid (j - n) n l₁ (add_multiple t (get_or l₁ j 0) (mid_of (j - n) n l₁))

  module _ (m : ℕ) (W : Width m) (g : List ℕ) (e : length g ≡ n) (f : t ≡ table_of m g) where
    down : (s : ℕ) → s + length g ≡ j → Same m W g (poly m (take (suc j) l₁)) (poly m (take j (put_mid s (length g) l₁ (add_multiple (table_of m g) (get_or l₁ j 0) (mid_of s (length g) l₁)))))
    down s h =
        let z : length l₁ ≡ length l = a.size in
        subst (λ (j : ℕ). Same m W g (poly m (take (suc j) l₁)) (poly m (take j (put_mid s (length g) l₁ (add_multiple (table_of m g) (get_or l₁ j 0) (mid_of s (length g) l₁)))))) h
        (reduce_step m W g (omega arith) s l₁ (omega arith))

    back : lower n t ≡ lower (length g) (table_of m g)
    back = ap₂ lower (sym e) f

    here : Same m W g (poly m l) (poly m (take j (lower n t)))
    here = same_trans m W g (a.same m W g e f) (same_to m W g (ap (λ (x : ℕ). poly m (take x l₁)) (sym up)) (ap (λ x. poly m (take j x)) (sym back)) (down (j - length g) (omega arith)))

    parts : Elements m l → Elements m (lower n t)
    parts E =
        let z : length l₁ ≡ length l = a.size in
        subst (λ x. Elements m x) (sym back) (placed-elements m W g (omega arith) (get_or l₁ j 0) (j - length g) l₁ (omega arith) (a.elements m W g e f E))

  pub reduced-next : Reduced t n j l (lower n t)
  reduced-next = record { size = same_len_mid (j - n) n l₁ (add_multiple t (get_or l₁ j 0) (mid_of (j - n) n l₁)) (length-add_multiple t (get_or l₁ j 0) (mid_of (j - n) n l₁)) ∙ a.size; same = here; elements = parts }

-- what is copied
pub copied : (r s : List ℕ) → length r ≡ length s → each_with (λ x y. y) r s ≡ s
unfolding each_with
copied [] [] e = refl
copied [] (y ∷ s) e = absurd (omega arith)
copied (x ∷ r) [] e = absurd (omega arith)
copied (x ∷ r) (y ∷ s) e = ap (λ (l : List ℕ). y ∷ l) (copied r s (suc_inj e))

pub residue_of : (t b r c r' : List ℕ) → length b ≡ 256 → length r ≤ 128 → Reduced t (length r) (length r) (take (length r + length r) b) c
    → r' ≡ each_with (λ x y. y) r (take (length r) (c ++ drop (length r + length r) b)) → Residue t b (length r) r'
residue_of t b r c r' size small d e =
    let n : ℕ = length r in
    let long : length c ≡ n + n = d.size ∙ length-take-le (n + n) b (omega arith) in
    let part : length (take n c) ≡ n = length-take-le n c (omega arith) in
    let x : take n (c ++ drop (n + n) b) ≡ take n c = take-append-le n c (drop (n + n) b) (omega arith) in
    let y : r' ≡ take n c = e ∙ ap (each_with (λ x y. y) r) x ∙ copied r (take n c) (sym part) in
    record {
      size = ap length y ∙ part;
      same = λ m W g f h low. same_to m W g (take-low m W (n + n) b low) (ap (poly m) (sym y)) (d.same m W g f h);
      elements = λ m W g f h E. subst (λ x. Elements m x) (sym y) (take_below (2 ^ m) n c (d.elements m W g f h (take_below (2 ^ m) (n + n) b E)));
    }

-- b is p's first j coefficients times q's first k
pub record Part (m : ℕ) (p q : List ℕ) (j k : ℕ) (b : List ℕ) : Type 0 where
  pub size : length b ≡ 256
  pub value : (W : Width m) → poly m b ≡ S.◌⊠◌ (laws m W) (first m W j (poly m p)) (first m W k (poly m q))
  pub elements : Elements m b

module _ (m : ℕ) where
  pub part_none : (p q : List ℕ) (k : ℕ) → Part m p q 0 k (replicate 256 0)
  unfolding first
  part_none p q k = record {
    size = length-replicate {A = ℕ} 256 0;
    value = λ W. zeros m W 256 ∙ sym (nil m W (first m W k (poly m q)));
    elements = zeros_elements m 256;
  }
    where
      zeros : (m : ℕ) (W : Width m) (n : ℕ) → poly m (replicate n 0) ≡ S.O (laws m W)
      zeros m W n = zeros_poly m W n

      nil : (m : ℕ) (W : Width m) (p : Series (Elem m)) → S.◌⊠◌ (laws m W) (S.O (laws m W)) p ≡ S.O (laws m W)
      nil m W p = let R = S.series (laws m W) in simp (ring, R)

  pub part_all : (p q : List ℕ) (j k : ℕ) (b : List ℕ) → j ≡ length p → k ≡ length q → Part m p q j k b → Product m p q b
  part_all p q j k b e f a = record {
    size = a.size;
    value = λ W. a.value W ∙ ap₂ (λ x y. S.◌⊠◌ (laws m W) x y) (ap (λ (i : ℕ). first m W i (poly m p)) e ∙ first_all m W (length p) (poly m p) (poly_below m W p)) (ap (λ (i : ℕ). first m W i (poly m q)) f ∙ first_all m W (length q) (poly m q) (poly_below m W q));
    elements = a.elements;
  }

  -- a coefficient of p more
  pub part_row_lem : Width m → (p y : List ℕ) (j : ℕ) (b : List ℕ) → length y ≤ 128 → j + length y ≤ 256 → Part m p y j (length y) b
      → Part m p y (j + 1) (length y) (put_mid j (length y) b (add_multiple (table_of m y) (get_or p j 0) (mid_of j (length y) b)))
  unfolding first
  part_row_lem U p y j b small h a =
      let z : length b ≡ 256 = a.size in
      record {
        size = placed-size m U y small (get_or p j 0) j b (omega arith) ∙ a.size;
        value = λ W.
            placed_poly m W y small (get_or p j 0) j b (omega arith)
            ∙ ap₂ (λ u v. S.◌⊞◌ (laws m W) u (S.◌⊠◌ (laws m W) (S.C (laws m W) (poly m p j)) (S.◌⊠◌ (laws m W) (power (gf m W) j) v))) (a.value W) (sym (first_all m W (length y) (poly m y) (poly_below m W y)))
            ∙ shape m W (first m W j (poly m p)) (first m W (length y) (poly m y)) (S.C (laws m W) (poly m p j)) (power (gf m W) j)
            ∙ ap (λ (i : ℕ). S.◌⊠◌ (laws m W) (first m W i (poly m p)) (first m W (length y) (poly m y))) (sym (add-one j));
        elements = placed-elements m U y small (get_or p j 0) j b (omega arith) a.elements;
      }
    where
      shape : (m : ℕ) (W : Width m) (f q c x : Series (Elem m)) → S.◌⊞◌ (laws m W) (S.◌⊠◌ (laws m W) f q) (S.◌⊠◌ (laws m W) c (S.◌⊠◌ (laws m W) x q)) ≡ S.◌⊠◌ (laws m W) (S.◌⊞◌ (laws m W) f (S.◌⊠◌ (laws m W) c x)) q
      shape m W f q c x = let R = S.series (laws m W) in simp (ring, R)

  -- a square more
  pub part_square : (p : List ℕ) (k v : ℕ) (b : List ℕ) → k < 128 → v ≡ mul m (get_or p k 0) (get_or p k 0) → Part m p p k k b → Part m p p (k + 1) (k + 1) (set b (k + k) (get_or b (k + k) 0 ⊕ v))
  unfolding first
  part_square p k v b h e a =
      let z : length b ≡ 256 = a.size in
      record {
        size = length-set b _ _ ∙ a.size;
        value = λ W.
            set_poly m W b (k + k) v (omega arith)
            ∙ ap₂ (S.◌⊞◌ (laws m W)) (a.value W) (ap₂ (S.◌⊠◌ (laws m W)) (ap (λ (x : ℕ). S.C (laws m W) (val m x)) e ∙ ap (S.C (laws m W)) (val-mul m (get_or p k 0) (get_or p k 0)) ∙ C-mul (laws m W) _ _) (sym (power-add m W k k)))
            ∙ shape m W (first m W k (poly m p)) (S.C (laws m W) (poly m p k)) (power (gf m W) k)
            ∙ ap (λ (i : ℕ). S.◌⊠◌ (laws m W) (first m W i (poly m p)) (first m W i (poly m p))) (sym (add-one k));
        elements = set_elements m b (k + k) v (omega arith) (rw e (mul-lt m (get_or p k 0) (get_or p k 0))) a.elements;
      }
    where
      shape : (m : ℕ) (W : Width m) (f c x : Series (Elem m)) → S.◌⊞◌ (laws m W) (S.◌⊠◌ (laws m W) f f) (S.◌⊠◌ (laws m W) (S.◌⊠◌ (laws m W) c c) (S.◌⊠◌ (laws m W) x x))
          ≡ S.◌⊠◌ (laws m W) (S.◌⊞◌ (laws m W) f (S.◌⊠◌ (laws m W) c x)) (S.◌⊞◌ (laws m W) f (S.◌⊠◌ (laws m W) c x))
      shape m W f c x = let R = S.series (laws m W) in simp (ring, R)

-- a row that was copied
pub block_part : (r s : List ℕ) → length r ≤ 512 → s ≡ padded 512 (take 512 r) → take (length r) s ≡ r
block_part r s h e = ap (take (length r)) (e ∙ ap (padded 512) (take_all 512 r h)) ∙ take-padded 512 r (length r) refl

-- its squares
pub square_at : (m : ℕ) → Width m → (r s q : List ℕ) (i : ℕ) → length r ≤ 128 → s ≡ padded 512 (take 512 r) → q ≡ horner_each m 0 (take (length r) s) (take (length r) s) → i < length r
    → get_or (q ++ drop (length r) s) i 0 ≡ mul m (get_or r i 0) (get_or r i 0)
square_at m W r s q i h e f k =
    let n : ℕ = length r in
    let whole : take n s ≡ r = block_part r s (omega arith) e in
    let y : q ≡ horner_each m 0 r r = f ∙ ap (λ (l : List ℕ). horner_each m 0 l l) whole in
    get_or-append q (drop n s) 0 i (omega (arith, ap length y ∙ length-horner_each m 0 r r)) ∙ ap (λ (l : List ℕ). get_or l i 0) y ∙ horner_each-at m 0 r r W i k k ∙ xor-zero _

-- a product, and what is left of it
pub product_modulo : (m : ℕ) (t p q b r : List ℕ) → length q ≡ length p → Product m p q b → Residue t b (length p) r → ProductModulo m t p q r
product_modulo m t p q b r e a d = record {
  size = d.size;
  same = λ W g f h. same_to m W g (a.value W) refl (d.same m W g f h (λ i k. ap (λ x. x i) (a.value W) ∙ low W i k));
  elements = λ W g f h. d.elements m W g f h a.elements;
}
  where
    low : (W : Width m) → Below (laws m W) (length p + length p) (S.◌⊠◌ (laws m W) (poly m p) (poly m q))
    low W = below_mul (laws m W) {n = length p} {m = length p} (poly_below m W p) (λ i k. poly_below m W q i (omega arith))
