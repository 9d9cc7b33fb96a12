-- The elimination's state: before the first row, a row more, where a row is 0, at the end. Assumes nothing.
use mathlib.Core.Path.{◌≡◌, refl, sym, ap, ap₂, ◌∙◌, fun_ext, subst}
use mathlib.Core.List.{List, [], ◌∷◌, map}
use Prim.Native.Nat.{ℕ, suc, ◌+◌, ◌-◌, ◌≤◌, ◌<◌}
use native.Mathlib.Numerals.{add-one}
use native.Mathlib.Omega.{arith}
use lib.ListN.{length, get_or, set, length-set, length-map}
use Rattle.bits.specs.Xor.{◌⊕◌}
use Rattle.algebra.proofs.Ring.{Ring, ring}
use Rattle.algebra.proofs.Field.{Field}
use Rattle.algebra.proofs.Series as S
use Rattle.algebra.proofs.Series.{Series, operations}
use Rattle.algebra.proofs.Poly.{Below}
use Rattle.algebra.proofs.Goppa.{Separable}
use Rattle.field.specs.Field.{mul, inv}
use Rattle.field.proofs.Table.{Width}
use Rattle.field.proofs.Laws.{one_lt}
use Rattle.field.proofs.Gf.{Elem, val, val_of, val-zero, val_one, val-inv, plus, times, inverse, zero_elem, one_elem, laws, gf}
use Rattle.field.proofs.Arrays.{Elements, poly, poly_below, poly_scale}
use Rattle.poly.specs.Polynomials.{monic}
use Rattle.poly.proofs.Product.{poly_monic}
use Rattle.algebra.proofs.Factor.{div_to, frob, Prime}
use Rattle.algebra.proofs.Rank.{reduced, power, Image, State, start, next, step, test_yes, test_no}
use Rattle.field.proofs.FiniteField.{finite}
use Rattle.row_tables.specs.RowTable.{table_of, add_multiple}
use Rattle.irreducible.specs.Rows.{row_at}
use Rattle.irreducible.specs.Residues.{Powers}
use Rattle.irreducible.specs.Ready.{Shifted, Cleared, Left, Basis}
use Rattle.irreducible.proofs.Rows.{length_row, room}
use Rattle.irreducible.proofs.Modulo.{add_row, add-elements, set_poly, set_elements}

module _ (m : ℕ) (W : Width m) where
  open operations (laws m W) use {◌⊞◌, ◌⊠◌, O, C, X, series}

  infixl 65 ◌⊞◌
  infixl 70 ◌⊠◌
  abbrev L : Ring (zero_elem m) (one_elem m W) (plus m) (times m)
  L = laws m W

  abbrev K : Field
  K = gf m W

  -- 1 added at place p
  unit_poly : (r : List ℕ) (p : ℕ) → p < length r → poly m (set r p (get_or r p 0 ⊕ 1)) ≡ poly m r ⊞ power K p
  unit_poly r p h = set_poly m W r p 1 h ∙ ap (λ x. poly m r ⊞ C x ⊠ power K p) (val_one m W) ∙ one (poly m r) (power K p)
    where
      one : (a b : Series (Elem m)) → a ⊞ C (one_elem m W) ⊠ b ≡ a ⊞ b
      one a b = let R = series in simp (ring, R)

  module _ (g : List ℕ) (small : length g ≤ 128) where
    abbrev n : ℕ
    n = length g

    abbrev G : Series (Elem m)
    G = poly m (monic g)

    abbrev Of : Series (Elem m) → Series (Elem m) → Type 0
    Of h r = Image K (finite m W) n G (poly_monic m W g) h r

    low : (r : List ℕ) → length r ≡ n → Below L n (poly m r)
    low r e i h = poly_below m W r i (omega arith)

    -- before the first row
    pub basis_start : (l l' : List ℕ) → Powers m g (n - 1) l → Shifted n (n - 1) l l' → Basis m W g 0 l'
    unfolding reduced
    basis_start l l' p s = record {
      rows = [];
      state = start K (finite m W) n G (poly_monic m W g);
      elements = λ r h k. subst (λ x. Elements m x) (sym (s.inside r (omega arith))) (set_elements m (row_at n l r) (suc r) 1 (omega (arith, long r (omega arith))) (one_lt m W) (p.elements W r (omega arith)));
      later = λ r h k.
          (let e = ap (poly m) (s.inside r (omega arith)) ∙ unit_poly (row_at n l r) (suc r) (omega (arith, long r (omega arith))) in
          record {
            image = poly m (row_at n l' r);
            of = record {
              below = low (row_at n l' r) (ap length (s.inside r (omega arith)) ∙ length-set (row_at n l r) _ _ ∙ long r (omega arith));
              residue = div_to K (shape (frob series m (power K (suc r))) (power K (suc r)) (poly m (row_at n l r)) ∙ ap (λ x. (frob series m (power K (suc r)) ⊞ power K (suc r)) ⊞ x) (sym e)) (p.residue W r (omega arith)).by;
            };
            same = refl;
          });
    }
      where
        long : (r : ℕ) → r < n → length (row_at n l r) ≡ n
        long r h = length_row n l r (room n r l small p.size h)

        shape : (f p y : Series (Elem m)) → f ⊞ y ≡ (f ⊞ p) ⊞ (y ⊞ p)
        shape f p y = let R = series in simp (ring, R)

    -- a number that is not 0 is an element that is not 0
    nonzero : (r : List ℕ) (p : ℕ) → Elements m r → ¬ (get_or r p 0 ≡ 0) → ¬ (poly m r p ≡ zero_elem m)
    unfolding zero_elem
    nonzero r p E h e = h (sym (val_of m (E p)) ∙ ap (λ (x : Elem m). x.0) e)

    module _ (i : ℕ) (l l' : List ℕ) (size : length l ≡ 16384) (b : Basis m W g i l) (lt : suc i < n) where
      here : Left m W g b.rows i (poly m (row_at n l i))
      here = b.later i (omega arith) lt

      long : (r : ℕ) → r < n → length (row_at n l r) ≡ n
      long r h = length_row n l r (room n r l small size h)

      -- a row more
      pub basis_next : Cleared m n i l l' → Basis m W g (i + 1) l'
      unfolding reduced next
      basis_next c = record {
        rows = next K (finite m W) n G (poly_monic m W g) b.state here.of p nz ∷ b.rows;
        state = subst (λ (k : ℕ). State K (finite m W) n G (poly_monic m W g) k (next K (finite m W) n G (poly_monic m W g) b.state here.of p nz ∷ b.rows)) (sym (add-one i))
            (step K (finite m W) n G (poly_monic m W g) b.state here.of p nz);
        elements = λ r h k. subst (λ x. Elements m x) (sym (row r h k)) (add-elements m W v (get_or (row_at n l r) p 0) (row_at n l r) (sizes r k) (omega (arith, long r (omega arith))) (b.elements r (omega arith) k));
        later = λ r h k.
            (let o = b.later r (omega arith) k in
            record {
              image = o.image;
              of = o.of;
              same = ap (poly m) (row r h k) ∙ add_row m W v (get_or (row_at n l r) p 0) (row_at n l r) (sizes r k) (omega (arith, long r (omega arith)))
                  ∙ ap₂ (λ x y. x ⊞ C (x p) ⊠ y) o.same pivot_row_lem;
            });
      }
        where
          p : ℕ
          p = c.place

          w : List ℕ
          w = row_at n l i

          v : List ℕ
          v = map (mul m (inv m (get_or w p 0))) w

          nz : ¬ (reduced K b.rows here.image p ≡ zero_elem m)
          nz e = nonzero w p (b.elements i (omega arith) lt) c.nonzero (ap (λ x. x p) here.same ∙ e)

          sizes : (r : ℕ) → suc r < n → length (row_at n l r) ≡ length v
          sizes r k = long r (omega arith) ∙ sym (length-map w (mul m (inv m (get_or w p 0))) ∙ long i (omega arith))

          row : (r : ℕ) → i + 1 ≤ r → suc r < n → row_at n l' r ≡ add_multiple (table_of m v) (get_or (row_at n l r) p 0) (row_at n l r)
          row r h k =
              let e : i + 1 + (r - (i + 1)) ≡ r = omega arith in
              subst (λ (x : ℕ). row_at n l' x ≡ add_multiple (table_of m v) (get_or (row_at n l x) p 0) (row_at n l x)) e (c.added.inside (r - (i + 1)) (omega arith))

          pivot_row_lem : poly m v ≡ C (inverse m (reduced K b.rows here.image p)) ⊠ reduced K b.rows here.image
          pivot_row_lem = poly_scale m W (inv m (get_or w p 0)) w ∙ ap₂ (λ x y. C x ⊠ y) (val-inv m (get_or w p 0) ∙ ap (λ x. inverse m (x p)) here.same) here.same

      -- a row of zeros
      pub basis_fails : ((k : ℕ) → get_or (row_at n l i) k 0 ≡ 0) → ¬ Prime K n G
      unfolding S.O
      basis_fails z = test_no K (finite m W) n G (poly_monic m W g) b.state here.of lt (sym here.same ∙ fun_ext λ k. ap (val m) (z k) ∙ val-zero m)

    -- the end
    pub basis_all : (i : ℕ) (l : List ℕ) → n ≤ i + 1 → Basis m W g i l → Separable L n G → Prime K n G
    basis_all i l h b s = test_yes K (finite m W) n G (poly_monic m W g) s b.state (omega arith)
