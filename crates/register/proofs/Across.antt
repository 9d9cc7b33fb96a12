-- Figure 1 without its quotient: the code's register is the figure's up to units. Assumes nothing.
use mathlib.Core.Path.{◌≡◌, refl, sym, ap, ap₂, ◌∙◌, fun_ext}
use mathlib.Core.Bool.{Bool, true, cond}
use mathlib.Core.List.{List, [], ◌∷◌, ◌++◌, map, map-map}
use Prim.Native.Nat.{ℕ, zero, suc, ◌+◌, ◌-◌, ◌*◌, ◌^◌, ◌≤◌, ◌<◌}
use native.Mathlib.Omega.{arith}
use borrow.Author.Tests.{eq-eqb, ne_eqb}
use lib.ListN.{length, get_or, replicate}
use Rattle.bits.specs.Xor.{◌⊕◌}
use Rattle.bits.specs.Bits.{from, each_with, xor_row}
use Rattle.bits.proofs.Lists.{cons_eq, map-from}
use Rattle.field.specs.Field.{mul, inv}
use Rattle.field.specs.Answers.{is_unit}
use Rattle.field.proofs.Table.{Width}
use Rattle.field.proofs.Laws.{mul_comm, mul_assoc, mul_left_comm, mul-add, mul-lt, mul-zero, low-mul, one_lt, one-mul, one_mul-low, inv-low}
use Rattle.field.proofs.Units.{element_unit, unit_inverse, unit_mul, unit_divided}
use Rattle.field.proofs.Arrays.{Elements, multiple_at}
use Rattle.poly.specs.Polynomials.{sum}
use Rattle.poly.specs.Register.{Register, longest, start, discrepancy, corrected, turn, register}
use Rattle.poly.proofs.Steps.{term, sum-nil, sum-cons, turn_skip, turn_fix, turn_grow, turn_cases, after, after_none, after_next, after_all}
use Rattle.poly.proofs.Units.{discrepancy_element}
use Rattle.poly.proofs.RegisterLaws.{after_unit, after_fits, after_lead, after_past, after_earlier_past, after_elements}
use Rattle.register.specs.Across.{Past, discrepancy_across, corrected_across, turn_across, divided}

-- the three cases of a turn, with c for the corrected polynomial
module _ (m d n : ℕ) (r : Register) where
  with_c : Register → Bool → Register
  with_c t z = record { c = cond z r.c (corrected_across m r d); l = t.l; b = t.b; d = t.d; y = t.y }

  pub across_skip : d ≡ 0 → turn_across m d n r ≡ record { c = r.c; l = r.l; b = r.b; d = r.d; y = r.y + 1 }
  unfolding turn_across with_c
  across_skip e = ap₂ with_c (turn_skip m d n r e) (eq-eqb d 0 e)

  pub across_fix : {c : List ℕ} → c ≡ corrected_across m r d → (d ≡ 0 → ⊥) → n < 2 * r.l
      → turn_across m d n r ≡ record { c = c; l = r.l; b = r.b; d = r.d; y = r.y + 1 }
  unfolding turn_across with_c
  across_fix f e h =
      ap₂ with_c (turn_fix m d n r refl e h) (ne_eqb d 0 e)
      ∙ ap (λ (c : List ℕ). record { c = c; l = r.l; b = r.b; d = r.d; y = r.y + 1 }) (sym f)

  pub across_grow : {c b : List ℕ} → c ≡ corrected_across m r d → b ≡ r.c → (d ≡ 0 → ⊥) → 2 * r.l ≤ n
      → turn_across m d n r ≡ record { c = c; l = n + 1 - r.l; b = b; d = d; y = 1 }
  unfolding turn_across with_c
  across_grow f g e h =
      ap₂ with_c (turn_grow m d n r refl e h) (ne_eqb d 0 e)
      ∙ ap₂ (λ (c b : List ℕ). record { c = c; l = n + 1 - r.l; b = b; d = d; y = 1 }) (sym f) (sym g)

-- a multiple of a sum and of a shifted list
module _ (m a : ℕ) where
  multiple_sum : (xs : List ℕ) → sum (map (mul m a) xs) ≡ mul m a (sum xs)
  multiple_sum [] = sum-nil ∙ sym (ap (mul m a) sum-nil ∙ mul-zero m a)
  multiple_sum (x ∷ xs) =
      sum-cons _ _ ∙ ap (◌⊕◌ (mul m a x)) (multiple_sum xs) ∙ sym (ap (mul m a) (sum-cons x xs) ∙ mul-add m a x (sum xs))

  multiple_xor_row : (c t : List ℕ) → map (mul m a) (xor_row c t) ≡ xor_row (map (mul m a) c) (map (mul m a) t)
  unfolding xor_row each_with
  multiple_xor_row [] t = refl
  multiple_xor_row (x ∷ c) [] = refl
  multiple_xor_row (x ∷ c) (y ∷ t) = cons_eq (mul-add m a x y) (multiple_xor_row c t)

  multiple_shifted : (y : ℕ) (b : List ℕ) → map (mul m a) (replicate y 0 ++ b) ≡ replicate y 0 ++ map (mul m a) b
  multiple_shifted zero b = refl
  multiple_shifted (suc y) b = cons_eq (mul-zero m a) (multiple_shifted y b)

-- a multiple has 0 where the list has
pub past_map : (m a l : ℕ) (c p : List ℕ) → p ≡ map (mul m a) c → Past l c → Past l p
past_map m a l c p e z k h = ap (λ (p : List ℕ). get_or p k 0) e ∙ multiple_at m a c k ∙ ap (mul m a) (z k h) ∙ mul-zero m a

-- the correction, by its two multiples
pub corrected_by : (m d : ℕ) (r : Register) {q p : List ℕ} → q ≡ map (mul m r.d) r.c → p ≡ map (mul m d) r.b
    → xor_row q (replicate r.y 0 ++ p) ≡ corrected_across m r d
unfolding corrected_across
corrected_by m d r e f = ap₂ (λ (q p : List ℕ). xor_row q (replicate r.y 0 ++ p)) e f

-- the quotient, by the inverse of c_0
pub divided_by : (m : ℕ) (c : List ℕ) {v : ℕ} {p : List ℕ} → v ≡ inv m (get_or c 0 0) → p ≡ map (mul m v) c → p ≡ divided m c
unfolding divided
divided_by m c e f = f ∙ ap (λ (v : ℕ). map (mul m v) c) e

-- r is q with C(x) multiplied by the unit a, and B(x) and d_m by the unit e
pub record Multiple (m : ℕ) (r q : Register) : Type 0 where
  pub a : ℕ
  pub e : ℕ
  pub unit_a : is_unit m a ≡ true
  pub unit_e : is_unit m e ≡ true
  pub c_by : r.c ≡ map (mul m a) q.c
  pub b_by : r.b ≡ map (mul m e) q.b
  pub d_by : r.d ≡ mul m e q.d
  pub l_same : r.l ≡ q.l
  pub y_same : r.y ≡ q.y

module _ (m : ℕ) (W : Width m) where
  one_unit : is_unit m 1 ≡ true
  one_unit = element_unit m 1 (one_lt m W) (λ z. omega arith)

  module _ (s : List ℕ) (r q : Register) (n : ℕ) (g : Multiple m r q) where
    -- line 3
    pub discrepancy_multiple : get_or q.c 0 0 ≡ 1 → discrepancy_across m s r.c r.l n ≡ mul m g.a (discrepancy m s q n)
    unfolding discrepancy_across discrepancy
    discrepancy_multiple o =
        ap₂ (λ (c : List ℕ) (l : ℕ). discrepancy_across m s c l n) g.c_by g.l_same
        ∙ ap₂ ◌⊕◌ first (ap sum (map-from _ (λ i. mul m a (term m s q n i)) 1 1 q.l (λ i h. at (1 + i))) ∙ ap sum (sym (map-map (mul m a) (term m s q n) (from 1 q.l))) ∙ multiple_sum m a _)
        ∙ sym (mul-add m a (get_or s n 0) _)
      where
        a : ℕ
        a = g.a

        at : (i : ℕ) → mul m (get_or (map (mul m a) q.c) i 0) (get_or s (n - i) 0) ≡ mul m a (term m s q n i)
        at i = ap (λ (x : ℕ). mul m x (get_or s (n - i) 0)) (multiple_at m a q.c i) ∙ mul_assoc m a _ _

        first : mul m (get_or (map (mul m a) q.c) 0 0) (get_or s n 0) ≡ mul m a (get_or s n 0)
        first =
            ap (λ (x : ℕ). mul m x (get_or s n 0)) (multiple_at m a q.c 0 ∙ ap (mul m a) o) ∙ mul_assoc m a 1 _
            ∙ ap (mul m a) (one_mul-low m W (get_or s n 0)) ∙ low-mul m a (get_or s n 0)

    -- lines 7 and 11
    corrected_multiple : (d : ℕ) → is_unit m q.d ≡ true
        → corrected_across m r (mul m g.a d) ≡ map (mul m (mul m g.a (mul m g.e q.d))) (corrected m q d)
    unfolding corrected_across corrected
    corrected_multiple d u =
        ap₂ xor_row left right
        ∙ sym (multiple_xor_row m k q.c _ ∙ ap (xor_row (map (mul m k) q.c)) (multiple_shifted m k q.y _))
      where
        a : ℕ
        a = g.a

        e : ℕ
        e = g.e

        k : ℕ
        k = mul m a (mul m e q.d)

        f : ℕ
        f = mul m d (inv m q.d)

        left : map (mul m r.d) r.c ≡ map (mul m k) q.c
        left =
            ap₂ (λ (x : ℕ) (c : List ℕ). map (mul m x) c) g.d_by g.c_by ∙ map-map (mul m (mul m e q.d)) (mul m a) q.c
            ∙ ap (λ (h : ℕ → ℕ). map h q.c) (fun_ext (λ x. mul_left_comm m (mul m e q.d) a x ∙ sym (mul_assoc m a (mul m e q.d) x)))

        six : (a e d q i x : ℕ) → mul m (mul m a (mul m e q)) (mul m (mul m d i) x) ≡ mul m (mul m q i) (mul m (mul m a d) (mul m e x))
        six a e d q i x = simp (mul_assoc m, mul_left_comm m)

        same : (x : ℕ) → mul m (mul m a d) (mul m e x) ≡ mul m k (mul m f x)
        same x =
            sym (six a e d q.d (inv m q.d) x ∙ ap (λ (o : ℕ). mul m o (mul m (mul m a d) (mul m e x))) (unit_inverse m W q.d u)
            ∙ one-mul m W (mul-lt m _ _))

        right : replicate r.y 0 ++ map (mul m (mul m a d)) r.b ≡ replicate q.y 0 ++ map (mul m k) (map (mul m f) q.b)
        right =
            ap₂ (λ (y : ℕ) (b : List ℕ). replicate y 0 ++ b) g.y_same
            (ap (map (mul m (mul m a d))) g.b_by ∙ map-map (mul m (mul m a d)) (mul m e) q.b
            ∙ ap (λ (h : ℕ → ℕ). map h q.b) (fun_ext same) ∙ sym (map-map (mul m k) (mul m f) q.b))

    -- lines 4 to 16
    pub turn_multiple : (x d : ℕ) → x ≡ mul m g.a d → d < 2 ^ m → is_unit m q.d ≡ true → Multiple m (turn_across m x n r) (turn m d n q)
    turn_multiple x d h l u =
        turn_cases m d n q (Multiple m (turn_across m x n r))
        (λ z. rw (across_skip m x n r (zero_of z)) (record {
          a = g.a;
          e = g.e;
          unit_a = g.unit_a;
          unit_e = g.unit_e;
          c_by = g.c_by;
          b_by = g.b_by;
          d_by = g.d_by;
          l_same = g.l_same;
          y_same = ap (λ (y : ℕ). y + 1) g.y_same;
        }))
        (λ p w. rw (across_fix m x n r refl (some p) (rw g.l_same w)) (record {
          a = k;
          e = g.e;
          unit_a = unit_k;
          unit_e = g.unit_e;
          c_by = by;
          b_by = g.b_by;
          d_by = g.d_by;
          l_same = g.l_same;
          y_same = ap (λ (y : ℕ). y + 1) g.y_same;
        }))
        (λ p w. rw (across_grow m x n r refl refl (some p) (rw g.l_same w)) (record {
          a = k;
          e = g.a;
          unit_a = unit_k;
          unit_e = g.unit_a;
          c_by = by;
          b_by = g.c_by;
          d_by = h;
          l_same = ap (λ (l : ℕ). n + 1 - l) g.l_same;
          y_same = refl;
        }))
      where
        k : ℕ
        k = mul m g.a (mul m g.e q.d)

        unit_k : is_unit m k ≡ true
        unit_k = unit_mul m W g.a (mul m g.e q.d) g.unit_a (unit_mul m W g.e q.d g.unit_e u)

        by : corrected_across m r x ≡ map (mul m k) (corrected m q d)
        by = ap (corrected_across m r) h ∙ corrected_multiple d u

        zero_of : d ≡ 0 → x ≡ 0
        zero_of z = h ∙ ap (mul m g.a) z ∙ mul-zero m g.a

        some : 0 < d → x ≡ 0 → ⊥
        some p z =
            let o : d ≡ 0 = sym (unit_divided m W g.a g.unit_a l) ∙ ap (mul m (inv m g.a)) (sym h ∙ z) ∙ mul-zero m (inv m g.a) in
            omega arith

  -- before the first turn
  pub start_multiple : (s : List ℕ) → Multiple m start (after m s 0)
  unfolding start longest
  start_multiple s = rw (after_none m s) (record {
    a = 1;
    e = 1;
    unit_a = one_unit;
    unit_e = one_unit;
    c_by = one;
    b_by = one;
    d_by = sym (one-mul m W (one_lt m W));
    l_same = refl;
    y_same = refl;
  })
    where
      one : 1 ∷ replicate 256 0 ≡ map (mul m 1) (1 ∷ replicate 256 0)
      one = cons_eq (sym (one-mul m W (one_lt m W))) (zeros 256)
        where
          zeros : (n : ℕ) → replicate n 0 ≡ map (mul m 1) (replicate n 0)
          zeros zero = refl
          zeros (suc n) = cons_eq (sym (mul-zero m 1)) (zeros n)

  -- c_0 of a multiple of a register with c_0 = 1: it is a unit, and divided out
  module _ (r q : Register) (g : Multiple m r q) (o : get_or q.c 0 0 ≡ 1) where
    first : get_or r.c 0 0 ≡ mul m g.a 1
    first = ap (λ (c : List ℕ). get_or c 0 0) g.c_by ∙ multiple_at m g.a q.c 0 ∙ ap (mul m g.a) o

    pub first_unit : is_unit m (get_or r.c 0 0) ≡ true
    first_unit = rw first (unit_mul m W g.a 1 g.unit_a one_unit)

    divided_multiple : Elements m q.c → divided m r.c ≡ q.c
    unfolding divided
    divided_multiple k =
        ap₂ (λ (x : ℕ) (c : List ℕ). map (mul m x) c) (ap (inv m) (first ∙ mul_comm m g.a 1 ∙ one_mul-low m W g.a) ∙ inv-low m g.a) g.c_by
        ∙ back q.c k
      where
        back : (c : List ℕ) → Elements m c → map (mul m (inv m g.a)) (map (mul m g.a) c) ≡ c
        back [] k = refl
        back (x ∷ c) k = cons_eq (unit_divided m W g.a g.unit_a (k 0)) (back c (λ i. k (suc i)))

  -- a multiple of the figure's register after n turns
  module _ (s : List ℕ) (e : Elements m s) (n : ℕ) (h : n ≤ 256) (r : Register) (g : Multiple m r (after m s n)) where
    pub after_small : (r.l ≤ n) × (r.l + r.y ≤ n + 1)
    after_small = let f = after_fits m W s e n h in (omega (arith, g.l_same), omega (arith, g.l_same, g.y_same))

    pub c_past : Past r.l r.c
    c_past = rw g.l_same (past_map m g.a (after m s n).l (after m s n).c r.c g.c_by (after_past m W s e n h))

    pub b_past : Past (n + 1 - r.l - r.y) r.b
    b_past =
        rw (g.l_same, g.y_same) (past_map m g.e (n + 1 - (after m s n).l - (after m s n).y) (after m s n).b r.b g.b_by (after_earlier_past m W s e n h))

    pub after_turn : (x : ℕ) (t : Register) → x ≡ discrepancy_across m s r.c r.l n → t ≡ turn_across m x n r → Multiple m t (after m s (n + 1))
    after_turn x t d f =
        rw (f, after_next m s n)
        (turn_multiple s r (after m s n) n g x (discrepancy m s (after m s n) n)
        (d ∙ discrepancy_multiple s r (after m s n) n g (after_lead m W s e n h)) (discrepancy_element m s (after m s n) n e) (after_unit m W s e n))

    -- after the last turn
    pub after_divided : n ≡ length s → (r.l ≡ (register m s).l) × Past r.l r.c × (is_unit m (get_or r.c 0 0) ≡ true) × (divided m r.c ≡ (register m s).c)
    after_divided z =
        let q : after m s n ≡ register m s = ap (after m s) z ∙ after_all m s in
        let o = after_lead m W s e n h in (
          g.l_same ∙ ap (λ (q : Register). q.l) q,
          c_past,
          first_unit r (after m s n) g o,
          divided_multiple r (after m s n) g o (after_elements m W s e n h) ∙ ap (λ (q : Register). q.c) q,
        )
