-- The register of a list of elements is Figure 1's of `algebra` on the list's series: it is shortest, and unique where
-- twice its length is at most the list's. Assumes nothing.
use mathlib.Core.Path.{◌≡◌, refl, sym, ap, ap₂, ◌∙◌, fun_ext, subst}
use mathlib.Core.Logic.{◌≢◌}
use mathlib.Core.Bool.{true}
use mathlib.Core.List.{List, ◌∷◌, ◌++◌, map}
use Prim.Native.Nat.{ℕ, zero, suc, ◌+◌, ◌-◌, ◌^◌, ◌≤◌, ◌<◌}
use native.Mathlib.Nat.{add-zero as nat-add-zero, zero-add as nat-zero-add}
use native.Mathlib.Numerals.{add-one}
use native.Mathlib.Omega.{arith}
use native.Mathlib.Decide.{dec_lt}
use lib.ListN.{length, get_or, replicate, length-replicate, length-append, length-map}
use lib.Pow.{pow_pos}
use Rattle.bits.specs.Xor.{◌⊕◌}
use Rattle.bits.specs.Bits.{from, each_with, xor_row}
use Rattle.bits.proofs.Each.{length-each_with, each_with-at}
use Rattle.bits.proofs.Rows.{length-xor_row}
use Rattle.algebra.proofs.Series as Ser
use Rattle.algebra.proofs.Series.{Series, operations, plus-at, shift, shift_mul}
use Rattle.algebra.proofs.Sum.{sum-zero, sum_head, sum_cong}
use Rattle.algebra.proofs.Sum as Sum
use Rattle.algebra.proofs.Register.{Generates, Shortest, unique}
use Rattle.algebra.proofs.Figure1 as Figure1
use Rattle.algebra.proofs.Figure1.{State, Inv, mend, mend_below, discrepancy-from_one, step, step_skip, step_fix, step_grow, run, run-zero, run-suc, run-inv, fits, y_fits, B-past}
use Rattle.field.specs.Field.{mul, inv}
use Rattle.field.specs.Answers.{is_unit}
use Rattle.field.proofs.Table.{Width}
use Rattle.field.proofs.Laws.{one_lt}
use Rattle.field.proofs.Gf.{Elem, val, val_inj, val-zero, val_one, val-xor, val-mul, val-inv, plus, times, inverse, zero_elem, one_elem, laws, gf}
use Rattle.field.proofs.Arrays.{Elements, elements-xor, elements_shifted, poly, poly_inj, poly_below, poly_scale, poly_shift}
use Rattle.bits.proofs.Bits.{zeros_at}
use Rattle.poly.specs.Polynomials.{sum}
use Rattle.poly.specs.Register.{Register, longest, start, discrepancy, corrected, turn, turns, register}
use Rattle.poly.proofs.Steps.{term, sum-nil, sum-cons, turn_cases, after, after_none, after_next, after_all}
use Rattle.poly.proofs.Units.{discrepancy_element, start_unit, turn_unit}

-- lists of elements
module _ (m : ℕ) where
  elements_one : (n : ℕ) → 1 < 2 ^ m → Elements m (1 ∷ replicate n 0)
  elements_one n h zero = h
  elements_one n h (suc k) = rw (zeros_at n k) (pow_pos m)

  length-corrected : (r : Register) (d : ℕ) → length (corrected m r d) ≡ length r.c
  unfolding corrected
  length-corrected r d = length-xor_row _ _

  elements-corrected : (r : Register) (d : ℕ) → Elements m r.c → Elements m (corrected m r d)
  unfolding corrected
  elements-corrected r d e = elements-xor m _ _ e (elements_shifted m _ r.y r.b)

-- C(x) and B(x) have 257 coefficients each, and these are elements
pub record Formed (m : ℕ) (r : Register) : Type 0 where
  pub length_c : length r.c ≡ 257
  pub length_b : length r.b ≡ 257
  pub elements_c : Elements m r.c
  pub elements_b : Elements m r.b

module _ (m : ℕ) where
  formed_start : 1 < 2 ^ m → Formed m start
  unfolding start longest
  formed_start h = record { length_c = refl; length_b = refl; elements_c = elements_one m 256 h; elements_b = elements_one m 256 h }

  formed_turn : (d n : ℕ) (r : Register) → Formed m r → Formed m (turn m d n r)
  formed_turn d n r f =
      turn_cases m d n r (Formed m)
      (λ z. record { length_c = f.length_c; length_b = f.length_b; elements_c = f.elements_c; elements_b = f.elements_b })
      (λ e q. record { length_c = same; length_b = f.length_b; elements_c = elements; elements_b = f.elements_b })
      (λ e q. record { length_c = same; length_b = f.length_c; elements_c = elements; elements_b = f.elements_c })
    where
      same : length (corrected m r d) ≡ 257
      same = length-corrected m r d ∙ f.length_c

      elements : Elements m (corrected m r d)
      elements = elements-corrected m r d f.elements_c

module _ (m : ℕ) (W : Width m) where
  open operations (laws m W) use {◌⊠◌, C, series}

  infixl 70 ◌⊠◌
  -- the register's lists as series
  abbrev pub image : Register → State (gf m W)
  image r = record { C = poly m r.c; l = r.l; B = poly m r.b; d = val m r.d; y = r.y }

  image_start : image start ≡ Figure1.start (gf m W)
  unfolding start longest Figure1.start Ser.C
  image_start = ap₂ (λ (p : Series (Elem m)) (d : Elem m). record { C = p; l = 0; B = p; d = d; y = 1 }) (fun_ext at) (val_one m W)
    where
      at : (k : ℕ) → poly m (1 ∷ replicate 256 0) k ≡ C (one_elem m W) k
      at zero = val_one m W
      at (suc k) = ap (val m) (zeros_at 256 k) ∙ val-zero m

  -- line 3
  val-sum : (f : ℕ → ℕ) (k n : ℕ) → val m (sum (map f (from k n))) ≡ Sum.sum (laws m W) n (λ j. val m (f (k + j)))
  unfolding from
  val-sum f k zero = ap (val m) sum-nil ∙ val-zero m ∙ sym (sum-zero (laws m W) _)
  val-sum f k (suc n) =
      ap (val m) (sum-cons (f k) (map f (from (suc k) n))) ∙ val-xor m _ _
      ∙ ap₂ (plus m) (ap (λ (i : ℕ). val m (f i)) (sym (nat-add-zero k)))
      (val-sum f (suc k) n ∙ sum_cong (laws m W) n _ _ (λ j h. let e : suc k + j ≡ k + suc j = omega arith in ap (λ (i : ℕ). val m (f i)) e))
      ∙ sym (sum_head (laws m W) n (λ j. val m (f (k + j))))

  module _ (s : List ℕ) (r : Register) (n : ℕ) (i : Inv (gf m W) (poly m s) n (image r)) where
    discrepancy-at : val m (discrepancy m s r n) ≡ (poly m r.c ⊠ poly m s) n
    unfolding discrepancy
    discrepancy-at =
        val-xor m _ _
        ∙ ap (plus m (val m (get_or s n 0)))
        (val-sum (term m s r n) 1 r.l
        ∙ sum_cong (laws m W) r.l _ _ (λ j h. let e : 1 + j ≡ suc j = omega arith in ap (λ (k : ℕ). val m (term m s r n k)) e ∙ val-mul m _ _))
        ∙ sym (discrepancy-from_one (gf m W) i)

    -- lines 7 and 11: past the coefficient 256 there is nothing to add
    poly_corrected : (d : ℕ) → Formed m r → n < 256 → poly m (corrected m r d) ≡ mend (gf m W) (image r) (val m d)
    unfolding corrected xor_row
    poly_corrected d f h = fun_ext at
      where
        p : List ℕ
        p = map (mul m (mul m d (inv m r.d))) r.b

        t : List ℕ
        t = replicate r.y 0 ++ p

        factor : val m (mul m d (inv m r.d)) ≡ times m (val m d) (inverse m (val m r.d))
        factor = val-mul m _ _ ∙ ap (times m (val m d)) (val-inv m r.d)

        shifted : poly m t ≡ C (times m (val m d) (inverse m (val m r.d))) ⊠ shift (laws m W) r.y (poly m r.b)
        shifted =
            poly_shift m W r.y p
            ∙ ap (shift (laws m W) r.y) (poly_scale m W _ r.b ∙ ap (λ c. C c ⊠ poly m r.b) factor ∙ series.mul_comm _ _)
            ∙ sym (shift_mul (laws m W) r.y (poly m r.b) _) ∙ series.mul_comm _ _

        long : length t ≡ r.y + 257
        long = length-append (replicate r.y 0) p ∙ ap₂ ◌+◌ (length-replicate r.y 0) (length-map r.b _ ∙ f.length_b)

        at : (k : ℕ) → poly m (each_with ◌⊕◌ r.c t) k ≡ mend (gf m W) (image r) (val m d) k
        at k = elim (dec_lt k 257) [
          | yes a ↦
              ap (val m) (each_with-at ◌⊕◌ r.c t k (omega (arith, f.length_c)) (omega (arith, long))) ∙ val-xor m _ _
              ∙ ap (λ q. plus m (poly m r.c k) (q k)) shifted ∙ sym (plus-at (laws m W) _ _ k)
          | no a ↦
              poly_below m W (each_with ◌⊕◌ r.c t) k (omega (arith, f.length_c, length-each_with ◌⊕◌ r.c t))
              ∙ sym (mend_below (gf m W) i (val m d) 256 (omega (arith, fits (gf m W) i)) (omega arith) k (omega arith))
        ]

    -- lines 4 to 16
    image_turn : Formed m r → Elements m s → n < 256 → image (turn m (discrepancy m s r n) n r) ≡ step (gf m W) (poly m s) n (image r)
    image_turn f e h =
        turn_cases m d n r (λ t. image t ≡ step (gf m W) (poly m s) n (image r))
        (λ z.
        ap (λ (y : ℕ). at (poly m r.c) r.l (poly m r.b) (val m r.d) y) (add-one r.y)
        ∙ sym (step_skip (gf m W) (poly m s) n (image r) (zero_of z)))
        (λ a q.
        ap₂ (λ (p : Series (Elem m)) (y : ℕ). at p r.l (poly m r.b) (val m r.d) y) mended (add-one r.y)
        ∙ sym (step_fix (gf m W) (poly m s) n (image r) (some a) (omega arith)))
        (λ a q.
        ap₂ (λ (p : Series (Elem m)) (l : ℕ). at p (l - r.l) (poly m r.c) (val m d) 1) mended (add-one n)
        ∙ ap (λ (x : Elem m). at (mend (gf m W) (image r) ((poly m r.c ⊠ poly m s) n)) (suc n - r.l) (poly m r.c) x 1) discrepancy-at
        ∙ sym (step_grow (gf m W) (poly m s) n (image r) (some a) (omega arith)))
      where
        d : ℕ
        d = discrepancy m s r n

        at : Series (Elem m) → ℕ → Series (Elem m) → Elem m → ℕ → State (gf m W)
        at C l B d y = record { C = C; l = l; B = B; d = d; y = y }

        mended : poly m (corrected m r d) ≡ mend (gf m W) (image r) ((poly m r.c ⊠ poly m s) n)
        mended = poly_corrected d f h ∙ ap (mend (gf m W) (image r)) discrepancy-at

        zero_of : d ≡ 0 → (poly m r.c ⊠ poly m s) n ≡ zero_elem m
        zero_of z = sym discrepancy-at ∙ ap (val m) z ∙ val-zero m

        some : 0 < d → (poly m r.c ⊠ poly m s) n ≢ zero_elem m
        some a z = let o : d ≡ 0 = val_inj m (discrepancy_element m s r n e) (pow_pos m) (discrepancy-at ∙ z ∙ sym (val-zero m)) in omega arith

  -- k turns from n on
  module _ (s : List ℕ) (e : Elements m s) where
    image_turns : (k n : ℕ) (r : Register) → n + k ≤ 256 → Formed m r → image r ≡ run (gf m W) (poly m s) n
        → (image (turns m s k n r) ≡ run (gf m W) (poly m s) (n + k)) × Formed m (turns m s k n r)
    unfolding turns
    image_turns zero n r h f p = (p ∙ ap (run (gf m W) (poly m s)) (sym (nat-add-zero n)), f)
    image_turns (suc k) n r h f p =
        let i : Inv (gf m W) (poly m s) n (image r) = rw p (run-inv (gf m W) (poly m s) n) in
        let t : Register = turn m (discrepancy m s r n) n r in
        let q : image t ≡ run (gf m W) (poly m s) (n + 1) =
        image_turn s r n i f e (omega arith) ∙ ap (step (gf m W) (poly m s) n) p ∙ sym (run-suc (gf m W) (poly m s) n)
        ∙ ap (run (gf m W) (poly m s)) (sym (add-one n)) in
        let z : n + 1 + k ≡ n + suc k = omega arith in
        let g = image_turns k (n + 1) t (omega arith) (formed_turn m _ n r f) q in (g.0 ∙ ap (run (gf m W) (poly m s)) z, g.1)

    -- after the first n turns
    pub after_unit : (n : ℕ) → is_unit m (after m s n).d ≡ true
    after_unit zero = start_unit m W (after m s 0) (after_none m s)
    after_unit (suc n) =
        turn_unit m (discrepancy m s (after m s n) n) n (after m s n) (after m s (suc n)) (ap (after m s) (sym (add-one n)) ∙ after_next m s n)
        (discrepancy_element m s (after m s n) n e) (after_unit n)

    module _ (n : ℕ) (h : n ≤ 256) where
      both : (image (after m s n) ≡ run (gf m W) (poly m s) n) × Formed m (after m s n)
      unfolding after
      both =
          let g = image_turns n 0 start (omega arith) (formed_start m (one_lt m W)) (image_start ∙ sym (run-zero (gf m W) (poly m s))) in
          (g.0 ∙ ap (run (gf m W) (poly m s)) (nat-zero-add n), g.1)

      after_invariant : Inv (gf m W) (poly m s) n (image (after m s n))
      after_invariant = rw both.0 (run-inv (gf m W) (poly m s) n)

      pub after_fits : ((after m s n).l ≤ n) × ((after m s n).l + (after m s n).y ≤ n + 1)
      after_fits = let y = y_fits (gf m W) after_invariant in (fits (gf m W) after_invariant, omega arith)

      pub after_lead : get_or (after m s n).c 0 0 ≡ 1
      after_lead = val_inj m (both.1.elements_c 0) (one_lt m W) (after_invariant.shortest.gen.lead ∙ sym (val_one m W))

      -- C(x) has no coefficient past l, and x^y·B(x) none past n + 1 - l
      pub after_past : (k : ℕ) → (after m s n).l < k → get_or (after m s n).c k 0 ≡ 0
      after_past k l = val_inj m (both.1.elements_c k) (pow_pos m) (after_invariant.shortest.gen.kills.short k l ∙ sym (val-zero m))

      pub after_earlier_past : (k : ℕ) → n + 1 - (after m s n).l - (after m s n).y < k → get_or (after m s n).b k 0 ≡ 0
      after_earlier_past k l = val_inj m (both.1.elements_b k) (pow_pos m) (B-past (gf m W) after_invariant k (omega arith) ∙ sym (val-zero m))

      pub after_elements : Elements m (after m s n).c
      after_elements = both.1.elements_c

    -- the laws of the register of s
    module _ (short : length s ≤ 256) where
      pub register-run : image (register m s) ≡ run (gf m W) (poly m s) (length s)
      register-run = ap image (sym (after_all m s)) ∙ (both (length s) short).0

      pub register_formed : Formed m (register m s)
      register_formed = subst (Formed m) (after_all m s) (both (length s) short).1

      pub register_invariant : Inv (gf m W) (poly m s) (length s) (image (register m s))
      register_invariant = rw register-run (run-inv (gf m W) (poly m s) (length s))

      pub register_shortest : Shortest (gf m W) (poly m (register m s).c) (register m s).l (poly m s) (length s)
      register_shortest = register_invariant.shortest

      pub register_generates : Generates (gf m W) (poly m (register m s).c) (register m s).l (poly m s) (length s)
      register_generates = register_shortest.gen

      -- no other register is as short, as a series and as a list
      pub register_unique : (register m s).l + (register m s).l ≤ length s → {c : Series (Elem m)}
          → Generates (gf m W) c (register m s).l (poly m s) (length s) → poly m (register m s).c ≡ c
      register_unique h g = unique (gf m W) register_shortest h g

      pub register_unique_list : (register m s).l + (register m s).l ≤ length s → (c : List ℕ) → length c ≡ 257 → Elements m c
          → Generates (gf m W) (poly m c) (register m s).l (poly m s) (length s) → (register m s).c ≡ c
      register_unique_list h c l k g = poly_inj m (register m s).c c (register_formed.length_c ∙ sym l) register_formed.elements_c k (register_unique h g)

      pub register_lead : get_or (register m s).c 0 0 ≡ 1
      register_lead = val_inj m (register_formed.elements_c 0) (one_lt m W) (register_generates.lead ∙ sym (val_one m W))

      pub register_past : (k : ℕ) → (register m s).l < k → get_or (register m s).c k 0 ≡ 0
      register_past k h =
          val_inj m (register_formed.elements_c k) (pow_pos m) (register_generates.kills.short k h ∙ sym (val-zero m))

      pub register-length : ((register m s).l ≤ length s) × (length (register m s).c ≡ 257)
      register-length = (fits (gf m W) register_invariant, register_formed.length_c)

      pub register-elements : Elements m (register m s).c
      register-elements = register_formed.elements_c
