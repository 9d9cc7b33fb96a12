-- The steps of Euclid's algorithm by cases, and that they end. Assumes nothing.
use mathlib.Core.Path.{◌≡◌, refl, sym, ap, ◌∙◌, subst}
use mathlib.Core.Bool.{Bool, true, false}
use Prim.Native.Nat.{ℕ, zero, suc, ◌+◌, ◌-◌, ◌*◌, ◌≤◌, ◌<◌}
use native.Mathlib.Omega.{arith}
use native.Mathlib.Decide.{dec_lt}
use borrow.Author.Tests.{eqb-true, eqb-false, eq-eqb, ne_eqb, lt-ltb, le-ltb}
use lib.Dec.{eqb}
use lib.ListN.{get_or}
use Rattle.euclid.specs.declared.common.Pair.{Pair}
use Rattle.euclid.specs.Euclid.{lowered, swapped, reduced, step, steps}

-- the top coefficient of b is 0
abbrev pub Low : Pair → Type 0
Low p = get_or p.b (p.db - 1) 0 ≡ 0

-- the step by cases
pub step-low : (m : ℕ) (p : Pair) → Low p → step m p ≡ lowered p
unfolding step
step-low m p e = rw (eq-eqb (get_or p.b (p.db - 1) 0) 0 e)

pub step_swap : (m : ℕ) (p : Pair) → ¬ Low p → p.da < p.db → step m p ≡ swapped p
unfolding step
step_swap m p n h = rw (ne_eqb (get_or p.b (p.db - 1) 0) 0 n, lt-ltb p.da p.db h)

pub step_reduce : (m : ℕ) (p : Pair) → ¬ Low p → p.db ≤ p.da → step m p ≡ reduced m p
unfolding step
step_reduce m p n h = rw (ne_eqb (get_or p.b (p.db - 1) 0) 0 n, le-ltb p.da p.db h)

pub by_step : (m : ℕ) (P : Pair → Type 0) (p : Pair) → (Low p → P (lowered p)) → (¬ Low p → p.da < p.db → P (swapped p))
    → (¬ Low p → p.db ≤ p.da → P (reduced m p)) → P (step m p)
by_step m P p low other rest = go (eqb (get_or p.b (p.db - 1) 0) 0) refl
  where
    go : (z : Bool) → eqb (get_or p.b (p.db - 1) 0) 0 ≡ z → P (step m p)
    go true e = let z = eqb-true _ _ e in subst P (sym (step-low m p z)) (low z)
    go false e =
        let n = eqb-false _ _ e in
        elim (dec_lt p.da p.db) [
          | yes h ↦ subst P (sym (step_swap m p n h)) (other n h)
          | no h ↦ (let l : p.db ≤ p.da = omega arith in subst P (sym (step_reduce m p n l)) (rest n l))
        ]

-- the steps end
pub step_less : (m : ℕ) (p : Pair) → 0 < p.db → (step m p).da + 2 * (step m p).db < p.da + 2 * p.db
step_less m p h = by_step m (λ q. q.da + 2 * q.db < p.da + 2 * p.db) p (λ e. omega arith) (λ n l. omega arith) (λ n l. omega arith)

pub step_fit : (m : ℕ) (p : Pair) → p.da ≤ 129 → p.db ≤ 129 → ((step m p).da ≤ 129) × ((step m p).db ≤ 129)
step_fit m p a b =
    by_step m (λ q. (q.da ≤ 129) × (q.db ≤ 129)) p (λ e. (a, omega arith)) (λ n l. (b, a)) (λ n l. (omega arith, b))

pub steps_end : (m k : ℕ) (p : Pair) → p.db ≤ 0 → steps m k p ≡ p
unfolding steps
steps_end m zero p z = refl
steps_end m (suc k) p z = rw (eq-eqb p.db 0 (omega arith))

pub steps_next : (m k : ℕ) (p : Pair) → 0 < p.db → steps m (suc k) p ≡ steps m k (step m p)
unfolding steps
steps_next m k p h = rw (ne_eqb p.db 0 (λ e. omega arith))

-- r is what is left after enough steps from p on
pub record Ahead (m : ℕ) (p r : Pair) : Type 0 where
  pub turns : ℕ
  pub enough : p.da + 2 * p.db ≤ turns
  pub eq : steps m turns p ≡ r

pub ahead_start : (m : ℕ) (p : Pair) → Ahead m p (steps m (p.da + 2 * p.db) p)
ahead_start m p = record { turns = p.da + 2 * p.db; enough = omega arith; eq = refl }

pub ahead_next : (m : ℕ) (p r : Pair) → 0 < p.db → Ahead m p r → Ahead m (step m p) r
ahead_next m p r h a =
    let e : a.turns ≡ suc (a.turns - 1) = omega arith in
    record {
      turns = a.turns - 1;
      enough = omega (arith, step_less m p h);
      eq = sym (steps_next m (a.turns - 1) p h) ∙ ap (λ (k : ℕ). steps m k p) (sym e) ∙ a.eq;
    }

pub ahead_end : (m : ℕ) (p r : Pair) → p.db ≤ 0 → Ahead m p r → p ≡ r
ahead_end m p r z a = sym (steps_end m a.turns p z) ∙ a.eq

-- what each step keeps holds at the end, where b has no coefficient
pub at_end : (m : ℕ) (P : Pair → Type 0) → ((p : Pair) → P p → 0 < p.db → P (step m p))
    → (k : ℕ) (p : Pair) → p.da + 2 * p.db ≤ k → P p → P (steps m k p) × ((steps m k p).db ≤ 0)
unfolding steps
at_end m P keeps zero p h k = (k, omega arith)
at_end m P keeps (suc n) p h k = elim (dec_lt 0 p.db) [
  | yes l ↦ subst (λ q. P q × (q.db ≤ 0)) (sym (steps_next m n p l)) (at_end m P keeps n (step m p) (omega (arith, step_less m p l)) (keeps p k l))
  | no l ↦ (let z : p.db ≤ 0 = omega arith in subst (λ q. P q × (q.db ≤ 0)) (sym (steps_end m (suc n) p z)) (k, z))
]
