-- Lists that hold the values of a function, as loops fill them. Assumes nothing.
use mathlib.Core.Path.{◌≡◌, sym, ap, ap₂, ◌∙◌}
use mathlib.Core.List.{List}
use Prim.Native.Nat.{ℕ, zero, suc, ◌+◌, ◌^◌, ◌≤◌, ◌<◌, min}
use native.Mathlib.Omega.{arith}
use native.Mathlib.Decide.{ℕ_discrete}
use lib.ListN.{length, set, length-set}
use lib.Seq.{get_or-set_same, get_or-set_other}
use Rattle.network.specs.Network.{seek, val, it, low}
use Rattle.network.specs.Tables.{at, Each, Tab}
use Rattle.control_passes.proofs.Doubling.{it_double, low_double}
use Rattle.network.proofs.Lists.{get_d_any, each_perm, seek_below}

pub tab_none : (s : List ℕ) (f : ℕ → ℕ) → Tab 0 s f
tab_none s f x h = absurd (omega arith)

pub tab_set : (s : List ℕ) (f : ℕ → ℕ) (i v : ℕ) → i < length s → v ≡ f i → Tab i s f → Tab (i + 1) (set s i v) f
tab_set s f i v h e t x b = elim (ℕ_discrete x i) [
  | yes k ↦ rw k (get_or-set_same s i v 0 h ∙ e)
  | no k ↦ get_or-set_other s i x v 0 k ∙ t x (omega arith)
]

pub at_below : {s : List ℕ} → Each (length s) s → (x : ℕ) → x < length s → at s x < length s
at_below {s} e x h = rw (get_d_any s x 0 x h) (e.below x h)

-- one store of the loop that inverts
pub invert_step : (pi inv : List ℕ) (i v : ℕ) → Each (length pi) pi → i < length pi → length pi ≤ length inv → v ≡ at pi i
    → ((k : ℕ) → k < i → at inv (at pi k) ≡ k) → (k : ℕ) → k < i + 1 → at (set inv v i) (at pi k) ≡ k
invert_step pi inv i v e h f d t k b = elim (ℕ_discrete k i) [
  | yes c ↦ rw (d, c) (get_or-set_same inv (at pi i) i 0 (let l = at_below e i h in omega arith))
  | no c ↦ get_or-set_other inv v (at pi k) i 0 (λ s. c (e.once k i (omega arith) h
      (get_d_any pi k k 0 (omega arith) ∙ s ∙ d ∙ get_d_any pi i 0 i h))) ∙ t k (omega arith)
]

pub inverted : (pi inv : List ℕ) → Each (length pi) pi → ((k : ℕ) → k < length pi → at inv (at pi k) ≡ k)
    → Tab (length pi) inv (seek (val pi) (length pi))
inverted pi inv e t x h =
    let k : ℕ = seek (val pi) (length pi) x in
    let b : k < length pi = seek_below e x h in
    ap (at inv) (sym ((each_perm e).right x) ∙ get_d_any pi k k 0 b) ∙ t k b

-- one round of doubling
pub it_below : (σ : ℕ → ℕ) (n : ℕ) → ((x : ℕ) → x < n → σ x < n) → (k x : ℕ) → x < n → it σ k x < n
unfolding it
it_below σ n r zero x h = h
it_below σ n r (suc k) x h = r _ (it_below σ n r k x h)

module _ (σ : ℕ → ℕ) (n : ℕ) (range : (x : ℕ) → x < n → σ x < n) (p c : List ℕ) (i : ℕ)
    (tp : Tab n p (it σ (2 ^ i))) (tc : Tab n c (low σ (2 ^ i))) where
  pub round_it : (p2 : List ℕ) → Tab n p2 (λ x. at p (at p x)) → Tab n p2 (it σ (2 ^ (i + 1)))
  round_it p2 t x h =
      t x h ∙ ap (at p) (tp x h) ∙ tp _ (it_below σ n range (2 ^ i) x h) ∙ sym (it_double σ i x)

  pub round_low : (c2 : List ℕ) → Tab n c2 (λ x. min (at c x) (at c (at p x))) → Tab n c2 (low σ (2 ^ (i + 1)))
  round_low c2 t x h =
      t x h ∙ ap₂ min (tc x h) (ap (at c) (tp x h) ∙ tc _ (it_below σ n range (2 ^ i) x h)) ∙ sym (low_double σ i x)

-- two stores of the loop that makes the halves
module _ (out : List ℕ) (h j v w : ℕ) (f g : ℕ → ℕ) (b : j < h) (fits : h + j < length out) where
  pub halves-low : v ≡ f j → Tab j out f → Tab (j + 1) (set (set out j v) (h + j) w) f
  halves-low e t x k = get_or-set_other (set out j v) (h + j) x w 0 (omega arith) ∙ tab_set out f j v (omega arith) e t x k

  pub halves_high : w ≡ g j → ((i : ℕ) → i < j → at out (h + i) ≡ g i) → (i : ℕ) → i < j + 1 → at (set (set out j v) (h + j) w) (h + i) ≡ g i
  halves_high e t i k = elim (ℕ_discrete i j) [
    | yes d ↦ rw d (get_or-set_same (set out j v) (h + j) w 0 (simp length-set fits) ∙ e)
    | no d ↦ get_or-set_other (set out j v) (h + j) (h + i) w 0 (omega arith) ∙ get_or-set_other out j (h + i) v 0 (omega arith) ∙ t i (omega arith)
  ]
