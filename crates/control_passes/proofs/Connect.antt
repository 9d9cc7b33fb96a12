-- What the passes of one step compute, in terms of the definitions. Assumes nothing.
use mathlib.Core.Path.{◌≡◌, refl, sym, ap, ap₂, ◌∙◌, subst}
use mathlib.Core.List.{List}
use Prim.Native.Nat.{ℕ, zero, suc, ◌%◌, ◌^◌, ◌≤◌, ◌<◌, min}
use native.Mathlib.Omega.{arith}
use native.Mathlib.Nat.{pow-le-pow_right, pow-succ'}
use lib.ListN.{length}
use Rattle.network.specs.Network.{turn, around, cyc, seek, val, it, low}
use Rattle.network.specs.Tables.{at, Each, Tab}
use Rattle.control_passes.specs.Passes.{Level}
use Rattle.network.proofs.Split.{Perm, inside}
use Rattle.network.proofs.Lists.{get_d_any, each_perm, seek_below}
use Rattle.control_passes.proofs.Tabs.{it_below}

module _ (σ τ : ℕ → ℕ) (n : ℕ) (range : (x : ℕ) → x < n → τ x < n) (same : (x : ℕ) → x < n → σ x ≡ τ x) where
  it_cong : (k x : ℕ) → x < n → it σ k x ≡ it τ k x
  unfolding it
  it_cong zero x h = refl
  it_cong (suc k) x h = ap σ (it_cong k x h) ∙ same _ (it_below τ n range k x h)

  pub low_cong : (k x : ℕ) → x < n → low σ k x ≡ low τ k x
  unfolding low
  low_cong zero x h = refl
  low_cong (suc k) x h = ap₂ min (low_cong k x h) (it_cong k x h)

even_pow : (k : ℕ) → 0 < k → 2 ^ k % 2 ≡ 0
even_pow zero h = absurd (omega arith)
even_pow (suc k) h = rw (pow-succ' 2 k) (omega arith)

small_pow : (k : ℕ) → k < 17 → 2 ^ k ≤ 65536
small_pow k h = pow-le-pow_right {n = 2} (omega arith) {i = k} {j = 16} (omega arith)

module _ (k : ℕ) (pi : List ℕ) (lv : Level k pi) where
  pub size : length pi ≡ 2 ^ k
  size = lv.each.size

  pub each_len : Each (length pi) pi
  each_len = subst (λ n. Each n pi) (sym size) lv.each

  pub size_small : length pi ≤ 65536
  size_small = omega (arith, size, small_pow k lv.small)

  pub size_even : length pi % 2 ≡ 0
  size_even = rw size (even_pow k lv.some)

  perm : Perm (length pi) (val pi) (seek (val pi) (length pi))
  perm = each_perm each_len

  module _ (inv : List ℕ) (ti : Tab (length pi) inv (seek (val pi) (length pi))) where
    pub inv_below : (x : ℕ) → x < length pi → at inv x < length pi
    inv_below x h = rw (ti x h) (seek_below each_len x h)

    module _ (p : List ℕ) (tp : Tab (length pi) p (λ x. at pi (turn 1 (at inv (turn 1 x))))) where
      p_is : (x : ℕ) → x < length pi → at p x ≡ around (length pi) (val pi) (seek (val pi) (length pi)) x
      p_is x h =
          let e = size_even in
          let b = inv_below (turn 1 x) (omega arith) in
          tp x h ∙ get_d_any pi _ 0 (turn 1 (at inv (turn 1 x))) (omega arith)
          ∙ ap (λ z. val pi (turn 1 z)) (ti (turn 1 x) (omega arith))

      around_below : (x : ℕ) → x < length pi → around (length pi) (val pi) (seek (val pi) (length pi)) x < length pi
      around_below x h =
          let e = size_even in
          let b = seek_below each_len (turn 1 x) (omega arith) in inside perm _ (omega arith)

      pub p_below : (x : ℕ) → x < length pi → at p x < length pi
      p_below x h = rw (p_is x h) (around_below x h)

      pub cyc_is : (c : List ℕ) → Tab (length pi) c (low (at p) (2 ^ k)) → Tab (2 ^ k) c (cyc (2 ^ k) (val pi) (seek (val pi) (2 ^ k)))
      unfolding cyc
      cyc_is c t = subst (λ n. Tab n c (low (around n (val pi) (seek (val pi) n)) n)) size
          (λ x h. t x h ∙ low_cong (at p) _ (length pi) around_below p_is (2 ^ k) x h ∙ ap (λ n. low (around (length pi) (val pi) (seek (val pi) (length pi))) n x) (sym size))
