-- Numbers in decimal: the last digit behind the others. Assumes nothing.
use mathlib.Core.Path.{◌≡◌, sym, ap, ◌∙◌}
use mathlib.Core.Bool.{Bool, cond}
use mathlib.Core.List.{List, [], ◌∷◌, ◌++◌}
use Prim.Native.Nat.{ℕ, zero, suc, ◌+◌, ◌/◌, ◌%◌, ◌^◌, ◌≤◌, ◌<◌}
use native.Mathlib.Nat.{mod-eq_of_lt, pow-suc}
use native.Mathlib.Omega.{arith}
use native.Mathlib.Decide.{dec_lt}
use borrow.Author.Tests.{lt-ltb, le-ltb}
use lib.ListN.{length, length-append}
use Rattle.opener.specs.Report.{digits, decimal}

pub digits_small : (k n : ℕ) → n < 10 → digits (suc k) n ≡ (48 + n) ∷ []
unfolding digits
digits_small k n h =
    ap (λ (b : Bool). cond b [] (digits k (n / 10)) ++ ((48 + n % 10) ∷ [])) (lt-ltb n 10 h) ∙ ap (λ (d : ℕ). (48 + d) ∷ []) (mod-eq_of_lt h)

pub digits-large : (k n : ℕ) → 10 ≤ n → digits (suc k) n ≡ digits k (n / 10) ++ ((48 + n % 10) ∷ [])
unfolding digits
digits-large k n h = ap (λ (b : Bool). cond b [] (digits k (n / 10)) ++ ((48 + n % 10) ∷ [])) (le-ltb n 10 h)

pub tenth : (n : ℕ) → 10 ≤ n → n / 10 < n
tenth n h = omega arith

-- more digits than needed change nothing
digits_enough : (k j n : ℕ) → n < k → n < j → digits k n ≡ digits j n
digits_enough zero j n h g = absurd (omega arith)
digits_enough (suc k) zero n h g = absurd (omega arith)
digits_enough (suc k) (suc j) n h g = elim (dec_lt n 10) [
  | yes s ↦ digits_small k n s ∙ sym (digits_small j n s)
  | no l ↦
      let e : 10 ≤ n = omega arith in
      let t : n / 10 < n = tenth n e in
      digits-large k n e ∙ ap (λ (d : List ℕ). d ++ ((48 + n % 10) ∷ [])) (digits_enough k j (n / 10) (omega arith) (omega arith)) ∙ sym (digits-large j n e)
]

pub decimal_small : (n : ℕ) → n < 10 → decimal n ≡ (48 + n) ∷ []
unfolding decimal
decimal_small n h = digits_small n n h

pub decimal-large : (n : ℕ) → 10 ≤ n → decimal n ≡ decimal (n / 10) ++ ((48 + n % 10) ∷ [])
unfolding decimal
decimal-large n h =
    let t : n / 10 < n = tenth n h in
    digits-large n n h ∙ ap (λ (d : List ℕ). d ++ ((48 + n % 10) ∷ [])) (digits_enough n (suc (n / 10)) (n / 10) t (omega arith))

-- a number below 10^(k+1) has at most k + 1 digits
pub decimal_short : (k n : ℕ) → n < 10 ^ suc k → length (decimal n) ≤ suc k
decimal_short zero n h = rw (decimal_small n h) (omega arith)
decimal_short (suc k) n h = elim (dec_lt n 10) [
  | yes s ↦ rw (decimal_small n s) (omega arith)
  | no l ↦
      let e : 10 ≤ n = omega arith in
      let r : length (decimal (n / 10)) ≤ suc k = decimal_short k (n / 10) (omega (arith, pow-suc 10 (suc k))) in
      rw (decimal-large n e) (simp length-append (omega arith))
]
