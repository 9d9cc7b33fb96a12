-- Rows written one after the other, known by their bytes. Assumes nothing.
use mathlib.Core.Path.{◌≡◌, sym, ap, ap₂, ◌∙◌}
use mathlib.Core.List.{List, ◌++◌, flat_map, append_assoc}
use Prim.Native.Nat.{ℕ, zero, suc, ◌+◌, ◌-◌, ◌*◌, ◌≤◌, ◌<◌}
use native.Mathlib.Nat.{zero-add, add-zero, zero-mul, suc-mul}
use native.Mathlib.Omega.{arith}
use lib.ListN.{length, get_or, take, drop, length-drop, length-append, take-append-drop}
use lib.Seq.{length-take-le, get_or-take, get_or-drop, ext_get_or, drop-drop}
use Rattle.bits.specs.Bits.{from, over}

same_bytes : (a b : List ℕ) → length a ≡ length b → ((y : ℕ) → get_or a y 0 ≡ get_or b y 0) → a ≡ b
same_bytes a b l e = ext_get_or 0 a b l (λ i h. e i)

-- n rows of `size` bytes, f's from k on
pub rows_flat : (f : ℕ → List ℕ) (size k n : ℕ) (after before : List ℕ) → ((i : ℕ) → length (f i) ≡ size) → length after ≡ length before → n * size ≤ length before
    → ((i x : ℕ) → i < n → x < size → get_or after (i * size + x) 0 ≡ get_or (f (k + i)) x 0)
    → ((y : ℕ) → n * size ≤ y → get_or after y 0 ≡ get_or before y 0)
    → after ≡ over (flat_map f (from k n)) before
unfolding over flat_map from
rows_flat f size k zero after before long same room inside outside =
    same_bytes after before same (λ y. outside y (omega (arith, zero-mul size)))
rows_flat f size k (suc n) after before long same room inside outside =
    let step : suc n * size ≡ n * size + size = suc-mul n size in
    let first : take size after ≡ f k =
    ext_get_or 0 (take size after) (f k) (length-take-le size after (omega arith) ∙ sym (long k))
    (λ x h.
    let b : x < size = omega (arith, length-take-le size after (omega arith)) in
    get_or-take size after x 0 b ∙ ap (λ (y : ℕ). get_or after y 0) (sym (zero-add x) ∙ ap (λ (z : ℕ). z + x) (sym (zero-mul size)))
    ∙ inside 0 x (omega arith) b ∙ ap (λ (i : ℕ). get_or (f i) x 0) (add-zero k)) in
    let others : drop size after ≡ over (flat_map f (from (suc k) n)) (drop size before) =
    rows_flat f size (suc k) n (drop size after) (drop size before) long
    (length-drop size after ∙ ap (λ (x : ℕ). x - size) same ∙ sym (length-drop size before))
    (omega (arith, length-drop size before))
    (λ i x h b.
    let e : size + (i * size + x) ≡ suc i * size + x = omega (arith, suc-mul i size) in
    let s : k + suc i ≡ suc k + i = omega arith in
    get_or-drop size after (i * size + x) 0 ∙ ap (λ (y : ℕ). get_or after y 0) e ∙ inside (suc i) x (omega arith) b ∙ ap (λ (y : ℕ). get_or (f y) x 0) s)
    (λ y h. get_or-drop size after y 0 ∙ outside (size + y) (omega arith) ∙ sym (get_or-drop size before y 0)) in
    let rest : List ℕ = flat_map f (from (suc k) n) in
    sym (take-append-drop size after) ∙ ap₂ (λ (a b : List ℕ). a ++ b) first others
    ∙ ap (λ (x : List ℕ). f k ++ (rest ++ x))
    (drop-drop (length rest) size before
    ∙ ap (λ (x : ℕ). drop x before) (ap (λ (x : ℕ). x + length rest) (sym (long k)) ∙ sym (length-append (f k) rest)))
    ∙ sym (append_assoc (f k) rest (drop (length (f k ++ rest)) before))
