-- In the pivots' columns the echelon form is the identity; so [I|T]·e is the product of its rows with e. Assumes nothing.
use mathlib.Core.Path.{◌≡◌, refl, sym, ap, ap₂, ◌∙◌, subst}
use mathlib.Core.Logic.{◌≢◌, ◌↔◌}
use mathlib.Core.Bool.{Bool, true, false, cond}
use mathlib.Core.List.{List, [], ◌∷◌, ◌++◌, map, zip_with}
use mathlib.Core.Option.{some}
use Prim.Native.Nat.{ℕ, zero, suc, ◌+◌, ◌-◌, ◌*◌, ◌≤◌, ◌<◌, suc-le-suc}
use native.Mathlib.Nat.{zero-add, add-zero, zero-mul, one-mul, mul-zero, mul-one, suc_inj, zero-lt-suc, not-suc-le-zero, le_of_suc-le-suc, suc-ne-zero, min-eq_left}
use native.Mathlib.Decide.{dec_lt}
use native.Mathlib.Omega.{arith}
use lib.Dec.{eqb}
use lib.ListN.{length, get_or, take, drop, replicate, length-map, length-append, length-take}
use lib.Seq.{get_or-take}
use borrow.Author.Tests.{eqb-true}
use Rattle.bits.specs.Xor.{◌⊕◌}
use Rattle.bits.specs.Bits.{Row, from, dot}
use Rattle.bits.proofs.Xor.{zero_xor, xor-zero, xor_self}
use Rattle.bits.proofs.Lists.{cons_eq, from_at, from-add, length_from}
use Rattle.bits.proofs.Pack.{row_length}
use Rattle.bits.proofs.Rows.{get_d_xor_row}
use Rattle.bits.proofs.Product.{dot_comm}
use Rattle.key.specs.Keys.{Key}
use Rattle.code.specs.Code.{in_code, parity_rows}
use Rattle.code.specs.PublicKey.{Matrix, Pivot, missing, pivot, with_row, find_pivot, clear, Echelon, with_pivot, columns, echelon, public_key}
use Rattle.code.specs.Lock.{locked}
use Rattle.code.proofs.Kernel.{Rows, Kernel, Bits, Taken, here, there, taken, rows_taken, step-bits, echelon_kernel, rows_parity_rows, length-parity_rows}
use Rattle.code.proofs.Kernel as kernel
use Rattle.code.proofs.Parity.{code_kernel}
use Rattle.code.proofs.PublicKey.{public_echelon, echelon_count}

-- a cleared row, by columns
scaled_at : (x : ℕ) (p : List ℕ) (c : ℕ) → get_or (map (◌*◌ x) p) c 0 ≡ x * get_or p c 0
scaled_at x [] c = sym (mul-zero x)
scaled_at x (y ∷ p) zero = refl
scaled_at x (y ∷ p) (suc c) = scaled_at x p c

pub clear_at : {n : ℕ} {p r : List ℕ} (j : ℕ) → Row n p → Row n r → (c : ℕ) → get_or (clear j p r) c 0 ≡ get_or r c 0 ⊕ get_or r j 0 * get_or p c 0
unfolding clear
clear_at {p} {r} j a b c =
    let l : length (map (◌*◌ (get_or r j 0)) p) ≡ length r = length-map p (◌*◌ (get_or r j 0)) ∙ row_length a ∙ sym (row_length b) in
    get_d_xor_row r (map (◌*◌ (get_or r j 0)) p) c (omega arith) ∙ ap (◌⊕◌ (get_or r c 0)) (scaled_at (get_or r j 0) p c)

-- a column where p has 0 keeps its bit; the column of the pivot becomes 0
clear_keeps : {n : ℕ} {p r : List ℕ} (j : ℕ) → Row n p → Row n r → (c : ℕ) → get_or p c 0 ≡ 0 → get_or (clear j p r) c 0 ≡ get_or r c 0
clear_keeps {p} {r} j a b c z =
    clear_at j a b c ∙ ap (λ (x : ℕ). get_or r c 0 ⊕ get_or r j 0 * x) z ∙ ap (◌⊕◌ (get_or r c 0)) (mul-zero (get_or r j 0)) ∙ xor-zero (get_or r c 0)

clear_own : {n : ℕ} {p r : List ℕ} (j : ℕ) → Row n p → Row n r → get_or p j 0 ≡ 1 → get_or (clear j p r) j 0 ≡ 0
clear_own {p} {r} j a b o =
    clear_at j a b j ∙ ap (λ (x : ℕ). get_or r j 0 ⊕ get_or r j 0 * x) o ∙ ap (◌⊕◌ (get_or r j 0)) (mul-one (get_or r j 0)) ∙ xor_self (get_or r j 0)

pivot_one : (j : ℕ) (rs : Matrix) (p : List ℕ) (others : Matrix) → find_pivot j rs ≡ pivot p others → get_or p j 0 ≡ 1
unfolding find_pivot with_row
pivot_one j [] p others h = let z : ◌≡◌ {A = ℕ} 0 1 = cc in absurd (omega arith)
pivot_one j (r ∷ rs) p others h = go (eqb (get_or r j 0) 1) refl (find_pivot j rs) (pivot_one j rs) h
  where
    go : (b : Bool) → eqb (get_or r j 0) 1 ≡ b → (q : Pivot) → ((p : List ℕ) (others : Matrix) → q ≡ pivot p others → get_or p j 0 ≡ 1)
        → cond b (pivot r rs) (with_row r q) ≡ pivot p others → get_or p j 0 ≡ 1
    go true e q f h = let a : r ≡ p = cc in subst (λ (x : List ℕ). get_or x j 0 ≡ 1) a (eqb-true (get_or r j 0) 1 e)
    go false e missing f h = let z : ◌≡◌ {A = ℕ} 0 1 = cc in absurd (omega arith)
    go false e (pivot q o) f h = let a : q ≡ p = cc in subst (λ (x : List ℕ). get_or x j 0 ≡ 1) a (f q o refl)

-- the row has 0 in each of the columns
pub data Zeros (r : List ℕ) : List ℕ → Type 0 where
  none : Zeros r []
  col : {c : ℕ} {cs : List ℕ} → get_or r c 0 ≡ 0 → Zeros r cs → Zeros r (c ∷ cs)

pub zeros_end : {r cs : List ℕ} (j : ℕ) → Zeros r cs → get_or r j 0 ≡ 0 → Zeros r (cs ++ (j ∷ []))
zeros_end j none z = col z none
zeros_end j (col y zs) z = col y (zeros_end j zs z)

zeros_at : {r cs : List ℕ} → Zeros r cs → (i d : ℕ) → i < length cs → get_or r (get_or cs i d) 0 ≡ 0
zeros_at none i d h = absurd (not-suc-le-zero h)
zeros_at (col z zs) zero d h = z
zeros_at (col z zs) (suc i) d h = zeros_at zs i d (le_of_suc-le-suc h)

zeros_clear : {n : ℕ} {p r cs : List ℕ} (j : ℕ) → Row n p → Row n r → Zeros p cs → Zeros r cs → Zeros (clear j p r) cs
zeros_clear j a b none none = none
zeros_clear j a b (col y ys) (col {c = c} z zs) = col (clear_keeps j a b c y ∙ z) (zeros_clear j a b ys zs)

pub data EachZeros (cs : List ℕ) : Matrix → Type 0 where
  none : EachZeros cs []
  each : {r : List ℕ} {rs : Matrix} → Zeros r cs → EachZeros cs rs → EachZeros cs (r ∷ rs)

zeros_taken : {cs p : List ℕ} {rs others : Matrix} → Taken rs p others → EachZeros cs rs → Zeros p cs × EachZeros cs others
zeros_taken here (each z zs) = (z, zs)
zeros_taken (there t) (each z zs) = let f = zeros_taken t zs in (f.0, each z f.1)

rest_clear : {n : ℕ} {p cs : List ℕ} {rs : Matrix} (j : ℕ) → Row n p → Rows n rs → get_or p j 0 ≡ 1 → Zeros p cs → EachZeros cs rs
    → EachZeros (cs ++ (j ∷ [])) (map (clear j p) rs)
rest_clear j a kernel.none o y none = none
rest_clear j a (kernel.row b m) o y (each z zs) =
    each (zeros_end j (zeros_clear j a b y z) (clear_own j a b o)) (rest_clear j a m o y zs)

-- the row of each column: 0 in the columns before, 1 in its own, 0 in those behind
pub data Units : List ℕ → List ℕ → Matrix → Type 0 where
  none : {pre : List ℕ} → Units pre [] []
  unit : {pre cs d : List ℕ} {c : ℕ} {ds : Matrix} → Zeros d pre → get_or d c 0 ≡ 1 → Zeros d cs
      → Units (pre ++ (c ∷ [])) cs ds → Units pre (c ∷ cs) (d ∷ ds)

units_step : {n : ℕ} {p pre cs : List ℕ} {ds : Matrix} (j : ℕ) → Row n p → Rows n ds → get_or p j 0 ≡ 1 → Zeros p pre → Zeros p cs
    → Units pre cs ds → Units pre (cs ++ (j ∷ [])) (map (clear j p) ds ++ (p ∷ []))
units_step j a kernel.none o x none none = unit x o none none
units_step {n = n} {p = p} {pre = pre} j a kernel.none o x (col {c = c} {cs = cs} y ys) u = elim u [ ]
units_step {n = n} {p = p} {pre = pre} j a (kernel.row {r = r} {rs = rs} b m) o x none u = elim u [ ]
units_step j a (kernel.row b m) o x (col {c = c} y ys) (unit z w zs us) =
    unit (zeros_clear j a b x z) (clear_keeps j a b c y ∙ w) (zeros_end j (zeros_clear j a b ys zs) (clear_own j a b o))
    (units_step j a m o (zeros_end c x y) ys us)

-- the rows with a pivot are the identity in the pivots' columns, and the others are 0 there
pub record Reduced (n : ℕ) (e : Echelon) : Type 0 where
  pub bits : Bits n e
  pub units : Units [] e.pivots e.done
  pub rest : EachZeros e.pivots e.rest

pub step-reduced : {n : ℕ} (j : ℕ) (e : Echelon) (q : Pivot) → find_pivot j e.rest ≡ q → Reduced n e → Reduced n (with_pivot j e q)
unfolding with_pivot
step-reduced j e missing h b = b
step-reduced j e (pivot p others) h b =
    let t = taken j e.rest p others h in
    let m = rows_taken t b.bits.rest in
    let z = zeros_taken t b.rest in
    let o = pivot_one j e.rest p others h in
    record {
      bits = step-bits j e (pivot p others) h b.bits;
      units = units_step j m.0 b.bits.done o none z.0 b.units;
      rest = rest_clear j m.0 m.1 o z.0 z.1;
    }

columns-reduced : {n : ℕ} (i j : ℕ) (e : Echelon) → Reduced n e → Reduced n (columns i j e)
unfolding columns
columns-reduced zero j e b = b
columns-reduced (suc i) j e b = columns-reduced i (suc j) _ (step-reduced j e _ refl b)

no_zeros : (rs : Matrix) → EachZeros [] rs
no_zeros [] = none
no_zeros (r ∷ rs) = each none (no_zeros rs)

pub start-reduced : {n : ℕ} {rows : Matrix} → Rows n rows → Reduced n (record { done = []; rest = rows; pivots = [] })
start-reduced {rows} m = record { bits = record { done = kernel.none; rest = m }; units = none; rest = no_zeros rows }

echelon-reduced : {n : ℕ} {rows : Matrix} (i : ℕ) → Rows n rows → Reduced n (echelon i rows)
unfolding echelon
echelon-reduced i m = columns-reduced i 0 _ (start-reduced m)

-- the product of a row that is 0, or a unit, in its first m columns
dot-nil : (d : List ℕ) → dot d [] ≡ 0
unfolding dot
dot-nil d = dot_comm d []

pub dot_behind : (m : ℕ) (d e : List ℕ) → ((j : ℕ) → j < m → get_or d j 0 ≡ 0) → dot d e ≡ dot (drop m d) (drop m e)
unfolding dot
dot_behind zero d e h = refl
dot_behind (suc m) [] e h = refl
dot_behind (suc m) (x ∷ d) [] h = sym (dot-nil (drop m d))
dot_behind (suc m) (x ∷ d) (y ∷ e) h =
    ap (λ (z : ℕ). z * y ⊕ dot d e) (h 0 (zero-lt-suc m)) ∙ ap (λ (z : ℕ). z ⊕ dot d e) (zero-mul y) ∙ zero_xor (dot d e)
    ∙ dot_behind m d e (λ j l. h (suc j) (suc-le-suc l))

dot_unit : (m i : ℕ) (d e : List ℕ) → i < m → get_or d i 0 ≡ 1 → ((j : ℕ) → j < m → j ≢ i → get_or d j 0 ≡ 0)
    → dot d e ≡ get_or e i 0 ⊕ dot (drop m d) (drop m e)
unfolding dot
dot_unit zero i d e l o h = absurd (not-suc-le-zero l)
dot_unit (suc m) i [] e l o h = absurd (omega arith)
dot_unit (suc m) i (x ∷ d) [] l o h = sym (zero_xor (dot (drop m d) []) ∙ dot-nil (drop m d))
dot_unit (suc m) zero (x ∷ d) (y ∷ e) l o h =
    ap₂ ◌⊕◌ (ap (λ (z : ℕ). z * y) o ∙ one-mul y) (dot_behind m d e (λ j l. h (suc j) (suc-le-suc l) (suc-ne-zero j)))
dot_unit (suc m) (suc i) (x ∷ d) (y ∷ e) l o h =
    ap (λ (z : ℕ). z * y ⊕ dot d e) (h 0 (zero-lt-suc m) (λ z. suc-ne-zero i (sym z)))
    ∙ ap (λ (z : ℕ). z ⊕ dot d e) (zero-mul y) ∙ zero_xor (dot d e)
    ∙ dot_unit m i d e (le_of_suc-le-suc l) o (λ j l n. h (suc j) (suc-le-suc l) (λ z. n (suc_inj z)))

pub zeros_from : {d : List ℕ} (k l : ℕ) → Zeros d (from k l) → (i : ℕ) → i < l → get_or d (k + i) 0 ≡ 0
zeros_from {d} k l z i h = ap (λ (c : ℕ). get_or d c 0) (sym (from_at k l i 0 h)) ∙ zeros_at z i 0 (rw length_from h)

-- the row of column i of the first m
unit_dot : (m i l : ℕ) (d e : List ℕ) → i + suc l ≡ m → Zeros d (from 0 i) → get_or d i 0 ≡ 1 → Zeros d (from (suc i) l)
    → dot d e ≡ get_or e i 0 ⊕ dot (drop m d) (drop m e)
unit_dot m i l d e s z o w = dot_unit m i d e (omega arith) o (λ j h n. go j h n (dec_lt j i))
  where
    go : (j : ℕ) → j < m → j ≢ i → Dec (j < i) → get_or d j 0 ≡ 0
    go j h n (yes b) = ap (λ (c : ℕ). get_or d c 0) (sym (zero-add j)) ∙ zeros_from 0 i z j b
    go j h n (no b) =
        let r : suc i + (j - suc i) ≡ j = omega arith in
        ap (λ (c : ℕ). get_or d c 0) (sym r) ∙ zeros_from (suc i) l w (j - suc i) (omega arith)

next : (i q : ℕ) → i + suc q ≡ suc i + q
next i q = omega arith

pub from_end : (i : ℕ) → from 0 i ++ (i ∷ []) ≡ from 0 (suc i)
unfolding from
from_end i =
    let e : i + 1 ≡ suc i = omega arith in
    ap (λ (x : ℕ). from 0 i ++ (x ∷ [])) (sym (zero-add i)) ∙ sym (from-add 0 i 1) ∙ ap (from 0) e

zip_units : (m i l : ℕ) {pre cs : List ℕ} {ds : Matrix} (b e : List ℕ) → i + l ≡ m → pre ≡ from 0 i → cs ≡ from i l → Units pre cs ds
    → length b ≡ l → ((q : ℕ) → q < l → get_or b q 0 ≡ get_or e (i + q) 0)
    → zip_with (λ x r. x ⊕ dot r (drop m e)) b (map (drop m) ds) ≡ map (λ r. dot r e) ds
unfolding zip_with from
zip_units m i l [] e s f g none h k = refl
zip_units m i l (x ∷ b) e s f g none h k = refl
zip_units m i zero b e s f g (unit z o w us) h k = let x : ◌≡◌ {A = ℕ} 0 1 = cc in absurd (omega arith)
zip_units m i (suc l) [] e s f g (unit z o w us) h k = absurd (suc-ne-zero l (sym h))
zip_units m i (suc l) (x ∷ b) e s f g (unit {pre = pre} {cs = cs} {d = d} {c = c} z o w us) h k =
    let a : c ≡ i = cc in
    let t : cs ≡ from (suc i) l = cc in
    let u : suc i + l ≡ m = omega arith in
    cons_eq
    (ap (λ (y : ℕ). y ⊕ dot (drop m d) (drop m e)) (k 0 (zero-lt-suc l) ∙ ap (λ (q : ℕ). get_or e q 0) (add-zero i))
    ∙ sym (unit_dot m i l d e s (subst (Zeros d) f z) (subst (λ (j : ℕ). get_or d j 0 ≡ 1) a o) (subst (Zeros d) t w)))
    (zip_units m (suc i) l b e u (ap₂ (λ (r : List ℕ) (j : ℕ). r ++ (j ∷ [])) f a ∙ from_end i) t us (suc_inj h)
    (λ q n. k (suc q) (suc-le-suc n) ∙ ap (λ (j : ℕ). get_or e j 0) (next i q)))

-- there are as many rows as columns
units_length : {pre cs : List ℕ} {ds : Matrix} → Units pre cs ds → length ds ≡ length cs
units_length none = refl
units_length (unit z o w us) = ap suc (units_length us)

pub reduced-length : {n : ℕ} {f : Echelon} (m : ℕ) → Reduced n f → f.pivots ≡ from 0 m → length f.done ≡ m
reduced-length m b p = units_length b.units ∙ ap length p ∙ length_from 0 m

-- where the first m columns have the pivots, [I|T]·e, with T the columns behind them, is the product of the rows with e
pub reduced-product : {n : ℕ} {f : Echelon} (m : ℕ) → Reduced n f → f.pivots ≡ from 0 m → (e : List ℕ) → m ≤ length e
    → locked (map (drop m) f.done) e ≡ map (λ r. dot r e) f.done
unfolding locked from
reduced-product {f = f} m b p e l =
    let rows : Matrix = map (drop m) f.done in
    ap (λ (i : ℕ). zip_with (λ b r. b ⊕ dot r (drop i e)) (take i e) rows) (length-map f.done (drop m) ∙ reduced-length m b p)
    ∙ zip_units m 0 m (take m e) e (zero-add m) refl p b.units
    (length-take m e ∙ min-eq_left l) (λ q n. get_or-take m e q 0 n ∙ ap (λ (i : ℕ). get_or e i 0) (sym (zero-add q)))

-- [I|T]·e is the product of the echelon form's rows with e
pub locked-product : (k : Key) (rows : Matrix) → public_key k ≡ some rows → length k.support ≡ k.n → (e : List ℕ) → k.m * k.t ≤ length e
    → locked rows e ≡ map (λ r. dot r e) (echelon k.n (parity_rows k)).done
locked-product k rows p h e l =
    let f = public_echelon k rows p in
    ap (λ (rs : Matrix). locked rs e) f.columns
    ∙ reduced-product (k.m * k.t) (echelon-reduced k.n (rows_parity_rows k h)) f.pivots e l

-- no row is lost: where the pivots are as many as the rows, none is left
taken_length : {p : List ℕ} {rs others : Matrix} → Taken rs p others → length rs ≡ suc (length others)
taken_length here = refl
taken_length (there t) = ap suc (taken_length t)

one_more_lem : (a b c : ℕ) → b ≡ suc c → a + 1 + c ≡ a + b
one_more_lem a b c h = omega arith

pub step-total : (j : ℕ) (e : Echelon) (q : Pivot) → find_pivot j e.rest ≡ q
    → length (with_pivot j e q).done + length (with_pivot j e q).rest ≡ length e.done + length e.rest
unfolding with_pivot
step-total j e missing h = refl
step-total j e (pivot p others) h =
    ap₂ ◌+◌ (length-append (map (clear j p) e.done) (p ∷ []) ∙ ap (λ (i : ℕ). i + 1) (length-map e.done (clear j p)))
    (length-map others (clear j p))
    ∙ one_more_lem (length e.done) (length e.rest) (length others) (taken_length (taken j e.rest p others h))

columns-total : (i j : ℕ) (e : Echelon) → length (columns i j e).done + length (columns i j e).rest ≡ length e.done + length e.rest
unfolding columns
columns-total zero j e = refl
columns-total (suc i) j e = columns-total i (suc j) _ ∙ step-total j e (find_pivot j e.rest) refl

pub echelon-total : (i : ℕ) (rows : Matrix) → length (echelon i rows).done + length (echelon i rows).rest ≡ length rows
unfolding echelon
echelon-total i rows = columns-total i 0 _ ∙ zero-add (length rows)

-- where no row is left, more columns change nothing
pub columns_none : (k j : ℕ) (e : Echelon) → e.rest ≡ [] → columns k j e ≡ e
unfolding columns find_pivot with_pivot
columns_none zero j e h = refl
columns_none (suc k) j e h =
    ap (λ (r : Matrix). columns k (suc j) (with_pivot j e (find_pivot j r))) h ∙ columns_none k (suc j) e h

-- the kernel, by the list of products
kernel_zeros : {c : List ℕ} {rs : Matrix} → Kernel c rs → map (λ r. dot r c) rs ≡ replicate (length rs) 0
kernel_zeros kernel.none = refl
kernel_zeros (kernel.zero_row z k) = cons_eq z (kernel_zeros k)

pub zeros_kernel : (c : List ℕ) (rs : Matrix) → map (λ r. dot r c) rs ≡ replicate (length rs) 0 → Kernel c rs
zeros_kernel c [] h = kernel.none
zeros_kernel c (r ∷ rs) h =
    let z : dot r c ≡ 0 = cc in
    let t : map (λ x. dot x c) rs ≡ replicate (length rs) 0 = cc in
    kernel.zero_row z (zeros_kernel c rs t)

empty_kernel : (c : List ℕ) (rs : Matrix) → length rs ≡ 0 → Kernel c rs
empty_kernel c [] h = kernel.none
empty_kernel c (r ∷ rs) h = absurd (suc-ne-zero (length rs) h)

-- under the public key a word is in the code exactly when [I|T] makes 0 of it
module _ (k : Key) (rows : Matrix) (p : public_key k ≡ some rows) (h : length k.support ≡ k.n) (l : k.m * k.t ≤ k.n) {c : List ℕ} (w : Row k.n c) where
  form : Echelon
  form = echelon k.n (parity_rows k)

  done_length : length form.done ≡ k.m * k.t
  unfolding form
  done_length = echelon_count k.n (parity_rows k) ∙ ap length (public_echelon k rows p).pivots ∙ length_from 0 (k.m * k.t)

  rest_length : length form.rest ≡ 0
  unfolding form
  rest_length =
      let a : length form.done + length form.rest ≡ k.m * k.t = echelon-total k.n (parity_rows k) ∙ length-parity_rows k in
      let b : length form.done ≡ k.m * k.t = done_length in
      omega arith

  products : locked rows c ≡ map (λ r. dot r c) form.done
  unfolding form
  products = locked-product k rows p h c (rw (row_length w) l)

  pub locked-code : (in_code k c ≡ true) ↔ (locked rows c ≡ replicate (k.m * k.t) 0)
  unfolding form
  locked-code = (
    λ i.
        let z = (echelon_kernel k.n (rows_parity_rows k h)).0 ((code_kernel k w).0 i) in
        products ∙ kernel_zeros z.done ∙ ap (λ (j : ℕ). replicate j 0) done_length,
    λ z.
        let d = zeros_kernel c form.done (sym products ∙ z ∙ ap (λ (j : ℕ). replicate j 0) (sym done_length)) in
        (code_kernel k w).1 ((echelon_kernel k.n (rows_parity_rows k h)).1 (record { done = d; rest = empty_kernel c form.rest rest_length })),
  )
