-- Rows of bits of H and of its echelon form; row operations keep the kernel. Assumes nothing.
use mathlib.Core.Path.{◌≡◌, refl, sym, ap, ap₂, ◌∙◌, subst}
use mathlib.Core.Logic.{◌↔◌}
use mathlib.Core.Bool.{Bool, true, false, cond}
use mathlib.Core.List.{List, [], ◌∷◌, ◌++◌, map, zip_with}
use Prim.Native.Nat.{ℕ, zero, suc, ◌*◌, ◌≤◌}
use native.Mathlib.Nat.{zero-mul, one-mul, mul-zero, min-eq_left}
use native.Mathlib.Omega.{arith}
use lib.Dec.{eqb}
use lib.ListN.{length, get_or, take, drop, length-map, length-take}
use Rattle.bits.specs.Xor.{◌⊕◌}
use Rattle.bits.specs.Bits.{Row, end, off, on, from, dot}
use Rattle.bits.proofs.Xor.{Digit, low, zero_xor, xor-zero, digit_xor}
use Rattle.bits.proofs.Xor as xor
use Rattle.bits.proofs.Lists.{length_from, take_below, drop_below}
use Rattle.bits.proofs.Pack.{row_cons, row_digit, row_lt, row_length, row_of_lem}
use Rattle.bits.proofs.Rows.{row_xor_row}
use Rattle.bits.proofs.Product.{dot-xor_row, dot_digit}
use Rattle.key.specs.Keys.{Key}
use Rattle.code.specs.Code.{parity_row, parity_rows}
use Rattle.code.specs.PublicKey.{Matrix, Pivot, missing, pivot, with_row, find_pivot, clear, Echelon, with_pivot, columns, echelon}
use Rattle.code.specs.Lock.{locked}

-- every row has n bits
pub data Rows (n : ℕ) : Matrix → Type 0 where
  none : Rows n []
  row : {r : List ℕ} {rs : Matrix} → Row n r → Rows n rs → Rows n (r ∷ rs)

-- every row has the product 0 with c
pub data Kernel (c : List ℕ) : Matrix → Type 0 where
  none : Kernel c []
  zero_row : {r : List ℕ} {rs : Matrix} → dot r c ≡ 0 → Kernel c rs → Kernel c (r ∷ rs)

-- a row, cleared in column j
scaled_row : {n d : ℕ} {p : List ℕ} → Digit d → Row n p → Row n (map (◌*◌ d) p)
scaled_row g end = end
scaled_row xor.off (off r) = off (scaled_row xor.off r)
scaled_row xor.off (on r) = off (scaled_row xor.off r)
scaled_row xor.on (off r) = off (scaled_row xor.on r)
scaled_row xor.on (on r) = on (scaled_row xor.on r)

dot-scaled : {d : ℕ} → Digit d → (p c : List ℕ) → dot (map (◌*◌ d) p) c ≡ d * dot p c
unfolding dot
dot-scaled {d} g [] c = sym (mul-zero d)
dot-scaled {d} g (x ∷ p) [] = sym (mul-zero d)
dot-scaled xor.off (x ∷ p) (y ∷ c) =
    ap₂ ◌⊕◌ (ap (λ (z : ℕ). z * y) (zero-mul x) ∙ zero-mul y) (dot-scaled xor.off p c ∙ zero-mul _) ∙ zero_xor 0 ∙ sym (zero-mul _)
dot-scaled xor.on (x ∷ p) (y ∷ c) =
    ap₂ ◌⊕◌ (ap (λ (z : ℕ). z * y) (one-mul x)) (dot-scaled xor.on p c ∙ one-mul _) ∙ sym (one-mul _)

pub row_clear : {n : ℕ} {p r : List ℕ} (j : ℕ) → Row n p → Row n r → Row n (clear j p r)
unfolding clear
row_clear j a b = row_xor_row b (scaled_row (row_digit b j) a)

pub dot-clear : {n : ℕ} {p r : List ℕ} (j : ℕ) → Row n p → Row n r → (c : List ℕ) → dot (clear j p r) c ≡ dot r c ⊕ get_or r j 0 * dot p c
unfolding clear
dot-clear {p} {r} j a b c =
    dot-xor_row b (scaled_row (row_digit b j) a) c ∙ ap (◌⊕◌ (dot r c)) (dot-scaled (row_digit b j) p c)

-- where the row p has the product 0 with c, clearing by p changes no product
dot-cleared : {n : ℕ} {p r : List ℕ} (j : ℕ) → Row n p → Row n r → (c : List ℕ) → dot p c ≡ 0 → dot (clear j p r) c ≡ dot r c
dot-cleared {p} {r} j a b c e =
    dot-clear j a b c ∙ ap (λ (x : ℕ). dot r c ⊕ get_or r j 0 * x) e
    ∙ ap (◌⊕◌ (dot r c)) (mul-zero (get_or r j 0)) ∙ xor-zero (dot r c)

rows_clear : {n : ℕ} {p : List ℕ} {rs : Matrix} (j : ℕ) → Row n p → Rows n rs → Rows n (map (clear j p) rs)
rows_clear j a none = none
rows_clear j a (row b m) = row (row_clear j a b) (rows_clear j a m)

clear_forth : {n : ℕ} {c p : List ℕ} {rs : Matrix} (j : ℕ) → Row n p → Rows n rs → dot p c ≡ 0 → Kernel c rs → Kernel c (map (clear j p) rs)
clear_forth j a none e none = none
clear_forth {c} j a (row b m) e (zero_row z k) = zero_row (dot-cleared j a b c e ∙ z) (clear_forth j a m e k)

clear_back : {n : ℕ} {c p : List ℕ} {rs : Matrix} (j : ℕ) → Row n p → Rows n rs → dot p c ≡ 0 → Kernel c (map (clear j p) rs) → Kernel c rs
clear_back j a none e none = none
clear_back {c} j a (row b m) e (zero_row z k) = zero_row (sym (dot-cleared j a b c e) ∙ z) (clear_back j a m e k)

-- the row p, taken out of the rows, leaves the others
pub data Taken : Matrix → List ℕ → Matrix → Type 0 where
  here : {p : List ℕ} {rs : Matrix} → Taken (p ∷ rs) p rs
  there : {r p : List ℕ} {rs others : Matrix} → Taken rs p others → Taken (r ∷ rs) p (r ∷ others)

differ : {A : Type 0} → ◌≡◌ {A = ℕ} 0 1 → A
differ e = absurd (omega arith)

pub taken : (j : ℕ) (rs : Matrix) (p : List ℕ) (others : Matrix) → find_pivot j rs ≡ pivot p others → Taken rs p others
unfolding find_pivot with_row
taken j [] p others h = differ (cc)
taken j (r ∷ rs) p others h = go (eqb (get_or r j 0) 1) (find_pivot j rs) (taken j rs) h
  where
    go : (b : Bool) (q : Pivot) → ((p : List ℕ) (others : Matrix) → q ≡ pivot p others → Taken rs p others)
        → cond b (pivot r rs) (with_row r q) ≡ pivot p others → Taken (r ∷ rs) p others
    go true q f h =
        let a : r ≡ p = cc in
        let b : rs ≡ others = cc in
        subst (λ (x : List ℕ). Taken (r ∷ rs) x others) a (subst (Taken (r ∷ rs) r) b here)
    go false missing f h = differ (cc)
    go false (pivot q o) f h =
        let a : q ≡ p = cc in
        let b : r ∷ o ≡ others = cc in
        subst (λ (x : List ℕ). Taken (r ∷ rs) x others) a (subst (Taken (r ∷ rs) q) b (there (f q o refl)))

pub rows_taken : {n : ℕ} {p : List ℕ} {rs others : Matrix} → Taken rs p others → Rows n rs → Row n p × Rows n others
rows_taken here (row b m) = (b, m)
rows_taken (there t) (row b m) = let f = rows_taken t m in (f.0, row b f.1)

taken_forth : {c p : List ℕ} {rs others : Matrix} → Taken rs p others → Kernel c rs → (dot p c ≡ 0) × Kernel c others
taken_forth here (zero_row z k) = (z, k)
taken_forth (there t) (zero_row z k) = let f = taken_forth t k in (f.0, zero_row z f.1)

taken_back : {c p : List ℕ} {rs others : Matrix} → Taken rs p others → dot p c ≡ 0 → Kernel c others → Kernel c rs
taken_back here e k = zero_row e k
taken_back (there t) e (zero_row z k) = zero_row z (taken_back t e k)

-- one row more at the end
rows_end : {n : ℕ} {p : List ℕ} {rs : Matrix} → Rows n rs → Row n p → Rows n (rs ++ (p ∷ []))
rows_end none a = row a none
rows_end (row b m) a = row b (rows_end m a)

end_forth : {c : List ℕ} {rs : Matrix} (p : List ℕ) → Kernel c rs → dot p c ≡ 0 → Kernel c (rs ++ (p ∷ []))
end_forth p none e = zero_row e none
end_forth p (zero_row z k) e = zero_row z (end_forth p k e)

end_back : {c : List ℕ} (p : List ℕ) (rs : Matrix) → Kernel c (rs ++ (p ∷ [])) → Kernel c rs × (dot p c ≡ 0)
end_back p [] (zero_row z k) = (none, z)
end_back p (r ∷ rs) (zero_row z k) = let f = end_back p rs k in (zero_row z f.0, f.1)

-- both parts of an echelon form: rows of n bits; products 0 with c
pub record Bits (n : ℕ) (e : Echelon) : Type 0 where
  pub done : Rows n e.done
  pub rest : Rows n e.rest

pub record InKernel (c : List ℕ) (e : Echelon) : Type 0 where
  pub done : Kernel c e.done
  pub rest : Kernel c e.rest

pub step-bits : {n : ℕ} (j : ℕ) (e : Echelon) (q : Pivot) → find_pivot j e.rest ≡ q → Bits n e → Bits n (with_pivot j e q)
unfolding with_pivot
step-bits j e missing h b = b
step-bits j e (pivot p others) h b =
    let m = rows_taken (taken j e.rest p others h) b.rest in
    record { done = rows_end (rows_clear j m.0 b.done) m.0; rest = rows_clear j m.0 m.1 }

step_forth : {n : ℕ} {c : List ℕ} (j : ℕ) (e : Echelon) (q : Pivot) → find_pivot j e.rest ≡ q → Bits n e → InKernel c e → InKernel c (with_pivot j e q)
unfolding with_pivot
step_forth j e missing h b k = k
step_forth j e (pivot p others) h b k =
    let t = taken j e.rest p others h in
    let f = taken_forth t k.rest in
    let m = rows_taken t b.rest in
    record {
      done = end_forth p (clear_forth j m.0 b.done f.0 k.done) f.0;
      rest = clear_forth j m.0 m.1 f.0 f.1;
    }

pub step_back : {n : ℕ} {c : List ℕ} (j : ℕ) (e : Echelon) (q : Pivot) → find_pivot j e.rest ≡ q → Bits n e → InKernel c (with_pivot j e q) → InKernel c e
unfolding with_pivot
step_back j e missing h b k = k
step_back j e (pivot p others) h b k =
    let t = taken j e.rest p others h in
    let f = end_back p (map (clear j p) e.done) k.done in
    let m = rows_taken t b.rest in
    record {
      done = clear_back j m.0 b.done f.1 f.0;
      rest = taken_back t f.1 (clear_back j m.0 m.1 f.1 k.rest);
    }

pub columns-bits : {n : ℕ} (i j : ℕ) (e : Echelon) → Bits n e → Bits n (columns i j e)
unfolding columns
columns-bits zero j e b = b
columns-bits (suc i) j e b = columns-bits i (suc j) _ (step-bits j e _ refl b)

pub columns_forth : {n : ℕ} {c : List ℕ} (i j : ℕ) (e : Echelon) → Bits n e → InKernel c e → InKernel c (columns i j e)
unfolding columns
columns_forth zero j e b k = k
columns_forth (suc i) j e b k = columns_forth i (suc j) _ (step-bits j e _ refl b) (step_forth j e _ refl b k)

pub columns_back : {n : ℕ} {c : List ℕ} (i j : ℕ) (e : Echelon) → Bits n e → InKernel c (columns i j e) → InKernel c e
unfolding columns
columns_back zero j e b k = k
columns_back (suc i) j e b k = step_back j e _ refl b (columns_back i (suc j) _ (step-bits j e _ refl b) k)

-- the echelon form of rows of n bits has rows of n bits
pub echelon-bits : {n : ℕ} {rows : Matrix} (i : ℕ) → Rows n rows → Bits n (echelon i rows)
unfolding echelon
echelon-bits i m = columns-bits i 0 _ (record { done = none; rest = m })

-- a word has the product 0 with every row exactly when it has with every row of their echelon form
pub echelon_kernel : {n : ℕ} {c : List ℕ} {rows : Matrix} (i : ℕ) → Rows n rows → Kernel c rows ↔ InKernel c (echelon i rows)
unfolding echelon
echelon_kernel i m = (
  λ k. columns_forth i 0 _ (record { done = none; rest = m }) (record { done = none; rest = k }),
  λ k. (columns_back i 0 _ (record { done = none; rest = m }) k).rest,
)

-- H has m·t rows of n bits
row_map : (f : ℕ → ℕ) → ((a : ℕ) → Digit (f a)) → (l : List ℕ) → Row (length l) (map f l)
row_map f h [] = end
row_map f h (a ∷ l) = row_cons (h a) (row_map f h l)

pub row_parity_row : (k : Key) (r : ℕ) → Row (length k.support) (parity_row k r)
unfolding parity_row
row_parity_row k r = row_map _ (λ a. low _) k.support

pub rows_parity_rows : (k : Key) → length k.support ≡ k.n → Rows k.n (parity_rows k)
unfolding parity_rows
rows_parity_rows k h = go (from 0 (k.m * k.t))
  where
    go : (l : List ℕ) → Rows k.n (map (parity_row k) l)
    go [] = none
    go (r ∷ l) = row (rw h at (row_parity_row k r)) (go l)

pub length-parity_rows : (k : Key) → length (parity_rows k) ≡ k.m * k.t
unfolding parity_rows
length-parity_rows k = length-map (from 0 (k.m * k.t)) (parity_row k) ∙ length_from 0 (k.m * k.t)

-- a capsule has as many bits as there are rows
zip_row : {n i : ℕ} {rows : Matrix} {b d : List ℕ} → Rows n rows → Row (length rows) b → Row i d
    → Row (length rows) (zip_with (λ x r. x ⊕ dot r d) b rows)
unfolding zip_with
zip_row none end w = end
zip_row (row a m) (off b) w = row_cons (digit_xor xor.off (dot_digit a w)) (zip_row m b w)
zip_row (row a m) (on b) w = row_cons (digit_xor xor.on (dot_digit a w)) (zip_row m b w)

pub row_locked : {n i : ℕ} {rows : Matrix} {e : List ℕ} → Rows i rows → Row n e → length rows ≤ n → Row (length rows) (locked rows e)
unfolding locked
row_locked {n} {i} {rows} {e} m w h =
    let l : length (take (length rows) e) ≡ length rows = length-take (length rows) e ∙ min-eq_left (rw (row_length w) h) in
    zip_row m (rw l at (row_of_lem (take (length rows) e) (take_below 2 (length rows) e (row_lt w))))
    (row_of_lem (drop (length rows) e) (drop_below 2 (length rows) e (row_lt w)))
