-- [I|T]·(b ++ d), where b has a bit for each row of T: it is b + T·d. Assumes nothing.
use mathlib.Core.Path.{◌≡◌, refl, sym, ap, ap₂, ◌∙◌}
use mathlib.Core.List.{List, [], ◌∷◌, ◌++◌, map, zip_with}
use Prim.Native.Nat.{ℕ}
use native.Mathlib.Nat.{suc_inj, suc-ne-zero}
use lib.ListN.{length, replicate, length-map}
use lib.Seq.{take_at, drop_at}
use Rattle.bits.specs.Xor.{◌⊕◌}
use Rattle.bits.specs.Bits.{Row, end, dot}
use Rattle.bits.proofs.Xor.{xor-zero, xor_self, xor_eq}
use Rattle.bits.proofs.Lists.{cons_eq}
use Rattle.bits.proofs.Pack.{row_cons}
use Rattle.bits.proofs.Product.{dot_digit, dot_zeros}
use Rattle.code.specs.PublicKey.{Matrix}
use Rattle.code.specs.Lock.{locked}
use Rattle.code.proofs.Kernel.{Rows, none, row}

locked-parts : (rows : Matrix) (b d : List ℕ) → length b ≡ length rows → locked rows (b ++ d) ≡ zip_with (λ x r. x ⊕ dot r d) b rows
unfolding locked
locked-parts rows b d h =
    ap₂ (λ (x y : List ℕ). zip_with (λ b r. b ⊕ dot r y) x rows) (take_at b d (length rows) h) (drop_at b d (length rows) h)

-- it is b where d is 0
zip_zeros : (n : ℕ) (b : List ℕ) (rows : Matrix) → length b ≡ length rows → zip_with (λ x r. x ⊕ dot r (replicate n 0)) b rows ≡ b
unfolding zip_with
zip_zeros n [] [] h = refl
zip_zeros n [] (r ∷ rows) h = refl
zip_zeros n (x ∷ b) [] h = absurd (suc-ne-zero _ h)
zip_zeros n (x ∷ b) (r ∷ rows) h = cons_eq (ap (◌⊕◌ x) (dot_zeros r n) ∙ xor-zero x) (zip_zeros n b rows (suc_inj h))

pub locked-filled : (n : ℕ) (b : List ℕ) (rows : Matrix) → length b ≡ length rows → locked rows (b ++ replicate n 0) ≡ b
locked-filled n b rows h = locked-parts rows b (replicate n 0) h ∙ zip_zeros n b rows h

-- it is 0 exactly where b is T·d
zip_own : (d : List ℕ) (rows : Matrix) → zip_with (λ x r. x ⊕ dot r d) (map (λ r. dot r d) rows) rows ≡ replicate (length rows) 0
unfolding zip_with
zip_own d [] = refl
zip_own d (r ∷ rows) = cons_eq (xor_self (dot r d)) (zip_own d rows)

zip_only : (d b : List ℕ) (rows : Matrix) → length b ≡ length rows
    → zip_with (λ x r. x ⊕ dot r d) b rows ≡ replicate (length rows) 0 → b ≡ map (λ r. dot r d) rows
unfolding zip_with
zip_only d [] [] h z = refl
zip_only d [] (r ∷ rows) h z = absurd (suc-ne-zero _ (sym h))
zip_only d (x ∷ b) [] h z = absurd (suc-ne-zero _ h)
zip_only d (x ∷ b) (r ∷ rows) h z =
    let e : x ⊕ dot r d ≡ 0 = cc in
    let t : zip_with (λ x r. x ⊕ dot r d) b rows ≡ replicate (length rows) 0 = cc in
    cons_eq (xor_eq x (dot r d) e) (zip_only d b rows (suc_inj h) t)

pub locked_own : (rows : Matrix) (d : List ℕ) → locked rows (map (λ r. dot r d) rows ++ d) ≡ replicate (length rows) 0
locked_own rows d = locked-parts rows (map (λ r. dot r d) rows) d (length-map rows (λ r. dot r d)) ∙ zip_own d rows

pub locked_only : (rows : Matrix) (b d : List ℕ) → length b ≡ length rows → locked rows (b ++ d) ≡ replicate (length rows) 0 → b ≡ map (λ r. dot r d) rows
locked_only rows b d h z = zip_only d b rows h (sym (locked-parts rows b d h) ∙ z)

-- T·d is a row of bits
pub row_products : {w i : ℕ} {rows : Matrix} {d : List ℕ} → Rows w rows → Row i d → Row (length rows) (map (λ r. dot r d) rows)
row_products none a = end
row_products (row r m) a = row_cons (dot_digit r a) (row_products m a)
