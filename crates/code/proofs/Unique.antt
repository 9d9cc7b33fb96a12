-- The public key is the only matrix T for which [I|T] makes 0 of the code words. Assumes nothing.
use mathlib.Core.Path.{◌≡◌, refl, sym, ap, ap₂, ◌∙◌}
use mathlib.Core.Bool.{true}
use mathlib.Core.List.{List, [], ◌∷◌, ◌++◌, map}
use mathlib.Core.Option.{some}
use Prim.Native.Nat.{ℕ, ◌+◌, ◌-◌, ◌*◌, ◌≤◌}
use native.Mathlib.Nat.{mul-zero, mul-one, suc_inj, suc-ne-zero}
use native.Mathlib.Omega.{arith}
use lib.ListN.{length, replicate, length-map}
use Rattle.bits.specs.Xor.{◌⊕◌}
use Rattle.bits.specs.Bits.{Row, off, on, dot}
use Rattle.bits.proofs.Xor.{zero_xor, xor-zero}
use Rattle.bits.proofs.Lists.{cons_eq}
use Rattle.bits.proofs.Pack.{row_length, row_zeros, row_append}
use Rattle.bits.proofs.Product.{dot_zeros}
use Rattle.key.specs.Keys.{Key}
use Rattle.code.specs.Code.{in_code}
use Rattle.code.specs.PublicKey.{Matrix, public_key}
use Rattle.code.specs.Lock.{locked}
use Rattle.code.proofs.Kernel.{Rows, none, row}
use Rattle.code.proofs.PublicKey.{public_length, public_rows}
use Rattle.code.proofs.Identity.{locked-code}
use Rattle.code.proofs.Parts.{locked_own, locked_only, row_products}

-- a list is determined by its products with all rows of bits: the first number by 1, 0, 0, .., the others by rows that begin with 0
dot-first : (x : ℕ) (r : List ℕ) (n : ℕ) → dot (x ∷ r) (1 ∷ replicate n 0) ≡ x
unfolding dot
dot-first x r n = ap₂ ◌⊕◌ (mul-one x) (dot_zeros r n) ∙ xor-zero x

dot_later : (x : ℕ) (r d : List ℕ) → dot (x ∷ r) (0 ∷ d) ≡ dot r d
unfolding dot
dot_later x r d = ap (λ (y : ℕ). y ⊕ dot r d) (mul-zero x) ∙ zero_xor (dot r d)

dot_determines : (r s : List ℕ) → length r ≡ length s → ((d : List ℕ) → Row (length r) d → dot r d ≡ dot s d) → r ≡ s
dot_determines [] [] e h = refl
dot_determines [] (y ∷ s) e h = absurd (suc-ne-zero _ (sym e))
dot_determines (x ∷ r) [] e h = absurd (suc-ne-zero _ e)
dot_determines (x ∷ r) (y ∷ s) e h =
    let n : ℕ = length r in
    cons_eq (sym (dot-first x r n) ∙ h (1 ∷ replicate n 0) (on (row_zeros n)) ∙ dot-first y s n)
    (dot_determines r s (suc_inj e) (λ d w. sym (dot_later x r d) ∙ h (0 ∷ d) (off w) ∙ dot_later y s d))

products_determine : {n : ℕ} {a b : Matrix} → Rows n a → Rows n b → ((d : List ℕ) → Row n d → map (λ r. dot r d) a ≡ map (λ r. dot r d) b) → a ≡ b
products_determine none none h = refl
products_determine {n} none (row s b) h = let f = h (replicate n 0) (row_zeros n) in let z : ◌≡◌ {A = ℕ} 0 1 = cc in absurd (omega arith)
products_determine {n} (row r a) none h = let f = h (replicate n 0) (row_zeros n) in let z : ◌≡◌ {A = ℕ} 0 1 = cc in absurd (omega arith)
products_determine {n} (row {r = x} {rs = xs} r a) (row {r = y} {rs = ys} s b) h =
    ap₂ (λ (u : List ℕ) (us : Matrix). u ∷ us)
    (dot_determines x y (row_length r ∙ sym (row_length s)) (λ d w. first d (rw (row_length r) at w)))
    (products_determine a b later)
  where
    first : (d : List ℕ) → Row n d → dot x d ≡ dot y d
    first d w = let f = h d w in cc

    later : (d : List ℕ) → Row n d → map (λ r. dot r d) xs ≡ map (λ r. dot r d) ys
    later d w = let f = h d w in cc

-- T is determined by the words that [I|T] makes 0 of: with the last bits d the first ones are T·d
pub kernel_determines : {n i : ℕ} {a b : Matrix} → i ≤ n → Rows (n - i) a → Rows (n - i) b → length a ≡ i → length b ≡ i
    → ((c : List ℕ) → Row n c → locked a c ≡ replicate i 0 → locked b c ≡ replicate i 0) → a ≡ b
kernel_determines {n} {i} {a} {b} l ra rb ea eb h = products_determine ra rb go
  where
    go : (d : List ℕ) → Row (n - i) d → map (λ r. dot r d) a ≡ map (λ r. dot r d) b
    go d w =
        let first : List ℕ = map (λ r. dot r d) a in
        let size : length a + (n - i) ≡ n = omega arith in
        locked_only b first d (length-map a (λ r. dot r d) ∙ ea ∙ sym eb)
        (rw eb (h (first ++ d) (rw size at (row_append (row_products ra w) w)) (rw ea at (locked_own a d))))

-- A matrix T of the public key's shape is the public key where [I|T] makes 0 of every code word, and where it makes 0 of no others.
module _ (k : Key) (rows T : Matrix) (p : public_key k ≡ some rows) (h : length k.support ≡ k.n) (l : k.m * k.t ≤ k.n)
    (bits : Rows (k.n - k.m * k.t) T) (size : length T ≡ k.m * k.t) where
  pub public_unique : ((c : List ℕ) → Row k.n c → in_code k c ≡ true → locked T c ≡ replicate (k.m * k.t) 0) → T ≡ rows
  public_unique f =
      sym (kernel_determines l (public_rows k rows p h) bits (public_length k rows p) size
      (λ c w z. f c w ((locked-code k rows p h l w).1 z)))

  pub public_unique_back : ((c : List ℕ) → Row k.n c → locked T c ≡ replicate (k.m * k.t) 0 → in_code k c ≡ true) → T ≡ rows
  public_unique_back f =
      kernel_determines l bits (public_rows k rows p h) size (public_length k rows p)
      (λ c w z. (locked-code k rows p h l w).0 (f c w z))
