-- Opening, under the public key of an accepted key: it finds the pattern with exactly t ones that locks to the capsule, and
-- there is at most one. A capsule filled with zeros and a pattern that locks to it differ by a code word. Assumes nothing.
use mathlib.Core.Path.{◌≡◌, refl, sym, ap, ap₂, ◌∙◌, subst}
use mathlib.Core.Bool.{Bool, true, false, cond, ◌&&◌}
use mathlib.Core.List.{List, [], ◌∷◌, ◌++◌, map}
use mathlib.Core.Option.{Option, none, some}
use Prim.Native.Nat.{ℕ, ◌+◌, ◌-◌, ◌*◌, ◌≤◌}
use native.Mathlib.Omega.{arith}
use lib.Dec.{eqb}
use lib.ListN.{length, drop, replicate, length-map}
use borrow.Author.Tests.{eqb-true, eq-eqb}
use Rattle.bits.specs.Xor.{◌⊕◌}
use Rattle.bits.specs.Bits.{Row, ones, xor_row, dot}
use Rattle.bits.proofs.Xor.{xor_self, xor_eq}
use Rattle.bits.proofs.Lists.{cons_eq, and_left, and_right}
use Rattle.bits.proofs.Pack.{row_length, row_zeros, row_append}
use Rattle.bits.proofs.Rows.{row_xor_row}
use Rattle.bits.proofs.Product.{dot_comm, dot-xor_row}
use Rattle.poly.specs.Polynomials.{same}
use Rattle.poly.proofs.Laws.{same_eq, eq_same}
use Rattle.key.specs.Keys.{Key}
use Rattle.key.proofs.Accepted.{Accepted}
use Rattle.code.specs.Code.{in_code, parity_rows}
use Rattle.code.specs.PublicKey.{Matrix, echelon, public_key}
use Rattle.code.specs.Lock.{locked}
use Rattle.code.proofs.PublicKey.{public_echelon, public_length}
use Rattle.code.proofs.Identity.{locked-product, locked-code}
use Rattle.code.proofs.Parts.{locked-filled}
use Rattle.decoder.specs.Search.{first_row}
use Rattle.decoder.specs.Reading.{reading, filled, exactly, opening, opens}
use Rattle.decoder.proofs.Search.{search_only, search_nothing}
use Rattle.decoder.proofs.Sanity.{Corrects, reading_sound, reading_only}
use Rattle.decoder.proofs.Uniqueness.{one_reading}

-- a pattern of n bits with exactly t ones that locks to the capsule s
pub record Opens (k : Key) (rows : Matrix) (s e : List ℕ) : Type 0 where
  pub bits : Row k.n e
  pub count : ones e ≡ k.t
  pub locks : locked rows e ≡ s

-- equal products make the products of the sum 0, and the other way round
module _ {n : ℕ} {e d : List ℕ} (a : Row n e) (b : Row n d) where
  product-sum : (r : List ℕ) → dot r (xor_row e d) ≡ dot r e ⊕ dot r d
  product-sum r = dot_comm r (xor_row e d) ∙ dot-xor_row a b r ∙ ap₂ ◌⊕◌ (dot_comm e r) (dot_comm d r)

  same_products : (rs : Matrix) → map (λ r. dot r e) rs ≡ map (λ r. dot r d) rs → map (λ r. dot r (xor_row e d)) rs ≡ replicate (length rs) 0
  same_products [] h = refl
  same_products (r ∷ rs) h =
      let x : dot r e ≡ dot r d = cc in
      let y : map (λ r. dot r e) rs ≡ map (λ r. dot r d) rs = cc in
      cons_eq (product-sum r ∙ ap (λ (z : ℕ). z ⊕ dot r d) x ∙ xor_self (dot r d)) (same_products rs y)

  products_same : (rs : Matrix) → map (λ r. dot r (xor_row e d)) rs ≡ replicate (length rs) 0 → map (λ r. dot r e) rs ≡ map (λ r. dot r d) rs
  products_same [] h = refl
  products_same (r ∷ rs) h =
      let x : dot r (xor_row e d) ≡ 0 = cc in
      let y : map (λ r. dot r (xor_row e d)) rs ≡ replicate (length rs) 0 = cc in
      cons_eq (xor_eq (dot r e) (dot r d) (sym (product-sum r) ∙ x)) (products_same rs y)

-- two patterns lock to one capsule exactly when they differ by a code word
module _ (k : Key) (A : Accepted k) (rows : Matrix) (p : public_key k ≡ some rows) where
  small : k.m * k.t ≤ k.n
  small = let l = A.limits.over in omega arith

  done : Matrix
  done = (echelon k.n (parity_rows k)).done

  product : {c : List ℕ} → Row k.n c → locked rows c ≡ map (λ r. dot r c) done
  unfolding done
  product {c} r = locked-product k rows p A.support_length c (rw (row_length r) small)

  size : length done ≡ k.m * k.t
  unfolding done
  size = sym (ap length (public_echelon k rows p).columns ∙ length-map done (drop (k.m * k.t))) ∙ public_length k rows p

  module _ {e d : List ℕ} (a : Row k.n e) (b : Row k.n d) where
    pub locked-same : locked rows e ≡ locked rows d → in_code k (xor_row e d) ≡ true
    locked-same h =
        (locked-code k rows p A.support_length small (row_xor_row a b)).1
        (product (row_xor_row a b) ∙ same_products a b done (sym (product a) ∙ h ∙ product b) ∙ ap (λ (i : ℕ). replicate i 0) size)

    pub same-locked : in_code k (xor_row e d) ≡ true → locked rows e ≡ locked rows d
    same-locked h =
        product a
        ∙ products_same a b done
        (sym (product (row_xor_row a b)) ∙ (locked-code k rows p A.support_length small (row_xor_row a b)).0 h ∙ ap (λ (i : ℕ). replicate i 0) (sym size))
        ∙ sym (product b)

-- a row filled up with zeros
row_filled : {l : ℕ} {s : List ℕ} (n : ℕ) → Row l s → l ≤ n → Row n (filled n s)
unfolding filled
row_filled {l} {s} n r h =
    let e : l + (n - length s) ≡ n = omega (arith, row_length r) in
    subst (λ (i : ℕ). Row i (s ++ replicate (n - length s) 0)) e (row_append r (row_zeros (n - length s)))

pub exactly_some : (t : ℕ) (o : Option (List ℕ)) (e : List ℕ) → exactly t o ≡ some e → (o ≡ some e) × (ones e ≡ t)
unfolding exactly
exactly_some t none e h = let z : ◌≡◌ {A = ℕ} 0 1 = cc in absurd (omega arith)
exactly_some t (some d) e h = go (eqb (ones d) t) refl h
  where
    go : (b : Bool) → eqb (ones d) t ≡ b → cond b (some d) none ≡ some e → (◌≡◌ {A = Option (List ℕ)} (some d) (some e)) × (ones e ≡ t)
    go true q h = let x : d ≡ e = cc in (ap some x, ap ones (sym x) ∙ eqb-true (ones d) t q)
    go false q h = let z : ◌≡◌ {A = ℕ} 0 1 = cc in absurd (omega arith)

exactly-of : (t : ℕ) (o : Option (List ℕ)) (e : List ℕ) → o ≡ some e → ones e ≡ t → exactly t o ≡ some e
unfolding exactly
exactly-of t o e h c = ap (exactly t) h ∙ ap (λ (b : Bool). cond b (some e) none) (eq-eqb (ones e) t c)

module _ (k : Key) (A : Accepted k) (rows : Matrix) (p : public_key k ≡ some rows) {s : List ℕ} (r : Row (k.m * k.t) s) where
  fits : Row k.n (filled k.n s)
  fits = row_filled k.n r (small k A rows p)

  filled_locks : locked rows (filled k.n s) ≡ s
  unfolding filled
  filled_locks = locked-filled (k.n - length s) s rows (row_length r ∙ sym (public_length k rows p))

  -- the patterns for the capsule are those with exactly t ones for the filled word
  opens-corrects : {e : List ℕ} → Opens k rows s e → Corrects k (filled k.n s) e
  opens-corrects o =
      let c = o.count in
      record { bits = o.bits; few = omega arith; code = locked-same k A rows p fits o.bits (filled_locks ∙ sym o.locks) }

  corrects-opens : {e : List ℕ} → Corrects k (filled k.n s) e → ones e ≡ k.t → Opens k rows s e
  corrects-opens c h = record { bits = c.bits; count = h; locks = sym (same-locked k A rows p fits c.bits c.code) ∙ filled_locks }

  pub opening_sound : (e : List ℕ) → opening k s ≡ some e → Opens k rows s e
  unfolding opening
  opening_sound e h =
      let f = exactly_some k.t (reading k (filled k.n s)) e h in
      corrects-opens (reading_sound k (filled k.n s) e f.0) f.1

  pub opening_only : (e : List ℕ) → Opens k rows s e → opening k s ≡ some e
  unfolding opening
  opening_only e o =
      exactly-of k.t _ e
      (reading_only k (filled k.n s) e (opens-corrects o) (λ d q. one_reading k A (filled k.n s) e d fits (opens-corrects o) q))
      o.count

  pub opening_complete : opening k s ≡ none → (e : List ℕ) → Opens k rows s e → ⊥
  opening_complete h e o = let q = opening_only e o in let z : ◌≡◌ {A = ℕ} 0 1 = cc in absurd (omega arith)

  -- a capsule has at most one opening
  pub one_opening : (e d : List ℕ) → Opens k rows s e → Opens k rows s d → d ≡ e
  one_opening e d u v =
      let a = opening_only e u in
      let b = opening_only d v in cc

  true_opens : {e : List ℕ} → Row k.n e → opens k.t rows s e ≡ true → Opens k rows s e
  unfolding opens
  true_opens {e} w h =
      record {
        bits = w;
        count = eqb-true (ones e) k.t (and_left (eqb (ones e) k.t) (same (locked rows e) s) h);
        locks = same_eq (locked rows e) s (and_right (eqb (ones e) k.t) (same (locked rows e) s) h);
      }

  opens_true : {e : List ℕ} → Opens k rows s e → opens k.t rows s e ≡ true
  unfolding opens
  opens_true {e} o = ap₂ ◌&&◌ (eq-eqb (ones e) k.t o.count) (rw o.locks (eq_same s s refl))

  -- opening is the search over all patterns that lock to the capsule
  pub opening_search : opening k s ≡ first_row (opens k.t rows s) k.n []
  opening_search = go (opening k s) refl
    where
      go : (o : Option (List ℕ)) → opening k s ≡ o → opening k s ≡ first_row (opens k.t rows s) k.n []
      go none h = h ∙ sym (search_nothing (opens k.t rows s) (λ d w q. opening_complete h d (true_opens w q)))
      go (some e) h =
          let o = opening_sound e h in
          h ∙ sym (search_only (opens k.t rows s) e o.bits (opens_true o) (λ d w q. one_opening e d o (true_opens w q)))
