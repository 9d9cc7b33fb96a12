-- A call that decides by the patterns added to a word decides by the code words that they lead to. Assumes nothing.
use Prim.Native.Nat.{ℕ}
use mathlib.Core.Path.{◌≡◌, sym, ap, ◌∙◌}
use mathlib.Core.Logic.{◌↔◌}
use mathlib.Core.List.{List}
use Rattle.bits.specs.Bits.{Row, unpack, xor_row}
use Rattle.bits.proofs.Pack.{unpack-over}
use Rattle.marks.proofs.Added.{added_front}
use Rattle.ledger.specs.Slot.{Outcome}
use Rattle.ledger.specs.Demands.{Decides}

-- P of patterns and N of code words, each from the other by adding the word w
module _ {n : ℕ} {w : List ℕ} (r : Row n w) {P N : List ℕ → Type 0} (pattern : (e : List ℕ) → P e → Row n e) (code : (c : List ℕ) → N c → Row n c)
    (near : (e : List ℕ) → P e → N (xor_row w e)) (differs : (c : List ℕ) → N c → P (xor_row w c)) {S : Type 0} {counted : List ℕ → ℕ} {refusal : ℕ}
    {out : List ℕ} (o : Outcome S) (d : Decides P counted refusal out o) where
  -- the word with what was written added is the only code word
  pub accepts_code_word : o.number ≡ 0
      → (let c = xor_row w (unpack n o.output) in N c × (o.count ≡ counted (xor_row w c)) × ((x : List ℕ) → N x → x ≡ c))
  accepts_code_word z =
      let p = d.writes z in
      let f = pattern p.0 p.1 in
      let q : unpack n o.output ≡ p.0 = ap (unpack n) p.2 ∙ unpack-over f out in
      rw q (
        near p.0 p.1,
        p.3 ∙ ap counted (sym (added_front r f)),
        λ c x. sym (added_front r (code c x)) ∙ ap (xor_row w) (p.4 (xor_row w c) (differs c x)),
      )

  -- refused exactly when there is none
  pub refuses-code-words : (o.number ≡ refusal) ↔ ((c : List ℕ) → N c → ⊥)
  refuses-code-words = (λ z c x. d.refuses.0 z _ (differs c x), λ none. d.refuses.1 (λ e p. none _ (near e p)))
