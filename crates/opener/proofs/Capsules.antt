-- The lines of the capsules, one after the other. Assumes nothing.
use mathlib.Core.Path.{◌≡◌, sym, ap, ◌∙◌}
use mathlib.Core.List.{List, [], ◌++◌}
use Prim.Native.Nat.{ℕ, suc, ◌+◌, ◌-◌, ◌≤◌, ◌<◌, min}
use native.Mathlib.Nat.{sub-zero, min-le_right}
use native.Mathlib.Numerals.{add-one}
use native.Mathlib.Omega.{arith}
use lib.ListN.{length, take, drop, length-append, length-drop}
use lib.Seq.{length-take-le, drop-drop}
use Rattle.bits.specs.Bits.{bytes_for, unpack}
use Rattle.key.specs.Kept.{kept}
use Rattle.key.specs.Keys.{Key}
use Rattle.code.specs.Publish.{capsule_bits}
use Rattle.records.specs.Records.{cut, capsules_of}
use Rattle.records.proofs.Cut.{take_within, cut-next}
use Rattle.ledger.specs.Slot.{Slot}
use Rattle.ledger.specs.Questions.{open_capsule}
use Rattle.ledger.specs.Calls.{ask, step}
use Rattle.slot.specs.Replies.{view}
use Rattle.recipients.specs.Names.{A, naming}
use Rattle.station.specs.Replies.{handed}
use Rattle.station.specs.declared.Station.{Station}
use Rattle.station.specs.declared.Reply.{Reply}
use Rattle.opener.specs.Report.{newline, decimal, answer, room, line, lines}
use Rattle.opener.specs.Prepared.{slot_a, reply_a}
use Rattle.opener.proofs.NamesA.{same_number, same_output}
use Rattle.opener.proofs.Shape.{Four}

-- the line, from what the station hands back
pub line-parts : (s : Station) (p : ℕ) (capsule : List ℕ) {r : Reply} {out : List ℕ}
    → r ≡ reply_a s (ask (open_capsule capsule room)) → out ≡ (handed s (naming A (ask (open_capsule capsule room)))).output
    → line (slot_a s) p capsule ≡ decimal p ++ (answer r.refused (unpack s.a.key.n out) ++ newline)
unfolding line view kept
line-parts s p capsule {r} {out} e f =
    ap (λ (k : ℕ). decimal p ++ (answer k (unpack s.a.key.n (step (slot_a s) (ask (open_capsule capsule room))).output) ++ newline))
    (sym (same_number s (ask (open_capsule capsule room))) ∙ sym (ap (λ (x : Reply). x.refused) e))
    ∙ ap (λ (o : List ℕ). decimal p ++ (answer r.refused (unpack s.a.key.n o) ++ newline))
    (sym (same_output s (ask (open_capsule capsule room))) ∙ sym f)

-- the first c bytes, or all
pub taken : (c : ℕ) (l : List ℕ) {k : ℕ} → k ≡ min c (length l) → take k l ≡ take c l
taken c l {k} e =
    let d : 0 + k - 0 ≡ k = omega arith in
    rw d at (take_within c 0 l (e ∙ ap (min c) (sym (sub-zero (length l)))))

pub taken_length : (c : ℕ) (l : List ℕ) {k : ℕ} → k ≡ min c (length l) → length (take k l) ≡ k
taken_length c l {k} e = length-take-le k l (omega (arith, min-le_right c (length l)))

-- the lines from byte i and position p on
pub lines_left : Slot → ℕ → ℕ → List ℕ → ℕ → List ℕ
lines_left s c p input i = lines s p (cut (length (drop i input)) c (drop i input))

module _ (s : Slot) (c p : ℕ) (input : List ℕ) where
  pub lines_next : (i : ℕ) → 0 < c → i < length input
      → lines_left s c p input i ≡ line s p (take c (drop i input)) ++ lines_left s c (p + 1) input (i + c)
  unfolding lines_left lines
  lines_next i h b =
      let e = length-drop i input in
      ap (lines s p) (cut-next c (drop i input) h (omega (arith, e)))
      ∙ ap (λ (l : List ℕ). line s p (take c (drop i input)) ++ lines s (suc p) (cut (length l) c l)) (drop-drop c i input)
      ∙ ap (λ (k : ℕ). line s p (take c (drop i input)) ++ lines s k (cut (length (drop (i + c) input)) c (drop (i + c) input))) (sym (add-one p))

  pub lines_done : (i : ℕ) → length input ≤ i → lines_left s c p input i ≡ []
  unfolding lines_left lines cut
  lines_done i b =
      let e : length (drop i input) ≡ 0 = length-drop i input ∙ (omega arith) in
      ap (λ (k : ℕ). lines s p (cut k c (drop i input))) e

  -- the next line is no longer than what is left
  pub line-room : (i : ℕ) → 0 < c → i < length input → length (line s p (take c (drop i input))) ≤ length (lines_left s c p input i)
  line-room i h b =
      rw (lines_next i h b) (simp length-append (omega arith))

pub lines_all : (s : Slot) (input : List ℕ) {c : ℕ} → c ≡ bytes_for (capsule_bits s.key) → lines_left s c 1 input 0 ≡ lines s 1 (capsules_of s.key input)
unfolding lines_left capsules_of
lines_all s input e = ap (λ (k : ℕ). lines s 1 (cut (length input) k input)) e

pub capsule_bits_lem : {k : Key} → Four k → (0 < capsule_bits k) × (capsule_bits k < 16)
unfolding capsule_bits
capsule_bits_lem {k} f = rw f.width (omega (arith, f.some), omega (arith, f.over, f.fits))

-- a capsule has no more bytes than bits
pub capsule_few : {c bits n : ℕ} → c ≡ bytes_for bits → bits < n → c ≤ n
unfolding bytes_for
capsule_few e h = omega arith
