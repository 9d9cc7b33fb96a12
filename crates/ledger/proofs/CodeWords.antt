-- Reading by code words: the word with the pattern added is the only code word within t places. Assumes nothing.
use Prim.Native.Nat.{ℕ, ◌≤◌}
use mathlib.Core.Path.{◌≡◌, sym, ap, ◌∙◌, subst}
use mathlib.Core.Bool.{true}
use mathlib.Core.List.{List}
use mathlib.Core.Option.{some}
use lib.ListN.{length}
use Rattle.bits.specs.Bits.{Row, bytes_for, unpack, ones, well_formed, xor_row}
use Rattle.bits.proofs.Pack.{row_unpack}
use Rattle.bits.proofs.Rows.{row_xor_row}
use Rattle.key.specs.Keys.{Key, key_number}
use Rattle.code.specs.Code.{in_code}
use Rattle.marks.proofs.Added.{added_front}
use Rattle.ledger.specs.Slot.{Slot}
use Rattle.ledger.specs.Questions.{read_word}
use Rattle.ledger.specs.Calls.{ask, step}
use Rattle.ledger.specs.Systems.{System}
use Rattle.ledger.specs.Demands.{at, key_held, Differs, Decides}
use Rattle.ledger.specs.OwnWords.{Near, ReadsCodeWords}
use Rattle.ledger.proofs.ByCodeWords.{accepts_code_word, refuses-code-words}
use Rattle.ledger.proofs.Demand2.{at_held}
use Rattle.ledger.proofs.Demand3.{read_decides}
use Rattle.ledger.proofs.Found.{Reads, read_found}
use Rattle.ledger.proofs.Simulation.{Simulates, same_number, decides}

module _ (k : Key) (word : List ℕ) where
  r : Row k.n (unpack k.n word)
  r = row_unpack k.n word

  -- a pattern in whose places the word and a code word differ, and that code word
  near : (e : List ℕ) → Differs k word e → Near k word (xor_row (unpack k.n word) e)
  near e d =
      record {
        row = row_xor_row r d.row;
        code = d.code;
        few = subst (λ (x : List ℕ). ones x ≤ k.t) (sym (added_front r d.row)) d.weight;
      }

  differs : (c : List ℕ) → Near k word c → Differs k word (xor_row (unpack k.n word) c)
  differs c d =
      record {
        row = row_xor_row r d.row;
        weight = d.few;
        code = ap (in_code k) (added_front r d.row) ∙ d.code;
      }

module _ (sys : System) (sim : Simulates sys) where
  pub reads : (k : Key) (s : sys.Stations) (word out : List ℕ) → key_held (sys.view s) ≡ some k → key_number k ≡ 0
      → well_formed k.n word ≡ true → bytes_for k.n ≤ length out → Decides (Differs k word) ones 14 out (sys.call s (ask (read_word word out)))
  unfolding at
  reads k s word out h good formed long =
      decides sys sim s (ask (read_word word out)) (Differs k word) ones 14 out
      (at_held (λ (x : Slot). Decides (Differs k word) ones 14 out (step x (ask (read_word word out)))) (sys.view s) k h
      (λ state e. read_decides k good state e word out formed long))

  pub reads_code_words : ReadsCodeWords sys
  reads_code_words s word out =
      let k : Key = (sys.view s).key in
      record {
        accepts = λ z.
            let f : Reads (sys.view s) word out = read_found (sys.view s) word out (sym (same_number sys sim s (ask (read_word word out))) ∙ z) in
            accepts_code_word (r k word) (λ e d. d.row) (λ c d. d.row) (near k word) (differs k word) _
            (reads k s word out f.held f.good f.formed f.long) z;
        refuses = λ h good formed long.
            refuses-code-words (r k word) (λ e d. d.row) (λ c d. d.row) (near k word) (differs k word) _ (reads k s word out h good formed long);
      }
