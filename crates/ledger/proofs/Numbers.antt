-- Numbers that are not among a call's conditions. Assumes nothing.
use Prim.Native.Nat.{ℕ, suc}
use mathlib.Core.Path.{◌≡◌, refl}
use mathlib.Core.Bool.{Bool, true, false, not, ◌&&◌}
use mathlib.Core.List.{List, [], ◌∷◌}
use native.Mathlib.Omega.{arith}
use lib.Dec.{eqb}
use borrow.Author.Tests.{eqb-false, not-true}
use Rattle.bits.proofs.Lists.{and_left, and_right}
use Rattle.field.specs.Numbers.{first_of}
use Rattle.key.specs.Keys.{conditions, file_conditions}
use Rattle.network_key.specs.Files.{network_conditions}
use Rattle.code.specs.Publish.{publish_checks_within, publish_conditions_within}
use Rattle.decoder.specs.Calls.{open_conditions, read_conditions}
use Rattle.marks.specs.Marked.{marked_conditions}
use Rattle.records.specs.Records.{report_conditions}
use Rattle.session.specs.Session.{session_conditions}
use Rattle.ledger.specs.Slot.{Held}
use Rattle.ledger.specs.Loading.{key_file, network_file, loading_conditions}
use Rattle.ledger.specs.Publishing.{publishing_conditions}
use Rattle.ledger.specs.Questions.{open_capsule, read_word, read_marked, report, derive_session_key, question_conditions}
use Rattle.ledger.specs.Calls.{Call, load, publish, ask, drop_key, conditions_of}

-- no condition of the list has the number n, so that it is not the first that holds
unfoldable pub without : ℕ → List (Bool × ℕ) → Bool
without n [] = true
without n (c ∷ cs) = not (eqb c.1 n) && without n cs

pub without_first : (n : ℕ) (cs : List (Bool × ℕ)) → without (suc n) cs ≡ true → first_of cs ≡ suc n → ⊥
unfolding without first_of
without_first n [] w e = omega arith
without_first n (c ∷ cs) w e =
    go c.0 c.1 (and_left (not (eqb c.1 (suc n))) (without (suc n) cs) w) (without_first n cs (and_right (not (eqb c.1 (suc n))) (without (suc n) cs) w)) e
  where
    go : (b : Bool) (k : ℕ) → not (eqb k (suc n)) ≡ true → (first_of cs ≡ suc n → ⊥) → first_of ((b, k) ∷ cs) ≡ suc n → ⊥
    go true k h ih e = eqb-false k (suc n) (not-true _ h) e
    go false k h ih e = ih e

-- no call of a slot has 35, which says that a recipient's name is unknown
pub calls_without_35 : (h : Held) (c : Call) → without 35 (conditions_of h c) ≡ true
unfolding without conditions_of loading_conditions file_conditions network_conditions conditions publishing_conditions publish_conditions_within publish_checks_within question_conditions open_conditions read_conditions marked_conditions report_conditions session_conditions
calls_without_35 h (load (key_file file)) = refl
calls_without_35 h (load (network_file file)) = refl
calls_without_35 h (publish p) = refl
calls_without_35 h (ask (open_capsule capsule out)) = refl
calls_without_35 h (ask (read_word word out)) = refl
calls_without_35 h (ask (read_marked word marks out)) = refl
calls_without_35 h (ask (report capsules records)) = refl
calls_without_35 h (ask (derive_session_key capsule secret)) = refl
calls_without_35 h drop_key = refl
