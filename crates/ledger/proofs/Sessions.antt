-- The session key beside open, and under a public key. Assumes nothing.
use Prim.Native.Nat.{ℕ, ◌≤◌}
use mathlib.Core.Path.{◌≡◌, refl, sym, ap, ◌∙◌}
use mathlib.Core.Bool.{Bool, true, false, cond, not}
use mathlib.Core.List.{List, [], ◌∷◌, ◌++◌}
use mathlib.Core.Option.{Option, none, some}
use native.Mathlib.Omega.{arith}
use borrow.Author.Tests.{le-ltb, not-false, eqb-true}
use lib.Dec.{ltb}
use lib.ListN.{length, take}
use Rattle.bits.specs.Bits.{bytes_for, unpack, pack, well_formed, over}
use Rattle.bits.proofs.Pack.{take-over}
use Rattle.field.specs.Numbers.{first_of}
use Rattle.field.proofs.Numbers.{first-clear}
use Rattle.key.specs.Keys.{key_number, unsound}
use Rattle.code.specs.PublicKey.{Matrix, public_key}
use Rattle.code.specs.Publish.{capsule_bits}
use Rattle.decoder.specs.Reading.{opening}
use Rattle.decoder.specs.Calls.{found, is_none, open_conditions}
use Rattle.keccak.specs.Shake.{shake256}
use Rattle.session.specs.Session.{session_key, session_conditions}
use Rattle.session.proofs.Keys.{key_opened, key_rejected, opening_row}
use Rattle.ledger.specs.Slot.{Slot, held_by, Result}
use Rattle.ledger.specs.Questions.{open_capsule, derive_session_key, question_conditions, gives, given}
use Rattle.ledger.specs.Calls.{ask, conditions_of, made, step}
use Rattle.ledger.specs.Systems.{System}
use Rattle.ledger.specs.Demands.{Locks}
use Rattle.ledger.specs.Sessions.{beside, Derives, SessionKeys}
use Rattle.ledger.proofs.StepLaws.{step-number, step-made}
use Rattle.ledger.proofs.Patterns.{opening_sound, opening_complete, one_opening}
use Rattle.ledger.proofs.Simulation.{Simulates, same_number, same_output, same_answer}

-- the two lists of conditions: f that the output is short, o that there is no pattern, w that the secret is right
listed : (a b r c d e f o w : Bool) → f ≡ false
    → first_of ((a, 21) ∷ (b, 25) ∷ (r, 34) ∷ (c, 24) ∷ (d, 8) ∷ (e, 9) ∷ (not w, 33) ∷ [])
    ≡ beside w (first_of ((a, 21) ∷ (b, 25) ∷ (r, 34) ∷ (c, 24) ∷ (d, 8) ∷ (e, 9) ∷ (f, 10) ∷ (o, 13) ∷ []))
unfolding first_of beside
listed true b r c d e f o w h = refl
listed false true r c d e f o w h = refl
listed false false true c d e f o w h = refl
listed false false false true d e f o w h = refl
listed false false false false true e f o w h = refl
listed false false false false false true f o w h = refl
listed false false false false false false f o w h = rw h (last o w)
  where
    last : (o w : Bool) → cond (not w) 33 0 ≡ beside w (cond o 13 0)
    last true true = refl
    last true false = refl
    last false true = refl
    last false false = refl

-- where session's are clear, open's number is by the pattern alone
clear : (a b r c d e f o w : Bool) → f ≡ false → first_of ((a, 21) ∷ (b, 25) ∷ (r, 34) ∷ (c, 24) ∷ (d, 8) ∷ (e, 9) ∷ (not w, 33) ∷ []) ≡ 0
    → first_of ((a, 21) ∷ (b, 25) ∷ (r, 34) ∷ (c, 24) ∷ (d, 8) ∷ (e, 9) ∷ (f, 10) ∷ (o, 13) ∷ []) ≡ cond o 13 0
unfolding first_of
clear true b r c d e f o w h z = absurd (omega arith)
clear false true r c d e f o w h z = absurd (omega arith)
clear false false true c d e f o w h z = absurd (omega arith)
clear false false false true d e f o w h z = absurd (omega arith)
clear false false false false true e f o w h z = absurd (omega arith)
clear false false false false false true f o w h z = absurd (omega arith)
clear false false false false false false f o w h z = rw h refl

-- an accepted call of the definitions: the key, and its sound slot
module _ (s : Slot) (capsule secret : List ℕ) (z : (step s (ask (derive_session_key capsule secret))).number ≡ 0) where
  answer_key : (step s (ask (derive_session_key capsule secret))).answer ≡ session_key s.key capsule secret
  unfolding made given
  answer_key = ap (λ (r : Result). r.answer) (step-made s (ask (derive_session_key capsule secret)) z)

  sound : key_number s.key ≡ 0
  unfolding held_by conditions_of question_conditions session_conditions unsound
  sound =
      let c21 = first-clear _ 20 _ (sym (step-number s (ask (derive_session_key capsule secret))) ∙ z) in
      eqb-true _ _ (not-false _ (first-clear _ 24 _ c21.1).0)

  -- under a public key
  module _ (rows : Matrix) (public : public_key s.key ≡ some rows) where
    sender : (o : Option (List ℕ)) → opening s.key (unpack (capsule_bits s.key) capsule) ≡ o → (e : List ℕ) → Locks s.key rows capsule e
        → (step s (ask (derive_session_key capsule secret))).answer ≡ shake256 32 (1 ∷ pack e ++ capsule)
    sender none h e l = absurd (opening_complete s.key sound rows public capsule h e l)
    sender (some d) h e l =
        answer_key
        ∙ key_opened s.key capsule secret h
        ∙ ap (λ (x : List ℕ). shake256 32 (1 ∷ pack x ++ capsule))
        (one_opening s.key sound rows public capsule e d l (opening_sound s.key sound rows public capsule d h))

    nobody : (o : Option (List ℕ)) → opening s.key (unpack (capsule_bits s.key) capsule) ≡ o → ((e : List ℕ) → Locks s.key rows capsule e → ⊥)
        → (step s (ask (derive_session_key capsule secret))).answer ≡ shake256 32 (0 ∷ secret ++ capsule)
    nobody none h n = answer_key ∙ key_rejected s.key capsule secret h
    nobody (some d) h n = absurd (n d (opening_sound s.key sound rows public capsule d h))

-- beside an open with room for the pattern
module _ (s : Slot) (capsule secret out : List ℕ) (room : bytes_for s.key.n ≤ length out) where
  long : ltb (length out) (bytes_for s.key.n) ≡ false
  long = le-ltb (length out) (bytes_for s.key.n) room

  session_number_lem : (step s (ask (derive_session_key capsule secret))).number ≡ beside (well_formed s.key.n secret) (step s (ask (open_capsule capsule out))).number
  unfolding held_by conditions_of question_conditions session_conditions open_conditions
  session_number_lem =
      step-number s (ask (derive_session_key capsule secret))
      ∙ listed _ _ _ _ _ _ _ (is_none (opening s.key (unpack (capsule_bits s.key) capsule))) (well_formed s.key.n secret) long
      ∙ ap (beside (well_formed s.key.n secret)) (sym (step-number s (ask (open_capsule capsule out))))

  -- by what opening gives
  module _ (z : (step s (ask (derive_session_key capsule secret))).number ≡ 0) (o : Option (List ℕ)) (h : opening s.key (unpack (capsule_bits s.key) capsule) ≡ o) where
    open_number_lem : (step s (ask (open_capsule capsule out))).number ≡ cond (is_none o) 13 0
    unfolding held_by conditions_of question_conditions session_conditions open_conditions
    open_number_lem =
        step-number s (ask (open_capsule capsule out))
        ∙ clear _ _ _ _ _ _ _ (is_none (opening s.key (unpack (capsule_bits s.key) capsule))) (well_formed s.key.n secret) long
        (sym (step-number s (ask (derive_session_key capsule secret))) ∙ z)
        ∙ ap (λ (p : Option (List ℕ)). cond (is_none p) 13 0) h

    written : (step s (ask (open_capsule capsule out))).number ≡ 0 → (step s (ask (open_capsule capsule out))).output ≡ over (pack (found o)) out
    unfolding made given gives
    written e =
        ap (λ (r : Result). r.output) (step-made s (ask (open_capsule capsule out)) e)
        ∙ ap (λ (p : Option (List ℕ)). over (pack (found p)) out) h

  module _ (z : (step s (ask (derive_session_key capsule secret))).number ≡ 0) where
    opened : (o : Option (List ℕ)) → opening s.key (unpack (capsule_bits s.key) capsule) ≡ o → (step s (ask (open_capsule capsule out))).number ≡ 0
        → (step s (ask (derive_session_key capsule secret))).answer ≡ shake256 32 (1 ∷ take (bytes_for s.key.n) (step s (ask (open_capsule capsule out))).output ++ capsule)
    unfolding is_none found
    opened none h e = absurd (omega (arith, open_number_lem z none h))
    opened (some p) h e =
        answer_key s capsule secret z
        ∙ key_opened s.key capsule secret h
        ∙ ap (λ (row : List ℕ). shake256 32 (1 ∷ row ++ capsule))
        (sym (ap (take (bytes_for s.key.n)) (written z (some p) h e) ∙ take-over (opening_row s.key _ p h) out))

    rejected : (o : Option (List ℕ)) → opening s.key (unpack (capsule_bits s.key) capsule) ≡ o → (step s (ask (open_capsule capsule out))).number ≡ 13
        → (step s (ask (derive_session_key capsule secret))).answer ≡ shake256 32 (0 ∷ secret ++ capsule)
    unfolding is_none
    rejected none h e = answer_key s capsule secret z ∙ key_rejected s.key capsule secret h
    rejected (some p) h e = absurd (omega (arith, open_number_lem z (some p) h))

module _ (sys : System) (sim : Simulates sys) where
  -- the system's numbers, outputs and answers are the definitions'
  module _ (s : sys.Stations) (capsule secret : List ℕ) where
    session_accepted : (sys.call s (ask (derive_session_key capsule secret))).number ≡ 0 → (step (sys.view s) (ask (derive_session_key capsule secret))).number ≡ 0
    session_accepted z = sym (same_number sys sim s (ask (derive_session_key capsule secret))) ∙ z

    derived : (out : List ℕ) → bytes_for (sys.view s).key.n ≤ length out → Derives sys s capsule secret out
    derived out room =
        let v : Slot = sys.view s in
        let q = same_number sys sim s (ask (open_capsule capsule out)) in
        let a = same_answer sys sim s (ask (derive_session_key capsule secret)) in
        record {
          number = same_number sys sim s (ask (derive_session_key capsule secret)) ∙ session_number_lem v capsule secret out room ∙ ap (beside _) (sym q);
          opened = λ z e.
              a ∙ opened v capsule secret out room (session_accepted z) _ refl (sym q ∙ e)
              ∙ ap (λ (o : List ℕ). shake256 32 (1 ∷ take (bytes_for v.key.n) o ++ capsule)) (sym (same_output sys sim s (ask (open_capsule capsule out))));
          rejected = λ z e. a ∙ rejected v capsule secret out room (session_accepted z) _ refl (sym q ∙ e);
        }

  pub session_keys : SessionKeys sys
  session_keys =
      record {
        derives = derived;
        shares = λ s capsule secret rows public z.
            let a = same_answer sys sim s (ask (derive_session_key capsule secret)) in
            let y = session_accepted s capsule secret z in
            record {
              sender = λ e l. a ∙ sender (sys.view s) capsule secret y rows public _ refl e l;
              nobody = λ n. a ∙ nobody (sys.view s) capsule secret y rows public _ refl n;
            };
        secret_unused = λ s capsule s1 s2 out room e z1 z2.
            (derived s capsule s1 out room).opened z1 e ∙ sym ((derived s capsule s2 out room).opened z2 e);
        pattern_unused = λ s r capsule secret out room1 room2 e1 e2 z1 z2.
            (derived s capsule secret out room1).rejected z1 e1 ∙ sym ((derived r capsule secret out room2).rejected z2 e2);
      }
