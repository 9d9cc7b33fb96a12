-- Names and their bytes; a call names one recipient or none; the calls of a list that name one. Assumes nothing.
use Prim.Native.Nat.{ℕ, zero, suc}
use mathlib.Core.Path.{◌≡◌, refl, sym, ap, ◌∙◌}
use mathlib.Core.Logic.{◌↔◌}
use mathlib.Core.Bool.{Bool, true, false, true≢false, not, cond}
use mathlib.Core.List.{List, [], ◌∷◌, map}
use mathlib.Core.Option.{none, some}
use borrow.Author.Tests.{eqb-true, eq-eqb, ne_eqb}
use Rattle.ledger.specs.Calls.{Call}
use Rattle.ledger.proofs.Demand3.{differ}
use Rattle.recipients.specs.Names.{Name, A, B, byte_of, name_of, NamedCall, named, naming, names, keep, leave_out, calls_of}

-- by a truth value
pub by_bool : {P : Type 0} (b : Bool) → (b ≡ true → P) → (b ≡ false → P) → P
by_bool true f g = f refl
by_bool false f g = g refl

-- the byte of a name gives that name, so two names have two bytes
pub name_byte : (x : Name) → name_of (byte_of x) ≡ some x
unfolding name_of byte_of
name_byte A = refl
name_byte B = refl

byte_one : (x y : Name) → byte_of x ≡ byte_of y → x ≡ y
byte_one x y e = let q : some x ≡ some y = sym (name_byte x) ∙ ap name_of e ∙ name_byte y in cc

-- there are two names: what is not x is y, where y is not x
pub the_other : (x y z : Name) → (x ≡ y → ⊥) → (x ≡ z → ⊥) → z ≡ y
the_other A A z h i = absurd (h refl)
the_other A B A h i = absurd (i refl)
the_other A B B h i = refl
the_other B A A h i = refl
the_other B A B h i = absurd (i refl)
the_other B B z h i = absurd (h refl)

-- a call that names x has the byte of x, so it is the call to x, and does not name another
module _ (x : Name) where
  pub names_name : (c : NamedCall) → names x c ≡ true → name_of c.name ≡ some x
  unfolding names
  names_name c e = ap name_of (eqb-true c.name (byte_of x) e) ∙ name_byte x

  names_as : (c : NamedCall) → names x c ≡ true → c ≡ naming x c.call
  unfolding names
  names_as c e = ap (λ (b : ℕ). named b c.call) (eqb-true c.name (byte_of x) e)

  pub names_one : (d : Call) → names x (naming x d) ≡ true
  unfolding names
  names_one d = eq-eqb (byte_of x) (byte_of x) refl

  names_other : (y : Name) → (x ≡ y → ⊥) → (d : Call) → names y (naming x d) ≡ false
  unfolding names
  names_other y h d = ne_eqb (byte_of x) (byte_of y) (λ e. h (byte_one x y e))

  pub names_not : (y : Name) → (x ≡ y → ⊥) → (c : NamedCall) → names x c ≡ true → names y c ≡ false
  names_not y h c e = ap (names y) (names_as c e) ∙ names_other y h c.call

-- every call names one recipient, or its byte is no name
pub data Addressed : NamedCall → Type 0 where
  one : (x : Name) (d : Call) → Addressed (naming x d)
  nobody : {c : NamedCall} → name_of c.name ≡ none → Addressed c

pub addressed : (c : NamedCall) → Addressed c
unfolding name_of byte_of
addressed c = go c.name c.call
  where
    go : (b : ℕ) (d : Call) → Addressed (named b d)
    go zero d = nobody refl
    go (suc zero) d = one A d
    go (suc (suc zero)) d = one B d
    go (suc (suc (suc b))) d = nobody refl

-- a call names x exactly when its byte gives x
pub names-exactly : (x : Name) (c : NamedCall) → (names x c ≡ true) ↔ (name_of c.name ≡ some x)
names-exactly x c = (names_name x c, go (addressed c))
  where
    go : {c : NamedCall} → Addressed c → name_of c.name ≡ some x → names x c ≡ true
    go (one y d) e = let q : some y ≡ some x = sym (name_byte y) ∙ e in let i : y ≡ x = cc in ap (λ (z : Name). names x (naming z d)) i ∙ names_one x d
    go (nobody h) e = let q : none ≡ some x = sym h ∙ e in differ (cc)

-- What is kept of a list.
module _ {X : Type 0} (p : X → Bool) where
  pub keep_yes : (x : X) (xs : List X) → p x ≡ true → keep p (x ∷ xs) ≡ x ∷ keep p xs
  unfolding keep
  keep_yes x xs e = ap (λ (b : Bool). cond b (x ∷ keep p xs) (keep p xs)) e

  pub keep_no : (x : X) (xs : List X) → p x ≡ false → keep p (x ∷ xs) ≡ keep p xs
  unfolding keep
  keep_no x xs e = ap (λ (b : Bool). cond b (x ∷ keep p xs) (keep p xs)) e

module _ {X : Type 0} (p q : X → Bool) where
  -- of what q keeps: all that p keeps where p implies q, and nothing where p excludes q
  pub keep-within : ((x : X) → p x ≡ true → q x ≡ true) → (xs : List X) → keep p (keep q xs) ≡ keep p xs
  unfolding keep
  keep-within h [] = refl
  keep-within h (x ∷ xs) =
      let ih = keep-within h xs in
      by_bool (q x)
      (λ e.
      ap (keep p) (keep_yes q x xs e)
      ∙ by_bool (p x)
      (λ f. keep_yes p x (keep q xs) f ∙ ap (◌∷◌ x) ih ∙ sym (keep_yes p x xs f))
      (λ f. keep_no p x (keep q xs) f ∙ ih ∙ sym (keep_no p x xs f)))
      (λ e. ap (keep p) (keep_no q x xs e) ∙ ih ∙ sym (keep_no p x xs (by_bool (p x) (λ f. absurd (true≢false (sym (h x f) ∙ e))) (λ f. f))))

  pub keep_neither : ((x : X) → p x ≡ true → q x ≡ false) → (xs : List X) → keep p (keep q xs) ≡ []
  unfolding keep
  keep_neither h [] = refl
  keep_neither h (x ∷ xs) =
      let ih = keep_neither h xs in
      by_bool (q x)
      (λ e.
      ap (keep p) (keep_yes q x xs e)
      ∙ keep_no p x (keep q xs) (by_bool (p x) (λ f. absurd (true≢false (sym e ∙ h x f))) (λ f. f))
      ∙ ih)
      (λ e. ap (keep p) (keep_no q x xs e) ∙ ih)

-- The calls that name x: of a list with one more in front, of a list without those of another or of x, and of calls to x.
abbrev call_of : List NamedCall → List Call
call_of calls = map (λ (c : NamedCall). c.call) calls

module _ (x : Name) where
  pub calls_named : (c : NamedCall) (cs : List NamedCall) → names x c ≡ true → calls_of x (c ∷ cs) ≡ c.call ∷ calls_of x cs
  calls_named c cs e = ap call_of (keep_yes (names x) c cs e)

  pub calls_other : (c : NamedCall) (cs : List NamedCall) → names x c ≡ false → calls_of x (c ∷ cs) ≡ calls_of x cs
  calls_other c cs e = ap call_of (keep_no (names x) c cs e)

  pub calls_left : (y : Name) → (x ≡ y → ⊥) → (calls : List NamedCall) → calls_of y (leave_out x calls) ≡ calls_of y calls
  calls_left y h calls =
      ap call_of
      (keep-within (names y) (λ c. not (names x c)) (λ c e. ap not (names_not y x (λ q. h (sym q)) c e)) calls)

  pub calls_none : (calls : List NamedCall) → calls_of x (leave_out x calls) ≡ []
  calls_none calls = ap call_of (keep_neither (names x) (λ c. not (names x c)) (λ c e. ap not e) calls)

  pub calls_naming : (calls : List Call) → calls_of x (map (naming x) calls) ≡ calls
  unfolding keep
  calls_naming [] = refl
  calls_naming (c ∷ cs) = calls_named (naming x c) (map (naming x) cs) (names_one x c) ∙ ap (◌∷◌ c) (calls_naming cs)
