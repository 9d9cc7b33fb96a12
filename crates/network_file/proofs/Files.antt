-- The number of a network file and the arrays of its key. Assumes nothing.
use mathlib.Core.Path.{◌≡◌, refl, sym, ap, ap₂, ◌∙◌, subst}
use mathlib.Core.Bool.{Bool, true, false, not, cond, ◌&&◌}
use mathlib.Core.List.{List, ◌∷◌, ◌++◌}
use Prim.Native.Nat.{ℕ, zero, suc, ◌+◌, ◌*◌, ◌≤◌, ◌<◌, min}
use native.Mathlib.Omega.{arith}
use native.Mathlib.Decide.{ℕ_discrete}
use lib.Dec.{eqb}
use lib.ListN.{length, take, drop, get_or, replicate}
use borrow.Author.Tests.{eq-eqb, ne_eqb, eqb-true}
use Rattle.bits.specs.Bits.{bytes_for, over, padded}
use Rattle.bits.proofs.Padded.{over_zeros}
use Rattle.field.specs.Numbers.{first_of}
use Rattle.field.specs.Field.{is_width}
use Rattle.field.specs.Verdicts.{verdict_of}
use Rattle.field.specs.declared.Verdict.{Verdict}
use Rattle.field.proofs.Table.{Width, width_pos, width_narrow}
use Rattle.key.specs.Shapes.{in_limits}
use Rattle.key.specs.Keys.{Key, pair, elements, conditions, key_number}
use Rattle.key.specs.Kept.{parts, kept, keep, sizes_of}
use Rattle.key.specs.Answers.{sizes, shape_answer}
use Rattle.key.specs.declared.shape.ShapeAnswer.TheVariants as answers
use Rattle.key.specs.declared.shape.Sizes.{Sizes}
use Rattle.key.specs.declared.kept.Key as arrays
use Rattle.key.proofs.Conditions.{limits_fit, first-take}
use Rattle.key.proofs.Filled.{kept-keep}
use Rattle.network.specs.Network.{switches}
use Rattle.key.proofs.ShapeAnswers as Answers
use Rattle.key_file.specs.Files.{stored}
use Rattle.network_key.specs.Files.{support_of, four, parse_network, network_conditions}
use Rattle.network_key.proofs.Convert.{support_size, g_size}
use Rattle.network_file.specs.Networks.{network_shape, Says}

-- the shape that a file says
pub sizes_said : (file : List ℕ) {m n t : ℕ} → m ≡ get_or file 0 0 → n ≡ pair file 1 → t ≡ pair file 3
    → ◌≡◌ {A = Sizes} (record { m = m; n = n; t = t }) (sizes_of (parse_network file))
unfolding sizes_of parse_network
sizes_said file em en et =
    ap₂ (λ (x : ℕ × ℕ) (t : ℕ). record { m = x.0; n = x.1; t = t }) (ap₂ (λ (m n : ℕ). (m, n)) em en) et

-- the same conditions without 36 and with another 2, where none of these holds
same : (a b c d : Bool) (rest : List (Bool × ℕ)) → a ≡ false → b ≡ false → c ≡ false → d ≡ false
    → first_of ((a, 1) ∷ (b, 2) ∷ rest) ≡ first_of ((a, 1) ∷ (c, 2) ∷ (d, 36) ∷ rest)
unfolding first_of
same a b c d rest p q r s = rw (p, q, r, s)

-- each test passes where the header's number is 0
passes : (w l c n : Bool) → ◌≡◌ {A = ℕ} (cond (not w) 1 (cond (not l) 2 (cond (not c) 36 (cond (not n) 3 0)))) 0
    → (w ≡ true) × (l ≡ true) × (c ≡ true) × (n ≡ true)
passes false l c n z = absurd (omega arith)
passes true false c n z = absurd (omega arith)
passes true true false n z = absurd (omega arith)
passes true true true false z = absurd (omega arith)
passes true true true true z = (refl, refl, refl, refl)

room : (a t b : ℕ) → a ≡ 9 + 2 * t + b → 9 + 2 * t ≤ a
room a t b e = omega arith

-- an array of k numbers whose first n are written
written : (k : ℕ) (l : List ℕ) (n : ℕ) → length l ≡ n → l ++ drop n (replicate k 0) ≡ padded k l
unfolding over
written k l n e = ap (λ (i : ℕ). l ++ drop i (replicate k 0)) (sym e) ∙ over_zeros k l

module _ (file : List ℕ) where
  -- the header's number, of the shape that the file says
  tests : Sizes → ℕ
  tests s =
      cond (not (is_width s.m)) 1
      (cond (not (eqb (length file) (9 + 2 * s.t + bytes_for (switches s.m)))) 2
      (cond (not (eqb (four file (5 + 2 * s.t)) (switches s.m))) 36
      (cond (not (in_limits s.m s.n s.t)) 3 0)))

  abbrev head : ℕ
  head = first_of (take 4 (network_conditions file))

  head_tests : tests (sizes_of (parse_network file)) ≡ head
  unfolding tests network_conditions conditions first_of sizes_of
  head_tests = refl

  module _ (s : Sizes) (e : s ≡ sizes_of (parse_network file)) where
    said : tests s ≡ head
    said = ap tests e ∙ head_tests

    pub file_width : is_width s.m ≡ false → 1 ≡ head
    unfolding tests
    file_width h = (rw h at said)

    -- c and b are the bit count and its bytes
    module _ (w : Width s.m) {c b : ℕ} (ec : c ≡ switches s.m) (eb : b ≡ bytes_for c) where
      total : 9 + 2 * s.t + b ≡ 9 + 2 * s.t + bytes_for (switches s.m)
      total = ap (◌+◌ (9 + 2 * s.t)) (eb ∙ ap bytes_for ec)

      pub file_length : (length file ≡ 9 + 2 * s.t + b → ⊥) → 2 ≡ head
      unfolding tests
      file_length h = rw (w, ne_eqb (length file) (9 + 2 * s.t + bytes_for (switches s.m)) (λ q. h (q ∙ sym total))) at said

      module _ (l : length file ≡ 9 + 2 * s.t + b) {x : ℕ} (ex : x ≡ four file (5 + 2 * s.t)) where
        right : eqb (length file) (9 + 2 * s.t + bytes_for (switches s.m)) ≡ true
        right = eq-eqb (length file) (9 + 2 * s.t + bytes_for (switches s.m)) (l ∙ total)

        pub file_count : (x ≡ c → ⊥) → 36 ≡ head
        unfolding tests
        file_count h = rw (w, right, ne_eqb (four file (5 + 2 * s.t)) (switches s.m) (λ q. h (ex ∙ q ∙ sym ec))) at said

        module _ (d : x ≡ c) where
          counted : eqb (four file (5 + 2 * s.t)) (switches s.m) ≡ true
          counted = eq-eqb (four file (5 + 2 * s.t)) (switches s.m) (sym ex ∙ d ∙ ec)

          pub file_limits : in_limits s.m s.n s.t ≡ false → 3 ≡ head
          unfolding tests
          file_limits h = rw (w, right, counted, h) at said

          pub file_none : in_limits s.m s.n s.t ≡ true → 0 ≡ head
          unfolding tests
          file_none h = rw (w, right, counted, h) at said

  -- the sizes fit the arrays, the network and the file
  abbrev Fits : Sizes → Type 0
  Fits s = (s.n ≤ 8192) × (s.t ≤ 128) × (0 < s.m) × (s.m < 14) × (9 + 2 * s.t ≤ length file)

  -- the header is right
  module _ (z : head ≡ 0) where
    clear : (is_width (parse_network file).m ≡ true)
        × (eqb (length file) (9 + 2 * (parse_network file).t + bytes_for (switches (parse_network file).m)) ≡ true)
        × (eqb (four file (5 + 2 * (parse_network file).t)) (switches (parse_network file).m) ≡ true)
        × (in_limits (parse_network file).m (parse_network file).n (parse_network file).t ≡ true)
    unfolding tests sizes_of
    clear = passes _ _ _ _ (head_tests ∙ z)

    fits : Fits (sizes_of (parse_network file))
    unfolding sizes_of
    fits =
        let k : Key = parse_network file in
        let fit = limits_fit k.m k.n k.t clear.0 clear.3 in
        (fit.0, fit.1, width_pos k.m clear.0, width_narrow k.m clear.0, room _ _ _ (eqb-true _ _ clear.1))

    -- the file's key decides
    key_decides : key_number (parse_network file) ≡ first_of (network_conditions file)
    unfolding key_number network_conditions conditions
    key_decides =
        let k : Key = parse_network file in
        same (not (is_width k.m)) (not (eqb (length k.support) k.n && eqb (length k.g) k.t))
        (not (eqb (length file) (9 + 2 * k.t + bytes_for (switches k.m)))) (not (eqb (four file (5 + 2 * k.t)) (switches k.m))) _
        (ap not clear.0)
        (ap₂ (λ (x y : Bool). not (x && y)) (eq-eqb (length k.support) k.n (support_size file)) (eq-eqb (length k.g) k.t (g_size file)))
        (ap not clear.1) (ap not clear.2)

  -- s is the shape that the header says
  module _ (s : Sizes) (h : Says file s) where
    pub says_fit : Fits s
    says_fit = subst Fits (sym h.1) (fits h.0)

    pub support_array : support_of s.m s.n (drop (9 + 2 * s.t) file) ++ drop s.n (replicate 8192 0) ≡ padded 8192 (parse_network file).support
    unfolding parse_network sizes_of
    support_array =
        ap (λ (s : Sizes). support_of s.m s.n (drop (9 + 2 * s.t) file) ++ drop s.n (replicate 8192 0)) h.1
        ∙ written 8192 (parse_network file).support (parse_network file).n (support_size file)

    pub g_array : stored 128 file (5 + 2 * 0) s.t ≡ padded 128 (parse_network file).g
    unfolding stored parse_network sizes_of
    g_array =
        let e : min s.t 128 ≡ s.t = omega (arith, says_fit.1) in
        ap (λ (n : ℕ). padded 128 (elements file 5 n)) e ∙ ap (λ (s : Sizes). padded 128 (elements file 5 s.t)) h.1

    arrays_key : parts s.m s.n s.t (padded 8192 (parse_network file).support) (padded 128 (parse_network file).g) ≡ keep (parse_network file)
    unfolding keep sizes_of
    arrays_key = ap (λ (s : Sizes). parts s.m s.n s.t (padded 8192 (parse_network file).support) (padded 128 (parse_network file).g)) h.1

    -- the check of the arrays decides
    pub arrays_decide : {v : Verdict} {x y : List ℕ} → v ≡ verdict_of (key_number (kept (parts s.m s.n s.t x y)))
        → x ≡ padded 8192 (parse_network file).support → y ≡ padded 128 (parse_network file).g → v ≡ verdict_of (first_of (network_conditions file))
    arrays_decide e ex ey =
        e ∙ ap₂ (λ (x y : List ℕ). verdict_of (key_number (kept (parts s.m s.n s.t x y)))) ex ey
        ∙ ap (λ (k : arrays.Key). verdict_of (key_number (kept k))) arrays_key
        ∙ ap verdict_of (ap key_number (kept-keep (parse_network file) (support_size file) (g_size file)) ∙ key_decides h.0)

  -- the shape or the number, by the first condition that holds
  pub network_refused : {x : ℕ} → x ≡ first_of (network_conditions file) → (x ≡ 0 → ⊥) → answers.Refused x ≡ network_shape file
  unfolding network_shape shape_answer
  network_refused {x = zero} e n = absurd (n refl)
  network_refused {x = suc x} e n = ap (λ (i : ℕ). shape_answer i ((parse_network file).m, (parse_network file).n, (parse_network file).t)) e

  pub network-sizes : {s : Sizes} → s ≡ sizes_of (parse_network file) → first_of (network_conditions file) ≡ 0 → answers.Sizes s ≡ network_shape file
  unfolding network_shape shape_answer sizes sizes_of
  network-sizes q z = ap (λ (s : Sizes). answers.Sizes s) q ∙ ap (λ (i : ℕ). shape_answer i ((parse_network file).m, (parse_network file).n, (parse_network file).t)) (sym z)

  -- an accepted file's header is right
  pub head_accepted : first_of (network_conditions file) ≡ 0 → head ≡ 0
  head_accepted z = elim (ℕ_discrete head 0) [
    | yes h ↦ h
    | no n ↦ absurd (n (first-take 4 (network_conditions file) n ∙ z))
  ]

  -- what an answer says
  pub shape_accepted : {s : Sizes} → network_shape file ≡ answers.Sizes s → (first_of (network_conditions file) ≡ 0) × (s ≡ sizes_of (parse_network file))
  unfolding network_shape sizes sizes_of
  shape_accepted e = Answers.shape_sizes (first_of (network_conditions file)) _ e

  pub shape_refused : {x : ℕ} → network_shape file ≡ answers.Refused x → (x ≡ first_of (network_conditions file)) × (first_of (network_conditions file) ≡ 0 → ⊥)
  unfolding network_shape
  shape_refused e = Answers.shape_refused (first_of (network_conditions file)) _ e

  pub shape_says : {s : Sizes} → network_shape file ≡ answers.Sizes s → Says file s
  shape_says e = let a = shape_accepted e in (head_accepted a.0, a.1)
