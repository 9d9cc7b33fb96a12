-- The number of a key file and the arrays of its key. Assumes nothing.
use mathlib.Core.Path.{◌≡◌, refl, sym, ap, ap₂, ◌∙◌, subst}
use mathlib.Core.Bool.{Bool, true, false, not, ◌&&◌}
use mathlib.Core.List.{List, ◌++◌}
use Prim.Native.Nat.{ℕ, zero, suc, ◌+◌, ◌*◌, ◌≤◌, min}
use native.Mathlib.Omega.{arith}
use native.Mathlib.Decide.{ℕ_discrete}
use lib.Dec.{eqb}
use lib.ListN.{length, take, drop, get_or, replicate}
use borrow.Author.Tests.{eq-eqb, ne_eqb}
use Rattle.bits.specs.Bits.{over, padded}
use Rattle.bits.proofs.Padded.{over_zeros}
use Rattle.field.specs.Numbers.{first_of}
use Rattle.field.specs.Field.{is_width}
use Rattle.field.proofs.Table.{Width}
use Rattle.key.specs.Shapes.{in_limits}
use Rattle.key.specs.Keys.{pair, elements, parse, conditions, file_conditions, key_number}
use Rattle.key.specs.Kept.{parts, kept, keep, sizes_of}
use Rattle.key.specs.Answers.{sizes, shape_answer}
use Rattle.key.specs.declared.shape.ShapeAnswer.TheVariants as answers
use Rattle.key.specs.declared.shape.Sizes.{Sizes}
use Rattle.key.specs.declared.kept.Key.{Key}
use Rattle.key.proofs.Conditions.{head_width, head_length, head_limits, head_none, head_clear, first-take, number-faults, limits_fit}
use Rattle.key.proofs.ShapeAnswers as Answers
use Rattle.key.proofs.Parse.{length-elements}
use Rattle.key.proofs.Filled.{kept-keep}
use Rattle.key_file.specs.Files.{file_shape, stored}

within : (n k : ℕ) → n ≤ k → min n k ≡ n
within n k h = omega arith

-- the first elements written over zeros
pub stored_fill : (k : ℕ) (file : List ℕ) (at n : ℕ) {i : ℕ} → i ≡ min n k → elements file at i ++ drop i (replicate k 0) ≡ stored k file at n
unfolding stored over
stored_fill k file at n {i} e =
    ap (λ (j : ℕ). elements file at i ++ drop j (replicate k 0)) (sym (length-elements file at i))
    ∙ over_zeros k (elements file at i)
    ∙ ap (λ (j : ℕ). padded k (elements file at j)) e

-- the shape that a file says
pub sizes_said : (file : List ℕ) {m n t : ℕ} → m ≡ get_or file 0 0 → n ≡ pair file 1 → t ≡ pair file (3 + 2 * n)
    → ◌≡◌ {A = Sizes} (record { m = m; n = n; t = t }) (sizes_of (parse file))
unfolding sizes_of parse
sizes_said file {n = n} em en et =
    ap₂ (λ (x : ℕ × ℕ) (t : ℕ). record { m = x.0; n = x.1; t = t }) (ap₂ (λ (m n : ℕ). (m, n)) em en) (et ∙ ap (λ (n : ℕ). pair file (3 + 2 * n)) en)

module _ (file : List ℕ) where
  -- the file's length is not that of its n and t
  unfoldable wrong : Bool
  wrong = not (eqb (length file) (5 + 2 * (parse file).n + 2 * (parse file).t))

  conditions_of_lem : conditions wrong (parse file) ≡ file_conditions file
  unfolding file_conditions wrong
  conditions_of_lem = refl

  abbrev head : ℕ
  head = first_of (take 3 (file_conditions file))

  -- the header's tests, of the shape s that the file says
  module _ (s : Sizes) (e : s ≡ sizes_of (parse file)) where
    widths : is_width s.m ≡ is_width (parse file).m
    unfolding sizes_of
    widths = ap (λ (x : Sizes). is_width x.m) e

    sums : 5 + 2 * s.n + 2 * s.t ≡ 5 + 2 * (parse file).n + 2 * (parse file).t
    unfolding sizes_of
    sums = ap (λ (x : Sizes). 5 + 2 * x.n + 2 * x.t) e

    limits : in_limits s.m s.n s.t ≡ in_limits (parse file).m (parse file).n (parse file).t
    unfolding sizes_of
    limits = ap (λ (x : Sizes). in_limits x.m x.n x.t) e

    pub file_width : is_width s.m ≡ false → 1 ≡ head
    file_width h = head_width wrong (parse file) (sym widths ∙ h) ∙ ap (λ cs. first_of (take 3 cs)) conditions_of_lem

    module _ (w : Width s.m) where
      pub file_length : (length file ≡ 5 + 2 * s.n + 2 * s.t → ⊥) → 2 ≡ head
      unfolding wrong
      file_length h =
          head_length wrong (parse file) (sym widths ∙ w) (ap not (ne_eqb (length file) _ (λ q. h (q ∙ sym sums))))
          ∙ ap (λ cs. first_of (take 3 cs)) conditions_of_lem

      module _ (l : length file ≡ 5 + 2 * s.n + 2 * s.t) where
        right : wrong ≡ false
        unfolding wrong
        right = ap not (eq-eqb (length file) (5 + 2 * (parse file).n + 2 * (parse file).t) (l ∙ sums))

        pub file_limits : in_limits s.m s.n s.t ≡ false → 3 ≡ head
        file_limits h =
            head_limits wrong (parse file) (sym widths ∙ w) right (sym limits ∙ h) ∙ ap (λ cs. first_of (take 3 cs)) conditions_of_lem

        pub file_none : in_limits s.m s.n s.t ≡ true → 0 ≡ head
        file_none h =
            head_none wrong (parse file) (sym widths ∙ w) right (sym limits ∙ h) ∙ ap (λ cs. first_of (take 3 cs)) conditions_of_lem

  support_length : length (parse file).support ≡ (parse file).n
  unfolding parse
  support_length = length-elements file 3 _

  g_length : length (parse file).g ≡ (parse file).t
  unfolding parse
  g_length = length-elements file _ _

  -- the header is right
  module _ (z : head ≡ 0) where
    clear : Width (parse file).m × (wrong ≡ false) × (in_limits (parse file).m (parse file).n (parse file).t ≡ true)
    clear = head_clear wrong (parse file) (ap (λ cs. first_of (take 3 cs)) conditions_of_lem ∙ z)

    clear_width : Width (parse file).m
    clear_width = clear.0

    clear_limits : in_limits (parse file).m (parse file).n (parse file).t ≡ true
    clear_limits = clear.2

    -- the shape s that the file says fits the arrays
    said_fit : (s : Sizes) → s ≡ sizes_of (parse file) → (s.n ≤ 8192) × (s.t ≤ 128)
    unfolding sizes_of
    said_fit s e =
        let fit = limits_fit (parse file).m (parse file).n (parse file).t clear_width clear_limits in
        (subst (◌≤ 8192) (sym (ap (λ (x : Sizes). x.n) e)) fit.0, subst (◌≤ 128) (sym (ap (λ (x : Sizes). x.t) e)) fit.1)

    -- the file's key decides
    key_decides : key_number (parse file) ≡ first_of (file_conditions file)
    unfolding key_number
    key_decides =
        let k = parse file in
        let lengths : not (eqb (length k.support) k.n && eqb (length k.g) k.t) ≡ false =
        ap₂ (λ (x y : Bool). not (x && y)) (eq-eqb (length k.support) k.n support_length) (eq-eqb (length k.g) k.t g_length) in
        sym (number-faults (not (eqb (length k.support) k.n && eqb (length k.g) k.t)) k clear_width lengths clear_limits)
        ∙ number-faults wrong k clear_width clear.1 clear_limits
        ∙ ap first_of conditions_of_lem

  -- the arrays of the shape s that the file says are those of its key
  pub stored_key : head ≡ 0 → (s : Sizes) → s ≡ sizes_of (parse file)
      → parts s.m s.n s.t (stored 8192 file 3 s.n) (stored 128 file (5 + 2 * s.n) s.t) ≡ keep (parse file)
  unfolding stored keep parse sizes_of
  stored_key z s e =
      let fit = said_fit z s e in
      ap₂ (λ (i j : ℕ). parts s.m s.n s.t (padded 8192 (elements file 3 i)) (padded 128 (elements file (5 + 2 * s.n) j))) (within _ _ fit.0) (within _ _ fit.1)
      ∙ ap (λ (s : Sizes). parts s.m s.n s.t (padded 8192 (elements file 3 s.n)) (padded 128 (elements file (5 + 2 * s.n) s.t))) e

  -- they decide
  pub stored_decides : head ≡ 0 → (s : Sizes) → s ≡ sizes_of (parse file)
      → key_number (kept (parts s.m s.n s.t (stored 8192 file 3 s.n) (stored 128 file (5 + 2 * s.n) s.t))) ≡ first_of (file_conditions file)
  stored_decides z s e =
      ap (λ (k : Key). key_number (kept k)) (stored_key z s e) ∙ ap key_number (kept-keep (parse file) support_length g_length) ∙ key_decides z

  -- the shape or the number, by the first condition that holds
  pub file_refused : {x : ℕ} → x ≡ first_of (file_conditions file) → (x ≡ 0 → ⊥) → answers.Refused x ≡ file_shape file
  unfolding file_shape shape_answer
  file_refused {x = zero} e n = absurd (n refl)
  file_refused {x = suc x} e n = ap (λ (i : ℕ). shape_answer i ((parse file).m, (parse file).n, (parse file).t)) e

  pub file_sizes : {s : Sizes} → s ≡ sizes_of (parse file) → first_of (file_conditions file) ≡ 0 → answers.Sizes s ≡ file_shape file
  unfolding file_shape shape_answer sizes sizes_of
  file_sizes q z = ap (λ (s : Sizes). answers.Sizes s) q ∙ ap (λ (i : ℕ). shape_answer i ((parse file).m, (parse file).n, (parse file).t)) (sym z)

  -- an accepted file's header is right
  pub head_accepted : first_of (file_conditions file) ≡ 0 → head ≡ 0
  head_accepted z = elim (ℕ_discrete head 0) [
    | yes h ↦ h
    | no n ↦ absurd (n (first-take 3 (file_conditions file) n ∙ z))
  ]

  -- what an answer says
  pub shape_accepted : {s : Sizes} → file_shape file ≡ answers.Sizes s → (first_of (file_conditions file) ≡ 0) × (s ≡ sizes_of (parse file))
  unfolding file_shape sizes sizes_of
  shape_accepted e = Answers.shape_sizes (first_of (file_conditions file)) _ e

  pub shape_refused : {x : ℕ} → file_shape file ≡ answers.Refused x → (x ≡ first_of (file_conditions file)) × (first_of (file_conditions file) ≡ 0 → ⊥)
  unfolding file_shape
  shape_refused e = Answers.shape_refused (first_of (file_conditions file)) _ e
