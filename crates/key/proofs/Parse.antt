-- A key's file gives the key back; the key of an accepted file is one that may be kept, and the file of such a key is accepted.
-- Assumes nothing.
use Prim.Native.Nat.{ℕ, suc, ◌+◌, ◌*◌, ◌/◌, ◌%◌, ◌<◌}
use mathlib.Core.Path.{◌≡◌, refl, sym, ap, ap₂, ◌∙◌}
use mathlib.Core.Bool.{Bool, false, not, ◌&&◌}
use mathlib.Core.List.{List, [], ◌∷◌, ◌++◌, flat_map, append-nil}
use native.Mathlib.Omega.{arith}
use lib.Dec.{eqb}
use lib.ListN.{length, get_or, length-append}
use borrow.Author.Tests.{eqb-true, eq-eqb, not-false}
use Rattle.bits.specs.Bits.{from}
use Rattle.bits.proofs.Lists.{and_left, and_right, cons_eq, map-from, length-map-from}
use Rattle.field.specs.Numbers.{first_of}
use Rattle.key.specs.Keys.{Key, pair, elements, parse, two_bytes, file_of, conditions, file_conditions, key_number}
use Rattle.field.proofs.Numbers.{first-clear}

pub two_back : (x : ℕ) → x % 256 + 256 * (x / 256) ≡ x
two_back x = omega arith

-- two bytes at the front, read back
pub pair-first : (x : ℕ) (l : List ℕ) → pair (x % 256 ∷ x / 256 ∷ l) 0 ≡ x
unfolding pair
pair-first x l = two_back x

-- what stands in front is passed over: one byte, and the bytes of elements
pub pair_behind : (x : ℕ) (l : List ℕ) (i : ℕ) → pair (x ∷ l) (suc i) ≡ pair l i
unfolding pair
pair_behind x l i = let e : suc i + 1 ≡ suc (i + 1) = omega arith in ap (λ (k : ℕ). get_or l i 0 + 256 * get_or (x ∷ l) k 0) e

pub pair_behind_all : (xs rest : List ℕ) (i : ℕ) → pair (flat_map two_bytes xs ++ rest) (2 * length xs + i) ≡ pair rest i
unfolding flat_map two_bytes
pair_behind_all [] rest i = ap (pair rest) (omega arith)
pair_behind_all (x ∷ xs) rest i =
    let e : 2 * suc (length xs) + i ≡ suc (suc (2 * length xs + i)) = omega arith in
    ap (pair (x % 256 ∷ x / 256 ∷ (flat_map two_bytes xs ++ rest))) e ∙ pair_behind _ _ _ ∙ pair_behind _ _ _ ∙ pair_behind_all xs rest i

pub length-elements : (file : List ℕ) (at k : ℕ) → length (elements file at k) ≡ k
unfolding elements
length-elements file at k = length-map-from (λ j. pair file (at + 2 * j)) 0 k

-- the elements at one place of a file are those at another place of another
pub elements-moved : (l r : List ℕ) (at to k : ℕ) → ((i : ℕ) → pair l (at + i) ≡ pair r (to + i)) → elements l at k ≡ elements r to k
unfolding elements
elements-moved l r at to k h = map-from _ _ 0 0 k (λ i b. h (2 * (0 + i)))

-- the bytes of elements, read back
pub elements_back : (xs rest : List ℕ) → elements (flat_map two_bytes xs ++ rest) 0 (length xs) ≡ xs
unfolding elements flat_map two_bytes from pair
elements_back [] rest = refl
elements_back (x ∷ xs) rest = cons_eq (two_back x) (map-from _ _ 1 0 (length xs) shift ∙ elements_back xs rest)
  where
    l : List ℕ
    l = flat_map two_bytes xs ++ rest

    shift : (i : ℕ) → i < length xs → pair (x % 256 ∷ x / 256 ∷ l) (0 + 2 * (1 + i)) ≡ pair l (0 + 2 * (0 + i))
    shift i b =
        let e : 0 + 2 * (1 + i) ≡ suc (suc (0 + 2 * (0 + i))) = omega arith in
        ap (pair (x % 256 ∷ x / 256 ∷ l)) e ∙ pair_behind (x % 256) (x / 256 ∷ l) (suc (0 + 2 * (0 + i))) ∙ pair_behind (x / 256) l (0 + 2 * (0 + i))

-- a key's file says that key
pub parse_file : (k : Key) → length k.support ≡ k.n → length k.g ≡ k.t → parse (file_of k) ≡ k
unfolding parse file_of two_bytes
parse_file k a b = λ i. record { m = k.m; n = n_back i; t = t_back i; support = support_back i; g = g_back i }
  where
    end : List ℕ
    end = k.t % 256 ∷ k.t / 256 ∷ flat_map two_bytes k.g

    tail : List ℕ
    tail = flat_map two_bytes k.support ++ end

    file : List ℕ
    file = k.m ∷ k.n % 256 ∷ k.n / 256 ∷ tail

    size : ℕ
    size = 2 * length k.support

    front : (i : ℕ) → pair file (3 + i) ≡ pair tail i
    front i =
        let e : 3 + i ≡ suc (suc (suc i)) = omega arith in
        ap (pair file) e ∙ pair_behind k.m (k.n % 256 ∷ k.n / 256 ∷ tail) (suc (suc i))
        ∙ pair_behind (k.n % 256) (k.n / 256 ∷ tail) (suc i) ∙ pair_behind (k.n / 256) tail i

    n_back : pair file 1 ≡ k.n
    n_back = pair_behind k.m (k.n % 256 ∷ k.n / 256 ∷ tail) 0 ∙ pair-first k.n tail

    t_back : pair file (3 + 2 * pair file 1) ≡ k.t
    t_back =
        let e : size ≡ size + 0 = omega arith in
        ap (λ (x : ℕ). pair file (3 + 2 * x)) (n_back ∙ sym a) ∙ front size ∙ ap (pair tail) e
        ∙ pair_behind_all k.support end 0 ∙ pair-first k.t (flat_map two_bytes k.g)

    support_back : elements file 3 (pair file 1) ≡ k.support
    support_back =
        ap (elements file 3) (n_back ∙ sym a)
        ∙ elements-moved file tail 3 0 (length k.support) (λ i. let e : i ≡ 0 + i = omega arith in front i ∙ ap (pair tail) e)
        ∙ elements_back k.support end

    behind : (i : ℕ) → pair file (5 + size + i) ≡ pair (flat_map two_bytes k.g ++ []) (0 + i)
    behind i =
        let c : 5 + size + i ≡ 3 + (size + suc (suc i)) = omega arith in
        let e : i ≡ 0 + i = omega arith in
        ap (pair file) c ∙ front (size + suc (suc i)) ∙ pair_behind_all k.support end (suc (suc i))
        ∙ pair_behind (k.t % 256) (k.t / 256 ∷ flat_map two_bytes k.g) (suc i)
        ∙ pair_behind (k.t / 256) (flat_map two_bytes k.g) i
        ∙ ap₂ pair (sym (append-nil (flat_map two_bytes k.g))) e

    g_back : elements file (5 + 2 * pair file 1) (pair file (3 + 2 * pair file 1)) ≡ k.g
    g_back =
        ap₂ (λ (x y : ℕ). elements file (5 + 2 * x) y) (n_back ∙ sym a) (t_back ∙ sym b)
        ∙ elements-moved file (flat_map two_bytes k.g ++ []) (5 + size) 0 (length k.g) behind ∙ elements_back k.g []

pub right_length : (wrong : Bool) (k : Key) → first_of (conditions wrong k) ≡ 0 → wrong ≡ false
unfolding conditions
right_length wrong k e = (first-clear wrong 1 _ (first-clear _ 0 _ e).1).0

-- what load accepts may be kept
pub accepted_key : (file : List ℕ) → first_of (file_conditions file) ≡ 0 → key_number (parse file) ≡ 0
unfolding file_conditions key_number parse
accepted_key file e =
    ap₂ (λ (x y : Bool). first_of (conditions (not (x && y)) k)) (eq-eqb _ _ (length-elements file 3 k.n)) (eq-eqb _ _ (length-elements file (5 + 2 * k.n) k.t))
    ∙ ap (λ (x : Bool). first_of (conditions x k)) (sym (right_length _ k e)) ∙ e
  where
    k : Key
    k = parse file

-- a key's file has the length that its n and t say
pub length_bytes : (xs : List ℕ) → length (flat_map two_bytes xs) ≡ 2 * length xs
unfolding flat_map two_bytes
length_bytes [] = refl
length_bytes (x ∷ xs) = omega (arith, length_bytes xs)

length_file : (k : Key) → length (file_of k) ≡ 5 + 2 * length k.support + 2 * length k.g
unfolding file_of two_bytes
length_file k =
    omega (arith, length-append (flat_map two_bytes k.support) (k.t % 256 ∷ k.t / 256 ∷ flat_map two_bytes k.g), length_bytes k.support, length_bytes k.g)

-- load accepts the file of a key that may be kept
pub accepted_file : (k : Key) → key_number k ≡ 0 → (first_of (file_conditions (file_of k)) ≡ 0) × (parse (file_of k) ≡ k)
unfolding file_conditions key_number
accepted_file k e =
    let sizes = not-false _ (right_length _ k e) in
    let a : length k.support ≡ k.n = eqb-true _ _ (and_left (eqb (length k.support) k.n) _ sizes) in
    let b : length k.g ≡ k.t = eqb-true _ _ (and_right (eqb (length k.support) k.n) _ sizes) in
    let back = parse_file k a b in
    let size : length (file_of k) ≡ 5 + 2 * k.n + 2 * k.t = omega (arith, length_file k) in (
      ap (λ (x : Key). first_of (conditions (not (eqb (length (file_of k)) (5 + 2 * x.n + 2 * x.t))) x)) back
          ∙ ap (λ (x : Bool). first_of (conditions (not x) k)) (eq-eqb _ _ size)
          ∙ ap (λ (x : Bool). first_of (conditions x k)) (sym (right_length _ k e)) ∙ e,
      back,
    )
