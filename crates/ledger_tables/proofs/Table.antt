-- Tables of what is asked and its answer, proved by computation from the definitions: document 01's rows P1 to P13, its facts
-- by running, the orders of the numbers, and a list of calls. Assumes nothing.
use Prim.Native.Nat.{ℕ, zero, suc}
use mathlib.Core.Path.{◌≡◌, refl}
use mathlib.Core.Bool.{true}
use mathlib.Core.List.{List, [], ◌∷◌, ◌++◌, map, flat_map, zip_with}
use mathlib.Core.Option.{some}
use lib.ListN.{length, get_or, replicate}
use Rattle.bits.specs.Xor.{◌⊕◌}
use Rattle.bits.specs.Bits.{from, every, bytes_for, bit_at, unpack, number, pack, ones, weight, filler_clear, well_formed, each_with, xor_row, dot, over}
use Rattle.field.specs.Numbers.{first_of}
use Rattle.field.specs.Field.{is_width, is_element, modulus_of, poly_mul, reduced, mul_mod, mul, power, last_below, inv}
use Rattle.field.specs.Poly.{value}
use Rattle.poly.specs.Polynomials.{sum, same, monic, product, some_below, some_list, has_square}
use Rattle.factors.specs.Factors.{has_factor}
use Rattle.key.specs.Shapes.{in_limits}
use Rattle.key.specs.Keys.{Key, pair, elements, parse, two_bytes, file_of, distinct, goppa_at, conditions, file_conditions, key_number, unsound, reducible}
use Rattle.key.specs.Bench.{K1, K2, K1-with, K3}
use Rattle.network.specs.Network.{exchange, sent, switches}
use Rattle.network.specs.Network as Network
use Rattle.network_key.specs.Files.{reversed, support_of, four, four_bytes, parse_network, network_conditions}
use Rattle.code.specs.Code.{entry, in_code, parity_row, parity_rows}
use Rattle.code.specs.PublicKey.{with_row, find_pivot, clear, with_pivot, columns, echelon, public_key, dependent, written}
use Rattle.code.specs.Lock.{locked, row_of, rows_of, lock_number, lock}
use Rattle.decoder.specs.Search.{or_else, first_row}
use Rattle.decoder.specs.Reading.{corrects, reading, filled, exactly, opening}
use Rattle.code.specs.Publish.{capsule_bits, publish_checks_within, publish_conditions_within, free_bytes_within}
use Rattle.decoder.specs.Calls.{found, is_none, open_conditions, read_conditions}
use Rattle.marks.specs.Marked.{steady, unmarked, differences, corrects_marked, marked_reading, marked_conditions}
use Rattle.records.specs.Records.{cut, capsules_of, capsule_conditions, record_of, records_of, occurrences, counts_of, report_conditions}
use Rattle.session.specs.Session.{session_conditions}
use Rattle.ledger.specs.Slot.{State, empty, loaded, published, Slot, empty_key, fresh, is_empty, is_unpublished, held_by, Outcome}
use Rattle.ledger.specs.Loading.{key_file, network_file, loading_conditions, loaded_key}
use Rattle.ledger.specs.Publishing.{systematic, small, public_buffer, work_buffer, needed_bytes, publishing_conditions, publication, freed_bytes}
use Rattle.ledger.specs.Questions.{open_capsule, read_word, read_marked, report, derive_session_key, answer_buffer, question_conditions, gives, given, answer_size}
use Rattle.ledger.specs.Calls.{Call, load, publish, ask, drop_key, conditions_of, output_of, no_answer, made, unless, step, run}
use Rattle.ledger.specs.Ledger.{blank, held_in, ledger_number, entered, fed, ledger_after, expected}

-- what a row asks: a call after a list of calls, or on a slot; how many bytes of the workspace that call frees; the counts that
-- it answers; a lock under a shape and a public key, or under the public key of a key file; a product
pub data Asked : Type 0 where
  after : List Call → Call → Asked
  on : Slot → Call → Asked
  frees : Slot → Call → Asked
  counts : Slot → Call → Asked
  lock_shape : ℕ → ℕ → ℕ → List ℕ → List ℕ → List ℕ → Asked
  locks : List ℕ → List ℕ → List ℕ → Asked
  times : ℕ → ℕ → ℕ → Asked

-- its answer: accepted, with the output buffer and the number of ones; refused by a number; free bytes; how many counts, and those
-- of 0, 8, 9 and 13; an element
pub data Answer : Type 0 where
  accepted : List ℕ → ℕ → Answer
  refused : ℕ → Answer
  free : ℕ → Answer
  numbers : ℕ → List ℕ → Answer
  element : ℕ → Answer

unfoldable pub answer_by : ℕ → List ℕ → ℕ → Answer
answer_by zero out count = accepted out count
answer_by (suc n) out count = refused (suc n)

unfoldable pub answer_of : {S : Type 0} → Outcome S → Answer
answer_of r = answer_by r.number r.output r.count

unfoldable pub lock_answer : ℕ → ℕ → ℕ → List ℕ → List ℕ → List ℕ → Answer
lock_answer m n t public pattern out = answer_by (lock_number m n t public pattern out) (over (lock m n t public pattern) out) 0

unfoldable pub counts_in : List ℕ → Answer
counts_in a = numbers (length a) (map (λ v. get_or a v 0) (0 ∷ 8 ∷ 9 ∷ 13 ∷ []))

unfoldable pub answer : Asked → Answer
answer (after calls c) = answer_of (step (run step fresh calls) c)
answer (on s c) = answer_of (step s c)
answer (frees s c) = free (step s c).free
answer (counts s c) = counts_in (step s c).answer
answer (lock_shape m n t public pattern out) = lock_answer m n t public pattern out
answer (locks file pattern out) = let k : Key = parse file in lock_answer k.m k.n k.t (written (public_key k)) pattern out
answer (times m a b) = element (mul m a b)

-- every row of the table has its answer
abbrev pub Holds : List (Asked × Answer) → Type 0
Holds table = map (λ r. answer r.0) table ≡ map (λ r. r.1) table

-- a buffer of n zeros
unfoldable pub zeros : ℕ → List ℕ
zeros n = replicate n 0

unfoldable pub published_K1 : List Call
published_K1 = load (key_file K1) ∷ publish (systematic (zeros 4) (zeros 4)) ∷ []

-- the slot that they leave
unfoldable pub published_1 : Slot
published_1 = record { state = published; key = parse K1 }

-- a key file of width 4
unfoldable pub file : ℕ → ℕ → List ℕ → List ℕ → List ℕ
file n t support g = file_of (record { m = 4; n = n; t = t; support = support; g = g })

-- a network file of width 4 with this bit count and these packed bits, and that of K1
unfoldable pub network : ℕ → List ℕ → ℕ → List ℕ → List ℕ
network n g count row = 4 ∷ (two_bytes n ++ (two_bytes (length g) ++ (flat_map two_bytes g ++ (four_bytes count ++ row))))

unfoldable pub N1 : List ℕ
N1 = network 6 (0 ∷ []) 56 (0x60 ∷ 0x40 ∷ 0xB0 ∷ 0x7C ∷ 0x33 ∷ 0xFC ∷ 0x84 ∷ [])

-- P1 to P13
unfoldable pub rows : List (Asked × Answer)
rows =
    (after [] (load (key_file K1)), accepted [] 0) ∷
    (after (load (key_file K1) ∷ []) (publish (systematic (zeros 4) (zeros 4))), accepted (0x03 ∷ 0x01 ∷ 0x02 ∷ 0x00 ∷ []) 0) ∷
    (locks K1 (0x10 ∷ []) (zeros 1), accepted (0x03 ∷ []) 0) ∷
    (after published_K1 (ask (open_capsule (0x03 ∷ []) (zeros 1))), accepted (0x10 ∷ []) 1) ∷
    (after published_K1 (ask (open_capsule (0x00 ∷ []) (zeros 1))), refused 13) ∷
    (after published_K1 (ask (open_capsule (0x06 ∷ []) (zeros 1))), refused 13) ∷
    (after published_K1 (ask (open_capsule (0x13 ∷ []) (zeros 1))), refused 9) ∷
    (after published_K1 (ask (read_word (0x13 ∷ []) (zeros 1))), accepted (0x00 ∷ []) 0) ∷
    (after published_K1 (ask (read_word (0x24 ∷ []) (zeros 1))), accepted (0x01 ∷ []) 1) ∷
    (after published_K1 (ask (read_word (0x06 ∷ []) (zeros 1))), refused 14) ∷
    (after [] (load (key_file (K1-with (1 ∷ 9 ∷ 13 ∷ 15 ∷ 14 ∷ 1 ∷ [])))), refused 5) ∷
    (after (load (key_file K3) ∷ []) (publish (systematic (zeros 4) (zeros 4))), refused 23) ∷
    (times 4 8 15, element 1) ∷ []

-- the facts that document 01 has by running; n 5 and 16 pass the check of the shape, and n 16 meets 7
unfoldable pub running : List (Asked × Answer)
running =
    (after (load (key_file K2) ∷ []) (ask (read_word (0x03 ∷ 0x00 ∷ []) (zeros 2))), accepted (0x03 ∷ 0x00 ∷ []) 2) ∷
    (locks K1 (0x00 ∷ []) (zeros 1), refused 12) ∷
    (after [] (load (key_file (file 4 1 (from 1 4) (0 ∷ [])))), refused 3) ∷
    (after [] (load (key_file (file 17 1 (from 0 17) (0 ∷ [])))), refused 3) ∷
    (after [] (load (key_file (file 5 1 (from 1 5) (0 ∷ [])))), accepted [] 0) ∷
    (after [] (load (key_file (file 16 1 (from 0 16) (0 ∷ [])))), refused 7) ∷
    (after [] (load (key_file (file 9 2 (from 2 9) (1 ∷ 0 ∷ [])))), refused 6) ∷ []

-- a slot with a key that load does not accept: the last element stands twice, and the first columns are dependent
unfoldable pub bad : State → Slot
bad s = record { state = s; key = parse (K1-with (1 ∷ 14 ∷ 9 ∷ 13 ∷ 15 ∷ 15 ∷ [])) }

-- a key file that load accepts, with g = (x + 4)·(x + 15)
unfoldable pub factored_file : List ℕ
factored_file = file 9 2 (12 ∷ 3 ∷ 8 ∷ 9 ∷ 1 ∷ 14 ∷ 6 ∷ 0 ∷ 13 ∷ []) (9 ∷ 11 ∷ [])

-- a slot with its key, and one with a key of the same g that load does not accept: the last element stands twice
unfoldable pub factored : State → Slot
factored s = record { state = s; key = parse factored_file }

unfoldable pub bad_factored : State → Slot
bad_factored s = record { state = s; key = parse (file 9 2 (12 ∷ 3 ∷ 8 ∷ 9 ∷ 1 ∷ 14 ∷ 6 ∷ 0 ∷ 0 ∷ []) (9 ∷ 11 ∷ [])) }

-- which of two numbers comes first, in the documents' order of the calls; load and read have no 34
unfoldable pub orders : List (Asked × Answer)
orders =
    -- load 22, 1, 2, 3, 4, 5, 6, 7
    (after (load (key_file K1) ∷ []) (load (key_file [])), refused 22) ∷
    (on (bad loaded) (load (key_file K1)), refused 22) ∷
    (after [] (load (key_file [])), refused 1) ∷
    (after [] (load (key_file (0x05 ∷ []))), refused 1) ∷
    (after [] (load (key_file (0x04 ∷ []))), refused 2) ∷
    (after [] (load (key_file (K1 ++ (0x00 ∷ [])))), refused 2) ∷
    (after [] (load (key_file (file 4 1 (from 15 4) (0 ∷ [])))), refused 3) ∷
    (after [] (load (key_file (K1-with (16 ∷ 16 ∷ 13 ∷ 15 ∷ 14 ∷ 11 ∷ [])))), refused 4) ∷
    (after [] (load (key_file (file 6 1 (1 ∷ from 1 5) (16 ∷ [])))), refused 4) ∷
    (after [] (load (key_file (file 9 2 (2 ∷ from 2 8) (1 ∷ 0 ∷ [])))), refused 5) ∷
    (after [] (load (key_file (file 9 2 (from 0 9) (1 ∷ 0 ∷ [])))), refused 6) ∷
    (after [] (load (key_file factored_file)), accepted [] 0) ∷
    -- load of a network file 22, 1, 2, 36, 3, 4, 6, 7
    (after (load (key_file K1) ∷ []) (load (network_file [])), refused 22) ∷
    (after [] (load (network_file [])), refused 1) ∷
    (after [] (load (network_file (0x04 ∷ []))), refused 2) ∷
    (after [] (load (network_file (network 6 (0 ∷ []) 57 (zeros 8)))), refused 2) ∷
    (after [] (load (network_file (network 4 (0 ∷ []) 64 (zeros 7)))), refused 36) ∷
    (after [] (load (network_file (network 4 (16 ∷ []) 56 (zeros 7)))), refused 3) ∷
    (after [] (load (network_file (network 9 (16 ∷ 16 ∷ []) 56 (zeros 7)))), refused 4) ∷
    (after [] (load (network_file (network 9 (1 ∷ 0 ∷ []) 56 (zeros 7)))), refused 6) ∷
    (after [] (load (network_file (network 6 (0 ∷ []) 56 (zeros 7)))), refused 7) ∷
    (after [] (load (network_file N1)), accepted [] 0) ∷
    (after (load (network_file N1) ∷ publish (systematic (zeros 4) (zeros 4)) ∷ []) (ask (open_capsule (0x03 ∷ []) (zeros 1))), accepted (0x10 ∷ []) 1) ∷
    -- publish 21, 25, 34, 10, 11, 23
    (after [] (publish (systematic [] [])), refused 21) ∷
    (on (bad empty) (publish (systematic (zeros 4) (zeros 4))), refused 21) ∷
    (on (bad loaded) (publish (systematic [] [])), refused 25) ∷
    (on (bad loaded) (publish (systematic (zeros 4) (zeros 4))), refused 25) ∷
    (on (factored empty) (publish (systematic [] [])), refused 21) ∷
    (on (bad_factored loaded) (publish (systematic [] [])), refused 25) ∷
    (after (load (key_file factored_file) ∷ []) (publish (systematic [] [])), refused 34) ∷
    (after (load (key_file factored_file) ∷ []) (publish (systematic (zeros 8) (zeros 16))), refused 34) ∷
    (on (factored published) (publish (systematic (zeros 8) [])), refused 34) ∷
    (after (load (key_file K3) ∷ []) (publish (systematic (zeros 3) (zeros 3))), refused 10) ∷
    (after (load (key_file K3) ∷ []) (publish (systematic (zeros 4) (zeros 3))), refused 11) ∷
    -- open 21, 25, 34, 24, 8, 9, 10, 13
    (after [] (ask (open_capsule [] [])), refused 21) ∷
    (on (bad loaded) (ask (open_capsule [] [])), refused 25) ∷
    (on (bad published) (ask (open_capsule (0x13 ∷ []) [])), refused 25) ∷
    (on (bad_factored published) (ask (open_capsule [] [])), refused 25) ∷
    (after (load (key_file factored_file) ∷ []) (ask (open_capsule [] [])), refused 34) ∷
    (on (factored published) (ask (open_capsule [] [])), refused 34) ∷
    (on (factored published) (ask (open_capsule (0x00 ∷ []) (zeros 2))), refused 34) ∷
    (after (load (key_file K1) ∷ []) (ask (open_capsule [] [])), refused 24) ∷
    (after published_K1 (ask (open_capsule (0x13 ∷ 0x00 ∷ []) [])), refused 8) ∷
    (after published_K1 (ask (open_capsule (0x13 ∷ []) [])), refused 9) ∷
    (after published_K1 (ask (open_capsule (0x00 ∷ []) [])), refused 10) ∷
    -- read 21, 25, 8, 9, 10, 14
    (after [] (ask (read_word [] [])), refused 21) ∷
    (on (bad loaded) (ask (read_word (0xFF ∷ []) [])), refused 25) ∷
    (on (bad_factored loaded) (ask (read_word [] [])), refused 25) ∷
    (after (load (key_file factored_file) ∷ []) (ask (read_word [] [])), refused 8) ∷
    (on (factored published) (ask (read_word (0x81 ∷ 0x00 ∷ []) (zeros 2))), accepted (0x81 ∷ 0x00 ∷ []) 2) ∷
    (after (load (key_file K1) ∷ []) (ask (read_word (0xFF ∷ 0x00 ∷ []) [])), refused 8) ∷
    (after (load (key_file K1) ∷ []) (ask (read_word (0xFF ∷ []) [])), refused 9) ∷
    (after (load (key_file K1) ∷ []) (ask (read_word (0x06 ∷ []) [])), refused 10) ∷
    -- marked reading 21, 25, 8, 9, 37, 10, 14
    (after [] (ask (read_marked [] (0xFF ∷ []) [])), refused 21) ∷
    (on (bad loaded) (ask (read_marked (0xFF ∷ []) (0xFF ∷ []) [])), refused 25) ∷
    (on (bad_factored loaded) (ask (read_marked [] [] [])), refused 25) ∷
    (after (load (key_file factored_file) ∷ []) (ask (read_marked [] [] [])), refused 8) ∷
    (after (load (key_file K1) ∷ []) (ask (read_marked (0xFF ∷ 0x00 ∷ []) [] [])), refused 8) ∷
    (after (load (key_file K1) ∷ []) (ask (read_marked (0xFF ∷ []) [] [])), refused 9) ∷
    (after (load (key_file K1) ∷ []) (ask (read_marked (0x06 ∷ []) [] [])), refused 37) ∷
    (after (load (key_file K1) ∷ []) (ask (read_marked (0x06 ∷ []) (zeros 2) [])), refused 37) ∷
    (after (load (key_file K1) ∷ []) (ask (read_marked (0x06 ∷ []) (0x40 ∷ []) [])), refused 37) ∷
    (after (load (key_file K1) ∷ []) (ask (read_marked (0x06 ∷ []) (0x3F ∷ []) [])), refused 10) ∷
    (after (load (key_file K1) ∷ []) (ask (read_marked (0x06 ∷ []) (0x3F ∷ []) (zeros 1))), refused 14) ∷
    (after (load (key_file K1) ∷ []) (ask (read_marked (0x20 ∷ []) (0x00 ∷ []) (zeros 1))), accepted (0x20 ∷ []) 1) ∷
    (after (load (key_file K1) ∷ []) (ask (read_marked (0x03 ∷ []) (0x11 ∷ []) (9 ∷ 9 ∷ []))), accepted (0x10 ∷ 9 ∷ []) 0) ∷
    (on (factored published) (ask (read_marked (0x81 ∷ 0x00 ∷ []) (0x01 ∷ 0x00 ∷ []) (zeros 2))), accepted (0x81 ∷ 0x00 ∷ []) 1) ∷
    -- report 21, 25, 34, 24, 31
    (after [] (ask (report (0x03 ∷ []) [])), refused 21) ∷
    (on (bad loaded) (ask (report (0x03 ∷ []) [])), refused 25) ∷
    (on (bad_factored published) (ask (report [] [])), refused 25) ∷
    (after (load (key_file factored_file) ∷ []) (ask (report (0x03 ∷ []) [])), refused 34) ∷
    (on (factored published) (ask (report (0x03 ∷ []) [])), refused 34) ∷
    (on (factored published) (ask (report [] [])), refused 34) ∷
    (after (load (key_file K1) ∷ []) (ask (report (0x03 ∷ []) [])), refused 24) ∷
    (after published_K1 (ask (report (0x03 ∷ []) [])), refused 31) ∷
    (after published_K1 (ask (report (0x03 ∷ 0x00 ∷ 0x13 ∷ []) (9 ∷ 9 ∷ []))), refused 31) ∷
    (after published_K1 (ask (report [] [])), accepted [] 0) ∷
    -- session key 21, 25, 34, 24, 8, 9, 33
    (after [] (ask (derive_session_key [] [])), refused 21) ∷
    (on (bad loaded) (ask (derive_session_key [] [])), refused 25) ∷
    (on (bad published) (ask (derive_session_key (0x13 ∷ []) [])), refused 25) ∷
    (on (bad_factored published) (ask (derive_session_key [] [])), refused 25) ∷
    (after (load (key_file factored_file) ∷ []) (ask (derive_session_key [] [])), refused 34) ∷
    (on (factored published) (ask (derive_session_key [] [])), refused 34) ∷
    (on (factored published) (ask (derive_session_key (0x00 ∷ []) (zeros 1))), refused 34) ∷
    (on (factored published) (ask (derive_session_key (0x00 ∷ []) (zeros 2))), refused 34) ∷
    (after (load (key_file K1) ∷ []) (ask (derive_session_key [] [])), refused 24) ∷
    (after published_K1 (ask (derive_session_key (0x13 ∷ 0x00 ∷ []) [])), refused 8) ∷
    (after published_K1 (ask (derive_session_key (0x13 ∷ []) [])), refused 9) ∷
    (after published_K1 (ask (derive_session_key (0x03 ∷ []) [])), refused 33) ∷
    (after published_K1 (ask (derive_session_key (0x03 ∷ []) (0x40 ∷ []))), refused 33) ∷
    (after published_K1 (ask (derive_session_key (0x03 ∷ []) (0x2a ∷ []))), accepted [] 0) ∷
    (after published_K1 (ask (derive_session_key (0x00 ∷ []) (0x2a ∷ []))), accepted [] 0) ∷
    -- drop 21
    (after [] drop_key, refused 21) ∷
    (on (bad published) drop_key, accepted [] 0) ∷
    (on (factored loaded) drop_key, accepted [] 0) ∷
    -- lock 1, 3, 8, 9, 12, 10
    (lock_shape 5 0 0 [] [] [], refused 1) ∷
    (lock_shape 4 4 1 [] [] [], refused 3) ∷
    (lock_shape 4 6 1 (0x03 ∷ 0x05 ∷ 0x02 ∷ []) (0x10 ∷ []) [], refused 8) ∷
    (lock_shape 4 6 1 (0x03 ∷ 0x05 ∷ 0x02 ∷ 0x00 ∷ []) (0x00 ∷ []) [], refused 9) ∷
    (locks K1 (0x40 ∷ 0x00 ∷ []) [], refused 8) ∷
    (locks K1 (0x40 ∷ []) [], refused 9) ∷
    (locks K1 (0x00 ∷ []) [], refused 12) ∷
    (locks K1 (0x10 ∷ []) [], refused 10) ∷ []

-- What a call leaves: bytes beyond those written, the mark, and how many bytes of publish's workspace are free.
unfoldable pub remains : List (Asked × Answer)
remains =
    (after (load (key_file K1) ∷ []) (publish (systematic (9 ∷ 9 ∷ 9 ∷ 9 ∷ 9 ∷ 9 ∷ []) (zeros 4))), accepted (0x03 ∷ 0x01 ∷ 0x02 ∷ 0x00 ∷ 9 ∷ 9 ∷ []) 0) ∷
    (after published_K1 (ask (open_capsule (0x03 ∷ []) (9 ∷ 9 ∷ []))), accepted (0x10 ∷ 9 ∷ []) 1) ∷
    (after published_K1 (ask (read_word (0x24 ∷ []) (9 ∷ 9 ∷ []))), accepted (0x01 ∷ 9 ∷ []) 1) ∷
    (locks K1 (0x10 ∷ []) (9 ∷ 9 ∷ []), accepted (0x03 ∷ 9 ∷ []) 0) ∷
    (after (published_K1 ++ (drop_key ∷ [])) (ask (read_word (0x24 ∷ []) (zeros 1))), refused 21) ∷
    (after (published_K1 ++ (drop_key ∷ load (key_file K1) ∷ [])) (ask (open_capsule (0x03 ∷ []) (zeros 1))), refused 24) ∷
    (frees fresh (publish (systematic (zeros 4) (zeros 4))), free 0) ∷
    (frees (bad loaded) (publish (systematic (zeros 4) (zeros 4))), free 0) ∷
    (frees (factored loaded) (publish (systematic (zeros 8) (zeros 16))), free 0) ∷
    (frees (run step fresh (load (key_file K1) ∷ [])) (publish (systematic (zeros 3) (zeros 4))), free 0) ∷
    (frees (run step fresh (load (key_file K1) ∷ [])) (publish (systematic (zeros 4) (zeros 3))), free 0) ∷
    (frees (run step fresh (load (key_file K1) ∷ [])) (publish (systematic (zeros 4) (zeros 6))), free 4) ∷
    (frees (run step fresh (load (key_file K3) ∷ [])) (publish (systematic (zeros 4) (zeros 4))), free 4) ∷ []

-- A key with capsules of two bytes, published: of width 12, with g the unknown itself.
unfoldable pub two_bytes_lem : Slot
two_bytes_lem = record { state = published; key = record { m = 12; n = 13; t = 1; support = from 1 13; g = 0 ∷ [] } }

-- Reports: of document 01's three capsules, and of none; of a capsule with filler set and a short tail; the counts, also on refusal.
-- A refused session key has 32 zeros.
unfoldable pub reports : List (Asked × Answer)
reports =
    (on published_1 (ask (report (0x03 ∷ 0x00 ∷ 0x13 ∷ []) (9 ∷ 9 ∷ 9 ∷ 9 ∷ []))), accepted (0 ∷ 13 ∷ 9 ∷ 9 ∷ []) 0) ∷
    (counts published_1 (ask (report (0x03 ∷ 0x00 ∷ 0x13 ∷ []) (zeros 3))), numbers 256 (1 ∷ 0 ∷ 1 ∷ 1 ∷ [])) ∷
    (counts published_1 (ask (report [] (9 ∷ []))), numbers 256 (zeros 4)) ∷
    (counts published_1 (ask (report (0x03 ∷ []) [])), numbers 256 (zeros 4)) ∷
    (counts published_1 (ask (open_capsule (0x03 ∷ []) (zeros 1))), numbers 0 (zeros 4)) ∷
    (counts published_1 (ask (derive_session_key (0x03 ∷ []) [])), numbers 32 (zeros 4)) ∷
    (on two_bytes_lem (ask (report (0x00 ∷ 0x10 ∷ 0x00 ∷ []) (7 ∷ 7 ∷ 7 ∷ []))), accepted (9 ∷ 8 ∷ 7 ∷ []) 0) ∷
    (on two_bytes_lem (ask (report (0x00 ∷ 0x10 ∷ 0x00 ∷ []) (7 ∷ []))), refused 31) ∷
    (counts two_bytes_lem (ask (report (0x00 ∷ 0x10 ∷ 0x00 ∷ []) (zeros 2))), numbers 256 (0 ∷ 1 ∷ 1 ∷ 0 ∷ [])) ∷ []

-- A list of calls with each call's answer; the first key that is published has the element 0.
unfoldable pub answers : {S C : Type 0} → (S → C → Outcome S) → S → List C → List Answer
answers call s [] = []
answers call s (c ∷ cs) = answer_of (call s c) ∷ answers call (call s c).station cs

unfoldable pub story : List (Call × Answer)
story =
    (publish (systematic (zeros 3) (zeros 10)), refused 21) ∷
    (drop_key, refused 21) ∷
    (ask (read_word [] (zeros 2)), refused 21) ∷
    (ask (open_capsule (0x35 ∷ []) (zeros 2)), refused 21) ∷
    (load (key_file factored_file), accepted [] 0) ∷
    (publish (systematic (zeros 8) (zeros 16)), refused 34) ∷
    (ask (open_capsule (0x35 ∷ []) (zeros 2)), refused 34) ∷
    (ask (read_word (0x81 ∷ 0x00 ∷ []) (zeros 2)), accepted (0x81 ∷ 0x00 ∷ []) 2) ∷
    (ask (report (0x35 ∷ []) (zeros 1)), refused 34) ∷
    (ask (derive_session_key (0x35 ∷ []) (zeros 2)), refused 34) ∷
    (drop_key, accepted [] 0) ∷
    (load (key_file (file 6 1 (7 ∷ 2 ∷ 1 ∷ 11 ∷ 4 ∷ 0 ∷ []) (13 ∷ []))), accepted [] 0) ∷
    (publish (systematic (zeros 3) (zeros 3)), refused 10) ∷
    (publish (systematic (zeros 4) (zeros 3)), refused 11) ∷
    (publish (systematic (zeros 4) (zeros 4)), accepted (0x02 ∷ 0x03 ∷ 0x01 ∷ 0x00 ∷ []) 0) ∷
    (ask (read_word (0x2B ∷ []) (zeros 1)), accepted (0x08 ∷ []) 1) ∷
    (publish (systematic (zeros 3) (zeros 4)), refused 10) ∷
    (ask (open_capsule (0x04 ∷ []) (zeros 4)), accepted (0x04 ∷ 0x00 ∷ 0x00 ∷ 0x00 ∷ []) 1) ∷
    (ask (read_word (0x1D ∷ []) (zeros 1)), refused 14) ∷
    (ask (read_word (0x06 ∷ []) (zeros 1)), accepted (0x10 ∷ []) 1) ∷
    (ask (open_capsule (0x0A ∷ []) (zeros 1)), refused 13) ∷
    (ask (read_marked (0x06 ∷ []) (0x10 ∷ []) (zeros 1)), accepted (0x10 ∷ []) 0) ∷
    (ask (report (0x04 ∷ 0x0A ∷ 0x44 ∷ []) (zeros 2)), refused 31) ∷
    (ask (report (0x04 ∷ 0x0A ∷ 0x44 ∷ []) (7 ∷ 7 ∷ 7 ∷ 7 ∷ [])), accepted (0 ∷ 13 ∷ 9 ∷ 7 ∷ []) 0) ∷
    (ask (derive_session_key (0x0A ∷ []) []), refused 33) ∷
    (ask (derive_session_key (0x0A ∷ []) (zeros 1)), accepted [] 0) ∷
    (drop_key, accepted [] 0) ∷
    (load (key_file K1), accepted [] 0) ∷
    (ask (open_capsule [] (zeros 1)), refused 24) ∷
    (ask (open_capsule (0x0E ∷ []) (zeros 1)), refused 24) ∷
    (ask (open_capsule (0x02 ∷ []) (zeros 1)), refused 24) ∷
    (publish (systematic (zeros 4) (zeros 4)), accepted (0x03 ∷ 0x01 ∷ 0x02 ∷ 0x00 ∷ []) 0) ∷ []

unfoldable pub calls : List Call
calls = map (λ r. r.0) story

-- the answers, the ledger's numbers and its end
abbrev pub Story : Type 0
Story =
    (answers step fresh calls ≡ map (λ r. r.1) story) ×
    (expected blank calls ≡ 21 ∷ 21 ∷ 21 ∷ 21 ∷ 0 ∷ 34 ∷ 34 ∷ 0 ∷ 34 ∷ 34 ∷ 0 ∷ 0 ∷ 10 ∷ 11 ∷ 0 ∷ 0 ∷ 10 ∷ 0 ∷ 14 ∷ 0 ∷ 13 ∷ 0 ∷ 31 ∷ 0 ∷ 33 ∷ 0 ∷ 0 ∷ 0 ∷ 24 ∷ 24 ∷ 24 ∷ 0 ∷ []) ×
    (ledger_after blank calls ≡ record { key = some (parse K1); mark = true })

-- Publish in the small workspace: 21, 25, 34, 10, 11, 23 alike; K1 and K3 need 8 bytes of it.
unfoldable pub small_orders : List (Asked × Answer)
small_orders =
    (after [] (publish (small [] [])), refused 21) ∷
    (on (bad empty) (publish (small (zeros 4) (zeros 8))), refused 21) ∷
    (on (bad loaded) (publish (small [] [])), refused 25) ∷
    (on (bad_factored loaded) (publish (small [] [])), refused 25) ∷
    (after (load (key_file factored_file) ∷ []) (publish (small [] [])), refused 34) ∷
    (on (factored published) (publish (small (zeros 8) (zeros 16))), refused 34) ∷
    (after (load (key_file K3) ∷ []) (publish (small (zeros 3) (zeros 7))), refused 10) ∷
    (after (load (key_file K3) ∷ []) (publish (small (zeros 4) (zeros 7))), refused 11) ∷
    (after (load (key_file K3) ∷ []) (publish (small (zeros 4) (zeros 8))), refused 23) ∷
    (after (load (key_file K1) ∷ []) (publish (small (zeros 4) (zeros 7))), refused 11) ∷
    (after (load (key_file K1) ∷ []) (publish (small (9 ∷ 9 ∷ 9 ∷ 9 ∷ 9 ∷ []) (zeros 8))), accepted (0x03 ∷ 0x01 ∷ 0x02 ∷ 0x00 ∷ 9 ∷ []) 0) ∷
    (after (load (key_file K1) ∷ publish (small (zeros 4) (zeros 8)) ∷ []) (ask (open_capsule (0x03 ∷ []) (zeros 1))), accepted (0x10 ∷ []) 1) ∷ []

-- How many bytes of it are free.
unfoldable pub small_remains : List (Asked × Answer)
small_remains =
    (frees fresh (publish (small (zeros 4) (zeros 8))), free 0) ∷
    (frees (bad loaded) (publish (small (zeros 4) (zeros 8))), free 0) ∷
    (frees (factored loaded) (publish (small (zeros 8) (zeros 16))), free 0) ∷
    (frees (run step fresh (load (key_file K1) ∷ [])) (publish (small (zeros 3) (zeros 8))), free 0) ∷
    (frees (run step fresh (load (key_file K1) ∷ [])) (publish (small (zeros 4) (zeros 7))), free 0) ∷
    (frees (run step fresh (load (key_file K1) ∷ [])) (publish (small (zeros 4) (zeros 9))), free 8) ∷
    (frees (run step fresh (load (key_file K3) ∷ [])) (publish (small (zeros 4) (zeros 8))), free 8) ∷ []

-- A list with publish in the small workspace.
unfoldable pub small_story : List (Call × Answer)
small_story =
    (load (key_file K1), accepted [] 0) ∷
    (publish (small (zeros 4) (zeros 7)), refused 11) ∷
    (publish (small (zeros 4) (zeros 8)), accepted (0x03 ∷ 0x01 ∷ 0x02 ∷ 0x00 ∷ []) 0) ∷
    (publish (systematic (zeros 4) (zeros 4)), accepted (0x03 ∷ 0x01 ∷ 0x02 ∷ 0x00 ∷ []) 0) ∷ []

unfoldable pub small_calls : List Call
small_calls = map (λ r. r.0) small_story

abbrev pub SmallStory : Type 0
SmallStory =
    (answers step fresh small_calls ≡ map (λ r. r.1) small_story) ×
    (expected blank small_calls ≡ 0 ∷ 11 ∷ 0 ∷ 0 ∷ []) ×
    (ledger_after blank small_calls ≡ record { key = some (parse K1); mark = true })

-- one computation for all tables
computed : (Holds rows × Holds running × Holds orders × Holds remains × Holds reports × Story) × (Holds small_orders × Holds small_remains × SmallStory)
unfolding ◌⊕◌ from every bytes_for bit_at unpack number pack ones weight filler_clear well_formed each_with xor_row dot first_of is_width is_element modulus_of poly_mul reduced mul_mod mul power last_below inv value sum same monic product some_below some_list has_square has_factor in_limits pair elements parse two_bytes four_bytes file_of distinct goppa_at conditions file_conditions exchange sent Network.network reversed switches support_of four parse_network network_conditions key_number reducible K1 K2 K1-with K3 entry in_code parity_row parity_rows with_row find_pivot clear with_pivot columns echelon public_key dependent written locked row_of rows_of lock_number lock or_else first_row corrects reading filled exactly opening unsound empty_key fresh is_empty is_unpublished held_by capsule_bits found is_none publish_checks_within publish_conditions_within free_bytes_within open_conditions read_conditions steady unmarked differences corrects_marked marked_reading marked_conditions cut capsules_of capsule_conditions record_of records_of occurrences counts_of report_conditions session_conditions loading_conditions loaded_key public_buffer work_buffer needed_bytes publishing_conditions publication freed_bytes answer_buffer question_conditions gives given answer_size over conditions_of output_of no_answer made unless step run blank held_in ledger_number entered fed ledger_after expected answer_by answer_of lock_answer counts_in answer zeros file network N1 published_K1 published_1 rows running factored_file factored bad_factored bad orders remains two_bytes_lem reports answers story calls small_orders small_remains small_story small_calls flat_map zip_with
computed = ((refl, refl, refl, refl, refl, (refl, refl, refl)), (refl, refl, (refl, refl, refl)))

tables_hold : Holds rows × Holds running × Holds orders × Holds remains × Holds reports × Story
tables_hold = computed.0

small_tables_hold : Holds small_orders × Holds small_remains × SmallStory
small_tables_hold = computed.1

pub rows_hold : Holds rows
rows_hold = tables_hold.0

pub running_holds : Holds running
running_holds = tables_hold.1

pub orders_hold : Holds orders
orders_hold = tables_hold.2

pub remains_hold : Holds remains
remains_hold = tables_hold.3

pub reports_hold : Holds reports
reports_hold = tables_hold.4

pub story_holds : Story
story_holds = tables_hold.5

pub small_orders_hold : Holds small_orders
small_orders_hold = small_tables_hold.0

pub small_remains_hold : Holds small_remains
small_remains_hold = small_tables_hold.1

pub small_story_holds : SmallStory
small_story_holds = small_tables_hold.2
