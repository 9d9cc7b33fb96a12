-- A list of calls over both recipients with each call's answer, and calls whose byte is no name, proved by computation from the
-- definitions. Assumes nothing.
use Prim.Native.Nat.{ℕ}
use mathlib.Core.Path.{◌≡◌, refl}
use mathlib.Core.Bool.{false}
use mathlib.Core.List.{List, [], ◌∷◌, ◌++◌, map, flat_map, zip_with}
use mathlib.Core.Option.{some}
use Rattle.bits.specs.Xor.{◌⊕◌}
use Rattle.bits.specs.Bits.{from, every, bytes_for, bit_at, unpack, number, pack, ones, weight, filler_clear, well_formed, each_with, xor_row, dot, over}
use Rattle.field.specs.Numbers.{first_of}
use Rattle.field.specs.Field.{is_width, is_element, modulus_of, poly_mul, reduced, mul_mod, mul, power, last_below, inv}
use Rattle.field.specs.Poly.{value}
use Rattle.poly.specs.Polynomials.{sum, same, monic, product, some_below, some_list, has_square}
use Rattle.factors.specs.Factors.{has_factor}
use Rattle.key.specs.Shapes.{in_limits}
use Rattle.key.specs.Keys.{pair, elements, parse, two_bytes, file_of, distinct, goppa_at, conditions, file_conditions, key_number, unsound, reducible}
use Rattle.key.specs.Bench.{K1, K2, K1-with, K3}
use Rattle.code.specs.Code.{entry, in_code, parity_row, parity_rows}
use Rattle.code.specs.PublicKey.{with_row, find_pivot, clear, with_pivot, columns, echelon, public_key, dependent, written}
use Rattle.decoder.specs.Search.{or_else, first_row}
use Rattle.decoder.specs.Reading.{corrects, reading, filled, exactly, opening}
use Rattle.code.specs.Publish.{capsule_bits, publish_checks_within, publish_conditions_within, free_bytes_within}
use Rattle.decoder.specs.Calls.{found, is_none, open_conditions, read_conditions}
use Rattle.marks.specs.Marked.{steady, unmarked, differences, corrects_marked, marked_reading, marked_conditions}
use Rattle.records.specs.Records.{cut, capsules_of, capsule_conditions, record_of, records_of, occurrences, counts_of, report_conditions}
use Rattle.session.specs.Session.{session_conditions}
use Rattle.ledger.specs.Slot.{empty_key, fresh, is_empty, is_unpublished, held_by}
use Rattle.ledger.specs.Loading.{key_file, network_file, loading_conditions, loaded_key}
use Rattle.ledger.specs.Publishing.{systematic, small, public_buffer, work_buffer, needed_bytes, publishing_conditions, publication, freed_bytes}
use Rattle.ledger.specs.Questions.{open_capsule, read_word, read_marked, report, derive_session_key, answer_buffer, question_conditions, gives, given, answer_size}
use Rattle.ledger.specs.Calls.{Call, load, publish, ask, drop_key, conditions_of, output_of, no_answer, made, unless, step, run}
use Rattle.ledger.specs.Ledger.{blank, held_in, ledger_number, entered, fed}
use Rattle.ledger_tables.proofs.Table.{Answer, accepted, refused, answer_by, answer_of, answers, zeros}
use Rattle.recipients.specs.Names.{A, B, byte_of, name_of, NamedCall, named, naming}
use Rattle.recipients.specs.Recipients.{named_conditions, unknown, within, called, of, put, definitions}
use Rattle.recipients.specs.Ledgers.{blanks, named_number, fed_named, ledgers_after, expected_named}

-- A has K1, published; K3 cannot be published for B; B has K2, and is not published; dropping A's key leaves B's
unfoldable pub rows : List (NamedCall × Answer)
rows =
    (naming A (load (key_file K1)), accepted [] 0) ∷
    (naming B (publish (systematic (zeros 4) (zeros 4))), refused 21) ∷
    (naming B drop_key, refused 21) ∷
    (naming A (load (key_file K1)), refused 22) ∷
    (naming A (publish (systematic (zeros 4) (zeros 4))), accepted (0x03 ∷ 0x01 ∷ 0x02 ∷ 0x00 ∷ []) 0) ∷
    (naming B (load (key_file K3)), accepted [] 0) ∷
    (naming B (publish (systematic (zeros 4) (zeros 4))), refused 23) ∷
    (naming A (ask (open_capsule (0x03 ∷ []) (zeros 1))), accepted (0x10 ∷ []) 1) ∷
    (naming B (ask (open_capsule (0x03 ∷ []) (zeros 1))), refused 24) ∷
    (naming B drop_key, accepted [] 0) ∷
    (naming B (load (key_file K2)), accepted [] 0) ∷
    (naming B (ask (open_capsule (0x03 ∷ []) (zeros 1))), refused 24) ∷
    (naming B (ask (read_word (0x03 ∷ 0x00 ∷ []) (zeros 2))), accepted (0x03 ∷ 0x00 ∷ []) 2) ∷
    (naming B (ask (read_marked (0x03 ∷ 0x00 ∷ []) (0x01 ∷ 0x00 ∷ []) (zeros 2))), accepted (0x03 ∷ 0x00 ∷ []) 1) ∷
    (naming A (ask (read_word (0x03 ∷ 0x00 ∷ []) (zeros 2))), refused 8) ∷
    (naming A drop_key, accepted [] 0) ∷
    (naming A (ask (open_capsule (0x03 ∷ []) (zeros 1))), refused 21) ∷
    (naming B (ask (read_word (0x03 ∷ 0x00 ∷ []) (9 ∷ 9 ∷ 9 ∷ []))), accepted (0x03 ∷ 0x00 ∷ 9 ∷ []) 2) ∷
    (naming A (load (key_file K1)), accepted [] 0) ∷
    (naming A (ask (open_capsule (0x03 ∷ []) (zeros 1))), refused 24) ∷ []

-- calls of each kind, such as would be refused by 21, 22, 8 or 10, or accepted, under a name; under bytes that are no names
unfoldable pub kinds : List Call
kinds =
    load (key_file K1) ∷
    load (key_file []) ∷
    load (network_file []) ∷
    publish (systematic (zeros 4) (zeros 4)) ∷
    publish (systematic [] []) ∷
    ask (open_capsule (0x03 ∷ []) (zeros 1)) ∷
    ask (open_capsule [] []) ∷
    ask (read_word (0x24 ∷ []) (zeros 1)) ∷
    ask (read_word [] []) ∷
    ask (read_marked (0x24 ∷ []) (0x00 ∷ []) (zeros 1)) ∷
    ask (read_marked [] [] []) ∷
    ask (report (0x03 ∷ []) (zeros 1)) ∷
    ask (derive_session_key [] []) ∷
    drop_key ∷ []

unfoldable pub nameless : List (NamedCall × Answer)
nameless = flat_map (λ (b : ℕ). map (λ (c : Call). (named b c, refused 35)) kinds) (0 ∷ 3 ∷ 255 ∷ [])

-- the rows, with nameless calls on the fresh station and on the last one
unfoldable pub story : List (NamedCall × Answer)
story = nameless ++ (rows ++ nameless)

unfoldable pub calls : List NamedCall
calls = map (λ r. r.0) story

-- the answers, the ledgers' numbers and their end
abbrev pub Story : Type 0
Story =
    (answers definitions.call definitions.fresh calls ≡ map (λ r. r.1) story) ×
    (expected_named blanks calls
    ≡ map (λ r. 35) nameless ++ ((0 ∷ 21 ∷ 21 ∷ 22 ∷ 0 ∷ 0 ∷ 23 ∷ 0 ∷ 24 ∷ 0 ∷ 0 ∷ 24 ∷ 0 ∷ 0 ∷ 8 ∷ 0 ∷ 21 ∷ 0 ∷ 0 ∷ 24 ∷ []) ++ map (λ r. 35) nameless)) ×
    (ledgers_after blanks calls ≡ record { a = record { key = some (parse K1); mark = false }; b = record { key = some (parse K2); mark = false } })

pub story_holds : Story
unfolding ◌⊕◌ from every bytes_for bit_at unpack number pack ones weight filler_clear well_formed each_with xor_row dot first_of is_width is_element modulus_of poly_mul reduced mul_mod mul power last_below inv value sum same monic product some_below some_list has_square has_factor in_limits pair elements parse two_bytes file_of distinct goppa_at conditions file_conditions key_number reducible K1 K2 K1-with K3 entry in_code parity_row parity_rows with_row find_pivot clear with_pivot columns echelon public_key dependent written or_else first_row corrects reading filled exactly opening unsound empty_key fresh is_empty is_unpublished held_by capsule_bits found is_none publish_checks_within publish_conditions_within free_bytes_within open_conditions read_conditions steady unmarked differences corrects_marked marked_reading marked_conditions cut capsules_of capsule_conditions record_of records_of occurrences counts_of report_conditions session_conditions loading_conditions loaded_key public_buffer work_buffer needed_bytes publishing_conditions publication freed_bytes answer_buffer question_conditions gives given answer_size over conditions_of output_of no_answer made unless step run blank held_in ledger_number entered fed answer_by answer_of answers zeros byte_of name_of named_conditions unknown within called of put named_number fed_named ledgers_after expected_named rows kinds nameless story calls flat_map zip_with
story_holds = (refl, refl, refl)

-- publish in the small workspace: under both names, and under bytes that are no names
unfoldable pub small_story : List (NamedCall × Answer)
small_story =
    (naming A (load (key_file K1)), accepted [] 0) ∷
    (naming B (load (key_file K3)), accepted [] 0) ∷
    (naming B (publish (small (zeros 4) (zeros 8))), refused 23) ∷
    (naming A (publish (small (zeros 4) (zeros 7))), refused 11) ∷
    (naming A (publish (small (zeros 4) (zeros 8))), accepted (0x03 ∷ 0x01 ∷ 0x02 ∷ 0x00 ∷ []) 0) ∷
    (named 0 (publish (small (zeros 4) (zeros 8))), refused 35) ∷
    (named 3 (publish (small (zeros 4) (zeros 8))), refused 35) ∷
    (named 255 (publish (small (zeros 4) (zeros 8))), refused 35) ∷ []

unfoldable pub small_calls : List NamedCall
small_calls = map (λ r. r.0) small_story

abbrev pub SmallStory : Type 0
SmallStory =
    (answers definitions.call definitions.fresh small_calls ≡ map (λ r. r.1) small_story) ×
    (expected_named blanks small_calls ≡ 0 ∷ 0 ∷ 23 ∷ 11 ∷ 0 ∷ 35 ∷ 35 ∷ 35 ∷ [])

pub small_story_holds : SmallStory
unfolding ◌⊕◌ from every bytes_for bit_at unpack number pack ones weight filler_clear well_formed each_with xor_row dot first_of is_width is_element modulus_of poly_mul reduced mul_mod mul power last_below inv value sum same monic product some_below some_list has_square has_factor in_limits pair elements parse two_bytes file_of distinct goppa_at conditions file_conditions key_number reducible K1 K2 K1-with K3 entry in_code parity_row parity_rows with_row find_pivot clear with_pivot columns echelon public_key dependent written or_else first_row corrects reading filled exactly opening unsound empty_key fresh is_empty is_unpublished held_by capsule_bits found is_none publish_checks_within publish_conditions_within free_bytes_within open_conditions read_conditions steady unmarked differences corrects_marked marked_reading marked_conditions cut capsules_of capsule_conditions record_of records_of occurrences counts_of report_conditions session_conditions loading_conditions loaded_key public_buffer work_buffer needed_bytes publishing_conditions publication freed_bytes answer_buffer question_conditions gives given answer_size over conditions_of output_of no_answer made unless step run blank held_in ledger_number entered fed answer_by answer_of answers zeros byte_of name_of named_conditions unknown within called of put named_number fed_named ledgers_after expected_named small_story small_calls flat_map zip_with
small_story_holds = (refl, refl)
