-- Writing a single field into the caller's octets (01, "Template table"; 02, ask 6).
use Rattle.std.specs.Prelude.{ℕ, ◌+◌, ◌-◌, ◌*◌, ◌^◌, ◌≡◌, Bool, cond, not, ◌&&◌, List, [], ◌∷◌, ◌++◌, eqb, leb, ltb, length, get_or}
use Rattle.std.specs.Prelude.{Result, Ok, Err}
use Rattle.std.proofs.lemmas.List.Edits.{sets}
use Rattle.octets.specs.Answers.{done, ◌when◌, judge, judged, record_invalid, output_too_short}
use Rattle.octets.specs.Numbers.{octets_in, put_at, ascii_limit}
use Rattle.octets.specs.Each.{every}
use Rattle.numbers.specs.declared.OctetOrder.{OctetOrder}
use Rattle.field_types.specs.FieldTypes.{width_of, is_number, is_signed, field_order, boolean_type, string_type, terminated_type, blob_type}
use Rattle.records.specs.Record.{length_octets}
use Rattle.records.specs.declared.walk.Value.{Value}
use Rattle.records.specs.declared.walk.Value.TheVariants.{Octets, Number, Negative}
use Rattle.numbers.specs.declared.refusal.Refusal.{Refusal}
use Rattle.numbers.specs.declared.refusal.Refusal.TheVariants.{OutputTooShort}

-- A number is of a type: a Boolean is 0 or 1; unsigned types of w octets hold the numbers below 256 to the w, signed ones those below
-- half of it, and no other type holds a number.
unfoldable pub number_fits : ℕ → ℕ → Bool
number_fits type n =
    cond (eqb type boolean_type) (leb n 1)
    (cond (is_signed type) (ltb (2 * n) (256 ^ width_of type))
    (is_number type && ltb n (256 ^ width_of type)))

-- Minus n is of a signed type of w octets: n is 1 to half of 256 to the w.
unfoldable pub negative_fits : ℕ → ℕ → Bool
negative_fits type n = is_signed type && (leb 1 n && leb (2 * n) (256 ^ width_of type))

-- The length of a string or blob is below this: it has 32 bits.
abbrev pub length_limit : ℕ
length_limit = 2 ^ 32

-- Octets are of a type: as many as an address has; for a string or blob no more than a 32-bit length can say, a string's each below
-- 128; for a null terminated string, which comes without its zero, none of them 0.
unfoldable pub octets_fit : ℕ → List ℕ → Bool
octets_fit type octets =
    cond (eqb type string_type) (ltb (length octets) length_limit && every (length octets) (λ i. ltb (get_or octets i 0) ascii_limit))
    (cond (eqb type terminated_type) (every (length octets) (λ i. not (eqb (get_or octets i 0) 0)))
    (cond (eqb type blob_type) (ltb (length octets) length_limit)
    (ltb 0 (width_of type) && (not (is_number type) && eqb (length octets) (width_of type)))))

-- A value is of a type; the octets count where the value says that it is octets.
abbrev pub value_fits : ℕ → Value → List ℕ → Bool
value_fits type (Number n) octets = number_fits type n
value_fits type (Negative n) octets = negative_fits type n
value_fits type Octets octets = octets_fit type octets

-- The field that holds octets: a null terminated string in front of its zero, an address alone, a string or blob behind its 32-bit
-- length, in an octet order; asked only of octets that fit.
unfoldable pub octets_field : OctetOrder → ℕ → List ℕ → List ℕ
octets_field order type octets =
    cond (eqb type terminated_type) (octets ++ (0 ∷ []))
    (cond (ltb 0 (width_of type)) octets (octets_in order length_octets (length octets) ++ octets))

-- How many octets stand in front of a value's own octets in their field: the 32-bit length of a string or blob.
unfoldable pub prefix_octets : ℕ → ℕ
prefix_octets type = cond (eqb type string_type) length_octets (cond (eqb type blob_type) length_octets 0)

-- The octets of the field that holds a value, under a table of an octet order: a number in the type's width, two's complement where it is
-- below 0.
abbrev pub field_octets : OctetOrder → ℕ → Value → List ℕ → List ℕ
field_octets order type (Number n) octets = octets_in (field_order order type) (width_of type) n
field_octets order type (Negative n) octets = octets_in (field_order order type) (width_of type) (256 ^ width_of type - n)
field_octets order type Octets octets = octets_field (field_order order type) type octets

-- Appending is judged 16, 12.
unfoldable pub append_answer : OctetOrder → ℕ → Value → List ℕ → List ℕ → ℕ → ℕ
append_answer order type value octets out at =
    judge
    ((record_invalid when not (value_fits type value octets))
    ∷ (output_too_short when ltb (length out) (at + length (field_octets order type value octets)))
    ∷ [])

-- It answers the place after the field, or the refusal.
unfoldable pub append_of : OctetOrder → ℕ → Value → List ℕ → List ℕ → ℕ → Result ℕ Refusal
append_of order type value octets out at =
    judged (append_answer order type value octets out at) (at + length (field_octets order type value octets))

-- The output afterwards: the field at its place and nothing else changed, or as it was.
unfoldable pub append_out : OctetOrder → ℕ → Value → List ℕ → List ℕ → ℕ → List ℕ
append_out order type value octets out at =
    cond (eqb (append_answer order type value octets out at) done) (sets out at (field_octets order type value octets)) out

-- ---- a field stored where it fits

-- 12 where a field does not fit at its place, and otherwise the place after it.
unfoldable pub stored_of : List ℕ → List ℕ → ℕ → Result ℕ Refusal
stored_of field out at = cond (leb (at + length field) (length out)) (Ok (at + length field)) (Err OutputTooShort)

-- What storing a field at a place answers, and the output afterwards.
abbrev pub Stored : List ℕ → List ℕ → ℕ → Result ℕ Refusal → List ℕ → Type 0
Stored field out at answer after = (answer ≡ stored_of field out at) × (after ≡ put_at out at field)
