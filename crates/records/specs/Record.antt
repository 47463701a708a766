-- Fields and records: how long the field of a type is that begins at a place, and which octets are a valid record (01, "Template table";
-- 02, ask 6).
use Rattle.std.specs.Prelude.{ℕ, zero, suc, ◌+◌, ◌-◌, Bool, cond, not, ◌&&◌, ◌||◌, List, [], ◌∷◌, ◌++◌, eqb, ltb, length, get_or}
use Rattle.octets.specs.Answers.{◌when◌, judge, record_invalid}
use Rattle.octets.specs.Numbers.{uint_in, all_ascii}
use Rattle.octets.specs.Each.{every, first_from}
use Rattle.numbers.specs.declared.OctetOrder.{OctetOrder}
use Rattle.field_types.specs.FieldTypes.{width_of, field_order, boolean_type, string_type, terminated_type, blob_type}
use Rattle.tables.specs.Table.{table_order, key_at, key_type, is_enabled, template_of, template_checks}
use Rattle.tables.specs.declared.table.Template.{Template}

-- ---- the length of the field that begins at a place of a record, 0 where no valid field of its type does (a field has an octet at least)

-- How many octets the record has from a place on.
abbrev pub left : List ℕ → ℕ → ℕ
left r at = length r - at

-- A field of a fixed width: the type's width, where so many octets are left; a Boolean's octet is 0 or 1.
unfoldable pub fixed_length : ℕ → List ℕ → ℕ → ℕ
fixed_length type r at =
    cond (ltb (left r at) (width_of type)) 0
    (cond (eqb type boolean_type && ltb 1 (get_or r at 0)) 0 (width_of type))

-- Octets of the 32-bit length of a string or blob.
abbrev pub length_octets : ℕ
length_octets = 4

-- A blob: a 32-bit length in an octet order, then as many octets.
unfoldable pub blob_length : OctetOrder → List ℕ → ℕ → ℕ
blob_length order r at =
    let n = uint_in order r at length_octets in
    cond (ltb (left r at) length_octets) 0 (cond (ltb (left r (at + length_octets)) n) 0 (length_octets + n))

-- A string: a blob whose octets after its length are below 128.
unfoldable pub string_length : OctetOrder → List ℕ → ℕ → ℕ
string_length order r at =
    cond (all_ascii r (at + length_octets) (blob_length order r at - length_octets)) (blob_length order r at) 0

-- A null terminated string ends with the first zero from its place on, and that zero counts.
unfoldable pub terminated_length : List ℕ → ℕ → ℕ
terminated_length r at =
    let zero_at = first_from at (left r at) (λ p. eqb (get_or r p 0) 0) in
    cond (ltb zero_at (length r)) (zero_at + 1 - at) 0

-- The field of a type, under a table of an octet order.
unfoldable pub field_length : OctetOrder → ℕ → List ℕ → ℕ → ℕ
field_length order type r at =
    cond (ltb 0 (width_of type)) (fixed_length type r at)
    (cond (eqb type string_type) (string_length (field_order order type) r at)
    (cond (eqb type terminated_type) (terminated_length r at)
    (cond (eqb type blob_type) (blob_length (field_order order type) r at) 0)))

-- ---- a record under a template

-- The length of key k's field at a place of the record: 0 for a disabled key, which has no field.
abbrev pub length_under : List ℕ → Template → List ℕ → ℕ → ℕ → ℕ
length_under t m r k at = cond (is_enabled t (key_at m.keys k)) (field_length (table_order t) (key_type t (key_at m.keys k)) r at) 0

-- Where key k's field begins: the fields of the enabled keys before it stand in front, in order and unpadded.
unfoldable pub field_at : List ℕ → Template → List ℕ → ℕ → ℕ
field_at t m r zero = 0
field_at t m r (suc k) = field_at t m r k + length_under t m r k (field_at t m r k)

-- Key k is disabled, or a valid field of its type begins there.
abbrev pub field_valid : List ℕ → Template → List ℕ → ℕ → Bool
field_valid t m r k = not (is_enabled t (key_at m.keys k)) || ltb 0 (length_under t m r k (field_at t m r k))

-- Every field is valid, and the last one ends where the record ends.
unfoldable pub record_valid : List ℕ → Template → List ℕ → Bool
record_valid t m r = every m.count (field_valid t m r) && eqb (field_at t m r m.count) (length r)

-- A record under the template with an ID is judged 21, 15, 16.
unfoldable pub record_answer : List ℕ → ℕ → List ℕ → ℕ
record_answer t id r =
    judge (template_checks t id ++ ((record_invalid when not (record_valid t (template_of t id) r)) ∷ []))
