-- The template table: its layout, which octets are a sound one, the octet order of its record data, and the template with an ID (01,
-- "Template table"; 02, ask 6).
use Rattle.std.specs.Prelude.{ℕ, zero, suc, ◌+◌, ◌-◌, ◌*◌, ◌/◌, Bool, cond, not, ◌&&◌, List, [], ◌∷◌, eqb, leb, length, get_or}
use Rattle.std.specs.Prelude.{Result, Ok, Err}
use Rattle.octets.specs.Answers.{Check, ◌when◌, judge, judged, unsound_table, template_not_found}
use Rattle.octets.specs.Numbers.{uint_at}
use Rattle.octets.specs.Each.{every, first_from, differ, all_of}
use Rattle.numbers.specs.declared.OctetOrder.{OctetOrder}
use Rattle.numbers.specs.declared.OctetOrder.TheVariants.{BigEndian, LittleEndian}
use Rattle.numbers.specs.declared.refusal.Refusal.{Refusal}
use Rattle.numbers.specs.declared.refusal.Refusal.TheVariants.{TemplateNotFound}
use Rattle.field_types.specs.FieldTypes.{is_type}
use Rattle.tables.specs.declared.table.Template.{Template}

-- ---- the key block at a place

-- Octets of a key block.
abbrev pub key_octets : ℕ
key_octets = 12

-- Its key ID, 32 bits.
abbrev pub key_id : List ℕ → ℕ → ℕ
key_id t at = uint_at t at 4

-- Its field type, 16 bits.
abbrev pub key_type : List ℕ → ℕ → ℕ
key_type t at = uint_at t (at + 4) 2

-- Its reserved 16 bits.
abbrev pub key_reserved : List ℕ → ℕ → ℕ
key_reserved t at = uint_at t (at + 6) 2

-- Its attributes, 32 bits.
abbrev pub key_attributes : List ℕ → ℕ → ℕ
key_attributes t at = uint_at t (at + 8) 4

-- Its type is listed, its reserved octets are 0, its attributes 0 or 1.
unfoldable pub key_sound : List ℕ → ℕ → Bool
key_sound t at = is_type (key_type t at) && eqb (key_reserved t at) 0 && leb (key_attributes t at) 1

-- Attributes 0 enable it, 1 disables it.
abbrev pub is_enabled : List ℕ → ℕ → Bool
is_enabled t at = eqb (key_attributes t at) 0

-- ---- the template block at a place

-- Octets of a block in front of its description.
abbrev pub block_head_octets : ℕ
block_head_octets = 12

-- Its template ID, 16 bits.
abbrev pub template_id : List ℕ → ℕ → ℕ
template_id t at = uint_at t at 2

-- Its key count, 16 bits.
abbrev pub key_count : List ℕ → ℕ → ℕ
key_count t at = uint_at t (at + 2) 2

-- Its flags, 16 bits.
abbrev pub block_flags : List ℕ → ℕ → ℕ
block_flags t at = uint_at t (at + 4) 2

-- Its description's length without padding, 16 bits.
abbrev pub description_length : List ℕ → ℕ → ℕ
description_length t at = uint_at t (at + 6) 2

-- The block length that it states, 32 bits.
abbrev pub block_length : List ℕ → ℕ → ℕ
block_length t at = uint_at t (at + 8) 4

-- A length brought up to a multiple of 4.
abbrev pub padded : ℕ → ℕ
padded n = (n + 3) / 4 * 4

-- Where its description begins: behind its head.
abbrev pub description_at : ℕ → ℕ
description_at at = at + block_head_octets

-- Where its key blocks begin: behind the padded description.
abbrev pub keys_at : List ℕ → ℕ → ℕ
keys_at t at = description_at at + padded (description_length t at)

-- Where key block k of the key blocks at a place begins.
abbrev pub key_at : ℕ → ℕ → ℕ
key_at keys k = keys + key_octets * k

-- How many octets its parts have: its head, the padded description and 12 for each key.
abbrev pub block_octets : List ℕ → ℕ → ℕ
block_octets t at = block_head_octets + padded (description_length t at) + key_octets * key_count t at

-- Where it ends.
unfoldable pub block_end : List ℕ → ℕ → ℕ
block_end t at = at + block_octets t at

-- The most keys of a template.
abbrev pub max_keys : ℕ
max_keys = 32

-- Its head is sound: the block lies within the table, has 1 to 32 keys, flags 0, and the length of its parts as its block length.
unfoldable pub head_sound : List ℕ → ℕ → Bool
head_sound t at =
    leb (block_end t at) (length t)
    && leb 1 (key_count t at)
    && leb (key_count t at) max_keys
    && eqb (block_flags t at) 0
    && eqb (block_length t at) (block_octets t at)

-- The octets that pad the description are 0.
unfoldable pub padding_sound : List ℕ → ℕ → Bool
padding_sound t at =
    every (padded (description_length t at) - description_length t at)
    (λ i. eqb (get_or t (description_at at + description_length t at + i) 0) 0)

-- Each of n key blocks is sound.
abbrev pub keys_sound : List ℕ → ℕ → ℕ → Bool
keys_sound t keys n = every n (λ k. key_sound t (key_at keys k))

-- No two of n key blocks have one ID.
abbrev pub keys_differ : List ℕ → ℕ → ℕ → Bool
keys_differ t keys n = differ (λ k. key_id t (key_at keys k)) n

-- The block has a sound head, zero padding, and sound keys with different IDs.
unfoldable pub block_sound : List ℕ → ℕ → Bool
block_sound t at =
    all_of
    (head_sound t at
    ∷ padding_sound t at
    ∷ keys_sound t (keys_at t at) (key_count t at)
    ∷ keys_differ t (keys_at t at) (key_count t at)
    ∷ [])

-- ---- the table

-- The most octets of a table.
abbrev pub max_table_octets : ℕ
max_table_octets = 16384

-- The most templates of a table.
abbrev pub max_templates : ℕ
max_templates = 8

-- The flags of a table whose record data is big-endian.
abbrev pub big_endian_flags : ℕ
big_endian_flags = 1

-- A table has these flags or 0, whose record data is little-endian.
abbrev pub flags_sound : ℕ → Bool
flags_sound flags = leb flags big_endian_flags

-- The octet order of record data under flags: big-endian under 1, little-endian under all others, of which a sound table has only 0.
unfoldable pub order_of : ℕ → OctetOrder
order_of flags = cond (eqb flags big_endian_flags) BigEndian LittleEndian

-- Octets of a table in front of its first block.
abbrev pub table_head_octets : ℕ
table_head_octets = 4

-- Octet 0: the Configuration ID.
abbrev pub configuration_id : List ℕ → ℕ
configuration_id t = uint_at t 0 1

-- Octet 1: the flags.
abbrev pub table_flags : List ℕ → ℕ
table_flags t = uint_at t 1 1

-- The octet order of the table's record data; the table's own numbers are big-endian under either flags.
abbrev pub table_order : List ℕ → OctetOrder
table_order t = order_of (table_flags t)

-- Octets 2 and 3: how many templates follow.
abbrev pub template_count : List ℕ → ℕ
template_count t = uint_at t 2 2

-- Where block i begins: the first follows the table's head, each other the block before it.
unfoldable pub block_at : List ℕ → ℕ → ℕ
block_at t zero = table_head_octets
block_at t (suc i) = block_end t (block_at t i)

-- The ID of template i.
abbrev pub id_at : List ℕ → ℕ → ℕ
id_at t i = template_id t (block_at t i)

-- Each of the first n blocks is sound.
abbrev pub blocks_sound : List ℕ → ℕ → Bool
blocks_sound t n = every n (λ i. block_sound t (block_at t i))

-- No two of the first n blocks have one template ID.
abbrev pub templates_differ : List ℕ → ℕ → Bool
templates_differ t n = differ (id_at t) n

-- At most 16,384 octets, flags 0 or 1, 1 to 8 sound blocks with different IDs, and nothing after the last.
unfoldable pub table_sound : List ℕ → Bool
table_sound t =
    all_of
    (leb (length t) max_table_octets
    ∷ flags_sound (table_flags t)
    ∷ leb 1 (template_count t)
    ∷ leb (template_count t) max_templates
    ∷ blocks_sound t (template_count t)
    ∷ templates_differ t (template_count t)
    ∷ eqb (block_at t (template_count t)) (length t)
    ∷ [])

-- ---- the template with an ID

-- Its index among the templates; their count where none has the ID.
unfoldable pub template_index : List ℕ → ℕ → ℕ
template_index t id = first_from 0 (template_count t) (λ i. eqb (id_at t i) id)

-- No template has the ID.
abbrev pub is_missing : List ℕ → ℕ → Bool
is_missing t id = leb (template_count t) (template_index t id)

-- The key blocks of the template block at a place: where they begin and how many they are.
unfoldable pub template_at : List ℕ → ℕ → Template
template_at t at = record { keys = keys_at t at; count = key_count t at }

-- The template with an ID; asked only where there is one.
abbrev pub template_of : List ℕ → ℕ → Template
template_of t id = template_at t (block_at t (template_index t id))

-- What is asked of a template in a table is judged 21, 15: 21 for an unsound table, then 15 for an ID that it does not have.
abbrev pub template_checks : List ℕ → ℕ → List Check
template_checks t id = (unsound_table when not (table_sound t)) ∷ (template_not_found when is_missing t id) ∷ []

-- The answer number of finding a template.
abbrev pub find_answer : List ℕ → ℕ → ℕ
find_answer t id = judge (template_checks t id)

-- Finding answers the template or the refusal.
unfoldable pub find_of : List ℕ → ℕ → Result Template Refusal
find_of t id = judged (find_answer t id) (template_of t id)

-- The same in a table that is sound: the template, or 15.
unfoldable pub locate_of : List ℕ → ℕ → Result Template Refusal
locate_of t id = cond (is_missing t id) (Err TemplateNotFound) (Ok (template_of t id))
