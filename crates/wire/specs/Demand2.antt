-- Demand 2: what is written reads back as the same meaning: messages, single fields, whole records (01, "Messages", "Template table"; 02,
-- ask 6).
use Rattle.std.specs.Prelude.{ℕ, ◌+◌, ◌≤◌, ◌≡◌, Bool, true, List, [], ◌∷◌, ◌++◌, map, length, take, drop, Result, Ok, Err, None}
use Rattle.octets.specs.Answers.{done}
use Rattle.numbers.specs.declared.refusal.Refusal.{Refusal}
use Rattle.octets.specs.Each.{all_of}
use Rattle.numbers.specs.declared.OctetOrder.{OctetOrder}
use Rattle.tables.specs.Table.{table_order, template_of, find_answer}
use Rattle.records.specs.Record.{field_length, record_answer}
use Rattle.records.specs.Walk.{value_at, integer_of, integer_at, step_of, walk_start, open_of, enabled_types, visited, last_answer}
use Rattle.records.specs.declared.walk.Value.{Value}
use Rattle.records.specs.declared.walk.Value.TheVariants as held
use Rattle.records.specs.declared.walk.Field.{Field}
use Rattle.appending.specs.Append.{value_fits, prefix_octets, field_octets, append_answer, append_of, append_out}
use Rattle.messages.specs.Messages.{layout_of, read_of, part_of, part_at, write_out, carried, carried_at, Writable}
use Rattle.messages.specs.declared.message.Message.{Message}

-- ---- messages

-- A message that can be written, written to an output with room for it: from its octets what it says is read, the part that it carries,
-- and where that begins.
abbrev pub MessagesReadBack : Type 0
MessagesReadBack =
    (m : Message) (part out : List ℕ) → Writable m part → length (layout_of m part) ≤ length out
    → let octets = take (length (layout_of m part)) (write_out m part out) in
    (read_of octets ≡ Ok m) × ((part_of octets ≡ carried m part) × (part_at octets ≡ carried_at m))

-- ---- single fields

-- The field of a type at a place of octets, under a table of an octet order, is the one that holds a value: of its length, with that value
-- and that value's integer, and with its octets; a value that is octets stands there as it was given, behind the length that its type has.
pub record FieldOf (order : OctetOrder) (type : ℕ) (value : Value) (octets r : List ℕ) (at : ℕ) : Type 0 where
  pub len : field_length order type r at ≡ length (field_octets order type value octets)
  pub same : value_at order type r at ≡ value
  pub exact : integer_at order type r at ≡ integer_of value
  pub stands : take (length (field_octets order type value octets)) (drop at r) ≡ field_octets order type value octets
  pub content : value ≡ held.Octets → take (length octets) (drop (at + prefix_octets type) r) ≡ octets

-- A value that was appended in an octet order is the field at its place under a table of that order.
abbrev pub FieldsReadBack : Type 0
FieldsReadBack =
    (order : OctetOrder) (type : ℕ) (value : Value) (octets out : List ℕ) (at : ℕ) → append_answer order type value octets out at ≡ done
    → FieldOf order type value octets (append_out order type value octets out at) at

-- ---- whole records

-- A value of a named type, as `append` takes it; the octets count where the value says that it is octets.
pub record TypedValue : Type 0 where
  pub type : ℕ
  pub value : Value
  pub octets : List ℕ

-- It is of its type.
abbrev pub fits : TypedValue → Bool
fits v = value_fits v.type v.value v.octets

-- The octets of its field under a table of an octet order, with the length or the zero that its type has.
abbrev pub octets_for : OctetOrder → TypedValue → List ℕ
octets_for order v = field_octets order v.type v.value v.octets

-- One value for each enabled key of the template with an ID, in order, and of its key's type.
pub record ValuesFor (t : List ℕ) (id : ℕ) (values : List TypedValue) : Type 0 where
  pub types : map (λ v. v.type) values ≡ enabled_types t (template_of t id)
  pub fit : all_of (map fits values) ≡ true

-- The record of values under a table of an octet order: their fields, one behind the other and unpadded.
unfoldable pub record_octets : OctetOrder → List TypedValue → List ℕ
record_octets order [] = []
record_octets order (v ∷ values) = octets_for order v ++ record_octets order values

-- What appending answered, and the output afterwards.
pub record Output : Type 0 where
  pub answer : Result ℕ Refusal
  pub out : List ℕ

-- Values appended one after the other, each at the place that was answered last; behind a refusal nothing is appended.
unfoldable pub append_all : OctetOrder → List TypedValue → Result ℕ Refusal → List ℕ → Output
append_all order [] answer out = record { answer = answer; out = out }
append_all order (v ∷ values) (Err refusal) out = record { answer = Err refusal; out = out }
append_all order (v ∷ values) (Ok at) out =
    append_all order values (append_of order v.type v.value v.octets out at)
    (append_out order v.type v.value v.octets out at)

-- The fields of the values, the first at a place and each other behind the one before it: type, place, length with prefix or zero, value.
unfoldable pub fields_of : OctetOrder → List TypedValue → ℕ → List Field
fields_of order [] at = []
fields_of order (v ∷ values) at =
    let n = length (octets_for order v) in
    record { kind = v.type; at = at; len = n; value = v.value } ∷ fields_of order values (at + n)

-- Each value is the field at its place, the first at a place and each other behind the one before it.
abbrev pub EachField : OctetOrder → List TypedValue → ℕ → List ℕ → Type 0
EachField order [] at r = Unit {0}
EachField order (v ∷ values) at r =
    FieldOf order v.type v.value v.octets r at × EachField order values (at + length (octets_for order v)) r

-- Octets are a record that reads back as values under the template with an ID: it is valid, a walk opens at its start, steps answer the
-- fields of the values and then the end, however many more steps are allowed, and each value is the field at its place.
pub record RecordOf (t : List ℕ) (id : ℕ) (values : List TypedValue) (r : List ℕ) : Type 0 where
  pub valid : record_answer t id r ≡ done
  pub opens : open_of t id r ≡ Ok walk_start
  pub visits : (n : ℕ) → length values ≤ n → visited (step_of t id r) n walk_start ≡ fields_of (table_order t) values 0
  pub ends : (n : ℕ) → length values ≤ n → last_answer (step_of t id r) n walk_start ≡ Ok None
  pub each : EachField (table_order t) values 0 r

-- Values of their types, appended one after the other from a place of an output with room for them, leave their record there and no other
-- octet changed; the place behind it is answered.
abbrev pub RecordsMade : Type 0
RecordsMade =
    (order : OctetOrder) (values : List TypedValue) (at : ℕ) (out : List ℕ) → all_of (map fits values) ≡ true
    → at + length (record_octets order values) ≤ length out
    → let end = at + length (record_octets order values) in
    append_all order values (Ok at) out
    ≡ record { answer = Ok end; out = take at out ++ record_octets order values ++ drop end out }

-- Under every template of every sound table: values for its enabled keys that were so appended in the octet order of the table read back as
-- a record.
abbrev pub RecordsReadBack : Type 0
RecordsReadBack =
    (t : List ℕ) (id : ℕ) (values : List TypedValue) (at : ℕ) (out : List ℕ) → find_answer t id ≡ done → ValuesFor t id values
    → let octets = record_octets (table_order t) values in
    at + length octets ≤ length out
    → RecordOf t id values (take (length octets) (drop at (append_all (table_order t) values (Ok at) out).out))

-- Where all keys are disabled, the empty record reads back as no values, and no other record is valid.
abbrev pub EmptyRecords : Type 0
EmptyRecords =
    (t : List ℕ) (id : ℕ) → find_answer t id ≡ done → enabled_types t (template_of t id) ≡ []
    → RecordOf t id [] [] × ((r : List ℕ) → record_answer t id r ≡ done → r ≡ [])

-- ---- all of them

pub record Demand2 : Type 0 where
  pub messages : MessagesReadBack
  pub fields : FieldsReadBack
  pub made : RecordsMade
  pub records : RecordsReadBack
  pub empty : EmptyRecords
