-- The numbers by which answers cross the boundary to C.
use Rattle.std.specs.Prelude.{ℕ, ◌+◌, ◌%◌, ◌^◌, cond, List, [], ◌∷◌, length, ◌==◌, slice_index, Option, Some, None, Result, Ok, Err}
use Rattle.octets.specs.Answers.{done, unsound_table, refusal_number}
use Rattle.numbers.specs.declared.refusal.Refusal.{Refusal}
use Rattle.wire.specs.Table.{table_sound, flags_sound, order_of}
use Rattle.wire.specs.Append.{append_of, append_out}
use Rattle.wire.specs.Messages.{start, start_ack, stop, stop_ack, tmpl_data, final_tmpl_data_ack, start_negotiate, start_negotiate_ack, data_number}
use Rattle.wire.specs.Messages.{data_ack, write_of, write_out}
use Rattle.tables.specs.declared.table.Template.{Template}
use Rattle.messages.specs.declared.message.DataHead.{DataHead}
use Rattle.messages.specs.declared.message.Message.{Message}
use Rattle.messages.specs.declared.message.Message.TheVariants.{Start, StartAck, Stop, StopAck, TmplData, FinalTmplDataAck, StartNegotiate}
use Rattle.messages.specs.declared.message.Message.TheVariants.{StartNegotiateAck, Data, DataAck}
use Rattle.records.specs.declared.walk.Value.{Value}
use Rattle.records.specs.declared.walk.Value.TheVariants as value
use Rattle.records.specs.declared.walk.Field.{Field}
use Rattle.records.specs.declared.walk.Cursor.{Cursor}

-- A number that an accepted answer carries has 256 added to it, modulo 2 to the 64, so that it is no refusal's number.
abbrev pub accepted_number : ℕ → ℕ
accepted_number n = (n + 256) % 2 ^ 64

-- The number of an answer that carries one, how many octets or fields or which place: that number plus 256, or the refusal's.
abbrev pub carried_number : Result ℕ Refusal → ℕ
carried_number (Ok n) = accepted_number n
carried_number (Err refusal) = refusal_number refusal

-- ---- tables

-- 0 for a table of sound form, else 21.
unfoldable pub table_form_answer : List ℕ → ℕ
table_form_answer t = cond (table_sound t) done unsound_table

-- The answer 0; the place of the first key block and the count of key blocks.
abbrev pub template_parts : Template → List ℕ
template_parts m = done ∷ m.keys ∷ m.count ∷ []

-- The parts of what finding a template answers; a refusal is alone.
abbrev pub found_parts : Result Template Refusal → List ℕ
found_parts (Ok m) = template_parts m
found_parts (Err refusal) = refusal_number refusal ∷ []

-- One of them by its number, 0 where there is none.
abbrev pub found_part : ℕ → Result Template Refusal → ℕ
found_part part found = slice_index (found_parts found) part

-- ---- messages

-- Message number, session, Configuration ID, boot time or DSN; no template ID and no flags.
abbrev pub saying : ℕ → ℕ → ℕ → ℕ → List ℕ
saying number session config long = number ∷ session ∷ config ∷ long ∷ 0 ∷ 0 ∷ 0 ∷ []

-- Those of a DATA, with its template ID and its flags S and D.
abbrev pub data_saying : DataHead → List ℕ
data_saying h =
    data_number ∷ h.session ∷ h.config ∷ h.dsn ∷ h.template ∷ cond h.first 1 0 ∷ cond h.duplicate 1 0 ∷ []

-- What a message says, 0 for what it does not say.
abbrev pub said_by : Message → List ℕ
said_by (Start s) = saying start s 0 0
said_by (StartAck s boot) = saying start_ack s 0 boot
said_by (Stop s) = saying stop s 0 0
said_by (StopAck s) = saying stop_ack s 0 0
said_by (TmplData s) = saying tmpl_data s 0 0
said_by (FinalTmplDataAck s config) = saying final_tmpl_data_ack s config 0
said_by (StartNegotiate s) = saying start_negotiate s 0 0
said_by (StartNegotiateAck s) = saying start_negotiate_ack s 0 0
said_by (Data h) = data_saying h
said_by (DataAck s dsn config) = saying data_ack s config dsn

-- A message that is read is written with its part, which begins at place `at`: the number of what writing answers, the part's place and
-- length, and what the message says. A refused reading is alone.
abbrev pub again_parts : ℕ → List ℕ → List ℕ → Result Message Refusal → List ℕ
again_parts at part out (Ok m) = carried_number (write_of m part out) ∷ at ∷ length part ∷ said_by m
again_parts at part out (Err refusal) = refusal_number refusal ∷ []

-- One of them by its number, 0 where there is none.
abbrev pub again_part : ℕ → ℕ → List ℕ → List ℕ → Result Message Refusal → ℕ
again_part number at part out r = slice_index (again_parts at part out r) number

-- The output afterwards; where nothing is read, as it was.
abbrev pub again_out : List ℕ → List ℕ → Result Message Refusal → List ℕ
again_out part out (Ok m) = write_out m part out
again_out part out (Err refusal) = out

-- ---- the field walk

-- The sort of a value that is octets.
abbrev pub octets_sort : ℕ
octets_sort = 0

-- The sort of a number.
abbrev pub number_sort : ℕ
number_sort = 1

-- The sort of a number below 0.
abbrev pub negative_sort : ℕ
negative_sort = 2

-- The sort of a value.
abbrev pub value_sort : Value → ℕ
value_sort value.Octets = octets_sort
value_sort (value.Number n) = number_sort
value_sort (value.Negative n) = negative_sort

-- The size of a number, 0 for octets.
abbrev pub value_size : Value → ℕ
value_size value.Octets = 0
value_size (value.Number n) = n
value_size (value.Negative n) = n

-- The answer 0; the field's type, place and length; its value's sort and size; the next cursor's index and place.
abbrev pub field_parts : Field → Cursor → List ℕ
field_parts f c =
    done ∷ f.kind ∷ f.at ∷ f.len ∷ value_sort f.value ∷ value_size f.value ∷ c.index ∷ c.at ∷ []

-- The number that stands for the end of a walk; no refusal has it.
abbrev pub walk_end : ℕ
walk_end = 255

-- The parts of what a step answers; the end and a refusal are alone.
abbrev pub step_parts : Result (Option (Field × Cursor)) Refusal → List ℕ
step_parts (Ok (Some next)) = field_parts next.0 next.1
step_parts (Ok None) = walk_end ∷ []
step_parts (Err refusal) = refusal_number refusal ∷ []

-- One of them by its number, 0 where there is none.
abbrev pub step_part : ℕ → Result (Option (Field × Cursor)) Refusal → ℕ
step_part part step = slice_index (step_parts step) part

-- ---- appending

-- The value of a sort: the number, minus the number, or octets for any other sort.
unfoldable pub value_of : ℕ → ℕ → Value
value_of sort number =
    cond (sort == number_sort) (value.Number number) (cond (sort == negative_sort) (value.Negative number) value.Octets)

-- Appending under a table of given flags is judged 21, 16, 12: 21 for flags that no sound table has, and otherwise the number of what
-- appending answers.
unfoldable pub append_under : ℕ → ℕ → Value → List ℕ → List ℕ → ℕ → ℕ
append_under flags type value octets out at =
    cond (flags_sound flags) (carried_number (append_of (order_of flags) type value octets out at)) unsound_table

-- The output afterwards: as it was where the flags are refused.
unfoldable pub append_under_out : ℕ → ℕ → Value → List ℕ → List ℕ → ℕ → List ℕ
append_under_out flags type value octets out at =
    cond (flags_sound flags) (append_out (order_of flags) type value octets out at) out
