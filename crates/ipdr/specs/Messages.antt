-- IPDR/SP 2.2's ten messages: their layouts, reading and writing alone (02, ask 1; document 002, sections 3, 4 and 8).
use Rattle.std.specs.Prelude.{◌≡◌, ℕ, ◌+◌, ◌%◌, ◌<◌, ◌≤◌, Bool, true, false, cond, not, ◌&&◌, List, [], ◌∷◌, ◌++◌, eqb, ltb, length, drop, get_or, Result, Option, Some, None}
use Rattle.std.proofs.lemmas.List.Edits.{sets}
use Rattle.octets.specs.Answers.{Check, ◌when◌, judge, judged, done, message_not_accepted, body_length_wrong, output_too_short, record_too_long}
use Rattle.octets.specs.Numbers.{uint_at, put_at}
use Rattle.octets.specs.Each.{look_up}
use Rattle.headers.specs.Headers.{header_octets, message_number, session_of, header_for, message_for, header_checks_for}
use Rattle.numbers.specs.declared.refusal.Refusal.{Refusal}
use Rattle.ipdr.specs.declared.message.Connect.{Connect}
use Rattle.ipdr.specs.declared.message.SessionStart.{SessionStart}
use Rattle.ipdr.specs.declared.message.DataHead.{DataHead}
use Rattle.ipdr.specs.declared.message.Content.{Content}
use Rattle.ipdr.specs.declared.message.Content.TheVariants as content
use Rattle.ipdr.specs.declared.message.Message.{Message}
use Rattle.ipdr.specs.Fields.{widths_total, values_at, octets_by_widths, InWidths, length_octets, counted_octets, counted_fits}

-- The version that every header names (section 8).
abbrev pub protocol_version : ℕ
protocol_version = 2

-- ---- the numbers of messages, with their fields in order; behind the semicolon the text or the record that ends the message

-- FLOW START (4.3.1): no fields.
abbrev pub flow_start : ℕ
flow_start = 0x01

-- FLOW STOP (4.3.3): reasonCode 16; reasonInfo.
abbrev pub flow_stop : ℕ
flow_stop = 0x03

-- CONNECT (4.1.1): initiatorId 32, initiatorPort 16, capabilities 32, keepAliveInterval 32; vendorId.
abbrev pub connect : ℕ
connect = 0x05

-- CONNECT RESPONSE (4.1.2): capabilities 32, keepAliveInterval 32; vendorId.
abbrev pub connect_response : ℕ
connect_response = 0x06

-- DISCONNECT (4.1.3): no fields.
abbrev pub disconnect : ℕ
disconnect = 0x07

-- SESSION START (4.3.2): exporterBootTime 32, firstRecordSequenceNumber 64, droppedRecordCount 64, primary 8, ackTimeInterval 32,
-- ackSequenceInterval 32, documentId, 16 octets, as two numbers of 64.
abbrev pub session_start : ℕ
session_start = 0x08

-- SESSION STOP (4.3.4): reasonCode 16; reasonInfo.
abbrev pub session_stop : ℕ
session_stop = 0x09

-- DATA (4.5.1): templateId 16, configId 16, flags 8, sequenceNum 64; dataRecord.
abbrev pub data_number : ℕ
data_number = 0x20

-- DATA ACKNOWLEDGE (4.5.2): configId 16, sequenceNum 64.
abbrev pub data_acknowledge : ℕ
data_acknowledge = 0x21

-- ERROR (4.2.1): timeStamp 32, errorCode 16; description.
abbrev pub error_number : ℕ
error_number = 0x23

-- ---- what the values of the fields say

-- A Boolean is written 0 or 1.
abbrev pub octet_of : Bool → ℕ
octet_of b = cond b 1 0

-- Any octet but 0 reads as true.
abbrev pub is_true : ℕ → Bool
is_true v = not (eqb v 0)

-- The duplicate mark is the lowest of DATA's flags (02, ask 1); the others are written 0 and not looked at.
abbrev pub is_duplicate : ℕ → Bool
is_duplicate flags = eqb (flags % 2) 1

-- What CONNECT's values say.
abbrev pub connect_of : List ℕ → Connect
connect_of vs =
    record {
      initiator_id = get_or vs 0 0;
      initiator_port = get_or vs 1 0;
      capabilities = get_or vs 2 0;
      keep_alive_interval = get_or vs 3 0;
    }

-- What SESSION START's values say.
abbrev pub session_start_of : List ℕ → SessionStart
session_start_of vs =
    record {
      exporter_boot_time = get_or vs 0 0;
      first_record_sequence_number = get_or vs 1 0;
      dropped_record_count = get_or vs 2 0;
      primary = is_true (get_or vs 3 0);
      ack_time_interval = get_or vs 4 0;
      ack_sequence_interval = get_or vs 5 0;
      document_id_high = get_or vs 6 0;
      document_id_low = get_or vs 7 0;
    }

-- What DATA's values say.
abbrev pub data_head_of : List ℕ → DataHead
data_head_of vs =
    record {
      template_id = get_or vs 0 0;
      config_id = get_or vs 1 0;
      duplicate = is_duplicate (get_or vs 2 0);
      sequence_num = get_or vs 3 0;
    }

-- ---- the table of messages (section 8)

-- A row: a message's number, the widths of its fields in octets, whether a text or a record behind its length ends the message, and what
-- the values of the fields say.
pub record Form : Type 0 where
  pub number : ℕ
  pub fields : List ℕ
  pub counted : Bool
  pub says : List ℕ → Content

-- A row, by its columns.
abbrev pub form : ℕ → List ℕ → Bool → (List ℕ → Content) → Form
form number fields counted says = record { number = number; fields = fields; counted = counted; says = says }

-- The ten messages, in the order of their numbers.
abbrev pub forms : List Form
forms =
    form flow_start [] false (λ vs. content.FlowStart)
    ∷ form flow_stop (2 ∷ []) true (λ vs. content.FlowStop (get_or vs 0 0))
    ∷ form connect (4 ∷ 2 ∷ 4 ∷ 4 ∷ []) true (λ vs. content.Connect (connect_of vs))
    ∷ form connect_response (4 ∷ 4 ∷ []) true (λ vs. content.ConnectResponse (get_or vs 0 0) (get_or vs 1 0))
    ∷ form disconnect [] false (λ vs. content.Disconnect)
    ∷ form session_start (4 ∷ 8 ∷ 8 ∷ 1 ∷ 4 ∷ 4 ∷ 8 ∷ 8 ∷ []) false (λ vs. content.SessionStart (session_start_of vs))
    ∷ form session_stop (2 ∷ []) true (λ vs. content.SessionStop (get_or vs 0 0))
    ∷ form data_number (2 ∷ 2 ∷ 1 ∷ 8 ∷ []) true (λ vs. content.Data (data_head_of vs))
    ∷ form data_acknowledge (2 ∷ 8 ∷ []) false (λ vs. content.DataAcknowledge (get_or vs 0 0) (get_or vs 1 0))
    ∷ form error_number (4 ∷ 2 ∷ []) true (λ vs. content.Error (get_or vs 0 0) (get_or vs 1 0))
    ∷ []

-- What f gives of the row with a number, or `other` where there is none.
abbrev pub of_form : {A : Type 0} → (Form → A) → A → ℕ → A
of_form f other n = look_up (λ r. r.number) f other forms n

-- The number is a message's.
unfoldable pub is_message : ℕ → Bool
is_message n = of_form (λ f. true) false n

-- The widths of its fields.
unfoldable pub widths_of : ℕ → List ℕ
widths_of n = of_form (λ f. f.fields) [] n

-- A text or a record ends it.
unfoldable pub is_counted : ℕ → Bool
is_counted n = of_form (λ f. f.counted) false n

-- The octets of header and fields.
abbrev pub fixed_octets : ℕ → ℕ
fixed_octets n = header_octets + widths_total (widths_of n)

-- What the message with a number and the values of its fields says; asked only of a number that has a row.
unfoldable pub content_by : ℕ → List ℕ → Content
content_by n vs = of_form (λ f. f.says vs) content.FlowStart n

-- ---- layouts (sections 3, 4 and 8)

-- A message in numbers: its message number, its session and the values of its fields.
pub record MessageNumbers : Type 0 where
  pub number : ℕ
  pub session : ℕ
  pub values : List ℕ

-- A message in numbers, by its parts.
abbrev pub numbers : ℕ → ℕ → List ℕ → MessageNumbers
numbers number session values = record { number = number; session = session; values = values }

-- The number of the message that says c.
abbrev pub number_for : Content → ℕ
number_for content.FlowStart = flow_start
number_for (content.FlowStop reason) = flow_stop
number_for (content.Connect c) = connect
number_for (content.ConnectResponse capabilities interval) = connect_response
number_for content.Disconnect = disconnect
number_for (content.SessionStart s) = session_start
number_for (content.SessionStop reason) = session_stop
number_for (content.Data h) = data_number
number_for (content.DataAcknowledge config sequence) = data_acknowledge
number_for (content.Error time code) = error_number

-- The values of the fields in front of CONNECT's text.
abbrev pub connect_values : Connect → List ℕ
connect_values c = c.initiator_id ∷ c.initiator_port ∷ c.capabilities ∷ c.keep_alive_interval ∷ []

-- The values of SESSION START's fields.
abbrev pub session_start_values : SessionStart → List ℕ
session_start_values s =
    s.exporter_boot_time ∷ s.first_record_sequence_number ∷ s.dropped_record_count ∷ octet_of s.primary
    ∷ s.ack_time_interval ∷ s.ack_sequence_interval ∷ s.document_id_high ∷ s.document_id_low ∷ []

-- The values of the fields in front of DATA's record.
abbrev pub data_values : DataHead → List ℕ
data_values h = h.template_id ∷ h.config_id ∷ octet_of h.duplicate ∷ h.sequence_num ∷ []

-- The values of the fields of the message that says c, in their order.
abbrev pub values_for : Content → List ℕ
values_for content.FlowStart = []
values_for (content.FlowStop reason) = reason ∷ []
values_for (content.Connect c) = connect_values c
values_for (content.ConnectResponse capabilities interval) = capabilities ∷ interval ∷ []
values_for content.Disconnect = []
values_for (content.SessionStart s) = session_start_values s
values_for (content.SessionStop reason) = reason ∷ []
values_for (content.Data h) = data_values h
values_for (content.DataAcknowledge config sequence) = config ∷ sequence ∷ []
values_for (content.Error time code) = time ∷ code ∷ []

-- The message that says m, in numbers.
abbrev pub numbers_of : Message → MessageNumbers
numbers_of m = numbers (number_for m.content) m.session (values_for m.content)

-- The fields, then the text or the record behind its length; `part` is not looked at where the message has none.
unfoldable pub body_of : ℕ → List ℕ → List ℕ → List ℕ
body_of n vs part = octets_by_widths (widths_of n) vs ++ cond (is_counted n) (counted_octets part) []

-- The octets of a message with its text or record.
unfoldable pub layout_by : MessageNumbers → List ℕ → List ℕ
layout_by x part = message_for protocol_version x.number x.session (body_of x.number x.values part)

-- The octets of the message that says m, with its text or record.
abbrev pub layout_of : Message → List ℕ → List ℕ
layout_of m part = layout_by (numbers_of m) part

-- ---- reading alone (02, ask 1)

-- The body has exactly the octets of its fields, or behind them a text or a record with its length.
unfoldable pub body_fits : ℕ → List ℕ → Bool
body_fits n m = cond (is_counted n) (counted_fits m (fixed_octets n)) (eqb (length m) (fixed_octets n))

-- The body is judged 7, 8, by the message number.
abbrev pub body_checks : ℕ → List ℕ → List Check
body_checks n m = (message_not_accepted when not (is_message n)) ∷ (body_length_wrong when not (body_fits n m)) ∷ []

-- The answer number of the body.
unfoldable pub body_answer : ℕ → List ℕ → ℕ
body_answer n m = judge (body_checks n m)

-- The answer number of reading a message alone: 3, 4, 5 by its header, then 7, 8.
unfoldable pub read_answer : List ℕ → ℕ
read_answer m = judge (header_checks_for protocol_version m ++ body_checks (message_number m) m)

-- What the message with a number says, by the values of its fields, which stand behind the header.
abbrev pub content_of : ℕ → List ℕ → Content
content_of n m = content_by n (values_at m header_octets (widths_of n))

-- Reading behind a header that is not refused answers, by the message number, what the message says, or 7 or 8.
unfoldable pub read_body : ℕ → List ℕ → Result Message Refusal
read_body n m = judged (body_answer n m) (record { session = session_of m; content = content_of n m })

-- What a message says.
unfoldable pub meaning_of : List ℕ → Message
meaning_of m = record { session = session_of m; content = content_of (message_number m) m }

-- Reading alone answers the meaning or the refusal.
unfoldable pub read_of : List ℕ → Result Message Refusal
read_of m = judged (read_answer m) (meaning_of m)

-- The message is not refused and has a text or a record: only then a part is handed back.
abbrev pub has_part : List ℕ → Bool
has_part m = eqb (read_answer m) done && is_counted (message_number m)

-- How many octets stand in front of the length of the text or the record that ends the message with a number; none where nothing does.
abbrev pub counted_place : ℕ → Option ℕ
counted_place n = cond (is_counted n) (Some (fixed_octets n)) None

-- Where a text or a record of the message with a number begins: behind the fields and its length.
abbrev pub behind_length : ℕ → ℕ
behind_length n = fixed_octets n + length_octets

-- Where the part begins; octet 0 for the empty part where there is none.
unfoldable pub part_at : List ℕ → ℕ
part_at m = cond (has_part m) (behind_length (message_number m)) 0

-- The octets of the part, to the message's end.
unfoldable pub part_of : List ℕ → List ℕ
part_of m = cond (has_part m) (drop (part_at m) m) []

-- ---- writing alone (02, ask 1)

-- The most octets of a text or a record in a message that is written (17).
abbrev pub max_part_octets : ℕ
max_part_octets = 1024

-- Writing a message, in numbers, into an output of `room` octets is judged 17, 12.
abbrev pub write_checks : MessageNumbers → List ℕ → ℕ → List Check
write_checks x part room =
    (record_too_long when (is_counted x.number && ltb max_part_octets (length part)))
    ∷ (output_too_short when ltb room (length (layout_by x part)))
    ∷ []

-- The answer number of writing it.
unfoldable pub write_answer_by : MessageNumbers → List ℕ → ℕ → ℕ
write_answer_by x part room = judge (write_checks x part room)

-- It answers the number of octets written, or the refusal.
unfoldable pub write_by : MessageNumbers → List ℕ → List ℕ → Result ℕ Refusal
write_by x part out = judged (write_answer_by x part (length out)) (length (layout_by x part))

-- The output afterwards: the message from its first octet on and no octet after it changed, or as it was.
unfoldable pub write_out_by : MessageNumbers → List ℕ → List ℕ → List ℕ
write_out_by x part out = cond (eqb (write_answer_by x part (length out)) done) (sets out 0 (layout_by x part)) out

-- The same of a message that a text or a record ends, by how many octets stand in front of its length.
abbrev pub counted_checks : ℕ → List ℕ → ℕ → List Check
counted_checks fixed part room =
    (record_too_long when ltb max_part_octets (length part)) ∷ (output_too_short when ltb room (fixed + (length_octets + length part))) ∷ []

-- Its answer number.
abbrev pub counted_answer : ℕ → List ℕ → ℕ → ℕ
counted_answer fixed part room = judge (counted_checks fixed part room)

-- What is answered of it, and the output once it is begun: its header, or as it was.
pub record Begun (number session fixed : ℕ) (part out : List ℕ) (answer : Result ℕ Refusal) (after : List ℕ) : Type 0 where
  pub answered : answer ≡ judged (counted_answer fixed part (length out)) (fixed + (length_octets + length part))
  pub left : after
      ≡ cond (eqb (counted_answer fixed part (length out)) done)
      (put_at out 0 (header_for protocol_version number session (fixed + (length_octets + length part)))) out

-- What writing a message in numbers answers, and the output afterwards.
pub record WrittenBy (x : MessageNumbers) (part out : List ℕ) (answer : Result ℕ Refusal) (after : List ℕ) : Type 0 where
  pub answered : answer ≡ write_by x part out
  pub left : after ≡ write_out_by x part out

-- The answer number of writing the message that says m.
abbrev pub write_answer : Message → List ℕ → ℕ → ℕ
write_answer m part room = write_answer_by (numbers_of m) part room

-- What writing it answers.
abbrev pub write_of : Message → List ℕ → List ℕ → Result ℕ Refusal
write_of m part out = write_by (numbers_of m) part out

-- The output afterwards.
abbrev pub write_out : Message → List ℕ → List ℕ → List ℕ
write_out m part out = write_out_by (numbers_of m) part out

-- ---- what can be written, and what is as it would be written; for theorems only: no contract cites these

-- The message has a text or a record.
abbrev pub takes_part : Message → Bool
takes_part m = is_counted (number_for m.content)

-- The part that the message hands back when it is read.
abbrev pub carried : Message → List ℕ → List ℕ
carried m part = cond (takes_part m) part []

-- The octet at which it begins.
abbrev pub carried_at : Message → ℕ
carried_at m = cond (takes_part m) (behind_length (number_for m.content)) 0

-- The message can be written with its part: its numbers fit their places, and a text or a record has at most 1,024 octets.
pub record Writable (m : Message) (part : List ℕ) : Type 0 where
  pub session : m.session < 256
  pub values : InWidths (widths_of (number_for m.content)) (values_for m.content)
  pub short : takes_part m ≡ true → length part ≤ max_part_octets

-- The message's flags are 0, SESSION START's `primary` is 0 or 1, and of DATA's flags all but the duplicate mark are 0: so, where the
-- message can be read, its octets are the layout of what it says.
pub record Plain (m : List ℕ) : Type 0 where
  -- octet 3: the message flags; octet 28 of a SESSION START: `primary`; octet 12 of a DATA: its flags
  pub flags : uint_at m 3 1 ≡ 0
  pub primary : message_number m ≡ session_start → uint_at m 28 1 < 2
  pub marks : message_number m ≡ data_number → uint_at m 12 1 < 2
