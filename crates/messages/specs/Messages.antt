-- Messages: their layouts, reading and writing alone (01, "Messages" and "Answer numbers").
use Rattle.std.specs.Prelude.{◌≡◌, ℕ, ◌+◌, ◌-◌, ◌%◌, ◌/◌, ◌^◌, ◌<◌, ◌≤◌, Bool, true, false, cond, not, ◌&&◌, ◌||◌, List, [], ◌∷◌, ◌++◌, eqb, leb, ltb, length, drop, Result, Ok, Err}
use Rattle.std.proofs.lemmas.List.Edits.{sets}
use Rattle.octets.specs.Answers.{Check, ◌when◌, judge, judged, done, message_not_accepted, body_length_wrong, output_too_short, record_too_long}
use Rattle.octets.specs.Answers.{unsound_table}
use Rattle.octets.specs.Numbers.{uint_at, octets_of, put_at}
use Rattle.octets.specs.Each.{look_up}
use Rattle.numbers.specs.declared.refusal.Refusal.{Refusal}
use Rattle.numbers.specs.declared.refusal.Refusal.TheVariants.{BodyLengthWrong, OutputTooShort, UnsoundTable}
use Rattle.tables.specs.Table.{table_sound}
pub use Rattle.headers.specs.Headers.{header_octets, version_of, message_number, session_of, length_field, header_for, message_for}
pub use Rattle.headers.specs.Headers.{header_checks_for}
unfoldable pub use Rattle.headers.specs.Headers.{header_answer_for, header_reading_for}
use Rattle.headers.specs.declared.header.Header.{Header}
use Rattle.messages.specs.declared.message.DataHead.{DataHead}
use Rattle.messages.specs.declared.message.Message.{Message}
use Rattle.messages.specs.declared.message.Message.TheVariants.{Start, StartAck, Stop, StopAck, TmplData, FinalTmplDataAck}
use Rattle.messages.specs.declared.message.Message.TheVariants.{StartNegotiate, StartNegotiateAck, Data, DataAck}

-- ---- the header (01, "Messages"), which is the shared one with version 1

-- The version that every header names.
abbrev pub protocol_version : ℕ
protocol_version = 1

-- ---- the table of messages (01, "Messages")

-- START: no body.
abbrev pub start : ℕ
start = 0x01

-- START ACK: the boot time.
abbrev pub start_ack : ℕ
start_ack = 0x02

-- STOP: no body.
abbrev pub stop : ℕ
stop = 0x03

-- STOP ACK: no body.
abbrev pub stop_ack : ℕ
stop_ack = 0x04

-- TMPL DATA: a template table.
abbrev pub tmpl_data : ℕ
tmpl_data = 0x10

-- FINAL TMPL DATA ACK: a Configuration ID and 3 reserved octets.
abbrev pub final_tmpl_data_ack : ℕ
final_tmpl_data_ack = 0x13

-- START NEGOTIATE: no body.
abbrev pub start_negotiate : ℕ
start_negotiate = 0x18

-- START NEGOTIATE ACK: no body.
abbrev pub start_negotiate_ack : ℕ
start_negotiate_ack = 0x19

-- DATA: template ID, Configuration ID, flags, DSN, record.
abbrev pub data_number : ℕ
data_number = 0x20

-- DATA ACK: a DSN, a Configuration ID and 3 reserved octets.
abbrev pub data_ack : ℕ
data_ack = 0x21

-- A row: a message's number, how many octets its body has, and whether more may follow (a table, a record).
pub record Form : Type 0 where
  pub number : ℕ
  pub body : ℕ
  pub more : Bool

-- A row, by its columns.
abbrev pub form : ℕ → ℕ → Bool → Form
form number body more = record { number = number; body = body; more = more }

-- The ten messages, in the order of their numbers. A TMPL DATA's body is all table, a DATA's 8 octets and the record.
abbrev pub forms : List Form
forms =
    form start 0 false ∷ form start_ack 4 false ∷ form stop 0 false ∷ form stop_ack 0 false
    ∷ form tmpl_data 0 true ∷ form final_tmpl_data_ack 4 false
    ∷ form start_negotiate 0 false ∷ form start_negotiate_ack 0 false
    ∷ form data_number 8 true ∷ form data_ack 8 false ∷ []

-- What f gives of the row with a number; false where there is none.
abbrev pub of_form : (Form → Bool) → List Form → ℕ → Bool
of_form f rows n = look_up (λ r. r.number) f false rows n

-- The number is a message's.
unfoldable pub is_message : ℕ → Bool
is_message n = of_form (λ f. true) forms n

-- A body has exactly the row's octets, or at least as many where more may follow.
unfoldable pub body_fits : ℕ → ℕ → Bool
body_fits n body = of_form (λ f. cond f.more (leb f.body body) (eqb body f.body)) forms n

-- ---- layouts (01, "Messages")

-- Version, message number, session, message flags 0, the length of the whole message.
abbrev pub header_octets_of : ℕ → ℕ → ℕ → List ℕ
header_octets_of number session len = header_for protocol_version number session len

-- The header, then the body.
unfoldable pub message_of : ℕ → ℕ → List ℕ → List ℕ
message_of number session body = message_for protocol_version number session body

-- The S flag of DATA.
abbrev pub s_flag : ℕ
s_flag = 1

-- The D flag of DATA.
abbrev pub d_flag : ℕ
d_flag = 2

-- DATA's flags: S, D, and the other bits 0.
abbrev pub flags_of : Bool → Bool → ℕ
flags_of s d = cond s s_flag 0 + cond d d_flag 0

-- DATA's body in front of the record: template ID, Configuration ID, flags, DSN.
abbrev pub data_front : DataHead → List ℕ
data_front h = octets_of 2 h.template ++ (h.config ∷ flags_of h.first h.duplicate ∷ octets_of 4 h.dsn)

-- How many octets a DATA message has in front of its record.
abbrev pub data_head_length : ℕ
data_head_length = 16

-- The octets of a DATA message in front of its record, which has n octets.
abbrev pub data_head_octets : DataHead → ℕ → List ℕ
data_head_octets h n = header_octets_of data_number h.session (data_head_length + n) ++ data_front h

-- The octets of the message that says m; `part` is the record of a DATA and the table of a TMPL DATA, and no other message has one.
unfoldable pub layout_of : Message → List ℕ → List ℕ
layout_of (Start s) part = message_of start s []
layout_of (StartAck s boot) part = message_of start_ack s (octets_of 4 boot)
layout_of (Stop s) part = message_of stop s []
layout_of (StopAck s) part = message_of stop_ack s []
layout_of (TmplData s) part = message_of tmpl_data s part
layout_of (FinalTmplDataAck s config) part = message_of final_tmpl_data_ack s (config ∷ 0 ∷ 0 ∷ 0 ∷ [])
layout_of (StartNegotiate s) part = message_of start_negotiate s []
layout_of (StartNegotiateAck s) part = message_of start_negotiate_ack s []
layout_of (Data h) part = message_of data_number h.session (data_front h ++ part)
layout_of (DataAck s dsn config) part = message_of data_ack s (octets_of 4 dsn ++ (config ∷ 0 ∷ 0 ∷ 0 ∷ []))

-- ---- reading alone (01, "Answer numbers" and "Messages")

-- The header is judged 3, 4, 5.
abbrev pub header_checks : List ℕ → List Check
header_checks m = header_checks_for protocol_version m

-- The answer number of reading a header alone.
abbrev pub header_answer : List ℕ → ℕ
header_answer m = header_answer_for protocol_version m

-- Reading a header alone: its session and message number, or the refusal.
abbrev pub header_of : List ℕ → Result Header Refusal
header_of m = header_reading_for protocol_version m

-- Its body is judged 7, 8, then 21 for the table of a TMPL DATA.
abbrev pub body_checks : List ℕ → List Check
body_checks m =
    (message_not_accepted when not (is_message (message_number m)))
    ∷ (body_length_wrong when not (body_fits (message_number m) (length m - header_octets)))
    ∷ (unsound_table when (eqb (message_number m) tmpl_data && not (table_sound (drop header_octets m))))
    ∷ []

-- The answer number of reading a message alone: its header is judged first, then its body.
unfoldable pub read_answer : List ℕ → ℕ
read_answer m = judge (header_checks m ++ body_checks m)

-- Of DATA's flags S is the lowest bit; those above D are not looked at.
abbrev pub flag_first : ℕ → Bool
flag_first flags = eqb (flags % 2) 1

-- D is the second lowest bit.
abbrev pub flag_duplicate : ℕ → Bool
flag_duplicate flags = eqb (flags / 2 % 2) 1

-- Template ID at octet 8, Configuration ID at 10, flags at 11, DSN at 12.
unfoldable pub data_head_of : List ℕ → DataHead
data_head_of m =
    record {
      session = session_of m;
      template = uint_at m 8 2;
      config = uint_at m 10 1;
      first = flag_first (uint_at m 11 1);
      duplicate = flag_duplicate (uint_at m 11 1);
      dsn = uint_at m 12 4;
    }

-- What a message says, by its number; asked only of one that is not refused, so the last case is DATA ACK.
unfoldable pub meaning_of : List ℕ → Message
meaning_of m =
    let n = message_number m in
    let s = session_of m in
    cond (eqb n start) (Start s)
    (cond (eqb n start_ack) (StartAck s (uint_at m 8 4))
    (cond (eqb n stop) (Stop s)
    (cond (eqb n stop_ack) (StopAck s)
    (cond (eqb n tmpl_data) (TmplData s)
    (cond (eqb n final_tmpl_data_ack) (FinalTmplDataAck s (uint_at m 8 1))
    (cond (eqb n start_negotiate) (StartNegotiate s)
    (cond (eqb n start_negotiate_ack) (StartNegotiateAck s)
    (cond (eqb n data_number) (Data (data_head_of m))
    (DataAck s (uint_at m 8 4) (uint_at m 12 1))))))))))

-- Reading alone answers the meaning or the refusal.
unfoldable pub read_of : List ℕ → Result Message Refusal
read_of m = judged (read_answer m) (meaning_of m)

-- What is read behind a header that is not refused: what the message says where its body's length fits, else 8.
abbrev pub read_where : Bool → Message → Result Message Refusal
read_where fits m = cond fits (Ok m) (Err BodyLengthWrong)

-- Of a TMPL DATA: what it says where its table is sound, else 21, whatever its length.
abbrev pub read_table : List ℕ → Result Message Refusal
read_table m = cond (table_sound (drop header_octets m)) (Ok (TmplData (session_of m))) (Err UnsoundTable)

-- The message is not refused, and is a DATA or a TMPL DATA: only then a part is handed back.
abbrev pub has_part : List ℕ → Bool
has_part m = eqb (read_answer m) done && (eqb (message_number m) data_number || eqb (message_number m) tmpl_data)

-- Where the part begins: a DATA's record at octet 16, a TMPL DATA's table at octet 8, no octets at octet 0.
unfoldable pub part_at : List ℕ → ℕ
part_at m = cond (has_part m) (cond (eqb (message_number m) data_number) data_head_length header_octets) 0

-- The octets of the part, to the message's end.
unfoldable pub part_of : List ℕ → List ℕ
part_of m = cond (has_part m) (drop (part_at m) m) []

-- ---- writing alone (01, "Answer numbers")

-- The most octets of a record in a DATA that is written (17).
abbrev pub max_record_octets : ℕ
max_record_octets = 1024

-- The number of the message that says m.
abbrev pub number_for : Message → ℕ
number_for (Start s) = start
number_for (StartAck s boot) = start_ack
number_for (Stop s) = stop
number_for (StopAck s) = stop_ack
number_for (TmplData s) = tmpl_data
number_for (FinalTmplDataAck s config) = final_tmpl_data_ack
number_for (StartNegotiate s) = start_negotiate
number_for (StartNegotiateAck s) = start_negotiate_ack
number_for (Data h) = data_number
number_for (DataAck s dsn config) = data_ack

-- The message has a table as its part.
abbrev pub is_tmpl_data : Message → Bool
is_tmpl_data m = eqb (number_for m) tmpl_data

-- The message has a record as its part.
abbrev pub is_data : Message → Bool
is_data m = eqb (number_for m) data_number

-- Writing into an output of `room` octets is judged 21, 17, 12.
abbrev pub write_checks : Message → List ℕ → ℕ → List Check
write_checks m part room =
    (unsound_table when (is_tmpl_data m && not (table_sound part)))
    ∷ (record_too_long when (is_data m && ltb max_record_octets (length part)))
    ∷ (output_too_short when ltb room (length (layout_of m part)))
    ∷ []

-- The answer number of writing a message alone.
unfoldable pub write_answer : Message → List ℕ → ℕ → ℕ
write_answer m part room = judge (write_checks m part room)

-- It answers the number of octets written, or the refusal.
unfoldable pub write_of : Message → List ℕ → List ℕ → Result ℕ Refusal
write_of m part out = judged (write_answer m part (length out)) (length (layout_of m part))

-- The output afterwards: the message from its first octet on and no octet after it changed, or as it was.
unfoldable pub write_out : Message → List ℕ → List ℕ → List ℕ
write_out m part out = cond (eqb (write_answer m part (length out)) done) (sets out 0 (layout_of m part)) out

-- A DATA's octets in front of a record of n octets that the caller writes behind them: judged 17, 12 as the whole message is (law
-- `head_answer`).
abbrev pub head_write_checks : ℕ → ℕ → List Check
head_write_checks n room = (record_too_long when ltb max_record_octets n) ∷ (output_too_short when ltb room (data_head_length + n)) ∷ []

-- The answer number of writing them.
unfoldable pub head_write_answer : ℕ → ℕ → ℕ
head_write_answer n room = judge (head_write_checks n room)

-- It answers the whole message's octets, or the refusal.
unfoldable pub head_write_of : ℕ → ℕ → Result ℕ Refusal
head_write_of n room = judged (head_write_answer n room) (data_head_length + n)

-- The output afterwards: the 16 octets from its first one on, or as it was.
unfoldable pub head_write_out : DataHead → ℕ → List ℕ → List ℕ
head_write_out h n out = cond (eqb (head_write_answer n (length out)) done) (sets out 0 (data_head_octets h n)) out

-- Octets written to an output from its first octet on, where no rule but the room's refuses them: what is answered, and the output
-- afterwards.
pub record Placed (octets out : List ℕ) (answer : Result ℕ Refusal) (after : List ℕ) : Type 0 where
  pub answered : answer ≡ cond (ltb (length out) (length octets)) (Err OutputTooShort) (Ok (length octets))
  pub left : after ≡ put_at out 0 octets

-- ---- what is written, and what can be written; for theorems only: no contract cites these

-- The part that the message hands back when it is read: a TMPL DATA's table, a DATA's record, and else no octets.
abbrev pub carried : Message → List ℕ → List ℕ
carried m part = cond (is_data m || is_tmpl_data m) part []

-- The octet at which it begins.
abbrev pub carried_at : Message → ℕ
carried_at m = cond (is_data m) data_head_length (cond (is_tmpl_data m) header_octets 0)

-- The message's numbers fit their places.
abbrev pub InRange : Message → Type 0
InRange (Start s) = s < 256
InRange (StartAck s boot) = (s < 256) × (boot < 2 ^ 32)
InRange (Stop s) = s < 256
InRange (StopAck s) = s < 256
InRange (TmplData s) = s < 256
InRange (FinalTmplDataAck s config) = (s < 256) × (config < 256)
InRange (StartNegotiate s) = s < 256
InRange (StartNegotiateAck s) = s < 256
InRange (Data h) = (h.session < 256) × ((h.template < 2 ^ 16) × ((h.config < 256) × (h.dsn < 2 ^ 32)))
InRange (DataAck s dsn config) = (s < 256) × ((dsn < 2 ^ 32) × (config < 256))

-- The message can be written with its part: its numbers are in range, a table is sound, a record has at most 1,024 octets.
pub record Writable (m : Message) (part : List ℕ) : Type 0 where
  pub ranges : InRange m
  pub table : is_tmpl_data m ≡ true → table_sound part ≡ true
  pub short : is_data m ≡ true → length part ≤ max_record_octets

-- The message's flags and reserved octets are 0, and of DATA's flags all but S and D: so the message is as it would be written.
pub record Plain (m : List ℕ) : Type 0 where
  pub flags : uint_at m 3 1 ≡ 0
  pub marks : message_number m ≡ data_number → uint_at m 11 1 < 4
  pub reserved : message_number m ≡ final_tmpl_data_ack → uint_at m 9 3 ≡ 0
  pub unused : message_number m ≡ data_ack → uint_at m 13 3 ≡ 0
