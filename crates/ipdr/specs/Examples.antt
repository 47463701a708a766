-- Octets of the ten messages, as document 002 (sections 3, 4 and 8) and 02's ask 1 give them. Each is a row of one table, and the one claim
-- is that every row holds. Lengths are decimal, all other octets hexadecimal.
use Rattle.std.specs.Prelude.{◌≡◌, Bool, true, false, List, [], ◌∷◌, ◌++◌, ℕ, take, replicate, Result, Ok, Err}
use Rattle.headers.specs.Headers.{header_reading_for}
use Rattle.headers.specs.declared.header.Header.{Header}
use Rattle.numbers.specs.declared.refusal.Refusal.{Refusal}
use Rattle.numbers.specs.declared.refusal.Refusal.TheVariants.{ShortMessage, OtherVersion, LengthDiffers, MessageNotAccepted}
use Rattle.numbers.specs.declared.refusal.Refusal.TheVariants.{BodyLengthWrong, OutputTooShort, RecordTooLong}
use Rattle.ipdr.specs.declared.message.Content.{Content}
use Rattle.ipdr.specs.declared.message.Content.TheVariants as content
use Rattle.ipdr.specs.declared.message.Message.{Message}
use Rattle.ipdr.specs.Messages.{layout_of, read_of, part_at, part_of, write_of, write_out}

-- A row. A message is given by its session, what it says, and its text or record, the part.
pub data Row : Type 0 where
  -- a message, the octet at which its part begins, and its octets: they are its layout and are read as it
  same : ℕ → Content → List ℕ → ℕ → List ℕ → Row
  -- the same of octets that are only read: such a message is written otherwise, or not at all
  reads : ℕ → Content → List ℕ → ℕ → List ℕ → Row
  -- octets that reading refuses, and why; the empty part at octet 0 is handed back
  refused : Refusal → List ℕ → Row
  -- a version, octets, and what reading their header alone answers
  heads : ℕ → List ℕ → Result Header Refusal → Row
  -- a message, the output lent for it, how many octets are written, and the output afterwards
  writes : ℕ → Content → List ℕ → List ℕ → ℕ → List ℕ → Row
  -- why writing refuses, the message, and the output lent for it, which stays
  unwritten : Refusal → ℕ → Content → List ℕ → List ℕ → Row

-- A message, by its session and what it says.
abbrev pub message : ℕ → Content → Message
message session content = record { session = session; content = content }

-- Octets are read as a message and its part, which begins at an octet.
abbrev pub ReadAs : ℕ → Content → List ℕ → ℕ → List ℕ → Type 0
ReadAs s c part at octets = (read_of octets ≡ Ok (message s c)) × ((part_of octets ≡ part) × (part_at octets ≡ at))

-- What a row says.
abbrev pub Holds : Row → Type 0
Holds (same s c part at octets) = (layout_of (message s c) part ≡ octets) × ReadAs s c part at octets
Holds (reads s c part at octets) = ReadAs s c part at octets
Holds (refused refusal octets) = (read_of octets ≡ Err refusal) × ((part_of octets ≡ []) × (part_at octets ≡ 0))
Holds (heads version octets answer) = header_reading_for version octets ≡ answer
Holds (writes s c part out n after) =
    (write_of (message s c) part out ≡ Ok n) × (write_out (message s c) part out ≡ after)
Holds (unwritten refusal s c part out) =
    (write_of (message s c) part out ≡ Err refusal) × (write_out (message s c) part out ≡ out)

-- Every row holds.
abbrev pub AllHold : List Row → Type 0
AllHold [] = Unit {0}
AllHold (x ∷ xs) = Holds x × AllHold xs

-- An octet, so many times.
abbrev pub times : ℕ → ℕ → List ℕ
times n octet = replicate n octet

-- What a CONNECT says.
abbrev pub a_connect : ℕ → ℕ → ℕ → ℕ → Content
a_connect id port capabilities interval =
    content.Connect (record { initiator_id = id; initiator_port = port; capabilities = capabilities; keep_alive_interval = interval })

-- What a SESSION START says, to the primary collector or to another.
abbrev pub a_session_start : Bool → Content
a_session_start primary =
    content.SessionStart (record {
      exporter_boot_time = 0x10111213;
      first_record_sequence_number = 0x2122232425262728;
      dropped_record_count = 0x3132333435363738;
      primary = primary;
      ack_time_interval = 0x41424344;
      ack_sequence_interval = 0x51525354;
      document_id_high = 0x6061626364656667;
      document_id_low = 0x68696A6B6C6D6E6F;
    })

-- Its 45 octets behind the header, with an octet for `primary`.
abbrev pub session_start_body : ℕ → List ℕ
session_start_body primary =
    0x10 ∷ 0x11 ∷ 0x12 ∷ 0x13 ∷ 0x21 ∷ 0x22 ∷ 0x23 ∷ 0x24 ∷ 0x25 ∷ 0x26 ∷ 0x27 ∷ 0x28
    ∷ 0x31 ∷ 0x32 ∷ 0x33 ∷ 0x34 ∷ 0x35 ∷ 0x36 ∷ 0x37 ∷ 0x38 ∷ primary ∷ 0x41 ∷ 0x42 ∷ 0x43 ∷ 0x44 ∷ 0x51 ∷ 0x52 ∷ 0x53 ∷ 0x54
    ∷ 0x60 ∷ 0x61 ∷ 0x62 ∷ 0x63 ∷ 0x64 ∷ 0x65 ∷ 0x66 ∷ 0x67 ∷ 0x68 ∷ 0x69 ∷ 0x6A ∷ 0x6B ∷ 0x6C ∷ 0x6D ∷ 0x6E ∷ 0x6F ∷ []

-- What a DATA says, with the duplicate mark or without.
abbrev pub a_data : Bool → Content
a_data mark = content.Data (record { template_id = 0x0A0B; config_id = 0x0C0D; duplicate = mark; sequence_num = 0x8182838485868788 })

-- Its octets in session E5, by the message flags, the message's length, its own flags, and all that stands behind sequenceNum.
abbrev pub data_with : ℕ → ℕ → ℕ → List ℕ → List ℕ
data_with message_flags len flags end =
    0x02 ∷ 0x20 ∷ 0xE5 ∷ message_flags ∷ 0 ∷ 0 ∷ 0 ∷ len ∷ 0x0A ∷ 0x0B ∷ 0x0C ∷ 0x0D ∷ flags
    ∷ 0x81 ∷ 0x82 ∷ 0x83 ∷ 0x84 ∷ 0x85 ∷ 0x86 ∷ 0x87 ∷ 0x88 ∷ end

-- What a FLOW STOP says.
abbrev pub a_flow_stop : Content
a_flow_stop = content.FlowStop 0xC4D5

-- Its octets in session B2, by the two low octets of the message's length, and all that stands behind reasonCode.
abbrev pub flow_stop_with : ℕ → ℕ → List ℕ → List ℕ
flow_stop_with high low end = 0x02 ∷ 0x03 ∷ 0xB2 ∷ 0x00 ∷ 0 ∷ 0 ∷ high ∷ low ∷ 0xC4 ∷ 0xD5 ∷ end

-- The table: the ten messages, octets that are only read, refusals by their answer numbers, headers, writing.
abbrev pub rows : List Row
rows =
    -- FLOW START (4.3.1)
    same 0xA1 content.FlowStart [] 0 (0x02 ∷ 0x01 ∷ 0xA1 ∷ 0x00 ∷ 0 ∷ 0 ∷ 0 ∷ 8 ∷ [])
    -- FLOW STOP (4.3.3), and one with an empty text: its part is empty, at its place
    ∷ same 0xB2 a_flow_stop (0x6E ∷ 0x6F ∷ []) 14 (flow_stop_with 0 16 (0 ∷ 0 ∷ 0 ∷ 2 ∷ 0x6E ∷ 0x6F ∷ []))
    ∷ same 0xB2 a_flow_stop [] 14 (flow_stop_with 0 14 (0 ∷ 0 ∷ 0 ∷ 0 ∷ []))
    -- CONNECT (4.1.1)
    ∷ same 0x00 (a_connect 0x0A0B0C0D 0x1281 0x21222324 0x31323334) (0x41 ∷ 0x42 ∷ 0x43 ∷ []) 26
    (0x02 ∷ 0x05 ∷ 0x00 ∷ 0x00 ∷ 0 ∷ 0 ∷ 0 ∷ 29 ∷ 0x0A ∷ 0x0B ∷ 0x0C ∷ 0x0D ∷ 0x12 ∷ 0x81
    ∷ 0x21 ∷ 0x22 ∷ 0x23 ∷ 0x24 ∷ 0x31 ∷ 0x32 ∷ 0x33 ∷ 0x34 ∷ 0 ∷ 0 ∷ 0 ∷ 3 ∷ 0x41 ∷ 0x42 ∷ 0x43 ∷ [])
    -- CONNECT RESPONSE (4.1.2)
    ∷ same 0xC3 (content.ConnectResponse 0x41424344 0x51525354) (0x61 ∷ 0x62 ∷ []) 20
    (0x02 ∷ 0x06 ∷ 0xC3 ∷ 0x00 ∷ 0 ∷ 0 ∷ 0 ∷ 22
    ∷ 0x41 ∷ 0x42 ∷ 0x43 ∷ 0x44 ∷ 0x51 ∷ 0x52 ∷ 0x53 ∷ 0x54 ∷ 0 ∷ 0 ∷ 0 ∷ 2 ∷ 0x61 ∷ 0x62 ∷ [])
    -- DISCONNECT (4.1.3)
    ∷ same 0xD4 content.Disconnect [] 0 (0x02 ∷ 0x07 ∷ 0xD4 ∷ 0x00 ∷ 0 ∷ 0 ∷ 0 ∷ 8 ∷ [])
    -- SESSION START (4.3.2), to the primary collector and to another
    ∷ same 0xE5 (a_session_start true) [] 0 (0x02 ∷ 0x08 ∷ 0xE5 ∷ 0x00 ∷ 0 ∷ 0 ∷ 0 ∷ 53 ∷ session_start_body 0x01)
    ∷ same 0xE5 (a_session_start false) [] 0 (0x02 ∷ 0x08 ∷ 0xE5 ∷ 0x00 ∷ 0 ∷ 0 ∷ 0 ∷ 53 ∷ session_start_body 0x00)
    -- SESSION STOP (4.3.4); its text is not UTF-8
    ∷ same 0xF6 (content.SessionStop 0x0708) (0xFF ∷ 0x00 ∷ 0x80 ∷ []) 14
    (0x02 ∷ 0x09 ∷ 0xF6 ∷ 0x00 ∷ 0 ∷ 0 ∷ 0 ∷ 17 ∷ 0x07 ∷ 0x08 ∷ 0 ∷ 0 ∷ 0 ∷ 3 ∷ 0xFF ∷ 0x00 ∷ 0x80 ∷ [])
    -- DATA (4.5.1) with the duplicate mark, and without it and with an empty record
    ∷ same 0xE5 (a_data true) (0xDE ∷ 0xAD ∷ []) 25 (data_with 0x00 27 0x01 (0 ∷ 0 ∷ 0 ∷ 2 ∷ 0xDE ∷ 0xAD ∷ []))
    ∷ same 0xE5 (a_data false) [] 25 (data_with 0x00 25 0x00 (0 ∷ 0 ∷ 0 ∷ 0 ∷ []))
    -- DATA ACKNOWLEDGE (4.5.2)
    ∷ same 0x18 (content.DataAcknowledge 0x1112 0xF1F2F3F4F5F6F7F8) [] 0
    (0x02 ∷ 0x21 ∷ 0x18 ∷ 0x00 ∷ 0 ∷ 0 ∷ 0 ∷ 18 ∷ 0x11 ∷ 0x12 ∷ 0xF1 ∷ 0xF2 ∷ 0xF3 ∷ 0xF4 ∷ 0xF5 ∷ 0xF6 ∷ 0xF7 ∷ 0xF8 ∷ [])
    -- ERROR (4.2.1)
    ∷ same 0x29 (content.Error 0x91929394 0x8003) (0x6F ∷ 0x6B ∷ []) 18
    (0x02 ∷ 0x23 ∷ 0x29 ∷ 0x00 ∷ 0 ∷ 0 ∷ 0 ∷ 20 ∷ 0x91 ∷ 0x92 ∷ 0x93 ∷ 0x94 ∷ 0x80 ∷ 0x03 ∷ 0 ∷ 0 ∷ 0 ∷ 2 ∷ 0x6F ∷ 0x6B ∷ [])
    -- message flags are ignored, and of DATA's flags all but the lowest; a `primary` of 2 is true; a text of 1,025 octets is read
    ∷ reads 0xE5 (a_data true) [] 25 (data_with 0xFF 25 0xFF (0 ∷ 0 ∷ 0 ∷ 0 ∷ []))
    ∷ reads 0xE5 (a_data false) [] 25 (data_with 0x01 25 0xFE (0 ∷ 0 ∷ 0 ∷ 0 ∷ []))
    ∷ reads 0xE5 (a_session_start true) [] 0 (0x02 ∷ 0x08 ∷ 0xE5 ∷ 0x80 ∷ 0 ∷ 0 ∷ 0 ∷ 53 ∷ session_start_body 0x02)
    ∷ reads 0xB2 a_flow_stop (times 1025 0x61) 14 (flow_stop_with 4 15 (0 ∷ 0 ∷ 4 ∷ 1 ∷ times 1025 0x61))
    -- 3: no octets; seven, of another version
    ∷ refused ShortMessage []
    ∷ refused ShortMessage (0x01 ∷ 0x07 ∷ 0xD4 ∷ 0x00 ∷ 0 ∷ 0 ∷ 0 ∷ [])
    -- 4: CRANE's START; the same with a wrong length
    ∷ refused OtherVersion (0x01 ∷ 0x01 ∷ 0x07 ∷ 0x00 ∷ 0 ∷ 0 ∷ 0 ∷ 8 ∷ [])
    ∷ refused OtherVersion (0x01 ∷ 0x01 ∷ 0x07 ∷ 0x00 ∷ 0 ∷ 0 ∷ 0 ∷ 9 ∷ [])
    -- 5: a length one too small; one too large, in a message that is none of the ten
    ∷ refused LengthDiffers (0x02 ∷ 0x07 ∷ 0xD4 ∷ 0x00 ∷ 0 ∷ 0 ∷ 0 ∷ 7 ∷ [])
    ∷ refused LengthDiffers (0x02 ∷ 0x10 ∷ 0xD4 ∷ 0x00 ∷ 0 ∷ 0 ∷ 0 ∷ 9 ∷ [])
    -- 7: TEMPLATE DATA; CRANE's START ACK, with its body
    ∷ refused MessageNotAccepted (0x02 ∷ 0x10 ∷ 0x07 ∷ 0x00 ∷ 0 ∷ 0 ∷ 0 ∷ 8 ∷ [])
    ∷ refused MessageNotAccepted (0x02 ∷ 0x02 ∷ 0x07 ∷ 0x00 ∷ 0 ∷ 0 ∷ 0 ∷ 12 ∷ 0x00 ∷ 0x00 ∷ 0x0E ∷ 0x10 ∷ [])
    -- 8: FLOW START with a body; CRANE's STOP; FLOW STOP, CONNECT and DATA one octet short of an inner length
    ∷ refused BodyLengthWrong (0x02 ∷ 0x01 ∷ 0xA1 ∷ 0x00 ∷ 0 ∷ 0 ∷ 0 ∷ 9 ∷ 0x00 ∷ [])
    ∷ refused BodyLengthWrong (0x02 ∷ 0x03 ∷ 0xB2 ∷ 0x00 ∷ 0 ∷ 0 ∷ 0 ∷ 8 ∷ [])
    ∷ refused BodyLengthWrong (flow_stop_with 0 13 (0 ∷ 0 ∷ 0 ∷ []))
    ∷ refused BodyLengthWrong (0x02 ∷ 0x05 ∷ 0x00 ∷ 0x00 ∷ 0 ∷ 0 ∷ 0 ∷ 25 ∷ times 17 0x00)
    ∷ refused BodyLengthWrong (data_with 0x00 24 0x00 (0 ∷ 0 ∷ 0 ∷ []))
    -- 8: SESSION START and DATA ACKNOWLEDGE, one octet short and one over
    ∷ refused BodyLengthWrong (0x02 ∷ 0x08 ∷ 0xE5 ∷ 0x00 ∷ 0 ∷ 0 ∷ 0 ∷ 52 ∷ take 44 (session_start_body 0x01))
    ∷ refused BodyLengthWrong (0x02 ∷ 0x08 ∷ 0xE5 ∷ 0x00 ∷ 0 ∷ 0 ∷ 0 ∷ 54 ∷ (session_start_body 0x01 ++ (0x70 ∷ [])))
    ∷ refused BodyLengthWrong (0x02 ∷ 0x21 ∷ 0x18 ∷ 0x00 ∷ 0 ∷ 0 ∷ 0 ∷ 17 ∷ times 9 0x11)
    ∷ refused BodyLengthWrong (0x02 ∷ 0x21 ∷ 0x18 ∷ 0x00 ∷ 0 ∷ 0 ∷ 0 ∷ 19 ∷ times 11 0x11)
    -- 8: an inner length one too large; one too small; FFFFFFFF
    ∷ refused BodyLengthWrong (flow_stop_with 0 16 (0 ∷ 0 ∷ 0 ∷ 3 ∷ 0x6E ∷ 0x6F ∷ []))
    ∷ refused BodyLengthWrong (flow_stop_with 0 16 (0 ∷ 0 ∷ 0 ∷ 1 ∷ 0x6E ∷ 0x6F ∷ []))
    ∷ refused BodyLengthWrong (data_with 0x00 27 0x01 (0xFF ∷ 0xFF ∷ 0xFF ∷ 0xFF ∷ 0xDE ∷ 0xAD ∷ []))
    -- a header alone: KEEP ALIVE, which is none of the ten, for both versions; CRANE's START for both
    ∷ heads 2 (0x02 ∷ 0x40 ∷ 0xC3 ∷ 0xFF ∷ 0 ∷ 0 ∷ 0 ∷ 8 ∷ []) (Ok (record { session = 0xC3; number = 0x40 }))
    ∷ heads 1 (0x02 ∷ 0x40 ∷ 0xC3 ∷ 0xFF ∷ 0 ∷ 0 ∷ 0 ∷ 8 ∷ []) (Err OtherVersion)
    ∷ heads 2 (0x01 ∷ 0x01 ∷ 0x07 ∷ 0x00 ∷ 0 ∷ 0 ∷ 0 ∷ 8 ∷ []) (Err OtherVersion)
    ∷ heads 1 (0x01 ∷ 0x01 ∷ 0x07 ∷ 0x00 ∷ 0 ∷ 0 ∷ 0 ∷ 8 ∷ []) (Ok (record { session = 0x07; number = 0x01 }))
    -- a part lent for FLOW START is ignored, and the octet behind the message stays; a text of 1,024 octets is written
    ∷ writes 0xA1 content.FlowStart (times 1025 0x61) (times 9 0xEE) 8 (0x02 ∷ 0x01 ∷ 0xA1 ∷ 0x00 ∷ 0 ∷ 0 ∷ 0 ∷ 8 ∷ 0xEE ∷ [])
    ∷ writes 0xB2 a_flow_stop (times 1024 0x61) (times 1038 0xEE) 1038 (flow_stop_with 4 14 (0 ∷ 0 ∷ 4 ∷ 0 ∷ times 1024 0x61))
    -- 12: one octet of room missing, be it with a part that is ignored
    ∷ unwritten OutputTooShort 0xB2 a_flow_stop (times 1024 0x61) (times 1037 0xEE)
    ∷ unwritten OutputTooShort 0xA1 content.FlowStart (times 1025 0x61) (times 7 0xEE)
    -- 17: a record with room for it, and without; every text
    ∷ unwritten RecordTooLong 0xE5 (a_data true) (times 1025 0x61) (times 1050 0xEE)
    ∷ unwritten RecordTooLong 0xE5 (a_data true) (times 1025 0x61) []
    ∷ unwritten RecordTooLong 0xB2 a_flow_stop (times 1025 0x61) []
    ∷ unwritten RecordTooLong 0xF6 (content.SessionStop 1) (times 1025 0x61) []
    ∷ unwritten RecordTooLong 0x00 (a_connect 1 2 3 4) (times 1025 0x61) []
    ∷ unwritten RecordTooLong 0xC3 (content.ConnectResponse 1 2) (times 1025 0x61) []
    ∷ unwritten RecordTooLong 0x29 (content.Error 1 2) (times 1025 0x61) []
    ∷ []
