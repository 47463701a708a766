-- The header of a message, which both editions share but for the version (01, "Messages"; document 002, section 8).
use Rattle.std.specs.Prelude.{ℕ, ◌+◌, not, List, [], ◌∷◌, ◌++◌, eqb, ltb, length, Result}
use Rattle.octets.specs.Answers.{Check, ◌when◌, judge, judged, short_message, other_version, length_differs}
use Rattle.octets.specs.Numbers.{uint_at, octets_of}
use Rattle.numbers.specs.declared.refusal.Refusal.{Refusal}
use Rattle.headers.specs.declared.header.Header.{Header}

-- Octets of the header.
abbrev pub header_octets : ℕ
header_octets = 8

-- Octet 0: the version.
abbrev pub version_of : List ℕ → ℕ
version_of m = uint_at m 0 1

-- Octet 1: the message number.
abbrev pub message_number : List ℕ → ℕ
message_number m = uint_at m 1 1

-- Octet 2: the session.
abbrev pub session_of : List ℕ → ℕ
session_of m = uint_at m 2 1

-- Octets 4 to 7: the length of the whole message; octet 3, the message flags, is not read.
abbrev pub length_field : List ℕ → ℕ
length_field m = uint_at m 4 4

-- Version, message number, session, message flags 0, the length of the whole message.
abbrev pub header_for : ℕ → ℕ → ℕ → ℕ → List ℕ
header_for version number session len = version ∷ number ∷ session ∷ 0 ∷ octets_of 4 len

-- The header, then the body.
abbrev pub message_for : ℕ → ℕ → ℕ → List ℕ → List ℕ
message_for version number session body = header_for version number session (header_octets + length body) ++ body

-- The header is judged 3, 4, 5; the version test follows the edition (02, ask 1).
abbrev pub header_checks_for : ℕ → List ℕ → List Check
header_checks_for version m =
    (short_message when ltb (length m) header_octets)
    ∷ (other_version when not (eqb (version_of m) version))
    ∷ (length_differs when not (eqb (length_field m) (length m)))
    ∷ []

-- The answer number of reading a header alone.
unfoldable pub header_answer_for : ℕ → List ℕ → ℕ
header_answer_for version m = judge (header_checks_for version m)

-- Reading a header alone: its session and message number, or the refusal.
unfoldable pub header_reading_for : ℕ → List ℕ → Result Header Refusal
header_reading_for version m = judged (header_answer_for version m) (record { session = session_of m; number = message_number m })
