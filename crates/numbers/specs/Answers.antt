-- The answer numbers by name, how a call's refusals are judged (01, "Answer numbers"), and what is promised of what a call answers.
use Rattle.std.specs.Prelude.{ℕ, ◌≡◌, Bool, cond, List, [], ◌∷◌, nat_eq, Result, Ok, Err}
use Rattle.numbers.specs.Each.{look_up}
use Rattle.numbers.specs.declared.refusal.Refusal.{Refusal}
use Rattle.numbers.specs.declared.refusal.Refusal.TheVariants.{UnsoundState, NoSuchServer, ShortMessage, OtherVersion, LengthDiffers}
use Rattle.numbers.specs.declared.refusal.Refusal.TheVariants.{OtherSession, MessageNotAccepted, BodyLengthWrong, OutOfTurn}
use Rattle.numbers.specs.declared.refusal.Refusal.TheVariants.{OtherConfiguration, DsnNotAcknowledgeable}
use Rattle.numbers.specs.declared.refusal.Refusal.TheVariants.{OutputTooShort, NoActiveServer, NothingToSend, TemplateNotFound}
use Rattle.numbers.specs.declared.refusal.Refusal.TheVariants.{RecordInvalid, RecordTooLong, QueueFull, StoreFull, SettingsOutsideLimits}
use Rattle.numbers.specs.declared.refusal.Refusal.TheVariants.{UnsoundTable, UnsoundTape}

-- ---- the numbers: one name for each row of the table; the cases of `Refusal` have the same

-- 0: done.
abbrev pub done : ℕ
done = 0

-- 1: the state is not sound, or the lent store has not the length set.
abbrev pub unsound_state : ℕ
unsound_state = 1

-- 2: the server's number is not below the server count.
abbrev pub no_such_server : ℕ
no_such_server = 2

-- 3: fewer than 8 octets.
abbrev pub short_message : ℕ
short_message = 3

-- 4: a version other than the edition's: 1 for CRANE, 2 for IPDR/SP.
abbrev pub other_version : ℕ
other_version = 4

-- 5: the length field is not the number of octets given.
abbrev pub length_differs : ℕ
length_differs = 5

-- 6: another session's message.
abbrev pub other_session : ℕ
other_session = 6

-- 7: a message number that is not accepted here.
abbrev pub message_not_accepted : ℕ
message_not_accepted = 7

-- 8: the body has not its message's length, or a length in it is not that of the octets behind it.
abbrev pub body_length_wrong : ℕ
body_length_wrong = 8

-- 9: not this server's or this message's turn.
abbrev pub out_of_turn : ℕ
out_of_turn = 9

-- 10: another Configuration ID.
abbrev pub other_configuration : ℕ
other_configuration = 10

-- 11: a DSN that cannot be acknowledged now.
abbrev pub dsn_not_acknowledgeable : ℕ
dsn_not_acknowledgeable = 11

-- 12: what is to be written does not fit the output.
abbrev pub output_too_short : ℕ
output_too_short = 12

-- 13: no server is active.
abbrev pub no_active_server : ℕ
no_active_server = 13

-- 14: every held record was sent.
abbrev pub nothing_to_send : ℕ
nothing_to_send = 14

-- 15: the table has no template with the ID.
abbrev pub template_not_found : ℕ
template_not_found = 15

-- 16: the record, or the value, is not valid under its template or type.
abbrev pub record_invalid : ℕ
record_invalid = 16

-- 17: the record, or the text, has more than 1,024 octets.
abbrev pub record_too_long : ℕ
record_too_long = 17

-- 18: 64 records are held.
abbrev pub queue_full : ℕ
queue_full = 18

-- 19: the record does not fit the store beside the held ones.
abbrev pub store_full : ℕ
store_full = 19

-- 20: a setting, or the store, is outside its limits.
abbrev pub settings_outside_limits : ℕ
settings_outside_limits = 20

-- 21: the table is unsound, or, in an exporter's call, of another configuration.
abbrev pub unsound_table : ℕ
unsound_table = 21

-- 22: the tape is unsound.
abbrev pub unsound_tape : ℕ
unsound_tape = 22

-- All of them, in the order of the paper's table.
abbrev pub answer_numbers : List ℕ
answer_numbers =
    done
    ∷ unsound_state
    ∷ no_such_server
    ∷ short_message
    ∷ other_version
    ∷ length_differs
    ∷ other_session
    ∷ message_not_accepted
    ∷ body_length_wrong
    ∷ out_of_turn
    ∷ other_configuration
    ∷ dsn_not_acknowledgeable
    ∷ output_too_short
    ∷ no_active_server
    ∷ nothing_to_send
    ∷ template_not_found
    ∷ record_invalid
    ∷ record_too_long
    ∷ queue_full
    ∷ store_full
    ∷ settings_outside_limits
    ∷ unsound_table
    ∷ unsound_tape
    ∷ []

-- ---- refusals

-- The number of a refusal, by the row of the table that it has its name from.
abbrev pub refusal_number : Refusal → ℕ
refusal_number UnsoundState = unsound_state
refusal_number NoSuchServer = no_such_server
refusal_number ShortMessage = short_message
refusal_number OtherVersion = other_version
refusal_number LengthDiffers = length_differs
refusal_number OtherSession = other_session
refusal_number MessageNotAccepted = message_not_accepted
refusal_number BodyLengthWrong = body_length_wrong
refusal_number OutOfTurn = out_of_turn
refusal_number OtherConfiguration = other_configuration
refusal_number DsnNotAcknowledgeable = dsn_not_acknowledgeable
refusal_number OutputTooShort = output_too_short
refusal_number NoActiveServer = no_active_server
refusal_number NothingToSend = nothing_to_send
refusal_number TemplateNotFound = template_not_found
refusal_number RecordInvalid = record_invalid
refusal_number RecordTooLong = record_too_long
refusal_number QueueFull = queue_full
refusal_number StoreFull = store_full
refusal_number SettingsOutsideLimits = settings_outside_limits
refusal_number UnsoundTable = unsound_table
refusal_number UnsoundTape = unsound_tape

-- All refusals, in the order of their numbers.
abbrev pub refusals : List Refusal
refusals =
    UnsoundState
    ∷ NoSuchServer
    ∷ ShortMessage
    ∷ OtherVersion
    ∷ LengthDiffers
    ∷ OtherSession
    ∷ MessageNotAccepted
    ∷ BodyLengthWrong
    ∷ OutOfTurn
    ∷ OtherConfiguration
    ∷ DsnNotAcknowledgeable
    ∷ OutputTooShort
    ∷ NoActiveServer
    ∷ NothingToSend
    ∷ TemplateNotFound
    ∷ RecordInvalid
    ∷ RecordTooLong
    ∷ QueueFull
    ∷ StoreFull
    ∷ SettingsOutsideLimits
    ∷ UnsoundTable
    ∷ UnsoundTape
    ∷ []

-- The refusal that has a number; that of an unsound state where none has it.
unfoldable pub refusal_of : ℕ → Refusal
refusal_of n = look_up refusal_number (λ r. r) UnsoundState refusals n

-- ---- judging: the first that applies

-- A refusal: its number, and the test that calls for it.
infix 20 ◌when◌
pub data Check : Type 0 where
  ◌when◌ : ℕ → Bool → Check

-- The number of the first check whose test holds, or `done` where none does.
abbrev pub judge : List Check → ℕ
judge [] = done
judge ((number when test) ∷ checks) = cond test number (judge checks)

-- ---- what a call answers

-- A value where the number that the call is judged by is `done`, and otherwise the refusal that has the number.
unfoldable pub judged : {A : Type 0} → ℕ → A → Result A Refusal
judged n value = cond (nat_eq n done) (Ok value) (Err (refusal_of n))

-- The number of what a call answers: `done`, or the refusal's.
abbrev pub answer_number : {A : Type 0} → Result A Refusal → ℕ
answer_number (Ok value) = done
answer_number (Err refusal) = refusal_number refusal

-- What a contract promises of it: it is the answer that a definition gives, and its number, by the definition that gives one for each of
-- its cases, is the number that the call is judged by.
pub record Answered {R : Type 0} (number_in : R → ℕ) (result expected : R) (judged : ℕ) : Type 0 where
  pub same : result ≡ expected
  pub number : number_in result ≡ judged
