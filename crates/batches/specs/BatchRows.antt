-- Batches worked out from the papers (02, ask 5): where each stops, with which answer, and what it wrote.
use Rattle.std.specs.Prelude.{◌≡◌, List, [], ◌∷◌, ◌++◌, ℕ, replicate}
use Rattle.octets.specs.Answers.{judged, done, unsound_state, output_too_short, no_active_server, nothing_to_send}
use Rattle.session.specs.Limits.{max_held}
use Rattle.batches.specs.Batches.{batch, batch_of}
use Rattle.session.specs.Examples.{alone}
use Rattle.session.specs.declared.state.Phase.{Phase}
use Rattle.session.specs.declared.state.Phase.TheVariants.{Closed, Agreed}
use Rattle.session.specs.declared.state.State.{State}

-- One server, in a phase, and three records of 2 octets each, all once sent to it, of which the first `sent` in this activation; a store's
-- length; a given number and an output's length. Then what the batch answers, how many messages and octets it writes, and how many of the
-- records count as sent.
pub record Row : Type 0 where
  pub phase : Phase
  pub sent : ℕ
  pub store_length : ℕ
  pub number : ℕ
  pub room : ℕ
  pub answer : ℕ
  pub count : ℕ
  pub written : ℕ
  pub sent_after : ℕ

-- A row, by its columns.
abbrev pub row : Phase → ℕ → ℕ → ℕ → ℕ → ℕ → ℕ → ℕ → ℕ → Row
row phase sent store_length number room answer count written sent_after =
    record {
      phase = phase;
      sent = sent;
      store_length = store_length;
      number = number;
      room = room;
      answer = answer;
      count = count;
      written = written;
      sent_after = sent_after;
    }

-- The exporter of a row; its next DSN is 1, so that the three have 4,294,967,294, 4,294,967,295 and 0.
abbrev pub exporter_for : Phase → ℕ → State
exporter_for phase sent = alone phase 3 (replicate max_held 2) sent 1

-- What a row says: the batch's answer by its number, and what the call hands back; the state left is that of a row with `sent_after`
-- records sent.
abbrev pub Holds : Row → Type 0
Holds r =
    let b = batch r.number r.room (exporter_for r.phase r.sent) (replicate r.store_length 0) in
    (b.answer ≡ r.answer)
    × (batch_of b ≡ record { answer = judged r.answer tt; count = r.count; written = r.written; state = exporter_for r.phase r.sent_after })

-- Every row holds.
abbrev pub AllHold : List Row → Type 0
AllHold [] = Unit {0}
AllHold (r ∷ rs) = Holds r × AllHold rs

-- The given number is reached: also with the last octet of the output, a message having 18, and also by the last record.
abbrev pub rows_at_number : List Row
rows_at_number =
    row Agreed 0 1024 2 100 done 2 36 2
    ∷ row Agreed 0 1024 2 36 done 2 36 2
    ∷ row Agreed 0 1024 3 54 done 3 54 3
    ∷ row Agreed 1 1024 1 18 done 1 18 2
    ∷ []

-- The records end before it: also with the last octet of the output, in an empty output, and before the greatest given number.
abbrev pub rows_records_end : List Row
rows_records_end =
    row Agreed 0 1024 4 1000 nothing_to_send 3 54 3
    ∷ row Agreed 0 1024 4 54 nothing_to_send 3 54 3
    ∷ row Agreed 1 1024 18446744073709551615 1000 nothing_to_send 2 36 3
    ∷ row Agreed 3 1024 1 100 nothing_to_send 0 0 3
    ∷ row Agreed 3 1024 1 0 nothing_to_send 0 0 3
    ∷ []

-- Octets are missing for one more message, or nobody is active.
abbrev pub rows_refused : List Row
rows_refused =
    row Agreed 0 1024 3 53 output_too_short 2 36 2
    ∷ row Agreed 0 1024 4 36 output_too_short 2 36 2
    ∷ row Agreed 0 1024 1 17 output_too_short 0 0 0
    ∷ row Agreed 0 1024 1 0 output_too_short 0 0 0
    ∷ row Closed 0 1024 1 100 no_active_server 0 0 0
    ∷ row Closed 0 1024 3 0 no_active_server 0 0 0
    ∷ []

-- A given number of 0.
abbrev pub rows_none_asked : List Row
rows_none_asked =
    row Agreed 0 1024 0 100 done 0 0 0
    ∷ row Agreed 3 1024 0 0 done 0 0 3
    ∷ row Closed 0 1024 0 0 done 0 0 0
    ∷ []

-- A store that is not of the length set, 1,024; an unsound state, with a record sent in no activation.
abbrev pub rows_unsound : List Row
rows_unsound =
    row Agreed 0 1023 0 100 unsound_state 0 0 0
    ∷ row Agreed 0 1023 2 100 unsound_state 0 0 0
    ∷ row Agreed 0 1025 2 100 unsound_state 0 0 0
    ∷ row Closed 0 1023 1 0 unsound_state 0 0 0
    ∷ row Closed 1 1024 0 100 unsound_state 0 0 1
    ∷ row Closed 1 1024 2 100 unsound_state 0 0 1
    ∷ []

-- The octets of a batch of two: the second and third of three records, which stand first in the store; neither has S or D.
abbrev pub BackToBack : Type 0
BackToBack =
    (batch 2 100 (exporter_for Agreed 1) ((1 ∷ 2 ∷ 3 ∷ 4 ∷ 5 ∷ 6 ∷ []) ++ replicate 1018 0)).octets
    ≡ 0x01 ∷ 0x20 ∷ 0x07 ∷ 0x00 ∷ 0x00 ∷ 0x00 ∷ 0x00 ∷ 0x12 ∷ 0x00 ∷ 0x03 ∷ 0x01 ∷ 0x00 ∷ 0xFF ∷ 0xFF ∷ 0xFF ∷ 0xFF ∷ 0x03 ∷ 0x04
    ∷ 0x01 ∷ 0x20 ∷ 0x07 ∷ 0x00 ∷ 0x00 ∷ 0x00 ∷ 0x00 ∷ 0x12 ∷ 0x00 ∷ 0x03 ∷ 0x01 ∷ 0x00 ∷ 0x00 ∷ 0x00 ∷ 0x00 ∷ 0x00 ∷ 0x05 ∷ 0x06 ∷ []

-- The rows and the octets.
pub record BatchRows : Type 0 where
  pub at_number : AllHold rows_at_number
  pub records_end : AllHold rows_records_end
  pub refused : AllHold rows_refused
  pub none_asked : AllHold rows_none_asked
  pub unsound : AllHold rows_unsound
  pub octets : BackToBack
