-- The form of a received message, for exporter and collector alike (01, "Answer numbers": receive 3 to 8; 02, ask 4).
use Rattle.std.specs.Prelude.{ℕ, ◌-◌, Bool, not, List, [], ◌∷◌, ◌++◌, eqb, length}
use Rattle.octets.specs.Answers.{Check, ◌when◌, judge, other_session, message_not_accepted, body_length_wrong}
use Rattle.messages.specs.Messages.{header_checks, session_of, message_number, header_octets, body_fits}

-- Behind its header a message is judged 6, 7, 8, by the session and by the message numbers that are accepted.
abbrev pub received_checks : (ℕ → Bool) → ℕ → List ℕ → List Check
received_checks accepts session m =
    (other_session when not (eqb (session_of m) session))
    ∷ (message_not_accepted when not (accepts (message_number m)))
    ∷ (body_length_wrong when not (body_fits (message_number m) (length m - header_octets)))
    ∷ []

-- The form of a received message is judged 3, 4, 5 by its header, then 6, 7, 8.
unfoldable pub form_answer_for : (ℕ → Bool) → ℕ → List ℕ → ℕ
form_answer_for accepts session m = judge (header_checks m ++ received_checks accepts session m)
