-- What an IPDR/SP message says, in the numbers that cross the boundary to C.
use Rattle.std.specs.Prelude.{ℕ, List, [], ◌∷◌, length, get_or, Result, Ok, Err}
use Rattle.octets.specs.Answers.{done, refusal_number}
use Rattle.numbers.specs.declared.refusal.Refusal.{Refusal}
use Rattle.ipdr.specs.Messages.{number_for, values_for}
use Rattle.ipdr.specs.declared.message.Content.{Content}
use Rattle.ipdr.specs.declared.message.Message.{Message}

-- A message's number and the values of its fields.
abbrev pub content_numbers : Content → List ℕ
content_numbers c = number_for c ∷ values_for c

-- The answer 0; the place and the length of the part that the message carries, its session, its number and its fields. A refused reading
-- is alone.
abbrev pub read_parts : ℕ → List ℕ → Result Message Refusal → List ℕ
read_parts at part (Ok m) = done ∷ at ∷ length part ∷ m.session ∷ content_numbers m.content
read_parts at part (Err refusal) = refusal_number refusal ∷ []

-- One of them by its number, 0 where there is none.
abbrev pub read_part : ℕ → ℕ → List ℕ → Result Message Refusal → ℕ
read_part number at part reading = get_or (read_parts at part reading) number 0
