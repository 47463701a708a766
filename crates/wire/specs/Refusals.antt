-- A refusal changes nothing of the output, and an accepted call nothing but the octets that it writes (01, "Answer numbers").
use Rattle.std.specs.Prelude.{ℕ, ◌+◌, ◌≤◌, ◌≡◌, ◌≢◌, List, ◌++◌, length, take, drop, Result, Ok, Err}
use Rattle.octets.specs.Answers.{done, answer_number, refusal_of}
use Rattle.numbers.specs.declared.refusal.Refusal.{Refusal}
use Rattle.numbers.specs.declared.OctetOrder.{OctetOrder}
use Rattle.records.specs.declared.walk.Value.{Value}
use Rattle.appending.specs.Append.{field_octets, append_answer, append_of, append_out}
use Rattle.messages.specs.Messages.{layout_of, data_head_length, data_head_octets, write_answer, write_of, write_out, head_write_answer, head_write_of}
use Rattle.messages.specs.Messages.{head_write_out}
use Rattle.messages.specs.declared.message.DataHead.{DataHead}
use Rattle.messages.specs.declared.message.Message.{Message}

-- A call with an answer number that writes octets to an output from a place on. Refused, it answers the refusal that has the number, and
-- the output is as it was. Accepted, it answers `ok`, the octets have room and stand at their place, and what is in front of them and
-- behind them is as it was.
pub record KeptOrWritten (number ok : ℕ) (answer : Result ℕ Refusal) (at : ℕ) (octets out after : List ℕ) : Type 0 where
  pub numbered : answer_number answer ≡ number
  pub refused : number ≢ done → (answer ≡ Err (refusal_of number)) × (after ≡ out)
  pub room : number ≡ done → at + length octets ≤ length out
  pub accepted : number ≡ done → (answer ≡ Ok ok) × (after ≡ take at out ++ octets ++ drop (at + length octets) out)

-- So it is with a message, with a DATA's octets in front of its record of n octets, and with a field. What is answered: how many octets the
-- message has, with its record; the place behind the field.
pub record WireRefusals : Type 0 where
  pub message : (m : Message) (part out : List ℕ)
      → KeptOrWritten (write_answer m part (length out)) (length (layout_of m part)) (write_of m part out) 0 (layout_of m part) out
      (write_out m part out)
  pub head : (h : DataHead) (n : ℕ) (out : List ℕ)
      → KeptOrWritten (head_write_answer n (length out)) (data_head_length + n) (head_write_of n (length out)) 0 (data_head_octets h n) out
      (head_write_out h n out)
  pub field : (order : OctetOrder) (type : ℕ) (value : Value) (octets out : List ℕ) (at : ℕ)
      → let stored = field_octets order type value octets in
      KeptOrWritten (append_answer order type value octets out at) (at + length stored) (append_of order type value octets out at) at stored
      out (append_out order type value octets out at)
