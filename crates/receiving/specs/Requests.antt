-- What the values of private functions stand for: requests and readings. These definitions render no rule of 01: the rules are in
-- Steps, and every public contract cites those.
use Rattle.std.specs.Prelude.{ℕ, [], Result, Ok, Err}
use Rattle.octets.specs.Answers.{refusal_number}
use Rattle.numbers.specs.declared.refusal.Refusal.{Refusal}
use Rattle.messages.specs.declared.message.Message.{Message}
use Rattle.session.specs.Servers.{malformed}
use Rattle.session.specs.Steps.{Call, ack, move, call_of_message}
use Rattle.receiving.specs.declared.decode.Request.{Request}
use Rattle.receiving.specs.declared.decode.Request.TheVariants as request
use Rattle.transitions.specs.Moves.{transition_of}

-- ---- received messages

-- The call that the code's value stands for, from server v.
abbrev pub call_of_request : ℕ → Request → Call
call_of_request v (request.Ack dsn config) = ack v dsn config
call_of_request v (request.Move m) = move v (transition_of [] m)

-- The call that reading a message alone stands for, from server v.
abbrev pub call_of_reading : ℕ → Result Message Refusal → Call
call_of_reading v (Ok m) = call_of_message v m
call_of_reading v (Err r) = move v (malformed (refusal_number r))
