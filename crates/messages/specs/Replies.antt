-- What a call writes, by its meaning, and all that its answer and its state depend on of how messages are put into octets: how wide
-- sequence numbers are, and how long messages are (01, "Messages").
use Rattle.std.specs.Prelude.{ℕ, List, [], length}
use Rattle.messages.specs.declared.message.Message.{Message}
use Rattle.messages.specs.Messages.{layout_of}

-- What a call writes: nothing, or a message with its part, which is a DATA's record or a TMPL DATA's table, and [] for any other.
pub data Reply : Type 0 where
  silent : Reply
  message : Message → List ℕ → Reply

-- An encoding of messages: how many bits a sequence number has, and how many octets a message has with its part.
pub record Encoding : Type 0 where
  pub width : ℕ
  pub size : Message → List ℕ → ℕ

-- How many octets a reply has.
abbrev pub size_of : Encoding → Reply → ℕ
size_of e silent = 0
size_of e (message m part) = e.size m part

-- CRANE: sequence numbers of 32 bits, and messages as long as their layouts.
abbrev pub crane : Encoding
crane = record { width = 32; size = λ m part. length (layout_of m part) }

-- The octets of a reply in CRANE.
abbrev pub layout : Reply → List ℕ
layout silent = []
layout (message m part) = layout_of m part
