-- Messages of either edition, CRANE's and IPDR/SP 2.2's: each definition is the edition's own (02, ask 1).
use Rattle.std.specs.Prelude.{ℕ, List, Result, Ok, Err}
use Rattle.numbers.specs.declared.refusal.Refusal.{Refusal}
use Rattle.messages.specs.Messages as crane
use Rattle.ipdr.specs.Messages as ipdr
use Rattle.editions.specs.declared.edition.Edition.{Edition}
use Rattle.editions.specs.declared.edition.Edition.TheVariants as edition
use Rattle.editions.specs.declared.edition.Message.{Message}
use Rattle.editions.specs.declared.edition.Message.TheVariants as message

-- The version that an edition's headers name: 1 for CRANE, 2 for IPDR/SP.
abbrev pub version_for : Edition → ℕ
version_for edition.Crane = crane.protocol_version
version_for edition.Ipdr = ipdr.protocol_version

-- ---- reading alone, told the edition

-- The answer number of reading a message.
abbrev pub read_answer_in : Edition → List ℕ → ℕ
read_answer_in edition.Crane m = crane.read_answer m
read_answer_in edition.Ipdr m = ipdr.read_answer m

-- What was read of an edition's message, as a message of either.
abbrev pub of_edition : {A : Type 0} → (A → Message) → Result A Refusal → Result Message Refusal
of_edition f (Ok m) = Ok (f m)
of_edition f (Err refusal) = Err refusal

-- Reading alone answers the meaning or the refusal.
abbrev pub read_in : Edition → List ℕ → Result Message Refusal
read_in edition.Crane m = of_edition (λ x. message.Crane x) (crane.read_of m)
read_in edition.Ipdr m = of_edition (λ x. message.Ipdr x) (ipdr.read_of m)

-- The octets of the part.
abbrev pub part_in : Edition → List ℕ → List ℕ
part_in edition.Crane m = crane.part_of m
part_in edition.Ipdr m = ipdr.part_of m

-- Where it begins.
abbrev pub part_at_in : Edition → List ℕ → ℕ
part_at_in edition.Crane m = crane.part_at m
part_at_in edition.Ipdr m = ipdr.part_at m

-- ---- writing alone: the message itself says its edition

-- The edition of a message.
abbrev pub edition_of : Message → Edition
edition_of (message.Crane m) = edition.Crane
edition_of (message.Ipdr m) = edition.Ipdr

-- The octets of a message with its part.
abbrev pub layout_in : Message → List ℕ → List ℕ
layout_in (message.Crane m) part = crane.layout_of m part
layout_in (message.Ipdr m) part = ipdr.layout_of m part

-- The answer number of writing into an output of `room` octets.
abbrev pub write_answer_in : Message → List ℕ → ℕ → ℕ
write_answer_in (message.Crane m) part room = crane.write_answer m part room
write_answer_in (message.Ipdr m) part room = ipdr.write_answer m part room

-- Writing answers the number of octets written, or the refusal.
abbrev pub write_in : Message → List ℕ → List ℕ → Result ℕ Refusal
write_in (message.Crane m) part out = crane.write_of m part out
write_in (message.Ipdr m) part out = ipdr.write_of m part out

-- The output afterwards.
abbrev pub write_out_in : Message → List ℕ → List ℕ → List ℕ
write_out_in (message.Crane m) part out = crane.write_out m part out
write_out_in (message.Ipdr m) part out = ipdr.write_out m part out
