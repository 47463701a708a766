-- Demand 2 of each edition: what is written reads back as the same meaning, what is read is the layout of its meaning, a message of the
-- other edition is refused with 4, and a refused writing changes nothing (02, ask 1; 01, "Messages").
use Rattle.std.specs.Prelude.{ℕ, ◌≤◌, ◌≡◌, ◌≢◌, List, [], ◌++◌, length, take, drop, Ok, Err}
use Rattle.numbers.specs.declared.refusal.Refusal.TheVariants as refusal
use Rattle.octets.specs.Answers.{done, answer_number, refusal_of}
use Rattle.octets.specs.Numbers.{Octets}
use Rattle.headers.specs.Headers.{header_octets, version_of, header_reading_for}
use Rattle.messages.specs.Messages as crane
use Rattle.ipdr.specs.Messages as ipdr
use Rattle.editions.specs.declared.edition.Edition.{Edition}
use Rattle.editions.specs.declared.edition.Edition.TheVariants as edition
use Rattle.editions.specs.declared.edition.Message.{Message}
use Rattle.editions.specs.declared.edition.Message.TheVariants as message
use Rattle.editions.specs.Editions.{version_for, read_answer_in, read_in, part_in, part_at_in, edition_of, layout_in}
use Rattle.editions.specs.Editions.{write_answer_in, write_in, write_out_in}

-- The message can be written with its part.
abbrev pub WritableIn : Message → List ℕ → Type 0
WritableIn (message.Crane m) part = crane.Writable m part
WritableIn (message.Ipdr m) part = ipdr.Writable m part

-- The part that the message hands back when it is read.
abbrev pub carried_in : Message → List ℕ → List ℕ
carried_in (message.Crane m) part = crane.carried m part
carried_in (message.Ipdr m) part = ipdr.carried m part

-- The octet at which it begins.
abbrev pub carried_at_in : Message → ℕ
carried_at_in (message.Crane m) = crane.carried_at m
carried_at_in (message.Ipdr m) = ipdr.carried_at m

-- What a message of an edition says.
abbrev pub meaning_in : Edition → List ℕ → Message
meaning_in edition.Crane m = message.Crane (crane.meaning_of m)
meaning_in edition.Ipdr m = message.Ipdr (ipdr.meaning_of m)

-- Its flags and reserved octets are 0 where the edition writes 0.
abbrev pub PlainIn : Edition → List ℕ → Type 0
PlainIn edition.Crane m = crane.Plain m
PlainIn edition.Ipdr m = ipdr.Plain m

-- The other edition.
abbrev pub other : Edition → Edition
other edition.Crane = edition.Ipdr
other edition.Ipdr = edition.Crane

-- Octets are refused with 4, as a message and as a header alone, and the empty part at octet 0 is handed back.
pub record OtherVersion (e : Edition) (m : List ℕ) : Type 0 where
  pub message : read_in e m ≡ Err refusal.OtherVersion
  pub header : header_reading_for (version_for e) m ≡ Err refusal.OtherVersion
  pub part : (part_in e m ≡ []) × (part_at_in e m ≡ 0)

-- What is claimed of both editions, sentence by sentence.
pub record EditionsClaim : Type 0 where
  -- a message that can be written, written to an output with room for it, reads back in its edition: its meaning, its part and the
  -- part's place
  pub reads_back : (m : Message) (part out : List ℕ) → WritableIn m part → length (layout_in m part) ≤ length out
      → let octets = take (length (layout_in m part)) (write_out_in m part out) in
      (read_in (edition_of m) octets ≡ Ok m)
      × ((part_in (edition_of m) octets ≡ carried_in m part) × (part_at_in (edition_of m) octets ≡ carried_at_in m))
  -- a message that reads without refusal, with flags and reserved octets 0, is the layout of its meaning and its part
  pub is_layout : (e : Edition) (m : List ℕ) → Octets m → read_answer_in e m ≡ done → PlainIn e m
      → m ≡ layout_in (meaning_in e m) (part_in e m)
  -- a message of the other edition, and its header alone, is refused with 4, and no part is handed back
  pub other_edition : (e : Edition) (m : List ℕ) → header_octets ≤ length m → version_of m ≡ version_for (other e) → OtherVersion e m
  -- a refused writing answers its number and leaves the output as it was
  pub refused : (m : Message) (part out : List ℕ) → write_answer_in m part (length out) ≢ done
      → (write_in m part out ≡ Err (refusal_of (write_answer_in m part (length out))))
      × ((answer_number (write_in m part out) ≡ write_answer_in m part (length out)) × (write_out_in m part out ≡ out))
  -- an accepted one has room, answers how many octets it wrote, and wrote the layout from the first octet on and no octet after it
  pub accepted : (m : Message) (part out : List ℕ) → write_answer_in m part (length out) ≡ done
      → (length (layout_in m part) ≤ length out)
      × ((write_in m part out ≡ Ok (length (layout_in m part)))
      × (write_out_in m part out ≡ layout_in m part ++ drop (length (layout_in m part)) out))
