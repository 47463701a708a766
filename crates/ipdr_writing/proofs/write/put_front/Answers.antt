-- `put_front` meets its contract: 1,024 is tested first, then the room for the whole message, and then the header is put.
use mathlib.Core.Path.{◌∙◌}
use borrow.Author.Tests.{lt-ltb, le-ltb}
use lib.ListN.{length}
use Rattle.octets.specs.Answers.{judged, refusal_of}
use Rattle.ipdr.specs.Messages.{max_part_octets}
use Rattle.ipdr_writing.proofs.write.put_front.Goals as goal

pub returns-then-part-gt-MAX_PART_OCTETS : goal.returns-then-part-gt-MAX_PART_OCTETS
unfolding judged refusal_of
returns-then-part-gt-MAX_PART_OCTETS c =
    let long = lt-ltb max_part_octets (length c.args.part.now) c.if-part-gt-MAX_PART_OCTETS.true in
    record { answered = rw long; left = rw long }

pub returns-then-out-len : goal.returns-then-out-len
unfolding judged refusal_of
returns-then-out-len c =
    let few = le-ltb max_part_octets (length c.args.part.now) c.if-part-gt-MAX_PART_OCTETS.false in
    let short = lt-ltb _ _ c.if-out-len.true in
    record { answered = rw (few, short); left = rw (few, short) }

pub returns : goal.returns
unfolding judged refusal_of
returns c =
    let few = le-ltb max_part_octets (length c.args.part.now) c.if-part-gt-MAX_PART_OCTETS.false in
    let room = le-ltb _ _ c.if-out-len.false in
    record { answered = rw (few, room); left = c.put_header.ensures ∙ rw (few, room) }
