-- `write_data_head` meets its contract: 1,024 is tested first, then the room for the whole message, and what is stored are the 16 octets in
-- front.
use borrow.Author.Tests.{lt-ltb, le-ltb}
use lib.ListN.{length}
use native.Mathlib.Omega.{arith}
use Rattle.octets.specs.Answers.{judged, refusal_of}
use Rattle.octets.proofs.Judging.{answered_with_lem}
use Rattle.messages.specs.Messages.{max_record_octets, head_write_answer, head_write_of, head_write_out}
use Rattle.messages.proofs.RoundTrip.{head_number}
use Rattle.writing.proofs.write.write_data_head.Goals as goal

pub returns-then-len-gt-MAX_RECORD_OCTETS : goal.returns-then-len-gt-MAX_RECORD_OCTETS
unfolding head_write_answer head_write_of head_write_out judged refusal_of
returns-then-len-gt-MAX_RECORD_OCTETS c =
    let a = c.args in
    let long = lt-ltb max_record_octets a.len c.if-len-gt-MAX_RECORD_OCTETS.true in
    answered_with_lem (head_number a.len (length a.out.now)) (rw long, rw long)

pub returns-then-out-total : goal.returns-then-out-total
unfolding head_write_answer head_write_of head_write_out judged refusal_of
returns-then-out-total c =
    let few = le-ltb max_record_octets c.args.len (omega arith) in
    let short = lt-ltb _ _ c.if-out-total.true in
    let a = c.args in
    answered_with_lem (head_number a.len (length a.out.now)) (rw (few, short), rw (few, short))

pub returns : goal.returns
unfolding head_write_answer head_write_of head_write_out judged refusal_of
returns c =
    let few = le-ltb max_record_octets c.args.len (omega arith) in
    let room = le-ltb _ _ c.if-out-total.false in
    let a = c.args in
    answered_with_lem (head_number a.len (length a.out.now)) (rw (few, room), rw (few, room) c.put_data_head.ensures)
