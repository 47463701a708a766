-- `write_data` meets its contract: a record of at most 1,024 octets is written behind the 16 octets of its head.
use mathlib.Core.Path.{refl, sym, ap, ◌∙◌}
use Prim.Native.Nat.{◌+◌}
use native.Mathlib.Omega.{arith}
use borrow.Author.Tests.{lt-ltb, le-ltb}
use lib.Seq.{sets}
use lib.ListN.{length}
use Rattle.octets.specs.Answers.{record_too_long, refusal_of}
use Rattle.octets.specs.Numbers.{octets_in}
use Rattle.messages.specs.Messages.{data_head_octets, write_answer}
use Rattle.messages.proofs.Messages.{placed_short, placed, allowed, refused, data_length, data_layout}
use Rattle.octets.proofs.Stores.{put_then}
use Rattle.writing.proofs.write.write_data.Goals as goal

pub returns-then-part-gt-MAX_RECORD_OCTETS : goal.returns-then-part-gt-MAX_RECORD_OCTETS
unfolding write_answer refusal_of
returns-then-part-gt-MAX_RECORD_OCTETS c = refused _ _ _ record_too_long (λ z. omega arith) (rw (lt-ltb _ _ c.if-part-gt-MAX_RECORD_OCTETS.true))

pub returns-then-out-len : goal.returns-then-out-len
returns-then-out-len c =
    let a = c.args in
    allowed _ _ _ _ _ refl (le-ltb _ _ c.if-part-gt-MAX_RECORD_OCTETS.false) (placed_short _ _ (omega (arith, data_length a.head a.part.now)))

pub returns : goal.returns
unfolding octets_in
returns c =
    let a = c.args in
    let part = a.part.now in
    let room = c.if-out-len.false in
    allowed _ _ _ _ _ refl (le-ltb _ _ c.if-part-gt-MAX_RECORD_OCTETS.false)
    (placed _ _ _ (16 + length part) (data_length a.head part) room
    (c.copy.ensures
    ∙ put_then a.out.now (data_head_octets a.head (length part)) part _ 16
    c.put_data_head.ensures refl room
    ∙ ap (sets a.out.now 0) (sym (data_layout a.head part))))
