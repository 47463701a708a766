-- `write_bare` meets its contract: a message with no body is its header.
use native.Mathlib.Omega.{arith}
use mathlib.Core.Path.{refl, ◌∙◌}
use Rattle.octets.specs.Numbers.{octets_in}
use Rattle.messages.specs.Messages.{message_of}
use Rattle.messages.proofs.Messages.{header_put, placed_short, placed}
use Rattle.writing.proofs.write.write_bare.Goals as goal

pub returns-then-out-lt-HEADER_OCTETS : goal.returns-then-out-lt-HEADER_OCTETS
unfolding message_of octets_in
returns-then-out-lt-HEADER_OCTETS c = placed_short _ _ c.if-out-lt-HEADER_OCTETS.true

pub returns : goal.returns
unfolding message_of octets_in
returns c = placed _ _ _ 8 refl c.if-out-lt-HEADER_OCTETS.false (c.put_header.ensures ∙ header_put c.args.number c.args.session 8 c.args.out.now (omega arith))
