-- `ipdr_read_part` meets its contract: each way out is one of the parts of what was read.
use Rattle.std.proofs.Common.{sym, ◌∙◌}
use Rattle.ipdr.proofs.RoundTrip.{part_at_lem}
use Rattle.ipdr_exports.proofs.ipdr_calls.ipdr_read_part.Goals as goal

pub returns-in-1 : goal.returns-in-1
returns-in-1 c =
    let m = c.args.message.now in
    let read = sym c.read_message.ensures.same ∙ c.in-Ok.is in
    rw (read, c.in-1.is) (c.place_of.ensures ∙ sym (part_at_lem m _ read))
