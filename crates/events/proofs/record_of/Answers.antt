-- `record_of` meets its contract: it is what lies behind the template ID. Where the body is shorter than that, both sides are empty.
use mathlib.Core.Path.{◌∙◌, sym}
use native.Mathlib.Omega.{arith}
use lib.ListN.{length, drop_of_length-le}
use Rattle.octets.proofs.Stores.{take_rest}
use Rattle.events.proofs.record_of.Goals as goal

pub returns-then-len-lt-TEMPLATE_ID_OCTETS : goal.returns-then-len-lt-TEMPLATE_ID_OCTETS
returns-then-len-lt-TEMPLATE_ID_OCTETS c =
    let s = c.args.b.now in
    take_rest s (length s) ∙ drop_of_length-le s {i = length s} (omega arith) ∙ sym (drop_of_length-le s {i = 2} (omega arith))

pub returns : goal.returns
returns c = take_rest c.args.b.now 2
