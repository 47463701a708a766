-- `read_final_tmpl_data_ack` meets its contract: where the length fits, the octet behind the header is the Configuration ID.
use borrow.Author.Tests.{eq-eqb}
use Rattle.octets.proofs.Numbers.{uint_one}
use Rattle.reading.proofs.read.read_final_tmpl_data_ack.Goals as goal

pub returns : goal.returns
returns c =
    let m = c.args.message.now in
    rw (eq-eqb _ _ c.if-message-ne-FINAL_TMPL_DATA_ACK_OCTETS.false, uint_one m 2, uint_one m 8)
