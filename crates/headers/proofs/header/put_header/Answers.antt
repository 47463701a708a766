-- `put_header` meets its contract: eight octets do not fit a shorter output; else four octets are stored, and behind them the length,
-- which has room.
use mathlib.Core.Path.{sym, ◌∙◌}
use native.Mathlib.Omega.{arith}
use lib.ListN.{length-set}
use Rattle.octets.proofs.Stores.{put_fits, put_short}
use Rattle.octets.proofs.Numbers.{octets_length}
use Rattle.octets.specs.Numbers.{octets_in, octets_of}
use Rattle.headers.specs.Headers.{header_for}
use Rattle.headers.proofs.header.put_header.Goals as goal

pub returns-then-out-lt-HEADER_OCTETS : goal.returns-then-out-lt-HEADER_OCTETS
unfolding octets_in
returns-then-out-lt-HEADER_OCTETS c =
    let a = c.args in
    sym (put_short a.out.now 0 (header_for a.version a.number a.session a.len) c.if-out-lt-HEADER_OCTETS.true)

pub returns : goal.returns
returns c =
    let a = c.args in
    let v = a.len in
    c.put.ensures
    ∙ put_fits _ 4 (octets_of 4 v) (simp length-set (omega (arith, octets_length 4 v)))
    ∙ sym (put_fits a.out.now 0 (header_for a.version a.number a.session v) (omega (arith, octets_length 4 v)))
