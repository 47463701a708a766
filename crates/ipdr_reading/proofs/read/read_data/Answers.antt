-- `read_data` meets its contract: a record behind its length ends the message, or it is refused.
use mathlib.Core.Path.{refl}
use Rattle.ipdr.specs.Messages.{data_number, is_message, widths_of, is_counted, read_body}
use Rattle.ipdr.proofs.Messages.{judged_counted}
use Rattle.ipdr_reading.proofs.read.read_data.Goals as goal

pub returns-then-not-counted_fits : goal.returns-then-not-counted_fits
unfolding is_message widths_of is_counted read_body
returns-then-not-counted_fits c =
    rw (← judged_counted data_number c.args.message.now _ refl refl, ← c.counted_fits.ensures, c.if-not-counted_fits.true)

pub returns : goal.returns
unfolding is_message widths_of is_counted read_body
returns c =
    rw (
      ← judged_counted data_number c.args.message.now _ refl refl,
      ← c.counted_fits.ensures,
      c.if-not-counted_fits.false,
      ← c.get.ensures,
      ← c.data_of.ensures,
    )
