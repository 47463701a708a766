-- `write_refused` meets its contract: the characters are the line's, stored where there is room for them.
use mathlib.Core.Path.{refl, ◌∙◌}
use native.Mathlib.Omega.{arith}
use lib.ListN.{length}
use Rattle.octets.proofs.Stores.{put_fits}
use Rattle.lines.specs.Lines.{tape_refused}
use Rattle.lines.proofs.Lines.{whole_printed}
use Rattle.lines.proofs.write_refused.Goals as goal

pub returns : goal.returns
returns c =
    let a = c.args in
    whole_printed a.text.now tape_refused (length tape_refused) _ _ (omega arith)
    (refl, c.copy.ensures ∙ put_fits _ _ _ (omega arith))
