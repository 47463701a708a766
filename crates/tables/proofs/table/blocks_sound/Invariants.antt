-- `blocks_sound` meets its contract. The loop's invariant: the walk stands at block i, the blocks passed are sound and have different IDs.
use mathlib.Core.Path.{◌≡◌}
use mathlib.Core.Bool.{true}
use Rattle.tables.specs.Table.{block_at, blocks_sound, templates_differ}
use Rattle.tables.proofs.table.blocks_sound.Given as goal

abbrev pub invariant-loop-i : goal.invariant-loop-i
invariant-loop-i l = (l.at ≡ block_at l.t l.i) × ((blocks_sound l.t l.i ≡ true) × (templates_differ l.t l.i ≡ true))
