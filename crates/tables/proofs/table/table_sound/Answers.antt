-- `table_sound` meets its contract: size, flags and count are tested in the definition's order, so the first that fails decides; then
-- `blocks_sound` gives the last three clauses at once.
use mathlib.Core.Path.{sym, ◌∙◌}
use native.Mathlib.Omega.{arith}
use Prim.Native.Nat.{◌≤◌, ◌<◌}
use borrow.Author.Tests.{le-leb, lt-leb}
use Rattle.tables.specs.Table.{max_table_octets, template_count, table_sound}
use Rattle.tables.proofs.table.table_sound.Goals as goal

pub returns-then-t-gt-MAX_TABLE_OCTETS : goal.returns-then-t-gt-MAX_TABLE_OCTETS
unfolding table_sound
returns-then-t-gt-MAX_TABLE_OCTETS c = rw (lt-leb _ max_table_octets c.if-t-gt-MAX_TABLE_OCTETS.true)

pub returns-then-not-flags_sound : goal.returns-then-not-flags_sound
unfolding table_sound
returns-then-not-flags_sound c =
    rw (
      le-leb _ max_table_octets c.if-t-gt-MAX_TABLE_OCTETS.false,
      ← c.get.ensures,
      sym c.flags_sound.ensures ∙ c.if-not-flags_sound.true,
    )

pub returns-then-count-lt1 : goal.returns-then-count-lt1
unfolding table_sound
returns-then-count-lt1 c =
    let h : template_count c.args.t.now < 1 = omega arith in
    rw (
      le-leb _ max_table_octets c.if-t-gt-MAX_TABLE_OCTETS.false,
      ← c.get.ensures,
      sym c.flags_sound.ensures ∙ c.if-not-flags_sound.false,
      lt-leb 1 _ h,
    )

pub returns-then-count-gt-MAX_TEMPLATES : goal.returns-then-count-gt-MAX_TEMPLATES
unfolding table_sound
returns-then-count-gt-MAX_TEMPLATES c =
    let n = template_count c.args.t.now in
    let h : 1 ≤ n = omega arith in
    let m : 8 < n = omega arith in
    rw (
      le-leb _ max_table_octets c.if-t-gt-MAX_TABLE_OCTETS.false,
      ← c.get.ensures,
      sym c.flags_sound.ensures ∙ c.if-not-flags_sound.false,
      le-leb 1 _ h,
      lt-leb _ 8 m,
    )

pub returns : goal.returns
unfolding table_sound
returns c =
    let n = template_count c.args.t.now in
    let h : 1 ≤ n = omega arith in
    let m : n ≤ 8 = omega arith in
    rw (
      le-leb _ max_table_octets c.if-t-gt-MAX_TABLE_OCTETS.false,
      ← c.get.ensures,
      sym c.flags_sound.ensures ∙ c.if-not-flags_sound.false,
      le-leb 1 _ h,
      le-leb _ 8 m,
    )
    (rw c.get-count.ensures at c.blocks_sound.ensures)
