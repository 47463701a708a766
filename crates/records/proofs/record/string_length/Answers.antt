-- `string_length` meets its contract: a string is a blob whose octets pass the test.
use mathlib.Core.Path.{sym, ◌∙◌}
use native.Mathlib.Omega.{arith}
use Prim.Native.Nat.{◌<◌}
use Rattle.octets.specs.Each.{every}
use Rattle.records.specs.Record.{blob_length, string_length}
use Rattle.records.proofs.FieldsWithin.{blob_within, blob_counts}
use Rattle.records.proofs.record.string_length.Goals as goal

pub returns-then-n-eq0 : goal.returns-then-n-eq0
unfolding string_length every
returns-then-n-eq0 c = rw (← c.blob_length-n.ensures, c.if-n-eq0.true)

pub overflow_add-at : goal.overflow_add-at
overflow_add-at c =
    let a = c.args in
    let h : 0 < blob_length a.order a.r.now a.at = omega arith in
    omega (arith, blob_within a.order a.r.now a.at, blob_counts a.order a.r.now a.at h)

pub overflow_sub-n : goal.overflow_sub-n
overflow_sub-n c =
    let a = c.args in
    let h : 0 < blob_length a.order a.r.now a.at = omega arith in
    omega (arith, blob_within a.order a.r.now a.at, blob_counts a.order a.r.now a.at h)

pub all_ascii-requires : goal.all_ascii-requires
all_ascii-requires c =
    let a = c.args in
    let h : 0 < blob_length a.order a.r.now a.at = omega arith in
    omega (arith, blob_within a.order a.r.now a.at, blob_counts a.order a.r.now a.at h)

pub returns-then-all_ascii : goal.returns-then-all_ascii
unfolding string_length
returns-then-all_ascii c = rw (← c.blob_length-n.ensures, sym c.all_ascii.ensures ∙ c.if-all_ascii.true)

pub returns : goal.returns
unfolding string_length
returns c = rw (← c.blob_length-n.ensures, sym c.all_ascii.ensures ∙ c.if-all_ascii.false)
