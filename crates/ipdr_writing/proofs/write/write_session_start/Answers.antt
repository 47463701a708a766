-- `write_session_start` meets its contract: header and fields are put one behind the other.
use mathlib.Core.Path.{refl, ◌∙◌}
use mathlib.Core.List.{[], ◌∷◌}
use native.Mathlib.Omega.{arith}
use Rattle.ipdr.specs.Messages.{session_start, session_start_values, numbers, widths_of, is_counted}
use Rattle.ipdr.proofs.Messages.{octet_from, bare_short, bare_done}
use Rattle.ipdr_writing.proofs.write.write_session_start.Goals as goal

pub returns-then-out-lt-SESSION_START_OCTETS : goal.returns-then-out-lt-SESSION_START_OCTETS
unfolding widths_of is_counted
returns-then-out-lt-SESSION_START_OCTETS c =
    let a = c.args in
    λ part. bare_short (numbers session_start a.session (session_start_values a.fields)) part _
    (4 ∷ 8 ∷ 8 ∷ 1 ∷ 4 ∷ 4 ∷ 8 ∷ 8 ∷ []) refl refl c.if-out-lt-SESSION_START_OCTETS.true

pub returns : goal.returns
unfolding widths_of is_counted
returns c =
    let a = c.args in
    λ part.
    bare_done (numbers session_start a.session (session_start_values a.fields)) part a.out.now
    (4 ∷ 8 ∷ 8 ∷ 1 ∷ 4 ∷ 4 ∷ 8 ∷ 8 ∷ []) refl refl _ _ (omega arith)
    c.put_header.ensures
    (rw (
      ← c.put.ensures,
      ← c.put-2.ensures,
      ← c.put-3.ensures,
      ← (c.from.ensures ∙ octet_from a.fields.primary),
      ← c.put-4.ensures,
      ← c.put-5.ensures,
      ← c.put-6.ensures,
      ← c.put-7.ensures,
      ← c.put-8.ensures,
    ))
