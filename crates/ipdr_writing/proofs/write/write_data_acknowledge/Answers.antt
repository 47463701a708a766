-- `write_data_acknowledge` meets its contract: header and fields are put one behind the other.
use mathlib.Core.Path.{refl, ap, ◌∙◌}
use mathlib.Core.List.{List, [], ◌∷◌}
use Prim.Native.Nat.{ℕ}
use Rattle.octets.specs.Numbers.{octets_of, put_at}
use Rattle.ipdr.specs.Messages.{data_acknowledge, numbers, widths_of, is_counted}
use Rattle.ipdr.proofs.Messages.{bare_short, bare_done}
use Rattle.ipdr_writing.proofs.write.write_data_acknowledge.Goals as goal

pub returns-then-out-lt-DATA_ACKNOWLEDGE_OCTETS : goal.returns-then-out-lt-DATA_ACKNOWLEDGE_OCTETS
unfolding widths_of is_counted
returns-then-out-lt-DATA_ACKNOWLEDGE_OCTETS c =
    let a = c.args in
    λ part. bare_short (numbers data_acknowledge a.session (a.config_id ∷ a.sequence_num ∷ [])) part _
    (2 ∷ 8 ∷ []) refl refl c.if-out-lt-DATA_ACKNOWLEDGE_OCTETS.true

pub returns : goal.returns
unfolding widths_of is_counted
returns c =
    let a = c.args in
    λ part.
    bare_done (numbers data_acknowledge a.session (a.config_id ∷ a.sequence_num ∷ [])) part a.out.now
    (2 ∷ 8 ∷ []) refl refl _ _ c.if-out-lt-DATA_ACKNOWLEDGE_OCTETS.false
    c.put_header.ensures
    (c.put-2.ensures ∙ ap (λ (o : List ℕ). put_at o 10 (octets_of 8 a.sequence_num)) c.put.ensures)
