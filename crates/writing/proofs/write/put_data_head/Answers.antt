-- `put_data_head` meets its contract: each field follows the one before it, from the header on.
use mathlib.Core.List.{[], ◌∷◌, ◌++◌}
use mathlib.Core.Path.{refl, ap, ◌∙◌}
use Prim.Native.Nat.{ℕ, ◌+◌}
use native.Mathlib.Omega.{arith}
use lib.Seq.{sets}
use Rattle.octets.specs.Numbers.{octets_in, octets_of}
use Rattle.messages.specs.Messages.{header_octets_of, data_number}
use Rattle.messages.proofs.Messages.{header_put}
use Rattle.octets.proofs.Stores.{put_then, sets_then}
use Rattle.writing.proofs.write.put_data_head.Goals as goal

pub returns : goal.returns
unfolding octets_in
returns c =
    let a = c.args in
    let h = a.head in
    let out = a.out.now in
    let header = header_octets_of data_number h.session (16 + a.len) in
    let front = header ++ octets_of 2 h.template in
    let marks = c.flags-marks in
    let tail = h.config ∷ marks.result ∷ [] in
    let first = (c.put_header.ensures ∙ header_put _ _ _ _ (omega arith)) in
    let second =
    c.put.ensures
    ∙ put_then out header (octets_of 2 h.template) _ 8 first refl (omega arith) in
    let third = sets_then out front tail _ 10 second refl in
    c.put-2.ensures
    ∙ put_then out (front ++ tail) (octets_of 4 h.dsn) _ 12 third refl (omega arith)
    ∙ ap (λ (k : ℕ). sets out 0 (front ++ (h.config ∷ k ∷ octets_of 4 h.dsn))) marks.ensures
