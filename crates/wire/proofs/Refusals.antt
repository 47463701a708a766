-- Refusals change nothing: each of the three calls is a choice, by its answer number, between a refusal and a store of octets with room.
use mathlib.Core.Path.{◌≡◌}
use mathlib.Core.Bool.{cond}
use mathlib.Core.List.{List}
use Prim.Native.Nat.{ℕ, ◌+◌, ◌≤◌}
use native.Mathlib.Omega.{arith}
use borrow.Author.Tests.{eq-eqb, ne_eqb, ltb-false}
use lib.Dec.{eqb}
use lib.ListN.{length}
use lib.Seq.{sets, sets-eq}
use Rattle.octets.specs.Answers.{done, judged, answer_number}
use Rattle.octets.specs.Numbers.{octets_in}
use Rattle.octets.proofs.Judging.{passed}
use Rattle.appending.specs.Append.{field_octets, append_answer, append_of, append_out}
use Rattle.appending.proofs.ReadBack.{append_answer_lem, append_done}
use Rattle.messages.specs.Messages.{layout_of, data_head_length, data_head_octets, write_answer, write_of, write_out}
use Rattle.messages.specs.Messages.{head_write_checks, head_write_answer, head_write_of, head_write_out}
use Rattle.messages.specs.declared.message.DataHead.{DataHead}
use Rattle.messages.proofs.RoundTrip.{written_number_lem, head_number, done_fits}
use Rattle.wire.specs.Refusals.{KeptOrWritten, WireRefusals}

-- the choice
kept_or_written : (number ok : ℕ) (at : ℕ) (octets out : List ℕ) → answer_number (judged number ok) ≡ number
    → (number ≡ done → at + length octets ≤ length out)
    → KeptOrWritten number ok (judged number ok) at octets out (cond (eqb number done) (sets out at octets) out)
unfolding judged
kept_or_written number ok at octets out numbered room =
    record {
      numbered = numbered;
      refused = λ h. (rw (ne_eqb number done h), rw (ne_eqb number done h));
      room = room;
      accepted = λ h. (rw (eq-eqb number done h), rw (eq-eqb number done h) (sets-eq octets out at (room h)));
    }

-- a head that is accepted has room, with the record behind it
head_fits : (h : DataHead) (n room : ℕ) → head_write_answer n room ≡ done → length (data_head_octets h n) ≤ room
unfolding head_write_answer octets_in
head_fits h n room e =
    let p = passed (head_write_checks n room) tt e in
    omega (arith, ltb-false room (data_head_length + n) p.1.0)

pub wire_refusals : WireRefusals
unfolding write_of write_out head_write_of head_write_out append_of append_out
wire_refusals =
    record {
      message = λ m part out.
          kept_or_written (write_answer m part (length out)) (length (layout_of m part)) 0 (layout_of m part) out (written_number_lem m part out)
          (λ e. omega (arith, done_fits m part out e));
      head = λ h n out.
          kept_or_written (head_write_answer n (length out)) (data_head_length + n) 0 (data_head_octets h n) out (head_number n (length out))
          (λ e. omega (arith, head_fits h n (length out) e));
      field = λ order type value octets out at.
          kept_or_written (append_answer order type value octets out at) (at + length (field_octets order type value octets)) at
          (field_octets order type value octets) out (append_answer_lem order type value octets out at)
          (λ e. (append_done order type value octets out at e).1);
    }
