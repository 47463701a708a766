-- S on records that are sent again. The rule holds since no call but a DATA ACK changes whether S is due before the choice is made anew,
-- and a DATA ACK leaves the choice; the examples hold by computing their calls.
use mathlib.Core.Path.{◌≡◌, refl, sym, ◌∙◌}
use mathlib.Core.Bool.{Bool, true, false, true≢false}
use mathlib.Core.List.{List}
use Prim.Native.Nat.{ℕ, ◌≤◌}
use native.Mathlib.Decide.{ℕ_discrete}
use native.Mathlib.Omega.{arith}
use Rattle.octets.specs.Answers.{done}
use Rattle.octets.specs.Numbers.{number_of, uint_in, octets_in}
use Rattle.octets.specs.Each.{every, first_from}
use Rattle.wire.specs.FieldTypes.{is_type, width_of}
use Rattle.wire.specs.Messages.{is_message, body_fits, message_of, layout_of, meaning_of}
use Rattle.wire.specs.Table.{key_sound, block_end, head_sound, padding_sound, block_sound, block_at, table_sound, template_index, template_at}
use Rattle.wire.specs.Record.{fixed_length, field_length, field_at, record_valid}
use Rattle.wire.specs.Replies.{Encoding}
use Rattle.session.specs.Servers.{same_active, choose, chosen, changed, settle, transition, other_agreed, expired, ticked, sent_one}
use Rattle.session.specs.Servers.{acknowledged}
use Rattle.session.specs.Queue.{sum_of, ring_read, ring_write, record_at, has, has_other, pushed, drop_front, marked}
use Rattle.session.specs.Sound.{settings_sound, numbers_sound, sound}
use Rattle.session.specs.Steps.{ack_count, Call, put, next_data, tick, ack, move, head_of, written, checks, answer, after}
use Rattle.session.specs.Steps.{settled, store_after, step, fresh, set_up}
use Rattle.session.specs.History.{dsn_of, place_of, delivery_after, ledger_after, after_accepted, after_call, fresh_history, any_writing}
use Rattle.session.specs.Claim.{advance, begin}
use Rattle.session.specs.Counters.{Released}
use Rattle.session.specs.Resends.{DueRules, DueRule, answers_from, marks_from, marks_due, ResendExamples}
use Rattle.session.specs.declared.state.State.{State}
use Rattle.session.proofs.SoundFacts.{sound_facts, active_same}
use Rattle.session.proofs.SoundKept.{tick_calm}
use Rattle.session.proofs.StepLaws.{step_done, step_refused, step_answer_lem}
use Rattle.session.proofs.Counters.{found_sound, ack_held, counter_rule}

-- ---- the rule

-- the choice is made anew in a state t with the choice of s, no fewer records, and S due as in s
settled_due : (s t : State) → t.delivery.active ≡ s.delivery.active → s.queue.count ≤ t.queue.count → t.due ≡ s.due
    → DueRules s (settled t)
unfolding settled settle changed
settled_due s t same more kept = go (same_active (chosen t.settings t.delivery) t.delivery.active) refl
  where
    go : (b : Bool) → same_active (chosen t.settings t.delivery) t.delivery.active ≡ b → DueRules s (settled t)
    go true e =
        rw e
        (record {
          begins = λ other. absurd (other same);
          releases = λ fewer. let z : ⊥ = omega arith in absurd z;
          stays = λ x y. kept;
        })
    go false e =
        rw e
        (record {
          begins = λ other. refl;
          releases = λ fewer. let z : ⊥ = omega arith in absurd z;
          stays = λ x y. absurd (true≢false (sym (active_same s.delivery.active) ∙ (rw (same, x) at e)));
        })

-- a call that changes nothing
same_due : (s : State) → DueRules s s
same_due s =
    record {
      begins = λ other. absurd (other refl);
      releases = λ fewer. let z : ⊥ = omega arith in absurd z;
      stays = λ x y. refl;
    }

-- a DATA ACK of n records, no more than are held
acked_due : (n : ℕ) (s left : State) → n ≤ s.queue.count → Released n s left → DueRules s left
acked_due n s left held r =
    record {
      begins = λ other. absurd (other r.same.active);
      releases = λ fewer. r.due (omega (arith, r.count));
      stays = λ x y. r.due_stays (omega (arith, r.count));
    }

-- an accepted call
accepted_due : (enc : Encoding) (room : ℕ) (c : Call) (s : State) (store : List ℕ) → answer enc room c s store ≡ done
    → DueRules s (settled (after enc.width c s))
unfolding after pushed sent_one marked
accepted_due enc room (put table id r) s store e = settled_due s (after enc.width (put table id r) s) refl (omega arith) refl
accepted_due enc room next_data s store e = settled_due s (after enc.width next_data s) refl (omega arith) refl
accepted_due enc room tick s store e =
    let f = sound_facts s (found_sound enc room tick s store (step_answer_lem enc room tick s store ∙ e)) in
    let calm = tick_calm s.settings s.delivery f.numbers.settings.some_duration in
    settled_due s (after enc.width tick s) calm.active (omega arith) refl
accepted_due enc room (ack v dsn config) s store e =
    let c = ack v dsn config in
    let told = step_answer_lem enc room c s store ∙ e in
    acked_due (ack_count enc.width s dsn) s (settled (after enc.width c s)) (ack_held enc room v dsn config s store e).0
    (rw (step_done enc room c s store e) at ((counter_rule enc s).data_ack room v dsn config store told))
accepted_due enc room (move v m) s store e = settled_due s (after enc.width (move v m) s) refl (omega arith) refl

pub due_rule : DueRule
due_rule enc room c s store = go (ℕ_discrete (answer enc room c s store) done)
  where
    go : Dec (answer enc room c s store ≡ done) → DueRules s (step enc room c s store).state
    go (yes e) = rw (step_done enc room c s store e) (accepted_due enc room c s store e)
    go (no n) = rw (step_refused enc room c s store (answer enc room c s store) n refl) (same_due s)

-- ---- the examples

pub resend_examples : ResendExamples
unfolding number_of uint_in octets_in every first_from is_type width_of is_message body_fits message_of layout_of meaning_of key_sound block_end
    head_sound padding_sound block_sound block_at table_sound template_index template_at fixed_length field_length field_at record_valid choose changed
    settle transition other_agreed expired ticked sent_one acknowledged sum_of ring_read ring_write record_at has has_other pushed drop_front marked
    settings_sound numbers_sound sound ack_count head_of written checks answer after settled store_after step fresh set_up dsn_of place_of
    delivery_after ledger_after after_accepted after_call fresh_history any_writing advance begin answers_from marks_from marks_due
resend_examples =
    record {
      resends = (refl, (refl, (refl, (refl, (refl, (refl, tt))))));
      beginnings = (refl, (refl, (refl, (refl, (refl, (refl, (refl, (refl, (refl, tt)))))))));
    }
