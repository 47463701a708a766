-- Laws of the calls of a tape: what a call's contract says of an event, one event more, and a batch among the calls.
use mathlib.Core.Path.{◌≡◌, refl}
use mathlib.Core.List.{List}
use Prim.Native.Nat.{ℕ, suc, ◌+◌, ◌-◌, ◌≤◌, max}
use native.Mathlib.Omega.{arith}
use lib.ListN.{length, take}
use Rattle.std.specs.Prelude.{Result, Ok, Err}
use Rattle.octets.specs.Answers.{answer_number}
use Rattle.numbers.specs.declared.refusal.Refusal.{Refusal}
use Rattle.batches.specs.Batches.{BatchOutcome, batch, batch_of, output_after_batch}
use Rattle.session.specs.declared.state.Batch.{Batch}
use Rattle.events.specs.declared.Left.{Left}
use Rattle.session.specs.declared.state.State.{State}
use Rattle.contents.specs.Tape.{kind_at, server_at, body_of}
use Rattle.events.specs.Events.{set_up_by, event_call, Called, settled}
use Rattle.batch_exports.specs.Calls.{Progress, progress, uncalled, after, played, played_to, Given, first_call, reached, followed}
use Rattle.batch_exports.specs.Calls.{end_of, asked, HandedBack}

-- what is read from the tape is what the event has
pub called_at : (t : List ℕ) (i : ℕ) (s : State) (store out table b : List ℕ) (kind server : ℕ) (w : Left) (store_after out_after : List ℕ)
    → table ≡ body_of t 1 → b ≡ body_of t i → kind ≡ kind_at t i → server ≡ server_at t i
    → Called table s store out (event_call kind server b out) w store_after out_after
    → Called (body_of t 1) s store out (event_call (kind_at t i) (server_at t i) (body_of t i) out) w store_after out_after
called_at t i s store out table b kind server w store_after out_after et eb ek es called = rw (et, eb, ek, es) at called

-- one event more
pub played_more : (t : List ℕ) (first i : ℕ) (p q : Progress) (w : Left) (store out : List ℕ) → first ≤ i
    → q ≡ played t first (i - first) p
    → Called (body_of t 1) q.last.state q.store q.out (event_call (kind_at t i) (server_at t i) (body_of t i) q.out) w store out
    → progress w store out ≡ played t first (i + 1 - first) p
unfolding played after
played_more t first i p q w store out h here called =
    let e : i + 1 - first ≡ suc (i - first) = omega arith in
    let f : first + (i - first) ≡ i = omega arith in
    rw (e, f, ← here, called.0, called.1.0, called.1.1) refl

-- the same of a call that changes the state where it lies
pub played_in_place : (t : List ℕ) (first i : ℕ) (p : Progress) (s : State) (last : Result ℕ Refusal) (store_then out_then : List ℕ)
    (w : Left) (store out : List ℕ) → first ≤ i → progress (settled s last) store_then out_then ≡ played t first (i - first) p
    → Called (body_of t 1) s store_then out_then (event_call (kind_at t i) (server_at t i) (body_of t i) out_then) w store out
    → progress w store out ≡ played t first (i + 1 - first) p
played_in_place t first i p s (Ok n) store_then out_then w store out h here called =
    played_more t first i p (progress (settled s (Ok n)) store_then out_then) w store out h here called
played_in_place t first i p s (Err r) store_then out_then w store out h here called =
    played_more t first i p (progress (settled s (Err r)) store_then out_then) w store out h here called

-- what set-up, the calls, the batch and the calls after it leave is what the definition has at the end
pub handed_back : (g : Given) (part : ℕ) (store out messages b : List ℕ) (fresh : State) (before : Left) (store_then out_then : List ℕ)
    (x : Batch) (first : ℕ) (last : Left) (store_after out_after messages_after : List ℕ) (n : ℕ)
    → b ≡ body_of g.tape 0 → fresh ≡ (set_up_by b (length store)).state
    → progress before store_then out_then ≡ played_to g.tape first_call g.place (progress (uncalled fresh) store out)
    → let o = batch g.number (length messages) before.state (take g.lent store_then) in
    (x ≡ batch_of o) × ((answer_number x.answer ≡ o.answer) × (messages_after ≡ output_after_batch messages o))
    → first ≡ max g.place first_call
    → progress last store_after out_after ≡ played_to g.tape first g.end (progress (uncalled x.state) store_then out_then)
    → n ≡ asked part (answer_number x.answer) x last
    → HandedBack (end_of g store out (length messages)) part messages n store_after out_after messages_after
handed_back g part store out messages b fresh before store_then out_then x first last store_after out_after messages_after n f m p₁ e k p₂ q =
    let o : BatchOutcome = batch g.number (length messages) before.state (take g.lent store_then) in
    let p : Progress = progress before store_then out_then in
    let here : p ≡ reached g store out = rw (m, f) at p₁ in
    let end : progress last store_after out_after ≡ followed g o p = rw (k, e.0) at p₂ in
    rw (← here, ← end) (record { answered = rw (q, e.1.0, e.0) refl; stored = refl; written = refl; batched = e.1.1 })

-- the same where the calls before the batch changed the state where it lay
pub handed_in_place : (g : Given) (part : ℕ) (store out messages b : List ℕ) (fresh s : State) (before : Result ℕ Refusal)
    (store_then out_then : List ℕ) (x : Batch) (first : ℕ) (last : Left) (store_after out_after messages_after : List ℕ) (n : ℕ)
    → b ≡ body_of g.tape 0 → fresh ≡ (set_up_by b (length store)).state
    → progress (settled s before) store_then out_then ≡ played_to g.tape first_call g.place (progress (uncalled fresh) store out)
    → let o = batch g.number (length messages) s (take g.lent store_then) in
    (x ≡ batch_of o) × ((answer_number x.answer ≡ o.answer) × (messages_after ≡ output_after_batch messages o))
    → first ≡ max g.place first_call
    → progress last store_after out_after ≡ played_to g.tape first g.end (progress (uncalled x.state) store_then out_then)
    → n ≡ asked part (answer_number x.answer) x last
    → HandedBack (end_of g store out (length messages)) part messages n store_after out_after messages_after
handed_in_place g part store out messages b fresh s (Ok k) =
    handed_back g part store out messages b fresh (settled s (Ok k))
handed_in_place g part store out messages b fresh s (Err r) =
    handed_back g part store out messages b fresh (settled s (Err r))
