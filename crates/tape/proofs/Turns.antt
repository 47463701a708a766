-- Laws of turns: what a call writes fits the output, and what opening, a table and a call give is what the definitions say. The functions'
-- proofs hand over the facts that they have, in the order of the code.
use mathlib.Core.Path.{◌≡◌, refl, sym, ap, ◌∙◌}
use mathlib.Core.Bool.{true, false, cond, ◌&&◌, false≢true}
use mathlib.Core.List.{List, []}
use Prim.Native.Nat.{ℕ, ◌-◌, ◌≤◌}
use native.Mathlib.Nat.{le_refl, le_trans}
use native.Mathlib.Omega.{arith}
use borrow.Author.Tests.{eq-eqb, ne_eqb}
use lib.Dec.{eqb}
use lib.ListN.{length, take, length-take}
use lib.Seq.{sets, sets-eq, take-append_seam}
use Rattle.octets.specs.Answers.{done}
use Rattle.std.specs.Prelude.{Result, Ok, Err, is_err}
use Rattle.std.specs.Result.{result_unwrap_or}
use Rattle.octets.specs.Answers.{Answered, answer_number}
use Rattle.numbers.specs.declared.refusal.Refusal.{Refusal}
use Rattle.session.specs.Steps.{Outcome, octets_written, made_of, refused_state, output_after}
use Rattle.session.proofs.StepLaws.{refused_number, judged_refusal}
use Rattle.exporter.proofs.Drivers.{made_left}
use Rattle.session.proofs.Written.{octets_fit_lem}
use Rattle.session.specs.InOctets.{Event, Put, NextData, Receive, OfferTemplates, LineDown, Tick, room_of}
use Rattle.session.specs.declared.state.State.{State}
use Rattle.contents.specs.Tape.{event_count, kind_at, server_at, body_length, body_at, octets_at, body_of, tape_sound}
use Rattle.lines.specs.Lines.{line_of, tape_refused, line_octets}
use Rattle.tape.specs.Replay.{output_buffer_octets, output_buffer, tape_settings}
use Rattle.events.specs.Events.{set_up_by, table_answer, event_call}
use Rattle.tape.specs.Turns.{opened, index_of, next_body, next_end, table_turn, next_call, call_turn, played, CallReady, Lined}
use Rattle.tape.specs.Turns.{Turned}
use Rattle.events.specs.Events.{effect, left_of, Gives, Called}
use Rattle.events.specs.declared.Left.{Left}
use Rattle.tape.specs.declared.replay.Progress.{Progress}
use Rattle.tape.specs.declared.replay.Turn.{Turn}
use Rattle.events.proofs.Events.{by_kind, same_call, set_up_by_refused}

-- ---- what a call writes fits

pub effect_fits : (s : State) (store : List ℕ) (e : Event) → length (octets_written (effect s store e)) ≤ room_of e
effect_fits s store (Put table id r) = octets_fit_lem _ _ _ _
effect_fits s store (NextData out) = octets_fit_lem _ _ _ _
effect_fits s store (Receive v m out) = octets_fit_lem _ _ _ _
effect_fits s store (OfferTemplates v table out) = octets_fit_lem _ _ _ _
effect_fits s store (LineDown v) = octets_fit_lem _ _ _ _
effect_fits s store Tick = octets_fit_lem _ _ _ _

-- the call of an event is lent no more than the output
pub call_room : (kind server : ℕ) (b out table : List ℕ) → room_of (event_call kind server b out table) ≤ length out
call_room kind server b out table =
    by_kind (λ (e f : Event). room_of e ≤ length out) kind server b out out table (omega arith) (le_refl _) (omega arith) (omega arith)
    (le_refl _) (le_refl _)

-- what a call says that it wrote fits the output
pub called_fits : (table : List ℕ) (s : State) (store out : List ℕ) (kind server : ℕ) (b : List ℕ) (w : Left)
    (store_after out_after : List ℕ)
    → Called table s store out (event_call kind server b out) w store_after out_after → w.written ≤ length out
called_fits table s store out kind server b w store_after out_after called =
    rw called.0 (le_trans (effect_fits s store (event_call kind server b out table)) (call_room kind server b out table))

-- a line of it fits the text
pub line_fits : (n : ℕ) (o out text : List ℕ) → n ≤ length out → line_octets (length out) ≤ length text
    → line_octets (length (take n o)) ≤ length text
line_fits n o out text h k = omega (arith, length-take n o)

-- what was stored from the first octet on is what is taken there
pub take_sets : (out vs : List ℕ) → length vs ≤ length out → take (length vs) (sets out 0 vs) ≡ vs
take_sets out vs h = ap (take (length vs)) (sets-eq vs out 0 (omega arith)) ∙ take-append_seam vs _

-- what a call wrote is what stands in the output
pub call_wrote : (o : Outcome) (w : Left) (out out_after : List ℕ) → length (octets_written o) ≤ length out → w ≡ left_of o
    → out_after ≡ output_after out o → take w.written out_after ≡ octets_written o
call_wrote o w out out_after h e f = rw (e, f) (take_sets out (octets_written o) h)

-- ---- turns

pub open_turn : (t store : List ℕ) (state : State) (answer at left : ℕ) (line text : List ℕ) (len : ℕ) (text_after : List ℕ)
    → state ≡ (set_up_by (body_of t 0) (length store)).state → answer ≡ (set_up_by (body_of t 0) (length store)).answer → at ≡ body_at t 1
    → line ≡ cond (tape_sound t) (line_of 0 answer []) tape_refused
    → left ≡ cond (tape_sound t && eqb answer done) (event_count t - 1) 0
    → len ≡ length line → text_after ≡ sets text 0 line
    → Lined (opened t store) text (record { len = len; progress = record { state = state; left = left; at = at } }) text_after
unfolding opened
open_turn t store state answer at left line text len text_after s n f g h k l = rw (l, k, h, g, f, n, s) (refl, refl)

-- the state after set-up, or the refused one, is what the settings of event 0 leave
pub opened_left : (b : List ℕ) (room : ℕ) (x : Result State Refusal)
    → Answered answer_number x (made_of (set_up_by b room)) (set_up_by b room).answer
    → result_unwrap_or x refused_state ≡ (set_up_by b room).state
opened_left b room x a = made_left (set_up_by b room) x (set_up_by_refused b room) a

pub opened_state : (t b : List ℕ) (room : ℕ) (made : Result State Refusal) (refused state : State) → b ≡ body_of t 0
    → Answered answer_number made (made_of (set_up_by b room)) (set_up_by b room).answer → refused ≡ refused_state
    → state ≡ result_unwrap_or made refused → state ≡ (set_up_by (body_of t 0) room).state
opened_state t b room made refused state e a r s = rw (s, r, ← e) (opened_left b room made a)

-- the number of what is answered: 0 beside a value, and never beside a refusal
pub ok_number : {A : Type 0} {x : Result A Refusal} {n : ℕ} {v : A} → answer_number x ≡ n → x ≡ Ok v → n ≡ done
ok_number a e = sym a ∙ ap answer_number e

pub err_number : {A : Type 0} {x : Result A Refusal} {n : ℕ} {refusal : Refusal} → answer_number x ≡ n → x ≡ Err refusal → n ≡ done → ⊥
err_number {refusal = refusal} a e z = refused_number (tt {0}) (judged_refusal (tt {0}) refusal) (ap answer_number (sym e) ∙ a ∙ z)

-- whether it is a refusal says whether it is done
pub is_ok_number : {A : Type 0} {n : ℕ} (x : Result A Refusal) → answer_number x ≡ n → is_err x ≡ false → n ≡ done
is_ok_number (Ok v) a e = sym a
is_ok_number (Err refusal) a e = absurd (false≢true (sym e))

pub is_err_number : {A : Type 0} {n : ℕ} (x : Result A Refusal) → answer_number x ≡ n → is_err x ≡ true → n ≡ done → ⊥
is_err_number (Ok v) a e = absurd (false≢true e)
is_err_number {A = A} (Err refusal) a e = err_number {A = A} {x = Err refusal} {refusal = refusal} a refl

pub table_turn_lem : (t : List ℕ) (r : Progress) (answer at left : ℕ) (text : List ℕ) (len : ℕ) (text_after : List ℕ)
    → at ≡ next_end t r → answer ≡ table_answer (tape_settings t) (body_of t 1) → left ≡ cond (eqb answer done) (r.left - 1) 0
    → len ≡ length (line_of 1 answer []) → text_after ≡ sets text 0 (line_of 1 answer [])
    → Lined (table_turn t r []) text (record { len = len; progress = record { state = r.state; left = left; at = at } }) text_after
table_turn_lem t r answer at left text len text_after f g h k l = rw (l, k, h, g, f) (refl, refl)

pub call_turn_lem : (t : List ℕ) (r : Progress) (store out text : List ℕ) (i kind server : ℕ) (b table : List ℕ) (w : Left)
    (store_after out_after text_after : List ℕ) (len at : ℕ)
    → CallReady t r i b at out text → table ≡ body_of t 1 → kind ≡ kind_at t i → server ≡ server_at t i
    → Called table r.state store out (event_call kind server b out) w store_after out_after
    → len ≡ length (line_of i w.answer (take w.written out_after))
    → text_after ≡ sets text 0 (line_of i w.answer (take w.written out_after))
    → Turned (call_turn t r store) out text
    (record { len = len; progress = record { state = w.state; left = r.left - 1; at = at } }) store_after out_after text_after
call_turn_lem t r store out text i kind server b table w store_after out_after text_after len at ready et ek es called el ex =
    let e = next_call t r in
    let o = effect r.state store e in
    let buffer : length output_buffer ≡ output_buffer_octets = refl in
    let same = same_call table r.state store kind server b out output_buffer ready.lent in
    let f : Gives r.state store out (event_call kind server b output_buffer table) w store_after out_after =
    (called.0 ∙ ap left_of same.0, (called.1.0 ∙ same.1, called.1.1 ∙ ap (output_after out) same.0)) in
    let k : Gives r.state store out e w store_after out_after = rw (ek, es, ready.body, et, ready.place) at f in
    let n =
    le_trans (effect_fits r.state store e)
    (call_room (kind_at t (index_of t r)) (server_at t (index_of t r)) (next_body t r) output_buffer (body_of t 1)) in
    let q = call_wrote o w out out_after (omega (arith, n, ready.lent, buffer)) k.0 k.1.1 in
    (rw (el, q, ready.end, ready.body, ready.place, k.0) refl, (k.1.0, (k.1.1, rw (ex, q, ready.place, k.0) refl)))

-- ---- one event more

-- the part that is taken at the replay's place, of the length that the contents give, is the next body
pub next_part : (t : List ℕ) (r : Progress) (i n : ℕ) (b : List ℕ) → i ≡ index_of t r → n ≡ body_length t i → b ≡ octets_at t r.at n
    → b ≡ next_body t r
next_part t r i n b e f g = rw (g, f, e) refl

pub played_none : (t : List ℕ) (r : Progress) (store out text : List ℕ) → r.left ≡ 0
    → Turned (played t r store) out text (record { len = 0; progress = r }) store out text
unfolding played
played_none t r store out text e = rw (eq-eqb r.left 0 e) (refl, (refl, (refl, refl)))

pub played_table : (t : List ℕ) (r : Progress) (store out text : List ℕ) (i : ℕ) (turn : Turn) (text_after : List ℕ)
    → (r.left ≡ 0 → ⊥) → i ≡ index_of t r → i ≡ 1 → Lined (table_turn t r []) text turn text_after
    → Turned (played t r store) out text turn store out text_after
unfolding played
played_table t r store out text i turn text_after h e f g =
    rw (ne_eqb r.left 0 h, eq-eqb (index_of t r) 1 (sym e ∙ f)) (g.0, (refl, (refl, g.1)))

pub played_call : (t : List ℕ) (r : Progress) (store out text : List ℕ) (i : ℕ) (turn : Turn) (store_after out_after text_after : List ℕ)
    → (r.left ≡ 0 → ⊥) → i ≡ index_of t r → (i ≡ 1 → ⊥) → Turned (call_turn t r store) out text turn store_after out_after text_after
    → Turned (played t r store) out text turn store_after out_after text_after
unfolding played
played_call t r store out text i turn store_after out_after text_after h e f g =
    rw (ne_eqb r.left 0 h, ne_eqb (index_of t r) 1 (λ k. f (e ∙ k))) g
