-- IPDR/SP: what is written reads back as what was meant, and what reads without refusal is the layout of what it says (02, ask 1).
use mathlib.Core.Path.{◌≡◌, refl, sym, ap, ◌∙◌}
use mathlib.Core.Bool.{Bool, true, false, cond}
use mathlib.Core.List.{List, [], ◌++◌, append-nil, append_assoc}
use Prim.Native.Nat.{ℕ, zero, suc, ◌+◌, ◌^◌, ◌≤◌, ◌<◌}
use native.Mathlib.Omega.{arith}
use borrow.Author.Tests.{eqb-true, eq-eqb, ltb-false, le-ltb}
use lib.Dec.{eqb, ltb}
use lib.Seq.{sets}
use lib.ListN.{length, take, drop, length-append, drop_of_length-le}
use Rattle.std.specs.Prelude.{Result, Ok}
use Rattle.numbers.specs.declared.refusal.Refusal.{Refusal}
use Rattle.octets.specs.Answers.{done, judged, answer_number}
use Rattle.octets.specs.Numbers.{uint_at, octets_in, Octets}
use Rattle.octets.proofs.Stores.{output_begins}
use Rattle.headers.specs.Headers.{header_checks_for, header_octets, message_number, session_of, header_for, message_for}
use Rattle.headers.proofs.Headers as header
use Rattle.octets.proofs.Rows.{EachRow, none, ◌and◌, each_row}
use Rattle.ipdr.specs.declared.message.Content.{Content}
use Rattle.ipdr.specs.declared.message.Content.TheVariants as content
use Rattle.ipdr.specs.declared.message.Message.{Message}
use Rattle.ipdr.specs.Fields.{values_at, octets_by_widths, InWidths, counted_octets, counted_fits}
use Rattle.ipdr.specs.Messages.{Form, forms, protocol_version, is_message, widths_of, is_counted, fixed_octets, behind_length, octet_of}
use Rattle.ipdr.specs.Messages.{is_true, is_duplicate}
use Rattle.ipdr.specs.Messages.{flow_start, flow_stop, connect, connect_response, disconnect, session_start, session_stop, data_number}
use Rattle.ipdr.specs.Messages.{data_acknowledge, error_number, numbers_of, number_for, values_for, content_by, body_of, layout_by, layout_of}
use Rattle.ipdr.specs.Messages.{body_fits, read_answer, meaning_of, read_of, part_at, part_of, takes_part, max_part_octets, carried, carried_at}
use Rattle.ipdr.specs.Messages.{Writable, Plain, body_checks, write_checks, write_answer_by, write_by, write_out_by}
use Rattle.ipdr.specs.Messages.{write_answer, write_of, write_out}
use Rattle.octets.proofs.Judging.{passed, judged_done, judged_answered, judged_ok}
use Rattle.messages.proofs.Messages.{not_both}
use Rattle.ipdr.proofs.Fields.{fields_length, values_back, values_written, counted_length, counted_back}
use Rattle.ipdr.proofs.Fields.{counted_written, counted_fitting}
use Rattle.ipdr.proofs.Messages.{fields_small, Readable, readable, reads, part_counted, part_bare}

-- ---- what a message says, by its number and its values

true_back : (b : Bool) → is_true (octet_of b) ≡ b
true_back true = refl
true_back false = refl

duplicate_back : (b : Bool) → is_duplicate (octet_of b) ≡ b
duplicate_back true = refl
duplicate_back false = refl

true_written : (v : ℕ) → v < 2 → octet_of (is_true v) ≡ v
true_written zero h = refl
true_written (suc zero) h = refl
true_written (suc (suc v)) h = absurd (omega arith)

duplicate_written : (v : ℕ) → v < 2 → octet_of (is_duplicate v) ≡ v
duplicate_written zero h = refl
duplicate_written (suc zero) h = refl
duplicate_written (suc (suc v)) h = absurd (omega arith)

-- every content's number is a message's, and with its values says it
number_known : (c : Content) → is_message (number_for c) ≡ true
unfolding is_message
number_known content.FlowStart = refl
number_known (content.FlowStop reason) = refl
number_known (content.Connect c) = refl
number_known (content.ConnectResponse capabilities interval) = refl
number_known content.Disconnect = refl
number_known (content.SessionStart f) = refl
number_known (content.SessionStop reason) = refl
number_known (content.Data f) = refl
number_known (content.DataAcknowledge config sequence) = refl
number_known (content.Error time code) = refl

content_back : (c : Content) → content_by (number_for c) (values_for c) ≡ c
unfolding content_by
content_back content.FlowStart = refl
content_back (content.FlowStop reason) = refl
content_back (content.Connect c) = refl
content_back (content.ConnectResponse capabilities interval) = refl
content_back content.Disconnect = refl
content_back (content.SessionStart f) = rw (true_back f.primary)
content_back (content.SessionStop reason) = refl
content_back (content.Data f) = rw (duplicate_back f.duplicate)
content_back (content.DataAcknowledge config sequence) = refl
content_back (content.Error time code) = refl

-- what a message says has its number
number_said : (vs : List ℕ) (n : ℕ) → is_message n ≡ true → number_for (content_by n vs) ≡ n
unfolding is_message content_by
number_said vs n known = each_row (λ (f : Form). f.number) (λ k. n ≡ k → number_for (content_by k vs) ≡ k) forms rows n known refl
  where
    rows : EachRow (λ (f : Form). f.number) (λ f. n ≡ f.number → number_for (content_by f.number vs) ≡ f.number) forms
    rows =
        (λ (e : n ≡ flow_start). refl)
        and (λ (e : n ≡ flow_stop). refl)
        and (λ (e : n ≡ connect). refl)
        and (λ (e : n ≡ connect_response). refl)
        and (λ (e : n ≡ disconnect). refl)
        and (λ (e : n ≡ session_start). refl)
        and (λ (e : n ≡ session_stop). refl)
        and (λ (e : n ≡ data_number). refl)
        and (λ (e : n ≡ data_acknowledge). refl)
        and (λ (e : n ≡ error_number). refl)
        and none

-- so the part of a message that is read begins where what it says has it
pub part_at_lem : (m : List ℕ) (x : Message) → read_of m ≡ Ok x → part_at m ≡ carried_at x
unfolding judged read_of meaning_of part_at
part_at_lem m x e =
    let n = message_number m in
    let a : read_answer m ≡ done = judged_ok (read_answer m) (meaning_of m) e in
    let said = number_said (values_at m header_octets (widths_of n)) n (readable m a).known in
    let means : ◌≡◌ {A = Result Message Refusal} (judged done (meaning_of m)) (Ok x) = rw a at e in
    let same : meaning_of m ≡ x = cc in
    let at : part_at m ≡ cond (is_counted n) (behind_length n) 0 = rw a in
    at ∙ ap (λ (k : ℕ). cond (is_counted k) (behind_length k) 0) (sym said) ∙ ap carried_at same

-- ---- reading the octets of a layout

-- fields, and behind them a text or a record with its length, or nothing
tail_fits : (b : Bool) (front part : List ℕ) (at : ℕ) → length front ≡ at → (b ≡ true → length part ≤ max_part_octets)
    → cond b (counted_fits (front ++ cond b (counted_octets part) []) at) (eqb (length (front ++ cond b (counted_octets part) [])) at) ≡ true
tail_fits true front part at n short = (counted_back front part at n (omega (arith, short refl))).0
tail_fits false front part at n short = eq-eqb (length (front ++ [])) at (ap length (append-nil front) ∙ n)

tail_length : (b : Bool) (part : List ℕ) → (b ≡ true → length part ≤ max_part_octets) → length (cond b (counted_octets part) []) ≤ 1028
tail_length true part short = omega (arith, counted_length part, short refl)
tail_length false part short = omega arith

module _ (n s : ℕ) (vs part : List ℕ) (known : is_message n ≡ true) (fit : InWidths (widths_of n) vs)
    (short : is_counted n ≡ true → length part ≤ max_part_octets) where
  abbrev body : List ℕ
  body = body_of n vs part

  abbrev m : List ℕ
  m = message_for protocol_version n s body

  number : message_number m ≡ n
  number = header.number_of_lem protocol_version n s body

  body_small : header_octets + length body < 2 ^ 32
  unfolding body_of
  body_small =
      let fields = octets_by_widths (widths_of n) vs in
      let tail = cond (is_counted n) (counted_octets part) [] in
      omega (arith, length-append fields tail, fields_length (widths_of n) vs, fields_small n, tail_length (is_counted n) part short)

  -- header and fields, then what ends the message
  abbrev front : List ℕ
  front = header_for protocol_version n s (header_octets + length body) ++ octets_by_widths (widths_of n) vs

  split : m ≡ front ++ cond (is_counted n) (counted_octets part) []
  unfolding body_of
  split =
      let header = header_for protocol_version n s (header_octets + length body) in
      sym (append_assoc header (octets_by_widths (widths_of n) vs) (cond (is_counted n) (counted_octets part) []))

  front_length : length front ≡ fixed_octets n
  unfolding octets_in
  front_length = omega (arith, fields_length (widths_of n) vs)

  fits : body_fits n m ≡ true
  unfolding body_fits
  fits =
      ap (λ (x : List ℕ). cond (is_counted n) (counted_fits x (fixed_octets n)) (eqb (length x) (fixed_octets n))) split
      ∙ tail_fits (is_counted n) front part (fixed_octets n) front_length short

  answered : read_answer m ≡ done
  answered = reads m (header.header_right protocol_version n s body body_small) (rw number known) (rw number fits)

  values : values_at m header_octets (widths_of n) ≡ vs
  unfolding body_of octets_in
  values =
      let header = header_for protocol_version n s (header_octets + length body) in
      values_back (widths_of n) vs fit header (cond (is_counted n) (counted_octets part) []) 8 refl

  said : meaning_of m ≡ record { session = s; content = content_by n vs }
  unfolding meaning_of
  said = rw (number, values, header.session_of_lem protocol_version n s body)

  part_back : (b : Bool) → is_counted n ≡ b → (part_of m ≡ cond b part []) × (part_at m ≡ cond b (behind_length n) 0)
  part_back true e =
      let p = part_counted m answered (rw number e) in
      let whole : m ≡ front ++ counted_octets part = split ∙ ap (λ (b : Bool). front ++ cond b (counted_octets part) []) e in
      let back = (counted_back front part (fixed_octets n) front_length (omega (arith, short e))).1 in
      (p.1 ∙ ap (λ (k : ℕ). drop (behind_length k) m) number ∙ ap (drop (behind_length n)) whole ∙ back, p.0 ∙ ap behind_length number)
  part_back false e = let p = part_bare m (rw number e) in (p.1, p.0)

-- ---- THE ROUND TRIP: a message that can be written reads back as what it says, and hands back its part at its place.
pub reads_back_lem : (m : Message) (part : List ℕ) → Writable m part
    → (read_of (layout_of m part) ≡ Ok m)
    × ((part_of (layout_of m part) ≡ carried m part) × (part_at (layout_of m part) ≡ carried_at m))
unfolding judged layout_by read_of
reads_back_lem m part w =
    let n = number_for m.content in
    let vs = values_for m.content in
    let known = number_known m.content in (
      rw (answered n m.session vs part known w.values w.short)
          (ap (λ (x : Message). Ok x) (said n m.session vs part known w.values w.short ∙ rw (content_back m.content))),
      part_back n m.session vs part known w.values w.short (is_counted n) refl,
    )

-- ---- a message that was read

module _ (m : List ℕ) (octet : Octets m) (answer : read_answer m ≡ done) (plain : Plain m) where
  r : Readable m
  r = readable m answer

  abbrev num : ℕ
  num = message_number m

  abbrev vals : List ℕ
  vals = values_at m header_octets (widths_of num)

  -- Of a number: the content has it, and the values that were read.
  abbrev Says : ℕ → Type 0
  Says n = num ≡ n → (number_for (content_by n (values_at m header_octets (widths_of n))) ≡ n)
      × (values_for (content_by n (values_at m header_octets (widths_of n))) ≡ values_at m header_octets (widths_of n))

  says : EachRow (λ (f : Form). f.number) (λ f. Says f.number) forms
  unfolding content_by widths_of
  says =
      (λ (e : num ≡ flow_start). (refl, refl))
      and (λ (e : num ≡ flow_stop). (refl, refl))
      and (λ (e : num ≡ connect). (refl, refl))
      and (λ (e : num ≡ connect_response). (refl, refl))
      and (λ (e : num ≡ disconnect). (refl, refl))
      and (λ (e : num ≡ session_start). (refl, rw (true_written (uint_at m 28 1) (plain.primary e))))
      and (λ (e : num ≡ session_stop). (refl, refl))
      and (λ (e : num ≡ data_number). (refl, rw (duplicate_written (uint_at m 12 1) (plain.marks e))))
      and (λ (e : num ≡ data_acknowledge). (refl, refl))
      and (λ (e : num ≡ error_number). (refl, refl))
      and none

  said_again : (number_for (content_by num vals) ≡ num) × (values_for (content_by num vals) ≡ vals)
  unfolding is_message
  said_again = each_row (λ (f : Form). f.number) Says forms says num r.known refl

  -- what stands behind the fields
  rest : (b : Bool) → is_counted num ≡ b → (fixed_octets num ≤ length m) × (drop (fixed_octets num) m ≡ cond b (counted_octets (part_of m)) [])
  unfolding body_fits
  rest true e =
      let f : counted_fits m (fixed_octets num) ≡ true =
      ap (λ (b : Bool). cond b (counted_fits m (fixed_octets num)) (eqb (length m) (fixed_octets num))) (sym e) ∙ r.fits in
      let p = (part_counted m answer e).1 in
      (omega (arith, counted_fitting m (fixed_octets num) f), counted_written m octet (fixed_octets num) f ∙ ap counted_octets (sym p))
  rest false e =
      let f : eqb (length m) (fixed_octets num) ≡ true =
      ap (λ (b : Bool). cond b (counted_fits m (fixed_octets num)) (eqb (length m) (fixed_octets num))) (sym e) ∙ r.fits in
      let l : length m ≡ fixed_octets num = eqb-true (length m) (fixed_octets num) f in
      (omega arith, drop_of_length-le m {i = fixed_octets num} (omega arith))

  body_again : drop header_octets m ≡ body_of num vals (part_of m)
  unfolding body_of
  body_again =
      let t = rest (is_counted num) refl in
      values_written m octet (widths_of num) header_octets t.0 ∙ ap (λ (x : List ℕ). octets_by_widths (widths_of num) vals ++ x) t.1

  -- ---- THE OTHER WAY: a message that reads without refusal, with flags 0 and Booleans 0 or 1, is the layout of what it says.
  pub is_layout_lem : m ≡ layout_of (meaning_of m) (part_of m)
  unfolding layout_by meaning_of
  is_layout_lem =
      header.taken_apart protocol_version m octet r.header plain.flags
      ∙ ap (message_for protocol_version num (session_of m)) body_again
      ∙ rw (said_again.0, said_again.1)

-- ---- THE ANSWER NUMBERS: the number of what a call answers is the answer number that it is judged by.
pub reading_number : (m : List ℕ) → answer_number (read_of m) ≡ read_answer m
unfolding read_of read_answer
reading_number m =
    (judged_answered (meaning_of m) (header_checks_for protocol_version m ++ body_checks (message_number m) m) refl refl).number

pub written_number_lem : (m : Message) (part out : List ℕ) → answer_number (write_of m part out) ≡ write_answer m part (length out)
unfolding write_by write_answer_by
written_number_lem m part out = (judged_answered (length (layout_of m part)) (write_checks (numbers_of m) part (length out)) refl refl).number

-- ---- WRITING: a message that can be written, and has room, is not refused.
pub writes : (m : Message) (part : List ℕ) (room : ℕ) → Writable m part → length (layout_of m part) ≤ room → write_answer m part room ≡ done
unfolding write_answer_by
writes m part room w h =
    judged_done (write_checks (numbers_of m) part room) (
      not_both (takes_part m) (ltb max_part_octets (length part)) (λ e. le-ltb max_part_octets (length part) (w.short e)),
      (le-ltb room (length (layout_of m part)) h, tt),
    )

pub done_out : (m : Message) (part out : List ℕ) → write_answer m part (length out) ≡ done
    → write_out m part out ≡ sets out 0 (layout_of m part)
unfolding write_out_by
done_out m part out h = rw h

pub done_fits : (m : Message) (part out : List ℕ) → write_answer m part (length out) ≡ done
    → length (layout_of m part) ≤ length out
unfolding write_answer_by
done_fits m part out h = ltb-false (length out) (length (layout_of m part)) (passed (write_checks (numbers_of m) part (length out)) tt h).1.0

-- Where nothing is refused, the output begins with the layout, and behind it is as it was.
pub written_out : (m : Message) (part out : List ℕ) → write_answer m part (length out) ≡ done
    → (take (length (layout_of m part)) (write_out m part out) ≡ layout_of m part)
    × (drop (length (layout_of m part)) (write_out m part out) ≡ drop (length (layout_of m part)) out)
written_out m part out h = rw (done_out m part out h) (output_begins (layout_of m part) out (done_fits m part out h))

-- So what was written to an output with room reads back from there, and its part is handed back at its place.
pub wrote_reads : (m : Message) (part out : List ℕ) → Writable m part → length (layout_of m part) ≤ length out
    → (read_of (take (length (layout_of m part)) (write_out m part out)) ≡ Ok m)
    × ((part_of (take (length (layout_of m part)) (write_out m part out)) ≡ carried m part)
    × (part_at (take (length (layout_of m part)) (write_out m part out)) ≡ carried_at m))
wrote_reads m part out w h = rw (written_out m part out (writes m part (length out) w h)).0 (reads_back_lem m part w)
