-- What is written reads back as what was meant, what reads without refusal is the layout of what it says, and what calls answer has the
-- answer numbers of the paper (01, "Messages" and "Answer numbers").
use mathlib.Core.Path.{◌≡◌, refl, sym, ap, ◌∙◌}
use mathlib.Core.Bool.{Bool, true, false, not}
use mathlib.Core.List.{List, [], ◌∷◌, ◌++◌, append-nil}
use Prim.Native.Nat.{ℕ, zero, suc, ◌+◌, ◌-◌, ◌^◌, ◌≤◌, ◌<◌}
use native.Mathlib.Omega.{arith}
use borrow.Author.Tests.{ltb-false, eqb-true, eqb-false, leb-true, le-ltb, le-leb}
use lib.Dec.{eqb, leb, ltb}
use lib.ListN.{length, take, drop, drop_of_length-le}
use lib.Seq.{sets}
use Rattle.std.specs.Prelude.{Ok}
use Rattle.octets.specs.Answers.{done, judged, answer_number}
use Rattle.octets.specs.Numbers.{number_of, uint_in, uint_at, octets_in, octets_of, Octets}
use Rattle.octets.proofs.Numbers.{uint_one, uint_front, read_back, cut, cut_one}
use Rattle.octets.proofs.Stores.{output_begins}
use Rattle.messages.specs.Messages.{protocol_version, Form, forms, is_message, body_fits, message_number, session_of, message_of, data_front}
use Rattle.messages.specs.Messages.{flags_of, flag_first, flag_duplicate, layout_of}
use Rattle.messages.specs.Messages.{start, start_ack, stop, stop_ack, tmpl_data, final_tmpl_data_ack, start_negotiate, start_negotiate_ack}
use Rattle.messages.specs.Messages.{data_number, data_ack}
use Rattle.messages.specs.Messages.{max_record_octets, header_answer, header_of, read_answer, data_head_of, meaning_of, read_of, part_at}
use Rattle.messages.specs.Messages.{part_of, write_answer, write_of, write_out, head_write_answer, head_write_of, is_data, is_tmpl_data}
use Rattle.messages.specs.Messages.{write_checks, carried, carried_at, Writable, Plain}
use Rattle.messages.specs.Messages.{header_checks, body_checks, head_write_checks, data_head_length}
use Rattle.tables.specs.Table.{table_sound}
use Rattle.messages.specs.declared.message.DataHead.{DataHead}
use Rattle.messages.specs.declared.message.Message.{Message}
use Rattle.messages.specs.declared.message.Message.TheVariants.{Start, StartAck, Stop, StopAck, TmplData, FinalTmplDataAck}
use Rattle.messages.specs.declared.message.Message.TheVariants.{StartNegotiate, StartNegotiateAck, Data, DataAck}
use Rattle.octets.proofs.Judging.{passed, judged_done, judged_answered}
use Rattle.messages.proofs.Messages.{not_both, Readable, readable, reads, part_of_data, part_of_table, part_of_other, message_length}
use Rattle.tables.proofs.Tables.{table_facts}
use Rattle.octets.proofs.Rows.{EachRow, none, ◌and◌, each_row}
use Rattle.headers.proofs.Headers as shared

-- ---- reading the octets of a layout

module _ (n s : ℕ) (body : List ℕ) where
  number_of_lem : message_number (message_of n s body) ≡ n
  unfolding message_of
  number_of_lem = shared.number_of_lem protocol_version n s body

  session_of_lem : session_of (message_of n s body) ≡ s
  unfolding message_of
  session_of_lem = shared.session_of_lem protocol_version n s body

  body_of : drop 8 (message_of n s body) ≡ body
  unfolding message_of
  body_of = shared.body_of protocol_version n s body

  -- a number of the body, at its place of the message
  at_body : (k w : ℕ) → uint_at (message_of n s body) (8 + k) w ≡ uint_at body k w
  unfolding message_of
  at_body k w = shared.at_body protocol_version n s body k w

  field_of : 8 + length body < 2 ^ 32 → uint_at (message_of n s body) 4 4 ≡ length (message_of n s body)
  unfolding message_of
  field_of h = shared.field_of protocol_version n s body h

  version_of_lem : uint_at (message_of n s body) 0 1 ≡ 1
  unfolding message_of
  version_of_lem = shared.version_of_lem protocol_version n s body

  -- a message with a known number, a body that fits it and, if it is a table, a sound one, is not refused
  answered : 8 + length body < 2 ^ 32 → is_message n ≡ true → body_fits n (length body) ≡ true → (n ≡ tmpl_data → table_sound body ≡ true)
      → read_answer (message_of n s body) ≡ done
  answered small known fits table =
      let m = message_of n s body in
      let l : length m - 8 ≡ length body = omega (arith, message_length n s body) in
      reads m (record {
        long = omega (arith, message_length n s body);
        version = version_of_lem;
        field = field_of small;
        known = rw number_of_lem known;
        fits = rw (number_of_lem, l) fits;
        table = λ e. rw body_of (table (sym number_of_lem ∙ e));
      })

-- what such a message says is what reading it answers
read_as : (m : List ℕ) (v : Message) → read_answer m ≡ done → meaning_of m ≡ v → read_of m ≡ Ok v
unfolding judged read_of
read_as m v h e = rw h (ap (λ (x : Message). Ok x) e)

-- and one without a part hands back the empty part at its start
bare_back : (n s : ℕ) (body : List ℕ) (v : Message) → 8 + length body < 2 ^ 32 → is_message n ≡ true → body_fits n (length body) ≡ true
    → eqb n data_number ≡ false → eqb n tmpl_data ≡ false → meaning_of (message_of n s body) ≡ v
    → (read_of (message_of n s body) ≡ Ok v) × ((part_of (message_of n s body) ≡ []) × (part_at (message_of n s body) ≡ 0))
bare_back n s body v small known fits d t e =
    let m = message_of n s body in
    let h = answered n s body small known fits (λ q. absurd (eqb-false n tmpl_data t q)) in
    let p =
    part_of_other m (λ q. eqb-false n data_number d (sym (number_of_lem n s body) ∙ q))
    (λ q. eqb-false n tmpl_data t (sym (number_of_lem n s body) ∙ q)) in
    (read_as m v h e, (p.1, p.0))

empty_back : (n s : ℕ) (v : ℕ → Message) → is_message n ≡ true → body_fits n 0 ≡ true → eqb n data_number ≡ false → eqb n tmpl_data ≡ false
    → ((m : List ℕ) → message_number m ≡ n → meaning_of m ≡ v (session_of m))
    → (read_of (message_of n s []) ≡ Ok (v s)) × ((part_of (message_of n s []) ≡ []) × (part_at (message_of n s []) ≡ 0))
empty_back n s v known fits d t e =
    bare_back n s [] (v s) (omega arith) known fits d t (e (message_of n s []) (number_of_lem n s []) ∙ ap v (session_of_lem n s []))

-- ---- the numbers of DATA's body

module _ (h : DataHead) (part : List ℕ) where
  abbrev behind : List ℕ
  behind = data_front h ++ part

  template_of_lem : h.template < 2 ^ 16 → uint_at behind 0 2 ≡ h.template
  unfolding octets_in uint_in number_of
  template_of_lem l = read_back 2 h.template l

  dsn_of_lem : h.dsn < 2 ^ 32 → uint_at behind 4 4 ≡ h.dsn
  unfolding octets_in uint_in number_of
  dsn_of_lem l = read_back 4 h.dsn l

  config_of : uint_at behind 2 1 ≡ h.config
  unfolding octets_in
  config_of = uint_one _ 2

  marks_of : uint_at behind 3 1 ≡ flags_of h.first h.duplicate
  unfolding octets_in
  marks_of = uint_one _ 3

first_of : (s d : Bool) → flag_first (flags_of s d) ≡ s
first_of true true = refl
first_of true false = refl
first_of false true = refl
first_of false false = refl

duplicate_of : (s d : Bool) → flag_duplicate (flags_of s d) ≡ d
duplicate_of true true = refl
duplicate_of true false = refl
duplicate_of false true = refl
duplicate_of false false = refl

-- the head of a DATA reads back
head_of : (h : DataHead) (part : List ℕ) → h.template < 2 ^ 16 → h.dsn < 2 ^ 32
    → data_head_of (message_of data_number h.session (data_front h ++ part)) ≡ h
unfolding data_head_of
head_of h part t d =
    let at = at_body data_number h.session (data_front h ++ part) in
    rw (
      session_of_lem data_number h.session (data_front h ++ part),
      at 0 2,
      template_of_lem h part t,
      at 2 1,
      config_of h part,
      at 3 1,
      marks_of h part,
      first_of h.first h.duplicate,
      duplicate_of h.first h.duplicate,
      at 4 4,
      dsn_of_lem h part d,
    )

-- ---- THE ROUND TRIP: a message that can be written reads back as what it says, and hands back its part at its place.
pub reads_back_lem : (m : Message) (part : List ℕ) → Writable m part
    → (read_of (layout_of m part) ≡ Ok m)
    × ((part_of (layout_of m part) ≡ carried m part) × (part_at (layout_of m part) ≡ carried_at m))
unfolding layout_of message_of octets_in meaning_of is_message body_fits
reads_back_lem (Start s) part w = empty_back start s Start refl refl refl refl (λ m e. rw e)
reads_back_lem (StartAck s boot) part w =
    let body = octets_of 4 boot in
    bare_back start_ack s body (StartAck s boot) (omega arith) refl refl refl refl
    (rw (number_of_lem start_ack s body, session_of_lem start_ack s body, at_body start_ack s body 0 4, read_back 4 boot w.ranges.1))
reads_back_lem (Stop s) part w = empty_back stop s Stop refl refl refl refl (λ m e. rw e)
reads_back_lem (StopAck s) part w = empty_back stop_ack s StopAck refl refl refl refl (λ m e. rw e)
reads_back_lem (TmplData s) part w =
    let h =
    answered tmpl_data s part (omega (arith, (table_facts part (w.table refl)).short)) refl (le-leb 0 (length part) (omega arith))
    (λ e. w.table refl) in
    let p = part_of_table (message_of tmpl_data s part) h (number_of_lem tmpl_data s part) in (
      read_as (message_of tmpl_data s part) (TmplData s) h (rw (number_of_lem tmpl_data s part) (ap TmplData (session_of_lem tmpl_data s part))),
      (p.1, p.0),
    )
reads_back_lem (FinalTmplDataAck s config) part w =
    let body = config ∷ 0 ∷ 0 ∷ 0 ∷ [] in
    bare_back final_tmpl_data_ack s body (FinalTmplDataAck s config) (omega arith) refl refl refl refl
    (rw (number_of_lem final_tmpl_data_ack s body, session_of_lem final_tmpl_data_ack s body, at_body final_tmpl_data_ack s body 0 1, uint_one body 0))
reads_back_lem (StartNegotiate s) part w = empty_back start_negotiate s StartNegotiate refl refl refl refl (λ m e. rw e)
reads_back_lem (StartNegotiateAck s) part w = empty_back start_negotiate_ack s StartNegotiateAck refl refl refl refl (λ m e. rw e)
reads_back_lem (Data h) part w =
    let s = h.session in
    let body = data_front h ++ part in
    let l : length body ≡ 8 + length part = omega arith in
    let a =
    answered data_number s body (omega (arith, w.short refl)) refl (le-leb 8 (length body) (omega arith)) (λ e. absurd (omega arith)) in
    let p = part_of_data (message_of data_number s body) a (number_of_lem data_number s body) in
    let e = head_of h part w.ranges.1.0 w.ranges.1.1.1 in
    (read_as (message_of data_number s body) (Data h) a (rw (number_of_lem data_number s body) (ap Data e)), (p.1, p.0))
reads_back_lem (DataAck s dsn config) part w =
    let body = octets_of 4 dsn ++ (config ∷ 0 ∷ 0 ∷ 0 ∷ []) in
    bare_back data_ack s body (DataAck s dsn config) (omega arith) refl refl refl refl
    (rw (
      number_of_lem data_ack s body,
      session_of_lem data_ack s body,
      at_body data_ack s body 0 4,
      uint_front (octets_of 4 dsn) (config ∷ 0 ∷ 0 ∷ 0 ∷ []) 0 4 (omega arith),
      read_back 4 dsn w.ranges.1.0,
      at_body data_ack s body 4 1,
      uint_one body 4,
    ))

-- ---- splitting a message into its fields

-- S and D are all of flags below 4
flags_back : (f : ℕ) → f < 4 → flags_of (flag_first f) (flag_duplicate f) ≡ f
flags_back zero h = refl
flags_back (suc zero) h = refl
flags_back (suc (suc zero)) h = refl
flags_back (suc (suc (suc zero))) h = refl
flags_back (suc (suc (suc (suc f)))) h = absurd (omega arith)

module _ (m : List ℕ) (octet : Octets m) (answer : read_answer m ≡ done) (plain : Plain m) where
  abbrev s : ℕ
  s = session_of m

  r : Readable m
  r = readable m answer

  -- the header, then the body
  whole : m ≡ message_of (message_number m) s (drop 8 m)
  unfolding message_of
  whole =
      shared.taken_apart protocol_version m octet (record { long = r.long; right = r.version; whole = r.field }) plain.flags

  -- a message with a given number and body
  with_body : (n : ℕ) (body : List ℕ) → message_number m ≡ n → drop 8 m ≡ body → m ≡ message_of n s body
  with_body n body e b = whole ∙ ap (λ (k : ℕ). message_of k s (drop 8 m)) e ∙ ap (message_of n s) b

  -- its length, by its number
  fitting : (n : ℕ) → message_number m ≡ n → body_fits n (length m - 8) ≡ true
  fitting n e = ap (λ (k : ℕ). body_fits k (length m - 8)) (sym e) ∙ r.fits

  ended : (k : ℕ) → length m ≤ k → drop k m ≡ []
  ended k h = drop_of_length-le m {i = k} h

  says : (v : Message) → meaning_of m ≡ v → m ≡ layout_of v (part_of m) → m ≡ layout_of (meaning_of m) (part_of m)
  says v e h = h ∙ ap (λ (x : Message). layout_of x (part_of m)) (sym e)

  bare : (n : ℕ) → message_number m ≡ n → eqb (length m - 8) 0 ≡ true → m ≡ message_of n s []
  bare n e l = with_body n [] e (ended 8 (omega (arith, eqb-true (length m - 8) 0 l, r.long)))

  -- the bodies of 4 and of 8 octets
  boot_body : eqb (length m - 8) 4 ≡ true → drop 8 m ≡ octets_of 4 (uint_at m 8 4)
  boot_body l =
      let n : length m ≡ 12 = omega (arith, eqb-true (length m - 8) 4 l, r.long) in
      cut m octet 8 4 (omega arith) ∙ ap (λ (x : List ℕ). octets_of 4 (uint_at m 8 4) ++ x) (ended 12 (omega arith)) ∙ append-nil _

  zeros : (at : ℕ) → uint_at m at 3 ≡ 0 → length m ≡ at + 3 → drop at m ≡ 0 ∷ 0 ∷ 0 ∷ []
  unfolding octets_in
  zeros at z n =
      cut m octet at 3 (omega arith)
      ∙ ap (λ (x : List ℕ). octets_of 3 (uint_at m at 3) ++ x) (ended (at + 3) (omega arith))
      ∙ ap (λ (k : ℕ). octets_of 3 k ++ []) z

  final_body : message_number m ≡ final_tmpl_data_ack → eqb (length m - 8) 4 ≡ true → drop 8 m ≡ uint_at m 8 1 ∷ 0 ∷ 0 ∷ 0 ∷ []
  final_body e l =
      let n : length m ≡ 12 = omega (arith, eqb-true (length m - 8) 4 l, r.long) in
      cut_one m 8 (omega arith) ∙ ap (λ (x : List ℕ). uint_at m 8 1 ∷ x) (zeros 9 (plain.reserved e) n)

  ack_body : message_number m ≡ data_ack → eqb (length m - 8) 8 ≡ true
      → drop 8 m ≡ octets_of 4 (uint_at m 8 4) ++ (uint_at m 12 1 ∷ 0 ∷ 0 ∷ 0 ∷ [])
  ack_body e l =
      let n : length m ≡ 16 = omega (arith, eqb-true (length m - 8) 8 l, r.long) in
      cut m octet 8 4 (omega arith)
      ∙ ap (λ (x : List ℕ). octets_of 4 (uint_at m 8 4) ++ x)
      (cut_one m 12 (omega arith) ∙ ap (λ (x : List ℕ). uint_at m 12 1 ∷ x) (zeros 13 (plain.unused e) n))

  data_body : message_number m ≡ data_number → leb 8 (length m - 8) ≡ true → drop 8 m ≡ data_front (data_head_of m) ++ drop 16 m
  unfolding octets_in data_head_of
  data_body e l =
      let n : 16 ≤ length m = omega (arith, leb-true 8 (length m - 8) l) in
      let f : uint_at m 11 1 ≡ flags_of (flag_first (uint_at m 11 1)) (flag_duplicate (uint_at m 11 1)) =
      sym (flags_back (uint_at m 11 1) (plain.marks e)) in
      cut m octet 8 2 (omega arith)
      ∙ ap (λ (x : List ℕ). octets_of 2 (uint_at m 8 2) ++ x)
      (cut_one m 10 (omega arith)
      ∙ ap (λ (x : List ℕ). uint_at m 10 1 ∷ x)
      (cut_one m 11 (omega arith)
      ∙ ap (λ (k : ℕ). k ∷ drop 12 m) f
      ∙ ap (λ (x : List ℕ). flags_of (flag_first (uint_at m 11 1)) (flag_duplicate (uint_at m 11 1)) ∷ x) (cut m octet 12 4 n)))

  data_whole : message_number m ≡ data_number → leb 8 (length m - 8) ≡ true → drop 8 m ≡ data_front (data_head_of m) ++ part_of m
  data_whole e l = data_body e l ∙ ap (λ (x : List ℕ). data_front (data_head_of m) ++ x) (sym (part_of_data m answer e).1)

  by_number : EachRow (λ (f : Form). f.number) (λ f. message_number m ≡ f.number → m ≡ layout_of (meaning_of m) (part_of m)) forms
  unfolding layout_of meaning_of data_head_of body_fits
  by_number =
      (λ (e : message_number m ≡ start). says (Start s) (rw e) (bare start e (fitting start e)))
      and (λ (e : message_number m ≡ start_ack). says (StartAck s (uint_at m 8 4)) (rw e)
      (with_body start_ack _ e (boot_body (fitting start_ack e))))
      and (λ (e : message_number m ≡ stop). says (Stop s) (rw e) (bare stop e (fitting stop e)))
      and (λ (e : message_number m ≡ stop_ack). says (StopAck s) (rw e) (bare stop_ack e (fitting stop_ack e)))
      and (λ (e : message_number m ≡ tmpl_data). says (TmplData s) (rw e)
      (with_body tmpl_data (part_of m) e (sym (part_of_table m answer e).1)))
      and (λ (e : message_number m ≡ final_tmpl_data_ack). says (FinalTmplDataAck s (uint_at m 8 1)) (rw e)
      (with_body final_tmpl_data_ack _ e (final_body e (fitting final_tmpl_data_ack e))))
      and (λ (e : message_number m ≡ start_negotiate). says (StartNegotiate s) (rw e) (bare start_negotiate e (fitting start_negotiate e)))
      and (λ (e : message_number m ≡ start_negotiate_ack). says (StartNegotiateAck s) (rw e)
      (bare start_negotiate_ack e (fitting start_negotiate_ack e)))
      and (λ (e : message_number m ≡ data_number). says (Data (data_head_of m)) (rw e)
      (with_body data_number _ e (data_whole e (fitting data_number e))))
      and (λ (e : message_number m ≡ data_ack). says (DataAck s (uint_at m 8 4) (uint_at m 12 1)) (rw e)
      (with_body data_ack _ e (ack_body e (fitting data_ack e))))
      and none

  -- ---- THE OTHER WAY: a message that reads without refusal, whose flags and reserved octets are 0, is the layout of what it says.
  pub is_layout_lem : m ≡ layout_of (meaning_of m) (part_of m)
  unfolding is_message
  is_layout_lem =
      each_row (λ (f : Form). f.number) (λ n. message_number m ≡ n → m ≡ layout_of (meaning_of m) (part_of m)) forms by_number
      (message_number m) r.known refl

-- ---- THE ANSWER NUMBERS: the number of what a call answers is the answer number that it is judged by.
pub header_number : (m : List ℕ) → answer_number (header_of m) ≡ header_answer m
header_number m = shared.header_number protocol_version m

pub reading_number : (m : List ℕ) → answer_number (read_of m) ≡ read_answer m
unfolding read_of read_answer
reading_number m = (judged_answered (meaning_of m) (header_checks m ++ body_checks m) refl refl).number

pub written_number_lem : (m : Message) (part out : List ℕ) → answer_number (write_of m part out) ≡ write_answer m part (length out)
unfolding write_of write_answer
written_number_lem m part out = (judged_answered (length (layout_of m part)) (write_checks m part (length out)) refl refl).number

pub head_number : (n room : ℕ) → answer_number (head_write_of n room) ≡ head_write_answer n room
unfolding head_write_of head_write_answer
head_number n room = (judged_answered (data_head_length + n) (head_write_checks n room) refl refl).number

-- ---- WRITING: a message that can be written, and has room, is not refused.
pub writes : (m : Message) (part : List ℕ) (room : ℕ) → Writable m part → length (layout_of m part) ≤ room → write_answer m part room ≡ done
unfolding write_answer
writes m part room w h =
    judged_done (write_checks m part room) (
      not_both (is_tmpl_data m) (not (table_sound part)) (λ e. ap not (w.table e)),
      (
        not_both (is_data m) (ltb max_record_octets (length part)) (λ e. le-ltb max_record_octets (length part) (w.short e)),
        (le-ltb room (length (layout_of m part)) h, tt),
      ),
    )

pub done_out : (m : Message) (part out : List ℕ) → write_answer m part (length out) ≡ done
    → write_out m part out ≡ sets out 0 (layout_of m part)
unfolding write_out
done_out m part out h = rw h

pub done_fits : (m : Message) (part out : List ℕ) → write_answer m part (length out) ≡ done → length (layout_of m part) ≤ length out
unfolding write_answer
done_fits m part out h = ltb-false (length out) (length (layout_of m part)) (passed (write_checks m part (length out)) tt h).1.1.0

-- Where nothing is refused, the output begins with the layout, and behind it is as it was.
pub written_out : (m : Message) (part out : List ℕ) → write_answer m part (length out) ≡ done
    → (take (length (layout_of m part)) (write_out m part out) ≡ layout_of m part)
    × (drop (length (layout_of m part)) (write_out m part out) ≡ drop (length (layout_of m part)) out)
written_out m part out h = rw (done_out m part out h) (output_begins (layout_of m part) out (done_fits m part out h))

-- So what was written to an output with room reads back from there, and its part is handed back at its place.
pub wrote_reads : (m : Message) (part out : List ℕ) → Writable m part → length (layout_of m part) ≤ length out
    → (read_of (take (length (layout_of m part)) (write_out m part out)) ≡ Ok m)
    × ((part_of (take (length (layout_of m part)) (write_out m part out)) ≡ carried m part)
    × (part_at (take (length (layout_of m part)) (write_out m part out)) ≡ carried_at m))
wrote_reads m part out w h = rw (written_out m part out (writes m part (length out) w h)).0 (reads_back_lem m part w)
