-- Laws of messages: what an answer of 0 says of a message, and what writing answers.
use mathlib.Core.Path.{◌≡◌, refl, sym, ap, ◌∙◌}
use mathlib.Core.Bool.{Bool, true, false, cond, not, ◌&&◌}
use mathlib.Core.List.{List, [], ◌++◌}
use Prim.Native.Nat.{ℕ, ◌+◌, ◌-◌, ◌≤◌, ◌<◌}
use native.Mathlib.Omega.{arith}
use borrow.Author.Tests.{ltb-true, ltb-false, eqb-true, not-false, le-ltb, lt-ltb, le-leb, lt-leb, eq-eqb, ne_eqb}
use lib.Dec.{eqb, leb, ltb}
use lib.ListN.{length, drop}
use lib.Seq.{sets}
use Rattle.std.specs.Prelude.{Result, Ok, Err}
use Rattle.std.specs.Result.{IsErrAnd}
use Rattle.numbers.specs.declared.refusal.Refusal.{Refusal}
use Rattle.numbers.specs.declared.refusal.Refusal.TheVariants.{MessageNotAccepted, OutputTooShort, UnsoundTable}
use Rattle.octets.specs.Answers.{judge, judged, refusal_of, done, body_length_wrong, output_too_short, unsound_table}
use Rattle.octets.specs.Numbers.{octets_in, put_at}
use Rattle.octets.proofs.Stores.{put_fits, put_short, put_then}
use Rattle.messages.specs.Messages.{Form, forms, is_message, body_fits, message_number, version_of, length_field, header_checks, body_checks}
use Rattle.messages.specs.Messages.{header_answer, header_answer_for, read_answer, session_of, meaning_of, read_where, read_table, read_of}
use Rattle.messages.specs.Messages.{part_at, part_of, tmpl_data, data_number}
use Rattle.tables.specs.Table.{table_sound}
use Rattle.messages.specs.Messages.{header_octets, protocol_version, data_head_length, max_record_octets, header_octets_of, message_of}
use Rattle.messages.specs.Messages.{data_front, data_head_octets, Placed, is_tmpl_data, is_data, layout_of, write_checks, write_answer}
use Rattle.messages.specs.Messages.{write_of, write_out, head_write_answer, head_write_out}
use Rattle.messages.specs.declared.message.DataHead.{DataHead}
use Rattle.messages.specs.declared.message.Message.{Message}
use Rattle.messages.specs.declared.message.Message.TheVariants.{TmplData, Data}
use Rattle.headers.proofs.Headers as shared
use Rattle.octets.proofs.Judging.{passed, judged_done, judged_first, judged_next}
use Rattle.octets.proofs.Rows.{Others, not_found}
use Rattle.octets.proofs.Each.{and_false}
use Rattle.std.proofs.lemmas.Bool.Decides.{nat_tests}

-- ---- rows

-- a number that no row has is no message's
pub no_message : (n : ℕ) → Others (λ (f : Form). f.number) (Unit {0}) forms n → is_message n ≡ false
unfolding is_message
no_message n h = (not_found (λ (f : Form). f.number) (Unit {0}) (λ f. true) false forms n h).0

-- ---- a message that can be read

-- What an answer of 0 says of a message.
pub record Readable (m : List ℕ) : Type 0 where
  pub long : header_octets ≤ length m
  pub version : version_of m ≡ protocol_version
  pub field : length_field m ≡ length m
  pub known : is_message (message_number m) ≡ true
  pub fits : body_fits (message_number m) (length m - header_octets) ≡ true
  pub table : message_number m ≡ tmpl_data → table_sound (drop header_octets m) ≡ true

-- a header's refusal is the message's
pub header_refused : (m : List ℕ) → (header_answer m ≡ done → ⊥) → read_answer m ≡ header_answer m
unfolding header_answer_for read_answer
header_refused m h = judged_first (header_checks m) (body_checks m) h

-- where the header is not refused, the body is judged
pub header_passed : (m : List ℕ) → header_answer m ≡ done → read_answer m ≡ judge (body_checks m)
unfolding header_answer_for read_answer
header_passed m h = judged_next (header_checks m) (body_checks m) tt h

-- a header that is not refused has 8 octets
pub header_long : (m : List ℕ) → header_answer m ≡ done → header_octets ≤ length m
header_long m h = shared.header_long protocol_version m h

-- a refusal of the header that is handed on is what reading answers
pub read_handed_on : (m : List ℕ) {refusal : Refusal} {result : Result Message Refusal} → shared.Checked protocol_version m (Err refusal)
    → IsErrAnd result (λ r. r ≡ refusal) → result ≡ read_of m
unfolding read_of
read_handed_on m h e =
    rw (header_refused m (shared.check_refused protocol_version m h)) (shared.handed_on protocol_version m (meaning_of m) h e)

-- ---- what is read behind a header that is not refused

fits_judged : (fits : Bool) (x : Message) → judged (cond (not fits) body_length_wrong done) x ≡ read_where fits x
unfolding judged refusal_of
fits_judged true x = refl
fits_judged false x = refl

-- the tests of a body's length as tests of the message's
exact_length : (len k : ℕ) → header_octets ≤ len → eqb (len - header_octets) k ≡ eqb len (header_octets + k)
exact_length len k h = grind (arith, nat_tests)

least_length : (len k : ℕ) → header_octets ≤ len → leb k (len - header_octets) ≡ leb (header_octets + k) len
least_length len k h = grind (arith, nat_tests)

module _ (m : List ℕ) (n : ℕ) (x : Message) (h : header_answer m ≡ done) (e : message_number m ≡ n) (s : meaning_of m ≡ x)
    (k : is_message n ≡ true) (t : eqb n tmpl_data ≡ false) where
  -- of a message other than TMPL DATA only the length of its body is left to judge
  read_fits : read_of m ≡ read_where (body_fits n (length m - header_octets)) x
  unfolding read_of
  read_fits = rw (header_passed m h, e, s, k, t) (fits_judged (body_fits n (length m - header_octets)) x)

  -- where that is to be as long as it is told
  pub read_exact : (body : ℕ) → ((len : ℕ) → body_fits n len ≡ eqb len body)
      → read_of m ≡ read_where (eqb (length m) (header_octets + body)) x
  read_exact body f = read_fits ∙ ap (λ (b : Bool). read_where b x) (f _ ∙ exact_length (length m) body (header_long m h))

  -- or at least so long
  pub read_least : (body : ℕ) → ((len : ℕ) → body_fits n len ≡ leb body len)
      → read_of m ≡ read_where (leb (header_octets + body) (length m)) x
  read_least body f = read_fits ∙ ap (λ (b : Bool). read_where b x) (f _ ∙ least_length (length m) body (header_long m h))

table_judged : (sound : Bool) (x : Message) → judged (cond (not sound) unsound_table done) x ≡ cond sound (Ok x) (Err UnsoundTable)
unfolding judged refusal_of
table_judged true x = refl
table_judged false x = refl

pub answer_table : (m : List ℕ) → header_answer m ≡ done → message_number m ≡ tmpl_data
    → read_answer m ≡ cond (not (table_sound (drop header_octets m))) unsound_table done
unfolding is_message body_fits
answer_table m h e = header_passed m h ∙ rw (e, le-leb 0 (length m - 8) (omega arith))

-- of a TMPL DATA its table is
pub read_table_lem : (m : List ℕ) → header_answer m ≡ done → message_number m ≡ tmpl_data → read_of m ≡ read_table m
unfolding read_of meaning_of
read_table_lem m h e = rw (answer_table m h e, e) (table_judged (table_sound (drop 8 m)) (TmplData (session_of m)))

-- a number that is no message's is refused
pub read_unknown : (m : List ℕ) → header_answer m ≡ done → is_message (message_number m) ≡ false
    → read_of m ≡ Err MessageNotAccepted
unfolding read_of judged refusal_of
read_unknown m h k = rw (header_passed m h, k)

pub answer_data : (m : List ℕ) → header_answer m ≡ done → message_number m ≡ data_number
    → read_answer m ≡ cond (not (leb 8 (length m - header_octets))) body_length_wrong done
unfolding is_message body_fits
answer_data m h e = header_passed m h ∙ rw e

table_sound_lem : (a b : Bool) → (a && not b) ≡ false → a ≡ true → b ≡ true
table_sound_lem true b e h = not-false b e
table_sound_lem false b e h = let z : ◌≡◌ {A = ℕ} 0 1 = cc in absurd (omega arith)

pub not_both : (a b : Bool) → (a ≡ true → b ≡ false) → (a && b) ≡ false
not_both true b h = h refl
not_both false b h = refl

pub readable : (m : List ℕ) → read_answer m ≡ done → Readable m
unfolding read_answer
readable m h =
    let p = passed (header_checks m ++ body_checks m) tt h in
    record {
      long = ltb-false (length m) 8 p.0;
      version = eqb-true (version_of m) 1 (not-false _ p.1.0);
      field = eqb-true (length_field m) (length m) (not-false _ p.1.1.0);
      known = not-false _ p.1.1.1.0;
      fits = not-false _ p.1.1.1.1.0;
      table =
          λ e. table_sound_lem (eqb (message_number m) tmpl_data) (table_sound (drop 8 m)) p.1.1.1.1.1.0
          (eq-eqb (message_number m) tmpl_data e);
    }

pub reads : (m : List ℕ) → Readable m → read_answer m ≡ done
unfolding read_answer
reads m r =
    judged_done (header_checks m ++ body_checks m) (
      le-ltb (length m) 8 r.long,
      (
        ap not (eq-eqb (version_of m) 1 r.version),
        (
          ap not (eq-eqb (length_field m) (length m) r.field),
          (
            ap not r.known,
            (
              ap not r.fits,
              (
                not_both (eqb (message_number m) tmpl_data) (not (table_sound (drop 8 m)))
                    (λ e. ap not (r.table (eqb-true (message_number m) tmpl_data e))),
                tt,
              ),
            ),
          ),
        ),
      ),
    )

-- ---- the part that a message carries

pub part_of_data : (m : List ℕ) → read_answer m ≡ done → message_number m ≡ data_number
    → (part_at m ≡ data_head_length) × (part_of m ≡ drop data_head_length m)
unfolding part_at part_of
part_of_data m h e = (rw (h, e), rw (h, e))

pub part_of_table : (m : List ℕ) → read_answer m ≡ done → message_number m ≡ tmpl_data
    → (part_at m ≡ header_octets) × (part_of m ≡ drop header_octets m)
unfolding part_at part_of
part_of_table m h e = (rw (h, e), rw (h, e))

pub part_of_refused : (m : List ℕ) → (read_answer m ≡ done → ⊥) → (part_at m ≡ 0) × (part_of m ≡ [])
unfolding part_at part_of
part_of_refused m h = (rw (ne_eqb (read_answer m) done h), rw (ne_eqb (read_answer m) done h))

pub part_of_other : (m : List ℕ) → (message_number m ≡ data_number → ⊥) → (message_number m ≡ tmpl_data → ⊥)
    → (part_at m ≡ 0) × (part_of m ≡ [])
unfolding part_at part_of
part_of_other m d t =
    let a = ne_eqb (message_number m) data_number d in
    let b = ne_eqb (message_number m) tmpl_data t in
    let n = and_false (eqb (read_answer m) done) in
    (rw (a, b, n), rw (a, b, n))

-- a DATA whose body is too short and a TMPL DATA whose table is unsound are refused
pub short_refused : (m : List ℕ) → header_answer m ≡ done → message_number m ≡ data_number → length m < data_head_length → read_answer m ≡ done
    → ⊥
short_refused m h e l z =
    let short : read_answer m ≡ body_length_wrong = answer_data m h e ∙ rw (lt-leb 8 (length m - 8) (omega arith)) in
    omega arith

pub long_read : (m : List ℕ) → header_answer m ≡ done → message_number m ≡ data_number → data_head_length ≤ length m → read_answer m ≡ done
long_read m h e l = answer_data m h e ∙ rw (le-leb 8 (length m - 8) (omega arith))

pub unsound_refused : (m : List ℕ) → header_answer m ≡ done → message_number m ≡ tmpl_data → table_sound (drop header_octets m) ≡ false
    → read_answer m ≡ done → ⊥
unsound_refused m h e t z =
    let unsound : read_answer m ≡ unsound_table = answer_table m h e ∙ rw t in
    omega arith

pub sound_read : (m : List ℕ) → header_answer m ≡ done → message_number m ≡ tmpl_data → table_sound (drop header_octets m) ≡ true
    → read_answer m ≡ done
sound_read m h e t = answer_table m h e ∙ rw t

-- ---- writing

-- a header that has room
pub header_put : (number session len : ℕ) (out : List ℕ) → header_octets ≤ length out
    → put_at out 0 (header_octets_of number session len) ≡ sets out 0 (header_octets_of number session len)
unfolding octets_in
header_put number session len out h = put_fits out 0 (header_octets_of number session len) (omega arith)

-- octets that find no room
pub placed_short : (octets out : List ℕ) → length out < length octets → Placed octets out (Err OutputTooShort) out
placed_short octets out h =
    record { answered = rw (lt-ltb (length out) (length octets) h); left = sym (put_short out 0 octets (omega arith)) }

-- octets that do
pub placed : (octets out after : List ℕ) (n : ℕ) → length octets ≡ n → n ≤ length out → after ≡ sets out 0 octets
    → Placed octets out (Ok n) after
placed octets out after n e h s =
    record {
      answered = rw (le-ltb (length out) (length octets) (omega arith)) (ap (λ (k : ℕ). Ok k) (sym e));
      left = s ∙ sym (put_fits out 0 octets (omega arith));
    }

room_answered : (short : Bool) (n : ℕ) → cond short (Err OutputTooShort) (Ok n) ≡ judged (cond short output_too_short done) n
unfolding judged refusal_of
room_answered true n = refl
room_answered false n = refl

room_left : (short : Bool) (out octets : List ℕ) → ltb (length out) (length octets) ≡ short
    → put_at out 0 octets ≡ cond (eqb (cond short output_too_short done) done) (sets out 0 octets) out
room_left true out octets e = put_short out 0 octets (omega (arith, ltb-true (length out) (length octets) e))
room_left false out octets e = put_fits out 0 octets (omega (arith, ltb-false (length out) (length octets) e))

-- where neither the table nor the record is refused, the room alone decides
pub allowed : (m : Message) (part out : List ℕ) (answer : Result ℕ Refusal) (after : List ℕ)
    → (is_tmpl_data m && not (table_sound part)) ≡ false
    → (is_data m && ltb max_record_octets (length part)) ≡ false
    → Placed (layout_of m part) out answer after
    → (answer ≡ write_of m part out) × (after ≡ write_out m part out)
unfolding write_answer write_of write_out
allowed m part out answer after t d p =
    let short = ltb (length out) (length (layout_of m part)) in (
      p.answered ∙ rw (t, d) (room_answered short (length (layout_of m part))),
      p.left ∙ rw (t, d) (room_left short out (layout_of m part) refl),
    )

-- a refusal is answered and changes nothing
pub refused : (m : Message) (part out : List ℕ) (a : ℕ) → (a ≡ done → ⊥) → write_answer m part (length out) ≡ a
    → (Err (refusal_of a) ≡ write_of m part out) × (out ≡ write_out m part out)
unfolding judged write_of write_out
refused m part out a h e = (rw (e, ne_eqb a done h), rw (e, ne_eqb a done h))

pub message_length : (number session : ℕ) (body : List ℕ) → length (message_of number session body) ≡ header_octets + length body
unfolding message_of
message_length number session body = shared.message_length protocol_version number session body

-- a DATA message is what stands in front of its record, then the record
pub data_layout : (h : DataHead) (part : List ℕ) → layout_of (Data h) part ≡ data_head_octets h (length part) ++ part
unfolding layout_of message_of octets_in
data_layout h part =
    ap (λ (n : ℕ). (header_octets_of data_number h.session n ++ data_front h) ++ part) (omega arith)

pub data_length : (h : DataHead) (part : List ℕ) → length (layout_of (Data h) part) ≡ data_head_length + length part
unfolding octets_in
data_length h part = ap length (data_layout h part) ∙ omega arith

-- A DATA's head is judged as the whole message with any record of that length.
pub head_answer : (h : DataHead) (part : List ℕ) (room : ℕ) → head_write_answer (length part) room ≡ write_answer (Data h) part room
unfolding head_write_answer write_answer
head_answer h part room = rw (data_length h part)

-- The head, and the record put behind it, are the message.
pub head_then_record : (h : DataHead) (part out : List ℕ) → write_answer (Data h) part (length out) ≡ done
    → put_at (head_write_out h (length part) out) data_head_length part ≡ write_out (Data h) part out
unfolding write_answer head_write_out write_out octets_in
head_then_record h part out e =
    let fits = ltb-false (length out) (length (layout_of (Data h) part)) (passed (write_checks (Data h) part (length out)) tt e).1.1.0 in
    rw (head_answer h part (length out), e)
    (put_then out (data_head_octets h (length part)) part _ 16 refl refl (omega (arith, data_length h part))
    ∙ ap (sets out 0) (sym (data_layout h part)))
