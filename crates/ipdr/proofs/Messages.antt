-- Laws of IPDR/SP's messages: what an answer of 0 says of a message, the part that it carries, and what writing answers.
use mathlib.Core.Path.{◌≡◌, refl, sym, ap, ◌∙◌}
use mathlib.Core.Bool.{Bool, true, false, cond, not}
use mathlib.Core.List.{List, [], ◌++◌, append-nil, append_assoc}
use Prim.Native.Nat.{ℕ, ◌+◌, ◌≤◌, ◌<◌}
use native.Mathlib.Omega.{arith}
use borrow.Author.Tests.{ltb-false, not-false, le-ltb, lt-ltb, ne_eqb}
use lib.Dec.{eqb}
use lib.ListN.{length, drop, length-append}
use lib.Seq.{sets, length-sets}
use Rattle.std.specs.Prelude.{Ok, Err, Result, Some, None}
use Rattle.std.specs.Result.{IsErrAnd}
use Rattle.std.specs.Int.{from_bool}
use Rattle.numbers.specs.declared.refusal.Refusal.{Refusal}
use Rattle.numbers.specs.declared.refusal.Refusal.TheVariants.{MessageNotAccepted, BodyLengthWrong, OutputTooShort, RecordTooLong}
use Rattle.octets.specs.Answers.{judged, refusal_of, done, message_not_accepted, body_length_wrong, output_too_short, record_too_long}
use Rattle.octets.specs.Numbers.{octets_in, octets_of, put_at}
use Rattle.octets.proofs.Numbers.{octets_length}
use Rattle.octets.proofs.Stores.{put_fits, sets_append}
use Rattle.octets.proofs.Judging.{Passed, passed, judged_done, judged_first, judged_next, judged_ok}
use Rattle.octets.proofs.Each.{and_false}
use Rattle.octets.proofs.Rows.{none, ◌and◌, found, has_row, Others, not_found}
use Rattle.headers.specs.Headers.{header_octets, message_number, header_for, header_checks_for, header_answer_for}
use Rattle.headers.proofs.Headers.{HeaderRight, header_facts, message_length, Checked, check_refused, handed_on, passed_on}
use Rattle.ipdr.specs.declared.message.Message.{Message}
use Rattle.ipdr.specs.declared.message.Content.TheVariants as content
use Rattle.ipdr.specs.Fields.{widths_total, length_octets, counted_fits, octets_by_widths, counted_octets}
use Rattle.ipdr.specs.Messages.{Form, forms, protocol_version, is_message, widths_of, is_counted, fixed_octets, counted_place, behind_length}
use Rattle.ipdr.specs.Messages.{content_by}
use Rattle.ipdr.specs.Messages.{flow_start, flow_stop, connect, connect_response, disconnect, session_start, session_stop, data_number}
use Rattle.ipdr.specs.Messages.{data_acknowledge, error_number}
use Rattle.ipdr.specs.Messages.{MessageNumbers, body_of, layout_by, body_fits, body_checks, body_answer, read_answer, read_body}
use Rattle.ipdr.specs.Messages.{meaning_of, read_of, part_at, part_of}
use Rattle.ipdr.specs.Messages.{octet_of, max_part_octets, counted_checks, counted_answer, Begun, write_answer_by, write_by, write_out_by, WrittenBy}
use Rattle.ipdr.proofs.Fields.{counted_fitting, counted_length, fields_length, put_fields, fields_put, put_behind}

-- ---- rows

-- no message has more than 45 octets of fields
pub fields_small : (n : ℕ) → widths_total (widths_of n) ≤ 45
unfolding widths_of
fields_small n =
    found (λ (f : Form). f.number) (λ (ws : List ℕ). widths_total ws ≤ 45) (λ f. f.fields) [] forms
    (omega arith and omega arith and omega arith and omega arith and omega arith
    and omega arith and omega arith and omega arith and omega arith and omega arith and none)
    (omega arith)
    n

-- No row has the number.
abbrev pub NoRow : ℕ → Type 0
NoRow n = Others (λ (f : Form). f.number) (Unit {0}) forms n

-- then it is no message's, and nothing is said or carried
pub no_message : (n : ℕ) → NoRow n → is_message n ≡ false
unfolding is_message
no_message n h = (not_found (λ (f : Form). f.number) (Unit {0}) (λ f. true) false forms n h).0

pub no_content : (n : ℕ) (vs : List ℕ) → NoRow n → content_by n vs ≡ content.FlowStart
unfolding content_by
no_content n vs h = (not_found (λ (f : Form). f.number) (Unit {0}) (λ f. f.says vs) content.FlowStart forms n h).0

-- The number is none of the numbers of messages that a text or a record ends.
abbrev pub NotCounted : ℕ → Type 0
NotCounted n =
    (((((Unit {0} × (n ≡ flow_stop → ⊥)) × (n ≡ connect → ⊥)) × (n ≡ connect_response → ⊥)) × (n ≡ session_stop → ⊥))
    × (n ≡ data_number → ⊥)) × (n ≡ error_number → ⊥)

neither : (b x : Bool) → x ≡ false → cond b false x ≡ false
neither true x e = refl
neither false x e = e

-- any other number is not of such a message
pub not_counted : (n : ℕ) → NotCounted n → is_counted n ≡ false
unfolding is_counted
not_counted n h =
    rw (
      ne_eqb n flow_stop h.0.0.0.0.0.1,
      ne_eqb n connect h.0.0.0.0.1,
      ne_eqb n connect_response h.0.0.0.1,
      ne_eqb n session_stop h.0.0.1,
      ne_eqb n data_number h.0.1,
      ne_eqb n error_number h.1,
    )
    (neither (eqb n flow_start) _ (neither (eqb n disconnect) _
    (neither (eqb n session_start) _ (neither (eqb n data_acknowledge) false refl))))

-- ---- a message that can be read

-- What an answer of 0 says of a message.
pub record Readable (m : List ℕ) : Type 0 where
  pub header : HeaderRight protocol_version m
  pub known : is_message (message_number m) ≡ true
  pub fits : body_fits (message_number m) m ≡ true

pub readable : (m : List ℕ) → read_answer m ≡ done → Readable m
unfolding read_answer
readable m h =
    let p = passed (header_checks_for protocol_version m ++ body_checks (message_number m) m) tt h in
    record {
      header = header_facts protocol_version m (p.0, (p.1.0, (p.1.1.0, tt)));
      known = not-false _ p.1.1.1.0;
      fits = not-false _ p.1.1.1.1.0;
    }

pub reads : (m : List ℕ) → Passed (header_checks_for protocol_version m) → is_message (message_number m) ≡ true
    → body_fits (message_number m) m ≡ true → read_answer m ≡ done
unfolding read_answer
reads m h known fits =
    judged_done (header_checks_for protocol_version m ++ body_checks (message_number m) m)
    (h.0, (h.1.0, (h.1.1.0, (ap not known, (ap not fits, tt)))))

-- a header's refusal is the message's
pub header_refused : (m : List ℕ) → (header_answer_for protocol_version m ≡ done → ⊥) → read_answer m ≡ header_answer_for protocol_version m
unfolding read_answer header_answer_for
header_refused m h = judged_first (header_checks_for protocol_version m) (body_checks (message_number m) m) h

-- where the header is not refused, the body is judged
pub header_passed : (m : List ℕ) → header_answer_for protocol_version m ≡ done → read_answer m ≡ body_answer (message_number m) m
unfolding read_answer header_answer_for body_answer
header_passed m h = judged_next (header_checks_for protocol_version m) (body_checks (message_number m) m) tt h

-- a refusal of the header that is handed on is what reading answers
pub read_handed_on : (m : List ℕ) {refusal : Refusal} {result : Result Message Refusal} → Checked protocol_version m (Err refusal)
    → IsErrAnd result (λ r. r ≡ refusal) → result ≡ read_of m
unfolding read_of
read_handed_on m h e = rw (header_refused m (check_refused protocol_version m h)) (handed_on protocol_version m (meaning_of m) h e)

-- so reading goes on behind it
pub read_behind : (m : List ℕ) → header_answer_for protocol_version m ≡ done → read_of m ≡ read_body (message_number m) m
unfolding read_of read_body meaning_of
read_behind m h = rw (header_passed m h)

fits_answer : (b : Bool) → cond (not b) body_length_wrong done ≡ cond b done body_length_wrong
fits_answer true = refl
fits_answer false = refl

-- the body of a message without a part, and of one with a part
pub body_bare : (n : ℕ) (m : List ℕ) → is_message n ≡ true → is_counted n ≡ false
    → body_answer n m ≡ cond (eqb (length m) (fixed_octets n)) done body_length_wrong
unfolding body_answer body_fits
body_bare n m known c = rw (known, c) (fits_answer (eqb (length m) (fixed_octets n)))

pub body_counted : (n : ℕ) (m : List ℕ) → is_message n ≡ true → is_counted n ≡ true
    → body_answer n m ≡ cond (counted_fits m (fixed_octets n)) done body_length_wrong
unfolding body_answer body_fits
body_counted n m known c = rw (known, c) (fits_answer (counted_fits m (fixed_octets n)))

-- what is answered by them
fits_judged : {A : Type 0} (b : Bool) (x : A) → cond b (Ok x) (Err BodyLengthWrong) ≡ judged (cond b done body_length_wrong) x
unfolding judged refusal_of
fits_judged true x = refl
fits_judged false x = refl

pub judged_bare : {A : Type 0} (n : ℕ) (m : List ℕ) (x : A) → is_message n ≡ true → is_counted n ≡ false
    → cond (eqb (length m) (fixed_octets n)) (Ok x) (Err BodyLengthWrong) ≡ judged (body_answer n m) x
judged_bare n m x known c = rw (body_bare n m known c) (fits_judged (eqb (length m) (fixed_octets n)) x)

pub judged_counted : {A : Type 0} (n : ℕ) (m : List ℕ) (x : A) → is_message n ≡ true → is_counted n ≡ true
    → cond (counted_fits m (fixed_octets n)) (Ok x) (Err BodyLengthWrong) ≡ judged (body_answer n m) x
judged_counted n m x known c = rw (body_counted n m known c) (fits_judged (counted_fits m (fixed_octets n)) x)

-- a number without a row is refused
pub body_unknown : (n : ℕ) (m : List ℕ) → NoRow n → body_answer n m ≡ message_not_accepted
unfolding body_answer
body_unknown n m h = rw (no_message n h)

pub judged_unknown : {A : Type 0} (n : ℕ) (m : List ℕ) (x : A) → is_message n ≡ false → Err MessageNotAccepted ≡ judged (body_answer n m) x
unfolding judged refusal_of body_answer
judged_unknown n m x h = rw h

-- a message that is read and carries a part has its length
pub part_long : (m : List ℕ) → read_answer m ≡ done → is_counted (message_number m) ≡ true → behind_length (message_number m) ≤ length m
unfolding body_fits
part_long m h e =
    let n = message_number m in
    counted_fitting m (fixed_octets n)
    (ap (λ (b : Bool). cond b (counted_fits m (fixed_octets n)) (eqb (length m) (fixed_octets n))) (sym e) ∙ (readable m h).fits)

-- ---- the part that a message carries

pub part_counted : (m : List ℕ) → read_answer m ≡ done → is_counted (message_number m) ≡ true
    → (part_at m ≡ behind_length (message_number m)) × (part_of m ≡ drop (behind_length (message_number m)) m)
unfolding part_at part_of
part_counted m h e = (rw (h, e), rw (h, e))

pub part_bare : (m : List ℕ) → is_counted (message_number m) ≡ false → (part_at m ≡ 0) × (part_of m ≡ [])
unfolding part_at part_of
part_bare m e = (rw (e, and_false (eqb (read_answer m) done)), rw (e, and_false (eqb (read_answer m) done)))

pub part_refused : (m : List ℕ) → (read_answer m ≡ done → ⊥) → (part_at m ≡ 0) × (part_of m ≡ [])
unfolding part_at part_of
part_refused m h = (rw (ne_eqb (read_answer m) done h), rw (ne_eqb (read_answer m) done h))

-- a message that carries a part has a row
counted_known : (n : ℕ) → is_counted n ≡ true → is_message n ≡ true
unfolding is_counted is_message
counted_known n e = has_row (λ (f : Form). f.number) (λ f. f.counted) forms n e

place_told : (b : Bool) (f at : ℕ) → Some at ≡ cond b (Some f) None → (b ≡ true) × (at ≡ f)
place_told true f at e = (refl, cc)
place_told false f at e = absurd (cc)

no_place_told : (b : Bool) (f : ℕ) → None ≡ cond b (Some f) None → b ≡ false
no_place_told true f e = absurd (cc)
no_place_told false f e = refl

-- the part of a message that no text or record ends
pub part_none : (m : List ℕ) → None ≡ counted_place (message_number m) → (part_at m ≡ 0) × (part_of m ≡ [])
part_none m e = part_bare m (no_place_told (is_counted (message_number m)) (fixed_octets (message_number m)) e)

-- the part of a message whose header is not refused, by the octets in front of the length of its text or record
module _ (m : List ℕ) (h : header_answer_for protocol_version m ≡ done) (at : ℕ) (e : Some at ≡ counted_place (message_number m)) where
  abbrev num : ℕ
  num = message_number m

  told : (is_counted num ≡ true) × (at ≡ fixed_octets num)
  told = place_told (is_counted num) (fixed_octets num) at e

  judged_length : read_answer m ≡ cond (counted_fits m at) done body_length_wrong
  judged_length = header_passed m h ∙ body_counted num m (counted_known num told.0) told.0 ∙ rw (← told.1)

  pub part_behind : (part_at m ≡ cond (counted_fits m at) (at + length_octets) 0)
      × (part_of m ≡ cond (counted_fits m at) (drop (at + length_octets) m) [])
  part_behind = go (counted_fits m at) refl
    where
      go : (b : Bool) → counted_fits m at ≡ b → (part_at m ≡ cond b (at + length_octets) 0) × (part_of m ≡ cond b (drop (at + length_octets) m) [])
      go true t = rw told.1 (part_counted m (judged_length ∙ rw t) told.0)
      go false t = let a : read_answer m ≡ body_length_wrong = judged_length ∙ rw t in part_refused m (λ d. omega arith)

-- ---- writing

-- the octet of a Boolean, as the code converts it
pub octet_from : (b : Bool) → from_bool b ≡ octet_of b
octet_from true = refl
octet_from false = refl

-- a message that is begun has a text or a record of at most 1,024 octets
pub begun_short : (number session fixed : ℕ) (part out : List ℕ) {len : ℕ} {after : List ℕ}
    → Begun number session fixed part out (Ok len) after → length part ≤ max_part_octets
begun_short number session fixed part out b =
    let whole = fixed + (length_octets + length part) in
    let p = passed (counted_checks fixed part (length out)) tt (judged_ok (counted_answer fixed part (length out)) whole (sym b.answered)) in
    ltb-false max_part_octets (length part) p.0

-- what the octets are that end a message
tail_length : (b : Bool) (part : List ℕ) → length (cond b (counted_octets part) []) ≡ cond b (length_octets + length part) 0
tail_length true part = counted_length part
tail_length false part = refl

module _ (x : MessageNumbers) (part : List ℕ) where
  abbrev n : ℕ
  n = x.number

  abbrev fields : List ℕ
  fields = octets_by_widths (widths_of n) x.values

  abbrev tail : List ℕ
  tail = cond (is_counted n) (counted_octets part) []

  -- how many octets the message has
  abbrev size : ℕ
  size = fixed_octets n + cond (is_counted n) (length_octets + length part) 0

  pub layout_length : length (layout_by x part) ≡ size
  unfolding layout_by body_of
  layout_length =
      message_length protocol_version n x.session (fields ++ tail)
      ∙ omega (arith, length-append fields tail, fields_length (widths_of n) x.values, tail_length (is_counted n) part)

  -- header, fields and what ends it, put one behind the other, are the message
  abbrev front : List ℕ
  front = header_for protocol_version n x.session size ++ fields

  layout_split : layout_by x part ≡ front ++ tail
  unfolding layout_by body_of
  layout_split =
      let l : header_octets + length (fields ++ tail) ≡ size =
      sym (message_length protocol_version n x.session (fields ++ tail)) ∙ layout_length in
      ap (λ (k : ℕ). header_for protocol_version n x.session k ++ (fields ++ tail)) l
      ∙ sym (append_assoc (header_for protocol_version n x.session size) fields tail)

  front_length : length front ≡ fixed_octets n
  unfolding octets_in
  front_length = omega (arith, fields_length (widths_of n) x.values)

  module _ (out : List ℕ) where
    -- a refusal is answered and changes nothing
    refused : (a : ℕ) → (a ≡ done → ⊥) → write_answer_by x part (length out) ≡ a
        → WrittenBy x part out (Err (refusal_of a)) out
    unfolding judged write_by write_out_by
    refused a h e = record { answered = rw (e, ne_eqb a done h); left = rw (e, ne_eqb a done h) }

    -- where nothing is refused, the octets of the message are written
    wrote : (after : List ℕ) (k : ℕ) → write_answer_by x part (length out) ≡ done → length (layout_by x part) ≡ k
        → after ≡ sets out 0 (layout_by x part) → WrittenBy x part out (Ok k) after
    unfolding judged write_by write_out_by
    wrote after k h l e = record { answered = rw (h, l); left = rw h e }

    module _ (l k : List ℕ) (fits : size ≤ length out)
        (header : l ≡ put_at out 0 (header_for protocol_version n x.session size))
        (put : k ≡ put_fields l header_octets (widths_of n) x.values) where
      fields_behind : k ≡ sets out 0 front
      unfolding octets_in
      fields_behind =
          let h = header_for protocol_version n x.session size in
          let e : l ≡ sets out 0 h = header ∙ put_fits out 0 h (omega arith) in
          let z : length l ≡ length out = ap length e ∙ length-sets out 0 h in
          put
          ∙ fields_put (widths_of n) x.values l 8 (omega arith)
          ∙ ap (λ (y : List ℕ). sets y 8 fields) e
          ∙ sets_append h out 0 fields

      bare_out : is_counted n ≡ false → k ≡ sets out 0 (layout_by x part)
      bare_out c =
          fields_behind
          ∙ ap (sets out 0) (sym (append-nil front))
          ∙ ap (λ (b : Bool). sets out 0 (front ++ cond b (counted_octets part) [])) (sym c)
          ∙ ap (sets out 0) (sym layout_split)

      counted_out : is_counted n ≡ true → (after : List ℕ)
          → after ≡ put_at (put_at k (fixed_octets n) (octets_of length_octets (length part))) (behind_length n) part
          → after ≡ sets out 0 (layout_by x part)
      counted_out c after q =
          let len = octets_of 4 (length part) in
          let mid = put_at k (fixed_octets n) len in
          let s : size ≡ fixed_octets n + (4 + length part) = ap (λ (b : Bool). fixed_octets n + cond b (4 + length part) 0) c in
          let one = octets_length 4 (length part) in
          let first : mid ≡ sets out 0 (front ++ len) =
          put_behind out front k len (fixed_octets n) fields_behind front_length (omega arith) in
          q
          ∙ put_behind out (front ++ len) mid part (behind_length n) first
          (length-append front len ∙ omega (arith, front_length)) (omega arith)
          ∙ ap (sets out 0) (append_assoc front len part)
          ∙ ap (λ (b : Bool). sets out 0 (front ++ cond b (counted_octets part) [])) (sym c)
          ∙ ap (sets out 0) (sym layout_split)

    -- ---- by the widths of its fields
    module _ (ws : List ℕ) (w : widths_of n ≡ ws) where
      abbrev fixed : ℕ
      fixed = header_octets + widths_total ws

      fixed_of : fixed_octets n ≡ fixed
      fixed_of = ap (λ (v : List ℕ). header_octets + widths_total v) w

      -- a message that ends with its fields
      module _ (c : is_counted n ≡ false) where
        bare_size : size ≡ fixed
        bare_size = rw c (omega (arith, fixed_of))

        pub bare_short : length out < fixed → WrittenBy x part out (Err OutputTooShort) out
        unfolding refusal_of write_answer_by
        bare_short h =
            refused output_too_short (λ z. omega arith) (rw (c, layout_length, lt-ltb (length out) size (omega (arith, bare_size))))

        pub bare_done : (l k : List ℕ) → fixed ≤ length out → l ≡ put_at out 0 (header_for protocol_version n x.session fixed)
            → k ≡ put_fields l header_octets ws x.values → WrittenBy x part out (Ok fixed) k
        unfolding write_answer_by
        bare_done l k fits header put =
            let s = bare_size in
            wrote k fixed (rw (c, layout_length, le-ltb (length out) size (omega arith))) (layout_length ∙ s)
            (bare_out l k (omega arith) (header ∙ ap (λ (i : ℕ). put_at out 0 (header_for protocol_version n x.session i)) (sym s))
            (put ∙ ap (λ (v : List ℕ). put_fields l header_octets v x.values) (sym w)) c)

      -- a message that ends with a text or a record
      module _ (c : is_counted n ≡ true) where
        abbrev whole : ℕ
        whole = fixed + (length_octets + length part)

        counted_size : size ≡ whole
        counted_size = rw c (omega (arith, fixed_of))

        answer_by : write_answer_by x part (length out) ≡ counted_answer fixed part (length out)
        unfolding write_answer_by
        answer_by = rw (layout_length ∙ counted_size, c)

        abbrev judgement : ℕ
        judgement = counted_answer fixed part (length out)

        pub counted_long : max_part_octets < length part → WrittenBy x part out (Err RecordTooLong) out
        unfolding refusal_of
        counted_long h = refused record_too_long (λ z. omega arith) (answer_by ∙ rw (lt-ltb max_part_octets (length part) h))

        pub counted_short : length part ≤ max_part_octets → length out < whole → WrittenBy x part out (Err OutputTooShort) out
        unfolding refusal_of
        counted_short short h =
            refused output_too_short (λ z. omega arith)
            (answer_by ∙ rw (le-ltb max_part_octets (length part) short, lt-ltb (length out) whole h))

        -- where beginning it is refused
        module _ {refusal : Refusal} {after : List ℕ} (b : Begun n x.session fixed part out (Err refusal) after) where
          not_done : judgement ≡ done → ⊥
          unfolding judged
          not_done z = let q : ◌≡◌ {A = Result ℕ Refusal} (Err refusal) (judged done whole) = rw z at b.answered in absurd (cc)

          pub counted_refused : {result : Result ℕ Refusal} → IsErrAnd result (λ r. r ≡ refusal) → WrittenBy x part out result after
          unfolding write_by write_out_by
          counted_refused e =
              record {
                answered = passed_on judgement whole (length (layout_by x part)) b.answered e ∙ rw answer_by;
                left = b.left ∙ rw (ne_eqb judgement done not_done) (rw (answer_by, ne_eqb judgement done not_done));
              }

        -- where it is not, and the rest of it follows
        module _ {len : ℕ} {begun : List ℕ} (b : Begun n x.session fixed part out (Ok len) begun) where
          is_done : judgement ≡ done
          is_done = judged_ok judgement whole (sym b.answered)

          is_whole : len ≡ whole
          unfolding judged
          is_whole = let q : ◌≡◌ {A = Result ℕ Refusal} (Ok len) (judged done whole) = rw is_done at b.answered in cc

          room : whole ≤ length out
          room =
              let short = passed (counted_checks fixed part (length out)) tt is_done in
              ltb-false (length out) whole short.1.0

          pub counted_done : (k after : List ℕ) → k ≡ put_fields begun header_octets ws x.values
              → after ≡ put_at (put_at k fixed (octets_of length_octets (length part))) (fixed + length_octets) part
              → WrittenBy x part out (Ok len) after
          counted_done k after put q =
              let s = counted_size in
              let l = octets_of length_octets (length part) in
              let header : begun ≡ put_at out 0 (header_for protocol_version n x.session whole) = b.left ∙ rw is_done in
              wrote after len (answer_by ∙ is_done) (layout_length ∙ s ∙ sym is_whole)
              (counted_out begun k (omega (arith, room)) (header ∙ ap (λ (i : ℕ). put_at out 0 (header_for protocol_version n x.session i)) (sym s))
              (put ∙ ap (λ (v : List ℕ). put_fields begun header_octets v x.values) (sym w)) c after
              (q ∙ ap (λ (i : ℕ). put_at (put_at k i l) (i + length_octets) part) (sym fixed_of)))
