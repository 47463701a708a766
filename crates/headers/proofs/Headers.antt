-- Laws of the header, for every version: what a message says in front of its body, what a header that is not refused has, and a message
-- taken apart again.
use mathlib.Core.Path.{◌≡◌, refl, sym, ap, ◌∙◌}
use mathlib.Core.Bool.{not, true, false}
use mathlib.Core.List.{List}
use Prim.Native.Nat.{ℕ, ◌+◌, ◌^◌, ◌≤◌, ◌<◌}
use native.Mathlib.Omega.{arith}
use borrow.Author.Tests.{ltb-false, eqb-true, not-false, le-ltb, eq-eqb}
use lib.ListN.{length, drop, length-drop}
use Rattle.std.specs.Prelude.{Result, Ok, Err}
use Rattle.std.specs.Result.{IsErrAnd, is_err}
use Rattle.std.proofs.lemmas.Result.{err_from_is_err_and}
use Rattle.numbers.specs.declared.refusal.Refusal.{Refusal}
use Rattle.octets.specs.Answers.{done, Answered, judged, answer_number}
use Rattle.octets.specs.Numbers.{number_of, uint_in, uint_at, octets_in, Octets}
use Rattle.octets.proofs.Numbers.{uint_one, uint_append, read_back, cut, cut_one}
use Rattle.octets.proofs.Judging.{Passed, passed, judged_answered, judged_ok, judged_err}
use Rattle.headers.specs.Headers.{header_octets, version_of, message_number, session_of, length_field, header_for, message_for}
use Rattle.headers.specs.Headers.{header_checks_for, header_answer_for, header_reading_for}

-- ---- what a message says in front of its body

module _ (version n s : ℕ) (body : List ℕ) where
  pub message_length : length (message_for version n s body) ≡ header_octets + length body
  unfolding octets_in
  message_length = omega arith

  pub version_of_lem : version_of (message_for version n s body) ≡ version
  version_of_lem = uint_one _ 0

  pub number_of_lem : message_number (message_for version n s body) ≡ n
  number_of_lem = uint_one _ 1

  pub session_of_lem : session_of (message_for version n s body) ≡ s
  session_of_lem = uint_one _ 2

  pub body_of : drop header_octets (message_for version n s body) ≡ body
  unfolding octets_in
  body_of = refl

  -- a number of the body, at its place of the message
  pub at_body : (k w : ℕ) → uint_at (message_for version n s body) (header_octets + k) w ≡ uint_at body k w
  unfolding octets_in
  at_body k w = uint_append (header_for version n s (8 + length body)) body k w

  pub field_of : header_octets + length body < 2 ^ 32 → length_field (message_for version n s body) ≡ length (message_for version n s body)
  unfolding octets_in uint_in number_of
  field_of h = read_back 4 (8 + length body) h ∙ sym message_length

  -- its header is not refused
  pub header_right : header_octets + length body < 2 ^ 32 → Passed (header_checks_for version (message_for version n s body))
  header_right h =
      let m = message_for version n s body in (
        le-ltb (length m) 8 (omega (arith, message_length)),
        (ap not (eq-eqb (version_of m) version version_of_lem), (ap not (eq-eqb (length_field m) (length m) (field_of h)), tt)),
      )

-- ---- the answer number of what judging a header answers

module _ (version : ℕ) (m : List ℕ) where
  -- of any value
  pub judged_header : {A : Type 0} (value : A) → answer_number (judged (header_answer_for version m) value) ≡ header_answer_for version m
  unfolding header_answer_for
  judged_header value = (judged_answered value (header_checks_for version m) refl refl).number

  -- of what reading a header answers
  pub header_number : answer_number (header_reading_for version m) ≡ header_answer_for version m
  unfolding header_reading_for
  header_number = judged_header (record { session = session_of m; number = message_number m })

-- ---- a message taken apart

-- What a header that is not refused has.
pub record HeaderRight (version : ℕ) (m : List ℕ) : Type 0 where
  pub long : header_octets ≤ length m
  pub right : version_of m ≡ version
  pub whole : length_field m ≡ length m

pub header_facts : (version : ℕ) (m : List ℕ) → Passed (header_checks_for version m) → HeaderRight version m
header_facts version m p =
    record {
      long = ltb-false (length m) 8 p.0;
      right = eqb-true (version_of m) version (not-false _ p.1.0);
      whole = eqb-true (length_field m) (length m) (not-false _ p.1.1.0);
    }

-- a header that is not refused has 8 octets
pub header_long : (version : ℕ) (m : List ℕ) → header_answer_for version m ≡ done → header_octets ≤ length m
unfolding header_answer_for
header_long version m h = (header_facts version m (passed (header_checks_for version m) tt h)).long

-- ---- behind a check of the header

-- What a check of the header promises.
abbrev pub Checked : ℕ → List ℕ → Result (Unit {0}) Refusal → Type 0
Checked version m result = Answered answer_number result (judged (header_answer_for version m) tt) (header_answer_for version m)

-- a header that was checked is not refused
pub checked : (version : ℕ) (m : List ℕ) {u : Unit {0}} → Checked version m (Ok u) → header_answer_for version m ≡ done
checked version m h = judged_ok (header_answer_for version m) tt (sym h.same)

-- so it has 8 octets
pub checked_long : (version : ℕ) (m : List ℕ) {u : Unit {0}} → Checked version m (Ok u) → header_octets ≤ length m
checked_long version m h = header_long version m (checked version m h)

-- and one whose check refuses it is
pub check_refused : (version : ℕ) (m : List ℕ) {refusal : Refusal} → Checked version m (Err refusal)
    → header_answer_for version m ≡ done → ⊥
unfolding judged
check_refused version m {refusal = refusal} h z =
    let e : ◌≡◌ {A = Result (Unit {0}) Refusal} (Err refusal) (judged done tt) = rw z at h.same in absurd (cc)

-- the same by the test of what the check answers
pub checked_done : (version : ℕ) (m : List ℕ) {result : Result (Unit {0}) Refusal} → Checked version m result → is_err result ≡ false
    → header_answer_for version m ≡ done
checked_done version m {result = Ok u} h e = checked version m h
checked_done version m {result = Err refusal} h e = absurd (cc)

pub checked_refused : (version : ℕ) (m : List ℕ) {result : Result (Unit {0}) Refusal} → Checked version m result → is_err result ≡ true
    → header_answer_for version m ≡ done → ⊥
checked_refused version m {result = Ok u} h e = absurd (cc)
checked_refused version m {result = Err refusal} h e = check_refused version m h

-- a refusal that is handed on stays that of what is judged by the same number
pub passed_on : {A B : Type 0} (n : ℕ) (value : A) (other : B) {refusal : Refusal} {result : Result B Refusal}
    → Err refusal ≡ judged n value → IsErrAnd result (λ r. r ≡ refusal) → result ≡ judged n other
passed_on n value other {result = result} h e =
    let p = err_from_is_err_and result e in rw (p.1, p.2) (sym (judged_err n value other (sym h)))

-- as of an answer judged by the header's number
pub handed_on : {A : Type 0} (version : ℕ) (m : List ℕ) (value : A) {refusal : Refusal} {result : Result A Refusal}
    → Checked version m (Err refusal) → IsErrAnd result (λ r. r ≡ refusal) → result ≡ judged (header_answer_for version m) value
handed_on version m value h e = passed_on (header_answer_for version m) tt value h.same e

-- the header, then the body
pub taken_apart : (version : ℕ) (m : List ℕ) → Octets m → HeaderRight version m → uint_at m 3 1 ≡ 0
    → m ≡ message_for version (message_number m) (session_of m) (drop header_octets m)
taken_apart version m octet r z =
    let l = r.long in
    let n : uint_at m 4 4 ≡ 8 + length (drop 8 m) = omega (arith, r.whole, length-drop 8 m) in
    let a = cut_one m 0 (omega arith) in
    let b = cut_one m 1 (omega arith) in
    let d = cut_one m 2 (omega arith) in
    let e = cut_one m 3 (omega arith) in
    let f = cut m octet 4 4 l in
    let v = r.right in
    cc
