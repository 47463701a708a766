-- Laws of the form of a received message, for any session and any accepted numbers: it is judged in the order in which a side reads, the
-- header, the session, the number, then the body; so a refusal on the way is the form's answer.
use mathlib.Core.Path.{◌≡◌, refl, sym, ap, subst, ◌∙◌}
use mathlib.Core.Bool.{Bool, true, false, ◌||◌}
use mathlib.Core.List.{List, ◌++◌}
use Prim.Native.Nat.{ℕ, ◌-◌, ◌≤◌}
use native.Mathlib.Omega.{arith}
use borrow.Author.Tests.{eqb-true, eq-eqb, ne_eqb, le-leb}
use lib.Dec.{eqb}
use lib.ListN.{length}
use Rattle.std.specs.Prelude.{Ok, Err}
use Rattle.numbers.specs.declared.refusal.Refusal.{Refusal}
use Rattle.octets.specs.Answers.{judge, judged, answer_number, refusal_number, done, short_message, other_session, message_not_accepted, body_length_wrong}
use Rattle.octets.proofs.Judging.{judged_first, judged_next, judge_numbered, judged_ok, judged_err}
use Rattle.headers.specs.declared.header.Header.{Header}
use Rattle.messages.specs.Messages.{header_checks, header_answer, header_of, header_answer_for, header_reading_for, read_answer, session_of}
use Rattle.messages.specs.Messages.{message_number, is_message, body_fits, tmpl_data}
use Rattle.messages.specs.Received.{received_checks, form_answer_for}
use Rattle.messages.proofs.Messages.{header_passed}
use Rattle.messages.proofs.RoundTrip.{header_number}

-- ---- what reading a header says

-- what a header that is not refused says
pub record Told (m : List ℕ) (h : Header) : Type 0 where
  pub passed : header_answer m ≡ done
  pub session : session_of m ≡ h.session
  pub number : message_number m ≡ h.number

pub told : (m : List ℕ) (h : Header) → header_of m ≡ Ok h → Told m h
unfolding header_reading_for judged
told m h e =
    let said : Header = record { session = session_of m; number = message_number m } in
    let p = judged_ok (header_answer m) said e in
    let q : judged done said ≡ Ok h = rw p at e in
    let s : said ≡ h = cc in
    record { passed = p; session = ap (λ (x : Header). x.session) s; number = ap (λ (x : Header). x.number) s }

-- ---- message numbers that are accepted

pub or_cases : (a b : Bool) (P : Type 0) → (a ≡ true → P) → (b ≡ true → P) → (a || b) ≡ true → P
or_cases true b P f g e = f refl
or_cases false b P f g e = g e

-- the number is a message's, and not TMPL DATA's
pub record Tableless (n : ℕ) : Type 0 where
  pub known : is_message n ≡ true
  pub plain : eqb n tmpl_data ≡ false

-- what holds of a number holds of one that is tested equal to it
pub tableless : (n k : ℕ) → Tableless k → eqb n k ≡ true → Tableless n
tableless n k a q = subst (λ (x : ℕ). Tableless x) (sym (eqb-true n k q)) a

-- ---- the form

-- A form that is refused with a number.
pub record RefusedForm (form a : ℕ) : Type 0 where
  pub refused : a ≡ done → ⊥
  pub same : form ≡ a

module _ (accepts : ℕ → Bool) (session : ℕ) (m : List ℕ) where
  abbrev form : ℕ
  form = form_answer_for accepts session m

  -- a refused form has one of 3 to 8
  pub form_numbered : (form ≡ done → ⊥) → (short_message ≤ form) × (form ≤ body_length_wrong)
  unfolding form_answer_for
  form_numbered h = judge_numbered short_message body_length_wrong (header_checks m ++ received_checks accepts session m) refl h

  module _ (refusal : Refusal) (e : header_of m ≡ Err refusal) where
    header_refusal : header_answer m ≡ refusal_number refusal
    header_refusal = sym (header_number m) ∙ ap answer_number e

    not_done : header_answer m ≡ done → ⊥
    unfolding header_reading_for judged
    not_done z =
        let said : Header = record { session = session_of m; number = message_number m } in
        let q : judged done said ≡ Err refusal = rw z at e in
        absurd (cc)

    form_first : form ≡ header_answer m
    unfolding header_answer_for form_answer_for
    form_first = judged_first (header_checks m) (received_checks accepts session m) not_done

    -- a refused header
    pub form_header : RefusedForm form (refusal_number refusal)
    form_header =
        record {
          refused = λ z. not_done (header_refusal ∙ z);
          same = form_first ∙ header_refusal;
        }

    -- whose refusal is that of what is judged by the form
    pub form_err : {A : Type 0} (value : A) → judged form value ≡ Err refusal
    unfolding header_reading_for
    form_err value = rw form_first (judged_err (header_answer m) (record { session = session_of m; number = message_number m }) value e)

  module _ (h : Header) (e : header_of m ≡ Ok h) where
    behind : form ≡ judge (received_checks accepts session m)
    unfolding header_answer_for form_answer_for
    behind = judged_next (header_checks m) (received_checks accepts session m) tt (told m h e).passed

    -- another session
    pub form_session : (h.session ≡ session → ⊥) → RefusedForm form other_session
    form_session n =
        record { refused = λ z. omega arith; same = behind ∙ rw ((told m h e).session, ne_eqb h.session session n) }

    module _ (s : h.session ≡ session) where
      -- a number that is not accepted
      pub form_number : accepts h.number ≡ false → RefusedForm form message_not_accepted
      form_number n =
          record {
            refused = λ z. omega arith;
            same = behind ∙ rw ((told m h e).session, (told m h e).number, eq-eqb h.session session s, n);
          }

      -- an accepted number of a message without a table: the body is judged as in reading alone
      pub form_body : accepts h.number ≡ true → Tableless h.number → form ≡ read_answer m
      form_body n t =
          behind
          ∙ rw ((told m h e).session, (told m h e).number, eq-eqb h.session session s, n)
          (sym (header_passed m (told m h e).passed ∙ rw ((told m h e).number, t.known, t.plain)))

      -- a TMPL DATA that is accepted: its body fits whatever its length
      pub form_table : accepts tmpl_data ≡ true → h.number ≡ tmpl_data → form ≡ done
      unfolding body_fits
      form_table n k =
          behind
          ∙ rw ((told m h e).session, (told m h e).number, eq-eqb h.session session s, k, n, le-leb 0 (length m - 8) (omega arith))
