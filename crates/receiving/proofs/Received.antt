-- Received messages: the call that one makes, by what reading its header, and reading it alone, answer. The form is judged in the order in
-- which the code reads, so a refusal of the reading is that of `form_answer`.
use Rattle.std.proofs.Common.{◌≡◌, ℕ, ◌-◌, Bool, true, false, cond, not, ◌||◌, eqb, List, [], ◌∷◌, length, sym, refl, ap, ◌∙◌, subst, arith, eq-eqb, ne_eqb, eqb-true}
use Rattle.octets.specs.Answers.{Check, ◌when◌, judge, judged, answer_number, refusal_number, refusal_of, done, other_session, message_not_accepted, body_length_wrong}
use Rattle.octets.proofs.Judging.{judged_first, judged_next}
use Rattle.wire.specs.Messages.{header_checks, header_answer, header_of, header_answer_for, header_reading_for, header_octets, read_answer, read_of}
use Rattle.wire.specs.Messages.{session_of, message_number, is_message, body_fits, meaning_of, tmpl_data}
use Rattle.messages.specs.declared.message.Message.{Message}
use Rattle.headers.specs.declared.header.Header.{Header}
use Rattle.std.specs.Prelude.{Ok, Err}
use Rattle.numbers.specs.declared.refusal.Refusal.{Refusal}
use Rattle.wire.proofs.Messages.{header_passed}
use Rattle.wire.proofs.RoundTrip.{reading_number}
use Rattle.session.proofs.StepLaws.{refused_number}
use Rattle.session.specs.Servers.{malformed}
use Rattle.session.specs.Steps.{move, is_received, form_answer, call_of_message, received}
use Rattle.receiving.specs.Requests.{call_of_reading}
use Rattle.session.specs.declared.state.Settings.{Settings}

-- ---- what reading says, by the number that it is judged by

value_told : {A : Type 0} (n : ℕ) (x h : A) → judged n x ≡ Ok h → (n ≡ done) × (x ≡ h)
unfolding judged
value_told n x h e = go (eqb n done) refl e
  where
    go : (b : Bool) → eqb n done ≡ b → cond b (Ok x) (Err (refusal_of n)) ≡ Ok h → (n ≡ done) × (x ≡ h)
    go true q k = (eqb-true n done q, cc)
    go false q k = let z : ◌≡◌ {A = ℕ} 0 1 = cc in absurd (omega arith)

-- the call that a reading stands for, by the number that it is judged by
reading_call : (v n : ℕ) (x : Message) → answer_number (judged n x) ≡ n
    → call_of_reading v (judged n x) ≡ cond (eqb n done) (call_of_message v x) (move v (malformed n))
unfolding judged
reading_call v n x h = go (eqb n done) h
  where
    go : (b : Bool) → answer_number (cond b (Ok x) (Err (refusal_of n))) ≡ n
        → call_of_reading v (cond b (Ok x) (Err (refusal_of n))) ≡ cond b (call_of_message v x) (move v (malformed n))
    go true k = refl
    go false k = ap (λ (a : ℕ). move v (malformed a)) k

-- ---- the messages that are accepted

or_cases : (a b : Bool) (P : Type 0) → (a ≡ true → P) → (b ≡ true → P) → (a || b) ≡ true → P
or_cases true b P f g e = f refl
or_cases false b P f g e = g e

-- each is a message, and none is a TMPL DATA
pub record Accepted (n : ℕ) : Type 0 where
  pub known : is_message n ≡ true
  pub plain : eqb n tmpl_data ≡ false

accepted : (n : ℕ) → is_received n ≡ true → Accepted n
unfolding is_message
accepted n e =
    or_cases (eqb n 0x01 || eqb n 0x03 || eqb n 0x13 || eqb n 0x18) (eqb n 0x21) (Accepted n)
    (or_cases (eqb n 0x01 || eqb n 0x03 || eqb n 0x13) (eqb n 0x18) (Accepted n)
    (or_cases (eqb n 0x01 || eqb n 0x03) (eqb n 0x13) (Accepted n)
    (or_cases (eqb n 0x01) (eqb n 0x03) (Accepted n) (is 0x01 (record { known = refl; plain = refl }))
    (is 0x03 (record { known = refl; plain = refl })))
    (is 0x13 (record { known = refl; plain = refl })))
    (is 0x18 (record { known = refl; plain = refl })))
    (is 0x21 (record { known = refl; plain = refl }))
    e
  where
    is : (k : ℕ) → Accepted k → eqb n k ≡ true → Accepted n
    is k a q = subst (λ (x : ℕ). Accepted x) (sym (eqb-true n k q)) a

-- ---- the call

module _ (p : Settings) (v : ℕ) (m : List ℕ) where
  -- a message that its form refuses
  by_refusal : (a : ℕ) → (a ≡ done → ⊥) → form_answer p m ≡ a → move v (malformed a) ≡ received p v m
  unfolding received
  by_refusal a h e = rw (e, ne_eqb a done h)

  -- one that its form refuses as reading alone does
  by_reading : form_answer p m ≡ read_answer m → call_of_reading v (read_of m) ≡ received p v m
  unfolding received read_of
  by_reading e = rw e (reading_call v (read_answer m) (meaning_of m) (reading_number m))

  -- what is judged behind the header
  abbrev rest : List Check
  rest =
      (other_session when not (eqb (session_of m) p.session))
      ∷ (message_not_accepted when not (is_received (message_number m)))
      ∷ (body_length_wrong when not (body_fits (message_number m) (length m - header_octets)))
      ∷ []

  pub request_refused : (r : Refusal) → refusal_number r ≡ header_answer m → header_of m ≡ Err r
      → move v (malformed (refusal_number r)) ≡ received p v m
  unfolding header_reading_for header_answer_for form_answer
  request_refused r n e =
      let h : header_answer m ≡ done → ⊥ = refused_number (record { session = session_of m; number = message_number m }) e in
      by_refusal (refusal_number r) (λ z. h (sym n ∙ z)) (judged_first (header_checks m) rest h ∙ sym n)

  module _ (h : Header) (e : header_of m ≡ Ok h) where
    facts : (header_answer m ≡ done) × ((session_of m ≡ h.session) × (message_number m ≡ h.number))
    unfolding header_reading_for
    facts =
        let q = value_told (header_answer m) (record { session = session_of m; number = message_number m }) h e in
        (q.0, (ap (λ (x : Header). x.session) q.1, ap (λ (x : Header). x.number) q.1))

    behind : form_answer p m ≡ judge rest
    unfolding header_answer_for form_answer
    behind = judged_next (header_checks m) rest tt facts.0

    pub request_session : (h.session ≡ p.session → ⊥) → move v (malformed other_session) ≡ received p v m
    request_session n =
        by_refusal other_session (λ z. omega arith) (behind ∙ rw (facts.1.0, ne_eqb h.session p.session n))

    pub request_number : h.session ≡ p.session → is_received h.number ≡ false → move v (malformed message_not_accepted) ≡ received p v m
    request_number s n =
        by_refusal message_not_accepted (λ z. omega arith) (behind ∙ rw (facts.1.0, facts.1.1, eq-eqb h.session p.session s, n))

    pub request_body : h.session ≡ p.session → is_received h.number ≡ true → call_of_reading v (read_of m) ≡ received p v m
    request_body s n =
        let a = accepted h.number n in
        by_reading
        (behind
        ∙ rw (facts.1.0, facts.1.1, eq-eqb h.session p.session s, n)
        (sym (header_passed m facts.0 ∙ rw (facts.1.1, a.known, a.plain))))
