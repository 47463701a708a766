-- Either edition: what can be written reads back in its own edition, in the other it is refused with 4, and what is claimed of both.
use mathlib.Core.Path.{◌≡◌, refl, ap, ◌∙◌}
use mathlib.Core.Logic.{◌≢◌}
use mathlib.Core.List.{List, ◌++◌}
use Prim.Native.Nat.{ℕ, ◌≤◌}
use native.Mathlib.Omega.{arith}
use borrow.Author.Tests.{le-ltb, ne_eqb}
use lib.ListN.{length, take, drop}
use Rattle.std.specs.Prelude.{Result, Ok, Err}
use Rattle.numbers.specs.declared.refusal.Refusal.{Refusal}
use Rattle.numbers.specs.declared.refusal.Refusal.TheVariants as refusal
use Rattle.octets.specs.Answers.{done, other_version, answer_number, judged, refusal_of}
use Rattle.octets.specs.Numbers.{Octets}
use Rattle.octets.proofs.Stores.{sets_first}
use Rattle.headers.specs.Headers.{header_octets, version_of, header_answer_for, header_reading_for}
use Rattle.messages.specs.Messages as crane
use Rattle.messages.proofs.Messages as crane-laws
use Rattle.messages.proofs.RoundTrip as crane-trip
use Rattle.ipdr.specs.Messages as ipdr
use Rattle.ipdr.proofs.Messages as ipdr-laws
use Rattle.ipdr.proofs.RoundTrip as ipdr-trip
use Rattle.editions.specs.declared.edition.Edition.{Edition}
use Rattle.editions.specs.declared.edition.Edition.TheVariants as edition
use Rattle.editions.specs.declared.edition.Message.{Message}
use Rattle.editions.specs.declared.edition.Message.TheVariants as message
use Rattle.editions.specs.Editions.{version_for, read_answer_in, of_edition, read_in, part_in, part_at_in, edition_of}
use Rattle.editions.specs.Editions.{layout_in, write_answer_in, write_in, write_out_in}
use Rattle.editions.specs.Demand2.{WritableIn, carried_in, carried_at_in, meaning_in, PlainIn, other, OtherVersion, EditionsClaim}

-- ---- the answer number of what reading answers

-- it is the edition's
number_of : {A : Type 0} (f : A → Message) (r : Result A Refusal) → answer_number (of_edition f r) ≡ answer_number r
number_of f (Ok m) = refl
number_of f (Err refusal) = refl

pub read_number : (e : Edition) (m : List ℕ) → answer_number (read_in e m) ≡ read_answer_in e m
read_number edition.Crane m = number_of (λ x. message.Crane x) (crane.read_of m) ∙ crane-trip.reading_number m
read_number edition.Ipdr m = number_of (λ x. message.Ipdr x) (ipdr.read_of m) ∙ ipdr-trip.reading_number m

-- ---- the other edition

-- a header that names another version is refused with 4, whatever follows
other_version_lem : (version : ℕ) (m : List ℕ) → header_octets ≤ length m → (version_of m ≡ version → ⊥)
    → header_answer_for version m ≡ other_version
unfolding header_answer_for
other_version_lem version m h v = rw (le-ltb (length m) 8 h, ne_eqb (version_of m) version v)

header_other : (version : ℕ) (m : List ℕ) → header_answer_for version m ≡ other_version
    → header_reading_for version m ≡ Err refusal.OtherVersion
unfolding judged refusal_of header_reading_for
header_other version m a = rw a

other_edition_lem : (e : Edition) (m : List ℕ) → header_octets ≤ length m → version_of m ≡ version_for (other e) → OtherVersion e m
unfolding judged refusal_of crane.read_of ipdr.read_of
other_edition_lem edition.Crane m h v =
    let a = other_version_lem (version_for edition.Crane) m h (λ z. omega arith) in
    let r = crane-laws.header_refused m (λ z. omega arith) in
    let p = crane-laws.part_of_refused m (λ z. omega arith) in
    record { message = rw (r, a); header = header_other _ m a; part = (p.1, p.0) }
other_edition_lem edition.Ipdr m h v =
    let a = other_version_lem (version_for edition.Ipdr) m h (λ z. omega arith) in
    let r = ipdr-laws.header_refused m (λ z. omega arith) in
    let p = ipdr-laws.part_refused m (λ z. omega arith) in
    record { message = rw (r, a); header = header_other _ m a; part = (p.1, p.0) }

-- ---- what is written

refused_out : (m : Message) (part out : List ℕ) → write_answer_in m part (length out) ≢ done
    → (write_in m part out ≡ Err (refusal_of (write_answer_in m part (length out))))
    × ((answer_number (write_in m part out) ≡ write_answer_in m part (length out)) × (write_out_in m part out ≡ out))
unfolding judged crane.write_of crane.write_out ipdr.write_by ipdr.write_out_by
refused_out (message.Crane m) part out h =
    let e = ne_eqb (crane.write_answer m part (length out)) done h in
    (rw e, (crane-trip.written_number_lem m part out, rw e))
refused_out (message.Ipdr m) part out h =
    let e = ne_eqb (ipdr.write_answer m part (length out)) done h in
    (rw e, (ipdr-trip.written_number_lem m part out, rw e))

accepted_out : (m : Message) (part out : List ℕ) → write_answer_in m part (length out) ≡ done
    → (length (layout_in m part) ≤ length out)
    × ((write_in m part out ≡ Ok (length (layout_in m part)))
    × (write_out_in m part out ≡ layout_in m part ++ drop (length (layout_in m part)) out))
unfolding judged crane.write_of ipdr.write_by
accepted_out (message.Crane m) part out h =
    let fits = crane-trip.done_fits m part out h in
    (fits, (rw h, crane-trip.done_out m part out h ∙ sets_first out (crane.layout_of m part) fits))
accepted_out (message.Ipdr m) part out h =
    let fits = ipdr-trip.done_fits m part out h in
    (fits, (rw h, ipdr-trip.done_out m part out h ∙ sets_first out (ipdr.layout_of m part) fits))

-- ---- both ways, in either edition

reads_back_lem : (m : Message) (part out : List ℕ) → WritableIn m part → length (layout_in m part) ≤ length out
    → let octets = take (length (layout_in m part)) (write_out_in m part out) in
    (read_in (edition_of m) octets ≡ Ok m)
    × ((part_in (edition_of m) octets ≡ carried_in m part) × (part_at_in (edition_of m) octets ≡ carried_at_in m))
reads_back_lem (message.Crane m) part out w h =
    let b = crane-trip.wrote_reads m part out w h in (ap (of_edition (λ x. message.Crane x)) b.0, b.1)
reads_back_lem (message.Ipdr m) part out w h =
    let b = ipdr-trip.wrote_reads m part out w h in (ap (of_edition (λ x. message.Ipdr x)) b.0, b.1)

is_layout_lem : (e : Edition) (m : List ℕ) → Octets m → read_answer_in e m ≡ done → PlainIn e m → m ≡ layout_in (meaning_in e m) (part_in e m)
is_layout_lem edition.Crane m octet a p = crane-trip.is_layout_lem m octet a p
is_layout_lem edition.Ipdr m octet a p = ipdr-trip.is_layout_lem m octet a p

-- ---- THE CLAIM, of both editions.

pub editions : EditionsClaim
editions =
    record {
      reads_back = reads_back_lem;
      is_layout = is_layout_lem;
      other_edition = other_edition_lem;
      refused = refused_out;
      accepted = accepted_out;
    }
