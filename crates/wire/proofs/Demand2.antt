-- What is written reads back. Messages: the law of round trips. Fields: the law of reading back gives length and value, and what was stored
-- at a place stands there. Records: the laws of whole records.
use borrow.Author.Tests.{eq-eqb}
use Rattle.octets.specs.Answers.{done}
use Rattle.appending.specs.Append.{field_octets, append_answer, append_out}
use Rattle.appending.proofs.ExactFields.{append_exact}
use Rattle.appending.proofs.ReadBack.{append_done, append_reads_back}
use Rattle.messages.proofs.RoundTrip.{wrote_reads}
use Rattle.wire.specs.Demand2.{Demand2, FieldsReadBack}
use Rattle.wire.proofs.WholeRecords.{stored_part, records_made, records_read_back, empty_records}

fields_read_back : FieldsReadBack
unfolding append_out
fields_read_back order type value octets out at h =
    let b = append_reads_back order type value octets out at h in
    let d = append_done order type value octets out at h in
    record {
      len = b.len;
      same = b.same;
      exact = append_exact order type value octets out at h;
      stands =
          rw (eq-eqb (append_answer order type value octets out at) done h)
          (stored_part out (field_octets order type value octets) at d.1);
      content = b.stands;
    }

pub demand2 : Demand2
demand2 =
    record {
      messages = wrote_reads;
      fields = fields_read_back;
      made = records_made;
      records = records_read_back;
      empty = empty_records;
    }
