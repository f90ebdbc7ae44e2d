use Rattle.paxidore_calls.proofs.Numbers.{elements_answer}
use Rattle.paxidore_calls.proofs.transcript.forms.OwnElementForm.read_elements.Goals as goal

pub returns : goal.returns
returns g c =
    let read = c.read_items.ensures in
    record {
      answer = elements_answer _ _ _ _ _ g.met.F.Field.reads_numbers c.args.count c.args.bytes.now (λ row. row.items)
          c.read_items.result read.answer;
      within = read.within;
    }
