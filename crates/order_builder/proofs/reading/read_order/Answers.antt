use Rattle.order_builder.proofs.Vocabulary.{◌≡◌, ◌+◌, ◌^◌, ◌<◌, length, count_by, is_line_feed, Err, arith, Gives, entries_of_order, order_of, NoOrder}
use Rattle.order_builder.proofs.ContractLemmas.{is_found, is_only, is_fault, is_only_fault, read_after, read_nowhere}
use Rattle.order_builder.proofs.reading.read_order.Goals as goal

pub returns-in-Some : goal.returns-in-Some
returns-in-Some c =
    let small : length c.args.text.now < 2 ^ 64 = omega arith in
    let test = c.know_limits.ensures in
    let read : Gives entries_of_order c.read_entries.result (order_of c.args.test.now c.args.text.now) =
    read_after c.args.test.now c.args.text.now c.in-Some.after.now (count_by is_line_feed c.in-Some.before.now + 1)
    c.read_entries.result c.in-Some.ensures.value c.read_entries.ensures in
    record {
      found = is_found c.args.test.now c.args.text.now c.read_entries.result small read;
      only = is_only c.args.test.now c.args.text.now c.read_entries.result test small read;
      fault = is_fault c.args.test.now c.args.text.now c.read_entries.result test read;
      only_fault = is_only_fault c.args.test.now c.args.text.now c.read_entries.result test read;
    }

pub returns-in-None : goal.returns-in-None
returns-in-None c =
    let small : length c.args.text.now < 2 ^ 64 = omega arith in
    let test = c.know_limits.ensures in
    let read : order_of c.args.test.now c.args.text.now ≡ Err NoOrder = read_nowhere c.args.test.now c.args.text.now c.in-None.ensures.value in
    record {
      found = tt;
      only = is_only c.args.test.now c.args.text.now (Err NoOrder) test small read;
      fault = is_fault c.args.test.now c.args.text.now (Err NoOrder) test read;
      only_fault = is_only_fault c.args.test.now c.args.text.now (Err NoOrder) test read;
    }
