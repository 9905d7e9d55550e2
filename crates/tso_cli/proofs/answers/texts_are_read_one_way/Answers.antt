use Rattle.tso_cli.proofs.answers.texts_are_read_one_way.Goals as goal

pub returns : goal.returns
returns c = record {
  one_test = c.test_is_spelled_once.ensures.once;
  refused_or_not = c.test_is_spelled_once.ensures.never_both;
  one_refusal = c.test_is_spelled_once.ensures.one_refusal;
  test = c.test_is_spelled_once.ensures.within;
  short = c.test_is_spelled_once.ensures.short;
  decided = c.texts_are_decided.ensures;
  once = c.order_is_spelled_once.ensures.once;
  never_both = c.order_is_spelled_once.ensures.never_both;
  one_fault = c.order_is_spelled_once.ensures.one_fault;
  one = c.first_breach_is_one.ensures;
  real = c.first_breach_is_real.ensures;
}
