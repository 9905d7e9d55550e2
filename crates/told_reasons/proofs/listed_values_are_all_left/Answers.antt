use Rattle.told_reasons.proofs.LeftValues.{listed-left}
use Rattle.told_reasons.proofs.listed_values_are_all_left.Goals as goal

pub returns : goal.returns
returns c = listed-left c.no_two_read_one_source.ensures c.words_add_up.ensures c.reads_add_up.ensures
