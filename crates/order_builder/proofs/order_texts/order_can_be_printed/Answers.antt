use Rattle.order_builder.proofs.ContractLemmas.{all_printable}
use Rattle.order_builder.proofs.order_texts.order_can_be_printed.Goals as goal

pub returns : goal.returns
returns c = all_printable
