use Rattle.order_builder.proofs.PrintLaws.{printed_alone, printed_spells}
use Rattle.order_builder.proofs.order_texts.printed_order_is_spelled.Goals as goal

pub returns-clause-alone : goal.returns-clause-alone
returns-clause-alone c = printed_alone

pub returns-clause-amid : goal.returns-clause-amid
returns-clause-amid c = printed_spells
