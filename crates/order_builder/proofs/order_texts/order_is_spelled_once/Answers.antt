use Rattle.order_builder.proofs.ContractLemmas.{spelled_once, spelled_either, spelled_never_both, one_fault}
use Rattle.order_builder.proofs.order_texts.order_is_spelled_once.Goals as goal

pub returns-clause-once : goal.returns-clause-once
returns-clause-once c = spelled_once

pub returns-clause-either : goal.returns-clause-either
returns-clause-either c = spelled_either

pub returns-clause-never_both : goal.returns-clause-never_both
returns-clause-never_both c = spelled_never_both

pub returns-clause-one_fault : goal.returns-clause-one_fault
returns-clause-one_fault c = one_fault
