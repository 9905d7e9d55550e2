use Rattle.possible_reads.proofs.Claims.{one-case}
use Rattle.possible_reads.proofs.some_case_is_met.Goals as goal

pub returns : goal.returns
returns c t k claim truth candidate h = one-case t k candidate claim truth h
