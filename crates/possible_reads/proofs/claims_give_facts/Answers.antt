use Rattle.possible_reads.proofs.Claims.{gives}
use Rattle.possible_reads.proofs.claims_give_facts.Goals as goal

pub returns : goal.returns
returns c t k claim truth candidate h = gives t k candidate claim truth h
