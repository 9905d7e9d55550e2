use Rattle.possible_reads.proofs.Ends.{truth-left}
use Rattle.possible_reads.proofs.truths_are_those_left.Goals as goal

pub returns : goal.returns
returns c t k claim names = truth-left t k claim names
