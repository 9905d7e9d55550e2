use Rattle.litmus_reader.proofs.Vocabulary.{length, pieces}
use Rattle.litmus_reader.proofs.SectionSteps.{SoFar}
use Rattle.litmus_reader.proofs.section.read_section.Given as goal

abbrev pub invariant-tokens : goal.invariant-tokens
invariant-tokens l = SoFar l.set l.ends l.text (pieces l.tokens.items) l.rest

abbrev pub decreases-tokens : goal.decreases-tokens
decreases-tokens l = length l.rest
