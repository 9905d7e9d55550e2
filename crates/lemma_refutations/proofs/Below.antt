-- The laws of the crates below on which refutations rest.
use Rattle.lemma_refutations.proofs.Vocabulary.{ReadingsArePossible, KnownOrderIsRight, SomeWriteComesLast, LastWordsArePossible}
use Rattle.lemma_refutations.proofs.Vocabulary.{LastRegistersArePossible, SomeCaseIsMet}
use Rattle.locked_laws.specs.Turns.{SomebodyReadsTheInitialWord, EachButTheLastIsRead}

pub record Laws : Type 0 where
  pub possible : ReadingsArePossible
  pub ordered : KnownOrderIsRight
  pub last : SomeWriteComesLast
  pub words : LastWordsArePossible
  pub registers : LastRegistersArePossible
  pub cases : SomeCaseIsMet
  pub somebody : SomebodyReadsTheInitialWord
  pub each : EachButTheLastIsRead
