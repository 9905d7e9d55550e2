use Rattle.std.proofs.Common.{◌≡◌, ◌++◌, drop}
use Rattle.tso_terms.specs.FinalState.{words_from}
use Rattle.execution_check.proofs.final_state.words_left.Given as goal

abbrev pub invariant-loop-word : goal.invariant-loop-word
invariant-loop-word l = record {
  loc : l.loc ≡ l.word-index;
  words : words_from 0 l.word-items l.order ≡ l.left.items ++ words_from l.loc (drop l.word-index l.word-items) l.order;
}
