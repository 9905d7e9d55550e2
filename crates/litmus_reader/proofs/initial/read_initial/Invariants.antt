use Rattle.litmus_reader.proofs.Vocabulary.{◌≡◌, length, map, texts, given_of, KnowsGiven, initial, items_at, tokens_in, stop_of}
use Rattle.litmus_reader.proofs.ItemSteps.{ItemsAfter}
use Rattle.litmus_reader.proofs.initial.read_initial.Given as goal

abbrev pub invariant-items : goal.invariant-items
invariant-items l = record {
  items : ItemsAfter l.remaining (stop_of l.set l.text)
      (initial (texts l.names.items) l.state.words.items (map given_of l.state.registers.items)) (tokens_in l.set l.rest)
      (items_at l.remaining (stop_of l.set l.text) (texts l.initial.names.items) (tokens_in l.set l.initial.rest));
  knows : KnowsGiven l.state;
  stop_kept : stop_of l.set l.rest ≡ stop_of l.set l.text;
}

abbrev pub decreases-items : goal.decreases-items
decreases-items l = length l.rest
