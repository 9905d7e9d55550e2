use Rattle.promises.proofs.counts.many_runs.counts_are_those_of_the_runs.Goals as goal

pub returns : goal.returns
returns c = record {
  twelve = c.counts_tell_their_runs.ensures.twelve;
  ended = λ t kind k plan. (c.counts_tell_their_runs.ensures.plans t kind k plan).ended;
  all = λ t kind k plan. (c.counts_tell_their_runs.ensures.plans t kind k plan).all;
  size = λ t kind k plan. (c.counts_tell_their_runs.ensures.plans t kind k plan).size;
  numbers = λ t kind k plan. (c.counts_tell_their_runs.ensures.plans t kind k plan).numbers;
}
