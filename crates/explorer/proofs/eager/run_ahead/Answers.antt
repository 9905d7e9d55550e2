use Rattle.explorer.proofs.Searching.{settled-none, settled-more}
use Rattle.explorer.proofs.eager.run_ahead.Goals as goal

pub loop-made-init : goal.loop-made-init
loop-made-init c = record { settled = settled-none _ _ _ _; cores = c.requires.cores }

pub loop-made-preserved : goal.loop-made-preserved
loop-made-preserved c = record {
  settled =
      settled-more _ _ _ _ _ _ _ _ _ c.loop-made.invariant.settled c.in-Some.ensures.eager c.in-Some.ensures.core
      (c.eager_choices_take_effect.ensures _ _ _ _ c.in-Some.ensures.eager) c.in_ok-act-in-Some.ensures.after
      c.in_ok-push-in-Some.ensures.items;
  cores = c.in_ok-act-in-Some.ensures.cores;
}
