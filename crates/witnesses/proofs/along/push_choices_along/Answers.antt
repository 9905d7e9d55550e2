use Rattle.witnesses.proofs.Vocabulary.{◌++◌, ◌∙◌, ap, length, get_or, drop_more, Entry, R, choices_from}
use Rattle.witnesses.proofs.AlongLemmas.{as-many, core-in, entry-made, as-many-after, all-made, all-begun, on-ok}
use Rattle.witnesses.proofs.along.push_choices_along.Goals as goal

-- what a place out of range would read
abbrev none : Entry
none = record { core = record { 0 = 0 }; place = 0; kind = R; loc = record { 0 = 0 }; value = 0 }

pub loop-entry-init : goal.loop-entry-init
loop-entry-init c =
    let begun = all-begun c.args.test.now.programs c.from.result 8 (c.from.ensures ∙ c.cores.ensures.value) c.know_limits.ensures.cores in
    record {
      made = ap (λ places. c.args.choices.now.items ++ choices_from c.args.test.now places c.args.order.now) begun;
      cores = as-many c.args.test.now.programs _ begun;
    }

pub push_choices_for-requires : goal.push_choices_for-requires
push_choices_for-requires c =
    core-in c.args.order.now c.loop-entry.entry-index (length c.loop-entry.places) (length c.args.test.now.programs)
    none c.requires c.loop-entry-test.true c.loop-entry.invariant.cores

pub loop-entry-preserved : goal.loop-entry-preserved
loop-entry-preserved c = record {
  made = entry-made c.args.test.now _ _ _ c.loop-entry.choices.items c.push_choices_for.new.choices.items _ c.loop-entry.places c.push_choices_for.new.places
      (drop_more c.args.order.now c.loop-entry.entry-index none c.loop-entry-test.true)
      c.in_ok-push_choices_for.ensures.choices c.in_ok-push_choices_for.ensures.places c.loop-entry.invariant.made;
  cores =
      as-many-after c.loop-entry.places c.push_choices_for.new.places
      (get_or c.args.order.now c.loop-entry.entry-index none) _ c.in_ok-push_choices_for.ensures.places
      c.loop-entry.invariant.cores;
}

pub push_last_steps-requires : goal.push_last_steps-requires
push_last_steps-requires c = c.loop-entry.invariant.cores

pub returns : goal.returns
returns c =
    on-ok c.push_last_steps.result (λ e.
    all-made c.args.test.now c.args.order.now c.loop-entry.entry-index c.loop-entry.choices.items
    c.push_last_steps.new.choices.items _ c.loop-entry.places c.loop-entry-test.false e c.loop-entry.invariant.made)
    c.push_last_steps.ensures
