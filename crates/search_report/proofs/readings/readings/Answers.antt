use Rattle.search_report.proofs.Vocabulary.{◌∙◌, ◌+◌, ap, sym, subst, refl, filter, is_read, AreIn, AreReadings}
use Rattle.search_report.proofs.ShownReasons.{in-one, reading-more, reading-less, readings-done}
use Rattle.search_report.proofs.readings.readings.Goals as goal
use Rattle.search_report.proofs.readings.readings.Goals.{then-is_read+in_ok-push, else-is_read}

pub source_in-requires : goal.source_in-requires
source_in-requires c =
    in-one c.args.order.now c.deref-read-items.result.now c.loop-read.read-index _ c.loop-read-test.true
    (subst (AreIn c.args.order.now) (sym (c.deref-read-items.ensures.value ∙ c.in_ok-entries.ensures)) c.requires)

pub loop-read-preserved : goal.loop-read-preserved
loop-read-preserved c =
    elim c.if-is_read.branch [
      | then-is_read+in_ok-push w ↦
          reading-more c.args.order.now c.deref-read-items.result.now c.loop-read.read-index
          (c.loop-read.read-index + 1) _ c.loop-read-test.true refl c.is_read.result
          c.is_read.ensures c.loop-read.all.items c.if-is_read.all.items c.loop-read.invariant w.if-is_read.true _ w.event_of.ensures w.source_in.ensures
          (ap (λ v. v.items) w.all-is ∙ w.in_ok-push.ensures.items)
      | else-is_read w ↦
          reading-less c.args.order.now c.deref-read-items.result.now c.loop-read.read-index
          (c.loop-read.read-index + 1) _ c.loop-read-test.true refl c.is_read.result
          c.is_read.ensures c.loop-read.all.items c.if-is_read.all.items c.loop-read.invariant w.if-is_read.false (ap (λ v. v.items) w.all-is)
    ]

pub returns : goal.returns
returns c =
    subst (λ es. AreReadings c.args.order.now (filter is_read es) c.loop-read.all.items) (c.deref-read-items.ensures.value ∙ c.in_ok-entries.ensures)
    (readings-done c.args.order.now c.deref-read-items.result.now c.loop-read.read-index c.loop-read.all.items c.loop-read-test.false c.loop-read.invariant)
