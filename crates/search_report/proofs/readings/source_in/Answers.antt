use Rattle.search_report.proofs.Vocabulary.{◌∙◌, Some, refl, sym, ap, filter, take, writes_to}
use Rattle.search_report.specs.inner.ShownExecutions.{event_of_write}
use Rattle.search_report.proofs.ShownReasons.{last-of, reads-last}
use Rattle.search_report.proofs.readings.source_in.Goals as goal

pub loop-e-init : goal.loop-e-init
loop-e-init c = last-of (filter (writes_to c.args.read.now.loc.0) (take c.place_in-at.result c.args.order.now))

pub returns-in-None : goal.returns-in-None
returns-in-None c =
    reads-last c.args.order.now c.args.read.now c.place_in-at.result c.loop-e.e-index c.loop-e-2.e-index c.loop-e.last c.loop-e-2.last _
    c.place_in-at.ensures.place c.loop-e.invariant c.loop-e-test.false _ refl c.loop-e-2.invariant c.loop-e-2-test.false (ap event_of_write (sym c.in-None.is))

pub returns-in-Some : goal.returns-in-Some
returns-in-Some c =
    reads-last c.args.order.now c.args.read.now c.place_in-at.result c.loop-e.e-index c.loop-e-2.e-index c.loop-e.last c.loop-e-2.last _
    c.place_in-at.ensures.place c.loop-e.invariant c.loop-e-test.false _ refl c.loop-e-2.invariant c.loop-e-2-test.false
    (ap (λ e. Some e) c.event_of.ensures ∙ ap event_of_write (sym c.in-Some.is))
