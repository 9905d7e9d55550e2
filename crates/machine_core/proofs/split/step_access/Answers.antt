use Rattle.machine_core.proofs.Vocabulary.{sym, ◌∙◌, pending_in, writes_to}
use Rattle.multiprocessor.proofs.CacheUses.{answered, unanswered}
use Rattle.multiprocessor.proofs.CoreLemmas.{holds_some}
use Rattle.multiprocessor.proofs.Acting.{reads, forwarded, waits}
use Rattle.machine_core.proofs.split.step_access.Goals as goal

pub returns-in-None-clause-value : goal.returns-in-None-clause-value
returns-in-None-clause-value c = λ core.
    rw (sym c.action.ensures ∙ c.in-Load.is)
    (reads c.in-Load.loc (pending_in core c.args.processor.now) (unanswered core c.in-Load.loc.0 c.args.processor.now.stores.items c.in-None.ensures))

pub returns-in-Some-clause-value : goal.returns-in-Some-clause-value
returns-in-Some-clause-value c = λ core.
    rw (sym c.action.ensures ∙ c.in-Load.is)
    (forwarded c.in-Load.loc (writes_to c.in-Load.loc.0) (pending_in core c.args.processor.now)
    (answered core c.in-Load.loc.0 _ c.args.processor.now.stores.items c.in-Some.ensures))

pub returns-else-is_empty-clause-value : goal.returns-else-is_empty-clause-value
returns-else-is_empty-clause-value c = λ core.
    let some = holds_some c.is_empty.result c.args.processor.now.stores.items c.is_empty.ensures.1 c.if-is_empty.false in
    rw (sym c.action.ensures ∙ c.in-Lock.is) (waits core c.in-Lock.loc c.args.processor.now.stores.items some)
