use Rattle.multiprocessor.proofs.Vocabulary.{◌≡◌, ◌<◌, ap, sym, length, drop, subst, All, All-drop, words_of, drain_access, core_state}
use Rattle.multiprocessor.proofs.Vocabulary.{pending_in, effect_of_drain, MayMake}
use Rattle.multiprocessor.proofs.CoreLemmas.{drain_of-nothing}
use Rattle.multiprocessor.proofs.ActedLemmas.{whole-none, acts-stalls, acts-drains}
use Rattle.multiprocessor.proofs.Acting.{writes-nothing, writes-oldest}
use Rattle.multiprocessor.proofs.Finishing.{All-got}
use Rattle.multiprocessor.proofs.processor.drain.Goals as goal

pub returns-in-None-clause-acts : goal.returns-in-None-clause-acts
returns-in-None-clause-acts g c =
    let p = c.args.processor.now in
    let core = c.args.turn.core.0 in
    let access = drain_access (pending_in core p) in
    let whole = whole-none c.args.turn c.args.bus.now access (writes-nothing core p.stores.items (sym c.in-None.ensures)) c.requires.free in
    acts-stalls c.args.turn.way access core p c.args.bus.now c.args.commits.now (effect_of_drain core p (words_of c.args.bus.now)) _ whole
    (sym (drain_of-nothing core (core_state core p) p.stores.items (sym c.in-None.ensures)))

pub returns-in_ok-report-in-Some-clause-stores : goal.returns-in_ok-report-in-Some-clause-stores
returns-in_ok-report-in-Some-clause-stores g c =
    let items : c.take_oldest.new.self.items ≡ drop 1 c.args.processor.now.stores.items = ap (λ s. s.items) c.take_oldest.ensures.rest in
    subst (λ stores. All (λ s. s.loc.0 < length (words_of c.args.bus.now)) stores) (sym items)
    (All-drop (λ s. s.loc.0 < length (words_of c.args.bus.now)) 1 c.args.processor.now.stores.items c.requires.stores)

pub returns-in_ok-report-in-Some-clause-acts : goal.returns-in_ok-report-in-Some-clause-acts
returns-in_ok-report-in-Some-clause-acts g c =
    acts-drains c.args.turn c.args.processor.now c.take_oldest.new.self c.args.bus.now c.write.new.bus c.args.commits.now c.write.new.commits c.in-Some.store _
    c.in-Some.ensures (ap (λ s. s.items) c.take_oldest.ensures.rest) c.in_ok-report-in-Some.ensures.stored c.in_ok-report-in-Some.ensures.made

pub write-requires : goal.write-requires
write-requires g c = record {
  access = record {
    core = c.requires.core;
    free =
        subst (MayMake c.args.turn c.args.bus.now)
        (sym (writes-oldest c.args.turn.core.0 c.args.processor.now.stores.items c.in-Some.store c.in-Some.ensures))
        c.requires.free;
    known =
        All-got (λ s. s.loc.0 < length (words_of c.args.bus.now)) c.args.processor.now.stores.items 0 c.in-Some.store
        c.requires.stores (sym c.in-Some.ensures);
  };
}

pub returns-in_ok-report-in-Some-clause-depth : goal.returns-in_ok-report-in-Some-clause-depth
returns-in_ok-report-in-Some-clause-depth g c = ap (λ s. s.depth) c.take_oldest.ensures.rest

pub returns-in_ok-report-in-Some-clause-sizes : goal.returns-in_ok-report-in-Some-clause-sizes
returns-in_ok-report-in-Some-clause-sizes g c = c.write.ensures.sizes
