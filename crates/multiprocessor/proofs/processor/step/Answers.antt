use Rattle.multiprocessor.proofs.Vocabulary.{refl, sym, ap, ◌∙◌, words_of, Fence, Lock}
use Rattle.multiprocessor.proofs.Stepping.{access-store, access-load, access-lock, known-store, acts-store, acts-load, acts-set, acts-fence}
use Rattle.multiprocessor.proofs.Stepping.{acts-lock, succeeds-store, succeeds-load, succeeds-by}
use Rattle.tso_terms.specs.declared.choice.Outcome.TheVariants.{Moved}
use Rattle.multiprocessor.proofs.processor.step.Goals as goal

pub store-requires-clause-access : goal.store-requires-clause-access
store-requires-clause-access g c =
    access-store c.args.turn c.args.instr c.args.processor.now c.args.bus.now c.requires.core c.requires.free
    c.requires.known c.in-Store.loc c.in-Store.operand (sym c.action.ensures ∙ c.in-Store.is)

pub load-requires-clause-access : goal.load-requires-clause-access
load-requires-clause-access g c =
    access-load c.args.turn c.args.instr c.args.processor.now c.args.bus.now c.requires.core c.requires.free
    c.requires.known c.in-Load.reg c.in-Load.loc (sym c.action.ensures ∙ c.in-Load.is)

pub read_and_write-requires-clause-access : goal.read_and_write-requires-clause-access
read_and_write-requires-clause-access g c =
    access-lock c.args.turn c.args.instr c.args.processor.now c.args.bus.now c.requires.core c.requires.free
    c.requires.known c.in-Lock.loc c.in-Lock.reg c.in-Lock.update (sym c.action.ensures ∙ c.in-Lock.is)

pub returns-in-Store : goal.returns-in-Store
returns-in-Store g c = record {
  acts =
      acts-store c.args.turn c.args.instr c.args.processor.now c.args.bus.now c.store.result c.store.new.processor
      c.store.new.bus c.args.commits.now c.store.new.commits c.in-Store.loc c.in-Store.operand c.value-value.result
      (sym c.action.ensures ∙ c.in-Store.is) c.value-value.ensures c.store.ensures.acts;
  succeeds =
      succeeds-store c.args.turn c.args.instr c.args.processor.now c.args.bus.now c.store.result
      (words_of c.args.bus.now) c.in-Store.loc c.in-Store.operand c.value-value.result
      (sym c.action.ensures ∙ c.in-Store.is) c.value-value.ensures c.store.ensures.succeeds;
  err = c.store.ensures.err;
  sizes = c.store.ensures.sizes;
  depth = c.store.ensures.depth;
  stores =
      c.store.ensures.stores _
      (known-store c.args.turn c.args.instr c.args.processor.now c.args.bus.now c.in-Store.loc c.in-Store.operand
      (sym c.action.ensures ∙ c.in-Store.is) c.requires.known)
      c.requires.stores;
}

pub returns-in-Load : goal.returns-in-Load
returns-in-Load g c = record {
  acts =
      acts-load c.args.turn c.args.instr c.args.processor.now c.args.bus.now c.load.result c.load.new.processor
      c.load.new.bus c.args.commits.now c.load.new.commits c.in-Load.reg c.in-Load.loc
      (sym c.action.ensures ∙ c.in-Load.is) c.load.ensures.acts;
  succeeds =
      succeeds-load c.args.turn c.args.instr c.args.processor.now c.args.bus.now c.load.result (words_of c.args.bus.now)
      c.in-Load.reg c.in-Load.loc (sym c.action.ensures ∙ c.in-Load.is);
  err = c.load.ensures.err;
  sizes = c.load.ensures.sizes;
  depth = ap (λ s. s.depth) c.load.ensures.stores;
  stores = rw c.load.ensures.stores c.requires.stores;
}

pub returns-in-Fence : goal.returns-in-Fence
returns-in-Fence g c = record {
  acts =
      acts-fence c.args.turn c.args.instr c.args.processor.now c.args.bus.now c.fence.result c.fence.new.processor
      c.args.bus.now c.args.commits.now c.fence.new.commits (sym c.action.ensures ∙ c.in-Fence.is) c.requires.free
      (c.fence.ensures.acts c.args.bus.now);
  succeeds =
      succeeds-by c.args.turn c.args.instr c.args.processor.now c.args.bus.now c.fence.result (words_of c.args.bus.now)
      Fence (sym c.action.ensures ∙ c.in-Fence.is) c.fence.ensures.succeeds;
  err = c.fence.ensures.err c.args.bus.now;
  sizes = record { cores = refl; count = refl };
  depth = ap (λ s. s.depth) c.fence.ensures.stores;
  stores = rw c.fence.ensures.stores c.requires.stores;
}

pub returns-in-Lock : goal.returns-in-Lock
returns-in-Lock g c = record {
  acts =
      acts-lock c.args.turn c.args.instr c.args.processor.now c.args.bus.now c.read_and_write.result
      c.read_and_write.new.processor c.read_and_write.new.bus c.args.commits.now c.read_and_write.new.commits
      c.in-Lock.loc c.in-Lock.reg c.in-Lock.update (sym c.action.ensures ∙ c.in-Lock.is) c.requires.free
      c.read_and_write.ensures.acts;
  succeeds =
      succeeds-by c.args.turn c.args.instr c.args.processor.now c.args.bus.now c.read_and_write.result
      (words_of c.args.bus.now) (Lock c.in-Lock.loc c.in-Lock.reg c.in-Lock.update)
      (sym c.action.ensures ∙ c.in-Lock.is) c.read_and_write.ensures.succeeds;
  err = c.read_and_write.ensures.err;
  sizes = c.read_and_write.ensures.sizes;
  depth = ap (λ s. s.depth) c.read_and_write.ensures.stores;
  stores = rw c.read_and_write.ensures.stores c.requires.stores;
}

pub returns-in-Move : goal.returns-in-Move
returns-in-Move g c = record {
  acts =
      acts-set c.args.turn c.args.instr c.args.processor.now c.args.bus.now c.in-Move.change c.apply.new.registers _
      c.args.commits.now Moved (sym c.action.ensures ∙ c.in-Move.is) c.apply.ensures c.requires.free refl refl;
  succeeds = λ _. refl;
  err = tt;
  sizes = record { cores = refl; count = refl };
  depth = refl;
  stores = c.requires.stores;
}
