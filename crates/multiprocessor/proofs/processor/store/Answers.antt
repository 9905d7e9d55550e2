use Rattle.multiprocessor.proofs.Vocabulary.{refl, words_of, store_access, effect_of_store}
use Rattle.multiprocessor.proofs.Storing.{buffered, unbuffered, access-at_once, succeeds-at_once, acts-at_once}
use Rattle.multiprocessor.proofs.ActedLemmas.{whole-none, acts-waits}
use Rattle.multiprocessor.proofs.processor.store.Goals as goal

pub returns-then-are_buffered : goal.returns-then-are_buffered
returns-then-are_buffered g c =
    let words = words_of c.args.bus.now in
    let access = store_access c.args.processor.now.stores.depth c.args.loc in
    let whole =
    whole-none c.args.turn c.args.bus.now access
    (buffered c.args.processor.now.stores.depth c.args.loc (c.are_buffered.ensures.0 c.if-are_buffered.true))
    c.requires.access.free in
    record {
      acts = acts-waits c.args.turn.way access c.args.turn.core.0 c.args.processor.now c.buffer.new.processor c.args.bus.now c.args.commits.now
          (effect_of_store c.args.loc c.args.value c.args.turn.core.0 c.args.processor.now words) c.buffer.result whole
          (c.buffer.ensures.waits c.args.turn.core.0 words);
      succeeds = λ _. refl;
      err = tt;
      sizes = record { cores = refl; count = refl };
      depth = c.buffer.ensures.depth;
      stores = c.buffer.ensures.stores;
    }

pub write-requires : goal.write-requires
write-requires g c =
    record {
      access =
          access-at_once c.args.turn c.args.loc c.args.value c.args.processor.now c.args.bus.now
          (unbuffered c.args.processor.now.stores.depth c.are_buffered.result c.are_buffered.ensures.1 c.if-are_buffered.false)
          c.requires.access;
    }

pub returns-in_err-report-clause-succeeds : goal.returns-in_err-report-clause-succeeds
returns-in_err-report-clause-succeeds g c =
    succeeds-at_once c.args.turn c.args.loc c.args.value c.args.processor.now c.args.bus.now
    (unbuffered c.args.processor.now.stores.depth c.are_buffered.result c.are_buffered.ensures.1 c.if-are_buffered.false)
    _ (words_of c.args.bus.now)

pub returns : goal.returns
returns g c = record {
  acts =
      acts-at_once c.args.turn c.args.loc c.args.value c.args.processor.now c.args.bus.now
      (unbuffered c.args.processor.now.stores.depth c.are_buffered.result c.are_buffered.ensures.1 c.if-are_buffered.false)
      c.write.new.bus c.args.commits.now c.write.new.commits c.in_ok-report.report c.in_ok-report.ensures.stored
      c.in_ok-report.ensures.made;
  succeeds = λ _. refl;
  err = tt;
  sizes = c.write.ensures.sizes;
  depth = refl;
  stores = λ n l known. known;
}
