use Rattle.cache_set.proofs.Vocabulary.{arith, ◌≡◌, ℕ, List, length, map, sym, ap, ◌∙◌, rules, tags_in, TagSet, cleaned_at, cleaned_below}
use Rattle.cache_set.proofs.SettleTags.{below_none, below_more, below_all}
use Rattle.cache_set.proofs.SettleSteps.{copies_none, copies_more, memory_none, memory_more}
use Rattle.cache_set.proofs.cleaning.settle_cache.Goals as goal

pub loop-line-init : goal.loop-line-init
loop-line-init g c = record {
  tags = sym (below_none (map tags_in c.args.cache.now));
  copies = copies_none c.args.cache.now;
  memory = memory_none c.args.cache.now c.args.memory.now;
  ways = search rules;
}

pub loop-line-preserved : goal.loop-line-preserved
loop-line-preserved g c = record {
  tags =
      c.settle_line.ensures.tags
      ∙ ap (λ (ts : List TagSet). map (cleaned_at c.loop-line.line) ts) c.loop-line.invariant.tags
      ∙ below_more c.loop-line.line (map tags_in c.args.cache.now);
  copies = copies_more c.args.cache.now c.loop-line.cache c.settle_line.new.cache c.loop-line.line c.loop-line.invariant.copies c.settle_line.ensures.copies;
  memory =
      memory_more c.args.cache.now c.loop-line.cache c.args.memory.now c.loop-line.memory c.settle_line.new.memory
      c.loop-line.line c.loop-line.invariant.copies c.loop-line.invariant.memory c.settle_line.ensures.memory;
  ways = c.settle_line.ensures.ways ∙ c.loop-line.invariant.ways;
}

pub returns-clause-tags : goal.returns-clause-tags
returns-clause-tags g c =
    let all : c.loop-line.line ≡ length c.args.memory.now = omega arith in
    c.loop-line.invariant.tags
    ∙ ap (λ (n : ℕ). map (cleaned_below n) (map tags_in c.args.cache.now)) all
    ∙ below_all (length c.args.memory.now) c.args.cache.now c.know_sets.ensures.home c.requires.within
