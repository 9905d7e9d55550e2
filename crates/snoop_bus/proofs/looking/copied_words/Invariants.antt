use Rattle.snoop_bus.proofs.Vocabulary.{◌≡◌, drop, words_among}
use Rattle.snoop_bus.proofs.looking.copied_words.Given as goal

-- the first copy is among those that are left, if there is one at all
abbrev pub invariant-loop-cache : goal.invariant-loop-cache
invariant-loop-cache l = words_among l.caches l.line ≡ words_among (drop l.cache-index l.caches) l.line
