use Rattle.cache_set.proofs.Vocabulary.{◌≡◌, ℕ, map, option_map, if◌then◌else◌, nat_lt, tags_in, copy_in, line_in, cleaned_below, clean_copy, words_if_dirty}
use Rattle.cache_set.proofs.cleaning.settle_cache.Given as goal

abbrev pub invariant-loop-line : goal.invariant-loop-line
invariant-loop-line g l = record {
  tags : map tags_in l.cache ≡ map (cleaned_below l.line) (map tags_in l.fn.cache);
  copies : (k : ℕ) → copy_in l.cache k ≡ (if nat_lt k l.line then option_map clean_copy (copy_in l.fn.cache k) else copy_in l.fn.cache k);
  memory : (k : ℕ) → line_in l.memory k ≡ (if nat_lt k l.line then words_if_dirty (copy_in l.fn.cache k) (line_in l.fn.memory k) else line_in l.fn.memory k);
  ways : map (λ s. s.ways) l.cache ≡ map (λ s. s.ways) l.fn.cache;
}
