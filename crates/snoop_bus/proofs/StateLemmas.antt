-- The state of a line in the caches.
use Rattle.snoop_bus.proofs.Vocabulary.{◌≡◌, ◌∙◌, ℕ, List, option_map, ap, TagSets, tag_in, tag_at, Sets, cache_of, copy_at, tags_of}
use Rattle.cache_set.proofs.CacheTags.{tag_at-tags, sets_of-tags}

-- it is that of the copy
pub tag_at-copy : (caches : List Sets) (core line : ℕ) → tag_at core line (tags_of caches) ≡ option_map (λ copy. copy.state) (copy_at caches core line)
tag_at-copy caches core line = ap (λ (sets : TagSets). tag_in sets line) (sets_of-tags caches core) ∙ tag_at-tags (cache_of caches core) line
