-- The sets of a core, and of all cores, without their words.
use Rattle.cache_set.proofs.Vocabulary.{arith, ◌≡◌, ℕ, List, [], length, map, Bool, Option, Some, option_map, if◌then◌else◌, refl, ap, ◌∙◌}
use Rattle.cache_set.proofs.Vocabulary.{◌<◌, ◌+◌, add-one, slice_set, ◌%◌, drop, length-map, map-set, Contents, contents, Sets, in_set}
use Rattle.cache_set.proofs.Vocabulary.{set_at, tags_in, copy_in, copy_at, cache_of, tags_of, get_or-map, drop-cons, State, tag_of, TagSet}
use Rattle.cache_set.proofs.Vocabulary.{TagSets, tags_at, at_line, sets_of, first_from}
use Rattle.cache_set.proofs.TagLemmas.{tag_of-tags}

-- The sets of one core.

pub tags_at-tags : (sets : Sets) (line : ℕ) → tags_at (map tags_in sets) line ≡ tags_in (set_at sets line)
tags_at-tags sets line = rw (length-map sets tags_in) (get_or-map tags_in sets (line % length sets) (contents [] 1))

pub tags-in_set : (sets : Sets) (line : ℕ) (change : Contents → Contents) (to : TagSet → TagSet) →
    tags_in (change (set_at sets line)) ≡ to (tags_in (set_at sets line)) → map tags_in (in_set line change sets) ≡ at_line line to (map tags_in sets)
tags-in_set sets line change to is =
    map-set tags_in sets (line % length sets) (change (set_at sets line))
    ∙ rw (tags_at-tags sets line, length-map sets tags_in, is) refl

-- the state of a line, found in the sets without their words
pub tag_at-tags : (sets : Sets) (line : ℕ) → tag_of (tags_at (map tags_in sets) line) line ≡ option_map (λ copy. copy.state) (copy_in sets line)
tag_at-tags sets line = rw (tags_at-tags sets line) (tag_of-tags line (set_at sets line))

-- The sets of all cores.

pub sets_of-tags : (caches : List Sets) (core : ℕ) → sets_of (tags_of caches) core ≡ map tags_in (cache_of caches core)
sets_of-tags caches core = get_or-map (map tags_in) caches core []

pub tags-set_cache : (caches : List Sets) (core : ℕ) (sets : Sets) → tags_of (slice_set caches core sets) ≡ slice_set (tags_of caches) core (map tags_in sets)
tags-set_cache caches core sets = map-set (map tags_in) caches core sets

-- The first core whose copy is so.

pub first-at : (is : Option State → Bool) (line core : ℕ) (caches : List Sets) → core < length caches →
    first_from core is line (drop core (tags_of caches))
    ≡ (if is (option_map (λ copy. copy.state) (copy_at caches core line))
    then Some (record { 0 = core })
    else first_from (core + 1) is line (drop (core + 1) (tags_of caches)))
first-at is line core caches b =
    let size : length (tags_of caches) ≡ length caches = length-map caches (map tags_in) in
    let within : core < length (tags_of caches) = omega arith in
    let tag : tag_of (tags_at (sets_of (tags_of caches) core) line) line ≡ option_map (λ copy. copy.state) (copy_at caches core line) =
    ap (λ (sets : TagSets). tag_of (tags_at sets line) line) (sets_of-tags caches core) ∙ tag_at-tags (cache_of caches core) line in
    rw (drop-cons (tags_of caches) core [] within, tag) (rw add-one refl)
