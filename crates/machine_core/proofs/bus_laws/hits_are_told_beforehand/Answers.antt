use Rattle.machine_core.proofs.Vocabulary.{◌≡◌, ◌/◌, true, false, GetM, table_of_rows, contents_of, hits, in_halves, whole_access}
use Rattle.machine_core.proofs.Told.{access-told, told-as, not-both}
use Rattle.machine_core.proofs.bus_laws.hits_are_told_beforehand.Goals as goal

pub returns : goal.returns
returns c = record {
  loads = λ b core loc. access-told (table_of_rows b.rows) false core (loc / b.shape.words) (contents_of b);
  writes = λ b core loc. access-told (table_of_rows b.rows) true core (loc / b.shape.words) (contents_of b);
  loads_in_halves = λ t core line caches misses is.
      not-both (hits t core line false caches) misses
      ((told-as (whole_access t false core line caches) _ (hits t core line false caches ≡ true)
      (c.whole_accesses_are_two_halves.ensures.loads t core line caches misses) (access-told t false core line caches)).0 is);
  writes_in_halves = λ t core line caches law valid.
      told-as (whole_access t true core line caches) (in_halves t GetM core line caches) (hits t core line true caches ≡ true)
      (c.whole_accesses_are_two_halves.ensures.writes t law core line caches valid) (access-told t true core line caches);
}
