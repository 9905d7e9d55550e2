use Rattle.cache_set.proofs.Vocabulary.{◌≡◌, Some, nat_eq, refl, sym, lookup}
use Rattle.cache_set.proofs.WayContents.{set-promoted}
use Rattle.cache_set.proofs.ways.take_over.Goals as goal

pub returns-clause-exact : goal.returns-clause-exact
returns-clause-exact c =
    let found : lookup (nat_eq c.args.number) c.args.ways.now.entries ≡ Some c.unwrap-way.result.now =
    sym (rw c.unwrap-way.ensures at c.get_mut.ensures.value) in
    rw (set-promoted c.args.number c.unwrap-way.result.now c.args.new c.args.ways.now.entries found) refl
