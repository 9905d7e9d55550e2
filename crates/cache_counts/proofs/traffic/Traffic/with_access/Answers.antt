use Rattle.std.proofs.Common.{arith, ◌≤◌, ◌+◌}
use Rattle.cache_counts.proofs.traffic.Traffic.with_access.Goals as goal

pub returns-clause-few : goal.returns-clause-few
returns-clause-few c = λ n few.
    let so = c.with_requested-requested.ensures.few n few in
    let before = few.to_memory in
    let requested = c.with_requested-requested.ensures.written in
    let one = c.written_back.ensures.few in
    record {
      get_s = so.get_s;
      get_m = so.get_m;
      invalidations = so.invalidations;
      from_caches = so.from_caches;
      from_memory = so.from_memory;
      to_memory = (let z : c.with_requested-requested.result.to_memory + c.written_back.result ≤ n + 8 = omega arith in z);
    }
