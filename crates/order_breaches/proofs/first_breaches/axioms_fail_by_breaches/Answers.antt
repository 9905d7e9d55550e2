use Rattle.order_breaches.proofs.Whole.{whole-from, whole-clean}
use Rattle.order_breaches.proofs.Keeps.{keeps-order, none-late, keeps-pairs, none-separated, has-values, none-wrong}
use Rattle.order_breaches.proofs.first_breaches.axioms_fail_by_breaches.Goals as goal

pub returns-clause-whole : goal.returns-clause-whole
returns-clause-whole c t order = (
  λ w. let n = whole-clean t order w in (n.no_stray, n.no_missing, n.no_wrong),
  λ n. whole-from t order (record { no_stray = n.0; no_missing = n.1; no_wrong = n.2 }),
)

pub returns-clause-program_order : goal.returns-clause-program_order
returns-clause-program_order c order = (none-late order, keeps-order order)

pub returns-clause-adjacent : goal.returns-clause-adjacent
returns-clause-adjacent c order = (none-separated order, keeps-pairs order)

pub returns-clause-read_values : goal.returns-clause-read_values
returns-clause-read_values c t order = (none-wrong t order, has-values t order)
