use Rattle.std.proofs.Common.{◌≡◌, ◌≤◌, drop}
use Rattle.tso_terms.specs.Decimals.{decimal_value, decimal_from}
use Rattle.tso_terms.proofs.decimals.number_up_to.Given as goal

abbrev pub invariant-loop-digit : goal.invariant-loop-digit
invariant-loop-digit l = record { same : decimal_from l.value (drop l.digit-index l.digits) ≡ decimal_value l.digits; fits : l.value ≤ l.most }
