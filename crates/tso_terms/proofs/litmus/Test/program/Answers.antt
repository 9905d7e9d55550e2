use Rattle.std.proofs.Common.{arith, ◌≡◌, slice_index_or, [], subst}
use Rattle.std.proofs.lemmas.Grind.{common_steps}
use Rattle.tso_terms.specs.Litmus.{IsTest}
use Rattle.tso_terms.proofs.LitmusLemmas.{IsProgram-of_core}
use Rattle.tso_terms.proofs.litmus.Test.program.Goals as goal

pub returns-clause-size : goal.returns-clause-size
returns-clause-size c =
    let t = c.args.self.now in
    let e : c.deref.result.now ≡ slice_index_or t.programs c.args.core.0 [] = rw (← c.self.view_is) (grind (arith, common_steps)) in
    let valid : IsTest t = subst IsTest c.self.view_is c.self.invariant in
    (IsProgram-of_core t c.args.core.0 c.deref.result.now valid c.requires e).size

pub returns-clause-locations : goal.returns-clause-locations
returns-clause-locations c =
    let t = c.args.self.now in
    let e : c.deref.result.now ≡ slice_index_or t.programs c.args.core.0 [] = rw (← c.self.view_is) (grind (arith, common_steps)) in
    let valid : IsTest t = subst IsTest c.self.view_is c.self.invariant in
    (IsProgram-of_core t c.args.core.0 c.deref.result.now valid c.requires e).locations_known
