-- What a number or an instruction gives says nothing of a read.
use Rattle.refutation_checker.proofs.Vocabulary.{◌≡◌, ◌∙◌, ◌++◌, [], ap, sym, append-nil, facts_of}
use Rattle.possible_reads.specs.Facts.{value_facts}
use Rattle.reading_tables.specs.inner.Told.{held_of, all_made}
use Rattle.reading_tables.proofs.Addends.{no_facts}
use Rattle.std.proofs.Common.{inl, inr}
use Rattle.refutation_checker.proofs.branches.push_value.Goals as goal

pub returns-in-Number : goal.returns-in-Number
returns-in-Number c makings =
    let old = facts_of c.args.branch.now.items in
    let value = c.args.value in
    let truth = c.args.truth in
    let silent : value_facts (held_of (all_made makings) c.args.held) value truth ≡ [] = elim c.in-Number.is [
      | inl number ↦ ap (λ held. value_facts (held_of (all_made makings) held) value truth) number.1
      | inr making ↦ ap (λ held. value_facts (held_of (all_made makings) held) value truth) making.1 ∙ no_facts makings making.0 value truth
    ] in
    sym (ap (λ fs. old ++ fs) silent ∙ append-nil old)
