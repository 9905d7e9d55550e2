use Rattle.refutation_checker.proofs.Vocabulary.{◌≡◌, ◌&&◌, drop, list_any, Entry}
use Rattle.tso_terms.specs.declared.execution.Kind.TheVariants.{F}
use Rattle.tso_terms.specs.ProgramOrder.{same_kind, is_before}
use Rattle.refutation_checker.proofs.edges.are_fenced.Given as goal

abbrev pub invariant-loop-f : goal.invariant-loop-f
invariant-loop-f l =
    list_any (λ (f : Entry). same_kind f.kind F && is_before l.x f && is_before f l.y) (drop l.f-index l.f-items)
    ≡ list_any (λ (f : Entry). same_kind f.kind F && is_before l.x f && is_before f l.y) l.f-items
