-- The words from elsewhere that the definitions of reasons use, in one place: each file takes its own from here.
pub use Rattle.serde_json.specs.Data.{array, boolean, Data, member, Members, no_members, null, object, put, string}
pub use Rattle.serde_json.specs.View.{items_of}
pub use Rattle.tso_terms.specs.Condition.{AndClaim, Claim, Condition, LocClaim, NotClaim, OrClaim, RegClaim, TruthClaim}
pub use Rattle.tso_terms.specs.Litmus.{Litmus}
pub use Rattle.tso_terms.specs.ProgramOrder.{is_read, writes_to}
pub use Rattle.tso_terms.specs.Thread.{entry}
pub use Rattle.basic_laws.specs.Types.{Choice, Quantifier, Exists, Forall, NotExists, Entry, Kind, F, W}
pub use Rattle.relational_model.specs.Candidates.{Candidate}
pub use Rattle.relational_model.specs.CandidatesOfOrders.{IsCandidateOf, last_in}
pub use Rattle.refutation_laws.specs.Refutations.{asked_claim}
pub use Rattle.refutation_laws.specs.declared.model.Model.{Model}
pub use Rattle.refutation_laws.specs.declared.model.Relation.{Relation}
pub use Rattle.scheduler.specs.Printed.{printed_choices}
pub use Rattle.order_builder.specs.PrintedOrder.{letters_of, printed_entry, printed_lines}
pub use Rattle.tso_report.specs.Report.{line, printed_quantifier, printed_truth, test_line}
pub use Rattle.tso_report.specs.Tally.{looked_at, values_in}
pub use Rattle.tso_report.specs.declared.named.Named.{Named}
pub use Rattle.search_report.specs.OutcomesJson.{key_of, value_members}
pub use Rattle.search_report.specs.Verdict.{outcomes_verdict_value, verdict_line}
