-- The names that the proofs of this crate bring in from definitions and from crates below; each file takes its own from here.
pub use Rattle.std.proofs.Common.{◌≡◌, ◌≤◌, ◌<◌, ℕ, Bool, true, false, refl, List, length, Result, Ok, Err, IfOk, Some, string_bytes, ◌∙◌}
pub use Rattle.std.proofs.Common.{[], ap, sym, subst, ◌∷◌, ◌++◌, ◌||◌, None, Vec, arith, ◌≢◌, ◌==◌, not, if◌then◌else◌, OnOk, ◌⊎◌, inl, inr}
pub use Rattle.std.proofs.Common.{All}
pub use Rattle.tso_terms.specs.Litmus.{Litmus, IsTest}
pub use Rattle.tso_terms.specs.Runs.{Run, run, CoresExist}
pub use Rattle.basic_laws.specs.Types.{Atomic, Split, Choice, Step, Drain, Entry, Bus, Stalled}
pub use Rattle.protocol_tables.specs.declared.kind.ProtocolKind.{ProtocolKind}
pub use Rattle.multiprocessor.specs.Configuration.{Configuration}
pub use Rattle.tso_cli.specs.Dividing.{parts_of}
pub use Rattle.std.specs.Prelude.{◌↔◌, codes}
pub use Rattle.tso_laws.specs.Dead.{seen, AreAlike}
pub use Rattle.explorer.specs.FinalStates.{AreWhat, AreAmong, AreReached, HaveEveryEnd}
pub use Rattle.std.proofs.lemmas.List.{append_assoc, length-append}
pub use Rattle.tso_laws.specs.Outcomes.{EndsAreWhatTsoAllows, IsAllowedAtDepth, IsAllowedByTso, IsAllowedSequentially}
pub use Rattle.tso_laws.proofs.WellFormed.{well-formed}
pub use Rattle.tso_terms.specs.Condition.{Claim, truth_of}
pub use Rattle.tso_terms.specs.FlatMachine.{chosen, core_of, effect_of, registers_in}
pub use Rattle.trace_report.specs.Shown.{ShownStep}
