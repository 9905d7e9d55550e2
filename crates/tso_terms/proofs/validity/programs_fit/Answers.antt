use Rattle.std.proofs.Common.{◌∙◌, arith, refl, subst, sym}
use Rattle.std.proofs.lemmas.Bool.{false≢true}
use Rattle.std.proofs.lemmas.List.Elements.{All-get_or, All-map, AllWithin-upto, All-from_all_within}
use Rattle.tso_terms.specs.Litmus.{IsProgram}
use Rattle.tso_terms.proofs.ListLemmas.{All-from_map}
use Rattle.tso_terms.proofs.validity.programs_fit.Goals as goal

pub returns-then-not-program_fits : goal.returns-then-not-program_fits
returns-then-not-program_fits c =
    let programs = c.args.programs.now in (
      λ wrong. absurd (false≢true wrong),
      λ each.
          let fits = All-from_map (IsProgram c.args.locations) (λ program. program.items) programs each in
          let here =
          All-get_or (λ program. IsProgram c.args.locations program.items) programs c.loop-program.program-index
          c.program-item.result c.loop-program-test.true fits in
          let this = subst (λ program. IsProgram c.args.locations program.items) (sym c.program-item.is) here in
          sym c.if-not-program_fits.true ∙ c.program_fits.ensures.1 (rw c.deref.ensures.value this),
    )

pub returns : goal.returns
returns c =
    let programs = c.args.programs.now in
    let within =
    AllWithin-upto (λ program. IsProgram c.args.locations program.items) programs 0 c.loop-program.program-index _
    (omega arith) c.loop-program.invariant in (
      λ _.
          All-map (IsProgram _) (λ program. program.items) programs
          (All-from_all_within (λ program. IsProgram c.args.locations program.items) programs within),
      λ _. refl,
    )
