use Rattle.std.proofs.Common.{arith, ◌≡◌, IsTrue, All, length, string_bytes, subst, sym}
use Rattle.std.specs.Option.{ForSome}
use Rattle.std.proofs.lemmas.Grind.{common_steps}
use Rattle.std.proofs.lemmas.List.{length-map}
use Rattle.tso_terms.specs.Litmus.{IsProgram, IsCondition}
use Rattle.tso_terms.specs.LitmusParts.{litmus_of}
use Rattle.tso_terms.proofs.validity.parts_fit.Goals as goal

pub returns : goal.returns
returns c =
    let t = litmus_of c.args.parts.now in
    let names = length-map c.args.parts.now.locations.items string_bytes in
    let lists = length-map c.args.parts.now.programs.items (λ program. program.items) in
    let locations : c.len-locations.result ≡ length t.locations = grind (arith, common_steps) in
    let cores : c.len-cores.result ≡ length t.programs = grind (arith, common_steps) in
    let passed : IsTrue c.programs_fit.result = grind arith in
    let programs : All (IsProgram c.len-locations.result) t.programs = rw c.deref-2.ensures.value at (c.programs_fit.ensures.0 passed) in (
      λ fits. record {
        name_spelled = grind (arith, common_steps);
        some_core = grind (arith, common_steps);
        cores = grind (arith, common_steps);
        registers_given = grind (arith, common_steps);
        location_count = grind (arith, common_steps);
        locations_spelled = grind (arith, common_steps);
        locations_differ = grind (arith, common_steps);
        words_given = grind (arith, common_steps);
        values = c.know_values.ensures;
        programs_fit = subst (λ n. All (IsProgram n) t.programs) locations programs;
        condition_fits = subst (λ n. ForSome t.condition (IsCondition (length t.programs) n)) locations
            (subst (λ m. ForSome t.condition (IsCondition m c.len-locations.result)) cores (c.condition_fits.ensures.0 fits));
      },
      λ valid. c.condition_fits.ensures.1
          (subst (λ n. ForSome t.condition (IsCondition c.len-cores.result n)) (sym locations)
          (subst (λ m. ForSome t.condition (IsCondition m (length t.locations))) (sym cores) valid.condition_fits)),
    )
