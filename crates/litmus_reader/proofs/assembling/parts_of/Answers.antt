use Rattle.std.proofs.Common.{◌≡◌, List, ℕ, length, vec_len, refl, arith}
use Rattle.std.proofs.lemmas.Grind.{common_steps}
use Rattle.std.proofs.lemmas.List.{length-map}
use denote.Ref.{Bor}
use Rattle.litmus_reader.proofs.assembling.parts_of.Goals as goal

pub returns : goal.returns
returns c =
    let cores : vec_len c.args.table.now.registers ≡ length c.args.table.now.registers.items = grind (arith, common_steps) in
    let named = length-map c.args.names.now (λ (name : Bor (List ℕ)). name.now) in
    rw (
      c.in_ok-string_of.ensures,
      c.in_ok-strings_of.ensures,
      c.replace.ensures.value,
      c.replace-2.ensures.value,
      c.replace-3.ensures.value,
      c.in_ok-fill_words.ensures,
      c.in_ok-programs_of.ensures,
      c.deref.ensures.value,
      c.len-cores.ensures,
      cores,
      ← named,
    )
    refl
