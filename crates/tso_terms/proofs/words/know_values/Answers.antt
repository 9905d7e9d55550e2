use Rattle.std.proofs.Common.{All}
use Rattle.std.proofs.lemmas.List.Elements.{All-map}
use Rattle.tso_terms.specs.Litmus.{ConstantIsWord}
use Rattle.tso_terms.proofs.words.know_values.Goals as goal

pub returns : goal.returns
returns c = record {
  words = rw c.deref.ensures.value at c.know_words.ensures;
  registers = rw c.deref-2.ensures.value at c.know_registers.ensures;
  constants =
      All-map (λ p. All ConstantIsWord p) (λ program. program.items) c.args.parts.now.programs.items
      (rw c.deref-3.ensures.value at c.know_programs.ensures);
}
