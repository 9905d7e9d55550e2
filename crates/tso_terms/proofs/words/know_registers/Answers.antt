use Rattle.std.proofs.Common.{arith}
use Rattle.std.proofs.lemmas.List.Elements.{AllWithin-more, AllWithin-upto, All-from_all_within}
use Rattle.tso_terms.specs.Registers.{AreRegisters}
use Rattle.tso_terms.proofs.ListLemmas.{HoldsAt-from_one}
use Rattle.tso_terms.proofs.words.know_registers.Goals as goal

pub loop-registers-preserved : goal.loop-registers-preserved
loop-registers-preserved c =
    AllWithin-more AreRegisters c.args.all.now 0 c.loop-registers.registers-index c.loop-registers.invariant
    (HoldsAt-from_one AreRegisters c.args.all.now c.loop-registers.registers-index _ c.loop-registers-test.true
    (record {
      six = c.told-all c.loop-registers.registers-index c.loop-registers-test.true;
      words = c.know_words.ensures;
    }))

pub returns : goal.returns
returns c =
    All-from_all_within AreRegisters c.args.all.now
    (AllWithin-upto AreRegisters c.args.all.now 0 c.loop-registers.registers-index _ (omega arith) c.loop-registers.invariant)
