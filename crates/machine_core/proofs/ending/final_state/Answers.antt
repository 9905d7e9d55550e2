use Rattle.machine_core.proofs.Vocabulary.{arith, ◌≡◌, ◌≤◌, refl, ap, ◌∙◌, length, words_of, cores_of, Litmus, Hardware, HardwareFitsTest}
use Rattle.std.proofs.lemmas.List.{take_all}
use Rattle.machine_core.proofs.ending.final_state.Goals as goal

-- the caches' bus alone is another, with as many cores and the same words
fits-settled : {P : Type 0} (t : Litmus) (m new : Hardware P) → HardwareFitsTest t m → new.config ≡ m.config → new.processors.items ≡ m.processors.items
    → cores_of new.bus ≡ cores_of m.bus → words_of new.bus ≡ words_of m.bus → HardwareFitsTest t new
fits-settled t m new fits config processors on_bus words = record {
  cores = ap length processors ∙ fits.cores;
  on_bus = on_bus ∙ fits.on_bus;
  words = ap length words ∙ fits.words;
  each = rw (config, processors, words) fits.each;
}

pub returns-in_err-memory-clause-fits : goal.returns-in_err-memory-clause-fits
returns-in_err-memory-clause-fits g c =
    fits-settled c.args.test.now c.args.hardware.now _ c.requires.fits refl refl c.settled_memory.ensures.machine.cores c.settled_memory.ensures.words

pub returns-clause-fits : goal.returns-clause-fits
returns-clause-fits g c =
    fits-settled c.args.test.now c.args.hardware.now _ c.requires.fits refl refl c.settled_memory.ensures.machine.cores c.settled_memory.ensures.words

pub returns-clause-memory : goal.returns-clause-memory
returns-clause-memory g c =
    let sized : length (words_of c.args.hardware.now.bus) ≤ c.locations.result = omega (arith, c.requires.fits.words, c.locations.ensures.value) in
    c.in_ok-memory.ensures.memory ∙ take_all c.locations.result (words_of c.args.hardware.now.bus) sized
