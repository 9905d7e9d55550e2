-- The choices of a seed: what the first words of PCG XSH RR 64/32 (O'Neill) say, as `rand_pcg` defines that generator.
use Rattle.std.specs.Prelude.{ℕ, zero, suc, ◌*◌, ◌/◌, ◌%◌, List, [], ◌∷◌, map, ◌==◌, if◌then◌else◌}
use Rattle.rand_core.specs.Pcg32Seed.{pcg32_seed}
use Rattle.rand_pcg.specs.Lcg.{Lcg}
use Rattle.rand_pcg.specs.Pcg.{pcg32, pcg32_of_seed}
use Rattle.basic_laws.specs.Types.{Choice, Step, Drain}

-- the generator that a seed makes: its 16 bytes are those of `seed_from_u64`
abbrev pub generator : ℕ → Lcg
generator seed = pcg32_of_seed (pcg32_seed 16 seed)

-- the first words that are drawn from a generator, which moves on by one step after each
unfoldable pub drawn_words : ℕ → Lcg → List ℕ
drawn_words zero g = []
drawn_words (suc n) g = (pcg32 g).0 ∷ drawn_words n (pcg32 g).1

-- the choice of a word in a test with so many cores: modulo twice the cores it is twice the core, and 1 more for a drain
abbrev pub choice_of_word : ℕ → ℕ → Choice
choice_of_word cores word =
    let pick = word % (2 * cores) in
    (if pick % 2 == 0 then Step (record { 0 = pick / 2 }) else Drain (record { 0 = pick / 2 }))

-- the first `count` choices of a seed in a test with so many cores
abbrev pub seeded_choices : ℕ → ℕ → ℕ → List Choice
seeded_choices cores seed count = map (choice_of_word cores) (drawn_words count (generator seed))
