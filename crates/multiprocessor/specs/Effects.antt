-- What a choice answers, and how it used the caches, which is what is counted. (This project's profile.)
use Rattle.std.specs.Prelude.{◌≡◌}
use Rattle.multiprocessor.specs.Vocabulary.{BusModel}
use Rattle.basic_laws.specs.Types.{Outcome}
use Rattle.multiprocessor.specs.declared.accesses.CacheUse.{CacheUse}
use Rattle.multiprocessor.specs.Caches.{Used, caches_of}

-- what a choice answers: its outcome, and how it used the caches
abbrev pub ChoiceAnswer : Type 0
ChoiceAnswer = Outcome × CacheUse

-- the caches were used so, and are as that left them
pub record HasUsed (u : Used) (new : BusModel) (how : CacheUse) : Type 0 where
  pub how_is : how ≡ u.how
  pub caches : caches_of new ≡ u.caches
