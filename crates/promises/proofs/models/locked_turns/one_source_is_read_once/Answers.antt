use Rattle.promises.proofs.Vocabulary.{refl}
use Rattle.promises.proofs.models.locked_turns.one_source_is_read_once.Goals as goal

pub returns : goal.returns
returns given = λ t c r s a i j k l e h.
    given.no_two_read_one_source.ensures t c s.loc.0 r s a (record { inside = i; kind = k; location = e })
    (record { inside = j; kind = l; location = refl }) h
