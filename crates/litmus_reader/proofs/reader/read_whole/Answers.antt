use Rattle.litmus_reader.proofs.Within.{spelled_is_test}
use Rattle.litmus_reader.proofs.GrammarTest.{sized_found}
use Rattle.litmus_reader.specs.Reading.{reading_of}
use Rattle.litmus_reader.proofs.reader.read_whole.Goals as goal

pub from_valid_parts-requires : goal.from_valid_parts-requires
unfolding reading_of
from_valid_parts-requires c =
    spelled_is_test c.args.set c.args.text.now _
    (rw (
      sized_found c.args.text.now c.if-text-gt-MAX_TEXT.false,
      ← c.in_ok-name.ensures,
      ← c.in_ok-rest.ensures,
    ) c.in_ok-parts.ensures)
