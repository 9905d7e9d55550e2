use Rattle.litmus_reader.proofs.Vocabulary.{◌≡◌, map, take, string_bytes, texts}
use Rattle.litmus_reader.proofs.assembling.strings_of.Given as goal

abbrev pub invariant-loop-name : goal.invariant-loop-name
invariant-loop-name l = map string_bytes l.strings.items ≡ texts (take l.name-index l.names)
