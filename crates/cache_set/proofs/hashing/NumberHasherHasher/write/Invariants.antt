use Rattle.cache_set.proofs.Vocabulary.{◌≡◌, take, fold}
use Rattle.cache_set.proofs.hashing.NumberHasherHasher.write.Given as goal

abbrev pub invariant-loop-byte : goal.invariant-loop-byte
invariant-loop-byte l = l.self.0 ≡ fold (λ last byte. byte) l.initial.self.0 (take l.byte-index l.bytes)
