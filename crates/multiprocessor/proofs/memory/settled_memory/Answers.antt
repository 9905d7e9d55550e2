use Rattle.multiprocessor.proofs.Vocabulary.{arith, ℕ, List, ◌≡◌, ◌+◌, Some, slice_get, take, ◌∙◌, ◌++◌, ◌∷◌, [], ap, length, subst, sym, words_of}
use Rattle.multiprocessor.proofs.CoreLemmas.{take-got}
use Rattle.multiprocessor.proofs.memory.settled_memory.Goals as goal

-- one word more is taken of these
taken-next : (memory words before after : List ℕ) (k word : ℕ)
    → after ≡ before ++ word ∷ []
    → before ≡ take k words
    → memory ≡ words
    → slice_get memory k ≡ Some word
    → after ≡ take (k + 1) words
taken-next memory words before after k word pushed taken settled got =
    pushed ∙ ap (λ xs. xs ++ word ∷ []) taken ∙ sym (take-got words k word (subst (λ ws. slice_get ws k ≡ Some word) settled got))

pub loop-location-preserved : goal.loop-location-preserved
loop-location-preserved g c =
    let before = c.loop-location.invariant in
    record {
      taken =
          taken-next _ (words_of c.args.bus.now) c.loop-location.memory.items c.push.new.self.items
          c.loop-location.location c.memory_word.result c.in_ok-push.ensures.items before.taken before.settled
          c.memory_word.ensures.value;
      settled = before.settled;
      seen = before.seen;
    }

pub memory_word-requires : goal.memory_word-requires
memory_word-requires g c = let seen = ap length c.loop-location.invariant.seen in omega (arith, c.requires.within, c.loop-location-test.true, seen)
