-- The events of a test are made core by core.
use Rattle.refutations.proofs.Vocabulary.{◌≡◌, ◌<◌, ◌+◌, ℕ, List, [], ◌++◌, length, slice_index_or, drop, append_assoc, sym, ap, ◌∙◌}
use Rattle.refutations.proofs.Vocabulary.{at_drop_more, entries_of, Instr, Entry, events_from, bare, map-append, by-program}
use Rattle.std.specs.Prelude.{map}

-- the events of one more core
pub events-more : (number : ℕ) (ps : List (List Instr)) (registers : List (List ℕ)) (values : List ℕ) (whole done after own : List Entry)
    → number < length ps
    → own ≡ entries_of number 0 (slice_index_or ps number []) (slice_index_or registers number []) values
    → after ≡ done ++ map bare own → whole ≡ done ++ map bare (events_from number (drop number ps) registers [])
    → whole ≡ after ++ map bare (events_from (number + 1) (drop (number + 1) ps) registers [])
events-more number ps registers values whole done after own within is more so =
    let p : List Instr = slice_index_or ps number [] in
    let r : List ℕ = slice_index_or registers number [] in
    let first : List Entry = entries_of number 0 p r (slice_index_or [] number []) in
    let rest : List Entry = events_from (number + 1) (drop (number + 1) ps) registers [] in
    so
    ∙ (ap (λ es. done ++ es) (at_drop_more (λ qs. map bare (events_from number qs registers [])) ps number [] within
    ∙ (map-append bare first rest
    ∙ ap (λ es. es ++ map bare rest) (by-program number 0 p r r (slice_index_or [] number []) values ∙ ap (λ es. map bare es) (sym is))))
    ∙ (sym (append_assoc done (map bare own) (map bare rest)) ∙ ap (λ es. es ++ map bare rest) (sym more)))
