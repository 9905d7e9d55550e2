-- What one who looks at a machine finds there.
use Rattle.machine_core.proofs.Vocabulary.{◌≡◌, ◌<◌, ◌≤◌, ◌+◌, ℕ, zero, suc, nat_lt, Bor, List, [], ◌∷◌, length, Option, None, Some}
use Rattle.machine_core.proofs.Vocabulary.{is_some, IfSome, option_copied, slice_get, slice_index_or, refl, sym, ap, ◌∙◌, arith, nat_tests}
use Rattle.machine_core.proofs.Vocabulary.{slice_get_past, slice_get_read, Processor, core_state, core_states}
use Rattle.std.proofs.Common.{option_map}

core_states-at : (k : ℕ) (ps : List Processor) (i j : ℕ) → j ≡ k + i → slice_get (core_states k ps) i ≡ option_map (core_state j) (slice_get ps i)
core_states-at k [] i j e = refl
core_states-at k (p ∷ ps) zero j e = ap (λ n. Some (core_state n p)) (let z : k ≡ j = omega arith in z)
core_states-at k (p ∷ ps) (suc i) j e = core_states-at (k + 1) ps i j (omega arith)

-- the core of this number, where this was found in the list of cores
pub core_found : (ps : List Processor) (i : ℕ) (r : Option (Bor Processor))
    → is_some r ≡ nat_lt i (length ps)
    → IfSome r (λ (b : Bor Processor). b.now ≡ slice_index_or ps i b.now)
    → option_map (core_state i) (option_copied r) ≡ slice_get (core_states 0 ps) i
core_found ps i None within is =
    let after : length ps ≤ i = grind (arith, nat_tests) in
    let past : slice_get ps i ≡ None = slice_get_past ps i after in
    sym (core_states-at 0 ps i i (omega arith) ∙ ap (option_map (core_state i)) past)
core_found ps i (Some b) within is =
    let before : i < length ps = grind (arith, nat_tests) in
    let at : slice_get ps i ≡ Some b.now = slice_get_read ps (length ps) i b.now refl before is in
    sym (core_states-at 0 ps i i (omega arith) ∙ ap (option_map (core_state i)) at)
