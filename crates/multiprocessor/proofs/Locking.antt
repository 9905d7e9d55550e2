-- A locked instruction made whole, from what the calls in it say.
use Rattle.multiprocessor.proofs.Vocabulary.{◌≡◌, ◌++◌, ◌∷◌, inl, inr, ℕ, true, None, Result, List, [], map, slice_index, refl, sym, ap}
use Rattle.multiprocessor.proofs.Vocabulary.{◌∙◌, subst, append_assoc, entry, updated, locked_access, Locks, CoreState, Effect, Core, Loc}
use Rattle.multiprocessor.proofs.Vocabulary.{NoMemory, Reg, Update, Entry, LR, LW, Committed, Pending, Noted, AccessReport, BusModel}
use Rattle.multiprocessor.proofs.Vocabulary.{words_of, IsSameMachine, IsCurrentWord, WritesAt, CompletesAt, awaited_of, MayGoOn, Processor}
use Rattle.multiprocessor.proofs.Vocabulary.{Through, Whole, store_of, core_state, pending_in, effect_of_lock, both_parts, at_next}
use Rattle.multiprocessor.proofs.Vocabulary.{word_on_bus, caches_of, completion_by, HasUsed, whole, MayMake, Acts, HasActed}
use Rattle.multiprocessor.proofs.Vocabulary.{SucceedsUnlessCommitting, Notes, locked_with}
use Rattle.std.specs.Prelude.{Option}
use Rattle.tso_terms.specs.Thread.{with_taken}
use Rattle.tso_terms.specs.FlatMachine.{advanced_taking}
use Rattle.snoop_bus.specs.declared.access.Updated.{Updated}
use Rattle.multiprocessor.proofs.CoreLemmas.{index-got}
use Rattle.multiprocessor.proofs.CacheUses.{writes}

abbrev made : ℕ → CoreState → Loc → Option Reg → ℕ → ℕ → Effect
made core s loc reg word value = record { outcome = Committed; after = advanced_taking s reg word; commits = both_parts core s.place loc word value }

locked-made : (core : ℕ) (s : CoreState) (loc : Loc) (reg : Option Reg) (word value : ℕ) (items : List Pending)
    → items ≡ []
    → locked_with core s loc reg word value (map (store_of core) items) ≡ made core s loc reg word value
locked-made core s loc reg word value [] h = refl
locked-made core s loc reg word value (p ∷ ps) h = absurd (let z : ⊥ = cc in z)

pub acts-locks : (core : Core) (loc : Loc) (reg : Option Reg) (update : Update) (p q : Processor) (b b' : BusModel) (u : Updated) → p.stores.items ≡ []
    → IsCurrentWord b loc.0 u.before → u.after ≡ updated update p.registers u.before → WritesAt b b' core.0 loc.0 u.after u.report → IsSameMachine b b'
    → (noted mid noted' : Noted) → mid.entries ≡ noted.entries → noted'.entries ≡ mid.entries ++ both_parts core.0 p.place loc u.before u.after
    → q ≡ at_next p (with_taken p.registers reg u.before)
    → Acts (whole core) (locked_access loc (pending_in core.0 p)) (effect_of_lock loc reg update) p q b b' noted
    noted' (Committed, Through u.report)
acts-locks core loc reg update p q b b' u none before after done machine noted mid noted' room notes next =
    subst (λ f. HasActed Whole (locked_access loc (pending_in core.0 p)) core.0 p q b b' noted noted' f (Committed, Through u.report)) (sym effect) (record {
      outcome = refl;
      after = rw next refl;
      words = done.words;
      commits = rw (← room) notes;
      caches = writes b b' core.0 loc.0 u.after u.report done machine;
      holder = done.held.holder_is;
    })
  where
    word : slice_index (words_of b) loc.0 ≡ u.before
    word = index-got (words_of b) loc.0 u.before before

    written : updated update p.registers (slice_index (words_of b) loc.0) ≡ u.after
    written = rw word (sym after)

    effect : effect_of_lock loc reg update core.0 p (words_of b) ≡ made core.0 (core_state core.0 p) loc reg u.before u.after
    effect = locked-made core.0 (core_state core.0 p) loc reg _ _ p.stores.items none
        ∙ ap (λ w. made core.0 (core_state core.0 p) loc reg w (updated update p.registers (slice_index (words_of b) loc.0))) word
        ∙ ap (λ v. made core.0 (core_state core.0 p) loc reg u.before v) written

-- both its parts are noted, one after the other
pub both-noted : (core place : ℕ) (loc : Loc) (word value : ℕ) (noted mid noted' : Noted) (load store : Entry)
    → load ≡ entry core place LR loc word
    → store ≡ entry core place LW loc value
    → mid.entries ≡ noted.entries ++ load ∷ []
    → noted'.entries ≡ mid.entries ++ store ∷ []
    → noted'.entries ≡ noted.entries ++ both_parts core place loc word value
both-noted core place loc word value noted mid noted' load store is_load is_store first second =
    rw (second, first, is_load, is_store) (append_assoc noted.entries _ _)

-- it commits where nothing is pending, so memory may be refused then alone
pub lock-commits : {A : Type 0} (r : Result A NoMemory) (core : ℕ) (loc : Loc) (reg : Option Reg) (update : Update)
    (p : Processor) (words : List ℕ)
    → p.stores.items ≡ []
    → SucceedsUnlessCommitting r (effect_of_lock loc reg update core p words)
lock-commits r core loc reg update p words none =
    λ other. absurd (other (ap (λ f. f.outcome) (locked-made core (core_state core p) loc reg _ _ p.stores.items none)))

-- its access may be made whole
pub may-lock : (core : Core) (loc : Loc) (p : Processor) (b : BusModel)
    → p.stores.items ≡ []
    → MayMake (whole core) b (locked_access loc (pending_in core.0 p))
    → MayGoOn b core.0 loc.0 true
may-lock core loc p b none may = by_access (subst (λ items. MayMake (whole core) b (locked_access loc (map (store_of core.0) items))) none may)
  where
    by_access : MayMake (whole core) b (Locks loc) → MayGoOn b core.0 loc.0 true
    by_access (inl free) = inl free
    by_access (inr never) = (let z : ⊥ = cc in absurd z)

-- its load part alone, on a split bus
module _ (core : Core) (place : ℕ) (loc : Loc) (b b' : BusModel) (value : ℕ) (word : IsCurrentWord b loc.0 value)
    (read : Entry) (is : read ≡ entry core.0 place LR loc value) where
  pub first-entry : read ≡ entry core.0 place LR loc (word_on_bus b loc)
  first-entry = rw (index-got (words_of b) loc.0 value word) is

  pub first-noted : (noted mid noted' : Noted)
      → mid.entries ≡ noted.entries
      → noted'.entries ≡ mid.entries ++ read ∷ []
      → Notes noted noted' (entry core.0 place LR loc (word_on_bus b loc))
  first-noted noted mid noted' room notes = rw (← room, ← first-entry) notes

pub first-uses : (b b' : BusModel) (core loc : ℕ) (report : AccessReport)
    → CompletesAt b b' core loc report
    → IsSameMachine b b'
    → awaited_of b' ≡ None
    → HasUsed (completion_by (caches_of b) core loc) b' (Through report)
first-uses b b' core loc report done machine nothing = record {
  how_is = ap Through done.report_is;
  caches = rw (machine.rows, machine.shape, done.contents, nothing) refl;
}
