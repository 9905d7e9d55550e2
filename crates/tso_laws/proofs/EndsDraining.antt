-- What is pending is committed before the end.
use Rattle.tso_laws.proofs.EndsVocabulary.{◌≡◌, ◌<◌, ℕ, zero, suc, Bool, true, false, List, [], ◌∷◌, ◌++◌, Option, Some, None, slice_get}
use Rattle.tso_laws.proofs.EndsVocabulary.{length, inl, inr, ◌⊎◌, if◌then◌else◌, nat_lt, arith, sym, subst, refl, get_or-set_same}
use Rattle.tso_laws.proofs.EndsVocabulary.{get_or-set_other, length-set, decide, Member, action_of, Litmus, CoreState, State, Effect, idle}
use Rattle.tso_laws.proofs.EndsVocabulary.{is_none_pending, stalled, stored, when_drained, effect_by, step_of, drain_of, core_of}
use Rattle.tso_laws.proofs.EndsVocabulary.{program_of, effect_of, chosen, after_choice, Instr, Action, Store, Load, Move, Fence, Lock}
use Rattle.tso_laws.proofs.EndsVocabulary.{Entry, Choice, Step, Drain, Stall, state_after, commits_of}

member-left : (e : Entry) (xs ys : List Entry) → Member e xs → Member e (xs ++ ys)
member-left e [] ys m = absurd m
member-left e (x ∷ xs) ys (inl q) = inl q
member-left e (x ∷ xs) ys (inr m) = inr (member-left e xs ys m)

member-right : (e : Entry) (xs ys : List Entry) → Member e ys → Member e (xs ++ ys)
member-right e [] ys m = m
member-right e (x ∷ xs) ys m = inr (member-right e xs ys m)

-- it is still pending, or is committed now
abbrev pub Lasts : Entry → Effect → Type 0
Lasts e f = Member e f.after.pending ⊎ Member e f.commits

stored-lasts : (d : ℕ) (s : CoreState) (x e : Entry) → Member e s.pending → Member e (stored d s x).after.pending
stored-lasts zero s x e m = m
stored-lasts (suc n) s x e m = go (nat_lt (length s.pending) (suc n)) refl
  where
    go : (b : Bool) → nat_lt (length s.pending) (suc n) ≡ b → Member e (stored (suc n) s x).after.pending
    go true q = rw q (member-left e s.pending (x ∷ []) m)
    go false q = rw q m

drained-lasts : (why : Stall) (s : CoreState) (f : Effect) (e : Entry)
    → f.after.pending ≡ s.pending
    → Member e s.pending
    → Member e (when_drained why s f).after.pending
drained-lasts why s f e q m = go (is_none_pending s.pending)
  where
    go : (b : Bool) → Member e (if b then f else stalled why s).after.pending
    go true = subst (λ z. Member e z) (sym q) m
    go false = m

step-lasts : (d : ℕ) (memory : List ℕ) (k : ℕ) (i : Option Instr) (s : CoreState) (e : Entry)
    → Member e s.pending
    → Member e (step_of d memory k i s).after.pending
step-lasts d memory k None s e m = m
step-lasts d memory k (Some i) s e m = by (action_of i)
  where
    by : (a : Action) → Member e (effect_by d memory k a s).after.pending
    by (Store loc operand) = stored-lasts d s _ e m
    by (Load reg loc) = m
    by (Move change) = m
    by Fence = drained-lasts _ s _ e refl m
    by (Lock loc reg update) = drained-lasts _ s _ e refl m

drain-lasts : (s : CoreState) (e : Entry) → Member e s.pending → Lasts e (drain_of s)
drain-lasts s e m = go s.pending refl m
  where
    go : (xs : List Entry) → s.pending ≡ xs → Member e xs → Lasts e (drain_of s)
    go [] q m = absurd m
    go (x ∷ xs) q (inl h) = inr (rw q (inl h))
    go (x ∷ xs) q (inr h) = inl (rw q h)

own-lasts : (d : ℕ) (t : Litmus) (s : State) (c : Choice) (e : Entry) → Member e (core_of s (chosen c)).pending → Lasts e (effect_of t d s c)
own-lasts d t s (Step k) e m = inl (step-lasts d s.memory k.0 (slice_get (program_of t k.0) (core_of s k.0).place) (core_of s k.0) e m)
own-lasts d t s (Drain k) e m = drain-lasts (core_of s k.0) e m

choice-lasts : (d : ℕ) (t : Litmus) (s : State) (c : Choice) (k : ℕ) (e : Entry) → k < length s.cores → Member e (core_of s k).pending
    → Member e (core_of (after_choice t d s c) k).pending ⊎ Member e (effect_of t d s c).commits
choice-lasts d t s c k e l m = elim (decide k (chosen c)) [
  | inr n ↦ inl (subst (λ z. Member e z.pending) (sym (get_or-set_other s.cores (chosen c) k (effect_of t d s c).after idle n)) m)
  | inl q ↦ elim (own-lasts d t s c e (subst (λ z. Member e (core_of s z).pending) q m)) [
    | inl h ↦ inl (subst (λ z. Member e (core_of (after_choice t d s c) z).pending) (sym q)
        (subst (λ z. Member e z.pending) (sym (get_or-set_same s.cores (chosen c) (effect_of t d s c).after idle (subst (λ z. z < length s.cores) q l))) h))
    | inr h ↦ inr h
  ]
]

-- where nothing is pending in the end, each pending store is committed on the way
pub pending-committed : (d : ℕ) (t : Litmus) (s : State) (cs : List Choice) (k : ℕ) (e : Entry) → k < length s.cores → Member e (core_of s k).pending
    → (core_of (state_after t d s cs) k).pending ≡ [] → Member e (commits_of t d s cs)
pending-committed d t s [] k e l m q = subst (λ z. Member e z) q m
pending-committed d t s (c ∷ cs) k e l m q = elim (choice-lasts d t s c k e l m) [
  | inl h ↦ let n = length-set s.cores (chosen c) (effect_of t d s c).after in
      member-right e (effect_of t d s c).commits _ (pending-committed d t (after_choice t d s c) cs k e (omega (arith, n, l)) h q)
  | inr h ↦ member-left e (effect_of t d s c).commits _ h
]
