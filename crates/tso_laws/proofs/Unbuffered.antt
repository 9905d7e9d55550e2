-- Every order that keeps all of program order is that of a run without store buffers.
use Rattle.tso_laws.proofs.EndsVocabulary.{◌≡◌, ◌<◌, ℕ, ◌+◌, zero, suc, true, ◌==◌, List, [], ◌∷◌, ◌++◌, Some, slice_get, slice_index_or}
use Rattle.tso_laws.proofs.EndsVocabulary.{length, inl, inr, arith, ap, sym, ◌∙◌, subst, refl, append_assoc, and-left, and-right, before}
use Rattle.tso_laws.proofs.EndsVocabulary.{Member, member-at, action_of, Litmus, IsWellFormed, entry, IsTsoExecution, KeepsAllOrder, CoreState}
use Rattle.tso_laws.proofs.EndsVocabulary.{State, idle, is_none_pending, loaded, load_value, step_of, core_of, program_of, effect_of}
use Rattle.tso_laws.proofs.EndsVocabulary.{chosen, after_choice, started, start, step, CoresExist, is_done, all_done, has_ended, run, Instr}
use Rattle.tso_laws.proofs.EndsVocabulary.{Loc, Reg, Load, Entry, R, W, Choice, Step, Drain, state_after, commits_of, End, IsExecution}
use Rattle.tso_laws.proofs.EndsVocabulary.{IsReached, RunsReachExactlyTheExecutions, StallsChangeNothing, RunsStopWhereTheyEnd}
use Rattle.tso_laws.proofs.EndsVocabulary.{IsSequentiallyConsistent, UnbufferedRunsReachExactlyTheSequentiallyConsistent}
use Rattle.tso_laws.proofs.Passing.{keeps-rest, needs-one}
use Rattle.tso_laws.proofs.EndsDraining.{pending-committed}
use Rattle.tso_laws.proofs.Behind.{length-set, moves-place, IsBehind, Follows}
use Rattle.tso_laws.proofs.EndsFollowing.{Goes, steps-on, drains-on}

-- ---- a whole run is followed

record Path (t : Litmus) (a b : State) (cs : List Choice) : Type 0 where
  made : List Choice
  cores : CoresExist (length t.programs) made
  commits : commits_of t 0 a made ≡ commits_of t 1 b cs
  follows : Follows t (state_after t 0 a made) (state_after t 1 b cs)

after-append : (t : Litmus) (d : ℕ) (s : State) (cs ds : List Choice) → state_after t d s (cs ++ ds) ≡ state_after t d (state_after t d s cs) ds
after-append t d s [] ds = refl
after-append t d s (c ∷ cs) ds = after-append t d (after_choice t d s c) cs ds

commits-append : (t : Litmus) (d : ℕ) (s : State) (cs ds : List Choice)
    → commits_of t d s (cs ++ ds) ≡ commits_of t d s cs ++ commits_of t d (state_after t d s cs) ds
commits-append t d s [] ds = refl
commits-append t d s (c ∷ cs) ds =
    ap (λ z. (effect_of t d s c).commits ++ z) (commits-append t d (after_choice t d s c) cs ds) ∙ sym (append_assoc (effect_of t d s c).commits _ _)

cores-append : (n : ℕ) (cs ds : List Choice) → CoresExist n cs → CoresExist n ds → CoresExist n (cs ++ ds)
cores-append n [] ds p q = q
cores-append n (c ∷ cs) ds p q = (p.0, cores-append n cs ds p.1 q)

keeps-right : (xs ys : List Entry) → KeepsAllOrder (xs ++ ys) → KeepsAllOrder ys
keeps-right [] ys h = h
keeps-right (x ∷ xs) ys h = keeps-right xs ys (keeps-rest x (xs ++ ys) h)

-- a load isn't committed before a store that comes before it in the program
no-load : (t : Litmus) (a b : State) (cs : List Choice) (k : ℕ) → k < length b.cores → KeepsAllOrder (commits_of t 1 b (step k ∷ cs))
    → (core_of (state_after t 1 b (step k ∷ cs)) k).pending ≡ [] → IsBehind k (program_of t k) (core_of a k) (core_of b k)
    → (i : Instr) (reg : Reg) (loc : Loc) → slice_get (program_of t k) (core_of b k).place ≡ Some i → action_of i ≡ Load reg loc → ⊥
no-load t a b cs k l keeps empty w i reg loc at is =
    let s : CoreState = core_of b k in
    let e : Entry = entry k (core_of a k).place W w.loc _ in
    let x : Entry = entry k s.place R loc (load_value b.memory s loc.0) in
    let f : effect_of t 1 b (step k) ≡ loaded s reg x = ap (λ z. step_of 1 b.memory k z s) at ∙ rw is refl in
    let waits : Member e s.pending = subst (λ z. Member e z.pending) (sym w.is) (inl refl) in
    let m = member-at e (commits_of t 1 b (step k ∷ cs)) (pending-committed 1 t b (step k ∷ cs) k e l waits empty) in
    let first : slice_get (commits_of t 1 b (step k ∷ cs)) 0 ≡ Some x =
    ap (λ z. slice_get (z.commits ++ commits_of t 1 (after_choice t 1 b (step k)) cs) 0) f in
    let n = moves-place (program_of t k) w.count _ w.after w.moves in
    let p : s.place ≡ w.after.place = ap (λ z. z.place) w.is in
    let late = keeps m.0 0 e x m.1 first (before e x refl (omega (arith, n, p))) in
    let z : ⊥ = omega (arith, late) in z

module _ (law : StallsChangeNothing) (t : Litmus) where
  one : (a b : State) (c : Choice) (cs : List Choice) → Follows t a b → chosen c < length t.programs → KeepsAllOrder (commits_of t 1 b (c ∷ cs))
      → ((k : ℕ) → k < length t.programs → (core_of (state_after t 1 b (c ∷ cs)) k).pending ≡ []) → Goes t a b c
  one a b (Step k) cs h l keeps empty =
      steps-on law t a b h k.0 l (no-load t a b cs k.0 (let n = h.second in omega (arith, n, l)) keeps (empty k.0 l))
  one a b (Drain k) cs h l keeps empty = drains-on law t a b h k.0 l

  follow : (a b : State) (cs : List Choice) → Follows t a b → CoresExist (length t.programs) cs → KeepsAllOrder (commits_of t 1 b cs)
      → ((k : ℕ) → k < length t.programs → (core_of (state_after t 1 b cs) k).pending ≡ []) → Path t a b cs
  follow a b [] h l keeps empty = record { made = []; cores = tt; commits = refl; follows = h }
  follow a b (c ∷ cs) h l keeps empty =
      let g = one a b c cs h l.0 keeps empty in
      let r = follow (state_after t 0 a g.made) (after_choice t 1 b c) cs g.follows l.1 (keeps-right (effect_of t 1 b c).commits _ keeps) empty in
      record {
        made = g.made ++ r.made;
        cores = cores-append (length t.programs) g.made r.made g.cores r.cores;
        commits =
            commits-append t 0 a g.made r.made
            ∙ ap (λ z. z ++ commits_of t 0 (state_after t 0 a g.made) r.made) g.commits
            ∙ ap (λ z. (effect_of t 1 b c).commits ++ z) r.commits;
        follows = subst (λ z. Follows t z (state_after t 1 (after_choice t 1 b c) cs)) (sym (after-append t 0 a g.made r.made)) r.follows;
      }

-- ---- the beginning and the end

start-cores : (c : ℕ) (ps : List (List Instr)) (rs : List (List ℕ)) → length (started c ps rs) ≡ length ps
start-cores c [] rs = refl
start-cores c (p ∷ ps) rs = ap suc (start-cores (c + 1) ps rs)

start-empty : (c : ℕ) (ps : List (List Instr)) (rs : List (List ℕ)) (k : ℕ) → (slice_index_or (started c ps rs) k idle).pending ≡ []
start-empty c [] rs k = refl
start-empty c (p ∷ ps) rs zero = refl
start-empty c (p ∷ ps) rs (suc k) = start-empty (c + 1) ps rs k

start-follows : (t : Litmus) → Follows t (start t) (start t)
start-follows t = record {
  memory = refl;
  first = start-cores 0 t.programs t.registers;
  second = start-cores 0 t.programs t.registers;
  cores = λ k l. inl (record { same = refl; empty = start-empty 0 t.programs t.registers k });
}

none-pending : (xs : List Entry) → is_none_pending xs ≡ true → xs ≡ []
none-pending [] q = refl
none-pending (x ∷ xs) q = absurd (let z : ⊥ = cc in z)

done-empty : (ps : List (List Instr)) (ss : List CoreState) (k : ℕ) → length ss ≡ length ps → all_done ps ss ≡ true → (slice_index_or ss k idle).pending ≡ []
done-empty ps [] k n h = refl
done-empty [] (s ∷ ss) k n h = absurd (let z : ⊥ = omega (arith, n) in z)
done-empty (p ∷ ps) (s ∷ ss) zero n h =
    none-pending s.pending (and-right (length p == s.place) (is_none_pending s.pending) (and-left (is_done p s) (all_done ps ss) h))
done-empty (p ∷ ps) (s ∷ ss) (suc k) n h = done-empty ps ss k (omega (arith, n)) (and-right (is_done p s) (all_done ps ss) h)

same-cores : (xs ys : List CoreState) → length xs ≡ length ys → ((k : ℕ) → k < length xs → slice_index_or xs k idle ≡ slice_index_or ys k idle) → xs ≡ ys
same-cores [] [] n h = refl
same-cores [] (y ∷ ys) n h = absurd (let z : ⊥ = omega (arith, n) in z)
same-cores (x ∷ xs) [] n h = absurd (let z : ⊥ = omega (arith, n) in z)
same-cores (x ∷ xs) (y ∷ ys) n h = rw (h 0 (omega arith), same-cores xs ys (omega (arith, n)) (λ k l. h (suc k) (omega (arith, l)))) refl

-- where nothing is pending, the two states have the same cores
level : (t : Litmus) (a b : State) → Follows t a b → ((k : ℕ) → k < length t.programs → (core_of b k).pending ≡ []) → a.cores ≡ b.cores
level t a b h empty = same-cores a.cores b.cores (h.first ∙ sym h.second) (λ k l. core k (let n = h.first in omega (arith, n, l)))
  where
    core : (k : ℕ) → k < length t.programs → core_of a k ≡ core_of b k
    core k l = elim (h.cores k l) [
      | inl w ↦ w.same
      | inr w ↦ absurd (let q = ap (λ z. z.pending) (sym w.is) ∙ empty k l in let z : ⊥ = cc in z)
    ]

size : (t : Litmus) (d : ℕ) (s : State) (cs : List Choice) → length s.cores ≡ length t.programs → length (state_after t d s cs).cores ≡ length t.programs
size t d s [] n = n
size t d s (c ∷ cs) n = size t d (after_choice t d s c) cs (length-set s.cores (chosen c) (effect_of t d s c).after ∙ n)

module _ (stalls : StallsChangeNothing) (stop : RunsStopWhereTheyEnd) (exactly : RunsReachExactlyTheExecutions)
    (ended : (t : Litmus) (depth : ℕ) (choices : List Choice) → IsWellFormed t → End t depth choices → IsExecution t (run t depth choices))
    (keeps : (t : Litmus) (choices : List Choice) → IsWellFormed t → KeepsAllOrder (run t 0 choices).commits) where
  followed : (t : Litmus) (order : List Entry) → KeepsAllOrder order → IsReached t 1 order → IsReached t 0 order
  followed t order k h =
      let s = stop.stops t 1 h.choices in
      let last : State = state_after t 1 (start t) h.choices in
      let order_is : commits_of t 1 (start t) h.choices ≡ order = sym s.all_commits ∙ h.commits in
      let done : has_ended t (state_after t 1 (start t) h.choices) ≡ true = ap (has_ended t) (sym s.all_state) ∙ sym s.ended ∙ h.ended in
      let empty : (j : ℕ) → j < length t.programs → (core_of (state_after t 1 (start t) h.choices) j).pending ≡ [] =
      λ j l.
      done-empty t.programs (state_after t 1 (start t) h.choices).cores j
      (size t 1 (start t) h.choices (start-cores 0 t.programs t.registers)) done in
      let p = follow stalls t (start t) (start t) h.choices (start-follows t) h.cores (subst (λ z. KeepsAllOrder z) (sym order_is) k) empty in
      let r = stop.stops t 0 p.made in
      let cores = level t (state_after t 0 (start t) p.made) (state_after t 1 (start t) h.choices) p.follows empty in
      record {
        choices = p.made;
        cores = p.cores;
        ended = r.ended ∙ ap (has_ended t) r.all_state ∙ ap (all_done t.programs) cores ∙ done;
        commits = r.all_commits ∙ p.commits ∙ order_is;
      }

  reached : (t : Litmus) (order : List Entry) → IsWellFormed t → IsSequentiallyConsistent t order → IsReached t 0 order
  reached t order test h = followed t order h.keeps ((exactly.by_depth t 1 order test (omega arith)).1 (h.execution, needs-one order h.keeps))

  sequential : (t : Litmus) (order : List Entry) → IsWellFormed t → IsReached t 0 order → IsSequentiallyConsistent t order
  sequential t order test h = record {
    execution = subst (λ z. IsTsoExecution t z) h.commits (ended t 0 h.choices test h.ended).order;
    keeps = subst (λ z. KeepsAllOrder z) h.commits (keeps t h.choices test);
  }

  pub unbuffered : UnbufferedRunsReachExactlyTheSequentiallyConsistent
  unbuffered t order test = (sequential t order test, reached t order test)
