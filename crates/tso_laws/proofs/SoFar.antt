-- What holds after any list of choices, in the words of the definitions.
use Rattle.tso_laws.proofs.Vocabulary.{◌≡◌, ◌≢◌, ◌<◌, ◌≤◌, ℕ, zero, suc, List, [], ◌∷◌, ◌++◌, Some, length, take, slice_get, slice_index}
use Rattle.tso_laws.proofs.Vocabulary.{slice_index_or, All, arith, ap, sym, ◌∙◌, append_assoc, refl, ◌⊎◌, inl, inr, subst, filter}
use Rattle.tso_laws.proofs.Vocabulary.{slice_get-get_or, Litmus, IsWellFormed, KnownLocation, made_by, KeepsProgramOrder, StandsIn, registers_of}
use Rattle.tso_laws.proofs.Vocabulary.{CoreState, State, idle, program_of, core_of, effect_of, after_choice, start, run, Instr, Entry}
use Rattle.tso_laws.proofs.Vocabulary.{Choice, decide, lt-or, state_after, commits_of, IsPossible, issued, is_waiting, CoreSoFar, IsIssued}
use Rattle.tso_laws.proofs.Vocabulary.{SoFar, Each, each-at, each-map, each-append, each-right, Member, member-at, append-nil, no-program}
use Rattle.tso_laws.proofs.Folds.{HasLocations, due-is}
use Rattle.tso_laws.proofs.Entries.{Fine, Ordered, DueIn}
use Rattle.tso_laws.proofs.OneList.{Queued}
use Rattle.tso_laws.proofs.CoreInvariant.{CoreInvariant}
use Rattle.tso_laws.proofs.Rounds.{after-append}
use Rattle.tso_laws.proofs.OrderSteps.{commits-append}
use Rattle.tso_laws.proofs.MachineInvariant.{MachineInvariant, world-run, world-start}
use Rattle.tso_laws.proofs.Final.{kept-by-each, world-ordered, due-at, paired-at, memory-list}
use Rattle.tso_laws.proofs.Whole.{at-member}
use Rattle.tso_laws.proofs.Fits.{made-fits}
use Rattle.tso_laws.proofs.Waiting.{waits}
use Rattle.tso_laws.proofs.Stopping.{run-stops-at-end}

-- the limits give each location of the programs a word
pub test-locations : (t : Litmus) → IsWellFormed t → HasLocations t
test-locations t test k i x e =
    subst (λ n. KnownLocation n x) (sym test.words_given) (within k i x e (lt-or (length t.programs) k))
  where
    at : (p : List Instr) (i : ℕ) (x : Instr) → slice_get p i ≡ Some x → (i < length p) × (slice_index_or p i x ≡ x)
    at [] i x e = absurd (let z : ⊥ = cc in z)
    at (y ∷ p) zero x e = (omega arith, let z : y ≡ x = cc in z)
    at (y ∷ p) (suc i) x e = let r = at p i x e in (let l = r.0 in omega arith, r.1)

    within : (k i : ℕ) (x : Instr)
        → slice_get (program_of t k) i ≡ Some x
        → (k < length t.programs) ⊎ (length t.programs ≤ k)
        → KnownLocation (length t.locations) x
    within k i x e (inl l) =
        let r = at (program_of t k) i x e in
        subst (λ z. KnownLocation (length t.locations) z) r.1 (test.locations_known k [] l i x r.0)
    within k i x e (inr l) =
        absurd (let q : slice_get (program_of t k) i ≡ slice_get [] i = ap (λ z. slice_get z i) (no-program t.programs k l) in let z : ⊥ = cc in z)

each-all : (P : Entry → Type 0) (xs : List Entry) → Each P xs → All P xs
each-all P xs h k d l = each-at P xs k (slice_index_or xs k d) h (slice_get-get_or xs k d l)

-- entries of other cores after a list change nothing in what a core sees
ordered-foreign : (d c : ℕ) (xs ys : List Entry) → Ordered d c xs → Each (λ y. y.core.0 ≢ c) ys → Ordered d c (xs ++ ys)
ordered-foreign d c [] [] o f = tt
ordered-foreign d c [] (y ∷ ys) o f = (each-map (λ z. z.core.0 ≢ c) (λ z. Fine d c y z) ys (λ z n k b. absurd (n k)) f.1, ordered-foreign d c [] ys tt f.1)
ordered-foreign d c (x ∷ xs) ys o f = (
  each-append (λ z. Fine d c x z) xs ys o.0 (each-map (λ z. z.core.0 ≢ c) (λ z. Fine d c x z) ys (λ z n k b. absurd (n k)) f),
  ordered-foreign d c xs ys o.1 f,
)

pub core-so-far : (d : ℕ) (t : Litmus) (commits : List Entry) (k : ℕ) (s : CoreState)
    → CoreInvariant d k (program_of t k) (slice_index_or t.registers k []) t.words commits s
    → KeepsProgramOrder (commits ++ s.pending)
    → CoreSoFar t d commits k s
core-so-far d t commits k s h order =
    let w = waits d k (program_of t k) (slice_index_or t.registers k []) t.words commits s h in
    let done : issued t k s.place commits ≡ h.done =
    ap (λ z. made_by k (take s.place (program_of t k)) (slice_index_or t.registers k []) z) (sym (append-nil commits))
    ∙ h.made [] in
    record {
      place = h.within;
      pending = w.pending ∙ ap (λ z. filter (is_waiting commits) z) (sym done);
      room = h.fits;
      order = order;
      locations = each-all (λ e. e.loc.0 < length t.words) s.pending (known s.pending h.queued);
      others = λ e m q. member-at e commits (w.others e (at-member h.done m.0 e (subst (λ z. slice_get z m.0 ≡ Some e) done m.1)) q);
      registers = sym (h.now []) ∙ ap (λ z. registers_of k (take s.place (program_of t k)) (slice_index_or t.registers k []) z) (append-nil commits);
    }
  where
    known : (ys : List Entry) → Each (Queued k (length t.words)) ys → Each (λ e. e.loc.0 < length t.words) ys
    known [] q = tt
    known (y ∷ ys) q = (q.0.known, known ys q.1)

pub so-far : (d : ℕ) (t : Litmus) (commits : List Entry) (state : State)
    → IsWellFormed t
    → HasLocations t
    → MachineInvariant d t commits state
    → SoFar t d commits state
so-far d t commits state test known w = record {
  each_issued = λ e m. of-core e m (each-at (λ e. e.core.0 < length t.programs) commits m.0 e w.known m.1);
  program_order = kept-by-each d (length t.programs) commits w.known (world-ordered d t commits state w);
  adjacent = paired-at commits w.pairs;
  read_values = λ front x back q r.
      let v : Each (λ e. e.core.0 < length t.programs) (front ++ (x ∷ back)) = subst (λ z. Each (λ e. e.core.0 < length t.programs) z) q w.known in
      let l = (each-right (λ e. e.core.0 < length t.programs) front (x ∷ back) v).0 in
      let p : List Entry = (core_of state x.core.0).pending in
      let same : commits ++ p ≡ front ++ (x ∷ (back ++ p)) = ap (λ z. z ++ p) q ∙ append_assoc front (x ∷ back) p in
      due-at x.core.0 t.words [] front x (back ++ p) (subst (λ z. DueIn x.core.0 t.words [] z) same (holds x.core.0 l).sees.due) refl r
      ∙ sym (due-is x front (back ++ p) (slice_index t.words x.loc.0));
  memory = memory-list t.words state.memory commits w.room w.memory;
  size = w.size;
  cores = λ k l. core-so-far d t commits k (core_of state k) (holds k l) (order k l);
}
  where
    holds : (k : ℕ) → k < length t.programs → CoreInvariant d k (program_of t k) (slice_index_or t.registers k []) t.words commits (core_of state k)
    holds k l = w.cores k (core_of state k) (slice_get-get_or state.cores k idle (rw w.size l))

    mine : (k : ℕ) → k < length t.programs → Each (λ e. e.core.0 ≡ k) (core_of state k).pending
    mine k l = each-map (Queued k (length t.words)) (λ e. e.core.0 ≡ k) (core_of state k).pending (λ e q. q.own) (holds k l).queued

    -- another core's pending stores are nothing to this one
    seen-by : (k j : ℕ) → k < length t.programs → j < length t.programs → Ordered d j (commits ++ (core_of state k).pending)
    seen-by k j l m = elim (decide j k) [
      | inl q ↦ subst (λ z. Ordered d z (commits ++ (core_of state k).pending)) (sym q) (holds k l).sees.kept
      | inr n ↦ ordered-foreign d j commits (core_of state k).pending (world-ordered d t commits state w j m)
          (each-map (λ e. e.core.0 ≡ k) (λ e. e.core.0 ≢ j) (core_of state k).pending (λ e q p. n (sym p ∙ q)) (mine k l))
    ]

    order : (k : ℕ) → k < length t.programs → KeepsProgramOrder (commits ++ (core_of state k).pending)
    order k l = kept-by-each d (length t.programs) (commits ++ (core_of state k).pending)
        (each-append (λ e. e.core.0 < length t.programs) commits (core_of state k).pending w.known
        (each-map (λ e. e.core.0 ≡ k) (λ e. e.core.0 < length t.programs) (core_of state k).pending (λ e q. rw q l) (mine k l)))
        (λ j m. seen-by k j l m)

    of-core : (e : Entry) → StandsIn commits e → e.core.0 < length t.programs → IsIssued t commits state e
    of-core e m l =
        let k : ℕ = e.core.0 in
        let h = holds k l in
        let i = waits d k (program_of t k) (slice_index_or t.registers k []) t.words commits (core_of state k) h in
        let done : issued t k (core_of state k).place commits ≡ h.done =
        ap (λ z. made_by k (take (core_of state k).place (program_of t k)) (slice_index_or t.registers k []) z) (sym (append-nil commits))
        ∙ h.made [] in
        let s = member-at e h.done (i.issued e (at-member commits m.0 e m.1) refl) in
        record {
          fits =
              made-fits t (core_of state k).place commits e test known l
              (subst (λ z. Member e z) (sym done) (i.issued e (at-member commits m.0 e m.1) refl));
          entry = (s.0, subst (λ z. slice_get z s.0 ≡ Some e) (sym done) s.1);
        }

pub choices-so-far : (t : Litmus) (d : ℕ) (cs : List Choice) → IsWellFormed t → SoFar t d (commits_of t d (start t) cs) (state_after t d (start t) cs)
choices-so-far t d cs test =
    so-far d t (commits_of t d (start t) cs) (state_after t d (start t) cs) test (test-locations t test)
    (world-run t d [] (start t) cs (test-locations t test) (world-start d t))

pub run-so-far : (t : Litmus) (d : ℕ) (cs : List Choice) → IsWellFormed t → SoFar t d (run t d cs).commits (run t d cs).state
run-so-far t d cs test =
    let s = run-stops-at-end t d cs in
    rw (s.all_commits, s.all_state) (choices-so-far t d cs test)

-- one choice more
pub possible-next : (t : Litmus) (d : ℕ) (commits : List Entry) (state : State) (c : Choice) → IsPossible t d commits state
    → IsPossible t d (commits ++ (effect_of t d state c).commits) (after_choice t d state c)
possible-next t d commits state c p = record {
  choices = p.choices ++ (c ∷ []);
  commits_are = commits-append t d (start t) p.choices (c ∷ []) ∙ ap (λ z. z ++ commits_of t d (state_after t d (start t) p.choices) (c ∷ [])) p.commits_are
      ∙ ap (λ z. commits ++ commits_of t d z (c ∷ [])) p.state_is ∙ ap (λ z. commits ++ z) (append-nil (effect_of t d state c).commits);
  state_is = after-append t d (start t) p.choices (c ∷ []) ∙ ap (λ z. after_choice t d z c) p.state_is;
}

pub possible-start : (t : Litmus) (d : ℕ) → IsPossible t d [] (start t)
possible-start t d = record { choices = []; commits_are = refl; state_is = refl }

pub possible-run : (t : Litmus) (d : ℕ) (cs : List Choice) → IsPossible t d (run t d cs).commits (run t d cs).state
possible-run t d cs = let s = run-stops-at-end t d cs in record { choices = cs; commits_are = sym s.all_commits; state_is = sym s.all_state }

pub possible-so-far : (t : Litmus) (d : ℕ) (commits : List Entry) (state : State) → IsWellFormed t → IsPossible t d commits state → SoFar t d commits state
possible-so-far t d commits state test p = rw (← p.commits_are, ← p.state_is) (choices-so-far t d p.choices test)
