-- What each core's state keeps, and that a choice keeps it.
use Rattle.tso_terms.specs.Thread.{changed, with_taken}
use Rattle.tso_terms.specs.FlatMachine.{advanced_taking, advanced_to}
use Rattle.tso_laws.proofs.Vocabulary.{◌≡◌, ◌≢◌, ◌<◌, ◌≤◌, ℕ, ◌+◌, zero, suc, List, [], ◌∷◌, ◌++◌, Option, Some, None, IfSome, Bool, true}
use Rattle.tso_laws.proofs.Vocabulary.{false, length, slice_get, slice_index, take, drop, arith, ap, sym, ◌∙◌, append_assoc, refl}
use Rattle.tso_laws.proofs.Vocabulary.{length-append, subst, nat_lt, if◌then◌else◌, slice_get_within, nat_tests, KnownLocation, action_of}
use Rattle.tso_laws.proofs.Vocabulary.{location_of, entry, fence, value_in, with_value, value_of, updated, is_write, is_write_kind, rank}
use Rattle.tso_laws.proofs.Vocabulary.{IsStorePart, is_at, read_value, made_by, registers_of, CoreState, effect_by, step_of, drain_of}
use Rattle.tso_laws.proofs.Vocabulary.{stalled, stored, advanced, advanced_with, load_value, fenced, locked, Reg, Instr, Loc, Action, Store}
use Rattle.tso_laws.proofs.Vocabulary.{Load, Move, Fence, Lock, Entry, R, W, LR, LW, Each, each-map, each-append, each-left, append-nil}
use Rattle.tso_laws.proofs.Draining.{waits-or-acts, drains}
use Rattle.tso_terms.specs.declared.choice.Stall.TheVariants as stall
use Rattle.tso_laws.proofs.Folds.{last_word, word-is, put}
use Rattle.tso_laws.proofs.Threads.{makes, leaves, makes-split, makes-next, leaves-next}
use Rattle.tso_laws.proofs.Entries.{read_value-after}
use Rattle.tso_laws.proofs.OneList.{OneList, Precedes, Queued, sees-other, sees-load, sees-store, sees-last, sees-later}

-- what is left of a core's program, under the order's own read values
abbrev pub left : ℕ → List Instr → CoreState → List Entry → List Entry
left c program s order = makes c s.place (drop s.place program) s.registers order

-- the commits and a core's state agree
pub record CoreInvariant (d c : ℕ) (program : List Instr) (first words : List ℕ) (commits : List Entry) (s : CoreState) : Type 0 where
  pub done : List Entry
  pub sees : OneList d c (s.place + s.place) words done (commits ++ s.pending)
  pub queued : Each (Queued c (length words)) s.pending
  pub made : (X : List Entry) → made_by c (take s.place program) first (commits ++ X) ≡ done
  pub now : (X : List Entry) → registers_of c (take s.place program) first (commits ++ X) ≡ s.registers
  pub fits : length s.pending ≤ d
  pub within : s.place ≤ length program

-- whatever is committed later, the program makes what is done, and then what is left
pub trace : (d c : ℕ) (program : List Instr) (first words : List ℕ) (commits : List Entry) (s : CoreState)
    (h : CoreInvariant d c program first words commits s) (X : List Entry)
    → made_by c program first (commits ++ X) ≡ h.done ++ left c program s (commits ++ X)
trace d c program first words commits s h X =
    subst (λ n.
    made_by c program first (commits ++ X)
    ≡ made_by c (take s.place program) first (commits ++ X)
    ++ makes c n (drop s.place program) (registers_of c (take s.place program) first (commits ++ X)) (commits ++ X))
    (let z : 0 + s.place ≡ s.place = omega arith in z) (makes-split c 0 s.place program first (commits ++ X))
    ∙ ap (λ z. z ++ makes c s.place (drop s.place program) (registers_of c (take s.place program) first (commits ++ X)) (commits ++ X)) (h.made X)
    ∙ ap (λ z. h.done ++ makes c s.place (drop s.place program) z (commits ++ X)) (h.now X)

-- the memory has the last word of each location
abbrev pub IsMemory : List ℕ → List Entry → List ℕ → Type 0
IsMemory words commits memory = (loc : ℕ) → loc < length words → slice_index memory loc ≡ last_word loc commits (slice_index words loc)

writes_of : (c n : ℕ) (ys : List Entry) → Each (Queued c n) ys → Each (λ y. is_write y ≡ true) ys
writes_of c n ys q = each-map (Queued c n) (λ y. is_write y ≡ true) ys (λ y z. ap is_write_kind z.kind) q

-- a commit of another core
pub holds-other : (d c : ℕ) (program : List Instr) (first words : List ℕ) (commits : List Entry) (s : CoreState)
    (e : Entry)
    → CoreInvariant d c program first words commits s
    → e.core.0 ≢ c → CoreInvariant d c program first words (commits ++ (e ∷ [])) s
holds-other d c program first words commits s e h n = record {
  done = h.done;
  sees = sees-other d c (s.place + s.place) words h.done commits s.pending e h.sees (writes_of c (length words) s.pending h.queued) n;
  queued = h.queued;
  made = λ X. rw (append_assoc commits (e ∷ []) X) (h.made (e ∷ X));
  now = λ X. rw (append_assoc commits (e ∷ []) X) (h.now (e ∷ X));
  fits = h.fits;
  within = h.within;
}

store_rank : (e : Entry) → e.kind ≡ W → rank e ≡ e.place + e.place
store_rank e w = rw w (omega arith)

preceding_place : (c place : ℕ) (xs : List Entry) → Each (Precedes c (place + place)) xs → Each (λ x. x.core.0 ≡ c → x.place < place) xs
preceding_place c place xs h = each-map (Precedes c (place + place)) (λ x. x.core.0 ≡ c → x.place < place) xs (λ x f k. let l = f k in omega (arith, l)) h

-- the instruction at the core's place makes these entries and leaves these registers
pub record Issues (c : ℕ) (s : CoreState) (i : Instr) (order es : List Entry) (next : List ℕ) : Type 0 where
  pub entries : makes c s.place (i ∷ []) s.registers order ≡ es
  pub registers : leaves c s.place (i ∷ []) s.registers order ≡ next

more-made : (d c : ℕ) (program : List Instr) (first words : List ℕ) (commits : List Entry) (s : CoreState) (i : Instr)
    (es : List Entry) (h : CoreInvariant d c program first words commits s)
    → slice_get program s.place ≡ Some i
    → (X : List Entry) → makes c s.place (i ∷ []) s.registers (commits ++ X) ≡ es → made_by c (take (s.place + 1) program) first (commits ++ X) ≡ h.done ++ es
more-made d c program first words commits s i es h e X q =
    makes-next c s.place program first (commits ++ X) i e
    ∙ ap (λ z. z ++ makes c s.place (i ∷ []) (registers_of c (take s.place program) first (commits ++ X)) (commits ++ X)) (h.made X)
    ∙ ap (λ z. h.done ++ makes c s.place (i ∷ []) z (commits ++ X)) (h.now X)
    ∙ ap (λ z. h.done ++ z) q

more-now : (d c : ℕ) (program : List Instr) (first words : List ℕ) (commits : List Entry) (s : CoreState) (i : Instr)
    (registers : List ℕ)
    → CoreInvariant d c program first words commits s
    → slice_get program s.place ≡ Some i
    → (X : List Entry) → leaves c s.place (i ∷ []) s.registers (commits ++ X) ≡ registers
    → registers_of c (take (s.place + 1) program) first (commits ++ X) ≡ registers
more-now d c program first words commits s i registers h e X q =
    leaves-next c s.place program first (commits ++ X) i e ∙ ap (λ z. leaves c s.place (i ∷ []) z (commits ++ X)) (h.now X) ∙ q

next-within : (program : List Instr) (n : ℕ) (i : Instr) → slice_get program n ≡ Some i → n + 1 ≤ length program
next-within program n i e = let l = slice_get_within program n i e in omega arith

-- a store of the core becomes pending
pub holds-store : (d c : ℕ) (program : List Instr) (first words : List ℕ) (commits : List Entry) (s : CoreState)
    (i : Instr) (e : Entry)
    → CoreInvariant d c program first words commits s
    → slice_get program s.place ≡ Some i → e.core.0 ≡ c → e.place ≡ s.place → e.kind ≡ W → e.loc.0 < length words → length s.pending < d
    → ((X : List Entry) → Issues c s i X (e ∷ []) s.registers)
    → CoreInvariant d c program first words commits (put s e).after
holds-store d c program first words commits s i e h at k p w l room next = record {
  done = h.done ++ (e ∷ []);
  sees = subst (λ z. OneList d c ((s.place + 1) + (s.place + 1)) words (h.done ++ (e ∷ [])) z) (append_assoc commits s.pending (e ∷ []))
      (let r =
      store_rank e w in
      sees-store d c (s.place + s.place) ((s.place + 1) + (s.place + 1)) words h.done (commits ++ s.pending) e
      h.sees k (omega (arith, r, p)) (omega (arith, r, p)) (ap is_write_kind w));
  queued = each-append (Queued c (length words)) s.pending (e ∷ []) h.queued (record { own = k; kind = w; known = l }, tt);
  made = λ X. more-made d c program first words commits s i (e ∷ []) h at X (next (commits ++ X)).entries;
  now = λ X. more-now d c program first words commits s i s.registers h at X (next (commits ++ X)).registers;
  fits = let n = length-append s.pending (e ∷ []) in omega arith;
  within = next-within program s.place i at;
}

-- a store of the core goes to memory at once
pub holds-written : (d c : ℕ) (program : List Instr) (first words : List ℕ) (commits : List Entry) (s : CoreState)
    (i : Instr) (e : Entry)
    → CoreInvariant d c program first words commits s
    → slice_get program s.place ≡ Some i → e.core.0 ≡ c → e.place ≡ s.place → e.kind ≡ W → e.loc.0 < length words → s.pending ≡ []
    → ((X : List Entry) → Issues c s i X (e ∷ []) s.registers)
    → CoreInvariant d c program first words (commits ++ (e ∷ [])) (advanced s)
holds-written d c program first words commits s i e h at k p w l none next =
    let before : OneList d c (s.place + s.place) words h.done commits =
    subst (λ z. OneList d c (s.place + s.place) words h.done z) (ap (λ z. commits ++ z) none ∙ append-nil commits) h.sees in
    record {
      done = h.done ++ (e ∷ []);
      sees =
          subst (λ z. OneList d c ((s.place + 1) + (s.place + 1)) words (h.done ++ (e ∷ [])) z)
          (sym (ap (λ z. (commits ++ (e ∷ [])) ++ z) none ∙ append-nil (commits ++ (e ∷ []))))
          (let r =
          store_rank e w in
          sees-store d c (s.place + s.place) ((s.place + 1) + (s.place + 1)) words h.done commits e before k
          (omega (arith, r, p)) (omega (arith, r, p)) (ap is_write_kind w));
      queued = h.queued;
      made = λ X.
          rw (append_assoc commits (e ∷ []) X)
          (more-made d c program first words commits s i (e ∷ []) h at (e ∷ X) (next (commits ++ (e ∷ X))).entries);
      now = λ X.
          rw (append_assoc commits (e ∷ []) X)
          (more-now d c program first words commits s i s.registers h at (e ∷ X) (next (commits ++ (e ∷ X))).registers);
      fits = h.fits;
      within = next-within program s.place i at;
    }

-- a load of the core
pub holds-load : (d c : ℕ) (program : List Instr) (first words memory : List ℕ) (commits : List Entry) (s : CoreState)
    (i : Instr) (loc : Loc) (reg : Reg)
    → CoreInvariant d c program first words commits s
    → slice_get program s.place ≡ Some i → IsMemory words commits memory → loc.0 < length words
    → ((X : List Entry) (v : ℕ) → read_value c s.place R X ≡ v → Issues c s i X (entry c s.place R loc v ∷ []) (with_value s.registers reg v))
    → CoreInvariant d c program first words
    (commits ++ (entry c s.place R loc (load_value memory s loc.0) ∷ []))
    (advanced_with s reg (load_value memory s loc.0))
holds-load d c program first words memory commits s i loc reg h at m l next =
    let v : ℕ = load_value memory s loc.0 in
    let e : Entry = entry c s.place R loc v in
    let read : (X : List Entry) → read_value c s.place R (commits ++ (e ∷ X)) ≡ v = λ X.
    read_value-after c s.place R commits X e
    (preceding_place c s.place commits (each-left (Precedes c (s.place + s.place)) commits s.pending h.sees.preceding))
    (reads c s.place loc v) in
    record {
      done = h.done ++ (e ∷ []);
      sees =
          sees-load d c (s.place + s.place) ((s.place + 1) + (s.place + 1)) words h.done commits s.pending e h.sees
          h.queued h.fits refl (omega arith) (omega arith) refl
          (word-is loc.0 s.pending (slice_index memory loc.0) ∙ ap (λ w. last_word loc.0 s.pending w) (m loc.0 l));
      queued = h.queued;
      made = λ X.
          rw (append_assoc commits (e ∷ []) X)
          (more-made d c program first words commits s i (e ∷ []) h at (e ∷ X) (next (commits ++ (e ∷ X)) v (read X)).entries);
      now = λ X.
          rw (append_assoc commits (e ∷ []) X)
          (more-now d c program first words commits s i (with_value s.registers reg v) h at (e ∷ X) (next (commits ++ (e ∷ X)) v (read X)).registers);
      fits = h.fits;
      within = next-within program s.place i at;
    }
  where
    reads : (c place : ℕ) (loc : Loc) (v : ℕ) → is_at c place R (entry c place R loc v) ≡ true
    reads c place loc v = grind (arith, nat_tests)

-- a drain of the core
pub holds-drain : (d c : ℕ) (program : List Instr) (first words : List ℕ) (commits : List Entry) (s : CoreState)
    (e : Entry) (rest : List Entry)
    → CoreInvariant d c program first words commits s
    → s.pending ≡ e ∷ rest → CoreInvariant d c program first words (commits ++ (e ∷ [])) (record { place = s.place; registers = s.registers; pending = rest })
holds-drain d c program first words commits s e rest h q = record {
  done = h.done;
  sees = subst (λ z. OneList d c (s.place + s.place) words h.done z) (ap (λ z. commits ++ z) q ∙ sym (append_assoc commits (e ∷ []) rest)) h.sees;
  queued = (subst (λ z. Each (Queued c (length words)) z) q h.queued).1;
  made = λ X. rw (append_assoc commits (e ∷ []) X) (h.made (e ∷ X));
  now = λ X. rw (append_assoc commits (e ∷ []) X) (h.now (e ∷ X));
  fits = let l = h.fits in let n : length s.pending ≡ suc (length rest) = ap length q in omega arith;
  within = h.within;
}

same-commits : (d c : ℕ) (program : List Instr) (first words : List ℕ) (commits : List Entry) (s : CoreState)
    → CoreInvariant d c program first words commits s
    → CoreInvariant d c program first words (commits ++ []) s
same-commits d c program first words commits s h = subst (λ z. CoreInvariant d c program first words z s) (sym (append-nil commits)) h

holds-stored : (c d : ℕ) (program : List Instr) (first words : List ℕ) (commits : List Entry) (s : CoreState)
    (i : Instr) (e : Entry)
    → CoreInvariant d c program first words commits s
    → slice_get program s.place ≡ Some i → e.core.0 ≡ c → e.place ≡ s.place → e.kind ≡ W → e.loc.0 < length words
    → ((X : List Entry) → Issues c s i X (e ∷ []) s.registers)
    → CoreInvariant d c program first words (commits ++ (stored d s e).commits) (stored d s e).after
holds-stored c zero program first words commits s i e h at k p w l next =
    holds-written 0 c program first words commits s i e h at k p w l (none s.pending h.fits) next
  where
    none : (xs : List Entry) → length xs ≤ 0 → xs ≡ []
    none [] m = refl
    none (x ∷ xs) m = absurd (omega arith)
holds-stored c (suc n) program first words commits s i e h at k p w l next = go (nat_lt (length s.pending) (suc n)) refl
  where
    within : (a b : ℕ) → nat_lt a b ≡ true → a < b
    within a b q = grind (arith, nat_tests)

    go : (b : Bool) → nat_lt (length s.pending) (suc n) ≡ b
        → CoreInvariant (suc n) c program first words
        (commits ++ (if b then put s e else stalled stall.Full s).commits)
        (if b then put s e else stalled stall.Full s).after
    go true q =
        same-commits (suc n) c program first words commits (put s e).after
        (holds-store (suc n) c program first words commits s i e h at k p w l (within (length s.pending) (suc n) q) next)
    go false q = same-commits (suc n) c program first words commits s h

-- a register move
holds-moved : (d c : ℕ) (program : List Instr) (first words : List ℕ) (commits : List Entry) (s : CoreState) (i : Instr)
    (registers : List ℕ)
    → CoreInvariant d c program first words commits s
    → slice_get program s.place ≡ Some i
    → ((X : List Entry) → Issues c s i X [] registers)
    → CoreInvariant d c program first words commits (advanced_to s registers)
holds-moved d c program first words commits s i registers h at next = record {
  done = h.done;
  sees = sees-later d c (s.place + s.place) ((s.place + 1) + (s.place + 1)) words h.done (commits ++ s.pending) (omega arith) h.sees;
  queued = h.queued;
  made = λ X. more-made d c program first words commits s i [] h at X (next (commits ++ X)).entries ∙ append-nil h.done;
  now = λ X. more-now d c program first words commits s i registers h at X (next (commits ++ X)).registers;
  fits = h.fits;
  within = next-within program s.place i at;
}

-- a fence, where nothing is pending
holds-fenced : (d c : ℕ) (program : List Instr) (first words : List ℕ) (commits : List Entry) (s : CoreState)
    (i : Instr)
    → CoreInvariant d c program first words commits s
    → slice_get program s.place ≡ Some i
    → ((X : List Entry) → Issues c s i X (fence c s.place ∷ []) s.registers)
    → CoreInvariant d c program first words (commits ++ (fenced c s).commits) (fenced c s).after
holds-fenced d c program first words commits s i h at next =
    waits-or-acts (λ f. CoreInvariant d c program first words (commits ++ f.commits) f.after) stall.Fence s _ acts
    (same-commits d c program first words commits s h)
  where
    acts : s.pending ≡ [] → CoreInvariant d c program first words (commits ++ (fence c s.place ∷ [])) (advanced s)
    acts q =
        let e : Entry = fence c s.place in
        let v : OneList d c (s.place + s.place) words h.done commits =
        subst (λ z. OneList d c (s.place + s.place) words h.done z) (ap (λ z. commits ++ z) q ∙ append-nil commits) h.sees in
        record {
          done = h.done ++ (e ∷ []);
          sees =
              subst (λ z. OneList d c ((s.place + 1) + (s.place + 1)) words (h.done ++ (e ∷ [])) z)
              (sym (ap (λ z. (commits ++ (e ∷ [])) ++ z) q ∙ append-nil (commits ++ (e ∷ []))))
              (sees-last d c (s.place + s.place) ((s.place + 1) + (s.place + 1)) words h.done commits e v refl
              (omega arith) (omega arith) refl (λ r. absurd (let z : ⊥ = cc in z)));
          queued = h.queued;
          made = λ X.
              rw (append_assoc commits (e ∷ []) X)
              (more-made d c program first words commits s i (e ∷ []) h at (e ∷ X) (next (commits ++ (e ∷ X))).entries);
          now = λ X.
              rw (append_assoc commits (e ∷ []) X)
              (more-now d c program first words commits s i s.registers h at (e ∷ X) (next (commits ++ (e ∷ X))).registers);
          fits = h.fits;
          within = next-within program s.place i at;
        }

-- a locked instruction, where nothing is pending
holds-locked : (d c : ℕ) (program : List Instr) (first words memory : List ℕ) (commits : List Entry) (s : CoreState)
    (i : Instr) (loc : Loc) (reg : Option Reg) (w : ℕ)
    → CoreInvariant d c program first words commits s
    → slice_get program s.place ≡ Some i → IsMemory words commits memory → loc.0 < length words
    → ((X : List Entry) → read_value c s.place LR X ≡ slice_index memory loc.0
    → Issues c s i X (entry c s.place LR loc (slice_index memory loc.0) ∷ (entry c s.place LW loc w ∷ []))
    (with_taken s.registers reg (slice_index memory loc.0)))
    → CoreInvariant d c program first words
    (commits ++ (locked c s loc reg (slice_index memory loc.0) w).commits)
    (locked c s loc reg (slice_index memory loc.0) w).after
holds-locked d c program first words memory commits s i loc reg w h at m l next =
    waits-or-acts (λ f. CoreInvariant d c program first words (commits ++ f.commits) f.after) stall.Lock s _ acts
    (same-commits d c program first words commits s h)
  where
    reads : (c place : ℕ) (loc : Loc) (v : ℕ) → is_at c place LR (entry c place LR loc v) ≡ true
    reads c place loc v = grind (arith, nat_tests)

    acts : s.pending ≡ []
        → CoreInvariant d c program first words
        (commits ++ (entry c s.place LR loc (slice_index memory loc.0) ∷ (entry c s.place LW loc w ∷ [])))
        (advanced_taking s reg (slice_index memory loc.0))
    acts q =
        let v : ℕ = slice_index memory loc.0 in
        let a : Entry = entry c s.place LR loc v in
        let b : Entry = entry c s.place LW loc w in
        let before : OneList d c (s.place + s.place) words h.done commits =
        subst (λ z. OneList d c (s.place + s.place) words h.done z) (ap (λ z. commits ++ z) q ∙ append-nil commits) h.sees in
        let read : OneList d c (s.place + s.place + 1) words (h.done ++ (a ∷ [])) (commits ++ (a ∷ [])) =
        sees-last d c (s.place + s.place) (s.place + s.place + 1) words h.done commits a before refl (omega arith) (omega arith) refl (λ r. m loc.0 l) in
        let both : OneList d c ((s.place + 1) + (s.place + 1)) words ((h.done ++ (a ∷ [])) ++ (b ∷ [])) ((commits ++ (a ∷ [])) ++ (b ∷ [])) =
        sees-store d c (s.place + s.place + 1) ((s.place + 1) + (s.place + 1)) words (h.done ++ (a ∷ []))
        (commits ++ (a ∷ [])) b read refl (omega arith) (omega arith) refl in
        let value : (X : List Entry) → read_value c s.place LR (commits ++ (a ∷ (b ∷ X))) ≡ v = λ X.
        read_value-after c s.place LR commits (b ∷ X) a (preceding_place c s.place commits before.preceding) (reads c s.place loc v) in
        record {
          done = h.done ++ (a ∷ (b ∷ []));
          sees =
              subst
              (λ z. OneList d c ((s.place + 1) + (s.place + 1)) words z ((commits ++ (a ∷ (b ∷ []))) ++ s.pending))
              (append_assoc h.done (a ∷ []) (b ∷ []))
              (subst (λ z. OneList d c ((s.place + 1) + (s.place + 1)) words ((h.done ++ (a ∷ [])) ++ (b ∷ [])) z)
              (append_assoc commits (a ∷ []) (b ∷ [])
              ∙ sym (append-nil (commits ++ (a ∷ (b ∷ []))))
              ∙ sym (ap (λ z. (commits ++ (a ∷ (b ∷ []))) ++ z) q))
              both);
          queued = h.queued;
          made = λ X.
              rw (append_assoc commits (a ∷ (b ∷ [])) X)
              (more-made d c program first words commits s i (a ∷ (b ∷ [])) h at (a ∷ (b ∷ X)) (next (commits ++ (a ∷ (b ∷ X))) (value X)).entries);
          now = λ X.
              rw (append_assoc commits (a ∷ (b ∷ [])) X)
              (more-now d c program first words commits s i (with_taken s.registers reg v) h at (a ∷ (b ∷ X))
              (next (commits ++ (a ∷ (b ∷ X))) (value X)).registers);
          fits = h.fits;
          within = next-within program s.place i at;
        }

-- a step of the core itself
pub holds-step : (c d : ℕ) (program : List Instr) (first words memory : List ℕ) (commits : List Entry) (s : CoreState)
    → CoreInvariant d c program first words commits s
    → IsMemory words commits memory → ((i : ℕ) (x : Instr) → slice_get program i ≡ Some x → KnownLocation (length words) x)
    → (i : Option Instr) → slice_get program s.place ≡ i
    → CoreInvariant d c program first words (commits ++ (step_of d memory c i s).commits) (step_of d memory c i s).after
holds-step c d program first words memory commits s h m k None e = same-commits d c program first words commits s h
holds-step c d program first words memory commits s h m k (Some i) e = by_action (action_of i) refl
  where
    by_action : (a : Action)
        → action_of i ≡ a
        → CoreInvariant d c program first words (commits ++ (effect_by d memory c a s).commits) (effect_by d memory c a s).after
    by_action (Store loc operand) is =
        holds-stored c d program first words commits s i (entry c s.place W loc (value_of s.registers operand)) h e refl refl refl (rw is at (k s.place i e))
        (λ X. record { entries = rw is refl; registers = rw is refl })
    by_action (Load reg loc) is =
        holds-load d c program first words memory commits s i loc reg h e m (rw is at (k s.place i e))
        (λ X v r. record { entries = rw (is, r) refl; registers = rw (is, r) refl })
    by_action (Move change) is =
        same-commits d c program first words commits _
        (holds-moved d c program first words commits s i (changed change s.registers) h e
        (λ X. record { entries = rw is refl; registers = rw is refl }))
    by_action Fence is =
        holds-fenced d c program first words commits s i h e (λ X. record { entries = rw is refl; registers = rw is refl })
    by_action (Lock loc reg update) is =
        holds-locked d c program first words memory commits s i loc reg (updated update s.registers (slice_index memory loc.0)) h e m (rw is at (k s.place i e))
        (λ X r. record { entries = rw (is, r) refl; registers = rw (is, r) refl })

-- a drain of the core itself
pub holds-drained : (d c : ℕ) (program : List Instr) (first words : List ℕ) (commits : List Entry) (s : CoreState)
    → CoreInvariant d c program first words commits s
    → CoreInvariant d c program first words (commits ++ (drain_of s).commits) (drain_of s).after
holds-drained d c program first words commits s h =
    drains (λ f. CoreInvariant d c program first words (commits ++ f.commits) f.after) s (same-commits d c program first words commits s h)
    (λ x xs e. holds-drain d c program first words commits s x xs h e)

-- commits of another core
pub holds-others : (d c : ℕ) (program : List Instr) (first words : List ℕ) (commits es : List Entry) (s : CoreState)
    → CoreInvariant d c program first words commits s
    → Each (λ e. e.core.0 ≢ c) es → CoreInvariant d c program first words (commits ++ es) s
holds-others d c program first words commits [] s h n = same-commits d c program first words commits s h
holds-others d c program first words commits (e ∷ es) s h n =
    subst (λ z. CoreInvariant d c program first words z s) (append_assoc commits (e ∷ []) es)
    (holds-others d c program first words (commits ++ (e ∷ [])) es s (holds-other d c program first words commits s e h n.0) n.1)

-- a commit of core c, to a known location where it writes
pub record Commits (c locations : ℕ) (e : Entry) : Type 0 where
  pub own : e.core.0 ≡ c
  pub known : is_write e ≡ true → e.loc.0 < locations

abbrev pub KnownAt : ℕ → Option Instr → Type 0
KnownAt locations None = Unit {0}
KnownAt locations (Some i) = KnownLocation locations i

locked-commits : (c locations : ℕ) (s : CoreState) (loc : Loc) (reg : Option Reg) (v w : ℕ)
    → loc.0 < locations
    → Each (Commits c locations) (locked c s loc reg v w).commits
locked-commits c locations s loc reg v w l =
    waits-or-acts (λ f. Each (Commits c locations) f.commits) stall.Lock s _
    (λ e. (record { own = refl; known = λ f. l }, (record { own = refl; known = λ f. l }, tt))) tt

stored-commits : (c locations depth : ℕ) (s : CoreState) (e : Entry)
    → e.core.0 ≡ c
    → e.loc.0 < locations
    → Each (Commits c locations) (stored depth s e).commits
stored-commits c locations zero s e k l = (record { own = k; known = λ f. l }, tt)
stored-commits c locations (suc n) s e k l =
    elim (nat_lt (length s.pending) (suc n)) as (λ b.
    Each (Commits c locations) (if b then put s e else stalled stall.Full s).commits) [
      | true ↦ tt
      | false ↦ tt
    ]

pub step-commits : (c depth locations : ℕ) (memory : List ℕ) (i : Option Instr) (s : CoreState)
    → KnownAt locations i
    → Each (Commits c locations) (step_of depth memory c i s).commits
step-commits c depth locations memory None s known = tt
step-commits c depth locations memory (Some i) s known = by_action (action_of i) known
  where
    by_action : (a : Action) → IfSome (location_of a) (λ loc. loc.0 < locations) → Each (Commits c locations) (effect_by depth memory c a s).commits
    by_action (Store loc operand) known = stored-commits c locations depth s _ refl known
    by_action (Load reg loc) known = (record { own = refl; known = λ f. absurd (let z : ⊥ = cc in z) }, tt)
    by_action (Move change) known = tt
    by_action Fence known =
        waits-or-acts (λ f. Each (Commits c locations) f.commits) stall.Fence s _
        (λ e. (record { own = refl; known = λ f. absurd (let z : ⊥ = cc in z) }, tt)) tt
    by_action (Lock loc reg update) known = locked-commits c locations s loc _ _ _ known

pub drain-commits : (c locations : ℕ) (s : CoreState) → Each (Queued c locations) s.pending → Each (Commits c locations) (drain_of s).commits
drain-commits c locations s q =
    drains (λ f. Each (Commits c locations) f.commits) s tt
    (λ x xs e. let h = (subst (λ z. Each (Queued c locations) z) e q).0 in (record { own = h.own; known = λ f. h.known }, tt))

-- each load part in the list is followed at once by its store part
pub record Next (x : Entry) (xs : List Entry) : Type 0 where
  pub store : Entry
  pub rest : List Entry
  pub is : xs ≡ store ∷ rest
  pub pair : IsStorePart x store

abbrev pub Paired : List Entry → Type 0
Paired [] = Unit {0}
Paired (x ∷ xs) = (x.kind ≡ LR → Next x xs) × Paired xs

pub paired-append : (xs ys : List Entry) → Paired xs → Paired ys → Paired (xs ++ ys)
paired-append [] ys h k = k
paired-append (x ∷ xs) ys h k =
    (λ l. let n = h.0 l in record { store = n.store; rest = n.rest ++ ys; is = ap (λ z. z ++ ys) n.is; pair = n.pair }, paired-append xs ys h.1 k)

stored-paired : (depth : ℕ) (s : CoreState) (e : Entry) → e.kind ≡ W → Paired (stored depth s e).commits
stored-paired zero s e w = (λ q. absurd (let z : ⊥ = cc in z), tt)
stored-paired (suc n) s e w =
    elim (nat_lt (length s.pending) (suc n)) as (λ b. Paired (if b then put s e else stalled stall.Full s).commits) [
      | true ↦ tt
      | false ↦ tt
    ]

locked-paired : (c : ℕ) (s : CoreState) (loc : Loc) (reg : Option Reg) (v w : ℕ) → Paired (locked c s loc reg v w).commits
locked-paired c s loc reg v w =
    waits-or-acts (λ f. Paired f.commits) stall.Lock s _
    (λ n. (
      λ e.
          record {
            store = entry c s.place LW loc w;
            rest = [];
            is = refl;
            pair = record { core = refl; place = refl; kind = refl };
          },
      (λ e. absurd (let z : ⊥ = cc in z), tt),
    ))
    tt

pub step-paired : (c depth : ℕ) (memory : List ℕ) (i : Option Instr) (s : CoreState) → Paired (step_of depth memory c i s).commits
step-paired c depth memory None s = tt
step-paired c depth memory (Some i) s = by_action (action_of i)
  where
    by_action : (a : Action) → Paired (effect_by depth memory c a s).commits
    by_action (Store loc operand) = stored-paired depth s _ refl
    by_action (Load reg loc) = (λ e. absurd (let z : ⊥ = cc in z), tt)
    by_action (Move change) = tt
    by_action Fence = waits-or-acts (λ f. Paired f.commits) stall.Fence s _ (λ n. (λ e. absurd (let z : ⊥ = cc in z), tt)) tt
    by_action (Lock loc reg update) = locked-paired c s loc _ _ _

pub drain-paired : (c locations : ℕ) (s : CoreState) → Each (Queued c locations) s.pending → Paired (drain_of s).commits
drain-paired c locations s q =
    drains (λ f. Paired f.commits) s tt (λ x xs e. (λ l. absurd (let k = (subst (λ z. Each (Queued c locations) z) e q).0.kind in let z : ⊥ = cc in z), tt))
