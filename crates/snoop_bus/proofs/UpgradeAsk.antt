-- An ask for a write access, and what an ask leaves.
use Rattle.snoop_bus.proofs.Vocabulary.{◌≢◌, IfSome, I, S, E, O, SmD, in_place, ◌≡◌, ◌⊎◌, inl, inr, ℕ, ◌<◌, Bool, true, false, not, IsTrue}
use Rattle.snoop_bus.proofs.Vocabulary.{IsSome, is_some, Option, Some, None, option_map, List, length, refl, sym, ap, ◌∙◌, Core, Loc, Table}
use Rattle.snoop_bus.proofs.Vocabulary.{transient_of, State, M, GetS, GetM, Transient, IsD, ImD, Line, copy_with, Words, state_of_copy}
use Rattle.snoop_bus.proofs.Vocabulary.{TagSets, requested, Sets, copy_at, cache_of, tags_of, ways_of, current_words, HeldBus, BusRequest}
use Rattle.snoop_bus.proofs.Vocabulary.{Transaction, Stage, Load, Write, stage_for, Awaits, IsHeld, held_by, hits, request_for, asked_for}
use Rattle.snoop_bus.proofs.Vocabulary.{asked_caches, or_invalid, transacting, transaction_of, next_in_place}
use Rattle.snoop_bus.proofs.NewLemmas.{same_cores}
use Rattle.snoop_bus.proofs.AccessLemmas.{tag_here}
use Rattle.snoop_bus.proofs.HeldLemmas.{same_sets}

-- what is asked for goes by the core's own copy
pub asked_by-copy : (caches : List Sets) (core line : ℕ)
    → asked_for GetM core line (tags_of caches) ≡ transient_of (state_of_copy (copy_at caches core line)) GetM
asked_by-copy caches core line = ap (λ (o : Option State). transient_of (or_invalid o) GetM) (tag_here caches core line) ∙ by_copy (copy_at caches core line)
  where
    by_copy : (o : Option Line) → transient_of (or_invalid (option_map (λ copy. copy.state) o)) GetM ≡ transient_of (state_of_copy o) GetM
    by_copy None = refl
    by_copy (Some copy) = refl

-- what its copy is then, and what it is where nothing is asked for
pub write_ask-awaits : (own : Option Line) (x : Transient) (w : Words) (q : BusRequest)
    → transient_of (state_of_copy own) GetM ≡ Some x
    → IfSome own (λ copy. copy.state ≢ I)
    → ((copy : Line) → own ≡ Some copy → copy.words ≡ w) →
    Awaits Write (Some (record { transient = x; copy = copy_with M w; request = q })) own
write_ask-awaits None x w q asks valid same = let is : x ≡ ImD = cc in rw is (λ p. cc, (refl, refl))
write_ask-awaits (Some copy) x w q asks valid same = by_state copy.state refl asks
  where
    by_state : (s : State)
        → copy.state ≡ s
        → transient_of s GetM ≡ Some x
        → Awaits Write (Some (record { transient = x; copy = copy_with M w; request = q })) (Some copy)
    by_state I e a = absurd (valid e)
    by_state S e a = let is : x ≡ SmD = cc in rw is (λ p. cc, (inl (ap (λ (y : Line). Some y) (rw (← same copy refl, ← e) refl)), refl))
    by_state E e a = cc
    by_state O e a = let is : x ≡ SmD = cc in rw is (λ p. cc, (inr (ap (λ (y : Line). Some y) (rw (← same copy refl, ← e) refl)), refl))
    by_state M e a = cc

pub unasked-placed : (s : State) → transient_of s GetM ≡ None → in_place s ≡ Some M
unasked-placed I e = cc
unasked-placed S e = cc
unasked-placed E e = refl
unasked-placed O e = cc
unasked-placed M e = refl

-- a load asks where there is no copy
pub load_asks : (caches : List Sets) (core line : ℕ) → copy_at caches core line ≡ None → asked_for GetS core line (tags_of caches) ≡ Some IsD
load_asks caches core line absent =
    ap (λ (o : Option State). transient_of (or_invalid o) GetS) (tag_here caches core line ∙ ap (option_map (λ copy. copy.state)) absent)

pub load_ask-exact : (t : Table) (caches : List Sets) (m : List Words) (core : Core) (loc : Loc) (line : ℕ)
    (write : Bool) (x : Transaction)
    → write ≡ false
    → copy_at caches core.0 line ≡ None →
    x ≡ transacting t GetS line (current_words caches m line) (tags_of caches) IsD →
    held_by core loc Load line (Some x)
    ≡ held_by core loc (stage_for write) line (transaction_of t (request_for write) core.0 line (current_words caches m line) (tags_of caches))
load_ask-exact t caches m core loc line write x e absent is = rw (e, load_asks caches core.0 line absent, is) refl

pub load_ask-tags : (t : Table) (caches : List Sets) (core line : ℕ) (write : Bool) (new : List TagSets) → write ≡ false → copy_at caches core line ≡ None →
    new ≡ requested t.on_get_s core line (tags_of caches) → new ≡ asked_caches t (request_for write) core line (tags_of caches)
load_ask-tags t caches core line write new e absent is = is ∙ rw (e, load_asks caches core line absent) refl

pub load_ask-awaits : (t : Table) (line : ℕ) (words : Words) (tags : List TagSets) (own : Option Line) (x : Transaction)
    → x ≡ transacting t GetS line words tags IsD
    → own ≡ None
    → Awaits Load (Some x) own
unfolding transacting
load_ask-awaits t line words tags own x e absent = rw e (refl, absent)

-- what then holds the bus
pub now_held : (c0 c1 : List Sets) (m0 m1 : List Words) (core : Core) (loc : Loc) (stage : Stage) (line : ℕ)
    (x : Option Transaction)
    → ways_of c1 ≡ ways_of c0
    → core.0 < length c0
    → 0 < length (cache_of c0 core.0)
    → line < length m0
    → length m1 ≡ length m0 →
    Awaits stage x (copy_at c1 core.0 line) → IsHeld c1 m1 (held_by core loc stage line x)
now_held c0 c1 m0 m1 core loc stage line x ways within some line_in size awaits = record {
  core_in = rw (same_cores c0 c1 ways) within;
  line_in = rw size line_in;
  some_set = same_sets c0 c1 core.0 ways some;
  awaits = awaits;
}

-- which accesses would be hits
pub hits-absent : (t : Table) (caches : List Sets) (core line : ℕ) (write : Bool)
    → copy_at caches core line ≡ None
    → false ≡ hits t core line write (tags_of caches)
hits-absent t caches core line write absent =
    sym (ap (λ o. is_some (next_in_place t write o)) (tag_here caches core line ∙ ap (option_map (λ copy. copy.state)) absent))

pub hits-found : (t : Table) (caches : List Sets) (core line : ℕ) (write : Bool) (copy : Line)
    → copy_at caches core line ≡ Some copy
    → hits t core line write (tags_of caches) ≡ is_some (next_in_place t write (Some copy.state))
hits-found t caches core line write copy found =
    ap (λ o. is_some (next_in_place t write o)) (tag_here caches core line ∙ ap (option_map (λ copy. copy.state)) found)

pub hits-read : (t : Table) (caches : List Sets) (core line : ℕ) (write : Bool) (copy : Line)
    → copy_at caches core line ≡ Some copy
    → write ≡ false
    → not write ≡ hits t core line write (tags_of caches)
hits-read t caches core line true copy found e = cc
hits-read t caches core line false copy found e = sym (hits-found t caches core line false copy found)

pub hits-write : (t : Table) (caches : List Sets) (core line : ℕ) (write : Bool) (copy : Line) (placed : Bool)
    → copy_at caches core line ≡ Some copy
    → write ≡ true
    → placed ≡ is_some (t.written copy.state)
    → placed ≡ hits t core line write (tags_of caches)
hits-write t caches core line true copy placed found e is = is ∙ sym (hits-found t caches core line true copy found)
hits-write t caches core line false copy placed found e is = cc

-- what is no hit has the bus to itself
pub alone : (t : Table) (held : Option HeldBus) (caches : List Sets) (core line : ℕ)
    → (held ≡ None) ⊎ IsTrue (hits t core line true (tags_of caches))
    → hits t core line true (tags_of caches) ≡ false
    → held ≡ None
alone t held caches core line (inl e) misses = e
alone t held caches core line (inr hit) misses = cc

-- a load that hits has its copy
pub free_load : (t : Table) (held : Option HeldBus) (caches : List Sets) (core line : ℕ)
    → (held ≡ None) ⊎ IsTrue (hits t core line false (tags_of caches))
    → (held ≡ None) ⊎ IsSome (copy_at caches core line)
free_load t held caches core line (inl e) = inl e
free_load t held caches core line (inr e) = by_copy (copy_at caches core line) refl
  where
    by_copy : (o : Option Line) → copy_at caches core line ≡ o → (held ≡ None) ⊎ IsSome (copy_at caches core line)
    by_copy None f =
        let misses : false ≡ hits t core line false (tags_of caches) = hits-absent t caches core line false f in
        let hit : hits t core line false (tags_of caches) ≡ true = e in
        cc
    by_copy (Some copy) f = inr (rw f refl)
