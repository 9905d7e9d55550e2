-- The worked tests: what they reach, and that they meet the premises of the laws.
use Rattle.std.proofs.Common.{◌≡◌, ℕ, ◌+◌, ◌==◌, ◌^◌, zero, suc, List, [], ◌∷◌, ◌++◌, Some, None, map, filter, Bool, true, false}
use Rattle.std.proofs.Common.{if◌then◌else◌, ◌<◌, ◌≤◌, length, slice_index, slice_index_or, drop, arith, sym, refl, subst, inl, inr, rules}
use Rattle.std.specs.Prelude.{codes}
use Rattle.tso_terms.specs.Litmus.{Litmus, IsTest}
use Rattle.tso_terms.specs.ProgramOrder.{is_write}
use Rattle.tso_terms.specs.Examples.{loc_x, loc_y}
use Rattle.tso_terms.specs.FlatMachine.{step, drain}
use Rattle.basic_laws.specs.Types.{Entry, Instr, Choice, Load, StoreImm, SetImm, Xchg, Xadd, Eax, Ebx}
use Rattle.branch_laws.specs.Trees.{Tree, Done, Cut, Reads, Stores, path, outputs_along}
use Rattle.branch_laws.specs.Branching.{Branching, zero_registers}
use Rattle.branch_laws.specs.TreeMachine.{IsTreeEnd, IsDoneWith, tree_core, tree_after, tree_start}
use Rattle.branch_laws.specs.Rounds.{StandsAmong, for_each, round, all_paths, EachPathIsTest, AreEnough, seen_at}
use Rattle.branch_laws.specs.SamePaths.{IsSamePath, both_end, both_read, both_store, reads_alone, HasTheSamePaths}
use Rattle.branch_laws.specs.Shown.{AllCanShow, AreOwn, UsesFirst}
use Rattle.branch_laws.specs.WorkedTests.{try_lock, compare_and_exchange, exchange_if_0, counter, message, sender, waiter, spin, message_keeps}
use Rattle.branch_laws.proofs.Among.{for-each-among, among-either}

abbrev with : List Instr → List Instr → Litmus
with p q = record {
  name = codes "worked";
  locations = codes "x" ∷ (codes "y" ∷ []);
  words = 0 ∷ (0 ∷ []);
  registers = zero_registers (Cut ∷ (Cut ∷ []));
  programs = p ∷ (q ∷ []);
  condition = None;
}

abbrev exchange_1 : List Instr → List Instr
exchange_1 p = SetImm Ebx 1 ∷ (Xchg loc_x Ebx ∷ p)

abbrev try_choices : List Choice
try_choices = step 1 ∷ (step 0 ∷ (step 1 ∷ (drain 1 ∷ [])))

abbrev message_choices : List Choice
message_choices = step 0 ∷ (step 0 ∷ (drain 0 ∷ (drain 0 ∷ (step 1 ∷ (step 1 ∷ [])))))

abbrev both_choices : List Choice
both_choices = step 0 ∷ (step 1 ∷ [])

-- a try-lock

first-goes : IsTest (with (exchange_1 (Load Eax loc_y ∷ [])) (exchange_1 (StoreImm loc_y 2 ∷ [])))
first-goes = search rules

second-goes : IsTest (with (exchange_1 (Load Eax loc_y ∷ [])) (exchange_1 []))
second-goes = search rules

third-goes : IsTest (with (exchange_1 []) (exchange_1 (StoreImm loc_y 2 ∷ [])))
third-goes = search rules

none-goes : IsTest (with (exchange_1 []) (exchange_1 []))
none-goes = search rules

either : (s t : Bool) (v w : ℕ) (xs ys : List ℕ) → IsTest (with
    (exchange_1 (path (if s then Reads loc_y (λ z. Done (v ∷ (z ∷ []))) else Done (v ∷ [])) xs))
    (exchange_1 (path (if t then Stores loc_y 2 (Done (w ∷ [])) else Done (w ∷ [])) ys)))
either true true v w xs ys = first-goes
either true false v w xs ys = second-goes
either false true v w xs ys = third-goes
either false false v w xs ys = none-goes

pub try-lock-tests : EachPathIsTest try_lock
try-lock-tests n values are =
    let xs : List ℕ = slice_index_or values 0 [] in let ys : List ℕ = slice_index_or (drop 1 values) 0 [] in
    either (slice_index xs 0 == 0) (slice_index ys 0 == 0) (slice_index xs 0) (slice_index ys 0) (drop 1 xs) (drop 1 ys)

two-done : (b : Branching) (cs : List Choice) (o u : List ℕ)
    → IsDoneWith (tree_core (tree_after 32 (tree_start b) cs) 0) o
    → IsDoneWith (tree_core (tree_after 32 (tree_start b) cs) 1) u
    → (k : ℕ) → k < 2 → IsDoneWith (tree_core (tree_after 32 (tree_start b) cs) k) (slice_index_or (o ∷ (u ∷ [])) k [])
two-done b cs o u f g zero l = f
two-done b cs o u f g (suc zero) l = g
two-done b cs o u f g (suc (suc k)) l = absurd (omega arith)

pub try-lock-reached : IsTreeEnd try_lock 32 ((1 ∷ []) ∷ ((0 ∷ []) ∷ [])) (1 ∷ (2 ∷ []))
try-lock-reached = record {
  choices = try_choices;
  exist = (omega arith, (omega arith, (omega arith, (omega arith, tt))));
  count = refl;
  done = two-done try_lock try_choices (1 ∷ []) (0 ∷ []) (record { rest = refl; pending = refl }) (record { rest = refl; pending = refl });
  memory_is = refl;
}

-- a compare-and-exchange

pub exchanges-reached : IsTreeEnd compare_and_exchange 32 ((0 ∷ []) ∷ ((1 ∷ []) ∷ [])) (1 ∷ (0 ∷ []))
exchanges-reached = record {
  choices = both_choices;
  exist = (omega arith, (omega arith, tt));
  count = refl;
  done = two-done compare_and_exchange both_choices (0 ∷ []) (1 ∷ []) (record { rest = refl; pending = refl }) (record { rest = refl; pending = refl });
  memory_is = refl;
}

small-if : (number v : ℕ) (t : Bool) → number < 3 → v < 3 → (if t then number else v) < 3
small-if number v true l m = l
small-if number v false l m = m

seen-small : (target u x : ℕ) (t : Bool) → u < 3 → StandsAmong x (if t then u ∷ [] else []) → x < 3
seen-small target u x true l (inl q) = subst (λ z. z < 3) (sym q) l
seen-small target u x true l (inr h) = absurd h
seen-small target u x false l h = absurd h

-- of one core's exchange, where the words of x are small
exchange-small : (domain : List ℕ) (number target x : ℕ) → number < 3 → ((v : ℕ) → StandsAmong v domain → v < 3)
    → (v : ℕ) → StandsAmong v domain → StandsAmong x (seen_at target loc_x (if v == 0 then number else v) ++ []) → x < 3
exchange-small domain number target x l f v m h = elim (among-either x (seen_at target loc_x (if v == 0 then number else v)) [] h) [
  | inl k ↦ seen-small target (if v == 0 then number else v) x (0 == target) (small-if number v (v == 0) l (f v m)) k
  | inr k ↦ absurd k
]

first-small : (loc : ℕ) → slice_index (0 ∷ (0 ∷ [])) loc < 3
first-small zero = omega arith
first-small (suc zero) = omega arith
first-small (suc (suc k)) = omega arith

round-small : (n loc v : ℕ) → StandsAmong v (round compare_and_exchange n loc) → v < 3
round-small zero loc v (inl q) = subst (λ z. z < 3) (sym q) (first-small loc)
round-small zero loc v (inr h) = absurd h
round-small (suc n) loc v h = elim (among-either v (round compare_and_exchange n loc) _ h) [
  | inl k ↦ round-small n loc v k
  | inr k ↦ elim (among-either v _ _ k) [
    | inl j ↦ (let r = for-each-among v (round compare_and_exchange n 0) (λ w. seen_at loc loc_x (if w == 0 then 1 else w) ++ []) j in
        exchange-small (round compare_and_exchange n 0) 1 loc v (omega arith) (λ w m. round-small n 0 w m) r.0 r.1 r.2)
    | inr j ↦ elim (among-either v _ _ j) [
      | inl i ↦ (let r = for-each-among v (round compare_and_exchange n 0) (λ w. seen_at loc loc_x (if w == 0 then 2 else w) ++ []) i in
          exchange-small (round compare_and_exchange n 0) 2 loc v (omega arith) (λ w m. round-small n 0 w m) r.0 r.1 r.2)
      | inr i ↦ absurd i
    ]
  ]
]

-- a path of an exchange has one value, a small one
one-value : (domain : List ℕ) (number : ℕ) (values : List ℕ) → ((v : ℕ) → StandsAmong v domain → v < 3) → number < 3
    → StandsAmong values (for_each domain (λ v. map (λ z. v ∷ z) ([] ∷ []))) → (if slice_index values 0 == 0 then number else slice_index values 0) < 3
one-value domain number values f l h =
    let r = for-each-among values domain (λ v. map (λ z. v ∷ z) ([] ∷ [])) h in
    small-if number (slice_index values 0) (slice_index values 0 == 0) l (first-of r.0 values (f r.0 r.1) r.2)
  where
    first-of : (v : ℕ) (xs : List ℕ) → v < 3 → StandsAmong xs ((v ∷ []) ∷ []) → slice_index xs 0 < 3
    first-of v xs m (inl q) = subst (λ z. slice_index z 0 < 3) (sym q) m
    first-of v xs m (inr k) = absurd k

word-of : (u : ℕ) → u < 3 → u < 2 ^ 32
word-of u l = omega arith

exchange-test : (u w : ℕ) → u < 2 ^ 32 → w < 2 ^ 32 → IsTest (with (SetImm Ebx u ∷ (Xchg loc_x Ebx ∷ [])) (SetImm Ebx w ∷ (Xchg loc_x Ebx ∷ [])))
exchange-test u w l m = search rules

second-of : (values : List (List ℕ)) → slice_index_or (drop 1 values) 0 [] ≡ slice_index_or values 1 []
second-of [] = refl
second-of (x ∷ values) = refl

pub exchange-tests : EachPathIsTest compare_and_exchange
exchange-tests n values are =
    let xs : List ℕ = slice_index_or values 0 [] in let ys : List ℕ = slice_index_or (drop 1 values) 0 [] in
    exchange-test (if slice_index xs 0 == 0 then 1 else slice_index xs 0) (if slice_index ys 0 == 0 then 2 else slice_index ys 0)
    (word-of _ (one-value (round compare_and_exchange n 0) 1 xs (λ v m. round-small n 0 v m) (omega arith) (are 0 (omega arith))))
    (word-of _ (one-value (round compare_and_exchange n 0) 2 ys (λ v m. round-small n 0 v m) (omega arith)
    (subst (λ z. StandsAmong z (all_paths (round compare_and_exchange n) (exchange_if_0 2))) (sym (second-of values)) (are 1 (omega arith)))))

pub counter-tests : EachPathIsTest counter
counter-tests n values are = one
  where
    one : IsTest (with (SetImm Ebx 1 ∷ (Xadd loc_x Ebx ∷ [])) (SetImm Ebx 1 ∷ (Xadd loc_x Ebx ∷ [])))
    one = search rules

pub counter-reached : IsTreeEnd counter 32 ((0 ∷ []) ∷ ((1 ∷ []) ∷ [])) (2 ∷ (0 ∷ []))
counter-reached = record {
  choices = both_choices;
  exist = (omega arith, (omega arith, tt));
  count = refl;
  done = two-done counter both_choices (0 ∷ []) (1 ∷ []) (record { rest = refl; pending = refl }) (record { rest = refl; pending = refl });
  memory_is = refl;
}

filter-short : (p : Entry → Bool) (es : List Entry) → length (filter p es) ≤ length es
filter-short p [] = omega arith
filter-short p (e ∷ es) = go (p e) (filter-short p es)
  where
    go : (t : Bool) → length (filter p es) ≤ length es → length (if t then e ∷ filter p es else filter p es) ≤ length (e ∷ es)
    go true l = omega arith
    go false l = omega arith

pub counter-rounds : AreEnough counter 4
counter-rounds = inr (λ order outputs h. (let l = filter-short is_write order in let n : length order ≡ 4 = h.count in omega arith))

-- a message under a branch

message-either : (t : Bool) (v : ℕ) (ys : List ℕ) → IsTest (with (StoreImm loc_x 1 ∷ (StoreImm loc_y 1 ∷ []))
    (Load Eax loc_y ∷ path (if t then Done (v ∷ []) else Reads loc_x (λ w. Done (v ∷ (w ∷ [])))) ys))
message-either true v ys = one
  where
    one : IsTest (with (StoreImm loc_x 1 ∷ (StoreImm loc_y 1 ∷ [])) (Load Eax loc_y ∷ []))
    one = search rules
message-either false v ys = one
  where
    one : IsTest (with (StoreImm loc_x 1 ∷ (StoreImm loc_y 1 ∷ [])) (Load Eax loc_y ∷ (Load Eax loc_x ∷ [])))
    one = search rules

pub message-tests : EachPathIsTest message
message-tests n values are =
    let ys : List ℕ = slice_index_or (drop 1 values) 0 [] in message-either (slice_index ys 0 == 0) (slice_index ys 0) (drop 1 ys)

pub message-reached : IsTreeEnd message 32 ([] ∷ ((1 ∷ (1 ∷ [])) ∷ [])) (1 ∷ (1 ∷ []))
message-reached = record {
  choices = message_choices;
  exist = (omega arith, (omega arith, (omega arith, (omega arith, (omega arith, (omega arith, tt))))));
  count = refl;
  done = two-done message message_choices [] (1 ∷ (1 ∷ [])) (record { rest = refl; pending = refl }) (record { rest = refl; pending = refl });
  memory_is = refl;
}

pub message-shows : AllCanShow message.trees ([] ∷ ((1 ∷ (1 ∷ [])) ∷ [])) message_keeps
message-shows = (tt, ((tt, tt, (tt, tt, tt)), tt))

branch-uses : (t : Bool) (v : ℕ) → UsesFirst 2 (if t then Done (v ∷ []) else Reads loc_x (λ w. Done (v ∷ (w ∷ []))))
branch-uses true v = tt
branch-uses false v = (omega arith, λ w. tt)

message-uses : (k : ℕ) → k < 2 → UsesFirst 2 (slice_index_or message.trees k Cut)
message-uses zero l = (omega arith, (omega arith, tt))
message-uses (suc zero) l = (omega arith, λ v. branch-uses (v == 0) v)
message-uses (suc (suc k)) l = absurd (omega arith)

pub message-own : AreOwn message (codes "z" ∷ []) message_keeps
message-own = record { trees = message-uses; further = further; apart = ((λ h. h), tt) }
  where
    further : (own : ℕ) → StandsAmong own (2 ∷ []) → (2 ≤ own) × (own < 2 + 1)
    further own (inl q) = (omega arith, omega arith)
    further own (inr h) = absurd h

-- a spin on a flag: its last round alone

pub last-round-waits : (n : ℕ) (values outputs : List ℕ) → outputs_along (waiter n) values ≡ Some outputs → IsSamePath 2 (waiter n) values (waiter 1)
last-round-waits zero values outputs e = absurd (let z : ⊥ = cc in z)
last-round-waits (suc n) [] outputs e = absurd (let z : ⊥ = cc in z)
last-round-waits (suc n) (v ∷ values) outputs e = go (v == 0) refl e (λ h. last-round-waits n values outputs h)
  where
    reading : Tree
    reading = Reads loc_x (λ w. Done (w ∷ []))

    next : ℕ → ℕ → Tree
    next k w = if w == 0 then waiter k else reading

    read-on : (vs : List ℕ) → outputs_along reading vs ≡ Some outputs → IsSamePath 2 reading vs reading
    read-on [] h = absurd (let z : ⊥ = cc in z)
    read-on (w ∷ []) h = both_read loc_x (λ u. Done (u ∷ [])) (λ u. Done (u ∷ [])) w [] (omega arith) (both_end (w ∷ []))
    read-on (w ∷ (u ∷ vs)) h = absurd (let z : ⊥ = cc in z)

    go : (t : Bool) → (v == 0) ≡ t → outputs_along (if v == 0 then waiter n else reading) values ≡ Some outputs
        → (outputs_along (waiter n) values ≡ Some outputs → IsSamePath 2 (waiter n) values (waiter 1)) → IsSamePath 2 (waiter (suc n)) (v ∷ values) (waiter 1)
    go true q h again =
        reads_alone loc_y (next n) v values (waiter 1)
        (subst (λ z. IsSamePath 2 (if z then waiter n else reading) values (waiter 1)) (sym q)
        (again (subst (λ z. outputs_along (if z then waiter n else reading) values ≡ Some outputs) q h)))
    go false q h again =
        both_read loc_y (next n) (next 0) v values (omega arith)
        (subst (λ z. IsSamePath 2 (if z then waiter n else reading) values (if z then waiter 0 else reading)) (sym q)
        (read-on values (subst (λ z. outputs_along (if z then waiter n else reading) values ≡ Some outputs) q h)))

sends-alike : (values outputs : List ℕ) → outputs_along sender values ≡ Some outputs → IsSamePath 2 sender values sender
sends-alike [] outputs e = both_store loc_x 1 _ _ [] (omega arith) (both_store loc_y 1 _ _ [] (omega arith) (both_end []))
sends-alike (v ∷ values) outputs e = absurd (let z : ⊥ = cc in z)

pub spins-alike : (n : ℕ) → HasTheSamePaths 2 (spin n) (spin 1)
spins-alike n = record { cores = refl; locations = omega arith; other_locations = omega arith; words = λ loc l. refl; paths = paths }
  where
    paths : (k : ℕ) (values outputs : List ℕ) → k < 2 → outputs_along (slice_index_or (sender ∷ (waiter n ∷ [])) k Cut) values ≡ Some outputs
        → IsSamePath 2 (slice_index_or (sender ∷ (waiter n ∷ [])) k Cut) values (slice_index_or (sender ∷ (waiter 1 ∷ [])) k Cut)
    paths zero values outputs l e = sends-alike values outputs e
    paths (suc zero) values outputs l e = last-round-waits n values outputs e
    paths (suc (suc k)) values outputs l e = absurd (omega arith)
