-- What a contract sees of a machine, part by part.
use Rattle.machine_core.proofs.Vocabulary.{◌≡◌, ◌&&◌, ℕ, Bool, true, false, not, IsTrue, List, [], ◌++◌, Result, Ok, Err, IfOk, OnOk, OnErr}
use Rattle.machine_core.proofs.Vocabulary.{sym, ap, ◌∙◌, subst, Litmus, chosen, core_of, access_of, Free, Attempt, BusState, effect_on}
use Rattle.machine_core.proofs.Vocabulary.{after_on, HitFits, NoMemory, IsPossibleOn, Hardware, IsFree, IsHeldForAccess, held_as, state_in}
use Rattle.machine_core.proofs.Vocabulary.{ChoiceAnswer, HasEffect, attempt_in, effect_in, Bus, Entry, Choice, attempt_of, is_awaited}
use Rattle.machine_core.proofs.Vocabulary.{used_between, use_of, Running, Statistics, statistics_with, statistics_after}
use Rattle.machine_core.proofs.Splitting.{used-same}

pub Running-same : (now : Running) (t : Litmus) (bus bus' : Bus) (d d' : ℕ) (s s' : BusState) (xs xs' : List Entry) (n n' : Statistics) (f f' : Bool)
    → record { test = t; bus = bus; depth = d; state = s; commits = xs; statistics = n; failed = f } ≡ now
    → bus' ≡ bus
    → d' ≡ d
    → s' ≡ s
    → xs' ≡ xs
    → n' ≡ n
    → f' ≡ f
    → record { test = t; bus = bus'; depth = d'; state = s'; commits = xs'; statistics = n'; failed = f' } ≡ now
Running-same now t bus bus' d d' s s' xs xs' n n' f f' v b p q r w u = rw (b, p, q, r, w, u) v

-- where nothing is committed and the bus is held as before, nothing is counted and the caches stay as they are
pub statistics_after-nothing : (bus : Bus) (t : Litmus) (depth : ℕ) (state : BusState) (choice : Choice) (s : Statistics)
    → (effect_on bus t depth state (attempt_of t depth state.flat s.caches choice)).effect.commits ≡ []
    → (effect_on bus t depth state (attempt_of t depth state.flat s.caches choice)).holder ≡ state.holder → statistics_after bus t depth state choice s ≡ s
statistics_after-nothing bus t depth state choice s none same =
    let f = effect_on bus t depth state (attempt_of t depth state.flat s.caches choice) in
    let pending = (core_of state.flat (chosen choice)).pending in
    let what = access_of t depth state.flat choice in
    let used = ap (λ h. used_between (is_awaited state.holder) (is_awaited h) s.caches (chosen choice) what pending f.effect.commits) same
    ∙ used-same (is_awaited state.holder) s.caches (chosen choice) what pending f.effect.commits ∙ ap (use_of s.caches pending) none in
    ap (λ u. statistics_with (chosen choice) u s.counts) used

pub same-state : (a b : BusState) → a.flat ≡ b.flat → a.holder ≡ b.holder → a ≡ b
same-state a b p q = ap (λ f. record { flat = f; holder = a.holder }) p ∙ ap (λ h. record { flat = b.flat; holder = h }) q

pub on-ok : {X : Type 0} (r : Result X NoMemory) (Q : Type 0) → Q → OnOk r Q
on-ok (Ok x) Q q = q
on-ok (Err e) Q q = tt

-- what a machine has come to is possible after a choice too
pub possible-next : {P : Type 0} (r : Result ChoiceAnswer NoMemory) (t : Litmus) (m new : Hardware P) (choice : Choice)
    → IsPossibleOn m.config.bus t m.config.depth m.commits.entries (state_in m)
    → ((a : Attempt)
    → IsPossibleOn m.config.bus t m.config.depth m.commits.entries (state_in m)
    → HitFits t m.config.depth (state_in m).flat a (state_in m).holder
    → IsPossibleOn m.config.bus t m.config.depth
    (m.commits.entries ++ (effect_on m.config.bus t m.config.depth (state_in m) a).effect.commits)
    (after_on m.config.bus t m.config.depth (state_in m) a))
    → HitFits t m.config.depth (state_in m).flat (attempt_in t m choice) (state_in m).holder → IfOk r (λ o. HasEffect m new choice (effect_in t m choice) o.0)
    → OnErr r (state_in new ≡ state_in m)
    → OnErr r (new.commits.entries ≡ m.commits.entries)
    → new.config ≡ m.config
    → IsPossibleOn new.config.bus t new.config.depth new.commits.entries (state_in new)
possible-next (Ok o) t m new choice possible next fits done state commits config =
    subst (λ c. IsPossibleOn c.bus t c.depth new.commits.entries (state_in new)) (sym config)
    (subst (λ s. IsPossibleOn m.config.bus t m.config.depth new.commits.entries s)
    (sym (same-state (state_in new) (after_on m.config.bus t m.config.depth (state_in m) (attempt_in t m choice)) done.flat done.holder))
    (subst (λ es.
    IsPossibleOn m.config.bus t m.config.depth es (after_on m.config.bus t m.config.depth (state_in m) (attempt_in t m choice)))
    (sym done.commits) (next (attempt_in t m choice) possible fits)))
possible-next (Err e) t m new choice possible next fits done state commits config =
    subst (λ c. IsPossibleOn c.bus t c.depth new.commits.entries (state_in new)) (sym config)
    (subst (λ s. IsPossibleOn m.config.bus t m.config.depth new.commits.entries s) (sym state)
    (subst (λ es. IsPossibleOn m.config.bus t m.config.depth es (state_in m)) (sym commits) possible))

-- where the test has ended nobody holds the bus
pub has-ended : (failed ended : Bool) → IsTrue (not failed && ended) → ended ≡ true
has-ended false ended h = h
has-ended true ended h = absurd (let z : ⊥ = cc in z)

pub free-bus : {P : Type 0} (t : Litmus) (m : Hardware P) → IsHeldForAccess t m → (state_in m).holder ≡ Free → IsFree m.bus
free-bus t m held free = held ∙ ap (held_as t m.config.depth (state_in m).flat) free

-- what follows of a result, if there is one
pub if-ok : {T E : Type 0} (r : Result T E) (P Q : T → Type 0) → ((x : T) → P x → Q x) → IfOk r P → IfOk r Q
if-ok (Ok x) P Q f p = f x p
if-ok (Err e) P Q f p = tt
