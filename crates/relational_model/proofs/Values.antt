-- An order of a candidate's events gives its reads the values that the candidate gives them: it is a TSO execution.
use Rattle.relational_model.proofs.Vocabulary.{◌≡◌, ℕ, ◌+◌, ◌==◌, suc, Bool, true, false, if◌then◌else◌, List, [], ◌∷◌, ◌++◌, Option, Some}
use Rattle.relational_model.proofs.Vocabulary.{None, slice_index, slice_index_or, refl, sym, ap, ◌∙◌, ◌⊎◌, inl, inr, subst, length}
use Rattle.relational_model.proofs.Vocabulary.{action_of, entry, entries_by, registers_by, values_after, entries_of, same_kind, is_at}
use Rattle.relational_model.proofs.Vocabulary.{read_value, values_by, made_by, made_from, made, counting, due_value, HasReadValues}
use Rattle.relational_model.proofs.Vocabulary.{IsAdjacent, IsTsoExecution, read_values, Litmus, Instr, Action, Store, Load, Move, Fence}
use Rattle.relational_model.proofs.Vocabulary.{Lock, Entry, R, LR, IsIn, Candidate, Returns, events_from, events, last_in, IsCandidateOf}
use Rattle.relational_model.proofs.Vocabulary.{part_of}
use Rattle.relational_model.proofs.Lists.{in-case, in-none, in-first, in-left, in-right}
use Rattle.relational_model.proofs.KindFacts.{same-number}
use Rattle.relational_model.proofs.Allowed.{value-none, value-some}
use Rattle.relational_model.proofs.Found.{at-itself, apart-three, equal-kinds}
use Rattle.relational_model.proofs.Order.{Placed, keeps-order, coherence-is, sources-are}

-- one entry of each core, place and kind
abbrev pub Unique : List Entry → Type 0
Unique order = (x y : Entry) → IsIn order x → IsIn order y → x.core.0 ≡ y.core.0 → x.place ≡ y.place → x.kind ≡ y.kind → x ≡ y

read-found : (order : List Entry) (e : Entry) → IsIn order e → ((y : Entry) → IsIn order y → is_at e.core.0 e.place e.kind y ≡ true → y ≡ e)
    → read_value e.core.0 e.place e.kind order ≡ e.value
read-found [] e i u = absurd (in-none e i)
read-found (x ∷ xs) e i u =
    go (is_at e.core.0 e.place e.kind x) refl (in-case x xs e i) (λ j. read-found xs e j (λ y k h. u y (suc k.0, k.1) h))
  where
    go : (b : Bool) → is_at e.core.0 e.place e.kind x ≡ b → (e ≡ x) ⊎ IsIn xs e
        → (IsIn xs e → read_value e.core.0 e.place e.kind xs ≡ e.value)
        → (if b then x.value else read_value e.core.0 e.place e.kind xs) ≡ e.value
    go true h i rest = ap (λ (z : Entry). z.value) (u x (in-first x xs x refl) h)
    go false h (inl q) rest =
        let t : is_at e.core.0 e.place e.kind x ≡ true = subst (λ z. is_at e.core.0 e.place e.kind z ≡ true) q (at-itself e) in
        absurd (let z : ⊥ = cc in z)
    go false h (inr j) rest = rest j

found-value : (order : List Entry) → Unique order → (e : Entry) → IsIn order e → e.value ≡ read_value e.core.0 e.place e.kind order
found-value order u e i = sym (read-found order e i (λ y j h.
    let a = apart-three (y.core.0 == e.core.0) (y.place == e.place) (same_kind y.kind e.kind) h in
    u y e j i (same-number y.core.0 e.core.0 a.0) (same-number y.place e.place a.1) (equal-kinds y.kind e.kind a.2)))

act : (a : Action) (core place : ℕ) (p : List Instr) (registers more : List ℕ) (v : ℕ) (order : List Entry) → Unique order
    → ((x : Entry) → IsIn (entries_by core place a registers v) x → IsIn order x)
    → entries_by core place a registers v ++ entries_of core (place + 1) p (registers_by a registers v) more
    ≡ entries_by core place a registers (slice_index (values_by core place a order ++ more) 0)
    ++ entries_of core (place + 1) p (registers_by a registers (slice_index (values_by core place a order ++ more) 0))
    (values_after a (values_by core place a order ++ more))
act (Store loc operand) core place p registers more v order u h = refl
act (Load reg loc) core place p registers more v order u h =
    ap (λ w. entries_by core place (Load reg loc) registers w ++ entries_of core (place + 1) p
    (registers_by (Load reg loc) registers w) more)
    (found-value order u (entry core place R loc v)
    (h (entry core place R loc v) (in-first (entry core place R loc v) [] (entry core place R loc v) refl)))
act (Move change) core place p registers more v order u h = refl
act Fence core place p registers more v order u h = refl
act (Lock loc reg update) core place p registers more v order u h =
    ap (λ w. entries_by core place (Lock loc reg update) registers w ++ entries_of core (place + 1) p
    (registers_by (Lock loc reg update) registers w) more)
    (found-value order u (entry core place LR loc v) (h (entry core place LR loc v) (0, refl)))

program-made : (core place : ℕ) (p : List Instr) (registers values : List ℕ) (order : List Entry) → Unique order
    → ((x : Entry) → IsIn (entries_of core place p registers values) x → IsIn order x)
    → entries_of core place p registers values ≡ entries_of core place p registers (read_values core place p order)
program-made core place [] registers values order u h = refl
program-made core place (i ∷ p) registers values order u h =
    let v : ℕ = slice_index values 0 in
    let next : List ℕ = registers_by (action_of i) registers v in
    ap (λ es. entries_by core place (action_of i) registers v ++ es)
    (program-made core (place + 1) p next (values_after (action_of i) values) order u
    (λ x j. h x (in-right (entries_by core place (action_of i) registers v)
    (entries_of core (place + 1) p next (values_after (action_of i) values)) x j)))
    ∙ act (action_of i) core place p registers (read_values core (place + 1) p order) v order u
    (λ x j. h x (in-left (entries_by core place (action_of i) registers v)
    (entries_of core (place + 1) p next (values_after (action_of i) values)) x j))

events-made : (core : ℕ) (ps : List (List Instr)) (registers reads : List (List ℕ)) (order : List Entry) → Unique order
    → ((x : Entry) → IsIn (events_from core ps registers reads) x → IsIn order x)
    → events_from core ps registers reads ≡ made_from core ps registers order
events-made core [] registers reads order u h = refl
events-made core (p ∷ ps) registers reads order u h =
    let r : List ℕ = slice_index_or registers core [] in
    let values : List ℕ = slice_index_or reads core [] in
    ap (λ es. es ++ events_from (core + 1) ps registers reads)
    (program-made core 0 p r values order u
    (λ x j. h x (in-left (entries_of core 0 p r values) (events_from (core + 1) ps registers reads) x j)))
    ∙ ap (λ es. made_by core p r order ++ es)
    (events-made (core + 1) ps registers reads order u
    (λ x j. h x (in-right (entries_of core 0 p r values) (events_from (core + 1) ps registers reads) x j)))

all-made : (t : Litmus) (c : Candidate) (order : List Entry) → Placed t c order → events t c ≡ made t order
all-made t c order k =
    events-made 0 t.programs t.registers c.reads order
    (λ x y i j a b d. k.sound.same x y (k.outside x i) (k.outside y j) a b (ap part_of d)) k.inside

read-values : (t : Litmus) (c : Candidate) (order : List Entry) → Placed t c order → HasReadValues t order
read-values t c order k front r back is read = go (c.source r) refl
  where
    here : IsIn order r
    here = subst (λ xs. IsIn xs r) (sym is) (in-right front (r ∷ back) r (in-first r back r refl))

    returns : Returns t c r (c.source r)
    returns = k.sound.candidate.reads r (k.outside r here) read

    last : c.source r ≡ last_in (counting r front back)
    last = sources-are t c order k front r back is read

    go : (s : Option Entry) → c.source r ≡ s → r.value ≡ due_value t r front back
    go None e =
        let h : Returns t c r None = subst (Returns t c r) e returns in
        h ∙ sym (value-none (counting r front back) (slice_index t.words r.loc.0) (sym last ∙ e))
    go (Some w) e =
        let h : Returns t c r (Some w) = subst (Returns t c r) e returns in
        h.2 ∙ sym (value-some (counting r front back) w (slice_index t.words r.loc.0) (sym last ∙ e))

pub is-execution : (t : Litmus) (c : Candidate) (order : List Entry) → Placed t c order → IsAdjacent order → IsTsoExecution t order
is-execution t c order k pairs = record {
  whole = record {
    count = k.count ∙ ap length (all-made t c order k);
    each = λ i e p. k.inside e (subst (λ xs. IsIn xs e) (sym (all-made t c order k)) (i, p));
  };
  program_order = keeps-order t c order k;
  adjacent = pairs;
  read_values = read-values t c order k;
}

pub is-of : (t : Litmus) (c : Candidate) (order : List Entry) → Placed t c order → IsCandidateOf t order c
is-of t c order k = record { events = all-made t c order k; sources = sources-are t c order k; coherence = coherence-is t c order k }
