-- A step of a core, from what the call for its instruction says.
use Rattle.std.specs.Prelude.{Option}
use Rattle.tso_terms.specs.Thread.{changed}
use Rattle.basic_laws.specs.Types.{Change}
use Rattle.multiprocessor.proofs.Vocabulary.{◌≡◌, ◌<◌, ℕ, Result, IfOk, List, [], ◌∷◌, length, refl, sym, ap, subst, KnownLocation}
use Rattle.multiprocessor.proofs.Vocabulary.{action_of, value_of, NoAccess, store_access, locked_access, Core, Loc, Instr, Reg}
use Rattle.multiprocessor.proofs.Vocabulary.{Action, Store, Load, Move, Fence, Lock, Update, Entry, Outcome, Moved, NoMemory, Noted}
use Rattle.multiprocessor.proofs.Vocabulary.{BusModel, words_of, cores_of, Unused, Processor, Way, Whole, Turn, pending_in, own_access}
use Rattle.multiprocessor.proofs.Vocabulary.{action_by, step_by, effect_of_store, effect_of_fence, effect_of_lock, at_next, ChoiceAnswer}
use Rattle.multiprocessor.proofs.Vocabulary.{MayMake, MayAccess, whole, Acts, SucceedsUnlessCommitting}
use Rattle.tso_terms.specs.declared.action.Operand.{Operand}
use Rattle.multiprocessor.proofs.ActedLemmas.{whole-by, whole-none, acts-waits}

abbrev turn_of : Core → Way → Turn
turn_of core way = record { core = core; way = way }

turn-is : (turn : Turn) → turn.way ≡ Whole → whole turn.core ≡ turn
turn-is turn e = ap (λ (w : Way). turn_of turn.core w) (sym e)

-- a locked instruction is never completed
lock-whole : (turn : Turn) (b : BusModel) (loc : Loc) (pending : List Entry) → MayMake turn b (locked_access loc pending) → turn.way ≡ Whole
lock-whole turn b loc [] may = whole-by turn.way b turn.core (locked_access loc []) (λ asked. asked) may
lock-whole turn b loc (p ∷ ps) may = whole-by turn.way b turn.core (locked_access loc (p ∷ ps)) (λ asked. asked) may

module _ (turn : Turn) (instr : Instr) (p : Processor) (b : BusModel) where
  -- what the access of an instruction needs
  module _ (within : turn.core.0 < cores_of b)
      (may : MayMake turn b (own_access (action_of instr) turn.core.0 p))
      (known : KnownLocation (length (words_of b)) instr) where
    pub access-store : (loc : Loc) (operand : Operand) → action_of instr ≡ Store loc operand → MayAccess turn b loc (store_access p.stores.depth loc)
    access-store loc operand e = record { core = within; free = rw e at may; known = rw e at known }

    pub access-load : (reg : Reg) (loc : Loc) → action_of instr ≡ Load reg loc → MayAccess turn b loc (own_access (Load reg loc) turn.core.0 p)
    access-load reg loc e = record { core = within; free = rw e at may; known = rw e at known }

    pub access-lock : (loc : Loc) (reg : Option Reg) (update : Update)
        → action_of instr ≡ Lock loc reg update
        → MayAccess (whole turn.core) b loc (locked_access loc (pending_in turn.core.0 p))
    access-lock loc reg update e = record {
      core = within;
      free =
          subst (λ (t : Turn). MayMake t b (locked_access loc (pending_in turn.core.0 p)))
          (sym (turn-is turn (lock-whole turn b loc (pending_in turn.core.0 p) here))) here;
      known = rw e at known;
    }
      where
        here : MayMake turn b (locked_access loc (pending_in turn.core.0 p))
        here = rw e at may

  pub known-store : (loc : Loc) (operand : Operand)
      → action_of instr ≡ Store loc operand
      → KnownLocation (length (words_of b)) instr
      → loc.0 < length (words_of b)
  known-store loc operand e known = rw e at known

  module _ {E : Type 0} (r : Result ChoiceAnswer E) (q : Processor) (b' : BusModel) (noted noted' : Noted) where
    pub acts-store : (loc : Loc) (operand : Operand) (value : ℕ) → action_of instr ≡ Store loc operand → value ≡ value_of p.registers operand
        → IfOk r (Acts turn (store_access p.stores.depth loc) (effect_of_store loc value) p q b b' noted noted')
        → IfOk r (Acts turn (own_access (action_of instr) turn.core.0 p) (step_by instr) p q b b' noted noted')
    acts-store loc operand value e v acts = rw (e, ← v) acts

    pub acts-load : (reg : Reg) (loc : Loc) → action_of instr ≡ Load reg loc
        → IfOk r (Acts turn (own_access (Load reg loc) turn.core.0 p) (action_by (Load reg loc)) p q b b' noted noted')
        → IfOk r (Acts turn (own_access (action_of instr) turn.core.0 p) (step_by instr) p q b b' noted noted')
    acts-load reg loc e acts = rw e acts

    pub acts-fence : action_of instr ≡ Fence → MayMake turn b (own_access (action_of instr) turn.core.0 p)
        → IfOk r (Acts (whole turn.core) NoAccess effect_of_fence p q b b' noted noted')
        → IfOk r (Acts turn (own_access (action_of instr) turn.core.0 p) (step_by instr) p q b b' noted noted')
    acts-fence e may acts =
        let none : own_access (action_of instr) turn.core.0 p ≡ NoAccess = rw e refl in
        rw e (subst (λ (t : Turn). IfOk r (Acts t NoAccess effect_of_fence p q b b' noted noted'))
        (turn-is turn (whole-none turn b (own_access (action_of instr) turn.core.0 p) none may)) acts)

    pub acts-lock : (loc : Loc) (reg : Option Reg) (update : Update)
        → action_of instr ≡ Lock loc reg update
        → MayMake turn b (own_access (action_of instr) turn.core.0 p)
        → IfOk r (Acts (whole turn.core) (locked_access loc (pending_in turn.core.0 p)) (effect_of_lock loc reg update) p q b b' noted noted')
        → IfOk r (Acts turn (own_access (action_of instr) turn.core.0 p) (step_by instr) p q b b' noted noted')
    acts-lock loc reg update e may acts = rw e
        (subst (λ (t : Turn). IfOk r (Acts t (locked_access loc (pending_in turn.core.0 p)) (effect_of_lock loc reg update) p q b b' noted noted'))
        (turn-is turn (lock-whole turn b loc (pending_in turn.core.0 p) (rw e at may))) acts)

  pub acts-set : (change : Change) (registers : List ℕ) (q : Processor) (noted : Noted) (answer : Outcome)
      → action_of instr ≡ Move change
      → registers ≡ changed change p.registers
      → MayMake turn b (own_access (action_of instr) turn.core.0 p)
      → answer ≡ Moved → q ≡ at_next p registers
      → Acts turn (own_access (action_of instr) turn.core.0 p) (step_by instr) p q b b noted noted (answer, Unused)
  acts-set change registers q noted answer e v may is next =
      let none : own_access (action_of instr) turn.core.0 p ≡ NoAccess = rw e refl in
      acts-waits turn.way (own_access (action_of instr) turn.core.0 p) turn.core.0 p q b noted
      (step_by instr turn.core.0 p (words_of b)) answer
      (whole-none turn b (own_access (action_of instr) turn.core.0 p) none may)
      (record { outcome = rw (e, is) refl; after = rw (e, next, v) refl; commits = rw e refl })

  module _ {A : Type 0} (r : Result A NoMemory) (words : List ℕ) where
    pub succeeds-store : (loc : Loc) (operand : Operand) (value : ℕ) → action_of instr ≡ Store loc operand → value ≡ value_of p.registers operand
        → SucceedsUnlessCommitting r (effect_of_store loc value turn.core.0 p words) → SucceedsUnlessCommitting r (step_by instr turn.core.0 p words)
    succeeds-store loc operand value e v succeeds = rw (e, ← v) succeeds

    -- a load always commits
    pub succeeds-load : (reg : Reg) (loc : Loc) → action_of instr ≡ Load reg loc → SucceedsUnlessCommitting r (step_by instr turn.core.0 p words)
    succeeds-load reg loc e = λ other. absurd (other (rw e refl))

    pub succeeds-by : (a : Action)
        → action_of instr ≡ a
        → SucceedsUnlessCommitting r (action_by a turn.core.0 p words)
        → SucceedsUnlessCommitting r (step_by instr turn.core.0 p words)
    succeeds-by a e succeeds = rw e succeeds
