-- The instruction that a core is at, when it holds a split bus.
use Rattle.machine_core.proofs.Vocabulary.{◌≡◌, ◌≢◌, ◌<◌, ◌≤◌, ℕ, List, Option, None, Some, length, slice_get, slice_index_or, refl, sym}
use Rattle.machine_core.proofs.Vocabulary.{ap, ◌∙◌, arith, IsSome, slice_get_within, most_instructions, Litmus, action_of, program_of}
use Rattle.machine_core.proofs.Vocabulary.{NoAccess, access_by, access_of, Core, Instr, Action, Step, words_of, Processor, Hardware}
use Rattle.machine_core.proofs.Vocabulary.{pending_in, action_by, HardwareFitsTest, state_in, flat_effect_in}
use Rattle.machine_core.proofs.ChoiceEffects.{effect_in-step, access_of-step, access_of-done, IsCore-at, within-cores}

-- a core whose step makes an access is at an instruction
pub next-some : {P : Type 0} (t : Litmus) (m : Hardware P) (core : Core) (p : Processor) (o : Option Instr)
    → core.0 < length m.processors.items
    → p ≡ slice_index_or m.processors.items core.0 p
    → slice_get (program_of t core.0) p.place ≡ o → access_of t m.config.depth (state_in m).flat (Step core) ≢ NoAccess → IsSome o
next-some t m core p None h q g some = absurd (some (access_of-done t m core p h q g))
next-some t m core p (Some instr) h q g some = refl

-- its place is within the limit of a program
pub place-within : (program : List Instr) (found : Option Instr) (instr : Instr) (place : ℕ)
    → found ≡ slice_get program place
    → found ≡ Some instr
    → length program ≤ most_instructions
    → place < most_instructions
place-within program found instr place finds some size = let inside = slice_get_within program place instr (sym finds ∙ some) in omega arith

-- this is the core, and the next that it does is this action
pub record IsNext {P : Type 0} (t : Litmus) (m : Hardware P) (core : Core) (p : Processor) (a : Action) : Type 0 where
  pub within : core.0 < length m.processors.items
  pub core_is : p ≡ slice_index_or m.processors.items core.0 p
  pub depth_is : p.stores.depth ≡ m.config.depth
  pub instr : Instr
  pub got : slice_get (program_of t core.0) p.place ≡ Some instr
  pub action_is : action_of instr ≡ a

pub is-next : {P : Type 0} (t : Litmus) (m : Hardware P) (core : Core) (p : Processor) (program : List Instr)
    (found : Option Instr) (instr : Instr) (action a : Action)
    → HardwareFitsTest t m
    → core.0 < length t.programs
    → p ≡ slice_index_or m.processors.items core.0 p
    → program ≡ program_of t core.0
    → found ≡ slice_get program p.place
    → found ≡ Some instr
    → action ≡ action_of instr
    → action ≡ a
    → IsNext t m core p a
is-next t m core p program found instr action a fits h q programs finds some does is = record {
  within = within-cores t m core.0 fits h;
  core_is = q;
  depth_is = (IsCore-at t m core.0 p fits h q).depth_is;
  instr = instr;
  got = ap (λ xs. slice_get xs p.place) (sym programs) ∙ sym finds ∙ some;
  action_is = sym does ∙ is;
}

pub access-next : {P : Type 0} (t : Litmus) (m : Hardware P) (core : Core) (p : Processor) (a : Action)
    → IsNext t m core p a
    → access_of t m.config.depth (state_in m).flat (Step core) ≡ access_by p.stores.depth a (pending_in core.0 p)
access-next t m core p a next =
    access_of-step t m core p next.instr next.within next.core_is next.depth_is next.got
    ∙ ap (λ action. access_by p.stores.depth action (pending_in core.0 p)) next.action_is

pub effect-next : {P : Type 0} (t : Litmus) (m : Hardware P) (core : Core) (p : Processor) (a : Action)
    → IsNext t m core p a
    → flat_effect_in t m (Step core) ≡ action_by a core.0 p (words_of m.bus)
effect-next t m core p a next =
    effect_in-step t m core p next.instr next.within next.core_is next.depth_is next.got
    ∙ ap (λ action. action_by action core.0 p (words_of m.bus)) next.action_is
