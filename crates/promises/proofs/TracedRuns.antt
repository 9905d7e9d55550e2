-- What the headline of `trace` says of choices that a text spells.
use Rattle.promises.proofs.Vocabulary.{◌≡◌, ◌≤◌, ◌<◌, ℕ, Bool, true, false, refl, List, length, Result, Ok, Err, IfOk, Some, string_bytes}
use Rattle.promises.proofs.Vocabulary.{Litmus, Run, run, Atomic, Split, Choice, ProtocolKind, Configuration, parts_of}
use Rattle.litmus_tokens.specs.declared.instructions.Instructions.{Instructions}
use Rattle.litmus_reader.specs.Spelling.{SpellsTest}
use Rattle.scheduler.specs.Grammar.{SpellsChoices}
use Rattle.scheduler.specs.WordOfChoice.{IsWordOfChoice}
use Rattle.scheduler.specs.declared.fault.ChoiceFault.TheVariants.{TooMany}
use Rattle.command_line.specs.declared.settings.Settings.TheVariants as settings
use Rattle.tso_cli.specs.Headline.{Headline}
use Rattle.tso_cli.specs.Lines.{choices_refusal}
use Rattle.tso_cli.specs.SplitRun.{split_run}
use Rattle.tso_cli.specs.TraceHeadline.{PrintsTrace, PrintsTracedObject, PrintsEachTrace}
use Rattle.tso_cli.specs.declared.answer.Answer.{Answer}

-- of every test and list of choices that the input spells
abbrev pub OfEach : Instructions → List ℕ → (Litmus → List Choice → Type 0) → Type 0
OfEach set input P =
    (t : Litmus) (choices : List Choice)
    → SpellsTest set (parts_of input).test t
    → SpellsChoices (length t.programs) (parts_of input).rest choices
    → P t choices

-- the trace is printed
abbrev pub TracesEach : ProtocolKind → Configuration → Instructions → (Litmus → List Choice → Run) → List ℕ → List ℕ → Type 0
TracesEach kind c set run_of input out = OfEach set input (λ t choices. PrintsTrace t kind c choices (run_of t choices) out)

-- the same as JSON, of a run that is short enough
abbrev pub TracesObjects : ProtocolKind → Configuration → Instructions → (Litmus → List Choice → Run) → List ℕ → List ℕ → Type 0
TracesObjects kind c set run_of input out =
    OfEach set input (λ t choices. (run_of t choices).used ≤ 1000 → PrintsTracedObject t kind c choices (run_of t choices) out)

-- one that is longer is refused
abbrev pub RefusesLong : Instructions → (Litmus → List Choice → Run) → List ℕ → List ℕ → Type 0
RefusesLong set run_of input out =
    OfEach set input (λ t choices. 1000 < (run_of t choices).used
    → (word : ℕ) × IsWordOfChoice (length t.programs) (parts_of input).rest 1000 word × (out ≡ choices_refusal (TooMany word)))

no-limit : {A : Type 0} → false ≡ true → A
no-limit is = absurd (let no : ⊥ = cc in no)

-- from the headline to what is said of each
lines : (kind : ProtocolKind) (c : Configuration) (set : Instructions) (run_of : Litmus → List Choice → Run) (input out : List ℕ)
    → ((t : Litmus)
    → SpellsTest set (parts_of input).test t
    → PrintsEachTrace t kind c false (run_of t) (parts_of input).rest out)
    → TracesEach kind c set run_of input out
lines kind c set run_of input out each = λ t choices spelled spells. (each t spelled).every_list choices spells no-limit

objects : (kind : ProtocolKind) (c : Configuration) (set : Instructions) (run_of : Litmus → List Choice → Run) (input out : List ℕ)
    → ((t : Litmus)
    → SpellsTest set (parts_of input).test t
    → PrintsEachTrace t kind c true (run_of t) (parts_of input).rest out)
    → TracesObjects kind c set run_of input out
objects kind c set run_of input out each = λ t choices spelled spells short. (each t spelled).every_list choices spells (λ _. short)

refuses : (kind : ProtocolKind) (c : Configuration) (set : Instructions) (run_of : Litmus → List Choice → Run) (input out : List ℕ)
    → ((t : Litmus)
    → SpellsTest set (parts_of input).test t
    → PrintsEachTrace t kind c true (run_of t) (parts_of input).rest out)
    → RefusesLong set run_of input out
refuses kind c set run_of input out each = λ t choices spelled spells long. (each t spelled).too_long choices spells (refl, long)

pub stands_on_atomic : {E : Type 0} (r : Result Answer E) (kind : ProtocolKind) (c : Configuration) (set : Instructions)
    (input : List ℕ)
    → c.bus ≡ Atomic
    → length input ≤ 1048576
    → IfOk r (λ a. Headline (settings.Trace kind c set false) (Some input) (string_bytes a.text))
    → IfOk r (λ a. TracesEach kind c set (λ t choices. run t c.depth choices) input (string_bytes a.text))
stands_on_atomic (Ok a) kind c set input is small h =
    lines kind c set (λ t choices. run t c.depth choices) input _ (λ t spelled. ((h.within small).every_test t spelled).atomic is)
stands_on_atomic (Err e) kind c set input is small h = tt

pub stands_on_split : {E : Type 0} (r : Result Answer E) (kind : ProtocolKind) (c : Configuration) (set : Instructions)
    (input : List ℕ)
    → c.bus ≡ Split
    → length input ≤ 1048576
    → IfOk r (λ a. Headline (settings.Trace kind c set false) (Some input) (string_bytes a.text))
    → IfOk r (λ a. TracesEach kind c set (λ t choices. split_run t kind c choices) input (string_bytes a.text))
stands_on_split (Ok a) kind c set input is small h =
    lines kind c set (λ t choices. split_run t kind c choices) input _ (λ t spelled. ((h.within small).every_test t spelled).split is)
stands_on_split (Err e) kind c set input is small h = tt

pub objects_on_atomic : {E : Type 0} (r : Result Answer E) (kind : ProtocolKind) (c : Configuration)
    (set : Instructions) (input : List ℕ)
    → c.bus ≡ Atomic
    → length input ≤ 1048576
    → IfOk r (λ a. Headline (settings.Trace kind c set true) (Some input) (string_bytes a.text))
    → IfOk r (λ a. TracesObjects kind c set (λ t choices. run t c.depth choices) input (string_bytes a.text))
objects_on_atomic (Ok a) kind c set input is small h =
    objects kind c set (λ t choices. run t c.depth choices) input _ (λ t spelled. ((h.within small).every_test t spelled).atomic is)
objects_on_atomic (Err e) kind c set input is small h = tt

pub objects_on_split : {E : Type 0} (r : Result Answer E) (kind : ProtocolKind) (c : Configuration) (set : Instructions)
    (input : List ℕ)
    → c.bus ≡ Split
    → length input ≤ 1048576
    → IfOk r (λ a. Headline (settings.Trace kind c set true) (Some input) (string_bytes a.text))
    → IfOk r (λ a. TracesObjects kind c set (λ t choices. split_run t kind c choices) input (string_bytes a.text))
objects_on_split (Ok a) kind c set input is small h =
    objects kind c set (λ t choices. split_run t kind c choices) input _ (λ t spelled. ((h.within small).every_test t spelled).split is)
objects_on_split (Err e) kind c set input is small h = tt

pub refuses_on_atomic : {E : Type 0} (r : Result Answer E) (kind : ProtocolKind) (c : Configuration)
    (set : Instructions) (input : List ℕ)
    → c.bus ≡ Atomic
    → length input ≤ 1048576
    → IfOk r (λ a. Headline (settings.Trace kind c set true) (Some input) (string_bytes a.text))
    → IfOk r (λ a. RefusesLong set (λ t choices. run t c.depth choices) input (string_bytes a.text))
refuses_on_atomic (Ok a) kind c set input is small h =
    refuses kind c set (λ t choices. run t c.depth choices) input _ (λ t spelled. ((h.within small).every_test t spelled).atomic is)
refuses_on_atomic (Err e) kind c set input is small h = tt

pub refuses_on_split : {E : Type 0} (r : Result Answer E) (kind : ProtocolKind) (c : Configuration) (set : Instructions)
    (input : List ℕ)
    → c.bus ≡ Split
    → length input ≤ 1048576
    → IfOk r (λ a. Headline (settings.Trace kind c set true) (Some input) (string_bytes a.text))
    → IfOk r (λ a. RefusesLong set (λ t choices. split_run t kind c choices) input (string_bytes a.text))
refuses_on_split (Ok a) kind c set input is small h =
    refuses kind c set (λ t choices. split_run t kind c choices) input _ (λ t spelled. ((h.within small).every_test t spelled).split is)
refuses_on_split (Err e) kind c set input is small h = tt
