use Rattle.trace_report.proofs.Vocabulary.{◌≡◌, ◌∙◌, ap, sym, subst, Configuration, Data, IfOk, view, StepNamesExist, shown_step, sourced}
use Rattle.trace_report.proofs.Vocabulary.{step_json, words_per_line, machine_json}
use Rattle.trace_report.proofs.Whole.{some-word}
use Rattle.trace_report.proofs.following.Follower.step_to.Goals as goal

pub step_value-requires-clause-words : goal.step_value-requires-clause-words
step_value-requires-clause-words g c = some-word c.words-words.result c.words-words.ensures.within

pub step_value-requires-clause-known : goal.step_value-requires-clause-known
step_value-requires-clause-known g c =
    subst (λ n. StepNamesExist c.args.self.now.test.now n (shown_step c.args.told.now)) (sym c.words-words.ensures.value) c.requires.known

pub returns : goal.returns
returns g c =
    let m = c.args.machine.now in
    let told = sourced c.args.told.now in
    let is = c.requires.follows.0.machine in
    let t : c.args.self.now.test.now ≡ m.test = sym is.test in
    let words : c.words-words.result ≡ words_per_line m = c.words-words.ensures.value ∙ sym (ap (λ (x : Configuration). x.shape.words) is.config) in
    subst (λ (d : Data). IfOk c.step_value.result (λ value. view value ≡ d))
    (λ i. step_json (t i) (words i) told.step told.supplied (machine_json m c.args.self.now.memory.items))
    (c.step_value.ensures _ c.machine-after.ensures)
