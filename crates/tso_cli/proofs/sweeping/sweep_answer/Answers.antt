use Rattle.tso_cli.proofs.Vocabulary.{◌≡◌, ◌==◌, ◌++◌, Bool, cond, string_bytes, ap, ◌∙◌, rules, Good, Unended, RunCounts}
use Rattle.tso_cli.proofs.SweptText.{lines-of}
use Rattle.tso_cli.proofs.sweeping.sweep_answer.Goals as goal

pub returns : goal.returns
returns c =
    let joined : string_bytes c.push_str.new.self ≡ string_bytes c.in_ok-text.text ++ string_bytes c.in_ok-text-2.field-0 = search rules in
    record {
      text = lines-of c.args.test.now c.in_ok-swept.swept.tally.test c.args.protocol c.args.config c.args.plan c.in_ok-swept.swept.tally.counts _ _ _ _ _
          joined c.in_ok-text.ensures c.in_ok-text-2.ensures c.in_ok-swept.ensures.test c.in_ok-swept.ensures.counts c.from.ensures c.length.ensures;
      answers = c.in_ok-swept.ensures.answers;
      status_is =
          c.status_of.ensures
          ∙ ap (λ (b : Bool). cond b Good Unended)
          (c.in_ok-swept.ensures.ended ∙ ap (λ (k : RunCounts). k.unfinished == 0) c.in_ok-swept.ensures.counts);
    }
