use Rattle.search_report.proofs.Vocabulary.{[], sym, subst, ◌∙◌, IsNotHidden}
use Rattle.search_report.proofs.Hiding.{shows}
use Rattle.search_report.proofs.Staying.{stays}
use Rattle.search_report.proofs.hidden.reveal.Goals as goal

pub returns-in-Register : goal.returns-in-Register
returns-in-Register c =
    let w = shows c.args.hidden.now c.from.result c.index.result [] c.in-Register.core c.in-Register.reg c.from.ensures c.index.ensures.place
    (c.requires c.in-Register.core c.in-Register.reg c.in-Register.is) in
    record {
      shown = subst (IsNotHidden _) (sym c.in-Register.is) w.shown;
      others = w.others;
      hidden = λ core reg differ.
          stays c.args.hidden.now c.from.result c.index.result [] c.in-Register.core core c.in-Register.reg reg c.from.ensures c.index.ensures.place
          (c.requires c.in-Register.core c.in-Register.reg c.in-Register.is) (λ same. differ (c.in-Register.is ∙ same));
      count = w.count;
    }
