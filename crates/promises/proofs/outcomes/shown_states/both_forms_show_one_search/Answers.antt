use Rattle.promises.proofs.Vocabulary.{Some, true, false}
use Rattle.command_line.specs.declared.settings.Settings.TheVariants as settings
use Rattle.promises.proofs.outcomes.shown_states.both_forms_show_one_search.Goals as goal

pub returns : goal.returns
returns c =
    λ search set assert asserted input out object status again within too is as_object.
    c.headlines_leave_one_text.ensures.outcomes search set false true assert asserted input out object
    (c.answers_meet_the_headline.ensures (settings.Outcomes search set false assert) (Some input) out status within is)
    (c.answers_meet_the_headline.ensures (settings.Outcomes search set true asserted) (Some input) object again too as_object)
