use Rattle.promises.proofs.Vocabulary.{false, parts_of}
use Rattle.promises.proofs.LinesAgain.{lines-again}
use Rattle.promises.proofs.outcomes.shown_states.each_line_by_leads_to_the_line_above.Goals as goal

pub returns : goal.returns
returns c =
    λ kind config set search json assert input out status atomic depth within joinable good is.
    lines-again kind config set search json (parts_of input).test out
    (c.searches_reach_their_states.ensures kind config set search json false assert input out status atomic depth within joinable good is)
