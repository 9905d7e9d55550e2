use Rattle.promises.proofs.printed.lines_by_hand.a_place_may_have_no_value.Goals as goal

pub returns : goal.returns
returns c = λ t depth named known. ((known, tt), tt)
