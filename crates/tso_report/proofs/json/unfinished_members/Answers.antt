use Rattle.tso_report.proofs.json.unfinished_members.Goals as goal

pub returns : goal.returns
returns c = c.members.ensures _ (c.member.ensures _ _ c.new.ensures c.object_of.ensures)
