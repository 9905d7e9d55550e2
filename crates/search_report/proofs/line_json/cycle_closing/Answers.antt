use Rattle.search_report.proofs.line_json.cycle_closing.Goals as goal

pub returns : goal.returns
returns c = c.value.ensures _ (c.member-2.ensures _ _ (c.member.ensures _ _ c.new.ensures c.array_of.ensures) c.word_value.ensures)
