use Rattle.search_report.proofs.Vocabulary.{◌≡◌, subst, codes, values_of, string, count, no_members, put, kept_of, is_met_in, states_value}
use Rattle.search_report.proofs.Vocabulary.{observation_value, outcomes_verdict_value}
use Rattle.tso_report.specs.inner.Objects.{HasMembers}
use Rattle.search_report.proofs.NoFloatsInOutcomes.{outcomes_have_no_float}
use Rattle.search_report.proofs.outcomes_as_json.outcomes_json.Goals as goal

pub line-requires : goal.line-requires
line-requires c =
    let found = c.args.found.now in
    let t = found.test.now in
    let outcomes = values_of (kept_of found.outcomes.now.entries) in
    let name : c.name.result.now ≡ t.name = c.name.ensures in
    let met : c.is_met_in-is_met.result ≡ is_met_in t.condition outcomes = c.is_met_in-is_met.ensures in
    let whole =
    subst (HasMembers c.member-5.result)
    (λ i.
    put (codes "verdict") (outcomes_verdict_value t.condition (met i))
    (put (codes "test") (string (name i)) (put (codes "states") (states_value t found.names.now outcomes)
    (put (codes "observation") (observation_value t.condition outcomes) (put (codes "depth") (count found.depth) no_members)))))
    (c.member-5.ensures _ _ (c.member-4.ensures _ _ (c.member-3.ensures _ _
    (c.member-2.ensures _ _ (c.member.ensures _ (count found.depth) c.new.ensures c.from.ensures) c.observation_value.ensures)
    c.states_value.ensures)
    c.word_value.ensures) c.outcomes_verdict_value.ensures) in
    (_, whole, outcomes_have_no_float t found.names.now found.depth outcomes)

pub returns : goal.returns
returns c =
    let found = c.args.found.now in
    let t = found.test.now in
    let outcomes = values_of (kept_of found.outcomes.now.entries) in
    let name : c.name.result.now ≡ t.name = c.name.ensures in
    let met : c.is_met_in-is_met.result ≡ is_met_in t.condition outcomes = c.is_met_in-is_met.ensures in
    let whole =
    subst (HasMembers c.member-5.result)
    (λ i.
    put (codes "verdict") (outcomes_verdict_value t.condition (met i))
    (put (codes "test") (string (name i)) (put (codes "states") (states_value t found.names.now outcomes)
    (put (codes "observation") (observation_value t.condition outcomes) (put (codes "depth") (count found.depth) no_members)))))
    (c.member-5.ensures _ _ (c.member-4.ensures _ _ (c.member-3.ensures _ _
    (c.member-2.ensures _ _ (c.member.ensures _ (count found.depth) c.new.ensures c.from.ensures) c.observation_value.ensures)
    c.states_value.ensures)
    c.word_value.ensures) c.outcomes_verdict_value.ensures) in
    c.line.ensures _ whole
