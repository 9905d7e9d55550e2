use Rattle.search_report.proofs.Vocabulary.{◌≡◌, ℕ, subst, codes, values_of, Data, string, count, no_members, member, object, put, kept_of, states_value}
use Rattle.tso_report.specs.inner.Objects.{HasMembers}
use Rattle.search_report.specs.MetOutcomes.{decided_value}
use Rattle.search_report.proofs.MeetingLimit.{met-has-no-float}
use Rattle.search_report.proofs.met_outcomes.met_json.Goals as goal

abbrev limit_value : ℕ → Data
limit_value limit = object (member (codes "states") (count limit) no_members)

pub line-requires : goal.line-requires
line-requires c =
    let t = c.args.test.now in
    let outcomes = values_of (kept_of c.args.outcomes.now.entries) in
    let name : c.name.result.now ≡ t.name = c.name.ensures in
    let whole =
    subst (HasMembers c.member-4.result)
    (λ i.
    put (codes "verdict") (decided_value t.condition (c.requires.met i))
    (put (codes "unfinished") (limit_value c.args.limit) (put (codes "test") (string (name i))
    (put (codes "met") (states_value t c.args.names.now outcomes) no_members))))
    (c.member-4.ensures _ _ (c.member-3.ensures _ (limit_value c.args.limit) (c.member-2.ensures _ _ (c.member.ensures _ _ c.new.ensures c.states_value.ensures)
    c.word_value.ensures) c.object_of.ensures) c.decided_value.ensures) in
    (_, whole, met-has-no-float t c.args.names.now c.args.limit outcomes)

pub returns : goal.returns
returns c =
    let t = c.args.test.now in
    let outcomes = values_of (kept_of c.args.outcomes.now.entries) in
    let name : c.name.result.now ≡ t.name = c.name.ensures in
    let whole =
    subst (HasMembers c.member-4.result)
    (λ i.
    put (codes "verdict") (decided_value t.condition (c.requires.met i))
    (put (codes "unfinished") (limit_value c.args.limit) (put (codes "test") (string (name i))
    (put (codes "met") (states_value t c.args.names.now outcomes) no_members))))
    (c.member-4.ensures _ _ (c.member-3.ensures _ (limit_value c.args.limit) (c.member-2.ensures _ _ (c.member.ensures _ _ c.new.ensures c.states_value.ensures)
    c.word_value.ensures) c.object_of.ensures) c.decided_value.ensures) in
    c.line.ensures _ whole
