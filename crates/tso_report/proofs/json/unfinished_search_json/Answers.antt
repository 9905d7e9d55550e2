use Rattle.tso_report.proofs.Vocabulary.{◌≡◌, refl, subst, codes, IfOk, line, compact_text, string_bytes, string, count, Members}
use Rattle.tso_report.proofs.Vocabulary.{no_members, member, object, put}
use Rattle.tso_report.proofs.json.unfinished_search_json.Goals as goal

pub line-requires : goal.line-requires
line-requires c =
    (_, c.member-2.ensures _ _ (c.member.ensures _ _ c.new.ensures c.word_value.ensures) c.object_of.ensures, refl)

pub returns : goal.returns
returns c =
    let name : c.name.result.now ≡ c.args.test.now.name = c.name.ensures in
    subst (λ (ms : Members). IfOk c.line.result (λ text. string_bytes text ≡ line (compact_text (object ms))))
    (λ i. put (codes "unfinished") (object (member c.args.key.now (count c.args.limit) no_members)) (put (codes "test") (string (name i)) no_members))
    (c.line.ensures _ (c.member-2.ensures _ _ (c.member.ensures _ _ c.new.ensures c.word_value.ensures) c.object_of.ensures))
