-- An object in the making.
use Rattle.std.specs.Prelude.{◌≡◌, IfOk}
use Rattle.serde_json.specs.Data.{Members}
use Rattle.serde_json.specs.View.{members_view}
use Rattle.tso_report.specs.declared.objects.Object.{Object}

-- it has these members, unless memory was refused for one of them
abbrev pub HasMembers : Object → Members → Type 0
HasMembers o ms = IfOk o.members (λ m. members_view m.entries ≡ ms)
