-- What one who follows a machine knows of it.
use Rattle.trace_report.specs.Vocabulary.{Running}
use Rattle.trace_report.specs.Told.{IsTraced, IsTracedInStates}
use Rattle.trace_report.specs.inner.Looked.{HasMemory}
use Rattle.trace_report.specs.declared.following.Follower.{Follower}

-- the machine runs the test and is configured so, and before it is followed nothing else is known of it
abbrev pub CanFollow : Follower → Running → Type 0
CanFollow f m = IsTraced f.test.now f.config m × HasMemory f.test.now m f.memory.items

-- its lines are in these states then
abbrev pub Follows : Follower → Running → Type 0
Follows f m = IsTracedInStates f.test.now f.config m f.states.items × HasMemory f.test.now m f.memory.items
