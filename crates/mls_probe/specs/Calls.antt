-- The calls on a member that its contracts allow.
use Rattle.mls_probe.specs.declared.call.Call.{Call}
use Rattle.mls_probe.specs.declared.call.Call.TheVariants.{Commit, Process, ProposeAdd, ProposeUpdate, ProposeRemove, ProposeExtensions}
use Rattle.mls_member.specs.Answers.{AreShortItems}

-- a commit's proposals in full are short
abbrev pub IsShortCall : Call → Type 0
IsShortCall (Commit items seed) = AreShortItems items.items
IsShortCall (Process bytes) = Unit {0}
IsShortCall (ProposeAdd candidate) = Unit {0}
IsShortCall (ProposeUpdate seed) = Unit {0}
IsShortCall (ProposeRemove leaf) = Unit {0}
IsShortCall (ProposeExtensions list) = Unit {0}
