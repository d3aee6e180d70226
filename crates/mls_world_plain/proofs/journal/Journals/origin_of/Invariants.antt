use Rattle.std.proofs.Common.{◌≡◌, ◌<◌, length}
use Rattle.mls_world_plain.specs.StoredWorld.{journal_at}
use Rattle.mls_world_plain.proofs.journal.Journals.origin_of.Given as goal

abbrev pub invariant-loop-origin : goal.invariant-loop-origin
invariant-loop-origin l = (l.at < length l.self.list) × ((journal_at l.self.list l.at).origin ≡ (journal_at l.self.list l.number).origin)

abbrev pub decreases-loop-origin : goal.decreases-loop-origin
decreases-loop-origin l = l.at
