use Rattle.std.proofs.Common.{refl, arith}
use Rattle.std.proofs.lemmas.List.{take_more_set}
use Rattle.mls_tree_hash.proofs.Waiting.{feeds_waiting}
use Rattle.mls_tree_hash.proofs.feed.Feed.add_byte.Goals as goal

pub returns-then-self-lt-ROOM : goal.returns-then-self-lt-ROOM
returns-then-self-lt-ROOM c = feeds_waiting refl (take_more_set c.args.self.now.block c.args.self.now.waiting c.args.byte (omega arith))
