use Rattle.mls_tree_hash.proofs.Feeding.{feeds_then}
use Rattle.mls_tree_hash.proofs.Waiting.{feeds_hasher}
use Rattle.mls_tree_hash.proofs.feed.Feed.add_beyond.Goals as goal

pub returns-else-bytes-le-ROOM : goal.returns-else-bytes-le-ROOM
returns-else-bytes-le-ROOM c = feeds_then c.hand_over.ensures.fed (feeds_hasher c.hand_over.ensures.none c.hand_over.ensures.none c.update.ensures)
