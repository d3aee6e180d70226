use Rattle.std.proofs.Common.{◌≡◌, true, bytes_eq}
use Rattle.mls_world_plain.proofs.Entries.{entries_compared, told_same}
use Rattle.mls_world_plain.proofs.entry.Entry.is_same.Goals as goal

pub returns : goal.returns
returns c =
    let same : bytes_eq c.self.inside.commit c.other.inside.commit ≡ true = told_same _ c.ne.result c.ne.ensures c.if-ne.false in
    entries_compared c.self.inside.commit c.other.inside.commit c.self.inside.names.items c.other.inside.names.items c.args.self.now c.args.other.now c.eq.result c.self.view_is c.other.view_is same c.eq.ensures
