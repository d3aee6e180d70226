use Rattle.std.proofs.Common.{refl}
use Rattle.mls_cli_show.proofs.group.parent_lines.Goals as goal

pub returns : goal.returns
returns c =
    rw (c.in_ok-vec.ensures.items, c.line_with.ensures, c.line_with-2.ensures, c.line_with-3.ensures, c.in_ok-key.ensures.bytes, c.encryption_key.ensures, c.in_ok-hash.ensures.bytes, c.parent_hash.ensures, c.in_ok-unmerged.ensures.items, c.unmerged_leaves.ensures.entries) refl
