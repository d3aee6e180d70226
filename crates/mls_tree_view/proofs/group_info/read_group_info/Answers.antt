use Rattle.std.proofs.Common.{refl}
use Rattle.mls_types.specs.GroupInfo.{group_info}
use Rattle.mls_tree_view.proofs.group_info.read_group_info.Goals as goal

pub returns : goal.returns
unfolding group_info
returns c =
    let g = c.in_ok-group_context.ensures in
    let t = c.in_ok-ratchet_tree.ensures in
    record {
      value = record {
        group_context = g.value;
        ratchet_tree = t.value;
        confirmation_tag = c.in_ok-_confirmation_tag._confirmation_tag.now;
        signer = c.in_ok-_signer._signer;
        signature = c.in_ok-_signature._signature.now;
      };
      is_read = rw (g.is_read, t.is_read, c.in_ok-_confirmation_tag.ensures, c.in_ok-_signer.ensures, c.in_ok-_signature.ensures) refl;
      shows = record { group_context = g.spells; ratchet_tree = t.shows };
    }
