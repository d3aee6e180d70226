use Rattle.std.proofs.Common.{refl}
use Rattle.mls_types.specs.Content.{framed_content}
use Rattle.mls_view.proofs.content.read_framed_content.Goals as goal

pub returns : goal.returns
unfolding framed_content
returns c =
    let r = c.in_ok-content.ensures in
    record {
      value = record { group_id = c.in_ok-group_id.group_id.now; epoch = c.in_ok-epoch.epoch; sender = c.in_ok-sender.sender; authenticated_data = c.in_ok-authenticated_data.authenticated_data.now; content = r.value };
      is_read = rw (c.in_ok-group_id.ensures, c.in_ok-epoch.ensures, c.in_ok-sender.ensures, c.in_ok-authenticated_data.ensures, r.is_read) refl;
      shows = record { group_id = refl; epoch = refl; sender = refl; authenticated_data = refl; content = r.shows };
    }
