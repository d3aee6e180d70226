use Rattle.mls_treekem_model.proofs.laws_of_members.Goals as goal
use Rattle.mls_treekem_model.proofs.MemberLaws.{exact_whole, exact_made, exact_followed, exact_updated, exact_opened, keys_merged, exact_received, made_received, shown_are_due, exact_taken, exact_alone}

pub returns : goal.returns
returns c =
    record {
      whole = exact_whole;
      made = exact_made;
      followed = exact_followed;
      updated = exact_updated;
      opened = exact_opened;
      keys_merged = keys_merged;
      received = exact_received;
      made_received = made_received;
      shown = shown_are_due;
      taken = exact_taken;
      alone = exact_alone;
    }
