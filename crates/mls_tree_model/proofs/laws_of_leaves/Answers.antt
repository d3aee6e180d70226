use Rattle.mls_tree_model.proofs.laws_of_leaves.Goals as goal
use Rattle.mls_tree_model.proofs.PlaceLaws.{leaf_at-put, leaf_at-enter, leaf_at-merge, members-grow, members-trim, first_blank_at, first_blank_first, first_blank_none}
use Rattle.mls_tree_model.proofs.MemberLaws.{add_there, add_elsewhere, add_wider, remove_elsewhere}
use Rattle.mls_tree_model.proofs.LimitLaws.{add_within}

pub returns : goal.returns
returns c =
    record {
      put = λ b t i x j p q. leaf_at-put b t i x j p.low p.high q.low q.high;
      enter = λ b t i x j p q. leaf_at-enter b t i x j p.low p.high q.low q.high;
      merge = leaf_at-merge;
      grow = members-grow;
      trim = members-trim;
      first_blank = first_blank_at;
      first = first_blank_first;
      full = λ b t j e p. first_blank_none b t j e p.low p.high;
      added = add_there;
      added_elsewhere = add_elsewhere;
      wider = add_wider;
      within = add_within;
      removed_elsewhere = remove_elsewhere;
    }
