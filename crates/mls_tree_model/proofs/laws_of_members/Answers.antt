use Rattle.mls_tree_model.proofs.laws_of_members.Goals as goal
use Rattle.mls_tree_model.proofs.MemberLaws.{members-put, members-enter, members-merge, all_members-grow, all_members-trim}
use Rattle.mls_tree_model.proofs.ClientLaws.{member_passes}

pub returns : goal.returns
returns c =
    record {
      each = λ p b t j x h k. member_passes p b t j x h k.low k.high;
      put = λ p b t i x k. members-put p b t i x k.low k.high;
      enter = λ p b t i x k. members-enter p b t i x k.low k.high;
      merge = λ p b t i ks h x k. members-merge p b t i ks h x k.low k.high;
      grow = all_members-grow;
      trim = all_members-trim;
    }
