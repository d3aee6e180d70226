use Rattle.mls_tree_model.proofs.laws_of_parent_hashes.Goals as goal
use Rattle.mls_tree_model.proofs.MemberLaws.{original_tree-none}
use Rattle.mls_tree_model.proofs.OriginalLaws.{original_tree-enter, original_tree-with}
use Rattle.mls_tree_model.proofs.ResolutionLaws.{hash_at-enter}
use Rattle.mls_tree_model.proofs.AddLaws.{valid-add}
use Rattle.mls_tree_model.proofs.MergeLaws.{merge_head, valid-merge}
use Rattle.mls_tree_model.proofs.WholeLaws.{tied_update, tied_remove, tied_add, tied_merge_path}
use Rattle.mls_tree_model.proofs.LengthLaws.{length-tree_hash, none_or_long, length-path_parent_hash}

pub returns : goal.returns
returns c =
    record {
      original_tree = original_tree-none;
      original_enter = λ b t i us x p. original_tree-enter b t i us x p.low p.high;
      original_others = original_tree-with;
      field = λ b t i x d p. hash_at-enter b t i x d p.low p.high;
      valid_enter = λ b t i x p. valid-add b t i x p.low p.high;
      head = merge_head;
      valid_merge = valid-merge;
      tied_update = tied_update;
      tied_remove = tied_remove;
      tied_add = tied_add;
      tied_merge_path = tied_merge_path;
      tree_hash = length-tree_hash;
      path_hash = none_or_long;
      no_path = length-path_parent_hash;
    }
