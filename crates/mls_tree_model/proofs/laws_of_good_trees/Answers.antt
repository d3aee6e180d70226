use Rattle.mls_tree_model.proofs.laws_of_good_trees.Goals as goal
use Rattle.mls_tree_model.proofs.GoodLaws.{good_passes, good_from_checks}
use Rattle.mls_tree_model.proofs.SoundLaws.{sound_of_good, good_of_sound, sound_update, sound_remove, sound_add}
use Rattle.mls_tree_model.proofs.KeptLaws.{good_single, good_update, good_remove, good_add, good_merge}
use Rattle.mls_tree_model.proofs.PathLaws.{good_merge_path, sound_merge_path}

pub returns : goal.returns
returns c =
    record {
      single = good_single;
      update = good_update;
      remove = good_remove;
      add = good_add;
      merge = good_merge;
      merge_path = good_merge_path;
      sound = sound_of_good;
      from_sound = good_of_sound;
      sound_update = sound_update;
      sound_remove = sound_remove;
      sound_add = sound_add;
      sound_merge_path = sound_merge_path;
      passes = good_passes;
      from_checks = good_from_checks;
    }
