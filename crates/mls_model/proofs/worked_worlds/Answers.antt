use Rattle.mls_model.proofs.worked_worlds.Goals as goal
use Rattle.mls_model.proofs.WorldExamples.{creation_is_homemade, not_made_here, made_later, made_again, made_otherwise, made_elsewhere, made_behind, by_number, by_other_number, by_bytes, nobody_there, world_first}

pub returns : goal.returns
returns c =
    record {
      creation_is_homemade = creation_is_homemade;
      not_made_here = not_made_here;
      made_later = made_later;
      made_again = made_again;
      made_otherwise = made_otherwise;
      made_elsewhere = made_elsewhere;
      made_behind = made_behind;
      by_number = by_number;
      by_other_number = by_other_number;
      by_bytes = by_bytes;
      nobody_there = nobody_there;
      world_first = world_first;
    }
