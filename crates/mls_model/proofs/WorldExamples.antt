-- Small worlds, worked out.
use Rattle.std.proofs.Common.{◌≡◌, ℕ, true, List, refl}
use Rattle.std.specs.Str.{bytes_eq}
use Rattle.std.proofs.lemmas.Slice.Eq.{bytes_eq-Decides}
use Rattle.mls_leaf.specs.KeyPackage.{key_package}
use Rattle.mls_model.specs.HomemadeTest.{are_same_bytes, are_same_entries, reached_epochs, is_homemade_from, is_homemade}
use Rattle.mls_model.specs.World.{empty_world, entrant_at, package_of, commit_for_joiner}
use Rattle.mls_model.specs.WorldCalls.{create_answer, propose_add_answer, propose_update_answer, drop_answer, deliver_answer, join_answer}
use Rattle.mls_model.specs.Run.{answer, step, replies}
use Rattle.mls_model.specs.WorldExamples.{CreationIsHomemade, NotMadeHere, MadeLater, MadeAgain, MadeOtherwise, MadeElsewhere, MadeBehind, ByNumber, ByOtherNumber, ByBytes, NobodyThere, WorldFirst}

pub creation_is_homemade : CreationIsHomemade
unfolding is_homemade is_homemade_from
creation_is_homemade = refl

pub not_made_here : NotMadeHere
unfolding is_homemade is_homemade_from reached_epochs
not_made_here = refl

pub made_later : MadeLater
unfolding is_homemade is_homemade_from reached_epochs are_same_entries are_same_bytes
made_later = refl

pub made_again : MadeAgain
unfolding is_homemade is_homemade_from reached_epochs are_same_entries are_same_bytes
made_again = refl

pub made_otherwise : MadeOtherwise
unfolding is_homemade is_homemade_from reached_epochs are_same_entries are_same_bytes
made_otherwise = refl

pub made_elsewhere : MadeElsewhere
unfolding is_homemade is_homemade_from reached_epochs are_same_entries are_same_bytes
made_elsewhere = refl

pub made_behind : MadeBehind
unfolding is_homemade is_homemade_from reached_epochs are_same_entries are_same_bytes
made_behind = refl

same : (xs : List ℕ) → bytes_eq xs xs ≡ true
same xs = (bytes_eq-Decides xs xs).1 refl

pub by_number : ByNumber
unfolding commit_for_joiner
by_number k bytes = rw (same (key_package.spell k.offered)) refl

pub by_other_number : ByOtherNumber
unfolding commit_for_joiner
by_other_number k bytes = refl

pub by_bytes : ByBytes
unfolding commit_for_joiner
by_bytes k bytes = rw (same (key_package.spell k.offered), same bytes.items) refl

pub nobody_there : NobodyThere
unfolding replies step answer deliver_answer join_answer create_answer drop_answer propose_update_answer entrant_at empty_world
nobody_there c seed group = refl

pub world_first : WorldFirst
unfolding replies step answer deliver_answer join_answer propose_add_answer entrant_at package_of
world_first c k s = refl
