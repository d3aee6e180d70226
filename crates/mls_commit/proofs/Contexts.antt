-- The contexts that a commit makes are short.
use Rattle.std.proofs.Common.{◌≡◌, ℕ, List, length, arith}
use Rattle.mls_types.specs.declared.group_context.GroupContext.{GroupContext}
use Rattle.mls_model.specs.PublicState.{confirmed_context}
use Rattle.mls_public_group.specs.Short.{IsShortContext}

pub short_confirmed : (old : GroupContext) (hash : List ℕ) → IsShortContext old → length hash ≡ 32 → IsShortContext (confirmed_context old hash)
unfolding confirmed_context
short_confirmed old hash short long =
    record {
      suite = short.suite;
      epoch = short.epoch;
      group_id = short.group_id;
      tree_hash = short.tree_hash;
      confirmed = omega (arith, long);
      extensions = short.extensions;
    }
