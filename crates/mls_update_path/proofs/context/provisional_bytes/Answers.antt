use Rattle.std.proofs.Common.{◌∙◌, ap, sym, subst}
use Rattle.mls_types.specs.GroupContext.{group_context}
use Rattle.mls_tree.specs.Tree.{term}
use Rattle.mls_public_group.specs.Short.{IsShortContext}
use Rattle.mls_public_group.proofs.ShortLaws.{short_provisional}
use Rattle.mls_update_path.proofs.context.provisional_bytes.Goals as goal

pub context_spelling-requires : goal.context_spelling-requires
context_spelling-requires c =
    subst IsShortContext (sym (c.in_ok-context.ensures (term c.args.tree.now) c.tree_hash-hash.ensures.value)) (short_provisional c.args.old.now c.args.extensions.now (term c.args.tree.now) c.requires.short c.requires.extensions c.requires.epoch)

pub returns-clause-bytes : goal.returns-clause-bytes
returns-clause-bytes c =
    c.in_ok-bytes.ensures.spelled ∙ ap group_context.spell (c.in_ok-context.ensures (term c.args.tree.now) c.tree_hash-hash.ensures.value)
