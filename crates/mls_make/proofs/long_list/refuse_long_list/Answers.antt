use Rattle.std.proofs.Common.{◌^◌, sym, subst}
use Rattle.mls_leaf.specs.GroupExtensions.{group_extensions}
use Rattle.mls_types.specs.declared.group_context.GroupContext.{GroupContext}
use Rattle.mls_public_group.specs.Short.{IsBelow}
use Rattle.mls_make.specs.Faults.{number_of}
use Rattle.mls_make.proofs.LongList.{path_refused, path_made}
use Rattle.mls_make.proofs.long_list.refuse_long_list.Goals as goal

pub returns : goal.returns
returns g c = λ m speaks keys other carried.
    path_made g.S.Suite.crypto g.met.S.Suite.lawful m _ carried c.args.edits.now c.args.used.now c.args.wants_path c.args.seed.now _ (c.in-Ok.ensures.answer m speaks keys)

pub returns-in-Err : goal.returns-in-Err
returns-in-Err g c = λ m speaks keys other carried.
    path_refused g.S.Suite.crypto g.met.S.Suite.lawful m _ carried c.args.edits.now c.args.used.now c.args.wants_path c.args.seed.now (number_of c.in-Err.error) (c.in-Err.ensures.answer m speaks keys other)

pub own_path-requires-clause-extensions : goal.own_path-requires-clause-extensions
own_path-requires-clause-extensions g c = subst (λ (x : GroupContext). IsBelow (2 ^ 27) group_extensions x.extensions) (sym c.context.ensures) c.is_short.ensures.context.extensions
