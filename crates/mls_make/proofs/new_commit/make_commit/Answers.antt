use Rattle.std.proofs.Common.{◌≡◌, ◌^◌, List, Ok, Err, refl, sym, ap, subst, ◌∙◌, arith}
use Rattle.std.proofs.lemmas.Result.{err_from_is_err_and}
use Rattle.mls_leaf.specs.GroupExtensions.{group_extensions}
use Rattle.mls_leaf.specs.declared.extension.Extension.{Extension}
use Rattle.mls_public_group.specs.Faults.{number_of as number_of_group}
use Rattle.mls_public_group.specs.Short.{IsBelow}
use Rattle.mls_make.specs.CommitCall.{AreShortUsed}
use Rattle.mls_model.specs.Make.{carried_after, path_with}
use Rattle.mls_make.specs.Faults.{number_of}
use Rattle.mls_make.specs.OwnPath.{made_own_path}
use Rattle.mls_make.proofs.Steps.{path_fails, made_by_is}
use Rattle.mls_make.proofs.Steps.{edits_fail, edited_as, merged_as}
use Rattle.mls_make.proofs.LongList.{carried_below, long_list_fails, of_any, usable_below, usable_short}
use Rattle.mls_make.proofs.TwoSteps.{carried_as}
use Rattle.mls_make.proofs.new_commit.make_commit.Goals as goal

pub apply_proposals-requires : goal.apply_proposals-requires
apply_proposals-requires g c = usable_below c.args.used.now c.requires.used

pub returns-in_err-edits-clause-answer : goal.returns-in_err-edits-clause-answer
returns-in_err-edits-clause-answer g c =
    let p = err_from_is_err_and c.from_residual.result c.from_residual.ensures.1 in
    rw (p.1, p.2) (λ m speaks keys used other.
    edits_fail g.S.Suite.crypto m c.args.list c.args.used.now c.args.wants_path c.args.seed.now (number_of_group c.in_err-edits.field-0.0) (edited_as g.S.Suite.crypto m c.args.speaker.now c.args.used.now _ speaks (c.in_err-edits.ensures.answer other)))

pub returns-then-give_long_list-clause-answer : goal.returns-then-give_long_list-clause-answer
returns-then-give_long_list-clause-answer g c = λ m speaks keys used other.
    long_list_fails g.S.Suite.crypto g.met.S.Suite.lawful m c.args.list c.args.used.now c.args.wants_path c.args.seed.now c.in_ok-edits.edits (number_of c.refuse_long_list-refusal.result) used (sym c.give_long_list.ensures ∙ c.if-give_long_list.true)
    (edited_as g.S.Suite.crypto m c.args.speaker.now c.args.used.now _ speaks c.in_ok-edits.ensures.answer) (c.refuse_long_list-refusal.ensures m speaks keys other (carried_after m c.args.used.now))

pub own_path-requires-clause-extensions : goal.own_path-requires-clause-extensions
own_path-requires-clause-extensions g c =
    subst (IsBelow (2 ^ 27) group_extensions) (sym c.extensions_after-extensions.ensures) (carried_below c.args.speaker.now.group.now.context.extensions c.args.used.now c.is_short.ensures.context.extensions c.requires.used (sym c.give_long_list.ensures ∙ c.if-give_long_list.false))

pub returns-in_err-own-clause-answer : goal.returns-in_err-own-clause-answer
returns-in_err-own-clause-answer g c =
    let p = err_from_is_err_and c.from_residual-in_err-own.result c.from_residual-in_err-own.ensures.1 in
    rw (p.1, p.2) (λ m speaks keys used other.
    path_fails g.S.Suite.crypto m c.args.list c.args.used.now c.args.wants_path c.args.seed.now c.in_ok-edits.edits (edited_as g.S.Suite.crypto m c.args.speaker.now c.args.used.now _ speaks c.in_ok-edits.ensures.answer) (number_of c.in_err-own.field-0.0)
    (subst (λ (l : List Extension). path_with g.S.Suite.crypto m l c.in_ok-edits.edits c.args.used.now c.args.wants_path c.args.seed.now ≡ Err (number_of c.in_err-own.field-0.0)) (carried_as m c.args.speaker.now c.args.used.now c.extensions_after-extensions.result.now speaks c.extensions_after-extensions.ensures) (c.in_err-own.ensures.answer m speaks keys other)))

pub commit_from_path-requires-clause-used : goal.commit_from_path-requires-clause-used
commit_from_path-requires-clause-used g c = usable_short c.args.used.now c.requires.used (sym c.give_long_list.ensures ∙ c.if-give_long_list.false)

pub commit_from_path-requires-clause-extensions : goal.commit_from_path-requires-clause-extensions
commit_from_path-requires-clause-extensions g c =
    subst (IsBelow (2 ^ 27) group_extensions) (sym c.extensions_after-extensions.ensures) (carried_below c.args.speaker.now.group.now.context.extensions c.args.used.now c.is_short.ensures.context.extensions c.requires.used (sym c.give_long_list.ensures ∙ c.if-give_long_list.false))

pub commit_from_path-requires-clause-leaves : goal.commit_from_path-requires-clause-leaves
commit_from_path-requires-clause-leaves g c = λ used path. c.in_ok-own.ensures.leaves (2 ^ 27) (c.in_ok-edits.ensures.below (2 ^ 27) (omega arith) used) path

pub returns-clause-answer : goal.returns-clause-answer
returns-clause-answer g c = λ m speaks keys used.
    let edits = edited_as g.S.Suite.crypto m c.args.speaker.now c.args.used.now _ speaks c.in_ok-edits.ensures.answer in
    let path = subst (λ (l : List Extension). path_with g.S.Suite.crypto m l c.in_ok-edits.edits c.args.used.now c.args.wants_path c.args.seed.now ≡ Ok (made_own_path c.in_ok-own.own)) (carried_as m c.args.speaker.now c.args.used.now c.extensions_after-extensions.result.now speaks c.extensions_after-extensions.ensures) (c.in_ok-own.ensures.answer m speaks keys) in
    let leaf = c.in_ok-own.ensures.leaf (sym (ap (λ k. k.leaf) keys) ∙ speaks.leaf) ∙ sym speaks.leaf in
    rw (made_by_is g.S.Suite.crypto m c.args.list c.args.used.now c.args.wants_path c.args.seed.now c.in_ok-edits.edits edits (made_own_path c.in_ok-own.own) path)
    (c.commit_from_path.ensures m c.args.wants_path speaks (record {
      own = record { edits = edits; path = path; sends = rw speaks.leaf c.in_ok-own.ensures.secrets; keys_are = refl; leaf = leaf };
      merges = merged_as g.S.Suite.crypto m c.args.speaker.now c.in_ok-edits.edits c.in_ok-own.own.path _ speaks c.in_ok-own.ensures.apply_path_if;
    }))

pub returns-clause-short : goal.returns-clause-short
returns-clause-short g c = of_any (AreShortUsed c.args.used.now) c.commit_from_path.result (usable_short c.args.used.now c.requires.used (sym c.give_long_list.ensures ∙ c.if-give_long_list.false))
