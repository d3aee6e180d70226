use Rattle.std.proofs.Common.{◌≡◌, ℕ, List, refl, ap, sym, subst, ◌∙◌}
use Rattle.std.proofs.lemmas.Result.{err_from_is_err_and}
use Rattle.mls_tree_model.specs.Term.{Term}
use Rattle.mls_tree.specs.Tree.{term}
use Rattle.mls_treekem_model.specs.Keys.{all_keys}
use Rattle.mls_treekem_model.specs.Seeds.{path_seed}
use Rattle.mls_model.specs.Candidate.{leaf_key_of}
use Rattle.mls_model.specs.Commit.{Edits}
use Rattle.mls_public_group.specs.Short.{HasLeavesBelow}
use Rattle.mls_treekem.specs.Faults.{number_of as number_of_keys}
use Rattle.mls_update_path.specs.Faults.{number_of}
use Rattle.mls_update_path.specs.Parts.{provisional_bytes}
use Rattle.mls_update_path.proofs.Seals.{is_path_of, path_fails, seals_fail, seals, climb_is, received}
use Rattle.mls_update_path.proofs.path.new_path.Goals as goal

-- the edits with this tree
abbrev edits_with : Term → List ℕ → Edits
edits_with t added = record { tree = t; added = added }

pub returns-in_err-made-clause-answer : goal.returns-in_err-made-clause-answer
returns-in_err-made-clause-answer g c =
    let p = err_from_is_err_and c.from_residual.result c.from_residual.ensures.1 in
    let e : Edits = record { tree = term c.as_tree-edited.result.now; added = c.edits.inside.added.items } in
    let is : e ≡ c.args.edits.now = ap (λ (t : Term). edits_with t c.edits.inside.added.items) (ap term c.as_tree-edited.ensures.tree) ∙ c.edits.view_is in
    rw (p.1, p.2) (λ m public signs at other.
    is_path_of g.S.Suite.crypto m c.args.extensions.now e c.args.edits.now c.args.group.now c.args.signing.now c.args.index c.args.seed.now is public signs at
    ∙ path_fails g.S.Suite.crypto c.args.group.now c.args.signing.now c.args.index c.args.extensions.now e c.args.seed.now (number_of c.in_err-made.field-0.0) (c.in_err-made.ensures.answer other))

pub returns-in_err-context-clause-answer : goal.returns-in_err-context-clause-answer
returns-in_err-context-clause-answer g c =
    let p = err_from_is_err_and c.from_residual-in_err-context.result c.from_residual-in_err-context.ensures.1 in
    rw (p.1, p.2) (λ m public signs at other. absurd (other refl))

pub returns-in_err-nodes-clause-answer : goal.returns-in_err-nodes-clause-answer
returns-in_err-nodes-clause-answer g c =
    let p = err_from_is_err_and c.from_residual-in_err-nodes.result c.from_residual-in_err-nodes.ensures.1 in
    let e : Edits = record { tree = term c.as_tree-edited.result.now; added = c.edits.inside.added.items } in
    let is : e ≡ c.args.edits.now = ap (λ (t : Term). edits_with t c.edits.inside.added.items) (ap term c.as_tree-edited.ensures.tree) ∙ c.edits.view_is in
    rw (p.1, p.2) (λ m public signs at other.
    is_path_of g.S.Suite.crypto m c.args.extensions.now e c.args.edits.now c.args.group.now c.args.signing.now c.args.index c.args.seed.now is public signs at
    ∙ seals_fail g.S.Suite.crypto c.args.group.now c.args.signing.now c.args.index c.args.extensions.now e c.args.seed.now c.in_ok-made.made.leaf (term c.in_ok-made.made.tree) c.in_ok-made.ensures.answer c.deref-2.result.now c.deref.result.now
    (c.deref-2.ensures.value ∙ c.in_ok-context.ensures.bytes ∙ ap (λ x. provisional_bytes x c.args.extensions.now (term c.in_ok-made.made.tree)) c.context.ensures) c.deref.ensures.value (number_of_keys c.in_err-nodes.field-0.0)
    (c.in_err-nodes.ensures.chain (path_seed c.args.seed.now) c.in_ok-made.ensures.chain other))

pub returns-clause-answer : goal.returns-clause-answer
returns-clause-answer g c =
    let e : Edits = record { tree = term c.as_tree-edited.result.now; added = c.edits.inside.added.items } in
    let is : e ≡ c.args.edits.now = ap (λ (t : Term). edits_with t c.edits.inside.added.items) (ap term c.as_tree-edited.ensures.tree) ∙ c.edits.view_is in
    λ m public signs at.
    is_path_of g.S.Suite.crypto m c.args.extensions.now e c.args.edits.now c.args.group.now c.args.signing.now c.args.index c.args.seed.now is public signs at
    ∙ seals g.S.Suite.crypto c.args.group.now c.args.signing.now c.args.index c.args.extensions.now e c.args.seed.now c.in_ok-made.made.leaf (term c.in_ok-made.made.tree) c.in_ok-made.ensures.answer c.deref-2.result.now c.deref.result.now
    (c.deref-2.ensures.value ∙ c.in_ok-context.ensures.bytes ∙ ap (λ x. provisional_bytes x c.args.extensions.now (term c.in_ok-made.made.tree)) c.context.ensures) c.deref.ensures.value c.in_ok-nodes.nodes.items c.from_vec.result (record { secret = c.in_ok-made.made.secrets.commit_secret; keys = all_keys c.in_ok-made.made.keys })
    (c.in_ok-nodes.ensures.chain (path_seed c.args.seed.now) c.in_ok-made.ensures.chain) c.from_vec.ensures
    (climb_is g.S.Suite.crypto (term c.as_tree-edited.result.now) c.args.index (path_seed c.args.seed.now) (leaf_key_of g.S.Suite.crypto c.args.seed.now) c.in_ok-made.made.secrets (all_keys c.in_ok-made.made.keys) c.in_ok-made.ensures.chain c.in_ok-made.ensures.keys)

pub returns-clause-received : goal.returns-clause-received
returns-clause-received g c =
    let e : Edits = record { tree = term c.as_tree-edited.result.now; added = c.edits.inside.added.items } in
    let is : e ≡ c.args.edits.now = ap (λ (t : Term). edits_with t c.edits.inside.added.items) (ap term c.as_tree-edited.ensures.tree) ∙ c.edits.view_is in
    received g.S.Suite.crypto g.met.S.Suite.lawful c.args.group.now c.args.signing.now c.args.index e c.args.edits.now c.args.seed.now c.in_ok-made.made.leaf (term c.in_ok-made.made.tree) (term c.provisional_bytes.new.tree) c.deref-2.result.now c.deref.result.now
    c.in_ok-nodes.nodes.items c.from_vec.result is c.in_ok-made.ensures.answer c.in_ok-context.ensures.same c.deref.ensures.value (c.in_ok-nodes.ensures.chain (path_seed c.args.seed.now) c.in_ok-made.ensures.chain) c.from_vec.ensures

pub returns-clause-short : goal.returns-clause-short
returns-clause-short g c =
    λ n has below.
    subst (HasLeavesBelow n) (sym c.in_ok-context.ensures.same)
    (c.in_ok-made.ensures.short n (subst (HasLeavesBelow n) (sym (ap term c.as_tree-edited.ensures.tree)) (subst (λ (e : Edits). HasLeavesBelow n e.tree) (sym c.edits.view_is) has)) below)
