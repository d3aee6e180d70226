use Rattle.std.proofs.Common.{◌≡◌, ℕ, List, Some, refl, ap, ap₂, sym, ◌∙◌}
use Rattle.std.proofs.lemmas.Result.{err_from_is_err_and}
use Rattle.mls_checks.specs.Checks.{replacement_checks}
use Rattle.mls_checks.specs.declared.checks.LeafUse.TheVariants as replaced_for
use Rattle.mls_tree_model.specs.Term.{Term, leaf_of}
use Rattle.mls_tree_model.specs.Merge.{path_parent_hash}
use Rattle.mls_tree.specs.Tree.{term}
use Rattle.mls_tree.specs.Paths.{merge_answer}
use Rattle.mls_tree.proofs.Drafting.{draft_for}
use Rattle.mls_treekem_model.specs.Seeds.{path_seed}
use Rattle.mls_model.specs.Candidate.{leaf_key_of}
use Rattle.mls_update_path.specs.Faults.{number_of}
use Rattle.mls_update_path.specs.Parts.{path_public_keys, leaf_by_key, leaf_with}
use Rattle.mls_update_path.proofs.Merges.{hash_short, keys_are, hash_of, leaf_is, leaf_key_is, leaf_fails}
use Rattle.mls_update_path.proofs.Outcomes.{answers, short, keys}
use Rattle.mls_update_path.proofs.path.merge_new_path.Goals as goal

pub make_checked_leaf-requires-clause-hash : goal.make_checked_leaf-requires-clause-hash
make_checked_leaf-requires-clause-hash g c = rw (c.in_ok-hash.ensures.bytes, c.parent_hash.ensures, c.in_ok-draft.ensures.draft.hash) (hash_short _ _ _)

pub make_checked_leaf-requires-clause-key : goal.make_checked_leaf-requires-clause-key
make_checked_leaf-requires-clause-key g c = (leaf_key_of g.S.Suite.crypto c.args.seed.now, c.in_ok-pair.ensures.public)

pub merge_leaf_and_keys-requires : goal.merge_leaf_and_keys-requires
merge_leaf_and_keys-requires g c = draft_for (term c.in_ok-tree.tree) (term c.draft_path.new.tree) c.args.index c.in_ok-public.public.items c.in_ok-draft.draft c.in_ok-draft.ensures.same c.in_ok-draft.ensures.draft

pub returns-in_err-leaf-clause-answer : goal.returns-in_err-leaf-clause-answer
returns-in_err-leaf-clause-answer g c =
    let p = err_from_is_err_and c.from_residual-in_err-leaf.result c.from_residual-in_err-leaf.ensures.1 in
    let at : leaf_of c.args.group.now.tree c.args.index ≡ Some c.in-Some.old.now = ap (λ t. leaf_of t c.args.index) (sym c.tree.ensures) ∙ sym c.in-Some.ensures in
    let hash : c.in_ok-hash.hash ≡ path_parent_hash (term c.args.edited.now) c.args.index (path_public_keys g.S.Suite.crypto c.args.index (term c.args.edited.now) c.args.seed.now) =
    hash_of g.S.Suite.crypto (term c.args.edited.now) (term c.in_ok-tree.tree) c.args.index c.args.seed.now c.in_ok-made.made.secrets c.in_ok-public.public.items c.in_ok-public.public.items _ (ap term c.in_ok-tree.ensures.cases) c.in_ok-made.ensures.chain c.in_ok-public.ensures refl (c.in_ok-hash.ensures.bytes ∙ c.parent_hash.ensures ∙ c.in_ok-draft.ensures.draft.hash) in
    let is : leaf_by_key g.S.Suite.crypto c.args.signing.now c.args.group.now.context.group_id c.args.index c.in-Some.old.now c.in_ok-hash.hash c.in_ok-pair.pair.pk.items ≡ leaf_with g.S.Suite.crypto c.args.signing.now c.args.group.now.context.group_id c.args.index (term c.args.edited.now) c.in-Some.old.now c.args.seed.now =
    ap (leaf_by_key g.S.Suite.crypto c.args.signing.now c.args.group.now.context.group_id c.args.index c.in-Some.old.now c.in_ok-hash.hash) c.in_ok-pair.ensures.public
    ∙ leaf_is g.S.Suite.crypto c.args.signing.now c.args.index (term c.args.edited.now) c.in-Some.old.now c.args.seed.now _ _ _ _ refl hash refl in
    rw (p.1, p.2) (λ other.
    leaf_fails g.S.Suite.crypto c.args.group.now c.args.signing.now c.args.index (term c.args.edited.now) c.args.seed.now c.in-Some.old.now _ at is (number_of c.in_err-leaf.field-0.0) (c.in_err-leaf.ensures.checks other))

pub returns-clause-answer : goal.returns-clause-answer
returns-clause-answer g c =
    let at : leaf_of c.args.group.now.tree c.args.index ≡ Some c.in-Some.old.now = ap (λ t. leaf_of t c.args.index) (sym c.tree.ensures) ∙ sym c.in-Some.ensures in
    let hash : c.in_ok-hash.hash ≡ path_parent_hash (term c.args.edited.now) c.args.index (path_public_keys g.S.Suite.crypto c.args.index (term c.args.edited.now) c.args.seed.now) =
    hash_of g.S.Suite.crypto (term c.args.edited.now) (term c.in_ok-tree.tree) c.args.index c.args.seed.now c.in_ok-made.made.secrets c.in_ok-public.public.items c.in_ok-public.public.items _ (ap term c.in_ok-tree.ensures.cases) c.in_ok-made.ensures.chain c.in_ok-public.ensures refl (c.in_ok-hash.ensures.bytes ∙ c.parent_hash.ensures ∙ c.in_ok-draft.ensures.draft.hash) in
    let is : c.in_ok-leaf.leaf ≡ leaf_with g.S.Suite.crypto c.args.signing.now c.args.group.now.context.group_id c.args.index (term c.args.edited.now) c.in-Some.old.now c.args.seed.now =
    leaf_is g.S.Suite.crypto c.args.signing.now c.args.index (term c.args.edited.now) c.in-Some.old.now c.args.seed.now _ _ _ _ refl hash (c.in_ok-leaf.ensures.leaf ∙ ap (leaf_by_key g.S.Suite.crypto c.args.signing.now c.args.group.now.context.group_id c.args.index c.in-Some.old.now c.in_ok-hash.hash) c.in_ok-pair.ensures.public) in
    let made : c.in_ok-public.public.items ≡ path_public_keys g.S.Suite.crypto c.args.index (term c.args.edited.now) c.args.seed.now =
    keys_are g.S.Suite.crypto (term c.args.edited.now) c.args.index (path_seed c.args.seed.now) c.in_ok-made.made.secrets c.in_ok-public.public.items c.in_ok-made.ensures.chain c.in_ok-public.ensures in
    let tree : term c.draft_path.new.tree ≡ term c.args.edited.now = c.in_ok-draft.ensures.same ∙ ap term c.in_ok-tree.ensures.cases in
    answers (λ x. x.leaf) (λ x. term x.tree) (λ x. x.keys) number_of g.S.Suite.crypto c.args.group.now c.args.signing.now c.args.index (term c.args.edited.now) c.args.seed.now c.in_ok-leaf.leaf _ (ap (λ (j : ℕ). merge_answer (term c.draft_path.new.tree) j c.in_ok-leaf.leaf c.in_ok-draft.draft.keys) c.in_ok-draft.ensures.draft.index ∙ ap₂ (λ (u : Term) (ks : List (List ℕ)). merge_answer u c.args.index c.in_ok-leaf.leaf ks) tree (c.in_ok-draft.ensures.draft.keys ∙ made))
    c.in-Some.old.now _ at is (ap (λ l. replacement_checks g.S.Suite.crypto l c.in-Some.old.now replaced_for.Commit c.args.group.now.context.group_id c.args.index) c.in_ok-leaf.ensures.leaf ∙ c.in_ok-leaf.ensures.checks) c.merge_leaf_and_keys.ensures.answer c.merge_leaf_and_keys.ensures.leaf

pub returns-clause-short : goal.returns-clause-short
returns-clause-short g c =
    let made : c.in_ok-public.public.items ≡ path_public_keys g.S.Suite.crypto c.args.index (term c.args.edited.now) c.args.seed.now =
    keys_are g.S.Suite.crypto (term c.args.edited.now) c.args.index (path_seed c.args.seed.now) c.in_ok-made.made.secrets c.in_ok-public.public.items c.in_ok-made.ensures.chain c.in_ok-public.ensures in
    let tree : term c.draft_path.new.tree ≡ term c.args.edited.now = c.in_ok-draft.ensures.same ∙ ap term c.in_ok-tree.ensures.cases in
    short (λ x. x.leaf) (λ x. term x.tree) (λ x. x.keys) number_of g.S.Suite.crypto c.args.group.now c.args.signing.now c.args.index (term c.args.edited.now) c.args.seed.now c.in_ok-leaf.leaf _ (ap (λ (j : ℕ). merge_answer (term c.draft_path.new.tree) j c.in_ok-leaf.leaf c.in_ok-draft.draft.keys) c.in_ok-draft.ensures.draft.index ∙ ap₂ (λ (u : Term) (ks : List (List ℕ)). merge_answer u c.args.index c.in_ok-leaf.leaf ks) tree (c.in_ok-draft.ensures.draft.keys ∙ made))
    _ c.merge_leaf_and_keys.ensures.answer c.merge_leaf_and_keys.ensures.leaf

pub returns-clause-keys : goal.returns-clause-keys
returns-clause-keys g c =
    let hash : c.in_ok-hash.hash ≡ path_parent_hash (term c.args.edited.now) c.args.index (path_public_keys g.S.Suite.crypto c.args.index (term c.args.edited.now) c.args.seed.now) =
    hash_of g.S.Suite.crypto (term c.args.edited.now) (term c.in_ok-tree.tree) c.args.index c.args.seed.now c.in_ok-made.made.secrets c.in_ok-public.public.items c.in_ok-public.public.items _ (ap term c.in_ok-tree.ensures.cases) c.in_ok-made.ensures.chain c.in_ok-public.ensures refl (c.in_ok-hash.ensures.bytes ∙ c.parent_hash.ensures ∙ c.in_ok-draft.ensures.draft.hash) in
    let is : c.in_ok-leaf.leaf ≡ leaf_with g.S.Suite.crypto c.args.signing.now c.args.group.now.context.group_id c.args.index (term c.args.edited.now) c.in-Some.old.now c.args.seed.now =
    leaf_is g.S.Suite.crypto c.args.signing.now c.args.index (term c.args.edited.now) c.in-Some.old.now c.args.seed.now _ _ _ _ refl hash (c.in_ok-leaf.ensures.leaf ∙ ap (leaf_by_key g.S.Suite.crypto c.args.signing.now c.args.group.now.context.group_id c.args.index c.in-Some.old.now c.in_ok-hash.hash) c.in_ok-pair.ensures.public) in
    let made : c.in_ok-public.public.items ≡ path_public_keys g.S.Suite.crypto c.args.index (term c.args.edited.now) c.args.seed.now =
    keys_are g.S.Suite.crypto (term c.args.edited.now) c.args.index (path_seed c.args.seed.now) c.in_ok-made.made.secrets c.in_ok-public.public.items c.in_ok-made.ensures.chain c.in_ok-public.ensures in
    let tree : term c.draft_path.new.tree ≡ term c.args.edited.now = c.in_ok-draft.ensures.same ∙ ap term c.in_ok-tree.ensures.cases in
    keys (λ x. x.leaf) (λ x. term x.tree) (λ x. x.keys) number_of g.S.Suite.crypto c.args.group.now c.args.signing.now c.args.index (term c.args.edited.now) c.args.seed.now c.in_ok-leaf.leaf _ (ap (λ (j : ℕ). merge_answer (term c.draft_path.new.tree) j c.in_ok-leaf.leaf c.in_ok-draft.draft.keys) c.in_ok-draft.ensures.draft.index ∙ ap₂ (λ (u : Term) (ks : List (List ℕ)). merge_answer u c.args.index c.in_ok-leaf.leaf ks) tree (c.in_ok-draft.ensures.draft.keys ∙ made))
    c.in_ok-made.made.keys _
    (leaf_key_is g.S.Suite.crypto c.args.signing.now c.args.index (term c.args.edited.now) c.in-Some.old.now c.args.seed.now c.args.group.now.context.group_id c.in_ok-leaf.leaf is)
    c.in_ok-made.ensures.leaf c.in_ok-made.ensures.keys c.merge_leaf_and_keys.ensures.answer c.merge_leaf_and_keys.ensures.keys
