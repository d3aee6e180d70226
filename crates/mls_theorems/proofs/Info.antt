-- The GroupInfo of a next public state has a spelling.
use Rattle.std.proofs.Common.{ℕ, ◌<◌, ◌^◌, List, [], ◌∷◌, ◌++◌, length, Option, Some, None, lit<}
use Rattle.std.specs.List.{AllByRecursion, flat_map}
use Rattle.std.specs.Int.{w16, w32}
use Rattle.mls_wire.specs.Combine.{optional}
use Rattle.mls_wire.specs.Reading.{uint, opaque}
use Rattle.mls_leaf.specs.Node.{node}
use Rattle.mls_leaf.specs.declared.node.Node.{Node}
use Rattle.mls_types.specs.GroupContext.{group_context}
use Rattle.mls_types.specs.GroupInfo.{ratchet_tree, tree_extension, group_info_extensions, group_info}
use Rattle.mls_types.specs.declared.group_context.GroupContext.{GroupContext}
use Rattle.mls_types.specs.declared.group_info.GroupInfo.{GroupInfo}
use Rattle.mls_model.specs.MemberInvariant.{NodeFits}
use Rattle.mls_theorems.proofs.Fit.{short_first, short_last, short_text}

cell_fits : (o : Option Node) → NodeFits o → (optional node).Fits o
cell_fits None h = (lit< tt, tt)
cell_fits (Some n) h = (lit< tt, h)

cells_fit : (os : List (Option Node)) → AllByRecursion NodeFits os → AllByRecursion (optional node).Fits os
cells_fit [] h = tt
cells_fit (o ∷ os) h = (cell_fits o h.0, cells_fit os h.1)

tree_fits : (nodes : List (Option Node)) → AllByRecursion NodeFits nodes → length (group_info_extensions.spell (Some nodes)) < 2 ^ 30 → group_info_extensions.Fits (Some nodes)
unfolding group_info_extensions
tree_fits nodes h lt =
    let e1 : length (tree_extension.spell nodes) < 2 ^ 30 = short_text (tree_extension.spell nodes) _ lt in
    let e2 : length (opaque (ratchet_tree.spell nodes)) < 2 ^ 30 = short_last (uint w16 2) (opaque (ratchet_tree.spell nodes)) _ e1 in
    let e3 : length (ratchet_tree.spell nodes) < 2 ^ 30 = short_text (ratchet_tree.spell nodes) _ e2 in
    let e4 : length (flat_map (optional node).spell nodes) < 2 ^ 30 = short_text (flat_map (optional node).spell nodes) _ e3 in
    ((((cells_fit nodes h, e4), e3)), e1)

-- of a context and nodes that have one, where it is short
pub info_fits : (context : GroupContext) (nodes : List (Option Node)) (tag : List ℕ) (signer : ℕ) (signature : List ℕ) →
    let v : GroupInfo = record { group_context = context; ratchet_tree = Some nodes; confirmation_tag = tag; signer = signer; signature = signature } in
    group_context.Fits context → AllByRecursion NodeFits nodes → signer < 2 ^ 32 → length (group_info.spell v) < 2 ^ 30 → group_info.Fits v
unfolding group_info
info_fits context nodes tag signer signature c h s lt =
    let t3 : List ℕ = uint w32 signer ++ opaque signature in
    let t2 : List ℕ = opaque tag ++ t3 in
    let t1 : List ℕ = group_info_extensions.spell (Some nodes) ++ t2 in
    let l1 : length t1 < 2 ^ 30 = short_last (group_context.spell context) t1 _ lt in
    let l2 : length t2 < 2 ^ 30 = short_last (group_info_extensions.spell (Some nodes)) t2 _ l1 in
    let l3 : length t3 < 2 ^ 30 = short_last (opaque tag) t3 _ l2 in
    let tree = tree_fits nodes h (short_first (group_info_extensions.spell (Some nodes)) t2 _ l1) in
    (c, (tree, (short_text tag _ (short_first (opaque tag) t3 _ l2), (s, short_text signature _ (short_last (uint w32 signer) (opaque signature) _ l3)))))
