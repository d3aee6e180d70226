-- How long the parts of a GroupInfo are.
use Rattle.std.proofs.Common.{◌≡◌, ℕ, ◌+◌, ◌<◌, List, ◌++◌, length, Option, Some, None, ap, subst, ◌∙◌, arith, length-append}
use Rattle.std.specs.Int.{w16, w32}
use Rattle.mls_wire.specs.Reading.{uint, header, opaque}
use Rattle.mls_leaf.specs.declared.node.Node.{Node}
use Rattle.mls_types.specs.GroupContext.{group_context}
use Rattle.mls_types.specs.GroupInfo.{group_info, group_info_extensions, group_info_tbs, GroupInfoTbsFits, ratchet_tree}
use Rattle.mls_types.specs.declared.group_info.GroupInfo.{GroupInfo}
use Rattle.mls_public_group.specs.Short.{IsBelow}

-- the parts of a GroupInfo are as short as it
pub record HasParts (n : ℕ) (v : GroupInfo) : Type 0 where
  pub context : IsBelow n group_context v.group_context
  pub tag : length v.confirmation_tag < n
  pub nodes : (xs : List (Option Node)) → v.ratchet_tree ≡ Some xs → IsBelow n ratchet_tree xs
  pub fits : GroupInfoTbsFits v
  pub below : length (group_info_tbs v) < n

nodes_below : (n : ℕ) (o : Option (List (Option Node))) → group_info_extensions.Fits o → length (group_info_extensions.spell o) < n
    → (xs : List (Option Node)) → o ≡ Some xs → IsBelow n ratchet_tree xs
unfolding group_info_extensions
nodes_below n None fits lt xs e = absurd cc
nodes_below n (Some ys) fits lt xs e =
    let text : List ℕ = ratchet_tree.spell ys in
    let inner : List ℕ = uint w16 2 ++ opaque text in
    let below : IsBelow n ratchet_tree ys = record { fits = fits.0.0; below = omega (arith, length-append (header (length inner)) inner, length-append (uint w16 2) (opaque text), length-append (header (length text)) text) } in
    let same : ys ≡ xs = cc in
    subst (λ (zs : List (Option Node)). IsBelow n ratchet_tree zs) same below

pub parts_below : (n : ℕ) (v : GroupInfo) → IsBelow n group_info v → HasParts n v
unfolding group_info
parts_below n v is =
    let a : List ℕ = group_context.spell v.group_context in
    let b : List ℕ = group_info_extensions.spell v.ratchet_tree in
    let t : List ℕ = v.confirmation_tag in
    let s : List ℕ = uint w32 v.signer in
    let g : List ℕ = opaque v.signature in
    let whole : length a + (length b + (length (header (length t)) + length t + (length s + length g))) < n =
    subst (λ (k : ℕ). k < n) (length-append a (b ++ (opaque t ++ (s ++ g))) ∙ ap (λ (k : ℕ). length a + k) (length-append b (opaque t ++ (s ++ g)) ∙ ap (λ (k : ℕ). length b + k) (length-append (opaque t) (s ++ g) ∙ ap (λ (k : ℕ). k + length (s ++ g)) (length-append (header (length t)) t) ∙ ap (λ (k : ℕ). length (header (length t)) + length t + k) (length-append s g)))) is.below in
    let signed : length (group_info_tbs v) < n = simp length-append (omega arith) in
    record {
      context = record { fits = is.fits.0; below = omega arith };
      tag = omega arith;
      nodes = nodes_below n v.ratchet_tree is.fits.1.0 (omega arith);
      fits = (is.fits.0, (is.fits.1.0, (is.fits.1.1.0, is.fits.1.1.1.0)));
      below = signed;
    }
