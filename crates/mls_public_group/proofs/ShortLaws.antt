-- What short contexts and proposals have.
use Rattle.std.proofs.Common.{◌≡◌, ℕ, ◌<◌, ◌≤◌, ◌^◌, true, List, [], ◌∷◌, ◌++◌, length, ap, arith, length-append, ◌+◌}
use Rattle.std.proofs.lemmas.Bool.{leb-true}
use Rattle.std.specs.Int.{w16}
use Rattle.std.specs.List.{cons_option, AllByRecursion}
use Rattle.mls_wire.specs.Format.{Format}
use Rattle.mls_wire.specs.Reading.{opaque, uint}
use Rattle.mls_leaf.specs.GroupExtensions.{are_allowed, group_extensions, is_short}
use Rattle.mls_leaf.specs.Inputs.{key_package_tbs}
use Rattle.mls_leaf.specs.Limits.{input_limit}
use Rattle.mls_leaf.proofs.GroupExtensionsLaws.{group_extensions-fits}
use Rattle.mls_leaf.proofs.InputLaws.{key_package-spelled}
use Rattle.mls_leaf.specs.KeyPackage.{key_package}
use Rattle.mls_leaf.specs.Leaf.{leaf_node}
use Rattle.mls_leaf.specs.Proposal.{proposal as proposal_format}
use Rattle.mls_leaf.specs.declared.extension.Extension.{Extension}
use Rattle.mls_leaf.specs.declared.key_package.KeyPackage.{KeyPackage}
use Rattle.mls_leaf.specs.declared.leaf.LeafNode.{LeafNode}
use Rattle.mls_leaf.specs.declared.proposal.Proposal.{Proposal}
use Rattle.mls_leaf.specs.declared.proposal.Proposal.TheVariants.{Add, Update, Remove, GroupContextExtensions}
use Rattle.mls_types.specs.GroupContext.{group_context}
use Rattle.mls_types.specs.declared.group_context.GroupContext.{GroupContext}
use Rattle.mls_tree_model.proofs.LengthLaws.{length-tree_hash}
use Rattle.mls_tree_model.specs.Term.{Term}
use Rattle.mls_checks.specs.Short.{IsShort}
use Rattle.mls_model.specs.PublicState.{Used, provisional_context}
use Rattle.mls_model.specs.Proposals.{update_in, add_in, extensions_in, updates, adds, extension_lists, first_list, extensions_after}
use Rattle.mls_public_group.specs.Short.{AreBelow, IsBelow, IsProposalBelow, IsShortContext}
use Rattle.mls_public_group.proofs.Lengths.{context_length}

-- a short context has a spelling
pub context_fits : (context : GroupContext) → IsShortContext context → group_context.Fits context
unfolding group_context
context_fits context s = (s.suite, (omega (arith, s.group_id), (s.epoch, (omega (arith, s.tree_hash), (omega (arith, s.confirmed), s.extensions.fits)))))

-- and it is short
pub context_short : (context : GroupContext) → IsShortContext context → length (group_context.spell context) < 2 ^ 30
context_short context s = omega (arith, context_length context s.group_id s.tree_hash s.confirmed s.extensions.below)

-- so is the next epoch's with short extensions, as long as its transcript is the old one
pub short_provisional : (old : GroupContext) (list : List Extension) (t : Term) → IsShortContext old → IsBelow (2 ^ 27) group_extensions list → old.epoch + 1 < 2 ^ 64 → IsShortContext (provisional_context old list t)
unfolding provisional_context
short_provisional old list t short below low =
    record {
      suite = short.suite;
      epoch = low;
      group_id = short.group_id;
      tree_hash = omega (arith, length-tree_hash 0 t);
      confirmed = short.confirmed;
      extensions = below;
    }

-- ---- bounds

pub below_more : {V : Type 0} (format : Format V) (m n : ℕ) (v : V) → m ≤ n → IsBelow m format v → IsBelow n format v
below_more format m n v le h = record { fits = h.fits; below = omega (arith, h.below) }

pub short_below : {V : Type 0} (format : Format V) (v : V) → IsBelow (2 ^ 28) format v → IsShort format v
short_below format v h = record { fits = h.fits; short = h.below }

-- ---- of a proposal

module _ (n : ℕ) where
  pub add_below : (x : KeyPackage) → IsBelow n proposal_format (Add x) → IsBelow n key_package x
  unfolding proposal_format
  add_below x h = record { fits = h.fits.1; below = omega (arith, h.below, length-append (uint w16 1) (key_package.spell x)) }

  pub update_below : (x : LeafNode) → IsBelow n proposal_format (Update x) → IsBelow n leaf_node x
  unfolding proposal_format
  update_below x h = record { fits = h.fits.1; below = omega (arith, h.below, length-append (uint w16 2) (leaf_node.spell x)) }

  pub package_below : (x : KeyPackage) → IsBelow n key_package x → IsBelow n leaf_node x.leaf_node
  unfolding key_package key_package_tbs
  package_below x h = record {
    fits = h.fits.1.1.0;
    below = inside (uint w16 1) (uint w16 x.cipher_suite) (opaque x.init_key) (leaf_node.spell x.leaf_node) (opaque []) (opaque x.signature) (key_package.spell x) (key_package-spelled x) h.below;
  }
    where
      inside : (a b c d e f whole : List ℕ) → whole ≡ (a ++ b ++ c ++ d ++ e) ++ f → length whole < n → length d < n
      inside a b c d e f whole is lt =
          omega (arith, ap length is, length-append (a ++ b ++ c ++ d ++ e) f, length-append (a ++ b ++ c ++ d) e, length-append (a ++ b ++ c) d)

-- ---- of the proposals of a commit

module _ (n : ℕ) where
  update_here : (u : Used) (p : Proposal) (ys : List (ℕ × LeafNode)) → IsProposalBelow n p → AllByRecursion (λ (v : ℕ × LeafNode). IsBelow n leaf_node v.1) ys → AllByRecursion (λ (v : ℕ × LeafNode). IsBelow n leaf_node v.1) (cons_option (update_in u p) ys)
  update_here u (Add x) ys b h = h
  update_here u (Update x) ys b h = (update_below n x b, h)
  update_here u (Remove i) ys b h = h
  update_here u (GroupContextExtensions list) ys b h = h

  pub updates_below : (used : List Used) → AreBelow n used → AllByRecursion (λ (v : ℕ × LeafNode). IsBelow n leaf_node v.1) (updates used)
  unfolding updates
  updates_below [] h = tt
  updates_below (u ∷ us) h = update_here u u.proposal (updates us) h.0 (updates_below us h.1)

  add_here : (p : Proposal) (ys : List KeyPackage) → IsProposalBelow n p → AllByRecursion (λ (x : KeyPackage). IsBelow n leaf_node x.leaf_node) ys → AllByRecursion (λ (x : KeyPackage). IsBelow n leaf_node x.leaf_node) (cons_option (add_in p) ys)
  add_here (Add x) ys b h = (package_below n x (add_below n x b), h)
  add_here (Update x) ys b h = h
  add_here (Remove i) ys b h = h
  add_here (GroupContextExtensions list) ys b h = h

  pub adds_below : (used : List Used) → AreBelow n used → AllByRecursion (λ (x : KeyPackage). IsBelow n leaf_node x.leaf_node) (adds used)
  unfolding adds
  adds_below [] h = tt
  adds_below (u ∷ us) h = add_here u.proposal (adds us) h.0 (adds_below us h.1)

-- ---- of proposals that were received, whose lists of extensions are short as well

module _ (n : ℕ) where
  pub proposal_below : (p : Proposal) → IsBelow n proposal_format p → IsProposalBelow n p
  proposal_below (Add x) h = h
  proposal_below (Update x) h = h
  proposal_below (Remove i) h = h
  proposal_below (GroupContextExtensions list) h = tt

  pub used_below : (used : List Used) → AllByRecursion (λ (u : Used). IsBelow n proposal_format u.proposal) used → AreBelow n used
  used_below [] h = tt
  used_below (u ∷ us) h = (proposal_below u.proposal h.0, used_below us h.1)

  pub list_below : (x : List Extension) → IsBelow n proposal_format (GroupContextExtensions x) → IsBelow n group_extensions x
  unfolding proposal_format
  list_below x h = record { fits = h.fits.1; below = omega (arith, h.below, length-append (uint w16 7) (group_extensions.spell x)) }

  extended_here : (old : List Extension) (p : Proposal) (lists : List (List Extension)) → IsBelow n proposal_format p → IsBelow n group_extensions (first_list old lists) → IsBelow n group_extensions (first_list old (cons_option (extensions_in p) lists))
  extended_here old (Add x) lists b h = h
  extended_here old (Update x) lists b h = h
  extended_here old (Remove i) lists b h = h
  extended_here old (GroupContextExtensions list) lists b h = list_below list b

  -- the list that a group carries after them is as short as they and the old one
  pub extended_below : (old : List Extension) (used : List Used) → IsBelow n group_extensions old → AllByRecursion (λ (u : Used). IsBelow n proposal_format u.proposal) used → IsBelow n group_extensions (extensions_after old used)
  unfolding extensions_after extension_lists
  extended_below old [] h all = h
  extended_below old (u ∷ us) h all = extended_here old u.proposal (extension_lists us) all.0 (extended_below old us h all.1)

-- a list that fits into an input is short
pub short_list : (vs : List Extension) → are_allowed vs ≡ true → is_short vs ≡ true → IsBelow (2 ^ 27) group_extensions vs
short_list vs may short =
    let le : length (group_extensions.spell vs) ≤ input_limit = leb-true _ _ short in
    record { fits = group_extensions-fits vs may (omega (arith, le)); below = omega (arith, le) }
