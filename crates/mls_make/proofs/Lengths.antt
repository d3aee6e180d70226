-- How long the parts of a commit are, and how many seals it has: its content bounds them.
use Rattle.std.proofs.Common.{◌≡◌, ℕ, ◌+◌, ◌<◌, ◌≤◌, ◌^◌, false, List, [], ◌∷◌, ◌++◌, length, zip, Option, Some, None, Ok, sym, ap, subst, arith, length-append}
use Rattle.std.specs.Prelude.{IfSome}
use Rattle.std.specs.Int.{w8}
use Rattle.std.specs.List.{cons_option, flat_map}
use Rattle.std.proofs.lemmas.Slice.Zip.{length-zip}
use Rattle.mls_wire.specs.Checks.{require_some}
use Rattle.mls_wire.proofs.CheckLaws.{bind_ok}
use Rattle.mls_wire.specs.Combine.{vector, optional, byte_string, uint64}
use Rattle.mls_wire.specs.Laws.{ok_is}
use Rattle.mls_wire.specs.Reading.{uint, header, opaque}
use Rattle.mls_leaf.specs.Leaf.{leaf_node}
use Rattle.mls_leaf.specs.Limits.{input_limit}
use Rattle.mls_leaf.specs.Nonempty.{header_nonempty}
use Rattle.mls_leaf.specs.Proposal.{proposal}
use Rattle.mls_leaf.specs.declared.key_package.KeyPackage.{KeyPackage}
use Rattle.mls_leaf.specs.declared.proposal.Proposal as proposals
use Rattle.mls_types.specs.UpdatePath.{hpke_ciphertext, update_path_node, update_path}
use Rattle.mls_types.specs.declared.update_path.HpkeCiphertext.{HpkeCiphertext}
use Rattle.mls_types.specs.declared.update_path.UpdatePath.{UpdatePath}
use Rattle.mls_types.specs.declared.update_path.UpdatePathNode.{UpdatePathNode}
use Rattle.mls_types.specs.Commit.{proposal_or_ref, proposal_or_ref_nonempty, commit}
use Rattle.mls_types.specs.Content.{sender, content, framed_content}
use Rattle.mls_types.specs.declared.commit.Commit.{Commit}
use Rattle.mls_types.specs.declared.commit.ProposalOrRef.{ProposalOrRef}
use Rattle.mls_types.specs.declared.commit.ProposalOrRef.TheVariants as listed
use Rattle.mls_types.specs.declared.content.Content.TheVariants as says
use Rattle.mls_types.specs.declared.content.FramedContent.{FramedContent}
use Rattle.mls_suite.specs.Crypto.{Crypto}
use Rattle.mls_tree_model.specs.Term.{Term}
use Rattle.mls_treekem_model.specs.Seeds.{seal_count_of}
use Rattle.mls_model.specs.PublicState.{PublicState, Used}
use Rattle.mls_model.specs.Proposals.{add_in, adds}
use Rattle.mls_model.specs.Commit.{Edits, apply_proposals, apply_path_if}
use Rattle.mls_model.specs.Member.{KeptProposal, Member, kept_under, find_proposal, find_proposals}
use Rattle.mls_model.specs.Messages.{content_by}
use Rattle.mls_model.specs.Make.{path_seals}
use Rattle.mls_public_group.specs.ProposalList.{edit_tree}
use Rattle.mls_public_group.proofs.Leaves.{below_applied}
use Rattle.mls_public_group.proofs.ShortLaws.{proposal_below}
use Rattle.mls_public_group.specs.Short.{IsBelow, AreBelow, HasLeavesBelow}
use Rattle.mls_commit.proofs.Below.{below_merged}
use Rattle.mls_theorems.proofs.Inversion.{edited_steps}
use Rattle.mls_make.specs.CommitCall.{IsShortUsed, AreShortUsed}

-- ---- lists

pub front : (x y : List ℕ) (n : ℕ) → length (x ++ y) ≤ n → length x ≤ n
front x y n h = omega (arith, length-append x y)

pub back : (x y : List ℕ) (n : ℕ) → length (x ++ y) ≤ n → length y ≤ n
back x y n h = omega (arith, length-append x y)

-- what stands in a vector is shorter than it
pub inside : (x : List ℕ) (n : ℕ) → length (opaque x) ≤ n → length x ≤ n
inside x n h = back (header (length x)) x n h

-- ---- a commit in its content

fifth : (a b d e k : List ℕ) (n : ℕ) → length (a ++ (b ++ (d ++ (e ++ k)))) ≤ n → length k ≤ n
fifth a b d e k n h = back e k n (back d (e ++ k) n (back b (d ++ (e ++ k)) n (back a (b ++ (d ++ (e ++ k))) n h)))

-- the content stands at the end of a FramedContent
pub content_inside : (v : FramedContent) (n : ℕ) → length (framed_content.spell v) ≤ n → length (content.spell v.content) ≤ n
unfolding framed_content
content_inside v n h = fifth (byte_string.spell v.group_id) (uint64.spell v.epoch) (sender.spell v.sender) (byte_string.spell v.authenticated_data) (content.spell v.content) n h

pub commit_inside : (k : Commit) (n : ℕ) → length (content.spell (says.Commit k)) ≤ n → length (commit.spell k) ≤ n
unfolding content
commit_inside k n h = back _ (commit.spell k) n h

-- what a member says is no shorter than the commit
pub commit_within : (m : Member) (k : Commit) → length (framed_content.spell (content_by m (says.Commit k))) ≤ input_limit → length (commit.spell k) ≤ input_limit
unfolding content_by
commit_within m k h = commit_inside k input_limit (content_inside (content_by m (says.Commit k)) input_limit h)

pub list_inside : (k : Commit) (n : ℕ) → length (commit.spell k) ≤ n → length ((vector proposal_or_ref proposal_or_ref_nonempty).spell k.proposals) ≤ n
unfolding commit
list_inside k n h = front _ ((optional update_path).spell k.path) n h

pub path_inside : (k : Commit) (n : ℕ) → length (commit.spell k) ≤ n → length ((optional update_path).spell k.path) ≤ n
unfolding commit
path_inside k n h = back _ ((optional update_path).spell k.path) n h

pub items_inside : (k : Commit) (n : ℕ) → length (commit.spell k) ≤ n → length (flat_map proposal_or_ref.spell k.proposals) ≤ n
items_inside k n h = inside (flat_map proposal_or_ref.spell k.proposals) n (list_inside k n h)

-- ---- the proposals that it uses

pub listed_inside : (p : proposals.Proposal) (n : ℕ) → length (proposal_or_ref.spell (listed.Proposal p)) ≤ n → length (proposal.spell p) ≤ n
unfolding proposal_or_ref
listed_inside p n h = back (uint w8 1) (proposal.spell p) n h

-- one that is named is a kept one
pub named_kept : (kept : List KeptProposal) (leaf : ℕ) (r : List ℕ) (u : Used) → find_proposal kept leaf (listed.Reference r) ≡ Ok u → u.is_full ≡ false
named_kept kept leaf r u h =
    let k = bind_ok (require_some 60 (kept_under kept r)) _ u h in
    let made : Used = record { proposal = k.0.proposal; sender = k.0.sender; is_full = false } in
    sym (ap (λ (v : Used). v.is_full) (ok_is made u k.2))

one_below : (kept : List KeptProposal) (leaf : ℕ) (x : ProposalOrRef) (u : Used) → find_proposal kept leaf x ≡ Ok u → IsShortUsed u → length (proposal_or_ref.spell x) ≤ input_limit → IsBelow (2 ^ 27) proposal u.proposal
one_below kept leaf (listed.Proposal p) u h short le =
    let same : p ≡ u.proposal = ap (λ (v : Used). v.proposal) (ok_is _ _ h) in
    let whole : length (proposal.spell p) ≤ input_limit = listed_inside p input_limit le in
    let here : length (proposal.spell u.proposal) ≤ input_limit = subst (λ (q : proposals.Proposal). length (proposal.spell q) ≤ input_limit) same whole in
    record { fits = short.0.fits; below = omega arith }
one_below kept leaf (listed.Reference r) u h short le = short.1 (named_kept kept leaf r u h)

all_below : (kept : List KeptProposal) (leaf : ℕ) (xs : List ProposalOrRef) (used : List Used) → find_proposals kept leaf xs ≡ Ok used → AreShortUsed used → length (flat_map proposal_or_ref.spell xs) ≤ input_limit → AreBelow (2 ^ 27) used
unfolding find_proposals
all_below kept leaf [] used h short le = subst (AreBelow (2 ^ 27)) (ok_is _ _ h) tt
all_below kept leaf (x ∷ xs) used h short le =
    let one = bind_ok _ _ _ h in
    let more = bind_ok _ _ _ one.2 in
    let is : one.0 ∷ more.0 ≡ used = ok_is _ _ more.2 in
    let parts : AreShortUsed (one.0 ∷ more.0) = subst AreShortUsed (sym is) short in
    subst (AreBelow (2 ^ 27)) is (
      proposal_below (2 ^ 27) one.0.proposal (one_below kept leaf x one.0 one.1 parts.0 (front (proposal_or_ref.spell x) (flat_map proposal_or_ref.spell xs) input_limit le)),
      all_below kept leaf xs more.0 more.1 parts.1 (back (proposal_or_ref.spell x) (flat_map proposal_or_ref.spell xs) input_limit le),
    )

-- each encodes to fewer than 2^27 bytes
pub used_below : (kept : List KeptProposal) (leaf : ℕ) (k : Commit) (used : List Used) → length (commit.spell k) ≤ input_limit → find_proposals kept leaf k.proposals ≡ Ok used → AreShortUsed used → AreBelow (2 ^ 27) used
used_below kept leaf k used le h short = all_below kept leaf k.proposals used h short (items_inside k input_limit le)

-- ---- its path

leaf_inside : (p : UpdatePath) (n : ℕ) → length (update_path.spell p) ≤ n → length (leaf_node.spell p.leaf_node) ≤ n
unfolding update_path
leaf_inside p n h = front (leaf_node.spell p.leaf_node) _ n h

some_inside : (p : UpdatePath) (n : ℕ) → length ((optional update_path).spell (Some p)) ≤ n → length (update_path.spell p) ≤ n
some_inside p n h = back (uint w8 1) (update_path.spell p) n h

leaf_below : (o : Option UpdatePath) → length ((optional update_path).spell o) ≤ input_limit → IfSome o (λ p. IsBelow (2 ^ 28) leaf_node p.leaf_node) → IfSome o (λ p. IsBelow (2 ^ 27) leaf_node p.leaf_node)
leaf_below None le h = tt
leaf_below (Some p) le h = let short : length (leaf_node.spell p.leaf_node) ≤ input_limit = leaf_inside p input_limit (some_inside p input_limit le) in record { fits = h.fits; below = omega arith }

-- its leaf, where it has a spelling, encodes to fewer than 2^27 bytes
pub path_leaf_below : (k : Commit) → length (commit.spell k) ≤ input_limit → IfSome k.path (λ p. IsBelow (2 ^ 28) leaf_node p.leaf_node) → IfSome k.path (λ p. IsBelow (2 ^ 27) leaf_node p.leaf_node)
path_leaf_below k le h = leaf_below k.path (path_inside k input_limit le) h

-- ---- its seals

cipher_nonempty : (x : HpkeCiphertext) → 1 ≤ length (hpke_ciphertext.spell x)
unfolding hpke_ciphertext
cipher_nonempty x = omega (arith, header_nonempty (length x.kem_output), length-append (header (length x.kem_output)) x.kem_output, length-append (opaque x.kem_output) (opaque x.ciphertext))

ciphers_counted : (xs : List HpkeCiphertext) → length xs ≤ length (flat_map hpke_ciphertext.spell xs)
ciphers_counted [] = omega arith
ciphers_counted (x ∷ xs) = omega (arith, cipher_nonempty x, ciphers_counted xs, length-append (hpke_ciphertext.spell x) (flat_map hpke_ciphertext.spell xs))

node_counted : (x : UpdatePathNode) → length x.ciphertexts ≤ length (update_path_node.spell x)
unfolding update_path_node
node_counted x =
    let inner : List ℕ = flat_map hpke_ciphertext.spell x.ciphertexts in
    omega (arith, ciphers_counted x.ciphertexts, length-append (header (length inner)) inner, length-append (opaque x.encryption_key) (opaque inner))

nodes_counted : (xs : List UpdatePathNode) → seal_count_of xs ≤ length (flat_map update_path_node.spell xs)
unfolding seal_count_of
nodes_counted [] = omega arith
nodes_counted (x ∷ xs) = omega (arith, node_counted x, nodes_counted xs, length-append (update_path_node.spell x) (flat_map update_path_node.spell xs))

nodes_inside : (p : UpdatePath) (n : ℕ) → length (update_path.spell p) ≤ n → length (flat_map update_path_node.spell p.nodes) ≤ n
unfolding update_path
nodes_inside p n h = inside (flat_map update_path_node.spell p.nodes) n (back (leaf_node.spell p.leaf_node) _ n h)

path_counted : (o : Option UpdatePath) (n : ℕ) → length ((optional update_path).spell o) ≤ n → path_seals o ≤ n
path_counted None n h = omega arith
path_counted (Some p) n h = let short : length (flat_map update_path_node.spell p.nodes) ≤ n = nodes_inside p n (some_inside p n h) in omega (arith, nodes_counted p.nodes)

-- a path has no more seals than its commit has bytes
pub path_seals_within : (k : Commit) (n : ℕ) → length (commit.spell k) ≤ n → path_seals k.path ≤ n
path_seals_within k n h = path_counted k.path n (path_inside k n h)

listed_nonempty : (x : ProposalOrRef) → 1 ≤ length (proposal_or_ref.spell x)
unfolding proposal_or_ref uint
listed_nonempty (listed.Proposal p) = omega (arith, length-append (uint w8 1) (proposal.spell p))
listed_nonempty (listed.Reference r) = omega (arith, length-append (uint w8 2) (opaque r))

list_counted : (xs : List ProposalOrRef) → length xs ≤ length (flat_map proposal_or_ref.spell xs)
list_counted [] = omega arith
list_counted (x ∷ xs) = omega (arith, listed_nonempty x, list_counted xs, length-append (proposal_or_ref.spell x) (flat_map proposal_or_ref.spell xs))

-- it uses as many proposals as it lists
pub used_counted : (kept : List KeptProposal) (leaf : ℕ) (xs : List ProposalOrRef) (used : List Used) → find_proposals kept leaf xs ≡ Ok used → length used ≡ length xs
unfolding find_proposals
used_counted kept leaf [] used h = sym (ap length (ok_is _ _ h))
used_counted kept leaf (x ∷ xs) used h =
    let one = bind_ok (find_proposal kept leaf x) _ used h in
    let more = bind_ok (find_proposals kept leaf xs) _ used one.2 in
    let is : one.0 ∷ more.0 ≡ used = ok_is _ _ more.2 in
    omega (arith, used_counted kept leaf xs more.0 more.1, ap length is)

pub adds_counted : (used : List Used) → length (adds used) ≤ length used
unfolding adds
adds_counted [] = omega arith
adds_counted (u ∷ us) = one_more (add_in u.proposal) (adds us) (adds_counted us)
  where
    one_more : (o : Option KeyPackage) (xs : List KeyPackage) → length xs ≤ length us → length (cons_option o xs) ≤ length (u ∷ us)
    one_more None xs le = omega arith
    one_more (Some x) xs le = omega arith

-- seals of its path and of its Welcome together are fewer than 2^32
pub seals_short : (kept : List KeptProposal) (leaf : ℕ) (k : Commit) (used : List Used) (added : List ℕ) → length (commit.spell k) ≤ input_limit → find_proposals kept leaf k.proposals ≡ Ok used → path_seals k.path + length (zip (adds used) added) < 2 ^ 32
seals_short kept leaf k used added le h =
    let seals : path_seals k.path ≤ input_limit = path_seals_within k input_limit le in
    let items : length (flat_map proposal_or_ref.spell k.proposals) ≤ input_limit = items_inside k input_limit le in
    omega (arith, length-zip (adds used) added, adds_counted used, used_counted kept leaf k.proposals used h, list_counted k.proposals)

-- ---- the leaves of the tree with it

-- after the edits they are as short as before them and as the proposals
pub leaves_edited : (c : Crypto) (p : PublicState) (i n : ℕ) (used : List Used) (e : Edits) → apply_proposals c p i used ≡ Ok e → AreBelow n used → HasLeavesBelow n p.tree → HasLeavesBelow n e.tree
unfolding edit_tree
leaves_edited c p i n used e h short old =
    let s = edited_steps c p i used e h in
    below_applied n p.tree used e short (rw (s.updating, s.removing) s.adding) old

-- and with the path as short as its leaf too
pub leaves_below : (c : Crypto) (p : PublicState) (i : ℕ) (used : List Used) (e : Edits) (path : Option UpdatePath) (t : Term) → apply_proposals c p i used ≡ Ok e → apply_path_if c p i e path ≡ Ok t →
    AreBelow (2 ^ 27) used → IfSome path (λ u. IsBelow (2 ^ 27) leaf_node u.leaf_node) → HasLeavesBelow (2 ^ 27) p.tree → HasLeavesBelow (2 ^ 27) t
leaves_below c p i used e path t h g short leaf old = below_merged c p i e path t (2 ^ 27) g leaf (leaves_edited c p i (2 ^ 27) used e h short old)
