-- What a message that has a spelling is made of has one, and so has what a commit uses.
use Rattle.std.proofs.Common.{◌≡◌, ℕ, Bool, true, false, List, [], ◌∷◌, ◌++◌, reverse, Option, Some, None, Ok, refl, sym, ap, subst, ◌∙◌}
use Rattle.std.specs.Prelude.{map}
use Rattle.std.specs.List.{AllByRecursion, cons_option}
use Rattle.mls_wire.specs.Format.{Format}
use Rattle.mls_wire.specs.Checks.{require_some}
use Rattle.mls_wire.specs.Reading.{◌>>=◌}
use Rattle.mls_wire.specs.Combine.{optional}
use Rattle.mls_wire.specs.Laws.{bind_ok, ok_is}
use Rattle.mls_leaf.specs.GroupExtensions.{group_extensions}
use Rattle.mls_leaf.specs.KeyPackage.{key_package}
use Rattle.mls_leaf.specs.Leaf.{leaf_node}
use Rattle.mls_leaf.specs.Proposal.{proposal}
use Rattle.mls_leaf.specs.declared.extension.Extension.{Extension}
use Rattle.mls_leaf.specs.declared.key_package.KeyPackage.{KeyPackage}
use Rattle.mls_leaf.specs.declared.leaf.LeafNode.{LeafNode}
use Rattle.mls_leaf.specs.declared.proposal.Proposal.{Proposal}
use Rattle.mls_leaf.specs.declared.proposal.Proposal.TheVariants as proposes
use Rattle.mls_types.specs.UpdatePath.{update_path_node, update_path}
use Rattle.mls_types.specs.declared.update_path.UpdatePath.{UpdatePath}
use Rattle.mls_types.specs.declared.update_path.UpdatePathNode.{UpdatePathNode}
use Rattle.mls_types.specs.Commit.{proposal_or_ref, commit}
use Rattle.mls_types.specs.Content.{content, framed_content}
use Rattle.mls_types.specs.Message.{mls_message}
use Rattle.mls_types.specs.PublicMessage.{public_message}
use Rattle.mls_types.specs.Signed.{signed_content}
use Rattle.mls_types.specs.SignedParts.{content_of_body, framed_content_of}
use Rattle.mls_types.proofs.SignedParts.{signed_content_parts_fit}
use Rattle.mls_types.specs.declared.commit.Commit.{Commit}
use Rattle.mls_types.specs.declared.commit.ProposalOrRef.{ProposalOrRef}
use Rattle.mls_types.specs.declared.commit.ProposalOrRef.TheVariants as listed
use Rattle.mls_types.specs.declared.content.Content.TheVariants as says
use Rattle.mls_types.specs.declared.message.MlsMessage.TheVariants as message
use Rattle.mls_types.specs.declared.public_message.PublicMessage.{PublicMessage}
use Rattle.mls_types.specs.declared.signed.SignedBody.{SignedBody}
use Rattle.mls_types.specs.declared.signed.SignedBody.TheVariants as body
use Rattle.mls_types.specs.declared.signed.SignedContent.{SignedContent}
use Rattle.mls_suite.specs.Crypto.{Crypto}
use Rattle.mls_tree_model.proofs.PathLaws.{reverse-cons}
use Rattle.mls_model.specs.PublicState.{Used}
use Rattle.mls_model.specs.Proposals.{update_in, add_in, extensions_in, updates, adds, extension_lists, first_list, extensions_after}
use Rattle.mls_model.specs.Commit.{node_keys}
use Rattle.mls_model.specs.Member.{KeptProposal, Member, kept_under, find_proposal, find_proposals}
use Rattle.mls_model.specs.MemberInvariant.{IsGoodKept}
use Rattle.mls_theorems.specs.NodeSpelling.{IsShort}
use Rattle.mls_theorems.proofs.One.{all_both}
use Rattle.mls_theorems.specs.UsedProposals.{AreGoodKept}
use Rattle.mls_theorems.proofs.Used.{kept_good}

-- ---- one spelling

-- values that are spelled alike are one
pub one_spelled : {V : Type 0} (format : Format V) (v w : V) → format.Fits v → format.Fits w → format.spell v ≡ format.spell w → v ≡ w
one_spelled {V} format v w a b e =
    let first : format.read (format.spell v ++ []) ≡ Ok (v, []) = format.lawful.again v [] a in
    let second : format.read (format.spell w ++ []) ≡ Ok (w, []) = format.lawful.again w [] b in
    let both : Path (V × List ℕ) (v, []) (w, []) = ok_is (v, []) (w, []) (sym first ∙ ap (λ (bytes : List ℕ). format.read (bytes ++ [])) e ∙ second) in
    ap (λ (p : V × List ℕ). p.0) both

-- ---- of a message

pub content_of_message : (v : PublicMessage) → mls_message.Fits (message.PublicMessage v) → signed_content.Fits v.content
unfolding mls_message public_message
content_of_message v f = f.1.0

said_fits : (v : SignedContent) (b : SignedBody) → v.body ≡ b → framed_content.Fits (framed_content_of v) → content.Fits (content_of_body b)
unfolding framed_content
said_fits v b e f = subst (λ (x : SignedBody). content.Fits (content_of_body x)) e f.1.1.1.1

body_fits : (v : PublicMessage) (b : SignedBody) → mls_message.Fits (message.PublicMessage v) → v.content.body ≡ b → content.Fits (content_of_body b)
body_fits v b f e = said_fits v.content b e (signed_content_parts_fit v.content (content_of_message v f)).0

proposal_said : (x : Proposal) → content.Fits (says.Proposal x) → proposal.Fits x
unfolding content
proposal_said x f = f.1

commit_said : (x : Commit) → content.Fits (says.Commit x) → commit.Fits x
unfolding content
commit_said x f = f.1

pub proposal_in : (v : PublicMessage) (x : Proposal) → mls_message.Fits (message.PublicMessage v) → v.content.body ≡ body.Proposal x → proposal.Fits x
proposal_in v x f e = proposal_said x (body_fits v (body.Proposal x) f e)

pub commit_in : (v : PublicMessage) (x : Commit) (tag : List ℕ) → mls_message.Fits (message.PublicMessage v) → v.content.body ≡ body.Commit x tag → commit.Fits x
commit_in v x tag f e = commit_said x (body_fits v (body.Commit x tag) f e)

-- ---- of a commit

pub list_of : (x : Commit) → commit.Fits x → AllByRecursion proposal_or_ref.Fits x.proposals
unfolding commit
list_of x f = f.0.0

-- its path's leaf has a spelling, and its keys are short
abbrev pub PathFits : Option UpdatePath → Type 0
PathFits None = Unit {0}
PathFits (Some p) = leaf_node.Fits p.leaf_node × AllByRecursion IsShort (node_keys p)

keys_short : (ns : List UpdatePathNode) → AllByRecursion update_path_node.Fits ns → AllByRecursion IsShort (map (λ (n : UpdatePathNode). n.encryption_key) ns)
unfolding update_path_node
keys_short [] f = tt
keys_short (n ∷ ns) f = (f.0.0, keys_short ns f.1)

path_in : (o : Option UpdatePath) → (optional update_path).Fits o → PathFits o
unfolding update_path
path_in None f = tt
path_in (Some p) f = (f.1.0, keys_short p.nodes f.1.1.0)

pub path_of : (x : Commit) → commit.Fits x → PathFits x.path
unfolding commit
path_of x f = path_in x.path f.1

pub all_reversed : (xs : List (List ℕ)) → AllByRecursion IsShort xs → AllByRecursion IsShort (reverse xs)
all_reversed [] h = tt
all_reversed (x ∷ xs) h = rw (reverse-cons x xs) (all_both IsShort (reverse xs) (x ∷ []) (all_reversed xs h.1) (h.0, tt))

-- ---- what it uses

abbrev pub UsedFits : Used → Type 0
UsedFits u = proposal.Fits u.proposal

pub kept_fits : (c : Crypto) (m : Member) (k : KeptProposal) → IsGoodKept c m k → proposal.Fits k.proposal
kept_fits c m k g = proposal_in g.said k.proposal g.fits g.says

full_fits : (x : Proposal) → proposal_or_ref.Fits (listed.Proposal x) → proposal.Fits x
unfolding proposal_or_ref
full_fits x f = f.1

abbrev used_as : Proposal → ℕ → Bool → Used
used_as said sender full = record { proposal = said; sender = sender; is_full = full }

one_fits : (c : Crypto) (m : Member) (i : ℕ) (x : ProposalOrRef) (u : Used) → AreGoodKept c m m.kept → proposal_or_ref.Fits x → find_proposal m.kept i x ≡ Ok u → UsedFits u
one_fits c m i (listed.Proposal said) u good f e = subst UsedFits (ok_is (used_as said i true) u e) (full_fits said f)
one_fits c m i (listed.Reference r) u good f e = by_kept (kept_under m.kept r) refl e
  where
    by_kept : (o : Option KeptProposal) → kept_under m.kept r ≡ o → (require_some 60 o >>= λ k. Ok (used_as k.proposal k.sender false)) ≡ Ok u → UsedFits u
    by_kept None is h = absurd cc
    by_kept (Some k) is h = subst UsedFits (ok_is (used_as k.proposal k.sender false) u h) (kept_fits c m k (kept_good c m m.kept r k good is))

-- the proposals of a list have a spelling
pub used_fit : (c : Crypto) (m : Member) (i : ℕ) (list : List ProposalOrRef) (used : List Used) → AreGoodKept c m m.kept → AllByRecursion proposal_or_ref.Fits list → find_proposals m.kept i list ≡ Ok used → AllByRecursion UsedFits used
unfolding find_proposals
used_fit c m i [] used good f e = subst (AllByRecursion UsedFits) (ok_is [] used e) tt
used_fit c m i (x ∷ xs) used good f e =
    let s = bind_ok (find_proposal m.kept i x) (λ u. find_proposals m.kept i xs >>= λ us. Ok (u ∷ us)) used e in
    let t = bind_ok (find_proposals m.kept i xs) (λ us. Ok (s.0 ∷ us)) used s.2 in
    subst (AllByRecursion UsedFits) (ok_is (s.0 ∷ t.0) used t.2) (one_fits c m i x s.0 good f.0 s.1, used_fit c m i xs t.0 good f.1 t.1)

-- and so have the leaves and the KeyPackages in them
proposal_update : (x : LeafNode) → proposal.Fits (proposes.Update x) → leaf_node.Fits x
unfolding proposal
proposal_update x f = f.1

proposal_add : (x : KeyPackage) → proposal.Fits (proposes.Add x) → key_package.Fits x
unfolding proposal
proposal_add x f = f.1

pub package_leaf : (x : KeyPackage) → key_package.Fits x → leaf_node.Fits x.leaf_node
unfolding key_package
package_leaf x f = f.1.1.0

update_here : (u : Used) (x : Proposal) (us : List (ℕ × LeafNode)) → proposal.Fits x → AllByRecursion (λ (y : ℕ × LeafNode). leaf_node.Fits y.1) us → AllByRecursion (λ (y : ℕ × LeafNode). leaf_node.Fits y.1) (cons_option (update_in u x) us)
update_here u (proposes.Add y) us f h = h
update_here u (proposes.Update y) us f h = (proposal_update y f, h)
update_here u (proposes.Remove i) us f h = h
update_here u (proposes.GroupContextExtensions list) us f h = h

pub updates_fit : (used : List Used) → AllByRecursion UsedFits used → AllByRecursion (λ (y : ℕ × LeafNode). leaf_node.Fits y.1) (updates used)
unfolding updates
updates_fit [] h = tt
updates_fit (u ∷ us) h = update_here u u.proposal (updates us) h.0 (updates_fit us h.1)

add_here : (x : Proposal) (ks : List KeyPackage) → proposal.Fits x → AllByRecursion key_package.Fits ks → AllByRecursion key_package.Fits (cons_option (add_in x) ks)
add_here (proposes.Add y) ks f h = (proposal_add y f, h)
add_here (proposes.Update y) ks f h = h
add_here (proposes.Remove i) ks f h = h
add_here (proposes.GroupContextExtensions list) ks f h = h

pub adds_fit : (used : List Used) → AllByRecursion UsedFits used → AllByRecursion key_package.Fits (adds used)
unfolding adds
adds_fit [] h = tt
adds_fit (u ∷ us) h = add_here u.proposal (adds us) h.0 (adds_fit us h.1)

-- and the extensions that the group carries after them
proposal_list : (x : List Extension) → proposal.Fits (proposes.GroupContextExtensions x) → group_extensions.Fits x
unfolding proposal
proposal_list x f = f.1

list_here : (old : List Extension) (x : Proposal) (lists : List (List Extension)) → proposal.Fits x → group_extensions.Fits (first_list old lists) → group_extensions.Fits (first_list old (cons_option (extensions_in x) lists))
list_here old (proposes.Add y) lists f h = h
list_here old (proposes.Update y) lists f h = h
list_here old (proposes.Remove i) lists f h = h
list_here old (proposes.GroupContextExtensions list) lists f h = proposal_list list f

pub extended_fits : (old : List Extension) (used : List Used) → group_extensions.Fits old → AllByRecursion UsedFits used → group_extensions.Fits (extensions_after old used)
unfolding extensions_after extension_lists
extended_fits old [] f h = f
extended_fits old (u ∷ us) f h = list_here old u.proposal (extension_lists us) h.0 (extended_fits old us f h.1)
