-- The lines of commits.
use Rattle.std.specs.Prelude.{ℕ, List, [], ◌∷◌, ◌++◌, codes, length, option_map, Option, Some, None}
use Rattle.mls_leaf.specs.declared.proposal.Proposal as proposals
use Rattle.mls_leaf.specs.declared.proposal.Proposal.TheVariants as proposal
use Rattle.mls_types.specs.declared.update_path.UpdatePath.{UpdatePath}
use Rattle.mls_types.specs.declared.update_path.UpdatePathNode.{UpdatePathNode}
use Rattle.mls_types.specs.declared.commit.Commit.{Commit}
use Rattle.mls_types.specs.declared.commit.ProposalOrRef.{ProposalOrRef}
use Rattle.mls_types.specs.declared.commit.ProposalOrRef.TheVariants as item
use Rattle.mls_cli_text.specs.Text.{Entry, Shown, entry, bytes, item_text, number, word}
use Rattle.mls_cli_show.specs.declared.numbered.Detail.{Detail}
use Rattle.mls_cli_show.specs.Extensions.{extension_entries}
use Rattle.mls_cli_show.specs.Numbered.{in_full, numbered}
use Rattle.mls_cli_show.specs.Package.{key_package_entries, leaf_entries}

-- a count, or `none`
abbrev pub shown_count : Option ℕ → Shown
shown_count None = word (codes "none")
shown_count (Some n) = number n

-- RFC 9420, section 12.1: which kind of proposal it is, and what it says, each name behind a prefix
abbrev pub proposal_item_entries : List ℕ → proposals.Proposal → List Entry
proposal_item_entries prefix (proposal.Add v) =
    entry prefix (codes "kind") (word (codes "add")) ∷ key_package_entries prefix v
proposal_item_entries prefix (proposal.Update v) =
    entry prefix (codes "kind") (word (codes "update")) ∷ leaf_entries prefix v
proposal_item_entries prefix (proposal.Remove removed) =
    entry prefix (codes "kind") (word (codes "remove"))
    ∷ entry prefix (codes "removed") (number removed) ∷ []
proposal_item_entries prefix (proposal.GroupContextExtensions vs) =
    entry prefix (codes "kind") (word (codes "group_context_extensions"))
    ∷ extension_entries prefix vs

-- RFC 9420, section 12.4: a proposal of a commit, or the reference of one
abbrev pub item_entries : List ℕ → ProposalOrRef → List Entry
item_entries prefix (item.Proposal v) = proposal_item_entries prefix v
item_entries prefix (item.Reference v) =
    entry prefix (codes "kind") (word (codes "reference"))
    ∷ entry prefix (codes "reference") (bytes v) ∷ []

abbrev pub listed_item : ℕ → ProposalOrRef → List Entry
listed_item n v = item_entries (item_text (codes "proposal.") n) v

-- RFC 9420, section 7.6: a node of a path, with how many ciphertexts its secret has
abbrev pub path_node_entries : List ℕ → UpdatePathNode → List Entry
path_node_entries prefix v =
    entry prefix (codes "encryption_key") (bytes v.encryption_key)
    ∷ entry prefix (codes "ciphertexts") (number (length v.ciphertexts)) ∷ []

abbrev pub listed_path_node : ℕ → UpdatePathNode → List Entry
listed_path_node n v = path_node_entries (item_text (codes "path.") n) v

-- RFC 9420, section 7.6: the committer's leaf and the nodes of its path, if it is there
abbrev pub path_entries : Option UpdatePath → List Entry
path_entries None = []
path_entries (Some v) =
    leaf_entries (codes "path.") v.leaf_node ++ numbered listed_path_node v.nodes

-- RFC 9420, section 7.6: how many nodes a path has, if it is there
abbrev pub path_length : Option UpdatePath → Option ℕ
path_length path = option_map (λ (p : UpdatePath). length p.nodes) path

-- RFC 9420, section 12.4: a commit
unfoldable pub commit_entries : Detail → Commit → List Entry
commit_entries detail c =
    entry [] (codes "proposals") (number (length c.proposals))
    ∷ (in_full detail (numbered listed_item c.proposals)
    ++ entry [] (codes "path_nodes") (shown_count (path_length c.path))
    ∷ in_full detail (path_entries c.path))
