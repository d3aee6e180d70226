-- A commit that a good member makes reads back.
use Rattle.std.specs.Prelude.{◌≡◌, ℕ, ◌<◌, ◌^◌, Bool, List, length, Some, Ok, ◌⊎◌}
use Rattle.std.specs.List.{AllByRecursion}
use Rattle.mls_wire.specs.Checks.{passed}
use Rattle.mls_leaf.specs.Leaf.{leaf_node}
use Rattle.mls_leaf.specs.declared.extension.Extension.{Extension}
use Rattle.mls_leaf.specs.declared.leaf.LeafNode.{LeafNode}
use Rattle.mls_types.specs.GroupContext.{group_context}
use Rattle.mls_types.specs.declared.update_path.UpdatePathNode.{UpdatePathNode}
use Rattle.mls_types.specs.Commit.{proposal_or_ref}
use Rattle.mls_types.specs.Content.{content}
use Rattle.mls_types.specs.Message.{mls_message}
use Rattle.mls_types.specs.declared.commit.ProposalOrRef.{ProposalOrRef}
use Rattle.mls_types.specs.declared.message.MlsMessage.TheVariants as message
use Rattle.mls_types.specs.declared.public_message.PublicMessage.{PublicMessage}
use Rattle.mls_suite.specs.Crypto.{Crypto}
use Rattle.mls_checks.specs.Checks.{replacement_checks}
use Rattle.mls_checks.specs.declared.checks.LeafUse.TheVariants as replaced_for
use Rattle.mls_tree_model.specs.Term.{Term, leaf_of}
use Rattle.mls_tree_model.specs.Way.{way}
use Rattle.mls_tree.specs.Paths.{merge_answer}
use Rattle.mls_treekem_model.specs.Make.{climb_make}
use Rattle.mls_treekem_model.specs.Seal.{sealed_path}
use Rattle.mls_treekem_model.specs.Seeds.{seal_seed}
use Rattle.mls_model.specs.PublicState.{Used, provisional_context}
use Rattle.mls_model.specs.Proposals.{extensions_after}
use Rattle.mls_model.specs.Candidate.{leaf_key_of}
use Rattle.mls_treekem_model.specs.Seeds.{path_seed}
use Rattle.mls_treekem_model.specs.Chain.{keys_of_path}
use Rattle.mls_model.specs.Commit.{Edits, Change}
use Rattle.mls_model.specs.Member.{Member}
use Rattle.mls_model.specs.Messages.{decode_message, content_tag}
use Rattle.mls_model.specs.Make.{MadePath, Made, committed_leaf, no_path, path_if_needed, make}
use Rattle.mls_model.specs.MemberInvariant.{IsGoodMember}
use Rattle.mls_theorems.specs.CommitCalls.{content_of, Makes}

-- ---- the path of a made commit

pub record IsNewPath (c : Crypto) (m : Member) (list : List Extension) (e : Edits) (seed : List ℕ) (path : MadePath) :
    Type 0 where
  pub old : LeafNode
  pub is_old : leaf_of m.public.tree m.keys.leaf ≡ Some old
  pub checks : replacement_checks c
      (committed_leaf c m e old seed) old replaced_for.Commit m.public.context.group_id m.keys.leaf ≡ Ok passed
  pub tree : Term
  pub tree_is : merge_answer e.tree m.keys.leaf (committed_leaf c m e old seed)
      (keys_of_path c e.tree m.keys.leaf (path_seed seed)) ≡ Ok tree
  pub nodes : List UpdatePathNode
  pub nodes_are : sealed_path c (group_context.spell (provisional_context m.public.context list tree)) e.added
      (seal_seed seed) e.tree m.keys.leaf (path_seed seed) ≡ Ok nodes
  pub path_is : path.path ≡ Some (record { leaf_node = committed_leaf c m e old seed; nodes = nodes })
  pub climb_is : path.climb ≡ climb_make c (way 0 e.tree m.keys.leaf) (path_seed seed) (leaf_key_of c seed)

abbrev pub PathDid : Type 0
PathDid = (c : Crypto) (m : Member) (used : List Used) (e : Edits) (wants_path : Bool) (seed : List ℕ)
    (path : MadePath) → path_if_needed c m e used wants_path seed ≡ Ok path →
    IsNewPath c m (extensions_after m.public.context.extensions used) e seed path ⊎ (path ≡ no_path m e)

-- what a made commit is as a message
unfoldable pub sent_of : Crypto → Member → List ProposalOrRef → MadePath → Change → PublicMessage
sent_of c m list path change = record {
  content = content_of c m list path change;
  membership_tag = content_tag m.epoch_secret (content_of c m list path change) m.public.context;
}

-- bytes are read as a message that has a spelling
pub record ReadsBack (bytes : List ℕ) (said : PublicMessage) : Type 0 where
  pub fits : mls_message.Fits (message.PublicMessage said)
  pub decodes : decode_message bytes ≡ Ok (message.PublicMessage said)

-- the message that a good member's commit call made is read as what it is made of
abbrev pub MadeFits : Type 0
MadeFits = (c : Crypto) (m : Member) (list : List ProposalOrRef) (wants_path : Bool) (seed : List ℕ) (made : Made)
    (k : Makes c m list wants_path seed made) →
    IsGoodMember c m → AllByRecursion proposal_or_ref.Fits list →
    ReadsBack made.commit (sent_of c m list k.path k.change)

-- ---- what is listed in full

-- what a list has has a spelling, if it is short
abbrev pub ListedFitsIfShort : ProposalOrRef → Type 0
ListedFitsIfShort x = length (proposal_or_ref.spell x) < 2 ^ 30 → proposal_or_ref.Fits x

-- where a commit call made a message of a list, which is within the limit, all that the list has has a spelling
abbrev pub MadeListsFit : Type 0
MadeListsFit = (c : Crypto) (m : Member) (list : List ProposalOrRef) (wants_path : Bool) (seed : List ℕ) (made : Made) →
    AllByRecursion ListedFitsIfShort list → make c m list wants_path seed ≡ Ok made →
    AllByRecursion proposal_or_ref.Fits list
