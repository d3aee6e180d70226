-- The checks of a proposal, by what it proposes.
use Rattle.std.specs.Prelude.{◌≡◌, ℕ, if◌then◌else◌, List, is_some, Result, Ok, IsOk}
use Rattle.mls_wire.specs.Checks.{AnswersOutright, Passed, passed, require}
use Rattle.mls_leaf.specs.declared.extension.Extension.{Extension}
use Rattle.mls_leaf.specs.declared.leaf.LeafNode.{LeafNode}
use Rattle.mls_leaf.specs.declared.proposal.Proposal.{Proposal}
use Rattle.mls_leaf.specs.declared.proposal.Proposal.TheVariants.{Update, Remove, GroupContextExtensions}
use Rattle.mls_suite.specs.Crypto.{Crypto}
use Rattle.mls_tree_model.specs.Term.{Term, leaf_of}
use Rattle.mls_tree.specs.Refusals.{RefusesOutright}
use Rattle.mls_model.specs.PublicState.{PublicState, Used}
use Rattle.mls_model.specs.Proposals.{proposal_checks}
use Rattle.mls_public_group.specs.declared.error.GroupError.{GroupError}
use Rattle.mls_public_group.specs.Faults.{number_of}

-- `NoSuchLeaf` (22) where no member is at the leaf
abbrev pub member_check : Term → ℕ → Result Passed ℕ
member_check t i = require 22 (is_some (leaf_of t i))

-- of an update, `NoSuchLeaf` (22) is answered where no member is at its sender's leaf, also when an allocation fails
abbrev pub RefusesUpdate : {A : Type 0} → Term → ℕ → Proposal → Result A GroupError → Type 0
RefusesUpdate t sender p result =
    (l : LeafNode) → p ≡ Update l → RefusesOutright number_of (member_check t sender) result

-- of a remove, the call passes exactly when a member is there, and else answers `NoSuchLeaf` (22), also when an
-- allocation fails
abbrev pub AnswersRemove : {A : Type 0} → Term → Proposal → Result A GroupError → Type 0
AnswersRemove t p result =
    (i : ℕ) → p ≡ Remove i → AnswersOutright (λ _. passed) number_of (member_check t i) result

-- of extensions, the call answers that they pass, also when an allocation fails
abbrev pub AnswersExtensions : {A : Type 0} → Proposal → Result A GroupError → Type 0
AnswersExtensions p result = (list : List Extension) → p ≡ GroupContextExtensions list → IsOk result

-- the checks of a proposal that a commit uses, where the commit gives it in full (RFC 9420, 12.4.2)
abbrev pub used_checks : Crypto → PublicState → Used → Result Passed ℕ
used_checks c p u = if u.is_full then proposal_checks c p u.sender u.proposal else Ok passed
