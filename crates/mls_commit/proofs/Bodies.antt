-- What the steps of a commit come to.
use Rattle.std.proofs.Common.{◌≡◌, ℕ, true, not, ◌||◌, List, is_some, Ok, sym, ◌∙◌, ap, subst}
use Rattle.mls_leaf.specs.declared.extension.Extension.{Extension}
use Rattle.mls_types.specs.Content.{framed_content}
use Rattle.mls_types.specs.declared.commit.Commit.{Commit}
use Rattle.mls_types.specs.declared.content.FramedContent.{FramedContent}
use Rattle.mls_suite.specs.Crypto.{Crypto}
use Rattle.mls_tree_model.specs.Term.{Term}
use Rattle.mls_model.specs.Proposals.{extensions_after, is_path_required}
use Rattle.mls_model.specs.PublicState.{PublicState, Used}
use Rattle.mls_model.specs.Commit.{Edits, Change, apply_proposals, apply_path_if, change_of_commit, change_of}
use Rattle.mls_public_group.specs.Short.{HasLeavesBelow}

pub body_ok : (c : Crypto) (p : PublicState) (i : ℕ) (used : List Used) (commit : Commit) (content : FramedContent) (said signature : List ℕ) (list : List Extension) (e : Edits) (t : Term) (change : Change) → framed_content.spell content ≡ said → list ≡ extensions_after p.context.extensions used →
    apply_proposals c p i used ≡ Ok e → (is_some commit.path || not (is_path_required used)) ≡ true → apply_path_if c p i e commit.path ≡ Ok t → change ≡ change_of p list e t said signature → change_of_commit c p i used commit content signature ≡ Ok change
unfolding change_of_commit change_of
body_ok c p i used commit content said signature list e t change spelled carried edits path tree made =
    rw (edits, path, tree) (ap Ok (ap (λ bytes. change_of p (extensions_after p.context.extensions used) e t bytes signature) spelled ∙ ap (λ l. change_of p l e t said signature) (sym carried) ∙ sym made))

pub below_change : (p : PublicState) (list : List Extension) (e : Edits) (t : Term) (said signature : List ℕ) (n : ℕ) (change : Change) → change ≡ change_of p list e t said signature → HasLeavesBelow n e.tree → HasLeavesBelow n t → HasLeavesBelow n change.edits.tree × HasLeavesBelow n change.tree
unfolding change_of
below_change p list e t said signature n change made one two = subst (λ (x : Change). HasLeavesBelow n x.edits.tree × HasLeavesBelow n x.tree) (sym made) (one, two)
