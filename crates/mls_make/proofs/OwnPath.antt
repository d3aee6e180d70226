-- The path, or none, that a member makes for a commit.
use Rattle.std.proofs.Common.{◌≡◌, None, sym, ap, subst, ◌∙◌}
use Rattle.std.specs.Prelude.{replicate}
use Rattle.mls_tree_model.specs.Term.{Term}
use Rattle.mls_treekem_model.specs.Height.{HasFollowed}
use Rattle.mls_treekem_model.specs.Keys.{Keys, PrivateKeys, all_keys}
use Rattle.mls_theorems.proofs.Exact.{has_followed}
use Rattle.mls_model.specs.Commit.{Edits}
use Rattle.mls_model.specs.Make.{MadePath, no_path}
use Rattle.mls_model.specs.Member.{Member}

abbrev pub alone_with : Keys → MadePath
alone_with ks = record { path = None; climb = record { secret = replicate 32 0; keys = ks } }

-- keys that followed the edits are those that the definition has
made_alone : (m : Member) (e : Edits) (p : PrivateKeys) → HasFollowed None e.tree m.keys p → alone_with (all_keys p) ≡ no_path m e
unfolding no_path
made_alone m e p h = ap alone_with (h.keys ∙ sym (has_followed None e.tree m.keys).keys)

pub no_path_made : (m : Member) (e : Edits) (old copy p q : PrivateKeys) (t : Term) → m.keys ≡ old → copy ≡ old → p ≡ q → t ≡ e.tree → HasFollowed None t copy p → alone_with (all_keys q) ≡ no_path m e
no_path_made m e old copy p q t same cloned seen tree h =
    made_alone m e q
    (subst (λ (k : PrivateKeys). HasFollowed None e.tree k q) (cloned ∙ sym same)
    (subst (λ (k : PrivateKeys). HasFollowed None e.tree copy k) seen
    (subst (λ (u : Term). HasFollowed None u copy p) tree h)))
