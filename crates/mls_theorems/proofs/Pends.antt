-- A commit that a good member makes is a good pending one.
use Rattle.std.proofs.Common.{◌≡◌, ℕ, List, [], ◌∷◌, ◌++◌, Some, None, Ok, refl, sym, ap, subst, ◌∙◌, ◌⊎◌, inl, inr, Bool}
use Rattle.mls_wire.specs.Laws.{ok_is}
use Rattle.mls_types.specs.SignedParts.{framed_content_of}
use Rattle.mls_types.specs.declared.commit.ProposalOrRef.{ProposalOrRef}
use Rattle.mls_leaf.specs.declared.extension.Extension.{Extension}
use Rattle.mls_leaf.specs.declared.leaf.LeafNode.{LeafNode}
use Rattle.mls_suite.specs.Crypto.{Crypto}
use Rattle.mls_tree_model.specs.Term.{Term}
use Rattle.mls_tree_model.specs.Way.{Step, way, is_filtered}
use Rattle.mls_tree_model.specs.Merge.{merge_path}
use Rattle.mls_tree.specs.Paths.{merge_answer}
use Rattle.mls_treekem_model.specs.Chain.{node_key, keys_of_path}
use Rattle.mls_treekem_model.specs.Keys.{Keys, Exact, PrivateKeys, all_keys, HasExact}
use Rattle.mls_treekem_model.specs.Make.{Climb, key_if, secret_above, made_keys}
use Rattle.mls_treekem_model.proofs.MemberLaws.{exact_whole, exact_followed}
use Rattle.mls_treekem_model.proofs.WholeLaws.{made_exact}
use Rattle.mls_model.specs.PublicState.{PublicState}
use Rattle.mls_model.specs.Proposals.{extensions_after}
use Rattle.mls_model.specs.Candidate.{leaf_key_of, unsigned_leaf, signed_leaf}
use Rattle.mls_treekem_model.specs.Seeds.{path_seed}
use Rattle.mls_model.specs.Commit.{Edits, apply_path_if, public_with, next_public}
use Rattle.mls_model.specs.Member.{Member, with_keys, follow_edits}
use Rattle.mls_model.specs.Messages.{decode_message}
use Rattle.mls_model.specs.Make.{MadePath, Made, committed_leaf, no_path}
use Rattle.mls_model.specs.MemberInvariant.{IsGoodMember, IsGoodPending}
use Rattle.mls_model.specs.Claims.{IsMade}
use Rattle.mls_wire.proofs.CheckLaws.{then_ok}
use Rattle.mls_model.proofs.KeyLaws.{with_all_keys}
use Rattle.mls_theorems.specs.CommitCalls.{commit_of, said_of, tag_of, content_of, made_of, Makes}
use Rattle.mls_theorems.proofs.Makes.{make_did}
use Rattle.mls_theorems.specs.SentCommits.{IsNewPath, ReadsBack, sent_of}
use Rattle.mls_theorems.proofs.Sent.{path_did, made_fits}
use Rattle.mls_theorems.specs.OpenedPaths.{IsChange}
use Rattle.mls_theorems.proofs.Opened.{body_did, same_edits, one_tree}
use Rattle.mls_theorems.proofs.Received.{sender_is}
use Rattle.mls_theorems.proofs.CommitEntries.{body_is}
use Rattle.mls_theorems.specs.CommitLaws.{IsUntouched}
use Rattle.mls_theorems.proofs.Exact.{keys_back, has_followed}
use Rattle.mls_theorems.proofs.Staying.{edits_follow_committer}
use Rattle.mls_theorems.proofs.Stays.{taken}
use Rattle.mls_theorems.specs.PendingCommits.{MadePends}

-- ---- the keys of the maker

made_end : (c : Crypto) (ss : List Step) (start sk : List ℕ) → (xs : Keys) × (made_keys c ss start sk ≡ xs ++ (Some sk ∷ []))
unfolding made_keys
made_end c [] start sk = ([], refl)
made_end c (s ∷ ss) start sk =
    let r = made_end c ss start sk in
    (key_if (is_filtered s) (node_key c (secret_above ss start)) ∷ r.0, ap (λ (ks : Keys). key_if (is_filtered s) (node_key c (secret_above ss start)) ∷ ks) r.1)

made_back : (c : Crypto) (old : PrivateKeys) (ss : List Step) (start sk : List ℕ) → all_keys (with_keys old (made_keys c ss start sk)) ≡ made_keys c ss start sk
made_back c old ss start sk =
    let r = made_end c ss start sk in
    keys_back old sk (made_keys c ss start sk) (record { above = r.0; is = r.1 })

pub merge_is : (t : Term) (i : ℕ) (x : LeafNode) (keys : List (List ℕ)) (u : Term) → merge_answer t i x keys ≡ Ok u → merge_path t i x keys ≡ u
unfolding merge_answer
merge_is t i x keys u h = ok_is _ _ (then_ok _ _ _ h).1

leaf_key_is : (c : Crypto) (m : Member) (e : Edits) (old : LeafNode) (seed : List ℕ) → c.public (leaf_key_of c seed) ≡ (committed_leaf c m e old seed).encryption_key
unfolding committed_leaf signed_leaf unsigned_leaf
leaf_key_is c m e old seed = refl

keys_with_path : (c : Crypto) (m : Member) (carried : List Extension) (e : Edits) (seed : List ℕ) (path : MadePath) (new : IsNewPath c m carried e seed path) → HasExact c new.tree (with_keys m.keys path.climb.keys)
unfolding with_keys
keys_with_path c m carried e seed path new =
    let i : ℕ = m.keys.leaf in
    let start : List ℕ = path_seed seed in
    let sk : List ℕ = leaf_key_of c seed in
    let x : LeafNode = committed_leaf c m e new.old seed in
    let p : PrivateKeys = with_keys m.keys (made_keys c (way 0 e.tree i) start sk) in
    let exact : Exact c 0 (merge_path e.tree i x (keys_of_path c e.tree i start)) i (made_keys c (way 0 e.tree i) start sk) = made_exact c e.tree i x start sk (leaf_key_is c m e new.old seed) in
    let there : Exact c 0 new.tree i (made_keys c (way 0 e.tree i) start sk) = subst (λ (t : Term). Exact c 0 t i (made_keys c (way 0 e.tree i) start sk)) (merge_is e.tree i x _ new.tree new.tree_is) exact in
    let whole : HasExact c new.tree p = exact_whole c new.tree p (subst (λ (ks : Keys). Exact c 0 new.tree i ks) (sym (made_back c m.keys (way 0 e.tree i) start sk)) there) in
    subst (λ (k : Climb). HasExact c new.tree (with_keys m.keys k.keys)) (sym new.climb_is) whole

keys_alone : (c : Crypto) (m : Member) (e : Edits) → IsGoodMember c m → IsUntouched m.keys.leaf m.public.tree e → HasExact c e.tree (with_keys m.keys (all_keys (follow_edits None e.tree m.keys)))
unfolding follow_edits with_keys
keys_alone c m e good k =
    let new : PrivateKeys = follow_edits None e.tree m.keys in
    let exact : HasExact c e.tree new = exact_followed c m.public.tree e.tree m.keys new good.keys k.follows (has_followed None e.tree m.keys) in
    subst (λ (p : PrivateKeys). HasExact c e.tree p) (sym (with_all_keys m.keys new refl)) exact

pub merged_alone : (c : Crypto) (p : PublicState) (i : ℕ) (e : Edits) (t : Term) → apply_path_if c p i e None ≡ Ok t → e.tree ≡ t
unfolding apply_path_if
merged_alone c p i e t h = ok_is _ _ h

made_keys_exact : (c : Crypto) (m : Member) (list : List ProposalOrRef) (wants_path : Bool) (seed : List ℕ) (made : Made) (k : Makes c m list wants_path seed made) → IsGoodMember c m →
    IsNewPath c m (extensions_after m.public.context.extensions k.used) k.edits seed k.path ⊎ (k.path ≡ no_path m k.edits) → HasExact c k.change.tree (with_keys m.keys k.path.climb.keys)
unfolding commit_of no_path
made_keys_exact c m list wants_path seed made k good (inl new) =
    let d : IsChange c m.public m.keys.leaf k.used (commit_of list k.path) k.change = body_did c m.public m.keys.leaf k.used (commit_of list k.path) _ _ k.change k.change_is in
    let same : k.change.edits ≡ k.edits = same_edits c m.public m.keys.leaf k.used k.change.edits k.edits d.edits_are k.edits_are in
    let tree : k.change.tree ≡ new.tree = one_tree c m _ k.edits seed k.path k.change.tree new (sym (ap (λ (x : Edits). apply_path_if c m.public m.keys.leaf x k.path.path) same) ∙ d.merges) in
    subst (λ (t : Term). HasExact c t (with_keys m.keys k.path.climb.keys)) (sym tree) (keys_with_path c m _ k.edits seed k.path new)
made_keys_exact c m list wants_path seed made k good (inr none) =
    let d : IsChange c m.public m.keys.leaf k.used (commit_of list k.path) k.change = body_did c m.public m.keys.leaf k.used (commit_of list k.path) _ _ k.change k.change_is in
    let same : k.change.edits ≡ k.edits = same_edits c m.public m.keys.leaf k.used k.change.edits k.edits d.edits_are k.edits_are in
    let tree : k.edits.tree ≡ k.change.tree = merged_alone c m.public m.keys.leaf k.edits k.change.tree
    (sym (ap (λ (x : MadePath). apply_path_if c m.public m.keys.leaf k.edits x.path) none) ∙ sym (ap (λ (x : Edits). apply_path_if c m.public m.keys.leaf x k.path.path) same) ∙ d.merges) in
    let kept : IsUntouched m.keys.leaf m.public.tree k.edits = edits_follow_committer c m.public m.keys.leaf k.used k.edits k.edits_are (taken _ _ good.own good.is_own) in
    subst (λ (t : Term). HasExact c t (with_keys m.keys k.path.climb.keys)) tree
    (subst (λ (x : MadePath). HasExact c k.edits.tree (with_keys m.keys x.climb.keys)) (sym none) (keys_alone c m k.edits good kept))

next_is : (c : Crypto) (m : Member) (list : List ProposalOrRef) (wants_path : Bool) (seed : List ℕ) (made : Made) (k : Makes c m list wants_path seed made) →
    next_public c m.public m.keys.leaf k.used (commit_of list k.path) (framed_content_of (sent_of c m list k.path k.change).content) (sent_of c m list k.path k.change).content.signature (tag_of m k.path k.change) ≡ Ok (public_with k.change (tag_of m k.path k.change))
unfolding next_public sent_of content_of said_of Rattle.mls_model.specs.Messages.content_by commit_of
next_is c m list wants_path seed made k = rw k.change_is refl

-- by what was made, before it has its name
pends_by : (c : Crypto) (m : Member) (list : List ProposalOrRef) (made : Made) (is : IsMade c m list made) (k : Makes c m list is.wants_path is.seed made) → IsGoodPending c m (made_of c m list k.path k.change k.welcome).pending
unfolding made_of commit_of public_with with_keys tag_of
pends_by c m list made is k =
    let reads : ReadsBack made.commit (sent_of c m list k.path k.change) = made_fits c m list is.wants_path is.seed made k is.good is.fits in
    record {
      said = sent_of c m list k.path k.change;
      commit = commit_of list k.path;
      tag = tag_of m k.path k.change;
      used = k.used;
      fits = reads.fits;
      decodes = ap (λ (x : Made). decode_message x.commit) k.made_is ∙ reads.decodes;
      says = body_is c m list k.path k.change;
      from = sender_is c m list k.path k.change;
      below = k.below;
      uses = k.uses;
      next = next_is c m list is.wants_path is.seed made k;
      confirmed = refl;
      keys = made_keys_exact c m list is.wants_path is.seed made k is.good (path_did c m k.used k.edits is.wants_path is.seed k.path k.path_is);
      leaf = refl;
    }

pub made_pends : MadePends
made_pends c m list made is =
    let k = make_did c m list is.wants_path is.seed made is.is in
    subst (λ (x : Made). IsGoodPending c m x.pending) k.made_is (pends_by c m list made is k)
