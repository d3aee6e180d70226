-- Exact keys stay exact over a commit.
use Rattle.std.proofs.Common.{◌≡◌, ℕ, zero, suc, ◌==◌, if◌then◌else◌, false, List, [], ◌∷◌, ◌++◌, length, replicate, slice_get, Option, Some, None, is_some, Ok, refl, sym, ◌∙◌, ap, ap₂, subst, arith, ne_eqb}
use Rattle.std.specs.List.{AllByRecursion}
use Rattle.mls_leaf.specs.Parent.{Parent}
use Rattle.mls_leaf.specs.declared.leaf.LeafNode.{LeafNode}
use Rattle.mls_types.specs.GroupContext.{group_context}
use Rattle.mls_types.specs.declared.update_path.UpdatePath.{UpdatePath}
use Rattle.mls_suite.specs.Crypto.{Crypto}
use Rattle.mls_tree_model.specs.Term.{Term, leaf_at, leaf_of}
use Rattle.mls_tree_model.specs.Way.{Step, way}
use Rattle.mls_tree_model.specs.Merge.{merge_path}
use Rattle.mls_treekem_model.specs.Follow.{leaf_key_after, follow_edit}
use Rattle.mls_treekem_model.specs.Height.{HasFollowed}
use Rattle.mls_treekem_model.proofs.HeightLaws.{length-end}
use Rattle.mls_treekem_model.specs.Keys.{Keys, HoldsDueKey, AreKeysAlong, Exact, PrivateKeys, all_keys, key_above, keys_on, HasExact}
use Rattle.mls_treekem_model.specs.Laws.{AreTwo}
use Rattle.mls_treekem_model.specs.Make.{Climb}
use Rattle.mls_treekem_model.proofs.MemberLaws.{exact_whole, exact_followed, exact_updated}
use Rattle.mls_treekem_model.specs.Open.{opened_path}
use Rattle.mls_treekem_model.proofs.WholeLaws.{opened_exact}
use Rattle.mls_model.specs.Proposals.{updates, updated_leaves}
use Rattle.mls_model.specs.Commit.{Change, apply_path_if, node_keys}
use Rattle.mls_model.specs.Member.{Member, keys_above_leaf, leaf_key_or, with_keys, follow_edits}
use Rattle.mls_model.specs.Verdict.{open_path_secret}
use Rattle.mls_theorems.specs.CommitLaws.{IsRenewed}
use Rattle.mls_theorems.specs.KeyLaws.{MemberStands, FollowedExact, KeysNext}
use Rattle.mls_theorems.proofs.Inversion.{edited_steps, with_path_steps, body_steps}
use Rattle.mls_tree_model.proofs.TakenLaws.{taken_at, some_at, taken_in}
use Rattle.mls_model.proofs.KeyLaws.{above_end, own_end, with_all_keys, leaf_stays}
use Rattle.mls_theorems.proofs.Staying.{kept_by, edits_renew}

-- ---- keys and their last one

-- keys that end in the leaf's
pub record EndsIn (own : Option (List ℕ)) (ks : Keys) : Type 0 where
  pub above : Keys
  pub is : ks ≡ above ++ (own ∷ [])

-- written into a member they are all its keys
pub keys_back : (old : PrivateKeys) (own : List ℕ) (ks : Keys) → EndsIn (Some own) ks → all_keys (with_keys old ks) ≡ ks
unfolding with_keys
keys_back old own ks h =
    ap₂ (λ (above : Keys) (k : List ℕ). above ++ (Some k ∷ []))
    (ap keys_above_leaf h.is ∙ above_end h.above own)
    (ap (leaf_key_or old.own) h.is ∙ own_end old.own h.above own)
    ∙ sym h.is

-- so do keys that followed edits
follow_ends : (own : Option (List ℕ)) (ss : List Step) (ks : Keys) → EndsIn (leaf_key_after own ks) (follow_edit own ss ks)
unfolding follow_edit
follow_ends own [] ks = record { above = []; is = refl }
follow_ends own (s ∷ ss) ks =
    let rest = follow_ends own ss ks in
    record { above = (if is_some s.parent then key_above (suc (length ss)) ks else None) ∷ rest.above; is = ap (λ xs. (if is_some s.parent then key_above (suc (length ss)) ks else None) ∷ xs) rest.is }

lowest_key : (ks : Keys) (own : List ℕ) → key_above 0 (ks ++ (Some own ∷ [])) ≡ Some own
unfolding key_above
lowest_key [] own = refl
lowest_key (k ∷ ks) own =
    let some : length (ks ++ (Some own ∷ [])) ≡ suc (length ks) = length-end ks (Some own) in
    let e : (length (ks ++ (Some own ∷ [])) == 0) ≡ false = ne_eqb _ 0 (λ q. absurd (omega arith)) in
    rw e (lowest_key ks own)

-- and exact ones
along_ends : (c : Crypto) (F : Option Parent → Option (List ℕ) → Type 0) (ss : List Step) (x : Option LeafNode) (ks : Keys) → AreKeysAlong c F ss x ks → (own : List ℕ) × EndsIn (Some own) ks
unfolding AreKeysAlong
along_ends c F [] (Some x) (Some k ∷ []) h = (k, record { above = []; is = refl })
along_ends c F [] (Some x) (Some k ∷ (o ∷ ks)) h = absurd h
along_ends c F [] (Some x) (None ∷ ks) h = absurd h
along_ends c F [] (Some x) [] h = absurd h
along_ends c F [] None ks h = absurd h
along_ends c F (s ∷ ss) x [] h = absurd h
along_ends c F (s ∷ ss) x (o ∷ ks) h =
    let rest = along_ends c F ss x ks h.1 in
    (rest.0, record { above = o ∷ rest.1.above; is = ap (λ xs. o ∷ xs) rest.1.is })

-- ---- the edits

leaf_after : (own : Option (List ℕ)) (old : PrivateKeys) → (k : List ℕ) × (leaf_key_after own (all_keys old) ≡ Some k)
leaf_after None old = (old.own, lowest_key old.above old.own)
leaf_after (Some k) old = (k, refl)

pub has_followed : (own : Option (List ℕ)) (t : Term) (old : PrivateKeys) → HasFollowed own t old (follow_edits own t old)
unfolding follow_edits with_keys
has_followed own t old =
    let last = leaf_after own old in
    let ends = subst (λ o. EndsIn o (follow_edit own (way 0 t old.leaf) (all_keys old))) last.1 (follow_ends own (way 0 t old.leaf) (all_keys old)) in
    record { leaf = refl; keys = keys_back old last.0 (follow_edit own (way 0 t old.leaf) (all_keys old)) ends }

pub one_at : {A : Type 0} (P : A → Type 0) (xs : List A) (n : ℕ) (x : A) → AllByRecursion P xs → slice_get xs n ≡ Some x → P x
one_at P [] n x h e = absurd cc
one_at P (y ∷ xs) zero x h e = let same : y ≡ x = cc in subst P same h.0
one_at P (y ∷ xs) (suc n) x h e = one_at P xs n x h.1 e

pub followed_exact : FollowedExact
unfolding updated_leaves
followed_exact c p i used e None old h some r none had =
    let s = edited_steps c p i used e h in
    let x = some_at (leaf_of p.tree old.leaf) some in
    let kept = kept_by c p i used e old.leaf x.0 s x.1 none r in
    exact_followed c p.tree e.tree old (follow_edits None e.tree old) had kept.follows (has_followed None e.tree old)
followed_exact c p i used e (Some key) old h some r own had =
    let renewed = one_at (IsRenewed p.tree e) (updates used) own.place (old.leaf, own.leaf) (edits_renew c p i used e h) own.at in
    exact_updated c p.tree e.tree own.leaf key old (follow_edits (Some key) e.tree old) own.fits renewed.follows (has_followed (Some key) e.tree old)

-- ---- the path

-- exact keys are so when they are written into a member at their leaf
pub exact_written : (c : Crypto) (t : Term) (old : PrivateKeys) (ks : Keys) → Exact c 0 t old.leaf ks → HasExact c t (with_keys old ks)
exact_written c t old ks exact =
    let ends = along_ends c (HoldsDueKey c old.leaf) (way 0 t old.leaf) (leaf_at 0 t old.leaf) ks exact in
    let back = keys_back old ends.0 ks ends.1 in
    let at = subst (λ j. Exact c 0 t j ks) (sym (leaf_stays old ks)) exact in
    exact_whole c t (with_keys old ks) (subst (λ (zs : Keys). Exact c 0 t (with_keys old ks).leaf zs) (sym back) at)

path_exact : (c : Crypto) (context added : List ℕ) (t : Term) (i : ℕ) (path : UpdatePath) (old keys : PrivateKeys) (climb : Climb) → AreTwo 0 t i keys.leaf → keys.leaf ≡ old.leaf → HasExact c t keys → opened_path c context added t i keys.leaf (keys_on t keys) path.nodes ≡ Ok climb →
    HasExact c (merge_path t i path.leaf_node (node_keys path)) (with_keys old climb.keys)
path_exact c context added t i path old keys climb two same had opens =
    let u = merge_path t i path.leaf_node (node_keys path) in
    let exact = opened_exact c context added t i keys.leaf path.leaf_node (keys_on t keys) path.nodes climb two had.keys opens in
    exact_written c u old climb.keys (subst (λ j. Exact c 0 u j climb.keys) same exact)

-- where the member stands after the edits
pub member_stands : MemberStands
unfolding updated_leaves
member_stands c p i used e None j h some r none =
    let s = edited_steps c p i used e h in
    let x = some_at (leaf_of p.tree j) some in
    let kept = kept_by c p i used e j x.0 s x.1 none r in
    record { leaf = x.0; is_leaf = kept.leaf ∙ x.1; old = kept.old }
member_stands c p i used e (Some key) j h some r own =
    let renewed = one_at (IsRenewed p.tree e) (updates used) own.place (j, own.leaf) (edits_renew c p i used e h) own.at in
    record { leaf = own.leaf; is_leaf = renewed.leaf; old = renewed.old }

module _ (c : Crypto) (m : Member) (i : ℕ) (change : Change) (keys : PrivateKeys) (climb : Climb) (same : keys.leaf ≡ m.keys.leaf) (two : AreTwo 0 change.edits.tree i keys.leaf) (had : HasExact c change.edits.tree keys) where
  climbed_exact : (path : Option UpdatePath) → apply_path_if c m.public i change.edits path ≡ Ok change.tree → open_path_secret c m i change keys path ≡ Ok climb → HasExact c change.tree (with_keys m.keys climb.keys)
  unfolding apply_path_if open_path_secret
  climbed_exact None is takes =
      let tree : change.edits.tree ≡ change.tree = cc in
      let all : all_keys keys ≡ climb.keys = (let made : Climb = record { secret = replicate 32 0; keys = all_keys keys } in let e : made ≡ climb = cc in ap (λ (d : Climb). d.keys) e) in
      subst (λ t. HasExact c t (with_keys m.keys climb.keys)) tree (subst (HasExact c change.edits.tree) (sym (with_all_keys m.keys keys same) ∙ ap (with_keys m.keys) all) had)
  climbed_exact (Some path) is takes =
      let w = with_path_steps c m.public i change.edits path change.tree is in
      let opens : opened_path c (group_context.spell change.provisional) change.edits.added change.edits.tree i keys.leaf (keys_on change.edits.tree keys) path.nodes ≡ Ok climb = subst (λ j. opened_path c (group_context.spell change.provisional) change.edits.added change.edits.tree i j (keys_on change.edits.tree keys) path.nodes ≡ Ok climb) (sym same) takes in
      subst (λ t. HasExact c t (with_keys m.keys climb.keys)) (sym w.tree) (path_exact c (group_context.spell change.provisional) change.edits.added change.edits.tree i path m.keys keys climb two same had opens)

pub keys_next : KeysNext
keys_next c m i used commit said signature change own climb h maker some apart r owns had takes =
    let b = body_steps c m.public i used commit said signature change h in
    let s = edited_steps c m.public i used change.edits b.edits in
    let x = some_at (leaf_of m.public.tree i) maker in
    let kept = kept_by c m.public i used change.edits i x.0 s x.1 s.not_updated s.not_removed in
    let first = taken_at change.edits.tree i x.0 (kept.leaf ∙ x.1) in
    let second = member_stands c m.public i used change.edits own m.keys.leaf b.edits some r owns in
    let keys = follow_edits own change.edits.tree m.keys in
    let same : keys.leaf ≡ m.keys.leaf = (has_followed own change.edits.tree m.keys).leaf in
    let two : AreTwo 0 change.edits.tree i m.keys.leaf = record { first = taken_in change.edits.tree i x.0 first; second = taken_in change.edits.tree m.keys.leaf second.leaf (taken_at change.edits.tree m.keys.leaf second.leaf second.is_leaf); apart = λ q. apart (sym q) } in
    climbed_exact c m i change keys climb same (subst (AreTwo 0 change.edits.tree i) (sym same) two) (followed_exact c m.public i used change.edits own m.keys b.edits some r owns had) commit.path b.path_merged takes
