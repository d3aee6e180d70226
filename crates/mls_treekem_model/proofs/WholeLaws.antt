-- The laws in whole trees.
use Rattle.std.proofs.Common.{◌≡◌, ℕ, suc, Bool, true, false, if◌then◌else◌, List, [], ◌∷◌, map, filter, reverse, length, Option, Some, None, is_some, IsSome, Ok, refl, ap, ap₂, sym, ◌∙◌, subst, arith}
use Rattle.std.specs.Option.{option_map}
use Rattle.std.proofs.lemmas.Bool.{true≢false}
use Rattle.std.proofs.lemmas.List.{reverse-reverse}
use Rattle.mls_wire.specs.Checks.{require_some}
use Rattle.mls_types.specs.declared.update_path.HpkeCiphertext.{HpkeCiphertext}
use Rattle.mls_types.specs.declared.update_path.UpdatePathNode.{UpdatePathNode}
use Rattle.mls_leaf.specs.declared.leaf.LeafNode.{LeafNode}
use Rattle.mls_treemath.proofs.Steered.{map_reverse}
use Rattle.mls_tree_model.specs.Term.{Term, height, blanks, leaf_at}
use Rattle.mls_tree_model.specs.Way.{Step, way, is_filtered, filtered_way, filtered_path, path_length}
use Rattle.mls_tree_model.specs.Edits.{put, enter, grow, trim, first_blank, place_for, room_for, place_in, add, update, remove}
use Rattle.mls_tree_model.specs.Merge.{merge, merge_path, keys_beside, hash_beside}
use Rattle.mls_tree_model.proofs.Equations.{way_left}
use Rattle.mls_tree_model.specs.Laws.{IsIn}
use Rattle.mls_tree_model.proofs.ShapeLaws.{width-put}
use Rattle.mls_tree_model.proofs.PlaceLaws.{first_blank_at, width-grow}
use Rattle.mls_suite.specs.Crypto.{Crypto}
use Rattle.mls_treekem_model.specs.Chain.{chain, chain_keys, keys_of_path}
use Rattle.mls_treekem_model.specs.Keys.{HoldsDueKey, Exact, rest}
use Rattle.mls_treekem_model.specs.Make.{Climb, filtered_count, secret_above, made_keys, path_keys}
use Rattle.mls_treekem_model.specs.Seal.{Choose, targets, sealed_path, seal_along, IsSealedToAll, IsNodeFor, IsPathOf}
use Rattle.mls_treekem_model.specs.Open.{opened_along, opened_secret, opened_path, climb_open}
use Rattle.mls_treekem_model.specs.Join.{take_keys, AllList, secret_for}
use Rattle.mls_treekem_model.specs.Laws.{AreTwo}
use Rattle.mls_treekem_model.specs.Whole.{SecretMerged, OpenedIsSent, AddKeepsListed, AddedIsListed, FilteredMerged, FollowsAdd, FollowsRemove, FollowsUpdate, LengthMerged, MadeExact, MadeMerged, OpenedAgrees, OpenedExact, OpenedMerged, RefusedWhereUnfit, SealedKeys, SealedLengths, SealedMerged, SealedWhereFit, SecretForMerged, TakenAgrees}
use Rattle.mls_treekem_model.proofs.FollowLaws.{tame_refl, tame_put, tame_enter}
use Rattle.mls_treekem_model.proofs.OnePassLaws.{follows_trans, follows_tame, follows_grow, follows_trim}
use Rattle.mls_treekem_model.proofs.MakeLaws.{merged_step, merged_way, way_merge, keys_are_chain, keys_of_secrets, count_is_length, make_exact}
use Rattle.mls_treekem_model.proofs.MergedLaws.{secret_along, make_merged, count_along, seal_merged, open_merged, opened_along_merged, path_has_keys}
use Rattle.mls_treekem_model.proofs.SealLaws.{made_path, path_some}
use Rattle.mls_treekem_model.proofs.OpenLaws.{climb_exact, climb_agree, opened_along_is, good_sides}
use Rattle.mls_treekem_model.proofs.MeetLaws.{meets_from}
use Rattle.mls_treekem_model.proofs.JoinLaws.{take_agree, entered_lists, tame_lists}
use Rattle.mls_treekem_model.specs.Tame.{Tame, TameEdits}

-- ---- edits

pub follows_update : FollowsUpdate
unfolding update
follows_update t i j x two = follows_tame j t (put 0 t i (Some x)) (tame_put j 0 t i (Some x) two.apart two.first two.second)

pub follows_remove : FollowsRemove
unfolding remove
follows_remove t i j two taken =
    let tame : Tame j 0 t (put 0 t i None) = tame_put j 0 t i None two.apart two.first two.second in
    let size = width-put 0 t i None in
    let second : IsIn 0 t j = two.second in
    follows_trans j t (put 0 t i None) (trim (put 0 t i None)) (follows_tame j t (put 0 t i None) tame)
    (follows_trim (put 0 t i None) j (record { low = second.low; high = rw size second.high }) (sym (ap is_some tame.leaf) ∙ taken))

-- the place of an add is another's, in the room that is made for it
record IsPlace (t u : Term) (i j : ℕ) : Type 0 where
  two : AreTwo 0 u i j
  follows : TameEdits j t u

place_of : (t : Term) (j : ℕ) (o : Option ℕ) → first_blank 0 t ≡ o → IsIn 0 t j → IsSome (leaf_at 0 t j) → IsPlace t (room_for o t) (place_for o t) j
place_of t j None e inside taken =
    let wide = width-grow t in
    record {
      two = record {
        first = record { low = omega arith; high = omega arith };
        second = record { low = inside.low; high = omega arith };
        apart = λ q. absurd (omega arith);
      };
      follows = follows_grow t j inside;
    }
place_of t j (Some i) e inside taken =
    let f = first_blank_at 0 t i e in
    record {
      two = record {
        first = record { low = f.0; high = f.1 };
        second = inside;
        apart = λ q. true≢false (sym taken ∙ ap is_some (ap (leaf_at 0 t) q ∙ f.2));
      };
      follows = follows_tame j t t (tame_refl j 0 t);
    }

pub follows_add : FollowsAdd
unfolding add
follows_add t j x inside taken =
    let p = place_of t j (first_blank 0 t) refl inside taken in
    let two : AreTwo 0 (room_for (first_blank 0 t) t) (place_in t) j = p.two in
    follows_trans j t (room_for (first_blank 0 t) t) (enter 0 (room_for (first_blank 0 t) t) (place_in t) x) p.follows
    (follows_tame j (room_for (first_blank 0 t) t) (enter 0 (room_for (first_blank 0 t) t) (place_in t) x) (tame_enter j 0 (room_for (first_blank 0 t) t) (place_in t) x two.apart two.first two.second))

pub added_is_listed : AddedIsListed
unfolding add
added_is_listed t x = entered_lists 0 (room_for (first_blank 0 t) t) (place_in t) x

room_lists : (t : Term) (j : ℕ) (o : Option ℕ) → IsIn 0 t j → AllList j (way 0 t j) → AllList j (way 0 (room_for o t) j)
unfolding grow AllList
room_lists t j None inside h = rw (way_left 0 None t (blanks (height t)) j inside.high) (tt, h)
room_lists t j (Some i) inside h = h

pub add_keeps_listed : AddKeepsListed
unfolding add
add_keeps_listed t j x inside taken h =
    let p = place_of t j (first_blank 0 t) refl inside taken in
    let two : AreTwo 0 (room_for (first_blank 0 t) t) (place_in t) j = p.two in
    let tame = tame_enter j 0 (room_for (first_blank 0 t) t) (place_in t) x two.apart two.first two.second in
    tame_lists j (way 0 (room_for (first_blank 0 t) t) j) (way 0 (enter 0 (room_for (first_blank 0 t) t) (place_in t) x) j) (room_lists t j (first_blank 0 t) inside h) tame.along

-- ---- the highest first, and the lowest first

-- the keys of a path, the highest first
pub reversed_keys : (c : Crypto) (t : Term) (i : ℕ) (start : List ℕ) → reverse (keys_of_path c t i start) ≡ path_keys c (way 0 t i) start
reversed_keys c t i start =
    keys_of_secrets c start (path_length 0 t i)
    ∙ ap (chain_keys c start) (sym (count_is_length 0 t i))
    ∙ sym (keys_are_chain c (way 0 t i) start)

merge_of : (c : Crypto) (t : Term) (i : ℕ) (x : LeafNode) (start : List ℕ) → merge_path t i x (keys_of_path c t i start) ≡ merge 0 t i (path_keys c (way 0 t i) start) [] x
unfolding merge_path
merge_of c t i x start = ap (λ ks. merge 0 t i ks [] x) (reversed_keys c t i start)

-- a path that is made, the highest first
pub record IsSealed (c : Crypto) (context : List ℕ) (added : List ℕ) (rnd : ℕ → List ℕ) (t : Term) (i : ℕ) (start : List ℕ) (path : List UpdatePathNode) : Type 0 where
  pub nodes : List UpdatePathNode
  pub sealed : seal_along c context added rnd (way 0 t i) start ≡ Some nodes
  pub turned : path ≡ reverse nodes

pub sealed_is : (c : Crypto) (context : List ℕ) (added : List ℕ) (rnd : ℕ → List ℕ) (t : Term) (i : ℕ) (start : List ℕ) (path : List UpdatePathNode) → sealed_path c context added rnd t i start ≡ Ok path → IsSealed c context added rnd t i start path
unfolding sealed_path
sealed_is c context added rnd t i start path h = by_nodes (seal_along c context added rnd (way 0 t i) start) refl h
  where
    by_nodes : (o : Option (List UpdatePathNode)) → seal_along c context added rnd (way 0 t i) start ≡ o → require_some 36 (option_map reverse o) ≡ Ok path → IsSealed c context added rnd t i start path
    by_nodes (Some ns) e h = record { nodes = ns; sealed = e; turned = cc }
    by_nodes None e h = cc

pub sealed_keys : SealedKeys
sealed_keys c context added rnd t i start path h =
    let s = sealed_is c context added rnd t i start path h in
    let p = path_has_keys c context added start (way 0 t i) s.nodes (made_path c context added rnd (way 0 t i) start s.nodes s.sealed) in
    ap (map (λ (n : UpdatePathNode). n.encryption_key)) s.turned
    ∙ map_reverse (λ (n : UpdatePathNode). n.encryption_key) s.nodes
    ∙ ap reverse (p ∙ sym (reversed_keys c t i start))
    ∙ reverse-reverse (keys_of_path c t i start)

-- a ciphertext for each node
pub all_sealed : (c : Crypto) (context secret : List ℕ) (b : ℕ) (t : Term) (ds : List ℕ) (xs : List HpkeCiphertext) → IsSealedToAll c context secret b t ds xs → length xs ≡ length ds
unfolding IsSealedToAll
all_sealed c context secret b t [] [] p = refl
all_sealed c context secret b t [] (x ∷ xs) p = absurd p
all_sealed c context secret b t (d ∷ ds) [] p = absurd p
all_sealed c context secret b t (d ∷ ds) (x ∷ xs) p = ap suc (all_sealed c context secret b t ds xs p.1)

path_lengths : (c : Crypto) (context : List ℕ) (added : List ℕ) (start : List ℕ) (ss : List Step) (ns : List UpdatePathNode) → IsPathOf c context added ss start ns → map (λ n. length n.ciphertexts) ns ≡ map (λ s. length (targets added s)) (filter is_filtered ss)
unfolding IsPathOf
path_lengths c context added start [] ns p = ap (λ zs. map (λ (n : UpdatePathNode). length n.ciphertexts) zs) p
path_lengths c context added start (s ∷ ss) ns p = by_test (is_filtered s) ns p (path_lengths c context added start ss)
  where
    by_test : (t : Bool) (ns : List UpdatePathNode) →
        Choose t (IsNodeFor c context added s (secret_above ss start) ns × IsPathOf c context added ss start (rest ns)) (IsPathOf c context added ss start ns) →
        ((ns : List UpdatePathNode) → IsPathOf c context added ss start ns → map (λ n. length n.ciphertexts) ns ≡ map (λ s. length (targets added s)) (filter is_filtered ss)) →
        map (λ n. length n.ciphertexts) ns ≡ map (λ s. length (targets added s)) (if t then s ∷ filter is_filtered ss else filter is_filtered ss)
    by_test true [] p rec = absurd p.0
    by_test true (n ∷ ns) p rec = ap₂ (λ k ks. k ∷ ks) (all_sealed c context (secret_above ss start) s.first s.other (targets added s) n.ciphertexts p.0.1) (rec ns p.1)
    by_test false ns p rec = rec ns p

pub sealed_lengths : SealedLengths
unfolding filtered_way
sealed_lengths c context added rnd t i start path h =
    let s = sealed_is c context added rnd t i start path h in
    ap (map (λ (n : UpdatePathNode). length n.ciphertexts)) s.turned
    ∙ map_reverse (λ (n : UpdatePathNode). length n.ciphertexts) s.nodes
    ∙ ap reverse (path_lengths c context added start (way 0 t i) s.nodes (made_path c context added rnd (way 0 t i) start s.nodes s.sealed))

is_there : {A : Type 0} (o : Option A) → is_some o ≡ true → (x : A) × (o ≡ Some x)
is_there (Some x) h = (x, refl)
is_there None h = cc

is_missing : {A : Type 0} (o : Option A) → is_some o ≡ false → o ≡ None
is_missing (Some x) h = cc
is_missing None h = refl

pub sealed_where_fit : SealedWhereFit
unfolding sealed_path
sealed_where_fit c l context added rnd t i start h =
    let s = is_there (seal_along c context added rnd (way 0 t i) start) (path_some c l context added rnd (way 0 t i) start ∙ h) in
    (reverse s.0, ap (λ o. require_some 36 (option_map reverse o)) s.1)

pub refused_where_unfit : RefusedWhereUnfit
unfolding sealed_path
refused_where_unfit c l context added rnd t i start h =
    ap (λ o. require_some 36 (option_map reverse o)) (is_missing (seal_along c context added rnd (way 0 t i) start) (path_some c l context added rnd (way 0 t i) start ∙ h))

pub sealed_merged : SealedMerged
unfolding sealed_path merge_path
sealed_merged c context added rnd t i x keys start = ap (λ o. require_some 36 (option_map reverse o)) (seal_merged c context added rnd 0 t i (reverse keys) [] x start)

pub opened_merged : OpenedMerged
unfolding opened_path merge_path
opened_merged c context added t i j x keys ks path = open_merged c context added 0 t i j (reverse keys) [] x ks (reverse path)

pub secret_merged : SecretMerged
unfolding opened_secret merge_path
secret_merged c context added t i j x keys ks path = opened_along_merged c context added 0 t i j (reverse keys) [] x ks (reverse path)

pub made_exact : MadeExact
made_exact c t i x start sk h = subst (λ (u : Term). Exact c 0 u i (made_keys c (way 0 t i) start sk)) (sym (merge_of c t i x start)) (make_exact c 0 t i [] x start sk h)

pub made_merged : MadeMerged
unfolding merge_path
made_merged c t i x keys start sk = ap (λ (m : Climb). m.keys) (make_merged c 0 t i (reverse keys) [] x start sk)

pub length_merged : LengthMerged
unfolding merge_path
length_merged t i x keys =
    sym (count_is_length 0 (merge 0 t i (reverse keys) [] x) i)
    ∙ ap filtered_count (way_merge 0 t i (reverse keys) [] x)
    ∙ count_along (way 0 t i) (reverse keys) []
    ∙ count_is_length 0 t i

filtered_more : (t : Bool) (s s' : Step) (xs ys : List Step) → s'.node ≡ s.node → map (λ (z : Step). z.node) xs ≡ map (λ (z : Step). z.node) ys → map (λ (z : Step). z.node) (if t then s' ∷ xs else xs) ≡ map (λ (z : Step). z.node) (if t then s ∷ ys else ys)
filtered_more true s s' xs ys e f = ap₂ (λ n ns. n ∷ ns) e f
filtered_more false s s' xs ys e f = f

filtered_along : (ss : List Step) (ms : List (List ℕ)) (h : List ℕ) → map (λ (z : Step). z.node) (filter is_filtered (merged_way ss ms h)) ≡ map (λ (z : Step). z.node) (filter is_filtered ss)
unfolding merged_way
filtered_along [] ms h = refl
filtered_along (s ∷ ss) ms h =
    let ms' : List (List ℕ) = keys_beside s.first s.other ms in
    let h' : List ℕ = hash_beside s.first s.other ms h in
    filtered_more (is_filtered s) s (merged_step s ms h) (filter is_filtered (merged_way ss ms' h')) (filter is_filtered ss) refl (filtered_along ss ms' h')

pub filtered_merged : FilteredMerged
unfolding filtered_path filtered_way merge_path
filtered_merged t i x keys =
    ap (λ ss. reverse (map (λ (z : Step). z.node) (filter is_filtered ss))) (way_merge 0 t i (reverse keys) [] x)
    ∙ ap reverse (filtered_along (way 0 t i) (reverse keys) [])

pub opened_exact : OpenedExact
unfolding opened_path merge_path
opened_exact c context added t i j x ks path m two exact h =
    subst (λ (zs : List (List ℕ)). Exact c 0 (merge 0 t i zs [] x) j m.keys) (map_reverse (λ (n : UpdatePathNode). n.encryption_key) path)
    (climb_exact c context added 0 t i j ks (reverse path) [] x m two.first two.second two.apart exact h)

pub opened_agrees : OpenedAgrees
unfolding opened_path
opened_agrees c l context added rnd t i j start ks path long two good exact old h =
    let s = sealed_is c context added rnd t i start path h in
    let p : IsPathOf c context added (way 0 t i) start s.nodes = made_path c context added rnd (way 0 t i) start s.nodes s.sealed in
    let agree = climb_agree c l context added 0 t i j start start ks s.nodes long two.first two.second two.apart good exact old p in
    let turned : reverse path ≡ s.nodes = ap reverse s.turned ∙ reverse-reverse s.nodes in
    (_, ap (climb_open c context added (way 0 t i) j ks) turned ∙ agree, ap (chain start) (count_is_length 0 t i))

pub opened_is_sent : OpenedIsSent
unfolding opened_secret
opened_is_sent c l context added rnd t i j start ks path long two good exact old h =
    let s = sealed_is c context added rnd t i start path h in
    let p : IsPathOf c context added (way 0 t i) start s.nodes = made_path c context added rnd (way 0 t i) start s.nodes s.sealed in
    let turned : reverse path ≡ s.nodes = ap reverse s.turned ∙ reverse-reverse s.nodes in
    ap (opened_along c context added (way 0 t i) j ks) turned
    ∙ opened_along_is c l context added j start long old (way 0 t i) ks s.nodes (good_sides 0 t i good) (meets_from c (HoldsDueKey c j) i j two.apart 0 t ks two.first two.second exact) p

pub taken_agrees : TakenAgrees
taken_agrees c t i j x y start own two leaf is_own lists =
    let agree = take_agree c t i j [] x y start start own two.first two.second two.apart leaf is_own lists in
    (_, ap (λ u. take_keys c u i j own (secret_for (way 0 t i) j start)) (merge_of c t i x start) ∙ agree, ap (chain start) (count_is_length 0 t i))

secret_for_along : (ss : List Step) (j : ℕ) (ms : List (List ℕ)) (h start : List ℕ) → secret_for (merged_way ss ms h) j start ≡ secret_for ss j start
unfolding merged_way secret_for
secret_for_along [] j ms h start = refl
secret_for_along (s ∷ ss) j ms h start =
    let ms' : List (List ℕ) = keys_beside s.first s.other ms in
    let h' : List ℕ = hash_beside s.first s.other ms h in
    let e = secret_along ss ms' h' start in
    let f = secret_for_along ss j ms' h' start in
    rw (e, f) refl

pub secret_for_merged : SecretForMerged
unfolding merge_path
secret_for_merged t i j x keys start = ap (λ ss. secret_for ss j start) (way_merge 0 t i (reverse keys) [] x) ∙ secret_for_along (way 0 t i) j (reverse keys) [] start
