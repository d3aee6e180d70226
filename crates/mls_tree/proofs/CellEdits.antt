-- What the changes of an edit make of the cells of a whole tree.
use Rattle.std.proofs.Common.{◌≡◌, ℕ, suc, ◌+◌, ◌*◌, ◌^◌, ◌<◌, ◌++◌, Bool, true, List, [], length, take, reverse, replicate, All, Option, Some, None, sym, ◌∙◌, ap, subst, arith, add-one, length-append}
use Rattle.std.specs.Prelude.{Result, Ok, Err, OnOk, OnErr}
use Rattle.std.proofs.lemmas.List.{take_at, length-replicate}
use Rattle.mls_leaf.specs.declared.leaf.LeafNode.{LeafNode}
use Rattle.mls_leaf.specs.declared.node.Node.{Node}
use Rattle.mls_treemath.specs.Paths.{nodes_in}
use Rattle.mls_treemath.proofs.Sizes.{nodes_in-suc}
use Rattle.mls_tree_cells.specs.declared.changes.Change.{Change}
use Rattle.mls_tree_cells.specs.Cells.{CellList, Puts}
use Rattle.mls_tree_cells.specs.Rows.{first_cells}
use Rattle.mls_tree_model.specs.Term.{Term, size, is_perfect, leaf_of}
use Rattle.mls_tree_model.specs.Edits.{put, enter, grow}
use Rattle.mls_tree_model.specs.Merge.{merge, merge_path}
use Rattle.mls_tree_model.specs.Arrays.{term_of, in_order}
use Rattle.mls_tree_model.proofs.ArrayLaws.{size-term_of}
use Rattle.mls_tree_array.specs.Changes.{cells_on_way, AreBelow}
use Rattle.mls_tree_array.specs.KeptHashes.{hashes_of, drop_hashes}
use Rattle.mls_tree_array.specs.Standing.{Stands}
use Rattle.mls_tree_array.specs.StandingLaws.{StandsFor}
use Rattle.mls_tree_array.specs.WayHashes.{way_hashes, IsColdOnWay, KeepsOnWay, keep_on_way}
use Rattle.mls_tree_array.proofs.ChangeLaws.{DifferOnWay, differ_put, differ_enter, differ_merge}
use Rattle.mls_tree_array.proofs.StandingLaws.{in_order-grow, stands_for-grow}
use Rattle.mls_tree_array.proofs.WayLaws.{cold_whole, kept_whole}
use Rattle.mls_tree_array.proofs.WholeChanges.{places_fit, stands_after, hashes_after}
use Rattle.mls_tree.specs.ArrayEdits.{EditsLeaf, PutsLeaf, EntersLeaf, AppendsLeaf}
use Rattle.mls_tree.specs.IndexedKeys.{AreIndexes, AreBeside, IsClient}
use Rattle.mls_tree.specs.Way.{way_numbers}
use Rattle.mls_tree.specs.declared.key_indexes.KeyIndexes.{KeyIndexes}
use Rattle.mls_tree_index.specs.BlankedCells.{cells_without}
use Rattle.mls_tree.proofs.Indexing.{indexed-put, indexed-merge}
use Rattle.mls_tree.proofs.Growth.{appended}
use Rattle.mls_tree.proofs.Pathing.{merge_is}

-- ---- one edit

module _ (h i : ℕ) (old : CellList) (cs : List Change) (stands : Stands h old.nodes) where
  pub put_fits : (x : Option LeafNode) → cs ≡ cells_on_way 0 (put 0 (term_of h old.nodes) i x) i → All (λ (c : Change). c.place < length old.nodes) cs
  put_fits x are = places_fit h i _ old cs stands (differ_put 0 (term_of h old.nodes) i x) are

  pub enter_fits : (x : LeafNode) → cs ≡ cells_on_way 0 (enter 0 (term_of h old.nodes) i x) i → All (λ (c : Change). c.place < length old.nodes) cs
  enter_fits x are = places_fit h i _ old cs stands (differ_enter 0 (term_of h old.nodes) i x) are

  module _ (new : CellList) (puts : Puts cs old new) (long : length old.hashes ≡ nodes_in h) where
    edited : (u : Term) → DifferOnWay 0 i (term_of h old.nodes) u → cs ≡ cells_on_way 0 u i → EditsLeaf h i (term_of h old.nodes) u old new
    edited u differ are =
        record {
          nodes = stands_after h i u old cs stands differ are new puts;
          hashes = hashes_after h i u old cs stands differ are new puts long;
        }

    pub leaf_put : (x : Option LeafNode) → cs ≡ cells_on_way 0 (put 0 (term_of h old.nodes) i x) i → PutsLeaf h i x old new
    leaf_put x are = edited _ (differ_put 0 (term_of h old.nodes) i x) are

    pub leaf_entered : (x : LeafNode) → cs ≡ cells_on_way 0 (enter 0 (term_of h old.nodes) i x) i → EntersLeaf h i x old new
    leaf_entered x are = edited _ (differ_enter 0 (term_of h old.nodes) i x) are

    pub path_merged : (x : LeafNode) (keys : List (List ℕ)) → cs ≡ cells_on_way 0 (merge 0 (term_of h old.nodes) i (reverse keys) [] x) i → EditsLeaf h i (term_of h old.nodes) (merge_path (term_of h old.nodes) i x keys) old new
    path_merged x keys are =
        subst (λ u. EditsLeaf h i (term_of h old.nodes) u old new) (merge_is (term_of h old.nodes) i x keys)
        (edited _ (differ_merge 0 (term_of h old.nodes) i (reverse keys) [] x) are)

  pub merge_fits : AreBelow (2 * 0 + size (term_of h old.nodes)) cs → AreBelow (length old.nodes) cs
  merge_fits within = subst (λ n. AreBelow n cs) (let many = size-term_of h old.nodes in let all = stands.size in omega arith) within

-- ---- growth

module _ (h : ℕ) (old mid : CellList) (stands : Stands h old.nodes) (grown : mid.nodes ≡ in_order (grow (term_of h old.nodes))) (cold : mid.hashes ≡ old.hashes ++ replicate (suc (nodes_in h)) None) (long : length old.hashes ≡ nodes_in h) where
  grown_for : StandsFor (h + 1) mid.nodes (grow (term_of h old.nodes))
  grown_for = stands_for-grow h old.nodes mid.nodes grown

  pub grown_stands : Stands (h + 1) mid.nodes
  grown_stands = grown_for.stands

  pub grown_hashes : length mid.hashes ≡ nodes_in (h + 1)
  grown_hashes =
      ap length cold
      ∙ length-append old.hashes (replicate (suc (nodes_in h)) None)
      ∙ ap (λ n. length old.hashes + n) (length-replicate (suc (nodes_in h)) None)
      ∙ ap (λ n. n + suc (nodes_in h)) long
      ∙ sym (nodes_in-suc h)
      ∙ ap nodes_in (sym (add-one h))

  pub leaf_appended : (i : ℕ) (x : LeafNode) (new : CellList) → i ≡ 2 ^ h → PutsLeaf (h + 1) i (Some x) mid new → AppendsLeaf h x old new
  leaf_appended i x new at puts =
      record {
        nodes = appended h i x old.nodes mid.nodes new.nodes at grown_for.term puts.nodes;
        hashes =
            puts.hashes
            ∙ ap (λ t. drop_hashes 0 t i mid.hashes) grown_for.term
            ∙ ap (λ j. drop_hashes 0 (grow (term_of h old.nodes)) j mid.hashes) at
            ∙ ap (drop_hashes 0 (grow (term_of h old.nodes)) (2 ^ h)) cold;
      }

  -- what was added is taken back
  pub taken_back : (count : ℕ) (between new : CellList) → count ≡ length old.nodes → between ≡ mid → new ≡ first_cells count between → new ≡ old
  taken_back count between new all same cut =
      let nodes : take count mid.nodes ≡ old.nodes = ap (take count) (grown ∙ in_order-grow h old.nodes stands) ∙ take_at old.nodes (replicate (suc (nodes_in h)) None) count (sym all) in
      let hashes : take count mid.hashes ≡ old.hashes = ap (take count) cold ∙ take_at old.hashes (replicate (suc (nodes_in h)) None) count (long ∙ sym stands.size ∙ sym all) in
      let f : List (Option Node) → CellList = λ xs. record { nodes = xs; hashes = take count mid.hashes } in
      let g : List (Option (List ℕ)) → CellList = λ hs. record { nodes = old.nodes; hashes = hs } in
      cut ∙ ap (first_cells count) same ∙ ap f nodes ∙ ap g hashes

-- ---- a path that is followed

module _ (h i : ℕ) (t u : Term) (old mid : CellList) (perfect : is_perfect h t ≡ true) (dropped : mid.hashes ≡ drop_hashes 0 t i old.hashes) where
  pub cold_after : length old.hashes ≡ size t → IsColdOnWay h 0 i mid.hashes
  cold_after long = subst (IsColdOnWay h 0 i) (sym dropped) (cold_whole h i t old.hashes perfect long)

  pub kept_after : (ws : List (List ℕ)) (new : CellList) → DifferOnWay 0 i t u → old.hashes ≡ hashes_of 0 t → ws ≡ way_hashes 0 u i → KeepsOnWay h 0 i ws mid new → new.hashes ≡ hashes_of 0 u
  kept_after ws new differ all are keeps =
      ap (λ c. c.hashes) keeps
      ∙ ap (keep_on_way h 0 i ws) (dropped ∙ ap (drop_hashes 0 t i) all)
      ∙ ap (λ vs. keep_on_way h 0 i vs (drop_hashes 0 t i (hashes_of 0 t))) are
      ∙ kept_whole h i t u perfect differ

-- ---- answers that are handed on

pub on_ok : {A E : Type 0} (r : Result A E) (P Q : Type 0) → (P → Q) → OnOk r P → OnOk r Q
on_ok (Ok v) P Q f p = f p
on_ok (Err e) P Q f p = p

-- beside the way the nodes are the same, whether the edit was made or not
module _ {A E : Type 0} (h i : ℕ) (old new : CellList) (s : KeyIndexes) (stands : Stands h old.nodes) where
  pub beside_put : (r : Result A E) (x : Option LeafNode) → OnOk r (PutsLeaf h i x old new) → OnErr r (new ≡ old) → AreIndexes (cells_without 0 (way_numbers h i) old.nodes) s → AreIndexes (cells_without 0 (way_numbers h i) new.nodes) s
  beside_put (Ok v) x ok err is = indexed-put h i old.nodes new.nodes s stands x ok.nodes is
  beside_put (Err e) x ok err is = subst (λ (c : CellList). AreIndexes (cells_without 0 (way_numbers h i) c.nodes) s) (sym err) is

  pub beside_merge : (r : Result A E) (x : LeafNode) (keys : List (List ℕ)) (kept : Bool) → (kept ≡ true → IsClient x.signature_key (leaf_of (term_of h old.nodes) i)) → OnOk r (EditsLeaf h i (term_of h old.nodes) (merge_path (term_of h old.nodes) i x keys) old new) → OnErr r (new ≡ old) → AreBeside kept (way_numbers h i) old.nodes s → AreBeside kept (way_numbers h i) new.nodes s
  beside_merge (Ok v) x keys kept own ok err is = indexed-merge h i old.nodes new.nodes s stands x keys kept own ok.nodes is
  beside_merge (Err e) x keys kept own ok err is = subst (λ (c : CellList). AreBeside kept (way_numbers h i) c.nodes s) (sym err) is
