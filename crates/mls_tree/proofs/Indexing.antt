-- The indexes of a tree's keys after a call.
use Rattle.std.proofs.Common.{◌≡◌, ℕ, suc, ◌+◌, ◌-◌, ◌*◌, ◌%◌, ◌^◌, ◌<◌, ◌≤◌, nat_eq, Bool, true, false, cond, List, ◌++◌, length, take, replicate, Option, Some, None, refl, sym, ◌∙◌, ap, subst, arith, add-one, pow-suc}
use Rattle.std.specs.Bool.{OnTrue}
use Rattle.std.proofs.lemmas.Bool.{true≢false}
use Rattle.std.proofs.lemmas.Nat.{one_shl}
use Rattle.std.proofs.lemmas.List.{length-take-le}
use Rattle.mls_leaf.specs.declared.leaf.LeafNode.{LeafNode}
use Rattle.mls_leaf.specs.declared.node.Node.{Node}
use Rattle.mls_treemath.specs.Paths.{nodes_in}
use Rattle.mls_treemath.specs.Limits.{max_height}
use Rattle.mls_tree_model.specs.Term.{Term, leaf_of}
use Rattle.mls_tree_model.specs.Sets.{is_distinct}
use Rattle.mls_tree_model.specs.Edits.{put, enter, grow, trim, first_blank}
use Rattle.mls_tree_model.specs.Merge.{merge_path}
use Rattle.mls_tree_model.specs.Arrays.{term_of, in_order}
use Rattle.mls_tree_model.proofs.PlaceLaws.{first_blank_at, leaf_at-grow, width-grow}
use Rattle.mls_tree_model.proofs.ArrayLaws.{perfect-term_of, width-term_of, nodes_in-leaves}
use Rattle.mls_tree_array.specs.Standing.{Stands}
use Rattle.mls_tree_array.specs.StandingLaws.{StandsFor}
use Rattle.mls_tree_array.proofs.StandingLaws.{in_order-grow, no_more_nodes, stands_for-trim}
use Rattle.mls_tree_index.specs.declared.kind.KeyKind.{KeyKind}
use Rattle.mls_tree_index.specs.Indexes.{Listing, Indexes, Without}
use Rattle.mls_tree_index.specs.BlankedCells.{cells_without}
use Rattle.mls_tree_index.proofs.StepLaws.{same_index}
use Rattle.mls_tree_index.proofs.Laws.{indexes_padded}
use Rattle.mls_tree.specs.declared.key_indexes.KeyIndexes.{KeyIndexes}
use Rattle.mls_tree.specs.IndexedKeys.{AreIndexes, AreBeside, AreSame, Fills, HaveRoom, IsClient}
use Rattle.mls_tree.proofs.ClientLaws.{indexes-client}
use Rattle.mls_tree.specs.Way.{way_numbers}
use Rattle.mls_tree.proofs.WayLaws.{way_distinct}
use Rattle.mls_tree.proofs.WayIndexes.{indexes-put, indexes-merge}
use Rattle.mls_tree.proofs.Filling.{filled}
use Rattle.mls_tree.proofs.KeptHashes.{grown_perfect}
use Rattle.mls_tree.proofs.Pathing.{merge_is}

-- ---- both at once

pub same_indexes : (c : List (Option Node)) (s t : KeyIndexes) → AreSame s t → AreIndexes c s → AreIndexes c t
same_indexes c s t same is = record {
  encryption = same.keys.kind ∙ is.encryption;
  signature = same.clients.kind ∙ is.signature;
  keys = same_index c s.keys t.keys same.keys is.keys;
  clients = same_index c s.clients t.clients same.clients is.clients;
}

pub less_room : (m n : ℕ) (t : KeyIndexes) → m ≤ n → HaveRoom n t → HaveRoom m t
less_room m n t less room = let a = room.keys in let b = room.clients in record { keys = omega arith; clients = omega arith }

pub both_of : (b c : List (Option Node)) (s : KeyIndexes) → ((t : Listing) → Indexes b t → Indexes c t) → AreIndexes b s → AreIndexes c s
both_of b c s step is = record {
  encryption = is.encryption;
  signature = is.signature;
  keys = step s.keys is.keys;
  clients = step s.clients is.clients;
}

pub same_cells : (b c : List (Option Node)) (s : KeyIndexes) → b ≡ c → AreIndexes b s → AreIndexes c s
same_cells b c s e = subst (λ xs. AreIndexes xs s) e

-- a cell that was filled
pub filled_without : (k : KeyKind) (x : ℕ) (b c : List (Option Node)) → Fills x b c → Without k x c b c
filled_without k x b c fills = record {
  wide = refl;
  long = fills.long;
  part = λ y some. refl;
  here = refl;
  blank = fills.blank k;
  others = fills.others k;
}

-- ---- in each edit

listed : (h : ℕ) (ys : List (Option Node)) (t : Term) → StandsFor h ys t → in_order t ≡ ys
listed h ys t edited = sym (ap in_order edited.term) ∙ edited.stands.order

module _ (h i : ℕ) (xs ys : List (Option Node)) (s : KeyIndexes) (stands : Stands h xs) where
  pub indexed-put : (x : Option LeafNode) → StandsFor h ys (put 0 (term_of h xs) i x) → AreIndexes (cells_without 0 (way_numbers h i) xs) s → AreIndexes (cells_without 0 (way_numbers h i) ys) s
  indexed-put x edited = both_of _ _ s (λ t. indexes-put h i xs stands t ys x edited)

  pub indexed-merge : (x : LeafNode) (keys : List (List ℕ)) (kept : Bool) → (kept ≡ true → IsClient x.signature_key (leaf_of (term_of h xs) i)) → StandsFor h ys (merge_path (term_of h xs) i x keys) → AreBeside kept (way_numbers h i) xs s → AreBeside kept (way_numbers h i) ys s
  indexed-merge x keys kept client edited is = record {
    encryption = is.encryption;
    signature = is.signature;
    keys = beside s.keys is.keys;
    clients = clients kept client is.clients;
  }
    where
      beside : (t : Listing) → Indexes (cells_without 0 (way_numbers h i) xs) t → Indexes (cells_without 0 (way_numbers h i) ys) t
      beside t = indexes-merge h i xs stands t ys _ _ x (subst (StandsFor h ys) (sym (merge_is (term_of h xs) i x keys)) edited)

      clients : (v : Bool) → (v ≡ true → IsClient x.signature_key (leaf_of (term_of h xs) i)) → Indexes (cond v xs (cells_without 0 (way_numbers h i) xs)) s.clients → Indexes (cond v ys (cells_without 0 (way_numbers h i) ys)) s.clients
      clients true own = indexes-client h i xs ys stands x keys (own refl) s.clients is.signature edited
      clients false own = beside s.clients

pub first_is : (h : ℕ) (xs cells : List (Option Node)) → cells ≡ xs → (o : Option ℕ) → o ≡ first_blank 0 (term_of h cells) → first_blank 0 (term_of h xs) ≡ o
first_is h xs cells same o e = sym (e ∙ ap (λ ys. first_blank 0 (term_of h ys)) same)

-- a leaf that fills the leftmost blank one
pub fills-enter : (h i : ℕ) (xs ys : List (Option Node)) (x : LeafNode) → Stands h xs → first_blank 0 (term_of h xs) ≡ Some i → StandsFor h ys (enter 0 (term_of h xs) i x) → Fills (2 * i) xs ys
fills-enter h i xs ys x stands first edited =
    let at = first_blank_at 0 (term_of h xs) i first in
    subst (λ b. Fills (2 * i) b ys) stands.order
    (subst (Fills (2 * i) (in_order (term_of h xs))) (listed h ys _ edited)
    (filled h (term_of h xs) i x (perfect-term_of h xs) (omega (arith, at.1)) at.2))

-- the first leaf of the new half
pub fills-append : (h : ℕ) (xs ys : List (Option Node)) (x : LeafNode) → Stands h xs → StandsFor (h + 1) ys (enter 0 (grow (term_of h xs)) (2 ^ h) x) → Fills (2 * 2 ^ h) (xs ++ replicate (suc (nodes_in h)) None) ys
fills-append h xs ys x stands edited =
    let wide = width-term_of h xs in
    let more = width-grow (term_of h xs) in
    subst (λ b. Fills (2 * 2 ^ h) b ys) (in_order-grow h xs stands)
    (subst (Fills (2 * 2 ^ h) (in_order (grow (term_of h xs)))) (listed (h + 1) ys _ edited)
    (filled (h + 1) (grow (term_of h xs)) (2 ^ h) x (grown_perfect h xs) (omega arith) (leaf_at-grow 0 (term_of h xs) (2 ^ h) (omega arith))))

pub indexed-padded : (n : ℕ) (xs : List (Option Node)) (s : KeyIndexes) → AreIndexes xs s → AreIndexes (xs ++ replicate n None) s
indexed-padded n xs s = both_of _ _ s (λ t. indexes_padded t xs n)

-- ---- step by step

-- the cells on the way left
pub left_by : (ns places : List ℕ) (xs cells : List (Option Node)) (s t : KeyIndexes) → places ≡ ns → cells ≡ xs → (AreIndexes cells s → AreIndexes (cells_without 0 places cells) t) → AreIndexes xs s → AreIndexes (cells_without 0 ns xs) t
left_by ns places xs cells s t way same left is =
    subst (λ ms. AreIndexes (cells_without 0 ms xs) t) way
    (subst (λ cs. AreIndexes (cells_without 0 places cs) t) same (left (subst (λ cs. AreIndexes cs s) (sym same) is)))

-- and entered again
pub entered_by : (ns places : List ℕ) (ys cells : List (Option Node)) (s t : KeyIndexes) → places ≡ ns → cells ≡ ys → (AreIndexes (cells_without 0 places cells) s → AreIndexes cells t) → AreIndexes (cells_without 0 ns ys) s → AreIndexes ys t
entered_by ns places ys cells s t way same entered is =
    subst (λ cs. AreIndexes cs t) same
    (entered (subst (λ ms. AreIndexes (cells_without 0 ms cells) s) (sym way) (subst (λ cs. AreIndexes (cells_without 0 ns cs) s) (sym same) is)))

-- the same of a path
pub left_beside : (kept : Bool) (ns places : List ℕ) (xs cells : List (Option Node)) (s t : KeyIndexes) → places ≡ ns → cells ≡ xs → (AreIndexes cells s → AreBeside kept places cells t) → AreIndexes xs s → AreBeside kept ns xs t
left_beside kept ns places xs cells s t way same left is =
    subst (λ ms. AreBeside kept ms xs t) way
    (subst (λ cs. AreBeside kept places cs t) same (left (subst (λ cs. AreIndexes cs s) (sym same) is)))

pub entered_beside : (kept : Bool) (ns places : List ℕ) (ys cells : List (Option Node)) (s t : KeyIndexes) → places ≡ ns → cells ≡ ys → (AreBeside kept places cells s → AreIndexes cells t) → AreBeside kept ns ys s → AreIndexes ys t
entered_beside kept ns places ys cells s t way same entered is =
    subst (λ cs. AreIndexes cs t) same
    (entered (subst (λ ms. AreBeside kept ms cells s) (sym way) (subst (λ cs. AreBeside kept ns cs s) (sym same) is)))

-- a leaf that was found to keep its signature key
pub kept_client : (kept : Bool) (k : List ℕ) (h i : ℕ) (xs cells : List (Option Node)) → cells ≡ xs → OnTrue kept (IsClient k (leaf_of (term_of h cells) i)) → kept ≡ true → IsClient k (leaf_of (term_of h xs) i)
kept_client true k h i xs cells same own e = subst (λ cs. IsClient k (leaf_of (term_of h cs) i)) same own
kept_client false k h i xs cells same own e = absurd (true≢false (sym e))

-- a cell filled
pub filled_by : (x n : ℕ) (b ys cells : List (Option Node)) (s t : KeyIndexes) → n ≡ x → cells ≡ ys → (Fills n b cells → AreIndexes b s → AreIndexes cells t) → Fills x b ys → AreIndexes b s → AreIndexes ys t
filled_by x n b ys cells s t at same entered fills is =
    subst (λ cs. AreIndexes cs t) same (entered (subst (λ m. Fills m b cells) (sym at) (subst (Fills x b) (sym same) fills)) is)

-- the number of the first leaf of the new half, as the code reckons it
pub new_half : (h : ℕ) → h < max_height → (1 * 2 ^ (h + 1)) % 2 ^ 32 ≡ 2 * 2 ^ h
new_half h low =
    let twice = pow-suc 2 h in
    let same : 2 ^ suc h ≡ 2 * 2 ^ h = omega arith in
    one_shl (h + 1) 32 (omega arith) ∙ ap (λ n. 2 ^ n) (add-one h) ∙ same

-- a way's numbers are given once
pub way_once : (h i : ℕ) (places : List ℕ) → places ≡ way_numbers h i → is_distinct nat_eq places ≡ true
way_once h i places way = ap (is_distinct nat_eq) way ∙ way_distinct h i

-- ---- a trim

-- as many nodes as the code reckons
pub cut_size : (k : ℕ) → k ≤ max_height → (1 * 2 ^ (k + 1)) % 2 ^ 64 - 1 ≡ nodes_in k
cut_size k low =
    let is = one_shl (k + 1) 64 (omega arith) in
    let more = ap (λ n. 2 ^ n) (add-one k) in
    let twice = pow-suc 2 k in
    let leaves = nodes_in-leaves k in
    omega arith

pub trimmed_as : (h k n : ℕ) (xs cells ys : List (Option Node)) → Stands h xs → k ≤ h → n ≡ nodes_in k → cells ≡ xs → take (nodes_in k) cells ≡ in_order (trim (term_of h cells)) → ys ≡ take n xs → StandsFor k ys (trim (term_of h xs))
trimmed_as h k n xs cells ys stands low all same order is =
    let cut : ys ≡ take (nodes_in k) xs = is ∙ ap (λ m. take m xs) all in
    let size = stands.size in
    let few = no_more_nodes k h low in
    stands_for-trim h k xs ys
    (cut ∙ ap (take (nodes_in k)) (sym same) ∙ order ∙ ap (λ cs. in_order (trim (term_of h cs))) same)
    (ap length cut ∙ length-take-le (nodes_in k) xs (omega arith))
