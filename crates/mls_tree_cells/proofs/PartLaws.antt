-- Laws of rows of cells with tops between them.
use Rattle.std.proofs.Common.{◌≡◌, ℕ, zero, suc, ◌+◌, ◌*◌, ◌/◌, ◌%◌, ◌<◌, ◌≤◌, true, false, List, [], ◌∷◌, ◌++◌, length, get_or, take, set, Option, None, refl, sym, ◌∙◌, ap, subst, arith, inl, inr, length-append, length-set, length-take}
use Rattle.std.proofs.lemmas.Bool.{cases_lt, cases_eq}
use Rattle.std.proofs.lemmas.Grind.{get_or-set_at}
use Rattle.std.proofs.lemmas.List.{length-map, get_or-set_other, get_or-map, map-set, map-append, take-map, set-get_or}
use Rattle.mls_leaf.specs.declared.node.Node.{Node}
use Rattle.mls_tree_cells.specs.Cells.{CellList}
use Rattle.mls_tree_cells.specs.Chunks.{ChunkRow}
use Rattle.mls_tree_cells.specs.Rows.{AddsCell, SetsSlot, first_cells}
use Rattle.mls_tree_cells.specs.Parts.{interleave, AreSpread, AreParts, EndsIn, StaysOpen, all_cells, nodes_of, hashes_of, rows_of, shares_of}
use Rattle.mls_tree_cells.proofs.SpreadLaws.{chunk_count, full_at, last_few, length_of, chunk_within, top_within, get_chunk, get_upper, set_chunk, set_upper, spread_set, spread_top, spread_last, push_last, push_top, spread_more, spread_take, front_chunks, take_front, length_front, front_within, ends_last, cut_last}

-- a row with no cell
abbrev pub no_cells : CellList
no_cells = record { nodes = []; hashes = [] }

pub same_cells : (a b : CellList) → a.nodes ≡ b.nodes → a.hashes ≡ b.hashes → a ≡ b
same_cells a b nodes hashes =
    let with_nodes : List (Option Node) → CellList = λ xs. record { nodes = xs; hashes = a.hashes } in
    let with_hashes : List (Option (List ℕ)) → CellList = λ ys. record { nodes = b.nodes; hashes = ys } in
    ap with_nodes nodes ∙ ap with_hashes hashes

-- ---- what stands in a chunk

pub row_at : (cs : List ChunkRow) (k : ℕ) (c : ChunkRow) → k < length cs → c ≡ get_or cs k c → c.row ≡ get_or (rows_of cs) k no_cells
row_at cs k c lt is = ap (λ (d : ChunkRow). d.row) is ∙ sym (get_or-map (λ (d : ChunkRow). d.row) cs k c no_cells lt)

pub share_at : (cs : List ChunkRow) (k : ℕ) (c : ChunkRow) → k < length cs → c ≡ get_or cs k c → c.shared ≡ get_or (shares_of cs) k true
share_at cs k c lt is = ap (λ (d : ChunkRow). d.shared) is ∙ sym (get_or-map (λ (d : ChunkRow). d.shared) cs k c true lt)

pub rows_set : (cs : List ChunkRow) (k : ℕ) (c : ChunkRow) → rows_of (set cs k c) ≡ set (rows_of cs) k c.row
rows_set cs k c = map-set (λ (d : ChunkRow). d.row) cs k c

pub shares_set : (cs : List ChunkRow) (k : ℕ) (c : ChunkRow) → shares_of (set cs k c) ≡ set (shares_of cs) k c.shared
shares_set cs k c = map-set (λ (d : ChunkRow). d.shared) cs k c

-- a chunk with the same row takes another's place
pub rows_stay : (cs : List ChunkRow) (k : ℕ) (c d : ChunkRow) → k < length cs → c ≡ get_or cs k c → d.row ≡ c.row → rows_of (set cs k d) ≡ rows_of cs
rows_stay cs k c d lt is same =
    rows_set cs k d
    ∙ ap (set (rows_of cs) k) (same ∙ row_at cs k c lt is)
    ∙ set-get_or (rows_of cs) k no_cells

pub shares_stay : (cs : List ChunkRow) (k : ℕ) (c d : ChunkRow) → k < length cs → c ≡ get_or cs k c → d.shared ≡ c.shared → shares_of (set cs k d) ≡ shares_of cs
shares_stay cs k c d lt is same =
    shares_set cs k d
    ∙ ap (set (shares_of cs) k) (same ∙ share_at cs k c lt is)
    ∙ set-get_or (shares_of cs) k true

-- a chunk that isn't shared takes another's place
pub own_here : (cs : List ChunkRow) (k : ℕ) (d : ChunkRow) → k < length cs → d.shared ≡ false → get_or (shares_of (set cs k d)) k true ≡ false
own_here cs k d lt own =
    let count = length-map cs (λ (e : ChunkRow). e.shared) in
    ap (λ bs. get_or bs k true) (shares_set cs k d) ∙ get_or-set_at (shares_of cs) k k d.shared true refl (omega arith) ∙ own

pub stays_open : (cs : List ChunkRow) (k : ℕ) (d : ChunkRow) → k < length cs → d.shared ≡ false → StaysOpen (shares_of cs) (shares_of (set cs k d))
stays_open cs k d lt own y before low =
    elim (cases_eq (y / 256) k) [
      | inl same ↦ ap (λ n. get_or (shares_of (set cs k d)) n true) same ∙ own_here cs k d lt own
      | inr other ↦
          ap (λ bs. get_or bs (y / 256) true) (shares_set cs k d)
          ∙ get_or-set_other (shares_of cs) k (y / 256) d.shared true other
          ∙ before low
    ]

pub row_count : (cs : List ChunkRow) → length (rows_of cs) ≡ length cs
row_count cs = length-map cs (λ (d : ChunkRow). d.row)

nodes_at : (rs : List CellList) (k : ℕ) → get_or (nodes_of rs) k [] ≡ (get_or rs k no_cells).nodes
nodes_at [] k = refl
nodes_at (r ∷ rs) zero = refl
nodes_at (r ∷ rs) (suc k) = nodes_at rs k

hashes_at : (rs : List CellList) (k : ℕ) → get_or (hashes_of rs) k [] ≡ (get_or rs k no_cells).hashes
hashes_at [] k = refl
hashes_at (r ∷ rs) zero = refl
hashes_at (r ∷ rs) (suc k) = hashes_at rs k

nodes_set : (rs : List CellList) (k : ℕ) (r : CellList) → nodes_of (set rs k r) ≡ set (nodes_of rs) k r.nodes
nodes_set rs k r = map-set (λ (s : CellList). s.nodes) rs k r

hashes_set : (rs : List CellList) (k : ℕ) (r : CellList) → hashes_of (set rs k r) ≡ set (hashes_of rs) k r.hashes
hashes_set rs k r = map-set (λ (s : CellList). s.hashes) rs k r

-- ---- a row takes another's place

module _ (rs : List CellList) (tops : CellList) (k : ℕ) (r : CellList) where
  nodes_stay : r.nodes ≡ (get_or rs k no_cells).nodes → (all_cells (set rs k r) tops).nodes ≡ (all_cells rs tops).nodes
  nodes_stay same =
      ap (λ ns. interleave ns tops.nodes)
      (nodes_set rs k r ∙ ap (set (nodes_of rs) k) (same ∙ sym (nodes_at rs k)) ∙ set-get_or (nodes_of rs) k [])

  parts_set : AreParts rs tops → length r.nodes ≡ length (get_or rs k no_cells).nodes → length r.hashes ≡ length (get_or rs k no_cells).hashes → length (all_cells (set rs k r) tops).hashes ≡ length (all_cells (set rs k r) tops).nodes → AreParts (set rs k r) tops
  parts_set parts nodes hashes long =
      record {
        nodes = subst (λ ns. AreSpread ns tops.nodes) (sym (nodes_set rs k r)) (spread_set (nodes_of rs) tops.nodes k r.nodes parts.nodes (nodes ∙ ap length (sym (nodes_at rs k))));
        hashes = subst (λ hs. AreSpread hs tops.hashes) (sym (hashes_set rs k r)) (spread_set (hashes_of rs) tops.hashes k r.hashes parts.hashes (hashes ∙ ap length (sym (hashes_at rs k))));
        long = long;
      }

  -- the last one becomes a longer or a shorter one
  parts_last : AreParts rs tops → suc k ≡ length rs → length r.nodes ≤ 255 → length r.hashes ≤ 255 → length (all_cells (set rs k r) tops).hashes ≡ length (all_cells (set rs k r) tops).nodes → AreParts (set rs k r) tops
  parts_last parts last nodes hashes long =
      record {
        nodes = subst (λ ns. AreSpread ns tops.nodes) (sym (nodes_set rs k r)) (spread_last (nodes_of rs) tops.nodes k r.nodes parts.nodes (last ∙ sym (length-map rs (λ (s : CellList). s.nodes))) nodes);
        hashes = subst (λ hs. AreSpread hs tops.hashes) (sym (hashes_set rs k r)) (spread_last (hashes_of rs) tops.hashes k r.hashes parts.hashes (last ∙ sym (length-map rs (λ (s : CellList). s.hashes))) hashes);
        long = long;
      }

-- ---- cell x

module _ (rs : List CellList) (tops : CellList) (parts : AreParts rs tops) (x : ℕ) (lt : x < length (all_cells rs tops).nodes) where
  hashes_within : x < length (all_cells rs tops).hashes
  hashes_within = let long = parts.long in omega arith

  pub row_within : x % 256 < 255 → (x / 256 < length rs) × (x % 256 < length (get_or rs (x / 256) no_cells).nodes)
  row_within low =
      let here = chunk_within (nodes_of rs) tops.nodes x parts.nodes lt low in
      let count = length-map rs (λ (s : CellList). s.nodes) in
      let size = ap length (nodes_at rs (x / 256)) in
      let less = here.0 in
      let inside = here.1 in
      (omega arith, omega arith)

  pub tops_within : 255 ≤ x % 256 → x / 256 < length tops.nodes
  tops_within high = top_within (nodes_of rs) tops.nodes x parts.nodes lt high

  pub node_below : x % 256 < 255 → get_or (get_or rs (x / 256) no_cells).nodes (x % 256) None ≡ get_or (all_cells rs tops).nodes x None
  node_below low =
      sym (get_chunk (nodes_of rs) tops.nodes x parts.nodes None lt low ∙ ap (λ ns. get_or ns (x % 256) None) (nodes_at rs (x / 256)))

  pub node_above : 255 ≤ x % 256 → get_or tops.nodes (x / 256) None ≡ get_or (all_cells rs tops).nodes x None
  node_above high = sym (get_upper (nodes_of rs) tops.nodes x parts.nodes None lt high)

  pub hash_below : (d : Option (List ℕ)) → x % 256 < 255 → get_or (get_or rs (x / 256) no_cells).hashes (x % 256) d ≡ get_or (all_cells rs tops).hashes x d
  hash_below d low =
      sym (get_chunk (hashes_of rs) tops.hashes x parts.hashes d hashes_within low ∙ ap (λ hs. get_or hs (x % 256) d) (hashes_at rs (x / 256)))

  pub hash_above : (d : Option (List ℕ)) → 255 ≤ x % 256 → get_or tops.hashes (x / 256) d ≡ get_or (all_cells rs tops).hashes x d
  hash_above d high = sym (get_upper (hashes_of rs) tops.hashes x parts.hashes d hashes_within high)

  -- ---- an edit below the tops

  nodes_below : (y : Option Node) (r : CellList) → x % 256 < 255 → r.nodes ≡ set (get_or rs (x / 256) no_cells).nodes (x % 256) y → (all_cells (set rs (x / 256) r) tops).nodes ≡ set (all_cells rs tops).nodes x y
  nodes_below y r low is =
      ap (λ ns. interleave ns tops.nodes)
      (nodes_set rs (x / 256) r ∙ ap (set (nodes_of rs) (x / 256)) (is ∙ ap (λ ns. set ns (x % 256) y) (sym (nodes_at rs (x / 256)))))
      ∙ set_chunk (nodes_of rs) tops.nodes x parts.nodes y lt low

  hashes_below : (y : Option (List ℕ)) (r : CellList) → x % 256 < 255 → r.hashes ≡ set (get_or rs (x / 256) no_cells).hashes (x % 256) y → (all_cells (set rs (x / 256) r) tops).hashes ≡ set (all_cells rs tops).hashes x y
  hashes_below y r low is =
      ap (λ hs. interleave hs tops.hashes)
      (hashes_set rs (x / 256) r ∙ ap (set (hashes_of rs) (x / 256)) (is ∙ ap (λ hs. set hs (x % 256) y) (sym (hashes_at rs (x / 256)))))
      ∙ set_chunk (hashes_of rs) tops.hashes x parts.hashes y hashes_within low

  pub put_below : (slot : Option Node) (r : CellList) → x % 256 < 255 → SetsSlot (x % 256) slot (get_or rs (x / 256) no_cells) r → SetsSlot x slot (all_cells rs tops) (all_cells (set rs (x / 256) r) tops)
  put_below slot r low sets =
      record { nodes = nodes_below slot r low sets.nodes; hashes = hashes_below None r low sets.hashes }

  pub parts_put_below : (slot : Option Node) (r : CellList) → x % 256 < 255 → SetsSlot (x % 256) slot (get_or rs (x / 256) no_cells) r → AreParts (set rs (x / 256) r) tops
  parts_put_below slot r low sets =
      let all = put_below slot r low sets in
      let old = get_or rs (x / 256) no_cells in
      let long : length (all_cells (set rs (x / 256) r) tops).hashes ≡ length (all_cells (set rs (x / 256) r) tops).nodes =
      ap length all.hashes ∙ length-set (all_cells rs tops).hashes x None ∙ parts.long ∙ sym (ap length all.nodes ∙ length-set (all_cells rs tops).nodes x slot) in
      parts_set rs tops (x / 256) r parts
      (ap length sets.nodes ∙ length-set old.nodes (x % 256) slot)
      (ap length sets.hashes ∙ length-set old.hashes (x % 256) None)
      long

  pub keep_below : (h : Option (List ℕ)) (r : CellList) → x % 256 < 255 → r.nodes ≡ (get_or rs (x / 256) no_cells).nodes → r.hashes ≡ set (get_or rs (x / 256) no_cells).hashes (x % 256) h → all_cells (set rs (x / 256) r) tops ≡ record (all_cells rs tops) { hashes = set (all_cells rs tops).hashes x h }
  keep_below h r low same is =
      same_cells (all_cells (set rs (x / 256) r) tops) (record (all_cells rs tops) { hashes = set (all_cells rs tops).hashes x h })
      (nodes_stay rs tops (x / 256) r same)
      (hashes_below h r low is)

  pub parts_keep_below : (h : Option (List ℕ)) (r : CellList) → x % 256 < 255 → r.nodes ≡ (get_or rs (x / 256) no_cells).nodes → r.hashes ≡ set (get_or rs (x / 256) no_cells).hashes (x % 256) h → AreParts (set rs (x / 256) r) tops
  parts_keep_below h r low same is =
      let old = get_or rs (x / 256) no_cells in
      let long : length (all_cells (set rs (x / 256) r) tops).hashes ≡ length (all_cells (set rs (x / 256) r) tops).nodes =
      ap length (hashes_below h r low is) ∙ length-set (all_cells rs tops).hashes x h ∙ parts.long ∙ sym (ap length (nodes_stay rs tops (x / 256) r same)) in
      parts_set rs tops (x / 256) r parts (ap length same) (ap length is ∙ length-set old.hashes (x % 256) h) long

  -- ---- an edit of a top

  pub put_above : (slot : Option Node) (r : CellList) → 255 ≤ x % 256 → SetsSlot (x / 256) slot tops r → SetsSlot x slot (all_cells rs tops) (all_cells rs r)
  put_above slot r high sets =
      record {
        nodes = ap (interleave (nodes_of rs)) sets.nodes ∙ set_upper (nodes_of rs) tops.nodes x parts.nodes slot lt high;
        hashes = ap (interleave (hashes_of rs)) sets.hashes ∙ set_upper (hashes_of rs) tops.hashes x parts.hashes None hashes_within high;
      }

  pub parts_put_above : (slot : Option Node) (r : CellList) → 255 ≤ x % 256 → SetsSlot (x / 256) slot tops r → AreParts rs r
  parts_put_above slot r high sets =
      let all = put_above slot r high sets in
      record {
        nodes = subst (AreSpread (nodes_of rs)) (sym sets.nodes) (spread_top (nodes_of rs) tops.nodes (x / 256) slot parts.nodes);
        hashes = subst (AreSpread (hashes_of rs)) (sym sets.hashes) (spread_top (hashes_of rs) tops.hashes (x / 256) None parts.hashes);
        long = ap length all.hashes ∙ length-set (all_cells rs tops).hashes x None ∙ parts.long ∙ sym (ap length all.nodes ∙ length-set (all_cells rs tops).nodes x slot);
      }

  hashes_above : (h : Option (List ℕ)) (r : CellList) → 255 ≤ x % 256 → r.hashes ≡ set tops.hashes (x / 256) h → (all_cells rs r).hashes ≡ set (all_cells rs tops).hashes x h
  hashes_above h r high is =
      ap (interleave (hashes_of rs)) is ∙ set_upper (hashes_of rs) tops.hashes x parts.hashes h hashes_within high

  pub keep_above : (h : Option (List ℕ)) (r : CellList) → 255 ≤ x % 256 → r.nodes ≡ tops.nodes → r.hashes ≡ set tops.hashes (x / 256) h → all_cells rs r ≡ record (all_cells rs tops) { hashes = set (all_cells rs tops).hashes x h }
  keep_above h r high same is =
      same_cells (all_cells rs r) (record (all_cells rs tops) { hashes = set (all_cells rs tops).hashes x h })
      (ap (interleave (nodes_of rs)) same)
      (hashes_above h r high is)

  pub parts_keep_above : (h : Option (List ℕ)) (r : CellList) → 255 ≤ x % 256 → r.nodes ≡ tops.nodes → r.hashes ≡ set tops.hashes (x / 256) h → AreParts rs r
  parts_keep_above h r high same is =
      record {
        nodes = subst (AreSpread (nodes_of rs)) (sym same) parts.nodes;
        hashes = subst (AreSpread (hashes_of rs)) (sym is) (spread_top (hashes_of rs) tops.hashes (x / 256) h parts.hashes);
        long = ap length (hashes_above h r high is) ∙ length-set (all_cells rs tops).hashes x h ∙ parts.long ∙ sym (ap (λ ns. length (interleave (nodes_of rs) ns)) same);
      }

-- ---- the last row, and cells that are added behind it

module _ (rs : List CellList) (tops : CellList) (parts : AreParts rs tops) where
  pub count_of : length rs ≡ suc (length tops.nodes)
  count_of = sym (length-map rs (λ (s : CellList). s.nodes)) ∙ chunk_count (nodes_of rs) tops.nodes parts.nodes

  count_of_hashes : length rs ≡ suc (length tops.hashes)
  count_of_hashes = sym (length-map rs (λ (s : CellList). s.hashes)) ∙ chunk_count (hashes_of rs) tops.hashes parts.hashes

  -- the last row has as many hashes as nodes, and is the one behind all tops
  pub last_row : (k : ℕ) → suc k ≡ length rs → (k ≡ length tops.nodes) × (length (get_or rs k no_cells).nodes ≤ 255) × (length (get_or rs k no_cells).hashes ≡ length (get_or rs k no_cells).nodes)
  last_row k last =
      let count = count_of in
      let counts = count_of_hashes in
      let at : k ≡ length tops.nodes = omega arith in
      let beside : k ≡ length tops.hashes = omega arith in
      let few = last_few (nodes_of rs) tops.nodes parts.nodes in
      let long = length_of (nodes_of rs) tops.nodes parts.nodes in
      let hashes_long = length_of (hashes_of rs) tops.hashes parts.hashes in
      let size : length (get_or rs k no_cells).nodes ≡ length (get_or (nodes_of rs) (length tops.nodes) []) = ap length (sym (nodes_at rs k)) ∙ ap (λ n. length (get_or (nodes_of rs) n [])) at in
      let hashes_size : length (get_or rs k no_cells).hashes ≡ length (get_or (hashes_of rs) (length tops.hashes) []) = ap length (sym (hashes_at rs k)) ∙ ap (λ n. length (get_or (hashes_of rs) n [])) beside in
      let same = parts.long in
      (at, omega arith, omega arith)

  module _ (k : ℕ) (last : suc k ≡ length rs) (slot : Option Node) where
    pub push_below : (r : CellList) → AddsCell slot (get_or rs k no_cells) r → AddsCell slot (all_cells rs tops) (all_cells (set rs k r) tops)
    push_below r adds =
        record {
          nodes =
              ap (λ ns. interleave ns tops.nodes)
              (nodes_set rs k r ∙ ap (set (nodes_of rs) k) (adds.nodes ∙ ap (λ ns. ns ++ slot ∷ []) (sym (nodes_at rs k))))
              ∙ push_last (nodes_of rs) tops.nodes k slot parts.nodes (last ∙ sym (length-map rs (λ (s : CellList). s.nodes)));
          hashes =
              ap (λ hs. interleave hs tops.hashes)
              (hashes_set rs k r ∙ ap (set (hashes_of rs) k) (adds.hashes ∙ ap (λ hs. hs ++ None ∷ []) (sym (hashes_at rs k))))
              ∙ push_last (hashes_of rs) tops.hashes k None parts.hashes (last ∙ sym (length-map rs (λ (s : CellList). s.hashes)));
        }

    long_after : (old new : CellList) → length old.hashes ≡ length old.nodes → AddsCell slot old new → length new.hashes ≡ length new.nodes
    long_after old new same adds =
        let nodes = ap length adds.nodes ∙ length-append old.nodes (slot ∷ []) in
        let hashes = ap length adds.hashes ∙ length-append old.hashes (None ∷ []) in
        omega arith

    pub parts_push_below : (r : CellList) → length (get_or rs k no_cells).nodes < 255 → AddsCell slot (get_or rs k no_cells) r → AreParts (set rs k r) tops
    parts_push_below r few adds =
        let old = get_or rs k no_cells in
        let row = last_row k last in
        let same : length old.hashes ≡ length old.nodes = row.2 in
        let nodes = ap length adds.nodes ∙ length-append old.nodes (slot ∷ []) in
        let hashes = ap length adds.hashes ∙ length-append old.hashes (None ∷ []) in
        parts_last rs tops k r parts last (omega arith) (omega arith)
        (long_after (all_cells rs tops) (all_cells (set rs k r) tops) parts.long (push_below r adds))

    pub push_above : (r : CellList) → AddsCell slot tops r → AddsCell slot (all_cells rs tops) (all_cells (rs ++ no_cells ∷ []) r)
    push_above r adds =
        record {
          nodes =
              ap (λ ns. interleave ns r.nodes) (map-append (λ (s : CellList). s.nodes) rs (no_cells ∷ []))
              ∙ ap (interleave (nodes_of rs ++ [] ∷ [])) adds.nodes
              ∙ push_top (nodes_of rs) tops.nodes slot parts.nodes;
          hashes =
              ap (λ hs. interleave hs r.hashes) (map-append (λ (s : CellList). s.hashes) rs (no_cells ∷ []))
              ∙ ap (interleave (hashes_of rs ++ [] ∷ [])) adds.hashes
              ∙ push_top (hashes_of rs) tops.hashes None parts.hashes;
        }

    pub parts_push_above : (r : CellList) → 255 ≤ length (get_or rs k no_cells).nodes → AddsCell slot tops r → AreParts (rs ++ no_cells ∷ []) r
    parts_push_above r many adds =
        let row = last_row k last in
        let few : length (get_or rs k no_cells).nodes ≤ 255 = row.1 in
        let same : length (get_or rs k no_cells).hashes ≡ length (get_or rs k no_cells).nodes = row.2 in
        let at : k ≡ length tops.nodes = row.0 in
        let counts = count_of_hashes in
        let beside : k ≡ length tops.hashes = omega arith in
        let size : length (get_or (nodes_of rs) (length tops.nodes) []) ≡ length (get_or rs k no_cells).nodes = ap (λ n. length (get_or (nodes_of rs) n [])) (sym at) ∙ ap length (nodes_at rs k) in
        let hashes_size : length (get_or (hashes_of rs) (length tops.hashes) []) ≡ length (get_or rs k no_cells).hashes = ap (λ n. length (get_or (hashes_of rs) n [])) (sym beside) ∙ ap length (hashes_at rs k) in
        record {
          nodes =
              subst (λ ns. AreSpread ns r.nodes) (sym (map-append (λ (s : CellList). s.nodes) rs (no_cells ∷ [])))
              (subst (AreSpread (nodes_of rs ++ [] ∷ [])) (sym adds.nodes) (spread_more (nodes_of rs) tops.nodes slot parts.nodes (omega arith)));
          hashes =
              subst (λ hs. AreSpread hs r.hashes) (sym (map-append (λ (s : CellList). s.hashes) rs (no_cells ∷ [])))
              (subst (AreSpread (hashes_of rs ++ [] ∷ [])) (sym adds.hashes) (spread_more (hashes_of rs) tops.hashes None parts.hashes (omega arith)));
          long = long_after (all_cells rs tops) (all_cells (rs ++ no_cells ∷ []) r) parts.long (push_above r adds);
        }

-- ---- the first cells alone

module _ (rs : List CellList) (tops : CellList) (parts : AreParts rs tops) (x : ℕ) (le : x ≤ length (all_cells rs tops).nodes) where
  hashes_upto : x ≤ length (all_cells rs tops).hashes
  hashes_upto = let long = parts.long in omega arith

  front_nodes : nodes_of (take (suc (x / 256)) rs) ≡ take (suc (x / 256)) (nodes_of rs)
  front_nodes = sym (take-map (λ (s : CellList). s.nodes) (suc (x / 256)) rs)

  front_hashes : hashes_of (take (suc (x / 256)) rs) ≡ take (suc (x / 256)) (hashes_of rs)
  front_hashes = sym (take-map (λ (s : CellList). s.hashes) (suc (x / 256)) rs)

  node_count : length (all_cells (take (suc (x / 256)) rs) (first_cells (x / 256) tops)).nodes ≡ 256 * (x / 256) + length (get_or (nodes_of rs) (x / 256) [])
  node_count =
      ap (λ ns. length (interleave ns (take (x / 256) tops.nodes))) front_nodes
      ∙ length_front (nodes_of rs) tops.nodes x parts.nodes le

  hash_count : length (all_cells (take (suc (x / 256)) rs) (first_cells (x / 256) tops)).hashes ≡ 256 * (x / 256) + length (get_or (hashes_of rs) (x / 256) [])
  hash_count =
      ap (λ hs. length (interleave hs (take (x / 256) tops.hashes))) front_hashes
      ∙ length_front (hashes_of rs) tops.hashes x parts.hashes hashes_upto

  same_count : length (get_or (hashes_of rs) (x / 256) []) ≡ length (get_or (nodes_of rs) (x / 256) [])
  same_count =
      let count = chunk_count (nodes_of rs) tops.nodes parts.nodes in
      let counts = chunk_count (hashes_of rs) tops.hashes parts.hashes in
      let rows = length-map rs (λ (s : CellList). s.nodes) in
      let hash_rows = length-map rs (λ (s : CellList). s.hashes) in
      elim (cases_lt (x / 256) (length tops.nodes)) [
        | inl less ↦
            full_at (hashes_of rs) tops.hashes (x / 256) parts.hashes (omega arith)
            ∙ sym (full_at (nodes_of rs) tops.nodes (x / 256) parts.nodes less)
        | inr more ↦
            let behind = front_chunks (nodes_of rs) tops.nodes x parts.nodes le in
            let last : suc (x / 256) ≡ length rs = omega arith in
            ap length (hashes_at rs (x / 256)) ∙ (last_row rs tops parts (x / 256) last).2 ∙ ap length (sym (nodes_at rs (x / 256)))
      ]

  pub parts_front : AreParts (take (suc (x / 256)) rs) (first_cells (x / 256) tops)
  parts_front =
      let behind = front_chunks (nodes_of rs) tops.nodes x parts.nodes le in
      let hash_behind = front_chunks (hashes_of rs) tops.hashes x parts.hashes hashes_upto in
      let nodes = node_count in
      let hashes = hash_count in
      let same = same_count in
      record {
        nodes = subst (λ ns. AreSpread ns (take (x / 256) tops.nodes)) (sym front_nodes) (spread_take (nodes_of rs) tops.nodes (x / 256) parts.nodes behind);
        hashes = subst (λ hs. AreSpread hs (take (x / 256) tops.hashes)) (sym front_hashes) (spread_take (hashes_of rs) tops.hashes (x / 256) parts.hashes hash_behind);
        long = omega arith;
      }

  pub front_same : first_cells x (all_cells (take (suc (x / 256)) rs) (first_cells (x / 256) tops)) ≡ first_cells x (all_cells rs tops)
  front_same =
      same_cells (first_cells x (all_cells (take (suc (x / 256)) rs) (first_cells (x / 256) tops))) (first_cells x (all_cells rs tops))
      (ap (λ ns. take x (interleave ns (take (x / 256) tops.nodes))) front_nodes ∙ take_front (nodes_of rs) tops.nodes x parts.nodes le)
      (ap (λ hs. take x (interleave hs (take (x / 256) tops.hashes))) front_hashes ∙ take_front (hashes_of rs) tops.hashes x parts.hashes hashes_upto)

  pub front_ends : EndsIn x (all_cells (take (suc (x / 256)) rs) (first_cells (x / 256) tops))
  front_ends =
      let within = front_within (nodes_of rs) tops.nodes x parts.nodes le in
      let enough = within.0 in
      let few = within.1 in
      let nodes = node_count in
      record { nodes = omega arith; hashes = parts_front.long; last = omega arith }

-- ---- the last row is cut

module _ (rs : List CellList) (tops : CellList) (parts : AreParts rs tops) (x : ℕ) (ends : EndsIn x (all_cells rs tops)) where
  pub cut_row : suc (x / 256) ≡ length rs
  cut_row =
      ends_last (nodes_of rs) tops.nodes x parts.nodes (sym ends.last) ∙ length-map rs (λ (s : CellList). s.nodes)

  module _ (r : CellList) (is : r ≡ first_cells (x % 256) (get_or rs (x / 256) no_cells)) where
    pub cut_below : all_cells (set rs (x / 256) r) tops ≡ first_cells x (all_cells rs tops)
    cut_below =
        same_cells (all_cells (set rs (x / 256) r) tops) (first_cells x (all_cells rs tops))
        (ap (λ ns. interleave ns tops.nodes)
        (nodes_set rs (x / 256) r ∙ ap (set (nodes_of rs) (x / 256)) (ap (λ (s : CellList). s.nodes) is ∙ ap (take (x % 256)) (sym (nodes_at rs (x / 256)))))
        ∙ cut_last (nodes_of rs) tops.nodes x parts.nodes (cut_row ∙ sym (length-map rs (λ (s : CellList). s.nodes))))
        (ap (λ hs. interleave hs tops.hashes)
        (hashes_set rs (x / 256) r ∙ ap (set (hashes_of rs) (x / 256)) (ap (λ (s : CellList). s.hashes) is ∙ ap (take (x % 256)) (sym (hashes_at rs (x / 256)))))
        ∙ cut_last (hashes_of rs) tops.hashes x parts.hashes (cut_row ∙ sym (length-map rs (λ (s : CellList). s.hashes))))

    pub parts_cut : AreParts (set rs (x / 256) r) tops
    parts_cut =
        let old = get_or rs (x / 256) no_cells in
        let nodes : length r.nodes ≤ x % 256 = omega (arith, ap (λ (s : CellList). length s.nodes) is, length-take (x % 256) old.nodes) in
        let hashes : length r.hashes ≤ x % 256 = omega (arith, ap (λ (s : CellList). length s.hashes) is, length-take (x % 256) old.hashes) in
        let all = ap (λ (s : CellList). length s.nodes) cut_below ∙ length-take x (all_cells rs tops).nodes in
        let all_hashes = ap (λ (s : CellList). length s.hashes) cut_below ∙ length-take x (all_cells rs tops).hashes in
        let same = ends.hashes in
        parts_last rs tops (x / 256) r parts cut_row (omega arith) (omega arith) (omega arith)
