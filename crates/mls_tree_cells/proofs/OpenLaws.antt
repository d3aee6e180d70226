-- What chunks and tops say of the cells that they are seen as, and edits of them.
use Rattle.std.proofs.Common.{◌≡◌, ℕ, suc, ◌/◌, ◌%◌, ◌<◌, ◌≤◌, true, false, List, [], ◌∷◌, ◌++◌, length, get_or, take, set, Option, None, Result, Ok, Err, OnOk, OnErr, sym, ◌∙◌, ap, subst, arith}
use Rattle.std.proofs.lemmas.List.{get_or_default, map-append, take-map}
use Rattle.mls_leaf.specs.declared.node.Node.{Node}
use Rattle.mls_tree_cells.specs.Cells.{CellList}
use Rattle.mls_tree_cells.specs.Chunks.{ChunkRow}
use Rattle.mls_tree_cells.specs.Rows.{AddsCell, SetsSlot, first_cells}
use Rattle.mls_tree_cells.specs.Parts.{AreParts, EndsIn, IsOpen, PartList, all_cells, rows_of, shares_of}
use Rattle.mls_tree_cells.proofs.PartLaws.{no_cells, rows_stay, row_at, share_at, rows_set, row_count, row_within, tops_within, node_below, node_above, hash_below, hash_above, put_below, parts_put_below, keep_below, parts_keep_below, put_above, parts_put_above, keep_above, parts_keep_above, count_of, push_below, parts_push_below, push_above, parts_push_above, parts_front, front_same, front_ends, cut_row, cut_below, parts_cut}

-- what chunks and tops are seen as
abbrev pub seen : List ChunkRow → CellList → PartList
seen cs tops = record { cells = all_cells (rows_of cs) tops; shares = shares_of cs }

-- what holds, holds on an error
pub on_err : {T E : Type 0} {P : Type 0} (result : Result T E) → P → OnErr result P
on_err (Ok u) here = tt
on_err (Err e) here = here

-- two reads of one chunk
pub same_read : (cs : List ChunkRow) (k : ℕ) (c d : ChunkRow) → k < length cs → c ≡ get_or cs k c → d ≡ get_or cs k d → c ≡ d
same_read cs k c d lt is same = is ∙ get_or_default cs k c d lt ∙ sym same

-- ---- cell x

module _ (cs : List ChunkRow) (tops : CellList) (p : PartList) (view : seen cs tops ≡ p) (parts : AreParts (rows_of cs) tops) (x : ℕ) (lt : x < length p.cells.nodes) where
  inside : x < length (all_cells (rows_of cs) tops).nodes
  inside = subst (λ (q : PartList). x < length q.cells.nodes) (sym view) lt

  pub chunk_in : x % 256 < 255 → x / 256 < length cs
  chunk_in low =
      let here = (row_within (rows_of cs) tops parts x inside low).0 in
      let count = row_count cs in
      omega arith

  pub top_in : 255 ≤ x % 256 → x / 256 < length tops.nodes
  top_in high = tops_within (rows_of cs) tops parts x inside high

  pub node_of_top : 255 ≤ x % 256 → get_or tops.nodes (x / 256) None ≡ get_or p.cells.nodes x None
  node_of_top high =
      node_above (rows_of cs) tops parts x inside high ∙ ap (λ (q : PartList). get_or q.cells.nodes x None) view

  pub hash_of_top : (d : Option (List ℕ)) → 255 ≤ x % 256 → get_or tops.hashes (x / 256) d ≡ get_or p.cells.hashes x d
  hash_of_top d high =
      hash_above (rows_of cs) tops parts x inside d high ∙ ap (λ (q : PartList). get_or q.cells.hashes x d) view

  -- the chunk of the cell
  module _ (c : ChunkRow) (low : x % 256 < 255) (is : c ≡ get_or cs (x / 256) c) where
    row_is : c.row ≡ get_or (rows_of cs) (x / 256) no_cells
    row_is = row_at cs (x / 256) c (chunk_in low) is

    pub row_long : x % 256 < length c.row.nodes
    row_long =
        subst (λ (r : CellList). x % 256 < length r.nodes) (sym row_is) (row_within (rows_of cs) tops parts x inside low).1

    pub node_of_row : get_or c.row.nodes (x % 256) None ≡ get_or p.cells.nodes x None
    node_of_row =
        ap (λ (r : CellList). get_or r.nodes (x % 256) None) row_is
        ∙ node_below (rows_of cs) tops parts x inside low
        ∙ ap (λ (q : PartList). get_or q.cells.nodes x None) view

    pub hash_of_row : (d : Option (List ℕ)) → get_or c.row.hashes (x % 256) d ≡ get_or p.cells.hashes x d
    hash_of_row d =
        ap (λ (r : CellList). get_or r.hashes (x % 256) d) row_is
        ∙ hash_below (rows_of cs) tops parts x inside d low
        ∙ ap (λ (q : PartList). get_or q.cells.hashes x d) view

    pub own_if_open : IsOpen p.shares x → c.shared ≡ false
    own_if_open own =
        share_at cs (x / 256) c (chunk_in low) is
        ∙ ap (λ (q : PartList). get_or q.shares (x / 256) true) view
        ∙ own low

    -- it is edited to d
    module _ (d : ChunkRow) where
      at_row : (slot : Option Node) → SetsSlot (x % 256) slot c.row d.row → SetsSlot (x % 256) slot (get_or (rows_of cs) (x / 256) no_cells) d.row
      at_row slot sets = subst (λ (r : CellList). SetsSlot (x % 256) slot r d.row) row_is sets

      pub put_row : (slot : Option Node) → SetsSlot (x % 256) slot c.row d.row → SetsSlot x slot p.cells (all_cells (rows_of (set cs (x / 256) d)) tops)
      put_row slot sets =
          subst (λ (rs : List CellList). SetsSlot x slot p.cells (all_cells rs tops)) (sym (rows_set cs (x / 256) d))
          (subst (λ (q : PartList). SetsSlot x slot q.cells (all_cells (set (rows_of cs) (x / 256) d.row) tops)) view
          (put_below (rows_of cs) tops parts x inside slot d.row low (at_row slot sets)))

      pub put_row_parts : (slot : Option Node) → SetsSlot (x % 256) slot c.row d.row → AreParts (rows_of (set cs (x / 256) d)) tops
      put_row_parts slot sets =
          subst (λ (rs : List CellList). AreParts rs tops) (sym (rows_set cs (x / 256) d))
          (parts_put_below (rows_of cs) tops parts x inside slot d.row low (at_row slot sets))

      pub keep_row : (h : Option (List ℕ)) → d ≡ record c { row = record c.row { hashes = set c.row.hashes (x % 256) h } } → all_cells (rows_of (set cs (x / 256) d)) tops ≡ record p.cells { hashes = set p.cells.hashes x h }
      keep_row h kept =
          let keep : CellList → CellList = λ r. record r { hashes = set r.hashes x h } in
          ap (λ (rs : List CellList). all_cells rs tops) (rows_set cs (x / 256) d)
          ∙ keep_below (rows_of cs) tops parts x inside h d.row low
          (ap (λ (e : ChunkRow). e.row.nodes) kept ∙ ap (λ (r : CellList). r.nodes) row_is)
          (ap (λ (e : ChunkRow). e.row.hashes) kept ∙ ap (λ (r : CellList). set r.hashes (x % 256) h) row_is)
          ∙ ap (λ (q : PartList). keep q.cells) view

      pub keep_row_parts : (h : Option (List ℕ)) → d ≡ record c { row = record c.row { hashes = set c.row.hashes (x % 256) h } } → AreParts (rows_of (set cs (x / 256) d)) tops
      keep_row_parts h kept =
          subst (λ (rs : List CellList). AreParts rs tops) (sym (rows_set cs (x / 256) d))
          (parts_keep_below (rows_of cs) tops parts x inside h d.row low
          (ap (λ (e : ChunkRow). e.row.nodes) kept ∙ ap (λ (r : CellList). r.nodes) row_is)
          (ap (λ (e : ChunkRow). e.row.hashes) kept ∙ ap (λ (r : CellList). set r.hashes (x % 256) h) row_is))

  -- ---- the tops are edited to r

  module _ (high : 255 ≤ x % 256) (r : CellList) where
    pub put_top : (slot : Option Node) → SetsSlot (x / 256) slot tops r → SetsSlot x slot p.cells (all_cells (rows_of cs) r)
    put_top slot sets =
        subst (λ (q : PartList). SetsSlot x slot q.cells (all_cells (rows_of cs) r)) view
        (put_above (rows_of cs) tops parts x inside slot r high sets)

    pub put_top_parts : (slot : Option Node) → SetsSlot (x / 256) slot tops r → AreParts (rows_of cs) r
    put_top_parts slot sets = parts_put_above (rows_of cs) tops parts x inside slot r high sets

    pub keep_top : (h : Option (List ℕ)) → r ≡ record tops { hashes = set tops.hashes (x / 256) h } → all_cells (rows_of cs) r ≡ record p.cells { hashes = set p.cells.hashes x h }
    keep_top h kept =
        let keep : CellList → CellList = λ s. record s { hashes = set s.hashes x h } in
        keep_above (rows_of cs) tops parts x inside h r high (ap (λ (s : CellList). s.nodes) kept) (ap (λ (s : CellList). s.hashes) kept)
        ∙ ap (λ (q : PartList). keep q.cells) view

    pub keep_top_parts : (h : Option (List ℕ)) → r ≡ record tops { hashes = set tops.hashes (x / 256) h } → AreParts (rows_of cs) r
    keep_top_parts h kept =
        parts_keep_above (rows_of cs) tops parts x inside h r high (ap (λ (s : CellList). s.nodes) kept) (ap (λ (s : CellList). s.hashes) kept)

-- ---- the last chunk

module _ (cs : List ChunkRow) (tops : CellList) (p : PartList) (view : seen cs tops ≡ p) (parts : AreParts (rows_of cs) tops) where
  pub some_chunk : 0 < length cs
  some_chunk =
      let count = count_of (rows_of cs) tops parts in
      let rows = row_count cs in
      omega arith

  rows_more : (d : ChunkRow) → d.row ≡ no_cells → rows_of (cs ++ d ∷ []) ≡ rows_of cs ++ no_cells ∷ []
  rows_more d none = map-append (λ (e : ChunkRow). e.row) cs (d ∷ []) ∙ ap (λ (r : CellList). rows_of cs ++ r ∷ []) none

  module _ (k : ℕ) (last : suc k ≡ length cs) (c : ChunkRow) (is : c ≡ get_or cs k c) (slot : Option Node) where
    last_is : c.row ≡ get_or (rows_of cs) k no_cells
    last_is = row_at cs k c (omega arith) is

    last_of_rows : suc k ≡ length (rows_of cs)
    last_of_rows = last ∙ sym (row_count cs)

    pub push_row : (d : ChunkRow) → AddsCell slot c.row d.row → AddsCell slot p.cells (all_cells (rows_of (set cs k d)) tops)
    push_row d adds =
        subst (λ (rs : List CellList). AddsCell slot p.cells (all_cells rs tops)) (sym (rows_set cs k d))
        (subst (λ (q : PartList). AddsCell slot q.cells (all_cells (set (rows_of cs) k d.row) tops)) view
        (push_below (rows_of cs) tops parts k last_of_rows slot d.row (subst (λ (r : CellList). AddsCell slot r d.row) last_is adds)))

    pub push_row_parts : (d : ChunkRow) → length c.row.nodes < 255 → AddsCell slot c.row d.row → AreParts (rows_of (set cs k d)) tops
    push_row_parts d few adds =
        subst (λ (rs : List CellList). AreParts rs tops) (sym (rows_set cs k d))
        (parts_push_below (rows_of cs) tops parts k last_of_rows slot d.row
        (subst (λ (r : CellList). length r.nodes < 255) last_is few)
        (subst (λ (r : CellList). AddsCell slot r d.row) last_is adds))

    -- whatever the answer is
    pub push_any_parts : {T E : Type 0} (d : ChunkRow) → length c.row.nodes < 255 → (result : Result T E) → OnOk result (AddsCell slot c.row d.row) → OnErr result (d.row ≡ c.row) → AreParts (rows_of (set cs k d)) tops
    push_any_parts d few (Ok u) ok err = push_row_parts d few ok
    push_any_parts d few (Err e) ok err =
        subst (λ (rs : List CellList). AreParts rs tops) (sym (rows_stay cs k c d (omega arith) is err)) parts

    pub push_ok : {T E : Type 0} (d : ChunkRow) (result : Result T E) → OnOk result (AddsCell slot c.row d.row) → OnOk result (AddsCell slot p.cells (all_cells (rows_of (set cs k d)) tops))
    push_ok d (Ok u) ok = push_row d ok
    push_ok d (Err e) ok = tt

    pub push_err : {T E : Type 0} (d : ChunkRow) (result : Result T E) → OnErr result (d.row ≡ c.row) → OnErr result (all_cells (rows_of (set cs k d)) tops ≡ p.cells)
    push_err d (Ok u) err = tt
    push_err d (Err e) err =
        ap (λ (rs : List CellList). all_cells rs tops) (rows_stay cs k c d (omega arith) is err)
        ∙ ap (λ (q : PartList). q.cells) view

    pub push_top : (r : CellList) (d : ChunkRow) → d.row ≡ no_cells → AddsCell slot tops r → AddsCell slot p.cells (all_cells (rows_of (cs ++ d ∷ [])) r)
    push_top r d none adds =
        subst (λ (rs : List CellList). AddsCell slot p.cells (all_cells rs r)) (sym (rows_more d none))
        (subst (λ (q : PartList). AddsCell slot q.cells (all_cells (rows_of cs ++ no_cells ∷ []) r)) view
        (push_above (rows_of cs) tops parts k last_of_rows slot r adds))

    pub push_top_parts : (r : CellList) (d : ChunkRow) → d.row ≡ no_cells → 255 ≤ length c.row.nodes → AddsCell slot tops r → AreParts (rows_of (cs ++ d ∷ [])) r
    push_top_parts r d none many adds =
        subst (λ (rs : List CellList). AreParts rs r) (sym (rows_more d none))
        (parts_push_above (rows_of cs) tops parts k last_of_rows slot r
        (subst (λ (s : CellList). 255 ≤ length s.nodes) last_is many)
        adds)

-- ---- the first cells alone

module _ (cs : List ChunkRow) (tops : CellList) (p : PartList) (view : seen cs tops ≡ p) (parts : AreParts (rows_of cs) tops) (x : ℕ) where
  module _ (le : x ≤ length p.cells.nodes) (ds : List ChunkRow) (taken : ds ≡ take (suc (x / 256)) cs) (r : CellList) (is : r ≡ first_cells (x / 256) tops) where
    upto : x ≤ length (all_cells (rows_of cs) tops).nodes
    upto = subst (λ (q : PartList). x ≤ length q.cells.nodes) (sym view) le

    rows_taken : rows_of ds ≡ take (suc (x / 256)) (rows_of cs)
    rows_taken = ap rows_of taken ∙ sym (take-map (λ (d : ChunkRow). d.row) (suc (x / 256)) cs)

    pub drop_parts : AreParts (rows_of ds) r
    drop_parts =
        subst (λ (rs : List CellList). AreParts rs r) (sym rows_taken)
        (subst (AreParts (take (suc (x / 256)) (rows_of cs))) (sym is) (parts_front (rows_of cs) tops parts x upto))

    all_taken : all_cells (rows_of ds) r ≡ all_cells (take (suc (x / 256)) (rows_of cs)) (first_cells (x / 256) tops)
    all_taken = ap (λ (rs : List CellList). all_cells rs r) rows_taken ∙ ap (all_cells (take (suc (x / 256)) (rows_of cs))) is

    pub drop_same : first_cells x (all_cells (rows_of ds) r) ≡ first_cells x p.cells
    drop_same =
        ap (first_cells x) all_taken
        ∙ front_same (rows_of cs) tops parts x upto
        ∙ ap (λ (q : PartList). first_cells x q.cells) view

    pub drop_ends : EndsIn x (all_cells (rows_of ds) r)
    drop_ends = subst (EndsIn x) (sym all_taken) (front_ends (rows_of cs) tops parts x upto)

  module _ (ends : EndsIn x p.cells) where
    ends_here : EndsIn x (all_cells (rows_of cs) tops)
    ends_here = subst (λ (q : PartList). EndsIn x q.cells) (sym view) ends

    pub cut_last_is : suc (x / 256) ≡ length cs
    cut_last_is = cut_row (rows_of cs) tops parts x ends_here ∙ row_count cs

    module _ (c d : ChunkRow) (is : c ≡ get_or cs (x / 256) c) (cut : d.row ≡ first_cells (x % 256) c.row) where
      cut_is : d.row ≡ first_cells (x % 256) (get_or (rows_of cs) (x / 256) no_cells)
      cut_is =
          let last = cut_last_is in
          cut ∙ ap (first_cells (x % 256)) (row_at cs (x / 256) c (omega arith) is)

      pub cut_same : all_cells (rows_of (set cs (x / 256) d)) tops ≡ first_cells x p.cells
      cut_same =
          ap (λ (rs : List CellList). all_cells rs tops) (rows_set cs (x / 256) d)
          ∙ cut_below (rows_of cs) tops parts x ends_here d.row cut_is
          ∙ ap (λ (q : PartList). first_cells x q.cells) view

      pub cut_parts : AreParts (rows_of (set cs (x / 256) d)) tops
      cut_parts =
          subst (λ (rs : List CellList). AreParts rs tops) (sym (rows_set cs (x / 256) d))
          (parts_cut (rows_of cs) tops parts x ends_here d.row cut_is)

    module _ (c d : ChunkRow) (is : c ≡ get_or cs (x / 256) c) where
      stays : d.row ≡ c.row → rows_of (set cs (x / 256) d) ≡ rows_of cs
      stays same =
          let last = cut_last_is in
          rows_stay cs (x / 256) c d (omega arith) is same

      pub cut_any_parts : {T E : Type 0} (result : Result T E) → OnOk result (d.row ≡ first_cells (x % 256) c.row) → OnErr result (d.row ≡ c.row) → AreParts (rows_of (set cs (x / 256) d)) tops
      cut_any_parts (Ok u) ok err = cut_parts c d is ok
      cut_any_parts (Err e) ok err = subst (λ (rs : List CellList). AreParts rs tops) (sym (stays err)) parts

      pub cut_ok : {T E : Type 0} (result : Result T E) → OnOk result (d.row ≡ first_cells (x % 256) c.row) → OnOk result (all_cells (rows_of (set cs (x / 256) d)) tops ≡ first_cells x p.cells)
      cut_ok (Ok u) ok = cut_same c d is ok
      cut_ok (Err e) ok = tt

      pub cut_err : {T E : Type 0} (result : Result T E) → OnErr result (d.row ≡ c.row) → OnErr result (all_cells (rows_of (set cs (x / 256) d)) tops ≡ p.cells)
      cut_err (Ok u) err = tt
      cut_err (Err e) err =
          ap (λ (rs : List CellList). all_cells rs tops) (stays err) ∙ ap (λ (q : PartList). q.cells) view
