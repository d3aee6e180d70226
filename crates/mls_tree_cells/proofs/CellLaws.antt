-- Laws of lists of changes, and of the first cells.
use Rattle.std.proofs.Common.{◌≡◌, ℕ, zero, suc, ◌+◌, ◌/◌, ◌<◌, ◌≤◌, List, [], ◌∷◌, ◌++◌, length, get_or, take, set, replicate, Option, None, refl, sym, ◌∙◌, ap, subst, arith, append-nil, append_assoc, length-append, length-set, length-take}
use Rattle.std.proofs.lemmas.List.{get_or-take, take_all, take_at, take-take, length-replicate, replicate_more}
use Rattle.std.specs.List.{All}
use Rattle.mls_leaf.specs.declared.node.Node.{Node}
use Rattle.mls_tree_cells.specs.Cells.{CellList, Puts, put_nodes, drop_hashes_at}
use Rattle.mls_tree_cells.specs.Rows.{AddsBlanks, AddsCell, first_cells}
use Rattle.mls_tree_cells.specs.Parts.{EndsIn, PartList}
use Rattle.mls_tree_cells.specs.declared.changes.Change.{Change}
use Rattle.mls_tree_cells.proofs.PartLaws.{same_cells}

-- ---- changes

pub length_put : (cs : List Change) (xs : List (Option Node)) → length (put_nodes cs xs) ≡ length xs
length_put [] xs = refl
length_put (c ∷ cs) xs = length_put cs (set xs c.place c.slot) ∙ length-set xs c.place c.slot

pub length_dropped : (cs : List Change) (hs : List (Option (List ℕ))) → length (drop_hashes_at cs hs) ≡ length hs
length_dropped [] hs = refl
length_dropped (c ∷ cs) hs = length_dropped cs (set hs c.place None) ∙ length-set hs c.place None

pub take_set : {A : Type 0} (n : ℕ) (xs : List A) (i : ℕ) (y : A) → take n (set xs i y) ≡ set (take n xs) i y
take_set zero xs i y = refl
take_set (suc n) [] i y = refl
take_set (suc n) (x ∷ xs) zero y = refl
take_set (suc n) (x ∷ xs) (suc i) y = ap (λ zs. x ∷ zs) (take_set n xs i y)

take_put : (n : ℕ) (cs : List Change) (xs : List (Option Node)) → take n (put_nodes cs xs) ≡ put_nodes cs (take n xs)
take_put n [] xs = refl
take_put n (c ∷ cs) xs = take_put n cs (set xs c.place c.slot) ∙ ap (put_nodes cs) (take_set n xs c.place c.slot)

take_dropped : (n : ℕ) (cs : List Change) (hs : List (Option (List ℕ))) → take n (drop_hashes_at cs hs) ≡ drop_hashes_at cs (take n hs)
take_dropped n [] hs = refl
take_dropped n (c ∷ cs) hs = take_dropped n cs (set hs c.place None) ∙ ap (drop_hashes_at cs) (take_set n hs c.place None)

module _ (n : ℕ) (cs : List Change) (old new : CellList) (puts : Puts cs old new) where
  pub puts_front : Puts cs (first_cells n old) (first_cells n new)
  puts_front =
      record {
        nodes = ap (take n) puts.nodes ∙ take_put n cs old.nodes;
        hashes = ap (take n) puts.hashes ∙ take_dropped n cs old.hashes;
      }

  pub puts_ends : EndsIn n old → EndsIn n new
  puts_ends ends =
      let nodes = ap length puts.nodes ∙ length_put cs old.nodes in
      let hashes = ap length puts.hashes ∙ length_dropped cs old.hashes in
      let within = ends.nodes in
      let same = ends.hashes in
      record { nodes = omega arith; hashes = omega arith; last = ap (λ k. k / 256) nodes ∙ ends.last }

-- ---- cells that end in the last chunk

pub length_front : (n : ℕ) (old : CellList) → EndsIn n old → (length (take n old.nodes) ≡ n) × (length (take n old.hashes) ≡ n)
length_front n old ends =
    let within = ends.nodes in
    let same = ends.hashes in
    let nodes = length-take n old.nodes in
    let hashes = length-take n old.hashes in
    (omega arith, omega arith)

-- blank cells were added behind the first ones alone
module _ (n count : ℕ) (old cut new : CellList) (ends : EndsIn n old) (is : cut ≡ first_cells n old) (adds : AddsBlanks count cut new) where
  cut_nodes : length cut.nodes ≡ n
  cut_nodes = ap (λ (c : CellList). length c.nodes) is ∙ (length_front n old ends).0

  cut_hashes : length cut.hashes ≡ n
  cut_hashes = ap (λ (c : CellList). length c.hashes) is ∙ (length_front n old ends).1

  new_nodes : length new.nodes ≡ n + count
  new_nodes =
      let long = cut_nodes in
      let all = ap length adds.nodes ∙ length-append cut.nodes (replicate count None) in
      let more = length-replicate {A = Option Node} count None in
      omega arith

  new_hashes : length new.hashes ≡ n + count
  new_hashes =
      let long = cut_hashes in
      let all = ap length adds.hashes ∙ length-append cut.hashes (replicate count None) in
      let more = length-replicate {A = Option (List ℕ)} count None in
      omega arith

  pub grown_ends : EndsIn (n + count) new
  grown_ends =
      let nodes = new_nodes in
      let hashes = new_hashes in
      record { nodes = omega arith; hashes = omega arith; last = ap (λ k. k / 256) nodes }

  pub grown : AddsBlanks count (first_cells n old) (first_cells (n + count) new)
  grown =
      let nodes = new_nodes in
      let hashes = new_hashes in
      record {
        nodes = take_all (n + count) new.nodes (omega arith) ∙ adds.nodes ∙ ap (λ (c : CellList). c.nodes ++ replicate count None) is;
        hashes = take_all (n + count) new.hashes (omega arith) ∙ adds.hashes ∙ ap (λ (c : CellList). c.hashes ++ replicate count None) is;
      }

-- ---- the first ones of some cells are what is seen

module _ (len : ℕ) (cells value : CellList) (view : first_cells len cells ≡ value) (ends : EndsIn len cells) where
  pub seen_nodes : length value.nodes ≡ len
  seen_nodes = ap (λ (c : CellList). length c.nodes) (sym view) ∙ (length_front len cells ends).0

  pub seen_hashes : length value.hashes ≡ len
  seen_hashes = ap (λ (c : CellList). length c.hashes) (sym view) ∙ (length_front len cells ends).1

  module _ (x : ℕ) (lt : x < length value.nodes) where
    below : x < len
    below = let long = seen_nodes in omega arith

    pub cell_within : x < length cells.nodes
    cell_within =
        let less = below in
        let within = ends.nodes in
        omega arith

    pub node_is : get_or cells.nodes x None ≡ get_or value.nodes x None
    node_is = sym (get_or-take len cells.nodes x None below) ∙ ap (λ (c : CellList). get_or c.nodes x None) view

    pub hash_is : (d : Option (List ℕ)) → get_or cells.hashes x d ≡ get_or value.hashes x d
    hash_is d = sym (get_or-take len cells.hashes x d below) ∙ ap (λ (c : CellList). get_or c.hashes x d) view

    pub keep_is : (new : CellList) (h : Option (List ℕ)) → new ≡ record cells { hashes = set cells.hashes x h } → first_cells len new ≡ record value { hashes = set value.hashes x h }
    keep_is new h kept =
        let keep : CellList → CellList = λ c. record c { hashes = set c.hashes x h } in
        ap (first_cells len) kept
        ∙ same_cells (first_cells len (keep cells)) (keep (first_cells len cells)) refl (take_set len cells.hashes x h)
        ∙ ap keep view

    pub keep_ends : (new : CellList) (h : Option (List ℕ)) → new ≡ record cells { hashes = set cells.hashes x h } → EndsIn len new
    keep_ends new h kept =
        let nodes = ap (λ (c : CellList). length c.nodes) kept in
        let hashes = ap (λ (c : CellList). length c.hashes) kept ∙ length-set cells.hashes x h in
        let within = ends.nodes in
        let same = ends.hashes in
        record { nodes = omega arith; hashes = omega arith; last = ap (λ k. k / 256) nodes ∙ ends.last }

  pub all_within : (cs : List Change) → All (λ (c : Change). c.place < length value.nodes) cs → All (λ (c : Change). c.place < length cells.nodes) cs
  all_within cs all k d lt = cell_within (get_or cs k d).place (all k d lt)

  pub put_is : (cs : List Change) (new : CellList) → Puts cs cells new → Puts cs value (first_cells len new)
  put_is cs new puts =
      subst (λ (c : CellList). Puts cs c (first_cells len new)) view (puts_front len cs cells new puts)

  pub grow_is : (count : ℕ) (cut new : CellList) → cut ≡ first_cells len cells → AddsBlanks count cut new → AddsBlanks count value (first_cells (len + count) new)
  grow_is count cut new is adds =
      subst (λ (c : CellList). AddsBlanks count c (first_cells (len + count) new)) view (grown len count cells cut new ends is adds)

  pub grow_ends : (count : ℕ) (cut new : CellList) → cut ≡ first_cells len cells → AddsBlanks count cut new → EndsIn (len + count) new
  grow_ends count cut new is adds = grown_ends len count cells cut new ends is adds

  -- a growth that is taken back
  module _ (cut mid : CellList) (is : cut ≡ first_cells len cells) (adds : (n : ℕ) × AddsBlanks n cut mid) where
    pub mid_within : len ≤ length mid.nodes
    mid_within =
        let long = ap (λ (c : CellList). length c.nodes) is ∙ (length_front len cells ends).0 in
        let all = ap length adds.1.nodes ∙ length-append cut.nodes (replicate adds.0 None) in
        omega arith

    pub back_is : (new : CellList) → first_cells len new ≡ first_cells len mid → first_cells len new ≡ value
    back_is new back =
        let nodes = ap (λ (c : CellList). length c.nodes) is ∙ (length_front len cells ends).0 in
        let hashes = ap (λ (c : CellList). length c.hashes) is ∙ (length_front len cells ends).1 in
        back
        ∙ same_cells (first_cells len mid) cut
        (ap (take len) adds.1.nodes ∙ take_at cut.nodes (replicate adds.0 None) len nodes)
        (ap (take len) adds.1.hashes ∙ take_at cut.hashes (replicate adds.0 None) len hashes)
        ∙ is
        ∙ view

  pub truncate_is : (count : ℕ) (new : CellList) → count < len → first_cells count new ≡ first_cells count cells → first_cells count new ≡ first_cells count value
  truncate_is count new less same =
      same
      ∙ same_cells (first_cells count cells) (first_cells count (first_cells len cells))
      (sym (take-take count len cells.nodes (omega arith)))
      (sym (take-take count len cells.hashes (omega arith)))
      ∙ ap (first_cells count) view

  pub truncate_none : (count : ℕ) → len ≤ count → value ≡ first_cells count value
  truncate_none count le =
      let nodes = seen_nodes in
      let hashes = seen_hashes in
      same_cells value (first_cells count value)
      (sym (take_all count value.nodes (omega arith)))
      (sym (take_all count value.hashes (omega arith)))

-- cells that were added one after the other
module _ (len : ℕ) (cells : CellList) (xs : List (Option Node)) (long : length xs ≡ len) (nodes : cells.nodes ≡ xs) (hashes : cells.hashes ≡ replicate (length cells.nodes) None) where
  made_nodes : length cells.nodes ≡ len
  made_nodes = ap length nodes ∙ long

  made_hashes : length cells.hashes ≡ len
  made_hashes = ap length hashes ∙ length-replicate {A = Option (List ℕ)} (length cells.nodes) None ∙ made_nodes

  pub made_ends : EndsIn len cells
  made_ends =
      let one = made_nodes in
      let other = made_hashes in
      record { nodes = omega arith; hashes = omega arith; last = ap (λ k. k / 256) one }

  pub made_is : first_cells len cells ≡ record { nodes = xs; hashes = replicate (length xs) None }
  made_is =
      let one = made_nodes in
      let other = made_hashes in
      same_cells (first_cells len cells) (record { nodes = xs; hashes = replicate (length xs) None })
      (take_all len cells.nodes (omega arith) ∙ nodes)
      (take_all len cells.hashes (omega arith) ∙ hashes ∙ ap (λ (ys : List (Option Node)). replicate (length ys) None) nodes)

-- ---- cells that are added one at a time

pub no_blanks : (p : PartList) → AddsBlanks 0 p.cells p.cells
no_blanks p =
    record { nodes = sym (append-nil p.cells.nodes); hashes = sym (append-nil p.cells.hashes) }

pub one_blank : (n : ℕ) (first old new : CellList) → AddsBlanks n first old → (slot : Option Node) → slot ≡ None → AddsCell slot old new → AddsBlanks (n + 1) first new
one_blank n first old new before slot blank adds =
    record {
      nodes =
          adds.nodes
          ∙ ap (λ (s : Option Node). old.nodes ++ s ∷ []) blank
          ∙ ap (λ ns. ns ++ None ∷ []) before.nodes
          ∙ append_assoc first.nodes (replicate n None) (None ∷ [])
          ∙ ap (λ ns. first.nodes ++ ns) (replicate_more n None);
      hashes =
          adds.hashes
          ∙ ap (λ hs. hs ++ None ∷ []) before.hashes
          ∙ append_assoc first.hashes (replicate n None) (None ∷ [])
          ∙ ap (λ hs. first.hashes ++ hs) (replicate_more n None);
    }

pub blanks_stay : (n : ℕ) (first old new : CellList) → AddsBlanks n first old → new ≡ old → AddsBlanks n first new
blanks_stay n first old new before same = subst (AddsBlanks n first) (sym same) before

pub none_made : (cells : CellList) → cells ≡ record { nodes = []; hashes = [] } → cells.hashes ≡ replicate (length cells.nodes) None
none_made cells none =
    ap (λ (c : CellList). c.hashes) none
    ∙ sym (ap (λ (c : CellList). replicate {A = Option (List ℕ)} (length c.nodes) None) none)

pub more_made : (old new : CellList) (slot : Option Node) → AddsCell slot old new → old.hashes ≡ replicate (length old.nodes) None → new.hashes ≡ replicate (length new.nodes) None
more_made old new slot adds before =
    let size : length new.nodes ≡ length old.nodes + 1 = ap length adds.nodes ∙ length-append old.nodes (slot ∷ []) in
    adds.hashes
    ∙ ap (λ hs. hs ++ None ∷ []) before
    ∙ replicate_more (length old.nodes) None
    ∙ ap (λ n. replicate {A = Option (List ℕ)} n None) (sym size)
