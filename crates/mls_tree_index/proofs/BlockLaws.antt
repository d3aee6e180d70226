-- Laws of lists in blocks: an edit of one block is one of the whole list.
use Rattle.std.proofs.Common.{◌≡◌, ℕ, zero, suc, ◌+◌, ◌-◌, ◌<◌, ◌≤◌, true, false, List, [], ◌∷◌, ◌++◌, map, length, take, drop, get_or, set, refl, sym, ◌∙◌, ap, subst, arith, append_assoc, append-nil, add-one, inl, inr}
use Rattle.std.specs.List.{All, insert, remove}
use Rattle.std.proofs.lemmas.Bool.{cases_Bool, true≢false}
use Rattle.std.proofs.lemmas.List.{length-append, get_or_append_left, get_or-append-add, map-append, map-set}
use Rattle.std.proofs.lemmas.Grind.{get_or-set_at}
use Rattle.std.proofs.lemmas.List.{length-drop, length-set, length-take-le, nil_from_length, take-append-drop}
use Rattle.std.proofs.lemmas.List.Folds.{list_any_at, list_any_none}
use Rattle.std.proofs.lemmas.List.Edits.{insert-append_left, insert-append_right, length-insert, remove-append_left, remove-append_right}
use Rattle.std.proofs.lemmas.List.Elements.{All-set, All-get_or}
use Rattle.mls_tree_index.specs.declared.blocks.Spot.{Spot}
use Rattle.mls_tree_index.specs.declared.entry.Entry.{Entry}
use Rattle.mls_tree_index.specs.Entries.{blank_entry}
use Rattle.mls_tree_index.specs.Block.{BlockEntries}
use Rattle.mls_tree_index.specs.Blocks.{AreBlocks, IsOpenAt, IsOwnAt, PushesBlock, are_shared, blocks_of, joined, place_in, place_of, split_at}

joined-append : (cs bs : List (List Entry)) → joined (cs ++ bs) ≡ joined cs ++ joined bs
joined-append [] bs = refl
joined-append (x ∷ cs) bs = ap (λ es. x ++ es) (joined-append cs bs) ∙ sym (append_assoc x (joined cs) (joined bs))

-- ---- where a block stands

place_behind : (x : List Entry) (bs : List (List Entry)) (b o : ℕ) → place_in (x ∷ bs) (suc b) o ≡ length x + place_in bs b o
place_behind x bs b o = let more = length-append x (joined (take b bs)) in omega arith

pub place_next : (bs : List (List Entry)) (b o : ℕ) → b < length bs → place_in bs (suc b) o ≡ place_in bs b (length (get_or bs b [])) + o
place_next [] b o lt = absurd (omega arith)
place_next (x ∷ bs) zero o lt = let more = length-append x [] in omega arith
place_next (x ∷ bs) (suc b) o lt =
    let rest = place_next bs b o (omega arith) in
    let one = place_behind x bs b (length (get_or bs b [])) in
    let two = place_behind x bs (suc b) o in
    omega arith

pub block_within : (bs : List (List Entry)) (b : ℕ) → b < length bs → place_in bs b (length (get_or bs b [])) ≤ length (joined bs)
block_within [] b lt = absurd (omega arith)
block_within (x ∷ bs) zero lt = let more = length-append x (joined bs) in omega arith
block_within (x ∷ bs) (suc b) lt =
    let rest = block_within bs b (omega arith) in
    let one = place_behind x bs b (length (get_or bs b [])) in
    let more = length-append x (joined bs) in
    omega arith

-- the last block ends where the list does
pub block_last : (bs : List (List Entry)) (b : ℕ) → suc b ≡ length bs → place_in bs b (length (get_or bs b [])) ≡ length (joined bs)
block_last [] b last = absurd (omega arith)
block_last (x ∷ []) zero last = let more = length-append x [] in omega arith
block_last (x ∷ y ∷ bs) zero last = absurd (omega arith)
block_last (x ∷ bs) (suc b) last =
    let rest = block_last bs b (omega arith) in
    let one = place_behind x bs b (length (get_or bs b [])) in
    let more = length-append x (joined bs) in
    omega arith

-- an entry of a block is one of the list
pub entry_in : (bs : List (List Entry)) (b o : ℕ) → b < length bs → o < length (get_or bs b []) → get_or (joined bs) (place_in bs b o) blank_entry ≡ get_or (get_or bs b []) o blank_entry
entry_in [] b o lt low = absurd (omega arith)
entry_in (x ∷ bs) zero o lt low =
    let at : place_in (x ∷ bs) 0 o ≡ o = omega arith in
    ap (λ n. get_or (x ++ joined bs) n blank_entry) at ∙ get_or_append_left x (joined bs) blank_entry o low
entry_in (x ∷ bs) (suc b) o lt low =
    ap (λ n. get_or (x ++ joined bs) n blank_entry) (place_behind x bs b o)
    ∙ get_or-append-add x (joined bs) (place_in bs b o) blank_entry
    ∙ entry_in bs b o (omega arith) low

-- where a block ends, the next one begins
pub next_entry : (bs : List (List Entry)) (b o : ℕ) → b < length bs → length (get_or bs b []) ≡ o → suc b < length bs → 0 < length (get_or bs (suc b) []) → (place_in bs b o < length (joined bs)) × (get_or (joined bs) (place_in bs b o) blank_entry ≡ get_or (get_or bs (suc b) []) 0 blank_entry)
next_entry bs b o lt all more full =
    let next = place_next bs b 0 lt in
    let at : place_in bs b o ≡ place_in bs (suc b) 0 = omega arith in
    let within = block_within bs (suc b) more in
    (omega arith, ap (λ n. get_or (joined bs) n blank_entry) at ∙ entry_in bs (suc b) 0 more full)

pub place_end : (bs : List (List Entry)) (b o : ℕ) → b < length bs → length (get_or bs b []) ≡ o → place_in bs (b + 1) 0 ≡ place_in bs b o
place_end bs b o lt all =
    let next = place_next bs b 0 lt in
    ap (λ n. place_in bs n 0) (add-one b) ∙ omega arith

pub no_entry : (bs : List (List Entry)) (b o : ℕ) → b < length bs → length (get_or bs b []) ≤ o → length bs ≤ suc b → length (joined bs) ≤ place_in bs b o
no_entry bs b o lt all last = let ends = block_last bs b (omega arith) in omega arith

-- ---- edits of a block

pub insert_in : (bs : List (List Entry)) (b o : ℕ) (y : Entry) → b < length bs → o ≤ length (get_or bs b []) → joined (set bs b (insert (get_or bs b []) o y)) ≡ insert (joined bs) (place_in bs b o) y
insert_in [] b o y lt low = absurd (omega arith)
insert_in (x ∷ bs) zero o y lt low =
    let at : o ≡ place_in (x ∷ bs) 0 o = omega arith in
    sym (insert-append_left x (joined bs) o y low) ∙ ap (λ n. insert (x ++ joined bs) n y) at
insert_in (x ∷ bs) (suc b) o y lt low =
    let behind = place_behind x bs b o in
    let at : place_in bs b o ≡ place_in (x ∷ bs) (suc b) o - length x = omega arith in
    ap (λ zs. x ++ zs) (insert_in bs b o y (omega arith) low ∙ ap (λ n. insert (joined bs) n y) at)
    ∙ sym (insert-append_right x (joined bs) (length x) (place_in (x ∷ bs) (suc b) o) y refl (omega arith))

pub remove_in : (bs : List (List Entry)) (b o : ℕ) → b < length bs → o < length (get_or bs b []) → joined (set bs b (remove (get_or bs b []) o)) ≡ remove (joined bs) (place_in bs b o)
remove_in [] b o lt low = absurd (omega arith)
remove_in (x ∷ bs) zero o lt low =
    let at : o ≡ place_in (x ∷ bs) 0 o = omega arith in
    sym (remove-append_left x (joined bs) o low) ∙ ap (λ n. remove (x ++ joined bs) n) at
remove_in (x ∷ bs) (suc b) o lt low =
    let behind = place_behind x bs b o in
    let at : place_in bs b o ≡ place_in (x ∷ bs) (suc b) o - length x = omega arith in
    ap (λ zs. x ++ zs) (remove_in bs b o (omega arith) low ∙ ap (λ n. remove (joined bs) n) at)
    ∙ sym (remove-append_right x (joined bs) (length x) (place_in (x ∷ bs) (suc b) o) refl (omega arith))

-- a block that has no entry goes
pub without_empty : (bs : List (List Entry)) (b : ℕ) → b < length bs → get_or bs b [] ≡ [] → joined (remove bs b) ≡ joined bs
without_empty [] b lt none = absurd (omega arith)
without_empty (x ∷ bs) zero lt none = ap (λ v. v ++ joined bs) (sym none)
without_empty (x ∷ bs) (suc b) lt none = ap (λ zs. x ++ zs) (without_empty bs b (omega arith) none)

-- ---- what holds of each element, in an edited list

module _ {A : Type 0} (P : A → Type 0) where
  pub all_first : (x : A) (xs : List A) → All P (x ∷ xs) → P x
  all_first x xs all = all 0 x (omega arith)

  pub all_others : (x : A) (xs : List A) → All P (x ∷ xs) → All P xs
  all_others x xs all k d lt = all (suc k) d (omega arith)

  pub all_more : (x : A) (xs : List A) → P x → All P xs → All P (x ∷ xs)
  all_more x xs own all zero d lt = own
  all_more x xs own all (suc k) d lt = all k d (omega arith)

  pub all_insert : (xs : List A) (i : ℕ) (y : A) → P y → All P xs → All P (insert xs i y)
  all_insert [] zero y own all = all_more y [] own all
  all_insert [] (suc i) y own all = all_more y [] own all
  all_insert (x ∷ xs) zero y own all = all_more y (x ∷ xs) own all
  all_insert (x ∷ xs) (suc i) y own all =
      all_more x (insert xs i y) (all_first x xs all) (all_insert xs i y own (all_others x xs all))

  pub all_remove : (xs : List A) (i : ℕ) → All P xs → All P (remove xs i)
  all_remove [] zero all = all
  all_remove [] (suc i) all = all
  all_remove (x ∷ xs) zero all = all_others x xs all
  all_remove (x ∷ xs) (suc i) all = all_more x (remove xs i) (all_first x xs all) (all_remove xs i (all_others x xs all))

  pub all_pushed : (xs : List A) (y : A) → P y → All P xs → All P (xs ++ y ∷ [])
  all_pushed [] y own all = all_more y [] own all
  all_pushed (x ∷ xs) y own all =
      all_more x (xs ++ y ∷ []) (all_first x xs all) (all_pushed xs y own (all_others x xs all))

pub remove_set : {A : Type 0} (xs : List A) (i : ℕ) (y : A) → remove (set xs i y) i ≡ remove xs i
remove_set [] i y = refl
remove_set (x ∷ xs) zero y = refl
remove_set (x ∷ xs) (suc i) y = ap (λ zs. x ∷ zs) (remove_set xs i y)

pub map_insert : {A B : Type 0} (f : A → B) (xs : List A) (i : ℕ) (y : A) → map f (insert xs i y) ≡ insert (map f xs) i (f y)
map_insert f [] zero y = refl
map_insert f [] (suc i) y = refl
map_insert f (x ∷ xs) zero y = refl
map_insert f (x ∷ xs) (suc i) y = ap (λ zs. f x ∷ zs) (map_insert f xs i y)

pub map_remove : {A B : Type 0} (f : A → B) (xs : List A) (i : ℕ) → map f (remove xs i) ≡ remove (map f xs) i
map_remove f [] zero = refl
map_remove f [] (suc i) = refl
map_remove f (x ∷ xs) zero = refl
map_remove f (x ∷ xs) (suc i) = ap (λ zs. f x ∷ zs) (map_remove f xs i)

-- ---- the entries of blocks

pub block_at : (vs : List BlockEntries) (b : ℕ) (d : BlockEntries) → b < length vs → get_or (blocks_of vs) b [] ≡ (get_or vs b d).entries
block_at [] b d lt = absurd (omega arith)
block_at (v ∷ vs) zero d lt = refl
block_at (v ∷ vs) (suc b) d lt = block_at vs b d (omega arith)

pub count_of : (vs : List BlockEntries) → length (blocks_of vs) ≡ length vs
count_of [] = refl
count_of (v ∷ vs) = ap suc (count_of vs)

pub read_at : (vs : List BlockEntries) (b : ℕ) (v : BlockEntries) → b < length vs → v ≡ get_or vs b v → v.entries ≡ get_or (blocks_of vs) b []
read_at vs b v lt is = ap (λ (w : BlockEntries). w.entries) is ∙ sym (block_at vs b v lt)

pub set_at : (vs : List BlockEntries) (b : ℕ) (v : BlockEntries) → blocks_of (set vs b v) ≡ set (blocks_of vs) b v.entries
set_at vs b v = map-set (λ (w : BlockEntries). w.entries) vs b v

-- a block takes the place of one with the same entries
pub blocks_stay : (vs : List BlockEntries) (b : ℕ) (v w : BlockEntries) → b < length vs → v ≡ get_or vs b v → w.entries ≡ v.entries → blocks_of (set vs b w) ≡ blocks_of vs
blocks_stay [] b v w lt is same = absurd (omega arith)
blocks_stay (x ∷ vs) zero v w lt is same = ap (λ ns. ns ∷ blocks_of vs) (same ∙ ap (λ (u : BlockEntries). u.entries) is)
blocks_stay (x ∷ vs) (suc b) v w lt is same = ap (λ bs. x.entries ∷ bs) (blocks_stay vs b v w (omega arith) is same)

-- ---- blocks that copies may share

own_each : (vs : List BlockEntries) → are_shared vs ≡ false → All (λ v. v.shared ≡ false) vs
own_each vs none k d lt = elim (cases_Bool ((get_or vs k d).shared)) [
  | inl on ↦ absurd (true≢false (sym (list_any_at (λ (v : BlockEntries). v.shared) vs k d lt on) ∙ none))
  | inr out ↦ out
]

each_own : (vs : List BlockEntries) → All (λ v. v.shared ≡ false) vs → are_shared vs ≡ false
each_own vs all = list_any_none (λ (v : BlockEntries). v.shared) vs all

pub own_set : (vs : List BlockEntries) (b : ℕ) (v : BlockEntries) → v.shared ≡ false → are_shared vs ≡ false → are_shared (set vs b v) ≡ false
own_set vs b v own none =
    each_own (set vs b v) (All-set (λ (w : BlockEntries). w.shared ≡ false) vs b v own (own_each vs none))

pub own_insert : (vs : List BlockEntries) (b : ℕ) (v : BlockEntries) → v.shared ≡ false → are_shared vs ≡ false → are_shared (insert vs b v) ≡ false
own_insert vs b v own none =
    each_own (insert vs b v) (all_insert (λ (w : BlockEntries). w.shared ≡ false) vs b v own (own_each vs none))

pub own_remove : (vs : List BlockEntries) (b : ℕ) → are_shared vs ≡ false → are_shared (remove vs b) ≡ false
own_remove vs b none =
    each_own (remove vs b) (all_remove (λ (w : BlockEntries). w.shared ≡ false) vs b (own_each vs none))

pub own_pushed : (vs ws : List BlockEntries) (v : BlockEntries) → ws ≡ vs ++ v ∷ [] → v.shared ≡ false → are_shared vs ≡ false → are_shared ws ≡ false
own_pushed vs ws v is own none =
    ap are_shared is
    ∙ each_own (vs ++ v ∷ []) (all_pushed (λ (w : BlockEntries). w.shared ≡ false) vs v own (own_each vs none))

share_at : (vs : List BlockEntries) (b : ℕ) (v : BlockEntries) → b < length vs → get_or (map (λ w. w.shared) vs) b true ≡ (get_or vs b v).shared
share_at [] b v lt = absurd (omega arith)
share_at (x ∷ vs) zero v lt = refl
share_at (x ∷ vs) (suc b) v lt = share_at vs b v (omega arith)

pub at_own : (vs : List BlockEntries) (b : ℕ) (v : BlockEntries) → b < length vs → v ≡ get_or vs b v → IsOwnAt vs b → v.shared ≡ false
at_own vs b v lt is own = ap (λ (w : BlockEntries). w.shared) is ∙ sym (share_at vs b v lt) ∙ own

pub own_within : (vs : List BlockEntries) (b : ℕ) → IsOwnAt vs b → b < length vs
own_within [] b own = absurd (true≢false own)
own_within (x ∷ vs) zero own = omega arith
own_within (x ∷ vs) (suc b) own = let rest = own_within vs b own in omega arith

pub own_here : (vs : List BlockEntries) (b : ℕ) (v : BlockEntries) → b < length vs → v.shared ≡ false → IsOwnAt (set vs b v) b
own_here [] b v lt own = absurd (omega arith)
own_here (x ∷ vs) zero v lt own = own
own_here (x ∷ vs) (suc b) v lt own = own_here vs b v (omega arith) own

-- one that is one's own stays so where another takes its place, or this one
pub own_stays : (vs : List BlockEntries) (b k : ℕ) (v : BlockEntries) → v.shared ≡ false → IsOwnAt vs k → IsOwnAt (set vs b v) k
own_stays [] b k v own is = is
own_stays (x ∷ vs) zero zero v own is = own
own_stays (x ∷ vs) zero (suc k) v own is = is
own_stays (x ∷ vs) (suc b) zero v own is = is
own_stays (x ∷ vs) (suc b) (suc k) v own is = own_stays vs b k v own is

pub own_lower : (vs : List BlockEntries) (b : ℕ) (lower upper : BlockEntries) → b < length vs → lower.shared ≡ false → IsOwnAt (insert (set vs b lower) (suc b) upper) b
own_lower [] b lower upper lt own = absurd (omega arith)
own_lower (x ∷ vs) zero lower upper lt own = own
own_lower (x ∷ vs) (suc b) lower upper lt own = own_lower vs b lower upper (omega arith) own

pub own_upper : (vs : List BlockEntries) (b : ℕ) (lower upper : BlockEntries) → b < length vs → upper.shared ≡ false → IsOwnAt (insert (set vs b lower) (suc b) upper) (suc b)
own_upper [] b lower upper lt own = absurd (omega arith)
own_upper (x ∷ vs) zero lower upper lt own = own
own_upper (x ∷ vs) (suc b) lower upper lt own = own_upper vs b lower upper (omega arith) own

-- one that is one's own stays so where a block takes another's place, and is its own if that was
pub own_stays_if : (vs : List BlockEntries) (b k : ℕ) (v w : BlockEntries) → b < length vs → v ≡ get_or vs b v → (v.shared ≡ false → w.shared ≡ false) → IsOwnAt vs k → IsOwnAt (set vs b w) k
own_stays_if [] b k v w lt at stays is = is
own_stays_if (x ∷ vs) zero zero v w lt at stays is = stays (ap (λ (u : BlockEntries). u.shared) at ∙ is)
own_stays_if (x ∷ vs) zero (suc k) v w lt at stays is = is
own_stays_if (x ∷ vs) (suc b) zero v w lt at stays is = is
own_stays_if (x ∷ vs) (suc b) (suc k) v w lt at stays is = own_stays_if vs b k v w (omega arith) at stays is

-- all are one's own where each is
pub own_all : (vs : List BlockEntries) (n : ℕ) → length vs ≤ n → ((k : ℕ) → k < n → IsOwnAt vs k) → are_shared vs ≡ false
own_all vs n all own = each_own vs (λ k d lt. sym (share_at vs k d lt) ∙ own k (omega arith))

-- ---- blocks that have an entry

pub blocks_set : (bs : List (List Entry)) (b : ℕ) (v : List Entry) → 0 < length v → AreBlocks bs → AreBlocks (set bs b v)
blocks_set [] b v some are = are
blocks_set (x ∷ bs) zero v some are = are
blocks_set (x ∷ bs) (suc b) v some are = All-set (λ w. 0 < length w) bs b v some are

-- the only block may have none
pub blocks_only : (bs : List (List Entry)) (b : ℕ) (v : List Entry) → length bs ≤ 1 → AreBlocks bs → AreBlocks (set bs b v)
blocks_only [] b v one are = are
blocks_only (x ∷ []) zero v one are = are
blocks_only (x ∷ []) (suc b) v one are = are
blocks_only (x ∷ y ∷ bs) b v one are = absurd (omega arith)

pub blocks_insert : (bs : List (List Entry)) (b : ℕ) (v : List Entry) → 0 < length v → AreBlocks bs → AreBlocks (insert bs (suc b) v)
blocks_insert [] b v some are = absurd are
blocks_insert (x ∷ bs) b v some are = all_insert (λ w. 0 < length w) bs b v some are

pub blocks_remove : (bs : List (List Entry)) (b : ℕ) → 1 < length bs → AreBlocks bs → AreBlocks (remove bs b)
blocks_remove [] b more are = absurd are
blocks_remove (x ∷ []) b more are = absurd (omega arith)
blocks_remove (x ∷ y ∷ bs) zero more are = all_others (λ w. 0 < length w) y bs are
blocks_remove (x ∷ y ∷ bs) (suc b) more are = all_remove (λ w. 0 < length w) (y ∷ bs) b are

pub blocks_full : (bs : List (List Entry)) (b : ℕ) → AreBlocks bs → 0 < b → b < length bs → 0 < length (get_or bs b [])
blocks_full [] b are some lt = absurd are
blocks_full (x ∷ bs) zero are some lt = absurd (omega arith)
blocks_full (x ∷ bs) (suc b) are some lt = All-get_or (λ w. 0 < length w) bs b [] (omega arith) are

-- ---- a block that is added at the end

pub pushed_block : (vs ws : List BlockEntries) (v : BlockEntries) (ns : List Entry) → ws ≡ vs ++ v ∷ [] → v.entries ≡ ns → PushesBlock ns vs ws
pushed_block vs ws v ns is own =
    ap blocks_of is
    ∙ map-append (λ (w : BlockEntries). w.entries) vs (v ∷ [])
    ∙ ap (λ ms. blocks_of vs ++ ms ∷ []) own

pub pushed_entries : (bs cs : List (List Entry)) (ns : List Entry) → cs ≡ bs ++ ns ∷ [] → joined cs ≡ joined bs ++ ns
pushed_entries bs cs ns is = ap joined is ∙ joined-append bs (ns ∷ []) ∙ ap (λ ms. joined bs ++ ms) (append-nil ns)

pub pushed_blocks : (bs cs : List (List Entry)) (ns : List Entry) → cs ≡ bs ++ ns ∷ [] → 0 < length ns → AreBlocks bs → AreBlocks cs
pushed_blocks bs cs ns is some are = subst AreBlocks (sym is) (pushed bs are)
  where
    pushed : (ds : List (List Entry)) → AreBlocks ds → AreBlocks (ds ++ ns ∷ [])
    pushed [] none = absurd none
    pushed (d ∷ ds) all = all_pushed (λ w. 0 < length w) ds ns some all

-- the first block may have no entry
pub first_block : (cs : List (List Entry)) (ns : List Entry) → cs ≡ [] ++ ns ∷ [] → AreBlocks cs
first_block cs ns is = subst AreBlocks (sym is) (λ k d lt. absurd (omega arith))

-- ---- a block that is left with no entry

module _ (vs : List BlockEntries) (b : ℕ) (v : BlockEntries) where
  pub empty_goes : b < length vs → length v.entries ≡ 0 → joined (blocks_of (remove (set vs b v) b)) ≡ joined (blocks_of (set vs b v))
  empty_goes lt none =
      let same = length-set vs b v in
      let count = count_of (set vs b v) in
      let here = block_at (set vs b v) b v (omega arith) ∙ ap (λ (w : BlockEntries). w.entries) (get_or-set_at vs b b v v refl lt) ∙ nil_from_length v.entries none in
      ap joined (map_remove (λ (w : BlockEntries). w.entries) (set vs b v) b)
      ∙ without_empty (blocks_of (set vs b v)) b (omega arith) here

  pub blocks_left : 1 < length vs → AreBlocks (blocks_of vs) → AreBlocks (blocks_of (remove (set vs b v) b))
  blocks_left more are =
      let count = count_of vs in
      subst AreBlocks (sym (map_remove (λ (w : BlockEntries). w.entries) (set vs b v) b ∙ ap (λ bs. remove bs b) (set_at vs b v) ∙ remove_set (blocks_of vs) b v.entries))
      (blocks_remove (blocks_of vs) b (omega arith) are)

-- ---- a block that is split in two

module _ (lower upper : List Entry) where
  parts_in : (bs : List (List Entry)) (b : ℕ) → b < length bs → get_or bs b [] ≡ lower ++ upper → joined (insert (set bs b lower) (suc b) upper) ≡ joined bs
  parts_in [] b lt parts = absurd (omega arith)
  parts_in (x ∷ bs) zero lt parts =
      sym (append_assoc lower upper (joined bs)) ∙ ap (λ v. v ++ joined bs) (sym parts)
  parts_in (x ∷ bs) (suc b) lt parts = ap (λ zs. x ++ zs) (parts_in bs b (omega arith) parts)

  lower_part : (bs : List (List Entry)) (b : ℕ) → b < length bs → get_or (insert (set bs b lower) (suc b) upper) b [] ≡ lower
  lower_part [] b lt = absurd (omega arith)
  lower_part (x ∷ bs) zero lt = refl
  lower_part (x ∷ bs) (suc b) lt = lower_part bs b (omega arith)

  upper_part : (bs : List (List Entry)) (b : ℕ) → b < length bs → get_or (insert (set bs b lower) (suc b) upper) (suc b) [] ≡ upper
  upper_part [] b lt = absurd (omega arith)
  upper_part (x ∷ bs) zero lt = refl
  upper_part (x ∷ bs) (suc b) lt = upper_part bs b (omega arith)

  lower_place : (bs : List (List Entry)) (b o : ℕ) → b < length bs → place_in (insert (set bs b lower) (suc b) upper) b o ≡ place_in bs b o
  lower_place [] b o lt = absurd (omega arith)
  lower_place (x ∷ bs) zero o lt = refl
  lower_place (x ∷ bs) (suc b) o lt =
      place_behind x (insert (set bs b lower) (suc b) upper) b o
      ∙ ap (λ n. length x + n) (lower_place bs b o (omega arith))
      ∙ sym (place_behind x bs b o)

  parts_count : (bs : List (List Entry)) (b : ℕ) → b < length bs → length (insert (set bs b lower) (suc b) upper) ≡ length bs + 1
  parts_count bs b lt =
      let same = length-set bs b lower in
      length-insert (set bs b lower) (suc b) upper (omega arith) ∙ ap (λ n. n + 1) same

-- the halves of a full block
module _ (bs : List (List Entry)) (b : ℕ) (lt : b < length bs) (full : length (get_or bs b []) ≡ 512) where
  lower_size : length (take 256 (get_or bs b [])) ≡ 256
  lower_size = length-take-le 256 (get_or bs b []) (omega arith)

  upper_size : length (drop 256 (get_or bs b [])) ≡ 256
  upper_size = let all = length-drop 256 (get_or bs b []) in omega arith

  pub split_entries : joined (split_at bs b) ≡ joined bs
  split_entries = parts_in (take 256 (get_or bs b [])) (drop 256 (get_or bs b [])) bs b lt (sym (take-append-drop 256 (get_or bs b [])))

  pub split_blocks : AreBlocks bs → AreBlocks (split_at bs b)
  split_blocks are =
      let low = lower_size in
      let high = upper_size in
      blocks_insert (set bs b (take 256 (get_or bs b []))) b (drop 256 (get_or bs b [])) (omega arith) (blocks_set bs b (take 256 (get_or bs b [])) (omega arith) are)

  pub split_here : (s : Spot) → s.block ≡ b → s.offset ≤ 256 → IsOpenAt (split_at bs b) s
  split_here s at le =
      let count = parts_count (take 256 (get_or bs b [])) (drop 256 (get_or bs b [])) bs b lt in
      let size : length (get_or (split_at bs b) s.block []) ≡ 256 = ap (λ n. length (get_or (split_at bs b) n [])) at ∙ ap length (lower_part (take 256 (get_or bs b [])) (drop 256 (get_or bs b [])) bs b lt) ∙ lower_size in
      record { block = omega arith; offset = omega arith; few = omega arith }

  pub split_there : (s : Spot) → s.block ≡ suc b → s.offset ≤ 256 → IsOpenAt (split_at bs b) s
  split_there s at le =
      let count = parts_count (take 256 (get_or bs b [])) (drop 256 (get_or bs b [])) bs b lt in
      let size : length (get_or (split_at bs b) s.block []) ≡ 256 = ap (λ n. length (get_or (split_at bs b) n [])) at ∙ ap length (upper_part (take 256 (get_or bs b [])) (drop 256 (get_or bs b [])) bs b lt) ∙ upper_size in
      record { block = omega arith; offset = omega arith; few = omega arith }

  pub place_here : (s : Spot) → s.block ≡ b → place_of (split_at bs b) s ≡ place_of bs s
  place_here s at =
      ap (λ n. place_in (split_at bs b) n s.offset) at
      ∙ lower_place (take 256 (get_or bs b [])) (drop 256 (get_or bs b [])) bs b s.offset lt
      ∙ ap (λ n. place_in bs n s.offset) (sym at)

  pub place_there : (s : Spot) → s.block ≡ suc b → place_of (split_at bs b) s ≡ place_in bs b (s.offset + 256)
  place_there s at =
      let count = parts_count (take 256 (get_or bs b [])) (drop 256 (get_or bs b [])) bs b lt in
      let next = place_next (split_at bs b) b s.offset (omega arith) in
      let size = ap length (lower_part (take 256 (get_or bs b [])) (drop 256 (get_or bs b [])) bs b lt) ∙ lower_size in
      let before = lower_place (take 256 (get_or bs b [])) (drop 256 (get_or bs b [])) bs b (length (get_or (split_at bs b) b [])) lt in
      ap (λ n. place_in (split_at bs b) n s.offset) at ∙ next ∙ omega arith

-- the same of blocks that copies may share
pub parts_of : (vs : List BlockEntries) (b : ℕ) (lower upper : BlockEntries) → lower.entries ≡ take 256 (get_or (blocks_of vs) b []) → upper.entries ≡ drop 256 (get_or (blocks_of vs) b []) → blocks_of (insert (set vs b lower) (suc b) upper) ≡ split_at (blocks_of vs) b
parts_of vs b lower upper low high =
    map_insert (λ (w : BlockEntries). w.entries) (set vs b lower) (suc b) upper
    ∙ ap (λ bs. insert bs (suc b) upper.entries) (set_at vs b lower)
    ∙ ap (λ ns. insert (set (blocks_of vs) b ns) (suc b) upper.entries) low
    ∙ ap (insert (set (blocks_of vs) b (take 256 (get_or (blocks_of vs) b []))) (suc b)) high

own_of : (vs : List BlockEntries) (k : ℕ) → are_shared vs ≡ false → k < length vs → IsOwnAt vs k
own_of vs k none lt =
    let d : BlockEntries = record { entries = []; shared = false } in
    share_at vs k d lt ∙ own_each vs none k d lt

-- none is shared where none was and each that was one's own still is
pub own_kept : (vs ws : List BlockEntries) → length ws ≡ length vs → ((k : ℕ) → IsOwnAt vs k → IsOwnAt ws k) → are_shared vs ≡ false → are_shared ws ≡ false
own_kept vs ws long own none = own_all ws (length vs) (omega arith) (λ k low. own k (own_of vs k none low))
