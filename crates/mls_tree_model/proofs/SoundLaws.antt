-- Sound trees stay sound, and a good tree is a sound one in which nothing repeats.
use Rattle.std.proofs.Common.{◌≡◌, ℕ, suc, ◌<◌, ◌≤◌, true, List, [], Option, Some, None, refl, arith, leb-true, le-leb}
use Rattle.std.specs.List.{list_all}
use Rattle.std.proofs.lemmas.Bool.{and_parts}
use Rattle.mls_leaf.specs.declared.leaf.LeafNode.{LeafNode}
use Rattle.mls_tree_model.specs.Term.{Term, width, height, is_perfect, has_leaf, is_full_width, leaf_at}
use Rattle.mls_tree_model.specs.Edits.{put, enter, grow, trim, first_blank, place_for, room_for, place_in, add, update, remove}
use Rattle.mls_tree_model.specs.Lists.{all_parents, lists_here, rises_here}
use Rattle.mls_tree_model.specs.Hashes.{is_parent_hash_valid}
use Rattle.mls_tree_model.specs.Merge.{merge}
use Rattle.mls_tree_model.specs.Keys.{encryption_keys, all_members}
use Rattle.mls_tree_model.specs.Good.{Rules, IsGood, IsSound, AreNew, AreFit, has_good_shape, is_within, has_good_lists, has_good_hashes, has_distinct_keys, has_distinct_clients, is_all_signed, is_all_capable, is_all_fit}
use Rattle.mls_tree_model.proofs.ShapeLaws.{width-put, perfect-put, perfect-enter, perfect-grow, perfect-trim, full-trim}
use Rattle.mls_tree_model.proofs.ParentLaws.{parents-put, parents-grow, parents-trim}
use Rattle.mls_tree_model.proofs.NamedLaws.{fresh, lists-enter, rises-enter}
use Rattle.mls_tree_model.proofs.AddLaws.{valid-enter}
use Rattle.mls_tree_model.proofs.MergeLaws.{width-merge, valid-merge, lists-merge, rises-merge}
use Rattle.mls_tree_model.proofs.PlaceLaws.{first_blank_at, leaf_at-grow, width-grow, width-trim, full-put, full-enter, full-merge, full-grow, perfect-merge, perfect_itself}
use Rattle.mls_tree_model.proofs.MemberLaws.{members-put, members-enter, members-merge, all_members-grow, all_members-trim, keys-put, keys-enter, keys-merge, keys-grow, keys-trim}
use Rattle.mls_tree_model.specs.Laws.{IsPath}

pub within_from : (limit : ℕ) (t : Term) → width t ≤ limit → is_within limit t ≡ true
unfolding is_within
within_from limit t le = le-leb (width t) limit le

pub within_at : (limit : ℕ) (t : Term) → is_within limit t ≡ true → width t ≤ limit
unfolding is_within
within_at limit t h = leb-true (width t) limit h

-- ---- what a good tree is more

pub sound_of_good : (rules : Rules) (t : Term) → IsGood rules t → IsSound rules t
sound_of_good rules t g =
    record {
      perfect = g.perfect;
      rising = g.rising;
      shape = g.shape;
      within = g.within;
      lists = g.lists;
      hashes = g.hashes;
      signed = g.signed;
      capable = g.capable;
      fit = g.fit;
    }

pub good_of_sound : (rules : Rules) (t : Term) → IsSound rules t → has_distinct_keys t ≡ true → has_distinct_clients t ≡ true → IsGood rules t
good_of_sound rules t s keys clients =
    record {
      perfect = s.perfect;
      rising = s.rising;
      shape = s.shape;
      within = s.within;
      lists = s.lists;
      hashes = s.hashes;
      keys = keys;
      clients = clients;
      signed = s.signed;
      capable = s.capable;
      fit = s.fit;
    }

pub fit_of_new : (rules : Rules) (i : ℕ) (x : LeafNode) (ks : List (List ℕ)) (t : Term) → AreNew rules i x ks t → AreFit rules i x ks
fit_of_new rules i x ks t new = record { signed = new.signed; capable = new.capable; fit = new.fit }

-- ---- edits

pub sound_update : (rules : Rules) (t : Term) (i : ℕ) (x : LeafNode) → IsSound rules t → i < width t → AreFit rules i x [] → IsSound rules (update t i x)
unfolding update has_good_shape has_good_lists has_good_hashes is_all_signed is_all_capable is_all_fit
sound_update rules t i x g in_it new =
    let w = width-put 0 t i (Some x) in
    let narrow = within_at rules.limit t g.within in
    record {
      perfect = perfect_itself (height t) _ (perfect-put (height t) 0 t i (Some x) g.perfect);
      rising = parents-put rises_here 0 t i (Some x) g.rising;
      shape = full-put 0 t i x g.shape;
      within = within_from rules.limit (put 0 t i (Some x)) (omega arith);
      lists = parents-put lists_here 0 t i (Some x) g.lists;
      hashes = parents-put is_parent_hash_valid 0 t i (Some x) g.hashes;
      signed = members-put rules.is_signed 0 t i (Some x) (omega arith) (omega arith) new.signed g.signed;
      capable = members-put (λ j y. rules.is_capable y) 0 t i (Some x) (omega arith) (omega arith) new.capable g.capable;
      fit = keys-put rules.is_fit 0 t i (Some x) new.fit g.fit;
    }

pub sound_remove : (rules : Rules) (t : Term) (i : ℕ) → IsSound rules t → i < width t → has_leaf (put 0 t i None) ≡ true → IsSound rules (remove t i)
unfolding remove has_good_shape has_good_lists has_good_hashes is_all_signed is_all_capable is_all_fit
sound_remove rules t i g in_it some =
    let p = perfect-trim (height t) (put 0 t i None) (perfect-put (height t) 0 t i None g.perfect) in
    let w = width-put 0 t i None in
    let v = width-trim (put 0 t i None) in
    let narrow = within_at rules.limit t g.within in
    record {
      perfect = perfect_itself p.0 _ p.1;
      rising = parents-trim rises_here 0 (put 0 t i None) (parents-put rises_here 0 t i None g.rising);
      shape = full-trim (put 0 t i None) some;
      within = within_from rules.limit (trim (put 0 t i None)) (omega arith);
      lists = parents-trim lists_here 0 (put 0 t i None) (parents-put lists_here 0 t i None g.lists);
      hashes = parents-trim is_parent_hash_valid 0 (put 0 t i None) (parents-put is_parent_hash_valid 0 t i None g.hashes);
      signed = all_members-trim rules.is_signed 0 (put 0 t i None) (members-put rules.is_signed 0 t i None (omega arith) (omega arith) refl g.signed);
      capable = all_members-trim (λ j y. rules.is_capable y) 0 (put 0 t i None) (members-put (λ j y. rules.is_capable y) 0 t i None (omega arith) (omega arith) refl g.capable);
      fit = keys-trim rules.is_fit (put 0 t i None) (keys-put rules.is_fit 0 t i None refl g.fit);
    }

-- what is left of a sound tree where room is made in it: all that isn't about its right half and its width
record HasRoom (rules : Rules) (i : ℕ) (t : Term) : Type 0 where
  tall : ℕ
  perfect : is_perfect tall t ≡ true
  rising : all_parents rises_here 0 t ≡ true
  listed : all_parents lists_here 0 t ≡ true
  valid : all_parents is_parent_hash_valid 0 t ≡ true
  signed : all_members rules.is_signed 0 t ≡ true
  capable : all_members (λ j y. rules.is_capable y) 0 t ≡ true
  fit : list_all rules.is_fit (encryption_keys t) ≡ true
  inside : i < width t
  free : leaf_at 0 t i ≡ None

-- a leaf added there
entered : (rules : Rules) (i : ℕ) (x : LeafNode) (t : Term) → HasRoom rules i t → AreFit rules i x [] → is_full_width (enter 0 t i x) ≡ true → width (enter 0 t i x) ≤ rules.limit → IsSound rules (enter 0 t i x)
unfolding has_good_shape has_good_lists has_good_hashes is_all_signed is_all_capable is_all_fit
entered rules i x t g new full narrow =
    let high = g.inside in
    record {
      perfect = perfect_itself g.tall _ (perfect-enter g.tall 0 t i x g.perfect);
      rising = rises-enter 0 t i x g.rising;
      shape = full;
      within = within_from rules.limit (enter 0 t i x) narrow;
      lists = lists-enter 0 t i x (omega arith) (omega arith) g.listed;
      hashes = valid-enter 0 t i x (omega arith) (omega arith) g.free (fresh 0 t i g.listed g.free) g.valid;
      signed = members-enter rules.is_signed 0 t i x (omega arith) (omega arith) new.signed g.signed;
      capable = members-enter (λ j y. rules.is_capable y) 0 t i x (omega arith) (omega arith) new.capable g.capable;
      fit = keys-enter rules.is_fit 0 t i x (and_parts (rules.is_fit x.encryption_key) _ new.fit).0 g.fit;
    }

add_in : (rules : Rules) (t : Term) (x : LeafNode) (o : Option ℕ) → first_blank 0 t ≡ o → IsSound rules t → AreFit rules (place_for o t) x [] → width (enter 0 (room_for o t) (place_for o t) x) ≤ rules.limit → IsSound rules (enter 0 (room_for o t) (place_for o t) x)
unfolding has_good_shape has_good_lists has_good_hashes is_all_signed is_all_capable is_all_fit
add_in rules t x (Some i) is g new narrow =
    let f = first_blank_at 0 t i is in
    let high = f.1 in
    entered rules i x t
    (record {
      tall = height t;
      perfect = g.perfect;
      rising = g.rising;
      listed = g.lists;
      valid = g.hashes;
      signed = g.signed;
      capable = g.capable;
      fit = g.fit;
      inside = omega arith;
      free = f.2;
    })
    new
    (full-enter 0 t i x g.shape)
    narrow
add_in rules t x None is g new narrow =
    entered rules (width t) x (grow t)
    (record {
      tall = suc (height t);
      perfect = perfect-grow (height t) t g.perfect;
      rising = parents-grow rises_here 0 t g.rising;
      listed = parents-grow lists_here 0 t g.lists;
      valid = parents-grow is_parent_hash_valid 0 t g.hashes;
      signed = all_members-grow rules.is_signed 0 t g.signed;
      capable = all_members-grow (λ j y. rules.is_capable y) 0 t g.capable;
      fit = keys-grow rules.is_fit t g.fit;
      inside = width-grow t;
      free = leaf_at-grow 0 t (width t) (omega arith);
    })
    new
    (full-grow 0 t (width t) x (omega arith))
    narrow

pub sound_add : (rules : Rules) (t : Term) (x : LeafNode) → IsSound rules t → width (add t x) ≤ rules.limit → AreFit rules (place_in t) x [] → IsSound rules (add t x)
unfolding add
sound_add rules t x g narrow new = add_in rules t x (first_blank 0 t) refl g new narrow

pub sound_merge : (rules : Rules) (t : Term) (i : ℕ) (ks : List (List ℕ)) (h : List ℕ) (x : LeafNode) → IsSound rules t → i < width t → IsPath 0 t i ks h x → AreFit rules i x ks → IsSound rules (merge 0 t i ks h x)
unfolding has_good_shape has_good_lists has_good_hashes is_all_signed is_all_capable is_all_fit
sound_merge rules t i ks h x g in_it path new =
    let w = width-merge 0 t i ks h x in
    let narrow = within_at rules.limit t g.within in
    let fit = and_parts (rules.is_fit x.encryption_key) (list_all rules.is_fit ks) new.fit in
    record {
      perfect = perfect_itself (height t) _ (perfect-merge (height t) 0 t i ks h x g.perfect);
      rising = rises-merge 0 t i ks h x g.rising;
      shape = full-merge 0 t i ks h x g.shape;
      within = within_from rules.limit (merge 0 t i ks h x) (omega arith);
      lists = lists-merge 0 t i ks h x g.lists;
      hashes = valid-merge 0 t i ks h x path g.hashes;
      signed = members-merge rules.is_signed 0 t i ks h x (omega arith) (omega arith) new.signed g.signed;
      capable = members-merge (λ j y. rules.is_capable y) 0 t i ks h x (omega arith) (omega arith) new.capable g.capable;
      fit = keys-merge rules.is_fit 0 t i ks h x fit.1 fit.0 g.fit;
    }
