-- Good trees stay good.
use Rattle.std.proofs.Common.{◌≡◌, ℕ, ◌<◌, ◌≤◌, true, List, [], ◌∷◌, Option, Some, None, refl, arith, le-leb}
use Rattle.mls_leaf.specs.declared.leaf.LeafNode.{LeafNode}
use Rattle.mls_tree_model.specs.Term.{Term, Leaf, width, height, is_perfect, has_leaf, is_full_width}
use Rattle.mls_tree_model.specs.Sets.{same_bytes, is_distinct}
use Rattle.mls_tree_model.specs.Edits.{put, enter, grow, first_blank, place_for, room_for, place_in, add, update, remove}
use Rattle.mls_tree_model.specs.Lists.{all_parents}
use Rattle.mls_tree_model.specs.Merge.{merge}
use Rattle.mls_tree_model.specs.Keys.{gather, leaf_key, parent_key, leaf_signature, encryption_keys, signature_keys, all_members}
use Rattle.mls_tree_model.specs.Good.{Rules, IsGood, AreNew, has_good_shape, is_within, has_good_lists, has_good_hashes, has_distinct_keys, has_distinct_clients, is_all_signed, is_all_capable, is_all_fit}
use Rattle.mls_tree_model.proofs.CountLaws.{distinct-put, distinct-remove, distinct-grow, distinct-enter, distinct-merge, key-list_leaf, key_step, no_step}
use Rattle.mls_tree_model.proofs.PlaceLaws.{first_blank_at, leaf_at-grow}
use Rattle.mls_tree_model.proofs.SoundLaws.{sound_of_good, good_of_sound, fit_of_new, sound_update, sound_remove, sound_add, sound_merge}
use Rattle.mls_tree_model.specs.Laws.{IsPath}

pub good_single : (rules : Rules) (x : LeafNode) → 0 < rules.limit → AreNew rules 0 x [] (Leaf None) → IsGood rules (Leaf (Some x))
unfolding width height is_perfect is_full_width all_parents gather all_members is_within has_good_shape has_good_lists has_good_hashes has_distinct_keys has_distinct_clients is_all_signed is_all_capable is_all_fit
good_single rules x some new =
    record {
      perfect = refl;
      rising = refl;
      shape = refl;
      within = le-leb 1 rules.limit some;
      lists = refl;
      hashes = refl;
      keys = new.keys;
      clients = new.clients;
      signed = new.signed;
      capable = new.capable;
      fit = new.fit;
    }

keys_updated : (rules : Rules) (t : Term) (i : ℕ) (x : LeafNode) → AreNew rules i x [] (put 0 t i None) → has_distinct_keys (update t i x) ≡ true
unfolding update has_distinct_keys
keys_updated rules t i x new = distinct-put leaf_key parent_key refl refl 0 t i x new.keys

clients_updated : (rules : Rules) (t : Term) (i : ℕ) (x : LeafNode) → AreNew rules i x [] (put 0 t i None) → has_distinct_clients (update t i x) ≡ true
unfolding update has_distinct_clients
clients_updated rules t i x new = distinct-put leaf_signature (λ c. []) refl refl 0 t i x new.clients

pub good_update : (rules : Rules) (t : Term) (i : ℕ) (x : LeafNode) → IsGood rules t → i < width t → AreNew rules i x [] (put 0 t i None) → IsGood rules (update t i x)
good_update rules t i x g in_it new =
    good_of_sound rules (update t i x) (sound_update rules t i x (sound_of_good rules t g) in_it (fit_of_new rules i x [] _ new)) (keys_updated rules t i x new) (clients_updated rules t i x new)

keys_removed : (t : Term) (i : ℕ) → has_distinct_keys t ≡ true → has_distinct_keys (remove t i) ≡ true
unfolding remove has_distinct_keys
keys_removed t i h = distinct-remove leaf_key parent_key refl refl 0 t i h

clients_removed : (t : Term) (i : ℕ) → has_distinct_clients t ≡ true → has_distinct_clients (remove t i) ≡ true
unfolding remove has_distinct_clients
clients_removed t i h = distinct-remove leaf_signature (λ c. []) refl refl 0 t i h

pub good_remove : (rules : Rules) (t : Term) (i : ℕ) → IsGood rules t → i < width t → has_leaf (put 0 t i None) ≡ true → IsGood rules (remove t i)
good_remove rules t i g in_it some =
    good_of_sound rules (remove t i) (sound_remove rules t i (sound_of_good rules t g) in_it some) (keys_removed t i g.keys) (clients_removed t i g.clients)

keys_in : (t : Term) (x : LeafNode) (o : Option ℕ) → first_blank 0 t ≡ o → is_distinct same_bytes (x.encryption_key ∷ encryption_keys t) ≡ true → has_distinct_keys (enter 0 (room_for o t) (place_for o t) x) ≡ true
unfolding has_distinct_keys
keys_in t x (Some i) is new =
    distinct-enter leaf_key parent_key refl refl key-list_leaf 0 t i x (first_blank_at 0 t i is).2 new
keys_in t x None is new =
    distinct-enter leaf_key parent_key refl refl key-list_leaf 0 (grow t) (width t) x (leaf_at-grow 0 t (width t) (omega arith))
    (distinct-grow leaf_key parent_key refl refl t (x.encryption_key ∷ []) new)

clients_in : (t : Term) (x : LeafNode) (o : Option ℕ) → first_blank 0 t ≡ o → is_distinct same_bytes (x.signature_key ∷ signature_keys t) ≡ true → has_distinct_clients (enter 0 (room_for o t) (place_for o t) x) ≡ true
unfolding has_distinct_clients
clients_in t x (Some i) is new =
    distinct-enter leaf_signature (λ c. []) refl refl (λ j c. refl) 0 t i x (first_blank_at 0 t i is).2 new
clients_in t x None is new =
    distinct-enter leaf_signature (λ c. []) refl refl (λ j c. refl) 0 (grow t) (width t) x (leaf_at-grow 0 t (width t) (omega arith))
    (distinct-grow leaf_signature (λ c. []) refl refl t (x.signature_key ∷ []) new)

keys_added : (t : Term) (x : LeafNode) → is_distinct same_bytes (x.encryption_key ∷ encryption_keys t) ≡ true → has_distinct_keys (add t x) ≡ true
unfolding add
keys_added t x new = keys_in t x (first_blank 0 t) refl new

clients_added : (t : Term) (x : LeafNode) → is_distinct same_bytes (x.signature_key ∷ signature_keys t) ≡ true → has_distinct_clients (add t x) ≡ true
unfolding add
clients_added t x new = clients_in t x (first_blank 0 t) refl new

pub good_add : (rules : Rules) (t : Term) (x : LeafNode) → IsGood rules t → width (add t x) ≤ rules.limit → AreNew rules (place_in t) x [] t → IsGood rules (add t x)
good_add rules t x g narrow new =
    good_of_sound rules (add t x) (sound_add rules t x (sound_of_good rules t g) narrow (fit_of_new rules _ x [] t new)) (keys_added t x new.keys) (clients_added t x new.clients)

pub good_merge : (rules : Rules) (t : Term) (i : ℕ) (ks : List (List ℕ)) (h : List ℕ) (x : LeafNode) → IsGood rules t → i < width t → IsPath 0 t i ks h x → AreNew rules i x ks (put 0 t i None) → IsGood rules (merge 0 t i ks h x)
unfolding has_distinct_keys has_distinct_clients
good_merge rules t i ks h x g in_it path new =
    good_of_sound rules (merge 0 t i ks h x) (sound_merge rules t i ks h x (sound_of_good rules t g) in_it path (fit_of_new rules i x ks _ new))
    (distinct-merge leaf_key parent_key refl refl (λ zs. zs) key_step 0 t i ks h x new.keys)
    (distinct-merge leaf_signature (λ c. []) refl refl (λ zs. []) no_step 0 t i ks h x new.clients)
