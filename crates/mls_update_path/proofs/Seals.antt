-- The path that is sealed, and what its receivers find of it.
use Rattle.std.proofs.Common.{◌≡◌, ℕ, zero, suc, ◌+◌, ◌==◌, ◌&&◌, true, List, [], ◌∷◌, length, map, Some, Result, Ok, Err, refl, ap, ap₂, sym, subst, ◌∙◌, arith, eq-eqb, length-append}
use Rattle.std.specs.List.{list_all}
use Rattle.std.specs.Str.{bytes_eq}
use Rattle.std.proofs.lemmas.Slice.Eq.{bytes_eq-Decides}
use Rattle.std.proofs.lemmas.List.{length-map}
use Rattle.mls_wire.specs.Checks.{Passed, passed, ◌>>◌}
use Rattle.mls_wire.proofs.CheckLaws.{bind_ok, then_ok}
use Rattle.mls_wire.specs.Reading.{◌>>=◌}
use Rattle.mls_leaf.specs.declared.extension.Extension.{Extension}
use Rattle.mls_leaf.specs.declared.leaf.LeafNode.{LeafNode}
use Rattle.mls_types.specs.declared.update_path.UpdatePath.{UpdatePath}
use Rattle.mls_types.specs.declared.update_path.UpdatePathNode.{UpdatePathNode}
use Rattle.mls_suite.specs.Crypto.{Crypto, Lawful}
use Rattle.mls_checks.specs.Checks.{replacement_checks}
use Rattle.mls_checks.specs.declared.checks.LeafUse.TheVariants as replaced_for
use Rattle.mls_tree_model.specs.Term.{Term}
use Rattle.mls_tree_model.specs.Way.{way, path_length, ciphertext_counts}
use Rattle.mls_tree.specs.Tree.{member_at}
use Rattle.mls_tree.specs.Paths.{merge_answer}
use Rattle.mls_treekem_model.specs.Chain.{chain, path_secrets, node_public, keys_of_path}
use Rattle.mls_treekem_model.specs.Keys.{Keys}
use Rattle.mls_treekem_model.specs.Make.{Climb, climb_make, made_keys}
use Rattle.mls_treekem_model.proofs.MakeLaws.{count_is_length}
use Rattle.mls_treekem_model.specs.Seal.{targets, sealed_path}
use Rattle.mls_treekem_model.specs.Seeds.{path_seed, seal_seed}
use Rattle.mls_treekem_model.proofs.WholeLaws.{sealed_keys, sealed_lengths}
use Rattle.mls_treekem.specs.Secrets.{AreOfChain}
use Rattle.mls_treekem.specs.declared.secrets.PathSecrets.{PathSecrets}
use Rattle.mls_model.specs.PublicState.{PublicState}
use Rattle.mls_model.specs.Commit.{Edits, node_keys, cipher_counts, due_counts, apply_update_path}
use Rattle.mls_model.specs.Candidate.{leaf_key_of}
use Rattle.mls_model.specs.Member.{Member}
use Rattle.mls_model.specs.Make.{MadePath, committed_leaf, new_path}
use Rattle.mls_update_path.specs.Parts.{path_public_keys, provisional_bytes, leaf_with, leaf_and_tree_of, path_of}
use Rattle.mls_update_path.proofs.Merges.{leaf_key_is}

-- ---- checks one after another

bind_assoc : {A B C : Type 0} (r : Result A ℕ) (f : A → Result B ℕ) (g : B → Result C ℕ) → ((r >>= f) >>= g) ≡ (r >>= λ a. f a >>= g)
bind_assoc (Ok x) f g = refl
bind_assoc (Err n) f g = refl

then_assoc : {A B : Type 0} (q : Result Passed ℕ) (r : Result A ℕ) (g : A → Result B ℕ) → ((q >> r) >>= g) ≡ (q >> (r >>= g))
then_assoc (Ok x) r g = refl
then_assoc (Err n) r g = refl

bind_same : {A B : Type 0} (r : Result A ℕ) (f g : A → Result B ℕ) → ((x : A) → f x ≡ g x) → (r >>= f) ≡ (r >>= g)
bind_same (Ok x) f g h = h x
bind_same (Err n) f g h = refl

-- ---- the definition, by the parts of a member

abbrev leaf_of_member : Crypto → Member → Edits → List ℕ → LeafNode → LeafNode
leaf_of_member c m e seed old = leaf_with c m.signing m.public.context.group_id m.keys.leaf e.tree old seed

abbrev sealed_with_leaf : Crypto → PublicState → ℕ → List Extension → Edits → List ℕ → LeafNode × Term → Result MadePath ℕ
sealed_with_leaf c p i list e seed x =
    sealed_path c (provisional_bytes p.context list x.1) e.added (seal_seed seed) e.tree i (path_seed seed)
    >>= λ nodes. Ok (record { path = Some (record { leaf_node = x.0; nodes = nodes }); climb = climb_make c (way 0 e.tree i) (path_seed seed) (leaf_key_of c seed) })

pub by_parts : (c : Crypto) (m : Member) (list : List Extension) (e : Edits) (seed : List ℕ) → new_path c m list e seed ≡ path_of c m.public m.signing m.keys.leaf list e seed
unfolding new_path path_of leaf_and_tree_of committed_leaf leaf_with
by_parts c m list e seed =
    let r = member_at m.public.tree m.keys.leaf in
    let check = λ (old : LeafNode). replacement_checks c (leaf_of_member c m e seed old) old replaced_for.Commit m.public.context.group_id m.keys.leaf in
    let merge = λ (old : LeafNode). merge_answer e.tree m.keys.leaf (leaf_of_member c m e seed old) (path_public_keys c m.keys.leaf e.tree seed) in
    let pair = λ (old : LeafNode). merge old >>= λ (tree : Term). Ok (leaf_of_member c m e seed old, tree) in
    let last = sealed_with_leaf c m.public m.keys.leaf list e seed in
    sym
    (bind_assoc r (λ old. check old >> pair old) last
    ∙ bind_same r (λ old. (check old >> pair old) >>= last) (λ old. check old >> (merge old >>= λ tree. last (leaf_of_member c m e seed old, tree)))
    (λ old. then_assoc (check old) (pair old) last ∙ ap (λ z. check old >> z) (bind_assoc (merge old) (λ tree. Ok (leaf_of_member c m e seed old, tree)) last)))

pub is_path_of : (c : Crypto) (m : Member) (list : List Extension) (e d : Edits) (p : PublicState) (signing : List ℕ) (i : ℕ) (seed : List ℕ) → e ≡ d → m.public ≡ p → m.signing ≡ signing → m.keys.leaf ≡ i → new_path c m list d seed ≡ path_of c p signing i list e seed
is_path_of c m list e d p signing i seed same public signs at =
    by_parts c m list d seed
    ∙ ap₂ (λ q s. path_of c q s m.keys.leaf list d seed) public signs
    ∙ ap₂ (λ j f. path_of c p signing j list f seed) at (sym same)

-- ---- the chain of checks

module _ (c : Crypto) (p : PublicState) (signing : List ℕ) (i : ℕ) (list : List Extension) (e : Edits) (seed : List ℕ) where
  pub path_fails : (n : ℕ) → leaf_and_tree_of c p signing i e.tree seed ≡ Err n → path_of c p signing i list e seed ≡ Err n
  unfolding path_of
  path_fails n h = rw h refl

  -- what was sealed under the context that code spelled
  module _ (x : LeafNode) (u : Term) (merged : leaf_and_tree_of c p signing i e.tree seed ≡ Ok (x, u)) (context added : List ℕ) (is : context ≡ provisional_bytes p.context list u) (as_added : added ≡ e.added) where
    sealed_is : (r : Result (List UpdatePathNode) ℕ) → sealed_path c context added (seal_seed seed) e.tree i (path_seed seed) ≡ r
        → sealed_path c (provisional_bytes p.context list u) e.added (seal_seed seed) e.tree i (path_seed seed) ≡ r
    sealed_is r h = ap₂ (λ a b. sealed_path c a b (seal_seed seed) e.tree i (path_seed seed)) (sym is) (sym as_added) ∙ h

    pub seals_fail : (n : ℕ) → sealed_path c context added (seal_seed seed) e.tree i (path_seed seed) ≡ Err n → path_of c p signing i list e seed ≡ Err n
    unfolding path_of
    seals_fail n h = rw (merged, sealed_is (Err n) h) refl

    pub seals : (nodes nodes' : List UpdatePathNode) (climb : Climb) → sealed_path c context added (seal_seed seed) e.tree i (path_seed seed) ≡ Ok nodes → nodes' ≡ nodes → climb ≡ climb_make c (way 0 e.tree i) (path_seed seed) (leaf_key_of c seed)
        → path_of c p signing i list e seed ≡ Ok (record { path = Some (record { leaf_node = x; nodes = nodes' }); climb = climb })
    unfolding path_of
    seals nodes nodes' climb h same is_climb = rw (merged, sealed_is (Ok nodes) h, same, is_climb) refl

-- ---- the commit secret and the keys

abbrev climb_of : List ℕ → Keys → Climb
climb_of secret keys = record { secret = secret; keys = keys }

pub climb_is : (c : Crypto) (t : Term) (i : ℕ) (start sk : List ℕ) (m : PathSecrets) (keys : Keys) → AreOfChain c start (path_length 0 t i) m → keys ≡ made_keys c (way 0 t i) start sk
    → climb_of m.commit_secret keys ≡ climb_make c (way 0 t i) start sk
climb_is c t i start sk m keys h e = ap₂ climb_of (h.commit_secret ∙ ap (chain start) (sym (count_is_length 0 t i))) e

-- ---- what receivers check

record IsMerged (c : Crypto) (p : PublicState) (signing : List ℕ) (i : ℕ) (t : Term) (seed : List ℕ) (x : LeafNode) (u : Term) : Type 0 where
  old : LeafNode
  at : member_at p.tree i ≡ Ok old
  is : x ≡ leaf_with c signing p.context.group_id i t old seed
  replaced : replacement_checks c x old replaced_for.Commit p.context.group_id i ≡ Ok passed
  merges : merge_answer t i x (path_public_keys c i t seed) ≡ Ok u

abbrev ok_pair : LeafNode × Term → Result (LeafNode × Term) ℕ
ok_pair x = Ok x

pairs_are : (x y : LeafNode) (u v : Term) → ok_pair (x, u) ≡ ok_pair (y, v) → (x ≡ y) × (u ≡ v)
pairs_are x y u v e = let p : (x, u) ≡ (y, v) = cc in (ap (λ (z : LeafNode × Term). z.0) p, ap (λ (z : LeafNode × Term). z.1) p)

merged_steps : (c : Crypto) (p : PublicState) (signing : List ℕ) (i : ℕ) (t : Term) (seed : List ℕ) (x : LeafNode) (u : Term) → leaf_and_tree_of c p signing i t seed ≡ Ok (x, u) → IsMerged c p signing i t seed x u
unfolding leaf_and_tree_of
merged_steps c p signing i t seed x u h =
    let made = λ (old : LeafNode). leaf_with c signing p.context.group_id i t old seed in
    let member = bind_ok (member_at p.tree i) _ (x, u) h in
    let replaced = then_ok (replacement_checks c (made member.0) member.0 replaced_for.Commit p.context.group_id i) _ (x, u) member.2 in
    let merge = bind_ok (merge_answer t i (made member.0) (path_public_keys c i t seed)) _ (x, u) replaced.1 in
    let same = pairs_are (made member.0) x merge.0 u merge.2 in
    record {
      old = member.0;
      at = member.1;
      is = sym same.0;
      replaced = subst (λ l. replacement_checks c l member.0 replaced_for.Commit p.context.group_id i ≡ Ok passed) same.0 replaced.0;
      merges = subst (λ l. merge_answer t i l (path_public_keys c i t seed) ≡ Ok u) same.0 (merge.1 ∙ ap Ok same.1);
    }

publics_fit : (c : Crypto) → Lawful c → (secrets : List (List ℕ)) → list_all c.key_ok (map (node_public c) secrets) ≡ true
publics_fit c l [] = refl
publics_fit c l (s ∷ ss) = ap₂ (λ a b. a && b) (l.public_ok _) (publics_fit c l ss)

length-secrets : (start : List ℕ) (n : ℕ) → length (path_secrets start n) ≡ n
unfolding path_secrets
length-secrets start zero = refl
length-secrets start (suc n) = length-append (path_secrets start n) (chain start n ∷ []) ∙ (let e = length-secrets start n in let z : length (path_secrets start n) + 1 ≡ suc n = omega arith in z)

length-keys : (c : Crypto) (t : Term) (i : ℕ) (start : List ℕ) → length (keys_of_path c t i start) ≡ path_length 0 t i
length-keys c t i start = length-map (path_secrets start (path_length 0 t i)) (node_public c) ∙ length-secrets start (path_length 0 t i)

counts_due : (c : Crypto) (context : List ℕ) (e : Edits) (rnd : ℕ → List ℕ) (i : ℕ) (start : List ℕ) (nodes : List UpdatePathNode) → sealed_path c context e.added rnd e.tree i start ≡ Ok nodes → map (λ (n : UpdatePathNode). length n.ciphertexts) nodes ≡ ciphertext_counts 0 e.tree i e.added
unfolding ciphertext_counts targets
counts_due c context e rnd i start nodes h = sealed_lengths c context e.added rnd e.tree i start nodes h

checks_pass : (c : Crypto) (p : PublicState) (i : ℕ) (e : Edits) (path : UpdatePath) (old : LeafNode) (u : Term) → member_at p.tree i ≡ Ok old → replacement_checks c path.leaf_node old replaced_for.Commit p.context.group_id i ≡ Ok passed
    → (length path.nodes == path_length 0 e.tree i) ≡ true → bytes_eq (cipher_counts path) (due_counts e i) ≡ true → list_all c.key_ok (path.leaf_node.encryption_key ∷ node_keys path) ≡ true → merge_answer e.tree i path.leaf_node (node_keys path) ≡ Ok u
    → apply_update_path c p i e path ≡ Ok u
unfolding apply_update_path
checks_pass c p i e path old u a b d f g h = rw (a, b, d, f, g) h

pub received : (c : Crypto) → Lawful c → (p : PublicState) (signing : List ℕ) (i : ℕ) (e d : Edits) (seed : List ℕ) (x : LeafNode) (u v : Term) (context added : List ℕ) (nodes nodes' : List UpdatePathNode) → e ≡ d → leaf_and_tree_of c p signing i e.tree seed ≡ Ok (x, u) → v ≡ u → added ≡ e.added
    → sealed_path c context added (seal_seed seed) e.tree i (path_seed seed) ≡ Ok nodes → nodes' ≡ nodes → apply_update_path c p i d (record { leaf_node = x; nodes = nodes' }) ≡ Ok v
received c l p signing i e d seed x u v context added nodes nodes' same merged same_tree as_added sealed same_nodes =
    let m = merged_steps c p signing i e.tree seed x u merged in
    let path : UpdatePath = record { leaf_node = x; nodes = nodes } in
    let s : sealed_path c context e.added (seal_seed seed) e.tree i (path_seed seed) ≡ Ok nodes = ap (λ a. sealed_path c context a (seal_seed seed) e.tree i (path_seed seed)) (sym as_added) ∙ sealed in
    let keys : node_keys path ≡ path_public_keys c i e.tree seed = sealed_keys c context e.added (seal_seed seed) e.tree i (path_seed seed) nodes s in
    let count : length nodes ≡ path_length 0 e.tree i = sym (length-map nodes (λ n. n.encryption_key)) ∙ ap length keys ∙ length-keys c e.tree i (path_seed seed) in
    let fit : list_all c.key_ok (x.encryption_key ∷ node_keys path) ≡ true =
    ap₂ (λ a b. a && b) (ap c.key_ok (sym (leaf_key_is c signing i e.tree m.old seed p.context.group_id x m.is)) ∙ l.public_ok (leaf_key_of c seed)) (ap (list_all c.key_ok) keys ∙ publics_fit c l (path_secrets (path_seed seed) (path_length 0 e.tree i))) in
    ap₂ (λ f ns. apply_update_path c p i f (record { leaf_node = x; nodes = ns })) (sym same) same_nodes
    ∙ checks_pass c p i e path m.old u m.at m.replaced (eq-eqb (length nodes) (path_length 0 e.tree i) count) ((bytes_eq-Decides (cipher_counts path) (due_counts e i)).1 (counts_due c context e (seal_seed seed) i (path_seed seed) nodes s)) fit
    (ap (λ ks. merge_answer e.tree i x ks) keys ∙ m.merges)
    ∙ ap Ok (sym same_tree)
