-- The same path for a commit with other extensions: it is refused alike, and receivers merge it alike.
use Rattle.std.proofs.Common.{◌≡◌, ℕ, Bool, true, false, List, Option, Some, Result, Ok, Err, refl, ap, sym, ◌∙◌}
use Rattle.mls_wire.specs.Laws.{ok_is}
use Rattle.mls_wire.specs.Reading.{◌>>=◌}
use Rattle.mls_wire.proofs.CheckLaws.{bind_ok}
use Rattle.mls_leaf.specs.declared.extension.Extension.{Extension}
use Rattle.mls_leaf.specs.declared.leaf.LeafNode.{LeafNode}
use Rattle.mls_types.specs.declared.update_path.UpdatePath.{UpdatePath}
use Rattle.mls_types.specs.declared.update_path.UpdatePathNode.{UpdatePathNode}
use Rattle.mls_suite.specs.Crypto.{Crypto, Lawful}
use Rattle.mls_tree_model.specs.Term.{Term}
use Rattle.mls_tree_model.specs.Way.{way}
use Rattle.mls_treekem_model.specs.Make.{climb_make}
use Rattle.mls_treekem_model.specs.Seal.{sealed_path}
use Rattle.mls_treekem_model.specs.Seeds.{path_seed, seal_seed}
use Rattle.mls_treekem_model.proofs.WholeLaws.{sealed_where_fit, refused_where_unfit}
use Rattle.mls_treekem_model.specs.Laws.{targets_fit}
use Rattle.mls_model.specs.Candidate.{leaf_key_of}
use Rattle.mls_model.specs.Commit.{Edits, apply_path_if}
use Rattle.mls_model.specs.Make.{MadePath, new_path}
use Rattle.mls_model.specs.Member.{Member}
use Rattle.mls_model.specs.PublicState.{PublicState}
use Rattle.mls_update_path.specs.Parts.{provisional_bytes, leaf_and_tree_of, path_of}
use Rattle.mls_update_path.proofs.Seals.{by_parts, received}

-- ---- two answers that are refused alike

-- both are refused with one number, or neither is refused
abbrev pub AreAlike : {A B : Type 0} → Result A ℕ → Result B ℕ → Type 0
AreAlike (Ok x) (Ok y) = Unit {0}
AreAlike (Ok x) (Err k) = ⊥
AreAlike (Err n) (Ok y) = ⊥
AreAlike (Err n) (Err k) = n ≡ k

then_alike : {A B C D : Type 0} (r : Result A ℕ) (s : Result B ℕ) (f : A → C) (g : B → D) → AreAlike r s → AreAlike (r >>= λ x. Ok (f x)) (s >>= λ y. Ok (g y))
then_alike (Ok x) (Ok y) f g h = tt
then_alike (Ok x) (Err k) f g h = absurd h
then_alike (Err n) (Ok y) f g h = absurd h
then_alike (Err n) (Err k) f g h = h

behind_alike : {A B C : Type 0} (r : Result A ℕ) (f : A → Result B ℕ) (g : A → Result C ℕ) → ((x : A) → AreAlike (f x) (g x)) → AreAlike (r >>= f) (r >>= g)
behind_alike (Ok x) f g h = h x
behind_alike (Err n) f g h = refl

-- ---- seals under two contexts

sealed_alike : (c : Crypto) → Lawful c → (x y added : List ℕ) (rnd : ℕ → List ℕ) (t : Term) (i : ℕ) (start : List ℕ) → AreAlike (sealed_path c x added rnd t i start) (sealed_path c y added rnd t i start)
sealed_alike c laws x y added rnd t i start = by_fit (targets_fit c added (way 0 t i)) refl
  where
    by_fit : (b : Bool) → targets_fit c added (way 0 t i) ≡ b → AreAlike (sealed_path c x added rnd t i start) (sealed_path c y added rnd t i start)
    by_fit true e =
        let one = (sealed_where_fit c laws x added rnd t i start e).1 in
        let other = (sealed_where_fit c laws y added rnd t i start e).1 in
        rw (one, other) tt
    by_fit false e =
        let one = refused_where_unfit c laws x added rnd t i start e in
        let other = refused_where_unfit c laws y added rnd t i start e in
        rw (one, other) refl

abbrev path_with : Crypto → ℕ → Edits → List ℕ → LeafNode → List UpdatePathNode → MadePath
path_with c i e seed leaf nodes = record { path = Some (record { leaf_node = leaf; nodes = nodes }); climb = climb_make c (way 0 e.tree i) (path_seed seed) (leaf_key_of c seed) }

abbrev sealed_for : Crypto → PublicState → ℕ → List Extension → Edits → List ℕ → LeafNode × Term → Result (List UpdatePathNode) ℕ
sealed_for c p i list e seed x = sealed_path c (provisional_bytes p.context list x.1) e.added (seal_seed seed) e.tree i (path_seed seed)

path_alike : (c : Crypto) → Lawful c → (p : PublicState) (signing : List ℕ) (i : ℕ) (list other : List Extension) (e : Edits) (seed : List ℕ) → AreAlike (path_of c p signing i list e seed) (path_of c p signing i other e seed)
unfolding path_of
path_alike c laws p signing i list other e seed =
    behind_alike (leaf_and_tree_of c p signing i e.tree seed) (λ x. sealed_for c p i list e seed x >>= λ nodes. Ok (path_with c i e seed x.0 nodes)) (λ x. sealed_for c p i other e seed x >>= λ nodes. Ok (path_with c i e seed x.0 nodes))
    (λ x.
    then_alike (sealed_for c p i list e seed x) (sealed_for c p i other e seed x) (path_with c i e seed x.0) (path_with c i e seed x.0)
    (sealed_alike c laws (provisional_bytes p.context list x.1) (provisional_bytes p.context other x.1) e.added (seal_seed seed) e.tree i (path_seed seed)))

-- a path for a commit with some extensions is refused as one with others is
pub new_path_alike : (c : Crypto) → Lawful c → (m : Member) (list other : List Extension) (e : Edits) (seed : List ℕ) → AreAlike (new_path c m list e seed) (new_path c m other e seed)
new_path_alike c laws m list other e seed =
    let one = by_parts c m list e seed in
    let two = by_parts c m other e seed in
    rw (one, two) (path_alike c laws m.public m.signing m.keys.leaf list other e seed)

-- ---- what receivers make of it

merges_of : (c : Crypto) → Lawful c → (p : PublicState) (signing : List ℕ) (i : ℕ) (list : List Extension) (e : Edits) (seed : List ℕ) (made : MadePath) → path_of c p signing i list e seed ≡ Ok made → (t : Term) × (apply_path_if c p i e made.path ≡ Ok t)
unfolding path_of apply_path_if
merges_of c laws p signing i list e seed made h =
    let merged = bind_ok (leaf_and_tree_of c p signing i e.tree seed) _ made h in
    let sealed = bind_ok (sealed_for c p i list e seed merged.0) _ made merged.2 in
    let is : Some (record { leaf_node = merged.0.0; nodes = sealed.0 }) ≡ made.path = ap (λ (x : MadePath). x.path) (ok_is (path_with c i e seed merged.0.0 sealed.0) made sealed.2) in (
      merged.0.1,
      ap (λ (o : Option UpdatePath). apply_path_if c p i e o) (sym is)
          ∙ received c laws p signing i e e seed merged.0.0 merged.0.1 merged.0.1 (provisional_bytes p.context list merged.0.1) e.added sealed.0 sealed.0 refl merged.1 refl refl sealed.1 refl,
    )

-- each member merges a path that was made
pub new_path_merges : (c : Crypto) → Lawful c → (m : Member) (list : List Extension) (e : Edits) (seed : List ℕ) (made : MadePath) → new_path c m list e seed ≡ Ok made → (t : Term) × (apply_path_if c m.public m.keys.leaf e made.path ≡ Ok t)
new_path_merges c laws m list e seed made h = merges_of c laws m.public m.signing m.keys.leaf list e seed made (sym (by_parts c m list e seed) ∙ h)
