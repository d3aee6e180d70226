-- A value has a spelling where its numbers are in range and its spelling would be short.
use Rattle.std.proofs.Common.{ℕ, ◌<◌, ◌^◌, List, [], ◌∷◌, ◌++◌, length, Option, Some, None, refl, arith, lit<, length-append}
use Rattle.std.specs.Int.{w8}
use Rattle.std.specs.List.{flat_map, AllByRecursion}
use Rattle.mls_wire.specs.Reading.{uint, header, opaque}
use Rattle.mls_wire.specs.Format.{Format}
use Rattle.mls_wire.specs.Combine.{optional, mark, empty_vector}
use Rattle.mls_leaf.specs.Leaf.{credential, capabilities, leaf_source, leaf_node}
use Rattle.mls_leaf.specs.declared.leaf.Credential.{Credential}
use Rattle.mls_leaf.specs.declared.leaf.Capabilities.{Capabilities}
use Rattle.mls_leaf.specs.declared.leaf.LeafNode.{LeafNode}
use Rattle.mls_leaf.specs.declared.leaf.LeafSource.{LeafSource}
use Rattle.mls_leaf.specs.declared.leaf.LeafSource.TheVariants as leaf_node_source
use Rattle.mls_types.specs.UpdatePath.{hpke_ciphertext, update_path_node, update_path}
use Rattle.mls_types.specs.declared.update_path.HpkeCiphertext.{HpkeCiphertext}
use Rattle.mls_types.specs.declared.update_path.UpdatePathNode.{UpdatePathNode}
use Rattle.mls_types.specs.declared.update_path.UpdatePath.{UpdatePath}
use Rattle.mls_types.specs.Commit.{commit}
use Rattle.mls_theorems.specs.CommitSpelling.{LeafFitsIfShort, CommitFits}

-- ---- lengths

pub short_first : (xs ys : List ℕ) (n : ℕ) → length (xs ++ ys) < n → length xs < n
short_first xs ys n lt = omega (arith, length-append xs ys)

pub short_last : (xs ys : List ℕ) (n : ℕ) → length (xs ++ ys) < n → length ys < n
short_last xs ys n lt = omega (arith, length-append xs ys)

pub short_text : (text : List ℕ) (n : ℕ) → length (opaque text) < n → length text < n
short_text text n lt = short_last (header (length text)) text n lt

-- ---- nodes of a path

pub cipher_fits : (x : HpkeCiphertext) → length (hpke_ciphertext.spell x) < 2 ^ 30 → hpke_ciphertext.Fits x
unfolding hpke_ciphertext
cipher_fits x lt = (short_text _ _ (short_first _ _ _ lt), short_text _ _ (short_last _ _ _ lt))

pub all_fit : {V : Type 0} (a : Format V) → ((v : V) → length (a.spell v) < 2 ^ 30 → a.Fits v) → (vs : List V) → length (flat_map a.spell vs) < 2 ^ 30 → AllByRecursion a.Fits vs
all_fit a h [] lt = tt
all_fit a h (v ∷ vs) lt = (h v (short_first _ _ _ lt), all_fit a h vs (short_last _ _ _ lt))

node_fits : (x : UpdatePathNode) → length (update_path_node.spell x) < 2 ^ 30 → update_path_node.Fits x
unfolding update_path_node
node_fits x lt =
    let inner = short_text _ _ (short_last _ _ _ lt) in
    (short_text _ _ (short_first _ _ _ lt), (all_fit hpke_ciphertext cipher_fits x.ciphertexts inner, inner))

-- ---- leaves

-- a leaf whose source has a spelling
pub made_leaf_fits : (key signing : List ℕ) (who : Credential) (able : Capabilities) (source : LeafSource) (signature : List ℕ) →
    let x : LeafNode = record { encryption_key = key; signature_key = signing; credential = who; capabilities = able; source = source; signature = signature } in
    capabilities.Fits able → (length (leaf_source.spell source) < 2 ^ 30 → leaf_source.Fits source) → length (leaf_node.spell x) < 2 ^ 30 → leaf_node.Fits x
unfolding leaf_node credential
made_leaf_fits key signing who able source signature able_fits source_fits lt =
    let t5 : List ℕ = (empty_vector 14).spell ++ opaque signature in
    let t4 : List ℕ = leaf_source.spell source ++ t5 in
    let t3 : List ℕ = capabilities.spell able ++ t4 in
    let t2 : List ℕ = credential.spell who ++ t3 in
    let t1 : List ℕ = opaque signing ++ t2 in
    let l1 : length t1 < 2 ^ 30 = short_last (opaque key) t1 _ lt in
    let l2 : length t2 < 2 ^ 30 = short_last (opaque signing) t2 _ l1 in
    let l3 : length t3 < 2 ^ 30 = short_last (credential.spell who) t3 _ l2 in
    let l4 : length t4 < 2 ^ 30 = short_last (capabilities.spell able) t4 _ l3 in
    let l5 : length t5 < 2 ^ 30 = short_last (leaf_source.spell source) t5 _ l4 in (
      short_text key _ (short_first (opaque key) t1 _ lt),
      (
        short_text signing _ (short_first (opaque signing) t2 _ l1),
        (
          short_text who.identity _ (short_last (mark 1 11 (lit< tt)).spell (opaque who.identity) _ (short_first (credential.spell who) t3 _ l2)),
          (able_fits, (source_fits (short_first (leaf_source.spell source) t5 _ l4), short_text signature _ (short_last (empty_vector 14).spell (opaque signature) _ l5))),
        ),
      ),
    )

pub commit_source_fits : (hash : List ℕ) → length (leaf_source.spell (leaf_node_source.Commit hash)) < 2 ^ 30 → leaf_source.Fits (leaf_node_source.Commit hash)
unfolding leaf_source
commit_source_fits hash lt = (lit< tt, short_text hash _ (short_last (uint w8 3) (opaque hash) _ lt))

pub update_source_fits : leaf_source.Fits leaf_node_source.Update
unfolding leaf_source
update_source_fits = (lit< tt, tt)

path_fits : (path : Option UpdatePath) → LeafFitsIfShort path → length ((optional update_path).spell path) < 2 ^ 30 → (optional update_path).Fits path
unfolding update_path
path_fits None leaf lt = (lit< tt, tt)
path_fits (Some p) leaf lt =
    let inside = short_last _ _ _ lt in
    let nodes = short_text _ _ (short_last _ _ _ inside) in
    (lit< tt, (leaf p refl (short_first _ _ _ inside), (all_fit update_path_node node_fits p.nodes nodes, nodes)))

pub commit_fits : CommitFits
unfolding commit
commit_fits x list leaf lt = ((list, short_text _ _ (short_first _ _ _ lt)), path_fits x.path leaf (short_last _ _ _ lt))
