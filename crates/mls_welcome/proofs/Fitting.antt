-- A value has a spelling where its numbers are in range and its spelling would be short.
use Rattle.std.proofs.Common.{◌≡◌, ℕ, suc, ◌+◌, ◌^◌, ◌<◌, ◌≤◌, true, List, [], ◌∷◌, ◌++◌, length, get_or, drop, Option, Some, None, sym, ap, subst, ◌∙◌, arith, lit<, length-append, append_assoc}
use Rattle.std.specs.Prelude.{slice_index, IfSome}
use Rattle.std.specs.List.{flat_map, AllByRecursion}
use Rattle.std.proofs.lemmas.List.{drop_more, drop_all}
use Rattle.std.specs.Int.{w16, w32}
use Rattle.mls_wire.specs.Reading.{uint, header, opaque}
use Rattle.mls_wire.specs.Format.{Format, Skip}
use Rattle.mls_wire.specs.Combine.{◌⨾◌, behind, mark, empty_vector, vector, optional, byte_string, uint16, uint32, uint64}
use Rattle.mls_wire.specs.Stateful.{vector_from}
use Rattle.mls_wire.specs.CombineReads.{IsNonempty}
use Rattle.mls_wire.specs.StatefulReads.{run_spelling}
use Rattle.mls_leaf.specs.Nonempty.{optional_nonempty}
use Rattle.mls_leaf.specs.Leaf.{credential, capabilities, leaf_source, leaf_node}
use Rattle.mls_leaf.specs.Parent.{Parent, rises}
use Rattle.mls_leaf.specs.ParentNode.{rising_rule, parent_node}
use Rattle.mls_leaf.specs.GroupExtensions.{are_allowed, group_extensions}
use Rattle.mls_leaf.proofs.GroupExtensionsLaws.{group_extensions-fits}
use Rattle.mls_leaf.proofs.ParentLaws.{RunFits-rising}
use Rattle.mls_leaf.specs.Node.{node}
use Rattle.mls_leaf.specs.declared.leaf.Credential.{Credential}
use Rattle.mls_leaf.specs.declared.leaf.LeafNode.{LeafNode}
use Rattle.mls_leaf.specs.declared.leaf.LeafSource.TheVariants as leaf_node_source
use Rattle.mls_leaf.specs.declared.node.Node.{Node}
use Rattle.mls_leaf.specs.declared.node.Node.TheVariants.{Leaf as in_leaf, Parent as in_parent}
use Rattle.mls_types.specs.Enclosed.{entire, at_most_one, in_vector}
use Rattle.mls_types.specs.GroupContext.{group_context}
use Rattle.mls_types.specs.GroupInfo.{ratchet_tree, tree_extension, tree_extension_nonempty, group_info_extensions, group_info, group_info_tbs, GroupInfoTbsFits}
use Rattle.mls_types.specs.UpdatePath.{hpke_ciphertext}
use Rattle.mls_types.specs.Welcome.{encrypted_group_secrets, encrypted_group_secrets_nonempty, group_secrets, welcome}
use Rattle.mls_types.specs.declared.group_context.GroupContext.{GroupContext}
use Rattle.mls_types.specs.declared.group_info.GroupInfo.{GroupInfo}
use Rattle.mls_types.specs.declared.update_path.HpkeCiphertext.{HpkeCiphertext}
use Rattle.mls_types.specs.declared.welcome.EncryptedGroupSecrets.{EncryptedGroupSecrets}
use Rattle.mls_types.specs.declared.welcome.Welcome.{Welcome}
use Rattle.mls_types.specs.Message.{mls_message}
use Rattle.mls_types.specs.declared.message.MlsMessage.TheVariants as message
use Rattle.mls_types.specs.EnclosedReads.{Whole}
use Rattle.mls_public_group.specs.MessageLimit.{FitsIfShort}
use Rattle.mls_welcome.specs.Ranges.{IsRanged}

-- ---- lengths

pub short_first : (xs ys : List ℕ) (n : ℕ) → length (xs ++ ys) < n → length xs < n
short_first xs ys n lt = omega (arith, length-append xs ys)

pub short_last : (xs ys : List ℕ) (n : ℕ) → length (xs ++ ys) < n → length ys < n
short_last xs ys n lt = omega (arith, length-append xs ys)

pub short_text : (text : List ℕ) (n : ℕ) → length (opaque text) < n → length text < n
short_text text n lt = short_last (header (length text)) text n lt

-- ---- lists

all_below : (n : ℕ) (xs : List ℕ) → ((i : ℕ) → slice_index xs i < n) → AllByRecursion (λ (x : ℕ). x < n) xs
all_below n [] h = tt
all_below n (x ∷ xs) h = (h 0, all_below n xs (λ i. h (suc i)))

pub all_fit : {V : Type 0} (a : Format V) (vs : List V) → AllByRecursion (FitsIfShort a) vs → length (flat_map a.spell vs) < 2 ^ 30 → AllByRecursion a.Fits vs
all_fit a [] h lt = tt
all_fit a (v ∷ vs) h lt = (h.0 (short_first _ _ _ lt), all_fit a vs h.1 (short_last _ _ _ lt))

-- what holds of all from some place on, and of those before
pub all_step : {X : Type 0} (P : X → Type 0) (xs : List X) (i : ℕ) (x : X) → i < length xs → x ≡ get_or xs i x → P x → (AllByRecursion P (drop i xs) → AllByRecursion P xs) → AllByRecursion P (drop (i + 1) xs) → AllByRecursion P xs
all_step {X} P xs i x lt is here inv rest = inv (subst (AllByRecursion P) (sym (drop_more xs i x lt ∙ ap (λ (y : X). y ∷ drop (i + 1) xs) (sym is))) (here, rest))

pub all_end : {X : Type 0} (P : X → Type 0) (xs : List X) (i : ℕ) → length xs ≤ i → (AllByRecursion P (drop i xs) → AllByRecursion P xs) → AllByRecursion P xs
all_end P xs i ge inv = inv (subst (AllByRecursion P) (sym (drop_all i xs ge)) tt)

-- ---- formats that are put together

text_fit : (text : List ℕ) → FitsIfShort byte_string text
text_fit text lt = short_text text _ lt

pair_fit : {A B : Type 0} (a : Format A) (b : Format B) (x : A) (y : B) → FitsIfShort a x → FitsIfShort b y → FitsIfShort (a ⨾ b) (x, y)
pair_fit a b x y first last lt = (first (short_first (a.spell x) (b.spell y) _ lt), last (short_last (a.spell x) (b.spell y) _ lt))

behind_fit : {A : Type 0} (s : Skip) (a : Format A) (x : A) → FitsIfShort a x → FitsIfShort (behind s a) x
behind_fit s a x h lt = h (short_last s.spell (a.spell x) _ lt)

vector_fit : {V : Type 0} (a : Format V) (nonempty : IsNonempty a) (vs : List V) → AllByRecursion (FitsIfShort a) vs → FitsIfShort (vector a nonempty) vs
vector_fit a nonempty vs h lt = let text : length (flat_map a.spell vs) < 2 ^ 30 = short_text (flat_map a.spell vs) _ lt in (all_fit a vs h text, text)

enclosed_fit : {V : Type 0} (w : Whole V) (x : V) → (length (w.spell x) < 2 ^ 30 → w.Fits x) → FitsIfShort (in_vector w) x
enclosed_fit w x h lt = let text : length (w.spell x) < 2 ^ 30 = short_text (w.spell x) _ lt in (h text, text)

-- ---- leaves

pub package_source_fits : (first last : ℕ) → first < 2 ^ 64 → last < 2 ^ 64 → FitsIfShort leaf_source (leaf_node_source.KeyPackage first last)
unfolding leaf_source
package_source_fits first last a b lt = (lit< tt, (a, b))

pub update_source_fits : FitsIfShort leaf_source leaf_node_source.Update
unfolding leaf_source
update_source_fits lt = (lit< tt, tt)

pub commit_source_fits : (hash : List ℕ) → FitsIfShort leaf_source (leaf_node_source.Commit hash)
unfolding leaf_source
commit_source_fits hash lt = (lit< tt, short_text hash _ (short_last _ (opaque hash) _ lt))

credential_fit : (v : Credential) → FitsIfShort credential v
unfolding credential
credential_fit v = behind_fit (mark 1 11 (lit< tt)) byte_string v.identity (text_fit v.identity)

pub leaf_fit : (v : LeafNode) → FitsIfShort capabilities v.capabilities → FitsIfShort leaf_source v.source → FitsIfShort leaf_node v
unfolding leaf_node
leaf_fit v able source =
    let t5 = behind (empty_vector 14) byte_string in
    let t4 = leaf_source ⨾ t5 in
    let t3 = capabilities ⨾ t4 in
    let t2 = credential ⨾ t3 in
    let t1 = byte_string ⨾ t2 in
    pair_fit byte_string t1 v.encryption_key (v.signature_key, (v.credential, (v.capabilities, (v.source, v.signature)))) (text_fit v.encryption_key)
    (pair_fit byte_string t2 v.signature_key (v.credential, (v.capabilities, (v.source, v.signature))) (text_fit v.signature_key)
    (pair_fit credential t3 v.credential (v.capabilities, (v.source, v.signature)) (credential_fit v.credential)
    (pair_fit capabilities t4 v.capabilities (v.source, v.signature) able
    (pair_fit leaf_source t5 v.source v.signature source (behind_fit (empty_vector 14) byte_string v.signature (text_fit v.signature))))))

-- ---- parents and nodes

rising_fit : (xs : List ℕ) → rises xs ≡ true → ((i : ℕ) → slice_index xs i < 2 ^ 32) → FitsIfShort (vector_from rising_rule 0) xs
rising_fit xs rise h lt = (RunFits-rising 0 xs rise (all_below (2 ^ 32) xs h), short_text (run_spelling rising_rule 0 xs) _ lt)

pub parent_fit : (v : Parent) → rises v.unmerged_leaves ≡ true → ((i : ℕ) → slice_index v.unmerged_leaves i < 2 ^ 32) → FitsIfShort parent_node v
unfolding parent_node
parent_fit v rise h =
    let t2 = vector_from rising_rule 0 in
    let t1 = byte_string ⨾ t2 in
    pair_fit byte_string t1 v.encryption_key (v.parent_hash, v.unmerged_leaves) (text_fit v.encryption_key)
    (pair_fit byte_string t2 v.parent_hash v.unmerged_leaves (text_fit v.parent_hash) (rising_fit v.unmerged_leaves rise h))

pub leaf_node_fit : (v : LeafNode) → FitsIfShort leaf_node v → FitsIfShort node (in_leaf v)
unfolding node
leaf_node_fit v h lt = (lit< tt, h (short_last _ _ _ lt))

pub parent_node_fit : (v : Parent) → FitsIfShort parent_node v → FitsIfShort node (in_parent v)
unfolding node
parent_node_fit v h lt = (lit< tt, h (short_last _ _ _ lt))

pub blank_fits : FitsIfShort (optional node) None
blank_fits lt = (lit< tt, tt)

pub taken_fits : (v : Node) → FitsIfShort node v → FitsIfShort (optional node) (Some v)
taken_fits v h lt = (lit< tt, h (short_last _ _ _ lt))

-- ---- GroupInfos

context_fit : (v : GroupContext) → v.cipher_suite < 2 ^ 16 → v.epoch < 2 ^ 64 → are_allowed v.extensions ≡ true → FitsIfShort group_context v
unfolding group_context
context_fit v suite epoch may =
    let t5 = byte_string ⨾ group_extensions in
    let t4 = byte_string ⨾ t5 in
    let t3 = uint64 ⨾ t4 in
    let t2 = byte_string ⨾ t3 in
    let t1 = uint16 ⨾ t2 in
    behind_fit (mark 1 7 (lit< tt)) t1 (v.cipher_suite, (v.group_id, (v.epoch, (v.tree_hash, (v.confirmed_transcript_hash, v.extensions)))))
    (pair_fit uint16 t2 v.cipher_suite (v.group_id, (v.epoch, (v.tree_hash, (v.confirmed_transcript_hash, v.extensions)))) (λ _. suite)
    (pair_fit byte_string t3 v.group_id (v.epoch, (v.tree_hash, (v.confirmed_transcript_hash, v.extensions))) (text_fit v.group_id)
    (pair_fit uint64 t4 v.epoch (v.tree_hash, (v.confirmed_transcript_hash, v.extensions)) (λ _. epoch)
    (pair_fit byte_string t5 v.tree_hash (v.confirmed_transcript_hash, v.extensions) (text_fit v.tree_hash)
    (pair_fit byte_string group_extensions v.confirmed_transcript_hash v.extensions (text_fit v.confirmed_transcript_hash) (group_extensions-fits v.extensions may))))))

tree_fit : (xs : List (Option Node)) → AllByRecursion (FitsIfShort (optional node)) xs → FitsIfShort tree_extension xs
tree_fit xs h = behind_fit (mark 2 14 (lit< tt)) (in_vector (entire ratchet_tree)) xs (enclosed_fit (entire ratchet_tree) xs (vector_fit (optional node) (optional_nonempty node) xs h))

extensions_fit : (o : Option (List (Option Node))) → IfSome o (λ xs. AllByRecursion (FitsIfShort (optional node)) xs) → FitsIfShort group_info_extensions o
unfolding group_info_extensions
extensions_fit None h = enclosed_fit (at_most_one tree_extension tree_extension_nonempty 14) None (λ _. tt)
extensions_fit (Some xs) h = enclosed_fit (at_most_one tree_extension tree_extension_nonempty 14) (Some xs) (tree_fit xs h)

regroup : (a b d e : List ℕ) → a ++ (b ++ (d ++ e)) ≡ ((a ++ b) ++ d) ++ e
regroup a b d e = simp append_assoc

pub tbs_fit : (v : GroupInfo) → IsRanged v → length (group_info_tbs v) < 2 ^ 30 → GroupInfoTbsFits v
tbs_fit v r lt =
    let t2 = byte_string ⨾ uint32 in
    let t1 = group_info_extensions ⨾ t2 in
    pair_fit group_context t1 v.group_context (v.ratchet_tree, (v.confirmation_tag, v.signer)) (context_fit v.group_context r.suite r.epoch r.allowed)
    (pair_fit group_info_extensions t2 v.ratchet_tree (v.confirmation_tag, v.signer) (extensions_fit v.ratchet_tree r.nodes)
    (pair_fit byte_string uint32 v.confirmation_tag v.signer (text_fit v.confirmation_tag) (λ _. r.signer)))
    (subst (λ (l : List ℕ). length l < 2 ^ 30) (sym (regroup (group_context.spell v.group_context) (group_info_extensions.spell v.ratchet_tree) (opaque v.confirmation_tag) (uint w32 v.signer))) lt)

pub info_fit : (v : GroupInfo) → IsRanged v → FitsIfShort group_info v
unfolding group_info
info_fit v r =
    let t3 = uint32 ⨾ byte_string in
    let t2 = byte_string ⨾ t3 in
    let t1 = group_info_extensions ⨾ t2 in
    pair_fit group_context t1 v.group_context (v.ratchet_tree, (v.confirmation_tag, (v.signer, v.signature))) (context_fit v.group_context r.suite r.epoch r.allowed)
    (pair_fit group_info_extensions t2 v.ratchet_tree (v.confirmation_tag, (v.signer, v.signature)) (extensions_fit v.ratchet_tree r.nodes)
    (pair_fit byte_string t3 v.confirmation_tag (v.signer, v.signature) (text_fit v.confirmation_tag)
    (pair_fit uint32 byte_string v.signer v.signature (λ _. r.signer) (text_fit v.signature))))

-- ---- Welcomes

cipher_fits : (v : HpkeCiphertext) → FitsIfShort hpke_ciphertext v
unfolding hpke_ciphertext
cipher_fits v = pair_fit byte_string byte_string v.kem_output v.ciphertext (text_fit v.kem_output) (text_fit v.ciphertext)

entry_fits : (v : EncryptedGroupSecrets) → FitsIfShort encrypted_group_secrets v
unfolding encrypted_group_secrets
entry_fits v = pair_fit byte_string hpke_ciphertext v.new_member v.encrypted_group_secrets (text_fit v.new_member) (cipher_fits v.encrypted_group_secrets)

each_fits : (vs : List EncryptedGroupSecrets) → AllByRecursion (FitsIfShort encrypted_group_secrets) vs
each_fits [] = tt
each_fits (v ∷ vs) = (entry_fits v, each_fits vs)

welcome_fits : (v : Welcome) → v.cipher_suite < 2 ^ 16 → FitsIfShort welcome v
unfolding welcome
welcome_fits v suite =
    let t2 = vector encrypted_group_secrets encrypted_group_secrets_nonempty in
    let t1 = t2 ⨾ byte_string in
    pair_fit uint16 t1 v.cipher_suite (v.secrets, v.encrypted_group_info) (λ _. suite)
    (pair_fit t2 byte_string v.secrets v.encrypted_group_info (vector_fit encrypted_group_secrets encrypted_group_secrets_nonempty v.secrets (each_fits v.secrets)) (text_fit v.encrypted_group_info))

pub message_fits : (v : Welcome) → v.cipher_suite < 2 ^ 16 → FitsIfShort mls_message (message.Welcome v)
unfolding mls_message
message_fits v suite lt =
    let inner : length (uint w16 3 ++ welcome.spell v) < 2 ^ 30 = short_last (uint w16 1) (uint w16 3 ++ welcome.spell v) _ lt in
    (lit< tt, welcome_fits v suite (short_last (uint w16 3) (welcome.spell v) _ inner))

pub secrets_fit : (joiner : List ℕ) (o : Option (List ℕ)) → length joiner ≡ 32 → IfSome o (λ b. length b ≡ 32) → group_secrets.Fits (record { joiner_secret = joiner; path_secret = o; psks = [] })
unfolding group_secrets
secrets_fit joiner None a b = (omega arith, ((lit< tt, tt), lit< tt))
secrets_fit joiner (Some secret) a b = (omega arith, ((lit< tt, omega arith), lit< tt))
