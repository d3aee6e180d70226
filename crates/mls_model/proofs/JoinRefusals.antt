-- A join is refused with one of its numbers.
use Rattle.std.proofs.Common.{◌≡◌, ℕ, ◌==◌, nat_lt, true, cond, ◌||◌, ◌&&◌, not, List, [], ◌∷◌, length, Option, Some, None, Result, Ok, Err, refl}
use Rattle.std.specs.Prelude.{codes, find}
use Rattle.std.specs.Str.{bytes_eq}
use Rattle.std.proofs.lemmas.Bool.{or_left, or_right}
use Rattle.mls_wire.specs.Checks.{require_some}
use Rattle.mls_wire.specs.Whole.{whole}
use Rattle.mls_leaf.specs.Limits.{input_limit}
use Rattle.mls_leaf.specs.WholeLaws.{is_input_fault}
use Rattle.mls_leaf.proofs.WholeLaws.{is_input_answered}
use Rattle.mls_leaf.specs.Parent.{Parent}
use Rattle.mls_leaf.specs.declared.node.Node.{Node}
use Rattle.mls_types.specs.GroupContext.{group_context}
use Rattle.mls_types.specs.GroupInfo.{group_info, group_info_tbs}
use Rattle.mls_types.specs.Welcome.{group_secrets}
use Rattle.mls_types.specs.declared.group_info.GroupInfo.{GroupInfo}
use Rattle.mls_types.specs.declared.welcome.EncryptedGroupSecrets.{EncryptedGroupSecrets}
use Rattle.mls_types.specs.declared.welcome.Welcome.{Welcome}
use Rattle.mls_types.specs.ReadFaults.{mls_message_faults}
use Rattle.mls_types.specs.Message.{mls_message}
use Rattle.mls_suite.specs.Crypto.{Crypto}
use Rattle.mls_suite.specs.Labels.{verify_with_label, decrypt_with_label}
use Rattle.mls_tree_model.specs.Arrays.{has_last, alternates, sent_term, from_nodes}
use Rattle.mls_tree_model.specs.Good.{Rules, is_within, has_good_lists, has_good_hashes, has_distinct_keys, has_distinct_clients, is_all_signed, is_all_capable, is_all_fit, tree_checks}
use Rattle.mls_tree_model.specs.Hashes.{tree_hash}
use Rattle.mls_tree_model.specs.Sets.{has}
use Rattle.mls_tree_model.specs.Term.{Term, width, leaf_of, is_full_width}
use Rattle.mls_tree_model.specs.Way.{Step, way, is_beside}
use Rattle.mls_tree.specs.Rules.{rules_of}
use Rattle.mls_tree.specs.Tree.{max_leaves}
use Rattle.mls_treekem_model.specs.Chain.{next_secret, node_key, node_public}
use Rattle.mls_treekem_model.specs.Join.{climb_past_present, require_present, climb_take, is_complete, take_keys, take_answer, has_due}
use Rattle.mls_treekem_model.specs.Keys.{Keys, PrivateKeys, rest, leaf_only}
use Rattle.mls_treekem_model.specs.Make.{Climb}
use Rattle.mls_schedule.specs.Epoch.{welcome_key, welcome_nonce, epoch_secret, confirmation_tag}
use Rattle.mls_model.specs.Proposals.{package_reference}
use Rattle.mls_model.specs.Messages.{decode_message, are_bytes}
use Rattle.mls_model.specs.Candidate.{Candidate}
use Rattle.mls_model.specs.OpenedWelcome.{Opened, welcome_in, or_fault, is_none_or_32, check_secret_lengths, opened_secrets, open_group_info, open_for_candidate, opened_welcome}
use Rattle.mls_model.specs.Join.{joined_tree, signer_checks, place_of, joined_keys, enter_group, member_of, join_verdict}
use Rattle.mls_model.specs.Refusals.{join_numbers, JoinNumbers}
use Rattle.mls_model.proofs.RefusedSteps.{is_one, bind_refused, then_refused, test_refused, last_refused, given_refused, if_refused}

-- ---- the Welcome

or_refused : {A : Type 0} (m : ℕ) (r : Result A ℕ) (n : ℕ) → or_fault m r ≡ Err n → m ≡ n
or_refused m (Ok x) n h = absurd cc
or_refused m (Err e) n h = cc

secrets_refused : (c : Crypto) (k : Candidate) (w : Welcome) (entry : EncryptedGroupSecrets) (n : ℕ) → opened_secrets c k w entry ≡ Err n → 73 ≡ n
unfolding opened_secrets check_secret_lengths
secrets_refused c k w entry n h =
    let opened = decrypt_with_label c k.init (codes "Welcome") w.encrypted_group_info entry.encrypted_group_secrets.kem_output entry.encrypted_group_secrets.ciphertext in
    bind_refused (require_some 73 opened) _ n h (given_refused 73 opened n) (λ bytes h1.
    bind_refused (or_fault 73 (whole group_secrets input_limit bytes)) _ n h1 (or_refused 73 (whole group_secrets input_limit bytes) n) (λ secrets h2.
    test_refused 73 (length secrets.joiner_secret == 32) _ n h2 (λ e. e) (λ h3.
    test_refused 73 (is_none_or_32 secrets.path_secret) _ n h3 (λ e. e) (λ never. absurd cc))))

in_join : (m n : ℕ) → has join_numbers m ≡ true → m ≡ n → (is_input_fault n || has join_numbers n) ≡ true
in_join m n h e = or_right (is_input_fault n) (has join_numbers n) (is_one join_numbers m n h e)

opening_refused : (c : Crypto) (k : Candidate) (bytes : List ℕ) (n : ℕ) → opened_welcome c k bytes ≡ Err n → (is_input_fault n || has join_numbers n) ≡ true
unfolding opened_welcome open_for_candidate open_group_info decode_message has
opening_refused c k bytes n h =
    bind_refused (whole mls_message input_limit bytes) _ n h (λ e. or_left (is_input_fault n) (has join_numbers n) (is_input_answered mls_message input_limit mls_message_faults bytes n e)) (λ outer h1.
    bind_refused (require_some 70 (welcome_in outer)) _ n h1 (λ e. in_join 70 n refl (given_refused 70 (welcome_in outer) n e)) (λ w h2.
    test_refused 71 (w.cipher_suite == c.number) _ n h2 (in_join 71 n refl) (λ h3.
    let own = find (λ (e : EncryptedGroupSecrets). bytes_eq e.new_member (package_reference k.offered)) w.secrets in
    bind_refused (require_some 72 own) _ n h3 (λ e. in_join 72 n refl (given_refused 72 own n e)) (λ entry h4.
    bind_refused (opened_secrets c k w entry) _ n h4 (λ e. in_join 73 n refl (secrets_refused c k w entry n e)) (λ secrets h5.
    test_refused 74 (length secrets.psks == 0) _ n h5 (in_join 74 n refl) (λ h6.
    let hidden = c.aead_open (welcome_key secrets.joiner_secret) (welcome_nonce secrets.joiner_secret) [] w.encrypted_group_info in
    bind_refused (require_some 75 hidden) _ n h6 (λ e. in_join 75 n refl (given_refused 75 hidden n e)) (λ plain h7.
    test_refused 75 (are_bytes plain) _ n h7 (in_join 75 n refl) (λ h8.
    bind_refused (or_fault 75 (whole group_info input_limit plain)) _ n h8 (λ e. in_join 75 n refl (or_refused 75 (whole group_info input_limit plain) n e)) (λ info h9.
    test_refused 71 (info.group_context.cipher_suite == c.number) _ n h9 (in_join 71 n refl) (λ never. absurd cc))))))))))

-- ---- the tree

nodes_refused : (limit : ℕ) (xs : List (Option Node)) (n : ℕ) → from_nodes limit xs ≡ Err n → has join_numbers n ≡ true
unfolding from_nodes has
nodes_refused limit xs n h =
    test_refused 20 (has_last xs) _ n h (is_one join_numbers 20 n refl) (λ h1.
    test_refused 20 (alternates true xs) _ n h1 (is_one join_numbers 20 n refl) (λ h2.
    test_refused 20 (is_full_width (sent_term xs)) _ n h2 (is_one join_numbers 20 n refl) (λ h3.
    test_refused 21 (is_within limit (sent_term xs)) _ n h3 (is_one join_numbers 21 n refl) (λ never. absurd cc))))

checks_refused : (rules : Rules) (t : Term) (n : ℕ) → tree_checks rules t ≡ Err n → has join_numbers n ≡ true
unfolding tree_checks has
checks_refused rules t n h =
    test_refused 23 (has_good_lists t) _ n h (is_one join_numbers 23 n refl) (λ h1.
    test_refused 24 (has_good_hashes t) _ n h1 (is_one join_numbers 24 n refl) (λ h2.
    test_refused 25 (has_distinct_keys t) _ n h2 (is_one join_numbers 25 n refl) (λ h3.
    test_refused 26 (has_distinct_clients t) _ n h3 (is_one join_numbers 26 n refl) (λ h4.
    test_refused 51 (is_all_signed rules t) _ n h4 (is_one join_numbers 51 n refl) (λ h5.
    test_refused 52 (is_all_capable rules t) _ n h5 (is_one join_numbers 52 n refl) (λ h6.
    is_one join_numbers 36 n refl (last_refused 36 (is_all_fit rules t) n h6)))))))

tree_refused : (c : Crypto) (info : GroupInfo) (n : ℕ) → joined_tree c info ≡ Err n → has join_numbers n ≡ true
unfolding joined_tree has
tree_refused c info n h =
    let rules = rules_of c info.group_context.group_id in
    bind_refused (require_some 76 info.ratchet_tree) _ n h (λ e. is_one join_numbers 76 n refl (given_refused 76 info.ratchet_tree n e)) (λ nodes h1.
    bind_refused (from_nodes max_leaves nodes) _ n h1 (nodes_refused max_leaves nodes n) (λ t h2.
    test_refused 77 (bytes_eq info.group_context.tree_hash (tree_hash 0 t)) _ n h2 (is_one join_numbers 77 n refl) (λ h3.
    then_refused (tree_checks rules t) _ n h3 (checks_refused rules t n) (λ never. absurd cc))))

signer_refused : (c : Crypto) (k : Candidate) (info : GroupInfo) (t : Term) (n : ℕ) → signer_checks c k info t ≡ Err n → has join_numbers n ≡ true
unfolding signer_checks has
signer_refused c k info t n h =
    bind_refused (require_some 78 (leaf_of t info.signer)) _ n h (λ e. is_one join_numbers 78 n refl (given_refused 78 (leaf_of t info.signer) n e)) (λ signer h1.
    test_refused 78 (not (bytes_eq signer.signature_key k.offered.leaf_node.signature_key)) _ n h1 (is_one join_numbers 78 n refl) (λ h2.
    is_one join_numbers 79 n refl (last_refused 79 (verify_with_label c signer.signature_key (codes "GroupInfoTBS") (group_info_tbs info) info.signature) n h2)))

-- ---- the keys

present_refused : (o : Option Parent) (m : Climb) (n : ℕ) → require_present o m ≡ Err n → 34 ≡ n
present_refused None m n h = cc
present_refused (Some p) m n h = absurd cc

past_refused : (c : Crypto) (j : ℕ) (o : Option Parent) (m : Climb) (n : ℕ) → climb_past_present c j o m ≡ Err n → 34 ≡ n
past_refused c j None m n h = absurd cc
past_refused c j (Some p) m n h =
    if_refused (not (has p.unmerged_leaves j) && bytes_eq (node_public c m.secret) p.encryption_key) (Ok (record { secret = next_secret m.secret; keys = Some (node_key c m.secret) ∷ m.keys })) (Err 34) n h
    (λ never. absurd cc) (λ e. cc)

climb_refused : (c : Crypto) (ss : List Step) (j : ℕ) (ks : Keys) (secret : List ℕ) (n : ℕ) → climb_take c ss j ks secret ≡ Err n → 34 ≡ n
unfolding climb_take
climb_refused c [] j ks secret n h = cc
climb_refused c (s ∷ ss) j ks secret n h =
    let start : Climb = record { secret = secret; keys = rest ks } in
    bind_refused (cond (is_beside s j) (require_present s.parent start) (climb_take c ss j (rest ks) secret)) _ n h
    (λ e. if_refused (is_beside s j) (require_present s.parent start) (climb_take c ss j (rest ks) secret) n e (present_refused s.parent start n) (climb_refused c ss j (rest ks) secret n))
    (λ m. past_refused c j s.parent m n)

taken_refused : (c : Crypto) (t : Term) (i j : ℕ) (sk secret : List ℕ) (n : ℕ) → take_answer c t i j sk secret ≡ Err n → has join_numbers n ≡ true
unfolding take_answer take_keys has
taken_refused c t i j sk secret n h =
    if_refused (nat_lt i (width t)) (take_keys c t i j sk secret) (Err 34) n h (λ e.
    bind_refused (climb_take c (way 0 t i) j (leaf_only (way 0 t j) sk) secret) _ n e (λ f. is_one join_numbers 34 n refl (climb_refused c (way 0 t i) j (leaf_only (way 0 t j) sk) secret n f)) (λ m f.
    if_refused (is_complete j (way 0 t j) m.keys) (Ok m) (Err 35) n f (λ never. absurd cc) (λ g. is_one join_numbers 35 n refl cc))) (λ e. is_one join_numbers 34 n refl cc)

keys_refused : (c : Crypto) (t : Term) (signer : ℕ) (alone : PrivateKeys) (o : Option (List ℕ)) (n : ℕ) → joined_keys c t signer alone o ≡ Err n → has join_numbers n ≡ true
unfolding joined_keys has
keys_refused c t signer alone None n h = test_refused 35 (has_due t alone) _ n h (is_one join_numbers 35 n refl) (λ never. absurd cc)
keys_refused c t signer alone (Some secret) n h =
    bind_refused (take_answer c t signer alone.leaf alone.own secret) _ n h (taken_refused c t signer alone.leaf alone.own secret n) (λ climb never. absurd cc)

-- ---- the whole

member_refused : (c : Crypto) (k : Candidate) (o : Opened) (n : ℕ) → member_of c k o ≡ Err n → has join_numbers n ≡ true
unfolding member_of enter_group has
member_refused c k o n h =
    bind_refused (joined_tree c o.info) _ n h (tree_refused c o.info n) (λ t h1.
    then_refused (signer_checks c k o.info t) _ n h1 (signer_refused c k o.info t n) (λ h2.
    bind_refused (require_some 80 (place_of k.offered.leaf_node t)) _ n h2 (λ e. is_one join_numbers 80 n refl (given_refused 80 (place_of k.offered.leaf_node t) n e)) (λ place h3.
    let alone : PrivateKeys = record { leaf = place.0; own = k.leaf; above = [] } in
    bind_refused (joined_keys c t o.info.signer alone o.path_secret) _ n h3 (keys_refused c t o.info.signer alone o.path_secret n) (λ keys h4.
    let epoch = epoch_secret o.joiner (group_context.spell o.info.group_context) in
    test_refused 65 (bytes_eq o.info.confirmation_tag (confirmation_tag epoch o.info.group_context.confirmed_transcript_hash)) _ n h4 (is_one join_numbers 65 n refl) (λ never. absurd cc)))))

pub join_refused : JoinNumbers
unfolding join_verdict
join_refused c k bytes n h =
    bind_refused (opened_welcome c k bytes) _ n h (opening_refused c k bytes n) (λ o e. or_right (is_input_fault n) (has join_numbers n) (member_refused c k o n e))
