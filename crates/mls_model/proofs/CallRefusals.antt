-- Each call of a member that makes something is refused with one of its numbers.
use Rattle.std.proofs.Common.{◌≡◌, ℕ, nat_lt, true, cond, ◌||◌, ◌&&◌, not, List, [], ◌∷◌, nat_le, suc, ◌-◌, ◌^◌, length, reverse, Option, Some, None, Ok, Err, refl}
use Rattle.std.specs.Prelude.{codes, option_map, zip, is_none}
use Rattle.std.specs.Str.{bytes_eq}
use Rattle.mls_wire.specs.Checks.{require_some}
use Rattle.mls_leaf.specs.Limits.{input_limit}
use Rattle.mls_leaf.specs.declared.extension.Extension.{Extension}
use Rattle.mls_leaf.specs.declared.key_package.KeyPackage.{KeyPackage}
use Rattle.mls_leaf.specs.declared.proposal.Proposal.{Proposal}
use Rattle.mls_leaf.specs.declared.proposal.Proposal.TheVariants as proposal
use Rattle.mls_types.specs.GroupContext.{group_context}
use Rattle.mls_types.specs.GroupInfo.{group_info}
use Rattle.mls_types.specs.declared.group_info.GroupInfo.{GroupInfo}
use Rattle.mls_types.specs.Message.{mls_message}
use Rattle.mls_types.specs.declared.commit.Commit.{Commit}
use Rattle.mls_types.specs.SignedParts.{with_signature}
use Rattle.mls_types.specs.declared.message.MlsMessage.TheVariants as message
use Rattle.mls_types.specs.declared.content.Content.TheVariants as says
use Rattle.mls_suite.specs.Crypto.{Crypto}
use Rattle.mls_suite.specs.Labels.{encrypt_with_label}
use Rattle.mls_checks.specs.Checks.{replacement_checks}
use Rattle.mls_checks.specs.declared.checks.LeafUse.TheVariants as replaced_for
use Rattle.mls_tree_model.specs.Sets.{has}
use Rattle.mls_tree_model.specs.Term.{Term, Leaf, leaf_of}
use Rattle.mls_tree_model.specs.Way.{way}
use Rattle.mls_tree.specs.Tree.{member_at}
use Rattle.mls_treekem_model.specs.Seal.{seal_along, sealed_path}
use Rattle.mls_treekem_model.specs.Seeds.{sign_seed, path_seed, seal_seed}
use Rattle.mls_schedule.specs.Epoch.{init_secret, joiner_secret, epoch_secret, confirmation_tag, welcome_key, welcome_nonce}
use Rattle.mls_tree.specs.Paths.{merge_answer}
use Rattle.mls_treekem_model.specs.Chain.{keys_of_path}
use Rattle.mls_model.specs.PublicState.{provisional_context}
use Rattle.mls_model.specs.Proposals.{proposal_checks, adds, extensions_after, is_path_required}
use Rattle.mls_model.specs.Commit.{Edits, Change, apply_proposals, change_after_edits, public_with}
use Rattle.mls_model.specs.Member.{KeptProposal, Member, kept_under, find_proposals}
use Rattle.mls_model.specs.Messages.{are_bytes, require_within_limit, content_by, content_signature, message_by, reference_of}
use Rattle.mls_model.specs.Candidate.{leaf_key_of, unsigned_package, signed_package, package_message, first_context, new_candidate, create_group}
use Rattle.mls_model.specs.Propose.{proposal_by, keep_once, updated_leaf, make_proposal, propose_add, propose_update, propose_remove, propose_extensions}
use Rattle.mls_model.specs.Welcome.{unsigned_info, signed_info, secrets_with, entry_for, entries_for, welcome_message}
use Rattle.mls_model.specs.Make.{MadePath, committed_leaf, new_path, no_path, path_secret_for, path_seals, welcome_if, path_with, commit_from_change, commit_from_path, commit_from_proposals, make}
use Rattle.mls_model.specs.Refusals.{add_numbers, update_numbers, remove_numbers, body_numbers, propose_add_numbers, propose_update_numbers, propose_remove_numbers, propose_extensions_numbers, make_numbers, AddNumbers, UpdateNumbers, RemoveNumbers, ExtensionsNumbers, MakeNumbers, CandidateNumbers, CreateNumbers}
use Rattle.mls_model.proofs.RefusedSteps.{is_one, widen, bind_refused, then_refused, test_refused, last_refused, given_refused, if_refused}
use Rattle.mls_model.proofs.RefusalLaws.{add_refused, update_refused, remove_refused, extensions_pass, replaced_refused, merge_refused, edited_refused, after_edits_refused}
use Rattle.mls_model.proofs.VerdictRefusals.{used_refused}

limit_refused : (bytes : List ℕ) (n : ℕ) → require_within_limit bytes ≡ Err n → 6 ≡ n
unfolding require_within_limit
limit_refused bytes n h = last_refused 6 (nat_le (length bytes) input_limit && are_bytes bytes) n h

-- ---- proposals

kept_refused : (m : Member) (new : KeptProposal) (o : Option KeptProposal) (n : ℕ) → keep_once m new o ≡ Err n → 49 ≡ n
kept_refused m new None n h = absurd cc
kept_refused m new (Some old) n h = test_refused 49 (bytes_eq old.message new.message) _ n h (λ e. e) (λ never. absurd cc)

proposed_refused : (c : Crypto) (m : Member) (said : Proposal) (own : Option (List ℕ)) (ns : List ℕ) (n : ℕ) → has ns 6 ≡ true → has ns 40 ≡ true → has ns 49 ≡ true →
    (proposal_checks c m.public m.keys.leaf said ≡ Err n → has ns n ≡ true) → make_proposal c m said own ≡ Err n → has ns n ≡ true
unfolding make_proposal
proposed_refused c m said own ns n long gone taken checks h =
    let v = proposal_by c m said in
    let new : KeptProposal = record { reference = reference_of v; message = message_by m v; proposal = said; sender = m.keys.leaf; own_key = own } in
    test_refused 40 (not m.gone) _ n h (is_one ns 40 n gone) (λ h1.
    then_refused (proposal_checks c m.public m.keys.leaf said) _ n h1 checks (λ h2.
    then_refused (require_within_limit (message_by m v)) _ n h2 (λ e. is_one ns 6 n long (limit_refused (message_by m v) n e)) (λ h3.
    is_one ns 49 n taken (kept_refused m new (kept_under m.kept (reference_of v)) n h3))))

pub propose_add_refused : AddNumbers
unfolding propose_add has
propose_add_refused c m offered n h =
    proposed_refused c m (proposal.Add offered) None propose_add_numbers n refl refl refl (λ e. widen add_numbers propose_add_numbers n refl (add_refused c m.public m.keys.leaf offered n e)) h

pub propose_update_refused : UpdateNumbers
unfolding propose_update has
propose_update_refused c m seed n h =
    let ns : List ℕ = propose_update_numbers in
    test_refused 40 (not m.gone) _ n h (is_one ns 40 n refl) (λ h1.
    bind_refused (member_at m.public.tree m.keys.leaf) _ n h1 (λ e. is_one ns 22 n refl (given_refused 22 (leaf_of m.public.tree m.keys.leaf) n e)) (λ old h2.
    proposed_refused c m (proposal.Update (updated_leaf c m old seed)) (Some (leaf_key_of c seed)) ns n refl refl refl
    (λ e. widen update_numbers ns n refl (update_refused c m.public m.keys.leaf (updated_leaf c m old seed) n e)) h2))

pub propose_remove_refused : RemoveNumbers
unfolding propose_remove has
propose_remove_refused c m leaf n h =
    proposed_refused c m (proposal.Remove leaf) None propose_remove_numbers n refl refl refl (λ e. widen remove_numbers propose_remove_numbers n refl (remove_refused c m.public m.keys.leaf leaf n e)) h

pub propose_extensions_refused : ExtensionsNumbers
unfolding propose_extensions has
propose_extensions_refused c m list n h =
    proposed_refused c m (proposal.GroupContextExtensions list) None propose_extensions_numbers n refl refl refl (extensions_pass c m.public m.keys.leaf list n) h

-- ---- candidates and groups

pub candidate_refused : CandidateNumbers
unfolding new_candidate has
candidate_refused c identity seed n h =
    let offered = signed_package c (sign_seed seed) (unsigned_package c identity seed) in
    test_refused 57 (not (bytes_eq offered.init_key offered.leaf_node.encryption_key)) _ n h (is_one (6 ∷ 57 ∷ []) 57 n refl) (λ h1.
    then_refused (require_within_limit (package_message offered)) _ n h1 (λ e. is_one (6 ∷ 57 ∷ []) 6 n refl (limit_refused (package_message offered) n e)) (λ never. absurd cc))

pub create_refused : CreateNumbers
unfolding create_group has
create_refused c k group seed n h =
    let context = group_context.spell (first_context c group (Leaf (Some k.offered.leaf_node))) in
    then_refused (require_within_limit context) _ n h (λ e. is_one (6 ∷ []) 6 n refl (limit_refused context n e)) (λ never. absurd cc)

-- ---- commits

sealed_refused : (c : Crypto) (context added : List ℕ) (rnd : ℕ → List ℕ) (t : Term) (i : ℕ) (start : List ℕ) (n : ℕ) → sealed_path c context added rnd t i start ≡ Err n → 36 ≡ n
unfolding sealed_path
sealed_refused c context added rnd t i start n h = given_refused 36 (option_map reverse (seal_along c context added rnd (way 0 t i) start)) n h

path_refused : (c : Crypto) (m : Member) (list : List Extension) (e : Edits) (seed : List ℕ) (n : ℕ) → new_path c m list e seed ≡ Err n → has body_numbers n ≡ true
unfolding new_path has
path_refused c m list e seed n h =
    let keys = keys_of_path c e.tree m.keys.leaf (path_seed seed) in
    bind_refused (member_at m.public.tree m.keys.leaf) _ n h (λ g. is_one body_numbers 22 n refl (given_refused 22 (leaf_of m.public.tree m.keys.leaf) n g)) (λ old h1.
    then_refused (replacement_checks c (committed_leaf c m e old seed) old replaced_for.Commit m.public.context.group_id m.keys.leaf) _ n h1
    (λ g. widen update_numbers body_numbers n refl (replaced_refused c (committed_leaf c m e old seed) old replaced_for.Commit m.public.context.group_id m.keys.leaf n g)) (λ h2.
    bind_refused (merge_answer e.tree m.keys.leaf (committed_leaf c m e old seed) keys) _ n h2 (merge_refused e.tree m.keys.leaf (committed_leaf c m e old seed) keys n) (λ tree h3.
    let context = group_context.spell (provisional_context m.public.context list tree) in
    bind_refused (sealed_path c context e.added (seal_seed seed) e.tree m.keys.leaf (path_seed seed)) _ n h3
    (λ g. is_one body_numbers 36 n refl (sealed_refused c context e.added (seal_seed seed) e.tree m.keys.leaf (path_seed seed) n g)) (λ nodes never. absurd cc))))

entries_refused : (c : Crypto) (info : List ℕ) (secrets rnd : ℕ → List ℕ) (i : ℕ) (xs : List (KeyPackage × ℕ)) (n : ℕ) → entries_for c info secrets rnd i xs ≡ Err n → 36 ≡ n
unfolding entries_for entry_for
entries_refused c info secrets rnd i [] n h = absurd cc
entries_refused c info secrets rnd i (x ∷ xs) n h =
    let box = encrypt_with_label c x.0.init_key (codes "Welcome") info (secrets x.1) (rnd i) in
    bind_refused (entry_for c info x.0 (secrets x.1) (rnd i)) _ n h (λ e. bind_refused (require_some 36 box) _ n e (given_refused 36 box n) (λ s never. absurd cc)) (λ entry h1.
    bind_refused (entries_for c info secrets rnd (suc i) xs) _ n h1 (entries_refused c info secrets rnd (suc i) xs n) (λ others never. absurd cc))

welcome_refused : (c : Crypto) (info : GroupInfo) (joiner : List ℕ) (secrets rnd : ℕ → List ℕ) (i : ℕ) (xs : List (KeyPackage × ℕ)) (n : ℕ) → welcome_message c info joiner secrets rnd i xs ≡ Err n → has make_numbers n ≡ true
unfolding welcome_message has
welcome_refused c info joiner secrets rnd i xs n h =
    let hidden = c.aead_seal (welcome_key joiner) (welcome_nonce joiner) [] (group_info.spell info) in
    then_refused (require_within_limit (group_info.spell info)) _ n h (λ e. is_one make_numbers 6 n refl (limit_refused (group_info.spell info) n e)) (λ h1.
    bind_refused (entries_for c hidden secrets rnd i xs) _ n h1 (λ e. is_one make_numbers 36 n refl (entries_refused c hidden secrets rnd i xs n e)) (λ entries h2.
    let whole_message = mls_message.spell (message.Welcome (record { cipher_suite = c.number; secrets = entries; encrypted_group_info = hidden })) in
    then_refused (require_within_limit whole_message) _ n h2 (λ e. is_one make_numbers 6 n refl (limit_refused whole_message n e)) (λ never. absurd cc)))

welcomes_refused : (c : Crypto) (m : Member) (change : Change) (made : MadePath) (joiner tag seed : List ℕ) (xs : List (KeyPackage × ℕ)) (n : ℕ) → welcome_if c m change made joiner tag seed xs ≡ Err n → has make_numbers n ≡ true
welcomes_refused c m change made joiner tag seed [] n h = absurd cc
welcomes_refused c m change made joiner tag seed (x ∷ xs) n h =
    let info = signed_info c m.signing (unsigned_info (public_with change tag) tag m.keys.leaf) in
    let secrets = λ (j : ℕ). secrets_with joiner (path_secret_for made.path m change.edits seed j) in
    bind_refused (welcome_message c info joiner secrets (seal_seed seed) (path_seals made.path) (x ∷ xs)) _ n h
    (welcome_refused c info joiner secrets (seal_seed seed) (path_seals made.path) (x ∷ xs) n) (λ bytes never. absurd cc)

pub make_refused : MakeNumbers
unfolding make commit_from_proposals path_with commit_from_path commit_from_change has
make_refused c m list wants_path seed n h =
    test_refused 40 (not m.gone) _ n h (is_one make_numbers 40 n refl) (λ h1.
    test_refused 67 (is_none m.pending) _ n h1 (is_one make_numbers 67 n refl) (λ h2.
    test_refused 66 (nat_lt m.public.context.epoch (2 ^ 64 - 1)) _ n h2 (is_one make_numbers 66 n refl) (λ h3.
    bind_refused (find_proposals m.kept m.keys.leaf list) _ n h3 (λ g. is_one make_numbers 60 n refl (used_refused m.kept m.keys.leaf list n g)) (λ used h4.
    bind_refused (apply_proposals c m.public m.keys.leaf used) _ n h4 (λ g. widen body_numbers make_numbers n refl (edited_refused c m.public m.keys.leaf used n g)) (λ e h5.
    let carried = extensions_after m.public.context.extensions used in
    bind_refused (cond (wants_path || is_path_required used) (new_path c m carried e seed) (Ok (no_path m e))) _ n h5
    (λ g. if_refused (wants_path || is_path_required used) (new_path c m carried e seed) (Ok (no_path m e)) n g (λ f. widen body_numbers make_numbers n refl (path_refused c m carried e seed n f)) (λ never. absurd cc)) (λ made h6.
    let commit : Commit = record { proposals = list; path = made.path } in
    let said = content_by m (says.Commit commit) in
    let signature = content_signature c m.signing said m.public.context in
    bind_refused (change_after_edits c m.public m.keys.leaf used commit said signature e) _ n h6
    (λ g. widen body_numbers make_numbers n refl (after_edits_refused c m.public m.keys.leaf used commit said signature e n g)) (λ change h7.
    let joiner = joiner_secret (init_secret m.epoch_secret) made.climb.secret (group_context.spell change.context) in
    let epoch = epoch_secret joiner (group_context.spell change.context) in
    let tag = confirmation_tag epoch change.context.confirmed_transcript_hash in
    then_refused (require_within_limit (message_by m (with_signature said signature tag))) _ n h7 (λ g. is_one make_numbers 6 n refl (limit_refused (message_by m (with_signature said signature tag)) n g)) (λ h8.
    bind_refused (welcome_if c m change made joiner tag seed (zip (adds used) e.added)) _ n h8 (welcomes_refused c m change made joiner tag seed (zip (adds used) e.added) n) (λ welcome never. absurd cc)))))))))
