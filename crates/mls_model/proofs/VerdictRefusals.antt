-- A verdict is refused with one of its numbers.
use Rattle.std.proofs.Common.{◌≡◌, ℕ, ◌==◌, Bool, true, false, cond, ◌||◌, not, List, [], ◌∷◌, length, reverse, Option, Some, None, Ok, Err, refl, sym}
use Rattle.std.specs.Str.{bytes_eq}
use Rattle.std.proofs.lemmas.Bool.{or_left, or_right}
use Rattle.mls_wire.specs.Checks.{require_some}
use Rattle.mls_leaf.specs.Limits.{input_limit}
use Rattle.mls_leaf.specs.WholeLaws.{is_input_fault}
use Rattle.mls_leaf.proofs.WholeLaws.{is_input_answered}
use Rattle.mls_types.specs.declared.update_path.HpkeCiphertext.{HpkeCiphertext}
use Rattle.mls_types.specs.declared.update_path.UpdatePath.{UpdatePath}
use Rattle.mls_types.specs.declared.update_path.UpdatePathNode.{UpdatePathNode}
use Rattle.mls_types.specs.ReadFaults.{mls_message_faults}
use Rattle.mls_types.specs.Message.{mls_message}
use Rattle.mls_types.specs.declared.commit.ProposalOrRef.{ProposalOrRef}
use Rattle.mls_types.specs.declared.commit.ProposalOrRef.TheVariants as listed
use Rattle.mls_types.specs.declared.public_message.PublicMessage.{PublicMessage}
use Rattle.mls_suite.specs.Crypto.{Crypto}
use Rattle.mls_tree_model.specs.Term.{leaf_of}
use Rattle.mls_tree_model.specs.Sets.{has}
use Rattle.mls_tree_model.specs.Way.{Step, way, is_filtered, is_beside}
use Rattle.mls_types.specs.GroupContext.{group_context}
use Rattle.mls_treekem_model.specs.Chain.{next_secret, node_key, node_public}
use Rattle.mls_treekem_model.specs.Keys.{Keys, PrivateKeys, rest, key_in, keys_on}
use Rattle.mls_treekem_model.specs.Seal.{targets}
use Rattle.mls_treekem_model.specs.Make.{Climb}
use Rattle.mls_treekem_model.specs.Open.{unseal_secret, secret_of, open_with, open_first, climb_past_parent, open_at_ancestor, climb_open, opened_path, nodes_below, first_ciphertexts}
use Rattle.mls_model.specs.Commit.{Change}
use Rattle.mls_model.specs.Member.{KeptProposal, Member, kept_under, find_proposal, find_proposals}
use Rattle.mls_model.specs.Messages.{decode_message, sender_leaf, is_handshake, is_content_signed, content_tag}
use Rattle.mls_model.specs.Verdict.{is_kept, framing_checks, open_path_secret}
use Rattle.mls_model.proofs.WayLaws.{refused_so}
use Rattle.mls_model.specs.VerdictCases.{Refusing, Refusing.gone, Refusing.unread, Refusing.no_public, Refusing.unframed, Refusing.unfit, Refusing.last_epoch, Refusing.unknown, Refusing.unsound, Refusing.closed, Refusing.untagged}
use Rattle.mls_model.specs.Refusals.{proposal_numbers, body_numbers, verdict_numbers, VerdictNumbers}
use Rattle.mls_model.proofs.RefusedSteps.{is_one, widen, bind_refused, test_refused, last_refused, given_refused, if_refused}
use Rattle.mls_model.proofs.RefusalLaws.{proposal_refused, body_refused}

pub used_refused : (kept : List KeptProposal) (committer : ℕ) (list : List ProposalOrRef) (n : ℕ) → find_proposals kept committer list ≡ Err n → 60 ≡ n
unfolding find_proposals
used_refused kept committer [] n h = absurd cc
used_refused kept committer (listed.Proposal said ∷ xs) n h = bind_refused (find_proposals kept committer xs) _ n h (used_refused kept committer xs n) (λ us never. absurd cc)
used_refused kept committer (listed.Reference r ∷ xs) n h =
    bind_refused (find_proposal kept committer (listed.Reference r)) _ n h (λ e. bind_refused (require_some 60 (kept_under kept r)) _ n e (given_refused 60 (kept_under kept r) n) (λ k never. absurd cc)) (λ u h1.
    bind_refused (find_proposals kept committer xs) _ n h1 (used_refused kept committer xs n) (λ us never. absurd cc))

framing_refused : (c : Crypto) (m : Member) (v : PublicMessage) (bytes : List ℕ) (n : ℕ) → framing_checks c m v bytes ≡ Err n → has verdict_numbers n ≡ true
unfolding framing_checks has
framing_refused c m v bytes n h =
    test_refused 42 (bytes_eq v.content.group_id m.public.context.group_id) _ n h (is_one verdict_numbers 42 n refl) (λ h1.
    test_refused 43 (v.content.epoch == m.public.context.epoch) _ n h1 (is_one verdict_numbers 43 n refl) (λ h2.
    bind_refused (require_some 44 (leaf_of m.public.tree (sender_leaf v.content.sender))) _ n h2 (λ e. is_one verdict_numbers 44 n refl (given_refused 44 (leaf_of m.public.tree (sender_leaf v.content.sender)) n e)) (λ leaf h3.
    test_refused 45 (is_handshake v.content.body) _ n h3 (is_one verdict_numbers 45 n refl) (λ h4.
    test_refused 46 (bytes_eq v.membership_tag (content_tag m.epoch_secret v.content m.public.context)) _ n h4 (is_one verdict_numbers 46 n refl) (λ h5.
    test_refused 47 (is_content_signed c leaf.signature_key v.content m.public.context) _ n h5 (is_one verdict_numbers 47 n refl) (λ h6.
    is_one verdict_numbers 48 n refl (last_refused 48 (not (sender_leaf v.content.sender == m.keys.leaf) || is_kept m.kept bytes) n h6)))))))

first_refused : (c : Crypto) (context : List ℕ) (keys : ℕ → Option (List ℕ)) (ds : List ℕ) (xs : List HpkeCiphertext) (n : ℕ) → open_first c context keys ds xs ≡ Err n → has verdict_numbers n ≡ true
unfolding open_first has
first_refused c context keys [] xs n h = is_one verdict_numbers 32 n refl cc
first_refused c context keys (d ∷ ds) [] n h = is_one verdict_numbers 32 n refl cc
first_refused c context keys (d ∷ ds) (x ∷ xs) n h = by_key (keys d) h (first_refused c context keys ds xs n)
  where
    by_key : (o : Option (List ℕ)) → open_with c context o x (open_first c context keys ds xs) ≡ Err n → (open_first c context keys ds xs ≡ Err n → has verdict_numbers n ≡ true) → has verdict_numbers n ≡ true
    by_key None e rest = rest e
    by_key (Some k) e rest =
        bind_refused (require_some 32 (unseal_secret c context k x)) secret_of n e (λ f. is_one verdict_numbers 32 n refl (given_refused 32 (unseal_secret c context k x) n f)) (λ s f.
        if_refused (length s == 32) (Ok s) (Err 33) n f (λ never. absurd cc) (λ g. is_one verdict_numbers 33 n refl cc))

past_refused : (c : Crypto) (b : Bool) (ns : List UpdatePathNode) (m : Climb) (n : ℕ) → climb_past_parent c b ns m ≡ Err n → has verdict_numbers n ≡ true
unfolding has
past_refused c false ns m n h = absurd cc
past_refused c true [] m n h = is_one verdict_numbers 34 n refl cc
past_refused c true (x ∷ xs) m n h = if_refused (bytes_eq (node_public c m.secret) x.encryption_key) (Ok (record { secret = next_secret m.secret; keys = Some (node_key c m.secret) ∷ m.keys })) (Err 34) n h (λ never. absurd cc) (λ g. is_one verdict_numbers 34 n refl cc)

climb_refused : (c : Crypto) (context added : List ℕ) (ss : List Step) (j : ℕ) (ks : Keys) (ns : List UpdatePathNode) (n : ℕ) → climb_open c context added ss j ks ns ≡ Err n → has verdict_numbers n ≡ true
unfolding climb_open has
climb_refused c context added [] j ks ns n h = is_one verdict_numbers 32 n refl cc
climb_refused c context added (s ∷ ss) j ks ns n h =
    bind_refused (cond (is_beside s j) (open_at_ancestor c context added s j (rest ks) ns) (climb_open c context added ss j (rest ks) (nodes_below (is_filtered s) ns))) _ n h
    (λ e. if_refused (is_beside s j) (open_at_ancestor c context added s j (rest ks) ns) (climb_open c context added ss j (rest ks) (nodes_below (is_filtered s) ns)) n e
    (λ f. bind_refused (open_first c context (key_in s.first s.other j (rest ks)) (targets added s) (first_ciphertexts ns)) _ n f
    (first_refused c context (key_in s.first s.other j (rest ks)) (targets added s) (first_ciphertexts ns) n) (λ secret never. absurd cc))
    (climb_refused c context added ss j (rest ks) (nodes_below (is_filtered s) ns) n))
    (λ m. past_refused c (is_filtered s) ns m n)

climbed_refused : (c : Crypto) (m : Member) (committer : ℕ) (change : Change) (keys : PrivateKeys) (path : Option UpdatePath) (n : ℕ) → open_path_secret c m committer change keys path ≡ Err n → has verdict_numbers n ≡ true
unfolding open_path_secret opened_path
climbed_refused c m committer change keys None n h = absurd cc
climbed_refused c m committer change keys (Some path) n h =
    climb_refused c (group_context.spell change.provisional) change.edits.added (way 0 change.edits.tree committer) m.keys.leaf (keys_on change.edits.tree keys) (reverse path.nodes) n h

by_way : (c : Crypto) (m : Member) (bytes : List ℕ) (n : ℕ) → Refusing c m bytes n → (is_input_fault n || has verdict_numbers n) ≡ true
unfolding has decode_message
by_way c m bytes n (gone g e) = or_right (is_input_fault n) _ (is_one verdict_numbers 40 n refl (sym e))
by_way c m bytes n (unread o e) = or_left (is_input_fault n) _ (is_input_answered mls_message input_limit mls_message_faults bytes n e)
by_way c m bytes n (no_public w o d e f) = or_right (is_input_fault n) _ (is_one verdict_numbers 41 n refl (sym f))
by_way c m bytes n (unframed v o d e) = or_right (is_input_fault n) _ (framing_refused c m v bytes n e)
by_way c m bytes n (unfit v said p f e) = or_right (is_input_fault n) _ (widen proposal_numbers verdict_numbers n refl (proposal_refused c m.public _ said n e))
by_way c m bytes n (last_epoch v commit tag p e f) = or_right (is_input_fault n) _ (is_one verdict_numbers 66 n refl (sym f))
by_way c m bytes n (unknown v commit tag p f e) = or_right (is_input_fault n) _ (is_one verdict_numbers 60 n refl (used_refused m.kept _ commit.proposals n e))
by_way c m bytes n (unsound v commit tag used p d e) = or_right (is_input_fault n) _ (widen body_numbers verdict_numbers n refl (body_refused c m.public _ used commit _ _ n e))
by_way c m bytes n (closed v commit tag used change p d s e) = or_right (is_input_fault n) _ (climbed_refused c m _ change _ commit.path n e)
by_way c m bytes n (untagged v commit tag used change climb p d s o e f) = or_right (is_input_fault n) _ (is_one verdict_numbers 65 n refl (sym f))

pub verdict_refused : VerdictNumbers
verdict_refused c m bytes n h = by_way c m bytes n (refused_so c m bytes n h)
