-- A good member stays good over the proposals that it makes.
use Rattle.std.proofs.Common.{◌≡◌, ℕ, ◌<◌, ◌≤◌, ◌^◌, true, not, List, [], ◌++◌, length, Option, Some, None, IsSome, Ok, refl, subst, arith, lit<}
use Rattle.std.specs.Int.{w8, w16, w64}
use Rattle.std.proofs.lemmas.Bool.{leb-true}
use Rattle.mls_wire.specs.Checks.{passed}
use Rattle.mls_wire.specs.Laws.{ok_is}
use Rattle.mls_wire.specs.Reading.{uint, opaque}
use Rattle.mls_leaf.specs.GroupExtensions.{are_allowed, group_extensions}
use Rattle.mls_leaf.proofs.GroupExtensionsLaws.{group_extensions-fits}
use Rattle.mls_leaf.specs.KeyPackage.{key_package}
use Rattle.mls_leaf.specs.Leaf.{leaf_node}
use Rattle.mls_leaf.specs.Limits.{input_limit}
use Rattle.mls_leaf.specs.Proposal.{proposal}
use Rattle.mls_leaf.proofs.WholeLaws.{whole_again}
use Rattle.mls_leaf.specs.declared.extension.Extension.{Extension}
use Rattle.mls_leaf.specs.declared.key_package.KeyPackage.{KeyPackage}
use Rattle.mls_leaf.specs.declared.leaf.LeafNode.{LeafNode}
use Rattle.mls_leaf.specs.declared.proposal.Proposal.{Proposal}
use Rattle.mls_leaf.specs.declared.proposal.Proposal.TheVariants as proposes
use Rattle.mls_types.specs.Content.{sender, content, framed_content}
use Rattle.mls_types.specs.Message.{mls_message}
use Rattle.mls_types.specs.Signed.{signed_content}
use Rattle.mls_types.specs.SignedParts.{with_signature}
use Rattle.mls_types.proofs.SignedParts.{signed_content_spelled, signed_content_fits}
use Rattle.mls_types.specs.declared.content.Content.TheVariants as says
use Rattle.mls_types.specs.declared.content.FramedContent.{FramedContent}
use Rattle.mls_types.specs.declared.content.Sender.TheVariants as by
use Rattle.mls_types.specs.declared.message.MlsMessage.TheVariants as message
use Rattle.mls_types.specs.declared.public_message.PublicMessage.{PublicMessage}
use Rattle.mls_suite.specs.Crypto.{Crypto}
use Rattle.mls_tree.specs.Tree.{max_leaves}
use Rattle.mls_tree_model.specs.Good.{is_within}
use Rattle.mls_tree_model.specs.Term.{width, leaf_of}
use Rattle.mls_tree.specs.Tree.{member_at}
use Rattle.mls_model.specs.MemberInvariant.{HasOwnKey, IsGoodKept, IsGoodMember}
use Rattle.mls_model.specs.Candidate.{leaf_key_of, unsigned_leaf, signed_leaf}
use Rattle.mls_model.specs.Member.{KeptProposal, Member, kept_under}
use Rattle.mls_model.specs.Messages.{decode_message, require_within_limit, content_by, content_tag, message_by, reference_of}
use Rattle.mls_model.specs.Proposals.{proposal_checks}
use Rattle.mls_model.specs.Propose.{proposal_by, keep_once, make_proposal, propose_add, updated_leaf, propose_update, propose_remove, propose_extensions}
use Rattle.mls_theorems.proofs.Fit.{short_first, short_last, short_text, made_leaf_fits, update_source_fits}
use Rattle.mls_theorems.specs.SentCommits.{ReadsBack}
use Rattle.mls_theorems.proofs.Sent.{message_fits, leaf_short, leaf_is_in, context_fits, within_is}
use Rattle.mls_theorems.proofs.Stays.{taken}
use Rattle.mls_wire.specs.CheckLaws.{required}
use Rattle.mls_wire.proofs.CheckLaws.{require_ok, then_ok, bind_ok}
use Rattle.mls_tree_model.proofs.TakenLaws.{some_at}
use Rattle.mls_model.proofs.CandidateLaws.{capabilities_fit}
use Rattle.mls_theorems.proofs.UnchangedMembers.{keeping_good}

-- ---- its message reads back

-- a proposal has a spelling, if it is short
abbrev pub FitsIfShort : Proposal → Type 0
FitsIfShort x = length (proposal.spell x) < 2 ^ 30 → proposal.Fits x

said_fits : (group : List ℕ) (at leaf : ℕ) (x : Proposal) (signature : List ℕ) →
    let s : FramedContent = record { group_id = group; epoch = at; sender = by.Member leaf; authenticated_data = []; content = says.Proposal x } in
    length group < 2 ^ 30 → at < 2 ^ 64 → leaf < 2 ^ 32 → FitsIfShort x → length (signed_content.spell (with_signature s signature [])) < 2 ^ 30 → signed_content.Fits (with_signature s signature [])
unfolding framed_content content sender
said_fits group at leaf x signature g a l fits lt =
    let s : FramedContent = record { group_id = group; epoch = at; sender = by.Member leaf; authenticated_data = []; content = says.Proposal x } in
    let both : length (framed_content.spell s ++ (opaque signature ++ [])) < 2 ^ 30 = subst (λ (z : List ℕ). length z < 2 ^ 30) (signed_content_spelled (with_signature s signature [])) lt in
    let t4 : List ℕ = uint w8 2 ++ proposal.spell x in
    let t3 : List ℕ = opaque [] ++ t4 in
    let t2 : List ℕ = sender.spell (by.Member leaf) ++ t3 in
    let t1 : List ℕ = uint w64 at ++ t2 in
    let l0 : length (framed_content.spell s) < 2 ^ 30 = short_first (framed_content.spell s) (opaque signature ++ []) _ both in
    let l1 : length t1 < 2 ^ 30 = short_last (opaque group) t1 _ l0 in
    let l2 : length t2 < 2 ^ 30 = short_last (uint w64 at) t2 _ l1 in
    let l3 : length t3 < 2 ^ 30 = short_last (sender.spell (by.Member leaf)) t3 _ l2 in
    let l4 : length t4 < 2 ^ 30 = short_last (opaque []) t4 _ l3 in
    let l5 : length (proposal.spell x) < 2 ^ 30 = short_last (uint w8 2) (proposal.spell x) _ l4 in
    let auth : length (opaque signature ++ []) < 2 ^ 30 = short_last (framed_content.spell s) (opaque signature ++ []) _ both in
    signed_content_fits (with_signature s signature []) (g, (a, ((lit< tt, l), (lit< tt, (lit< tt, fits l5))))) (short_text signature _ (short_first (opaque signature) [] _ auth), tt)

by_fits : (c : Crypto) (m : Member) (x : Proposal) → IsGoodMember c m → FitsIfShort x → length (signed_content.spell (proposal_by c m x)) < 2 ^ 30 → signed_content.Fits (proposal_by c m x)
unfolding proposal_by content_by
by_fits c m x good fits lt =
    let k = context_fits c m good in
    said_fits m.public.context.group_id m.public.context.epoch m.keys.leaf x _ k.group k.epoch (leaf_short c m good) fits lt

-- the message of a proposal
unfoldable sent_as : Crypto → Member → Proposal → PublicMessage
sent_as c m x = record { content = proposal_by c m x; membership_tag = content_tag m.epoch_secret (proposal_by c m x) m.public.context }

sent_is : (c : Crypto) (m : Member) (x : Proposal) → message_by m (proposal_by c m x) ≡ mls_message.spell (message.PublicMessage (sent_as c m x))
unfolding message_by sent_as
sent_is c m x = refl

sent_fits : (c : Crypto) (m : Member) (x : Proposal) → IsGoodMember c m → FitsIfShort x → length (mls_message.spell (message.PublicMessage (sent_as c m x))) < 2 ^ 30 → mls_message.Fits (message.PublicMessage (sent_as c m x))
unfolding sent_as
sent_fits c m x good fits lt = message_fits (proposal_by c m x) (content_tag m.epoch_secret (proposal_by c m x) m.public.context) (by_fits c m x good fits) lt

proposal_reads : (c : Crypto) (m : Member) (x : Proposal) → IsGoodMember c m → FitsIfShort x → require_within_limit (message_by m (proposal_by c m x)) ≡ Ok passed → ReadsBack (message_by m (proposal_by c m x)) (sent_as c m x)
unfolding decode_message
proposal_reads c m x good fits h =
    let short : length (mls_message.spell (message.PublicMessage (sent_as c m x))) ≤ input_limit = subst (λ (b : List ℕ). length b ≤ input_limit) (sent_is c m x) (within_is _ h) in
    let f : mls_message.Fits (message.PublicMessage (sent_as c m x)) = sent_fits c m x good fits (omega arith) in
    record { fits = f; decodes = whole_again mls_message input_limit (message_by m (proposal_by c m x)) (message.PublicMessage (sent_as c m x)) (record { fits = f; spelled = sent_is c m x }) (within_is _ h) }

-- ---- it is kept

unfoldable kept_as : Crypto → Member → Proposal → Option (List ℕ) → KeptProposal
kept_as c m x own = record { reference = reference_of (proposal_by c m x); message = message_by m (proposal_by c m x); proposal = x; sender = m.keys.leaf; own_key = own }

kept_good : (c : Crypto) (m : Member) (x : Proposal) (own : Option (List ℕ)) → IsGoodMember c m → HasOwnKey c x own → proposal_checks c m.public m.keys.leaf x ≡ Ok passed → ReadsBack (message_by m (proposal_by c m x)) (sent_as c m x) → IsGoodKept c m (kept_as c m x own)
unfolding kept_as sent_as proposal_by content_by
kept_good c m x own good key checks reads = record {
  said = sent_as c m x;
  decodes = reads.decodes;
  fits = reads.fits;
  says = refl;
  from = refl;
  group = refl;
  epoch = refl;
  reference = refl;
  member = taken _ _ good.own good.is_own;
  checked = checks;
  own = λ same. key;
  others = λ apart. absurd (apart refl);
}

once_good : (c : Crypto) (m : Member) (k : KeptProposal) (o : Option KeptProposal) (x : List ℕ × Member) → IsGoodMember c m → IsGoodKept c m k → keep_once m k o ≡ Ok x → IsGoodMember c x.1
once_good c m k None x good new h = subst (λ (y : List ℕ × Member). IsGoodMember c y.1) (ok_is _ x h) (keeping_good c m k good new)
once_good c m k (Some old) x good new h = subst (λ (y : List ℕ × Member). IsGoodMember c y.1) (ok_is _ x (require_ok _ _ _ _ h).1) good

pub proposed_good : (c : Crypto) (m : Member) (x : Proposal) (own : Option (List ℕ)) (y : List ℕ × Member) → IsGoodMember c m → FitsIfShort x → (proposal_checks c m.public m.keys.leaf x ≡ Ok passed → HasOwnKey c x own) → make_proposal c m x own ≡ Ok y → IsGoodMember c y.1
unfolding make_proposal kept_as
proposed_good c m x own y good fits key h =
    let s1 = require_ok _ _ _ _ h in
    let s2 = then_ok _ _ _ s1.1 in
    let s3 = then_ok _ _ _ s2.1 in
    once_good c m (kept_as c m x own) (kept_under m.kept (reference_of (proposal_by c m x))) y good (kept_good c m x own good (key s2.0) s2.0 (proposal_reads c m x good fits s3.0)) s3.1

-- ---- the four proposals

add_fits : (x : KeyPackage) → key_package.Fits x → FitsIfShort (proposes.Add x)
unfolding proposal
add_fits x f lt = (lit< tt, f)

pub added_good : (c : Crypto) (m : Member) (x : KeyPackage) (y : List ℕ × Member) → IsGoodMember c m → key_package.Fits x → propose_add c m x ≡ Ok y → IsGoodMember c y.1
unfolding propose_add
added_good c m x y good f h = proposed_good c m (proposes.Add x) None y good (add_fits x f) (λ _. refl) h

update_fits : (x : LeafNode) → (length (leaf_node.spell x) < 2 ^ 30 → leaf_node.Fits x) → FitsIfShort (proposes.Update x)
unfolding proposal
update_fits x f lt = (lit< tt, f (short_last (uint w16 2) (leaf_node.spell x) _ lt))

new_leaf_fits : (c : Crypto) (m : Member) (old : LeafNode) (seed : List ℕ) → c.number < 2 ^ 16 → length (leaf_node.spell (updated_leaf c m old seed)) < 2 ^ 30 → leaf_node.Fits (updated_leaf c m old seed)
unfolding updated_leaf signed_leaf unsigned_leaf
new_leaf_fits c m old seed n lt = made_leaf_fits _ _ _ _ _ _ (capabilities_fit c n) (λ _. update_source_fits) lt

new_leaf_key : (c : Crypto) (m : Member) (old : LeafNode) (seed : List ℕ) → c.public (leaf_key_of c seed) ≡ (updated_leaf c m old seed).encryption_key
unfolding updated_leaf signed_leaf unsigned_leaf
new_leaf_key c m old seed = refl

pub updated_good : (c : Crypto) (m : Member) (seed : List ℕ) (y : List ℕ × Member) → IsGoodMember c m → propose_update c m seed ≡ Ok y → IsGoodMember c y.1
unfolding propose_update
updated_good c m seed y good h =
    let s1 = require_ok 40 (not m.gone) _ _ h in
    let s2 = bind_ok (member_at m.public.tree m.keys.leaf) _ _ s1.1 in
    let x : LeafNode = updated_leaf c m s2.0 seed in
    proposed_good c m (proposes.Update x) (Some (leaf_key_of c seed)) y good (update_fits x (new_leaf_fits c m s2.0 seed (context_fits c m good).suite)) (λ _. (leaf_key_of c seed, refl, new_leaf_key c m s2.0 seed)) s2.2

remove_fits : (i : ℕ) → i < 2 ^ 32 → FitsIfShort (proposes.Remove i)
unfolding proposal
remove_fits i l lt = (lit< tt, l)

is_member_at : (c : Crypto) (m : Member) (i : ℕ) → proposal_checks c m.public m.keys.leaf (proposes.Remove i) ≡ Ok passed → IsSome (leaf_of m.public.tree i)
unfolding proposal_checks
is_member_at c m i h = required _ _ _ h

low_leaf : (c : Crypto) (m : Member) (i : ℕ) → IsGoodMember c m → IsSome (leaf_of m.public.tree i) → i < 2 ^ 32
unfolding is_within
low_leaf c m i good there =
    let x = some_at (leaf_of m.public.tree i) there in
    let inside = (leaf_is_in m.public.tree i x.0 x.1).0 in
    let within : width m.public.tree ≤ max_leaves = leb-true _ _ good.tree.within in
    omega arith

was_checked : (c : Crypto) (m : Member) (x : Proposal) (own : Option (List ℕ)) (y : List ℕ × Member) → make_proposal c m x own ≡ Ok y → proposal_checks c m.public m.keys.leaf x ≡ Ok passed
unfolding make_proposal
was_checked c m x own y h = (then_ok _ _ _ (require_ok _ _ _ _ h).1).0

pub removed_good : (c : Crypto) (m : Member) (i : ℕ) (y : List ℕ × Member) → IsGoodMember c m → propose_remove c m i ≡ Ok y → IsGoodMember c y.1
unfolding propose_remove
removed_good c m i y good h = proposed_good c m (proposes.Remove i) None y good (remove_fits i (low_leaf c m i good (is_member_at c m i (was_checked c m (proposes.Remove i) None y h)))) (λ _. refl) h

extensions_fit : (list : List Extension) → are_allowed list ≡ true → FitsIfShort (proposes.GroupContextExtensions list)
unfolding proposal
extensions_fit list may lt = (lit< tt, group_extensions-fits list may (short_last (uint w16 7) (group_extensions.spell list) _ lt))

pub extended_good : (c : Crypto) (m : Member) (list : List Extension) (y : List ℕ × Member) → IsGoodMember c m → are_allowed list ≡ true → propose_extensions c m list ≡ Ok y → IsGoodMember c y.1
unfolding propose_extensions
extended_good c m list y good may h = proposed_good c m (proposes.GroupContextExtensions list) None y good (extensions_fit list may) (λ _. refl) h
