-- A commit that a good member makes reads back.
use Rattle.std.proofs.Common.{◌≡◌, ℕ, ◌<◌, ◌≤◌, ◌^◌, nat_lt, Bool, true, false, cond, List, [], ◌++◌, length, Option, Some, None, Ok, refl, sym, ap, subst, ◌∙◌, ◌⊎◌, inl, inr, arith, lit<}
use Rattle.std.specs.Int.{w8, w16, w64}
use Rattle.std.specs.List.{AllByRecursion}
use Rattle.std.proofs.lemmas.Bool.{ltb-true, leb-true, and_parts}
use Rattle.mls_wire.specs.Checks.{passed}
use Rattle.mls_wire.specs.Reading.{uint, opaque}
use Rattle.mls_wire.specs.Laws.{ok_is}
use Rattle.mls_leaf.specs.Leaf.{leaf_node}
use Rattle.mls_leaf.specs.Limits.{input_limit}
use Rattle.mls_leaf.proofs.WholeLaws.{whole_again}
use Rattle.mls_leaf.specs.declared.extension.Extension.{Extension}
use Rattle.mls_leaf.specs.declared.leaf.LeafNode.{LeafNode}
use Rattle.mls_types.specs.GroupContext.{group_context}
use Rattle.mls_types.specs.declared.group_context.GroupContext.{GroupContext}
use Rattle.mls_types.specs.declared.update_path.UpdatePath.{UpdatePath}
use Rattle.mls_types.specs.Commit.{proposal_or_ref, commit}
use Rattle.mls_types.specs.Content.{sender, content, framed_content}
use Rattle.mls_types.specs.Message.{mls_message}
use Rattle.mls_types.specs.PublicMessage.{public_message}
use Rattle.mls_types.specs.Signed.{signed_content}
use Rattle.mls_types.specs.SignedParts.{with_signature}
use Rattle.mls_types.proofs.SignedParts.{signed_content_spelled, signed_content_fits}
use Rattle.mls_types.specs.declared.commit.Commit.{Commit}
use Rattle.mls_types.specs.declared.commit.ProposalOrRef.{ProposalOrRef}
use Rattle.mls_types.specs.declared.content.Content.TheVariants as says
use Rattle.mls_types.specs.declared.content.FramedContent.{FramedContent}
use Rattle.mls_types.specs.declared.content.Sender.TheVariants as by
use Rattle.mls_types.specs.declared.message.MlsMessage.{MlsMessage}
use Rattle.mls_types.specs.declared.message.MlsMessage.TheVariants as message
use Rattle.mls_types.specs.declared.public_message.PublicMessage.{PublicMessage}
use Rattle.mls_types.specs.declared.signed.SignedContent.{SignedContent}
use Rattle.mls_suite.specs.Crypto.{Crypto}
use Rattle.mls_tree.specs.Tree.{max_leaves}
use Rattle.mls_tree_model.specs.Term.{Term, width, leaf_at, leaf_of}
use Rattle.mls_model.specs.Candidate.{unsigned_leaf, signed_leaf}
use Rattle.mls_model.specs.Commit.{Edits, Change}
use Rattle.mls_model.specs.Member.{Member}
use Rattle.mls_model.specs.Messages.{decode_message, require_within_limit, content_by, content_tag, message_by}
use Rattle.mls_model.specs.Make.{MadePath, Made, committed_leaf, new_path, no_path, path_with}
use Rattle.mls_model.specs.MemberInvariant.{IsGoodMember}
use Rattle.mls_wire.specs.CheckLaws.{required}
use Rattle.mls_wire.proofs.CheckLaws.{then_ok, bind_ok, given_ok}
use Rattle.mls_wire.specs.Whole.{whole}
use Rattle.mls_model.proofs.Receipts.{either_way}
use Rattle.mls_model.proofs.CandidateLaws.{capabilities_fit}
use Rattle.mls_theorems.specs.CommitSpelling.{LeafFitsIfShort}
use Rattle.mls_theorems.proofs.Fit.{short_first, short_last, short_text, made_leaf_fits, commit_source_fits, commit_fits}
use Rattle.mls_theorems.specs.CommitCalls.{commit_of, said_of, signature_of, tag_of, content_of, message_of, made_of}
use Rattle.mls_theorems.specs.SentCommits.{IsNewPath, PathDid, sent_of, MadeFits}

new_path_did : (c : Crypto) (m : Member) (carried : List Extension) (e : Edits) (seed : List ℕ) (path : MadePath) → new_path c m carried e seed ≡ Ok path → IsNewPath c m carried e seed path
unfolding new_path
new_path_did c m carried e seed path h =
    let s1 = bind_ok _ _ _ h in
    let s2 = then_ok _ _ _ s1.2 in
    let s3 = bind_ok _ _ _ s2.1 in
    let s4 = bind_ok _ _ _ s3.2 in
    let is = ok_is _ _ s4.2 in
    record {
      old = s1.0;
      is_old = given_ok _ _ _ s1.1;
      checks = s2.0;
      tree = s3.0;
      tree_is = s3.1;
      nodes = s4.0;
      nodes_are = s4.1;
      path_is = sym (ap (λ (p : MadePath). p.path) is);
      climb_is = sym (ap (λ (p : MadePath). p.climb) is);
    }

-- which way a test went

pub path_did : PathDid
unfolding path_with
path_did c m used e wants_path seed path h = either_way _ _ _ _ h (λ t f. new_path_did c m _ e seed path f) (λ t f. sym (ok_is _ _ f))

-- its leaf has a spelling, if it is short
abbrev some_path : UpdatePath → Option UpdatePath
some_path p = Some p

abbrev none_path : Option UpdatePath
none_path = None

same_path : (p q : UpdatePath) → some_path p ≡ Some q → p ≡ q
same_path p q e = cc

no_some : (p : UpdatePath) → none_path ≡ Some p → ⊥
no_some p e = absurd cc

new_leaf_fits : (c : Crypto) (m : Member) (e : Edits) (old : LeafNode) (seed : List ℕ) → c.number < 2 ^ 16 → length (leaf_node.spell (committed_leaf c m e old seed)) < 2 ^ 30 → leaf_node.Fits (committed_leaf c m e old seed)
unfolding committed_leaf signed_leaf unsigned_leaf
new_leaf_fits c m e old seed n lt = made_leaf_fits _ _ _ _ _ _ (capabilities_fit c n) (commit_source_fits _) lt

pub path_leaf_fits : (c : Crypto) (m : Member) (carried : List Extension) (e : Edits) (seed : List ℕ) (path : MadePath) → c.number < 2 ^ 16 → IsNewPath c m carried e seed path ⊎ (path ≡ no_path m e) → LeafFitsIfShort path.path
unfolding no_path
path_leaf_fits c m carried e seed path n (inl new) p is =
    subst (λ (q : UpdatePath). length (leaf_node.spell q.leaf_node) < 2 ^ 30 → leaf_node.Fits q.leaf_node) (same_path _ p (sym new.path_is ∙ is)) (new_leaf_fits c m e new.old seed n)
path_leaf_fits c m carried e seed path n (inr none) p is = absurd (no_some p (sym (ap (λ (q : MadePath). q.path) none) ∙ is))

-- ---- the content

content_fits : (group : List ℕ) (at leaf : ℕ) (x : Commit) (signature tag : List ℕ) →
    let s : FramedContent = record { group_id = group; epoch = at; sender = by.Member leaf; authenticated_data = []; content = says.Commit x } in
    length group < 2 ^ 30 → at < 2 ^ 64 → leaf < 2 ^ 32 → (length (commit.spell x) < 2 ^ 30 → commit.Fits x) →
    length (signed_content.spell (with_signature s signature tag)) < 2 ^ 30 → signed_content.Fits (with_signature s signature tag)
unfolding framed_content content sender
content_fits group at leaf x signature tag g a l fits lt =
    let s : FramedContent = record { group_id = group; epoch = at; sender = by.Member leaf; authenticated_data = []; content = says.Commit x } in
    let both : length (framed_content.spell s ++ (opaque signature ++ opaque tag)) < 2 ^ 30 = subst (λ (z : List ℕ). length z < 2 ^ 30) (signed_content_spelled (with_signature s signature tag)) lt in
    let t4 : List ℕ = uint w8 3 ++ commit.spell x in
    let t3 : List ℕ = opaque [] ++ t4 in
    let t2 : List ℕ = sender.spell (by.Member leaf) ++ t3 in
    let t1 : List ℕ = uint w64 at ++ t2 in
    let l0 : length (framed_content.spell s) < 2 ^ 30 = short_first (framed_content.spell s) (opaque signature ++ opaque tag) _ both in
    let l1 : length t1 < 2 ^ 30 = short_last (opaque group) t1 _ l0 in
    let l2 : length t2 < 2 ^ 30 = short_last (uint w64 at) t2 _ l1 in
    let l3 : length t3 < 2 ^ 30 = short_last (sender.spell (by.Member leaf)) t3 _ l2 in
    let l4 : length t4 < 2 ^ 30 = short_last (opaque []) t4 _ l3 in
    let l5 : length (commit.spell x) < 2 ^ 30 = short_last (uint w8 3) (commit.spell x) _ l4 in
    let auth : length (opaque signature ++ opaque tag) < 2 ^ 30 = short_last (framed_content.spell s) (opaque signature ++ opaque tag) _ both in
    signed_content_fits (with_signature s signature tag)
    (g, (a, ((lit< tt, l), (lit< tt, (lit< tt, fits l5)))))
    (short_text signature _ (short_first (opaque signature) (opaque tag) _ auth), short_text tag _ (short_last (opaque signature) (opaque tag) _ auth))

-- ---- the message

pub message_fits : (v : SignedContent) (tag : List ℕ) →
    let p : PublicMessage = record { content = v; membership_tag = tag } in
    (length (signed_content.spell v) < 2 ^ 30 → signed_content.Fits v) → length (mls_message.spell (message.PublicMessage p)) < 2 ^ 30 → mls_message.Fits (message.PublicMessage p)
unfolding mls_message public_message
message_fits v tag fits lt =
    let t1 : List ℕ = signed_content.spell v ++ opaque tag in
    let t2 : List ℕ = uint w16 1 ++ t1 in
    let l2 : length t2 < 2 ^ 30 = short_last (uint w16 1) t2 _ lt in
    let l1 : length t1 < 2 ^ 30 = short_last (uint w16 1) t1 _ l2 in
    (lit< tt, (fits (short_first (signed_content.spell v) (opaque tag) _ l1), short_text tag _ (short_last (signed_content.spell v) (opaque tag) _ l1)))

pub message_is : (c : Crypto) (m : Member) (list : List ProposalOrRef) (path : MadePath) (change : Change) → message_of c m list path change ≡ mls_message.spell (message.PublicMessage (sent_of c m list path change))
unfolding message_of message_by sent_of
message_is c m list path change = refl

-- ---- numbers in range

leaf_inside : (b : Bool) (o : Option LeafNode) (x : LeafNode) → cond b o None ≡ Some x → (b ≡ true) × (o ≡ Some x)
leaf_inside true o x e = (refl, e)
leaf_inside false o x e = absurd cc

pub leaf_is_in : (t : Term) (i : ℕ) (x : LeafNode) → leaf_of t i ≡ Some x → (i < width t) × (leaf_at 0 t i ≡ Some x)
unfolding leaf_of
leaf_is_in t i x e = let s = leaf_inside (nat_lt i (width t)) (leaf_at 0 t i) x e in (ltb-true _ _ s.0, s.1)

pub leaf_short : (c : Crypto) (m : Member) → IsGoodMember c m → m.keys.leaf < 2 ^ 32
unfolding Rattle.mls_tree_model.specs.Good.is_within
leaf_short c m good =
    let inside = (leaf_is_in m.public.tree m.keys.leaf good.own good.is_own).0 in
    let within : width m.public.tree ≤ max_leaves = leb-true _ _ good.tree.within in
    omega arith

pub record ContextFits (c : Crypto) (m : Member) : Type 0 where
  pub suite : c.number < 2 ^ 16
  pub group : length m.public.context.group_id < 2 ^ 30
  pub epoch : m.public.context.epoch < 2 ^ 64

context_parts : (x : GroupContext) → group_context.Fits x → (x.cipher_suite < 2 ^ 16) × (length x.group_id < 2 ^ 30) × (x.epoch < 2 ^ 64)
unfolding group_context
context_parts x f = (f.0, f.1.0, f.1.1.0)

pub context_fits : (c : Crypto) (m : Member) → IsGoodMember c m → ContextFits c m
context_fits c m good =
    let p = context_parts m.public.context good.context in
    record { suite = subst (λ (n : ℕ). n < 2 ^ 16) good.suite p.0; group = p.1; epoch = p.2 }

-- ---- the whole

made_content_fits : (c : Crypto) (m : Member) (list : List ProposalOrRef) (path : MadePath) (change : Change) → IsGoodMember c m → AllByRecursion proposal_or_ref.Fits list → LeafFitsIfShort path.path →
    length (signed_content.spell (content_of c m list path change)) < 2 ^ 30 → signed_content.Fits (content_of c m list path change)
unfolding content_of said_of content_by commit_of
made_content_fits c m list path change good listed leaf lt =
    let k = context_fits c m good in
    content_fits m.public.context.group_id m.public.context.epoch m.keys.leaf (record { proposals = list; path = path.path }) (signature_of c m list path) (tag_of m path change)
    k.group k.epoch (leaf_short c m good) (commit_fits (record { proposals = list; path = path.path }) listed leaf) lt

pub within_is : (bytes : List ℕ) → require_within_limit bytes ≡ Ok passed → length bytes ≤ input_limit
unfolding require_within_limit
within_is bytes h = leb-true _ _ (and_parts _ _ (required _ _ _ h)).0

sent_fits : (c : Crypto) (m : Member) (list : List ProposalOrRef) (path : MadePath) (change : Change) → IsGoodMember c m → AllByRecursion proposal_or_ref.Fits list → LeafFitsIfShort path.path →
    length (mls_message.spell (message.PublicMessage (sent_of c m list path change))) < 2 ^ 30 → mls_message.Fits (message.PublicMessage (sent_of c m list path change))
unfolding sent_of
sent_fits c m list path change good listed leaf lt =
    message_fits (content_of c m list path change) (content_tag m.epoch_secret (content_of c m list path change) m.public.context) (made_content_fits c m list path change good listed leaf) lt

pub made_fits : MadeFits
unfolding decode_message made_of
made_fits c m list wants_path seed made k good listed =
    let leaf : LeafFitsIfShort k.path.path = path_leaf_fits c m _ k.edits seed k.path (context_fits c m good).suite (path_did c m k.used k.edits wants_path seed k.path k.path_is) in
    let p : MlsMessage = message.PublicMessage (sent_of c m list k.path k.change) in
    let short : length (mls_message.spell p) ≤ input_limit = subst (λ (b : List ℕ). length b ≤ input_limit) (message_is c m list k.path k.change) (within_is (message_of c m list k.path k.change) k.short) in
    let fits : mls_message.Fits p = sent_fits c m list k.path k.change good listed leaf (omega arith) in
    let bytes_are : made.commit ≡ mls_message.spell p = sym (ap (λ (x : Made). x.commit) k.made_is) ∙ message_is c m list k.path k.change in
    record {
      fits = fits;
      decodes = ap (λ (b : List ℕ). whole mls_message input_limit b) bytes_are
          ∙ whole_again mls_message input_limit (mls_message.spell p) p (record { fits = fits; spelled = refl }) short;
    }
