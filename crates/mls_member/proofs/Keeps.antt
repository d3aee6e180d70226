-- How own proposals come about and are kept.
use Rattle.std.proofs.Common.{◌≡◌, ℕ, ◌^◌, Bool, true, false, List, Option, Some, None, Result, Ok, Err, refl, sym, ap, subst, ◌∙◌}
use Rattle.std.specs.Prelude.{IfSome}
use Rattle.std.specs.Str.{bytes_eq}
use Rattle.std.proofs.lemmas.Slice.Eq.{bytes_eq-Decides}
use Rattle.mls_wire.specs.Checks.{passed, require, ◌>>◌, DoesAs}
use Rattle.mls_wire.proofs.CheckLaws.{then_ok, require_ok}
use Rattle.mls_types.specs.declared.group_context.GroupContext.{GroupContext}
use Rattle.mls_leaf.specs.Leaf.{leaf_node}
use Rattle.mls_leaf.specs.declared.leaf.LeafNode.{LeafNode}
use Rattle.mls_leaf.specs.declared.leaf.LeafSource.TheVariants as leaf_node_source
use Rattle.mls_leaf.specs.declared.proposal.Proposal.{Proposal}
use Rattle.mls_suite.specs.Crypto.{Crypto}
use Rattle.mls_tree_model.specs.Term.{Term, leaf_of}
use Rattle.mls_public_group.specs.Short.{IsBelow, HasLeavesBelow}
use Rattle.mls_message.specs.Speaks.{Speaks}
use Rattle.mls_public_group.specs.MessageLimit.{limited_text}
use Rattle.mls_message.specs.declared.speaker.Speaker.{Speaker}
use Rattle.mls_model.specs.Candidate.{leaf_key_of, unsigned_leaf, signed_leaf}
use Rattle.mls_model.specs.Member.{KeptProposal, Member, kept_under}
use Rattle.mls_model.specs.Messages.{require_within_limit, message_by, reference_of}
use Rattle.mls_model.specs.Propose.{proposal_by, keep_once, updated_leaf}
use Rattle.mls_member.specs.declared.error.Refusal.{Refusal}
use Rattle.mls_member.specs.Faults.{number_of}
use Rattle.mls_member.specs.Proposing.{known_as, keep_sent_proposal, kept_as, send_and_keep, updated_answer}

-- ---- keeping

-- a call does this to a member
abbrev pub KeepsAs : {B : Type 0} → (B → List ℕ) → Result (List ℕ × Member) ℕ → Member → Member → Result B Refusal → Type 0
KeepsAs value defined old new result = DoesAs value number_of defined old new result

abbrev done : Member → List ℕ → Result (List ℕ × Member) ℕ
done m message = Ok (message, m)

abbrev told : Option KeptProposal → List ℕ → Result Bool ℕ
told o message = known_as o message

-- the same message is kept
known_same : (m : Member) (new : KeptProposal) (o : Option KeptProposal) → told o new.message ≡ Ok true → keep_once m new o ≡ Ok (new.message, m)
known_same m new None h = absurd cc
known_same m new (Some old) h =
    let same : bytes_eq old.message new.message ≡ true = (require_ok 49 (bytes_eq old.message new.message) (Ok true) true h).0 in
    rw same (ap (λ (x : List ℕ). done m x) ((bytes_eq-Decides old.message new.message).0 same))

-- another one is
other_from : (b : Bool) (answer : List ℕ) (m : Member) (n : ℕ) (r : Result Bool ℕ) → r ≡ (require 49 b >> Ok true) → r ≡ Err n → (require 49 b >> done m answer) ≡ Err n
other_from true answer m n r e h = absurd cc
other_from false answer m n r e h = let same : n ≡ 49 = cc in rw same refl

known_other : (m : Member) (new : KeptProposal) (o : Option KeptProposal) (n : ℕ) → told o new.message ≡ Err n → keep_once m new o ≡ Err n
known_other m new None n h = absurd cc
known_other m new (Some old) n h = other_from (bytes_eq old.message new.message) old.message m n (told (Some old) new.message) refl h

-- none is
known_none : (o : Option KeptProposal) (message : List ℕ) → told o message ≡ Ok false → o ≡ None
known_none None message h = refl
known_none (Some old) message h = let never = (require_ok 49 (bytes_eq old.message message) (Ok true) false h).1 in absurd cc

-- ---- a proposal that is said

abbrev text : Crypto → Member → Proposal → List ℕ
text c m said = message_by m (proposal_by c m said)

record IsSaid (c : Crypto) (m : Member) (said : Proposal) (message reference : List ℕ) : Type 0 where
  within : require_within_limit (text c m said) ≡ Ok passed
  spelled : text c m said ≡ message
  named : reference_of (proposal_by c m said) ≡ reference

said_is : (c : Crypto) (m : Member) (said : Proposal) (message reference : List ℕ) → limited_text (text c m said) ≡ Ok message → reference ≡ reference_of (proposal_by c m said) → IsSaid c m said message reference
said_is c m said message reference sent e =
    let s = then_ok (require_within_limit (text c m said)) (Ok (text c m said)) message sent in
    let same = s.1 in
    record { within = s.0; spelled = cc; named = sym e }

pub is_within : (c : Crypto) (m : Member) (said : Proposal) (message : List ℕ) → limited_text (text c m said) ≡ Ok message → require_within_limit (text c m said) ≡ Ok passed
is_within c m said message sent = (then_ok (require_within_limit (text c m said)) (Ok (text c m said)) message sent).0

-- what is kept under its reference, by the code's names
looked_up : (c : Crypto) (m : Member) (said : Proposal) (message reference : List ℕ) (r : Result Bool ℕ) → IsSaid c m said message reference → told (kept_under m.kept reference) message ≡ r → told (kept_under m.kept (reference_of (proposal_by c m said))) (text c m said) ≡ r
looked_up c m said message reference r s h = rw (s.named, s.spelled) h

pub said_again : (c : Crypto) (m : Member) (said : Proposal) (own : Option (List ℕ)) (message reference : List ℕ) → limited_text (text c m said) ≡ Ok message → reference ≡ reference_of (proposal_by c m said) → told (kept_under m.kept reference) message ≡ Ok true
    → send_and_keep c m said own ≡ Ok (message, m)
said_again c m said own message reference sent e known =
    let s = said_is c m said message reference sent e in
    rw s.within (known_same m (kept_as c m said own) _ (looked_up c m said message reference _ s known) ∙ ap (λ (x : List ℕ). done m x) s.spelled)

pub said_refused : (c : Crypto) (m : Member) (said : Proposal) (own : Option (List ℕ)) (message reference : List ℕ) (n : ℕ) → limited_text (text c m said) ≡ Ok message → reference ≡ reference_of (proposal_by c m said) → told (kept_under m.kept reference) message ≡ Err n
    → send_and_keep c m said own ≡ Err n
said_refused c m said own message reference n sent e known =
    let s = said_is c m said message reference sent e in
    rw s.within (known_other m (kept_as c m said own) _ n (looked_up c m said message reference _ s known))

new_is : (c : Crypto) (m : Member) (said : Proposal) (own : Option (List ℕ)) (message reference : List ℕ) → IsSaid c m said message reference → told (kept_under m.kept reference) message ≡ Ok false → send_and_keep c m said own ≡ keep_sent_proposal m message reference said own
new_is c m said own message reference s known =
    let none : kept_under m.kept reference ≡ None = known_none _ message known in
    rw (s.within, s.named, s.spelled, none) refl

pub said_new : {B : Type 0} (value : B → List ℕ) (c : Crypto) (m new : Member) (said : Proposal) (own : Option (List ℕ)) (message reference : List ℕ) (result : Result B Refusal) → limited_text (text c m said) ≡ Ok message → reference ≡ reference_of (proposal_by c m said)
    → told (kept_under m.kept reference) message ≡ Ok false → KeepsAs value (keep_sent_proposal m message reference said own) m new result → KeepsAs value (send_and_keep c m said own) m new result
said_new value c m new said own message reference result sent e known does =
    subst (λ (r : Result (List ℕ × Member) ℕ). KeepsAs value r m new result) (sym (new_is c m said own message reference (said_is c m said message reference sent e) known)) does

-- ---- the leaf of an update

pub updated_made : (c : Crypto) (m : Member) (s : Speaker) (seed group key : List ℕ) (old made : LeafNode) (x : GroupContext) → Speaks m s → x ≡ s.group.now.context → group ≡ x.group_id → key ≡ c.public (leaf_key_of c seed)
    → made ≡ signed_leaf c s.signing.now group s.leaf (unsigned_leaf c key old.signature_key old.credential leaf_node_source.Update) → made ≡ updated_leaf c m old seed
unfolding updated_leaf
updated_made c m s seed group key old made x sp context_is group_is key_is e = e ∙ rw (key_is, sp.signing, sp.leaf, sp.public, group_is, context_is) refl

pub updated_is : (c : Crypto) (m : Member) (s : Speaker) (seed : List ℕ) (old made : LeafNode) (t : Term) → Speaks m s → t ≡ s.group.now.tree → Some old ≡ leaf_of t s.leaf → made ≡ updated_leaf c m old seed → updated_answer c m seed ≡ Ok made
updated_is c m s seed old made t sp tree_is found e =
    let there : leaf_of m.public.tree m.keys.leaf ≡ Some old = rw (sp.public, sp.leaf, sym tree_is) (sym found) in
    rw (there, e) refl

there_is : (P : LeafNode → Type 0) (o : Option LeafNode) (old : LeafNode) → Some old ≡ o → IfSome o P → P old
there_is P o old e h = subst (λ (q : Option LeafNode). IfSome q P) (sym e) h

-- and the one that it replaces is short
pub old_below : (s : Speaker) (old : LeafNode) (t : Term) → t ≡ s.group.now.tree → Some old ≡ leaf_of t s.leaf → HasLeavesBelow (2 ^ 27) s.group.now.tree → IsBelow (2 ^ 27) leaf_node old
old_below s old t tree_is found h = there_is (λ (v : LeafNode). IsBelow (2 ^ 27) leaf_node v) (leaf_of t s.leaf) old found (rw tree_is (h s.leaf))
