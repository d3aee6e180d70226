-- A made commit passes the checks of every message at each other member that agrees with its maker.
use Rattle.std.proofs.Common.{◌≡◌, ℕ, ◌==◌, Bool, true, not, ◌||◌, List, Some, refl, sym, ap, ap₂, ◌∙◌, eq-eqb, ne_eqb}
use Rattle.std.specs.Prelude.{◌≢◌, codes}
use Rattle.std.specs.Str.{bytes_eq}
use Rattle.std.proofs.lemmas.Slice.Eq.{bytes_eq-Decides}
use Rattle.mls_types.specs.declared.group_context.GroupContext.{GroupContext}
use Rattle.mls_leaf.specs.declared.leaf.LeafNode.{LeafNode}
use Rattle.mls_types.specs.declared.commit.ProposalOrRef.{ProposalOrRef}
use Rattle.mls_types.specs.declared.public_message.PublicMessage.{PublicMessage}
use Rattle.mls_suite.specs.Crypto.{Crypto, Lawful}
use Rattle.mls_suite.proofs.LabelLaws.{verifies_signed}
use Rattle.mls_tree_model.specs.Term.{Term, leaf_of}
use Rattle.mls_model.specs.PublicState.{PublicState}
use Rattle.mls_model.specs.Commit.{Change}
use Rattle.mls_model.specs.Member.{Member}
use Rattle.mls_model.specs.Messages.{content_by, content_signature, is_content_signed, content_tag, sender_leaf, is_handshake}
use Rattle.mls_model.specs.Make.{MadePath}
use Rattle.mls_model.specs.Verdict.{is_kept}
use Rattle.mls_model.specs.Agreement.{Agree, AgreeSecret}
use Rattle.mls_model.specs.MemberInvariant.{IsGoodMember}
use Rattle.mls_theorems.specs.CommitCalls.{commit_of, said_of, signature_of, content_of}
use Rattle.mls_model.specs.VerdictFindings.{IsFramed}
use Rattle.mls_model.proofs.Receipts.{framing_passes}
use Rattle.mls_theorems.specs.SentCommits.{sent_of}
use Rattle.mls_theorems.specs.Framing.{MadeIsFramed}

-- ---- agreement

abbrev state : GroupContext → Term → List ℕ → PublicState
state context tree interim = record { context = context; tree = tree; interim = interim }

public_same : (p q : PublicState) → p.context ≡ q.context → p.tree ≡ q.tree → p.interim ≡ q.interim → p ≡ q
public_same p q a b e =
    ap (λ (x : GroupContext). state x p.tree p.interim) a ∙ ap (λ (x : Term). state q.context x p.interim) b ∙ ap (λ (x : List ℕ). state q.context q.tree x) e

-- members that agree hold one public state
pub one_public : (m n : Member) → Agree m n → m.public ≡ n.public
one_public m n a = public_same m.public n.public a.context a.tree a.interim

-- ---- the signature

-- what a member signs of a content verifies under its signature key
pub signed_verifies : (c : Crypto) → Lawful c → (m : Member) (list : List ProposalOrRef) (path : MadePath) (change : Change) → is_content_signed c (c.sig_public m.signing) (content_of c m list path change) m.public.context ≡ true
unfolding is_content_signed content_of signature_of content_signature said_of content_by commit_of
signed_verifies c laws m list path change = verifies_signed c laws m.signing (codes "FramedContentTBS") _

same_bytes_pass : (x y : List ℕ) → x ≡ y → bytes_eq x y ≡ true
same_bytes_pass x y e = (bytes_eq-Decides x y).1 e

another_leaf : (i j : ℕ) (rest : Bool) → i ≢ j → (not (i == j) || rest) ≡ true
another_leaf i j rest apart = ap (λ (b : Bool). not b || rest) (ne_eqb i j apart)

-- all but the last, at whatever leaf
pub record IsFramedButOwn (c : Crypto) (m : Member) (v : PublicMessage) : Type 0 where
  pub group : bytes_eq v.content.group_id m.public.context.group_id ≡ true
  pub epoch : (v.content.epoch == m.public.context.epoch) ≡ true
  pub leaf : LeafNode
  pub sender : leaf_of m.public.tree (sender_leaf v.content.sender) ≡ Some leaf
  pub handshake : is_handshake v.content.body ≡ true
  pub tag : bytes_eq v.membership_tag (content_tag m.epoch_secret v.content m.public.context) ≡ true
  pub signed : is_content_signed c leaf.signature_key v.content m.public.context ≡ true

pub framed_but_own : (c : Crypto) → Lawful c → (maker m : Member) (list : List ProposalOrRef) (path : MadePath) (change : Change) → IsGoodMember c maker → Agree maker m → maker.epoch_secret ≡ m.epoch_secret → IsFramedButOwn c m (sent_of c maker list path change)
unfolding sent_of content_of said_of content_by commit_of
framed_but_own c laws maker m list path change good agree secret = record {
  group = same_bytes_pass _ _ (ap (λ (x : GroupContext). x.group_id) agree.context);
  epoch = eq-eqb _ _ (ap (λ (x : GroupContext). x.epoch) agree.context);
  leaf = good.own;
  sender = ap (λ (t : Term). leaf_of t maker.keys.leaf) (sym agree.tree) ∙ good.is_own;
  handshake = refl;
  tag = same_bytes_pass _ _ (ap₂ (λ (e : List ℕ) (x : GroupContext). content_tag e (content_of c maker list path change) x) secret agree.context);
  signed =
      ap₂ (λ (k : List ℕ) (x : GroupContext). is_content_signed c k (content_of c maker list path change) x) good.signing (sym agree.context)
      ∙ signed_verifies c laws maker list path change;
}

pub is_framed : (c : Crypto) → Lawful c → (maker m : Member) (list : List ProposalOrRef) (path : MadePath) (change : Change) (bytes : List ℕ) →
    IsGoodMember c maker → maker.keys.leaf ≢ m.keys.leaf → Agree maker m → AgreeSecret maker m → IsFramed c m (sent_of c maker list path change) bytes
unfolding sent_of content_of said_of content_by commit_of
is_framed c laws maker m list path change bytes good apart agree secret =
    let f = framed_but_own c laws maker m list path change good agree secret.epoch in
    record {
      group = f.group;
      epoch = f.epoch;
      leaf = f.leaf;
      sender = f.sender;
      handshake = f.handshake;
      tag = f.tag;
      signed = f.signed;
      other = another_leaf maker.keys.leaf m.keys.leaf (is_kept m.kept bytes) apart;
    }

pub made_is_framed : MadeIsFramed
made_is_framed c laws maker m list path change bytes good apart agree secret =
    framing_passes c m (sent_of c maker list path change) bytes (is_framed c laws maker m list path change bytes good apart agree secret)
