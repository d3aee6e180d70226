-- Commits lead where their entries say.
use Rattle.std.proofs.Common.{◌≡◌, ℕ, List, Option, Some, Result, Ok, refl, sym, ap, ◌∙◌, ◌⊎◌, inl, inr}
use Rattle.std.proofs.lemmas.Slice.Eq.{bytes_eq-Decides}
use Rattle.mls_types.specs.SignedParts.{framed_content_of}
use Rattle.mls_types.specs.declared.commit.Commit.{Commit}
use Rattle.mls_types.specs.declared.commit.ProposalOrRef.{ProposalOrRef}
use Rattle.mls_types.specs.declared.message.MlsMessage.TheVariants as message
use Rattle.mls_types.specs.declared.public_message.PublicMessage.{PublicMessage}
use Rattle.mls_types.specs.declared.signed.SignedBody.{SignedBody}
use Rattle.mls_types.specs.declared.signed.SignedBody.TheVariants as body_of
use Rattle.mls_types.specs.declared.signed.SignedContent.{SignedContent}
use Rattle.mls_suite.specs.Crypto.{Crypto}
use Rattle.mls_schedule.specs.Epoch.{confirmation_tag}
use Rattle.mls_model.specs.declared.effect.Effect.{Effect}
use Rattle.mls_model.specs.declared.effect.Effect.TheVariants.{Proposed, Known, Advanced, Removed}
use Rattle.mls_model.specs.Commit.{Change, change_of_commit, public_with, next_public}
use Rattle.mls_model.specs.Invariant.{tag_of_message}
use Rattle.mls_model.specs.Journal.{names_in, list_in, entry_of}
use Rattle.mls_model.specs.Make.{MadePath, Made}
use Rattle.mls_model.specs.Member.{Member, with_keys, with_epoch}
use Rattle.mls_model.specs.Messages.{decode_message, sender_leaf}
use Rattle.mls_model.specs.PublicState.{PublicState, Used}
use Rattle.mls_model.specs.JournalState.{used_by_names, public_after_body, public_after}
use Rattle.mls_theorems.specs.UsedProposals.{AreGoodKept}
use Rattle.mls_theorems.proofs.Used.{used_by_entry}
use Rattle.mls_theorems.specs.CommitCalls.{commit_of, said_of, tag_of, content_of, made_of}
use Rattle.mls_theorems.proofs.Makes.{make_did}
use Rattle.mls_model.specs.VerdictFindings.{WasRemoved, HasFollowed, reached_epoch}
use Rattle.mls_model.proofs.Found.{CommitDid, ContentDid}
use Rattle.mls_model.proofs.Receipts.{did_receive}
use Rattle.mls_theorems.specs.SentCommits.{sent_of}
use Rattle.mls_theorems.proofs.Sent.{made_fits}
use Rattle.mls_theorems.specs.CommitEntries.{FollowsEntry, ReceivedAlong, MadeAlong}

abbrev into_state : PublicState → Result PublicState ℕ
into_state p = Ok p

abbrev into_public : Member → Result PublicState ℕ
into_public m = Ok m.public

abbrev some_bytes : List ℕ → Option (List ℕ)
some_bytes x = Some x

-- ---- what an entry says

pub entry_at : (c : Crypto) (p : PublicState) (bytes : List ℕ) (names : List (List ℕ)) (v : PublicMessage) (commit : Commit) (tag : List ℕ) (used : List Used) (change : Change) →
    decode_message bytes ≡ Ok (message.PublicMessage v) → v.content.body ≡ body_of.Commit commit tag → used_by_names (sender_leaf v.content.sender) commit.proposals names ≡ Ok used →
    change_of_commit c p (sender_leaf v.content.sender) used commit (framed_content_of v.content) v.content.signature ≡ Ok change → public_after c p (record { commit = bytes; named_messages = names }) ≡ Ok (public_with change tag)
unfolding public_after next_public
entry_at c p bytes names v commit tag used change d b u h =
    rw d (ap (λ (x : SignedBody). public_after_body c p names v.content x) b ∙ next_at c p names v.content commit tag used change u h)
  where
    next_at : (c : Crypto) (p : PublicState) (names : List (List ℕ)) (v : SignedContent) (commit : Commit) (tag : List ℕ) (used : List Used) (change : Change) →
        used_by_names (sender_leaf v.sender) commit.proposals names ≡ Ok used → change_of_commit c p (sender_leaf v.sender) used commit (framed_content_of v) v.signature ≡ Ok change → public_after_body c p names v (body_of.Commit commit tag) ≡ Ok (public_with change tag)
    next_at c p names v commit tag used change u h = rw (u, h) refl

pub list_at : (bytes : List ℕ) (v : PublicMessage) (commit : Commit) (tag : List ℕ) → decode_message bytes ≡ Ok (message.PublicMessage v) → v.content.body ≡ body_of.Commit commit tag → list_in bytes ≡ commit.proposals
unfolding list_in
list_at bytes v commit tag d b = rw (d, b) refl

pub tag_at : (bytes : List ℕ) (v : PublicMessage) (commit : Commit) (tag : List ℕ) → decode_message bytes ≡ Ok (message.PublicMessage v) → v.content.body ≡ body_of.Commit commit tag → tag_of_message (decode_message bytes) ≡ Some tag
tag_at bytes v commit tag d b = rw (d, b) refl

abbrev pub to : Effect → Member → Effect × Member
to f m = (f, m)

known_is : (m n : Member) (r : List ℕ) (k : ℕ) → to (Known r) m ≡ to (Advanced k) n → ⊥
known_is m n r k e = let f : Known r ≡ Advanced k = ap (λ (x : Effect × Member). x.0) e in absurd cc

proposed_is : (m n : Member) (r : List ℕ) (k : ℕ) → to (Proposed r) m ≡ to (Advanced k) n → ⊥
proposed_is m n r k e = let f : Proposed r ≡ Advanced k = ap (λ (x : Effect × Member). x.0) e in absurd cc

pub removed_is : (m n : Member) (k : ℕ) → to Removed m ≡ to (Advanced k) n → ⊥
removed_is m n k e = let f : Removed ≡ Advanced k = ap (λ (x : Effect × Member). x.0) e in absurd cc

advanced_is : (m n : Member) (j k : ℕ) → to (Advanced j) m ≡ to (Advanced k) n → k ≡ j
advanced_is m n j k e = let f : Advanced j ≡ Advanced k = ap (λ (x : Effect × Member). x.0) e in cc

along_commit : (c : Crypto) (m : Member) (bytes : List ℕ) (epoch : ℕ) (after : Member) (v : PublicMessage) (commit : Commit) (tag : List ℕ) → AreGoodKept c m m.kept → decode_message bytes ≡ Ok (message.PublicMessage v) → v.content.body ≡ body_of.Commit commit tag →
    (d : CommitDid c m v.content commit tag (Advanced epoch, after)) → HasFollowed c m v.content commit tag d.used d.change (Advanced epoch, after) → FollowsEntry c m bytes epoch after
unfolding entry_of public_with with_epoch with_keys
along_commit c m bytes epoch after v commit tag kept reads says d f =
    let n : Member = with_epoch m (public_with d.change tag) (reached_epoch m d.change f.climb) (with_keys m.keys f.climb.keys) in
    let is : n ≡ after = ap (λ (x : Effect × Member). x.1) f.is in
    let list : list_in bytes ≡ commit.proposals = list_at bytes v commit tag reads says in
    let used : used_by_names (sender_leaf v.content.sender) commit.proposals (names_in m.kept (list_in bytes)) ≡ Ok d.used =
    ap (λ (l : List ProposalOrRef). used_by_names (sender_leaf v.content.sender) commit.proposals (names_in m.kept l)) list ∙ used_by_entry c m m.kept (sender_leaf v.content.sender) commit.proposals d.used kept d.uses in
    record {
      public = entry_at c m.public bytes (names_in m.kept (list_in bytes)) v commit tag d.used d.change reads says used d.change_is ∙ ap (λ (x : Member). into_public x) is;
      epoch_is = advanced_is _ _ _ _ f.is ∙ ap (λ (x : Member). x.public.context.epoch) is;
      tag = tag;
      is_tag = tag_at bytes v commit tag reads says;
      confirmed = ap (λ (x : Member). confirmation_tag x.epoch_secret x.public.context.confirmed_transcript_hash) (sym is) ∙ sym ((bytes_eq-Decides _ _).0 f.confirmed);
      signing = ap (λ (x : Member). x.signing) (sym is);
      leaf = ap (λ (x : Member). x.keys.leaf) (sym is);
      active = ap (λ (x : Member). x.gone) (sym is);
    }

along_did : (c : Crypto) (m : Member) (bytes : List ℕ) (epoch : ℕ) (after : Member) (v : PublicMessage) (commit : Commit) (tag : List ℕ) → AreGoodKept c m m.kept → decode_message bytes ≡ Ok (message.PublicMessage v) → v.content.body ≡ body_of.Commit commit tag →
    (d : CommitDid c m v.content commit tag (Advanced epoch, after)) → WasRemoved m d.used (Advanced epoch, after) ⊎ HasFollowed c m v.content commit tag d.used d.change (Advanced epoch, after) → FollowsEntry c m bytes epoch after
along_did c m bytes epoch after v commit tag kept reads says d (inl r) = absurd (removed_is _ after epoch r.is)
along_did c m bytes epoch after v commit tag kept reads says d (inr f) = along_commit c m bytes epoch after v commit tag kept reads says d f

along_body : (c : Crypto) (m : Member) (bytes : List ℕ) (epoch : ℕ) (after : Member) (v : PublicMessage) (b : SignedBody) → AreGoodKept c m m.kept → decode_message bytes ≡ Ok (message.PublicMessage v) → v.content.body ≡ b →
    ContentDid c m v.content bytes b (Advanced epoch, after) → FollowsEntry c m bytes epoch after
along_body c m bytes epoch after v (body_of.Application text) kept reads says d = absurd d
along_body c m bytes epoch after v (body_of.Proposal said) kept reads says (inl d) = absurd (known_is _ after _ epoch d.is)
along_body c m bytes epoch after v (body_of.Proposal said) kept reads says (inr d) = absurd (proposed_is _ after _ epoch d.is)
along_body c m bytes epoch after v (body_of.Commit commit tag) kept reads says d = along_did c m bytes epoch after v commit tag kept reads says d d.did

pub received_along : ReceivedAlong
received_along c m bytes epoch after kept h =
    let d = did_receive c m bytes (Advanced epoch, after) h in
    along_body c m bytes epoch after d.said d.said.content.body kept d.decodes refl d.did

pub body_is : (c : Crypto) (m : Member) (list : List ProposalOrRef) (path : MadePath) (change : Change) → (sent_of c m list path change).content.body ≡ body_of.Commit (commit_of list path) (tag_of m path change)
unfolding sent_of content_of said_of Rattle.mls_model.specs.Messages.content_by
body_is c m list path change = refl

pub made_along : MadeAlong
unfolding commit_of sent_of content_of said_of Rattle.mls_model.specs.Messages.content_by made_of tag_of public_with
made_along c m list made is =
    let k = make_did c m list is.wants_path is.seed made is.is in
    let v : PublicMessage = sent_of c m list k.path k.change in
    let tag : List ℕ = tag_of m k.path k.change in
    let reads : decode_message made.commit ≡ Ok (message.PublicMessage v) = (made_fits c m list is.wants_path is.seed made k is.good is.fits).decodes in
    let says : v.content.body ≡ body_of.Commit (commit_of list k.path) tag = body_is c m list k.path k.change in
    record {
      lists = list_at made.commit v (commit_of list k.path) tag reads says;
      public = entry_at c m.public made.commit (names_in m.kept list) v (commit_of list k.path) tag k.used k.change reads says (used_by_entry c m m.kept m.keys.leaf list k.used is.good.kept k.uses) k.change_is
          ∙ ap (λ (x : Made). into_state x.pending.public) k.made_is;
      is_tag = tag_at made.commit v (commit_of list k.path) tag reads says ∙ ap (λ (x : Made). some_bytes (confirmation_tag x.pending.epoch_secret x.pending.public.context.confirmed_transcript_hash)) k.made_is;
    }
