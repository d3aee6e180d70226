-- The lines of public messages.
use Rattle.std.specs.Prelude.{ℕ, List, [], ◌∷◌, ◌++◌, codes}
use Rattle.std.specs.Borrow.{Bor}
use Rattle.std.specs.Global.{Vec}
use Rattle.mls_leaf.specs.declared.proposal.Proposal as proposals
use Rattle.mls_leaf.specs.declared.proposal.Proposal.TheVariants as proposal
use Rattle.mls_types.specs.declared.content.Sender.{Sender}
use Rattle.mls_types.specs.declared.content.Sender.TheVariants as sender
use Rattle.mls_types.specs.declared.signed.SignedBody.{SignedBody}
use Rattle.mls_types.specs.declared.signed.SignedBody.TheVariants as body
use Rattle.mls_types.specs.declared.public_message.PublicMessage.{PublicMessage}
use Rattle.mls_cli_text.specs.Text.{Entry, entries_of, entry, bytes, number, word}
use Rattle.mls_cli_text.specs.declared.text.Line.{Line}
use Rattle.mls_cli_show.specs.declared.numbered.Detail.{Detail}
use Rattle.mls_cli_show.specs.Commit.{commit_entries}
use Rattle.mls_cli_show.specs.Extensions.{extension_entries}
use Rattle.mls_cli_show.specs.Package.{key_package_entries, leaf_entries}

-- the leaf of a sender
abbrev pub leaf_index : Sender → ℕ
leaf_index (sender.Member index) = index

-- RFC 9420, section 12.1: a proposal
unfoldable pub proposal_entries : proposals.Proposal → List Entry
proposal_entries (proposal.Add v) =
    entry [] (codes "proposal") (word (codes "add")) ∷ key_package_entries (codes "add.") v
proposal_entries (proposal.Update v) =
    entry [] (codes "proposal") (word (codes "update")) ∷ leaf_entries [] v
proposal_entries (proposal.Remove removed) =
    entry [] (codes "proposal") (word (codes "remove"))
    ∷ entry [] (codes "removed") (number removed) ∷ []
proposal_entries (proposal.GroupContextExtensions vs) =
    entry [] (codes "proposal") (word (codes "group_context_extensions")) ∷ extension_entries [] vs

-- RFC 9420, sections 6 and 6.1: the kind and the body of a content, with what authenticates it
abbrev pub body_entries : Detail → SignedBody → List ℕ → List Entry
body_entries detail (body.Application text) signature =
    entry [] (codes "content") (word (codes "application"))
    ∷ entry [] (codes "data") (bytes text)
    ∷ entry [] (codes "signature") (bytes signature) ∷ []
body_entries detail (body.Proposal v) signature =
    entry [] (codes "content") (word (codes "proposal"))
    ∷ (proposal_entries v
    ++ entry [] (codes "signature") (bytes signature) ∷ [])
body_entries detail (body.Commit c confirmation_tag) signature =
    entry [] (codes "content") (word (codes "commit"))
    ∷ (commit_entries detail c
    ++ entry [] (codes "signature") (bytes signature)
    ∷ entry [] (codes "confirmation_tag") (bytes confirmation_tag) ∷ [])

-- RFC 9420, sections 6 to 6.2: a public message
unfoldable pub public_message_entries : Detail → PublicMessage → List Entry
public_message_entries detail m =
    entry [] (codes "group_id") (bytes m.content.group_id)
    ∷ entry [] (codes "epoch") (number m.content.epoch)
    ∷ entry [] (codes "sender") (number (leaf_index m.content.sender))
    ∷ entry [] (codes "authenticated_data") (bytes m.content.authenticated_data)
    ∷ (body_entries detail m.content.body m.content.signature
    ++ entry [] (codes "membership_tag") (bytes m.membership_tag) ∷ [])

-- lines behind a line of one word
abbrev pub with_word_line : Bor (List ℕ) → Bor (List ℕ) → Vec Line → List Entry
with_word_line name value lines = entry [] name.now (word value.now) ∷ entries_of lines
