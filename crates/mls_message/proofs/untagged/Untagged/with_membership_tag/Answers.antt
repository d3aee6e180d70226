use Rattle.std.proofs.Common.{ℕ, List, subst}
use Rattle.mls_wire.specs.Format.{IsBytes}
use Rattle.mls_types.specs.declared.signed.SignedContent.{SignedContent}
use Rattle.mls_message.specs.Pieces.{IsUntagged}
use Rattle.mls_message.proofs.TextLaws.{message_is}
use Rattle.mls_message.proofs.untagged.Untagged.with_membership_tag.Goals as goal

pub returns : goal.returns
returns c = λ m speaks.
    message_is m c.args.self c.self.inside.bytes.items c.membership_tag-tag.result c.in_ok-message.message.items
    (subst (λ (v : SignedContent). IsUntagged v c.self.inside.bytes.items) c.self.view_is c.self.invariant)
    (c.membership_tag-tag.ensures m speaks) c.in_ok-message.ensures (subst (λ (l : List ℕ). IsBytes l) c.deref.ensures.value c.know_bytes.ensures)
