-- The sender of a message, by a view of it.
use Rattle.std.proofs.Common.{◌≡◌, ℕ, true, List, Some, None, Ok, Err, refl}
use Rattle.std.specs.Prelude.{◌≢◌}
use Rattle.mls_wire.specs.Whole.{whole}
use Rattle.mls_leaf.specs.Limits.{input_limit}
use Rattle.mls_types.specs.Message.{mls_message}
use Rattle.mls_types.specs.declared.message.MlsMessage.{MlsMessage}
use Rattle.mls_types.specs.declared.message.MlsMessage.TheVariants as message_of
use Rattle.mls_view.specs.declared.message.MessageView.{MessageView}
use Rattle.mls_view.specs.declared.message.MessageView.TheVariants as views
use Rattle.mls_view.specs.declared.public_message.PublicMessageView.{PublicMessageView}
use Rattle.mls_view.specs.Shown.{Shows}
use Rattle.mls_view.specs.Views.{LendsAll}
use Rattle.mls_suite.specs.Crypto.{Crypto}
use Rattle.mls_model.specs.Member.{Member}
use Rattle.mls_model.specs.Messages.{decode_message, sender_leaf}
use Rattle.mls_model.specs.Verdict.{verdict}
use Rattle.mls_member.specs.Inspecting.{sender_in}
use Rattle.mls_member.proofs.ContentLaws.{IsPublic}

-- bytes that are no message
pub no_sender : (bytes : List ℕ) (n : ℕ) → whole mls_message input_limit bytes ≡ Err n → None ≡ sender_in (decode_message bytes)
unfolding decode_message
no_sender bytes n e = rw e refl

pub public_sender : (bytes : List ℕ) (view : PublicMessageView) (leaf : ℕ) → IsPublic bytes view → leaf ≡ sender_leaf view.content.sender → Some leaf ≡ sender_in (decode_message bytes)
unfolding decode_message
public_sender bytes view leaf p is = rw (p.is_read, is, p.shows.content.sender) refl

other_message : (bytes : List ℕ) (view : MessageView) (value : MlsMessage) → whole mls_message input_limit bytes ≡ Ok value → Shows view value → ((x : PublicMessageView) → view ≢ views.PublicMessage x) → None ≡ sender_in (decode_message bytes)
unfolding decode_message
other_message bytes (views.PublicMessage x) value e shows none = absurd (none x refl)
other_message bytes (views.Welcome x) (message_of.PublicMessage v) e shows none = absurd shows
other_message bytes (views.GroupInfo x) (message_of.PublicMessage v) e shows none = absurd shows
other_message bytes (views.KeyPackage x) (message_of.PublicMessage v) e shows none = absurd shows
other_message bytes view (message_of.Welcome v) e shows none = rw e refl
other_message bytes view (message_of.GroupInfo v) e shows none = rw e refl
other_message bytes view (message_of.KeyPackage v) e shows none = rw e refl

-- another message
pub other_sender : (bytes : List ℕ) (view : MessageView) → LendsAll mls_message input_limit Shows bytes view → ((x : PublicMessageView) → view ≢ views.PublicMessage x) → None ≡ sender_in (decode_message bytes)
other_sender bytes view lends none = other_message bytes view lends.value lends.is_read lends.shows none

-- ---- a member that was removed

pub gone_refuses : (c : Crypto) (m : Member) (bytes : List ℕ) → m.gone ≡ true → verdict c m bytes ≡ Err 40
unfolding verdict
gone_refuses c m bytes h = rw h refl
