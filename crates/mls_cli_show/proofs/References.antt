-- The parts of a message that its reference is of are shorter than an input.
use Rattle.std.proofs.Common.{◌≡◌, ℕ, ◌+◌, ◌≤◌, Bool, true, false, cond, List, ◌++◌, length, Result, Ok, Err, refl, sym, ap, subst, arith}
use Rattle.std.proofs.lemmas.Bool.{ltb-false}
use Rattle.std.proofs.lemmas.List.{length-append}
use Rattle.std.specs.Prelude.{nat_lt}
use Rattle.std.specs.Int.{w16}
use Rattle.mls_wire.specs.Format.{IsBytes}
use Rattle.mls_wire.specs.Reading.{uint, opaque}
use Rattle.mls_wire.specs.Whole.{whole}
use Rattle.mls_leaf.specs.KeyPackage.{key_package}
use Rattle.mls_leaf.specs.Limits.{input_limit}
use Rattle.mls_leaf.specs.declared.key_package.KeyPackage.{KeyPackage}
use Rattle.mls_leaf.proofs.WholeLaws.{whole_takes}
use Rattle.mls_types.specs.Content.{framed_content}
use Rattle.mls_types.specs.Message.{mls_message}
use Rattle.mls_types.specs.PublicMessage.{public_message}
use Rattle.mls_types.specs.Signed.{signed_content}
use Rattle.mls_types.specs.SignedParts.{framed_content_of, auth_data}
use Rattle.mls_types.proofs.SignedParts.{signed_content_spelled}
use Rattle.mls_types.specs.declared.message.MlsMessage.{MlsMessage}
use Rattle.mls_types.specs.declared.message.MlsMessage.TheVariants as message
use Rattle.mls_types.specs.declared.public_message.PublicMessage.{PublicMessage}
use Rattle.mls_view.specs.declared.message.MessageView.{MessageView}
use Rattle.mls_view.specs.declared.message.MessageView.TheVariants as views
use Rattle.mls_view.specs.declared.public_message.PublicMessageView.{PublicMessageView}
use Rattle.mls_view.specs.Shown.{Shows}
use Rattle.mls_view.specs.Views.{LendsAll}

-- ---- whole inputs

limited : {A : Type 0} (b : Bool) (r : Result A ℕ) (v : A) → cond b (Err 6) r ≡ Ok v → b ≡ false
limited true r v e = absurd cc
limited false r v e = refl

within_limit : (bytes : List ℕ) (v : MlsMessage) → whole mls_message input_limit bytes ≡ Ok v → length bytes ≤ input_limit
unfolding whole
within_limit bytes v e = ltb-false _ _ (limited (nat_lt input_limit (length bytes)) _ v e)

-- what a whole input spells is as short
spelled_within : (bytes : List ℕ) (v : MlsMessage) → IsBytes bytes → whole mls_message input_limit bytes ≡ Ok v → length (mls_message.spell v) ≤ input_limit
spelled_within bytes v fits e =
    let spells = whole_takes mls_message input_limit bytes v fits e in
    subst (λ (l : List ℕ). length l ≤ input_limit) spells.spelled (within_limit bytes v e)

-- ---- KeyPackages

package_spelled : (v : KeyPackage) → mls_message.spell (message.KeyPackage v) ≡ uint w16 1 ++ (uint w16 5 ++ key_package.spell v)
unfolding mls_message
package_spelled v = refl

package_within : (bytes part : List ℕ) (value : MlsMessage) → IsBytes bytes → whole mls_message input_limit bytes ≡ Ok value → Shows (views.KeyPackage part) value → length part ≤ input_limit
package_within bytes part (message.PublicMessage v) fits e shows = absurd shows
package_within bytes part (message.Welcome v) fits e shows = absurd shows
package_within bytes part (message.GroupInfo v) fits e shows = absurd shows
package_within bytes part (message.KeyPackage v) fits e shows =
    let all = spelled_within bytes (message.KeyPackage v) fits e in
    let same = ap (λ (l : List ℕ). length l) (package_spelled v) in
    let a = length-append (uint w16 1) (uint w16 5 ++ key_package.spell v) in
    let b = length-append (uint w16 5) (key_package.spell v) in
    let own : length (key_package.spell v) ≤ input_limit = omega (arith, all, same, a, b) in
    subst (λ (l : List ℕ). length l ≤ input_limit) (sym shows.spelled) own

-- the KeyPackage that a view has of all of the bytes
pub lent_package : (bytes part : List ℕ) (view : MessageView) → IsBytes bytes → LendsAll mls_message input_limit Shows bytes view → view ≡ views.KeyPackage part → length part ≤ input_limit
lent_package bytes part view fits lends is = package_within bytes part lends.value fits lends.is_read (subst (λ (x : MessageView). Shows x lends.value) is lends.shows)

-- ---- public messages

public_spelled : (v : PublicMessage) → mls_message.spell (message.PublicMessage v) ≡ uint w16 1 ++ (uint w16 1 ++ (signed_content.spell v.content ++ opaque v.membership_tag))
unfolding mls_message public_message
public_spelled v = refl

public_within : (bytes : List ℕ) (view : PublicMessageView) (value : MlsMessage) → IsBytes bytes → whole mls_message input_limit bytes ≡ Ok value → Shows (views.PublicMessage view) value → length view.framed_content.now + length view.auth_data.now ≤ input_limit
public_within bytes view (message.PublicMessage v) fits e shows =
    let all = spelled_within bytes (message.PublicMessage v) fits e in
    let same = ap (λ (l : List ℕ). length l) (public_spelled v) in
    let a = length-append (uint w16 1) (uint w16 1 ++ (signed_content.spell v.content ++ opaque v.membership_tag)) in
    let b = length-append (uint w16 1) (signed_content.spell v.content ++ opaque v.membership_tag) in
    let d = length-append (signed_content.spell v.content) (opaque v.membership_tag) in
    let parts = ap (λ (l : List ℕ). length l) (signed_content_spelled v.content) in
    let said = ap (λ (l : List ℕ). length l) shows.framed_content in
    let auth = ap (λ (l : List ℕ). length l) shows.auth_data in
    let g = length-append (framed_content.spell (framed_content_of v.content)) (auth_data v.content) in
    omega (arith, all, same, a, b, d, parts, said, auth, g)
public_within bytes view (message.Welcome v) fits e shows = absurd shows
public_within bytes view (message.GroupInfo v) fits e shows = absurd shows
public_within bytes view (message.KeyPackage v) fits e shows = absurd shows

-- the FramedContent and the FramedContentAuthData that a view has of all of the bytes
pub lent_public : (bytes : List ℕ) (view : PublicMessageView) (all : MessageView) → IsBytes bytes → LendsAll mls_message input_limit Shows bytes all → all ≡ views.PublicMessage view → length view.framed_content.now + length view.auth_data.now ≤ input_limit
lent_public bytes view all fits lends is = public_within bytes view lends.value fits lends.is_read (subst (λ (x : MessageView). Shows x lends.value) is lends.shows)
