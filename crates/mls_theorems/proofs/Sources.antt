-- What sources stand for has a spelling: bytes that are given are bytes, and so is each message of a world.
use Rattle.std.proofs.Common.{◌≡◌, ℕ, ◌<◌, ◌^◌, true, List, [], ◌∷◌, ◌++◌, length, Some, Ok, sym, subst, slice_get, arith, lit<}
use Rattle.std.specs.Prelude.{codes}
use Rattle.std.specs.Int.{w8, w16}
use Rattle.std.specs.List.{AllByRecursion}
use Rattle.std.proofs.lemmas.Bool.{and_parts}
use Rattle.mls_wire.specs.CheckLaws.{required}
use Rattle.mls_wire.proofs.CheckLaws.{bind_ok, given_ok, require_ok}
use Rattle.mls_wire.specs.Checks.{passed, require_some}
use Rattle.mls_wire.specs.Format.{IsBytes}
use Rattle.mls_wire.specs.Laws.{ok_is}
use Rattle.mls_wire.specs.Reading.{uint}
use Rattle.mls_kdf.proofs.Lengths.{length-ref_hash}
use Rattle.mls_leaf.specs.GroupExtensions.{are_allowed, group_extensions}
use Rattle.mls_leaf.proofs.GroupExtensionsLaws.{group_extensions-fits}
use Rattle.mls_leaf.specs.KeyPackage.{key_package}
use Rattle.mls_leaf.specs.Limits.{input_limit}
use Rattle.mls_leaf.specs.Proposal.{proposal}
use Rattle.mls_leaf.proofs.WholeLaws.{whole_takes}
use Rattle.mls_leaf.specs.declared.extension.Extension.{Extension}
use Rattle.mls_leaf.specs.declared.key_package.KeyPackage.{KeyPackage}
use Rattle.mls_leaf.specs.declared.proposal.Proposal.TheVariants as proposes
use Rattle.mls_types.specs.Commit.{proposal_or_ref}
use Rattle.mls_types.specs.Message.{mls_message}
use Rattle.mls_types.specs.Reference.{proposal_reference}
use Rattle.mls_types.specs.declared.commit.ProposalOrRef.{ProposalOrRef}
use Rattle.mls_types.specs.declared.commit.ProposalOrRef.TheVariants as listed
use Rattle.mls_types.specs.declared.message.MlsMessage.{MlsMessage}
use Rattle.mls_types.specs.declared.message.MlsMessage.TheVariants as message
use Rattle.mls_types.specs.declared.signed.SignedContent.{SignedContent}
use Rattle.mls_model.specs.declared.event.Source.{Source}
use Rattle.mls_model.specs.declared.event.Source.TheVariants.{Given, Message}
use Rattle.mls_model.specs.declared.event.WorldItem.{WorldItem}
use Rattle.mls_model.specs.declared.event.WorldItem.TheVariants.{RefOf, Add, Remove, Extensions}
use Rattle.mls_model.specs.Messages.{decode_message, require_within_limit, reference_of}
use Rattle.mls_model.specs.EventRange.{IsSourceInRange, IsItemInRange}
use Rattle.mls_model.specs.World.{World, bytes_of, package_in, package_of, proposal_of, item_of, items_of}
use Rattle.mls_theorems.proofs.Entered.{are_from}
use Rattle.mls_theorems.proofs.Fit.{short_last}
use Rattle.mls_theorems.specs.SentCommits.{ListedFitsIfShort}

-- ---- bytes

-- what is within the limit is bytes
pub bytes_within : (bytes : List ℕ) → require_within_limit bytes ≡ Ok passed → IsBytes bytes
unfolding require_within_limit
bytes_within bytes h = are_from bytes (and_parts _ _ (required _ _ _ h)).1

abbrev pub AllBytes : World → Type 0
AllBytes w = (n : ℕ) (bytes : List ℕ) → slice_get w.messages n ≡ Some bytes → IsBytes bytes

pub source_bytes : (w : World) (source : Source) (bytes : List ℕ) → AllBytes w → IsSourceInRange source → bytes_of w source ≡ Ok bytes → IsBytes bytes
source_bytes w (Given require_some) bytes all range h = subst IsBytes (ok_is require_some.items bytes h) range
source_bytes w (Message n) bytes all range h = all n bytes (given_ok 94 (slice_get w.messages n) bytes h)

-- ---- KeyPackages

package_is : (m : MlsMessage) (offered : KeyPackage) → package_in m ≡ Some offered → message.KeyPackage offered ≡ m
package_is (message.PublicMessage v) offered e = absurd cc
package_is (message.Welcome v) offered e = absurd cc
package_is (message.GroupInfo v) offered e = absurd cc
package_is (message.KeyPackage v) offered e = cc

whole_fits : (bytes : List ℕ) (m : MlsMessage) → IsBytes bytes → decode_message bytes ≡ Ok m → mls_message.Fits m
unfolding decode_message
whole_fits bytes m are h = (whole_takes mls_message input_limit bytes m are h).fits

package_inside : (offered : KeyPackage) → mls_message.Fits (message.KeyPackage offered) → key_package.Fits offered
unfolding mls_message
package_inside offered f = f.1

pub package_fits : (w : World) (source : Source) (offered : KeyPackage) → AllBytes w → IsSourceInRange source → package_of w source ≡ Ok offered → key_package.Fits offered
unfolding package_of
package_fits w source offered all range h =
    let s1 = bind_ok (bytes_of w source) _ _ h in
    let s2 = bind_ok (decode_message s1.0) _ _ s1.2 in
    let is : message.KeyPackage offered ≡ s2.0 = package_is s2.0 offered (given_ok 95 (package_in s2.0) offered s2.2) in
    package_inside offered (subst mls_message.Fits (sym is) (whole_fits s1.0 s2.0 (source_bytes w source s1.0 all range s1.1) s2.1))

-- ---- what a commit lists

short_reference : (bytes : List ℕ) → length (proposal_reference bytes) < 2 ^ 30
unfolding proposal_reference
short_reference bytes = let l = length-ref_hash (codes "MLS 1.0 Proposal Reference") bytes in omega (arith, l)

reference_fits : (v : SignedContent) → proposal_or_ref.Fits (listed.Reference (reference_of v))
unfolding proposal_or_ref reference_of
reference_fits v = (lit< tt, short_reference _)

add_fits : (offered : KeyPackage) → key_package.Fits offered → proposal_or_ref.Fits (listed.Proposal (proposes.Add offered))
unfolding proposal_or_ref proposal
add_fits offered f = (lit< tt, (lit< tt, f))

remove_fits : (leaf : ℕ) → leaf < 2 ^ 32 → proposal_or_ref.Fits (listed.Proposal (proposes.Remove leaf))
unfolding proposal_or_ref proposal
remove_fits leaf l = (lit< tt, (lit< tt, l))

pub extensions_fit : (list : List Extension) → are_allowed list ≡ true → ListedFitsIfShort (listed.Proposal (proposes.GroupContextExtensions list))
unfolding proposal_or_ref proposal
extensions_fit list may lt =
    let inner : length (uint w16 7 ++ group_extensions.spell list) < 2 ^ 30 = short_last (uint w8 1) (uint w16 7 ++ group_extensions.spell list) _ lt in
    (lit< tt, (lit< tt, group_extensions-fits list may (short_last (uint w16 7) (group_extensions.spell list) _ inner)))

item_fits : (w : World) (x : WorldItem) (y : ProposalOrRef) → AllBytes w → IsItemInRange x → item_of w x ≡ Ok y → ListedFitsIfShort y
item_fits w (RefOf source) y all range h = let s = bind_ok (proposal_of w source) _ _ h in λ _. subst proposal_or_ref.Fits (ok_is _ y s.2) (reference_fits s.0)
item_fits w (Add source) y all range h =
    let s = bind_ok (package_of w source) _ _ h in
    λ _. subst proposal_or_ref.Fits (ok_is _ y s.2) (add_fits s.0 (package_fits w source s.0 all range s.1))
item_fits w (Remove leaf) y all range h = λ _. subst proposal_or_ref.Fits (ok_is _ y h) (remove_fits leaf range)
item_fits w (Extensions list) y all range h =
    let s = require_ok 14 (are_allowed list.items) _ _ h in
    subst ListedFitsIfShort (ok_is _ y s.1) (extensions_fit list.items s.0)

pub items_fit : (w : World) (xs : List WorldItem) (list : List ProposalOrRef) → AllBytes w → AllByRecursion IsItemInRange xs → items_of w xs ≡ Ok list → AllByRecursion ListedFitsIfShort list
unfolding items_of
items_fit w [] list all range h = subst (AllByRecursion ListedFitsIfShort) (ok_is [] list h) tt
items_fit w (x ∷ xs) list all range h =
    let s = bind_ok (item_of w x) _ _ h in
    let t = bind_ok (items_of w xs) _ _ s.2 in
    subst (AllByRecursion ListedFitsIfShort) (ok_is (s.0 ∷ t.0) list t.2) (item_fits w x s.0 all range.0 s.1, items_fit w xs t.0 all range.1 t.1)
