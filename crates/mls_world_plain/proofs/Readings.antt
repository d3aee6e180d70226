-- What bytes stand for, by a view of the message that they are.
use denote.Ref.{Bor}
use Rattle.std.proofs.lemmas.List.{length-append}
use Rattle.std.proofs.Math.Seq.{take-length}
use Rattle.std.proofs.Common.{◌≡◌, ℕ, ◌==◌, true, eqb-true, ◌∷◌, ◌-◌, length-drop, ◌≤◌, ◌^◌, List, [], ◌++◌, length, take, drop, Option, Some, None, Result, Ok, Err, refl, sym, ap, subst, ◌∙◌, arith}
use Rattle.std.specs.Prelude.{◌≢◌, IfOk, IfSome}
use Rattle.std.specs.Int.{w16}
use Rattle.mls_wire.specs.Reading.{uint}
use Rattle.mls_wire.specs.Format.{IsBytes}
use Rattle.mls_wire.specs.Whole.{whole}
use Rattle.mls_leaf.specs.Faults.{Spells, number_of}
use Rattle.mls_leaf.specs.declared.error.LeafError.{LeafError}
use Rattle.mls_leaf.specs.Limits.{input_limit}
use Rattle.mls_leaf.proofs.WholeLaws.{whole_takes, spells_same}
use Rattle.mls_leaf.specs.KeyPackage.{key_package}
use Rattle.mls_leaf.specs.Proposal.{proposal as proposal_format}
use Rattle.mls_leaf.specs.declared.key_package.KeyPackage.{KeyPackage}
use Rattle.mls_leaf.specs.declared.proposal.Proposal.{Proposal}
use Rattle.mls_leaf.specs.declared.proposal.Proposal.TheVariants as proposes
use Rattle.mls_types.specs.Message.{mls_message}
use Rattle.mls_types.specs.SignedParts.{content_of_body}
use Rattle.mls_types.specs.PublicMessage.{authenticated_content}
use Rattle.mls_types.specs.Reference.{proposal_reference}
use Rattle.mls_types.specs.declared.commit.ProposalOrRef.{ProposalOrRef}
use Rattle.mls_types.specs.declared.commit.ProposalOrRef.TheVariants as item_of
use Rattle.mls_types.specs.declared.message.MlsMessage.{MlsMessage}
use Rattle.mls_types.specs.declared.message.MlsMessage.TheVariants as message_of
use Rattle.mls_types.specs.declared.public_message.PublicMessage.{PublicMessage}
use Rattle.mls_types.specs.declared.public_message.WireFormat.TheVariants as formats
use Rattle.mls_types.specs.declared.signed.SignedBody.{SignedBody}
use Rattle.mls_types.specs.declared.signed.SignedBody.TheVariants as body_of
use Rattle.mls_types.specs.declared.signed.SignedContent.{SignedContent}
use Rattle.mls_view.specs.declared.content.ContentView.{ContentView}
use Rattle.mls_view.specs.declared.content.ContentView.TheVariants as view_of
use Rattle.mls_view.specs.declared.message.MessageView.{MessageView}
use Rattle.mls_view.specs.declared.message.MessageView.TheVariants as views
use Rattle.mls_view.specs.declared.public_message.PublicMessageView.{PublicMessageView}
use Rattle.mls_view.specs.Shown.{Shows, ShowsPublic, ShowsContent}
use Rattle.mls_view.specs.Views.{LendsAll, LendsWhole}
use Rattle.mls_public_group.specs.Short.{IsBelow}
use Rattle.mls_public_group.specs.ShortProposal.{IsShortProposal}
use Rattle.mls_public_group.proofs.ShortProposal.{short_parts}
use Rattle.mls_model.specs.Messages.{decode_message, reference_of}
use Rattle.mls_model.specs.World.{if_proposal}
use Rattle.mls_model.specs.Journal.{names_in, list_in, list_of_body, list_of_message}
use Rattle.mls_model.specs.Member.{KeptProposal, kept_under, named_proposals}
use Rattle.mls_model.specs.Candidate.{package_message}
use Rattle.mls_public_group.proofs.Lengths.{last_within, length-uint16}
use Rattle.mls_member.proofs.LengthLaws.{within_limit}
use Rattle.mls_member.proofs.ContentLaws.{IsPublic}
use Rattle.mls_world_plain.specs.CommitItems.{AreNamesOf, IsList, IsListOfView, IsListOfMessage}
use Rattle.mls_world_plain.specs.Sources.{read_package, read_reference, reference_in}

-- ---- KeyPackages

pub record IsPackage (bytes part : List ℕ) : Type 0 where
  pub shown : KeyPackage
  pub is_read : whole mls_message input_limit bytes ≡ Ok (message_of.KeyPackage shown)
  pub spells : Spells key_package shown part

is_package : (bytes part : List ℕ) (value : MlsMessage) → whole mls_message input_limit bytes ≡ Ok value → Shows (views.KeyPackage part) value → IsPackage bytes part
is_package bytes part (message_of.PublicMessage v) e shows = absurd shows
is_package bytes part (message_of.Welcome v) e shows = absurd shows
is_package bytes part (message_of.GroupInfo v) e shows = absurd shows
is_package bytes part (message_of.KeyPackage v) e shows = record { shown = v; is_read = e; spells = shows }

pub package_of : (bytes : List ℕ) (view : MessageView) (part : List ℕ) → LendsAll mls_message input_limit Shows bytes view → view ≡ views.KeyPackage part → IsPackage bytes part
package_of bytes view part lends is = is_package bytes part lends.value lends.is_read (subst (λ (x : MessageView). Shows x lends.value) is lends.shows)

abbrev the_package : KeyPackage → Result KeyPackage ℕ
the_package k = Ok k

pub package_is : (bytes part : List ℕ) (k : KeyPackage) → IsPackage bytes part → Spells key_package k part → read_package bytes ≡ Ok k
unfolding read_package decode_message
package_is bytes part k p spells = rw p.is_read (ap (λ (x : KeyPackage). the_package x) (spells_same key_package p.shown k part p.spells spells))

message_spelled : (v : KeyPackage) → mls_message.spell (message_of.KeyPackage v) ≡ uint w16 1 ++ (uint w16 5 ++ key_package.spell v)
unfolding mls_message
message_spelled v = refl

-- it is no longer than an input
pub package_below : (bytes part : List ℕ) (k : KeyPackage) → IsBytes bytes → IsPackage bytes part → Spells key_package k part → IsBelow (2 ^ 27) key_package k
package_below bytes part k fits p spells =
    let same : p.shown ≡ k = spells_same key_package p.shown k part p.spells spells in
    let all : Spells mls_message (message_of.KeyPackage p.shown) bytes = whole_takes mls_message input_limit bytes (message_of.KeyPackage p.shown) fits p.is_read in
    let short : length bytes ≤ input_limit = within_limit mls_message input_limit bytes (message_of.KeyPackage p.shown) p.is_read in
    let inner : length (uint w16 1 ++ (uint w16 5 ++ key_package.spell p.shown)) ≤ input_limit = subst (λ (l : List ℕ). length l ≤ input_limit) (all.spelled ∙ message_spelled p.shown) short in
    let le : length (key_package.spell p.shown) ≤ input_limit = omega (arith, inner, last_within (uint w16 1) (uint w16 5 ++ key_package.spell p.shown), last_within (uint w16 5) (key_package.spell p.shown)) in
    let lek : length (key_package.spell k) ≤ input_limit = subst (λ (x : KeyPackage). length (key_package.spell x) ≤ input_limit) same le in
    record { fits = spells.fits; below = omega (arith, lek) }

-- so the proposal that adds it is short
pub item_added : (k : KeyPackage) → IsBelow (2 ^ 27) key_package k → IsShortProposal (proposes.Add k)
item_added k h = record { fits = h.fits; below = omega (arith, h.below) }

-- and so is one that is kept
pub kept_short : (o : Option (Bor Proposal)) → IfSome o (λ p. IsBelow (2 ^ 27) proposal_format p.now) → IfSome o (λ p. IsShortProposal p.now)
kept_short None h = h
kept_short (Some p) h = short_parts p.now (record { fits = h.fits; below = omega (arith, h.below) })

pub wider : (k : KeyPackage) → IsBelow (2 ^ 27) key_package k → IsBelow (2 ^ 28) key_package k
wider k h = record { fits = h.fits; below = omega (arith, h.below) }

other_package : (bytes : List ℕ) (view : MessageView) (value : MlsMessage) → whole mls_message input_limit bytes ≡ Ok value → Shows view value → ((x : List ℕ) → view ≢ views.KeyPackage x) → read_package bytes ≡ Err 95
unfolding read_package decode_message
other_package bytes (views.KeyPackage x) value e shows none = absurd (none x refl)
other_package bytes (views.PublicMessage x) (message_of.KeyPackage v) e shows none = absurd shows
other_package bytes (views.Welcome x) (message_of.KeyPackage v) e shows none = absurd shows
other_package bytes (views.GroupInfo x) (message_of.KeyPackage v) e shows none = absurd shows
other_package bytes view (message_of.PublicMessage v) e shows none = rw e refl
other_package bytes view (message_of.Welcome v) e shows none = rw e refl
other_package bytes view (message_of.GroupInfo v) e shows none = rw e refl

pub no_package : (bytes : List ℕ) (view : MessageView) → LendsAll mls_message input_limit Shows bytes view → ((x : List ℕ) → view ≢ views.KeyPackage x) → read_package bytes ≡ Err 95
no_package bytes view lends none = other_package bytes view lends.value lends.is_read lends.shows none

pub no_message : (bytes : List ℕ) (n : ℕ) → whole mls_message input_limit bytes ≡ Err n → (read_package bytes ≡ Err n) × (read_reference bytes ≡ Err n)
unfolding read_package read_reference decode_message
no_message bytes n e = (rw e refl, rw e refl)

-- ---- references

-- the reference that is taken over a signed content
abbrev taken : SignedContent → List ℕ
taken v = proposal_reference (authenticated_content.spell (record { wire_format = formats.PublicMessage; content = v }))

said : (v : SignedContent) (body : SignedBody) (view : ContentView) (part : List ℕ) → view ≡ view_of.Proposal part → ShowsContent view (content_of_body body) → if_proposal v body ≡ Some v
said v (body_of.Application t) view part is shows = absurd (subst (λ (x : ContentView). ShowsContent x (content_of_body (body_of.Application t))) is shows)
said v (body_of.Proposal p) view part is shows = refl
said v (body_of.Commit k tag) view part is shows = absurd (subst (λ (x : ContentView). ShowsContent x (content_of_body (body_of.Commit k tag))) is shows)

pub said_is : (view : PublicMessageView) (shown : PublicMessage) (part reference : List ℕ) → ShowsPublic view shown → view.content.content ≡ view_of.Proposal part → reference ≡ taken shown.content → reference_in shown.content ≡ Ok reference
unfolding reference_in reference_of
said_is view shown part reference shows is e = rw (said shown.content shown.content.body view.content.content part is shows.content.content, e) refl

unsaid : (v : SignedContent) (body : SignedBody) (view : ContentView) → ((x : List ℕ) → view ≢ view_of.Proposal x) → ShowsContent view (content_of_body body) → if_proposal v body ≡ None
unsaid v (body_of.Application t) view none shows = refl
unsaid v (body_of.Proposal p) (view_of.Proposal x) none shows = absurd (none x refl)
unsaid v (body_of.Proposal p) (view_of.Application x) none shows = absurd shows
unsaid v (body_of.Proposal p) (view_of.Commit x y) none shows = absurd shows
unsaid v (body_of.Commit k tag) view none shows = refl

pub unsaid_is : (view : PublicMessageView) (shown : PublicMessage) → ShowsPublic view shown → ((x : List ℕ) → view.content.content ≢ view_of.Proposal x) → reference_in shown.content ≡ Err 95
unfolding reference_in
unsaid_is view shown shows none = rw (unsaid shown.content shown.content.body view.content.content none shows.content.content) refl

pub public_reference : (bytes : List ℕ) (view : PublicMessageView) (p : IsPublic bytes view) → read_reference bytes ≡ reference_in p.shown.content
unfolding read_reference reference_in decode_message
public_reference bytes view p = rw p.is_read refl

other_reference : (bytes : List ℕ) (view : MessageView) (value : MlsMessage) → whole mls_message input_limit bytes ≡ Ok value → Shows view value → ((x : PublicMessageView) → view ≢ views.PublicMessage x) → read_reference bytes ≡ Err 95
unfolding read_reference decode_message
other_reference bytes (views.PublicMessage x) value e shows none = absurd (none x refl)
other_reference bytes (views.KeyPackage x) (message_of.PublicMessage v) e shows none = absurd shows
other_reference bytes (views.Welcome x) (message_of.PublicMessage v) e shows none = absurd shows
other_reference bytes (views.GroupInfo x) (message_of.PublicMessage v) e shows none = absurd shows
other_reference bytes view (message_of.KeyPackage v) e shows none = rw e refl
other_reference bytes view (message_of.Welcome v) e shows none = rw e refl
other_reference bytes view (message_of.GroupInfo v) e shows none = rw e refl

pub no_reference : (bytes : List ℕ) (view : MessageView) → LendsAll mls_message input_limit Shows bytes view → ((x : PublicMessageView) → view ≢ views.PublicMessage x) → read_reference bytes ≡ Err 95
no_reference bytes view lends none = other_reference bytes view lends.value lends.is_read lends.shows none

-- ---- lists of commits

listed : (body : SignedBody) (view : ContentView) (list path : List ℕ) → view ≡ view_of.Commit list path → ShowsContent view (content_of_body body) → IsList (Some list) (list_of_body body)
listed (body_of.Application t) view list path is shows = absurd (subst (λ (x : ContentView). ShowsContent x (content_of_body (body_of.Application t))) is shows)
listed (body_of.Proposal p) view list path is shows = absurd (subst (λ (x : ContentView). ShowsContent x (content_of_body (body_of.Proposal p))) is shows)
listed (body_of.Commit k tag) view list path is shows = (subst (λ (x : ContentView). ShowsContent x (content_of_body (body_of.Commit k tag))) is shows).0

pub list_is : (view : PublicMessageView) (list path : List ℕ) → view.content.content ≡ view_of.Commit list path → IsListOfView view (Some list)
list_is view list path is shown shows = listed shown.content.body view.content.content list path is shows.content.content

unlisted : (body : SignedBody) (view : ContentView) → ((x y : List ℕ) → view ≢ view_of.Commit x y) → ShowsContent view (content_of_body body) → IsList None (list_of_body body)
unlisted (body_of.Application t) view none shows = refl
unlisted (body_of.Proposal p) view none shows = refl
unlisted (body_of.Commit k tag) (view_of.Commit x y) none shows = absurd (none x y refl)
unlisted (body_of.Commit k tag) (view_of.Application x) none shows = absurd shows
unlisted (body_of.Commit k tag) (view_of.Proposal x) none shows = absurd shows

pub unlisted_is : (view : PublicMessageView) → ((x y : List ℕ) → view.content.content ≢ view_of.Commit x y) → IsListOfView view None
unlisted_is view none shown shows = unlisted shown.content.body view.content.content none shows.content.content

public_list : (view : PublicMessageView) (part : Option (List ℕ)) (value : MlsMessage) → IsListOfView view part → Shows (views.PublicMessage view) value → IsList part (list_of_message (Ok value))
public_list view part (message_of.PublicMessage v) h shows = h v shows
public_list view part (message_of.Welcome v) h shows = absurd shows
public_list view part (message_of.GroupInfo v) h shows = absurd shows
public_list view part (message_of.KeyPackage v) h shows = absurd shows

pub list_shown : (message : MessageView) (view : PublicMessageView) (part : Option (List ℕ)) → message ≡ views.PublicMessage view → IsListOfView view part → IsListOfMessage message part
list_shown message view part is h value shows = public_list view part value h (subst (λ (x : MessageView). Shows x value) is shows)

other_list : (message : MessageView) (value : MlsMessage) → ((x : PublicMessageView) → message ≢ views.PublicMessage x) → Shows message value → IsList None (list_of_message (Ok value))
other_list (views.PublicMessage x) value none shows = absurd (none x refl)
other_list (views.KeyPackage x) (message_of.PublicMessage v) none shows = absurd shows
other_list (views.Welcome x) (message_of.PublicMessage v) none shows = absurd shows
other_list (views.GroupInfo x) (message_of.PublicMessage v) none shows = absurd shows
other_list message (message_of.KeyPackage v) none shows = refl
other_list message (message_of.Welcome v) none shows = refl
other_list message (message_of.GroupInfo v) none shows = refl

pub no_list_shown : (message : MessageView) → ((x : PublicMessageView) → message ≢ views.PublicMessage x) → IsListOfMessage message None
no_list_shown message none value shows = other_list message value none shows

list_read : (bytes : List ℕ) (value : MlsMessage) → whole mls_message input_limit bytes ≡ Ok value → list_in bytes ≡ list_of_message (Ok value)
unfolding list_in decode_message
list_read bytes value e = rw e refl

list_whole : (bytes : List ℕ) (message : MessageView) (part : Option (List ℕ)) → LendsAll mls_message input_limit Shows bytes message → IsListOfMessage message part → IsList part (list_in bytes)
list_whole bytes message part lends h = subst (λ (l : List ProposalOrRef). IsList part l) (sym (list_read bytes lends.value lends.is_read)) (h lends.value lends.shows)

no_names : (kept : List KeptProposal) (list : List ProposalOrRef) → list ≡ [] → [] ≡ names_in kept list
unfolding names_in named_proposals
no_names kept list none = rw none refl

-- who keeps no proposal knows none that a list names
unnamed : (list : List ProposalOrRef) → [] ≡ names_in [] list
unfolding names_in named_proposals kept_under
unnamed [] = refl
unnamed (item_of.Proposal p ∷ xs) = unnamed xs
unnamed (item_of.Reference r ∷ xs) = unnamed xs

pub none_kept : (kept : List KeptProposal) (list : List ProposalOrRef) → (length kept == 0) ≡ true → [] ≡ names_in kept list
none_kept [] list e = unnamed list
none_kept (k ∷ ks) list e = let no : length (k ∷ ks) ≡ 0 = eqb-true (length (k ∷ ks)) 0 e in absurd (omega arith)

-- ---- what commits name

pub names_of_list : {A E : Type 0} (names : A → List (List ℕ)) (kept : List KeptProposal) (bytes part : List ℕ) (message : MessageView) (r : Result A E) → LendsAll mls_message input_limit Shows bytes message → IsListOfMessage message (Some part) → IfOk r (λ v. AreNamesOf kept part (names v))
    → IfOk r (λ v. names v ≡ names_in kept (list_in bytes))
names_of_list names kept bytes part message (Ok v) lends h named = named (list_in bytes) (list_whole bytes message (Some part) lends h)
names_of_list names kept bytes part message (Err e) lends h named = tt

pub no_names_shown : (kept : List KeptProposal) (bytes : List ℕ) (message : MessageView) → LendsAll mls_message input_limit Shows bytes message → IsListOfMessage message None → [] ≡ names_in kept (list_in bytes)
no_names_shown kept bytes message lends h = no_names kept (list_in bytes) (list_whole bytes message None lends h)

no_list_read : (bytes : List ℕ) (n : ℕ) → whole mls_message input_limit bytes ≡ Err n → list_in bytes ≡ []
unfolding list_in decode_message
no_list_read bytes n e = rw e refl

pub no_names_read : (kept : List KeptProposal) (bytes : List ℕ) (n : ℕ) → whole mls_message input_limit bytes ≡ Err n → [] ≡ names_in kept (list_in bytes)
no_names_read kept bytes n e = no_names kept (list_in bytes) (no_list_read bytes n e)

-- bytes that were read, and are no message
pub no_names_lent : (kept : List KeptProposal) (bytes : List ℕ) (r : Result MessageView LeafError) → ((v : MessageView) → r ≡ Ok v → ⊥) → LendsWhole mls_message input_limit Shows bytes r → [] ≡ names_in kept (list_in bytes)
no_names_lent kept bytes (Ok v) none lends = absurd (none v refl)
no_names_lent kept bytes (Err e) none lends = no_names_read kept bytes (number_of e) lends

-- ---- the message of a KeyPackage

pub package_behind : (k : KeyPackage) → drop 4 (package_message k) ≡ key_package.spell k
unfolding package_message mls_message uint
package_behind k = refl

pub package_long : (k : KeyPackage) → 4 ≤ length (package_message k)
unfolding package_message mls_message
package_long k = omega (arith, length-append (uint w16 1) (uint w16 5 ++ key_package.spell k), length-append (uint w16 5) (key_package.spell k), length-uint16 1, length-uint16 5)

pub package_rest : (m : List ℕ) (k : KeyPackage) → m ≡ package_message k → take (length m - 4) (drop 4 m) ≡ key_package.spell k
package_rest m k h =
    let e : length m - 4 ≡ length (drop 4 m) = sym (length-drop 4 m) in
    ap (λ (n : ℕ). take n (drop 4 m)) e ∙ take-length (drop 4 m) ∙ ap (λ (l : List ℕ). drop 4 l) h ∙ package_behind k
