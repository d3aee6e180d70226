-- The list that a message has, by a view of it, and the references of a list under which nothing is kept.
use Rattle.std.proofs.Common.{◌≡◌, ℕ, ◌+◌, ◌<◌, ◌≤◌, List, [], ◌∷◌, ◌++◌, length, drop, filter_map, get_or, Option, Some, None, Result, Ok, Err, refl, sym, ap, subst, ◌∙◌, append_assoc}
use Rattle.std.specs.Prelude.{◌≢◌, IfOk, IfErr}
use Rattle.std.specs.List.{cons_option}
use Rattle.std.proofs.lemmas.List.{append-nil, drop_all}
use Rattle.mls_wire.specs.Combine.{vector}
use Rattle.mls_wire.specs.Whole.{whole}
use Rattle.mls_wire.specs.declared.WireError.TheVariants.{OutOfMemory}
use Rattle.mls_leaf.proofs.WholeLaws.{spells_same}
use Rattle.mls_leaf.specs.Limits.{input_limit}
use Rattle.mls_leaf.specs.declared.error.LeafError.{LeafError}
use Rattle.mls_leaf.specs.declared.error.LeafError.TheVariants.{Wire as in_wire}
use Rattle.mls_types.specs.Commit.{proposal_or_ref, proposal_or_ref_nonempty}
use Rattle.mls_types.specs.Message.{mls_message}
use Rattle.mls_types.specs.SignedParts.{content_of_body}
use Rattle.mls_types.specs.declared.commit.ProposalOrRef.{ProposalOrRef}
use Rattle.mls_types.specs.declared.message.MlsMessage.{MlsMessage}
use Rattle.mls_types.specs.declared.message.MlsMessage.TheVariants as message_of
use Rattle.mls_types.specs.declared.signed.SignedBody.{SignedBody}
use Rattle.mls_types.specs.declared.signed.SignedBody.TheVariants as body_of
use Rattle.mls_view.specs.declared.content.ContentView.{ContentView}
use Rattle.mls_view.specs.declared.content.ContentView.TheVariants as view_of
use Rattle.mls_view.specs.declared.message.MessageView.{MessageView}
use Rattle.mls_view.specs.declared.message.MessageView.TheVariants as views
use Rattle.mls_view.specs.declared.public_message.PublicMessageView.{PublicMessageView}
use Rattle.mls_view.specs.Shown.{Shows, ShowsContent}
use Rattle.mls_view.specs.Views.{LendsAll}
use Rattle.mls_model.specs.Messages.{decode_message}
use Rattle.mls_public_group.proofs.Rest.{here}
use Rattle.mls_member.specs.ListedProposals.{ReadsContentList, ReadsList, ReadsShownList, listed_in, message_list, public_message}
use Rattle.mls_member.specs.Received.{SpellsList}
use Rattle.mls_member.specs.declared.error.Refusal.{Refusal}
use Rattle.mls_member.specs.declared.message_list.MessageList.{MessageList}
use Rattle.mls_member.proofs.ContentLaws.{IsPublic}

-- ---- by content

pub application_lists : (body : SignedBody) (view : ContentView) (text : _) → view ≡ view_of.Application text → ShowsContent view (content_of_body body) → [] ≡ listed_in body
application_lists (body_of.Application t) view text is shows = refl
application_lists (body_of.Proposal p) view text is shows = refl
application_lists (body_of.Commit k tag) view text is shows = absurd (subst (λ (x : ContentView). ShowsContent x (content_of_body (body_of.Commit k tag))) is shows)

pub proposal_lists : (body : SignedBody) (view : ContentView) (part : _) → view ≡ view_of.Proposal part → ShowsContent view (content_of_body body) → [] ≡ listed_in body
proposal_lists (body_of.Application t) view part is shows = refl
proposal_lists (body_of.Proposal p) view part is shows = refl
proposal_lists (body_of.Commit k tag) view part is shows = absurd (subst (λ (x : ContentView). ShowsContent x (content_of_body (body_of.Commit k tag))) is shows)

commit_lists : (body : SignedBody) (view : ContentView) (part path : List ℕ) (mine : List ProposalOrRef) → view ≡ view_of.Commit part path → ShowsContent view (content_of_body body) → SpellsList mine part → mine ≡ listed_in body
commit_lists (body_of.Application t) view part path mine is shows spells = absurd (subst (λ (x : ContentView). ShowsContent x (content_of_body (body_of.Application t))) is shows)
commit_lists (body_of.Proposal p) view part path mine is shows spells = absurd (subst (λ (x : ContentView). ShowsContent x (content_of_body (body_of.Proposal p))) is shows)
commit_lists (body_of.Commit k tag) view part path mine is shows spells =
    spells_same (vector proposal_or_ref proposal_or_ref_nonempty) mine k.proposals part spells (subst (λ (x : ContentView). ShowsContent x (content_of_body (body_of.Commit k tag))) is shows).0

pub commit_reads : (view : ContentView) (part path : List ℕ) (result : Result (List ProposalOrRef) LeafError) → view ≡ view_of.Commit part path → IfOk result (λ k. SpellsList k part) → IfErr result (λ e. e ≡ in_wire OutOfMemory) → ReadsContentList view result
commit_reads view part path (Ok k) is spells memory = λ body shows. commit_lists body view part path k is shows spells
commit_reads view part path (Err e) is spells memory = memory

-- ---- bytes

pub public_reads : (bytes : List ℕ) (view : PublicMessageView) (result : Result MessageList Refusal) → IsPublic bytes view → ReadsShownList view result → ReadsList (message_list bytes) result
unfolding message_list public_message decode_message
public_reads bytes view result p h = rw p.is_read (h p.shown p.shows)

pub public_passes : (bytes : List ℕ) (view : PublicMessageView) (n : ℕ) → IsPublic bytes view → public_message bytes ≢ Err n
unfolding public_message decode_message
public_passes bytes view n p = rw p.is_read (λ e. cc e)

other_message : (bytes : List ℕ) (view : MessageView) (value : MlsMessage) → whole mls_message input_limit bytes ≡ Ok value → Shows view value → ((x : PublicMessageView) → view ≢ views.PublicMessage x) → (message_list bytes ≡ Err 41) × (public_message bytes ≡ Err 41)
unfolding message_list public_message decode_message
other_message bytes (views.PublicMessage x) value e shows none = absurd (none x refl)
other_message bytes (views.Welcome x) (message_of.PublicMessage v) e shows none = absurd shows
other_message bytes (views.GroupInfo x) (message_of.PublicMessage v) e shows none = absurd shows
other_message bytes (views.KeyPackage x) (message_of.PublicMessage v) e shows none = absurd shows
other_message bytes view (message_of.Welcome v) e shows none = (rw e refl, rw e refl)
other_message bytes view (message_of.GroupInfo v) e shows none = (rw e refl, rw e refl)
other_message bytes view (message_of.KeyPackage v) e shows none = (rw e refl, rw e refl)

pub other_lists : (bytes : List ℕ) (view : MessageView) → LendsAll mls_message input_limit Shows bytes view → ((x : PublicMessageView) → view ≢ views.PublicMessage x) → (message_list bytes ≡ Err 41) × (public_message bytes ≡ Err 41)
other_lists bytes view lends none = other_message bytes view lends.value lends.is_read lends.shows none

-- bytes that are no message
pub no_list : (bytes : List ℕ) (n : ℕ) → whole mls_message input_limit bytes ≡ Err n → (message_list bytes ≡ Err n) × (public_message bytes ≡ Err n)
unfolding message_list public_message decode_message
no_list bytes n e = (rw e refl, rw e refl)

-- ---- what is picked of a list, one after the other

-- all that is picked of a list is what is picked so far, and then what is picked of the rest
abbrev pub IsPicked : {A B : Type 0} → (A → Option B) → List A → List A → List B → Type 0
IsPicked f list rest picked = filter_map f list ≡ picked ++ filter_map f rest

picked_next : {A B : Type 0} (f : A → Option B) (list rest : List A) (x : A) (y : B) (picked : List B) → IsPicked f list (x ∷ rest) picked → f x ≡ Some y → IsPicked f list rest (picked ++ y ∷ [])
picked_next f list rest x y picked h e = h ∙ ap (λ o. picked ++ cons_option o (filter_map f rest)) e ∙ sym (append_assoc picked (y ∷ []) (filter_map f rest))

passed_next : {A B : Type 0} (f : A → Option B) (list rest : List A) (x : A) (picked : List B) → IsPicked f list (x ∷ rest) picked → f x ≡ None → IsPicked f list rest picked
passed_next f list rest x picked h e = h ∙ ap (λ o. picked ++ cons_option o (filter_map f rest)) e

pub is_picked : {A B : Type 0} (f : A → Option B) (list : List A) (i : ℕ) (x : A) (y : B) (picked : List B) → i < length list → x ≡ get_or list i x → IsPicked f list (drop i list) picked → Some y ≡ f x → IsPicked f list (drop (i + 1) list) (picked ++ y ∷ [])
is_picked f list i x y picked lt e h found = picked_next f list (drop (i + 1) list) x y picked (subst (λ l. IsPicked f list l picked) (here list i x lt e) h) (sym found)

pub is_passed : {A B : Type 0} (f : A → Option B) (list : List A) (i : ℕ) (x : A) (picked : List B) → i < length list → x ≡ get_or list i x → IsPicked f list (drop i list) picked → None ≡ f x → IsPicked f list (drop (i + 1) list) picked
is_passed f list i x picked lt e h none = passed_next f list (drop (i + 1) list) x picked (subst (λ l. IsPicked f list l picked) (here list i x lt e) h) (sym none)

pub all_picked : {A B : Type 0} (f : A → Option B) (list : List A) (i : ℕ) (picked : List B) → length list ≤ i → IsPicked f list (drop i list) picked → picked ≡ filter_map f list
all_picked f list i picked le h = sym (h ∙ ap (λ l. picked ++ filter_map f l) (drop_all i list le) ∙ append-nil picked)
