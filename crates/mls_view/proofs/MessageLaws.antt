-- What is made of views of whole messages.
use Rattle.std.proofs.Common.{◌≡◌, ℕ, List, true, Result, Ok, Err, ap, subst}
use Rattle.std.specs.Prelude.{◌≢◌, MatchResult}
use Rattle.mls_leaf.specs.declared.error.LeafError.{LeafError}
use Rattle.mls_leaf.specs.declared.key_package.KeyPackage as key_packages
use Rattle.mls_leaf.specs.Faults.{Spells, number_of}
use Rattle.mls_leaf.specs.KeyPackage.{key_package}
use Rattle.mls_leaf.specs.Limits.{input_limit}
use Rattle.mls_leaf.specs.WholeLaws.{is_input_fault}
use Rattle.mls_leaf.proofs.WholeLaws.{spells_same, is_input_answered}
use Rattle.mls_types.specs.GroupInfo.{group_info}
use Rattle.mls_types.specs.declared.group_info.GroupInfo as group_infos
use Rattle.mls_types.specs.ReadFaults.{mls_message_faults}
use Rattle.mls_types.specs.Message.{mls_message}
use Rattle.mls_types.specs.declared.message.MlsMessage.{MlsMessage}
use Rattle.mls_types.specs.declared.message.MlsMessage.TheVariants as sent
use Rattle.mls_view.specs.declared.message.MessageView.{MessageView}
use Rattle.mls_view.specs.declared.message.MessageView.TheVariants as views
use Rattle.mls_view.specs.Views.{LendsWhole}
use Rattle.mls_view.specs.Shown.{Shows}

-- the part of a message is the part of the one that its view shows
pub group_info_owned : (view : MessageView) (part : List ℕ) (v : group_infos.GroupInfo) (shown : MlsMessage) → view ≡ views.GroupInfo part → Spells group_info v part → Shows view shown → sent.GroupInfo v ≡ shown
group_info_owned view part v (sent.PublicMessage m) is spells shows = absurd (subst (λ (x : MessageView). Shows x (sent.PublicMessage m)) is shows)
group_info_owned view part v (sent.Welcome m) is spells shows = absurd (subst (λ (x : MessageView). Shows x (sent.Welcome m)) is shows)
group_info_owned view part v (sent.GroupInfo m) is spells shows = ap (λ (x : group_infos.GroupInfo). sent.GroupInfo x) (spells_same group_info v m part spells (subst (λ (x : MessageView). Shows x (sent.GroupInfo m)) is shows))
group_info_owned view part v (sent.KeyPackage m) is spells shows = absurd (subst (λ (x : MessageView). Shows x (sent.KeyPackage m)) is shows)

pub key_package_owned : (view : MessageView) (part : List ℕ) (v : key_packages.KeyPackage) (shown : MlsMessage) → view ≡ views.KeyPackage part → Spells key_package v part → Shows view shown → sent.KeyPackage v ≡ shown
key_package_owned view part v (sent.PublicMessage m) is spells shows = absurd (subst (λ (x : MessageView). Shows x (sent.PublicMessage m)) is shows)
key_package_owned view part v (sent.Welcome m) is spells shows = absurd (subst (λ (x : MessageView). Shows x (sent.Welcome m)) is shows)
key_package_owned view part v (sent.GroupInfo m) is spells shows = absurd (subst (λ (x : MessageView). Shows x (sent.GroupInfo m)) is shows)
key_package_owned view part v (sent.KeyPackage m) is spells shows = ap (λ (x : key_packages.KeyPackage). sent.KeyPackage x) (spells_same key_package v m part spells (subst (λ (x : MessageView). Shows x (sent.KeyPackage m)) is shows))

-- no fault is want of memory
pub never_memory : (bytes : List ℕ) (r : Result MessageView LeafError) → LendsWhole mls_message input_limit Shows bytes r → MatchResult r (λ view. Unit {0}) (λ e. number_of e ≢ 1)
never_memory bytes (Ok view) h = tt
never_memory bytes (Err e) h = λ one. let no : is_input_fault 1 ≡ true = subst (λ (n : ℕ). is_input_fault n ≡ true) one (is_input_answered mls_message input_limit mls_message_faults bytes (number_of e) h) in cc
