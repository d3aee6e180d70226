-- What the calls of an exchange promise.
use Rattle.std.specs.Prelude.{◌≡◌, ℕ, List, Result, Err, IsErrAnd}
use Rattle.std.specs.Borrow.{Bor}
use Rattle.std.specs.Global.{Vec}
use Rattle.mls_wire.specs.Checks.{Answers, AnswersOutright, DoesAs, Passed, passed}
use Rattle.mls_leaf.specs.Faults.{number_of as number_of_leaf}
use Rattle.mls_leaf.specs.declared.error.LeafError.{LeafError}
use Rattle.mls_leaf.specs.declared.leaf.LeafNode.{LeafNode}
use Rattle.mls_suite.specs.Crypto.{Crypto}
use Rattle.mls_secret_tree.specs.declared.secrets.MessageKey.{MessageKey}
use Rattle.mls_secret_tree.specs.SecretTree.{Drafted}
use Rattle.mls_private_message.specs.declared.content.ReadContent.{ReadContent}
use Rattle.mls_private_message.specs.declared.private_message.PrivateMessage.{PrivateMessage}
use Rattle.mls_private_message.specs.declared.sender_data.SenderData.{SenderData}
use Rattle.mls_exchange.specs.declared.error.ExchangeError.{ExchangeError}
use Rattle.mls_exchange.specs.declared.open.Opened.{Opened}
use Rattle.mls_exchange.specs.declared.seal.Plain.{Plain}
use Rattle.mls_exchange.specs.State.{State, after_draft}
use Rattle.mls_exchange.specs.Sealing.{own_signature, own_content, message_under, seal_message, sealing_checks}
use Rattle.mls_exchange.specs.Opening.{place_at, arrival_checks, signature_check, data_of, open_here, open_message}
use Rattle.mls_exchange.specs.Saved.{restore}
use Rattle.mls_exchange.specs.Faults.{number_of}

-- A call answers what the definition does, or refuses with its number. Where memory was refused it says nothing.
abbrev pub Gives : {A : Type 0} → Result A ℕ → Result A ExchangeError → Type 0
Gives defined result = Answers (λ x. x) number_of defined result

-- It answers the bytes that the definition does.
abbrev pub GivesBytes : Result (List ℕ) ℕ → Result (Vec ℕ) ExchangeError → Type 0
GivesBytes defined result = Answers (λ v. v.items) number_of defined result

-- These checks pass, or it refuses with the number of the first that fails.
abbrev pub Passes : {A : Type 0} → Result Passed ℕ → Result A ExchangeError → Type 0
Passes defined result = Answers (λ _. passed) number_of defined result

-- These checks pass, or a call that takes no memory refuses with the number of the first that fails.
abbrev pub PassesOutright : {A : Type 0} → Result Passed ℕ → Result A ExchangeError → Type 0
PassesOutright defined result = AnswersOutright (λ _. passed) number_of defined result

-- What the definition refuses, the call refuses with that number, also when an allocation fails.
abbrev pub RefusesOutright : {A B : Type 0} → Result A ℕ → Result B ExchangeError → Type 0
RefusesOutright defined result = (n : ℕ) → defined ≡ Err n → IsErrAnd result (λ e. number_of e ≡ n)

-- ---- sealing and opening

-- the generation that a message takes
abbrev pub GivesGeneration : State → Plain → Result ℕ ExchangeError → Type 0
GivesGeneration s plain result =
    AnswersOutright (λ g. g) number_of
    (sealing_checks s plain.application_data.now plain.authenticated_data.now plain.padding) result

-- the own signature of the data
abbrev pub Signs : Crypto → State → Plain → Result (Vec ℕ) ExchangeError → Type 0
Signs c s plain result =
    GivesBytes (own_signature c s plain.application_data.now plain.authenticated_data.now) result

-- the content of the data, with the own signature and the padding
abbrev pub GivesContent : Crypto → State → Plain → Result (Vec ℕ) ExchangeError → Type 0
GivesContent c s plain result =
    GivesBytes
    (own_content c s plain.application_data.now plain.authenticated_data.now plain.padding) result

-- the message of a content under a key, with sender data and the authenticated data
abbrev pub GivesMessage : Crypto → State → MessageKey → SenderData → Plain → List ℕ →
    Result (Vec ℕ) ExchangeError → Type 0
GivesMessage c s key sender plain content result =
    GivesBytes (message_under c s key sender plain.authenticated_data.now content) result

-- sealing: data, authenticated data, padding, seed
abbrev pub Seals : Crypto → List ℕ → List ℕ → ℕ → List ℕ → State → State →
    Result (Vec ℕ) ExchangeError → Type 0
Seals c application_data authenticated_data padding seed old new result =
    DoesAs (λ v. v.items) number_of
    (seal_message c old application_data authenticated_data padding seed) old new result

abbrev pub RefusesSealing : State → List ℕ → List ℕ → ℕ → Result (Vec ℕ) ExchangeError → Type 0
RefusesSealing s application_data authenticated_data padding result =
    RefusesOutright (sealing_checks s application_data authenticated_data padding) result

-- the signature of a content that was read verifies by the sender's leaf
abbrev pub ChecksSignature : Crypto → State → PrivateMessage → ℕ → LeafNode → ReadContent →
    Result (Unit {0}) ExchangeError → Type 0
ChecksSignature c s m sender leaf content result =
    Passes (signature_check c s m sender leaf content.application_data.now content.signature.now)
    result

-- the data of a content
abbrev pub GivesData : Crypto → State → PrivateMessage → ℕ → LeafNode → List ℕ →
    Result (List ℕ) ExchangeError → Type 0
GivesData c s m sender leaf content result = Gives (data_of c s m sender leaf content) result

-- The call lends the group's identifier and the epoch at their place, or answers the first fault. It takes no memory.
abbrev pub LendsPlace : List ℕ → Result (Bor (List ℕ) × ℕ) LeafError → Type 0
LendsPlace bytes result = AnswersOutright (λ x. (x.0.now, x.1)) number_of_leaf (place_at bytes) result

-- what a message of the group and epoch says, with the draft of its key
abbrev pub OpensHere : Crypto → State → PrivateMessage → Result (Opened × Drafted) ExchangeError →
    Type 0
OpensHere c s m result = Answers (λ x. (x.0, after_draft s x.1)) number_of (open_here c s m) result

-- opening: the message's bytes
abbrev pub Opens : Crypto → List ℕ → State → State → Result Opened ExchangeError → Type 0
Opens c bytes old new result = DoesAs (λ o. o) number_of (open_message c old bytes) old new result

-- going on with saved keys: the bytes that hold them
abbrev pub Restores : List ℕ → State → State → Result (Unit {0}) ExchangeError → Type 0
Restores bytes old new result = DoesAs (λ _. passed) number_of (restore old bytes) old new result

abbrev pub RefusesArrival : State → List ℕ → Result Opened ExchangeError → Type 0
RefusesArrival s bytes result = RefusesOutright (arrival_checks s bytes) result
