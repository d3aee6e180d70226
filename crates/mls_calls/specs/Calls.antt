-- What each call of the library for C does: what it makes, with what its handle holds then.
use Rattle.std.specs.Prelude.{◌≡◌, ◌≢◌, ℕ, ◌&&◌, List, length, Option, None, Some, option_map, Result, Ok, Err, MatchResult, if◌then◌else◌, nat_eq, nat_lt, not, get_or, slice_get, is_some, ◌^◌}
use Rattle.std.specs.Str.{is_utf8}
use Rattle.mls_wire.specs.Checks.{DoesAs, Answers, require_some}
use Rattle.mls_wire.specs.Combine.{vector}
use Rattle.mls_wire.specs.Reading.{◌>>=◌}
use Rattle.mls_wire.specs.Whole.{whole}
use Rattle.mls_kdf.specs.Kdf.{max_output}
use Rattle.mls_schedule.specs.Epoch.{export_secret as exported_secret}
use Rattle.mls_leaf.specs.GroupExtensions.{group_extensions}
use Rattle.mls_leaf.specs.Limits.{input_limit}
use Rattle.mls_leaf.specs.declared.extension.Extension.{Extension}
use Rattle.mls_leaf.specs.declared.key_package.KeyPackage.{KeyPackage}
use Rattle.mls_types.specs.Commit.{proposal_or_ref, proposal_or_ref_nonempty}
use Rattle.mls_types.specs.declared.commit.ProposalOrRef.{ProposalOrRef}
use Rattle.mls_types.specs.declared.message.MlsMessage.{MlsMessage}
use Rattle.mls_types.specs.declared.message.MlsMessage.TheVariants as message
use Rattle.mls_suite_0001.specs.Suite0001.{suite_0001}
use Rattle.mls_tree_model.specs.Term.{width}
use Rattle.mls_saved.specs.Member.{saved_member}
use Rattle.mls_exchange.specs.State.{State, member_at as sender_at}
use Rattle.mls_exchange.specs.MessagePlace.{MessagePlace, place_read}
use Rattle.mls_exchange.specs.Sealing.{seal_message}
use Rattle.mls_exchange.specs.Opening.{open_message}
use Rattle.mls_exchange.specs.Saved.{saved_exchange, saved_of as saved_exchange_of, FitsInput as FitsExchangeInput, RestoresAsWas, restore}
use Rattle.mls_exchange.specs.declared.open.Opened.{Opened}
use Rattle.mls_conversation.specs.Conversation.{conversation_of}
use Rattle.mls_candidate.specs.Saved.{save_candidate, load_candidate}
use Rattle.mls_model.specs.Candidate.{Candidate, new_candidate, create_group, package_message}
use Rattle.mls_model.specs.Join.{join_verdict}
use Rattle.mls_model.specs.Make.{commit_call}
use Rattle.mls_model.specs.Member.{Member, kept_under, without_pending}
use Rattle.mls_model.specs.Messages.{decode_message}
use Rattle.mls_model.specs.Propose.{propose_add, propose_update, propose_remove, propose_extensions}
use Rattle.mls_model.specs.Verdict.{verdict}
use Rattle.mls_model.specs.declared.effect.Effect.{Effect}
use Rattle.mls_model.specs.declared.effect.Effect.TheVariants.{Proposed, Known, Advanced, Removed}
use Rattle.mls_member.specs.Answers.{pending_message}
use Rattle.mls_member.specs.GroupMembers.{group_member}
use Rattle.mls_member.specs.KeptProposals.{kept_reference, without_kept}
use Rattle.mls_member.specs.KeptTogether.{kept_list}
use Rattle.mls_member.specs.ListedProposals.{missing_proposals}
use Rattle.mls_member.specs.Saved.{saved_of, load, FitsInput, LoadsAsWas}
use Rattle.mls_calls.specs.Faults.{number_of}
use Rattle.mls_calls.specs.Given.{Text}
use Rattle.mls_calls.specs.Names.{library_name}
use Rattle.mls_calls.specs.Shown.{Shown, nothing, bytes, candidate, member, conversation, shown, Fruits, fruits}
use Rattle.mls_calls.specs.declared.done.Done.{Done}
use Rattle.mls_calls.specs.declared.done.Fruit.{Fruit}
use Rattle.mls_calls.specs.declared.error.MisuseError.TheVariants.{NullHandle, OtherHandle, SeedLength, NotKeyPackage, BufferLength, NotLabel}
use Rattle.mls_calls.specs.declared.held.Held.{Held}
use Rattle.mls_calls.specs.declared.held.Held.TheVariants as held

-- what a call answers: what it makes with what its handle holds then, or the number of a refusal
abbrev pub Answer : Type 0
Answer = Result (Fruits × Shown) ℕ

-- The call does what the definition says. A refusal changes nothing, and its number is the
-- definition's, unless memory was refused.
abbrev pub Does : Answer → Shown → Done → Type 0
Does defined old done = DoesAs fruits (λ n. n) defined old (shown done.held) done.outcome

-- A call on a member or a conversation does what the definition says. A refusal changes nothing,
-- and its number is the definition's, unless memory was refused.
abbrev pub Changes : {S : Type 0} → Result (Fruits × S) ℕ → S → S → Result Fruit ℕ → Type 0
Changes defined old new outcome = DoesAs fruits (λ n. n) defined old new outcome

-- A call makes what the definition says, or refuses with its number, unless memory was refused.
abbrev pub Makes : Result Fruits ℕ → Result Fruit ℕ → Type 0
Makes defined outcome = Answers fruits (λ n. n) defined outcome

-- ---- what is given

unfoldable pub a_candidate : Shown → Result Candidate ℕ
a_candidate nothing = Err (number_of NullHandle)
a_candidate (bytes xs) = Err (number_of OtherHandle)
a_candidate (candidate k) = Ok k
a_candidate (member m) = Err (number_of OtherHandle)
a_candidate (conversation s) = Err (number_of OtherHandle)

unfoldable pub a_member : Shown → Result Member ℕ
a_member nothing = Err (number_of NullHandle)
a_member (bytes xs) = Err (number_of OtherHandle)
a_member (candidate k) = Err (number_of OtherHandle)
a_member (member m) = Ok m
a_member (conversation s) = Err (number_of OtherHandle)

unfoldable pub a_conversation : Shown → Result State ℕ
a_conversation nothing = Err (number_of NullHandle)
a_conversation (bytes xs) = Err (number_of OtherHandle)
a_conversation (candidate k) = Err (number_of OtherHandle)
a_conversation (member m) = Err (number_of OtherHandle)
a_conversation (conversation s) = Ok s

unfoldable pub some_bytes : Shown → Result (List ℕ) ℕ
some_bytes nothing = Err (number_of NullHandle)
some_bytes (bytes xs) = Ok xs
some_bytes (candidate k) = Err (number_of OtherHandle)
some_bytes (member m) = Err (number_of OtherHandle)
some_bytes (conversation s) = Err (number_of OtherHandle)

-- a member is taken out of what holds it, or there is none
abbrev pub TakesMember : Held → Result Member (Held × ℕ) → Type 0
TakesMember old result =
    MatchResult result (λ m. old ≡ held.Member m)
    (λ e. (e.0 ≡ old) × (a_member (shown old) ≡ Err e.1))

-- a conversation is taken out of what holds it, or there is none
abbrev pub TakesConversation : Held → Result State (Held × ℕ) → Type 0
TakesConversation old result =
    MatchResult result (λ s. old ≡ held.Conversation s)
    (λ e. (e.0 ≡ old) × (a_conversation (shown old) ≡ Err e.1))

-- a seed is 32 bytes
unfoldable pub a_seed : Text → Result (List ℕ) ℕ
a_seed given = given >>= λ s. if nat_eq (length s) 32 then Ok s else Err (number_of SeedLength)

-- a label is a text of at most 200 bytes
unfoldable pub a_label : Text → Result (List ℕ) ℕ
a_label given =
    given >>= λ xs.
    if not (nat_lt 200 (length xs)) && is_utf8 xs then Ok xs else Err (number_of NotLabel)

-- the length of an exported secret: `OutputTooLong` (10) it is too long
unfoldable pub an_output : ℕ → Result ℕ ℕ
an_output n = if nat_lt max_output n then Err 10 else Ok n

-- the extensions that bytes spell
unfoldable pub some_extensions : Text → Result (List Extension) ℕ
some_extensions given = given >>= λ xs. whole group_extensions input_limit xs

-- the list of a commit that bytes spell (RFC 9420, 12.4)
unfoldable pub some_proposals : Text → Result (List ProposalOrRef) ℕ
some_proposals given =
    given >>= λ xs. whole (vector proposal_or_ref proposal_or_ref_nonempty) input_limit xs

-- the KeyPackage of its message
unfoldable pub package_in : MlsMessage → Result KeyPackage ℕ
package_in (message.PublicMessage m) = Err (number_of NotKeyPackage)
package_in (message.Welcome w) = Err (number_of NotKeyPackage)
package_in (message.GroupInfo i) = Err (number_of NotKeyPackage)
package_in (message.KeyPackage k) = Ok k

unfoldable pub a_package : Text → Result KeyPackage ℕ
a_package given = given >>= λ xs. decode_message xs >>= package_in

-- ---- what is made

-- one handle
abbrev pub makes : Shown → Fruits
makes x = (Some x, None, 0)

-- bytes in one handle, if there are any
abbrev pub makes_if : Option (List ℕ) → Fruits
makes_if xs = (option_map bytes xs, None, 0)

-- a number
abbrev pub tells : ℕ → Fruits
tells n = (None, None, n)

-- what a message did: 1 a proposal is kept, 2 it was kept already, 3 a commit was followed, 4 it
-- removed the member
abbrev pub effect_number : Effect → ℕ
effect_number (Proposed reference) = 1
effect_number (Known reference) = 2
effect_number (Advanced epoch) = 3
effect_number Removed = 4

-- what a call on a member does
unfoldable pub on_member : Shown → (Member → Result (Fruits × Member) ℕ) → Answer
on_member held call = a_member held >>= λ m. call m >>= λ r. Ok (r.0, member r.1)

-- what a call on a conversation does
unfoldable pub on_conversation : Shown → (State → Result (Fruits × State) ℕ) → Answer
on_conversation held call = a_conversation held >>= λ s. call s >>= λ r. Ok (r.0, conversation r.1)

-- ---- names

-- the name of a refusal
abbrev pub refusal_name_of : Shown → ℕ → Answer
refusal_name_of held number = Ok (makes (bytes (library_name number)), held)

-- ---- calls on bytes

-- the length of bytes
unfoldable pub bytes_length : Shown → Answer
bytes_length held = some_bytes held >>= λ xs. Ok (tells (length xs), held)

-- the byte at an index: `BufferLength` (135) where there is none
unfoldable pub bytes_at : Shown → ℕ → Answer
bytes_at held index =
    some_bytes held >>= λ xs. if nat_lt index (length xs)
    then Ok (tells (get_or xs index 0), held) else Err (number_of BufferLength)

-- bytes that are copied into a buffer of exactly their length
unfoldable pub bytes_for : Shown → List ℕ → Result (List ℕ) ℕ
bytes_for held old =
    some_bytes held >>= λ xs.
    if nat_eq (length xs) (length old) then Ok xs else Err (number_of BufferLength)

-- the call answers 0 and copies, or answers the number of a refusal, and the buffer is as it was
abbrev pub Copies : Shown → List ℕ → List ℕ → ℕ → Type 0
Copies held old new answer =
    MatchResult (bytes_for held old) (λ xs. (answer ≡ 0) × (new ≡ xs))
    (λ n. (answer ≡ n) × (new ≡ old))

-- ---- calls on candidates

-- a candidate of an identity and a seed
unfoldable pub make_candidate : Text → Text → Result Fruits ℕ
make_candidate identity seed =
    identity >>= λ name. a_seed seed
    >>= λ s. new_candidate suite_0001 name s
    >>= λ k. Ok (makes (candidate k))

unfoldable pub candidate_new : Shown → Text → Text → Answer
candidate_new held identity seed = make_candidate identity seed >>= λ x. Ok (x, held)

-- the message of a candidate's KeyPackage
unfoldable pub make_package : Shown → Result Fruits ℕ
make_package held = a_candidate held >>= λ k. Ok (makes (bytes (package_message k.offered)))

unfoldable pub candidate_key_package : Shown → Answer
candidate_key_package held = make_package held >>= λ x. Ok (x, held)

-- the bytes that a candidate is saved as
unfoldable pub make_saved_candidate : Shown → Result Fruits ℕ
make_saved_candidate held =
    a_candidate held >>= λ k. save_candidate k >>= λ xs. Ok (makes (bytes xs))

unfoldable pub candidate_save : Shown → Answer
candidate_save held = make_saved_candidate held >>= λ x. Ok (x, held)

-- the candidate that was saved so
unfoldable pub make_loaded_candidate : Text → Result Fruits ℕ
make_loaded_candidate given =
    given >>= λ xs. load_candidate suite_0001 xs >>= λ k. Ok (makes (candidate k))

unfoldable pub candidate_load : Shown → Text → Answer
candidate_load held given = make_loaded_candidate given >>= λ x. Ok (x, held)

-- ---- calls that make members

-- the group of a candidate alone
unfoldable pub make_group : Shown → Text → Text → Result Fruits ℕ
make_group held group seed =
    a_candidate held >>= λ k. group >>= λ name. a_seed seed
    >>= λ s. create_group suite_0001 k name s
    >>= λ m. Ok (makes (member m))

unfoldable pub member_create : Shown → Text → Text → Answer
member_create held group seed = make_group held group seed >>= λ x. Ok (x, held)

-- the member that a Welcome makes of a candidate
unfoldable pub make_joiner : Shown → Text → Result Fruits ℕ
make_joiner held welcome =
    a_candidate held >>= λ k. welcome
    >>= λ xs. join_verdict suite_0001 k xs
    >>= λ j. Ok (makes (member j.member))

unfoldable pub member_join : Shown → Text → Answer
member_join held welcome = make_joiner held welcome >>= λ x. Ok (x, held)

-- the member that was saved so
unfoldable pub make_loaded_member : Text → Result Fruits ℕ
make_loaded_member given = given >>= λ xs. load suite_0001 xs >>= λ m. Ok (makes (member m))

unfoldable pub member_load : Shown → Text → Answer
member_load held given = make_loaded_member given >>= λ x. Ok (x, held)

-- ---- calls on members

-- the number of its epoch
unfoldable pub member_epoch : Shown → Answer
member_epoch held = a_member held >>= λ m. Ok (tells m.public.context.epoch, held)

-- the group's identifier
unfoldable pub make_group_id : Shown → Result Fruits ℕ
make_group_id held = a_member held >>= λ m. Ok (makes (bytes m.public.context.group_id))

unfoldable pub member_group_id : Shown → Answer
member_group_id held = make_group_id held >>= λ x. Ok (x, held)

-- what a message does to it
unfoldable pub follow_message : Text → Member → Result (Fruits × Member) ℕ
follow_message given m =
    given >>= λ xs. verdict suite_0001 m xs >>= λ r. Ok (tells (effect_number r.0), r.1)

unfoldable pub member_process : Shown → Text → Answer
member_process held given = on_member held (follow_message given)

-- what a message would do to it, and the member after it
abbrev pub shows_member : Effect → Member → Fruits
shows_member effect after = (Some (member after), None, effect_number effect)

unfoldable pub make_inspection : Shown → Text → Result Fruits ℕ
make_inspection held given = a_member held
    >>= λ m. given
    >>= λ xs. verdict suite_0001 m xs
    >>= λ r. Ok (shows_member r.0 r.1)

unfoldable pub member_inspect : Shown → Text → Answer
member_inspect held given = make_inspection held given >>= λ x. Ok (x, held)

-- the reference of the proposal that it keeps with a message, if it keeps one
unfoldable pub make_reference : Shown → Text → Result Fruits ℕ
make_reference held given =
    a_member held >>= λ m. given >>= λ xs. Ok (makes_if (kept_reference m xs))

unfoldable pub member_reference : Shown → Text → Answer
member_reference held given = make_reference held given >>= λ x. Ok (x, held)

-- the reference at an index of those that a commit names and the member lacks, if there is one
unfoldable pub make_missing_proposal : Shown → Text → ℕ → Result Fruits ℕ
make_missing_proposal held given index =
    a_member held >>= λ m. given >>= λ xs. missing_proposals m xs
    >>= λ missing. Ok (makes_if (slice_get missing index))

unfoldable pub member_missing_proposal : Shown → Text → ℕ → Answer
member_missing_proposal held given index =
    make_missing_proposal held given index >>= λ x. Ok (x, held)

-- the message of its pending commit, if it has one
unfoldable pub make_pending_commit : Shown → Result Fruits ℕ
make_pending_commit held = a_member held >>= λ m. Ok (makes_if (pending_message m))

unfoldable pub member_pending_commit : Shown → Answer
member_pending_commit held = make_pending_commit held >>= λ x. Ok (x, held)

-- it forgets the proposal that it keeps under a reference, and answers whether there was one: `PendingCommit` (67) while
-- a commit is pending
unfoldable pub forget_given : Text → Member → Result (Fruits × Member) ℕ
forget_given given m = given
    >>= λ xs. if is_some m.pending then Err 67
    else Ok (tells (if is_some (kept_under m.kept xs) then 1 else 0), without_kept m xs)

unfoldable pub member_forget_proposal : Shown → Text → Answer
member_forget_proposal held given = on_member held (forget_given given)

-- it proposes to add a KeyPackage
unfoldable pub propose_package : Text → Member → Result (Fruits × Member) ℕ
propose_package given m =
    a_package given >>= λ k. propose_add suite_0001 m k >>= λ r. Ok (makes (bytes r.0), r.1)

unfoldable pub member_propose_add : Shown → Text → Answer
member_propose_add held given = on_member held (propose_package given)

-- it proposes a new key for its leaf
unfoldable pub propose_key : Text → Member → Result (Fruits × Member) ℕ
propose_key seed m =
    a_seed seed >>= λ s. propose_update suite_0001 m s >>= λ r. Ok (makes (bytes r.0), r.1)

unfoldable pub member_propose_update : Shown → Text → Answer
member_propose_update held seed = on_member held (propose_key seed)

-- it commits a list, with a path where the number isn't 0: the commit, and the Welcome where
-- somebody is added
abbrev pub commits : Member → List ProposalOrRef → ℕ → List ℕ → Result (Fruits × Member) ℕ
commits m list path seed = commit_call suite_0001 m list (not (nat_eq path 0)) seed
    >>= λ r. Ok ((Some (bytes r.0.0), option_map bytes r.0.1, 0), r.1)

-- what it keeps
unfoldable pub commit_kept_list : ℕ → Text → Member → Result (Fruits × Member) ℕ
commit_kept_list path seed m = a_seed seed >>= λ s. commits m (kept_list m) path s

unfoldable pub member_commit_kept : Shown → ℕ → Text → Answer
member_commit_kept held path seed = on_member held (commit_kept_list path seed)

-- the list that bytes spell (RFC 9420, 12.4)
unfoldable pub commit_given_list : Text → ℕ → Text → Member → Result (Fruits × Member) ℕ
commit_given_list list path seed m =
    some_proposals list >>= λ xs. a_seed seed >>= λ s. commits m xs path s

unfoldable pub member_commit : Shown → Text → ℕ → Text → Answer
member_commit held list path seed = on_member held (commit_given_list list path seed)

-- a leaf's index is below 2^32: `NoSuchLeaf` (22) no leaf has a larger one
unfoldable pub a_leaf : ℕ → Result ℕ ℕ
a_leaf n = if nat_lt n (2 ^ 32) then Ok n else Err 22

-- it proposes to remove a leaf
unfoldable pub propose_removal : ℕ → Member → Result (Fruits × Member) ℕ
propose_removal leaf m =
    a_leaf leaf >>= λ n. propose_remove suite_0001 m n >>= λ r. Ok (makes (bytes r.0), r.1)

unfoldable pub member_propose_remove : Shown → ℕ → Answer
member_propose_remove held leaf = on_member held (propose_removal leaf)

-- it forgets its pending commit, and answers whether there was one
unfoldable pub forget_pending : Member → Result (Fruits × Member) ℕ
forget_pending m = Ok (tells (if is_some m.pending then 1 else 0), without_pending m)

unfoldable pub member_drop_pending : Shown → Answer
member_drop_pending held = on_member held forget_pending

-- the index of its leaf
unfoldable pub member_leaf_index : Shown → Answer
member_leaf_index held = a_member held >>= λ m. Ok (tells m.keys.leaf, held)

-- bytes and, where there are any, others, in handles, and a number
abbrev pub IsTwo : List ℕ → Option (List ℕ) → ℕ → Fruit → Type 0
IsTwo xs ys n f = fruits f ≡ (Some (bytes xs), option_map bytes ys, n)

-- what is made of a member that is saved, in a handle: the bytes that its saved form spells, by which a good member is
-- loaded as it was; or `TooLong` (6) where that has no spelling of an input's length; or `OutOfMemory`
abbrev pub SavesMember : Member → Result Fruit ℕ → Type 0
SavesMember m (Ok f) =
    FitsInput (saved_of m) × (fruits f ≡ makes (bytes (saved_member.spell (saved_of m))))
    × LoadsAsWas suite_0001 m (saved_member.spell (saved_of m))
SavesMember m (Err n) = n ≢ 1 → (n ≡ 6) × (FitsInput (saved_of m) → ⊥)

abbrev pub SavesIfMember : Result Member ℕ → Result Fruit ℕ → Type 0
SavesIfMember (Ok m) outcome = SavesMember m outcome
SavesIfMember (Err n) outcome = Makes (Err n) outcome

-- the member of a handle is saved, and the handle holds what it held
abbrev pub SavesHeld : Shown → Done → Type 0
SavesHeld old done = SavesIfMember (a_member old) done.outcome × (shown done.held ≡ old)

-- what is made of the extensions that a group carries, in a handle: the bytes that spell them, or `TooLong` (6) where
-- they have no spelling; or `OutOfMemory`
abbrev pub SpellsExtensions : List Extension → Result Fruit ℕ → Type 0
SpellsExtensions xs (Ok f) =
    group_extensions.Fits xs × (fruits f ≡ makes (bytes (group_extensions.spell xs)))
SpellsExtensions xs (Err n) = n ≢ 1 → (n ≡ 6) × (group_extensions.Fits xs → ⊥)

abbrev pub SpellsIfMember : Result Member ℕ → Result Fruit ℕ → Type 0
SpellsIfMember (Ok m) outcome = SpellsExtensions m.public.context.extensions outcome
SpellsIfMember (Err n) outcome = Makes (Err n) outcome

-- the extensions of the group of a handle's member are spelled, and the handle holds what it held
abbrev pub SpellsHeld : Shown → Done → Type 0
SpellsHeld old done = SpellsIfMember (a_member old) done.outcome × (shown done.held ≡ old)

-- the number of its leaves
unfoldable pub member_leaf_count : Shown → Answer
member_leaf_count held = a_member held >>= λ m. Ok (tells (width m.public.tree), held)

-- an identity and a signature key, each in a handle
abbrev pub identifies : List ℕ → List ℕ → Fruits
identifies identity key = (Some (bytes identity), Some (bytes key), 0)

abbrev pub TellsMember : List ℕ → List ℕ → Result Fruit ℕ → Type 0
TellsMember identity key outcome =
    MatchResult outcome (λ f. fruits f ≡ identifies identity key) (λ n. n ≡ 1)

-- those of the member at a leaf: `NoSuchLeaf` (22) there is none
unfoldable pub make_identity : Shown → ℕ → Result Fruits ℕ
make_identity held leaf = a_member held
    >>= λ m. a_leaf leaf
    >>= λ i. require_some 22 (group_member m.public.tree i)
    >>= λ g. Ok (identifies g.identity g.signature_key)

unfoldable pub member_at : Shown → ℕ → Answer
member_at held leaf = make_identity held leaf >>= λ x. Ok (x, held)

-- those of the client that a KeyPackage's message offers
unfoldable pub make_package_identity : Text → Result Fruits ℕ
make_package_identity given = a_package given
    >>= λ k. Ok (identifies k.leaf_node.credential.identity k.leaf_node.signature_key)

unfoldable pub key_package_identity : Shown → Text → Answer
key_package_identity held given = make_package_identity given >>= λ x. Ok (x, held)

-- a secret of n bytes, exported under a label and a context
unfoldable pub make_export : Shown → Text → Text → ℕ → Result Fruits ℕ
make_export held label context n = a_member held
    >>= λ m. a_label label
    >>= λ l. context
    >>= λ c. an_output n
    >>= λ k. Ok (makes (bytes (exported_secret m.epoch_secret l c k)))

unfoldable pub member_export : Shown → Text → Text → ℕ → Answer
member_export held label context n = make_export held label context n >>= λ x. Ok (x, held)

-- it proposes that the group carry these extensions
unfoldable pub propose_extension_list : Text → Member → Result (Fruits × Member) ℕ
propose_extension_list given m = some_extensions given
    >>= λ xs. propose_extensions suite_0001 m xs
    >>= λ r. Ok (makes (bytes r.0), r.1)

unfoldable pub member_propose_extensions : Shown → Text → Answer
member_propose_extensions held given = on_member held (propose_extension_list given)

-- the group's identifier and the epoch that a message says it is of
abbrev pub tells_place : MessagePlace → Fruits
tells_place p = (Some (bytes p.group_id), None, p.epoch)

unfoldable pub make_place : Text → Result Fruits ℕ
make_place given = given >>= λ xs. place_read xs >>= λ p. Ok (tells_place p)

unfoldable pub message_place : Shown → Text → Answer
message_place held given = make_place given >>= λ x. Ok (x, held)

-- ---- calls on conversations

-- the conversation of a member in its epoch
unfoldable pub make_conversation : Shown → Result Fruits ℕ
make_conversation held =
    a_member held >>= λ m. conversation_of m >>= λ s. Ok (makes (conversation s))

unfoldable pub conversation_new : Shown → Answer
conversation_new held = make_conversation held >>= λ x. Ok (x, held)

-- it seals data, with authenticated data and so many bytes of padding
unfoldable pub seal_data : Text → Text → ℕ → Text → State → Result (Fruits × State) ℕ
seal_data data_given authenticated padding seed s = data_given
    >>= λ xs. authenticated
    >>= λ ys. a_seed seed
    >>= λ r. seal_message suite_0001 s xs ys padding r
    >>= λ x. Ok (makes (bytes x.0), x.1)

unfoldable pub conversation_seal : Shown → ℕ → Text → Text → Text → Answer
conversation_seal held padding data_given authenticated seed =
    on_conversation held (seal_data data_given authenticated padding seed)

-- what was opened: the data, the authenticated data, and the sender's leaf
abbrev pub tells_data : Opened → Fruits
tells_data o = (Some (bytes o.application_data), Some (bytes o.authenticated_data), o.leaf_index)

-- it opens a message
unfoldable pub open_data : Text → State → Result (Fruits × State) ℕ
open_data given s = given >>= λ xs. open_message suite_0001 s xs >>= λ x. Ok (tells_data x.0, x.1)

unfoldable pub conversation_open : Shown → Text → Answer
conversation_open held given = on_conversation held (open_data given)

-- the identity and the signature key of the member at a leaf, by the tree of the conversation's epoch: `NoSuchLeaf` (22)
-- there is none
unfoldable pub make_sender_identity : Shown → ℕ → Result Fruits ℕ
make_sender_identity held leaf = a_conversation held
    >>= λ s. a_leaf leaf
    >>= λ i. require_some 22 (sender_at s.nodes i)
    >>= λ v. Ok (identifies v.credential.identity v.signature_key)

unfoldable pub conversation_member_at : Shown → ℕ → Answer
conversation_member_at held leaf = make_sender_identity held leaf >>= λ x. Ok (x, held)

-- what is made of a conversation that is saved, in a handle: the bytes that its saved form spells, by which one of its
-- epoch and leaf that used no key goes on as it was; or `TooLong` (6) where that has no spelling of an input's length; or
-- `OutOfMemory`
abbrev pub SavesConversation : State → Result Fruit ℕ → Type 0
SavesConversation s (Ok f) =
    FitsExchangeInput (saved_exchange_of s)
    × (fruits f ≡ makes (bytes (saved_exchange.spell (saved_exchange_of s))))
    × RestoresAsWas s (saved_exchange.spell (saved_exchange_of s))
SavesConversation s (Err n) = n ≢ 1 → (n ≡ 6) × (FitsExchangeInput (saved_exchange_of s) → ⊥)

abbrev pub SavesIfConversation : Result State ℕ → Result Fruit ℕ → Type 0
SavesIfConversation (Ok s) outcome = SavesConversation s outcome
SavesIfConversation (Err n) outcome = Makes (Err n) outcome

-- the conversation of a handle is saved, and the handle holds what it held
abbrev pub SavesHeldConversation : Shown → Done → Type 0
SavesHeldConversation old done =
    SavesIfConversation (a_conversation old) done.outcome × (shown done.held ≡ old)

-- it goes on with the keys that bytes hold, and nothing is made
unfoldable pub restore_keys : Text → State → Result (Fruits × State) ℕ
restore_keys given s = given >>= λ xs. restore s xs >>= λ x. Ok (tells 0, x.1)

unfoldable pub conversation_restore : Shown → Text → Answer
conversation_restore held given = on_conversation held (restore_keys given)
