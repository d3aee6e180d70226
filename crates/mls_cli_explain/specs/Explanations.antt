-- What is told of each refusal, by its number: the sentence that the error displays, what is checked, and what can be done.
use Rattle.std.specs.Prelude.{ℕ, ◌==◌, nat_lt, if◌then◌else◌, List, [], ◌∷◌, codes, Option, Some, None}
use Rattle.mls_cli_explain.specs.declared.explanations.Explanation as code

pub record Told : Type 0 where
  pub sentence : List ℕ
  pub check : List ℕ
  pub advice : List ℕ

abbrev pub told : List ℕ → List ℕ → List ℕ → Told
told sentence check advice = record { sentence = sentence; check = check; advice = advice }

-- what is told of a number in a table
abbrev pub found_in : List (ℕ × Told) → ℕ → Option Told
found_in [] n = None
found_in (x ∷ xs) n = if x.0 == n then Some x.1 else found_in xs n

-- refusals of bytes
abbrev pub about_bytes : List (ℕ × Told)
about_bytes =
    (1, told (codes "out of memory") (codes "memory is asked for, and the system has none to give") (codes "close other programs, or give fewer members and messages"))
    ∷ (2, told (codes "the bytes end too early") (codes "each number, header and vector is whole") (codes "send the bytes again, whole; see that no line of a hex dump is missing"))
    ∷ (3, told (codes "bytes are left over") (codes "nothing stands behind the value") (codes "send one value alone; a tree is cut out of its extension first"))
    ∷ (4, told (codes "no length begins so") (codes "a length header doesn't begin with the bits 11 (RFC 9420, 2.1.2)") (codes "write lengths below 2^30 in one, two or four bytes"))
    ∷ (5, told (codes "a length has a shorter form") (codes "a length has its shortest header (RFC 9420, 2.1.2)") (codes "write lengths below 64 in one byte and below 16384 in two"))
    ∷ (6, told (codes "too long") (codes "inputs and made messages have at most 67108864 bytes") (codes "send less: fewer members, proposals or shorter identities"))
    ∷ (7, told (codes "an unknown tag") (codes "versions, wire formats and kinds are those of this profile") (codes "send version 1, and a message of another kind than PrivateMessage; a tree is for mls check"))
    ∷ []

-- refusals of texts and of what is read
abbrev pub about_texts : List (ℕ × Told)
about_texts =
    (8, told (codes "a text that isn't hex") (codes "a text is an even number of hex digits") (codes "give hex digits without blanks between them, as `xxd -p` and `tr -d '\\n'` do"))
    ∷ (9, told (codes "no JSON of the shape that is asked for") (codes "the file is JSON with just the keys of its kind") (codes "compare the keys with those of the project's formats, and give --suite as in the file"))
    ∷ (10, told (codes "the output is too long") (codes "HKDF is asked for at most 8160 bytes (RFC 5869, 2.3)") (codes "ask for fewer bytes"))
    ∷ (11, told (codes "an unsupported credential") (codes "a credential is of type 1, basic (RFC 9420, 5.3)") (codes "use basic credentials"))
    ∷ (12, told (codes "an unsupported proposal") (codes "a proposal is add, update, remove or group_context_extensions (RFC 9420, 12.1)") (codes "use these proposals alone"))
    ∷ (13, told (codes "entries do not rise") (codes "unmerged leaves rise strictly (RFC 9420, 7.1)") (codes "list each unmerged leaf once, the smallest first"))
    ∷ (14, told (codes "an extension is not allowed here") (codes "extensions stand only in a GroupInfo, as ratchet_tree, and in a group, of types from f000 on, each once") (codes "leave the other extensions out"))
    ∷ []

-- refusals of trees
abbrev pub about_trees : List (ℕ × Told)
about_trees =
    (20, told (codes "no tree has these nodes") (codes "leaves and parents alternate, the last node isn't blank, and the right half has a member (RFC 9420, 7.7)") (codes "send the nodes from the leftmost leaf to the last one that isn't blank"))
    ∷ (21, told (codes "the tree is full") (codes "a tree has at most 65536 leaves") (codes "remove members, or found a second group"))
    ∷ (22, told (codes "no member is at that leaf") (codes "the leaf that is named has a member") (codes "name a leaf that isn't blank; see the tree for those that are"))
    ∷ (23, told (codes "a list of unmerged leaves is wrong") (codes "an unmerged leaf is a member below its node, and each node between lists it (RFC 9420, 12.4.3.1)") (codes "the receiver drops the tree; the sender writes its lists anew"))
    ∷ (24, told (codes "a parent hash is wrong") (codes "each parent is parent-hash valid (RFC 9420, 7.9.2)") (codes "the receiver drops the message or the tree; the sender computes the hashes of its path anew"))
    ∷ (25, told (codes "two nodes have one encryption key") (codes "no two nodes have one encryption key (RFC 9420, 7.3)") (codes "the sender makes a fresh key"))
    ∷ (26, told (codes "two members have one signature key") (codes "no two members have one signature key (RFC 9420, 7.3)") (codes "the sender leaves one of both members out"))
    ∷ []

-- refusals of private paths and keys
abbrev pub about_paths : List (ℕ × Told)
about_paths =
    (30, told (codes "the path hasn't a key for each of its parents") (codes "a path has a node for each parent of the filtered direct path (RFC 9420, 7.6)") (codes "the sender makes its path anew, of the tree after the proposals"))
    ∷ (31, told (codes "a number of ciphertexts is wrong") (codes "a node of a path has a ciphertext for each node of its copath's resolution (RFC 9420, 7.6)") (codes "the sender seals anew, and not to members that this commit adds"))
    ∷ (32, told (codes "the path secret doesn't open") (codes "a ciphertext of the path opens under a key that the member holds (RFC 9420, 7.5)") (codes "the receiver asks for a Welcome; the sender seals to the keys of its tree"))
    ∷ (33, told (codes "a path secret of another length") (codes "a path secret has 32 bytes") (codes "the sender makes its path anew"))
    ∷ (34, told (codes "a path secret of another key") (codes "each derived key is the path's or the tree's, from a parent over a joiner on that doesn't list it (RFC 9420, 7.5 and 12.4.3.1)") (codes "the receiver drops the message; the sender derives its keys from the path secrets"))
    ∷ (35, told (codes "a private key is missing") (codes "a joiner is sent the key of each parent over it that doesn't list it") (codes "the committer puts the path secret into the Welcome"))
    ∷ (36, told (codes "a key is not fit for use") (codes "a public key is one that the suite takes") (codes "the sender makes a fresh key; of a tree, see that --suite is the group's"))
    ∷ []

-- refusals of messages
abbrev pub about_messages : List (ℕ × Told)
about_messages =
    (40, told (codes "the member was removed") (codes "a member that acts is in the group") (codes "join the group anew, by a Welcome"))
    ∷ (41, told (codes "no PublicMessage") (codes "a message to a group is a PublicMessage") (codes "send handshakes as PublicMessages"))
    ∷ (42, told (codes "another group") (codes "the message has the group's id") (codes "deliver the message to a member of its group"))
    ∷ (43, told (codes "another epoch") (codes "the message is of the member's epoch") (codes "deliver each commit once and in order; drop messages of earlier epochs"))
    ∷ (44, told (codes "the sender is no member") (codes "the leaf of the sender has a member") (codes "the receiver drops the message"))
    ∷ (45, told (codes "application data") (codes "the message is a proposal or a commit") (codes "keep application data apart"))
    ∷ (46, told (codes "a wrong membership tag") (codes "the tag is that of the epoch's membership key (RFC 9420, 6.2)") (codes "the receiver drops the message; the sender sees that it is in the same epoch and group"))
    ∷ []

-- refusals of signatures, kept messages and leaves
abbrev pub about_references : List (ℕ × Told)
about_references =
    (47, told (codes "the signature doesn't verify") (codes "the content is signed by the sender's leaf (RFC 9420, 6.1)") (codes "the receiver drops the message; the sender signs with the key of its leaf"))
    ∷ (48, told (codes "an own message that isn't kept") (codes "a message from the member's own leaf is one that it keeps") (codes "drop it; a member whose group follows such a commit is added anew"))
    ∷ (49, told (codes "the reference is taken") (codes "another kept proposal hasn't the reference") (codes "deliver the proposal that is there already"))
    ∷ (50, told (codes "the leaf has another source") (codes "a KeyPackage's leaf is of the source key_package, an update's update, a path's commit (RFC 9420, 7.3)") (codes "the sender makes a leaf for its place"))
    ∷ (51, told (codes "the leaf's signature does not verify") (codes "a leaf is signed by its own key, in a group for its group and index (RFC 9420, 7.3)") (codes "the receiver drops it; of a tree, see that --group and --suite are the group's"))
    ∷ (52, told (codes "the leaf lacks a capability") (codes "a leaf lists version 1, the group's suite and credential 1 (RFC 9420, 7.2)") (codes "the sender lists them; of a tree, see that --suite is the group's"))
    ∷ (53, told (codes "the leaf has another identity") (codes "a leaf replaces one of the same signature key and credential") (codes "remove the member, and add it under its new identity"))
    ∷ []

-- refusals of leaves and KeyPackages
abbrev pub about_key_packages : List (ℕ × Told)
about_key_packages =
    (54, told (codes "the leaf has the same key") (codes "a leaf replaces one with another encryption key (RFC 9420, 7.3)") (codes "the sender makes a fresh key"))
    ∷ (55, told (codes "the key package has another suite") (codes "a KeyPackage is of the group's suite (RFC 9420, 10.1)") (codes "ask the new member for a KeyPackage of the group's suite"))
    ∷ (56, told (codes "the key package's signature does not verify") (codes "a KeyPackage is signed by its leaf's key (RFC 9420, 10.1)") (codes "ask the new member for another KeyPackage"))
    ∷ (57, told (codes "the init key is the leaf's key") (codes "a KeyPackage's init key isn't its leaf's encryption key (RFC 9420, 10.1)") (codes "the new member makes two keys"))
    ∷ []

-- refusals of commits
abbrev pub about_commits : List (ℕ × Told)
about_commits =
    (60, told (codes "an unknown reference") (codes "each proposal that a commit names is kept") (codes "deliver the proposal before the commit"))
    ∷ (61, told (codes "the committer is updated") (codes "a commit doesn't update its committer by a proposal (RFC 9420, 12.2)") (codes "the committer sends a path instead"))
    ∷ (62, told (codes "the committer is removed") (codes "a commit doesn't remove its committer (RFC 9420, 12.2)") (codes "another member commits the removal"))
    ∷ (63, told (codes "one leaf is changed twice") (codes "no leaf is changed by two updates or removes (RFC 9420, 12.2)") (codes "the committer leaves one of both out"))
    ∷ (64, told (codes "a path is missing") (codes "a commit has a path, but where it only adds members (RFC 9420, 12.4)") (codes "the committer sends a path"))
    ∷ (65, told (codes "a wrong confirmation tag") (codes "the tag is that of the new epoch (RFC 9420, 6.1)") (codes "the receiver drops the message; both see that they were in one state"))
    ∷ []

-- refusals of epochs and pending commits
abbrev pub about_epochs : List (ℕ × Told)
about_epochs =
    (66, told (codes "no epoch comes after this one") (codes "the epoch is below 2^64 - 1") (codes "found a new group"))
    ∷ (67, told (codes "a commit is pending") (codes "a member has one commit of its own pending at most") (codes "deliver the commit to the member, or drop it"))
    ∷ (68, told (codes "two lists of extensions") (codes "a commit has one proposal of group_context_extensions at most (RFC 9420, 12.2)") (codes "the committer leaves one of both out"))
    ∷ []

-- refusals of Welcomes
abbrev pub about_welcomes : List (ℕ × Told)
about_welcomes =
    (70, told (codes "no Welcome") (codes "a candidate joins by a Welcome") (codes "deliver the Welcome that the committer made"))
    ∷ (71, told (codes "another suite") (codes "the Welcome and its group are of the candidate's suite") (codes "the candidate makes a KeyPackage of the group's suite; of a GroupInfo, give its --suite"))
    ∷ (72, told (codes "no entry for the candidate") (codes "the Welcome has an entry with the reference of the candidate's KeyPackage (RFC 9420, 12.4.3.1)") (codes "deliver the Welcome of the commit that added this KeyPackage"))
    ∷ (73, told (codes "the secrets can't be read") (codes "the entry opens under the init key, and is a GroupSecrets with secrets of 32 bytes") (codes "the committer seals to the init key of the KeyPackage"))
    ∷ (74, told (codes "a pre-shared key is asked for") (codes "the secrets name no pre-shared key") (codes "the committer leaves pre-shared keys out"))
    ∷ (75, told (codes "the GroupInfo can't be read") (codes "the GroupInfo opens under the welcome secret, and is one") (codes "the receiver asks for another Welcome"))
    ∷ []

-- refusals of the groups that are joined
abbrev pub about_joined_groups : List (ℕ × Told)
about_joined_groups =
    (76, told (codes "no ratchet tree") (codes "the GroupInfo has a ratchet_tree extension") (codes "the committer puts the tree into the GroupInfo"))
    ∷ (77, told (codes "a wrong tree hash") (codes "the tree's hash is that of the GroupContext (RFC 9420, 12.4.3.1)") (codes "the receiver asks for another Welcome"))
    ∷ (78, told (codes "a wrong signer") (codes "the signer's leaf has a member, which isn't the candidate") (codes "the receiver asks for another Welcome"))
    ∷ (79, told (codes "the GroupInfo's signature doesn't verify") (codes "the GroupInfo is signed by the signer's leaf (RFC 9420, 12.4.3.1)") (codes "the receiver asks for another Welcome"))
    ∷ (80, told (codes "the candidate isn't in the tree") (codes "a leaf of the tree is the candidate's (RFC 9420, 12.4.3.1)") (codes "the receiver asks for another Welcome"))
    ∷ []

-- refusals of worlds
abbrev pub about_worlds : List (ℕ × Told)
about_worlds =
    (90, told (codes "no such member") (codes "a member has the number") (codes "count members from 0, in the order of their creation and joining"))
    ∷ (91, told (codes "the candidate is spent") (codes "the candidate hasn't become a member") (codes "make another candidate"))
    ∷ (92, told (codes "no such candidate") (codes "a candidate has the number") (codes "count candidates from 0"))
    ∷ (93, told (codes "the candidate is repeated") (codes "no other candidate has the signature key of this seed") (codes "give another seed"))
    ∷ (94, told (codes "no such message") (codes "a message has the number") (codes "count messages from 0, a commit's before its Welcome's"))
    ∷ (95, told (codes "another kind of message") (codes "the bytes are a message of the kind that is asked for") (codes "give a KeyPackage's message to propose_add, a proposal's to a ref, a GroupInfo's to --group-info"))
    ∷ []

-- refusals of saved forms, with their names
abbrev pub names_of_saved_forms : List (ℕ × List ℕ)
names_of_saved_forms =
    (100, codes "OtherSuite")
    ∷ (101, codes "BadSecret")
    ∷ (102, codes "NotAMember")
    ∷ (103, codes "BadTreeHash")
    ∷ (104, codes "OtherKey") ∷ []

abbrev pub about_saved_forms : List (ℕ × Told)
about_saved_forms =
    (100, told (codes "saved of another suite") (codes "what was saved is of the suite that it is loaded under") (codes "load it under its own suite"))
    ∷ (101, told (codes "no saved secret") (codes "saved secrets and keys have 32 bytes, and no more keys are saved than a path has") (codes "load the bytes as they were saved"))
    ∷ (102, told (codes "no member at the saved leaf") (codes "a member is at the leaf of the one that was saved") (codes "load the bytes as they were saved"))
    ∷ (103, told (codes "a wrong hash of the saved tree") (codes "the tree's hash is that of the GroupContext") (codes "load the bytes as they were saved"))
    ∷ (104, told (codes "a wrong saved key") (codes "each private key that is due is there, no other is, and each is that of its public key (RFC 9420, 7.1)") (codes "load the bytes as they were saved"))
    ∷ []

-- refusals of application messages, with their names
abbrev pub names_of_application_messages : List (ℕ × List ℕ)
names_of_application_messages =
    (110, codes "RatchetSpent")
    ∷ (111, codes "OtherGroup")
    ∷ (112, codes "OtherEpoch")
    ∷ (113, codes "SenderDataUnreadable")
    ∷ (114, codes "SenderWithoutLeaf")
    ∷ (115, codes "GenerationTooFar")
    ∷ (116, codes "KeyUsed")
    ∷ (117, codes "ContentUnreadable")
    ∷ (118, codes "PaddingNotZero")
    ∷ (119, codes "BadMessageSignature") ∷ []

abbrev pub about_application_messages : List (ℕ × Told)
about_application_messages =
    (110, told (codes "no generation is left") (codes "the sender hasn't sent its generation 2^32 - 1 (RFC 9420, 9.1)") (codes "commit, and seal in the next epoch"))
    ∷ (111, told (codes "a message of another group") (codes "the message has the group's id") (codes "open the message in its own group"))
    ∷ (112, told (codes "a message of another epoch") (codes "the message is of the conversation's epoch") (codes "open the message with the conversation of its epoch"))
    ∷ (113, told (codes "the sender data can't be read") (codes "the sender data open, and are a leaf, a generation and a reuse guard (RFC 9420, 6.3.2)") (codes "the receiver drops the message"))
    ∷ (114, told (codes "the sender has no leaf") (codes "a member is at the sender's leaf (RFC 9420, 6.3.2)") (codes "the receiver drops the message"))
    ∷ (115, told (codes "the generation is too far ahead") (codes "at most 1000 generations of the sender's ratchet are passed over") (codes "open the messages between first"))
    ∷ (116, told (codes "the key was used") (codes "the generation's key wasn't used, and lies at most 1000 generations before the last one that was") (codes "open each message once, and none long after later ones"))
    ∷ (117, told (codes "the content doesn't open") (codes "the content opens under the key of its generation (RFC 9420, 6.3.1)") (codes "the receiver drops the message"))
    ∷ (118, told (codes "the padding isn't zero") (codes "each byte of the padding is 0 (RFC 9420, 6.3.1)") (codes "the receiver drops the message; the sender pads with zeros"))
    ∷ (119, told (codes "the message's signature doesn't verify") (codes "the content is signed by the sender's leaf (RFC 9420, 6.1)") (codes "the receiver drops the message; the sender signs with the key of its leaf"))
    ∷ []

-- each number is looked for in the table of its range
abbrev pub explanation : ℕ → Option Told
explanation n =
    if nat_lt n 8 then found_in about_bytes n
    else if nat_lt n 20 then found_in about_texts n
    else if nat_lt n 30 then found_in about_trees n
    else if nat_lt n 40 then found_in about_paths n
    else if nat_lt n 47 then found_in about_messages n
    else if nat_lt n 54 then found_in about_references n
    else if nat_lt n 60 then found_in about_key_packages n
    else if nat_lt n 66 then found_in about_commits n
    else if nat_lt n 70 then found_in about_epochs n
    else if nat_lt n 76 then found_in about_welcomes n
    else if nat_lt n 90 then found_in about_joined_groups n
    else if nat_lt n 100 then found_in about_worlds n
    else if nat_lt n 110 then found_in about_saved_forms n
    else found_in about_application_messages n

-- of the code's value
abbrev pub explanation_view : code.Explanation → Told
explanation_view e = told e.sentence.now e.check.now e.advice.now
