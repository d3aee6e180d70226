-- Which node or leaf breaks the rule of a ratchet tree that a file is refused by (RFC 9420, 7.3 and 12.4.3).
use Rattle.std.specs.Prelude.{◌≡◌, ◌==◌, ◌/◌, nat_lt, ℕ, Bool, true, false, if◌then◌else◌, List, length, Option, Some, None, option_map, option_and_then}
use Rattle.std.specs.Result.{result_ok}
use Rattle.hex.specs.Hex.{decode_of}
use Rattle.mls_wire.specs.Whole.{whole}
use Rattle.mls_leaf.specs.Limits.{input_limit}
use Rattle.mls_leaf.specs.declared.node.Node.{Node}
use Rattle.mls_suite.specs.Crypto.{Crypto}
use Rattle.mls_tree.specs.Tree.{max_leaves}
use Rattle.mls_tree_index.specs.declared.kind.KeyKind.TheVariants.{Encryption, Signature}
use Rattle.mls_tree_model.specs.Arrays.{from_nodes}
use Rattle.mls_tree_model.specs.Term.{Term, width}
use Rattle.mls_types.specs.GroupInfo.{ratchet_tree}
use Rattle.mls_types.specs.declared.group_info.GroupInfo.{GroupInfo}
use Rattle.mls_types.specs.Message.{mls_message}
use Rattle.mls_types.specs.declared.message.MlsMessage.{MlsMessage}
use Rattle.mls_types.specs.declared.message.MlsMessage.TheVariants as message
use Rattle.mls_cli_place.specs.declared.breach.Rule.{Rule}
use Rattle.mls_cli_place.specs.declared.breach.Rule.TheVariants as rule
use Rattle.mls_cli_place.specs.declared.parents.ParentRule.TheVariants as parent_rule
use Rattle.mls_cli_place.specs.declared.tree_place.TreePlace.{TreePlace}
use Rattle.mls_cli_place.specs.declared.tree_place.TreePlace.TheVariants as tree
use Rattle.mls_cli_place.specs.Parents.{first_sent}
use Rattle.mls_cli_place.specs.TreePlace.{IsFirstFailing, has_new_key, leaf_is_capable, leaf_is_signed, node_is_fit, node_stands}

-- the rule whose breach is refused with this number: the others are of whole trees, or of no tree
abbrev pub rule_of : ℕ → Option Rule
rule_of n =
    if n == 20 then Some rule.Places
    else if n == 23 then Some rule.Lists
    else if n == 24 then Some rule.Hashes
    else if n == 25 then Some rule.Keys
    else if n == 26 then Some rule.Clients
    else if n == 51 then Some rule.Signatures
    else if n == 52 then Some rule.Capabilities
    else if n == 36 then Some rule.KeyForms
    else None

-- the leaf whose node is node x (RFC 9420, appendix C)
abbrev pub leaf_below : ℕ → TreePlace
leaf_below x = tree.Leaf (x / 2)

-- the first of n numbers that fails a test, as a place
pub record IsFirstPlace (place : ℕ → TreePlace) (test : ℕ → Bool) (n : ℕ)
    (found : Option TreePlace) : Type 0 where
  pub number : Option ℕ
  pub is : found ≡ option_map place number
  pub first : IsFirstFailing test n number

-- of the members of a tree: whose signature isn't its own, or who lacks a capability
abbrev pub MemberBreach : Crypto → List ℕ → Bool → Option Term → Option TreePlace → Type 0
MemberBreach c group signed None found = found ≡ None
MemberBreach c group signed (Some t) found =
    IsFirstPlace tree.Leaf
    (if signed then leaf_is_signed c group t else leaf_is_capable c.number t) (width t) found

-- of the nodes that are sent
abbrev pub IsBreach : Crypto → List ℕ → List (Option Node) → Rule → Option TreePlace → Type 0
IsBreach c group xs rule.Places found = IsFirstPlace tree.Node (node_stands xs) (length xs) found
IsBreach c group xs rule.Lists found =
    found ≡ option_map tree.Node (first_sent parent_rule.Lists xs)
IsBreach c group xs rule.Hashes found =
    found ≡ option_map tree.Node (first_sent parent_rule.Hashes xs)
IsBreach c group xs rule.Keys found =
    IsFirstPlace tree.Node (has_new_key Encryption xs) (length xs) found
IsBreach c group xs rule.Clients found =
    IsFirstPlace leaf_below (has_new_key Signature xs) (length xs) found
IsBreach c group xs rule.Signatures found =
    MemberBreach c group true (result_ok (from_nodes max_leaves xs)) found
IsBreach c group xs rule.Capabilities found =
    MemberBreach c group false (result_ok (from_nodes max_leaves xs)) found
IsBreach c group xs rule.KeyForms found =
    IsFirstPlace tree.Node (node_is_fit c xs) (length xs) found

-- Where there are nodes and such a rule, the first place that breaks it is found, and else none.
abbrev pub FindsBreach : Crypto → List ℕ → Option Rule → Option (List (Option Node))
    → Option TreePlace → Type 0
FindsBreach c group None nodes found = found ≡ None
FindsBreach c group (Some rule) None found = found ≡ None
FindsBreach c group (Some rule) (Some xs) found = IsBreach c group xs rule found

-- ---- of files

-- the nodes that the bytes of a file spell, if it has bytes and they spell some
abbrev pub nodes_of : Option (List ℕ) → Option (List (Option Node))
nodes_of bytes =
    option_and_then (λ spelled. result_ok (whole ratchet_tree input_limit spelled)) bytes

-- the group's id that hex digits stand for, where they do and it isn't longer than an input
abbrev pub id_within : List ℕ → Option (List ℕ)
id_within id = if nat_lt input_limit (length id) then None else Some id

abbrev pub group_in : List ℕ → Option (List ℕ)
group_in text = option_and_then id_within (result_ok (decode_of text))

-- for the group with this id, if there is one
abbrev pub FindsFor : Crypto → Option (List ℕ) → Option Rule → Option (List (Option Node))
    → Option TreePlace → Type 0
FindsFor c None rule nodes found = found ≡ None
FindsFor c (Some group) rule nodes found = FindsBreach c group rule nodes found

-- the GroupInfo that a message is
abbrev pub info_in : MlsMessage → Option GroupInfo
info_in (message.GroupInfo info) = Some info
info_in (message.PublicMessage v) = None
info_in (message.Welcome v) = None
info_in (message.KeyPackage v) = None

abbrev pub spelled_info : List ℕ → Option GroupInfo
spelled_info spelled = option_and_then info_in (result_ok (whole mls_message input_limit spelled))

-- the GroupInfo that the bytes of a file spell, if it has bytes and they spell one
abbrev pub info_of : Option (List ℕ) → Option GroupInfo
info_of bytes = option_and_then spelled_info bytes

-- the one of two suites that its context names (RFC 9420, 8.1)
abbrev pub suite_among : Crypto → Crypto → GroupInfo → Option Crypto
suite_among c d info =
    if info.group_context.cipher_suite == c.number then Some c
    else if info.group_context.cipher_suite == d.number then Some d
    else None

-- for the group of its context
abbrev pub FindsUnder : GroupInfo → Option Rule → Option Crypto → Option TreePlace → Type 0
FindsUnder info rule None found = found ≡ None
FindsUnder info rule (Some c) found =
    FindsBreach c info.group_context.group_id rule info.ratchet_tree found

-- under the one of two suites that its context names
abbrev pub FindsInInfo : Crypto → Crypto → Option Rule → Option GroupInfo → Option TreePlace
    → Type 0
FindsInInfo c d rule None found = found ≡ None
FindsInInfo c d rule (Some info) found = FindsUnder info rule (suite_among c d info) found
