-- The numbers and names of what is refused of a private message.
use Rattle.std.specs.Prelude.{ℕ, List, codes}
use Rattle.mls_wire.specs.Names.{refusal_name}
use Rattle.mls_leaf.specs.Faults.{number_of as leaf_number_of}
use Rattle.mls_private_message.specs.declared.error.PrivateMessageError.{PrivateMessageError}
use Rattle.mls_private_message.specs.declared.error.PrivateMessageError.TheVariants.{Leaf, SenderDataUnreadable, ContentUnreadable, PaddingNotZero}

-- the number that the program answers
abbrev pub number_of : PrivateMessageError → ℕ
number_of (Leaf e) = leaf_number_of e
number_of SenderDataUnreadable = 113
number_of ContentUnreadable = 117
number_of PaddingNotZero = 118

-- the name, as it is printed
abbrev pub name_of : PrivateMessageError → List ℕ
name_of (Leaf e) = refusal_name (leaf_number_of e)
name_of SenderDataUnreadable = codes "SenderDataUnreadable"
name_of ContentUnreadable = codes "ContentUnreadable"
name_of PaddingNotZero = codes "PaddingNotZero"
