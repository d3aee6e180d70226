-- The numbers and names of what an exchange refuses.
use Rattle.std.specs.Prelude.{ℕ, List, codes}
use Rattle.mls_private_message.specs.Faults.{number_of as message_number_of, name_of as message_name_of}
use Rattle.mls_secret_tree.specs.Faults.{number_of as key_number_of, name_of as key_name_of}
use Rattle.mls_exchange.specs.declared.error.ExchangeError.{ExchangeError}
use Rattle.mls_exchange.specs.declared.error.ExchangeError.TheVariants.{Message, Key, RatchetSpent, OtherGroup, OtherEpoch, BadMessageSignature}

-- the number that the program answers
abbrev pub number_of : ExchangeError → ℕ
number_of (Message e) = message_number_of e
number_of (Key e) = key_number_of e
number_of RatchetSpent = 110
number_of OtherGroup = 111
number_of OtherEpoch = 112
number_of BadMessageSignature = 119

-- the name, as it is printed
abbrev pub name_of : ExchangeError → List ℕ
name_of (Message e) = message_name_of e
name_of (Key e) = key_name_of e
name_of RatchetSpent = codes "RatchetSpent"
name_of OtherGroup = codes "OtherGroup"
name_of OtherEpoch = codes "OtherEpoch"
name_of BadMessageSignature = codes "BadMessageSignature"
