-- The numbers of what is refused instead of a conversation.
use Rattle.std.specs.Prelude.{ℕ}
use Rattle.mls_conversation.specs.declared.error.ConversationError.{ConversationError}
use Rattle.mls_conversation.specs.declared.error.ConversationError.TheVariants.{OutOfMemory, TreeShape, Gone}

-- the number that the program answers
abbrev pub number_of : ConversationError → ℕ
number_of OutOfMemory = 1
number_of TreeShape = 20
number_of Gone = 40
