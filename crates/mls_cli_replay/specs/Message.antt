-- What `mls replay --message N` prints: the message that has this number when all actions are done,
-- in hex digits.
use Rattle.std.specs.Prelude.{◌≡◌, ℕ, List, [], ◌∷◌, ◌++◌, codes, slice_get, Option, Some, None, Result, IfOk}
use Rattle.hex.specs.Hex.{encode_lower}
use Rattle.mls_suite.specs.Crypto.{Crypto}
use Rattle.mls_model.specs.World.{empty_world}
use Rattle.mls_cli_text.specs.Page.{Page, Prints, good, page_of, printout, refused}
use Rattle.mls_cli_text.specs.declared.page.Page as code
use Rattle.mls_cli_text.specs.declared.fault.Fault.{Fault}
use Rattle.mls_cli_recording.specs.declared.reading.Recorded.{Recorded}
use Rattle.mls_cli_replay.specs.Actions.{run_all}
use Rattle.mls_cli_replay.specs.Replay.{actions_of}
use Rattle.mls_cli_replay.specs.declared.message.Digits.{Digits}

-- the digits of a message, and a line feed
abbrev pub digits_text : List ℕ → List ℕ
digits_text message = encode_lower message ++ codes "\n"

-- a message, or `NoSuchMessage` (94)
abbrev pub page_on : Option (List ℕ) → Page (List ℕ)
page_on (Some message) = good (message ∷ [])
page_on None = refused 94

-- message n of the world that the actions leave from the empty one on
unfoldable pub message_page : Crypto → ℕ → List Recorded → Page (List ℕ)
message_page c n rs = page_on (slice_get (run_all c empty_world (actions_of rs)).messages n)

-- ---- of the code's ends

-- Where there is memory for it, the page of a message, or of its refusal, is made.
abbrev pub MakesDigits : {X : Type 0} → Option (List ℕ) → Result (code.Page Digits) X → Type 0
MakesDigits found result =
    IfOk result
    (λ (p : code.Page Digits). page_of (λ (d : Digits). d.message.now) p ≡ page_on found)

-- message n of the world that these actions leave is printed
abbrev pub PrintsFound : {O : Type 0} → (O → Option (List ℕ)) → O → O → Crypto → ℕ →
    List Recorded → Result ℕ Fault → Type 0
PrintsFound contents old new c n rs result =
    Prints (contents old) (contents new) result (printout digits_text (message_page c n rs))
