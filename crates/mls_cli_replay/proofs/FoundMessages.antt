-- What is printed where a message was looked for.
use Rattle.std.proofs.Common.{◌≡◌, ◌∙◌, ℕ, List, Option, Result, Ok, Err, IsErr, inl, ap, subst}
use Rattle.std.specs.Prelude.{IfOk, slice_get}
use Rattle.std.specs.declared.alloc.AllocError.{AllocError}
use Rattle.std.proofs.KnownBytes.{Keeps-refl}
use Rattle.mls_suite.specs.Crypto.{Crypto}
use Rattle.mls_model.specs.World.{World}
use Rattle.mls_cli_text.specs.Page.{Page, Printout, Prints, page_of, printout}
use Rattle.mls_cli_text.specs.MadePage.{PrintsMade}
use Rattle.mls_cli_text.specs.declared.page.Page as code
use Rattle.mls_cli_text.specs.declared.fault.Fault.{Fault}
use Rattle.mls_cli_text.proofs.Pages.{made_prints}
use Rattle.mls_cli_recording.specs.declared.reading.Recorded.{Recorded}
use Rattle.mls_cli_replay.specs.Message.{digits_text, message_page, page_on}
use Rattle.mls_cli_replay.specs.declared.message.Digits.{Digits}

abbrev bytes_of : Digits → List ℕ
bytes_of d = d.message.now

-- the page of what was found in the last world is that of the message
pub found_prints : (c : Crypto) (n : ℕ) (rs : List Recorded) (v : World) {found : Option (List ℕ)} (made : Result (code.Page Digits) AllocError) (old new : Option (List ℕ)) (r : Result ℕ Fault)
    → page_on (slice_get v.messages n) ≡ message_page c n rs → found ≡ slice_get v.messages n → IfOk made (λ (p : code.Page Digits). page_of bytes_of p ≡ page_on found)
    → PrintsMade (λ (d : Digits). digits_text (bytes_of d)) old new made r → Prints old new r (printout digits_text (message_page c n rs))
found_prints c n rs v {found} made old new r is e page prints =
    made_prints digits_text bytes_of old new made r (message_page c n rs)
    (subst (λ (q : Page (List ℕ)). IfOk made (λ (p : code.Page Digits). page_of bytes_of p ≡ q)) (ap page_on e ∙ is) page) prints

-- where nothing is written, any page is cut
pub nothing_prints : (r : Result ℕ Fault) (a : Option (List ℕ)) (p : Printout) → IsErr r → Prints a a r p
nothing_prints (Ok x) a p err = cc
nothing_prints (Err e) a p err = inl (Keeps-refl a)
