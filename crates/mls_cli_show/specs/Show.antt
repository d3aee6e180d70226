-- What `mls show` prints.
use Rattle.std.specs.Prelude.{ℕ, List, Option, Some, None}
use Rattle.mls_cli_text.specs.Form.{bytes_of_file}
use Rattle.mls_cli_text.specs.Page.{Page, page_on, refused}
use Rattle.mls_cli_text.specs.Text.{Entry}
use Rattle.mls_cli_text.specs.declared.form.Form.{Form}
use Rattle.mls_cli_show.specs.declared.numbered.Detail.{Detail}
use Rattle.mls_cli_show.specs.Message.{text_of}

-- a file without bytes, since it is no hex text, is refused with `NotHex` (8)
abbrev pub page_in : Detail → Option (List ℕ) → Page Entry
page_in detail None = refused 8
page_in detail (Some bytes) = page_on (text_of detail bytes)

-- what a file shows
unfoldable pub page_of : Detail → Form → List ℕ → Page Entry
page_of detail form text = page_in detail (bytes_of_file form text)
