-- The pages of files: by which suite a tree is checked, and how a file that is too long is refused.
use Rattle.std.specs.Prelude.{ℕ, nat_lt, Bool, true, false, if◌then◌else◌, List, length}
use Rattle.mls_suite.specs.Crypto.{Crypto}
use Rattle.mls_suite.specs.Glass.{glass}
use Rattle.mls_suite_0001.specs.Suite0001.{suite_0001}
use Rattle.mls_cli_check.specs.Unchecked.{unchecked}
use Rattle.mls_cli_text.specs.Form.{file_limit}
use Rattle.mls_cli_text.specs.Page.{Page, refused}
use Rattle.mls_cli_text.specs.declared.form.Form.{Form}
use Rattle.mls_cli_serve.specs.declared.tasks.SuiteChoice.{SuiteChoice}
use Rattle.mls_cli_serve.specs.declared.tasks.SuiteChoice.TheVariants as choice

-- the suite of a group
abbrev pub crypto_of : SuiteChoice → Crypto
crypto_of choice.Glass = glass
crypto_of choice.Suite0001 = suite_0001

-- by which suite a tree is checked: signatures under suite 0001 are checked only where that is asked for
abbrev pub checking : SuiteChoice → Bool → Crypto
checking choice.Glass signatures = glass
checking choice.Suite0001 true = suite_0001
checking choice.Suite0001 false = unchecked

-- what is printed of a file whose page is this: the refusal `TooLong` (6) alone, where its text is too long
abbrev pub file_page : {E : Type 0} → Form → List ℕ → Page E → Page E
file_page form text page = if nat_lt (file_limit form) (length text) then refused 6 else page
