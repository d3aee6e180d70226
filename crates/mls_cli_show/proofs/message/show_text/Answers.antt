use Rattle.std.proofs.Common.{ℕ, List, length, Result, Ok, ap}
use Rattle.std.proofs.lemmas.Result.{err_from_is_err_and}
use Rattle.mls_wire.specs.Reading.{◌>>=◌}
use Rattle.mls_wire.specs.declared.WireError.TheVariants as wire
use Rattle.mls_leaf.specs.Faults.{Outright}
use Rattle.mls_leaf.specs.declared.error.LeafError.{LeafError}
use Rattle.mls_leaf.specs.declared.error.LeafError.TheVariants.{Wire, BadTag, UnsupportedCredential, UnsupportedProposal, NotRising, ExtensionNotAllowed}
use Rattle.mls_types.specs.declared.message.MlsMessage.{MlsMessage}
use Rattle.mls_cli_text.specs.Text.{Entry}
use Rattle.mls_cli_show.specs.declared.numbered.Detail.{Detail}
use Rattle.mls_cli_show.specs.Message.{shown_entries}
use Rattle.mls_cli_show.proofs.message.show_text.Goals as goal

-- what is shown of what is read
abbrev shown : Detail → List ℕ → Result MlsMessage ℕ → Result (List Entry) ℕ
shown detail bytes read = read >>= λ m. Ok (shown_entries detail (length bytes) m)

outright_shown : (detail : Detail) (bytes : List ℕ) (e : LeafError) (read : Result MlsMessage ℕ) → Outright read e → Outright (shown detail bytes read) e
outright_shown detail bytes (Wire wire.OutOfMemory) read out = (shown_entries detail (length bytes) out.0, ap (shown detail bytes) out.1)
outright_shown detail bytes (Wire wire.Truncated) read out = tt
outright_shown detail bytes (Wire wire.Trailing) read out = tt
outright_shown detail bytes (Wire wire.BadLength) read out = tt
outright_shown detail bytes (Wire wire.NotMinimal) read out = tt
outright_shown detail bytes (Wire wire.TooLong) read out = tt
outright_shown detail bytes BadTag read out = tt
outright_shown detail bytes UnsupportedCredential read out = tt
outright_shown detail bytes UnsupportedProposal read out = tt
outright_shown detail bytes NotRising read out = tt
outright_shown detail bytes ExtensionNotAllowed read out = tt

pub returns-in_err-message-clause-outright : goal.returns-in_err-message-clause-outright
returns-in_err-message-clause-outright c =
    let p = err_from_is_err_and c.from_residual.result c.from_residual.ensures.1 in
    rw (p.1, p.2) (outright_shown c.args.detail c.args.bytes.now c.in_err-message.field-0.0 _ c.in_err-message.ensures.outright)

pub returns-in_err-lines-clause-outright : goal.returns-in_err-lines-clause-outright
returns-in_err-lines-clause-outright c =
    let p = err_from_is_err_and c.from_residual-in_err-lines.result c.from_residual-in_err-lines.ensures.1 in
    rw (p.1, p.2) (shown_entries c.args.detail (length c.args.bytes.now) c.in_ok-message.message, ap (shown c.args.detail c.args.bytes.now) c.in_ok-message.ensures.exact)
