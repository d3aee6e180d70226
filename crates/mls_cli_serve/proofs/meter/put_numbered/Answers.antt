use Rattle.std.proofs.Common.{◌∙◌, List, ℕ, OnErr, OnOk, decimal, subst}
use Rattle.std.specs.Io.KnownBytes.{Appends}
use Rattle.mls_cli_text.specs.InputOutput.{AppendsPart}
use Rattle.mls_cli_serve.proofs.SaidPieces.{err_behind, err_front, ok_behind}
use Rattle.mls_cli_serve.proofs.meter.put_numbered.Goals as goal

pub returns-in_err-put-clause-part : goal.returns-in_err-put-clause-part
returns-in_err-put-clause-part g c =
    err_front c.from_residual.result (g.W.Write.contents c.args.out.now.writer) (g.W.Write.contents c.put.new.self.writer)
    c.args.text.now (decimal c.args.number) c.in_err-put.ensures.part

pub returns-clause-whole : goal.returns-clause-whole
returns-clause-whole g c =
    let digits = c.as_bytes.ensures.value ∙ c.format.ensures.text in
    let whole = subst (λ (text : List ℕ). OnOk c.put-2.result (Appends (g.W.Write.contents c.put.new.self.writer) (g.W.Write.contents c.put-2.new.self.writer) text)) digits
    c.put-2.ensures.whole in
    ok_behind c.put-2.result (g.W.Write.contents c.args.out.now.writer) (g.W.Write.contents c.put.new.self.writer) (g.W.Write.contents c.put-2.new.self.writer)
    c.args.text.now (decimal c.args.number) c.in_ok-put.ensures.whole whole

pub returns-clause-part : goal.returns-clause-part
returns-clause-part g c =
    let digits = c.as_bytes.ensures.value ∙ c.format.ensures.text in
    let part = subst (λ (text : List ℕ). OnErr c.put-2.result (AppendsPart (g.W.Write.contents c.put.new.self.writer) (g.W.Write.contents c.put-2.new.self.writer) text)) digits
    c.put-2.ensures.part in
    err_behind c.put-2.result (g.W.Write.contents c.args.out.now.writer) (g.W.Write.contents c.put.new.self.writer) (g.W.Write.contents c.put-2.new.self.writer)
    c.args.text.now (decimal c.args.number) c.in_ok-put.ensures.whole part
