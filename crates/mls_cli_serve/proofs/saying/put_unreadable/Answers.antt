use Rattle.std.proofs.Common.{◌++◌, List, ℕ, codes, subst}
use Rattle.std.specs.Io.KnownBytes.{Appends}
use Rattle.mls_cli_text.specs.InputOutput.{AppendsPart}
use Rattle.mls_cli_serve.proofs.SaidPieces.{err_behind, err_front, ok_behind}
use Rattle.mls_cli_serve.proofs.saying.put_unreadable.Goals as goal

pub returns-in_err-put-clause-part : goal.returns-in_err-put-clause-part
returns-in_err-put-clause-part g c =
    err_front c.from_residual.result (g.E.Write.contents c.args.err.now.writer) (g.E.Write.contents c.put.new.self.writer)
    (codes "mls: cannot read ") (c.args.file.now ++ codes "\n") c.in_err-put.ensures.part

pub returns-in_err-put-2-clause-part : goal.returns-in_err-put-2-clause-part
returns-in_err-put-2-clause-part g c =
    let r = c.from_residual-in_err-put-2.result in
    let part = subst (λ (text : List ℕ). AppendsPart (g.E.Write.contents c.put.new.self.writer) (g.E.Write.contents c.put-2.new.self.writer) text) c.as_bytes.ensures.value
    c.in_err-put-2.ensures.part in
    err_behind r (g.E.Write.contents c.args.err.now.writer) (g.E.Write.contents c.put.new.self.writer) (g.E.Write.contents c.put-2.new.self.writer)
    (codes "mls: cannot read ") (c.args.file.now ++ codes "\n") c.in_ok-put.ensures.whole
    (err_front r (g.E.Write.contents c.put.new.self.writer) (g.E.Write.contents c.put-2.new.self.writer) c.args.file.now (codes "\n") part)

pub returns-clause-whole : goal.returns-clause-whole
returns-clause-whole g c =
    let whole = subst (λ (text : List ℕ). Appends (g.E.Write.contents c.put.new.self.writer) (g.E.Write.contents c.put-2.new.self.writer) text) c.as_bytes.ensures.value
    c.in_ok-put-2.ensures.whole in
    ok_behind c.put-3.result (g.E.Write.contents c.args.err.now.writer) (g.E.Write.contents c.put.new.self.writer) (g.E.Write.contents c.put-3.new.self.writer)
    (codes "mls: cannot read ") (c.args.file.now ++ codes "\n") c.in_ok-put.ensures.whole
    (ok_behind c.put-3.result (g.E.Write.contents c.put.new.self.writer) (g.E.Write.contents c.put-2.new.self.writer) (g.E.Write.contents c.put-3.new.self.writer)
    c.args.file.now (codes "\n") whole c.put-3.ensures.whole)

pub returns-clause-part : goal.returns-clause-part
returns-clause-part g c =
    let whole = subst (λ (text : List ℕ). Appends (g.E.Write.contents c.put.new.self.writer) (g.E.Write.contents c.put-2.new.self.writer) text) c.as_bytes.ensures.value
    c.in_ok-put-2.ensures.whole in
    err_behind c.put-3.result (g.E.Write.contents c.args.err.now.writer) (g.E.Write.contents c.put.new.self.writer) (g.E.Write.contents c.put-3.new.self.writer)
    (codes "mls: cannot read ") (c.args.file.now ++ codes "\n") c.in_ok-put.ensures.whole
    (err_behind c.put-3.result (g.E.Write.contents c.put.new.self.writer) (g.E.Write.contents c.put-2.new.self.writer) (g.E.Write.contents c.put-3.new.self.writer)
    c.args.file.now (codes "\n") whole c.put-3.ensures.part)
