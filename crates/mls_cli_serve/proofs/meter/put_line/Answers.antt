use Rattle.std.proofs.Common.{◌++◌, codes}
use Rattle.mls_cli_serve.specs.Meter.{numbered}
use Rattle.mls_cli_serve.proofs.SaidPieces.{err_behind, err_front, ok_behind}
use Rattle.mls_cli_serve.proofs.meter.put_line.Goals as goal

pub returns-in_err-put_numbered-clause-part : goal.returns-in_err-put_numbered-clause-part
returns-in_err-put_numbered-clause-part g c =
    err_front c.from_residual.result (g.W.Write.contents c.args.out.now.writer) (g.W.Write.contents c.put_numbered.new.out.writer)
    (numbered (codes "mls: ") c.args.done) (numbered (codes " of ") c.args.all ++ codes " events\n") c.in_err-put_numbered.ensures.part

pub returns-in_err-put_numbered-2-clause-part : goal.returns-in_err-put_numbered-2-clause-part
returns-in_err-put_numbered-2-clause-part g c =
    let r = c.from_residual-in_err-put_numbered-2.result in
    err_behind r (g.W.Write.contents c.args.out.now.writer) (g.W.Write.contents c.put_numbered.new.out.writer) (g.W.Write.contents c.put_numbered-2.new.out.writer)
    (numbered (codes "mls: ") c.args.done) (numbered (codes " of ") c.args.all ++ codes " events\n") c.in_ok-put_numbered.ensures.whole
    (err_front r (g.W.Write.contents c.put_numbered.new.out.writer) (g.W.Write.contents c.put_numbered-2.new.out.writer)
    (numbered (codes " of ") c.args.all) (codes " events\n") c.in_err-put_numbered-2.ensures.part)

pub returns-clause-whole : goal.returns-clause-whole
returns-clause-whole g c =
    ok_behind c.put.result (g.W.Write.contents c.args.out.now.writer) (g.W.Write.contents c.put_numbered.new.out.writer) (g.W.Write.contents c.put.new.self.writer)
    (numbered (codes "mls: ") c.args.done) (numbered (codes " of ") c.args.all ++ codes " events\n") c.in_ok-put_numbered.ensures.whole
    (ok_behind c.put.result (g.W.Write.contents c.put_numbered.new.out.writer) (g.W.Write.contents c.put_numbered-2.new.out.writer) (g.W.Write.contents c.put.new.self.writer)
    (numbered (codes " of ") c.args.all) (codes " events\n") c.in_ok-put_numbered-2.ensures.whole c.put.ensures.whole)

pub returns-clause-part : goal.returns-clause-part
returns-clause-part g c =
    err_behind c.put.result (g.W.Write.contents c.args.out.now.writer) (g.W.Write.contents c.put_numbered.new.out.writer) (g.W.Write.contents c.put.new.self.writer)
    (numbered (codes "mls: ") c.args.done) (numbered (codes " of ") c.args.all ++ codes " events\n") c.in_ok-put_numbered.ensures.whole
    (err_behind c.put.result (g.W.Write.contents c.put_numbered.new.out.writer) (g.W.Write.contents c.put_numbered-2.new.out.writer) (g.W.Write.contents c.put.new.self.writer)
    (numbered (codes " of ") c.args.all) (codes " events\n") c.in_ok-put_numbered-2.ensures.whole c.put.ensures.part)
