use Rattle.std.proofs.Common.{◌<◌, ◌^◌, length, arith}
use Rattle.mls_member.proofs.SignedLengths.{input_short}
use Rattle.mls_member.proofs.member.Member.is_signed.Goals as goal

pub verify_with_label-requires-clause-content : goal.verify_with_label-requires-clause-content
verify_with_label-requires-clause-content g c =
    let h : length c.in_ok-input.input.items < 2 ^ 30 = input_short c.args.view.now c.self.inside.group.context c.context_bytes.result.now c.in_ok-input.input.items c.requires c.is_short.ensures.context c.context_bytes.ensures c.in_ok-input.ensures in
    omega (arith, h, c.deref.ensures.len)
