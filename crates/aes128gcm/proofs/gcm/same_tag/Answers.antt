use Rattle.std.proofs.Common.{◌∙◌, ap, arith, rules, add-one, sym}
use Rattle.aes128gcm.proofs.TagLemmas.{difference, difference_none, difference_more, same_tags}
use Rattle.aes128gcm.proofs.gcm.same_tag.Goals as goal

pub loop-i-init : goal.loop-i-init
loop-i-init c = difference_none c.args.a.now c.args.b.now

pub loop-i-preserved : goal.loop-i-preserved
loop-i-preserved c =
    difference_more c.args.a.now c.args.b.now c.loop-i.i c.loop-i.difference c.loop-i.invariant ∙ ap (difference c.args.a.now c.args.b.now) (sym (add-one c.loop-i.i))

pub returns : goal.returns
returns c = same_tags c.args.a.now c.args.b.now c.loop-i.difference c.loop-i.i (search rules) c.requires (omega arith) c.loop-i.invariant
