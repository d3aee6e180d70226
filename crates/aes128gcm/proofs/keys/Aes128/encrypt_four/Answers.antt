use Rattle.std.proofs.Common.{rules, arith}
use Rattle.aes128gcm.proofs.LoadLemmas.{four_lists}
use Rattle.aes128gcm.specs.Aes.{cipher}
use Rattle.aes128gcm.proofs.keys.Aes128.encrypt_four.Goals as goal

pub returns : goal.returns
returns c =
    four_lists c.store.result (cipher c.args.self.now c.args.a.now) (cipher c.args.self.now c.args.b.now) (cipher c.args.self.now c.args.c.now) (cipher c.args.self.now c.args.d.now) (search rules)
    (c.store.ensures 0 (cipher c.args.self.now c.args.a.now) (omega arith) (c.encrypt_slices.ensures 0 c.args.self.now c.args.a.now (omega arith) (λ b i d hb h. rw (← c.self.view_is) (c.self.invariant b i d hb h)) c.load.ensures.first))
    (c.store.ensures 1 (cipher c.args.self.now c.args.b.now) (omega arith) (c.encrypt_slices.ensures 1 c.args.self.now c.args.b.now (omega arith) (λ b i d hb h. rw (← c.self.view_is) (c.self.invariant b i d hb h)) c.load.ensures.second))
    (c.store.ensures 2 (cipher c.args.self.now c.args.c.now) (omega arith) (c.encrypt_slices.ensures 2 c.args.self.now c.args.c.now (omega arith) (λ b i d hb h. rw (← c.self.view_is) (c.self.invariant b i d hb h)) c.load.ensures.third))
    (c.store.ensures 3 (cipher c.args.self.now c.args.d.now) (omega arith) (c.encrypt_slices.ensures 3 c.args.self.now c.args.d.now (omega arith) (λ b i d hb h. rw (← c.self.view_is) (c.self.invariant b i d hb h)) c.load.ensures.fourth))
