use Rattle.std.proofs.Common.{◌≡◌, ℕ, ◌+◌, ◌%◌, ◌^◌, List, [], get_or, refl, arith, ap}
use Rattle.std.proofs.Math.Nat.{mod-mod}
use Rattle.aes128gcm.specs.Aes.{cipher}
use Rattle.aes128gcm.specs.Parts.{count_block}
use Rattle.aes128gcm.proofs.gcm.stream_blocks.Goals as goal

counted : (key nonce made block : List ℕ) (n i j : ℕ) → made ≡ cipher key block → block ≡ count_block nonce n → n ≡ i % 2 ^ 32 → i ≡ j → made ≡ cipher key (count_block nonce j)
unfolding count_block
counted key nonce made block n i j m f e g = rw (m, f, e, mod-mod, g) refl

pub returns-clause-first : goal.returns-clause-first
returns-clause-first c =
    counted c.args.key.now c.args.nonce.now _ c.count_block-first.result c.count.result (c.args.i + 2) (c.args.i + 2)
    (ap (λ z. get_or z 0 []) c.encrypt_four.ensures) c.count_block-first.ensures c.count.ensures (omega arith)

pub returns-clause-second : goal.returns-clause-second
returns-clause-second c =
    counted c.args.key.now c.args.nonce.now _ c.count_block-second.result c.count-2.result (c.args.i + 1 + 2) (c.args.i + 3)
    (ap (λ z. get_or z 1 []) c.encrypt_four.ensures) c.count_block-second.ensures c.count-2.ensures (omega arith)

pub returns-clause-third : goal.returns-clause-third
returns-clause-third c =
    counted c.args.key.now c.args.nonce.now _ c.count_block-third.result c.count-3.result (c.args.i + 2 + 2) (c.args.i + 4)
    (ap (λ z. get_or z 2 []) c.encrypt_four.ensures) c.count_block-third.ensures c.count-3.ensures (omega arith)

pub returns-clause-fourth : goal.returns-clause-fourth
returns-clause-fourth c =
    counted c.args.key.now c.args.nonce.now _ c.count_block-fourth.result c.count-4.result (c.args.i + 3 + 2) (c.args.i + 5)
    (ap (λ z. get_or z 3 []) c.encrypt_four.ensures) c.count_block-fourth.ensures c.count-4.ensures (omega arith)
