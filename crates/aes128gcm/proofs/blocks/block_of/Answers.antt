use Rattle.std.proofs.Common.{◌+◌, ◌*◌, ◌/◌, ◌%◌, ap, sym, ◌∙◌, get_or}
use Rattle.std.specs.Int.{w64, to_le_bytes}
use Rattle.aes128gcm.proofs.LoadLemmas.{joined_words, concat_words-even, concat_words-odd}
use Rattle.aes128gcm.proofs.blocks.block_of.Goals as goal

pub returns-clause-even : goal.returns-clause-even
returns-clause-even c m h =
    concat_words-even c.args.even c.args.odd m h ∙ ap (λ z. get_or (joined_words z (to_le_bytes w64 c.args.odd)) (8 * (m % 2) + m / 2) 0) (sym c.to_le_bytes.ensures)
    ∙ ap (λ z. get_or (joined_words c.to_le_bytes.result z) (8 * (m % 2) + m / 2) 0) (sym c.to_le_bytes-2.ensures)

pub returns-clause-odd : goal.returns-clause-odd
returns-clause-odd c m h =
    concat_words-odd c.args.even c.args.odd m h ∙ ap (λ z. get_or (joined_words z (to_le_bytes w64 c.args.odd)) (8 * (m % 2) + 4 + m / 2) 0) (sym c.to_le_bytes.ensures)
    ∙ ap (λ z. get_or (joined_words c.to_le_bytes.result z) (8 * (m % 2) + 4 + m / 2) 0) (sym c.to_le_bytes-2.ensures)
