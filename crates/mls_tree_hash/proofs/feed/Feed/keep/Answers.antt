use Rattle.std.proofs.Common.{◌∙◌, ◌+◌, ◌-◌, ◌++◌, List, ℕ, length, take, refl, ap, sym, arith}
use Rattle.std.proofs.lemmas.Slice.{take-put_mid}
use Rattle.mls_tree_hash.proofs.Waiting.{feeds_waiting}
use Rattle.mls_tree_hash.proofs.feed.Feed.keep.Goals as goal

pub returns : goal.returns
returns c =
    let f = c.args.self.now in
    let bytes = c.args.bytes.now in
    let written = c.copy_from_slice.new.self in
    let end = f.waiting + length bytes in
    feeds_waiting refl (take-put_mid f.waiting (end - f.waiting) f.block written end (ap (λ (l : List ℕ). f.waiting + length l) (sym c.copy_from_slice.ensures.after)) (omega arith) ∙ ap (λ (l : List ℕ). take f.waiting f.block ++ l) c.copy_from_slice.ensures.after)
