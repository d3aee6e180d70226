use Rattle.std.proofs.Common.{◌∙◌, ◌≡◌, ℕ, ◌+◌, ◌-◌, ◌<◌, List, [], ◌∷◌, ◌++◌, take, drop, length, slice_set, slice_index, ap, sym, append_assoc, length-drop, arith}
use Rattle.std.proofs.lemmas.List.{take_more, length-take-le, set_at}
use Rattle.std.specs.List.{insert_slice}
use Rattle.mls_wire.specs.Reading.{header, opaque}
use Rattle.mls_wire.proofs.writer.put_header.Goals as goal

-- the byte at start, and bytes put behind it, give way to a header of which these are all but the first
headed : (bytes more : List ℕ) (start first : ℕ) → start < length bytes → slice_set (insert_slice bytes (start + 1) more) start first ≡ take start bytes ++ ((first ∷ more) ++ drop (1 + start) bytes)
headed bytes more start first lt =
    let before = take start bytes in
    let kept = slice_index bytes start in
    let rest = drop (start + 1) bytes in
    ap (λ (l : List ℕ). slice_set ((l ++ more) ++ rest) start first) (take_more bytes start 0 lt)
    ∙ ap (λ (l : List ℕ). slice_set l start first) (append_assoc (before ++ kept ∷ []) more rest ∙ append_assoc before (kept ∷ []) (more ++ rest))
    ∙ set_at before kept (more ++ rest) first start (length-take-le start bytes (omega arith))
    ∙ ap (λ (n : ℕ). before ++ ((first ∷ more) ++ drop n bytes)) (omega arith)

ended : (bytes more moved : List ℕ) (start first : ℕ) → start < length bytes → moved ≡ insert_slice bytes (start + 1) more → header (length (drop (1 + start) bytes)) ≡ first ∷ more → slice_set moved start first ≡ take start bytes ++ opaque (drop (1 + start) bytes)
ended bytes more moved start first lt e h =
    ap (λ (l : List ℕ). slice_set l start first) e ∙ headed bytes more start first lt
    ∙ ap (λ (l : List ℕ). take start bytes ++ (l ++ drop (1 + start) bytes)) (sym h)

pub returns-clause-ok : goal.returns-clause-ok
returns-clause-ok c =
    let bytes = c.args.bytes.now.items in
    let start = c.args.start in
    let more = c.parts-first.result.1.now in
    let first = c.parts-first.result.0 in
    let within : start < length bytes = omega (arith, c.requires, c.args.bytes.now.ok.0) in
    let measured : length (drop (1 + start) bytes) ≡ c.len.result - start - 1 = omega (arith, length-drop (1 + start) bytes, c.len.ensures, c.args.bytes.now.ok.0) in
    let spelled : header (length (drop (1 + start) bytes)) ≡ first ∷ more = ap header measured ∙ sym c.in_ok-header.ensures.1 ∙ c.parts-first.ensures in (
      omega (arith, measured, c.in_ok-header.ensures.0),
      ended bytes more c.insert.new.bytes.items start first within c.in_ok-insert.ensures.ok spelled,
    )
