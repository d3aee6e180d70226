use Rattle.std.proofs.Common.{◌∙◌, ◌≡◌, ℕ, suc, ◌+◌, ◌<◌, List, [], ◌∷◌, ◌++◌, take, drop, length, slice_set, ap, sym, refl, length-drop, arith}
use Rattle.std.proofs.lemmas.Bool.{lt-ltb}
use Rattle.std.proofs.lemmas.List.{set_split}
use Rattle.mls_wire.specs.Reading.{header, opaque}
use Rattle.mls_wire.proofs.writer.put_short_header.Goals as goal

short_header : (n : ℕ) → n < 64 → header n ≡ n ∷ []
unfolding header
short_header n lt = rw (lt-ltb n 64 lt) refl

ended : (bytes : List ℕ) (start len : ℕ) → start < length bytes → len ≡ length (drop (1 + start) bytes) → len < 64 → slice_set bytes start len ≡ take start bytes ++ opaque (drop (1 + start) bytes)
ended bytes start len lt is short =
    let next : suc start ≡ 1 + start = omega arith in
    set_split bytes start len lt
    ∙ ap (λ (n : ℕ). take start bytes ++ (len ∷ drop n bytes)) next
    ∙ ap (λ (h : List ℕ). take start bytes ++ (h ++ drop (1 + start) bytes)) (sym (short_header len short) ∙ ap header is)

pub returns : goal.returns
returns c =
    let bytes = c.args.bytes.now.items in
    let start = c.args.start in
    let whole : start + 1 + c.args.len ≡ length bytes = omega (arith, c.requires.whole, c.args.bytes.now.ok.0) in
    let measured : c.args.len ≡ length (drop (1 + start) bytes) = omega (arith, whole, length-drop (1 + start) bytes) in
    (omega (arith, measured, c.requires.short), ended bytes start c.args.len (omega (arith, whole)) measured c.requires.short)
