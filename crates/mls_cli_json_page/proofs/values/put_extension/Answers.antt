use Rattle.std.proofs.Common.{◌∷◌, [], codes}
use Rattle.hex.specs.Hex.{encode_lower}
use Rattle.json.specs.Token.{begin_object, end_object, key, string}
use Rattle.mls_cli_text.specs.Text.{four_digits}
use Rattle.mls_cli_json_page.proofs.Writing.{behind, wrote}
use Rattle.mls_cli_json_page.proofs.values.put_extension.Goals as goal

pub returns : goal.returns
returns c =
    let q = c.end_object.result in
    let new = c.end_object.new.self in
    let kind = string (four_digits c.args.kind) in
    let content = string (encode_lower c.args.content.now) in
    let last = content ∷ end_object ∷ [] in
    let rest = kind ∷ key (codes "data") ∷ last in
    behind q c.args.writer.now c.begin_object.new.self new (begin_object ∷ []) (key (codes "type") ∷ rest) (c.in_ok-begin_object.ensures.ok, c.in_ok-begin_object.ensures.room.0)
    (behind q c.begin_object.new.self c.key.new.self new (key (codes "type") ∷ []) rest (c.in_ok-key.ensures.ok, c.in_ok-key.ensures.room.0)
    (behind q c.key.new.self c.put_digits.new.writer new (kind ∷ []) (key (codes "data") ∷ last) c.in_ok-put_digits.ensures
    (behind q c.put_digits.new.writer c.key-2.new.self new (key (codes "data") ∷ []) last (c.in_ok-key-2.ensures.ok, c.in_ok-key-2.ensures.room.0)
    (behind q c.key-2.new.self c.put_hex.new.writer new (content ∷ []) (end_object ∷ []) c.in_ok-put_hex.ensures
    (wrote q c.put_hex.new.writer new end_object c.end_object.ensures)))))
